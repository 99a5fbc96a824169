-- A table of which a file was written or cut, and its record changed.
use Rattle.std.proofs.Common.{◌≡◌, ℕ, nat_le, List, refl, sym, ap, subst, ◌∙◌, ◌+◌, ◌/◌, true, cond, nat_eq, arith}
use Rattle.std.specs.Prelude.{Some}
use Rattle.std.specs.Option.{option_map}
use Rattle.std.specs.BTreeMap as maps
use Rattle.std.specs.FinMap as fin
use Rattle.std.proofs.lemmas.Bool.Decides.{nat_tests}
use Rattle.fv_codec.specs.declared.inode.InodeRecord.{InodeRecord}
use Rattle.fv_model.specs.Trees.{least_levels}
use Rattle.fv_model.specs.Tables.{File, cut}
use Rattle.fv_laws.specs.WellFormed.{IsTree, IsWellTable}
use Rattle.fv_tables.specs.Spelled.{Under, stored}
use Rattle.fv_tables.specs.Told.{records_each, tree_told, cells_told, file_at, tree_or, tree_of, file_told, file_in, table_told}
use Rattle.fv_tables.proofs.Tables.{files_told}
use Rattle.fv_tree.specs.declared.kept.Tree.{Tree}
use Rattle.fv_tree.specs.Sources.{Shown}
use Rattle.fv_tree.specs.Standing.{standing, under}
use Rattle.fv_tree.specs.Writing.{IsAlike, Writes}
use Rattle.fv_tree.specs.Counting.{positions_of}
use Rattle.fv_tree.specs.Erasing.{Erases}
use Rattle.fv_tree.specs.Altering.{AltersHeld}
use Rattle.fv_tree.specs.Flushing.{changed_of, loaded}
use Rattle.fv_tree.specs.Beside.{LeadsTo, Spares}
use Rattle.fv_inode.specs.declared.info.Info.{Info}
use Rattle.fv_inode.specs.declared.file.InodeFile.{InodeFile}
use Rattle.fv_inode.specs.Files.{rooted, with_info}
use Rattle.fv_inode.specs.Changing.{Rewrites}
use Rattle.fv_inode.proofs.Alike.{rewrites_after}
use Rattle.fv_inode.proofs.Cuts.{cut_told}
use Rattle.fv_inode.proofs.Slots.{alike_files}
use Rattle.fv_files.specs.declared.files.Files.{Files}
use Rattle.fv_files.specs.Tables.{table_in, AreStanding, IsInfoOf}
use Rattle.fv_files.specs.Calls.{longer, shortened, Becomes, WritesCell, CutsFile, TakesByCut}
use Rattle.fv_files.proofs.Counted.{cut_counted}
use Rattle.fv_files.proofs.Looked.{Held}
use Rattle.fv_files.proofs.Steps.{Restates}
use Rattle.fv_files.proofs.Tables.{file_is, kept_known, wrote}
use Rattle.fv_files.proofs.Changed.{kept_inode, kept_others}

-- a rewrite says what the record says that was made for it
pub rewrites_as : (i j : InodeFile) (s : ℕ) (v w : Info) → v ≡ w → ((blocks : Under) → Rewrites (standing blocks i.tree) (standing blocks j.tree) v.number s (option_map (with_info v) (file_at (standing blocks i.tree) v.number)))
    → (blocks : Under) → Rewrites (standing blocks i.tree) (standing blocks j.tree) w.number s (option_map (with_info w) (file_at (standing blocks i.tree) w.number))
rewrites_as i j s v w same is blocks = subst (λ (x : Info). Rewrites (standing blocks i.tree) (standing blocks j.tree) x.number s (option_map (with_info x) (file_at (standing blocks i.tree) x.number))) same (is blocks)

-- a record got the numbers of an info
pub restates_as : (f : Files) (i : InodeFile) (s : ℕ) (v w : Info) → v ≡ w → ((blocks : Under) → Rewrites (standing blocks f.inode.tree) (standing blocks i.tree) v.number s (option_map (with_info v) (file_at (standing blocks f.inode.tree) v.number)))
    → AltersHeld f.inode.tree i.tree s → changed_of i.tree 0 (v.number / records_each) ≡ true → Restates f i w.number s (with_info w)
restates_as f i s v w same is alters marked =
    record { rewrites = rewrites_as f.inode i s v w same is; alters = alters; marked = ap (λ (x : Info). changed_of i.tree 0 (x.number / records_each)) (sym same) ∙ marked }

module _ (old new : Shown) (f : Files) (m : maps.BTreeMap ℕ Tree) (i : InodeFile) (info : Info) (s : ℕ) (t u : Tree) (becomes : Becomes f.trees m info.number t u) (is : IsInfoOf (rooted old f.inode) info) where
  abbrev h : Files
  h = record { inode = i; trees = m; alloc = f.alloc }

  -- A cell was written, by a call that left the map.
  pub written_table : (index : ℕ) (block : List ℕ) → new.held ≡ old.held
      → ((blocks : Under) → Rewrites (standing blocks f.inode.tree) (standing blocks i.tree) info.number s (option_map (with_info (longer info index)) (file_at (standing blocks f.inode.tree) info.number)))
      → Writes (standing (under old) t) (standing (under new) u) index s block → WritesCell (table_in old f) (table_in new h) info.number index s block
  written_table index block held rewrites writes =
      wrote (table_in old f) (table_in new h) info index s block is
      (subst (λ (h : Held). Rewrites (standing (λ v. fin.get h v) f.inode.tree) (rooted new i) info.number s (option_map (with_info (longer info index)) (file_at (standing (λ v. fin.get h v) f.inode.tree) info.number))) held (rewrites (under new)))
      (λ j v. fin.get (held j) v) (λ k differs j. option_map (standing (λ v. fin.get (held j) v)) (becomes.others k differs j)) (standing (under new) u)
      (ap (option_map (standing (under new))) becomes.now)
      (subst (λ x. Writes x (standing (under new) u) index s block) (sym (kept_known (under old) f info t becomes.was)) writes)

  -- ---- cells were removed, and their blocks went

  abbrev r : InodeRecord
  r = is.file

  tree_well : (now : ℕ) (file : File) → IsWellTable now (table_told (table_in old f)) → file_in (table_in old f) info.number ≡ Some file
      → IsTree now (least_levels r.reserve) (fin.keys (cells_told (tree_of (table_in old f) info.number r))) (tree_told (tree_of (table_in old f) info.number r))
  unfolding file_told
  tree_well now file well there =
      subst (λ (g : File). IsTree now (least_levels g.reserve) (fin.keys g.blocks) g.tree) (file_is (table_in old f) info.number r is.there file there)
      (well.files info.number file (files_told (table_in old f) info.number ∙ there)).tree

  module _ (sound : AreStanding old f) (spares : Spares old new (LeadsTo (loaded old t)) (LeadsTo (loaded new u))) (length start : ℕ) (start_is : start ≡ least_levels info.reserve)
      (rewrites : (blocks : Under) → Rewrites (standing blocks f.inode.tree) (standing blocks i.tree) info.number s (option_map (with_info (shortened info length)) (file_at (standing blocks f.inode.tree) info.number)))
      (erases : Erases (standing (under old) t) (standing (under new) u) (nat_le length) start s) where
    alike : IsAlike (rooted old f.inode) (rooted new f.inode)
    alike = kept_inode old new f m info.number t u becomes sound spares

    rewritten : Rewrites (rooted old f.inode) (rooted new i) info.number s (Some (with_info (shortened info length) r))
    rewritten = subst (Rewrites (rooted old f.inode) (rooted new i) info.number s) (ap (option_map (with_info (shortened info length))) (alike_files (rooted old f.inode) (rooted new f.inode) alike info.number ∙ is.there))
        (rewrites_after (rooted old f.inode) (rooted new f.inode) alike (rooted new i) info.number s _ (rewrites (under new)))

    start_of : start ≡ least_levels r.reserve
    start_of = start_is ∙ ap (λ (v : Info). least_levels v.reserve) is.told

    erased : Erases (tree_of (table_in old f) info.number r) (tree_of (table_in new h) info.number (with_info (shortened info length) r)) (nat_le length) (least_levels r.reserve) s
    erased =
        subst (λ x. Erases x (tree_of (table_in new h) info.number (with_info (shortened info length) r)) (nat_le length) (least_levels r.reserve) s) (sym (ap (λ o. tree_or (option_map (standing (under old)) o) (stored (under old) info.number r.levels r.root)) becomes.was))
        (subst (λ y. Erases (standing (under old) t) y (nat_le length) (least_levels r.reserve) s) (sym (ap (λ o. tree_or (option_map (standing (under new)) o) (stored (under new) info.number info.levels info.root)) becomes.now))
        (subst (λ l. Erases (standing (under old) t) (standing (under new) u) (nat_le length) l s) start_of erases))

    pub cut_table : CutsFile (table_in old f) (table_in new h) info.number length s
    cut_table now file well there =
        cut_told (table_in old f) (table_in new h) info.number now length s r (shortened info length) rewritten refl (ap (λ (v : Info). v.reserve) is.told)
        (kept_others old new f m info.number t u becomes sound spares) (tree_well now file well there) erased
        ∙ ap (λ g. cut (table_told (table_in old f)) info.number g length s) (sym (file_is (table_in old f) info.number r is.there file there))

    now_record : file_at (rooted new i) info.number ≡ Some (with_info (shortened info length) r)
    now_record = rewritten.files info.number ∙ (let test : nat_eq info.number info.number ≡ true = grind (arith, nat_tests) in ap (λ b. cond b (Some (with_info (shortened info length) r)) (file_at (rooted old f.inode) info.number)) test)

    -- so many positions went
    pub cut_takes : (count : ℕ) → positions_of (standing (under old) t) ≡ positions_of (standing (under new) u) + count → TakesByCut (table_in old f) info.number length s count
    cut_takes count sum =
        cut_counted (table_in old f) (table_in new h) info.number length s count r (with_info (shortened info length) r) is.there now_record cut_table
        (ap positions_of (ap (λ o. tree_or (option_map (standing (under old)) o) (stored (under old) info.number r.levels r.root)) becomes.was) ∙ sum
        ∙ ap (λ t. positions_of t + count) (sym (ap (λ o. tree_or (option_map (standing (under new)) o) (stored (under new) info.number info.levels info.root)) becomes.now)))
