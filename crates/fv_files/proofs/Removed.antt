-- A table from which a file was taken away.
use Rattle.std.proofs.Common.{◌≡◌, ◌≢◌, ◌≤◌, ◌+◌, ◌*◌, ◌/◌, ◌^◌, ℕ, Bool, true, false, cond, nat_eq, nat_le, inr, Ok, sym, ap, subst, ◌∙◌, ⊎_elim, arith}
use Rattle.std.specs.Prelude.{Option, Some, None, is_some, map}
use Rattle.std.specs.Option.{option_map}
use Rattle.std.specs.Ordering.{nat_cmp}
use Rattle.std.specs.BTreeMap as maps
use Rattle.std.specs.FinMap as fin
use Rattle.std.proofs.lemmas.Bool.{cases_eq, both_ways}
use Rattle.std.proofs.lemmas.Bool.Decides.{nat_tests}
use Rattle.fv_model.specs.Trees.{fan}
use Rattle.fv_model.specs.Tables.{inode_cell}
use Rattle.fv_laws.specs.WellFormed.{IsWellTable}
use Rattle.fv_tables.specs.Spelled.{stored, pointer_at}
use Rattle.fv_tables.specs.Told.{records_each, file_at, table_told, tree_of, tree_or}
use Rattle.fv_tree.specs.declared.kept.Tree.{Tree}
use Rattle.fv_tree.specs.Sources.{Shown}
use Rattle.fv_tree.specs.Counting.{positions_of}
use Rattle.fv_tree.specs.Standing.{under, standing}
use Rattle.fv_tree.specs.Writing.{IsAlike}
use Rattle.fv_tree.specs.Erasing.{HoldsCells, IsGrownFrom}
use Rattle.fv_tree.specs.Costs.{pending}
use Rattle.fv_tree.specs.Flushing.{loaded, Stands}
use Rattle.fv_files.proofs.Stored.{released_said}
use Rattle.fv_tree.specs.Beside.{LeadsTo, Spares}
use Rattle.fv_tree.specs.Readying.{IsReady}
use Rattle.fv_tree.specs.Releasing.{IsDropped}
use Rattle.fv_inode.specs.Readying.{IsReadyFile}
use Rattle.fv_tree.proofs.Beside.{removal_spares}
use Rattle.fv_tree.proofs.Causes.{counts_then}
use Rattle.fv_tree.proofs.Counts.{alike_count}
use Rattle.fv_tree.proofs.Erased.{hole_of}
use Rattle.fv_inode.specs.declared.file.InodeFile.{InodeFile}
use Rattle.fv_inode.specs.Files.{rooted}
use Rattle.fv_inode.specs.Changing.{Takes, TakesFile}
use Rattle.fv_inode.proofs.Alike.{holds_after, takes_after}
use Rattle.fv_inode.proofs.Gone.{removed_well}
use Rattle.fv_inode.proofs.Grown.{grown_tree}
use Rattle.fv_inode.proofs.Placed.{KeepsOthers}
use Rattle.fv_inode.proofs.Slots.{alike_files}
use Rattle.fv_inode.proofs.Told.{inode_told}
use Rattle.fv_files.specs.declared.files.Files.{Files}
use Rattle.fv_files.specs.Tables.{table_in, tree_in, file_loaded, loaded_trees, AreStanding, IsLed, IsStored}
use Rattle.fv_files.specs.Apart.{LeadsFrom, IsAsSaid}
use Rattle.fv_files.specs.Pending.{pending_in, pending_trees, tree_cost}
use Rattle.fv_files.specs.Calls.{Becomes, Changes, CutsKept, KeptFails, RemovesFile, TakesByRemoval}
use Rattle.fv_files.proofs.Beside.{IsBare, LetsGo, UsesNoMore}
use Rattle.fv_files.proofs.Kept.{records_told, inode_led, inode_stands, inode_stored, records_leave}
use Rattle.fv_files.proofs.Looked.{counts_done}
use Rattle.fv_files.proofs.Adding.{grown_holds}
use Rattle.fv_files.proofs.Counted.{few_positions, nothing_left, removal_counted, tree_holds}
use Rattle.fv_files.proofs.Whole.{none_there}
use Rattle.fv_files.proofs.Changed.{has_record, own_ready, with_trees, kept_inode, kept_leads, kept_led, kept_others, kept_stands, kept_stored, kept_alter, kept_other, kept_tree_is}
use Rattle.fv_files.proofs.Steps.{cut_said, cut_spares, cut_stood, none_some, removal_goes, removal_uses}
use Rattle.fv_tree.specs.Altering.{Alters}
use Rattle.fv_tree.proofs.Altered.{leaves_then}
use Rattle.fv_files.specs.Altering.{AltersIn, AltersPlaces, AltersTrees, AreLaid}
use Rattle.fv_files.proofs.Altered.{both_in, both_in_then, laid_by, leaves_both, leaves_of, still_changed}

-- the inode file of a well-formed table has no mark over holes alone

pub well_holds : (old : Shown) (f : Files) (now : ℕ) → IsWellTable now (table_told (table_in old f)) → HoldsCells (rooted old f.inode)
well_holds old f now well = grown_holds (rooted old f.inode) 0
    (subst (IsGrownFrom 0) (sym (inode_told (table_in old f))) (grown_tree now 0 (map inode_cell (fin.keys (table_told (table_in old f)).files)) (table_told (table_in old f)).inode well.inode))

-- ---- a file goes

module _ (old mid new : Shown) (f : Files) (m last : maps.BTreeMap ℕ Tree) (i : InodeFile) (n s : ℕ) (t u : Tree) (becomes : Becomes f.trees m n t u) (sound : AreStanding old f)
    (first : Spares old mid (LeadsTo (loaded old t)) (LeadsTo (loaded mid u))) (same : u.owner ≡ t.owner) (stands : Stands mid u)
    (gone : (k : ℕ) → maps.get nat_cmp last k ≡ cond (nat_eq k n) None (maps.get nat_cmp m k)) (second : Spares mid new (LeadsTo (loaded mid f.inode.tree)) (LeadsTo (loaded new i.tree)))
    (takes : Stands mid f.inode.tree → HoldsCells (rooted mid f.inode) → Takes (rooted mid f.inode) (rooted new i) n s) where
  abbrev g : Files
  g = with_trees f m

  abbrev h : Files
  h = record { inode = i; trees = last; alloc = f.alloc }

  alike : IsAlike (rooted old f.inode) (rooted mid f.inode)
  alike = kept_inode old mid f m n t u becomes sound first

  pub middle : AreStanding mid g
  middle = kept_stands old mid f m n t u becomes sound first same stands

  other_trees : (k : ℕ) → k ≢ n → tree_in h k ≡ tree_in g k
  other_trees k differs = gone k ∙ (let test : nat_eq k n ≡ false = grind (arith, nat_tests, differs) in ap (λ b. cond b None (maps.get nat_cmp m k)) test)

  no_tree : tree_in h n ≡ None
  no_tree = gone n ∙ (let test : nat_eq n n ≡ true = grind (arith, nat_tests) in ap (λ b. cond b None (maps.get nat_cmp m n)) test)

  module _ (holds : HoldsCells (rooted old f.inode)) where
    taken : Takes (rooted mid f.inode) (rooted new i) n s
    taken = takes (middle.trees None) (holds_after (rooted old f.inode) (rooted mid f.inode) alike holds)

    other_files : (k : ℕ) → k ≢ n → file_at (rooted new i) k ≡ file_at (rooted mid f.inode) k
    other_files k differs = taken.files k ∙ (let test : nat_eq k n ≡ false = grind (arith, nat_tests, differs) in ap (λ b. cond b None (file_at (rooted mid f.inode) k)) test)

    no_file : file_at (rooted new i) n ≡ None
    no_file = taken.files n ∙ (let test : nat_eq n n ≡ true = grind (arith, nat_tests) in ap (λ b. cond b None (file_at (rooted mid f.inode) n)) test)

    nothing : loaded_trees (under new) h (Some n) ≡ None
    nothing = ap (option_map (λ r. file_loaded (under new) n r (tree_in h n))) no_file

    -- All trees that are left stand on their blocks,
    pub removed_stands : i.tree.owner ≡ f.inode.tree.owner → (Stands mid f.inode.tree → Stands new i.tree) → ((k : ℕ) → k ≢ n → IsReadyFile f.inode k → IsReady i.tree (k / records_each)) → AreStanding new h
    removed_stands owner inode others_ready =
        inode_stands mid new g h n other_trees other_files middle second
        (inr (subst IsBare (sym nothing) tt)) owner (inode (middle.trees None)) (λ w at. absurd (not_some (tree_in h n) w no_tree at))
        (λ k there. ⊎_elim
        (λ (same : k ≡ n). none_there (tree_in h n) no_tree (ap (λ j. is_some (tree_in h j)) (sym same) ∙ there))
        (λ (differs : k ≢ n). others_ready k differs (own_ready mid g k (ap is_some (sym (other_trees k differs)) ∙ there) middle))
        (cases_eq k n))
      where
        not_some : (o : Option Tree) (w : Tree) → o ≡ None → o ≡ Some w → ⊥
        not_some o w none some = let wrong : false ≡ true = sym (ap is_some none) ∙ ap is_some some in cc

    -- what they lead to is as their pointers say,
    pub removed_stored : (known : Bool) → IsAsSaid known (loaded new i.tree) → IsStored known mid g → IsStored known new h
    removed_stored known well = inode_stored mid new g h n other_trees other_files middle second (inr (subst IsBare (sym nothing) tt)) known well taken.indexes

    -- what is in use is led to,
    pub removed_led : ((v : ℕ) → LeadsFrom (loaded_trees (under mid) g) (Some n) v → ⊥) → LetsGo new (LeadsTo (loaded mid f.inode.tree)) (LeadsTo (loaded new i.tree)) → UsesNoMore mid new (LeadsTo (loaded mid f.inode.tree)) (LeadsTo (loaded new i.tree)) → IsLed mid g → IsLed new h
    removed_led none = inode_led mid new g h n other_trees other_files middle second (inr none)

    -- the places of the inode file got the stamp, or are as before, and nothing of the other trees changed,
    pub removed_alters : Alters s (loaded mid f.inode.tree) (loaded new i.tree) → (b : Option ℕ) → AltersIn s (loaded_trees (under mid) g b) (loaded_trees (under new) h b)
    removed_alters inode None = inode
    removed_alters inode (Some k) = ⊎_elim
        (λ (same : k ≡ n). subst (λ m. AltersIn s (loaded_trees (under mid) g (Some m)) (loaded_trees (under new) h (Some m))) (sym same) (subst (AltersIn s (loaded_trees (under mid) g (Some n))) (sym nothing) tt))
        (λ (differs : k ≢ n). both_in s (loaded_trees (under mid) g (Some k)) (loaded_trees (under new) h (Some k)) (leaves_both s (loaded_trees (under mid) g (Some k)) (loaded_trees (under new) h (Some k)) (records_leave mid new g h n other_trees other_files middle second k differs)))
        (cases_eq k n)

    pub removed_laid : Alters s (loaded mid f.inode.tree) (loaded new i.tree) → AreLaid (under old) f → AreLaid (under new) h
    removed_laid inode laid = laid_by (under old) (under new) f h laid (λ k w q is at. ⊎_elim
        (λ (same : k ≡ n). absurd (both_ways (is_some (tree_in h n)) (ap is_some no_tree) (ap (λ j. is_some (tree_in h j)) (sym same) ∙ ap is_some is)))
        (λ (differs : k ≢ n).
        let there : tree_in g k ≡ Some w = sym (other_trees k differs) ∙ is in
        let file : file_at (rooted mid f.inode) k ≡ Some q = sym (other_files k differs) ∙ at in
        let left = kept_other old mid f m n t u becomes sound first k w q differs there file in
        inr (record {
          tree = left.tree;
          was = left.was;
          file = left.file;
          leaves = leaves_then (loaded old left.tree) (loaded mid w) (loaded new w) left.leaves
              (leaves_of (loaded_trees (under mid) g (Some k)) (loaded_trees (under new) h (Some k)) (loaded mid w) (loaded new w) (kept_tree_is (under mid) g k w q there file) (kept_tree_is (under new) h k w q is at) (records_leave mid new g h n other_trees other_files middle second k differs));
          cell = still_changed s (under mid) (under new) f.inode.tree i.tree k q inode at;
        }))
        (cases_eq k n))

    others_stay : KeepsOthers (table_in old f) (table_in new h) n
    others_stay k differs r at =
        let one = kept_others old mid f m n t u becomes sound first k differs r at in
        let two = records_told mid new g h n other_trees other_files middle second k differs r (alike_files (rooted old f.inode) (rooted mid f.inode) alike k ∙ at) in
        record { levels = two.levels ∙ one.levels; stamps = λ level place. two.stamps level place ∙ one.stamps level place; blocks = λ index. two.blocks index ∙ one.blocks index }

  -- and the table is the machine's without the file.
  pub removed_table : is_some (file_at (rooted old f.inode) n) ≡ true → RemovesFile (table_in old f) (table_in new h) n s
  removed_table there now well =
      let holds = well_holds old f now well in
      removed_well (table_in old f) now well.inode (table_in new h) n s there
      (takes_after (rooted old f.inode) (rooted mid f.inode) alike (rooted new i) n s (taken holds)) (others_stay holds)

-- ---- by the calls

module _ (told cut_calls take_calls : Type 0) (old mid new : Shown) (f : Files) (m last : maps.BTreeMap ℕ Tree) (i : InodeFile) (n start s own count : ℕ) (cuts : CutsKept told cut_calls old mid f.trees m n 0 start s (Ok own))
    (takes : TakesFile told take_calls mid new f.inode.tree i.tree n s (Ok count)) (gone : (k : ℕ) → maps.get nat_cmp last k ≡ cond (nat_eq k n) None (maps.get nat_cmp m k)) where
  module _ (tells : told) (sound : AreStanding old f) where
    stood : Stands old cuts.tree
    stood = cut_stood told cut_calls (Unit {0}) old mid f m n 0 start s own cuts tells sound

    first : Spares old mid (LeadsTo (loaded old cuts.tree)) (LeadsTo (loaded mid cuts.next))
    first = cut_spares told cut_calls (Unit {0}) old mid f m n 0 start s own cuts tells sound

    half_way : AreStanding mid (with_trees f m)
    half_way = kept_stands old mid f m n cuts.tree cuts.next cuts.becomes sound first cuts.removal.owner (cuts.removal.stands tells stood)

    second : Spares mid new (LeadsTo (loaded mid f.inode.tree)) (LeadsTo (loaded new i.tree))
    second = removal_spares mid new f.inode.tree i.tree (takes.released tells) (takes.leads tells (half_way.trees None))

    pub remove_table : is_some (file_at (rooted old f.inode) n) ≡ true → RemovesFile (table_in old f) (table_in new (record { inode = i; trees = last; alloc = f.alloc })) n s
    remove_table = removed_table old mid new f m last i n s cuts.tree cuts.next cuts.becomes sound first cuts.removal.owner (cuts.removal.stands tells stood) gone second (takes.removed tells)

    remove_stands : HoldsCells (rooted old f.inode) → ((k : ℕ) → k ≢ n → IsReadyFile f.inode k → IsReady i.tree (k / records_each)) → AreStanding new (record { inode = i; trees = last; alloc = f.alloc })
    remove_stands holds others_ready = removed_stands old mid new f m last i n s cuts.tree cuts.next cuts.becomes sound first cuts.removal.owner (cuts.removal.stands tells stood) gone second (takes.removed tells) holds takes.owner (takes.stands tells) others_ready

    remove_stored : HoldsCells (rooted old f.inode) → (known : Bool) → IsStored known old f → IsStored known new (record { inode = i; trees = last; alloc = f.alloc })
    remove_stored holds known was =
        let half = kept_stored old mid f m n cuts.tree cuts.next cuts.becomes sound first known (cut_said told cut_calls (Unit {0}) old mid f m n 0 start s own cuts tells sound known was) was in
        let inode = half_way.trees None in
        removed_stored old mid new f m last i n s cuts.tree cuts.next cuts.becomes sound first cuts.removal.owner (cuts.removal.stands tells stood) gone second (takes.removed tells) holds known
        (released_said known mid new f.inode.tree i.tree (IsDropped (under mid) f.inode.tree i.tree) takes.owner inode (takes.stands tells inode) (takes.released tells) (takes.stored_well tells inode) (takes.tells tells inode) s (takes.alters tells inode) (half.trees None)) half

    remove_alters : HoldsCells (rooted old f.inode) → AltersTrees s (loaded_trees (under old) f) (loaded_trees (under new) (record { inode = i; trees = last; alloc = f.alloc }))
    remove_alters holds b =
        let x = loaded_trees (under old) f in
        let y = loaded_trees (under mid) (with_trees f m) in
        let z = loaded_trees (under new) (record { inode = i; trees = last; alloc = f.alloc }) in
        both_in_then s (x b) (y b) (z b) (kept_alter old mid f m n cuts.tree cuts.next cuts.becomes sound first s (cuts.removal.alters tells stood) b)
        (removed_alters old mid new f m last i n s cuts.tree cuts.next cuts.becomes sound first cuts.removal.owner (cuts.removal.stands tells stood) gone second (takes.removed tells) holds (takes.alters tells (half_way.trees None)) b)

    remove_laid : HoldsCells (rooted old f.inode) → AreLaid (under old) f → AreLaid (under new) (record { inode = i; trees = last; alloc = f.alloc })
    remove_laid holds = removed_laid old mid new f m last i n s cuts.tree cuts.next cuts.becomes sound first cuts.removal.owner (cuts.removal.stands tells stood) gone second (takes.removed tells) holds (takes.alters tells (half_way.trees None))

    -- what is in use is led to
    pub remove_led : is_some (file_at (rooted old f.inode) n) ≡ true → (now : ℕ) → IsWellTable now (table_told (table_in old f)) → IsLed old f → IsLed new (record { inode = i; trees = last; alloc = f.alloc })
    remove_led there now well led =
        let file = has_record (file_at (rooted old f.inode) n) there in
        let tree : tree_of (table_in old f) n file.file ≡ standing (under old) cuts.tree = ap (λ o. tree_or (option_map (standing (under old)) o) (stored (under old) n file.file.levels file.file.root)) cuts.becomes.was in
        let holds : HoldsCells (standing (under old) cuts.tree) = subst HoldsCells tree (tree_holds (table_in old f) n file.file file.is now well) in
        let erased = cuts.removal.place_by_place tells stood holds in
        removed_led old mid new f m last i n s cuts.tree cuts.next cuts.becomes sound first cuts.removal.owner (cuts.removal.stands tells stood) gone second (takes.removed tells) (well_holds old f now well)
        (λ v leads.
        let to = kept_leads (under mid) (with_trees f m) n cuts.next cuts.becomes.now v leads in
        to.leads.some (hole_of (pointer_at (standing (under mid) cuts.next) to.level to.place) (erased.bare to.level to.place (λ k over stands. let all : nat_le 0 k ≡ true = grind (arith, nat_tests) in all))))
        (λ v none some leads. ⊎_elim
        (λ now_led. none (record { level = leads.level; place = leads.place; leads = now_led }))
        (λ out. none_some (new.used v) out some)
        (takes.lets_go tells (half_way.trees None) leads.level leads.place v leads.leads))
        (λ v was now_not none. (takes.released tells).unused v none)
        (kept_led old mid f m n cuts.tree cuts.next cuts.becomes sound first
        (removal_goes told cut_calls old mid cuts.tree cuts.next (nat_le 0) start s own cuts.removal tells stood)
        (removal_uses told cut_calls old mid cuts.tree cuts.next (nat_le 0) start s own cuts.removal tells) led)

    -- so many positions went
    pub remove_counts : is_some (file_at (rooted old f.inode) n) ≡ true → TakesByRemoval (table_in old f) n s (own + count)
    remove_counts there =
        let file = has_record (file_at (rooted old f.inode) n) there in
        let tree : tree_of (table_in old f) n file.file ≡ standing (under old) cuts.tree = ap (λ o. tree_or (option_map (standing (under old)) o) (stored (under old) n file.file.levels file.file.root)) cuts.becomes.was in
        let alike = kept_inode old mid f m n cuts.tree cuts.next cuts.becomes sound first in
        removal_counted (table_in old f) (table_in new (record { inode = i; trees = last; alloc = f.alloc })) n s own count file.file file.is (remove_table there)
        (subst (λ t. HoldsCells t → positions_of t ≡ own) (sym tree) (nothing_left (standing (under old) cuts.tree) (standing (under mid) cuts.next) start s own (cuts.removal.place_by_place tells stood) (cuts.removal.count tells stood)))
        (sym (alike_count (rooted old f.inode) (rooted mid f.inode) alike) ∙ takes.count tells (half_way.trees None))

    -- and these are few
    pub remove_few : own + count ≤ 8 * fan ^ 3
    remove_few =
        let one = few_positions (standing (under old) cuts.tree) cuts.tree.few in
        let two = few_positions (rooted mid f.inode) f.inode.tree.few in
        let gone_there = cuts.removal.count tells stood in
        let gone_here = takes.count tells (half_way.trees None) in
        omega (arith, one, two, gone_there, gone_here)

  pub remove_table_done : {T : Type 0} (x : T) → AltersPlaces told (HoldsCells (rooted old f.inode)) old new f (record { inode = i; trees = last; alloc = f.alloc }) s (Ok x)
  remove_table_done x = record {
    alters = λ tells holds sound. remove_alters tells sound holds;
    leaves = λ tells. tt;
    laid = λ tells holds sound. remove_laid tells sound holds;
  }

  pub remove_done : {T : Type 0} (x : T) → ((k : ℕ) → k ≢ n → IsReadyFile f.inode k → IsReady i.tree (k / records_each)) → Changes told (HoldsCells (rooted old f.inode)) old new f (record { inode = i; trees = last; alloc = f.alloc }) (KeptFails told old new f n) (Ok x)
  remove_done x others_ready =
      let both = counts_then old mid new (Ok count) cuts.removal.counts.calm takes.counts in record {
        failed = λ tells. tt;
        untouched = tt;
        stands = λ tells holds sound. remove_stands tells sound holds others_ready;
        stored = λ tells holds sound known was. remove_stored tells sound holds known was;
        room = (let one = cuts.removal.room in let two = takes.room in omega (arith, one, two));
        strays = λ tells sound. takes.strays tells ((half_way tells sound).trees None) ∙ cuts.removal.strays tells (stood tells sound);
        counts = counts_done old new count x both;
        cause = tt;
      }

  pub remove_pending : pending i.tree ≤ pending f.inode.tree + 4 → ((t : Tree) → maps.get nat_cmp m n ≡ Some t → pending_trees last + tree_cost t ≡ pending_trees m) → pending_in (record { inode = i; trees = last; alloc = f.alloc }) ≤ pending_in f + 4
  remove_pending inode cost = let out = cost cuts.next cuts.becomes.now in let sum = cuts.becomes.sum in omega (arith, inode, out, sum)
