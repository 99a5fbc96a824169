-- A file whose inode block is in memory with the nodes over it.
use Rattle.std.proofs.Common.{◌≡◌, ◌≢◌, ℕ, ◌/◌, ◌%◌, Bool, true, false, cond, nat_eq, List, length, get_or, replicate, refl, sym, ap, subst, ◌∙◌, ◌≤◌, arith, ⊎_elim}
use Rattle.std.specs.Prelude.{Some, None, Result, Ok, Err, IfErr, OnErr, is_some, not, ◌==◌, if◌then◌else◌}
use Rattle.std.specs.Option.{option_map}
use Rattle.std.proofs.lemmas.Bool.{both_ways}
use Rattle.std.proofs.lemmas.Bool.Decides.{nat_tests}
use Rattle.std.proofs.lemmas.List.{get_or-replicate}
use Rattle.fv_disk.specs.declared.fault.BlockFault.{BlockFault}
use Rattle.fv_codec.specs.declared.inode.InodeRecord.{InodeRecord}
use Rattle.fv_codec.specs.declared.inode.InodeBlock.{InodeBlock}
use Rattle.fv_codec.specs.declared.shape.Shape.{Shape}
use Rattle.fv_codec.specs.Fields.{up_to}
use Rattle.fv_codec.specs.Blocks.{inodes_at, is_used, most_cells, IsInodeRecord, IsPointerIf}
use Rattle.fv_tables.specs.Spelled.{Under, Rooted, pointer_at, stamp_in, block_at}
use Rattle.fv_tables.specs.Told.{records_each, records_of, records_in, free_record, used_record, file_at}
use Rattle.fv_tree.specs.declared.kept.Tree.{Tree}
use Rattle.fv_tree.specs.Standing.{standing, cell_in}
use Rattle.fv_tree.specs.Readying.{IsReady}
use Rattle.fv_tree.proofs.Readied.{ready_block}
use Rattle.fv_inode.specs.declared.file.InodeFile.{InodeFile}
use Rattle.fv_inode.specs.declared.info.Info.{Info}
use Rattle.fv_inode.specs.Files.{AreRecords, IsInfo, blank_record, with_info}
use Rattle.fv_inode.specs.Changing.{Rewrites}
use Rattle.fv_inode.specs.Readying.{HoldsFile, IsReadyFile}
use Rattle.fv_inode.proofs.Slots.{still_some, file_is, block_there, cell_there}
use Rattle.fv_inode.proofs.Taken.{true_or_false}

-- no blocks at all
abbrev pub nothing_held : Under
nothing_held v = None

-- the record of a file over any blocks is that of its inode block in memory
pub held_record : (blocks : Under) (t : Tree) (n : ℕ) → IsReady t (n / records_each)
    → file_at (standing blocks t) n ≡ used_record (get_or (records_in (cell_in t (n / records_each))) (n % records_each) free_record)
unfolding file_at
held_record blocks t n ready = ap (λ b. used_record (get_or (records_in b) (n % records_each) free_record)) (ready_block blocks t (n / records_each) ready)

-- a file that is ready is there, over any blocks
pub ready_there : (blocks : Under) (f : InodeFile) (n : ℕ) → IsReadyFile f n → is_some (file_at (standing blocks f.tree) n) ≡ true
ready_there blocks f n ready = ap is_some (held_record blocks f.tree n ready.way) ∙ ready.used

-- one that is there over some blocks is ready, where its cell is
pub holds_there : (blocks : Under) (t : Tree) (n : ℕ) → IsReady t (n / records_each) → is_some (file_at (standing blocks t) n) ≡ true → HoldsFile t n
holds_there blocks t n ready there = record { way = ready; used = ap is_some (sym (held_record blocks t n ready)) ∙ there }

-- ---- whether a record is in use

pub in_use : (r : InodeRecord) → is_some (used_record r) ≡ not (r.name_length == 0)
in_use r = so (r.name_length == 0)
  where
    so : (b : Bool) → is_some (if b then None else Some r) ≡ not b
    so true = refl
    so false = refl

-- a block without the shape of an inode block has no file
no_files : (b : Result InodeBlock Shape) (shape : Shape) (k : ℕ) → b ≡ Err shape → used_record (get_or (records_of b) k free_record) ≡ None
no_files b shape k is = ap (λ (r : Result InodeBlock Shape). used_record (get_or (records_of r) k free_record)) is

pub no_spelled : (block : List ℕ) (shape : Shape) (k : ℕ) → inodes_at block ≡ Err shape → used_record (get_or (records_in (Some block)) k free_record) ≡ None
unfolding records_in
no_spelled block shape k is = no_files (inodes_at block) shape k is

pub none_spelled : (t : Rooted) (cell : ℕ) (block : List ℕ) (shape : Shape) (files : List InodeRecord) → block_at t cell ≡ Some block → inodes_at block ≡ Err shape → files ≡ replicate 16 blank_record → AreRecords t cell files
none_spelled t cell block shape files at fault is k lt =
    ap (λ (rs : List InodeRecord). used_record (get_or rs k free_record)) is
    ∙ ap used_record (get_or-replicate 16 k blank_record free_record lt)
    ∙ sym (file_is t cell k lt ∙ ap (λ b. used_record (get_or (records_in b) k free_record)) at ∙ no_spelled block shape k fault)

-- where no cell stands there is no file
pub none_without : (t : Rooted) (n : ℕ) → is_some (stamp_in (pointer_at t 0 (n / records_each))) ≡ false → is_some (file_at t n) ≡ false
none_without t n none = ⊎_elim
    (λ there. absurd (both_ways (is_some (stamp_in (pointer_at t 0 (n / records_each)))) none (cell_there t (n / records_each) (block_there t n there))))
    (λ free. free)
    (true_or_false (is_some (file_at t n)))

-- ---- a rewrite

-- a record in use with other numbers is in range
pub info_fits : (info : Info) (r : InodeRecord) → IsInfo info → IsInodeRecord r → r.name_length ≢ 0 → IsInodeRecord (with_info info r)
info_fits info r fits was some =
    let used : is_used r.name_length ≡ true = grind (arith, nat_tests, some) in
    record {
      name_length = was.name_length;
      name_long = was.name_long;
      name = was.name;
      length = subst (λ b. info.length ≤ up_to b most_cells) (sym used) fits.length;
      reserve = subst (λ b. info.reserve ≤ up_to b most_cells) (sym used) fits.reserve;
      levels = subst (λ b. info.levels ≤ up_to b 3) (sym used) fits.levels;
      root = subst (λ b. IsPointerIf b info.root) (sym used) fits.root;
    }

-- a file that was ready is still ready
pub still_holds : (t u : Tree) (n s : ℕ) (f : InodeRecord → InodeRecord) → HoldsFile t n → IsReady u (n / records_each)
    → Rewrites (standing nothing_held t) (standing nothing_held u) n s (option_map f (file_at (standing nothing_held t) n)) → HoldsFile u n
still_holds t u n s f holds ready rewrites =
    let test : nat_eq n n ≡ true = grind (arith, nat_tests) in
    holds_there nothing_held u n ready
    (ap is_some (rewrites.files n)
    ∙ ap (λ b. is_some (cond b (option_map f (file_at (standing nothing_held t) n)) (file_at (standing nothing_held t) n))) test
    ∙ still_some f (file_at (standing nothing_held t) n)
    ∙ ap is_some (held_record nothing_held t n holds.way)
    ∙ holds.used)

-- ---- a file that is ready, beside loads and other files

pub is_refuted : {T : Type 0} (r : Result T BlockFault) (P : BlockFault → Type 0) → IfErr r P → ((e : BlockFault) → P e → ⊥) → OnErr r ⊥
is_refuted (Ok x) P is none = tt
is_refuted (Err e) P is none = none e is

-- its inode block has the shape of one
pub has_shape : (blocks : Under) (t : Tree) (n cell : ℕ) (block : List ℕ) (shape : Shape) → n / records_each ≡ cell → HoldsFile t n → block_at (standing blocks t) cell ≡ Some block → inodes_at block ≡ Err shape → ⊥
has_shape blocks t n cell block shape at holds is fault =
    let here : cell_in t (n / records_each) ≡ Some block = sym (ready_block blocks t (n / records_each) holds.way) ∙ ap (block_at (standing blocks t)) at ∙ is in
    let none : is_some (used_record (get_or (records_in (cell_in t (n / records_each))) (n % records_each) free_record)) ≡ false =
    ap (λ b. is_some (used_record (get_or (records_in b) (n % records_each) free_record))) here ∙ ap is_some (no_spelled block shape (n % records_each) fault) in
    both_ways (is_some (used_record (get_or (records_in (cell_in t (n / records_each))) (n % records_each) free_record))) none holds.used

-- no file is beside the last one of an inode block
pub not_beside : (t : Tree) (m n : ℕ) → HoldsFile t m → (m / 16 ≡ n / 16 → file_at (standing nothing_held t) m ≡ None) → m / records_each ≢ n / records_each
not_beside t m n holds none at = both_ways (is_some (file_at (standing nothing_held t) m)) (ap is_some (none at)) (ap is_some (held_record nothing_held t m holds.way) ∙ holds.used)
