-- One record of an inode block in memory.
use Rattle.std.proofs.Common.{◌≡◌, ◌≢◌, ℕ, ◌/◌, ◌%◌, ◌≤◌, Bool, true, false, List, length, get_or, refl, sym, ap, ◌∙◌, arith}
use Rattle.std.specs.Prelude.{Some, None, Result, Ok, Err, IfOk, is_some, is_ok}
use Rattle.std.proofs.lemmas.Bool.{both_ways}
use Rattle.fv_codec.specs.declared.inode.InodeRecord.{InodeRecord}
use Rattle.fv_codec.specs.declared.inode.InodeBlock.{InodeBlock}
use Rattle.fv_codec.specs.declared.shape.Shape.{Shape}
use Rattle.fv_codec.specs.Blocks.{inodes_at}
use Rattle.fv_codec.proofs.Renewed.{sixteen_of}
use Rattle.fv_tables.specs.Spelled.{Under}
use Rattle.fv_tables.specs.Told.{records_in, free_record, used_record, file_at}
use Rattle.fv_tree.specs.declared.kept.Tree.{Tree}
use Rattle.fv_tree.specs.Standing.{standing, cell_in}
use Rattle.fv_tree.specs.Readying.{IsReady}
use Rattle.fv_inode.specs.declared.info.Info.{Info}
use Rattle.fv_inode.specs.Files.{with_info}
use Rattle.fv_inode.specs.Readying.{HoldsFile}
use Rattle.fv_inode.proofs.Slots.{inodes_of, used_name}
use Rattle.fv_inode.proofs.Readied.{held_record, no_spelled}

-- an inode block, and the record in a slot of it
pub record IsSingle (block : List ℕ) (slot : ℕ) (r : InodeRecord) : Type 0 where
  pub inodes : InodeBlock
  pub spelled : inodes_at block ≡ Ok inodes
  pub long : length inodes.files ≡ 16
  pub is : get_or inodes.files slot free_record ≡ r

pub single : (block : List ℕ) (slot : ℕ) (r : InodeRecord) → is_ok (inodes_at block) ≡ true → IfOk (inodes_at block) (λ b. get_or b.files slot free_record ≡ r) → IsSingle block slot r
single block slot r ok said = by (inodes_at block) refl ok said
  where
    by : (o : Result InodeBlock Shape) → inodes_at block ≡ o → is_ok o ≡ true → IfOk o (λ b. get_or b.files slot free_record ≡ r) → IsSingle block slot r
    by (Ok b) at ok said = record { inodes = b; spelled = at; long = sixteen_of block b at; is = said }
    by (Err fault) at ok said = absurd (both_ways false refl ok)

-- a block without the form of an inode block has no record of a file
pub none_formed : (block : List ℕ) (k : ℕ) → is_ok (inodes_at block) ≡ false → used_record (get_or (records_in (Some block)) k free_record) ≡ None
none_formed block k unlike = by (inodes_at block) refl unlike
  where
    by : (o : Result InodeBlock Shape) → inodes_at block ≡ o → is_ok o ≡ false → used_record (get_or (records_in (Some block)) k free_record) ≡ None
    by (Ok b) at unlike = absurd (both_ways true unlike refl)
    by (Err fault) at unlike = no_spelled block fault k at

-- one that has the record of a file has the form
pub formed : (block : List ℕ) (k : ℕ) → is_some (used_record (get_or (records_in (Some block)) k free_record)) ≡ true → is_ok (inodes_at block) ≡ true
formed block k used = by (is_ok (inodes_at block)) refl
  where
    by : (b : Bool) → is_ok (inodes_at block) ≡ b → is_ok (inodes_at block) ≡ true
    by true at = at
    by false at = absurd (both_ways (is_some (used_record (get_or (records_in (Some block)) k free_record))) (ap is_some (none_formed block k at)) used)

pub own_single : (block : List ℕ) (slot : ℕ) (r : InodeRecord) → IsSingle block slot r → used_record (get_or (records_in (Some block)) slot free_record) ≡ used_record r
own_single block slot r is = ap (λ (rs : List InodeRecord). used_record (get_or rs slot free_record)) (inodes_of block is.inodes is.spelled) ∙ ap used_record is.is

-- the record of a file whose inode block is in memory
module _ (t : Tree) (n : ℕ) (block : List ℕ) (ready : IsReady t (n / 16)) (memory : cell_in t (n / 16) ≡ Some block) where
  pub held_in : (blocks : Under) → file_at (standing blocks t) n ≡ used_record (get_or (records_in (Some block)) (n % 16) free_record)
  held_in blocks = held_record blocks t n ready ∙ ap (λ b. used_record (get_or (records_in b) (n % 16) free_record)) memory

-- it is in use, and its block has the form of an inode block
module _ (t : Tree) (n : ℕ) (block : List ℕ) (holds : HoldsFile t n) (memory : cell_in t (n / 16) ≡ Some block) where
  in_block : is_some (used_record (get_or (records_in (Some block)) (n % 16) free_record)) ≡ true
  in_block = ap (λ b. is_some (used_record (get_or (records_in b) (n % 16) free_record))) (sym memory) ∙ holds.used

  pub holds_formed : is_ok (inodes_at block) ≡ true
  holds_formed = formed block (n % 16) in_block

  pub holds_used : (r : InodeRecord) → IsSingle block (n % 16) r → r.name_length ≢ 0
  holds_used r is = used_name r (ap is_some (sym (own_single block (n % 16) r is)) ∙ in_block)

-- a record with other numbers has a name as before
pub named : (r : InodeRecord) (info : Info) (now : InodeRecord) → now ≡ with_info info r → r.name_length ≢ 0 → 1 ≤ now.name_length
named r info now is some =
    let same : now.name_length ≡ r.name_length = ap (λ (q : InodeRecord). q.name_length) is in
    let low : 1 ≤ r.name_length = grind (arith, some) in
    omega (arith, same, low)
