-- What it means for blocks that a root fits: by the kind of its entry each is data, a node or an inode block as its position wants it, and
-- what a pointer of the table comes from stands in the block as that kind says.
use Rattle.std.proofs.Common.{◌≡◌, ◌≢◌, ℕ, zero, suc, ◌+◌, ◌*◌, ◌/◌, ◌^◌, ◌<◌, ◌≤◌, Bool, true, false, List, [], ◌∷◌, map, refl, sym, ap, ◌∙◌, arith, get_or}
use Rattle.std.specs.Prelude.{Some, ◌==◌, min, if◌then◌else◌}
use Rattle.std.proofs.lemmas.Bool.Decides.{nat_tests}
use Rattle.fv_codec.specs.declared.pointer.Pointer.{Pointer}
use Rattle.fv_codec.specs.declared.inode.InodeRecord.{InodeRecord}
use Rattle.fv_codec.specs.Blocks.{greatest_word}
use Rattle.fv_model.specs.Trees.{fan}
use Rattle.fv_tables.specs.Spelled.{stored, hole, pointers_in, pointer_at}
use Rattle.fv_tables.specs.Told.{Standing, file_at, records_each, records_in, free_record}
use Rattle.fv_tables.specs.Reached.{Item, item_of}
use Rattle.fv_tables.proofs.Items.{at_inode, at_file, number_within}
use Rattle.fv_image.specs.Views.{Placed, Rooted, View, kind_at}
use Rattle.fv_image.specs.Chains.{place, under}
use Rattle.fv_image.specs.Volumes.{standing_of}
use Rattle.fv_image.specs.ReachRules.{kind_of}
use Rattle.fv_image.specs.Moves.{FitsRoot}
use Rattle.fv_places.specs.Inside.{pointers_inside, StandsIn}
use Rattle.fv_places.proofs.Descents.{within}

-- ---- a block by its kind

-- the roots of records, one by one
pub root_got : (rs : List InodeRecord) (i : ℕ) → (get_or rs i free_record).root ≡ get_or (map (λ (r : InodeRecord). r.root) rs) i hole
root_got [] zero = refl
root_got [] (suc i) = refl
root_got (r ∷ rs) zero = refl
root_got (r ∷ rs) (suc i) = root_got rs i

-- a node has its pointers
pub node_inside : (x : Placed) → x.kind ≢ 1 → x.kind ≢ 5 → pointers_inside x ≡ pointers_in (Some x.block)
node_inside x one five =
    let a : (x.kind == 1) ≡ false = grind (arith, nat_tests) in let b : (x.kind == 5) ≡ false = grind (arith, nat_tests) in rw (a, b) refl

-- an inode block has the roots of its records
pub inode_inside : (x : Placed) → x.kind ≡ 5 → pointers_inside x ≡ map (λ (r : InodeRecord). r.root) (records_in (Some x.block))
inode_inside x five =
    let a : (x.kind == 1) ≡ false = grind (arith, nat_tests) in let b : (x.kind == 5) ≡ true = grind (arith, nat_tests) in rw (a, b) refl

-- so each pointer of a node stands in it
pub in_node_block : (x : Placed) (i : ℕ) → x.kind ≢ 1 → x.kind ≢ 5 → StandsIn x (get_or (pointers_in (Some x.block)) i hole)
in_node_block x i one five = (i, ap (λ (ps : List Pointer). get_or ps i hole) (sym (node_inside x one five)))

-- and so does each root of an inode block
pub in_inode_block : (x : Placed) (i : ℕ) → x.kind ≡ 5 → StandsIn x (get_or (records_in (Some x.block)) i free_record).root
in_inode_block x i five =
    (i, root_got (records_in (Some x.block)) i ∙ ap (λ (ps : List Pointer). get_or ps i hole) (sym (inode_inside x five)))

-- ---- kinds by position

-- a node of the inode file is neither data nor an inode block
pub no_leaf : (level kind : ℕ) → 1 ≤ level → kind ≡ 5 + min level 2 → (kind ≢ 1) × (kind ≢ 5)
no_leaf zero kind low is = absurd (omega arith)
no_leaf (suc zero) kind low is = (λ e. absurd (omega (arith, is, e)), λ e. absurd (omega (arith, is, e)))
no_leaf (suc (suc l)) kind low is = (λ e. absurd (omega (arith, is, e)), λ e. absurd (omega (arith, is, e)))

module _ (w : View) (s : ℕ) (r : Rooted) (fits : FitsRoot w s r) where
  abbrev x : Standing
  x = standing_of w s r

  abbrev is_kind : Item → Bool
  is_kind e = kind_at (place w s e.pointer.vvbn) == kind_of e

  -- a kind as a number
  same_kind : (e : Item) → is_kind e ≡ true → kind_at (place w s e.pointer.vvbn) ≡ kind_of e
  same_kind e test = grind (arith, nat_tests)

  -- what the inode file leads to
  pub inode_kind : (level p : ℕ) → (pointer_at x.inode level p).stamp ≢ 0
      → kind_at (place w s (pointer_at x.inode level p).vvbn) ≡ 5 + min level 2
  inode_kind level p some = same_kind (item_of hole x.inode level p) (at_inode is_kind x fits.kinds level p some)

  -- a file's number is not the one of the inode file
  number_small : (k : ℕ) (f : InodeRecord) → file_at x.inode k ≡ Some f → (k == greatest_word) ≡ false
  number_small k f is = by r.levels fits.levels (number_within is_kind x k f is)
    where
      by : (l : ℕ) → l ≤ 2 → k < records_each * fan ^ l → (k == greatest_word) ≡ false
      by zero le lt = grind (arith, nat_tests)
      by (suc zero) le lt = grind (arith, nat_tests)
      by (suc (suc zero)) le lt = grind (arith, nat_tests)
      by (suc (suc (suc l))) le lt = absurd (omega arith)

  -- what the tree of a file leads to
  pub file_kind : (k : ℕ) (f : InodeRecord) → file_at x.inode k ≡ Some f → (level p : ℕ)
      → (pointer_at (stored (under w s) k f.levels f.root) level p).stamp ≢ 0
      → kind_at (place w s (pointer_at (stored (under w s) k f.levels f.root) level p).vvbn) ≡ 1 + level
  file_kind k f is level p some =
      same_kind (item_of (pointer_at x.inode 0 (k / records_each)) (stored (under w s) k f.levels f.root) level p)
      (at_file is_kind x fits.kinds k f is level p some)
      ∙ ap (λ (b : Bool). if b then 5 + min level 2 else 1 + level) (number_small k f is)

  -- which has at most 3 levels
  pub file_low : (k : ℕ) (f : InodeRecord) → file_at x.inode k ≡ Some f → (level p : ℕ)
      → (pointer_at (stored (under w s) k f.levels f.root) level p).stamp ≢ 0 → level ≤ 3
  file_low k f is level p some =
      let le = within (stored (under w s) k f.levels f.root) level p some in let most = fits.files k f is in omega (arith, le, most)

  -- so a node of it is neither data nor an inode block
  pub file_node : (k : ℕ) (f : InodeRecord) → file_at x.inode k ≡ Some f → (level p : ℕ) → 1 ≤ level
      → (pointer_at (stored (under w s) k f.levels f.root) level p).stamp ≢ 0
      → (kind_at (place w s (pointer_at (stored (under w s) k f.levels f.root) level p).vvbn) ≢ 1)
      × (kind_at (place w s (pointer_at (stored (under w s) k f.levels f.root) level p).vvbn) ≢ 5)
  file_node k f is level p low some =
      let kind = file_kind k f is level p some in
      let high = file_low k f is level p some in
      (λ e. absurd (omega (arith, kind, low, e)), λ e. absurd (omega (arith, kind, high, e)))
