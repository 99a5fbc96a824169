-- A block in which each unknown pointer gets its place.
--
-- An example: VVBN 7 lies at 420, and a node has the pointers 7 (place unknown) and 8 (at 300). Filled it has 7 (at 420) and 8 (at 300).
use Rattle.std.specs.Prelude.{◌≡◌, ◌≢◌, ◌≤◌, ◌<◌, ◌⊎◌, ℕ, true, false, List, length, Some, Ok, get_or}
use Rattle.std.specs.List.{list_any}
use Rattle.fv_codec.specs.declared.inode.InodeRecord.{InodeRecord}
use Rattle.fv_codec.specs.declared.pointer.Pointer.{Pointer}
use Rattle.fv_codec.specs.Blocks.{last_place}
use Rattle.fv_tables.specs.Spelled.{hole}
use Rattle.fv_tables.specs.Told.{free_record}
use Rattle.fv_tables.specs.Alike.{SaysAlike}
use Rattle.fv_image.specs.Views.{Placed}
use Rattle.fv_image.specs.HintRules.{is_unknown}
use Rattle.fv_places.specs.ByKind.{form_of, shape_in, pointers_by}
use Rattle.fv_places.specs.Changed.{KeepsPosition, with_root}
use Rattle.fv_cleaner.specs.Searching.{Lies}

-- the pointer q is p with the place of its VVBN, where a block of a lower kind lies
pub record GetsPlace (at : Lies) (kind : ℕ) (p q : Pointer) : Type 0 where
  pub unknown : is_unknown p ≡ true
  pub block : Placed
  pub there : at p.vvbn ≡ Some block
  pub lower : block.kind < kind
  pub is : q ≡ record { vvbn = p.vvbn; pvbn = block.pvbn; stamp = p.stamp }

-- a known pointer and a hole stay
abbrev pub IsPlacedAs : Lies → ℕ → Pointer → Pointer → Type 0
IsPlacedAs at kind p q = ((is_unknown p ≡ false) × (q ≡ p)) ⊎ GetsPlace at kind p q

-- so it is with each pointer of a list up to an index
abbrev pub ArePlaced : Lies → ℕ → List Pointer → ℕ → List Pointer → Type 0
ArePlaced at kind ps end qs = (i : ℕ) → i < end → IsPlacedAs at kind (get_or ps i hole) (get_or qs i hole)

-- The pointer q is p with some place, whatever the disk tells.
pub record GetsSome (p q : Pointer) : Type 0 where
  pub unknown : is_unknown p ≡ true
  pub place : ℕ
  pub some : place ≢ 0
  pub fits : place ≤ last_place
  pub is : q ≡ record { vvbn = p.vvbn; pvbn = place; stamp = p.stamp }

-- a known pointer and a hole stay
abbrev pub IsFilledAs : Pointer → Pointer → Type 0
IsFilledAs p q = ((is_unknown p ≡ false) × (q ≡ p)) ⊎ GetsSome p q

-- The unknown pointers of a list up to an index got places. Behind it each pointer is as it was.
pub record FillsUpTo (ps : List Pointer) (end : ℕ) (qs : List Pointer) : Type 0 where
  pub count : length qs ≡ length ps
  pub filled : (i : ℕ) → i < end → IsFilledAs (get_or ps i hole) (get_or qs i hole)
  pub rest : (i : ℕ) → end ≤ i → get_or qs i hole ≡ get_or ps i hole

-- The records of a list up to an index have the roots of a list of pointers. Behind it each record is as it was.
pub record AreRooted (rs : List InodeRecord) (end : ℕ) (ps : List Pointer) (ss : List InodeRecord) : Type 0 where
  pub count : length ss ≡ length rs
  pub rooted : (i : ℕ) → i < end → get_or ss i free_record ≡ with_root (get_or rs i free_record) (get_or ps i hole)
  pub rest : (i : ℕ) → end ≤ i → get_or ss i free_record ≡ get_or rs i free_record

-- A block of a kind was filled. No pointer of it is unknown, and but for hints it says what it said.
pub record FillsBlock (kind : ℕ) (b c : List ℕ) : Type 0 where
  pub shaped : shape_in (form_of kind) c ≡ Ok tt
  pub position : KeepsPosition (form_of kind) b c
  pub says : SaysAlike kind b c
  pub count : length (pointers_by (form_of kind) c) ≡ length (pointers_by (form_of kind) b)
  pub known : list_any is_unknown (pointers_by (form_of kind) c) ≡ false

-- and each pointer that was unknown got its place
abbrev pub FillsPlaces : Lies → ℕ → List ℕ → List ℕ → Type 0
FillsPlaces at kind b c = ArePlaced at kind (pointers_by (form_of kind) b) (length (pointers_by (form_of kind) b)) (pointers_by (form_of kind) c)

-- a block of a lower kind lies under a VVBN at this place
pub record LiesBelow (at : Lies) (kind v place : ℕ) : Type 0 where
  pub block : Placed
  pub there : at v ≡ Some block
  pub lower : block.kind < kind
  pub is : place ≡ block.pvbn
