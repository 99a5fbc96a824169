-- No line exactly where the image is sound, and where it stands for a machine.
use Rattle.std.proofs.Common.{◌≡◌, ℕ, ◌<◌, ◌⊎◌, [], ◌++◌, length, inl, inr, refl, sym, ap, ◌∙◌, arith, Result, Ok, Err}
use Rattle.std.specs.Prelude.{Bool, true, false, Option, Some, None, if◌then◌else◌}
use Rattle.std.specs.Option.{is_some, option_and_then}
use Rattle.fv_disk.specs.Shown.{Image}
use Rattle.fv_codec.specs.declared.shape.Shape.{Shape}
use Rattle.fv_codec.specs.declared.superblock.Super.{Super}
use Rattle.fv_codec.specs.declared.root.Root.{Root}
use Rattle.fv_codec.specs.Blocks.{super_at, IsSuper}
use Rattle.fv_codec.proofs.Decoded.{super_in_range}
use Rattle.fv_model.specs.Machines.{Machine}
use Rattle.fv_image.specs.Layout.{superblock, root_place}
use Rattle.fv_image.specs.NewerRoot.{Taken, behind, follows, newer, taken, taken_of, root_of}
use Rattle.fv_image.specs.Held.{layout_at, view_at}
use Rattle.fv_image.specs.Volumes.{told}
use Rattle.fv_image.specs.Soundness.{IsSound}
use Rattle.fv_image.specs.WholeMachine.{is_built, machine_at, machine_of}
use Rattle.fv_image.proofs.SoundTests.{tells_from, machine_told}
use Rattle.fv_faults.specs.Lines.{ordered}
use Rattle.fv_faults.specs.Faults.{passes, root_shape, faults_under, faults}
use Rattle.fv_faults.proofs.Clean.{ordered_from, ordered_none}
use Rattle.fv_faults.proofs.FromLines.{sound_from}
use Rattle.fv_faults.proofs.ToLines.{no_lines}

-- ---- the blocks of an aggregate

some_blocks : (i : Image) (t : Taken) → root_of i ≡ Some t → 0 < (view_at t i).blocks
unfolding root_of view_at
some_blocks i t counts = so (super_at (i superblock)) refl (newer (behind i 0) (behind i 1)) counts
  where
    so : (r : Result Super Shape) → super_at (i superblock) ≡ r → (o : Option (ℕ × Root)) → taken_of r o ≡ Some t → 0 < t.blocks
    so (Err fault) is o e = absurd cc
    so (Ok super) is None e = absurd cc
    so (Ok super) is (Some chosen) e =
        let blocks : super.blocks ≡ t.blocks = ap (λ (t : Taken). t.blocks) (same (taken super.blocks chosen) t e) in
        let range : IsSuper super = super_in_range (i superblock) (Ok super) (sym is) in
        let least = range.least in
        omega (arith, blocks, least)
      where
        same : (a b : Taken) → ◌≡◌ {A = Option Taken} (Some a) (Some b) → a ≡ b
        same a b e = cc

module _ (i : Image) (long : (b : ℕ) → length (i b) ≡ 4096) where
  lines_are : (t : Taken) → root_of i ≡ Some t → faults i ≡ ordered (passes (root_place t.slot) (layout_at t i))
  unfolding faults
  lines_are t counts = ap (faults_under i) counts

  -- An image without lines is sound under the root that counts,
  pub sound_without_lines : (t : Taken) → root_of i ≡ Some t → faults i ≡ [] → IsSound (layout_at t i)
  sound_without_lines t counts none =
      sound_from t i long (some_blocks i t counts) (root_place t.slot) (ordered_from (passes (root_place t.slot) (layout_at t i)) (sym (lines_are t counts) ∙ none))

  -- and a sound image has no line.
  pub no_lines_where_sound : (t : Taken) → root_of i ≡ Some t → IsSound (layout_at t i) → faults i ≡ []
  no_lines_where_sound t counts sound =
      lines_are t counts ∙ ordered_none (passes (root_place t.slot) (layout_at t i)) (no_lines t i long (some_blocks i t counts) (root_place t.slot) sound)

  -- ---- machines

  -- An image that stands for a machine has no line,
  pub no_lines_of_machine : (m : Machine) → machine_of i ≡ Some m → faults i ≡ []
  unfolding machine_of
  no_lines_of_machine m stands = so (root_of i) refl stands
    where
      so : (o : Option Taken) → root_of i ≡ o → option_and_then (λ t. machine_at t i) o ≡ Some m → faults i ≡ []
      so None counts stands = absurd cc
      so (Some t) counts stands = no_lines_where_sound t counts (tells_from (layout_at t i) m stands).sound

  -- and an image without lines stands for the machine that its view tells of, where its forms are built.
  pub machine_without_lines : (t : Taken) → root_of i ≡ Some t → faults i ≡ [] → is_built (view_at t i) ≡ true → machine_of i ≡ Some (told (view_at t i))
  unfolding machine_of layout_at
  machine_without_lines t counts none built =
      ap (option_and_then (λ t. machine_at t i)) counts ∙ machine_told (layout_at t i) (told (view_at t i)) (record { built = built; sound = sound_without_lines t counts none; machine = refl })

-- ---- roots without their shape

-- what stands behind an open gate
abbrev IsOpen : Image → ℕ → Type 0
IsOpen i slot = is_some (behind i slot) ≡ true

-- An image with a superblock and an open gate, of which no root counts, has a line.
pub lines_without_root : (i : Image) (super : Super) → super_at (i superblock) ≡ Ok super → root_of i ≡ None → IsOpen i 0 ⊎ IsOpen i 1 → faults i ≡ [] → ⊥
unfolding root_of faults
lines_without_root i super is none gates quiet =
    so (behind i 0) (behind i 1) (sym (ap (λ r. taken_of r (newer (behind i 0) (behind i 1))) is) ∙ none) gates
    (ordered_from (root_shape (root_place 0) (behind i 0) ++ root_shape (root_place 1) (behind i 1)) (sym (ap (faults_under i) none) ∙ quiet))
  where
    so : (a b : Option (Result Root Shape)) → taken_of (Ok super) (newer a b) ≡ None → (is_some a ≡ true) ⊎ (is_some b ≡ true) → root_shape (root_place 0) a ++ root_shape (root_place 1) b ≡ [] → ⊥
    so None None none (inl gates) quiet = cc
    so None None none (inr gates) quiet = cc
    so (Some (Ok first)) None none gates quiet = cc
    so None (Some (Ok second)) none gates quiet = cc
    so (Some (Err fault)) b none gates quiet = cc
    so None (Some (Err fault)) none gates quiet = cc
    so (Some (Ok first)) (Some (Err fault)) none gates quiet = cc
    so (Some (Ok first)) (Some (Ok second)) none gates quiet = both (follows second.generation first.generation) none
      where
        both : (b : Bool) → taken_of (Ok super) (if b then Some (1, second) else Some (0, first)) ≡ None → ⊥
        both true none = cc
        both false none = cc
