-- A volume of a session after a point: what it is once the root on the disk names it.
use Rattle.std.proofs.Common.{◌≡◌, ℕ, ◌<◌, ◌≤◌, false, Option, Some, None, length, refl, sym, ap, subst, ◌∙◌, arith}
use Rattle.std.specs.Prelude.{IfSome, replicate}
use Rattle.std.specs.Option.{option_map}
use Rattle.fv_disk.specs.Shown.{Shown}
use Rattle.fv_image.specs.Views.{View}
use Rattle.fv_root.specs.Formatted.{IsSize}
use Rattle.fv_store.specs.Held.{StandsOn}
use Rattle.fv_container.specs.Chains.{container_at}
use Rattle.fv_volmap.specs.Slots.{stored_count, IsVolume}
use Rattle.fv_files.specs.declared.numbers.FileNumbers.{FileNumbers}
use Rattle.fv_files.specs.Numbering.{AreNumbersIf}
use Rattle.fv_pool.specs.declared.pool.Pool.{Pool}
use Rattle.fv_volume.specs.declared.state.VolumeState.{VolumeState}
use Rattle.fv_pool.specs.BlocksOver.{entries_in}
use Rattle.fv_volume.specs.Files.{IsLabelled}
use Rattle.fv_volume.specs.Held.{core_of, HasNoFiles, HasWholeMap, IsReadyIn}
use Rattle.fv_volumes.specs.Housed.{as_written, settled_as}
use Rattle.fv_volume.specs.Loading.{Houses}
use Rattle.fv_volume.specs.Numbering.{AreNumbersSeen}
use Rattle.fv_volume.specs.OneVolume.{IsBooked, IsReady}
use Rattle.fv_volume.specs.States.{parent_in}
use Rattle.fv_volume.specs.Trees.{active_in, no_trees}
use Rattle.fv_volumes.proofs.PlacedIn.{housed_count}
use Rattle.fv_volumes.proofs.Settled.{settled_has, settled_keeps}

-- nothing of it waits to be written
pub settled_unchanged : (o : Option VolumeState) (label : ℕ) → IfSome (option_map (settled_as label) o) (λ x. x.changed ≡ false)
settled_unchanged None label = tt
settled_unchanged (Some x) label = settled_has (λ (y : VolumeState). y.changed ≡ false) x label (λ e. refl) (λ e. e)

-- it has files in memory, numbers in its map and a core as before
pub settled_no_files : (o : Option VolumeState) (label : ℕ) → HasNoFiles o → HasNoFiles (option_map (settled_as label) o)
settled_no_files None label is = tt
settled_no_files (Some x) label is = settled_has (λ (y : VolumeState). y.files ≡ None) x label (λ e. is) (λ e. is)

pub settled_whole : (o : Option VolumeState) (label : ℕ) → HasWholeMap o → HasWholeMap (option_map (settled_as label) o)
settled_whole None label is = tt
settled_whole (Some x) label is = settled_has (λ (y : VolumeState). IsVolume y.map) x label (λ e. is) (λ e. is)

pub settled_core : (o : Option VolumeState) (label : ℕ) → option_map core_of (option_map (settled_as label) o) ≡ option_map core_of o
settled_core None label = refl
settled_core (Some x) label = ap (λ (y : VolumeState). Some y) (settled_keeps core_of x label refl)

-- the numbers of its files are those that a view tells that has its table as before
pub settled_numbers : (w u : View) (s : ℕ) (o : Option VolumeState) (label : ℕ) → IfSome o (λ x. active_in u no_trees s ≡ active_in w no_trees s) → AreNumbersSeen w s o → AreNumbersSeen u s (option_map (settled_as label) o)
settled_numbers w u s None label same are = tt
settled_numbers w u s (Some x) label same are =
    subst (λ (n : Option FileNumbers). AreNumbersIf n (active_in u no_trees s)) (sym (settled_keeps (λ (y : VolumeState). y.numbers) x label refl)) (subst (AreNumbersIf x.numbers) (sym same) are)

-- its core has its parent
pub core_parent : (o : Option VolumeState) → parent_in o ≡ parent_in (option_map core_of o)
core_parent None = refl
core_parent (Some x) = refl

-- calls can be made on it, whatever slot it has
pub ready_of : (disk : Shown) (pool : Pool) (s : ℕ) (o : Option VolumeState) → IfSome o (IsReadyIn disk pool s) → IfSome o (IsReady disk pool)
ready_of disk pool s None is = tt
ready_of disk pool s (Some x) is = is.ready

module _ (old new : Shown) (pool left : Pool) (s : ℕ) (stands : StandsOn new left.store.pairs) (size : left.found.blocks ≡ pool.found.blocks) where
  -- calls can be made on a volume that has its container
  ready_with : (y : VolumeState) → y.slot ≡ s → y.slot < 64 → y.map.span ≤ 1048576 → IsBooked y → IsSize pool.found.blocks → y.files ≡ None → (y.changed ≡ false → y.fresh ≡ replicate stored_count false) → IsLabelled s y → Houses (Some y) (container_at left.containers s) → IsReadyIn new left s y
  ready_with y slot within few booked blocks no_files no_maps labelled houses = record {
    slot = slot;
    ready = record {
      lent = record {
        within = within;
        stands = stands;
        few = few;
        entries = (let span = labelled.map in let count = ap (λ (n : ℕ). length (entries_in (container_at left.containers n))) slot ∙ housed_count (Some y) (container_at left.containers s) y refl houses in omega (arith, span, count));
      };
      labelled = subst (λ (n : ℕ). IsLabelled n y) (sym slot) labelled;
      booked = booked;
      blocks = subst IsSize (sym size) blocks;
      changed = λ isnt. no_files;
      fresh = no_maps;
    };
  }

  -- and so on it once it is settled
  pub settled_ready : (label : ℕ) (o : Option VolumeState) → IfSome o (IsReadyIn old pool s) → HasNoFiles o → IfSome (option_map (settled_as label) o) (IsLabelled s) → Houses (option_map (settled_as label) o) (container_at left.containers s) → IfSome (option_map (settled_as label) o) (IsReadyIn new left s)
  settled_ready label None is no_files labelled houses = tt
  settled_ready label (Some x) is no_files labelled houses =
      let b = is.ready.booked in
      settled_has (λ (y : VolumeState). IsLabelled s y → Houses (Some y) (container_at left.containers s) → IsReadyIn new left s y) x label
      (λ changed. ready_with (as_written x label) is.slot is.ready.lent.within is.ready.lent.few (record { size = b.size; kind = b.kind; span = b.span; need = b.need; charge = b.charge }) is.ready.blocks no_files (λ isnt. refl))
      (λ same. ready_with x is.slot is.ready.lent.within is.ready.lent.few b is.ready.blocks no_files is.ready.fresh)
      labelled houses
