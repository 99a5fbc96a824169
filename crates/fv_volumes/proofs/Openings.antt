-- What each volume is that was just loaded: calls can be made on it, and it stands for the one of the machine.
use Rattle.std.proofs.Common.{◌≡◌, ℕ, length, Option, Some, None, refl, sym, ap, subst, ◌∙◌, arith}
use Rattle.std.specs.Prelude.{IfSome, IsTrue}
use Rattle.fv_disk.specs.Shown.{Shown as Disk}
use Rattle.fv_model.specs.Machines.{Machine}
use Rattle.fv_image.specs.Held.{layout_at}
use Rattle.fv_image.specs.Views.{entry_count}
use Rattle.fv_image.specs.WholeMachine.{Tells}
use Rattle.fv_root.specs.Finding.{root_found}
use Rattle.fv_root.specs.Formatted.{IsSize}
use Rattle.fv_aggmap.specs.Loading.{IsLoaded as IsMapLoaded}
use Rattle.fv_charge.specs.declared.ledger.Ledger.{Ledger}
use Rattle.fv_container.specs.Chains.{container_at, slot_count}
use Rattle.fv_container.specs.Mapped.{Mapped}
use Rattle.fv_store.specs.Held.{StandsOn}
use Rattle.fv_files.specs.declared.numbers.FileNumbers.{FileNumbers}
use Rattle.fv_files.specs.Numbering.{AreNumbersIf}
use Rattle.fv_pool.specs.declared.pool.Pool.{Pool}
use Rattle.fv_pool.specs.Opening.{IsAsFound}
use Rattle.fv_volume.specs.declared.state.VolumeState.{VolumeState}
use Rattle.fv_pool.specs.BlocksOver.{entries_in}
use Rattle.fv_pool.specs.Calls.{Reads}
use Rattle.fv_volume.specs.Files.{IsLabelled, IsState}
use Rattle.fv_volume.specs.KnownBase.{KnowBases}
use Rattle.fv_volume.specs.Loading.{Houses, IsCounted, KeptTo, LoadedTo}
use Rattle.fv_volume.specs.OneVolume.{table_for, IsReady, IsStanding}
use Rattle.fv_volume.specs.Placing.{IsLedTo, IsStoredWell}
use Rattle.fv_volume.specs.States.{States, state_at, view_over}
use Rattle.fv_volume.specs.Trees.{no_trees}
use Rattle.fv_volumes.proofs.Apart.{loaded_apart}
use Rattle.fv_volumes.proofs.CleanSlots.{loaded_clean}
use Rattle.fv_volume.proofs.Counted.{counted_within}
use Rattle.fv_volumes.proofs.LoadedStates.{in_slot, loaded_footed, loaded_states}
use Rattle.fv_volumes.proofs.LoadedTables.{loaded_stands}
use Rattle.fv_volume.proofs.OneVolumes.{still_standing}
use Rattle.fv_volumes.proofs.Standings.{seen_led, seen_standing, seen_well}
use Rattle.fv_volume.proofs.OneVolumes.{still_led, still_well}
use Rattle.fv_volumes.proofs.Told.{is_inside}

-- a volume with its container has an entry for each of its VVBNs
housed_entries : (x : VolumeState) (container : Option Mapped) → Houses (Some x) container → length (entries_in container) ≡ entry_count x.span
housed_entries x None housed = absurd housed
housed_entries x (Some map) housed = housed

module _ (pool : Pool) (states : States) (kept : KeptTo slot_count states pool.containers) (s : ℕ) (x : VolumeState) (there : state_at states s ≡ Some x) where
  labelled : IsLabelled s x
  labelled = subst (λ (o : Option VolumeState). IfSome o (IsLabelled s)) there (kept.each s)

  counted : IsCounted x
  counted = subst (λ (o : Option VolumeState). IfSome o IsCounted) there (kept.counted s)

  here : state_at states x.slot ≡ Some x
  here = ap (state_at states) labelled.slot_is ∙ there

  -- Calls can be made on it.
  pub loaded_ready : (disk : Disk) → StandsOn disk pool.store.pairs → IsSize pool.found.blocks → IsReady disk pool x
  loaded_ready disk stands size =
      let housed = housed_entries x (container_at pool.containers x.slot) (subst (λ (o : Option VolumeState). Houses o (container_at pool.containers x.slot)) here (kept.housed x.slot)) in
      let span = labelled.map in
      let most = labelled.span in
      let within = counted_within x counted span most in
      record {
        lent = record {
          within = is_inside states x.slot x kept.long here;
          stands = stands;
          few = omega (arith, span, most);
          entries = omega (arith, span, housed);
        };
        labelled = subst (λ n. IsLabelled n x) (sym labelled.slot_is) labelled;
        booked = record {
          size = ap (λ (l : Ledger). l.size) counted.ledger.ledger_is;
          kind = ap (λ (l : Ledger). l.kind) counted.ledger.ledger_is;
          span = ap (λ (l : Ledger). l.span) counted.ledger.ledger_is;
          need = ap (λ (l : Ledger). l.need) counted.ledger.ledger_is;
          charge = within;
        };
        blocks = size;
        changed = λ isnt. counted.none;
        fresh = λ isnt. counted.fresh;
      }

  -- Over an image that stands for a machine it stands for a volume of that.
  pub loaded_standing : (disk : Disk) → KnowBases states → IsTrue disk.tells → ((b : ℕ) → length (disk.reads b) ≡ 4096) → LoadedTo disk.reads pool.found slot_count states pool.containers → IsAsFound pool
      → IsMapLoaded disk.reads pool.found pool.map → (m : Machine) → Tells (layout_at (root_found pool.found) disk.reads) m → IsStanding disk pool x
  loaded_standing disk knows tells whole loaded none map m is =
      let stands = in_slot disk pool states kept loaded none knows m is whole in
      seen_standing disk pool states x (stands s x there).1 (loaded_footed disk pool states kept loaded none knows m is whole) stands
      counted.none tells
      (loaded_apart pool disk.reads states is.sound map kept loaded x.map x.slot)
      (loaded_clean pool.found disk.reads states pool.containers whole is.sound kept.few loaded)
      (subst (λ (o : Option VolumeState). IfSome o (IsState (view_over pool states disk.reads) no_trees x.slot)) here ((loaded_states disk pool states kept loaded none knows m is whole).each x.slot))
      (subst (λ (o : Option FileNumbers). AreNumbersIf o (table_for disk pool x)) (sym counted.numbers) tt)

  -- What is in use of it is led to.
  pub loaded_led : (disk : Disk) → IsTrue disk.tells → ((b : ℕ) → length (disk.reads b) ≡ 4096) → LoadedTo disk.reads pool.found slot_count states pool.containers → IsAsFound pool
      → (m : Machine) → Tells (layout_at (root_found pool.found) disk.reads) m → IsLedTo disk pool x
  loaded_led disk tells whole loaded none m is = seen_led disk pool states x (loaded_stands disk pool states kept loaded none m is whole x here) counted.none

  -- And what it leads to is stored well.
  pub loaded_well : (disk : Disk) → ((b : ℕ) → length (disk.reads b) ≡ 4096) → LoadedTo disk.reads pool.found slot_count states pool.containers → IsAsFound pool
      → (m : Machine) → Tells (layout_at (root_found pool.found) disk.reads) m → IsStoredWell disk pool x
  loaded_well disk whole loaded none m is = seen_well disk pool states x (loaded_stands disk pool states kept loaded none m is whole x here) counted.none

-- so with all of them, once the disk was read

pub all_ready : (disk : Disk) (pool : Pool) (states : States) → KeptTo slot_count states pool.containers → StandsOn disk pool.store.pairs → IsSize pool.found.blocks → (s : ℕ) → IfSome (state_at states s) (IsReady disk pool)
all_ready disk pool states kept stands size s = so (state_at states s) refl
  where
    so : (o : Option VolumeState) → state_at states s ≡ o → IfSome o (IsReady disk pool)
    so None there = tt
    so (Some x) there = loaded_ready pool states kept s x there disk stands size

pub all_standing : (old new : Disk) (pool : Pool) (states : States) → Reads old pool new pool → KeptTo slot_count states pool.containers → KnowBases states → IsTrue old.tells → ((b : ℕ) → length (old.reads b) ≡ 4096)
    → LoadedTo old.reads pool.found slot_count states pool.containers → IsAsFound pool → IsMapLoaded old.reads pool.found pool.map → (m : Machine) → Tells (layout_at (root_found pool.found) old.reads) m
    → (s : ℕ) → IfSome (state_at states s) (IsStanding new pool)
all_standing old new pool states reads kept knows tells whole loaded none map m is s = so (state_at states s) refl
  where
    so : (o : Option VolumeState) → state_at states s ≡ o → IfSome o (IsStanding new pool)
    so None there = tt
    so (Some x) there = still_standing old new pool pool reads x (loaded_standing pool states kept s x there old knows tells whole loaded none map m is)

pub all_led : (old new : Disk) (pool : Pool) (states : States) → Reads old pool new pool → KeptTo slot_count states pool.containers → IsTrue old.tells → ((b : ℕ) → length (old.reads b) ≡ 4096)
    → LoadedTo old.reads pool.found slot_count states pool.containers → IsAsFound pool → (m : Machine) → Tells (layout_at (root_found pool.found) old.reads) m
    → (s : ℕ) → IfSome (state_at states s) (IsLedTo new pool)
all_led old new pool states reads kept tells whole loaded none m is s = so (state_at states s) refl
  where
    so : (o : Option VolumeState) → state_at states s ≡ o → IfSome o (IsLedTo new pool)
    so None there = tt
    so (Some x) there = still_led old new pool pool reads x (loaded_led pool states kept s x there old tells whole loaded none m is)

pub all_well : (old new : Disk) (pool : Pool) (states : States) → Reads old pool new pool → KeptTo slot_count states pool.containers → ((b : ℕ) → length (old.reads b) ≡ 4096)
    → LoadedTo old.reads pool.found slot_count states pool.containers → IsAsFound pool → (m : Machine) → Tells (layout_at (root_found pool.found) old.reads) m
    → (s : ℕ) → IfSome (state_at states s) (IsStoredWell new pool)
all_well old new pool states reads kept whole loaded none m is s = so (state_at states s) refl
  where
    so : (o : Option VolumeState) → state_at states s ≡ o → IfSome o (IsStoredWell new pool)
    so None there = tt
    so (Some x) there = still_well old new pool pool reads x (loaded_well pool states kept s x there old whole loaded none m is)
