-- Over a disk that reads as before a volume of a session is what it was between points.
use Rattle.std.proofs.Common.{◌≡◌, ◌+◌, ◌≤◌, ℕ, Option, Some, None, sym, ap, subst, ◌∙◌, refl}
use Rattle.std.specs.Prelude.{All, IfSome, IsTrue}
use Rattle.std.specs.FinSet as set
use Rattle.fv_model.specs.Space.{base_ids}
use Rattle.fv_model.specs.Volumes.{Base}
use Rattle.fv_disk.specs.Shown.{Image, Shown}
use Rattle.fv_disk.specs.DiskCalls.{Stays}
use Rattle.fv_laws.specs.WellFormed.{IsWellTable}
use Rattle.fv_laws.specs.Positions.{HasNoReserve}
use Rattle.fv_tree.specs.Standing.{under}
use Rattle.fv_charge.specs.Ledgers.{IsLedgerOf}
use Rattle.fv_store.specs.Held.{StandsOn}
use Rattle.fv_container.specs.Chains.{AreCleanOn}
use Rattle.fv_files.specs.Numbering.{AreNumbersIf}
use Rattle.fv_pool.specs.declared.pool.Pool.{Pool}
use Rattle.fv_volume.specs.declared.state.VolumeState.{VolumeState}
use Rattle.fv_volume.specs.Held.{named_held, IsHeldIn, IsReadyIn}
use Rattle.fv_pool.specs.Tables.{AreLaidBy, AreSoundBy, AreLedBy, AreStoredBy}
use Rattle.fv_volume.specs.OneVolume.{blocks_in, shows, table_for, trees_for, volume_for, IsKeptTable, IsReady, IsStanding, base_by, tables_of}
use Rattle.fv_volume.specs.Placing.{IsLedTo, IsStoredWell}
use Rattle.fv_volume.specs.Sharing.{AreShared}

module _ (d e : Shown) (stays : Stays d e) (pool : Pool) where
  -- the disk with another image to read
  abbrev over : Image → Shown
  over i = record d { reads = i }

  stands_still : StandsOn d pool.store.pairs → StandsOn e pool.store.pairs
  stands_still stands = record { same = λ tells pvbn block has. stands.same (subst IsTrue stays.tells tells) pvbn block has ∙ ap (λ (i : Image). i pvbn) (sym stays.reads) }

  ready_still : (x : VolumeState) → IsReady d pool x → IsReady e pool x
  ready_still x is = record {
    lent = record { within = is.lent.within; stands = stands_still is.lent.stands; few = is.lent.few; entries = is.lent.entries };
    labelled = is.labelled;
    booked = is.booked;
    blocks = is.blocks;
    changed = is.changed;
    fresh = is.fresh;
  }

  standing_still : (x : VolumeState) → IsStanding d pool x → IsStanding e pool x
  standing_still x is = record {
    told = (subst IsTrue (sym stays.tells) is.told.0, is.told.1, subst (λ (i : Image). AreCleanOn i pool.containers) (sym stays.reads) is.told.2);
    table = subst (λ (i : Image). IsWellTable x.now (table_for (over i) pool x)) (sym stays.reads) is.table;
    reserves = subst (λ (i : Image). HasNoReserve (table_for (over i) pool x)) (sym stays.reads) is.reserves;
    kept = subst (λ (i : Image). All (IsKeptTable (over i) pool x) (tables_of x)) (sym stays.reads) is.kept;
    names = is.names;
    shared = subst (λ (i : Image). AreShared (trees_for (over i) pool x) (blocks_in (over i) pool x) (tables_of x)) (sym stays.reads) is.shared;
    ledger = subst (λ (i : Image). IsLedgerOf (volume_for (over i) pool x) x.ledger) (sym stays.reads) is.ledger;
    trees = subst (λ (i : Image). AreSoundBy (under (shows (over i) pool x)) (shows d pool x).used x.active x.files) (sym stays.reads) is.trees;
    laid = subst (λ (i : Image). AreLaidBy (under (shows (over i) pool x)) x.files) (sym stays.reads) is.laid;
    numbers = subst (λ (i : Image). AreNumbersIf x.numbers (table_for (over i) pool x)) (sym stays.reads) is.numbers;
  }

  led_still : (x : VolumeState) → IsLedTo d pool x → IsLedTo e pool x
  led_still x is = subst (λ (i : Image). AreLedBy (under (shows (over i) pool x)) (shows d pool x).used x.active x.files) (sym stays.reads) is

  well_still : (x : VolumeState) → IsStoredWell d pool x → IsStoredWell e pool x
  well_still x is = subst (λ (i : Image). AreStoredBy x.known (under (shows (over i) pool x)) x.active x.files) (sym stays.reads) is

  -- calls can be made on it
  pub ready_rests : (s : ℕ) (o : Option VolumeState) → IfSome o (IsReadyIn d pool s) → IfSome o (IsReadyIn e pool s)
  ready_rests s None is = tt
  ready_rests s (Some x) is = record { slot = is.slot; ready = ready_still x is.ready }

  -- it stands for a volume of the machine
  pub held_rests : (s : ℕ) (o : Option VolumeState) → IfSome o (IsHeldIn d pool s) → IfSome o (IsHeldIn e pool s)
  held_rests s None is = tt
  held_rests s (Some x) is = record {
    slot = is.slot;
    ready = ready_still x is.ready;
    stands = standing_still x is.stands;
    led = led_still x is.led;
    well = well_still x is.well;
    wide = subst (λ (o : Option Base). x.most + (set.len (base_ids o) + 256) ≤ x.span) (ap (λ (i : Image). base_by (blocks_in (over i) pool x) x.base) (sym stays.reads)) is.wide;
    within = is.within;
  }

  -- and for the one that it stood for
  pub named_rests : (o : Option VolumeState) → named_held e pool o ≡ named_held d pool o
  named_rests None = refl
  named_rests (Some x) = ap (λ (i : Image). named_held (over i) pool (Some x)) stays.reads
