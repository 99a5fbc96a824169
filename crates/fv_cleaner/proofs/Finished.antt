-- A volume of which no root pointer is unknown has all places known: what the end of cleaning says is true of it. It is held with that, and stands
-- for the volume that it stood for, known.
use Rattle.std.proofs.Common.{◌≡◌, ◌≤◌, ◌==◌, ℕ, cond, arith, Bool, true, false, true≢false, ◌||◌, List, [], ◌∷◌, ◌++◌, map, Option, Some, None, inl, inr, refl, sym, ap, subst, ◌∙◌}
use Rattle.std.specs.Prelude.{All, IfSome}
use Rattle.std.specs.List.{list_any}
use Rattle.std.proofs.lemmas.Bool.{both_ways}
use Rattle.fv_disk.specs.Shown.{Shown as Disk}
use Rattle.fv_charge.specs.Ledgers.{IsLedgerOf}
use Rattle.fv_charge.specs.declared.ledger.Ledger.{Ledger}
use Rattle.fv_codec.specs.declared.pointer.Pointer.{Pointer}
use Rattle.fv_laws.proofs.Lists.{In}
use Rattle.fv_model.specs.Space.{charge, need}
use Rattle.fv_model.specs.Volumes.{Volume}
use Rattle.fv_tables.specs.Spelled.{Under}
use Rattle.fv_tree.specs.Sources.{Use}
use Rattle.fv_volmap.specs.Slots.{Slot}
use Rattle.fv_image.specs.HintRules.{is_splitting, is_unknown}
use Rattle.fv_pool.specs.declared.pool.Pool.{Pool}
use Rattle.fv_pool.specs.declared.rooted.Rooted.{Rooted}
use Rattle.fv_volume.specs.declared.state.Base.{Base}
use Rattle.fv_volume.specs.declared.state.Snap.{Snap}
use Rattle.fv_volume.specs.declared.state.VolumeState.{VolumeState}
use Rattle.fv_volume.specs.Files.{IsLabelled}
use Rattle.fv_volume.specs.Held.{IsHeldIn}
use Rattle.fv_volume.specs.Labels.{label_said, splitting_said}
use Rattle.fv_volume.specs.States.{head_in}
use Rattle.fv_image.specs.Views.{Footing}
use Rattle.fv_image.specs.Volumes.{snap_at}
use Rattle.fv_codec.specs.Fields.{up_to}
use Rattle.fv_volume.proofs.TablesOf.{head_whole}
use Rattle.fv_volume.specs.OneVolume.{base_table, tables_of, volume_for, IsKeptTable, IsStanding, IsTableIn, RootStands}
use Rattle.fv_volume.proofs.ActiveRoot.{root_leads, root_standing, root_well}
use Rattle.fv_volume.proofs.ActiveStands.{active_stands}
use Rattle.fv_volume.proofs.EachRoot.{all_among, all_in}
use Rattle.fv_cleaner.specs.Cleaning.{known_now}
use Rattle.fv_cleaner.specs.Stepping.{root_of_snap, roots_of}
use Rattle.fv_cleaner.proofs.Known.{all_known, IsKnownRoot}
use Rattle.fv_cleaner.proofs.Moving.{is_without}

-- a pointer that isn't unknown tells its place
pub not_unknown : (p : Pointer) → is_unknown p ≡ false → IsKnownRoot p
not_unknown p known some none = both_ways (is_unknown p) known (is_without p some none)

-- the table of a known root has all places known
pub table_known : (known : Bool) (blocks : Under) (uses : ℕ → Option Use) (slot : Slot) (now : ℕ) (root : Rooted) → IsKnownRoot root.root → IsTableIn known blocks uses slot now root → IsTableIn true blocks uses slot now root
table_known true blocks uses slot now root tells is = is
table_known false blocks uses slot now root tells is = record {
  table = is.table;
  reserves = is.reserves;
  trees = is.trees;
  well = all_known blocks root.levels root.root tells is.well;
  reach = is.reach;
}

-- the charge and the need of a volume look at no places
ledger_known : (w : Volume) (l : Ledger) → IsLedgerOf w l → IsLedgerOf (record w { known = true }) l
unfolding charge need
ledger_known w l is = record { charged = is.charged; needed = is.needed; size = is.size; kind = is.kind; span = is.span }

-- a volume that isn't being split may say that it is known
not_split : (o : Option Footing) → is_splitting o ≡ false → splitting_said o ≡ 0
not_split None whole = refl
not_split (Some b) whole = ap (λ (t : Bool). cond {A = ℕ} t 1 0) whole

pub labelled_known : (s : ℕ) (x : VolumeState) → IsLabelled s x → IsLabelled s (known_now x)
unfolding label_said snap_at
labelled_known s x is = record {
  slot_is = is.slot_is;
  form = is.form;
  span = is.span;
  map = is.map;
  snapshots = record { slots = record { within = is.snapshots.slots.within; rising = is.snapshots.slots.rising }; each = is.snapshots.each };
  slots = record { each = is.slots.each; base = is.slots.base };
  waits = is.waits;
  counts = is.counts;
  levels = is.levels;
  named = is.named;
  label = λ container height place low high. let l = is.label container height place low high in record {
    name_least = l.name_least;
    name_greatest = l.name_greatest;
    name = l.name;
    kind = l.kind;
    size_least = l.size_least;
    size_greatest = l.size_greatest;
    most_least = l.most_least;
    most_greatest = l.most_greatest;
    span_least = l.span_least;
    span_greatest = l.span_greatest;
    span_step = l.span_step;
    now = l.now;
    parent = l.parent;
    base_least = l.base_least;
    base_greatest = l.base_greatest;
    splitting = l.splitting;
    known = subst (λ (n : ℕ). 1 ≤ up_to (n == 0) 1) (sym (not_split (head_in x).base (head_whole s x is))) (omega arith);
    container = l.container;
    height_least = l.height_least;
    height_greatest = l.height_greatest;
    levels = l.levels;
    root = l.root;
    snapshots = l.snapshots;
  };
}

snap_root : (snaps : List Snap) → list_any is_unknown (map root_of_snap snaps) ≡ false → (q : Snap) → In q snaps → is_unknown q.table.root ≡ false
snap_root [] none q there = absurd there
snap_root (s ∷ ss) none q there = by (is_unknown s.table.root) refl none there (λ rest one. snap_root ss rest q one)
  where
    by : (b : Bool) → is_unknown s.table.root ≡ b → (b || list_any is_unknown (map root_of_snap ss)) ≡ false → In q (s ∷ ss) → (list_any is_unknown (map root_of_snap ss) ≡ false → In q ss → is_unknown q.table.root ≡ false) → is_unknown q.table.root ≡ false
    by true e none one later = absurd cc
    by false e none (inl same) later = ap (λ (p : Snap). is_unknown p.table.root) (sym same) ∙ e
    by false e none (inr one) later = later none one

module _ (disk : Disk) (pool : Pool) (slot : ℕ) (x : VolumeState) (held : IsHeldIn disk pool slot x) (files : x.files ≡ None) (none : list_any is_unknown (roots_of x) ≡ false)
    -- the root of the table that it stands on is known, as that of a known volume's snapshot
    (base : IfSome x.base (λ b. IsKnownRoot b.table.root)) where
  stands : IsStanding disk pool x
  stands = held.stands

  abbrev k : VolumeState
  k = known_now x

  first : is_unknown x.active.root ≡ false
  first = left (is_unknown x.active.root) (list_any is_unknown (map root_of_snap x.snapshots)) none
    where
      left : (a b : Bool) → (a || b) ≡ false → a ≡ false
      left true b e = absurd cc
      left false b e = refl

  rest : list_any is_unknown (map root_of_snap x.snapshots) ≡ false
  rest = right (is_unknown x.active.root) (list_any is_unknown (map root_of_snap x.snapshots)) none
    where
      right : (a b : Bool) → (a || b) ≡ false → b ≡ false
      right true b e = absurd cc
      right false b e = e

  -- the tables that are kept have known roots
  pub kept_known : (q : Snap) → In q (tables_of x) → IsKnownRoot q.table.root
  kept_known q = by x.base base
    where
      by : (o : Option Base) → IfSome o (λ b. IsKnownRoot b.table.root) → In q (base_table o ++ x.snapshots) → IsKnownRoot q.table.root
      by None known there = not_unknown q.table.root (snap_root x.snapshots rest q there)
      by (Some b) known (inl same) = subst (λ (p : Snap). IsKnownRoot p.table.root) same known
      by (Some b) known (inr there) = not_unknown q.table.root (snap_root x.snapshots rest q there)

  active : RootStands disk pool x 0 x.active
  active = active_stands disk pool x stands files held.led held.well

  active_now : RootStands disk pool k 0 k.active
  active_now = table_known x.known _ _ _ _ x.active (not_unknown x.active.root first) active

  kept_now : All (IsKeptTable disk pool k) (tables_of k)
  kept_now = all_among (IsKeptTable disk pool k) (tables_of x) (λ q there. let is = all_in (IsKeptTable disk pool x) (tables_of x) stands.kept q there in (is.0, table_known x.known _ _ _ _ q.table (kept_known q there) is.1))

  stands_now : IsStanding disk pool k
  stands_now = root_standing disk pool k active_now files stands.told kept_now stands.names stands.shared (ledger_known (volume_for disk pool x) x.ledger stands.ledger) stands.numbers

  -- It stands for the volume that it stood for, known,
  pub finished_volume : volume_for disk pool k ≡ record (volume_for disk pool x) { known = true }
  finished_volume = refl

  -- and is held.
  pub finished_held : IsHeldIn disk pool slot k
  finished_held = record {
    slot = held.slot;
    ready = record {
      lent = held.ready.lent;
      labelled = labelled_known x.slot x held.ready.labelled;
      booked = record { size = held.ready.booked.size; kind = held.ready.booked.kind; span = held.ready.booked.span; need = held.ready.booked.need; charge = held.ready.booked.charge };
      blocks = held.ready.blocks;
      changed = λ e. absurd (true≢false e);
      fresh = λ e. absurd (true≢false e);
    };
    stands = stands_now;
    led = root_leads disk pool k active_now files;
    well = root_well disk pool k active_now files;
    wide = held.wide;
    within = held.within;
  }
