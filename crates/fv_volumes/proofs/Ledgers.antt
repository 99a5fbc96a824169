-- The ledgers of the volumes that were read are counted.
use Rattle.std.proofs.Common.{◌≡◌, ◌≢◌, ◌<◌, ◌≤◌, ◌+◌, ℕ, length, set, Option, Some, None, refl, sym, ap, subst, ◌∙◌, ⊎_elim, arith, length-set, get_or-set_same, get_or-set_other}
use Rattle.std.specs.Prelude.{IfSome}
use Rattle.std.proofs.lemmas.Bool.{cases_eq, cases_lt}
use Rattle.std.proofs.lemmas.List.{get_or_past}
use Rattle.fv_disk.specs.Shown.{Image}
use Rattle.fv_charge.specs.declared.ledger.Ledger.{Ledger}
use Rattle.fv_container.specs.Chains.{Slots, container_at, paged_at, slot_count}
use Rattle.fv_container.specs.Mapped.{Mapped}
use Rattle.fv_container.specs.Paged.{Paged}
use Rattle.fv_root.specs.declared.find.Found.{Found}
use Rattle.fv_volume.specs.declared.state.VolumeState.{VolumeState}
use Rattle.fv_volume.specs.Files.{IsLabelled}
use Rattle.fv_volume.specs.Labels.{label_said}
use Rattle.fv_volume.specs.Loading.{AreCountedTo, Counts, Houses, IsCountable, IsCounted, IsLoaded, IsRead, KeptTo, LoadedTo, ReadTo}
use Rattle.fv_volume.specs.States.{States, parent_in, state_at}

-- the ledger of each volume that was read can be counted
pub countable : (states : States) → ((s : ℕ) → IfSome (state_at states s) (IsLabelled s)) → ((s : ℕ) → IfSome (state_at states s) IsRead) → (s : ℕ) → IfSome (state_at states s) IsCountable
countable states labelled read s = by (state_at states s) (labelled s) (read s)
  where
    by : (o : Option VolumeState) → IfSome o (IsLabelled s) → IfSome o IsRead → IfSome o IsCountable
    by None a b = tt
    by (Some x) a b = record { map = a.map; span = a.span; few = b.few }

-- ---- one slot more

pub none_yet : (states : States) → AreCountedTo 0 states states
none_yet states = record { long = refl; done = λ s low. absurd (omega (arith, low)); others = λ s past. refl }

pub counts_more : (count : ℕ) (old mid : States) (x : Option VolumeState) → count < length mid → AreCountedTo count old mid → Counts (state_at mid count) x → AreCountedTo (count + 1) old (set mid count x)
counts_more count old mid x within was counts = record {
  long = length-set mid count x ∙ was.long;
  done = λ s low. ⊎_elim
      (λ (here : s ≡ count).
      subst (λ (k : ℕ). Counts (state_at old k) (state_at (set mid count x) k)) (sym here)
      (subst (λ (o : Option VolumeState). Counts (state_at old count) o) (sym (get_or-set_same mid count x None within))
      (subst (λ (o : Option VolumeState). Counts o x) (was.others count (omega arith)) counts)))
      (λ (other : s ≢ count). subst (λ (o : Option VolumeState). Counts (state_at old s) o) (sym (get_or-set_other mid count s x None other)) (was.done s (omega (arith, low, other))))
      (cases_eq s count);
  others = λ s past. get_or-set_other mid count s x None (λ (here : s ≡ count). absurd (omega (arith, here, past))) ∙ was.others s (omega (arith, past));
}

-- ---- one volume

module _ (s : ℕ) where
  labelled_still : (old new : Option VolumeState) → Counts old new → IfSome old (IsLabelled s) → IfSome new (IsLabelled s)
  unfolding label_said
  labelled_still None new counts is = subst (λ (o : Option VolumeState). IfSome o (IsLabelled s)) (sym counts) tt
  labelled_still (Some x) new counts is = subst (λ (o : Option VolumeState). IfSome o (IsLabelled s)) (sym counts.1.0) (record {
    slot_is = is.slot_is;
    form = is.form;
    span = is.span;
    map = is.map;
    snapshots = is.snapshots;
    slots = is.slots;
    waits = is.waits;
    counts = ap (λ (l : Ledger). l.span) counts.1.1.1.ledger_is;
    levels = is.levels;
    named = is.named;
    label = is.label;
  })

  loaded_still : (i : Image) (found : Found) (old new : Option VolumeState) (c : Option Paged) → Counts old new → IsLoaded i found s old c → IsLoaded i found s new c
  loaded_still i found None new c counts is = subst (λ (o : Option VolumeState). IsLoaded i found s o c) (sym counts) is
  loaded_still i found (Some x) new c counts is = subst (λ (o : Option VolumeState). IsLoaded i found s o c) (sym counts.1.0) (record {
    head = is.head;
    tree = is.tree;
    clean = is.clean;
    label = is.label;
    bits = is.bits;
    changed = is.changed;
  })

now_counted : (old new : Option VolumeState) → Counts old new → IfSome old IsRead → IfSome new IsCounted
now_counted None new counts is = subst (λ (o : Option VolumeState). IfSome o IsCounted) (sym counts) tt
now_counted (Some x) new counts is = subst (λ (o : Option VolumeState). IfSome o IsCounted) (sym counts.1.0) (record {
  valid = counts.1.1.0;
  few = is.few;
  ledger = counts.1.1.1;
  none = is.none;
  numbers = is.numbers;
  fresh = is.fresh;
})

housed_still : (old new : Option VolumeState) (c : Option Mapped) → Counts old new → Houses old c → Houses new c
housed_still None new c counts is = subst (λ (o : Option VolumeState). Houses o c) (sym counts) tt
housed_still (Some x) new None counts is = absurd is
housed_still (Some x) new (Some map) counts is = subst (λ (o : Option VolumeState). Houses o (Some map)) (sym counts.1.0) is

parent_still : (old new : Option VolumeState) → Counts old new → parent_in old ≡ parent_in new
parent_still None new counts = ap parent_in (sym counts)
parent_still (Some x) new counts = ap parent_in (sym counts.1.0)

-- ---- all volumes

module _ (states now : States) (containers : Slots) (read : ReadTo slot_count states containers) (counted : AreCountedTo slot_count states now) where
  each_counts : (s : ℕ) → Counts (state_at states s) (state_at now s)
  each_counts s = ⊎_elim
      (λ (inside : s < slot_count). counted.done s inside)
      (λ (past : slot_count ≤ s).
      let none : state_at states s ≡ None = get_or_past states s None (omega (arith, read.long, past)) in
      subst (λ (o : Option VolumeState). Counts o (state_at now s)) (sym none) (counted.others s past ∙ none))
      (cases_lt s slot_count)

  -- So the slots are filled, each with its ledger,
  pub counted_kept : KeptTo slot_count now containers
  counted_kept = record {
    long = counted.long ∙ read.long;
    few = read.few;
    free = read.free;
    each = λ s. labelled_still s (state_at states s) (state_at now s) (each_counts s) (read.each s);
    counted = λ s. now_counted (state_at states s) (state_at now s) (each_counts s) (read.read s);
    housed = λ s. housed_still (state_at states s) (state_at now s) (container_at containers s) (each_counts s) (read.housed s);
    parents = λ s. read.parents s ∙ parent_still (state_at states s) (state_at now s) (each_counts s);
  }

  -- and the volumes are loaded.
  pub counted_loaded : (i : Image) (found : Found) → LoadedTo i found slot_count states containers → LoadedTo i found slot_count now containers
  counted_loaded i found loaded = record { each = λ s inside. loaded_still s i found (state_at states s) (state_at now s) (paged_at containers s) (each_counts s) (loaded.each s inside) }
