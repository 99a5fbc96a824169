-- A session after a clean step, whatever the step did: all its volumes are held, and stand for what they stood for.
use Rattle.std.proofs.Common.{◌≡◌, ◌≢◌, ◌<◌, ◌≤◌, ◌+◌, ℕ, true, false, true≢false, length, Option, Some, None, inl, inr, refl, sym, ap, subst, ◌∙◌, ⊎_elim, arith, get_or-set_same, get_or-set_other, length-set}
use Rattle.std.specs.Prelude.{All, IfSome, is_some}
use Rattle.std.specs.Option.{option_map}
use Rattle.std.specs.FinSet as set
use Rattle.std.proofs.lemmas.Bool.{cases_eq}
use Rattle.std.proofs.lemmas.List.Sums.{sum_by-set}
use Rattle.std.proofs.lemmas.Option.{same_Some}
use Rattle.fv_disk.specs.Shown.{Shown as Disk}
use Rattle.fv_disk.specs.DiskCalls.{OnlyReads}
use Rattle.fv_charge.specs.declared.ledger.Ledger.{Ledger}
use Rattle.fv_charge.specs.Ledgers.{committed}
use Rattle.fv_container.specs.Mapped.{Mapped}
use Rattle.fv_container.specs.Chains.{AreCleanOn, Slots, TellsEntries, container_at, own_entry}
use Rattle.fv_image.specs.Views.{entry_count}
use Rattle.fv_model.specs.Space.{base_ids}
use Rattle.fv_model.specs.Volumes.{Volume}
use Rattle.fv_root.specs.declared.find.Found.{Found}
use Rattle.fv_root.specs.Formatted.{IsSize}
use Rattle.fv_store.specs.Held.{StandsOn}
use Rattle.fv_volmap.specs.Slots.{Volume as Maps, has, slot_at, slot_of_base}
use Rattle.fv_pool.specs.declared.pool.Pool.{Pool}
use Rattle.fv_pool.specs.BlocksOver.{LeavesPool, LoadsPool, entries_in}
use Rattle.fv_volume.specs.declared.state.Base.{Base}
use Rattle.fv_volume.specs.declared.state.VolumeState.{VolumeState}
use Rattle.fv_volume.specs.Files.{AreNamed, IsLabelled}
use Rattle.fv_volume.specs.Held.{IsHeldIn}
use Rattle.fv_volume.specs.Loading.{Houses}
use Rattle.fv_volume.specs.OneVolume.{volume_for}
use Rattle.fv_volume.specs.Placing.{StaysBeside}
use Rattle.fv_volume.specs.Slots.{committed_by, sum_of}
use Rattle.fv_volume.specs.States.{States, parent_in, state_at, with_state}
use Rattle.fv_volumes.specs.Footing.{AreFooted, IsOnBase}
use Rattle.fv_volumes.specs.Housed.{AreHoused}
use Rattle.fv_volumes.proofs.Footed.{each_stands, footed_stay, KeepsFooting}
use Rattle.fv_volumes.proofs.Made.{from_pairs, to_pair}
use Rattle.fv_volumes.proofs.Others.{beside_loads}
use Rattle.fv_cleaner.specs.Searching.{Lies, lies_in}
use Rattle.fv_cleaner.specs.Staying.{MayBeCleaned, StandsAfterStep, StandsCleaned}
use Rattle.fv_cleaner.specs.Stepping.{FillsRoots, IsRootClear, roots_of}
use Rattle.fv_cleaner.proofs.Cleaned.{block_stands}
use Rattle.fv_cleaner.proofs.Lying.{same_lies}
use Rattle.fv_cleaner.proofs.RootsHeld.{roots_held, roots_volume}

-- ---- nothing changed but the cache

loads_from : (disk : Disk) (pool left : Pool) → LeavesPool pool left → LoadsPool disk pool left
loads_from disk pool left leaves = record {
  map = leaves.map;
  kept = leaves.kept;
  found = leaves.found;
  version = leaves.version;
  containers = record {
    maps = λ s. ap (λ (c : Slots). container_at c s) leaves.containers;
    parents = ap (λ (c : Slots). c.parents) leaves.containers;
    clean = λ tells. subst (AreCleanOn disk.reads) (sym leaves.containers) tells.1;
  };
}

module _ (disk after : Disk) (pool left : Pool) (leaves : LeavesPool pool left) (reads : OnlyReads disk after) (store : StandsOn after left.store.pairs) where
  stays : (s : ℕ) (z : VolumeState) → IsHeldIn disk pool s z → StaysBeside disk pool after left z
  stays s z is = beside_loads disk after pool left (loads_from disk pool left leaves) reads z is.stands

  -- each volume is held as it was
  pub held_still : (s : ℕ) (z : VolumeState) → IsHeldIn disk pool s z → IsHeldIn after left s z
  held_still s z was = record {
    slot = was.slot;
    ready = record {
      lent = record {
        within = was.ready.lent.within;
        stands = store;
        few = was.ready.lent.few;
        entries = subst (λ (c : Slots). z.map.span ≤ length (entries_in (container_at c z.slot))) (sym leaves.containers) was.ready.lent.entries;
      };
      labelled = was.ready.labelled;
      booked = was.ready.booked;
      blocks = subst (λ (f : Found). IsSize f.blocks) (sym leaves.found) was.ready.blocks;
      changed = was.ready.changed;
      fresh = was.ready.fresh;
    };
    stands = (stays s z was).standing;
    led = (stays s z was).led was.led;
    well = (stays s z was).well was.well;
    wide = subst (λ (v : Volume). v.most + (set.len (base_ids v.base) + 256) ≤ v.span) (sym (stays s z was).volume) was.wide;
    within = was.within;
  }

-- ---- a volume that changed in nothing that others see

module _ (disk after : Disk) (pool left : Pool) (states : States) (slot : ℕ) (x y : VolumeState) (may : MayBeCleaned disk pool states slot x) (leaves : LeavesPool pool left) (reads : OnlyReads disk after) (store : StandsOn after left.store.pairs)
    (held_y : IsHeldIn after left slot y) (told_same : volume_for after left y ≡ volume_for disk pool x)
    (slot_is : y.slot ≡ x.slot) (name_is : y.name ≡ x.name) (span_is : y.span ≡ x.span) (known_is : y.known ≡ x.known) (base_is : y.base ≡ x.base) (map_is : y.map ≡ x.map) (ledger_is : y.ledger ≡ x.ledger) where
  held : IsHeldIn disk pool slot x
  held = subst (λ (o : Option VolumeState). IfSome o (IsHeldIn disk pool slot)) may.there (may.each slot)

  abbrev stay : States
  stay = with_state states slot (Some y)

  inside : slot < length states
  inside = let low = held.ready.lent.within in let at = held.slot in let long = may.housed.long in omega (arith, low, at, long)

  here : state_at stay slot ≡ Some y
  here = get_or-set_same states slot (Some y) None inside

  others : (k : ℕ) → k ≢ slot → state_at stay k ≡ state_at states k
  others k differ = get_or-set_other states slot k (Some y) None differ

  houses : (c : Option Mapped) → Houses (Some x) c → Houses (Some y) c
  houses None was = absurd was
  houses (Some m) was = was ∙ ap entry_count (sym span_is)

  housed_pool : AreHoused pool.containers stay
  housed_pool = record {
    long = length-set states slot (Some y) ∙ may.housed.long;
    volumes = λ s. ⊎_elim
        (λ (e : s ≡ slot). subst (λ (n : ℕ). IfSome (state_at stay n) (IsLabelled n)) (sym e) (subst (λ (o : Option VolumeState). IfSome o (IsLabelled slot)) (sym here) (subst (λ (n : ℕ). IsLabelled n y) held_y.slot held_y.ready.labelled)))
        (λ (other : s ≢ slot). subst (λ (o : Option VolumeState). IfSome o (IsLabelled s)) (sym (others s other)) (may.housed.volumes s))
        (cases_eq s slot);
    each = λ s. ⊎_elim
        (λ (e : s ≡ slot). subst (λ (n : ℕ). Houses (state_at stay n) (container_at pool.containers n)) (sym e) (subst (λ (o : Option VolumeState). Houses o (container_at pool.containers slot)) (sym here)
        (houses (container_at pool.containers slot) (subst (λ (o : Option VolumeState). Houses o (container_at pool.containers slot)) may.there (may.housed.each slot)))))
        (λ (other : s ≢ slot). subst (λ (o : Option VolumeState). Houses o (container_at pool.containers s)) (sym (others s other)) (may.housed.each s))
        (cases_eq s slot);
    parents = λ s. may.housed.parents s ∙ ⊎_elim
        (λ (e : s ≡ slot). ap (λ (n : ℕ). parent_in (state_at states n)) e ∙ ap parent_in may.there ∙ ap (λ (o : Option Base). option_map (λ (b : Base). b.parent) o) (sym base_is) ∙ sym (ap parent_in here) ∙ sym (ap (λ (n : ℕ). parent_in (state_at stay n)) e))
        (λ (other : s ≢ slot). ap parent_in (sym (others s other)))
        (cases_eq s slot);
  }

  -- none stands on it
  abbrev Never : ℕ → Type 0
  Never k = ⊥

  keeps : KeepsFooting Never x y
  keeps = record {
    slot = slot_is;
    name = name_is;
    span = span_is;
    known = known_is;
    base = base_is;
    found = λ k never. absurd never;
    maps = λ k never. absurd never;
    based = λ v. ap (λ (m : Maps). has v (slot_at m slot_of_base)) map_is;
  }

  never_stood : (s : ℕ) (c : VolumeState) (b : Base) → state_at states s ≡ Some c → c.base ≡ Some b → b.parent ≡ slot → ⊥
  never_stood s c b at based up =
      let is = (each_stands states pool.containers may.footed s c b at based).0 in
      let this : is.parent ≡ x = same_Some is.parent x (sym is.there ∙ ap (state_at states) up ∙ may.there) in
      true≢false (sym is.known ∙ ap (λ (z : VolumeState). z.known) this ∙ may.unclean)

  on_base : IsOnBase pool.containers x → IsOnBase left.containers y
  on_base is = record {
    leaves = λ v had. entries v ∙ is.leaves v (ap (λ (m : Maps). has v (slot_at m slot_of_base)) (sym map_is) ∙ had);
    rests = λ k v low had. ⊎_elim
        (λ own. inl (ap is_some (entries v) ∙ own))
        (λ based. inr (ap (λ (m : Maps). has v (slot_at m slot_of_base)) map_is ∙ based))
        (is.rests k v low (ap (λ (m : Maps). has v (slot_at m k)) (sym map_is) ∙ had));
  }
    where
      entries : (v : ℕ) → own_entry (container_at left.containers y.slot) v ≡ own_entry (container_at pool.containers x.slot) v
      entries v = λ i. own_entry (container_at (leaves.containers i) (slot_is i)) v

  footed_now : AreFooted stay left.containers
  footed_now = footed_stay states stay slot x y may.there here others Never keeps pool.containers left.containers never_stood on_base
      (λ s c differ at is. subst (λ (z : Slots). IsOnBase z c) (sym leaves.containers) is) may.footed

  record Named (s : ℕ) (c : VolumeState) : Type 0 where
    volume : VolumeState
    there_is : state_at states s ≡ Some volume
    same : c.name ≡ volume.name

  was_named : (s : ℕ) (c : VolumeState) → state_at stay s ≡ Some c → Named s c
  was_named s c at = ⊎_elim
      (λ (e : s ≡ slot). record { volume = x; there_is = ap (state_at states) e ∙ may.there; same = ap (λ (z : VolumeState). z.name) (same_Some c y (sym at ∙ ap (state_at stay) e ∙ here)) ∙ name_is })
      (λ (other : s ≢ slot). record { volume = c; there_is = sym (others s other) ∙ at; same = refl })
      (cases_eq s slot)

  named_now : AreNamed states → AreNamed stay
  named_now named = from_pairs stay (λ s k c d first second same.
      let a = was_named s c first in
      let b = was_named k d second in
      to_pair states named s k a.volume b.volume a.there_is b.there_is (sym a.same ∙ same ∙ b.same))

  commits_now : sum_of stay ≡ sum_of states
  commits_now =
      let sum = sum_by-set committed_by states slot (Some y) None inside in
      let was : committed_by (state_at states slot) ≡ committed_by (Some x) = ap committed_by may.there in
      let now : committed_by (Some y) ≡ committed_by (Some x) = ap (λ (l : Ledger). committed l) ledger_is in
      omega (arith, sum, was, now)

  one : (s : ℕ) (z : VolumeState) → state_at states s ≡ Some z → IsHeldIn disk pool s z
  one s z there = subst (λ (o : Option VolumeState). IfSome o (IsHeldIn disk pool s)) there (may.each s)

  pub label_stands : StandsCleaned disk pool states slot x after left y
  label_stands = record {
    held = held_y;
    name = name_is;
    found = leaves.found;
    version = leaves.version;
    volume = told_same;
    others = record {
      held = λ s z other there. held_still disk after pool left leaves reads store s z (one s z there);
      volume = λ s z other there. (stays disk after pool left leaves reads store s z (one s z there)).volume;
    };
    housed = subst (λ (c : Slots). AreHoused c stay) (sym leaves.containers) housed_pool;
    footed = footed_now;
    named = named_now;
    commits = commits_now;
  }

-- ---- a step

-- A session stands after each clean step.
pub stands_after_step : StandsAfterStep
stands_after_step disk after pool left states slot x y true may (inl block) reads store = block_stands disk after pool left states slot x y may block reads store
stands_after_step disk after pool left states slot x y true may (inr roots) reads store =
    label_stands disk after pool left states slot x y may roots.leaves reads store
    (roots_held after left slot x y still may.files may.unclean (TellsEntries disk pool.containers) told fills clear)
    (roots_volume after left slot x y still may.files may.unclean (TellsEntries disk pool.containers) told fills clear ∙ (stays disk after pool left roots.leaves reads store slot x held).volume)
    (ap (λ (z : VolumeState). z.slot) roots.roots.state) (ap (λ (z : VolumeState). z.name) roots.roots.state) (ap (λ (z : VolumeState). z.span) roots.roots.state) (ap (λ (z : VolumeState). z.known) roots.roots.state)
    (ap (λ (z : VolumeState). z.base) roots.roots.state) (ap (λ (z : VolumeState). z.map) roots.roots.state) (ap (λ (z : VolumeState). z.ledger) roots.roots.state)
  where
    held : IsHeldIn disk pool slot x
    held = subst (λ (o : Option VolumeState). IfSome o (IsHeldIn disk pool slot)) may.there (may.each slot)

    told : TellsEntries disk pool.containers
    told = (held.stands.told.0, held.stands.told.2)

    still : IsHeldIn after left slot x
    still = held_still disk after pool left roots.leaves reads store slot x held

    lies : lies_in x.map left x.slot after.reads ≡ lies_in x.map pool x.slot disk.reads
    lies = same_lies x.map pool left disk after x.slot roots.leaves reads

    fills : FillsRoots (TellsEntries disk pool.containers) (lies_in x.map left x.slot after.reads) x y
    fills = subst (λ (at : Lies). FillsRoots (TellsEntries disk pool.containers) at x y) (sym lies) roots.roots

    clear : All (IsRootClear (lies_in x.map left x.slot after.reads)) (roots_of x)
    clear = subst (λ (at : Lies). All (IsRootClear at) (roots_of x)) (sym lies) (roots.clear told)
stands_after_step disk after pool left states slot x y false may roots reads store =
    let held : IsHeldIn disk pool slot x = subst (λ (o : Option VolumeState). IfSome o (IsHeldIn disk pool slot)) may.there (may.each slot) in
    let same : y ≡ x = roots.roots.1 in
    label_stands disk after pool left states slot x y may roots.leaves reads store
    (subst (IsHeldIn after left slot) (sym same) (held_still disk after pool left roots.leaves reads store slot x held))
    (ap (volume_for after left) same ∙ (stays disk after pool left roots.leaves reads store slot x held).volume)
    (ap (λ (z : VolumeState). z.slot) same) (ap (λ (z : VolumeState). z.name) same) (ap (λ (z : VolumeState). z.span) same) (ap (λ (z : VolumeState). z.known) same)
    (ap (λ (z : VolumeState). z.base) same) (ap (λ (z : VolumeState). z.map) same) (ap (λ (z : VolumeState). z.ledger) same)
