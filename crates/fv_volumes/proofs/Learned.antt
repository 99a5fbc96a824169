-- The volumes that were read learn what they stand on: what stays of them, and what they know then.
use Rattle.std.proofs.Common.{◌≡◌, ◌≢◌, ◌⊎◌, ◌<◌, ◌≤◌, ◌+◌, ℕ, Bool, true, length, set, Option, Some, None, inl, inr, refl, sym, ap, subst, ◌∙◌, ⊎_elim, arith, length-set, get_or-set_same, get_or-set_other}
use Rattle.std.specs.Prelude.{IfSome, is_some, ◌&&◌, ◌||◌, ◌==◌, nat_lt, slice_index_or}
use Rattle.std.specs.Option.{option_map}
use Rattle.std.proofs.lemmas.Bool.{cases_eq, cases_lt}
use Rattle.std.proofs.lemmas.Bool.Decides.{nat_tests}
use Rattle.std.proofs.lemmas.List.{get_or_default, get_or_past}
use Rattle.fv_disk.specs.Shown.{Image}
use Rattle.fv_image.specs.Views.{Footing, Head, entry_count, volume_bit}
use Rattle.fv_image.specs.Held.{view_at}
use Rattle.fv_image.specs.Volumes.{snap_at}
use Rattle.fv_charge.specs.declared.ledger.Ledger.{Ledger}
use Rattle.fv_container.specs.Chains.{Slots, container_at, paged_at, slot_count}
use Rattle.fv_container.specs.Mapped.{Mapped}
use Rattle.fv_container.specs.Paged.{Paged}
use Rattle.fv_root.specs.declared.find.Found.{Found}
use Rattle.fv_root.specs.Finding.{root_found}
use Rattle.fv_volmap.specs.Slots.{has, slot_at, slot_of_base, stored_count}
use Rattle.fv_volume.specs.declared.state.Base.{Base}
use Rattle.fv_volume.specs.declared.state.Snap.{Snap}
use Rattle.fv_volume.specs.declared.state.VolumeState.{VolumeState}
use Rattle.fv_volume.specs.Files.{IsLabelled}
use Rattle.fv_volume.specs.KnownBase.{KeepsRest, KnowsBase, KnowsSnap, KnowBases, KnowsIn}
use Rattle.fv_volume.specs.Loading.{AreCountedTo, Counts, HaveBits, Houses, IsLoaded, IsRead, LoadedTo, ReadTo}
use Rattle.fv_volume.specs.States.{States, footing_in, head_in, parent_in, snap_in, state_at}
use Rattle.fv_volume.proofs.KnownBases.{rest_head, rest_labelled, rest_read, snap_inside}
use Rattle.fv_volumes.specs.Learned.{HaveLearned, LearnsIn}

-- ---- a parent that learned

-- What a volume knows by one it knows by another with the same head, and with the same numbers under the slots of its snapshots.
known_by : (p q : VolumeState) → head_in q ≡ head_in p → ((k : ℕ) → k < stored_count → (v : ℕ) → has v (slot_at q.map k) ≡ has v (slot_at p.map k))
    → ((k : ℕ) (snap : Snap) → snap_at (head_in p) k ≡ Some (snap_in snap) → k < stored_count) → (x : VolumeState) → KnowsBase p x → KnowsBase q x
known_by p q head numbers inside x = by x.base
  where
    by : (o : Option Base) → IfSome o (λ b. (snap : Snap) → snap_at (head_in p) b.slot ≡ Some (snap_in snap) → p.span ≤ x.span → KnowsSnap p snap x b)
        → IfSome o (λ b. (snap : Snap) → snap_at (head_in q) b.slot ≡ Some (snap_in snap) → q.span ≤ x.span → KnowsSnap q snap x b)
    by None knows = tt
    by (Some b) knows = λ snap at wide.
        let was : snap_at (head_in p) b.slot ≡ Some (snap_in snap) = ap (λ (h : Head). snap_at h b.slot) (sym head) ∙ at in
        let named : q.name ≡ p.name = ap (λ (h : Head). h.name) head in
        let span : q.span ≡ p.span = ap (λ (h : Head). h.span) head in
        let is = knows snap was (omega (arith, span, wide)) in
        record { named = is.named ∙ sym named; called = is.called; table = is.table; same = λ v. is.same v ∙ sym (numbers b.slot (inside b.slot snap was) v) }

module _ (p q : VolumeState) (keeps : KeepsRest p q) (slot : ℕ) (labelled : IsLabelled slot p) where
  same_numbers : (k : ℕ) → k < stored_count → (v : ℕ) → has v (slot_at q.map k) ≡ has v (slot_at p.map k)
  same_numbers k low v = ap (has v) (keeps.others k (λ (e : k ≡ slot_of_base). absurd (omega (arith, low, e))))

  same_head : head_in q ≡ head_in p
  same_head = rest_head p q keeps

  inside : (k : ℕ) (snap : Snap) → snap_at (head_in p) k ≡ Some (snap_in snap) → k < stored_count
  inside k snap at = (snap_inside p slot labelled k (snap_in snap) at).1

  -- What a volume knows of it by what it was it knows by what it is, and the other way round: the slots of its snapshots stay.
  known_after : (x : VolumeState) → KnowsBase p x → KnowsBase q x
  known_after = known_by p q same_head same_numbers inside

  known_before : (x : VolumeState) → KnowsBase q x → KnowsBase p x
  known_before = known_by q p (sym same_head) (λ k low v. sym (same_numbers k low v)) (λ k snap at. inside k snap (ap (λ (h : Head). snap_at h k) (sym same_head) ∙ at))

-- ---- one volume more

-- a volume that learned is in its slot as it was
still_labelled : (states : States) (s : ℕ) (old new : Option VolumeState) → LearnsIn states s old new → IfSome old (IsLabelled s) → IfSome new (IsLabelled s)
still_labelled states s None new learns is = subst (λ (o : Option VolumeState). IfSome o (IsLabelled s)) (sym learns) tt
still_labelled states s (Some x) new learns is = subst (λ (o : Option VolumeState). IfSome o (IsLabelled s)) (sym learns.1.0) (rest_labelled x learns.0 learns.1.1.0 s is)

-- A slot's volume learned from these, or it is as it was.
abbrev Either : States → ℕ → Option VolumeState → Option VolumeState → Type 0
Either states s old new = LearnsIn states s old new ⊎ (new ≡ old)

-- Then what another volume knows by it as it is, it knows by it as it was,
known_then : (states : States) (s : ℕ) (x : VolumeState) (old new : Option VolumeState) → Either states s old new → IfSome old (IsLabelled s) → IfSome new (λ parent. KnowsBase parent x) → IfSome old (λ parent. KnowsBase parent x)
known_then states s x None new either is knows = tt
known_then states s x (Some p) new (inl learns) is knows = known_before p learns.0 learns.1.1.0 s is x (subst (λ (o : Option VolumeState). IfSome o (λ parent. KnowsBase parent x)) learns.1.0 knows)
known_then states s x (Some p) new (inr same) is knows = subst (λ (o : Option VolumeState). IfSome o (λ parent. KnowsBase parent x)) same knows

-- and the other way round.
known_still : (states : States) (s : ℕ) (x : VolumeState) (old new : Option VolumeState) → LearnsIn states s old new → IfSome old (IsLabelled s) → IfSome old (λ parent. KnowsBase parent x) → IfSome new (λ parent. KnowsBase parent x)
known_still states s x None new learns is knows = subst (λ (o : Option VolumeState). IfSome o (λ parent. KnowsBase parent x)) (sym learns) tt
known_still states s x (Some p) new learns is knows = subst (λ (o : Option VolumeState). IfSome o (λ parent. KnowsBase parent x)) (sym learns.1.0) (known_after p learns.0 learns.1.1.0 s is x knows)

-- what a volume knows by the volumes of slots, where each of these is known by others as well
knows_by : (one other : States) (s : ℕ) (x : VolumeState) → ((t : ℕ) → IfSome (state_at one t) (λ parent. KnowsBase parent x) → IfSome (state_at other t) (λ parent. KnowsBase parent x)) → KnowsIn one s x → KnowsIn other s x
knows_by one other s x each = by x.base
  where
    by : (o : Option Base) → IfSome o (λ b. b.parent ≢ s → IfSome (state_at one b.parent) (λ parent. KnowsBase parent x)) → IfSome o (λ b. b.parent ≢ s → IfSome (state_at other b.parent) (λ parent. KnowsBase parent x))
    by None knows = tt
    by (Some b) knows = λ other_slot. each b.parent (knows other_slot)

pub none_learned : (states : States) → HaveLearned 0 states states
none_learned states = record { long = refl; done = λ s low. absurd (omega (arith, low)); others = λ s past. refl }

module _ (count : ℕ) (old mid : States) (labelled : (s : ℕ) → IfSome (state_at old s) (IsLabelled s)) (was : HaveLearned count old mid) where
  -- the volumes are in their slots as they were
  pub labelled_yet : (s : ℕ) → IfSome (state_at mid s) (IsLabelled s)
  labelled_yet s = ⊎_elim
      (λ (before : s < count). still_labelled old s (state_at old s) (state_at mid s) (was.done s before) (labelled s))
      (λ (after : count ≤ s). subst (λ (o : Option VolumeState). IfSome o (IsLabelled s)) (sym (was.others s after)) (labelled s))
      (cases_lt s count)

  then_known : (t : ℕ) (x : VolumeState) → IfSome (state_at mid t) (λ parent. KnowsBase parent x) → IfSome (state_at old t) (λ parent. KnowsBase parent x)
  then_known t x = known_then old t x (state_at old t) (state_at mid t) (either t) (labelled t)
    where
      either : (t : ℕ) → Either old t (state_at old t) (state_at mid t)
      either t = ⊎_elim (λ (before : t < count). inl (was.done t before)) (λ (after : count ≤ t). inr (was.others t after)) (cases_lt t count)

  learned_then : (o n : Option VolumeState) → LearnsIn mid count o n → LearnsIn old count o n
  learned_then None n learns = learns
  learned_then (Some x) n learns = (learns.0, (learns.1.0, (learns.1.1.0, knows_by mid old count learns.0 (λ t. then_known t learns.0) learns.1.1.1)))

  -- One slot more has learned.
  pub learned_more : (new : States) → length new ≡ length mid → LearnsIn mid count (state_at mid count) (state_at new count) → ((s : ℕ) → s ≢ count → state_at new s ≡ state_at mid s) → HaveLearned (count + 1) old new
  learned_more new long learns others = record {
    long = long ∙ was.long;
    done = λ s low. ⊎_elim
        (λ (here : s ≡ count). subst (λ (k : ℕ). LearnsIn old k (state_at old k) (state_at new k)) (sym here)
        (subst (λ (o : Option VolumeState). LearnsIn old count o (state_at new count)) (was.others count (omega arith)) (learned_then (state_at mid count) (state_at new count) learns)))
        (λ (other : s ≢ count). subst (LearnsIn old s (state_at old s)) (sym (others s other)) (was.done s (omega (arith, low, other))))
        (cases_eq s count);
    others = λ s past. others s (λ (here : s ≡ count). absurd (omega (arith, here, past))) ∙ was.others s (omega (arith, past));
  }

-- ---- all volumes

parent_of : (o : Option Base) → option_map (λ (b : Base). b.parent) o ≡ option_map (λ (f : Footing). f.parent) (option_map footing_in o)
parent_of None = refl
parent_of (Some b) = refl

same_parent : (x y : VolumeState) → KeepsRest x y → parent_in (Some x) ≡ parent_in (Some y)
same_parent x y keeps = parent_of x.base ∙ ap (option_map (λ (f : Footing). f.parent)) (sym keeps.footing) ∙ sym (parent_of y.base)

module _ (states : States) (s : ℕ) where
  now_read : (old new : Option VolumeState) → LearnsIn states s old new → IfSome old IsRead → IfSome new IsRead
  now_read None new learns is = subst (λ (o : Option VolumeState). IfSome o IsRead) (sym learns) tt
  now_read (Some x) new learns is = subst (λ (o : Option VolumeState). IfSome o IsRead) (sym learns.1.0) (rest_read x learns.0 learns.1.1.0 is)

  now_housed : (old new : Option VolumeState) (c : Option Mapped) → LearnsIn states s old new → Houses old c → Houses new c
  now_housed None new c learns is = subst (λ (o : Option VolumeState). Houses o c) (sym learns) tt
  now_housed (Some x) new None learns is = absurd is
  now_housed (Some x) new (Some map) learns is = subst (λ (o : Option VolumeState). Houses o (Some map)) (sym learns.1.0) (is ∙ ap (λ (z : VolumeState). entry_count z.span) (sym learns.1.1.0.rest))

  now_parent : (old new : Option VolumeState) → LearnsIn states s old new → parent_in old ≡ parent_in new
  now_parent None new learns = ap parent_in (sym learns)
  now_parent (Some x) new learns = same_parent x learns.0 learns.1.1.0 ∙ ap parent_in (sym learns.1.0)

  now_loaded : (i : Image) (found : Found) (old new : Option VolumeState) (c : Option Paged) → LearnsIn states s old new → IsLoaded i found s old c → IsLoaded i found s new c
  now_loaded i found None new c learns is = subst (λ (o : Option VolumeState). IsLoaded i found s o c) (sym learns) is
  now_loaded i found (Some x) new c learns is =
      let y = learns.0 in
      let keeps = learns.1.1.0 in
      subst (λ (o : Option VolumeState). IsLoaded i found s o c) (sym learns.1.0) (record {
        head = ap (λ (h : Head). Some h) (rest_head x y keeps) ∙ is.head;
        tree = is.tree;
        clean = is.clean;
        label = ap (λ (z : VolumeState). z.label) keeps.rest ∙ is.label;
        bits = λ k v low. bit y keeps k v low;
        changed = ap (λ (z : VolumeState). z.changed) keeps.rest ∙ is.changed;
      })
    where
      bit : (y : VolumeState) → KeepsRest x y → HaveBits (view_at (root_found found) i) s y.span y.map
      bit y keeps k v low =
          let same : slot_at y.map k ≡ slot_at x.map k = keeps.others k (λ (e : k ≡ slot_of_base). absurd (omega (arith, low, e))) in
          ap (has v) same ∙ is.bits k v low ∙ (λ j. (is_zero k || is_some (sym same j)) && volume_bit (view_at (root_found found) i) s (ap (λ (z : VolumeState). z.span) (sym keeps.rest) j) k v)
        where
          is_zero : ℕ → Bool
          is_zero k = k == 0

module _ (states now : States) (containers : Slots) (read : ReadTo slot_count states containers) (learned : HaveLearned slot_count states now) where
  each_learns : (s : ℕ) → LearnsIn states s (state_at states s) (state_at now s)
  each_learns s = ⊎_elim
      (λ (inside : s < slot_count). learned.done s inside)
      (λ (past : slot_count ≤ s).
      let none : state_at states s ≡ None = get_or_past states s None (omega (arith, read.long, past)) in
      subst (λ (o : Option VolumeState). LearnsIn states s o (state_at now s)) (sym none) (learned.others s past ∙ none))
      (cases_lt s slot_count)

  -- So the slots are filled as they were read,
  pub learned_read : ReadTo slot_count now containers
  learned_read = record {
    long = learned.long ∙ read.long;
    few = read.few;
    free = read.free;
    each = λ s. still_labelled states s (state_at states s) (state_at now s) (each_learns s) (read.each s);
    read = λ s. now_read states s (state_at states s) (state_at now s) (each_learns s) (read.read s);
    housed = λ s. now_housed states s (state_at states s) (state_at now s) (container_at containers s) (each_learns s) (read.housed s);
    parents = λ s. read.parents s ∙ now_parent states s (state_at states s) (state_at now s) (each_learns s);
  }

  -- the volumes are loaded,
  pub learned_loaded : (i : Image) (found : Found) → LoadedTo i found slot_count states containers → LoadedTo i found slot_count now containers
  learned_loaded i found loaded = record { each = λ s inside. now_loaded states s i found (state_at states s) (state_at now s) (paged_at containers s) (each_learns s) (loaded.each s inside) }

  -- and each knows what it stands on,
  pub learned_bases : KnowBases now
  learned_bases s = by (state_at states s) (state_at now s) (each_learns s)
    where
      by : (o n : Option VolumeState) → LearnsIn states s o n → IfSome n (KnowsIn now s)
      by None n learns = subst (λ (o : Option VolumeState). IfSome o (KnowsIn now s)) (sym learns) tt
      by (Some x) n learns = subst (λ (o : Option VolumeState). IfSome o (KnowsIn now s)) (sym learns.1.0)
          (knows_by states now s learns.0 (λ t. known_still states t learns.0 (state_at states t) (state_at now t) (each_learns t) (read.each t)) learns.1.1.1)

-- which stays so when ledgers are counted.
module _ (states now : States) (long : length states ≡ slot_count) (counted : AreCountedTo slot_count states now) where
  each_counts : (s : ℕ) → Counts (state_at states s) (state_at now s)
  each_counts s = ⊎_elim
      (λ (inside : s < slot_count). counted.done s inside)
      (λ (past : slot_count ≤ s).
      let none : state_at states s ≡ None = get_or_past states s None (omega (arith, long, past)) in
      subst (λ (o : Option VolumeState). Counts o (state_at now s)) (sym none) (counted.others s past ∙ none))
      (cases_lt s slot_count)

  counted_knows : (x : VolumeState) (o n : Option VolumeState) → Counts o n → IfSome o (λ parent. KnowsBase parent x) → IfSome n (λ parent. KnowsBase parent x)
  counted_knows x None n counts knows = subst (λ (p : Option VolumeState). IfSome p (λ parent. KnowsBase parent x)) (sym counts) tt
  counted_knows x (Some p) n counts knows = subst (λ (p : Option VolumeState). IfSome p (λ parent. KnowsBase parent x)) (sym counts.1.0) (again x.base knows)
    where
      again : (o : Option Base) → IfSome o (λ b. (snap : Snap) → snap_at (head_in p) b.slot ≡ Some (snap_in snap) → p.span ≤ x.span → KnowsSnap p snap x b)
          → IfSome o (λ b. (snap : Snap) → snap_at (head_in p) b.slot ≡ Some (snap_in snap) → p.span ≤ x.span → KnowsSnap (record p { ledger = counts.0 }) snap x b)
      again None knows = tt
      again (Some b) knows = λ snap at wide. let is = knows snap at wide in record { named = is.named; called = is.called; table = is.table; same = is.same }

  pub counted_bases : KnowBases states → KnowBases now
  counted_bases knows s = by (state_at states s) (state_at now s) (each_counts s) (knows s)
    where
      with_ledger : (x parent : VolumeState) (l : Ledger) (o : Option Base) → IfSome o (λ b. (snap : Snap) → snap_at (head_in parent) b.slot ≡ Some (snap_in snap) → parent.span ≤ x.span → KnowsSnap parent snap x b)
          → IfSome o (λ b. (snap : Snap) → snap_at (head_in parent) b.slot ≡ Some (snap_in snap) → parent.span ≤ x.span → KnowsSnap parent snap (record x { ledger = l }) b)
      with_ledger x parent l None knows = tt
      with_ledger x parent l (Some b) knows = λ snap at wide. let is = knows snap at wide in record { named = is.named; called = is.called; table = is.table; same = is.same }

      parent_still : (x : VolumeState) (l : Ledger) (p : Option VolumeState) → IfSome p (λ parent. KnowsBase parent x) → IfSome p (λ parent. KnowsBase parent (record x { ledger = l }))
      parent_still x l None knows = tt
      parent_still x l (Some parent) knows = with_ledger x parent l x.base knows

      own : (x : VolumeState) (l : Ledger) → KnowsIn now s x → KnowsIn now s (record x { ledger = l })
      own x l is = outer x.base is
        where
          outer : (o : Option Base) → IfSome o (λ b. b.parent ≢ s → IfSome (state_at now b.parent) (λ parent. KnowsBase parent x))
              → IfSome o (λ b. b.parent ≢ s → IfSome (state_at now b.parent) (λ parent. KnowsBase parent (record x { ledger = l })))
          outer None is = tt
          outer (Some b) is = λ other. parent_still x l (state_at now b.parent) (is other)

      by : (o n : Option VolumeState) → Counts o n → IfSome o (KnowsIn states s) → IfSome n (KnowsIn now s)
      by None n counts is = subst (λ (o : Option VolumeState). IfSome o (KnowsIn now s)) (sym counts) tt
      by (Some x) n counts is = subst (λ (o : Option VolumeState). IfSome o (KnowsIn now s)) (sym counts.1.0) (own x counts.0 (knows_by states now s x (λ t. counted_knows x (state_at states t) (state_at now t) (each_counts t)) is))

-- ---- a volume away from its slot

-- a volume of a slot has its label there
pub labelled_at : (s : ℕ) (o : Option VolumeState) (x : VolumeState) → o ≡ Some x → IfSome o (IsLabelled s) → IsLabelled x.slot x
labelled_at s o x is labelled =
    let there = subst (λ (o : Option VolumeState). IfSome o (IsLabelled s)) is labelled in
    subst (λ (k : ℕ). IsLabelled k x) (sym there.slot_is) there

-- What is found at a place of a row is the volume of that slot.
pub got_at : (states : States) (s : ℕ) (o : Option VolumeState) (x : VolumeState) → (true ≡ nat_lt s (length states)) × (o ≡ slice_index_or states s o) → o ≡ Some x → state_at states s ≡ Some x
got_at states s o x at is =
    let test : nat_lt s (length states) ≡ true = sym at.0 in
    let inside : s < length states = grind (arith, nat_tests, test) in
    get_or_default states s None o inside ∙ sym at.1 ∙ is

-- What a volume learned by the others, while it was away, is what it can know.
pub learned_there : (old : States) (slot : ℕ) (x y : VolumeState) (away : Option VolumeState) → slot < length old → state_at old slot ≡ Some x → KeepsRest x y
    → IfSome y.base (λ b. IfSome (state_at (set old slot away) b.parent) (λ parent. KnowsBase parent y)) → LearnsIn old slot (state_at old slot) (state_at (set (set old slot away) slot (Some y)) slot)
learned_there old slot x y away inside at keeps knows = subst (λ (o : Option VolumeState). LearnsIn old slot o (state_at (set (set old slot away) slot (Some y)) slot)) (sym at)
    (y, (get_or-set_same (set old slot away) slot (Some y) None (let long = length-set old slot away in omega (arith, long, inside)), (keeps, by y.base knows)))
  where
    by : (o : Option Base) → IfSome o (λ b. IfSome (state_at (set old slot away) b.parent) (λ parent. KnowsBase parent y)) → IfSome o (λ b. b.parent ≢ slot → IfSome (state_at old b.parent) (λ parent. KnowsBase parent y))
    by None is = tt
    by (Some b) is = λ other. subst (λ (p : Option VolumeState). IfSome p (λ parent. KnowsBase parent y)) (get_or-set_other old slot b.parent away None other) is
