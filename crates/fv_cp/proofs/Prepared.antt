-- What is read and held in front of a point.
use Rattle.std.proofs.Common.{◌≡◌, ◌≢◌, ℕ, ◌+◌, ◌<◌, ◌≤◌, ◌*◌, true, false, Bool, ◌&&◌, ◌||◌, List, length, get_or, Option, Some, None, Result, Ok, Err, inr, refl, sym, ap, subst, ◌∙◌, ⊎_elim, arith}
use Rattle.std.specs.Prelude.{IfErr, IfSome, IsTrue, OnOk, replicate, slice_index_or}
use Rattle.std.proofs.lemmas.Bool.{cases_eq, cases_lt, true≢false}
use Rattle.std.proofs.lemmas.List.{get_or-replicate, get_or_past, length-replicate}
use Rattle.fv_disk.specs.Shown.{Image, Shown}
use Rattle.fv_disk.specs.DiskCalls.{OnlyReads}
use Rattle.fv_disk.specs.Faults.{HasBlockCause}
use Rattle.fv_disk.specs.declared.fault.BlockFault.{BlockFault}
use Rattle.fv_disk.specs.declared.fault.BlockFault.TheVariants.{DiskFault, Damaged, Memory}
use Rattle.fv_image.specs.Containers.{level_width}
use Rattle.fv_container.specs.Chains.{IsLeafDamage, KeepsMaps, Slots, TellsEntries, map_in, paged_at, with_container}
use Rattle.fv_container.specs.Clean.{IsCleanOn}
use Rattle.fv_container.specs.Loading.{KeepsMap}
use Rattle.fv_container.specs.Mapped.{Mapped}
use Rattle.fv_container.specs.Paged.{Paged, is_here, is_known}
use Rattle.fv_container.specs.Seeing.{IsSomeFault}
use Rattle.fv_container.proofs.Changing.{maps_kept, maps_then, paged_now}
use Rattle.fv_delay.specs.declared.threshold.Threshold.{Threshold}
use Rattle.fv_delay.specs.ByThreshold.{AreTakenHere, taken_in}
use Rattle.fv_delay.specs.Delay.{AreKnown, AreSure, IsHereIn}
use Rattle.fv_delay.specs.Holding.{Holding, held_by}
use Rattle.fv_volmap.specs.Slots.{Volume}
use Rattle.fv_pool.specs.declared.pool.Pool.{Pool}
use Rattle.fv_pool.specs.BlocksOver.{IsHoldFault, LoadsPool}
use Rattle.fv_volume.specs.declared.state.VolumeState.{VolumeState}
use Rattle.fv_volume.specs.Loading.{Houses}
use Rattle.fv_volume.specs.States.{States, state_at}
use Rattle.fv_volumes.specs.Housed.{AreHoused}
use Rattle.fv_cp.specs.declared.planning.Plan.{Plan}
use Rattle.fv_volume.specs.Writing.{HasMapLeaves}
use Rattle.fv_cp.specs.Choosing.{holding_with, holdings}
use Rattle.fv_cp.specs.Course.{AreHereIn}
use Rattle.fv_cp.specs.Planning.{AreOthersLeft, AreSlotsKnown, AreSlotsSure, HasLeaves, HasLeavesAt, IsSlotKnown, is_counted, is_set, start_at, taken, takes_of}
use Rattle.fv_cp.specs.Points.{LacksPoint}
use Rattle.fv_cp.proofs.CameIn.{leaf_still}

-- ---- answers

-- what holds at any answer, and what follows from what holds at a good one
pub always : {P : Type 0} → (r : Result Unit BlockFault) → P → OnOk r P
always (Ok done) is = is
always (Err e) is = tt

pub on_ok : {P Q : Type 0} → (r : Result Unit BlockFault) → (P → Q) → OnOk r P → OnOk r Q
on_ok (Ok done) so is = so is
on_ok (Err e) so is = tt

-- the cause of a fault, behind a call that met none
pub cause_then : (first mid last : ℕ) (r : Result Unit BlockFault) → mid ≡ first → HasBlockCause mid last r → HasBlockCause first last r
cause_then first mid last r same cause = subst (λ (n : ℕ). HasBlockCause n last r) same cause

-- fewer blocks are free than are asked for
pub few_marked : (free asked least marked : ℕ) → free < asked → asked ≡ marked → free ≡ least → least < marked
few_marked free asked least marked few same counted = omega (arith, few, same, counted)

-- ---- one container

-- one of its leaves doesn't stand
pub some_damage : (i : Image) (slots : Slots) (slot : ℕ) (paged : Paged) (at want found : ℕ) → paged_at slots slot ≡ Some paged → IsSomeFault i paged.map.tree (level_width (length paged.map.entries) 0) (Damaged at want found) → IsLeafDamage i slots at want found
some_damage i slots slot paged at want found there bad = record {
  slot = slot;
  map = paged.map;
  there = ap map_in there;
  leaf = (let same : 0 + bad.number ≡ bad.number = omega arith in record { region = bad.number; within = bad.within; place = bad.place ∙ ap (λ (n : ℕ). get_or paged.map.tree n 0) same; some = bad.some; fault = bad.fault });
}

pub some_fault : (disk : Shown) (slots : Slots) (slot : ℕ) (paged : Paged) → paged_at slots slot ≡ Some paged → (e : BlockFault) → (IsTrue disk.tells → IsSomeFault disk.reads paged.map.tree (level_width (length paged.map.entries) 0) e) → IsHoldFault disk slots e
some_fault disk slots slot paged there DiskFault bad = tt
some_fault disk slots slot paged there (Damaged at want found) bad = λ tells. some_damage disk.reads slots slot paged at want found there (bad tells)
some_fault disk slots slot paged there Memory bad = tt

-- the containers keep their maps where one does
pub slot_kept : (disk : Shown) (slots : Slots) (slot : ℕ) (was now : Paged) → paged_at slots slot ≡ Some was → KeepsMap disk was now → KeepsMaps disk slots (with_container slots slot (Some now))
slot_kept disk slots slot was now there kept = maps_kept slots slot was now there disk kept.map kept.clean

-- nothing was read
pub keeps_itself : (disk : Shown) (paged : Paged) → KeepsMap disk paged paged
keeps_itself disk paged = record { map = refl; here = λ k on. on; known = λ k on. on; clean = λ tells is. is }

-- and one read after another
pub keeps_then : (disk mid : Shown) (old now new : Paged) → OnlyReads disk mid → KeepsMap disk old now → KeepsMap mid now new → KeepsMap disk old new
keeps_then disk mid old now new reads first second = record {
  map = second.map ∙ first.map;
  here = λ k on. second.here k (first.here k on);
  known = λ k on. second.known k (first.known k on);
  clean = λ tells is. subst (λ (i : Image). IsCleanOn i new) reads.stays.reads
      (second.clean (subst IsTrue (sym reads.stays.tells) tells) (subst (λ (i : Image). IsCleanOn i now) (sym reads.stays.reads) (first.clean tells is)));
}

-- a fault of one of its leaves is one over what was there before
pub bad_before : (disk mid : Shown) (old now : Paged) → OnlyReads disk mid → now.map ≡ old.map → (r : Result Unit BlockFault) → (IsTrue mid.tells → IfErr r (IsSomeFault mid.reads now.map.tree (level_width (length now.map.entries) 0)))
    → IsTrue disk.tells → IfErr r (IsSomeFault disk.reads old.map.tree (level_width (length old.map.entries) 0))
bad_before disk mid old now reads same (Ok done) bad tells = tt
bad_before disk mid old now reads same (Err e) bad tells = subst (λ (i : Image). IsSomeFault i old.map.tree (level_width (length old.map.entries) 0) e) reads.stays.reads
    (subst (λ (m : Mapped). IsSomeFault mid.reads m.tree (level_width (length m.entries) 0) e) same (bad (subst IsTrue (sym reads.stays.tells) tells)))

-- ---- its regions

-- no mark is set at first
pub none_set : (n k : ℕ) → get_or (replicate n false) k false ≡ false
none_set n k = ⊎_elim
    (λ (inside : k < n). get_or-replicate n k false false inside)
    (λ (past : n ≤ k). let long : length (replicate n false) ≡ n = length-replicate {A = Bool} n false in get_or_past (replicate n false) k false (omega (arith, long, past)))
    (cases_lt k n)

-- a mark is that of a region with entries, where none is set behind them
pub mark_within : (entries : ℕ) (marks : List Bool) → ((k : ℕ) → level_width entries 0 ≤ k → get_or marks k false ≡ false) → (k : ℕ) → get_or marks k false ≡ true → 256 * k < entries
mark_within entries marks off k on = ⊎_elim
    (λ (inside : 256 * k < entries). inside)
    (λ (past : entries ≤ 256 * k). absurd (true≢false (sym on ∙ off k (omega (arith, past)))))
    (cases_lt (256 * k) entries)

-- The leaves of the regions that a threshold takes are in memory where those of all marked regions are.
pub taken_here : (start : Threshold) (map : Volume) (mid new : Paged) (marks held : List Bool) → new.map ≡ mid.map
    → ((k : ℕ) → k < level_width (length mid.map.entries) 0 → taken_in start (held_by map mid.map) k ≡ true → get_or marks k false ≡ true) → ((k : ℕ) → get_or marks k false ≡ true → get_or held k false ≡ true)
    → ((k : ℕ) → get_or held k false ≡ true → is_here new k ≡ true) → AreTakenHere start map new
taken_here start map mid new marks held same marked kept loaded = λ k taken inside.
    let long : length new.map.entries ≡ length mid.map.entries = ap (λ (m : Mapped). length m.entries) same in
    loaded k (kept k (marked k (omega (arith, long, inside)) (subst (λ (m : Mapped). taken_in start (held_by map m) k ≡ true) same taken)))

-- ---- slot by slot

-- a fault over what came into memory is one over what was there before
pub fault_back : (disk mid : Shown) (old now : Slots) → OnlyReads disk mid → KeepsMaps disk old now → (e : BlockFault) → IsHoldFault mid now e → IsHoldFault disk old e
fault_back disk mid old now reads kept DiskFault bad = tt
fault_back disk mid old now reads kept Memory bad = tt
fault_back disk mid old now reads kept (Damaged at want found) bad = λ tells. leaf_still mid.reads disk.reads now old at want found (sym reads.stays.reads) (λ s. sym (kept.maps s)) (bad (subst IsTrue (sym reads.stays.tells) tells))

-- it is a reason why a point isn't prepared
pub lacks_hold : (disk : Shown) (pool : Pool) (states : States) (e : BlockFault) → IsHoldFault disk pool.containers e → LacksPoint disk pool states e
lacks_hold disk pool states DiskFault bad = tt
lacks_hold disk pool states (Damaged at want found) bad = inr bad
lacks_hold disk pool states Memory bad = tt

pub lacks_back : (disk mid : Shown) (pool now : Pool) (states : States) → OnlyReads disk mid → KeepsMaps disk pool.containers now.containers → (r : Result Unit BlockFault) → IfErr r (IsHoldFault mid now.containers) → IfErr r (LacksPoint disk pool states)
lacks_back disk mid pool now states reads kept (Ok done) bad = tt
lacks_back disk mid pool now states reads kept (Err e) bad = lacks_hold disk pool states e (fault_back disk mid pool.containers now.containers reads kept e bad)

pub loads_then : (disk mid : Shown) (old now new : Pool) → OnlyReads disk mid → LoadsPool disk old now → LoadsPool mid now new → LoadsPool disk old new
loads_then disk mid old now new reads first second = record {
  map = second.map ∙ first.map;
  kept = second.kept ∙ first.kept;
  found = second.found ∙ first.found;
  version = second.version ∙ first.version;
  containers = maps_then disk mid old.containers now.containers new.containers reads.stays.tells reads.stays.reads first.containers second.containers;
}

-- what is known of the first slots, of those among them
pub known_more : (changed : Bool) (old new : Slots) (states : States) (delays : List Bool) (slot : ℕ) → ((s : ℕ) → s ≢ slot → paged_at new s ≡ paged_at old s)
    → ((s : ℕ) → s < slot → is_counted false (state_at states s) ≡ changed → IsSlotKnown old states s (get_or delays s true)) → (is_counted false (state_at states slot) ≡ changed → IsSlotKnown new states slot (get_or delays slot true))
    → (s : ℕ) → s < slot + 1 → is_counted false (state_at states s) ≡ changed → IsSlotKnown new states s (get_or delays s true)
known_more changed old new states delays slot others was here s low = ⊎_elim
    (λ (e : s ≡ slot). subst (λ (n : ℕ). is_counted false (state_at states n) ≡ changed → IsSlotKnown new states n (get_or delays n true)) (sym e) here)
    (λ (differ : s ≢ slot). λ among counted. subst (λ (c : Option Paged). IfSome c AreKnown) (sym (others s differ)) (was s (omega (arith, low, differ)) among counted))
    (cases_eq s slot)

-- those that aren't among them stay
pub others_more : (changed : Bool) (first old new : Slots) (states : States) (slot : ℕ) → is_counted false (state_at states slot) ≡ changed → ((s : ℕ) → s ≢ slot → paged_at new s ≡ paged_at old s)
    → AreOthersLeft changed states first old → AreOthersLeft changed states first new
others_more changed first old new states slot among others was s other = others s (λ e. other (subst (λ (n : ℕ). is_counted false (state_at states n) ≡ changed) (sym e) among)) ∙ was s other

-- what is held for the first slots
pub leaves_more : (plan : Plan) (old new : Slots) (states : States) (slot : ℕ) → ((s : ℕ) → s ≢ slot → paged_at new s ≡ paged_at old s) → ((s : ℕ) → s < slot → HasLeavesAt plan s (state_at states s) (paged_at old s)) → HasLeavesAt plan slot (state_at states slot) (paged_at new slot)
    → (s : ℕ) → s < slot + 1 → HasLeavesAt plan s (state_at states s) (paged_at new s)
leaves_more plan old new states slot others was here s low = ⊎_elim
    (λ (e : s ≡ slot). subst (λ (n : ℕ). HasLeavesAt plan n (state_at states n) (paged_at new n)) (sym e) here)
    (λ (differ : s ≢ slot). subst (HasLeavesAt plan s (state_at states s)) (sym (others s differ)) (was s (omega (arith, low, differ))))
    (cases_eq s slot)

-- ---- what is sure

sure_of : (i : Image) (held : Option Paged) → IfSome held AreKnown → IfSome held (IsCleanOn i) → IfSome held AreSure
sure_of i None known clean = tt
sure_of i (Some paged) known clean = λ region within. clean.known region (known region within)

-- What is known is sure where entries are told.
pub are_sure : (disk : Shown) (old new : Slots) (states : States) (delays : List Bool) → KeepsMaps disk old new → TellsEntries disk old → AreSlotsKnown new states delays → AreSlotsSure new states delays
are_sure disk old new states delays kept told known = λ s inside counted. sure_of disk.reads (paged_at new s) (known s inside counted) (kept.clean told s)

-- ---- the volumes are housed

pub housed_kept : (disk : Shown) (old new : Slots) (states : States) → KeepsMaps disk old new → AreHoused old states → AreHoused new states
housed_kept disk old new states kept housed = record {
  long = housed.long;
  volumes = housed.volumes;
  each = λ s. subst (Houses (state_at states s)) (sym (kept.maps s)) (housed.each s);
  parents = λ s. ap (λ (ps : List (Option ℕ)). slice_index_or ps s None) kept.parents ∙ housed.parents s;
}

-- ---- one slot, by its answer

module _ (disk : Shown) (slots : Slots) (slot : ℕ) (was now : Paged) (there : paged_at slots slot ≡ Some was) where
  abbrev after : Slots
  after = with_container slots slot (Some now)

  at_now : (P : Paged → Type 0) → P now → IfSome (paged_at after slot) P
  at_now P is = subst (λ (held : Option Paged). IfSome held P) (sym (paged_now slots slot was now there)) is

  -- it is known which of its entries are holes
  pub slot_learned : (states : States) (may : Bool) (r : Result Unit BlockFault) → OnOk r ((k : ℕ) → 256 * k < length now.map.entries → is_known now k ≡ true) → OnOk r (IsSlotKnown after states slot may)
  slot_learned states may (Ok done) known = λ counted. at_now AreKnown known
  slot_learned states may (Err e) known = tt

  -- why it isn't
  pub slot_fault : (r : Result Unit BlockFault) → (IsTrue disk.tells → IfErr r (IsSomeFault disk.reads was.map.tree (level_width (length was.map.entries) 0))) → IfErr r (IsHoldFault disk slots)
  slot_fault (Ok done) bad = tt
  slot_fault (Err e) bad = some_fault disk slots slot was there e bad

  -- what the writing of its volume needs is in memory
  pub slot_leaves : (plan : Plan) (o : Option VolumeState) (x : VolumeState) → Some x ≡ o → (r : Result Unit BlockFault) → OnOk r (is_set plan.due slot ≡ true → AreKnown now) → OnOk r ((is_set plan.due slot || x.changed) ≡ true → HasMapLeaves x now) → OnOk r (HasLeavesAt plan slot o (paged_at after slot))
  slot_leaves plan o x is (Ok done) known maps = subst (λ (p : Option VolumeState). HasLeavesAt plan slot p (paged_at after slot)) is (at_now (HasLeaves plan slot x) (record { known = known; maps = maps }))
  slot_leaves plan o x is (Err e) known maps = tt

  -- and so are the leaves of the regions that are taken
  pub slot_here : (plan : Plan) (states : States) (x : VolumeState) → Some x ≡ state_at states slot → (r : Result Unit BlockFault) → OnOk r (is_set plan.due slot ≡ true → AreTakenHere (start_at plan slot) x.map now) → OnOk r (IfSome (paged_at after slot) (AreHereIn (taken plan (holdings after states) slot)))
  slot_here plan states x is (Err e) here = tt
  slot_here plan states x is (Ok done) here = at_now (AreHereIn (taken plan (holdings after states) slot)) (λ r takes. by (is_set plan.due slot) refl r (sym (ap (λ (o : Option Holding). takes_of plan slot o r) held) ∙ takes))
    where
      held : holdings after states slot ≡ Some (held_by x.map now.map)
      held = λ j. holding_with (sym is j) (map_in (paged_now slots slot was now there j))

      by : (due : Bool) → is_set plan.due slot ≡ due → (r : ℕ) → (is_set plan.due slot && taken_in (start_at plan slot) (held_by x.map now.map) r) ≡ true → IsHereIn now r
      by true e r both = here e r (sym (ap (λ (t : Bool). t && taken_in (start_at plan slot) (held_by x.map now.map) r) e) ∙ both)
      by false e r both = let wrong : false ≡ true = sym (ap (λ (t : Bool). t && taken_in (start_at plan slot) (held_by x.map now.map) r) e) ∙ both in cc

-- nothing is asked of a slot without a volume, and of one without a container
pub leaves_none : (plan : Plan) (slot : ℕ) (o : Option VolumeState) (p : Option Paged) → o ≡ None → HasLeavesAt plan slot o p
leaves_none plan slot o p none = subst (λ (x : Option VolumeState). HasLeavesAt plan slot x p) (sym none) tt

pub leaves_bare : (plan : Plan) (slot : ℕ) (o : Option VolumeState) (p : Option Paged) → p ≡ None → HasLeavesAt plan slot o p
leaves_bare plan slot o p none = subst (λ (c : Option Paged). HasLeavesAt plan slot o c) (sym none) (by o)
  where
    by : (x : Option VolumeState) → HasLeavesAt plan slot x None
    by None = tt
    by (Some x) = tt

pub here_none : (plan : Plan) (slot : ℕ) (o : Option VolumeState) (p : Option Paged) → o ≡ None → IfSome p (AreHereIn (takes_of plan slot (holding_with o (map_in p))))
here_none plan slot o p none = subst (λ (x : Option VolumeState). IfSome p (AreHereIn (takes_of plan slot (holding_with x (map_in p))))) (sym none) (by p)
  where
    by : (c : Option Paged) → IfSome c (AreHereIn (takes_of plan slot None))
    by None = tt
    by (Some paged) = λ r takes. absurd (true≢false (sym takes))

-- what is in memory of other slots, and what they take, stays
pub here_more : (plan : Plan) (old new : Slots) (states : States) (slot : ℕ) → ((s : ℕ) → s ≢ slot → paged_at new s ≡ paged_at old s) → ((s : ℕ) → s < slot → IfSome (paged_at old s) (AreHereIn (taken plan (holdings old states) s))) → IfSome (paged_at new slot) (AreHereIn (taken plan (holdings new states) slot))
    → (s : ℕ) → s < slot + 1 → IfSome (paged_at new s) (AreHereIn (taken plan (holdings new states) s))
here_more plan old new states slot others was here s low = ⊎_elim
    (λ (e : s ≡ slot). subst (λ (n : ℕ). IfSome (paged_at new n) (AreHereIn (taken plan (holdings new states) n))) (sym e) here)
    (λ (differ : s ≢ slot). subst (λ (c : Option Paged). IfSome c (AreHereIn (takes_of plan s (holding_with (state_at states s) (map_in c))))) (sym (others s differ)) (was s (omega (arith, low, differ))))
    (cases_eq s slot)
