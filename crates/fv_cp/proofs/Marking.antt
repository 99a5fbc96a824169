-- Volumes that are said to have changed: they are lent as they were, and stand for the same machine.
use Rattle.std.proofs.Common.{◌≡◌, ℕ, ◌+◌, ◌-◌, ◌<◌, ◌≤◌, max, min, cond, Bool, true, false, ◌||◌, ◌&&◌, ◌==◌, List, [], ◌∷◌, length, refl, sym, ap, subst, ◌∙◌, arith}
use Rattle.std.specs.Prelude.{Option, Some, None, IfSome}
use Rattle.std.specs.List.{list_any}
use Rattle.std.specs.Option.{option_map}
use Rattle.std.proofs.lemmas.Bool.{true≢false}
use Rattle.std.proofs.lemmas.List.FromFn.{get_or-map-range_with_len, length-map-range_with_len}
use Rattle.fv_disk.specs.Shown.{Image, Shown}
use Rattle.fv_model.specs.Machines.{Machine, first_block}
use Rattle.fv_image.specs.Views.{View}
use Rattle.fv_image.specs.Volumes.{told}
use Rattle.fv_image.specs.Seen.{seen}
use Rattle.fv_image.specs.Soundness.{AreTables}
use Rattle.fv_image.specs.WholeMachine.{is_built}
use Rattle.fv_image.proofs.Counts.{same_sum, sums_within}
use Rattle.fv_container.specs.Chains.{Slots, container_at, paged_at}
use Rattle.fv_container.specs.Mapped.{Mapped}
use Rattle.fv_container.specs.Paged.{Paged}
use Rattle.fv_aggmap.specs.Space.{Space, free_blocks}
use Rattle.fv_root.specs.declared.find.Found.{Found}
use Rattle.fv_delay.specs.declared.regions.Region.{Region}
use Rattle.fv_delay.specs.Choice.{chosen, regions_counted, total}
use Rattle.fv_delay.specs.Holding.{counts_of, has_region}
use Rattle.fv_volmap.specs.Slots.{IsVolume}
use Rattle.fv_pool.specs.declared.pool.Pool.{Pool}
use Rattle.fv_volume.specs.declared.state.VolumeState.{VolumeState}
use Rattle.fv_volume.specs.Files.{AreNamed, AreStates, IsLabelled, IsState}
use Rattle.fv_volume.specs.Held.{core_of, HasNoFiles, HasWholeMap, IsReadyIn}
use Rattle.fv_volume.specs.Numbering.{AreNumbersSeen}
use Rattle.fv_volumes.specs.Housed.{AreHoused, HaveReaches, ReachesAll}
use Rattle.fv_volume.specs.KnownBase.{KnowBases}
use Rattle.fv_volume.specs.Loading.{Houses}
use Rattle.fv_volume.specs.States.{States, head_in, parent_in, state_at, view_over, with_state}
use Rattle.fv_volume.specs.Stored.{AreSpacedIn, has_block}
use Rattle.fv_volume.specs.Trees.{no_trees}
use Rattle.fv_volumes.specs.UnderRoot.{IsLentAt, IsLentSlot}
use Rattle.fv_volume.specs.Writing.{asked}
use Rattle.fv_volumes.proofs.Settled.{relabelled}
use Rattle.fv_volumes.proofs.SettledFooted.{knows_alike, left_of}
use Rattle.fv_volumes.proofs.Settling.{turned_all, turned_more}
use Rattle.fv_cp.specs.Choosing.{AreMarkedTo, ReclaimsChanged, asked_marked, asked_with, greatest_number, has_slot, holding_with, holdings, marked, marked_as, marked_at, claimed, claimed_by, missing_for, regions_chosen}
use Rattle.fv_cp.specs.Lent.{FitTogether, IsLent, asked_all, asked_by, asked_of, blocks_asked}
use Rattle.fv_cp.specs.Points.{machine_lent}
use Rattle.fv_cp.specs.declared.planning.Plan.{Plan}
use Rattle.fv_cp.specs.Planning.{HasLeaves, HasLeavesAt, HaveLeaves, is_set}
use Rattle.fv_cp.proofs.Sums.{over_slots}

-- ---- one volume

-- one that isn't marked is as it was
pub unmarked : (o : Option VolumeState) → option_map (marked_as false) o ≡ o
unmarked None = refl
unmarked (Some x) = refl

-- what holds of a volume as it was, whether or not it changed, holds of it then
marked_keeps : (P : VolumeState → Type 0) → ((x : VolumeState) → P x → P (record x { changed = true })) → (b : Bool) (o : Option VolumeState) → IfSome o P → IfSome (option_map (marked_as b) o) P
marked_keeps P keeps b None is = tt
marked_keeps P keeps true (Some x) is = keeps x is
marked_keeps P keeps false (Some x) is = is

-- what doesn't look at changes is the same
pub marked_same : {T : Type 0} (f : Option VolumeState → T) → ((x : VolumeState) → f (Some (record x { changed = true })) ≡ f (Some x)) → (b : Bool) (o : Option VolumeState) → f (option_map (marked_as b) o) ≡ f o
marked_same f same b None = refl
marked_same f same true (Some x) = same x
marked_same f same false (Some x) = refl

marked_labelled : (s : ℕ) (x : VolumeState) → IsLabelled s x → IsLabelled s (record x { changed = true })
marked_labelled s x is = relabelled s x x.label true x.fresh is.waits is

marked_slot : (i : Image) (found : Found) (s : ℕ) (x : VolumeState) (map : Paged) → IsLentSlot i found s x map → IsLentSlot i found s (record x { changed = true }) map
marked_slot i found s x map is = record {
  label = is.label;
  nodes = is.nodes;
  clean = is.clean;
  apart = record { some = is.apart.some; entries = is.apart.entries; nodes = is.apart.nodes; label = is.apart.label };
  maps = λ k j on within. let one = is.maps k j on within in record { place = one.place; some = one.some; there = one.there; held = one.held; bits = one.bits };
  unchanged = λ e. absurd (true≢false e);
}

marked_lent : (i : Image) (found : Found) (s : ℕ) (b : Bool) (o : Option VolumeState) (c : Option Paged) → IsLentAt i found s o c → IsLentAt i found s (option_map (marked_as b) o) c
marked_lent i found s b None None is = is
marked_lent i found s b None (Some map) is = is
marked_lent i found s true (Some x) None is = is
marked_lent i found s false (Some x) None is = is
marked_lent i found s true (Some x) (Some map) is = marked_slot i found s x map is
marked_lent i found s false (Some x) (Some map) is = is

marked_houses : (b : Bool) (o : Option VolumeState) (c : Option Mapped) → Houses o c → Houses (option_map (marked_as b) o) c
marked_houses b None c is = tt
marked_houses true (Some x) None is = is
marked_houses false (Some x) None is = is
marked_houses true (Some x) (Some map) is = is
marked_houses false (Some x) (Some map) is = is

-- it has the files, the numbers and the maps that it had, and can be called
pub marked_no_files : (b : Bool) (o : Option VolumeState) → HasNoFiles o → HasNoFiles (option_map (marked_as b) o)
marked_no_files b o = marked_keeps (λ x. x.files ≡ None) (λ x is. is) b o

pub marked_whole : (b : Bool) (o : Option VolumeState) → HasWholeMap o → HasWholeMap (option_map (marked_as b) o)
marked_whole b o = marked_keeps (λ x. IsVolume x.map) (λ x is. is) b o

pub marked_core : (b : Bool) (o : Option VolumeState) → option_map core_of (option_map (marked_as b) o) ≡ option_map core_of o
marked_core b o = marked_same (option_map core_of) (λ x. refl) b o

pub marked_numbers : (w : View) (s : ℕ) (b : Bool) (o : Option VolumeState) → AreNumbersSeen w s o → AreNumbersSeen w s (option_map (marked_as b) o)
marked_numbers w s b None are = are
marked_numbers w s true (Some x) are = are
marked_numbers w s false (Some x) are = are

pub marked_table : (P : Type 0) (b : Bool) (o : Option VolumeState) → IfSome o (λ x. P) → IfSome (option_map (marked_as b) o) (λ x. P)
marked_table P b o = marked_keeps (λ x. P) (λ x is. is) b o

pub marked_ready : (disk : Shown) (pool : Pool) (s : ℕ) (b : Bool) (o : Option VolumeState) → IfSome o (IsReadyIn disk pool s) → IfSome (option_map (marked_as b) o) (IsReadyIn disk pool s)
marked_ready disk pool s = marked_keeps (IsReadyIn disk pool s) (λ x is.
    let r = is.ready in
    let k = r.booked in record {
      slot = is.slot;
      ready = record {
        lent = record { within = r.lent.within; stands = r.lent.stands; few = r.lent.few; entries = r.lent.entries };
        labelled = marked_labelled x.slot x r.labelled;
        booked = record { size = k.size; kind = k.kind; span = k.span; need = k.need; charge = k.charge };
        blocks = r.blocks;
        changed = λ e. absurd (true≢false e);
        fresh = λ e. absurd (true≢false e);
      };
    })

-- ---- one slot after another

pub marked_none : (marks : ℕ → Bool) (states : States) → length states ≡ 64 → AreMarkedTo marks states states 0
marked_none marks states long = record { long = long; done = λ s low. absurd (omega (arith, low)); others = λ s low. refl }

pub marked_more : (marks : ℕ → Bool) (states old new : States) (s : ℕ) → s < 64 → AreMarkedTo marks states old s → new ≡ with_state old s (marked_at marks old s) → AreMarkedTo marks states new (s + 1)
marked_more marks states old new s inside are is =
    let step = turned_more (λ k o. option_map (marked_as (marks k)) o) states old new s (omega (arith, inside, are.long)) is are.done are.others in
    record { long = step.long ∙ are.long; done = step.done; others = step.others }

pub marked_all : (marks : ℕ → Bool) (states now : States) (count : ℕ) → 64 ≤ count → length states ≡ 64 → AreMarkedTo marks states now count → (k : ℕ) → state_at now k ≡ marked_at marks states k
marked_all marks states now count all long are = turned_all (λ k o. option_map (marked_as (marks k)) o) states now count all long are.long (λ k. refl) are.done

-- what is asked for then
pub asked_now : (marks : ℕ → Bool) (states now : States) → length now ≡ 64 → ((s : ℕ) → state_at now s ≡ marked_at marks states s) → blocks_asked now ≡ asked_marked marks states
asked_now marks states now long are =
    let listed : length (marked marks states) ≡ 64 = length-map-range_with_len (marked_at marks states) 0 64 in
    over_slots asked_by now long
    ∙ same_sum (λ s. asked_by (state_at now s)) (λ s. asked_by (state_at (marked marks states) s)) 0 64 (λ s low high. ap asked_by (are s ∙ sym (get_or-map-range_with_len (marked_at marks states) 0 64 s s None (omega (arith, high)) (omega arith))))
    ∙ sym (over_slots asked_by (marked marks states) listed)

-- which is at most what all volumes ask for
pub asked_most : (marks : ℕ → Bool) (states : States) → length states ≡ 64 → asked_marked marks states ≤ asked_all states
asked_most marks states long =
    let listed : length (marked marks states) ≡ 64 = length-map-range_with_len (marked_at marks states) 0 64 in
    let one = over_slots asked_by (marked marks states) listed in
    let all = over_slots asked_of states long in
    let parts = sums_within (λ s. asked_by (state_at (marked marks states) s)) (λ s. asked_of (state_at states s)) 0 64 (λ s low high.
    let is : asked_by (state_at (marked marks states) s) ≡ asked_by (marked_at marks states s) = ap asked_by (get_or-map-range_with_len (marked_at marks states) 0 64 s s None (omega (arith, high)) (omega arith)) in
    omega (arith, is, most (marks s) (state_at states s))) in
    omega (arith, one, all, parts)
  where
    at_most : (t : Bool) (n : ℕ) → cond t n 0 ≤ n
    at_most true n = omega arith
    at_most false n = omega arith

    most : (b : Bool) (o : Option VolumeState) → asked_by (option_map (marked_as b) o) ≤ asked_of o
    most b None = omega arith
    most b (Some x) = at_most (b || x.changed) (asked x)

-- ---- all volumes

module _ (states now : States) (marks : ℕ → Bool) (marks_are : (s : ℕ) → state_at now s ≡ option_map (marked_as (marks s)) (state_at states s)) where
  pub heads_marked : (s : ℕ) → option_map head_in (state_at now s) ≡ option_map head_in (state_at states s)
  heads_marked s = ap (option_map head_in) (marks_are s) ∙ marked_same (option_map head_in) (λ x. refl) (marks s) (state_at states s)

  -- the view over them is the same
  pub view_marked : (pool : Pool) (i : Image) → view_over pool now i ≡ view_over pool states i
  unfolding view_over
  view_marked pool i = λ k. record (view_over pool states i) { head = λ s. heads_marked s k }

  pub machine_marked : (disk : Shown) (pool : Pool) → machine_lent disk pool now ≡ machine_lent disk pool states
  machine_marked disk pool = ap told (view_marked pool disk.reads)

  pub housed_marked : (containers : Slots) → length now ≡ 64 → AreHoused containers states → AreHoused containers now
  housed_marked containers long is = record {
    long = long;
    volumes = λ s. subst (λ (o : Option VolumeState). IfSome o (IsLabelled s)) (sym (marks_are s)) (marked_keeps (IsLabelled s) (marked_labelled s) (marks s) (state_at states s) (is.volumes s));
    each = λ s. subst (λ (o : Option VolumeState). Houses o (container_at containers s)) (sym (marks_are s)) (marked_houses (marks s) (state_at states s) (container_at containers s) (is.each s));
    parents = λ s. is.parents s ∙ sym (ap parent_in (marks_are s) ∙ marked_same parent_in (λ x. refl) (marks s) (state_at states s));
  }

  pub fit_marked : (pool : Pool) → length now ≡ 64 → FitTogether pool states → FitTogether pool now
  fit_marked pool long fit = record { range = fit.range; size = fit.size; version = fit.version; housed = housed_marked pool.containers long fit.housed; kept = fit.kept }

  has_marked : (c : Option Mapped) (s b : ℕ) → has_block (state_at now s) c b ≡ has_block (state_at states s) c b
  has_marked c s b = ap (λ (o : Option VolumeState). has_block o c b) (marks_are s) ∙ marked_same (λ o. has_block o c b) (same c) (marks s) (state_at states s)
    where
      same : (c : Option Mapped) (x : VolumeState) → has_block (Some (record x { changed = true })) c b ≡ has_block (Some x) c b
      same None x = refl
      same (Some map) x = refl

  spaced_marked : (blocks : ℕ) (next : List Bool) (container : ℕ → Option Mapped) → AreSpacedIn blocks next (state_at states) container → AreSpacedIn blocks next (state_at now) container
  spaced_marked blocks next container is = record {
    apart = λ s k b small large other here there. is.apart s k b small large other (sym (has_marked (container s) s b) ∙ here) (sym (has_marked (container k) k b) ∙ there);
    held = λ s b inside here. is.held s b inside (sym (has_marked (container s) s b) ∙ here);
    set = λ b held. let one = is.set b held in (one.0, one.1, has_marked (container one.0) one.0 b ∙ one.2);
  }

  names_marked : AreNamed states → AreNamed now
  names_marked named s k = subst (λ (o : Option VolumeState). IfSome o (λ x. IfSome (state_at now k) (λ y. x.name ≡ y.name → s ≡ k))) (sym (marks_are s)) (subst (λ (p : Option VolumeState). IfSome (option_map (marked_as (marks s)) (state_at states s)) (λ x. IfSome p (λ y. x.name ≡ y.name → s ≡ k))) (sym (marks_are k))
      (marked_keeps (λ x. IfSome (option_map (marked_as (marks k)) (state_at states k)) (λ y. x.name ≡ y.name → s ≡ k)) (λ x is. is) (marks s) (state_at states s) (outer (state_at states s) (named s k))))
    where
      inner : (x : VolumeState) (p : Option VolumeState) → IfSome p (λ y. x.name ≡ y.name → s ≡ k) → IfSome (option_map (marked_as (marks k)) p) (λ y. x.name ≡ y.name → s ≡ k)
      inner x p is = marked_keeps (λ y. x.name ≡ y.name → s ≡ k) (λ y is. is) (marks k) p is

      outer : (o : Option VolumeState) → IfSome o (λ x. IfSome (state_at states k) (λ y. x.name ≡ y.name → s ≡ k)) → IfSome o (λ x. IfSome (option_map (marked_as (marks k)) (state_at states k)) (λ y. x.name ≡ y.name → s ≡ k))
      outer None is = tt
      outer (Some x) is = inner x (state_at states k) is

  states_marked : (w : View) → AreStates w no_trees states → AreStates w no_trees now
  states_marked w are = record {
    each = λ s. subst (λ (o : Option VolumeState). IfSome o (IsState w no_trees s)) (sym (marks_are s)) (marked_keeps (IsState w no_trees s) (λ x is. record { labelled = marked_labelled s x is.labelled; table = is.table; reserves = is.reserves; ledger = is.ledger }) (marks s) (state_at states s) (are.each s));
    names = names_marked are.names;
    empty = λ s none. refl;
  }

  reach_marked : (w : View) → HaveReaches w states → HaveReaches w now
  reach_marked w reach s inside = subst (λ (o : Option VolumeState). IfSome o (ReachesAll w s)) (sym (marks_are s)) (marked_keeps (ReachesAll w s) (λ x is. is) (marks s) (state_at states s) (reach s inside))

  knows_marked : KnowBases states → KnowBases now
  knows_marked = knows_alike states now (λ s. ap (option_map left_of) (marks_are s) ∙ marked_same (option_map left_of) (λ x. refl) (marks s) (state_at states s))

  -- They are lent as they were.
  pub lent_marked : (disk : Shown) (pool : Pool) (before : Machine) → IsLent disk pool states before → IsLent disk pool now before
  lent_marked disk pool before lent =
      let same : view_over pool states disk.reads ≡ view_over pool now disk.reads = sym (view_marked pool disk.reads) in
      record {
        found = lent.found;
        tells = lent.tells;
        keeps = lent.keeps;
        map = lent.map;
        slots = λ s inside. subst (λ (o : Option VolumeState). IsLentAt disk.reads pool.found s o (paged_at pool.containers s)) (sym (marks_are s)) (marked_lent disk.reads pool.found s (marks s) (state_at states s) (paged_at pool.containers s) (lent.slots s inside));
        spaced = spaced_marked pool.found.blocks pool.map.next (container_at pool.containers) lent.spaced;
        states = subst (λ (w : View). AreStates w no_trees now) same (states_marked (view_over pool states disk.reads) lent.states);
        built = subst (λ (w : View). is_built w ≡ true) same lent.built;
        tables = subst (λ (w : View). AreTables (seen w)) same lent.tables;
        reach = subst (λ (w : View). HaveReaches w now) same (reach_marked (view_over pool states disk.reads) lent.reach);
        knows = knows_marked lent.knows;
      }

-- What is in memory for the writing of volumes is there for them as they are marked.
pub leaves_marked : (plan : Plan) (containers : Slots) (states now : States) → ((s : ℕ) → state_at now s ≡ marked_at (is_set plan.due) states s) → HaveLeaves plan containers states → HaveLeaves plan containers now
leaves_marked plan containers states now marked leaves s inside =
    subst (λ (o : Option VolumeState). HasLeavesAt plan s o (paged_at containers s)) (sym (marked s)) (by (is_set plan.due s) refl (state_at states s) (paged_at containers s) (leaves s inside))
  where
    same : (b : Bool) → is_set plan.due s ≡ b → (x : VolumeState) (paged : Paged) → HasLeaves plan s x paged → HasLeaves plan s (marked_as b x) paged
    same b is x paged has = record {
      known = has.known;
      maps = λ some. has.maps (once (is_set plan.due s) b x.changed is some);
    }
      where
        once : (due b changed : Bool) → due ≡ b → (due || (b || changed)) ≡ true → (due || changed) ≡ true
        once true b changed is some = refl
        once false b changed is some = subst (λ (t : Bool). (t || changed) ≡ true) (sym is) some

    by : (b : Bool) → is_set plan.due s ≡ b → (o : Option VolumeState) (c : Option Paged) → HasLeavesAt plan s o c → HasLeavesAt plan s (option_map (marked_as b) o) c
    by b is None c has = tt
    by b is (Some x) None has = tt
    by b is (Some x) (Some paged) has = same b is x paged has

-- ---- marks

marks_same : (marks others : ℕ → Bool) (states : States) (s : ℕ) → ((x : VolumeState) → state_at states s ≡ Some x → marks s ≡ others s) → marked_at marks states s ≡ marked_at others states s
marks_same marks others states s same = by (state_at states s) refl
  where
    by : (o : Option VolumeState) → state_at states s ≡ o → option_map (marked_as (marks s)) (state_at states s) ≡ option_map (marked_as (others s)) (state_at states s)
    by None none = ap (option_map (marked_as (marks s))) none ∙ sym (ap (option_map (marked_as (others s))) none)
    by (Some x) there = ap (λ (b : Bool). option_map (marked_as b) (state_at states s)) (same x there)

-- volumes that are marked alike ask for as much
pub asked_alike : (marks others : ℕ → Bool) (states : States) → ((s : ℕ) (x : VolumeState) → s < 64 → state_at states s ≡ Some x → marks s ≡ others s) → asked_marked marks states ≡ asked_marked others states
asked_alike marks others states same =
    let one : length (marked marks states) ≡ 64 = length-map-range_with_len (marked_at marks states) 0 64 in
    let other : length (marked others states) ≡ 64 = length-map-range_with_len (marked_at others states) 0 64 in
    over_slots asked_by (marked marks states) one
    ∙ same_sum (λ s. asked_by (state_at (marked marks states) s)) (λ s. asked_by (state_at (marked others states) s)) 0 64 (λ s low high.
    ap asked_by (get_or-map-range_with_len (marked_at marks states) 0 64 s s None (omega (arith, high)) (omega arith)
    ∙ marks_same marks others states s (λ x there. same s x (omega (arith, high)) there)
    ∙ sym (get_or-map-range_with_len (marked_at others states) 0 64 s s None (omega (arith, high)) (omega arith))))
    ∙ sym (over_slots asked_by (marked others states) other)

-- where none is marked, those ask that changed
pub asked_unmarked : (marks : ℕ → Bool) (states : States) → length states ≡ 64 → ((s : ℕ) → s < 64 → marks s ≡ false) → asked_marked marks states ≡ blocks_asked states
asked_unmarked marks states long none =
    let listed : length (marked marks states) ≡ 64 = length-map-range_with_len (marked_at marks states) 0 64 in
    over_slots asked_by (marked marks states) listed
    ∙ same_sum (λ s. asked_by (state_at (marked marks states) s)) (λ s. asked_by (state_at states s)) 0 64 (λ s low high.
    ap asked_by (get_or-map-range_with_len (marked_at marks states) 0 64 s s None (omega (arith, high)) (omega arith)
    ∙ ap (λ (b : Bool). option_map (marked_as b) (state_at states s)) (none s (omega (arith, high))) ∙ unmarked (state_at states s)))
    ∙ sym (over_slots asked_by states long)

-- so what changed asks for at most what all volumes ask for
pub asked_least : (states : States) → length states ≡ 64 → blocks_asked states ≤ asked_all states
asked_least states long =
    let same = asked_unmarked (λ s. false) states long (λ s inside. refl) in
    let most = asked_most (λ s. false) states long in
    omega (arith, same, most)

-- and where there is room for all volumes, there is room for each choice of regions.
pub room_for : (regions : List Region) (space : Space) (states : States) → length states ≡ 64 → asked_all states ≤ free_blocks space → asked_with regions states ≤ free_blocks space
room_for regions space states long room = (let most = asked_most (has_slot regions) states long in omega (arith, most, room))

-- Volumes that are marked by slots are marked so by other marks that say the same of each volume.
pub marked_alike : (marks others : ℕ → Bool) (states now : States) → ((s : ℕ) (x : VolumeState) → state_at states s ≡ Some x → marks s ≡ others s) → ((s : ℕ) → state_at now s ≡ marked_at marks states s) → (s : ℕ) → state_at now s ≡ marked_at others states s
marked_alike marks others states now same are s = are s ∙ marks_same marks others states s (same s)

-- ---- regions

-- where no region of a list is one of the slot, none is a region of it
none_of : (rs : List Region) (s r : ℕ) → list_any (λ (q : Region). q.slot == s) rs ≡ false → has_region rs s r ≡ false
unfolding has_region
none_of [] s r none = refl
none_of (q ∷ qs) s r none = so (q.slot == s) none (none_of qs s r)
  where
    so : (t : Bool) → (t || list_any (λ (q : Region). q.slot == s) qs) ≡ false → (list_any (λ (q : Region). q.slot == s) qs ≡ false → has_region qs s r ≡ false) → ((t && (q.region == r)) || list_any (λ (q : Region). (q.slot == s) && (q.region == r)) qs) ≡ false
    so true none rest = absurd (true≢false none)
    so false none rest = rest none

pub none_chosen : (regions : List Region) (s r : ℕ) → has_slot regions s ≡ false → has_region regions s r ≡ false
none_chosen regions s r none = none_of regions s r none

-- Where the volumes with one of some regions are marked, none of these is one of a volume without a change.
pub chosen_marked : (regions : List Region) (states now : States) → ((s : ℕ) → state_at now s ≡ marked_at (has_slot regions) states s) → ReclaimsChanged (has_region regions) now
chosen_marked regions states now marked s = subst (λ (o : Option VolumeState). IfSome o (λ x. x.changed ≡ false → (r : ℕ) → has_region regions s r ≡ false)) (sym (marked s)) (by (has_slot regions s) refl (state_at states s))
  where
    by : (b : Bool) → has_slot regions s ≡ b → (o : Option VolumeState) → IfSome (option_map (marked_as b) o) (λ x. x.changed ≡ false → (r : ℕ) → has_region regions s r ≡ false)
    by b has None = tt
    by true has (Some x) = λ e. absurd (true≢false e)
    by false has (Some x) = λ e r. none_chosen regions s r has

-- Volumes have the maps and containers that they had, once they are marked.
pub holdings_marked : (containers : Slots) (states now : States) (marks : ℕ → Bool) → ((s : ℕ) → state_at now s ≡ marked_at marks states s) → holdings containers now ≡ holdings containers states
holdings_marked containers states now marks marked_is = λ k s. at s k
  where
    same : (c : Option Mapped) (x : VolumeState) → holding_with (Some (record x { changed = true })) c ≡ holding_with (Some x) c
    same None x = refl
    same (Some map) x = refl

    at : (s : ℕ) → holdings containers now s ≡ holdings containers states s
    at s = ap (λ (o : Option VolumeState). holding_with o (container_at containers s)) (marked_is s) ∙ marked_same (λ o. holding_with o (container_at containers s)) (same (container_at containers s)) (marks s) (state_at states s)

-- So as many blocks are missing,
pub missing_still : (pool : Pool) (states now : States) (marks : ℕ → Bool) → ((s : ℕ) → state_at now s ≡ marked_at marks states s) → length states ≡ 64 → length now ≡ 64 → (want : ℕ) → missing_for pool now want ≡ missing_for pool states want
unfolding missing_for
missing_still pool states now marks marked_is long long_too want = λ k. min ((max 256 want + needed k) + total (counts_of (holdings_marked pool.containers states now marks marked_is k))) greatest_number - (pool.found.blocks - first_block pool.found.blocks)
  where
    needed : claimed now ≡ claimed states
    needed = over_slots claimed_by now long_too
        ∙ same_sum (λ s. claimed_by (state_at now s)) (λ s. claimed_by (state_at states s)) 0 64 (λ s low high. ap claimed_by (marked_is s) ∙ marked_same claimed_by (λ x. refl) (marks s) (state_at states s))
        ∙ sym (over_slots claimed_by states long)

-- and the same regions are chosen for them.
pub chosen_still : (pool : Pool) (states now : States) (marks : ℕ → Bool) → ((s : ℕ) → state_at now s ≡ marked_at marks states s) → length states ≡ 64 → length now ≡ 64 → (want : ℕ) → regions_chosen pool now want ≡ regions_chosen pool states want
chosen_still pool states now marks marked_is long long_too want = λ k. regions_counted (chosen (counts_of (holdings_marked pool.containers states now marks marked_is k)) (missing_still pool states now marks marked_is long long_too want k))
