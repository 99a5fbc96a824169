-- Whether a clone stands on a volume of a session, or on its snapshot, by slots, and what the machine says of it by names.
use Rattle.std.proofs.Common.{◌≡◌, ◌<◌, ℕ, Bool, true, false, ◌&&◌, cond, List, length, Option, Some, None, refl, sym, ap, subst, ◌∙◌, arith}
use Rattle.std.specs.Prelude.{IfSome, ◌==◌}
use Rattle.std.specs.List.{list_any, range_with_len}
use Rattle.std.specs.Option.{option_map_or}
use Rattle.fv_model.specs.Machines.{Machine}
use Rattle.fv_model.specs.Refusals.{is_base, is_parent, some_base}
use Rattle.fv_model.specs.Spelling.{is_same_name}
use Rattle.fv_model.specs.Volumes.{Base as Told}
use Rattle.std.proofs.lemmas.Bool.Decides.{nat_tests}
use Rattle.std.proofs.lemmas.Option.{same_Some}
use Rattle.fv_laws.proofs.Changes.{itself}
use Rattle.fv_laws.proofs.Lists.{In, from_range, in_range}
use Rattle.fv_laws.proofs.Tests.{none_of, to_any, to_none}
use Rattle.fv_image.specs.Views.{Snap as HeadSnap}
use Rattle.fv_image.specs.Volumes.{snap_at}
use Rattle.fv_container.specs.Chains.{Slots, slot_count}
use Rattle.fv_volume.specs.declared.state.Base.{Base}
use Rattle.fv_volume.specs.declared.state.VolumeState.{VolumeState}
use Rattle.fv_volume.specs.Files.{AreNamed}
use Rattle.fv_volume.specs.OneVolume.{base_as, Content}
use Rattle.fv_volume.specs.Promising.{HasVolumes}
use Rattle.fv_volume.specs.States.{States, head_in, snap_in, state_at}
use Rattle.fv_volume.proofs.KnownBases.{found_slot}
use Rattle.fv_volumes.specs.Footing.{is_base_on, is_snap_stood_on, is_stood_on, some_stands, stands_by, AreFooted, IsFooted, IsOnBase}
use Rattle.fv_volumes.proofs.NamedBases.{some_by}
use Rattle.fv_volumes.proofs.SlotTests.{same_parent, same_snapshot}

-- ---- by slots

module _ (states : States) (test : Base → Bool) where
  abbrev passes : ℕ → Bool
  passes s = stands_by test (state_at states s)

  pub stands_here : (s : ℕ) → s < slot_count → passes s ≡ true → some_stands states test ≡ true
  unfolding some_stands
  stands_here s low is = to_any passes s (range_with_len 0 slot_count) (in_range 0 slot_count s (omega arith) (omega (arith, low))) is

  pub stands_nowhere : ((s : ℕ) → s < slot_count → passes s ≡ false) → some_stands states test ≡ false
  unfolding some_stands
  stands_nowhere none = to_none passes (range_with_len 0 slot_count) (λ s there. let low = (from_range 0 slot_count s there).1 in none s (omega (arith, low)))

  -- where none stands by the test, neither does the one of a slot
  pub stands_not : some_stands states test ≡ false → (s : ℕ) → s < slot_count → passes s ≡ false
  unfolding some_stands
  stands_not none s low = none_of passes (range_with_len 0 slot_count) none s (in_range 0 slot_count s (omega arith) (omega (arith, low)))

-- where no snapshot is given a base on whichever counts
pub on_whichever : (states : States) (slot : ℕ) → some_stands states (is_base_on slot None) ≡ is_stood_on states slot
on_whichever states slot = λ i. some_stands states (λ b. and_true (b.parent == slot) i)
  where
    and_true : (t : Bool) → (t && true) ≡ t
    and_true true = refl
    and_true false = refl

-- ---- by names

module _ (states : States) (slots : Slots) (footed : AreFooted states slots) (named : AreNamed states) (long : length states ≡ 64) (contents : ℕ → Content) (blocks : ℕ) (m : Machine) (has : HasVolumes states contents blocks m) where
  -- tests by names and by slots that agree on what clones stand on agree on all volumes
  by_tests : (test : Told → Bool) (slot_test : Base → Bool) → ((x : VolumeState) (b : Base) → IsFooted states x b → (t : ℕ) → option_map_or test (base_as (Some b) (contents t).base) false ≡ slot_test b) → some_base m test ≡ some_stands states slot_test
  unfolding some_stands
  by_tests test slot_test agree = some_by states long contents blocks m has test ∙ (λ i. list_any (λ s. each s i) (range_with_len 0 slot_count))
    where
      each : (s : ℕ) → option_map_or (λ (x : VolumeState). option_map_or test (base_as x.base (contents s).base) false) (state_at states s) false ≡ stands_by slot_test (state_at states s)
      each s = by (state_at states s) (footed.each s)
        where
          by : (o : Option VolumeState) → IfSome o (λ x. IfSome x.base (λ b. IsFooted states x b × IsOnBase slots x)) → option_map_or (λ (x : VolumeState). option_map_or test (base_as x.base (contents s).base) false) o false ≡ stands_by slot_test o
          by None is = refl
          by (Some x) is = based x.base is
            where
              based : (o : Option Base) → IfSome o (λ b. IsFooted states x b × IsOnBase slots x) → option_map_or test (base_as o (contents s).base) false ≡ option_map_or slot_test o false
              based None is = refl
              based (Some b) is = agree x b is.0 s

  module _ (slot : ℕ) (y : VolumeState) (there : state_at states slot ≡ Some y) where
    -- A volume is a parent in the machine exactly where a clone stands on it.
    pub parent_by : is_parent m y.name ≡ is_stood_on states slot
    parent_by = by_tests (λ b. is_same_name b.parent y.name) (λ b. b.parent == slot) (λ x b is t. same_parent states named slot y there x b is itself)

    -- So is its snapshot, by the map slot that it has.
    pub base_by : (name : List ℕ) (snap : ℕ) → ((q : HeadSnap) → In q (head_in y).snapshots → is_same_name q.name name ≡ (q.slot == snap)) → is_base m y.name name ≡ is_snap_stood_on states slot snap
    base_by name snap tells = by_tests (λ b. cond (is_same_name b.parent y.name) (is_same_name b.snapshot name) false) (λ b. (b.parent == slot) && (b.slot == snap))
        (λ x b is t. and_as (is_same_name b.name y.name) (is_same_name b.snapshot name) ∙ same_snapshot states named slot y there x b is itself name snap tells)
      where
        and_as : (s t : Bool) → cond s t false ≡ (s && t)
        and_as true t = refl
        and_as false t = refl

    -- Where none of its snapshots has a name, no clone stands on one of it.
    pub base_none : (name : List ℕ) → ((q : HeadSnap) → In q (head_in y).snapshots → is_same_name q.name name ≡ false) → is_base m y.name name ≡ false
    unfolding snap_at
    base_none name none = by_tests (λ b. cond (is_same_name b.parent y.name) (is_same_name b.snapshot name) false) (λ b. false) (λ x b is t. elsewhere x b is) ∙ stands_nowhere states (λ b. false) (λ s low. nobody (state_at states s))
      where
        unbased : (o : Option Base) → option_map_or (λ (b : Base). false) o false ≡ false
        unbased None = refl
        unbased (Some b) = refl

        nobody : (o : Option VolumeState) → stands_by (λ b. false) o ≡ false
        nobody None = refl
        nobody (Some x) = unbased x.base

        elsewhere : (x : VolumeState) (b : Base) → IsFooted states x b → cond (is_same_name b.name y.name) (is_same_name b.snapshot name) false ≡ false
        elsewhere x b is = by (b.parent == slot) refl
          where
            by : (t : Bool) → (b.parent == slot) ≡ t → cond (is_same_name b.name y.name) (is_same_name b.snapshot name) false ≡ false
            by false test = ap (λ (t : Bool). cond t (is_same_name b.snapshot name) false) (same_parent states named slot y there x b is itself ∙ test)
            by true test =
                let e : b.parent ≡ slot = grind (arith, nat_tests, test) in
                let one : is.parent ≡ y = same_Some is.parent y (sym is.there ∙ ap (state_at states) e ∙ there) in
                let found = found_slot b.slot (head_in y).snapshots (snap_in is.snap) (subst (λ (z : VolumeState). snap_at (head_in z) b.slot ≡ Some (snap_in is.snap)) one is.found) in
                ap (λ (t : Bool). cond (is_same_name b.name y.name) t false) (ap (λ (n : List ℕ). is_same_name n name) is.called ∙ none (snap_in is.snap) found.0) ∙ off (is_same_name b.name y.name)
              where
                off : (t : Bool) → cond t false false ≡ false
                off true = refl
                off false = refl
