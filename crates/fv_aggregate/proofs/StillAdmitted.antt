-- A new volume that was admitted before a consistency point is admitted after it: the point keeps the cores of the volumes.
use Rattle.std.proofs.Common.{◌≡◌, ℕ, List, length, Option, Some, None, refl, sym, ap, subst, ◌∙◌, arith}
use Rattle.std.specs.Prelude.{IsSome}
use Rattle.std.specs.Option.{option_map}
use Rattle.std.proofs.lemmas.Option.{same_Some}
use Rattle.fv_model.specs.declared.commands.Kind.{Kind}
use Rattle.fv_model.specs.Space.{span_of}
use Rattle.fv_volume.specs.declared.state.VolumeState.{VolumeState}
use Rattle.fv_volume.specs.Asking.{snap_named}
use Rattle.fv_volume.specs.Cloning.{base_on}
use Rattle.fv_volume.specs.Slots.{is_named, sum_of, IsFirstFree, NoneHasName}
use Rattle.fv_volume.specs.States.{States, state_at}
use Rattle.fv_volumes.specs.Creating.{Admits}
use Rattle.fv_clone.specs.declared.admitting.Admitted.{Admitted}
use Rattle.fv_clone.specs.Admitting.{is_split, CanMake, IsAsked}
use Rattle.fv_mirror.specs.declared.admitting.Admitted.{Admitted as Mirror}
use Rattle.fv_mirror.specs.Admitting.{CanMake as CanMirror}
use Rattle.fv_cp.specs.Placing.{core_of, KeepCores}
use Rattle.fv_aggregate.specs.declared.session.Session.{Session}
use Rattle.fv_aggregate.specs.Adding.{StillAdmits}
use Rattle.fv_aggregate.proofs.Commits.{commits_kept}

module _ (states stay : States) (cores : KeepCores states stay) where
  named_core : (o : Option VolumeState) (name : List ℕ) → is_named (option_map core_of o) name ≡ is_named o name
  named_core None name = refl
  named_core (Some x) name = refl

  used_core : (o : Option VolumeState) → IsSome (option_map core_of o) → IsSome o
  used_core None is = is
  used_core (Some x) is = is

  core_used : (o : Option VolumeState) → IsSome o → IsSome (option_map core_of o)
  core_used None is = is
  core_used (Some x) is = is

  free_core : (o : Option VolumeState) → option_map core_of o ≡ None → o ≡ None
  free_core None e = refl
  free_core (Some x) e = cc

  -- a slot's volume has the names that it had
  named_still : (s : ℕ) (name : List ℕ) → is_named (state_at stay s) name ≡ is_named (state_at states s) name
  named_still s name = sym (named_core (state_at stay s) name) ∙ ap (λ (o : Option VolumeState). is_named o name) (cores s) ∙ named_core (state_at states s) name

  none_still : (name : List ℕ) → NoneHasName states name → NoneHasName stay name
  none_still name is = record { none = λ s within. named_still s name ∙ is.none s within }

  free_still : (slot : ℕ) → IsFirstFree states slot → IsFirstFree stay slot
  free_still slot is = record {
    within = is.within;
    free = free_core (state_at stay slot) (cores slot ∙ ap (option_map core_of) is.free);
    first = λ s lt. used_core (state_at stay s) (subst (λ (o : Option VolumeState). IsSome o) (sym (cores s)) (core_used (state_at states s) (is.first s lt)));
  }

  admits_by_cores : (blocks : ℕ) (name : List ℕ) (size : ℕ) (kind : Kind) (slot span : ℕ) → length states ≡ 64 → length stay ≡ 64 → Admits states blocks name size kind slot span → Admits stay blocks name size kind slot span
  admits_by_cores blocks name size kind slot span long long_too is =
      let sum : sum_of stay ≡ sum_of states = commits_kept states stay cores in
      record {
        size_is = is.size_is;
        name_is = none_still name is.name_is;
        free = free_still slot is.free;
        span_is = is.span_is;
        most = is.most;
        room = omega (arith, sum, is.room);
      }

  -- the volume of a slot is there with its core
  core_there : (s : ℕ) (x : VolumeState) → state_at states s ≡ Some x → (y : VolumeState) × ((state_at stay s ≡ Some y) × (core_of y ≡ core_of x))
  core_there s x there = by (state_at stay s) refl (cores s ∙ ap (option_map core_of) there)
    where
      by : (o : Option VolumeState) → state_at stay s ≡ o → option_map core_of o ≡ Some (core_of x) → (y : VolumeState) × ((state_at stay s ≡ Some y) × (core_of y ≡ core_of x))
      by None e same = absurd cc
      by (Some y) e same = (y, (e, same_Some (core_of y) (core_of x) same))

  -- so a snapshot that is asked for is there still
  abbrev asked_still : (source snapshot name : List ℕ) (size : ℕ) → IsAsked states source snapshot name size → IsAsked stay source snapshot name size
  asked_still source snapshot name size is =
      let home = is.source.home in
      let now = core_there home.slot home.volume home.there in
      record {
        size_is = is.size_is;
        source = record {
          home = record {
            slot = home.slot;
            within = home.within;
            has = record { named = named_still home.slot source ∙ home.has.named; first = λ s low. named_still s source ∙ home.has.first s low };
            volume = now.0;
            there = now.1.0;
          };
          snap = is.source.snap;
          found = ap (λ (z : VolumeState). snap_named z.snapshots snapshot) now.1.1 ∙ is.source.found;
        };
        name_is = none_still name is.name_is;
      }

  -- a clone can be made of it
  makes_by_cores : (blocks : ℕ) (name : List ℕ) (size : ℕ) (kind : Kind) (a : Admitted) → CanMake states blocks name size kind a → CanMake stay blocks name size kind a
  makes_by_cores blocks name size kind a is =
      let home = is.asked.source.home in
      let now = core_there home.slot home.volume home.there in
      let same : core_of now.0 ≡ core_of home.volume = now.1.1 in
      let sum : sum_of stay ≡ sum_of states = commits_kept states stay cores in
      record {
        asked = asked_still a.base.name a.base.snapshot name size is.asked;
        base_is = is.base_is ∙ sym (ap (λ (z : VolumeState). base_on z is.asked.source.snap) same);
        can = record {
          whole = ap (λ (z : VolumeState). is_split z.base) same ∙ is.can.whole;
          known = ap (λ (z : VolumeState). z.known) same ∙ is.can.known;
          ids = is.can.ids;
          span_is = is.can.span_is ∙ ap (λ (z : VolumeState). span_of size is.can.ids z.span) (sym same);
          most = is.can.most;
        };
        free = free_still a.slot is.free;
        room = omega (arith, sum, is.room);
      }

  -- and so can a mirror
  mirrors_by_cores : (blocks : ℕ) (name : List ℕ) (size : ℕ) (kind : Kind) (a : Mirror) → CanMirror states blocks name size kind a → CanMirror stay blocks name size kind a
  mirrors_by_cores blocks name size kind a is =
      let home = is.asked.source.home in
      let now = core_there home.slot home.volume home.there in
      let same : core_of now.0 ≡ core_of home.volume = now.1.1 in
      let sum : sum_of stay ≡ sum_of states = commits_kept states stay cores in
      record {
        asked = asked_still a.source.name a.source.snapshot name size is.asked;
        source_is = is.source_is ∙ sym (ap (λ (z : VolumeState). base_on z is.asked.source.snap) same);
        span_is = is.span_is ∙ ap (λ (z : VolumeState). span_of size 0 z.span) (sym same);
        most = is.most;
        free = free_still a.slot is.free;
        fits = is.fits;
        room = omega (arith, sum, is.room);
      }

pub admits_still : (old new : Session) → length old.volumes ≡ 64 → length new.volumes ≡ 64 → KeepCores old.volumes new.volumes → new.pool.found.blocks ≡ old.pool.found.blocks → StillAdmits old new
admits_still old new long long_too cores blocks name size kind slot span is =
    subst (λ (n : ℕ). Admits new.volumes n name size kind slot span) (sym blocks) (admits_by_cores old.volumes new.volumes cores old.pool.found.blocks name size kind slot span long long_too is)

pub makes_still : (old new : Session) → KeepCores old.volumes new.volumes → new.pool.found.blocks ≡ old.pool.found.blocks → (name : List ℕ) (size : ℕ) (kind : Kind) (a : Admitted)
    → CanMake old.volumes old.pool.found.blocks name size kind a → CanMake new.volumes new.pool.found.blocks name size kind a
makes_still old new cores blocks name size kind a is =
    subst (λ (n : ℕ). CanMake new.volumes n name size kind a) (sym blocks) (makes_by_cores old.volumes new.volumes cores old.pool.found.blocks name size kind a is)

pub mirrors_still : (old new : Session) → KeepCores old.volumes new.volumes → new.pool.found.blocks ≡ old.pool.found.blocks → (name : List ℕ) (size : ℕ) (kind : Kind) (a : Mirror)
    → CanMirror old.volumes old.pool.found.blocks name size kind a → CanMirror new.volumes new.pool.found.blocks name size kind a
mirrors_still old new cores blocks name size kind a is =
    subst (λ (n : ℕ). CanMirror new.volumes n name size kind a) (sym blocks) (mirrors_by_cores old.volumes new.volumes cores old.pool.found.blocks name size kind a is)
