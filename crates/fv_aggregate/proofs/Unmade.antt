-- A session in which a change of a file of a volume wasn't made, by the steps that it came to.
use Rattle.std.proofs.Common.{◌≡◌, ◌<◌, ◌+◌, ℕ, List, Option, Some, None, Result, Ok, Err, length, refl, sym, ap, subst, ◌∙◌, arith, get_or-set_other, get_or-set_same}
use Rattle.std.specs.Prelude.{IsNone, OnErr}
use Rattle.fv_disk.specs.Shown.{Shown}
use Rattle.fv_disk.specs.DiskCalls.{OnlyReads}
use Rattle.fv_disk.proofs.Resting.{reads_then}
use Rattle.fv_model.specs.declared.answers.Reply.{Reply}
use Rattle.fv_model.specs.declared.commands.Command.{Command}
use Rattle.fv_container.specs.Chains.{slot_count}
use Rattle.fv_pool.specs.declared.fault.VolumeFault.{VolumeFault}
use Rattle.fv_pool.specs.declared.fault.VolumeFault.TheVariants as volume
use Rattle.fv_pool.specs.declared.pool.Pool.{Pool}
use Rattle.fv_pool.specs.BlocksOver.{LeavesPool}
use Rattle.fv_pool.specs.Calls.{GivesUp, Reads}
use Rattle.fv_volume.specs.declared.state.VolumeState.{VolumeState}
use Rattle.fv_volume.specs.OneVolume.{volume_for, IsStanding}
use Rattle.fv_volume.specs.Slots.{HasName}
use Rattle.fv_volume.specs.States.{States, state_at, with_state}
use Rattle.fv_volume.proofs.OneVolumes.{still_volume}
use Rattle.fv_volumes.proofs.Told.{is_inside}
use Rattle.fv_cp.specs.Lent.{FitTogether}
use Rattle.fv_aggregate.specs.declared.fault.Fault.{Fault}
use Rattle.fv_aggregate.specs.declared.session.Session.{Session}
use Rattle.fv_aggregate.specs.Failing.{IsUnmade, IsUnmadeIn, KeepsVolume}
use Rattle.fv_aggregate.specs.Looking.{done_as, Breaks, ChangesState, Faults, Replied}
use Rattle.fv_aggregate.specs.Reading.{but_numbers}
use Rattle.fv_aggregate.proofs.Damages.{keeps_map}
use Rattle.fv_aggregate.proofs.Returned.{long_lent, same_there}

-- ---- one volume

module _ (d e : Shown) (p q : Pool) (x y : VolumeState) where
  -- the numbers of its files were read
  pub keeps_numbered : Reads d p e q → y ≡ record x { numbers = y.numbers } → (IsStanding d p x → IsStanding e q y) → KeepsVolume d p x e q y
  keeps_numbered reads same standing = record {
    same = let is = sym same in same ∙ (λ j. record x { map = (is j).map; files = (is j).files; numbers = y.numbers; changed = (is j).changed });
    maps = subst (λ (z : VolumeState). GivesUp x.map z.map) (sym same) (keeps_map x.map);
    unwritten = λ was. ap (λ (z : VolumeState). z.changed) same ∙ was;
    idle = λ un. ap but_numbers same;
    standing = standing;
    volume = λ is. ap (volume_for e q) same ∙ still_volume d e p q reads x;
  }

  -- a change of it failed
  pub keeps_failed : (others : ℕ) (c : Command) (f : VolumeFault) → ChangesState d p x others c e q y (Err f) → KeepsVolume d p x e q y
  keeps_failed others c f did = record {
    same = let is = sym did.head.failed in did.head.failed ∙ (λ j. record x { map = y.map; files = y.files; numbers = (is j).numbers; changed = y.changed });
    maps = did.head.maps;
    unwritten = did.head.unwritten;
    idle = λ un. ap but_numbers (did.head.idle un);
    standing = did.standing;
    volume = λ is. (did.changes is).stays;
  }

  -- and then something else wasn't made
  pub keeps_both : (g : Shown) (r : Pool) (z : VolumeState) → KeepsVolume d p x e q y → KeepsVolume e q y g r z → KeepsVolume d p x g r z
  keeps_both g r z first second = record {
    same = second.same ∙ (λ j. record (first.same j) { map = z.map; files = z.files; numbers = z.numbers; changed = z.changed });
    maps = record {
      span = second.maps.span ∙ first.maps.span;
      snapshots = λ s other. second.maps.snapshots s other ∙ first.maps.snapshots s other;
      active = λ v has_it. first.maps.active v (second.maps.active v has_it);
      numbers = omega (arith, first.maps.numbers, second.maps.numbers);
    };
    unwritten = λ was. second.unwritten (first.unwritten was);
    idle = λ un. let same = second.idle un in same ∙ first.idle (sym (ap (λ (k : VolumeState). k.changed) same) ∙ un);
    standing = λ is. second.standing (first.standing is);
    volume = λ is. second.volume (first.standing is) ∙ first.volume is;
  }

-- ---- a session

-- the volume of a slot became this one
pub unmade_with : (d e : Shown) (s : Session) (q : Pool) (slot : ℕ) (x y : VolumeState) → state_at s.volumes slot ≡ Some x → length s.volumes ≡ 64 → OnlyReads d e → LeavesPool s.pool q → KeepsVolume d s.pool x e q y → (pending : ℕ) (failed : Option ℕ)
    → IsUnmade d s slot e (record s { volumes = with_state s.volumes slot (Some y); pool = q; pending = pending; failed = failed })
unmade_with d e s q slot x y there long reads leaves keeps pending failed = record {
  only_reads = reads;
  pool = leaves;
  state = x;
  there = there;
  now = y;
  left = get_or-set_same s.volumes slot (Some y) None (let low = is_inside s.volumes slot x long there in omega (arith, low, long));
  volume = keeps;
  others = λ k other. get_or-set_other s.volumes slot k (Some y) None other;
  same = refl;
}

-- what was not made in two steps wasn't made
pub unmade_both : (d : Shown) (s : Session) (slot : ℕ) (e : Shown) (n : Session) (g : Shown) (new : Session) → IsUnmade d s slot e n → IsUnmade e n slot g new → IsUnmade d s slot g new
unmade_both d s slot e n g new first second = record {
  only_reads = reads_then d e g first.only_reads second.only_reads;
  pool = record {
    map = second.pool.map ∙ first.pool.map;
    containers = second.pool.containers ∙ first.pool.containers;
    kept = second.pool.kept ∙ first.pool.kept;
    found = second.pool.found ∙ first.pool.found;
    version = second.pool.version ∙ first.pool.version;
  };
  state = first.state;
  there = first.there;
  now = second.now;
  left = second.left;
  volume = keeps_both d e s.pool n.pool first.state first.now g new.pool second.now first.volume
      (subst (λ (z : VolumeState). KeepsVolume e n.pool z g new.pool second.now) (same_there _ second.state first.now second.there first.left) second.volume);
  others = λ k other. second.others k other ∙ first.others k other;
  same = second.same ∙ (λ j. record (first.same j) { volumes = new.volumes; pool = new.pool; pending = new.pending; failed = new.failed });
}

-- nor was it where a session made a fault of it
pub unmade_broke : (d : Shown) (s : Session) (slot : ℕ) (e : Shown) (f : VolumeFault) (now new : Session) (g : Fault) → Breaks e f now new g → ((o : Option ℕ) → IsUnmade d s slot e (record now { failed = o })) → IsUnmade d s slot e new
unmade_broke d s slot e (volume.Refused r) now new g b is = subst (IsUnmade d s slot e) (sym b.1.same) (is new.failed)
unmade_broke d s slot e volume.DiskFault now new g b is = subst (IsUnmade d s slot e) (sym b.1.same) (is new.failed)
unmade_broke d s slot e (volume.Damaged at want found) now new g b is = subst (IsUnmade d s slot e) (sym b.1) (is now.failed)
unmade_broke d s slot e volume.Memory now new g b is = subst (IsUnmade d s slot e) (sym b.1) (is now.failed)

-- of a volume by its name
pub unmade_named : (d : Shown) (s : Session) (slot : ℕ) (name : List ℕ) (e : Shown) (new : Session) → slot < slot_count → HasName s.volumes slot name → (r : Result Reply Fault) → OnErr r (IsUnmade d s slot e new) → OnErr r (IsUnmadeIn d s name e new)
unmade_named d s slot name e new within named (Ok y) is = tt
unmade_named d s slot name e new within named (Err f) is = record { slot = slot; within = within; named = named; unmade = is }

-- after another step
pub unmade_then : (d : Shown) (s : Session) (slot : ℕ) (e : Shown) (n : Session) (g : Shown) (new : Session) → IsUnmade d s slot e n → (r : Result Reply Fault) → OnErr r (IsUnmade e n slot g new) → OnErr r (IsUnmade d s slot g new)
unmade_then d s slot e n g new first (Ok y) is = tt
unmade_then d s slot e n g new first (Err f) is = unmade_both d s slot e n g new first is

pub unmade_fails : (d : Shown) (s : Session) (slot : ℕ) (e : Shown) (new : Session) → IsUnmade d s slot e new → (r : Result Reply Fault) → OnErr r (IsUnmade d s slot e new)
unmade_fails d s slot e new is (Ok y) = tt
unmade_fails d s slot e new is (Err f) = is

-- ---- a volume that was lent to the call

module _ (d e : Shown) (v s : Session) (same : v ≡ s) (fit : IsNone v.failed → FitTogether v.pool v.volumes) (fresh : IsNone s.failed) (q : Pool) (slot : ℕ) (x y : VolumeState) (lent : state_at v.volumes slot ≡ Some x) where
  abbrev stay : States
  stay = with_state v.volumes slot (Some y)

  with_it : OnlyReads d e → LeavesPool v.pool q → KeepsVolume d v.pool x e q y → (pending : ℕ) (failed : Option ℕ) → IsUnmade d s slot e (record v { volumes = stay; pool = q; pending = pending; failed = failed })
  with_it reads leaves keeps pending failed = subst (λ (n : Session). IsUnmade d n slot e (record v { volumes = stay; pool = q; pending = pending; failed = failed })) same
      (unmade_with d e v q slot x y lent (long_lent v s same fit fresh) reads leaves keeps pending failed)

  module _ (reads : Reads d v.pool e q) (still : y ≡ record x { numbers = y.numbers }) (standing : IsStanding d v.pool x → IsStanding e q y) where
    -- its numbers were read
    pub unmade_read : IsUnmade d s slot e (record v { volumes = stay; pool = q })
    unmade_read = with_it reads.only_reads reads.leaves (keeps_numbered d e v.pool q x y reads still standing) v.pending v.failed

    -- or couldn't be
    pub unmade_unread : (f : VolumeFault) (new : Session) (g : Fault) → Breaks e f (record v { volumes = stay; pool = q }) new g → IsUnmade d s slot e new
    unmade_unread f new g broke = unmade_broke d s slot e f (record v { volumes = stay; pool = q }) new g broke (with_it reads.only_reads reads.leaves (keeps_numbered d e v.pool q x y reads still standing) v.pending)

  -- a change of it wasn't made
  module _ (others : ℕ) (c : Command) (new : Session) (result : Result Reply Fault) (more : ℕ) where
    abbrev after : Session
    after = record v { volumes = stay; pool = q; pending = v.pending + more }

    fails_by : (f : VolumeFault) → ChangesState d v.pool x others c e q y (Err f) → Faults e f after new result → OnErr result (IsUnmade d s slot e new)
    fails_by f did b = subst (λ (z : Result Reply Fault). OnErr z (IsUnmade d s slot e new)) (sym b.1.0)
        (unmade_broke d s slot e f after new b.0 b.1.1 (with_it did.reads.only_reads did.reads.leaves (keeps_failed d e v.pool q x y others c f did) (v.pending + more)))

    unmade_by : (r : Result Unit VolumeFault) → ChangesState d v.pool x others c e q y r → Replied e (done_as r) after new result → OnErr result (IsUnmade d s slot e new)
    unmade_by (Ok u) did is = subst (λ (z : Result Reply Fault). OnErr z (IsUnmade d s slot e new)) (sym is.0) tt
    unmade_by (Err (volume.Refused r)) did is = subst (λ (z : Result Reply Fault). OnErr z (IsUnmade d s slot e new)) (sym is.0) tt
    unmade_by (Err volume.DiskFault) did is = fails_by volume.DiskFault did is
    unmade_by (Err (volume.Damaged at want found)) did is = fails_by (volume.Damaged at want found) did is
    unmade_by (Err volume.Memory) did is = fails_by volume.Memory did is

    pub unmade_lent : (r : Result Unit VolumeFault) (told : Result Reply VolumeFault) → told ≡ done_as r → ChangesState d v.pool x others c e q y r → Replied e told after new result → OnErr result (IsUnmade d s slot e new)
    unmade_lent r told is did replied = unmade_by r did (subst (λ (t : Result Reply VolumeFault). Replied e t after new result) is replied)
