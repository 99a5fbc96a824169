-- A command that removes or restores a snapshot is refused for want of it exactly where its volume lacks that snapshot, and one that removes a snapshot
-- as in use exactly where a clone stands on that; that one is refused for nothing else but want of the volume.
use Rattle.std.proofs.Common.{◌≡◌, ◌≢◌, ◌<◌, ◌⊎◌, inl, inr, ⊎_elim, ℕ, true, false, true≢false, List, [], Option, Some, None, Result, Ok, Err, is_some, refl, sym, ap, subst, ◌∙◌}
use Rattle.std.specs.Prelude.{IfErr, IfOk}
use Rattle.fv_disk.specs.Shown.{Shown}
use Rattle.fv_model.specs.declared.answers.Refusal.{Refusal}
use Rattle.fv_model.specs.declared.answers.Refusal.TheVariants.{NoSnapshot, NoVolume, SnapshotInUse}
use Rattle.fv_model.specs.declared.answers.Reply.{Reply}
use Rattle.fv_model.specs.declared.answers.Reply.TheVariants.{Done, Refused}
use Rattle.fv_model.specs.declared.commands.Command.{Command}
use Rattle.fv_model.specs.declared.commands.Command.TheVariants.{SnapCreate, SnapDelete, SnapRestore}
use Rattle.fv_pool.specs.declared.fault.VolumeFault.{VolumeFault}
use Rattle.fv_pool.specs.declared.fault.VolumeFault.TheVariants as volume
use Rattle.fv_pool.specs.declared.pool.Pool.{Pool}
use Rattle.fv_snapshot.specs.declared.creating.Granted.{Granted}
use Rattle.fv_snapshot.specs.Deleting.{is_used, RefusesNoSnapshot, RefusesRemoval}
use Rattle.fv_snapshot.proofs.InUse.{used_in}
use Rattle.fv_volume.specs.declared.state.Snap.{Snap}
use Rattle.fv_volume.specs.declared.state.VolumeState.{VolumeState}
use Rattle.fv_volume.specs.Asking.{snap_named}
use Rattle.fv_volume.specs.Slots.{HasName, NoneHasName}
use Rattle.fv_volume.specs.States.{States, state_at}
use Rattle.fv_aggregate.specs.declared.fault.Fault.{Fault}
use Rattle.fv_aggregate.specs.declared.session.Session.{Session}
use Rattle.fv_aggregate.specs.Calls.{HasInUse, LacksKept, NeedsSnapshot, RefusesDelete}
use Rattle.fv_aggregate.specs.Commands.{is_refusal, snapped_by, snapshot_needed}
use Rattle.fv_aggregate.specs.Looking.{done_as, Replied, SnapsState}
use Rattle.fv_aggregate.specs.Snapping.{snap_blocks, JudgesSnap}
use Rattle.fv_aggregate.proofs.Lost.{replied_as, replied_only_as, same_slot}
use Rattle.fv_aggregate.proofs.Serving.{not_none}
use Rattle.fv_aggregate.proofs.SnapCommands.{snap_cases}

no_pair : (a b : List ℕ) → ◌≡◌ {A = Option (List ℕ × List ℕ)} None (Some (a, b)) → ⊥
no_pair a b e = cc

left_of : Option (List ℕ × List ℕ) → List ℕ
left_of None = []
left_of (Some pair) = pair.0

right_of : Option (List ℕ × List ℕ) → List ℕ
right_of None = []
right_of (Some pair) = pair.1

first_same : (a b c d : List ℕ) → ◌≡◌ {A = Option (List ℕ × List ℕ)} (Some (a, b)) (Some (c, d)) → a ≡ c
unfolding left_of
first_same a b c d e = ap left_of e

second_same : (a b c d : List ℕ) → ◌≡◌ {A = Option (List ℕ × List ℕ)} (Some (a, b)) (Some (c, d)) → b ≡ d
unfolding right_of
second_same a b c d e = ap right_of e

-- a command that needs no snapshot
pub needs_none : (states : States) (c : Command) (result : Result Reply Fault) → snapshot_needed c ≡ None → NeedsSnapshot states c result
needs_none states c result none = record {
  lost = λ name snapshot needs. absurd (no_pair name snapshot (sym none ∙ needs));
  only = λ name snapshot needs. absurd (no_pair name snapshot (sym none ∙ needs));
  used = λ name snapshot its. absurd (no_pair name snapshot (sym none ∙ ap snapshot_needed its));
  only_used = λ name snapshot its. absurd (no_pair name snapshot (sym none ∙ ap snapshot_needed its));
  only_refused = λ name snapshot its. absurd (no_pair name snapshot (sym none ∙ ap snapshot_needed its));
}

-- a snapshot that is made is none that is needed
pub room_needs : (x : VolumeState) (v : List ℕ) (c : Command) → snapped_by c ≡ Some v → snap_blocks (Some x) c ≢ 0 → snapshot_needed c ≡ None
room_needs x v c of = snap_cases (λ (k : Command). snap_blocks (Some x) k ≢ 0 → snapshot_needed k ≡ None) (λ w name some. refl) (λ w name some. absurd (some refl)) (λ w name some. absurd (some refl)) v c of

-- so is one that is refused as it is judged
pub judged_needs : (x : VolumeState) (blocks others : ℕ) (r : Refusal) (v : List ℕ) (c : Command) → snapped_by c ≡ Some v → JudgesSnap x blocks others c (Err r) → snapshot_needed c ≡ None
judged_needs x blocks others r v c of = snap_cases (λ (k : Command). JudgesSnap x blocks others k (Err r) → snapshot_needed k ≡ None) (λ w name said. refl) (λ w name said. absurd (refused _ said)) (λ w name said. absurd (refused _ said)) v c of
  where
    refused : (granted : Granted) → ◌≡◌ {A = Result Granted Refusal} (Err r) (Ok granted) → ⊥
    refused granted e = cc

-- a command whose volume isn't there is refused for that
pub needs_volume : (states : States) (v : List ℕ) (c : Command) → snapped_by c ≡ Some v → NoneHasName states v → NeedsSnapshot states c (Ok (Refused NoVolume))
needs_volume states v c of none = record {
  lost = λ name snapshot needs lacks. not_none _ states lacks.slot name lacks.within lacks.named (subst (NoneHasName states) (of_volume v name snapshot c of needs) none);
  only = λ name snapshot needs is. absurd (no_volume is);
  used = λ name snapshot its in_use. not_none _ states in_use.slot name in_use.within in_use.named (subst (NoneHasName states) (of_volume v name snapshot c of (ap snapshot_needed its)) none);
  only_used = λ name snapshot its is. absurd (not_used is);
  only_refused = λ name snapshot its r is. subst (RefusesDelete states name snapshot) (refused_so r is) (subst (NoneHasName states) (of_volume v name snapshot c of (ap snapshot_needed its)) none);
}
  where
    no_volume : ◌≡◌ {A = Result Reply Fault} (Ok (Refused NoVolume)) (Ok (Refused NoSnapshot)) → ⊥
    no_volume e = cc

    not_used : ◌≡◌ {A = Result Reply Fault} (Ok (Refused NoVolume)) (Ok (Refused SnapshotInUse)) → ⊥
    not_used e = cc

    refused_so : (r : Refusal) → ◌≡◌ {A = Result Reply Fault} (Ok (Refused NoVolume)) (Ok (Refused r)) → NoVolume ≡ r
    refused_so r e = cc

    same : (a b : List ℕ) → ◌≡◌ {A = Option (List ℕ)} (Some a) (Some b) → a ≡ b
    same a b e = cc

    of_volume : (v name snapshot : List ℕ) (c : Command) → snapped_by c ≡ Some v → snapshot_needed c ≡ Some (name, snapshot) → v ≡ name
    of_volume v name snapshot (SnapCreate w other) of needs = absurd (no_pair name snapshot needs)
    of_volume v name snapshot (SnapDelete w other) of needs = same v w (sym of) ∙ first_same w other name snapshot needs
    of_volume v name snapshot (SnapRestore w other) of needs = same v w (sym of) ∙ first_same w other name snapshot needs
    of_volume v name snapshot c of needs = absurd (no_name v of)
      where
        no_name : (v : List ℕ) → ◌≡◌ {A = Option (List ℕ)} None (Some v) → ⊥
        no_name v e = cc

module _ (s : Session) (slot : ℕ) (x : VolumeState) (there : state_at s.volumes slot ≡ Some x) (within : slot < 64) (named : HasName s.volumes slot x.name) where
  -- what the call on the volume of the slot says of the snapshot of a name, for a command
  record Says (c : Command) (name : List ℕ) (r : Result Unit VolumeFault) : Type 0 where
    lost : snap_named x.snapshots name ≡ None → r ≡ Err (volume.Refused NoSnapshot)
    only : r ≡ Err (volume.Refused NoSnapshot) → snap_named x.snapshots name ≡ None
    used : (w snapshot : List ℕ) → c ≡ SnapDelete w snapshot → is_used s.volumes slot snapshot ≡ true → r ≡ Err (volume.Refused SnapshotInUse)
    only_used : (w snapshot : List ℕ) → c ≡ SnapDelete w snapshot → r ≡ Err (volume.Refused SnapshotInUse) → is_used s.volumes slot snapshot ≡ true
    only_refused : (w snapshot : List ℕ) → c ≡ SnapDelete w snapshot → (k : Refusal) → r ≡ Err (volume.Refused k) → (k ≡ NoSnapshot) ⊎ (k ≡ SnapshotInUse)

  -- so does the session's answer
  by_call : (c : Command) (v name : List ℕ) → snapshot_needed c ≡ Some (v, name) → v ≡ x.name → (r : Result Unit VolumeFault) → Says c name r
      → (e : Shown) (before new : Session) (result : Result Reply Fault) → Replied e (done_as r) before new result → NeedsSnapshot s.volumes c result
  by_call c v name is its r says e before new result replied = record {
    lost = λ w snapshot needs lacks. (replied_as NoSnapshot e (done_as r) before new result (ap done_as (says.lost (gone w snapshot needs lacks))) replied).0;
    only = λ w snapshot needs refused. lacking w snapshot needs (says.only (back NoSnapshot refused));
    used = λ w snapshot removes in_use. (replied_as SnapshotInUse e (done_as r) before new result (ap done_as (says.used w snapshot removes (used_here w snapshot removes in_use))) replied).0;
    only_used = λ w snapshot removes refused. standing w snapshot removes (back SnapshotInUse refused);
    only_refused = λ w snapshot removes k refused. ⊎_elim
        (λ (gone : k ≡ NoSnapshot). subst (RefusesDelete s.volumes w snapshot) (sym gone) (lacking w snapshot (ap snapshot_needed removes) (says.only (subst Answered gone (back k refused)))))
        (λ (used : k ≡ SnapshotInUse). subst (RefusesDelete s.volumes w snapshot) (sym used) (standing w snapshot removes (subst Answered used (back k refused))))
        (says.only_refused w snapshot removes k (back k refused));
  }
    where
      volume_is : (w snapshot : List ℕ) → snapshot_needed c ≡ Some (w, snapshot) → x.name ≡ w
      volume_is w snapshot needs = sym its ∙ first_same v name w snapshot (sym is ∙ needs)

      snapshot_is : (w snapshot : List ℕ) → snapshot_needed c ≡ Some (w, snapshot) → name ≡ snapshot
      snapshot_is w snapshot needs = second_same v name w snapshot (sym is ∙ needs)

      gone : (w snapshot : List ℕ) → snapshot_needed c ≡ Some (w, snapshot) → LacksKept s.volumes w snapshot → snap_named x.snapshots name ≡ None
      gone w snapshot needs lacks =
          let found : HasName s.volumes slot w = subst (HasName s.volumes slot) (volume_is w snapshot needs) named in
          let here : state_at s.volumes slot ≡ Some lacks.state = subst (λ (k : ℕ). state_at s.volumes k ≡ Some lacks.state) (same_slot s.volumes w lacks.slot slot lacks.named found) lacks.there in
          ap (λ (n : List ℕ). snap_named x.snapshots n) (snapshot_is w snapshot needs)
          ∙ ap (λ (z : VolumeState). snap_named z.snapshots snapshot) (same_state x lacks.state (sym there ∙ here)) ∙ lacks.none
        where
          same_state : (a b : VolumeState) → ◌≡◌ {A = Option VolumeState} (Some a) (Some b) → a ≡ b
          same_state a b e = cc

      lacking : (w snapshot : List ℕ) → snapshot_needed c ≡ Some (w, snapshot) → snap_named x.snapshots name ≡ None → LacksKept s.volumes w snapshot
      lacking w snapshot needs none = record {
        slot = slot;
        within = within;
        named = subst (HasName s.volumes slot) (volume_is w snapshot needs) named;
        state = x;
        there = there;
        none = subst (λ (n : List ℕ). snap_named x.snapshots n ≡ None) (snapshot_is w snapshot needs) none;
      }

      Answered : Refusal → Type 0
      Answered k = r ≡ Err (volume.Refused k)

      standing : (w snapshot : List ℕ) → c ≡ SnapDelete w snapshot → Answered SnapshotInUse → HasInUse s.volumes w snapshot
      standing w snapshot removes is = record {
        slot = slot;
        within = within;
        named = subst (HasName s.volumes slot) (volume_is w snapshot (ap snapshot_needed removes)) named;
        used = says.only_used w snapshot removes is;
      }

      used_here : (w snapshot : List ℕ) → c ≡ SnapDelete w snapshot → HasInUse s.volumes w snapshot → is_used s.volumes slot snapshot ≡ true
      used_here w snapshot removes in_use =
          let found : HasName s.volumes slot w = subst (HasName s.volumes slot) (volume_is w snapshot (ap snapshot_needed removes)) named in
          ap (λ (k : ℕ). is_used s.volumes k snapshot) (same_slot s.volumes w slot in_use.slot found in_use.named) ∙ in_use.used

      told : (r : Result Unit VolumeFault) → IfOk (done_as r) (λ reply. is_refusal reply ≡ false)
      told (Ok u) = refl
      told (Err f) = tt

      told_so : (r : Result Unit VolumeFault) (w : Refusal) → done_as r ≡ Err (volume.Refused w) → r ≡ Err (volume.Refused w)
      told_so (Ok u) w e = absurd (done_err e)
        where
          done_err : ◌≡◌ {A = Result Reply VolumeFault} (Ok Done) (Err (volume.Refused w)) → ⊥
          done_err e = cc
      told_so (Err f) w e = ap (λ (g : VolumeFault). Err g) (same_fault e)
        where
          same_fault : ◌≡◌ {A = Result Reply VolumeFault} (Err f) (Err (volume.Refused w)) → f ≡ volume.Refused w
          same_fault e = cc

      back : (k : Refusal) → result ≡ Ok (Refused k) → Answered k
      back k refused = told_so r k (replied_only_as k e (done_as r) before new result (told r) replied refused)

  -- what removing the snapshot says,
  removes_says : (v name : List ℕ) (r : Result Unit VolumeFault) → RefusesRemoval x.snapshots (is_used s.volumes slot name) name r → Says (SnapDelete v name) name r
  removes_says v name r refuses = record {
    lost = refuses.lost;
    only = λ is. only_lost r is refuses.only;
    used = λ w snapshot same is. refuses.used (there_used snapshot is (removed_name v name w snapshot same)) (ap (is_used s.volumes slot) (removed_name v name w snapshot same) ∙ is);
    only_used = λ w snapshot same is. ap (is_used s.volumes slot) (sym (removed_name v name w snapshot same)) ∙ only_stood r is refuses.only;
    only_refused = λ w snapshot same k is. only_two r k is refuses.only;
  }
    where
      Only : Result Unit VolumeFault → Type 0
      Only r = IfErr r (λ e. (w : Refusal) → e ≡ volume.Refused w → ((w ≡ NoSnapshot) × (snap_named x.snapshots name ≡ None)) ⊎ ((w ≡ SnapshotInUse) × ((is_some (snap_named x.snapshots name) ≡ true) × (is_used s.volumes slot name ≡ true))))

      lost_used : NoSnapshot ≡ SnapshotInUse → ⊥
      lost_used e = cc

      only_lost : (r : Result Unit VolumeFault) → r ≡ Err (volume.Refused NoSnapshot) → Only r → snap_named x.snapshots name ≡ None
      only_lost r is only = ⊎_elim (λ gone. gone.1) (λ used. absurd (lost_used used.0)) (subst Only is only NoSnapshot refl)

      only_stood : (r : Result Unit VolumeFault) → r ≡ Err (volume.Refused SnapshotInUse) → Only r → is_used s.volumes slot name ≡ true
      only_stood r is only = ⊎_elim (λ gone. absurd (lost_used (sym gone.0))) (λ used. used.1.1) (subst Only is only SnapshotInUse refl)

      only_two : (r : Result Unit VolumeFault) (k : Refusal) → r ≡ Err (volume.Refused k) → Only r → (k ≡ NoSnapshot) ⊎ (k ≡ SnapshotInUse)
      only_two r k is only = ⊎_elim (λ gone. inl gone.0) (λ used. inr used.0) (subst Only is only k refl)

      removed_name : (v name w snapshot : List ℕ) → SnapDelete v name ≡ SnapDelete w snapshot → name ≡ snapshot
      removed_name v name w snapshot e = second_same v name w snapshot (ap snapshot_needed e)

      there_used : (snapshot : List ℕ) → is_used s.volumes slot snapshot ≡ true → name ≡ snapshot → is_some (snap_named x.snapshots name) ≡ true
      there_used snapshot is same = by (snap_named x.snapshots name) refl
        where
          by : (o : Option Snap) → snap_named x.snapshots name ≡ o → is_some o ≡ true
          by (Some q) e = refl
          by None e = absurd (true≢false (sym is ∙ ap (is_used s.volumes slot) (sym same) ∙ used_in s.volumes slot name (Some x) None there e))

  -- and what restoring it does.
  restores_says : (v name : List ℕ) (r : Result Unit VolumeFault) → RefusesNoSnapshot x.snapshots name r → Says (SnapRestore v name) name r
  restores_says v name r refuses = record {
    lost = refuses.lost;
    only = λ is. (subst (λ (r : Result Unit VolumeFault). IfErr r (λ e. (w : Refusal) → e ≡ volume.Refused w → (w ≡ NoSnapshot) × (snap_named x.snapshots name ≡ None))) is refuses.only NoSnapshot refl).1;
    used = λ w snapshot same. absurd (other w snapshot same);
    only_used = λ w snapshot same. absurd (other w snapshot same);
    only_refused = λ w snapshot same. absurd (other w snapshot same);
  }
    where
      other : (w snapshot : List ℕ) → SnapRestore v name ≡ SnapDelete w snapshot → ⊥
      other w snapshot e = cc

  -- So the session's answer does.
  pub needs_now : (c : Command) → (d after : Shown) (p q : Pool) (y : VolumeState) (others : ℕ) (r : Result Unit VolumeFault) → SnapsState d p s.volumes slot x others c after q y r
      → (e : Shown) (asked : Result Reply VolumeFault) → asked ≡ done_as r → (before new : Session) (result : Result Reply Fault) → Replied e asked before new result → NeedsSnapshot s.volumes c result
  needs_now (SnapCreate v name) d after p q y others r did e asked asked_is before new result replied = needs_none s.volumes (SnapCreate v name) result refl
  needs_now (SnapDelete v name) d after p q y others r did e asked asked_is before new result replied =
      by_call (SnapDelete v name) v name refl did.0 r (removes_says v name r did.1.lost) e before new result (subst (λ (a : Result Reply VolumeFault). Replied e a before new result) asked_is replied)
  needs_now (SnapRestore v name) d after p q y others r did e asked asked_is before new result replied =
      by_call (SnapRestore v name) v name refl did.0 r (restores_says v name r did.1.1.lost) e before new result (subst (λ (a : Result Reply VolumeFault). Replied e a before new result) asked_is replied)
  needs_now c d after p q y others r did e asked asked_is before new result replied = absurd did
