-- A new aggregate was made, and the line that tells of it was given, or not.
use Rattle.std.proofs.Common.{◌≡◌, ℕ, List, ◌++◌, take, ap, subst, ◌∙◌, inl, inr}
use Rattle.std.specs.Prelude.{Result, Ok, Err, IsTrue, Some}
use Rattle.fv_disk.specs.declared.Failed.{Failed}
use Rattle.fv_disk.specs.Shown.{Ends, Shown, IsSettled, Rose}
use Rattle.fv_disk.specs.HostCalls.{GivesAll}
use Rattle.fv_disk.specs.Crash.{Leaves}
use Rattle.fv_disk.specs.Partly.{PartlyGiven}
use Rattle.fv_disk.proofs.Moments.{then, weaken}
use Rattle.fv_disk.proofs.Resting.{settled_image}
use Rattle.fv_root.specs.Formatted.{KeepsVolumes, OldClosedOrNew, WritesFixed}
use Rattle.fv_model.specs.Machines.{empty_machine}
use Rattle.fv_image.specs.WholeMachine.{machine_of}
use Rattle.fv_run.specs.declared.ending.Fault.TheVariants.{Disk, Sink}
use Rattle.fv_run.specs.Creating.{created_text, IsAcknowledged, IsOldOrNew, Creates}

before_it : (blocks : ℕ) (old mid : Shown) (result : Result Unit Failed) → WritesFixed blocks old mid result → Leaves old mid (IsAcknowledged blocks old)
before_it blocks old mid result w = weaken old mid (λ c g. KeepsVolumes blocks old c × (g ≡ old.given)) (IsAcknowledged blocks old) (λ c g kept. inl kept.1) w.any_moment

while_made : (blocks : ℕ) (old mid : Shown) → Leaves old mid (OldClosedOrNew blocks old) → Leaves old mid (IsOldOrNew blocks old)
while_made blocks old mid moments = weaken old mid (OldClosedOrNew blocks old) (IsOldOrNew blocks old) (λ c g one. one.0) moments

-- the disk failed
pub untold : (blocks : ℕ) (old mid : Shown) (e : Failed) → WritesFixed blocks old mid (Err e) → (IsTrue old.tells → Leaves old mid (OldClosedOrNew blocks old)) → Creates blocks old mid (Err Disk)
untold blocks old mid e w moments = record {
  created = λ tells. tt;
  only = tt;
  given = λ tells. w.counted.given;
  acknowledged = λ tells. before_it blocks old mid (Err e) w;
  any_moment = λ tells. while_made blocks old mid (moments tells);
  volumes = w.reads;
  counts = record { tells = w.counted.tells; source = ap (λ (ends : Ends). ends.source_faults) w.counted.ends; sink = ap (λ (ends : Ends). ends.sink_faults) w.counted.ends; disk = w.counted.cause.rose };
  left = ap (λ (ends : Ends). ends.left) w.counted.ends;
}

while_telling : (blocks : ℕ) (old mid new : Shown) (bytes : List ℕ) → IsSettled mid → machine_of mid.reads ≡ Some (empty_machine blocks) → Leaves mid new (PartlyGiven mid bytes) → Leaves mid new (IsAcknowledged blocks old)
while_telling blocks old mid new bytes settled stands given = weaken mid new (PartlyGiven mid bytes) (IsAcknowledged blocks old)
    (λ c g part. inr (ap machine_of (settled_image mid c settled part.0) ∙ stands)) given

-- what holds once the new aggregate was made, and the line was given as far as the sink let it
module _ (blocks : ℕ) (old mid new : Shown) (made : WritesFixed blocks old mid (Ok tt)) (stands : IsTrue old.tells → machine_of mid.reads ≡ Some (empty_machine blocks))
    (settled : IsTrue old.tells → IsSettled mid) (moments : IsTrue old.tells → Leaves old mid (OldClosedOrNew blocks old)) (meanwhile : Leaves mid new (PartlyGiven mid (created_text blocks))) where
  still_told : IsTrue old.tells → IsTrue mid.tells
  still_told tells = rw made.counted.tells tells

  acknowledged : IsTrue old.tells → Leaves old new (IsAcknowledged blocks old)
  acknowledged tells = then old mid new (IsAcknowledged blocks old) (before_it blocks old mid (Ok tt) made)
      (while_telling blocks old mid new (created_text blocks) (settled tells) (stands tells) meanwhile)

  any_moment : IsTrue old.tells → Leaves old new (IsOldOrNew blocks old)
  any_moment tells = then old mid new (IsOldOrNew blocks old) (while_made blocks old mid (moments tells))
      (weaken mid new (PartlyGiven mid (created_text blocks)) (IsOldOrNew blocks old) (λ c g part. inr (inr (ap machine_of (settled_image mid c (settled tells) part.0) ∙ stands tells))) meanwhile)

  pub told : GivesAll mid (created_text blocks) new (Ok tt) → Creates blocks old new (Ok tt)
  told gives = record {
    created = λ tells. record {
      settled = λ c now a. rw gives.rests.stays.reads (settled tells c (gives.rests.stays.no_more c now) a);
      stands = rw gives.rests.stays.reads (stands tells);
      given = gives.all (still_told tells) ∙ ap (λ (x : List ℕ). x ++ created_text blocks) made.counted.given;
    };
    only = tt;
    given = λ tells. tt;
    acknowledged = acknowledged;
    any_moment = any_moment;
    volumes = λ tells b volumes. rw gives.rests.stays.reads (made.reads tells b volumes);
    counts = record {
      tells = gives.rests.stays.tells ∙ made.counted.tells;
      source = gives.source_faults ∙ ap (λ (ends : Ends). ends.source_faults) made.counted.ends;
      sink = gives.cause.calm ∙ ap (λ (ends : Ends). ends.sink_faults) made.counted.ends;
      disk = gives.rests.faults ∙ made.counted.cause.calm;
    };
    left = gives.left ∙ ap (λ (ends : Ends). ends.left) made.counted.ends;
  }

  pub told_partly : (e : Failed) → GivesAll mid (created_text blocks) new (Err e) → Creates blocks old new (Err Sink)
  told_partly e gives = record {
    created = λ tells. tt;
    only = tt;
    given = λ tells. let part = gives.part (still_told tells) in (part.0, part.1, part.2 ∙ ap (λ (x : List ℕ). x ++ take part.0 (created_text blocks)) made.counted.given);
    acknowledged = acknowledged;
    any_moment = any_moment;
    volumes = λ tells b volumes. rw gives.rests.stays.reads (made.reads tells b volumes);
    counts = record {
      tells = gives.rests.stays.tells ∙ made.counted.tells;
      source = gives.source_faults ∙ ap (λ (ends : Ends). ends.source_faults) made.counted.ends;
      sink = subst (λ (ends : Ends). Rose ends.sink_faults new.ends.sink_faults) made.counted.ends gives.cause.rose;
      disk = gives.rests.faults ∙ made.counted.cause.calm;
    };
    left = gives.left ∙ ap (λ (ends : Ends). ends.left) made.counted.ends;
  }
