-- What a pass makes of an aggregate, by what the first two passes learnt of it.
use Rattle.std.specs.Prelude.{◌≡◌, ℕ, ◌<◌, List, [], ◌++◌, get_or, length, map, Result, IsTrue, IfOk}
use Rattle.fv_disk.specs.Shown.{Image, Shown}
use Rattle.fv_codec.specs.declared.label.Label.{Label}
use Rattle.fv_codec.specs.Blocks.{IsLabel}
use Rattle.fv_image.specs.Held.{Layout, layout_at}
use Rattle.fv_image.specs.Seen.{roots_of}
use Rattle.fv_image.specs.Views.{head_of}
use Rattle.fv_root.specs.Finding.{IsInRange, root_found}
use Rattle.fv_faults.specs.declared.fault.Fault.{Fault}
use Rattle.fv_faults.specs.declared.lines.Lines.{Lines}
use Rattle.fv_faults.specs.Adding.{Adds}
use Rattle.fv_faults.specs.ThirdPass.{base_steps}
use Rattle.fv_faults.specs.Walks.{Ground, Step}
use Rattle.fv_first_pass.specs.declared.fault.CheckFault.{CheckFault}
use Rattle.fv_first_pass.specs.Causes.{HasRead}
use Rattle.fv_second_pass.specs.Told.{IsKnown, IsLabelled, ground_at}
use Rattle.fv_walk.specs.declared.visit.Visit.{Visit}
use Rattle.fv_third_pass.specs.declared.survey.Survey.{Survey}
use Rattle.fv_third_pass.specs.declared.survey.VolumeSurvey.{VolumeSurvey}
use Rattle.fv_third_pass.specs.Twinned.{twin_lines, visits}
use Rattle.fv_third_pass.specs.Volumes.{AreFew, IsWalked, IsWalkedLabel, base_said, front_said, own_tables, root_of, shown}

-- Whatever the disk tells, the numbers of the root and of the labels are in range.
pub record HasRange (x : Survey) : Type 0 where
  pub root : IsInRange x.root.now
  pub labels : IsKnown x.known.now

-- the aggregate that an image has under the root
abbrev pub layout_of : Survey → Image → Layout
layout_of x i = layout_at (root_found x.root.now) i

-- the place of the label of a slot
abbrev pub label_place : Survey → ℕ → ℕ
label_place x s = get_or x.root.now.root.labels s 0

-- the volume of a slot with this label, as walks have it
abbrev pub ground_of : Survey → Image → ℕ → Label → Ground
ground_of x i s l = ground_at (root_found x.root.now) i s l.span

-- The first pass found nothing in an image, what it read is of that, and the volume of a slot has this label.
abbrev pub IsLabelledAt : Survey → Image → ℕ → Label → Type 0
IsLabelledAt x i s l = IsLabelled (root_found x.root.now) i x.known.now s l

-- what was learnt is of an image, in which the first two passes found nothing
abbrev pub IsSurveyOf : Survey → Image → Type 0
IsSurveyOf x i = IsWalked (root_found x.root.now) i x.known.now x.reached.now

-- and the volume of a slot has this label
abbrev pub IsSurveyAt : Survey → Image → ℕ → Label → Type 0
IsSurveyAt x i s l = IsWalkedLabel (root_found x.root.now) i x.known.now x.reached.now s l

-- A pass notes its lines, beside those that it is given, where what was learnt is of the disk's image; and it only reads.
pub record Passes (old new : Shown) (IsLearnt : Image → Type 0) (said : Image → List Fault) (lines : Lines) (result : Result Lines CheckFault) : Type 0 where
  pub adds : IsTrue old.tells → IfOk result (λ noted. IsLearnt old.reads → Adds (said old.reads) lines noted)
  pub read : HasRead old new result

-- ---- one volume

-- Whatever the disk tells: a volume is in a slot, the numbers are in range, and its place and its roots are those of its label.
pub record IsVolumeSurvey (v : VolumeSurvey) : Type 0 where
  pub range : HasRange v.survey.now
  pub slot : v.slot < 64
  pub label : IsLabel v.label.now
  pub long : length v.label.now.snapshots ≡ 24
  pub place : v.at ≡ label_place v.survey.now v.slot
  pub roots : map root_of v.roots.now ≡ roots_of (head_of v.label.now)
  pub few : AreFew v.roots.now

-- what was learnt is of an image, in which the first two passes found nothing, and the volume of the slot has this label
abbrev pub IsVolumeOf : VolumeSurvey → Image → Type 0
IsVolumeOf v i = IsSurveyAt v.survey.now i v.slot v.label.now

-- the volume, as walks have it
abbrev pub volume_in : VolumeSurvey → Image → Ground
volume_in v i = ground_of v.survey.now i v.slot v.label.now

-- what walks along its tables are shown
abbrev pub visits_in : VolumeSurvey → Image → List Visit
visits_in v i = visits (shown (volume_in v i) v.at v.roots.now)

-- the steps of its base table
abbrev pub base_in : VolumeSurvey → Image → List Step
base_in v i = base_steps (layout_of v.survey.now i) (head_of v.label.now).base

-- what is said of its span and of its maps
abbrev pub maps_said : VolumeSurvey → Image → List Fault
maps_said v i = front_said (layout_of v.survey.now i).view v.slot v.at (head_of v.label.now)

-- what is said of its tables, and of the ids in them
abbrev pub tables_said : VolumeSurvey → Image → List Fault
tables_said v i = own_tables (volume_in v i) v.at v.label.now.now v.roots.now ++ twin_lines [] (visits_in v i)

-- what is said of its base table, by a judge that saw these
abbrev pub base_said_in : VolumeSurvey → Image → List Visit → List Fault
base_said_in v i done = base_said v.label.now.now done (base_in v i)
