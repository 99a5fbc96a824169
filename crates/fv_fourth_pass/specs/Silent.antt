-- What the fourth pass takes of the first three: sets of what a volume's roots and its base table reach.
use Rattle.std.specs.Prelude.{◌≡◌, ◌<◌, ◌≤◌, ℕ, Bool, false, not, ◌&&◌, List, [], ◌++◌, get_or, length, map, Option, Some, None, IfSome, Ok, ◌==◌, if◌then◌else◌}
use Rattle.std.specs.List.{list_any}
use Rattle.std.specs.Option.{is_none}
use Rattle.fv_disk.specs.Shown.{Image}
use Rattle.fv_bits.specs.Members.{is_member}
use Rattle.fv_codec.specs.declared.label.Label.{Label}
use Rattle.fv_laws.proofs.Lists.{In}
use Rattle.fv_image.specs.NewerRoot.{Taken}
use Rattle.fv_image.specs.Held.{layout_at}
use Rattle.fv_image.specs.Views.{Rooted, head_of}
use Rattle.fv_image.specs.Seen.{roots_of}
use Rattle.fv_image.specs.Volumes.{volume_told}
use Rattle.fv_model.specs.Space.{need}
use Rattle.fv_faults.specs.declared.fault.Fault.{Fault}
use Rattle.fv_faults.specs.FourthPass.{place_lines}
use Rattle.fv_faults.specs.ThirdPass.{third_pass}
use Rattle.fv_first_pass.specs.declared.first.Known.{Known}
use Rattle.fv_second_pass.specs.declared.reached.Reached.{Reached}
use Rattle.fv_root.specs.Finding.{root_found}
use Rattle.fv_third_pass.specs.declared.roots.MapRoot.{MapRoot}
use Rattle.fv_third_pass.specs.declared.survey.Survey.{Survey}
use Rattle.fv_third_pass.specs.declared.survey.VolumeSurvey.{VolumeSurvey}
use Rattle.fv_third_pass.specs.Surveys.{volume_in}
use Rattle.fv_third_pass.specs.Volumes.{IsWalked, base_set, reach_at, root_of}
use Rattle.fv_fourth_pass.specs.declared.reach_sets.Sets.{Sets}
use Rattle.fv_fourth_pass.specs.Noted.{hinted_roots}
use Rattle.fv_fourth_pass.specs.Used.{is_out}

-- one of some roots of a slot's volume reaches a VVBN, by what the second pass told
abbrev pub any_of : Reached → ℕ → List (ℕ × Rooted) → ℕ → Bool
any_of reached s rs v = list_any (λ (r : ℕ × Rooted). is_out (reach_at reached s r.0) v) rs

-- one of the roots of a label does
abbrev pub any_reached : Reached → ℕ → Label → ℕ → Bool
any_reached reached s l v = any_of reached s (roots_of (head_of l)) v

-- what was told of roots has a bit for each VVBN of a span
abbrev pub AreWide : Reached → ℕ → ℕ → List (ℕ × Rooted) → Type 0
AreWide reached s span rs = (r : ℕ × Rooted) → In r rs → IfSome (reach_at reached s r.0) (λ set. length set ≡ span)

-- a set, if there is one, has no bit past a span
abbrev pub FitsIn : ℕ → Option (List Bool) → Type 0
FitsIn span o = IfSome o (λ set. length set ≤ span)

-- of the numbers below one, a set has those of another, and no others
pub record HasLow (from copy : List Bool) (n : ℕ) : Type 0 where
  pub low : (v : ℕ) → v < n → is_member copy v ≡ is_member from v
  pub rest : (v : ℕ) → n ≤ v → is_member copy v ≡ false

-- what a label's volume isn't charged for, of what its base table reaches: nothing while it is being split
abbrev pub left_of : Label → Option (List Bool) → Option (List Bool)
left_of l base = if l.splitting == 1 then None else base

-- One set has what the roots of the volume of a slot reach, one what its base table reaches, and one what of that the volume isn't charged for.
pub record AreSetsOf (reached : Reached) (s : ℕ) (l : Label) (held : List Bool) (base out : Option (List Bool)) : Type 0 where
  pub reaches : (v : ℕ) → is_member held v ≡ any_reached reached s l v
  pub based : (v : ℕ) → is_out base v ≡ is_out (base_set reached.volumes.items l) v
  pub known : is_none base ≡ (l.parent == 0)
  pub left : (v : ℕ) → is_out out v ≡ (not (l.splitting == 1) && is_out (base_set reached.volumes.items l) v)

-- ---- what the first three passes gave

-- They found nothing, and what was read spells the aggregate and tells what its roots reach.
pub record IsSilent (t : Taken) (i : Image) (known : Known) (reached : Reached) : Type 0 where
  pub walked : IsWalked t i known reached
  pub third : third_pass (layout_at t i) ≡ []

-- of the volume of a label in a slot
pub record IsSilentLabel (t : Taken) (i : Image) (known : Known) (reached : Reached) (s : ℕ) (l : Label) : Type 0 where
  pub silent : IsSilent t i known reached
  pub label : get_or known.labels.items s None ≡ Some (Ok l)

-- with its roots and its sets
pub record IsSilentVolume (t : Taken) (i : Image) (known : Known) (reached : Reached) (s : ℕ) (l : Label) (rs : List MapRoot) (x : Sets) : Type 0 where
  pub silent : IsSilent t i known reached
  pub label : get_or known.labels.items s None ≡ Some (Ok l)
  pub roots : map root_of rs ≡ roots_of (head_of l)
  pub sets : AreSetsOf reached s l x.held x.base (left_of l x.base)

-- ---- the same, by what the first two passes learnt

abbrev pub IsSilentOf : Survey → Image → Type 0
IsSilentOf x i = IsSilent (root_found x.root.now) i x.known.now x.reached.now

abbrev pub IsSilentAt : Survey → Image → ℕ → Label → Type 0
IsSilentAt x i s l = IsSilentLabel (root_found x.root.now) i x.known.now x.reached.now s l

-- of a volume, with its sets
abbrev pub IsSilentWith : VolumeSurvey → Image → Sets → Type 0
IsSilentWith v i sets = IsSilentVolume (root_found v.survey.now.root.now) i v.survey.now.known.now v.survey.now.reached.now v.slot v.label.now v.roots.now sets

-- ---- one volume, by what they learnt

-- what rules 11 to 13 say of its pointers
abbrev pub rules_said : VolumeSurvey → Image → List Fault
rules_said v i = hinted_roots (volume_in v i) v.at v.roots.now ++ place_lines (volume_in v i).view v.slot v.at (head_of v.label.now)

-- what the reserves of its files still need
abbrev pub need_in : VolumeSurvey → Image → ℕ
need_in v i = need (volume_told (volume_in v i).view v.slot (head_of v.label.now))
