-- Rule 10, ids: each pointer is held against the first before it with its id, and against the first before it with its VVBN.
use Rattle.std.specs.Prelude.{◌≡◌, ℕ, Bool, List, [], ◌∷◌, ◌++◌, flat_map, map, find, Option, Some, None, cond, ◌&&◌, ◌==◌, if◌then◌else◌}
use Rattle.std.specs.declared.cmp.Ordering.{Ordering}
use Rattle.std.specs.Ordering.{nat_cmp, is_eq, on, then_cmp}
use Rattle.std.specs.Option.{option_map, option_or}
use Rattle.std.specs.BTreeMap as maps
use Rattle.fv_faults.specs.declared.fault.Fault.{Fault}
use Rattle.fv_faults.specs.Lines.{line, expects}
use Rattle.fv_faults.specs.ThirdPass.{twins}
use Rattle.fv_walk.specs.declared.visit.Visit.{Visit}
use Rattle.fv_walk.specs.Sights.{Sight}
use Rattle.fv_third_pass.specs.declared.twins.Id.{Id}
use Rattle.fv_third_pass.specs.declared.twins.IdJudge.{IdJudge}

-- by owner, level, place and stamp
abbrev pub id_cmp : Id → Id → Ordering
id_cmp =
    then_cmp (on (λ (i : Id). i.owner) nat_cmp)
    (then_cmp (on (λ (i : Id). i.level) nat_cmp)
    (then_cmp (on (λ (i : Id). i.place) nat_cmp) (on (λ (i : Id). i.stamp) nat_cmp)))

abbrev pub id_of : Visit → Id
id_of v = record { owner = v.owner; level = v.level; place = v.place; stamp = v.pointer.stamp }

abbrev pub vvbn_of : Visit → ℕ
vvbn_of v = v.pointer.vvbn

abbrev pub visits : List Sight → List Visit
visits ss = map (λ (s : Sight). s.visit) ss

-- ---- lines

abbrev pub same_id : Visit → Visit → Bool
same_id a b = ((a.owner == b.owner) && ((a.level == b.level) && (a.place == b.place))) && (a.pointer.stamp == b.pointer.stamp)

abbrev pub same_vvbn : Visit → Visit → Bool
same_vvbn a b = a.pointer.vvbn == b.pointer.vvbn

-- of a pointer to a VVBN, by the VVBN of the first with its id
abbrev pub vvbn_against : ℕ → ℕ → Option ℕ → List Fault
vvbn_against block vvbn None = []
vvbn_against block vvbn (Some first) = expects 10 block first vvbn

-- The first of stamp, place, level and owner that differ has the line.
abbrev pub ids_differ : ℕ → Id → Id → List Fault
ids_differ block a b = if a.stamp == b.stamp
    then (if a.place == b.place
    then (if a.level == b.level
    then expects 10 block a.owner b.owner
    else line 10 block a.level b.level ∷ [])
    else line 10 block a.place b.place ∷ [])
    else line 10 block a.stamp b.stamp ∷ []

-- of a pointer with an id, by that of the first to its VVBN
abbrev pub id_against : ℕ → Id → Option Id → List Fault
id_against block id None = []
id_against block id (Some first) = ids_differ block first id

abbrev pub vvbn_line : Visit × Visit → List Fault
vvbn_line p = expects 10 p.1.block p.0.pointer.vvbn p.1.pointer.vvbn

abbrev pub id_line : Visit × Visit → List Fault
id_line p = ids_differ p.1.block (id_of p.0) (id_of p.1)

-- of pointers that come after others
abbrev pub twin_lines : List Visit → List Visit → List Fault
twin_lines done vs = flat_map vvbn_line (twins same_id done vs) ++ flat_map id_line (twins same_vvbn done vs)

-- ---- what is kept

-- a map has for each key what the first with that key has
abbrev pub HasFirsts : {K V : Type 0} → (K → K → Ordering) → (Visit → K) → (Visit → V) → List Visit → maps.BTreeMap K V → Type 0
HasFirsts {K = K} cmp key value done m = (k : K) → maps.get cmp m k ≡ option_map value (find (λ v. is_eq (cmp (key v) k)) done)

-- A key that none had has this value now, and all else is as before.
abbrev pub IsKept : {K V : Type 0} → (K → K → Ordering) → K → V → maps.BTreeMap K V → maps.BTreeMap K V → Type 0
IsKept {K = K} cmp key value old new = (k : K) → maps.get cmp new k ≡ option_or (maps.get cmp old k) (cond (is_eq (cmp key k)) (Some value) None)

pub record HasSeen (done : List Visit) (judge : IdJudge) : Type 0 where
  pub ids : HasFirsts id_cmp id_of vvbn_of done judge.ids
  pub vvbns : HasFirsts nat_cmp vvbn_of id_of done judge.vvbns
