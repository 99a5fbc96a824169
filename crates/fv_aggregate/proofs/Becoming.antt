-- The machine that volumes stand for once one of them was changed in memory.
use Rattle.std.proofs.Common.{◌≡◌, ◌+◌, ℕ, zero, suc, Bool, true, false, cond, List, [], ◌∷◌, length, Option, Some, None, refl, sym, ap, ◌∙◌, arith, length-set, get_or-set_same}
use Rattle.std.specs.Ordering.{eq_by_cmp, is_eq}
use Rattle.std.specs.FinMap as fin
use Rattle.std.specs.FinMap.{find}
use Rattle.fv_disk.specs.Shown.{Shown}
use Rattle.fv_model.specs.Machines.{Machine}
use Rattle.fv_model.specs.Spelling.{name_cmp}
use Rattle.fv_model.specs.Volumes.{Volume}
use Rattle.fv_model.specs.Effects.{Becomes, changed}
use Rattle.fv_laws.proofs.Changes.{same_name}
use Rattle.fv_laws.proofs.Orders.{name_total, name_ties}
use Rattle.fv_pool.specs.declared.pool.Pool.{Pool}
use Rattle.fv_volume.specs.declared.state.VolumeState.{VolumeState}
use Rattle.fv_pool.specs.Calls.{Reads}
use Rattle.fv_volume.specs.OneVolume.{volume_for}
use Rattle.fv_volume.specs.States.{States, state_at, with_state}
use Rattle.fv_volume.proofs.OneVolumes.{still_volume}
use Rattle.fv_volumes.proofs.Told.{is_inside, named_from, same_named}
use Rattle.fv_cp.specs.Held.{machine_held, IsHeld}
use Rattle.fv_aggregate.proofs.HeldMachine.{at_name, is_there}

same_volume : (a b : VolumeState) → ◌≡◌ {A = Option VolumeState} (Some a) (Some b) → a ≡ b
same_volume a b e = cc

-- by another name the same volume is found beside it
find_beside : (meant : ℕ → VolumeState → Volume) (states : States) (from s : ℕ) (x y : VolumeState) (q : List ℕ) → state_at states s ≡ Some x → y.name ≡ x.name → is_eq (name_cmp q x.name) ≡ false
    → find name_cmp q (named_from meant from (with_state states s (Some y))) ≡ find name_cmp q (named_from meant from states)
unfolding named_from
find_beside meant [] from s x y q there named other = cc
find_beside meant (None ∷ xs) from zero x y q there named other = cc
find_beside meant (None ∷ xs) from (suc s) x y q there named other = find_beside meant xs (from + 1) s x y q there named other
find_beside meant (Some z ∷ xs) from zero x y q there named other =
    ap (λ (t : Bool). cond t (Some (meant from y)) (find name_cmp q (named_from meant (from + 1) xs))) (ap (λ (n : List ℕ). is_eq (name_cmp q n)) named ∙ other)
    ∙ sym (ap (λ (t : Bool). cond t (Some (meant from z)) (find name_cmp q (named_from meant (from + 1) xs))) (ap (λ (v : VolumeState). is_eq (name_cmp q v.name)) (same_volume z x there) ∙ other))
find_beside meant (Some z ∷ xs) from (suc s) x y q there named other =
    ap (λ (o : Option Volume). cond (is_eq (name_cmp q z.name)) (Some (meant from z)) o) (find_beside meant xs (from + 1) s x y q there named other)

module _ (d e : Shown) (p q : Pool) (reads : Reads d p e q) (states : States) (long : length states ≡ 64) (last : Machine) (held : IsHeld d p states last)
    (s : ℕ) (x y : VolumeState) (there : state_at states s ≡ Some x) (named : y.name ≡ x.name) (after : IsHeld e q (with_state states s (Some y)) last) where
  abbrev stay : States
  stay = with_state states s (Some y)

  stay_long : length stay ≡ 64
  stay_long = length-set states s (Some y) ∙ long

  here : state_at stay s ≡ Some y
  here = get_or-set_same states s (Some y) None (let low = is_inside states s x long there in omega (arith, low, long))

  abbrev was : Machine
  was = machine_held d p states

  abbrev now : Machine
  now = machine_held e q stay

  abbrev volume : Volume
  volume = volume_for e q y

  same_meant : named_from (λ k v. volume_for e q v) 0 stay ≡ named_from (λ k v. volume_for d p v) 0 stay
  same_meant = same_named (λ k v. volume_for d p v) (λ k v. volume_for e q v) stay 0 (λ k v at. still_volume d e p q reads v)

  by_name : (n : List ℕ) → fin.get now.volumes n ≡ cond (eq_by_cmp name_cmp n x.name) (Some volume) (fin.get was.volumes n)
  by_name n = by (eq_by_cmp name_cmp n x.name) refl
    where
      by : (b : Bool) → eq_by_cmp name_cmp n x.name ≡ b → fin.get now.volumes n ≡ cond b (Some volume) (fin.get was.volumes n)
      by true is = ap (fin.get now.volumes) (same_name n x.name is ∙ sym named) ∙ is_there e q stay stay_long last after s y here
      by false isnt = at_name e q stay stay_long n ∙ ap (find name_cmp n) same_meant ∙ find_beside (λ k v. volume_for d p v) states 0 s x y n there named isnt ∙ sym (at_name d p states long n)

  -- the machine has another volume under its name, and the others as they were
  pub machine_becomes : now ≡ changed was (Becomes x.name volume)
  unfolding machine_held
  machine_becomes =
      let map : now.volumes ≡ fin.insert was.volumes x.name volume = fin.same_map name_total name_ties _ _ (λ n. by_name n ∙ sym (fin.get-insert name_total was.volumes x.name volume n)) in
      λ j. record { blocks = (reads.leaves.found j).blocks; version = reads.leaves.version j; volumes = map j }

  -- and where it stands for the same one, the machine stays
  pub machine_stays : volume ≡ volume_for d p x → now ≡ was
  unfolding machine_held
  machine_stays same =
      let map : now.volumes ≡ was.volumes = fin.same_map name_total name_ties _ _ (λ n. by_name n ∙ kept n (eq_by_cmp name_cmp n x.name) refl) in
      λ j. record { blocks = (reads.leaves.found j).blocks; version = reads.leaves.version j; volumes = map j }
    where
      kept : (n : List ℕ) (b : Bool) → eq_by_cmp name_cmp n x.name ≡ b → cond b (Some volume) (fin.get was.volumes n) ≡ fin.get was.volumes n
      kept n true is = ap (λ (v : Volume). Some v) same ∙ sym (is_there d p states long last held s x there) ∙ ap (fin.get was.volumes) (sym (same_name n x.name is))
      kept n false isnt = refl
