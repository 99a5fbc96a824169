-- The machine that volumes between points stand for, volume by volume.
use Rattle.std.proofs.Common.{◌≡◌, ◌<◌, ◌≤◌, ◌+◌, ℕ, zero, suc, Bool, true, false, cond, List, [], ◌∷◌, ◌++◌, length, Option, Some, None, flat_map, sum_by, true≢false, refl, sym, ap, subst, ◌∙◌, arith}
use Rattle.std.specs.Prelude.{IfSome}
use Rattle.std.specs.List.{range_with_len}
use Rattle.std.specs.Option.{is_some}
use Rattle.std.specs.Ordering.{is_eq}
use Rattle.std.specs.FinMap as fin
use Rattle.std.specs.FinMap.{find}
use Rattle.fv_disk.specs.Shown.{Shown}
use Rattle.fv_model.specs.Machines.{Machine, capacity}
use Rattle.fv_model.specs.Space.{commits, use_of, IsAdmitted}
use Rattle.fv_model.specs.Spelling.{is_same_name, name_cmp}
use Rattle.fv_model.specs.Volumes.{Volume}
use Rattle.fv_laws.proofs.Orders.{name_total}
use Rattle.fv_laws.proofs.Changes.{itself, same_name}
use Rattle.fv_laws.proofs.Commits.{commit_at}
use Rattle.fv_image.specs.Views.{slots}
use Rattle.fv_pool.specs.declared.pool.Pool.{Pool}
use Rattle.fv_volume.specs.declared.state.VolumeState.{VolumeState}
use Rattle.fv_volume.specs.OneVolume.{volume_for}
use Rattle.fv_volume.specs.Slots.{is_named, sum_of, NoneHasName}
use Rattle.fv_volume.specs.States.{States, state_at}
use Rattle.fv_volumes.proofs.Made.{to_pair}
use Rattle.fv_volumes.proofs.Told.{distinct_from, named_at, named_from, none_named, some_named, summed, summed_states, AreDistinct, Named}
use Rattle.fv_cp.specs.Held.{machine_held, named_held, IsHeld, IsHeldIn}

-- at its own slot a volume is found by its name
found_first : (meant : ℕ → VolumeState → Volume) (xs : States) (from : ℕ) (x y : VolumeState) → x ≡ y → find name_cmp x.name (named_from meant from (Some y ∷ xs)) ≡ Some (meant (from + 0) x)
unfolding named_from
found_first meant xs from x y e = subst (λ (y : VolumeState). find name_cmp x.name (named_from meant from (Some y ∷ xs)) ≡ Some (meant (from + 0) x)) e
    (ap (λ (t : Bool). cond t (Some (meant from x)) (find name_cmp x.name (named_from meant (from + 1) xs))) (itself x.name) ∙ ap (λ (n : ℕ). Some (meant n x)) (let n : from ≡ from + 0 = omega arith in n))

-- a volume is found by its name
find_there : (meant : ℕ → VolumeState → Volume) (states : States) (from s : ℕ) (x : VolumeState) → AreDistinct (named_from meant from states) → state_at states s ≡ Some x → find name_cmp x.name (named_from meant from states) ≡ Some (meant (from + s) x)
unfolding named_from
find_there meant [] from s x apart there = cc
find_there meant (None ∷ xs) from zero x apart there = cc
find_there meant (None ∷ xs) from (suc s) x apart there = find_there meant xs (from + 1) s x apart there ∙ ap (λ (n : ℕ). Some (meant n x)) (let n : from + 1 + s ≡ from + suc s = omega arith in n)
find_there meant (Some y ∷ xs) from zero x apart there = found_first meant xs from x y (same y x there)
  where
    same : (a b : VolumeState) → ◌≡◌ {A = Option VolumeState} (Some a) (Some b) → b ≡ a
    same a b e = cc
find_there meant (Some y ∷ xs) from (suc s) x apart there =
    ap (λ (t : Bool). cond t (Some (meant from y)) (find name_cmp x.name (named_from meant (from + 1) xs))) (other (is_eq (name_cmp x.name y.name)) refl)
    ∙ find_there meant xs (from + 1) s x apart.1 there ∙ ap (λ (n : ℕ). Some (meant n x)) (let n : from + 1 + s ≡ from + suc s = omega arith in n)
  where
    other : (t : Bool) → is_eq (name_cmp x.name y.name) ≡ t → t ≡ false
    other false e = refl
    other true e =
        let alike : x.name ≡ y.name = same_name x.name y.name e in
        let some : is_some (find name_cmp y.name (named_from meant (from + 1) xs)) ≡ true = some_named meant xs (from + 1) s y.name (ap (λ (o : Option VolumeState). is_named o y.name) there ∙ ap (λ (n : List ℕ). is_same_name n y.name) alike ∙ itself y.name) in
        absurd (true≢false (sym some ∙ ap is_some apart.0))

-- what is found by a name is the volume of a slot
found_back : (meant : ℕ → VolumeState → Volume) (states : States) (from : ℕ) (name : List ℕ) (v : Volume) → find name_cmp name (named_from meant from states) ≡ Some v
    → (s : ℕ) × ((x : VolumeState) × ((state_at states s ≡ Some x) × (meant (from + s) x ≡ v)))
unfolding named_from
found_back meant [] from name v e = cc
found_back meant (None ∷ xs) from name v e =
    let r = found_back meant xs (from + 1) name v e in
    (suc r.0, (r.1.0, (r.1.1.0, ap (λ (n : ℕ). meant n r.1.0) (let n : from + suc r.0 ≡ from + 1 + r.0 = omega arith in n) ∙ r.1.1.1)))
found_back meant (Some y ∷ xs) from name v e = by (is_eq (name_cmp name y.name)) e (λ f. found_back meant xs (from + 1) name v f)
  where
    same : (a b : Volume) → ◌≡◌ {A = Option Volume} (Some a) (Some b) → a ≡ b
    same a b e = cc

    by : (t : Bool) → cond t (Some (meant from y)) (find name_cmp name (named_from meant (from + 1) xs)) ≡ Some v
        → (find name_cmp name (named_from meant (from + 1) xs) ≡ Some v → (s : ℕ) × ((x : VolumeState) × ((state_at xs s ≡ Some x) × (meant (from + 1 + s) x ≡ v))))
        → (s : ℕ) × ((x : VolumeState) × ((state_at (Some y ∷ xs) s ≡ Some x) × (meant (from + s) x ≡ v)))
    by true e rest = (0, (y, (refl, ap (λ (n : ℕ). meant n y) (let n : from + 0 ≡ from = omega arith in n) ∙ same (meant from y) v e)))
    by false e rest =
        let r = rest e in
        (suc r.0, (r.1.0, (r.1.1.0, ap (λ (n : ℕ). meant n r.1.0) (let n : from + suc r.0 ≡ from + 1 + r.0 = omega arith in n) ∙ r.1.1.1)))

module _ (disk : Shown) (pool : Pool) (states : States) (long : length states ≡ 64) where
  abbrev m : Machine
  m = machine_held disk pool states

  abbrev meant : ℕ → VolumeState → Volume
  meant s x = volume_for disk pool x

  by_slot : (g : ℕ → Option VolumeState) (xs : States) (from : ℕ) → ((k : ℕ) → k < length xs → g (from + k) ≡ state_at xs k)
      → flat_map (λ s. named_held disk pool (g s)) (range_with_len from (length xs)) ≡ named_from meant from xs
  unfolding named_from
  by_slot g [] from same = refl
  by_slot g (x ∷ xs) from same =
      let first : g from ≡ x = ap g (omega arith) ∙ same 0 (omega arith) in
      let rest : flat_map (λ s. named_held disk pool (g s)) (range_with_len (from + 1) (length xs)) ≡ named_from meant (from + 1) xs = by_slot g xs (from + 1) (λ k lt. ap g (omega arith) ∙ same (suc k) (omega (arith, lt))) in
      (λ i. named_held disk pool (first i) ++ rest i) ∙ ap (λ (es : Named). es ++ named_from meant (from + 1) xs) (one x)
    where
      one : (x : Option VolumeState) → named_held disk pool x ≡ named_at meant from x
      one None = refl
      one (Some x) = refl

  pub volumes_by_name : m.volumes ≡ fin.from_entries {R = name_cmp} (named_from meant 0 states)
  unfolding machine_held slots
  volumes_by_name = ap (λ (es : Named). fin.from_entries {R = name_cmp} es)
      (ap (λ n. flat_map (λ s. named_held disk pool (state_at states s)) (range_with_len 0 n)) (sym long)
      ∙ by_slot (state_at states) states 0 (λ k lt. ap (state_at states) (omega arith)))

  pub blocks_are : m.blocks ≡ pool.found.blocks
  unfolding machine_held
  blocks_are = refl

  pub at_name : (name : List ℕ) → fin.get m.volumes name ≡ find name_cmp name (named_from meant 0 states)
  at_name name = ap (λ v. fin.get v name) volumes_by_name ∙ fin.get-from_entries name_total (named_from meant 0 states) name

  -- a name that no slot has is no volume's
  pub not_there : (name : List ℕ) → NoneHasName states name → fin.get m.volumes name ≡ None
  not_there name no_name = at_name name ∙ none_named meant states 0 name (λ s lt. no_name.none s (omega (arith, lt, long)))

  module _ (before : Machine) (held : IsHeld disk pool states before) where
    pub distinct : AreDistinct (named_from meant 0 states)
    distinct = distinct_from meant states 0 (λ e s x y lt here there. unless (is_same_name y.name x.name)
        (λ is. let one : e ≡ s = to_pair states held.names e s x y here there (sym (same_name y.name x.name is)) in omega (arith, lt, one)))
      where
        unless : (b : Bool) → (b ≡ true → ⊥) → b ≡ false
        unless true never = absurd (never refl)
        unless false never = refl

    pub one : (s : ℕ) (x : VolumeState) → state_at states s ≡ Some x → IsHeldIn disk pool s x
    one s x there = subst (λ (o : Option VolumeState). IfSome o (IsHeldIn disk pool s)) there (held.each s)

    -- a volume of a slot is the machine's with its name
    pub is_there : (s : ℕ) (x : VolumeState) → state_at states s ≡ Some x → fin.get m.volumes x.name ≡ Some (volume_for disk pool x)
    is_there s x there = at_name x.name ∙ find_there meant states 0 s x distinct there

    pub commits_are : commits m ≡ sum_of states
    commits_are = ap (λ v. sum_by commit_at (fin.entries v)) volumes_by_name ∙ summed (named_from meant 0 states) distinct
        ∙ sym (summed_states meant states 0 (λ s x there. (one s x there).stands.ledger))

    -- no volume uses more than its size, and all of them commit no more than there is
    pub is_admitted : IsAdmitted m
    is_admitted = record {
      volumes = λ name v at.
          let r = found_back meant states 0 name v (sym (at_name name) ∙ at) in
          subst (λ (y : Volume). use_of y ≤ y.size) r.1.1.1 (uses r.0 r.1.0 r.1.1.0);
      aggregate = (let sum = commits_are in let fits = held.commits in let same : capacity m.blocks ≡ capacity pool.found.blocks = ap capacity blocks_are in omega (arith, sum, fits, same));
    }
      where
        uses : (s : ℕ) (x : VolumeState) → state_at states s ≡ Some x → use_of (volume_for disk pool x) ≤ (volume_for disk pool x).size
        uses s x there =
            let is = one s x there in
            let charged = is.stands.ledger.charged in
            let needed = is.stands.ledger.needed in
            let nothing = is.ready.booked.need in
            let fits = is.within in
            omega (arith, charged, needed, nothing, fits)
