-- What the volumes of a session are charged for by their ledgers is what their machine charges.
use Rattle.std.proofs.Common.{◌≡◌, ◌<◌, ◌+◌, ◌-◌, ℕ, zero, suc, Bool, true, false, cond, List, ◌++◌, Option, Some, None, sum_by, refl, sym, ap, subst, ◌∙◌, arith}
use Rattle.std.specs.Prelude.{IfSome}
use Rattle.std.specs.Option.{option_map, option_map_or}
use Rattle.std.specs.Ordering.{is_eq}
use Rattle.std.specs.FinMap as fin
use Rattle.std.specs.FinMap.{find}
use Rattle.fv_disk.specs.Shown.{Image, Shown}
use Rattle.fv_model.specs.Machines.{Machine}
use Rattle.fv_model.specs.Spelling.{name_cmp}
use Rattle.fv_model.specs.Volumes.{Volume}
use Rattle.fv_model.specs.Space.{charge}
use Rattle.fv_laws.proofs.Changes.{same_name}
use Rattle.fv_laws.proofs.Maps.{sum-insert}
use Rattle.fv_laws.proofs.Orders.{name_total, name_ties}
use Rattle.fv_image.specs.Views.{View, slots}
use Rattle.fv_image.specs.Volumes.{named_with, told_with, volume_with, volumes_with}
use Rattle.fv_image.proofs.Uses.{no_entries}
use Rattle.fv_charge.specs.Ledgers.{IsLedgerOf}
use Rattle.fv_pool.specs.declared.pool.Pool.{Pool}
use Rattle.fv_volume.specs.declared.state.VolumeState.{VolumeState}
use Rattle.fv_volume.specs.Files.{AreNamed, AreStates, IsState}
use Rattle.fv_volume.specs.States.{States, head_in, state_at, view_over}
use Rattle.fv_volume.specs.Trees.{Trees, active_in, machine_in}
use Rattle.fv_volumes.proofs.Made.{to_pair}
use Rattle.fv_aggregate.specs.declared.session.Session.{Session}
use Rattle.fv_aggregate.specs.Standing.{charged_in, StandsFor}
use Rattle.fv_aggregate.specs.Telling.{charged_by, charged_from}
use Rattle.fv_volume.specs.OneVolume.{volume_for}
use Rattle.fv_cp.specs.Held.{machine_held, named_held, IsHeld, IsHeldIn}
use Rattle.fv_aggregate.proofs.Telling.{IsNaming, Named, listed}

pub charges_none : (states : States) (from : ℕ) → charged_from states from 0 ≡ 0
unfolding charged_from
charges_none states from = refl

pub charges_more : (states : States) (k : ℕ) → k < 64 → charged_from states (64 - (k + 1)) (k + 1) ≡ charged_by (state_at states (63 - k)) + charged_from states (64 - k) k
unfolding charged_from
charges_more states k inside =
    let more : k + 1 ≡ suc k = omega arith in
    let here : 64 - (k + 1) ≡ 63 - k = omega arith in
    let next : 63 - k + 1 ≡ 64 - k = omega (arith, inside) in
    (λ j. charged_from states (here j) (more j)) ∙ ap (λ (from : ℕ). charged_by (state_at states (63 - k)) + charged_from states from k) next

module _ (name : ℕ → Option VolumeState → Named) (meant : ℕ → VolumeState → Volume) (is : IsNaming name meant) (states : States) (named : AreNamed states)
    (ledgers : (s : ℕ) (x : VolumeState) → state_at states s ≡ Some x → IsLedgerOf (meant s x) x.ledger) where
  -- no later slot has the name of one
  not_later : (s : ℕ) (x : VolumeState) → state_at states s ≡ Some x → (from count : ℕ) → s < from → find name_cmp x.name (listed name states from count) ≡ None
  not_later s x there from zero past = refl
  not_later s x there from (suc count) past = so (state_at states from) refl (not_later s x there (from + 1) count (omega (arith, past)))
    where
      so : (o : Option VolumeState) → state_at states from ≡ o → find name_cmp x.name (listed name states (from + 1) count) ≡ None
          → find name_cmp x.name (name from o ++ listed name states (from + 1) count) ≡ None
      so None at rest = ap (λ (es : Named). find name_cmp x.name (es ++ listed name states (from + 1) count)) (is.none from) ∙ rest
      so (Some z) at rest = ap (λ (es : Named). find name_cmp x.name (es ++ listed name states (from + 1) count)) (is.some from z) ∙ by (is_eq (name_cmp x.name z.name)) refl
        where
          by : (r : Bool) → is_eq (name_cmp x.name z.name) ≡ r → cond r (Some (meant from z)) (find name_cmp x.name (listed name states (from + 1) count)) ≡ None
          by true e = let one : s ≡ from = to_pair states named s from x z there at (same_name x.name z.name e) in absurd (omega (arith, one, past))
          by false e = rest

  charges_from : (from count : ℕ) → sum_by (λ (e : List ℕ × Volume). charge e.1) (fin.entries (fin.from_entries {R = name_cmp} (listed name states from count))) ≡ charged_from states from count
  unfolding charged_from
  charges_from from zero = ap (sum_by (λ (e : List ℕ × Volume). charge e.1)) (no_entries name_cmp)
  charges_from from (suc count) = so (state_at states from) refl (charges_from (from + 1) count)
    where
      so : (o : Option VolumeState) → state_at states from ≡ o → sum_by (λ (e : List ℕ × Volume). charge e.1) (fin.entries (fin.from_entries {R = name_cmp} (listed name states (from + 1) count))) ≡ charged_from states (from + 1) count
          → sum_by (λ (e : List ℕ × Volume). charge e.1) (fin.entries (fin.from_entries {R = name_cmp} (name from o ++ listed name states (from + 1) count))) ≡ charged_by o + charged_from states (from + 1) count
      so None at rest = ap (λ (es : Named). sum_by (λ (e : List ℕ × Volume). charge e.1) (fin.entries (fin.from_entries {R = name_cmp} (es ++ listed name states (from + 1) count)))) (is.none from) ∙ rest ∙ omega arith
      so (Some x) at rest =
          let es : Named = listed name states (from + 1) count in
          let m : fin.FinMap name_cmp Volume = fin.from_entries es in
          let v : Volume = meant from x in
          let none : fin.get m x.name ≡ None = fin.get-from_entries name_total es x.name ∙ not_later from x at (from + 1) count (omega arith) in
          let put : sum_by (λ (e : List ℕ × Volume). charge e.1) (fin.entries (fin.insert m x.name v)) + 0 ≡ sum_by (λ (e : List ℕ × Volume). charge e.1) (fin.entries m) + charge v =
          ap (λ (o : Option Volume). sum_by (λ (e : List ℕ × Volume). charge e.1) (fin.entries (fin.insert m x.name v)) + option_map_or (λ w. charge w) o 0) (sym none)
          ∙ sum-insert name_total name_ties (λ (e : List ℕ × Volume). charge e.1) m x.name v in
          let same = (ledgers from x at).charged in
          ap (λ (es : Named). sum_by (λ (e : List ℕ × Volume). charge e.1) (fin.entries (fin.from_entries {R = name_cmp} (es ++ listed name states (from + 1) count)))) (is.some from x) ∙ omega (arith, put, rest, same)

-- A session's volumes are charged as its machine's, whatever trees are in memory.
pub charges_are : (pool : Pool) (states : States) (trees : Trees) (i : Image) → AreStates (view_over pool states i) trees states → charged_from states 0 64 ≡ charged_in (machine_in pool states trees i)
unfolding machine_in told_with volumes_with slots view_over
charges_are pool states trees i are =
    let w : View = view_over pool states i in
    sym (charges_from (λ s o. named_with w (active_in w trees) s (option_map head_in o)) (λ s x. volume_with w s (head_in x) (active_in w trees s)) (record { none = λ s. refl; some = λ s x. refl }) states are.names
    (λ s x there. (subst (λ (o : Option VolumeState). IfSome o (IsState w trees s)) there (are.each s)).ledger) 0 64)

-- So they are by the ledgers of volumes with files in memory, too.
charges_held : (disk : Shown) (pool : Pool) (states : States) (before : Machine) → IsHeld disk pool states before → charged_from states 0 64 ≡ charged_in (machine_held disk pool states)
unfolding machine_held slots
charges_held disk pool states before held =
    sym (charges_from (λ s o. named_held disk pool o) (λ s x. volume_for disk pool x) (record { none = λ s. refl; some = λ s x. refl }) states held.names
    (λ s x there. (subst (λ (o : Option VolumeState). IfSome o (IsHeldIn disk pool s)) there (held.each s)).stands.ledger) 0 64)

-- A session's ledgers say what the volumes of the machine are charged for that it stands for.
pub charges_for : (disk : Shown) (session : Session) (last m : Machine) → StandsFor disk session last m → charged_from session.volumes 0 64 ≡ charged_in m
charges_for disk session last m stands = charges_held disk session.pool session.volumes last stands.held ∙ ap charged_in stands.machine
