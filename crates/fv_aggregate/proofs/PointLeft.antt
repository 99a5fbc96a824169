-- What is left to do after a consistency point in front of which no file was in memory: what there was.
use Rattle.std.proofs.Common.{◌≡◌, ◌+◌, ℕ, Bool, true, false, cond, List, length, Option, Some, None, refl, sym, ap, subst, ◌∙◌}
use Rattle.std.specs.Prelude.{IfSome}
use Rattle.std.specs.Option.{option_map}
use Rattle.fv_disk.specs.Shown.{Image, Shown}
use Rattle.fv_model.specs.Machines.{Machine}
use Rattle.fv_container.specs.declared.entry.Entry.{Entry}
use Rattle.fv_pool.specs.declared.pool.Pool.{Pool}
use Rattle.fv_pool.specs.BlocksOver.{held_entry}
use Rattle.fv_pool.specs.Keeping.{Blocks}
use Rattle.fv_volume.specs.declared.state.VolumeState.{VolumeState}
use Rattle.fv_volume.specs.Files.{IsLabelled}
use Rattle.fv_volume.specs.States.{States, placed_in, state_at}
use Rattle.fv_volumes.specs.Housed.{AreHoused, as_written, settled_as}
use Rattle.fv_cleaner.specs.Left.{left_in, unknown_among, unknown_under}
use Rattle.fv_cleaner.specs.Searching.{lies_in, placed_by}
use Rattle.fv_cleaner.specs.Stepping.{roots_of}
use Rattle.fv_cp.specs.Choosing.{marked_as}
use Rattle.fv_cp.specs.Lent.{FitTogether}
use Rattle.fv_cp.specs.Placing.{HaveNoFiles}
use Rattle.fv_cp.specs.Settling.{GoesOnWhole, IsHeldPoint, KeepsBlocks}
use Rattle.fv_cp.proofs.Keeping.{keeps_blocks}
use Rattle.fv_aggregate.specs.declared.session.Session.{Session}
use Rattle.fv_aggregate.specs.Standing.{StandsFor}
use Rattle.fv_aggregate.specs.Working.{todo, todo_at, todo_in}
use Rattle.fv_aggregate.proofs.WorkedOthers.{same_slots}

placed_same : (kept : Blocks) (i : Image) (o : Option Entry) → placed_by kept i o ≡ placed_in kept i o
placed_same kept i None = refl
placed_same kept i (Some e) = refl

module _ (old : Shown) (pool : Pool) (states : States) (new : Shown) (left : Pool) (stay : States) (housed : AreHoused pool.containers states) (keeps : KeepsBlocks old pool states new left stay) where
  lies_same : (s : ℕ) (x : VolumeState) → state_at states s ≡ Some x → (v : ℕ) → lies_in x.map left x.slot new.reads v ≡ lies_in x.map pool x.slot old.reads v
  lies_same s x there v =
      let at : x.slot ≡ s = (subst (λ (o : Option VolumeState). IfSome o (IsLabelled s)) there (housed.volumes s)).slot_is in
      placed_same left.kept new.reads (held_entry x.map left.containers x.slot v)
      ∙ keeps.blocks x.slot v x (ap (state_at states) at ∙ there)
      ∙ sym (placed_same pool.kept old.reads (held_entry x.map pool.containers x.slot v))

  todo_same : (s label : ℕ) (marks : Bool) (x : VolumeState) → state_at states s ≡ Some x → todo_at new.reads left (Some (settled_as label (marked_as marks x))) ≡ todo_at old.reads pool (Some x)
  unfolding left_in
  todo_same s label marks x there = by (marked_as marks x).changed
    where
      of_map : unknown_under (lies_in x.map left x.slot new.reads) x.map.span ≡ unknown_under (lies_in x.map pool x.slot old.reads) x.map.span
      of_map = λ i. unknown_under (λ v. lies_same s x there v i) x.map.span

      as_marked : left_in new.reads left (marked_as marks x) ≡ left_in old.reads pool x
      as_marked = ap (λ (n : ℕ). unknown_among (roots_of x) + n) of_map

      as_settled : left_in new.reads left (as_written (marked_as marks x) label) ≡ left_in old.reads pool x
      as_settled = ap (λ (n : ℕ). unknown_among (roots_of x) + n) of_map

      by : (t : Bool) → todo_at new.reads left (Some (cond t (as_written (marked_as marks x) label) (marked_as marks x))) ≡ todo_at old.reads pool (Some x)
      by true = ap (λ (n : ℕ). cond x.known 0 n) as_settled
      by false = ap (λ (n : ℕ). cond x.known 0 n) as_marked

  slot_same : (s : ℕ) → todo_at new.reads left (state_at stay s) ≡ todo_at old.reads pool (state_at states s)
  slot_same s = let one = keeps.written s in ap (todo_at new.reads left) one.1.1 ∙ by one.1.0 one.0 (state_at states s) refl
    where
      by : (label : ℕ) (marks : Bool) (o : Option VolumeState) → state_at states s ≡ o → todo_at new.reads left (option_map (settled_as label) (option_map (marked_as marks) o)) ≡ todo_at old.reads pool o
      by label marks None there = refl
      by label marks (Some x) there = todo_same s label marks x there

  pub todo_kept : length stay ≡ 64 → todo_in new.reads left stay ≡ todo_in old.reads pool states
  todo_kept long = same_slots (todo_at new.reads left) (todo_at old.reads pool) states stay (long ∙ sym housed.long) slot_same

-- so it is of a session whose parts were these
pub left_pointed : (old new : Shown) (was session : Session) → was ≡ session → (want : ℕ) (left : Pool) (stay : States) (delays : List Bool) → IsHeldPoint old was.pool was.volumes want new left stay delays → GoesOnWhole old was.pool was.volumes new left stay
    → FitTogether was.pool was.volumes → (last m : Machine) → StandsFor old session last m → HaveNoFiles session.volumes → todo_in new.reads left stay ≡ todo old session
left_pointed old new was session same want left stay delays is goes fit last m stands bare =
    let stood : StandsFor old was last m = subst (λ (s : Session). StandsFor old s last m) (sym same) stands in
    let none : HaveNoFiles was.volumes = subst (λ (s : Session). HaveNoFiles s.volumes) (sym same) bare in
    todo_kept old was.pool was.volumes new left stay fit.housed (keeps_blocks old was.pool was.volumes want new left stay delays is none last stood.held fit.housed goes.parents) goes.fit.housed.long ∙ ap (todo old) same
