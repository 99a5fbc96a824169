use Rattle.std.proofs.Common.{◌≡◌, ◌∙◌, ℕ, length, Some, sym, ap, subst}
use Rattle.std.specs.Prelude.{IfSome}
use Rattle.fv_volume.specs.Files.{AreStates, IsLabelled}
use Rattle.fv_volume.specs.States.{States, state_at, view_over, with_state}
use Rattle.fv_volume.specs.Trees.{machine_in}
use Rattle.fv_volumes.specs.Footing.{AreFooted}
use Rattle.fv_volumes.proofs.Made.{IsAdded, accepted, added_by, added_states, each_made, made_next}
use Rattle.fv_volumes.proofs.MadeFooted.{added_footed}
use Rattle.fv_volumes.proofs.volumes.Volumes.create.Goals as goal
use Rattle.fv_volumes.proofs.volumes.Volumes.create.Goals.{In_ok-put}

long : (c : In_ok-put) → length c.args.self.now ≡ 64
long c = ap (λ (s : States). length s) (sym c.self.view_is) ∙ c.self.invariant

is_added : (c : In_ok-put) → IsAdded c.args.pool.now c.args.self.now c.args.admitted.slot c.args.name.now c.args.size c.args.kind c.in_ok-state.state c.put.new.pool
is_added c =
    let state = c.in_ok-state.ensures in
    added_by c.args.pool.now c.args.self.now c.args.admitted.slot c.args.name.now c.args.size c.args.kind c.args.admitted.span c.in_ok-state.state c.put.new.pool (long c) c.requires.admitted
    state.slot state.head state.ledger state.named state.map state.rests.fresh c.in_ok-put.ensures.holes

-- the volumes with the new one in the slot that was admitted
row : (c : In_ok-put) → c.put.new.self ≡ with_state c.args.self.now c.args.admitted.slot (Some c.in_ok-state.state)
row c = c.in_ok-put.ensures.row ∙ ap (λ (n : ℕ). with_state c.args.self.now n (Some c.in_ok-state.state)) c.in_ok-state.ensures.slot

pub returns-clause-each : goal.returns-clause-each
returns-clause-each c =
    let state = c.in_ok-state.ensures in
    subst (λ (xs : States). (s : ℕ) → IfSome (state_at xs s) (IsLabelled s)) (sym (row c))
    (each_made c.args.self.now c.args.admitted.slot c.args.name.now c.args.size c.args.kind c.args.admitted.span c.args.pool.now.found.blocks c.in_ok-state.state (long c) c.requires.each c.requires.admitted
    state.slot state.head state.ledger state.named state.map state.rests.fresh)

pub returns-clause-states : goal.returns-clause-states
returns-clause-states c = λ trees i footed are. subst (λ (s : States). AreStates (view_over c.put.new.pool s i) trees s) (sym (row c))
    (added_states c.args.pool.now c.args.self.now c.args.admitted.slot c.args.name.now c.args.size c.args.kind c.in_ok-state.state c.put.new.pool (is_added c) trees i are footed)

pub returns-clause-accepted : goal.returns-clause-accepted
returns-clause-accepted c = λ trees i are. accepted c.args.pool.now c.args.self.now trees i (long c) are c.args.name.now c.args.size c.args.kind c.args.admitted.slot c.args.admitted.span c.requires.admitted

pub returns-clause-machine : goal.returns-clause-machine
returns-clause-machine c = λ trees i footed are. ap (λ (s : States). machine_in c.put.new.pool s trees i) (row c)
    ∙ made_next c.args.pool.now c.args.self.now c.args.admitted.slot c.args.name.now c.args.size c.args.kind c.in_ok-state.state c.put.new.pool (is_added c) trees i are footed

pub returns-clause-footed : goal.returns-clause-footed
returns-clause-footed c = λ footed. subst (λ (s : States). AreFooted s c.put.new.pool.containers) (sym (row c))
    (added_footed c.args.pool.now c.args.self.now c.args.admitted.slot c.args.name.now c.args.size c.args.kind c.in_ok-state.state c.put.new.pool (is_added c) c.requires.each footed)
