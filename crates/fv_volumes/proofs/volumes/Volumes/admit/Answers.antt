use Rattle.std.proofs.Common.{◌≡◌, ◌∙◌, ℕ, length, sym, ap, subst}
use Rattle.std.specs.Prelude.{IfOk, IfErr, Result, Ok, Err}
use Rattle.fv_model.specs.declared.answers.Refusal.{Refusal}
use Rattle.fv_volumes.specs.declared.admit.Admitted.{Admitted}
use Rattle.fv_volumes.specs.Creating.{Admits, Refuses}
use Rattle.fv_volume.specs.Slots.{sum_of}
use Rattle.fv_volume.specs.States.{States}
use Rattle.fv_volumes.proofs.Made.{accepted, refused_as, room_beside}
use Rattle.fv_volumes.proofs.volumes.Volumes.admit.Goals as goal

pub admit-requires-clause-sum : goal.admit-requires-clause-sum
admit-requires-clause-sum c = c.requires.sum ∙ ap (λ (s : States). sum_of s) (sym (c.deref.ensures.value ∙ c.self.view_is))

ok_of : (P Q : Admitted → Type 0) (result : Result Admitted Refusal) → ((a : Admitted) → P a → Q a) → IfOk result P → IfOk result Q
ok_of P Q (Ok a) so holds = so a holds
ok_of P Q (Err r) so holds = tt

err_of : (P Q : Refusal → Type 0) (result : Result Admitted Refusal) → ((r : Refusal) → P r → Q r) → IfErr result P → IfErr result Q
err_of P Q (Ok a) so holds = tt
err_of P Q (Err r) so holds = so r holds

-- there are 64 slots
long : (c : goal.After-admit) → length c.args.self.now ≡ 64
long c = ap (λ (s : States). length s) (sym c.self.view_is) ∙ c.self.invariant

-- what is admitted, of the volumes that contracts see
admitted : (c : goal.After-admit) → IfOk c.admit.result (λ (a : Admitted). Admits c.args.self.now c.args.blocks c.args.name.now c.args.size c.args.kind a.slot a.span)
admitted c = subst (λ (s : States). IfOk c.admit.result (λ (a : Admitted). Admits s c.args.blocks c.args.name.now c.args.size c.args.kind a.slot a.span)) (c.deref.ensures.value ∙ c.self.view_is) c.admit.ensures.admitted

pub returns-clause-accepted : goal.returns-clause-accepted
returns-clause-accepted c =
    ok_of (λ (a : Admitted). Admits c.args.self.now c.args.blocks c.args.name.now c.args.size c.args.kind a.slot a.span) _ c.admit.result
    (λ a is pool trees same i are. accepted pool c.args.self.now trees i (long c) are c.args.name.now c.args.size c.args.kind a.slot a.span
    (subst (λ (n : ℕ). Admits c.args.self.now n c.args.name.now c.args.size c.args.kind a.slot a.span) (sym same) is)) (admitted c)

pub returns-clause-room : goal.returns-clause-room
returns-clause-room c =
    ok_of (λ (a : Admitted). Admits c.args.self.now c.args.blocks c.args.name.now c.args.size c.args.kind a.slot a.span) _ c.admit.result
    (λ a is pool trees same i are. room_beside pool c.args.self.now trees i (long c) are c.args.name.now c.args.size c.args.kind a.slot a.span c.args.blocks is) (admitted c)

pub returns-clause-refused : goal.returns-clause-refused
returns-clause-refused c =
    let states : States = c.args.self.now in
    let refused : IfErr c.admit.result (Refuses states c.args.blocks c.args.name.now c.args.size c.args.kind) =
    subst (λ (s : States). IfErr c.admit.result (Refuses s c.args.blocks c.args.name.now c.args.size c.args.kind)) (c.deref.ensures.value ∙ c.self.view_is) c.admit.ensures.refused in
    err_of (Refuses states c.args.blocks c.args.name.now c.args.size c.args.kind) _ c.admit.result
    (λ r by pool trees same i are. refused_as pool states trees i (long c) are c.args.name.now c.args.size c.args.kind r
    (subst (λ (n : ℕ). Refuses states n c.args.name.now c.args.size c.args.kind r) (sym same) by)) refused
