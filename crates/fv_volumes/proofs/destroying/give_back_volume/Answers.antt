use Rattle.std.proofs.Common.{length, sym, subst, ◌∙◌}
use Rattle.fv_bits.specs.Members.{is_member}
use Rattle.fv_container.specs.Spelled.{is_at}
use Rattle.fv_delay.proofs.Reclaimed.{some_then}
use Rattle.fv_volume.specs.Stored.{leads}
use Rattle.fv_volume.specs.Writing.{HasGiven}
use Rattle.fv_volumes.proofs.Destroyed.{forgotten_same, leads_nowhere, volume_forgotten, volume_given}
use Rattle.fv_volumes.proofs.Drawing.{given_same}
use Rattle.fv_volumes.proofs.destroying.give_back_volume.Goals as goal

pub returns-clause-some : goal.returns-clause-some
returns-clause-some c =
    let old = c.args.map.now in
    let mid = c.give_back_marked.new.map in
    let later = c.give_back_nodes.new.map in
    some_then old later c.give_back.new.self (some_then old mid later c.give_back_marked.ensures.some (record { blocks = _; given = c.give_back_nodes.ensures })) (record { blocks = _; given = c.give_back.ensures })

pub returns-clause-fewer : goal.returns-clause-fewer
returns-clause-fewer c = record { gone = is_member c.args.marks.now; forgotten = c.give_back_marked.ensures.kept }

pub returns-clause-given : goal.returns-clause-given
returns-clause-given c = λ right.
    let x = c.args.state.now in
    let map = c.args.container.now.map in
    let count = length map.entries in
    let old = c.args.map.now in
    let mid = c.give_back_marked.new.map in
    let later = c.give_back_nodes.new.map in
    volume_given x map count old mid later c.give_back.new.self c.requires.long
    (given_same old mid (is_member c.args.marks.now) (leads map count) (λ b. sym (right b)) (c.give_back_marked.ensures.given (right 0 ∙ leads_nowhere map count)))
    c.give_back_nodes.ensures
    (subst (λ p. HasGiven later (λ b. is_at b p) c.give_back.new.self) c.label_place.ensures c.give_back.ensures)

pub returns-clause-kept : goal.returns-clause-kept
returns-clause-kept c = λ right.
    let map = c.args.container.now.map in
    let count = length map.entries in
    volume_forgotten c.args.state.now map count c.args.kept.now c.give_back_marked.new.kept c.requires.long
    (forgotten_same c.args.kept.now c.give_back_marked.new.kept (is_member c.args.marks.now) (leads map count) (λ b. sym (right b)) c.give_back_marked.ensures.kept)
