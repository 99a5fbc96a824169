use Rattle.std.proofs.Common.{◌≡◌, ◌+◌, [], sym, subst, rules, arith}
use Rattle.std.specs.Prelude.{Result, Ok, Err, nat_eq}
use Rattle.std.specs.List.{between}
use Rattle.fv_disk.specs.declared.Failed.{Failed}
use Rattle.fv_lines.specs.Held.{Held}
use Rattle.fv_lines.specs.Reading.{Fills}
use Rattle.fv_lines.proofs.Pieces.{held_of, held_still, over, filled, unfilled}
use Rattle.fv_lines.proofs.Spans.{none_between}
use Rattle.fv_lines.proofs.script.Script.fill.Goals.{then-self-via-then-self, then-self-via-else-self+then-self-2}
use Rattle.fv_lines.proofs.script.Script.fill.Goals as goal

pub returns-then-self-clause-fills : goal.returns-then-self-clause-fills
returns-then-self-clause-fills g c =
    let host = g.H.Disk.shown c.args.host.now in
    let laws = g.met.H.Disk.laws c.args.host.now in
    let s = c.self.inside in
    subst (λ (held : Held). Fills held host held host (Ok tt)) c.self.view_is (elim c.then-self.branch [
      | then-self-via-then-self w ↦ held_still s.from s.to s.start s.end s.room s.bytes s.closed s.ended host laws (omega (arith, w.if-self.true)) (omega (arith, c.self.invariant.3, c.self.told)) c.self.invariant.6
      | then-self-via-else-self+then-self-2 w ↦ over _ host laws w.if-self-2.true (none_between s.start s.end s.bytes (omega (arith, c.self.invariant.4 w.if-self-2.true)))
    ])

pub returns-in_err-count-clause-fills : goal.returns-in_err-count-clause-fills
returns-in_err-count-clause-fills g c =
    let host = g.H.Disk.shown c.args.host.now in let new = g.H.Disk.shown c.take_behind.new.host in
    let s = c.self.inside in let from = c.make_room-from.result.0 in let to = c.make_room-from.result.1 in
    let none : between s.start s.end s.bytes ≡ [] = none_between s.start s.end s.bytes (omega (arith, c.if-self.false)) in
    let failed : c.from_residual.result ≡ Err c.in_err-count.field-0.0 = search rules in
    subst (λ (r : Result Unit Failed). Fills c.args.self.now host (held_of from to to to c.take_behind.new.bytes s.closed s.room s.ended) new r) (sym failed)
    (subst (λ (held : Held). Fills held host (held_of from to to to c.take_behind.new.bytes s.closed s.room s.ended) new (Err c.in_err-count.field-0.0)) c.self.view_is
    (unfilled (held_of s.from s.to s.start s.end s.bytes s.closed s.room s.ended) from to c.make_room-from.new.bytes c.take_behind.new.bytes host new (g.met.H.Disk.laws c.args.host.now) none c.if-self-2.false
    c.make_room-from.ensures.line c.in_err-count.ensures.front c.in_err-count.field-0.0 c.in_err-count.ensures.takes))

pub returns-clause-fills : goal.returns-clause-fills
returns-clause-fills g c =
    let host = g.H.Disk.shown c.args.host.now in let new = g.H.Disk.shown c.take_behind.new.host in
    let s = c.self.inside in let from = c.make_room-from.result.0 in let to = c.make_room-from.result.1 in
    let none : between s.start s.end s.bytes ≡ [] = none_between s.start s.end s.bytes (omega (arith, c.if-self.false)) in
    subst (λ (held : Held). Fills held host (held_of from to to (to + c.in_ok-count.count) c.take_behind.new.bytes s.closed s.room (nat_eq c.in_ok-count.count 0)) new (Ok tt)) c.self.view_is
    (filled (held_of s.from s.to s.start s.end s.bytes s.closed s.room s.ended) from to c.make_room-from.new.bytes c.take_behind.new.bytes host new (g.met.H.Disk.laws c.args.host.now) none c.if-self-2.false
    c.make_room-from.ensures.line c.in_ok-count.ensures.front c.in_ok-count.count c.in_ok-count.ensures.few (omega (arith, c.make_room-from.ensures.room, c.take_behind.array_long)) c.in_ok-count.ensures.takes)
