use Rattle.std.proofs.Common.{◌∙◌}
use Rattle.std.specs.Prelude.{IsTrue}
use Rattle.std.proofs.lemmas.Result.{on_ok_weaker}
use Rattle.fv_root.specs.Formatted.{AreClosed}
use Rattle.fv_root.proofs.EmptyMachine.{machine_is_empty}
use Rattle.fv_root.proofs.Making.{closed_images, closed_still, closing_moment, laying_moment, opening_moment, made}
use Rattle.fv_root.proofs.fresh.format.Given as given
use Rattle.fv_root.proofs.fresh.format.Goals as goal

pub returns-in_err-lay_out-clause-any_moment : goal.returns-in_err-lay_out-clause-any_moment
returns-in_err-lay_out-clause-any_moment g c = λ tells.
    let closed = c.in_ok-close_gates.ensures in
    let old = g.D.Disk.shown c.args.disk.now in
    let mid = g.D.Disk.shown c.close_gates.new.disk in
    laying_moment c.args.blocks old mid (g.D.Disk.shown c.lay_out.new.disk) _ (closing_moment c.args.blocks old mid _ closed.spares) closed.spares.counted.given
    (closed_images mid (closed.settled tells) (closed.closed tells)) c.in_err-lay_out.ensures.spares

-- what was laid out lies behind closed gates
still : (g : given.Over) (c : goal.After-open_first_gate g) → IsTrue (g.D.Disk.shown c.args.disk.now).tells → AreClosed (g.D.Disk.shown c.lay_out.new.disk).reads
still g c tells =
    let closed = c.in_ok-close_gates.ensures in
    let mid = g.D.Disk.shown c.close_gates.new.disk in
    let told : IsTrue mid.tells = rw closed.spares.counted.tells tells in
    closed_still c.args.blocks mid.reads (g.D.Disk.shown c.lay_out.new.disk).reads (closed.closed tells) (c.in_ok-lay_out.ensures.spares.reads told)

pub returns-clause-laid_out : goal.returns-clause-laid_out
returns-clause-laid_out g c = λ tells.
    let closed = c.in_ok-close_gates.ensures in
    let out = c.in_ok-lay_out.ensures in
    let told : IsTrue (g.D.Disk.shown c.close_gates.new.disk).tells = rw closed.spares.counted.tells tells in
    let laid = g.D.Disk.shown c.lay_out.new.disk in
    let told2 : IsTrue laid.tells = rw out.spares.counted.tells told in
    on_ok_weaker c.open_first_gate.result
    (λ opened. made c.args.blocks laid.reads (g.D.Disk.shown c.open_first_gate.new.disk).reads (still g c tells) (out.laid_out told) (c.open_first_gate.ensures.spares.reads told2) opened)
    (c.open_first_gate.ensures.opened told2)

pub returns-clause-stands : goal.returns-clause-stands
returns-clause-stands g c = λ tells.
    on_ok_weaker c.open_first_gate.result
    (machine_is_empty c.args.blocks (g.D.Disk.shown c.open_first_gate.new.disk).reads c.requires)
    (returns-clause-laid_out g c tells)

pub returns-clause-any_moment : goal.returns-clause-any_moment
returns-clause-any_moment g c = λ tells.
    let closed = c.in_ok-close_gates.ensures in
    let out = c.in_ok-lay_out.ensures in
    let blocks = c.args.blocks in
    let old = g.D.Disk.shown c.args.disk.now in
    let mid = g.D.Disk.shown c.close_gates.new.disk in
    let laid = g.D.Disk.shown c.lay_out.new.disk in
    let told : IsTrue mid.tells = rw closed.spares.counted.tells tells in
    let so_far = laying_moment blocks old mid laid _ (closing_moment blocks old mid _ closed.spares) closed.spares.counted.given
    (closed_images mid (closed.settled tells) (closed.closed tells)) out.spares in
    opening_moment blocks old laid (g.D.Disk.shown c.open_first_gate.new.disk) _ so_far (out.spares.counted.given ∙ closed.spares.counted.given) c.requires (out.settled told) (still g c tells) (out.laid_out told) c.open_first_gate.ensures.spares
