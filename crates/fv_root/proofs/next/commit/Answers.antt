use Rattle.std.specs.Prelude.{IsTrue}
use Rattle.fv_root.proofs.Committing.{IsReady, generation_fits, old_moment, staged_moment, opened_moment, committed, staged_volumes, opened_volumes, is_ready}
use Rattle.fv_root.proofs.next.commit.Given as given
use Rattle.fv_root.proofs.next.commit.Goals as goal

pub returns-in_err-stage-clause-any_moment : goal.returns-in_err-stage-clause-any_moment
returns-in_err-stage-clause-any_moment g c = λ tells.
    let closed = c.in_ok-close_older.ensures in
    let staged = staged_moment (g.D.Disk.shown c.args.disk.now) c.args.found.now c.args.root.now c.args.map.now (g.D.Disk.shown c.close_older.new.disk) (g.D.Disk.shown c.stage.new.disk) _ (closed.any_moment tells) closed.counted.given (closed.shut tells) c.in_err-stage.ensures.spares in
    old_moment (g.D.Disk.shown c.args.disk.now) c.args.found.now c.args.root.now c.args.map.now (g.D.Disk.shown c.stage.new.disk) staged

pub returns-in_err-stage-clause-volumes : goal.returns-in_err-stage-clause-volumes
returns-in_err-stage-clause-volumes g c = λ tells.
    let closed = c.in_ok-close_older.ensures in
    let told : IsTrue (g.D.Disk.shown c.close_older.new.disk).tells = rw closed.counted.tells tells in
    staged_volumes (g.D.Disk.shown c.args.disk.now) c.args.found.now c.args.root.now c.args.map.now (g.D.Disk.shown c.close_older.new.disk) (g.D.Disk.shown c.stage.new.disk) _ (c.requires.stands tells) told (closed.volumes tells) c.in_err-stage.ensures.spares

ready : (g : given.Over) (c : goal.After-open_older g) → IsTrue (g.D.Disk.shown c.args.disk.now).tells
    → IsReady (g.D.Disk.shown c.args.disk.now) c.args.found.now c.args.root.now c.args.map.now (g.D.Disk.shown c.stage.new.disk)
ready g c tells =
    let closed = c.in_ok-close_older.ensures in
    let staged = c.in_ok-stage.ensures in
    is_ready (g.D.Disk.shown c.args.disk.now) c.args.found.now c.args.root.now c.args.map.now (g.D.Disk.shown c.close_older.new.disk) (g.D.Disk.shown c.stage.new.disk)
    tells (c.requires.stands tells) (closed.any_moment tells) closed.counted (closed.shut tells) (closed.volumes tells) staged.spares staged.settled staged.staged

pub returns-clause-any_moment : goal.returns-clause-any_moment
returns-clause-any_moment g c = λ tells.
    opened_moment (g.D.Disk.shown c.args.disk.now) c.args.found.now c.args.root.now c.args.map.now (g.D.Disk.shown c.stage.new.disk) (g.D.Disk.shown c.open_older.new.disk) c.open_older.result
    (ready g c tells) (generation_fits (g.D.Disk.shown c.args.disk.now) c.args.found.now (c.requires.stands tells)) c.requires.map c.open_older.ensures.spares

pub returns-clause-committed : goal.returns-clause-committed
returns-clause-committed g c = λ tells.
    let is = ready g c tells in
    committed (g.D.Disk.shown c.args.disk.now) c.args.found.now c.args.root.now c.args.map.now (g.D.Disk.shown c.stage.new.disk) (g.D.Disk.shown c.open_older.new.disk) c.open_older.result
    is (g.met.D.Disk.laws c.stage.new.disk) (generation_fits (g.D.Disk.shown c.args.disk.now) c.args.found.now (c.requires.stands tells)) c.requires.map c.open_older.ensures.spares (c.open_older.ensures.settled is.tells) (c.open_older.ensures.opened is.tells)

pub returns-clause-volumes : goal.returns-clause-volumes
returns-clause-volumes g c = λ tells.
    opened_volumes (g.D.Disk.shown c.args.disk.now) c.args.found.now c.args.root.now c.args.map.now (g.D.Disk.shown c.stage.new.disk) (g.D.Disk.shown c.open_older.new.disk) c.open_older.result
    (c.requires.stands tells) (ready g c tells) c.open_older.ensures.spares
