use Rattle.std.proofs.Common.{◌≡◌, ◌∙◌, sym, ap, subst}
use Rattle.std.specs.Prelude.{IfErr, IfOk, IsTrue}
use Rattle.fv_disk.specs.Shown.{Image}
use Rattle.fv_image.specs.WholeMachine.{machine_of}
use Rattle.fv_aggregate.specs.Causes.{OpenFails}
use Rattle.fv_aggregate.specs.LeftOver.{todo_under}
use Rattle.fv_aggregate.specs.Opening.{TellsDelayed}
use Rattle.fv_aggregate.specs.PathShown.{HasPathsOf}
use Rattle.fv_aggregate.specs.Working.{todo}
use Rattle.fv_aggregate.proofs.LeftShown.{left_result}
use Rattle.fv_aggregate.proofs.PathShown.{paths_opened}
use Rattle.fv_aggregate.proofs.Opened.{asks_result, delays_result, opened_result, stands_result, without_files}
use Rattle.fv_disk.proofs.Reading.{reads_whole}
use Rattle.fv_aggregate.proofs.Whole.{fails_result, whole_result}
use Rattle.fv_aggregate.proofs.session.Session.open.Goals as goal

pub returns-clause-machine : goal.returns-clause-machine
returns-clause-machine g c = λ tells m is.
    let mid = g.D.Disk.shown c.barrier.new.self in
    let told = subst IsTrue (sym c.barrier.ensures.tells) tells in
    opened_result mid (g.D.Disk.shown c.load.new.disk) m c.load.result (c.in_ok-barrier.ensures.durable tells) told (reads_whole mid (g.met.D.Disk.laws c.barrier.new.self) told) c.load.ensures.only_reads (c.load.ensures.loaded told) c.load.ensures.each c.load.ensures.fresh (ap machine_of c.barrier.ensures.reads ∙ is)

pub returns-clause-left : goal.returns-clause-left
returns-clause-left g c = λ tells m is.
    let mid = g.D.Disk.shown c.barrier.new.self in
    let new = g.D.Disk.shown c.load.new.disk in
    let told = subst IsTrue (sym c.barrier.ensures.tells) tells in
    subst (λ (i : Image). IfOk c.load.result (λ session. todo new session ≡ todo_under session.pool.found i)) c.barrier.ensures.reads
    (left_result mid new m c.load.result c.load.ensures.only_reads (c.load.ensures.loaded told) c.load.ensures.each (returns-clause-machine g c tells m is))

pub returns-clause-paths : goal.returns-clause-paths
returns-clause-paths g c = λ tells m is.
    let mid = g.D.Disk.shown c.barrier.new.self in
    let new = g.D.Disk.shown c.load.new.disk in
    let told = subst IsTrue (sym c.barrier.ensures.tells) tells in
    subst (λ (i : Image). IfOk c.load.result (HasPathsOf i new.reads)) c.barrier.ensures.reads
    (paths_opened mid new m c.load.result c.load.ensures.only_reads (c.load.ensures.loaded told) c.load.ensures.each (returns-clause-machine g c tells m is))

pub returns-clause-delays : goal.returns-clause-delays
returns-clause-delays g c = λ tells m is.
    let mid = g.D.Disk.shown c.barrier.new.self in
    let told = subst IsTrue (sym c.barrier.ensures.tells) tells in
    let done = c.load.ensures in
    subst (λ (i : Image). IfOk c.load.result (TellsDelayed i)) c.barrier.ensures.reads
    (delays_result mid.reads (g.D.Disk.shown c.load.new.disk) m c.load.result (reads_whole mid (g.met.D.Disk.laws c.barrier.new.self) told) (done.loaded told) done.each done.fresh (ap machine_of c.barrier.ensures.reads ∙ is))

pub returns-clause-fault : goal.returns-clause-fault
returns-clause-fault g c = λ tells.
    let mid = g.D.Disk.shown c.barrier.new.self in
    let told = subst IsTrue (sym c.barrier.ensures.tells) tells in
    subst (λ (i : Image). IfErr c.load.result (OpenFails i)) c.barrier.ensures.reads
    (fails_result mid.reads c.load.result (c.load.ensures.fault told) (λ m is. whole_result mid.reads m c.load.result (reads_whole mid (g.met.D.Disk.laws c.barrier.new.self) told) is (c.load.ensures.fault told)))

pub returns-clause-stands : goal.returns-clause-stands
returns-clause-stands g c =
    let mid = g.D.Disk.shown c.barrier.new.self in
    let done = c.load.ensures in
    stands_result mid (g.D.Disk.shown c.load.new.disk) (λ tells. c.in_ok-barrier.ensures.durable (subst IsTrue c.barrier.ensures.tells tells)) done.only_reads c.load.result done.loaded done.cache done.each

pub returns-clause-asks : goal.returns-clause-asks
returns-clause-asks g c = λ tells.
    let mid = g.D.Disk.shown c.barrier.new.self in
    let told = subst IsTrue (sym c.barrier.ensures.tells) tells in
    let done = c.load.ensures in
    asks_result mid (g.D.Disk.shown c.load.new.disk) (λ tells. c.in_ok-barrier.ensures.durable (subst IsTrue c.barrier.ensures.tells tells)) done.only_reads c.load.result done.fresh (done.asked told)

pub returns-clause-none : goal.returns-clause-none
returns-clause-none g c = λ tells.
    let mid = g.D.Disk.shown c.barrier.new.self in
    let told = subst IsTrue (sym c.barrier.ensures.tells) tells in
    let done = c.load.ensures in
    without_files mid (g.D.Disk.shown c.load.new.disk) (λ tells. c.in_ok-barrier.ensures.durable (subst IsTrue c.barrier.ensures.tells tells)) done.only_reads c.load.result (done.loaded told) done.each
