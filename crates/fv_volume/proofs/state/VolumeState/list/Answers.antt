use Rattle.std.proofs.Common.{◌∙◌, option_copied, rules, sym}
use Rattle.fv_volume.specs.Asking.{standing_of, TellsAsked}
use Rattle.fv_volume.proofs.Asked.{ls_asked_found, ls_asked_lost}
use Rattle.fv_volume.proofs.KeptReads.{asked_cause, asked_is, asked_none}
use Rattle.fv_volume.proofs.state.VolumeState.list.Goals as goal

pub returns-in_default-clause-asked : goal.returns-in_default-clause-asked
returns-in_default-clause-asked g c = λ is.
    let d = g.D.Disk.shown c.args.disk.now in
    let s = option_copied c.args.snapshot in
    ls_asked_lost d c.args.pool.now c.args.self.now s is (asked_none d c.args.pool.now c.args.self.now s (sym c.table_asked.ensures ∙ c.in_default.is))

pub returns-in_err-list_in-clause-cause : goal.returns-in_err-list_in-clause-cause
returns-in_err-list_in-clause-cause g c = asked_cause (g.D.Disk.shown c.args.disk.now) c.args.pool.now c.args.self.now (option_copied c.args.snapshot) c.in-Some.table (sym c.table_asked.ensures ∙ c.in-Some.is) (TellsAsked (g.D.Disk.shown c.args.disk.now) c.args.pool.now c.args.self.now) 0 (g.D.Disk.shown c.list_in.new.disk).faults c.in_err-list_in.field-0.0 c.from_residual.result (search rules) c.in_err-list_in.ensures.cause

pub returns-clause-asked : goal.returns-clause-asked
returns-clause-asked g c = λ is.
    let d = g.D.Disk.shown c.args.disk.now in let p = c.args.pool.now in let x = c.args.self.now in
    let s = option_copied c.args.snapshot in let t = c.in-Some.table in
    ls_asked_found d p x s is (standing_of d p x t) (asked_is d p x s t (sym c.table_asked.ensures ∙ c.in-Some.is)) c.in_ok-list_in.field-0 (c.in_ok-list_in.ensures.names is)
