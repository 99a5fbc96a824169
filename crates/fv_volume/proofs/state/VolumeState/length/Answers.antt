use Rattle.std.proofs.Common.{◌≡◌, ◌∙◌, Some, None, option_copied, rules, sym, subst}
use Rattle.fv_inode.specs.Files.{Finds, IsFirst}
use Rattle.fv_volume.specs.Asking.{standing_of, TellsAsked}
use Rattle.fv_volume.proofs.RightTables.{asked_tells}
use Rattle.fv_volume.proofs.Asked.{len_asked_found, len_asked_lost, len_asked_missing}
use Rattle.fv_volume.proofs.KeptReads.{asked_cause, asked_is, asked_none}
use Rattle.fv_volume.proofs.state.VolumeState.length.Goals as goal

pub returns-in_default-clause-asked : goal.returns-in_default-clause-asked
returns-in_default-clause-asked g c = λ is.
    let d = g.D.Disk.shown c.args.disk.now in
    let s = option_copied c.args.snapshot in
    len_asked_lost d c.args.pool.now c.args.self.now s is (asked_none d c.args.pool.now c.args.self.now s (sym c.table_asked.ensures ∙ c.in_default.is)) c.args.file.now

pub returns-in_err-find_in-clause-cause : goal.returns-in_err-find_in-clause-cause
returns-in_err-find_in-clause-cause g c = asked_cause (g.D.Disk.shown c.args.disk.now) c.args.pool.now c.args.self.now (option_copied c.args.snapshot) c.in-Some.table (sym c.table_asked.ensures ∙ c.in-Some.is) (TellsAsked (g.D.Disk.shown c.args.disk.now) c.args.pool.now c.args.self.now) 0 (g.D.Disk.shown c.find_in.new.disk).faults c.in_err-find_in.field-0.0 c.from_residual.result (search rules) c.in_err-find_in.ensures.cause

pub returns-in-None-clause-asked : goal.returns-in-None-clause-asked
returns-in-None-clause-asked g c = λ is.
    let d = g.D.Disk.shown c.args.disk.now in let p = c.args.pool.now in let x = c.args.self.now in
    let s = option_copied c.args.snapshot in let t = c.in-Some.table in
    let found : c.in_ok-find_in.field-0 ≡ None = search rules in
    len_asked_missing d p x s is (standing_of d p x t) (asked_is d p x s t (sym c.table_asked.ensures ∙ c.in-Some.is)) c.args.file.now (subst (λ o. Finds (standing_of d p x t).inode c.args.file.now o) found (c.in_ok-find_in.ensures.found (asked_tells d p x is t (s, sym c.table_asked.ensures ∙ c.in-Some.is))))

pub returns-in-Some-2-clause-asked : goal.returns-in-Some-2-clause-asked
returns-in-Some-2-clause-asked g c = λ is.
    let d = g.D.Disk.shown c.args.disk.now in let p = c.args.pool.now in let x = c.args.self.now in
    let s = option_copied c.args.snapshot in let t = c.in-Some.table in
    let found : c.in_ok-find_in.field-0 ≡ Some c.in-Some-2.info = search rules in
    let first : IsFirst (standing_of d p x t).inode c.args.file.now c.in-Some-2.info = subst (λ o. Finds (standing_of d p x t).inode c.args.file.now o) found (c.in_ok-find_in.ensures.found (asked_tells d p x is t (s, sym c.table_asked.ensures ∙ c.in-Some.is))) in
    len_asked_found d p x s is (standing_of d p x t) (asked_is d p x s t (sym c.table_asked.ensures ∙ c.in-Some.is)) c.args.file.now c.in-Some-2.info first
