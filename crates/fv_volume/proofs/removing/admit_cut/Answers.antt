use Rattle.std.proofs.Common.{◌≡◌, ◌+◌, ◌≤◌, Ok, Err, true, pos, ◌+ℤ◌, rules, sym, subst, ap, ◌∙◌}
use Rattle.fv_model.specs.Numbers.{is_reserve}
use Rattle.fv_charge.specs.Changes.{CanChange, IsChanged}
use Rattle.fv_charge.specs.declared.ledger.Ledger.{Ledger}
use Rattle.fv_volume.specs.declared.state.VolumeState.{VolumeState}
use Rattle.fv_pool.specs.Causes.{of_block}
use Rattle.fv_pool.specs.Lending.{lent_for}
use Rattle.fv_volume.specs.OneVolume.{home_in, standing_for}
use Rattle.fv_pool.proofs.CallCauses.{failed_cause, refused_cause}
use Rattle.fv_volume.specs.Asking.{TellsActive}
use Rattle.fv_volume.proofs.RightTables.{active_tells}
use Rattle.fv_volume.proofs.Calling.{no_refusal, if_err_is}
use Rattle.fv_volume.proofs.Judged.{more_fits, said_of}
use Rattle.fv_volume.proofs.JudgedCut.{cut_accepted, cut_alone, cut_full}
use Rattle.fv_volume.proofs.TablesOf.{none_counted}
use Rattle.fv_volume.proofs.removing.admit_cut.Goals as goal

pub returns-then-has_one_table-clause-accepted : goal.returns-then-has_one_table-clause-accepted
returns-then-has_one_table-clause-accepted g c = λ is. let none = none_counted c.args.volume.now (sym c.if-has_one_table.true ∙ c.has_one_table.ensures) in cut_alone (g.D.Disk.shown c.args.disk.now) c.args.pool.now c.args.volume.now is c.args.file.now c.args.info.now (c.requires.first (active_tells (g.D.Disk.shown c.args.disk.now) c.args.pool.now c.args.volume.now is)) none c.args.length (let most : c.args.length ≤ 2097152 = c.requires.within.near in let near : is_reserve c.args.length ≡ true = search rules in near) c.requires.within.low c.requires.more c.args.others

pub returns-in_err-taken-clause-refused : goal.returns-in_err-taken-clause-refused
returns-in_err-taken-clause-refused g c = λ is. if_err_is _ (of_block c.in_err-taken.field-0.0) c.from_residual.result (search rules) (λ m has. no_refusal (Unit {0}) m _ c.in_err-taken.field-0.0)

pub returns-in_err-taken-clause-cause : goal.returns-in_err-taken-clause-cause
returns-in_err-taken-clause-cause g c = failed_cause (TellsActive (g.D.Disk.shown c.args.disk.now) c.args.pool.now c.args.volume.now) (standing_for (g.D.Disk.shown c.args.disk.now) c.args.pool.now c.args.volume.now) (lent_for c.args.pool.now c.args.volume.now.map (g.D.Disk.shown c.args.disk.now) 0 (home_in c.args.volume.now) 0) (g.D.Disk.shown c.count_cut.new.disk).faults c.in_err-taken.field-0.0 c.from_residual.result (search rules) c.in_err-taken.ensures.cause

pub returns-in_err-admit_change-clause-refused : goal.returns-in_err-admit_change-clause-refused
returns-in_err-admit_change-clause-refused g c = λ is. if_err_is _ c.in_err-admit_change.field-0.0 c.from_residual-in_err-admit_change.result (search rules) (cut_full (g.D.Disk.shown c.args.disk.now) c.args.pool.now c.args.volume.now is c.args.file.now c.args.info.now (c.requires.first (active_tells (g.D.Disk.shown c.args.disk.now) c.args.pool.now c.args.volume.now is)) c.args.others c.requires.ready c.moved_blocks-delta.result c.in_ok-taken.taken (subst (λ (l : Ledger). c.in_ok-taken.taken.gone ≤ l.charge + c.in_ok-taken.taken.staying → (c.moved_blocks-delta.result.charge +ℤ pos c.in_ok-taken.taken.gone) ≡ pos (0 + c.in_ok-taken.taken.staying)) (ap (λ (z : VolumeState). z.ledger) c.count_cut.ensures.same) c.moved_blocks-delta.ensures.charge) c.moved_blocks-delta.ensures.need (c.moved_blocks-delta.ensures.size ∙ ap (λ (z : VolumeState). z.ledger.size) c.count_cut.ensures.same) (c.moved_blocks-delta.ensures.kind ∙ ap (λ (z : VolumeState). z.ledger.kind) c.count_cut.ensures.same) c.args.length (let most : c.args.length ≤ 2097152 = c.requires.within.near in let near : is_reserve c.args.length ≡ true = search rules in near) c.requires.within.low c.requires.more (c.in_ok-taken.ensures.taken is) c.in_err-admit_change.field-0.0 (said_of (g.D.Disk.shown c.args.disk.now) (g.D.Disk.shown c.count_cut.new.disk) c.args.pool.now c.count_cut.new.pool c.count_cut.ensures.reads c.args.volume.now c.count_cut.new.volume c.count_cut.ensures.same c.args.others c.moved_blocks-delta.result (Err c.in_err-admit_change.field-0.0) c.in_err-admit_change.ensures.machine))

pub returns-in_err-admit_change-clause-cause : goal.returns-in_err-admit_change-clause-cause
returns-in_err-admit_change-clause-cause g c = refused_cause (TellsActive (g.D.Disk.shown c.args.disk.now) c.args.pool.now c.args.volume.now) (standing_for (g.D.Disk.shown c.args.disk.now) c.args.pool.now c.args.volume.now) (lent_for c.args.pool.now c.args.volume.now.map (g.D.Disk.shown c.args.disk.now) 0 (home_in c.args.volume.now) 0) (g.D.Disk.shown c.count_cut.new.disk).faults c.in_err-admit_change.field-0.0 c.from_residual-in_err-admit_change.result (search rules) c.in_err-admit_change.ensures.refusal c.in_ok-taken.ensures.cause

pub returns-clause-accepted : goal.returns-clause-accepted
returns-clause-accepted g c = λ is. cut_accepted (g.D.Disk.shown c.args.disk.now) c.args.pool.now c.args.volume.now is c.args.file.now c.args.info.now (c.requires.first (active_tells (g.D.Disk.shown c.args.disk.now) c.args.pool.now c.args.volume.now is)) c.args.others c.requires.ready c.moved_blocks-delta.result c.in_ok-taken.taken (subst (λ (l : Ledger). c.in_ok-taken.taken.gone ≤ l.charge + c.in_ok-taken.taken.staying → (c.moved_blocks-delta.result.charge +ℤ pos c.in_ok-taken.taken.gone) ≡ pos (0 + c.in_ok-taken.taken.staying)) (ap (λ (z : VolumeState). z.ledger) c.count_cut.ensures.same) c.moved_blocks-delta.ensures.charge) c.moved_blocks-delta.ensures.need (c.moved_blocks-delta.ensures.size ∙ ap (λ (z : VolumeState). z.ledger.size) c.count_cut.ensures.same) (c.moved_blocks-delta.ensures.kind ∙ ap (λ (z : VolumeState). z.ledger.kind) c.count_cut.ensures.same) c.args.length (let most : c.args.length ≤ 2097152 = c.requires.within.near in let near : is_reserve c.args.length ≡ true = search rules in near) c.requires.within.low c.requires.more (c.in_ok-taken.ensures.taken is) (said_of (g.D.Disk.shown c.args.disk.now) (g.D.Disk.shown c.count_cut.new.disk) c.args.pool.now c.count_cut.new.pool c.count_cut.ensures.reads c.args.volume.now c.count_cut.new.volume c.count_cut.ensures.same c.args.others c.moved_blocks-delta.result (Ok tt) c.in_ok-admit_change.ensures.machine)

pub returns-clause-fits : goal.returns-clause-fits
returns-clause-fits g c = more_fits (g.D.Disk.shown c.args.disk.now) c.args.pool.now c.args.volume.now c.moved_blocks-delta.result 0 c.requires.ready c.requires.more (subst (λ (z : VolumeState). CanChange z.ledger c.moved_blocks-delta.result) c.count_cut.ensures.same c.moved_blocks-delta.ensures.fits) c.moved_blocks-delta.ensures.need (c.moved_blocks-delta.ensures.size ∙ ap (λ (z : VolumeState). z.ledger.size) c.count_cut.ensures.same) (c.moved_blocks-delta.ensures.kind ∙ ap (λ (z : VolumeState). z.ledger.kind) c.count_cut.ensures.same) (subst (λ (z : VolumeState). (l : Ledger) → IsChanged z.ledger c.moved_blocks-delta.result l → l.charge + l.need ≤ l.size) c.count_cut.ensures.same c.in_ok-admit_change.ensures.within)
