use Rattle.std.proofs.Common.{◌≡◌, ◌≤◌, Some, None, true, false, rules, subst, ap, ◌∙◌, arith}
use Rattle.fv_model.specs.Numbers.{is_reserve, most_changes}
use Rattle.fv_tables.specs.Told.{Standing}
use Rattle.fv_inode.specs.Files.{Finds, IsFreeNumber, IsNumberIf}
use Rattle.fv_volume.specs.declared.state.VolumeState.{VolumeState}
use Rattle.fv_pool.specs.Causes.{of_block}
use Rattle.fv_pool.specs.Lending.{lent_for}
use Rattle.fv_volume.specs.OneVolume.{home_in, standing_for}
use Rattle.fv_volume.specs.Asking.{TellsActive}
use Rattle.fv_volume.specs.declared.tables.TableAsked.TheVariants.{Active}
use Rattle.fv_volume.proofs.RightTables.{active_tells, known_before}
use Rattle.fv_volume.proofs.Calling.{no_refusal, if_err_is}
use Rattle.fv_volume.proofs.CallCauses.{failed_change_cause}
use Rattle.fv_pool.proofs.CallCauses.{failed_cause}
use Rattle.fv_volume.proofs.JudgedNew.{new_all_files, some_is, new_counted, new_exists, new_other_kind, new_too_far}
use Rattle.fv_volume.proofs.changing.judge_name.Goals as goal

pub returns-then-not-in_reserve-clause-refused : goal.returns-then-not-in_reserve-clause-refused
returns-then-not-in_reserve-clause-refused g c = λ is others.
    let far : is_reserve c.args.reserve ≡ false = search rules in
    new_too_far (g.D.Disk.shown c.args.disk.now) c.args.pool.now c.args.volume.now others c.args.file.now c.args.reserve far

pub returns-in_err-found-clause-refused : goal.returns-in_err-found-clause-refused
returns-in_err-found-clause-refused g c = λ is. if_err_is _ (of_block c.in_err-found.field-0.0) c.from_residual.result (search rules) (λ others m has. no_refusal (Unit {0}) m _ c.in_err-found.field-0.0)

pub returns-in_err-found-clause-cause : goal.returns-in_err-found-clause-cause
returns-in_err-found-clause-cause g c = failed_cause (TellsActive (g.D.Disk.shown c.args.disk.now) c.args.pool.now c.args.volume.now) (standing_for (g.D.Disk.shown c.args.disk.now) c.args.pool.now c.args.volume.now) (lent_for c.args.pool.now c.args.volume.now.map (g.D.Disk.shown c.args.disk.now) 0 (home_in c.args.volume.now) 0) (g.D.Disk.shown c.find_file.new.disk).faults c.in_err-found.field-0.0 c.from_residual.result (search rules) c.in_err-found.ensures.cause

pub returns-then-is_some-clause-refused : goal.returns-then-is_some-clause-refused
returns-then-is_some-clause-refused g c = λ is others.
    let near : is_reserve c.args.reserve ≡ true = search rules in
    let there = some_is c.in_ok-found.found (search rules) in
    new_exists (g.D.Disk.shown c.args.disk.now) c.args.pool.now c.args.volume.now others c.args.file.now c.args.reserve near is there.0 (subst (Finds (standing_for (g.D.Disk.shown c.args.disk.now) c.args.pool.now c.args.volume.now).inode c.args.file.now) there.1 (c.in_ok-found.ensures.found (active_tells (g.D.Disk.shown c.args.disk.now) c.args.pool.now c.args.volume.now is)))

pub returns-then-reserve-gt0-clause-refused : goal.returns-then-reserve-gt0-clause-refused
returns-then-reserve-gt0-clause-refused g c = λ is others.
    let near : is_reserve c.args.reserve ≡ true = search rules in
    let none : c.in_ok-found.found ≡ None = search rules in
    new_other_kind (g.D.Disk.shown c.args.disk.now) c.args.pool.now c.args.volume.now others c.args.file.now c.args.reserve near (subst (Finds (standing_for (g.D.Disk.shown c.args.disk.now) c.args.pool.now c.args.volume.now).inode c.args.file.now) none (c.in_ok-found.ensures.found (active_tells (g.D.Disk.shown c.args.disk.now) c.args.pool.now c.args.volume.now is))) c.if-reserve-gt0.true (λ file. let zero_is = c.requires.form file in omega (arith, zero_is, c.if-reserve-gt0.true))

pub returns-in_err-number-clause-refused : goal.returns-in_err-number-clause-refused
returns-in_err-number-clause-refused g c = λ is. if_err_is _ (of_block c.in_err-number.field-0.0) c.from_residual-in_err-number.result (search rules) (λ others m has. no_refusal (Unit {0}) m _ c.in_err-number.field-0.0)

pub returns-in_err-number-clause-cause : goal.returns-in_err-number-clause-cause
returns-in_err-number-clause-cause g c = failed_change_cause (g.D.Disk.shown c.args.disk.now) (g.D.Disk.shown c.find_file.new.disk) c.args.pool.now c.find_file.new.pool c.find_file.ensures.reads c.args.volume.now c.find_file.new.volume c.find_file.ensures.same c.in_ok-found.ensures.cause (g.D.Disk.shown c.find_number.new.disk).faults c.in_err-number.field-0.0 c.from_residual-in_err-number.result (search rules) c.in_err-number.ensures.cause

pub returns-in_default-clause-refused : goal.returns-in_default-clause-refused
returns-in_default-clause-refused g c = λ is others.
    let near : is_reserve c.args.reserve ≡ true = search rules in
    let none : c.in_ok-found.found ≡ None = search rules in
    let zero_is : c.args.reserve ≡ 0 = search rules in
    new_all_files (g.D.Disk.shown c.args.disk.now) c.args.pool.now c.args.volume.now others c.args.file.now c.args.reserve near (subst (Finds (standing_for (g.D.Disk.shown c.args.disk.now) c.args.pool.now c.args.volume.now).inode c.args.file.now) none (c.in_ok-found.ensures.found (active_tells (g.D.Disk.shown c.args.disk.now) c.args.pool.now c.args.volume.now is))) is zero_is (known_before (g.D.Disk.shown c.args.disk.now) (g.D.Disk.shown c.find_file.new.disk) c.args.pool.now c.find_file.new.pool c.find_file.ensures.reads c.args.volume.now Active c.find_file.new.volume c.find_file.ensures.same (λ (s : Standing). IsFreeNumber s.inode None) (λ told. subst (λ k. IsFreeNumber (standing_for (g.D.Disk.shown c.find_file.new.disk) c.find_file.new.pool c.find_file.new.volume).inode k) c.in_default.is (c.in_ok-number.ensures.number told)) (active_tells (g.D.Disk.shown c.args.disk.now) c.args.pool.now c.args.volume.now is))

pub returns-then-volume-ge-MOST_CHANGES-clause-refused : goal.returns-then-volume-ge-MOST_CHANGES-clause-refused
returns-then-volume-ge-MOST_CHANGES-clause-refused g c = λ is others.
    let near : is_reserve c.args.reserve ≡ true = search rules in
    let none : c.in_ok-found.found ≡ None = search rules in
    let zero_is : c.args.reserve ≡ 0 = search rules in
    let all : most_changes ≤ c.args.volume.now.now = (let now : c.find_number.new.volume.now ≡ c.args.volume.now.now = ap (λ (z : VolumeState). z.now) (c.find_number.ensures.same ∙ c.find_file.ensures.same) in omega (arith, now, c.if-volume-ge-MOST_CHANGES.true)) in
    new_counted (g.D.Disk.shown c.args.disk.now) c.args.pool.now c.args.volume.now others c.args.file.now c.args.reserve near (subst (Finds (standing_for (g.D.Disk.shown c.args.disk.now) c.args.pool.now c.args.volume.now).inode c.args.file.now) none (c.in_ok-found.ensures.found (active_tells (g.D.Disk.shown c.args.disk.now) c.args.pool.now c.args.volume.now is))) is zero_is c.in-Some.number (subst IsNumberIf c.in-Some.is c.in_ok-number.ensures.range) (known_before (g.D.Disk.shown c.args.disk.now) (g.D.Disk.shown c.find_file.new.disk) c.args.pool.now c.find_file.new.pool c.find_file.ensures.reads c.args.volume.now Active c.find_file.new.volume c.find_file.ensures.same (λ (s : Standing). IsFreeNumber s.inode (Some c.in-Some.number)) (λ told. subst (λ k. IsFreeNumber (standing_for (g.D.Disk.shown c.find_file.new.disk) c.find_file.new.pool c.find_file.new.volume).inode k) c.in-Some.is (c.in_ok-number.ensures.number told)) (active_tells (g.D.Disk.shown c.args.disk.now) c.args.pool.now c.args.volume.now is)) all

pub returns-clause-accepted : goal.returns-clause-accepted
returns-clause-accepted g c = λ is.
    let near : is_reserve c.args.reserve ≡ true = search rules in
    let none : c.in_ok-found.found ≡ None = search rules in
    record { near = near; none = (subst (Finds (standing_for (g.D.Disk.shown c.args.disk.now) c.args.pool.now c.args.volume.now).inode c.args.file.now) none (c.in_ok-found.ensures.found (active_tells (g.D.Disk.shown c.args.disk.now) c.args.pool.now c.args.volume.now is))); free = (known_before (g.D.Disk.shown c.args.disk.now) (g.D.Disk.shown c.find_file.new.disk) c.args.pool.now c.find_file.new.pool c.find_file.ensures.reads c.args.volume.now Active c.find_file.new.volume c.find_file.ensures.same (λ (s : Standing). IsFreeNumber s.inode (Some c.in-Some.number)) (λ told. subst (λ k. IsFreeNumber (standing_for (g.D.Disk.shown c.find_file.new.disk) c.find_file.new.pool c.find_file.new.volume).inode k) c.in-Some.is (c.in_ok-number.ensures.number told)) (active_tells (g.D.Disk.shown c.args.disk.now) c.args.pool.now c.args.volume.now is)) }

pub returns-clause-low : goal.returns-clause-low
returns-clause-low g c = (subst IsNumberIf c.in-Some.is c.in_ok-number.ensures.range)

pub returns-clause-more : goal.returns-clause-more
returns-clause-more g c = (let now : c.find_number.new.volume.now ≡ c.args.volume.now.now = ap (λ (z : VolumeState). z.now) (c.find_number.ensures.same ∙ c.find_file.ensures.same) in omega (arith, now, c.if-volume-ge-MOST_CHANGES.false))

pub returns-clause-free : goal.returns-clause-free
returns-clause-free g c = λ told. known_before (g.D.Disk.shown c.args.disk.now) (g.D.Disk.shown c.find_file.new.disk) c.args.pool.now c.find_file.new.pool c.find_file.ensures.reads c.args.volume.now Active c.find_file.new.volume c.find_file.ensures.same (λ (s : Standing). IsFreeNumber s.inode (Some c.in-Some.number)) (λ told. subst (λ k. IsFreeNumber (standing_for (g.D.Disk.shown c.find_file.new.disk) c.find_file.new.pool c.find_file.new.volume).inode k) c.in-Some.is (c.in_ok-number.ensures.number told)) told
