use Rattle.std.proofs.Common.{◌≡◌, ◌≤◌, ◌<◌, ◌+◌, ◌∙◌, Err, Some, None, true, false, option_copied, rules, refl, sym, ap, subst}
use Rattle.std.specs.Prelude.{IfErr, unwrap_or, Option}
use Rattle.fv_tables.specs.Spelled.{Under}
use Rattle.fv_tables.specs.Told.{Standing}
use Rattle.fv_inode.specs.Files.{Finds, IsFirst}
use Rattle.fv_files.specs.Apart.{Trees}
use Rattle.fv_files.specs.Calls.{GivesCell}
use Rattle.fv_files.specs.Tables.{IsInfoOf}
use Rattle.fv_model.specs.declared.answers.Refusal.{Refusal}
use Rattle.fv_model.specs.Numbers.{is_index}
use Rattle.fv_pool.specs.declared.fault.VolumeFault.TheVariants.{Refused}
use Rattle.fv_volume.specs.declared.state.VolumeState.{VolumeState}
use Rattle.fv_volume.specs.Asking.{standing_of, standing_read, trees_of, trees_opened, ReadsAsked, TellsAsked}
use Rattle.fv_pool.specs.Calls.{BlockCause}
use Rattle.fv_pool.specs.Causes.{of_block}
use Rattle.fv_pool.specs.Lending.{lent_for}
use Rattle.fv_volume.specs.OneVolume.{home_in, IsStanding}
use Rattle.fv_volume.specs.Paths.{unknown_over, StepsTo}
use Rattle.fv_volume.proofs.RightTables.{asked_tells, known_after, still_reads}
use Rattle.fv_volume.proofs.Asked.{first_info, get_asked_found, get_asked_lost, get_asked_missing, get_asked_past, get_too_far}
use Rattle.fv_pool.proofs.CallCauses.{cause_for, not_refused}
use Rattle.fv_volume.proofs.CallCauses.{fails_on}
use Rattle.fv_volume.proofs.Followed.{steps_to}
use Rattle.fv_volume.specs.declared.tables.TableAsked.{TableAsked}
use Rattle.fv_volume.specs.declared.tables.TableAsked.TheVariants.{Active}
use Rattle.fv_volume.proofs.OneVolumes.{still_standing, still_under}
use Rattle.fv_volume.proofs.KeptReads.{asked_cause, asked_is, asked_none, of_before, read_is, still_of}
use Rattle.fv_volume.proofs.state.VolumeState.get.Goals as goal

pub returns-then-not-in_index-clause-asked : goal.returns-then-not-in_index-clause-asked
returns-then-not-in_index-clause-asked g c = λ is.
    let far : is_index c.args.index ≡ false = search rules in
    get_too_far (g.D.Disk.shown c.args.disk.now) c.args.pool.now c.args.self.now (option_copied c.args.snapshot) c.args.file.now c.args.index _ far

pub returns-in_default-clause-asked : goal.returns-in_default-clause-asked
returns-in_default-clause-asked g c = λ is.
    let d = g.D.Disk.shown c.args.disk.now in
    let s = option_copied c.args.snapshot in
    let near : is_index c.args.index ≡ true = search rules in
    get_asked_lost d c.args.pool.now c.args.self.now s is (asked_none d c.args.pool.now c.args.self.now s (sym c.table_asked.ensures ∙ c.in_default.is)) c.args.file.now c.args.index _ near

pub returns-in_err-find_in-clause-cause : goal.returns-in_err-find_in-clause-cause
returns-in_err-find_in-clause-cause g c =
    let d = g.D.Disk.shown c.args.disk.now in let p = c.args.pool.now in let x = c.args.self.now in
    let s = option_copied c.args.snapshot in let t = c.in-Some.table in
    let left = (g.D.Disk.shown c.find_in.new.disk).faults in
    let fault = c.in_err-find_in.field-0.0 in
    let failed : c.from_residual.result ≡ Err (of_block fault) = search rules in
    asked_cause d p x s t (sym c.table_asked.ensures ∙ c.in-Some.is) (ReadsAsked d p x) 0 left fault c.from_residual.result failed
    (cause_for (ReadsAsked d p x t) (TellsAsked d p x t) (λ reads. reads.tells) (lent_for p x.map d 0 (home_in x) 0) left {T = Unit {0}} (standing_of d p x t) (standing_of d p x t) (Err fault) refl c.in_err-find_in.ensures.cause)

pub returns-in-None-clause-asked : goal.returns-in-None-clause-asked
returns-in-None-clause-asked g c = λ is.
    let near : is_index c.args.index ≡ true = search rules in
    let d = g.D.Disk.shown c.args.disk.now in let p = c.args.pool.now in let x = c.args.self.now in
    let s = option_copied c.args.snapshot in let t = c.in-Some.table in
    let found : c.in_ok-find_in.field-0 ≡ None = search rules in
    get_asked_missing d p x s is (standing_of d p x t) (asked_is d p x s t (sym c.table_asked.ensures ∙ c.in-Some.is)) c.args.file.now c.args.index _ near (subst (λ o. Finds (standing_of d p x t).inode c.args.file.now o) found (c.in_ok-find_in.ensures.found (asked_tells d p x is t (s, sym c.table_asked.ensures ∙ c.in-Some.is))))

pub returns-then-info-index-clause-asked : goal.returns-then-info-index-clause-asked
returns-then-info-index-clause-asked g c = λ is.
    let near : is_index c.args.index ≡ true = search rules in
    let d = g.D.Disk.shown c.args.disk.now in let p = c.args.pool.now in let x = c.args.self.now in
    let s = option_copied c.args.snapshot in let t = c.in-Some.table in
    let found : c.in_ok-find_in.field-0 ≡ Some c.in-Some-2.info = search rules in
    let first : IsFirst (standing_of d p x t).inode c.args.file.now c.in-Some-2.info = subst (λ o. Finds (standing_of d p x t).inode c.args.file.now o) found (c.in_ok-find_in.ensures.found (asked_tells d p x is t (s, sym c.table_asked.ensures ∙ c.in-Some.is))) in
    let past : c.in-Some-2.info.length ≤ c.args.index = search rules in
    get_asked_past d p x s is (standing_of d p x t) (asked_is d p x s t (sym c.table_asked.ensures ∙ c.in-Some.is)) c.args.file.now c.in-Some-2.info first c.args.index _ near past

pub read_in-requires-clause-there : goal.read_in-requires-clause-there
read_in-requires-clause-there g c =
    let d = g.D.Disk.shown c.args.disk.now in let p = c.args.pool.now in let x = c.args.self.now in
    let t = c.in-Some.table in
    let found : c.in_ok-find_in.field-0 ≡ Some c.in-Some-2.info = search rules in
    known_after d (g.D.Disk.shown c.find_in.new.disk) p c.find_in.new.pool c.find_in.ensures.reads x t c.find_in.new.volume c.find_in.ensures.same (λ (u : Standing). IsInfoOf u.inode c.in-Some-2.info)
    (λ told. first_info (standing_of d p x t).inode c.args.file.now c.in-Some-2.info (subst (λ o. Finds (standing_of d p x t).inode c.args.file.now o) found (c.in_ok-find_in.ensures.found told)))

pub returns-in_err-read_in-in-Some-2-clause-cause : goal.returns-in_err-read_in-in-Some-2-clause-cause
returns-in_err-read_in-in-Some-2-clause-cause g c =
    let d = g.D.Disk.shown c.args.disk.now in
    let e = g.D.Disk.shown c.find_in.new.disk in
    let p = c.args.pool.now in
    let q = c.find_in.new.pool in
    let x = c.args.self.now in
    let s = option_copied c.args.snapshot in let t = c.in-Some.table in
    let left = (g.D.Disk.shown c.read_in.new.disk).faults in
    let fault = c.in_err-read_in-in-Some-2.field-0.0 in
    let failed : c.from_residual-in_err-read_in-in-Some-2.result ≡ Err (of_block fault) = search rules in
    let later = subst (λ (v : VolumeState). BlockCause {T = Unit {0}} (ReadsAsked e q v t) (standing_of e q v t) (lent_for q v.map e c.args.steps.now (home_in v) 0) left (Err fault)) c.find_in.ensures.same c.in_err-read_in-in-Some-2.ensures.cause in
    asked_cause d p x s t (sym c.table_asked.ensures ∙ c.in-Some.is) (ReadsAsked d p x) 0 left fault c.from_residual-in_err-read_in-in-Some-2.result failed
    (fails_on d e p q c.find_in.ensures.reads x c.in_ok-find_in.ensures.cause 0 c.args.steps.now (ReadsAsked d p x t) (ReadsAsked e q x t) (still_reads d e p q c.find_in.ensures.reads x t) {T = Unit {0}} (standing_of e q x t) (standing_of d p x t)
    (still_of d e p q c.find_in.ensures.reads x t) left (Err fault) later)

pub returns-in_ok-read_in-in-Some-2-clause-asked : goal.returns-in_ok-read_in-in-Some-2-clause-asked
returns-in_ok-read_in-in-Some-2-clause-asked g c = λ is.
    let near : is_index c.args.index ≡ true = search rules in
    let d = g.D.Disk.shown c.args.disk.now in let p = c.args.pool.now in let x = c.args.self.now in
    let s = option_copied c.args.snapshot in let t = c.in-Some.table in
    let found : c.in_ok-find_in.field-0 ≡ Some c.in-Some-2.info = search rules in
    let first : IsFirst (standing_of d p x t).inode c.args.file.now c.in-Some-2.info = subst (λ o. Finds (standing_of d p x t).inode c.args.file.now o) found (c.in_ok-find_in.ensures.found (asked_tells d p x is t (s, sym c.table_asked.ensures ∙ c.in-Some.is))) in
    let within : c.args.index < c.in-Some-2.info.length = search rules in
    get_asked_found d p x s is (standing_of d p x t) (asked_is d p x s t (sym c.table_asked.ensures ∙ c.in-Some.is)) c.args.file.now c.in-Some-2.info first c.args.index _ near within
    (of_before d (g.D.Disk.shown c.find_in.new.disk) p c.find_in.new.pool c.find_in.ensures.reads x t c.find_in.new.volume c.find_in.ensures.same
    (λ (u : Standing). GivesCell u c.in-Some-2.info.number c.args.index c.read_in.new.into) c.in_ok-read_in-in-Some-2.ensures.block is)

pub returns-in_ok-read_in-in-Some-2-clause-steps : goal.returns-in_ok-read_in-in-Some-2-clause-steps
returns-in_ok-read_in-in-Some-2-clause-steps g c = λ is.
    let d = g.D.Disk.shown c.args.disk.now in let p = c.args.pool.now in let x = c.args.self.now in
    let s = option_copied c.args.snapshot in let t = c.in-Some.table in
    let found : c.in_ok-find_in.field-0 ≡ Some c.in-Some-2.info = search rules in
    let first : IsFirst (standing_of d p x t).inode c.args.file.now c.in-Some-2.info = subst (λ o. Finds (standing_of d p x t).inode c.args.file.now o) found (c.in_ok-find_in.ensures.found (asked_tells d p x is t (s, sym c.table_asked.ensures ∙ c.in-Some.is))) in
    let e = g.D.Disk.shown c.find_in.new.disk in let q = c.find_in.new.pool in
    let made = subst (λ (z : VolumeState). IsStanding e q z → c.read_in.new.steps ≡ c.args.steps.now + unknown_over (trees_of e q z t) c.in-Some-2.info.number c.args.index) c.find_in.ensures.same c.in_ok-read_in-in-Some-2.ensures.steps in
    let rose = subst (λ (u : Under). c.read_in.new.steps ≡ c.args.steps.now + unknown_over (trees_opened u x.active x.files t) c.in-Some-2.info.number c.args.index) (still_under d e p q c.find_in.ensures.reads x)
    (made (still_standing d e p q c.find_in.ensures.reads x is)) in
    subst (λ (u : Trees). StepsTo (standing_read d p x s) u c.args.file.now c.args.index c.args.steps.now c.read_in.new.steps) (sym (ap (λ (o : Option TableAsked). trees_of d p x (unwrap_or o Active)) (sym c.table_asked.ensures ∙ c.in-Some.is)))
    (subst (λ (u : Standing). StepsTo u (trees_of d p x t) c.args.file.now c.args.index c.args.steps.now c.read_in.new.steps) (read_is d p x s t (sym c.table_asked.ensures ∙ c.in-Some.is))
    (steps_to (standing_of d p x t) (trees_of d p x t) c.args.file.now c.in-Some-2.info first c.args.index c.args.steps.now c.read_in.new.steps rose))

pub returns-in_err-read_in-in-Some-2-clause-unmoved : goal.returns-in_err-read_in-in-Some-2-clause-unmoved
returns-in_err-read_in-in-Some-2-clause-unmoved g c =
    let e = c.in_err-read_in-in-Some-2.field-0.0 in
    let failed : c.from_residual-in_err-read_in-in-Some-2.result ≡ Err (of_block e) = search rules in
    subst (λ r. IfErr r (λ f. (w : Refusal) → f ≡ Refused w → c.read_in.new.steps ≡ c.args.steps.now)) (sym failed) (λ w same. absurd (not_refused e w same))
