use Rattle.std.proofs.Common.{◌≡◌, ◌∙◌, ap, rules}
use Rattle.std.specs.Prelude.{Err}
use Rattle.fv_script.specs.Spelled.{before_spaces}
use Rattle.fv_script.proofs.NamesTold.{gave, gave_last, stopped_within}
use Rattle.fv_script.proofs.write.write_names.Goals as goal

pub returns-in_err-give_line : goal.returns-in_err-give_line
returns-in_err-give_line g c =
    let failed : c.from_residual.result ≡ Err c.in_err-give_line.field-0.0 = search rules in
    rw failed (stopped_within _ _ _ _ _ _ _ 64 _ c.loop-rest.invariant (c.as_slice.ensures.value ∙ c.spaced.ensures.spelled ∙ ap before_spaces c.split_at.ensures.front) c.in_err-give_line.ensures)

pub loop-rest-preserved : goal.loop-rest-preserved
loop-rest-preserved g c = rw c.split_at.ensures.back (gave _ _ _ _ _ _ _ 64 c.loop-rest.invariant (c.as_slice.ensures.value ∙ c.spaced.ensures.spelled ∙ ap before_spaces c.split_at.ensures.front) c.in_ok-give_line.ensures)

pub returns : goal.returns
returns g c = gave_last _ _ _ _ _ _ _ _ c.loop-rest.invariant (c.as_slice-2.ensures.value ∙ c.ended.ensures) c.give_line-2.ensures
