use Rattle.std.proofs.Common.{◌≡◌, rules}
use Rattle.std.specs.Prelude.{Err}
use Rattle.fv_script.proofs.Told.{both, stopped}
use Rattle.fv_saying.proofs.write.write_both.Goals as goal

pub returns-in_err-give_all-clause-told : goal.returns-in_err-give_all-clause-told
returns-in_err-give_all-clause-told g c =
    let failed : c.from_residual.result ≡ Err c.in_err-give_all.field-0.0 = search rules in
    rw failed (stopped _ _ c.args.words.now _ _ (record { gives = c.in_err-give_all.ensures.gives; any_moment = c.in_err-give_all.ensures.any_moment }))

pub returns-in_err-give_all-clause-block : goal.returns-in_err-give_all-clause-block
returns-in_err-give_all-clause-block g c = record { long = c.told-block; bytes = c.fits-block }

pub returns-clause-told : goal.returns-clause-told
returns-clause-told g c = both _ _ _ c.args.words.now _ _ (record { gives = c.in_ok-give_all.ensures.gives; any_moment = c.in_ok-give_all.ensures.any_moment }) c.write_reply.ensures

pub returns-clause-block : goal.returns-clause-block
returns-clause-block g c = record { long = c.told-block; bytes = c.fits-block }
