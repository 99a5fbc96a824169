use Rattle.std.proofs.Common.{◌≡◌, ◌∙◌, subst, ℕ, List}
use Rattle.std.specs.Prelude.{Ok, Err}
use Rattle.fv_disk.specs.HostCalls.{GivesAll}
use Rattle.fv_disk.specs.Crash.{Leaves}
use Rattle.fv_disk.specs.Partly.{PartlyGiven}
use Rattle.fv_run.specs.Creating.{created_text}
use Rattle.fv_run.proofs.Created.{untold, told, told_partly}
use Rattle.fv_run.proofs.create.create.Goals as goal

pub returns-in_default : goal.returns-in_default
returns-in_default g c = untold _ _ _ _ c.in_default.ensures.writes c.in_default.ensures.any_moment

pub returns-in_default-give_all : goal.returns-in_default-give_all
returns-in_default-give_all g c =
    let line : c.as_bytes.result.now ≡ created_text c.args.blocks = c.as_bytes.ensures.value ∙ c.as_str.ensures.value ∙ c.created_line.ensures in
    let made = g.H.Disk.shown c.format.new.disk in
    let given = g.H.Disk.shown c.give_all.new.host in
    told_partly c.args.blocks _ made given c.in-Ok.ensures.writes c.in-Ok.ensures.stands c.in-Ok.ensures.settled c.in-Ok.ensures.any_moment
    (subst (λ (bytes : List ℕ). Leaves made given (PartlyGiven made bytes)) line c.in_default-give_all.ensures.any_moment)
    c.in_default-give_all.field-0
    (subst (λ (bytes : List ℕ). GivesAll made bytes given (Err c.in_default-give_all.field-0)) line c.in_default-give_all.ensures.gives)

pub returns : goal.returns
returns g c =
    let line : c.as_bytes.result.now ≡ created_text c.args.blocks = c.as_bytes.ensures.value ∙ c.as_str.ensures.value ∙ c.created_line.ensures in
    let made = g.H.Disk.shown c.format.new.disk in
    let given = g.H.Disk.shown c.give_all.new.host in
    told c.args.blocks _ made given c.in-Ok.ensures.writes c.in-Ok.ensures.stands c.in-Ok.ensures.settled c.in-Ok.ensures.any_moment
    (subst (λ (bytes : List ℕ). Leaves made given (PartlyGiven made bytes)) line c.in-Ok-give_all.ensures.any_moment)
    (subst (λ (bytes : List ℕ). GivesAll made bytes given (Ok tt)) line c.in-Ok-give_all.ensures.gives)
