use Rattle.std.proofs.Common.{◌≡◌, true, rules, Err, Option, None, refl, sym, ap, subst, ◌∙◌}
use Rattle.std.specs.Prelude.{IfSome, IsSome}
use Rattle.fv_volume.specs.declared.state.VolumeState.{VolumeState}
use Rattle.fv_volume.specs.Asking.{table_named}
use Rattle.fv_volume.specs.States.{state_at}
use Rattle.fv_aggregate.specs.Answers.{answer}
use Rattle.fv_aggregate.specs.Commands.{finds_file, snapshot_asked}
use Rattle.fv_aggregate.proofs.Answered.{fails}
use Rattle.fv_aggregate.proofs.Asked.{asked_read}
use Rattle.fv_aggregate.proofs.Lost.{active_there, finds_active, no_refusal, none_lost}
use Rattle.fv_aggregate.proofs.Numbered.{counts_numbered, known_numbered, look_numbered, look_unnumbered}
use Rattle.fv_aggregate.proofs.session.Session.look_at.Goals as goal

pub returns-in_err-read_numbers-clause-looks : goal.returns-in_err-read_numbers-clause-looks
returns-in_err-read_numbers-clause-looks g c =
    look_unnumbered c.args.slot (g.D.Disk.shown c.args.disk.now) c.args.self.now c.args.command.now (g.D.Disk.shown c.read_numbers.new.disk) c.read_numbers.new.self c.in_err-read_numbers.field-0.0
    c.in_err-read_numbers.ensures.numbered (let of = c.requires.asked in let finds : finds_file c.args.command.now ≡ true = sym c.finds.ensures ∙ c.if-not-finds.false in finds_active c.args.command.now of.state.name of.asks finds) (answer c.args.into.now c.from_residual.result) (fails c.args.into.now c.from_residual.result c.in_err-read_numbers.field-0.0 (search rules))

pub ask-requires-2-clause-asked : goal.ask-requires-2-clause-asked
ask-requires-2-clause-asked g c =
    asked_read (g.D.Disk.shown c.args.disk.now) c.args.self.now (g.D.Disk.shown c.read_numbers.new.disk) c.read_numbers.new.self c.args.slot c.args.command.now c.in_ok-read_numbers.ensures.numbered.read c.requires.asked

pub returns-clause-looks : goal.returns-clause-looks
returns-clause-looks g c =
    let d = g.D.Disk.shown c.args.disk.now in let e = g.D.Disk.shown c.read_numbers.new.disk in let of = c.requires.asked in
    look_numbered d c.args.self.now c.args.command.now c.requires.fresh c.args.slot (subst IsSome (sym of.there) refl) e c.read_numbers.new.self tt c.in_ok-read_numbers.ensures.numbered
    (g.D.Disk.shown c.ask-2.new.disk) c.ask-2.new.self (answer c.ask-2.new.into c.ask-2.result) c.ask-2.ensures.looks

pub returns-clause-known : goal.returns-clause-known
returns-clause-known g c =
    let d = g.D.Disk.shown c.args.disk.now in let e = g.D.Disk.shown c.read_numbers.new.disk in let of = c.requires.asked in
    known_numbered d c.args.self.now c.args.command.now c.requires.fresh c.args.slot (subst IsSome (sym of.there) refl) e c.read_numbers.new.self tt c.in_ok-read_numbers.ensures.numbered
    (g.D.Disk.shown c.ask-2.new.disk) c.ask-2.new.self (answer c.ask-2.new.into c.ask-2.result) c.args.steps.now c.ask-2.new.steps c.ask-2.ensures.known

pub returns-clause-counts : goal.returns-clause-counts
returns-clause-counts g c =
    let d = g.D.Disk.shown c.args.disk.now in let e = g.D.Disk.shown c.read_numbers.new.disk in let of = c.requires.asked in
    let finds : finds_file c.args.command.now ≡ true = sym c.finds.ensures ∙ c.if-not-finds.false in
    counts_numbered d c.args.self.now c.args.command.now c.requires.fresh c.args.slot (subst IsSome (sym of.there) refl) e c.read_numbers.new.self tt c.in_ok-read_numbers.ensures.numbered
    (g.D.Disk.shown c.ask-2.new.disk) c.ask-2.new.self (answer c.ask-2.new.into c.ask-2.result) (finds_active c.args.command.now of.state.name of.asks finds) c.args.steps.now c.ask-2.new.steps c.ask-2.ensures.counts

-- a table whose files are found by their numbers is there
pub returns-in_err-read_numbers-clause-lost : goal.returns-in_err-read_numbers-clause-lost
returns-in_err-read_numbers-clause-lost g c = λ near.
    let of = c.requires.asked in
    let finds : finds_file c.args.command.now ≡ true = sym c.finds.ensures ∙ c.if-not-finds.false in
    none_lost (state_at c.args.self.now.volumes c.args.slot) c.args.command.now (finds_active c.args.command.now of.state.name of.asks finds) _

pub returns-clause-lost : goal.returns-clause-lost
returns-clause-lost g c = λ near.
    let of = c.requires.asked in
    let finds : finds_file c.args.command.now ≡ true = sym c.finds.ensures ∙ c.if-not-finds.false in
    none_lost (state_at c.args.self.now.volumes c.args.slot) c.args.command.now (finds_active c.args.command.now of.state.name of.asks finds) _

pub returns-in_err-read_numbers-clause-only : goal.returns-in_err-read_numbers-clause-only
returns-in_err-read_numbers-clause-only g c = λ said.
    let failed : c.from_residual.result ≡ Err c.in_err-read_numbers.field-0.0 = search rules in
    no_refusal _ c.in_err-read_numbers.field-0.0 (answer c.args.into.now c.from_residual.result) (ap (answer c.args.into.now) failed) said

pub returns-clause-only : goal.returns-clause-only
returns-clause-only g c = λ said.
    let of = c.requires.asked in
    let finds : finds_file c.args.command.now ≡ true = sym c.finds.ensures ∙ c.if-not-finds.false in
    let after = asked_read (g.D.Disk.shown c.args.disk.now) c.args.self.now (g.D.Disk.shown c.read_numbers.new.disk) c.read_numbers.new.self c.args.slot c.args.command.now c.in_ok-read_numbers.ensures.numbered.read of in
    let none = subst (λ (o : Option VolumeState). IfSome o (λ x. table_named x (snapshot_asked c.args.command.now) ≡ None)) after.there (c.ask-2.ensures.only said) in
    active_there _ after.state c.args.command.now (finds_active c.args.command.now of.state.name of.asks finds) none
