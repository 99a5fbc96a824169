use Rattle.std.proofs.Common.{◌≡◌, Ok, rules, refl, ap, sym, subst, ◌∙◌, option_copied}
use Rattle.std.specs.Prelude.{ℕ}
use Rattle.fv_model.specs.Numbers.{is_index}
use Rattle.fv_model.specs.declared.answers.Reply.{Reply}
use Rattle.fv_model.specs.declared.answers.Reply.TheVariants.{Content, Number, Names}
use Rattle.fv_model.specs.declared.commands.Command.TheVariants.{Get, Len, Ls, Probe}
use Rattle.fv_volumes.proofs.KnownSteps.{known_get}
use Rattle.fv_aggregate.specs.Commands.{has_range, snapshot_asked}
use Rattle.fv_aggregate.specs.Looking.{AsksState}
use Rattle.fv_aggregate.proofs.Asked.{of_get, of_len, of_ls, of_probe, probe_allows, state_answered, state_failed, state_refused, state_told}
use Rattle.fv_aggregate.proofs.Lost.{active_there, lost_alone, lost_within, none_answered, refused_lost, same_err}
use Rattle.fv_aggregate.proofs.Missing.{not_get}
use Rattle.fv_aggregate.proofs.reading.ask_state.Goals as goal

pub returns-in-Ok-clause-asks : goal.returns-in-Ok-clause-asks
returns-in-Ok-clause-asks g c =
    let d = g.D.Disk.shown c.args.disk.now in
    let x = c.args.state.now in
    let snapshot = option_copied c.as_ref.result in
    let of = of_get c.args.command.now x.name c.in-Get.volume snapshot c.in-Get.file c.in-Get.index (c.in-Get.is ∙ ap (λ s. Get c.in-Get.volume s c.in-Get.file c.in-Get.index) (sym c.as_ref.ensures.value)) c.requires.asks in
    state_answered d (g.D.Disk.shown c.get.new.disk) c.args.pool.now c.get.new.pool x c.get.ensures.reads (Get x.name snapshot c.in-Get.file c.in-Get.index) c.args.command.now of c.args.steps.now c.get.new.steps
    (λ _. Content c.get.new.into) c.in-Ok.field-0 (λ m. refl) tt c.in-Ok.ensures.asked c.in-Ok.ensures.steps c.in-Ok.ensures.cause
    (λ all is well m there accepted. known_get d c.args.pool.now x all is well m there snapshot c.in-Get.file c.in-Get.index c.args.steps.now c.get.new.steps accepted (c.in-Ok.ensures.steps is))

pub returns-in-Err-clause-asks : goal.returns-in-Err-clause-asks
returns-in-Err-clause-asks g c =
    let x = c.args.state.now in
    let snapshot = option_copied c.as_ref.result in
    let of = of_get c.args.command.now x.name c.in-Get.volume snapshot c.in-Get.file c.in-Get.index (c.in-Get.is ∙ ap (λ s. Get c.in-Get.volume s c.in-Get.file c.in-Get.index) (sym c.as_ref.ensures.value)) c.requires.asks in
    state_failed (g.D.Disk.shown c.args.disk.now) (g.D.Disk.shown c.get.new.disk) c.args.pool.now c.get.new.pool x c.get.ensures.reads (Get x.name snapshot c.in-Get.file c.in-Get.index) c.args.command.now of c.args.steps.now c.get.new.steps
    (Unit {0}) (λ _. Content c.get.new.into) c.in-Err.fault c.in-Err.ensures.asked c.in-Err.ensures.cause c.in-Err.ensures.unmoved

pub returns-in-Ok-length-clause-asks : goal.returns-in-Ok-length-clause-asks
returns-in-Ok-length-clause-asks g c =
    let x = c.args.state.now in
    let snapshot = option_copied c.as_ref-in-Len.result in
    let of = of_len c.args.command.now x.name c.in-Len.volume snapshot c.in-Len.file (c.in-Len.is ∙ ap (λ s. Len c.in-Len.volume s c.in-Len.file) (sym c.as_ref-in-Len.ensures.value)) c.requires.asks in
    let same : c.from.result ≡ c.in-Ok-length.length = search rules in
    subst (λ (z : Reply). AsksState (g.D.Disk.shown c.args.disk.now) c.args.pool.now x c.args.command.now c.args.steps.now (g.D.Disk.shown c.length.new.disk) c.length.new.pool c.args.steps.now (Ok z)) (sym (c.count.ensures ∙ ap Number same))
    (state_answered (g.D.Disk.shown c.args.disk.now) (g.D.Disk.shown c.length.new.disk) c.args.pool.now c.length.new.pool x c.length.ensures.reads (Len x.name snapshot c.in-Len.file) c.args.command.now of c.args.steps.now c.args.steps.now
    (λ n. Number n) c.in-Ok-length.length (λ m. refl) tt c.in-Ok-length.ensures.asked (λ is. tt) c.in-Ok-length.ensures.cause (λ all is well m there accepted. refl))

pub returns-in-Err-length-clause-asks : goal.returns-in-Err-length-clause-asks
returns-in-Err-length-clause-asks g c =
    let x = c.args.state.now in
    let snapshot = option_copied c.as_ref-in-Len.result in
    let of = of_len c.args.command.now x.name c.in-Len.volume snapshot c.in-Len.file (c.in-Len.is ∙ ap (λ s. Len c.in-Len.volume s c.in-Len.file) (sym c.as_ref-in-Len.ensures.value)) c.requires.asks in
    state_failed (g.D.Disk.shown c.args.disk.now) (g.D.Disk.shown c.length.new.disk) c.args.pool.now c.length.new.pool x c.length.ensures.reads (Len x.name snapshot c.in-Len.file) c.args.command.now of c.args.steps.now c.args.steps.now
    ℕ (λ n. Number n) c.in-Err-length.fault c.in-Err-length.ensures.asked c.in-Err-length.ensures.cause (λ r is. refl)

pub returns-in-Ok-list-clause-asks : goal.returns-in-Ok-list-clause-asks
returns-in-Ok-list-clause-asks g c =
    let x = c.args.state.now in let snapshot = option_copied c.as_ref-in-Ls.result in
    let of = of_ls c.args.command.now x.name c.in-Ls.volume snapshot (c.in-Ls.is ∙ ap (λ s. Ls c.in-Ls.volume s) (sym c.as_ref-in-Ls.ensures.value)) c.requires.asks in
    subst (λ (z : Reply). AsksState (g.D.Disk.shown c.args.disk.now) c.args.pool.now x c.args.command.now c.args.steps.now (g.D.Disk.shown c.list.new.disk) c.list.new.pool c.args.steps.now (Ok z)) (sym c.list-in-Ok-list.ensures)
    (state_answered (g.D.Disk.shown c.args.disk.now) (g.D.Disk.shown c.list.new.disk) c.args.pool.now c.list.new.pool x c.list.ensures.reads (Ls x.name snapshot) c.args.command.now of c.args.steps.now c.args.steps.now
    (λ names. Names names) c.in-Ok-list.names (λ m. refl) tt c.in-Ok-list.ensures.asked (λ is. tt) c.in-Ok-list.ensures.cause (λ all is well m there accepted. refl))

pub returns-in-Err-list-clause-asks : goal.returns-in-Err-list-clause-asks
returns-in-Err-list-clause-asks g c =
    let x = c.args.state.now in let snapshot = option_copied c.as_ref-in-Ls.result in
    let of = of_ls c.args.command.now x.name c.in-Ls.volume snapshot (c.in-Ls.is ∙ ap (λ s. Ls c.in-Ls.volume s) (sym c.as_ref-in-Ls.ensures.value)) c.requires.asks in
    state_failed (g.D.Disk.shown c.args.disk.now) (g.D.Disk.shown c.list.new.disk) c.args.pool.now c.list.new.pool x c.list.ensures.reads (Ls x.name snapshot) c.args.command.now of c.args.steps.now c.args.steps.now
    _ (λ names. Names names) c.in-Err-list.fault c.in-Err-list.ensures.asked c.in-Err-list.ensures.cause (λ r is. refl)

pub returns-in-Ok-probe-clause-asks : goal.returns-in-Ok-probe-clause-asks
returns-in-Ok-probe-clause-asks g c =
    let d = g.D.Disk.shown c.args.disk.now in let x = c.args.state.now in
    let f = c.in-Probe.file in let i = c.in-Probe.index in let n = c.in-Ok-probe.pointers in
    let of = of_probe c.args.command.now x.name c.in-Probe.volume f i c.in-Probe.is c.requires.asks in
    let same : c.from-in-Ok-probe.result ≡ n = search rules in
    subst (λ (z : Reply). AsksState d c.args.pool.now x c.args.command.now c.args.steps.now (g.D.Disk.shown c.probe.new.disk) c.probe.new.pool c.args.steps.now (Ok z)) (sym (c.count-in-Ok-probe.ensures ∙ ap Number same))
    (state_told d (g.D.Disk.shown c.probe.new.disk) c.args.pool.now c.probe.new.pool x c.probe.ensures.reads (Probe x.name f i) c.args.command.now of c.args.steps.now c.args.steps.now (Number n) c.in-Ok-probe.ensures.agrees
    (λ is well m there. probe_allows d c.args.pool.now x is well m there f i n (c.in-Ok-probe.ensures.agrees is m there) c.in-Ok-probe.ensures.few (c.in-Ok-probe.ensures.path is))
    c.in-Ok-probe.ensures.path (λ is. tt) c.in-Ok-probe.ensures.cause (λ all is well m there accepted. refl))

pub returns-in-Err-probe-clause-asks : goal.returns-in-Err-probe-clause-asks
returns-in-Err-probe-clause-asks g c =
    let x = c.args.state.now in
    let of = of_probe c.args.command.now x.name c.in-Probe.volume c.in-Probe.file c.in-Probe.index c.in-Probe.is c.requires.asks in
    state_refused (g.D.Disk.shown c.args.disk.now) (g.D.Disk.shown c.probe.new.disk) c.args.pool.now c.probe.new.pool x c.probe.ensures.reads (Probe x.name c.in-Probe.file c.in-Probe.index) c.args.command.now of c.args.steps.now c.args.steps.now
    ℕ c.in-Err-probe.fault c.in-Err-probe.ensures.agrees c.in-Err-probe.ensures.cause (λ r is. refl)

-- the active table is there
pub returns-in-Ok-probe-clause-lost : goal.returns-in-Ok-probe-clause-lost
returns-in-Ok-probe-clause-lost g c = λ near none. active_there _ c.args.state.now c.args.command.now (ap snapshot_asked c.in-Probe.is) none

pub returns-in-Err-probe-clause-lost : goal.returns-in-Err-probe-clause-lost
returns-in-Err-probe-clause-lost g c = λ near none. active_there _ c.args.state.now c.args.command.now (ap snapshot_asked c.in-Probe.is) none

pub returns-in-Err-probe-clause-only : goal.returns-in-Err-probe-clause-only
returns-in-Err-probe-clause-only g c = λ answer. absurd (c.in-Err-probe.ensures.there (same_err Reply c.in-Err-probe.fault _ answer))

pub returns-in-Ok-clause-steps : goal.returns-in-Ok-clause-steps
returns-in-Ok-clause-steps g c = λ none. absurd (not_get c.args.command.now c.in-Get.volume (option_copied c.as_ref.result) c.in-Get.file c.in-Get.index (c.in-Get.is ∙ ap (λ s. Get c.in-Get.volume s c.in-Get.file c.in-Get.index) (sym c.as_ref.ensures.value)) none)

pub returns-in-Err-clause-steps : goal.returns-in-Err-clause-steps
returns-in-Err-clause-steps g c = λ none. absurd (not_get c.args.command.now c.in-Get.volume (option_copied c.as_ref.result) c.in-Get.file c.in-Get.index (c.in-Get.is ∙ ap (λ s. Get c.in-Get.volume s c.in-Get.file c.in-Get.index) (sym c.as_ref.ensures.value)) none)

pub returns-in-Ok-clause-lost : goal.returns-in-Ok-clause-lost
returns-in-Ok-clause-lost g c = λ near none.
    let snapshot = option_copied c.as_ref.result in
    let is = c.in-Get.is ∙ ap (λ s. Get c.in-Get.volume s c.in-Get.file c.in-Get.index) (sym c.as_ref.ensures.value) in
    none_answered _ c.args.state.now c.args.disk.now c.get.new.disk c.args.pool.now c.get.new.pool c.args.command.now snapshot (ap snapshot_asked is) none _ _ _ (c.in-Ok.ensures.snapshot (sym (ap has_range is) ∙ near))

pub returns-in-Err-clause-lost : goal.returns-in-Err-clause-lost
returns-in-Err-clause-lost g c = λ near none.
    let snapshot = option_copied c.as_ref.result in
    let is = c.in-Get.is ∙ ap (λ s. Get c.in-Get.volume s c.in-Get.file c.in-Get.index) (sym c.as_ref.ensures.value) in
    refused_lost _ c.args.state.now c.args.disk.now c.get.new.disk c.args.pool.now c.get.new.pool c.args.command.now snapshot (ap snapshot_asked is) none _ _ (c.in-Err.ensures.snapshot (sym (ap has_range is) ∙ near))

pub returns-in-Ok-length-clause-lost : goal.returns-in-Ok-length-clause-lost
returns-in-Ok-length-clause-lost g c = λ near none.
    let snapshot = option_copied c.as_ref-in-Len.result in
    let is = c.in-Len.is ∙ ap (λ s. Len c.in-Len.volume s c.in-Len.file) (sym c.as_ref-in-Len.ensures.value) in
    none_answered _ c.args.state.now c.args.disk.now c.length.new.disk c.args.pool.now c.length.new.pool c.args.command.now snapshot (ap snapshot_asked is) none _ _ _ c.in-Ok-length.ensures.snapshot

pub returns-in-Err-length-clause-lost : goal.returns-in-Err-length-clause-lost
returns-in-Err-length-clause-lost g c = λ near none.
    let snapshot = option_copied c.as_ref-in-Len.result in
    let is = c.in-Len.is ∙ ap (λ s. Len c.in-Len.volume s c.in-Len.file) (sym c.as_ref-in-Len.ensures.value) in
    refused_lost _ c.args.state.now c.args.disk.now c.length.new.disk c.args.pool.now c.length.new.pool c.args.command.now snapshot (ap snapshot_asked is) none _ _ c.in-Err-length.ensures.snapshot

pub returns-in-Ok-list-clause-lost : goal.returns-in-Ok-list-clause-lost
returns-in-Ok-list-clause-lost g c = λ near none.
    let snapshot = option_copied c.as_ref-in-Ls.result in
    let is = c.in-Ls.is ∙ ap (λ s. Ls c.in-Ls.volume s) (sym c.as_ref-in-Ls.ensures.value) in
    none_answered _ c.args.state.now c.args.disk.now c.list.new.disk c.args.pool.now c.list.new.pool c.args.command.now snapshot (ap snapshot_asked is) none _ _ _ c.in-Ok-list.ensures.snapshot

pub returns-in-Err-list-clause-lost : goal.returns-in-Err-list-clause-lost
returns-in-Err-list-clause-lost g c = λ near none.
    let snapshot = option_copied c.as_ref-in-Ls.result in
    let is = c.in-Ls.is ∙ ap (λ s. Ls c.in-Ls.volume s) (sym c.as_ref-in-Ls.ensures.value) in
    refused_lost _ c.args.state.now c.args.disk.now c.list.new.disk c.args.pool.now c.list.new.pool c.args.command.now snapshot (ap snapshot_asked is) none _ _ c.in-Err-list.ensures.snapshot

pub returns-in-Err-clause-only : goal.returns-in-Err-clause-only
returns-in-Err-clause-only g c = λ answer.
    let snapshot = option_copied c.as_ref.result in
    let is = c.in-Get.is ∙ ap (λ s. Get c.in-Get.volume s c.in-Get.file c.in-Get.index) (sym c.as_ref.ensures.value) in
    lost_within _ c.args.state.now c.args.disk.now c.get.new.disk c.args.pool.now c.get.new.pool c.args.command.now snapshot (ap snapshot_asked is) _ c.in-Err.fault answer (is_index c.in-Get.index) c.in-Err.ensures.range c.in-Err.ensures.snapshot

pub returns-in-Err-length-clause-only : goal.returns-in-Err-length-clause-only
returns-in-Err-length-clause-only g c = λ answer.
    let snapshot = option_copied c.as_ref-in-Len.result in
    let is = c.in-Len.is ∙ ap (λ s. Len c.in-Len.volume s c.in-Len.file) (sym c.as_ref-in-Len.ensures.value) in
    lost_alone _ c.args.state.now c.args.disk.now c.length.new.disk c.args.pool.now c.length.new.pool c.args.command.now snapshot (ap snapshot_asked is) _ c.in-Err-length.fault answer c.in-Err-length.ensures.snapshot

pub returns-in-Err-list-clause-only : goal.returns-in-Err-list-clause-only
returns-in-Err-list-clause-only g c = λ answer.
    let snapshot = option_copied c.as_ref-in-Ls.result in
    let is = c.in-Ls.is ∙ ap (λ s. Ls c.in-Ls.volume s) (sym c.as_ref-in-Ls.ensures.value) in
    lost_alone _ c.args.state.now c.args.disk.now c.list.new.disk c.args.pool.now c.list.new.pool c.args.command.now snapshot (ap snapshot_asked is) _ c.in-Err-list.fault answer c.in-Err-list.ensures.snapshot
