use Rattle.std.proofs.Common.{rules, ◌≡◌, ℕ, IfErr, Err, true, sym, subst}
use Rattle.fv_model.specs.Numbers.{is_size}
use Rattle.fv_volume.specs.Slots.{NoneHasName}
use Rattle.fv_volumes.specs.Creating.{FindsPlace, RefusesWanted}
use Rattle.fv_volumes.specs.declared.admit.Wanted.{Wanted}
use Rattle.fv_clone.proofs.Asked.{home_of, no_base}
use Rattle.fv_clone.proofs.Refused.{inside_by, named_by, source_by}
use Rattle.fv_mirror.specs.Admitting.{Refuses, wanted_of}
use Rattle.fv_mirror.proofs.Refused.{admits_by, refused_by}
use Rattle.fv_mirror.proofs.admitting.admit.Goals as goal

pub returns-in_default-base_at-clause-refused : goal.returns-in_default-base_at-clause-refused
returns-in_default-base_at-clause-refused c =
    let sized : is_size c.args.size ≡ true = search rules in (
      sized,
      (
        home_of c.args.volumes.now c.in-Some.home c.args.source.now c.args.snapshot.now c.in-Some.ensures.some.0 c.in-Some.ensures.some.1 c.in-Some-get.state.now (sym c.in-Some-get.ensures),
        no_base c.in-Some-get.state.now c.args.snapshot.now c.in_default-base_at.ensures,
      ),
    )

pub returns-then-is_some-clause-refused : goal.returns-then-is_some-clause-refused
returns-then-is_some-clause-refused c =
    let sized : is_size c.args.size ≡ true = search rules in (
      sized,
      (
        source_by c.args.volumes.now c.in-Some.home c.args.source.now c.args.snapshot.now c.in-Some.ensures.some.0 c.in-Some.ensures.some.1 c.in-Some-get.state.now (sym c.in-Some-get.ensures) c.in-Some-base_at.base c.in-Some-base_at.ensures,
        search rules,
      ),
    )

pub count_in-count-requires : goal.count_in-count-requires
count_in-count-requires c = inside_by c.args.volumes.now c.in-Some.home c.args.source.now c.args.snapshot.now c.in-Some.ensures.some.0 c.in-Some.ensures.some.1 c.in-Some-get.state.now (sym c.in-Some-get.ensures) c.in-Some-base_at.base c.in-Some-base_at.ensures c.requires.each

pub returns-in_err-place-clause-refused : goal.returns-in_err-place-clause-refused
returns-in_err-place-clause-refused c =
    let sized : is_size c.args.size ≡ true = search rules in
    let none : NoneHasName c.args.volumes.now c.args.name.now = search rules in
    let failed : c.from_residual.result ≡ Err c.in_err-place.field-0.0 = search rules in
    subst (λ r. IfErr r (Refuses c.args.volumes.now c.args.blocks c.args.source.now c.args.snapshot.now c.args.name.now c.args.size c.args.kind)) (sym failed)
    (refused_by c.args.volumes.now c.in-Some.home c.args.source.now c.args.snapshot.now c.in-Some.ensures.some.0 c.in-Some.ensures.some.1 c.in-Some-get.state.now (sym c.in-Some-get.ensures) c.in-Some-base_at.base c.in-Some-base_at.ensures
    c.args.blocks c.args.name.now c.args.size c.args.kind sized none c.count_in-count.ensures.whole c.in_err-place.field-0.0 (subst (λ (w : Wanted). RefusesWanted c.args.volumes.now c.args.blocks w c.in_err-place.field-0.0) (λ i. record { size = c.args.size; kind = c.args.kind; ids = 0; at_least = c.in-Some-get.state.now.span; charge = c.count_in-count.ensures.count i; need = 0 }) c.in_err-place.ensures.refused))

pub returns-clause-admitted : goal.returns-clause-admitted
returns-clause-admitted c =
    let sized : is_size c.args.size ≡ true = search rules in
    let none : NoneHasName c.args.volumes.now c.args.name.now = search rules in
    let found : FindsPlace c.args.volumes.now c.args.blocks (wanted_of c.in-Some-get.state.now c.in-Some-base_at.base.slot c.args.size c.args.kind) c.slot.result c.span.result =
    subst (λ (w : Wanted). FindsPlace c.args.volumes.now c.args.blocks w c.slot.result c.span.result) (λ i. record { size = c.args.size; kind = c.args.kind; ids = 0; at_least = c.in-Some-get.state.now.span; charge = c.count_in-count.ensures.count i; need = 0 })
    (subst (λ (k : ℕ). FindsPlace c.args.volumes.now c.args.blocks (record { size = c.args.size; kind = c.args.kind; ids = 0; at_least = c.in-Some-get.state.now.span; charge = c.count_in-count.result; need = 0 }) c.slot.result k) (sym c.span.ensures)
    (subst (λ (k : ℕ). FindsPlace c.args.volumes.now c.args.blocks (record { size = c.args.size; kind = c.args.kind; ids = 0; at_least = c.in-Some-get.state.now.span; charge = c.count_in-count.result; need = 0 }) k c.in_ok-place.place.span) (sym c.slot.ensures) c.in_ok-place.ensures.found)) in
    admits_by c.args.volumes.now c.in-Some.home c.args.source.now c.args.snapshot.now c.in-Some.ensures.some.0 c.in-Some.ensures.some.1 c.in-Some-get.state.now (sym c.in-Some-get.ensures) c.in-Some-base_at.base c.in-Some-base_at.ensures
    c.args.blocks c.args.name.now c.args.size c.args.kind sized none c.count_in-count.ensures.whole c.slot.result c.span.result c.count_in-count.result c.count_in-count.ensures.count found

pub returns-clause-named : goal.returns-clause-named
returns-clause-named c = named_by c.args.volumes.now c.in-Some.home c.args.source.now c.args.snapshot.now c.in-Some.ensures.some.0 c.in-Some.ensures.some.1 c.in-Some-get.state.now (sym c.in-Some-get.ensures) c.in-Some-base_at.base c.in-Some-base_at.ensures
