use Rattle.std.proofs.Common.{◌≡◌, ◌-◌, ◌++◌, filter, List, ap, ap₂, ◌∙◌}
use Rattle.fv_delay.specs.declared.counts.Count.{Count}
use Rattle.fv_delay.specs.declared.regions.Region.{Region}
use Rattle.fv_delay.specs.Choice.{is_full, partial, regions_counted, total, while_short}
use Rattle.fv_delay.proofs.Taking.{whole_chosen}
use Rattle.fv_delay.proofs.choosing.choose_regions.Goals as goal

pub returns : goal.returns
returns c =
    let counts : List Count = c.args.counts.now in
    let full : c.take_full.new.regions ≡ regions_counted (filter is_full counts) =
    c.in_ok-left.ensures.regions ∙ ap (λ (row : List Region). row ++ regions_counted (filter is_full c.as_slice.result.now)) c.new-regions.ensures
    ∙ ap (λ (cs : List Count). regions_counted (filter is_full cs)) c.as_slice.ensures in
    let left : c.in_ok-left.left ≡ c.args.missing - total (filter is_full counts) =
    c.in_ok-left.ensures.left ∙ ap (λ (cs : List Count). c.args.missing - total (filter is_full cs)) c.as_slice.ensures in
    let rest : c.as_slice-3.result.now ≡ partial counts = c.as_slice-3.ensures.value ∙ c.in_ok-rest.ensures ∙ ap partial c.as_slice-2.ensures in
    c.in_ok-take_while_short.ensures
    ∙ ap₂ (λ (row : List Region) (cs : List Count). row ++ regions_counted (while_short 0 c.in_ok-left.left cs)) full rest
    ∙ whole_chosen counts c.args.missing c.in_ok-left.left left
