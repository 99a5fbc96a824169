use Rattle.std.proofs.Common.{◌≡◌, ◌*◌, ◌<◌, ℕ, Bool, List, true, false, get_or, length, sym, ap, ◌∙◌, arith}
use Rattle.fv_image.specs.Containers.{fan}
use Rattle.fv_container.specs.Loading.{delayed_in_region}
use Rattle.fv_delay.specs.Delay.{is_held}
use Rattle.fv_delay.proofs.Held.{active_held}
use Rattle.fv_delay.proofs.Parts.{none_behind, none_unmapped}
use Rattle.fv_delay.proofs.delayed.count_unmapped.Goals as goal

pub returns-then-region-region_count-clause-none : goal.returns-then-region-region_count-clause-none
returns-then-region-region_count-clause-none c = λ sure none.
    let within : fan * c.args.region < length c.args.container.now.map.entries = omega (arith, c.if-region-region_count.true, c.region_count.ensures, c.requires.entries) in
    let held : (v : ℕ) → get_or c.active.result.now v false ≡ true → is_held c.args.map.now v ≡ true =
    λ v on. active_held c.args.map.now c.active.ensures.valid v (ap (λ (l : List Bool). get_or l v false) (sym c.active.ensures.active) ∙ on) in
    none_unmapped c.args.map.now c.args.container.now.map c.active.result.now c.args.region held (sym (c.delayed.ensures (sure within)) ∙ none)

pub returns-then-region-region_count-clause-count : goal.returns-then-region-region_count-clause-count
returns-then-region-region_count-clause-count c = λ sure within.
    c.delayed.ensures (sure within) ∙ ap (λ (l : List Bool). delayed_in_region c.args.container.now.map l c.args.region) c.active.ensures.active

pub returns-else-region-region_count-clause-none : goal.returns-else-region-region_count-clause-none
returns-else-region-region_count-clause-none c = λ sure none.
    none_behind c.args.map.now c.args.container.now.map c.args.region (omega (arith, c.if-region-region_count.false, c.region_count.ensures, c.requires.entries))
