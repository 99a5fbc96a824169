use Rattle.std.proofs.Common.{refl, sym, ap, ◌∙◌}
use Rattle.std.specs.Prelude.{◌||◌}
use Rattle.std.specs.BTreeSet as sets
use Rattle.std.specs.Ordering.{eq_by_cmp}
use Rattle.fv_walk.specs.Sights.{Sight}
use Rattle.fv_fourth_pass.specs.declared.tally.Mark.{Mark}
use Rattle.fv_fourth_pass.specs.Tallied.{mark_cmp}
use Rattle.fv_fourth_pass.proofs.Gaining.{tally_kept, tally_left}
use Rattle.fv_fourth_pass.proofs.tally.TallyVisitor.see.Goals as goal

pub returns-in_ok-keep : goal.returns-in_ok-keep
returns-in_ok-keep c =
    let s : Sight = record { visit = c.args.visit.now; at = c.args._at; below = c.args._below.now } in
    tally_kept c.args.self.now _ s (sym c.counts.ensures ∙ c.if-counts.true) refl refl (λ k. c.in_ok-keep.ensures k ∙ ap (λ (m : Mark). sets.contains mark_cmp c.args.self.now.marks k || eq_by_cmp mark_cmp k m) c.mark_of.ensures)

pub returns-else-counts : goal.returns-else-counts
returns-else-counts c =
    let s : Sight = record { visit = c.args.visit.now; at = c.args._at; below = c.args._below.now } in
    tally_left c.args.self.now s (sym c.counts.ensures ∙ c.if-counts.false)
