use Rattle.std.proofs.Common.{◌∙◌, ◌≤◌, ◌||◌, Bool, false, length, get_or, sym, ap, subst}
use Rattle.fv_image.specs.Containers.{level_width}
use Rattle.fv_image.specs.Views.{entry_count}
use Rattle.fv_container.specs.Mapped.{Mapped}
use Rattle.fv_volumes.proofs.Staying.{only_itself}
use Rattle.fv_cp.proofs.Prepared.{keeps_itself}
use Rattle.fv_cp.proofs.preparing.mark_due.Goals as goal

pub returns-then-not-due-clause-kept : goal.returns-then-not-due-clause-kept
returns-then-not-due-clause-kept g c = keeps_itself (g.D.Disk.shown c.args.disk.now) c.args.container.now

pub returns-then-not-due-clause-only_reads : goal.returns-then-not-due-clause-only_reads
returns-then-not-due-clause-only_reads g c = only_itself (g.D.Disk.shown c.args.disk.now)

pub mark_taken-requires-clause-entries : goal.mark_taken-requires-clause-entries
mark_taken-requires-clause-entries g c = ap (λ (m : Mapped). length m.entries) c.in_ok-learn_all.ensures.kept.map ∙ c.requires.entries ∙ ap entry_count (sym c.requires.state.map)

pub mark_taken-requires-clause-long : goal.mark_taken-requires-clause-long
mark_taken-requires-clause-long g c = subst (λ (m : Mapped). level_width (length m.entries) 0 ≤ length c.args.regions.now) (sym c.in_ok-learn_all.ensures.kept.map) c.requires.long

pub returns-clause-marked : goal.returns-clause-marked
returns-clause-marked g c = λ due sure k inside taken.
    c.mark_taken.ensures.marked sure k inside ∙ ap (λ (b : Bool). b || get_or c.args.regions.now k false) taken

pub returns-clause-others : goal.returns-clause-others
returns-clause-others g c = λ k past. c.mark_taken.ensures.others k (subst (λ (m : Mapped). level_width (length m.entries) 0 ≤ k) (sym c.in_ok-learn_all.ensures.kept.map) past)
