use Rattle.std.proofs.Common.{map, sym, ap, subst, ◌∙◌, arith}
use Rattle.fv_bits.specs.Members.{is_member}
use Rattle.fv_image.specs.Views.{Rooted, head_of}
use Rattle.fv_faults.specs.Met.{met}
use Rattle.fv_walk.specs.Sights.{sight_of}
use Rattle.fv_walk.specs.Visits.{rooted}
use Rattle.fv_fourth_pass.specs.Needing.{Needs}
use Rattle.fv_fourth_pass.proofs.Hinted.{hinted_added}
use Rattle.fv_fourth_pass.proofs.TableNeeds.{need_counted, unneeded}
use Rattle.fv_fourth_pass.proofs.tables.note_active.Goals as goal

pub returns-then-not-is_by_file-clause-adds : goal.returns-then-not-is_by_file-clause-adds
returns-then-not-is_by_file-clause-adds g c = λ fits clean.
    hinted_added (g.S.Source.volume c.args.source.now) c.args.place (rooted c.args.root.now.table) clean c.args.lines c.show_root.new.both.first.lines (c.in_ok-show_root.ensures.saw fits).adds

pub returns-then-not-is_by_file-clause-exact : goal.returns-then-not-is_by_file-clause-exact
returns-then-not-is_by_file-clause-exact g c = λ fits same is. unneeded _ _ c.args.label.now (sym c.is_by_file.ensures ∙ c.if-not-is_by_file.true)

pub returns-clause-adds : goal.returns-clause-adds
returns-clause-adds g c = λ fits clean.
    hinted_added (g.S.Source.volume c.args.source.now) c.args.place (rooted c.args.root.now.table) clean c.args.lines c.show_root-2.new.both.first.first.lines (c.in_ok-show_root-2.ensures.saw fits).0.adds

pub returns-clause-exact : goal.returns-clause-exact
unfolding head_of
returns-clause-exact g c = λ fits same is.
    let volume = g.S.Source.volume c.args.source.now in
    let told = need_counted volume c.args.label.now c.args.shared c.args.place c.new.result c.show_root-2.new.both.first.second is (sym c.is_by_file.ensures ∙ c.if-not-is_by_file.false)
    c.new.ensures.shared (c.new.ensures.top ∙ ap (λ (r : Rooted). is_member c.args.shared r.root.vvbn) same) c.new.ensures.zero.0 c.new.ensures.zero.1
    (subst (λ (r : Rooted). Needs c.new.result (map (sight_of volume) (met volume c.args.place r)) c.show_root-2.new.both.first.second) same (c.in_ok-show_root-2.ensures.saw fits).1) in
    omega (arith, told.0, told.1, c.needed-needed.ensures.exact)
