use Rattle.std.proofs.Common.{◌≡◌, true, Err, Ok, length, rules, sym, ap, subst, ◌∙◌}
use Rattle.fv_model.specs.declared.answers.Reply.{Reply}
use Rattle.fv_model.specs.declared.answers.Reply.TheVariants.{Done}
use Rattle.fv_volume.specs.States.{state_at}
use Rattle.fv_volume.specs.Slots.{HasName, NoneHasName}
use Rattle.fv_aggregate.specs.declared.session.Session.{Session}
use Rattle.fv_aggregate.specs.Answers.{answer}
use Rattle.fv_aggregate.specs.Cleaning.{Cleans}
use Rattle.fv_aggregate.specs.Working.{is_unclean}
use Rattle.fv_aggregate.proofs.Answered.{fails}
use Rattle.fv_aggregate.proofs.CleanedVolume.{cleans_failed, cleans_known, cleans_learned, cleans_missing}
use Rattle.fv_aggregate.proofs.session.Session.clean_volume.Goals.{then-is_unclean+in_ok-learn, else-is_unclean}
use Rattle.fv_aggregate.proofs.session.Session.clean_volume.Goals as goal

pub returns-in_default : goal.returns-in_default
returns-in_default g c =
    let d = g.D.Disk.shown c.args.disk.now in let s = c.args.self.now in
    let long : length s.volumes ≡ 64 = ap (λ (k : Session). length k.volumes) (sym c.self.view_is) ∙ c.find.ensures.long in
    subst (λ (r : Reply). Cleans c.args.volume.now d c.args.disk.now s d c.args.disk.now s (Ok r)) (sym c.refuse.ensures)
    (cleans_missing c.args.volume.now d (g.met.D.Disk.laws c.args.disk.now) c.args.disk.now s long c.requires.fresh c.requires.stands
    (subst (λ (k : Session). NoneHasName k.volumes c.args.volume.now) c.self.view_is c.in_default.ensures.none))

pub returns-in_err-learn : goal.returns-in_err-learn
returns-in_err-learn g c =
    let d = g.D.Disk.shown c.args.disk.now in let s = c.args.self.now in
    let e = g.D.Disk.shown c.learn.new.disk in
    let long : length s.volumes ≡ 64 = ap (λ (k : Session). length k.volumes) (sym c.self.view_is) ∙ c.find.ensures.long in
    let has : HasName s.volumes c.in-Some.slot c.args.volume.now = subst (λ (k : Session). HasName k.volumes c.in-Some.slot c.args.volume.now) c.self.view_is c.in-Some.ensures.some.1 in
    let unclean : is_unclean (state_at s.volumes c.in-Some.slot) ≡ true =
    ap (λ (k : Session). is_unclean (state_at k.volumes c.in-Some.slot)) (sym c.self.view_is) ∙ sym c.is_unclean.ensures ∙ c.if-is_unclean.true in
    let f = c.in_err-learn.field-0.0 in
    let failed : answer c.args.into.now c.from_residual.result ≡ Err f = fails c.args.into.now c.from_residual.result f (search rules) in
    subst (Cleans c.args.volume.now d c.args.disk.now s e c.learn.new.disk c.learn.new.self) (sym failed)
    (cleans_failed c.args.volume.now d (g.met.D.Disk.laws c.args.disk.now) c.args.disk.now s long c.requires.fresh c.requires.stands c.in-Some.slot c.in-Some.ensures.some.0 has unclean e c.learn.new.disk c.learn.new.self f
    (c.in_err-learn.ensures c.args.volume.now has))

pub returns : goal.returns
returns g c =
    let d = g.D.Disk.shown c.args.disk.now in let s = c.args.self.now in
    let long : length s.volumes ≡ 64 = ap (λ (k : Session). length k.volumes) (sym c.self.view_is) ∙ c.find.ensures.long in
    let has : HasName s.volumes c.in-Some.slot c.args.volume.now = subst (λ (k : Session). HasName k.volumes c.in-Some.slot c.args.volume.now) c.self.view_is c.in-Some.ensures.some.1 in
    let said : is_unclean (state_at s.volumes c.in-Some.slot) ≡ c.is_unclean.result = ap (λ (k : Session). is_unclean (state_at k.volumes c.in-Some.slot)) (sym c.self.view_is) ∙ sym c.is_unclean.ensures in
    let left_by : (e : g.row.D.Denot) (n : Session) → c.if-is_unclean.disk ≡ e → c.if-is_unclean.self ≡ n → Cleans c.args.volume.now d c.args.disk.now s (g.D.Disk.shown e) e n (Ok Done)
    → Cleans c.args.volume.now d c.args.disk.now s (g.D.Disk.shown c.if-is_unclean.disk) c.if-is_unclean.disk c.if-is_unclean.self (Ok Done) =
    λ e n same_disk same_self did. subst (λ (e : g.row.D.Denot). Cleans c.args.volume.now d c.args.disk.now s (g.D.Disk.shown e) e c.if-is_unclean.self (Ok Done)) (sym same_disk)
    (subst (λ (n : Session). Cleans c.args.volume.now d c.args.disk.now s (g.D.Disk.shown e) e n (Ok Done)) (sym same_self) did) in
    subst (λ (r : Reply). Cleans c.args.volume.now d c.args.disk.now s (g.D.Disk.shown c.if-is_unclean.disk) c.if-is_unclean.disk c.if-is_unclean.self (Ok r)) (sym c.done.ensures)
    (elim c.if-is_unclean.branch [
      | then-is_unclean+in_ok-learn w ↦ left_by w.learn.new.disk w.learn.new.self w.disk-is w.self-is (cleans_learned c.args.volume.now d (g.met.D.Disk.laws c.args.disk.now) c.args.disk.now s long c.requires.fresh c.requires.stands c.in-Some.slot c.in-Some.ensures.some.0 has (said ∙ w.if-is_unclean.true)
          (g.D.Disk.shown w.learn.new.disk) w.learn.new.disk w.learn.new.self (w.in_ok-learn.ensures c.args.volume.now has))
      | else-is_unclean w ↦ left_by c.args.disk.now s w.disk-is w.self-is (cleans_known c.args.volume.now d (g.met.D.Disk.laws c.args.disk.now) c.args.disk.now s long c.requires.fresh c.requires.stands c.in-Some.slot c.in-Some.ensures.some.0 has (said ∙ w.if-is_unclean.false))
    ])
