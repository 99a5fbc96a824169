use Rattle.std.proofs.Common.{◌≡◌, ℕ, ◌+◌, ◌<◌, length, get_or, refl, sym, ap, subst, ◌∙◌, arith}
use Rattle.std.specs.Prelude.{Vec, Option, None, map}
use Rattle.std.specs.declared.alloc.Global.{Global}
use Rattle.fv_faults.specs.Walks.{Ground}
use Rattle.fv_scan.specs.declared.item.Item.{Item}
use Rattle.fv_scan.specs.Judging.{judgement}
use Rattle.fv_walk.specs.declared.visit.Visit.{Visit}
use Rattle.fv_walk.specs.Gathering.{IsBlockOf, IsKindOf, OfRead}
use Rattle.fv_walk.proofs.Gatherings.{each_none, kept_as, kept_more, all_kept}
use Rattle.fv_walk.proofs.gather.gather.Goals.{then-wants+in_ok-read+in_ok-keep, else-wants+in_ok-pass_over}
use Rattle.fv_walk.proofs.gather.gather.Goals as goal

pub loop-visit-init : goal.loop-visit-init
loop-visit-init g c = record {
  reads = g.met.S.Source.reads_nothing c.args.source.now;
  cause = refl;
  kinds = each_none IsKindOf c.args.visits.now c.new-slots.result.items c.new-items.result.items c.new-slots.ensures.items;
  blocks = λ fits. each_none (IsBlockOf (g.S.Source.volume c.args.source.now)) c.args.visits.now c.new-slots.result.items c.new-items.result.items c.new-slots.ensures.items;
}

slots_of : {a b : Vec (Option ℕ) Global} → a ≡ b → a.items ≡ b.items
slots_of same = ap (λ (v : Vec (Option ℕ) Global). v.items) same

items_of : {a b : Vec Item Global} → a ≡ b → a.items ≡ b.items
items_of same = ap (λ (v : Vec Item Global). v.items) same

-- stands in where there is no pointer
abbrev blank : Visit
blank = record { owner = 0; levels = 0; level = 0; place = 0; pointer = record { vvbn = 0; pvbn = 0; stamp = 0 }; holder = record { vvbn = 0; pvbn = 0; stamp = 0 }; block = 0 }

pub loop-visit-preserved : goal.loop-visit-preserved
loop-visit-preserved g c =
    let volume : Ground = g.S.Source.volume c.args.source.now in
    let visits = c.args.visits.now in
    let k = c.loop-visit.visit-index in
    let slots = c.loop-visit.slots.items in
    let items = c.loop-visit.items.items in
    let low : k < length visits = omega (arith, c.loop-visit-test.true) in
    record {
      reads = elim c.if-wants.branch [
        | then-wants+in_ok-read+in_ok-keep w ↦
            subst (g.S.Source.reads c.args.source.now) (sym w.source-is)
            (g.met.S.Source.reads_on c.args.source.now c.loop-visit.source w.read_ahead.new.source c.loop-visit.invariant.reads w.in_ok-read.ensures.reads)
        | else-wants+in_ok-pass_over w ↦ subst (g.S.Source.reads c.args.source.now) (sym w.source-is) c.loop-visit.invariant.reads
      ];
      cause = elim c.if-wants.branch [
        | then-wants+in_ok-read+in_ok-keep w ↦ ap g.S.Source.faults w.source-is ∙ w.in_ok-read.ensures.cause.calm ∙ c.loop-visit.invariant.cause
        | else-wants+in_ok-pass_over w ↦ ap g.S.Source.faults w.source-is ∙ c.loop-visit.invariant.cause
      ];
      kinds = elim c.if-wants.branch [
        | then-wants+in_ok-read+in_ok-keep w ↦
            kept_as IsKindOf visits (k + 1) w.keep.new.slots.items c.if-wants.slots.items w.keep.new.items.items c.if-wants.items.items (slots_of w.slots-is) (items_of w.items-is)
            (kept_more IsKindOf visits k blank w.in_ok-read.read slots items w.keep.new.slots.items w.keep.new.items.items low w.in_ok-read.ensures.kind w.in_ok-keep.ensures c.loop-visit.invariant.kinds)
        | else-wants+in_ok-pass_over w ↦
            kept_as IsKindOf visits (k + 1) w.pass_over.new.slots.items c.if-wants.slots.items items c.if-wants.items.items (slots_of w.slots-is) (items_of w.items-is)
            (kept_more IsKindOf visits k blank None slots items w.pass_over.new.slots.items items low tt (w.in_ok-pass_over.ensures items) c.loop-visit.invariant.kinds)
      ];
      blocks = λ fits. elim c.if-wants.branch [
        | then-wants+in_ok-read+in_ok-keep w ↦
            let near : g.S.Source.volume c.loop-visit.source ≡ volume = g.met.S.Source.same_volume c.args.source.now c.loop-visit.source c.loop-visit.invariant.reads in
            kept_as (IsBlockOf volume) visits (k + 1) w.keep.new.slots.items c.if-wants.slots.items w.keep.new.items.items c.if-wants.items.items (slots_of w.slots-is) (items_of w.items-is)
            (kept_more (IsBlockOf volume) visits k blank w.in_ok-read.read slots items w.keep.new.slots.items w.keep.new.items.items low
            (subst (λ (h : Ground). OfRead (IsBlockOf h) (get_or visits k blank) w.in_ok-read.read) near
            (w.in_ok-read.ensures.block (g.met.S.Source.fits_on c.args.source.now c.loop-visit.source c.loop-visit.invariant.reads fits))) w.in_ok-keep.ensures (c.loop-visit.invariant.blocks fits))
        | else-wants+in_ok-pass_over w ↦
            kept_as (IsBlockOf volume) visits (k + 1) w.pass_over.new.slots.items c.if-wants.slots.items items c.if-wants.items.items (slots_of w.slots-is) (items_of w.items-is)
            (kept_more (IsBlockOf volume) visits k blank None slots items w.pass_over.new.slots.items items low tt (w.in_ok-pass_over.ensures items) (c.loop-visit.invariant.blocks fits))
      ];
    }

pub returns-clause-gathered : goal.returns-clause-gathered
returns-clause-gathered g c = record {
  kinds = all_kept IsKindOf c.loop-visit.visit-index c.args.visits.now c.loop-visit.slots.items c.loop-visit.items.items
      (omega (arith, c.loop-visit.auto.visit-index-end, c.loop-visit-test.false)) c.loop-visit.invariant.kinds;
  judged = c.in_ok-judged.ensures ∙ ap (map judgement) c.deref.ensures.value;
}

pub returns-clause-blocks : goal.returns-clause-blocks
returns-clause-blocks g c = λ fits.
    all_kept (IsBlockOf (g.S.Source.volume c.args.source.now)) c.loop-visit.visit-index c.args.visits.now c.loop-visit.slots.items c.loop-visit.items.items
    (omega (arith, c.loop-visit.auto.visit-index-end, c.loop-visit-test.false)) (c.loop-visit.invariant.blocks fits)
