use Rattle.std.proofs.Common.{◌≡◌, ◌≢◌, ◌<◌, ◌/◌, ◌∙◌, true, false, length, refl, sym, ap, arith, length-set, get_or-set_other, true≢false}
use Rattle.fv_volume.specs.Stored.{is_map_written}
use Rattle.fv_volume.proofs.StayingMaps.{written_parts, written_within}
use Rattle.fv_volumes.proofs.MapMarks.{mark_kept, marked_more}
use Rattle.fv_volumes.proofs.taking.mark_maps.Goals as goal
use Rattle.fv_volumes.proofs.taking.mark_maps.Goals.{then-is_map_written, else-is_map_written}

pub loop-vvbn-init : goal.loop-vvbn-init
loop-vvbn-init c = record {
  past = omega arith;
  long = refl;
  marked = λ v low on. absurd (omega (arith, low, (written_parts c.args.state.now v on).0));
  kept = λ k on. on;
  others = λ k past. refl;
}

pub loop-vvbn-preserved : goal.loop-vvbn-preserved
loop-vvbn-preserved c =
    let x = c.args.state.now in
    let k = c.loop-vvbn.vvbn in
    let plan = c.loop-vvbn.plan in
    let was = c.loop-vvbn.invariant in
    let inside : k / 256 < length plan = omega (arith, c.loop-vvbn-test.true, c.entry_count-vvbn-end.ensures.value, c.requires.long, was.long) in
    elim c.if-is_map_written.branch [
      | then-is_map_written w ↦ rw w.plan-is (record {
        past = omega (arith, was.past);
        long = length-set plan (k / 256) true ∙ was.long;
        marked = marked_more x k plan inside was.marked;
        kept = λ j on. mark_kept plan (k / 256) j inside (was.kept j on);
        others = λ j past.
            let other : j ≢ k / 256 = omega (arith, past, c.loop-vvbn-test.true, c.entry_count-vvbn-end.ensures.value) in
            get_or-set_other plan (k / 256) j true false other ∙ was.others j past;
      })
      | else-is_map_written w ↦
          let off : is_map_written x k ≡ false = sym c.is_map_written.ensures ∙ w.if-is_map_written.false in
          rw w.plan-is (record {
            past = omega (arith, was.past);
            long = was.long;
            marked = λ v low on.
                let apart : v ≢ k = λ e. true≢false (sym on ∙ ap (is_map_written x) e ∙ off) in
                was.marked v (omega (arith, low, apart)) on;
            kept = was.kept;
            others = was.others;
          })
    ]

pub returns-clause-marked : goal.returns-clause-marked
returns-clause-marked c = λ v on.
    c.loop-vvbn.invariant.marked v (omega (arith, c.loop-vvbn-test.false, c.entry_count-vvbn-end.ensures.value, written_within c.args.state.now v on)) on
