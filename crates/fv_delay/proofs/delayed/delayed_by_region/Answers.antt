use Rattle.std.proofs.Common.{◌≡◌, ◌+◌, ◌*◌, ◌/◌, ◌<◌, ◌≤◌, ℕ, Bool, true, length, sym, subst, ap, ap₂, ◌∙◌, arith}
use Rattle.std.specs.Int.{from_bool}
use Rattle.fv_image.specs.Containers.{fan}
use Rattle.fv_container.specs.Paged.{is_known, is_sure}
use Rattle.fv_delay.specs.Delay.{delayed_in, is_delayed}
use Rattle.fv_delay.proofs.Parts.{as_unmapped, byte_is, byte_most, count_more, inside_region, none_past, region_walked}
use Rattle.fv_delay.proofs.delayed.delayed_by_region.Goals.{then-unmapped-eq0-via-then-unmapped-eq0, then-unmapped-eq0-via-else-unmapped-eq0+then-is_held_alone}
use Rattle.fv_delay.proofs.delayed.delayed_by_region.Goals as goal

pub is_delayed-requires-clause-known : goal.is_delayed-requires-clause-known
is_delayed-requires-clause-known c =
    let at = inside_region c.entry_count-entries.result c.args.region c.first_of-first.result c.end_of-end.result c.loop-vvbn.vvbn c.first_of-first.ensures c.end_of-end.ensures c.loop-vvbn.auto.vvbn c.loop-vvbn-test.true in
    subst (λ (k : ℕ). is_known c.args.container.now k ≡ true) (sym at.0) (c.requires.known (omega (arith, at.1, c.entry_count-entries.ensures.value, c.requires.entries)))

pub loop-vvbn-preserved : goal.loop-vvbn-preserved
loop-vvbn-preserved c =
    let p : ℕ → Bool = is_delayed c.args.map.now c.args.container.now.map in
    let first : ℕ = c.first_of-first.result in
    let v : ℕ = c.loop-vvbn.vvbn in
    let from : first ≤ v = c.loop-vvbn.auto.vvbn in
    let at = inside_region c.entry_count-entries.result c.args.region first c.end_of-end.result v c.first_of-first.ensures c.end_of-end.ensures from c.loop-vvbn-test.true in
    let some : fan * c.args.region < length c.args.container.now.map.entries = omega (arith, at.1, c.entry_count-entries.ensures.value, c.requires.entries) in (
      λ sure.
          let here : is_sure c.args.container.now (v / 256) ≡ true = subst (λ (k : ℕ). is_sure c.args.container.now k ≡ true) (sym at.0) (sure some) in
          ap₂ ◌+◌ (c.loop-vvbn.invariant.0 sure) (c.from-count.ensures ∙ ap from_bool (c.is_delayed.ensures here) ∙ byte_is (p v)) ∙ sym (count_more p first v from),
      omega (arith, c.from-count.ensures, byte_most c.is_delayed.result, c.loop-vvbn.invariant.1, from),
    )

pub returns : goal.returns
unfolding delayed_in
returns c = λ sure.
    region_walked (is_delayed c.args.map.now c.args.container.now.map) c.args.region c.entry_count-entries.result (length c.args.container.now.map.entries) c.first_of-first.result c.end_of-end.result c.loop-vvbn.vvbn c.loop-vvbn.count
    (c.entry_count-entries.ensures.value ∙ sym c.requires.entries) (none_past c.args.map.now c.args.container.now.map) c.first_of-first.ensures c.end_of-end.ensures c.loop-vvbn.auto.vvbn-end c.loop-vvbn-test.false (c.loop-vvbn.invariant.0 sure)

-- none is there, or the region's numbers are held just where the active map has them
pub returns-then-unmapped-eq0 : goal.returns-then-unmapped-eq0
returns-then-unmapped-eq0 c = elim c.then-unmapped-eq0.branch [
  | then-unmapped-eq0-via-then-unmapped-eq0 w ↦ λ sure. let none : c.count_unmapped-unmapped.result ≡ 0 = w.if-unmapped-eq0.true in none ∙ sym (c.count_unmapped-unmapped.ensures.none sure none)
  | then-unmapped-eq0-via-else-unmapped-eq0+then-is_held_alone w ↦ λ sure.
      let entry : fan * c.args.region < length c.args.container.now.map.entries = omega (arith, c.requires.entries, w.is_held_alone.ensures.within w.if-is_held_alone.true) in
      c.count_unmapped-unmapped.ensures.count sure entry ∙ as_unmapped c.args.map.now c.args.container.now.map c.args.region (w.is_held_alone.ensures.alone w.if-is_held_alone.true)
]
