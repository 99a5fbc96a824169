use Rattle.std.proofs.Common.{◌≡◌, ◌+◌, ◌*◌, ◌<◌, ℕ, Bool, false, List, length, get_or, refl, sym, ap, subst, ◌∙◌, arith}
use Rattle.std.proofs.lemmas.Bool.{true≢false}
use Rattle.fv_image.specs.Containers.{fan, level_width}
use Rattle.fv_aggmap.specs.Space.{Space}
use Rattle.fv_container.specs.Loading.{IsNextRegion}
use Rattle.fv_container.specs.Paged.{Paged, is_here}
use Rattle.fv_volmap.specs.Slots.{Volume}
use Rattle.fv_delay.specs.declared.threshold.Threshold.{Threshold}
use Rattle.fv_delay.specs.ByThreshold.{behind, taken_in, takes_delayed}
use Rattle.fv_delay.specs.Delay.{IsSureIn, delayed_in}
use Rattle.fv_delay.specs.Holding.{held_by}
use Rattle.fv_delay.specs.Reclaims.{HasGivenSome, HasReclaimed, HasStayed}
use Rattle.fv_delay.proofs.Reclaimed.{some_none, some_then, stayed_same, stayed_then}
use Rattle.fv_delay.proofs.Skipping.{asked_last, asked_next, next_within}
use Rattle.fv_delay.proofs.TakenRegions.{and_second, and_so, asked_all, asked_left, asked_none, asked_off, asked_on, asked_passed, asked_rest, asked_taken, up_to}
use Rattle.fv_delay.proofs.taken.reclaim_taken.Goals.{then-takes_here, else-takes_here+then-count-ne0, else-takes_here+else-count-ne0}
use Rattle.fv_delay.proofs.taken.reclaim_taken.Goals as goal

pub loop-region-init : goal.loop-region-init
unfolding behind
loop-region-init c = record {
  within = omega arith;
  asked = λ sure here. record {
    passed = refl;
    reclaimed = asked_none c.args.map.now c.args.container.now c.args.start c.args.pool_map.now;
    rest = λ e k lt some. absurd (omega (arith, lt));
    left = λ e all. absurd (true≢false (sym e));
  };
  stayed = stayed_same c.args.container.now;
  given = some_none c.args.pool_map.now;
}

pub delayed_by_region-count-requires-clause-known : goal.delayed_by_region-count-requires-clause-known
delayed_by_region-count-requires-clause-known c = λ some.
    ap (λ (l : List Bool). get_or l c.in-Some.region false) c.loop-region.invariant.stayed.known
    ∙ c.requires.known c.in-Some.region (subst (λ (n : ℕ). fan * c.in-Some.region < n) c.loop-region.invariant.stayed.long some)

pub overflow_add-from : goal.overflow_add-from
overflow_add-from c = omega (arith, c.in-Some.ensures.next.within, c.loop-region.invariant.stayed.long, c.requires.entries, c.requires.span)

pub reclaim-requires-clause-loaded : goal.reclaim-requires-clause-loaded
reclaim-requires-clause-loaded c = λ some. and_second (takes_delayed c.loop-region.threshold c.delayed_by_region-count.result) (is_here c.loop-region.container c.in-Some.region) (sym c.takes_here.ensures.taken ∙ c.if-takes_here.true)

pub loop-region-preserved : goal.loop-region-preserved
loop-region-preserved c = record {
  within = next_within mid c.loop-region.from r (length old.map.entries) stays.long next;
  asked = λ sure here.
      let was = asked_next map old start now c.loop-region.from r space between mid c.loop-region.is_left sure stays next (c.loop-region.invariant.asked sure here) in
      let sured : IsSureIn mid r = λ some. ap (λ (l : List Bool). get_or l r false) stays.sure ∙ sure r (subst (λ (n : ℕ). fan * r < n) stays.long some) in
      let counts : count ≡ delayed_in map mid.map r = c.delayed_by_region-count.ensures sured in
      let is : c.takes_here.result ≡ takes_delayed now count = c.takes_here.ensures.taken ∙ and_so (takes_delayed now count) (is_here mid r) (λ on.
      ap (λ (l : List Bool). get_or l r false) stays.here ∙ here r (sym (asked_taken map old start now mid space between r count was.passed was.reclaimed counts) ∙ on) inside) in
      let off : takes_delayed now count ≡ false → HasReclaimed map regions old space mid between = asked_off map old start now mid space between r count was.passed was.reclaimed counts in
      record {
        passed = c.takes_here.ensures.passed ∙ asked_passed map old start now mid space between r count was.passed was.reclaimed counts;
        reclaimed = elim c.if-takes_here.branch [
          | then-takes_here w ↦ moved c.if-takes_here.container c.if-takes_here.pool_map w.reclaim.new.container w.reclaim.new.pool_map w.container-is w.pool_map-is
              (asked_on map old start now mid space between r count was.passed was.reclaimed counts (sym is ∙ w.if-takes_here.true) w.reclaim.new.container w.reclaim.new.pool_map (w.reclaim.ensures.reclaimed sured))
          | else-takes_here+then-count-ne0 w ↦ moved c.if-takes_here.container c.if-takes_here.pool_map mid between w.container-is w.pool_map-is (off (sym is ∙ w.if-takes_here.false))
          | else-takes_here+else-count-ne0 w ↦ moved c.if-takes_here.container c.if-takes_here.pool_map mid between w.container-is w.pool_map-is (off (sym is ∙ w.if-takes_here.false))
        ];
        rest = λ none. elim c.if-takes_here.branch [
          | then-takes_here w ↦ asked_rest map old start now mid space between r count was.passed was.reclaimed counts (was.rest (sym w.is_left-is ∙ none)) (λ some. sym is ∙ w.if-takes_here.true)
          | else-takes_here+then-count-ne0 w ↦ absurd (true≢false (sym w.is_left-is ∙ none))
          | else-takes_here+else-count-ne0 w ↦ asked_rest map old start now mid space between r count was.passed was.reclaimed counts (was.rest (sym w.is_left-is ∙ none)) (λ some. absurd (omega (arith, some, w.if-count-ne0.false)))
        ];
        left = λ some all. elim c.if-takes_here.branch [
          | then-takes_here w ↦ was.left (sym w.is_left-is ∙ some) (λ k lt. all k (omega (arith, lt)))
          | else-takes_here+then-count-ne0 w ↦ asked_left map old start now mid space between r count was.passed was.reclaimed counts (omega (arith, w.if-count-ne0.true)) (sym is ∙ w.if-takes_here.false) all
          | else-takes_here+else-count-ne0 w ↦ was.left (sym w.is_left-is ∙ some) (λ k lt. all k (omega (arith, lt)))
        ];
      };
  stayed = elim c.if-takes_here.branch [
    | then-takes_here w ↦ subst (λ (p : Paged). HasStayed old p) (sym w.container-is) (stayed_then old mid w.reclaim.new.container stays w.reclaim.ensures.stayed)
    | else-takes_here+then-count-ne0 w ↦ subst (λ (p : Paged). HasStayed old p) (sym w.container-is) stays
    | else-takes_here+else-count-ne0 w ↦ subst (λ (p : Paged). HasStayed old p) (sym w.container-is) stays
  ];
  given = elim c.if-takes_here.branch [
    | then-takes_here w ↦ subst (λ (s : Space). HasGivenSome space s) (sym w.pool_map-is) (some_then space between w.reclaim.new.pool_map c.loop-region.invariant.given w.reclaim.ensures.given)
    | else-takes_here+then-count-ne0 w ↦ subst (λ (s : Space). HasGivenSome space s) (sym w.pool_map-is) c.loop-region.invariant.given
    | else-takes_here+else-count-ne0 w ↦ subst (λ (s : Space). HasGivenSome space s) (sym w.pool_map-is) c.loop-region.invariant.given
  ];
}
  where
    map : Volume
    map = c.args.map.now

    old : Paged
    old = c.args.container.now

    start : Threshold
    start = c.args.start

    now : Threshold
    now = c.loop-region.threshold

    mid : Paged
    mid = c.loop-region.container

    stays : HasStayed old mid
    stays = c.loop-region.invariant.stayed

    space : Space
    space = c.args.pool_map.now

    between : Space
    between = c.loop-region.pool_map

    r : ℕ
    r = c.in-Some.region

    next : IsNextRegion mid c.loop-region.from r
    next = c.in-Some.ensures.next

    inside : fan * r < length old.map.entries
    inside = omega (arith, next.within, stays.long)

    count : ℕ
    count = c.delayed_by_region-count.result

    regions : ℕ → Bool
    regions = up_to (taken_in start (held_by map old.map)) (r + 1)

    moved : (m : Paged) (s : Space) (n : Paged) (t : Space) → m ≡ n → s ≡ t → HasReclaimed map regions old space n t → HasReclaimed map regions old space m s
    moved m s n t e f has = subst (λ (k : Paged). HasReclaimed map regions old space k s) (sym e) (subst (λ (k : Space). HasReclaimed map regions old space n k) (sym f) has)

pub returns-clause-reclaimed : goal.returns-clause-reclaimed
returns-clause-reclaimed c = λ sure here.
    let last = asked_last c.args.map.now c.args.container.now c.args.start c.loop-region.threshold c.loop-region.from (level_width (length c.args.container.now.map.entries) 0) c.args.pool_map.now c.loop-region.pool_map c.loop-region.container c.loop-region.is_left
    sure c.loop-region.invariant.stayed c.in_default.ensures.none c.loop-region.invariant.within (c.loop-region.invariant.asked sure here) in
    asked_all c.args.map.now c.args.container.now c.args.start c.loop-region.container c.args.pool_map.now c.loop-region.pool_map (level_width (length c.args.container.now.map.entries) 0) (omega arith) last.reclaimed

pub returns-clause-rest : goal.returns-clause-rest
returns-clause-rest c = λ sure here.
    let last = asked_last c.args.map.now c.args.container.now c.args.start c.loop-region.threshold c.loop-region.from (level_width (length c.args.container.now.map.entries) 0) c.args.pool_map.now c.loop-region.pool_map c.loop-region.container c.loop-region.is_left
    sure c.loop-region.invariant.stayed c.in_default.ensures.none c.loop-region.invariant.within (c.loop-region.invariant.asked sure here) in
    last.rest

pub returns-clause-left : goal.returns-clause-left
returns-clause-left c = λ sure here.
    let last = asked_last c.args.map.now c.args.container.now c.args.start c.loop-region.threshold c.loop-region.from (level_width (length c.args.container.now.map.entries) 0) c.args.pool_map.now c.loop-region.pool_map c.loop-region.container c.loop-region.is_left
    sure c.loop-region.invariant.stayed c.in_default.ensures.none c.loop-region.invariant.within (c.loop-region.invariant.asked sure here) in
    last.left
