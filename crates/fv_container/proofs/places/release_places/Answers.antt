use Rattle.std.proofs.Common.{◌≡◌, ◌≢◌, ◌+◌, get_or, refl, ⊎_elim}
use Rattle.std.proofs.lemmas.Bool.{cases_eq}
use Rattle.fv_container.specs.Written.{HasReleased}
use Rattle.fv_container.proofs.Taking.{released_more, released_none, released_skip, released_up}
use Rattle.fv_container.proofs.places.release_places.Goals as goal

pub loop-n-init : goal.loop-n-init
loop-n-init g c = record {
  within = c.next_place-n.ensures.most;
  released = released_up (g.F.Free.room c.args.map.now) (g.F.Free.room c.args.map.now) c.args.places.now 0 c.next_place-n.result c.next_place-n.ensures.least c.next_place-n.ensures.most c.next_place-n.ensures.bare (released_none (g.F.Free.room c.args.map.now) c.args.places.now);
}

pub loop-n-preserved : goal.loop-n-preserved
loop-n-preserved g c =
    let old = g.F.Free.room c.args.map.now in
    let mid = g.F.Free.room c.loop-n.map in
    let new = g.F.Free.room c.release_place.new.map in
    let ps = c.args.places.now in
    let n = c.loop-n.n in
    let b = get_or ps n 0 in
    let was = c.loop-n.invariant.released in
    let next = c.next_place-n-in-loop-n in
    let step : HasReleased old ps (n + 1) new = ⊎_elim
    (λ (none : b ≡ 0). rw (c.release_place.ensures.none none) (released_skip old mid ps n c.loop-n-test.true none was))
    (λ (some : b ≢ 0). released_more old mid new ps n b c.loop-n-test.true refl some was (c.release_place.ensures.some some))
    (cases_eq b 0) in
    record {
      within = next.ensures.most;
      released = released_up old new ps (n + 1) next.result next.ensures.least next.ensures.most next.ensures.bare step;
    }
