use Rattle.std.proofs.Common.{arith, subst, sym, ◌∙◌}
use Rattle.fv_tree.specs.Sources.{Shown}
use Rattle.fv_tree.proofs.KeptUnder.{swap_keeps}
use Rattle.fv_tree.proofs.Known.{places_swapped}
use Rattle.fv_tree.proofs.Swapped.{IsPlacedAt, swapped}
use Rattle.fv_tree.proofs.Causes.{calm_then}
use Rattle.fv_tree.proofs.Calls.{counts_calm}
use Rattle.fv_tree.specs.Stored.{HasPlaces}
use Rattle.std.proofs.lemmas.Result.{err_from_is_err_and}
use Rattle.fv_tree.proofs.placing.swap.Goals as goal

pub returns-clause-swaps : goal.returns-clause-swaps
returns-clause-swaps g c = λ told.
    let old : Shown = g.B.Blocks.shown c.args.blocks.now in
    let mid : Shown = g.B.Blocks.shown c.place.new.self in
    let new : Shown = g.B.Blocks.shown c.name_gone.new.blocks in
    let at : IsPlacedAt old c.args.kind c.args.block.now c.in_ok-at.at.vvbn c.in_ok-at.at.pvbn mid = record {
      fresh = c.in_ok-at.ensures.places.fresh;
      unused = c.in_ok-at.ensures.places.unused;
      held = c.in_ok-at.ensures.places.held told;
      used = c.in_ok-at.ensures.places.used;
      strays = c.in_ok-at.ensures.places.strays;
    } in
    swapped old mid new c.args.kind c.args.block.now c.args.placed c.args.known c.args.old.now.vvbn c.in_ok-at.at.pvbn c.pointer_to.result
    (subst (λ v. IsPlacedAt old c.args.kind c.args.block.now v c.in_ok-at.at.pvbn mid) (sym c.pointer_to.ensures.vvbn) at) c.pointer_to.ensures.known c.pointer_to.ensures.unknown
    c.name_gone.ensures.gone c.name_gone.ensures.untouched

pub returns-clause-keeps : goal.returns-clause-keeps
returns-clause-keeps g c = λ told names.
    swap_keeps (g.B.Blocks.shown c.args.blocks.now) c.args.kind c.args.block.now c.args.placed c.args.known c.args.old.now c.pointer_to.result (g.B.Blocks.shown c.name_gone.new.blocks) (λ v. g.B.Blocks.keeps v c.args.blocks.now c.name_gone.new.blocks)
    c.requires.some names (returns-clause-swaps g c told)
    (λ v differs. g.met.B.Blocks.keeps_on v c.args.blocks.now c.place.new.self c.name_gone.new.blocks (c.in_ok-at.ensures.keeps v (λ e. differs (c.pointer_to.ensures.vvbn ∙ e))) (c.name_gone.ensures.keeps v))

pub returns-in_err-at-clause-one : goal.returns-in_err-at-clause-one
returns-in_err-at-clause-one g c = let place = c.in_err-at.ensures in
    let p = err_from_is_err_and c.from_residual.result c.from_residual.ensures.1 in
    rw (p.1, p.2) (record {
      places = λ known has. subst HasPlaces (sym place.places.failed.used) has;
      room = tt;
      enough = place.places.enough;
      spent = place.places.spent;
      untouched = place.places.failed;
      calls = place.calls;
      counts = record { faults = place.places.counts.faults; damages = place.places.counts.damages; spent = place.places.counts.spent; calm = tt };
      cause = place.places.cause;
    })

pub returns-clause-one : goal.returns-clause-one
returns-clause-one g c = let old : Shown = g.B.Blocks.shown c.args.blocks.now in
    let mid : Shown = g.B.Blocks.shown c.place.new.self in
    let new : Shown = g.B.Blocks.shown c.name_gone.new.blocks in
    let place = c.in_ok-at.ensures in
    let named = c.name_gone.ensures in
    record {
      places = λ known.
          let at = c.in_ok-at.ensures in
          places_swapped (g.B.Blocks.shown c.args.blocks.now) (g.B.Blocks.shown c.place.new.self) (g.B.Blocks.shown c.name_gone.new.blocks) c.in_ok-at.at.vvbn (record { pvbn = c.in_ok-at.at.pvbn; kind = c.args.kind }) c.args.old.now.vvbn c.args.placed
          (at.known known) at.places.used c.name_gone.ensures.gone c.name_gone.ensures.untouched;
      room = omega (arith, place.places.room, named.room);
      enough = λ _ _. tt;
      spent = named.spent ∙ place.places.spent;
      untouched = tt;
      calls = g.met.B.Blocks.goes_on c.args.blocks.now c.place.new.self c.name_gone.new.blocks place.calls named.calls;
      counts = counts_calm old new _ (calm_then old mid new place.places.counts.calm named.counts);
      cause = tt;
    }
