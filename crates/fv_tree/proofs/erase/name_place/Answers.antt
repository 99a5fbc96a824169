use Rattle.std.proofs.Common.{◌≡◌, ◌/◌, refl, sym, ap, ◌∙◌, arith}
use Rattle.fv_codec.specs.declared.pointer.Pointer.{Pointer}
use Rattle.fv_tree.specs.Flushing.{placed_of, pointer_in}
use Rattle.fv_tree.proofs.Erased.{not_both}
use Rattle.fv_tree.proofs.Released.{nothing_released, one_released, released_as}
use Rattle.fv_tree.proofs.erase.name_place.Goals as goal

pub returns-then-has_block-clause-released : goal.returns-then-has_block-clause-released
returns-then-has_block-clause-released g c =
    let pointer = c.pointer_in-pointer.result in
    let number = ap (λ (p : Pointer). p.vvbn) (c.pointer_in-pointer.ensures.is ∙ ap (λ w. pointer_in c.args.tree.now c.args.level (c.args.index / w)) c.width.ensures.is) in
    released_as (g.B.Blocks.shown c.args.blocks.now) (g.B.Blocks.shown c.gone.new.self) (λ v. v ≡ pointer.vvbn) _
    (one_released (g.B.Blocks.shown c.args.blocks.now) (g.B.Blocks.shown c.gone.new.self) pointer.vvbn c.gone.ensures.drops)
    (λ v same. record {
      block = ap (λ w. placed_of c.args.tree.now c.args.level (c.args.index / w)) (sym c.width.ensures.is) ∙ sym c.has_block.ensures ∙ c.if-has_block.true;
      number = sym number ∙ sym same;
    })
    (λ v named. sym named.number ∙ sym number)

pub returns-else-has_block-clause-released : goal.returns-else-has_block-clause-released
returns-else-has_block-clause-released g c =
    let shown = g.B.Blocks.shown c.args.blocks.now in
    released_as shown shown _ _ (nothing_released shown shown refl refl (record { faults = omega arith; damages = omega arith; spent = omega arith }))
    (λ v none. absurd none)
    (λ v named. not_both (placed_of c.args.tree.now c.args.level (c.args.index / c.width.result)) (ap (λ w. placed_of c.args.tree.now c.args.level (c.args.index / w)) c.width.ensures.is ∙ named.block) (sym c.has_block.ensures ∙ c.if-has_block.false))

pub returns-then-has_block-clause-strays : goal.returns-then-has_block-clause-strays
returns-then-has_block-clause-strays g c = λ in_use.
    let pointer = c.pointer_in-pointer.result in
    let number = ap (λ (p : Pointer). p.vvbn) (c.pointer_in-pointer.ensures.is ∙ ap (λ w. pointer_in c.args.tree.now c.args.level (c.args.index / w)) c.width.ensures.is) in
    c.gone.ensures.drops.named (in_use pointer.vvbn (record {
      block = ap (λ w. placed_of c.args.tree.now c.args.level (c.args.index / w)) (sym c.width.ensures.is) ∙ sym c.has_block.ensures ∙ c.if-has_block.true;
      number = sym number;
    }))
