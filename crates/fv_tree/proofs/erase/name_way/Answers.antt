use Rattle.std.proofs.Common.{◌≡◌, ℕ, ◌+◌, inl, inr, is_some, ap, ◌∙◌, subst, arith}
use Rattle.std.proofs.lemmas.Bool.{cases_eq}
use Rattle.fv_tree.specs.Unlinking.{IsNamed, IsOnWay}
use Rattle.fv_tree.proofs.Released.{released_then}
use Rattle.fv_tree.proofs.erase.name_way.Goals as goal

pub loop-level-preserved : goal.loop-level-preserved
loop-level-preserved g c =
    let t = c.args.tree.now in
    let i = c.args.index in
    let level : ℕ = c.loop-level.level in record {
      released = released_then (g.B.Blocks.shown c.args.blocks.now) (g.B.Blocks.shown c.loop-level.blocks) (g.B.Blocks.shown c.name_place.new.blocks) (IsOnWay t i level) (IsNamed t level i) (IsOnWay t i (level + 1))
          c.loop-level.invariant.released c.name_place.ensures.released
          (λ v on. record { level = on.level; low = omega (arith, on.low); named = on.named })
          (λ v named. record { level = level; low = omega arith; named = named })
          (λ v on. elim (cases_eq on.level level) [
            | inl same ↦ inr (subst (λ k. IsNamed t k i v) same on.named)
            | inr differs ↦ inl (record { level = on.level; low = omega (arith, on.low, differs); named = on.named })
          ]);
      strays = λ once.
          c.name_place.ensures.strays (λ v named.
          let apart : IsOnWay t i level v → ⊥ = λ on. let low = on.low in let same : on.level ≡ level = once.once on.level level v (omega (arith, low)) (omega arith) on.named named in omega (arith, low, same) in
          ap is_some (c.loop-level.invariant.released.used v apart) ∙ once.in_use level v (omega arith) named)
          ∙ c.loop-level.invariant.strays once;
      room = omega (arith, c.loop-level.invariant.room, c.name_place.ensures.room);
      calls = g.met.B.Blocks.goes_on c.args.blocks.now c.loop-level.blocks c.name_place.new.blocks c.loop-level.invariant.calls c.name_place.ensures.calls;
    }
