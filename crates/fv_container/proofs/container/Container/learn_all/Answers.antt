use Rattle.std.proofs.Common.{◌≡◌, length, ap, ◌∙◌, arith}
use Rattle.fv_container.specs.Mapped.{Mapped}
use Rattle.fv_container.specs.Paged.{Paged}
use Rattle.fv_container.proofs.container.Container.learn_all.Goals as goal

pub learn-requires-clause-within : goal.learn-requires-clause-within
learn-requires-clause-within g c =
    let size : c.self.inside.count ≡ length c.args.self.now.map.entries = c.self.invariant.0.size ∙ ap (λ (p : Paged). length p.map.entries) c.self.view_is in
    let long : length c.loop-k.self.map.entries ≡ length c.args.self.now.map.entries = ap (λ (m : Mapped). length m.entries) c.loop-k.invariant.kept.map in
    omega (arith, c.loop-k-test.true, c.leaf_count-k-end.ensures, size, long)

pub returns-clause-learned : goal.returns-clause-learned
returns-clause-learned g c = λ j some.
    let size : c.self.inside.count ≡ length c.args.self.now.map.entries = c.self.invariant.0.size ∙ ap (λ (p : Paged). length p.map.entries) c.self.view_is in
    let long : length c.loop-k.self.map.entries ≡ length c.args.self.now.map.entries = ap (λ (m : Mapped). length m.entries) c.loop-k.invariant.kept.map in
    c.loop-k.invariant.learned j (omega (arith, c.loop-k-test.false, c.leaf_count-k-end.ensures, size, long, some))
