use Rattle.std.proofs.Common.{◌∙◌, sym, arith}
use Rattle.fv_container.specs.Spelled.{is_at}
use Rattle.fv_container.proofs.Named.{at_none}
use Rattle.fv_aggmap.proofs.Giving.{given_none, given_one, given_past}
use Rattle.fv_aggmap.proofs.map.AggMap.give_back.Goals.{else-place-ne0-via-then-place-ne0+else-place-blocks, else-place-ne0-via-else-place-ne0}
use Rattle.fv_aggmap.proofs.map.AggMap.give_back.Goals as goal

pub returns-then-place-blocks : goal.returns-then-place-blocks
returns-then-place-blocks c =
    let b = c.blocks-then-place-ne0.ensures in
    given_one c.args.self.now c.release_after_commit.new.self c.args.place (sym b.next ∙ b.value) c.if-place-ne0.true (omega (arith, b.value, c.if-place-blocks.true)) c.release_after_commit.ensures

pub returns-else-place-ne0 : goal.returns-else-place-ne0
returns-else-place-ne0 c =
    elim c.else-place-ne0.branch [
      | else-place-ne0-via-then-place-ne0+else-place-blocks w ↦
          let b = w.blocks-then-place-ne0.ensures in
          given_past c.args.self.now c.args.place (sym b.next ∙ b.value) (omega (arith, b.value, w.if-place-blocks.false))
      | else-place-ne0-via-else-place-ne0 w ↦ given_none c.args.self.now (λ b. is_at b c.args.place) (λ b. rw w.if-place-ne0.false (at_none b))
    ]
