use Rattle.std.proofs.Common.{◌≡◌, ◌≤◌, ◌&&◌, ◌||◌, ℕ, Bool, true, false, get_or, nat_lt, refl, sym, ap, ◌∙◌, arith, rules}
use Rattle.std.proofs.lemmas.Bool.Decides.{nat_tests}
use Rattle.fv_delay.specs.declared.threshold.Threshold.{Threshold}
use Rattle.fv_delay.specs.ByThreshold.{most_blocks}
use Rattle.fv_delay.proofs.Passing.{behind_seen, takes_seen, threshold_of}
use Rattle.fv_delay.proofs.threshold.Threshold.passes.Goals.{then-blocks-gt0, else-blocks-gt0}
use Rattle.fv_delay.proofs.threshold.Threshold.passes.Goals as goal

pub returns-then-has_more-clause-taken : goal.returns-then-has_more-clause-taken
returns-then-has_more-clause-taken c counts table some =
    let t : Threshold = c.args.self.now in
    let blocks : ℕ = get_or c.args.table.now.partial t.count 0 in
    let more : Bool = c.has_more_than-has_more.result in
    c.if-has_more.true ∙ sym (ap (λ (s : Bool). s || (nat_lt 0 blocks && nat_lt 0 t.left)) c.if-has_more.true)
    ∙ takes_seen t c.args.table.now counts table c.requires blocks refl some more (c.has_more_than-has_more.ensures counts table some)

pub returns-then-has_more-clause-passed : goal.returns-then-has_more-clause-passed
returns-then-has_more-clause-passed c counts table some =
    let t : Threshold = c.args.self.now in
    let most : t.left ≤ most_blocks = search (rules, c.fits-self) in
    ap (threshold_of t.count) c.saturating_sub-self.ensures ∙ behind_seen t c.args.table.now counts table c.requires (get_or c.args.table.now.partial t.count 0) refl most

pub returns-else-has_more-clause-taken : goal.returns-else-has_more-clause-taken
returns-else-has_more-clause-taken c counts table some =
    let t : Threshold = c.args.self.now in
    let blocks : ℕ = get_or c.args.table.now.partial t.count 0 in
    let more : Bool = c.has_more_than-has_more.result in
    reached
    ∙ sym (ap (λ (s : Bool). s || (nat_lt 0 blocks && nat_lt 0 t.left)) c.if-has_more.false)
    ∙ takes_seen t c.args.table.now counts table c.requires blocks refl some more (c.has_more_than-has_more.ensures counts table some)
  where
    reached : c.if-blocks-gt0.is_reached ≡ (nat_lt 0 (get_or c.args.table.now.partial c.args.self.now.count 0) && nat_lt 0 c.args.self.now.left)
    reached = elim c.if-blocks-gt0.branch [
      | then-blocks-gt0 w ↦
          let some = w.if-blocks-gt0.true in
          let test : nat_lt 0 (get_or c.args.table.now.partial c.args.self.now.count 0) ≡ true = grind (arith, nat_tests, some) in
          w.is_reached-is ∙ sym (ap (λ (s : Bool). s && nat_lt 0 c.args.self.now.left) test)
      | else-blocks-gt0 w ↦
          let none = w.if-blocks-gt0.false in
          let test : nat_lt 0 (get_or c.args.table.now.partial c.args.self.now.count 0) ≡ false = grind (arith, nat_tests, none) in
          w.is_reached-is ∙ test ∙ sym (ap (λ (s : Bool). s && nat_lt 0 c.args.self.now.left) test)
    ]

pub returns-else-has_more-clause-passed : goal.returns-else-has_more-clause-passed
returns-else-has_more-clause-passed c counts table some =
    let t : Threshold = c.args.self.now in
    let most : t.left ≤ most_blocks = search (rules, c.fits-self) in
    ap (threshold_of t.count) c.saturating_sub-self.ensures ∙ behind_seen t c.args.table.now counts table c.requires (get_or c.args.table.now.partial t.count 0) refl most
