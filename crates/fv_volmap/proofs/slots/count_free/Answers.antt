use Rattle.std.proofs.Common.{◌≡◌, ◌≤◌, ℕ, ◌+◌, ◌-◌, ◌∷◌, Bool, true, false, Some, refl, ap, ◌∙◌, sym, cond, arith}
use Rattle.std.specs.Prelude.{not, min}
use Rattle.std.proofs.lemmas.Bool.Decides.{nat_tests}
use mir.Val.{bool_byte}
use Rattle.fv_bits.proofs.Counts.{passing}
use Rattle.fv_volmap.specs.Slots.{taken_in}
use Rattle.fv_volmap.proofs.Counting.{counted_next, found_before}
use Rattle.fv_volmap.proofs.slots.count_free.Goals as goal

pub returns-then-count-most : goal.returns-then-count-most
returns-then-count-most c =
    let p = λ (v : ℕ). not (taken_in (Some c.args.active.now ∷ c.args.others.now) v) in
    let full : c.loop-v.count ≡ c.args.most = grind (arith, nat_tests, c.if-count-most.true) in
    let within : c.loop-v.v - c.args.from ≤ c.args.to - c.args.from = omega (arith, c.loop-v.auto.v, c.loop-v-test.true) in
    found_before p c.args.from (c.loop-v.v - c.args.from) (c.args.to - c.args.from) c.args.most within (sym full ∙ c.loop-v.invariant)

as_byte : (t : Bool) → cond {A = ℕ} t 1 0 ≡ bool_byte t
as_byte true = refl
as_byte false = refl

pub loop-v-preserved : goal.loop-v-preserved
loop-v-preserved c =
    let p = λ (v : ℕ). not (taken_in (Some c.args.active.now ∷ c.args.others.now) v) in
    let m = c.loop-v.v - c.args.from in
    let less : c.loop-v.count + 1 ≤ c.args.most = grind (arith, nat_tests, c.if-count-most.false, c.loop-v.invariant) in
    let at : c.args.from + m ≡ c.loop-v.v = omega (arith, c.loop-v.auto.v) in
    let next : m + 1 ≡ c.loop-v.v + 1 - c.args.from = omega (arith, c.loop-v.auto.v) in
    let step = counted_next p c.args.from m c.args.most c.loop-v.count c.loop-v.invariant less in
    let here : cond {A = ℕ} (p (c.args.from + m)) 1 0 ≡ c.from-count.result = ap (λ (v : ℕ). cond {A = ℕ} (p v) 1 0) at ∙ ap (λ (t : Bool). cond {A = ℕ} t 1 0) (sym c.is_free.ensures) ∙ as_byte c.is_free.result ∙ sym c.from-count.ensures in
    ap (λ (k : ℕ). c.loop-v.count + k) (sym here) ∙ step ∙ ap (λ (k : ℕ). min c.args.most (passing p c.args.from k)) next
