-- What a ledger commits at most.
use Rattle.std.proofs.Common.{◌≡◌, ◌<◌, ◌+◌, ◌*◌, ◌^◌, ◌≤◌, ℕ, zero, suc, Bool, true, false, cond, arith, refl}
use Rattle.std.specs.Prelude.{nat_le}
use Rattle.std.proofs.lemmas.Bool.Decides.{nat_tests}
use Rattle.std.proofs.Math.Nat.{mul-le-mul}
use Rattle.fv_model.specs.declared.commands.Kind.{Kind}
use Rattle.fv_model.specs.declared.commands.Kind.TheVariants.{Volume as Whole, File as ByFile, Thin}
use Rattle.fv_model.specs.Numbers.{ceil_div, greatest_span}
use Rattle.fv_model.specs.Space.{leaves_by, nodes_above, overhead}
use Rattle.fv_charge.specs.declared.ledger.Ledger.{Ledger}
use Rattle.fv_charge.specs.Ledgers.{committed, promised_to}

nodes_step : (n above rest : ℕ) → rest ≤ above * (ceil_div n 256 + 1) → (b : Bool) → nat_le n 256 ≡ b → cond b 1 (ceil_div n 256 + rest) ≤ suc above * (n + 1)
nodes_step n above rest few true e = omega arith
nodes_step n above rest few false e =
    let large : 256 < n = grind (arith, nat_tests, e) in
    let less : ceil_div n 256 + 1 ≤ n + 1 = omega (arith, large) in
    let times : above * (ceil_div n 256 + 1) ≤ above * (n + 1) = mul-le-mul (omega arith) less in
    omega (arith, few, times, less)

nodes_most : (fuel n : ℕ) → nodes_above fuel n ≤ fuel * (n + 1)
unfolding nodes_above
nodes_most zero n = omega arith
nodes_most (suc fuel) n = nodes_step n fuel (nodes_above fuel (ceil_div n 256)) (nodes_most fuel (ceil_div n 256)) (nat_le n 256) refl

overhead_most : (span : ℕ) → span ≤ greatest_span → overhead span ≤ 2 ^ 26
unfolding overhead
overhead_most span low = let above = nodes_most 8 (leaves_by 1 span) in omega (arith, above, low)

-- Of a span that a volume can have, with numbers as large as a word.
pub committed_most : (l : Ledger) → l.span ≤ greatest_span → l.size ≤ 2 ^ 32 → l.charge + l.need ≤ 2 ^ 32 → committed l ≤ 2 ^ 34
committed_most l span size used = by l.kind
  where
    above : overhead l.span ≤ 2 ^ 26
    above = overhead_most l.span span

    by : (k : Kind) → 2 * overhead l.span + promised_to l k ≤ 2 ^ 34
    by Whole = omega (arith, size, above)
    by ByFile = omega (arith, used, above)
    by Thin = omega (arith, used, above)
