-- The commands that are to come, once all of the opening were given.
use Rattle.std.proofs.Common.{◌≡◌, ◌<◌, ◌≤◌, ◌-◌, ℕ, List, [], ◌∷◌, ◌++◌, drop, refl, sym, ap, subst, ◌∙◌, arith}
use Rattle.std.specs.Prelude.{zero, suc}
use Rattle.fv_model.specs.declared.commands.Command.{Command}
use Rattle.fv_script.specs.Generated.{command_from, drawn, opening}

pub all_opened : (opened : ℕ) (rest : List Command) → 8 < opened → opened ≤ 9 → drop opened opening ++ rest ≡ rest
unfolding opening
all_opened opened rest above within = subst (λ n. drop n opening ++ rest ≡ rest) (sym nine) refl
  where
    nine : opened ≡ 9
    nine = omega (arith, above, within)

pub none_left : (opened left x : ℕ) → 8 < opened → opened ≤ 9 → left ≡ 0 → drop opened opening ++ drawn left x ≡ []
unfolding drawn
none_left opened left x above within none = all_opened opened (drawn left x) above within ∙ ap (λ n. drawn n x) none

one_drawn : (left x y : ℕ) (command : Command) → 0 < left → (command, y) ≡ command_from x → drawn left x ≡ command ∷ drawn (left - 1) y
unfolding drawn
one_drawn zero x y command some is = absurd (omega (arith, some))
one_drawn (suc left) x y command some is = ap (λ p. p.0 ∷ drawn left p.1) (sym is) ∙ ap (λ n. command ∷ drawn n y) before
  where
    before : left ≡ suc left - 1
    before = omega arith

pub one_left : (opened left x y : ℕ) (command : Command) → 8 < opened → opened ≤ 9 → 0 < left → (command, y) ≡ command_from x
    → drop opened opening ++ drawn left x ≡ command ∷ (drop opened opening ++ drawn (left - 1) y)
one_left opened left x y command above within some is =
    all_opened opened (drawn left x) above within ∙ one_drawn left x y command some is
    ∙ ap (λ rest. command ∷ rest) (sym (all_opened opened (drawn (left - 1) y) above within))
