-- Entries, and what a leaf says of them.
use Rattle.std.proofs.Common.{◌≡◌, ℕ, ◌<◌, ◌≤◌, List, length, get_or, refl, ap, ap₂, sym, subst, arith, ⊎_elim, Option, None, Some}
use Rattle.std.specs.Prelude.{All, IfSome}
use Rattle.std.proofs.lemmas.Bool.{cases_lt}
use Rattle.std.proofs.lemmas.List.{get_or_past}
use Rattle.std.proofs.lemmas.List.Elements.{All-get_or}
use Rattle.fv_container.specs.declared.entry.Entry.{Entry}
use Rattle.fv_container.specs.Mapped.{IsEntry, IsHeld}
use Rattle.fv_container.specs.Spelled.{pair_of}

pub entry_held : (es : List (Option Entry)) (v : ℕ) → All (λ entry. IfSome entry IsHeld) es → IfSome (get_or es v None) IsHeld
entry_held es v all = ⊎_elim
    (λ (inside : v < length es). All-get_or (λ entry. IfSome entry IsHeld) es v None inside all)
    (λ (past : length es ≤ v). subst (λ (e : Option Entry). IfSome e IsHeld) (sym (get_or_past es v None past)) tt)
    (cases_lt v (length es))

pub can_hold : (e : Option Entry) → IfSome e IsEntry → IfSome e IsHeld
can_hold None is = tt
can_hold (Some e) is = record { place = is.place_greatest; kind_least = is.kind_least; kind_greatest = is.kind_greatest }

made : ℕ → ℕ → Entry
made p k = record { pvbn = p; kind = k }

pub same_entry : (a b : Option Entry) → IfSome a IsHeld → IfSome b IsHeld → pair_of a ≡ pair_of b → a ≡ b
unfolding made
same_entry None None x y is = refl
same_entry None (Some e) x y is = (let z : 0 ≡ e.kind = ap (λ (p : ℕ × ℕ). p.1) is in absurd (omega (arith, z, y.kind_least)))
same_entry (Some e) None x y is = (let z : e.kind ≡ 0 = ap (λ (p : ℕ × ℕ). p.1) is in absurd (omega (arith, z, x.kind_least)))
same_entry (Some e) (Some f) x y is = ap₂ (λ (p k : ℕ). Some (made p k)) (ap (λ (p : ℕ × ℕ). p.0) is) (ap (λ (p : ℕ × ℕ). p.1) is)
