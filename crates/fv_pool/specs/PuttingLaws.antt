-- What calls that load no block leave of all that was lent, one after another.
use Rattle.std.proofs.Common.{refl, ◌∙◌, inl, inr, ⊎_elim, sym, subst}
use Rattle.fv_pool.specs.Lending.{Lent, WasLeaf}
use Rattle.fv_pool.specs.LendingLaws.{goes_itself, goes_then, leaf_first, out_before, out_still}
use Rattle.fv_pool.specs.Putting.{PutsOver}

pub puts_itself : (l : Lent) → PutsOver l l
puts_itself l = record { goes = goes_itself l; noted = inl refl }

pub puts_then : (old mid new : Lent) → PutsOver old mid → PutsOver mid new → PutsOver old new
puts_then old mid new first second = record {
  goes = goes_then old mid new first.goes second.goes;
  noted = ⊎_elim
      (λ again. ⊎_elim
      (λ same. inl (again ∙ same))
      (λ cause. inr (⊎_elim
      (λ out. inl (out_still old mid new first.goes second.goes again out))
      (λ leaf. inr (subst (λ n. WasLeaf old.disk old.pool.containers n) (sym again) leaf))
      cause))
      first.noted)
      (λ cause. inr (⊎_elim (λ out. inl (out_before old mid new first.goes second.goes out)) (λ leaf. inr (leaf_first old mid new first.goes second.goes leaf)) cause))
      second.noted;
}
