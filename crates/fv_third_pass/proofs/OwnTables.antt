-- What is said of tables, one after another.
use Rattle.std.proofs.Common.{◌≡◌, ℕ, zero, suc, ◌+◌, ◌<◌, ◌≤◌, List, [], ◌∷◌, length, get_or, take, inl, inr, refl, subst, arith}
use Rattle.fv_laws.proofs.Lists.{In}
use Rattle.fv_faults.specs.declared.fault.Fault.{Fault}
use Rattle.fv_faults.specs.declared.lines.Lines.{Lines}
use Rattle.fv_faults.specs.Adding.{Adds}
use Rattle.fv_faults.specs.Met.{IsClean}
use Rattle.fv_faults.specs.Walks.{Ground, steps}
use Rattle.fv_walk.specs.Visits.{rooted}
use Rattle.fv_third_pass.specs.declared.roots.MapRoot.{MapRoot}
use Rattle.fv_third_pass.specs.Volumes.{AreClean, own_table, own_tables}
use Rattle.fv_third_pass.proofs.Noting.{each_all, each_first, each_next}

pub in_at : {X : Type 0} (xs : List X) (k : ℕ) (d : X) → k < length xs → In (get_or xs k d) xs
in_at [] k d low = absurd (omega (arith, low))
in_at (x ∷ xs) zero d low = inl refl
in_at (x ∷ xs) (suc k) d low = inr (in_at xs k d (omega (arith, low)))

module _ (g : Ground) (label last : ℕ) (rs : List MapRoot) where
  abbrev said : MapRoot → List Fault
  said r = own_table label last (rooted r.table) (steps g label (rooted r.table))

  pub tables_first : (x : Lines) → Adds (own_tables g label last (take 0 rs)) x x
  tables_first x = each_first said rs x

  pub tables_next : (k : ℕ) (d : MapRoot) (old mid new : Lines) (h : Ground) → h ≡ g → k < length rs → AreClean g label rs → Adds (own_tables g label last (take k rs)) old mid
      → (IsClean (steps h label (rooted (get_or rs k d).table)) → Adds (own_table label last (rooted (get_or rs k d).table) (steps h label (rooted (get_or rs k d).table))) mid new)
      → Adds (own_tables g label last (take (k + 1) rs)) old new
  tables_next k d old mid new h near low clean first one =
      each_next said rs k d old mid new low first
      (subst (λ (h : Ground). IsClean (steps h label (rooted (get_or rs k d).table)) → Adds (own_table label last (rooted (get_or rs k d).table) (steps h label (rooted (get_or rs k d).table))) mid new) near one
      (clean (get_or rs k d) (in_at rs k d low)))

  pub tables_all : (k : ℕ) (old new : Lines) → length rs ≤ k → Adds (own_tables g label last (take k rs)) old new → Adds (own_tables g label last rs) old new
  tables_all k old new long adds = each_all said rs k old new long adds
