-- A slot whose container changed.
use Rattle.std.proofs.Common.{◌≡◌, ◌≢◌, ℕ, zero, suc, ◌<◌, List, [], ◌∷◌, length, Option, Some, None, refl, sym, ap, subst, ◌∙◌, arith, ⊎_elim}
use Rattle.std.specs.Prelude.{IfSome, IsTrue, slice_index_or}
use Rattle.std.proofs.lemmas.Bool.{cases_eq}
use Rattle.std.proofs.lemmas.List.{get_or-set_same, get_or-set_other}
use Rattle.fv_disk.specs.Shown.{Image, Shown}
use Rattle.fv_container.specs.Mapped.{Mapped}
use Rattle.fv_container.specs.Paged.{Paged}
use Rattle.fv_container.specs.Clean.{IsCleanOn}
use Rattle.fv_container.specs.Chains.{AreCleanOn, KeepsMaps, Slots, container_at, map_in, paged_at, with_container}

inside_of : {A : Type 0} (xs : List (Option A)) (k : ℕ) (x : A) → slice_index_or xs k None ≡ Some x → k < length xs
inside_of [] k x is = let isnt : None ≡ Some x = is in cc
inside_of (o ∷ xs) zero x is = omega arith
inside_of (o ∷ xs) (suc k) x is = let rest = inside_of xs k x is in omega (arith, rest)

module _ (old : Slots) (slot : ℕ) (was now : Paged) (there : paged_at old slot ≡ Some was) where
  abbrev new : Slots
  new = with_container old slot (Some now)

  pub paged_now : paged_at new slot ≡ Some now
  paged_now = get_or-set_same old.containers slot (Some now) None (inside_of old.containers slot was there)

  pub paged_beside : (s : ℕ) → s ≢ slot → paged_at new s ≡ paged_at old s
  paged_beside s other = get_or-set_other old.containers slot s (Some now) None other

  -- each container is clean where this one is
  pub clean_now : (i : Image) → (IsCleanOn i was → IsCleanOn i now) → AreCleanOn i old → AreCleanOn i new
  clean_now i stays clean s = ⊎_elim
      (λ (e : s ≡ slot). subst (λ (k : ℕ). IfSome (paged_at new k) (IsCleanOn i)) (sym e)
      (subst (λ (held : Option Paged). IfSome held (IsCleanOn i)) (sym paged_now) (stays (subst (λ (held : Option Paged). IfSome held (IsCleanOn i)) there (clean slot)))))
      (λ (ne : s ≢ slot). subst (λ (held : Option Paged). IfSome held (IsCleanOn i)) (sym (paged_beside s ne)) (clean s))
      (cases_eq s slot)

  -- it came into memory alone
  pub maps_kept : (disk : Shown) → now.map ≡ was.map → (IsTrue disk.tells → IsCleanOn disk.reads was → IsCleanOn disk.reads now) → KeepsMaps disk old new
  maps_kept disk same stays = record {
    maps = λ s. ⊎_elim
        (λ (e : s ≡ slot). subst (λ (k : ℕ). container_at new k ≡ container_at old k) (sym e) (ap map_in paged_now ∙ ap (λ (m : Mapped). Some m) same ∙ sym (ap map_in there)))
        (λ (ne : s ≢ slot). ap map_in (paged_beside s ne))
        (cases_eq s slot);
    parents = refl;
    clean = λ tells. clean_now disk.reads (stays tells.0) tells.1;
  }

-- nothing changed
pub maps_same : (disk : Shown) (slots : Slots) → KeepsMaps disk slots slots
maps_same disk slots = record { maps = λ s. refl; parents = refl; clean = λ tells. tells.1 }

-- one after another, over a disk that tells and reads the same
pub maps_then : (first second : Shown) (old mid new : Slots) → second.tells ≡ first.tells → second.reads ≡ first.reads → KeepsMaps first old mid → KeepsMaps second mid new → KeepsMaps first old new
maps_then first second old mid new tells reads one two = record {
  maps = λ s. two.maps s ∙ one.maps s;
  parents = two.parents ∙ one.parents;
  clean = λ told. subst (λ (i : Image). AreCleanOn i new) reads
      (two.clean (subst IsTrue (sym tells) told.0, subst (λ (i : Image). AreCleanOn i mid) (sym reads) (one.clean told)));
}
