-- A block that is placed, and another that is named as gone.
use Rattle.std.proofs.Common.{◌≡◌, ◌≢◌, ℕ, ◌⊎◌, inl, inr, Bool, true, false, cond, nat_eq, List, Some, None, is_some, refl, sym, ap, subst, ◌∙◌, arith}
use Rattle.std.specs.Ordering.{nat_cmp, eq_by_cmp}
use Rattle.std.specs.Cmp.{nat_cmp_total}
use Rattle.std.specs.FinMap as fin
use Rattle.std.proofs.lemmas.Bool.Decides.{nat_tests}
use Rattle.fv_codec.specs.declared.pointer.Pointer.{Pointer}
use Rattle.fv_tree.specs.Sources.{Shown, Drops, IsUntouched, Use}
use Rattle.fv_tree.specs.Flushing.{IsRight, Swaps}
use Rattle.fv_tree.proofs.Cases.{bit}

differs_eq : (w v : ℕ) → w ≢ v → nat_eq w v ≡ false
differs_eq w v differs = grind (arith, nat_tests)

differs_cmp : (w v : ℕ) → w ≢ v → eq_by_cmp nat_cmp w v ≡ false
differs_cmp w v differs = grind (arith, nat_tests)

same_eq : (v : ℕ) → nat_eq v v ≡ true
same_eq v = grind (arith, nat_tests)

same_cmp : (v : ℕ) → eq_by_cmp nat_cmp v v ≡ true
same_cmp v = grind (arith, nat_tests)

pub record IsPlacedAt (old : Shown) (kind : ℕ) (content : List ℕ) (v pvbn : ℕ) (new : Shown) : Type 0 where
  pub fresh : fin.get old.held v ≡ None
  pub unused : old.used v ≡ None
  pub held : new.held ≡ fin.insert old.held v content
  pub used : (w : ℕ) → new.used w ≡ cond (nat_eq w v) (Some (record { pvbn = pvbn; kind = kind })) (old.used w)
  pub strays : new.strays ≡ old.strays

module _ (old mid new : Shown) (kind : ℕ) (content : List ℕ) (named known : Bool) (r pvbn : ℕ) (p : Pointer) (placed : IsPlacedAt old kind content p.vvbn pvbn mid) (tells : known ≡ true → p.pvbn ≡ pvbn) (hides : known ≡ false → p.pvbn ≡ 0)
    (drops : named ≡ true → Drops mid r new) (untouched : named ≡ false → IsUntouched mid new) where
  abbrev taken : Use
  taken = record { pvbn = pvbn; kind = kind }

  dropped : (w : ℕ) → w ≢ r → Drops mid r new → fin.get new.held w ≡ fin.get mid.held w
  dropped w differs gone = elim gone.held [
    | inl e ↦ ap (λ h. fin.get h w) e ∙ fin.get-remove nat_cmp_total mid.held r w ∙ ap (λ b. cond b None (fin.get mid.held w)) (differs_cmp w r differs)
    | inr e ↦ ap (λ h. fin.get h w) e
  ]

  -- all but the one that was named stay
  stays : (w : ℕ) → (named ≡ false) ⊎ (w ≢ r) → (fin.get new.held w ≡ fin.get mid.held w) × (new.used w ≡ mid.used w)
  stays w (inl none) = let same = untouched none in (ap (λ h. fin.get h w) same.held, ap (λ u. u w) same.used)
  stays w (inr differs) = elim (bit named) [
    | inl none ↦ let same = untouched none in (ap (λ h. fin.get h w) same.held, ap (λ u. u w) same.used)
    | inr some ↦ let gone = drops some in (dropped w differs gone, gone.used w ∙ ap (λ b. cond b None (mid.used w)) (differs_eq w r differs))
  ]

  other : (named ≡ false) ⊎ (r ≢ p.vvbn) → (named ≡ false) ⊎ (p.vvbn ≢ r)
  other (inl none) = inl none
  other (inr differs) = inr (λ e. differs (sym e))

  -- the new block is in use with its kind and its PVBN
  now_used : (named ≡ false) ⊎ (r ≢ p.vvbn) → new.used p.vvbn ≡ Some taken
  now_used kept = (stays p.vvbn (other kept)).1 ∙ placed.used p.vvbn ∙ ap (λ b. cond b (Some taken) (old.used p.vvbn)) (same_eq p.vvbn)

  -- what was in use still is when the new block is
  still_used : (w : ℕ) → is_some (old.used w) ≡ true → is_some (mid.used w) ≡ true
  still_used w some = ap is_some (placed.used w) ∙ either (nat_eq w p.vvbn)
    where
      either : (b : Bool) → is_some (cond b (Some taken) (old.used w)) ≡ true
      either true = refl
      either false = some

  none_strays : (named ≡ true → is_some (old.used r) ≡ true) → new.strays ≡ old.strays
  none_strays in_use = elim (bit named) [
    | inl none ↦ (untouched none).strays ∙ placed.strays
    | inr some ↦ (drops some).named (still_used r (in_use some)) ∙ placed.strays
  ]

  right : IsRight kind p (Some taken)
  right = elim (bit known) [
    | inl hidden ↦ (inl (hides hidden), refl)
    | inr shown ↦ (inr (tells shown), refl)
  ]

  pub swapped : Swaps old kind content named known r p new
  swapped = record {
    fresh = placed.fresh;
    unused = placed.unused;
    block = λ kept. (stays p.vvbn (other kept)).0 ∙ ap (λ h. fin.get h p.vvbn) placed.held ∙ fin.get-insert nat_cmp_total old.held p.vvbn content p.vvbn ∙ ap (λ b. cond b (Some content) (fin.get old.held p.vvbn)) (same_cmp p.vvbn);
    used = λ kept. subst (IsRight kind p) (sym (now_used kept)) right;
    told = λ shown kept. now_used kept ∙ ap (λ n. Some (record { pvbn = n; kind = kind })) (sym (tells shown));
    unknown = hides;
    gone = λ some. (drops some).used r ∙ ap (λ b. cond b None (mid.used r)) (same_eq r);
    strays = none_strays;
    others = λ w differs kept. (
      (stays w kept).0 ∙ ap (λ h. fin.get h w) placed.held ∙ fin.get-insert nat_cmp_total old.held p.vvbn content w ∙ ap (λ b. cond b (Some content) (fin.get old.held w)) (differs_cmp w p.vvbn differs),
      (stays w kept).1 ∙ placed.used w ∙ ap (λ b. cond b (Some taken) (old.used w)) (differs_eq w p.vvbn differs),
    );
  }
