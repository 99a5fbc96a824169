-- Pointers of the format, and nodes that aren't holes alone.
use Rattle.std.proofs.Common.{◌≡◌, ◌≢◌, ◌≤◌, ◌<◌, ℕ, zero, suc, Bool, true, false, not, ◌&&◌, List, [], ◌∷◌, get_or, length, replicate, slice_set, inl, inr, ◌==◌, refl, sym, ap, subst, ◌∙◌, arith}
use Rattle.std.specs.List.{All}
use Rattle.std.proofs.lemmas.Bool.{cases_eq}
use Rattle.std.proofs.lemmas.Bool.Decides.{nat_tests}
use Rattle.std.proofs.lemmas.List.{get_or-set_same}
use Rattle.std.proofs.lemmas.List.Elements.{All-replicate}
use Rattle.fv_codec.specs.declared.pointer.Pointer.{Pointer}
use Rattle.fv_codec.specs.Fields.{up_to}
use Rattle.fv_codec.specs.Blocks.{IsPointer, all_holes, last_place, pointed}
use Rattle.fv_tree.specs.Spelled.{hole}
use Rattle.fv_tree.specs.Writing.{stamped}

pub hole_fits : IsPointer hole
hole_fits = record { vvbn = omega arith; pvbn = omega arith; stamp = omega arith }

pub holes_fit : All IsPointer (replicate 128 hole)
holes_fit = All-replicate IsPointer 128 hole hole_fits

-- where there is a stamp, any two numbers in range make a pointer
pub numbers_fit : (p : Pointer) → p.stamp ≢ 0 → p.vvbn ≤ last_place → p.pvbn ≤ last_place → p.stamp ≤ 0xffffffffffffffff → IsPointer p
numbers_fit p some vvbn pvbn stamp =
    let test : (p.stamp == 0) ≡ false = grind (arith, nat_tests) in record {
      vvbn = rw test vvbn;
      pvbn = rw test pvbn;
      stamp = stamp;
    }

in_place : (p : Pointer) (n : ℕ) → n ≤ pointed true p.stamp → n ≤ last_place
in_place p n le = elim (cases_eq p.stamp 0) [
  | inl none ↦ let test : (p.stamp == 0) ≡ true = grind (arith, nat_tests) in let low : n ≤ 0 = subst (λ b. n ≤ up_to (true && not b) last_place) test le in omega (arith, low)
  | inr some ↦ let test : (p.stamp == 0) ≡ false = grind (arith, nat_tests) in subst (λ b. n ≤ up_to (true && not b) last_place) test le
]

pub vvbn_fits : (p : Pointer) → IsPointer p → p.vvbn ≤ last_place
vvbn_fits p fits = in_place p p.vvbn fits.vvbn

pub pvbn_fits : (p : Pointer) → IsPointer p → p.pvbn ≤ last_place
pvbn_fits p fits = in_place p p.pvbn fits.pvbn

pub stamped_fits : (p : Pointer) (s : ℕ) → IsPointer p → 1 ≤ s → s ≤ 0xffffffffffffffff → IsPointer (stamped p s)
stamped_fits p s fits some most = numbers_fit (stamped p s) (omega arith) (vvbn_fits p fits) (pvbn_fits p fits) most

pub both : (b : Bool) → (b && false) ≡ false
both true = refl
both false = refl

-- one pointer that isn't a hole
pub one_filled : (xs : List Pointer) (i : ℕ) → (get_or xs i hole).stamp ≢ 0 → all_holes xs ≡ false
one_filled [] i some = absurd (some refl)
one_filled (x ∷ xs) zero some = let test : (x.stamp == 0) ≡ false = grind (arith, nat_tests) in ap (λ b. b && all_holes xs) test
one_filled (x ∷ xs) (suc i) some = ap (λ b. (x.stamp == 0) && b) (one_filled xs i some) ∙ both (x.stamp == 0)

pub set_filled : (xs : List Pointer) (i : ℕ) (p : Pointer) → i < length xs → p.stamp ≢ 0 → all_holes (slice_set xs i p) ≡ false
set_filled xs i p lt some = one_filled (slice_set xs i p) i (λ e. some (sym (ap (λ (q : Pointer). q.stamp) (get_or-set_same xs i p hole lt)) ∙ e))
