-- Pointers that tell right PVBNs, and nodes that hold unknown pointers.
use Rattle.std.proofs.Common.{◌≡◌, ◌≢◌, ◌<◌, ℕ, ◌⊎◌, inl, inr, Bool, true, false, not, ◌&&◌, List, [], ◌∷◌, suc, Option, Some, None, is_some, get_or, length, refl, sym, ap, subst, ◌∙◌, arith, ◌==◌}
use Rattle.std.specs.List.{list_any}
use Rattle.std.proofs.lemmas.Bool.{cases_eq}
use Rattle.std.proofs.lemmas.Bool.Decides.{nat_tests}
use Rattle.fv_codec.specs.declared.inode.InodeRecord.{InodeRecord}
use Rattle.fv_codec.specs.declared.pointer.Pointer.{Pointer}
use Rattle.fv_codec.specs.Blocks.{greatest_word}
use Rattle.fv_model.specs.Trees.{fan}
use Rattle.fv_tables.specs.Told.{records_in}
use Rattle.fv_tree.specs.Sources.{Use}
use Rattle.fv_tree.specs.Spelled.{hole}
use Rattle.fv_tree.specs.Flushing.{HasKind, IsRight, is_unknown, all_known, has_unknown_root}
use Rattle.fv_tree.proofs.Pointers.{both}

other_hint : (k : ℕ) (p r : Pointer) (use_ : Option Use) → r.pvbn ≡ p.pvbn → IsRight k p use_ → IsRight k r use_
other_hint k p r None same is = is
other_hint k p r (Some x) same (inl unknown, kind) = (inl (same ∙ unknown), kind)
other_hint k p r (Some x) same (inr known, kind) = (inr (same ∙ known), kind)

-- another pointer that tells the same of the same use
pub right_as : (k l : ℕ) → l ≡ k → (p r : Pointer) (old new : Option Use) → r.pvbn ≡ p.pvbn → new ≡ old → IsRight k p old → IsRight l r new
right_as k l level p r old new same use_ is = subst (λ (kind : ℕ). IsRight kind r new) (sym level) (subst (IsRight k r) (sym use_) (other_hint k p r old same is))

-- what a pointer is right of is in use
pub right_some : (k : ℕ) (p : Pointer) (use_ : Option Use) → IsRight k p use_ → is_some use_ ≡ true
right_some k p None is = absurd is
right_some k p (Some x) is = refl

-- and has the kind
pub right_kind : (k : ℕ) (p : Pointer) (use_ : Option Use) → IsRight k p use_ → HasKind k use_
right_kind k p None is = is
right_kind k p (Some x) is = is.1

-- a node in memory holds an unknown pointer
pub record HasUnknown (node : Option (List Pointer)) : Type 0 where
  pub xs : List Pointer
  pub held : node ≡ Some xs
  pub slot : ℕ
  pub low : slot < fan
  pub some : (get_or xs slot hole).stamp ≢ 0
  pub unknown : (get_or xs slot hole).pvbn ≡ 0

no : {P : Type 0} (b : Bool) → b ≡ false → b ≡ true → P
no b e f = absurd (grind (arith, e, f))

pub unknown_is : (p : Pointer) → is_unknown p ≡ true → (p.stamp ≢ 0) × (p.pvbn ≡ 0)
unknown_is p is = (
  (λ e. let test : (p.stamp == 0) ≡ true = grind (arith, nat_tests) in no (is_unknown p) (ap (λ b. not b && (p.pvbn == 0)) test) is),
  elim (cases_eq p.pvbn 0) [
    | inl e ↦ e
    | inr differs ↦ let test : (p.pvbn == 0) ≡ false = grind (arith, nat_tests) in no (is_unknown p) (ap (λ b. not (p.stamp == 0) && b) test ∙ both (not (p.stamp == 0))) is
  ],
)

which : (b : Bool) → (b ≡ false) ⊎ (b ≡ true)
which false = inl refl
which true = inr refl

-- pointers that aren't all known
pub find_unknown : (xs : List Pointer) → all_known xs ≡ false → (slot : ℕ) × (slot < length xs) × ((get_or xs slot hole).stamp ≢ 0) × ((get_or xs slot hole).pvbn ≡ 0)
find_unknown [] e = no true e refl
find_unknown (x ∷ xs) e = elim (which (is_unknown x)) [
  | inr yes_ ↦ let is = unknown_is x yes_ in (0, omega arith, is.0, is.1)
  | inl known ↦ let rest = find_unknown xs (sym (ap (λ b. not b && all_known xs) known) ∙ e) in (suc rest.0, omega (arith, rest.1), rest.2, rest.3)
]

-- ---- roots of files in an inode block

-- an inode block in memory holds an unknown root
pub record HasUnknownRoot (owner : ℕ) (cell : Option (List ℕ)) : Type 0 where
  pub block : List ℕ
  pub held : cell ≡ Some block
  pub unknown : has_unknown_root owner block ≡ true

-- the same block of the same owner
pub same_root : (owner other : ℕ) (one two : List ℕ) → other ≡ owner → Some one ≡ Some two → has_unknown_root owner one ≡ has_unknown_root other two
same_root owner other one two owned same =
    λ i. (sym owned i == greatest_word) && list_any (λ (r : InodeRecord). is_unknown r.root) (records_in (same i))

-- a test that failed
pub not_false : (b : Bool) → not b ≡ false → b ≡ true
not_false true e = refl
not_false false e = no true e refl

-- a place that isn't told, though it isn't hidden
pub not_told : (hides b : Bool) → hides ≡ false → (not hides && b) ≡ false → b ≡ false
not_told hides b tells e = sym (ap (λ h. not h && b) tells) ∙ e

pub hides_all : (hides b : Bool) → hides ≡ true → (not hides && b) ≡ false
hides_all hides b hide = ap (λ h. not h && b) hide
