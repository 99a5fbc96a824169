-- A read by a known pointer: the block at its hint is the one under its VVBN, wherever along the chain of bases that is found.
use Rattle.std.proofs.Common.{◌≡◌, ◌≢◌, ℕ, zero, suc, Bool, true, false, refl, sym, ap, subst, ◌∙◌, arith}
use Rattle.std.specs.Prelude.{Option, Some, None, ◌||◌, ◌==◌, nat_lt, List, if◌then◌else◌}
use Rattle.std.specs.Option.{option_map, option_and_then, option_or}
use Rattle.std.proofs.lemmas.Bool.Decides.{nat_tests}
use Rattle.fv_disk.specs.Shown.{Image}
use Rattle.fv_codec.specs.declared.pointer.Pointer.{Pointer}
use Rattle.fv_codec.specs.declared.label.Label.{Label}
use Rattle.fv_image.specs.NewerRoot.{Taken}
use Rattle.fv_image.specs.Containers.{container_entry}
use Rattle.fv_image.specs.Views.{Placed, View, entry_count}
use Rattle.fv_image.specs.Held.{label_in, label_lying, entry_from, placed, view_at}
use Rattle.fv_image.specs.Chains.{along, parent_in, span_at, place, under}
use Rattle.fv_image.specs.HintRules.{is_true_hint}

-- a known hint that is right is the place of what is found
pub hint_leads : (p : Pointer) (at : Option Placed) → is_true_hint p at ≡ true → p.pvbn ≢ 0 → (x : Placed) × ((at ≡ Some x) × (x.pvbn ≡ p.pvbn))
hint_leads p None is some = let none : (p.pvbn == 0) ≡ false = grind (arith, nat_tests, some) in absurd (wrong (sym (ap (λ (b : Bool). b || false) none) ∙ is))
  where
    wrong : false ≡ true → ⊥
    wrong e = cc
hint_leads p (Some x) is some =
    let none : (p.pvbn == 0) ≡ false = grind (arith, nat_tests, some) in
    let same : (x.pvbn == p.pvbn) ≡ true = sym (ap (λ (b : Bool). b || (x.pvbn == p.pvbn)) none) ∙ is in
    (x, (refl, grind (arith, nat_tests, same)))

-- what is found along a chain is an entry of one of its volumes
along_is : (w : View) (n s v : ℕ) (x : Placed) → along w n s v ≡ Some x → (k : ℕ) × (w.entry k v ≡ Some x)
unfolding along
along_is w zero s v x e = absurd cc
along_is w (suc n) s v x e = so (λ p f. along_is w n p v x f) (w.entry s v) refl (parent_in (w.head s)) e
  where
    so : ((p : ℕ) → along w n p v ≡ Some x → (k : ℕ) × (w.entry k v ≡ Some x)) → (o : Option Placed) → w.entry s v ≡ o → (parent : Option ℕ) → option_or o (option_and_then (λ p. along w n p v) parent) ≡ Some x → (k : ℕ) × (w.entry k v ≡ Some x)
    so rest (Some y) own parent e = (s, own ∙ e)
    so rest None own None e = absurd cc
    so rest None own (Some p) e = rest p e

pub place_is : (w : View) (s v : ℕ) (x : Placed) → place w s v ≡ Some x → (k : ℕ) × (w.entry k v ≡ Some x)
unfolding place
place_is w s v x e = so (nat_lt v (span_at w s)) e
  where
    so : (b : Bool) → (if b then along w 64 s v else w.entry s v) ≡ Some x → (k : ℕ) × (w.entry k v ≡ Some x)
    so true e = along_is w 64 s v x e
    so false e = (s, e)

-- an entry of an image has the block at its place
entry_block : (i : Image) (o : Option Label) (v : ℕ) (x : Placed) → entry_from o i v ≡ Some x → x.block ≡ i x.pvbn
unfolding entry_from
entry_block i None v x e = absurd cc
entry_block i (Some l) v x e = so (container_entry i l.container l.height (entry_count l.span) v) e
  where
    by : (c : ℕ × ℕ) → (hole : Bool) → (if hole then None else Some (record { pvbn = c.0; kind = c.1; block = i c.0 })) ≡ Some x → x.block ≡ i x.pvbn
    by c true e = absurd cc
    by c false e = let same : ◌≡◌ {A = Placed} (record { pvbn = c.0; kind = c.1; block = i c.0 }) x = cc in subst (λ (y : Placed). y.block ≡ i y.pvbn) same refl

    so : (c : ℕ × ℕ) → placed i c ≡ Some x → x.block ≡ i x.pvbn
    so c e = by c (c.1 == 0) e

-- The block under a VVBN is the one at a right hint.
pub read_by_hint : (t : Taken) (i : Image) (s v : ℕ) (p : Pointer) → is_true_hint p (place (view_at t i) s v) ≡ true → p.pvbn ≢ 0 → under (view_at t i) s v ≡ Some (i p.pvbn)
unfolding under view_at
read_by_hint t i s v p is some =
    let found = hint_leads p (place (view_at t i) s v) is some in
    let entry = place_is (view_at t i) s v found.0 found.1.0 in
    let block : found.0.block ≡ i found.0.pvbn = entry_block i (label_in (label_lying t i entry.0)) v found.0 entry.1 in
    ap (option_map (λ x. x.block)) found.1.0 ∙ ap (λ (b : List ℕ). Some b) (block ∙ ap i found.1.1)
