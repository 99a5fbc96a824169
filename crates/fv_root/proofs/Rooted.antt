-- The root of an image, from the few blocks that it depends on.
use Rattle.std.proofs.Common.{◌≡◌, ℕ, ◌+◌, ◌%◌, ◌^◌, ◌<◌, Bool, true, false, refl, sym, ap, subst, ◌∙◌, arith, inl, inr, ⊎_elim, ◌⊎◌, Ok, Err, Result}
use Rattle.std.specs.Prelude.{Option, Some, None, ◌≢◌, if◌then◌else◌}
use Rattle.std.proofs.lemmas.Bool.Decides.{nat_tests}
use Rattle.fv_disk.specs.Shown.{Image}
use Rattle.fv_codec.specs.declared.shape.Shape.{Shape}
use Rattle.fv_codec.specs.declared.superblock.Super.{Super}
use Rattle.fv_codec.specs.declared.root.Root.{Root}
use Rattle.fv_codec.specs.Blocks.{super_at, gate_open, root_at}
use Rattle.fv_image.specs.Layout.{superblock, gate_place, root_place}
use Rattle.fv_image.specs.NewerRoot.{Taken, behind, follows, newer, taken_of, root_of}
use Rattle.fv_root.specs.Finding.{other_slot}

-- what an image has where its root counts
pub record Holds (i : Image) (t : Taken) : Type 0 where
  pub super : super_at (i superblock) ≡ Ok (record { blocks = t.blocks })
  pub slot : (t.slot ≡ 0) ⊎ (t.slot ≡ 1)
  pub root : behind i t.slot ≡ Some (Ok t.root)

-- the slot that counts has the root that counts
abbrev IsFrom : Option (Result Root Shape) → Option (Result Root Shape) → ℕ → Root → Type 0
IsFrom first second slot root = ((slot ≡ 0) × (first ≡ Some (Ok root))) ⊎ ((slot ≡ 1) × (second ≡ Some (Ok root)))

-- a chosen slot and root, field by field
chosen_is : (a b : ℕ) (r s : Root) → ◌≡◌ {A = Option (ℕ × Root)} (Some (a, r)) (Some (b, s)) → (b ≡ a) × (r ≡ s)
chosen_is a b r s e =
    let same : ◌≡◌ {A = ℕ × Root} (a, r) (b, s) = cc in
    (sym (ap (λ (p : ℕ × Root). p.0) same), ap (λ (p : ℕ × Root). p.1) same)

newer_from : (first second : Option (Result Root Shape)) (slot : ℕ) (root : Root) → newer first second ≡ Some (slot, root) → IsFrom first second slot root
newer_from None None slot root e = absurd cc
newer_from (Some (Ok one)) None slot root e = let is = chosen_is 0 slot one root e in inl (is.0, ap (λ (r : Root). Some (Ok r)) is.1)
newer_from None (Some (Ok two)) slot root e = let is = chosen_is 1 slot two root e in inr (is.0, ap (λ (r : Root). Some (Ok r)) is.1)
newer_from (Some (Ok one)) (Some (Ok two)) slot root e = chosen (follows two.generation one.generation) e
  where
    chosen : (later : Bool) → if◌then◌else◌ {A = Option (ℕ × Root)} later (Some (1, two)) (Some (0, one)) ≡ Some (slot, root) → IsFrom (Some (Ok one)) (Some (Ok two)) slot root
    chosen true e = let is = chosen_is 1 slot two root e in inr (is.0, ap (λ (r : Root). Some (Ok r)) is.1)
    chosen false e = let is = chosen_is 0 slot one root e in inl (is.0, ap (λ (r : Root). Some (Ok r)) is.1)
newer_from (Some (Err fault)) second slot root e = absurd cc
newer_from None (Some (Err fault)) slot root e = absurd cc
newer_from (Some (Ok one)) (Some (Err fault)) slot root e = absurd cc

pub holds : (i : Image) (t : Taken) → root_of i ≡ Some t → Holds i t
unfolding root_of
holds i t e = so (super_at (i superblock)) (newer (behind i 0) (behind i 1)) refl refl e
  where
    so : (super : Result Super Shape) (chosen : Option (ℕ × Root)) → super_at (i superblock) ≡ super → newer (behind i 0) (behind i 1) ≡ chosen → taken_of super chosen ≡ Some t → Holds i t
    so (Err fault) chosen s n e = absurd cc
    so (Ok super) None s n e = absurd cc
    so (Ok super) (Some chosen) s n e =
        let is : record { blocks = super.blocks; slot = chosen.0; root = chosen.1 } ≡ t = cc in
        let from = newer_from (behind i 0) (behind i 1) chosen.0 chosen.1 n in
        subst (Holds i) is (record {
          super = s;
          slot = ⊎_elim (λ f. inl f.0) (λ f. inr f.0) from;
          root = ⊎_elim (λ f. ap (behind i) f.0 ∙ f.1) (λ f. ap (behind i) f.0 ∙ f.1) from;
        })

-- where the other slot's gate is closed, the root that an image holds counts
pub counts_alone : (i : Image) (t : Taken) → Holds i t → behind i (other_slot t.slot) ≡ None → root_of i ≡ Some t
unfolding root_of
counts_alone i t h shut = so t.slot h.slot refl
  where
    so : (slot : ℕ) → (slot ≡ 0) ⊎ (slot ≡ 1) → t.slot ≡ slot → root_of i ≡ Some t
    so slot (inl e) is =
        let e0 : t.slot ≡ 0 = is ∙ e in
        let one : behind i 0 ≡ Some (Ok t.root) = ap (behind i) (sym e0) ∙ h.root in
        let two : behind i 1 ≡ None = ap (λ (n : ℕ). behind i (other_slot n)) (sym e0) ∙ shut in
        rw (h.super, one, two) (ap (λ (n : ℕ). let w : Taken = record { blocks = t.blocks; slot = n; root = t.root } in Some w) (sym e0))
    so slot (inr e) is =
        let e1 : t.slot ≡ 1 = is ∙ e in
        let two : behind i 1 ≡ Some (Ok t.root) = ap (behind i) (sym e1) ∙ h.root in
        let one : behind i 0 ≡ None = ap (λ (n : ℕ). behind i (other_slot n)) (sym e1) ∙ shut in
        rw (h.super, one, two) (ap (λ (n : ℕ). let w : Taken = record { blocks = t.blocks; slot = n; root = t.root } in Some w) (sym e1))

-- the roots of two images that agree on what a root depends on
pub same_root : (i j : Image) → super_at (i superblock) ≡ super_at (j superblock) → behind i 0 ≡ behind j 0 → behind i 1 ≡ behind j 1 → root_of i ≡ root_of j
unfolding root_of
same_root i j super one two = rw (super, one, two) refl

-- of two roots the one whose generation follows the other's counts
follows_it : (old new : ℕ) → new ≡ (old + 1) % 2 ^ 64 → follows new old ≡ true
follows_it old new e = grind (arith, nat_tests)

follows_not : (old new : ℕ) → old < 2 ^ 64 → new ≡ (old + 1) % 2 ^ 64 → follows old new ≡ false
follows_not old new small e =
    let ne : old ≢ (new + 1) % 2 ^ 64 = omega arith in
    grind (arith, nat_tests)

pub counts_next : (i : Image) (t : Taken) (next : Root) → Holds i t → behind i (other_slot t.slot) ≡ Some (Ok next) → t.root.generation < 2 ^ 64 → next.generation ≡ (t.root.generation + 1) % 2 ^ 64
    → root_of i ≡ Some (record { blocks = t.blocks; slot = other_slot t.slot; root = next })
unfolding root_of
counts_next i t next h there small after = so h.slot
  where
    so : (t.slot ≡ 0) ⊎ (t.slot ≡ 1) → root_of i ≡ Some (record { blocks = t.blocks; slot = other_slot t.slot; root = next })
    so (inl e) =
        let one : behind i 0 ≡ Some (Ok t.root) = ap (behind i) (sym e) ∙ h.root in
        let two : behind i 1 ≡ Some (Ok next) = ap (λ (n : ℕ). behind i (other_slot n)) (sym e) ∙ there in
        rw (h.super, one, two, follows_it t.root.generation next.generation after, e) refl
    so (inr e) =
        let two : behind i 1 ≡ Some (Ok t.root) = ap (behind i) (sym e) ∙ h.root in
        let one : behind i 0 ≡ Some (Ok next) = ap (λ (n : ℕ). behind i (other_slot n)) (sym e) ∙ there in
        rw (h.super, one, two, follows_not t.root.generation next.generation small after, e) refl

pub closed : (i : Image) (slot : ℕ) → gate_open (i (gate_place slot)) ≡ false → behind i slot ≡ None
closed i slot shut = rw shut refl

pub opened : (i : Image) (slot : ℕ) (root : Root) → gate_open (i (gate_place slot)) ≡ true → root_at (i (root_place slot)) ≡ Ok root → behind i slot ≡ Some (Ok root)
opened i slot root gate there = rw (gate, there) refl

-- the gate before a root that counts is open
pub is_open : (i : Image) (slot : ℕ) (root : Root) → behind i slot ≡ Some (Ok root) → gate_open (i (gate_place slot)) ≡ true
is_open i slot root e = so (gate_open (i (gate_place slot))) e
  where
    so : (gate : Bool) → (if gate then Some (root_at (i (root_place slot))) else None) ≡ Some (Ok root) → gate ≡ true
    so true e = refl
    so false e = absurd cc

-- what stands behind a gate depends on two blocks
pub same_behind : (i j : Image) (slot : ℕ) → i (gate_place slot) ≡ j (gate_place slot) → i (root_place slot) ≡ j (root_place slot) → behind i slot ≡ behind j slot
same_behind i j slot gate root = rw (gate, root) refl

-- an image that agrees on the superblock and on a slot that holds the root
pub holds_still : (i j : Image) (t : Taken) → Holds i t → j superblock ≡ i superblock → j (gate_place t.slot) ≡ i (gate_place t.slot) → j (root_place t.slot) ≡ i (root_place t.slot) → Holds j t
holds_still i j t h super gate root = record {
  super = ap super_at super ∙ h.super;
  slot = h.slot;
  root = same_behind j i t.slot gate root ∙ h.root;
}

-- the root that stands behind a gate
pub spelled : (i : Image) (slot : ℕ) (root : Root) → behind i slot ≡ Some (Ok root) → root_at (i (root_place slot)) ≡ Ok root
spelled i slot root e = so (gate_open (i (gate_place slot))) e
  where
    so : (gate : Bool) → (if gate then Some (root_at (i (root_place slot))) else None) ≡ Some (Ok root) → root_at (i (root_place slot)) ≡ Ok root
    so true e = cc
    so false e = absurd cc
