-- What a crash leaves at each step of a commit.
use Rattle.std.proofs.Common.{◌≡◌, ℕ, ◌+◌, ◌*◌, ◌/◌, ◌%◌, ◌^◌, ◌<◌, ◌≤◌, List, length, Bool, true, false, refl, sym, ap, subst, ◌∙◌, arith, inl, inr, ⊎_elim, ◌⊎◌}
use Rattle.std.specs.Prelude.{Some}
use Rattle.std.proofs.lemmas.List.{get_or_past}
use Rattle.std.proofs.lemmas.Bool.{cases_lt}
use Rattle.std.proofs.lemmas.Bool.Decides.{nat_tests}
use Rattle.fv_disk.specs.Shown.{Image, Shown}
use Rattle.fv_codec.specs.declared.root.Root.{Root}
use Rattle.fv_codec.specs.Blocks.{gate_open, root_at}
use Rattle.fv_bits.specs.Bits.{bit_of_area}
use Rattle.fv_bits.specs.Members.{IsBlockOf, is_member}
use Rattle.fv_image.specs.Layout.{superblock, gate_place, root_place, area_blocks}
use Rattle.fv_image.specs.NewerRoot.{Taken, behind, root_of}
use Rattle.fv_image.specs.Maps.{area_bits, map_bit}
use Rattle.fv_root.specs.declared.find.Found.{Found}
use Rattle.fv_root.specs.Formatted.{SameVolumes}
use Rattle.fv_root.specs.Finding.{IsFound, other_slot, root_found}
use Rattle.fv_disk.specs.Sparing.{AgreeOn, LeftBefore}
use Rattle.fv_root.specs.Commits.{IsFoundOn, IsNotGate, IsOutside, IsShut, IsStaged, HasArea, NewSide, OldSide, next_found, next_root}
use Rattle.fv_root.proofs.Rooted.{Holds, holds, holds_still, counts_alone, counts_next, closed, opened, same_root}
use Rattle.fv_root.proofs.Apart.{super_not_gate, gate_not_gate, root_not_gate, area_not_gate, volume_not_gate, super_outside, gate_outside, root_outside, area_outside, volume_outside, is_small}

either : (b : Bool) → (b ≡ false) ⊎ (b ≡ true)
either false = inl refl
either true = inr refl

-- ---- the older gate

-- A write of the older gate leaves what holds the root that counts.
pub gate_leaves : (i c : Image) (t : Taken) → Holds i t → AgreeOn (IsNotGate (other_slot t.slot)) i c → Holds c t
gate_leaves i c t h same = holds_still i c t h
    (same superblock (super_not_gate (other_slot t.slot)))
    (same (gate_place t.slot) (gate_not_gate t.slot h.slot))
    (same (root_place t.slot) (root_not_gate t.slot t.slot h.slot))

-- An image that a write of the open gate of the older slot may leave: closed or open, the old root counts.
pub closing_counts : (i c : Image) (found : Found) → IsFound i found → found.older_open ≡ true → AgreeOn (IsNotGate (other_slot found.slot)) i c → root_of c ≡ Some (root_found found)
closing_counts i c found is was_open same =
    let t : Taken = root_found found in
    let h : Holds i t = holds i t is.root in
    let g : Holds c t = gate_leaves i c t h same in
    let slot = other_slot found.slot in
    ⊎_elim
    (λ shut. counts_alone c t g (closed c slot shut))
    (λ open'. let gate : gate_open (c (gate_place slot)) ≡ gate_open (i (gate_place slot)) = open' ∙ sym (is.older ∙ was_open) in
    let there : behind c slot ≡ behind i slot = rw (gate, same (root_place slot) (root_not_gate found.slot slot h.slot)) refl in
    as_before i c t h g there ∙ is.root)
    (either (gate_open (c (gate_place slot))))
  where
    as_before : (i c : Image) (t : Taken) → Holds i t → Holds c t → behind c (other_slot t.slot) ≡ behind i (other_slot t.slot) → root_of c ≡ root_of i
    as_before i c t h g there = ⊎_elim
        (λ (e : t.slot ≡ 0). same_root c i (g.super ∙ sym h.super)
        (ap (behind c) (sym e) ∙ (g.root ∙ sym h.root) ∙ ap (behind i) e)
        (ap (λ (n : ℕ). behind c (other_slot n)) (sym e) ∙ there ∙ ap (λ (n : ℕ). behind i (other_slot n)) e))
        (λ (e : t.slot ≡ 1). same_root c i (g.super ∙ sym h.super)
        (ap (λ (n : ℕ). behind c (other_slot n)) (sym e) ∙ there ∙ ap (λ (n : ℕ). behind i (other_slot n)) e)
        (ap (behind c) (sym e) ∙ (g.root ∙ sym h.root) ∙ ap (behind i) e))
        h.slot

-- what a write of the older gate leaves of an image of before, where that gate was open
pub closing_side : (old : Shown) (found : Found) (c : Image) → IsFoundOn old found → found.older_open ≡ true → LeftBefore (IsNotGate (other_slot found.slot)) old c → OldSide old found c
closing_side old found c stands was_open left =
    let is : IsFound left.0 found = stands.images left.0 left.1 in
    let h : Holds left.0 (root_found found) = holds left.0 (root_found found) is.root in
    record {
      counts = closing_counts left.0 c found is was_open left.2;
      from = left.0;
      left = left.1;
      area = λ k below. left.2 _ (area_not_gate found.blocks found.slot found.slot k h.slot);
      volumes = λ b le. left.2 b (volume_not_gate found.blocks found.slot b h.slot le);
    }

-- ---- behind the closed gate

pub shut_still : (old : Shown) (found : Found) (i c : Image) → IsShut old found i → AgreeOn (IsOutside found.blocks (other_slot found.slot)) i c → IsShut old found c
shut_still old found i c shut same =
    let t : Taken = root_found found in
    let h : Holds i t = holds i t shut.side.counts in
    let slot = other_slot found.slot in
    let g : Holds c t = holds_still i c t h
    (same superblock (super_outside found.blocks slot))
    (same (gate_place found.slot) (gate_outside found.blocks slot found.slot (is_small found.slot h.slot)))
    (same (root_place found.slot) (root_outside found.blocks found.slot h.slot)) in
    let gate : gate_open (c (gate_place slot)) ≡ false = ap gate_open (same (gate_place slot) (gate_outside found.blocks slot slot (omega arith))) ∙ shut.gate in
    record {
      side = record {
        counts = counts_alone c t g (closed c slot gate);
        from = shut.side.from;
        left = shut.side.left;
        area = λ k below. same _ (area_outside found.blocks found.slot k h.slot below) ∙ shut.side.area k below;
        volumes = λ b le. same b (volume_outside found.blocks found.slot b h.slot le) ∙ shut.side.volumes b le;
      };
      gate = gate;
    }

-- ---- the new root

-- the bits of a map area that was written
pub map_is : (t : Taken) (i : Image) (map : List Bool) → length map ≡ t.blocks → HasArea t.blocks t.slot map (area_blocks t.blocks) i → (b : ℕ) → map_bit t i b ≡ is_member map b
unfolding map_bit bit_of_area is_member
map_is t i map long area b = ⊎_elim
    (λ (inside : b < area_bits t.blocks).
    let within : b / 32768 < area_blocks t.blocks = omega arith in
    let bit = (area (b / 32768) within).bits (b % 32768) (omega arith) in
    let e : 32768 * (b / 32768) + b % 32768 ≡ b = omega arith in
    rw (bit, e) (grind (arith, nat_tests)))
    (λ (past : area_bits t.blocks ≤ b).
    let none = get_or_past map b false (omega arith) in
    grind (arith, nat_tests))
    (cases_lt b (area_bits t.blocks))

-- the new root behind an open gate
pub opened_side : (old : Shown) (found : Found) (root : Root) (map : List Bool) (i c : Image) → Holds i (root_found found) → IsStaged found.blocks (other_slot found.slot) (next_root found root) map i → SameVolumes found.blocks old.reads i → found.root.generation < 2 ^ 64 → length map ≡ found.blocks → AgreeOn (IsNotGate (other_slot found.slot)) i c → gate_open (c (gate_place (other_slot found.slot))) ≡ true → NewSide old found root map c
opened_side old found root map i c h staged volumes small long same gate =
    let t : Taken = root_found found in
    let slot = other_slot found.slot in
    let g : Holds c t = gate_leaves i c t h same in
    let there = opened c slot (next_root found root) gate (ap root_at (same (root_place slot) (root_not_gate found.slot slot h.slot)) ∙ staged.spells) in
    record {
      counts = counts_next c t (next_root found root) g there small refl;
      bits = map_is (root_found (next_found found root)) c map long (λ k below. subst (IsBlockOf map k) (sym (same _ (area_not_gate found.blocks found.slot slot k h.slot))) (staged.area k below));
      volumes = λ b le. same b (volume_not_gate found.blocks found.slot b h.slot le) ∙ volumes b le;
    }

-- what a write of the closed gate of the older slot leaves: closed or open, one side counts
pub opening_side : (old : Shown) (found : Found) (root : Root) (map : List Bool) (i c : Image) → IsShut old found i → IsStaged found.blocks (other_slot found.slot) (next_root found root) map i → SameVolumes found.blocks old.reads i → found.root.generation < 2 ^ 64 → length map ≡ found.blocks → AgreeOn (IsNotGate (other_slot found.slot)) i c → OldSide old found c ⊎ NewSide old found root map c
opening_side old found root map i c shut staged volumes small long same =
    let t : Taken = root_found found in
    let slot = other_slot found.slot in
    let h : Holds i t = holds i t shut.side.counts in
    ⊎_elim
    (λ (gate : gate_open (c (gate_place slot)) ≡ false). inl (record {
      counts = counts_alone c t (gate_leaves i c t h same) (closed c slot gate);
      from = shut.side.from;
      left = shut.side.left;
      area = λ k below. same _ (area_not_gate found.blocks found.slot found.slot k h.slot) ∙ shut.side.area k below;
      volumes = λ b le. same b (volume_not_gate found.blocks found.slot b h.slot le) ∙ shut.side.volumes b le;
    }))
    (λ (gate : gate_open (c (gate_place slot)) ≡ true). inr (opened_side old found root map i c h staged volumes small long same gate))
    (either (gate_open (c (gate_place slot))))
