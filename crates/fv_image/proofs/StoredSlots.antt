-- A slot as an image stores it is sound by itself, and holds each of its blocks once.
use Rattle.std.proofs.Common.{◌≡◌, ◌≢◌, ℕ, zero, suc, ◌<◌, ◌≤◌, true, List, ◌++◌, sym, ap, subst, ◌∙◌, arith, ⊎_elim, inl, inr, ◌⊎◌, Ok}
use Rattle.std.specs.Prelude.{Option, Some, nat_le, nat_lt, flat_map}
use Rattle.std.proofs.lemmas.Bool.{and_from}
use Rattle.std.proofs.lemmas.Bool.Decides.{nat_tests}
use Rattle.fv_disk.specs.Shown.{Image}
use Rattle.fv_codec.specs.declared.label.Label.{Label}
use Rattle.fv_codec.specs.Blocks.{label_at}
use Rattle.fv_model.specs.Machines.{first_block}
use Rattle.fv_image.specs.NewerRoot.{Taken}
use Rattle.fv_image.specs.Containers.{shaped, level_width, node_of, node_verdict, has_none_past}
use Rattle.fv_image.specs.Views.{entry_count, vvbns}
use Rattle.fv_image.specs.Held.{Lying, layout_at, view_at, lying_at, label_place, label_lying, label_in, node_from, entry_from, place_lying, at_positions}
use Rattle.fv_image.specs.BlockRules.{is_place}
use Rattle.fv_image.specs.Whole.{times_held}
use Rattle.fv_image.specs.Reclaimed.{IsNodeOf, IsEntryPlace, IsAllocatable, entry_at}
use Rattle.fv_image.specs.SoundSlots.{AreDifferent, IsSoundSlot, IsSoundVolume, IsStoredSlot}
use Rattle.fv_image.proofs.Named.{is_in}
use Rattle.fv_image.proofs.SoundFacts.{lying_label}
use Rattle.fv_image.proofs.HeldPlaces.{in_either, in_entry, in_nodes, in_entries, in_place, node_blocks, entry_blocks, node_lies, held_list, held_is_block}
use Rattle.fv_image.proofs.ReclaimedSlots.{times, once_in_parts, once_in_two, once_in_lying, once_in_entry, nodes_are_once}

fits : (a b : ℕ) → a ≤ b → nat_le a b ≡ true
fits a b le = grind (arith, nat_tests)

lower : (a b : ℕ) → a < b → nat_lt a b ≡ true
lower a b lt = grind (arith, nat_tests)

module _ (t : Taken) (i : Image) (s : ℕ) (l : Label) (is : IsStoredSlot t i s l) where
  pub stored_label : label_in (label_lying t i s) ≡ Some l
  stored_label = lying_label i (label_place t s) is.some ∙ ap shaped is.label

  -- ---- each once

  module _ (apart : AreDifferent t i s l) (b : ℕ) where
    entries_are_once : times b (flat_map (entry_blocks i l) (vvbns l.span)) ≤ 1
    unfolding vvbns entry_from
    entries_are_once = once_in_parts b (entry_blocks i l) 0 (entry_count l.span)
        (λ v low high. once_in_entry b (entry_from (Some l) i v))
        (λ j k low order high one two.
        let a = in_entry i (entry_at i l j) b one in
        let c = in_entry i (entry_at i l k) b two in
        apart.entries j k order (omega (arith, high)) a.0 c.0 (sym a.1 ∙ c.1))

    -- It holds each block once.
    pub stored_once : times_held (layout_at t i) s b ≤ 1
    stored_once =
        let nodes = at_positions l (node_blocks i l) in
        let entries = flat_map (entry_blocks i l) (vvbns l.span) in
        subst (λ (xs : List ℕ). times b xs ≤ 1) (sym (held_list t i s l stored_label))
        (once_in_two b (place_lying (label_lying t i s)) (nodes ++ entries) (once_in_lying b (label_lying t i s))
        (once_in_two b nodes entries (nodes_are_once i l is.tree b) entries_are_once (λ node entry. apart.node_entry b (in_nodes t i s l stored_label b node) (in_entries t i s l stored_label b entry)))
        (λ label rest. label_not_rest (in_place i (label_place t s) b label).0 (in_rest rest)))
      where
        in_rest : is_in b (at_positions l (node_blocks i l) ++ flat_map (entry_blocks i l) (vvbns l.span)) ≡ true → IsNodeOf i l b ⊎ IsEntryPlace i l b
        in_rest rest = ⊎_elim (λ node. inl (in_nodes t i s l stored_label b node)) (λ entry. inr (in_entries t i s l stored_label b entry))
            (in_either b (at_positions l (node_blocks i l)) (flat_map (entry_blocks i l) (vvbns l.span)) rest)

        label_not_rest : b ≡ label_place t s → IsNodeOf i l b ⊎ IsEntryPlace i l b → ⊥
        label_not_rest label rest = ⊎_elim
            (λ (node : IsNodeOf i l b). apart.label_node (subst (λ (n : ℕ). IsNodeOf i l n) label node))
            (λ (entry : IsEntryPlace i l b). apart.label_entry (subst (λ (n : ℕ). IsEntryPlace i l n) label entry))
            rest

  -- ---- the slot

  lying_is : (p : ℕ) (x : Lying) → lying_at i p ≡ Some x → (p ≢ 0) × (x.block ≡ i p)
  lying_is zero x e = absurd cc
  lying_is (suc p) x e =
      let same : ◌≡◌ {A = Lying} (record { place = suc p; block = i (suc p) }) x = cc in
      ((λ none. omega (arith, none)), sym (ap (λ (y : Lying). y.block) same))

  -- a node is the block at its place, which isn't 0
  node_there : (level number : ℕ) (x : Lying) → level ≤ l.height → number < level_width (entry_count l.span) level → (layout_at t i).node s level number ≡ Some x
      → (node_of i l.container l.height level number ≢ 0) × (x.block ≡ i (node_of i l.container l.height level number))
  unfolding layout_at
  node_there level number x low within node =
      lying_is (node_of i l.container l.height level number) x (sym (node_lies i l level number low within) ∙ sym (ap (λ (o : Option Label). node_from o i level number) stored_label) ∙ node)

  node_is_fine : (level number : ℕ) (x : Lying) → level ≤ l.height → number < level_width (entry_count l.span) level → (layout_at t i).node s level number ≡ Some x → node_verdict level number x.block ≡ Ok tt
  node_is_fine level number x low within node =
      let lies = node_there level number x low within node in
      subst (λ (block : List ℕ). node_verdict level number block ≡ Ok tt) (sym lies.1) (is.tree.nodes level number low within lies.0)

  node_ends : (level number : ℕ) (x : Lying) → level ≤ l.height → number < level_width (entry_count l.span) level → (layout_at t i).node s level number ≡ Some x → has_none_past (entry_count l.span) level number x.block ≡ true
  node_ends level number x low within node =
      let lies = node_there level number x low within node in
      subst (λ (block : List ℕ). has_none_past (entry_count l.span) level number block ≡ true) (sym lies.1) (is.ends.nodes level number low within lies.0)

  allocatable : (b : ℕ) → IsAllocatable t.blocks b → is_place (layout_at t i) b ≡ true
  unfolding layout_at view_at
  allocatable b is = and_from _ _ (fits (first_block t.blocks) b is.0) (lower b t.blocks is.1)

  -- It is sound.
  pub stored_is_sound : IsSoundSlot (layout_at t i) s
  unfolding layout_at
  stored_is_sound = record {
    volume = λ x lies. (l, ap label_at (lying_is (label_place t s) x lies).1 ∙ is.label, volume);
    places = λ b held. allocatable b (is.places b (held_is_block t i s l stored_label b held));
  }
    where
      volume : IsSoundVolume (layout_at t i) s l
      volume = record {
        root = is.root;
        height = is.height;
        nodes = node_is_fine;
        ends = node_ends;
        maps = is.maps;
      }
