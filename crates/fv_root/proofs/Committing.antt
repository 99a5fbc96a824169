-- The steps of a commit, put together.
use Rattle.std.proofs.Common.{◌≡◌, ℕ, ◌^◌, ◌<◌, List, length, Bool, true, replicate, sym, ap, subst, ◌∙◌, arith, inl, ⊎_elim}
use Rattle.std.specs.Prelude.{Result, Ok, Err, OnOk, IsTrue}
use Rattle.fv_disk.specs.declared.Failed.{Failed}
use Rattle.fv_disk.specs.Shown.{Image, Shown, IsSettled, IsDisk}
use Rattle.fv_disk.specs.DiskCalls.{Counted}
use Rattle.fv_disk.specs.Crash.{Leaves}
use Rattle.fv_disk.proofs.Moments.{then, weaken}
use Rattle.fv_codec.specs.declared.root.Root.{Root}
use Rattle.fv_codec.specs.Blocks.{super_at, gate_open, root_at}
use Rattle.fv_bits.specs.Members.{IsBlockOf}
use Rattle.fv_image.specs.Layout.{gate_place, root_place}
use Rattle.fv_image.specs.NewerRoot.{Taken}
use Rattle.fv_root.specs.declared.find.Found.{Found}
use Rattle.fv_root.specs.Formatted.{SameVolumes}
use Rattle.fv_root.specs.Finding.{IsFound, other_slot, root_found}
use Rattle.fv_disk.specs.Sparing.{AgreeOn, LeftBefore, Spares}
use Rattle.fv_root.specs.Commits.{IsFoundOn, IsNotGate, IsOutside, IsShut, IsStaged, IsCommitted, NewSide, OldSide, OldOrNew, next_found, next_root}
use Rattle.fv_root.proofs.Gates.{zero_gate}
use Rattle.fv_root.proofs.Ranges.{generation_in_range}
use Rattle.fv_root.proofs.Rooted.{Holds, holds, spelled, is_open, same_root, same_behind}
use Rattle.fv_root.proofs.Apart.{IsSlot, volume_not_gate, volume_outside, one_of_both}
use Rattle.fv_root.proofs.Sides.{closing_side, gate_leaves, shut_still, opened_side, opening_side}

module _ (old : Shown) (found : Found) where
  pub generation_fits : IsFoundOn old found → found.root.generation < 2 ^ 64
  generation_fits stands =
      let h : Holds old.reads (root_found found) = holds old.reads (root_found found) stands.reads.root in
      generation_in_range (old.reads (root_place found.slot)) found.root (spelled old.reads found.slot found.root h.root)

  abbrev pub OldMoment : Image → List ℕ → Type 0
  OldMoment c g = OldSide old found c × (g ≡ old.given)

  -- ---- the older gate, closed

  pub closing_moment : (new : Shown) (result : Result Unit Failed) → IsFoundOn old found → found.older_open ≡ true → Spares (IsNotGate (other_slot found.slot)) old new result → Leaves old new OldMoment
  closing_moment new result stands was_open spares = weaken old new (λ c g. LeftBefore (IsNotGate (other_slot found.slot)) old c × (g ≡ old.given)) OldMoment (λ c g left. (closing_side old found c stands was_open left.0, left.1)) spares.any_moment

  pub closing_shut : (new : Shown) (result : Result Unit Failed) → IsFoundOn old found → found.older_open ≡ true → Spares (IsNotGate (other_slot found.slot)) old new result
      → OnOk result (IsSettled new) → OnOk result (new.reads (gate_place (other_slot found.slot)) ≡ replicate 4096 0) → OnOk result ((c : Image) → new.images c → IsShut old found c)
  closing_shut new (Err failed) stands was_open spares settled written = tt
  closing_shut new (Ok done) stands was_open spares settled written = λ c now. record {
    side = closing_side old found c stands was_open (spares.images c now);
    gate = ap gate_open (settled c now _ ∙ written) ∙ zero_gate;
  }

  -- ---- the new root, staged behind the closed gate

  module _ (root : Root) (map : List Bool) where
    abbrev Sides : Image → List ℕ → Type 0
    Sides = OldOrNew old found root map

    pub old_moment : (new : Shown) → Leaves old new OldMoment → Leaves old new Sides
    old_moment new = weaken old new OldMoment Sides (λ c g left. (inl left.0, left.1))

    pub staged_moment : (mid new : Shown) (result : Result Unit Failed) → Leaves old mid OldMoment → mid.given ≡ old.given → ((c : Image) → mid.images c → IsShut old found c) → Spares (IsOutside found.blocks (other_slot found.slot)) mid new result → Leaves old new OldMoment
    staged_moment mid new result so_far given shut spares = then old mid new OldMoment so_far
        (weaken mid new (λ c g. LeftBefore (IsOutside found.blocks (other_slot found.slot)) mid c × (g ≡ mid.given)) OldMoment
        (λ c g left. ((shut_still old found left.0.0 c (shut left.0.0 left.0.1) left.0.2).side, left.1 ∙ given)) spares.any_moment)

    -- what the new root's gate is opened over
    pub record IsReady (ready : Shown) : Type 0 where
      pub tells : IsTrue ready.tells
      pub moment : Leaves old ready OldMoment
      pub given : ready.given ≡ old.given
      pub shut : (c : Image) → ready.images c → IsShut old found c
      pub settled : IsSettled ready
      pub staged : IsStaged found.blocks (other_slot found.slot) (next_root found root) map ready.reads
      pub volumes : SameVolumes found.blocks old.reads ready.reads

    staged_in : (i j : Image) → ((b : ℕ) → j b ≡ i b) → IsStaged found.blocks (other_slot found.slot) (next_root found root) map i → IsStaged found.blocks (other_slot found.slot) (next_root found root) map j
    staged_in i j same staged = record {
      spells = ap root_at (same _) ∙ staged.spells;
      area = λ k below. subst (IsBlockOf map k) (sym (same _)) (staged.area k below);
    }

    pub opened_moment : (ready new : Shown) (result : Result Unit Failed) → IsReady ready → found.root.generation < 2 ^ 64 → length map ≡ found.blocks → Spares (IsNotGate (other_slot found.slot)) ready new result → Leaves old new Sides
    opened_moment ready new result is small long spares = then old ready new Sides (old_moment ready is.moment)
        (weaken ready new (λ c g. LeftBefore (IsNotGate (other_slot found.slot)) ready c × (g ≡ ready.given)) Sides
        (λ c g left.
        let i : Image = left.0.0 in
        let same : (b : ℕ) → i b ≡ ready.reads b = is.settled i left.0.1 in
        (opening_side old found root map i c (is.shut i left.0.1) (staged_in ready.reads i same is.staged) (λ b le. same b ∙ is.volumes b le) small long left.0.2, left.1 ∙ is.given))
        spares.any_moment)

    -- ---- after the last barrier

    all_settled : (new : Shown) (f : Found) → IsSettled new → IsFound new.reads f → IsFoundOn new f
    all_settled new f settled is = record {
      reads = is;
      images = λ c now. let same : (b : ℕ) → c b ≡ new.reads b = settled c now in record {
        root = same_root c new.reads (ap super_at (same 0)) (same_behind c new.reads 0 (same _) (same _)) (same_behind c new.reads 1 (same _) (same _)) ∙ is.root;
        older = ap gate_open (same _) ∙ is.older;
      };
    }

    pub committed : (ready new : Shown) (result : Result Unit Failed) → IsReady ready → IsDisk ready → found.root.generation < 2 ^ 64 → length map ≡ found.blocks → Spares (IsNotGate (other_slot found.slot)) ready new result
        → OnOk result (IsSettled new) → OnOk result (gate_open (new.reads (gate_place (other_slot found.slot))) ≡ true) → OnOk result (IsCommitted old found root map new)
    committed ready new (Err failed) is laws small long spares settled opened = tt
    committed ready new (Ok done) is laws small long spares settled opened =
        let slot = other_slot found.slot in
        let i : Image = ready.reads in
        let t : Taken = root_found found in
        let h : Holds i t = holds i t (is.shut i (laws.read_is_image is.tells)).side.counts in
        let same : AgreeOn (IsNotGate slot) i new.reads = spares.reads is.tells in
        let side : NewSide old found root map new.reads = opened_side old found root map i new.reads h is.staged is.volumes small long same opened in
        let g : Holds new.reads t = gate_leaves i new.reads t h same in
        let gates : (s : ℕ) → s < 2 → gate_open (new.reads (gate_place s)) ≡ true = λ s below. ⊎_elim
        (λ (e : s ≡ found.slot). rw e (is_open new.reads found.slot found.root g.root))
        (λ (e : s ≡ other_slot found.slot). rw e opened)
        (one_of_both found.slot s h.slot below) in
        record {
          settled = settled;
          side = side;
          gates = gates;
          stands = all_settled new (next_found found root) settled (record { root = side.counts; older = gates (other_slot (other_slot found.slot)) (omega arith) });
        }

    -- ---- the steps one after the other

    is_slot : IsFoundOn old found → IsSlot found.slot
    is_slot stands = (holds old.reads (root_found found) stands.reads.root).slot

    pub staged_volumes : (mid new : Shown) (result : Result Unit Failed) → IsFoundOn old found → IsTrue mid.tells → SameVolumes found.blocks old.reads mid.reads → Spares (IsOutside found.blocks (other_slot found.slot)) mid new result → SameVolumes found.blocks old.reads new.reads
    staged_volumes mid new result stands tells volumes spares = λ b le. spares.reads tells b (volume_outside found.blocks found.slot b (is_slot stands) le) ∙ volumes b le

    pub opened_volumes : (ready new : Shown) (result : Result Unit Failed) → IsFoundOn old found → IsReady ready → Spares (IsNotGate (other_slot found.slot)) ready new result → SameVolumes found.blocks old.reads new.reads
    opened_volumes ready new result stands is spares = λ b le. spares.reads is.tells b (volume_not_gate found.blocks found.slot b (is_slot stands) le) ∙ is.volumes b le

    pub is_ready : (mid ready : Shown) → IsTrue old.tells → IsFoundOn old found → Leaves old mid OldMoment → Counted old mid (Ok tt) → ((c : Image) → mid.images c → IsShut old found c) → SameVolumes found.blocks old.reads mid.reads
        → Spares (IsOutside found.blocks (other_slot found.slot)) mid ready (Ok tt) → (IsTrue mid.tells → IsSettled ready) → (IsTrue mid.tells → IsStaged found.blocks (other_slot found.slot) (next_root found root) map ready.reads) → IsReady ready
    is_ready mid ready tells stands moment counted shut volumes spares settled staged =
        let told : IsTrue mid.tells = rw counted.tells tells in
        record {
          tells = rw spares.counted.tells told;
          moment = staged_moment mid ready (Ok tt) moment counted.given shut spares;
          given = spares.counted.given ∙ counted.given;
          shut = λ c now. let before = spares.images c now in shut_still old found before.0 c (shut before.0 before.1) before.2;
          settled = settled told;
          staged = staged told;
          volumes = staged_volumes mid ready (Ok tt) stands told volumes spares;
        }
