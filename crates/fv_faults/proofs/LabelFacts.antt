-- What the shape of a label in a whole block gives of its container: its entries have their bounds, and the blocks that it has beside what its roots
-- reach have entries.
use Rattle.std.proofs.Common.{◌≡◌, ℕ, ◌+◌, ◌*◌, ◌<◌, ◌≤◌, List, map, length, inl, inr, sym, ap, ◌∙◌, arith, Ok, Err}
use Rattle.std.specs.Prelude.{◌&&◌, nat_le, nat_lt, drop}
use Rattle.std.specs.List.{range_with_len}
use Rattle.std.proofs.lemmas.Bool.{and_parts}
use Rattle.std.proofs.lemmas.Bool.Decides.{nat_tests}
use Rattle.std.proofs.Math.Nat.{mul-le-mul_right}
use Rattle.fv_codec.specs.declared.label.Label.{Label}
use Rattle.fv_codec.specs.Fields.{Verdict, reading, verdicts}
use Rattle.fv_codec.specs.Blocks.{label_fields, label_at, snap_of, IsLabel}
use Rattle.fv_codec.proofs.Decoded.{label_in_range}
use Rattle.fv_model.specs.Space.{map_blocks}
use Rattle.fv_laws.proofs.Lists.{In, from_range, from_map, from_flat_map}
use Rattle.fv_laws.proofs.Tests.{from_all}
use Rattle.fv_image.specs.Containers.{most_entries}
use Rattle.fv_image.specs.Mapped.{AreInSlots}
use Rattle.fv_image.specs.Views.{Rooted, Snap, Head, head_of, entry_count, map_vvbn, map_kind}
use Rattle.fv_image.specs.Seen.{roots_of, own_blocks}
use Rattle.fv_image.proofs.LabelSlots.{label_slots}
use Rattle.fv_image.proofs.WellNodes.{length_items}

-- ---- the records of snapshots

read_as : {X Y : Type 0} (f : X → Y) (v : Verdict) (x y : X) → reading v x ≡ Ok y → f x ≡ f y
read_as f (Ok fine) x y e = let same : x ≡ y = cc in ap f same
read_as f (Err fault) x y e = absurd cc

few_records : (block : List ℕ) (l : Label) → label_at block ≡ Ok l → length l.snapshots ≡ 24
unfolding label_at
few_records block l e = sym (read_as (λ (l : Label). length l.snapshots) (verdicts (label_fields block) block) _ l e) ∙ length_items 24 128 snap_of (drop 256 block)

low_slot : (h : Head) → AreInSlots h → (r : ℕ × Rooted) → In r (roots_of h) → r.0 ≤ 24
low_slot h are r (inl is) = let none : 0 ≡ r.0 = ap (λ (q : ℕ × Rooted). q.0) is in omega (arith, none)
low_slot h are r (inr there) =
    let one = from_map (λ (p : Snap). (p.slot, p.table)) r h.snapshots there in
    let both = and_parts (nat_le 1 one.0.slot) _ (from_all (λ (p : Snap). nat_le 1 p.slot && nat_lt p.slot 25) h.snapshots are.within one.0 one.1) in
    let low : one.0.slot < 25 = (let test = both.1 in grind (arith, nat_tests, test)) in
    let same : one.0.slot ≡ r.0 = ap (λ (q : ℕ × Rooted). q.0) one.2 in
    omega (arith, low, same)

-- ---- entries

pub record HasEntries (l : Label) : Type 0 where
  pub some : 0 < entry_count l.span
  pub few : entry_count l.span ≤ most_entries
  pub own : (version v : ℕ) → In v (map (λ (b : ℕ × ℕ). b.0) (own_blocks version (head_of l))) → v < entry_count l.span

times : (a m : ℕ) → a ≤ 24 → a * m ≤ 24 * m
times a m low = mul-le-mul_right m low

own_within : (l : Label) → AreInSlots (head_of l) → (version v : ℕ) → In v (map (λ (b : ℕ × ℕ). b.0) (own_blocks version (head_of l))) → v < entry_count l.span
unfolding head_of
own_within l are version v there =
    let one = from_map (λ (b : ℕ × ℕ). b.0) v (own_blocks version (head_of l)) there in
    let root = from_flat_map (λ (r : ℕ × Rooted). map (λ k. (map_vvbn l.span r.0 k, map_kind)) (range_with_len 0 (map_blocks l.span))) one.0 (roots_of (head_of l)) one.1 in
    let block = from_map (λ k. (map_vvbn l.span root.0.0 k, map_kind)) one.0 (range_with_len 0 (map_blocks l.span)) root.2 in
    let inside = (from_range 0 (map_blocks l.span) block.0 block.1).1 in
    let slot = times root.0.0 (map_blocks l.span) (low_slot (head_of l) are root.0 root.1) in
    let is : map_vvbn l.span root.0.0 block.0 ≡ v = ap (λ (b : ℕ × ℕ). b.0) block.2 ∙ one.2 in
    bounded l.span (map_blocks l.span) (root.0.0 * map_blocks l.span) block.0 v inside slot is
  where
    bounded : (span m at k v : ℕ) → k < 0 + m → at ≤ 24 * m → span + (at + k) ≡ v → v < span + 25 * m
    bounded span m at k v inside slot is = omega (arith, inside, slot, is)

pub label_entries : (block : List ℕ) (l : Label) → length block ≡ 4096 → label_at block ≡ Ok l → HasEntries l
label_entries block l long e =
    let is : IsLabel l = label_in_range block (Ok l) long (sym e) in
    let least = is.span_least in
    let most = is.span_greatest in
    record {
      some = omega (arith, least);
      few = omega (arith, most);
      own = own_within l (label_slots l (few_records block l e));
    }
