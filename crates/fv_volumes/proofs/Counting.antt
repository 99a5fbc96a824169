-- The blocks that a volume takes are at most those that it asks for.
use Rattle.std.proofs.Common.{◌≡◌, ℕ, ◌+◌, ◌<◌, ◌≤◌, List, length, Bool, sym, ap, subst, arith}
use Rattle.std.specs.FinSet as set
use Rattle.fv_model.specs.Space.{map_blocks, overhead}
use Rattle.fv_root.specs.Formatted.{IsSize}
use Rattle.fv_image.specs.Views.{entry_count}
use Rattle.fv_image.proofs.Overheads.{node_count, overhead_holds}
use Rattle.fv_container.specs.Mapped.{Mapped}
use Rattle.fv_container.specs.Paged.{Paged}
use Rattle.fv_container.specs.Flushed.{Exchanges}
use Rattle.fv_container.specs.Written.{blocks_needed}
use Rattle.fv_container.proofs.Laws.{blocks_within}
use Rattle.fv_aggmap.specs.Freeing.{room_of}
use Rattle.fv_aggmap.specs.Space.{Space, blocks_of, free_blocks}
use Rattle.fv_aggmap.proofs.FreeRoom.{free_counted}
use Rattle.fv_volume.specs.declared.state.VolumeState.{VolumeState}
use Rattle.fv_volume.specs.Writing.{HasDrawn, asked, map_writes}
use Rattle.fv_volume.proofs.MapCounts.{writes_fit}

pub room_for_label : (x : VolumeState) (free : ℕ) → asked x ≤ free → 0 < free
room_for_label x free room = omega (arith, overhead_holds x.span, room)

pub room_for_maps : (x : VolumeState) (free : ℕ) → asked x ≤ free + 1 → map_writes x (entry_count x.span) ≤ free
room_for_maps x free room = omega (arith, overhead_holds x.span, writes_fit x, room)

nodes_fit : (paged : Paged) (span : ℕ) → length paged.map.entries ≡ entry_count span → 1 + (blocks_needed paged + map_blocks span) ≤ overhead span
nodes_fit paged span long =
    let nodes : blocks_needed paged ≤ node_count (entry_count span) = subst (λ (n : ℕ). blocks_needed paged ≤ node_count n) long (blocks_within paged) in
    omega (arith, nodes, overhead_holds span)

same_size : (old new : Space) → new.committed ≡ old.committed → IsSize (blocks_of old) → IsSize (blocks_of new)
same_size old new same size = subst IsSize (sym (ap length same)) size

module _ (x : VolumeState) (paged : Paged) (long : length paged.map.entries ≡ entry_count x.span) (old mid : Space) (size : IsSize (blocks_of old)) (taken : ℕ → Bool) (drawn : HasDrawn old taken (map_writes x (entry_count x.span)) mid) where
  mid_count : set.len (room_of mid).free ≡ free_blocks mid
  mid_count = free_counted mid (same_size old mid drawn.committed size)

  pub room_for_tree : asked x ≤ free_blocks old + 1 → blocks_needed paged ≤ set.len (room_of mid).free
  room_for_tree room = rw mid_count (omega (arith, nodes_fit paged x.span long, writes_fit x, drawn.fewer, room))

  pub blocks_taken : (new : Space) (before : Mapped) (after : List ℕ) → Exchanges (room_of mid) before after (room_of new) → set.len (room_of mid).free ≤ set.len (room_of new).free + blocks_needed paged → free_blocks old + 1 ≤ free_blocks new + asked x
  blocks_taken new before after exchanges count =
      let after : set.len (room_of new).free ≡ free_blocks new = free_counted new (same_size mid new exchanges.committed (same_size old mid drawn.committed size)) in
      let counted : free_blocks mid ≤ free_blocks new + blocks_needed paged = rw (← mid_count, ← after) count in
      omega (arith, nodes_fit paged x.span long, writes_fit x, drawn.fewer, counted)
