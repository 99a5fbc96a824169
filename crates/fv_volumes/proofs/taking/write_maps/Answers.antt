use Rattle.std.proofs.Common.{◌≡◌, ◌<◌, ◌/◌, ℕ, Bool, List, length, get_or, refl, sym, ap, ◌∙◌, arith, length-set, true, false}
use Rattle.std.specs.Prelude.{Ok, Err, Option, Some, slice_set}
use Rattle.fv_disk.proofs.Sparing.{spares_none}
use Rattle.fv_container.specs.declared.entry.Entry.{Entry}
use Rattle.fv_container.specs.Mapped.{Mapped}
use Rattle.fv_container.specs.Paged.{Paged, is_here}
use Rattle.fv_container.proofs.Clean.{clean_put, clean_same, clean_then}
use Rattle.fv_aggmap.specs.Space.{Space, IsFree}
use Rattle.fv_volume.specs.Stored.{is_map_written, map_entry}
use Rattle.fv_volume.specs.Writing.{HasDrawn, IsOther, IsTaken, has_maps_at, map_writes}
use Rattle.fv_volumes.proofs.Drawing.{free_before}
use Rattle.fv_volumes.proofs.MapBlocks.{bits_more, bits_pass, drawn_more, drawn_passes, map_more, map_passes, no_bits, no_maps, none_written}
use Rattle.fv_volumes.proofs.Sparing.{failed_as, then_spares}
use Rattle.fv_volume.proofs.StayingMaps.{writes_left}
use Rattle.fv_volumes.proofs.taking.write_maps.Goals as goal
use Rattle.fv_volumes.proofs.taking.write_maps.Goals.{then-is_map_written+in_ok-write_bits, else-is_map_written}

apart : (space mid : Space) (taken : _) (count place b : ℕ) → HasDrawn space taken count mid → IsFree mid place → IsTaken space b → IsOther place b
apart space mid taken count place b drawn free is same = is (rw same (free_before space mid taken count place drawn free).0)

pub loop-vvbn-init : goal.loop-vvbn-init
loop-vvbn-init g c =
    let x = c.args.state.now in
    record {
      stands = c.requires.stands;
      past = omega arith;
      long = refl;
      here = refl;
      tree = refl;
      clean = clean_same c.args.container.now;
      map = no_maps x c.args.container.now.map;
      bits = λ tells. no_bits x c.args.container.now.map (g.D.Disk.shown c.args.disk.now).reads;
      drawn = none_written x c.args.container.now.map c.args.map.now;
      spares = spares_none (IsTaken c.args.map.now) _ (g.met.D.Disk.laws c.args.disk.now);
    }

pub take_block-place-requires : goal.take_block-place-requires
take_block-place-requires g c =
    let x = c.args.state.now in
    let k = c.loop-vvbn.vvbn in
    let here : is_map_written x k ≡ true = sym c.is_map_written.ensures ∙ c.if-is_map_written.true in
    omega (arith, writes_left x k (c.entry_count-vvbn-end.result) c.loop-vvbn-test.true here, c.loop-vvbn.invariant.drawn.fewer, c.requires.room, c.entry_count-vvbn-end.ensures.value, ap (map_writes x) c.entry_count-vvbn-end.ensures.value)

pub place-requires-clause-loaded : goal.place-requires-clause-loaded
place-requires-clause-loaded g c =
    let k = c.loop-vvbn.vvbn in
    ap (λ (row : List Bool). get_or row (k / 256) false) c.loop-vvbn.invariant.here ∙ c.requires.loaded k (sym c.is_map_written.ensures ∙ c.if-is_map_written.true)

pub returns-in_err-write_bits-clause-spares : goal.returns-in_err-write_bits-clause-spares
returns-in_err-write_bits-clause-spares g c =
    let x = c.args.state.now in
    let k = c.loop-vvbn.vvbn in
    let old : Mapped = c.loop-vvbn.container.map in
    let kept = c.loop-vvbn.invariant in
    let p = c.take_block-place.result in
    failed_as (IsTaken c.args.map.now) _ _ c.in_err-write_bits.field-0.0 c.from_residual.result
    (then_spares (IsTaken c.args.map.now) (IsTaken c.args.map.now) (IsOther p) _ _ _ (Err c.in_err-write_bits.field-0.0) (λ b is. is)
    (λ b is. apart c.args.map.now c.loop-vvbn.map (has_maps_at x old k) (map_writes x k) p b kept.drawn c.take_block-place.ensures.free is) kept.spares c.in_err-write_bits.ensures.spares)
    c.from_residual.ensures.0

pub loop-vvbn-preserved : goal.loop-vvbn-preserved
loop-vvbn-preserved g c =
    let x = c.args.state.now in
    let k = c.loop-vvbn.vvbn in
    let was : Paged = c.loop-vvbn.container in
    let old : Mapped = was.map in
    let first : Mapped = c.args.container.now.map in
    let kept = c.loop-vvbn.invariant in
    let tells_on = kept.spares.counted.tells in
    let within : k < length old.entries = omega (arith, c.loop-vvbn-test.true, c.entry_count-vvbn-end.ensures.value, c.requires.entries.entries, kept.long) in
    elim c.if-is_map_written.branch [
      | then-is_map_written+in_ok-write_bits w ↦
          let p = w.take_block-place.result in
          let now : Paged = w.place.new.self in
          let new : Mapped = now.map in
          let took = w.take_block-place.ensures in
          let wrote = w.in_ok-write_bits.ensures in
          let puts = w.place.ensures in
          let set_so : new.entries ≡ slice_set old.entries k (Some (map_entry p)) = puts.entries in
          let here : is_map_written x k ≡ true = sym c.is_map_written.ensures ∙ w.if-is_map_written.true in
          let loaded : is_here was (k / 256) ≡ true = ap (λ (row : List Bool). get_or row (k / 256) false) kept.here ∙ c.requires.loaded k here in
          rw (w.container-is, w.store-is, w.map-is, w.disk-is) (record {
            stands = w.write_bits.ensures.stands;
            past = omega (arith, kept.past);
            long = ap (λ (es : List (Option Entry)). length es) set_so ∙ length-set old.entries k _ ∙ kept.long;
            here = puts.here ∙ kept.here;
            tree = puts.tree ∙ kept.tree;
            clean = clean_then c.args.container.now was now kept.clean (clean_put was now k (Some (map_entry p)) loaded puts);
            map = map_more x k p old new within set_so first c.args.map.now c.loop-vvbn.map kept.map kept.drawn took.free here;
            bits = λ tells.
                bits_more x k p old new within set_so first c.args.map.now c.loop-vvbn.map kept.map kept.drawn took.free here (g.D.Disk.shown c.loop-vvbn.disk).reads (g.D.Disk.shown w.write_bits.new.disk).reads (kept.bits tells)
                (λ b other. wrote.spares.reads (rw tells_on tells) b other)
                (wrote.bits (rw tells_on tells));
            drawn = drawn_more x k p old new within set_so first c.args.map.now c.loop-vvbn.map kept.map kept.drawn took.free here w.take_block-place.new.map took.drawn;
            spares = then_spares (IsTaken c.args.map.now) (IsTaken c.args.map.now) (IsOther p) _ _ _ (Ok tt) (λ b is. is)
                (λ b is. apart c.args.map.now c.loop-vvbn.map (has_maps_at x old k) (map_writes x k) p b kept.drawn took.free is) kept.spares wrote.spares;
          })
      | else-is_map_written w ↦
          let off : is_map_written x k ≡ false = sym c.is_map_written.ensures ∙ w.if-is_map_written.false in
          rw (w.container-is, w.store-is, w.map-is, w.disk-is) (record {
            stands = kept.stands;
            past = omega (arith, kept.past);
            long = kept.long;
            here = kept.here;
            tree = kept.tree;
            clean = kept.clean;
            map = map_passes x k off first old kept.map;
            bits = λ tells. bits_pass x k off old (g.D.Disk.shown c.loop-vvbn.disk).reads (kept.bits tells);
            drawn = drawn_passes x k off old c.args.map.now c.loop-vvbn.map kept.drawn;
            spares = kept.spares;
          })
    ]
