use Rattle.std.proofs.Common.{◌≡◌, ℕ, Bool, false, List, Option, None, rules, refl, subst}
use Rattle.std.specs.Prelude.{IfSome, slice_index_or}
use Rattle.fv_bits.specs.Members.{is_member}
use Rattle.fv_container.specs.Chains.{Slots, container_at, map_in, own_entry}
use Rattle.fv_container.specs.Clean.{IsCleanOn}
use Rattle.fv_container.specs.Paged.{Paged}
use Rattle.fv_volmap.specs.Slots.{Volume}
use Rattle.fv_pool.specs.declared.blocks.Home.{Home}
use Rattle.fv_pool.specs.Keeping.{Blocks}
use Rattle.fv_pool.specs.Lending.{lent_for, sees, use_under}
use Rattle.fv_pool.specs.Placing.{IsInNoSnap, PlaceCause, PlacesTable}
use Rattle.fv_pool.proofs.Failing.{blocks_of, of_entries, of_lent}
use Rattle.fv_pool.proofs.Fields.{of_clean}
use Rattle.fv_pool.proofs.PlaceCauses.{flush_cause}
use Rattle.fv_pool.proofs.PlacedFree.{placed_free, was_unkept}
use Rattle.fv_pool.proofs.Shows.{use_none}
use Rattle.fv_pool.proofs.lent_placing.place_table.Goals as goal

pub returns-clause-table : goal.returns-clause-table
returns-clause-table g c =
    let before = sees c.args.pool.now c.args.map.now (g.D.Disk.shown c.args.disk.now) c.args.home.now in
    let did = c.flush-placed.ensures.flushes in
    of_lent (λ (k : Blocks) (s : Slots) (m : Volume) (d : g.row.D.Denot) (h : Home).
    PlacesTable g.K.Guard.told before (blocks_of k s m h.slot (g.D.Disk.shown d).reads) (use_under m s h.slot) (IsInNoSnap (g.D.Disk.shown c.args.disk.now) c.args.pool.now c.args.map.now c.args.home.now.slot) c.args.files.now c.flush-placed.new.self c.flush-placed.result)
    (search rules) (search rules) (search rules) (search rules) c.flush-placed.ensures.calls.3.goes.home (record {
      placed = did.lays.placed;
      stands = did.lays.stands;
      led = did.lays.led;
      well = λ told stands led laid known. c.flush-placed.ensures.stored_well told known (λ is. tt) stands led laid;
      anew = λ told stands laid. placed_free _ _ _ _ (λ v was. let is = c.requires.told told in was_unkept _ _ was.before.3.goes (is.0, is.2) is.1 v was.held) (c.flush-placed.ensures.places.anew told stands laid);
      laid = c.flush-placed.ensures.places.laid;
      levels = did.levels;
      pointer = did.pointer;
      stored = did.stored;
      reached = did.reached;
      stored_led = did.stored_led;
      stored_well = λ told known. c.flush-placed.ensures.stored_under told known (λ is. tt);
    })

pub returns-clause-unused : goal.returns-clause-unused
returns-clause-unused g c = λ told laid.
    let now = c.flush-placed.new.blocks in
    of_entries (λ (s : List (Option Paged)) (m : List Bool) (h : Home). (v : ℕ) → is_member m v ≡ false → own_entry (map_in (slice_index_or s h.slot None)) v ≡ own_entry (container_at c.args.pool.now.containers c.args.home.now.slot) v)
    (search rules) (search rules) c.flush-placed.ensures.calls.3.goes.home
    (λ v none. c.flush-placed.ensures.keeps told (c.requires.stands told) laid v (use_none now.map.now now.pool.now.containers now.home.slot v none))

pub returns-clause-cause : goal.returns-clause-cause
returns-clause-cause g c =
    let did = c.flush-placed.ensures.flushes in
    let before = lent_for c.args.pool.now c.args.map.now (g.D.Disk.shown c.args.disk.now) 0 c.args.home.now c.args.room.now in
    subst (λ (d : g.row.D.Denot). PlaceCause g.K.Guard.told before (g.D.Disk.shown d).faults c.flush-placed.new.blocks.room c.flush-placed.result) (search rules)
    (flush_cause g.K.Guard.told _ _ c.args.files.now c.flush-placed.ensures.calls.3 refl c.flush-placed.result did.lays.counts did.lays.cause (λ told. did.lays.source told (c.requires.stands told)))

pub returns-clause-room : goal.returns-clause-room
returns-clause-room g c =
    let did = c.flush-placed.ensures.flushes in
    record {
      nothing = did.nothing;
      fits = λ told. let fits = did.lays.fits told (c.requires.stands told) in (fits.fewer, fits.room);
      enough = λ told enough. did.lays.enough told (c.requires.stands told) enough;
    }

pub returns-clause-told : goal.returns-clause-told
returns-clause-told g c = λ told.
    let was = c.requires.told told in (
      search rules,
      search rules,
      of_clean (λ (s : List (Option Paged)) (d : g.row.D.Denot). (k : ℕ) → IfSome (slice_index_or s k None) (IsCleanOn (g.D.Disk.shown d).reads)) (search rules) (search rules) (c.flush-placed.ensures.calls.3.goes.clean (was.0, was.2)),
    )
