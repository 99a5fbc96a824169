use Rattle.std.proofs.Common.{◌≡◌, ◌<◌, ◌≤◌, ℕ, false, List, Option, ap, ◌∙◌, arith}
use Rattle.std.specs.Prelude.{length, slice_set}
use Rattle.fv_aggmap.specs.Space.{Space}
use Rattle.fv_container.specs.Chains.{container_at}
use Rattle.fv_container.specs.declared.entry.Entry.{Entry}
use Rattle.fv_pool.specs.BlocksOver.{PlacesBlock, entries_in, given_back}
use Rattle.fv_pool.proofs.Holding.{holds_placed}
use Rattle.fv_pool.proofs.Lent.{block_again, number_again}
use Rattle.fv_pool.proofs.Setting.{sets_entry, tells_before}
use Rattle.fv_pool.proofs.blocks.place_block.Given as given
use Rattle.fv_pool.proofs.blocks.place_block.Goals as goal

pub returns-in-Err-clause-failed : goal.returns-in-Err-clause-failed
returns-in-Err-clause-failed g c =
    let takes = c.in_ok-placed.ensures.taken in
    let loads = c.in-Err.ensures.failed in
    record {
      map = c.return_numbers.ensures.space ∙ ap (λ (s : Space). record s { next = slice_set s.next c.in_ok-placed.placed.pvbn false }) loads.map
          ∙ block_again c.args.pool.now.map c.take_numbers.new.space c.in_ok-placed.placed.pvbn takes.free takes.taken;
      kept = loads.kept;
      found = loads.found;
      version = loads.version;
      containers = loads.containers;
    }

pub returns-in-Err-clause-failed_map : goal.returns-in-Err-clause-failed_map
returns-in-Err-clause-failed_map g c =
    c.return_numbers.ensures.map ∙ number_again c.args.map.now c.take_numbers.new.map c.in_ok-placed.placed.vvbn c.take_numbers.ensures.valid c.in_ok-placed.ensures.taken.number

pub prepare_place-requires-clause-within : goal.prepare_place-requires-clause-within
prepare_place-requires-clause-within g c = omega (arith, c.in_ok-placed.ensures.taken.number.within, c.requires.room)

-- the number has an entry once the leaf is in memory
inside : (old mid : ℕ → List (Option Entry)) (slot v span : ℕ) → mid slot ≡ old slot → v < span → span ≤ length (old slot) → v < length (mid slot)
inside old mid slot v span same low long = let equal : length (mid slot) ≡ length (old slot) = ap length same in omega (arith, equal, low, long)

pub set_entry-before-requires-clause-within : goal.set_entry-before-requires-clause-within
set_entry-before-requires-clause-within g c =
    inside (λ s. entries_in (container_at c.args.pool.now.containers s)) (λ s. entries_in (container_at c.prepare_place.new.pool.containers s)) c.args.home.now.slot c.in_ok-placed.placed.vvbn c.args.map.now.span
    (ap entries_in (c.in_default.ensures.ready.containers.maps c.args.home.now.slot)) c.in_ok-placed.ensures.taken.number.within c.requires.room

pub set_entry-before-requires-clause-here : goal.set_entry-before-requires-clause-here
set_entry-before-requires-clause-here g c = c.in_default.ensures.ready.here

-- the block is placed
places : (g : given.Over) (c : goal.After-give_back g) → PlacesBlock (g.D.Disk.shown c.args.disk.now) c.args.pool.now c.args.map.now c.args.home.now.slot c.args.kind c.args.block.now (record c.prepare_place.new.pool { map = c.give_back.new.space; containers = c.set_entry-before.new.containers }) c.take_numbers.new.map c.in_ok-placed.placed
places g c =
    let disk = g.D.Disk.shown c.args.disk.now in
    let old = c.args.pool.now.containers in
    let mid = c.prepare_place.new.pool.containers in
    let new = c.set_entry-before.new.containers in
    let slot = c.args.home.now.slot in
    let placed = c.in_ok-placed.placed in
    let ready = c.in_default.ensures.ready in
    let within = inside (λ s. entries_in (container_at old s)) (λ s. entries_in (container_at mid s)) slot placed.vvbn c.args.map.now.span (ap entries_in (ready.containers.maps slot)) c.in_ok-placed.ensures.taken.number.within c.requires.room in
    record {
      taken = c.take_numbers.new.space;
      takes = c.in_ok-placed.ensures.taken;
      before = c.set_entry-before.result;
      space = c.give_back.ensures.given ∙ ap (λ (s : Space). given_back s c.set_entry-before.result) ready.map;
      told = tells_before disk old mid new slot placed.vvbn (record { pvbn = placed.pvbn; kind = c.args.kind }) ready.containers within ready.here c.set_entry-before.ensures.set c.set_entry-before.result c.set_entry-before.ensures.before;
      entry = sets_entry disk old mid new slot placed.vvbn (record { pvbn = placed.pvbn; kind = c.args.kind }) ready.containers within ready.here c.set_entry-before.ensures.set;
      kept = ready.kept;
      found = ready.found;
      version = ready.version;
    }

pub returns-clause-placed : goal.returns-clause-placed
returns-clause-placed g c = places g c

pub returns-clause-holds : goal.returns-clause-holds
returns-clause-holds g c = holds_placed (g.D.Disk.shown c.args.disk.now) c.args.pool.now c.args.map.now c.args.home.now.slot c.args.kind c.args.block.now _ c.take_numbers.new.map c.in_ok-placed.placed (places g c) c.take_numbers.ensures.valid c.requires.few
