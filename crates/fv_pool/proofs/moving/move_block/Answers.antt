use Rattle.std.proofs.Common.{◌≡◌, ◌<◌, ℕ, false, List, Option, ap, ◌∙◌, arith}
use Rattle.std.specs.Prelude.{length, slice_set}
use Rattle.fv_aggmap.specs.Space.{Space}
use Rattle.fv_container.specs.Chains.{container_at}
use Rattle.fv_container.specs.declared.entry.Entry.{Entry}
use Rattle.fv_pool.specs.BlocksOver.{entries_in, given_back}
use Rattle.fv_pool.proofs.Lent.{block_again}
use Rattle.fv_pool.proofs.Setting.{sets_entry, tells_before}
use Rattle.fv_pool.proofs.moving.move_block.Goals as goal

pub returns-in-Err-clause-failed : goal.returns-in-Err-clause-failed
returns-in-Err-clause-failed g c =
    let takes = c.in_ok-pvbn.ensures.taken in
    let loads = c.in-Err.ensures.failed in
    record {
      map = c.release_after_commit.ensures ∙ ap (λ (s : Space). record s { next = slice_set s.next c.in_ok-pvbn.pvbn false }) loads.map
          ∙ block_again c.args.pool.now.map c.take_place.new.space c.in_ok-pvbn.pvbn takes.free takes.taken;
      kept = loads.kept;
      found = loads.found;
      version = loads.version;
      containers = loads.containers;
    }

-- the number has an entry once the leaf is in memory
inside : (old mid : ℕ → List (Option Entry)) (slot v : ℕ) → mid slot ≡ old slot → v < length (old slot) → v < length (mid slot)
inside old mid slot v same low = let equal : length (mid slot) ≡ length (old slot) = ap length same in omega (arith, equal, low)

pub returns-clause-moved : goal.returns-clause-moved
returns-clause-moved g c =
    let disk = g.D.Disk.shown c.args.disk.now in
    let old = c.args.pool.now.containers in
    let mid = c.prepare_place.new.pool.containers in
    let new = c.set_entry-before.new.containers in
    let slot = c.args.home.now.slot in
    let vvbn = c.args.vvbn in
    let place = c.in_ok-pvbn.pvbn in
    let ready = c.in_default.ensures.ready in
    let within = inside (λ s. entries_in (container_at old s)) (λ s. entries_in (container_at mid s)) slot vvbn (ap entries_in (ready.containers.maps slot)) c.requires.within in
    record {
      place = place;
      taken = c.take_place.new.space;
      takes = c.in_ok-pvbn.ensures.taken;
      before = c.set_entry-before.result;
      space = c.give_back.ensures.given ∙ ap (λ (s : Space). given_back s c.set_entry-before.result) ready.map;
      told = tells_before disk old mid new slot vvbn (record { pvbn = place; kind = c.args.kind }) ready.containers within ready.here c.set_entry-before.ensures.set c.set_entry-before.result c.set_entry-before.ensures.before;
      entry = sets_entry disk old mid new slot vvbn (record { pvbn = place; kind = c.args.kind }) ready.containers within ready.here c.set_entry-before.ensures.set;
      kept = ready.kept;
      found = ready.found;
      version = ready.version;
    }
