use Rattle.std.proofs.Common.{Ok, Err, ◌<◌, ◌≤◌, ◌+◌, refl, sym, ap, inl, arith}
use Rattle.fv_container.specs.Chains.{own_entry}
use Rattle.fv_pool.specs.Lending.{lent_by}
use Rattle.fv_pool.proofs.Fields.{loads_apart, loads_clean, placed_apart, placed_clean, unplaced_damage}
use Rattle.fv_pool.proofs.Going.{goes_placed, puts_failed}
use Rattle.fv_pool.proofs.PlaceShown.{placed_shown, trusting_places, unplaced_shown}
use Rattle.fv_pool.proofs.volume_places.VolumePlacesBlocks.place.Goals as goal

pub returns-in-Ok-clause-places : goal.returns-in-Ok-clause-places
returns-in-Ok-clause-places g c =
    let self = c.args.self.now in
    let fewer : self.room ≤ c.saturating_sub-self.result + 1 = omega (arith, c.saturating_sub-self.ensures) in
    trusting_places _ _ _ c.args.kind c.args.block.now (Ok c.in-Ok.placed)
    (placed_shown self.pool.now c.place_block.new.pool self.map.now c.place_block.new.map (g.D.Disk.shown self.disk.now) (g.D.Disk.shown c.place_block.new.disk) 0 self.home self.room c.saturating_sub-self.result self.strays self.noted _ self.apart
    c.args.kind c.args.block.now c.in-Ok.placed c.place_block.ensures.valid c.in-Ok.ensures.placed c.in-Ok.ensures.holds c.in-Ok.ensures.vvbn fewer c.place_block.ensures.only_reads c.in-Ok.ensures.cause)

pub returns-in-Err-clause-places : goal.returns-in-Err-clause-places
returns-in-Err-clause-places g c =
    let self = c.args.self.now in
    let call = c.place_block in
    let fails = c.in-Err.ensures in
    trusting_places _ _ _ c.args.kind c.args.block.now (Err c.note.result)
    (unplaced_shown (lent_by self.pool.now self.map.now (g.D.Disk.shown self.disk.now) 0 self.home self.room self.strays self.noted) call.new.pool (g.D.Disk.shown call.new.disk) c.note.new.noted _ self.tells self.clean fails.failed call.ensures.only_reads c.args.kind c.args.block.now
    c.note.result c.in-Err.fault call.new.map c.note.ensures.same fails.failed_map fails.fault c.note.ensures.notes self.numbers self.blocks fails.cause)

pub returns-in-Ok-clause-calls : goal.returns-in-Ok-clause-calls
returns-in-Ok-clause-calls g c =
    let self = c.args.self.now in
    let fewer : c.saturating_sub-self.result ≤ self.room = omega (arith, c.saturating_sub-self.ensures) in
    let one : 0 < c.saturating_sub-self.result → c.saturating_sub-self.result + 1 ≤ self.room = λ some. omega (arith, some, c.saturating_sub-self.ensures) in
    let goes = goes_placed self.pool.now c.place_block.new.pool self.map.now c.place_block.new.map c.args.kind c.args.block.now c.in-Ok.placed (g.D.Disk.shown self.disk.now) (g.D.Disk.shown c.place_block.new.disk) 0 self.home self.room c.saturating_sub-self.result self.strays self.noted
    c.in-Ok.ensures.placed c.in-Ok.ensures.holds c.place_block.ensures.only_reads fewer one c.in-Ok.ensures.leaves in
    (refl, refl, refl, record { goes = goes; noted = inl refl })

pub returns-in-Err-clause-calls : goal.returns-in-Err-clause-calls
returns-in-Err-clause-calls g c =
    let self = c.args.self.now in
    let call = c.place_block in
    let fails = c.in-Err.ensures in
    let puts = puts_failed self.pool.now call.new.pool self.map.now (g.D.Disk.shown self.disk.now) (g.D.Disk.shown call.new.disk) 0 self.home self.room self.strays self.noted c.note.new.noted fails.failed call.ensures.only_reads
    c.in-Err.fault call.new.map fails.failed_map fails.fault c.note.ensures.notes self.numbers self.blocks in
    (refl, refl, refl, puts)

pub returns-in-Ok-clause-keeps : goal.returns-in-Ok-clause-keeps
returns-in-Ok-clause-keeps g c = λ v other. c.in-Ok.ensures.placed.entry.rest v (λ same. other (sym same))

pub returns-in-Err-clause-keeps : goal.returns-in-Err-clause-keeps
returns-in-Err-clause-keeps g c = λ v other.
    ap (λ m. own_entry m v) (c.in-Err.ensures.failed.containers.maps c.args.self.now.home.slot)

pub returns-in-Ok-clause-known : goal.returns-in-Ok-clause-known
returns-in-Ok-clause-known g c = λ known. c.in-Ok.ensures.placed.takes.least

pub invariant_of-self-clause-numbers : goal.invariant_of-self-clause-numbers
invariant_of-self-clause-numbers g c = omega (arith, c.saturating_sub-self.ensures, c.in-Ok.ensures.leaves.numbers, c.args.self.now.numbers)

pub invariant_of-self-clause-blocks : goal.invariant_of-self-clause-blocks
invariant_of-self-clause-blocks g c = omega (arith, c.saturating_sub-self.ensures, c.in-Ok.ensures.leaves.blocks, c.args.self.now.blocks)

pub invariant_of-self-in-Err-clause-damage : goal.invariant_of-self-in-Err-clause-damage
invariant_of-self-in-Err-clause-damage g c =
    let self = c.args.self.now in
    let fails = c.in-Err.ensures in
    unplaced_damage fails.failed c.place_block.ensures.only_reads self.map.now self.home self.noted c.note.new.noted c.in-Err.fault self.damage fails.fault c.note.ensures.notes

pub invariant_of-self-clause-apart : goal.invariant_of-self-clause-apart
invariant_of-self-clause-apart g c = let self = c.args.self.now in λ told. placed_apart c.in-Ok.ensures.holds (self.tells told) (self.clean told) (self.apart told)

pub invariant_of-self-clause-clean : goal.invariant_of-self-clause-clean
invariant_of-self-clause-clean g c = let self = c.args.self.now in λ told. placed_clean c.in-Ok.ensures.placed c.place_block.ensures.only_reads (self.tells told) (self.clean told)

pub invariant_of-self-in-Err-clause-apart : goal.invariant_of-self-in-Err-clause-apart
invariant_of-self-in-Err-clause-apart g c = let self = c.args.self.now in let fails = c.in-Err.ensures in λ told. loads_apart fails.failed c.place_block.ensures.only_reads self.home fails.failed_map (self.apart told)

pub invariant_of-self-in-Err-clause-clean : goal.invariant_of-self-in-Err-clause-clean
invariant_of-self-in-Err-clause-clean g c = let self = c.args.self.now in λ told. loads_clean c.in-Err.ensures.failed c.place_block.ensures.only_reads (self.tells told) (self.clean told)
