use Rattle.std.proofs.Common.{◌≡◌, ℕ, List, None, Some, replicate, sym, ap, ◌∙◌, arith}
use Rattle.fv_bits.specs.Bits.{bit_of_bytes}
use Rattle.fv_image.specs.Views.{map_vvbn}
use Rattle.fv_container.specs.Mapped.{entry_under}
use Rattle.fv_volume.specs.Loading.{entry_block}
use Rattle.fv_volumes.proofs.SlotReads.{at_none, block_read, hole_block, takes_block}
use Rattle.fv_volumes.proofs.load.read_map_block.Goals as goal

pub returns-in_default-clause-takes : goal.returns-in_default-clause-takes
returns-in_default-clause-takes g c = takes_block c.args.map.now c.take_zeros.new.map c.args.slot c.args.index (replicate 4096 0) (omega (arith, c.requires.slot)) c.in_ok-take_zeros.ensures.valid c.in_ok-take_zeros.ensures.taken

pub returns-in-None-clause-takes : goal.returns-in-None-clause-takes
returns-in-None-clause-takes g c = takes_block c.args.map.now c.load_slot.new.self c.args.slot c.args.index c.get.new.into (omega (arith, c.requires.slot)) c.in_ok-load_slot.ensures.valid (at_none c.in_ok-load_slot.field-0 _ c.in-None.is c.in_ok-load_slot.ensures.taken)

pub returns-in_default-clause-read : goal.returns-in_default-clause-read
returns-in_default-clause-read g c = λ map tells found so_far.
    let i = (g.D.Disk.shown c.args.disk.now).reads in
    let hole : entry_under map (map_vvbn c.args.span c.args.slot c.args.index) ≡ None = found ∙ c.in_default.is in
    block_read i map c.args.span c.args.slot c.args.index (replicate 4096 0) c.args.map.now c.take_zeros.new.map (omega (arith, c.requires.slot)) (hole_block i map c.args.span c.args.slot c.args.index 4096 hole)
    c.in_ok-take_zeros.ensures.taken c.in_ok-take_zeros.ensures.valid so_far

pub returns-in-None-clause-read : goal.returns-in-None-clause-read
returns-in-None-clause-read g c = λ map tells found so_far.
    let i = (g.D.Disk.shown c.args.disk.now).reads in
    let there : entry_under map (map_vvbn c.args.span c.args.slot c.args.index) ≡ Some c.in-Some.entry = found ∙ c.in-Some.is in
    let block : c.get.new.into ≡ entry_block i (entry_under map (map_vvbn c.args.span c.args.slot c.args.index)) = c.in_ok-get.ensures.reads.gives tells ∙ sym (ap (entry_block i) there) in
    block_read i map c.args.span c.args.slot c.args.index c.get.new.into c.args.map.now c.load_slot.new.self (omega (arith, c.requires.slot)) (λ b. ap (λ (bytes : List ℕ). bit_of_bytes bytes b) block)
    (at_none c.in_ok-load_slot.field-0 _ c.in-None.is c.in_ok-load_slot.ensures.taken) c.in_ok-load_slot.ensures.valid so_far
