use Rattle.std.proofs.Common.{[], ◌∙◌, arith}
use Rattle.fv_image.specs.Held.{view_at}
use Rattle.fv_root.specs.Finding.{root_found}
use Rattle.fv_disk.proofs.Reading.{reads_whole}
use Rattle.fv_third_pass.proofs.Sums.{counted}
use Rattle.fv_third_pass.proofs.counting.count_holders.Goals as goal

pub returns-clause-counted : goal.returns-clause-counted
unfolding view_at
returns-clause-counted g c = λ tells root spells none.
    counted (root_found c.args.found.now) (g.D.Disk.shown c.args.disk.now).reads (reads_whole (g.D.Disk.shown c.args.disk.now) (g.met.D.Disk.laws c.args.disk.now) tells)
    (let least = c.requires.size.least in omega (arith, least)) root c.args.known.now spells none c.hold_slots.new.holders
    (c.in_ok-hold_slots.ensures.size ∙ c.in_ok-holders.ensures.size)
    (c.in_ok-hold_slots.ensures.tallies tells [] c.in_ok-holders.ensures.none)
