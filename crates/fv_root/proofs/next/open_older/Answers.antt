use Rattle.std.proofs.Common.{◌≡◌, ◌∙◌, ap}
use Rattle.std.specs.Prelude.{OnOk}
use Rattle.std.proofs.lemmas.Result.{on_ok_weaker}
use Rattle.fv_codec.specs.Blocks.{gate_open, open_gate}
use Rattle.fv_image.specs.Layout.{gate_place}
use Rattle.fv_root.specs.Finding.{other_slot}
use Rattle.fv_root.proofs.Gates.{written_gate}
use Rattle.fv_root.proofs.next.open_older.Goals as goal

pub returns-clause-opened : goal.returns-clause-opened
returns-clause-opened g c = λ tells.
    let slot = other_slot c.args.found.now.slot in
    let reads = (g.D.Disk.shown c.write_gate.new.disk).reads in
    let written : OnOk c.write_gate.result (reads (gate_place slot) ≡ open_gate) = rw (← c.other_slot.ensures, ← c.open_gate.ensures) (c.write_gate.ensures.written tells) in
    on_ok_weaker c.write_gate.result (λ e. ap gate_open e ∙ written_gate) written
