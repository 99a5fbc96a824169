-- The space rule as what it leaves.
use Rattle.std.proofs.Common.{◌≡◌, ℕ, ◌+◌, ◌-◌, ◌*◌, ◌≤◌, true, arith}
use Rattle.std.specs.Prelude.{max}
use Rattle.std.proofs.lemmas.Bool.Decides.{nat_tests}
use Rattle.fv_model.specs.Machines.{first_block}
use Rattle.fv_image.specs.Views.{View, own, delayed, overheads, leaves_room}

-- The space rule holds with so much room, where there is as much.
pub room_from : (w : View) (room : ℕ) → 2 * overheads w + max 256 room + (own w + delayed w) ≤ w.blocks - first_block w.blocks → leaves_room w room ≡ true
room_from w room enough =
    let rule : 2 * overheads w + max 256 room ≤ w.blocks - first_block w.blocks - own w - delayed w = omega (arith, enough) in
    grind (arith, nat_tests, rule)
