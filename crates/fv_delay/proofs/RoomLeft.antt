-- Once the chosen regions are reclaimed the space rule holds.
use Rattle.std.proofs.Common.{◌≡◌, ◌⊎◌, ℕ, ◌+◌, ◌-◌, ◌*◌, ◌≤◌, Bool, true, subst}
use Rattle.std.specs.Prelude.{Option, max}
use Rattle.std.specs.List.{list_all}
use Rattle.fv_model.specs.Machines.{first_block, capacity}
use Rattle.fv_image.specs.Views.{View, delayed, overheads, leaves_room}
use Rattle.fv_image.specs.Seen.{seen}
use Rattle.fv_image.specs.VolumeRules.{uses_seen, commits_seen}
use Rattle.fv_image.specs.Soundness.{AreTables}
use Rattle.fv_image.proofs.Points.{UsesOwn, room_after, room_without}
use Rattle.fv_delay.specs.Choice.{chosen, total}
use Rattle.fv_delay.specs.Holding.{AreHoldingsOf, AreLeft, Holding, all_delayed, counts_of}
use Rattle.fv_delay.proofs.AllVolumes.{chosen_left, view_delayed}

-- Volumes of which some regions were reclaimed, among them each that is chosen for so many missing blocks; and the view that has these volumes.
module _ (w : View) (tables : AreTables (seen w)) (uses : UsesOwn w) (large : 256 ≤ w.blocks - first_block w.blocks) (regions : ℕ → ℕ → Bool) (old new : ℕ → Option Holding) (left : AreLeft regions old new) (shown : AreHoldingsOf w new)
    (missing : ℕ) (all : list_all (λ c. regions c.slot c.region) (chosen (counts_of old) missing) ≡ true) where
  abbrev taken : ℕ
  taken = total (chosen (counts_of old) missing)

  fewer : delayed w + taken ≤ all_delayed old
  fewer = subst (λ (n : ℕ). n + taken ≤ all_delayed old) (view_delayed w new shown) (chosen_left regions old new left missing all).0

  enough : (missing ≤ taken) ⊎ (delayed w ≡ 0)
  enough = subst (λ (n : ℕ). (missing ≤ taken) ⊎ (n ≡ 0)) (view_delayed w new shown) (chosen_left regions old new left missing all).1

  -- Where what is missing counts what the volumes use and what was delayed, and the commits leave the room in the capacity, there is the room.
  pub room_left : (room : ℕ) → commits_seen (seen w) + room ≤ capacity w.blocks → (2 * overheads w + uses_seen (seen w) + all_delayed old + max 256 room) - (w.blocks - first_block w.blocks) ≤ missing → leaves_room w room ≡ true
  room_left room fits lacks = room_after w tables uses room (all_delayed old) taken missing large fits fewer lacks enough

  -- Whatever the commits leave, the space rule holds without room.
  pub rule_left : (2 * overheads w + uses_seen (seen w) + all_delayed old + 256) - (w.blocks - first_block w.blocks) ≤ missing → leaves_room w 0 ≡ true
  rule_left lacks = room_without w tables uses (all_delayed old) taken missing large fewer lacks enough
