-- The machine that an image stands for, with volumes of every form.
use Rattle.std.specs.Prelude.{◌≡◌, ℕ, Bool, true, ◌&&◌, not, Option, Some, None, ◌==◌, if◌then◌else◌}
use Rattle.std.specs.List.{list_all}
use Rattle.std.specs.Option.{option_map_or, option_and_then}
use Rattle.fv_disk.specs.Shown.{Image, Shown}
use Rattle.fv_codec.specs.declared.inode.InodeRecord.{InodeRecord}
use Rattle.fv_model.specs.Machines.{Machine}
use Rattle.fv_image.specs.NewerRoot.{Taken, root_of}
use Rattle.fv_image.specs.Views.{Head, View, slots}
use Rattle.fv_image.specs.Held.{Layout, layout_at}
use Rattle.fv_image.specs.Volumes.{told}
use Rattle.fv_image.specs.Seen.{Seen, seen}
use Rattle.fv_image.specs.HintRules.{is_splitting}
use Rattle.fv_image.specs.ReachRules.{all_roots}
use Rattle.fv_image.specs.Soundness.{IsSound, is_sound}

-- The forms of volumes by what a label says of them: any snapshots, any base from which it isn't being split, and places that are known or not.
abbrev pub has_form : Head → Bool
has_form h = not (is_splitting h.base)

-- no file has a reserve
unfoldable pub has_no_reserves : Seen → Bool
has_no_reserves w = all_roots w (λ x r. list_all (λ (f : ℕ × InodeRecord). f.1.reserve == 0) r.files)

-- The forms of volumes that the program has: those by the label, with files without reserves. Each form that is built takes its part out of
-- these predicates, and no definition below them moves.
unfoldable pub is_built : View → Bool
is_built w = list_all (λ s. option_map_or has_form (w.head s) true) slots && has_no_reserves (seen w)

-- The machine of a layout: what its view tells of, where it is sound. An image with a form that isn't built stands for none.
unfoldable pub machine_from : Layout → Option Machine
machine_from y = if is_built y.view && is_sound y then Some (told y.view) else None

-- the machine that an image stands for under a root
abbrev pub machine_at : Taken → Image → Option Machine
machine_at t i = machine_from (layout_at t i)

-- the machine that an image stands for, if it stands for one
unfoldable pub machine_of : Image → Option Machine
machine_of i = option_and_then (λ t. machine_at t i) (root_of i)

-- what makes a layout stand for a machine
pub record Tells (y : Layout) (m : Machine) : Type 0 where
  pub built : is_built y.view ≡ true
  pub sound : IsSound y
  pub machine : told y.view ≡ m

-- each image that a crash now may leave stands for this machine
abbrev pub AllStandFor : Shown → Machine → Type 0
AllStandFor disk m = (c : Image) → disk.images c → machine_of c ≡ Some m
