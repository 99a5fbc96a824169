-- What stays as it was: a machine under a root whose blocks stay, the block of an entry, a slot that is looked at, a disk that isn't called.
use Rattle.std.proofs.Common.{◌≡◌, ◌≢◌, ℕ, ◌<◌, ◌≤◌, true, Bool, List, get_or, inl, refl, ap, subst, ◌∙◌, arith}
use Rattle.std.specs.Prelude.{Option, Some, None, IfSome, nat_lt, if◌then◌else◌}
use Rattle.std.specs.FinMap as fin
use Rattle.std.specs.Ordering.{nat_cmp}
use Rattle.std.proofs.lemmas.Bool.Decides.{nat_tests}
use Rattle.std.proofs.lemmas.List.{set-get_or}
use Rattle.fv_disk.specs.DiskCalls.{OnlyReads}
use Rattle.fv_disk.specs.Shown.{Image, Shown}
use Rattle.fv_disk.proofs.Resting.{stays_itself}
use Rattle.fv_model.specs.Machines.{Machine}
use Rattle.fv_image.specs.NewerRoot.{Taken}
use Rattle.fv_image.specs.Held.{Keeps, label_place, layout_at}
use Rattle.fv_image.specs.WholeMachine.{Tells, machine_from, machine_of}
use Rattle.fv_image.proofs.SoundTests.{machine_told, machine_under}
use Rattle.fv_root.specs.declared.find.Found.{Found}
use Rattle.fv_root.specs.Finding.{root_found}
use Rattle.fv_container.specs.declared.entry.Entry.{Entry}
use Rattle.fv_container.specs.Chains.{Slots, paged_at, with_container}
use Rattle.fv_container.specs.Mapped.{Mapped, entry_under}
use Rattle.fv_pool.specs.Keeping.{Blocks, kept_or, seen}
use Rattle.fv_volume.specs.States.{placed_in}
use Rattle.fv_volume.specs.Stored.{place_at, place_in}

-- an image that keeps the blocks of a root stands for the machine that the root tells
pub kept_stands : (t : Taken) (i c : Image) (m : Machine) → Tells (layout_at t i) m → Keeps t i c → machine_of c ≡ Some m
kept_stands t i c m tells keeps = machine_under c t keeps.root ∙ ap machine_from keeps.layout ∙ machine_told (layout_at t i) m tells

-- the place of a slot's label, by the root that was found
pub place_is : (found : Found) (s : ℕ) → s < 64 → label_place (root_found found) s ≡ get_or found.root.labels s 0
unfolding label_place
place_is found s inside = let test : nat_lt s 64 ≡ true = grind (arith, nat_tests, inside) in ap (λ (t : Bool). if t then get_or found.root.labels s 0 else 0) test

-- the block of an entry is the same where it lies in one image as it is seen in another
pub entry_kept : (map : Mapped) (kept : Blocks) (first i : Image) (v : ℕ) → IfSome (entry_under map v) (λ e. 1 ≤ e.pvbn) → (place_at map v ≢ 0 → i (place_at map v) ≡ seen kept first (place_at map v))
    → placed_in fin.empty i (entry_under map v) ≡ placed_in kept first (entry_under map v)
entry_kept map kept first i v some stay = of_entry (entry_under map v) refl
  where
    of_entry : (o : Option Entry) → entry_under map v ≡ o → placed_in fin.empty i o ≡ placed_in kept first o
    of_entry None e = refl
    of_entry (Some y) e =
        let at : place_at map v ≡ y.pvbn = ap place_in e in
        let least : 1 ≤ y.pvbn = subst (λ (o : Option Entry). IfSome o (λ e. 1 ≤ e.pvbn)) e some in
        let same : i y.pvbn ≡ seen kept first y.pvbn = subst (λ (b : ℕ). i b ≡ seen kept first b) at (stay (λ none. omega (arith, least, at, none))) in
        ap (λ (block : List ℕ). Some (record { pvbn = y.pvbn; kind = y.kind; block = block })) (ap (λ (o : Option (List ℕ)). kept_or o (i y.pvbn)) (fin.get-empty nat_cmp y.pvbn) ∙ same)

-- a slot that keeps its container
pub slot_again : (slots : Slots) → with_container slots 0 (paged_at slots 0) ≡ slots
slot_again slots = λ i. record { containers = set-get_or slots.containers 0 None i; parents = slots.parents }

-- a disk that wasn't called
pub only_itself : (disk : Shown) → OnlyReads disk disk
only_itself disk = record { stays = stays_itself disk; time = record { later = omega arith; nothing_else = λ t c g le left. inl left; keeps = λ t c g le left. left }; given = refl; ends = refl; faults = omega arith; write_faults = refl }
