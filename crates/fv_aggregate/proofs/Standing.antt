-- Disks that change nothing, and images that keep what a session stands for.
use Rattle.std.proofs.Common.{◌≡◌, ℕ, Bool, List, Some, refl, sym, ap, subst, ◌∙◌, inl, inr, ⊎_elim}
use Rattle.fv_disk.specs.Shown.{Image, Shown, IsDisk, IsSettled}
use Rattle.fv_disk.specs.DiskCalls.{OnlyReads}
use Rattle.fv_disk.specs.Crash.{Leaves}
use Rattle.fv_disk.proofs.Moments.{started, weaken}
use Rattle.fv_model.specs.Machines.{Machine}
use Rattle.fv_image.specs.Held.{Layout, layout_at, view_at}
use Rattle.fv_image.specs.WholeMachine.{Tells, machine_of}
use Rattle.fv_image.proofs.SoundTests.{machine_told, machine_under}
use Rattle.fv_root.specs.declared.find.Found.{Found}
use Rattle.fv_root.specs.Finding.{root_found}
use Rattle.fv_cp.specs.Held.{IsHeld}
use Rattle.fv_cp.specs.Known.{AreKnown}
use Rattle.fv_cp.proofs.Known.{known_same}
use Rattle.fv_pool.specs.declared.pool.Pool.{Pool}
use Rattle.fv_volume.specs.States.{States}
use Rattle.fv_aggregate.specs.declared.session.Session.{Session}
use Rattle.fv_aggregate.specs.Standing.{OneOf, StandsAfter, StandsFor}

-- ---- a disk that was only read

pub settled_after_reads : (old new : Shown) → OnlyReads old new → IsSettled old → IsSettled new
settled_after_reads old new reads settled = λ c now a. settled c (reads.stays.no_more c now) a ∙ ap (λ (i : Image). i a) (sym reads.stays.reads)

-- What is known of delayed entries stays while the root found, what reads give and the flags do.
pub known_still : (i j : Image) (f g : Found) (old new : List Bool) → j ≡ i → g ≡ f → new ≡ old → AreKnown i f old → AreKnown j g new
known_still i j f g old new reads found flags known = subst (AreKnown j g) (sym flags) (known_same i j f g old (λ t. view_at (root_found (found t)) (reads t)) known)

-- ---- what a crash leaves

-- each image of a crash stands for the machine of the last point
pub stands_for_last : (disk : Shown) (pool : Pool) (states : States) (last : Machine) → IsHeld disk pool states last → (c : Image) → disk.images c → machine_of c ≡ Some last
stands_for_last disk pool states last held c now =
    let keeps = held.keeps c now in
    machine_under c (root_found pool.found) keeps.root ∙ machine_told (layout_at (root_found pool.found) c) last (subst (λ (y : Layout). Tells y last) (sym keeps.layout) held.tells)

-- so does each moment of a call that doesn't reach the disk
pub rests_for_last : (disk : Shown) (session : Session) (last m after : Machine) → IsDisk disk → StandsFor disk session last m → Leaves disk disk (λ c g. OneOf last m after c × (g ≡ disk.given))
rests_for_last disk session last m after laws stands =
    started disk (λ c g. OneOf last m after c × (g ≡ disk.given)) laws (λ c now. (inl (stands_for_last disk session.pool session.volumes last stands.held c now), refl))

-- a moment of the machine before a command is one of the whole command
pub earlier_moments : (old new : Shown) (last m after : Machine) (given : List ℕ) → Leaves old new (λ c g. OneOf last m m c × (g ≡ given)) → Leaves old new (λ c g. OneOf last m after c × (g ≡ given))
earlier_moments old new last m after given left = weaken old new (λ c g. OneOf last m m c × (g ≡ given)) (λ c g. OneOf last m after c × (g ≡ given)) (λ c g one. (⊎_elim (λ l. inl l) (λ either. inr (inl (⊎_elim (λ x. x) (λ x. x) either))) one.0, one.1)) left

-- the last point stays where nothing is done
pub stays_for : (disk : Shown) (session : Session) (last m : Machine) → StandsFor disk session last m → StandsAfter disk session last m m
stays_for disk session last m stands = record { point = last; one = inl refl; stands = stands }
