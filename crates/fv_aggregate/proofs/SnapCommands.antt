-- The commands that make, remove or restore a snapshot: which they are, and what holds of each.
use Rattle.std.proofs.Common.{◌≡◌, ◌≢◌, ◌≤◌, ℕ, Bool, true, false, List, [], ◌∷◌, Option, Some, None, refl, sym, ap, subst, ◌∙◌, arith}
use Rattle.std.specs.Prelude.{if◌then◌else◌}
use Rattle.std.specs.Option.{is_none}
use Rattle.std.specs.FinMap as fin
use Rattle.fv_model.specs.declared.answers.Refusal.TheVariants.{NoSnapshot, NoVolume, SnapshotExists, SnapshotInUse, TooMany}
use Rattle.fv_model.specs.declared.answers.Reply.{Reply}
use Rattle.fv_model.specs.declared.commands.Command.{Command}
use Rattle.fv_model.specs.declared.commands.Command.TheVariants.{SnapCreate, SnapDelete, SnapRestore}
use Rattle.fv_model.specs.Machines.{Machine}
use Rattle.fv_model.specs.Refusals.{conditions, first_of, has_all_snapshots, has_snapshot, is_base, lacks_snapshot, next, refusal, space}
use Rattle.fv_model.specs.Replies.{Allows}
use Rattle.fv_image.specs.Views.{slots}
use Rattle.fv_volume.specs.declared.state.VolumeState.{VolumeState}
use Rattle.fv_volume.specs.States.{state_at, States}
use Rattle.fv_aggregate.specs.Commands.{changes_volume, is_built, machine_after, managed_by, reads_files, map_among, map_at, most_room, room_by, room_with, snapped_by, takes_steps, Replies, RepliesBy}
use Rattle.fv_aggregate.specs.Deciding.{makes_volume}
use Rattle.fv_aggregate.specs.Looking.{IsSnapAimed}
use Rattle.fv_aggregate.specs.Snapping.{snap_blocks}
use Rattle.fv_aggregate.proofs.Rooms.{map_there}

nothing : {v : List ℕ} → ◌≡◌ {A = Option (List ℕ)} None (Some v) → ⊥
nothing e = cc

-- what holds of `snap create`, `snap delete` and `snap restore` holds of each command that makes, removes or restores a snapshot
pub snap_cases : (P : Command → Type 0) → ((v name : List ℕ) → P (SnapCreate v name)) → ((v name : List ℕ) → P (SnapDelete v name)) → ((v name : List ℕ) → P (SnapRestore v name)) → (v : List ℕ) (c : Command) → snapped_by c ≡ Some v → P c
snap_cases P create delete restore v (SnapCreate w name) is = create w name
snap_cases P create delete restore v (SnapDelete w name) is = delete w name
snap_cases P create delete restore v (SnapRestore w name) is = restore w name
snap_cases P create delete restore v c is = absurd (nothing is)

module _ (v : List ℕ) (c : Command) (is : snapped_by c ≡ Some v) where
  pub snap_built : is_built c ≡ true
  unfolding is_built
  snap_built = snap_cases (λ (k : Command). is_built k ≡ true) (λ w name. refl) (λ w name. refl) (λ w name. refl) v c is

  pub snap_reads : reads_files c ≡ false
  unfolding reads_files
  snap_reads = snap_cases (λ (k : Command). reads_files k ≡ false) (λ w name. refl) (λ w name. refl) (λ w name. refl) v c is

  pub snap_at_once : takes_steps c ≡ false
  snap_at_once = snap_cases (λ (k : Command). takes_steps k ≡ false) (λ w name. refl) (λ w name. refl) (λ w name. refl) v c is

  pub snap_changes : changes_volume c ≡ true
  snap_changes = snap_cases (λ (k : Command). changes_volume k ≡ true) (λ w name. refl) (λ w name. refl) (λ w name. refl) v c is

  pub snap_undecided : makes_volume c ≡ false
  snap_undecided = snap_cases (λ (k : Command). makes_volume k ≡ false) (λ w name. refl) (λ w name. refl) (λ w name. refl) v c is

  pub snap_whole : managed_by c ≡ None
  snap_whole = snap_cases (λ (k : Command). managed_by k ≡ None) (λ w name. refl) (λ w name. refl) (λ w name. refl) v c is

  pub snap_after : (m : Machine) → machine_after m c ≡ next m c
  unfolding machine_after
  snap_after m = ap (λ (b : Bool). if b then next m c else m) snap_built

  pub snap_replies : (m : Machine) (reply : Reply) → Allows m c reply → Replies m c reply
  snap_replies m reply allowed = subst (λ (b : Bool). RepliesBy b m c reply) (sym snap_built) allowed

  -- it is neither a point nor a list
  pub snap_other : (k : Command) → snapped_by k ≡ None → c ≢ k
  snap_other k none same = nothing (sym (ap snapped_by same ∙ none) ∙ is)

  -- it has room for the map of a snapshot at most
  pub snap_low : most_room c ≤ 32
  unfolding room_with
  snap_low = snap_cases (λ (k : Command). most_room k ≤ 32) (λ w name. omega arith) (λ w name. omega arith) (λ w name. omega arith) v c is

  -- a volume that isn't there is refused
  pub snap_missing : (m : Machine) → fin.get m.volumes v ≡ None → refusal m c ≡ Some NoVolume
  unfolding conditions
  snap_missing m none = snap_cases (λ (k : Command). snapped_by k ≡ Some v → refusal m k ≡ Some NoVolume)
      (λ w name of. let at = absent w of in λ j. first_of ((NoVolume, is_none (at j)) ∷ (SnapshotExists, has_snapshot m w name) ∷ (TooMany, has_all_snapshots m w) ∷ space m (SnapCreate w name) w))
      (λ w name of. let at = absent w of in λ j. first_of ((NoVolume, is_none (at j)) ∷ (NoSnapshot, lacks_snapshot m w (Some name)) ∷ (SnapshotInUse, is_base m w name) ∷ []))
      (λ w name of. let at = absent w of in λ j. first_of ((NoVolume, is_none (at j)) ∷ (NoSnapshot, lacks_snapshot m w (Some name)) ∷ space m (SnapRestore w name) w))
      v c is is
    where
      same : (a b : List ℕ) → ◌≡◌ {A = Option (List ℕ)} (Some a) (Some b) → a ≡ b
      same a b e = cc

      absent : (w : List ℕ) → ◌≡◌ {A = Option (List ℕ)} (Some w) (Some v) → fin.get m.volumes w ≡ None
      absent w of = ap (fin.get m.volumes) (same w v of) ∙ none

-- its room by the volumes is that of the volume at which it is aimed
pub aimed_room : (states : States) (slot : ℕ) (c : Command) → IsSnapAimed states slot c → snap_blocks (state_at states slot) c ≡ room_by states c
unfolding room_with
aimed_room states slot c aimed =
    let x = aimed.state in
    let there : state_at states slot ≡ Some x = aimed.there in
    let map = map_there states slot x.name aimed.named aimed.within ∙ ap map_at there in
    ap (λ (o : Option VolumeState). snap_blocks o c) there
    ∙ snap_cases (λ (k : Command). snapped_by k ≡ Some x.name → snap_blocks (Some x) k ≡ room_by states k)
    (λ w name of. sym (subst (λ (n : List ℕ). map_among states slots n ≡ map_at (Some x)) (sym (same w x.name of)) map)) (λ w name of. refl) (λ w name of. refl) x.name c aimed.snaps aimed.snaps
  where
    same : (a b : List ℕ) → ◌≡◌ {A = Option (List ℕ)} (Some a) (Some b) → a ≡ b
    same a b e = cc
