-- A snapshot of a volume of a session is made, removed or restored: each clone stands on what it stood on.
use Rattle.std.proofs.Common.{◌≡◌, ◌≢◌, ◌<◌, ℕ, Bool, false, List, length, Option, Some, None, sym, ap, subst, ◌∙◌, ⊎_elim, length-set, get_or-set_other}
use Rattle.std.specs.Prelude.{IfSome, slice_index_or}
use Rattle.std.specs.Option.{option_map_or}
use Rattle.std.proofs.lemmas.Bool.{cases_eq}
use Rattle.std.proofs.lemmas.List.{set-set}
use Rattle.fv_disk.specs.Shown.{Shown}
use Rattle.fv_pool.specs.declared.pool.Pool.{Pool}
use Rattle.fv_snapshot.specs.Creating.{IsSnapped}
use Rattle.fv_snapshot.specs.Deleting.{is_used, IsUnsnapped}
use Rattle.fv_snapshot.specs.Restoring.{IsTurned}
use Rattle.fv_snapshot.proofs.Finding.{found_here}
use Rattle.fv_volume.specs.declared.state.Base.{Base}
use Rattle.fv_volume.specs.declared.state.Snap.{Snap}
use Rattle.fv_volume.specs.declared.state.VolumeState.{VolumeState}
use Rattle.fv_volume.specs.Asking.{snap_named}
use Rattle.fv_volume.specs.Files.{IsLabelled}
use Rattle.fv_volume.specs.Snapshots.{IsLeastFree}
use Rattle.fv_volume.specs.States.{States, state_at, with_state}
use Rattle.fv_volumes.specs.Footing.{is_snap_stood_on, some_stands, stands_by, AreFooted}
use Rattle.fv_volumes.proofs.SnapFooted.{made_footed, removed_footed, turned_footed}
use Rattle.fv_volumes.proofs.StoodOn.{stands_nowhere, stands_not}
use Rattle.fv_cp.specs.Lent.{FitTogether}
use Rattle.fv_aggregate.specs.declared.session.Session.{Session}
use Rattle.fv_aggregate.proofs.SnapSessions.{placed_there}

module _ (d e : Shown) (s : Session) (q : Pool) (slot : ℕ) (x y : VolumeState) (there : state_at s.volumes slot ≡ Some x) (slot_is : x.slot ≡ slot) (fit : FitTogether s.pool s.volumes) where
  -- of a volume that is put twice in a slot the second one counts
  abbrev twice : (mid : VolumeState) → with_state (with_state s.volumes slot (Some mid)) slot (Some y) ≡ with_state s.volumes slot (Some y)
  twice mid = set-set s.volumes slot (Some mid) (Some y)

  -- A snapshot is made once files were placed.
  pub made_clones : (name : List ℕ) (did : IsSnapped d s.pool x e q name y) → AreFooted (with_state s.volumes slot (Some did.mid)) q.containers → AreFooted (with_state s.volumes slot (Some y)) q.containers
  made_clones name did footed =
      let between = with_state s.volumes slot (Some did.mid) in
      let snaps : did.mid.snapshots ≡ x.snapshots = ap (λ (z : VolumeState). z.snapshots) did.placed.keeps in
      subst (λ (ss : States). AreFooted ss q.containers) (twice did.mid)
      (subst (λ (z : VolumeState). AreFooted (with_state between slot (Some z)) q.containers) (sym did.now)
      (made_footed between slot did.mid (placed_there d e s q slot x did.mid there slot_is fit did.placed) q.containers footed did.slot name (subst (λ (ss : List Snap). IsLeastFree ss did.slot) (sym snaps) did.free)))

  -- One is removed on which none stands.
  module _ (name : List ℕ) (did : IsUnsnapped d s.pool x e q name y) (unused : is_used s.volumes slot name ≡ false) where
    abbrev between : States
    between = with_state s.volumes slot (Some did.mid)

    mid_there : state_at between slot ≡ Some did.mid
    mid_there = placed_there d e s q slot x did.mid there slot_is fit did.placed

    snaps : did.mid.snapshots ≡ x.snapshots
    snaps = ap (λ (z : VolumeState). z.snapshots) did.placed.keeps

    long : length s.volumes ≡ 64
    long = fit.housed.long

    -- by the slot of the one that goes
    not_stood : is_snap_stood_on s.volumes slot did.snap.slot ≡ false
    not_stood =
        let named : snap_named x.snapshots name ≡ Some did.snap = found_here name x.snapshots did.at did.finds did.snap ∙ ap (λ (p : Snap). Some p) (did.there did.snap) in
        sym (ap (λ (o : Option VolumeState). option_map_or (λ (x : VolumeState). option_map_or (λ (p : Snap). is_snap_stood_on s.volumes slot p.slot) (snap_named x.snapshots name) false) o false) there
        ∙ ap (λ (o : Option Snap). option_map_or (λ (p : Snap). is_snap_stood_on s.volumes slot p.slot) o false) named) ∙ unused

    -- placing files changes no base
    still : (test : Base → Bool) (k : ℕ) → stands_by test (state_at between k) ≡ stands_by test (state_at s.volumes k)
    still test k = ⊎_elim
        (λ (here : k ≡ slot). ap (λ (n : ℕ). stands_by test (state_at between n)) here ∙ ap (stands_by test) mid_there
        ∙ ap (λ (o : Option Base). option_map_or test o false) (ap (λ (z : VolumeState). z.base) did.placed.keeps)
        ∙ sym (ap (λ (n : ℕ). stands_by test (state_at s.volumes n)) here ∙ ap (stands_by test) there))
        (λ (other : k ≢ slot). ap (stands_by test) (get_or-set_other s.volumes slot k (Some did.mid) None other))
        (cases_eq k slot)

    none_stood : (test : Base → Bool) → some_stands s.volumes test ≡ false → some_stands between test ≡ false
    none_stood test none = stands_nowhere between test (λ k low. still test k ∙ stands_not s.volumes test none k low)

    pub removed_clones : AreFooted between q.containers → AreFooted (with_state s.volumes slot (Some y)) q.containers
    removed_clones footed =
        subst (λ (ss : States). AreFooted ss q.containers) (twice did.mid)
        (subst (λ (z : VolumeState). AreFooted (with_state between slot (Some z)) q.containers) (sym did.now)
        (removed_footed between slot did.mid mid_there q.containers footed (length-set s.volumes slot (Some did.mid) ∙ long)
        (subst (λ (n : ℕ). IsLabelled n did.mid) (ap (λ (z : VolumeState). z.slot) did.placed.keeps ∙ slot_is) did.placed.ready.labelled)
        did.at (subst (λ (ss : List Snap). did.at < length ss) (sym snaps) did.within) did.snap
        (λ some. ap (λ (ss : List Snap). slice_index_or ss did.at some) snaps ∙ did.there some) did.ledger (none_stood _ not_stood)))

  -- The active table becomes that of one.
  pub turned_clones : (name : List ℕ) (did : IsTurned x name y) → AreFooted s.volumes s.pool.containers → AreFooted (with_state s.volumes slot (Some y)) s.pool.containers
  turned_clones name did footed = subst (λ (z : VolumeState). AreFooted (with_state s.volumes slot (Some z)) s.pool.containers) (sym did.now)
      (turned_footed s.volumes slot x there s.pool.containers footed (subst (λ (o : Option VolumeState). IfSome o (IsLabelled slot)) there (fit.housed.volumes slot)) name did.snap did.there did.ledger)
