-- A mirror that was made among the volumes of a session: where it lies, what it is of, and that the other volumes lie as before.
use Rattle.std.proofs.Common.{◌≡◌, ℕ, zero, suc, List, [], ◌∷◌, Option, Some, None, refl, sym, ap, subst, ◌∙◌}
use Rattle.std.specs.Prelude.{IfSome, slice_index_or, slice_set}
use Rattle.std.specs.Option.{option_map}
use Rattle.fv_disk.specs.Shown.{Shown as Disk}
use Rattle.fv_container.specs.Chains.{Slots, parent_at}
use Rattle.fv_image.specs.Views.{Head, entry_count}
use Rattle.fv_model.specs.declared.commands.Kind.{Kind}
use Rattle.fv_pool.specs.declared.pool.Pool.{Pool}
use Rattle.fv_volume.specs.declared.state.Base.{Base}
use Rattle.fv_volume.specs.declared.state.Snap.{Snap}
use Rattle.fv_volume.specs.declared.state.VolumeState.{VolumeState}
use Rattle.fv_volume.specs.Files.{IsLabelled}
use Rattle.fv_volume.specs.States.{States, state_at}
use Rattle.fv_volumes.specs.Footing.{AreFooted, IsFooted, IsOnBase}
use Rattle.fv_volumes.specs.Housed.{AreHoused}
use Rattle.fv_volumes.proofs.Added.{footed_put, housed_put, IsPut}
use Rattle.fv_clone.proofs.Source.{home_stamps, table_levels, table_root, IsOfAsked}
use Rattle.fv_mirror.specs.declared.admitting.Admitted.{Admitted}
use Rattle.fv_mirror.specs.Making.{IsMirrored}
use Rattle.fv_mirror.proofs.Labelled.{mirror_labelled}
use Rattle.fv_mirror.proofs.Made.{of_asked as asked_of, snap, source as parent, source_there as parent_there}

-- where none is set, none is
set_none : (ps : List (Option ℕ)) (s : ℕ) → slice_index_or (slice_set ps s None) s None ≡ None
set_none [] zero = refl
set_none [] (suc s) = refl
set_none (p ∷ ps) zero = refl
set_none (p ∷ ps) (suc s) = set_none ps s

module _ (disk : Disk) (pool : Pool) (states : States) (name : List ℕ) (size : ℕ) (kind : Kind) (a : Admitted) (after : Disk) (new : States) (left : Pool) (mirrored : IsMirrored disk states pool name size kind a after new left) (housed : AreHoused pool.containers states) where
  -- the mirror, its source, and the snapshot
  abbrev pub made : VolumeState
  made = mirrored.state

  abbrev pub home : VolumeState
  home = parent states pool name size kind a mirrored.admits housed.volumes

  abbrev pub source : Snap
  source = snap states pool name size kind a mirrored.admits housed.volumes

  -- the source is of the snapshot that is asked
  abbrev pub of_asked : IsOfAsked states a.source name size
  of_asked = asked_of states pool name size kind a mirrored.admits housed.volumes

  pub home_there : state_at states a.source.parent ≡ Some home
  home_there = parent_there states pool name size kind a mirrored.admits housed.volumes

  -- it tells of both
  pub source_named : a.source.name ≡ home.name
  source_named = ap (λ (b : Base). b.name) mirrored.admits.source_is

  -- ---- the slots

  abbrev pub put : IsPut states pool.containers a.slot made mirrored.container None new left.containers
  put = record {
    long = housed.long;
    inside = mirrored.admits.free.within;
    free = mirrored.admits.free.free;
    row = mirrored.row;
    there = mirrored.there;
    containers = mirrored.containers;
  }

  pub made_span : made.span ≡ a.span
  made_span = ap (λ (h : Head). h.span) mirrored.is.head

  pub parent_here : parent_at left.containers a.slot ≡ None
  parent_here = ap (λ (c : Slots). parent_at c a.slot) mirrored.containers ∙ set_none pool.containers.parents a.slot

  -- It has a label that can be written.
  pub made_labelled : IsLabelled a.slot made
  made_labelled = mirror_labelled home a.source a.count a.slot name size kind a.span made mirrored.is (table_levels of_asked) (table_root of_asked) (home_stamps of_asked)
      mirrored.admits.asked.size_is home.span mirrored.admits.span_is mirrored.admits.most

  -- All clones of the session stand on what they stood on; the mirror stands on nothing.
  pub footed_now : AreFooted states pool.containers → AreFooted new left.containers
  footed_now footed = footed_put put housed footed (subst (λ o. IfSome o (λ b. IsFooted states made b × IsOnBase left.containers made)) (sym mirrored.is.based) tt)

  -- The volumes are in order.
  pub housed_now : AreHoused left.containers new
  housed_now = housed_put put housed made_labelled (mirrored.long ∙ ap entry_count (sym made_span)) (parent_here ∙ sym (ap (option_map (λ (b : Base). b.parent)) mirrored.is.based))
