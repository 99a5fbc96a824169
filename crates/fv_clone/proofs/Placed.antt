-- A clone that was made among the volumes of a session: where it lies and what it stands on, and that the other volumes are as before.
use Rattle.std.proofs.Common.{◌≡◌, ◌≤◌, ℕ, false, List, Option, Some, None, inr, sym, ap, subst, ◌∙◌, arith}
use Rattle.std.specs.Prelude.{IfSome}
use Rattle.std.specs.Option.{option_map}
use Rattle.std.proofs.lemmas.List.{length-replicate}
use Rattle.fv_container.specs.Paged.{Paged, empty_paged}
use Rattle.fv_container.specs.Chains.{container_at, map_in, own_entry}
use Rattle.fv_container.proofs.Clean.{none_at}
use Rattle.fv_image.specs.Views.{entry_count}
use Rattle.fv_image.specs.Volumes.{snap_at}
use Rattle.fv_model.specs.declared.commands.Kind.{Kind}
use Rattle.fv_volmap.specs.Slots.{has, slot_at, slot_of_base}
use Rattle.fv_pool.specs.declared.pool.Pool.{Pool}
use Rattle.fv_volume.specs.declared.state.Base.{Base}
use Rattle.fv_volume.specs.declared.state.Snap.{Snap}
use Rattle.fv_volume.specs.declared.state.VolumeState.{VolumeState}
use Rattle.fv_volume.specs.Files.{IsLabelled}
use Rattle.fv_volume.specs.NewClone.{IsNewClone, RestsOn}
use Rattle.fv_volume.specs.States.{States, head_in, ledger_of_empty, state_at}
use Rattle.fv_volume.proofs.Cloned.{active_has, base_has, clone_labelled, has_both, span_is, taken_base}
use Rattle.fv_volume.proofs.SnapFinds.{snap_at_slot}
use Rattle.fv_volumes.specs.Footing.{AreFooted, IsFooted, IsOnBase}
use Rattle.fv_volumes.specs.Housed.{AreHoused}
use Rattle.fv_volumes.proofs.Added.{footed_put, housed_put, put_there, still_there, IsPut}
use Rattle.fv_volumes.proofs.OnChains.{rests_on}
use Rattle.fv_clone.specs.declared.admitting.Admitted.{Admitted}
use Rattle.fv_clone.specs.Creating.{IsCloned}
use Rattle.fv_clone.proofs.Source.{home_inside, home_labelled, home_slot, home_stamps, home_there as volume_there, snap_slot, snap_stored, snap_table, snap_there, table_levels, table_root, IsOfAsked}

module _ (pool : Pool) (states : States) (name : List ℕ) (size : ℕ) (kind : Kind) (a : Admitted) (new : States) (left : Pool) (cloned : IsCloned states pool name size kind a new left) (housed : AreHoused pool.containers states) where
  -- the clone, its parent, and the snapshot
  abbrev pub made : VolumeState
  made = cloned.state

  abbrev pub home : VolumeState
  home = cloned.admits.asked.source.home.volume

  abbrev pub source : Snap
  source = cloned.admits.asked.source.snap

  -- the base is of the snapshot that is asked
  abbrev pub of_asked : IsOfAsked states a.base name size
  of_asked = record { asked = cloned.admits.asked; is = cloned.admits.base_is; labelled = housed.volumes }

  pub home_there : state_at states a.base.parent ≡ Some home
  home_there = volume_there of_asked

  -- it tells of both
  pub base_named : a.base.name ≡ home.name
  base_named = ap (λ (b : Base). b.name) cloned.admits.base_is

  pub base_called : a.base.snapshot ≡ source.name
  base_called = ap (λ (b : Base). b.snapshot) cloned.admits.base_is

  pub base_whole : a.base.splitting ≡ false
  base_whole = ap (λ (b : Base). b.splitting) cloned.admits.base_is

  -- ---- the slots

  abbrev pub put : IsPut states pool.containers a.slot made (empty_paged (entry_count a.span)) (Some a.base.parent) new left.containers
  put = record {
    long = housed.long;
    inside = cloned.admits.free.within;
    free = cloned.admits.free.free;
    row = cloned.row;
    there = cloned.container;
    containers = ap (λ (p : Pool). p.containers) cloned.holes;
  }

  pub made_span : made.span ≡ a.span
  made_span = span_is home a.base a.slot name size kind a.span made cloned.is

  -- The clone has no entry.
  pub no_entry : (v : ℕ) → own_entry (container_at left.containers made.slot) v ≡ None
  no_entry v =
      ap (λ (n : ℕ). own_entry (container_at left.containers n) v) cloned.is.slot_is
      ∙ ap (λ (c : Option Paged). own_entry (map_in c) v) cloned.container ∙ none_at (entry_count a.span) v

  -- ---- its label

  pub made_labelled : IsLabelled a.slot made
  made_labelled = clone_labelled home a.base a.slot name size kind a.span made cloned.is base_whole (home_inside of_asked) (snap_stored of_asked).0 (snap_stored of_asked).1
      (table_levels of_asked) (table_root of_asked) (home_stamps of_asked) cloned.admits.asked.size_is _ _ cloned.admits.can.span_is cloned.admits.can.most

  -- ---- what it stands on

  home_wide : home.span ≤ a.span
  home_wide = let is = cloned.admits.can.span_is in omega (arith, is)

  base_same : (v : ℕ) → has v (slot_at made.map slot_of_base) ≡ has v (slot_at home.map a.base.slot)
  base_same = base_has (slot_at home.map a.base.slot) a.span made.map cloned.is.maps

  pub made_footed : IsFooted states made a.base
  made_footed = record {
    parent = home;
    inside = home_inside of_asked;
    there = home_there;
    snap = source;
    found = ap (snap_at (head_in home)) (snap_slot of_asked) ∙ snap_at_slot home cloned.admits.asked.source.home.slot (home_labelled of_asked) source (snap_there of_asked);
    above = λ e. (let least = (snap_stored of_asked).0 in omega (arith, least, e));
    named = base_named;
    called = base_called;
    table = snap_table of_asked;
    span = (let wide = home_wide in let is = made_span in omega (arith, wide, is));
    known = cloned.admits.can.known;
    whole = cloned.admits.can.whole;
    same = base_same;
  }

  pub made_on_base : IsOnBase left.containers made
  made_on_base = record {
    leaves = λ v has_it. no_entry v;
    rests = λ k v low has_it. inr (has_both (slot_at home.map a.base.slot) a.span made.map cloned.is.maps k v has_it);
  }

  module _ (footed : AreFooted states pool.containers) where
    -- So all clones of the session do, the new one among them.
    pub footed_now : AreFooted new left.containers
    footed_now = footed_put put housed footed (subst (λ o. IfSome o (λ b. IsFooted states made b × IsOnBase left.containers made)) (sym cloned.is.based) (made_footed, made_on_base))

    -- The volumes are in order.
    pub housed_now : AreHoused left.containers new
    housed_now = housed_put put housed made_labelled (length-replicate (entry_count a.span) None ∙ ap entry_count (sym made_span))
        (cloned.parent ∙ sym (ap (option_map (λ (b : Base). b.parent)) cloned.is.based))

    -- ---- what a new clone is

    base_rests : RestsOn left.containers made slot_of_base home a.base.slot
    base_rests = rests_on new left.containers housed_now.parents footed_now a.slot cloned.admits.free.within made cloned.is.slot_is (put_there put) a.base cloned.is.based home (home_slot of_asked)
        (still_there put a.base.parent home home_there)

    pub new_clone : IsNewClone left made home source a.base
    new_clone = record {
      active_slot = record {
        parent = base_rests.parent;
        same = λ v. active_has (slot_at home.map a.base.slot) a.span made.map cloned.is.maps v ∙ ap (λ (k : ℕ). has v (slot_at home.map k)) (snap_slot of_asked);
        holes = λ v has_it. no_entry v;
        ends = base_rests.ends;
      };
      base_slot = subst (RestsOn left.containers made slot_of_base home) (snap_slot of_asked) base_rests;
      only = taken_base (slot_at home.map a.base.slot) a.span made.map cloned.is.maps;
      holes = no_entry;
      active = cloned.is.active ∙ snap_table of_asked;
      based = cloned.is.based;
      table = snap_table of_asked;
      whole = base_whole;
      snapshots = cloned.is.snapshots;
      now = ap (λ h. h.now) cloned.is.head;
      known = λ all. cloned.admits.can.known;
      files = cloned.is.rests.files;
      numbers = cloned.is.rests.numbers;
      ledger = cloned.is.ledger ∙ numbers_are;
    }
      where
        numbers_are : ledger_of_empty size kind a.span ≡ ledger_of_empty made.size made.kind made.span
        numbers_are = λ i. ledger_of_empty ((sym cloned.is.head i).size) ((sym cloned.is.head i).kind) ((sym cloned.is.head i).span)
