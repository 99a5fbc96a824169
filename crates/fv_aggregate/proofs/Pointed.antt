-- What a point makes of the entries of a session's volumes, as the image shows them.
use Rattle.std.proofs.Common.{◌≡◌, ◌<◌, ℕ, Bool, true, false, List, [], ◌∷◌, Option, Some, None, refl, sym, ap, subst, ◌∙◌, true≢false}
use Rattle.std.specs.Prelude.{◌==◌, ◌&&◌, ◌||◌, if◌then◌else◌, IfSome}
use Rattle.std.specs.FinMap as fin
use Rattle.std.specs.Ordering.{nat_cmp}
use Rattle.std.proofs.lemmas.Bool.{and_parts}
use Rattle.fv_disk.specs.Shown.{Shown}
use Rattle.fv_bits.specs.Members.{is_member}
use Rattle.fv_image.specs.Held.{view_at}
use Rattle.fv_aggmap.specs.Loading.{IsLoaded as IsMapLoaded}
use Rattle.fv_container.specs.declared.entry.Entry.{Entry}
use Rattle.fv_container.specs.Chains.{container_at, own_entry}
use Rattle.fv_container.specs.Mapped.{Mapped, entry_under}
use Rattle.fv_delay.specs.declared.regions.Region.{Region}
use Rattle.fv_delay.specs.Delay.{is_delayed, region_of}
use Rattle.fv_delay.specs.Holding.{has_region}
use Rattle.fv_delay.specs.Reclaims.{goes_with}
use Rattle.fv_volume.specs.declared.state.VolumeState.{VolumeState}
use Rattle.fv_volume.specs.Loading.{Houses, label_of}
use Rattle.fv_volume.specs.States.{state_at}
use Rattle.fv_volume.specs.Stored.{is_map_written, map_entry, place_at}
use Rattle.fv_volumes.proofs.Viewed.{entry_of}
use Rattle.fv_cp.specs.Choosing.{has_slot, regions_chosen}
use Rattle.fv_cp.specs.Points.{is_due}
use Rattle.fv_cp.specs.Settling.{IsHeldPoint, LeavesPlaced}
use Rattle.fv_aggregate.specs.declared.session.Session.{Session}
use Rattle.fv_aggregate.specs.Reclaiming.{ReclaimsEntries, entry_shown, shown_as, writes_map}
use Rattle.fv_aggregate.proofs.PointEnds.{all_loaded}

-- a list without a region of a slot has none of its regions
none_there : (regions : List Region) (s r : ℕ) → has_slot regions s ≡ false → has_region regions s r ≡ false
unfolding has_region
none_there [] s r none = refl
none_there (g ∷ gs) s r none = by (g.slot == s) refl (λ rest. none_there gs s r rest)
  where
    by : (b : Bool) → (g.slot == s) ≡ b → (has_slot gs s ≡ false → has_region gs s r ≡ false) → has_region (g ∷ gs) s r ≡ false
    by true here more = absurd (true≢false (sym (ap (λ (t : Bool). t || has_slot gs s) here) ∙ none))
    by false other more = ap (λ (t : Bool). (t && (g.region == r)) || has_region gs s r) other ∙ more (sym (ap (λ (t : Bool). t || has_slot gs s) other) ∙ none)

not_either : (a b : Bool) → (a || b) ≡ false → a ≡ false
not_either true b is = is
not_either false b is = refl

and_none : (b : Bool) → (b && false) ≡ false
and_none true = refl
and_none false = refl

-- a volume has its container
housed_there : (x : VolumeState) (c : Option Mapped) → Houses (Some x) c → (map : Mapped) × (c ≡ Some map)
housed_there x None never = absurd never
housed_there x (Some map) count = (map, refl)

module _ (old : Shown) (before : Session) (want : ℕ) (new : Shown) (after : Session) (is : IsHeldPoint old before.pool before.volumes want new after.pool after.volumes after.delays)
    (loaded : IsMapLoaded new.reads after.pool.found after.pool.map) where
  abbrev e : LeavesPlaced before.pool before.volumes want after.pool after.volumes
  e = is.entries

  abbrev chosen : List Region
  chosen = regions_chosen e.mid e.between want

  -- the image shows the containers in memory
  shown : (s v : ℕ) → s < 64 → entry_shown new after s v ≡ shown_as new (own_entry (container_at after.pool.containers s) v)
  unfolding view_at
  shown s v inside = sym (entry_of fin.empty new.reads (λ b. fin.get-empty nat_cmp b) (label_of after.pool.found new.reads s) (container_at after.pool.containers s) v
      (all_loaded old before.pool before.volumes new after.pool after.volumes want after.delays is loaded s inside).tree)

  module _ (s v : ℕ) (x : VolumeState) (map : Mapped) (inside : s < 64) (there : state_at e.between s ≡ Some x) (lies : container_at e.mid.containers s ≡ Some map) where
    map_written : writes_map chosen s x v ≡ true → (place : ℕ) × ((is_member before.pool.map.committed place ≡ false) × (entry_shown new after s v ≡ shown_as new (Some (map_entry place))))
    map_written writes =
        let both = and_parts (is_due chosen s x) (is_map_written x v) writes in
        let one = e.containers.written s x map inside there both.0 lies in
        (place_at one.0 v, (one.1.1.spare v both.1, shown s v inside ∙ ap (λ (c : Option Mapped). shown_as new (own_entry c v)) one.1.0 ∙ ap (λ (o : Option Entry). shown_as new o) (one.1.1.written v both.1)))

    -- the entry that is left of one that isn't written
    abbrev rest : Option Entry
    rest = if goes_with x.map map (has_region chosen s) v then None else entry_under map v

    other_left : writes_map chosen s x v ≡ false → own_entry (container_at after.pool.containers s) v ≡ rest
    other_left stays = by (is_due chosen s x) refl
      where
        by : (b : Bool) → is_due chosen s x ≡ b → own_entry (container_at after.pool.containers s) v ≡ rest
        by true due =
            let one = e.containers.written s x map inside there due lies in
            ap (λ (c : Option Mapped). own_entry c v) one.1.0 ∙ one.1.1.reclaimed v (sym (ap (λ (b : Bool). b && is_map_written x v) due) ∙ stays)
        by false undue =
            let none = none_there chosen s (region_of v) (not_either (has_slot chosen s) x.changed undue) in
            let goes : goes_with x.map map (has_region chosen s) v ≡ false = ap (λ (b : Bool). is_delayed x.map map v && b) none ∙ and_none (is_delayed x.map map v) in
            ap (λ (c : Option Mapped). own_entry c v) (e.containers.stays s inside (subst (λ (o : Option VolumeState). IfSome o (λ x. is_due chosen s x ≡ false)) (sym there) undue) ∙ lies)
            ∙ sym (ap (λ (b : Bool). if b then None else entry_under map v) goes)

    other_shown : writes_map chosen s x v ≡ false → entry_shown new after s v ≡ shown_as new rest
    other_shown stays = shown s v inside ∙ ap (λ (o : Option Entry). shown_as new o) (other_left stays)

  pub entries_left : ReclaimsEntries want before new after
  entries_left = record {
    mid = e.mid;
    between = e.between;
    there = λ s x at. housed_there x (container_at e.mid.containers s) (subst (λ (o : Option VolumeState). Houses o (container_at e.mid.containers s)) at (e.housed.each s));
    found = e.found;
    version = e.version;
    same = e.others;
    maps = e.maps;
    placed = e.placed;
    written = λ s v x map inside there lies writes. map_written s v x map inside there lies writes;
    others = λ s v x map inside there lies stays. other_shown s v x map inside there lies stays;
    unused = e.unused;
    rest = e.rest;
    chosen = e.chosen;
    missing = is.missing;
  }

-- so it is of a session whose parts were these
pub entries_behind : (old : Shown) (was session : Session) → was ≡ session → (want : ℕ) (new : Shown) (after : Session) → IsHeldPoint old was.pool was.volumes want new after.pool after.volumes after.delays → IsMapLoaded new.reads after.pool.found after.pool.map → ReclaimsEntries want session new after
entries_behind old was session same want new after is loaded = subst (λ (s : Session). ReclaimsEntries want s new after) same (entries_left old was want new after is loaded)
