-- What is left of the delayed entries at the end of the course of a point, and that the image shows it.
use Rattle.std.proofs.Common.{◌≡◌, ℕ, ◌<◌, Bool, true, false, not, ◌&&◌, List, length, get_or, refl, sym, ap, subst, ◌∙◌}
use Rattle.std.specs.Prelude.{Option, Some, None, IfSome}
use Rattle.std.specs.Option.{is_some, option_map}
use Rattle.std.specs.FinMap as fin
use Rattle.std.specs.Ordering.{nat_cmp}
use Rattle.std.proofs.lemmas.Bool.{both_ways}
use Rattle.std.proofs.lemmas.Option.{none-some, same_Some}
use Rattle.fv_disk.specs.Shown.{Image}
use Rattle.fv_codec.specs.declared.label.Label.{Label}
use Rattle.fv_image.specs.Views.{Head, View, entry_count, head_of}
use Rattle.fv_image.specs.Held.{view_at}
use Rattle.fv_image.specs.Mapped.{AreInSlots}
use Rattle.fv_image.proofs.Heads.{head_told}
use Rattle.fv_container.specs.declared.entry.Entry.{Entry}
use Rattle.fv_container.specs.Chains.{Slots, container_at, map_in, paged_at}
use Rattle.fv_container.specs.Paged.{Paged}
use Rattle.fv_container.specs.Mapped.{Mapped, entry_under}
use Rattle.fv_root.specs.declared.find.Found.{Found}
use Rattle.fv_root.specs.Finding.{root_found}
use Rattle.fv_delay.specs.Delay.{is_delayed, region_of}
use Rattle.fv_delay.specs.Holding.{AreHoldingsOf, AreLeft, AreMapsOf, Holding, IsHoldingOf, IsLeft, held_by}
use Rattle.fv_delay.proofs.Held.{holding_of}
use Rattle.fv_delay.proofs.Left.{left_still}
use Rattle.fv_delay.proofs.Reclaimed.{delayed_now}
use Rattle.fv_pool.specs.declared.pool.Pool.{Pool}
use Rattle.fv_volume.specs.declared.state.VolumeState.{VolumeState}
use Rattle.fv_volume.specs.Files.{HasOwnSlots, HasSlotsOf, IsLabelled}
use Rattle.fv_volumes.specs.Housed.{AreHoused}
use Rattle.fv_volume.specs.Loading.{HaveBits, Houses, IsContainerOf, IsLoaded, label_of}
use Rattle.fv_volume.specs.States.{States, head_in, placed_in, state_at}
use Rattle.fv_volume.specs.Stored.{is_map_written}
use Rattle.fv_volumes.proofs.Drawing.{not_so}
use Rattle.fv_volume.proofs.KeptSlots.{maps_of}
use Rattle.fv_volumes.proofs.StoredSlot.{written_held}
use Rattle.fv_volumes.proofs.Viewed.{entry_of}
use Rattle.fv_volumes.proofs.Waiting.{none_waits}
use Rattle.fv_cp.specs.Choosing.{ReclaimsChanged, holding_with, holdings}
use Rattle.fv_cp.specs.Course.{IsCourse, IsOnCourse, IsRenewed, as_lent, renewed}

-- ---- what is left

module _ (regions : ℕ → ℕ → Bool) (pool : Pool) (states : States) (housed : AreHoused pool.containers states) (reclaims : ReclaimsChanged regions states) (first i : Image) (labels : List ℕ) (next : List Bool) (containers : Slots) (is : IsCourse regions pool states first 64 labels next containers i) where
  -- the volumes with their containers at the end
  abbrev pub last : ℕ → Option Holding
  last s = holding_with (is.now s) (container_at containers s)

  labelled : (s : ℕ) (x : VolumeState) → state_at states s ≡ Some x → IsLabelled s x
  labelled s x there = subst (λ (o : Option VolumeState). IfSome o (IsLabelled s)) there (housed.volumes s)

  -- a volume that was written
  left_renewed : (s : ℕ) (y : VolumeState) (label : ℕ) (container : Option Paged) → state_at states s ≡ Some y → (r : IsRenewed (regions s) pool first s y label container i) → IsLeft (regions s) (held_by y.map r.old.map) (held_by y.map r.new.map)
  left_renewed s y label container there r =
      let long : length r.old.map.entries ≡ entry_count y.span = subst (Houses (Some y)) (ap map_in r.was) (subst (λ (o : Option VolumeState). Houses o (container_at pool.containers s)) there (housed.each s)) in
      left_still (regions s) (held_by y.map r.old.map) y.map r.mid.map r.new.map (record { long = r.reclaimed.long; delayed = delayed_now y.map (regions s) r.old r.mid r.reclaimed })
      (r.stored.long ∙ sym (r.reclaimed.long ∙ long)) (λ v free. r.stored.kept v (not_so (is_map_written y v) (λ written. both_ways _ free (written_held s y (labelled s y there) v written))))

  -- a volume that wasn't
  left_as_lent : (s : ℕ) (y : VolumeState) → state_at states s ≡ Some y → y.changed ≡ false → (map : Mapped) → IsLeft (regions s) (held_by y.map map) (held_by y.map map)
  left_as_lent s y there unchanged map = record {
    long = refl;
    delayed = λ v. sym (ap (λ (t : Bool). is_delayed y.map map v && not t) (none (region_of v)) ∙ always (is_delayed y.map map v));
  }
    where
      none : (r : ℕ) → regions s r ≡ false
      none = subst (λ (o : Option VolumeState). IfSome o (λ x. x.changed ≡ false → (r : ℕ) → regions s r ≡ false)) there (reclaims s) unchanged

      always : (t : Bool) → (t && true) ≡ t
      always true = refl
      always false = refl

  -- no volume comes to a slot
  none_comes : (s : ℕ) → s < 64 → state_at states s ≡ None → is.now s ≡ None
  none_comes s inside none = by (is.each s inside)
    where
      by : IsOnCourse regions pool states first 64 s (is.now s) (get_or labels s 0) (paged_at containers s) i → is.now s ≡ None
      by (renewed y low there changed now r) = absurd (none-some y (sym none ∙ there))
      by (as_lent waits at) = at.state ∙ none

  free_slot : (s : ℕ) → s < 64 → holdings pool.containers states s ≡ None → last s ≡ None
  free_slot s inside none = by (state_at states s) (container_at pool.containers s) refl refl none (housed.each s)
    where
      by : (o : Option VolumeState) (c : Option Mapped) → state_at states s ≡ o → container_at pool.containers s ≡ c → holding_with (state_at states s) (container_at pool.containers s) ≡ None → Houses (state_at states s) (container_at pool.containers s) → last s ≡ None
      by None c there lies none house = ap (λ (o : Option VolumeState). holding_with o (container_at containers s)) (none_comes s inside there)
      by (Some x) None there lies none house = absurd (subst (λ (o : Option VolumeState). Houses o None) there (subst (Houses (state_at states s)) lies house))
      by (Some x) (Some map) there lies none house = absurd (none-some (held_by x.map map) (sym none ∙ (λ k. holding_with (there k) (lies k))))

  used_slot : (s : ℕ) (x : Holding) → s < 64 → holdings pool.containers states s ≡ Some x → (y : Holding) × ((last s ≡ Some y) × IsLeft (regions s) x y)
  used_slot s x inside some = by (state_at states s) (container_at pool.containers s) refl refl
    where
      -- the volume that was there
      here : (z : VolumeState) (map : Mapped) → state_at states s ≡ Some z → container_at pool.containers s ≡ Some map → held_by z.map map ≡ x
      here z map there lies = same_Some (held_by z.map map) x (sym (λ k. holding_with (there k) (lies k)) ∙ some)

      on : (z : VolumeState) (map : Mapped) → state_at states s ≡ Some z → container_at pool.containers s ≡ Some map
          → IsOnCourse regions pool states first 64 s (is.now s) (get_or labels s 0) (paged_at containers s) i → (y : Holding) × ((last s ≡ Some y) × IsLeft (regions s) x y)
      on z map there lies (renewed y low at changed now r) =
          (held_by y.map r.new.map, ((λ k. holding_with (now k) (map_in (r.now k))), subst (λ (h : Holding). IsLeft (regions s) h (held_by y.map r.new.map)) (here y r.old.map at (ap map_in r.was)) (left_renewed s y (get_or labels s 0) (paged_at containers s) at r)))
      on z map there lies (as_lent waits at) =
          let unchanged : z.changed ≡ false = subst (λ (o : Option VolumeState). IfSome o (λ x. x.changed ≡ false)) there (none_waits (state_at states s) s inside waits) in
          (held_by z.map map, ((λ k. holding_with ((at.state ∙ there) k) ((ap map_in at.lies ∙ lies) k)), subst (λ (h : Holding). IsLeft (regions s) h (held_by z.map map)) (here z map there lies) (left_as_lent s z there unchanged map)))

      by : (o : Option VolumeState) (c : Option Mapped) → state_at states s ≡ o → container_at pool.containers s ≡ c → (y : Holding) × ((last s ≡ Some y) × IsLeft (regions s) x y)
      by None c there lies = absurd (none-some x (sym (ap (λ (o : Option VolumeState). holding_with o (container_at pool.containers s)) there) ∙ some))
      by (Some z) None there lies = absurd (none-some x (sym (λ k. holding_with (there k) (lies k)) ∙ some))
      by (Some z) (Some map) there lies = on z map there lies (is.each s inside)

  -- Of the delayed entries of each volume those are left that lie in no region that was reclaimed.
  pub delayed_left : AreLeft regions (holdings pool.containers states) last
  delayed_left = record { free = free_slot; each = used_slot }

-- ---- what the image shows

-- a hole has no block
placed_some : (i : Image) (o : Option Entry) → is_some (placed_in fin.empty i o) ≡ is_some o
placed_some i None = refl
placed_some i (Some e) = refl

module _ (found : Found) (i : Image) (s : ℕ) (h : Head) where
  abbrev w : View
  w = view_at (root_found found) i

  head_of_label : w.head s ≡ Some h → option_map head_of (label_of found i s) ≡ Some h
  head_of_label is = sym (head_told (root_found found) i s) ∙ is

  entry_there : (m : Mapped) → IsContainerOf i (label_of found i s) (Some m) → (v : ℕ) → w.entry s v ≡ placed_in fin.empty i (entry_under m v)
  unfolding view_at
  entry_there m tree v = sym (entry_of fin.empty i (λ b. fin.get-empty nat_cmp b) (label_of found i s) (Some m) v tree)

  -- A volume that is loaded is the one that the image shows in its slot.
  pub holding_shown : w.head s ≡ Some h → (o : Option VolumeState) (c : Option Paged) → IsLoaded i found s o c → IfSome o HasOwnSlots → IfSome o (λ x. x.map.span ≡ x.span) → (y : Holding) × ((holding_with o (map_in c) ≡ Some y) × IsHoldingOf w s h y)
  unfolding head_of
  holding_shown is_head None c is slots spans = absurd (none-some h (is.head ∙ head_of_label is_head))
  holding_shown is_head (Some x) c is slots spans = by (label_of found i s) refl (map_in c) is.tree refl
    where
      head : head_in x ≡ h
      head = same_Some (head_in x) h (is.head ∙ head_of_label is_head)

      span : x.span ≡ h.span
      span = ap (λ (g : Head). g.span) head

      by : (l : Option Label) → label_of found i s ≡ l → (d : Option Mapped) → IsContainerOf i (label_of found i s) d → map_in c ≡ d → (y : Holding) × ((holding_with (Some x) (map_in c) ≡ Some y) × IsHoldingOf w s h y)
      by None there d tree same = absurd (none-some h (sym (ap (option_map head_of) there) ∙ head_of_label is_head))
      by (Some l) there None tree same = absurd (subst (λ (o : Option Label). IsContainerOf i o None) there tree)
      by (Some l) there (Some m) tree same =
          let of = subst (λ (o : Option Label). IsContainerOf i o (Some m)) there tree in
          let label : head_of l ≡ h = same_Some (head_of l) h (sym (ap (option_map head_of) there) ∙ head_of_label is_head) in
          let long : length m.entries ≡ entry_count h.span = of.1.0 ∙ ap (λ (g : Head). entry_count g.span) label in
          let bits : HaveBits w s h.span x.map = subst (λ (n : ℕ). HaveBits w s n x.map) span is.bits in
          let maps : AreMapsOf w s h x.map = maps_of w s h x.map (subst (λ (g : Head). HasSlotsOf g x.map) head slots.0) (subst AreInSlots head slots.1) bits (spans ∙ span) in
          (held_by x.map m, (ap (holding_with (Some x)) same, holding_of w s h (held_by x.map m) maps long (λ v. sym (placed_some i (entry_under m v)) ∙ ap is_some (sym (entry_there m tree v)))))

-- A slot that the image shows without a volume has none.
none_shown : (found : Found) (i : Image) (s : ℕ) → (view_at (root_found found) i).head s ≡ None → (o : Option VolumeState) (c : Option Mapped) → option_map head_in o ≡ option_map head_of (label_of found i s) → holding_with o c ≡ None
none_shown found i s none None c head = refl
none_shown found i s none (Some x) c head = absurd (none-some (head_in x) (sym (head ∙ sym (head_told (root_found found) i s) ∙ none)))

-- So all volumes are, where those of all slots are loaded.
pub holdings_shown : (found : Found) (i : Image) (now : ℕ → Option VolumeState) (container : ℕ → Option Paged) → ((s : ℕ) → s < 64 → IsLoaded i found s (now s) (container s))
    → ((s : ℕ) → s < 64 → IfSome (now s) HasOwnSlots) → ((s : ℕ) → s < 64 → IfSome (now s) (λ x. x.map.span ≡ x.span)) → AreHoldingsOf (view_at (root_found found) i) (λ s. holding_with (now s) (map_in (container s)))
holdings_shown found i now container loaded slots spans = record {
  free = λ s inside none. none_shown found i s none (now s) (map_in (container s)) (loaded s inside).head;
  each = λ s h inside is_head. holding_shown found i s h is_head (now s) (container s) (loaded s inside) (slots s inside) (spans s inside);
}
