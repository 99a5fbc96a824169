-- Volumes that stand in an image under new labels: it tells what they told, and stands for the same machine, where the space rule holds.
use Rattle.std.proofs.Common.{◌≡◌, ℕ, ◌-◌, ◌*◌, ◌<◌, ◌≤◌, Bool, true, false, List, [], get_or, take, refl, sym, ap, subst, ◌∙◌, arith, ⊎_elim}
use Rattle.std.specs.Prelude.{Option, Some, None, IfSome, ◌&&◌, nat_lt, if◌then◌else◌}
use Rattle.std.specs.List.{list_all, range_with_len}
use Rattle.std.specs.Option.{is_some, option_map, option_map_or}
use Rattle.std.specs.FinMap as fin
use Rattle.std.specs.Ordering.{nat_cmp}
use Rattle.std.proofs.lemmas.Bool.{cases_lt, false≢true}
use Rattle.std.proofs.lemmas.Bool.Decides.{nat_tests}
use Rattle.std.proofs.lemmas.List.{get_or_past}
use Rattle.std.proofs.lemmas.Option.{none-some, same_Some}
use Rattle.fv_disk.specs.Shown.{Image}
use Rattle.fv_bits.specs.Members.{is_member}
use Rattle.fv_model.specs.Machines.{first_block}
use Rattle.fv_model.specs.Space.{map_blocks}
use Rattle.fv_laws.proofs.Lists.{In}
use Rattle.fv_laws.proofs.Tests.{to_all}
use Rattle.fv_tables.specs.Reached.{items, is_listed}
use Rattle.fv_image.specs.Layout.{block_bits}
use Rattle.fv_image.specs.NewerRoot.{Taken}
use Rattle.fv_image.specs.Views.{Footing, Head, Rooted, View, head_of, volume_bit, leaves_room}
use Rattle.fv_image.specs.Held.{Layout, label_in, label_place, layout_at, lying_at, view_at, with_bits}
use Rattle.fv_image.specs.BlockRules.{agree}
use Rattle.fv_image.specs.SoundSlots.{IsSoundSlot}
use Rattle.fv_image.specs.Whole.{is_held_by}
use Rattle.fv_image.specs.Volumes.{standing_of, told}
use Rattle.fv_image.specs.Seen.{roots_of, seen}
use Rattle.fv_image.specs.Soundness.{AreMaps, AreTables}
use Rattle.fv_image.specs.Staying.{StaysHeld, base_items, own_items}
use Rattle.fv_image.specs.WholeMachine.{is_built, machine_from}
use Rattle.fv_image.proofs.Heads.{head_told}
use Rattle.fv_image.proofs.Counted.{HasHeads}
use Rattle.fv_image.proofs.LabelNumbers.{label_numbers}
use Rattle.fv_image.proofs.OwnBases.{uses_own}
use Rattle.fv_image.proofs.OwnUses.{HasLabelNumbers}
use Rattle.fv_image.proofs.Points.{Ends, UsesOwn, end_machine, has_bits_of, maps_from}
use Rattle.fv_image.proofs.Rewritten.{heads_with_bits, slot_with_bits, times_with_bits}
use Rattle.fv_image.proofs.SameSeen.{same_seen}
use Rattle.fv_image.proofs.SoundSlots.{blocks_from_slots, kinds_from_slots, maps_from_slots, slot_stays_sound}
use Rattle.fv_image.proofs.Spaced.{AreSpaced}
use Rattle.fv_image.proofs.WholeSlots.{all_between}
use Rattle.fv_container.specs.Chains.{container_at, map_in, own_entry}
use Rattle.fv_container.specs.declared.entry.Entry.{Entry}
use Rattle.fv_container.specs.Paged.{Paged}
use Rattle.fv_root.specs.declared.find.Found.{Found}
use Rattle.fv_root.specs.Finding.{root_found}
use Rattle.fv_root.specs.Formatted.{IsSize}
use Rattle.fv_volmap.specs.Slots.{has, slot_at, stored_count, taken_in}
use Rattle.fv_pool.specs.declared.pool.Pool.{Pool}
use Rattle.fv_volume.specs.declared.state.Base.{Base}
use Rattle.fv_volume.specs.declared.state.VolumeState.{VolumeState}
use Rattle.fv_volume.specs.Files.{AreNamed, IsLabelled}
use Rattle.fv_volumes.specs.Footing.{AreFooted, IsFooted, IsOnBase}
use Rattle.fv_volumes.specs.Housed.{AreHoused, HaveReaches, ReachesAll, settled_as, settled_at}
use Rattle.fv_volume.specs.Labels.{label_said}
use Rattle.fv_volume.specs.Loading.{HaveBits, label_of}
use Rattle.fv_volume.specs.States.{States, footing_in, head_in, placed_in, snap_in, state_at, table_in, view_over}
use Rattle.fv_volume.specs.Stored.{has_block, has_stored_map, map_slot, stays}
use Rattle.fv_volumes.specs.UnderRoot.{AllStandUnder}
use Rattle.fv_volumes.proofs.Distinct.{same_names}
use Rattle.fv_volume.proofs.KnownBases.{snap_inside}
use Rattle.fv_volume.proofs.Labels.{label_head}
use Rattle.fv_volumes.proofs.Footed.{each_stands}
use Rattle.fv_volumes.proofs.Settled.{same_head, settled_back}
use Rattle.fv_volumes.proofs.SlotRoots.{base_rooted, none_past, own_below, own_taken, root_has, root_slot, slot_stored, snap_rooted}
use Rattle.fv_volumes.proofs.StoredSlot.{HaveNonePast}
use Rattle.fv_volumes.proofs.Told.{is_inside}
use Rattle.fv_volumes.proofs.Viewed.{entry_of}

module _ (pool : Pool) (states : States) (before : Image) (housed : AreHoused pool.containers states) (tables : AreTables (seen (view_over pool states before))) (reach : HaveReaches (view_over pool states before) states) (footed : AreFooted states pool.containers) where
  abbrev w : View
  w = view_over pool states before

  head_there : (s : ℕ) (x : VolumeState) → state_at states s ≡ Some x → w.head s ≡ Some (head_in x)
  unfolding view_over
  head_there s x there = ap (option_map head_in) there

  labelled : (s : ℕ) (x : VolumeState) → state_at states s ≡ Some x → IsLabelled s x
  labelled s x there = subst (λ (o : Option VolumeState). IfSome o (IsLabelled s)) there (housed.volumes s)

  reaches : (s : ℕ) (x : VolumeState) → s < 64 → state_at states s ≡ Some x → ReachesAll w s x
  reaches s x inside there = subst (λ (o : Option VolumeState). IfSome o (ReachesAll w s)) there (reach s inside)

  -- no number past the span is in a stored map
  pub past_clear : (s : ℕ) (x : VolumeState) → s < 64 → state_at states s ≡ Some x → HaveNonePast x
  past_clear s x inside there =
      let state = labelled s x there in
      none_past w s x (reaches s x inside there) state.snapshots.slots state.slots tables.ranges inside (head_there s x there)

  state_of : (s : ℕ) (h : Head) → w.head s ≡ Some h → (x : VolumeState) × (state_at states s ≡ Some x) × (head_in x ≡ h)
  unfolding view_over
  state_of s h is_head = so (state_at states s) refl is_head
    where
      so : (o : Option VolumeState) → state_at states s ≡ o → option_map head_in o ≡ Some h → (x : VolumeState) × (state_at states s ≡ Some x) × (head_in x ≡ h)
      so None there e = absurd (none-some h e)
      so (Some x) there e = (x, there, same_Some (head_in x) h e)

  -- what the roots of a volume reach, its maps have, and so it stays
  reached_stays : (s : ℕ) (x : VolumeState) (v : ℕ) → s < 64 → state_at states s ≡ Some x → is_listed (own_items w s (head_in x)) v ≡ true → stays x v ≡ true
  reached_stays s x v inside there listed =
      let low = own_below w s (head_in x) v tables.ranges inside (head_there s x there) listed in
      let test : nat_lt v x.span ≡ true = grind (arith, nat_tests, low) in
      ap (λ (t : Bool). if t then taken_in (take stored_count x.map.slots) v else has_stored_map x (map_slot x.span v)) test
      ∙ own_taken w s x (reaches s x inside there) (labelled s x there).snapshots.slots v listed

  -- what a volume stands on, by its head
  record HasBase (x : VolumeState) (f : Footing) : Type 0 where
    base : Base
    based : x.base ≡ Some base
    tells : footing_in base ≡ f

  base_of : (x : VolumeState) (f : Footing) → (head_in x).base ≡ Some f → HasBase x f
  base_of x f tells = by x.base refl tells
    where
      by : (o : Option Base) → x.base ≡ o → option_map footing_in o ≡ Some f → HasBase x f
      by None based e = absurd (none-some f e)
      by (Some b) based e = record { base = b; based = based; tells = same_Some (footing_in b) f e }

  -- What the base table of a clone reaches lies below its span, and it has no entry of its own there.
  module _ (s : ℕ) (x : VolumeState) (there : state_at states s ≡ Some x) (b : Base) (based : x.base ≡ Some b) (v : ℕ) (listed : is_listed (base_items w (Some (footing_in b))) v ≡ true) where
    abbrev both : IsFooted states x b × IsOnBase pool.containers x
    both = each_stands states pool.containers footed s x b there based

    abbrev is : IsFooted states x b
    is = both.0

    reached : is_listed (items (standing_of w b.parent (table_in is.snap.table))) v ≡ true
    reached = ap (λ (o : Option Rooted). is_listed (option_map_or (λ (r : Rooted). items (standing_of w b.parent r)) o []) v) (sym (base_rooted w (footing_in b) (head_in is.parent) (snap_in is.snap) (head_there b.parent is.parent is.there) is.found)) ∙ listed

    -- its parent has it in the slot of the snapshot
    has_it : has v (slot_at is.parent.map b.slot) ≡ true
    has_it = reaches b.parent is.parent is.inside is.there b.slot (table_in is.snap.table) (snap_rooted (head_in is.parent) b.slot (snap_in is.snap) is.above is.found) v ∙ reached

    below_span : v < x.span
    below_span = ⊎_elim
        (λ (low : v < is.parent.span). let wide = is.span in omega (arith, low, wide))
        (λ (past : is.parent.span ≤ v). absurd (false≢true (sym (past_clear b.parent is.parent is.inside is.there b.slot v (snap_inside is.parent b.parent (labelled b.parent is.parent is.there) b.slot (snap_in is.snap) is.found).1 past) ∙ has_it)))
        (cases_lt v is.parent.span)

    unowned : own_entry (container_at pool.containers s) v ≡ None
    unowned = ap (λ (n : ℕ). own_entry (container_at pool.containers n) v) (sym (labelled s x there).slot_is) ∙ both.1.leaves v (is.same v ∙ has_it)

  -- What roots reach stays in a view with the same heads in which the entries stay that do, and which has no entry more below a span.
  pub stays_in : (u : View) → u.blocks ≡ w.blocks → u.version ≡ w.version → ((s : ℕ) → u.head s ≡ w.head s) → ((s v : ℕ) (x : VolumeState) → s < 64 → state_at states s ≡ Some x → stays x v ≡ true → u.entry s v ≡ w.entry s v)
      → ((s v : ℕ) (x : VolumeState) → s < 64 → state_at states s ≡ Some x → v < x.span → own_entry (container_at pool.containers s) v ≡ None → u.entry s v ≡ None) → StaysHeld w u
  unfolding view_over
  stays_in u blocks version heads entries holes = record {
    blocks = blocks;
    version = version;
    heads = heads;
    kept = λ s h v is_head listed.
        let x = state_of s h is_head in
        let inside = is_inside states s x.0 housed.long x.1 in
        entries s v x.0 inside x.1 (reached_stays s x.0 v inside x.1 (subst (λ (g : Head). is_listed (own_items w s g) v ≡ true) (sym x.2) listed));
    based = λ s h b v is_head based splitting listed.
        let x = state_of s h is_head in
        let its = base_of x.0 b (ap (λ (g : Head). g.base) x.2 ∙ based) in
        let here : is_listed (base_items w (Some (footing_in its.base))) v ≡ true = ap (λ (f : Footing). is_listed (base_items w (Some f)) v) its.tells ∙ listed in
        let none : own_entry (container_at pool.containers s) v ≡ None = unowned s x.0 x.1 its.base its.based v here in
        ap is_some (holes s v x.0 (is_inside states s x.0 housed.long x.1) x.1 (below_span s x.0 x.1 its.base its.based v here) none) ∙ sym (ap (λ (e : Option Entry). is_some (placed_in pool.kept before e)) none);
  }

  -- ---- where they stand

  module _ (f : Found) (labels : List ℕ) (next : List Bool) (container : ℕ → Option Paged) (i : Image) (blocks : f.blocks ≡ pool.found.blocks) (version : f.root.version ≡ pool.version) (is : AllStandUnder pool states before f labels next container i) where
    abbrev u : Taken
    u = root_found f

    abbrev bits : ℕ → Bool
    bits = is_member next

    abbrev y : Layout
    y = with_bits bits (layout_at u i)

    no_label : (s : ℕ) → 64 ≤ s → label_of f i s ≡ None
    unfolding label_place label_in
    no_label s past = let test : nat_lt s 64 ≡ false = grind (arith, nat_tests, past) in ap (λ (t : Bool). label_in (lying_at i (if t then get_or f.root.labels s 0 else 0))) test

    spelled_heads : (s : ℕ) → option_map head_of (label_of f i s) ≡ w.head s
    unfolding view_over
    spelled_heads s = ⊎_elim
        (λ (inside : s < 64). sym (is.each s inside).loaded.head ∙ same_head (state_at states s) (get_or labels s 0))
        (λ (past : 64 ≤ s). ap (option_map head_of) (no_label s past) ∙ sym (ap (option_map head_in) (get_or_past states s None (omega (arith, past, housed.long)))))
        (cases_lt s 64)

    heads_are : (s : ℕ) → (view_at u i).head s ≡ w.head s
    heads_are s = head_told u i s ∙ spelled_heads s

    -- an entry that stays has its block
    pub entry_stays : (s v : ℕ) (x : VolumeState) → s < 64 → state_at states s ≡ Some x → stays x v ≡ true → (view_at u i).entry s v ≡ w.entry s v
    unfolding view_at view_over
    entry_stays s v x inside there on = sym (entry_of fin.empty i (λ b. fin.get-empty nat_cmp b) (label_of f i s) (map_in (container s)) v (is.each s inside).loaded.tree) ∙ is.kept s v x inside there on

    same_blocks : (view_at u i).blocks ≡ w.blocks
    unfolding view_at view_over
    same_blocks = blocks

    same_version : (view_at u i).version ≡ w.version
    unfolding view_at view_over
    same_version = version

    -- a hole below a span is one still
    hole_stays : (s v : ℕ) (x : VolumeState) → s < 64 → state_at states s ≡ Some x → v < x.span → own_entry (container_at pool.containers s) v ≡ None → (view_at u i).entry s v ≡ None
    unfolding view_at
    hole_stays s v x inside there low none = sym (entry_of fin.empty i (λ b. fin.get-empty nat_cmp b) (label_of f i s) (map_in (container s)) v (is.each s inside).loaded.tree) ∙ ap (placed_in fin.empty i) (is.holes s v x inside there low none)

    -- What roots reach stays in the view.
    pub stays_now : StaysHeld w (view_at u i)
    stays_now = stays_in (view_at u i) same_blocks same_version heads_are entry_stays hole_stays

    -- ---- the layout

    stays_there : StaysHeld w y.view
    unfolding layout_at
    stays_there = stays_now

    holds : (s b : ℕ) → s < 64 → is_held_by y s b ≡ has_block (settled_at labels states s) (map_in (container s)) b
    holds s b inside = slot_with_bits bits (layout_at u i) s b ∙ (is.each s inside).holds b

    spaced : AreSpaced y
    spaced = record {
      each = λ s b inside. subst (λ (n : ℕ). n ≤ 1) (sym (times_with_bits bits (layout_at u i) s b)) ((is.each s inside).once b);
      apart = λ s k b small large other here there. is.spaced.apart s k b small large other (sym (holds s b small) ∙ here) (sym (holds k b large) ∙ there);
      set = λ b within bit. let s = is.spaced.set b bit in (s.0, s.1, holds s.0 b s.1 ∙ s.2);
      held = λ s b inside there. (is.spaced.held s b inside (sym (holds s b inside) ∙ there)).0;
    }

    each_sound : (s : ℕ) → s < 64 → IsSoundSlot y s
    each_sound s inside = slot_stays_sound (layout_at u i) y s (record { blocks = refl; label = refl; node = λ level number. refl; entry = λ v. refl }) (is.each s inside).sound

    heads : HasHeads y
    heads = heads_with_bits bits u i

    -- ---- the maps

    bits_are : (s : ℕ) (x : VolumeState) → s < 64 → state_at states s ≡ Some x → (r : ℕ × Rooted) → In r (roots_of (head_in x)) → (v : ℕ) → volume_bit y.view s x.span r.0 v ≡ is_listed (items (standing_of w s r.1)) v
    unfolding layout_at
    bits_are s x inside there r one v =
        let state = labelled s x there in
        let order = state.snapshots.slots in
        let used = root_slot w s (head_in x) x.map state.slots order r one in
        ap (λ (b : Bool). b && volume_bit (view_at u i) s x.span r.0 v) (sym used)
        ∙ sym (settled_back HasBits x (get_or labels s 0) (λ are. are) (of_state (state_at states s) there (is.each s inside).loaded.bits) r.0 v (slot_stored (head_in x) order r one))
        ∙ root_has w s x (reaches s x inside there) order r one v
      where
        HasBits : VolumeState → Type 0
        HasBits z = HaveBits (view_at u i) s z.span z.map

        of_state : (o : Option VolumeState) → o ≡ Some x → IfSome (option_map (settled_as (get_or labels s 0)) o) HasBits → HasBits (settled_as (get_or labels s 0) x)
        of_state o at are = subst (λ (p : Option VolumeState). IfSome (option_map (settled_as (get_or labels s 0)) p) HasBits) at are

    bits_of : (s : ℕ) (h : Head) → s < 64 → w.head s ≡ Some h → has_bits_of w y.view s h ≡ true
    bits_of s h inside is_head =
        let x = state_of s h is_head in
        subst (λ (g : Head). has_bits_of w y.view s g ≡ true) x.2 (with_state x.0 x.1)
      where
        agreed : (p q : Bool) → p ≡ q → agree p q ≡ true
        agreed true q e = sym e
        agreed false false e = refl
        agreed false true e = absurd cc

        with_state : (x : VolumeState) → state_at states s ≡ Some x → has_bits_of w y.view s (head_in x) ≡ true
        with_state x there = to_all (λ (r : ℕ × Rooted). list_all (λ v. agree (volume_bit y.view s x.span r.0 v) (is_listed (items (standing_of w s r.1)) v)) (range_with_len 0 (block_bits * map_blocks x.span))) (roots_of (head_in x))
            (λ r one. all_between (λ v. agree (volume_bit y.view s x.span r.0 v) (is_listed (items (standing_of w s r.1)) v)) 0 (block_bits * map_blocks x.span) (λ v low high. agreed _ _ (bits_are s x inside there r one v)))

    -- ---- soundness

    pub tables_now : AreTables (seen y.view)
    tables_now = subst AreTables (sym (same_seen w y.view stays_there tables.bases tables.rests)) tables

    maps_now : AreMaps y.view
    maps_now = record {
      there = maps_from_slots y heads each_sound;
      reach = maps_from w y.view stays_there tables.bases tables.rests bits_of;
      kinds = kinds_from_slots y heads each_sound;
    }

    numbers : (s : ℕ) (h : Head) → s < 64 → y.view.head s ≡ Some h → HasLabelNumbers h
    numbers s h inside is_head =
        let x = state_of s h (sym (stays_there.heads s) ∙ is_head) in
        let state = labelled s x.0 x.1 in
        subst HasLabelNumbers (label_head x.0 state.named state.snapshots 0 1 ∙ x.2) (label_numbers (label_said x.0 0 1) (state.label 0 1 (omega arith) (omega arith) (omega arith)))

    -- no volume has more entries of its own than it uses
    pub uses_there : UsesOwn y.view
    uses_there = uses_own y.view tables_now maps_now numbers

    -- there are blocks for a point behind the fixed ones
    pub large : IsSize f.blocks → 256 ≤ y.view.blocks - first_block y.view.blocks
    unfolding layout_at view_at
    large size = omega (arith, size.least, size.greatest)

    ends : AreNamed states → leaves_room y.view 0 ≡ true → Ends w y
    unfolding view_over
    ends names room = record {
      stays = stays_there;
      blocks = blocks_from_slots y heads each_sound spaced;
      there = maps_now.there;
      bits = bits_of;
      kinds = maps_now.kinds;
      names = same_names w y stays_there.heads states (λ s. refl) names;
      room = room;
    }

    -- With the next set as its aggregate map the image stands for the machine that they told, where the space rule holds.
    pub stands_for : AreNamed states → leaves_room y.view 0 ≡ true → is_built w ≡ true → machine_from y ≡ Some (told w)
    stands_for names room built = end_machine w y (ends names room) tables built
