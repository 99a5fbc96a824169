-- What a clone stands on after loading, where the view is sound, each slot of the maps has what its root reaches, and the slot of its base has what
-- its parent's has.
use Rattle.std.proofs.Common.{◌≡◌, ◌≢◌, ◌⊎◌, ◌<◌, ◌≤◌, ℕ, zero, suc, Bool, true, false, not, ◌&&◌, ◌||◌, List, [], ◌∷◌, length, map, Option, Some, None, inl, inr, is_some, refl, sym, ap, subst, ◌∙◌, ⊎_elim, arith}
use Rattle.std.specs.Prelude.{◌==◌, if◌then◌else◌, nat_le, nat_lt, IfSome}
use Rattle.std.specs.List.{list_all, list_any}
use Rattle.std.specs.Option.{is_none, option_and_then, option_map, option_map_or}
use Rattle.std.proofs.lemmas.Bool.{and_parts, cases_eq, or_cases, not-true, false≢true}
use Rattle.std.proofs.lemmas.Bool.Decides.{nat_tests}
use Rattle.std.proofs.lemmas.List.{get_or_past}
use Rattle.fv_disk.specs.Shown.{Shown as Disk}
use Rattle.fv_laws.proofs.Lists.{in_map, from_map}
use Rattle.fv_laws.proofs.Tests.{from_all}
use Rattle.fv_tables.specs.Reached.{Item, is_listed, items}
use Rattle.fv_tables.proofs.Listed.{picked, picked_in}
use Rattle.fv_container.specs.declared.entry.Entry.{Entry}
use Rattle.fv_container.specs.Chains.{container_at, own_entry}
use Rattle.fv_image.specs.HintRules.{is_based, is_splitting, leaves_base, rests_on_base}
use Rattle.fv_image.specs.Mapped.{root_at}
use Rattle.fv_image.specs.Seen.{Based, Reached, Root, VolumeSeen, base_root, base_seen, based_at, based_on, reached_at, root_seen, roots_of, seen, volume_seen}
use Rattle.fv_image.specs.Soundness.{AreTables}
use Rattle.fv_image.specs.Views.{Footing, Head, Rooted, Snap as HeadSnap, View}
use Rattle.fv_image.specs.Volumes.{snap_at, standing_of}
use Rattle.fv_image.specs.VolumeRules.{can_bear, comes_to_end, footing_in as footing_in_seen, has_bases, has_footing}
use Rattle.fv_image.proofs.SameSeen.{of_volume, seen_at}
use Rattle.fv_volmap.specs.Slots.{has, slot_at, slot_of_base, stored_count}
use Rattle.fv_pool.specs.declared.pool.Pool.{Pool}
use Rattle.fv_volume.proofs.KnownBases.{found_slot, snap_inside}
use Rattle.fv_volume.proofs.TablesOf.{is_whole}
use Rattle.fv_volume.specs.declared.state.Snap.{Snap}
use Rattle.fv_volume.specs.KnownBase.{KnowsBase, KnowsSnap, KnowBases, KnowsIn}
use Rattle.fv_volume.specs.declared.state.Base.{Base}
use Rattle.fv_volume.specs.declared.state.VolumeState.{VolumeState}
use Rattle.fv_volume.specs.Files.{HasSlotsOf, IsLabelled}
use Rattle.fv_volumes.specs.Learned.{IsStoodOn}
use Rattle.fv_volumes.specs.Footing.{ends_in, footing_at, IsFooted, IsOnBase, AreFooted}
use Rattle.fv_volumes.specs.Housed.{ReachesAll, HaveReaches}
use Rattle.fv_volume.specs.States.{States, footing_in, head_in, placed_in, state_at, table_in, view_over, snap_in}
use Rattle.fv_volume.proofs.EachRoot.{root_there}
use Rattle.fv_volumes.proofs.SlotRoots.{base_rooted, snap_rooted}
use Rattle.fv_volumes.proofs.Told.{head_at, head_there, is_inside}

module _ (disk : Disk) (pool : Pool) (states : States) (tables : AreTables (seen (view_over pool states disk.reads))) (x : VolumeState) (s : ℕ) (at : x.slot ≡ s) (low : s < 64) (there : state_at states s ≡ Some x) (b : Base) (based : x.base ≡ Some b) (whole : b.splitting ≡ false) where
  abbrev w : View
  w = view_over pool states disk.reads

  abbrev h : Head
  h = head_in x

  here : w.head s ≡ Some h
  here = head_there pool states disk.reads s x there

  abbrev seen_x : VolumeSeen
  seen_x = volume_seen w s h

  based_head : h.base ≡ Some (footing_in b)
  based_head = ap (option_map footing_in) based

  bears : has_footing (seen w) seen_x (footing_in b) ≡ true
  unfolding has_bases volume_seen
  bears = subst (λ (o : Option Footing). option_map_or (has_footing (seen w) seen_x) o true ≡ true) based_head
      (and_parts (comes_to_end (seen w) 64 s) _ (of_volume w (λ s x. comes_to_end (seen w) 64 s && option_map_or (has_footing (seen w) x) x.head.base true) s h tables.bases low here)).1

  inside : b.parent < 64
  unfolding seen
  inside = by (nat_lt b.parent 64) refl bears
    where
      by : (t : Bool) → nat_lt b.parent 64 ≡ t → option_map_or (can_bear seen_x (footing_in b)) (option_map (volume_seen w b.parent) (if t then w.head b.parent else None)) false ≡ true → b.parent < 64
      by true test is = grind (arith, nat_tests, test)
      by false test is = absurd cc

  -- It doesn't stand on itself, as its chain ends,
  not_itself : b.parent ≢ s
  unfolding has_bases seen volume_seen comes_to_end
  not_itself same = never 64 (and_parts (comes_to_end (seen w) 64 s) _ (of_volume w (λ s x. comes_to_end (seen w) 64 s && option_map_or (has_footing (seen w) x) x.head.base true) s h tables.bases low here)).0
    where
      footing : footing_in_seen (seen w) s ≡ Some (footing_in b)
      footing = ap (option_and_then (λ (x : VolumeSeen). x.head.base)) (seen_at w s h low here) ∙ based_head

      never : (n : ℕ) → comes_to_end (seen w) n s ≡ true → ⊥
      never zero e = false≢true e
      never (suc n) e = never n (ap (comes_to_end (seen w) n) (sym same) ∙ sym (ap (λ (o : Option Footing). option_map_or (λ (f : Footing). comes_to_end (seen w) n f.parent) o true) footing) ∙ e)

  -- its parent is there
  no_parent : state_at states b.parent ≡ None → ⊥
  unfolding seen
  no_parent none = false≢true (sym (ap (λ (o : Option VolumeSeen). option_map_or (can_bear seen_x (footing_in b)) o false) (ap (option_map (volume_seen w b.parent)) (both (nat_lt b.parent 64)))) ∙ bears)
    where
      both : (t : Bool) → (if t then w.head b.parent else None) ≡ None
      both true = head_at pool states disk.reads b.parent ∙ ap (option_map head_in) none
      both false = refl

  can_by : (parent : VolumeState) → state_at states b.parent ≡ Some parent → can_bear seen_x (footing_in b) (volume_seen w b.parent (head_in parent)) ≡ true
  can_by parent here_too =
      subst (λ (o : Option VolumeSeen). option_map_or (can_bear seen_x (footing_in b)) o false ≡ true) (seen_at w b.parent (head_in parent) inside (head_there pool states disk.reads b.parent parent here_too)) bears

  -- and has the snapshot,
  stood : (parent : VolumeState) → state_at states b.parent ≡ Some parent → KnowsBase parent x → IsStoodOn states x b
  unfolding volume_seen snap_at
  stood parent here_too knows = by (snap_at (head_in parent) b.slot) refl first.0
    where
      first : (is_some (snap_at (head_in parent) b.slot) ≡ true) × ((nat_le parent.span h.span && (parent.known && not (is_splitting (head_in parent).base))) ≡ true)
      first = and_parts (is_some (snap_at (head_in parent) b.slot)) _ (can_by parent here_too)

      wide : parent.span ≤ x.span
      wide = let test = (and_parts (nat_le parent.span h.span) _ first.1).0 in grind (arith, nat_tests, test)

      by : (o : Option HeadSnap) → snap_at (head_in parent) b.slot ≡ o → is_some o ≡ true → IsStoodOn states x b
      by None found some = absurd (false≢true some)
      by (Some p) found some =
          let one = from_map snap_in p parent.snapshots (found_slot b.slot (head_in parent).snapshots p found).0 in
          let is : snap_at (head_in parent) b.slot ≡ Some (snap_in one.0) = found ∙ ap (λ (q : HeadSnap). Some q) (sym one.2) in
          record {
            parent = parent;
            there = here_too;
            snap = one.0;
            found = is;
            knows = subst (λ (o : Option Base). IfSome o (λ b. (snap : Snap) → snap_at (head_in parent) b.slot ≡ Some (snap_in snap) → parent.span ≤ x.span → KnowsSnap parent snap x b)) based knows one.0 is wide;
          }

  -- so that it knows what it stands on, where each volume of the session does as far as it can.
  pub loaded_stands : KnowBases states → IsStoodOn states x b
  loaded_stands knows = by (state_at states b.parent) refl (known not_itself)
    where
      known : b.parent ≢ s → IfSome (state_at states b.parent) (λ parent. KnowsBase parent x)
      known = subst (λ (o : Option Base). IfSome o (λ b. b.parent ≢ s → IfSome (state_at states b.parent) (λ parent. KnowsBase parent x))) based
          (subst (λ (o : Option VolumeState). IfSome o (KnowsIn states s)) there (knows s))

      by : (o : Option VolumeState) → state_at states b.parent ≡ o → IfSome o (λ parent. KnowsBase parent x) → IsStoodOn states x b
      by None none k = absurd (no_parent none)
      by (Some parent) here_too k = stood parent here_too k

  module _ (filled : IsStoodOn states x b) (above : b.slot ≢ 0) where
    abbrev g : Head
    g = head_in filled.parent

    parent_here : w.head b.parent ≡ Some g
    parent_here = head_there pool states disk.reads b.parent filled.parent filled.there

    can : can_bear seen_x (footing_in b) (volume_seen w b.parent g) ≡ true
    can = can_by filled.parent filled.there

    -- The rules of bases give the rest of what it stands on.
    pub loaded_footed : IsFooted states x b
    unfolding volume_seen
    loaded_footed =
        let first = and_parts (is_some (snap_at g b.slot)) _ can in
        let second = and_parts (nat_le g.span h.span) _ first.1 in
        let third = and_parts g.known _ second.1 in
        record {
          parent = filled.parent;
          inside = inside;
          there = filled.there;
          snap = filled.snap;
          found = filled.found;
          above = above;
          named = filled.knows.named;
          called = filled.knows.called;
          table = filled.knows.table;
          span = (let test = second.0 in grind (arith, nat_tests, test));
          known = third.0;
          whole = split filled.parent.base (not-true (is_splitting g.base) third.1);
          same = filled.knows.same;
        }
      where
        split : (o : Option Base) → is_splitting (option_map footing_in o) ≡ false → option_map_or (λ (c : Base). c.splitting) o false ≡ false
        split None e = refl
        split (Some c) e = e

    -- ---- what lies under the base

    root_is : base_root w (footing_in b) ≡ Some (table_in filled.snap.table)
    root_is = base_rooted w (footing_in b) g (snap_in filled.snap) parent_here filled.found

    abbrev es : List Item
    es = items (standing_of w b.parent (table_in filled.snap.table))

    base_is : seen_x.base ≡ map (based_at w s false) es
    unfolding volume_seen base_seen
    base_is = ap (λ (o : Option Footing). option_map_or (λ (c : Footing). option_map_or (based_on w s c) (base_root w c) []) o []) based_head
        ∙ ap (λ (o : Option Rooted). option_map_or (based_on w s (footing_in b)) o []) root_is ∙ ap (λ (t : Bool). map (based_at w s t) es) whole

    module _ (reach : ReachesAll w s x) (parent_reach : ReachesAll w b.parent filled.parent) (slots : HasSlotsOf (head_in x) x.map) where
      member : (v : ℕ) → has v (slot_at x.map slot_of_base) ≡ is_listed es v
      member v = filled.knows.same v ∙ parent_reach b.slot (table_in filled.snap.table) (snap_rooted g b.slot (snap_in filled.snap) above filled.found) v

      none_own : (o : Option Entry) → is_some (placed_in pool.kept disk.reads o) ≡ false → o ≡ None
      none_own None e = refl
      none_own (Some x) e = absurd cc

      some_own : (o : Option Entry) → is_some (placed_in pool.kept disk.reads o) ≡ true → is_some o ≡ true
      some_own None e = e
      some_own (Some x) e = refl

      slot_own : (v : ℕ) → own_entry (container_at pool.containers x.slot) v ≡ own_entry (container_at pool.containers s) v
      slot_own v = ap (λ (n : ℕ). own_entry (container_at pool.containers n) v) at

      leaves : (v : ℕ) → has v (slot_at x.map slot_of_base) ≡ true → own_entry (container_at pool.containers x.slot) v ≡ None
      unfolding leaves_base view_over
      leaves v here25 =
          let listed : is_listed es v ≡ true = sym (member v) ∙ here25 in
          let one = picked_in es v listed in
          let all = subst (λ (bs : List Based). list_all (λ (c : Based). not c.own) bs ≡ true) base_is (of_volume w (λ s x. list_all (λ (c : Based). not c.own) x.base) s h tables.leaves low here) in
          let free = not-true _ (from_all (λ (c : Based). not c.own) (map (based_at w s false) es) all (based_at w s false (picked es v)) (in_map (based_at w s false) (picked es v) es one.0)) in
          slot_own v ∙ none_own (own_entry (container_at pool.containers s) v) (ap (λ (n : ℕ). is_some (w.entry s n)) (sym one.1) ∙ free)

      mapped : (v : ℕ) (xs : List Item) → list_any (λ (c : Based). c.item.pointer.vvbn == v) (map (based_at w s false) xs) ≡ is_listed xs v
      mapped v [] = refl
      mapped v (x ∷ xs) = ap (λ (t : Bool). (x.pointer.vvbn == v) || t) (mapped v xs)

      from_root : (k v : ℕ) (r : Rooted) → root_at h k ≡ Some r → has v (slot_at x.map k) ≡ true → (is_some (own_entry (container_at pool.containers x.slot) v) ≡ true) ⊎ (has v (slot_at x.map slot_of_base) ≡ true)
      unfolding rests_on_base view_over volume_seen root_seen
      from_root k v r root has_it =
          let listed : is_listed (items (standing_of w s r)) v ≡ true = sym (reach k r root v) ∙ has_it in
          let one = picked_in (items (standing_of w s r)) v listed in
          let each = of_volume w (λ s x. list_all (λ (r : Root). is_none x.head.base || list_all (λ (e : Reached). e.own || is_based x e.item.pointer.vvbn) r.reached) x.roots) s h tables.rests low here in
          let root_rule = from_all (λ (r : Root). is_none h.base || list_all (λ (e : Reached). e.own || is_based seen_x e.item.pointer.vvbn) r.reached) seen_x.roots each (root_seen w s k r)
          (in_map (λ (p : ℕ × Rooted). root_seen w s p.0 p.1) (k, r) (roots_of h) (root_there h k r root)) in
          let all = sym (ap (λ (o : Option Footing). is_none o || list_all (λ (e : Reached). e.own || is_based seen_x e.item.pointer.vvbn) (root_seen w s k r).reached) based_head) ∙ root_rule in
          let rule = from_all (λ (e : Reached). e.own || is_based seen_x e.item.pointer.vvbn) (map (reached_at w s) (items (standing_of w s r))) all (reached_at w s (picked (items (standing_of w s r)) v))
          (in_map (reached_at w s) (picked (items (standing_of w s r)) v) (items (standing_of w s r)) one.0) in
          ⊎_elim
          (λ own. inl (ap is_some (slot_own v) ∙ some_own (own_entry (container_at pool.containers s) v) (ap (λ (n : ℕ). is_some (w.entry s n)) (sym one.1) ∙ own)))
          (λ out. inr (member v ∙ sym (mapped v es) ∙ ap (list_any (λ (c : Based). c.item.pointer.vvbn == v)) (sym base_is) ∙ ap (is_based seen_x) (sym one.1) ∙ out))
          (or_cases (is_some (w.entry s (picked (items (standing_of w s r)) v).pointer.vvbn)) (is_based seen_x (picked (items (standing_of w s r)) v).pointer.vvbn) rule)

      no_member : (v : ℕ) (o : Option (List Bool)) → is_some o ≡ false → has v o ≡ true → ⊥
      no_member v None e f = cc
      no_member v (Some m) e f = cc

      rests : (k v : ℕ) → k < stored_count → has v (slot_at x.map k) ≡ true → (is_some (own_entry (container_at pool.containers x.slot) v) ≡ true) ⊎ (has v (slot_at x.map slot_of_base) ≡ true)
      rests k v few has_it = by (root_at h k) refl
        where
          nothing : k ≢ 0 → root_at h k ≡ None → is_some (snap_at h k) ≡ false
          nothing other none =
              let test : (k == 0) ≡ false = grind (arith, nat_tests, other) in
              last (snap_at h k) (sym (ap (λ (t : Bool). if t then Some h.active else option_map (λ (p : HeadSnap). p.table) (snap_at h k)) test) ∙ none)
            where
              last : (o : Option HeadSnap) → option_map (λ (p : HeadSnap). p.table) o ≡ None → is_some o ≡ false
              last None e = refl
              last (Some p) e = absurd cc

          at_first : k ≡ 0 → root_at h k ≡ None → ⊥
          at_first e none = wrong (ap (root_at h) (sym e) ∙ none)
            where
              wrong : ◌≡◌ {A = Option Rooted} (Some h.active) None → ⊥
              wrong f = cc

          by : (o : Option Rooted) → root_at h k ≡ o → (is_some (own_entry (container_at pool.containers x.slot) v) ≡ true) ⊎ (has v (slot_at x.map slot_of_base) ≡ true)
          by (Some r) root = from_root k v r root has_it
          by None none = ⊎_elim (λ (e : k ≡ 0). absurd (at_first e none))
              (λ other. absurd (no_member v (slot_at x.map k) (slots.each k other (let small = few in omega (arith, small)) ∙ nothing other none) has_it))
              (cases_eq k 0)

      -- So it leaves what is under its base, and rests on that and on its own.
      pub loaded_on_base : IsOnBase pool.containers x
      loaded_on_base = record { leaves = leaves; rests = rests }

-- ---- chains

module _ (disk : Disk) (pool : Pool) (states : States) (long : length states ≡ 64) where
  abbrev v : View
  v = view_over pool states disk.reads

  footing_same : (k : ℕ) → footing_in_seen (seen v) k ≡ footing_at states k
  unfolding seen volume_seen
  footing_same k = by (nat_lt k 64) refl
    where
      below : (o : Option VolumeState) → option_and_then (λ (x : VolumeSeen). x.head.base) (option_map (volume_seen v k) (option_map head_in o)) ≡ option_and_then (λ (x : VolumeState). option_map footing_in x.base) o
      below None = refl
      below (Some x) = refl

      by : (t : Bool) → nat_lt k 64 ≡ t → option_and_then (λ (x : VolumeSeen). x.head.base) (option_map (volume_seen v k) (if t then v.head k else None)) ≡ footing_at states k
      by true test = ap (λ (o : Option Head). option_and_then (λ (x : VolumeSeen). x.head.base) (option_map (volume_seen v k) o)) (head_at pool states disk.reads k) ∙ below (state_at states k)
      by false test = sym (ap (option_and_then (λ (x : VolumeState). option_map footing_in x.base)) (get_or_past states k None (let high : 64 ≤ k = grind (arith, nat_tests, test) in omega (arith, high, long))))

  -- a chain ends in the session where it does in its view
  pub loaded_ends : (n s : ℕ) → comes_to_end (seen v) n s ≡ ends_in (footing_at states) n s
  unfolding comes_to_end ends_in
  loaded_ends zero s = refl
  loaded_ends (suc n) s = ap (λ (o : Option Footing). option_map_or (λ (b : Footing). comes_to_end (seen v) n b.parent) o true) (footing_same s) ∙ so (λ t. loaded_ends n t) (footing_at states s)
    where
      so : ((t : ℕ) → comes_to_end (seen v) n t ≡ ends_in (footing_at states) n t) → (o : Option Footing) → option_map_or (λ (b : Footing). comes_to_end (seen v) n b.parent) o true ≡ option_map_or (λ (b : Footing). ends_in (footing_at states) n b.parent) o true
      so next None = refl
      so next (Some b) = next b.parent

-- ---- all of them

-- So where the view is sound, each slot of the maps has what its root reaches, and each volume knows what it stands on as far as it can, all
-- stand on volumes of the session.
module _ (disk : Disk) (pool : Pool) (states : States) (long : length states ≡ 64) (tables : AreTables (seen (view_over pool states disk.reads))) (knows : KnowBases states)
    (labelled : (s : ℕ) → IfSome (state_at states s) (IsLabelled s)) (reaches : HaveReaches (view_over pool states disk.reads) states) where
  abbrev u : View
  u = view_over pool states disk.reads

  at_slot : (P : VolumeState → Type 0) (s : ℕ) (x : VolumeState) → state_at states s ≡ Some x → IfSome (state_at states s) P → P x
  at_slot P s x there all = subst (λ (o : Option VolumeState). IfSome o P) there all

  each_footed : (s : ℕ) (x : VolumeState) → state_at states s ≡ Some x → (b : Base) → x.base ≡ Some b → IsFooted states x b × IsOnBase pool.containers x
  each_footed s x there b based =
      let low = is_inside states s x long there in
      let label : IsLabelled s x = at_slot (IsLabelled s) s x there (labelled s) in
      let whole : b.splitting ≡ false = subst (λ (o : Option Base). IfSome o (λ b. b.splitting ≡ false)) based (is_whole s x label) in
      let is = loaded_stands disk pool states tables x s label.slot_is low there b based whole knows in
      let its : IsLabelled b.parent is.parent = at_slot (IsLabelled b.parent) b.parent is.parent is.there (labelled b.parent) in
      let least = (snap_inside is.parent b.parent its b.slot (snap_in is.snap) is.found).0 in
      let above : b.slot ≢ 0 = λ e. absurd (omega (arith, least, e)) in
      let footed = loaded_footed disk pool states tables x s label.slot_is low there b based whole is above in
      let mine : ReachesAll u s x = at_slot (ReachesAll u s) s x there (reaches s low) in
      let parents : ReachesAll u b.parent is.parent = at_slot (ReachesAll u b.parent) b.parent is.parent is.there (reaches b.parent footed.inside) in
      (footed, loaded_on_base disk pool states tables x s label.slot_is low there b based whole is above mine parents label.slots)

  each_ends : (s : ℕ) → s < 64 → ends_in (footing_at states) 64 s ≡ true
  unfolding has_bases ends_in
  each_ends s low = by (state_at states s) refl
    where
      by : (o : Option VolumeState) → state_at states s ≡ o → ends_in (footing_at states) 64 s ≡ true
      by None none = ap (λ (o : Option Footing). option_map_or (λ (f : Footing). ends_in (footing_at states) 63 f.parent) o true) (ap (option_and_then (λ (x : VolumeState). option_map footing_in x.base)) none)
      by (Some x) there = sym (loaded_ends disk pool states long 64 s)
          ∙ (and_parts (comes_to_end (seen u) 64 s) _ (of_volume u (λ s x. comes_to_end (seen u) 64 s && option_map_or (has_footing (seen u) x) x.head.base true) s (head_in x) tables.bases low (head_there pool states disk.reads s x there))).0

  pub loaded_all : AreFooted states pool.containers
  loaded_all = record { each = λ s. by s (state_at states s) refl; ends = λ s low. each_ends s low }
    where
      of_base : (s : ℕ) (x : VolumeState) → state_at states s ≡ Some x → (o : Option Base) → x.base ≡ o → IfSome o (λ b. IsFooted states x b × IsOnBase pool.containers x)
      of_base s x there None based = tt
      of_base s x there (Some b) based = each_footed s x there b based

      by : (s : ℕ) (o : Option VolumeState) → state_at states s ≡ o → IfSome o (λ x. IfSome x.base (λ b. IsFooted states x b × IsOnBase pool.containers x))
      by s None there = tt
      by s (Some x) there = of_base s x there x.base refl
