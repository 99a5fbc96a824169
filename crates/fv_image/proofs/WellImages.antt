-- The machine of a sound image is well-formed.
use Rattle.std.proofs.Common.{◌≡◌, ◌≢◌, ℕ, zero, suc, ◌+◌, ◌<◌, ◌≤◌, Bool, true, false, cond, not, List, [], ◌∷◌, ◌++◌, length, inl, inr, refl, sym, ap, subst, ◌∙◌, arith, ⊎_elim}
use Rattle.std.specs.Prelude.{Option, Some, None, ◌&&◌, ◌||◌, ◌==◌, nat_le, map, flat_map, find, if◌then◌else◌}
use Rattle.std.specs.List.{list_any, range_with_len}
use Rattle.std.specs.Option.{is_some, option_map, option_map_or, option_and_then}
use Rattle.std.specs.Ordering.{eq_by_cmp}
use Rattle.std.specs.FinMap as fin
use Rattle.std.proofs.lemmas.Bool.{cases_eq, and_parts, not-true, both_ways}
use Rattle.std.proofs.lemmas.Cmp.{eq_by_cmp_equiv}
use Rattle.std.proofs.lemmas.List.{length-append}
use Rattle.fv_model.specs.Spelling.{name_cmp, is_same_name}
use Rattle.fv_model.specs.Tables.{empty_table}
use Rattle.fv_model.specs.Volumes.{Base, Volume}
use Rattle.fv_laws.specs.WellFormed.{IsWellVolume, IsParent, IsWell}
use Rattle.fv_laws.proofs.Orders.{name_total, name_ties}
use Rattle.fv_laws.proofs.Lists.{In}
use Rattle.fv_tables.proofs.Lists.{tied}
use Rattle.fv_image.specs.Views.{Snap, Footing, Head, View, slots}
use Rattle.fv_image.specs.Volumes.{table_at, active_at, snap_told, snap_at, base_on, base_told, base_from, volume_with, volume_told, named_with, volumes_with, told_with, told}
use Rattle.fv_image.specs.Seen.{VolumeSeen, volume_seen, Seen, seen}
use Rattle.fv_image.specs.ReachRules.{are_distinct}
use Rattle.fv_image.specs.HintRules.{is_splitting}
use Rattle.fv_image.specs.VolumeRules.{footing_in, comes_to_end, can_bear, has_footing, has_bases, has_distinct_snapshots, share_name}
use Rattle.fv_image.specs.Soundness.{AreTables}
use Rattle.fv_image.proofs.Counts.{le_of_test}
use Rattle.fv_image.proofs.Counting.{len_within}
use Rattle.fv_image.proofs.SameSeen.{seen_at, of_volume, Stands, stands}
use Rattle.fv_image.proofs.WellRoots.{HasWholeBlocks}
use Rattle.fv_image.proofs.WellVolumes.{IsNumbered, found_in, base_is, well_volume}

-- ---- how far a volume is from the end of its chain of bases

unfoldable depth : Seen → ℕ → ℕ → ℕ
depth w zero s = 0
depth w (suc n) s = option_map_or (λ b. suc (depth w n b.parent)) (footing_in w s) 0

deep_enough : (w : Seen) (n s : ℕ) → comes_to_end w n s ≡ true → depth w (suc n) s ≡ depth w n s
unfolding depth comes_to_end
deep_enough w zero s e = absurd cc
deep_enough w (suc n) s e = so (footing_in w s) e (λ q f. deep_enough w n q f)
  where
    so : (o : Option Footing) → option_map_or (λ b. comes_to_end w n b.parent) o true ≡ true → ((q : ℕ) → comes_to_end w n q ≡ true → depth w (suc n) q ≡ depth w n q)
        → option_map_or (λ b. suc (depth w (suc n) b.parent)) o 0 ≡ option_map_or (λ b. suc (depth w n b.parent)) o 0
    so None e rest = refl
    so (Some b) e rest = ap suc (rest b.parent e)

falls_to : (w : Seen) (n s : ℕ) (b : Footing) → footing_in w s ≡ Some b → comes_to_end w (suc n) s ≡ true → depth w (suc n) b.parent < depth w (suc n) s
unfolding depth comes_to_end
falls_to w n s b is e =
    let here : depth w (suc n) s ≡ suc (depth w n b.parent) = ap (λ (o : Option Footing). option_map_or (λ b. suc (depth w n b.parent)) o 0) is in
    let ends : comes_to_end w n b.parent ≡ true = subst (λ (o : Option Footing). option_map_or (λ b. comes_to_end w n b.parent) o true ≡ true) is e in
    let same : depth w (suc n) b.parent ≡ depth w n b.parent = deep_enough w n b.parent ends in
    omega (arith, here, same)

-- ---- names

itself : (name : List ℕ) → eq_by_cmp name_cmp name name ≡ true
itself name = (eq_by_cmp_equiv name_total).refl name

-- names that one test tells apart, the other does
turned : (a b : List ℕ) → is_same_name a b ≡ false → eq_by_cmp name_cmp b a ≡ false
turned a b e = so (eq_by_cmp name_cmp b a) refl
  where
    so : (t : Bool) → eq_by_cmp name_cmp b a ≡ t → t ≡ false
    so false f = refl
    so true f = let same : b ≡ a = tied name_cmp name_ties b a f in absurd (both_ways _ e (subst (λ (n : List ℕ). is_same_name a n ≡ true) (sym same) (itself a)))

-- no volume before a slot has the name of that slot's
abbrev IsFirst : View → ℕ → Head → Type 0
IsFirst w s h = (k : ℕ) → k < s → share_name (w.head k) (Some h) ≡ false

has_name : View → List ℕ → ℕ → Bool
has_name w name s = option_map_or (λ h. eq_by_cmp name_cmp name h.name) (w.head s) false

other_name : (w : View) (s k : ℕ) (h : Head) → share_name (w.head k) (Some h) ≡ false → has_name w h.name k ≡ false
unfolding has_name
other_name w s k h e = so (w.head k) e
  where
    so : (o : Option Head) → share_name o (Some h) ≡ false → option_map_or (λ g. eq_by_cmp name_cmp h.name g.name) o false ≡ false
    so None e = refl
    so (Some g) e = turned g.name h.name e

module _ (w : View) where
  abbrev named : ℕ → List (List ℕ × Volume)
  named s = named_with w (active_at w) s (w.head s)

  -- the volume that is found under a name, with its slot
  pub record IsSlotOf (most : ℕ) (name : List ℕ) (x : Volume) : Type 0 where
    pub slot : ℕ
    pub small : slot < most
    pub head : Head
    pub there : w.head slot ≡ Some head
    pub same : head.name ≡ name
    pub told : volume_told w slot head ≡ x

  told_with_own : (s : ℕ) (h : Head) → w.head s ≡ Some h → volume_with w s h (active_at w s) ≡ volume_told w s h
  told_with_own s h there = ap (volume_with w s h) (ap (λ (o : Option Head). option_map_or (λ h. table_at w s h.active) o empty_table) there)

  slot_of : (from count : ℕ) (name : List ℕ) (x : Volume) → fin.find name_cmp name (flat_map named (range_with_len from count)) ≡ Some x → IsSlotOf (from + count) name x
  slot_of from zero name x e = absurd cc
  slot_of from (suc count) name x e = so (w.head from) refl (λ f. further (slot_of (from + 1) count name x f)) e
    where
      further : IsSlotOf (from + 1 + count) name x → IsSlotOf (from + suc count) name x
      further is = let small : is.slot < from + 1 + count = is.small in record { slot = is.slot; small = omega (arith, small); head = is.head; there = is.there; same = is.same; told = is.told }

      so : (o : Option Head) → w.head from ≡ o → (fin.find name_cmp name (flat_map named (range_with_len (from + 1) count)) ≡ Some x → IsSlotOf (from + suc count) name x)
          → fin.find name_cmp name (named_with w (active_at w) from o ++ flat_map named (range_with_len (from + 1) count)) ≡ Some x → IsSlotOf (from + suc count) name x
      so None there rest e = rest e
      so (Some h) there rest e = by (eq_by_cmp name_cmp name h.name) refl e
        where
          by : (b : Bool) → eq_by_cmp name_cmp name h.name ≡ b → cond b (Some (volume_with w from h (active_at w from))) (fin.find name_cmp name (flat_map named (range_with_len (from + 1) count))) ≡ Some x → IsSlotOf (from + suc count) name x
          by true test e = record { slot = from; small = omega arith; head = h; there = there; same = sym (tied name_cmp name_ties name h.name test); told = sym (told_with_own from h there) ∙ cc }
          by false test e = rest e

  found_at : (from count s : ℕ) (h : Head) → from ≤ s → s < from + count → w.head s ≡ Some h → IsFirst w s h
      → fin.find name_cmp h.name (flat_map named (range_with_len from count)) ≡ Some (volume_with w s h (active_at w s))
  unfolding has_name
  found_at from zero s h low high there first = absurd (omega (arith, low, high))
  found_at from (suc count) s h low high there first = ⊎_elim
      (λ (here : from ≡ s).
      ap (λ (o : Option Head). fin.find name_cmp h.name (named_with w (active_at w) from o ++ flat_map named (range_with_len (from + 1) count))) (ap w.head here ∙ there)
      ∙ ap (λ (b : Bool). cond b (Some (volume_with w from h (active_at w from))) (fin.find name_cmp h.name (flat_map named (range_with_len (from + 1) count)))) (itself h.name)
      ∙ ap (λ (k : ℕ). Some (volume_with w k h (active_at w k))) here)
      (λ (ne : from ≢ s). skip (w.head from) (other_name w s from h (first from (omega (arith, low, ne)))) refl (found_at (from + 1) count s h (omega (arith, low, ne)) (omega (arith, high)) there first))
      (cases_eq from s)
    where
      skip : (o : Option Head) → has_name w h.name from ≡ false → w.head from ≡ o → fin.find name_cmp h.name (flat_map named (range_with_len (from + 1) count)) ≡ Some (volume_with w s h (active_at w s))
          → fin.find name_cmp h.name (named_with w (active_at w) from (w.head from) ++ flat_map named (range_with_len (from + 1) count)) ≡ Some (volume_with w s h (active_at w s))
      skip o apart e rest = ap (λ (o : Option Head). fin.find name_cmp h.name (named_with w (active_at w) from o ++ flat_map named (range_with_len (from + 1) count))) e ∙ by o (sym (apart_as o e) ∙ apart)
        where
          apart_as : (o : Option Head) → w.head from ≡ o → has_name w h.name from ≡ option_map_or (λ g. eq_by_cmp name_cmp h.name g.name) o false
          apart_as o e = ap (λ (o : Option Head). option_map_or (λ g. eq_by_cmp name_cmp h.name g.name) o false) e

          by : (o : Option Head) → option_map_or (λ g. eq_by_cmp name_cmp h.name g.name) o false ≡ false → fin.find name_cmp h.name (named_with w (active_at w) from o ++ flat_map named (range_with_len (from + 1) count)) ≡ Some (volume_with w s h (active_at w s))
          by None apart = rest
          by (Some g) apart = ap (λ (b : Bool). cond b (Some (volume_with w from g (active_at w from))) (fin.find name_cmp h.name (flat_map named (range_with_len (from + 1) count)))) apart ∙ rest

  -- the first slot with a name
  slot_named : (from count s : ℕ) (h : Head) → from ≤ s → s < from + count → w.head s ≡ Some h → IsFirst w s h → find (has_name w h.name) (range_with_len from count) ≡ Some s
  unfolding has_name
  slot_named from zero s h low high there first = absurd (omega (arith, low, high))
  slot_named from (suc count) s h low high there first = ⊎_elim
      (λ (here : from ≡ s).
      let yes : has_name w h.name from ≡ true = ap (λ (o : Option Head). option_map_or (λ g. eq_by_cmp name_cmp h.name g.name) o false) (ap w.head here ∙ there) ∙ itself h.name in
      ap (λ (b : Bool). if b then Some from else find (has_name w h.name) (range_with_len (from + 1) count)) yes ∙ ap (λ (k : ℕ). Some k) here)
      (λ (ne : from ≢ s).
      ap (λ (b : Bool). if b then Some from else find (has_name w h.name) (range_with_len (from + 1) count)) (other_name w s from h (first from (omega (arith, low, ne))))
      ∙ slot_named (from + 1) count s h (omega (arith, low, ne)) (omega (arith, high)) there first)
      (cases_eq from s)

  few_named : (from count : ℕ) → length (flat_map named (range_with_len from count)) ≤ count
  few_named from zero = omega arith
  few_named from (suc count) =
      let rest = few_named (from + 1) count in
      let both = length-append (named from) (flat_map named (range_with_len (from + 1) count)) in
      let one = at_most_one (w.head from) in
      omega (arith, rest, both, one)
    where
      at_most_one : (o : Option Head) → length (named_with w (active_at w) from o) ≤ 1
      at_most_one None = omega arith
      at_most_one (Some h) = omega arith

-- a snapshot is found under its name
snap_named : (w : View) (s : ℕ) (ps : List Snap) (p : Snap) → are_distinct (map (λ p. p.name) ps) ≡ true → In p ps → fin.find name_cmp p.name (map (snap_told w s) ps) ≡ Some (table_at w s p.table)
snap_named w s [] p distinct there = absurd there
snap_named w s (q ∷ qs) p distinct (inl e) =
    ap (λ (b : Bool). cond b (Some (table_at w s q.table)) (fin.find name_cmp p.name (map (snap_told w s) qs))) (ap (λ (q : Snap). eq_by_cmp name_cmp p.name q.name) e ∙ itself p.name)
    ∙ ap (λ (q : Snap). Some (table_at w s q.table)) e
snap_named w s (q ∷ qs) p distinct (inr there) =
    let parts = and_parts (not (list_any (is_same_name q.name) (map (λ p. p.name) qs))) _ distinct in
    ap (λ (b : Bool). cond b (Some (table_at w s q.table)) (fin.find name_cmp p.name (map (snap_told w s) qs))) (turned q.name p.name (none_in qs there (not-true _ parts.0)))
    ∙ snap_named w s qs p parts.1 there
  where
    none_in : (qs : List Snap) → In p qs → list_any (is_same_name q.name) (map (λ p. p.name) qs) ≡ false → is_same_name q.name p.name ≡ false
    none_in [] there none = absurd there
    none_in (x ∷ xs) (inl e) none = ap (λ (x : Snap). is_same_name q.name x.name) (sym e) ∙ neither (is_same_name q.name x.name) (list_any (is_same_name q.name) (map (λ p. p.name) xs)) none
      where
        neither : (a b : Bool) → (a || b) ≡ false → a ≡ false
        neither true b e = absurd cc
        neither false b e = refl
    none_in (x ∷ xs) (inr there) none = none_in xs there (later (is_same_name q.name x.name) (list_any (is_same_name q.name) (map (λ p. p.name) xs)) none)
      where
        later : (a b : Bool) → (a || b) ≡ false → b ≡ false
        later true b e = absurd cc
        later false b e = e

-- ---- the machine

module _ (w : View) (tables : AreTables (seen w)) (whole : HasWholeBlocks w) (numbered : (s : ℕ) (h : Head) → s < 64 → w.head s ≡ Some h → IsNumbered h)
    (distinct : (s k : ℕ) → s < 64 → k < s → share_name (w.head k) (w.head s) ≡ false) where
  first : (s : ℕ) (h : Head) → s < 64 → w.head s ≡ Some h → IsFirst w s h
  first s h small there k before = ap (share_name (w.head k)) (sym there) ∙ distinct s k small before

  -- each volume is told under its name
  told_under : (s : ℕ) (h : Head) → s < 64 → w.head s ≡ Some h → fin.get (told w).volumes h.name ≡ Some (volume_told w s h)
  unfolding told_with volumes_with slots
  told_under s h small there =
      fin.get-from_entries name_total (flat_map (named w) (range_with_len 0 64)) h.name
      ∙ found_at w 0 64 s h (omega arith) (omega (arith, small)) there (first s h small there)
      ∙ ap (λ (x : Volume). Some x) (told_with_own w s h there)

  -- and each that is told is that of a slot
  slot_under : (name : List ℕ) (x : Volume) → fin.get (told w).volumes name ≡ Some x → IsSlotOf w 64 name x
  unfolding told_with volumes_with slots
  slot_under name x e = slot_of w 0 64 name x (sym (fin.get-from_entries name_total (flat_map (named w) (range_with_len 0 64)) name) ∙ e)

  -- what a volume stands on, as the rules ask it
  bears : (s : ℕ) (h : Head) (b : Footing) → s < 64 → w.head s ≡ Some h → h.base ≡ Some b → (st : Stands w b) → can_bear (volume_seen w s h) b (volume_seen w b.parent st.parent) ≡ true
  unfolding has_bases volume_seen
  bears s h b small there based st =
      let at = of_volume w (λ s x. comes_to_end (seen w) 64 s && option_map_or (has_footing (seen w) x) x.head.base true) s h tables.bases small there in
      let footing : has_footing (seen w) (volume_seen w s h) b ≡ true = subst (λ (o : Option Footing). option_map_or (has_footing (seen w) (volume_seen w s h)) o true ≡ true) based (and_parts (comes_to_end (seen w) 64 s) _ at).1 in
      subst (λ (o : Option VolumeSeen). option_map_or (can_bear (volume_seen w s h) b) o false ≡ true) (seen_at w b.parent st.parent st.inside st.there) footing

  -- what isn't being split is told so
  told_whole : (o : Option Footing) → is_splitting o ≡ false → option_map_or (λ (b : Base). b.splitting) (base_from w o) false ≡ false
  told_whole None e = refl
  told_whole (Some b) e = so (w.head b.parent)
    where
      so : (g : Option Head) → option_map_or (λ (b : Base). b.splitting) (base_told w b g) false ≡ false
      so None = refl
      so (Some g) = by (snap_at g b.slot)
        where
          by : (p : Option Snap) → option_map_or (λ (b : Base). b.splitting) (option_map (base_on w b g) p) false ≡ false
          by None = refl
          by (Some p) = e

  -- the footing of a volume that is told with a base
  pub record IsFooted (s : ℕ) (h : Head) (base : Base) : Type 0 where
    pub footing : Footing
    pub based : h.base ≡ Some footing
    pub stands : Stands w footing
    pub is : base_on w footing stands.parent stands.snap ≡ base

  footed : (s : ℕ) (h : Head) → s < 64 → w.head s ≡ Some h → (base : Base) → base_from w h.base ≡ Some base → IsFooted s h base
  footed s h small there base e = so h.base refl
    where
      some_is : {x y : Base} → Some x ≡ Some y → x ≡ y
      some_is e = cc

      so : (o : Option Footing) → h.base ≡ o → IsFooted s h base
      so None based = absurd (none_is (sym (ap (base_from w) based) ∙ e))
        where
          none_is : ◌≡◌ {A = Option Base} None (Some base) → ⊥
          none_is e = cc
      so (Some b) based =
          let st : Stands w b = stands w tables.bases tables.rests s h b small there based in
          record { footing = b; based = based; stands = st; is = some_is (sym (base_is w tables whole numbered s h small there b based st) ∙ e) }

  parent_told : (s : ℕ) (h : Head) → s < 64 → w.head s ≡ Some h → (base : Base) → IsFooted s h base → IsParent (told w) (volume_told w s h) base
  unfolding volume_with volume_seen snap_at has_distinct_snapshots
  parent_told s h small there base is =
      let b : Footing = is.footing in
      let st : Stands w b = is.stands in
      let bear = and_parts (is_some (snap_at st.parent b.slot)) _ (bears s h b small there is.based st) in
      let wide = and_parts (nat_le st.parent.span h.span) _ bear.1 in
      let states = and_parts st.parent.known (not (is_splitting st.parent.base)) wide.1 in
      let one : In st.snap st.parent.snapshots = found_in (λ p. p.slot == b.slot) st.parent.snapshots st.snap st.found in
      let distinct : are_distinct (map (λ p. p.name) st.parent.snapshots) ≡ true = of_volume w (λ s x. are_distinct (map (λ p. p.name) x.head.snapshots)) b.parent st.parent tables.snapshots st.inside st.there in
      record {
        parent = volume_told w b.parent st.parent;
        there = ap (λ (base : Base). fin.get (told w).volumes base.parent) (sym is.is) ∙ told_under b.parent st.parent st.inside st.there;
        held = ap (λ (base : Base). fin.get (volume_told w b.parent st.parent).snapshots base.snapshot) (sym is.is)
            ∙ fin.get-from_entries name_total (map (snap_told w b.parent) st.parent.snapshots) st.snap.name
            ∙ snap_named w b.parent st.parent.snapshots st.snap distinct one
            ∙ ap (λ (base : Base). Some base.table) is.is;
        known = states.0;
        whole = told_whole st.parent.base (not-true _ states.1);
        span = let test = wide.0 in le_of_test st.parent.span h.span test;
      }

  -- how far the volume of a name is from the end of its chain
  rank : List ℕ → ℕ
  rank name = option_map_or (depth (seen w) 64) (find (has_name w name) (range_with_len 0 64)) 0

  rank_is : (s : ℕ) (h : Head) → s < 64 → w.head s ≡ Some h → rank h.name ≡ depth (seen w) 64 s
  unfolding rank
  rank_is s h small there = ap (λ (o : Option ℕ). option_map_or (depth (seen w) 64) o 0) (slot_named w 0 64 s h (omega arith) (omega (arith, small)) there (first s h small there))

  falls : (s : ℕ) (h : Head) → s < 64 → w.head s ≡ Some h → (base : Base) → IsFooted s h base → rank base.parent < rank h.name
  unfolding has_bases volume_seen
  falls s h small there base is =
      let b : Footing = is.footing in
      let st : Stands w b = is.stands in
      let at = of_volume w (λ s x. comes_to_end (seen w) 64 s && option_map_or (has_footing (seen w) x) x.head.base true) s h tables.bases small there in
      let ends : comes_to_end (seen w) 64 s ≡ true = (and_parts (comes_to_end (seen w) 64 s) _ at).0 in
      let footing : footing_in (seen w) s ≡ Some b = ap (λ (o : Option VolumeSeen). option_and_then (λ x. x.head.base) o) (seen_at w s h small there) ∙ is.based in
      let less : depth (seen w) 64 b.parent < depth (seen w) 64 s = falls_to (seen w) 63 s b footing ends in
      let own : rank h.name ≡ depth (seen w) 64 s = rank_is s h small there in
      let above : rank base.parent ≡ depth (seen w) 64 b.parent = ap (λ (base : Base). rank base.parent) (sym is.is) ∙ rank_is b.parent st.parent st.inside st.there in
      omega (arith, less, own, above)

  -- The machine is well-formed.
  pub well_machine : IsWell (told w)
  unfolding told_with volumes_with slots volume_with
  well_machine = record {
    volumes = λ name x e. let is = slot_under name x e in subst IsWellVolume is.told (well_volume w tables whole numbered is.slot is.head is.small is.there);
    count =
        let put = len_within name_total (flat_map (named w) (range_with_len 0 64)) in
        let few = few_named w 0 64 in
        omega (arith, put, few);
    bases = λ name x b e d.
        let is = slot_under name x e in
        let base : base_from w is.head.base ≡ Some b = ap (λ (x : Volume). x.base) is.told ∙ d in
        subst (λ (x : Volume). IsParent (told w) x b) is.told (parent_told is.slot is.head is.small is.there b (footed is.slot is.head is.small is.there b base));
    rooted = record {
      rank = rank;
      falls = λ name x b e d.
          let is = slot_under name x e in
          let base : base_from w is.head.base ≡ Some b = ap (λ (x : Volume). x.base) is.told ∙ d in
          subst (λ (name : List ℕ). rank b.parent < rank name) is.same (falls is.slot is.head is.small is.there b (footed is.slot is.head is.small is.there b base));
    };
  }
