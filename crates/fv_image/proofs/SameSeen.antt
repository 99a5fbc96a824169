-- A view in which only entries change that no root reaches tells the same machine, and the rules look at the same.
use Rattle.std.proofs.Common.{◌≡◌, ℕ, zero, suc, ◌<◌, Bool, true, false, not, List, [], ◌∷◌, ◌++◌, refl, sym, ap, ap₂, subst, ◌∙◌, arith, ⊎_elim}
use Rattle.std.specs.Prelude.{Option, Some, None, ◌&&◌, ◌||◌, ◌==◌, nat_lt, map, find, if◌then◌else◌}
use Rattle.std.specs.List.{list_all, list_any}
use Rattle.std.specs.Option.{is_some, is_none, option_map, option_map_or, option_and_then, option_or}
use Rattle.std.specs.FinMap as fin
use Rattle.std.proofs.lemmas.Bool.{and_parts, or_left, or_right, or_cases}
use Rattle.std.proofs.lemmas.Bool.Decides.{nat_tests}
use Rattle.std.proofs.lemmas.List.Folds.{list_any-append, list_all-map}
use Rattle.fv_model.specs.Spelling.{name_cmp}
use Rattle.fv_model.specs.Tables.{Table, empty_table}
use Rattle.fv_model.specs.Volumes.{Volume}
use Rattle.fv_tables.specs.Reached.{Item, items, is_listed}
use Rattle.fv_tables.specs.Kept.{AgreeOnTable}
use Rattle.fv_tables.proofs.Lists.{all_flat, all_in_range, same_parts}
use Rattle.fv_tables.proofs.Tables.{kept_table, kept_records}
use Rattle.fv_tables.proofs.Items.{kept_items, agree_when_listed}
use Rattle.fv_image.specs.Views.{Placed, Rooted, Snap, Footing, Head, View, slots}
use Rattle.fv_image.specs.Chains.{along, parent_in, span_at, place, under}
use Rattle.fv_image.specs.Volumes.{standing_of, table_at, active_at, snap_told, snap_at, base_on, base_told, base_from, volume_with, volume_told, named_with, volumes_with, told_with, told}
use Rattle.fv_image.specs.Seen.{Reached, Root, Based, VolumeSeen, reached_at, root_seen, roots_of, base_root, based_at, based_on, base_seen, volume_seen, head_at, seen}
use Rattle.fv_image.specs.ReachRules.{all_volumes}
use Rattle.fv_image.specs.HintRules.{is_based, rests_on_base}
use Rattle.fv_image.specs.VolumeRules.{comes_to_end, can_bear, has_footing, has_bases}
use Rattle.fv_image.specs.Staying.{items_of, own_items, base_items, StaysHeld}

-- ---- lists

-- what holds of each VVBN of a list holds of one that is listed
listed_all : (test : ℕ → Bool) (es : List Item) (v : ℕ) → list_all (λ e. test e.pointer.vvbn) es ≡ true → is_listed es v ≡ true → test v ≡ true
listed_all test [] v all there = absurd cc
listed_all test (e ∷ es) v all there =
    let parts = and_parts (test e.pointer.vvbn) (list_all (λ e. test e.pointer.vvbn) es) all in ⊎_elim
    (λ (here : (e.pointer.vvbn == v) ≡ true). let is : e.pointer.vvbn ≡ v = grind (arith, nat_tests) in subst (λ (n : ℕ). test n ≡ true) is parts.0)
    (λ later. listed_all test es v parts.1 later)
    (or_cases (e.pointer.vvbn == v) (is_listed es v) there)

any_mapped : {X Y : Type 0} (p : Y → Bool) (f : X → Y) (xs : List X) → list_any p (map f xs) ≡ list_any (λ x. p (f x)) xs
any_mapped p f [] = refl
any_mapped p f (x ∷ xs) = ap (λ b. p (f x) || b) (any_mapped p f xs)

pub left_listed : (es fs : List Item) (v : ℕ) → is_listed es v ≡ true → is_listed (es ++ fs) v ≡ true
left_listed es fs v there = list_any-append (λ (e : Item). e.pointer.vvbn == v) es fs ∙ or_left (is_listed es v) (is_listed fs v) there

pub right_listed : (es fs : List Item) (v : ℕ) → is_listed fs v ≡ true → is_listed (es ++ fs) v ≡ true
right_listed es fs v there = list_any-append (λ (e : Item). e.pointer.vvbn == v) es fs ∙ or_right (is_listed es v) (is_listed fs v) there

-- ---- of a volume in use

-- a slot in use of the 64 is seen
pub seen_at : (w : View) (s : ℕ) (h : Head) → s < 64 → w.head s ≡ Some h → (seen w).volume s ≡ Some (volume_seen w s h)
unfolding seen
seen_at w s h inside is = let test : nat_lt s 64 ≡ true = grind (arith, nat_tests) in rw (test, is) refl

-- what is asked of each volume, of one
pub of_volume : (w : View) (test : ℕ → VolumeSeen → Bool) (s : ℕ) (h : Head) → all_volumes (seen w) test ≡ true → s < 64 → w.head s ≡ Some h → test s (volume_seen w s h) ≡ true
unfolding slots
of_volume w test s h all inside is =
    subst (λ (o : Option VolumeSeen). option_map_or (test s) o true ≡ true) (seen_at w s h inside is)
    (all_in_range (λ s. option_map_or (test s) ((seen w).volume s) true) s 0 64 all (omega arith) (omega (arith, inside)))

-- what is asked of each pointer of each root, of all that they reach
pub of_items : (w : View) (s : ℕ) (test : Reached → Bool) (rs : List (ℕ × Rooted)) → list_all (λ r. list_all test r.reached) (map (λ (r : ℕ × Rooted). root_seen w s r.0 r.1) rs) ≡ true
    → list_all (λ e. test (reached_at w s e)) (items_of w s rs) ≡ true
unfolding root_seen
of_items w s test rs all = all_flat (λ e. test (reached_at w s e)) (λ (r : ℕ × Rooted). items (standing_of w s r.1)) rs ∙ so rs all
  where
    so : (rs : List (ℕ × Rooted)) → list_all (λ r. list_all test r.reached) (map (λ (r : ℕ × Rooted). root_seen w s r.0 r.1) rs) ≡ true → list_all (λ (r : ℕ × Rooted). list_all (λ e. test (reached_at w s e)) (items (standing_of w s r.1))) rs ≡ true
    so [] all = refl
    so (r ∷ rs) all =
        let parts = and_parts (list_all test (map (reached_at w s) (items (standing_of w s r.1)))) _ all in
        rw (sym (list_all-map test (reached_at w s) (items (standing_of w s r.1))) ∙ parts.0) (so rs parts.1)

-- what a base table reaches is seen
pub based_is : (w : View) (s : ℕ) (base : Option Footing) (v : ℕ) → list_any (λ (b : Based). b.item.pointer.vvbn == v) (base_seen w s base) ≡ is_listed (base_items w base) v
unfolding base_seen
based_is w s None v = refl
based_is w s (Some b) v = so (base_root w b)
  where
    so : (o : Option Rooted) → list_any (λ (b : Based). b.item.pointer.vvbn == v) (option_map_or (based_on w s b) o []) ≡ is_listed (option_map_or (λ r. items (standing_of w b.parent r)) o []) v
    so None = refl
    so (Some r) = any_mapped (λ (b : Based). b.item.pointer.vvbn == v) (based_at w s b.splitting) (items (standing_of w b.parent r))

-- a snapshot that is found is one of the roots
pub snap_listed : (w : View) (s v slot : ℕ) (ps : List Snap) (p : Snap) → find (λ p. p.slot == slot) ps ≡ Some p → is_listed (items (standing_of w s p.table)) v ≡ true → is_listed (items_of w s (map (λ p. (p.slot, p.table)) ps)) v ≡ true
snap_listed w s v slot [] p e there = absurd cc
snap_listed w s v slot (q ∷ qs) p e there = so (λ f. snap_listed w s v slot qs p f there) (q.slot == slot) e
  where
    is : (x y : Snap) → Some x ≡ Some y → x ≡ y
    is x y e = cc

    so : (find (λ p. p.slot == slot) qs ≡ Some p → is_listed (items_of w s (map (λ p. (p.slot, p.table)) qs)) v ≡ true) → (here : Bool) → (if here then Some q else find (λ p. p.slot == slot) qs) ≡ Some p → is_listed (items_of w s (map (λ p. (p.slot, p.table)) (q ∷ qs))) v ≡ true
    so later true e = left_listed (items (standing_of w s q.table)) (items_of w s (map (λ p. (p.slot, p.table)) qs)) v (subst (λ (x : Snap). is_listed (items (standing_of w s x.table)) v ≡ true) (sym (is q p e)) there)
    so later false e = right_listed (items (standing_of w s q.table)) (items_of w s (map (λ p. (p.slot, p.table)) qs)) v (later e)

-- ---- what a clone rests on

-- the parent of a clone, with its slot in use and the snapshot that the clone stands on
pub record Stands (w : View) (b : Footing) : Type 0 where
  pub parent : Head
  pub inside : b.parent < 64
  pub there : w.head b.parent ≡ Some parent
  pub snap : Snap
  pub found : snap_at parent b.slot ≡ Some snap

-- a footing that can bear is one
stands_by : (w : View) (x : VolumeSeen) (b : Footing) → has_footing (seen w) x b ≡ true → Stands w b
unfolding seen volume_seen
stands_by w x b bears = so (nat_lt b.parent 64) refl bears
  where
    with_snap : (g : Head) → b.parent < 64 → w.head b.parent ≡ Some g → (o : Option Snap) → snap_at g b.slot ≡ o → is_some o ≡ true → Stands w b
    with_snap g inside there None e some = absurd cc
    with_snap g inside there (Some p) e some = record {
      parent = g;
      inside = inside;
      there = there;
      snap = p;
      found = e;
    }

    with_head : b.parent < 64 → (o : Option Head) → w.head b.parent ≡ o → option_map_or (can_bear x b) (option_map (volume_seen w b.parent) o) false ≡ true → Stands w b
    with_head inside None e bears = absurd cc
    with_head inside (Some g) e bears = with_snap g inside e (snap_at g b.slot) refl (and_parts (is_some (snap_at (volume_seen w b.parent g).head b.slot)) _ bears).0

    so : (inside : Bool) → nat_lt b.parent 64 ≡ inside → option_map_or (can_bear x b) (option_map (volume_seen w b.parent) (if inside then w.head b.parent else None)) false ≡ true → Stands w b
    so true test bears = with_head (grind (arith, nat_tests, test)) (w.head b.parent) refl bears
    so false test bears = absurd cc

module _ (w : View) (bases : has_bases (seen w) ≡ true) (rests : rests_on_base (seen w) ≡ true) where
  pub stands : (s : ℕ) (h : Head) (b : Footing) → s < 64 → w.head s ≡ Some h → h.base ≡ Some b → Stands w b
  unfolding has_bases volume_seen
  stands s h b inside is based =
      let at : (comes_to_end (seen w) 64 s && option_map_or (has_footing (seen w) (volume_seen w s h)) h.base true) ≡ true =
      of_volume w (λ s x. comes_to_end (seen w) 64 s && option_map_or (has_footing (seen w) x) x.head.base true) s h bases inside is in
      let bears = (and_parts (comes_to_end (seen w) 64 s) _ at).1 in
      stands_by w (volume_seen w s h) b (subst (λ (o : Option Footing). option_map_or (has_footing (seen w) (volume_seen w s h)) o true ≡ true) based bears)

  -- a VVBN that a clone reaches has an entry of its own, or its base table reaches it
  own_or_based : (s : ℕ) (h : Head) (b : Footing) (v : ℕ) → s < 64 → w.head s ≡ Some h → h.base ≡ Some b → is_listed (own_items w s h) v ≡ true → (is_some (w.entry s v) || is_listed (base_items w (Some b)) v) ≡ true
  unfolding rests_on_base volume_seen
  own_or_based s h b v inside is based there =
      let x : VolumeSeen = volume_seen w s h in
      let all : list_all (λ (r : Root). is_none h.base || list_all (λ e. e.own || is_based x e.item.pointer.vvbn) r.reached) x.roots ≡ true =
      of_volume w (λ s x. list_all (λ r. is_none x.head.base || list_all (λ e. e.own || is_based x e.item.pointer.vvbn) r.reached) x.roots) s h rests inside is in
      let of_clone : list_all (λ (r : Root). list_all (λ e. e.own || is_based x e.item.pointer.vvbn) r.reached) x.roots ≡ true =
      subst (λ (o : Option Footing). list_all (λ (r : Root). is_none o || list_all (λ e. e.own || is_based x e.item.pointer.vvbn) r.reached) x.roots ≡ true) based all in
      let each = of_items w s (λ e. e.own || is_based x e.item.pointer.vvbn) (roots_of h) of_clone in
      let one : (is_some (w.entry s v) || is_based x v) ≡ true = listed_all (λ v. is_some (w.entry s v) || is_based x v) (own_items w s h) v each there in
      subst (λ (o : Option Footing). (is_some (w.entry s v) || is_listed (base_items w o) v) ≡ true) based (ap (λ c. is_some (w.entry s v) || c) (sym (based_is w s h.base v)) ∙ one)

  -- what a base table reaches, its parent reaches
  by_parent : (b : Footing) (v : ℕ) (is : Stands w b) → is_listed (base_items w (Some b)) v ≡ true → is_listed (own_items w b.parent is.parent) v ≡ true
  unfolding snap_at
  by_parent b v is there =
      let root : base_root w b ≡ Some is.snap.table = ap (λ o. option_and_then (λ g. option_map (λ p. p.table) (snap_at g b.slot)) o) is.there ∙ ap (λ o. option_map (λ p. p.table) o) is.found in
      let listed : is_listed (items (standing_of w b.parent is.snap.table)) v ≡ true = subst (λ (o : Option Rooted). is_listed (option_map_or (λ r. items (standing_of w b.parent r)) o []) v ≡ true) root there in
      right_listed (items (standing_of w b.parent is.parent.active)) (items_of w b.parent (map (λ p. (p.slot, p.table)) is.parent.snapshots)) v
      (snap_listed w b.parent v b.slot is.parent.snapshots is.snap is.found listed)

-- ---- places

module _ (w u : View) (stays : StaysHeld w u) (bases : has_bases (seen w) ≡ true) (rests : rests_on_base (seen w) ≡ true) where
  same_along : (n s : ℕ) (h : Head) (v : ℕ) → s < 64 → w.head s ≡ Some h → is_listed (own_items w s h) v ≡ true → along u n s v ≡ along w n s v
  unfolding along
  same_along zero s h v inside is there = refl
  same_along (suc n) s h v inside is there =
      ap₂ (λ (o : Option Placed) (k : Option Head). option_or o (option_and_then (λ p. along u n p v) (parent_in k))) (stays.kept s h v is there) (stays.heads s ∙ is)
      ∙ so (λ p g low at on. same_along n p g v low at on) (w.entry s v) refl h.base refl
      ∙ ap (λ (k : Option Head). option_or (w.entry s v) (option_and_then (λ p. along w n p v) (parent_in k))) (sym is)
    where
      so : ((p : ℕ) (g : Head) → p < 64 → w.head p ≡ Some g → is_listed (own_items w p g) v ≡ true → along u n p v ≡ along w n p v) → (o : Option Placed) → w.entry s v ≡ o → (base : Option Footing) → h.base ≡ base
          → option_or o (option_and_then (λ p. along u n p v) (option_map (λ b. b.parent) base)) ≡ option_or o (option_and_then (λ p. along w n p v) (option_map (λ b. b.parent) base))
      so next (Some x) e base b = refl
      so next None e None b = refl
      so next None e (Some b) based =
          let footing : Stands w b = stands w bases rests s h b inside is based in
          let both = own_or_based w bases rests s h b v inside is based there in
          let lent : is_listed (base_items w (Some b)) v ≡ true = subst (λ (o : Option Placed). (is_some o || is_listed (base_items w (Some b)) v) ≡ true) e both in
          next b.parent footing.parent footing.inside footing.there (by_parent w bases rests b v footing lent)

  same_span : (s : ℕ) → span_at u s ≡ span_at w s
  same_span s = ap (λ (o : Option Head). option_map_or (λ h. h.span) o 0) (stays.heads s)

  pub same_place : (s : ℕ) (h : Head) (v : ℕ) → s < 64 → w.head s ≡ Some h → is_listed (own_items w s h) v ≡ true → place u s v ≡ place w s v
  unfolding place
  same_place s h v inside is there =
      ap (λ (n : ℕ). if nat_lt v n then along u 64 s v else u.entry s v) (same_span s)
      ∙ (λ i. if nat_lt v (span_at w s) then same_along 64 s h v inside is there i else stays.kept s h v is there i)

  -- ---- tables

  agree : (s : ℕ) (h : Head) (r : Rooted) → s < 64 → w.head s ≡ Some h → ((v : ℕ) → is_listed (items (standing_of w s r)) v ≡ true → is_listed (own_items w s h) v ≡ true) → AgreeOnTable (under w s) (under u s) r.levels r.root
  unfolding under
  agree s h r inside is own = agree_when_listed (under w s) (under u s) r.levels r.root (λ v there. ap (option_map (λ x. x.block)) (same_place s h v inside is (own v there)))

  pub same_table : (s : ℕ) (h : Head) (r : Rooted) → s < 64 → w.head s ≡ Some h → ((v : ℕ) → is_listed (items (standing_of w s r)) v ≡ true → is_listed (own_items w s h) v ≡ true) → table_at u s r ≡ table_at w s r
  same_table s h r inside is own = kept_table (under w s) (under u s) r.levels r.root (agree s h r inside is own)

  pub same_reach : (s : ℕ) (h : Head) (r : Rooted) → s < 64 → w.head s ≡ Some h → ((v : ℕ) → is_listed (items (standing_of w s r)) v ≡ true → is_listed (own_items w s h) v ≡ true) → items (standing_of u s r) ≡ items (standing_of w s r)
  same_reach s h r inside is own = kept_items (under w s) (under u s) r.levels r.root (agree s h r inside is own)

  -- the active table is one of a volume's own
  active_own : (s : ℕ) (h : Head) (v : ℕ) → is_listed (items (standing_of w s h.active)) v ≡ true → is_listed (own_items w s h) v ≡ true
  active_own s h v there = left_listed (items (standing_of w s h.active)) (items_of w s (map (λ p. (p.slot, p.table)) h.snapshots)) v there

  snaps_own : (s : ℕ) (h : Head) (v : ℕ) → is_listed (items_of w s (map (λ p. (p.slot, p.table)) h.snapshots)) v ≡ true → is_listed (own_items w s h) v ≡ true
  snaps_own s h v there = right_listed (items (standing_of w s h.active)) (items_of w s (map (λ p. (p.slot, p.table)) h.snapshots)) v there

  same_snaps : (s : ℕ) (h : Head) → s < 64 → w.head s ≡ Some h → (ps : List Snap) → ((v : ℕ) → is_listed (items_of w s (map (λ p. (p.slot, p.table)) ps)) v ≡ true → is_listed (own_items w s h) v ≡ true) → map (snap_told u s) ps ≡ map (snap_told w s) ps
  same_snaps s h inside is [] own = refl
  same_snaps s h inside is (p ∷ ps) own =
      let rest = items_of w s (map (λ p. (p.slot, p.table)) ps) in
      ap₂ (λ (t : Table) (xs : List (List ℕ × Table)). (p.name, t) ∷ xs)
      (same_table s h p.table inside is (λ v there. own v (left_listed (items (standing_of w s p.table)) rest v there)))
      (same_snaps s h inside is ps (λ v there. own v (right_listed (items (standing_of w s p.table)) rest v there)))

  -- ---- bases

  same_root : (b : Footing) → base_root u b ≡ base_root w b
  same_root b = ap (option_and_then (λ g. option_map (λ p. p.table) (snap_at g b.slot))) (stays.heads b.parent)

  -- the root of a base table is one of its parent's own
  root_own : (b : Footing) (r : Rooted) (footing : Stands w b) → base_root w b ≡ Some r → (v : ℕ) → is_listed (items (standing_of w b.parent r)) v ≡ true → is_listed (own_items w b.parent footing.parent) v ≡ true
  root_own b r footing root v there = by_parent w bases rests b v footing (subst (λ (o : Option Rooted). is_listed (option_map_or (λ r. items (standing_of w b.parent r)) o []) v ≡ true) (sym root) there)

  same_base_reach : (b : Footing) (r : Rooted) → Stands w b → base_root w b ≡ Some r → items (standing_of u b.parent r) ≡ items (standing_of w b.parent r)
  same_base_reach b r footing root = same_reach b.parent footing.parent r footing.inside footing.there (root_own b r footing root)

  same_base : (b : Footing) → Stands w b → base_told u b (u.head b.parent) ≡ base_told w b (w.head b.parent)
  same_base b footing =
      ap (base_told u b) (stays.heads b.parent ∙ footing.there) ∙ ap (option_map (base_on u b footing.parent)) footing.found
      ∙ ap (λ (t : Table). Some (record { parent = footing.parent.name; snapshot = footing.snap.name; table = t; splitting = b.splitting })) same
      ∙ sym (ap (base_told w b) footing.there ∙ ap (option_map (base_on w b footing.parent)) footing.found)
    where
      root : base_root w b ≡ Some footing.snap.table
      root = ap (option_and_then (λ g. option_map (λ p. p.table) (snap_at g b.slot))) footing.there ∙ ap (option_map (λ p. p.table)) footing.found

      same : table_at u b.parent footing.snap.table ≡ table_at w b.parent footing.snap.table
      same = same_table b.parent footing.parent footing.snap.table footing.inside footing.there (root_own b footing.snap.table footing root)

  -- ---- what is told

  same_base_from : (s : ℕ) (h : Head) → s < 64 → w.head s ≡ Some h → base_from u h.base ≡ base_from w h.base
  same_base_from s h inside is = so h.base refl
    where
      so : (base : Option Footing) → h.base ≡ base → base_from u base ≡ base_from w base
      so None e = refl
      so (Some b) e = same_base b (stands w bases rests s h b inside is e)

  pub same_volume : (s : ℕ) (h : Head) → s < 64 → w.head s ≡ Some h → volume_told u s h ≡ volume_told w s h
  unfolding volume_with
  same_volume s h inside is = λ i. record {
    kind = h.kind;
    size = h.size;
    most = h.most;
    span = h.span;
    now = h.now;
    active = same_table s h h.active inside is (active_own s h) i;
    snapshots = fin.from_entries {R = name_cmp} (same_snaps s h inside is h.snapshots (snaps_own s h) i);
    base = same_base_from s h inside is i;
    known = h.known;
  }

  same_named : (s : ℕ) → s < 64 → named_with u (active_at u) s (u.head s) ≡ named_with w (active_at w) s (w.head s)
  same_named s inside = ap (named_with u (active_at u) s) (stays.heads s) ∙ so (w.head s) refl
    where
      active_in : (v : View) (h : Head) → v.head s ≡ Some h → active_at v s ≡ table_at v s h.active
      active_in v h e = ap (λ (o : Option Head). option_map_or (λ h. table_at v s h.active) o empty_table) e

      so : (o : Option Head) → w.head s ≡ o → named_with u (active_at u) s o ≡ named_with w (active_at w) s o
      so None e = refl
      so (Some h) e = ap (λ (v : Volume). (h.name, v) ∷ [])
          (ap (volume_with u s h) (active_in u h (stays.heads s ∙ e)) ∙ same_volume s h inside e ∙ sym (ap (volume_with w s h) (active_in w h e)))

  -- The machine is the same.
  pub same_told : told u ≡ told w
  unfolding told_with volumes_with slots
  same_told = λ i. record {
    blocks = stays.blocks i;
    version = stays.version i;
    volumes = fin.from_entries {R = name_cmp} (same_parts (λ s. named_with u (active_at u) s (u.head s)) (λ s. named_with w (active_at w) s (w.head s)) 0 64 (λ s low high. same_named s (omega (arith, high))) i);
  }

  -- ---- what is seen

  same_each : (s : ℕ) (h : Head) → s < 64 → w.head s ≡ Some h → (es : List Item) → ((v : ℕ) → is_listed es v ≡ true → is_listed (own_items w s h) v ≡ true) → map (reached_at u s) es ≡ map (reached_at w s) es
  same_each s h inside is [] own = refl
  same_each s h inside is (e ∷ es) own =
      let here : is_listed (own_items w s h) e.pointer.vvbn ≡ true = own e.pointer.vvbn (or_left (e.pointer.vvbn == e.pointer.vvbn) (is_listed es e.pointer.vvbn) (grind (arith, nat_tests))) in
      let rest = same_each s h inside is es (λ v there. own v (or_right (e.pointer.vvbn == v) (is_listed es v) there)) in
      λ i. record { item = e; at = same_place s h e.pointer.vvbn inside is here i; own = is_some (stays.kept s h e.pointer.vvbn is here i) } ∷ rest i

  same_root_seen : (s : ℕ) (h : Head) (slot : ℕ) (r : Rooted) → s < 64 → w.head s ≡ Some h → ((v : ℕ) → is_listed (items (standing_of w s r)) v ≡ true → is_listed (own_items w s h) v ≡ true) → root_seen u s slot r ≡ root_seen w s slot r
  unfolding root_seen
  same_root_seen s h slot r inside is own =
      let reached : map (reached_at u s) (items (standing_of u s r)) ≡ map (reached_at w s) (items (standing_of w s r)) =
      ap (map (reached_at u s)) (same_reach s h r inside is own) ∙ same_each s h inside is (items (standing_of w s r)) own in
      λ i. record {
        map = slot;
        rooted = r;
        files = kept_records (under w s) (under u s) r.levels r.root (agree s h r inside is own) i;
        reached = reached i;
      }

  same_roots : (s : ℕ) (h : Head) → s < 64 → w.head s ≡ Some h → (rs : List (ℕ × Rooted)) → ((v : ℕ) → is_listed (items_of w s rs) v ≡ true → is_listed (own_items w s h) v ≡ true)
      → map (λ (r : ℕ × Rooted). root_seen u s r.0 r.1) rs ≡ map (λ (r : ℕ × Rooted). root_seen w s r.0 r.1) rs
  same_roots s h inside is [] own = refl
  same_roots s h inside is (r ∷ rs) own = ap₂ (λ (x : Root) (xs : List Root). x ∷ xs)
      (same_root_seen s h r.0 r.1 inside is (λ v there. own v (left_listed (items (standing_of w s r.1)) (items_of w s rs) v there)))
      (same_roots s h inside is rs (λ v there. own v (right_listed (items (standing_of w s r.1)) (items_of w s rs) v there)))

  same_own : (s : ℕ) (h : Head) (b : Footing) → w.head s ≡ Some h → h.base ≡ Some b → (es : List Item) → ((v : ℕ) → is_listed es v ≡ true → is_listed (base_items w (Some b)) v ≡ true) → map (based_at u s b.splitting) es ≡ map (based_at w s b.splitting) es
  same_own s h b is based [] own = refl
  same_own s h b is based (e ∷ es) own =
      let here = own e.pointer.vvbn (or_left (e.pointer.vvbn == e.pointer.vvbn) (is_listed es e.pointer.vvbn) (grind (arith, nat_tests))) in
      let rest = same_own s h b is based es (λ v there. own v (or_right (e.pointer.vvbn == v) (is_listed es v) there)) in
      let same : (not b.splitting && is_some (u.entry s e.pointer.vvbn)) ≡ (not b.splitting && is_some (w.entry s e.pointer.vvbn)) = so b.splitting refl here in
      λ i. record { item = e; own = same i } ∷ rest i
    where
      so : (splitting : Bool) → b.splitting ≡ splitting → is_listed (base_items w (Some b)) e.pointer.vvbn ≡ true → (not splitting && is_some (u.entry s e.pointer.vvbn)) ≡ (not splitting && is_some (w.entry s e.pointer.vvbn))
      so true f here = refl
      so false f here = stays.based s h b e.pointer.vvbn is based f here

  same_based_on : (s : ℕ) (h : Head) (b : Footing) → s < 64 → w.head s ≡ Some h → h.base ≡ Some b → (o : Option Rooted) → base_root w b ≡ o → option_map_or (based_on u s b) o [] ≡ option_map_or (based_on w s b) o []
  same_based_on s h b inside is based None e = refl
  same_based_on s h b inside is based (Some r) e =
      ap (map (based_at u s b.splitting)) (same_base_reach b r (stands w bases rests s h b inside is based) e)
      ∙ same_own s h b is based (items (standing_of w b.parent r)) (λ v there. subst (λ (o : Option Rooted). is_listed (option_map_or (λ r. items (standing_of w b.parent r)) o []) v ≡ true) (sym e) there)

  same_base_seen : (s : ℕ) (h : Head) → s < 64 → w.head s ≡ Some h → base_seen u s h.base ≡ base_seen w s h.base
  unfolding base_seen
  same_base_seen s h inside is = so h.base refl
    where
      so : (base : Option Footing) → h.base ≡ base → option_map_or (λ b. option_map_or (based_on u s b) (base_root u b) []) base [] ≡ option_map_or (λ b. option_map_or (based_on w s b) (base_root w b) []) base []
      so None e = refl
      so (Some b) e = ap (λ o. option_map_or (based_on u s b) o []) (same_root b) ∙ same_based_on s h b inside is e (base_root w b) refl

  same_volume_seen : (s : ℕ) (h : Head) → s < 64 → w.head s ≡ Some h → volume_seen u s h ≡ volume_seen w s h
  unfolding volume_seen
  same_volume_seen s h inside is = λ i. record {
    head = h;
    volume = same_volume s h inside is i;
    roots = same_roots s h inside is (roots_of h) (λ v there. there) i;
    base = same_base_seen s h inside is i;
  }

  -- The rules on tables look at the same.
  pub same_seen : seen u ≡ seen w
  unfolding seen
  same_seen = λ i. record { blocks = stays.blocks i; version = stays.version i; volume = λ s. volumes s i }
    where
      of_head : (s : ℕ) → s < 64 → (o : Option Head) → w.head s ≡ o → option_map (volume_seen u s) o ≡ option_map (volume_seen w s) o
      of_head s inside None e = refl
      of_head s inside (Some h) e = ap (λ x. Some x) (same_volume_seen s h inside e)

      so : (s : ℕ) (inside : Bool) → nat_lt s 64 ≡ inside → option_map (volume_seen u s) (if inside then u.head s else None) ≡ option_map (volume_seen w s) (if inside then w.head s else None)
      so s true test = ap (option_map (volume_seen u s)) (stays.heads s) ∙ of_head s (grind (arith, nat_tests, test)) (w.head s) refl
      so s false test = refl

      volumes : (s : ℕ) → option_map (volume_seen u s) (head_at u s) ≡ option_map (volume_seen w s) (head_at w s)
      volumes s = so s (nat_lt s 64) refl
