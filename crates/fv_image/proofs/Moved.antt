-- A view in which one block moved under its VVBN tells the same machine.
use Rattle.std.proofs.Common.{◌≡◌, ◌≢◌, ℕ, zero, suc, ◌+◌, ◌*◌, ◌/◌, ◌^◌, ◌<◌, ◌≤◌, Bool, true, false, List, [], ◌∷◌, map, inl, inr, refl, sym, ap, ap₂, subst, ◌∙◌, arith, ⊎_elim}
use Rattle.std.specs.Prelude.{Option, Some, None, ◌==◌, ◌&&◌, nat_lt, min, if◌then◌else◌}
use Rattle.std.specs.List.{list_all}
use Rattle.std.specs.Option.{is_none, option_map, option_map_or, option_and_then, option_or}
use Rattle.std.specs.FinMap as fin
use Rattle.std.proofs.lemmas.Bool.{cases_eq, cases_lt}
use Rattle.std.proofs.lemmas.Bool.Decides.{nat_tests}
use Rattle.fv_codec.specs.declared.pointer.Pointer.{Pointer}
use Rattle.fv_codec.specs.declared.inode.InodeRecord.{InodeRecord}
use Rattle.fv_codec.specs.Blocks.{greatest_word}
use Rattle.fv_model.specs.Spelling.{name_cmp}
use Rattle.fv_model.specs.Tables.{Table, empty_table}
use Rattle.fv_model.specs.Volumes.{Volume}
use Rattle.fv_model.specs.Trees.{fan}
use Rattle.fv_laws.proofs.Lists.{In}
use Rattle.fv_tables.specs.Spelled.{Under, stored, pointer_at, hole}
use Rattle.fv_tables.specs.Told.{Standing, standing_at, file_at, records_each, table_told}
use Rattle.fv_tables.specs.Reached.{Item, items, item_of}
use Rattle.fv_tables.proofs.Lists.{same_parts}
use Rattle.fv_tables.proofs.Pointers.{above}
use Rattle.fv_tables.proofs.Items.{at_inode, at_file, number_within}
use Rattle.fv_image.specs.Views.{Placed, Rooted, Snap, Footing, Head, View, slots}
use Rattle.fv_image.specs.Views.{kind_at}
use Rattle.fv_image.specs.Chains.{along, parent_in, span_at, place, under}
use Rattle.fv_image.specs.Volumes.{standing_of, table_at, active_at, snap_told, base_on, base_told, base_from, volume_with, volume_told, named_with, volumes_with, told_with, told, snap_at}
use Rattle.fv_image.specs.Seen.{roots_of}
use Rattle.fv_image.specs.ReachRules.{kind_of}
use Rattle.fv_tables.specs.Alike.{hintless_item, SpellAlike, RecordAlike, AreAlike}
use Rattle.fv_image.specs.Moves.{StandsAlone, finds_in, LeadsUnknownTo, MayMove, Moves, FitsRoot, FitsRoots}
use Rattle.fv_tables.proofs.AlikeTables.{alike_table, alike_reach}

-- ---- views with the same heads and volumes

module _ (w u : View) (blocks : u.blocks ≡ w.blocks) (version : u.version ≡ w.version) (heads : (k : ℕ) → u.head k ≡ w.head k)
    (volumes : (k : ℕ) (g : Head) → k < 64 → w.head k ≡ Some g → volume_told u k g ≡ volume_told w k g) where
  named_same : (k : ℕ) → k < 64 → named_with u (active_at u) k (u.head k) ≡ named_with w (active_at w) k (w.head k)
  named_same k inside = ap (named_with u (active_at u) k) (heads k) ∙ so (w.head k) refl
    where
      active_in : (z : View) (g : Head) → z.head k ≡ Some g → active_at z k ≡ table_at z k g.active
      active_in z g e = ap (λ (o : Option Head). option_map_or (λ g. table_at z k g.active) o empty_table) e

      so : (o : Option Head) → w.head k ≡ o → named_with u (active_at u) k o ≡ named_with w (active_at w) k o
      so None e = refl
      so (Some g) e = ap (λ (z : Volume). (g.name, z) ∷ [])
          (ap (volume_with u k g) (active_in u g (heads k ∙ e)) ∙ volumes k g inside e ∙ sym (ap (volume_with w k g) (active_in w g e)))

  pub told_same : told u ≡ told w
  unfolding told_with volumes_with slots
  told_same = λ i. record {
    blocks = blocks i;
    version = version i;
    volumes = fin.from_entries {R = name_cmp} (same_parts (λ k. named_with u (active_at u) k (u.head k)) (λ k. named_with w (active_at w) k (w.head k)) 0 64 (λ k low high. named_same k (omega (arith, high))) i);
  }

-- ---- a volume on which none stands

module _ (w : View) (s : ℕ) (alone : StandsAlone w s) where
  -- each parent is another volume
  pub parent_elsewhere : (k p : ℕ) → parent_in (w.head k) ≡ Some p → p ≢ s
  parent_elsewhere k p e = so (w.head k) refl e
    where
      by_base : (g : Head) → w.head k ≡ Some g → (o : Option Footing) → g.base ≡ o → option_map (λ (b : Footing). b.parent) o ≡ Some p → p ≢ s
      by_base g there None based e = absurd cc
      by_base g there (Some b) based e = let same : b.parent ≡ p = cc in λ at. alone k g b there based (same ∙ at)

      so : (o : Option Head) → w.head k ≡ o → parent_in o ≡ Some p → p ≢ s
      so None there e = absurd cc
      so (Some g) there e = by_base g there g.base refl e

  -- so no other volume finds a block there
  pub finds_elsewhere : (n k v : ℕ) → k ≢ s → finds_in w n k s v ≡ false
  unfolding finds_in
  finds_elsewhere zero k v other = grind (arith, nat_tests)
  finds_elsewhere (suc n) k v other =
      let test : (k == s) ≡ false = grind (arith, nat_tests) in
      rw test (so (parent_in (w.head k)) (λ p e. finds_elsewhere n p v (parent_elsewhere k p e)) (is_none (w.entry k v)))
    where
      so : (o : Option ℕ) → ((p : ℕ) → o ≡ Some p → finds_in w n p s v ≡ false) → (b : Bool) → (b && option_map_or (λ p. finds_in w n p s v) o false) ≡ false
      so o each false = refl
      so None each true = refl
      so (Some p) each true = each p refl

  -- and the rule asks for its own pointers alone.
  pub alone_may_move : (h : Head) (v : ℕ) → w.head s ≡ Some h → LeadsUnknownTo w s h v → MayMove w s v
  alone_may_move h v head own k g there found = ⊎_elim
      (λ (e : k ≡ s). let same : h ≡ g = some_is h g (sym head ∙ ap w.head (sym e) ∙ there) in subst (λ (n : ℕ). LeadsUnknownTo w n g v) (sym e) (subst (λ (x : Head). LeadsUnknownTo w s x v) same own))
      (λ other. let none = finds_elsewhere 64 k v other in absurd cc)
      (cases_eq k s)
    where
      some_is : (x y : Head) → Some x ≡ Some y → x ≡ y
      some_is x y e = cc

-- ---- places

module _ (w u : View) (s v : ℕ) (was now : Placed) (moves : Moves w u s v was now) where
  other_parent : (k p : ℕ) → parent_in (w.head k) ≡ Some p → p ≢ s
  other_parent = parent_elsewhere w s moves.alone

  along_other : (n k q : ℕ) → k ≢ s → along u n k q ≡ along w n k q
  unfolding along
  along_other zero k q other = refl
  along_other (suc n) k q other =
      ap₂ (λ (o : Option Placed) (h : Option Head). option_or o (option_and_then (λ p. along u n p q) (parent_in h))) (moves.others k q (inl other)) (moves.heads k)
      ∙ ap (option_or (w.entry k q)) (so (λ p ne. along_other n p q ne) (parent_in (w.head k)) (λ p e. other_parent k p e))
    where
      so : ((p : ℕ) → p ≢ s → along u n p q ≡ along w n p q) → (o : Option ℕ) → ((p : ℕ) → o ≡ Some p → p ≢ s) → option_and_then (λ p. along u n p q) o ≡ option_and_then (λ p. along w n p q) o
      so rest None each = refl
      so rest (Some p) each = rest p (each p refl)

  along_here : (n q : ℕ) → q ≢ v → along u n s q ≡ along w n s q
  unfolding along
  along_here zero q other = refl
  along_here (suc n) q other =
      ap₂ (λ (o : Option Placed) (h : Option Head). option_or o (option_and_then (λ p. along u n p q) (parent_in h))) (moves.others s q (inr other)) (moves.heads s)
      ∙ ap (option_or (w.entry s q)) (so (parent_in (w.head s)) (λ p e. other_parent s p e))
    where
      so : (o : Option ℕ) → ((p : ℕ) → o ≡ Some p → p ≢ s) → option_and_then (λ p. along u n p q) o ≡ option_and_then (λ p. along w n p q) o
      so None each = refl
      so (Some p) each = along_other n p q (each p refl)

  span_same : (k : ℕ) → span_at u k ≡ span_at w k
  span_same k = ap (λ (o : Option Head). option_map_or (λ h. h.span) o 0) (moves.heads k)

  -- Another volume finds each block where it was, and so does this one but for the one that moved.
  pub place_other : (k q : ℕ) → k ≢ s → place u k q ≡ place w k q
  unfolding place
  place_other k q other = λ i. if nat_lt q (span_same k i) then along_other 64 k q other i else moves.others k q (inl other) i

  pub place_here : (q : ℕ) → q ≢ v → place u s q ≡ place w s q
  unfolding place
  place_here q other = λ i. if nat_lt q (span_same s i) then along_here 64 q other i else moves.others s q (inr other) i

  pub place_moved : place u s v ≡ Some now
  unfolding place along
  place_moved =
      let low : nat_lt v (span_at u s) ≡ true = ap (nat_lt v) (span_same s) ∙ (let l = moves.low in grind (arith, nat_tests)) in
      rw (low, moves.here) refl

  under_other : (k : ℕ) → k ≢ s → under u k ≡ under w k
  unfolding under
  under_other k other = λ i q. option_map (λ (x : Placed). x.block) (place_other k q other i)

  pub under_here : (q : ℕ) → q ≢ v → under u s q ≡ under w s q
  unfolding under
  under_here q other = ap (option_map (λ (x : Placed). x.block)) (place_here q other)

  under_was : under w s v ≡ Some was.block
  unfolding under
  under_was = ap (option_map (λ (x : Placed). x.block)) moves.there

  pub under_now : under u s v ≡ Some now.block
  unfolding under
  under_now = ap (option_map (λ (x : Placed). x.block)) place_moved

  pub standing_other : (k : ℕ) (r : Rooted) → k ≢ s → standing_of u k r ≡ standing_of w k r
  standing_other k r other = ap (λ (m : Under). standing_at m r.levels r.root) (under_other k other)

  -- ---- a root of the volume whose blocks have the kinds of their positions

  module _ (r : Rooted) (fits : FitsRoot w s r) where
    abbrev x : Standing
    x = standing_of w s r

    abbrev few : r.levels ≤ 2
    few = fits.levels

    abbrev low : (k : ℕ) (f : InodeRecord) → file_at x.inode k ≡ Some f → f.levels ≤ 3
    low = fits.files

    abbrev kinds : list_all (λ (e : Item). kind_at (place w s e.pointer.vvbn) == kind_of e) (items x) ≡ true
    kinds = fits.kinds

    kind_is : (e : Item) → (kind_at (place w s e.pointer.vvbn) == kind_of e) ≡ true → e.pointer.vvbn ≡ v → was.kind ≡ kind_of e
    kind_is e test at =
        let here : place w s e.pointer.vvbn ≡ Some was = ap (place w s) at ∙ moves.there in
        let kind : kind_at (place w s e.pointer.vvbn) ≡ was.kind = ap kind_at here in
        let same : kind_at (place w s e.pointer.vvbn) ≡ kind_of e = grind (arith, nat_tests) in
        sym kind ∙ same

    spells : (q : ℕ) → (q ≡ v → (was.kind ≢ 1) × (was.kind ≢ 5)) → SpellAlike (under w s q) (under u s q)
    spells q says = ⊎_elim
        (λ (at : q ≡ v). subst (λ (n : ℕ). SpellAlike (under w s n) (under u s n)) (sym at)
        (subst (λ (o : Option (List ℕ)). SpellAlike o (under u s v)) (sym under_was) (subst (λ (o : Option (List ℕ)). SpellAlike (Some was.block) o) (sym under_now) (moves.says.nodes (says at).0 (says at).1))))
        (λ other. subst (λ (o : Option (List ℕ)). SpellAlike (under w s q) o) (sym (under_here q other)) refl)
        (cases_eq q v)

    records_say : (q : ℕ) → (q ≡ v → was.kind ≡ 5) → RecordAlike (under w s q) (under u s q)
    records_say q says = ⊎_elim
        (λ (at : q ≡ v). subst (λ (n : ℕ). RecordAlike (under w s n) (under u s n)) (sym at)
        (subst (λ (o : Option (List ℕ)). RecordAlike o (under u s v)) (sym under_was) (subst (λ (o : Option (List ℕ)). RecordAlike (Some was.block) o) (sym under_now) (moves.says.inodes (says at)))))
        (λ other. subst (λ (o : Option (List ℕ)). RecordAlike (under w s q) o) (sym (under_here q other)) refl)
        (cases_eq q v)

    data_says : (q : ℕ) → (q ≡ v → was.kind ≡ 1) → under u s q ≡ under w s q
    data_says q says = ⊎_elim
        (λ (at : q ≡ v). ap (under u s) at ∙ under_now ∙ ap (λ (b : List ℕ). Some b) (moves.says.cells (says at)) ∙ sym under_was ∙ sym (ap (under w s) at))
        (λ other. under_here q other)
        (cases_eq q v)

    inode_kind : (level p : ℕ) → (pointer_at x.inode level p).stamp ≢ 0 → (pointer_at x.inode level p).vvbn ≡ v → was.kind ≡ 5 + min level 2
    inode_kind level p some at = kind_is (item_of hole x.inode level p) (at_inode (λ e. kind_at (place w s e.pointer.vvbn) == kind_of e) x kinds level p some) at

    number_small : (k : ℕ) (f : InodeRecord) → file_at x.inode k ≡ Some f → (k == greatest_word) ≡ false
    number_small k f is =
        let within : k < records_each * fan ^ r.levels = number_within (λ e. kind_at (place w s e.pointer.vvbn) == kind_of e) x k f is in
        by r.levels few within
      where
        by : (l : ℕ) → l ≤ 2 → k < records_each * fan ^ l → (k == greatest_word) ≡ false
        by zero le lt = grind (arith, nat_tests)
        by (suc zero) le lt = grind (arith, nat_tests)
        by (suc (suc zero)) le lt = grind (arith, nat_tests)
        by (suc (suc (suc l))) le lt = absurd (omega arith)

    file_kind : (k : ℕ) (f : InodeRecord) → file_at x.inode k ≡ Some f → (level p : ℕ) → (pointer_at (stored (under w s) k f.levels f.root) level p).stamp ≢ 0 → (pointer_at (stored (under w s) k f.levels f.root) level p).vvbn ≡ v → was.kind ≡ 1 + level
    file_kind k f is level p some at =
        kind_is (item_of (pointer_at x.inode 0 (k / records_each)) (stored (under w s) k f.levels f.root) level p) (at_file (λ e. kind_at (place w s e.pointer.vvbn) == kind_of e) x kinds k f is level p some) at
        ∙ ap (λ (b : Bool). if b then 5 + min level 2 else 1 + level) (number_small k f is)

    -- a position that stands is within the levels
    stands_low : (k : ℕ) (f : InodeRecord) → file_at x.inode k ≡ Some f → (level p : ℕ) → (pointer_at (stored (under w s) k f.levels f.root) level p).stamp ≢ 0 → level ≤ 3
    stands_low k f is level p some = ⊎_elim
        (λ (high : f.levels < level). absurd (some (ap (λ (q : Pointer). q.stamp) (above (stored (under w s) k f.levels f.root) level p high))))
        (λ (le : level ≤ f.levels). let most = low k f is in omega (arith, le, most))
        (cases_lt f.levels level)

    pub alike_here : AreAlike (under w s) (under u s) r.levels r.root
    alike_here = record {
      nodes = λ level p low some. spells _ (λ at. let kind = inode_kind level p some at in by level low kind);
      inodes = λ p some. records_say _ (λ at. inode_kind 0 p some at);
      file_nodes = λ k f is level p over some. spells _ (λ at. let kind = file_kind k f is level p some at in let high = stands_low k f is level p some in (λ e. absurd (omega (arith, kind, over, e)), λ e. absurd (omega (arith, kind, high, e))));
      cells = λ k f is p some. data_says _ (λ at. file_kind k f is 0 p some at);
    }
      where
        by : (level : ℕ) → 1 ≤ level → was.kind ≡ 5 + min level 2 → (was.kind ≢ 1) × (was.kind ≢ 5)
        by zero low kind = absurd (omega arith)
        by (suc zero) low kind = (λ e. absurd (omega (arith, kind, e)), λ e. absurd (omega (arith, kind, e)))
        by (suc (suc l)) low kind = (λ e. absurd (omega (arith, kind, e)), λ e. absurd (omega (arith, kind, e)))

    -- The table of the root is told as before, and reaches the same but for hints.
    pub table_moved : table_at u s r ≡ table_at w s r
    table_moved = alike_table (under w s) (under u s) r.levels r.root r.root refl alike_here

    pub items_moved : map hintless_item (items (standing_of u s r)) ≡ map hintless_item (items (standing_of w s r))
    items_moved = alike_reach (under w s) (under u s) r.levels r.root r.root refl alike_here

  -- ---- the machine

  base_same : (k : ℕ) (g : Head) → w.head k ≡ Some g → base_from u g.base ≡ base_from w g.base
  base_same k g there = so g.base refl
    where
      told_on : (b : Footing) → b.parent ≢ s → (f : Head) (o : Option Snap) → option_map (base_on u b f) o ≡ option_map (base_on w b f) o
      told_on b other f None = refl
      told_on b other f (Some p) = λ i. Some (record { parent = f.name; snapshot = p.name; table = table_told (standing_other b.parent p.table other i); splitting = b.splitting })

      by_head : (b : Footing) → b.parent ≢ s → (o : Option Head) → base_told u b o ≡ base_told w b o
      by_head b other None = refl
      by_head b other (Some f) = told_on b other f (snap_at f b.slot)

      so : (o : Option Footing) → g.base ≡ o → base_from u o ≡ base_from w o
      so None based = refl
      so (Some b) based = ap (base_told u b) (moves.heads b.parent) ∙ by_head b (moves.alone k g b there based) (w.head b.parent)

  pub volume_by : (k : ℕ) (g : Head) → w.head k ≡ Some g → ((m : ℕ) (r : Rooted) → In {X = ℕ × Rooted} (m, r) (roots_of g) → table_at u k r ≡ table_at w k r) → volume_told u k g ≡ volume_told w k g
  unfolding volume_with
  volume_by k g there tables = λ i. record {
    kind = g.kind;
    size = g.size;
    most = g.most;
    span = g.span;
    now = g.now;
    active = tables 0 g.active (inl refl) i;
    snapshots = fin.from_entries {R = name_cmp} (snaps g.snapshots (λ m r is. tables m r (inr is)) i);
    base = base_same k g there i;
    known = g.known;
  }
    where
      snaps : (ps : List Snap) → ((m : ℕ) (r : Rooted) → In {X = ℕ × Rooted} (m, r) (map (λ (p : Snap). (p.slot, p.table)) ps) → table_at u k r ≡ table_at w k r) → map (snap_told u k) ps ≡ map (snap_told w k) ps
      snaps [] each = refl
      snaps (p ∷ ps) each = ap₂ (λ (t : Table) (xs : List (List ℕ × Table)). (p.name, t) ∷ xs) (each p.slot p.table (inl refl)) (snaps ps (λ m r is. each m r (inr is)))

  -- Where its blocks have the kinds of their positions, the machine is the same.
  pub moved_told : (h : Head) → w.head s ≡ Some h → FitsRoots w s h → told u ≡ told w
  moved_told h head fits = told_same w u moves.blocks moves.version moves.heads (λ k g inside there. ⊎_elim
      (λ (e : k ≡ s).
      let same : h ≡ g = some_is h g (sym head ∙ ap w.head (sym e) ∙ there) in
      volume_by k g there (λ m r is. subst (λ (n : ℕ). table_at u n r ≡ table_at w n r) (sym e) (table_moved r (fits m r (subst (λ (x : Head). In {X = ℕ × Rooted} (m, r) (roots_of x)) (sym same) is)))))
      (λ other. volume_by k g there (λ m r is. ap table_told (standing_other k r other)))
      (cases_eq k s))
    where
      some_is : (x y : Head) → Some x ≡ Some y → x ≡ y
      some_is x y e = cc
