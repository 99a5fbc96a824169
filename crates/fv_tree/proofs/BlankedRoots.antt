-- An inode file whose records tell no places of roots where a later flush writes them.
use Rattle.std.proofs.Common.{◌≡◌, ◌≢◌, ◌≤◌, ◌<◌, ◌⊎◌, inl, inr, ℕ, zero, suc, ◌+◌, ◌/◌, ◌%◌, ◌^◌, Bool, true, false, cond, map, ◌&&◌, ◌==◌, if◌then◌else◌, List, [], ◌∷◌, length, get_or, Option, Some, None, Result, Ok, Err, is_some, refl, sym, ap, subst, ◌∙◌, arith}
use Rattle.std.specs.Prelude.{count_by}
use Rattle.std.specs.List.{All}
use Rattle.std.specs.Map.{lookup, values_of}
use Rattle.std.specs.Map.Calls.{RetainsPairs}
use Rattle.std.specs.Option.{option_map}
use Rattle.std.specs.Ordering.{nat_cmp}
use Rattle.std.specs.BTreeMap as maps
use Rattle.std.proofs.lemmas.Bool.{cases_lt}
use Rattle.std.proofs.lemmas.List.Elements.{All-map}
use Rattle.std.proofs.lemmas.List.Sums.{sum_by-cons}
use Rattle.fv_codec.specs.declared.shape.Shape.{Shape}
use Rattle.fv_codec.specs.declared.pointer.Pointer.{Pointer}
use Rattle.fv_codec.specs.declared.inode.InodeRecord.{InodeRecord}
use Rattle.fv_codec.specs.declared.inode.InodeBlock.{InodeBlock}
use Rattle.fv_codec.specs.Blocks.{all_free, inodes_at, IsInodeRecord, IsPointerIf}
use Rattle.fv_model.specs.Trees.{fan, Spot}
use Rattle.fv_tables.specs.Told.{records_each, free_record, used_record, records_of, records_in, file_at}
use Rattle.fv_tree.specs.declared.kept.Tree.{Tree}
use Rattle.fv_tree.specs.declared.kept.KeptNode.{KeptNode}
use Rattle.fv_tree.specs.declared.kept.KeptCell.{KeptCell}
use Rattle.fv_tree.specs.Spelled.{Under, hole, kept_or, pointers_at, pointers_in, pointer_at, block_at, block_or}
use Rattle.fv_tree.specs.Sources.{Use}
use Rattle.fv_tree.specs.Standing.{standing, children_in, node_in, cell_in}
use Rattle.fv_tree.specs.Flushing.{Loaded, IsNodeOf, IsRight, IsSound, has_unknown_root, kind_for, loaded_over, cell_changed, cell_placed, changed_in, changed_of, placed_in, placed_of}
use Rattle.fv_tree.specs.Leading.{LeadsNoMore}
use Rattle.fv_tree.specs.Stored.{IsStoredWell}
use Rattle.fv_tree.specs.Unknown.{LeadsUnknown}
use Rattle.fv_tree.specs.Readying.{KeepsReady}
use Rattle.fv_tree.specs.Costs.{changes_in}
use Rattle.fv_tables.specs.Alike.{hintless, hintless_record}
use Rattle.fv_tree.specs.Rooting.{hintless_spelled, BlanksCell, BlanksCells, BlanksKept, BlanksPlace, BlanksRoots}
use Rattle.fv_tree.proofs.Cases.{bit, false_is_true, some_none}
use Rattle.fv_tree.proofs.Readied.{way_as}
use Rattle.fv_tree.proofs.Ways.{IsWay, is_way, own_way, past}

-- ---- records

blanked_fits : (used : Bool) (p : Pointer) → IsPointerIf used p → IsPointerIf used (hintless p)
blanked_fits used p is = record { vvbn = is.vvbn; pvbn = omega arith; stamp = is.stamp }

record_fits : (r : InodeRecord) → IsInodeRecord r → IsInodeRecord (hintless_record r)
record_fits r is = record {
  name_length = is.name_length;
  name_long = is.name_long;
  name = is.name;
  length = is.length;
  reserve = is.reserve;
  levels = is.levels;
  root = blanked_fits _ r.root is.root;
}

pub records_fit : (files : List InodeRecord) → All IsInodeRecord files → All IsInodeRecord (map hintless_record files)
records_fit files fit = All-map IsInodeRecord hintless_record files (λ k d lt. record_fits (get_or files k d) (fit k d lt))

pub same_free : (files : List InodeRecord) → all_free (map hintless_record files) ≡ all_free files
same_free [] = refl
same_free (r ∷ rs) = ap (λ b. (r.name_length == 0) && b) (same_free rs)

pub got_root : (files : List InodeRecord) (slot : ℕ) → get_or (map hintless_record files) slot free_record ≡ hintless_record (get_or files slot free_record)
got_root [] slot = refl
got_root (r ∷ rs) zero = refl
got_root (r ∷ rs) (suc slot) = got_root rs slot

spelled_records : (r : Result InodeBlock Shape) → records_of (hintless_spelled r) ≡ map hintless_record (records_of r)
spelled_records (Ok b) = refl
spelled_records (Err fault) = refl

used_root : (r : InodeRecord) → used_record (hintless_record r) ≡ option_map hintless_record (used_record r)
used_root r = by (r.name_length == 0)
  where
    by : (b : Bool) → (if b then None else Some (hintless_record r)) ≡ option_map hintless_record (if b then None else Some r)
    by true = refl
    by false = refl

-- ---- cells

BlanksEntries : List (ℕ × KeptCell) → List (ℕ × KeptCell) → Type 0
BlanksEntries [] [] = Unit {0}
BlanksEntries [] (y ∷ ys) = ⊥
BlanksEntries (x ∷ xs) [] = ⊥
BlanksEntries (x ∷ xs) (y ∷ ys) = (y.0 ≡ x.0) × BlanksCell x.1 y.1 × BlanksEntries xs ys

module _ {F : Type 0} (T : F → ℕ → KeptCell → Bool → KeptCell → F → Type 0) (f : F) (each : (k : ℕ) (v : KeptCell) (b : Bool) (w : KeptCell) (g : F) → T f k v b w g → (b ≡ true) × (g ≡ f) × BlanksCell v w) where
  retained : (es kept : List (ℕ × KeptCell)) → RetainsPairs T f es kept → BlanksEntries es kept
  unfolding BlanksEntries
  retained [] kept r = subst (BlanksEntries []) (sym r) tt
  retained (e ∷ es) kept r =
      let a = each e.0 e.1 r.0 r.1 r.2 r.4 in
      let rest = retained es r.3 (subst (λ u. RetainsPairs T u es r.3) a.1 r.5) in
      subst (BlanksEntries (e ∷ es)) (sym (r.6 ∙ ap (λ b. cond b ((e.0, r.1) ∷ r.3) r.3) a.0)) (refl, a.2, rest)

here : (b : Bool) (was now : KeptCell) (others later : Option KeptCell) → BlanksCell was now → BlanksKept others later → BlanksKept (cond b (Some was) others) (cond b (Some now) later)
here true was now others later this rest = this
here false was now others later this rest = rest

found : (test : ℕ → Bool) (es kept : List (ℕ × KeptCell)) → BlanksEntries es kept → BlanksKept (lookup test es) (lookup test kept)
unfolding BlanksEntries
found test [] [] all = tt
found test [] (y ∷ ys) all = absurd all
found test (x ∷ xs) [] all = absurd all
found test (x ∷ xs) (y ∷ ys) all = subst (λ k. BlanksKept (lookup test (x ∷ xs)) (cond (test k) (Some y.1) (lookup test ys))) (sym all.0) (here (test x.0) x.1 y.1 (lookup test xs) (lookup test ys) all.1 (found test xs ys all.2))

counted : (es kept : List (ℕ × KeptCell)) → BlanksEntries es kept → count_by (λ (cell : KeptCell). cell.changed) (values_of kept) ≡ count_by (λ (cell : KeptCell). cell.changed) (values_of es)
unfolding BlanksEntries
counted [] [] all = refl
counted [] (y ∷ ys) all = absurd all
counted (x ∷ xs) [] all = absurd all
counted (x ∷ xs) (y ∷ ys) all =
    let rest = counted xs ys all.2 in
    sum_by-cons (λ (cell : KeptCell). cond cell.changed 1 0) y.1 (values_of ys) ∙ (λ j. cond (all.1.changed j) 1 0 + rest j) ∙ sym (sum_by-cons (λ (cell : KeptCell). cond cell.changed 1 0) x.1 (values_of xs))

as_long : (es kept : List (ℕ × KeptCell)) → BlanksEntries es kept → length kept ≡ length es
unfolding BlanksEntries
as_long [] [] all = refl
as_long [] (y ∷ ys) all = absurd all
as_long (x ∷ xs) [] all = absurd all
as_long (x ∷ xs) (y ∷ ys) all = ap suc (as_long xs ys all.2)

pub blanks_cells : {F : Type 0} (T : F → ℕ → KeptCell → Bool → KeptCell → F → Type 0) (f : F) → ((k : ℕ) (v : KeptCell) (b : Bool) (w : KeptCell) (g : F) → T f k v b w g → (b ≡ true) × (g ≡ f) × BlanksCell v w)
    → (o n : maps.BTreeMap ℕ KeptCell) → RetainsPairs T f o.entries n.entries → BlanksCells o n
blanks_cells T f each o n kept = let all = retained T f each o.entries n.entries kept in record {
  each = λ i. found (maps.is_at (nat_cmp i)) o.entries n.entries all;
  count = counted o.entries n.entries all;
  len = as_long o.entries n.entries all;
}

kept_changed : (o n : Option KeptCell) → BlanksKept o n → cell_changed n ≡ cell_changed o
kept_changed None None is = refl
kept_changed None (Some now) is = absurd is
kept_changed (Some was) None is = absurd is
kept_changed (Some was) (Some now) is = is.changed

kept_placed : (o n : Option KeptCell) → BlanksKept o n → cell_placed n ≡ cell_placed o
kept_placed None None is = refl
kept_placed None (Some now) is = absurd is
kept_placed (Some was) None is = absurd is
kept_placed (Some was) (Some now) is = is.placed

abbrev content : Option KeptCell → Option (List ℕ)
content = option_map (λ (kept : KeptCell). kept.block.value)

kept_there : (o n : Option KeptCell) → BlanksKept o n → is_some (content n) ≡ is_some (content o)
kept_there None None is = refl
kept_there None (Some now) is = absurd is
kept_there (Some was) None is = absurd is
kept_there (Some was) (Some now) is = refl

kept_same : (o n : Option KeptCell) → BlanksKept o n → cell_changed o ≡ false → content n ≡ content o
kept_same None None is same = refl
kept_same None (Some now) is same = absurd is
kept_same (Some was) None is same = absurd is
kept_same (Some was) (Some now) is same = ap Some (is.block.same same)

-- nothing differs of what didn't change
itself : (place : Option (List ℕ)) → BlanksPlace false place place
itself None = tt
itself (Some block) = record { same = λ same. refl; inodes = λ is. false_is_true false refl is; other = λ fault is. refl }

-- a cell in memory, or its block
kept_blanks : (o n : Option KeptCell) (below : Option (List ℕ)) → BlanksKept o n → BlanksPlace (cell_changed o) (block_or (content o) below) (block_or (content n) below)
kept_blanks None None below is = itself below
kept_blanks None (Some now) below is = absurd is
kept_blanks (Some was) None below is = absurd is
kept_blanks (Some was) (Some now) below is = is.block

-- the records of a cell in memory, or of its block
kept_records : (o n : Option KeptCell) (below : Option (List ℕ)) → BlanksKept o n
    → records_in (block_or (content n) below) ≡ cond (cell_changed o) (map hintless_record (records_in (block_or (content o) below))) (records_in (block_or (content o) below))
unfolding records_in
kept_records None None below is = refl
kept_records None (Some now) below is = absurd is
kept_records (Some was) None below is = absurd is
kept_records (Some was) (Some now) below is = elim (bit was.changed) [
  | inl same ↦ ap (λ block. records_of (inodes_at block)) (is.block.same same) ∙ sym (ap (λ b. cond b (map hintless_record (records_of (inodes_at was.block.value))) (records_of (inodes_at was.block.value))) same)
  | inr now_ ↦ ap records_of (is.block.inodes now_) ∙ spelled_records (inodes_at was.block.value) ∙ sym (ap (λ b. cond b (map hintless_record (records_of (inodes_at was.block.value))) (records_of (inodes_at was.block.value))) now_)
]

got_if : (b : Bool) (files : List InodeRecord) (slot : ℕ)
    → used_record (get_or (cond b (map hintless_record files) files) slot free_record) ≡ cond b (option_map hintless_record (used_record (get_or files slot free_record))) (used_record (get_or files slot free_record))
got_if true files slot = ap used_record (got_root files slot) ∙ used_root (get_or files slot free_record)
got_if false files slot = refl

-- ---- a whole tree

module _ (t u : Tree) (owner : u.owner ≡ t.owner) (levels : u.levels ≡ t.levels) (root : u.root ≡ t.root) (nodes : u.nodes ≡ t.nodes) (cells : BlanksCells t.cells u.cells) where
  abbrev was_at : ℕ → Option KeptCell
  was_at i = maps.get nat_cmp t.cells i

  abbrev now_at : ℕ → Option KeptCell
  now_at i = maps.get nat_cmp u.cells i

  changed : (level place : ℕ) → changed_of u level place ≡ changed_of t level place
  changed level place = λ j. if level == 0 then kept_changed (was_at place) (now_at place) (cells.each place) j else changed_in (nodes j) level place

  placed : (level place : ℕ) → placed_of u level place ≡ placed_of t level place
  placed level place = λ j. if level == 0 then kept_placed (was_at place) (now_at place) (cells.each place) j else placed_in (nodes j) level place

  same_node : (level place : ℕ) → node_in u level place ≡ node_in t level place
  same_node level place = ap (λ (m : maps.BTreeMap Spot KeptNode). children_in m level place) nodes

  same_cell : (i : ℕ) → changed_of t 0 i ≡ false → cell_in u i ≡ cell_in t i
  same_cell i same = kept_same (was_at i) (now_at i) (cells.each i) same

  module _ (held : Under) where
    abbrev s : Loaded
    s = loaded_over held t

    abbrev w : Loaded
    w = loaded_over held u

    abbrev p : ℕ → ℕ → Pointer
    p = pointer_at s.tree

    under : (k c : ℕ) (q : Pointer) → pointers_at w.tree k c q ≡ pointers_at s.tree k c q
    unfolding pointers_at
    under k c q = λ j. if q.stamp == 0 then [] else kept_or (same_node k c j) (pointers_in (held q.vvbn))

    way : IsWay w.tree p
    way = record {
      top = λ place. ap (λ n. p n place) levels ∙ (own_way s.tree).top place ∙ ap (λ r. if place == 0 then r else hole) (sym root);
      down = λ level place lt. (own_way s.tree).down level place (omega (arith, lt, levels))
          ∙ sym (ap (λ (xs : List Pointer). get_or xs (place % fan) hole) (under (level + 1) (place / fan) (p (level + 1) (place / fan))));
    }

    pointers : (level place : ℕ) → pointer_at w.tree level place ≡ p level place
    pointers level place = elim (cases_lt t.levels level) [
      | inl lt ↦ past w.tree level place (omega (arith, lt, levels)) ∙ sym (past s.tree level place lt)
      | inr le ↦ is_way w.tree p way level place (omega (arith, le, levels))
    ]

    stamp : (level place : ℕ) → (pointer_at w.tree level place).stamp ≡ (p level place).stamp
    stamp level place = ap (λ (q : Pointer). q.stamp) (pointers level place)

    blocks : (i : ℕ) → BlanksPlace (changed_of t 0 i) (block_at s.tree i) (block_at w.tree i)
    unfolding block_at
    blocks i = subst (BlanksPlace (changed_of t 0 i) (block_at s.tree i)) (λ j. if (sym (pointers 0 i) j).stamp == 0 then None else block_or (cell_in u i) (held (sym (pointers 0 i) j).vvbn)) (by ((p 0 i).stamp == 0))
      where
        by : (b : Bool) → BlanksPlace (cell_changed (was_at i)) (if b then None else block_or (cell_in t i) (held (p 0 i).vvbn)) (if b then None else block_or (cell_in u i) (held (p 0 i).vvbn))
        by true = tt
        by false = kept_blanks (was_at i) (now_at i) (held (p 0 i).vvbn) (cells.each i)

    same_block : (i : ℕ) → changed_of t 0 i ≡ false → block_at w.tree i ≡ block_at s.tree i
    unfolding block_at
    same_block i same = λ j. if (pointers 0 i j).stamp == 0 then None else block_or (same_cell i same j) (held (pointers 0 i j).vvbn)

    records_now : (i : ℕ) → records_in (block_at w.tree i) ≡ cond (changed_of t 0 i) (map hintless_record (records_in (block_at s.tree i))) (records_in (block_at s.tree i))
    unfolding block_at records_in
    records_now i = (λ j. records_in (if (pointers 0 i j).stamp == 0 then None else block_or (cell_in u i) (held (pointers 0 i j).vvbn))) ∙ by ((p 0 i).stamp == 0)
      where
        empty : (b : Bool) → [] ≡ cond b (map hintless_record []) []
        empty true = refl
        empty false = refl

        by : (b : Bool) → records_in (if b then None else block_or (cell_in u i) (held (p 0 i).vvbn))
            ≡ cond (cell_changed (was_at i)) (map hintless_record (records_in (if b then None else block_or (cell_in t i) (held (p 0 i).vvbn)))) (records_in (if b then None else block_or (cell_in t i) (held (p 0 i).vvbn)))
        by true = empty (cell_changed (was_at i))
        by false = kept_records (was_at i) (now_at i) (held (p 0 i).vvbn) (cells.each i)

    files : (n : ℕ) → file_at w.tree n ≡ cond (changed_of t 0 (n / records_each)) (option_map hintless_record (file_at s.tree n)) (file_at s.tree n)
    unfolding file_at
    files n =
        ap (λ rs. used_record (get_or rs (n % records_each) free_record)) (records_now (n / records_each))
        ∙ got_if (changed_of t 0 (n / records_each)) (records_in (block_at s.tree (n / records_each))) (n % records_each)

    leads : LeadsNoMore s w
    leads level place v led = record {
      some = λ none. led.some (stamp level place ∙ none);
      placed = sym (placed level place) ∙ led.placed;
      vvbn = ap (λ (q : Pointer). q.vvbn) (sym (pointers level place)) ∙ led.vvbn;
    }

    keeps : LeadsNoMore w s
    keeps level place v led = record {
      some = λ none. led.some (sym (stamp level place) ∙ none);
      placed = placed level place ∙ led.placed;
      vvbn = ap (λ (q : Pointer). q.vvbn) (pointers level place) ∙ led.vvbn;
    }

    stored_well : IsStoredWell s → IsStoredWell w
    stored_well well level place v low led = subst (λ n. IsNodeOf n level place (held v)) (sym owner) (well level place v low (leads level place v led))

    sound : (used : ℕ → Option Use) → IsSound used s → IsSound used w
    sound used is = record {
      once = λ level place k q v one other. is.once level place k q v (leads level place v one) (leads k q v other);
      held = λ level place v led. is.held level place v (leads level place v led);
      used = λ level place v led. subst (λ n. IsRight (kind_for n level) (pointer_at w.tree level place) (used v)) (sym owner)
          (subst (λ q. IsRight (kind_for t.owner level) q (used v)) (sym (pointers level place)) (is.used level place v (leads level place v led)));
      over = λ level place was some lt. changed (level + 1) (place / fan) ∙ is.over level place (sym (changed level place) ∙ was) (λ none. some (stamp level place ∙ none)) (omega (arith, lt, levels));
      same = λ level place xs low node unchanged some.
          let before = is.same level place xs low (sym (same_node level place) ∙ node) (sym (changed level place) ∙ unchanged) (λ none. some (stamp level place ∙ none)) in
          (ap (λ (q : Pointer). pointers_in (held q.vvbn)) (pointers level place) ∙ before.0, placed level place ∙ before.1);
      cells = λ i block cell unchanged some.
          let was = sym (changed 0 i) ∙ unchanged in
          let before = is.cells i block (sym (same_cell i was) ∙ cell) was (λ none. some (stamp 0 i ∙ none)) in
          (ap (λ (q : Pointer). held q.vvbn) (pointers 0 i) ∙ before.0, placed 0 i ∙ before.1);
      empty = λ level place low none within xs node slot. is.empty level place low (sym (stamp level place) ∙ none) (lies level place within) xs (sym (same_node level place) ∙ node) slot;
    }
      where
        lies : (level place : ℕ) → (level ≤ u.levels) ⊎ ((place ≢ 0) ⊎ (u.root.stamp ≡ 0)) → (level ≤ t.levels) ⊎ ((place ≢ 0) ⊎ (t.root.stamp ≡ 0))
        lies level place (inl le) = inl (omega (arith, le, levels))
        lies level place (inr (inl some)) = inr (inl some)
        lies level place (inr (inr none)) = inr (inr (ap (λ (q : Pointer). q.stamp) (sym root) ∙ none))

    leads_unknown : LeadsUnknown s → LeadsUnknown w
    leads_unknown is = record {
      nodes = λ level place some none lt same.
          ap (λ (q : Pointer). q.pvbn) (pointers (level + 1) (place / fan))
          ∙ is.nodes level place (λ e. some (stamp level place ∙ e)) (ap (λ (q : Pointer). q.pvbn) (sym (pointers level place)) ∙ none) (omega (arith, lt, levels)) (sym (changed (level + 1) (place / fan)) ∙ same);
      roots = λ place block some same lies holds.
          let was = sym (changed 0 place) ∙ same in
          ap (λ (q : Pointer). q.pvbn) (pointers 0 place)
          ∙ is.roots place block (λ e. some (stamp 0 place ∙ e)) was (sym (same_block place was) ∙ lies) (ap (λ n. has_unknown_root n block) (sym owner) ∙ holds);
    }

  ready : KeepsReady t u
  ready i is = record {
    covers = subst (λ n. i < fan ^ n) (sym levels) is.covers;
    cell = kept_there (was_at i) (now_at i) (cells.each i) ∙ is.cell;
    way = way_as t u i levels root same_node is.way;
  }

  pub blanks_roots : BlanksRoots t u
  blanks_roots = record {
    owner = owner;
    levels = levels;
    root = root;
    nodes = nodes;
    cells = cells;
    changed = changed;
    placed = placed;
    pending = λ j. cells.count j + changes_in (nodes j);
    pointers = pointers;
    blocks = blocks;
    files = files;
    sound = sound;
    leads = leads;
    keeps = keeps;
    stored_well = stored_well;
    leads_unknown = leads_unknown;
    keeps_ready = ready;
  }

-- ---- what follows

option_there : (b : Bool) (o : Option InodeRecord) → is_some (cond b (option_map hintless_record o) o) ≡ is_some o
option_there true None = refl
option_there true (Some r) = refl
option_there false o = refl

nothing_below : (o : Option (List ℕ)) → block_or o None ≡ o
nothing_below None = refl
nothing_below (Some block) = refl

pvbn_of : Option InodeRecord → ℕ
pvbn_of None = 0
pvbn_of (Some r) = r.root.pvbn

-- a root of a record is unknown, where it is hintless
root_unknown : (b : Bool) (o : Option InodeRecord) (r : InodeRecord) → b ≡ true → cond b (option_map hintless_record o) o ≡ Some r → r.root.pvbn ≡ 0
unfolding pvbn_of
root_unknown false o r is there = false_is_true false refl is
root_unknown true None r is there = some_none {X = InodeRecord} None r refl there
root_unknown true (Some was) r is there = ap (λ o. pvbn_of o) (sym there)

module _ (t u : Tree) (is : BlanksRoots t u) where
  -- the root of each file in an inode block that a later flush writes is unknown
  pub roots_unknown : (held : Under) (n : ℕ) (r : InodeRecord) → changed_of u 0 (n / records_each) ≡ true → file_at (standing held u) n ≡ Some r → r.root.pvbn ≡ 0
  roots_unknown held n r now there = root_unknown (changed_of t 0 (n / records_each)) (file_at (standing held t) n) r (sym (is.changed 0 (n / records_each)) ∙ now) (sym (is.files held n) ∙ there)

  -- a record in memory that is used still is
  pub still_used : (i slot : ℕ) → is_some (used_record (get_or (records_in (cell_in u i)) slot free_record)) ≡ is_some (used_record (get_or (records_in (cell_in t i)) slot free_record))
  still_used i slot =
      let was = maps.get nat_cmp t.cells i in
      let now = maps.get nat_cmp u.cells i in
      ap (λ o. is_some (used_record (get_or (records_in o) slot free_record))) (sym (nothing_below (content now)))
      ∙ ap (λ rs. is_some (used_record (get_or rs slot free_record))) (kept_records was now None (is.cells.each i))
      ∙ ap is_some (got_if (cell_changed was) (records_in (block_or (content was) None)) slot)
      ∙ option_there (cell_changed was) (used_record (get_or (records_in (block_or (content was) None)) slot free_record))
      ∙ ap (λ o. is_some (used_record (get_or (records_in o) slot free_record))) (nothing_below (content was))
