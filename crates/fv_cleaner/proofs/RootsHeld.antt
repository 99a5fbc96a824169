-- A volume whose root pointers got their places is held, and stands for the volume that it stood for.
use Rattle.std.proofs.Common.{◌≡◌, ◌≢◌, ◌≤◌, ◌+◌, ◌==◌, ℕ, Bool, true, false, true≢false, not, ◌&&◌, ◌||◌, cond, List, [], ◌∷◌, ◌++◌, map, get_or, Option, Some, None, inl, inr, refl, sym, ap, ap₂, subst, ◌∙◌, arith}
use Rattle.std.specs.Prelude.{All, find, is_some, nat_le, nat_lt, if◌then◌else◌}
use Rattle.std.specs.List.{list_all, list_any}
use Rattle.std.specs.FinMap as fin
use Rattle.std.specs.FinSet as set
use Rattle.std.proofs.lemmas.Bool.Decides.{nat_tests}
use Rattle.std.proofs.lemmas.Option.{same_Some}
use Rattle.std.proofs.lemmas.List.Elements.{All-cons, All-head, All-nil, All-tail}
use Rattle.fv_disk.specs.Shown.{Shown as Disk}
use Rattle.fv_codec.specs.declared.pointer.Pointer.{Pointer}
use Rattle.fv_codec.specs.Blocks.{IsPointer, greatest_word, last_place}
use Rattle.fv_codec.specs.Fields.{up_to}
use Rattle.fv_charge.specs.Ledgers.{IsLedgerOf}
use Rattle.fv_laws.proofs.Lists.{In, from_map}
use Rattle.fv_image.specs.ReachRules.{are_distinct}
use Rattle.fv_model.specs.Space.{base_ids}
use Rattle.fv_model.specs.Spelling.{name_cmp}
use Rattle.fv_model.specs.Tables.{Table}
use Rattle.fv_model.specs.Volumes.{Volume}
use Rattle.fv_image.specs.HintRules.{is_unknown}
use Rattle.fv_image.specs.Mapped.{is_rising}
use Rattle.fv_image.specs.Views.{Placed, Snap as HeadSnap}
use Rattle.fv_image.specs.Volumes.{snap_at as head_snap}
use Rattle.fv_tables.specs.Alike.{hintless}
use Rattle.fv_tables.specs.Reached.{is_listed, items}
use Rattle.fv_tables.specs.Spelled.{Under, pointer_at, stored}
use Rattle.fv_tables.specs.Told.{standing_at}
use Rattle.fv_tables.proofs.Items.{listed_inode}
use Rattle.fv_places.proofs.Descents.{root_at}
use Rattle.fv_tree.specs.Sources.{Use}
use Rattle.fv_files.specs.Numbering.{AreNumbersIf}
use Rattle.fv_volmap.specs.Slots.{Slot, has, slot_at, slot_of_base}
use Rattle.fv_pool.specs.declared.pool.Pool.{Pool}
use Rattle.fv_pool.specs.declared.rooted.Rooted.{Rooted}
use Rattle.fv_pool.specs.BlocksOver.{held_block, held_entry}
use Rattle.fv_pool.specs.Lending.{use_of}
use Rattle.fv_volume.specs.declared.state.Base.{Base}
use Rattle.fv_volume.specs.declared.state.Snap.{Snap}
use Rattle.fv_volume.specs.declared.state.VolumeState.{VolumeState}
use Rattle.fv_volume.specs.Files.{IsLabelled}
use Rattle.fv_volume.specs.Held.{IsHeldIn}
use Rattle.fv_volume.specs.Labels.{label_said}
use Rattle.fv_volume.specs.OneVolume.{base_table, base_told_by, blocks_in, snap_by, tables_of, table_for, uses_in, volume_as, volume_for, IsKeptTable, IsStanding, IsTableIn, RootStands}
use Rattle.fv_volume.specs.Placements.{put_at, rooted_at, snap_at, with_places}
use Rattle.fv_volume.specs.Sharing.{pointer_in, trees_kept}
use Rattle.fv_volume.specs.SnapRecords.{AreSayable, IsSayableSnap}
use Rattle.fv_volume.specs.States.{head_in, snap_in, snaps_in}
use Rattle.fv_volume.proofs.ActiveRoot.{root_leads, root_standing, root_table, root_well}
use Rattle.fv_volume.proofs.ActiveStands.{active_stands}
use Rattle.fv_volume.proofs.AllRoots.{are_shared, each_shares, roots, EachShares}
use Rattle.fv_volume.proofs.EachRoot.{all_in}
use Rattle.fv_volume.proofs.SharedRoots.{stored_same}
use Rattle.fv_volume.proofs.SnapRecords.{all_said}
use Rattle.fv_volume.proofs.TablesOf.{base_all, snaps_all}
use Rattle.fv_cleaner.specs.Searching.{Lies, holds_unknown, lies_in}
use Rattle.fv_cleaner.specs.Stepping.{FillsRoots, IsPlaceOf, IsRootClear, root_of_snap, roots_of}
use Rattle.fv_cleaner.proofs.Held.{lying_block, lying_use, shares_hintless}
use Rattle.fv_cleaner.proofs.Rerooted.{rooted_again, with_pointer, LiesUnder, RootedAgain}

-- ---- the snapshots, but for places

names_same : (places : List ℕ) (ss : List Snap) → map (λ (q : Snap). q.name) (map (snap_at places) ss) ≡ map (λ (q : Snap). q.name) ss
names_same places [] = refl
names_same places (s ∷ ss) = ap (λ (rest : List (List ℕ)). s.name ∷ rest) (names_same places ss)

slots_same : (places : List ℕ) (ss : List Snap) → map (λ (p : HeadSnap). p.slot) (snaps_in (map (snap_at places) ss)) ≡ map (λ (p : HeadSnap). p.slot) (snaps_in ss)
slots_same places [] = refl
slots_same places (s ∷ ss) = ap (λ (rest : List ℕ). s.slot ∷ rest) (slots_same places ss)

all_same : (test : ℕ → Bool) (places : List ℕ) (ss : List Snap) → list_all (λ (p : HeadSnap). test p.slot) (snaps_in (map (snap_at places) ss)) ≡ list_all (λ (p : HeadSnap). test p.slot) (snaps_in ss)
all_same test places [] = refl
all_same test places (s ∷ ss) = ap (λ (b : Bool). test s.slot && b) (all_same test places ss)

any_same : (test : ℕ → Bool) (places : List ℕ) (ss : List Snap) → list_any (λ (p : HeadSnap). test p.slot) (snaps_in (map (snap_at places) ss)) ≡ list_any (λ (p : HeadSnap). test p.slot) (snaps_in ss)
any_same test places [] = refl
any_same test places (s ∷ ss) = ap (λ (b : Bool). test s.slot || b) (any_same test places ss)

found_same : (k : ℕ) (places : List ℕ) (ss : List Snap) → is_some (find (λ (p : HeadSnap). p.slot == k) (snaps_in (map (snap_at places) ss))) ≡ is_some (find (λ (p : HeadSnap). p.slot == k) (snaps_in ss))
found_same k places [] = refl
found_same k places (s ∷ ss) = by (s.slot == k) (found_same k places ss)
  where
    by : (b : Bool) → is_some (find (λ (p : HeadSnap). p.slot == k) (snaps_in (map (snap_at places) ss))) ≡ is_some (find (λ (p : HeadSnap). p.slot == k) (snaps_in ss))
        → is_some (if b then Some (snap_in (snap_at places s)) else find (λ (p : HeadSnap). p.slot == k) (snaps_in (map (snap_at places) ss))) ≡ is_some (if b then Some (snap_in s) else find (λ (p : HeadSnap). p.slot == k) (snaps_in ss))
    by true rest = refl
    by false rest = rest

-- a pointer that gets a place in its range has its ranges
pointer_fits : (told : Type 0) (at : Lies) (p : Pointer) (place : ℕ) → IsPlaceOf told at p place → IsPointer p → IsPointer (put_at place p)
pointer_fits told at p place is fits = by (place == 0) refl
  where
    by : (b : Bool) → (place == 0) ≡ b → IsPointer (if b then p else record { vvbn = p.vvbn; pvbn = place; stamp = p.stamp })
    by true e = fits
    by false e = record { vvbn = fits.vvbn; pvbn = last (p.stamp == 0) refl; stamp = fits.stamp }
      where
        known : is_unknown p ≡ false → ⊥
        known isnt = let none = is.known isnt in let zero_is : (place == 0) ≡ true = grind (arith, nat_tests, none) in true≢false (sym zero_is ∙ e)

        last : (b : Bool) → (p.stamp == 0) ≡ b → place ≤ up_to (not b) last_place
        last true stamp = absurd (known (λ i. not (stamp i) && (p.pvbn == 0)))
        last false stamp = is.range

sayable : (told : Type 0) (at : Lies) (places : List ℕ) (ss : List Snap) → All (λ (q : Snap). IsPlaceOf told at q.table.root (get_or places q.slot 0)) ss → All IsSayableSnap (snaps_in ss) → All IsSayableSnap (snaps_in (map (snap_at places) ss))
sayable told at places [] are all = All-nil IsSayableSnap
sayable told at places (s ∷ ss) are all =
    let one = All-head IsSayableSnap (snap_in s) (snaps_in ss) all in
    All-cons IsSayableSnap (snap_in (snap_at places s)) (snaps_in (map (snap_at places) ss))
    (record { name = one.name; levels = one.levels; root = pointer_fits told at s.table.root (get_or places s.slot 0) (All-head (λ (q : Snap). IsPlaceOf told at q.table.root (get_or places q.slot 0)) s ss are) one.root })
    (sayable told at places ss (All-tail (λ (q : Snap). IsPlaceOf told at q.table.root (get_or places q.slot 0)) s ss are) (All-tail IsSayableSnap (snap_in s) (snaps_in ss) all))

module _ (told : Type 0) (at : Lies) (x y : VolumeState) (s : ℕ) (fills : FillsRoots told at x y) (is : IsLabelled s x) where
  abbrev places : List ℕ
  places = fills.places

  abbrev z : VolumeState
  z = with_places x places

  sayable_now : AreSayable (head_in z)
  sayable_now = record {
    slots = record {
      within = all_same (λ (n : ℕ). nat_le 1 n && nat_lt n 25) places x.snapshots ∙ is.snapshots.slots.within;
      rising = ap is_rising (slots_same places x.snapshots) ∙ is.snapshots.slots.rising;
    };
    each = sayable told at places x.snapshots fills.are.snapshots is.snapshots.each;
  }

  pub labelled_now : IsLabelled s z
  unfolding label_said head_snap
  labelled_now = record {
    slot_is = is.slot_is;
    form = is.form;
    span = is.span;
    map = is.map;
    snapshots = sayable_now;
    slots = record { each = λ k above other. is.slots.each k above other ∙ sym (found_same k places x.snapshots); base = is.slots.base };
    waits = λ k fresh. any_same (λ (n : ℕ). n == k) places x.snapshots ∙ is.waits k fresh;
    counts = is.counts;
    levels = is.levels;
    named = is.named;
    label = λ container height place low high. let l = is.label container height place low high in record {
      name_least = l.name_least;
      name_greatest = l.name_greatest;
      name = l.name;
      kind = l.kind;
      size_least = l.size_least;
      size_greatest = l.size_greatest;
      most_least = l.most_least;
      most_greatest = l.most_greatest;
      span_least = l.span_least;
      span_greatest = l.span_greatest;
      span_step = l.span_step;
      now = l.now;
      parent = l.parent;
      base_least = l.base_least;
      base_greatest = l.base_greatest;
      splitting = l.splitting;
      known = l.known;
      container = l.container;
      height_least = l.height_least;
      height_greatest = l.height_greatest;
      levels = l.levels;
      root = pointer_fits told at x.active.root (get_or places 0 0) fills.are.active l.root;
      snapshots = all_said (head_in z) sayable_now;
    };
  }

-- ---- the volume

-- a slot has the VVBN of the root of its table
root_had : (blocks : Under) (uses : ℕ → Option Use) (slot : Slot) (count : ℕ) (root : Rooted) → IsTableIn false blocks uses slot count root → is_unknown root.root ≡ true → has root.root.vvbn slot ≡ true
root_had blocks uses slot count root lies unknown =
    let top : pointer_at (stored blocks greatest_word root.levels root.root) root.levels 0 ≡ root.root = root_at (stored blocks greatest_word root.levels root.root) in
    lies.reach root.root.vvbn
    ∙ subst (λ (p : Pointer). is_listed (items (standing_at blocks root.levels root.root)) p.vvbn ≡ true) top
    (listed_inode (standing_at blocks root.levels root.root) root.levels 0 (λ none. some (sym (ap (λ (p : Pointer). p.stamp) top) ∙ none)))
  where
    some : root.root.stamp ≢ 0
    some none = let test : (root.root.stamp == 0) ≡ true = grind (arith, nat_tests, none) in true≢false (sym unknown ∙ (λ i. not (test i) && (root.root.pvbn == 0)))

all_more : (P : Snap → Type 0) (o : Option Base) (ss : List Snap) → All P (base_table o) → All P ss → All P (base_table o ++ ss)
all_more P None ss base all = all
all_more P (Some b) ss base all = All-cons P (record { slot = slot_of_base; name = b.snapshot; table = b.table }) ss (All-head P (record { slot = slot_of_base; name = b.snapshot; table = b.table }) [] base) all

all_both : (P Q R : Snap → Type 0) → ((q : Snap) → P q → Q q → R q) → (ss : List Snap) → All P ss → All Q ss → All R ss
all_both P Q R each [] ps qs = All-nil R
all_both P Q R each (s ∷ ss) ps qs = All-cons R s ss (each s (All-head P s ss ps) (All-head Q s ss qs)) (all_both P Q R each ss (All-tail P s ss ps) (All-tail Q s ss qs))

all_of_map : (P : Pointer → Type 0) (ss : List Snap) → All P (map root_of_snap ss) → All (λ (q : Snap). P q.table.root) ss
all_of_map P [] all = All-nil (λ (q : Snap). P q.table.root)
all_of_map P (s ∷ ss) all = All-cons (λ (q : Snap). P q.table.root) s ss (All-head P s.table.root (map root_of_snap ss) all) (all_of_map P ss (All-tail P s.table.root (map root_of_snap ss) all))

all_placed : (to : List ℕ) (P : Snap → Type 0) (ss : List Snap) → All (λ (q : Snap). P (snap_at to q)) ss → All P (map (snap_at to) ss)
all_placed to P [] all = All-nil P
all_placed to P (s ∷ ss) all = All-cons P (snap_at to s) (map (snap_at to) ss) (All-head (λ (q : Snap). P (snap_at to q)) s ss all) (all_placed to P ss (All-tail (λ (q : Snap). P (snap_at to q)) s ss all))

module _ (disk : Disk) (pool : Pool) (slot : ℕ) (x y : VolumeState) (held : IsHeldIn disk pool slot x) (files : x.files ≡ None) (unclean : x.known ≡ false) (T : Type 0) (told : T)
    (fills : FillsRoots T (lies_in x.map pool x.slot disk.reads) x y) (clear : All (IsRootClear (lies_in x.map pool x.slot disk.reads)) (roots_of x)) where
  stands : IsStanding disk pool x
  stands = held.stands

  abbrev at : Lies
  at = lies_in x.map pool x.slot disk.reads

  abbrev to : List ℕ
  to = fills.places

  abbrev w : VolumeState
  w = with_places x to

  -- a table with its root at its place
  again : (k : ℕ) (root : Rooted) (place : ℕ) → RootStands disk pool x k root → IsRootClear at root.root → IsPlaceOf T at root.root place
      → RootedAgain (blocks_in disk pool x k) (uses_in pool x k) (slot_at x.map k) x.now root (rooted_at place root)
  again k root place is clear_root placed = by (is_unknown root.root) refl
    where
      lies : IsTableIn false (blocks_in disk pool x k) (uses_in pool x k) (slot_at x.map k) x.now root
      lies = subst (λ (b : Bool). IsTableIn b (blocks_in disk pool x k) (uses_in pool x k) (slot_at x.map k) x.now root) unclean is

      stays : rooted_at place root ≡ root → RootedAgain (blocks_in disk pool x k) (uses_in pool x k) (slot_at x.map k) x.now root (rooted_at place root)
      stays same = subst (RootedAgain (blocks_in disk pool x k) (uses_in pool x k) (slot_at x.map k) x.now root) (sym same) (record { lies = lies; told = refl; pointers = λ o level place. refl })

      by : (b : Bool) → is_unknown root.root ≡ b → RootedAgain (blocks_in disk pool x k) (uses_in pool x k) (slot_at x.map k) x.now root (rooted_at place root)
      by false known = stays (λ i. rooted_at (placed.known known i) root)
      by true unknown = subst (RootedAgain (blocks_in disk pool x k) (uses_in pool x k) (slot_at x.map k) x.now root) (sym fresh) (rooted_again (blocks_in disk pool x k) (uses_in pool x k) (slot_at x.map k) x.now root lies found.0 under)
        where
          found : (q : Placed) × ((at root.root.vvbn ≡ Some q) × (place ≡ q.pvbn))
          found = placed.lies told unknown

          fresh : rooted_at place root ≡ with_pointer root (record { vvbn = root.root.vvbn; pvbn = found.0.pvbn; stamp = root.root.stamp })
          fresh =
              let some = placed.some unknown in
              let test : (place == 0) ≡ false = grind (arith, nat_tests, some) in
              (λ i. record { levels = root.levels; root = if test i then root.root else record { vvbn = root.root.vvbn; pvbn = place; stamp = root.root.stamp } })
              ∙ (λ i. record { levels = root.levels; root = record { vvbn = root.root.vvbn; pvbn = found.1.1 i; stamp = root.root.stamp } })

          had : has root.root.vvbn (slot_at x.map k) ≡ true
          had = root_had (blocks_in disk pool x k) (uses_in pool x k) (slot_at x.map k) x.now root lies unknown

          under : LiesUnder (blocks_in disk pool x k) (uses_in pool x k) root.root found.0
          under = record {
            there = ap (λ (b : Bool). cond b (held_block x.map pool x.slot disk.reads root.root.vvbn) None) had ∙ lying_block pool.kept disk.reads (held_entry x.map pool.containers x.slot root.root.vvbn) found.0 found.1.0;
            used = ap (λ (b : Bool). cond b (Some (use_of (held_entry x.map pool.containers x.slot root.root.vvbn))) None) had ∙ ap (λ (u : Use). Some u) (lying_use pool.kept disk.reads (held_entry x.map pool.containers x.slot root.root.vvbn) found.0 found.1.0);
            none = (let c = clear_root unknown in ap holds_unknown (same_Some found.0 c.block (sym found.1.0 ∙ c.there)) ∙ c.none);
          }

  root_stands : (k : ℕ) (root fresh : Rooted) → RootedAgain (blocks_in disk pool x k) (uses_in pool x k) (slot_at x.map k) x.now root fresh → RootStands disk pool w k fresh
  root_stands k root fresh is = subst (λ (b : Bool). IsTableIn b (blocks_in disk pool x k) (uses_in pool x k) (slot_at x.map k) x.now fresh) (sym unclean) is.lies

  active : RootStands disk pool x 0 x.active
  active = active_stands disk pool x stands files held.led held.well

  active_again : RootedAgain (blocks_in disk pool x 0) (uses_in pool x 0) (slot_at x.map 0) x.now x.active (rooted_at (get_or to 0 0) x.active)
  active_again = again 0 x.active (get_or to 0 0) active (All-head (IsRootClear at) x.active.root (map root_of_snap x.snapshots) clear) fills.are.active

  active_now : RootStands disk pool w 0 w.active
  active_now = root_stands 0 x.active w.active active_again

  -- that of a snapshot
  abbrev SnapAgain : Snap → Type 0
  SnapAgain q = (q.slot ≢ 0) × RootedAgain (blocks_in disk pool x q.slot) (uses_in pool x q.slot) (slot_at x.map q.slot) x.now q.table (rooted_at (get_or to q.slot 0) q.table)

  snaps_again : All SnapAgain x.snapshots
  snaps_again = all_both (IsKeptTable disk pool x) (λ (q : Snap). IsRootClear at q.table.root × IsPlaceOf T at q.table.root (get_or to q.slot 0)) SnapAgain
      (λ q kept more. (kept.0, again q.slot q.table (get_or to q.slot 0) kept.1 more.0 more.1)) x.snapshots (snaps_all (IsKeptTable disk pool x) x stands.kept)
      (all_both (λ (q : Snap). IsRootClear at q.table.root) (λ (q : Snap). IsPlaceOf T at q.table.root (get_or to q.slot 0)) (λ (q : Snap). IsRootClear at q.table.root × IsPlaceOf T at q.table.root (get_or to q.slot 0))
      (λ q c is. (c, is)) x.snapshots (all_of_map (IsRootClear at) x.snapshots (All-tail (IsRootClear at) x.active.root (map root_of_snap x.snapshots) clear)) fills.are.snapshots)

  kept_now : All (IsKeptTable disk pool w) (tables_of w)
  kept_now = all_more (IsKeptTable disk pool w) x.base (map (snap_at to) x.snapshots) (base_all (IsKeptTable disk pool x) x stands.kept)
      (all_placed to (IsKeptTable disk pool w) x.snapshots (all_both SnapAgain SnapAgain (λ (q : Snap). IsKeptTable disk pool w (snap_at to q)) (λ q is same. (is.0, root_stands q.slot q.table (rooted_at (get_or to q.slot 0) q.table) is.1)) x.snapshots snaps_again snaps_again))

  -- ---- what its tables share

  record WasOne (q : Snap) : Type 0 where
    root : Snap
    one : In root (roots x)
    pointers : (o : Option ℕ) (level place : ℕ) → hintless (pointer_in (trees_kept (blocks_in disk pool w) q o) level place) ≡ hintless (pointer_in (trees_kept (blocks_in disk pool x) root o) level place)

  of_snaps : (q : Snap) → In q (map (snap_at to) x.snapshots) → ((s : Snap) → In s x.snapshots → In s (roots x)) → WasOne q
  of_snaps q there among =
      let s = from_map (snap_at to) q x.snapshots there in
      subst WasOne s.2 (record { root = s.0; one = among s.0 s.1; pointers = (all_in SnapAgain x.snapshots snaps_again s.0 s.1).1.pointers })

  was_one : (q : Snap) → In q (roots w) → WasOne q
  was_one q (inl e) = subst WasOne e (record { root = record { slot = 0; name = []; table = x.active }; one = inl refl; pointers = active_again.pointers })
  was_one q (inr later) = by x.base (λ s one. inr one) later
    where
      by : (o : Option Base) → ((s : Snap) → In s (base_table o ++ x.snapshots) → In s (roots x)) → In q (base_table o ++ map (snap_at to) x.snapshots) → WasOne q
      by None among there = of_snaps q there among
      by (Some b) among (inl e) = subst WasOne e (record { root = record { slot = slot_of_base; name = b.snapshot; table = b.table }; one = among _ (inl refl); pointers = λ o level place. refl })
      by (Some b) among (inr there) = of_snaps q there (λ s one. among s (inr one))

  each_now : EachShares disk pool w (roots w)
  each_now q r first second =
      let a = was_one q first in
      let b = was_one r second in
      shares_hintless (trees_kept (blocks_in disk pool x) a.root) (trees_kept (blocks_in disk pool x) b.root) (trees_kept (blocks_in disk pool w) q) (trees_kept (blocks_in disk pool w) r) a.pointers b.pointers
      (stored_same (blocks_in disk pool x a.root.slot) a.root.table.levels a.root.table.root) (stored_same (blocks_in disk pool x b.root.slot) b.root.table.levels b.root.table.root)
      (stored_same (blocks_in disk pool w q.slot) q.table.levels q.table.root) (stored_same (blocks_in disk pool w r.slot) r.table.levels r.table.root)
      (each_shares disk pool x files active stands.shared a.root b.root a.one b.one)

  -- ---- what it stands for

  table_same : table_for disk pool w ≡ table_for disk pool x
  table_same = root_table disk pool w active_now files ∙ active_again.told ∙ sym (root_table disk pool x active files)

  snaps_same : (ss : List Snap) → All SnapAgain ss → map (snap_by (blocks_in disk pool w)) (map (snap_at to) ss) ≡ map (snap_by (blocks_in disk pool x)) ss
  snaps_same [] all = refl
  snaps_same (q ∷ qs) all = ap₂ (λ (t : Table) (rest : List (List ℕ × Table)). (q.name, t) ∷ rest) (All-head SnapAgain q qs all).1.told (snaps_same qs (All-tail SnapAgain q qs all))

  volume_same : volume_for disk pool w ≡ volume_for disk pool x
  volume_same = λ i. volume_as x (record {
    active = table_same i;
    snapshots = fin.from_entries {R = name_cmp} (snaps_same x.snapshots snaps_again i);
    base = base_told_by (blocks_in disk pool x) x.base;
  })

  stands_now : IsStanding disk pool w
  stands_now = root_standing disk pool w active_now files stands.told kept_now (ap are_distinct (names_same to x.snapshots) ∙ stands.names)
      (are_shared disk pool w files active_now each_now)
      (subst (λ (v : Volume). IsLedgerOf v x.ledger) (sym volume_same) stands.ledger)
      (subst (λ (t : Table). AreNumbersIf x.numbers t) (sym table_same) stands.numbers)

  held_now : IsHeldIn disk pool slot w
  held_now = record {
    slot = held.slot;
    ready = record {
      lent = held.ready.lent;
      labelled = labelled_now T at x y x.slot fills held.ready.labelled;
      booked = record { size = held.ready.booked.size; kind = held.ready.booked.kind; span = held.ready.booked.span; need = held.ready.booked.need; charge = held.ready.booked.charge };
      blocks = held.ready.blocks;
      changed = λ e. absurd (true≢false e);
      fresh = λ e. absurd (true≢false e);
    };
    stands = stands_now;
    led = root_leads disk pool w active_now files;
    well = root_well disk pool w active_now files;
    wide = subst (λ (v : Volume). v.most + (set.len (base_ids v.base) + 256) ≤ v.span) (sym volume_same) held.wide;
    within = held.within;
  }

  -- So it is held, and stands for the volume that it stood for.
  pub roots_held : IsHeldIn disk pool slot y
  roots_held = subst (IsHeldIn disk pool slot) (sym fills.state) held_now

  pub roots_volume : volume_for disk pool y ≡ volume_for disk pool x
  roots_volume = ap (volume_for disk pool) fills.state ∙ volume_same
