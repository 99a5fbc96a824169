-- A container that was flushed.
use Rattle.std.proofs.Common.{◌≡◌, ◌≢◌, ℕ, ◌+◌, ◌*◌, ◌<◌, ◌≤◌, Bool, true, false, List, length, get_or, replicate, refl, sym, ap, subst, ◌∙◌, arith, ⊎_elim, Option, None}
use Rattle.std.specs.Prelude.{IfSome}
use Rattle.std.specs.Option.{is_some}
use Rattle.std.specs.Global.{Box}
use Rattle.std.proofs.lemmas.Bool.{cases_lt, true≢false}
use Rattle.std.proofs.lemmas.List.{get_or-replicate, get_or_past, get_or_read, length-replicate}
use Rattle.fv_disk.specs.Shown.{Image}
use Rattle.fv_codec.specs.declared.container.ContainerLeaf.{ContainerLeaf}
use Rattle.fv_codec.specs.Blocks.{last_place}
use Rattle.fv_image.specs.Containers.{height_of, level_width}
use Rattle.fv_container.specs.declared.entry.Entry.{Entry}
use Rattle.fv_container.specs.Kept.{IsKept, map_of, paged_of}
use Rattle.fv_container.specs.Mapped.{node_count}
use Rattle.fv_container.specs.Freeing.{Room}
use Rattle.fv_container.specs.Paged.{IsLeafFor, IsSureOf, Leaves, Paged, is_as_said, leaf_here}
use Rattle.fv_container.specs.Written.{AreWritten, IsSameBelow, blocks_needed, is_there, may_move, passed_before, root_number}
use Rattle.fv_container.specs.Clean.{IsCleanOn, IsOver}
use Rattle.fv_container.specs.Flushed.{AreRows, HasDropped, IsApart, IsFlushed, IsMoved, is_kept}
use Rattle.fv_container.specs.Storing.{AreSaid, HasMoved, HasStored}
use Rattle.fv_container.proofs.Entries.{entry_held}
use Rattle.fv_container.proofs.Flushed.{absent_holes, there_above, tree_flushed}
use Rattle.fv_container.proofs.Laws.{moves_needed}
use Rattle.fv_container.proofs.Loaded.{here_at}
use Rattle.fv_container.proofs.Tests.{none_said, told_again, told_at}

no_leaf : (n k : ℕ) → leaf_here (replicate n None) k ≡ None
no_leaf n k = ⊎_elim
    (λ (lt : k < n). get_or-replicate n k None None lt)
    (λ (past : n ≤ k). get_or_past (replicate n None) k None (omega (arith, past, length-replicate {A = Option (Box ContainerLeaf)} n None)))
    (cases_lt k n)

module _ (es : List (Option Entry)) (tree : List ℕ) (dirty : List Bool) (leaves : Leaves) (known sure used : List Bool) (next fresh : List ℕ) (count : ℕ) (was : IsKept (paged_of es tree dirty leaves known sure) count leaves used next fresh) where
  abbrev paged : Paged
  paged = paged_of es tree dirty leaves known sure

  -- ---- before

  pub rows_of : AreRows leaves count tree dirty next fresh
  rows_of = record {
    few = subst (λ (n : ℕ). n ≤ 16777216) (sym was.size) was.mapped.few;
    long = was.long;
    well = was.well;
    tree = was.mapped.tree ∙ ap node_count (sym was.size);
    dirty = was.mapped.dirty ∙ ap node_count (sym was.size);
    places = was.mapped.places;
    nodes = was.room;
    fresh = was.anew;
  }

  said_sure : (k : ℕ) → get_or sure k false ≡ true → is_as_said es k (leaf_here leaves k) ≡ true
  said_sure k is = (told_at es k (get_or sure k false) (leaf_here leaves k) used is (was.told k)).0

  -- the blocks that may be needed by what the map says are enough
  pub enough : (room : ℕ) → blocks_needed paged ≤ room → passed_before (may_move leaves dirty count) (node_count count) ≤ room
  enough room needed = subst (λ (n : ℕ). passed_before (may_move leaves dirty n) (node_count n) ≤ room) (sym was.size) (omega (arith, moves_needed paged leaves was.well said_sure, needed))

  -- each leaf in memory is as the map says, where the container is clean on the disk
  pub said_clean : (i : Image) → IsCleanOn i paged → AreSaid es leaves dirty
  said_clean i clean k marked = ⊎_elim
      (λ (inside : k < length leaves). said_sure k (clean.here k (here_at leaves k ∙ was.held k inside marked)))
      (λ (past : length leaves ≤ k). subst (λ (b : Option (Box ContainerLeaf)). is_as_said es k b ≡ true) (sym (get_or_past leaves k None past)) (none_said es k))
      (cases_lt k (length leaves))

  -- ---- afterwards

  module _ (room : Room) (before after : Image) (now : List ℕ) (marks : List Bool) (long : length now ≡ node_count count) (stored : HasStored room leaves count tree dirty before now after) (apart : IsApart room tree) (clean : IsCleanOn before paged) where
    size : length es ≡ count
    size = sym was.size

    written : AreWritten es now (length now) after
    written = stored.written es size (said_clean before clean) apart clean.over

    there : (m : ℕ) → m < length now → is_there leaves tree dirty (length es) m ≡ true → get_or now m 0 ≢ 0
    there m lt is = stored.there m lt (ap (λ (n : ℕ). is_there leaves tree dirty n m) (sym size) ∙ is)

    held_here : (k : ℕ) → k < level_width (length es) 0 → get_or dirty k true ≡ true → is_some (leaf_here leaves k) ≡ true
    held_here k low marked = was.held k (let wide = was.long ∙ ap (λ (n : ℕ). level_width n 0) (sym size) in omega (arith, low, wide)) marked

    long_es : length now ≡ node_count (length es)
    long_es = long ∙ ap node_count (sym size)

    holes : (k c : ℕ) → k < level_width (length es) 0 → get_or now k 0 ≡ 0 → c < 256 → get_or es (256 * k + c) None ≡ None
    holes k c low none lt = absent_holes leaves es tree dirty before was.well (λ v. entry_held es v was.mapped.entries) held_here (said_clean before clean) clean.over now there long_es k c low none lt

    pub flushed_root : IsFlushed after (get_or now (root_number (length es)) 0) (height_of (length es)) (map_of es now marks)
    flushed_root = tree_flushed es was.mapped.few after now marks long_es written
        (λ m lt past is. there m lt (there_above leaves tree dirty (length es) m past ∙ is))
        (λ m lt past is. stored.absent m lt (ap (λ (n : ℕ). is_there leaves tree dirty n m) (sym size) ∙ there_above leaves tree dirty (length es) m past ∙ is))
        holes

    pub over_now : IsOver after (map_of es now marks)
    over_now = record {
      stored = es;
      long = refl;
      written = written;
      same = λ v un. refl;
      absent = λ k c un none lt. ⊎_elim
          (λ (low : k < level_width (length es) 0). holes k c low none lt)
          (λ (high : level_width (length es) 0 ≤ k). get_or_past es (256 * k + c) None (omega (arith, high)))
          (cases_lt k (level_width (length es) 0));
    }

    pub clean_now : (n : ℕ) → IsCleanOn after (paged_of es now marks (replicate n None) known sure)
    clean_now n = record {
      over = over_now;
      here = λ k is. absurd (true≢false (sym is ∙ (here_at (replicate n None) k ∙ ap is_some (no_leaf n k))));
      known = clean.known;
    }

  pub kept_now : (now spare anew : List ℕ) (marks : List Bool) → length now ≡ node_count count → length marks ≡ node_count count → ((m : ℕ) → get_or now m 0 ≤ last_place) → ((m : ℕ) → m < length marks → get_or marks m true ≡ false) → length spare ≡ node_count count → length anew ≡ node_count count
      → IsKept (paged_of es now marks (replicate (length leaves) None) known sure) count (replicate (length leaves) None) used spare anew
  kept_now now spare anew marks long marked bounded unmarked room_long anew_long = record {
    mapped = record {
      few = was.mapped.few;
      entries = was.mapped.entries;
      tree = long ∙ ap node_count was.size;
      dirty = marked ∙ ap node_count was.size;
      places = λ m un. bounded m;
    };
    size = was.size;
    room = room_long;
    anew = anew_long;
    long = length-replicate {A = Option (Box ContainerLeaf)} (length leaves) None ∙ was.long;
    known = was.known;
    sure = was.sure;
    bits = was.bits;
    well = λ k. subst (λ (b : Option (Box ContainerLeaf)). IfSome b (λ x. IsLeafFor k x.value)) (sym (no_leaf (length leaves) k)) tt;
    learned = λ k is. absurd (true≢false (sym is ∙ ap is_some (no_leaf (length leaves) k)));
    held = λ k lt is. absurd (true≢false (sym is ∙ unmarked k (let wide = length-replicate {A = Option (Box ContainerLeaf)} (length leaves) None in omega (arith, lt, wide, was.long, marked))));
    told = λ k. subst (λ (b : Option (Box ContainerLeaf)). IsSureOf es k (get_or sure k false) b used) (sym (no_leaf (length leaves) k)) (told_again es es k (get_or sure k false) (leaf_here leaves k) None used used (λ said. none_said es k) (λ right. right) (was.told k));
  }

  pub moved_now : (old new : Room) (now : List ℕ) (marks : List Bool) → HasMoved old leaves count tree dirty now new → IsMoved old paged (map_of es now marks) new
  moved_now old new now marks moved = record {
    once = moved.once es;
    map = moved.exchanges es;
    count = omega (arith, moved.count, enough (blocks_needed paged) (omega arith));
    stays = λ m kept some clean below. moved.stays m (ap (λ (n : ℕ). is_kept n m) was.size ∙ kept) some clean (subst (λ (n : ℕ). IsSameBelow n tree now m) (sym was.size) below);
    leaves = λ m low clean. moved.clean m (subst (λ (n : ℕ). m < level_width n 0) (sym was.size) low) clean;
  }

  pub dropped_now : (now : List ℕ) (marks : List Bool) (n : ℕ) → HasDropped paged (paged_of es now marks (replicate n None) known sure)
  dropped_now now marks n = record { entries = refl; here = λ k. here_at (replicate n None) k ∙ ap is_some (no_leaf n k); known = refl; sure = refl }

-- ---- as `flush` says it, of rows that were lent and taken back

module _ (was_now : Paged) (es : List (Option Entry)) (tree lent_tree : List ℕ) (dirty lent_dirty : List Bool) (leaves lent : Leaves) (known sure used : List Bool) (next fresh : List ℕ) (count : ℕ)
    (view : paged_of es tree dirty leaves known sure ≡ was_now) (was : IsKept (paged_of es tree dirty leaves known sure) count leaves used next fresh)
    (lent_is : lent ≡ leaves) (tree_is : lent_tree ≡ tree) (dirty_is : lent_dirty ≡ dirty)
  where
    was_lent : IsKept (paged_of es lent_tree lent_dirty lent known sure) count lent used next fresh
    was_lent = rw (lent_is, tree_is, dirty_is) was

    view_lent : paged_of es lent_tree lent_dirty lent known sure ≡ was_now
    view_lent = rw (lent_is, tree_is, dirty_is) view

    pub rows_out : AreRows lent count lent_tree lent_dirty next fresh
    rows_out = rows_of es lent_tree lent_dirty lent known sure used next fresh count was_lent

    pub room_out : (room : ℕ) → blocks_needed was_now ≤ room → passed_before (may_move lent lent_dirty count) (node_count count) ≤ room
    room_out room needed = enough es lent_tree lent_dirty lent known sure used next fresh count was_lent room (subst (λ (p : Paged). blocks_needed p ≤ room) (sym view_lent) needed)

    module _ (room : Room) (before after : Image) (put now : List ℕ) (marks : List Bool) (given : Leaves) (now_is : now ≡ put) (given_is : given ≡ replicate (length lent) None) (long : length put ≡ node_count count) where
      pub flushed_out : (root : ℕ) → HasStored room lent count lent_tree lent_dirty before put after → IsApart room was_now.map.tree → IsCleanOn before was_now → root ≡ get_or put (root_number count) 0
          → IsFlushed after root (height_of (length es)) (map_of es now marks)
      flushed_out root stored apart clean is = rw (now_is, is, was.size)
          (flushed_root es lent_tree lent_dirty lent known sure used next fresh count was_lent room before after put marks long stored
          (subst (λ (p : Paged). IsApart room p.map.tree) (sym view_lent) apart) (subst (IsCleanOn before) (sym view_lent) clean))

      pub over_out : HasStored room lent count lent_tree lent_dirty before put after → IsApart room was_now.map.tree → IsCleanOn before was_now → IsCleanOn after (paged_of es now marks given known sure)
      over_out stored apart clean = rw (now_is, given_is)
          (clean_now es lent_tree lent_dirty lent known sure used next fresh count was_lent room before after put marks long stored
          (subst (λ (p : Paged). IsApart room p.map.tree) (sym view_lent) apart) (subst (IsCleanOn before) (sym view_lent) clean) (length lent))

      pub moved_out : (new : Room) → HasMoved room lent count lent_tree lent_dirty put new → IsMoved room was_now (map_of es now marks) new
      moved_out new moved = subst (λ (p : Paged). IsMoved room p (map_of es now marks) new) view_lent (rw now_is (moved_now es lent_tree lent_dirty lent known sure used next fresh count was_lent room new put marks moved))

      pub kept_out : (spare anew : List ℕ) → length marks ≡ node_count count → ((m : ℕ) → get_or put m 0 ≤ last_place) → ((m : ℕ) → m < length marks → get_or marks m true ≡ false) → length spare ≡ node_count count → length anew ≡ node_count count
          → IsKept (paged_of es now marks given known sure) count given used spare anew
      kept_out spare anew wide bounded unmarked room_long anew_long = rw (now_is, given_is)
          (kept_now es lent_tree lent_dirty lent known sure used next fresh count was_lent put spare anew marks long wide bounded unmarked room_long anew_long)

      pub dropped_out : HasDropped was_now (paged_of es now marks given known sure)
      dropped_out = subst (λ (p : Paged). HasDropped p (paged_of es now marks given known sure)) view_lent
          (rw given_is (dropped_now es lent_tree lent_dirty lent known sure used next fresh count was_lent now marks (length lent)))

-- what was read by the number of the root
pub root_read : (items next : List ℕ) (i number root : ℕ) → items ≡ next → i ≡ number → 1 ≤ get_or next number 0 → root ≡ get_or items i root → root ≡ get_or next number 0
root_read items next i number root is at some read =
    let within : number < length next = ⊎_elim (λ (inside : number < length next). inside) (λ (past : length next ≤ number). let none : get_or next number 0 ≡ 0 = get_or_past next number 0 past in absurd (omega (arith, some, none))) (cases_lt number (length next)) in
    get_or_read next number root within (read ∙ ap (λ (l : List ℕ). get_or l i root) is ∙ ap (λ (n : ℕ). get_or next n root) at) 0
