-- The unknown pointers on the paths to cells: in a session as its image shows them, and what keeps them.
use Rattle.std.proofs.Common.{◌≡◌, ◌+◌, ◌/◌, ◌^◌, ℕ, zero, suc, Bool, true, false, cond, List, Option, Some, None, Ok, Err, Result, refl, sym, ap, ap₂, subst, ◌∙◌, arith}
use Rattle.std.specs.Prelude.{IfOk, IfSome, is_some, not, ◌==◌, ◌&&◌, ◌||◌}
use Rattle.std.specs.Option.{option_map}
use Rattle.std.proofs.lemmas.Option.{same_Some}
use Rattle.fv_disk.specs.Shown.{Image, Shown}
use Rattle.fv_disk.specs.DiskCalls.{OnlyReads}
use Rattle.fv_bits.proofs.Counts.{passing, passing-add, passing-suc}
use Rattle.fv_codec.specs.declared.inode.InodeRecord.{InodeRecord}
use Rattle.fv_codec.specs.declared.pointer.Pointer.{Pointer}
use Rattle.fv_codec.specs.Blocks.{greatest_word}
use Rattle.fv_model.specs.Machines.{Machine}
use Rattle.fv_model.specs.Trees.{fan}
use Rattle.fv_tables.specs.Kept.{AgreeOnTable, AgreeOnTree}
use Rattle.fv_tables.specs.Spelled.{Rooted as Tree, Under, pointer_at, stored}
use Rattle.fv_tables.specs.Told.{file_at, records_each, standing_at}
use Rattle.fv_tables.proofs.Pointers.{same_pointer}
use Rattle.fv_tables.proofs.Tables.{same_record}
use Rattle.fv_image.specs.Chains.{under}
use Rattle.fv_image.specs.Held.{view_at}
use Rattle.fv_image.specs.HintRules.{is_unknown}
use Rattle.fv_image.specs.Places.{path, unknown_in, unknown_to}
use Rattle.fv_image.specs.Views.{View}
use Rattle.fv_root.specs.Finding.{IsFound, root_found}
use Rattle.fv_tree.specs.Beside.{unread}
use Rattle.fv_tree.specs.Lookups.{cost_below, way_cost}
use Rattle.fv_tree.specs.Standing.{under as blocks_of}
use Rattle.fv_inode.specs.declared.info.Info.{Info}
use Rattle.fv_inode.specs.Files.{has_name, IsFirst}
use Rattle.fv_files.specs.Apart.{stored_trees}
use Rattle.fv_files.specs.Calls.{way_in}
use Rattle.fv_files.specs.Tables.{AreReached}
use Rattle.fv_volmap.specs.Slots.{IsVolume}
use Rattle.fv_container.specs.declared.entry.Entry.{Entry}
use Rattle.fv_pool.specs.declared.pool.Pool.{Pool}
use Rattle.fv_pool.specs.BlocksOver.{block_of, held_block, held_entry, LeavesPool}
use Rattle.fv_pool.specs.Keeping.{Blocks}
use Rattle.fv_pool.specs.Tables.{AreSoundBy}
use Rattle.fv_pool.proofs.Shows.{get_held}
use Rattle.fv_volume.specs.declared.state.VolumeState.{VolumeState}
use Rattle.fv_volume.specs.Files.{IsLabelled}
use Rattle.fv_volume.specs.Held.{IsHeldIn}
use Rattle.fv_volume.specs.OneVolume.{shows}
use Rattle.fv_volume.specs.Paths.{if_unknown, unknown_over}
use Rattle.fv_volume.specs.States.{States, head_in, placed_in, state_at, view_over}
use Rattle.fv_volumes.specs.Housed.{as_written, settled_as, AreHoused}
use Rattle.fv_volumes.proofs.Agreed.{held_there}
use Rattle.fv_cp.specs.Choosing.{marked_as}
use Rattle.fv_cp.specs.Lent.{FitTogether}
use Rattle.fv_cp.specs.Placing.{HasNoFiles, HasWholeMap, HaveNoFiles}
use Rattle.fv_cp.specs.Settling.{GoesOnWhole, IsHeldPoint, KeepsBlocks}
use Rattle.fv_cp.proofs.Keeping.{keeps_blocks}
use Rattle.fv_aggregate.specs.declared.fault.OpenFault.{OpenFault}
use Rattle.fv_aggregate.specs.declared.session.Session.{Session}
use Rattle.fv_aggregate.specs.Opening.{AreOpened, IsOpened}
use Rattle.fv_aggregate.specs.PathShown.{active_table, inodes_of, table_of_slot, trees_of, ActiveTable, HasPath, HasPathsOf, KeepsTables, ShowsPath}
use Rattle.fv_aggregate.specs.Reading.{but_numbers, WasRead}
use Rattle.fv_aggregate.specs.Standing.{StandsFor}

-- ---- one tree

module _ (t : Tree) (i : ℕ) where
  abbrev unknown_at : ℕ → Bool
  unknown_at level = is_unknown (pointer_at t level (i / fan ^ level))

  one_cost : (p : Pointer) → cond (false || p.stamp == 0) 0 (if_unknown p) ≡ cond (is_unknown p) 1 0
  one_cost p = by (p.stamp == 0) (p.pvbn == 0)
    where
      by : (hole unknown : Bool) → ◌≡◌ {A = ℕ} (cond (false || hole) 0 (cond unknown 1 0)) (cond (not hole && unknown) 1 0)
      by true unknown = refl
      by false true = refl
      by false false = refl

  one_more : (n : ℕ) → passing unknown_at 0 (suc n) ≡ passing unknown_at 0 n + cond (unknown_at n) 1 0
  one_more n =
      let next : suc n ≡ n + 1 = omega arith in
      let first : 0 + n ≡ n = omega arith in
      let start : passing unknown_at (0 + n) 1 ≡ cond (unknown_at n) 1 0 + passing unknown_at (n + 1) 0 = ap (λ (k : ℕ). passing unknown_at k 1) first ∙ passing-suc unknown_at n 0 in
      let none : passing unknown_at (n + 1) 0 ≡ 0 = refl in
      let whole : passing unknown_at 0 (suc n) ≡ passing unknown_at 0 n + passing unknown_at (0 + n) 1 = ap (passing unknown_at 0) next ∙ passing-add unknown_at 0 n 1 in
      omega (arith, whole, start, none)

  costs_below : (n : ℕ) → cost_below if_unknown (unread t) i n ≡ passing unknown_at 0 n
  unfolding cost_below
  costs_below zero = refl
  costs_below (suc n) =
      let here = one_cost (pointer_at t n (i / fan ^ n)) in
      let below = costs_below n in
      omega (arith, here, below, one_more n)

  -- so many look-ups the way to a cell of a tree costs as unknown pointers lie on it
  pub way_unknown : way_cost if_unknown (unread t) i ≡ unknown_to t i
  way_unknown = costs_below (suc t.levels) ∙ ap (passing unknown_at 0) (let next : suc t.levels ≡ t.levels + 1 = omega arith in next)

-- as many lie on it over other blocks that agree wherever the tree leads
unknown_same : (m n : Under) (owner levels : ℕ) (root : Pointer) → AgreeOnTree (stored m owner levels root) n → (i : ℕ)
    → unknown_to (stored n owner levels root) i ≡ unknown_to (stored m owner levels root) i
unknown_same m n owner levels root agree i =
    λ j. passing (λ level. is_unknown (same_pointer (stored m owner levels root) n agree level (i / fan ^ level) j)) 0 (levels + 1)

-- ---- one table

module _ (m n : Under) (levels : ℕ) (root : Pointer) (agree : AgreeOnTable m n levels root) where
  abbrev inodes : Under → Tree
  inodes u = stored u greatest_word levels root

  same_file : (k : ℕ) → file_at (inodes n) k ≡ file_at (inodes m) k
  same_file = same_record (inodes m) n agree.inode

  -- the path in a table of which nothing is in memory is that over other blocks
  pub path_same : (k i : ℕ) → unknown_over (stored_trees m levels root) k i ≡ path (standing_at n levels root) k i
  unfolding path
  path_same k i =
      let top : way_cost if_unknown (unread (inodes m)) (k / records_each) ≡ unknown_to (inodes n) (k / records_each) =
      way_unknown (inodes m) (k / records_each) ∙ sym (unknown_same m n greatest_word levels root agree.inode (k / records_each)) in
      let rest = by (file_at (inodes m) k) refl ∙ sym (ap (λ (o : Option InodeRecord). unknown_in (standing_at n levels root) k i o) (same_file k)) in
      ap₂ (λ (a b : ℕ). a + b) top rest
    where
      by : (o : Option InodeRecord) → file_at (inodes m) k ≡ o
          → way_in if_unknown (option_map (λ r. unread (stored m k r.levels r.root)) o) i ≡ unknown_in (standing_at n levels root) k i o
      by None at = refl
      by (Some r) at = way_unknown (stored m k r.levels r.root) i ∙ sym (unknown_same m n k r.levels r.root (agree.files k r at) i)

  -- and the first file of a name is the same
  pub first_same : (name : List ℕ) (info : Info) → IsFirst (inodes m) name info → IsFirst (inodes n) name info
  first_same name info is = record {
    file = is.file;
    there = same_file info.number ∙ is.there;
    named = is.named;
    told = is.told;
    first = λ k less. ap (λ (o : Option InodeRecord). has_name o name) (same_file k) ∙ is.first k less;
  }

-- ---- a session on its image

module _ (disk : Shown) (session : Session) (last now : Machine) (stands : StandsFor disk session last now)
    (housed : AreHoused session.pool.containers session.volumes) (whole : (s : ℕ) → HasWholeMap (state_at session.volumes s))
    (none : HaveNoFiles session.volumes) (counts : IsFound disk.reads session.pool.found)
    (alike : view_over session.pool session.volumes disk.reads ≡ view_at (root_found session.pool.found) disk.reads) where
  abbrev pool : Pool
  pool = session.pool

  abbrev states : States
  states = session.volumes

  abbrev w : View
  w = view_at (root_found session.pool.found) disk.reads

  module _ (s : ℕ) (x : VolumeState) (there : state_at states s ≡ Some x) where
    one : IsHeldIn disk pool s x
    one = subst (λ (o : Option VolumeState). IfSome o (IsHeldIn disk pool s)) there (stands.held.each s)

    labelled : IsLabelled s x
    labelled = subst (λ (o : Option VolumeState). IfSome o (IsLabelled s)) there (housed.volumes s)

    abbrev own : Under
    own = blocks_of (shows disk pool x)

    files : x.files ≡ None
    files = subst HasNoFiles there (none s)

    reached : AreReached own (shows disk pool x).used x.active.levels x.active.root
    reached = subst (AreSoundBy own (shows disk pool x).used x.active) files one.stands.trees

    same_there : (v : ℕ) → is_some (own v) ≡ true → under (view_over pool states disk.reads) x.slot v ≡ own v
    same_there = held_there disk pool states housed.parents x (ap (state_at states) one.slot ∙ there)
        (subst (λ (o : Option VolumeState). IfSome o (λ y. IsVolume y.map)) there (whole s)) labelled.map

    in_view : AgreeOnTable own (under (view_over pool states disk.reads) x.slot) x.active.levels x.active.root
    in_view = record {
      inode = λ level place some. same_there (pointer_at (stored own greatest_word x.active.levels x.active.root) level place).vvbn (reached.inode.held level place some);
      files = λ n r found level place some. same_there (pointer_at (stored own n r.levels r.root) level place).vvbn ((reached.files n r found).held level place some);
    }

    agree : AgreeOnTable own (under w s) x.active.levels x.active.root
    agree = subst (λ (u : Under). AgreeOnTable own u x.active.levels x.active.root) (λ j. under (alike j) (one.slot j)) in_view

    head_is : w.head s ≡ Some (head_in x)
    unfolding view_over
    head_is = ap (λ (u : View). u.head s) (sym alike) ∙ ap (option_map head_in) there

    as_shown : own ≡ held_block x.map pool x.slot disk.reads
    as_shown = λ j v. get_held x.map pool x.slot disk.reads v j

    shown_path : (volume file : List ℕ) (index count : ℕ) (info : Info) → x.name ≡ volume → IsFirst (inodes_of (active_table disk.reads pool x)) file info
        → count ≡ unknown_over (trees_of (active_table disk.reads pool x)) info.number index → ShowsPath disk.reads volume file index count
    shown_path volume file index count info named first is =
        let first_own : IsFirst (stored own greatest_word x.active.levels x.active.root) file info =
        subst (λ (u : Under). IsFirst (stored u greatest_word x.active.levels x.active.root) file info) (sym as_shown) first in
        let path_own : count ≡ unknown_over (stored_trees own x.active.levels x.active.root) info.number index =
        subst (λ (u : Under). count ≡ unknown_over (stored_trees u x.active.levels x.active.root) info.number index) (sym as_shown) is in
        record {
          found = session.pool.found;
          counts = counts;
          slot = s;
          head = head_in x;
          there = head_is;
          named = named;
          info = info;
          first = first_same own (under w s) x.active.levels x.active.root agree file info first_own;
          path = path_own ∙ path_same own (under w s) x.active.levels x.active.root agree info.number index;
        }

  shown_by : (volume file : List ℕ) (index count : ℕ) (has : HasPath disk.reads session volume file index count) (o : Option VolumeState)
      → state_at states has.slot ≡ o → option_map (active_table disk.reads pool) o ≡ Some has.table → ShowsPath disk.reads volume file index count
  shown_by volume file index count has None there is = absurd cc
  shown_by volume file index count has (Some x) there is =
      let same : active_table disk.reads pool x ≡ has.table = same_Some (active_table disk.reads pool x) has.table is in
      shown_path has.slot x there volume file index count has.info (ap (λ (t : ActiveTable). t.name) same ∙ has.named)
      (subst (λ (t : ActiveTable). IsFirst (inodes_of t) file has.info) (sym same) has.first)
      (subst (λ (t : ActiveTable). count ≡ unknown_over (trees_of t) has.info.number index) (sym same) has.path)

  -- each path is as the image shows it
  pub paths_shown : HasPathsOf disk.reads disk.reads session
  paths_shown = record {
    none = none;
    paths = λ volume file index count has. shown_by volume file index count has (state_at states has.slot) refl
        has.there;
  }

-- So it is of a session that was opened by a call that only read.
pub paths_opened : (mid new : Shown) (m : Machine) (result : Result Session OpenFault) → OnlyReads mid new → IfOk result (IsOpened mid.reads)
    → IfOk result (AreOpened new mid.reads) → IfOk result (λ session. StandsFor new session m m) → IfOk result (HasPathsOf mid.reads new.reads)
paths_opened mid new m (Ok session) reads opened each stands =
    let same : new.reads ≡ mid.reads = reads.stays.reads in
    let now : IsOpened new.reads session = subst (λ (i : Image). IsOpened i session) (sym same) opened in
    subst (λ (i : Image). HasPathsOf i new.reads session) same
    (paths_shown new session m m stands each.fit.housed each.maps each.none now.found now.view)
paths_opened mid new m (Err fault) reads opened each stands = tt

-- ---- what keeps them

-- where each active table stays, each path is as the image showed it
pub paths_kept : (i now next : Image) (session new : Session) → KeepsTables now session next new → HaveNoFiles new.volumes → HasPathsOf i now session
    → HasPathsOf i next new
paths_kept i now next session new keeps none was = record {
  none = none;
  paths = λ volume file index count has. was.paths volume file index count (record {
    slot = has.slot;
    table = has.table;
    there = sym (keeps has.slot) ∙ has.there;
    named = has.named;
    info = has.info;
    first = has.first;
    path = has.path;
  });
}

pub tables_then : (i j k : Image) (first mid last : Session) → KeepsTables i first j mid → KeepsTables j mid k last → KeepsTables i first k last
tables_then i j k first mid last one two slot = two slot ∙ one slot

-- the active table doesn't come of the numbers of files
numberless : (i : Image) (p : Pool) (o : Option VolumeState) → option_map (active_table i p) (option_map but_numbers o) ≡ option_map (active_table i p) o
numberless i p None = refl
numberless i p (Some x) = refl

-- nor of the cache
uncached : (d e : Shown) (p q : Pool) → LeavesPool p q → OnlyReads d e → (o : Option VolumeState)
    → option_map (active_table e.reads q) o ≡ option_map (active_table d.reads p) o
uncached d e p q leaves reads None = refl
uncached d e p q leaves reads (Some x) = λ j. Some (record {
  name = x.name;
  root = x.active;
  blocks = λ v. block_of (leaves.kept j) (reads.stays.reads j) (held_entry x.map (leaves.containers j) x.slot v);
})

pub tables_read : (d : Shown) (s : Session) (e : Shown) (n : Session) → WasRead d s e n → KeepsTables d.reads s e.reads n
tables_read d s e n was slot =
    sym (numberless e.reads n.pool (state_at n.volumes slot))
    ∙ ap (option_map (active_table e.reads n.pool)) (was.volumes slot)
    ∙ numberless e.reads n.pool (state_at s.volumes slot)
    ∙ uncached d e s.pool n.pool was.pool was.only_reads (state_at s.volumes slot)

-- ---- a consistency point

block_is : (kept : Blocks) (i : Image) (o : Option Entry) → block_of kept i o ≡ option_map (λ p. p.block) (placed_in kept i o)
block_is kept i None = refl
block_is kept i (Some e) = refl

module _ (old : Shown) (pool : Pool) (states : States) (new : Shown) (left : Pool) (stay : States) (housed : AreHoused pool.containers states)
    (keeps : KeepsBlocks old pool states new left stay) where
  table_same : (s : ℕ) (x : VolumeState) → state_at states s ≡ Some x → active_table new.reads left x ≡ active_table old.reads pool x
  table_same s x there = λ j. record { name = x.name; root = x.active; blocks = λ v. same v j }
    where
      at : x.slot ≡ s
      at = (subst (λ (o : Option VolumeState). IfSome o (IsLabelled s)) there (housed.volumes s)).slot_is

      same : (v : ℕ) → held_block x.map left x.slot new.reads v ≡ held_block x.map pool x.slot old.reads v
      same v =
          block_is left.kept new.reads (held_entry x.map left.containers x.slot v)
          ∙ ap (option_map (λ p. p.block)) (keeps.blocks x.slot v x (ap (state_at states) at ∙ there))
          ∙ sym (block_is pool.kept old.reads (held_entry x.map pool.containers x.slot v))

  settled_same : (label : ℕ) (marks : Bool) (x : VolumeState) → active_table new.reads left (settled_as label (marked_as marks x)) ≡ active_table new.reads left x
  settled_same label marks x = by (marked_as marks x).changed
    where
      by : (b : Bool) → active_table new.reads left (cond b (as_written (marked_as marks x) label) (marked_as marks x)) ≡ active_table new.reads left x
      by true = refl
      by false = refl

  pub slot_kept : (s : ℕ) → option_map (active_table new.reads left) (state_at stay s) ≡ option_map (active_table old.reads pool) (state_at states s)
  slot_kept s = let one = keeps.written s in ap (option_map (active_table new.reads left)) one.1.1 ∙ by one.1.0 one.0 (state_at states s) refl
    where
      by : (label : ℕ) (marks : Bool) (o : Option VolumeState) → state_at states s ≡ o
          → option_map (active_table new.reads left) (option_map (settled_as label) (option_map (marked_as marks) o)) ≡ option_map (active_table old.reads pool) o
      by label marks None there = refl
      by label marks (Some x) there = ap (λ (t : ActiveTable). Some t) (settled_same label marks x ∙ table_same s x there)

-- so it is of a session whose parts were these
pub tables_pointed : (old new : Shown) (was session : Session) → was ≡ session → (want : ℕ) (left : Pool) (stay : States) (delays : List Bool)
    → IsHeldPoint old was.pool was.volumes want new left stay delays → GoesOnWhole old was.pool was.volumes new left stay
    → FitTogether was.pool was.volumes → (last m : Machine) → StandsFor old session last m → HaveNoFiles session.volumes
    → (slot : ℕ) → option_map (active_table new.reads left) (state_at stay slot) ≡ table_of_slot old.reads session slot
tables_pointed old new was session same want left stay delays is goes fit last m stands bare slot =
    let stood : StandsFor old was last m = subst (λ (s : Session). StandsFor old s last m) (sym same) stands in
    let none : HaveNoFiles was.volumes = subst (λ (s : Session). HaveNoFiles s.volumes) (sym same) bare in
    slot_kept old was.pool was.volumes new left stay fit.housed (keeps_blocks old was.pool was.volumes want new left stay delays is none last stood.held fit.housed goes.parents) slot
    ∙ ap (λ (s : Session). table_of_slot old.reads s slot) same
