-- What is damaged in a call of a session, by the steps that it is made of.
use Rattle.std.proofs.Common.{◌≡◌, ◌≤◌, ◌⊎◌, ℕ, List, Option, Some, None, Err, inl, inr, refl, sym, ap, subst, ◌∙◌, length, arith, get_or-set_same, Bool, true, false}
use Rattle.std.specs.Prelude.{unwrap_or, IsNone, IsSome, IsTrue}
use Rattle.std.specs.Option.{option_map}
use Rattle.fv_disk.specs.Shown.{Image, Shown}
use Rattle.fv_disk.specs.declared.fault.BlockFault.TheVariants as block
use Rattle.fv_disk.proofs.Resting.{reads_then}
use Rattle.fv_model.specs.declared.commands.Kind.{Kind}
use Rattle.fv_tables.specs.Told.{Standing}
use Rattle.fv_container.specs.Chains.{AreCleanOn}
use Rattle.fv_volmap.specs.Slots.{Volume}
use Rattle.fv_pool.specs.BlocksOver.{LeavesPool}
use Rattle.fv_pool.specs.declared.fault.VolumeFault.TheVariants as volume
use Rattle.fv_pool.specs.declared.pool.Pool.{Pool}
use Rattle.fv_pool.specs.Calls.{GivesUp, Reads, TableFails}
use Rattle.fv_pool.specs.Lending.{Lent, lent_for}
use Rattle.fv_pool.proofs.CallCauses.{cause_for}
use Rattle.fv_volume.specs.declared.state.VolumeState.{VolumeState}
use Rattle.fv_volume.specs.declared.tables.TableAsked.{TableAsked}
use Rattle.fv_volume.specs.declared.tables.TableAsked.TheVariants.{Active}
use Rattle.fv_volume.specs.Asking.{standing_of, standing_read, table_named, ReadsAsked, TellsActive, TellsAsked, TellsBy}
use Rattle.fv_volume.specs.Held.{MayFail}
use Rattle.fv_volume.specs.OneVolume.{home_in, standing_for}
use Rattle.fv_volume.specs.States.{state_at, with_state}
use Rattle.fv_volumes.proofs.Told.{is_inside}
use Rattle.fv_aggregate.specs.declared.session.Session.{Session}
use Rattle.fv_aggregate.specs.Adding.{IsPointed}
use Rattle.fv_aggregate.specs.Commands.{Asked, AsksCopies, AsksLeaves, AsksNothing, AsksPlacing, AsksPoint, AsksTable}
use Rattle.fv_aggregate.specs.Asking.{AsksWithin}
use Rattle.fv_aggregate.specs.Damages.{ComesToLeaves, ComesToPlace, ComesToPoint, HasBadCopies, HasBadTable, HasDamage, HasDamageIn, HasLoaded, HasReadFor, HasUnplaced, LacksBlocks, PassesLimit}
use Rattle.fv_aggregate.specs.Reading.{IsAsRead, WasRead}

-- ---- a table of a volume

-- What a call on a volume found of the table that it asks for, over what it was told.
pub record FindsBad (d : Shown) (p : Pool) (x : VolumeState) (snapshot : Option (List ℕ)) (cell : Bool) (at want found : ℕ) : Type 0 where
  pub table : TableAsked
  pub named : table_named x snapshot ≡ Some table
  pub fails : TableFails (TellsBy cell d p x table) (standing_of d p x table) (lent_for p x.map d 0 (home_in x) 0) d.faults (block.Damaged at want found)

module _ (d : Shown) (p : Pool) (x : VolumeState) (faults at want found : ℕ) (calm : faults ≡ d.faults) where
  abbrev its : Lent
  its = lent_for p x.map d 0 (home_in x) 0

  -- the count of faults is the disk's
  counted : (told : Type 0) (t : Standing) → TableFails told t its faults (block.Damaged at want found) → TableFails told t its d.faults (block.Damaged at want found)
  counted told t fails = subst (λ (n : ℕ). TableFails told t its n (block.Damaged at want found)) calm fails

  -- of the active one
  pub finds_active : TableFails (TellsActive d p x) (standing_for d p x) its faults (block.Damaged at want found) → FindsBad d p x None false at want found
  finds_active fails = record { table = Active; named = refl; fails = counted (TellsActive d p x) (standing_for d p x) fails }

  -- of the one that is asked, which is there
  pub finds_asked : (s : Option (List ℕ)) (cell : Bool) → (table_named x s ≡ None → ⊥) → TableFails (TellsBy cell d p x (unwrap_or (table_named x s) Active)) (standing_read d p x s) its faults (block.Damaged at want found) → FindsBad d p x s cell at want found
  finds_asked s cell there fails = by (table_named x s) refl fails
    where
      by : (o : Option TableAsked) → table_named x s ≡ o → TableFails (TellsBy cell d p x (unwrap_or o Active)) (unwrap_or (option_map (standing_of d p x) o) (standing_for d p x)) its faults (block.Damaged at want found) → FindsBad d p x s cell at want found
      by None named fails = absurd (there named)
      by (Some t) named fails = record { table = t; named = named; fails = counted (TellsBy cell d p x t) (standing_of d p x t) fails }

-- ---- over a disk that shows as much

-- leaves came into memory
pub loaded_after : (d e : Shown) → e.tells ≡ d.tells → e.reads ≡ d.reads → (s new : Session) → HasLoaded d s new → HasLoaded e s new
loaded_after d e tells reads s new was = (
  record {
    map = was.0.map;
    kept = was.0.kept;
    found = was.0.found;
    version = was.0.version;
    containers = record {
      maps = was.0.containers.maps;
      parents = was.0.containers.parents;
      clean = λ told. subst (λ (i : Image). AreCleanOn i new.pool.containers) (sym reads)
          (was.0.containers.clean (subst IsTrue tells told.0, subst (λ (i : Image). AreCleanOn i s.pool.containers) reads told.1));
    };
  },
  was.1,
)

module _ (d e : Shown) (tells : e.tells ≡ d.tells) (reads : e.reads ≡ d.reads) (faults : e.faults ≡ d.faults) where
  abbrev like : Shown
  like = record d { tells = e.tells; reads = e.reads; faults = e.faults }

  like_is : d ≡ like
  like_is = λ j. record d { tells = sym tells j; reads = sym reads j; faults = sym faults j }

  module _ (p : Pool) (x : VolumeState) where
    asked_like : (t : TableAsked) → TellsAsked e p x t → TellsAsked like p x t
    asked_like t is = record { told = is.told; right = is.right; numbers = is.numbers }

    told_like : (cell : Bool) (t : TableAsked) → TellsBy cell e p x t → TellsBy cell like p x t
    told_like true t is = record { tells = asked_like t is.tells; readable = is.readable }
    told_like false t is = asked_like t is

    -- what a call found of a table
    fails_like : (told : Type 0) (t : TableAsked) (at want found : ℕ) → TableFails told (standing_of like p x t) (lent_for p x.map like 0 (home_in x) 0) like.faults (block.Damaged at want found)
        → TableFails told (standing_of e p x t) (lent_for p x.map e 0 (home_in x) 0) e.faults (block.Damaged at want found)
    fails_like told t at want found (inl fails) = inl fails
    fails_like told t at want found (inr (inl bad)) = inr (inl (record { calm = bad.calm; damage = bad.damage }))
    fails_like told t at want found (inr (inr file)) = inr (inr (record { tree = file.tree; of_file = file.of_file; fails = file.fails }))

    pub finds_after : (snapshot : Option (List ℕ)) (cell : Bool) (at want found : ℕ) → FindsBad d p x snapshot cell at want found → FindsBad e p x snapshot cell at want found
    finds_after snapshot cell at want found finds = record {
      table = finds.table;
      named = finds.named;
      fails = fails_like (TellsBy cell e p x finds.table) finds.table at want found
          (cause_for (TellsBy cell e p x finds.table) (TellsBy cell like p x finds.table) (told_like cell finds.table) (lent_for p x.map like 0 (home_in x) 0) like.faults {T = Unit {0}}
          (standing_of like p x finds.table) (standing_of like p x finds.table) (Err (block.Damaged at want found)) refl
          (subst (λ (k : Shown). TableFails (TellsBy cell k p x finds.table) (standing_of k p x finds.table) (lent_for p x.map k 0 (home_in x) 0) k.faults (block.Damaged at want found)) like_is finds.fails));
    }

    may_after : (at want found : ℕ) → MayFail d p (Some x) (volume.Damaged at want found) → MayFail e p (Some x) (volume.Damaged at want found)
    may_after at want found may = subst (λ (k : Shown). MayFail k p (Some x) (volume.Damaged at want found)) like_is may

  module _ (s : Session) (at want found : ℕ) where
    asks_like : (room : ℕ) → AsksWithin e s room → AsksWithin like s room
    asks_like room asks = record { asked = asks.asked; pending = asks.pending }

    pub lacks_after : (new : Session) → LacksBlocks d s new at want found → LacksBlocks e s new at want found
    lacks_after new lacks =
        let now = subst (λ (k : Shown). LacksBlocks k s new at want found) like_is lacks in
        record { fresh = lacks.fresh; place = lacks.place; asked = lacks.asked; free = lacks.free; short = lacks.short; image = λ told room asks. now.image told room (asks_like room asks); same = λ none. loaded_after d e tells reads s new (lacks.same none) }

    -- the files of a volume couldn't be placed
    pub unplaced_after : (room : ℕ) (asked : Asked) → HasUnplaced room asked d s at want found → HasUnplaced room asked e s at want found
    unplaced_after room asked is = record {
      files = record {
        fresh = is.files.fresh;
        files = is.files.files;
        slot = is.files.slot;
        state = is.files.state;
        there = is.files.there;
        mid = is.files.mid;
        root = is.files.root;
        committed = is.files.committed;
        placed = is.files.placed;
        shapes = is.files.shapes;
        entries = is.files.entries;
        between = is.files.between;
        ahead = is.files.ahead;
        others = is.files.others;
        rest = is.files.rest;
        done = is.files.done;
        first = is.files.first;
        fails = may_after is.files.mid is.files.state at want found is.files.fails;
      };
      comes = is.comes;
      before = is.before;
    }

-- ---- in a session

pub keeps_map : (m : Volume) → GivesUp m m
keeps_map m = record { span = refl; snapshots = λ s other. refl; numbers = omega arith; active = λ v does. does }

module _ (d e : Shown) (s : Session) (fresh : IsNone s.failed) (slot : ℕ) (x : VolumeState) (there : state_at s.volumes slot ≡ Some x) (q : Pool) (reads : Reads d s.pool e q) (calm : e.faults ≡ d.faults) (snapshot : Option (List ℕ)) (cell : Bool) (at want found : ℕ) (finds : FindsBad d s.pool x snapshot cell at want found) where
  now_found : FindsBad e s.pool x snapshot cell at want found
  now_found = finds_after d e reads.only_reads.stays.tells reads.only_reads.stays.reads calm s.pool x snapshot cell at want found finds

  -- the volume and the pool may be others in what is left
  bad_left : (n : Session) → LeavesPool s.pool n.pool → (y : VolumeState) → state_at n.volumes slot ≡ Some y → y ≡ record x { map = y.map; files = y.files; changed = y.changed } → GivesUp x.map y.map
      → HasBadTable (AsksTable slot snapshot cell) e s n at want found
  bad_left n pool y left same maps = record {
    fresh = fresh;
    slot = slot;
    snapshot = snapshot;
    cell = cell;
    asks = refl;
    state = x;
    there = there;
    table = now_found.table;
    named = now_found.named;
    fails = now_found.fails;
    pool = pool;
    now = y;
    left = left;
    same = same;
    maps = maps;
  }

  -- the volume is as it was
  pub bad_read : HasBadTable (AsksTable slot snapshot cell) e s (record s { pool = q }) at want found
  bad_read = bad_left (record s { pool = q }) reads.leaves x there refl (keeps_map x.map)

  -- its files may have changed in memory
  pub bad_changed : length s.volumes ≡ 64 → (y : VolumeState) → y ≡ record x { map = y.map; files = y.files; changed = y.changed } → GivesUp x.map y.map → (pending : ℕ)
      → HasBadTable (AsksTable slot snapshot cell) e s (record s { volumes = with_state s.volumes slot (Some y); pool = q; pending = pending }) at want found
  bad_changed long y same maps pending = bad_left (record s { volumes = with_state s.volumes slot (Some y); pool = q; pending = pending }) reads.leaves y
      (get_or-set_same s.volumes slot (Some y) None (let low = is_inside s.volumes slot x long there in omega (arith, low, long))) same maps

-- ---- in a call

point_table : (slot : ℕ) (snapshot : Option (List ℕ)) (cell : Bool) → AsksPoint ≡ AsksTable slot snapshot cell → ⊥
point_table slot snapshot cell e = cc

nothing_table : (slot : ℕ) (snapshot : Option (List ℕ)) (cell : Bool) → AsksNothing ≡ AsksTable slot snapshot cell → ⊥
nothing_table slot snapshot cell e = cc

nothing_point : AsksNothing ≡ AsksPoint → ⊥
nothing_point e = cc

point_placing : (slot : ℕ) → AsksPoint ≡ AsksPlacing slot → ⊥
point_placing slot e = cc

nothing_placing : (slot : ℕ) → AsksNothing ≡ AsksPlacing slot → ⊥
nothing_placing slot e = cc

point_leaves : (slot : ℕ) → AsksPoint ≡ AsksLeaves slot → ⊥
point_leaves slot e = cc

nothing_leaves : (slot : ℕ) → AsksNothing ≡ AsksLeaves slot → ⊥
nothing_leaves slot e = cc

point_copies : (slot : ℕ) (snapshot mirror : List ℕ) (size : ℕ) (kind : Kind) → AsksPoint ≡ AsksCopies slot snapshot mirror size kind → ⊥
point_copies slot snapshot mirror size kind e = cc

pub nothing_copies : (slot : ℕ) (snapshot mirror : List ℕ) (size : ℕ) (kind : Kind) → AsksNothing ≡ AsksCopies slot snapshot mirror size kind → ⊥
nothing_copies slot snapshot mirror size kind e = cc

-- a call that asks for no copies meets no bad ones
module _ (asked : Asked) (copyless : (slot : ℕ) (snapshot mirror : List ℕ) (size : ℕ) (kind : Kind) → asked ≡ AsksCopies slot snapshot mirror size kind → ⊥) where
  pub no_copies : (X : Type 0) (old : Session) (d : Shown) (s : Session) → HasBadCopies asked old d s → X
  no_copies X old d s bad = absurd (copyless bad.admitted.source.parent bad.admitted.source.snapshot bad.name bad.size bad.kind bad.asks)

-- one that may add more
module _ (asked : Asked) (least room : ℕ) (le : least ≤ room) where
  passes_more : (pending : ℕ) → PassesLimit pending least → PassesLimit pending room
  passes_more pending past = (omega (arith, past.0, le), omega (arith, past.1, le))

  point_more : (s : Session) → ComesToPoint least asked s → ComesToPoint room asked s
  point_more s (inl is) = inl is
  point_more s (inr past) = inr (passes_more s.pending past)

  place_more : (s : Session) (slot : ℕ) → ComesToPlace least asked s slot → ComesToPlace room asked s slot
  place_more s slot (inl is) = inl is
  place_more s slot (inr point) = inr (point_more s point)

  leaves_more : (s : Session) (slot : ℕ) → (asked ≡ AsksLeaves slot) ⊎ ComesToPlace least asked s slot → ComesToLeaves room asked s
  leaves_more s slot (inl is) = (slot, inl is)
  leaves_more s slot (inr place) = (slot, inr (place_more s slot place))

  in_more : (d : Shown) (s new : Session) (at want found : ℕ) → HasDamageIn least asked d s new at want found → HasDamageIn room asked d s new at want found
  in_more d s new at want found (inl lacks) = inl (point_more s lacks.0, lacks.1)
  in_more d s new at want found (inr (inl placed)) = inr (inl (record { files = placed.files; comes = place_more s placed.files.slot placed.comes; before = placed.before }))
  in_more d s new at want found (inr (inr (inl lost))) = inr (inr (inl (leaves_more s lost.0.0 lost.0.1, lost.1)))
  in_more d s new at want found (inr (inr (inr bad))) = inr (inr (inr bad))

  pub damage_more : (before : Shown) (old : Session) (after : Shown) (new : Session) (at want found : ℕ) → HasDamage least asked before old after new at want found → HasDamage room asked before old after new at want found
  damage_more before old after new at want found (inl (reads, inl now)) = inl (reads, inl (in_more after old new at want found now))
  damage_more before old after new at want found (inl (reads, inr later)) = inl (reads, inr (record { session = later.session; read = later.read; damage = in_more after later.session new at want found later.damage }))
  damage_more before old after new at want found (inr (inl (past, behind))) = inr (inl (passes_more old.pending past, behind))
  damage_more before old after new at want found (inr (inr (inl bad))) = inr (inr (inl bad))
  damage_more before old after new at want found (inr (inr (inr (past, bad)))) = inr (inr (inr (passes_more old.pending past, bad)))

-- A call that asks for no table, nor for copies, nor to place the files of a volume or to read leaves by itself, is part of one that comes to a point where this
-- does.
module _ (part asked : Asked) (least room : ℕ) (old : Session) (none : (slot : ℕ) (snapshot : Option (List ℕ)) (cell : Bool) → part ≡ AsksTable slot snapshot cell → ⊥) (never : (slot : ℕ) → part ≡ AsksPlacing slot → ⊥) (leafless : (slot : ℕ) → part ≡ AsksLeaves slot → ⊥) (copyless : (slot : ℕ) (snapshot mirror : List ℕ) (size : ℕ) (kind : Kind) → part ≡ AsksCopies slot snapshot mirror size kind → ⊥)
    (point : ComesToPoint least part old → ComesToPoint room asked old) (place : (slot : ℕ) → ComesToPlace least part old slot → ComesToPlace room asked old slot) where
  leaves_part : (slot : ℕ) → (part ≡ AsksLeaves slot) ⊎ ComesToPlace least part old slot → ComesToLeaves room asked old
  leaves_part slot (inl is) = absurd (leafless slot is)
  leaves_part slot (inr comes) = (slot, inr (place slot comes))

  damage_part : (before after : Shown) (new : Session) (at want found : ℕ) → HasDamage least part before old after new at want found → HasDamage room asked before old after new at want found
  damage_part before after new at want found (inl (reads, inl (inl lacks))) = inl (reads, inl (inl (point lacks.0, lacks.1)))
  damage_part before after new at want found (inl (reads, inl (inr (inl placed)))) = inl (reads, inl (inr (inl (record { files = placed.files; comes = place placed.files.slot placed.comes; before = λ other. placed.before (never placed.files.slot) }))))
  damage_part before after new at want found (inl (reads, inl (inr (inr (inl lost))))) = inl (reads, inl (inr (inr (inl (leaves_part lost.0.0 lost.0.1, lost.1)))))
  damage_part before after new at want found (inl (reads, inl (inr (inr (inr bad))))) = absurd (none bad.slot bad.snapshot bad.cell bad.asks)
  damage_part before after new at want found (inl (reads, inr later)) = absurd (none later.read.slot later.read.snapshot later.read.cell later.read.asks)
  damage_part before after new at want found (inr (inl (past, behind))) = absurd (none behind.read.slot behind.read.snapshot behind.read.cell behind.read.asks)
  damage_part before after new at want found (inr (inr (inl bad))) = no_copies part copyless _ old before old bad
  damage_part before after new at want found (inr (inr (inr (past, behind)))) = no_copies part copyless _ old after new behind.bad

-- a point that makes room for a call
pub damage_point : (asked : Asked) (room : ℕ) (old : Session) → PassesLimit old.pending room → (before after : Shown) (new : Session) (at want found : ℕ) → HasDamage 0 AsksPoint before old after new at want found → HasDamage room asked before old after new at want found
damage_point asked room old past before after new at want found is = damage_part AsksPoint asked 0 room old point_table point_placing point_leaves point_copies (λ comes. inr past) (λ slot comes. inr (inr past)) before after new at want found is

-- room that is made for a call, whatever this asks for
pub damage_room : (asked : Asked) (room : ℕ) (old : Session) (before after : Shown) (new : Session) (at want found : ℕ) → HasDamage room AsksNothing before old after new at want found → HasDamage room asked before old after new at want found
damage_room asked room old before after new at want found is = damage_part AsksNothing asked room room old nothing_table nothing_placing nothing_leaves nothing_copies comes_still places_still before after new at want found is
  where
    comes_still : ComesToPoint room AsksNothing old → ComesToPoint room asked old
    comes_still (inl is) = absurd (nothing_point is)
    comes_still (inr past) = inr past

    places_still : (slot : ℕ) → ComesToPlace room AsksNothing old slot → ComesToPlace room asked old slot
    places_still slot (inl is) = absurd (nothing_placing slot is)
    places_still slot (inr point) = inr (comes_still point)

-- ---- a table in which a cell is read too

table_point : (slot : ℕ) (snapshot : Option (List ℕ)) (cell : Bool) → AsksTable slot snapshot cell ≡ AsksPoint → ⊥
table_point slot snapshot cell e = cc

table_placing : (slot : ℕ) (snapshot : Option (List ℕ)) (cell : Bool) (other : ℕ) → AsksTable slot snapshot cell ≡ AsksPlacing other → ⊥
table_placing slot snapshot cell other e = cc

table_leaves : (slot : ℕ) (snapshot : Option (List ℕ)) (cell : Bool) (other : ℕ) → AsksTable slot snapshot cell ≡ AsksLeaves other → ⊥
table_leaves slot snapshot cell other e = cc

table_copies : (slot : ℕ) (snapshot : Option (List ℕ)) (cell : Bool) (other : ℕ) (kept mirror : List ℕ) (size : ℕ) (kind : Kind) → AsksTable slot snapshot cell ≡ AsksCopies other kept mirror size kind → ⊥
table_copies slot snapshot cell other kept mirror size kind e = cc

module _ (slot : ℕ) (snapshot : Option (List ℕ)) where
  same_slot : (k : ℕ) (o : Option (List ℕ)) (b : Bool) → AsksTable slot snapshot false ≡ AsksTable k o b → slot ≡ k
  same_slot k o b e = cc

  same_snapshot : (k : ℕ) (o : Option (List ℕ)) (b : Bool) → AsksTable slot snapshot false ≡ AsksTable k o b → snapshot ≡ o
  same_snapshot k o b e = cc

  no_cell : (k : ℕ) (o : Option (List ℕ)) (b : Bool) → AsksTable slot snapshot false ≡ AsksTable k o b → b ≡ false
  no_cell k o b e = cc

  with_cell : (k : ℕ) (o : Option (List ℕ)) (b : Bool) → AsksTable slot snapshot false ≡ AsksTable k o b → AsksTable slot snapshot true ≡ AsksTable k o true
  with_cell k o b e = λ j. AsksTable (same_slot k o b e j) (same_snapshot k o b e j) true

  -- What is damaged where no cell is read is damaged where one is: less was told for it.
  module _ (room : ℕ) where
    cell_point : (s : Session) → ComesToPoint room (AsksTable slot snapshot false) s → ComesToPoint room (AsksTable slot snapshot true) s
    cell_point s (inl is) = absurd (table_point slot snapshot false is)
    cell_point s (inr past) = inr past

    cell_place : (s : Session) (k : ℕ) → ComesToPlace room (AsksTable slot snapshot false) s k → ComesToPlace room (AsksTable slot snapshot true) s k
    cell_place s k (inl is) = absurd (table_placing slot snapshot false k is)
    cell_place s k (inr point) = inr (cell_point s point)

    cell_leaves : (s : Session) (k : ℕ) → (AsksTable slot snapshot false ≡ AsksLeaves k) ⊎ ComesToPlace room (AsksTable slot snapshot false) s k → ComesToLeaves room (AsksTable slot snapshot true) s
    cell_leaves s k (inl is) = absurd (table_leaves slot snapshot false k is)
    cell_leaves s k (inr place) = (k, inr (cell_place s k place))

    cell_bad : (d : Shown) (s new : Session) (at want found : ℕ) → HasBadTable (AsksTable slot snapshot false) d s new at want found → HasBadTable (AsksTable slot snapshot true) d s new at want found
    cell_bad d s new at want found bad =
        let fails = subst (λ (b : Bool). TableFails (TellsBy b d s.pool bad.state bad.table) (standing_of d s.pool bad.state bad.table) (lent_for s.pool bad.state.map d 0 (home_in bad.state) 0) d.faults (block.Damaged at want found)) (no_cell bad.slot bad.snapshot bad.cell bad.asks) bad.fails in
        record {
          fresh = bad.fresh;
          slot = bad.slot;
          snapshot = bad.snapshot;
          cell = true;
          asks = with_cell bad.slot bad.snapshot bad.cell bad.asks;
          state = bad.state;
          there = bad.there;
          table = bad.table;
          named = bad.named;
          fails = cause_for (ReadsAsked d s.pool bad.state bad.table) (TellsAsked d s.pool bad.state bad.table) (λ reads. reads.tells) (lent_for s.pool bad.state.map d 0 (home_in bad.state) 0) d.faults {T = Unit {0}}
              (standing_of d s.pool bad.state bad.table) (standing_of d s.pool bad.state bad.table) (Err (block.Damaged at want found)) refl fails;
          pool = bad.pool;
          now = bad.now;
          left = bad.left;
          same = bad.same;
          maps = bad.maps;
        }

    cell_in : (d : Shown) (s new : Session) (at want found : ℕ) → HasDamageIn room (AsksTable slot snapshot false) d s new at want found → HasDamageIn room (AsksTable slot snapshot true) d s new at want found
    cell_in d s new at want found (inl lacks) = inl (cell_point s lacks.0, lacks.1)
    cell_in d s new at want found (inr (inl placed)) = inr (inl (record { files = placed.files; comes = cell_place s placed.files.slot placed.comes; before = λ other. placed.before (table_placing slot snapshot false placed.files.slot) }))
    cell_in d s new at want found (inr (inr (inl lost))) = inr (inr (inl (cell_leaves s lost.0.0 lost.0.1, lost.1)))
    cell_in d s new at want found (inr (inr (inr bad))) = inr (inr (inr (cell_bad d s new at want found bad)))

    cell_read : (s n : Session) → HasReadFor (AsksTable slot snapshot false) s n → HasReadFor (AsksTable slot snapshot true) s n
    cell_read s n read = record { fresh = read.fresh; slot = read.slot; snapshot = read.snapshot; cell = true; asks = with_cell read.slot read.snapshot read.cell read.asks; there = read.there; read = read.read }

    pub damage_cell : (cell : Bool) (before : Shown) (old : Session) (after : Shown) (new : Session) (at want found : ℕ) → HasDamage room (AsksTable slot snapshot false) before old after new at want found → HasDamage room (AsksTable slot snapshot cell) before old after new at want found
    damage_cell false before old after new at want found is = is
    damage_cell true before old after new at want found (inl (reads, inl now)) = inl (reads, inl (cell_in after old new at want found now))
    damage_cell true before old after new at want found (inl (reads, inr later)) = inl (reads, inr (record { session = later.session; read = cell_read old later.session later.read; damage = cell_in after later.session new at want found later.damage }))
    damage_cell true before old after new at want found (inr (inl (past, behind))) =
        inr (inl (past, record { session = behind.session; read = cell_read old behind.session behind.read; pointed = behind.pointed; left = behind.left; bad = cell_bad after behind.pointed new at want found behind.bad }))
    damage_cell true before old after new at want found (inr (inr (inl bad))) = no_copies (AsksTable slot snapshot false) (table_copies slot snapshot false) _ old before old bad
    damage_cell true before old after new at want found (inr (inr (inr (past, behind)))) = no_copies (AsksTable slot snapshot false) (table_copies slot snapshot false) _ old after new behind.bad

-- blocks were read, and then again
pub as_read_then : (s n p : Session) → IsAsRead s n → IsAsRead n p → IsAsRead s p
as_read_then s n p first second = record {
  pool = record { map = second.pool.map ∙ first.pool.map; containers = second.pool.containers ∙ first.pool.containers; kept = second.pool.kept ∙ first.pool.kept; found = second.pool.found ∙ first.pool.found; version = second.pool.version ∙ first.pool.version };
  volumes = λ k. second.volumes k ∙ first.volumes k;
  same = second.same ∙ ap (λ (k : Session). record k { volumes = p.volumes; pool = p.pool }) first.same;
}

pub as_read : (d : Shown) (s : Session) (e : Shown) (n : Session) → WasRead d s e n → IsAsRead s n
as_read d s e n read = record { pool = read.pool; volumes = read.volumes; same = read.same }

pub read_then : (d : Shown) (s : Session) (e : Shown) (n : Session) (g : Shown) (p : Session) → WasRead d s e n → WasRead e n g p → WasRead d s g p
read_then d s e n g p first second =
    let both = as_read_then s n p (as_read d s e n first) (as_read e n g p second) in
    record { only_reads = reads_then d e g first.only_reads second.only_reads; pool = both.pool; volumes = both.volumes; same = both.same }

-- a command on the volume of a slot that read blocks first
module _ (d : Shown) (s : Session) (fresh : IsNone s.failed) (slot : ℕ) (snapshot : Option (List ℕ)) (cell : Bool) (there : IsSome (state_at s.volumes slot)) (e : Shown) (n : Session) (read : WasRead d s e n) (room : ℕ) (g : Shown) (new : Session) (at want found : ℕ) where
  abbrev asked : Asked
  asked = AsksTable slot snapshot cell

  read_for : HasReadFor asked s n
  read_for = record { fresh = fresh; slot = slot; snapshot = snapshot; cell = cell; asks = refl; there = there; read = as_read d s e n read }

  both_for : (k : Session) → HasReadFor asked n k → HasReadFor asked s k
  both_for k second = record { fresh = fresh; slot = slot; snapshot = snapshot; cell = cell; asks = refl; there = there; read = as_read_then s n k (as_read d s e n read) second.read }

  same_pending : n.pending ≡ s.pending
  same_pending = ap (λ (k : Session). k.pending) read.same

  pub damage_read : HasDamage room asked e n g new at want found → HasDamage room asked d s g new at want found
  damage_read (inl (reads, inl now)) = inl (reads_then d e g read.only_reads reads, inr (record { session = n; read = read_for; damage = now }))
  damage_read (inl (reads, inr later)) = inl (reads_then d e g read.only_reads reads, inr (record { session = later.session; read = both_for later.session later.read; damage = later.damage }))
  damage_read (inr (inl (past, behind))) = inr (inl ((past.0, (let same = same_pending in omega (arith, past.1, same))), record { session = behind.session; read = both_for behind.session behind.read; pointed = behind.pointed; left = behind.left; bad = behind.bad }))
  damage_read (inr (inr (inl bad))) = no_copies asked (table_copies slot snapshot cell) _ n e n bad
  damage_read (inr (inr (inr (past, behind)))) = no_copies asked (table_copies slot snapshot cell) _ n g new behind.bad

  -- and for which a point made room
  pub damage_behind : PassesLimit s.pending room → g.tells ≡ e.tells → (p : Session) → IsPointed e n p → HasBadTable asked g p new at want found → HasDamage room asked d s g new at want found
  damage_behind past tells p left bad = inr (inl (
    past,
    record {
      session = n;
      read = read_for;
      pointed = p;
      left = record { next = left.next; pending = left.pending; files = λ told. left.files (subst IsTrue tells told); same = λ told. left.same (subst IsTrue tells told); cores = left.cores; admits = left.admits; none = left.none; blocks = left.blocks };
      bad = bad;
    },
  ))
