-- A clean step, put together from what was read, filled and moved.
use Rattle.std.proofs.Common.{◌≡◌, ℕ, suc, ◌<◌, ◌≤◌, Bool, true, false, List, [], ◌∷◌, length, get_or, Option, Some, None, Result, Ok, Err, refl, sym, ap, subst, ◌∙◌, inl, inr, arith, ⊎_elim}
use Rattle.std.specs.Prelude.{All, IfOk, IfSome, OnOk, ◌||◌}
use Rattle.std.specs.List.{list_any}
use Rattle.std.proofs.lemmas.Bool.{cases_lt}
use Rattle.std.specs.FinMap as fin
use Rattle.fv_disk.specs.Shown.{Image, Shown as Disk}
use Rattle.fv_disk.specs.DiskCalls.{OnlyReads}
use Rattle.fv_disk.specs.declared.fault.BlockFault.{BlockFault}
use Rattle.fv_disk.specs.declared.fault.BlockFault.TheVariants.{DiskFault, Damaged, Memory}
use Rattle.fv_disk.proofs.Resting.{reads_then}
use Rattle.fv_bits.specs.Members.{is_member}
use Rattle.fv_bits.proofs.Laws.{is_member_past}
use Rattle.fv_aggmap.specs.Space.{Space, free_blocks}
use Rattle.fv_aggmap.proofs.Room.{one_is_found}
use Rattle.fv_container.specs.Chains.{AreCleanOn, TellsEntries, container_at, own_entry}
use Rattle.fv_container.specs.Mapped.{Mapped}
use Rattle.fv_container.proofs.Damage.{none_damaged}
use Rattle.fv_places.specs.ByKind.{form_of, pointers_by}
use Rattle.fv_volmap.specs.Slots.{IsVolume, Slot, Volume as Maps, has, taken_in}
use Rattle.fv_pool.specs.declared.pool.Pool.{Pool}
use Rattle.fv_pool.specs.Keeping.{Blocks}
use Rattle.fv_pool.specs.BlocksOver.{HasShapeOf, LeavesPool, LoadsPool}
use Rattle.fv_pool.specs.Causes.{IsNoDamage, of_block}
use Rattle.fv_pool.specs.Moving.{LacksMove, MovesBlock, TakesPlace}
use Rattle.fv_volume.specs.declared.state.Snap.{Snap}
use Rattle.fv_volume.specs.declared.state.VolumeState.{VolumeState}
use Rattle.fv_cleaner.specs.declared.searching.Found.{Found}
use Rattle.fv_cleaner.specs.Filling.{FillsBlock, FillsPlaces}
use Rattle.fv_cleaner.specs.Searching.{IsFoundIn, IsUndamaged, LeadBelow, Lies, found_block, lies_in}
use Rattle.fv_cleaner.specs.Stepping.{CanClean, CleansBlock, CleansRoots, CleansVolume, IsPlaceOf, MovesOutside, MovesUnled, PlacesRoots, SearchesRoots, roots_of}
use Rattle.fv_cleaner.proofs.Lying.{leaves_then, same_lies, tells_on}
use Rattle.fv_cleaner.proofs.Rooted.{all_to, place_from}

-- what was moved after reads was moved from what was there before them
pub moved_from : (map : Maps) (disk later : Disk) (pool mid left : Pool) (slot v kind : ℕ) (block : List ℕ) → LeavesPool pool mid → OnlyReads disk later
    → MovesBlock later mid slot v kind block left → MovesBlock disk pool slot v kind block left
moved_from map disk later pool mid left slot v kind block leaves reads moves = record {
  place = moves.place;
  taken = moves.taken;
  takes = subst (λ (s : Space). TakesPlace s moves.place moves.taken) leaves.map moves.takes;
  before = moves.before;
  space = moves.space;
  told = λ tells. moves.told (tells_on map pool mid disk later slot leaves reads tells) ∙ (λ i. own_entry (container_at (leaves.containers i) slot) v);
  entry = record {
    here = moves.entry.here;
    rest = λ w other. moves.entry.rest w other ∙ (λ i. own_entry (container_at (leaves.containers i) slot) w);
    others = λ s other. moves.entry.others s other ∙ (λ i. container_at (leaves.containers i) s);
    parents = moves.entry.parents ∙ (λ i. (leaves.containers i).parents);
    shape = subst (λ (m : Option Mapped). HasShapeOf m (container_at left.containers slot)) (λ i. container_at (leaves.containers i) slot) moves.entry.shape;
    clean = λ tells. subst (λ (i : Image). AreCleanOn i left.containers) reads.stays.reads (moves.entry.clean (tells_on map pool mid disk later slot leaves reads tells));
  };
  kept = moves.kept ∙ ap (λ (k : Blocks). fin.insert k moves.place block) leaves.kept;
  found = moves.found ∙ leaves.found;
  version = moves.version ∙ leaves.version;
}

-- ---- a number that a slot has is below the span

member_low : (map : List Bool) (v : ℕ) → is_member map v ≡ true → v < length map
member_low map v is = ⊎_elim (λ low. low)
    (λ (past : length map ≤ v). let wrong : true ≡ false = sym is ∙ is_member_past map v past in absurd cc)
    (cases_lt v (length map))

has_low : (span : ℕ) (slot : Slot) (v : ℕ) → IfSome slot (λ map. length map ≡ span) → has v slot ≡ true → v < span
has_low span None v long is = absurd cc
has_low span (Some map) v long is = subst (λ (n : ℕ). v < n) long (member_low map v is)

some_low : (span : ℕ) (slots : List Slot) (v : ℕ) → All (λ slot. IfSome slot (λ map. length map ≡ span)) slots → list_any (has v) slots ≡ true → v < span
some_low span [] v all is = absurd cc
some_low span (slot ∷ slots) v all is = by (has v slot) refl (λ more. some_low span slots v (λ k d low. all (suc k) d (omega (arith, low))) more)
  where
    by : (b : Bool) → has v slot ≡ b → (list_any (has v) slots ≡ true → v < span) → v < span
    by true one rest = has_low span slot v (all 0 slot (omega arith)) one
    by false one rest = rest (sym (ap (λ (t : Bool). t || list_any (has v) slots) one) ∙ is)

pub taken_low : (maps : Maps) (v : ℕ) → IsVolume maps → taken_in maps.slots v ≡ true → v < maps.span
taken_low maps v valid is = some_low maps.span maps.slots v valid.long is

-- ---- a step that failed

pub loads_of : (disk : Disk) (pool mid : Pool) → LeavesPool pool mid → LoadsPool disk pool mid
loads_of disk pool mid leaves = record {
  map = leaves.map;
  kept = leaves.kept;
  found = leaves.found;
  version = leaves.version;
  containers = record {
    maps = λ s i. container_at (leaves.containers i) s;
    parents = λ i. (leaves.containers i).parents;
    clean = λ tells. subst (AreCleanOn disk.reads) (sym leaves.containers) tells.1;
  };
}

module _ (map : Maps) (slot : ℕ) (disk later : Disk) (pool mid : Pool) (leaves : LeavesPool pool mid) (reads : OnlyReads disk later) where
  pub loads_from : (left : Pool) → LoadsPool later mid left → LoadsPool disk pool left
  loads_from left loads = record {
    map = loads.map ∙ leaves.map;
    kept = loads.kept ∙ leaves.kept;
    found = loads.found ∙ leaves.found;
    version = loads.version ∙ leaves.version;
    containers = record {
      maps = λ s. loads.containers.maps s ∙ (λ i. container_at (leaves.containers i) s);
      parents = loads.containers.parents ∙ (λ i. (leaves.containers i).parents);
      clean = λ tells. subst (λ (i : Image). AreCleanOn i left.containers) reads.stays.reads (loads.containers.clean (tells_on map pool mid disk later slot leaves reads tells));
    };
  }

  -- with a free block no damage comes
  pub moves_undamaged : (root : ℕ) (fault : BlockFault) → TellsEntries disk pool.containers → 1 ≤ free_blocks pool.map → LacksMove later mid.containers mid.map root fault → IsUndamaged fault
  moves_undamaged root DiskFault told free lacks = tt
  moves_undamaged root Memory told free lacks = tt
  moves_undamaged root (Damaged at want found) told free (inl (want_is, found_is, at_is, full)) =
      let same : free_blocks mid.map ≡ free_blocks pool.map = ap (λ (s : Space). free_blocks s) leaves.map in
      one_is_found mid.map (omega (arith, same, free)) full
  moves_undamaged root (Damaged at want found) told free (inr leaf) =
      let tells = tells_on map pool mid disk later slot leaves reads told in
      none_damaged later.reads mid.containers at want found tells.1 (leaf tells.0)

-- ---- a step that was taken

module _ (disk mid : Disk) (pool held : Pool) (x : VolumeState) (leaves : LeavesPool pool held) (reads : OnlyReads disk mid) where
  abbrev at : Lies
  at = lies_in x.map pool x.slot disk.reads

  abbrev after : Lies
  after = lies_in x.map held x.slot mid.reads

  -- where the pointers of a block that was found lead
  pub found_leads : (f : Found) (b : List ℕ) → CanClean disk pool x → (TellsEntries disk pool.containers → SearchesRoots at (roots_of x) b (Some f)) → LeadBelow after f.entry.kind (pointers_by (form_of f.entry.kind) b)
  found_leads f b can searches =
      let next = searches can.told in
      subst (λ (a : Lies). LeadBelow a f.entry.kind (pointers_by (form_of f.entry.kind) b)) (sym (same_lies x.map pool held disk mid x.slot leaves reads))
      (can.follow.below f.vvbn (found_block f b) next.unclear.there)

  pub roots_lead : CanClean disk pool x → LeadBelow after 8 (roots_of x)
  roots_lead can = subst (λ (a : Lies). LeadBelow a 8 (roots_of x)) (sym (same_lies x.map pool held disk mid x.slot leaves reads)) can.roots

  pub tells_after : CanClean disk pool x → TellsEntries mid held.containers
  tells_after can = tells_on x.map pool held disk mid x.slot leaves reads can.told

  -- a block was read, filled and moved
  pub cleaned : (later : Disk) (filled left : Pool) (f : Found) (b c : List ℕ) → LeavesPool held filled → OnlyReads mid later → IsVolume x.map → IsFoundIn x.map f b
      → (TellsEntries disk pool.containers → SearchesRoots at (roots_of x) b (Some f)) → FillsBlock f.entry.kind b c → (TellsEntries mid held.containers → FillsPlaces after f.entry.kind b c)
      → MovesBlock later filled x.slot f.vvbn f.entry.kind c left → CleansBlock disk pool x left (record x { changed = true })
  cleaned later filled left f b c fills-leaves fills-reads valid found searches fills places moves = record {
    vvbn = f.vvbn;
    low = found.low;
    taken = found.taken;
    within = taken_low x.map f.vvbn valid found.taken;
    kind = f.entry.kind;
    least = found.least;
    greatest = found.greatest;
    was = b;
    shaped = found.shaped;
    unknown = found.unknown;
    block = c;
    next = λ tells. (f.entry.pvbn, searches tells);
    fills = fills;
    places = λ tells. subst (λ (a : Lies). FillsPlaces a f.entry.kind b c) (same_lies x.map pool held disk mid x.slot leaves reads) (places (tells_on x.map pool held disk mid x.slot leaves reads tells));
    moves = moved_from x.map disk later pool filled left x.slot f.vvbn f.entry.kind c (leaves_then pool held filled leaves fills-leaves) (reads_then disk mid later reads fills-reads) moves;
    state = refl;
  }

  -- the roots got their places
  places_over : (y : VolumeState) (some : Bool) → PlacesRoots (TellsEntries mid held.containers) after x y some → PlacesRoots (TellsEntries disk pool.containers) at x y some
  places_over y true fills =
      let carry = tells_on x.map pool held disk mid x.slot leaves reads in
      let same = same_lies x.map pool held disk mid x.slot leaves reads in
      record {
        unknown = fills.unknown;
        places = fills.places;
        are = record {
          active = place_from (TellsEntries disk pool.containers) (TellsEntries mid held.containers) at after x.active.root (get_or fills.places 0 0) carry same fills.are.active;
          snapshots = all_to (λ (q : Snap). IsPlaceOf (TellsEntries mid held.containers) after q.table.root (get_or fills.places q.slot 0))
              (λ (q : Snap). IsPlaceOf (TellsEntries disk pool.containers) at q.table.root (get_or fills.places q.slot 0)) (λ q is. place_from (TellsEntries disk pool.containers) (TellsEntries mid held.containers) at after q.table.root (get_or fills.places q.slot 0) carry same is) x.snapshots fills.are.snapshots;
        };
        state = fills.state;
      }
  places_over y false none = none

  pub cleaned_roots : (b : List ℕ) (left : Pool) (y : VolumeState) (some : Bool) → (TellsEntries disk pool.containers → SearchesRoots at (roots_of x) b None) → LeavesPool held left
      → PlacesRoots (TellsEntries mid held.containers) after x y some → CleansRoots disk pool x left y some
  cleaned_roots b left y some searches more places = record {
    clear = searches;
    roots = places_over y some places;
    leaves = leaves_then pool held left leaves more;
  }

-- ---- what a step says by its answer

pub if_ok : (P Q : Bool → Type 0) (r : Result Bool BlockFault) → ((b : Bool) → P b → Q b) → IfOk r P → IfOk r Q
if_ok P Q (Ok b) more is = more b is
if_ok P Q (Err fault) more is = is

pub on_ok : (P : Type 0) (r : Result Bool BlockFault) → P → OnOk r P
on_ok P (Ok b) is = is
on_ok P (Err fault) is = tt

pub roots_step : (disk : Disk) (pool : Pool) (x : VolumeState) (left : Pool) (y : VolumeState) (b : Bool) → CleansRoots disk pool x left y b → CleansVolume disk pool x left y b
roots_step disk pool x left y true cleans = inr cleans
roots_step disk pool x left y false cleans = cleans

-- where nothing moved, no block got another place
pub still_unled : (disk : Disk) (pool : Pool) (x : VolumeState) (left : Pool) → LeavesPool pool left → MovesUnled disk pool x left
still_unled disk pool x left leaves told lead v changed = absurd (changed (λ i. own_entry (container_at (leaves.containers i) x.slot) v))

pub still_outside : (disk : Disk) (pool : Pool) (x : VolumeState) (left : Pool) → LeavesPool pool left → MovesOutside disk pool x left
still_outside disk pool x left leaves told clear v changed = absurd (changed (λ i. own_entry (container_at (leaves.containers i) x.slot) v))

-- a fault of a block is one of a volume
pub undamaged_volume : (fault : BlockFault) → IsUndamaged fault → IsNoDamage (of_block fault)
undamaged_volume DiskFault is = tt
undamaged_volume (Damaged place want found) is = is
undamaged_volume Memory is = tt
