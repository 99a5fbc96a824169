-- Leaves of containers came into memory: volumes are what they were, and stand for what they stood for.
use Rattle.std.proofs.Common.{◌≡◌, ℕ, ◌+◌, ◌-◌, ◌<◌, ◌≤◌, ◌⊎◌, max, min, true, true≢false, Bool, List, [], ◌∷◌, length, Option, Some, None, ⊎_elim, refl, sym, ap, subst, ◌∙◌, arith}
use Rattle.std.specs.Prelude.{IfSome, slice_index_or}
use Rattle.std.specs.FinMap as fin
use Rattle.std.proofs.lemmas.Bool.{cases_lt}
use Rattle.std.proofs.lemmas.List.{get_or_past}
use Rattle.std.proofs.lemmas.Option.{none-some, same_Some}
use Rattle.fv_disk.specs.Shown.{Image, Shown}
use Rattle.fv_disk.specs.DiskCalls.{OnlyReads}
use Rattle.fv_disk.proofs.Resting.{reads_then}
use Rattle.fv_codec.specs.declared.label.Label.{Label}
use Rattle.fv_model.specs.Machines.{Machine, capacity}
use Rattle.fv_model.specs.Spelling.{name_cmp}
use Rattle.fv_model.specs.Volumes.{Volume}
use Rattle.fv_tables.proofs.Lists.{same_parts}
use Rattle.fv_image.specs.Held.{AllKeep, layout_at}
use Rattle.fv_image.specs.Views.{slots}
use Rattle.fv_image.specs.WholeMachine.{Tells}
use Rattle.fv_root.specs.declared.find.Found.{Found}
use Rattle.fv_root.specs.Commits.{IsFoundOn}
use Rattle.fv_root.specs.Finding.{IsInRange, root_found}
use Rattle.fv_root.specs.Formatted.{IsSize}
use Rattle.fv_store.specs.Held.{StandsOn}
use Rattle.fv_aggmap.specs.Space.{Space, blocks_of, free_blocks}
use Rattle.fv_container.specs.Chains.{AreCleanOn, IsBadLeaf, IsLeafDamage, IsSlots, Slots, container_at, map_in, own_entry, paged_at}
use Rattle.fv_container.specs.Clean.{IsCleanOn}
use Rattle.fv_container.specs.Mapped.{Mapped}
use Rattle.fv_container.specs.Paged.{Paged}
use Rattle.fv_container.specs.Spelled.{names}
use Rattle.fv_container.proofs.Changing.{maps_then}
use Rattle.fv_container.proofs.Damage.{HasTree, damage_stays}
use Rattle.fv_pool.specs.declared.pool.Pool.{Pool}
use Rattle.fv_pool.specs.BlocksOver.{HasShapeOf, LoadsPool, entries_in}
use Rattle.fv_pool.specs.Keeping.{Blocks, IsUnkept}
use Rattle.fv_pool.specs.Placing.{KeepsUnused}
use Rattle.fv_volume.specs.declared.state.VolumeState.{VolumeState}
use Rattle.fv_volume.specs.Loading.{Houses, IsCleanOf, IsContainerOf, label_of}
use Rattle.fv_volume.specs.OneVolume.{IsReady}
use Rattle.fv_volume.specs.Slots.{sum_of}
use Rattle.fv_volume.specs.States.{States, state_at}
use Rattle.fv_volume.specs.Stored.{AreApartIn, AreSpacedIn}
use Rattle.fv_volume.specs.Writing.{IsTaken, on_disk}
use Rattle.fv_volumes.specs.Housed.{AreHoused}
use Rattle.fv_volumes.specs.UnderRoot.{IsLentAt, IsLentSlot, IsMapOf, StandMaps}
use Rattle.fv_volumes.proofs.Footed.{footed_over}
use Rattle.fv_volumes.proofs.Others.{beside_loads}
use Rattle.fv_volumes.proofs.PlacedIn.{found_read, keeps_read}
use Rattle.fv_model.specs.Machines.{first_block}
use Rattle.fv_delay.specs.declared.regions.Region.{Region}
use Rattle.fv_delay.specs.ByThreshold.{threshold_for}
use Rattle.fv_delay.specs.Choice.{chosen, regions_counted, total}
use Rattle.fv_delay.specs.Holding.{Holding, counts_of}
use Rattle.fv_cp.specs.declared.planning.Plan.{Plan}
use Rattle.fv_cp.specs.Choosing.{asked_with, claimed, counts_at, greatest_number, holding_with, holdings, missing_for, regions_chosen}
use Rattle.fv_cp.specs.Planning.{AreCounted, IsPlan, Plans}
use Rattle.fv_cp.specs.Held.{IsHeld, IsHeldIn, machine_held, named_held}
use Rattle.fv_cp.specs.Lent.{FitTogether}
use Rattle.fv_cp.specs.Placing.{ArePlaced, AreReady, HaveSpent, IsReadyIn, IsSpareEntry, KeepShapes}
use Rattle.std.specs.FinSet as set
use Rattle.fv_model.specs.Space.{base_ids}

module _ (disk after : Shown) (pool left : Pool) (states : States) (loads : LoadsPool disk pool left) (reads : OnlyReads disk after) (stands : StandsOn after left.store.pairs) (fit : FitTogether pool states) where
  map_at : (s : ℕ) → container_at left.containers s ≡ container_at pool.containers s
  map_at = loads.containers.maps

  pub fit_loaded : FitTogether left states
  fit_loaded = record {
    range = subst IsInRange (sym loads.found) fit.range;
    size = ap blocks_of loads.map ∙ fit.size ∙ ap (λ (f : Found). f.blocks) (sym loads.found);
    version = loads.version ∙ fit.version ∙ ap (λ (f : Found). f.root.version) (sym loads.found);
    housed = record {
      long = fit.housed.long;
      volumes = fit.housed.volumes;
      each = λ s. subst (Houses (state_at states s)) (sym (map_at s)) (fit.housed.each s);
      parents = λ s. ap (λ (ps : List (Option ℕ)). slice_index_or ps s None) loads.containers.parents ∙ fit.housed.parents s;
    };
    kept = λ b taken. subst (λ (k : Blocks). IsUnkept k b) (sym loads.kept) (fit.kept b (subst (λ (m : Space). IsTaken (on_disk m) b) loads.map taken));
  }

  -- ---- one volume

  ready_loaded : (w : VolumeState) → IsReady disk pool w → IsReady after left w
  ready_loaded w ready = record {
    lent = record {
      within = ready.lent.within;
      stands = stands;
      few = ready.lent.few;
      entries = subst (λ (c : Option Mapped). w.map.span ≤ length (entries_in c)) (sym (map_at w.slot)) ready.lent.entries;
    };
    labelled = ready.labelled;
    booked = ready.booked;
    blocks = subst (λ (f : Found). IsSize f.blocks) (sym loads.found) ready.blocks;
    changed = ready.changed;
    fresh = ready.fresh;
  }

  pub are_ready : AreReady disk pool states → AreReady after left states
  are_ready ready s = by (state_at states s) (ready s)
    where
      by : (o : Option VolumeState) → IfSome o (IsReadyIn disk pool s) → IfSome o (IsReadyIn after left s)
      by None is = tt
      by (Some w) is = record { slot = is.slot; ready = ready_loaded w is.ready }

  held_in : (s : ℕ) (o : Option VolumeState) → IfSome o (IsHeldIn disk pool s) → IfSome o (IsHeldIn after left s)
  held_in s None is = tt
  held_in s (Some w) is =
      let b = beside_loads disk after pool left loads reads w is.stands in
      record {
        slot = is.slot;
        ready = ready_loaded w is.ready;
        stands = b.standing;
        led = b.led is.led;
        well = b.well is.well;
        wide = subst (λ (v : Volume). v.most + (set.len (base_ids v.base) + 256) ≤ v.span) (sym b.volume) is.wide;
        within = is.within;
      }

  -- ---- the slots

  clean_of : (i : Image) (l : Option Label) (paged : Paged) → IsCleanOn i paged → IsCleanOf i l (Some paged)
  clean_of i None paged clean = tt
  clean_of i (Some l) paged clean = λ whole. clean

  slot_loaded : (s : ℕ) (x : VolumeState) (was now : Paged) → now.map ≡ was.map → IsCleanOn disk.reads now → IsLentSlot disk.reads pool.found s x was → IsLentSlot disk.reads pool.found s x now
  slot_loaded s x was now same clean is = record {
    label = is.label;
    nodes = λ b node. is.nodes b (subst (λ (m : Mapped). names m.tree b ≡ true) same node);
    clean = clean;
    apart = subst (AreApartIn x) (sym same) is.apart;
    maps = subst (StandMaps disk.reads pool.found x) (sym same) is.maps;
    unchanged = λ e.
        let loaded = is.unchanged e in
        record {
          head = loaded.head;
          tree = subst (λ (m : Mapped). IsContainerOf disk.reads (label_of pool.found disk.reads s) (Some m)) (sym same) loaded.tree;
          clean = clean_of disk.reads (label_of pool.found disk.reads s) now clean;
          label = loaded.label;
          bits = loaded.bits;
          changed = loaded.changed;
        };
  }

  slot_at_now : (s : ℕ) (o : Option VolumeState) (c d : Option Paged) → map_in d ≡ map_in c → IfSome d (λ now. IfSome o (λ x. IsCleanOn disk.reads now)) → IsLentAt disk.reads pool.found s o c → IsLentAt disk.reads pool.found s o d
  slot_at_now s None None None same clean is = tt
  slot_at_now s None None (Some now) same clean is = absurd (none-some now.map (sym same))
  slot_at_now s None (Some was) d same clean is = absurd is
  slot_at_now s (Some x) None d same clean is = absurd is
  slot_at_now s (Some x) (Some was) None same clean is = absurd (none-some was.map same)
  slot_at_now s (Some x) (Some was) (Some now) same clean is = slot_loaded s x was now (same_Some now.map was.map same) clean is

  clean_here : (s : ℕ) (o : Option VolumeState) → IfSome o (IsHeldIn disk pool s) → IfSome (paged_at left.containers s) (λ now. IfSome o (λ x. IsCleanOn disk.reads now))
  clean_here s None is = none_asked (paged_at left.containers s)
    where
      none_asked : (d : Option Paged) → IfSome d (λ now. Unit {0})
      none_asked None = tt
      none_asked (Some now) = tt
  clean_here s (Some w) is = loads.containers.clean (is.stands.told.0, is.stands.told.2) s

  module _ (before : Machine) (held : IsHeld disk pool states before) where
    -- The volumes are what they are between points.
    pub held_loaded : IsHeld after left states before
    held_loaded = record {
      found = subst (λ (f : Found). IsFoundOn after f) (sym loads.found) (found_read disk after pool.found reads held.found);
      tells = subst (λ (f : Found). Tells (layout_at (root_found f) after.reads) before) (sym loads.found) (subst (λ (i : Image). Tells (layout_at (root_found pool.found) i) before) (sym reads.stays.reads) held.tells);
      keeps = subst (λ (f : Found). AllKeep (root_found f) after.reads after) (sym loads.found) (keeps_read disk after (root_found pool.found) reads held.keeps);
      map = subst (λ (m : Space). IsMapOf after.reads left.found m) (sym loads.map) (subst (λ (i : Image). IsMapOf i left.found pool.map) (sym reads.stays.reads) (subst (λ (f : Found). IsMapOf disk.reads f pool.map) (sym loads.found) held.map));
      slots = λ s inside. subst (λ (i : Image). IsLentAt i left.found s (state_at states s) (paged_at left.containers s)) (sym reads.stays.reads)
          (subst (λ (f : Found). IsLentAt disk.reads f s (state_at states s) (paged_at left.containers s)) (sym loads.found)
          (slot_at_now s (state_at states s) (paged_at pool.containers s) (paged_at left.containers s) (map_at s) (clean_here s (state_at states s) (held.each s)) (held.slots s inside)));
      spaced = subst (λ (f : Found). AreSpacedIn f.blocks left.map.next (state_at states) (container_at left.containers)) (sym loads.found)
          (subst (λ (m : Space). AreSpacedIn pool.found.blocks m.next (state_at states) (container_at left.containers)) (sym loads.map)
          (subst (λ (c : ℕ → Option Mapped). AreSpacedIn pool.found.blocks pool.map.next (state_at states) c) (λ j s. sym (map_at s) j) held.spaced));
      names = held.names;
      each = λ s. held_in s (state_at states s) (held.each s);
      commits = subst (λ (f : Found). sum_of states ≤ capacity f.blocks) (sym loads.found) held.commits;
      footed = footed_over states pool.containers left.containers (λ s v. ap (λ (c : Option Mapped). own_entry c v) (map_at s)) held.footed;
    }

    -- They stand for the machine that they stood for.
    pub machine_loaded : machine_held after left states ≡ machine_held disk pool states
    unfolding machine_held slots
    machine_loaded = λ j. record {
      blocks = (loads.found j).blocks;
      version = loads.version j;
      volumes = fin.from_entries {R = name_cmp} (same_parts (λ k. named_held after left (state_at states k)) (λ k. named_held disk pool (state_at states k)) 0 64 (λ k low high. named_same k (state_at states k) (held.each k)) j);
    }
      where
        named_same : (k : ℕ) (o : Option VolumeState) → IfSome o (IsHeldIn disk pool k) → named_held after left o ≡ named_held disk pool o
        named_same k None one = refl
        named_same k (Some w) one = ap (λ (v : Volume). (w.name, v) ∷ []) (beside_loads disk after pool left loads reads w one.stands).volume

-- ---- after the files were placed

-- What was placed of files is placed still.
pub placed_loaded : (disk mid after : Shown) (pool held left : Pool) (states between : States) → ArePlaced disk pool states mid held between → LoadsPool mid held left → OnlyReads mid after → StandsOn after left.store.pairs
    → ArePlaced disk pool states after left between
placed_loaded disk mid after pool held left states between placed loads reads stands = record {
  held = λ before was. held_loaded mid after held left between loads reads stands placed.fit before (placed.held before was);
  machine = λ before was. machine_loaded mid after held left between loads reads stands placed.fit before (placed.held before was) ∙ placed.machine before was;
  fit = fit_loaded mid after held left between loads reads stands placed.fit;
  found = loads.found ∙ placed.found;
  version = loads.version ∙ placed.version;
  committed = ap (λ (m : Space). m.committed) loads.map ∙ placed.committed;
  cores = placed.cores;
  asked = placed.asked;
  all = placed.all;
  waiting = placed.waiting;
  spent = λ before was room. spent_on (placed.spent before was room);
  others = placed.others;
  entries = λ s v. subst (λ (c : Option Mapped). EntryAt s v c) (sym (loads.containers.maps s)) (placed.entries s v);
  shapes = λ s. subst (λ (c : Option Mapped). HasShapeOf (container_at pool.containers s) c) (sym (loads.containers.maps s)) (placed.shapes s);
  parents = loads.containers.parents ∙ placed.parents;
  unused = λ before was s. unused_on s (state_at between s) (placed.unused before was s);
  rest = λ s none. let rests = placed.rest s none in (rests.0, loads.containers.maps s ∙ rests.1);
  only_reads = reads_then disk mid after placed.only_reads reads;
  idle = λ none.
      let was = placed.idle none in (
        record {
          map = loads.map ∙ was.0.map;
          kept = loads.kept ∙ was.0.kept;
          found = loads.found ∙ was.0.found;
          version = loads.version ∙ was.0.version;
          containers = maps_then disk mid pool.containers held.containers left.containers placed.only_reads.stays.tells placed.only_reads.stays.reads was.0.containers loads.containers;
        },
        was.1,
      );
}
  where
    EntryAt : ℕ → ℕ → Option Mapped → Type 0
    EntryAt s v c = (own_entry c v ≡ own_entry (container_at pool.containers s) v) ⊎ IsSpareEntry pool.map (own_entry c v)

    spent_on : HaveSpent pool states held between → HaveSpent pool states left between
    spent_on was =
        let free : free_blocks left.map ≡ free_blocks held.map = ap free_blocks loads.map in
        record { fewer = was.fewer; numbers = was.numbers; blocks = omega (arith, free, was.blocks) }

    unused_on : (s : ℕ) (o : Option VolumeState) → IfSome o (λ y. KeepsUnused pool.containers held.containers s y.map) → IfSome o (λ y. KeepsUnused pool.containers left.containers s y.map)
    unused_on s None is = tt
    unused_on s (Some y) is = λ v out. ap (λ (c : Option Mapped). own_entry c v) (loads.containers.maps s) ∙ is v out

-- ---- damage

-- Each container of volumes that are lent is clean.
pub lent_clean : (i : Image) (found : Found) (states : States) (containers : Slots) → IsSlots containers → AreHoused containers states → ((s : ℕ) → s < 64 → IsLentAt i found s (state_at states s) (paged_at containers s)) → AreCleanOn i containers
lent_clean i found states containers few housed lent s = ⊎_elim
    (λ (inside : s < 64). by (state_at states s) (paged_at containers s) (lent s inside))
    (λ (past : 64 ≤ s). subst (λ (c : Option Paged). IfSome c (IsCleanOn i)) (sym (get_or_past containers.containers s None (omega (arith, few.containers, past)))) tt)
    (cases_lt s 64)
  where
    by : (o : Option VolumeState) (c : Option Paged) → IsLentAt i found s o c → IfSome c (IsCleanOn i)
    by None None is = tt
    by None (Some paged) is = absurd is
    by (Some x) None is = tt
    by (Some x) (Some paged) is = is.clean

-- A leaf that doesn't stand doesn't stand where others came into memory.
pub leaf_still : (i j : Image) (old new : Slots) (at want found : ℕ) → j ≡ i → ((s : ℕ) → container_at new s ≡ container_at old s) → IsLeafDamage i old at want found → IsLeafDamage j new at want found
leaf_still i j old new at want found same maps bad = record {
  slot = bad.slot;
  map = bad.map;
  there = maps bad.slot ∙ bad.there;
  leaf = subst (λ (k : Image). IsBadLeaf k bad.map at want found) (sym same) bad.leaf;
}

-- A leaf that doesn't stand once files are placed didn't stand before: no tree moves.
pub leaf_unmoved : (i : Image) (old new : Slots) (at want found : ℕ) → KeepShapes old new → IsLeafDamage i new at want found → IsLeafDamage i old at want found
leaf_unmoved i old new at want found shapes bad = damage_stays i new old at want found (λ s. unmoved (container_at old s) (container_at new s) (shapes s)) bad
  where
    unmoved : (was now : Option Mapped) → HasShapeOf was now → IfSome now (λ map. HasTree map was)
    unmoved was None shape = tt
    unmoved None (Some map) shape = absurd (true≢false shape.there)
    unmoved (Some before) (Some map) shape = (sym shape.tree, sym shape.count)

-- ---- a plan

module _ (pool left : Pool) (states : States) (maps : (s : ℕ) → container_at left.containers s ≡ container_at pool.containers s) (found : left.found ≡ pool.found) (space : left.map ≡ pool.map) (want : ℕ) (delays : List Bool) (plan : Plan) where
  same_holdings : holdings left.containers states ≡ holdings pool.containers states
  same_holdings = λ j s. holding_with (state_at states s) (maps s j)

  same_missing : missing_for left states want ≡ missing_for pool states want
  unfolding missing_for
  same_missing = λ j. min ((max 256 want + claimed states) + total (counts_of (same_holdings j))) greatest_number - ((found j).blocks - first_block (found j).blocks)

  same_chosen : regions_chosen left states want ≡ regions_chosen pool states want
  same_chosen = λ j. regions_counted (chosen (counts_of (same_holdings j)) (same_missing j))

  was_counted : AreCounted left.containers states delays → AreCounted pool.containers states delays
  was_counted counted = λ s inside off unchanged. ap (λ (h : ℕ → Option Holding). counts_at s (h s)) (sym same_holdings) ∙ counted s inside off unchanged

  -- A plan is one as well over what came into memory.
  pub plans_still : Plans pool states want delays plan → Plans left states want delays plan
  plans_still is = record {
    planned = λ counted room. subst (λ (h : ℕ → Option Holding). IsPlan h (threshold_for (counts_of h) (missing_for left states want)) plan) (sym same_holdings)
        (subst (λ (n : ℕ). IsPlan (holdings pool.containers states) (threshold_for (counts_of (holdings pool.containers states)) n) plan) (sym same_missing)
        (is.planned (was_counted counted) (subst (λ (rs : List Region). asked_with rs states ≤ free_blocks pool.map) same_chosen (subst (λ (m : Space). asked_with (regions_chosen left states want) states ≤ free_blocks m) space room))));
    flags = λ counted s inside off. ap (λ (h : ℕ → Option Holding). counts_at s (h s)) same_holdings ∙ is.flags (was_counted counted) s inside off;
    none = λ counted few. is.none (was_counted counted) (subst (λ (rs : List Region). free_blocks pool.map < asked_with rs states) same_chosen (subst (λ (m : Space). free_blocks m < asked_with (regions_chosen left states want) states) space few));
  }
