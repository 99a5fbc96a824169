-- Volumes that are held, with no file in memory and stored well, can be lent to a point, and volumes that could be lent are held.
use Rattle.std.proofs.Common.{◌≡◌, ℕ, ◌<◌, Bool, true, Option, Some, None, refl, subst, arith, length, false}
use Rattle.std.specs.Prelude.{IfSome, ◌==◌, IsTrue}
use Rattle.std.specs.List.{list_all}
use Rattle.std.specs.Option.{option_map, option_map_or}
use Rattle.std.specs.FinMap as fin
use Rattle.std.proofs.lemmas.Bool.{le-leb, and_from}
use Rattle.fv_disk.specs.Shown.{Shown}
use Rattle.fv_codec.specs.declared.inode.InodeRecord.{InodeRecord}
use Rattle.fv_codec.specs.declared.pointer.Pointer.{Pointer}
use Rattle.fv_model.specs.Machines.{Machine, capacity}
use Rattle.fv_model.specs.Spelling.{name_cmp}
use Rattle.fv_laws.proofs.Lists.{In}
use Rattle.fv_tables.proofs.Lists.{all_of_range, same_parts}
use Rattle.fv_image.specs.HintRules.{has_known_places, has_split_places, has_true_hints, leads_unknown, leaves_base, rests_on_base}
use Rattle.fv_image.specs.ReachRules.{all_volumes, has_distinct_files, has_pointers_in_range, has_reached_kinds, has_reached_positions, has_reached_shapes, reaches_once}
use Rattle.fv_image.specs.Seen.{Root, VolumeSeen, roots_of, seen, volume_seen}
use Rattle.fv_image.specs.Soundness.{AreTables}
use Rattle.fv_image.specs.TableRules.{has_cells_within, has_levels, has_marks_over, has_one_to_one, has_stamps_past}
use Rattle.fv_image.specs.VolumeRules.{commits_seen, has_bases, has_commits_in_capacity, has_distinct_snapshots, has_use_in_size, has_wide_spans}
use Rattle.fv_image.specs.Views.{Rooted, View, slots}
use Rattle.fv_image.specs.Volumes.{active_at, base_from, named_with, told_with, volumes_with}
use Rattle.fv_image.specs.WholeMachine.{has_form, has_no_reserves, is_built}
use Rattle.fv_volmap.specs.Slots.{IsVolume}
use Rattle.fv_pool.specs.declared.pool.Pool.{Pool}
use Rattle.fv_pool.specs.Opening.{IsAsFound}
use Rattle.fv_volume.specs.declared.state.VolumeState.{VolumeState}
use Rattle.fv_volume.specs.Files.{AreStates, IsLabelled, IsState}
use Rattle.fv_volumes.specs.Footing.{AreFooted}
use Rattle.fv_volumes.specs.Housed.{HaveReaches, ReachesAll}
use Rattle.fv_volume.specs.States.{States, head_in, state_at, view_over}
use Rattle.fv_volume.specs.Trees.{no_trees}
use Rattle.fv_cp.specs.Held.{machine_held, named_held, IsHeld, IsHeldIn}
use Rattle.fv_cp.specs.Lent.{FitTogether, IsLent}
use Rattle.fv_cp.specs.Placing.{HasNoFiles, HasWholeMap}
use Rattle.fv_cp.specs.Points.{machine_lent}
use Rattle.fv_volume.proofs.Ruled as rule
use Rattle.fv_volume.proofs.Ruled.{AreRuled}
use Rattle.fv_volumes.proofs.HeldAlone as alone
use Rattle.fv_volumes.proofs.HeldAlone.{all_seen, commits_fit, commits_in_view, each_held, of_each}
use Rattle.fv_volume.specs.Numbering.{AreNumbersSeen}
use Rattle.fv_volume.specs.OneVolume.{base_by, blocks_in, IsReady, IsStanding}
use Rattle.fv_volume.specs.Placing.{IsLedTo, IsStoredWell}
use Rattle.fv_aggmap.specs.Loading.{IsLoaded as IsMapLoaded}
use Rattle.fv_container.specs.Chains.{paged_at, slot_count}
use Rattle.fv_volume.specs.Loading.{LoadedTo}
use Rattle.fv_volumes.proofs.LentSlots.{loaded_from_lent}
use Rattle.fv_volumes.proofs.SeenAlone as loaded_alone
use Rattle.fv_image.specs.Held.{label_place}
use Rattle.fv_root.specs.Finding.{root_found}
use Rattle.fv_volumes.proofs.FootedSeen.{base_seen}
use Rattle.fv_volumes.proofs.LoadedBase.{loaded_all}
use Rattle.fv_volumes.proofs.SettledFooted.{footed_knows}
use Rattle.fv_volumes.proofs.Told.{is_inside}

-- ---- what is held can be lent

module _ (disk : Shown) (pool : Pool) (states : States) (before : Machine) (held : IsHeld disk pool states before) (fit : FitTogether pool states) (none : (s : ℕ) → HasNoFiles (state_at states s))
    (maps : (s : ℕ) → HasWholeMap (state_at states s)) where
  abbrev w : View
  w = view_over pool states disk.reads

  -- ---- one volume

  module _ (x : VolumeState) (e : state_at states x.slot ≡ Some x) where
    one : IsHeldIn disk pool x.slot x
    one = subst (λ (o : Option VolumeState). IfSome o (IsHeldIn disk pool x.slot)) e (held.each x.slot)

    no_files : x.files ≡ None
    no_files = subst HasNoFiles e (none x.slot)

    whole : IsVolume x.map
    whole = subst HasWholeMap e (maps x.slot)

    form : has_form (head_in x) ≡ true
    form = one.ready.labelled.form

    abbrev led : ℕ → Rooted → Option ℕ → ℕ → ℕ → Pointer
    led = alone.led disk pool states fit.housed held.spaced held.footed held.each maps x e one no_files whole

    ruled : (k : ℕ) (r : Rooted) → In {X = ℕ × Rooted} (k, r) (roots_of (head_in x)) → AreRuled w x.slot (head_in x) r (led k r)
    ruled = alone.ruled disk pool states fit.housed held.spaced held.footed held.each maps x e one no_files whole

  -- ---- all of them

  all_held : (test : ℕ → VolumeSeen → Bool) → ((x : VolumeState) → state_at states x.slot ≡ Some x → test x.slot (volume_seen w x.slot (head_in x)) ≡ true) → all_volumes (seen w) test ≡ true
  all_held = all_seen states fit.housed.volumes pool disk.reads

  each_state : AreStates w no_trees states
  each_state = record {
    each = of_each states fit.housed.volumes (λ s o. IfSome o (IsState w no_trees s)) (λ s. tt) (λ x e. alone.state_is disk pool states fit.housed held.spaced held.footed held.each maps x e (one x e) (no_files x e) (whole x e));
    names = held.names;
    empty = λ s e. refl;
  }

  -- The rules on tables hold.
  tables : AreTables (seen w)
  unfolding has_reached_shapes has_pointers_in_range has_wide_spans has_bases has_distinct_snapshots has_distinct_files has_reached_positions reaches_once has_reached_kinds has_one_to_one has_stamps_past has_marks_over has_cells_within has_levels has_true_hints leads_unknown has_known_places has_split_places leaves_base rests_on_base has_use_in_size has_commits_in_capacity seen volume_seen view_over
  tables = record {
    shapes = all_held _ (λ x e. rule.shapes w x.slot (head_in x) (led x e) (ruled x e));
    ranges = all_held _ (λ x e. rule.ranges w x.slot (head_in x) (led x e) (ruled x e));
    spans = all_held _ (λ x e. alone.wide_rule disk pool states fit.housed held.spaced held.footed held.each maps x e (one x e) (no_files x e) (whole x e));
    bases = all_held _ (λ x e. alone.bases_rule disk pool states fit.housed held.spaced held.footed held.each maps x e (one x e) (no_files x e) (whole x e));
    snapshots = all_held _ (λ x e. alone.names_rule disk pool states fit.housed held.spaced held.footed held.each maps x e (one x e) (no_files x e) (whole x e));
    files = all_held _ (λ x e. alone.files_rule disk pool states fit.housed held.spaced held.footed held.each maps x e (one x e) (no_files x e) (whole x e));
    positions = all_held _ (λ x e. rule.positions w x.slot (head_in x) (led x e) (ruled x e));
    once = all_held _ (λ x e. rule.once w x.slot (head_in x) (led x e) (ruled x e));
    kinds = all_held _ (λ x e. rule.kinds w x.slot (head_in x) (led x e) (ruled x e));
    ids = all_held _ (λ x e. alone.ids_rule disk pool states fit.housed held.spaced held.footed held.each maps x e (one x e) (no_files x e) (whole x e));
    stamps = all_held _ (λ x e. alone.stamps_rule disk pool states fit.housed held.spaced held.footed held.each maps x e (one x e) (no_files x e) (whole x e));
    marks = all_held _ (λ x e. rule.marks w x.slot (head_in x) (led x e) (ruled x e));
    cells = all_held _ (λ x e. alone.cells_rule disk pool states fit.housed held.spaced held.footed held.each maps x e (one x e) (no_files x e) (whole x e));
    levels = all_held _ (λ x e. alone.levels_rule disk pool states fit.housed held.spaced held.footed held.each maps x e (one x e) (no_files x e) (whole x e));
    hints = all_held _ (λ x e. rule.hints w x.slot (head_in x) (led x e) (ruled x e));
    unknown = all_held _ (λ x e. rule.unknown w x.slot (head_in x) (led x e) (ruled x e));
    known = all_held _ (λ x e. rule.known_places w x.slot (head_in x) (led x e) (ruled x e));
    split = all_held _ (λ x e. alone.split_rule disk pool states fit.housed held.spaced held.footed held.each maps x e (one x e) (no_files x e) (whole x e));
    leaves = all_held _ (λ x e. alone.leaves_rule disk pool states fit.housed held.spaced held.footed held.each maps x e (one x e) (no_files x e) (whole x e));
    rests = all_held _ (λ x e. alone.rests_rule disk pool states fit.housed held.spaced held.footed held.each maps x e (one x e) (no_files x e) (whole x e));
    sizes = all_held _ (λ x e. alone.size_rule disk pool states fit.housed held.spaced held.footed held.each maps x e (one x e) (no_files x e) (whole x e));
    commits = (let same = commits_in_view pool states disk.reads fit.housed.long each_state in let fits = held.commits in le-leb (commits_seen (seen w)) (capacity pool.found.blocks) (omega (arith, same, fits)));
  }

  built : is_built w ≡ true
  unfolding is_built has_no_reserves slots view_over
  built = and_from (list_all (λ s. option_map_or has_form (w.head s) true) slots) _
      (all_of_range (λ s. option_map_or has_form (w.head s) true) 0 64 (λ s low high. of_each states fit.housed.volumes (λ s o. option_map_or has_form (option_map head_in o) true ≡ true) (λ s. refl) form s))
      (all_held (λ s y. list_all (λ (r : Root). list_all (λ (f : ℕ × InodeRecord). f.1.reserve == 0) r.files) y.roots) (λ x e. alone.reserve_rule disk pool states fit.housed held.spaced held.footed held.each maps x e (one x e) (no_files x e) (whole x e)))

  -- The numbers of their files in memory are those of the tables that the view tells.
  pub numbers_held : (s : ℕ) → AreNumbersSeen w s (state_at states s)
  numbers_held = of_each states fit.housed.volumes (AreNumbersSeen w) (λ s. tt) (λ x e. alone.numbers_seen disk pool states fit.housed held.spaced held.footed held.each maps x e (one x e) (no_files x e) (whole x e))

  reached : HaveReaches w states
  reached s low = of_each states fit.housed.volumes (λ s o. IfSome o (ReachesAll w s)) (λ s. tt) (λ x e. alone.reach_is disk pool states fit.housed held.spaced held.footed held.each maps x e (one x e) (no_files x e) (whole x e)) s

  -- They can be lent to a point.
  pub held_lent : IsLent disk pool states before
  held_lent = record { found = held.found; tells = held.tells; keeps = held.keeps; map = held.map; slots = held.slots; spaced = held.spaced; states = each_state; built = built; tables = tables; reach = reached; knows = footed_knows states pool.containers held.footed }

  -- The machine that they are lent for is the one that they stand for.
  pub held_machine : machine_held disk pool states ≡ machine_lent disk pool states
  unfolding machine_held slots told_with view_over volumes_with
  held_machine = λ j. record {
    blocks = pool.found.blocks;
    version = pool.version;
    volumes = fin.from_entries {R = name_cmp} (same_parts (λ k. named_held disk pool (state_at states k)) (λ k. named_with w (active_at w) k (w.head k)) 0 64
        (λ k low high. of_each states fit.housed.volumes (λ k o. named_held disk pool o ≡ named_with w (active_at w) k (option_map head_in o)) (λ k. refl) (λ x e. alone.named_is disk pool states fit.housed held.spaced held.footed held.each maps x e (one x e) (no_files x e) (whole x e)) k) j);
  }

-- ---- what could be lent is held

module _ (disk : Shown) (pool : Pool) (states : States) (before : Machine) (lent : IsLent disk pool states before) (fit : FitTogether pool states) (maps : (s : ℕ) → HasWholeMap (state_at states s)) where
  abbrev long : length states ≡ 64
  long = fit.housed.long

  -- each clone stands on a snapshot of another volume
  footed : AreFooted states pool.containers
  footed = loaded_all disk pool states long lent.tables lent.knows fit.housed.volumes lent.reach

  module _ (stands : (s : ℕ) → IfSome (state_at states s) (IsStanding disk pool)) where
    others : (t : ℕ) (y : VolumeState) → state_at states t ≡ Some y → (y.slot ≡ t) × (IsStanding disk pool y × (IsVolume y.map × (y.map.span ≡ y.span)))
    others t y there =
        let label : IsLabelled t y = subst (λ (o : Option VolumeState). IfSome o (IsLabelled t)) there (fit.housed.volumes t) in
        (label.slot_is, (subst (λ (o : Option VolumeState). IfSome o (IsStanding disk pool)) there (stands t), (subst HasWholeMap there (maps t), label.map)))

    -- the view tells its base as it does
    based : (s : ℕ) → IfSome (state_at states s) (λ x. base_from (view_over pool states disk.reads) (head_in x).base ≡ base_by (blocks_in disk pool x) x.base)
    based = of_each states fit.housed.volumes (λ s o. IfSome o (λ x. base_from (view_over pool states disk.reads) (head_in x).base ≡ base_by (blocks_in disk pool x) x.base)) (λ s. tt)
        (λ x there. base_seen disk pool states fit.housed.parents footed x.slot (is_inside states x.slot x long there) x refl there others)

  -- Where calls can be made on each, and each stands for one of the machine, they are what they are between points.
  pub lent_held : ((s : ℕ) → IfSome (state_at states s) (IsReady disk pool)) → ((s : ℕ) → IfSome (state_at states s) (IsStanding disk pool)) → ((s : ℕ) → IfSome (state_at states s) (IsLedTo disk pool)) → ((s : ℕ) → IfSome (state_at states s) (IsStoredWell disk pool)) → IsHeld disk pool states before
  lent_held ready stands led well =
      let each = λ (s : ℕ). each_held pool states disk.reads long lent.tables lent.states disk s (based stands s) (ready s) (stands s) (led s) (well s) in
      let commits = commits_fit pool states disk.reads long lent.tables lent.states in
      record { found = lent.found; tells = lent.tells; keeps = lent.keeps; map = lent.map; slots = lent.slots; spaced = lent.spaced; names = lent.states.names; each = each; commits = commits; footed = footed }

-- ---- nothing is in memory that isn't on the disk

module _ (disk : Shown) (pool : Pool) (states : States) (m : Machine) (lent : IsLent disk pool states m) (fit : FitTogether pool states) (unchanged : (s : ℕ) → IfSome (state_at states s) (λ x. x.changed ≡ false)) (free : (s : ℕ) → s < slot_count → state_at states s ≡ None → label_place (root_found pool.found) s ≡ 0) (unkept : pool.kept ≡ fin.empty)
    (few : length pool.containers.containers ≡ 64) (map : IsMapLoaded disk.reads pool.found pool.map) (tells : IsTrue disk.tells) (whole : (b : ℕ) → length (disk.reads b) ≡ 4096) (none : (s : ℕ) → HasNoFiles (state_at states s)) (maps : (s : ℕ) → HasWholeMap (state_at states s)) where
  loaded : LoadedTo disk.reads pool.found slot_count states pool.containers
  loaded = record { each = λ s inside. loaded_from_lent disk.reads pool.found s (state_at states s) (paged_at pool.containers s) (lent.slots s inside) (unchanged s) (free s inside) }

  as_found : IsAsFound pool
  as_found = record { kept = unkept; version = fit.version }

  of_loaded : (P : VolumeState → Type 0) → ((x : VolumeState) → state_at states x.slot ≡ Some x → x.files ≡ None → P x) → (s : ℕ) → IfSome (state_at states s) P
  of_loaded P some s = of_each states fit.housed.volumes (λ s o. HasNoFiles o → IfSome o P) (λ s no_files. tt) some s (none s)

  -- So they are after a point that was done, and after opening.
  pub past_held : ((s : ℕ) → IfSome (state_at states s) (IsReady disk pool)) → ((s : ℕ) → AreNumbersSeen (view_over pool states disk.reads) s (state_at states s)) → IsHeld disk pool states m
  past_held ready numbered = lent_held disk pool states m lent fit maps ready
      (of_loaded (IsStanding disk pool) (λ x there no_files. loaded_alone.standing disk pool states fit.housed loaded as_found few whole m lent.tells x there no_files lent.states map tells (footed disk pool states m lent fit maps)
      (subst (AreNumbersSeen (view_over pool states disk.reads) x.slot) there (numbered x.slot))))
      (of_loaded (IsLedTo disk pool) (λ x there no_files. loaded_alone.led disk pool states fit.housed loaded as_found few whole m lent.tells x there no_files))
      (of_loaded (IsStoredWell disk pool) (λ x there no_files. loaded_alone.well disk pool states fit.housed loaded as_found few whole m lent.tells x there no_files))
