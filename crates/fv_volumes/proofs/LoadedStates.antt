-- What is loaded is what its image tells: each clone stands on a snapshot of another volume, and the volumes are those of a machine.
use Rattle.std.proofs.Common.{◌≡◌, ◌≢◌, ◌<◌, ◌≤◌, ◌⊎◌, ℕ, Bool, true, false, List, [], length, Option, Some, None, true≢false, inl, inr, refl, sym, ap, subst, ◌∙◌, ⊎_elim, arith}
use Rattle.std.specs.Prelude.{IfSome, if◌then◌else◌}
use Rattle.std.specs.Option.{option_map, option_map_or}
use Rattle.std.proofs.lemmas.List.{length-map}
use Rattle.std.proofs.lemmas.Bool.{cases_eq, cases_lt}
use Rattle.fv_disk.specs.Shown.{Shown as Disk}
use Rattle.fv_model.specs.Machines.{Machine}
use Rattle.fv_model.specs.Spelling.{is_same_name}
use Rattle.fv_model.specs.Tables.{Table, empty_table}
use Rattle.fv_laws.specs.WellFormed.{IsWellTable}
use Rattle.fv_laws.specs.Positions.{HasNoReserve}
use Rattle.fv_laws.proofs.Changes.{itself}
use Rattle.fv_tables.specs.Reached.{is_listed, items}
use Rattle.fv_image.specs.Charged.{out_items}
use Rattle.fv_image.specs.Held.{layout_at, view_at}
use Rattle.fv_image.specs.Seen.{seen}
use Rattle.fv_image.specs.Soundness.{AreTables}
use Rattle.fv_image.specs.Staying.{base_items}
use Rattle.fv_image.specs.Views.{Head, Rooted, View}
use Rattle.fv_image.specs.VolumeRules.{share_name}
use Rattle.fv_image.specs.Volumes.{standing_of, table_at, volume_told, volume_with}
use Rattle.fv_image.specs.WholeMachine.{Tells}
use Rattle.fv_image.proofs.LoneTables.{lone_reserves}
use Rattle.fv_image.proofs.OwnUses.{HasLabelNumbers}
use Rattle.fv_image.proofs.WellLabels.{names_apart, numbers_at}
use Rattle.fv_charge.specs.Ledgers.{IsLedgerOf}
use Rattle.fv_container.specs.Chains.{slot_count}
use Rattle.fv_root.specs.Finding.{root_found}
use Rattle.fv_volmap.specs.Slots.{has, slot_at, slot_of_base}
use Rattle.fv_pool.specs.declared.pool.Pool.{Pool}
use Rattle.fv_pool.specs.Opening.{IsAsFound}
use Rattle.fv_volume.specs.declared.state.Base.{Base}
use Rattle.fv_volume.specs.declared.state.VolumeState.{VolumeState}
use Rattle.fv_volume.specs.Files.{AreNamed, AreStates, IsLabelled, IsState}
use Rattle.fv_volume.specs.KnownBase.{KnowBases}
use Rattle.fv_volume.specs.Loading.{HasCounted, HaveBits, IsCounted, KeptTo, LoadedTo, base_counted}
use Rattle.fv_volume.specs.Mapped.{IsBaseMap}
use Rattle.fv_volume.specs.States.{States, footing_in, head_in, snap_in, state_at, view_over}
use Rattle.fv_volume.specs.Trees.{active_in, no_trees}
use Rattle.fv_volume.proofs.Counted.{counted_ledger}
use Rattle.fv_volume.proofs.TablesOf.{is_whole}
use Rattle.fv_volumes.specs.Footing.{AreFooted, IsFooted}
use Rattle.fv_volumes.specs.Housed.{HaveReaches, ReachesAll}
use Rattle.fv_volumes.proofs.BaseTold.{footed_reach, footed_root}
use Rattle.fv_volumes.proofs.LoadedBase.{loaded_all}
use Rattle.fv_volumes.proofs.LoadedTables.{StandsInView, loaded_stands, stands_reaches, stands_told, stands_well}
use Rattle.fv_volumes.proofs.Made.{from_pairs}
use Rattle.fv_volumes.proofs.OnChains.{stands_on}
use Rattle.fv_volumes.proofs.Told.{head_there, is_inside}
use Rattle.fv_volumes.proofs.Viewed.{viewed}

-- a set with what isn't charged, or none where nothing is
of_set : (w : View) (h : Head) (set : Option (List Bool)) → ((v : ℕ) → has v set ≡ is_listed (out_items w h.base) v) → IsBaseMap w h set
of_set w h None each = λ v low. sym (each v)
of_set w h (Some map) each = λ v low. each v

module _ (disk : Disk) (pool : Pool) (states : States) (kept : KeptTo slot_count states pool.containers) (loaded : LoadedTo disk.reads pool.found slot_count states pool.containers) (unkept : IsAsFound pool) (knows : KnowBases states)
    (m : Machine) (is : Tells (layout_at (root_found pool.found) disk.reads) m) (whole : (b : ℕ) → length (disk.reads b) ≡ 4096) where
  abbrev u : View
  u = view_over pool states disk.reads

  alike : u ≡ view_at (root_found pool.found) disk.reads
  alike = viewed pool disk.reads states kept.long kept.few loaded unkept

  -- ---- each stands in the view

  labelled_in : (s : ℕ) (x : VolumeState) → state_at states s ≡ Some x → IsLabelled s x
  labelled_in s x there = subst (λ (o : Option VolumeState). IfSome o (IsLabelled s)) there (kept.each s)

  pub in_slot : (s : ℕ) (x : VolumeState) → state_at states s ≡ Some x → (x.slot ≡ s) × StandsInView disk pool states x
  in_slot s x there =
      let at = (labelled_in s x there).slot_is in
      (at, loaded_stands disk pool states kept loaded unkept m is whole x (ap (state_at states) at ∙ there))

  loaded_reaches : HaveReaches u states
  loaded_reaches s low = by (state_at states s) refl
    where
      by : (o : Option VolumeState) → state_at states s ≡ o → IfSome o (ReachesAll u s)
      by None there = tt
      by (Some x) there = let its = in_slot s x there in subst (λ (n : ℕ). ReachesAll u n x) its.0 (stands_reaches disk pool states x its.1)

  tables : AreTables (seen u)
  unfolding layout_at
  tables = subst (λ (v : View). AreTables (seen v)) (sym alike) is.sound.tables

  -- Each clone stands on a snapshot of another volume.
  pub loaded_footed : AreFooted states pool.containers
  loaded_footed = loaded_all disk pool states kept.long tables knows kept.each loaded_reaches

  -- ---- each volume

  numbers_in : (s : ℕ) (h : Head) → u.head s ≡ Some h → HasLabelNumbers h
  numbers_in s h there = numbers_at (root_found pool.found) disk.reads whole s h (ap (λ (v : View). v.head s) (sym alike) ∙ there)

  module _ (s : ℕ) (x : VolumeState) (there : state_at states s ≡ Some x) where
    abbrev h : Head
    h = head_in x

    labelled : IsLabelled s x
    labelled = labelled_in s x there

    counted : IsCounted x
    counted = subst (λ (o : Option VolumeState). IfSome o IsCounted) there (kept.counted s)

    stands : StandsInView disk pool states x
    stands = (in_slot s x there).1

    low : s < 64
    low = is_inside states s x kept.long there

    here : u.head s ≡ Some h
    here = head_there pool states disk.reads s x there

    bits : HaveBits u s x.span x.map
    bits = subst (λ (n : ℕ). HaveBits u n x.span x.map) labelled.slot_is stands.bits

    table : IsWellTable x.now (table_at u s h.active)
    table = subst (λ (n : ℕ). IsWellTable x.now (table_at u n h.active)) labelled.slot_is (subst (IsWellTable x.now) (stands_told disk pool states x stands 0 h.active (inl refl)) (stands_well disk pool states x stands 0 h.active (inl refl)))

    reserves : HasNoReserve (table_at u s h.active)
    reserves = lone_reserves u s h low here stands.reserves

    -- the slot of its base has what it isn't charged for
    base_has : (b : Base) → x.base ≡ Some b → b.splitting ≡ false → (v : ℕ) → has v (slot_at x.map slot_of_base) ≡ is_listed (out_items u h.base) v
    base_has b based unsplit v =
        let on : IsFooted states x b = stands_on states pool.containers kept.parents loaded_footed s low x labelled.slot_is there b based in
        let reach : ReachesAll u b.parent on.parent = subst (λ (o : Option VolumeState). IfSome o (ReachesAll u b.parent)) on.there (loaded_reaches b.parent on.inside) in
        footed_reach pool states disk.reads x b on reach v
        ∙ sym (ap (λ (o : Option Rooted). is_listed (option_map_or (λ (r : Rooted). items (standing_of u b.parent r)) o []) v) (footed_root pool states disk.reads x b on))
        ∙ sym (ap (λ (t : Bool). is_listed (if t then [] else base_items u (Some (footing_in b))) v) unsplit)
        ∙ sym (ap (λ (o : Option Base). is_listed (out_items u (option_map footing_in o)) v) based)

    out : IsBaseMap u h (base_counted x.base x.map)
    out = by x.base refl
      where
        by : (o : Option Base) → x.base ≡ o → IsBaseMap u h (base_counted o x.map)
        by None bare = λ v inside. ap (λ (o : Option Base). is_listed (out_items u (option_map footing_in o)) v) bare
        by (Some b) based =
            let unsplit : b.splitting ≡ false = subst (λ (o : Option Base). IfSome o (λ b. b.splitting ≡ false)) based (is_whole s x labelled) in
            subst (λ (t : Bool). IsBaseMap u h (if t then None else slot_at x.map slot_of_base)) (sym unsplit) (of_set u h (slot_at x.map slot_of_base) (base_has b based unsplit))

    ledger : IsLedgerOf (volume_told u s h) x.ledger
    ledger = counted_ledger u s h low here tables stands.maps (numbers_in s h here) (λ b g based at. numbers_in b.parent g at)
        x.map labelled.map labelled.slots labelled.snapshots.slots bits (base_counted x.base x.map) out x.ledger
        (subst (λ (n : ℕ). HasCounted x.map (base_counted x.base x.map) n x.span x.size x.kind x.ledger) (sym (length-map x.snapshots snap_in)) counted.ledger) reserves

    active_is : active_in u no_trees s ≡ table_at u s h.active
    active_is = ap (λ (o : Option Head). option_map_or (λ h. table_at u s h.active) o empty_table) here

    loaded_state : IsState u no_trees s x
    loaded_state = record {
      labelled = labelled;
      table = subst (λ (t : Table). IsWellTable x.now t) (sym active_is) table;
      reserves = subst HasNoReserve (sym active_is) reserves;
      ledger = subst (λ (t : Table). IsLedgerOf (volume_with u s h t) x.ledger) (sym active_is) ledger;
    }

  -- ---- all of them

  share : (s k : ℕ) (a b : VolumeState) → state_at states s ≡ Some a → state_at states k ≡ Some b → a.name ≡ b.name → share_name (u.head s) (u.head k) ≡ true
  share s k a b here there same =
      (λ j. share_name (head_there pool states disk.reads s a here j) (head_there pool states disk.reads k b there j)) ∙ ap (λ (n : List ℕ). is_same_name n b.name) same ∙ itself b.name

  apart : (s k : ℕ) (a b : VolumeState) → state_at states s ≡ Some a → state_at states k ≡ Some b → a.name ≡ b.name → s < k → ⊥
  unfolding layout_at
  apart s k a b here there same lt = true≢false
      (sym (share s k a b here there same) ∙ ap (λ (v : View). share_name (v.head s) (v.head k)) alike
      ∙ names_apart (root_found pool.found) disk.reads whole is.sound.names k s (is_inside states k b kept.long there) lt)

  names : AreNamed states
  names = from_pairs states (λ s k a b here there same. by s k a b here there same (cases_eq s k))
    where
      by : (s k : ℕ) (a b : VolumeState) → state_at states s ≡ Some a → state_at states k ≡ Some b → a.name ≡ b.name → (s ≡ k) ⊎ (s ≢ k) → s ≡ k
      by s k a b here there same (inl e) = e
      by s k a b here there same (inr differ) = ⊎_elim
          (λ (before : s < k). absurd (apart s k a b here there same before))
          (λ (after : k ≤ s). absurd (apart k s b a there here (sym same) (omega (arith, after, differ))))
          (cases_lt s k)

  -- Over an image that stands for a machine, the volumes are those of a machine.
  pub loaded_states : AreStates u no_trees states
  loaded_states = record { each = λ s. by s (state_at states s) refl; names = names; empty = λ s none. refl }
    where
      by : (s : ℕ) (o : Option VolumeState) → state_at states s ≡ o → IfSome o (IsState u no_trees s)
      by s None there = tt
      by s (Some x) there = loaded_state s x there
