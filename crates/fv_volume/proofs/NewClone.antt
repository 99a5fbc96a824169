-- A clone as it is made: it stands for a volume of the machine, over the blocks of its parent.
use Rattle.std.proofs.Common.{◌≡◌, ℕ, ◌*◌, Bool, true, false, not, ◌&&◌, ◌||◌, List, [], ◌∷◌, length, map, Option, Some, None, inl, inr, refl, sym, ap, ap₂, subst, ◌∙◌, arith}
use Rattle.std.specs.Prelude.{All, cond, nat_le}
use Rattle.std.specs.FinMap as fin
use Rattle.std.specs.FinSet as set
use Rattle.fv_disk.specs.Shown.{Shown as Disk}
use Rattle.fv_model.specs.Spelling.{name_cmp}
use Rattle.fv_model.specs.Tables.{Table}
use Rattle.fv_model.specs.Places.{Id, id_cmp, ids_of}
use Rattle.fv_model.specs.declared.commands.Kind.{Kind}
use Rattle.fv_model.specs.Effects.{clone_of}
use Rattle.fv_model.specs.Space.{charge, ids_in_any, ids_left_out, kept_ids, map_blocks, span_of}
use Rattle.fv_model.specs.Volumes.{Base as ModelBase, Volume}
use Rattle.fv_laws.proofs.Lists.{In}
use Rattle.fv_laws.proofs.Orders.{id_total, id_ties}
use Rattle.fv_laws.proofs.PathCharges.{no_need}
use Rattle.fv_laws.specs.Positions.{HasNoReserve}
use Rattle.fv_laws.specs.WellFormed.{IsWellTable}
use Rattle.fv_charge.specs.Ledgers.{IsLedgerOf}
use Rattle.fv_container.specs.declared.entry.Entry.{Entry}
use Rattle.fv_container.specs.Chains.{chain_entry, container_at, own_entry}
use Rattle.fv_tables.specs.Spelled.{Under}
use Rattle.fv_tables.specs.Told.{standing_at, table_told}
use Rattle.fv_files.specs.Apart.{stored_trees}
use Rattle.fv_files.specs.Numbering.{AreNumbersIf}
use Rattle.fv_image.specs.ReachRules.{are_distinct}
use Rattle.fv_volmap.specs.Slots.{has, slot_at, slot_of_base, taken_in}
use Rattle.fv_pool.specs.declared.pool.Pool.{Pool}
use Rattle.fv_volume.specs.declared.state.Base.{Base}
use Rattle.fv_volume.specs.declared.state.Snap.{Snap}
use Rattle.fv_volume.specs.declared.state.VolumeState.{VolumeState}
use Rattle.fv_pool.specs.BlocksOver.{held_entry}
use Rattle.fv_pool.specs.Lending.{IsTold}
use Rattle.fv_volume.specs.NewClone.{IsNewClone, RestsOn}
use Rattle.fv_volume.specs.OneVolume.{base_by, blocks_in, snaps_by, standing_kept, table_for, tables_of, volume_for, IsKeptTable, IsStanding, RootStands}
use Rattle.fv_volume.specs.Placing.{IsLedTo, IsStoredWell}
use Rattle.fv_volume.proofs.ActiveRoot.{root_leads, root_standing, root_table, root_well}
use Rattle.fv_volume.proofs.Based.{based_blocks, based_root, held_same}
use Rattle.fv_volume.proofs.AllRoots.{are_shared, kept_share, roots, shares_again, EachShares, WasRoot}
use Rattle.fv_volume.proofs.EachRoot.{all_among, all_in}

-- A volume without snapshots whose table is that of its base is charged for nothing.
pub charges_nothing : (v : Volume) (b : ModelBase) → v.base ≡ Some b → b.splitting ≡ false → b.table ≡ v.active → v.snapshots ≡ fin.empty → charge v ≡ 0
unfolding charge
charges_nothing v b based whole same none =
    let no_maps : fin.len v.snapshots ≡ 0 = ap fin.len none ∙ fin.len-empty name_cmp Table in
    let maps : map_blocks v.span * fin.len v.snapshots ≡ 0 = ap (λ n. map_blocks v.span * n) no_maps ∙ nothing (map_blocks v.span) in
    let ids : set.len (set.difference (set.union (ids_of v.active) (kept_ids v)) (ids_left_out v.base)) ≡ 0 =
    ap set.len (set.same_set id_total id_ties _ set.empty (λ i.
    set.contains-difference id_total (set.union (ids_of v.active) (kept_ids v)) (ids_left_out v.base) i
    ∙ (λ j. (set.contains-union id_total (ids_of v.active) (kept_ids v) i ∙ ap (λ t. set.contains (ids_of v.active) i || t) (kept_none i)) j && not (left i j))
    ∙ last (set.contains (ids_of v.active) i) ∙ sym (set.contains-empty id_cmp i)))
    ∙ set.len-empty id_cmp in
    omega (arith, ids, maps)
  where
    nothing : (n : ℕ) → n * 0 ≡ 0
    nothing n = grind (arith)

    nil : {X : Type 0} (es : List X) → length es ≡ 0 → es ≡ []
    nil [] e = refl
    nil (x ∷ es) e = absurd (omega arith)

    no_table : fin.values (fin.empty {K = List ℕ} {X = Table} {R = name_cmp}) ≡ []
    no_table = ap (map (λ (e : List ℕ × Table). e.1)) (nil _ (sym (fin.len-entries (fin.empty {K = List ℕ} {X = Table} {R = name_cmp})) ∙ fin.len-empty name_cmp Table))

    no_values : (m : fin.FinMap name_cmp Table) → fin.len m ≡ 0 → fin.values m ≡ []
    no_values m e = ap (λ (z : fin.FinMap name_cmp Table). fin.values z) (fin.empty_of_len m e) ∙ no_table

    kept_none : (i : Id) → set.contains (kept_ids v) i ≡ false
    kept_none i = ap (λ (ts : List Table). set.contains (ids_in_any ts) i) (no_values v.snapshots (ap fin.len none ∙ fin.len-empty name_cmp Table)) ∙ set.contains-empty id_cmp i

    left : (i : Id) → set.contains (ids_left_out v.base) i ≡ set.contains (ids_of v.active) i
    left i = ap (λ (o : Option ModelBase). set.contains (ids_left_out o) i) based ∙ ap (λ (t : Bool). set.contains (cond t set.empty (ids_of b.table)) i) whole ∙ ap (λ (t : Table). set.contains (ids_of t) i) same

    last : (t : Bool) → ((t || false) && not t) ≡ false
    last true = refl
    last false = refl

module _ (disk : Disk) (pool : Pool) (x y : VolumeState) (q : Snap) (b : Base) (is : IsNewClone pool x y q b) (stands : IsStanding disk pool y) (there : In q (tables_of y)) where
  abbrev table : Table
  table = table_told (standing_kept (blocks_in disk pool y) q)

  its : IsKeptTable disk pool y q
  its = all_in (IsKeptTable disk pool y) (tables_of y) stands.kept q there

  well : IsWellTable x.now table
  well = subst (λ (n : ℕ). IsWellTable n table) (sym is.now) its.1.table

  -- the snapshot's table lies whole in both slots
  root_here : (k : ℕ) → RestsOn pool.containers x k y q.slot → RootStands disk pool x k q.table
  root_here k rests = based_root disk pool x k y q.slot rests is.known q.table its.1 well

  pub root_now : RootStands disk pool x 0 x.active
  root_now = subst (RootStands disk pool x 0) (sym is.active) (root_here 0 is.active_slot)

  tables_are : tables_of x ≡ record { slot = slot_of_base; name = b.snapshot; table = b.table } ∷ []
  tables_are = λ i. (ap₂ (λ (o : Option Base) (ps : List Snap). base_table_and o ps) is.based is.snapshots) i
    where
      base_table_and : Option Base → List Snap → List Snap
      base_table_and o ps = tables_of (record x { base = o; snapshots = ps })

  abbrev base_root : Snap
  base_root = record { slot = slot_of_base; name = b.snapshot; table = b.table }

  kept_base : IsKeptTable disk pool x base_root
  kept_base = ((λ e. wrong e), subst (RootStands disk pool x slot_of_base) (sym is.table) (root_here slot_of_base is.base_slot))
    where
      wrong : slot_of_base ≡ 0 → ⊥
      wrong e = omega (arith, e)

  pub kept_now : All (IsKeptTable disk pool x) (tables_of x)
  kept_now = all_among (IsKeptTable disk pool x) (tables_of x) (λ r one. by r (subst (In r) tables_are one))
    where
      by : (r : Snap) → In r (base_root ∷ []) → IsKeptTable disk pool x r
      by r (inl e) = subst (IsKeptTable disk pool x) e kept_base
      by r (inr none) = absurd none

  -- no two numbers lead to one block
  told_now : IsTold disk pool x.map x.slot
  unfolding held_entry
  told_now = (
    stands.told.0,
    record {
      own = λ v e own. absurd (no_entry v e own);
      held = λ v e held. stands.told.1.held v e (sym (held_same disk pool x slot_of_base y q.slot is.base_slot v (member v e held)) ∙ held);
      own_apart = λ v w other e own. absurd (no_entry v e own);
      held_apart = λ v w other e own. absurd (no_entry v e own);
    },
    stands.told.2,
  )
    where
      member : (v : ℕ) (e : Entry) → held_entry x.map pool.containers x.slot v ≡ Some e → has v (slot_at x.map slot_of_base) ≡ true
      member v e held = is.only v (by (nat_le v 1048575) (taken_in x.map.slots v) refl held)
        where
          by : (a c : Bool) → taken_in x.map.slots v ≡ c → cond (a && c) (chain_entry pool.containers x.slot v) None ≡ Some e → taken_in x.map.slots v ≡ true
          by true true at f = at
          by true false at f = absurd cc
          by false c at f = absurd cc

      no_entry : (v : ℕ) (e : Entry) → own_entry (container_at pool.containers x.slot) v ≡ Some e → ⊥
      no_entry v e own = let wrong : ◌≡◌ {A = Option Entry} None (Some e) = sym (is.holes v) ∙ own in cc

  -- each root was the snapshot's
  was_root : (r : Snap) → In r (roots x) → WasRoot disk pool y x (tables_of y) r
  was_root r (inl e) = subst (WasRoot disk pool y x (tables_of y)) e (record {
    root = q;
    there = there;
    trees = (λ i. stored_trees (blocks_in disk pool x 0) (is.active i).levels (is.active i).root) ∙ ap (λ (u : Under). stored_trees u q.table.levels q.table.root) (based_blocks disk pool x 0 y q.slot is.active_slot);
  })
  was_root r (inr later) = by (subst (In r) tables_are later)
    where
      by : In r (base_root ∷ []) → WasRoot disk pool y x (tables_of y) r
      by (inl e) = subst (WasRoot disk pool y x (tables_of y)) e (record {
        root = q;
        there = there;
        trees = (λ i. stored_trees (blocks_in disk pool x slot_of_base) (is.table i).levels (is.table i).root) ∙ ap (λ (u : Under). stored_trees u q.table.levels q.table.root) (based_blocks disk pool x slot_of_base y q.slot is.base_slot);
      })
      by (inr none) = absurd none

  each_now : EachShares disk pool x (roots x)
  each_now = shares_again disk pool y x (tables_of y) was_root (kept_share disk pool y stands.shared)

  -- Its table is the snapshot's,
  pub table_is : table_for disk pool x ≡ table
  table_is = root_table disk pool x root_now is.files ∙ (λ i. table_told (standing_at (blocks_in disk pool x 0) (is.active i).levels (is.active i).root))
      ∙ ap (λ (u : Under). table_told (standing_at u q.table.levels q.table.root)) (based_blocks disk pool x 0 y q.slot is.active_slot)

  abbrev base_is : ModelBase
  base_is = record { parent = b.name; snapshot = b.snapshot; table = table; splitting = false }

  -- so is that of its base,
  pub based_on : (volume_for disk pool x).base ≡ Some base_is
  based_on = ap (base_by (blocks_in disk pool x)) is.based
      ∙ (λ i. Some (record { parent = b.name; snapshot = b.snapshot; table = table_told (standing_at (blocks_in disk pool x slot_of_base) (is.table i).levels (is.table i).root); splitting = is.whole i }))
      ∙ ap (λ (u : Under). Some (record { parent = b.name; snapshot = b.snapshot; table = table_told (standing_at u q.table.levels q.table.root); splitting = false })) (based_blocks disk pool x slot_of_base y q.slot is.base_slot)

  -- and it has no snapshot.
  pub none_kept : (volume_for disk pool x).snapshots ≡ fin.empty
  none_kept = ap (snaps_by (blocks_in disk pool x)) is.snapshots

  ledger_now : IsLedgerOf (volume_for disk pool x) x.ledger
  ledger_now = subst (IsLedgerOf (volume_for disk pool x)) (sym is.ledger) (record {
    charged = sym (charges_nothing (volume_for disk pool x) base_is based_on refl (sym table_is) none_kept);
    needed = sym (no_need (volume_for disk pool x) (subst HasNoReserve (sym table_is) its.1.reserves));
    size = refl;
    kind = refl;
    span = refl;
  })

  -- So it stands for a volume of the machine,
  pub new_standing : IsStanding disk pool x
  new_standing = root_standing disk pool x root_now is.files told_now kept_now (ap (λ (ps : List Snap). are_distinct (map (λ (q : Snap). q.name) ps)) is.snapshots) (are_shared disk pool x is.files root_now each_now) ledger_now
      (subst (λ o. AreNumbersIf o (table_for disk pool x)) (sym is.numbers) tt)

  -- what is in use of it is led to, and stored well.
  pub new_led : IsLedTo disk pool x
  new_led = root_leads disk pool x root_now is.files

  pub new_well : IsStoredWell disk pool x
  new_well = root_well disk pool x root_now is.files

  -- So it is told as the machine's clone, where its numbers are those.
  pub new_told : (size : ℕ) (kind : Kind) → x.kind ≡ kind → x.size ≡ size → x.most ≡ 2 * size → x.known ≡ true → x.span ≡ span_of size (set.len (ids_of table)) y.span → b.name ≡ y.name → b.snapshot ≡ q.name
      → volume_for disk pool x ≡ clone_of y.name (volume_for disk pool y) q.name table size kind
  new_told size kind kind_is size_is most known span parent snapshot = λ i. record {
    kind = kind_is i;
    size = size_is i;
    most = most i;
    span = span i;
    now = is.now i;
    active = table_is i;
    snapshots = none_kept i;
    base = (based_on ∙ (λ j. Some (record { parent = parent j; snapshot = snapshot j; table = table; splitting = false }))) i;
    known = known i;
  }
