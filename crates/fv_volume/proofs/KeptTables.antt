-- The tables of a volume's snapshots stay where its active table changes: what lies under the VVBNs that another slot than the active one has is
-- left as it is.
use Rattle.std.proofs.Common.{◌≡◌, ◌≢◌, ◌≤◌, ℕ, Bool, true, false, cond, List, [], ◌∷◌, ◌++◌, Option, Some, None, refl, sym, ap, ap₂, subst, ◌∙◌, arith}
use Rattle.std.specs.Prelude.{map, slice_index_or, All}
use Rattle.std.specs.FinMap as fin
use Rattle.std.proofs.lemmas.List.Elements.{All-head, All-tail, All-nil}
use Rattle.fv_disk.specs.Shown.{Shown as Disk}
use Rattle.fv_model.specs.Spelling.{name_cmp}
use Rattle.fv_model.specs.Tables.{Table}
use Rattle.fv_laws.proofs.Tables.{later_table}
use Rattle.fv_laws.specs.Positions.{IsAlone}
use Rattle.fv_tables.specs.Spelled.{Under}
use Rattle.fv_tree.specs.Sources.{Use}
use Rattle.fv_files.specs.Apart.{Trees, stored_trees}
use Rattle.fv_container.specs.declared.entry.Entry.{Entry}
use Rattle.fv_volmap.specs.Slots.{Slot, has, slot_at, slot_of_base}
use Rattle.fv_pool.specs.declared.pool.Pool.{Pool}
use Rattle.fv_volume.specs.declared.state.Base.{Base as StateBase}
use Rattle.fv_volume.specs.declared.state.Snap.{Snap}
use Rattle.fv_volume.specs.declared.state.VolumeState.{VolumeState}
use Rattle.fv_pool.specs.BlocksOver.{held_block, held_entry}
use Rattle.fv_pool.specs.Lending.{use_of}
use Rattle.fv_volume.specs.OneVolume.{base_by, base_table, base_told_by, blocks_in, snap_by, snaps_by, tables_of, uses_in, volume_for, IsKeptTable, IsTableIn}
use Rattle.fv_volume.specs.Sharing.{trees_kept, AreShared, SharesWith}
use Rattle.fv_volume.specs.States.{snap_in}

-- ---- a volume without snapshots

pub snaps_none : (snaps : List Snap) → map snap_in snaps ≡ [] → snaps ≡ []
snaps_none [] is = refl
snaps_none (s ∷ ss) is = absurd cc

-- what holds of each snapshot holds then
pub none_kept : (P : Snap → Type 0) (snaps : List Snap) → snaps ≡ [] → All P snaps
none_kept P snaps none = subst (All P) (sym none) (All-nil P)

-- and nothing is told of them
pub none_told : (blocks : ℕ → Under) (snaps : List Snap) → snaps ≡ [] → snaps_by blocks snaps ≡ fin.empty
none_told blocks snaps none = ap (snaps_by blocks) none

-- So one that keeps no table beside the active one stands for a volume with neither snapshots nor a base.
pub is_alone : (disk : Disk) (pool : Pool) (x : VolumeState) → tables_of x ≡ [] → IsAlone (volume_for disk pool x)
is_alone disk pool x none = by x.base none
  where
    by : (o : Option StateBase) → base_table o ++ x.snapshots ≡ [] → IsAlone (record (volume_for disk pool x) { base = base_by (blocks_in disk pool x) o })
    by None none = record { snapshots = none_told (blocks_in disk pool x) x.snapshots none; base = refl }
    by (Some b) none = absurd cc

-- ---- what a slot has

-- what stands by a test that is the same, and where it passes is the same
pub by_test : {X : Type 0} (a b : Bool) (x y : Option X) → a ≡ b → (b ≡ true → x ≡ y) → cond a x None ≡ cond b y None
by_test a true x y same is = ap (λ (t : Bool). cond t x None) same ∙ is refl
by_test a false x y same is = ap (λ (t : Bool). cond t x None) same

-- ---- the tables

-- All slots but the active one stay, and so do the entries of their numbers and the blocks under these.
module _ (d e : Disk) (p q : Pool) (x y : VolumeState) (later : x.now ≤ y.now) (slots : (k : ℕ) → k ≢ 0 → slot_at y.map k ≡ slot_at x.map k)
    (entries : (k v : ℕ) → k ≢ 0 → has v (slot_at x.map k) ≡ true → held_entry y.map q.containers y.slot v ≡ held_entry x.map p.containers x.slot v)
    (blocks : (k v : ℕ) → k ≢ 0 → has v (slot_at x.map k) ≡ true → held_block y.map q y.slot e.reads v ≡ held_block x.map p x.slot d.reads v) where
  same_blocks : (k : ℕ) → k ≢ 0 → blocks_in e q y k ≡ blocks_in d p x k
  same_blocks k other = λ i v. by_test (has v (slot_at y.map k)) (has v (slot_at x.map k)) (held_block y.map q y.slot e.reads v) (held_block x.map p x.slot d.reads v) (ap (has v) (slots k other)) (blocks k v other) i

  -- So the base that it is told by stays.
  pub kept_base : (o : Option StateBase) → base_told_by (blocks_in e q y) o ≡ base_told_by (blocks_in d p x) o
  kept_base o = ap (λ (u : Under). base_told_by (λ k. u) o) (same_blocks slot_of_base (λ is. above is))
    where
      above : slot_of_base ≡ 0 → ⊥
      above is = omega (arith, is)

  same_uses : (k : ℕ) → k ≢ 0 → uses_in q y k ≡ uses_in p x k
  same_uses k other = λ i v. by_test (has v (slot_at y.map k)) (has v (slot_at x.map k)) (Some (use_of (held_entry y.map q.containers y.slot v))) (Some (use_of (held_entry x.map p.containers x.slot v))) (ap (has v) (slots k other))
      (λ is. ap (λ (o : Option Entry). Some (use_of o)) (entries k v other is)) i

  -- So the table of each snapshot is told as before,
  pub kept_snaps : (snaps : List Snap) → All (IsKeptTable d p x) snaps → snaps_by (blocks_in e q y) snaps ≡ snaps_by (blocks_in d p x) snaps
  kept_snaps snaps all = ap (λ (es : List (List ℕ × Table)). fin.from_entries {R = name_cmp} es) (each snaps all)
    where
      each : (ss : List Snap) → All (IsKeptTable d p x) ss → map (snap_by (blocks_in e q y)) ss ≡ map (snap_by (blocks_in d p x)) ss
      each [] all = refl
      each (s ∷ ss) all = ap₂ (λ t ts. t ∷ ts) (ap (λ (u : Under). snap_by (λ k. u) s) (same_blocks s.slot (All-head (IsKeptTable d p x) s ss all).0)) (each ss (All-tail (IsKeptTable d p x) s ss all))

  -- So are its trees.
  kept_trees : (s : Snap) → s.slot ≢ 0 → trees_kept (blocks_in d p x) s ≡ trees_kept (blocks_in e q y) s
  kept_trees s other = ap (λ (u : Under). stored_trees u s.table.levels s.table.root) (sym (same_blocks s.slot other))

  -- What is shared with it is so still,
  pub kept_shared : (a : Trees) (snaps : List Snap) → All (IsKeptTable d p x) snaps → AreShared a (blocks_in d p x) snaps → AreShared a (blocks_in e q y) snaps
  kept_shared a snaps all is = record {
    active = λ n s lt. subst (SharesWith a) (kept_trees (slice_index_or snaps n s) (all n s lt).0) (is.active n s lt);
    kept = λ n s lt m r more. subst (λ (t : Trees). SharesWith t (trees_kept (blocks_in e q y) (slice_index_or snaps m r))) (kept_trees (slice_index_or snaps n s) (all n s lt).0)
        (subst (SharesWith (trees_kept (blocks_in d p x) (slice_index_or snaps n s))) (kept_trees (slice_index_or snaps m r) (all m r more).0) (is.kept n s lt m r more));
  }

  -- and it lies whole in its slot.
  pub kept_tables : y.known ≡ x.known → (snaps : List Snap) → All (IsKeptTable d p x) snaps → All (IsKeptTable e q y) snaps
  kept_tables known snaps all = λ k s lt. one (slice_index_or snaps k s) (all k s lt)
    where
      one : (s : Snap) → IsKeptTable d p x s → IsKeptTable e q y s
      one s is = (
        is.0,
        subst (λ (u : Under). IsTableIn y.known u (uses_in q y s.slot) (slot_at y.map s.slot) y.now s.table) (sym (same_blocks s.slot is.0))
            (subst (λ (uses : ℕ → Option Use). IsTableIn y.known (blocks_in d p x s.slot) uses (slot_at y.map s.slot) y.now s.table) (sym (same_uses s.slot is.0))
            (subst (λ (map : Slot). IsTableIn y.known (blocks_in d p x s.slot) (uses_in p x s.slot) map y.now s.table) (sym (slots s.slot is.0))
            (subst (λ (b : Bool). IsTableIn b (blocks_in d p x s.slot) (uses_in p x s.slot) (slot_at x.map s.slot) y.now s.table) (sym known) (after s is.1)))),
      )
        where
          after : (r : Snap) → IsTableIn x.known (blocks_in d p x r.slot) (uses_in p x r.slot) (slot_at x.map r.slot) x.now r.table → IsTableIn x.known (blocks_in d p x r.slot) (uses_in p x r.slot) (slot_at x.map r.slot) y.now r.table
          after r was = record { table = later_table x.now y.now _ later was.table; reserves = was.reserves; trees = was.trees; well = was.well; reach = was.reach }
