-- The table of a snapshot by all blocks that its volume holds, as a read of it sees them, is the one that the volume stands for.
use Rattle.std.proofs.Common.{◌≡◌, ℕ, Bool, true, false, cond, List, [], ◌∷◌, Option, Some, None, is_some, refl, sym, ap, subst, ◌∙◌}
use Rattle.std.specs.Prelude.{All, find, if◌then◌else◌, map}
use Rattle.std.specs.Option.{option_map}
use Rattle.std.specs.FinMap as fin
use Rattle.std.proofs.lemmas.List.Elements.{All-head, All-tail}
use Rattle.fv_disk.specs.Shown.{Shown as Disk}
use Rattle.fv_codec.specs.Blocks.{greatest_word}
use Rattle.fv_model.specs.Refusals.{table_asked}
use Rattle.fv_model.specs.Spelling.{is_same_name, name_cmp}
use Rattle.fv_model.specs.Tables.{Table}
use Rattle.fv_laws.specs.WellFormed.{IsWellTable}
use Rattle.fv_laws.proofs.Orders.{name_total}
use Rattle.fv_tables.specs.Spelled.{Under, pointer_at, stored}
use Rattle.fv_tables.specs.Told.{Standing, standing_at, table_told}
use Rattle.fv_tables.proofs.Tables.{kept_table}
use Rattle.fv_tree.specs.Standing.{under}
use Rattle.fv_volmap.specs.Slots.{has, slot_at}
use Rattle.fv_pool.specs.declared.pool.Pool.{Pool}
use Rattle.fv_volume.specs.declared.state.Snap.{Snap}
use Rattle.fv_volume.specs.declared.state.VolumeState.{VolumeState}
use Rattle.fv_volume.specs.declared.tables.TableAsked.TheVariants.{Kept}
use Rattle.fv_volume.specs.Asking.{snap_named, standing_asked, standing_of}
use Rattle.fv_pool.specs.BlocksOver.{held_block}
use Rattle.fv_volume.specs.OneVolume.{blocks_in, shows, snap_by, standing_for, standing_kept, volume_for, IsKeptTable, IsStanding}
use Rattle.fv_pool.proofs.Shows.{get_held}
use Rattle.fv_volume.proofs.TablesOf.{snaps_all}

-- what holds of each snapshot holds of the one that is found
pub found_among : (P : Snap → Type 0) (test : Snap → Bool) (snaps : List Snap) → All P snaps → (q : Snap) → find test snaps ≡ Some q → P q
found_among P test [] all q found = absurd cc
found_among P test (s ∷ ss) all q found = by (found_among P test ss (All-tail P s ss all) q) (test s) found
  where
    same : (a b : Snap) → Some a ≡ Some b → a ≡ b
    same a b e = cc

    by : (find test ss ≡ Some q → P q) → (b : Bool) → (if b then Some s else find test ss) ≡ Some q → P q
    by later true e = subst P (same s q e) (All-head P s ss all)
    by later false e = later e

module _ (d : Disk) (p : Pool) (x : VolumeState) where
  abbrev blocks : Under
  blocks = under (shows d p x)

  -- what a slot holds the volume holds
  pub slot_held : (k v : ℕ) → is_some (blocks_in d p x k v) ≡ true → blocks v ≡ blocks_in d p x k v
  slot_held k v some = get_held x.map p x.slot d.reads v ∙ by (has v (slot_at x.map k)) some
    where
      by : (b : Bool) → is_some (cond b (held_block x.map p x.slot d.reads v) None) ≡ true → held_block x.map p x.slot d.reads v ≡ cond b (held_block x.map p x.slot d.reads v) None
      by true some = refl
      by false some = absurd cc

  module _ (q : Snap) (is : IsKeptTable d p x q) where
    -- The table of a snapshot is told alike by all blocks that have what its slot holds,
    pub kept_by : (n : Under) → ((v : ℕ) → is_some (blocks_in d p x q.slot v) ≡ true → n v ≡ blocks_in d p x q.slot v) → table_told (standing_at n q.table.levels q.table.root) ≡ table_told (standing_kept (blocks_in d p x) q)
    kept_by n same = kept_table (blocks_in d p x q.slot) n q.table.levels q.table.root (record {
      inode = λ level place some. same (pointer_at (stored (blocks_in d p x q.slot) greatest_word q.table.levels q.table.root) level place).vvbn (is.1.trees.inode.held level place some);
      files = λ number r found level place some. same (pointer_at (stored (blocks_in d p x q.slot) number r.levels r.root) level place).vvbn ((is.1.trees.files number r found).held level place some);
    })

    -- and so by those that the volume holds.
    pub kept_told : table_told (standing_at blocks q.table.levels q.table.root) ≡ table_told (standing_kept (blocks_in d p x) q)
    kept_told = kept_by blocks (slot_held q.slot)

    pub kept_well : IsWellTable x.now (table_told (standing_at blocks q.table.levels q.table.root))
    kept_well = subst (IsWellTable x.now) (sym kept_told) is.1.table

  -- ---- by name

  abbrev told_of : Snap → Table
  told_of q = table_told (standing_at blocks q.table.levels q.table.root)

  -- the table of a name in the volume is that of the first snapshot of it
  found_table : (name : List ℕ) (snaps : List Snap) → All (IsKeptTable d p x) snaps → fin.find name_cmp name (map (snap_by (blocks_in d p x)) snaps) ≡ option_map told_of (snap_named snaps name)
  found_table name [] all = refl
  found_table name (s ∷ ss) all = by (found_table name ss (All-tail (IsKeptTable d p x) s ss all)) (is_same_name name s.name)
    where
      by : fin.find name_cmp name (map (snap_by (blocks_in d p x)) ss) ≡ option_map told_of (snap_named ss name) → (b : Bool) → cond b (Some (table_told (standing_kept (blocks_in d p x) s))) (fin.find name_cmp name (map (snap_by (blocks_in d p x)) ss)) ≡ option_map told_of (if b then Some s else snap_named ss name)
      by later true = ap (λ (t : Table). Some t) (sym (kept_told s (All-head (IsKeptTable d p x) s ss all)))
      by later false = later

  module _ (is : IsStanding d p x) where
    -- The machine finds the table that is asked, and none where there is none.
    pub asked_table : (s : Option (List ℕ)) → table_asked (volume_for d p x) s ≡ option_map table_told (standing_asked d p x s)
    asked_table None = refl
    asked_table (Some name) = fin.get-from_entries name_total (map (snap_by (blocks_in d p x)) x.snapshots) name ∙ found_table name x.snapshots (snaps_all (IsKeptTable d p x) x is.kept) ∙ twice (snap_named x.snapshots name)
      where
        twice : (o : Option Snap) → option_map told_of o ≡ option_map table_told (option_map (standing_of d p x) (option_map (λ (q : Snap). Kept q.table) o))
        twice None = refl
        twice (Some q) = refl

    -- it is well-formed
    pub asked_well : (s : Option (List ℕ)) (t : Standing) → standing_asked d p x s ≡ Some t → IsWellTable x.now (table_told t)
    asked_well None t asked = subst (λ (u : Standing). IsWellTable x.now (table_told u)) (same (standing_for d p x) t asked) is.table
      where
        same : (a b : Standing) → Some a ≡ Some b → a ≡ b
        same a b e = cc
    asked_well (Some name) t asked = by (snap_named x.snapshots name) refl asked
      where
        same : (a b : Standing) → Some a ≡ Some b → a ≡ b
        same a b e = cc

        by : (o : Option Snap) → snap_named x.snapshots name ≡ o → option_map (standing_of d p x) (option_map (λ (q : Snap). Kept q.table) o) ≡ Some t → IsWellTable x.now (table_told t)
        by None e at = absurd cc
        by (Some q) e at = subst (λ (u : Standing). IsWellTable x.now (table_told u)) (same (standing_at blocks q.table.levels q.table.root) t at)
            (kept_well q (found_among (IsKeptTable d p x) (λ (q : Snap). is_same_name name q.name) x.snapshots (snaps_all (IsKeptTable d p x) x is.kept) q e))
