-- A snapshot that is made, removed or restored in a view is the machine's command on what the view tells.
use Rattle.std.proofs.Common.{◌≡◌, ◌≢◌, ℕ, ◌<◌, false, List, map, refl, sym, ap, ◌∙◌}
use Rattle.std.specs.Prelude.{Option, Some, None}
use Rattle.std.specs.List.{list_any}
use Rattle.std.specs.Option.{option_map_or}
use Rattle.std.specs.Ordering.{eq_by_cmp}
use Rattle.std.specs.FinMap as fin
use Rattle.fv_model.specs.declared.commands.Command.TheVariants.{SnapCreate, SnapDelete, SnapRestore}
use Rattle.fv_model.specs.Spelling.{name_cmp, is_same_name}
use Rattle.fv_model.specs.Tables.{Table, empty_table}
use Rattle.fv_model.specs.Volumes.{Volume}
use Rattle.fv_model.specs.Machines.{Machine}
use Rattle.fv_model.specs.Effects.{Change, Stays, Becomes, changed, at_snapshot, effect, change_of}
use Rattle.fv_laws.proofs.Orders.{name_total}
use Rattle.fv_image.specs.Views.{Rooted, Snap, Head, View}
use Rattle.fv_image.specs.Volumes.{table_at, active_at, snap_told, volume_with, told_with, told}
use Rattle.fv_image.specs.Turned.{turned, Turns, KeepsBases, added, without}
use Rattle.fv_image.proofs.SnapTables as tables
use Rattle.fv_image.proofs.TurnedViews.{turned_table, turned_with, volume_there}

-- ---- what a list of snapshots tells

module _ (w : View) (s : ℕ) where
  -- One more is told under its name,
  pub told_added : (p : Snap) (ps : List Snap) → list_any (is_same_name p.name) (map (λ p. p.name) ps) ≡ false
      → fin.from_entries {R = name_cmp} (map (snap_told w s) (added p ps)) ≡ fin.insert (fin.from_entries {R = name_cmp} (map (snap_told w s) ps)) p.name (table_at w s p.table)
  told_added = tables.told_added (λ p. table_at w s p.table)

  -- and without one its name is gone.
  pub told_without : (name : List ℕ) (ps : List Snap)
      → fin.from_entries {R = name_cmp} (map (snap_told w s) (without name ps)) ≡ fin.remove (fin.from_entries {R = name_cmp} (map (snap_told w s) ps)) name
  told_without = tables.told_without (λ p. table_at w s p.table)

-- ---- the commands, with active tables that may stand in memory

module _ (w u : View) (s : ℕ) (h : Head) (small : s < 64) (names : (r : ℕ) (g : Head) → r < s → w.head r ≡ Some g → eq_by_cmp name_cmp h.name g.name ≡ false)
    (x y : ℕ → Table) (others : (k : ℕ) → k ≢ s → y k ≡ x k) where
  abbrev m : Machine
  m = told_with w x

  -- what happens to the volume is what happens to it in the machine
  happens : w.head s ≡ Some h → (change : Volume → Change) → changed m (option_map_or change (fin.get m.volumes h.name) Stays) ≡ changed m (change (volume_with w s h (x s)))
  happens was change = ap (λ (o : Option Volume). changed m (option_map_or change o Stays)) (volume_there w x s h was small names)

  -- A snapshot of the active table is made: the second view has it among the others under a new name. The active table stands in its blocks.
  pub created_with : (p : Snap) → p.table ≡ h.active → x s ≡ table_at w s h.active → y s ≡ x s → list_any (is_same_name p.name) (map (λ p. p.name) h.snapshots) ≡ false
      → Turns w u s h h.active (added p h.snapshots) → KeepsBases w s h (added p h.snapshots) → told_with u y ≡ effect m (SnapCreate h.name p.name)
  unfolding change_of volume_with
  created_with p table stands same none turns keeps =
      turned_with w u s h h.active (added p h.snapshots) turns keeps x y others names small
      ∙ ap (λ (v : Volume). record m { volumes = fin.insert m.volumes h.name v }) volume
      ∙ sym (happens turns.was (λ x. Becomes h.name (record x { snapshots = fin.insert x.snapshots p.name x.active })))
    where
      volume : volume_with w s (turned h h.active (added p h.snapshots)) (y s) ≡ record (volume_with w s h (x s)) { snapshots = fin.insert (volume_with w s h (x s)).snapshots p.name (x s) }
      volume = λ i. record (volume_with w s h (same i)) {
        snapshots = (told_added w s p h.snapshots none ∙ ap (fin.insert (fin.from_entries {R = name_cmp} (map (snap_told w s) h.snapshots)) p.name) (ap (table_at w s) table ∙ sym stands)) i;
      }

  -- A snapshot is removed.
  pub deleted_with : (name : List ℕ) → y s ≡ x s → Turns w u s h h.active (without name h.snapshots) → KeepsBases w s h (without name h.snapshots) → told_with u y ≡ effect m (SnapDelete h.name name)
  unfolding change_of volume_with
  deleted_with name same turns keeps =
      turned_with w u s h h.active (without name h.snapshots) turns keeps x y others names small
      ∙ ap (λ (v : Volume). record m { volumes = fin.insert m.volumes h.name v }) volume
      ∙ sym (happens turns.was (λ x. Becomes h.name (record x { snapshots = fin.remove x.snapshots name })))
    where
      volume : volume_with w s (turned h h.active (without name h.snapshots)) (y s) ≡ record (volume_with w s h (x s)) { snapshots = fin.remove (volume_with w s h (x s)).snapshots name }
      volume = λ i. record (volume_with w s h (same i)) { snapshots = told_without w s name h.snapshots i }

  -- A snapshot's table is the active one.
  pub restored_with : (name : List ℕ) (r : Rooted) → fin.find name_cmp name (map (snap_told w s) h.snapshots) ≡ Some (table_at w s r) → y s ≡ table_at w s r
      → Turns w u s h r h.snapshots → KeepsBases w s h h.snapshots → told_with u y ≡ effect m (SnapRestore h.name name)
  unfolding change_of volume_with
  restored_with name r looks table turns keeps =
      turned_with w u s h r h.snapshots turns keeps x y others names small
      ∙ ap (λ (v : Volume). record m { volumes = fin.insert m.volumes h.name v }) volume
      ∙ sym (happens turns.was (λ x. at_snapshot x name (λ t. Becomes h.name (record x { active = t })))
      ∙ ap (λ (o : Option Table). changed m (option_map_or (λ t. Becomes h.name (record (volume_with w s h (x s)) { active = t })) o Stays)) at)
    where
      at : fin.get (volume_with w s h (x s)).snapshots name ≡ Some (table_at w s r)
      at = fin.get-from_entries name_total (map (snap_told w s) h.snapshots) name ∙ looks

      volume : volume_with w s (turned h r h.snapshots) (y s) ≡ record (volume_with w s h (x s)) { active = table_at w s r }
      volume = λ i. record (volume_with w s h (x s)) { active = table i }

-- ---- the same, with all tables in their blocks

module _ (w u : View) (s : ℕ) (h : Head) (small : s < 64) (names : (r : ℕ) (g : Head) → r < s → w.head r ≡ Some g → eq_by_cmp name_cmp h.name g.name ≡ false) where
  active_is : (v : View) (g : Head) → v.head s ≡ Some g → active_at v s ≡ table_at v s g.active
  active_is v g is = ap (λ (o : Option Head). option_map_or (λ h. table_at v s h.active) o empty_table) is

  module _ (a : Rooted) (ps : List Snap) (turns : Turns w u s h a ps) where
    others_stay : (k : ℕ) → k ≢ s → active_at u k ≡ active_at w k
    others_stay k other = ap (λ (o : Option Head). option_map_or (λ h. table_at u k h.active) o empty_table) (turns.others k other) ∙ so (w.head k)
      where
        so : (o : Option Head) → option_map_or (λ h. table_at u k h.active) o empty_table ≡ option_map_or (λ h. table_at w k h.active) o empty_table
        so None = refl
        so (Some g) = turned_table w u s h a ps turns k g.active

    active_now : active_at u s ≡ table_at w s a
    active_now = active_is u (turned h a ps) turns.now ∙ turned_table w u s h a ps turns s a

  pub created : (p : Snap) → p.table ≡ h.active → list_any (is_same_name p.name) (map (λ p. p.name) h.snapshots) ≡ false
      → Turns w u s h h.active (added p h.snapshots) → KeepsBases w s h (added p h.snapshots) → told u ≡ effect (told w) (SnapCreate h.name p.name)
  created p table none turns keeps = created_with w u s h small names (active_at w) (active_at u) (others_stay h.active (added p h.snapshots) turns) p table
      (active_is w h turns.was) (active_now h.active (added p h.snapshots) turns ∙ sym (active_is w h turns.was)) none turns keeps

  pub deleted : (name : List ℕ) → Turns w u s h h.active (without name h.snapshots) → KeepsBases w s h (without name h.snapshots) → told u ≡ effect (told w) (SnapDelete h.name name)
  deleted name turns keeps = deleted_with w u s h small names (active_at w) (active_at u) (others_stay h.active (without name h.snapshots) turns) name
      (active_now h.active (without name h.snapshots) turns ∙ sym (active_is w h turns.was)) turns keeps

  pub restored : (name : List ℕ) (r : Rooted) → fin.find name_cmp name (map (snap_told w s) h.snapshots) ≡ Some (table_at w s r) → Turns w u s h r h.snapshots → KeepsBases w s h h.snapshots
      → told u ≡ effect (told w) (SnapRestore h.name name)
  restored name r looks turns keeps = restored_with w u s h small names (active_at w) (active_at u) (others_stay r h.snapshots turns) name r looks (active_now r h.snapshots turns) turns keeps
