-- Volumes over a view in which all stays that their roots reach: they are those of the same machine.
use Rattle.std.proofs.Common.{◌≡◌, ℕ, ◌<◌, true, List, length, map, get_or, refl, sym, ap, subst, ◌∙◌}
use Rattle.std.specs.Prelude.{Option, Some, None, IfSome}
use Rattle.std.specs.Option.{option_map, option_map_or}
use Rattle.fv_model.specs.Tables.{empty_table}
use Rattle.fv_model.specs.Volumes.{Volume}
use Rattle.fv_laws.specs.WellFormed.{IsWellTable}
use Rattle.fv_laws.specs.Positions.{HasNoReserve}
use Rattle.fv_tables.specs.Reached.{Item, items, is_listed}
use Rattle.fv_image.specs.Mapped.{root_at}
use Rattle.fv_image.specs.Views.{Head, Rooted, View}
use Rattle.fv_image.specs.Volumes.{active_at, standing_of, table_at, volume_with}
use Rattle.fv_image.specs.Seen.{seen}
use Rattle.fv_image.specs.Soundness.{AreTables}
use Rattle.fv_image.specs.Staying.{StaysHeld, items_of, own_items}
use Rattle.fv_image.proofs.SameSeen.{left_listed, same_reach, same_table, same_volume}
use Rattle.fv_charge.specs.Ledgers.{IsLedgerOf}
use Rattle.fv_volume.specs.declared.state.VolumeState.{VolumeState}
use Rattle.fv_volume.specs.Files.{AreStates, IsState}
use Rattle.fv_volumes.specs.Housed.{HaveReaches, ReachesAll, settled_as, settled_at}
use Rattle.fv_volume.specs.States.{States, head_in, state_at, table_in}
use Rattle.fv_volume.specs.Trees.{no_trees, volume_now}
use Rattle.fv_volumes.proofs.Reaches.{root_listed}
use Rattle.fv_volumes.proofs.Settled.{names_stay, settled_has, still_labelled}
use Rattle.fv_volumes.proofs.Told.{is_inside}

module _ (w u : View) (states : States) (long : length states ≡ 64) (heads : (s : ℕ) → w.head s ≡ option_map head_in (state_at states s)) (stays : StaysHeld w u) (tables : AreTables (seen w)) where
  -- of one volume
  module _ (s : ℕ) (x : VolumeState) (there : state_at states s ≡ Some x) where
    inside : s < 64
    inside = is_inside states s x long there

    head_there : w.head s ≡ Some (head_in x)
    head_there = heads s ∙ ap (option_map head_in) there

    listed : (v : ℕ) → is_listed (items (standing_of w s (table_in x.active))) v ≡ true → is_listed (own_items w s (head_in x)) v ≡ true
    listed v is = left_listed (items (standing_of w s (table_in x.active))) (items_of w s (map (λ p. (p.slot, p.table)) (head_in x).snapshots)) v is

    active_of_head : (z : View) → z.head s ≡ Some (head_in x) → active_at z s ≡ table_at z s (table_in x.active)
    active_of_head z e = ap (λ (o : Option Head). option_map_or (λ h. table_at z s h.active) o empty_table) e

    -- it has the same active table
    pub active_same : active_at u s ≡ active_at w s
    active_same = active_of_head u (stays.heads s ∙ head_there) ∙ same_table w u stays tables.bases tables.rests s (head_in x) (table_in x.active) inside head_there listed ∙ sym (active_of_head w head_there)

    volume_same : volume_now u no_trees s (head_in x) ≡ volume_now w no_trees s (head_in x)
    volume_same = ap (volume_with u s (head_in x)) (active_of_head u (stays.heads s ∙ head_there)) ∙ same_volume w u stays tables.bases tables.rests s (head_in x) inside head_there ∙ sym (ap (volume_with w s (head_in x)) (active_of_head w head_there))

    state_same : IsState w no_trees s x → IsState u no_trees s x
    state_same is = record {
      labelled = is.labelled;
      table = subst (IsWellTable x.now) (sym active_same) is.table;
      reserves = subst HasNoReserve (sym active_same) is.reserves;
      ledger = subst (λ (v : Volume). IsLedgerOf v x.ledger) (sym volume_same) is.ledger;
    }

    -- each of its roots reaches the same
    same_items : (k : ℕ) (r : Rooted) → root_at (head_in x) k ≡ Some r → (v : ℕ) → is_listed (items (standing_of w s r)) v ≡ is_listed (items (standing_of u s r)) v
    same_items k r at v = sym (ap (λ (es : List Item). is_listed es v) (same_reach w u stays tables.bases tables.rests s (head_in x) r inside head_there (root_listed w s (head_in x) k r at)))

  -- Settled, too, they are volumes of that machine,
  module _ (stay : States) (labels : List ℕ) (settled : (s : ℕ) → state_at stay s ≡ settled_at labels states s) where
    pub states_stay : AreStates w no_trees states → AreStates u no_trees stay
    states_stay are = record {
      each = λ s. subst (λ (o : Option VolumeState). IfSome o (IsState u no_trees s)) (sym (settled s)) (by s (state_at states s) refl (are.each s));
      names = names_stay states stay labels settled are.names;
      empty = λ s none. refl;
    }
      where
        by : (s : ℕ) (o : Option VolumeState) → state_at states s ≡ o → IfSome o (IsState w no_trees s) → IfSome (option_map (settled_as (get_or labels s 0)) o) (IsState u no_trees s)
        by s None there is = tt
        by s (Some x) there is =
            let now = state_same s x there is in
            settled_has (IsState u no_trees s) x (get_or labels s 0) (λ e. record { labelled = still_labelled s x (get_or labels s 0) now.labelled; table = now.table; reserves = now.reserves; ledger = now.ledger }) (λ e. now)

    -- and the maps of each have what its roots reach.
    pub reach_stays : HaveReaches w states → HaveReaches u stay
    reach_stays have s low = subst (λ (o : Option VolumeState). IfSome o (ReachesAll u s)) (sym (settled s)) (by (state_at states s) refl (have s low))
      where
        by : (o : Option VolumeState) → state_at states s ≡ o → IfSome o (ReachesAll w s) → IfSome (option_map (settled_as (get_or labels s 0)) o) (ReachesAll u s)
        by None there is = tt
        by (Some x) there is = settled_has (ReachesAll u s) x (get_or labels s 0) (λ e k r at v. is k r at v ∙ same_items s x there k r at v) (λ e k r at v. is k r at v ∙ same_items s x there k r at v)
