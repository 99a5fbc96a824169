-- What is loaded tells what its image tells.
use Rattle.std.proofs.Common.{◌≡◌, ◌<◌, ◌≤◌, ℕ, false, cond, nat_lt, List, length, Option, Some, None, get_or, refl, sym, ap, ◌∙◌, ⊎_elim, arith}
use Rattle.std.specs.Prelude.{IfSome, ◌==◌, Bool}
use Rattle.std.specs.Option.{option_map}
use Rattle.std.specs.FinMap as fin
use Rattle.std.specs.Ordering.{nat_cmp}
use Rattle.std.proofs.lemmas.Bool.{cases_lt}
use Rattle.std.proofs.lemmas.Bool.Decides.{nat_tests}
use Rattle.std.proofs.lemmas.List.{get_or_past}
use Rattle.std.proofs.lemmas.List.Elements.{All-get_or}
use Rattle.fv_disk.specs.Shown.{Image}
use Rattle.fv_codec.specs.declared.label.Label.{Label}
use Rattle.fv_model.specs.Machines.{Machine}
use Rattle.fv_image.specs.Containers.{container_entry}
use Rattle.fv_image.specs.Views.{Placed, View, head_of}
use Rattle.fv_image.specs.Held.{entry_from, label_in, label_place, layout_at, lying_at, placed, view_at}
use Rattle.fv_image.specs.Volumes.{told}
use Rattle.fv_image.specs.WholeMachine.{Tells}
use Rattle.fv_image.proofs.Heads.{head_told}
use Rattle.fv_container.specs.declared.entry.Entry.{Entry}
use Rattle.fv_container.specs.Chains.{Slots, container_at, map_in, own_entry, slot_count}
use Rattle.fv_container.specs.Mapped.{IsHeld, IsMapped, Mapped, entry_under}
use Rattle.fv_container.specs.Paged.{Paged}
use Rattle.fv_container.specs.Spelled.{pair_of}
use Rattle.fv_root.specs.declared.find.Found.{Found}
use Rattle.fv_root.specs.Finding.{root_found}
use Rattle.fv_pool.specs.declared.pool.Pool.{Pool}
use Rattle.fv_pool.specs.Opening.{IsAsFound}
use Rattle.fv_pool.specs.Keeping.{Blocks, kept_or}
use Rattle.fv_volume.specs.Loading.{IsContainerOf, KeptTo, LoadedTo, label_of}
use Rattle.fv_volume.specs.States.{States, head_in, placed_in, state_at, view_over}
use Rattle.fv_volume.specs.Trees.{machine_in, no_trees}
use Rattle.fv_volumes.proofs.Trees.{unchanged_machine}

module _ (kept : Blocks) (i : Image) (empty : (b : ℕ) → fin.get kept b ≡ None) where
  placed_pair : (e : Option Entry) → IfSome e IsHeld → placed_in kept i e ≡ placed i (pair_of e)
  placed_pair None is = refl
  placed_pair (Some e) is =
      let some : (e.kind == 0) ≡ false = let least : 1 ≤ e.kind = is.kind_least in grind (arith, nat_tests, least) in
      ap (with_block e) (ap (λ (o : Option (List ℕ)). kept_or o (i e.pvbn)) (empty e.pvbn))
      ∙ sym (ap (λ (t : Bool). cond t None (with_block e (i e.pvbn))) some)
    where
      with_block : Entry → List ℕ → Option Placed
      with_block x block = Some (record { pvbn = x.pvbn; kind = x.kind; block = block })

  held_entry : (map : Mapped) (v : ℕ) → IsMapped map → IfSome (entry_under map v) IsHeld
  held_entry map v is = ⊎_elim
      (λ (inside : v < length map.entries). All-get_or (λ (e : Option Entry). IfSome e IsHeld) map.entries v None inside is.entries)
      (λ (past : length map.entries ≤ v). nothing (entry_under map v) (get_or_past map.entries v None past))
      (cases_lt v (length map.entries))
    where
      nothing : (e : Option Entry) → e ≡ None → IfSome e IsHeld
      nothing None is = tt
      nothing (Some e) is = cc

  pub entry_of : (l : Option Label) (c : Option Mapped) (v : ℕ) → IsContainerOf i l c → placed_in kept i (own_entry c v) ≡ entry_from l i v
  unfolding entry_from
  entry_of None None v is = refl
  entry_of None (Some map) v is = absurd is
  entry_of (Some l) None v is = absurd is
  entry_of (Some l) (Some map) v is =
      placed_pair (entry_under map v) (held_entry map v is.1.1)
      ∙ ap (placed i) (sym (is.0.entries v))
      ∙ ap (λ n. placed i (container_entry i l.container l.height n v)) is.1.0

module _ (found : Found) (i : Image) (states : States) (containers : Slots) (long : length states ≡ 64) (few : length containers.containers ≡ 64) (loaded : LoadedTo i found slot_count states containers) where
  no_label : (s : ℕ) → 64 ≤ s → label_of found i s ≡ None
  unfolding label_place label_in
  no_label s past = let test : nat_lt s 64 ≡ false = grind (arith, nat_tests, past) in ap (λ t. label_in (lying_at i (cond t (get_or found.root.labels s 0) 0))) test

  head_is : (s : ℕ) → option_map head_in (state_at states s) ≡ option_map head_of (label_of found i s)
  head_is s = ⊎_elim
      (λ (inside : s < 64). (loaded.each s inside).head)
      (λ (past : 64 ≤ s). ap (option_map head_in) (get_or_past states s None (omega (arith, past, long))) ∙ sym (ap (option_map head_of) (no_label s past)))
      (cases_lt s 64)

  entry_is : (blocks : Blocks) → ((b : ℕ) → fin.get blocks b ≡ None) → (s v : ℕ) → placed_in blocks i (own_entry (container_at containers s) v) ≡ entry_from (label_of found i s) i v
  unfolding entry_from
  entry_is blocks empty s v = ⊎_elim
      (λ (inside : s < 64). entry_of blocks i empty (label_of found i s) (container_at containers s) v (loaded.each s inside).tree)
      (λ (past : 64 ≤ s). ap (λ (c : Option Paged). placed_in blocks i (own_entry (map_in c) v)) (get_or_past containers.containers s None (omega (arith, past, few))) ∙ sym (ap (λ (l : Option Label). entry_from l i v) (no_label s past)))
      (cases_lt s 64)

-- a session of what stands on its disk has the view of its image
pub viewed : (pool : Pool) (i : Image) (states : States) → length states ≡ 64 → length pool.containers.containers ≡ 64 → LoadedTo i pool.found slot_count states pool.containers → IsAsFound pool
    → view_over pool states i ≡ view_at (root_found pool.found) i
unfolding view_over view_at
viewed pool i states long few loaded none =
    let empty : (b : ℕ) → fin.get pool.kept b ≡ None = λ b. ap (λ (m : Blocks). fin.get m b) none.kept ∙ fin.get-empty nat_cmp b in
    λ j. record {
      blocks = pool.found.blocks;
      version = none.version j;
      head = λ s. (head_is pool.found i states pool.containers long few loaded s ∙ sym (head_told (root_found pool.found) i s)) j;
      entry = λ s v. entry_is pool.found i states pool.containers long few loaded pool.kept empty s v j;
    }

module _ (pool : Pool) (i : Image) (states : States) (kept : KeptTo slot_count states pool.containers) (loaded : LoadedTo i pool.found slot_count states pool.containers) (none : IsAsFound pool)
    (m : Machine) (is : Tells (layout_at (root_found pool.found) i) m) where
  abbrev w : View
  w = view_at (root_found pool.found) i

  seen_alike : view_over pool states i ≡ w
  seen_alike = viewed pool i states kept.long kept.few loaded none

  pub loaded_machine : machine_in pool states no_trees i ≡ m
  unfolding layout_at
  loaded_machine = unchanged_machine pool states no_trees i (λ s. refl) ∙ ap told seen_alike ∙ is.machine
