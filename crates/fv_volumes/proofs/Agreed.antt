-- What a volume holds has the same blocks in the view of a session, also where it stands on another volume.
use Rattle.std.proofs.Common.{◌≡◌, ℕ, suc, ◌<◌, Bool, true, false, ◌&&◌, cond, List, [], ◌∷◌, Option, Some, None, is_some, refl, sym, ap, ◌∙◌, arith, ⊎_elim}
use Rattle.std.specs.Prelude.{nat_le, slice_index_or}
use Rattle.std.specs.Option.{option_map}
use Rattle.std.proofs.lemmas.Bool.{and_parts, or_cases}
use Rattle.fv_disk.specs.Shown.{Shown as Disk}
use Rattle.fv_codec.specs.Blocks.{greatest_word}
use Rattle.fv_tables.specs.Kept.{AgreeOnTable}
use Rattle.fv_tables.specs.Spelled.{pointer_at, stored}
use Rattle.fv_tree.specs.Standing.{under as blocks_of}
use Rattle.fv_files.specs.Tables.{AreReached}
use Rattle.fv_image.specs.Chains.{place, under}
use Rattle.fv_image.specs.Views.{Placed, View}
use Rattle.fv_container.specs.declared.entry.Entry.{Entry}
use Rattle.fv_container.specs.Chains.{Slots, chain_entry, parent_at}
use Rattle.fv_volmap.specs.Slots.{IsVolume, Slot, Volume as Maps, has, taken_in}
use Rattle.fv_pool.specs.declared.pool.Pool.{Pool}
use Rattle.fv_pool.specs.declared.rooted.Rooted.{Rooted}
use Rattle.fv_pool.specs.BlocksOver.{block_of, held_entry}
use Rattle.fv_volume.specs.declared.state.VolumeState.{VolumeState}
use Rattle.fv_volume.specs.OneVolume.{blocks_in, shows, uses_in}
use Rattle.fv_volume.specs.States.{States, parent_in, placed_in, state_at, view_over}
use Rattle.fv_pool.proofs.Shows.{get_held, slot_below}
use Rattle.fv_volume.proofs.SnapReads.{slot_held}
use Rattle.fv_volumes.proofs.Chains.{place_view}

-- ---- what is held lies below the span

-- a number that some slot has is one of a slot
pub taken_at : (slots : List Slot) (v : ℕ) → taken_in slots v ≡ true → (k : ℕ) × (has v (slice_index_or slots k None) ≡ true)
taken_at [] v e = absurd (wrong e)
  where
    wrong : false ≡ true → ⊥
    wrong e = cc
taken_at (s ∷ ss) v e = ⊎_elim
    (λ (here : has v s ≡ true). (0, here))
    (λ (later : taken_in ss v ≡ true). let r = taken_at ss v later in (suc r.0, r.1))
    (or_cases (has v s) (taken_in ss v) e)

module _ (map : Maps) (slots : Slots) (slot : ℕ) where
  -- an entry that is held is the first one along the chain,
  pub held_chain : (v : ℕ) (e : Entry) → held_entry map slots slot v ≡ Some e → chain_entry slots slot v ≡ Some e
  unfolding held_entry
  held_chain v e is = by (nat_le v 1048575 && taken_in map.slots v) is
    where
      by : (b : Bool) → cond b (chain_entry slots slot v) None ≡ Some e → chain_entry slots slot v ≡ Some e
      by true is = is
      by false is = absurd cc

  -- and its VVBN is one of the span
  pub held_below : IsVolume map → (v : ℕ) (e : Entry) → held_entry map slots slot v ≡ Some e → v < map.span
  unfolding held_entry
  held_below whole v e is = by (nat_le v 1048575 && taken_in map.slots v) refl is
    where
      by : (b : Bool) → (nat_le v 1048575 && taken_in map.slots v) ≡ b → cond b (chain_entry slots slot v) None ≡ Some e → v < map.span
      by true test is = let at = taken_at map.slots v (and_parts (nat_le v 1048575) (taken_in map.slots v) test).1 in slot_below map whole at.0 v at.1
      by false test is = absurd cc

-- ---- the view has what is held

module _ (disk : Disk) (pool : Pool) (states : States) (parents : (s : ℕ) → parent_at pool.containers s ≡ parent_in (state_at states s)) (x : VolumeState) (there : state_at states x.slot ≡ Some x) (whole : IsVolume x.map) (span : x.map.span ≡ x.span) where
  abbrev u : View
  u = view_over pool states disk.reads

  -- Each entry that is held is the place of its VVBN,
  pub place_held : (v : ℕ) (e : Entry) → held_entry x.map pool.containers x.slot v ≡ Some e → place u x.slot v ≡ placed_in pool.kept disk.reads (Some e)
  place_held v e held =
      let low : v < x.span = (let below = held_below x.map pool.containers x.slot whole v e held in omega (arith, below, span)) in
      place_view pool states disk.reads parents x.slot x there v low ∙ ap (placed_in pool.kept disk.reads) (held_chain x.map pool.containers x.slot v e held)

  -- so what is held has the same block in the view,
  pub held_there : (v : ℕ) → is_some (blocks_of (shows disk pool x) v) ≡ true → under u x.slot v ≡ blocks_of (shows disk pool x) v
  unfolding under
  held_there v some = by (held_entry x.map pool.containers x.slot v) refl
    where
      block : blocks_of (shows disk pool x) v ≡ block_of pool.kept disk.reads (held_entry x.map pool.containers x.slot v)
      block = get_held x.map pool x.slot disk.reads v

      by : (o : Option Entry) → held_entry x.map pool.containers x.slot v ≡ o → under u x.slot v ≡ blocks_of (shows disk pool x) v
      by None e = let wrong : is_some (blocks_of (shows disk pool x) v) ≡ false = ap is_some (block ∙ ap (block_of pool.kept disk.reads) e) in absurd cc
      by (Some e) held = ap (option_map (λ (p : Placed). p.block)) (place_held v e held) ∙ sym (block ∙ ap (block_of pool.kept disk.reads) held)

  -- and so has what a slot has.
  pub slot_there : (k v : ℕ) → is_some (blocks_in disk pool x k v) ≡ true → under u x.slot v ≡ blocks_in disk pool x k v
  slot_there k v some = let same = slot_held disk pool x k v some in held_there v (ap is_some same ∙ some) ∙ same

  -- So the view has what each root leads to, with or without a base.
  pub root_agrees : (k : ℕ) (root : Rooted) → AreReached (blocks_in disk pool x k) (uses_in pool x k) root.levels root.root → AgreeOnTable (blocks_in disk pool x k) (under u x.slot) root.levels root.root
  root_agrees k root reached = record {
    inode = λ level place some. slot_there k (pointer_at (stored (blocks_in disk pool x k) greatest_word root.levels root.root) level place).vvbn (reached.inode.held level place some);
    files = λ number r found level place some. slot_there k (pointer_at (stored (blocks_in disk pool x k) number r.levels r.root) level place).vvbn ((reached.files number r found).held level place some);
  }
