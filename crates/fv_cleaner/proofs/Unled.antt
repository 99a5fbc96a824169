-- The rule on moving: no known pointer leads to what a clean step moves.
use Rattle.std.proofs.Common.{◌≡◌, ◌≢◌, ◌≤◌, ℕ, Bool, true, false, List, Some, refl, sym, ap, subst, ◌∙◌, ⊎_elim}
use Rattle.std.specs.List.{list_any}
use Rattle.std.proofs.lemmas.Bool.{cases_eq}
use Rattle.fv_disk.specs.Shown.{Shown as Disk}
use Rattle.fv_codec.specs.declared.pointer.Pointer.{Pointer}
use Rattle.fv_container.specs.Chains.{container_at, own_entry}
use Rattle.fv_image.specs.Views.{Placed}
use Rattle.fv_codec.specs.Blocks.{greatest_word}
use Rattle.fv_tables.specs.Spelled.{Under, stored, pointer_at}
use Rattle.fv_tree.specs.Beside.{unread}
use Rattle.fv_tree.specs.Flushing.{kind_for}
use Rattle.fv_tree.specs.Unknown.{LeadsUnknown}
use Rattle.fv_places.specs.ByKind.{form_of, pointers_by}
use Rattle.fv_image.specs.HintRules.{is_known, is_unknown}
use Rattle.fv_volmap.specs.Slots.{has, slot_at, slot_of_base}
use Rattle.fv_pool.specs.declared.pool.Pool.{Pool}
use Rattle.fv_volume.specs.declared.state.VolumeState.{VolumeState}
use Rattle.fv_cleaner.specs.Searching.{IsUnclear, Lies, lies_in, pointers_of}
use Rattle.fv_cleaner.specs.Stepping.{CleansBlock, CleansRoots, CleansVolume, IsUnled, IsUntold, LeadClear, LeadsClear, MovesOutside, MovesUnled, roots_of}
use Rattle.fv_cleaner.proofs.Rooted.{all_to}
use Rattle.fv_cleaner.proofs.Ruled.{led_unknown}

-- a known pointer leads to no block with an unknown one, so what leads to such a block isn't known
untold : (at : Lies) (v : ℕ) (x : Placed) → IsUnclear at v x → (p : Pointer) → LeadsClear at p → IsUntold v p
untold at v x unclear p leads same = by (is_known p) refl
  where
    by : (b : Bool) → is_known p ≡ b → b ≡ false
    by false is = refl
    by true is = let wrong : true ≡ false = sym unclear.unknown ∙ leads x is (ap at same ∙ unclear.there) in absurd cc

pub unclear_unled : (at : Lies) (roots : List Pointer) (v : ℕ) (x : Placed) → IsUnclear at v x → LeadClear at roots → IsUnled at roots v
unclear_unled at roots v x unclear lead = record {
  roots = all_to (LeadsClear at) (IsUntold v) (untold at v x unclear) roots lead.roots;
  blocks = λ w y there. all_to (LeadsClear at) (IsUntold v) (untold at v x unclear) (pointers_of y) (lead.blocks w y there);
}

module _ (disk : Disk) (pool : Pool) (x : VolumeState) (left : Pool) (y : VolumeState) where
  of_block : CleansBlock disk pool x left y → MovesUnled disk pool x left
  of_block cleans told lead v changed = ⊎_elim
      (λ (same : v ≡ cleans.vvbn). let next = cleans.next told in
      subst (IsUnled (lies_in x.map pool x.slot disk.reads) (roots_of x)) (sym same)
      (unclear_unled (lies_in x.map pool x.slot disk.reads) (roots_of x) cleans.vvbn _ next.1.unclear lead))
      (λ (other : v ≢ cleans.vvbn). absurd (changed (cleans.moves.entry.rest v other)))
      (cases_eq v cleans.vvbn)

  of_roots : (some : Bool) → CleansRoots disk pool x left y some → MovesUnled disk pool x left
  of_roots some cleans told lead v changed = absurd (changed (λ i. own_entry (container_at (cleans.leaves.containers i) x.slot) v))

  -- what moved lay outside a table that holds no unknown pointer
  block_outside : CleansBlock disk pool x left y → MovesOutside disk pool x left
  block_outside cleans told clear v changed = ⊎_elim
      (λ (same : v ≡ cleans.vvbn). let next = cleans.next told in
      subst (λ (n : ℕ). has n (slot_at x.map slot_of_base) ≡ false) (sym same) (by cleans.vvbn _ next.1.unclear (has cleans.vvbn (slot_at x.map slot_of_base)) refl))
      (λ (other : v ≢ cleans.vvbn). absurd (changed (cleans.moves.entry.rest v other)))
      (cases_eq v cleans.vvbn)
    where
      by : (n : ℕ) (z : Placed) → IsUnclear (lies_in x.map pool x.slot disk.reads) n z → (b : Bool) → has n (slot_at x.map slot_of_base) ≡ b → has n (slot_at x.map slot_of_base) ≡ false
      by n z unclear false is = is
      by n z unclear true is = let wrong : true ≡ false = sym unclear.unknown ∙ clear n z is unclear.there in absurd cc

  roots_outside : (some : Bool) → CleansRoots disk pool x left y some → MovesOutside disk pool x left
  roots_outside some cleans told clear v changed = absurd (changed (λ i. own_entry (container_at (cleans.leaves.containers i) x.slot) v))

  pub moves_outside : (took : Bool) → CleansVolume disk pool x left y took → MovesOutside disk pool x left
  moves_outside true cleans = ⊎_elim block_outside (roots_outside true) cleans
  moves_outside false cleans = roots_outside false cleans

  pub moves_unled : (took : Bool) → CleansVolume disk pool x left y took → MovesUnled disk pool x left
  moves_unled true cleans = ⊎_elim of_block (of_roots true) cleans
  moves_unled false cleans = of_roots false cleans

-- ---- in the trees of a table

-- So it is in each tree that keeps rule 12: each pointer to the block that moves, at a level of its kind, is unknown.
pub unled_in_tree : (disk : Disk) (pool : Pool) (x : VolumeState) (left : Pool) (y : VolumeState) (cleans : CleansBlock disk pool x left y)
    → (blocks : Under) (owner lv : ℕ) (root : Pointer) → LeadsUnknown (unread (stored blocks owner lv root)) → (owner ≡ greatest_word → lv ≤ 2) → (owner ≢ greatest_word → lv ≤ 3)
    → blocks cleans.vvbn ≡ Some cleans.was → (level p : ℕ) → kind_for owner level ≡ cleans.kind
    → (pointer_at (stored blocks owner lv root) level p).stamp ≢ 0 → (pointer_at (stored blocks owner lv root) level p).vvbn ≡ cleans.vvbn → (pointer_at (stored blocks owner lv root) level p).pvbn ≡ 0
unled_in_tree disk pool x left y cleans blocks owner lv root leads low-inode low-file there level p kind some same =
    led_unknown blocks owner lv root leads level p cleans.was low-inode low-file some (ap blocks same ∙ there)
    (subst (λ (k : ℕ). list_any is_unknown (pointers_by (form_of k) cleans.was) ≡ true) (sym kind) cleans.unknown)
