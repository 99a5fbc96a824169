-- What lies under a VVBN of a volume of which no file is in memory: some root of the volume has that VVBN in its slot of the maps, and the
-- table of that root lies whole there.
use Rattle.std.proofs.Common.{◌≡◌, ℕ, Bool, true, false, true≢false, cond, List, Option, Some, None, inl, inr, refl, sym, ap, subst, ◌∙◌, ⊎_elim}
use Rattle.std.specs.Prelude.{is_some, nat_le, ◌&&◌}
use Rattle.std.proofs.lemmas.Bool.{both_ways, cases_eq}
use Rattle.fv_disk.specs.Shown.{Image, Shown as Disk}
use Rattle.fv_bits.specs.Members.{is_member}
use Rattle.fv_container.specs.declared.entry.Entry.{Entry}
use Rattle.fv_container.specs.Chains.{chain_entry}
use Rattle.fv_laws.proofs.Lists.{In}
use Rattle.fv_tree.specs.Sources.{Use}
use Rattle.fv_image.specs.Views.{Placed}
use Rattle.fv_volmap.specs.Slots.{Volume as Maps, has, slot_at, taken_in}
use Rattle.fv_pool.specs.declared.pool.Pool.{Pool}
use Rattle.fv_pool.specs.BlocksOver.{block_of, held_block, held_entry}
use Rattle.fv_pool.specs.Keeping.{seen}
use Rattle.fv_pool.specs.Lending.{use_of}
use Rattle.fv_volume.specs.declared.state.Snap.{Snap}
use Rattle.fv_volume.specs.declared.state.VolumeState.{VolumeState}
use Rattle.fv_volume.specs.Held.{IsHeldIn}
use Rattle.fv_volume.specs.OneVolume.{blocks_in, tables_of, uses_in, IsKeptTable, RootStands}
use Rattle.fv_volume.proofs.ActiveStands.{active_stands}
use Rattle.fv_volume.proofs.AllRoots.{active_root, roots}
use Rattle.fv_volume.proofs.EachRoot.{all_in}
use Rattle.fv_volume.proofs.SettledTables.{has_used, kept_found, taken_some}
use Rattle.fv_cleaner.specs.Searching.{Lies, lies_in, placed_by}
use Rattle.fv_cleaner.proofs.Followed.{LiesAs}
use Rattle.fv_cleaner.proofs.Held.{lying_block, lying_use}

-- a VVBN under which something lies is in some slot of the maps
pub lying_taken : (map : Maps) (pool : Pool) (slot : ℕ) (i : Image) (v : ℕ) (z : Placed) → lies_in map pool slot i v ≡ Some z → taken_in map.slots v ≡ true
unfolding held_entry
lying_taken map pool slot i v z lie = so (nat_le v 1048575) (taken_in map.slots v) lie
  where
    so : (a b : Bool) → placed_by pool.kept i (cond (a && b) (chain_entry pool.containers slot v) None) ≡ Some z → b ≡ true
    so true true e = refl
    so true false e = absurd cc
    so false b e = absurd cc

module _ (disk : Disk) (pool : Pool) (x : VolumeState) (k v : ℕ) (z : Placed) (member : has v (slot_at x.map k) ≡ true) (lie : lies_in x.map pool x.slot disk.reads v ≡ Some z) where
  -- what lies under a VVBN that a slot has is the slot's
  pub block_under : blocks_in disk pool x k v ≡ Some z.block
  block_under = ap (λ (b : Bool). cond b (held_block x.map pool x.slot disk.reads v) None) member
      ∙ lying_block pool.kept disk.reads (held_entry x.map pool.containers x.slot v) z lie

  pub use_under : uses_in pool x k v ≡ Some (record { pvbn = z.pvbn; kind = z.kind })
  use_under = ap (λ (b : Bool). cond b (Some (use_of (held_entry x.map pool.containers x.slot v))) None) member
      ∙ ap (λ (u : Use). Some u) (lying_use pool.kept disk.reads (held_entry x.map pool.containers x.slot v) z lie)

module _ (disk : Disk) (pool : Pool) (slot : ℕ) (x : VolumeState) (held : IsHeldIn disk pool slot x) (files : x.files ≡ None) where
  abbrev at : Lies
  at = lies_in x.map pool x.slot disk.reads

  -- the table of each root lies whole in its slot
  pub root_stands : (q : Snap) → In q (roots x) → RootStands disk pool x q.slot q.table
  root_stands q (inl e) = subst (λ (s : Snap). RootStands disk pool x s.slot s.table) e (active_stands disk pool x held.stands files held.led held.well)
  root_stands q (inr one) = (all_in (IsKeptTable disk pool x) (tables_of x) held.stands.kept q one).1

  -- a root has a VVBN in its slot
  pub record RootOver (v : ℕ) : Type 0 where
    pub root : Snap
    pub one : In root (roots x)
    pub member : has v (slot_at x.map root.slot) ≡ true

  pub root_over : (v : ℕ) (z : Placed) → at v ≡ Some z → RootOver v
  root_over v z lie = let k = taken_some x.map.slots v (lying_taken x.map pool x.slot disk.reads v z lie) in by k.0 k.1
    where
      by : (k : ℕ) → has v (slot_at x.map k) ≡ true → RootOver v
      by k member = ⊎_elim
          (λ (zero_is : k ≡ 0). record { root = active_root x; one = inl refl; member = ap (λ (n : ℕ). has v (slot_at x.map n)) (sym zero_is) ∙ member })
          (λ above. let q = kept_found disk pool x held.stands held.ready.labelled k above (has_used (slot_at x.map k) v member) in
          record { root = q.0; one = inr q.1.0; member = ap (λ (n : ℕ). has v (slot_at x.map n)) q.1.1 ∙ member })
          (cases_eq k 0)

  -- What a slot has under a VVBN lies there, at a place, where the next root doesn't hold block 0.
  module _ (spare : is_member pool.map.next 0 ≡ false) (k v : ℕ) where
    abbrev Block : Bool → Option Entry → Option (List ℕ)
    Block b o = cond b (block_of pool.kept disk.reads o) None

    as_read : (b : Bool) (o : Option Entry) → has v (slot_at x.map k) ≡ b → held_entry x.map pool.containers x.slot v ≡ o
        → is_some (blocks_in disk pool x k v) ≡ true → is_some (Block b o) ≡ true
    as_read b o had e some = sym (λ i. is_some (Block (had i) (e i))) ∙ some

    pub slot_lies : is_some (blocks_in disk pool x k v) ≡ true → LiesAs at (blocks_in disk pool x k) (uses_in pool x k) v
    slot_lies some = by (has v (slot_at x.map k)) refl (held_entry x.map pool.containers x.slot v) refl
      where
        by : (b : Bool) → has v (slot_at x.map k) ≡ b → (o : Option Entry) → held_entry x.map pool.containers x.slot v ≡ o
            → LiesAs at (blocks_in disk pool x k) (uses_in pool x k) v
        by false out o e = absurd (true≢false (sym (as_read false o out e some)))
        by true member None e = absurd (true≢false (sym (as_read true None member e some)))
        by true member (Some entry) e =
            let z : Placed = record { pvbn = entry.pvbn; kind = entry.kind; block = seen pool.kept disk.reads entry.pvbn } in
            let lie : at v ≡ Some z = ap (placed_by pool.kept disk.reads) e in
            record {
              block = z;
              there = lie;
              held = block_under disk pool x k v z member lie;
              used = use_under disk pool x k v z member lie;
              some = λ none. both_ways (is_member pool.map.next 0) spare (ap (is_member pool.map.next) (sym none) ∙ held.stands.told.1.held v entry e);
            }
