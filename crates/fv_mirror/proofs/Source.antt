-- What a mirror is made of: each number of the source's slot has an entry, and what that leads to lies still while free blocks are written.
use Rattle.std.proofs.Common.{◌≡◌, ◌≢◌, ◌<◌, ◌≤◌, ℕ, Bool, true, false, ◌&&◌, ◌||◌, cond, Option, Some, None, refl, sym, ap, subst, ◌∙◌, ⊎_elim, arith}
use Rattle.std.specs.Prelude.{IfSome, is_some, nat_le}
use Rattle.std.specs.Option.{option_map}
use Rattle.std.proofs.lemmas.Bool.{cases_lt, false≢true}
use Rattle.std.proofs.lemmas.Bool.Decides.{nat_tests}
use Rattle.std.proofs.lemmas.List.{get_or_past}
use Rattle.fv_disk.specs.Shown.{Shown as Disk}
use Rattle.fv_bits.specs.Members.{is_member}
use Rattle.fv_bits.proofs.Laws.{is_member-replicate}
use Rattle.fv_codec.specs.declared.inode.InodeRecord.{InodeRecord}
use Rattle.fv_codec.specs.declared.pointer.Pointer.{Pointer}
use Rattle.fv_codec.specs.Blocks.{greatest_word}
use Rattle.fv_aggmap.specs.Space.{Space}
use Rattle.fv_tables.specs.Spelled.{Under, stored}
use Rattle.fv_tables.specs.Told.{file_at}
use Rattle.fv_container.specs.declared.entry.Entry.{Entry}
use Rattle.fv_container.specs.Chains.{IsSlots, Slots, chain_entry, container_at, map_in, paged_at}
use Rattle.fv_container.specs.Paged.{Paged}
use Rattle.fv_container.specs.Spelled.{is_at, names}
use Rattle.fv_laws.proofs.Lists.{In}
use Rattle.fv_tree.specs.Beside.{unread}
use Rattle.fv_tree.specs.Sources.{Use}
use Rattle.fv_files.specs.Apart.{stored_trees}
use Rattle.fv_files.specs.Tables.{AreReached}
use Rattle.fv_volmap.specs.Slots.{Slot, Volume as Maps, has, map_or_empty, slot_at, taken_in}
use Rattle.fv_pool.specs.declared.pool.Pool.{Pool}
use Rattle.fv_pool.specs.BlocksOver.{block_of, held_block, held_entry, tree_in}
use Rattle.fv_image.specs.Views.{entry_count}
use Rattle.fv_root.specs.declared.find.Found.{Found}
use Rattle.fv_disk.specs.Shown.{Image}
use Rattle.fv_copies.specs.Copying.{IsSource, IsTaken}
use Rattle.fv_volume.specs.declared.state.Snap.{Snap}
use Rattle.fv_volume.specs.declared.state.VolumeState.{VolumeState}
use Rattle.fv_volume.specs.OneVolume.{blocks_in, tables_of, uses_in, IsKeptTable, IsStanding}
use Rattle.fv_volume.specs.Sharing.{pointer_in}
use Rattle.fv_volume.specs.States.{States, state_at}
use Rattle.fv_volume.specs.Stored.{AreSpacedIn, has_block, leads}
use Rattle.fv_volume.proofs.EachRoot.{all_in}
use Rattle.fv_volume.proofs.SettledTables.{few_levels, listed_at, LeadsHere}
use Rattle.fv_volumes.specs.UnderRoot.{IsLentAt}
use Rattle.fv_mirror.specs.Making.{source_bits}

-- the numbers of a slot
pub bits_has : (n : ℕ) (s : Slot) (v : ℕ) → is_member (map_or_empty n s) v ≡ has v s
bits_has n None v = is_member-replicate n v
bits_has n (Some map) v = refl

-- what the next root holds isn't free
pub next_taken : (space : Space) (b : ℕ) → is_member space.next b ≡ true → IsTaken space b
next_taken space b held free = off (is_member space.committed b) (is_member space.next b) held free.free
  where
    off : (s t : Bool) → t ≡ true → (s || t) ≡ false → ⊥
    off true t is isnt = false≢true (sym isnt)
    off false t is isnt = false≢true (sym isnt ∙ is)

-- what a number that is held leads to is found along the chain
pub held_parts : (map : Maps) (slots : Slots) (slot v : ℕ) (e : Entry) → held_entry map slots slot v ≡ Some e → (v ≤ 1048575) × (chain_entry slots slot v ≡ Some e)
unfolding held_entry
held_parts map slots slot v e is = by (nat_le v 1048575) (taken_in map.slots v) refl is
  where
    by : (a c : Bool) → nat_le v 1048575 ≡ a → cond (a && c) (chain_entry slots slot v) None ≡ Some e → (v ≤ 1048575) × (chain_entry slots slot v ≡ Some e)
    by true true low f = (grind (arith, nat_tests, low), f)
    by true false low f = absurd cc
    by false c low f = absurd cc

-- a number to which a table leads has a block
reached_held : (blocks : Under) (uses : ℕ → Option Use) (levels : ℕ) (root : Pointer) → AreReached blocks uses levels root → (v : ℕ) → LeadsHere (stored_trees blocks levels root) v → is_some (blocks v) ≡ true
reached_held blocks uses levels root is v l = by l.owner l.some l.vvbn
  where
    by : (o : Option ℕ) → (pointer_in (stored_trees blocks levels root o) l.level l.index).stamp ≢ 0 → (pointer_in (stored_trees blocks levels root o) l.level l.index).vvbn ≡ v → is_some (blocks v) ≡ true
    by None some vvbn = ap (λ (w : ℕ). is_some (blocks w)) (sym vvbn) ∙ is.inode.held l.level l.index some
    by (Some k) some vvbn = file (file_at (stored blocks greatest_word levels root) k) refl some vvbn
      where
        file : (o : Option InodeRecord) → file_at (stored blocks greatest_word levels root) k ≡ o → (pointer_in (option_map (λ r. unread (stored blocks k r.levels r.root)) o) l.level l.index).stamp ≢ 0
            → (pointer_in (option_map (λ r. unread (stored blocks k r.levels r.root)) o) l.level l.index).vvbn ≡ v → is_some (blocks v) ≡ true
        file None at some vvbn = absurd (some refl)
        file (Some r) at some vvbn = ap (λ (w : ℕ). is_some (blocks w)) (sym vvbn) ∙ (is.files k r at).held l.level l.index some

module _ (disk : Disk) (pool : Pool) (y : VolumeState) (stands : IsStanding disk pool y) (q : Snap) (there : In q (tables_of y)) where
  pub kept_there : IsKeptTable disk pool y q
  kept_there = all_in (IsKeptTable disk pool y) (tables_of y) stands.kept q there

  abbrev pub blocks : Under
  blocks = blocks_in disk pool y q.slot

  -- where a number of the slot stands in the table
  pub leads_there : (v : ℕ) → has v (slot_at y.map q.slot) ≡ true → LeadsHere (stored_trees blocks q.table.levels q.table.root) v
  leads_there v member = listed_at blocks q.table.levels q.table.root (few_levels y.now blocks q.table.levels q.table.root kept_there.1.table) v (sym (kept_there.1.reach v) ∙ member)

  -- Each number of the slot has an entry.
  pub entry_there : (v : ℕ) → has v (slot_at y.map q.slot) ≡ true → (e : Entry) × (held_entry y.map pool.containers y.slot v ≡ Some e)
  entry_there v member = by (held_entry y.map pool.containers y.slot v) refl
      (sym (ap (λ (t : Bool). is_some (cond t (held_block y.map pool y.slot disk.reads v) None)) member)
      ∙ reached_held blocks (uses_in pool y q.slot) q.table.levels q.table.root kept_there.1.trees v (leads_there v member))
    where
      by : (o : Option Entry) → held_entry y.map pool.containers y.slot v ≡ o → is_some (block_of pool.kept disk.reads o) ≡ true → (e : Entry) × (held_entry y.map pool.containers y.slot v ≡ Some e)
      by None at some = absurd (false≢true some)
      by (Some e) at some = (e, at)

  pub chain_there : (v : ℕ) (member : has v (slot_at y.map q.slot) ≡ true) → chain_entry pool.containers y.slot v ≡ Some (entry_there v member).0
  chain_there v member = let e = entry_there v member in (held_parts y.map pool.containers y.slot v e.0 e.1).1

  module _ (nodes : (s b : ℕ) → names (tree_in (container_at pool.containers s)) b ≡ true → is_member pool.map.next b ≡ true) where
    -- What is copied lies still while free blocks are written.
    pub tells_source : IsSource disk pool y.slot (source_bits y q.slot)
    tells_source = record {
      tells = (stands.told.0, stands.told.2);
      nodes = λ s b named. next_taken pool.map b (nodes s b named);
      blocks = λ v is.
          let member : has v (slot_at y.map q.slot) ≡ true = sym (bits_has y.map.span (slot_at y.map q.slot) v) ∙ is in
          let e = entry_there v member in
          subst (λ (o : Option Entry). IfSome o (λ e. IsTaken pool.map e.pvbn)) (sym (chain_there v member)) (next_taken pool.map e.0.pvbn (stands.told.1.held v e.0 e.1));
    }

-- The next root holds the nodes of each container of a session.
pub nodes_held : (i : Image) (found : Found) (pool : Pool) (states : States) → IsSlots pool.containers → ((s : ℕ) → s < 64 → IsLentAt i found s (state_at states s) (paged_at pool.containers s))
    → AreSpacedIn found.blocks pool.map.next (state_at states) (container_at pool.containers) → (s b : ℕ) → names (tree_in (container_at pool.containers s)) b ≡ true → is_member pool.map.next b ≡ true
nodes_held i found pool states few slots spaced s b named = ⊎_elim
    (λ (low : s < 64). by low (state_at states s) refl (paged_at pool.containers s) refl (slots s low) named)
    (λ (past : 64 ≤ s). absurd (false≢true (sym (ap (λ (c : Option Paged). names (tree_in (map_in c)) b) (get_or_past pool.containers.containers s None (let all = few.containers in omega (arith, past, all)))) ∙ named)))
    (cases_lt s 64)
  where
    later : (l n : Bool) (m : Bool) → n ≡ true → (l || (n || m)) ≡ true
    later true n m is = refl
    later false n m is = ap (λ (t : Bool). t || m) is

    by : s < 64 → (o : Option VolumeState) → state_at states s ≡ o → (c : Option Paged) → paged_at pool.containers s ≡ c → IsLentAt i found s o c → names (tree_in (map_in c)) b ≡ true → is_member pool.map.next b ≡ true
    by low o at None paged is some = absurd (false≢true some)
    by low None at (Some c) paged is some = absurd is
    by low (Some x) at (Some c) paged is some =
        let block : has_block (Some x) (Some c.map) b ≡ true = later (is_at b x.label) (names c.map.tree b) (leads c.map (entry_count x.span) b) some in
        (spaced.held s b low ((λ j. has_block (at j) (map_in (paged j)) b) ∙ block)).0
