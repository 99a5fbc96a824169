-- What is the same but for hints, the PVBNs in its pointers: pointers, records, blocks, tables. It is what stays of a table whose blocks
-- are copied, or lie elsewhere under their VVBNs.
use Rattle.std.specs.Prelude.{◌≡◌, ◌≢◌, ◌≤◌, ℕ, List, map, Option, Some}
use Rattle.fv_codec.specs.declared.pointer.Pointer.{Pointer}
use Rattle.fv_codec.specs.declared.inode.InodeRecord.{InodeRecord}
use Rattle.fv_tables.specs.Spelled.{Under, Rooted, pointers_in, pointer_at, stored}
use Rattle.fv_tables.specs.Told.{standing_at, records_in, file_at}
use Rattle.fv_tables.specs.Reached.{Item}

-- a pointer without its hint
abbrev pub hintless : Pointer → Pointer
hintless p = record { vvbn = p.vvbn; pvbn = 0; stamp = p.stamp }

-- a record without that of its root
abbrev pub hintless_record : InodeRecord → InodeRecord
hintless_record r = record {
  name_length = r.name_length;
  name = r.name;
  length = r.length;
  reserve = r.reserve;
  levels = r.levels;
  root = hintless r.root;
}

abbrev pub hintless_item : Item → Item
hintless_item e = record {
  owner = e.owner;
  levels = e.levels;
  level = e.level;
  place = e.place;
  pointer = hintless e.pointer;
  holder = hintless e.holder;
}

-- two blocks of nodes that say the same but for hints, and two inode blocks
abbrev pub SpellAlike : Option (List ℕ) → Option (List ℕ) → Type 0
SpellAlike b c = map hintless (pointers_in c) ≡ map hintless (pointers_in b)

abbrev pub RecordAlike : Option (List ℕ) → Option (List ℕ) → Type 0
RecordAlike b c = map hintless_record (records_in c) ≡ map hintless_record (records_in b)

-- the nodes of a tree stand alike in other blocks
abbrev pub HasAlikeNodes : Rooted → Under → Type 0
HasAlikeNodes t n = (level place : ℕ) → 1 ≤ level → (pointer_at t level place).stamp ≢ 0 → SpellAlike (t.under (pointer_at t level place).vvbn) (n (pointer_at t level place).vvbn)

-- Under what a table reaches stand blocks that say the same but for hints; data is the same.
pub record AreAlike (m n : Under) (levels : ℕ) (root : Pointer) : Type 0 where
  pub nodes : HasAlikeNodes (standing_at m levels root).inode n
  pub inodes : (place : ℕ) → (pointer_at (standing_at m levels root).inode 0 place).stamp ≢ 0 → RecordAlike (m (pointer_at (standing_at m levels root).inode 0 place).vvbn) (n (pointer_at (standing_at m levels root).inode 0 place).vvbn)
  pub file_nodes : (k : ℕ) (r : InodeRecord) → file_at (standing_at m levels root).inode k ≡ Some r → HasAlikeNodes (stored m k r.levels r.root) n
  pub cells : (k : ℕ) (r : InodeRecord) → file_at (standing_at m levels root).inode k ≡ Some r → (index : ℕ) → (pointer_at (stored m k r.levels r.root) 0 index).stamp ≢ 0
      → n (pointer_at (stored m k r.levels r.root) 0 index).vvbn ≡ m (pointer_at (stored m k r.levels r.root) 0 index).vvbn

-- two blocks of a kind say the same but for hints: data is the same, an inode block as records, a node as pointers
pub record SaysAlike (kind : ℕ) (b c : List ℕ) : Type 0 where
  pub cells : kind ≡ 1 → c ≡ b
  pub inodes : kind ≡ 5 → RecordAlike (Some b) (Some c)
  pub nodes : kind ≢ 1 → kind ≢ 5 → SpellAlike (Some b) (Some c)
