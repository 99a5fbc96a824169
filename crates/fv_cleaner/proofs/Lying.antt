-- What lies under the VVBNs of a volume, while blocks are read.
use Rattle.std.proofs.Common.{◌≡◌, ℕ, List, Some, refl, sym, ap, subst, ◌∙◌, inl, arith}
use Rattle.std.specs.Prelude.{IsTrue}
use Rattle.std.specs.List.{list_any}
use Rattle.fv_disk.specs.Shown.{Image, Shown as Disk}
use Rattle.fv_disk.specs.DiskCalls.{OnlyReads}
use Rattle.fv_disk.proofs.Resting.{stays_itself}
use Rattle.fv_container.specs.declared.entry.Entry.{Entry}
use Rattle.fv_container.specs.Chains.{AreCleanOn, TellsEntries}
use Rattle.fv_image.specs.HintRules.{is_unknown}
use Rattle.fv_places.specs.ByKind.{form_of, pointers_by}
use Rattle.fv_volmap.specs.Slots.{Volume as Maps}
use Rattle.fv_pool.specs.declared.pool.Pool.{Pool}
use Rattle.fv_pool.specs.Keeping.{seen}
use Rattle.fv_pool.specs.BlocksOver.{LeavesPool, held_entry}
use Rattle.fv_cleaner.specs.Searching.{IsClear, Lies, lies_in, placed_by}

pub leaves_then : (a b c : Pool) → LeavesPool a b → LeavesPool b c → LeavesPool a c
leaves_then a b c first second = record {
  map = second.map ∙ first.map;
  containers = second.containers ∙ first.containers;
  kept = second.kept ∙ first.kept;
  found = second.found ∙ first.found;
  version = second.version ∙ first.version;
}

-- nothing changed but the cache
module _ (map : Maps) (pool mid : Pool) (disk later : Disk) (slot : ℕ) (leaves : LeavesPool pool mid) (reads : OnlyReads disk later) where
  pub same_lies : lies_in map mid slot later.reads ≡ lies_in map pool slot disk.reads
  same_lies = λ i v. placed_by (leaves.kept i) (reads.stays.reads i) (held_entry map (leaves.containers i) slot v)

  pub tells_on : TellsEntries disk pool.containers → TellsEntries later mid.containers
  tells_on told = (subst IsTrue (sym reads.stays.tells) told.0, subst (λ (i : Image). AreCleanOn i mid.containers) (sym reads.stays.reads) (subst (AreCleanOn disk.reads) (sym leaves.containers) told.1))

  -- a block that was read by its entry
  pub read_lies : (v : ℕ) (e : Entry) (block : List ℕ) → held_entry map pool.containers slot v ≡ Some e → block ≡ seen mid.kept later.reads e.pvbn
      → lies_in map pool slot disk.reads v ≡ Some (record { pvbn = e.pvbn; kind = e.kind; block = block })
  read_lies v e block there is = ap (placed_by pool.kept disk.reads) there
      ∙ (λ i. Some (record { pvbn = e.pvbn; kind = e.kind; block = (sym (is ∙ (λ j. seen (leaves.kept j) (reads.stays.reads j) e.pvbn))) i }))

-- data holds no pointer
pub data_clear : (at : Lies) (v place kind : ℕ) (block : List ℕ) → kind ≡ 1 → at v ≡ Some (record { pvbn = place; kind = kind; block = block }) → IsClear at v
data_clear at v place kind block one there = record {
  block = record { pvbn = place; kind = kind; block = block };
  there = there;
  none = ap (λ (k : ℕ). list_any is_unknown (pointers_by (form_of k) block)) one;
}

-- nothing was read
pub leaves_itself : (pool : Pool) → LeavesPool pool pool
leaves_itself pool = record { map = refl; containers = refl; kept = refl; found = refl; version = refl }

pub only_itself : (disk : Disk) → OnlyReads disk disk
only_itself disk = record { stays = stays_itself disk; time = record { later = omega arith; nothing_else = λ t c g le left. inl left; keeps = λ t c g le left. left }; given = refl; ends = refl; faults = omega arith; write_faults = refl }
