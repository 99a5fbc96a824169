-- Each stamp of a table that lies in its blocks is that of a change so far.
use Rattle.std.proofs.Common.{◌≡◌, ◌≢◌, ◌≤◌, ℕ, Bool, false, Option, Some, None, inl, inr, refl, ap, ◌∙◌, arith}
use Rattle.std.specs.Prelude.{◌==◌, if◌then◌else◌}
use Rattle.std.specs.Option.{option_and_then}
use Rattle.std.specs.FinMap as fin
use Rattle.std.proofs.lemmas.Bool.{cases_eq}
use Rattle.std.proofs.lemmas.Bool.Decides.{nat_tests}
use Rattle.fv_codec.specs.declared.pointer.Pointer.{Pointer}
use Rattle.fv_model.specs.Places.{Owner, InodeFile, OfFile}
use Rattle.fv_model.specs.Tables.{File, Table}
use Rattle.fv_model.specs.Trees.{Spot}
use Rattle.fv_laws.specs.WellFormed.{IsWellTable}
use Rattle.fv_laws.proofs.Stamps.{stands}
use Rattle.fv_tables.specs.Spelled.{Under, stamp_in}
use Rattle.fv_tables.specs.Told.{standing_at, table_told}
use Rattle.fv_tables.proofs.TablePlaces as place
use Rattle.fv_files.specs.Apart.{stored_trees}
use Rattle.fv_files.specs.Sharing.{owner_in}
use Rattle.fv_volume.specs.Sharing.{pointer_in}
use Rattle.fv_volume.proofs.SharedRoots.{stored_place}

-- ---- a table of the machine

some_file : (file : Option File) (p : Spot) (u : ℕ) → option_and_then (λ f. fin.get f.tree.stamps p) file ≡ Some u → (f : File) × ((file ≡ Some f) × (fin.get f.tree.stamps p ≡ Some u))
some_file None p u e = absurd cc
some_file (Some f) p u e = (f, (refl, e))

pub past_stamp : (now : ℕ) (t : Table) → IsWellTable now t → (o : Owner) (p : Spot) (u : ℕ) → stands t o p ≡ Some u → u ≤ now
past_stamp now t is InodeFile p u e = is.inode.stamps p u e
past_stamp now t is (OfFile n) p u e = let there = some_file (fin.get t.files n) p u e in (is.files n there.0 there.1.0).tree.stamps p u there.1.1

-- ---- a pointer

-- a pointer that leads somewhere has a stamp
pub stamp_some : (p : Pointer) → p.stamp ≢ 0 → stamp_in p ≡ Some p.stamp
stamp_some p some = let test : (p.stamp == 0) ≡ false = grind (arith, nat_tests, some) in ap (λ (b : Bool). if b then None else Some p.stamp) test

-- ---- a table over blocks

module _ (now : ℕ) (blocks : Under) (levels : ℕ) (root : Pointer) (well : IsWellTable now (table_told (standing_at blocks levels root))) where
  pub stored_stamp : (o : Option ℕ) (level index : ℕ) → (pointer_in (stored_trees blocks levels root o) level index).stamp ≤ now
  stored_stamp o level index = elim (cases_eq p.stamp 0) [
    | inl none ↦ omega (arith, none, same)
    | inr some ↦ (
        let past = past_stamp now (table_told (standing_at blocks levels root)) well (owner_in o) (level, index) p.stamp (place.stamp_is blocks levels root (owner_in o) level index ∙ stamp_some p some) in
        omega (arith, past, same))
  ]
    where
      p : Pointer
      p = place.pointer_in blocks levels root (owner_in o) level index

      same : (pointer_in (stored_trees blocks levels root o) level index).stamp ≡ p.stamp
      same = ap (λ (q : Pointer). q.stamp) (stored_place blocks levels root o level index)
