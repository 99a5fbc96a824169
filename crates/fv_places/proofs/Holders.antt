-- What leads to the block of a pointer is a pointer of the table itself, or none: so what holds of all pointers of a table holds of what
-- holds them.
use Rattle.std.proofs.Common.{◌≡◌, ℕ, ◌+◌, ◌/◌, ◌<◌, Bool, true, false, refl, arith}
use Rattle.std.specs.Prelude.{nat_lt, if◌then◌else◌}
use Rattle.std.specs.List.{list_all}
use Rattle.std.proofs.lemmas.Bool.Decides.{nat_tests}
use Rattle.fv_codec.specs.declared.pointer.Pointer.{Pointer}
use Rattle.fv_model.specs.Trees.{fan}
use Rattle.fv_tables.specs.Spelled.{Under, Rooted, stored, hole, pointer_at}
use Rattle.fv_tables.specs.Told.{Standing, standing_at, records_each}
use Rattle.fv_tables.specs.Reached.{Item, holder_of, items}
use Rattle.fv_tables.proofs.Items.{at_inode, at_file, from_trees}
use Rattle.fv_places.proofs.Descents.{over_stands, record_at}

module _ (test : Pointer → Bool) (none : test hole ≡ true) (blocks : Under) (levels : ℕ) (root : Pointer) where
  abbrev x : Standing
  x = standing_at blocks levels root

  abbrev of_pointer : Item → Bool
  of_pointer e = test e.pointer

  -- what holds a pointer passes, where the pointers over it do
  holder_passes : (t : Rooted) (top : Pointer) (level p : ℕ) → test top ≡ true
      → (level < t.levels → test (pointer_at t (level + 1) (p / fan)) ≡ true) → test (holder_of top t level p) ≡ true
  holder_passes t top level p start over = by (nat_lt level t.levels) refl
    where
      by : (b : Bool) → nat_lt level t.levels ≡ b → test (if b then pointer_at t (level + 1) (p / fan) else top) ≡ true
      by true e = over (grind (arith, nat_tests, e))
      by false e = start

  -- A test that a hole passes.
  pub of_holders : list_all (λ (e : Item). test e.pointer) (items x) ≡ true → list_all (λ (e : Item). test e.holder) (items x) ≡ true
  of_holders all = from_trees (λ (e : Item). test e.holder) x
      (λ level p some. holder_passes x.inode hole level p none
      (λ low. at_inode of_pointer x all (level + 1) (p / fan) (over_stands x.inode level p low some)))
      (λ k f is level p some. holder_passes (stored blocks k f.levels f.root) (pointer_at x.inode 0 (k / records_each)) level p
      (at_inode of_pointer x all 0 (k / records_each) (record_at blocks levels root k f is).0)
      (λ low. at_file of_pointer x all k f is (level + 1) (p / fan) (over_stands (stored blocks k f.levels f.root) level p low some)))
