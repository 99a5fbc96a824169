-- The positions under a position are in range.
use Rattle.std.proofs.Common.{◌≡◌, ◌≢◌, ℕ, zero, suc, ◌+◌, ◌*◌, ◌-◌, ◌^◌, ◌<◌, ◌≤◌, Bool, true, false, refl, ap, ◌∙◌, arith}
use Rattle.std.specs.Prelude.{not, ◌==◌}
use Rattle.std.proofs.Math.Bool.{or-true}
use Rattle.fv_codec.specs.declared.pointer.Pointer.{Pointer}
use Rattle.fv_codec.specs.declared.inode.InodeRecord.{InodeRecord}
use Rattle.fv_codec.specs.Blocks.{IsInodeRecord, is_used}
use Rattle.fv_codec.specs.Fields.{up_to}
use Rattle.fv_image.specs.Views.{Rooted}
use Rattle.fv_faults.specs.Walks.{child_of, file_root}
use Rattle.fv_walk.specs.declared.visit.Visit.{Visit}
use Rattle.fv_walk.specs.Visits.{IsVisit, IsUnder, visit_of, item_of, leads_on, root_visit}

-- the ranges of a level that a node stands over are ranges of that level
child_fits : (level place slot : ℕ) → level ≤ 3 → level ≢ 0 → place < 128 ^ (3 - level) → slot < 128 → 128 * place + slot < 128 ^ (3 - (level - 1))
child_fits zero place slot low over within less = absurd (over refl)
child_fits (suc zero) place slot low over within less = let near : place < 16384 = within in omega (arith, near, less)
child_fits (suc (suc zero)) place slot low over within less = let near : place < 128 = within in omega (arith, near, less)
child_fits (suc (suc (suc zero))) place slot low over within less = let near : place < 1 = within in omega (arith, near, less)
child_fits (suc (suc (suc (suc level)))) place slot low over within less = absurd (omega (arith, low))

-- each level has a range
first_fits : (level : ℕ) → level ≤ 3 → 0 < 128 ^ (3 - level)
first_fits zero low = omega arith
first_fits (suc zero) low = omega arith
first_fits (suc (suc zero)) low = omega arith
first_fits (suc (suc (suc zero))) low = omega arith
first_fits (suc (suc (suc (suc level)))) low = absurd (omega (arith, low))

-- a range's number is small
small : (level place : ℕ) → level ≤ 3 → place < 128 ^ (3 - level) → place < 2097152
small zero place low within = let near : place < 2097152 = within in omega (arith, near)
small (suc zero) place low within = let near : place < 16384 = within in omega (arith, near)
small (suc (suc zero)) place low within = let near : place < 128 = within in omega (arith, near)
small (suc (suc (suc zero))) place low within = let near : place < 1 = within in omega (arith, near)
small (suc (suc (suc (suc level)))) place low within = absurd (omega (arith, low))

pub place_fits : (v : Visit) → IsVisit v → v.place < 2097152
place_fits v is = small v.level v.place is.level is.place

pub child_is_under : (v : Visit) (slot block : ℕ) (p : Pointer) → IsVisit v → v.level ≢ 0 → slot < 128 → IsUnder v (visit_of (child_of (item_of v) (slot, p), block))
child_is_under v slot block p is over less = record {
  is = record { level = let low = is.level in omega (arith, low); place = child_fits v.level v.place slot is.level over is.place less };
  lower = λ _. omega (arith, over);
}

root_levels : (used : Bool) (levels : ℕ) → levels ≤ up_to used 3 → levels ≤ 3
root_levels true levels low = low
root_levels false levels low = let none : levels ≤ 0 = low in omega (arith, none)

pub root_is_under : (v : Visit) (number block : ℕ) (f : InodeRecord) → v.level ≡ 0 → IsInodeRecord f → IsUnder v (visit_of (file_root (item_of v) (number, f), block))
root_is_under v number block f cell is =
    let low : f.levels ≤ 3 = root_levels (is_used f.name_length) f.levels is.levels in
    record { is = record { level = low; place = first_fits f.levels low }; lower = λ over. absurd (over cell) }

pub root_is_visit : (r : Rooted) (label : ℕ) → r.levels ≤ 3 → IsVisit (root_visit r label)
root_is_visit r label low = record { level = low; place = first_fits r.levels low }

-- the root of an inode file is a node or an inode block
pub root_leads : (r : Rooted) (label : ℕ) (v : Visit) → v ≡ root_visit r label → leads_on v ≡ true
root_leads r label v is = ap leads_on is ∙ or-true (not (r.levels == 0))
