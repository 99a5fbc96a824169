-- What a volume uses, by the sets of VVBNs that its roots and its base table reach.
use Rattle.std.specs.Prelude.{◌≡◌, ◌<◌, ℕ, Bool, true, false, not, List, Option, Some, None, ◌==◌}
use Rattle.fv_bits.specs.Members.{is_member}
use Rattle.fv_codec.specs.declared.label.SnapRecord.{SnapRecord}
use Rattle.fv_tables.specs.Reached.{is_listed}
use Rattle.fv_image.specs.Views.{Head, View}
use Rattle.fv_image.specs.Seen.{seen}
use Rattle.fv_image.specs.Staying.{own_items}
use Rattle.fv_image.specs.Charged.{out_items}
use Rattle.fv_image.specs.ReachRules.{has_pointers_in_range}
use Rattle.fv_image.specs.TableRules.{has_one_to_one}
use Rattle.fv_image.specs.VolumeRules.{has_distinct_snapshots}
use Rattle.fv_image.proofs.OwnUses.{HasLabelNumbers}
use Rattle.fv_image.proofs.CountedCharge.{HasParentNumbers}

-- a record of a label that names a snapshot
abbrev pub is_used : SnapRecord → Bool
is_used r = not (r.name_length == 0)

-- whether a number is in a set, where there is one
abbrev pub is_out : Option (List Bool) → ℕ → Bool
is_out None v = false
is_out (Some set) v = is_member set v

-- The volume of a slot keeps the rules on numbers of labels, names of snapshots, ids and pointers in range. One set has the VVBNs that its roots
-- reach, and another those that its base table reaches; that is none where there is no base, or where the volume is being split from it.
pub record HasSets (w : View) (s : ℕ) (h : Head) (held : List Bool) (out : Option (List Bool)) : Type 0 where
  pub low : s < 64
  pub head : w.head s ≡ Some h
  pub numbers : HasLabelNumbers h
  pub parents : HasParentNumbers w h.base
  pub names : has_distinct_snapshots (seen w) ≡ true
  pub ids : has_one_to_one (seen w) ≡ true
  pub ranges : has_pointers_in_range (seen w) ≡ true
  pub reached : (v : ℕ) → v < h.span → is_member held v ≡ is_listed (own_items w s h) v
  pub based : (v : ℕ) → v < h.span → is_out out v ≡ is_listed (out_items w h.base) v
