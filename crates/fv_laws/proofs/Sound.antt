-- A well-formed volume has what a reserve rests on.
use Rattle.std.proofs.Common.{◌≡◌, ℕ, ◌^◌, ◌<◌, ◌≤◌, true, false, ◌||◌, List, [], ◌∷◌, map, Option, Some, None, is_some, inl, inr, refl, ap, ◌∙◌, arith}
use Rattle.std.specs.List.{list_any}
use Rattle.std.specs.Option.{option_and_then}
use Rattle.std.specs.Ordering.{nat_cmp, eq_by_cmp}
use Rattle.std.specs.FinMap as fin
use Rattle.std.specs.FinSet as set
use Rattle.fv_model.specs.Trees.{fan, Spot, least_levels}
use Rattle.fv_model.specs.Tables.{File, Table, inode_cell}
use Rattle.fv_model.specs.Places.{Owner, InodeFile, OfFile, Place, Id, id_cmp, ids_of, stamps_of}
use Rattle.fv_model.specs.Volumes.{Base, Volume}
use Rattle.fv_model.specs.Machines.{Machine}
use Rattle.fv_model.specs.Space.{base_ids, kept_ids, IsAdmitted}
use Rattle.fv_laws.specs.Reserve.{IsReserved, HasRoom}
use Rattle.fv_laws.specs.WellFormed.{IsWellTable, IsWellVolume, IsWell}
use Rattle.fv_laws.proofs.Orders.{name_total, id_total}
use Rattle.fv_laws.proofs.Lists.{In, in_map, from_map}
use Rattle.fv_laws.proofs.Levels.{least_reaches, wider, all_in}
use Rattle.fv_laws.proofs.Ids.{is_stamp, contains-ids, nat_same}
use Rattle.fv_laws.proofs.Stamps.{stands, get-stamps_of}
use Rattle.fv_laws.proofs.Release.{in_any}
use Rattle.fv_laws.proofs.Reserve.{IsSound}
use Rattle.fv_laws.proofs.Room.{entry_there, has_room}
use Rattle.fv_laws.proofs.Tables.{there_key}

-- a stamp that stands in a table is that of a change so far
some_file : (file : Option File) (p : Spot) (u : ℕ) → option_and_then (λ f. fin.get f.tree.stamps p) file ≡ Some u → (f : File) × (file ≡ Some f) × (fin.get f.tree.stamps p ≡ Some u)
some_file None p u e = absurd cc
some_file (Some f) p u e = (f, refl, e)

old_stamp : (now : ℕ) (t : Table) → IsWellTable now t → (o : Owner) (p : Spot) (u : ℕ) → stands t o p ≡ Some u → u ≤ now
old_stamp now t is InodeFile p u e = is.inode.stamps p u e
old_stamp now t is (OfFile n) p u e = let there = some_file (fin.get t.files n) p u e in (is.files n there.0 there.1).tree.stamps p u there.2

not_stamp : (now s : ℕ) (at : Option ℕ) → now < s → ((u : ℕ) → at ≡ Some u → u ≤ now) → is_stamp s at ≡ false
not_stamp now s None lt old = refl
not_stamp now s (Some u) lt old =
    elim (eq_by_cmp nat_cmp s u) as (λ b. eq_by_cmp nat_cmp s u ≡ b → b ≡ false) [
      | true ↦ λ e. let same = nat_same s u e in let le = old u refl in absurd (omega (arith, lt, same, le))
      | false ↦ λ e. refl
    ] refl

-- so no id of it is newer
none_newer : (now : ℕ) (t : Table) → IsWellTable now t → (p : Place) (s : ℕ) → now < s → set.contains (ids_of t) (p, s) ≡ false
none_newer now t is p s lt =
    contains-ids (stamps_of t) p s ∙ ap (is_stamp s) (get-stamps_of t p.owner (p.level, p.index))
    ∙ not_stamp now s (stands t p.owner (p.level, p.index)) lt (old_stamp now t is p.owner (p.level, p.index))

none_of : (ts : List Table) (q : Id) → ((t : Table) → In t ts → set.contains (ids_of t) q ≡ false) → list_any (λ t. set.contains (ids_of t) q) ts ≡ false
none_of [] q each = refl
none_of (t ∷ ts) q each = (λ i. each t (inl refl) i || none_of ts q (λ u h. each u (inr h)) i)

pub sound : (x : Volume) → IsWellVolume x → IsSound x
sound x is = record {
  reaches = λ n f e. let starts = (is.active.files n f e).tree.starts in let reach = least_reaches f.reserve in let wide = wider (least_levels f.reserve) f.tree.levels starts in omega (arith, reach, wide);
  holds = λ n f e. all_in (λ c. c < fan ^ x.active.inode.levels) (map inode_cell (fin.keys x.active.files)) is.active.inode.covers (inode_cell n) (in_map inode_cell n (fin.keys x.active.files) (there_key x.active.files n (ap is_some e)));
  old = λ p s lt. set.contains-union id_total (kept_ids x) (base_ids x.base) (p, s) ∙ (λ i. kept p s lt i || shared x.base is.base p s lt i);
}
  where
    kept : (p : Place) (s : ℕ) → x.now < s → set.contains (kept_ids x) (p, s) ≡ false
    kept p s lt = in_any (fin.values x.snapshots) (p, s) ∙ none_of (fin.values x.snapshots) (p, s) (λ t h.
        let entry = from_map (λ (e : List ℕ × Table). e.1) t (fin.entries x.snapshots) h in
        none_newer x.now t (is.snapshots entry.0.0 t (entry_there name_total x.snapshots entry.0 entry.1 ∙ ap Some entry.2)) p s lt)

    shared : (base : Option Base) → ((b : Base) → base ≡ Some b → IsWellTable x.now b.table) → (p : Place) (s : ℕ) → x.now < s → set.contains (base_ids base) (p, s) ≡ false
    shared None good p s lt = set.contains-empty id_cmp (p, s)
    shared (Some b) good p s lt = none_newer x.now b.table (good b refl) p s lt

pub room : (m : Machine) (v f : List ℕ) (i : ℕ) (block : List ℕ) → IsAdmitted m → IsWell m → IsReserved m v f i → HasRoom m v f i block
room m v f i block ok is h = has_room m v f i block ok h (sound h.volume (is.volumes v h.volume h.there))
