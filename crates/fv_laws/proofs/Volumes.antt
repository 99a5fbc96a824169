-- What each command leaves of a volume is well-formed.
use Rattle.std.proofs.Common.{◌≡◌, ℕ, ◌+◌, ◌-◌, ◌*◌, ◌<◌, ◌≤◌, Bool, true, false, cond, List, Option, Some, None, refl, sym, ap, subst, ◌∙◌, arith}
use Rattle.std.specs.Option.{option_map}
use Rattle.std.specs.Ordering.{eq_by_cmp}
use Rattle.std.specs.FinMap as fin
use Rattle.std.specs.FinSet as set
use Rattle.fv_model.specs.declared.commands.Kind.{Kind}
use Rattle.fv_model.specs.Numbers.{most_snapshots, most_changes, greatest_span}
use Rattle.fv_model.specs.Spelling.{name_cmp}
use Rattle.fv_model.specs.Tables.{Table}
use Rattle.fv_model.specs.Places.{id_cmp, ids_of}
use Rattle.fv_model.specs.Volumes.{Base, Volume}
use Rattle.fv_model.specs.Space.{base_ids, span_of}
use Rattle.fv_model.specs.Effects.{stamped, empty_volume, clone_of, mirror_of, being_split}
use Rattle.fv_laws.specs.WellFormed.{IsWellTable, IsWellVolume}
use Rattle.fv_laws.proofs.Orders.{name_total}
use Rattle.fv_laws.proofs.Tables.{later_table, empty_well}

-- ---- spans
span_room : (size base least : ℕ) → 2 * size + base + 256 ≤ span_of size base least
span_room size base least = omega arith

span_narrow : (size : ℕ) → size ≤ 500000 → span_of size 0 0 ≤ greatest_span
span_narrow size le = omega arith

none_shared : set.len (base_ids None) ≡ 0
none_shared = set.len-empty id_cmp

no_snapshot : (s : List ℕ) (t : Table) → fin.get (fin.empty {K = List ℕ} {X = Table} {R = name_cmp}) s ≡ Some t → ⊥
no_snapshot s t e = let wrong : None ≡ Some t = sym (fin.get-empty name_cmp s) ∙ e in absurd cc

none_kept : fin.len (fin.empty {K = List ℕ} {X = Table} {R = name_cmp}) ≤ most_snapshots
none_kept = let none : fin.len (fin.empty {K = List ℕ} {X = Table} {R = name_cmp}) ≡ 0 = fin.len-empty name_cmp Table in subst (λ c. c ≤ most_snapshots) (sym none) (omega arith)

-- a clone's span isn't below its parent's
pub clone_span : (v : List ℕ) (x : Volume) (s : List ℕ) (t : Table) (size : ℕ) (kind : Kind) → x.span ≤ (clone_of v x s t size kind).span
clone_span v x s t size kind = omega arith

-- ---- new volumes
pub empty_is_well : (size : ℕ) (kind : Kind) → size ≤ 500000 → IsWellVolume (empty_volume size kind)
empty_is_well size kind small = record {
  changes = omega arith;
  active = empty_well 0;
  snapshots = λ s t e. absurd (no_snapshot s t e);
  base = λ b e. absurd cc;
  kept = none_kept;
  size = omega arith;
  room = let none = none_shared in let room = span_room size 0 0 in omega (arith, none, room);
  narrow = span_narrow size small;
}

pub mirror_is_well : (x : Volume) (s : List ℕ) (t : Table) (size : ℕ) (kind : Kind) → IsWellVolume x → fin.get x.snapshots s ≡ Some t → span_of size 0 x.span ≤ greatest_span → IsWellVolume (mirror_of x t size kind)
mirror_is_well x s t size kind is e narrow = record {
  changes = is.changes;
  active = is.snapshots s t e;
  snapshots = λ s t e. absurd (no_snapshot s t e);
  base = λ b e. absurd cc;
  kept = none_kept;
  size = omega arith;
  room = let none = none_shared in let room = span_room size 0 x.span in omega (arith, none, room);
  narrow = narrow;
}

pub clone_is_well : (v : List ℕ) (x : Volume) (s : List ℕ) (t : Table) (size : ℕ) (kind : Kind) → IsWellVolume x → fin.get x.snapshots s ≡ Some t → span_of size (set.len (ids_of t)) x.span ≤ greatest_span → IsWellVolume (clone_of v x s t size kind)
clone_is_well v x s t size kind is e narrow = record {
  changes = is.changes;
  active = is.snapshots s t e;
  snapshots = λ s t e. absurd (no_snapshot s t e);
  base = λ b d. let own : Base = record { parent = v; snapshot = s; table = t; splitting = false } in let same : own ≡ b = cc in subst (λ (c : Base). IsWellTable x.now c.table) same (is.snapshots s t e);
  kept = none_kept;
  size = omega arith;
  room = span_room size (set.len (ids_of t)) x.span;
  narrow = narrow;
}

-- ---- volumes that change
pub recast : (x : Volume) → IsWellVolume x → (kind : Kind) (known : Bool) → IsWellVolume (record x { kind = kind; known = known })
recast x is kind known = record { changes = is.changes; active = is.active; snapshots = is.snapshots; base = is.base; kept = is.kept; size = is.size; room = is.room; narrow = is.narrow }

pub resized : (x : Volume) → IsWellVolume x → (size : ℕ) → size ≤ x.most → IsWellVolume (record x { size = size })
resized x is size le = record { changes = is.changes; active = is.active; snapshots = is.snapshots; base = is.base; kept = is.kept; size = le; room = is.room; narrow = is.narrow }

pub changed_table : (x : Volume) → IsWellVolume x → (table : ℕ → Table) → x.now < most_changes → IsWellTable (x.now + 1) (table (x.now + 1)) → IsWellVolume (stamped x table)
changed_table x is table few good = record {
  changes = omega arith;
  active = good;
  snapshots = λ s t e. later_table x.now (x.now + 1) t (omega arith) (is.snapshots s t e);
  base = λ b e. later_table x.now (x.now + 1) b.table (omega arith) (is.base b e);
  kept = is.kept;
  size = is.size;
  room = is.room;
  narrow = is.narrow;
}

pub restored : (x : Volume) → IsWellVolume x → (s : List ℕ) (t : Table) → fin.get x.snapshots s ≡ Some t → IsWellVolume (record x { active = t })
restored x is s t e = record { changes = is.changes; active = is.snapshots s t e; snapshots = is.snapshots; base = is.base; kept = is.kept; size = is.size; room = is.room; narrow = is.narrow }

at_most_one : (b : Bool) (n : ℕ) → cond b n (n + 1) ≤ n + 1
at_most_one true n = omega arith
at_most_one false n = omega arith

at_most_all : (b : Bool) (n : ℕ) → cond b (n - 1) n ≤ n
at_most_all true n = omega arith
at_most_all false n = omega arith

pub snapped : (x : Volume) → IsWellVolume x → (s : List ℕ) → fin.len x.snapshots < most_snapshots → IsWellVolume (record x { snapshots = fin.insert x.snapshots s x.active })
snapped x is s few = record {
  changes = is.changes;
  active = is.active;
  snapshots = λ q t e. by q t (eq_by_cmp name_cmp q s) (sym (fin.get-insert name_total x.snapshots s x.active q) ∙ e);
  base = is.base;
  kept = let count : fin.len (fin.insert x.snapshots s x.active) ≤ fin.len x.snapshots + 1 = subst (λ c. c ≤ fin.len x.snapshots + 1) (sym (fin.len-insert name_total x.snapshots s x.active)) (at_most_one (fin.contains_key x.snapshots s) (fin.len x.snapshots)) in omega (arith, count, few);
  size = is.size;
  room = is.room;
  narrow = is.narrow;
}
  where
    by : (q : List ℕ) (t : Table) (b : Bool) → cond b (Some x.active) (fin.get x.snapshots q) ≡ Some t → IsWellTable x.now t
    by q t true e = let same : x.active ≡ t = cc in subst (IsWellTable x.now) same is.active
    by q t false e = is.snapshots q t e

pub snapshot_gone : (x : Volume) → IsWellVolume x → (s : List ℕ) → IsWellVolume (record x { snapshots = fin.remove x.snapshots s })
snapshot_gone x is s = record {
  changes = is.changes;
  active = is.active;
  snapshots = λ q t e. by q t (eq_by_cmp name_cmp q s) (sym (fin.get-remove name_total x.snapshots s q) ∙ e);
  base = is.base;
  kept = let few = is.kept in let count : fin.len (fin.remove x.snapshots s) ≤ fin.len x.snapshots = subst (λ c. c ≤ fin.len x.snapshots) (sym (fin.len-remove name_total x.snapshots s)) (at_most_all (fin.contains_key x.snapshots s) (fin.len x.snapshots)) in omega (arith, count, few);
  size = is.size;
  room = is.room;
  narrow = is.narrow;
}
  where
    by : (q : List ℕ) (t : Table) (b : Bool) → cond b None (fin.get x.snapshots q) ≡ Some t → IsWellTable x.now t
    by q t true e = absurd cc
    by q t false e = is.snapshots q t e

-- the base of a volume whose split began is its base
pub split_base : (base : Option Base) (b : Base) → option_map being_split base ≡ Some b → (a : Base) × (base ≡ Some a) × (a.parent ≡ b.parent) × (a.snapshot ≡ b.snapshot) × (a.table ≡ b.table)
split_base None b e = absurd cc
split_base (Some a) b e = let same : being_split a ≡ b = cc in (a, refl, (λ i. (same i).parent), (λ i. (same i).snapshot), (λ i. (same i).table))

same_shared : (base : Option Base) → base_ids (option_map being_split base) ≡ base_ids base
same_shared None = refl
same_shared (Some b) = refl

pub split_begun : (x : Volume) → IsWellVolume x → IsWellVolume (record x { base = option_map being_split x.base; known = false })
split_begun x is = record {
  changes = is.changes;
  active = is.active;
  snapshots = is.snapshots;
  base = λ b e. let was = split_base x.base b e in subst (IsWellTable x.now) was.4 (is.base was.0 was.1);
  kept = is.kept;
  size = is.size;
  room = let same = ap set.len (same_shared x.base) in let room = is.room in omega (arith, same, room);
  narrow = is.narrow;
}

pub split_ended : (x : Volume) → IsWellVolume x → IsWellVolume (record x { base = None })
split_ended x is = record {
  changes = is.changes;
  active = is.active;
  snapshots = is.snapshots;
  base = λ b e. absurd cc;
  kept = is.kept;
  size = is.size;
  room = let none = none_shared in let room = is.room in omega (arith, none, room);
  narrow = is.narrow;
}
