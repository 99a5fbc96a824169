-- A map that has what a root of a volume reaches has as many members as the root's table has ids: so the span of a clone is found without a walk.
use Rattle.std.proofs.Common.{◌≡◌, ℕ, ◌+◌, ◌-◌, ◌<◌, ◌≤◌, ⊎_elim, Bool, true, false, not, ◌&&◌, List, [], ◌++◌, length, Option, Some, None, refl, sym, ap, subst, ◌∙◌, arith}
use Rattle.std.specs.Prelude.{count_by, ◌==◌, nat_lt}
use Rattle.std.specs.List.{list_all, range_with_len}
use Rattle.std.specs.FinSet as set
use Rattle.std.proofs.lemmas.Bool.{cases_lt, false≢true}
use Rattle.std.proofs.lemmas.Bool.Decides.{nat_tests}
use Rattle.std.proofs.lemmas.List.{append-nil}
use Rattle.fv_bits.specs.Members.{count_between, count_of, is_member}
use Rattle.fv_bits.proofs.Counts.{passing-add}
use Rattle.fv_bits.proofs.Laws.{is_member_past}
use Rattle.fv_codec.specs.declared.pointer.Pointer.{Pointer}
use Rattle.fv_model.specs.Places.{ids_of}
use Rattle.fv_laws.proofs.Lists.{In}
use Rattle.fv_laws.proofs.Orders.{id_total, id_ties}
use Rattle.fv_laws.proofs.Tests.{from_all}
use Rattle.fv_tables.specs.Ids.{ids_in, is_charged}
use Rattle.fv_tables.specs.Reached.{Item, is_listed, items}
use Rattle.fv_tables.proofs.IdsTold.{ids_told}
use Rattle.fv_tables.specs.Told.{table_told}
use Rattle.fv_tables.proofs.Listed.{IsOneToOne, listed_exact, listed_in}
use Rattle.fv_image.specs.Chains.{under}
use Rattle.fv_image.specs.BlockRules.{agree}
use Rattle.fv_image.specs.TableRules.{has_same_id}
use Rattle.fv_image.specs.Views.{Head, Rooted, View}
use Rattle.fv_image.specs.Volumes.{standing_of, table_at}
use Rattle.fv_image.proofs.OwnIds.{one_id, one_vvbn}
use Rattle.fv_disk.specs.Shown.{Shown as Disk}
use Rattle.fv_volmap.specs.Slots.{IsVolume, Slot, has, slot_at}
use Rattle.fv_pool.specs.declared.pool.Pool.{Pool}
use Rattle.fv_pool.proofs.Shows.{slot_below}
use Rattle.fv_volume.specs.declared.state.Snap.{Snap}
use Rattle.fv_volume.specs.declared.state.VolumeState.{VolumeState}
use Rattle.fv_volume.specs.Cloning.{count_in}
use Rattle.fv_volume.specs.OneVolume.{blocks_in, standing_kept, tables_of, trees_for, uses_in, RootStands}
use Rattle.fv_volume.specs.Sharing.{AreShared}
use Rattle.fv_volume.proofs.AllRoots.{kept_share}
use Rattle.fv_volume.proofs.OwnIds.{one_table}
use Rattle.fv_volume.proofs.SettledTables.{few_levels}
use Rattle.fv_volume.proofs.Ruled.{AreRuled, one_itself, same_id}

module _ (w : View) (s : ℕ) (h : Head) (r : Rooted) (led : Option ℕ → ℕ → ℕ → Pointer) (is : AreRuled w s h r led) (few : r.levels ≤ 2) where
  abbrev es : List Item
  es = items (standing_of w s r)

  alike : (a b : Item) → In a es → In b es → agree (has_same_id a b) (a.pointer.vvbn == b.pointer.vvbn) ≡ true
  alike a b one other = from_all (λ b. agree (has_same_id a b) (a.pointer.vvbn == b.pointer.vvbn)) es (from_all (λ a. list_all (λ b. agree (has_same_id a b) (a.pointer.vvbn == b.pointer.vvbn)) es) es all a one) b other
    where
      all : list_all (λ a. list_all (λ b. agree (has_same_id a b) (a.pointer.vvbn == b.pointer.vvbn)) es) es ≡ true
      all = is.each (λ a. list_all (λ b. agree (has_same_id a b) (a.pointer.vvbn == b.pointer.vvbn)) es)
          (λ a first. is.each (λ b. agree (has_same_id a b) (a.pointer.vvbn == b.pointer.vvbn)) (λ b second. same_id w s h led led a b first second is.numbers is.numbers (one_itself w s h r led is)))

  one : IsOneToOne (es ++ [])
  one = subst IsOneToOne (sym (append-nil es)) (record {
    ids = λ a b there here same. one_id a b (alike a b there here) same;
    vvbns = λ a b there here same. one_vvbn a b (alike a b there here) same;
  })

  low : (e : Item) → In e es → e.pointer.vvbn < h.span
  low e there = meant (from_all (λ (e : Item). nat_lt e.pointer.vvbn h.span) es (is.each (λ e. nat_lt e.pointer.vvbn h.span) (λ e known. below e.pointer.vvbn h.span known.low)) e there)
    where
      below : (a b : ℕ) → a < b → nat_lt a b ≡ true
      below a b lt = grind (arith, nat_tests, lt)

      meant : nat_lt e.pointer.vvbn h.span ≡ true → e.pointer.vvbn < h.span
      meant test = grind (arith, nat_tests, test)

  same_count : (p q : ℕ → Bool) → ((v : ℕ) → p v ≡ q v) → (xs : List ℕ) → count_by p xs ≡ count_by q xs
  same_count p q same xs = ap (λ (f : ℕ → Bool). count_by f xs) (λ i v. same v i)

  -- So it is with a map of the volume's span that has what the root reaches.
  pub ids_counted : (m : List Bool) → length m ≡ h.span → ((v : ℕ) → is_member m v ≡ is_listed es v) → count_of m ≡ set.len (ids_of (table_at w s r))
  unfolding count_of count_between
  ids_counted m long has =
      (let same : length m - 0 ≡ h.span = omega (arith, long) in ap (λ (n : ℕ). count_by (is_member m) (range_with_len 0 n)) same)
      ∙ same_count (is_member m) (is_charged es []) (λ v. has v ∙ last (is_listed es v)) (range_with_len 0 h.span)
      ∙ listed_exact es [] one h.span low
      ∙ ap set.len (set.same_set id_total id_ties (set.difference (ids_in es) (ids_in [])) (ids_in es) (λ i. set.contains-difference id_total (ids_in es) (ids_in []) i
      ∙ ap (λ (t : Bool). set.contains (ids_in es) i && not t) (set.contains-from_list id_total [] i) ∙ sym (last (set.contains (ids_in es) i))))
      ∙ sym (ap set.len (ids_told (under w s) r.levels r.root few))
    where
      last : (b : Bool) → b ≡ (b && not false)
      last true = refl
      last false = refl

-- ---- over one volume

-- Up to a number above all that a table which is kept reaches, its slot has as many numbers as the table has ids.
module _ (disk : Disk) (pool : Pool) (x : VolumeState) (shared : AreShared (trees_for disk pool x) (blocks_in disk pool x) (tables_of x)) (q : Snap) (there : In q (tables_of x)) (lies : RootStands disk pool x q.slot q.table) where
  abbrev its : List Item
  its = items (standing_kept (blocks_in disk pool x) q)

  one_to_one : IsOneToOne (its ++ [])
  one_to_one = subst IsOneToOne (sym (append-nil its))
      (one_table x.known (blocks_in disk pool x q.slot) (uses_in pool x q.slot) (slot_at x.map q.slot) x.now q.table lies (kept_share disk pool x shared q q there there))

  has_item : (e : Item) → In e its → has e.pointer.vvbn (slot_at x.map q.slot) ≡ true
  has_item e inside = lies.reach e.pointer.vvbn ∙ listed_in its e inside

  counted_to : (n : ℕ) → ((e : Item) → In e its → e.pointer.vvbn < n) → count_by (λ v. has v (slot_at x.map q.slot)) (range_with_len 0 n) ≡ set.len (ids_of (table_told (standing_kept (blocks_in disk pool x) q)))
  counted_to n below =
      same_count (λ v. has v (slot_at x.map q.slot)) (is_charged its []) (λ v. lies.reach v ∙ plain (is_listed its v)) (range_with_len 0 n)
      ∙ listed_exact its [] one_to_one n below
      ∙ ap set.len (set.same_set id_total id_ties (set.difference (ids_in its) (ids_in [])) (ids_in its) (λ i. set.contains-difference id_total (ids_in its) (ids_in []) i
      ∙ ap (λ (t : Bool). set.contains (ids_in its) i && not t) (set.contains-from_list id_total [] i) ∙ sym (plain (set.contains (ids_in its) i))))
      ∙ sym (ap set.len (ids_told (blocks_in disk pool x q.slot) q.table.levels q.table.root (few_levels x.now (blocks_in disk pool x q.slot) q.table.levels q.table.root lies.table)))
    where
      plain : (b : Bool) → b ≡ (b && not false)
      plain true = refl
      plain false = refl

      same_count : (p q : ℕ → Bool) → ((v : ℕ) → p v ≡ q v) → (xs : List ℕ) → count_by p xs ≡ count_by q xs
      same_count p q same xs = ap (λ (f : ℕ → Bool). count_by f xs) (λ i v. same v i)

  -- So below its span it has no more.
  pub slot_ids_most : count_in x q.slot ≤ set.len (ids_of (table_told (standing_kept (blocks_in disk pool x) q)))
  slot_ids_most =
      let more = slot_long (slot_at x.map q.slot) in
      let all = counted_to (x.map.span + more) (λ e inside. let low = slot_low (slot_at x.map q.slot) e.pointer.vvbn (has_item e inside) in omega (arith, low)) in
      let parts = passing-add (λ v. has v (slot_at x.map q.slot)) 0 x.map.span more in
      omega (arith, all, parts)
    where
      slot_long : Slot → ℕ
      slot_long None = 0
      slot_long (Some m) = length m

      slot_low : (s : Slot) (v : ℕ) → has v s ≡ true → v < slot_long s
      slot_low None v e = absurd (false≢true e)
      slot_low (Some m) v e = ⊎_elim (λ (low : v < length m). low) (λ (past : length m ≤ v). absurd (false≢true (sym (is_member_past m v past) ∙ e))) (cases_lt v (length m))

-- So many numbers has the slot of a table that is kept.
module _ (disk : Disk) (pool : Pool) (x : VolumeState) (whole : IsVolume x.map) (shared : AreShared (trees_for disk pool x) (blocks_in disk pool x) (tables_of x)) (q : Snap) (there : In q (tables_of x)) (lies : RootStands disk pool x q.slot q.table) where
  below_span : (e : Item) → In e (items (standing_kept (blocks_in disk pool x) q)) → e.pointer.vvbn < x.map.span
  below_span e inside = slot_below x.map whole q.slot e.pointer.vvbn (has_item disk pool x shared q there lies e inside)

  pub slot_ids : count_in x q.slot ≡ set.len (ids_of (table_told (standing_kept (blocks_in disk pool x) q)))
  slot_ids = counted_to disk pool x shared q there lies x.map.span below_span
