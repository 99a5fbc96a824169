-- What calls of a map in memory are to the finite map that it stands for, and the files by their names.
use Rattle.std.proofs.Common.{◌≡◌, ◌≢◌, ℕ, suc, ◌+◌, Bool, cond, true, false, ⊎_elim, List, [], ◌∷◌, length, refl, sym, ap, ◌∙◌, Some, None, arith, rules, Less, Equal, Greater}
use Rattle.std.specs.Prelude.{Option, Ok, Err, is_some, is_ok, nat_le, ◌&&◌, take, drop, ◌==◌, if◌then◌else◌}
use Rattle.std.specs.Option.{option_map}
use Rattle.std.proofs.lemmas.Bool.{cases_eq}
use Rattle.std.proofs.lemmas.Bool.Decides.{nat_tests}
use Rattle.std.proofs.lemmas.List.{length-take-le}
use Rattle.fv_codec.specs.Fields.{Verdict, is_name_byte, all_name, all_zero, name_filled, ◌then◌}
use Rattle.fv_codec.specs.Blocks.{IsInodeRecord}
use Rattle.fv_tables.proofs.Lists.{both}
use Rattle.std.specs.List.{AllByRecursion, list_all}
use Rattle.std.specs.declared.cmp.Ordering.{Ordering}
use Rattle.std.specs.Ordering.{match_ordering}
use Rattle.std.specs.Cmp.{IsTotalOrder}
use Rattle.std.specs.Cmp.Rules.{comparing}
use Rattle.std.specs.List.Sorted.{IsStrictlySortedBy}
use Rattle.std.specs.Map.{keys_of}
use Rattle.std.specs.BTreeMap as tree
use Rattle.std.specs.FinMap as fin
use Rattle.std.specs.FinMap.Entries.{by_order}
use Rattle.std.specs.FinMap.{put}
use Rattle.fv_codec.specs.declared.inode.InodeRecord.{InodeRecord}
use Rattle.fv_model.specs.Spelling.{name_cmp, is_name}
use Rattle.fv_tables.specs.Spelled.{Rooted}
use Rattle.fv_tables.specs.Told.{listed, used_record, file_at}
use Rattle.fv_inode.specs.Files.{name_of}
use Rattle.fv_inode.specs.Listing.{numbers_in, names_from}

no_length : {A : Type 0} (es : List A) → length es ≡ 0 → es ≡ []
no_length [] e = refl
no_length (x ∷ es) e = absurd (omega arith)

module _ {K X : Type 0} {R : K → K → Ordering} (o : IsTotalOrder R) where
  none : fin.entries (fin.empty {K = K} {X = X} {R = R}) ≡ []
  none = no_length _ (sym (fin.len-entries (fin.empty {K = K} {X = X} {R = R})) ∙ fin.len-empty R X)

  put_first : (k : K) (v : X) (es : List (K × X)) → AllByRecursion (λ y. R k y ≡ Less) (keys_of es) → put R k v es ≡ (k, v) ∷ es
  put_first k v [] h = refl
  put_first k v (e ∷ es) h = ap (λ r. by_order r ((k, v) ∷ e ∷ es) ((e.0, v) ∷ es) (e ∷ put R k v es)) h.0

  -- the entries of a list in order are that list
  pub entries_of : (es : List (K × X)) → IsStrictlySortedBy R (keys_of es) → fin.entries (fin.from_entries {R = R} es) ≡ es
  unfolding IsStrictlySortedBy
  entries_of [] h = none
  entries_of (e ∷ es) h =
      fin.entries-insert o (fin.from_entries {R = R} es) e.0 e.1 ∙ ap (put R e.0 e.1) (entries_of es h.1) ∙ put_first e.0 e.1 es h.0

  same_put : (r : Ordering) (a b c : List (K × X)) → match_ordering r a b c ≡ by_order r a b c
  same_put Less a b c = refl
  same_put Equal a b c = refl
  same_put Greater a b c = refl

  put_is : (es : List (K × X)) (k : K) (v : X) → tree.insert_entry R es k v ≡ put R k v es
  put_is [] k v = refl
  put_is (e ∷ es) k v =
      same_put (R k e.0) _ _ _ ∙ ap (λ (rest : List (K × X)). by_order (R k e.0) ((k, v) ∷ e ∷ es) ((e.0, v) ∷ es) (e ∷ rest)) (put_is es k v)

  pub inserted : (m n : tree.BTreeMap K X) (k : K) (v : X) → tree.IsOrdered R m → tree.IsOrdered R n → n.entries ≡ tree.insert_entry R m.entries k v
      → fin.from_entries {R = R} n.entries ≡ fin.insert (fin.from_entries m.entries) k v
  inserted m n k v was now is =
      fin.same_entries_map (fin.from_entries n.entries) (fin.insert (fin.from_entries m.entries) k v)
      (entries_of n.entries now ∙ is ∙ put_is m.entries k v ∙ sym (fin.entries-insert o (fin.from_entries m.entries) k v ∙ ap (put R k v) (entries_of m.entries was)))

pub name_total : IsTotalOrder name_cmp
name_total = search (comparing, rules)

-- ---- files by their names

-- one number more, where it has no file
pub skipped : (t : Rooted) (number count : ℕ) → file_at t number ≡ None → names_from t number (suc count) ≡ names_from t (number + 1) count
unfolding names_from listed
skipped t number count none = rw none refl

-- and where it has one
pub added : (t : Rooted) (number count : ℕ) (r : InodeRecord) → file_at t number ≡ Some r → names_from t number (suc count) ≡ fin.insert (names_from t (number + 1) count) (name_of r) number
unfolding names_from listed
added t number count r is = rw is refl

pub nothing : (t : Rooted) (number : ℕ) (m : tree.BTreeMap (List ℕ) ℕ) → length m.entries ≡ 0 → numbers_in m ≡ names_from t number 0
unfolding names_from listed
nothing t number m empty = ap (λ (es : List (List ℕ × ℕ)). fin.from_entries {R = name_cmp} es) (no_length m.entries empty)

pub no_map : {X Y : Type 0} (f : X → Y) (o : Option X) → None ≡ option_map f o → o ≡ None
no_map f None e = refl
no_map f (Some x) e = absurd (grind (arith, ap is_some e))

pub record IsMapped {X Y : Type 0} (f : X → Y) (o : Option X) (y : Y) : Type 0 where
  pub from : X
  pub is : o ≡ Some from
  pub to : Some y ≡ Some (f from)

pub mapped : {X Y : Type 0} (f : X → Y) (o : Option X) (y : Y) → Some y ≡ option_map f o → IsMapped f o y
mapped f None y e = absurd (grind (arith, ap is_some e))
mapped f (Some x) y e = record { from = x; is = refl; to = e }

-- ---- names in records

first_ok : (v w : Verdict) → (v then w) ≡ Ok tt → v ≡ Ok tt
first_ok (Ok u) w e = refl
first_ok (Err fault) w e = absurd (grind (arith, ap is_ok e))

spelled : (xs : List ℕ) → all_name xs ≡ Ok tt → list_all is_name_byte xs ≡ true
unfolding all_name
spelled [] e = refl
spelled (x ∷ xs) e = so (λ rest. spelled xs rest) (is_name_byte x) e
  where
    so : (all_name xs ≡ Ok tt → list_all is_name_byte xs ≡ true) → (b : Bool) → (if b then all_name xs else Err (record { want = 97; found = x })) ≡ Ok tt → (b && list_all is_name_byte xs) ≡ true
    so rest true e = rest e
    so rest false e = absurd (grind (arith, ap is_ok e))

in_name : (r : InodeRecord) → IsInodeRecord r → r.name_length ≢ 0 → is_name (name_of r) ≡ true
unfolding name_filled
in_name r fits some =
    let long : length (take r.name_length r.name) ≡ r.name_length = length-take-le r.name_length r.name (omega (arith, fits.name_length, fits.name_long)) in
    let low : nat_le 1 (length (take r.name_length r.name)) ≡ true = grind (arith, nat_tests, long, some) in
    let high : nat_le (length (take r.name_length r.name)) 64 ≡ true = let le = fits.name_length in grind (arith, nat_tests, long, le) in
    both (nat_le 1 (length (take r.name_length r.name)) && nat_le (length (take r.name_length r.name)) 64) (list_all is_name_byte (take r.name_length r.name))
    (both (nat_le 1 (length (take r.name_length r.name))) (nat_le (length (take r.name_length r.name)) 64) low high)
    (spelled (take r.name_length r.name) (first_ok (all_name (take r.name_length r.name)) (all_zero (drop r.name_length r.name)) fits.name))

-- the name of a record that isn't free is read from its bytes
pub name_told : (r : InodeRecord) → IsInodeRecord r → cond (is_name (name_of r)) (Some (name_of r)) None ≡ option_map name_of (used_record r)
name_told r fits = ⊎_elim
    (λ (none : r.name_length ≡ 0). let free : used_record r ≡ None = rw none refl in nameless r none ∙ sym (ap (option_map name_of) free))
    (λ some.
    let test : (r.name_length == 0) ≡ false = grind (arith, nat_tests, some) in
    let used : used_record r ≡ Some r = rw test refl in
    ap (λ b. cond b (Some (name_of r)) None) (in_name r fits some) ∙ sym (ap (option_map name_of) used))
    (cases_eq r.name_length 0)
  where
    nameless : (r : InodeRecord) → r.name_length ≡ 0 → cond (is_name (name_of r)) (Some (name_of r)) None ≡ None
    nameless r none = ap (λ n. cond (is_name (take n r.name)) (Some (take n r.name)) None) none
