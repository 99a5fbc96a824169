-- The four changes of a table leave a well-formed one.
use Rattle.std.proofs.Common.{zero, suc, not, nat_eq, ◌⊎◌, ◌≡◌, ℕ, ◌+◌, ◌-◌, ◌<◌, ◌≤◌, max, Bool, true, false, cond, nat_lt, nat_le, List, [], ◌∷◌, find, length, map, filter, Option, Some, None, is_some, inl, inr, ⊎_elim, refl, sym, ap, subst, ◌∙◌, arith}
use Rattle.std.specs.List.{prefix_len, range_with_len, AllByRecursion}
use Rattle.std.specs.Ordering.{nat_cmp, eq_by_cmp, is_eq}
use Rattle.std.specs.Cmp.{Equal-is, tied_itself, nat_cmp_total}
use Rattle.std.specs.FinMap as fin
use Rattle.std.proofs.lemmas.Bool.Decides.{nat_tests}
use Rattle.fv_model.specs.Numbers.{is_reserve, is_index, most_files}
use Rattle.fv_model.specs.Spelling.{is_same_name}
use Rattle.fv_model.specs.Trees.{Tree, erased, least_levels, written}
use Rattle.fv_model.specs.Tables.{File, Table, empty_table, inode_cell, free_number, file_named, file_put, file_cut, new, put, cut, rm}
use Rattle.fv_laws.specs.WellFormed.{IsTree, IsWellFile, IsWellTable}
use Rattle.fv_laws.proofs.Changes.{itself}
use Rattle.fv_laws.proofs.Lists.{in_filter, any_in, in_any, In, in_map, from_map}
use Rattle.fv_laws.proofs.Levels.{stops, least_low, with_low, all_in, in_all}
use Rattle.fv_laws.proofs.Reserve.{among}
use Rattle.fv_laws.proofs.Trees.{Adds, empty_tree, later_tree, written_tree, erased_tree}

-- ---- keys of maps by number
module _ {X : Type 0} where
  pub key_there : (m : fin.FinMap nat_cmp X) (j : ℕ) → In j (fin.keys m) → is_some (fin.get m j) ≡ true
  key_there m j h = fin.contains_key-keys m j ∙ in_any nat_cmp_total j (fin.keys m) h

  pub there_key : (m : fin.FinMap nat_cmp X) (j : ℕ) → is_some (fin.get m j) ≡ true → In j (fin.keys m)
  there_key m j h = any_in fin.nat_cmp-IsAntisymmetric j (fin.keys m) (sym (fin.contains_key-keys m j) ∙ h)

  newer : (b : Bool) (v : X) (o : Option X) → is_some o ≡ true → is_some (cond b (Some v) o) ≡ true
  newer true v o e = refl
  newer false v o e = e

  older : (b : Bool) (o : Option X) → is_some (cond b None o) ≡ true → is_some o ≡ true
  older true o e = absurd cc
  older false o e = e

  passed : (b : Bool) (o : Option X) → is_some (cond b o None) ≡ true → (b ≡ true) × (is_some o ≡ true)
  passed true o e = (refl, e)
  passed false o e = absurd cc

  pub put_adds : (m : fin.FinMap nat_cmp X) (k : ℕ) (v : X) → Adds k (fin.keys m) (fin.keys (fin.insert m k v))
  put_adds m k v = record {
    old = λ j h. there_key (fin.insert m k v) j (ap is_some (fin.get-insert nat_cmp_total m k v j) ∙ newer (eq_by_cmp nat_cmp j k) v (fin.get m j) (key_there m j h));
    new = there_key (fin.insert m k v) k (ap is_some (fin.get-insert nat_cmp_total m k v k) ∙ ap (λ r. is_some (cond (is_eq r) (Some v) (fin.get m k))) (tied_itself nat_cmp_total k));
    only = λ j h. elim (eq_by_cmp nat_cmp j k) as (λ b. eq_by_cmp nat_cmp j k ≡ b → is_some (cond b (Some v) (fin.get m j)) ≡ true → (j ≡ k) ⊎ In j (fin.keys m)) [
      | true ↦ λ e d. inl (fin.nat_cmp-IsAntisymmetric j k ((Equal-is (nat_cmp j k)).0 e))
      | false ↦ λ e d. inr (there_key m j d)
    ] refl (ap is_some (sym (fin.get-insert nat_cmp_total m k v j)) ∙ key_there (fin.insert m k v) j h);
  }

  pub kept_key : (m : fin.FinMap nat_cmp X) (p : ℕ → Bool) (j : ℕ) → In j (fin.keys (fin.retain_keys m p)) → (p j ≡ true) × In j (fin.keys m)
  kept_key m p j h =
      let there = passed (p j) (fin.get m j) (ap is_some (sym (fin.get-retain_keys m p j (λ x e. ap p (sym (fin.nat_cmp-IsAntisymmetric j x e))))) ∙ key_there (fin.retain_keys m p) j h) in
      (there.0, there_key m j there.1)

  pub left_key : (m : fin.FinMap nat_cmp X) (k j : ℕ) → In j (fin.keys (fin.remove m k)) → In j (fin.keys m)
  left_key m k j h = there_key m j (older (eq_by_cmp nat_cmp j k) (fin.get m j) (ap is_some (sym (fin.get-remove nat_cmp_total m k j)) ∙ key_there (fin.remove m k) j h))

adds_map : (g : ℕ → ℕ) (i : ℕ) (xs ys : List ℕ) → Adds i xs ys → Adds (g i) (map g xs) (map g ys)
adds_map g i xs ys adds = record {
  old = λ j h. let there = from_map g j xs h in subst (λ n. In n (map g ys)) there.2 (in_map g there.0 ys (adds.old there.0 there.1));
  new = in_map g i ys adds.new;
  only = λ j h. let there = from_map g j ys h in ⊎_elim (λ same. inl (sym there.2 ∙ ap g same)) (λ old. inr (subst (λ n. In n (map g xs)) there.2 (in_map g there.0 xs old))) (adds.only there.0 there.1);
}

-- ---- the least free number
pub prefix_passes : (p : ℕ → Bool) (a c k : ℕ) → k < prefix_len p (range_with_len a c) → p (a + k) ≡ true
prefix_passes p a zero k lt = absurd (omega arith)
prefix_passes p a (suc c) k lt =
    elim (p a) as (λ b. p a ≡ b → k < cond b (1 + prefix_len p (range_with_len (a + 1) c)) 0 → p (a + k) ≡ true) [
      | true ↦ λ e lt. elim k as (λ j. k ≡ j → p (a + k) ≡ true) [
        | zero ↦ λ d. ap p (omega arith) ∙ e
        | (suc j) ↦ λ d. ap p (omega arith) ∙ prefix_passes p (a + 1) c j (omega arith)
      ] refl
      | false ↦ λ e lt. absurd (omega arith)
    ] refl lt

no_longer : (p : ℕ → Bool) (xs : List ℕ) → length (filter p xs) ≤ length xs
no_longer p [] = omega arith
no_longer p (x ∷ xs) =
    let rest = no_longer p xs in elim (p x) as (λ b. length (cond b (x ∷ filter p xs) (filter p xs)) ≤ suc (length xs)) [ true ↦ omega (arith, rest) | false ↦ omega (arith, rest) ]

shorter : (p : ℕ → Bool) (x : ℕ) (xs : List ℕ) → In x xs → p x ≡ false → suc (length (filter p xs)) ≤ length xs
shorter p x [] h e = absurd h
shorter p x (y ∷ xs) (inl same) e = let no : p y ≡ false = ap p same ∙ e in let all = no_longer p xs in rw no (omega (arith, all))
shorter p x (y ∷ xs) (inr h) e =
    let rest = shorter p x xs h e in elim (p y) as (λ b. suc (length (cond b (y ∷ filter p xs) (filter p xs))) ≤ suc (length xs)) [ true ↦ omega (arith, rest) | false ↦ omega (arith, rest) ]

-- a list that has all numbers below c has so many elements
has_room : (c : ℕ) (ks : List ℕ) → ((k : ℕ) → k < c → In k ks) → c ≤ length ks
has_room zero ks each = omega arith
has_room (suc c) ks each =
    let other = λ (k : ℕ). not (nat_eq k c) in
    let less = shorter other c ks (each c (omega arith)) (let yes : nat_eq c c ≡ true = grind (arith, nat_tests) in ap not yes) in
    let rest = has_room c (filter other ks) (λ k lt. in_filter other k ks (each k (omega arith)) (let no : nat_eq k c ≡ false = grind (arith, nat_tests) in ap not no)) in
    omega (arith, less, rest)

length_keys : {X : Type 0} (es : List (ℕ × X)) → length (map (λ (e : ℕ × X). e.0) es) ≡ length es
length_keys [] = refl
length_keys (e ∷ es) = let rest = length_keys es in omega (arith, rest)

-- a new file's number is at most the number of files
pub free_low : (t : Table) → free_number t ≤ fin.len t.files
free_low t =
    let has = λ (n : ℕ). fin.contains_key t.files n in
    let n = prefix_len has (range_with_len 0 (fin.len t.files + 1)) in
    let all = has_room n (fin.keys t.files) (λ k lt. there_key t.files k (ap has (omega arith) ∙ prefix_passes has 0 (fin.len t.files + 1) k lt)) in
    let keys = length_keys (fin.entries t.files) in
    let count = fin.len-entries t.files in
    omega (arith, all, keys, count)

pub free_is_free : (t : Table) → fin.contains_key t.files (free_number t) ≡ false
free_is_free t =
    let has = λ (n : ℕ). fin.contains_key t.files n in
    ⊎_elim (λ l. ap has (omega arith) ∙ l)
    (λ r. let all : free_number t ≡ fin.len t.files + 1 = r in let low = free_low t in absurd (omega (arith, all, low)))
    (stops has 0 (fin.len t.files + 1))

pub free_is_least : (t : Table) (k : ℕ) → k < free_number t → fin.contains_key t.files k ≡ true
free_is_least t k lt = ap (λ (n : ℕ). fin.contains_key t.files n) (omega arith) ∙ prefix_passes (λ (n : ℕ). fin.contains_key t.files n) 0 (fin.len t.files + 1) k lt

-- ---- files
pub later_file : (now later : ℕ) (f : File) → now ≤ later → IsWellFile now f → IsWellFile later f
later_file now later f le is = record { levels = is.levels; reserve = is.reserve; range = is.range; tree = later_tree now later (least_levels f.reserve) (fin.keys f.blocks) f.tree le is.tree; length = is.length }

no_keys : fin.keys (fin.empty {K = ℕ} {X = List ℕ} {R = nat_cmp}) ≡ []
no_keys = ap (map (λ (e : ℕ × List ℕ). e.0)) (none _ (sym (fin.len-entries (fin.empty {K = ℕ} {X = List ℕ} {R = nat_cmp})) ∙ fin.len-empty nat_cmp (List ℕ)))
  where
    none : (es : List (ℕ × List ℕ)) → length es ≡ 0 → es ≡ []
    none [] e = refl
    none (x ∷ es) e = absurd (omega arith)

start_low : (reserve : ℕ) → is_reserve reserve ≡ true → least_levels reserve ≤ 3
start_low reserve small = let le : reserve ≤ 2097152 = grind (arith, nat_tests) in least_low reserve 3 (omega arith)

new_file : (now : ℕ) (name : List ℕ) (reserve : ℕ) → is_reserve reserve ≡ true → IsWellFile now (record { name = name; length = 0; reserve = reserve; blocks = fin.empty; tree = record { levels = least_levels reserve; stamps = fin.empty } })
new_file now name reserve small = record {
  reserve = small;
  range = refl;
  levels = start_low reserve small;
  tree = subst (λ (ks : List ℕ). IsTree now (least_levels reserve) ks (record { levels = least_levels reserve; stamps = fin.empty })) (sym no_keys) (empty_tree now (least_levels reserve));
  length = subst (λ (ks : List ℕ). AllByRecursion (λ i. i < 0) ks) (sym no_keys) tt;
}

longer : (length i : ℕ) → is_reserve length ≡ true → is_index i ≡ true → is_reserve (max length (i + 1)) ≡ true
longer length i small within = let a : length ≤ 2097152 = grind (arith, nat_tests) in let b : i ≤ 2097151 = grind (arith, nat_tests) in fits (max length (i + 1)) (omega arith)
  where
    fits : (n : ℕ) → n ≤ 2097152 → nat_le n 2097152 ≡ true
    fits n le = grind (arith, nat_tests)

put_low : (s i : ℕ) (t : Tree) → t.levels ≤ 3 → i < 2097152 → (written s i t).levels ≤ 3
unfolding written
put_low s i t le lt = with_low t.levels i 3 le (omega arith)

cut_low : (s start : ℕ) (gone left : List ℕ) (t : Tree) (most : ℕ) → t.levels ≤ most → start ≤ most → (erased s start gone left t).levels ≤ most
unfolding erased
cut_low s start gone left t most le low = elim (nat_eq (length left) 0) as (λ b. cond b start t.levels ≤ most) [ true ↦ low | false ↦ le ]

put_file : (now s : ℕ) (f : File) (i : ℕ) (block : List ℕ) → is_index i ≡ true → now ≤ s → IsWellFile now f → IsWellFile s (file_put f i block s)
put_file now s f i block within le is = record {
  reserve = is.reserve;
  range = longer f.length i is.range within;
  levels = put_low s i f.tree is.levels (let le : i ≤ 2097151 = grind (arith, nat_tests) in omega arith);
  tree = written_tree now (least_levels f.reserve) (fin.keys f.blocks) (fin.keys (fin.insert f.blocks i block)) f.tree i s is.tree (put_adds f.blocks i block) le;
  length = in_all (λ j. j < max f.length (i + 1)) (fin.keys (fin.insert f.blocks i block)) (λ j h. ⊎_elim
      (λ same. omega (arith, same))
      (λ old. let below : j < f.length = all_in (λ k. k < f.length) (fin.keys f.blocks) is.length j old in omega (arith, below))
      ((put_adds f.blocks i block).only j h));
}

cut_file : (now s : ℕ) (f : File) (length : ℕ) → is_reserve length ≡ true → now ≤ s → IsWellFile now f → IsWellFile s (file_cut f length s)
cut_file now s f length small le is = record {
  reserve = is.reserve;
  range = small;
  levels = cut_low s (least_levels f.reserve) (filter (λ i. nat_le length i) (fin.keys f.blocks)) (fin.keys (fin.retain_keys f.blocks (λ i. nat_lt i length))) f.tree 3 is.levels (start_low f.reserve is.reserve);
  tree = erased_tree now (least_levels f.reserve) (fin.keys f.blocks) (fin.keys (fin.retain_keys f.blocks (λ i. nat_lt i length))) (filter (λ i. nat_le length i) (fin.keys f.blocks)) f.tree s is.tree (λ j h. (kept_key f.blocks (λ i. nat_lt i length) j h).1) le;
  length = in_all (λ j. j < length) (fin.keys (fin.retain_keys f.blocks (λ i. nat_lt i length))) (λ j h. let below : nat_lt j length ≡ true = (kept_key f.blocks (λ i. nat_lt i length) j h).0 in grind (arith, nat_tests));
}

-- ---- tables
pub later_table : (now later : ℕ) (t : Table) → now ≤ later → IsWellTable now t → IsWellTable later t
later_table now later t le is = record {
  files = λ n f e. later_file now later f le (is.files n f e);
  names = is.names;
  levels = is.levels;
  numbers = is.numbers;
  inode = later_tree now later 0 (map inode_cell (fin.keys t.files)) t.inode le is.inode;
  count = is.count;
}

-- what stands in a map after a put: the new value at its key, and else what stood there
here_or_old : (files : fin.FinMap nat_cmp File) (n : ℕ) (g : File) (k : ℕ) (f : File) → fin.get (fin.insert files n g) k ≡ Some f → ((k ≡ n) × (f ≡ g)) ⊎ (fin.get files k ≡ Some f)
here_or_old files n g k f e =
    elim (eq_by_cmp nat_cmp k n) as (λ b. eq_by_cmp nat_cmp k n ≡ b → cond b (Some g) (fin.get files k) ≡ Some f → ((k ≡ n) × (f ≡ g)) ⊎ (fin.get files k ≡ Some f)) [
      | true ↦ λ d h. let same : f ≡ g = cc in inl (fin.nat_cmp-IsAntisymmetric k n ((Equal-is (nat_cmp k n)).0 d), same)
      | false ↦ λ d h. inr h
    ] refl (sym (fin.get-insert nat_cmp_total files n g k) ∙ e)

-- a file in a table: one of another name than all others, or of its own number
record Fits (files : fin.FinMap nat_cmp File) (n : ℕ) (name : List ℕ) : Type 0 where
  alone : (k : ℕ) (f : File) → fin.get files k ≡ Some f → f.name ≡ name → k ≡ n

put_names : (t : Table) (now n : ℕ) (g : File) → IsWellTable now t → Fits t.files n g.name → (a b : ℕ) (f h : File) → fin.get (fin.insert t.files n g) a ≡ Some f → fin.get (fin.insert t.files n g) b ≡ Some h → f.name ≡ h.name → a ≡ b
put_names t now n g is fits a b f h e d same =
    ⊎_elim
    (λ l. ⊎_elim
    (λ r. l.0 ∙ sym r.0)
    (λ r. l.0 ∙ sym (fits.alone b h r (sym same ∙ ap (λ (x : File). x.name) l.1)))
    (here_or_old t.files n g b h d))
    (λ l. ⊎_elim
    (λ r. fits.alone a f l (same ∙ ap (λ (x : File). x.name) r.1) ∙ sym r.0)
    (λ r. is.names a b f h l r same)
    (here_or_old t.files n g b h d))
    (here_or_old t.files n g a f e)

inode_low : (s n : ℕ) (t : Tree) → t.levels ≤ 2 → n < most_files → (written s (inode_cell n) t).levels ≤ 2
unfolding written
inode_low s n t le lt = with_low t.levels (inode_cell n) 2 le (omega arith)

put_table : (now s : ℕ) (t : Table) (n : ℕ) (g : File) → n < most_files → now ≤ s → IsWellTable now t → IsWellFile s g → Fits t.files n g.name → fin.len (fin.insert t.files n g) ≤ most_files → IsWellTable s (record { files = fin.insert t.files n g; inode = written s (inode_cell n) t.inode })
put_table now s t n g low le is good fits small = record {
  levels = inode_low s n t.inode is.levels low;
  numbers = λ k f e. ⊎_elim (λ l. let same : k ≡ n = l.0 in omega (arith, same, low)) (λ r. is.numbers k f r) (here_or_old t.files n g k f e);
  files = λ k f e. ⊎_elim (λ l. subst (IsWellFile s) (sym l.1) good) (λ r. later_file now s f le (is.files k f r)) (here_or_old t.files n g k f e);
  names = put_names t now n g is fits;
  inode = written_tree now 0 (map inode_cell (fin.keys t.files)) (map inode_cell (fin.keys (fin.insert t.files n g))) t.inode (inode_cell n) s is.inode (adds_map inode_cell n (fin.keys t.files) (fin.keys (fin.insert t.files n g)) (put_adds t.files n g)) le;
  count = small;
}

same_count : (t : Table) (n : ℕ) (f g : File) → fin.get t.files n ≡ Some f → fin.len (fin.insert t.files n g) ≡ fin.len t.files
same_count t n f g e = fin.len-insert nat_cmp_total t.files n g ∙ ap (λ (o : Option File). cond (is_some o) (fin.len t.files) (fin.len t.files + 1)) e

own_name : (now : ℕ) (t : Table) (n : ℕ) (f : File) → IsWellTable now t → fin.get t.files n ≡ Some f → Fits t.files n f.name
own_name now t n f is e = record { alone = λ k h d same. is.names k n h f d e same }

pub put_well : (now s : ℕ) (t : Table) (n : ℕ) (f : File) (i : ℕ) (block : List ℕ) → is_index i ≡ true → now ≤ s → IsWellTable now t → fin.get t.files n ≡ Some f → IsWellTable s (put t n f i block s)
unfolding put
put_well now s t n f i block within le is e =
    let few : fin.len t.files ≤ most_files = is.count in let same = same_count t n f (file_put f i block s) e in
    put_table now s t n (file_put f i block s) (is.numbers n f e) le is (put_file now s f i block within le (is.files n f e)) (own_name now t n f is e) (subst (λ c. c ≤ most_files) (sym same) few)

pub cut_well : (now s : ℕ) (t : Table) (n : ℕ) (f : File) (length : ℕ) → is_reserve length ≡ true → now ≤ s → IsWellTable now t → fin.get t.files n ≡ Some f → IsWellTable s (cut t n f length s)
unfolding cut
cut_well now s t n f length small le is e =
    let few : fin.len t.files ≤ most_files = is.count in let same = same_count t n f (file_cut f length s) e in
    put_table now s t n (file_cut f length s) (is.numbers n f e) le is (cut_file now s f length small le (is.files n f e)) (own_name now t n f is e) (subst (λ c. c ≤ most_files) (sym same) few)

at_most_one : (b : Bool) (n : ℕ) → cond b n (n + 1) ≤ n + 1
at_most_one true n = omega arith
at_most_one false n = omega arith

-- no file has a name that isn't found
not_found : {X : Type 0} (test : X → Bool) (xs : List X) → find test xs ≡ None → (x : X) → In x xs → test x ≡ false
not_found test [] e x h = absurd h
not_found test (y ∷ xs) e x h =
    elim (test y) as (λ b. test y ≡ b → cond b (Some y) (find test xs) ≡ None → test x ≡ false) [
      | true ↦ λ d f. absurd cc
      | false ↦ λ d f. ⊎_elim (λ same. ap test (sym same) ∙ d) (λ there. not_found test xs f x there) h
    ] refl e

pub new_well : (now s : ℕ) (t : Table) (name : List ℕ) (reserve : ℕ) → is_reserve reserve ≡ true → now ≤ s → IsWellTable now t → file_named t name ≡ None → fin.len t.files < most_files → IsWellTable s (new t name reserve s)
unfolding new
new_well now s t name reserve small le is free few =
    let n = free_number t in
    let file : File = record { name = name; length = 0; reserve = reserve; blocks = fin.empty; tree = record { levels = least_levels reserve; stamps = fin.empty } } in
    let count : fin.len (fin.insert t.files n file) ≤ fin.len t.files + 1 = subst (λ c. c ≤ fin.len t.files + 1) (sym (fin.len-insert nat_cmp_total t.files n file)) (at_most_one (fin.contains_key t.files n) (fin.len t.files)) in
    put_table now s t n file (let low = free_low t in omega (arith, low, few)) le is (new_file s name reserve small)
    (record { alone = λ k f e same. absurd (taken k f e same) })
    (omega (arith, count, few))
  where
    taken : (k : ℕ) (f : File) → fin.get t.files k ≡ Some f → f.name ≡ name → ⊥
    taken k f e same =
        let no : is_same_name f.name name ≡ false = not_found (λ (e : ℕ × File). is_same_name e.1.name name) (fin.entries t.files) free (k, f) (among t.files k f e) in
        let yes : is_same_name f.name name ≡ true = ap (λ (q : List ℕ). is_same_name q name) same ∙ itself name in
        let wrong : true ≡ false = sym yes ∙ no in cc

not_there : (files : fin.FinMap nat_cmp File) (n k : ℕ) (f : File) → fin.get (fin.remove files n) k ≡ Some f → fin.get files k ≡ Some f
not_there files n k f e = by (eq_by_cmp nat_cmp k n) (sym (fin.get-remove nat_cmp_total files n k) ∙ e)
  where
    by : (b : Bool) → cond b None (fin.get files k) ≡ Some f → fin.get files k ≡ Some f
    by true e = absurd cc
    by false e = e

at_most_all : (b : Bool) (n : ℕ) → cond b (n - 1) n ≤ n
at_most_all true n = omega arith
at_most_all false n = omega arith

pub rm_well : (now s : ℕ) (t : Table) (n : ℕ) → now ≤ s → IsWellTable now t → IsWellTable s (rm t n s)
unfolding rm
rm_well now s t n le is = record {
  levels = cut_low s 0 (inode_cell n ∷ []) (map inode_cell (fin.keys (fin.remove t.files n))) t.inode 2 is.levels (omega arith);
  numbers = λ k f e. is.numbers k f (not_there t.files n k f e);
  files = λ k f e. later_file now s f le (is.files k f (not_there t.files n k f e));
  names = λ a b f g e d same. is.names a b f g (not_there t.files n a f e) (not_there t.files n b g d) same;
  inode = erased_tree now 0 (map inode_cell (fin.keys t.files)) (map inode_cell (fin.keys (fin.remove t.files n))) (inode_cell n ∷ []) t.inode s is.inode
      (λ j h. let there = from_map inode_cell j (fin.keys (fin.remove t.files n)) h in subst (λ c. In c (map inode_cell (fin.keys t.files))) there.2 (in_map inode_cell there.0 (fin.keys t.files) (left_key t.files n there.0 there.1))) le;
  count = let few : fin.len t.files ≤ most_files = is.count in let less : fin.len (fin.remove t.files n) ≤ fin.len t.files = subst (λ c. c ≤ fin.len t.files) (sym (fin.len-remove nat_cmp_total t.files n)) (at_most_all (fin.contains_key t.files n) (fin.len t.files)) in omega (arith, few, less);
}

no_files : fin.keys (fin.empty {K = ℕ} {X = File} {R = nat_cmp}) ≡ []
no_files = ap (map (λ (e : ℕ × File). e.0)) (none _ (sym (fin.len-entries (fin.empty {K = ℕ} {X = File} {R = nat_cmp})) ∙ fin.len-empty nat_cmp File))
  where
    none : (es : List (ℕ × File)) → length es ≡ 0 → es ≡ []
    none [] e = refl
    none (x ∷ es) e = absurd (omega arith)

pub empty_well : (now : ℕ) → IsWellTable now empty_table
empty_well now = record {
  levels = omega arith;
  numbers = λ n f e. let wrong : None ≡ Some f = sym (fin.get-empty nat_cmp n) ∙ e in absurd cc;
  files = λ n f e. let wrong : None ≡ Some f = sym (fin.get-empty nat_cmp n) ∙ e in absurd cc;
  names = λ n k f g e d same. let wrong : None ≡ Some f = sym (fin.get-empty nat_cmp n) ∙ e in absurd cc;
  inode = subst (λ (ks : List ℕ). IsTree now 0 (map inode_cell ks) (record { levels = 0; stamps = fin.empty })) (sym no_files) (empty_tree now 0);
  count = let none : fin.len (fin.empty {K = ℕ} {X = File} {R = nat_cmp}) ≡ 0 = fin.len-empty nat_cmp File in subst (λ c. c ≤ most_files) (sym none) (omega arith);
}
