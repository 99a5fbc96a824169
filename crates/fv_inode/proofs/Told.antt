-- To the machine, calls of an inode file are changes of its table: a file is made, changed or taken away.
use Rattle.std.proofs.Common.{◌≡◌, ◌≢◌, ℕ, ◌+◌, ◌-◌, ◌<◌, Bool, true, false, cond, List, max, length, replicate, nat_eq, refl, sym, ap, ◌∙◌, arith, ⊎_elim}
use Rattle.std.specs.Prelude.{Option, Some, None, is_some, take}
use Rattle.std.specs.Option.{option_map}
use Rattle.std.specs.Ordering.{nat_cmp, eq_by_cmp}
use Rattle.std.specs.Cmp.{nat_cmp_total}
use Rattle.std.specs.FinMap as fin
use Rattle.std.proofs.lemmas.Bool.{cases_eq, cases_lt, both_ways}
use Rattle.std.proofs.lemmas.Bool.Decides.{nat_tests}
use Rattle.std.proofs.Math.Seq.{take-append_seam}
use Rattle.fv_codec.specs.declared.inode.InodeRecord.{InodeRecord}
use Rattle.fv_model.specs.Trees.{Tree, least_levels, written}
use Rattle.fv_model.specs.Tables.{File, inode_cell, free_number, file_put, new, put}
use Rattle.fv_laws.proofs.Tables.{free_is_free, free_is_least}
use Rattle.fv_tables.specs.Spelled.{Rooted}
use Rattle.fv_tables.specs.Told.{tree_told, cells_told, file_at, Standing, tree_of, file_told, file_in, table_told}
use Rattle.fv_tables.specs.Kept.{SaysSame}
use Rattle.fv_tables.proofs.Tables.{blocks_told, files_told, same_file}
use Rattle.fv_tree.specs.Standing.{Shows}
use Rattle.fv_tree.specs.Writing.{Writes}
use Rattle.fv_inode.specs.declared.info.Info.{Info}
use Rattle.fv_inode.specs.Files.{IsLeastFree, new_record, with_info}
use Rattle.fv_inode.specs.Changing.{Rewrites, Makes}
use Rattle.fv_inode.proofs.Slots.{still_some}
use Rattle.fv_inode.proofs.Machines.{shown, shown_tree, rewritten}
use Rattle.fv_inode.proofs.Placed.{KeepsOthers}

-- ---- tables of which one file is another

pub same_test : (k n : ℕ) → eq_by_cmp nat_cmp k n ≡ nat_eq k n
same_test k n = grind (arith, nat_tests)

table_is : (y : Standing) (files : fin.FinMap nat_cmp File) (inode : Tree) → ((k : ℕ) → file_in y k ≡ fin.get files k) → tree_told y.inode ≡ inode → table_told y ≡ record { files = files; inode = inode }
unfolding table_told
table_is y files inode same tree = λ i. record {
  files = fin.same_map nat_cmp_total fin.nat_cmp-IsAntisymmetric (table_told y).files files (λ k. files_told y k ∙ same k) i;
  inode = tree i;
}

pub inode_told : (x : Standing) → tree_told x.inode ≡ (table_told x).inode
unfolding table_told
inode_told x = refl

pub put_file : (x y : Standing) (n : ℕ) (f : File) (inode : Tree) → ((k : ℕ) → file_in y k ≡ cond (nat_eq k n) (Some f) (file_in x k)) → tree_told y.inode ≡ inode
    → table_told y ≡ record { files = fin.insert (table_told x).files n f; inode = inode }
put_file x y n f inode files tree = table_is y (fin.insert (table_told x).files n f) inode
    (λ k. files k ∙ sym (fin.get-insert nat_cmp_total (table_told x).files n f k ∙ (λ i. cond (same_test k n i) (Some f) (files_told x k i)))) tree

pub take_file : (x y : Standing) (n : ℕ) (inode : Tree) → ((k : ℕ) → file_in y k ≡ cond (nat_eq k n) None (file_in x k)) → tree_told y.inode ≡ inode
    → table_told y ≡ record { files = fin.remove (table_told x).files n; inode = inode }
take_file x y n inode files tree = table_is y (fin.remove (table_told x).files n) inode
    (λ k. files k ∙ sym (fin.get-remove nat_cmp_total (table_told x).files n k ∙ (λ i. cond (same_test k n i) None (files_told x k i)))) tree

-- ---- the files after a change of one record

module _ (x y : Standing) (n : ℕ) (now : Option InodeRecord) (files : (k : ℕ) → file_at y.inode k ≡ cond (nat_eq k n) now (file_at x.inode k)) (others : KeepsOthers x y n) where
  own : file_at y.inode n ≡ now
  own = files n ∙ (let test : nat_eq n n ≡ true = grind (arith, nat_tests) in ap (λ b. cond b now (file_at x.inode n)) test)

  other : (k : ℕ) → k ≢ n → file_at y.inode k ≡ file_at x.inode k
  other k differs = files k ∙ (let test : nat_eq k n ≡ false = grind (arith, nat_tests, differs) in ap (λ b. cond b now (file_at x.inode k)) test)

  as_before : (k : ℕ) → k ≢ n → (o : Option InodeRecord) → file_at x.inode k ≡ o → option_map (λ r. file_told (tree_of y k r) r) o ≡ option_map (λ r. file_told (tree_of x k r) r) o
  as_before k differs None e = refl
  as_before k differs (Some r) e =
      let same : SaysSame r r = record { name_length = refl; name = refl; length = refl; reserve = refl } in
      ap (λ f. Some f) (same_file (tree_of x k r) (tree_of y k r) r r same (others k differs r e))

  other_in : (k : ℕ) → k ≢ n → file_in y k ≡ file_in x k
  unfolding file_in
  other_in k differs = ap (option_map (λ r. file_told (tree_of y k r) r)) (other k differs) ∙ as_before k differs (file_at x.inode k) refl

  abbrev told : Option File
  told = option_map (λ r. file_told (tree_of y n r) r) now

  own_in : file_in y n ≡ told
  unfolding file_in
  own_in = ap (option_map (λ r. file_told (tree_of y n r) r)) own

  pub files_in : (k : ℕ) → file_in y k ≡ cond (nat_eq k n) (option_map (λ r. file_told (tree_of y n r) r) now) (file_in x k)
  files_in k = ⊎_elim
      (λ (same : k ≡ n).
      let test : nat_eq k n ≡ true = grind (arith, nat_tests, same) in
      ap (file_in y) same ∙ own_in ∙ sym (ap (λ b. cond b told (file_in x k)) test))
      (λ (differs : k ≢ n).
      let test : nat_eq k n ≡ false = grind (arith, nat_tests, differs) in
      other_in k differs ∙ sym (ap (λ b. cond b told (file_in x k)) test))
      (cases_eq k n)

-- A change of the record of file n gives the table another file n, and is a write of its inode cell.
pub changed_told : (x y : Standing) (n s : ℕ) (r : InodeRecord) → Rewrites x.inode y.inode n s (Some r) → KeepsOthers x y n
    → table_told y ≡ record { files = fin.insert (table_told x).files n (file_told (tree_of y n r) r); inode = written s (inode_cell n) (table_told x).inode }
changed_told x y n s r is others =
    put_file x y n (file_told (tree_of y n r) r) (written s (inode_cell n) (table_told x).inode) (files_in x y n (Some r) is.files others)
    (rewritten x.inode y.inode n s (Some r) is ∙ ap (written s (inode_cell n)) (inode_told x))

-- ---- a file is made

pub in_is : (x : Standing) (k : ℕ) → is_some (file_in x k) ≡ is_some (file_at x.inode k)
unfolding file_in
in_is x k = still_some (λ r. file_told (tree_of x k r) r) (file_at x.inode k)

-- the table has the files of which there is a record
pub has_file : (x : Standing) (k : ℕ) → fin.contains_key (table_told x).files k ≡ is_some (file_at x.inode k)
has_file x k = ap is_some (files_told x k) ∙ in_is x k

one_least : (has : ℕ → Bool) (n m : ℕ) → has n ≡ false → ((k : ℕ) → k < n → has k ≡ true) → has m ≡ false → ((k : ℕ) → k < m → has k ≡ true) → n ≡ m
one_least has n m none least free below = ⊎_elim
    (λ (lt : n < m). absurd (both_ways (has n) none (below n lt)))
    (λ high. ⊎_elim (λ (lt : m < n). absurd (both_ways (has m) free (least m lt))) (λ low. omega (arith, high, low)) (cases_lt m n))
    (cases_lt n m)

pub free_told : (x : Standing) (n : ℕ) → IsLeastFree x.inode n → n ≡ free_number (table_told x)
free_told x n is = one_least (λ k. fin.contains_key (table_told x).files k) n (free_number (table_told x))
    (has_file x n ∙ ap is_some is.free) (λ k lt. has_file x k ∙ is.least k lt) (free_is_free (table_told x)) (free_is_least (table_told x))

pub shown_cells : (t : Rooted) (seen : Tree) (contents : fin.FinMap nat_cmp (List ℕ)) → Shows t seen contents → contents ≡ cells_told t
shown_cells t seen contents shows = fin.same_map nat_cmp_total fin.nat_cmp-IsAntisymmetric contents (cells_told t) (λ k. shows.blocks k ∙ sym (blocks_told t k))

new_file : (t : Rooted) (name : List ℕ) (reserve : ℕ) → Shows t (record { levels = least_levels reserve; stamps = fin.empty }) fin.empty
    → file_told t (new_record name reserve) ≡ record { name = name; length = 0; reserve = reserve; blocks = fin.empty; tree = record { levels = least_levels reserve; stamps = fin.empty } }
unfolding file_told
new_file t name reserve shows = λ i. record {
  name = take-append_seam name (replicate (64 - length name) 0) i;
  length = 0;
  reserve = reserve;
  blocks = sym (shown_cells t (record { levels = least_levels reserve; stamps = fin.empty }) fin.empty shows) i;
  tree = sym (shown_tree t (record { levels = least_levels reserve; stamps = fin.empty }) fin.empty shows) i;
}

-- A file that is made, with a tree without a cell, is the machine's new file.
pub created_told : (x y : Standing) (name : List ℕ) (reserve s : ℕ) (info : Info) → Makes x.inode y.inode name reserve s info → KeepsOthers x y info.number
    → Shows (tree_of y info.number (new_record name reserve)) (record { levels = least_levels reserve; stamps = fin.empty }) fin.empty → table_told y ≡ new (table_told x) name reserve s
unfolding new
created_told x y name reserve s info is others shows =
    let number = free_told x info.number is.number in
    changed_told x y info.number s (new_record name reserve) is.rewrites others
    ∙ (λ i. record {
      files = fin.insert (table_told x).files (number i) (new_file (tree_of y info.number (new_record name reserve)) name reserve shows i);
      inode = written s (inode_cell (number i)) (table_told x).inode;
    })

-- ---- a cell of a file is written

file_written : (t u : Rooted) (i s : ℕ) (block : List ℕ) (r : InodeRecord) (info : Info) → info.length ≡ max r.length (i + 1) → info.reserve ≡ r.reserve → Writes t u i s block
    → file_told u (with_info info r) ≡ file_put (file_told t r) i block s
unfolding file_told
file_written t u i s block r info length reserve writes =
    let shows = writes (tree_told t) (cells_told t) (shown t) in λ j. record {
      name = take r.name_length r.name;
      length = length j;
      reserve = reserve j;
      blocks = sym (shown_cells u (written s i (tree_told t)) (fin.insert (cells_told t) i block) shows) j;
      tree = sym (shown_tree u (written s i (tree_told t)) (fin.insert (cells_told t) i block) shows) j;
    }

-- A file whose tree got a cell, and whose record says the length, is the machine's file after a `put`.
pub put_told : (x y : Standing) (n i s : ℕ) (block : List ℕ) (r : InodeRecord) (info : Info) → Rewrites x.inode y.inode n s (Some (with_info info r)) → info.length ≡ max r.length (i + 1)
    → info.reserve ≡ r.reserve → KeepsOthers x y n → Writes (tree_of x n r) (tree_of y n (with_info info r)) i s block → table_told y ≡ put (table_told x) n (file_told (tree_of x n r) r) i block s
unfolding put
put_told x y n i s block r info is length reserve others writes =
    changed_told x y n s (with_info info r) is others
    ∙ (λ j. record {
      files = fin.insert (table_told x).files n (file_written (tree_of x n r) (tree_of y n (with_info info r)) i s block r info length reserve writes j);
      inode = written s (inode_cell n) (table_told x).inode;
    })
