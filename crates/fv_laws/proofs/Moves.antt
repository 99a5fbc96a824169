-- How many positions each change of a table adds or takes, and so what a volume alone is charged after it.
use Rattle.std.proofs.Common.{◌⊎◌, ◌≡◌, ℕ, ◌+◌, ◌≤◌, Bool, true, false, cond, nat_lt, nat_le, List, [], ◌∷◌, map, sum_by, Option, Some, None, is_some, inl, inr, refl, sym, ap, subst, ◌∙◌, arith}
use Rattle.std.specs.Option.{option_map_or}
use Rattle.std.specs.Ordering.{nat_cmp, eq_by_cmp}
use Rattle.std.specs.Cmp.{Equal-is, nat_cmp_total}
use Rattle.std.specs.FinMap as fin
use Rattle.std.proofs.lemmas.Bool.Decides.{nat_tests}
use Rattle.fv_model.specs.Trees.{spot_cmp, least_levels, written}
use Rattle.fv_model.specs.Tables.{File, Table, inode_cell, free_number, file_put, file_cut, new, put, cut, rm}
use Rattle.fv_model.specs.Volumes.{Volume}
use Rattle.fv_model.specs.Space.{charge}
use Rattle.fv_model.specs.Effects.{stamped}
use Rattle.fv_laws.specs.WellFormed.{IsWellTable}
use Rattle.fv_laws.specs.Positions.{positions, added_by, cells_cut, cells_left, taken_by_cut, taken_by_rm, IsAlone}
use Rattle.fv_laws.proofs.Lists.{In, in_map, from_map, in_filter, from_filter}
use Rattle.fv_laws.proofs.Maps.{sum-insert, sum-remove}
use Rattle.fv_laws.proofs.Tables.{there_key, key_there, kept_key, left_key, free_is_free}
use Rattle.fv_laws.proofs.Growth.{written_len, there_adds_none}
use Rattle.fv_laws.proofs.Removals.{erased_len}
use Rattle.fv_laws.proofs.Charges.{charge_by_positions}

abbrev tree_count : ℕ × File → ℕ
tree_count e = fin.len e.1.tree.stamps

-- the sum over files once one file stands in place of another
one_file : (files : fin.FinMap nat_cmp File) (n : ℕ) (f g : File) → fin.get files n ≡ Some f
    → sum_by tree_count (fin.entries (fin.insert files n g)) + fin.len f.tree.stamps ≡ sum_by tree_count (fin.entries files) + fin.len g.tree.stamps
one_file files n f g there =
    ap (λ (o : Option File). sum_by tree_count (fin.entries (fin.insert files n g)) + option_map_or (λ w. tree_count (n, w)) o 0) (sym there)
    ∙ sum-insert nat_cmp_total fin.nat_cmp-IsAntisymmetric tree_count files n g

new_file : (files : fin.FinMap nat_cmp File) (n : ℕ) (g : File) → fin.contains_key files n ≡ false
    → sum_by tree_count (fin.entries (fin.insert files n g)) ≡ sum_by tree_count (fin.entries files) + fin.len g.tree.stamps
new_file files n g free =
    let sum = sum-insert nat_cmp_total fin.nat_cmp-IsAntisymmetric tree_count files n g in
    let none : option_map_or (λ w. tree_count (n, w)) (fin.get files n) 0 ≡ 0 = by (fin.get files n) free in
    omega (arith, sum, none)
  where
    by : (o : Option File) → is_some o ≡ false → option_map_or (λ w. tree_count (n, w)) o 0 ≡ 0
    by None e = refl
    by (Some w) e = absurd cc

module _ (now s : ℕ) (t : Table) (is : IsWellTable now t) where
  -- a file's cell of the inode file stands, so stamping it adds nothing
  same_inode : (n : ℕ) (f : File) → fin.get t.files n ≡ Some f → fin.len (written s (inode_cell n) t.inode).stamps ≡ fin.len t.inode.stamps
  same_inode n f there =
      let more = written_len now 0 (map inode_cell (fin.keys t.files)) t.inode (inode_cell n) s is.inode in
      let none = there_adds_none now 0 (map inode_cell (fin.keys t.files)) t.inode (inode_cell n) s is.inode (in_map inode_cell n (fin.keys t.files) (there_key t.files n (ap is_some there))) in
      omega (arith, more, none)

  -- A new file adds its cell of the inode file and the marks over it, as far as those don't stand.
  pub new_positions : (name : List ℕ) (reserve : ℕ) → positions (new t name reserve s) ≡ positions t + added_by t.inode (inode_cell (free_number t))
  unfolding positions new
  new_positions name reserve =
      let file : File = record { name = name; length = 0; reserve = reserve; blocks = fin.empty; tree = record { levels = least_levels reserve; stamps = fin.empty } } in
      let files = new_file t.files (free_number t) file (free_is_free t) in
      let none : fin.len (fin.empty {K = ℕ × ℕ} {X = ℕ} {R = spot_cmp}) ≡ 0 = fin.len-empty spot_cmp ℕ in
      let inode = written_len now 0 (map inode_cell (fin.keys t.files)) t.inode (inode_cell (free_number t)) s is.inode in
      omega (arith, files, none, inode)

  -- A write adds what of its path in the file doesn't stand.
  pub put_positions : (n : ℕ) (f : File) (i : ℕ) (block : List ℕ) → fin.get t.files n ≡ Some f → positions (put t n f i block s) ≡ positions t + added_by f.tree i
  unfolding positions put
  put_positions n f i block there =
      let files = one_file t.files n f (file_put f i block s) there in
      let tree = written_len now (least_levels f.reserve) (fin.keys f.blocks) f.tree i s (is.files n f there).tree in
      let inode = same_inode n f there in
      omega (arith, files, tree, inode)

  -- the cells of a cut file go or stay
  pub part_cut : (f : File) (length j : ℕ) → In j (cells_left f length) → In j (fin.keys f.blocks)
  part_cut f length j h = (kept_key f.blocks (λ i. nat_lt i length) j h).1

  pub goes_cut : (f : File) (length j : ℕ) → In j (cells_cut f length) → In j (fin.keys f.blocks)
  goes_cut f length j h = (from_filter (λ i. nat_le length i) j (fin.keys f.blocks) h).0

  pub all_cut : (f : File) (length j : ℕ) → In j (fin.keys f.blocks) → In j (cells_left f length) ⊎ In j (cells_cut f length)
  all_cut f length j h = so (nat_lt j length) refl
    where
      so : (b : Bool) → nat_lt j length ≡ b → In j (cells_left f length) ⊎ In j (cells_cut f length)
      so true e = inl (there_key (fin.retain_keys f.blocks (λ i. nat_lt i length)) j
          (ap is_some (fin.get-retain_keys f.blocks (λ i. nat_lt i length) j (λ x d. ap (λ i. nat_lt i length) (sym (fin.nat_cmp-IsAntisymmetric j x d))))
          ∙ ap (λ b. is_some (cond b (fin.get f.blocks j) None)) e ∙ key_there f.blocks j h))
      so false e = inr (in_filter (λ i. nat_le length i) j (fin.keys f.blocks) h (let past : nat_le length j ≡ true = grind (arith, nat_tests, e) in past))

  -- A cut takes the places of the paths over its cells under which no cell is left.
  pub cut_positions : now ≤ s → (n : ℕ) (f : File) (length : ℕ) → fin.get t.files n ≡ Some f → positions (cut t n f length s) + taken_by_cut f length ≡ positions t
  unfolding positions cut
  cut_positions le n f length there =
      let files = one_file t.files n f (file_cut f length s) there in
      let tree = erased_len now (least_levels f.reserve) (fin.keys f.blocks) (cells_left f length) (cells_cut f length) f.tree s (is.files n f there).tree (part_cut f length) (goes_cut f length) (all_cut f length) le in
      let inode = same_inode n f there in
      omega (arith, files, tree, inode)

  -- the inode file's cells without a file
  pub part_rm : (n j : ℕ) → In j (map inode_cell (fin.keys (fin.remove t.files n))) → In j (map inode_cell (fin.keys t.files))
  part_rm n j h = let there = from_map inode_cell j (fin.keys (fin.remove t.files n)) h in subst (λ c. In c (map inode_cell (fin.keys t.files))) there.2 (in_map inode_cell there.0 (fin.keys t.files) (left_key t.files n there.0 there.1))

  goes_rm : (n : ℕ) (f : File) → fin.get t.files n ≡ Some f → (j : ℕ) → In j (inode_cell n ∷ []) → In j (map inode_cell (fin.keys t.files))
  goes_rm n f there j (inl same) = subst (λ c. In c (map inode_cell (fin.keys t.files))) same (in_map inode_cell n (fin.keys t.files) (there_key t.files n (ap is_some there)))
  goes_rm n f there j (inr h) = absurd h

  pub all_rm : (n j : ℕ) → In j (map inode_cell (fin.keys t.files)) → In j (map inode_cell (fin.keys (fin.remove t.files n))) ⊎ In j (inode_cell n ∷ [])
  all_rm n j h = let there = from_map inode_cell j (fin.keys t.files) h in so there.0 there.1 there.2 (eq_by_cmp nat_cmp there.0 n) refl
    where
      so : (k : ℕ) → In k (fin.keys t.files) → inode_cell k ≡ j → (b : Bool) → eq_by_cmp nat_cmp k n ≡ b → In j (map inode_cell (fin.keys (fin.remove t.files n))) ⊎ In j (inode_cell n ∷ [])
      so k h at true e = inr (inl (ap inode_cell (sym (fin.nat_cmp-IsAntisymmetric k n ((Equal-is (nat_cmp k n)).0 e))) ∙ at))
      so k h at false e = inl (subst (λ c. In c (map inode_cell (fin.keys (fin.remove t.files n)))) at (in_map inode_cell k (fin.keys (fin.remove t.files n)) (there_key (fin.remove t.files n) k
          (ap is_some (fin.get-remove nat_cmp_total t.files n k) ∙ ap (λ b. is_some (cond b None (fin.get t.files k))) e ∙ key_there t.files k h))))

  -- A removal takes all places of the file, and those over its cell of the inode file that no other file needs.
  pub rm_positions : now ≤ s → (n : ℕ) (f : File) → fin.get t.files n ≡ Some f → positions (rm t n s) + taken_by_rm t n f ≡ positions t
  unfolding positions rm
  rm_positions le n f there =
      let files = sum-remove nat_cmp_total fin.nat_cmp-IsAntisymmetric tree_count t.files n f there in
      let inode = erased_len now 0 (map inode_cell (fin.keys t.files)) (map inode_cell (fin.keys (fin.remove t.files n))) (inode_cell n ∷ []) t.inode s is.inode (part_rm n) (goes_rm n f there) (all_rm n) le in
      omega (arith, files, inode)

-- ---- volumes alone

later_alone : (x : Volume) (table : ℕ → Table) → IsAlone x → IsAlone (stamped x table)
later_alone x table alone = record { snapshots = alone.snapshots; base = alone.base }

module _ (x : Volume) (alone : IsAlone x) (is : IsWellTable x.now x.active) where
  pub cut_charge : (n : ℕ) (f : File) (length : ℕ) → fin.get x.active.files n ≡ Some f → charge (stamped x (cut x.active n f length)) + taken_by_cut f length ≡ charge x
  cut_charge n f length there =
      ap (λ n. n + taken_by_cut f length) (charge_by_positions (stamped x (cut x.active n f length)) (later_alone x (cut x.active n f length) alone))
      ∙ cut_positions x.now (x.now + 1) x.active is (omega arith) n f length there ∙ sym (charge_by_positions x alone)

  pub rm_charge : (n : ℕ) (f : File) → fin.get x.active.files n ≡ Some f → charge (stamped x (rm x.active n)) + taken_by_rm x.active n f ≡ charge x
  rm_charge n f there =
      ap (λ k. k + taken_by_rm x.active n f) (charge_by_positions (stamped x (rm x.active n)) (later_alone x (rm x.active n) alone))
      ∙ rm_positions x.now (x.now + 1) x.active is (omega arith) n f there ∙ sym (charge_by_positions x alone)
