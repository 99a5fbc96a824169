-- What a volume's reserves still need is what they stand for along the walk of its active table, without what of that stands.
use Rattle.std.proofs.Common.{◌≡◌, ℕ, zero, suc, ◌+◌, ◌*◌, ◌/◌, ◌%◌, ◌^◌, ◌<◌, ◌≤◌, Bool, true, false, cond, List, [], ◌∷◌, ◌++◌, map, get_or, refl, sym, ap, subst, ◌∙◌, arith, Less, Ok}
use Rattle.std.specs.Prelude.{count_by, sum_by, Option, Some, None, ◌||◌, ◌==◌, if◌then◌else◌}
use Rattle.std.specs.List.{All, range_with_len}
use Rattle.std.specs.Option.{option_map, option_map_or}
use Rattle.std.specs.Ordering.{nat_cmp}
use Rattle.std.specs.Cmp.{nat_cmp_total}
use Rattle.std.specs.FinMap as fin
use Rattle.std.specs.FinMap.{put}
use Rattle.std.specs.FinMap.Entries.{by_order}
use Rattle.std.proofs.Math.Nat.{mul-le-mul, pow-le-pow_right}
use Rattle.std.proofs.lemmas.Bool.Decides.{nat_tests}
use Rattle.std.proofs.lemmas.List.Elements.{All-head, All-tail}
use Rattle.std.proofs.lemmas.List.Sums.{sum_by-cons}
use Rattle.fv_codec.specs.declared.inode.InodeRecord.{InodeRecord}
use Rattle.fv_codec.specs.Blocks.{is_used, most_cells, IsInodeBlock, IsInodeRecord}
use Rattle.fv_codec.specs.Fields.{up_to}
use Rattle.fv_codec.proofs.Decoded.{inodes_in_range}
use Rattle.fv_model.specs.declared.commands.Kind.{Kind}
use Rattle.fv_model.specs.declared.commands.Kind.TheVariants.{Volume as Whole, File as ByFile, Thin}
use Rattle.fv_model.specs.Trees.{fan}
use Rattle.fv_model.specs.Tables.{File}
use Rattle.fv_model.specs.Places.{Place}
use Rattle.fv_model.specs.Space.{is_file_kind, need, reserved_places}
use Rattle.fv_tables.specs.Spelled.{pointer_at}
use Rattle.fv_tables.specs.Told.{Standing, entry_or, free_record, listed, records_each, used_record, file_at, file_in, file_told, tree_of, tree_told, table_told}
use Rattle.fv_bits.specs.Members.{is_member}
use Rattle.fv_image.specs.Views.{Head, View}
use Rattle.fv_image.specs.Volumes.{standing_of, volume_told, volume_with}
use Rattle.fv_image.proofs.Counts.{same_sum}
use Rattle.fv_image.proofs.Uses.{no_entries}
use Rattle.fv_codec.specs.declared.label.Label.{Label}
use Rattle.fv_image.specs.Views.{head_of}
use Rattle.fv_fourth_pass.specs.declared.needs.NeedTally.{NeedTally}
use Rattle.fv_fourth_pass.specs.Needing.{Needs}
use Rattle.fv_faults.specs.Walks.{Ground}
use Rattle.fv_faults.specs.Met.{met}
use Rattle.fv_faults.proofs.TableMembers.{has_record}
use Rattle.fv_walk.specs.Sights.{Sight, sight_of}
use Rattle.fv_fourth_pass.specs.Needed.{HasShared, one_if, ranges, reserved_in, reserved_of, standing_along}
use Rattle.fv_fourth_pass.specs.Needing.{IsRaised}
use Rattle.fv_fourth_pass.proofs.FileNeeds.{file_needs, named, standing_in}
use Rattle.fv_fourth_pass.proofs.FileNeeds as files
use Rattle.fv_fourth_pass.proofs.Reserved.{ranges_most, sum_most}
use Rattle.fv_fourth_pass.proofs.TreeSums.{sum_both}
use Rattle.fv_fourth_pass.proofs.WalkNeeds.{over_cell, reserved_file, reserved_met, standing_file, standing_met, top}

-- ---- the entries of a map that is listed by number

module _ {X : Type 0} (f : ℕ → Option X) where
  put_low : (k : ℕ) (x : X) (a n : ℕ) → k < a → put nat_cmp k x (listed f (range_with_len a n)) ≡ (k, x) ∷ listed f (range_with_len a n)
  unfolding listed
  put_low k x a zero lt = refl
  put_low k x a (suc n) lt = so (f a) (put_low k x (a + 1) n (omega (arith, lt)))
    where
      so : (o : Option X) → put nat_cmp k x (listed f (range_with_len (a + 1) n)) ≡ (k, x) ∷ listed f (range_with_len (a + 1) n)
          → put nat_cmp k x (entry_or a o ++ listed f (range_with_len (a + 1) n)) ≡ (k, x) ∷ (entry_or a o ++ listed f (range_with_len (a + 1) n))
      so None rest = rest
      so (Some y) rest =
          let es = listed f (range_with_len (a + 1) n) in
          let less : nat_cmp k a ≡ Less = grind (arith, nat_tests, lt) in
          ap (λ r. by_order r ((k, x) ∷ (a, y) ∷ es) ((a, x) ∷ es) ((a, y) ∷ put nat_cmp k x es)) less

  entries_are : (a n : ℕ) → fin.entries (fin.from_entries {R = nat_cmp} (listed f (range_with_len a n))) ≡ listed f (range_with_len a n)
  unfolding listed
  entries_are a zero = no_entries nat_cmp
  entries_are a (suc n) = so (f a) (entries_are (a + 1) n)
    where
      so : (o : Option X) → fin.entries (fin.from_entries {R = nat_cmp} (listed f (range_with_len (a + 1) n))) ≡ listed f (range_with_len (a + 1) n)
          → fin.entries (fin.from_entries {R = nat_cmp} (entry_or a o ++ listed f (range_with_len (a + 1) n))) ≡ entry_or a o ++ listed f (range_with_len (a + 1) n)
      so None rest = rest
      so (Some x) rest =
          fin.entries-insert nat_cmp_total (fin.from_entries {R = nat_cmp} (listed f (range_with_len (a + 1) n))) a x
          ∙ ap (put nat_cmp a x) rest ∙ put_low a x (a + 1) n (omega arith)

  listed_sum : (value : ℕ × X → ℕ) (ns : List ℕ) → sum_by value (listed f ns) ≡ sum_by (λ n. option_map_or (λ x. value (n, x)) (f n) 0) ns
  unfolding listed
  listed_sum value [] = refl
  listed_sum value (n ∷ ns) = so (f n) (listed_sum value ns) ∙ sym (sum_by-cons (λ n. option_map_or (λ x. value (n, x)) (f n) 0) n ns)
    where
      rest_sum : ℕ
      rest_sum = sum_by (λ n. option_map_or (λ x. value (n, x)) (f n) 0) ns

      so : (o : Option X) → sum_by value (listed f ns) ≡ rest_sum → sum_by value (entry_or n o ++ listed f ns) ≡ option_map_or (λ x. value (n, x)) o 0 + rest_sum
      so None rest = let e : sum_by value (listed f ns) ≡ 0 + rest_sum = omega (arith, rest) in e
      so (Some x) rest = sum_by-cons value (n, x) (listed f ns) ∙ ap (λ m. value (n, x) + m) rest

-- ---- the record of a file

in_list : (rs : List InodeRecord) (j : ℕ) (f : InodeRecord) → All IsInodeRecord rs → used_record (get_or rs j free_record) ≡ Some f → IsInodeRecord f
in_list [] j f all is = absurd cc
in_list (r ∷ rs) zero f all is = so (r.name_length == 0) is
  where
    so : (b : Bool) → (if b then None else Some r) ≡ Some f → IsInodeRecord f
    so true is = absurd cc
    so false is = let same : r ≡ f = cc in subst IsInodeRecord same (All-head IsInodeRecord r rs all)
in_list (r ∷ rs) (suc j) f all is = in_list rs j f (All-tail IsInodeRecord r rs all) is

up_to_most : (b : Bool) (n : ℕ) → up_to b n ≤ n
up_to_most true n = omega arith
up_to_most false n = omega arith

module _ (g : Ground) (h : Head) (shared : List Bool) (is : HasShared g.view g.slot h shared) (label : ℕ) where
  abbrev x : Standing
  x = standing_of g.view g.slot h.active

  abbrev few : h.active.levels ≤ 2
  few = is.numbers.active

  abbrev needs : Place → Bool
  needs = files.needs g.view g.slot h shared is

  abbrev value : ℕ × File → ℕ
  value e = count_by needs (reserved_places h.active.levels e.0 e.1)

  abbrev needed_file : ℕ → ℕ
  needed_file n = option_map_or (λ f. value (n, file_told (tree_of x n f) f)) (file_at x.inode n) 0

  abbrev all : List ℕ
  all = range_with_len 0 (records_each * fan ^ h.active.levels)

  abbrev reserved : ℕ → ℕ
  reserved = reserved_file g h shared few label

  abbrev standing : ℕ → ℕ
  standing = standing_file g h shared few label

  -- ---- file by file

  told_value : (n : ℕ) → option_map_or (λ f. value (n, f)) (file_in x n) 0 ≡ needed_file n
  unfolding file_in
  told_value n = so (file_at x.inode n)
    where
      so : (o : Option InodeRecord) → option_map_or (λ f. value (n, f)) (option_map (λ r. file_told (tree_of x n r) r) o) 0 ≡ option_map_or (λ f. value (n, file_told (tree_of x n f) f)) o 0
      so None = refl
      so (Some r) = refl

  of_file : (n : ℕ) → needed_file n + standing n ≡ reserved n
  of_file n = so (file_at x.inode n) refl
    where
      so : (o : Option InodeRecord) → file_at x.inode n ≡ o
          → option_map_or (λ f. value (n, file_told (tree_of x n f) f)) o 0 + option_map_or (λ f. standing_in shared f.reserve (tree_of x n f)) o 0
          ≡ option_map_or (λ f. reserved_of (over_cell g h shared few label (n / records_each)) f) o 0
      so None e = refl
      so (Some f) e =
          let has = has_record (λ e. true) g h.active n f e in
          file_needs g.view g.slot h shared is n f e has.stands (named (get_or has.block.files (n % records_each) free_record) f has.used)

  most_of : (n : ℕ) → reserved n ≤ 8388611
  most_of n = so (file_at x.inode n) refl
    where
      over : ℕ
      over = over_cell g h shared few label (n / records_each)

      over_few : over ≤ 3
      over_few =
          let each = sum_most (λ k. one_if (is_member shared (pointer_at x.inode k (n / records_each / fan ^ k)).vvbn)) 1 0 (h.active.levels + 1) (λ k. one_most (is_member shared (pointer_at x.inode k (n / records_each / fan ^ k)).vvbn)) in
          let small = few in
          omega (arith, each, small)
        where
          one_most : (b : Bool) → one_if b ≤ 1
          one_most true = omega arith
          one_most false = omega arith

      so : (o : Option InodeRecord) → file_at x.inode n ≡ o → option_map_or (λ f. reserved_of over f) o 0 ≤ 8388611
      so None e = omega arith
      so (Some f) e =
          let has = has_record (λ e. true) g h.active n f e in
          let block : IsInodeBlock has.block = inodes_in_range has.at.block (Ok has.block) (is.whole _ has.at has.found) (sym has.reads) in
          let record_is : IsInodeRecord f = in_list has.block.files (n % records_each) f block.files has.used in
          let reserve : f.reserve ≤ 2097152 = within (f.reserve) (up_to (is_used f.name_length) most_cells) 2097152 record_is.reserve (up_to_most (is_used f.name_length) most_cells) in
          let levels : f.levels ≤ 3 = within (f.levels) (up_to (is_used f.name_length) 3) 3 record_is.levels (up_to_most (is_used f.name_length) 3) in
          let product : (f.levels + 1) * f.reserve ≤ 4 * 2097152 = mul-le-mul (let e : f.levels + 1 ≤ 4 = omega (arith, levels) in e) reserve in
          let width = ranges_most f.reserve f.levels in
          let top_few = over_few in
          either (f.name_length == 0) (f.reserve == 0) f (omega (arith, product, width, top_few))
        where
          within : (a b c : ℕ) → a ≤ b → b ≤ c → a ≤ c
          within a b c low high = omega (arith, low, high)

          either : (s t : Bool) (f : InodeRecord) → ranges f.reserve f.levels + over ≤ 8388611 → (if s || t then 0 else ranges f.reserve f.levels + over) ≤ 8388611
          either true t f low = omega arith
          either false true f low = omega arith
          either false false f low = low

  -- ---- of the volume

  needed : h.kind ≡ ByFile → need (volume_told g.view g.slot h) ≡ sum_by needed_file all
  unfolding need volume_with table_told tree_told
  needed kind =
      ap (λ (k : Kind). cond (is_file_kind k) (sum_by value (fin.entries (table_told x).files)) 0) kind
      ∙ ap (sum_by value) (entries_are (file_in x) 0 (records_each * fan ^ h.active.levels))
      ∙ listed_sum (file_in x) value all
      ∙ same_sum (λ n. option_map_or (λ f. value (n, f)) (file_in x n) 0) needed_file 0 (records_each * fan ^ h.active.levels) (λ n low high. told_value n)

  parts : sum_by needed_file all + sum_by standing all ≡ sum_by reserved all
  parts = sym (sum_both needed_file standing all) ∙ same_sum (λ n. needed_file n + standing n) reserved 0 (records_each * fan ^ h.active.levels) (λ n low high. of_file n)

  most : sum_by reserved all ≤ 2 ^ 55
  most =
      let width : fan ^ h.active.levels ≤ fan ^ 2 = pow-le-pow_right {n = fan} (omega arith) {i = h.active.levels} {j = 2} few in
      let count : records_each * fan ^ h.active.levels ≤ 262144 = omega (arith, width) in
      let product : records_each * fan ^ h.active.levels * 8388611 ≤ 262144 * 8388611 = mul-le-mul count (let e : 8388611 ≤ 8388611 = omega arith in e) in
      let sum = sum_most reserved 8388611 0 (records_each * fan ^ h.active.levels) most_of in
      omega (arith, product, sum)

  abbrev sights : List Sight
  sights = map (sight_of g) (met g label h.active)

  -- What two counts along the walk tell.
  pub counted : h.kind ≡ ByFile → (fs : List InodeRecord) (a b : ℕ) → IsRaised 0 (sum_by (reserved_in shared (top g h shared few label)) sights) a → IsRaised 0 (standing_along shared fs sights) b
      → (a ≡ need (volume_told g.view g.slot h) + b) × (a ≤ 2 ^ 55)
  counted kind fs a b raised stood =
      let total = reserved_met g h shared few label in
      let stands = standing_met g h shared few label fs in
      let sum = parts in
      let low = most in
      let is_need = needed kind in
      let first : a ≡ 0 + sum_by (reserved_in shared (top g h shared few label)) sights = raised (omega (arith, total, low)) in
      let second : b ≡ 0 + standing_along shared fs sights = stood (omega (arith, stands, sum, low)) in
      (omega (arith, first, second, total, stands, sum, is_need), omega (arith, first, total, low))

-- ---- of a label

pub unneeded : (w : View) (s : ℕ) (l : Label) → (l.kind == 1) ≡ false → 0 ≡ need (volume_told w s (head_of l))
unfolding need volume_with head_of
unneeded w s l other = sym (so (l.kind == 0) (l.kind == 1) other _)
  where
    so : (a b : Bool) → b ≡ false → (n : ℕ) → cond (is_file_kind (if a then Whole else (if b then ByFile else Thin))) n 0 ≡ 0
    so true b e n = refl
    so false true e n = absurd cc
    so false false e n = refl

by_file : (l : Label) → (l.kind == 1) ≡ true → (head_of l).kind ≡ ByFile
unfolding head_of
by_file l test = let one : l.kind ≡ 1 = grind (arith, nat_tests, test) in ap (λ n. if n == 0 then Whole else (if n == 1 then ByFile else Thin)) one

-- What the counts are after the walk along the active table of a label, where they were 0.
pub need_counted : (g : Ground) (l : Label) (shared : List Bool) (place : ℕ) (old new : NeedTally) → HasShared g.view g.slot (head_of l) shared → (l.kind == 1) ≡ true
    → old.shared ≡ shared → old.top ≡ is_member shared l.root.vvbn → old.reserved ≡ 0 → old.standing ≡ 0
    → Needs old (map (sight_of g) (met g place (record { levels = l.levels; root = l.root }))) new
    → (new.reserved ≡ need (volume_told g.view g.slot (head_of l)) + new.standing) × (new.reserved ≤ 2 ^ 55)
unfolding head_of
need_counted g l shared place old new is one set tops none zeros needs =
    counted g (head_of l) shared is place (by_file l one) old.files new.reserved new.standing
    (subst (λ n. IsRaised n (sum_by (reserved_in shared (is_member shared l.root.vvbn)) ss) new.reserved) none
    (subst (λ n. IsRaised old.reserved n new.reserved) (λ i. sum_by (reserved_in (set i) (tops i)) ss) needs.reserved))
    (subst (λ n. IsRaised n (standing_along shared old.files ss) new.standing) zeros
    (subst (λ n. IsRaised old.standing n new.standing) (λ i. standing_along (set i) old.files ss) needs.standing))
  where
    ss : List Sight
    ss = map (sight_of g) (met g place (record { levels = l.levels; root = l.root }))
