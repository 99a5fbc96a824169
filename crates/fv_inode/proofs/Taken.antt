-- What taking a file away does: to the files beside it, and to the blocks of the tree.
use Rattle.std.proofs.Common.{◌≡◌, ◌≢◌, ℕ, zero, suc, ◌+◌, ◌*◌, ◌/◌, ◌%◌, ◌^◌, ◌<◌, ◌≤◌, ◌⊎◌, Bool, true, false, cond, List, [], ◌∷◌, length, get_or, nat_eq, refl, sym, ap, ◌∙◌, arith, inl, inr, subst, ⊎_elim}
use Rattle.std.specs.Prelude.{Option, Some, None, Ok, is_some, slice_set, ◌==◌, ◌&&◌}
use Rattle.std.proofs.lemmas.Bool.{cases_eq, cases_lt, both_ways, and_parts}
use Rattle.std.proofs.lemmas.Bool.Decides.{nat_tests}
use Rattle.std.proofs.lemmas.List.{get_or-set_same, get_or-set_other, length-set}
use Rattle.fv_codec.specs.declared.inode.InodeRecord.{InodeRecord}
use Rattle.fv_codec.specs.declared.pointer.Pointer.{Pointer}
use Rattle.fv_codec.specs.Blocks.{all_free}
use Rattle.fv_model.specs.Trees.{fan}
use Rattle.fv_tables.specs.Spelled.{Rooted, pointer_at, stamp_in, block_at}
use Rattle.fv_tables.specs.Told.{records_in, free_record, used_record, file_at}
use Rattle.fv_tables.proofs.Pointers.{above}
use Rattle.fv_tree.specs.declared.kept.Tree.{Tree}
use Rattle.fv_tree.specs.Sources.{Shown}
use Rattle.fv_tree.specs.Standing.{standing, under}
use Rattle.fv_tree.specs.Writing.{IsWritten}
use Rattle.fv_tree.specs.Erasing.{Erases, IsErased}
use Rattle.fv_tree.specs.Releasing.{IsDropped}
use Rattle.fv_tree.specs.Altering.{AltersHeld}
use Rattle.fv_tree.specs.Readying.{IsReady}
use Rattle.fv_tree.specs.Removal.{Removal}
use Rattle.fv_tree.proofs.Causes.{calm_itself, untouched_itself}
use Rattle.fv_tree.proofs.Readied.{ready_stands}
use Rattle.fv_inode.specs.Files.{AreRecords, blank_record}
use Rattle.fv_inode.specs.Changing.{WritesFiles, Rewrites, HasNeighbor, Takes, TakesFile}
use Rattle.fv_inode.proofs.Indexed.{erased_indexes, written_indexes}
use Rattle.fv_inode.proofs.Looked.{releases_none}
use Rattle.fv_inode.proofs.Counted.{written_count}
use Rattle.fv_inode.proofs.Slots.{cell_of, own_record}
use Rattle.fv_inode.proofs.Rewritten.{rewrites}

pub true_or_false : (b : Bool) → (b ≡ true) ⊎ (b ≡ false)
true_or_false true = inl refl
true_or_false false = inr refl

-- ---- a write drops no block

stands_some : (q : Pointer) (o : Option ℕ) → stamp_in q ≡ o → is_some o ≡ true → q.stamp ≢ 0
stands_some q o is some none = let test : stamp_in q ≡ None = rw none refl in absurd (both_ways (is_some (stamp_in q)) (ap is_some test) (ap is_some is ∙ some))

some_stands : (p : Pointer) → p.stamp ≢ 0 → is_some (stamp_in p) ≡ true
some_stands p some = let test : (p.stamp == 0) ≡ false = grind (arith, nat_tests, some) in rw test refl

within_levels : (t : Rooted) (level place : ℕ) → (pointer_at t level place).stamp ≢ 0 → level ≤ t.levels
within_levels t level place some = ⊎_elim
    (λ (lt : t.levels < level). absurd (some (ap (λ (p : Pointer). p.stamp) (above t level place lt))))
    (λ le. le)
    (cases_lt t.levels level)

-- what stands goes on standing
pub still_stands : (old new : Rooted) (i s : ℕ) (block : List ℕ) → IsWritten old new i s block → (level place : ℕ) → (pointer_at old level place).stamp ≢ 0 → (pointer_at new level place).stamp ≢ 0
still_stands old new i s block is level place some =
    let low : level ≤ old.levels = within_levels old level place some in ⊎_elim
    (λ (at : place ≡ i / fan ^ level). stands_some (pointer_at new level place) (Some s) (ap (λ q. stamp_in (pointer_at new level q)) at ∙ is.way level (omega (arith, low, is.more))) refl)
    (λ apart. stands_some (pointer_at new level place) (stamp_in (pointer_at old level place)) (is.others level place apart (inl low)) (some_stands (pointer_at old level place) some))
    (cases_eq place (i / fan ^ level))

-- ---- records that are left

used_some : (r : InodeRecord) → r.name_length ≢ 0 → used_record r ≡ Some r
used_some r some = let test : (r.name_length == 0) ≡ false = grind (arith, nat_tests, some) in rw test refl

free_none : (r : InodeRecord) → r.name_length ≡ 0 → used_record r ≡ None
free_none r none = rw none refl

pub blank_none : (r : InodeRecord) → r ≡ blank_record → used_record r ≡ None
blank_none r is = free_none r (ap (λ (q : InodeRecord). q.name_length) is)

record IsUsedAt (files : List InodeRecord) : Type 0 where
  slot : ℕ
  within : slot < length files
  used : (get_or files slot free_record).name_length ≢ 0

used_at : (files : List InodeRecord) → all_free files ≡ false → IsUsedAt files
used_at [] some = absurd (grind (arith, some))
used_at (r ∷ rs) some = ⊎_elim
    (λ (none : r.name_length ≡ 0).
    let test : (r.name_length == 0) ≡ true = grind (arith, nat_tests, none) in
    let rest : IsUsedAt rs = used_at rs (ap (λ b. b && all_free rs) (sym test) ∙ some) in
    record { slot = suc rest.slot; within = omega (arith, rest.within); used = rest.used })
    (λ used. record { slot = 0; within = omega arith; used = used })
    (cases_eq r.name_length 0)

free_at : (files : List InodeRecord) (slot : ℕ) → all_free files ≡ true → slot < length files → (get_or files slot free_record).name_length ≡ 0
free_at [] slot all lt = absurd (omega (arith, lt))
free_at (r ∷ rs) zero all lt = let parts = and_parts (r.name_length == 0) (all_free rs) all in grind (arith, nat_tests, parts.0)
free_at (r ∷ rs) (suc slot) all lt = free_at rs slot (and_parts (r.name_length == 0) (all_free rs) all).1 (omega (arith, lt))

module _ (t : Rooted) (n : ℕ) (fs : List InodeRecord) (r : InodeRecord) (long : length fs ≡ 16) (are : AreRecords t (n / 16) fs) (free : r ≡ blank_record) where
  abbrev left : List InodeRecord
  left = slice_set fs (n % 16) r

  length_left : length left ≡ 16
  length_left = length-set fs (n % 16) r ∙ long

  nameless : r.name_length ≡ 0
  nameless = ap (λ (q : InodeRecord). q.name_length) free

  pub neighbor : all_free (slice_set fs (n % 16) r) ≡ false → HasNeighbor t n
  neighbor some =
      let at : IsUsedAt left = used_at left some in
      let small : at.slot < 16 = omega (arith, at.within, length_left) in
      let apart : at.slot ≢ n % 16 = λ same. at.used (ap (λ k. (get_or left k free_record).name_length) same ∙ ap (λ (q : InodeRecord). q.name_length) (get_or-set_same fs (n % 16) r free_record (omega (arith, long))) ∙ nameless) in
      let was : get_or left at.slot free_record ≡ get_or fs at.slot free_record = get_or-set_other fs (n % 16) at.slot r free_record apart in
      let used : (get_or fs at.slot free_record).name_length ≢ 0 = λ none. at.used (ap (λ (q : InodeRecord). q.name_length) was ∙ none) in
      record {
        other = 16 * (n / 16) + at.slot;
        file = get_or fs at.slot free_record;
        apart = λ same. apart (omega (arith, same, small));
        beside = cell_of (n / 16) at.slot small;
        there = sym (are at.slot small) ∙ used_some (get_or fs at.slot free_record) used;
      }

  -- a file in the same inode block, where no other is left
  pub none_beside : all_free (slice_set fs (n % 16) r) ≡ true → (k : ℕ) → k ≢ n → k / 16 ≡ n / 16 → file_at t k ≡ None
  none_beside all k differs beside =
      let slots : k % 16 ≢ n % 16 = λ e. differs (omega (arith, e, beside)) in
      let nothing : (get_or fs (k % 16) free_record).name_length ≡ 0 =
      ap (λ (q : InodeRecord). q.name_length) (sym (get_or-set_other fs (n % 16) (k % 16) r free_record slots)) ∙ free_at left (k % 16) all (omega (arith, length_left)) in
      sym (own_record t k fs (λ q lt. are q lt ∙ ap (λ c. file_at t (16 * c + q)) (sym beside))) ∙ free_none (get_or fs (k % 16) free_record) nothing

  pub no_neighbor : all_free (slice_set fs (n % 16) r) ≡ true → HasNeighbor t n → ⊥
  no_neighbor all has = both_ways (is_some (file_at t has.other)) (ap is_some (none_beside all has.other has.apart has.beside)) (ap is_some has.there)

  gone_in : (u : Rooted) (k : ℕ) → block_at u (k / 16) ≡ None → file_at u k ≡ None
  unfolding file_at records_in
  gone_in u k none = rw none refl

  same_in : (u : Rooted) (k : ℕ) → block_at u (k / 16) ≡ block_at t (k / 16) → file_at u k ≡ file_at t k
  unfolding file_at
  same_in u k same = ap (λ b. used_record (get_or (records_in b) (k % 16) free_record)) same

  files_gone : all_free (slice_set fs (n % 16) r) ≡ true → (u : Rooted) (s : ℕ) → IsErased t u (nat_eq (n / 16)) 0 s → (k : ℕ) → file_at u k ≡ cond (nat_eq k n) None (file_at t k)
  files_gone all u s is k = ⊎_elim
      (λ (beside : k / 16 ≡ n / 16).
      let cell : nat_eq (n / 16) (k / 16) ≡ true = grind (arith, nat_tests, beside) in
      let none : block_at u (k / 16) ≡ None = is.blocks (k / 16) ∙ ap (λ b. cond b None (block_at t (k / 16))) cell in
      ⊎_elim
      (λ (same : k ≡ n). let test : nat_eq k n ≡ true = grind (arith, nat_tests, same) in gone_in u k none ∙ sym (ap (λ b. cond b None (file_at t k)) test))
      (λ (differs : k ≢ n).
      let test : nat_eq k n ≡ false = grind (arith, nat_tests, differs) in
      gone_in u k none ∙ sym (ap (λ b. cond b None (file_at t k)) test ∙ none_beside all k differs beside))
      (cases_eq k n))
      (λ (apart : k / 16 ≢ n / 16).
      let cell : nat_eq (n / 16) (k / 16) ≡ false = grind (arith, nat_tests, apart) in
      let test : nat_eq k n ≡ false = grind (arith, nat_tests, λ (e : k ≡ n). apart (ap (λ m. m / 16) e)) in
      same_in u k (is.blocks (k / 16) ∙ ap (λ b. cond b None (block_at t (k / 16))) cell) ∙ sym (ap (λ b. cond b None (file_at t k)) test))
      (cases_eq (k / 16) (n / 16))

  pub taken_last : all_free (slice_set fs (n % 16) r) ≡ true → (u : Rooted) (s : ℕ) → Erases t u (nat_eq (n / 16)) 0 s → IsErased t u (nat_eq (n / 16)) 0 s → Takes t u n s
  taken_last all u s erases is = record { files = files_gone all u s is; indexes = erased_indexes t u (nat_eq (n / 16)) 0 s is; tree = inr (no_neighbor all, erases) }

  pub taken_with : all_free (slice_set fs (n % 16) r) ≡ false → (u : Rooted) (s : ℕ) → WritesFiles t u (n / 16) s (slice_set fs (n % 16) r) → Takes t u n s
  taken_with some u s wrote =
      let now : Rewrites t u n s None = subst (Rewrites t u n s) (blank_none r free) (rewrites t u n s fs r long are wrote) in
      record { files = now.files; indexes = written_indexes t u (n / 16) s (slice_set fs (n % 16) r) wrote; tree = inl (neighbor some, now) }

-- ---- the whole change, over blocks

pub takes_last : (told calls : Type 0) (old new : Shown) (t u : Tree) (n s count : ℕ) (fs : List InodeRecord) (r : InodeRecord) → length fs ≡ 16 → AreRecords (standing (under old) t) (n / 16) fs → r ≡ blank_record
    → all_free (slice_set fs (n % 16) r) ≡ true → Removal told calls old new t u (nat_eq (n / 16)) 0 s (Ok count) → TakesFile told calls old new t u n s (Ok count)
takes_last told calls old new t u n s count fs r long are free all removal = record {
  removed = λ is sound holds. taken_last (standing (under old) t) n fs r long are free all (standing (under new) u) s (removal.erased is sound) (removal.place_by_place is sound holds);
  count = removal.count;
  strays = removal.strays;
  room = removal.room;
  released = removal.released;
  leads = removal.leads;
  stored_well = removal.stored_well;
  tells = removal.tells;
  lets_go = removal.lets_go;
  alters = removal.alters;
  leaves = λ is. tt;
  failed = λ is. tt;
  owner = removal.owner;
  stands = removal.stands;
  untouched = tt;
  called = removal.called;
  counts = removal.counts;
  cause = tt;
}

pub takes_with : (told calls : Type 0) (source : Shown) (t u : Tree) (n s : ℕ) (fs : List InodeRecord) (r : InodeRecord) → length fs ≡ 16 → AreRecords (standing (under source) t) (n / 16) fs → r ≡ blank_record
    → all_free (slice_set fs (n % 16) r) ≡ false → WritesFiles (standing (under source) t) (standing (under source) u) (n / 16) s (slice_set fs (n % 16) r) → IsReady t (n / 16) → AltersHeld t u s → calls → TakesFile told calls source source t u n s (Ok 0)
takes_with told calls source t u n s fs r long are free some wrote ready held called = record {
  removed = λ is stands holds. taken_with (standing (under source) t) n fs r long are free some (standing (under source) u) s wrote;
  count = λ is stands.
      let same = written_count (standing (under source) t) (standing (under source) u) (n / 16) s wrote.block wrote.place_by_place held.levels (ready_stands (under source) t (n / 16) ready) in
      omega (arith, same);
  strays = λ is stands. refl;
  room = omega arith;
  released = λ is. releases_none source source (IsDropped (under source) t u)
      (λ v drops. still_stands (standing (under source) t) (standing (under source) u) (n / 16) s wrote.block wrote.place_by_place drops.level drops.place drops.led.some drops.goes)
      (untouched_itself source) (calm_itself source);
  leads = λ is stands. held.leads (under source);
  stored_well = λ is stands. held.stored_well (under source);
  tells = λ is stands. held.tells (under source);
  lets_go = λ is stands level place v led. inl (held.keeps (under source) level place v led);
  alters = λ is stands. held.alters (under source);
  leaves = λ is. tt;
  failed = λ is. tt;
  owner = held.owner;
  stands = λ is. held.sound (under source) source.used;
  untouched = tt;
  called = called;
  counts = record { faults = omega arith; damages = omega arith; spent = omega arith; calm = calm_itself source };
  cause = tt;
}
