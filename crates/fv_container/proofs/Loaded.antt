-- A leaf that was read as that of a region.
use Rattle.std.proofs.Common.{◌≡◌, ◌≢◌, ℕ, ◌+◌, ◌-◌, ◌*◌, ◌/◌, ◌<◌, ◌≤◌, ◌⊎◌, Bool, true, false, not, ◌==◌, List, length, get_or, refl, sym, ap, subst, ◌∙◌, arith, inl, inr, ⊎_elim, Option, None, Some}
use Rattle.std.specs.Prelude.{nat_lt, if◌then◌else◌, slice_set, IfSome, IsTrue}
use Rattle.std.specs.Option.{is_some}
use Rattle.std.specs.Global.{Box}
use Rattle.std.proofs.lemmas.Bool.{and_from, cases_Bool, cases_eq, cases_lt, true≢false}
use Rattle.std.proofs.lemmas.Bool.Decides.{nat_tests}
use Rattle.std.proofs.lemmas.List.{get_or-set_same, get_or-set_other, get_or-map, get_or_past, length-set, length-map}
use Rattle.fv_disk.specs.Shown.{Image, Shown}
use Rattle.fv_codec.specs.declared.container.ContainerLeaf.{ContainerLeaf}
use Rattle.fv_codec.specs.Blocks.{IsEntry as IsLeafEntry, leaf_at}
use Rattle.fv_image.specs.Containers.{entry_in, level_width, lying}
use Rattle.fv_container.specs.declared.entry.Entry.{Entry}
use Rattle.fv_container.specs.Kept.{IsKept, map_of, paged_of}
use Rattle.fv_container.specs.Mapped.{IsHeld, Mapped, node_count}
use Rattle.fv_container.specs.Paged.{AreWell, IsLeafFor, IsSureOf, Leaves, Paged, here_of, is_as_said, is_here, is_known, is_right, is_sure, is_told, leaf_here, pair_at, pair_there, sure_after}
use Rattle.fv_container.specs.Spelled.{pair_of}
use Rattle.fv_container.specs.Clean.{IsCleanOn, IsOver}
use Rattle.fv_container.specs.Loading.{HasLearned, HasLoaded, KeepsMap, KeepsOthers}
use Rattle.fv_container.specs.Putting.{LearnsIn}
use Rattle.fv_disk.specs.declared.fault.BlockFault.{BlockFault}
use Rattle.fv_container.specs.Reading.{IsBadNode, pair_loaded}
use Rattle.fv_container.specs.Seeing.{IsSomeFault}
use Rattle.fv_container.proofs.Clean.{clean_kept}
use Rattle.fv_container.proofs.Entries.{entry_held}
use Rattle.fv_container.proofs.Nodes.{lying_read}
use Rattle.fv_container.proofs.Whole.{bad_leaf}
use Rattle.fv_container.proofs.Tests.{as_said, none_said, right_at, right_of, tested, told_again}

-- ---- one leaf

hole_range : IsLeafEntry (0, 0)
hole_range = (omega arith, omega arith)

pub fitted_range : (old new : ContainerLeaf) (from : ℕ) → ((c : ℕ) → c < 256 → IsLeafEntry (pair_at old c)) → ((c : ℕ) → c < 256 → c < from → pair_at new c ≡ pair_at old c) → ((c : ℕ) → c < 256 → from ≤ c → pair_at new c ≡ (0, 0))
    → (c : ℕ) → c < 256 → IsLeafEntry (pair_at new c)
fitted_range old new from range before past c lt = ⊎_elim
    (λ (low : c < from). subst IsLeafEntry (sym (before c lt low)) (range c lt))
    (λ (high : from ≤ c). subst IsLeafEntry (sym (past c lt high)) hole_range)
    (cases_lt c from)

pub fitted_pairs : (old new : ContainerLeaf) (region count from : ℕ) → from ≡ count - 256 * region → ((c : ℕ) → c < 256 → c < from → pair_at new c ≡ pair_at old c) → ((c : ℕ) → c < 256 → from ≤ c → pair_at new c ≡ (0, 0))
    → (c : ℕ) → c < 256 → pair_at new c ≡ (if nat_lt (256 * region + c) count then pair_at old c else (0, 0))
fitted_pairs old new region count from is before past c lt = ⊎_elim
    (λ (inside : 256 * region + c < count).
    let test : nat_lt (256 * region + c) count ≡ true = grind (arith, nat_tests) in
    before c lt (omega (arith, is, inside)) ∙ ap (λ (t : Bool). if t then pair_at old c else (0, 0)) (sym test))
    (λ (out : count ≤ 256 * region + c).
    let test : nat_lt (256 * region + c) count ≡ false = grind (arith, nat_tests) in
    past c lt (omega (arith, is, out)) ∙ ap (λ (t : Bool). if t then pair_at old c else (0, 0)) (sym test))
    (cases_lt (256 * region + c) count)

pub loaded_pairs : (i : Image) (count at region : ℕ) (leaf new : ContainerLeaf) → ((c : ℕ) → (get_or leaf.pvbns c 0, get_or leaf.kinds c 0) ≡ entry_in (lying leaf_at i at) c)
    → ((c : ℕ) → c < 256 → pair_at new c ≡ (if nat_lt (256 * region + c) count then pair_at leaf c else (0, 0))) → (c : ℕ) → c < 256 → pair_at new c ≡ pair_loaded i count at region c
loaded_pairs i count at region leaf new read pairs c lt = pairs c lt ∙ ap (λ (p : ℕ × ℕ). if nat_lt (256 * region + c) count then p else (0, 0)) (read c)

-- ---- a leaf on the disk that isn't dirty

pub clean_pair : (i : Image) (es : List (Option Entry)) (tree : List ℕ) (dirty : List Bool) (k c : ℕ) → IsOver i (map_of es tree dirty) → length tree ≡ node_count (length es) → k < level_width (length es) 0 → get_or dirty k true ≡ false → c < 256
    → pair_there i (get_or tree k 0) c ≡ pair_of (get_or es (256 * k + c) None)
clean_pair i es tree dirty k c over long low clean lt = ⊎_elim
    (λ (none : get_or tree k 0 ≡ 0). ap (λ (p : ℕ). pair_there i p c) none ∙ ap pair_of (sym (over.absent k c clean none lt)))
    (λ (some : get_or tree k 0 ≢ 0).
    let leaf = (over.written k (omega (arith, low, long)) some).leaf (rw (over.long) low) in
    let up : (256 * k + c) / 256 ≡ k = omega (arith, lt) in
    ap (λ l. entry_in l c) (lying_read leaf_at i (get_or tree k 0) leaf.leaf some leaf.said)
    ∙ leaf.entries c lt ∙ ap pair_of (sym (over.same (256 * k + c) (ap (λ (m : ℕ). get_or dirty m true) up ∙ clean))))
    (cases_eq (get_or tree k 0) 0)

pub clean_loaded : (i : Image) (es : List (Option Entry)) (tree : List ℕ) (dirty : List Bool) (count k c : ℕ) → count ≡ length es → IsOver i (map_of es tree dirty) → length tree ≡ node_count (length es) → k < level_width (length es) 0 → get_or dirty k true ≡ false → c < 256
    → pair_loaded i count (get_or tree k 0) k c ≡ pair_of (get_or es (256 * k + c) None)
clean_loaded i es tree dirty count k c size over long low clean lt = ⊎_elim
    (λ (inside : 256 * k + c < count).
    let test : nat_lt (256 * k + c) count ≡ true = grind (arith, nat_tests) in
    rw test (clean_pair i es tree dirty k c over long low clean lt))
    (λ (past : count ≤ 256 * k + c).
    let test : nat_lt (256 * k + c) count ≡ false = grind (arith, nat_tests) in
    rw test (ap pair_of (sym (get_or_past es (256 * k + c) None (omega (arith, past, size))))))
    (cases_lt (256 * k + c) count)

-- ---- the bits of a leaf

kind_bit : (o : Option Entry) → IfSome o IsHeld → not ((pair_of o).1 == 0) ≡ is_some o
kind_bit None own = refl
kind_bit (Some e) own = (let z : (e.kind == 0) ≡ false = grind (arith, nat_tests, own.kind_least) in rw z refl)

pub learned_right : (es : List (Option Entry)) (k : ℕ) (leaf : ContainerLeaf) (old new : List Bool) → length es ≤ length old → LearnsIn (256 * k) leaf old new → ((v : ℕ) → IfSome (get_or es v None) IsHeld)
    → ((c : ℕ) → c < 256 → pair_at leaf c ≡ pair_of (get_or es (256 * k + c) None)) → is_right es k new ≡ true
learned_right es k leaf old new long learns held said = right_of es k new (λ c lt. ⊎_elim
    (λ (inside : 256 * k + c < length old). learns.here c lt inside ∙ ap (λ (p : ℕ × ℕ). not (p.1 == 0)) (said c lt) ∙ kind_bit (get_or es (256 * k + c) None) (held (256 * k + c)))
    (λ (past : length old ≤ 256 * k + c). get_or_past new (256 * k + c) false (omega (arith, past, learns.long)) ∙ sym (ap is_some (get_or_past es (256 * k + c) None (omega (arith, past, long)))))
    (cases_lt (256 * k + c) (length old)))

away : (k j c : ℕ) → c < 256 → j ≢ k → (256 * j + c < 256 * k) ⊎ (256 * k + 256 ≤ 256 * j + c)
away k j c lt ne = ⊎_elim
    (λ (less : j < k). inl (omega (arith, less, lt)))
    (λ (more : k ≤ j). inr (omega (arith, more, ne)))
    (cases_lt j k)

still_right : (es : List (Option Entry)) (k j : ℕ) (leaf : ContainerLeaf) (old new : List Bool) → LearnsIn (256 * k) leaf old new → j ≢ k → is_right es j old ≡ true → is_right es j new ≡ true
still_right es k j leaf old new learns ne was = right_of es j new (λ c lt. learns.others (256 * j + c) (away k j c lt ne) ∙ right_at es j old was c lt)

-- ---- leaves once one was read

-- the leaf of a region may have come into memory, and no other
pub record Comes (k : ℕ) (leaf : ContainerLeaf) (old new : Leaves) : Type 0 where
  pub long : length new ≡ length old
  pub others : (j : ℕ) → j ≢ k → leaf_here new j ≡ leaf_here old j
  pub stays : (j : ℕ) → is_some (leaf_here old j) ≡ true → is_some (leaf_here new j) ≡ true
  pub well : AreWell new
  pub said : (es : List (Option Entry)) → ((c : ℕ) → c < 256 → pair_at leaf c ≡ pair_of (get_or es (256 * k + c) None)) → is_as_said es k (leaf_here new k) ≡ true

pub comes_held : (k : ℕ) (b : Box ContainerLeaf) (leaf : ContainerLeaf) (old : Leaves) → k < length old → b.value ≡ leaf → IsLeafFor k leaf → AreWell old → Comes k leaf old (slice_set old k (Some b))
comes_held k b leaf old inside is well all = record {
  long = length-set old k (Some b);
  others = λ j ne. get_or-set_other old k j (Some b) None ne;
  stays = λ j was. ⊎_elim
      (λ (e : j ≡ k). ap (λ (n : ℕ). is_some (leaf_here (slice_set old k (Some b)) n)) e ∙ ap is_some here)
      (λ (ne : j ≢ k). ap is_some (get_or-set_other old k j (Some b) None ne) ∙ was)
      (cases_eq j k);
  well = λ j. ⊎_elim
      (λ (e : j ≡ k). subst (λ (n : ℕ). IfSome (leaf_here (slice_set old k (Some b)) n) (λ x. IsLeafFor n x.value)) (sym e) (subst (λ (o : Option (Box ContainerLeaf)). IfSome o (λ x. IsLeafFor k x.value)) (sym here) (subst (IsLeafFor k) (sym is) well)))
      (λ (ne : j ≢ k). subst (λ (o : Option (Box ContainerLeaf)). IfSome o (λ x. IsLeafFor j x.value)) (sym (get_or-set_other old k j (Some b) None ne)) (all j))
      (cases_eq j k);
  said = λ es each. subst (λ (o : Option (Box ContainerLeaf)). is_as_said es k o ≡ true) (sym here) (as_said es k b (λ c lt. ap (λ (l : ContainerLeaf). pair_at l c) is ∙ each c lt));
}
  where
    here : leaf_here (slice_set old k (Some b)) k ≡ Some b
    here = get_or-set_same old k (Some b) None inside

pub comes_not : (k : ℕ) (leaf : ContainerLeaf) (old : Leaves) → is_some (leaf_here old k) ≡ false → AreWell old → Comes k leaf old old
comes_not k leaf old none all = record {
  long = refl;
  others = λ j ne. refl;
  stays = λ j was. was;
  well = all;
  said = λ es each. by (leaf_here old k) es none;
}
  where
    by : (o : Option (Box ContainerLeaf)) (es : List (Option Entry)) → is_some o ≡ false → is_as_said es k o ≡ true
    by None es away = none_said es k
    by (Some b) es away = absurd (true≢false away)

pub here_at : (leaves : Leaves) (k : ℕ) → get_or (here_of leaves) k false ≡ is_some (leaf_here leaves k)
here_at leaves k = ⊎_elim
    (λ (inside : k < length leaves). get_or-map is_some leaves k None false inside)
    (λ (past : length leaves ≤ k). get_or_past (here_of leaves) k false (omega (arith, past, length-map leaves is_some)) ∙ sym (ap is_some (get_or_past leaves k None past)))
    (cases_lt k (length leaves))

module _ (es : List (Option Entry)) (tree : List ℕ) (dirty : List Bool) (leaves : Leaves) (known sure used : List Bool) (next fresh : List ℕ) (count k : ℕ) (was : IsKept (paged_of es tree dirty leaves known sure) count leaves used next fresh) where
  -- a leaf that isn't in memory isn't dirty
  pub unmarked_by : k < level_width count 0 → is_some (leaf_here leaves k) ≡ false → get_or dirty k true ≡ false
  unmarked_by inside none = ⊎_elim
      (λ (yes : get_or dirty k true ≡ true). absurd (true≢false (sym (was.held k (omega (arith, inside, was.long)) yes) ∙ none)))
      (λ (no : get_or dirty k true ≡ false). no)
      (cases_Bool (get_or dirty k true))

  -- and one of a region of which nothing is known isn't there
  pub unknown_away : get_or known k false ≡ false → is_some (leaf_here leaves k) ≡ false
  unknown_away unknown = ⊎_elim
      (λ (yes : is_some (leaf_here leaves k) ≡ true). absurd (true≢false (sym (was.learned k yes) ∙ unknown)))
      (λ (no : is_some (leaf_here leaves k) ≡ false). no)
      (cases_Bool (is_some (leaf_here leaves k)))

module _ (es after : List (Option Entry)) (tree : List ℕ) (dirty : List Bool) (leaves now : Leaves) (known knows sure sures used bits : List Bool) (next fresh : List ℕ) (count k : ℕ) (leaf : ContainerLeaf)
    (was : IsKept (paged_of es tree dirty leaves known sure) count leaves used next fresh) (inside : k < level_width count 0) (comes : Comes k leaf leaves now) (learns : LearnsIn (256 * k) leaf used bits)
    (same : after ≡ es) (known_is : knows ≡ slice_set known k true) (sure_is : sures ≡ sure_after sure es k now bits)
  where
    abbrev pub was_paged : Paged
    was_paged = paged_of es tree dirty leaves known sure

    abbrev pub now_paged : Paged
    now_paged = paged_of after tree dirty now knows sures

    in_known : k < length known
    in_known = omega (arith, inside, was.known)

    in_sure : k < length sure
    in_sure = omega (arith, inside, was.sure)

    knows_here : get_or knows k false ≡ true
    knows_here = ap (λ (l : List Bool). get_or l k false) known_is ∙ get_or-set_same known k true false in_known

    knows_other : (j : ℕ) → j ≢ k → get_or knows j false ≡ get_or known j false
    knows_other j ne = ap (λ (l : List Bool). get_or l j false) known_is ∙ get_or-set_other known k j true false ne

    sure_here : get_or sures k false ≡ is_told es k (leaf_here now k) bits
    sure_here = ap (λ (l : List Bool). get_or l k false) sure_is ∙ get_or-set_same sure k (is_told es k (leaf_here now k) bits) false in_sure

    sure_other : (j : ℕ) → j ≢ k → get_or sures j false ≡ get_or sure j false
    sure_other j ne = ap (λ (l : List Bool). get_or l j false) sure_is ∙ get_or-set_other sure k j (is_told es k (leaf_here now k) bits) false ne

    here_other : (j : ℕ) → j ≢ k → is_here now_paged j ≡ is_here was_paged j
    here_other j ne = here_at now j ∙ ap is_some (comes.others j ne) ∙ sym (here_at leaves j)

    learned_now : (j : ℕ) → is_some (leaf_here now j) ≡ true → get_or knows j false ≡ true
    learned_now j is = ⊎_elim
        (λ (e : j ≡ k). ap (λ (n : ℕ). get_or knows n false) e ∙ knows_here)
        (λ (ne : j ≢ k). knows_other j ne ∙ was.learned j (sym (ap is_some (comes.others j ne)) ∙ is))
        (cases_eq j k)

    told_now : (j : ℕ) → IsSureOf es j (get_or sures j false) (leaf_here now j) bits
    told_now j = ⊎_elim
        (λ (e : j ≡ k). subst (λ (n : ℕ). IsSureOf es n (get_or sures n false) (leaf_here now n) bits) (sym e) (tested es k (get_or sures k false) (leaf_here now k) bits sure_here))
        (λ (ne : j ≢ k). subst (λ (s : Bool). IsSureOf es j s (leaf_here now j) bits) (sym (sure_other j ne))
        (told_again es es j (get_or sure j false) (leaf_here leaves j) (leaf_here now j) used bits (λ said. ap (is_as_said es j) (comes.others j ne) ∙ said) (still_right es k j leaf used bits learns ne) (was.told j)))
        (cases_eq j k)

    kept_same : IsKept (paged_of es tree dirty now knows sures) count now bits next fresh
    kept_same = record {
      mapped = was.mapped;
      size = was.size;
      room = was.room;
      anew = was.anew;
      long = comes.long ∙ was.long;
      known = ap (λ (l : List Bool). length l) known_is ∙ length-set known k true ∙ was.known;
      sure = ap (λ (l : List Bool). length l) sure_is ∙ length-set sure k (is_told es k (leaf_here now k) bits) ∙ was.sure;
      bits = omega (arith, learns.long, was.bits);
      well = comes.well;
      learned = learned_now;
      held = λ j lt marked. comes.stays j (was.held j (omega (arith, lt, comes.long)) marked);
      told = told_now;
    }

    pub kept_after : IsKept now_paged count now bits next fresh
    kept_after = subst (λ (l : List (Option Entry)). IsKept (paged_of l tree dirty now knows sures) count now bits next fresh) (sym same) kept_same

    pub others_after : KeepsOthers k was_paged now_paged
    others_after = record { here = here_other; known = knows_other; sure = sure_other }

    pub map_after : now_paged.map ≡ was_paged.map
    map_after = ap (λ (l : List (Option Entry)). map_of l tree dirty) same

    pub known_after : is_known now_paged k ≡ true
    known_after = knows_here

    module _ (i : Image) (clean : IsCleanOn i was_paged) (unmarked : get_or dirty k true ≡ false) (read : (c : ℕ) → c < 256 → pair_at leaf c ≡ pair_loaded i count (get_or tree k 0) k c) where
      held_all : (v : ℕ) → IfSome (get_or es v None) IsHeld
      held_all v = entry_held es v was.mapped.entries

      low : k < level_width (length es) 0
      low = subst (λ (n : ℕ). k < level_width n 0) was.size inside

      said_now : (c : ℕ) → c < 256 → pair_at leaf c ≡ pair_of (get_or es (256 * k + c) None)
      said_now c lt = read c lt ∙ clean_loaded i es tree dirty count k c was.size clean.over was.mapped.tree low unmarked lt

      sure_now : is_sure now_paged k ≡ true
      sure_now = sure_here ∙ and_from (is_as_said es k (leaf_here now k)) (is_right es k bits) (comes.said es said_now) (learned_right es k leaf used bits (omega (arith, was.bits, was.size)) learns held_all said_now)

      here_sure : (j : ℕ) → is_here now_paged j ≡ true → is_sure now_paged j ≡ true
      here_sure j is = ⊎_elim
          (λ (e : j ≡ k). subst (λ (n : ℕ). is_sure now_paged n ≡ true) (sym e) sure_now)
          (λ (ne : j ≢ k). sure_other j ne ∙ clean.here j (sym (here_other j ne) ∙ is))
          (cases_eq j k)

      known_sure : (j : ℕ) → is_known now_paged j ≡ true → is_sure now_paged j ≡ true
      known_sure j is = ⊎_elim
          (λ (e : j ≡ k). subst (λ (n : ℕ). is_sure now_paged n ≡ true) (sym e) sure_now)
          (λ (ne : j ≢ k). sure_other j ne ∙ clean.known j (sym (knows_other j ne) ∙ is))
          (cases_eq j k)

      pub clean_after : IsCleanOn i now_paged
      clean_after = clean_kept i was_paged now_paged map_after here_sure known_sure clean

-- ---- several leaves

pub keeps_itself : (disk : Shown) (paged : Paged) → KeepsMap disk paged paged
keeps_itself disk paged = record { map = refl; here = λ k is. is; known = λ k is. is; clean = λ tells clean. clean }

here_still : (disk : Shown) (k j : ℕ) (old new : Paged) → HasLoaded disk k old new → is_here old j ≡ true → is_here new j ≡ true
here_still disk k j old new loaded is = ⊎_elim
    (λ (e : j ≡ k). subst (λ (n : ℕ). is_here new n ≡ true) (sym e) loaded.here)
    (λ (ne : j ≢ k). loaded.others.here j ne ∙ is)
    (cases_eq j k)

known_still : (disk : Shown) (k j : ℕ) (old new : Paged) → HasLoaded disk k old new → is_known old j ≡ true → is_known new j ≡ true
known_still disk k j old new loaded is = ⊎_elim
    (λ (e : j ≡ k). subst (λ (n : ℕ). is_known new n ≡ true) (sym e) loaded.known)
    (λ (ne : j ≢ k). loaded.others.known j ne ∙ is)
    (cases_eq j k)

pub keeps_more : (first disk : Shown) (k : ℕ) (old mid new : Paged) → disk.reads ≡ first.reads → disk.tells ≡ first.tells → KeepsMap first old mid → HasLoaded disk k mid new → KeepsMap first old new
keeps_more first disk k old mid new reads tells so_far loaded = record {
  map = loaded.map ∙ so_far.map;
  here = λ j is. here_still disk k j mid new loaded (so_far.here j is);
  known = λ j is. known_still disk k j mid new loaded (so_far.known j is);
  clean = λ told clean. subst (λ (i : Image). IsCleanOn i new) reads (loaded.clean (subst IsTrue (sym tells) told) (subst (λ (i : Image). IsCleanOn i mid) (sym reads) (so_far.clean told clean)));
}

-- where one more of a plan was loaded
pub planned_more : (disk : Shown) (plan : List Bool) (k : ℕ) (mid new : Paged) → HasLoaded disk k mid new → ((j : ℕ) → j < k → get_or plan j false ≡ true → is_here mid j ≡ true) → (j : ℕ) → j < k + 1 → get_or plan j false ≡ true → is_here new j ≡ true
planned_more disk plan k mid new loaded so_far j lt wanted = ⊎_elim
    (λ (e : j ≡ k). subst (λ (n : ℕ). is_here new n ≡ true) (sym e) loaded.here)
    (λ (ne : j ≢ k). here_still disk k j mid new loaded (so_far j (omega (arith, lt, ne)) wanted))
    (cases_eq j k)

-- ---- one more region was learned

known_learned : (disk : Shown) (k j : ℕ) (old new : Paged) → HasLearned disk k old new → is_known old j ≡ true → is_known new j ≡ true
known_learned disk k j old new learned is = ⊎_elim
    (λ (e : j ≡ k). subst (λ (n : ℕ). is_known new n ≡ true) (sym e) learned.known)
    (λ (ne : j ≢ k). learned.others.known j ne ∙ is)
    (cases_eq j k)

pub learned_keeps : (first disk : Shown) (k : ℕ) (old mid new : Paged) → disk.reads ≡ first.reads → disk.tells ≡ first.tells → KeepsMap first old mid → HasLearned disk k mid new → KeepsMap first old new
learned_keeps first disk k old mid new reads tells so_far learned = record {
  map = learned.map ∙ so_far.map;
  here = λ j is. ap (λ (l : List Bool). get_or l j false) learned.here ∙ so_far.here j is;
  known = λ j is. known_learned disk k j mid new learned (so_far.known j is);
  clean = λ told clean. subst (λ (i : Image). IsCleanOn i new) reads (learned.clean (subst IsTrue (sym tells) told) (subst (λ (i : Image). IsCleanOn i mid) (sym reads) (so_far.clean told clean)));
}

pub learned_more : (disk : Shown) (k : ℕ) (mid new : Paged) → HasLearned disk k mid new → ((j : ℕ) → j < k → is_known mid j ≡ true) → (j : ℕ) → j < k + 1 → is_known new j ≡ true
learned_more disk k mid new learned so_far j lt = ⊎_elim
    (λ (e : j ≡ k). subst (λ (n : ℕ). is_known new n ≡ true) (sym e) learned.known)
    (λ (ne : j ≢ k). known_learned disk k j mid new learned (so_far j (omega (arith, lt, ne))))
    (cases_eq j k)

-- ---- as calls on a container say it

-- what a region's number is below
pub region_within : (count k : ℕ) → 256 * k < count → k < level_width count 0
region_within count k lt = omega (arith, lt)

pub loaded_out : (disk : Shown) (now : Paged) (es after : List (Option Entry)) (tree : List ℕ) (dirty : List Bool) (leaves news : Leaves) (known knows sure sures used bits : List Bool) (next fresh : List ℕ) (count k : ℕ) (leaf : ContainerLeaf)
    → paged_of es tree dirty leaves known sure ≡ now → IsKept (paged_of es tree dirty leaves known sure) count leaves used next fresh → k < level_width count 0 → is_some (leaf_here leaves k) ≡ false → Comes k leaf leaves news → is_some (leaf_here news k) ≡ true
    → LearnsIn (256 * k) leaf used bits → after ≡ es → knows ≡ slice_set known k true → sures ≡ sure_after sure es k news bits
    → (IsTrue disk.tells → (c : ℕ) → c < 256 → pair_at leaf c ≡ pair_loaded disk.reads count (get_or tree k 0) k c)
    → HasLoaded disk k now (paged_of after tree dirty news knows sures)
loaded_out disk now es after tree dirty leaves news known knows sure sures used bits next fresh count k leaf view was inside none comes there learns same known_is sure_is read = subst (λ (p : Paged). HasLoaded disk k p (paged_of after tree dirty news knows sures)) view (record {
  map = map_after es after tree dirty leaves news known knows sure sures used bits next fresh count k leaf was inside comes learns same known_is sure_is;
  here = here_at news k ∙ there;
  known = known_after es after tree dirty leaves news known knows sure sures used bits next fresh count k leaf was inside comes learns same known_is sure_is;
  others = others_after es after tree dirty leaves news known knows sure sures used bits next fresh count k leaf was inside comes learns same known_is sure_is;
  clean = λ tells clean. clean_after es after tree dirty leaves news known knows sure sures used bits next fresh count k leaf was inside comes learns same known_is sure_is disk.reads clean (unmarked_by es tree dirty leaves known sure used next fresh count k was inside none) (read tells);
})

pub learned_out : (disk : Shown) (now : Paged) (es after : List (Option Entry)) (tree : List ℕ) (dirty : List Bool) (leaves : Leaves) (known knows sure sures used bits : List Bool) (next fresh : List ℕ) (count k : ℕ) (leaf : ContainerLeaf)
    → paged_of es tree dirty leaves known sure ≡ now → IsKept (paged_of es tree dirty leaves known sure) count leaves used next fresh → k < level_width count 0 → get_or known k false ≡ false
    → LearnsIn (256 * k) leaf used bits → after ≡ es → knows ≡ slice_set known k true → sures ≡ sure_after sure es k leaves bits
    → (IsTrue disk.tells → (c : ℕ) → c < 256 → pair_at leaf c ≡ pair_loaded disk.reads count (get_or tree k 0) k c)
    → HasLearned disk k now (paged_of after tree dirty leaves knows sures)
learned_out disk now es after tree dirty leaves known knows sure sures used bits next fresh count k leaf view was inside unknown learns same known_is sure_is read =
    let none = unknown_away es tree dirty leaves known sure used next fresh count k was unknown in
    let comes = comes_not k leaf leaves none was.well in
    subst (λ (p : Paged). HasLearned disk k p (paged_of after tree dirty leaves knows sures)) view (record {
      map = map_after es after tree dirty leaves leaves known knows sure sures used bits next fresh count k leaf was inside comes learns same known_is sure_is;
      here = refl;
      known = known_after es after tree dirty leaves leaves known knows sure sures used bits next fresh count k leaf was inside comes learns same known_is sure_is;
      others = others_after es after tree dirty leaves leaves known knows sure sures used bits next fresh count k leaf was inside comes learns same known_is sure_is;
      clean = λ tells clean. clean_after es after tree dirty leaves leaves known knows sure sures used bits next fresh count k leaf was inside comes learns same known_is sure_is disk.reads clean (unmarked_by es tree dirty leaves known sure used next fresh count k was inside none) (read tells);
    })

-- nothing but what was loaded already
pub loaded_still : (disk : Shown) (k : ℕ) (now : Paged) → is_here now k ≡ true → is_known now k ≡ true → HasLoaded disk k now now
loaded_still disk k now here known = record { map = refl; here = here; known = known; others = record { here = λ j ne. refl; known = λ j ne. refl; sure = λ j ne. refl }; clean = λ tells clean. clean }

pub learned_still : (disk : Shown) (k : ℕ) (now : Paged) → is_known now k ≡ true → HasLearned disk k now now
learned_still disk k now known = record { map = refl; here = refl; known = known; others = record { here = λ j ne. refl; known = λ j ne. refl; sure = λ j ne. refl }; clean = λ tells clean. clean }

pub inside_of : (now : Paged) (es : List (Option Entry)) (tree : List ℕ) (dirty : List Bool) (leaves : Leaves) (known sure used : List Bool) (next fresh : List ℕ) (count k : ℕ)
    → paged_of es tree dirty leaves known sure ≡ now → IsKept (paged_of es tree dirty leaves known sure) count leaves used next fresh → 256 * k < length now.map.entries → k < level_width count 0
inside_of now es tree dirty leaves known sure used next fresh count k view was lt =
    let less : 256 * k < length es = subst (λ (p : Paged). 256 * k < length p.map.entries) (sym view) lt in
    region_within count k (omega (arith, less, was.size))

-- a fault of one of a plan's leaves
pub planned_fault : (i j : Image) (old now : Paged) (k : ℕ) (fault : BlockFault) → j ≡ i → now.map ≡ old.map → 256 * k < length old.map.entries → IsBadNode j (get_or now.map.tree k 0) 0 fault
    → IsSomeFault i old.map.tree (level_width (length old.map.entries) 0) fault
planned_fault i j old now k fault same still lt bad =
    bad_leaf i j old.map.tree k (level_width (length old.map.entries) 0) fault same (region_within (length old.map.entries) k lt) (subst (λ (m : Mapped). IsBadNode j (get_or m.tree k 0) 0 fault) still bad)
