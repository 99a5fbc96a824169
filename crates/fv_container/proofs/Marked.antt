-- Blocks to which leaves lead, marked one after another.
use Rattle.std.proofs.Common.{◌≡◌, ℕ, zero, suc, ◌+◌, ◌-◌, ◌*◌, ◌<◌, ◌≤◌, Bool, true, false, ◌&&◌, ◌||◌, List, length, get_or, take, refl, sym, ap, ap₂, subst, ◌∙◌, arith, ⊎_elim, Option, None, Some}
use Rattle.std.specs.Prelude.{IfSome, OnOk, Result, Ok, Err}
use Rattle.std.specs.Option.{is_some}
use Rattle.std.specs.List.{list_any, range_with_len}
use Rattle.std.specs.Global.{Box}
use Rattle.std.proofs.lemmas.Bool.{cases_Bool, true≢false}
use Rattle.std.proofs.lemmas.List.{get_or_past}
use Rattle.fv_disk.specs.Shown.{Image, Shown}
use Rattle.fv_disk.specs.declared.fault.BlockFault.{BlockFault}
use Rattle.fv_codec.specs.declared.container.ContainerLeaf.{ContainerLeaf}
use Rattle.fv_image.specs.Containers.{level_width}
use Rattle.fv_container.specs.declared.entry.Entry.{Entry}
use Rattle.fv_container.specs.Kept.{IsKept, map_of, paged_of}
use Rattle.fv_container.specs.Mapped.{Mapped}
use Rattle.fv_container.specs.Paged.{IsLeafFor, Leaves, Paged, is_as_said, leaf_here, pair_at}
use Rattle.fv_container.specs.Spelled.{is_at, names, pair_of}
use Rattle.fv_container.specs.Clean.{IsCleanOn}
use Rattle.fv_container.specs.Leading.{lead_to, place_at, place_in}
use Rattle.fv_container.specs.Loading.{Marks, leads_somewhere}
use Rattle.fv_container.specs.Reading.{pair_loaded}
use Rattle.fv_container.specs.Seeing.{leads_first, leads_seen}
use Rattle.fv_container.proofs.Leading.{any_add, any_none, any_same, or_assoc, or_false, range_has}
use Rattle.fv_container.proofs.Loaded.{clean_loaded, here_at, unmarked_by}
use Rattle.fv_container.proofs.Named.{at_itself, at_means, at_none, named_at, named_where}
use Rattle.fv_container.proofs.Taking.{names_next}
use Rattle.fv_container.proofs.Tests.{said_as, told_at}

nothing : (old : List Bool) (leads : ℕ → Bool) → ((b : ℕ) → leads b ≡ false) → Marks old leads old
nothing old leads none = record { long = refl; bits = λ b lt. sym (ap (λ (t : Bool). get_or old b false || t) (none b) ∙ or_false (get_or old b false)) }

further : (old mid new : List Bool) (first next both : ℕ → Bool) → ((b : ℕ) → both b ≡ (first b || next b)) → Marks old first mid → Marks mid next new → Marks old both new
further old mid new first next both is a b = record {
  long = b.long ∙ a.long;
  bits = λ n lt. b.bits n (subst (λ (m : ℕ). n < m) (sym a.long) lt) ∙ ap (λ (t : Bool). t || next n) (a.bits n lt) ∙ sym (ap (λ (t : Bool). get_or old n false || t) (is n) ∙ or_assoc (get_or old n false) (first n) (next n));
}

pub marked_none : (old : List Bool) (places : List ℕ) → Marks old (names (take 0 places)) old
marked_none old places = nothing old (names (take 0 places)) (λ b. refl)

pub marked_more : (old mid new : List Bool) (places : List ℕ) (n : ℕ) → n < length places → Marks old (names (take n places)) mid → Marks mid (λ b. is_at b (get_or places n 0)) new → Marks old (names (take (n + 1) places)) new
marked_more old mid new places n inside a b = further old mid new (names (take n places)) (λ b. is_at b (get_or places n 0)) (names (take (n + 1) places)) (λ m. names_next places n m inside) a b

pub all_none : (i : Image) (count : ℕ) (leaves : Leaves) (tree : List ℕ) (old : List Bool) → Marks old (leads_first i count leaves tree 0) old
unfolding leads_first
all_none i count leaves tree old = nothing old (leads_first i count leaves tree 0) (λ b. refl)

pub all_more : (i : Image) (count : ℕ) (leaves : Leaves) (tree : List ℕ) (old mid new : List Bool) (k : ℕ) → Marks old (leads_first i count leaves tree k) mid → Marks mid (leads_seen i count (get_or tree k 0) k (leaf_here leaves k)) new
    → Marks old (leads_first i count leaves tree (k + 1)) new
unfolding leads_first
all_more i count leaves tree old mid new k a b = further old mid new (leads_first i count leaves tree k) (leads_seen i count (get_or tree k 0) k (leaf_here leaves k)) (leads_first i count leaves tree (k + 1)) (λ n. let e : k + 1 ≡ suc k = omega arith in rw e refl) a b

-- ---- the places of a leaf

-- a name is the place of some number
any_of_row : (ps : List ℕ) (b : ℕ) → names ps b ≡ list_any (λ c. is_at b (get_or ps c 0)) (range_with_len 0 (length ps))
any_of_row ps b = ⊎_elim
    (λ (yes : names ps b ≡ true).
    let at = named_where ps b yes in
    yes ∙ sym (range_has (λ c. is_at b (get_or ps c 0)) at.number 0 (length ps) (omega arith) (omega (arith, at.within)) (ap (is_at b) at.place ∙ at_itself b at.some)))
    (λ (no : names ps b ≡ false).
    no ∙ sym (any_none (λ c. is_at b (get_or ps c 0)) 0 (length ps) (λ k low high. not_true (is_at b (get_or ps k 0)) (λ is.
    let means = at_means b (get_or ps k 0) is in
    true≢false (sym (named_at ps k b (omega (arith, high)) means.0 means.1) ∙ no)))))
    (cases_Bool (names ps b))
  where
    not_true : (t : Bool) → (t ≡ true → ⊥) → t ≡ false
    not_true true wrong = absurd (wrong refl)
    not_true false wrong = refl

pub seen_here : (i : Image) (count at k : ℕ) (leaf : Box ContainerLeaf) (old new : List Bool) → Marks old (names leaf.value.pvbns) new → Marks old (leads_seen i count at k (Some leaf)) new
unfolding leads_seen
seen_here i count at k leaf old new marks = marks

pub seen_there : (i : Image) (count at k : ℕ) (leaf : ContainerLeaf) (old new : List Bool) → length leaf.pvbns ≡ 256 → ((c : ℕ) → c < 256 → pair_at leaf c ≡ pair_loaded i count at k c) → Marks old (names leaf.pvbns) new → Marks old (leads_seen i count at k None) new
unfolding leads_seen
seen_there i count at k leaf old new long pairs marks = record { long = marks.long; bits = λ b lt. marks.bits b lt ∙ ap (λ (t : Bool). get_or old b false || t) (each b) }
  where
    each : (b : ℕ) → names leaf.pvbns b ≡ list_any (λ c. is_at b (pair_loaded i count at k c).0) (range_with_len 0 256)
    each b =
        any_of_row leaf.pvbns b ∙ ap (λ (n : ℕ). list_any (λ c. is_at b (get_or leaf.pvbns c 0)) (range_with_len 0 n)) long
        ∙ any_same (λ c. is_at b (get_or leaf.pvbns c 0)) (λ c. is_at b (pair_loaded i count at k c).0) 0 256 (λ c low high. ap (λ (p : ℕ × ℕ). is_at b p.0) (pairs c (omega (arith, high))))

-- ---- the entries of a container

any_shift : (p : ℕ → Bool) (a m n : ℕ) → list_any (λ c. p (a + c)) (range_with_len m n) ≡ list_any p (range_with_len (a + m) n)
any_shift p a m zero = refl
any_shift p a m (suc n) =
    let next : a + (m + 1) ≡ (a + m) + 1 = omega arith in
    ap (λ (t : Bool). p (a + m) || t) (any_shift p a (m + 1) n ∙ ap (λ (k : ℕ). list_any p (range_with_len k n)) next)

place_of_pair : (e : Option Entry) → (pair_of e).0 ≡ place_in e
place_of_pair None = refl
place_of_pair (Some e) = refl

module _ (es : List (Option Entry)) (tree : List ℕ) (dirty : List Bool) (leaves : Leaves) (known sure used : List Bool) (next fresh : List ℕ) (count : ℕ) (was : IsKept (paged_of es tree dirty leaves known sure) count leaves used next fresh)
    (i : Image) (clean : IsCleanOn i (paged_of es tree dirty leaves known sure)) (b : ℕ)
  where
    abbrev map : Mapped
    map = map_of es tree dirty

    abbrev test : ℕ → Bool
    test = λ v. true && is_at b (place_at map v)

    low : (k : ℕ) → k < length leaves → k < level_width (length es) 0
    low k lt = omega (arith, lt, was.long ∙ ap (λ (n : ℕ). level_width n 0) was.size)

    from_pairs : (k : ℕ) (f : ℕ → ℕ) → ((c : ℕ) → c < 256 → f c ≡ (pair_of (get_or es (256 * k + c) None)).0) → list_any (λ c. is_at b (f c)) (range_with_len 0 256) ≡ lead_to map (λ v. true) (256 * k) 256 b
    from_pairs k f is =
        let start : 256 * k + 0 ≡ 256 * k = omega arith in
        any_same (λ c. is_at b (f c)) (λ c. test (256 * k + c)) 0 256 (λ c low high. ap (is_at b) (is c (omega (arith, high)) ∙ place_of_pair (get_or es (256 * k + c) None)))
        ∙ any_shift test (256 * k) 0 256 ∙ ap (λ (n : ℕ). list_any test (range_with_len n 256)) start

    by_leaf : (k : ℕ) (leaf : Option (Box ContainerLeaf)) → leaf_here leaves k ≡ leaf → k < length leaves → leads_seen i count (get_or tree k 0) k leaf b ≡ lead_to map (λ v. true) (256 * k) 256 b
    unfolding leads_seen
    by_leaf k None is lt = from_pairs k (λ c. (pair_loaded i count (get_or tree k 0) k c).0) (λ c inside. ap (λ (p : ℕ × ℕ). p.0)
        (clean_loaded i es tree dirty count k c was.size clean.over was.mapped.tree (low k lt) (unmarked_by es tree dirty leaves known sure used next fresh count k was (omega (arith, lt, was.long)) (ap is_some is)) inside))
    by_leaf k (Some x) is lt =
        let well : IsLeafFor k x.value = subst (λ (o : Option (Box ContainerLeaf)). IfSome o (λ y. IsLeafFor k y.value)) is (was.well k) in
        let said : is_as_said es k (Some x) ≡ true = subst (λ (o : Option (Box ContainerLeaf)). is_as_said es k o ≡ true) is (told_at es k (get_or sure k false) (leaf_here leaves k) used (clean.here k (here_at leaves k ∙ ap is_some is)) (was.told k)).0 in
        any_of_row x.value.pvbns b ∙ ap (λ (n : ℕ). list_any (λ c. is_at b (get_or x.value.pvbns c 0)) (range_with_len 0 n)) well.pvbns
        ∙ from_pairs k (λ c. get_or x.value.pvbns c 0) (λ c inside. ap (λ (p : ℕ × ℕ). p.0) (said_as es k x said c inside))

    first_leads : (k : ℕ) → k ≤ length leaves → leads_first i count leaves tree k b ≡ lead_to map (λ v. true) 0 (256 * k) b
    unfolding leads_first
    first_leads zero le = refl
    first_leads (suc k) le =
        let more : 256 * suc k ≡ 256 * k + 256 = omega arith in
        let start : 0 + 256 * k ≡ 256 * k = omega arith in
        ap₂ (λ (s t : Bool). s || t) (first_leads k (omega (arith, le))) (by_leaf k (leaf_here leaves k) refl (omega (arith, le)))
        ∙ sym (ap (λ (n : ℕ). list_any test (range_with_len 0 n)) more ∙ any_add test 0 (256 * k) 256 ∙ ap (λ (n : ℕ). list_any test (range_with_len 0 (256 * k)) || list_any test (range_with_len n 256)) start)

    pub all_leads : leads_first i count leaves tree (length leaves) b ≡ leads_somewhere map b
    all_leads =
        let wide = was.long ∙ ap (λ (n : ℕ). level_width n 0) was.size in
        let split : 256 * length leaves ≡ length es + (256 * length leaves - length es) = omega (arith, wide) in
        first_leads (length leaves) (omega arith)
        ∙ ap (λ (n : ℕ). list_any test (range_with_len 0 n)) split
        ∙ any_add test 0 (length es) (256 * length leaves - length es)
        ∙ ap (λ (t : Bool). list_any test (range_with_len 0 (length es)) || t) (any_none test (0 + length es) (256 * length leaves - length es) (λ v lo hi. ap (λ (e : Option Entry). is_at b (place_in e)) (get_or_past es v None (omega (arith, lo))) ∙ at_none b))
        ∙ or_false (list_any test (range_with_len 0 (length es)))

pub blocks_out : (disk : Shown) (now : Paged) (es : List (Option Entry)) (tree : List ℕ) (dirty : List Bool) (leaves lent : Leaves) (at : List ℕ) (known sure used : List Bool) (next fresh : List ℕ) (count : ℕ) (old new : List Bool)
    → paged_of es tree dirty leaves known sure ≡ now → IsKept (paged_of es tree dirty leaves known sure) count leaves used next fresh → IsCleanOn disk.reads now → lent ≡ leaves → at ≡ tree
    → Marks old (leads_first disk.reads count lent at (length lent)) new → Marks old (leads_somewhere now.map) new
blocks_out disk now es tree dirty leaves lent at known sure used next fresh count old new view is clean same placed marks = record {
  long = marks.long;
  bits = λ b lt. marks.bits b lt ∙ ap (λ (t : Bool). get_or old b false || t)
      (ap (λ (l : Leaves). leads_first disk.reads count l at (length l) b) same ∙ ap (λ (t : List ℕ). leads_first disk.reads count leaves t (length leaves) b) placed
      ∙ all_leads es tree dirty leaves known sure used next fresh count is disk.reads (subst (IsCleanOn disk.reads) (sym view) clean) b
      ∙ ap (λ (p : Paged). leads_somewhere p.map b) view);
}

pub on_ok : (result : Result (Unit {0}) BlockFault) (P Q : Type 0) → OnOk result P → (P → Q) → OnOk result Q
on_ok (Ok unit) P Q p goes = goes p
on_ok (Err fault) P Q p goes = tt
