-- What putting an entry into a leaf in memory makes of a container, and what is read there.
use Rattle.std.proofs.Common.{◌≡◌, ◌≢◌, ◌<◌, ◌≤◌, ◌+◌, ◌-◌, ◌*◌, ◌/◌, ◌%◌, ℕ, Bool, true, false, List, length, get_or, Option, Some, None, refl, sym, ap, subst, ◌∙◌, arith, ⊎_elim}
use Rattle.std.specs.Prelude.{slice_set, nat_lt, IfOk, IfSome, All, IsTrue, Result, Ok, Err, if◌then◌else◌}
use Rattle.fv_disk.specs.declared.fault.BlockFault.{BlockFault}
use Rattle.std.specs.Option.{is_some}
use Rattle.std.specs.Global.{Box}
use Rattle.std.proofs.lemmas.Bool.{cases_eq, true≢false}
use Rattle.std.proofs.lemmas.List.{get_or-set_same, get_or-set_other, get_or-map, length-set, length-map, same_lists}
use Rattle.std.proofs.lemmas.List.Elements.{All-from_get_or}
use Rattle.std.proofs.lemmas.Bool.Decides.{nat_tests}
use Rattle.fv_disk.specs.Shown.{Image, Shown}
use Rattle.fv_codec.specs.declared.container.ContainerLeaf.{ContainerLeaf}
use Rattle.fv_image.specs.Containers.{container_entry, level_width, node_below}
use Rattle.fv_container.specs.declared.entry.Entry.{Entry}
use Rattle.fv_container.specs.Kept.{IsKept, paged_of}
use Rattle.fv_container.specs.Mapped.{IsEntry, IsHeld, Mapped, entry_under, node_count}
use Rattle.fv_container.specs.Paged.{AreWell, IsSureOf, Leaves, Paged, here_of, is_as_said, is_here, is_right, is_sure, leaf_here, pair_at, pair_there}
use Rattle.fv_container.specs.Spelled.{IsOpened, pair_of}
use Rattle.fv_container.specs.Clean.{IsCleanOn}
use Rattle.fv_container.specs.Loading.{HasPut, dirty_after}
use Rattle.fv_container.specs.Putting.{IsSetTo, PutsIn}
use Rattle.fv_container.specs.Reading.{LooksUp}
use Rattle.fv_container.proofs.Clean.{places_still}
use Rattle.fv_container.proofs.Entries.{can_hold, entry_held, same_entry}
use Rattle.fv_container.proofs.Loaded.{clean_pair, here_at, unmarked_by}
use Rattle.fv_container.proofs.Tests.{as_said, none_said, right_at, right_of, said_as, told_again, told_at}

-- ---- what is read

-- the leaf in memory says what the entries say
pub said_here : (es : List (Option Entry)) (k c : ℕ) (b : Option (Box ContainerLeaf)) → is_as_said es k b ≡ true → c < 256 → IfSome b (λ x. pair_at x.value c ≡ pair_of (get_or es (256 * k + c) None))
said_here es k c None said lt = tt
said_here es k c (Some x) said lt = said_as es k x said c lt

read_as : (p : ℕ × ℕ) (es : List (Option Entry)) (k c : ℕ) (b : Option (Box ContainerLeaf)) → is_some b ≡ true → is_as_said es k b ≡ true → c < 256 → IfSome b (λ x. p ≡ pair_at x.value c) → p ≡ pair_of (get_or es (256 * k + c) None)
read_as p es k c None here said lt read = absurd (true≢false (sym here))
read_as p es k c (Some x) here said lt read = read ∙ said_as es k x said c lt

-- an entry that is read off the leaf in memory
pub entry_read : (es : List (Option Entry)) (leaves : Leaves) (used : List Bool) (s : Bool) (v : ℕ) (r : Option Entry) → IsSureOf es (v / 256) s (leaf_here leaves (v / 256)) used → All (λ entry. IfSome entry IsHeld) es
    → is_some (leaf_here leaves (v / 256)) ≡ true → s ≡ true → IfSome (leaf_here leaves (v / 256)) (λ b. pair_of r ≡ pair_at b.value (v % 256)) → IfSome r IsHeld → r ≡ get_or es v None
entry_read es leaves used s v r told held here is read own =
    let at : 256 * (v / 256) + v % 256 ≡ v = omega arith in
    same_entry r (get_or es v None) own (entry_held es v held)
    (read_as (pair_of r) es (v / 256) (v % 256) (leaf_here leaves (v / 256)) here (told_at es (v / 256) s (leaf_here leaves (v / 256)) used is told).0 (omega arith) read
    ∙ ap (λ (w : ℕ). pair_of (get_or es w None)) at)

-- ---- what is looked up

by_leaf : (disk : Shown) (es : List (Option Entry)) (at v : ℕ) (r : Option Entry) (b : Option (Box ContainerLeaf)) → (is_some b ≡ false → pair_there disk.reads at (v % 256) ≡ pair_of (get_or es v None))
    → IsTrue disk.tells → (is_some b ≡ true → IfSome b (λ x. pair_of r ≡ pair_at x.value (v % 256)) → r ≡ get_or es v None)
    → IfSome r IsHeld → IfSome (get_or es v None) IsHeld → LooksUp disk at (v % 256) b (pair_of r) → r ≡ get_or es v None
by_leaf disk es at v r (Some x) clean tells here own held looks = here refl looks
by_leaf disk es at v r None clean tells here own held looks = same_entry r (get_or es v None) own held (looks tells ∙ clean refl)

module _ (es : List (Option Entry)) (tree : List ℕ) (dirty : List Bool) (leaves : Leaves) (known sure used : List Bool) (next fresh : List ℕ) (count : ℕ) (was : IsKept (paged_of es tree dirty leaves known sure) count leaves used next fresh) where
  abbrev paged : Paged
  paged = paged_of es tree dirty leaves known sure

  region_within : (v : ℕ) → v < length es → v / 256 < level_width (length es) 0
  region_within v lt = omega (arith, lt)

  not_dirty : (k : ℕ) → k < level_width (length es) 0 → is_some (leaf_here leaves k) ≡ false → get_or dirty k true ≡ false
  not_dirty k low away = unmarked_by es tree dirty leaves known sure used next fresh count k was (subst (λ (n : ℕ). k < level_width n 0) (sym was.size) low) away

  pub looked_up : (disk : Shown) (v : ℕ) (r : Option Entry) → v < length es → IsTrue disk.tells → IsCleanOn disk.reads paged → LooksUp disk (get_or tree (v / 256) 0) (v % 256) (leaf_here leaves (v / 256)) (pair_of r) → IfSome r IsHeld → r ≡ get_or es v None
  looked_up disk v r within tells clean looks own =
      let at : 256 * (v / 256) + v % 256 ≡ v = omega arith in
      by_leaf disk es (get_or tree (v / 256) 0) v r (leaf_here leaves (v / 256))
      (λ away. clean_pair disk.reads es tree dirty (v / 256) (v % 256) clean.over was.mapped.tree (region_within v within) (not_dirty (v / 256) (region_within v within) away) (omega arith) ∙ ap (λ (w : ℕ). pair_of (get_or es w None)) at)
      tells
      (λ here read. entry_read es leaves used (get_or sure (v / 256) false) v r (was.told (v / 256)) was.mapped.entries here (clean.here (v / 256) (here_at leaves (v / 256) ∙ here)) read own)
      own (entry_held es v was.mapped.entries) looks

-- ---- what is put

set_same : (c : ℕ) (pair : ℕ × ℕ) (o n : Option (Box ContainerLeaf)) → IsSetTo c pair o n → is_some n ≡ is_some o
set_same c pair None n set = ap is_some set
set_same c pair (Some a) None set = absurd set
set_same c pair (Some a) (Some b) set = refl

-- entries of a leaf are set as the leaf's own pair was
said_put : (es after : List (Option Entry)) (k c : ℕ) (entry : Option Entry) (o n : Option (Box ContainerLeaf)) → IsSetTo c (pair_of entry) o n → is_some o ≡ true
    → get_or after (256 * k + c) None ≡ entry → ((d : ℕ) → d < 256 → d ≢ c → get_or after (256 * k + d) None ≡ get_or es (256 * k + d) None) → is_as_said es k o ≡ true → is_as_said after k n ≡ true
said_put es after k c entry None n set here now others said = absurd (true≢false (sym here))
said_put es after k c entry (Some a) None set here now others said = absurd set
said_put es after k c entry (Some a) (Some b) set here now others said = as_said after k b (λ d lt. ⊎_elim
    (λ (e : d ≡ c). ap (pair_at b.value) e ∙ set.0 ∙ ap pair_of (sym now) ∙ ap (λ (n : ℕ). pair_of (get_or after (256 * k + n) None)) (sym e))
    (λ (ne : d ≢ c). set.1 d ne ∙ said_as es k a said d lt ∙ ap pair_of (sym (others d lt ne)))
    (cases_eq d c))

said_apart : (es after : List (Option Entry)) (k : ℕ) (b : Option (Box ContainerLeaf)) → ((d : ℕ) → d < 256 → get_or after (256 * k + d) None ≡ get_or es (256 * k + d) None) → is_as_said es k b ≡ true → is_as_said after k b ≡ true
said_apart es after k None same said = none_said after k
said_apart es after k (Some b) same said = as_said after k b (λ d lt. said_as es k b said d lt ∙ ap pair_of (sym (same d lt)))

right_put : (es : List (Option Entry)) (k v : ℕ) (entry : Option Entry) (used : List Bool) → v < length es → length es ≤ length used → is_right es k used ≡ true → is_right (slice_set es v entry) k (slice_set used v (is_some entry)) ≡ true
right_put es k v entry used within long right = right_of (slice_set es v entry) k (slice_set used v (is_some entry)) (λ c lt. ⊎_elim
    (λ (e : 256 * k + c ≡ v). ap (λ (n : ℕ). get_or (slice_set used v (is_some entry)) n false) e ∙ get_or-set_same used v (is_some entry) false (omega (arith, within, long))
    ∙ sym (ap (λ (n : ℕ). is_some (get_or (slice_set es v entry) n None)) e ∙ ap is_some (get_or-set_same es v entry None within)))
    (λ (ne : 256 * k + c ≢ v). get_or-set_other used v (256 * k + c) (is_some entry) false ne ∙ right_at es k used right c lt ∙ ap is_some (sym (get_or-set_other es v (256 * k + c) entry None ne)))
    (cases_eq (256 * k + c) v))

pub same_here : (k c : ℕ) (pair : ℕ × ℕ) (old new : Leaves) → PutsIn k c pair old new → length new ≡ length old → here_of new ≡ here_of old
same_here k c pair old new puts long = same_lists (here_of new) (here_of old) (length-map new is_some ∙ long ∙ sym (length-map old is_some)) (λ j d lt.
    let inside : j < length new = omega (arith, lt, length-map new is_some) in
    get_or-map is_some new j None d inside ∙ each j ∙ sym (get_or-map is_some old j None d (omega (arith, inside, long))))
  where
    each : (j : ℕ) → is_some (leaf_here new j) ≡ is_some (leaf_here old j)
    each j = ⊎_elim
        (λ (e : j ≡ k). subst (λ (n : ℕ). is_some (leaf_here new n) ≡ is_some (leaf_here old n)) (sym e) (set_same c pair (leaf_here old k) (leaf_here new k) puts.set))
        (λ (ne : j ≢ k). ap is_some (puts.others j ne))
        (cases_eq j k)

by_same : (b : Option (Box ContainerLeaf)) (c : ℕ) (p : ℕ × ℕ) → is_some b ≡ true → IfSome b (λ x. pair_at x.value c ≡ p) → (q : ℕ × ℕ) → IfSome b (λ x. pair_at x.value c ≡ q) → p ≡ q
by_same None c p here is q so = absurd (true≢false (sym here))
by_same (Some b) c p here is q so = sym is ∙ so

by_other : (b : Option (Box ContainerLeaf)) (c : ℕ) (p : ℕ × ℕ) → is_some b ≡ true → IfSome b (λ x. pair_at x.value c ≢ p) → (q : ℕ × ℕ) → IfSome b (λ x. pair_at x.value c ≡ q) → q ≢ p
by_other None c p here is q so = absurd (true≢false (sym here))
by_other (Some b) c p here is q so = λ e. is (so ∙ e)

module _ (es after : List (Option Entry)) (tree : List ℕ) (dirty marks : List Bool) (leaves now : Leaves) (known sure sures used bits : List Bool) (next fresh : List ℕ) (count v : ℕ) (entry : Option Entry) (changed : Bool)
    (was : IsKept (paged_of es tree dirty leaves known sure) count leaves used next fresh) (within : v < length es) (can : IfSome entry IsEntry)
    (here : is_some (leaf_here leaves (v / 256)) ≡ true) (puts : PutsIn (v / 256) (v % 256) (pair_of entry) leaves now) (well : AreWell now) (long : length now ≡ length leaves)
    (same : after ≡ slice_set es v entry) (sure_is : sures ≡ sure) (bits_is : bits ≡ slice_set used v (is_some entry)) (marks_is : marks ≡ dirty_after changed dirty v)
    (other : changed ≡ true → IfSome (leaf_here leaves (v / 256)) (λ b. pair_at b.value (v % 256) ≢ pair_of entry))
    (equal : changed ≡ false → IfSome (leaf_here leaves (v / 256)) (λ b. pair_at b.value (v % 256) ≡ pair_of entry))
  where
    abbrev k : ℕ
    k = v / 256

    abbrev c : ℕ
    c = v % 256

    parts : 256 * (v / 256) + v % 256 ≡ v
    parts = omega arith

    abbrev put : List (Option Entry)
    put = slice_set es v entry

    held_entries : All (λ e. IfSome e IsHeld) put
    held_entries = All-from_get_or (λ e. IfSome e IsHeld) put None (λ w lt. ⊎_elim
        (λ (e : w ≡ v). subst (λ (o : Option Entry). IfSome o IsHeld) (sym (ap (λ (n : ℕ). get_or put n None) e ∙ get_or-set_same es v entry None within)) (can_hold entry can))
        (λ (ne : w ≢ v). subst (λ (o : Option Entry). IfSome o IsHeld) (sym (get_or-set_other es v w entry None ne)) (entry_held es w was.mapped.entries))
        (cases_eq w v))

    marks_long : length marks ≡ length dirty
    marks_long = ap (λ (l : List Bool). length l) marks_is ∙ by changed
      where
        by : (t : Bool) → length (dirty_after t dirty v) ≡ length dirty
        by true = length-set dirty (v / 256) true
        by false = refl

    marked_held : (j : ℕ) → j < length now → get_or marks j true ≡ true → is_some (leaf_here now j) ≡ true
    marked_held j lt marked = ⊎_elim
        (λ (e : j ≡ k). subst (λ (n : ℕ). is_some (leaf_here now n) ≡ true) (sym e) (set_same c (pair_of entry) (leaf_here leaves k) (leaf_here now k) puts.set ∙ here))
        (λ (ne : j ≢ k). ap is_some (puts.others j ne) ∙ was.held j (omega (arith, lt, long)) (sym (elsewhere changed j ne) ∙ (sym (ap (λ (l : List Bool). get_or l j true) marks_is) ∙ marked)))
        (cases_eq j k)
      where
        elsewhere : (t : Bool) (j : ℕ) → j ≢ k → get_or (dirty_after t dirty v) j true ≡ get_or dirty j true
        elsewhere true j ne = get_or-set_other dirty k j true true ne
        elsewhere false j ne = refl

    bounded : (t : Bool) (m : ℕ) → get_or (dirty_after t dirty v) m true ≡ false → get_or tree m 0 ≤ 1048575
    bounded true m is = places_still dirty tree (v / 256) was.mapped.places m is
    bounded false m is = was.mapped.places m is

    told_now : (j : ℕ) → IsSureOf put j (get_or sure j false) (leaf_here now j) (slice_set used v (is_some entry))
    told_now j = ⊎_elim
        (λ (e : j ≡ k). subst (λ (n : ℕ). IsSureOf put n (get_or sure n false) (leaf_here now n) (slice_set used v (is_some entry))) (sym e)
        (told_again es put k (get_or sure k false) (leaf_here leaves k) (leaf_here now k) used (slice_set used v (is_some entry))
        (said_put es put k c entry (leaf_here leaves k) (leaf_here now k) puts.set here
        (ap (λ (n : ℕ). get_or put n None) parts ∙ get_or-set_same es v entry None within)
        (λ d lt ne. get_or-set_other es v (256 * k + d) entry None (λ q. ne (omega (arith, q, parts, lt)))))
        (right_put es k v entry used within (omega (arith, was.bits, was.size))) (was.told k)))
        (λ (ne : j ≢ k). subst (λ (b : Option (Box ContainerLeaf)). IsSureOf put j (get_or sure j false) b (slice_set used v (is_some entry))) (sym (puts.others j ne))
        (told_again es put j (get_or sure j false) (leaf_here leaves j) (leaf_here leaves j) used (slice_set used v (is_some entry))
        (said_apart es put j (leaf_here leaves j) (λ d lt. get_or-set_other es v (256 * j + d) entry None (λ q. ne (omega (arith, q, parts, lt)))))
        (right_put es j v entry used within (omega (arith, was.bits, was.size))) (was.told j)))
        (cases_eq j k)

    kept_put : IsKept (paged_of put tree (dirty_after changed dirty v) now known sure) count now (slice_set used v (is_some entry)) next fresh
    kept_put = record {
      mapped = record {
        few = omega (arith, was.mapped.few, length-set es v entry);
        entries = held_entries;
        tree = was.mapped.tree ∙ ap node_count (sym (length-set es v entry));
        dirty = sym (ap (λ (l : List Bool). length l) marks_is) ∙ marks_long ∙ was.mapped.dirty ∙ ap node_count (sym (length-set es v entry));
        places = bounded changed;
      };
      size = was.size ∙ sym (length-set es v entry);
      room = was.room;
      anew = was.anew;
      long = long ∙ was.long;
      known = was.known;
      sure = was.sure;
      bits = omega (arith, length-set used v (is_some entry), was.bits);
      well = well;
      learned = λ j is. was.learned j (sym (still j) ∙ is);
      held = λ j lt marked. marked_held j lt (ap (λ (l : List Bool). get_or l j true) marks_is ∙ marked);
      told = told_now;
    }
      where
        still : (j : ℕ) → is_some (leaf_here now j) ≡ is_some (leaf_here leaves j)
        still j = ⊎_elim
            (λ (e : j ≡ k). subst (λ (n : ℕ). is_some (leaf_here now n) ≡ is_some (leaf_here leaves n)) (sym e) (set_same c (pair_of entry) (leaf_here leaves k) (leaf_here now k) puts.set))
            (λ (ne : j ≢ k). ap is_some (puts.others j ne))
            (cases_eq j k)

    pub put_kept : IsKept (paged_of after tree marks now known sures) count now bits next fresh
    put_kept = rw (same, sure_is, bits_is, marks_is) kept_put

    said_v : get_or sure k false ≡ true → IfSome (leaf_here leaves k) (λ x. pair_at x.value c ≡ pair_of (get_or es v None))
    said_v is = subst (λ (w : ℕ). IfSome (leaf_here leaves k) (λ x. pair_at x.value c ≡ pair_of (get_or es w None))) parts (said_here es k c (leaf_here leaves k) (told_at es k (get_or sure k false) (leaf_here leaves k) used is (was.told k)).0 (omega arith))

    pub put_shown : HasPut v entry (paged_of es tree dirty leaves known sure) (paged_of after tree marks now known sures)
    put_shown = record {
      entries = same;
      tree = refl;
      changed = changed;
      dirty = marks_is;
      other = λ is so. λ e. by_other (leaf_here leaves k) c (pair_of entry) here (other so) (pair_of (get_or es v None)) (said_v is) (ap pair_of e);
      same = λ is so. same_entry (get_or es v None) entry (entry_held es v was.mapped.entries) (can_hold entry can) (by_same (leaf_here leaves k) c (pair_of (get_or es v None)) here (said_v is) (pair_of entry) (equal so));
      here = same_here k c (pair_of entry) leaves now puts long;
      known = refl;
      sure = sure_is;
    }

-- ---- as calls on a container say it

pub looked_out : (disk : Shown) (now : Paged) (es : List (Option Entry)) (tree : List ℕ) (dirty : List Bool) (leaves lent : Leaves) (known sure used : List Bool) (next fresh : List ℕ) (count v at : ℕ) (result : Result (Option Entry) BlockFault)
    → paged_of es tree dirty leaves known sure ≡ now → IsKept (paged_of es tree dirty leaves known sure) count leaves used next fresh → v < length now.map.entries → IsTrue disk.tells → IsCleanOn disk.reads now
    → lent ≡ leaves → at ≡ get_or tree (v / 256) 0
    → IfOk result (λ e. LooksUp disk at (v % 256) (leaf_here lent (v / 256)) (pair_of e)) → IfOk result (λ e. IfSome e IsHeld) → IfOk result (λ e. e ≡ entry_under now.map v)
looked_out disk now es tree dirty leaves lent known sure used next fresh count v at (Err fault) view is within tells clean same placed looks own = tt
looked_out disk now es tree dirty leaves lent known sure used next fresh count v at (Ok r) view is within tells clean same placed looks own =
    looked_up es tree dirty leaves known sure used next fresh count is disk v r (subst (λ (p : Paged). v < length p.map.entries) (sym view) within) tells (subst (IsCleanOn disk.reads) (sym view) clean)
    (subst (λ (l : Leaves). LooksUp disk (get_or tree (v / 256) 0) (v % 256) (leaf_here l (v / 256)) (pair_of r)) same (subst (λ (a : ℕ). LooksUp disk a (v % 256) (leaf_here lent (v / 256)) (pair_of r)) placed looks)) own
    ∙ ap (λ (p : Paged). entry_under p.map v) view

-- an entry of a container that was opened, whose leaf isn't in memory
pair_opened : (i : Image) (root height : ℕ) (map : Mapped) (v : ℕ) → IsOpened i root height map → v < length map.entries → pair_there i (get_or map.tree (v / 256) 0) (v % 256) ≡ pair_of (entry_under map v)
unfolding container_entry
pair_opened i root height map v opened within =
    let test : nat_lt v (length map.entries) ≡ true = grind (arith, nat_tests) in
    let same : height - 0 ≡ height = omega arith in
    let place : get_or map.tree (v / 256) 0 ≡ node_below i root height (v / 256) = opened.leaves (v / 256) (omega (arith, within)) ∙ ap (λ (h : ℕ). node_below i root h (v / 256)) same in
    ap (λ (p : ℕ). pair_there i p (v % 256)) place
    ∙ ap (λ (t : Bool). if t then pair_there i (node_below i root height (v / 256)) (v % 256) else (0, 0)) (sym test) ∙ opened.entries v

pub found_opened : (disk : Shown) (now : Paged) (es : List (Option Entry)) (tree : List ℕ) (dirty : List Bool) (leaves lent : Leaves) (known sure used : List Bool) (next fresh : List ℕ) (count v at : ℕ) (result : Result (Option Entry) BlockFault)
    → paged_of es tree dirty leaves known sure ≡ now → IsKept (paged_of es tree dirty leaves known sure) count leaves used next fresh → v < length now.map.entries → IsTrue disk.tells → (root height : ℕ) → IsOpened disk.reads root height now.map
    → is_here now (v / 256) ≡ false → lent ≡ leaves → at ≡ get_or tree (v / 256) 0
    → IfOk result (λ e. LooksUp disk at (v % 256) (leaf_here lent (v / 256)) (pair_of e)) → IfOk result (λ e. IfSome e IsHeld) → IfOk result (λ e. e ≡ entry_under now.map v)
found_opened disk now es tree dirty leaves lent known sure used next fresh count v at (Err fault) view is within tells root height opened away same placed looks own = tt
found_opened disk now es tree dirty leaves lent known sure used next fresh count v at (Ok r) view is within tells root height opened away same placed looks own =
    let there : pair_there disk.reads (get_or tree (v / 256) 0) (v % 256) ≡ pair_of (get_or es v None) = subst (λ (p : Paged). pair_there disk.reads (get_or p.map.tree (v / 256) 0) (v % 256) ≡ pair_of (entry_under p.map v)) (sym view) (pair_opened disk.reads root height now.map v opened within) in
    let none : is_some (leaf_here leaves (v / 256)) ≡ false = sym (here_at leaves (v / 256)) ∙ ap (λ (p : Paged). is_here p (v / 256)) view ∙ away in
    by_leaf disk es (get_or tree (v / 256) 0) v r (leaf_here leaves (v / 256)) (λ _. there) tells (λ here read. absurd (true≢false (sym here ∙ none))) own (entry_held es v is.mapped.entries)
    (subst (λ (l : Leaves). LooksUp disk (get_or tree (v / 256) 0) (v % 256) (leaf_here l (v / 256)) (pair_of r)) same (subst (λ (a : ℕ). LooksUp disk a (v % 256) (leaf_here lent (v / 256)) (pair_of r)) placed looks))
    ∙ ap (λ (p : Paged). entry_under p.map v) view

pub entry_out : (now : Paged) (es : List (Option Entry)) (tree : List ℕ) (dirty : List Bool) (leaves lent : Leaves) (known sure used : List Bool) (next fresh : List ℕ) (count v : ℕ) (r : Option Entry)
    → paged_of es tree dirty leaves known sure ≡ now → IsKept (paged_of es tree dirty leaves known sure) count leaves used next fresh → is_here now (v / 256) ≡ true → is_sure now (v / 256) ≡ true → lent ≡ leaves
    → IfSome (leaf_here lent (v / 256)) (λ b. pair_of r ≡ pair_at b.value (v % 256)) → IfSome r IsHeld → r ≡ entry_under now.map v
entry_out now es tree dirty leaves lent known sure used next fresh count v r view is here sured same read own =
    entry_read es leaves used (get_or sure (v / 256) false) v r (is.told (v / 256)) is.mapped.entries
    (sym (here_at leaves (v / 256)) ∙ ap (λ (p : Paged). is_here p (v / 256)) view ∙ here)
    (ap (λ (p : Paged). is_sure p (v / 256)) view ∙ sured)
    (subst (λ (l : Leaves). IfSome (leaf_here l (v / 256)) (λ b. pair_of r ≡ pair_at b.value (v % 256))) same read) own
    ∙ ap (λ (p : Paged). entry_under p.map v) view

-- the same of rows that were lent and taken back
module _ (now : Paged) (es after : List (Option Entry)) (tree : List ℕ) (dirty lent_marks marks given_marks : List Bool) (leaves lent put given : Leaves) (known sure sures used bits : List Bool) (next fresh : List ℕ) (count v : ℕ) (entry : Option Entry) (changed bit : Bool)
    (view : paged_of es tree dirty leaves known sure ≡ now) (was : IsKept (paged_of es tree dirty leaves known sure) count leaves used next fresh) (within : v < length now.map.entries) (can : IfSome entry IsEntry) (loaded : is_here now (v / 256) ≡ true)
    (lent_is : lent ≡ leaves) (given_is : given ≡ put) (puts : PutsIn (v / 256) (v % 256) (pair_of entry) lent put) (well : AreWell put) (long : length put ≡ length lent)
    (same : after ≡ slice_set es v entry) (sure_is : sures ≡ sure) (bit_is : bit ≡ is_some entry) (bits_is : bits ≡ slice_set used v bit)
    (lent_marks_is : lent_marks ≡ dirty) (given_marks_is : given_marks ≡ marks) (marks_is : marks ≡ (if changed then slice_set lent_marks (v / 256) true else lent_marks))
    (other : changed ≡ true → IfSome (leaf_here lent (v / 256)) (λ b. pair_at b.value (v % 256) ≢ pair_of entry))
    (equal : changed ≡ false → IfSome (leaf_here lent (v / 256)) (λ b. pair_at b.value (v % 256) ≡ pair_of entry))
  where
    was_lent : IsKept (paged_of es tree dirty lent known sure) count lent used next fresh
    was_lent = subst (λ (l : Leaves). IsKept (paged_of es tree dirty l known sure) count l used next fresh) (sym lent_is) was

    inside : v < length es
    inside = subst (λ (p : Paged). v < length p.map.entries) (sym view) within

    here : is_some (leaf_here lent (v / 256)) ≡ true
    here = ap (λ (l : Leaves). is_some (leaf_here l (v / 256))) lent_is ∙ sym (here_at leaves (v / 256)) ∙ ap (λ (p : Paged). is_here p (v / 256)) view ∙ loaded

    all_bits : bits ≡ slice_set used v (is_some entry)
    all_bits = bits_is ∙ ap (slice_set used v) bit_is

    all_marks : given_marks ≡ dirty_after changed dirty v
    all_marks = given_marks_is ∙ marks_is ∙ ap (λ (d : List Bool). if changed then slice_set d (v / 256) true else d) lent_marks_is

    pub put_out : IsKept (paged_of after tree given_marks given known sures) count given bits next fresh
    put_out = subst (λ (l : Leaves). IsKept (paged_of after tree given_marks l known sures) count l bits next fresh) (sym given_is)
        (put_kept es after tree dirty given_marks lent put known sure sures used bits next fresh count v entry changed was_lent inside can here puts well long same sure_is all_bits all_marks other equal)

    pub put_seen : HasPut v entry now (paged_of after tree given_marks given known sures)
    put_seen = subst (λ (p : Paged). HasPut v entry p (paged_of after tree given_marks given known sures)) view
        (subst (λ (l : Leaves). HasPut v entry (paged_of es tree dirty l known sure) (paged_of after tree given_marks given known sures)) lent_is
        (subst (λ (l : Leaves). HasPut v entry (paged_of es tree dirty lent known sure) (paged_of after tree given_marks l known sures)) (sym given_is)
        (put_shown es after tree dirty given_marks lent put known sure sures used bits next fresh count v entry changed was_lent inside can here puts well long same sure_is all_bits all_marks other equal)))
