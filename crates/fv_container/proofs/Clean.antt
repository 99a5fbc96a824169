-- What stays clean, and that clean nodes have places of their own.
use Rattle.std.proofs.Common.{◌≡◌, ◌≢◌, ℕ, zero, suc, ◌+◌, ◌-◌, ◌*◌, ◌/◌, ◌<◌, ◌≤◌, Bool, true, false, not, ◌&&◌, List, length, get_or, replicate, refl, sym, ap, subst, ◌∙◌, arith, ⊎_elim, Ok, Option, None}
use Rattle.std.specs.Prelude.{slice_set, IsTrue}
use Rattle.std.proofs.lemmas.Bool.{cases_eq, cases_lt, true≢false}
use Rattle.std.proofs.lemmas.List.{get_or-set_same, get_or-set_other, get_or-replicate, get_or_past, length-replicate, length-set}
use Rattle.fv_disk.specs.Shown.{Image, Shown}
use Rattle.fv_codec.specs.Blocks.{last_place}
use Rattle.fv_image.specs.Containers.{level_width, node_verdict}
use Rattle.fv_image.proofs.NodesOnce.{one_position}
use Rattle.fv_container.specs.declared.entry.Entry.{Entry}
use Rattle.fv_container.specs.Mapped.{Mapped, IsMapped, node_count, with_entry}
use Rattle.fv_container.specs.Kept.{map_of}
use Rattle.fv_container.specs.Paged.{Paged, empty_paged, is_here, is_known, is_sure}
use Rattle.fv_container.specs.Loading.{HasPut, HasSet, dirty_after}
use Rattle.fv_container.specs.Spelled.{names}
use Rattle.fv_container.specs.Written.{AreWritten, IsNodeOf}
use Rattle.fv_container.specs.Clean.{AreAlone, IsCleanOn, IsOver, StaysClean}
use Rattle.fv_container.proofs.Named.{named_at}
use Rattle.fv_container.proofs.Flushed.{inner_whole, leaf_whole}

-- ---- one entry is set

-- a node that isn't dirty wasn't, and isn't the one that was marked
unmarked : (dirty : List Bool) (k m : ℕ) → get_or (slice_set dirty k true) m true ≡ false → (m ≢ k) × (get_or dirty m true ≡ false)
unmarked dirty k m is = ⊎_elim
    (λ (e : m ≡ k). absurd (true≢false (sym (ap (λ (n : ℕ). get_or (slice_set dirty k true) n true) e ∙ marked) ∙ is)))
    (λ (ne : m ≢ k). (ne, sym (get_or-set_other dirty k m true true ne) ∙ is))
    (cases_eq m k)
  where
    marked : get_or (slice_set dirty k true) k true ≡ true
    marked = ⊎_elim
        (λ (inside : k < length dirty). get_or-set_same dirty k true true inside)
        (λ (past : length dirty ≤ k). get_or_past (slice_set dirty k true) k true (omega (arith, past, length-set dirty k true)))
        (cases_lt k (length dirty))

pub places_still : (dirty : List Bool) (tree : List ℕ) (k : ℕ) → ((m : ℕ) → get_or dirty m true ≡ false → get_or tree m 0 ≤ last_place) → (m : ℕ) → get_or (slice_set dirty k true) m true ≡ false → get_or tree m 0 ≤ last_place
places_still dirty tree k bounded m is = bounded m (unmarked dirty k m is).1

-- the same entries, places and marks
over_as : (i : Image) (a b : Mapped) → b.entries ≡ a.entries → b.tree ≡ a.tree → b.dirty ≡ a.dirty → IsOver i a → IsOver i b
over_as i a b es ts ds over = record {
  stored = over.stored;
  long = over.long ∙ ap (λ (l : List (Option Entry)). length l) (sym es);
  written = subst (λ (t : List ℕ). AreWritten over.stored t (length t) i) (sym ts) over.written;
  same = λ v un. ap (λ (l : List (Option Entry)). get_or l v None) es ∙ over.same v (ap (λ (l : List Bool). get_or l (v / 256) true) (sym ds) ∙ un);
  absent = λ k c un none lt. ap (λ (l : List (Option Entry)). get_or l (256 * k + c) None) es ∙ over.absent k c (ap (λ (l : List Bool). get_or l k true) (sym ds) ∙ un) (ap (λ (t : List ℕ). get_or t k 0) (sym ts) ∙ none) lt;
}

over_set : (i : Image) (map : Mapped) (v : ℕ) (entry : Option Entry) → IsOver i map → IsOver i (with_entry map v entry)
over_set i map v entry over = record {
  stored = over.stored;
  long = over.long ∙ sym (length-set map.entries v entry);
  written = over.written;
  same = λ w un.
      let apart = unmarked map.dirty (v / 256) (w / 256) un in
      get_or-set_other map.entries v w entry None (λ e. apart.0 (ap (λ (n : ℕ). n / 256) e)) ∙ over.same w apart.1;
  absent = λ k c un none lt.
      let apart = unmarked map.dirty (v / 256) k un in
      get_or-set_other map.entries v (256 * k + c) entry None (λ e. apart.0 (omega (arith, e, lt))) ∙ over.absent k c apart.1 none lt;
}

-- an entry that is set to what it is changes nothing
over_equal : (i : Image) (es : List (Option Entry)) (tree : List ℕ) (dirty : List Bool) (v : ℕ) (entry : Option Entry) → get_or es v None ≡ entry → IsOver i (map_of es tree dirty) → IsOver i (map_of (slice_set es v entry) tree dirty)
over_equal i es tree dirty v entry same over = record {
  stored = over.stored;
  long = over.long ∙ sym (length-set es v entry);
  written = over.written;
  same = λ w un. each w ∙ over.same w un;
  absent = λ k c un none lt. each (256 * k + c) ∙ over.absent k c un none lt;
}
  where
    each : (w : ℕ) → get_or (slice_set es v entry) w None ≡ get_or es w None
    each w = ⊎_elim
        (λ (e : w ≡ v). ⊎_elim
        (λ (inside : v < length es). ap (λ (n : ℕ). get_or (slice_set es v entry) n None) e ∙ get_or-set_same es v entry None inside ∙ sym same ∙ ap (λ (n : ℕ). get_or es n None) (sym e))
        (λ (past : length es ≤ v). get_or_past (slice_set es v entry) w None (omega (arith, past, e, length-set es v entry)) ∙ sym (get_or_past es w None (omega (arith, past, e))))
        (cases_lt v (length es)))
        (λ (ne : w ≢ v). get_or-set_other es v w entry None ne)
        (cases_eq w v)

-- one entry is set whose leaf is known
pub clean_put : (old new : Paged) (v : ℕ) (entry : Option Entry) → is_here old (v / 256) ≡ true → HasPut v entry old new → StaysClean old new
clean_put old new v entry loaded puts i clean = record {
  over = over_as i (map_of (slice_set old.map.entries v entry) old.map.tree (dirty_after puts.changed old.map.dirty v)) new.map puts.entries puts.tree puts.dirty (by_change puts.changed refl);
  here = λ k is. ap (λ (l : List Bool). get_or l k false) puts.sure ∙ clean.here k (ap (λ (l : List Bool). get_or l k false) (sym puts.here) ∙ is);
  known = λ k is. ap (λ (l : List Bool). get_or l k false) puts.sure ∙ clean.known k (ap (λ (l : List Bool). get_or l k false) (sym puts.known) ∙ is);
}
  where
    by_change : (changed : Bool) → puts.changed ≡ changed → IsOver i (map_of (slice_set old.map.entries v entry) old.map.tree (dirty_after changed old.map.dirty v))
    by_change true is = over_set i old.map v entry clean.over
    by_change false is = over_equal i old.map.entries old.map.tree old.map.dirty v entry (puts.same (clean.here (v / 256) loaded) is) (over_as i old.map (map_of old.map.entries old.map.tree old.map.dirty) refl refl refl clean.over)

-- and where its leaf is marked in any case
pub clean_entry : (paged : Paged) (v : ℕ) (entry : Option Entry) → StaysClean paged (record { map = with_entry paged.map v entry; here = paged.here; known = paged.known; sure = paged.sure })
clean_entry paged v entry i clean = record { over = over_set i paged.map v entry clean.over; here = clean.here; known = clean.known }

-- an entry is set once its leaf was loaded
pub clean_set : (disk : Shown) (old new : Paged) (v : ℕ) (entry : Option Entry) → HasSet disk v entry old new → IsTrue disk.tells → IsCleanOn disk.reads old → IsCleanOn disk.reads new
clean_set disk old new v entry set tells clean = clean_put set.loaded new v entry set.loads.here set.puts disk.reads (set.loads.clean tells clean)

pub clean_same : (paged : Paged) → StaysClean paged paged
clean_same paged i clean = clean

pub clean_then : (old mid new : Paged) → StaysClean old mid → StaysClean mid new → StaysClean old new
clean_then old mid new first second i clean = second i (first i clean)

-- where a whole row has one value
pub filled_with : (row : List Bool) (value : Bool) → ((m : ℕ) → m < length row → get_or row m true ≡ value) → (m : ℕ) → get_or row m true ≡ false → value ≡ false
filled_with row value all m is = ⊎_elim
    (λ (inside : m < length row). sym (all m inside) ∙ is)
    (λ (past : length row ≤ m). absurd (true≢false (sym (get_or_past row m true past) ∙ is)))
    (cases_lt m (length row))

pub both_so : (whole places : Bool) → not (whole && places) ≡ false → (whole ≡ true) × (places ≡ true)
both_so true true is = (refl, refl)
both_so true false is = absurd (true≢false is)
both_so false places is = absurd (true≢false is)

-- no value of a row
zero_at : (n m : ℕ) → ◌≡◌ {A = ℕ} (get_or (replicate n 0) m 0) 0
zero_at n m = ⊎_elim (λ (lt : m < n). get_or-replicate n m 0 0 lt) (λ (past : n ≤ m). get_or_past (replicate n 0) m 0 (omega (arith, past, length-replicate {A = ℕ} n 0))) (cases_lt m n)

pub none_at : (n v : ℕ) → ◌≡◌ {A = Option Entry} (get_or (replicate n None) v None) None
none_at n v = ⊎_elim (λ (lt : v < n). get_or-replicate n v None None lt) (λ (past : n ≤ v). get_or_past (replicate n None) v None (omega (arith, past, length-replicate {A = Option Entry} n None))) (cases_lt v n)

-- a new container is clean over each image
pub clean_none : (i : Image) (entries : ℕ) → IsCleanOn i (empty_paged entries)
clean_none i entries = record {
  over = record {
    stored = replicate entries None;
    long = refl;
    written = λ m within some. absurd (some (zero_at (node_count entries) m));
    same = λ v un. refl;
    absent = λ k c un none lt. none_at entries (256 * k + c);
  };
  here = λ k is. absurd (true≢false (sym is ∙ no_leaf k));
  known = λ k is. is;
}
  where
    no_leaf : (k : ℕ) → get_or (replicate (level_width entries 0) false) k false ≡ false
    no_leaf k = ⊎_elim
        (λ (lt : k < level_width entries 0). get_or-replicate (level_width entries 0) k false false lt)
        (λ (past : level_width entries 0 ≤ k). get_or_past (replicate (level_width entries 0) false) k false (omega (arith, past, length-replicate {A = Bool} (level_width entries 0) false)))
        (cases_lt k (level_width entries 0))

-- what is clean on the disk stands there
pub over_clean : (i : Image) (paged : Paged) → IsCleanOn i paged → IsOver i paged.map
over_clean i paged clean = clean.over

-- and so it does over another image with the same nodes
pub over_still : (i j : Image) (map : Mapped) → ((b : ℕ) → names map.tree b ≡ true → j b ≡ i b) → IsOver i map → IsOver j map
over_still i j map same over = record {
  stored = over.stored;
  long = over.long;
  written = λ m within some. subst (IsNodeOf over.stored map.tree m) (sym (same (get_or map.tree m 0) (named_at map.tree m (get_or map.tree m 0) within refl some))) (over.written m within some);
  same = over.same;
  absent = over.absent;
}

pub clean_still : (i j : Image) (paged : Paged) → ((b : ℕ) → names paged.map.tree b ≡ true → j b ≡ i b) → IsCleanOn i paged → IsCleanOn j paged
clean_still i j paged same clean = record { over = over_still i j paged.map same clean.over; here = clean.here; known = clean.known }

-- the map is as it was, and what came into memory is as it says
pub clean_kept : (i : Image) (old new : Paged) → new.map ≡ old.map → ((k : ℕ) → is_here new k ≡ true → is_sure new k ≡ true) → ((k : ℕ) → is_known new k ≡ true → is_sure new k ≡ true) → IsCleanOn i old → IsCleanOn i new
clean_kept i old new same here known clean = record { over = subst (IsOver i) (sym same) clean.over; here = here; known = known }

-- ---- each node has a place of its own

module _ (es : List (Option Entry)) (ps : List ℕ) (i : Image) (long : length ps ≡ node_count (length es)) (written : AreWritten es ps (length ps) i) where
  abbrev leaves : ℕ
  leaves = level_width (length es) 0

  abbrev inner : ℕ
  inner = level_width (length es) 1

  -- the number of a node by its level and its number there
  number_of : ℕ → ℕ → ℕ
  number_of zero n = n
  number_of (suc zero) n = leaves + n
  number_of (suc (suc level)) n = leaves + (inner + n)

  -- a node says its level and its number there
  record Says (m : ℕ) : Type 0 where
    level : ℕ
    number : ℕ
    verdict : node_verdict level number (i (get_or ps m 0)) ≡ Ok tt
    told : m ≡ number_of level number

  says : (m : ℕ) → m < length ps → get_or ps m 0 ≢ 0 → Says m
  unfolding number_of
  says m within some =
      let node = written m within some in
      ⊎_elim
      (λ (low : m < leaves). record { level = 0; number = m; verdict = leaf_whole es m (i (get_or ps m 0)) (node.leaf low); told = refl })
      (λ (past : leaves ≤ m). ⊎_elim
      (λ (mid : m < leaves + inner). record {
        level = 1;
        number = m - leaves;
        verdict = inner_whole ps 0 (m - leaves) (256 * (m - leaves)) leaves (i (get_or ps m 0)) (node.inner past mid);
        told = omega (arith, past);
      })
      (λ (above : leaves + inner ≤ m).
      let top : m ≡ leaves + inner = omega (arith, long, within, above) in
      record {
        level = 2;
        number = 0;
        verdict = inner_whole ps 1 0 leaves (leaves + inner) (i (get_or ps m 0)) (node.top top);
        told = omega (arith, top);
      })
      (cases_lt m (leaves + inner)))
      (cases_lt m leaves)

  within : (m : ℕ) → get_or ps m 0 ≢ 0 → m < length ps
  within m some = ⊎_elim (λ (is : m < length ps). is) (λ (past : length ps ≤ m). absurd (some (get_or_past ps m 0 past))) (cases_lt m (length ps))

  pub written_once : (m k : ℕ) → m ≢ k → get_or ps m 0 ≢ 0 → get_or ps m 0 ≢ get_or ps k 0
  written_once m k apart some same =
      let a = says m (within m some) some in
      let b = says k (within k (λ none. some (same ∙ none))) (λ none. some (same ∙ none)) in
      let one = one_position (i (get_or ps m 0)) a.level a.number b.level b.number a.verdict (subst (λ (p : ℕ). node_verdict b.level b.number (i p) ≡ Ok tt) (sym same) b.verdict) in
      apart (a.told ∙ ap (λ (l : ℕ). number_of l a.number) one.0 ∙ ap (number_of b.level) one.1 ∙ sym b.told)

pub over_alone : (i : Image) (map : Mapped) → IsMapped map → IsOver i map → AreAlone map
over_alone i map is over m k apart unmarked some =
    written_once over.stored map.tree i (is.tree ∙ ap node_count (sym over.long)) over.written m k apart some

pub clean_alone : (i : Image) (paged : Paged) → IsMapped paged.map → IsCleanOn i paged → AreAlone paged.map
clean_alone i paged is clean = over_alone i paged.map is clean.over
