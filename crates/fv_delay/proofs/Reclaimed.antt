-- What a reclaim leaves, and several of them.
use Rattle.std.proofs.Common.{◌≡◌, ◌≢◌, ℕ, ◌+◌, ◌-◌, ◌*◌, ◌/◌, ◌<◌, ◌≤◌, min, Bool, true, false, not, ◌&&◌, ◌||◌, ◌==◌, length, refl, sym, ap, ap₂, subst, ◌∙◌, ⊎_elim, arith, length-set, List, get_or}
use Rattle.std.specs.Prelude.{Option, None, slice_set, nat_le, nat_lt, if◌then◌else◌}
use Rattle.std.specs.List.{list_any, range_with_len}
use Rattle.std.specs.Option.{is_some}
use Rattle.std.proofs.lemmas.Bool.{cases_eq, cases_lt}
use Rattle.std.proofs.lemmas.Bool.Decides.{nat_tests}
use Rattle.std.proofs.lemmas.List.{get_or-set_same, get_or-set_other}
use Rattle.fv_image.specs.Containers.{fan, level_width}
use Rattle.fv_aggmap.specs.Space.{Space}
use Rattle.fv_aggmap.proofs.Giving.{given_none, given_same, given_then}
use Rattle.fv_container.specs.declared.entry.Entry.{Entry}
use Rattle.fv_container.specs.Leading.{place_at, place_in}
use Rattle.fv_container.specs.Mapped.{entry_under}
use Rattle.fv_container.specs.Paged.{Paged, is_here}
use Rattle.fv_container.specs.Loading.{HasPut}
use Rattle.fv_container.specs.Spelled.{is_at}
use Rattle.fv_container.proofs.Clean.{clean_put, clean_same, clean_then}
use Rattle.fv_container.proofs.Leading.{any_either, any_none, any_same, lead_part}
use Rattle.fv_volmap.specs.Slots.{Volume}
use Rattle.fv_delay.specs.Delay.{is_delayed, is_held, region_of}
use Rattle.fv_delay.specs.Reclaims.{HasEmptied, HasGiven, HasGivenSome, HasReclaimed, HasStayed, goes_with, lead_to}
use Rattle.fv_delay.proofs.Giving.{given_more}
use Rattle.fv_delay.proofs.Parts.{in_region, none_past, region_within}

-- ---- the entries, one after another

-- those that go from a first VVBN up to another
abbrev pub between : (ℕ → Bool) → ℕ → ℕ → ℕ → Bool
between p first end v = p v && (nat_le first v && nat_lt v end)

and_false : (t : Bool) → (t && false) ≡ false
and_false true = refl
and_false false = refl

and_true : (t : Bool) → (t && true) ≡ t
and_true true = refl
and_true false = refl

-- an entry behind those that went is as it was
pub still_there : (p : ℕ → Bool) (old mid : Paged) (first v : ℕ) → HasEmptied old (between p first v) mid → entry_under mid.map v ≡ entry_under old.map v
still_there p old mid first v is =
    let none : nat_lt v v ≡ false = grind (arith, nat_tests) in
    let test : between p first v v ≡ false = ap (λ t. p v && (nat_le first v && t)) none ∙ ap (λ t. p v && t) (and_false (nat_le first v)) ∙ and_false (p v) in
    is.entries v ∙ ap (λ (t : Bool). if t then None else entry_under old.map v) test

pub emptied_more : (p : ℕ → Bool) (old mid new : Paged) (first v : ℕ) → first ≤ v → v < length mid.map.entries → is_here mid (v / 256) ≡ true → HasEmptied old (between p first v) mid
    → (p v ≡ false → new ≡ mid) → (p v ≡ true → HasPut v None mid new) → HasEmptied old (between p first (v + 1)) new
emptied_more p old mid new first v from within loaded is same hole = so (p v) refl
  where
    -- at another VVBN the test is what it was
    other : (k : ℕ) → k ≢ v → between p first (v + 1) k ≡ between p first v k
    other k ne = let e : nat_lt k (v + 1) ≡ nat_lt k v = grind (arith, nat_tests, ne) in ap (λ t. p k && (nat_le first k && t)) e

    here : between p first (v + 1) v ≡ p v
    here =
        let low : nat_le first v ≡ true = grind (arith, nat_tests, from) in
        let high : nat_lt v (v + 1) ≡ true = grind (arith, nat_tests) in
        ap₂ (λ (s t : Bool). p v && (s && t)) low high ∙ and_true (p v)

    left : p v ≡ false → HasEmptied old (between p first (v + 1)) mid
    left off = record {
      entries = λ k. ⊎_elim
          (λ (e : k ≡ v). subst (λ (n : ℕ). entry_under mid.map n ≡ (if between p first (v + 1) n then None else entry_under old.map n)) (sym e)
          (still_there p old mid first v is ∙ sym (ap (λ (t : Bool). if t then None else entry_under old.map v) (here ∙ off))))
          (λ (ne : k ≢ v). is.entries k ∙ sym (ap (λ (t : Bool). if t then None else entry_under old.map k) (other k ne)))
          (cases_eq k v);
      long = is.long;
      tree = is.tree;
      clean = is.clean;
    }

    gone : p v ≡ true → HasPut v None mid new → HasEmptied old (between p first (v + 1)) new
    gone on puts = record {
      entries = λ k. ap (λ (l : List (Option Entry)). get_or l k None) puts.entries ∙ ⊎_elim
          (λ (e : k ≡ v). subst (λ (n : ℕ). get_or (slice_set mid.map.entries v None) n None ≡ (if between p first (v + 1) n then None else entry_under old.map n)) (sym e)
          (get_or-set_same mid.map.entries v None None within ∙ sym (ap (λ (t : Bool). if t then None else entry_under old.map v) (here ∙ on))))
          (λ (ne : k ≢ v). get_or-set_other mid.map.entries v k None None ne ∙ is.entries k ∙ sym (ap (λ (t : Bool). if t then None else entry_under old.map k) (other k ne)))
          (cases_eq k v);
      long = ap (λ (l : List (Option Entry)). length l) puts.entries ∙ length-set mid.map.entries v None ∙ is.long;
      tree = puts.tree ∙ is.tree;
      clean = clean_then old mid new is.clean (clean_put mid new v None loaded puts);
    }

    so : (t : Bool) → p v ≡ t → HasEmptied old (between p first (v + 1)) new
    so true e = gone e (hole e)
    so false e = subst (HasEmptied old (between p first (v + 1))) (sym (same e)) (left e)

-- The entries from a first VVBN up to another that pass a test are holes, and the blocks to which they led are given back.
pub record HasWalked (p : ℕ → Bool) (old : Paged) (first v : ℕ) (space : Space) (new : Paged) (left : Space) : Type 0 where
  pub entries : HasEmptied old (between p first v) new
  pub blocks : HasGiven space (lead_to old.map p first (v - first)) left

-- one entry more
pub walked_more : (p : ℕ → Bool) (old mid new : Paged) (first v : ℕ) (space meanwhile left : Space) → first ≤ v → v < length mid.map.entries → is_here mid (v / 256) ≡ true → HasWalked p old first v space mid meanwhile
    → (p v ≡ false → (new ≡ mid) × (left ≡ meanwhile)) → (p v ≡ true → HasPut v None mid new) → (p v ≡ true → HasGiven meanwhile (λ b. is_at b (place_at mid.map v)) left) → HasWalked p old first (v + 1) space new left
walked_more p old mid new first v space meanwhile left from within loaded was same hole given = record {
  entries = emptied_more p old mid new first v from within loaded was.entries (λ off. (same off).0) hole;
  blocks = given_more old.map p first v space meanwhile left from was.blocks (λ off. (same off).1)
      (λ is. subst (λ (entry : Option Entry). HasGiven meanwhile (λ b. is_at b (place_in entry)) left) (still_there p old mid first v was.entries) (given is));
}

-- no entry yet
pub walked_none : (p : ℕ → Bool) (old : Paged) (first : ℕ) (space : Space) → HasWalked p old first first space old space
walked_none p old first space = record {
  entries = record {
    entries = λ v. sym (ap (λ (t : Bool). if t then None else entry_under old.map v) (none v));
    long = refl;
    tree = refl;
    clean = clean_same old;
  };
  blocks = given_none space (lead_to old.map p first (first - first)) (λ b. any_none (λ v. p v && is_at b (place_at old.map v)) first (first - first) (λ v low high. absurd (omega (arith, low, high))));
}
  where
    never : (s t : Bool) → (s && t) ≡ false → (u : Bool) → (u && (s && t)) ≡ false
    never s t off u = ap (λ (x : Bool). u && x) off ∙ and_false u

    apart : (v : ℕ) → (nat_le first v && nat_lt v first) ≡ false
    apart v = ⊎_elim
        (λ (lt : v < first). let low : nat_le first v ≡ false = grind (arith, nat_tests, lt) in ap (λ (t : Bool). t && nat_lt v first) low)
        (λ (le : first ≤ v). let high : nat_lt v first ≡ false = grind (arith, nat_tests, le) in ap (λ (t : Bool). nat_le first v && t) high ∙ and_false (nat_le first v))
        (cases_lt v first)

    none : (v : ℕ) → between p first first v ≡ false
    none v = never (nat_le first v) (nat_lt v first) (apart v) (p v)

-- ---- whatever the leaves in memory say

pub stayed_same : (paged : Paged) → HasStayed paged paged
stayed_same paged = record { long = refl; tree = refl; here = refl; known = refl; sure = refl; clean = clean_same paged }

pub stayed_then : (old mid new : Paged) → HasStayed old mid → HasStayed mid new → HasStayed old new
stayed_then old mid new first second = record {
  long = second.long ∙ first.long;
  tree = second.tree ∙ first.tree;
  here = second.here ∙ first.here;
  known = second.known ∙ first.known;
  sure = second.sure ∙ first.sure;
  clean = clean_then old mid new first.clean second.clean;
}

pub stayed_put : (old new : Paged) (v : ℕ) → is_here old (v / 256) ≡ true → HasPut v None old new → HasStayed old new
stayed_put old new v loaded puts = record {
  long = ap (λ (l : List (Option Entry)). length l) puts.entries ∙ length-set old.map.entries v None;
  tree = puts.tree;
  here = puts.here;
  known = puts.known;
  sure = puts.sure;
  clean = clean_put old new v None loaded puts;
}

pub some_none : (space : Space) → HasGivenSome space space
some_none space = record { blocks = λ b. false; given = given_none space (λ b. false) (λ b. refl) }

pub some_then : (old mid new : Space) → HasGivenSome old mid → HasGivenSome mid new → HasGivenSome old new
some_then old mid new first second = record {
  blocks = λ b. first.blocks b || second.blocks b;
  given = given_then old mid new first.blocks second.blocks (λ b. first.blocks b || second.blocks b) (λ b. refl) first.given second.given;
}

-- one entry is a hole, or nothing changed
pub stayed_one : (old new : Paged) (space left : Space) (v : ℕ) (went : Bool) → is_here old (v / 256) ≡ true → (went ≡ false → (new ≡ old) × (left ≡ space)) → (went ≡ true → HasPut v None old new) → HasStayed old new
stayed_one old new space left v true loaded same hole = stayed_put old new v loaded (hole refl)
stayed_one old new space left v false loaded same hole = subst (λ (p : Paged). HasStayed old p) (sym (same refl).0) (stayed_same old)

pub some_one : (old new : Paged) (space left : Space) (went : Bool) → (went ≡ false → (new ≡ old) × (left ≡ space)) → (went ≡ true → HasGivenSome space left) → HasGivenSome space left
some_one old new space left true same gave = gave refl
some_one old new space left false same gave = subst (λ (s : Space). HasGivenSome space s) (sym (same refl).1) (some_none space)

-- ---- a region

module _ (map : Volume) (old : Paged) (region first end : ℕ) (start : first ≡ min (fan * region) (length old.map.entries)) (stop : end ≡ first + min (length old.map.entries - first) fan) where
  -- what goes between the first VVBN of a region and its end is what goes with the region
  region_goes : (v : ℕ) → goes_with map old.map (λ r. r == region) v ≡ between (is_delayed map old.map) first end v
  region_goes v = ⊎_elim
      (λ (within : v < length old.map.entries). ap (λ t. is_delayed map old.map v && t) (sym (in_region region (length old.map.entries) first end v start stop within)))
      (λ (past : length old.map.entries ≤ v). ap (λ t. t && (region_of v == region)) (none_past map old.map v past) ∙ sym (ap (λ t. t && (nat_le first v && nat_lt v end)) (none_past map old.map v past)))
      (cases_lt v (length old.map.entries))

  pub region_reclaimed : (new : Paged) (space left : Space) → HasEmptied old (between (is_delayed map old.map) first end) new
      → HasGiven space (lead_to old.map (is_delayed map old.map) first (end - first)) left → HasReclaimed map (λ r. r == region) old space new left
  region_reclaimed new space left emptied given = record {
    entries = record {
      entries = λ v. emptied.entries v ∙ sym (ap (λ (t : Bool). if t then None else entry_under old.map v) (region_goes v));
      long = emptied.long;
      tree = emptied.tree;
      clean = emptied.clean;
    };
    blocks = given_same space left (lead_to old.map (is_delayed map old.map) first (end - first)) (lead_to old.map (goes_with map old.map (λ r. r == region)) 0 (length old.map.entries))
        (λ b. lead_part old.map (is_delayed map old.map) (goes_with map old.map (λ r. r == region)) first end (length old.map.entries) b (omega (arith, stop)) (omega (arith, start, stop)) inside before after) given;
  }
    where
      inside : (v : ℕ) → first ≤ v → v < end → goes_with map old.map (λ r. r == region) v ≡ is_delayed map old.map v
      inside v low high =
          let from : nat_le first v ≡ true = grind (arith, nat_tests, low) in
          let to : nat_lt v end ≡ true = grind (arith, nat_tests, high) in
          region_goes v ∙ ap₂ (λ (s t : Bool). is_delayed map old.map v && (s && t)) from to ∙ and_true (is_delayed map old.map v)

      before : (v : ℕ) → v < length old.map.entries → v < first → goes_with map old.map (λ r. r == region) v ≡ false
      before v within low =
          let from : nat_le first v ≡ false = grind (arith, nat_tests, low) in
          region_goes v ∙ ap (λ t. is_delayed map old.map v && (t && nat_lt v end)) from ∙ and_false (is_delayed map old.map v)

      after : (v : ℕ) → v < length old.map.entries → end ≤ v → goes_with map old.map (λ r. r == region) v ≡ false
      after v within high =
          let to : nat_lt v end ≡ false = grind (arith, nat_tests, high) in
          region_goes v ∙ ap (λ t. is_delayed map old.map v && (nat_le first v && t)) to ∙ ap (λ t. is_delayed map old.map v && t) (and_false (nat_le first v)) ∙ and_false (is_delayed map old.map v)

-- ---- what holds afterwards

module _ (map : Volume) (regions : ℕ → Bool) (old new : Paged) (has : HasEmptied old (goes_with map old.map regions) new) where
  -- an entry that didn't go stays
  pub others_stay : (v : ℕ) → goes_with map old.map regions v ≡ false → entry_under new.map v ≡ entry_under old.map v
  others_stay v stays = has.entries v ∙ ap (λ (t : Bool). if t then None else entry_under old.map v) stays

  -- an entry whose VVBN is held stays
  pub held_stays : (v : ℕ) → is_held map v ≡ true → entry_under new.map v ≡ entry_under old.map v
  held_stays v held = others_stay v (ap (λ (t : Bool). (is_some (entry_under old.map v) && not t) && regions (region_of v)) held ∙ ap (λ t. t && regions (region_of v)) (and_false (is_some (entry_under old.map v))))

  -- an entry of a region that wasn't reclaimed stays
  pub region_stays : (v : ℕ) → regions (region_of v) ≡ false → entry_under new.map v ≡ entry_under old.map v
  region_stays v off = others_stay v (ap (λ t. is_delayed map old.map v && t) off ∙ and_false (is_delayed map old.map v))

  -- an entry that is delayed now was so before, and its region wasn't reclaimed
  pub delayed_now : (v : ℕ) → is_delayed map new.map v ≡ (is_delayed map old.map v && not (regions (region_of v)))
  delayed_now v = ap (λ entry. is_some entry && not (is_held map v)) (has.entries v) ∙ so (is_delayed map old.map v) (regions (region_of v)) refl refl
    where
      so : (s t : Bool) → is_delayed map old.map v ≡ s → regions (region_of v) ≡ t
          → (is_some (if is_delayed map old.map v && regions (region_of v) then None else entry_under old.map v) && not (is_held map v)) ≡ (is_delayed map old.map v && not (regions (region_of v)))
      so true true e f =
          ap₂ (λ (s t : Bool). is_some (if s && t then None else entry_under old.map v) && not (is_held map v)) e f ∙ sym (ap₂ (λ (s t : Bool). s && not t) e f)
      so true false e f =
          ap₂ (λ (s t : Bool). is_some (if s && t then None else entry_under old.map v) && not (is_held map v)) e f ∙ e ∙ sym (ap₂ (λ (s t : Bool). s && not t) e f)
      so false t e f =
          ap (λ (k : Bool). is_some (if k && regions (region_of v) then None else entry_under old.map v) && not (is_held map v)) e ∙ e ∙ sym (ap (λ (k : Bool). k && not (regions (region_of v))) e)

-- the same of other regions, where the same entries go with them
pub reclaimed_going : (map : Volume) (f g : ℕ → Bool) (old new : Paged) (space left : Space) → ((v : ℕ) → goes_with map old.map g v ≡ goes_with map old.map f v) → HasReclaimed map f old space new left → HasReclaimed map g old space new left
reclaimed_going map f g old new space left goes has = record {
  entries = record {
    entries = λ v. has.entries.entries v ∙ sym (ap (λ (t : Bool). if t then None else entry_under old.map v) (goes v));
    long = has.entries.long;
    tree = has.entries.tree;
    clean = has.entries.clean;
  };
  blocks = given_same space left (lead_to old.map (goes_with map old.map f) 0 (length old.map.entries)) (lead_to old.map (goes_with map old.map g) 0 (length old.map.entries))
      (λ b. any_same (λ v. goes_with map old.map g v && is_at b (place_at old.map v)) (λ v. goes_with map old.map f v && is_at b (place_at old.map v)) 0 (length old.map.entries) (λ v low high. ap (λ (t : Bool). t && is_at b (place_at old.map v)) (goes v))) has.blocks;
}

-- so it is where they agree on those of the container
pub reclaimed_same : (map : Volume) (f g : ℕ → Bool) (old new : Paged) (space left : Space) → ((r : ℕ) → r < level_width (length old.map.entries) 0 → g r ≡ f r) → HasReclaimed map f old space new left → HasReclaimed map g old space new left
reclaimed_same map f g old new space left same has = reclaimed_going map f g old new space left goes has
  where
    goes : (v : ℕ) → goes_with map old.map g v ≡ goes_with map old.map f v
    goes v = ⊎_elim
        (λ (within : v < length old.map.entries). ap (λ t. is_delayed map old.map v && t) (same (region_of v) (region_within (length old.map.entries) v within)))
        (λ (past : length old.map.entries ≤ v). ap (λ t. t && g (region_of v)) (none_past map old.map v past) ∙ sym (ap (λ t. t && f (region_of v)) (none_past map old.map v past)))
        (cases_lt v (length old.map.entries))

-- ---- several regions

-- no region was reclaimed
pub reclaimed_none : (map : Volume) (container : Paged) (space : Space) → HasReclaimed map (λ r. false) container space container space
reclaimed_none map container space = record {
  entries = record {
    entries = λ v. sym (ap (λ (t : Bool). if t then None else entry_under container.map v) (and_false (is_delayed map container.map v)));
    long = refl;
    tree = refl;
    clean = clean_same container;
  };
  blocks = given_none space (lead_to container.map (goes_with map container.map (λ r. false)) 0 (length container.map.entries)) (λ b. any_none (λ v. goes_with map container.map (λ r. false) v && is_at b (place_at container.map v)) 0 (length container.map.entries) (λ v low high.
      ap (λ t. t && is_at b (place_at container.map v)) (and_false (is_delayed map container.map v))));
}

-- One reclaim and then another make one of both.
pub reclaimed_then : (map : Volume) (f g both : ℕ → Bool) → ((r : ℕ) → both r ≡ (f r || g r)) → (old mid new : Paged) (space between left : Space)
    → HasReclaimed map f old space mid between → HasReclaimed map g mid between new left → HasReclaimed map both old space new left
reclaimed_then map f g both same old mid new space between left first second = record {
  entries = record {
    entries = λ v. second.entries.entries v ∙ ap (λ (t : Bool). if t then None else entry_under mid.map v) (goes_then v) ∙ ap (λ entry. if goes_later v then None else entry) (first.entries.entries v)
        ∙ twice (goes_with map old.map f v) (goes_later v) (entry_under old.map v) ∙ sym (ap (λ (t : Bool). if t then None else entry_under old.map v) (goes_both v));
    long = second.entries.long ∙ first.entries.long;
    tree = second.entries.tree ∙ first.entries.tree;
    clean = clean_then old mid new first.entries.clean second.entries.clean;
  };
  blocks = given_then space between left (lead_to old.map (goes_with map old.map f) 0 (length old.map.entries)) (lead_to mid.map (goes_with map mid.map g) 0 (length mid.map.entries)) (lead_to old.map (goes_with map old.map both) 0 (length old.map.entries))
      (λ b. any_either (λ v. goes_with map old.map f v && is_at b (place_at old.map v)) (λ v. goes_later v && is_at b (place_at old.map v)) (λ v. goes_with map old.map both v && is_at b (place_at old.map v)) 0 (length old.map.entries)
      (λ v. ap (λ (t : Bool). t && is_at b (place_at old.map v)) (goes_both v) ∙ shared (goes_with map old.map f v) (goes_later v) (is_at b (place_at old.map v)))
      ∙ ap (λ (t : Bool). lead_to old.map (goes_with map old.map f) 0 (length old.map.entries) b || t) (later_leads b)) first.blocks second.blocks;
}
  where
    -- what goes with the second
    goes_later : ℕ → Bool
    goes_later v = (is_delayed map old.map v && not (f (region_of v))) && g (region_of v)

    goes_then : (v : ℕ) → goes_with map mid.map g v ≡ goes_later v
    goes_then v = ap (λ t. t && g (region_of v)) (delayed_now map f old mid first.entries v)

    goes_both : (v : ℕ) → goes_with map old.map both v ≡ (goes_with map old.map f v || goes_later v)
    goes_both v = ap (λ t. is_delayed map old.map v && t) (same (region_of v)) ∙ split (is_delayed map old.map v) (f (region_of v)) (g (region_of v))
      where
        split : (d s t : Bool) → (d && (s || t)) ≡ ((d && s) || ((d && not s) && t))
        split true true t = refl
        split true false t = refl
        split false s t = refl

    twice : {X : Type 0} (s t : Bool) (x : Option X) → (if t then None else (if s then None else x)) ≡ (if s || t then None else x)
    twice true true x = refl
    twice true false x = refl
    twice false true x = refl
    twice false false x = refl

    shared : (s t l : Bool) → ((s || t) && l) ≡ ((s && l) || (t && l))
    shared true true true = refl
    shared true true false = refl
    shared true false true = refl
    shared true false false = refl
    shared false t l = refl

    later_leads : (b : ℕ) → list_any (λ v. goes_later v && is_at b (place_at old.map v)) (range_with_len 0 (length old.map.entries)) ≡ lead_to mid.map (goes_with map mid.map g) 0 (length mid.map.entries) b
    later_leads b =
        any_same (λ v. goes_later v && is_at b (place_at old.map v)) (λ v. goes_with map mid.map g v && is_at b (place_at mid.map v)) 0 (length old.map.entries) (λ v low high. here v (f (region_of v)) refl)
        ∙ ap (λ (n : ℕ). list_any (λ v. goes_with map mid.map g v && is_at b (place_at mid.map v)) (range_with_len 0 n)) (sym first.entries.long)
      where
        never : (d t l m : Bool) → (((d && not true) && t) && l) ≡ (((d && not true) && t) && m)
        never true t l m = refl
        never false t l m = refl

        here : (v : ℕ) (t : Bool) → f (region_of v) ≡ t → (goes_later v && is_at b (place_at old.map v)) ≡ (goes_with map mid.map g v && is_at b (place_at mid.map v))
        here v true e =
            ap (λ (t : Bool). ((is_delayed map old.map v && not t) && g (region_of v)) && is_at b (place_at old.map v)) e
            ∙ never (is_delayed map old.map v) (g (region_of v)) (is_at b (place_at old.map v)) (is_at b (place_at mid.map v))
            ∙ ap (λ (t : Bool). ((is_delayed map old.map v && not t) && g (region_of v)) && is_at b (place_at mid.map v)) (sym e)
            ∙ ap (λ (t : Bool). t && is_at b (place_at mid.map v)) (sym (goes_then v))
        here v false e =
            ap (λ entry. goes_later v && is_at b (place_in entry)) (sym (region_stays map f old mid first.entries v e))
            ∙ ap (λ (t : Bool). t && is_at b (place_at mid.map v)) (sym (goes_then v))
