-- The regions of a container part it: a count over all regions is a count over the container.
use Rattle.std.proofs.Common.{◌≡◌, ℕ, zero, suc, ◌+◌, ◌-◌, ◌*◌, ◌/◌, ◌<◌, ◌≤◌, min, Bool, true, false, cond, not, ◌&&◌, List, get_or, length, sum_by, refl, sym, ap, ap₂, ◌∙◌, ⊎_elim, add-zero, arith}
use Rattle.std.specs.Prelude.{◌==◌, nat_le, nat_lt, None}
use Rattle.std.specs.Int.{div_ceil, from_bool}
use Rattle.std.specs.List.{range_with_len}
use Rattle.std.specs.Option.{is_some}
use Rattle.std.proofs.lemmas.Bool.{cases_lt, true≢false}
use Rattle.std.proofs.lemmas.Bool.Decides.{nat_tests}
use Rattle.std.proofs.lemmas.List.{get_or_past}
use Rattle.std.proofs.lemmas.List.Sums.{sum_by-cons}
use Rattle.fv_bits.proofs.Counts.{passing, passing-add, passing-suc, passing_same}
use Rattle.fv_image.specs.Containers.{fan, level_width}
use Rattle.fv_image.proofs.Counts.{none_between, within_two}
use Rattle.fv_container.specs.Mapped.{Mapped}
use Rattle.fv_container.specs.Loading.{delayed_in_region, entries_in_region, has_entry_at}
use Rattle.fv_volmap.specs.Slots.{Volume, active_of}
use Rattle.fv_delay.specs.Delay.{HoldsAlone, delayed_in, delayed_of, is_delayed, is_held}

-- how many regions there are
pub regions_are : (entries : ℕ) → div_ceil entries 256 ≡ level_width entries 0
regions_are entries = omega arith

-- the region of an entry is one of them
pub region_within : (entries v : ℕ) → v < entries → v / fan < level_width entries 0
region_within entries v within = omega (arith, within)

-- and has it
pub region_has : (entries v : ℕ) → v < entries → fan * (v / 256) < entries
region_has entries v within = omega (arith, within)

-- where none of a row of numbers passes a test, each of them fails it
pub none_passes : (p : ℕ → Bool) (a n k : ℕ) → k < n → passing p a n ≡ 0 → p (a + k) ≡ false
none_passes p a n k lt none = so (p (a + k)) refl
  where
    rest : ℕ
    rest = n - k - 1

    parts : passing p a n ≡ passing p a k + passing p (a + k) (suc rest)
    parts = ap (passing p a) (let long : n ≡ k + suc rest = omega (arith, lt) in long) ∙ passing-add p a k (suc rest)

    so : (t : Bool) → p (a + k) ≡ t → t ≡ false
    so false e = refl
    so true e =
        let one : ◌≡◌ {A = ℕ} (cond (p (a + k)) 1 0) 1 = ap (λ (t : Bool). cond {A = ℕ} t 1 0) e in
        let step = passing-suc p (a + k) rest in
        absurd (omega (arith, parts, step, one, none))

-- behind the last entry none is delayed
pub none_past : (map : Volume) (container : Mapped) (v : ℕ) → length container.entries ≤ v → is_delayed map container v ≡ false
none_past map container v past = ap (λ entry. is_some entry && not (is_held map v)) (get_or_past container.entries v None past)

-- where no entry of a region is there, none is delayed
entry_there : (map : Volume) (container : Mapped) (v : ℕ) → cond {A = ℕ} (is_delayed map container v) 1 0 ≤ cond {A = ℕ} (has_entry_at container v) 1 0 + cond {A = ℕ} (has_entry_at container v) 1 0
entry_there map container v = each (has_entry_at container v) (is_held map v)
  where
    each : (a h : Bool) → cond {A = ℕ} (a && not h) 1 0 ≤ cond {A = ℕ} a 1 0 + cond {A = ℕ} a 1 0
    each true true = omega arith
    each true false = omega arith
    each false h = omega arith

none_of : (m n : ℕ) → m ≤ n + n → n ≡ 0 → m ≡ 0
none_of m n most none = omega (arith, most, none)

pub none_there : (map : Volume) (container : Mapped) (region : ℕ) → entries_in_region container region ≡ 0 → delayed_in map container region ≡ 0
unfolding delayed_in entries_in_region
none_there map container region none =
    let p : ℕ → Bool = is_delayed map container in
    let q : ℕ → Bool = has_entry_at container in
    none_of (passing p (fan * region) fan) (passing q (fan * region) fan) (within_two p q q (fan * region) fan (entry_there map container)) none

-- what is held besides isn't delayed
unmapped_there : (a h b : Bool) → (b ≡ true → h ≡ true) → cond {A = ℕ} (a && not h) 1 0 ≤ cond {A = ℕ} (a && not b) 1 0 + cond {A = ℕ} (a && not b) 1 0
unmapped_there false h b so = omega arith
unmapped_there true true b so = omega arith
unmapped_there true false false so = omega arith
unmapped_there true false true so = absurd (true≢false (sym (so refl)))

-- nor where each entry that is there has a VVBN that is a member of a map, whose members are held
pub none_unmapped : (map : Volume) (container : Mapped) (bits : List Bool) (region : ℕ) → ((v : ℕ) → get_or bits v false ≡ true → is_held map v ≡ true) → delayed_in_region container bits region ≡ 0 → delayed_in map container region ≡ 0
unfolding delayed_in delayed_in_region
none_unmapped map container bits region held none =
    let p : ℕ → Bool = is_delayed map container in
    let q : ℕ → Bool = λ v. has_entry_at container v && not (get_or bits v false) in
    none_of (passing p (fan * region) fan) (passing q (fan * region) fan) (within_two p q q (fan * region) fan (λ v. unmapped_there (has_entry_at container v) (is_held map v) (get_or bits v false) (held v))) none

-- where a region's numbers are held just where the active map has them, the delayed entries are those whose numbers that map lacks
pub as_unmapped : (map : Volume) (container : Mapped) (region : ℕ) → HoldsAlone map region → delayed_in_region container (active_of map) region ≡ delayed_in map container region
unfolding delayed_in delayed_in_region
as_unmapped map container region alone = passing_same (λ v. has_entry_at container v && not (get_or (active_of map) v false)) (is_delayed map container) (fan * region) (fan * region) fan
    (λ j lt. ap (λ (h : Bool). has_entry_at container (fan * region + j) && not h) (sym (alone (fan * region + j) (omega arith) (omega (arith, lt)))))

-- nor in a region behind the last entry
pub none_behind : (map : Volume) (container : Mapped) (region : ℕ) → length container.entries ≤ fan * region → delayed_in map container region ≡ 0
unfolding delayed_in
none_behind map container region past = none_between (is_delayed map container) (fan * region) fan (λ k low high. none_past map container k (omega (arith, past, low)))

-- one number more
pub count_more : (p : ℕ → Bool) (first v : ℕ) → first ≤ v → passing p first ((v + 1) - first) ≡ passing p first (v - first) + cond (p v) 1 0
count_more p first v from =
    let longer : (v + 1) - first ≡ (v - first) + 1 = omega (arith, from) in
    let at : first + (v - first) ≡ v = omega (arith, from) in
    let one : passing p v 1 ≡ cond (p v) 1 0 = passing-suc p v 0 ∙ add-zero (cond (p v) 1 0) in
    ap (passing p first) longer ∙ passing-add p first (v - first) 1 ∙ ap (λ (n : ℕ). passing p first (v - first) + passing p n 1) at ∙ ap (λ (n : ℕ). passing p first (v - first) + n) one

-- where a region begins and ends among the entries
starts_past : (entries region first end : ℕ) → first ≡ min (fan * region) entries → end ≡ first + min (entries - first) fan → entries < fan * region → end - first ≡ 0
starts_past entries region first end start stop past = omega arith

starts_at : (entries region first : ℕ) → first ≡ min (fan * region) entries → fan * region ≤ entries → first ≡ fan * region
starts_at entries region first start le = omega arith

sizes : (entries first end : ℕ) → end ≡ first + min (entries - first) fan → (end - first) + (fan - (end - first)) ≡ fan
sizes entries first end stop = omega arith

behind_end : (entries first end k : ℕ) → end ≡ first + min (entries - first) fan → first + (end - first) ≤ k → k < (first + (end - first)) + (fan - (end - first)) → entries ≤ k
behind_end entries first end k stop low high = omega arith

-- a count that ends at the last entry is one over the whole region
pub region_passing : (p : ℕ → Bool) (region entries first end : ℕ) → ((v : ℕ) → entries ≤ v → p v ≡ false) → first ≡ min (fan * region) entries → end ≡ first + min (entries - first) fan
    → passing p first (end - first) ≡ passing p (fan * region) fan
region_passing p region entries first end none start stop = ⊎_elim inside outside (cases_lt entries (fan * region))
  where
    inside : entries < fan * region → passing p first (end - first) ≡ passing p (fan * region) fan
    inside past =
        ap (passing p first) (starts_past entries region first end start stop past)
        ∙ sym (none_between p (fan * region) fan (λ k low high. none k (le_trans entries (fan * region) k past low)))
      where
        le_trans : (a b k : ℕ) → a < b → b ≤ k → a ≤ k
        le_trans a b k lt le = omega arith

    outside : fan * region ≤ entries → passing p first (end - first) ≡ passing p (fan * region) fan
    outside le =
        let n : ℕ = end - first in
        let rest : passing p (first + n) (fan - n) ≡ 0 = none_between p (first + n) (fan - n) (λ k low high. none k (behind_end entries first end k stop low high)) in
        sym (add-zero (passing p first n))
        ∙ ap (λ (k : ℕ). passing p first n + k) (sym rest)
        ∙ sym (passing-add p first n (fan - n))
        ∙ ap (passing p first) (sizes entries first end stop)
        ∙ ap (λ (k : ℕ). passing p k fan) (starts_at entries region first start le)

-- the VVBNs of a region that have entries are those from its first one up to its end
pub in_region : (region entries first end v : ℕ) → first ≡ min (fan * region) entries → end ≡ first + min (entries - first) fan → v < entries → (nat_le first v && nat_lt v end) ≡ (v / fan == region)
in_region region entries first end v start stop within = ⊎_elim before after (cases_lt v first)
  where
    tests : (s t u : Bool) → nat_le first v ≡ s → nat_lt v end ≡ t → (v / fan == region) ≡ u → (s && t) ≡ u → (nat_le first v && nat_lt v end) ≡ (v / fan == region)
    tests s t u a b c same = ap₂ (λ (x y : Bool). x && y) a b ∙ same ∙ sym c

    before : v < first → (nat_le first v && nat_lt v end) ≡ (v / fan == region)
    before lt =
        let low : nat_le first v ≡ false = grind (arith, nat_tests, lt) in
        let other : v / fan < region = omega (arith, start, lt) in
        let test : (v / fan == region) ≡ false = grind (arith, nat_tests, other) in
        tests false (nat_lt v end) false low refl test refl

    after : first ≤ v → (nat_le first v && nat_lt v end) ≡ (v / fan == region)
    after le = ⊎_elim here past (cases_lt v end)
      where
        reached : nat_le first v ≡ true
        reached = grind (arith, nat_tests, le)

        from : first ≡ fan * region
        from = omega (arith, start, le, within)

        here : v < end → (nat_le first v && nat_lt v end) ≡ (v / fan == region)
        here lt =
            let high : nat_lt v end ≡ true = grind (arith, nat_tests, lt) in
            let same : v / fan ≡ region = omega (arith, from, le, lt, stop) in
            let test : (v / fan == region) ≡ true = grind (arith, nat_tests, same) in
            tests true true true reached high test refl

        past : end ≤ v → (nat_le first v && nat_lt v end) ≡ (v / fan == region)
        past ge =
            let high : nat_lt v end ≡ false = grind (arith, nat_tests, ge) in
            let other : region < v / fan = omega (arith, from, ge, stop, within) in
            let test : (v / fan == region) ≡ false = grind (arith, nat_tests, other) in
            tests true false false reached high test refl

-- ---- steps of a loop over a region

pub byte_is : (t : Bool) → from_bool t ≡ cond t 1 0
byte_is true = refl
byte_is false = refl

pub byte_most : (t : Bool) → from_bool t ≤ 1
byte_most true = omega arith
byte_most false = omega arith

pub the_end : (entries first end v : ℕ) → end ≡ first + min (entries - first) fan → (first ≤ end → v ≤ end) → end ≤ v → v ≡ end
the_end entries first end v stop most least = let le : v ≤ end = most (omega (arith, stop)) in omega (arith, le, least)

pub end_within : (entries start first end v : ℕ) → first ≡ min start entries → end ≡ first + min (entries - first) fan → v < end → v < entries
end_within entries start first end v from to lt = omega arith

-- Once a walk over a region is at its end, what it counted is what the region has.
pub region_walked : (p : ℕ → Bool) (region known entries first end v count : ℕ) → known ≡ entries → ((n : ℕ) → entries ≤ n → p n ≡ false) → first ≡ min (fan * region) known → end ≡ first + min (known - first) fan
    → (first ≤ end → v ≤ end) → end ≤ v → count ≡ passing p first (v - first) → count ≡ passing p (fan * region) fan
region_walked p region known entries first end v count long none start stop most least counted =
    let stops : end ≡ first + min (entries - first) fan = stop ∙ ap (λ (n : ℕ). first + min (n - first) fan) long in
    counted ∙ ap (λ (n : ℕ). passing p first (n - first)) (the_end entries first end v stops most least)
    ∙ region_passing p region entries first end none (start ∙ ap (λ (n : ℕ). min (fan * region) n) long) stops

-- A number between the first VVBN of a region and its end is one of the region, which has an entry then.
pub inside_region : (entries region first end v : ℕ) → first ≡ min (fan * region) entries → end ≡ first + min (entries - first) fan → first ≤ v → v < end → (v / 256 ≡ region) × (fan * region < entries)
inside_region entries region first end v start stop low high =
    let some : fan * region < entries = omega (arith, start, stop, low, high) in
    let from : first ≡ fan * region = omega (arith, start, some) in
    (omega (arith, from, stop, low, high), some)

-- ---- all regions

regions_passing : (p : ℕ → Bool) (from count : ℕ) → sum_by (λ r. passing p (fan * r) fan) (range_with_len from count) ≡ passing p (fan * from) (fan * count)
regions_passing p from zero = refl
regions_passing p from (suc count) =
    sum_by-cons (λ r. passing p (fan * r) fan) from (range_with_len (from + 1) count)
    ∙ ap (λ (n : ℕ). passing p (fan * from) fan + n) (regions_passing p (from + 1) count ∙ ap (λ (n : ℕ). passing p n (fan * count)) (next from))
    ∙ sym (ap (passing p (fan * from)) (size count) ∙ passing-add p (fan * from) fan (fan * count))
  where
    next : (n : ℕ) → fan * (n + 1) ≡ fan * n + fan
    next n = omega arith

    size : (n : ℕ) → fan * suc n ≡ fan + fan * n
    size n = omega arith

covered : (entries : ℕ) → entries + (fan * level_width entries 0 - entries) ≡ fan * level_width entries 0
covered entries = omega arith

-- The counts of all regions sum to the count of the whole container, for each test that no number behind the entries passes.
pub regions_sum : (p : ℕ → Bool) (entries : ℕ) → ((v : ℕ) → entries ≤ v → p v ≡ false) → sum_by (λ r. passing p (fan * r) fan) (range_with_len 0 (level_width entries 0)) ≡ passing p 0 entries
regions_sum p entries none =
    let width : ℕ = level_width entries 0 in
    let rest : passing p (0 + entries) (fan * width - entries) ≡ 0 = none_between p (0 + entries) (fan * width - entries) (λ k low high. none k (from entries k low)) in
    regions_passing p 0 width
    ∙ sym (ap (passing p 0) (covered entries))
    ∙ passing-add p 0 entries (fan * width - entries)
    ∙ ap (λ (n : ℕ). passing p 0 entries + n) rest
    ∙ add-zero (passing p 0 entries)
  where
    from : (entries k : ℕ) → 0 + entries ≤ k → entries ≤ k
    from entries k le = omega arith

-- So the delayed entries of all regions are those of the container.
pub delayed_sum : (map : Volume) (container : Mapped) → sum_by (delayed_in map container) (range_with_len 0 (level_width (length container.entries) 0)) ≡ delayed_of map container
unfolding delayed_in delayed_of
delayed_sum map container = regions_sum (is_delayed map container) (length container.entries) (none_past map container)
