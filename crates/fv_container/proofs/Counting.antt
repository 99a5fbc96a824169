-- Counts of numbers of a range that pass a test.
use Rattle.std.proofs.Common.{◌≡◌, ℕ, ◌+◌, ◌-◌, ◌*◌, ◌/◌, ◌%◌, ◌<◌, min, Bool, true, false, not, ◌&&◌, List, length, get_or, ap, sym, ◌∙◌, arith, Option, None}
use Rattle.std.specs.Prelude.{count_by}
use Rattle.std.proofs.lemmas.List.{get_or_past}
use Rattle.std.specs.Option.{is_some}
use Rattle.std.specs.List.{range_with_len}
use Rattle.fv_bits.proofs.Counts.{passing-add, passing_same}
use Rattle.fv_container.specs.declared.entry.Entry.{Entry}
use Rattle.fv_container.specs.Mapped.{Mapped}
use Rattle.fv_bits.specs.Members.{apart_between, count_between, is_member}
use Rattle.fv_image.proofs.Counts.{none_between}
use Rattle.fv_container.specs.Kept.{IsKept, map_of, paged_of}
use Rattle.fv_container.specs.Paged.{Leaves, Paged, is_right, is_sure, leaf_here}
use Rattle.fv_container.specs.Loading.{delayed_in_region, entries_in_region, has_entry_at}
use Rattle.fv_container.proofs.Tests.{right_at, told_at}

-- right bits count the entries of a region
pub right_count : (map : Mapped) (used held : List Bool) (k : ℕ) → is_right map.entries k used ≡ true
    → count_by (λ v. get_or used v false && not (get_or held v false)) (range_with_len (256 * k) 256) ≡ delayed_in_region map held k
unfolding delayed_in_region
right_count map used held k right = passing_same (λ v. get_or used v false && not (get_or held v false)) (λ v. has_entry_at map v && not (get_or held v false)) (256 * k) (256 * k) 256 (λ c lt. ap (λ (b : Bool). b && not (get_or held (256 * k + c) false)) (right_at map.entries k used right c lt))

pub right_entries : (map : Mapped) (used : List Bool) (k : ℕ) → is_right map.entries k used ≡ true → count_by (λ v. get_or used v false) (range_with_len (256 * k) 256) ≡ entries_in_region map k
unfolding entries_in_region
right_entries map used k right = passing_same (λ v. get_or used v false) (has_entry_at map) (256 * k) (256 * k) 256 (λ c lt. right_at map.entries k used right c lt)

-- Behind the end of a map none is a member, so a count that ends there is one of 256 numbers.
pub members_from : (used : List Bool) (from r : ℕ) → from < length used → r ≡ count_between used from (min (from + 256) (length used)) → r ≡ count_by (λ v. get_or used v false) (range_with_len from 256)
unfolding count_between is_member
members_from used from r within counted =
    let n : ℕ = min (from + 256) (length used) - from in
    let whole : n + (256 - n) ≡ 256 = omega (arith, within) in
    let rest : count_by (λ v. get_or used v false) (range_with_len (from + n) (256 - n)) ≡ 0 = none_between (λ v. get_or used v false) (from + n) (256 - n) (λ k low high. get_or_past used k false (omega (arith, within, low, high))) in
    let more : count_by (λ v. get_or used v false) (range_with_len from n) + 0 ≡ count_by (λ v. get_or used v false) (range_with_len from n) = omega arith in
    counted ∙ sym more
    ∙ ap (λ (m : ℕ). count_by (λ v. get_or used v false) (range_with_len from n) + m) (sym rest)
    ∙ sym (passing-add (λ v. get_or used v false) from n (256 - n))
    ∙ ap (λ (m : ℕ). count_by (λ v. get_or used v false) (range_with_len from m)) whole

-- ---- as calls on a container say it

pub delayed_out : (now : Paged) (es : List (Option Entry)) (tree : List ℕ) (dirty : List Bool) (leaves : Leaves) (known sure used : List Bool) (next fresh : List ℕ) (count : ℕ) (held : List Bool) (k r : ℕ)
    → paged_of es tree dirty leaves known sure ≡ now → IsKept (paged_of es tree dirty leaves known sure) count leaves used next fresh → is_sure now k ≡ true
    → r ≡ apart_between used held (256 * k) (256 * k + 256) → r ≡ delayed_in_region now.map held k
unfolding apart_between is_member
delayed_out now es tree dirty leaves known sure used next fresh count held k r view is sured counted =
    let size : (256 * k + 256) - 256 * k ≡ 256 = omega arith in
    counted ∙ ap (λ (n : ℕ). count_by (λ v. get_or used v false && not (get_or held v false)) (range_with_len (256 * k) n)) size
    ∙ right_count (map_of es tree dirty) used held k (told_at es k (get_or sure k false) (leaf_here leaves k) used (ap (λ (p : Paged). is_sure p k) view ∙ sured) (is.told k)).1
    ∙ ap (λ (p : Paged). delayed_in_region p.map held k) view

pub has_out : (now : Paged) (es : List (Option Entry)) (tree : List ℕ) (dirty : List Bool) (leaves : Leaves) (known sure used : List Bool) (next fresh : List ℕ) (count v : ℕ) (r : Bool)
    → paged_of es tree dirty leaves known sure ≡ now → IsKept (paged_of es tree dirty leaves known sure) count leaves used next fresh → is_sure now (v / 256) ≡ true → r ≡ is_member used v → r ≡ has_entry_at now.map v
unfolding is_member
has_out now es tree dirty leaves known sure used next fresh count v r view is sured read =
    let at : 256 * (v / 256) + v % 256 ≡ v = omega arith in
    read ∙ ap (λ (w : ℕ). get_or used w false) (sym at)
    ∙ right_at es (v / 256) used (told_at es (v / 256) (get_or sure (v / 256) false) (leaf_here leaves (v / 256)) used (ap (λ (p : Paged). is_sure p (v / 256)) view ∙ sured) (is.told (v / 256))).1 (v % 256) (omega arith)
    ∙ ap (λ (w : ℕ). is_some (get_or es w None)) at
    ∙ ap (λ (p : Paged). has_entry_at p.map v) view

pub entries_out : (now : Paged) (es : List (Option Entry)) (tree : List ℕ) (dirty : List Bool) (leaves : Leaves) (known sure used : List Bool) (next fresh : List ℕ) (count k r : ℕ)
    → paged_of es tree dirty leaves known sure ≡ now → IsKept (paged_of es tree dirty leaves known sure) count leaves used next fresh → is_sure now k ≡ true
    → r ≡ count_by (λ v. get_or used v false) (range_with_len (256 * k) 256) → r ≡ entries_in_region now.map k
entries_out now es tree dirty leaves known sure used next fresh count k r view is sured counted =
    counted
    ∙ right_entries (map_of es tree dirty) used k (told_at es k (get_or sure k false) (leaf_here leaves k) used (ap (λ (p : Paged). is_sure p k) view ∙ sured) (is.told k)).1
    ∙ ap (λ (p : Paged). entries_in_region p.map k) view
