-- What is left of the delayed entries of a volume of which some regions were reclaimed.
use Rattle.std.proofs.Common.{◌≡◌, ℕ, zero, suc, ◌+◌, ◌*◌, ◌<◌, ◌≤◌, Bool, true, false, cond, not, ◌&&◌, length, refl, sym, ap, ◌∙◌, arith}
use Rattle.std.specs.Prelude.{count_by}
use Rattle.std.specs.List.{range_with_len}
use Rattle.std.specs.Option.{is_some}
use Rattle.fv_bits.proofs.Counts.{passing, passing-suc, passing_same}
use Rattle.fv_image.specs.Containers.{fan}
use Rattle.fv_image.proofs.Counts.{none_between}
use Rattle.fv_aggmap.specs.Space.{Space}
use Rattle.fv_container.specs.Mapped.{Mapped, entry_under}
use Rattle.fv_container.specs.Paged.{Paged}
use Rattle.fv_volmap.specs.Slots.{Volume}
use Rattle.fv_delay.specs.Delay.{delayed_in, delayed_of, is_delayed, is_held, region_of}
use Rattle.fv_delay.specs.Holding.{Holding, IsLeft, held_by}
use Rattle.fv_delay.specs.Reclaims.{HasReclaimed, goes_with}
use Rattle.fv_delay.proofs.Reclaimed.{delayed_now}

-- a reclaim leaves a volume so
pub left_by : (map : Volume) (regions : ℕ → Bool) (space left : Space) (old new : Paged) → HasReclaimed map regions old space new left → IsLeft regions (held_by map old.map) (held_by map new.map)
left_by map regions space left old new has = record { long = has.entries.long; delayed = delayed_now map regions old new has.entries }

-- it is left so still where only entries change whose VVBNs are held, as those of a map's blocks are
pub left_still : (regions : ℕ → Bool) (x : Holding) (map : Volume) (mid new : Mapped) → IsLeft regions x (record { map = map; container = mid }) → length new.entries ≡ length mid.entries
    → ((v : ℕ) → is_held map v ≡ false → entry_under new v ≡ entry_under mid v) → IsLeft regions x (record { map = map; container = new })
left_still regions x map mid new is long others = record { long = long ∙ is.long; delayed = λ v. so v (is_held map v) refl ∙ is.delayed v }
  where
    never : (t : Bool) → (t && not true) ≡ false
    never true = refl
    never false = refl

    so : (v : ℕ) (t : Bool) → is_held map v ≡ t → is_delayed map new v ≡ is_delayed map mid v
    so v true held =
        ap (λ (t : Bool). is_some (entry_under new v) && not t) held ∙ never (is_some (entry_under new v))
        ∙ sym (ap (λ (t : Bool). is_some (entry_under mid v) && not t) held ∙ never (is_some (entry_under mid v)))
    so v false free = ap (λ entry. is_some entry && not (is_held map v)) (others v free)

module _ (regions : ℕ → Bool) (old new : Holding) (is : IsLeft regions old new) where
  -- each region has what it had, or nothing where it was reclaimed
  pub region_left : (r : ℕ) → delayed_in new.map new.container r ≡ cond (regions r) 0 (delayed_in old.map old.container r)
  unfolding delayed_in
  region_left r = so (regions r) refl
    where
      at : (v : ℕ) → fan * r ≤ v → v < fan * r + fan → region_of v ≡ r
      at v low high = omega (arith, low, high)

      so : (t : Bool) → regions r ≡ t → passing (is_delayed new.map new.container) (fan * r) fan ≡ cond t 0 (passing (is_delayed old.map old.container) (fan * r) fan)
      so true on = none_between (is_delayed new.map new.container) (fan * r) fan (λ v low high.
          is.delayed v ∙ ap (λ (k : ℕ). is_delayed old.map old.container v && not (regions k)) (at v low high) ∙ ap (λ (t : Bool). is_delayed old.map old.container v && not t) on ∙ never (is_delayed old.map old.container v))
        where
          never : (t : Bool) → (t && false) ≡ false
          never true = refl
          never false = refl
      so false off = passing_same (is_delayed new.map new.container) (is_delayed old.map old.container) (fan * r) (fan * r) fan (λ j lt.
          let v = fan * r + j in
          is.delayed v ∙ ap (λ (k : ℕ). is_delayed old.map old.container v && not (regions k)) (at v (omega arith) (omega (arith, lt))) ∙ ap (λ (t : Bool). is_delayed old.map old.container v && not t) off
          ∙ always (is_delayed old.map old.container v))
        where
          always : (t : Bool) → (t && true) ≡ t
          always true = refl
          always false = refl

  -- so a region that was reclaimed has no delayed entry any more,
  pub none_left : (r : ℕ) → regions r ≡ true → delayed_in new.map new.container r ≡ 0
  none_left r on = region_left r ∙ ap (λ (t : Bool). cond t 0 (delayed_in old.map old.container r)) on

  -- another has as many as before,
  pub others_left : (r : ℕ) → regions r ≡ false → delayed_in new.map new.container r ≡ delayed_in old.map old.container r
  others_left r off = region_left r ∙ ap (λ (t : Bool). cond t 0 (delayed_in old.map old.container r)) off

  -- and none has more.
  pub fewer_left : (r : ℕ) → delayed_in new.map new.container r ≤ delayed_in old.map old.container r
  fewer_left r = so (regions r) (region_left r)
    where
      so : (t : Bool) → delayed_in new.map new.container r ≡ cond t 0 (delayed_in old.map old.container r) → delayed_in new.map new.container r ≤ delayed_in old.map old.container r
      so true is = omega (arith, is)
      so false is = omega (arith, is)

  -- what is left and what was given back is what was delayed
  pub volume_left : delayed_of new.map new.container + count_by (goes_with old.map old.container regions) (range_with_len 0 (length old.container.entries)) ≡ delayed_of old.map old.container
  unfolding delayed_of
  volume_left = ap (λ (n : ℕ). passing (is_delayed new.map new.container) 0 n + passing (goes_with old.map old.container regions) 0 (length old.container.entries)) is.long
      ∙ parts 0 (length old.container.entries)
    where
      one : (d t : Bool) → cond {A = ℕ} (d && not t) 1 0 + cond (d && t) 1 0 ≡ cond d 1 0
      one true true = refl
      one true false = refl
      one false t = refl

      at : (v : ℕ) → cond {A = ℕ} (is_delayed new.map new.container v) 1 0 + cond (goes_with old.map old.container regions v) 1 0 ≡ cond (is_delayed old.map old.container v) 1 0
      at v = ap (λ (t : Bool). cond {A = ℕ} t 1 0 + cond (goes_with old.map old.container regions v) 1 0) (is.delayed v) ∙ one (is_delayed old.map old.container v) (regions (region_of v))

      parts : (from count : ℕ) → passing (is_delayed new.map new.container) from count + passing (goes_with old.map old.container regions) from count ≡ passing (is_delayed old.map old.container) from count
      parts from zero = refl
      parts from (suc count) = omega (
        arith,
        passing-suc (is_delayed new.map new.container) from count,
        passing-suc (goes_with old.map old.container regions) from count,
        passing-suc (is_delayed old.map old.container) from count,
        at from,
        parts (from + 1) count,
      )
