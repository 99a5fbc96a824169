-- What roots reach together, and a set with room for another span.
use Rattle.std.proofs.Common.{◌≡◌, ℕ, ◌+◌, ◌<◌, ◌≤◌, Bool, true, false, cond, List, [], ◌∷◌, length, get_or, set, take, map, refl, sym, ap, subst, ◌∙◌, arith, ⊎_elim}
use Rattle.std.proofs.Math.Bool.{or-false}
use Rattle.std.specs.Prelude.{Option, Some, None, IfSome, not, ◌&&◌, ◌||◌, ◌==◌, if◌then◌else◌}
use Rattle.std.proofs.lemmas.Bool.{cases_lt}
use Rattle.std.proofs.lemmas.Bool.Decides.{nat_tests}
use Rattle.std.proofs.lemmas.List.{take_more, map-append}
use Rattle.std.proofs.lemmas.List.Folds.{list_any-append}
use Rattle.fv_bits.specs.Members.{IsUnion, is_member}
use Rattle.fv_bits.proofs.Laws.{is_member-set, is_member_past}
use Rattle.fv_codec.specs.declared.label.Label.{Label}
use Rattle.fv_laws.proofs.Lists.{in_map}
use Rattle.fv_image.specs.Views.{Rooted}
use Rattle.fv_second_pass.specs.declared.reached.Reached.{Reached}
use Rattle.fv_third_pass.specs.declared.roots.MapRoot.{MapRoot}
use Rattle.fv_third_pass.specs.Volumes.{reach_at, root_of}
use Rattle.fv_third_pass.proofs.OwnTables.{in_at}
use Rattle.fv_fourth_pass.specs.Silent.{AreWide, HasLow, any_of, left_of}
use Rattle.fv_fourth_pass.specs.Used.{is_out}

-- ---- one root

pub united_none : (o : Option (List Bool)) (old : List Bool) → o ≡ None → (v : ℕ) → is_member old v ≡ (is_member old v || is_out o v)
united_none o old none v = sym (ap (λ (q : Option (List Bool)). is_member old v || is_out q v) none ∙ or-false (is_member old v))

pub united_some : (o : Option (List Bool)) (one old new : List Bool) → o ≡ Some one → IsUnion new old one → (v : ℕ) → is_member new v ≡ (is_member old v || is_out o v)
united_some o one old new is union v = union.members v ∙ sym (ap (λ (q : Option (List Bool)). is_member old v || is_out q v) is)

pub wide_of : (o : Option (List Bool)) (one : List Bool) (n : ℕ) → o ≡ Some one → IfSome o (λ set. length set ≡ n) → length one ≡ n
wide_of o one n is wide = subst (λ (q : Option (List Bool)). IfSome q (λ set. length set ≡ n)) is wide

-- ---- several

module _ (reached : Reached) (s : ℕ) (rs : List MapRoot) (k : ℕ) (d : MapRoot) (low : k < length rs) where
  pub wide_at : (span : ℕ) → AreWide reached s span (map root_of rs) → IfSome (reach_at reached s (get_or rs k d).slot) (λ set. length set ≡ span)
  wide_at span wide = wide (root_of (get_or rs k d)) (in_map root_of (get_or rs k d) rs (in_at rs k d low))

  pub any_next : (v : ℕ) → any_of reached s (map root_of (take (k + 1) rs)) v ≡ (any_of reached s (map root_of (take k rs)) v || is_out (reach_at reached s (get_or rs k d).slot) v)
  any_next v =
      ap (λ (qs : List (ℕ × Rooted)). any_of reached s qs v) (ap (map root_of) (take_more rs k d low) ∙ map-append root_of (take k rs) (get_or rs k d ∷ []))
      ∙ list_any-append (λ (r : ℕ × Rooted). is_out (reach_at reached s r.0) v) (map root_of (take k rs)) (root_of (get_or rs k d) ∷ [])
      ∙ ap (λ b. any_of reached s (map root_of (take k rs)) v || b) (or-false (is_out (reach_at reached s (get_or rs k d).slot) v))

  -- the sets of one more
  pub next_held : (span : ℕ) (old new : List Bool) → length old ≡ span → AreWide reached s span (map root_of rs)
      → (IfSome (reach_at reached s (get_or rs k d).slot) (λ set. length set ≡ length old) → (v : ℕ) → is_member new v ≡ (is_member old v || is_out (reach_at reached s (get_or rs k d).slot) v))
      → ((v : ℕ) → is_member old v ≡ any_of reached s (map root_of (take k rs)) v) → (v : ℕ) → is_member new v ≡ any_of reached s (map root_of (take (k + 1) rs)) v
  next_held span old new size wide adds has v =
      adds (subst (λ n. IfSome (reach_at reached s (get_or rs k d).slot) (λ set. length set ≡ n)) (sym size) (wide_at span wide)) v
      ∙ ap (λ b. b || is_out (reach_at reached s (get_or rs k d).slot) v) (has v)
      ∙ sym (any_next v)

-- ---- a copy

pub low_none : (from copy : List Bool) → ((v : ℕ) → is_member copy v ≡ false) → HasLow from copy 0
low_none from copy empty = record { low = λ v low. absurd (omega (arith, low)); rest = λ v past. empty v }

module _ (from old : List Bool) (n : ℕ) (has : HasLow from old n) where
  pub low_left : is_member from n ≡ false → HasLow from old (n + 1)
  low_left none = record {
    low = λ v low. ⊎_elim
        (λ (below : v < n). has.low v below)
        (λ (past : n ≤ v). has.rest v past ∙ sym none ∙ ap (is_member from) (let e : n ≡ v = omega (arith, low, past) in e))
        (cases_lt v n);
    rest = λ v past. has.rest v (omega (arith, past));
  }

  pub low_more : (new : List Bool) → n < length old → is_member from n ≡ true → new ≡ set old n true → HasLow from new (n + 1)
  low_more new inside one put = record {
    low = λ v low. is v ∙ ⊎_elim
        (λ (below : v < n). let apart : (v == n) ≡ false = grind (arith, nat_tests, below) in ap (λ b. cond b true (is_member old v)) apart ∙ has.low v below)
        (λ (past : n ≤ v). let e : v ≡ n = omega (arith, low, past) in let test : (v == n) ≡ true = grind (arith, nat_tests, e) in ap (λ b. cond b true (is_member old v)) test ∙ sym one ∙ ap (is_member from) (sym e))
        (cases_lt v n);
    rest = λ v past. let apart : (v == n) ≡ false = grind (arith, nat_tests, past) in is v ∙ ap (λ b. cond b true (is_member old v)) apart ∙ has.rest v (omega (arith, past));
  }
    where
      is : (v : ℕ) → is_member new v ≡ cond (v == n) true (is_member old v)
      is v = ap (λ (bits : List Bool). is_member bits v) put ∙ is_member-set old n true v inside

  pub low_all : length from ≤ n → (v : ℕ) → is_member old v ≡ is_member from v
  low_all long v = ⊎_elim
      (λ (below : v < n). has.low v below)
      (λ (past : n ≤ v). has.rest v past ∙ sym (is_member_past from v (omega (arith, past, long))))
      (cases_lt v n)

-- ---- what isn't charged

pub left_told : (l : Label) (base told : Option (List Bool)) → ((v : ℕ) → is_out base v ≡ is_out told v) → (v : ℕ) → is_out (left_of l base) v ≡ (not (l.splitting == 1) && is_out told v)
left_told l base told same v = so (l.splitting == 1)
  where
    so : (b : Bool) → is_out (if b then None else base) v ≡ (not b && is_out told v)
    so true = refl
    so false = same v
