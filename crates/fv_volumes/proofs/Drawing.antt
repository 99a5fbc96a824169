-- Blocks that are given back and blocks that are taken, one after another.
use Rattle.std.proofs.Common.{◌≡◌, ◌≢◌, ℕ, zero, suc, ◌+◌, ◌<◌, ◌≤◌, List, length, Bool, true, false, ◌&&◌, ◌||◌, ◌==◌, cond, refl, sym, ap, ◌∙◌, arith, ⊎_elim, Option, Some, None}
use Rattle.std.specs.Prelude.{slice_set, IfSome, IfNone, IsSome}
use Rattle.std.specs.List.{list_any, range_with_len}
use Rattle.std.proofs.lemmas.Bool.{cases_eq, or_cases, or_left, or_right, true≢false}
use Rattle.std.proofs.Math.Bool.{or_assoc, or_comm}
use Rattle.std.proofs.lemmas.Bool.Decides.{nat_tests}
use Rattle.fv_bits.specs.Members.{is_member}
use Rattle.fv_bits.proofs.Laws.{is_member-set}
use Rattle.fv_container.specs.Mapped.{Mapped}
use Rattle.fv_container.specs.Spelled.{is_at}
use Rattle.fv_model.specs.Machines.{first_block}
use Rattle.fv_aggmap.specs.Space.{Space, IsFree, IsFull, blocks_of, free_blocks}
pub use Rattle.fv_aggmap.proofs.Giving.{given_none, given_same, given_then, not_so}
pub use Rattle.fv_container.proofs.Named.{at_itself, at_means, at_none}
pub use Rattle.fv_container.proofs.Leading.{or_false}
use Rattle.fv_container.proofs.Leading.{any_more, any_none, any_same, lead_at, lead_where}
use Rattle.fv_aggmap.proofs.Room.{one_is_found, one_less}
use Rattle.fv_volume.specs.declared.state.VolumeState.{VolumeState}
use Rattle.fv_volume.specs.Writing.{HasDrawn, HasGiven, has_maps_at}
use Rattle.fv_volume.specs.Stored.{is_map_written, leads, place_at}
use Rattle.fv_volume.proofs.StayingMaps.{written_low}

-- ---- tests

pub or_neither : (a b : Bool) → (a || b) ≡ false → (a ≡ false) × (b ≡ false)
or_neither false b is = (refl, is)
or_neither true b is = absurd (true≢false is)

-- ---- what entries lead to

pub maps_more : (x : VolumeState) (old new : Mapped) (n b : ℕ) → ((v : ℕ) → v < n → place_at new v ≡ place_at old v) → has_maps_at x new (n + 1) b ≡ (has_maps_at x old n b || (is_map_written x n && is_at b (place_at new n)))
unfolding has_maps_at
maps_more x old new n b same =
    let first : 0 + n ≡ n = omega arith in
    (any_more (λ v. is_map_written x v && is_at b (place_at new v)) 0 n
    ∙ ap (λ (t : Bool). t || (is_map_written x (0 + n) && is_at b (place_at new (0 + n)))) (any_same (λ v. is_map_written x v && is_at b (place_at new v)) (λ v. is_map_written x v && is_at b (place_at old v)) 0 n (λ v low high. ap (λ (p : ℕ). is_map_written x v && is_at b p) (same v (omega (arith, high)))))
    ∙ ap (λ (k : ℕ). list_any (λ v. is_map_written x v && is_at b (place_at old v)) (range_with_len 0 n) || (is_map_written x k && is_at b (place_at new k))) first)

pub maps_same : (x : VolumeState) (old new : Mapped) (n b : ℕ) → ((v : ℕ) → place_at new v ≡ place_at old v) → has_maps_at x new n b ≡ has_maps_at x old n b
unfolding has_maps_at
maps_same x old new n b same = any_same (λ v. is_map_written x v && is_at b (place_at new v)) (λ v. is_map_written x v && is_at b (place_at old v)) 0 n (λ v low high. ap (λ (p : ℕ). is_map_written x v && is_at b p) (same v))

-- of the blocks of maps, none stands anywhere yet
pub maps_none : (x : VolumeState) (map : Mapped) (b : ℕ) → has_maps_at x map x.span b ≡ false
unfolding has_maps_at
maps_none x map b = any_none (λ v. is_map_written x v && is_at b (place_at map v)) 0 x.span (λ v low high. ap (λ (t : Bool). t && is_at b (place_at map v)) (written_low x v (omega (arith, high))))

-- a block of a map that is written stands on the block
pub record StandsAt (x : VolumeState) (map : Mapped) (n b : ℕ) : Type 0 where
  pub vvbn : ℕ
  pub within : vvbn < n
  pub on : is_map_written x vvbn ≡ true
  pub place : place_at map vvbn ≡ b
  pub some : b ≢ 0

pub maps_where : (x : VolumeState) (map : Mapped) (n b : ℕ) → has_maps_at x map n b ≡ true → StandsAt x map n b
unfolding has_maps_at
maps_where x map n b is = let at = lead_where map (is_map_written x) 0 n b is in record { vvbn = at.vvbn; within = omega (arith, at.within); on = at.on; place = at.place; some = at.some }

pub maps_at : (x : VolumeState) (map : Mapped) (n v b : ℕ) → v < n → is_map_written x v ≡ true → place_at map v ≡ b → b ≢ 0 → has_maps_at x map n b ≡ true
unfolding has_maps_at
maps_at x map n v b within on is some = lead_at map (is_map_written x) 0 n v b (omega arith) (omega (arith, within)) on is some

pub leads_none : (map : Mapped) (b : ℕ) → leads map 0 b ≡ false
unfolding leads
leads_none map b = refl

pub leads_more : (map : Mapped) (n b : ℕ) → leads map (n + 1) b ≡ (leads map n b || is_at b (place_at map n))
unfolding leads
leads_more map n b =
    let first : 0 + n ≡ n = omega arith in
    (any_more (λ v. is_at b (place_at map v)) 0 n ∙ ap (λ (k : ℕ). list_any (λ v. is_at b (place_at map v)) (range_with_len 0 n) || is_at b (place_at map k)) first)

-- an entry leads to the block
pub record LeadsAt (map : Mapped) (n b : ℕ) : Type 0 where
  pub vvbn : ℕ
  pub within : vvbn < n
  pub place : place_at map vvbn ≡ b
  pub some : b ≢ 0

pub leads_where : (map : Mapped) (n b : ℕ) → leads map n b ≡ true → LeadsAt map n b
leads_where map zero b is = absurd (true≢false (sym is ∙ leads_none map b))
leads_where map (suc n) b is =
    let e : n + 1 ≡ suc n = omega arith in
    ⊎_elim
    (λ (before : leads map n b ≡ true). let at = leads_where map n b before in record { vvbn = at.vvbn; within = omega (arith, at.within); place = at.place; some = at.some })
    (λ (here : is_at b (place_at map n) ≡ true). let means = at_means b (place_at map n) here in record { vvbn = n; within = omega arith; place = means.0; some = means.1 })
    (or_cases (leads map n b) (is_at b (place_at map n)) (sym (leads_more map n b) ∙ ap (λ (k : ℕ). leads map k b) e ∙ is))

pub leads_at : (map : Mapped) (n v b : ℕ) → v < n → place_at map v ≡ b → b ≢ 0 → leads map n b ≡ true
leads_at map zero v b within is some = absurd (omega (arith, within))
leads_at map (suc n) v b within is some =
    let e : n + 1 ≡ suc n = omega arith in
    ap (λ (k : ℕ). leads map k b) (sym e) ∙ leads_more map n b ∙ ⊎_elim
    (λ (here : v ≡ n). or_right (leads map n b) (is_at b (place_at map n)) (ap (is_at b) (ap (place_at map) (sym here) ∙ is) ∙ at_itself b some))
    (λ (before : v ≢ n). or_left (leads map n b) (is_at b (place_at map n)) (leads_at map n v b (omega (arith, within, before)) is some))
    (cases_eq v n)

-- ---- giving back

-- one VVBN more: its block stays, or it is one of a map that is written, and given back
pub maps_given : (x : VolumeState) (map : Mapped) (n : ℕ) (old mid new : Space) → HasGiven old (has_maps_at x map n) mid → (is_map_written x n ≡ false → new ≡ mid) → (is_map_written x n ≡ true → HasGiven mid (λ b. is_at b (place_at map n)) new)
    → HasGiven old (has_maps_at x map (n + 1)) new
maps_given x map n old mid new before same gave = so (is_map_written x n) refl
  where
    more : (t : Bool) → is_map_written x n ≡ t → (b : ℕ) → has_maps_at x map (n + 1) b ≡ (has_maps_at x map n b || (t && is_at b (place_at map n)))
    more t e b = maps_more x map map n b (λ v lt. refl) ∙ ap (λ (s : Bool). has_maps_at x map n b || (s && is_at b (place_at map n))) e

    so : (t : Bool) → is_map_written x n ≡ t → HasGiven old (has_maps_at x map (n + 1)) new
    so true e = given_then old mid new (has_maps_at x map n) (λ b. is_at b (place_at map n)) (has_maps_at x map (n + 1)) (more true e) before (gave e)
    so false e = rw (same e) (given_same old mid (has_maps_at x map n) (has_maps_at x map (n + 1)) (λ b. more false e b ∙ or_false (has_maps_at x map n b)) before)

-- ---- taking

pub drawn_none : (space : Space) (taken : ℕ → Bool) → ((b : ℕ) → taken b ≡ false) → HasDrawn space taken 0 space
drawn_none space taken none = record {
  committed = refl;
  free = λ b is. absurd (true≢false (sym is ∙ none b));
  held = λ b. sym (ap (λ t. t || is_member space.next b) (none b));
  fewer = omega arith;
}

pub drawn_one : (old new : Space) (place : ℕ) → length old.next ≡ blocks_of old → place ≢ 0 → IsFree old place → new ≡ record old { next = slice_set old.next place true } → HasDrawn old (λ b. is_at b place) 1 new
drawn_one old new place long some free is = record {
  committed = ap (λ (s : Space). s.committed) is;
  free = λ b at. let same : place ≡ b = (at_means b place at).0 in rw (← same) free;
  held = λ b.
      let inside : place < length old.next = omega (arith, long, free.within) in
      ap (λ (s : Space). is_member s.next b) is ∙ is_member-set old.next place true b inside ∙ by_test b;
  fewer = one_less old new place long free is;
}
  where
    here : (b : ℕ) → (b == place) ≡ is_at b place
    here b = grind (arith, nat_tests, some)

    step : (t m : Bool) → cond t true m ≡ (t || m)
    step true m = refl
    step false m = refl

    by_test : (b : ℕ) → cond (b == place) true (is_member old.next b) ≡ (is_at b place || is_member old.next b)
    by_test b = step (b == place) (is_member old.next b) ∙ ap (λ t. t || is_member old.next b) (here b)

-- a map with a free block answers one
pub some_there : (space : Space) (r : Option ℕ) → 0 < free_blocks space → IfNone r (IsFull space) → IsSome r
some_there space None some full = absurd (one_is_found space some full)
some_there space (Some b) some full = refl

pub drawn_taken : (old new : Space) (r : Option ℕ) (place : ℕ) → r ≡ Some place → length old.next ≡ blocks_of old → IfSome r (IsFree old) → IfSome r (λ b. new ≡ record old { next = slice_set old.next b true }) → HasDrawn old (λ b. is_at b place) 1 new
drawn_taken old new (Some b) place is long free taken =
    let same : b ≡ place = some_same is in
    let at : IsFree old place = rw (← same) free in
    drawn_one old new place long (λ none. omega (arith, at.after, none)) at (taken ∙ ap (λ (k : ℕ). record old { next = slice_set old.next k true }) same)
  where
    some_same : {x y : ℕ} → Some x ≡ Some y → x ≡ y
    some_same e = cc
drawn_taken old new None place is long free taken = absurd cc

-- what isn't held after some were taken wasn't held before
pub free_before : (old mid : Space) (taken : ℕ → Bool) (count b : ℕ) → HasDrawn old taken count mid → IsFree mid b → IsFree old b × (taken b ≡ false)
free_before old mid taken count b drawn free =
    let len : blocks_of mid ≡ blocks_of old = ap length drawn.committed in
    let none = or_neither (is_member mid.committed b) (is_member mid.next b) free.free in
    let next = or_neither (taken b) (is_member old.next b) (sym (drawn.held b) ∙ none.1) in (
      record {
        after = ap_le len free.after;
        within = omega (arith, len, free.within);
        free = both (is_member old.committed b) (is_member old.next b) (ap (λ (c : List Bool). is_member c b) (sym drawn.committed) ∙ none.0) next.1;
      },
      next.0,
    )
  where
    ap_le : {m n : ℕ} → m ≡ n → first_block m ≤ b → first_block n ≤ b
    ap_le e le = rw (← e) le

    both : (c n : Bool) → c ≡ false → n ≡ false → (c || n) ≡ false
    both c n one two = rw (one, two) refl

pub drawn_then : (old mid new : Space) (f g both : ℕ → Bool) (m n : ℕ) → ((b : ℕ) → both b ≡ (f b || g b)) → HasDrawn old f m mid → HasDrawn mid g n new → HasDrawn old both (m + n) new
drawn_then old mid new f g both m n same first second = record {
  committed = second.committed ∙ first.committed;
  free = λ b is. ⊎_elim
      (λ (one : f b ≡ true). first.free b one)
      (λ (two : g b ≡ true). (free_before old mid f m b first (second.free b two)).0)
      (or_cases (f b) (g b) (sym (same b) ∙ is));
  held = λ b. second.held b ∙ ap (λ t. g b || t) (first.held b) ∙ turned (g b) (f b) (is_member old.next b) ∙ sym (ap (λ t. t || is_member old.next b) (same b));
  fewer = omega (arith, first.fewer, second.fewer);
}
  where
    turned : (g f m : Bool) → (g || (f || m)) ≡ ((f || g) || m)
    turned g f m = sym (or_assoc g f m) ∙ ap (λ t. t || m) (or_comm g f)
