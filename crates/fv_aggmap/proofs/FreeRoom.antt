-- What the calls of the aggregate map do to its free blocks.
use Rattle.std.proofs.Common.{◌≡◌, ◌<◌, ◌≤◌, ◌+◌, ◌-◌, ℕ, zero, suc, Bool, true, false, cond, not, ◌||◌, ◌==◌, ◌∷◌, length, set as put, Option, Some, None, nat_lt, refl, sym, ap, ◌∙◌, ⊎_elim, inl, inr, arith}
use Rattle.std.specs.Prelude.{◌&&◌, nat_le, nat_eq, min, filter, IfSome, IfNone}
use Rattle.std.specs.List.{range_with_len}
use Rattle.std.specs.Ordering.{nat_cmp, eq_by_cmp}
use Rattle.std.specs.Cmp.{nat_cmp_total}
use Rattle.std.specs.FinSet as set
use Rattle.std.proofs.lemmas.Bool.{cases_Bool}
use Rattle.std.proofs.lemmas.Bool.Decides.{nat_tests}
use Rattle.fv_bits.specs.Members.{is_member}
use Rattle.fv_bits.proofs.Counts.{passing, passing-suc}
use Rattle.fv_bits.proofs.Laws.{is_member-set, is_member_past}
use Rattle.fv_model.specs.Machines.{first_block}
use Rattle.fv_root.specs.Formatted.{IsSize}
use Rattle.fv_container.specs.Freeing.{Takes, Releases}
use Rattle.fv_aggmap.specs.Space.{Space, IsFree, IsFull, blocks_of, free_blocks, free_from}
use Rattle.fv_aggmap.specs.Freeing.{any_filter, any_range, free_has, in_range, is_clear, room_of}

-- the space with another bit in the next set
abbrev pub with_next : Space → ℕ → Bool → Space
with_next space b v = record space { next = put space.next b v }

-- whether a block can be allocated
abbrev lies : Space → ℕ → Bool
lies space q = nat_le (first_block (blocks_of space)) q && nat_lt q (first_block (blocks_of space) + (min (blocks_of space) 1048576 - first_block (blocks_of space)))

empty_set : (s : set.FinSet nat_cmp) → ((q : ℕ) → set.contains s q ≡ false) → set.len s ≡ 0
empty_set s none = ap set.len (set.same_set nat_cmp_total set.nat_cmp-IsAntisymmetric s set.empty (λ q. none q ∙ sym (set.contains-empty nat_cmp q))) ∙ set.len-empty nat_cmp

module _ (space : Space) (size : IsSize (blocks_of space)) (same : length space.next ≡ blocks_of space) where
  full_room : IsFull space → set.len (room_of space).free ≡ 0
  full_room full = empty_set (room_of space).free (λ q. free_has space q ∙ ⊎_elim
      (λ (there : lies space q ≡ true).
      let low : first_block (blocks_of space) ≤ q = grind (arith, nat_tests, there) in
      let high : q < blocks_of space = grind (arith, nat_tests, there, size.greatest) in
      ap (λ t. not t && lies space q) (full.held q low high))
      (λ (no : lies space q ≡ false). neither (is_clear space q) (lies space q) no)
      (cases_Bool (lies space q)))
    where
      neither : (x y : Bool) → y ≡ false → (x && y) ≡ false
      neither true y h = h
      neither false y h = refl

  lies_there : (b : ℕ) → IsFree space b → lies space b ≡ true
  lies_there b is = grind (arith, nat_tests, is.after, is.within, size.greatest)

  free_room : (b : ℕ) → IsFree space b → set.contains (room_of space).free b ≡ true
  free_room b is = free_has space b ∙ ap (λ t. not t && lies space b) is.free ∙ lies_there b is

  next_has : (b q : ℕ) (v : Bool) → b < blocks_of space → is_member (put space.next b v) q ≡ cond (nat_eq q b) v (is_member space.next q)
  next_has b q v within = let inside : b < length space.next = omega (arith, within, same) in is_member-set space.next b v q inside ∙ ap (λ t. cond t v (is_member space.next q)) (alike q b)
    where
      alike : (x y : ℕ) → (x == y) ≡ nat_eq x y
      alike x y = grind (arith, nat_tests)

  taken_room : (b : ℕ) → IsFree space b → (room_of (with_next space b true)).free ≡ set.remove (room_of space).free b
  taken_room b is = set.same_set nat_cmp_total set.nat_cmp-IsAntisymmetric _ _ (λ q.
      free_has (with_next space b true) q
      ∙ ap (λ m. not (is_member space.committed q || m) && lies space q) (next_has b q true is.within)
      ∙ step (nat_eq q b) (is_member space.committed q) (is_member space.next q) (lies space q)
      ∙ sym (set.contains-remove nat_cmp_total (room_of space).free b q
      ∙ ap (λ t. not (eq_by_cmp nat_cmp q b) && t) (free_has space q)
      ∙ ap (λ t. not t && (is_clear space q && lies space q)) (alike q b)))
    where
      alike : (x y : ℕ) → eq_by_cmp nat_cmp x y ≡ nat_eq x y
      alike x y = grind (arith, nat_tests)

      step : (e c n l : Bool) → (not (c || cond e true n) && l) ≡ (not e && (not (c || n) && l))
      step true true n l = refl
      step true false n l = refl
      step false c n l = refl

  pub takes : (new : Space) (r : Option ℕ) → IfNone r (IsFull space) → IfSome r (IsFree space) → IfSome r (λ b. new ≡ with_next space b true) → IfNone r (new ≡ space) → Takes (room_of space) (room_of new) r
  takes new None full free taken stays = record {
    none = full_room full;
    some = tt;
    taken = tt;
    held = tt;
    stays = ap room_of stays;
    committed = ap (λ (s : Space). s.committed) stays;
  }
  takes new (Some b) full free taken stays = record {
    none = tt;
    some = free_room b free;
    taken = ap (λ (s : Space). (room_of s).free) taken ∙ taken_room b free;
    held = λ a. ap (λ (s : Space). is_member s.next a) taken ∙ next_has b a true free.within ∙ step (nat_eq a b) (is_member space.next a);
    stays = tt;
    committed = ap (λ (s : Space). s.committed) taken;
  }
    where
      step : (e n : Bool) → cond e true n ≡ (e || n)
      step true n = refl
      step false n = refl

  -- a block past the last one is in no set
  pub releases_past : (b : ℕ) → blocks_of space ≤ b → Releases (room_of space) b (room_of space)
  releases_past b past = record {
    free = inl refl;
    held = λ a. ⊎_elim
        (λ (here : nat_eq a b ≡ true).
        let beyond : length space.next ≤ a = grind (arith, nat_tests, here, past, same) in
        is_member_past space.next a beyond ∙ sym (ap (λ t. not t && is_member space.next a) here))
        (λ (other : nat_eq a b ≡ false). sym (ap (λ t. not t && is_member space.next a) other))
        (cases_Bool (nat_eq a b));
    committed = refl;
  }

  pub releases : (new : Space) (b : ℕ) → b < blocks_of space → new ≡ with_next space b false → Releases (room_of space) b (room_of new)
  releases new b within is = record {
    free = ⊎_elim
        (λ (now : (is_clear (with_next space b false) b && lies space b) ≡ true). inr (ap (λ (s : Space). (room_of s).free) is ∙ grown now))
        (λ (still : (is_clear (with_next space b false) b && lies space b) ≡ false). inl (ap (λ (s : Space). (room_of s).free) is ∙ kept still))
        (cases_Bool (is_clear (with_next space b false) b && lies space b));
    held = λ a. ap (λ (s : Space). is_member s.next a) is ∙ next_has b a false within ∙ step (nat_eq a b) (is_member space.next a);
    committed = ap (λ (s : Space). s.committed) is;
  }
    where
      step : (e n : Bool) → cond e false n ≡ (not e && n)
      step true n = refl
      step false n = refl

      alike : (x y : ℕ) → eq_by_cmp nat_cmp x y ≡ nat_eq x y
      alike x y = grind (arith, nat_tests)

      was : (q : ℕ) → set.contains (room_of (with_next space b false)).free q ≡ (not (is_member space.committed q || cond (nat_eq q b) false (is_member space.next q)) && lies space q)
      was q = free_has (with_next space b false) q ∙ ap (λ m. not (is_member space.committed q || m) && lies space q) (next_has b q false within)

      more : (e c n l : Bool) → (e ≡ true → (not (c || false) && l) ≡ true) → (not (c || cond e false n) && l) ≡ (e || (not (c || n) && l))
      more true c n l h = h refl
      more false c n l h = refl

      fewer : (e c n l : Bool) → (e ≡ true → (not (c || false) && l) ≡ false) → (not (c || cond e false n) && l) ≡ (not (c || n) && l)
      fewer true true n l h = refl
      fewer true false true l h = h refl
      fewer true false false l h = refl
      fewer false c n l h = refl

      at : (q : ℕ) (r : Bool) → (is_clear (with_next space b false) b && lies space b) ≡ r → nat_eq q b ≡ true → (not (is_member space.committed q || false) && lies space q) ≡ r
      at q r now e =
          let k : q ≡ b = grind (arith, nat_tests, e) in
          let self : nat_eq b b ≡ true = grind (arith, nat_tests) in
          ap (λ x. not (is_member space.committed x || false) && lies space x) k
          ∙ sym (ap (λ m. not (is_member space.committed b || m) && lies space b) (next_has b b false within ∙ ap (λ t. cond t false (is_member space.next b)) self)) ∙ now

      grown : (is_clear (with_next space b false) b && lies space b) ≡ true → (room_of (with_next space b false)).free ≡ set.insert (room_of space).free b
      grown now = set.same_set nat_cmp_total set.nat_cmp-IsAntisymmetric _ _ (λ q. was q
          ∙ more (nat_eq q b) (is_member space.committed q) (is_member space.next q) (lies space q) (at q true now)
          ∙ sym (set.contains-insert nat_cmp_total (room_of space).free b q ∙ ap (λ t. eq_by_cmp nat_cmp q b || t) (free_has space q) ∙ ap (λ t. t || (is_clear space q && lies space q)) (alike q b)))

      kept : (is_clear (with_next space b false) b && lies space b) ≡ false → (room_of (with_next space b false)).free ≡ (room_of space).free
      kept still = set.same_set nat_cmp_total set.nat_cmp-IsAntisymmetric _ _ (λ q. was q
          ∙ fewer (nat_eq q b) (is_member space.committed q) (is_member space.next q) (lies space q) (at q false still) ∙ sym (free_has space q))

-- a set of some numbers of a range has as many as there are
counted : (p : ℕ → Bool) (a n : ℕ) → set.len (set.from_list {R = nat_cmp} (filter p (range_with_len a n))) ≡ passing p a n
counted p a zero = set.len-empty nat_cmp
counted p a (suc n) =
    let rest : set.FinSet nat_cmp = set.from_list (filter p (range_with_len (a + 1) n)) in
    let absent : set.contains rest a ≡ false = set.contains-from_list nat_cmp_total (filter p (range_with_len (a + 1) n)) a ∙ any_filter p a (range_with_len (a + 1) n) ∙ ap (λ t. p a && t) (any_range a (a + 1) n) ∙ past (p a) in
    first (p a) absent ∙ ap (λ m. cond (p a) 1 0 + m) (counted p (a + 1) n) ∙ sym (passing-suc p a n)
  where
    past : (t : Bool) → (t && in_range (a + 1) n a) ≡ false
    past true = grind (arith, nat_tests)
    past false = refl

    first : (t : Bool) → set.contains (set.from_list {R = nat_cmp} (filter p (range_with_len (a + 1) n))) a ≡ false → set.len (set.from_list {R = nat_cmp} (cond t (a ∷ filter p (range_with_len (a + 1) n)) (filter p (range_with_len (a + 1) n)))) ≡ cond t 1 0 + set.len (set.from_list {R = nat_cmp} (filter p (range_with_len (a + 1) n)))
    first true absent = set.len-insert nat_cmp_total (set.from_list {R = nat_cmp} (filter p (range_with_len (a + 1) n))) a ∙ ap (λ (t : Bool). cond t (set.len (set.from_list {R = nat_cmp} (filter p (range_with_len (a + 1) n)))) (set.len (set.from_list {R = nat_cmp} (filter p (range_with_len (a + 1) n))) + 1)) absent ∙ omega arith
    first false absent = omega arith

pub free_counted : (space : Space) → IsSize (blocks_of space) → set.len (room_of space).free ≡ free_blocks space
unfolding free_from
free_counted space size =
    let all : min (blocks_of space) 1048576 ≡ blocks_of space = omega (arith, size.greatest) in
    counted (is_clear space) (first_block (blocks_of space)) (min (blocks_of space) 1048576 - first_block (blocks_of space))
    ∙ ap (λ (n : ℕ). passing (is_clear space) (first_block (blocks_of space)) (n - first_block (blocks_of space))) all
