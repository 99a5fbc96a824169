-- Bytes that are taken of the source, and read up to the ends of lines.
use Rattle.std.proofs.Common.{◌≡◌, ℕ, zero, suc, ◌+◌, ◌-◌, ◌<◌, ◌≤◌, ◌++◌, min, Bool, true, false, List, [], ◌∷◌, length, get_or, take, drop, refl, sym, ap, ◌∙◌, subst, arith, append_assoc, append-nil}
use Rattle.std.specs.List.{between}
use Rattle.std.proofs.lemmas.List.{get_or-take, length-append, length-take, length-take-le, take-take, take-append-drop, drop_more}
use Rattle.std.proofs.lemmas.List.Edits.{length-between}
use Rattle.std.proofs.lemmas.List.Sums.{prefix_len-le-length, prefix_len_passes, prefix_len_stops}
use Rattle.std.proofs.lemmas.Slice.{between_is}
use Rattle.std.proofs.lemmas.Bool.Decides.{nat_tests}
use Rattle.std.specs.Prelude.{Ok, Err, nat_eq, not}
use Rattle.fv_disk.specs.declared.Failed.{Failed}
use Rattle.fv_disk.specs.Shown.{Shown, IsDisk}
use Rattle.fv_disk.specs.HostCalls.{Takes}
use Rattle.fv_lines.specs.declared.script.Next.{Next}
use Rattle.fv_lines.specs.declared.script.Next.TheVariants as next
use Rattle.fv_lines.specs.Held.{Held}
use Rattle.fv_lines.specs.Reading.{to_come, unread, letters, HasNoEnd, SaysAs, Pops, ReadsOn, Fills, Reads, TakesRoom, GoesOn, IsNext}
use Rattle.fv_lines.proofs.Asking.{asks_none, asks_as, asks_failed, asks_take, asks_take_failed}
use Rattle.fv_lines.proofs.Spans.{none_between, cut_between, rest_between, join_between, says_then}

-- a line lies between two places of what was taken, and so do the bytes that aren't read
abbrev pub held_of : ℕ → ℕ → ℕ → ℕ → List ℕ → Bool → ℕ → Bool → Held
held_of from to start end bytes closed room ended = record { line = between from to bytes; closed = closed; bytes = between start end bytes; room = room; ended = ended }

-- ---- the bytes before the end of a line

differ : false ≡ true → ⊥
differ e = cc

none_is : (b : Bool) → not b ≡ true → b ≡ false
none_is true e = absurd (differ e)
none_is false e = refl

is_end : (b : ℕ) → not (nat_eq b 10) ≡ false → b ≡ 10
is_end b e = grind (arith, nat_tests)

no_end : (bytes : List ℕ) (n : ℕ) → n ≤ letters bytes → HasNoEnd (take n bytes)
no_end bytes n few = λ k d inside.
    let before : k < n = omega (arith, length-take n bytes, inside) in
    subst (λ (b : ℕ). nat_eq b 10 ≡ false) (sym (get_or-take n bytes k d before))
    (none_is (nat_eq (get_or bytes k d) 10) (prefix_len_passes (λ b. not (nat_eq b 10)) bytes k d (omega (arith, before, few))))

end_there : (bytes : List ℕ) (n : ℕ) → n ≡ letters bytes → n < length bytes → get_or bytes n 0 ≡ 10
end_there bytes n is inside = subst (λ (k : ℕ). get_or bytes k 0 ≡ 10) (sym is) (is_end _ (prefix_len_stops (λ b. not (nat_eq b 10)) bytes 0 (omega (arith, is, inside))))

-- so many of the first bytes have no end of a line, and the one behind them is one
cut_at_end : (held : List ℕ) (most count : ℕ) → most ≤ length held → count ≡ letters (take most held) → count < most → held ≡ take count held ++ 10 ∷ drop (count + 1) held
cut_at_end held most count within is before =
    let size : length (take most held) ≡ most = length-take-le most held within in
    let ten : get_or held count 0 ≡ 10 = sym (get_or-take most held count 0 before) ∙ end_there (take most held) count is (omega (arith, size, before)) in
    sym (take-append-drop count held) ∙ ap (λ (l : List ℕ). take count held ++ l) (drop_more held count 0 (omega (arith, before, within)) ∙ ap (λ (b : ℕ). b ∷ drop (count + 1) held) ten)

not_ended : (start end : ℕ) (ended : Bool) → start < end → (ended ≡ true → start ≡ end) → ended ≡ false
not_ended start end true before none = absurd (let same = none refl in omega (arith, same, before))
not_ended start end false before none = refl

module _ (from to start end room most count : ℕ) (bytes : List ℕ) (ended : Bool) (order : from ≤ to) (joined : to ≡ start) (before : start < end) (within : end ≤ length bytes)
    (all : most ≡ min room (end - start)) (is : count ≡ letters (between start (start + most) bytes)) where
  abbrev at_hand : List ℕ
  at_hand = between start end bytes

  size : length at_hand ≡ end - start
  size = length-between bytes start end within

  front : between start (start + most) bytes ≡ take most at_hand
  front = sym (cut_between start end most bytes (omega (arith, all, before)))

  is_count : count ≡ letters (take most at_hand)
  is_count = is ∙ ap (λ (l : List ℕ). letters l) front

  few : count ≤ most
  few =
      let longest = prefix_len-le-length (λ b. not (nat_eq b 10)) (take most at_hand) in
      let size_is : length (take most at_hand) ≡ most = length-take-le most at_hand (omega (arith, all, size)) in
      omega (arith, longest, size_is, is_count)

  abbrev first : List ℕ
  first = between start (start + count) bytes

  run_is : take count at_hand ≡ first
  run_is = cut_between start end count bytes (omega (arith, all, before, few))

  run_size : length first ≡ count
  run_size = length-between bytes start (start + count) (omega (arith, all, before, few, within)) ∙ (let d : (start + count) - start ≡ count = omega arith in d)

  one : HasNoEnd first
  one = subst HasNoEnd (take-take count most at_hand few ∙ run_is) (no_end (take most at_hand) count (omega (arith, is_count)))

  longer : between from (start + count) bytes ≡ between from to bytes ++ first
  longer = join_between from start (start + count) bytes (omega (arith, order, joined)) (omega arith) ∙ ap (λ (k : ℕ). between from k bytes ++ first) (sym joined)

  pub popped_line : count < most → ReadsOn (held_of from to start end bytes false room ended) next.Line (held_of from (start + count) (start + count + 1) end bytes true (room - count - 1) ended)
  popped_line short = record {
    run = first;
    one = one;
    line = longer;
    ended = refl;
    pops = (
      cut_at_end at_hand most count (omega (arith, all, size)) is_count short
          ∙ ap (λ (l : List ℕ). l ++ 10 ∷ drop (count + 1) at_hand) run_is
          ∙ ap (λ (l : List ℕ). first ++ 10 ∷ l) (rest_between start end (count + 1) bytes ∙ ap (λ (k : ℕ). between k end bytes) (let same : start + (count + 1) ≡ start + count + 1 = omega arith in same)),
      omega (arith, run_size, all, short),
    );
  }

  pub popped_part : most ≤ count → start + count ≡ end → ReadsOn (held_of from to start end bytes false room ended) next.Part (held_of from (start + count) (start + count) end bytes false (room - count) ended)
  popped_part full last = record {
    run = first;
    one = one;
    line = longer;
    ended = refl;
    pops = (ap (λ (k : ℕ). between start k bytes) (sym last), none_between (start + count) end bytes (omega (arith, last)), omega (arith, run_size, last, before), omega (arith, run_size, all, few), refl);
  }

  some_left : start + count < end → 0 < length (between (start + count) end bytes)
  some_left inside = omega (arith, length-between bytes (start + count) end within, inside)

  pub popped_past : (ended ≡ true → start ≡ end) → most ≤ count → (start + count ≡ end → ⊥) → ReadsOn (held_of from to start end bytes false room ended) next.PastLimit (held_of from (start + count) (start + count) end bytes false (room - count) ended)
  popped_past going full more =
      let at_most : start + count ≤ end = omega (arith, all, few, before) in
      let inside : start + count < end = omega (arith, at_most, more) in
      record {
        run = first;
        one = one;
        line = longer;
        ended = refl;
        pops = (
          join_between start (start + count) end bytes (omega arith) at_most,
          some_left inside,
          omega (arith, run_size, all, few, full, inside),
          omega (arith, all, few, full, inside),
          not_ended start end ended before going,
        );
      }

pub popped_none : (from to start end room : ℕ) (bytes : List ℕ) (closed ended : Bool) → start ≡ end → ReadsOn (held_of from to start end bytes closed room ended) next.End (held_of from to start end bytes closed room ended)
popped_none from to start end room bytes closed ended same = record {
  run = [];
  one = λ k d below. absurd (omega (arith, below));
  line = sym (append-nil (between from to bytes));
  ended = refl;
  pops = (none_between start end bytes (omega (arith, same)), refl, none_between start end bytes (omega (arith, same)), refl);
}

-- ---- taking of the source

no_first : (n : ℕ) (xs : List ℕ) → length xs ≡ n → 0 < n → xs ≡ [] → ⊥
no_first n xs size some none = omega (arith, sym size ∙ ap (λ (l : List ℕ). length l) none, some)

none_few : (bytes : List ℕ) → bytes ≡ [] → length bytes ≤ 65536
none_few bytes none = rw none (omega arith)

-- some bytes are still held
pub held_still : (from to start end room : ℕ) (bytes : List ℕ) (closed ended : Bool) (host : Shown) → IsDisk host → start < end → end ≤ length bytes → end ≤ start + 65536
    → Fills (held_of from to start end bytes closed room ended) host (held_of from to start end bytes closed room ended) host (Ok tt)
held_still from to start end room bytes closed ended host laws before within few = record {
  same = λ tells. refl;
  line = refl;
  closed = refl;
  room = refl;
  end = λ none. absurd (no_first (end - start) (between start end bytes) (length-between bytes start end within) (omega (arith, before)) none);
  none = tt;
  few = omega (arith, length-between bytes start end within, few);
  going = tt;
  stays = λ ended. ended;
  knows = λ tells known. known;
  asks = asks_none tt host laws;
}

-- the source has said that it ends
pub over : (held : Held) (host : Shown) → IsDisk host → held.ended ≡ true → held.bytes ≡ [] → Fills held host held host (Ok tt)
over held host laws ended empty = record {
  same = λ tells. refl;
  line = refl;
  closed = refl;
  room = refl;
  end = λ none. ended;
  none = tt;
  few = none_few held.bytes empty;
  going = tt;
  stays = λ ended. ended;
  knows = λ tells known. known;
  asks = asks_none tt host laws;
}

unread_of : (held : Held) (host : Shown) → held.bytes ≡ [] → held.ended ≡ false → unread held host ≡ host.ends.left
unread_of held host none going = rw (none, going) refl

-- what was taken, and what is still to come: 0 bytes say that the source ends
taken : (n : ℕ) (front left old_left : List ℕ) → old_left ≡ front ++ left → (n ≡ 0 → old_left ≡ []) → (n ≡ 0 → front ≡ []) → old_left ≡ front ++ to_come (nat_eq n 0) left
taken zero front left old_left is end none = end refl ∙ sym (ap (λ (l : List ℕ). l ++ []) (none refl))
taken (suc n) front left old_left is end none = let more : nat_eq (suc n) 0 ≡ false = grind (arith, nat_tests) in rw more is

-- where a source says that it ends, none is left
ends_there : (n : ℕ) (front left old_left : List ℕ) → old_left ≡ front ++ left → (n ≡ 0 → old_left ≡ []) → (n ≡ 0 → front ≡ []) → nat_eq n 0 ≡ true → left ≡ []
ends_there zero front left old_left is end none ended = ap (λ (l : List ℕ). l ++ left) (sym (none refl)) ∙ sym is ∙ end refl
ends_there (suc n) front left old_left is end none ended = let more : nat_eq (suc n) 0 ≡ false = grind (arith, nat_tests) in absurd (differ (sym more ∙ ended))

no_count : (n : ℕ) (front : List ℕ) → length front ≡ n → front ≡ [] → nat_eq n 0 ≡ true
no_count zero front size none = refl
no_count (suc n) front size none = absurd (omega (arith, sym size ∙ ap (λ (l : List ℕ). length l) none))

-- the line as it lies, with another list behind it
same_line : (from to : ℕ) (bytes other : List ℕ) → take to other ≡ take to bytes → between from to other ≡ between from to bytes
same_line from to bytes other same = between_is other from to ∙ ap (λ (l : List ℕ). drop from l) same ∙ sym (between_is bytes from to)

module _ (held : Held) (from to : ℕ) (bytes other : List ℕ) (old new : Shown) (laws : IsDisk old) (none : held.bytes ≡ []) (going : held.ended ≡ false)
    (line : SaysAs (between from to bytes) held.line) (front : take to other ≡ take to bytes) where
  still : SaysAs (between from to other) held.line
  still = subst (λ (l : List ℕ). SaysAs l held.line) (sym (same_line from to bytes other front)) line

  pub filled : (n : ℕ) → n ≤ 65536 → to + 65536 ≤ length other → Takes old (between to (to + 65536) other) new (Ok n)
      → Fills held old (record { line = between from to other; closed = held.closed; bytes = between to (to + n) other; room = held.room; ended = nat_eq n 0 }) new (Ok tt)
  filled n few room takes =
      let into : take n (between to (to + 65536) other) ≡ between to (to + n) other = cut_between to (to + 65536) n other (omega (arith, few)) in
      let size : length (between to (to + n) other) ≡ n = length-between other to (to + n) (omega (arith, few, room)) ∙ (let d : (to + n) - to ≡ n = omega arith in d) in
      record {
        same = λ tells. unread_of held old none going
            ∙ taken n (between to (to + n) other) new.ends.left old.ends.left (takes.bytes tells ∙ ap (λ (l : List ℕ). l ++ new.ends.left) into) (λ nothing. takes.end tells (ap Ok nothing)) (λ nothing. none_between to (to + n) other (omega (arith, nothing)));
        line = still;
        closed = refl;
        room = refl;
        end = λ empty. no_count n (between to (to + n) other) size empty;
        none = tt;
        few = omega (arith, size, few);
        going = tt;
        stays = λ ended. absurd (differ (sym going ∙ ended));
        knows = λ tells known. ends_there n (between to (to + n) other) new.ends.left old.ends.left (takes.bytes tells ∙ ap (λ (l : List ℕ). l ++ new.ends.left) into) (λ nothing. takes.end tells (ap Ok nothing)) (λ nothing. none_between to (to + n) other (omega (arith, nothing)));
        asks = asks_take old new (between to (to + 65536) other) n laws takes;
      }

  pub unfilled : (e : Failed) → Takes old (between to (to + 65536) other) new (Err e)
      → Fills held old (record { line = between from to other; closed = held.closed; bytes = between to to other; room = held.room; ended = held.ended }) new (Err e)
  unfilled e takes = record {
    same = λ tells. unread_of held old none going ∙ sym (takes.none tells) ∙ rw (none_between to to other (omega arith), going) refl;
    line = still;
    closed = refl;
    room = refl;
    end = tt;
    none = none_between to to other (omega arith);
    few = none_few (between to to other) (none_between to to other (omega arith));
    going = going;
    stays = λ ended. absurd (differ (sym going ∙ ended));
    knows = λ tells known ended. absurd (differ (sym going ∙ ended));
    asks = asks_take_failed old new (between to (to + 65536) other) e laws takes;
  }

-- ---- both

none_unread : (held : Held) (host : Shown) → (held.bytes ≡ [] → held.ended ≡ true) → held.bytes ≡ [] → unread held host ≡ []
none_unread held host ends none = rw (none, ends none) refl

module _ (old_held mid new_held : Held) (host : Shown) (ends : mid.bytes ≡ [] → mid.ended ≡ true) (same_room : mid.room ≡ old_held.room) where
  -- what is still to come stays
  coming : new_held.ended ≡ mid.ended → (run bytes script : List ℕ) → script ≡ unread mid host → mid.bytes ≡ run ++ bytes → script ≡ run ++ (bytes ++ to_come new_held.ended host.ends.left)
  coming ended run bytes script is held =
      is ∙ ap (λ (l : List ℕ). l ++ to_come mid.ended host.ends.left) held ∙ append_assoc run bytes (to_come mid.ended host.ends.left)
      ∙ ap (λ (b : Bool). run ++ (bytes ++ to_come b host.ends.left)) (sym ended)

  reads_popped : (n : Next) (run script : List ℕ) → script ≡ unread mid host → new_held.ended ≡ mid.ended → Pops mid n run new_held → Reads n run script (unread new_held host)
  reads_popped next.Line run script is ended pops = coming ended run (10 ∷ new_held.bytes) script is pops.0
  reads_popped next.Part run script is ended pops = coming ended run new_held.bytes script is (pops.0 ∙ sym (append-nil run) ∙ ap (λ (l : List ℕ). run ++ l) (sym pops.1))
  reads_popped next.End run script is ended pops = (is ∙ none_unread mid host ends pops.0, none_unread new_held host (λ none. ended ∙ ends pops.0) pops.2)
  reads_popped next.PastLimit run script is ended pops = coming ended run new_held.bytes script is pops.0

  room_popped : (n : Next) (run : List ℕ) → Pops mid n run new_held → TakesRoom n run old_held new_held
  room_popped next.Line run pops = sym same_room ∙ pops.1
  room_popped next.Part run pops = (pops.2, sym same_room ∙ pops.3)
  room_popped next.End run pops = (pops.1, pops.3 ∙ same_room)
  room_popped next.PastLimit run pops = (pops.1, sym same_room ∙ pops.2, pops.3, pops.4)

  on_popped : (n : Next) (run : List ℕ) → new_held.ended ≡ mid.ended → Pops mid n run new_held → GoesOn n new_held
  on_popped next.Line run ended pops = tt
  on_popped next.Part run ended pops = pops.4
  on_popped next.End run ended pops = ended ∙ ends pops.0
  on_popped next.PastLimit run ended pops = tt

-- no more is held than before
few_popped : (mid new_held : Held) (n : Next) (run : List ℕ) → Pops mid n run new_held → length mid.bytes ≤ 65536 → length new_held.bytes ≤ 65536
few_popped mid new_held next.Line run pops few = omega (arith, ap (λ (l : List ℕ). length l) pops.0, length-append run (10 ∷ new_held.bytes), few)
few_popped mid new_held next.Part run pops few = none_few new_held.bytes pops.1
few_popped mid new_held next.End run pops few = none_few new_held.bytes pops.2
few_popped mid new_held next.PastLimit run pops few = omega (arith, ap (λ (l : List ℕ). length l) pops.0, length-append run new_held.bytes, few)

pub nexts : (old_held mid_held new_held : Held) (old mid : Shown) (n : Next) → Fills old_held old mid_held mid (Ok tt) → ReadsOn mid_held n new_held → IsNext old_held old new_held mid (Ok n)
nexts old_held mid_held new_held old mid n fills reads = record {
  run = reads.run;
  one = reads.one;
  line = ap (λ (l : List ℕ). take 9001 l) reads.line ∙ says_then mid_held.line old_held.line reads.run fills.line;
  bytes = λ tells. reads_popped old_held mid_held new_held mid fills.end fills.room n reads.run (unread old_held old) (fills.same tells) reads.ended reads.pops;
  room = room_popped old_held mid_held new_held mid fills.end fills.room n reads.run reads.pops;
  on = on_popped old_held mid_held new_held mid fills.end fills.room n reads.run reads.ended reads.pops;
  same = λ tells. tt;
  none = tt;
  few = few_popped mid_held new_held n reads.run reads.pops fills.few;
  going = tt;
  stays = λ ended. reads.ended ∙ fills.stays ended;
  knows = λ tells known ended. fills.knows tells known (sym reads.ended ∙ ended);
  asks = asks_as old mid tt n fills.asks;
}

pub no_next : (old_held new_held : Held) (old new : Shown) (e : Failed) → Fills old_held old new_held new (Err e) → IsNext old_held old new_held new (Err e)
no_next old_held new_held old new e fills = record {
  run = [];
  one = λ k d below. absurd (omega (arith, below));
  line = tt;
  bytes = λ tells. tt;
  room = tt;
  on = tt;
  same = fills.same;
  none = (fills.none, fills.room);
  few = fills.few;
  going = fills.going;
  stays = fills.stays;
  knows = fills.knows;
  asks = asks_failed old new e fills.asks;
}
