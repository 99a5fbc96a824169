-- A line is read piece by piece.
use Rattle.std.proofs.Common.{◌≡◌, ℕ, ◌+◌, ⊎_elim, inl, inr, ◌<◌, ◌++◌, Bool, true, false, List, [], ◌∷◌, length, take, map, refl, sym, ap, ◌∙◌, subst, arith, append_assoc, append-nil}
use Rattle.std.specs.Prelude.{Ok, Err, IsTrue, nat_eq, nat_le}
use Rattle.std.proofs.lemmas.List.{take_all, length-take-le, length-append}
use Rattle.std.proofs.lemmas.Bool.{cases_lt}
use Rattle.std.proofs.lemmas.List.Elements.{All-append}
use Rattle.std.proofs.lemmas.Bool.Decides.{nat_tests}
use Rattle.fv_disk.specs.declared.Failed.{Failed}
use Rattle.fv_disk.specs.Shown.{Shown, IsDisk}
use Rattle.fv_model.specs.Runs.{Line, NoCommand}
use Rattle.fv_model.specs.Lines.{line_of, lines}
use Rattle.fv_script.proofs.ScriptLines.{IsOneLine, no_line, line_then, last_line}
use Rattle.fv_lines.specs.declared.reading.Found.TheVariants as found
use Rattle.fv_lines.specs.declared.script.Next.{Next}
use Rattle.fv_lines.specs.declared.script.Next.TheVariants as next
use Rattle.fv_lines.specs.Held.{Held, begun}
use Rattle.fv_lines.specs.Reading.{unread, KnowsEnd, HasNoEnd, SaysAs, Asks, IsNext, found_last, IsFound, HasEnded, IsOver, HasRoom, Finds}
use Rattle.fv_lines.proofs.Ends.{none_in, one_in}
use Rattle.fv_lines.proofs.Asking.{asks_none, asks_then, asks_as, asks_failed}
use Rattle.fv_lines.proofs.Spans.{says_then, same_size}

-- a source that has said that it ends isn't asked again, over several calls
pub asks_no_more : {A : Type 0} (old mid new : Bool) (first second third : A) → (old ≡ true → (mid ≡ true) × (second ≡ first)) → (mid ≡ true → (new ≡ true) × (third ≡ second)) → old ≡ true → (new ≡ true) × (third ≡ first)
asks_no_more old mid new first second third before now ended = let so_far = before ended in let again = now so_far.0 in (again.0, again.1 ∙ so_far.1)

past : (n m : ℕ) → n < m → nat_le m n ≡ false
past n m above = grind (arith, nat_tests)

too_long : (line : List ℕ) → 9000 < length line → line_of line ≡ NoCommand
unfolding line_of
too_long line long = rw (past 9000 (length line) long) refl

-- so many bytes of a line tell what it says
says_as_whole : (whole : List ℕ) → line_of (take 9001 whole) ≡ line_of whole
says_as_whole whole =
    ⊎_elim
    (λ long. too_long (take 9001 whole) (omega (arith, length-take-le 9001 whole (omega (arith, long)))) ∙ sym (too_long whole (omega (arith, long))))
    (λ short. ap line_of (take_all 9001 whole short))
    (cases_lt 9001 (length whole))

says_same : (line other : List ℕ) → SaysAs line other → line_of line ≡ line_of other
says_same line other same = sym (says_as_whole line) ∙ ap line_of same ∙ says_as_whole other

-- what was read of the script so far is the front of a line
pub record HasRead (old_held : Held) (old : Shown) (held : Held) (now : Shown) : Type 0 where
  pub front : List ℕ
  pub one : IsOneLine front
  pub kept : SaysAs held.line front
  pub going : held.closed ≡ false
  pub room : old_held.room ≡ length front + held.room
  pub bytes : IsTrue old.tells → unread old_held old ≡ front ++ unread held now
  pub stays : old_held.ended ≡ true → held.ended ≡ true
  pub knows : IsTrue old.tells → KnowsEnd old_held old → KnowsEnd held now
  pub asks : Asks {T = Unit {0}} old now (Ok tt)

no_byte : IsOneLine []
no_byte = λ k d below. absurd (omega (arith, below))

pub begins : (held mid : Held) (host : Shown) → IsDisk host → mid ≡ begun held → HasRead held host mid host
begins held mid host laws is =
    subst (λ (h : Held). HasRead held host h host) (sym is) (record { front = []; one = no_byte; kept = refl; going = refl; room = omega arith; bytes = λ tells. refl; stays = λ ended. ended; knows = λ tells known. known; asks = asks_none (tt {0}) host laws })

module _ (old_held : Held) (old : Shown) (held : Held) (now : Shown) (so_far : HasRead old_held old held now) (new_held : Held) (new : Shown) where
  told : IsTrue old.tells → IsTrue now.tells
  told tells = rw so_far.asks.rests.stays.tells tells

  asked : (n : Next) → IsNext held now new_held new (Ok n) → Asks {T = Unit {0}} old new (Ok tt)
  asked n comes = asks_then old now new (tt {0}) (Ok (tt {0})) so_far.asks (asks_as now new n (tt {0}) comes.asks)

  known : (IsTrue now.tells → KnowsEnd held now → KnowsEnd new_held new) → IsTrue old.tells → KnowsEnd old_held old → KnowsEnd new_held new
  known next tells first = next (told tells) (so_far.knows tells first)

  -- the line so far with the bytes that are read
  further : (run rest : List ℕ) → IsTrue old.tells → unread held now ≡ run ++ rest → unread old_held old ≡ (so_far.front ++ run) ++ rest
  further run rest tells is = so_far.bytes tells ∙ ap (λ (l : List ℕ). so_far.front ++ l) is ∙ sym (append_assoc so_far.front run rest)

  both_one : (run : List ℕ) → HasNoEnd run → IsOneLine (so_far.front ++ run)
  both_one run one = All-append (λ b. nat_eq b 10 ≡ false) so_far.front run so_far.one one

  kept_on : (run line : List ℕ) → SaysAs line (held.line ++ run) → SaysAs line (so_far.front ++ run)
  kept_on run line same = same ∙ says_then held.line so_far.front run so_far.kept

  -- a line that goes on
  pub reads_on : IsNext held now new_held new (Ok next.Part) → HasRead old_held old new_held new
  reads_on comes = record {
    front = so_far.front ++ comes.run;
    one = both_one comes.run comes.one;
    kept = kept_on comes.run new_held.line comes.line;
    going = comes.on;
    room = omega (arith, so_far.room, comes.room.1, length-append so_far.front comes.run);
    bytes = λ tells. further comes.run (unread new_held new) tells (comes.bytes (told tells));
    stays = λ ended. comes.stays (so_far.stays ended);
    knows = known comes.knows;
    asks = asked next.Part comes;
  }

  first_line : (front rest script : List ℕ) → IsOneLine front → SaysAs new_held.line front → script ≡ (front ++ 10 ∷ []) ++ rest → lines script ≡ line_of new_held.line ∷ lines rest
  first_line front rest script one kept is =
      ap lines (is ∙ append_assoc front (10 ∷ []) rest) ∙ ap (λ (ls : List (List ℕ)). map line_of ls) (line_then front rest one)
      ∙ ap (λ (l : Line). l ∷ lines rest) (sym (says_same new_held.line front kept))

  -- the end of a line
  pub found_line : IsNext held now new_held new (Ok next.Line) → Finds old_held old new_held new new_held.line (Ok found.Line)
  found_line comes =
      let front : List ℕ = so_far.front ++ comes.run in
      let one : IsOneLine front = both_one comes.run comes.one in
      let kept : SaysAs new_held.line front = kept_on comes.run new_held.line comes.line in
      let size : length front ≡ length so_far.front + length comes.run = length-append so_far.front comes.run in
      let ended : length (front ++ 10 ∷ []) ≡ length front + 1 = length-append front (10 ∷ []) in
      let script : IsTrue old.tells → unread old_held old ≡ (front ++ 10 ∷ []) ++ unread new_held new =
      λ tells. further comes.run (10 ∷ unread new_held new) tells (comes.bytes (told tells)) ∙ sym (append_assoc front (10 ∷ []) (unread new_held new)) in
      record {
        reads = λ tells. record {
          read = front ++ 10 ∷ [];
          front = script tells;
          room = omega (arith, so_far.room, comes.room, size, ended);
          found = (first_line front (unread new_held new) (unread old_held old) one kept (script tells), inl (one_in front one));
          ended = inl (one_in front one);
          one = omega (arith, one_in front one);
          part = tt;
        };
        room = omega (arith, so_far.room, comes.room);
        over = tt;
        none = tt;
        few = comes.few;
        going = tt;
        stays = λ ended. comes.stays (so_far.stays ended);
        knows = known comes.knows;
        asks = asks_as old new (tt {0}) found.Line (asked next.Line comes);
      }

  last_found : (line front script rest : List ℕ) → IsOneLine front → SaysAs line front → script ≡ front → rest ≡ [] → IsFound (found_last line) line front script rest
  last_found [] [] script rest one same is none = (is, none)
  last_found [] (b ∷ front) script rest one same is none = absurd (omega (arith, same_size [] (b ∷ front) same))
  last_found (a ∷ line) [] script rest one same is none = absurd (omega (arith, same_size (a ∷ line) [] same))
  last_found (a ∷ line) (b ∷ front) script rest one same is none =
      let says : line_of (b ∷ front) ≡ line_of (a ∷ line) = sym (says_same (a ∷ line) (b ∷ front) same) in
      (ap lines is ∙ ap (λ (ls : List (List ℕ)). map line_of ls) (last_line b front one) ∙ rw (says, none, no_line) refl, inr none)

  last_room : (line front : List ℕ) → SaysAs line front → old_held.room ≡ length front + held.room → new_held.room ≡ held.room → HasRoom (found_last line) old_held new_held
  last_room [] front same room stays = omega (arith, room, stays)
  last_room (a ∷ line) [] same room stays = absurd (omega (arith, same_size (a ∷ line) [] same))
  last_room (a ∷ line) (b ∷ front) same room stays = omega (arith, room, stays)

  last_ended : (line front : List ℕ) → new_held.ended ≡ true → HasEnded (found_last line) front new_held
  last_ended [] front ended = ended
  last_ended (a ∷ line) front ended = inr ended

  last_over : (line : List ℕ) → new_held.ended ≡ true → IsOver (found_last line) new_held
  last_over [] ended = ended
  last_over (a ∷ line) ended = tt

  -- nothing was read
  kept_still : (run : List ℕ) → run ≡ [] → SaysAs new_held.line (held.line ++ run) → SaysAs new_held.line so_far.front
  kept_still run none same = subst (λ (l : List ℕ). SaysAs new_held.line l) (append-nil so_far.front) (subst (λ (l : List ℕ). SaysAs new_held.line (so_far.front ++ l)) none (kept_on run new_held.line same))

  -- the end of the script
  pub found_end : IsNext held now new_held new (Ok next.End) → Finds old_held old new_held new new_held.line (Ok (found_last new_held.line))
  found_end comes =
      let kept : SaysAs new_held.line so_far.front = kept_still comes.run comes.room.0 comes.line in
      record {
        reads = λ tells.
            let end = comes.bytes (told tells) in
            record {
              read = so_far.front;
              front = so_far.bytes tells ∙ ap (λ (l : List ℕ). so_far.front ++ l) (end.0 ∙ sym end.1);
              room = so_far.room ∙ ap (λ (n : ℕ). length so_far.front + n) (sym comes.room.1);
              found = last_found new_held.line so_far.front (unread old_held old) (unread new_held new) so_far.one kept (so_far.bytes tells ∙ ap (λ (l : List ℕ). so_far.front ++ l) end.0 ∙ append-nil so_far.front) end.1;
              ended = last_ended new_held.line so_far.front comes.on;
              one = omega (arith, none_in so_far.front so_far.one);
              part = tt;
            };
        room = last_room new_held.line so_far.front kept so_far.room comes.room.1;
        over = last_over new_held.line comes.on;
        none = tt;
        few = comes.few;
        going = tt;
        stays = λ ended. comes.stays (so_far.stays ended);
        knows = known comes.knows;
        asks = asks_as old new (tt {0}) (found_last new_held.line) (asked next.End comes);
      }

  -- a byte past the limit
  pub found_limit : IsNext held now new_held new (Ok next.PastLimit) → Finds old_held old new_held new new_held.line (Ok found.PastLimit)
  found_limit comes = record {
    reads = λ tells. record {
      read = so_far.front ++ comes.run;
      front = further comes.run (unread new_held new) tells (comes.bytes (told tells));
      room = omega (arith, so_far.room, comes.room.1, comes.room.2, length-append so_far.front comes.run);
      found = none_in (so_far.front ++ comes.run) (both_one comes.run comes.one);
      ended = tt;
      one = omega (arith, none_in (so_far.front ++ comes.run) (both_one comes.run comes.one));
      part = tt;
    };
    room = (comes.room.0, comes.room.2, comes.room.3);
    over = tt;
    none = tt;
    few = comes.few;
    going = tt;
    stays = λ ended. comes.stays (so_far.stays ended);
    knows = known comes.knows;
    asks = asks_as old new (tt {0}) found.PastLimit (asked next.PastLimit comes);
  }

  pub found_fault : (e : Failed) → IsNext held now new_held new (Err e) → Finds old_held old new_held new new_held.line (Err e)
  found_fault e comes = record {
    reads = λ tells. record {
      read = so_far.front;
      front = so_far.bytes tells ∙ ap (λ (l : List ℕ). so_far.front ++ l) (comes.same (told tells));
      room = so_far.room ∙ ap (λ (n : ℕ). length so_far.front + n) (sym comes.none.1);
      found = tt;
      ended = tt;
      one = omega (arith, none_in so_far.front so_far.one);
      part = none_in so_far.front so_far.one;
    };
    room = tt;
    over = tt;
    none = comes.none.0;
    few = comes.few;
    going = comes.going;
    stays = λ ended. comes.stays (so_far.stays ended);
    knows = known comes.knows;
    asks = asks_then old now new (tt {0}) (Err e) so_far.asks (asks_failed now new e comes.asks);
  }
