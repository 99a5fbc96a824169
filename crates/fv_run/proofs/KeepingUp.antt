-- A run keeps up with what it reads.
use Rattle.std.proofs.Common.{◌≡◌, ⊎_elim, ℕ, ◌+◌, ◌≤◌, ◌++◌, Bool, true, false, List, [], ◌∷◌, length, refl, sym, ap, ◌∙◌, true≢false, arith, append_assoc, append-nil}
use Rattle.std.specs.Prelude.{Result, Ok, Err, IsTrue}
use Rattle.std.proofs.lemmas.List.{length-append}
use Rattle.fv_disk.specs.declared.Failed.{Failed}
use Rattle.fv_disk.specs.Shown.{Shown}
use Rattle.fv_model.specs.Runs.{whole}
use Rattle.fv_lines.specs.declared.reading.Found.{Found}
use Rattle.fv_lines.specs.declared.reading.Found.TheVariants as found
use Rattle.fv_lines.specs.Held.{Held}
use Rattle.fv_lines.specs.Reading.{to_come, unread, Finds, KnowsEnd}
use Rattle.fv_lines.proofs.Ends.{whole_append}
use Rattle.fv_run.specs.declared.ending.Fault.{Fault}
use Rattle.fv_run.specs.declared.ending.Fault.TheVariants.{Source, Limit}
use Rattle.fv_run.specs.Running.{begun, KeepsUp}
use Rattle.fv_run.specs.Answering.{HasRead}
use Rattle.fv_run.proofs.Surviving.{begun_least}

to_come_is : (ended : Bool) (left : List ℕ) → (ended ≡ true → left ≡ []) → to_come ended left ≡ left
to_come_is true left known = sym (known refl)
to_come_is false left known = refl

keeps_up_by : (limit : ℕ) (old : Shown) (held : Held) (now new : Shown) (result : Result Unit Fault) (output read : List ℕ) → new.given ≡ old.given ++ output → old.ends.left ≡ read ++ unread held now → KnowsEnd held now
    → new.ends.left ≡ now.ends.left → length held.bytes ≤ 65536 → limit ≡ length read + held.room → (result ≡ Err Source → held.bytes ≡ []) → whole read ≤ begun result output → KeepsUp limit old new result
keeps_up_by limit old held now new result output read given front known same few room none answered = record {
  output = output;
  given = given;
  read = read;
  ahead = held.bytes;
  taken = front ∙ ap (λ (l : List ℕ). read ++ (held.bytes ++ l)) (to_come_is held.ended now.ends.left known ∙ sym same);
  within = omega (arith, room);
  piece = few;
  none = none;
  answered = answered;
}

-- nothing was read
pub keeps_up_unread : (limit : ℕ) (old new : Shown) (result : Result Unit Fault) → new.given ≡ old.given ++ [] → new.ends.left ≡ old.ends.left → KeepsUp limit old new result
keeps_up_unread limit old new result given same = record {
  output = [];
  given = given;
  read = [];
  ahead = [];
  taken = sym same;
  within = omega arith;
  piece = omega arith;
  none = λ is. refl;
  answered = begun_least result [];
}

-- the same, as one that began earlier
pub keeps_up_since : (limit : ℕ) (old mid new : Shown) (result : Result Unit Fault) → mid.given ≡ old.given → mid.ends.left ≡ old.ends.left → KeepsUp limit mid new result → KeepsUp limit old new result
keeps_up_since limit old mid new result given left keeps = record {
  output = keeps.output;
  given = keeps.given ∙ ap (λ (l : List ℕ). l ++ keeps.output) given;
  read = keeps.read;
  ahead = keeps.ahead;
  taken = sym left ∙ keeps.taken;
  within = keeps.within;
  piece = keeps.piece;
  none = keeps.none;
  answered = keeps.answered;
}

not_yet : (before now : Bool) → (before ≡ true → now ≡ true) → now ≡ false → before ≡ false
not_yet true now stays is = absurd (true≢false (sym (stays refl) ∙ is))
not_yet false now stays is = refl

pub none_before : (first second : List ℕ) → first ++ second ≡ [] → first ≡ []
none_before [] second is = refl
none_before (b ∷ first) second is = absurd cc

module _ (limit : ℕ) (old : Shown) (held : Held) (now : Shown) (count : ℕ) (read : HasRead limit old held now count) where
  -- no line is at work
  pub keeps_up_between : (new : Shown) (result : Result Unit Fault) (more : List ℕ) → new.given ≡ now.given ++ more → new.ends.left ≡ now.ends.left → (result ≡ Err Source → held.bytes ≡ []) → KeepsUp limit old new result
  keeps_up_between new result more given same none =
      let counted : whole (read.output ++ more) ≡ count + whole more = whole_append read.output more ∙ ap (λ (n : ℕ). n + whole more) read.answered in
      keeps_up_by limit old held now new result (read.output ++ more) read.read (given ∙ ap (λ (l : List ℕ). l ++ more) read.given ∙ append_assoc old.given read.output more) read.front read.knows same read.piece read.room none
      (let begun_all = begun_least result (read.output ++ more) in let most = read.most in omega (arith, begun_all, counted, most))

  module _ (new_held : Held) (mid : Shown) (bytes : List ℕ) (result : Result Found Failed) (finds : Finds held now new_held mid bytes result) (tells : IsTrue now.tells) where
    -- all that was read by now
    abbrev read_on : List ℕ
    read_on = read.read ++ (finds.reads tells).read

    counted_on : whole read_on ≡ whole read.read + whole (finds.reads tells).read
    counted_on = whole_append read.read (finds.reads tells).read

    -- no line but the one that was found is at work
    keeps_up_on : (new : Shown) (end : Result Unit Fault) (given_on : List ℕ) → new.given ≡ mid.given ++ given_on → new.ends.left ≡ mid.ends.left → (end ≡ Err Source → new_held.bytes ≡ []) → whole read_on ≤ begun end (read.output ++ given_on) → KeepsUp limit old new end
    keeps_up_on new end given_on given same none answered =
        let more = finds.reads tells in
        let front : old.ends.left ≡ read_on ++ unread new_held mid = read.front ∙ ap (λ (l : List ℕ). read.read ++ l) more.front ∙ sym (append_assoc read.read more.read (unread new_held mid)) in
        let room : limit ≡ length read_on + new_held.room = omega (arith, read.room, more.room, length-append read.read more.read) in
        keeps_up_by limit old new_held mid new end (read.output ++ given_on) read_on (given ∙ ap (λ (l : List ℕ). l ++ given_on) (finds.asks.given ∙ read.given) ∙ append_assoc old.given read.output given_on) front (finds.knows tells read.knows) same finds.few room none answered

    pub next_most : whole read_on ≤ count + 1
    next_most = let one = (finds.reads tells).one in let most = read.most in omega (arith, counted_on, one, most)

    -- no line ends in what was read since, of a script that goes on
    counted_still : new_held.ended ≡ false → whole (finds.reads tells).read ≡ 0 → whole read_on ≤ whole (read.output ++ [])
    counted_still going none =
        let all : whole read.read ≡ count = read.all (not_yet held.ended new_held.ended finds.stays going) in
        let answered : whole (read.output ++ []) ≡ count = ap whole (append-nil read.output) ∙ read.answered in
        omega (arith, counted_on, all, none, answered)

  module _ (new_held : Held) (mid : Shown) (bytes : List ℕ) where
    -- the source failed
    pub keeps_up_source : (e : Failed) → Finds held now new_held mid bytes (Err e) → IsTrue now.tells → KeepsUp limit old mid (Err Source)
    keeps_up_source e finds tells = keeps_up_on new_held mid bytes (Err e) finds tells mid (Err Source) [] (sym (append-nil mid.given)) refl (λ is. finds.none) (counted_still new_held mid bytes (Err e) finds tells finds.going (finds.reads tells).part)

    -- a byte past the limit was found
    pub keeps_up_limit : Finds held now new_held mid bytes (Ok found.PastLimit) → IsTrue now.tells → KeepsUp limit old mid (Err Limit)
    keeps_up_limit finds tells = keeps_up_on new_held mid bytes (Ok found.PastLimit) finds tells mid (Err Limit) [] (sym (append-nil mid.given)) refl (λ (is : Err Limit ≡ Err Source). absurd cc)
        (counted_still new_held mid bytes (Ok found.PastLimit) finds tells finds.room.2 (finds.reads tells).found)

    -- in a line
    pub keeps_up_line : Finds held now new_held mid bytes (Ok found.Line) → IsTrue now.tells → (new : Shown) (fault : Fault) (given_on : List ℕ) → new.given ≡ mid.given ++ given_on → new.ends.left ≡ mid.ends.left
        → ((output : List ℕ) → begun (Err fault) output ≡ whole output + 1) → KeepsUp limit old new (Err fault)
    keeps_up_line finds tells new fault given_on given same in_line =
        let most = next_most new_held mid bytes (Ok found.Line) finds tells in
        let answered : whole (read.output ++ given_on) ≡ count + whole given_on = whole_append read.output given_on ∙ ap (λ (n : ℕ). n + whole given_on) read.answered in
        keeps_up_on new_held mid bytes (Ok found.Line) finds tells new (Err fault) given_on given same
        (λ (is : Err fault ≡ Err Source). let between : 0 ≡ 1 = sym (ap (λ (r : Result Unit Fault). begun r []) is) ∙ in_line [] in absurd (omega (arith, between)))
        (let began = in_line (read.output ++ given_on) in omega (arith, most, answered, began))

    pub next_all : (finds : Finds held now new_held mid bytes (Ok found.Line)) (tells : IsTrue now.tells) → new_held.ended ≡ false → whole (read.read ++ (finds.reads tells).read) ≡ count + 1
    next_all finds tells going =
        let all : whole read.read ≡ count = read.all (not_yet held.ended new_held.ended finds.stays going) in
        let one : whole (finds.reads tells).read ≡ 1 = ⊎_elim
        (λ (one : whole (finds.reads tells).read ≡ 1). one)
        (λ (ended : new_held.ended ≡ true). absurd (true≢false (sym ended ∙ going)))
        (finds.reads tells).ended in
        omega (arith, counted_on new_held mid bytes (Ok found.Line) finds tells, all, one)

    -- at the end of the script nothing more is read
    pub end_most : (finds : Finds held now new_held mid bytes (Ok found.End)) (tells : IsTrue now.tells) → whole (read.read ++ (finds.reads tells).read) ≤ count
    end_most finds tells =
        let none : (finds.reads tells).read ≡ [] = none_before (finds.reads tells).read (unread new_held mid) (sym (finds.reads tells).front ∙ (finds.reads tells).found.0) in
        let same : whole (read.read ++ (finds.reads tells).read) ≡ whole read.read = ap (λ (l : List ℕ). whole (read.read ++ l)) none ∙ ap whole (append-nil read.read) in
        let most = read.most in
        omega (arith, same, most)

-- what is known of a source's end stays while it isn't asked
pub knows_on : (held : Held) (mid new : Shown) → new.ends.left ≡ mid.ends.left → KnowsEnd held mid → KnowsEnd held new
knows_on held mid new same known ended = same ∙ known ended
