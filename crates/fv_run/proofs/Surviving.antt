-- What a crash leaves of a run that answered some lines.
use Rattle.std.proofs.Common.{◌≡◌, ◌⊎◌, inl, inr, ⊎_elim, ℕ, ◌+◌, ◌<◌, ◌≤◌, ◌++◌, Bool, true, false, List, ◌∷◌, length, take, drop, refl, sym, ap, subst, ◌∙◌, arith, suc, zero}
use Rattle.std.specs.Prelude.{Some, Result, Ok, Err}
use Rattle.fv_disk.specs.Shown.{Image, Shown}
use Rattle.fv_model.specs.Machines.{Machine}
use Rattle.fv_model.specs.Runs.{Line, after, after_line, is_cp, up_to_cp, whole}
use Rattle.fv_image.specs.WholeMachine.{machine_of}
use Rattle.fv_lines.proofs.Ends.{whole_append}
use Rattle.fv_aggregate.specs.declared.session.Session.{Session}
use Rattle.fv_aggregate.specs.Standing.{OneOf, StandsAfter, StandsFor}
use Rattle.fv_run.specs.declared.ending.Fault.{Fault}
use Rattle.fv_run.specs.declared.ending.Fault.TheVariants.{Usage, Unsound, NotAggregate, Source, Sink, Disk, Memory, Damaged, Limit}
use Rattle.fv_run.specs.Running.{asks_behind, asks_point, begun, pending_behind, rooms_along, IsAfterSome, IsAskedFor, IsAtRest}
use Rattle.fv_run.specs.Answering.{IsLastPoint, StandsOnward}
use Rattle.fv_run.proofs.Acked.{acked_part, acked_all, up_to_here, up_to_take, up_to_next}
use Rattle.fv_run.proofs.Following.{after_next, left_below, line_at, line_behind}
use Rattle.fv_run.proofs.Lines.{part_whole}
use Rattle.fv_run.proofs.Sessions.{reads_stand}

module _ (m : Machine) (lines : List Line) where
  -- an output with so many lines, and an image after at least the acknowledged ones and at most one more
  pub after_some : (count n : ℕ) (output : List ℕ) (c : Image) → whole output ≡ count → count ≤ length lines → up_to_cp (take count lines) ≤ n → n ≤ count + 1 → n ≤ length lines → machine_of c ≡ Some (after m lines n)
      → IsAfterSome m lines output c
  after_some count n output c counted within least most all stands = record {
    count = n;
    acknowledged = rw (acked_part lines output count counted within) least;
    all = all;
    answered = omega (arith, counted, most);
    machine = stands;
  }

  -- the whole output, or all of it but `done`
  pub after_all : (output : List ℕ) (c : Image) → length lines ≤ whole output → whole output ≤ length lines + 1 → machine_of c ≡ Some (after m lines (length lines)) → IsAfterSome m lines output c
  after_all output c least most stands = record {
    count = length lines;
    acknowledged = acked_all lines output most;
    all = omega arith;
    answered = omega (arith, least);
    machine = stands;
  }

-- each line that is answered was begun
pub begun_least : (result : Result Unit Fault) (output : List ℕ) → whole output ≤ begun result output
begun_least (Ok done) output = omega arith
begun_least (Err Usage) output = omega arith
begun_least (Err Unsound) output = omega arith
begun_least (Err NotAggregate) output = omega arith
begun_least (Err Source) output = omega arith
begun_least (Err Sink) output = omega arith
begun_least (Err Disk) output = omega arith
begun_least (Err Memory) output = omega arith
begun_least (Err Damaged) output = omega arith
begun_least (Err Limit) output = omega arith

-- the last point over the lines that an output answers is one that was asked for
pub asked_for : (m : Machine) (lines : List Line) (output : List ℕ) (result : Result Unit Fault) (count n : ℕ) → whole output ≡ count → count ≤ length lines → IsLastPoint m lines count n → IsAskedFor m lines output result n
asked_for m lines output result count n counted within asked = ⊎_elim
    (λ (e : n ≡ up_to_cp (take count lines)). inl (e ∙ sym (acked_part lines output count counted within)))
    (λ (asks : (n < count) × (asks_behind (rooms_along m lines) lines n ≡ true)). inr (inl (omega (arith, asks.0, counted, begun_least result output), asks.1)))
    asked

-- the disk once a run has ended, with so many lines in the output, over the image of a session's last point
pub rested : (m : Machine) (lines : List Line) (old new : Shown) (session : Session) (now : Machine) (count n : ℕ) (output : List ℕ) → new.given ≡ old.given ++ output → whole output ≡ count → count ≤ length lines
    → up_to_cp (take count lines) ≤ n → n ≤ count → (result : Result Unit Fault) → IsAskedFor m lines output result n → StandsFor new session (after m lines n) now → IsAtRest m lines result old new
rested m lines old new session now count n output given counted within least most result asked stands = record {
  output = output;
  given = given;
  count = n;
  acknowledged = rw (acked_part lines output count counted within) least;
  all = omega (arith, most, within);
  answered = omega (arith, most, counted);
  asked = asked;
  machine = reads_stand new session (after m lines n) now stands;
  settled = stands.settled;
}

-- the last point is one of the two that it may be
pub rested_after : (m : Machine) (lines : List Line) (old new : Shown) (session : Session) (now : Machine) (count n : ℕ) (output : List ℕ) → new.given ≡ old.given ++ output → whole output ≡ count → count ≤ length lines
    → up_to_cp (take count lines) ≤ n → n ≤ count → (result : Result Unit Fault) → IsLastPoint m lines count n → (stands : StandsAfter new session (after m lines n) (after m lines count) now)
    → count < begun result output → (asks_behind (rooms_along m lines) lines count ≡ true) ⊎ (stands.point ≡ after m lines n) → IsAtRest m lines result old new
rested_after m lines old new session now count n output given counted within least most result asked stands began which = ⊎_elim
    (λ (e : stands.point ≡ after m lines n). stayed e)
    (λ (e : stands.point ≡ after m lines count). ⊎_elim
    (λ (asks : asks_behind (rooms_along m lines) lines count ≡ true). rested m lines old new session now count count output given counted within (up_to_take count lines within) (omega arith) result (inr (inl (began, asks))) (subst (λ (x : Machine). StandsFor new session x now) e stands.stands))
    (λ (same : stands.point ≡ after m lines n). stayed same)
    which)
    stands.one
  where
    stayed : stands.point ≡ after m lines n → IsAtRest m lines result old new
    stayed e = rested m lines old new session now count n output given counted within least most result (asked_for m lines output result count n counted within asked) (subst (λ (x : Machine). StandsFor new session x now) e stands.stands)

none_or_one : (n : ℕ) → n ≤ 1 → (n ≡ 0) ⊎ (n ≡ 1)
none_or_one zero most = inl refl
none_or_one (suc zero) most = inr refl
none_or_one (suc (suc n)) most = absurd (omega arith)

pub part_of_one : (before bytes : List ℕ) (k count : ℕ) → whole before ≡ count → whole bytes ≡ 1 → (whole (before ++ take k bytes) ≡ count) ⊎ (whole (before ++ take k bytes) ≡ count + 1)
part_of_one before bytes k count counted one =
    let both : whole (before ++ take k bytes) ≡ whole before + whole (take k bytes) = whole_append before (take k bytes) in
    ⊎_elim (λ (none : whole (take k bytes) ≡ 0). inl (omega (arith, both, counted, none))) (λ (some : whole (take k bytes) ≡ 1). inr (omega (arith, both, counted, some)))
    (none_or_one (whole (take k bytes)) (omega (arith, part_whole bytes k, one)))

module _ (m : Machine) (lines rest : List Line) (line : Line) (count : ℕ) (is : line ∷ rest ≡ drop count lines) where
  -- the image of a session's last consistency point, after the next line was applied
  pub record IsOnward (disk : Shown) (session : Session) : Type 0 where
    pub point : ℕ
    pub before : up_to_cp (take count lines) ≤ point
    pub least : up_to_cp (take (count + 1) lines) ≤ point
    pub most : point ≤ count + 1
    pub asked : IsLastPoint m lines (count + 1) point
    pub stands : StandsFor disk session (after m lines point) (after m lines (count + 1))

  below : count < length lines
  below = left_below count lines rest line is

  next_is : after m lines (count + 1) ≡ after_line (after m lines count) line
  next_is = after_next m count lines rest line is

  still_before : up_to_cp (take count lines) ≤ count
  still_before = up_to_take count lines (omega (arith, below))

  at_next : (disk : Shown) (session : Session) → is_cp line ≡ true → StandsFor disk session (after m lines (count + 1)) (after m lines (count + 1)) → IsOnward disk session
  at_next disk session cp stands = record {
    point = count + 1;
    before = omega (arith, still_before);
    least = up_to_take (count + 1) lines (omega (arith, below));
    most = omega arith;
    asked = inl (sym (up_to_here count lines line below (line_at count lines rest line is) cp));
    stands = stands;
  }

  at_old : (disk : Shown) (session : Session) (n : ℕ) → is_cp line ≡ false → up_to_cp (take count lines) ≤ n → n ≤ count → IsLastPoint m lines (count + 1) n → StandsFor disk session (after m lines n) (after m lines (count + 1)) → IsOnward disk session
  at_old disk session n other least most asked stands = record {
    point = n;
    before = least;
    least = omega (arith, least, up_to_next count lines line below (line_at count lines rest line is) other);
    most = omega (arith, most);
    asked = asked;
    stands = stands;
  }

  -- a line more that is no `cp`
  one_more : is_cp line ≡ false → (n : ℕ) → IsLastPoint m lines count n → IsLastPoint m lines (count + 1) n
  one_more other n asked = ⊎_elim
      (λ (e : n ≡ up_to_cp (take count lines)). inl (e ∙ sym (up_to_next count lines line below (line_at count lines rest line is) other)))
      (λ (asks : (n < count) × (asks_behind (rooms_along m lines) lines n ≡ true)). inr (omega (arith, asks.0), asks.1))
      asked

  one_point : (disk : Shown) (session : Session) (n : ℕ) (point : Machine) → is_cp line ≡ false → up_to_cp (take count lines) ≤ n → n ≤ count → IsLastPoint m lines count n
      → (point ≡ after m lines n) ⊎ (point ≡ after m lines count) → (asks_behind (rooms_along m lines) lines count ≡ true) ⊎ (point ≡ after m lines n) → StandsFor disk session point (after m lines (count + 1)) → IsOnward disk session
  one_point disk session n point other least most asked one which stands = ⊎_elim
      (λ (e : point ≡ after m lines n). stayed e)
      (λ (e : point ≡ after m lines count). ⊎_elim
      (λ (asks : asks_behind (rooms_along m lines) lines count ≡ true). at_old disk session count other still_before (omega arith) (inr (omega arith, asks)) (subst (λ (x : Machine). StandsFor disk session x (after m lines (count + 1))) e stands))
      (λ (same : point ≡ after m lines n). stayed same)
      which)
      one
    where
      stayed : point ≡ after m lines n → IsOnward disk session
      stayed e = at_old disk session n other least most (one_more other n asked) (subst (λ (x : Machine). StandsFor disk session x (after m lines (count + 1))) e stands)

  -- a point over the first `count` lines is one that the next line asks for
  pub which_point : (point last : Machine) → (asks_point (rooms_along m lines count) (pending_behind (rooms_along m lines) lines count) line ≡ false → point ≡ last) → (asks_behind (rooms_along m lines) lines count ≡ true) ⊎ (point ≡ last)
  which_point point last calm = ⊎_elim
      (λ (asks : asks_point (rooms_along m lines count) (pending_behind (rooms_along m lines) lines count) line ≡ true). inl (ap (asks_point (rooms_along m lines count) (pending_behind (rooms_along m lines) lines count)) (line_behind count lines rest line is) ∙ asks))
      (λ (none : asks_point (rooms_along m lines count) (pending_behind (rooms_along m lines) lines count) line ≡ false). inr (calm none))
      (yes_or_no (asks_point (rooms_along m lines count) (pending_behind (rooms_along m lines) lines count) line))
    where
      yes_or_no : (b : Bool) → (b ≡ true) ⊎ (b ≡ false)
      yes_or_no true = inl refl
      yes_or_no false = inr refl

  pub onward : (disk : Shown) (session : Session) (n : ℕ) → up_to_cp (take count lines) ≤ n → n ≤ count → IsLastPoint m lines count n → (stands : StandsOnward disk session (after m lines n) (after m lines count) line) → (asks_point (rooms_along m lines count) (pending_behind (rooms_along m lines) lines count) line ≡ false → stands.after.point ≡ after m lines n) → IsOnward disk session
  onward disk session n least most asked stands calm = ⊎_elim
      (λ (cp : is_cp line ≡ true). at_next disk session cp (subst (λ (x : Machine). StandsFor disk session x x) (sym next_is) (stands.point cp)))
      (λ (other : is_cp line ≡ false). one_point disk session n stands.after.point other least most asked stands.after.one (which_point stands.after.point (after m lines n) calm) (subst (λ (x : Machine). StandsFor disk session stands.after.point x) (sym next_is) stands.after.stands))
      (true_or_false (is_cp line))
    where
      true_or_false : (b : Bool) → (b ≡ true) ⊎ (b ≡ false)
      true_or_false true = inl refl
      true_or_false false = inr refl

  -- an image while the next line is applied
  pub one_of : (n : ℕ) (output : List ℕ) (c : Image) → whole output ≡ count → up_to_cp (take count lines) ≤ n → n ≤ count → OneOf (after m lines n) (after m lines count) (after_line (after m lines count) line) c → IsAfterSome m lines output c
  one_of n output c counted least most one =
      let within : count ≤ length lines = omega (arith, below) in
      ⊎_elim
      (λ (e : machine_of c ≡ Some (after m lines n)). after_some m lines count n output c counted within least (omega (arith, most)) (omega (arith, most, within)) e)
      (λ (others : (machine_of c ≡ Some (after m lines count)) ⊎ (machine_of c ≡ Some (after_line (after m lines count) line))). ⊎_elim
      (λ (e : machine_of c ≡ Some (after m lines count)). after_some m lines count count output c counted within still_before (omega arith) within e)
      (λ (e : machine_of c ≡ Some (after_line (after m lines count) line)). after_some m lines count (count + 1) output c counted within (omega (arith, still_before)) (omega arith) (omega (arith, below)) (e ∙ ap Some (sym next_is)))
      others)
      one

  -- an image while its reply is given
  pub one_told : (n : ℕ) (before bytes : List ℕ) (k : ℕ) (c : Image) → whole before ≡ count → whole bytes ≡ 1 → up_to_cp (take count lines) ≤ n → up_to_cp (take (count + 1) lines) ≤ n → n ≤ count + 1 → machine_of c ≡ Some (after m lines n)
      → IsAfterSome m lines (before ++ take k bytes) c
  one_told n before bytes k c counted one first second most stands = ⊎_elim
      (λ (none : whole (before ++ take k bytes) ≡ count). after_some m lines count n (before ++ take k bytes) c none (omega (arith, below)) first most (omega (arith, most, below)) stands)
      (λ (some : whole (before ++ take k bytes) ≡ count + 1). after_some m lines (count + 1) n (before ++ take k bytes) c some (omega (arith, below)) second (omega (arith, most)) (omega (arith, most, below)) stands)
      (part_of_one before bytes k count counted one)
