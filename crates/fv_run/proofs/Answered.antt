-- Lines are answered, one after another.
use Rattle.std.proofs.Common.{◌≡◌, false, ℕ, ◌+◌, ◌<◌, ◌++◌, List, [], ◌∷◌, length, take, refl, sym, ap, subst, ◌∙◌, arith, append_assoc, append-nil}
use Rattle.std.specs.Prelude.{flat_map, Some, IsTrue, Result, Err}
use Rattle.fv_disk.specs.Shown.{Image, Shown, IsDisk}
use Rattle.fv_disk.specs.HostCalls.{Rests}
use Rattle.fv_disk.specs.Crash.{Leaves}
use Rattle.fv_disk.specs.Partly.{PartlyGiven}
use Rattle.fv_disk.proofs.Moments.{started, then, weaken}
use Rattle.fv_model.specs.declared.answers.Reply.{Reply}
use Rattle.fv_model.specs.Machines.{Machine}
use Rattle.fv_model.specs.Runs.{Line, after, after_line, AllowsAt, AnswersAll, Follows, whole}
use Rattle.fv_model.specs.Texts.{text}
use Rattle.fv_image.specs.WholeMachine.{machine_of}
use Rattle.fv_lines.specs.Reading.{IsStill}
use Rattle.fv_lines.proofs.Ends.{whole_append}
use Rattle.fv_aggregate.specs.declared.session.Session.{Session}
use Rattle.fv_aggregate.specs.Standing.{OneOf, StandsAfter}
use Rattle.fv_run.specs.declared.ending.Fault.{Fault}
use Rattle.fv_run.specs.declared.ending.Fault.TheVariants.{Sink}
use Rattle.fv_run.specs.Probes.{PathsAfter}
use Rattle.fv_run.specs.Promises.{line_at}
use Rattle.fv_run.specs.Running.{asks_point, begun, pending_behind, rooms_along, HasFollowed, IsAfterSome, IsAtRest, Survives}
use Rattle.fv_run.specs.Answering.{BeginsFor, HasAnswered, IsCounted, IsLine, StandsOnward}
use Rattle.fv_run.proofs.Acked.{up_to_take}
use Rattle.fv_run.proofs.Applying.{applied_one, next_point, none_applied, still_applied}
use Rattle.fv_run.proofs.Applying as applying
use Rattle.fv_run.proofs.Following.{follows_first, follows_part, line_behind, one_more, one_text, taken_next, left_next}
use Rattle.fv_run.proofs.Lines.{no_end}
use Rattle.fv_run.proofs.ProbesAlong.{paths_next, paths_still, probes_answered, replies_long, tells_next}
use Rattle.fv_run.proofs.Sessions.{images_stand, rests_standing_for}
use Rattle.fv_run.proofs.Surviving.{after_some, asked_for, rested, rested_after, which_point, IsOnward, one_of, one_told}

-- what a crash leaves, with an output that is known
pub survives : (m : Machine) (lines : List Line) (before : List ℕ) (c : Image) (g output : List ℕ) → g ≡ before ++ output → IsAfterSome m lines output c → Survives m lines before c g
survives m lines before c g output is some = (output, is, some)

-- before the first line
pub none_answered : (m : Machine) (lines : List Line) (old : Shown) (session : Session) → IsDisk old → BeginsFor old session m → HasAnswered m lines lines old session old 0
none_answered m lines old session laws stands = record {
  replies = [];
  allowed = tt;
  given = sym (append-nil old.given);
  answered = refl;
  left_over = refl;
  paths = λ keep. stands.paths;
  probes = λ k less. absurd (omega (arith, less));
  applied = none_applied m lines old session stands;
  crash = started old (Survives m lines old.given) laws
      (λ c now. survives m lines old.given c old.given [] (sym (append-nil old.given))
      (after_some m lines 0 0 [] c refl (omega arith) (up_to_take 0 lines (omega arith)) (omega arith) (omega arith) (images_stand old session m m stands.stands c now)));
}

module _ (m : Machine) (lines left : List Line) (old : Shown) (session : Session) (now : Shown) (count : ℕ) (so_far : HasAnswered m lines left old session now count) where
  abbrev output : List ℕ
  output = flat_map text so_far.replies

  -- what was given by now follows the machine
  pub followed : (new : Shown) → new.given ≡ now.given → HasFollowed m lines old new
  followed new same = record {
    output = output;
    given = same ∙ so_far.given;
    follows = follows_first m lines count so_far.replies so_far.allowed;
    probes = probes_answered m lines old.reads output so_far.replies [] count (sym (append-nil output)) so_far.applied.within so_far.allowed
        (λ k low in_lines. let answered = so_far.answered in omega (arith, low, answered)) so_far.probes;
  }

  here : (c : Image) (g : List ℕ) → machine_of c ≡ Some (after m lines so_far.applied.point) → g ≡ now.given → Survives m lines old.given c g
  here c g stands same = survives m lines old.given c g output (same ∙ so_far.given)
      (after_some m lines count so_far.applied.point output c so_far.answered so_far.applied.within so_far.applied.least (let most = so_far.applied.most in omega (arith, most)) (let most = so_far.applied.most in let within = so_far.applied.within in omega (arith, most, within)) stands)

  -- nothing more was done
  pub rested_here : (new : Shown) → Rests now new → new.given ≡ now.given → (result : Result Unit Fault) → IsAtRest m lines result old new
  rested_here new rests same result = rested m lines old new session (after m lines count) count so_far.applied.point output (same ∙ so_far.given) so_far.answered so_far.applied.within so_far.applied.least so_far.applied.most result
      (asked_for m lines output result count so_far.applied.point so_far.answered so_far.applied.within so_far.applied.asked) (rests_standing_for now new session (after m lines so_far.applied.point) (after m lines count) rests so_far.applied.stands)

  -- while the source is asked
  pub crash_asked : (mid : Shown) → Leaves now mid (IsStill now) → Leaves old mid (Survives m lines old.given)
  crash_asked mid still = then old now mid (Survives m lines old.given) so_far.crash
      (weaken now mid (IsStill now) (Survives m lines old.given) (λ (c : Image) (g : List ℕ) s. here c g (images_stand now session (after m lines so_far.applied.point) (after m lines count) so_far.applied.stands c s.0) s.1) still)

  pub asked : (mid : Shown) → Rests now mid → mid.given ≡ now.given → Leaves now mid (IsStill now) → HasAnswered m lines left old session mid count
  asked mid rests same still = record {
    replies = so_far.replies;
    allowed = so_far.allowed;
    given = same ∙ so_far.given;
    answered = so_far.answered;
    left_over = so_far.left_over;
    paths = paths_still m lines count old.reads now.reads mid.reads session rests.stays.reads so_far.paths;
    probes = so_far.probes;
    applied = still_applied m lines old session now count so_far.applied mid rests;
    crash = crash_asked mid still;
  }

-- the others are these
pub left_as : (m : Machine) (lines left others : List Line) (old : Shown) (session : Session) (now : Shown) (count : ℕ) → left ≡ others → HasAnswered m lines left old session now count → HasAnswered m lines others old session now count
left_as m lines left others old session now count is so_far = subst (λ (l : List Line). HasAnswered m lines l old session now count) is so_far

-- the next line is applied, and then answered
module _ (m : Machine) (lines : List Line) (line : Line) (rest : List Line) (old : Shown) (session : Session) (mid : Shown) (count : ℕ) (so_far : HasAnswered m lines (line ∷ rest) old session mid count)
    (next_session : Session) (end : Shown) (meanwhile : Leaves mid end (λ c g. OneOf (after m lines so_far.applied.point) (after m lines count) (after_line (after m lines count) line) c × (g ≡ mid.given))) (calm : asks_point (rooms_along m lines count) (pending_behind (rooms_along m lines) lines count) line ≡ false → end.reads ≡ mid.reads) where
  abbrev given_so_far : List ℕ
  given_so_far = flat_map text so_far.replies

  -- while it is applied
  pub crash_applied : Leaves old end (Survives m lines old.given)
  crash_applied = then old mid end (Survives m lines old.given) so_far.crash
      (weaken mid end (λ c g. OneOf (after m lines so_far.applied.point) (after m lines count) (after_line (after m lines count) line) c × (g ≡ mid.given)) (Survives m lines old.given)
      (λ (c : Image) (g : List ℕ) one. survives m lines old.given c g given_so_far (one.1 ∙ so_far.given)
      (one_of m lines rest line count so_far.left_over so_far.applied.point given_so_far c so_far.answered so_far.applied.least so_far.applied.most one.0)) meanwhile)

  -- the last point stays where the line asks for none
  stays : (now : Machine) (stands : StandsAfter end next_session (after m lines so_far.applied.point) (after m lines count) now) → asks_point (rooms_along m lines count) (pending_behind (rooms_along m lines) lines count) line ≡ false → stands.point ≡ after m lines so_far.applied.point
  stays = applying.stays m lines line rest old session mid count so_far.left_over so_far.applied next_session end calm

  -- it wasn't applied
  pub rested_unapplied : end.given ≡ mid.given → (result : Result Unit Fault) → begun result given_so_far ≡ whole given_so_far + 1 → StandsAfter end next_session (after m lines so_far.applied.point) (after m lines count) (after m lines count) → IsAtRest m lines result old end
  rested_unapplied same result began stands = rested_after m lines old end next_session (after m lines count) count so_far.applied.point given_so_far (same ∙ so_far.given) so_far.answered so_far.applied.within so_far.applied.least so_far.applied.most result so_far.applied.asked stands (omega (arith, began, so_far.answered))
      (which_point m lines rest line count so_far.left_over stands.point (after m lines so_far.applied.point) (stays (after m lines count) stands))

  module _ (told : IsTrue end.tells) (same : end.given ≡ mid.given) (reply : Reply) (allowed : AllowsAt (after m lines count) line reply)
      (stands : StandsOnward end next_session (after m lines so_far.applied.point) (after m lines count) line)
      (new : Shown) (any_moment : Leaves end new (PartlyGiven end (text reply))) (one : whole (text reply) ≡ 1) where
    next : IsOnward m lines rest line count so_far.left_over end next_session
    next = next_point m lines line rest old session mid count so_far.left_over so_far.applied next_session end calm stands

    given_at : (k : ℕ) (g : List ℕ) → g ≡ end.given ++ take k (text reply) → g ≡ old.given ++ (given_so_far ++ take k (text reply))
    given_at k g is = is ∙ ap (λ (l : List ℕ). l ++ take k (text reply)) (same ∙ so_far.given) ∙ append_assoc old.given given_so_far (take k (text reply))

    -- while its reply is given
    pub crash_told : Leaves old new (Survives m lines old.given)
    crash_told = then old end new (Survives m lines old.given) crash_applied
        (weaken end new (PartlyGiven end (text reply)) (Survives m lines old.given)
        (λ (c : Image) (g : List ℕ) part.
        let k = part.1 told in
        survives m lines old.given c g (given_so_far ++ take k.0 (text reply)) (given_at k.0 g k.1)
        (one_told m lines rest line count so_far.left_over next.point given_so_far (text reply) k.0 c so_far.answered one next.before next.least next.most
        (images_stand end next_session (after m lines next.point) (after m lines (count + 1)) next.stands c part.0))) any_moment)

    all_allowed : AnswersAll m (take (count + 1) lines) (so_far.replies ++ reply ∷ [])
    all_allowed = subst (λ (l : List Line). AnswersAll m l (so_far.replies ++ reply ∷ [])) (sym (taken_next count lines rest line so_far.left_over)) (one_more m (take count lines) so_far.replies line reply so_far.allowed allowed)

    -- a part of the reply was given
    pub followed_part : IsLine (text reply) → (k : ℕ) × (k < length (text reply)) × (new.given ≡ end.given ++ take k (text reply)) → HasFollowed m lines old new
    followed_part is part = record {
      output = given_so_far ++ take part.0 (text reply);
      given = given_at part.0 new.given part.2;
      probes =
          let none : whole (take part.0 (text reply)) ≡ 0 = no_end (text reply) part.0 is part.1 in
          let counted : whole (given_so_far ++ take part.0 (text reply)) ≡ count = whole_append given_so_far (take part.0 (text reply)) ∙ rw (so_far.answered, none) (omega arith) in
          probes_answered m lines old.reads (given_so_far ++ take part.0 (text reply)) so_far.replies (take part.0 (text reply)) count refl
          so_far.applied.within so_far.allowed (λ k low in_lines. omega (arith, low, counted)) so_far.probes;
      follows = follows_part m lines given_so_far (text reply) part.0 (subst (λ (l : List ℕ). Follows m lines l) (one_text so_far.replies reply) (follows_first m lines (count + 1) (so_far.replies ++ reply ∷ []) all_allowed));
    }

    pub rested_part : Rests end new → IsLine (text reply) → (k : ℕ) × (k < length (text reply)) × (new.given ≡ end.given ++ take k (text reply)) → (fault : Fault) → fault ≡ Sink → IsAtRest m lines (Err fault) old new
    rested_part rests is part fault sink =
        let none : whole (take part.0 (text reply)) ≡ 0 = no_end (text reply) part.0 is part.1 in
        let counted : whole (given_so_far ++ take part.0 (text reply)) ≡ count = whole_append given_so_far (take part.0 (text reply)) ∙ rw (so_far.answered, none) (omega arith) in
        rested_after m lines old new next_session (after_line (after m lines count) line) count so_far.applied.point (given_so_far ++ take part.0 (text reply)) (given_at part.0 new.given part.2) counted so_far.applied.within so_far.applied.least so_far.applied.most (Err fault) so_far.applied.asked
        (record { point = stands.after.point; one = stands.after.one; stands = rests_standing_for end new next_session stands.after.point (after_line (after m lines count) line) rests stands.after.stands })
        (subst (λ (f : Fault). count < begun (Err f) (given_so_far ++ take part.0 (text reply))) (sym sink) (omega (arith, counted)))
        (which_point m lines rest line count so_far.left_over stands.after.point (after m lines so_far.applied.point) (stays (after_line (after m lines count) line) stands.after))

    is_next : line_at lines count ≡ line
    is_next = line_behind count lines rest line so_far.left_over

    more_text : whole (flat_map text (so_far.replies ++ reply ∷ [])) ≡ count + 1
    more_text = ap whole (one_text so_far.replies reply) ∙ whole_append given_so_far (text reply) ∙ rw (so_far.answered, one) refl

    -- all of it was given
    pub answered_one : Rests end new → new.given ≡ end.given ++ text reply → IsCounted (rooms_along m lines) lines old next_session new (count + 1)
        → PathsAfter (after m lines count) line reply mid.reads session end.reads next_session → HasAnswered m lines rest old next_session new (count + 1)
    answered_one rests given counted behind = record {
      paths = paths_still m lines (count + 1) old.reads end.reads new.reads next_session rests.stays.reads
          (paths_next m lines count line is_next old.reads mid.reads session end.reads next_session reply so_far.paths behind);
      probes = tells_next m lines count line is_next old.reads mid.reads session end.reads next_session reply so_far.paths behind so_far.replies
          (replies_long m lines count so_far.replies so_far.applied.within so_far.allowed) so_far.probes;
      replies = so_far.replies ++ reply ∷ [];
      allowed = all_allowed;
      given = given ∙ ap (λ (l : List ℕ). l ++ text reply) (same ∙ so_far.given) ∙ append_assoc old.given given_so_far (text reply) ∙ ap (λ (l : List ℕ). old.given ++ l) (sym (one_text so_far.replies reply));
      answered = more_text;
      left_over = left_next count lines rest line so_far.left_over;
      applied = applied_one m lines line rest old session mid count so_far.left_over so_far.applied next_session end calm stands new rests counted;
      crash = crash_told;
    }
