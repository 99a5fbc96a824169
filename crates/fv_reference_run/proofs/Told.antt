-- What the status tells of a run.
use Rattle.std.proofs.Common.{◌≡◌, ◌≢◌, ℕ, List, [], ◌∷◌, ◌++◌, refl, sym, ap₂, subst, arith}
use Rattle.std.specs.Prelude.{◌↔◌, Option, Some, None, Result, Ok, Err, IsTrue, Contains}
use Rattle.fv_disk.specs.Shown.{Shown}
use Rattle.fv_disk.specs.HostCalls.{Rests}
use Rattle.fv_disk.proofs.Resting.{rests_itself}
use Rattle.fv_model.specs.Machines.{empty_machine}
use Rattle.fv_model.specs.Lines.{lines}
use Rattle.fv_lines.specs.Counts.{Counts, told_by}
use Rattle.fv_lines.proofs.Counting.{counts_none}
use Rattle.fv_reference_run.specs.declared.ending.Fault.{Fault}
use Rattle.fv_reference_run.specs.declared.ending.Fault.TheVariants.{Usage, Source, Sink, Memory}
use Rattle.fv_reference_run.specs.declared.words.Order.{Order}
use Rattle.fv_reference_run.specs.declared.words.Order.TheVariants.{Answer, Gen}
use Rattle.fv_reference_run.specs.Endings.{status_in, fault_in, raised_by, Ends, IsGiven}
use Rattle.fv_reference_run.specs.Output.{output}
use Rattle.fv_reference_run.specs.Running.{Runs, Prints, Asked}
use Rattle.fv_script.specs.Generated.{generated}
use Rattle.fv_script.specs.Telling.{Tells, unnamed}
use Rattle.fv_saying.specs.Saying.{script_text}
use Rattle.fv_reference_run.proofs.Answered.{ends_given}
use Rattle.fv_script.proofs.Prefixes.{IsCutShort}

-- what the status tells, whatever was asked for
pub record TellsAll (asked : Option Order) (old new : Shown) (status : ℕ) : Type 0 where
  pub statuses : Contains (0 ∷ 3 ∷ 4 ∷ 6 ∷ 7 ∷ []) status
  pub usage : (status ≡ 7) ↔ (asked ≡ None)
  pub counts : Counts old new (told_by status)
  pub answered : (blocks : ℕ) → asked ≡ Some (Answer blocks) → IsTrue old.tells → status ≡ 0 → new.given ≡ old.given ++ output (empty_machine blocks) (lines old.ends.left)
  pub partly : (blocks : ℕ) → asked ≡ Some (Answer blocks) → IsTrue old.tells → status ≢ 0 → IsCutShort old.given (output (empty_machine blocks) (lines old.ends.left)) new.given
  pub printed : (seed count : ℕ) → asked ≡ Some (Gen seed count) → IsTrue old.tells → status ≡ 0 → new.given ≡ old.given ++ script_text (generated seed count)
  pub cut : (seed count : ℕ) → asked ≡ Some (Gen seed count) → IsTrue old.tells → status ≢ 0 → IsCutShort old.given (script_text (generated seed count)) new.given
  pub left : (seed count : ℕ) → asked ≡ Some (Gen seed count) → new.ends.left ≡ old.ends.left
  pub disk : Rests old new

same_blocks : (a b : ℕ) → Some (Answer a) ≡ Some (Answer b) → a ≡ b
same_blocks a b e = cc

abbrev nothing : Option Order
nothing = None

asks_none : {A : Type 0} (order : Order) → nothing ≡ Some order → A
asks_none order e = absurd cc

asks_some : (order : Order) → Some order ≡ None → ⊥
asks_some order e = cc

other_order : {A : Type 0} (blocks seed count : ℕ) → Some (Answer blocks) ≡ Some (Gen seed count) → A
other_order blocks seed count e = absurd cc

same_script : (a b x y : ℕ) → Some (Gen a b) ≡ Some (Gen x y) → script_text (generated a b) ≡ script_text (generated x y)
same_script a b x y e = ap₂ (λ (s n : ℕ). script_text (generated s n)) (same_seed e) (same_count e)
  where
    same_seed : Some (Gen a b) ≡ Some (Gen x y) → a ≡ x
    same_seed e = cc

    same_count : Some (Gen a b) ≡ Some (Gen x y) → b ≡ y
    same_count e = cc

known : (result : Result Unit Fault) → Contains (0 ∷ 3 ∷ 4 ∷ 6 ∷ 7 ∷ []) (status_in result)
known (Ok done) = (0, omega arith, refl)
known (Err Source) = (1, omega arith, refl)
known (Err Sink) = (2, omega arith, refl)
known (Err Memory) = (3, omega arith, refl)
known (Err Usage) = (4, omega arith, refl)

counts_told : (old new : Shown) (result : Result Unit Fault) → Counts old new (raised_by (fault_in result)) → Counts old new (told_by (status_in result))
counts_told old new (Ok done) counts = counts
counts_told old new (Err Source) counts = counts
counts_told old new (Err Sink) counts = counts
counts_told old new (Err Memory) counts = counts
counts_told old new (Err Usage) counts = counts

tells_usage : (old new : Shown) → Rests old new → Counts old new None → TellsAll None old new 7
tells_usage old new rests counts = record {
  statuses = known (Err Usage);
  usage = (λ e. refl, λ e. refl);
  counts = counts;
  answered = λ blocks e. asks_none (Answer blocks) e;
  partly = λ blocks e. asks_none (Answer blocks) e;
  printed = λ seed count e. asks_none (Gen seed count) e;
  cut = λ seed count e. asks_none (Gen seed count) e;
  left = λ seed count e. asks_none (Gen seed count) e;
  disk = rests;
}

not_usage : (result : Result Unit Fault) → fault_in result ≢ Some Usage → status_in result ≡ 7 → ⊥
not_usage (Ok done) understood e = omega arith
not_usage (Err Source) understood e = omega arith
not_usage (Err Sink) understood e = omega arith
not_usage (Err Memory) understood e = omega arith
not_usage (Err Usage) understood e = understood refl

all_given : (result : Result Unit Fault) (old bytes new : List ℕ) → IsGiven (fault_in result) old bytes new → status_in result ≡ 0 → new ≡ old ++ bytes
all_given (Ok done) old bytes new given e = given
all_given (Err Source) old bytes new given e = absurd (omega arith)
all_given (Err Sink) old bytes new given e = absurd (omega arith)
all_given (Err Memory) old bytes new given e = absurd (omega arith)
all_given (Err Usage) old bytes new given e = absurd (omega arith)

cut_short : (result : Result Unit Fault) (old bytes new : List ℕ) → IsGiven (fault_in result) old bytes new → status_in result ≢ 0 → IsCutShort old bytes new
cut_short (Ok done) old bytes new given ne = absurd (ne refl)
cut_short (Err fault) old bytes new given ne = given

tells_run : (blocks : ℕ) (old new : Shown) (result : Result Unit Fault) → Runs (empty_machine blocks) (lines old.ends.left) old new result → TellsAll (Some (Answer blocks)) old new (status_in result)
tells_run blocks old new result r =
    let script = λ (n : ℕ). output (empty_machine n) (lines old.ends.left) in
    record {
      statuses = known result;
      usage = (λ e. absurd (not_usage result r.ends.understood e), λ e. absurd (asks_some (Answer blocks) e));
      counts = counts_told old new result r.ends.counts;
      answered = λ other same tells e. rw (← same_blocks blocks other same) (all_given result old.given (script blocks) new.given (r.given tells) e);
      partly = λ other same tells ne. rw (← same_blocks blocks other same) (cut_short result old.given (script blocks) new.given (r.given tells) ne);
      printed = λ seed count e. other_order blocks seed count e;
      cut = λ seed count e. other_order blocks seed count e;
      left = λ seed count e. other_order blocks seed count e;
      disk = r.ends.rests;
    }

-- the script of a seed
given_of : (old new : Shown) (bytes : List ℕ) (result : Result Unit Fault) → Tells old bytes new (unnamed result) → IsTrue old.tells → IsGiven (fault_in result) old.given bytes new.given
given_of old new bytes (Ok done) tells t = tells.gives.all t
given_of old new bytes (Err fault) tells t = tells.gives.part t

tells_print : (seed count : ℕ) (old new : Shown) (result : Result Unit Fault) → Prints seed count old new result → TellsAll (Some (Gen seed count)) old new (status_in result)
tells_print seed count old new result p =
    let text : List ℕ = script_text (generated seed count) in
    let ends : Ends old new (fault_in result) = ends_given old new text result p.tells p.sink in
    record {
      statuses = known result;
      usage = (λ e. absurd (not_usage result ends.understood e), λ e. absurd (asks_some (Gen seed count) e));
      counts = counts_told old new result ends.counts;
      answered = λ blocks e. other_order blocks seed count (sym e);
      partly = λ blocks e. other_order blocks seed count (sym e);
      printed = λ x y same tells e. rw (← same_script seed count x y same) (all_given result old.given text new.given (given_of old new text result p.tells tells) e);
      cut = λ x y same tells ne. rw (← same_script seed count x y same) (cut_short result old.given text new.given (given_of old new text result p.tells tells) ne);
      left = λ x y same. p.tells.gives.left;
      disk = ends.rests;
    }

pub tells : (asked : Option Order) (old new : Shown) (result : Result Unit Fault) → Asked asked old new result → TellsAll asked old new (status_in result)
tells None old new result a = subst (λ (r : Result Unit Fault). TellsAll None old new (status_in r)) (sym (a.usage refl)) (tells_usage old new a.disk (subst (λ (r : Result Unit Fault). Counts old new (raised_by (fault_in r))) (a.usage refl) a.counts))
tells (Some (Answer blocks)) old new result a = tells_run blocks old new result (a.runs blocks refl)
tells (Some (Gen seed count)) old new result a = tells_print seed count old new result (a.prints seed count refl)

pub asks_nothing : (asked : Option Order) (host : Shown) → asked ≡ None → Asked asked host host (Err Usage)
asks_nothing asked host none = record {
  usage = λ e. refl;
  counts = counts_none host;
  disk = rests_itself host;
  runs = λ blocks some. absurd (never asked (Answer blocks) none some);
  prints = λ seed count some. absurd (never asked (Gen seed count) none some);
}
  where
    never : (asked : Option Order) (order : Order) → asked ≡ None → asked ≡ Some order → ⊥
    never asked order none some = cc

pub asks_blocks : (asked : Option Order) (blocks : ℕ) (old new : Shown) (result : Result Unit Fault) → asked ≡ Some (Answer blocks) → Runs (empty_machine blocks) (lines old.ends.left) old new result → Asked asked old new result
asks_blocks asked blocks old new result some runs = record {
  usage = λ none. absurd (never none);
  counts = runs.ends.counts;
  disk = runs.ends.rests;
  runs = λ other also. subst (λ (n : ℕ). Runs (empty_machine n) (lines old.ends.left) old new result) (same other also) runs;
  prints = λ seed count also. absurd (another seed count also);
}
  where
    never : asked ≡ None → ⊥
    never none = cc

    same : (other : ℕ) → asked ≡ Some (Answer other) → blocks ≡ other
    same other also = cc

    another : (seed count : ℕ) → asked ≡ Some (Gen seed count) → ⊥
    another seed count also = cc

pub asks_gen : (asked : Option Order) (seed count : ℕ) (old new : Shown) (result : Result Unit Fault) → asked ≡ Some (Gen seed count) → Prints seed count old new result → Asked asked old new result
asks_gen asked seed count old new result some prints =
    let ends : Ends old new (fault_in result) = ends_given old new (script_text (generated seed count)) result prints.tells prints.sink in
    record {
      usage = λ none. absurd (never none);
      counts = ends.counts;
      disk = ends.rests;
      runs = λ blocks also. absurd (other blocks also);
      prints = λ x y also. subst (λ (n : ℕ). Prints x n old new result) (same_count x y also) (subst (λ (n : ℕ). Prints n count old new result) (same_seed x y also) prints);
    }
  where
    never : asked ≡ None → ⊥
    never none = cc

    other : (blocks : ℕ) → asked ≡ Some (Answer blocks) → ⊥
    other blocks also = cc

    same_seed : (x y : ℕ) → asked ≡ Some (Gen x y) → seed ≡ x
    same_seed x y also = cc

    same_count : (x y : ℕ) → asked ≡ Some (Gen x y) → count ≡ y
    same_count x y also = cc
