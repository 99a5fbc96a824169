-- Giving out bytes call by call.
use Rattle.std.proofs.Common.{◌≡◌, ◌<◌, ℕ, ◌+◌, ◌-◌, ◌++◌, take, drop, length, List, [], refl, sym, ap, ◌∙◌, arith, append_assoc}
use Rattle.std.proofs.lemmas.List.{append-nil, drop-drop, length-drop, take-append-drop}
use Rattle.std.proofs.Math.Seq.{take-add}
use Rattle.std.specs.Prelude.{IsTrue, Ok, Err}
use Rattle.fv_disk.specs.declared.Failed.{Failed}
use Rattle.fv_disk.specs.Shown.{Shown, IsDisk}
use Rattle.fv_disk.specs.HostCalls.{Rests, Gives, GivesAll}
use Rattle.fv_disk.specs.Crash.{Leaves}
use Rattle.fv_disk.specs.Partly.{PartlyGiven}
use Rattle.fv_disk.proofs.Moments.{started, goes_on}
use Rattle.fv_disk.proofs.Resting.{rests_itself, rests_on}

-- after some calls that were done: these bytes are left to give
pub record HasGiven (old : Shown) (bytes : List ℕ) (now : Shown) (rest : List ℕ) : Type 0 where
  pub left_over : (k : ℕ) × (rest ≡ drop k bytes) × (IsTrue old.tells → now.given ≡ old.given ++ take k bytes)
  pub rests : Rests old now
  pub left : now.ends.left ≡ old.ends.left
  pub source_faults : now.ends.source_faults ≡ old.ends.source_faults
  pub sink_faults : now.ends.sink_faults ≡ old.ends.sink_faults
  pub any_moment : Leaves old now (PartlyGiven old bytes)

pub begins : (disk : Shown) (bytes : List ℕ) → IsDisk disk → HasGiven disk bytes disk bytes
begins disk bytes laws = record {
  left_over = (0, refl, λ tells. sym (append-nil disk.given));
  rests = rests_itself disk;
  left = refl;
  source_faults = refl;
  sink_faults = refl;
  any_moment = started disk (PartlyGiven disk bytes) laws (λ c now. (now, λ tells. (0, sym (append-nil disk.given))));
}

-- the prefix that one more give makes longer
longer : (given bytes rest : List ℕ) (k n : ℕ) → rest ≡ drop k bytes → (given ++ take k bytes) ++ take n rest ≡ given ++ take (k + n) bytes
longer given bytes rest k n e = rw (append_assoc, e, take-add k n bytes) refl

pub gave : (old now new : Shown) (bytes rest : List ℕ) (n : ℕ) → HasGiven old bytes now rest → Gives now rest new (Ok n)
    → HasGiven old bytes new (drop n rest)
gave old now new bytes rest n so_far gives =
    let k : ℕ = so_far.left_over.0 in
    let given : IsTrue old.tells → new.given ≡ old.given ++ take (k + n) bytes = λ tells.
    gives.added (rw so_far.rests.stays.tells tells) ∙ ap (λ (x : List ℕ). x ++ take n rest) (so_far.left_over.2 tells) ∙ longer old.given bytes rest k n so_far.left_over.1 in
    let rests : Rests old new = rests_on old now new so_far.rests gives.rests in
    record {
      left_over = (k + n, ap (drop n) so_far.left_over.1 ∙ drop-drop n k bytes, given);
      rests = rests;
      left = gives.left ∙ so_far.left;
      source_faults = gives.source_faults ∙ so_far.source_faults;
      sink_faults = gives.cause.calm ∙ so_far.sink_faults;
      any_moment = goes_on old now new (PartlyGiven old bytes) so_far.any_moment gives.time (λ c left. (rests.stays.no_more c left, λ tells. (k + n, given tells)));
    }

pub ended : (old now : Shown) (bytes rest : List ℕ) → HasGiven old bytes now rest → rest ≡ [] → GivesAll old bytes now (Ok tt)
ended old now bytes rest so_far none =
    let k : ℕ = so_far.left_over.0 in
    let whole : take k bytes ++ [] ≡ bytes = ap (λ (x : List ℕ). take k bytes ++ x) (sym none ∙ so_far.left_over.1) ∙ take-append-drop k bytes in
    record {
      all = λ tells. so_far.left_over.2 tells ∙ ap (λ (x : List ℕ). old.given ++ x) (sym (append-nil (take k bytes)) ∙ whole);
      part = λ tells. tt;
      rests = so_far.rests;
      left = so_far.left;
      source_faults = so_far.source_faults;
      cause = record { later = omega (arith, so_far.sink_faults); calm = so_far.sink_faults; rose = tt };
    }

-- bytes are left where the next of them are given
before_end : (bytes rest : List ℕ) (k : ℕ) → rest ≡ drop k bytes → 0 < length rest → k < length bytes
before_end bytes rest k e some = let n : length rest ≡ length bytes - k = ap length e ∙ length-drop k bytes in omega (arith, n, some)

pub failed : (old now new : Shown) (bytes rest : List ℕ) (e : Failed) → 0 < length rest → HasGiven old bytes now rest → Gives now rest new (Err e) → GivesAll old bytes new (Err e)
failed old now new bytes rest e some so_far gives =
    let k : ℕ = so_far.left_over.0 in
    record {
      all = λ tells. tt;
      part = λ tells. (k, before_end bytes rest k so_far.left_over.1 some, gives.none (rw so_far.rests.stays.tells tells) ∙ so_far.left_over.2 tells);
      rests = rests_on old now new so_far.rests gives.rests;
      left = gives.left ∙ so_far.left;
      source_faults = gives.source_faults ∙ so_far.source_faults;
      cause = record { later = omega (arith, so_far.sink_faults, gives.cause.later); calm = tt; rose = rw (← so_far.sink_faults) gives.cause.rose };
    }
