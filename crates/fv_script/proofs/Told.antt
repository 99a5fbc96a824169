-- Giving out several pieces, one after another.
use Rattle.std.proofs.Common.{◌≡◌, ℕ, ◌++◌, List, [], refl, ap, sym, ◌∙◌, subst, arith, append_assoc, append-nil}
use Rattle.std.specs.Prelude.{Result, Ok, Err}
use Rattle.fv_disk.specs.declared.Failed.{Failed}
use Rattle.fv_disk.specs.Shown.{Image, Shown, IsDisk}
use Rattle.fv_disk.specs.HostCalls.{GivesAll}
use Rattle.fv_disk.specs.Partly.{PartlyGiven}
use Rattle.fv_disk.proofs.Moments as moments
use Rattle.fv_disk.proofs.Resting.{rests_on}
use Rattle.fv_script.specs.Telling.{Tells}
use Rattle.fv_script.proofs.Prefixes.{in_front, behind, cut_in_front, cut_behind}

pub told : (old new : Shown) (bytes line : List ℕ) (result : Result Unit Failed) → Tells old bytes new result → bytes ≡ line → Tells old line new result
told old new bytes line result tells is = subst (λ (l : List ℕ). Tells old l new result) is tells

partly_more : (old : Shown) (first second : List ℕ) (c : Image) (g : List ℕ) → PartlyGiven old first c g → PartlyGiven old (first ++ second) c g
partly_more old first second c g p = (p.0, λ tells. in_front old.given first second g (p.1 tells))

partly_behind : (old mid : Shown) (first second : List ℕ) → GivesAll old first mid (Ok tt) → (c : Image) (g : List ℕ) → PartlyGiven mid second c g → PartlyGiven old (first ++ second) c g
partly_behind old mid first second gave c g p =
    (gave.rests.stays.no_more c p.0, λ tells. behind old.given first second mid.given g (gave.all tells) (p.1 (rw gave.rests.stays.tells tells)))

gives_both : (old mid new : Shown) (first second : List ℕ) (result : Result Unit Failed) → GivesAll old first mid (Ok tt) → GivesAll mid second new result → GivesAll old (first ++ second) new result
gives_both old mid new first second (Ok done) a b = record {
  all = λ tells. b.all (rw a.rests.stays.tells tells) ∙ ap (λ (l : List ℕ). l ++ second) (a.all tells) ∙ append_assoc old.given first second;
  part = λ tells. tt;
  rests = rests_on old mid new a.rests b.rests;
  left = b.left ∙ a.left;
  source_faults = b.source_faults ∙ a.source_faults;
  cause = record { later = omega (arith, a.cause.later, b.cause.later); calm = b.cause.calm ∙ a.cause.calm; rose = tt };
}
gives_both old mid new first second (Err e) a b = record {
  all = λ tells. tt;
  part = λ tells. cut_behind old.given first second mid.given new.given (a.all tells) (b.part (rw a.rests.stays.tells tells));
  rests = rests_on old mid new a.rests b.rests;
  left = b.left ∙ a.left;
  source_faults = b.source_faults ∙ a.source_faults;
  cause = record { later = omega (arith, a.cause.later, b.cause.later); calm = tt; rose = rw (← a.cause.calm) b.cause.rose };
}

-- one piece, and then another
pub both : (old mid new : Shown) (first second : List ℕ) (result : Result Unit Failed) → Tells old first mid (Ok tt) → Tells mid second new result → Tells old (first ++ second) new result
both old mid new first second result a b = record {
  gives = gives_both old mid new first second result a.gives b.gives;
  any_moment = moments.then old mid new (PartlyGiven old (first ++ second)) (moments.weaken old mid (PartlyGiven old first) (PartlyGiven old (first ++ second)) (partly_more old first second) a.any_moment) (moments.weaken mid new (PartlyGiven mid second) (PartlyGiven old (first ++ second)) (partly_behind old mid first second a.gives) b.any_moment);
}

-- the first piece failed, and the second was not begun
pub stopped : (old new : Shown) (first second : List ℕ) (e : Failed) → Tells old first new (Err e) → Tells old (first ++ second) new (Err e)
stopped old new first second e a = record {
  gives = record {
    all = λ tells. tt;
    part = λ tells. cut_in_front old.given first second new.given (a.gives.part tells);
    rests = a.gives.rests;
    left = a.gives.left;
    source_faults = a.gives.source_faults;
    cause = a.gives.cause;
  };
  any_moment = moments.weaken old new (PartlyGiven old first) (PartlyGiven old (first ++ second)) (partly_more old first second) a.any_moment;
}

-- before the first piece
pub nothing : (disk : Shown) → IsDisk disk → Tells disk [] disk (Ok tt)
nothing disk laws = record {
  gives = record {
    all = λ tells. sym (append-nil disk.given);
    part = λ tells. tt;
    rests = record { stays = record { tells = refl; reads = refl; no_more = λ c now. now; no_fewer = λ c now. now }; faults = refl; write_faults = refl };
    left = refl;
    source_faults = refl;
    cause = record { later = omega arith; calm = refl; rose = tt };
  };
  any_moment = moments.started disk (PartlyGiven disk []) laws (λ c now. (now, λ tells. (0, sym (append-nil disk.given))));
}
