-- What a source shows of which nothing is told.
use Rattle.std.specs.Prelude.{ℕ, None, refl}
use Rattle.std.specs.FinMap as fin
use Rattle.fv_tree.specs.Sources.{Shown, IsSource}

-- no block is held, none is in use, none can be placed, and each load answers that the place isn't known and makes no look-up
abbrev pub shown_in_silence : ℕ → Shown
shown_in_silence strays = record {
  held = fin.empty;
  used = λ v. None;
  strays = strays;
  right = λ v pvbn. Unit {0};
  read_at = λ p. 0;
  room = 0;
  cost = λ p. 0;
  spent = 0;
  faults = 0;
  damages = 0;
  last = record { at = 0; want = 0; found = 0 };
  is_damage = λ d. ⊥;
}

pub silence_is_source : (strays : ℕ) → IsSource (shown_in_silence strays)
silence_is_source strays = record { damage = λ some. absurd (some refl) }
