-- What a reader of a script holds of it.
use Rattle.std.specs.Prelude.{ℕ, Bool, true, false, List, []}

-- The line that was read last, as far as it was read, without its end, and whether its end was read, too; the bytes that were taken of the
-- source and aren't read yet, how many bytes more may be read, and whether the source has said that it has none left.
pub record Held : Type 0 where
  pub line : List ℕ
  pub closed : Bool
  pub bytes : List ℕ
  pub room : ℕ
  pub ended : Bool

abbrev pub none_taken : ℕ → Held
none_taken limit = record { line = []; closed = true; bytes = []; room = limit; ended = false }

-- a line begins, of which nothing was read
abbrev pub begun : Held → Held
begun held = record held { line = []; closed = false }
