-- What the disk is after a list of calls.
use Rattle.std.specs.Prelude.{◌≡◌, ◌==◌, ◌+◌, ◌&&◌, ◌||◌, ℕ, Bool, false, if◌then◌else◌, List, [], ◌∷◌, ◌++◌, nat_le}
use Rattle.std.specs.List.{list_any}
use Rattle.fv_disk.specs.Shown.{Image, IsBlock}
use Rattle.fv_memdisk.specs.declared.kept.Event.{Event}
use Rattle.fv_memdisk.specs.declared.kept.Event.TheVariants.{Write, Torn, Barrier, Give}
use Rattle.fv_memdisk.specs.declared.kept.Kept.{Kept}

-- whether a block is one of these
abbrev pub is_among : List ℕ → ℕ → Bool
is_among blocks a = list_any (λ b. b == a) blocks

-- the blocks, with this one at their end where it wasn't among them
unfoldable pub noted : List ℕ → ℕ → List ℕ
noted blocks at = if is_among blocks at then blocks else blocks ++ at ∷ []

-- the image with this block
abbrev pub put : Image → ℕ → List ℕ → Image
put image at block a = if a == at then block else image a

pub record State : Type 0 where
  -- what reads give
  pub reads : Image
  -- what they gave at the last barrier
  pub settled : Image
  -- the blocks written since then, in the order of their first writes
  pub written : List ℕ
  -- how many calls there were up to that barrier
  pub start : ℕ
  -- how many there were in all
  pub count : ℕ

-- before the first call
abbrev pub blank : Image → State
blank base = record { reads = base; settled = base; written = []; start = 0; count = 0 }

-- one call more
unfoldable pub step : State → Event → State
step s (Write at block) = record { reads = put s.reads at block; settled = s.settled; written = noted s.written at; start = s.start; count = s.count + 1 }
step s (Torn at) = record { reads = s.reads; settled = s.settled; written = noted s.written at; start = s.start; count = s.count + 1 }
step s Barrier = record { reads = s.reads; settled = s.reads; written = []; start = s.count + 1; count = s.count + 1 }
step s Give = record { reads = s.reads; settled = s.settled; written = s.written; start = s.start; count = s.count + 1 }

unfoldable pub replay : State → List Kept → State
replay s [] = s
replay s (k ∷ ks) = replay (step s k.event) ks

-- whether a write of this block was forgotten between these two counts of calls
unfoldable pub was_forgotten : List (ℕ × ℕ) → ℕ → ℕ → ℕ → Bool
was_forgotten places start count a = list_any (λ p. nat_le start p.0 && (nat_le p.0 count && (p.1 == a))) places

-- whether a crash may leave any block there: one was written since the last barrier
unfoldable pub is_open : State → List (ℕ × ℕ) → ℕ → Bool
is_open s places a = is_among s.written a || was_forgotten places s.start s.count a

-- a crash leaves whole blocks, and what was there at the last barrier where none was written since
pub record IsLeft (s : State) (places : List (ℕ × ℕ)) (c : Image) : Type 0 where
  pub blocks : (a : ℕ) → IsBlock (c a)
  pub others : (a : ℕ) → is_open s places a ≡ false → c a ≡ s.settled a
