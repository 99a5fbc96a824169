-- Which calls fail, and how many there were.
use Rattle.std.specs.Prelude.{◌≡◌, ◌≢◌, ◌+◌, ◌-◌, ◌^◌, ◌==◌, ℕ, Bool, List, [], ◌∷◌, ◌++◌, min}
use Rattle.std.specs.List.{list_any}
use Rattle.fv_memdisk.specs.declared.call.Call.{Call}
use Rattle.fv_memdisk.specs.declared.call.Call.TheVariants.{Read, Write, Barrier, Take, Give}
use Rattle.fv_memdisk.specs.declared.tally.Tally.{Tally}
use Rattle.fv_memdisk.specs.declared.tally.Tallies.{Tallies}

abbrev pub tally_of : Tallies → Call → Tally
tally_of t Read = t.reads
tally_of t Write = t.writes
tally_of t Barrier = t.barriers
tally_of t Take = t.takes
tally_of t Give = t.gives

-- how many calls of a kind there were, at most 2^64 - 1
abbrev pub made : Tallies → Call → ℕ
made t call = (tally_of t call).made

-- the numbers of the calls of a kind that fail
abbrev pub failing : Tallies → Call → List ℕ
failing t call = (tally_of t call).failing.items

-- whether the next call of a kind is one that fails
abbrev pub is_named : Tallies → Call → Bool
is_named t call = list_any (λ n. n == made t call) (failing t call)

-- no call was made, and none fails
pub record IsFresh (t : Tallies) : Type 0 where
  pub none_made : (call : Call) → made t call ≡ 0
  pub none_fails : (call : Call) → failing t call ≡ []

-- one call of the kind more
pub record CountsOne (call : Call) (old new : Tallies) : Type 0 where
  pub one : made new call ≡ min (made old call + 1) (2 ^ 64 - 1)
  pub others : (c : Call) → c ≢ call → made new c ≡ made old c
  pub same_failing : (c : Call) → failing new c ≡ failing old c

-- the call number nth of the kind fails too
pub record Names (call : Call) (nth : ℕ) (old new : Tallies) : Type 0 where
  pub same_made : (c : Call) → made new c ≡ made old c
  pub one : failing new call ≡ failing old call ++ nth ∷ []
  pub others : (c : Call) → c ≢ call → failing new c ≡ failing old c

pub record SameTallies (old new : Tallies) : Type 0 where
  pub same_made : (c : Call) → made new c ≡ made old c
  pub same_failing : (c : Call) → failing new c ≡ failing old c
