-- The generated script: commands over one volume with eight files, drawn from a seed.
use Rattle.std.specs.Prelude.{◌≡◌, ℕ, zero, suc, ◌+◌, ◌*◌, ◌/◌, ◌%◌, ◌^◌, nat_lt, nat_eq, Bool, true, false, List, [], ◌∷◌, ◌++◌, codes, Option, Some, None, if◌then◌else◌}
use Rattle.std.specs.Int.{w32, to_be_bytes}
use Rattle.fv_model.specs.declared.commands.Kind.TheVariants.{Thin}
use Rattle.fv_model.specs.declared.commands.Command.{Command}
use Rattle.fv_model.specs.declared.commands.Command.TheVariants.{VolCreate, New, Put, Get, Cut, SnapCreate, SnapDelete, Cp}
use Rattle.fv_model.specs.Words.{padded}

-- what follows a state: the linear congruence of Knuth's MMIX
unfoldable pub after : ℕ → ℕ
after x = (x * 6364136223846793005 + 1442695040888963407) % 2 ^ 64

-- the number below n that a draw gives in the state that it leads to
unfoldable pub below : ℕ → ℕ → ℕ
below n x = x / 2 ^ 32 % n

-- the one volume, its files f0 to f7, and its snapshots s0 to s3
unfoldable pub volume : List ℕ
volume = codes "g"

unfoldable pub file : ℕ → List ℕ
file k = codes "f" ++ (48 + k) ∷ []

unfoldable pub snapshot : ℕ → List ℕ
snapshot k = codes "s" ++ (48 + k) ∷ []

-- a volume that guarantees nothing, and its files
unfoldable pub opening : List Command
opening = VolCreate volume 2000 Thin ∷ New volume (file 0) 0 ∷ New volume (file 1) 0 ∷ New volume (file 2) 0 ∷ New volume (file 3) 0
    ∷ New volume (file 4) 0 ∷ New volume (file 5) 0 ∷ New volume (file 6) 0 ∷ New volume (file 7) 0 ∷ []

-- Each command has the state after it beside it. A command's numbers are drawn in the order in which they are written. A write's block
-- begins with the four bytes of a number, the greatest first.

unfoldable pub put_from : ℕ → Command × ℕ
put_from x =
    let one = after x in let two = after one in let three = after two in
    (Put volume (file (below 8 one)) (below 300 two) (padded (to_be_bytes w32 (below (2 ^ 32) three))), three)

unfoldable pub get_from : ℕ → Command × ℕ
get_from x = let one = after x in let two = after one in (Get volume None (file (below 8 one)) (below 300 two), two)

unfoldable pub cut_from : ℕ → Command × ℕ
cut_from x = let one = after x in let two = after one in (Cut volume (file (below 8 one)) (below 300 two), two)

unfoldable pub snap_from : ℕ → Command × ℕ
snap_from x =
    let one = after x in let two = after one in let s = snapshot (below 4 two) in
    (if nat_eq (below 2 one) 0 then SnapCreate volume s else SnapDelete volume s, two)

-- of eight commands four are writes, and one each reads, cuts, makes or removes a snapshot, or asks for a consistency point
unfoldable pub chosen : ℕ → ℕ → Command × ℕ
chosen k x =
    if nat_lt k 4 then put_from x
    else if nat_eq k 4 then get_from x
    else if nat_eq k 5 then cut_from x
    else if nat_eq k 6 then snap_from x
    else (Cp, x)

unfoldable pub command_from : ℕ → Command × ℕ
command_from x = let one = after x in chosen (below 8 one) one

-- so many commands, from a state on
unfoldable pub drawn : ℕ → ℕ → List Command
drawn zero x = []
drawn (suc count) x = (command_from x).0 ∷ drawn count (command_from x).1

-- the script of a seed
abbrev pub generated : ℕ → ℕ → List Command
generated seed count = opening ++ drawn count seed

-- the command that a call left in the place lent, where it answers that there is one
abbrev pub taken : Bool → Command → Option Command
taken true command = Some command
taken false command = None

-- a call took the first of the commands that were to come, or there was none
abbrev pub Takes : List Command → Option Command → List Command → Type 0
Takes old (Some command) new = old ≡ command ∷ new
Takes old None new = (old ≡ []) × (new ≡ [])
