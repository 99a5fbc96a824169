-- Which replies a machine allows to a command.
use Rattle.std.specs.Prelude.{◌≡◌, ℕ, ◌≤◌, Bool, true, false, not, List, map, replicate, Option, Some, None, unwrap_or}
use Rattle.std.specs.Option.{option_map_or}
use Rattle.std.specs.FinMap as fin
use Rattle.fv_model.specs.declared.answers.Refusal.{Refusal}
use Rattle.fv_model.specs.declared.answers.Stat.{Stat}
use Rattle.fv_model.specs.declared.answers.Reply.{Reply}
use Rattle.fv_model.specs.declared.answers.Reply.TheVariants.{Done, Content, Number, Names, Stat as Numbers, Refused}
use Rattle.fv_model.specs.declared.commands.Command.{Command}
use Rattle.fv_model.specs.declared.commands.Command.TheVariants.{VolList, VolStat, Get, Len, Ls, SnapList, Probe}
use Rattle.fv_model.specs.Spelling.{name_cmp}
use Rattle.fv_model.specs.Tables.{File, Table, file_named}
use Rattle.fv_model.specs.Volumes.{Volume}
use Rattle.fv_model.specs.Machines.{Machine}
use Rattle.fv_model.specs.Space.{charge, need, commit}
use Rattle.fv_model.specs.Refusals.{refusal, table_asked}

abbrev pub zero_block : List ℕ
zero_block = replicate 4096 0

-- the block of a cell; a hole reads as zeros
abbrev pub content : File → ℕ → List ℕ
content f i = unwrap_or (fin.get f.blocks i) zero_block

-- the numbers of a table's files by their names, and those names in byte order
abbrev pub numbers_by_name : Table → fin.FinMap name_cmp ℕ
numbers_by_name t = fin.from_entries (map (λ e. (e.1.name, e.0)) (fin.entries t.files))

abbrev pub file_names : Table → List (List ℕ)
file_names t = fin.keys (numbers_by_name t)

abbrev pub stat_of : Volume → Stat
stat_of v = record { size = v.size; used = charge v; need = need v; commit = commit v; kind = v.kind; clean = v.known }

-- what is answered about the volume of a name, the table that is asked, and a file in it
abbrev pub about_volume : Machine → List ℕ → (Volume → Reply) → Reply
about_volume m v answer = option_map_or answer (fin.get m.volumes v) Done

abbrev pub about_table : Machine → List ℕ → Option (List ℕ) → (Table → Reply) → Reply
about_table m v s answer = about_volume m v (λ x. option_map_or answer (table_asked x s) Done)

abbrev pub about_file : Machine → List ℕ → Option (List ℕ) → List ℕ → (File → Reply) → Reply
about_file m v s f answer = about_table m v s (λ t. option_map_or (λ e. answer e.1) (file_named t f) Done)

-- the reply to an accepted command; that of `probe` is the one for a known volume
unfoldable pub answer : Machine → Command → Reply
answer m VolList = Names (fin.keys m.volumes)
answer m (VolStat v) = about_volume m v (λ x. Numbers (stat_of x))
answer m (Get v s f i) = about_file m v s f (λ file. Content (content file i))
answer m (Len v s f) = about_file m v s f (λ file. Number file.length)
answer m (Ls v s) = about_table m v s (λ t. Names (file_names t))
answer m (SnapList v) = about_volume m v (λ x. Names (fin.keys x.snapshots))
answer m (Probe v f i) = Number 0
answer m c = Done

-- whether the command is a `probe` of a volume that isn't known: the machine leaves its answer open
abbrev pub is_open : Machine → Command → Bool
is_open m (Probe v f i) = option_map_or (λ x. not x.known) (fin.get m.volumes v) false
is_open m c = false

-- the one reply that an accepted command gets, or any number of unknown pointers that a path can have
abbrev pub IsAnswer : Bool → Reply → Reply → Type 0
IsAnswer false expected reply = reply ≡ expected
IsAnswer true expected reply = (n : ℕ) × (n ≤ 7) × (reply ≡ Number n)

abbrev pub AllowsBy : Option Refusal → Machine → Command → Reply → Type 0
AllowsBy (Some r) m c reply = reply ≡ Refused r
AllowsBy None m c reply = IsAnswer (is_open m c) (answer m c) reply

-- whether the machine allows a reply to a command
abbrev pub Allows : Machine → Command → Reply → Type 0
Allows m c reply = AllowsBy (refusal m c) m c reply
