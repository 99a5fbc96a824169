-- A reply is a refusal exactly where the machine refuses the line.
use Rattle.std.proofs.Common.{◌≡◌, ◌+◌, ℕ, Bool, true, false, not, List, [], ◌∷◌, ◌++◌, refl, ap, ◌∙◌, arith, cond}
use Rattle.std.specs.Prelude.{Option, Some, None, fold}
use Rattle.std.specs.Option.{is_some, option_map_or}
use Rattle.std.specs.FinMap as fin
use Rattle.fv_model.specs.declared.answers.Refusal.{Refusal}
use Rattle.fv_model.specs.declared.answers.Reply.{Reply}
use Rattle.fv_model.specs.declared.answers.Reply.TheVariants.{Done, Content, Number, Names, Stat as Numbers}
use Rattle.fv_model.specs.declared.commands.Command.{Command}
use Rattle.fv_model.specs.declared.commands.Command.TheVariants.{VolList, VolStat, Get, Len, Ls, SnapList, Probe}
use Rattle.fv_model.specs.Machines.{Machine}
use Rattle.fv_model.specs.Tables.{File, Table, file_named}
use Rattle.fv_model.specs.Volumes.{Volume}
use Rattle.fv_model.specs.Refusals.{refusal, table_asked}
use Rattle.fv_model.specs.Replies.{about_file, about_table, about_volume, answer, AllowsBy, content, file_names, is_open, IsAnswer, stat_of}
use Rattle.fv_model.specs.Runs.{Line, Says, NoCommand, OutOfRange, after_line, AllowsAt}
use Rattle.fv_run.specs.Generating.{accepted, accepts, is_accepted}

option : {A : Type 0} (x : Option A) (f : A → Reply) → ((a : A) → is_accepted (f a) ≡ true) → is_accepted (option_map_or f x Done) ≡ true
option None f each = refl
option (Some a) f each = each a

on_volume : (m : Machine) (v : List ℕ) (f : Volume → Reply) → ((x : Volume) → is_accepted (f x) ≡ true) → is_accepted (about_volume m v f) ≡ true
on_volume m v f each = option (fin.get m.volumes v) f each

on_table : (m : Machine) (v : List ℕ) (s : Option (List ℕ)) (f : Table → Reply) → ((t : Table) → is_accepted (f t) ≡ true) → is_accepted (about_table m v s f) ≡ true
on_table m v s f each = on_volume m v (λ x. option_map_or f (table_asked x s) Done) (λ x. option (table_asked x s) f each)

on_file : (m : Machine) (v : List ℕ) (s : Option (List ℕ)) (f : List ℕ) (g : File → Reply) → ((x : File) → is_accepted (g x) ≡ true) → is_accepted (about_file m v s f g) ≡ true
on_file m v s f g each = on_table m v s (λ t. option_map_or (λ e. g e.1) (file_named t f) Done) (λ t. option (file_named t f) (λ e. g e.1) (λ e. each e.1))

-- no answer is a refusal
answered : (m : Machine) (c : Command) → is_accepted (answer m c) ≡ true
unfolding answer
answered m VolList = refl
answered m (VolStat v) = on_volume m v (λ x. Numbers (stat_of x)) (λ x. refl)
answered m (Get v s f i) = on_file m v s f (λ file. Content (content file i)) (λ x. refl)
answered m (Len v s f) = on_file m v s f (λ file. Number file.length) (λ x. refl)
answered m (Ls v s) = on_table m v s (λ t. Names (file_names t)) (λ x. refl)
answered m (SnapList v) = on_volume m v (λ x. Names (fin.keys x.snapshots)) (λ x. refl)
answered m (Probe v f i) = refl
answered m c = refl

by_answer : (undecided : Bool) (expected reply : Reply) → is_accepted expected ≡ true → IsAnswer undecided expected reply → is_accepted reply ≡ true
by_answer false expected reply good is = ap is_accepted is ∙ good
by_answer true expected reply good is = ap is_accepted is.2

by_refusal : (r : Option Refusal) (m : Machine) (c : Command) (reply : Reply) → AllowsBy r m c reply → is_accepted reply ≡ not (is_some r)
by_refusal (Some r) m c reply is = ap is_accepted is
by_refusal None m c reply is = by_answer (is_open m c) (answer m c) reply (answered m c) is

pub as_accepted : (m : Machine) (line : Line) (reply : Reply) → AllowsAt m line reply → is_accepted reply ≡ accepts m line
as_accepted m (Says c) reply is = by_refusal (refusal m c) m c reply is
as_accepted m NoCommand reply is = ap is_accepted is
as_accepted m OutOfRange reply is = ap is_accepted is

-- one line more
pub accepted_more : (m : Machine) (lines : List Line) (line : Line) → accepted m (lines ++ line ∷ []) ≡ accepted m lines + cond (accepts (fold after_line m lines) line) 1 0
unfolding accepted
accepted_more m [] line = omega arith
accepted_more m (first ∷ lines) line = let more = accepted_more (after_line m first) lines line in omega (arith, more)
