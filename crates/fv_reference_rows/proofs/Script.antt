-- A whole script with its output, from the definitions alone: a volume is made, listed, asked, made again, and destroyed.
use Rattle.std.proofs.Common.{◌≡◌, ◌+◌, ℕ, Bool, true, false, cond, List, [], ◌∷◌, nat_lt, nat_le, sum_by, find, map, codes, refl, sym, ap, subst, ◌∙◌, arith, Option, Some, None, is_some, is_none}
use Rattle.std.specs.Fmt.{digits}
use Rattle.std.specs.Option.{option_map_or}
use Rattle.std.specs.List.{list_any}
use Rattle.std.specs.Ordering.{nat_cmp, eq_by_cmp}
use Rattle.std.specs.FinMap as fin
use Rattle.std.specs.FinMap.{put as put_entry}
use Rattle.fv_model.specs.declared.answers.Refusal.{Refusal}
use Rattle.fv_model.specs.declared.answers.Refusal.TheVariants.{VolumeExists, NoVolume, NoFile, NoSnapshot, VolumeInUse, TooMany, AggregateFull}
use Rattle.fv_model.specs.declared.answers.Reply.{Reply}
use Rattle.fv_model.specs.declared.answers.Reply.TheVariants.{Done, Names, Stat as Numbers, Refused}
use Rattle.fv_model.specs.declared.commands.Kind.TheVariants.{Volume as Whole}
use Rattle.fv_model.specs.declared.commands.Command.{Command}
use Rattle.fv_model.specs.declared.commands.Command.TheVariants.{VolCreate, VolDestroy, VolList, VolStat, Len}
use Rattle.fv_model.specs.Spelling.{name_cmp, is_same_name}
use Rattle.fv_model.specs.Tables.{File, file_named}
use Rattle.fv_model.specs.Volumes.{Base, Volume}
use Rattle.fv_model.specs.Machines.{Machine, empty_machine, capacity}
use Rattle.fv_model.specs.Space.{charge, need, commit, overhead, nodes_above}
use Rattle.fv_model.specs.Effects.{change_of, effect, empty_volume}
use Rattle.fv_model.specs.Refusals.{conditions, refusal, table_asked}
use Rattle.fv_model.specs.Replies.{AllowsBy, IsAnswer, is_open, answer, stat_of}
use Rattle.fv_model.specs.Texts.{words}
use Rattle.fv_model.specs.Words.{line_words, name_of, count_of, kind_of, table_of, text_of}
use Rattle.fv_model.specs.Grammar.{command, first, is_end, vol_create, vol_destroy, vol_resize, vol_guarantee, vol_list, vol_stat, vol, snap, clone, split, new_form, put_form, get, len, cut_form, rm_form, ls, mirror, clean, probe, work}
use Rattle.fv_model.specs.Lines.{line_of, script_lines, lines}
use Rattle.fv_model.specs.Runs.{Line, Says, AnswersAll, Full}
use Rattle.fv_laws.proofs.Orders.{name_total, name_ties}
use Rattle.fv_laws.proofs.Release.{no_entries, use_when_empty}

record Answers (m : Machine) (lines : List Line) (replies : List Reply) : Type 0 where
  all : AnswersAll m lines replies

-- a line that is accepted, and one that is refused, before further lines
accepts : {lines : List Line} {replies : List Reply} (m after : Machine) (c : Command) (reply : Reply) → refusal m c ≡ None → effect m c ≡ after → is_open m c ≡ false → answer m c ≡ reply → Answers after lines replies → Answers m (Says c ∷ lines) (reply ∷ replies)
accepts {lines} {replies} m after c reply none effects closed is rest = record {
  all = (
    subst (λ (o : Option Refusal). AllowsBy o m c reply) (sym none) (subst (λ (b : Bool). IsAnswer b (answer m c) reply) (sym closed) (sym is)),
    subst (λ (n : Machine). AnswersAll n lines replies) (sym (ap (λ (o : Option Refusal). cond (is_some o) m (effect m c)) none ∙ effects)) rest.all,
  );
}

refuses : {lines : List Line} {replies : List Reply} (m : Machine) (c : Command) (r : Refusal) → refusal m c ≡ Some r → Answers m lines replies → Answers m (Says c ∷ lines) (Refused r ∷ replies)
refuses {lines} {replies} m c r some rest = record {
  all = (
    subst (λ (o : Option Refusal). AllowsBy o m c (Refused r)) (sym some) refl,
    subst (λ (n : Machine). AnswersAll n lines replies) (sym (ap (λ (o : Option Refusal). cond (is_some o) m (effect m c)) some)) rest.all,
  );
}

-- the machine of 1024 blocks, and with the volume a of 100 blocks
abbrev name : List ℕ
name = codes "a"

abbrev bare : Machine
bare = empty_machine 1024

abbrev made : Volume
made = empty_volume 100 Whole

abbrev one : Machine
one = record { blocks = 1024; version = 1; volumes = fin.insert fin.empty name made }

there : fin.get one.volumes name ≡ Some made
there = fin.get-insert name_total fin.empty name made name

listed : fin.entries one.volumes ≡ (name, made) ∷ []
listed = fin.entries-insert name_total fin.empty name made ∙ ap (put_entry name_cmp name made) (no_entries name_cmp)

creates : refusal bare (VolCreate name 100 Whole) ≡ None
unfolding conditions change_of overhead nodes_above
creates = λ i. cond (is_some (fin.get-empty {X = Volume} name_cmp name i)) (Some VolumeExists) (cond (nat_le 64 (fin.len-empty name_cmp Volume i)) (Some TooMany) (cond (nat_lt (capacity 1024) (sum_by (λ (e : List ℕ × Volume). commit e.1) (listed i))) (Some AggregateFull) None))

exists : refusal one (VolCreate name 100 Whole) ≡ Some VolumeExists
unfolding conditions change_of
exists = λ i. cond (is_some (there i)) (Some VolumeExists) (cond (nat_le 64 (fin.len one.volumes)) (Some TooMany) (cond (nat_lt (capacity 1024) (sum_by (λ (e : List ℕ × Volume). commit e.1) (fin.entries (fin.insert one.volumes name made)))) (Some AggregateFull) None))

is_there : refusal one (VolStat name) ≡ None
unfolding conditions
is_there = λ i. cond (is_none (there i)) (Some NoVolume) None

lacks : refusal one (Len name None (codes "f")) ≡ Some NoFile
unfolding conditions
lacks =
    (λ i. cond (is_none (there i)) (Some NoVolume) (cond (option_map_or (λ (x : Volume). is_none (table_asked x None)) (there i) false) (Some NoSnapshot) (cond (option_map_or (λ (x : Volume). option_map_or (λ t. is_none (file_named t (codes "f"))) (table_asked x None) false) (there i) false) (Some NoFile) None)))
    ∙ (λ i. cond (is_none (find (λ (e : ℕ × File). is_same_name e.1.name (codes "f")) (no_entries {X = File} nat_cmp i))) (Some NoFile) None)

goes : refusal one (VolDestroy name) ≡ None
unfolding conditions
goes = λ i. cond (is_none (there i)) (Some NoVolume) (cond (list_any (λ (e : List ℕ × Volume). option_map_or (λ (b : Base). is_same_name b.parent name) e.1.base false) (listed i)) (Some VolumeInUse) None)

taken_out : (b : Bool) (v : Option Volume) → v ≡ None → cond b None (cond b (Some made) v) ≡ v
taken_out true v none = sym none
taken_out false v none = refl

bare_again : effect one (VolDestroy name) ≡ bare
unfolding change_of
bare_again = ap (λ (volumes : fin.FinMap name_cmp Volume). record { blocks = 1024; version = 1; volumes = volumes }) (fin.same_map name_total name_ties (fin.remove one.volumes name) fin.empty (λ q.
    fin.get-remove name_total one.volumes name q ∙ ap (λ (v : Option Volume). cond (eq_by_cmp name_cmp q name) None v) (fin.get-insert name_total fin.empty name made q) ∙ taken_out (eq_by_cmp name_cmp q name) (fin.get fin.empty q) (fin.get-empty name_cmp q)))

abbrev numbers : Reply
numbers = Numbers (record { size = 100; used = 0; need = 0; commit = 140; kind = Whole; clean = true })

asked : answer one (VolStat name) ≡ numbers
unfolding answer overhead nodes_above
asked =
    let none : charge made + need made ≡ 0 = use_when_empty 100 Whole in
    let used : charge made ≡ 0 = omega (arith, none) in
    let needs : need made ≡ 0 = omega (arith, none) in
    ap (λ (o : Option Volume). option_map_or (λ x. Numbers (stat_of x)) o Done) there
    ∙ (λ i. Numbers (record { size = 100; used = used i; need = needs i; commit = 140; kind = Whole; clean = true }))

abbrev script : List Line
script =
    Says (VolCreate name 100 Whole) ∷ Says VolList ∷ Says (VolStat name) ∷ Says (VolCreate name 100 Whole) ∷ Says (Len name None (codes "f"))
    ∷ Says (VolDestroy name) ∷ Says VolList ∷ []

abbrev replies : List Reply
replies = Done ∷ Names (name ∷ []) ∷ numbers ∷ Refused VolumeExists ∷ Refused NoFile ∷ Done ∷ Names [] ∷ []

answers : Answers bare script replies
unfolding answer change_of conditions
answers =
    accepts bare one (VolCreate name 100 Whole) Done creates refl refl refl
    (accepts one one VolList (Names (name ∷ [])) refl refl refl (ap (λ (es : List (List ℕ × Volume)). Names (map (λ e. e.0) es)) listed)
    (accepts one one (VolStat name) numbers is_there refl refl asked
    (refuses one (VolCreate name 100 Whole) VolumeExists exists
    (refuses one (Len name None (codes "f")) NoFile lacks
    (accepts one bare (VolDestroy name) Done goes bare_again refl refl
    (accepts bare bare VolList (Names []) refl refl refl (ap (λ (es : List (List ℕ × Volume)). Names (map (λ e. e.0) es)) (no_entries name_cmp)) (record { all = tt })))))))

abbrev written : List ℕ
written = codes "vol create a 100 volume\nvol list\nvol stat a\nvol create a 100 volume\nlen a f\nvol destroy a\nvol list\n"

abbrev output : List ℕ
output = codes "ok\na\nsize 100 used 0 need 0 commit 140 kind volume clean yes\nerr 3 volume exists\nerr 4 no such file\nok\n-\ndone 7\n"

spelled : Full bare script output
unfolding words digits
spelled = (replies, answers.all, refl)

reads : lines written ≡ script
unfolding script_lines line_of line_words name_of count_of kind_of table_of text_of command first is_end vol_create vol_destroy vol_resize vol_guarantee vol_list vol_stat vol snap clone split new_form put_form get len cut_form rm_form ls mirror clean probe work
reads = refl

-- the bytes of the script, and the bytes that are given out for them
whole_script : Full (empty_machine 1024) (lines written) output
whole_script = subst (λ (ls : List Line). Full bare ls output) (sym reads) spelled
