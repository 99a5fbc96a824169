-- The commands as `apply` has them.
use Rattle.std.proofs.Common.{◌≡◌, ◌≢◌, ◌<◌, ◌==◌, ◌||◌, ◌⊎◌, inl, inr, ℕ, Bool, true, false, List, Some, None, Result, Ok, Err, true≢false, refl, sym, ap, subst, ◌∙◌, arith}
use Rattle.std.specs.Prelude.{IfOk, IsNone, if◌then◌else◌}
use Rattle.std.specs.Option.{is_some}
use Rattle.std.specs.FinMap as fin
use Rattle.fv_disk.specs.Shown.{Shown, IsDisk}
use Rattle.fv_model.specs.declared.answers.Refusal.TheVariants.{Syntax}
use Rattle.fv_model.specs.declared.answers.Reply.{Reply}
use Rattle.fv_model.specs.declared.answers.Reply.TheVariants.{Done, Names, Refused}
use Rattle.fv_model.specs.declared.commands.Kind.{Kind}
use Rattle.fv_model.specs.declared.commands.Command.{Command}
use Rattle.fv_model.specs.declared.commands.Command.TheVariants.{VolCreate, VolDestroy, VolResize, VolGuarantee, VolList, VolStat, New, Put, Get, Len, Cut, Remove, Ls, SnapCreate, SnapDelete, SnapRestore, SnapList, CloneCreate, Mirror, Clean, Probe, Work, Cp}
use Rattle.fv_model.specs.Machines.{Machine}
use Rattle.fv_model.specs.Effects.{change_of}
use Rattle.fv_model.specs.Refusals.{conditions, next}
use Rattle.fv_model.specs.Replies.{answer}
use Rattle.fv_model.specs.Space.{overhead}
use Rattle.fv_container.proofs.Changing.{maps_same}
use Rattle.fv_aggregate.specs.declared.fault.Fault.{Fault}
use Rattle.fv_aggregate.specs.declared.fault.Fault.TheVariants.{Memory}
use Rattle.fv_aggregate.specs.declared.session.Session.{Session}
use Rattle.fv_aggregate.specs.Calls.{Goes, GoesFor, IsForWant, IsNoDamage, IsPlain, IsUnpointed, KeepsAsking}
use Rattle.fv_aggregate.specs.Commands.{asked_by, AsksPoint, Replies, RepliesBy, volume_asked, changed_by, is_built, machine_after, managed_by, reads_files, room_by, room_with, snapped_by, takes_steps}
use Rattle.fv_aggregate.specs.Cleaning.{GoesAs}
use Rattle.fv_aggregate.specs.Deciding.{makes_volume}
use Rattle.fv_aggregate.specs.Standing.{StandsAfter, StandsFor}
use Rattle.fv_aggregate.specs.Telling.{names_from}
use Rattle.fv_aggregate.proofs.Calls.{reads_itself}
use Rattle.fv_aggregate.proofs.Decided.{undecided}
use Rattle.fv_aggregate.proofs.Standing.{rests_for_last, stays_for}
use Rattle.fv_aggregate.proofs.Telling.{names_are}

some_none : (v : List ℕ) → Some v ≡ None → ⊥
some_none v e = cc

-- ---- a call that leaves the disk and the session

pub rests_for : {T : Type 0} (x : T) (disk : Shown) (session : Session) (last m after : Machine) → IsDisk disk → after ≡ m → StandsFor disk session last m → GoesFor disk last m after disk session (Ok x)
rests_for x disk session last m after laws same stands = record {
  any_moment = rests_for_last disk session last m after laws stands;
  done = subst (λ (n : Machine). StandsAfter disk session last m n) (sym same) (stays_for disk session last m stands);
  still = λ none. tt;
  whole = tt;
}

pub rests_for_fault : {T : Type 0} (e : Fault) (disk : Shown) (session : Session) (last m after : Machine) → IsDisk disk → IsNoDamage e → StandsFor disk session last m → GoesFor {T = T} disk last m after disk session (Err e)
rests_for_fault e disk session last m after laws no_damage stands = record {
  any_moment = rests_for_last disk session last m after laws stands;
  done = tt;
  still = λ none. stays_for disk session last m stands;
  whole = no_damage;
}

-- nothing was read
pub unpointed_itself : (disk : Shown) (session : Session) → IsUnpointed disk session disk session
unpointed_itself disk session = record { only_reads = reads_itself disk; loads = λ none. (record { map = refl; kept = refl; found = refl; version = refl; containers = maps_same disk session.pool.containers }, refl) }

-- a fault tells nothing of the command, where it is no such one as is always answered
pub fault_plain : {D : Type 0} (command : Command) (shown : Shown) (disk : D) (session : Session) (f : Fault) → IsForWant shown session shown session f → (IsNone session.failed → is_built command ≡ false → ⊥)
    → (IsNone session.failed → (name : List ℕ) → managed_by command ≡ Some name → ⊥) → (IsNone session.failed → (name : List ℕ) → snapped_by command ≡ Some name → ⊥)
    → (IsNone session.failed → (name : List ℕ) → command ≡ SnapList name → ⊥) → IsPlain command shown disk session shown disk session (Err f)
fault_plain command shown disk session f damage built whole snap names = record {
  refused = tt;
  calm = λ other once idle few. refl;
  idle = λ other once stays none few. refl;
  map = λ other once stays places few. refl;
  wanting = λ other once idle few same. refl;
  damage = λ once. damage;
  unbuilt = λ fresh none. absurd (built fresh none);
  listed = λ list. tt;
  untouched = λ list. (refl, refl);
  pointed = λ cp. tt;
  unpointed = λ cp alive. unpointed_itself shown session;
  managed = λ fresh name of stays. absurd (whole fresh name of);
  removed = λ fresh name its. absurd (whole fresh name (ap managed_by its));
  snapped = λ fresh name of. absurd (snap fresh name of);
  snapshots = λ fresh name list. absurd (names fresh name list);
  made = tt;
}

-- ---- a volume that is made

-- a volume has room of its own, whatever its span
pub own_room : (span : ℕ) → 0 < overhead span
unfolding overhead
own_room span = omega arith

-- ---- vol list

pub list_after : (command : Command) (m : Machine) → command ≡ VolList → machine_after m command ≡ m
unfolding is_built machine_after conditions change_of
list_after command m is = ap (machine_after m) is

pub list_replies : (command : Command) → command ≡ VolList → (disk : Shown) (session : Session) (last m : Machine) → StandsFor disk session last m → (names : List (List ℕ))
    → names ≡ names_from session.volumes 0 64 → Replies m command (Names names)
unfolding is_built conditions answer
list_replies command is disk session last m stands names listed =
    let told : names ≡ fin.keys m.volumes = listed ∙ names_are disk session.pool session.volumes ∙ ap (λ (x : Machine). fin.keys x.volumes) stands.machine in
    subst (λ (c : Command). Replies m c (Names names)) (sym is) (ap Names told)

list_built : (X : Type 0) (command : Command) → command ≡ VolList → is_built command ≡ false → X
unfolding is_built
list_built X command is none = absurd (true≢false (ap is_built (sym is) ∙ none))

pub list_no_point : (X : Type 0) (command : Command) → command ≡ VolList → command ≡ Cp → X
list_no_point X command is cp = absurd (apart (sym is ∙ cp))
  where
    apart : VolList ≡ Cp → ⊥
    apart e = cc

list_no_whole : (X : Type 0) (command : Command) → command ≡ VolList → (name : List ℕ) → managed_by command ≡ Some name → X
list_no_whole X command is name of = absurd (some_none name (sym of ∙ ap managed_by is))

list_no_snap : (X : Type 0) (command : Command) → command ≡ VolList → (name : List ℕ) → snapped_by command ≡ Some name → X
list_no_snap X command is name of = absurd (some_none name (sym of ∙ ap snapped_by is))

list_no_names : (X : Type 0) (command : Command) → command ≡ VolList → (name : List ℕ) → command ≡ SnapList name → X
list_no_names X command is name names = absurd (apart (sym is ∙ names))
  where
    apart : VolList ≡ SnapList name → ⊥
    apart e = cc

pub list_fails : {D : Type 0} (command : Command) → command ≡ VolList → (shown : Shown) (disk : D) (session : Session) → IsPlain command shown disk session shown disk session (Err Memory)
list_fails command is shown disk session = fault_plain command shown disk session Memory tt (λ fresh none. list_built _ command is none)
    (λ fresh name of. list_no_whole _ command is name of) (λ fresh name of. list_no_snap _ command is name of) (λ fresh name names. list_no_names _ command is name names)

pub list_done : {D : Type 0} (command : Command) → command ≡ VolList → (shown : Shown) (disk : D) (session : Session) (names : List (List ℕ)) → names ≡ names_from session.volumes 0 64 → IsPlain command shown disk session shown disk session (Ok (Names names))
list_done command is shown disk session names told = record {
  refused = λ refused. (refl, refl);
  calm = λ other once idle few. refl;
  idle = λ other once stays none few. refl;
  map = λ other once stays places few. refl;
  wanting = λ other once idle few. tt;
  damage = λ once. tt;
  unbuilt = λ fresh none. list_built _ command is none;
  listed = λ list. ap Names told;
  untouched = λ list. (refl, refl);
  pointed = λ cp. list_no_point _ command is cp;
  unpointed = λ cp. list_no_point _ command is cp;
  managed = λ fresh name of stays. list_no_whole _ command is name of;
  removed = λ fresh name its. list_no_whole _ command is name (ap managed_by its);
  snapped = λ fresh name of. list_no_snap _ command is name of;
  snapshots = λ fresh name names. list_no_names _ command is name names;
  made = undecided session.volumes session.pool.found.blocks command (ap makes_volume is) (Ok (Names names));
}

-- ---- cp

pub cp_built : (X : Type 0) (command : Command) → command ≡ Cp → is_built command ≡ false → X
unfolding is_built
cp_built X command is none = absurd (true≢false (ap is_built (sym is) ∙ none))

pub cp_no_list : (X : Type 0) (command : Command) → command ≡ Cp → command ≡ VolList → X
cp_no_list X command is list = list_no_point X command list is

pub cp_no_whole : (X : Type 0) (command : Command) → command ≡ Cp → (name : List ℕ) → managed_by command ≡ Some name → X
cp_no_whole X command is name of = absurd (some_none name (sym of ∙ ap managed_by is))

pub cp_no_snap : (X : Type 0) (command : Command) → command ≡ Cp → (name : List ℕ) → snapped_by command ≡ Some name → X
cp_no_snap X command is name of = absurd (some_none name (sym of ∙ ap snapped_by is))

pub cp_no_names : (X : Type 0) (command : Command) → command ≡ Cp → (name : List ℕ) → command ≡ SnapList name → X
cp_no_names X command is name names = absurd (apart (sym is ∙ names))
  where
    apart : Cp ≡ SnapList name → ⊥
    apart e = cc

pub cp_no_steps : (X : Type 0) (command : Command) → command ≡ Cp → takes_steps command ≡ true → X
cp_no_steps X command is takes = absurd (true≢false (sym takes ∙ ap takes_steps is))

pub cp_no_files : (X : Type 0) (command : Command) → command ≡ Cp → reads_files command ≡ true → X
unfolding reads_files
cp_no_files X command is files = absurd (true≢false (sym files ∙ ap reads_files is))

pub cp_goes : (command : Command) → command ≡ Cp → (before : Shown) (old : Session) (after : Shown) (new : Session) (result : Result Reply Fault) → Goes 0 AsksPoint before old after new result
    → GoesAs (takes_steps command) (room_by old.volumes command) (asked_by old.volumes command) before old after new result
unfolding room_with asked_by
cp_goes command is before old after new result goes = subst (λ (c : Command). GoesAs (takes_steps c) (room_by old.volumes c) (asked_by old.volumes c) before old after new result) (sym is) goes

pub cp_goes_for : (command : Command) → command ≡ Cp → (before : Shown) (last m : Machine) (after : Shown) (new : Session) (result : Result Reply Fault) → GoesFor before last m m after new result → GoesFor before last m (machine_after m command) after new result
unfolding is_built machine_after conditions change_of
cp_goes_for command is before last m after new result goes = subst (λ (c : Command). GoesFor before last m (machine_after m c) after new result) (sym is) goes

pub cp_asks : (command : Command) → command ≡ Cp → (before : Shown) (old : Session) (after : Shown) (new : Session) → KeepsAsking 0 before old after new → KeepsAsking (room_by old.volumes command) before old after new
unfolding room_with
cp_asks command is before old after new asks = subst (λ (c : Command). KeepsAsking (room_by old.volumes c) before old after new) (sym is) asks

pub cp_replies : (command : Command) → command ≡ Cp → (m : Machine) (result : Result Reply Fault) → IfOk result (λ reply. reply ≡ Done) → IfOk result (Replies m command)
unfolding is_built conditions answer
cp_replies command is m (Err fault) done = tt
cp_replies command is m (Ok reply) done = subst (λ (c : Command). Replies m c reply) (sym is) done

-- ---- the others

none_if : (t : Bool) (v : List ℕ) → (if t then Some v else None) ≡ None → t ≡ false
none_if true v none = absurd (some_none v none)
none_if false v none = refl

-- a command that is about a whole volume, or isn't built
pub managed_or_unbuilt : (command : Command) → ((name : List ℕ) (size : ℕ) (kind : Kind) → command ≢ VolCreate name size kind) → ((clone parent snapshot : List ℕ) (size : ℕ) (kind : Kind) → command ≢ CloneCreate clone parent snapshot size kind)
    → ((source snapshot mirror : List ℕ) (size : ℕ) (kind : Kind) → command ≢ Mirror source snapshot mirror size kind) → command ≢ VolList → command ≢ Cp → ((name : List ℕ) → command ≢ SnapList name) → volume_asked command ≡ None → changed_by command ≡ None → snapped_by command ≡ None → takes_steps command ≡ false → (is_some (managed_by command) ≡ true) ⊎ (is_built command ≡ false)
unfolding is_built
managed_or_unbuilt (VolCreate v size kind) a l w b c d asked changed snaps at_once = absurd (a v size kind refl)
managed_or_unbuilt (VolDestroy v) a l w b c d asked changed snaps at_once = inl refl
managed_or_unbuilt (VolResize v size) a l w b c d asked changed snaps at_once = inl refl
managed_or_unbuilt (VolGuarantee v kind) a l w b c d asked changed snaps at_once = inl refl
managed_or_unbuilt VolList a l w b c d asked changed snaps at_once = absurd (b refl)
managed_or_unbuilt (VolStat v) a l w b c d asked changed snaps at_once = inl refl
managed_or_unbuilt (New v f reserve) a l w b c d asked changed snaps at_once = inr (none_if (reserve == 0) v changed)
managed_or_unbuilt (Put v f i block) a l w b c d asked changed snaps at_once = absurd (some_none v changed)
managed_or_unbuilt (Get v s f i) a l w b c d asked changed snaps at_once = absurd (some_none v asked)
managed_or_unbuilt (Len v s f) a l w b c d asked changed snaps at_once = absurd (some_none v asked)
managed_or_unbuilt (Cut v f length) a l w b c d asked changed snaps at_once = absurd (some_none v changed)
managed_or_unbuilt (Remove v f) a l w b c d asked changed snaps at_once = absurd (some_none v changed)
managed_or_unbuilt (Ls v s) a l w b c d asked changed snaps at_once = absurd (some_none v asked)
managed_or_unbuilt (Probe v f i) a l w b c d asked changed snaps at_once = absurd (some_none v asked)
managed_or_unbuilt (SnapCreate v s) a l w b c d asked changed snaps at_once = absurd (some_none v snaps)
managed_or_unbuilt (SnapDelete v s) a l w b c d asked changed snaps at_once = absurd (some_none v snaps)
managed_or_unbuilt (SnapRestore v s) a l w b c d asked changed snaps at_once = absurd (some_none v snaps)
managed_or_unbuilt (SnapList v) a l w b c d asked changed snaps at_once = absurd (d v refl)
managed_or_unbuilt (CloneCreate v p s size kind) a l w b c d asked changed snaps at_once = absurd (l v p s size kind refl)
managed_or_unbuilt (Mirror v s m size kind) a l w b c d asked changed snaps at_once = absurd (w v s m size kind refl)
managed_or_unbuilt (Clean v) a l w b c d asked changed snaps at_once = absurd (true≢false at_once)
managed_or_unbuilt (Work steps) a l w b c d asked changed snaps at_once = absurd (true≢false at_once)
managed_or_unbuilt Cp a l w b c d asked changed snaps at_once = absurd (c refl)
managed_or_unbuilt command a l w b c d asked changed snaps at_once = inr refl

-- a command that neither asks for files nor changes one reads none
pub no_files : (command : Command) → volume_asked command ≡ None → changed_by command ≡ None → reads_files command ≡ false
unfolding reads_files
no_files command asked changed = λ j. is_some (changed j) || is_some (asked j)

pub unbuilt_after : (m : Machine) (command : Command) → is_built command ≡ false → machine_after m command ≡ m
unfolding machine_after
unbuilt_after m command none = ap (λ (b : Bool). if b then next m command else m) none

pub unbuilt_replies : (m : Machine) (command : Command) → is_built command ≡ false → Replies m command (Refused Syntax)
unbuilt_replies m command none = subst (λ (b : Bool). RepliesBy b m command (Refused Syntax)) (sym none) refl
