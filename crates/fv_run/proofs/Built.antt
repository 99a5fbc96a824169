-- The line of a command, as far as that is built: what it asks for, changes and reads is what the command does.
use Rattle.std.proofs.Common.{◌≡◌, ◌≢◌, ◌⊎◌, ◌≤◌, ◌+◌, ℕ, inl, inr, Bool, true, false, cond, List, [], ◌∷◌, refl, sym, ap, ◌∙◌, arith}
use Rattle.std.proofs.lemmas.Bool.{both_ways}
use Rattle.std.proofs.lemmas.Bool.Decides.{nat_tests}
use Rattle.std.specs.Prelude.{◌||◌, ◌==◌, ◌&&◌, is_some, nat_lt, if◌then◌else◌, Option, Some, None, IsSome}
use Rattle.fv_model.specs.declared.answers.Reply.{Reply}
use Rattle.fv_model.specs.declared.commands.Command.{Command}
use Rattle.fv_model.specs.declared.commands.Command.TheVariants.{VolCreate, VolDestroy, VolResize, VolGuarantee, VolList, VolStat, New, Put, Get, Len, Cut, Remove, Ls, SnapCreate, SnapDelete, SnapRestore, SnapList, CloneCreate, SplitStart, SplitFinish, Mirror, Clean, Probe, Work, Cp}
use Rattle.fv_model.specs.Machines.{Machine}
use Rattle.fv_model.specs.Refusals.{conditions, next}
use Rattle.fv_model.specs.Effects.{change_of}
use Rattle.fv_model.specs.Runs.{Line, Says, NoCommand, after_line, AllowsAt, is_cp}
use Rattle.fv_aggregate.specs.declared.session.Session.{Session}
use Rattle.fv_aggregate.specs.Commands.{asked_by, AsksNothing, changed_by, changes_volume, dirty_limit, is_built, machine_after, reaches_disk, reads_files, most_room, Replies, RepliesBy, room_by, room_with, snapped_by, takes_steps, volume_asked}
use Rattle.fv_run.specs.Built.{built}
use Rattle.fv_run.specs.Running.{asked_in, asks_point, changes_volumes, room_in, IsRoomIn, only_asks, reads_blocks, takes}

after_by : (is : Bool) (m : Machine) (c : Command) → after_line m (cond is (Says c) NoCommand) ≡ cond is (next m c) m
after_by true m c = refl
after_by false m c = refl

after_built : (m : Machine) (c : Command) → machine_after m c ≡ after_line m (built (Says c))
unfolding machine_after
after_built m c = sym (after_by (is_built c) m c)

pub after_said : (line : Line) (c : Command) → line ≡ Says c → (m : Machine) → machine_after m c ≡ after_line m (built line)
after_said line c says m = after_built m c ∙ ap (λ (l : Line). after_line m (built l)) (sym says)

allowed_by : (is : Bool) (m : Machine) (c : Command) (reply : Reply) → RepliesBy is m c reply → AllowsAt m (cond is (Says c) NoCommand) reply
allowed_by true m c reply replies = replies
allowed_by false m c reply replies = replies

pub allowed_built : (m : Machine) (c : Command) (reply : Reply) → Replies m c reply → AllowsAt m (built (Says c)) reply
allowed_built m c reply replies = allowed_by (is_built c) m c reply replies

pub cp_alone : (c : Command) → is_cp (Says c) ≡ true → c ≡ Cp
cp_alone (VolCreate v size kind) e = absurd cc
cp_alone (VolDestroy v) e = absurd cc
cp_alone (VolResize v size) e = absurd cc
cp_alone (VolGuarantee v kind) e = absurd cc
cp_alone VolList e = absurd cc
cp_alone (VolStat v) e = absurd cc
cp_alone (New v f reserve) e = absurd cc
cp_alone (Put v f i block) e = absurd cc
cp_alone (Get v s f i) e = absurd cc
cp_alone (Len v s f) e = absurd cc
cp_alone (Cut v f length) e = absurd cc
cp_alone (Remove v f) e = absurd cc
cp_alone (Ls v s) e = absurd cc
cp_alone (SnapCreate v s) e = absurd cc
cp_alone (SnapDelete v s) e = absurd cc
cp_alone (SnapRestore v s) e = absurd cc
cp_alone (SnapList v) e = absurd cc
cp_alone (CloneCreate c v s size kind) e = absurd cc
cp_alone (SplitStart c) e = absurd cc
cp_alone (SplitFinish c) e = absurd cc
cp_alone (Mirror v s w size kind) e = absurd cc
cp_alone (Clean v) e = absurd cc
cp_alone (Probe v f i) e = absurd cc
cp_alone (Work n) e = absurd cc
cp_alone Cp e = refl

pub cp_by : (is : Bool) (c : Command) → is_cp (cond is (Says c) NoCommand) ≡ true → c ≡ Cp
cp_by true c e = cp_alone c e
cp_by false c e = absurd cc

-- a consistency point changes no machine
pub after_cp : (m : Machine) → machine_after m Cp ≡ m
unfolding machine_after is_built conditions change_of
after_cp m = refl

-- what isn't built adds no block and changes no volume
unbuilt_room : (maps : List ℕ → ℕ) (spans : List ℕ → List ℕ → ℕ → ℕ) (wides : List ℕ → ℕ → ℕ) (copies : List ℕ → List ℕ → ℕ → ℕ) (c : Command) → is_built c ≡ false → room_with maps spans wides copies c ≡ 0
unfolding is_built room_with
unbuilt_room maps spans wides copies (VolCreate v size kind) e = absurd cc
unbuilt_room maps spans wides copies (New v f reserve) e = rw e refl
unbuilt_room maps spans wides copies (Put v f i block) e = absurd cc
unbuilt_room maps spans wides copies (Cut v f length) e = absurd cc
unbuilt_room maps spans wides copies (Remove v f) e = absurd cc
unbuilt_room maps spans wides copies (SnapCreate v s) e = absurd cc
unbuilt_room maps spans wides copies (CloneCreate v p s size kind) e = absurd cc
unbuilt_room maps spans wides copies (Mirror v s w size kind) e = absurd cc
unbuilt_room maps spans wides copies c e = refl

unbuilt_change : (c : Command) → is_built c ≡ false → changes_volume c ≡ false
unfolding is_built
unbuilt_change (VolResize v size) e = absurd cc
unbuilt_change (VolGuarantee v kind) e = absurd cc
unbuilt_change (New v f reserve) e = rw e refl
unbuilt_change (Put v f i block) e = absurd cc
unbuilt_change (Cut v f length) e = absurd cc
unbuilt_change (Remove v f) e = absurd cc
unbuilt_change (SnapCreate v s) e = absurd cc
unbuilt_change (SnapDelete v s) e = absurd cc
unbuilt_change (SnapRestore v s) e = absurd cc
unbuilt_change c e = refl

cp_built : is_built Cp ≡ true
unfolding is_built
cp_built = refl

-- what reads files is built
built_reads : (c : Command) → reads_files c ≡ true → is_built c ≡ true
unfolding is_built reads_files
built_reads (New v f reserve) e = by (reserve == 0) e
  where
    by : (t : Bool) → (is_some (if t then Some v else None) || false) ≡ true → t ≡ true
    by true e = refl
    by false e = absurd cc
built_reads (Put v f i block) e = refl
built_reads (Get v s f i) e = refl
built_reads (Len v s f) e = refl
built_reads (Cut v f length) e = refl
built_reads (Remove v f) e = refl
built_reads (Ls v s) e = refl
built_reads (Probe v f i) e = refl
built_reads c e = absurd cc

-- the room of a command is that of its line
pub room_said : (c : Command) → IsRoomIn (built (Says c) ∷ []) (most_room c)
room_said c = so (is_built c) refl
  where
    so : (is : Bool) → is_built c ≡ is → IsRoomIn (cond is (Says c) NoCommand ∷ []) (most_room c)
    so true e = inr (c, (0, omega arith, refl), refl)
    so false e = inl (unbuilt_room _ _ _ _ c e)

-- a line has the room of its command
pub room_built : (session : Session) (c : Command) → room_in (room_by session.volumes) (built (Says c)) ≡ room_by session.volumes c
room_built session c = so (is_built c) refl
  where
    so : (is : Bool) → is_built c ≡ is → room_in (room_by session.volumes) (cond is (Says c) NoCommand) ≡ room_by session.volumes c
    so true e = refl
    so false e = sym (unbuilt_room _ _ _ _ c e)

-- so it asks for what its command asks for
unbuilt_asks : (session : Session) (c : Command) → is_built c ≡ false → asked_by session.volumes c ≡ AsksNothing
unfolding is_built asked_by
unbuilt_asks session (New v f reserve) e = rw e refl
unbuilt_asks session (Put v f i block) e = absurd cc
unbuilt_asks session (Get v s f i) e = absurd cc
unbuilt_asks session (Len v s f) e = absurd cc
unbuilt_asks session (Cut v f length) e = absurd cc
unbuilt_asks session (Remove v f) e = absurd cc
unbuilt_asks session (Ls v s) e = absurd cc
unbuilt_asks session (Probe v f i) e = absurd cc
unbuilt_asks session (SnapCreate v s) e = absurd cc
unbuilt_asks session (SnapDelete v s) e = absurd cc
unbuilt_asks session (VolDestroy v) e = absurd cc
unbuilt_asks session (Mirror v s w size kind) e = absurd cc
unbuilt_asks session Cp e = absurd cc
unbuilt_asks session c e = refl

pub asked_built : (session : Session) (c : Command) → asked_in (asked_by session.volumes) (built (Says c)) ≡ asked_by session.volumes c
asked_built session c = so (is_built c) refl
  where
    so : (is : Bool) → is_built c ≡ is → asked_in (asked_by session.volumes) (cond is (Says c) NoCommand) ≡ asked_by session.volumes c
    so true e = refl
    so false e = sym (unbuilt_asks session c e)

pub cp_reads_none : (c : Command) → c ≡ Cp → reads_files c ≡ false
unfolding reads_files
cp_reads_none c is = ap reads_files is

neither : (a b : Bool) → (a || b) ≡ false → (a ≡ false) × (b ≡ false)
neither true b e = absurd cc
neither false b e = (refl, e)

-- what isn't built doesn't reach the disk
unbuilt_reaches : (c : Command) → is_built c ≡ false → reaches_disk c ≡ false
unfolding is_built
unbuilt_reaches (Mirror v s w size kind) e = absurd cc
unbuilt_reaches (Clean v) e = absurd cc
unbuilt_reaches (Work steps) e = absurd cc
unbuilt_reaches c e = refl

-- a line takes background steps where its command does
pub steps_said : (c : Command) → takes_steps c ≡ false → takes (built (Says c)) ≡ false
steps_said c none = so (is_built c)
  where
    so : (is : Bool) → takes (cond is (Says c) NoCommand) ≡ false
    so true = none
    so false = refl

-- a line that asks for no point says no `cp`, none that reaches the disk, and no command whose room passes the dirty limit
pub quiet : (session : Session) (c : Command) (pending : ℕ) → asks_point (room_by session.volumes) pending (built (Says c)) ≡ false
    → (c ≢ Cp) × ((reaches_disk c ≡ false) × ((room_by session.volumes c ≡ 0) ⊎ (pending + room_by session.volumes c ≤ dirty_limit)))
quiet session c pending none = so (is_built c) refl none
  where
    nothing : (n : ℕ) → (nat_lt 0 n && nat_lt dirty_limit (pending + n)) ≡ false → (n ≡ 0) ⊎ (pending + n ≤ dirty_limit)
    nothing n e = by (nat_lt 0 n) (nat_lt dirty_limit (pending + n)) refl refl e
      where
        by : (a b : Bool) → nat_lt 0 n ≡ a → nat_lt dirty_limit (pending + n) ≡ b → (a && b) ≡ false → (n ≡ 0) ⊎ (pending + n ≤ dirty_limit)
        by false b x y e = inl (grind (arith, nat_tests, x))
        by true false x y e = inr (grind (arith, nat_tests, y))
        by true true x y e = absurd cc

    is_point : c ≡ Cp → is_cp (Says c) ≡ true
    is_point e = ap (λ (c : Command). is_cp (Says c)) e

    built_point : c ≡ Cp → is_built c ≡ true
    built_point e = ap is_built e ∙ cp_built

    so : (is : Bool) → is_built c ≡ is → asks_point (room_by session.volumes) pending (cond is (Says c) NoCommand) ≡ false → (c ≢ Cp) × ((reaches_disk c ≡ false) × ((room_by session.volumes c ≡ 0) ⊎ (pending + room_by session.volumes c ≤ dirty_limit)))
    so true e none =
        let parts = neither (is_cp (Says c)) (reaches_disk c || (nat_lt 0 (room_by session.volumes c) && nat_lt dirty_limit (pending + room_by session.volumes c))) none in
        let more = neither (reaches_disk c) (nat_lt 0 (room_by session.volumes c) && nat_lt dirty_limit (pending + room_by session.volumes c)) parts.1 in
        (λ is. both_ways _ parts.0 (is_point is), (more.0, nothing (room_by session.volumes c) more.1))
    so false e none = (λ is. both_ways _ e (built_point is), (unbuilt_reaches c e, inl (unbuilt_room _ _ _ _ c e)))

-- a line reads files where its command does, and changes a volume that stays where its command does
pub reads_said : (c : Command) → reads_files c ≡ true → reads_blocks (built (Says c)) ≡ true
reads_said c e = ap (λ (is : Bool). reads_blocks (cond is (Says c) NoCommand)) (built_reads c e) ∙ ap (λ (reads : Bool). reads || reaches_disk c) e

second : (a b : Bool) → b ≡ true → (a || b) ≡ true
second true b e = refl
second false b e = e

pub reaches_read : (c : Command) → reaches_disk c ≡ true → reads_blocks (built (Says c)) ≡ true
unfolding is_built
reaches_read (Mirror v s w size kind) e = second (reads_files (Mirror v s w size kind)) true e
reaches_read (Clean v) e = second (reads_files (Clean v)) true e
reaches_read (Work steps) e = second (reads_files (Work steps)) true e
reaches_read c e = absurd cc

pub changes_said : (c : Command) → changes_volumes (built (Says c)) ≡ false → changes_volume c ≡ false
changes_said c none = so (is_built c) refl none
  where
    so : (is : Bool) → is_built c ≡ is → changes_volumes (cond is (Says c) NoCommand) ≡ false → changes_volume c ≡ false
    so true e none = (neither (changes_volume c) (reaches_disk c) none).0
    so false e none = unbuilt_change c e

-- nor does it reach the disk
pub changes_once : (c : Command) → changes_volumes (built (Says c)) ≡ false → reaches_disk c ≡ false
changes_once c none = so (is_built c) refl none
  where
    so : (is : Bool) → is_built c ≡ is → changes_volumes (cond is (Says c) NoCommand) ≡ false → reaches_disk c ≡ false
    so true e none = (neither (changes_volume c) (reaches_disk c) none).1
    so false e none = unbuilt_reaches c e

-- what changes no volume that stays changes no files
pub changes_none : (c : Command) → changes_volume c ≡ false → changed_by c ≡ None
changes_none (VolResize v size) none = refl
changes_none (VolGuarantee v kind) none = refl
changes_none c none = so (changed_by c) (is_some (snapped_by c)) none
  where
    so : (volume : Option (List ℕ)) (snaps : Bool) → (is_some volume || snaps) ≡ false → volume ≡ None
    so None snaps e = refl
    so (Some v) snaps e = absurd cc

unbuilt_look : (c : Command) → is_built c ≡ false → volume_asked c ≡ None
unfolding is_built
unbuilt_look (Get v s f i) e = absurd cc
unbuilt_look (Len v s f) e = absurd cc
unbuilt_look (Ls v s) e = absurd cc
unbuilt_look (Probe v f i) e = absurd cc
unbuilt_look c e = refl

-- what isn't built reads no file
pub unbuilt_reads : (c : Command) → is_built c ≡ false → reads_files c ≡ false
unfolding reads_files
unbuilt_reads c e = rw (changes_none c (unbuilt_change c e), unbuilt_look c e) refl

-- a built command that only asks for files
pub asked_said : (c : Command) → only_asks (built (Says c)) ≡ true → (reads_files c ≡ true) × IsSome (volume_asked c)
unfolding reads_files
asked_said c asks = so (is_built c) asks
  where
    reads : is_some (volume_asked c) ≡ true → reads_files c ≡ true
    reads e = second (is_some (changed_by c)) (is_some (volume_asked c)) e

    there : (o : Option (List ℕ)) → is_some o ≡ true → IsSome o
    there None e = absurd cc
    there (Some name) e = refl

    so : (is : Bool) → only_asks (cond is (Says c) NoCommand) ≡ true → (reads_files c ≡ true) × IsSome (volume_asked c)
    so true e = (reads e, there (volume_asked c) e)
    so false e = absurd cc
