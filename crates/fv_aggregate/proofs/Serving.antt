-- What `apply` does with a command, by what the call does that carries it out.
use Rattle.std.proofs.Common.{◌≡◌, inl, ◌≢◌, ◌<◌, ◌≤◌, ◌+◌, ◌⊎◌, ⊎_elim, ℕ, Bool, true, false, List, Option, Some, None, Result, Ok, Err, inr, true≢false, refl, sym, ap, subst, ◌∙◌, arith}
use Rattle.std.specs.Prelude.{IfOk, IfSome, IsNone, IsSome, IsTrue, OnErr, OnOk}
use Rattle.std.specs.Option.{is_some}
use Rattle.fv_disk.specs.Shown.{IsDisk, Shown}
use Rattle.fv_model.specs.declared.answers.Refusal.TheVariants.{NoSnapshot, NoVolume, Range}
use Rattle.fv_model.specs.declared.answers.Reply.{Reply}
use Rattle.fv_model.specs.declared.answers.Reply.TheVariants.{Refused}
use Rattle.fv_model.specs.declared.commands.Command.{Command}
use Rattle.fv_model.specs.declared.commands.Command.TheVariants.{Cp, SnapList, VolList}
use Rattle.fv_model.specs.Machines.{Machine}
use Rattle.fv_container.specs.Chains.{slot_count}
use Rattle.fv_volume.specs.Changing.{keeps_numbers, IsChangeOf}
use Rattle.fv_volume.specs.Slots.{is_named, HasName, NoneHasName}
use Rattle.fv_volume.specs.States.{States, state_at}
use Rattle.fv_cp.specs.Lent.{FitTogether}
use Rattle.fv_cp.proofs.Whole.{resting}
use Rattle.fv_aggregate.specs.declared.fault.Fault.{Fault}
use Rattle.fv_aggregate.specs.declared.fault.Fault.TheVariants.{Failed, Memory}
use Rattle.fv_aggregate.specs.declared.session.Session.{Session}
use Rattle.fv_aggregate.specs.Applying.{HasApplied}
use Rattle.fv_aggregate.specs.Calls.{Goes, GoesFor, IsPlain, IsUntouched, LacksSnapshot, MakesNoStep, NeedsSnapshot}
use Rattle.fv_aggregate.specs.Cleaning.{GoesAs}
use Rattle.fv_aggregate.specs.Commands.{asked_by, AsksTable, slot_named, changed_by, dirty_limit, file_room, finds_file, has_range, is_built, is_get, machine_after, managed_by, reads_files, removes_volume, room_by, snapped_by, takes_steps, volume_asked, Replies}
use Rattle.fv_aggregate.specs.Failing.{IsUnmadeIn}
use Rattle.fv_aggregate.specs.Known.{KeepsNumbers, KeepsNumbersBut, KnowsNamed, KnowsNumbers, MayLose}
use Rattle.fv_aggregate.specs.Looking.{HasSnapped, Looks, Makes}
use Rattle.fv_aggregate.specs.Managing.{Manages}
use Rattle.fv_aggregate.specs.Probing.{CountsPath, TellsPath}
use Rattle.fv_aggregate.specs.Reclaiming.{MakesRoom}
use Rattle.fv_aggregate.specs.Standing.{StandsFor, StandsReady}
use Rattle.fv_aggregate.proofs.Applied.{fault_plain, no_files, rests_for, rests_for_fault}
use Rattle.fv_aggregate.proofs.Applying.{asks_none, goes_at_once, look_asks, look_files, look_goes, look_goes_for, look_name, look_no_point, look_refused, look_reply, look_same, look_unchanged, make_asks, make_calm, make_entries, make_goes, make_goes_for, make_name, make_no_point, make_reply, make_still, make_unasked, make_unchanged, make_within, no_step, no_steps, not_dead, rests_as, same_map}
use Rattle.fv_aggregate.proofs.Calls.{reads_itself, rests_asks, rests_done, rests_wanting, stays_failed}
use Rattle.fv_aggregate.proofs.Changing.{change_at_once, change_of_volume, change_reads, change_room, look_at_once, look_reads, look_room}
use Rattle.fv_aggregate.proofs.Holes.{kept_entries, no_holes}
use Rattle.fv_aggregate.proofs.Keeping.{keeps_but, keeps_managed, knows_named, may_lose, named_as}
use Rattle.fv_aggregate.proofs.LeftByCalls.{change_todo, left_any, left_asked, left_read_refused, left_same, left_untouched, managed_kept, snap_todo}
use Rattle.fv_aggregate.proofs.Looked.{was_unread}
use Rattle.fv_aggregate.proofs.Managed.{manages_over}
use Rattle.fv_aggregate.proofs.MadeRoom.{managed_room, none_roomy}
use Rattle.fv_aggregate.proofs.Decided.{managed_at_once, managed_undecided}
use Rattle.fv_aggregate.proofs.ManagedCalls.{managed_asks, managed_for, managed_goes, managed_plain}
use Rattle.fv_aggregate.proofs.SnapApplied.{applied_for, applied_plain, applied_reply}
use Rattle.fv_aggregate.proofs.SnapCommands.{snap_at_once, snap_changes, snap_other, snap_reads}

on_ok : {T P : Type 0} → P → (r : Result T Fault) → OnOk r P
on_ok p (Ok x) = p
on_ok p (Err f) = tt

-- no volume has the name that one has
pub not_none : (X : Type 0) (states : States) (slot : ℕ) (name : List ℕ) → slot < slot_count → HasName states slot name → NoneHasName states name → X
not_none X states slot name within named none = absurd (true≢false (sym named.named ∙ none.none slot within))

-- ---- nothing is changed

module _ {D : Type 0} (c : Command) (d : Shown) (at : D) (s : Session) (steps : ℕ) where
  -- a command that reads no file, and is no `cp`
  rests_applied : (r : Result Reply Fault) → IsNone s.failed → reads_files c ≡ false → takes_steps c ≡ false → c ≢ Cp → room_by s.volumes c ≡ 0 → Goes (room_by s.volumes c) (asked_by s.volumes c) d s d s r
      → (IsTrue d.tells → (last m : Machine) → StandsFor d s last m → GoesFor d last m (machine_after m c) d s r) → (IsTrue d.tells → (last m : Machine) → StandsFor d s last m → IfOk r (Replies m c)) → IsPlain c d at s d at s r
      → HasApplied c d at s steps d at s steps r
  rests_applied r fresh reads at_once other none goes goes_for reply plain = record {
    roomy = λ once. none_roomy (room_by s.volumes c) d s d r none;
    goes = goes_at_once c at_once goes;
    asks = λ none once. rests_asks (room_by s.volumes c) d s;
    goes_for = goes_for;
    reply = reply;
    plain = λ none. plain;
    on_files = λ files. absurd (true≢false (sym files ∙ reads));
    point = λ tells last m stands cp. absurd (other cp);
    sides = λ tells last m stands cp. absurd (other cp);
    calm = λ no once few. reads_itself d;
    entries = λ no once few stays. no_holes s s (kept_entries s s refl);
    files = λ tells none once without. on_ok without r;
    same = λ tells none once stays places same. on_ok same r;
    stepped = λ takes fresh. no_steps c at_once _ takes;
    left = λ tells last m stands bare. left_any c d s d s (left_same d s d s (reads_itself d) refl bare) r;
    steps = record { other = λ none. refl; known = λ tells last m stands knows. no_step r steps; path = λ tells last m stands name of. asks_none _ c name reads of; dead = λ failed. refl };
    numbers = λ alive k known stays. known;
    dead = λ failed. refl;
  }

  -- one that is answered, which leaves the machine,
  pub rests_answers : IsDisk d → (y : Reply) → IsNone s.failed → StandsReady d s → reads_files c ≡ false → takes_steps c ≡ false → c ≢ Cp → room_by s.volumes c ≡ 0 → ((m : Machine) → machine_after m c ≡ m)
      → (IsTrue d.tells → (last m : Machine) → StandsFor d s last m → Replies m c y) → IsPlain c d at s d at s (Ok y) → HasApplied c d at s steps d at s steps (Ok y)
  rests_answers laws y fresh stands reads at_once other none after replies plain =
      rests_applied (Ok y) fresh reads at_once other none (rests_done y (room_by s.volumes c) d s fresh stands) (λ tells last m held. rests_for y d s last m (machine_after m c) laws (after m) held) replies plain

  -- and one for which memory lacks
  pub rests_lacks : IsDisk d → IsNone s.failed → StandsReady d s → reads_files c ≡ false → takes_steps c ≡ false → c ≢ Cp → room_by s.volumes c ≡ 0 → IsPlain c d at s d at s (Err Memory) → (r : Result Reply Fault) → r ≡ Err Memory → HasApplied c d at s steps d at s steps r
  rests_lacks laws fresh stands reads at_once other none plain r is =
      subst (HasApplied c d at s steps d at s steps) (sym is) (rests_applied (Err Memory) fresh reads at_once other none (rests_wanting (room_by s.volumes c) d s fresh stands)
      (λ tells last m held. rests_for_fault Memory d s last m (machine_after m c) laws tt held) (λ tells last m held. tt) plain)

  -- a session that has failed
  pub failed_applied : IsDisk d → (n : ℕ) → s.failed ≡ Some n → HasApplied c d at s steps d at s steps (Err (Failed n))
  failed_applied laws n is = record {
    goes = failed_goes (takes_steps c);
    asks = λ none once. rests_asks (room_by s.volumes c) d s;
    goes_for = λ tells last m stands. rests_for_fault (Failed n) d s last m (machine_after m c) laws tt stands;
    reply = λ tells last m stands. tt;
    plain = λ none. fault_plain c d at s (Failed n) tt (λ fresh none. not_dead _ s fresh some)
        (λ fresh name of. not_dead _ s fresh some) (λ fresh name of. not_dead _ s fresh some) (λ fresh name list. not_dead _ s fresh some);
    on_files = λ files. record {
      range = λ fresh far. not_dead _ s fresh some;
      missing = λ fresh near name of none. not_dead _ s fresh some;
      lost = λ fresh near name of lacks. not_dead _ s fresh some;
      only = λ fresh name of answer. not_dead _ s fresh some;
      asked = λ of. tt;
      unanswered = λ of. was_unread d s;
      refused = λ tells last m stands. tt;
      still = λ few. tt;
      unmade = λ fresh few name of. not_dead _ s fresh some;
      path = λ tells last m stands name of. tt;
      known = λ finds near name of. tt;
    };
    point = λ tells last m stands cp. tt;
    sides = λ tells last m stands cp. resting d s.pool s.volumes last laws stands.held;
    roomy = λ once tells last m stands some past. tt;
    calm = λ other once few. reads_itself d;
    entries = λ other once few stays. no_holes s s (kept_entries s s refl);
    files = λ tells none once without. tt;
    same = λ tells none once stays places same. tt;
    stepped = λ takes fresh. not_dead _ s fresh some;
    left = λ tells last m stands bare. tt;
    steps = record { other = λ none. refl; known = λ tells last m stands knows. tt; path = λ tells last m stands name of. tt; dead = λ failed. refl };
    numbers = λ alive k known stays. known;
    dead = λ failed. refl;
  }
    where
      some : IsSome s.failed
      some = subst IsSome (sym is) refl

      failed_goes : (b : Bool) → GoesAs {T = Reply} b (room_by s.volumes c) (asked_by s.volumes c) d s d s (Err (Failed n))
      failed_goes false = stays_failed n (room_by s.volumes c) d s is
      failed_goes true =
          let goes = stays_failed {T = Reply} {asked = asked_by s.volumes c} n (room_by s.volumes c) d s is in
          record { ends = goes.ends; stands = goes.stands; done = tt; fault = goes.fault; within = omega arith }

-- ---- a command on a whole volume, or one that isn't built

pub managed_applied : {D : Type 0} (c : Command) (d : Shown) (laws : IsDisk d) (at : D) (old : Session) → FitTogether old.pool old.volumes → IsNone old.failed → StandsReady d old → (steps : ℕ) (new : Session) (reply : Reply)
    → removes_volume c ≡ false → (is_some (managed_by c) ≡ true) ⊎ (is_built c ≡ false) → Manages old c new reply → reads_files c ≡ false → snapped_by c ≡ None → c ≢ VolList → c ≢ Cp → ((name : List ℕ) → c ≢ SnapList name) → HasApplied c d at old steps d at new steps (Ok reply)
managed_applied c d laws at old fit fresh stands steps new reply stays either manages reads snaps no_list no_point no_names =
    let over = manages_over d old fit c stays either new reply manages in
    record {
      goes = goes_at_once c (managed_at_once c either) (managed_goes d old c new reply over (room_by old.volumes c) fresh stands);
      asks = λ none once. managed_asks d old c new reply over (room_by old.volumes c) none;
      goes_for = λ tells last m held. managed_for d old c new reply over laws stands last m held;
      reply = λ tells last m held. over.replies last m held;
      plain = λ plain. managed_plain d old c new reply over at stays no_list no_point no_names snaps (managed_undecided c either);
      on_files = λ files. absurd (true≢false (sym files ∙ reads));
      point = λ tells last m held cp. absurd (no_point cp);
      sides = λ tells last m held cp. absurd (no_point cp);
      roomy = λ once. none_roomy (room_by old.volumes c) d old d (Ok reply) (managed_room _ _ _ _ c either);
      calm = λ other once few. reads_itself d;
      entries = λ other once few stays. no_holes old new (kept_entries old new (over.containers stays));
      files = λ tells none once without. over.files without;
      same = λ tells none once stays places same. same_map old new (over.map stays) same;
      stepped = λ takes fresh. no_steps c (managed_at_once c either) _ takes;
      left = λ tells last m held bare why. left_same d old d new (reads_itself d) (⊎_elim (managed_kept old c new reply manages) over.refused why) bare;
      steps = record { other = λ none. refl; known = λ tells last m held knows. refl; path = λ tells last m held name of. asks_none _ c name reads of; dead = λ failed. refl };
      numbers = λ alive. keeps_managed old c new reply fit.housed.long manages;
      dead = λ failed. refl;
    }

-- a command on the volume of a name as a whole is none of the others
managed_other : (c : Command) → is_some (managed_by c) ≡ true → (k : Command) → managed_by k ≡ None → c ≢ k
managed_other c some k none is = true≢false (sym some ∙ ap (λ (z : Command). is_some (managed_by z)) is ∙ ap (λ (o : Option (List ℕ)). is_some o) none)

-- so it is of each that is on the volume of a name as a whole
pub own_applied : {D : Type 0} (own c : Command) → c ≡ own → (d : Shown) → IsDisk d → (at : D) (s : Session) → FitTogether s.pool s.volumes → IsNone s.failed → StandsReady d s → (steps : ℕ) (new : Session) (reply : Reply)
    → Manages s own new reply → removes_volume own ≡ false → is_some (managed_by own) ≡ true → volume_asked own ≡ None → changed_by own ≡ None → snapped_by own ≡ None → HasApplied c d at s steps d at new steps (Ok reply)
own_applied own c is d laws at s fit fresh stands steps new reply manages stays some asks changes snaps =
    subst (λ (k : Command). HasApplied k d at s steps d at new steps (Ok reply)) (sym is)
    (managed_applied own d laws at s fit fresh stands steps new reply stays (inl some) manages (no_files own asks changes) snaps
    (managed_other own some VolList refl) (managed_other own some Cp refl) (λ name. managed_other own some (SnapList name) refl))

-- ---- a command that asks for files

-- what is said beside of one that names this volume
pub record LooksBeside {D : Type 0} (c : Command) (name : List ℕ) (d : Shown) (at : D) (s : Session) (start : ℕ) (left : D) (n : Session) (steps : ℕ) (r : Result Reply Fault) : Type 0 where
  pub range : has_range c ≡ false → (r ≡ Ok (Refused Range)) × IsUntouched at s left n
  pub missing : has_range c ≡ true → NoneHasName s.volumes name → (r ≡ Ok (Refused NoVolume)) × IsUntouched at s left n
  pub lost : has_range c ≡ true → LacksSnapshot s.volumes name c → (r ≡ Ok (Refused NoSnapshot)) × IsUntouched at s left n
  pub only : r ≡ Ok (Refused NoSnapshot) → LacksSnapshot s.volumes name c
  pub other : is_get c ≡ false → steps ≡ start
  pub known : IsTrue d.tells → (last m : Machine) → StandsFor d s last m → MakesNoStep m c r start steps
  pub counts : IsTrue d.tells → (last m : Machine) → StandsFor d s last m → IfOk r (λ reply. IfSome (state_at s.volumes (slot_named s.volumes name)) (λ x. CountsPath d s.pool x start steps reply c))
  pub kept : KeepsNumbers s.volumes n.volumes
  pub finds : finds_file c ≡ true → has_range c ≡ true → OnOk r (KnowsNamed s.volumes name n.volumes)

pub look_applied : {D : Type 0} (c : Command) (name : List ℕ) → volume_asked c ≡ Some name → (d : Shown) (at : D) (s : Session) (start : ℕ) (e : Shown) (left : D) (n : Session) (steps : ℕ) (r : Result Reply Fault)
    → IsNone s.failed → Looks (slot_named s.volumes name) d s c e n r → LooksBeside c name d at s start left n steps r → HasApplied c d at s start e left n steps r
look_applied c name asks d at s start e left n steps r fresh looks beside = record {
  goes = goes_at_once c (look_at_once c name asks) (look_goes c name asks d s e n r looks);
  asks = λ none once. look_asks c name asks d s e n r looks;
  goes_for = look_goes_for c name asks d s e n r looks;
  reply = look_reply c name asks d s e n r looks;
  plain = λ plain. absurd (true≢false (sym (look_reads c name asks) ∙ plain));
  on_files = λ files. record {
    range = λ fresh far. beside.range far;
    missing = λ fresh near other of none. beside.missing near (subst (NoneHasName s.volumes) (look_name c name asks d s e n r looks other of) none);
    only = λ fresh other of answer. subst (λ (v : List ℕ). LacksSnapshot s.volumes v c) (sym (look_name c name asks d s e n r looks other (inr of))) (beside.only answer);
    lost = λ fresh near other of lacks. beside.lost near (subst (λ (v : List ℕ). LacksSnapshot s.volumes v c) (look_name c name asks d s e n r looks other (inr of)) lacks);
    asked = λ of. looks.read;
    unanswered = λ of. looks.unanswered;
    refused = λ tells last m stands. look_refused c name asks d s e n r looks;
    still = λ few. look_refused c name asks d s e n r looks;
    unmade = λ fresh few other change. look_unchanged c name asks d s e n r looks _ other change;
    path = λ tells last m stands other of. subst (λ (v : List ℕ). IfOk r (λ reply. IfSome (state_at s.volumes (slot_named s.volumes v)) (λ x. TellsPath d s.pool x reply c)))
        (sym (look_name c name asks d s e n r looks other (inr of))) (looks.path tells last m stands);
    known = λ finds near other of. named_as s.volumes n.volumes r other name (look_name c name asks d s e n r looks other of) (beside.finds finds near);
  };
  point = λ tells last m stands cp. look_no_point c name asks d s e n r looks _ cp;
  sides = λ tells last m stands cp. look_no_point c name asks d s e n r looks _ cp;
  roomy = λ once. none_roomy (room_by s.volumes c) d s e r (look_room c name asks s.volumes);
  calm = λ other once few. looks.only_reads;
  entries = λ other once few stays. no_holes s n looks.entries;
  files = λ tells none once without. look_files c name asks d s e n r looks without;
  same = λ tells none once stays places same. look_same c name asks d s e n r looks same;
  stepped = λ takes fresh. no_steps c (look_at_once c name asks) _ takes;
  left = λ tells last m stands bare. left_asked c d s e n r looks.read bare;
  steps = record {
    other = beside.other;
    known = beside.known;
    path = λ tells last m stands other of. subst (λ (v : List ℕ). IfOk r (λ reply. IfSome (state_at s.volumes (slot_named s.volumes v)) (λ x. CountsPath d s.pool x start steps reply c)))
        (sym (look_name c name asks d s e n r looks other (inr of))) (beside.counts tells last m stands);
    dead = λ failed. not_dead _ s fresh failed;
  };
  numbers = λ alive. keeps_but _ s.volumes n.volumes beside.kept;
  dead = λ failed. not_dead _ s fresh failed;
}

-- ---- a command that changes a file

pub record MakesBeside {D : Type 0} (c : Command) (name : List ℕ) (at : D) (s : Session) (left : D) (n : Session) (r : Result Reply Fault) : Type 0 where
  pub range : has_range c ≡ false → (r ≡ Ok (Refused Range)) × IsUntouched at s left n
  pub missing : has_range c ≡ true → NoneHasName s.volumes name → (r ≡ Ok (Refused NoVolume)) × IsUntouched at s left n
  pub kept : IsNone n.failed → KeepsNumbersBut (MayLose c s.volumes) s.volumes n.volumes
  pub finds : finds_file c ≡ true → has_range c ≡ true → OnOk r (KnowsNamed s.volumes name n.volumes)

pub make_applied : {D : Type 0} (c : Command) (name : List ℕ) → changed_by c ≡ Some name → (d : Shown) (at : D) (s : Session) (e : Shown) (left : D) (n : Session) (steps : ℕ) (r : Result Reply Fault)
    → IsNone s.failed → Makes file_room (AsksTable (slot_named s.volumes name) None false) d s c e n r → MakesRoom file_room d s e r → (s.pending + file_room ≤ dirty_limit → OnErr r (IsUnmadeIn d s name e n)) → MakesBeside c name at s left n r → HasApplied c d at s steps e left n steps r
make_applied c name of d at s e left n steps r fresh makes roomy unmade beside = record {
  roomy = λ once. subst (λ (k : ℕ). MakesRoom k d s e r) (sym (change_room name c (change_of_volume name c of) s.volumes)) roomy;
  goes = goes_at_once c (change_at_once name c (change_of_volume name c of)) (make_goes c name of d s e n r makes);
  asks = λ none once. make_asks c name of d s e n r makes none;
  goes_for = make_goes_for c name of d s e n r makes;
  reply = make_reply c name of d s e n r makes;
  plain = λ plain. absurd (true≢false (sym (change_reads name c (change_of_volume name c of)) ∙ plain));
  on_files = λ files. record {
    range = λ fresh far. beside.range far;
    missing = λ fresh near other named none. beside.missing near (subst (NoneHasName s.volumes) (make_name c name of d s e n r makes other named) none);
    only = λ fresh other asked answer. make_unasked c name of d s e n r makes _ (subst IsSome (sym asked) refl);
    lost = λ fresh near other asked lacks. make_unasked c name of d s e n r makes _ (subst IsSome (sym asked) refl);
    asked = λ asked. make_unasked c name of d s e n r makes _ asked;
    unanswered = λ asked. make_unasked c name of d s e n r makes _ asked;
    refused = makes.refused;
    still = make_still c name of d s e n r makes;
    unmade = λ fresh few other change. subst (λ (v : List ℕ). OnErr r (IsUnmadeIn d s v e n)) (sym (make_name c name of d s e n r makes other (inl change))) (make_within c name of d s e n r makes _ unmade few);
    path = λ tells last m stands other asked. make_unasked c name of d s e n r makes _ (subst IsSome (sym asked) refl);
    known = λ finds near other named. named_as s.volumes n.volumes r other name (make_name c name of d s e n r makes other named) (beside.finds finds near);
  };
  point = λ tells last m stands cp. make_no_point c name of d s e n r makes _ cp;
  sides = λ tells last m stands cp. make_no_point c name of d s e n r makes _ cp;
  calm = λ other once few. make_calm c name of d s e n r makes few;
  entries = λ other once few stays. no_holes s n (make_entries c name of d s e n r makes few);
  files = λ tells isnt once without. make_unchanged c name of d s e n r makes _ isnt;
  same = λ tells isnt once stays places same. make_unchanged c name of d s e n r makes _ isnt;
  stepped = λ takes fresh. no_steps c (change_at_once name c (change_of_volume name c of)) _ takes;
  left = λ tells last m stands bare. left_read_refused c d s e n (change_todo name c (change_of_volume name c of)) r (makes.refused tells last m stands) bare;
  steps = record { other = λ none. refl; known = λ tells last m stands knows. no_step r steps; path = λ tells last m stands other asked. make_unasked c name of d s e n r makes _ (subst IsSome (sym asked) refl); dead = λ failed. refl };
  numbers = beside.kept;
  dead = λ failed. not_dead _ s fresh failed;
}

-- ---- a command on snapshots

pub snap_applied : {D : Type 0} (c : Command) (name : List ℕ) → snapped_by c ≡ Some name → (shown : D → Shown) (at : D) (s : Session) (left : D) (n : Session) (steps : ℕ) (r : Result Reply Fault)
    → IsNone s.failed → HasSnapped (shown at) at s c (shown left) left n r → (NoneHasName s.volumes name → r ≡ Ok (Refused NoVolume)) → NeedsSnapshot s.volumes c r → MakesRoom (room_by s.volumes c) (shown at) s (shown left) r → HasApplied c (shown at) at s steps (shown left) left n steps r
snap_applied c name of shown at s left n steps r fresh did missing needs roomy = record {
  roomy = λ once. roomy;
  goes = goes_at_once c (snap_at_once name c of) did.makes.goes;
  asks = λ none once. absurd (true≢false (sym (snap_changes name c of) ∙ none));
  goes_for = applied_for c name of (shown at) at s (shown left) left n r did;
  reply = applied_reply c name of (shown at) at s (shown left) left n r did;
  plain = λ plain. applied_plain c name of (shown at) at s (shown left) left n r did missing needs;
  on_files = λ files. absurd (true≢false (sym files ∙ snap_reads name c of));
  point = λ tells last m stands cp. absurd (snap_other name c of Cp refl cp);
  sides = λ tells last m stands cp. absurd (snap_other name c of Cp refl cp);
  calm = λ other once few. did.only_reads few;
  entries = λ other once few stays. no_holes s n (did.makes.entries few);
  files = λ tells none once without. did.files tells without;
  same = λ tells none once stays which same. did.same tells which same;
  stepped = λ takes fresh. no_steps c (snap_at_once name c of) _ takes;
  left = λ tells last m stands bare. left_untouched c (shown at) s (shown left) n at left (rests_as shown at left) (snap_todo name c of) r did.refused bare;
  steps = record { other = λ none. refl; known = λ tells last m stands knows. no_step r steps; path = λ tells last m stands other asked. asks_none _ c other (snap_reads name c of) asked; dead = λ failed. refl };
  numbers = did.numbers;
  dead = λ failed. not_dead _ s fresh failed;
}

-- ---- what is said of a slot is said of the name that it has

pub knows_on : (old : States) (name : List ℕ) (slot : ℕ) (new : States) → HasName old slot name → (r : Result Reply Fault) → OnOk r (KnowsNumbers (state_at new slot)) → OnOk r (KnowsNamed old name new)
knows_on old name slot new has (Ok y) known = knows_named old name slot new has known
knows_on old name slot new has (Err f) known = tt

pub loses_named : (c : Command) (name : List ℕ) → IsChangeOf name c → (old : States) (slot : ℕ) → is_named (state_at old slot) name ≡ true → (new : States)
    → KeepsNumbersBut (λ s. (s ≡ slot) × (keeps_numbers c ≡ false)) old new → KeepsNumbersBut (MayLose c old) old new
loses_named c name change old slot named new kept s known stays =
    kept s known (λ at. stays (name, (may_lose name c change at.1, subst (λ (k : ℕ). is_named (state_at old k) name ≡ true) (sym at.0) named)))
