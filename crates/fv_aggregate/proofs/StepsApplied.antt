-- `clean` and `work` as `apply` has them: both take background steps.
use Rattle.std.proofs.Common.{◌≡◌, ◌≢◌, ◌<◌, ◌⊎◌, ⊎_elim, inl, inr, ℕ, zero, suc, Bool, true, false, cond, List, Option, Some, None, Result, Ok, Err, is_some, true≢false, refl, sym, ap, subst, ◌∙◌, arith}
use Rattle.std.specs.Prelude.{if◌then◌else◌, IfOk, IsNone, IsTrue}
use Rattle.std.proofs.lemmas.Bool.{cases_lt}
use Rattle.fv_disk.specs.Shown.{Shown}
use Rattle.fv_disk.specs.DiskCalls.{OnlyReads}
use Rattle.fv_model.specs.declared.answers.Reply.{Reply}
use Rattle.fv_model.specs.declared.commands.Command.{Command}
use Rattle.fv_model.specs.declared.commands.Command.TheVariants.{Clean, Cp, SnapList, VolDestroy, VolList, Work}
use Rattle.fv_model.specs.Effects.{change_of}
use Rattle.fv_model.specs.Machines.{Machine}
use Rattle.fv_model.specs.Numbers.{is_step_count}
use Rattle.fv_model.specs.Refusals.{next, refusal}
use Rattle.fv_model.specs.Replies.{Allows}
use Rattle.fv_container.specs.Chains.{slot_count}
use Rattle.fv_volume.specs.Slots.{is_named, HasName}
use Rattle.fv_volume.specs.States.{States, state_at}
use Rattle.fv_aggregate.specs.declared.fault.Fault.{Fault}
use Rattle.fv_aggregate.specs.declared.session.Session.{Session}
use Rattle.fv_aggregate.specs.Applying.{HasApplied}
use Rattle.fv_aggregate.specs.Calls.{GoesFor, IsPlain, IsUntouched}
use Rattle.fv_aggregate.specs.Cleaning.{Cleans, CleansNamed, GoesAs, GoesInSteps, StepsBy, TakesAll, TakesSteps}
use Rattle.fv_aggregate.specs.Commands.{asked_by, is_built, is_refusal, keeps_todo, machine_after, managed_by, reaches_disk, reads_files, room_by, snapped_by, takes_steps, Replies, RepliesBy}
use Rattle.fv_aggregate.specs.Deciding.{makes_volume}
use Rattle.fv_aggregate.specs.Known.{KeepsNumbers}
use Rattle.fv_aggregate.specs.Standing.{StandsFor}
use Rattle.fv_aggregate.proofs.Added.{not_refused}
use Rattle.fv_aggregate.proofs.Applying.{asks_none, no_step, not_dead}
use Rattle.fv_aggregate.proofs.Decided.{undecided}
use Rattle.fv_aggregate.proofs.Keeping.{keeps_but}
use Rattle.fv_aggregate.proofs.LeftByCalls.{left_untouched}

-- ---- a command that takes steps

-- it is none of the others
record IsStepping (c : Command) : Type 0 where
  takes : takes_steps c ≡ true
  no_asking : keeps_todo c ≡ false
  reaches : reaches_disk c ≡ true
  built : is_built c ≡ true
  no_files : reads_files c ≡ false
  no_whole : managed_by c ≡ None
  no_snap : snapped_by c ≡ None
  no_volume : makes_volume c ≡ false
  no_point : c ≢ Cp
  no_list : c ≢ VolList
  no_names : (name : List ℕ) → c ≢ SnapList name
  no_removal : (name : List ℕ) → c ≢ VolDestroy name

stepping_clean : (name : List ℕ) → IsStepping (Clean name)
unfolding is_built reads_files
stepping_clean name = record {
  takes = refl;
  no_asking = refl;
  reaches = refl;
  built = refl;
  no_files = refl;
  no_whole = refl;
  no_snap = refl;
  no_volume = refl;
  no_point = λ e. cc;
  no_list = λ e. cc;
  no_names = λ n e. cc;
  no_removal = λ n e. cc;
}

stepping_work : (steps : ℕ) → IsStepping (Work steps)
unfolding is_built reads_files
stepping_work steps = record {
  takes = refl;
  no_asking = refl;
  reaches = refl;
  built = refl;
  no_files = refl;
  no_whole = refl;
  no_snap = refl;
  no_volume = refl;
  no_point = λ e. cc;
  no_list = λ e. cc;
  no_names = λ n e. cc;
  no_removal = λ n e. cc;
}

-- What such a command does.
record HasStepped {D : Type 0} (c : Command) (shown : Shown) (before : D) (old : Session) (shown_after : Shown) (after : D) (new : Session)
    (result : Result Reply Fault) : Type 0 where
  fresh : IsNone old.failed
  -- a disk that stays shows what it showed
  rests : after ≡ before → OnlyReads shown shown_after
  goes : GoesInSteps shown old shown_after new result
  goes_for : IsTrue shown.tells → (last m : Machine) → StandsFor shown old last m → GoesFor shown last m (next m c) shown_after new result
  reply : IsTrue shown.tells → (last m : Machine) → StandsFor shown old last m → IfOk result (Allows m c)
  refused : IfOk result (λ reply. IsTrue (is_refusal reply) → IsUntouched before old after new)
  stepped : StepsBy c shown before old shown_after after new result
  numbers : IsNone new.failed → KeepsNumbers old.volumes new.volumes

module _ {D : Type 0} (c : Command) (is : IsStepping c) (d : Shown) (at : D) (s : Session) (e : Shown) (left : D) (n : Session) (result : Result Reply Fault)
    (did : HasStepped c d at s e left n result) where
  none_some : (X : Type 0) (other : List ℕ) (o : Option (List ℕ)) → o ≡ None → o ≡ Some other → X
  none_some X other o none some = let wrong : ◌≡◌ {A = Option (List ℕ)} None (Some other) = sym none ∙ some in cc

  -- none of what is said of those that don't reach the disk
  reached : (X : Type 0) → reaches_disk c ≡ false → X
  reached X none = absurd (true≢false (sym is.reaches ∙ none))

  next_is : (m : Machine) → next m c ≡ machine_after m c
  unfolding machine_after
  next_is m = ap (λ (b : Bool). if b then next m c else m) (sym is.built)

  replies : (m : Machine) → IfOk result (Allows m c) → IfOk result (Replies m c)
  replies m allowed = subst (λ (b : Bool). IfOk result (RepliesBy b m c)) (sym is.built) allowed

  stepped_plain : IsPlain c d at s e left n result
  stepped_plain = record {
    refused = did.refused;
    calm = λ other once. reached _ once;
    idle = λ other once. reached _ once;
    map = λ other once. reached _ once;
    wanting = λ other once. reached _ once;
    damage = λ once. reached _ once;
    unbuilt = λ fresh none. absurd (true≢false (sym is.built ∙ none));
    listed = λ list. absurd (is.no_list list);
    untouched = λ list. absurd (is.no_list list);
    pointed = λ cp. absurd (is.no_point cp);
    unpointed = λ cp. absurd (is.no_point cp);
    managed = λ fresh name of stays. none_some _ name (managed_by c) is.no_whole of;
    removed = λ fresh name its. absurd (is.no_removal name its);
    snapped = λ fresh name of. none_some _ name (snapped_by c) is.no_snap of;
    snapshots = λ fresh name names. absurd (is.no_names name names);
    made = undecided s.volumes s.pool.found.blocks c is.no_volume result;
  }

  stepped_applied : (start : ℕ) → HasApplied c d at s start e left n start result
  stepped_applied start = record {
    goes = subst (λ (b : Bool). GoesAs b (room_by s.volumes c) (asked_by s.volumes c) d s e n result) (sym is.takes) did.goes;
    asks = λ none once. reached _ once;
    goes_for = λ tells last m stands. subst (λ (k : Machine). GoesFor d last m k e n result) (next_is m) (did.goes_for tells last m stands);
    reply = λ tells last m stands. replies m (did.reply tells last m stands);
    plain = λ plain. stepped_plain;
    on_files = λ files. absurd (true≢false (sym files ∙ is.no_files));
    point = λ tells last m stands cp. absurd (is.no_point cp);
    sides = λ tells last m stands cp. absurd (is.no_point cp);
    roomy = λ once. absurd (true≢false (sym is.takes ∙ once));
    calm = λ other once. reached _ once;
    entries = λ other once. absurd (true≢false (sym is.takes ∙ once));
    files = λ tells none once. reached _ once;
    same = λ tells none once. reached _ once;
    stepped = λ takes fresh. did.stepped;
    left = λ tells last m stands bare. left_untouched c d s e n at left did.rests is.no_asking result did.refused bare;
    steps = record {
      other = λ none. refl;
      known = λ tells last m stands knows. no_step result start;
      path = λ tells last m stands name of. asks_none _ c name is.no_files of;
      dead = λ failed. refl;
    };
    numbers = λ alive. keeps_but _ s.volumes n.volumes (did.numbers alive);
    dead = λ failed. not_dead _ s did.fresh failed;
  }

-- ---- what is refused

if_ok : {P Q : Reply → Type 0} → ((reply : Reply) → P reply → Q reply) → (result : Result Reply Fault) → IfOk result P → IfOk result Q
if_ok to (Ok reply) is = to reply is
if_ok to (Err fault) is = tt

-- a call that leaves all as it was does so where it is refused
rests_refused : (X : Type 0) → X → (result : Result Reply Fault) → IfOk result (λ reply. IsTrue (is_refusal reply) → X)
rests_refused X left (Ok reply) = λ refused. left
rests_refused X left (Err fault) = tt

-- the first volume of a name among so many slots, or there is none
first_named : (states : States) (name : List ℕ) (n : ℕ)
    → ((s : ℕ) → s < n → is_named (state_at states s) name ≡ false) ⊎ ((slot : ℕ) × ((slot < n) × HasName states slot name))
first_named states name zero = inl (λ s below. absurd (omega (arith, below)))
first_named states name (suc n) = ⊎_elim
    (λ none. at none (is_named (state_at states n) name) refl)
    (λ some. inr (some.0, ((let below = some.1.0 in omega (arith, below)), some.1.1)))
    (first_named states name n)
  where
    at : ((s : ℕ) → s < n → is_named (state_at states s) name ≡ false) → (b : Bool) → is_named (state_at states n) name ≡ b
        → ((s : ℕ) → s < suc n → is_named (state_at states s) name ≡ false) ⊎ ((slot : ℕ) × ((slot < suc n) × HasName states slot name))
    at none true named = inr (n, (omega arith, record { named = named; first = none }))
    at none false named = inl (λ s below. ⊎_elim (λ (less : s < n). none s less)
        (λ least. subst (λ (k : ℕ). is_named (state_at states k) name ≡ false) (let same : n ≡ s = omega (arith, least, below) in same) named) (cases_lt s n))

-- ---- both

module _ {D : Type 0} (d : Shown) (at : D) (s : Session) (fresh : IsNone s.failed) (e : Shown) (left : D) (n : Session) (result : Result Reply Fault)
    (rests : left ≡ at → OnlyReads d e) (start : ℕ) where
  clean_refused : (name : List ℕ) → CleansNamed name d e at s left n result → IfOk result (λ reply. IsTrue (is_refusal reply) → IsUntouched at s left n)
  clean_refused name cleans = ⊎_elim
      (λ none. rests_refused _ (cleans.missing (record { none = none })).1 result)
      (λ some. not_refused _ result (if_ok (λ reply is. is.0) result (cleans.answered some.0 some.1.0 some.1.1)))
      (first_named s.volumes name slot_count)

  pub clean_applied : (name : List ℕ) → Cleans name d at s e left n result → HasApplied (Clean name) d at s start e left n start result
  clean_applied name does = stepped_applied (Clean name) (stepping_clean name) d at s e left n result (record {
    fresh = fresh;
    rests = rests;
    goes = does.goes;
    goes_for = does.goes_for;
    reply = does.reply;
    refused = clean_refused name does.cleans;
    stepped = does.cleans;
    numbers = does.numbers;
  }) start

  work_refused : (steps : ℕ) → TakesSteps d e steps at s left n result → IfOk result (λ reply. IsTrue (is_refusal reply) → IsUntouched at s left n)
  work_refused steps takes = by (is_step_count steps) refl
    where
      by : (near : Bool) → is_step_count steps ≡ near → IfOk result (λ reply. IsTrue (is_refusal reply) → IsUntouched at s left n)
      by true near = not_refused _ result (if_ok (λ reply is. is.0) result (takes.taken near))
      by false far = rests_refused _ (takes.far far).1 result

  either : (m : Machine) (b : Bool) → cond b m m ≡ m
  either m true = refl
  either m false = refl

  -- the machine stays, whether it is refused or not
  work_next : (steps : ℕ) (m : Machine) → next m (Work steps) ≡ m
  unfolding change_of
  work_next steps m = either m (is_some (refusal m (Work steps)))

  pub work_applied : (steps : ℕ) → TakesAll steps d at s e left n result → HasApplied (Work steps) d at s start e left n start result
  work_applied steps does = stepped_applied (Work steps) (stepping_work steps) d at s e left n result (record {
    fresh = fresh;
    rests = rests;
    goes = does.goes;
    goes_for = λ tells last m stands. subst (λ (k : Machine). GoesFor d last m k e n result) (sym (work_next steps m)) (does.goes_for tells last m stands);
    reply = does.reply;
    refused = work_refused steps does.takes;
    stepped = does.takes;
    numbers = does.numbers;
  }) start
