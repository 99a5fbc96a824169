-- `vol create` and `clone create` as `apply` has them: each makes a volume, for which it may ask for room.
use Rattle.std.proofs.Common.{◌≡◌, ◌≢◌, ◌≤◌, ◌<◌, ◌+◌, ⊎_elim, ℕ, Bool, true, false, List, Option, Some, None, Result, Ok, true≢false, refl, sym, ap, subst, ◌∙◌, arith}
use Rattle.std.specs.Prelude.{IfOk, IsNone, IsTrue, if◌then◌else◌}
use Rattle.fv_disk.specs.Shown.{Shown}
use Rattle.fv_model.specs.declared.answers.Refusal.{Refusal}
use Rattle.fv_model.specs.declared.answers.Reply.{Reply}
use Rattle.fv_model.specs.declared.answers.Reply.TheVariants.{Refused}
use Rattle.fv_model.specs.declared.commands.Command.{Command}
use Rattle.fv_model.specs.declared.commands.Command.TheVariants.{VolCreate, VolDestroy, VolList, SnapList, CloneCreate, Cp}
use Rattle.fv_model.specs.declared.commands.Kind.{Kind}
use Rattle.fv_model.specs.Machines.{Machine}
use Rattle.fv_model.specs.Refusals.{next}
use Rattle.fv_model.specs.Replies.{Allows}
use Rattle.fv_model.specs.Space.{overhead, span_of}
use Rattle.fv_aggregate.specs.declared.fault.Fault.{Fault}
use Rattle.fv_aggregate.specs.declared.session.Session.{Session}
use Rattle.fv_aggregate.specs.Applying.{HasApplied}
use Rattle.fv_aggregate.specs.Calls.{Goes, GoesFor, IsWithinLimit}
use Rattle.fv_aggregate.specs.Commands.{asked_by, Asked, AsksNothing, dirty_limit, is_built, is_refusal, keeps_todo, machine_after, managed_by, reads_files, room_by, room_with, snapped_by, takes_steps, Replies, RepliesBy}
use Rattle.fv_aggregate.specs.Deciding.{DecidesMaking}
use Rattle.fv_aggregate.specs.Making.{MakesVolume}
use Rattle.fv_aggregate.specs.Standing.{StandsFor, StandsReady}
use Rattle.fv_aggregate.proofs.Applied.{own_room}
use Rattle.fv_aggregate.proofs.Applying.{asks_none, goes_at_once, no_step, no_steps, not_dead, rests_as}
use Rattle.fv_aggregate.proofs.Calls.{rests_asks, rests_done}
use Rattle.fv_aggregate.proofs.Holes.{kept_entries, no_holes}
use Rattle.fv_aggregate.proofs.Keeping.{keeps_but}
use Rattle.fv_aggregate.proofs.LeftByCalls.{left_untouched}
use Rattle.fv_aggregate.proofs.MadeRoom.{refused_roomy}

-- a command that makes a volume, and is none of the others
pub record IsMaking (c : Command) : Type 0 where
  pub built : is_built c ≡ true
  pub no_files : reads_files c ≡ false
  pub at_once : takes_steps c ≡ false
  pub no_asking : keeps_todo c ≡ false
  pub no_whole : managed_by c ≡ None
  pub no_snap : snapped_by c ≡ None
  pub no_point : c ≢ Cp
  pub no_list : c ≢ VolList
  pub no_names : (name : List ℕ) → c ≢ SnapList name
  pub no_removal : (name : List ℕ) → c ≢ VolDestroy name
  pub asks : (session : Session) → asked_by session.volumes c ≡ AsksNothing
  pub some_room : (session : Session) → room_by session.volumes c ≡ 0 → ⊥

none_left : (n : ℕ) → 0 < n → n ≡ 0 → ⊥
none_left n some none = omega (arith, some, none)

pub making_create : (name : List ℕ) (size : ℕ) (kind : Kind) → IsMaking (VolCreate name size kind)
unfolding is_built reads_files asked_by room_with
making_create name size kind = record {
  built = refl;
  no_files = refl;
  at_once = refl;
  no_asking = refl;
  no_whole = refl;
  no_snap = refl;
  no_point = λ e. cc;
  no_list = λ e. cc;
  no_names = λ n e. cc;
  no_removal = λ n e. cc;
  asks = λ s. refl;
  some_room = λ s. none_left _ (own_room _);
}

pub making_clone : (clone parent snapshot : List ℕ) (size : ℕ) (kind : Kind) → IsMaking (CloneCreate clone parent snapshot size kind)
unfolding is_built reads_files asked_by room_with
making_clone clone parent snapshot size kind = record {
  built = refl;
  no_files = refl;
  at_once = refl;
  no_asking = refl;
  no_whole = refl;
  no_snap = refl;
  no_point = λ e. cc;
  no_list = λ e. cc;
  no_names = λ n e. cc;
  no_removal = λ n e. cc;
  asks = λ s. refl;
  some_room = λ s. none_left _ (own_room _);
}

-- What a command that makes a volume does.
pub record HasMade {D : Type 0} (shown : D → Shown) (c : Command) (before : D) (old : Session) (after : D) (new : Session) (result : Result Reply Fault) : Type 0 where
  pub fresh : IsNone old.failed
  pub makes : MakesVolume shown (room_by old.volumes c) (λ m. next m c) before old after new result
  pub reply : IsTrue (shown before).tells → (last m : Machine) → StandsFor (shown before) old last m → IfOk result (Allows m c)
  pub decides : IfOk result (DecidesMaking old.volumes old.pool.found.blocks c)
  pub refused : IfOk result (λ reply. IsTrue (is_refusal reply) → (after ≡ before) × (new ≡ old))

-- a refusal leaves the disk and the session
pub refused_makes : {D : Type 0} (shown : D → Shown) (room : ℕ) (next : Machine → Machine) (at : D) (s : Session) (r : Refusal) → IsNone s.failed → StandsReady (shown at) s
    → (IsTrue (shown at).tells → (last m : Machine) → StandsFor (shown at) s last m → GoesFor (shown at) last m (next m) (shown at) s (Ok (Refused r)))
    → MakesVolume shown room next at s at s (Ok (Refused r))
refused_makes shown room next at s r fresh stands goes_for = record {
  runs = record {
    goes = rests_done (Refused r) room (shown at) s fresh stands;
    asks = rests_asks room (shown at) s;
    damage = tt;
    goes_for = goes_for;
    numbers = λ alive k known. known;
  };
  calm = λ few. refl;
  map = λ few. refl;
  entries = λ few. no_holes s s (kept_entries s s refl);
  holding = record { files = λ tells without. without; same = λ tells same. same };
  wanting = λ few. tt;
  roomy = refused_roomy room (shown at) s (shown at) r;
}

-- the room of `vol create` is the overhead of its span
pub create_makes : {D : Type 0} (shown : D → Shown) (name : List ℕ) (size : ℕ) (kind : Kind) (before : D) (old : Session) (after : D) (new : Session) (result : Result Reply Fault)
    → MakesVolume shown (overhead (span_of size 0 0)) (λ m. next m (VolCreate name size kind)) before old after new result
    → MakesVolume shown (room_by old.volumes (VolCreate name size kind)) (λ m. next m (VolCreate name size kind)) before old after new result
unfolding room_with
create_makes shown name size kind before old after new result makes = makes

module _ {D : Type 0} (shown : D → Shown) (c : Command) (is : IsMaking c) (before : D) (s : Session) (after : D) (n : Session) (result : Result Reply Fault) (made : HasMade shown c before s after n result) (steps : ℕ) where
  low : IsWithinLimit s c → s.pending + room_by s.volumes c ≤ dirty_limit
  low few = ⊎_elim (λ (none : room_by s.volumes c ≡ 0). absurd (is.some_room s none)) (λ (few : s.pending + room_by s.volumes c ≤ dirty_limit). few) few

  none_some : (X : Type 0) (other : List ℕ) (o : Option (List ℕ)) → o ≡ None → o ≡ Some other → X
  none_some X other o none some = let wrong : ◌≡◌ {A = Option (List ℕ)} None (Some other) = sym none ∙ some in cc

  next_is : (m : Machine) → next m c ≡ machine_after m c
  unfolding machine_after
  next_is m = ap (λ (b : Bool). if b then next m c else m) (sym is.built)

  replies : (m : Machine) → IfOk result (Allows m c) → IfOk result (Replies m c)
  replies m allowed = subst (λ (b : Bool). IfOk result (RepliesBy b m c)) (sym is.built) allowed

  -- So it is as commands are applied.
  pub made_applied : HasApplied c (shown before) before s steps (shown after) after n steps result
  made_applied = record {
    goes = goes_at_once c is.at_once (subst (λ (k : Asked). Goes (room_by s.volumes c) k (shown before) s (shown after) n result) (sym (is.asks s)) made.makes.runs.goes);
    asks = λ none once. made.makes.runs.asks;
    goes_for = λ tells last m stands. subst (λ (k : Machine). GoesFor (shown before) last m k (shown after) n result) (next_is m) (made.makes.runs.goes_for tells last m stands);
    reply = λ tells last m stands. replies m (made.reply tells last m stands);
    plain = λ plain. record {
      refused = made.refused;
      calm = λ other once idle few. made.makes.calm (low few);
      idle = λ other once stays none few. made.makes.calm (low few);
      map = λ other once stays places few. made.makes.map (low few);
      wanting = λ other once idle few. made.makes.wanting (low few);
      damage = λ once. made.makes.runs.damage;
      unbuilt = λ fresh none. absurd (true≢false (sym is.built ∙ none));
      listed = λ list. absurd (is.no_list list);
      untouched = λ list. absurd (is.no_list list);
      pointed = λ cp. absurd (is.no_point cp);
      unpointed = λ cp. absurd (is.no_point cp);
      managed = λ fresh name of stays. none_some _ name (managed_by c) is.no_whole of;
      removed = λ fresh name its. absurd (is.no_removal name its);
      snapped = λ fresh name of. none_some _ name (snapped_by c) is.no_snap of;
      snapshots = λ fresh name names. absurd (is.no_names name names);
      made = made.decides;
    };
    on_files = λ files. absurd (true≢false (sym files ∙ is.no_files));
    point = λ tells last m stands cp. absurd (is.no_point cp);
    sides = λ tells last m stands cp. absurd (is.no_point cp);
    roomy = λ once. made.makes.roomy;
    calm = λ other once few. rests_as shown before after (made.makes.calm (low few));
    entries = λ other once few stays. made.makes.entries (low few);
    files = λ tells none once without. made.makes.holding.files tells without;
    same = λ tells none once stays places same. made.makes.holding.same tells same;
    stepped = λ takes fresh. no_steps c is.at_once _ takes;
    left = λ tells last m stands bare. left_untouched c (shown before) s (shown after) n before after (rests_as shown before after) is.no_asking result made.refused bare;
    steps = record { other = λ none. refl; known = λ tells last m stands knows. no_step result steps; path = λ tells last m stands name of. asks_none _ c name is.no_files of; dead = λ failed. refl };
    numbers = λ alive. keeps_but _ s.volumes n.volumes (made.makes.runs.numbers alive);
    dead = λ failed. not_dead _ s made.fresh failed;
  }
