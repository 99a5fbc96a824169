-- The command that lists the snapshots of a volume: what it answers, and that it leaves all as it was.
use Rattle.std.proofs.Common.{◌≡◌, ◌<◌, ℕ, true, false, cond, List, [], ◌∷◌, length, Option, Some, None, Ok, Err, ⊎_elim, true≢false, refl, sym, ap, subst, ◌∙◌}
use Rattle.std.specs.Prelude.{IfSome}
use Rattle.std.specs.Option.{is_none, is_some, option_map_or}
use Rattle.std.specs.FinMap as fin
use Rattle.fv_disk.specs.Shown.{Shown}
use Rattle.fv_model.specs.declared.answers.Refusal.TheVariants.{NoVolume}
use Rattle.fv_model.specs.declared.answers.Reply.{Reply}
use Rattle.fv_model.specs.declared.answers.Reply.TheVariants.{Done, Names, Refused}
use Rattle.fv_model.specs.declared.commands.Command.{Command}
use Rattle.fv_model.specs.declared.commands.Command.TheVariants.{Cp, SnapList, VolList}
use Rattle.fv_model.specs.Machines.{Machine}
use Rattle.fv_model.specs.Effects.{change_of}
use Rattle.fv_model.specs.Refusals.{conditions, first_of, refusal}
use Rattle.fv_model.specs.Replies.{answer, Allows}
use Rattle.fv_model.specs.Volumes.{Volume}
use Rattle.fv_tables.specs.Spelled.{Under}
use Rattle.fv_laws.proofs.Changes.{same_name}
use Rattle.fv_volume.specs.declared.state.Snap.{Snap}
use Rattle.fv_volume.specs.declared.state.VolumeState.{VolumeState}
use Rattle.fv_volume.specs.OneVolume.{blocks_in, snaps_by, volume_for}
use Rattle.fv_volume.specs.Slots.{is_named, HasName, NoneHasName}
use Rattle.fv_volume.specs.Snaps.{names_kept}
use Rattle.fv_volume.specs.States.{state_at}
use Rattle.fv_volume.proofs.SnapNames.{names_told}
use Rattle.fv_aggregate.specs.declared.fault.Fault.TheVariants.{Memory}
use Rattle.fv_aggregate.specs.declared.session.Session.{Session}
use Rattle.fv_aggregate.specs.Calls.{IsPlain, TellsSnapshots}
use Rattle.fv_aggregate.specs.Deciding.{makes_volume}
use Rattle.fv_aggregate.proofs.Decided.{undecided}
use Rattle.fv_aggregate.specs.Commands.{is_built, machine_after, managed_by, snapped_by, Replies}
use Rattle.fv_aggregate.specs.Standing.{StandsFor}
use Rattle.fv_aggregate.proofs.Asked.{answer_allows}
use Rattle.fv_aggregate.proofs.HeldMachine.{is_there, not_there}
use Rattle.fv_aggregate.proofs.Missing.{refused_allows}

-- the names that are told are those of the snapshots in byte order
pub names_listed : (snaps : List Snap) (names : List (List ℕ)) → ((blocks : ℕ → Under) → names ≡ fin.keys (snaps_by blocks snaps)) → names ≡ names_kept snaps
names_listed snaps names told = told (λ k v. None) ∙ sym (names_told snaps (λ k v. None))

-- ---- by the machine

module _ (m : Machine) (v : List ℕ) where
  list_missing : fin.get m.volumes v ≡ None → refusal m (SnapList v) ≡ Some NoVolume
  unfolding conditions
  list_missing none = ap (λ (o : Option Volume). first_of ((NoVolume, is_none o) ∷ [])) none

  list_accepted : (x : Volume) → fin.get m.volumes v ≡ Some x → refusal m (SnapList v) ≡ None
  unfolding conditions
  list_accepted x there = ap (λ (o : Option Volume). first_of ((NoVolume, is_none o) ∷ [])) there

  list_answer : (x : Volume) → fin.get m.volumes v ≡ Some x → answer m (SnapList v) ≡ Names (fin.keys x.snapshots)
  unfolding answer
  list_answer x there = ap (λ (o : Option Volume). option_map_or (λ (y : Volume). Names (fin.keys y.snapshots)) o Done) there

-- what is told is what the machine allows
module _ (d : Shown) (s : Session) (long : length s.volumes ≡ 64) (last m : Machine) (stands : StandsFor d s last m) (v : List ℕ) (reply : Reply) where
  at_slot : (slot : ℕ) → HasName s.volumes slot v → (o : Option VolumeState) → state_at s.volumes slot ≡ o → IfSome o (λ x. reply ≡ Names (names_kept x.snapshots)) → Allows m (SnapList v) reply
  at_slot slot named None at told = absurd (true≢false (sym named.named ∙ ap (λ (o : Option VolumeState). is_named o v) at))
  at_slot slot named (Some x) at told =
      let own : x.name ≡ v = same_name x.name v (sym (ap (λ (o : Option VolumeState). is_named o v) at) ∙ named.named) in
      let there : fin.get m.volumes v ≡ Some (volume_for d s.pool x) = sym (ap (λ (k : Machine). fin.get k.volumes v) stands.machine) ∙ ap (fin.get _) (sym own) ∙ is_there d s.pool s.volumes long last stands.held slot x at in
      answer_allows m (SnapList v) reply (list_accepted m v (volume_for d s.pool x) there) refl
      (told ∙ ap (λ (ns : List (List ℕ)). Names ns) (names_told x.snapshots (blocks_in d s.pool x)) ∙ sym (list_answer m v (volume_for d s.pool x) there))

  list_allows : TellsSnapshots s v reply → Allows m (SnapList v) reply
  list_allows = ⊎_elim
      (λ (none : NoneHasName s.volumes v × (reply ≡ Refused NoVolume)).
      let absent : fin.get m.volumes v ≡ None = sym (ap (λ (k : Machine). fin.get k.volumes v) stands.machine) ∙ not_there d s.pool s.volumes long v none.0 in
      subst (Allows m (SnapList v)) (sym none.1) (refused_allows m (SnapList v) NoVolume (list_missing m v absent)))
      (λ (some : (slot : ℕ) × ((slot < 64) × (HasName s.volumes slot v × IfSome (state_at s.volumes slot) (λ x. reply ≡ Names (names_kept x.snapshots))))).
      at_slot some.0 some.1.1.0 (state_at s.volumes some.0) refl some.1.1.1)

-- ---- as `apply` has it

either : (m : Machine) (b : _) → cond b m m ≡ m
either m true = refl
either m false = refl

module _ (command : Command) (v : List ℕ) (is : command ≡ SnapList v) where
  pub snaps_after : (m : Machine) → machine_after m command ≡ m
  unfolding is_built machine_after change_of
  snaps_after m = ap (machine_after m) is ∙ either m (is_some (refusal m (SnapList v)))

  pub snaps_replies : (d : Shown) (s : Session) → length s.volumes ≡ 64 → (last m : Machine) → StandsFor d s last m → (reply : Reply) → TellsSnapshots s v reply → Replies m command reply
  unfolding is_built
  snaps_replies d s long last m stands reply told = subst (λ (c : Command). Replies m c reply) (sym is) (list_allows d s long last m stands v reply told)

  built : (X : Type 0) → is_built command ≡ false → X
  unfolding is_built
  built X none = absurd (true≢false (ap is_built (sym is) ∙ none))

  pub snaps_no_list : (X : Type 0) → command ≡ VolList → X
  snaps_no_list X list = absurd (apart (sym is ∙ list))
    where
      apart : SnapList v ≡ VolList → ⊥
      apart e = cc

  pub snaps_no_point : (X : Type 0) → command ≡ Cp → X
  snaps_no_point X cp = absurd (apart (sym is ∙ cp))
    where
      apart : SnapList v ≡ Cp → ⊥
      apart e = cc

  none_some : (name : List ℕ) → ◌≡◌ {A = Option (List ℕ)} None (Some name) → ⊥
  none_some name e = cc

  no_whole : (X : Type 0) (name : List ℕ) → managed_by command ≡ Some name → X
  no_whole X name of = absurd (none_some name (sym (ap managed_by is) ∙ of))

  no_snap : (X : Type 0) (name : List ℕ) → snapped_by command ≡ Some name → X
  no_snap X name of = absurd (none_some name (sym (ap snapped_by is) ∙ of))

  its_name : (name : List ℕ) → command ≡ SnapList name → v ≡ name
  its_name name also = same v name (sym is ∙ also)
    where
      same : (a b : List ℕ) → SnapList a ≡ SnapList b → a ≡ b
      same a b e = cc

  pub snaps_fail : {D : Type 0} (shown : Shown) (disk : D) (s : Session) → IsPlain command shown disk s shown disk s (Err Memory)
  snaps_fail shown disk s = record {
    refused = tt;
    calm = λ other once idle few. refl;
    idle = λ other once stays none few. refl;
    map = λ other once stays none few. refl;
    wanting = λ other once none few same. refl;
    damage = λ once. tt;
    unbuilt = λ fresh none. built _ none;
    listed = λ list. tt;
    untouched = λ list. (refl, refl);
    pointed = λ cp. tt;
    unpointed = λ cp. snaps_no_point _ cp;
    managed = λ fresh name of stays. no_whole _ name of;
    removed = λ fresh name its. no_whole _ name (ap managed_by its);
    snapped = λ fresh name of. no_snap _ name of;
    snapshots = λ fresh name also. ((refl, refl), tt);
    made = tt;
  }

  pub snaps_done : {D : Type 0} (shown : Shown) (disk : D) (s : Session) (reply : Reply) → TellsSnapshots s v reply → IsPlain command shown disk s shown disk s (Ok reply)
  snaps_done shown disk s reply told = record {
    refused = λ refused. (refl, refl);
    calm = λ other once idle few. refl;
    idle = λ other once stays none few. refl;
    map = λ other once stays none few. refl;
    wanting = λ other once none few. tt;
    damage = λ once. tt;
    unbuilt = λ fresh none. built _ none;
    listed = λ list. snaps_no_list _ list;
    untouched = λ list. (refl, refl);
    pointed = λ cp. snaps_no_point _ cp;
    unpointed = λ cp. snaps_no_point _ cp;
    managed = λ fresh name of stays. no_whole _ name of;
    removed = λ fresh name its. no_whole _ name (ap managed_by its);
    snapped = λ fresh name of. no_snap _ name of;
    snapshots = λ fresh name also. ((refl, refl), subst (λ (n : List ℕ). TellsSnapshots s n reply) (its_name name also) told);
    made = undecided s.volumes s.pool.found.blocks command (ap makes_volume is) (Ok reply);
  }
