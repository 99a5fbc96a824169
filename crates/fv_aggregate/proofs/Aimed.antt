-- A command that is aimed at a volume, or refused before a volume is asked.
use Rattle.std.proofs.Common.{◌≡◌, ℕ, Bool, true, false, List, Option, Some, None, Result, Ok, Err, inl, inr, true≢false, refl, sym, subst, ◌∙◌, ⊎_elim}
use Rattle.std.specs.Prelude.{is_some, IsNone}
use Rattle.fv_disk.specs.Shown.{IsDisk, Shown}
use Rattle.fv_model.specs.declared.answers.Refusal.{Refusal}
use Rattle.fv_model.specs.declared.answers.Refusal.TheVariants.{NoSnapshot, NoVolume, Range, Syntax}
use Rattle.fv_model.specs.declared.answers.Reply.{Reply}
use Rattle.fv_model.specs.declared.answers.Reply.TheVariants.{Refused}
use Rattle.fv_model.specs.declared.commands.Command.{Command}
use Rattle.fv_model.specs.declared.commands.Command.TheVariants.{Clean, VolDestroy, VolResize, VolGuarantee, VolStat, Work}
use Rattle.fv_volume.specs.Slots.{NoneHasName}
use Rattle.fv_volume.specs.States.{States, state_at}
use Rattle.fv_cp.specs.Lent.{FitTogether}
use Rattle.fv_aggregate.specs.declared.aiming.Aim.{Aim}
use Rattle.fv_aggregate.specs.declared.aiming.Task.{Task}
use Rattle.fv_aggregate.specs.declared.aiming.Task.TheVariants as task
use Rattle.fv_aggregate.specs.declared.fault.Fault.{Fault}
use Rattle.fv_aggregate.specs.declared.session.Session.{Session}
use Rattle.fv_aggregate.specs.Aiming.{Aims, AimsAt, IsAimed, IsAimless, IsServed, Suits}
use Rattle.fv_aggregate.specs.Applying.{HasApplied}
use Rattle.fv_aggregate.specs.Commands.{slot_named, file_room, has_range, is_built, managed_by, removes_volume, room_by, snapped_by, takes_steps}
use Rattle.fv_aggregate.specs.Managing.{Manages}
use Rattle.fv_aggregate.specs.Standing.{StandsReady}
use Rattle.fv_aggregate.proofs.Applied.{managed_or_unbuilt, no_files}
use Rattle.fv_aggregate.proofs.Asked.{looks_done, looks_missing, no_count, no_path}
use Rattle.fv_aggregate.proofs.Calls.{reads_itself}
use Rattle.fv_aggregate.proofs.Carried.{refused_at_once, refused_missing}
use Rattle.fv_aggregate.proofs.Looked.{reads_alone}
use Rattle.fv_aggregate.proofs.Missing.{asked_far, far_change, refused_allows}
use Rattle.fv_aggregate.proofs.Serving.{look_applied, make_applied, managed_applied, not_none, snap_applied}
use Rattle.fv_aggregate.proofs.MadeRoom.{refused_roomy}
use Rattle.fv_aggregate.proofs.SnapLost.{needs_volume}
use Rattle.fv_aggregate.proofs.SnapApplied.{snap_refused}
use Rattle.fv_aggregate.proofs.SnapCommands.{snap_cases}
use Rattle.fv_aggregate.proofs.SnapDone.{refused_snapped}

-- what is asked suits the command
pub suits_as : (states : States) (slot : ℕ) (t u : Task) (c : Command) → t ≡ u → (aimed : IsAimed states slot t c) → Suits u aimed.name c
suits_as states slot t u c is aimed = subst (λ (k : Task). Suits k aimed.name c) is aimed.suits

-- what is aimed by a name is aimed by the command that has it
aims_as : (states : States) (c : Command) (name : List ℕ) (near : Bool) (t : Task) (r : Result Aim Refusal) → Suits t name c → has_range c ≡ near → AimsAt states name near t r → Aims states c r
aims_as states c name near t (Ok aim) suits range is = record { within = is.1.1.0; name = name; named = is.1.1.1; near = range ∙ is.0; suits = subst (λ (k : Task). Suits k name c) (sym is.1.0) suits }
aims_as states c name near t (Err r) suits range is = inr (record {
  task = t;
  name = name;
  suits = suits;
  why = ⊎_elim (λ far. inl (far.0, range ∙ far.1)) (λ none. inr (none.0, (range ∙ none.1.0, none.1.1))) is;
})

-- so it is of the session whose parts are these
pub aims_over : (v s : Session) → v ≡ s → (c : Command) (name : List ℕ) (near : Bool) (t : Task) (r : Result Aim Refusal) → Suits t name c → has_range c ≡ near → AimsAt v.volumes name near t r → Aims s.volumes c r
aims_over v s same c name near t r suits range is = subst (λ (k : Session). Aims k.volumes c r) same (aims_as v.volumes c name near t r suits range is)

-- whose parts fit together
pub fits_over : (v s : Session) → v ≡ s → IsNone s.failed → (IsNone v.failed → FitTogether v.pool v.volumes) → FitTogether s.pool s.volumes
fits_over v s same fresh fits = subst (λ (k : Session). FitTogether k.pool k.volumes) same (fits (subst (λ (k : Session). IsNone k.failed) (sym same) fresh))

-- ---- refused

some_none : (v : List ℕ) → ◌≡◌ {A = Option (List ℕ)} (Some v) None → ⊥
some_none v e = cc

-- it takes no steps
served_at_once : (c : Command) → IsServed c → takes_steps c ≡ false
served_at_once (Clean v) served = absurd (served.there.not_clean v refl)
served_at_once (Work steps) served = absurd (served.there.not_work steps refl)
served_at_once c served = refl

-- a command that is none of those on volumes isn't built
unbuilt : (c : Command) → IsServed c → IsAimless c → is_built c ≡ false
unbuilt c served is = ⊎_elim (λ some. absurd (whole c served some)) (λ none. none) (managed_or_unbuilt c served.there.not_create served.there.not_clone served.there.not_mirror served.not_list served.there.not_point served.not_names is.asks is.changes is.snaps (served_at_once c served))
  where
    whole : (c : Command) → IsServed c → is_some (managed_by c) ≡ true → ⊥
    whole (VolDestroy v) served some = served.not_destroy v refl
    whole (VolResize v size) served some = served.not_resize v size refl
    whole (VolGuarantee v kind) served some = served.not_guarantee v kind refl
    whole (VolStat v) served some = served.not_stat v refl
    whole c served some = true≢false (sym some)

-- it removes no volume
served_stays : (c : Command) → IsServed c → removes_volume c ≡ false
served_stays (VolDestroy v) served = absurd (served.not_destroy v refl)
served_stays c served = refl

manages_none : (s : Session) (c : Command) → IsServed c → Manages s c s (Refused Syntax)
manages_none s (VolDestroy v) served = absurd (served.not_destroy v refl)
manages_none s (VolResize v size) served = absurd (served.not_resize v size refl)
manages_none s (VolGuarantee v kind) served = absurd (served.not_guarantee v kind refl)
manages_none s (VolStat v) served = absurd (served.not_stat v refl)
manages_none s c served = (refl, refl)

no_volume_lost : ◌≡◌ {A = Result Reply Fault} (Ok (Refused NoVolume)) (Ok (Refused NoSnapshot)) → ⊥
no_volume_lost is = cc

range_lost : ◌≡◌ {A = Result Reply Fault} (Ok (Refused Range)) (Ok (Refused NoSnapshot)) → ⊥
range_lost is = cc

-- each command on snapshots is in range
snap_near : (name : List ℕ) (c : Command) → snapped_by c ≡ Some name → has_range c ≡ true
snap_near name c of = snap_cases (λ (k : Command). has_range k ≡ true) (λ v s. refl) (λ v s. refl) (λ v s. refl) name c of

module _ {D : Type 0} (shown : D → Shown) (at : D) (laws : IsDisk (shown at)) (s : Session) (fresh : IsNone s.failed) (stands : StandsReady (shown at) s) (fit : FitTogether s.pool s.volumes) (c : Command) (steps : ℕ) where
  abbrev d : Shown
  d = shown at

  abbrev Refuses : Refusal → Type 0
  Refuses r = HasApplied c d at s steps d at s steps (Ok (Refused r))

  -- out of its range
  refused_far : (t : Task) (name : List ℕ) → Suits t name c → has_range c ≡ false → Refuses Range
  refused_far task.Look name asks far = look_applied c name asks d at s steps d at s steps (Ok (Refused Range)) fresh
      (looks_done d d laws s s.pool (reads_alone d d s.pool (reads_itself d) stands.stands.cache) fresh stands c (slot_named s.volumes name) (Refused Range) refl (λ last m held. refused_allows m c Range (asked_far c name asks far m))
      (λ last m held. no_path d s.pool (state_at s.volumes (slot_named s.volumes name)) Range c))
      (record {
        range = λ far. (refl, (refl, refl));
        missing = λ near none. absurd (true≢false (sym near ∙ far));
        lost = λ near lacks. absurd (true≢false (sym near ∙ far));
        only = λ answer. absurd (range_lost answer);
        other = λ none. refl;
        known = λ tells last m held knows. refl;
        counts = λ tells last m held. no_count d s.pool (state_at s.volumes (slot_named s.volumes name)) steps steps Range c;
        kept = λ k known. known;
        finds = λ finds near. absurd (true≢false (sym near ∙ far));
      })
  refused_far task.Change name change far = make_applied c name change d at s d at s steps (Ok (Refused Range)) fresh
      (refused_at_once d laws s fresh stands c Range (λ last m is. far_change m name c change far)) (refused_roomy file_room d s d Range) (λ low. tt)
      (record {
        range = λ far. (refl, (refl, refl));
        missing = λ near none. absurd (true≢false (sym near ∙ far));
        kept = λ alive k known stays. known;
        finds = λ finds near. absurd (true≢false (sym near ∙ far));
      })
  refused_far task.Snap name of far = absurd (true≢false (sym (snap_near name c of) ∙ far))

  -- without its volume
  refused_none : (t : Task) (name : List ℕ) → Suits t name c → has_range c ≡ true → NoneHasName s.volumes name → Refuses NoVolume
  refused_none task.Look name asks near none = look_applied c name asks d at s steps d at s steps (Ok (Refused NoVolume)) fresh
      (looks_missing d laws s fresh stands fit.housed.long name c asks near none)
      (record {
        range = λ far. absurd (true≢false (sym near ∙ far));
        missing = λ near none. (refl, (refl, refl));
        lost = λ near lacks. not_none _ s.volumes lacks.slot name lacks.within lacks.named none;
        only = λ answer. absurd (no_volume_lost answer);
        other = λ none. refl;
        known = λ tells last m held knows. refl;
        counts = λ tells last m held. no_count d s.pool (state_at s.volumes (slot_named s.volumes name)) steps steps NoVolume c;
        kept = λ k known. known;
        finds = λ finds near slot within named. not_none _ s.volumes slot name within named none;
      })
  refused_none task.Change name change near none = make_applied c name change d at s d at s steps (Ok (Refused NoVolume)) fresh
      (refused_at_once d laws s fresh stands c NoVolume (refused_missing d s fit.housed.long name c none change near)) (refused_roomy file_room d s d NoVolume) (λ low. tt)
      (record {
        range = λ far. absurd (true≢false (sym near ∙ far));
        missing = λ near none. (refl, (refl, refl));
        kept = λ alive k known stays. known;
        finds = λ finds near slot within named. not_none _ s.volumes slot name within named none;
      })
  refused_none task.Snap name of near none = snap_applied c name of shown at s at s steps (Ok (Refused NoVolume)) fresh
      (refused_snapped d d at at laws (reads_itself d) refl refl s fresh stands c NoVolume (snap_refused d s fit.housed.long name c none of)) (λ none. refl) (needs_volume s.volumes name c of none) (refused_roomy (room_by s.volumes c) d s d NoVolume)

  -- a command that is refused before a volume is asked leaves all as it was
  pub refused_applied : IsServed c → (r : Refusal) → Aims s.volumes c (Err r) → Refuses r
  refused_applied served r = ⊎_elim
      (λ none. subst Refuses (sym none.0) (managed_applied c d laws at s fit fresh stands steps s (Refused Syntax) (served_stays c served) (inr (unbuilt c served none.1)) (manages_none s c served)
      (no_files c none.1.asks none.1.changes) none.1.snaps served.not_list served.there.not_point served.not_names))
      (λ missed. ⊎_elim
      (λ far. subst Refuses (sym far.0) (refused_far missed.task missed.name missed.suits far.1))
      (λ none. subst Refuses (sym none.0) (refused_none missed.task missed.name missed.suits none.1.0 none.1.1))
      missed.why)
