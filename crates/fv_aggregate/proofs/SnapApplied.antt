-- The commands that make, remove or restore a snapshot, as `apply` has them.
use Rattle.std.proofs.Common.{◌≡◌, ◌<◌, ℕ, ◌||◌, Bool, true, false, length, List, Option, Some, None, Result, Ok, Err, true≢false, refl, sym, ap, subst, ◌∙◌}
use Rattle.std.specs.Prelude.{IfErr, IfOk, IsTrue}
use Rattle.std.specs.FinMap as fin
use Rattle.fv_disk.specs.Shown.{Shown}
use Rattle.fv_model.specs.declared.answers.Refusal.TheVariants.{NoVolume}
use Rattle.fv_model.specs.declared.answers.Reply.{Reply}
use Rattle.fv_model.specs.declared.answers.Reply.TheVariants.{Refused}
use Rattle.fv_model.specs.declared.commands.Command.{Command}
use Rattle.fv_model.specs.declared.commands.Command.TheVariants.{Cp, SnapList, VolList}
use Rattle.fv_model.specs.Machines.{Machine}
use Rattle.fv_model.specs.Refusals.{refusal}
use Rattle.fv_volume.specs.Slots.{HasName, NoneHasName}
use Rattle.fv_volume.specs.States.{state_at, States}
use Rattle.fv_aggregate.specs.declared.fault.Fault.{Fault}
use Rattle.fv_aggregate.specs.declared.fault.Fault.TheVariants.{Memory}
use Rattle.fv_aggregate.specs.declared.session.Session.{Session}
use Rattle.fv_aggregate.specs.Calls.{GoesFor, IsPlain, NeedsSnapshot}
use Rattle.fv_aggregate.specs.Commands.{machine_after, managed_by, places_files, removes_volume, snapped_by, Replies}
use Rattle.fv_aggregate.specs.Looking.{HasSnapped, IsSnapAimed}
use Rattle.fv_aggregate.specs.Standing.{StandsFor}
use Rattle.fv_aggregate.proofs.Decided.{undecided}
use Rattle.fv_aggregate.proofs.HeldMachine.{not_there}
use Rattle.fv_aggregate.proofs.Returned.{named_there}
use Rattle.fv_aggregate.proofs.SnapCommands.{snap_after, snap_built, snap_missing, snap_other, snap_replies, snap_undecided, snap_whole}

-- the command is aimed at the volume that its name finds
pub snap_aimed_at : (states : States) (slot : ℕ) (name : List ℕ) (c : Command) → slot < 64 → HasName states slot name → snapped_by c ≡ Some name → IsSnapAimed states slot c
snap_aimed_at states slot name c within has of =
    let at = named_there (state_at states slot) name has.named in
    record { within = within; state = at.0; there = at.1.0; named = subst (HasName states slot) at.1.1 has; snaps = of ∙ ap (λ (n : List ℕ). Some n) at.1.1 }

-- a volume that isn't there is refused
pub snap_refused : (d : Shown) (s : Session) → length s.volumes ≡ 64 → (name : List ℕ) (c : Command) → NoneHasName s.volumes name → snapped_by c ≡ Some name → (last m : Machine) → StandsFor d s last m → refusal m c ≡ Some NoVolume
snap_refused d s long name c none of last m is = snap_missing name c of m (subst (λ (k : Machine). fin.get k.volumes name ≡ None) is.machine (not_there d s.pool s.volumes long name none))

none_some : (name : List ℕ) → ◌≡◌ {A = Option (List ℕ)} None (Some name) → ⊥
none_some name e = cc

same_names : (a b : List ℕ) → ◌≡◌ {A = Option (List ℕ)} (Some a) (Some b) → a ≡ b
same_names a b e = cc

if_ok : {P Q : Reply → Type 0} → ((x : Reply) → P x → Q x) → (r : Result Reply Fault) → IfOk r P → IfOk r Q
if_ok to (Ok x) is = to x is
if_ok to (Err f) is = tt

module _ {D : Type 0} (c : Command) (v : List ℕ) (of : snapped_by c ≡ Some v) (d : Shown) (disk : D) (s : Session) (e : Shown) (left : D) (n : Session) (r : Result Reply Fault) (did : HasSnapped d disk s c e left n r) where
  pub applied_for : IsTrue d.tells → (last m : Machine) → StandsFor d s last m → GoesFor d last m (machine_after m c) e n r
  applied_for tells last m is = subst (λ (k : Machine). GoesFor d last m k e n r) (sym (snap_after v c of m)) (did.makes.goes_for tells last m is)

  pub applied_reply : IsTrue d.tells → (last m : Machine) → StandsFor d s last m → IfOk r (Replies m c)
  applied_reply tells last m is = if_ok (λ y allowed. snap_replies v c of m y allowed) r (did.makes.reply tells last m is)

  -- what reads no leaves places no files
  no_places : (removes places : Bool) → (removes || places) ≡ false → places ≡ false
  no_places true places idle = absurd (true≢false idle)
  no_places false places idle = idle

  sure_memory : (r : Result Reply Fault) → IfErr r (λ f. ⊥) → IfErr r (λ f. f ≡ Memory → n ≡ s)
  sure_memory (Ok y) never = tt
  sure_memory (Err f) never = absurd never

  pub applied_plain : (NoneHasName s.volumes v → r ≡ Ok (Refused NoVolume)) → NeedsSnapshot s.volumes c r → IsPlain c d disk s e left n r
  applied_plain missing needs = record {
    refused = did.refused;
    calm = λ other once idle few. did.calm (no_places (removes_volume c) (places_files c) idle) few;
    idle = λ other once stays none few. did.idle none few;
    map = λ other once stays none few. did.map none;
    wanting = λ other once idle few. sure_memory r (did.sure (no_places (removes_volume c) (places_files c) idle));
    damage = λ once. did.damage;
    unbuilt = λ fresh none. absurd (true≢false (sym (snap_built v c of) ∙ none));
    listed = λ list. absurd (snap_other v c of VolList refl list);
    untouched = λ list. absurd (snap_other v c of VolList refl list);
    pointed = λ cp. absurd (snap_other v c of Cp refl cp);
    unpointed = λ cp. absurd (snap_other v c of Cp refl cp);
    managed = λ fresh name whole stays. absurd (none_some name (sym (snap_whole v c of) ∙ whole));
    removed = λ fresh name its. absurd (none_some name (sym (snap_whole v c of) ∙ ap managed_by its));
    snapped = λ fresh name its. record { missing = λ none. missing (subst (NoneHasName s.volumes) (same_names name v (sym its ∙ of)) none); needs = needs };
    snapshots = λ fresh name list. absurd (snap_other v c of (SnapList name) refl list);
    made = undecided s.volumes s.pool.found.blocks c (snap_undecided v c of) r;
  }
