-- The snapshots of one volume of a session changed in memory alone: what its volumes are then, and what they stand for. The pool and the disk stay.
use Rattle.std.proofs.Common.{◌≡◌, ◌≢◌, ◌≤◌, ◌+◌, ℕ, true, cond, length, Option, Some, None, true≢false, sym, ap, subst, ◌∙◌, arith}
use Rattle.std.specs.Prelude.{IfSome}
use Rattle.std.specs.Option.{is_some}
use Rattle.std.proofs.lemmas.List.Sums.{sum_by-set}
use Rattle.fv_disk.specs.Shown.{Image, Shown}
use Rattle.fv_model.specs.declared.answers.Refusal.{Refusal}
use Rattle.fv_model.specs.declared.commands.Command.{Command}
use Rattle.fv_model.specs.Machines.{Machine, capacity}
use Rattle.fv_model.specs.Space.{commits, IsAdmitted}
use Rattle.fv_model.specs.Effects.{Becomes, change_of, changed, effect}
use Rattle.fv_model.specs.Refusals.{next, refusal}
use Rattle.fv_laws.proofs.Admission.{admitted}
use Rattle.fv_laws.proofs.Commits.{commits_put}
use Rattle.fv_root.specs.declared.find.Found.{Found}
use Rattle.fv_charge.specs.Ledgers.{committed}
use Rattle.fv_container.specs.Mapped.{Mapped}
use Rattle.fv_pool.specs.declared.pool.Pool.{Pool}
use Rattle.fv_volume.specs.declared.state.VolumeState.{VolumeState}
use Rattle.fv_pool.specs.Calls.{Reads}
use Rattle.fv_volume.specs.OneVolume.{volume_for, IsReady}
use Rattle.fv_pool.specs.Tables.{pending_of}
use Rattle.fv_volume.specs.Slots.{committed_by, sum_of}
use Rattle.fv_volume.specs.States.{States, parent_in, state_at, with_state}
use Rattle.fv_volume.specs.Stored.{is_of}
use Rattle.fv_volumes.specs.UnderRoot.{StandMaps}
use Rattle.fv_volume.specs.Writing.{map_wait}
use Rattle.fv_volumes.specs.Footing.{AreFooted}
use Rattle.fv_volumes.proofs.Told.{ledger_commit}
use Rattle.fv_cp.specs.Held.{machine_held, IsHeld, IsHeldIn}
use Rattle.fv_cp.specs.Lent.{maps_waiting, waiting_by, FitTogether}
use Rattle.fv_cp.specs.Placing.{pending_by, pending_files, AreReady, IsReadyIn}
use Rattle.fv_aggregate.specs.Standing.{overhead_by, overheads_in}
use Rattle.fv_aggregate.proofs.Becoming.{machine_becomes}
use Rattle.fv_aggregate.proofs.Calls.{reads_itself}
use Rattle.fv_aggregate.proofs.HeldMachine.{blocks_are, commits_are, is_admitted, is_there, one}
use Rattle.fv_aggregate.proofs.Looked.{reads_alone}
use Rattle.fv_aggregate.proofs.Replaced.{each_slot, housed_as, lent_as, named_as, same_sum, spaced_as, sum_within, within}

-- A step on a volume's snapshots: its tables, maps and ledger may be others. It has changed, and each map that a point leaves where it stands is one
-- that stood there.
pub record IsStepped (x y : VolumeState) : Type 0 where
  pub same : y ≡ record x { active = y.active; snapshots = y.snapshots; map = y.map; files = y.files; numbers = y.numbers; ledger = y.ledger; fresh = y.fresh; changed = y.changed }
  pub marked : y.changed ≡ true
  pub maps : (i : Image) (found : Found) (map : Mapped) → StandMaps i found x map → StandMaps i found y map

module _ (d : Shown) (p : Pool) (states : States) (long : length states ≡ 64) (s : ℕ) (x y : VolumeState) (there : state_at states s ≡ Some x) (step : IsStepped x y) (ready : IsReady d p y) where
  abbrev stay : States
  stay = with_state states s (Some y)

  -- ---- whatever the disk tells

  -- calls can be made on each
  pub ready_stepped : x.slot ≡ s → ((k : ℕ) → k ≢ s → IfSome (state_at states k) (IsReadyIn d p k)) → AreReady d p stay
  ready_stepped slot were = each_slot states long s x y there (λ k o. IfSome o (IsReadyIn d p k)) (record { slot = ap (λ (z : VolumeState). z.slot) step.same ∙ slot; ready = ready }) were

  -- the session's parts fit together
  pub fit_stepped : FitTogether p states → FitTogether p stay
  fit_stepped fit = record {
    range = fit.range;
    size = fit.size;
    version = fit.version;
    housed = housed_as states long s x y there p.containers ready.labelled (ap (λ (z : VolumeState). z.slot) step.same) (ap (λ (z : VolumeState). z.span) step.same) (ap (λ (z : VolumeState). parent_in (Some z)) step.same) fit.housed;
    kept = fit.kept;
  }

  -- the overheads stay
  pub overheads_stepped : overheads_in stay ≡ overheads_in states
  overheads_stepped = same_sum states long s x y there overhead_by (ap (λ (z : VolumeState). overhead_by (Some z)) step.same)

  -- so many blocks of maps wait more at most
  pub waiting_stepped : (more : ℕ) → map_wait y ≤ map_wait x + more → maps_waiting stay ≤ maps_waiting states + more
  waiting_stepped more few = sum_within states long s x y there waiting_by more few

  -- no more blocks of files are pending
  pub pending_stepped : pending_of y.files ≤ pending_of x.files → pending_files stay ≤ pending_files states
  pending_stepped few = let sum = sum_within states long s x y there pending_by 0 (omega (arith, few)) in omega (arith, sum)

  -- ---- where the volumes are what they are between points

  module _ (last : Machine) (held : IsHeld d p states last) (now : IsHeldIn d p s y) (footed : AreFooted stay p.containers) where
    -- The volumes are what they are between points,
    held_stepped : sum_of stay ≤ capacity p.found.blocks → IsHeld d p stay last
    held_stepped commits = record {
      found = held.found;
      tells = held.tells;
      keeps = held.keeps;
      map = held.map;
      slots = lent_as states long s x y there d.reads p.found (ap (λ (z : VolumeState). z.label) step.same) (ap (λ (z : VolumeState). z.span) step.same) (step.maps d.reads p.found)
          (λ map loaded un. absurd (true≢false (sym step.marked ∙ un))) p.containers held.slots;
      spaced = spaced_as states long s x y there p.containers (λ map b. ap (λ (z : VolumeState). is_of z z.label map b) step.same) p.found.blocks p.map.next held.spaced;
      names = named_as states long s x y there (ap (λ (z : VolumeState). z.name) step.same) held.names;
      each = each_slot states long s x y there (λ k o. IfSome o (IsHeldIn d p k)) now (λ k differ. held.each k);
      commits = commits;
      footed = footed;
    }

    -- ---- the machine

    abbrev m : Machine
    m = machine_held d p states

    module _ (c : Command) (accepted : refusal m c ≡ None) (becomes : change_of m c ≡ Becomes x.name (volume_for d p y)) where
      next_is : next m c ≡ changed m (Becomes x.name (volume_for d p y))
      next_is = ap (λ (o : Option Refusal). cond (is_some o) m (effect m c)) accepted ∙ ap (changed m) becomes

      next_admitted : IsAdmitted (changed m (Becomes x.name (volume_for d p y)))
      next_admitted = subst IsAdmitted next_is (admitted m c (is_admitted d p states long last held))

      total : sum_of stay ≤ capacity p.found.blocks
      total =
          let sum = sum_by-set committed_by states s (Some y) None (within states long s x y there) in
          let own : committed_by (state_at states s) ≡ committed x.ledger = ap committed_by there in
          let old = ledger_commit (volume_for d p x) x.ledger (one d p states long last held s x there).stands.ledger in
          let new = ledger_commit (volume_for d p y) y.ledger now.stands.ledger in
          let all = commits_are d p states long last held in
          let put = commits_put m x.name (volume_for d p x) (volume_for d p y) (is_there d p states long last held s x there) in
          let fits : commits (changed m (Becomes x.name (volume_for d p y))) ≤ capacity m.blocks = next_admitted.aggregate in
          let size : capacity m.blocks ≡ capacity p.found.blocks = ap capacity (blocks_are d p states long) in
          omega (arith, sum, own, old, new, all, put, fits, size)

      pub held_now : IsHeld d p stay last
      held_now = held_stepped total

      -- and they stand for the machine after the command.
      pub machine_now : machine_held d p stay ≡ next m c
      machine_now = machine_becomes d d p p reads states long last held s x y there (ap (λ (z : VolumeState). z.name) step.same) held_now ∙ sym next_is
        where
          reads : Reads d p d p
          reads = reads_alone d d p (reads_itself d) ready.lent.stands
