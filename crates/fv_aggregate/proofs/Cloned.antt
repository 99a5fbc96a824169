-- A session with a clone more: the machine has it by `clone create`.
use Rattle.std.proofs.Common.{◌≡◌, ◌≤◌, ◌<◌, ◌+◌, ◌*◌, ℕ, Bool, true, false, cond, List, length, Option, Some, None, refl, sym, ap, subst, ◌∙◌, arith}
use Rattle.std.specs.Prelude.{if◌then◌else◌, nat_le}
use Rattle.std.specs.Option.{is_some, option_map, option_map_or}
use Rattle.std.specs.FinMap as fin
use Rattle.std.specs.FinSet as set
use Rattle.std.proofs.lemmas.Bool.Decides.{nat_tests}
use Rattle.fv_disk.specs.Shown.{Shown}
use Rattle.fv_model.specs.declared.answers.Refusal.{Refusal}
use Rattle.fv_model.specs.declared.answers.Reply.TheVariants.{Done}
use Rattle.fv_model.specs.declared.commands.Kind.{Kind}
use Rattle.fv_model.specs.declared.commands.Command.{Command}
use Rattle.fv_model.specs.declared.commands.Command.TheVariants.{CloneCreate}
use Rattle.fv_model.specs.Effects.{Becomes as BecomesVolume, Stays, at_snapshot, change_of, changed, clone_of, effect}
use Rattle.fv_model.specs.Machines.{Machine, capacity}
use Rattle.fv_model.specs.Numbers.{greatest_span}
use Rattle.fv_model.specs.Places.{ids_of}
use Rattle.fv_model.specs.Refusals.{next, refusal}
use Rattle.fv_model.specs.Replies.{answer}
use Rattle.fv_model.specs.Space.{commits, overhead, span_of}
use Rattle.fv_model.specs.Tables.{Table}
use Rattle.fv_model.specs.Volumes.{Volume}
use Rattle.fv_tables.specs.Told.{table_told}
use Rattle.fv_pool.specs.declared.pool.Pool.{Pool}
use Rattle.fv_volume.specs.declared.state.Snap.{Snap}
use Rattle.fv_volume.specs.declared.state.VolumeState.{VolumeState}
use Rattle.fv_volume.specs.OneVolume.{blocks_in, standing_kept, volume_for}
use Rattle.fv_volume.specs.Cloning.{count_in}
use Rattle.fv_volume.specs.States.{States, with_state}
use Rattle.fv_volume.proofs.Cloned.{called}
use Rattle.fv_volume.proofs.SnapFinds.{told_named}
use Rattle.fv_volumes.specs.Footing.{AreFooted}
use Rattle.fv_clone.specs.declared.admitting.Admitted.{Admitted}
use Rattle.fv_clone.specs.Admitting.{span_for as span_on_slot, Admits, Refuses}
use Rattle.fv_clone.proofs.Held.{made_held, made_told, volume_stays}
use Rattle.fv_clone.proofs.Machine.{accepted, refused_as, span_in}
use Rattle.fv_clone.proofs.Placed.{base_named, footed_now, home, home_there, source}
use Rattle.fv_cp.specs.Held.{machine_held, IsHeldIn}
use Rattle.fv_aggregate.specs.declared.session.Session.{Session}
use Rattle.fv_aggregate.specs.Adding.{IsAdded, IsCloned}
use Rattle.fv_aggregate.specs.Commands.{room_by, room_with, span_at, span_within}
use Rattle.fv_aggregate.specs.Standing.{StandsFor}
use Rattle.fv_aggregate.proofs.Rooms.{span_there}
use Rattle.fv_aggregate.proofs.Added.{Becomes}
use Rattle.fv_aggregate.proofs.HeldMachine.{commits_are, blocks_are, is_there}
use Rattle.fv_aggregate.proofs.Having.{contents, has_volumes, its_content}

-- what it answers
pub clone_done : (m : Machine) (name parent snapshot : List ℕ) (size : ℕ) (kind : Kind) → answer m (CloneCreate name parent snapshot size kind) ≡ Done
unfolding answer
clone_done m name parent snapshot size kind = refl

-- ---- what is known of a session's volumes, said of the machine that it stands for

module _ (disk : Shown) (session : Session) (last m : Machine) (long : length session.volumes ≡ 64) (stands : StandsFor disk session last m) (name : List ℕ) (size : ℕ) (kind : Kind) where
  -- a clone that is refused the machine refuses as that
  pub clone_refused : (parent snapshot : List ℕ) (r : Refusal) → Refuses session.volumes session.pool.found.blocks parent snapshot name size kind r → refusal m (CloneCreate name parent snapshot size kind) ≡ Some r
  clone_refused parent snapshot r is = ap (λ (k : Machine). refusal k (CloneCreate name parent snapshot size kind)) (sym stands.machine)
      ∙ refused_as disk session.pool session.volumes long stands.held.names stands.held.each (contents disk session.pool session.volumes long last stands.held) (λ s z there. sym (its_content disk session.pool session.volumes long last stands.held s z there))
      (machine_held disk session.pool session.volumes) (has_volumes disk session.pool session.volumes long last stands.held) parent snapshot name size kind r is

  module _ (a : Admitted) (is : Admits session.volumes session.pool.found.blocks name size kind a) where
    abbrev c : Command
    c = CloneCreate name a.base.name a.base.snapshot size kind

    -- and accepts one that is admitted
    pub clone_accepted : refusal m c ≡ None
    clone_accepted = ap (λ (k : Machine). refusal k c) (sym stands.machine)
        ∙ accepted disk session.pool session.volumes long stands.held.names stands.held.each (contents disk session.pool session.volumes long last stands.held) (λ s z there. sym (its_content disk session.pool session.volumes long last stands.held s z there))
        (machine_held disk session.pool session.volumes) (has_volumes disk session.pool session.volumes long last stands.held) name size kind a is

    -- what all volumes commit leaves the capacity room for its overhead twice
    pub clone_room : commits m + 2 * overhead a.span ≤ capacity m.blocks
    clone_room = subst (λ (k : Machine). commits k + 2 * overhead a.span ≤ capacity k.blocks) stands.machine
        (let sum = commits_are disk session.pool session.volumes long last stands.held in
        omega (arith, sum, is.room, ap capacity (blocks_are disk session.pool session.volumes long)))

-- the room of one that is admitted, by the session's volumes
pub clone_room_by : (states : States) (blocks : ℕ) (name : List ℕ) (size : ℕ) (kind : Kind) (a : Admitted) → Admits states blocks name size kind a → room_by states (CloneCreate name a.base.name a.base.snapshot size kind) ≡ overhead a.span
unfolding room_with
clone_room_by states blocks name size kind a is =
    let home = is.asked.source.home in
    let fits : span_within (span_on_slot home.volume is.asked.source.snap.slot size) ≡ a.span = within (span_on_slot home.volume is.asked.source.snap.slot size) is.can.most is.can.span_is in
    ap overhead (span_there states home.slot a.base.name home.has a.base.snapshot size home.within ∙ ap (λ (o : Option VolumeState). span_at o a.base.snapshot size) home.there
    ∙ ap (λ (o : Option Snap). option_map_or (λ q. span_within (span_of size (count_in home.volume q.slot) home.volume.span)) o 0) is.asked.source.found ∙ fits)
  where
    within : (n : ℕ) → a.span ≤ greatest_span → a.span ≡ n → span_within n ≡ a.span
    within n most same = by (nat_le n greatest_span) refl
      where
        by : (b : Bool) → nat_le n greatest_span ≡ b → (if b then n else greatest_span) ≡ a.span
        by true e = sym same
        by false e = absurd (let large : greatest_span < n = grind (arith, nat_tests, e) in omega (arith, large, most, same))

-- The span of an admitted clone is that of the machine: so many ids has the table of the snapshot under which it was asked.
pub record HasSpanIn (m : Machine) (size : ℕ) (a : Admitted) : Type 0 where
  pub is : (v : Volume) (t : Table) → fin.get m.volumes a.base.name ≡ Some v → fin.get v.snapshots a.base.snapshot ≡ Some t → a.span ≡ span_of size (set.len (ids_of t)) v.span

module _ (session : Session) (name : List ℕ) (size : ℕ) (kind : Kind) (a : Admitted) (room : ℕ) (new : Session) (made : IsCloned session name size kind a room new) where
  abbrev pool : Pool
  pool = session.pool

  abbrev states : States
  states = session.volumes

  abbrev x : VolumeState
  x = made.cloned.state

  abbrev added : IsAdded session x room new
  added = made.added

  abbrev y : VolumeState
  y = home pool states name size kind a new.volumes new.pool made.cloned added.fit.housed

  abbrev q : Snap
  q = source pool states name size kind a new.volumes new.pool made.cloned added.fit.housed

  module _ (disk : Shown) (last m : Machine) (stands : StandsFor disk session last m) (spanned : HasSpanIn m size a) (accepts : refusal m (CloneCreate name a.base.name a.base.snapshot size kind) ≡ None) where
    abbrev table : Table
    table = table_told (standing_kept (blocks_in disk new.pool y) q)

    abbrev old : Volume
    old = volume_for disk pool y

    stays : volume_for disk new.pool y ≡ old
    stays = volume_stays disk pool states name size kind a new.volumes new.pool made.cloned added.fit.housed stands.held.footed stands.held.each a.base.parent y (home_there pool states name size kind a new.volumes new.pool made.cloned added.fit.housed)

    -- the parent is the machine's volume of its name, with the snapshot
    parent_in_m : fin.get m.volumes a.base.name ≡ Some old
    parent_in_m = subst (λ (k : Machine). fin.get k.volumes a.base.name ≡ Some old) stands.machine
        (ap (fin.get (machine_held disk pool states).volumes) (base_named pool states name size kind a new.volumes new.pool made.cloned added.fit.housed)
        ∙ is_there disk pool states added.fit.housed.long last stands.held a.base.parent y (home_there pool states name size kind a new.volumes new.pool made.cloned added.fit.housed))

    snap_in_m : fin.get old.snapshots a.base.snapshot ≡ Some table
    snap_in_m = ap (λ (v : Volume). fin.get v.snapshots a.base.snapshot) (sym stays)
        ∙ told_named (blocks_in disk new.pool y) a.base.snapshot y.snapshots
        ∙ ap (option_map (λ (r : Snap). table_told (standing_kept (blocks_in disk new.pool y) r))) made.cloned.admits.asked.source.found

    span_told : a.span ≡ span_of size (set.len (ids_of table)) y.span
    span_told = spanned.is old table parent_in_m snap_in_m

    held_new : IsHeldIn disk new.pool x.slot x
    held_new = subst (λ (s : ℕ). IsHeldIn disk new.pool s x) (sym made.cloned.is.slot_is)
        (made_held disk pool states name size kind a new.volumes new.pool made.cloned added.fit.housed stands.held.footed stands.held.each span_told)

    told_new : volume_for disk new.pool x ≡ clone_of a.base.name old a.base.snapshot table size kind
    told_new = made_told disk pool states name size kind a new.volumes new.pool made.cloned added.fit.housed stands.held.footed stands.held.each span_told

    footed_new : AreFooted new.volumes new.pool.containers
    footed_new = footed_now pool states name size kind a new.volumes new.pool made.cloned added.fit.housed stands.held.footed

    changes : change_of m (CloneCreate name a.base.name a.base.snapshot size kind) ≡ BecomesVolume name (clone_of a.base.name old a.base.snapshot table size kind)
    unfolding change_of
    changes =
        ap (λ (o : Option Volume). option_map_or (λ v. at_snapshot v a.base.snapshot (λ t. BecomesVolume name (clone_of a.base.name v a.base.snapshot t size kind))) o Stays) parent_in_m
        ∙ ap (λ (o : Option Table). option_map_or (λ t. BecomesVolume name (clone_of a.base.name old a.base.snapshot t size kind)) o Stays) snap_in_m

    machine_new : next m (CloneCreate name a.base.name a.base.snapshot size kind) ≡ record m { volumes = fin.insert m.volumes x.name (volume_for disk new.pool x) }
    machine_new =
        ap (λ (r : Option Refusal). cond (is_some r) m (effect m (CloneCreate name a.base.name a.base.snapshot size kind))) accepts
        ∙ ap (changed m) changes
        ∙ (λ i. record m { volumes = fin.insert m.volumes (sym (called y a.base a.slot name size kind a.span x made.cloned.is) i) (sym told_new i) })

    -- So the machine has it by that command.
    pub cloned_becomes : Becomes disk pool states x m (next m (CloneCreate name a.base.name a.base.snapshot size kind))
    cloned_becomes = record {
      held = subst (λ (p : Pool). IsHeldIn disk p x.slot x) added.put.holes held_new;
      footed = subst (λ (p : Pool). AreFooted (with_state states x.slot (Some x)) p.containers) added.put.holes (subst (λ (xs : States). AreFooted xs new.pool.containers) added.put.row footed_new);
      machine = machine_new ∙ ap (λ (p : Pool). record m { volumes = fin.insert m.volumes x.name (volume_for disk p x) }) added.put.holes;
    }

-- the span of one that is admitted is that of the machine
pub span_for : (disk : Shown) (session : Session) (last m : Machine) → length session.volumes ≡ 64 → StandsFor disk session last m → (name : List ℕ) (size : ℕ) (kind : Kind) (a : Admitted) → Admits session.volumes session.pool.found.blocks name size kind a → HasSpanIn m size a
span_for disk session last m long stands name size kind a is = record {
  is = λ v t at kept. span_in disk session.pool session.volumes long stands.held.names stands.held.each (contents disk session.pool session.volumes long last stands.held)
      (λ s z there. sym (its_content disk session.pool session.volumes long last stands.held s z there))
      (machine_held disk session.pool session.volumes) (has_volumes disk session.pool session.volumes long last stands.held) name size kind a is v t
      (ap (λ (k : Machine). fin.get k.volumes a.base.name) stands.machine ∙ at) kept;
}

-- so it is by the names under which it was asked
pub clone_room_as : (states : States) (blocks : ℕ) (name parent snapshot : List ℕ) (size : ℕ) (kind : Kind) (a : Admitted) → Admits states blocks name size kind a → a.base.name ≡ parent → a.base.snapshot ≡ snapshot
    → room_by states (CloneCreate name parent snapshot size kind) ≡ overhead a.span
clone_room_as states blocks name parent snapshot size kind a is named called =
    subst (λ (n : List ℕ). room_by states (CloneCreate name n snapshot size kind) ≡ overhead a.span) named
    (subst (λ (n : List ℕ). room_by states (CloneCreate name a.base.name n size kind) ≡ overhead a.span) called (clone_room_by states blocks name size kind a is))
