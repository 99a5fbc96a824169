-- What a session that stands for a machine knows of a mirror: the machine refuses and accepts it as the volumes do, has room for it, and counts as many
-- ids as blocks are copied, before a point and behind it.
use Rattle.std.proofs.Common.{◌≡◌, ◌≤◌, ◌+◌, ℕ, List, length, Option, Some, None, refl, sym, ap, subst, ◌∙◌, arith}
use Rattle.std.specs.FinMap as fin
use Rattle.std.specs.FinSet as set
use Rattle.fv_disk.specs.Shown.{Shown}
use Rattle.fv_model.specs.declared.answers.Refusal.{Refusal}
use Rattle.fv_model.specs.declared.answers.Reply.TheVariants.{Done}
use Rattle.fv_model.specs.declared.commands.Kind.{Kind}
use Rattle.fv_model.specs.declared.commands.Command.TheVariants.{Mirror}
use Rattle.fv_model.specs.Machines.{Machine, capacity}
use Rattle.fv_model.specs.Places.{ids_of}
use Rattle.fv_model.specs.Refusals.{refusal}
use Rattle.fv_model.specs.Replies.{answer}
use Rattle.fv_model.specs.Space.{commits, overhead, span_of}
use Rattle.fv_model.specs.Tables.{Table}
use Rattle.fv_model.specs.Volumes.{Volume}
use Rattle.fv_tables.specs.Told.{table_told}
use Rattle.fv_volmap.specs.Slots.{IsVolume}
use Rattle.fv_volume.specs.Cloning.{count_in}
use Rattle.fv_volume.specs.OneVolume.{blocks_in, standing_kept, volume_for}
use Rattle.fv_clone.specs.Admitting.{HasSource}
use Rattle.fv_clone.proofs.Machine as clone
use Rattle.fv_mirror.specs.declared.admitting.Admitted.{Admitted}
use Rattle.fv_mirror.specs.Admitting.{Admits, Refuses}
use Rattle.fv_mirror.proofs.Machine.{accepted, count_now, refused_as, room_beside, span_in}
use Rattle.fv_cp.specs.Held.{machine_held}
use Rattle.fv_aggregate.specs.declared.session.Session.{Session}
use Rattle.fv_aggregate.specs.Standing.{StandsFor}
use Rattle.fv_aggregate.proofs.HeldMachine.{commits_are, blocks_are}
use Rattle.fv_aggregate.proofs.Having.{contents, has_volumes, its_content}

-- what it answers
pub mirror_done : (m : Machine) (source snapshot name : List ℕ) (size : ℕ) (kind : Kind) → answer m (Mirror source snapshot name size kind) ≡ Done
unfolding answer
mirror_done m source snapshot name size kind = refl

module _ (disk : Shown) (session : Session) (last m : Machine) (long : length session.volumes ≡ 64) (stands : StandsFor disk session last m) (name : List ℕ) (size : ℕ) (kind : Kind) where
  -- a mirror that is refused the machine refuses as that
  pub mirror_refused : (source snapshot : List ℕ) (r : Refusal) → Refuses session.volumes session.pool.found.blocks source snapshot name size kind r → refusal m (Mirror source snapshot name size kind) ≡ Some r
  mirror_refused source snapshot r is = ap (λ (k : Machine). refusal k (Mirror source snapshot name size kind)) (sym stands.machine)
      ∙ refused_as disk session.pool session.volumes long stands.held.names stands.held.each (contents disk session.pool session.volumes long last stands.held) (λ s z there. sym (its_content disk session.pool session.volumes long last stands.held s z there))
      (machine_held disk session.pool session.volumes) (has_volumes disk session.pool session.volumes long last stands.held) source snapshot name size kind r is

  -- As many ids has the snapshot's table in the machine as its map slot has numbers.
  pub counted : (source snapshot : List ℕ) (at : HasSource session.volumes source snapshot) → IsVolume at.home.volume.map → (v : Volume) (t : Table) → fin.get m.volumes source ≡ Some v → fin.get v.snapshots snapshot ≡ Some t
      → count_in at.home.volume at.snap.slot ≡ set.len (ids_of t)
  counted source snapshot at whole v t there kept =
      let first : ◌≡◌ {A = Option Volume} (Some (volume_for disk session.pool at.home.volume)) (Some v) =
      sym (clone.parent_is disk session.pool session.volumes long stands.held.names stands.held.each (contents disk session.pool session.volumes long last stands.held) (λ s z there. sym (its_content disk session.pool session.volumes long last stands.held s z there))
      (machine_held disk session.pool session.volumes) (has_volumes disk session.pool session.volumes long last stands.held) source at.home)
      ∙ ap (λ (k : Machine). fin.get k.volumes source) stands.machine ∙ there in
      let its : volume_for disk session.pool at.home.volume ≡ v = cc in
      let second : ◌≡◌ {A = Option Table} (Some (table_told (standing_kept (blocks_in disk session.pool at.home.volume) at.snap))) (Some t) =
      sym (clone.table_is disk session.pool session.volumes long stands.held.names stands.held.each (contents disk session.pool session.volumes long last stands.held) (λ s z there. sym (its_content disk session.pool session.volumes long last stands.held s z there))
      (machine_held disk session.pool session.volumes) (has_volumes disk session.pool session.volumes long last stands.held) source snapshot name size kind at)
      ∙ ap (λ (w : Volume). fin.get w.snapshots snapshot) its ∙ kept in
      let same : table_told (standing_kept (blocks_in disk session.pool at.home.volume) at.snap) ≡ t = cc in
      sym (clone.ids_are disk session.pool session.volumes long stands.held.names stands.held.each (contents disk session.pool session.volumes long last stands.held) (λ s z there. sym (its_content disk session.pool session.volumes long last stands.held s z there))
      (machine_held disk session.pool session.volumes) (has_volumes disk session.pool session.volumes long last stands.held) source snapshot name size kind at whole)
      ∙ ap (λ (u : Table). set.len (ids_of u)) same

  module _ (a : Admitted) (is : Admits session.volumes session.pool.found.blocks name size kind a) where
    -- and accepts one that is admitted
    pub mirror_accepted : refusal m (Mirror a.source.name a.source.snapshot name size kind) ≡ None
    mirror_accepted = ap (λ (k : Machine). refusal k (Mirror a.source.name a.source.snapshot name size kind)) (sym stands.machine)
        ∙ accepted disk session.pool session.volumes long stands.held.names stands.held.each (contents disk session.pool session.volumes long last stands.held) (λ s z there. sym (its_content disk session.pool session.volumes long last stands.held s z there))
        (machine_held disk session.pool session.volumes) (has_volumes disk session.pool session.volumes long last stands.held) name size kind a is

    -- what all volumes commit leaves the capacity room for its overhead and its copies
    pub mirror_room : commits m + (overhead a.span + a.count) ≤ capacity m.blocks
    mirror_room = subst (λ (k : Machine). commits k + (overhead a.span + a.count) ≤ capacity k.blocks) stands.machine
        (let sum = commits_are disk session.pool session.volumes long last stands.held in
        let most = room_beside session.volumes session.pool.found.blocks name size kind a is in
        omega (arith, sum, most, ap capacity (blocks_are disk session.pool session.volumes long)))

    -- Its span is that of the machine, and so many ids has the table of the snapshot.
    pub mirror_span : (v : Volume) (t : Table) → fin.get m.volumes a.source.name ≡ Some v → fin.get v.snapshots a.source.snapshot ≡ Some t → a.span ≡ span_of size 0 v.span
    mirror_span v t at kept = span_in disk session.pool session.volumes long stands.held.names stands.held.each (contents disk session.pool session.volumes long last stands.held)
        (λ s z there. sym (its_content disk session.pool session.volumes long last stands.held s z there))
        (machine_held disk session.pool session.volumes) (has_volumes disk session.pool session.volumes long last stands.held) name size kind a is v t
        (ap (λ (k : Machine). fin.get k.volumes a.source.name) stands.machine ∙ at) kept

    pub mirror_count : (v : Volume) (t : Table) → fin.get m.volumes a.source.name ≡ Some v → fin.get v.snapshots a.source.snapshot ≡ Some t → a.count ≡ set.len (ids_of t)
    mirror_count v t at kept = count_now disk session.pool session.volumes long stands.held.names stands.held.each (contents disk session.pool session.volumes long last stands.held)
        (λ s z there. sym (its_content disk session.pool session.volumes long last stands.held s z there))
        (machine_held disk session.pool session.volumes) (has_volumes disk session.pool session.volumes long last stands.held) name size kind a is v t
        (ap (λ (k : Machine). fin.get k.volumes a.source.name) stands.machine ∙ at) kept
