-- A session with a mirror more: all volumes are held over the disk that was written, and the machine has the mirror by `mirror`. And where none was made,
-- all are held as they were.
use Rattle.std.proofs.Common.{◌≡◌, ◌≤◌, ◌<◌, ℕ, true, cond, List, length, Option, Some, None, sym, ap, subst, ◌∙◌, arith}
use Rattle.std.specs.Prelude.{IsTrue}
use Rattle.std.specs.Option.{is_some, option_map_or}
use Rattle.std.specs.Ordering.{eq_by_cmp}
use Rattle.std.specs.FinMap as fin
use Rattle.std.specs.FinMap.{find}
use Rattle.std.specs.FinSet as set
use Rattle.fv_disk.specs.Shown.{IsDisk, Shown}
use Rattle.fv_bits.specs.Members.{is_member}
use Rattle.fv_model.specs.declared.answers.Refusal.{Refusal}
use Rattle.fv_model.specs.declared.commands.Kind.{Kind}
use Rattle.fv_model.specs.declared.commands.Command.TheVariants.{Mirror}
use Rattle.fv_model.specs.Effects.{Becomes, Stays, at_snapshot, change_of, changed, effect, mirror_of}
use Rattle.fv_model.specs.Machines.{Machine, capacity}
use Rattle.fv_model.specs.Places.{ids_of}
use Rattle.fv_model.specs.Refusals.{next, refusal}
use Rattle.fv_model.specs.Spelling.{name_cmp}
use Rattle.fv_model.specs.Tables.{Table}
use Rattle.fv_model.specs.Volumes.{Volume}
use Rattle.fv_laws.proofs.Orders.{name_total, name_ties}
use Rattle.fv_tables.specs.Told.{table_told}
use Rattle.fv_container.specs.Chains.{container_at, paged_at}
use Rattle.fv_container.specs.Spelled.{names}
use Rattle.fv_image.specs.Held.{AgreeOnHeld, AllKeep, layout_at}
use Rattle.fv_image.specs.WholeMachine.{Tells}
use Rattle.fv_root.specs.declared.find.Found.{Found}
use Rattle.fv_root.specs.Commits.{IsFoundOn}
use Rattle.fv_root.specs.Finding.{root_found}
use Rattle.fv_pool.specs.BlocksOver.{tree_in}
use Rattle.fv_pool.specs.declared.pool.Pool.{Pool}
use Rattle.fv_volume.specs.declared.state.Snap.{Snap}
use Rattle.fv_volume.specs.declared.state.VolumeState.{VolumeState}
use Rattle.fv_volume.specs.OneVolume.{blocks_in, standing_kept, volume_for}
use Rattle.fv_volume.specs.Slots.{sum_of}
use Rattle.fv_volume.specs.States.{States, state_at, with_state}
use Rattle.fv_volume.specs.Stored.{AreSpacedIn}
use Rattle.fv_volumes.specs.UnderRoot.{IsLentAt, IsMapOf}
use Rattle.fv_volumes.proofs.LentSlots.{held_taken}
use Rattle.fv_volumes.proofs.Told.{find_set, named_from, none_named, same_named}
use Rattle.fv_mirror.specs.declared.admitting.Admitted.{Admitted}
use Rattle.fv_mirror.specs.Making.{source_bits, HasCopies}
use Rattle.fv_mirror.proofs.Held.{commits_now, copies, each_now, made_told, named_now, volume_stays}
use Rattle.fv_mirror.proofs.Labelled.{called}
use Rattle.fv_mirror.proofs.Lent.{slots_now}
use Rattle.fv_mirror.proofs.Placed.{footed_now, home, home_there, source, source_named}
use Rattle.fv_mirror.proofs.Source.{nodes_held}
use Rattle.fv_mirror.proofs.Spaced.{spaced_now}
use Rattle.fv_mirror.proofs.Told.{snapshot_told}
use Rattle.fv_cp.specs.Held.{machine_held, IsHeld}
use Rattle.fv_aggregate.specs.declared.session.Session.{Session}
use Rattle.fv_aggregate.specs.Mirroring.{IsMirrorAdded, LeavesCopies, WritesFree}
use Rattle.fv_aggregate.specs.Standing.{StandsFor}
use Rattle.fv_aggregate.proofs.HeldMachine.{at_name, is_there}
use Rattle.fv_aggregate.proofs.MirroredDisk.{found_free, keeps_free, map_free, on_disk_taken, tells_free, writes_free}
use Rattle.fv_aggregate.proofs.MirroredVolume.{housed_now}

-- So many blocks are copied as the machine's snapshot has ids.
pub record HasCountIn (m : Machine) (a : Admitted) : Type 0 where
  pub is : (v : Volume) (t : Table) → fin.get m.volumes a.source.name ≡ Some v → fin.get v.snapshots a.source.snapshot ≡ Some t → a.count ≡ set.len (ids_of t)

module _ (disk : Shown) (session : Session) (name : List ℕ) (size : ℕ) (kind : Kind) (a : Admitted) (room : ℕ) (after : Shown) (new : Session) (added : IsMirrorAdded disk session name size kind a room after new) (leaves : LeavesCopies disk session after new)
    (laws : IsDisk disk) (tells : IsTrue disk.tells) (point m : Machine) (stands : StandsFor disk session point m) where
  abbrev pool : Pool
  pool = session.pool

  abbrev states : States
  states = session.volumes

  abbrev left : Pool
  left = new.pool

  abbrev x : VolumeState
  x = added.mirrored.state

  abbrev y : VolumeState
  y = home disk pool states name size kind a after new.volumes left added.mirrored added.fit.housed

  abbrev q : Snap
  q = source disk pool states name size kind a after new.volumes left added.mirrored added.fit.housed

  abbrev table : Table
  table = table_told (standing_kept (blocks_in disk pool y) q)

  abbrev old : Volume
  old = volume_for disk pool y

  held : IsHeld disk pool states point
  held = stands.held

  same_found : left.found ≡ pool.found
  same_found = leaves.others.found

  free : WritesFree pool.map disk after
  free = writes_free disk pool after left leaves.others

  nodes : (s b : ℕ) → names (tree_in (container_at pool.containers s)) b ≡ true → is_member pool.map.next b ≡ true
  nodes = nodes_held disk.reads pool.found pool states added.few held.slots held.spaced

  agree : AgreeOnHeld (root_found pool.found) disk.reads after.reads
  agree b is = free.reads tells b (on_disk_taken pool.map b (held_taken disk.reads pool.found pool.map held.tells.sound held.map b is))

  pub all_copies : HasCopies disk pool a.source.parent (source_bits y a.source.slot) added.mirrored.container after left
  all_copies = copies disk pool states name size kind a after new.volumes left added.mirrored added.fit.housed held.footed held.each nodes leaves.others leaves.cache

  -- the source is the machine's volume of its name, with the snapshot
  source_in_m : fin.get m.volumes a.source.name ≡ Some old
  source_in_m = subst (λ (k : Machine). fin.get k.volumes a.source.name ≡ Some old) stands.machine
      (ap (fin.get (machine_held disk pool states).volumes) (source_named disk pool states name size kind a after new.volumes left added.mirrored added.fit.housed)
      ∙ is_there disk pool states added.fit.housed.long point held a.source.parent y (home_there disk pool states name size kind a after new.volumes left added.mirrored added.fit.housed))

  snap_in_m : fin.get old.snapshots a.source.snapshot ≡ Some table
  snap_in_m = snapshot_told disk pool y a.source.snapshot q added.mirrored.admits.asked.source.found

  module _ (count : HasCountIn m a) where
    counted : a.count ≡ set.len (ids_of table)
    counted = count.is old table source_in_m snap_in_m

    -- All volumes are held.
    pub mirror_held : IsHeld after left new.volumes point
    mirror_held = record {
      found = subst (IsFoundOn after) (sym same_found) (found_free disk after pool.map pool.found free tells held.found);
      tells = subst (λ (f : Found). Tells (layout_at (root_found f) after.reads) point) (sym same_found) (tells_free disk pool states point held after free laws tells);
      keeps = subst (λ (f : Found). AllKeep (root_found f) after.reads after) (sym same_found) (keeps_free disk pool states point held after free laws tells);
      map = subst (λ (f : Found). IsMapOf after.reads f left.map) (sym same_found) (map_free disk pool states point held after free laws tells left.map leaves.others.committed);
      slots = subst (λ (f : Found). (s : ℕ) → s < 64 → IsLentAt after.reads f s (state_at new.volumes s) (paged_at left.containers s)) (sym same_found)
          (slots_now disk pool states name size kind a after new.volumes left added.mirrored added.fit.housed (source_bits y a.source.slot) all_copies pool.found agree held.slots);
      spaced = subst (λ (f : Found). AreSpacedIn f.blocks left.map.next (state_at new.volumes) (container_at left.containers)) (sym same_found)
          (spaced_now disk pool states name size kind a after new.volumes left added.mirrored added.fit.housed (source_bits y a.source.slot) all_copies held.spaced held.map.len);
      names = named_now disk pool states name size kind a after new.volumes left added.mirrored added.fit.housed held.footed held.each nodes leaves.others leaves.cache held.names;
      each = each_now disk pool states name size kind a after new.volumes left added.mirrored added.fit.housed held.footed held.each nodes leaves.others leaves.cache counted;
      commits = subst (λ (f : Found). sum_of new.volumes ≤ capacity f.blocks) (sym same_found)
          (commits_now disk pool states name size kind a after new.volumes left added.mirrored added.fit.housed held.footed held.each nodes leaves.others leaves.cache);
      footed = footed_now disk pool states name size kind a after new.volumes left added.mirrored added.fit.housed held.footed;
    }

  -- ---- the machine

  abbrev row : States
  row = with_state states a.slot (Some x)

  abbrev meant : ℕ → VolumeState → Volume
  meant s z = volume_for disk pool z

  abbrev now_meant : ℕ → VolumeState → Volume
  now_meant s z = volume_for after left z

  its_name : x.name ≡ name
  its_name = called y a.source a.count a.slot name size kind a.span x added.mirrored.is

  old_same : named_from now_meant 0 states ≡ named_from meant 0 states
  old_same = same_named meant now_meant states 0 (λ k z there. volume_stays disk pool states name size kind a after new.volumes left added.mirrored added.fit.housed held.footed held.each nodes leaves.others leaves.cache k z there)

  row_long : length row ≡ 64
  row_long = sym (ap length added.mirrored.row) ∙ (housed_now disk states pool name size kind a after new.volumes left added.mirrored added.fit.housed added.few).long

  -- it has the mirror beside those that were
  machine_row : machine_held after left row ≡ record (machine_held disk pool states) { volumes = fin.insert (machine_held disk pool states).volumes x.name (volume_for after left x) }
  unfolding machine_held
  machine_row =
      let k : Machine = machine_held disk pool states in
      let free_name = added.mirrored.admits.asked.name_is in
      let inside : a.slot < length states = (let low = added.mirrored.admits.free.within in let long = added.fit.housed.long in omega (arith, low, long)) in
      let unnamed : find name_cmp x.name (named_from now_meant 0 states) ≡ None = (λ j. find name_cmp (its_name j) (old_same j)) ∙ none_named meant states 0 name (λ s lt. free_name.none s (let all = added.fit.housed.long in omega (arith, lt, all))) in
      let map : (machine_held after left row).volumes ≡ fin.insert k.volumes x.name (volume_for after left x) =
      fin.same_map name_total name_ties _ _ (λ n.
      at_name after left row row_long n
      ∙ find_set now_meant x states 0 a.slot inside added.mirrored.admits.free.free unnamed n
      ∙ (λ j. cond (eq_by_cmp name_cmp n x.name) (Some (volume_for after left x)) (find name_cmp n (old_same j)))
      ∙ ap (λ (o : Option Volume). cond (eq_by_cmp name_cmp n x.name) (Some (volume_for after left x)) o) (sym (at_name disk pool states added.fit.housed.long n))
      ∙ sym (fin.get-insert name_total k.volumes x.name (volume_for after left x) n)) in
      (λ j. record { blocks = (same_found j).blocks; version = leaves.others.version j; volumes = map j })

  changes : change_of m (Mirror a.source.name a.source.snapshot name size kind) ≡ Becomes name (mirror_of old table size kind)
  unfolding change_of
  changes =
      ap (λ (o : Option Volume). option_map_or (λ v. at_snapshot v a.source.snapshot (λ t. Becomes name (mirror_of v t size kind))) o Stays) source_in_m
      ∙ ap (λ (o : Option Table). option_map_or (λ t. Becomes name (mirror_of old t size kind)) o Stays) snap_in_m

  told : volume_for after left x ≡ mirror_of old table size kind
  told = made_told disk pool states name size kind a after new.volumes left added.mirrored added.fit.housed held.footed held.each nodes leaves.others leaves.cache

  -- So the machine has it by that command.
  pub mirror_machine : refusal m (Mirror a.source.name a.source.snapshot name size kind) ≡ None → machine_held after left new.volumes ≡ next m (Mirror a.source.name a.source.snapshot name size kind)
  mirror_machine accepts =
      ap (machine_held after left) added.mirrored.row ∙ machine_row
      ∙ ap (λ (k : Machine). record k { volumes = fin.insert k.volumes x.name (volume_for after left x) }) stands.machine
      ∙ sym (ap (λ (r : Option Refusal). cond (is_some r) m (effect m (Mirror a.source.name a.source.snapshot name size kind))) accepts
      ∙ ap (changed m) changes
      ∙ (λ i. record m { volumes = fin.insert m.volumes (sym its_name i) (sym told i) }))
