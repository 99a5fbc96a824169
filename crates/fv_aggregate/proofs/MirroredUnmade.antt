-- A session in which no mirror was made, over a disk of which free blocks were written: all volumes are held as they were, and the machine stays.
use Rattle.std.proofs.Common.{◌≡◌, ◌≤◌, ◌<◌, ◌+◌, ℕ, true, List, length, Option, Some, None, refl, sym, ap, subst, ◌∙◌}
use Rattle.std.specs.Prelude.{IfSome, IsTrue}
use Rattle.std.specs.FinMap as fin
use Rattle.std.specs.FinMap.{find}
use Rattle.std.specs.FinSet as set
use Rattle.std.proofs.lemmas.Option.{none-some}
use Rattle.fv_disk.specs.Shown.{IsDisk, Shown}
use Rattle.fv_bits.specs.Members.{is_member}
use Rattle.fv_aggmap.specs.Space.{Space}
use Rattle.fv_container.specs.declared.entry.Entry.{Entry}
use Rattle.fv_container.specs.Chains.{AreCleanOn, IsSlots, Slots, container_at, map_in, own_entry, paged_at, parent_at}
use Rattle.fv_container.specs.Clean.{IsCleanOn}
use Rattle.fv_container.specs.Paged.{Paged}
use Rattle.fv_container.specs.Spelled.{names}
use Rattle.fv_container.proofs.Clean.{clean_still}
use Rattle.fv_image.specs.Held.{AgreeOnHeld, AllKeep, layout_at}
use Rattle.fv_image.specs.WholeMachine.{Tells}
use Rattle.fv_laws.proofs.Orders.{name_total, name_ties}
use Rattle.fv_model.specs.Machines.{Machine, capacity}
use Rattle.fv_model.specs.Space.{base_ids}
use Rattle.fv_model.specs.Spelling.{name_cmp}
use Rattle.fv_model.specs.Volumes.{Volume}
use Rattle.fv_root.specs.declared.find.Found.{Found}
use Rattle.fv_root.specs.Commits.{IsFoundOn}
use Rattle.fv_root.specs.Finding.{root_found}
use Rattle.fv_root.specs.Formatted.{IsSize}
use Rattle.fv_pool.specs.BlocksOver.{entries_in, tree_in}
use Rattle.fv_pool.specs.declared.pool.Pool.{Pool}
use Rattle.fv_pool.specs.Keeping.{kept_or, seen}
use Rattle.fv_store.specs.Held.{StandsOn}
use Rattle.fv_volume.specs.declared.state.VolumeState.{VolumeState}
use Rattle.fv_volume.specs.Held.{IsHeldIn}
use Rattle.fv_volume.specs.OneVolume.{volume_for}
use Rattle.fv_volume.specs.Placing.{StaysBeside}
use Rattle.fv_volume.specs.Slots.{sum_of, IsFirstFree}
use Rattle.fv_volume.specs.States.{States, state_at}
use Rattle.fv_volume.specs.Stored.{AreSpacedIn}
use Rattle.fv_volumes.specs.Footing.{AreFooted}
use Rattle.fv_volumes.specs.UnderRoot.{IsLentAt, IsMapOf}
use Rattle.fv_volumes.proofs.Beside.{beside_taken, free_off, StandOff}
use Rattle.fv_volumes.proofs.LentSlots.{held_taken}
use Rattle.fv_volumes.proofs.Told.{named_from, same_named}
use Rattle.fv_mirror.proofs.Lent.{still_lent}
use Rattle.fv_mirror.proofs.Source.{next_taken, nodes_held}
use Rattle.fv_mirror.specs.Making.{LeavesOthers}
use Rattle.fv_cp.specs.Held.{machine_held, IsHeld}
use Rattle.fv_cp.specs.Lent.{FitTogether}
use Rattle.fv_aggregate.specs.Mirroring.{WritesFree}
use Rattle.fv_aggregate.proofs.HeldMachine.{at_name}
use Rattle.fv_aggregate.proofs.MirroredDisk.{found_free, keeps_free, map_free, on_disk_taken, tells_free, writes_free}

module _ (disk : Shown) (pool : Pool) (states : States) (slot : ℕ) (spare : IsFirstFree states slot) (fit : FitTogether pool states) (few : IsSlots pool.containers) (after : Shown) (left : Pool) (leaves : LeavesOthers disk pool after left)
    (same_map : left.map ≡ pool.map) (same : left.containers ≡ pool.containers) (laws : IsDisk disk) (tells : IsTrue disk.tells) (last : Machine) (held : IsHeld disk pool states last) where
  free : WritesFree pool.map disk after
  free = writes_free disk pool after left leaves

  nodes : (s b : ℕ) → names (tree_in (container_at pool.containers s)) b ≡ true → is_member pool.map.next b ≡ true
  nodes = nodes_held disk.reads pool.found pool states few held.slots held.spaced

  agree : AgreeOnHeld (root_found pool.found) disk.reads after.reads
  agree b is = free.reads tells b (on_disk_taken pool.map b (held_taken disk.reads pool.found pool.map held.tells.sound held.map b is))

  one : (s : ℕ) (z : VolumeState) → state_at states s ≡ Some z → IsHeldIn disk pool s z
  one s z there = subst (λ (o : Option VolumeState). IfSome o (IsHeldIn disk pool s)) there (held.each s)

  reads_same : (b : ℕ) → is_member pool.map.next b ≡ true → after.reads b ≡ disk.reads b
  reads_same b is = leaves.reads tells b (next_taken pool.map b is)

  seen_same : (b : ℕ) → is_member pool.map.next b ≡ true → seen left.kept after.reads b ≡ seen pool.kept disk.reads b
  seen_same b is =
      ap (λ (o : Option (List ℕ)). kept_or o (after.reads b)) (leaves.kept b (next_taken pool.map b is))
      ∙ ap (λ (block : List ℕ). kept_or (fin.get pool.kept b) block) (reads_same b is)

  next_before : (k v : ℕ) (w : VolumeState) (e : Entry) → state_at states k ≡ Some w → own_entry (container_at pool.containers k) v ≡ Some e → is_member pool.map.next e.pvbn ≡ true
  next_before k v w e here own = let its = one k w here in its.stands.told.1.own v e (ap (λ (n : ℕ). own_entry (container_at pool.containers n) v) its.slot ∙ own)

  -- a volume that is there has its container clean on the disk
  clean_now : AreCleanOn disk.reads pool.containers → AreCleanOn after.reads left.containers
  clean_now clean = subst (AreCleanOn after.reads) (sym same) (λ s. by s (paged_at pool.containers s) refl (clean s))
    where
      by : (s : ℕ) (c : Option Paged) → paged_at pool.containers s ≡ c → IfSome c (IsCleanOn disk.reads) → IfSome c (IsCleanOn after.reads)
      by s None at clean = tt
      by s (Some paged) at clean = clean_still disk.reads after.reads paged (λ b named. reads_same b (nodes s b (ap (λ (o : Option Paged). names (tree_in (map_in o)) b) at ∙ named))) clean

  off : StandOff pool.containers slot states
  off = free_off states pool.containers fit.housed held.footed slot spare.free

  stays : (s : ℕ) (z : VolumeState) → state_at states s ≡ Some z → StaysBeside disk pool after left z
  stays s z there =
      let was = one s z there in
      beside_taken disk after pool left states slot off
      (λ k other. ap (λ (c : Slots). container_at c k) same) (λ k other. ap (λ (c : Slots). parent_at c k) same) leaves.tells
      z (ap (state_at states) was.slot ∙ there) (λ e. none-some z (sym spare.free ∙ ap (state_at states) (sym e ∙ was.slot) ∙ there))
      (λ k v w e other here own. seen_same e.pvbn (next_before k v w e here own))
      (λ k v w e other here own. ap (λ (m : Space). is_member m.next e.pvbn) same_map ∙ next_before k v w e here own)
      (clean_now was.stands.told.2) was.stands

  module _ (cache : StandsOn after left.store.pairs) where
    one_held : (s : ℕ) (z : VolumeState) → state_at states s ≡ Some z → IsHeldIn after left s z
    one_held s z there =
        let was = one s z there in
        let beside = stays s z there in
        record {
          slot = was.slot;
          ready = record {
            lent = record {
              within = was.ready.lent.within;
              stands = cache;
              few = was.ready.lent.few;
              entries = subst (λ (c : Slots). z.map.span ≤ length (entries_in (container_at c z.slot))) (sym same) was.ready.lent.entries;
            };
            labelled = was.ready.labelled;
            booked = was.ready.booked;
            blocks = subst (λ (f : Found). IsSize f.blocks) (sym leaves.found) was.ready.blocks;
            changed = was.ready.changed;
            fresh = was.ready.fresh;
          };
          stands = beside.standing;
          led = beside.led was.led;
          well = beside.well was.well;
          wide = subst (λ (v : Volume). v.most + (set.len (base_ids v.base) + 256) ≤ v.span) (sym beside.volume) was.wide;
          within = was.within;
        }

    -- All are held.
    pub unmade_held : IsHeld after left states last
    unmade_held = record {
      found = subst (IsFoundOn after) (sym leaves.found) (found_free disk after pool.map pool.found free tells held.found);
      tells = subst (λ (f : Found). Tells (layout_at (root_found f) after.reads) last) (sym leaves.found) (tells_free disk pool states last held after free laws tells);
      keeps = subst (λ (f : Found). AllKeep (root_found f) after.reads after) (sym leaves.found) (keeps_free disk pool states last held after free laws tells);
      map = subst (λ (f : Found). IsMapOf after.reads f left.map) (sym leaves.found) (map_free disk pool states last held after free laws tells left.map leaves.committed);
      slots = subst (λ (f : Found). (s : ℕ) → s < 64 → IsLentAt after.reads f s (state_at states s) (paged_at left.containers s)) (sym leaves.found)
          (subst (λ (c : Slots). (s : ℕ) → s < 64 → IsLentAt after.reads pool.found s (state_at states s) (paged_at c s)) (sym same)
          (λ s inside. still_lent pool.found disk.reads after.reads s inside agree (state_at states s) (paged_at pool.containers s) (held.slots s inside)));
      spaced = subst (λ (f : Found). AreSpacedIn f.blocks left.map.next (state_at states) (container_at left.containers)) (sym leaves.found)
          (subst (λ (m : Space). AreSpacedIn pool.found.blocks m.next (state_at states) (container_at left.containers)) (sym same_map)
          (subst (λ (c : Slots). AreSpacedIn pool.found.blocks pool.map.next (state_at states) (container_at c)) (sym same) held.spaced));
      names = held.names;
      each = λ s. by s (state_at states s) refl;
      commits = subst (λ (f : Found). sum_of states ≤ capacity f.blocks) (sym leaves.found) held.commits;
      footed = subst (λ (c : Slots). AreFooted states c) (sym same) held.footed;
    }
      where
        by : (s : ℕ) (o : Option VolumeState) → state_at states s ≡ o → IfSome o (IsHeldIn after left s)
        by s None there = tt
        by s (Some z) there = one_held s z there

  abbrev meant : ℕ → VolumeState → Volume
  meant s z = volume_for disk pool z

  abbrev now_meant : ℕ → VolumeState → Volume
  now_meant s z = volume_for after left z

  old_same : named_from now_meant 0 states ≡ named_from meant 0 states
  old_same = same_named meant now_meant states 0 (λ k z there. (stays k z there).volume)

  -- And the machine stays.
  pub unmade_machine : machine_held after left states ≡ machine_held disk pool states
  unfolding machine_held
  unmade_machine =
      let map : (machine_held after left states).volumes ≡ (machine_held disk pool states).volumes =
      fin.same_map name_total name_ties _ _ (λ n.
      at_name after left states fit.housed.long n ∙ ap (find name_cmp n) old_same ∙ sym (at_name disk pool states fit.housed.long n)) in
      (λ j. record { blocks = (leaves.found j).blocks; version = leaves.version j; volumes = map j })
