-- What a step leaves of the parts of a session, whatever the disk tells: they fit together, calls can be made on each volume, and all
-- commit what they did.
use Rattle.std.proofs.Common.{◌≡◌, ◌≢◌, ◌≤◌, ◌<◌, ◌+◌, ℕ, Bool, true, false, cond, true≢false, List, length, Option, Some, None, inl, inr, refl, sym, ap, subst, ◌∙◌, arith, length-set}
use Rattle.std.specs.Prelude.{IfSome, is_some, slice_index_or}
use Rattle.std.specs.Ordering.{nat_cmp, eq_by_cmp}
use Rattle.std.specs.Cmp.{nat_cmp_total}
use Rattle.std.specs.FinMap as fin
use Rattle.std.proofs.lemmas.Bool.Decides.{nat_tests}
use Rattle.fv_disk.specs.Shown.{Shown}
use Rattle.fv_aggmap.specs.Space.{Space, free_blocks, IsFree}
use Rattle.fv_charge.specs.Ledgers.{committed}
use Rattle.fv_container.specs.Mapped.{Mapped}
use Rattle.fv_container.specs.Chains.{Slots, TellsEntries, container_at}
use Rattle.fv_image.specs.Views.{entry_count}
use Rattle.fv_root.specs.declared.find.Found.{Found}
use Rattle.fv_root.specs.Finding.{IsInRange}
use Rattle.fv_root.specs.Formatted.{IsSize}
use Rattle.fv_store.specs.Held.{StandsOn}
use Rattle.fv_pool.specs.declared.pool.Pool.{Pool}
use Rattle.fv_pool.specs.BlocksOver.{HasShapeOf, entries_in}
use Rattle.fv_volume.specs.declared.state.VolumeState.{VolumeState}
use Rattle.fv_volume.specs.Files.{IsLabelled}
use Rattle.fv_volume.specs.Labels.{label_said}
use Rattle.fv_volume.specs.Loading.{Houses}
use Rattle.fv_volume.specs.OneVolume.{IsBooked, IsReady}
use Rattle.fv_volume.specs.Slots.{sum_of}
use Rattle.fv_volume.specs.States.{States, parent_in, state_at, with_state}
use Rattle.fv_volume.specs.Writing.{IsTaken, on_disk}
use Rattle.fv_volumes.specs.Housed.{AreHoused}
use Rattle.fv_cleaner.specs.Searching.{lies_in}
use Rattle.fv_cleaner.specs.Stepping.{CleansBlock, CleansRoots, CleansVolume}
use Rattle.fv_cleaner.proofs.RootsHeld.{labelled_now}
use Rattle.fv_cp.specs.Lent.{FitTogether}
use Rattle.fv_cp.specs.Placing.{AreReady, HaveNoFiles, IsReadyIn}
use Rattle.fv_aggregate.specs.Known.{KeepsNumbers, KnowsNumbers}
use Rattle.fv_aggregate.proofs.Commits.{commits_same}
use Rattle.fv_aggregate.proofs.MirroredDisk.{on_disk_taken}
use Rattle.fv_aggregate.proofs.Replaced.{each_slot, same_slot, within}
use Rattle.fv_aggregate.proofs.SnapSessions.{none_with}
use Rattle.fv_aggregate.proofs.WorkedCounts.{committed_moved, free_moved}

-- Of a volume that was stepped on only roots changed, and that it waits to be written; of the pool its container's entries, and blocks
-- that were free.
pub record IsMovedOn (pool left : Pool) (x y : VolumeState) : Type 0 where
  pub found : left.found ≡ pool.found
  pub version : left.version ≡ pool.version
  pub committed : left.map.committed ≡ pool.map.committed
  pub kept : (b : ℕ) → IsTaken (on_disk pool.map) b → fin.get left.kept b ≡ fin.get pool.kept b
  pub free : free_blocks pool.map ≤ free_blocks left.map + 1
  pub shape : HasShapeOf (container_at pool.containers x.slot) (container_at left.containers x.slot)
  pub others : (s : ℕ) → s ≢ x.slot → container_at left.containers s ≡ container_at pool.containers s
  pub parents : left.containers.parents ≡ pool.containers.parents
  pub same : y ≡ record x { active = y.active; snapshots = y.snapshots; changed = y.changed }
  pub marked : y.changed ≡ true
  pub labelled : IsLabelled x.slot x → IsLabelled x.slot y

shape_itself : (c : Option Mapped) → HasShapeOf c c
shape_itself c = record { there = refl; count = refl; tree = refl }

marked_label : (s : ℕ) (x : VolumeState) → IsLabelled s x → IsLabelled s (record x { changed = true })
unfolding label_said
marked_label s x is = record {
  slot_is = is.slot_is;
  form = is.form;
  span = is.span;
  map = is.map;
  snapshots = is.snapshots;
  slots = is.slots;
  waits = is.waits;
  counts = is.counts;
  levels = is.levels;
  named = is.named;
  label = is.label;
}

module _ (disk : Shown) (pool : Pool) (x : VolumeState) (left : Pool) (y : VolumeState) where
  by_block : CleansBlock disk pool x left y → IsMovedOn pool left x y
  by_block is = record {
    found = is.moves.found;
    version = is.moves.version;
    committed = committed_moved pool.map is.moves.taken left.map is.moves.place is.moves.before is.moves.takes is.moves.space;
    kept = kept;
    free = free_moved pool.map is.moves.taken left.map is.moves.place is.moves.before is.moves.takes is.moves.space;
    shape = is.moves.entry.shape;
    others = is.moves.entry.others;
    parents = is.moves.entry.parents;
    same = let e = sym is.state in is.state ∙
        (λ j. record x { active = (e j).active; snapshots = (e j).snapshots; changed = (e j).changed });
    marked = ap (λ (z : VolumeState). z.changed) is.state;
    labelled = λ was. subst (IsLabelled x.slot) (sym is.state) (marked_label x.slot x was);
  }
    where
      kept : (b : ℕ) → IsTaken (on_disk pool.map) b → fin.get left.kept b ≡ fin.get pool.kept b
      kept b taken =
          let other : b ≢ is.moves.place = λ same. on_disk_taken pool.map b taken
          (subst (λ (n : ℕ). IsFreeAt n) (sym same) is.moves.takes.free) in
          let no : eq_by_cmp nat_cmp b is.moves.place ≡ false = grind (arith, nat_tests, other) in
          ap (λ k. fin.get k b) is.moves.kept ∙ fin.get-insert nat_cmp_total pool.kept is.moves.place is.block b
          ∙ ap (λ t. cond t (Some is.block) (fin.get pool.kept b)) no
        where
          IsFreeAt : ℕ → Type 0
          IsFreeAt n = IsFree pool.map n

  by_roots : CleansRoots disk pool x left y true → IsMovedOn pool left x y
  by_roots is = record {
    found = is.leaves.found;
    version = is.leaves.version;
    committed = ap (λ (m : Space). m.committed) is.leaves.map;
    kept = λ b taken. ap (λ k. fin.get k b) is.leaves.kept;
    free = (let same : free_blocks left.map ≡ free_blocks pool.map = ap free_blocks is.leaves.map in omega (arith, same));
    shape = subst (λ (c : Slots). HasShapeOf (container_at pool.containers x.slot) (container_at c x.slot)) (sym is.leaves.containers)
        (shape_itself (container_at pool.containers x.slot));
    others = λ s differ. ap (λ (c : Slots). container_at c s) is.leaves.containers;
    parents = ap (λ (c : Slots). c.parents) is.leaves.containers;
    same = let e = sym is.roots.state in is.roots.state ∙
        (λ j. record x { active = (e j).active; snapshots = (e j).snapshots; changed = (e j).changed });
    marked = ap (λ (z : VolumeState). z.changed) is.roots.state;
    labelled = λ was. subst (IsLabelled x.slot) (sym is.roots.state)
        (labelled_now (TellsEntries disk pool.containers) (lies_in x.map pool x.slot disk.reads) x y x.slot is.roots was);
  }

  pub moved_on : CleansVolume disk pool x left y true → IsMovedOn pool left x y
  moved_on (inl block) = by_block block
  moved_on (inr roots) = by_roots roots

-- ---- the parts

module _ (disk after : Shown) (pool left : Pool) (states : States) (slot : ℕ)
    (x y : VolumeState) (there : state_at states slot ≡ Some x) (at : x.slot ≡ slot)
    (moved : IsMovedOn pool left x y) (fit : FitTogether pool states) where
  abbrev pub stay : States
  stay = with_state states slot (Some y)

  long : length states ≡ 64
  long = fit.housed.long

  abbrev Other : ℕ → Type 0
  Other k = k ≢ slot

  other_there : (k : ℕ) → Other k → container_at left.containers k ≡ container_at pool.containers k
  other_there k differ = moved.others k (λ e. differ (e ∙ at))

  houses_now : (c d : Option Mapped) → HasShapeOf c d → Houses (Some x) c → Houses (Some y) d
  houses_now None d shape never = absurd never
  houses_now (Some m) None shape was = absurd (true≢false (sym shape.there))
  houses_now (Some m) (Some n) shape was = shape.count ∙ was ∙ ap (λ (z : VolumeState). entry_count z.span) (sym moved.same)

  shape_here : HasShapeOf (container_at pool.containers slot) (container_at left.containers slot)
  shape_here = subst (λ (n : ℕ). HasShapeOf (container_at pool.containers n) (container_at left.containers n)) at moved.shape

  labelled : IsLabelled slot x
  labelled = subst (λ (o : Option VolumeState). IfSome o (IsLabelled slot)) there (fit.housed.volumes slot)

  y_labelled : IsLabelled slot y
  y_labelled = subst (λ (n : ℕ). IsLabelled n y) at (moved.labelled (subst (λ (n : ℕ). IsLabelled n x) (sym at) labelled))

  housed_now : AreHoused left.containers stay
  housed_now = record {
    long = length-set states slot (Some y) ∙ long;
    volumes = each_slot states long slot x y there (λ k o. IfSome o (IsLabelled k)) y_labelled (λ k differ. fit.housed.volumes k);
    each = each_slot states long slot x y there (λ k o. Houses o (container_at left.containers k))
        (houses_now (container_at pool.containers slot) (container_at left.containers slot) shape_here
        (subst (λ (o : Option VolumeState). Houses o (container_at pool.containers slot)) there (fit.housed.each slot)))
        (λ k differ. subst (λ (c : Option Mapped). Houses (state_at states k) c) (sym (other_there k differ)) (fit.housed.each k));
    parents = λ k. ap (λ (ps : List (Option ℕ)). slice_index_or ps k None) moved.parents ∙ fit.housed.parents k
        ∙ sym (same_slot states long slot x y there (λ n o. parent_in o) (ap (λ (z : VolumeState). parent_in (Some z)) moved.same) k);
  }

  -- They fit together,
  pub fit_moved : FitTogether left stay
  fit_moved = record {
    range = subst IsInRange (sym moved.found) fit.range;
    size = ap length moved.committed ∙ fit.size ∙ ap (λ (f : Found). f.blocks) (sym moved.found);
    version = moved.version ∙ fit.version ∙ ap (λ (f : Found). f.root.version) (sym moved.found);
    housed = housed_now;
    kept = λ b taken.
        let was = subst (λ (c : List Bool). IsTaken (record { committed = c; next = c }) b) moved.committed taken in
        moved.kept b was ∙ fit.kept b was;
  }

  -- all commit what they did,
  pub commits_moved : sum_of stay ≡ sum_of states
  commits_moved = commits_same states long slot x y there (ap (λ (z : VolumeState). committed z.ledger) moved.same)

  -- each has the numbers of its files still,
  pub numbers_moved : KeepsNumbers states stay
  numbers_moved = each_slot states long slot x y there (λ k o. KnowsNumbers (state_at states k) → KnowsNumbers o)
      (λ known. ap (λ (z : VolumeState). is_some z.numbers) moved.same ∙ subst KnowsNumbers there known) (λ k differ known. known)

  -- no file came into memory,
  pub none_moved : HaveNoFiles states → HaveNoFiles stay
  none_moved none = none_with states slot y (within states long slot x y there)
      (ap (λ (z : VolumeState). z.files) moved.same
      ∙ subst (λ (o : Option VolumeState). IfSome o (λ z. z.files ≡ None)) there (none slot)) none

  -- and calls can be made on each.
  module _ (cache : StandsOn after left.store.pairs) where
    ready_y : IsReady disk pool x → IsReady after left y
    ready_y ready = record {
      lent = record {
        within = subst (λ (n : ℕ). n < 64) (ap (λ (z : VolumeState). z.slot) (sym moved.same)) ready.lent.within;
        stands = cache;
        few = subst (λ (z : VolumeState). z.map.span ≤ 1048576) (sym moved.same) ready.lent.few;
        entries = subst (λ (z : VolumeState). z.map.span ≤ length (entries_in (container_at left.containers z.slot))) (sym moved.same)
            (let same = moved.shape.count in let was = ready.lent.entries in omega (arith, same, was));
      };
      labelled = subst (λ (n : ℕ). IsLabelled n y) (sym (ap (λ (z : VolumeState). z.slot) moved.same)) (moved.labelled ready.labelled);
      booked = subst (λ (z : VolumeState). IsBooked z) (sym moved.same)
          (record {
            size = ready.booked.size;
            kind = ready.booked.kind;
            span = ready.booked.span;
            need = ready.booked.need;
            charge = ready.booked.charge;
          });
      blocks = subst (λ (f : Found). IsSize f.blocks) (sym moved.found) ready.blocks;
      changed = λ isnt. absurd (true≢false (sym moved.marked ∙ isnt));
      fresh = λ isnt. absurd (true≢false (sym moved.marked ∙ isnt));
    }

    ready_other : (k : ℕ) → Other k → (o : Option VolumeState) → IfSome o (IsReadyIn disk pool k)
        → IfSome o (IsReadyIn after left k)
    ready_other k differ None is = tt
    ready_other k differ (Some z) is = record {
      slot = is.slot;
      ready = record {
        lent = record {
          within = is.ready.lent.within;
          stands = cache;
          few = is.ready.lent.few;
          entries = subst (λ (c : Option Mapped). z.map.span ≤ length (entries_in c))
              (sym (other_there z.slot (λ e. differ (sym is.slot ∙ e)))) is.ready.lent.entries;
        };
        labelled = is.ready.labelled;
        booked = is.ready.booked;
        blocks = subst (λ (f : Found). IsSize f.blocks) (sym moved.found) is.ready.blocks;
        changed = is.ready.changed;
        fresh = is.ready.fresh;
      };
    }

    pub ready_moved : AreReady disk pool states → AreReady after left stay
    ready_moved ready = each_slot states long slot x y there (λ k o. IfSome o (IsReadyIn after left k))
        (record {
          slot = ap (λ (z : VolumeState). z.slot) moved.same ∙ at;
          ready = ready_y (subst (λ (o : Option VolumeState). IfSome o (IsReadyIn disk pool slot)) there (ready slot)).ready;
        })
        (λ k differ. ready_other k differ (state_at states k) (ready k))
