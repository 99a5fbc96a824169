-- Volumes that a point can be made of, after a call on one of them.
use Rattle.std.proofs.Common.{◌≡◌, ◌≢◌, ◌<◌, ◌≤◌, ℕ, Bool, List, length, Option, Some, None, Result, Ok, Err, sym, ap, subst, ◌∙◌, inl, inr, ⊎_elim, arith, length-set}
use Rattle.std.specs.Prelude.{IfOk, IfSome, IsTrue, OnErr, OnOk, is_some, slice_index_or}
use Rattle.std.specs.FinMap as fin
use Rattle.std.proofs.lemmas.Bool.{cases_eq, or_from}
use Rattle.std.proofs.lemmas.List.{get_or-set_other, get_or-set_same}
use Rattle.fv_disk.specs.Shown.{Image, Shown as Disk, IsSettled}
use Rattle.fv_disk.specs.DiskCalls.{OnlyReads}
use Rattle.fv_disk.proofs.Resting.{reads_then, settled_image}
use Rattle.fv_model.specs.declared.commands.Kind.{Kind}
use Rattle.fv_bits.specs.Members.{is_member}
use Rattle.fv_root.specs.declared.find.Found.{Found}
use Rattle.fv_root.specs.Commits.{IsFoundOn}
use Rattle.fv_root.specs.Finding.{IsFound, IsInRange}
use Rattle.fv_root.specs.Formatted.{IsSize}
use Rattle.fv_image.specs.Views.{entry_count}
use Rattle.fv_aggmap.specs.Space.{Space}
use Rattle.fv_container.specs.Mapped.{Mapped}
use Rattle.fv_container.specs.Chains.{Slots, TellsEntries, container_at, paged_at, parent_at, slot_count}
use Rattle.fv_pool.specs.declared.pool.Pool.{Pool}
use Rattle.fv_volume.specs.declared.state.Base.{Base}
use Rattle.fv_volume.specs.declared.state.VolumeState.{VolumeState}
use Rattle.fv_pool.specs.BlocksOver.{entries_in}
use Rattle.fv_pool.specs.Calls.{Reads}
use Rattle.fv_volumes.specs.Creating.{IsMade, IsNew, with_holes}
use Rattle.fv_volumes.proofs.Housing.{housed_with}
use Rattle.fv_volume.specs.Files.{IsLabelled}
use Rattle.fv_pool.specs.Keeping.{Blocks, IsUnkept}
use Rattle.fv_pool.specs.Lending.{GoesOver, MayTake, lent_by, lent_for}
use Rattle.fv_volume.specs.Loading.{Houses}
use Rattle.fv_volume.specs.OneVolume.{home_in, IsReady}
use Rattle.fv_pool.specs.Placing.{Goes}
use Rattle.fv_volume.specs.Placing.{KeepsPlaced}
use Rattle.fv_volume.specs.States.{States, parent_in, state_at, with_state}
use Rattle.fv_volume.specs.Writing.{IsTaken, on_disk}
use Rattle.fv_cp.specs.Placing.{AreReady, IsReadyIn}
use Rattle.fv_volume_rows.specs.Held.{AreFit, AreHeld, KeepsPlace, LeavesRoot}

-- ---- one volume

-- what a fact of each slot says of its volume
there_at : (P : VolumeState → Type 0) (o : Option VolumeState) (x : VolumeState) → o ≡ Some x → IfSome o P → P x
there_at P o x is all = subst (λ (y : Option VolumeState). IfSome y P) is all

-- A fact of each slot stays one where a slot gets a volume.
with_at : (P : ℕ → Option VolumeState → Type 0) (xs : States) (slot : ℕ) (y : VolumeState) → slot < length xs → P slot (Some y) → ((s : ℕ) → s ≢ slot → P s (state_at xs s)) → (s : ℕ) → P s (state_at (with_state xs slot (Some y)) s)
with_at P xs slot y within is others s = ⊎_elim
    (λ (here : s ≡ slot). subst (λ (k : ℕ). P k (state_at (with_state xs slot (Some y)) k)) (sym here) (subst (P slot) (sym (get_or-set_same xs slot (Some y) None within)) is))
    (λ (other : s ≢ slot). subst (P s) (sym (get_or-set_other xs slot s (Some y) None other)) (others s other))
    (cases_eq s slot)

-- it is housed in a container with as many entries
housed_still : (x y : VolumeState) (c e : Option Mapped) → y.span ≡ x.span → is_some e ≡ is_some c → length (entries_in e) ≡ length (entries_in c) → Houses (Some x) c → Houses (Some y) e
housed_still x y None e span there count is = absurd is
housed_still x y (Some m) None span there count is = absurd cc
housed_still x y (Some m) (Some n) span there count is = count ∙ is ∙ ap entry_count (sym span)

-- ---- a call on one of them

module _ (d e : Disk) (p q : Pool) (xs : States) (slot : ℕ) (was : AreFit d p xs) (leaves : LeavesRoot d e p q slot) where
  parent_same : (s : ℕ) → parent_at q.containers s ≡ parent_at p.containers s
  parent_same s = ap (λ (ps : List (Option ℕ)). slice_index_or ps s None) leaves.parents

  found_still : IsFoundOn d p.found → IsFoundOn e p.found
  found_still on = record {
    reads = subst (λ (i : Image). IsFound i p.found) (sym leaves.stays.reads) on.reads;
    images = λ c now. on.images c (leaves.stays.no_more c now);
  }

  kept_still : (b : ℕ) → IsTaken (on_disk q.map) b → IsUnkept q.kept b
  kept_still b taken = ⊎_elim
      (λ same. same ∙ was.fit.kept b on)
      (λ none. absurd (none on))
      (leaves.kept b)
    where
      on : IsTaken (on_disk p.map) b
      on = subst (λ (c : List Bool). IsTaken (record { committed = c; next = c }) b) leaves.committed taken

  fit_with : (x y : VolumeState) → slot < slot_count → state_at xs slot ≡ Some x → KeepsPlace x y → IsLabelled y.slot y → AreFit e q (with_state xs slot (Some y))
  fit_with x y within at same labelled =
      let inside : slot < length xs = (let long = was.fit.housed.long in omega (arith, within, long)) in
      let mine = there_at (IsLabelled slot) (state_at xs slot) x at (was.fit.housed.volumes slot) in
      record {
        fit = record {
          range = subst IsInRange (sym leaves.found) was.fit.range;
          size = ap (λ (c : List Bool). length c) leaves.committed ∙ was.fit.size ∙ ap (λ (f : Found). f.blocks) (sym leaves.found);
          version = leaves.version ∙ was.fit.version ∙ ap (λ (f : Found). f.root.version) (sym leaves.found);
          housed = record {
            long = length-set xs slot (Some y) ∙ was.fit.housed.long;
            volumes = with_at (λ s o. IfSome o (IsLabelled s)) xs slot y inside (subst (λ n. IsLabelled n y) (same.slot ∙ mine.slot_is) labelled) (λ s other. was.fit.housed.volumes s);
            each = with_at (λ s o. Houses o (container_at q.containers s)) xs slot y inside
                (housed_still x y (container_at p.containers slot) (container_at q.containers slot) same.span leaves.there leaves.count (subst (λ (o : Option VolumeState). Houses o (container_at p.containers slot)) at (was.fit.housed.each slot)))
                (λ s other. subst (Houses (state_at xs s)) (sym (leaves.others s other)) (was.fit.housed.each s));
            parents = with_at (λ s o. parent_at q.containers s ≡ parent_in o) xs slot y inside
                (parent_same slot ∙ was.fit.housed.parents slot ∙ ap parent_in at ∙ same_parent)
                (λ s other. parent_same s ∙ was.fit.housed.parents s);
          };
          kept = kept_still;
        };
        root = λ tells. subst (IsFoundOn e) (sym leaves.found) (found_still (was.root (subst IsTrue leaves.stays.tells tells)));
      }
    where
      same_parent : parent_in (Some x) ≡ parent_in (Some y)
      same_parent = ap (λ (b : Option Base). parent_in (Some (record x { base = b }))) (sym same.base)

-- Blocks were read in a call on one.
pub fit_read : (d e : Disk) (p q : Pool) (xs : States) (slot : ℕ) (x y : VolumeState) → AreFit d p xs → slot < slot_count → state_at xs slot ≡ Some x → KeepsPlace x y → IsLabelled y.slot y → Reads d p e q → AreFit e q (with_state xs slot (Some y))
fit_read d e p q xs slot x y was within there same labelled reads =
    fit_with d e p q xs slot was (record {
      stays = reads.only_reads.stays;
      found = reads.leaves.found;
      version = reads.leaves.version;
      committed = ap (λ (s : Space). s.committed) reads.leaves.map;
      kept = λ b. inl (ap (λ (k : Blocks). fin.get k b) reads.leaves.kept);
      others = λ s other. ap (λ (c : Slots). container_at c s) reads.leaves.containers;
      there = ap (λ (c : Slots). is_some (container_at c slot)) reads.leaves.containers;
      count = ap (λ (c : Slots). length (entries_in (container_at c slot))) reads.leaves.containers;
      parents = ap (λ (c : Slots). c.parents) reads.leaves.containers;
    }) x y within there same labelled

-- What was placed of one leaves it where it was,
pub placed_place : (x y : VolumeState) → KeepsPlaced x y → KeepsPlace x y
placed_place x y keeps = record {
  slot = ap (λ (z : VolumeState). z.slot) keeps;
  span = ap (λ (z : VolumeState). z.span) keeps;
  base = ap (λ (z : VolumeState). z.base) keeps;
}

-- and it leaves the root.
pub placed_root : (d e : Disk) (p q : Pool) (x y : VolumeState) (room left : ℕ) → Goes (lent_for p x.map d 0 (home_in x) room) q y.map e left → LeavesRoot d e p q x.slot
placed_root d e p q x y room left goes = record {
  stays = over.only_reads.stays;
  found = over.found;
  version = over.version;
  committed = over.committed;
  kept = λ b. ⊎_elim (λ still. inl still) (λ (may : MayTake (TellsEntries d p.containers) p.map p.containers x.slot b). inr (λ taken. taken (record { after = may.lies.0; within = may.lies.1; free = or_from (is_member p.map.committed b) (is_member p.map.committed b) may.spare may.spare }))) (over.kept b);
  others = over.others;
  there = over.shape.there;
  count = over.shape.count;
  parents = over.parents;
}
  where
    over : GoesOver (lent_for p x.map d 0 (home_in x) room) (lent_by q y.map e goes.steps (home_in x) left goes.goes.strays goes.goes.noted)
    over = goes.goes.goes

-- Where a call on one leaves the root, calls can be made on each.
pub held_left : (d e : Disk) (p q : Pool) (xs : States) (slot : ℕ) (x y : VolumeState) → AreHeld d p xs → slot < slot_count → state_at xs slot ≡ Some x → y.slot ≡ x.slot → IsReady e q y → LeavesRoot d e p q x.slot → AreHeld e q (with_state xs slot (Some y))
held_left d e p q xs slot x y was within there same ready leaves = record {
  long = length-set xs slot (Some y) ∙ was.long;
  size = subst (λ (f : Found). IsSize f.blocks) (sym leaves.found) was.size;
  stands = ready.lent.stands;
  labelled = with_at (λ s o. IfSome o (IsLabelled s)) xs slot y inside (subst (λ n. IsLabelled n y) (same ∙ mine.slot_is) ready.labelled) (λ s other. was.labelled s);
  ready = with_at (λ s o. IfSome o (IsReady e q)) xs slot y inside ready (λ s other. beside s other (state_at xs s) (was.labelled s) (was.ready s));
}
  where
    inside : slot < length xs
    inside = let long = was.long in omega (arith, within, long)

    mine : IsLabelled slot x
    mine = there_at (IsLabelled slot) (state_at xs slot) x there (was.labelled slot)

    beside : (s : ℕ) → s ≢ slot → (o : Option VolumeState) → IfSome o (IsLabelled s) → IfSome o (IsReady d p) → IfSome o (IsReady e q)
    beside s other None labelled before = tt
    beside s other (Some w) labelled before = record {
      lent = record {
        within = before.lent.within;
        stands = ready.lent.stands;
        few = before.lent.few;
        entries = subst (λ (c : Option Mapped). w.map.span ≤ length (entries_in c)) (sym (leaves.others w.slot (λ is. other (sym labelled.slot_is ∙ is ∙ mine.slot_is)))) before.lent.entries;
      };
      labelled = before.labelled;
      booked = before.booked;
      blocks = subst (λ (f : Found). IsSize f.blocks) (sym leaves.found) before.blocks;
      changed = before.changed;
      fresh = before.fresh;
    }

-- And a point can be made.
pub fit_left : (d e : Disk) (p q : Pool) (xs : States) (slot : ℕ) (x y : VolumeState) → AreFit d p xs → slot < slot_count → state_at xs slot ≡ Some x → KeepsPlace x y → IsLabelled y.slot y → LeavesRoot d e p q x.slot → AreFit e q (with_state xs slot (Some y))
fit_left d e p q xs slot x y was within there same labelled leaves = fit_with d e p q xs slot was (subst (LeavesRoot d e p q) here leaves) x y within there same labelled
  where
    here : x.slot ≡ slot
    here = (there_at (IsLabelled slot) (state_at xs slot) x there (was.fit.housed.volumes slot)).slot_is

-- ---- a volume is made, or all are read

-- a new volume beside those that were, or none
pub made_fit : {E : Type 0} (d : Disk) (p q : Pool) (xs ys : States) (name : List ℕ) (size : ℕ) (kind : Kind) (r : Result ℕ E) → AreFit d p xs → IfOk r (λ slot. IsMade xs slot name size kind ys)
    → IfOk r (λ slot. IsNew (state_at ys slot) (paged_at q.containers slot) name size kind) → IfOk r (λ slot. q ≡ with_holes p slot size) → OnOk r ((s : ℕ) → IfSome (state_at ys s) (IsLabelled s))
    → OnErr r ((ys ≡ xs) × (q ≡ p)) → AreFit d q ys
made_fit d p q xs ys name size kind (Ok slot) was made new holes each same = subst (λ (w : Pool). AreFit d w ys) (sym holes) (record {
  fit = record {
    range = was.fit.range;
    size = was.fit.size;
    version = was.fit.version;
    housed = housed_with p xs ys slot name size kind made (subst (λ (w : Pool). IsNew (state_at ys slot) (paged_at w.containers slot) name size kind) holes new) each was.fit.housed;
    kept = was.fit.kept;
  };
  root = was.root;
})
made_fit d p q xs ys name size kind (Err e) was made new holes each same = subst (λ (w : Pool). AreFit d w ys) (sym same.1) (subst (λ (ss : States). AreFit d p ss) (sym same.0) was)

-- a root that was found on a settled disk, after reads
pub root_on : (b c d e : Disk) (found : Found) → IsSettled b → IsFound b.reads found → OnlyReads b c → OnlyReads c d → OnlyReads d e → IsFoundOn e found
root_on b c d e found settled is one two three =
    let all = reads_then b d e (reads_then b c d one two) three in
    record {
      reads = subst (λ (i : Image). IsFound i found) (sym all.stays.reads) is;
      images = λ x now. subst (λ (i : Image). IsFound i found) (sym (settled_image b x settled (all.stays.no_more x now))) is;
    }

-- ---- what a point asks for and gives

ready_in : (d : Disk) (p : Pool) (s : ℕ) (o : Option VolumeState) → IfSome o (IsLabelled s) → IfSome o (IsReady d p) → IfSome o (IsReadyIn d p s)
ready_in d p s None is ready = tt
ready_in d p s (Some x) is ready = record { slot = is.slot_is; ready = ready }

pub are_ready : (d : Disk) (p : Pool) (xs : States) → AreHeld d p xs → AreReady d p xs
are_ready d p xs held s = ready_in d p s (state_at xs s) (held.labelled s) (held.ready s)

ready_of : (d : Disk) (p : Pool) (s : ℕ) (o : Option VolumeState) → IfSome o (IsReadyIn d p s) → IfSome o (IsReady d p)
ready_of d p s None is = tt
ready_of d p s (Some x) is = is.ready

pub each_ready : (d : Disk) (p : Pool) (xs : States) → AreReady d p xs → (s : ℕ) → IfSome (state_at xs s) (IsReady d p)
each_ready d p xs are s = ready_of d p s (state_at xs s) (are s)
