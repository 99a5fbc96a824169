-- What a session stands for once blocks were read for it.
use Rattle.std.proofs.Common.{◌≡◌, ℕ, [], ◌∷◌, Option, Some, None, refl, sym, ap, subst, ◌∙◌, arith}
use Rattle.std.specs.Prelude.{IfSome, IsTrue, flat_map}
use Rattle.std.specs.FinMap as fin
use Rattle.fv_disk.specs.Shown.{Image, Shown, IsSettled}
use Rattle.fv_store.specs.Held.{StandsOn}
use Rattle.fv_disk.specs.DiskCalls.{OnlyReads}
use Rattle.fv_model.specs.Machines.{Machine}
use Rattle.fv_model.specs.Spelling.{name_cmp}
use Rattle.fv_image.specs.Held.{view_at}
use Rattle.fv_image.specs.Views.{slots, overheads}
use Rattle.fv_root.specs.declared.find.Found.{Found}
use Rattle.fv_root.specs.Finding.{IsFound, IsInRange, root_found}
use Rattle.fv_root.specs.Commits.{IsFoundOn}
use Rattle.fv_aggmap.specs.Space.{Space, blocks_of, free_blocks}
use Rattle.fv_container.specs.Chains.{Slots}
use Rattle.fv_pool.specs.declared.pool.Pool.{Pool}
use Rattle.fv_volume.specs.declared.state.VolumeState.{VolumeState}
use Rattle.fv_pool.specs.Calls.{Reads}
use Rattle.fv_volumes.specs.Housed.{AreHoused}
use Rattle.fv_pool.specs.Keeping.{Blocks, IsUnkept}
use Rattle.fv_volume.specs.Writing.{IsTaken, on_disk}
use Rattle.fv_volume.specs.States.{States, state_at, with_state}
use Rattle.fv_volumes.specs.UnderRoot.{IsMapOf}
use Rattle.fv_volume.proofs.OneVolumes.{still_ready, still_volume}
use Rattle.fv_cp.specs.Held.{machine_held, named_held, IsHeld, IsHeldIn}
use Rattle.fv_cp.specs.Known.{AreKnown}
use Rattle.fv_cp.specs.Lent.{FitTogether}
use Rattle.fv_cp.specs.Placing.{AreReady, IsReadyIn}
use Rattle.fv_aggregate.specs.declared.session.Session.{Session}
use Rattle.fv_aggregate.specs.Calls.{KeepsAsking, WasRead}
use Rattle.fv_aggregate.specs.Standing.{clear_blocks, taken_since, StandsFor, StandsReady}
use Rattle.fv_aggregate.proofs.Called.{held_in_read, held_over}
use Rattle.fv_aggregate.proofs.Calls.{reads_itself}
use Rattle.fv_aggregate.proofs.Returned.{put_back}
use Rattle.fv_aggregate.proofs.Standing.{known_still}

module _ (d e : Shown) (p q : Pool) (reads : Reads d p e q) where
  -- ---- volumes

  -- what is said of a slot with a volume
  over_slot : (A B : VolumeState → Type 0) → ((x : VolumeState) → A x → B x) → (o : Option VolumeState) → IfSome o A → IfSome o B
  over_slot A B to None is = tt
  over_slot A B to (Some x) is = to x is

  pub held_read : (states : States) (before : Machine) → IsHeld d p states before → IsHeld e q states before
  held_read states before is = held_over d e p q reads states before is is.slots is.spaced is.names (λ s. over_slot (IsHeldIn d p s) (IsHeldIn e q s) (held_in_read d e p q reads s) (state_at states s) (is.each s)) is.commits is.footed

  pub machine_read : (states : States) → machine_held e q states ≡ machine_held d p states
  unfolding machine_held
  machine_read states = λ j. record {
    blocks = (reads.leaves.found j).blocks;
    version = reads.leaves.version j;
    volumes = fin.from_entries {R = name_cmp} (flat_map (λ s. named s (state_at states s) j) slots);
  }
    where
      named : (s : ℕ) (o : Option VolumeState) → named_held e q o ≡ named_held d p o
      named s None = refl
      named s (Some x) = λ j. (x.name, still_volume d e p q reads x j) ∷ []

  pub ready_read : (states : States) → AreReady d p states → AreReady e q states
  ready_read states ready s = over_slot (IsReadyIn d p s) (IsReadyIn e q s) (λ x is. record { slot = is.slot; ready = still_ready d e p q reads x is.ready }) (state_at states s) (ready s)

  pub fit_read : (states : States) → FitTogether p states → FitTogether q states
  fit_read states fit = record {
    range = subst IsInRange (sym reads.leaves.found) fit.range;
    size = ap blocks_of reads.leaves.map ∙ fit.size ∙ sym (ap (λ (f : Found). f.blocks) reads.leaves.found);
    version = reads.leaves.version ∙ fit.version ∙ sym (ap (λ (f : Found). f.root.version) reads.leaves.found);
    housed = subst (λ (c : Slots). AreHoused c states) (sym reads.leaves.containers) fit.housed;
    kept = λ b taken. subst (λ (k : Blocks). IsUnkept k b) (sym reads.leaves.kept) (fit.kept b (subst (λ (m : Space). IsTaken (on_disk m) b) reads.leaves.map taken));
  }

  -- also where a volume was lent and is as it was
  pub fit_lent : (states : States) (slot : ℕ) (x y : VolumeState) → state_at states slot ≡ Some x → y ≡ x → FitTogether p states → FitTogether q (with_state states slot (Some y))
  fit_lent states slot x y there same fit = subst (FitTogether q) (sym (put_back states slot x y there same)) (fit_read states fit)

-- ---- a session

module _ (d e : Shown) (s : Session) (q : Pool) (reads : Reads d s.pool e q) where
  abbrev pub left : Session
  left = record s { pool = q }

  pub stands_read : StandsReady d s → StandsReady e left
  stands_read is =
      let same = reads.only_reads.stays.reads in
      record {
        stands = record {
          found = λ tells.
              let was = is.stands.found (subst IsTrue reads.only_reads.stays.tells tells) in
              subst (IsFoundOn e) (sym reads.leaves.found) (record {
                reads = subst (λ (i : Image). IsFound i s.pool.found) (sym same) was.reads;
                images = λ c now. was.images c (reads.only_reads.stays.no_more c now);
              });
          map = λ tells. subst (λ (m : Space). IsMapOf e.reads q.found m) (sym reads.leaves.map) (subst (λ (f : Found). IsMapOf e.reads f s.pool.map) (sym reads.leaves.found)
              (subst (λ (i : Image). IsMapOf i s.pool.found s.pool.map) (sym same) (is.stands.map (subst IsTrue reads.only_reads.stays.tells tells))));
          cache = reads.stands;
        };
        ready = ready_read d e s.pool q reads s.volumes is.ready;
      }

  -- the root on the disk names what it named
  pub last_overheads : overheads (view_at (root_found q.found) e.reads) ≡ overheads (view_at (root_found s.pool.found) d.reads)
  last_overheads = λ j. overheads (view_at (root_found (reads.leaves.found j)) (reads.only_reads.stays.reads j))

  pub settled_read : IsSettled d → IsSettled e
  settled_read is = λ c now a. is c (reads.only_reads.stays.no_more c now) a ∙ ap (λ (i : Image). i a) (sym reads.only_reads.stays.reads)

  -- so nothing is known less of delayed entries
  pub known_read : AreKnown d.reads s.pool.found s.delays → AreKnown e.reads q.found s.delays
  known_read = known_still d.reads e.reads s.pool.found q.found s.delays s.delays reads.only_reads.stays.reads reads.leaves.found refl

  pub clear_read : clear_blocks q.map ≡ clear_blocks s.pool.map
  clear_read = ap clear_blocks reads.leaves.map

  free_read : free_blocks q.map ≡ free_blocks s.pool.map
  free_read = ap free_blocks reads.leaves.map

  pub placed_read : taken_since q.map ≡ taken_since s.pool.map
  placed_read = ap taken_since reads.leaves.map

  pub asks_read : KeepsAsking 0 d s e left
  asks_read = λ tells kept asks none. let same = last_overheads in record { asked = omega (arith, asks.asked, same); pending = omega (arith, asks.pending) }

  pub stands_for_read : (last m : Machine) → StandsFor d s last m → StandsFor e left last m
  stands_for_read last m is =
      let was = last_overheads in
      let placed = placed_read in
      let clear = clear_read in
      record {
        held = held_read d e s.pool q reads s.volumes last is.held;
        machine = machine_read d e s.pool q reads s.volumes ∙ is.machine;
        settled = settled_read is.settled;
        delays = known_read is.delays;
        pending = omega (arith, is.pending, was, placed);
        files = omega (arith, is.files, placed);
        few = is.few;
        free = omega (arith, is.free, free_read);
        room = omega (arith, is.room, was, clear);
      }

  pub was_read : WasRead d s e left
  was_read = record { only_reads = reads.only_reads; pool = reads.leaves; volumes = λ k. refl; same = refl }

-- nothing was
pub was_unread : (d : Shown) (s : Session) → WasRead d s d s
was_unread d s = record { only_reads = reads_itself d; pool = record { map = refl; containers = refl; kept = refl; found = refl; version = refl }; volumes = λ k. refl; same = refl }

-- over a disk that was only read the pool is as it was read
pub reads_alone : (d e : Shown) (pool : Pool) → OnlyReads d e → StandsOn d pool.store.pairs → Reads d pool e pool
reads_alone d e pool reads held = record {
  leaves = record { map = refl; containers = refl; kept = refl; found = refl; version = refl };
  only_reads = reads;
  stands = record { same = λ tells pvbn block has. held.same (subst IsTrue reads.stays.tells tells) pvbn block has ∙ ap (λ (i : Image). i pvbn) (sym reads.stays.reads) };
}
