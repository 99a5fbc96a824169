-- A session in which the files of one volume were placed, and one in which its snapshots changed then: what they stand for.
use Rattle.std.proofs.Common.{◌≡◌, ◌≢◌, ◌<◌, ◌≤◌, ◌+◌, ◌⊎◌, ℕ, List, length, Some, None, ⊎_elim, refl, sym, ap, subst, ◌∙◌, arith, get_or-set_other, get_or-set_same, length-set}
use Rattle.std.proofs.lemmas.Bool.{cases_eq}
use Rattle.std.proofs.lemmas.List.{set-set}
use Rattle.std.proofs.lemmas.List.Sums.{sum_by-set}
use Rattle.std.specs.Prelude.{IsTrue}
use Rattle.fv_disk.specs.Shown.{Image, Shown}
use Rattle.fv_disk.specs.DiskCalls.{OnlyReads}
use Rattle.fv_volumes.specs.Footing.{AreFooted}
use Rattle.fv_volumes.proofs.PlacedIn.{found_read}
use Rattle.fv_model.specs.declared.commands.Command.{Command}
use Rattle.fv_model.specs.Machines.{Machine}
use Rattle.fv_model.specs.Effects.{Becomes, change_of}
use Rattle.fv_model.specs.Refusals.{next, refusal}
use Rattle.fv_image.specs.Held.{view_at}
use Rattle.fv_image.specs.Views.{overheads}
use Rattle.fv_root.specs.Commits.{IsFoundOn}
use Rattle.fv_root.specs.Finding.{root_found}
use Rattle.fv_pool.specs.declared.pool.Pool.{Pool}
use Rattle.fv_volume.specs.declared.state.VolumeState.{VolumeState}
use Rattle.fv_volume.specs.OneVolume.{volume_for, IsReady}
use Rattle.fv_pool.specs.Tables.{pending_of}
use Rattle.fv_volume.specs.States.{States, state_at, with_state}
use Rattle.fv_volume.specs.Writing.{map_wait}
use Rattle.fv_volumes.proofs.PlacedIn as placing
use Rattle.fv_volumes.proofs.Told.{is_inside}
use Rattle.fv_cp.specs.Held.{machine_held, IsHeldIn}
use Rattle.fv_cp.specs.Lent.{FitTogether}
use Rattle.fv_cp.specs.Placing.{AreReady, HaveNoFiles, HasNoFiles, IsPlacedAs, PlacesEntries}
use Rattle.fv_cp.proofs.Flushing as flushing
use Rattle.fv_aggregate.specs.declared.session.Session.{Session}
use Rattle.fv_aggregate.specs.Standing.{overhead_by, unwritten, StandsFor, StandsReady}
use Rattle.fv_aggregate.proofs.Clear.{clear_stays, free_and_placed}
use Rattle.fv_aggregate.proofs.PointEnds.{has_full_room}
use Rattle.fv_aggregate.proofs.Standing.{known_still}
use Rattle.fv_aggregate.proofs.Stepped.{fit_stepped, held_now, machine_now, overheads_stepped, pending_stepped, ready_stepped, waiting_stepped, IsStepped}

-- no file comes into memory with a volume that has none there
pub none_with : (states : States) (slot : ℕ) (y : VolumeState) → slot < length states → y.files ≡ None → HaveNoFiles states → HaveNoFiles (with_state states slot (Some y))
none_with states slot y inside none were k = ⊎_elim
    (λ (at : k ≡ slot). subst (λ (n : ℕ). HasNoFiles (state_at (with_state states slot (Some y)) n)) (sym at) (subst HasNoFiles (sym (get_or-set_same states slot (Some y) None inside)) none))
    (λ (differ : k ≢ slot). subst HasNoFiles (sym (get_or-set_other states slot k (Some y) None differ)) (were k))
    (cases_eq k slot)

-- ---- the files of a volume were placed

module _ (d e : Shown) (s : Session) (q : Pool) (slot : ℕ) (x mid : VolumeState) (there : state_at s.volumes slot ≡ Some x) (slot_is : x.slot ≡ slot) (fit : FitTogether s.pool s.volumes) (placed : IsPlacedAs d s.pool x e q mid) where
  abbrev pub between : States
  between = with_state s.volumes slot (Some mid)

  abbrev pub placed_session : Session
  placed_session = record s { volumes = between; pool = q }

  its : state_at s.volumes x.slot ≡ Some x
  its = ap (state_at s.volumes) slot_is ∙ there

  row : between ≡ with_state s.volumes x.slot (Some mid)
  row = ap (λ (n : ℕ). with_state s.volumes n (Some mid)) (sym slot_is)

  inside : slot < length s.volumes
  inside = let long = fit.housed.long in let low = is_inside s.volumes slot x long there in omega (arith, low, long)

  found_same : q.found ≡ s.pool.found
  found_same = placed.goes.goes.goes.found

  -- of the disk blocks were read
  reads : OnlyReads d e
  reads = placed.goes.goes.goes.only_reads

  -- its parts fit together still,
  pub placed_fit : FitTogether q between
  placed_fit = flushing.fit_still d e s.pool q s.volumes between x mid its row fit placed

  -- calls can be made on each volume,
  pub placed_ready : AreReady d s.pool s.volumes → AreReady e q between
  placed_ready ready = placing.ready_still d e s.pool q s.volumes between x mid its row fit.housed placed ready

  -- it stands on the disk,
  pub placed_stands : StandsReady d s → StandsReady e placed_session
  placed_stands stands = record {
    stands = record {
      found = λ tells. subst (IsFoundOn e) (sym found_same) (found_read d e s.pool.found reads (stands.stands.found (subst IsTrue reads.stays.tells tells)));
      map = λ tells. placing.map_still d e s.pool q s.volumes between x mid its row fit.housed placed (stands.stands.map (subst IsTrue reads.stays.tells tells));
      cache = placed.ready.lent.stands;
    };
    ready = placed_ready stands.ready;
  }

  -- and it stands for what it stood for.
  pub placed_for : (last m : Machine) → StandsFor d s last m → StandsFor e placed_session last m
  placed_for last m is =
      let full = has_full_room d s last m is in
      let spent = flushing.spent_still d e s.pool q s.volumes between x mid its row fit placed last is.held (record { numbers = full.numbers; blocks = full.free }) in
      let maps = flushing.waiting_still d e s.pool q s.volumes between x mid its row fit placed in
      let clear = clear_stays s.pool.map q.map placed.goes.goes.goes.committed in
      let fewer : unwritten placed_session ≤ unwritten s = omega (arith, spent.fewer, spent.blocks, maps, clear, free_and_placed s.pool.map, free_and_placed q.map) in
      let sum = sum_by-set overhead_by s.volumes slot (Some mid) None inside in
      let own : overhead_by (state_at s.volumes slot) ≡ overhead_by (Some mid) = ap overhead_by there ∙ sym (ap (λ (z : VolumeState). overhead_by (Some z)) placed.keeps) in
      let same : overheads (view_at (root_found q.found) e.reads) ≡ overheads (view_at (root_found s.pool.found) d.reads) = λ j. overheads (view_at (root_found (found_same j)) (reads.stays.reads j)) in
      record {
        held = flushing.held_still d e s.pool q s.volumes between x mid its row fit placed last is.held;
        machine = flushing.machine_still d e s.pool q s.volumes between x mid its row fit placed last is.held ∙ is.machine;
        settled = λ c now a. is.settled c (reads.stays.no_more c now) a ∙ ap (λ (i : Image). i a) (sym reads.stays.reads);
        delays = known_still d.reads e.reads s.pool.found q.found s.delays s.delays reads.stays.reads found_same refl is.delays;
        pending = omega (arith, same, fewer, sum, own, is.pending);
        files = omega (arith, fewer, is.files);
        few = omega (arith, spent.fewer, is.few);
        free = omega (arith, spent.blocks, is.free);
        room = omega (arith, same, clear, is.room);
      }

  -- no entry becomes a hole
  pub placed_entries : PlacesEntries s.pool.map s.pool.containers q.containers
  placed_entries = flushing.entries_still d e s.pool q s.volumes between x mid its row fit placed

  -- the volume of the slot is the one that was placed
  pub placed_there : state_at between slot ≡ Some mid
  placed_there = get_or-set_same s.volumes slot (Some mid) None inside

-- ---- the snapshots of a volume changed in memory

module _ (d : Shown) (s : Session) (slot : ℕ) (x y : VolumeState) (there : state_at s.volumes slot ≡ Some x) (slot_is : x.slot ≡ slot) (long : length s.volumes ≡ 64) (step : IsStepped x y) (ready : IsReady d s.pool y) (room : ℕ) where
  abbrev pub stepped_session : Session
  stepped_session = record s { volumes = with_state s.volumes slot (Some y); pending = s.pending + room }

  -- it stands on the disk
  pub stepped_stands : StandsReady d s → StandsReady d stepped_session
  stepped_stands stands = record {
    stands = record { found = stands.stands.found; map = stands.stands.map; cache = stands.stands.cache };
    ready = ready_stepped d s.pool s.volumes long slot x y there step ready slot_is (λ k differ. stands.ready k);
  }

  -- It stands for the machine after the command, where clones stand on what they stood on, so many blocks of maps wait more and the room for them is within the dirty limit, or none waits
  -- more, without room.
  pub stepped_for : (more : ℕ) → map_wait y ≤ map_wait x + more → pending_of y.files ≤ pending_of x.files → ((more ≡ 0) × (room ≡ 0)) ⊎ ((more ≤ room) × (s.pending + room ≤ 256)) → IsHeldIn d s.pool slot y → (AreFooted s.volumes s.pool.containers → AreFooted (with_state s.volumes slot (Some y)) s.pool.containers)
      → (last m : Machine) (c : Command) → StandsFor d s last m → refusal m c ≡ None → change_of m c ≡ Becomes x.name (volume_for d s.pool y) → StandsFor d stepped_session last (next m c)
  stepped_for more waits pending enough now clones last m c is accepted becomes =
      let maps = waiting_stepped d s.pool s.volumes long slot x y there step ready more waits in
      let files = pending_stepped d s.pool s.volumes long slot x y there step ready pending in
      let over = overheads_stepped d s.pool s.volumes long slot x y there step ready in
      let its : refusal (machine_held d s.pool s.volumes) c ≡ None = ap (λ (k : Machine). refusal k c) is.machine ∙ accepted in
      let new : change_of (machine_held d s.pool s.volumes) c ≡ Becomes x.name (volume_for d s.pool y) = ap (λ (k : Machine). change_of k c) is.machine ∙ becomes in
      let grown : unwritten stepped_session ≤ unwritten s + more = omega (arith, maps, files) in
      record {
        held = held_now d s.pool s.volumes long slot x y there step ready last is.held now (clones is.held.footed) c its new;
        machine = machine_now d s.pool s.volumes long slot x y there step ready last is.held now (clones is.held.footed) c its new ∙ ap (λ (k : Machine). next k c) is.machine;
        settled = is.settled;
        delays = is.delays;
        pending = ⊎_elim (λ (none : (more ≡ 0) × (room ≡ 0)). omega (arith, grown, over, is.pending, none.0, none.1)) (λ (some : (more ≤ room) × (s.pending + room ≤ 256)). omega (arith, grown, over, is.pending, some.0)) enough;
        files = ⊎_elim (λ (none : (more ≡ 0) × (room ≡ 0)). omega (arith, grown, is.files, none.0, none.1)) (λ (some : (more ≤ room) × (s.pending + room ≤ 256)). omega (arith, grown, is.files, some.0)) enough;
        few = omega (arith, files, is.few);
        free = omega (arith, files, is.free);
        room = ⊎_elim (λ (none : (more ≡ 0) × (room ≡ 0)). omega (arith, is.room, none.1)) (λ (some : (more ≤ room) × (s.pending + room ≤ 256)). omega (arith, is.room, some.1)) enough;
      }

-- ---- one after the other

module _ (d e : Shown) (s : Session) (q : Pool) (slot : ℕ) (x mid y : VolumeState) (there : state_at s.volumes slot ≡ Some x) (slot_is : x.slot ≡ slot) (fit : FitTogether s.pool s.volumes) (placed : IsPlacedAs d s.pool x e q mid)
    (step : IsStepped mid y) (ready : IsReady e q y) (room : ℕ) where
  abbrev pub snapped_session : Session
  snapped_session = record s { volumes = with_state s.volumes slot (Some y); pool = q; pending = s.pending + room }

  abbrev first : Session
  first = record s { volumes = with_state s.volumes slot (Some mid); pool = q }

  mid_slot : mid.slot ≡ slot
  mid_slot = ap (λ (z : VolumeState). z.slot) placed.keeps ∙ slot_is

  mid_there : state_at (with_state s.volumes slot (Some mid)) slot ≡ Some mid
  mid_there = placed_there d e s q slot x mid there slot_is fit placed

  mid_long : length (with_state s.volumes slot (Some mid)) ≡ 64
  mid_long = length-set s.volumes slot (Some mid) ∙ fit.housed.long

  twice : with_state (with_state s.volumes slot (Some mid)) slot (Some y) ≡ with_state s.volumes slot (Some y)
  twice = set-set s.volumes slot (Some mid) (Some y)

  -- its parts fit together,
  pub snapped_fit : FitTogether q (with_state s.volumes slot (Some y))
  snapped_fit = subst (FitTogether q) twice (fit_stepped e q (with_state s.volumes slot (Some mid)) mid_long slot mid y mid_there step ready (placed_fit d e s q slot x mid there slot_is fit placed))

  as_snapped : stepped_session e first slot mid y mid_there mid_slot mid_long step ready room ≡ snapped_session
  as_snapped = λ j. record s { volumes = twice j; pool = q; pending = s.pending + room }

  -- it stands on the disk,
  pub snapped_stands : StandsReady d s → StandsReady e snapped_session
  snapped_stands stands = subst (StandsReady e) as_snapped (stepped_stands e first slot mid y mid_there mid_slot mid_long step ready room (placed_stands d e s q slot x mid there slot_is fit placed stands))

  -- and it stands for the machine after the command.
  pub snapped_for : (more : ℕ) → map_wait y ≤ map_wait mid + more → pending_of y.files ≤ pending_of mid.files → ((more ≡ 0) × (room ≡ 0)) ⊎ ((more ≤ room) × (s.pending + room ≤ 256)) → IsHeldIn e q slot y → (AreFooted (with_state s.volumes slot (Some mid)) q.containers → AreFooted (with_state s.volumes slot (Some y)) q.containers)
      → (last m : Machine) (c : Command) → StandsFor d s last m → refusal m c ≡ None → change_of m c ≡ Becomes x.name (volume_for e q y) → StandsFor e snapped_session last (next m c)
  snapped_for more waits pending enough now clones last m c is accepted becomes = subst (λ (n : Session). StandsFor e n last (next m c)) as_snapped
      (stepped_for e first slot mid y mid_there mid_slot mid_long step ready room more waits pending enough now (λ were. subst (λ (ss : States). AreFooted ss q.containers) (sym twice) (clones were)) last m c
      (placed_for d e s q slot x mid there slot_is fit placed last m is) accepted
      (becomes ∙ ap (λ (n : List ℕ). Becomes n (volume_for e q y)) (sym (ap (λ (z : VolumeState). z.name) placed.keeps))))
