-- Each command on snapshots, carried out by the call of the volume of its slot: what the session answers, and what it stands for then.
use Rattle.std.proofs.Common.{◌≡◌, ◌<◌, ◌≤◌, ◌+◌, ◌⊎◌, ℕ, true, false, List, length, Option, Some, None, is_some, Result, Ok, Err, inl, inr, ⊎_elim, true≢false, refl, sym, ap, subst, ◌∙◌, arith}
use Rattle.std.specs.Prelude.{IfErr, IfSome, IsNone}
use Rattle.std.proofs.lemmas.List.{set-get_or}
use Rattle.fv_disk.specs.Shown.{IsDisk, Rose, Shown}
use Rattle.fv_disk.specs.DiskCalls.{OnlyReads}
use Rattle.fv_model.specs.declared.answers.Refusal.{Refusal}
use Rattle.fv_model.specs.declared.answers.Refusal.TheVariants.{NoSnapshot}
use Rattle.fv_model.specs.declared.answers.Reply.{Reply}
use Rattle.fv_model.specs.declared.answers.Reply.TheVariants.{Done, Refused}
use Rattle.fv_model.specs.declared.commands.Command.{Command}
use Rattle.fv_model.specs.declared.commands.Command.TheVariants.{SnapCreate, SnapDelete, SnapRestore}
use Rattle.fv_model.specs.Machines.{Machine}
use Rattle.fv_model.specs.Effects.{Becomes, change_of}
use Rattle.fv_model.specs.Refusals.{refusal}
use Rattle.fv_model.specs.Replies.{answer, Allows}
use Rattle.fv_model.specs.Space.{map_blocks}
use Rattle.fv_bits.specs.Members.{is_member}
use Rattle.fv_laws.proofs.Changes.{itself}
use Rattle.fv_pool.specs.declared.fault.VolumeFault.{VolumeFault}
use Rattle.fv_pool.specs.declared.fault.VolumeFault.TheVariants as volume
use Rattle.fv_pool.specs.declared.pool.Pool.{Pool}
use Rattle.fv_volume.specs.declared.state.VolumeState.{VolumeState}
use Rattle.fv_volume.specs.Files.{IsLabelled}
use Rattle.fv_volume.specs.Held.{MayFail}
use Rattle.fv_volume.specs.OneVolume.{volume_for, IsReady}
use Rattle.fv_pool.specs.Tables.{pending_of}
use Rattle.fv_volume.specs.Slots.{is_named, HasName}
use Rattle.fv_volume.specs.States.{state_at, with_state}
use Rattle.fv_volume.specs.Writing.{map_wait}
use Rattle.fv_volumes.proofs.Told.{is_inside}
use Rattle.fv_cp.specs.Held.{machine_held, IsHeldIn}
use Rattle.fv_cp.specs.Lent.{FitTogether}
use Rattle.fv_cp.proofs.Flushing.{passed_none}
use Rattle.fv_cp.specs.Placing.{pending_by, HasNoFiles, HasNumbers, HaveNoFiles, IsPlacedAs}
use Rattle.fv_snapshot.specs.Creating.{creation_refusal, Creates, TellsCreation}
use Rattle.fv_snapshot.specs.Deleting.{Deletes, HasStood, is_used}
use Rattle.fv_snapshot.proofs.InUse.{base_used}
use Rattle.fv_snapshot.specs.Restoring.{Restores}
use Rattle.fv_aggregate.specs.declared.fault.Fault.{Fault}
use Rattle.fv_aggregate.specs.declared.fault.Fault.TheVariants.{Damaged, DiskFault, Memory}
use Rattle.fv_aggregate.specs.declared.session.Session.{Session}
use Rattle.fv_aggregate.specs.Commands.{asked_by, AsksPlacing, slot_named, places_files, room_by, snapped_by}
use Rattle.fv_aggregate.specs.Known.{KeepsNumbersBut, KnowsNumbers, MayLose}
use Rattle.fv_aggregate.specs.Looking.{done_as, Replied, SnapsState}
use Rattle.fv_aggregate.specs.Snapping.{snap_blocks, IsAccepted}
use Rattle.fv_aggregate.specs.Standing.{IsWithoutFiles, StandsFor, StandsReady}
use Rattle.fv_aggregate.proofs.Holes.{kept_entries}
use Rattle.fv_aggregate.proofs.Asked.{answer_allows}
use Rattle.fv_aggregate.proofs.Changed.{beside, has_within, mine}
use Rattle.fv_aggregate.proofs.Having.{contents, has_volumes}
use Rattle.fv_aggregate.proofs.HeldMachine.{is_there}
use Rattle.fv_aggregate.proofs.Keeping.{keeps_with}
use Rattle.fv_aggregate.proofs.PointEnds.{has_full_room}
use Rattle.fv_aggregate.proofs.Rooms.{slot_there}
use Rattle.fv_aggregate.proofs.SnapCommands.{snap_cases}
use Rattle.fv_aggregate.proofs.Calls.{reads_itself}
use Rattle.fv_aggregate.proofs.SnapDone.{carried_broken, carried_damaged, carried_done, carried_refused, carried_wanting, IsCarried}
use Rattle.fv_aggregate.proofs.SnapClones.{made_clones, removed_clones, turned_clones}
use Rattle.fv_aggregate.proofs.SnapSessions.{none_with, placed_entries, placed_for, placed_stands, snapped_for, snapped_stands, stepped_for, stepped_stands}
use Rattle.fv_aggregate.proofs.SnapSteps.{made_waits, removed_waits, restored_step, snapped_step, unsnapped_step}
use Rattle.fv_aggregate.proofs.Stepped.{IsStepped}
use Rattle.fv_aggregate.proofs.Sums.{one_pending}

-- ---- by the machine

made_allows : (m : Machine) (v name : List ℕ) → refusal m (SnapCreate v name) ≡ None → Allows m (SnapCreate v name) Done
unfolding answer
made_allows m v name accepted = answer_allows m (SnapCreate v name) Done accepted refl refl

removed_allows : (m : Machine) (v name : List ℕ) → refusal m (SnapDelete v name) ≡ None → Allows m (SnapDelete v name) Done
unfolding answer
removed_allows m v name accepted = answer_allows m (SnapDelete v name) Done accepted refl refl

turned_allows : (m : Machine) (v name : List ℕ) → refusal m (SnapRestore v name) ≡ None → Allows m (SnapRestore v name) Done
unfolding answer
turned_allows m v name accepted = answer_allows m (SnapRestore v name) Done accepted refl refl

-- the session after a call of a volume of it
abbrev pub carried_session : Session → ℕ → Pool → VolumeState → ℕ → Session
carried_session s slot q y room = record s { volumes = with_state s.volumes slot (Some y); pool = q; pending = s.pending + room }

abbrev pub left_session : Session → ℕ → Pool → VolumeState → Session
left_session s slot q y = record s { volumes = with_state s.volumes slot (Some y); pool = q }

module _ {D : Type 0} (shown : D → Shown) (disk left : D) (laws : IsDisk (shown disk)) (reads : OnlyReads (shown disk) (shown left)) (s : Session) (fresh : IsNone s.failed) (stands : StandsReady (shown disk) s) (fit : FitTogether s.pool s.volumes) (slot : ℕ) (x : VolumeState) (there : state_at s.volumes slot ≡ Some x) (slot_is : x.slot ≡ slot) (named : HasName s.volumes slot x.name) (room : ℕ) (idle : x.files ≡ None → left ≡ disk) where
  -- the disk before, and once blocks were read
  abbrev d : Shown
  d = shown disk

  abbrev e : Shown
  e = shown left

  long : length s.volumes ≡ 64
  long = fit.housed.long

  inside : slot < length s.volumes
  inside = let low = is_inside s.volumes slot x long there in let many = long in omega (arith, low, many)

  -- ---- the volume in the machine

  -- its slot is the one that is asked
  its_slot : slot_named s.volumes x.name ≡ slot
  its_slot = slot_there s.volumes slot x.name named (let within = inside in let many = long in omega (arith, within, many))

  made_asks : (name : List ℕ) → asked_by s.volumes (SnapCreate x.name name) ≡ AsksPlacing slot
  unfolding asked_by
  made_asks name = ap (λ (n : ℕ). AsksPlacing n) its_slot

  removed_asks : (name : List ℕ) → asked_by s.volumes (SnapDelete x.name name) ≡ AsksPlacing slot
  unfolding asked_by
  removed_asks name = ap (λ (n : ℕ). AsksPlacing n) its_slot

  held : (last m : Machine) → StandsFor d s last m → IsHeldIn d s.pool x.slot x
  held last m is = subst (λ (n : ℕ). IsHeldIn d s.pool n x) (sym slot_is) (mine d s.pool s.volumes long last is.held slot x there)

  held_at : (q : Pool) (y : VolumeState) → IsHeldIn e q x.slot y → IsHeldIn e q slot y
  held_at q y = subst (λ (n : ℕ). IsHeldIn e q n y) slot_is

  -- what holds of the machine of its volumes holds of the one that the session stands for
  for_machine : (P : Machine → Type 0) → (last m : Machine) → StandsFor d s last m → P (machine_held d s.pool s.volumes) → P m
  for_machine P last m is = subst P is.machine

  -- ---- what stays

  its_files : HaveNoFiles s.volumes → x.files ≡ None
  its_files none = subst HasNoFiles there (none slot)

  -- without files in memory the disk isn't called
  uncalled : HaveNoFiles s.volumes → left ≡ disk
  uncalled none = idle (its_files none)

  -- the numbers of its files stay
  numbers_stay : (c : Command) (y : VolumeState) → y.numbers ≡ x.numbers → KeepsNumbersBut (MayLose c s.volumes) s.volumes (with_state s.volumes slot (Some y))
  numbers_stay c y same = keeps_with (MayLose c s.volumes) s.volumes slot (Some y) inside (λ known stays. ap is_some same ∙ subst (λ (o : Option VolumeState). KnowsNumbers o) there known)

  -- without files in memory nothing is placed
  module _ (q : Pool) (mid y : VolumeState) (placed : IsPlacedAs d s.pool x e q mid) where
    pool_stays : IsWithoutFiles s → q ≡ s.pool
    pool_stays without = (placed.idle (its_files without.none)).0

    files_stay : y.files ≡ None → (room : ℕ) → IsWithoutFiles s → IsWithoutFiles (carried_session s slot q y room)
    files_stay none room without = record {
      none = none_with s.volumes slot y inside none without.none;
      taken = subst (λ (p : Pool). (b : ℕ) → is_member p.map.next b ≡ true → is_member p.map.committed b ≡ true) (sym (pool_stays without)) without.taken;
    }

  carried_as : (c : Command) (new : Session) (result wanted : Result Reply Fault) (was : Session) → new ≡ was → result ≡ wanted → IsCarried d disk s c room e left was wanted → IsCarried d disk s c room e left new result
  carried_as c new result wanted was same is carried = subst (λ (r : Result Reply Fault). IsCarried d disk s c room e left new r) (sym is) (subst (λ (n : Session). IsCarried d disk s c room e left n wanted) (sym same) carried)

  -- ---- files couldn't be placed

  module _ (c : Command) (q : Pool) (y : VolumeState) (placed : IsPlacedAs d s.pool x e q y) (places : places_files c ≡ true) where
    numbers_left : KeepsNumbersBut (MayLose c s.volumes) s.volumes (with_state s.volumes slot (Some y))
    numbers_left = numbers_stay c y (ap (λ (z : VolumeState). z.numbers) placed.keeps)

    its_stands : StandsReady e (left_session s slot q y)
    its_stands = placed_stands d e s q slot x y there slot_is fit placed stands

    pub wanting : e.faults ≡ d.faults → IsCarried d disk s c room e left (left_session s slot q y) (Err Memory)
    wanting counts = carried_wanting d e disk left laws reads s fresh c room (left_session s slot q y) fresh its_stands (omega arith) numbers_left (placed_entries d e s q slot x y there slot_is fit placed) places counts uncalled (λ last m is. placed_for d e s q slot x y there slot_is fit placed last m is)

    -- a read failed
    pub broken : (o : Option ℕ) → is_some x.files ≡ true → Rose d.faults e.faults → (Rose e.write_faults e.write_faults → o ≡ Some e.faults) → ((Rose e.write_faults e.write_faults → ⊥) → IsNone o) → IsCarried d disk s c room e left (record (left_session s slot q y) { failed = o }) (Err DiskFault)
    broken o filed rose written unwritten = carried_broken d e disk left laws reads s fresh c room (left_session s slot q y) fresh its_stands (omega arith) numbers_left (placed_entries d e s q slot x y there slot_is fit placed) places o
        (λ none. true≢false (sym filed ∙ ap is_some (its_files none))) rose written unwritten (λ last m is. placed_for d e s q slot x y there slot_is fit placed last m is)

    pub damaged : e.faults ≡ d.faults → asked_by s.volumes c ≡ AsksPlacing slot → (at want found : ℕ) → MayFail d s.pool (Some x) (volume.Damaged at want found) → IsCarried d disk s c room e left (left_session s slot q y) (Err (Damaged at want found))
    damaged counts asks at want found may = carried_damaged d e disk left laws reads s fresh c room (left_session s slot q y) fresh its_stands (omega arith) numbers_left (placed_entries d e s q slot x y there slot_is fit placed) places at want found counts
        (record {
          files = record {
            fresh = fresh;
            files = λ none. true≢false (sym may.0 ∙ ap is_some (its_files none));
            slot = slot;
            state = x;
            there = there;
            mid = s.pool;
            root = refl;
            committed = refl;
            placed = (passed_none d s.pool s.volumes fit stands.ready stands.stands.cache).come.placed.entries;
            shapes = (passed_none d s.pool s.volumes fit stands.ready stands.stands.cache).come.placed.shapes;
            entries = refl;
            between = s.volumes;
            ahead = λ k behind. (refl, refl);
            others = λ k. refl;
            rest = λ k none. (refl, refl);
            done = inr (refl, refl);
            first = λ none. refl;
            fails = may;
          };
          comes = inl asks;
          before = λ other. absurd (other asks);
        })
        (λ last m is.
        let full = has_full_room d s last m is in
        let all = full.free in
        let part = one_pending s.volumes slot in
        let own : pending_by (state_at s.volumes slot) ≡ pending_of x.files = ap pending_by there in
        let stood = (held last m is).stands in
        may.1.0 (stood.told, stood.trees) (subst HasNumbers there (full.numbers slot) may.0) (omega (arith, all, part, own)))

  -- ---- a snapshot was made

  module _ (name : List ℕ) (q : Pool) (y : VolumeState) (ready : IsReady e q y) (room_is : room ≡ map_blocks x.span) (few : (room ≡ 0) ⊎ (s.pending + room ≤ 256)) (exact : room ≡ room_by s.volumes (SnapCreate x.name name))
      (accepted : creation_refusal x.snapshots x.ledger s.pool.found.blocks (beside s.volumes slot) name ≡ None) where
    pub made : (u : Unit {0}) → Creates d s.pool x (beside s.volumes slot) name e q y (Ok u) → TellsCreation s.pool x (beside s.volumes slot) name y (Ok u) → IsCarried d disk s (SnapCreate x.name name) room e left (carried_session s slot q y room) (Ok Done)
    made u did tells = carried_done d e disk left laws reads s fresh (SnapCreate x.name name) room (carried_session s slot q y room) fresh
        (snapped_stands d e s q slot x did.done.mid y there slot_is fit did.done.placed step ready room stands) (omega (arith, exact)) (numbers_stay (SnapCreate x.name name) y numbers) (placed_entries d e s q slot x did.done.mid there slot_is fit did.done.placed)
        did.calm (λ none. absurd (true≢false none)) uncalled
        (λ last m is. snapped_for d e s q slot x did.done.mid y there slot_is fit did.done.placed step ready room (map_blocks x.span) waits pending enough (held_at q y (did.held (held last m is))) (made_clones d e s q slot x y there slot_is fit name did.done) last m (SnapCreate x.name name) is (agreed last m is) (becomes last m is))
        (λ last m is. made_allows m x.name name (agreed last m is))
        (files_stay q did.done.mid y did.done.placed (ap (λ (z : VolumeState). z.files) did.done.now ∙ did.done.none) room)
        (⊎_elim (λ none. absurd (true≢false none)) (λ without. ap (λ (p : Pool). p.map) (pool_stays q did.done.mid y did.done.placed without))) stands
      where
        step : IsStepped did.done.mid y
        step = snapped_step d s.pool x e q name y did.done tells.waits

        waits : map_wait y ≤ map_wait did.done.mid + map_blocks x.span
        waits =
            let span : map_blocks did.done.mid.span ≡ map_blocks x.span = ap (λ (z : VolumeState). map_blocks z.span) did.done.placed.keeps in
            let same : map_wait y ≡ _ = ap (λ (z : VolumeState). map_wait z) did.done.now in
            let more = made_waits did.done.mid did.done.slot name in
            omega (arith, span, same, more)

        pending : pending_of y.files ≤ pending_of did.done.mid.files
        pending = let same : pending_of y.files ≡ pending_of did.done.mid.files = ap (λ (z : VolumeState). pending_of z.files) did.done.now in omega (arith, same)

        enough : ((map_blocks x.span ≡ 0) × (room ≡ 0)) ⊎ ((map_blocks x.span ≤ room) × (s.pending + room ≤ 256))
        enough = ⊎_elim (λ (none : room ≡ 0). inl (omega (arith, none, room_is), none)) (λ (low : s.pending + room ≤ 256). inr (omega (arith, room_is), low)) few

        numbers : y.numbers ≡ x.numbers
        numbers = ap (λ (z : VolumeState). z.numbers) did.done.now ∙ ap (λ (z : VolumeState). z.numbers) did.done.placed.keeps

        agreed : (last m : Machine) → StandsFor d s last m → refusal m (SnapCreate x.name name) ≡ None
        agreed last m is = for_machine (λ (k : Machine). refusal k (SnapCreate x.name name) ≡ None) last m is ((did.changes (held last m is)).agrees _ (has_within d s.pool s.volumes long last is.held slot x there).beside)

        becomes : (last m : Machine) → StandsFor d s last m → change_of m (SnapCreate x.name name) ≡ Becomes x.name (volume_for e q y)
        becomes last m is = for_machine (λ (k : Machine). change_of k (SnapCreate x.name name) ≡ Becomes x.name (volume_for e q y)) last m is ((did.changes (held last m is)).becomes _ (is_there d s.pool s.volumes long last is.held slot x there))

    -- or not
    pub unmade : (f : VolumeFault) → Creates d s.pool x (beside s.volumes slot) name e q y (Err f) → TellsCreation s.pool x (beside s.volumes slot) name y (Err f) → (new : Session) (result : Result Reply Fault) → Replied e (Err f) (left_session s slot q y) new result
        → IsCarried d disk s (SnapCreate x.name name) room e left new result
    unmade (volume.Refused r) did tells new result is = absurd (both (sym accepted ∙ tells.judged r refl))
      where
        both : ◌≡◌ {A = Option Refusal} None (Some r) → ⊥
        both e = cc
    unmade volume.DiskFault did tells new result b = carried_as (SnapCreate x.name name) new result (Err DiskFault) (record (left_session s slot q y) { failed = new.failed }) b.1.1.1.same (b.1.0 ∙ ap (λ (g : Fault). Err g) b.1.1.0) (broken (SnapCreate x.name name) q y did.failed refl new.failed did.cause.0.0 did.cause.1 b.1.1.1.written b.1.1.1.unwritten)
    unmade (volume.Damaged at want found) did tells new result b = carried_as (SnapCreate x.name name) new result (Err (Damaged at want found)) (left_session s slot q y) b.1.1.1 (b.1.0 ∙ ap (λ (g : Fault). Err g) b.1.1.0) (damaged (SnapCreate x.name name) q y did.failed refl did.cause.1 (made_asks name) at want found did.cause.0)
    unmade volume.Memory did tells new result b = carried_as (SnapCreate x.name name) new result (Err Memory) (left_session s slot q y) b.1.1.1 (b.1.0 ∙ ap (λ (g : Fault). Err g) b.1.1.0) (wanting (SnapCreate x.name name) q y did.failed refl did.cause)

  -- a session that changed nothing
  as_left : (q : Pool) (y : VolumeState) → q ≡ s.pool → y ≡ x → left_session s slot q y ≡ s
  as_left q y pool same =
      let states : with_state s.volumes slot (Some y) ≡ s.volumes = ap (λ (z : VolumeState). with_state s.volumes slot (Some z)) same ∙ ap (λ (o : Option VolumeState). with_state s.volumes slot o) (sym there) ∙ set-get_or s.volumes slot None in
      λ j. record s { volumes = states j; pool = pool j }

  -- ---- a snapshot was removed

  module _ (name : List ℕ) (q : Pool) (y : VolumeState) (ready : IsReady e q y) (nothing : room ≡ 0) where
    -- whether a clone stands on it is what the machine says
    stood : (last m : Machine) → StandsFor d s last m → HasStood x.name (volume_for d s.pool x) (is_used s.volumes slot name) name (machine_held d s.pool s.volumes)
    stood last m is = record {
      there = is_there d s.pool s.volumes long last is.held slot x there;
      stands = base_used s.volumes s.pool.containers is.held.footed is.held.names long (contents d s.pool s.volumes long last is.held) s.pool.found.blocks (machine_held d s.pool s.volumes) (has_volumes d s.pool s.volumes long last is.held)
          slot x there (held last m is).stands.names (subst (λ (o : Option VolumeState). IfSome o (IsLabelled slot)) there (fit.housed.volumes slot)).snapshots.slots.rising name;
    }

    pub removed : (u : Unit {0}) → Deletes d s.pool x (is_used s.volumes slot name) name e q y (Ok u) → IsCarried d disk s (SnapDelete x.name name) room e left (carried_session s slot q y room) (Ok Done)
    removed u did = carried_done d e disk left laws reads s fresh (SnapDelete x.name name) room (carried_session s slot q y room) fresh
        (snapped_stands d e s q slot x did.done.mid y there slot_is fit did.done.placed step ready room stands) (omega (arith, nothing)) (numbers_stay (SnapDelete x.name name) y numbers) (placed_entries d e s q slot x did.done.mid there slot_is fit did.done.placed)
        did.calm (λ none. absurd (true≢false none)) uncalled
        (λ last m is. snapped_for d e s q slot x did.done.mid y there slot_is fit did.done.placed step ready room 0 waits pending (inl (refl, nothing)) (held_at q y (did.held (held last m is))) (removed_clones d e s q slot x y there slot_is fit name did.done did.unused) last m (SnapDelete x.name name) is (agreed last m is) (becomes last m is))
        (λ last m is. removed_allows m x.name name (agreed last m is))
        (files_stay q did.done.mid y did.done.placed (ap (λ (z : VolumeState). z.files) did.done.now ∙ did.done.none) room)
        (⊎_elim (λ none. absurd (true≢false none)) (λ without. ap (λ (p : Pool). p.map) (pool_stays q did.done.mid y did.done.placed without))) stands
      where
        step : IsStepped did.done.mid y
        step = unsnapped_step d s.pool x e q name y did.done

        waits : map_wait y ≤ map_wait did.done.mid + 0
        waits =
            let same : map_wait y ≡ _ = ap (λ (z : VolumeState). map_wait z) did.done.now in
            let less = removed_waits did.done.mid did.done.at did.done.snap.slot did.done.ledger in
            omega (arith, same, less)

        pending : pending_of y.files ≤ pending_of did.done.mid.files
        pending = let same : pending_of y.files ≡ pending_of did.done.mid.files = ap (λ (z : VolumeState). pending_of z.files) did.done.now in omega (arith, same)

        numbers : y.numbers ≡ x.numbers
        numbers = ap (λ (z : VolumeState). z.numbers) did.done.now ∙ ap (λ (z : VolumeState). z.numbers) did.done.placed.keeps

        agreed : (last m : Machine) → StandsFor d s last m → refusal m (SnapDelete x.name name) ≡ None
        agreed last m is = for_machine (λ (k : Machine). refusal k (SnapDelete x.name name) ≡ None) last m is ((did.changes (held last m is)).agrees _ (stood last m is))

        becomes : (last m : Machine) → StandsFor d s last m → change_of m (SnapDelete x.name name) ≡ Becomes x.name (volume_for e q y)
        becomes last m is = for_machine (λ (k : Machine). change_of k (SnapDelete x.name name) ≡ Becomes x.name (volume_for e q y)) last m is ((did.changes (held last m is)).becomes _ (is_there d s.pool s.volumes long last is.held slot x there))

    -- or not
    pub unremoved : (f : VolumeFault) → ((w : Refusal) → f ≡ volume.Refused w → left ≡ disk) → Deletes d s.pool x (is_used s.volumes slot name) name e q y (Err f) → (new : Session) (result : Result Reply Fault) → Replied e (Err f) (left_session s slot q y) new result → IsCarried d disk s (SnapDelete x.name name) room e left new result
    unremoved (volume.Refused r) quiet did new result is =
        let same = did.refused r refl in
        carried_as (SnapDelete x.name name) new result (Ok (Refused r)) s (is.1 ∙ as_left q y same.0 same.1) is.0
        (carried_refused d e disk left laws reads s fresh (SnapDelete x.name name) room stands did.cause (quiet r refl) r
        (λ last m is. for_machine (λ (k : Machine). refusal k (SnapDelete x.name name) ≡ Some r) last m is ((did.changes (held last m is)).agrees _ (stood last m is))) nothing)
    unremoved volume.DiskFault quiet did new result b = carried_as (SnapDelete x.name name) new result (Err DiskFault) (record (left_session s slot q y) { failed = new.failed }) b.1.1.1.same (b.1.0 ∙ ap (λ (g : Fault). Err g) b.1.1.0) (broken (SnapDelete x.name name) q y did.failed refl new.failed did.cause.0.0 did.cause.1 b.1.1.1.written b.1.1.1.unwritten)
    unremoved (volume.Damaged at want found) quiet did new result b = carried_as (SnapDelete x.name name) new result (Err (Damaged at want found)) (left_session s slot q y) b.1.1.1 (b.1.0 ∙ ap (λ (g : Fault). Err g) b.1.1.0) (damaged (SnapDelete x.name name) q y did.failed refl did.cause.1 (removed_asks name) at want found did.cause.0)
    unremoved volume.Memory quiet did new result b = carried_as (SnapDelete x.name name) new result (Err Memory) (left_session s slot q y) b.1.1.1 (b.1.0 ∙ ap (λ (g : Fault). Err g) b.1.1.0) (wanting (SnapDelete x.name name) q y did.failed refl did.cause)

  -- ---- the table of a snapshot became the active one

  module _ (name : List ℕ) (y : VolumeState) (ready : IsReady d s.pool y) (nothing : room ≡ 0) where
    held_here : IsHeldIn d s.pool x.slot y → IsHeldIn d s.pool slot y
    held_here = subst (λ (n : ℕ). IsHeldIn d s.pool n y) slot_is

    carried_here : (c : Command) (new : Session) (result wanted : Result Reply Fault) (was : Session) → new ≡ was → result ≡ wanted → IsCarried d disk s c room d disk was wanted → IsCarried d disk s c room d disk new result
    carried_here c new result wanted was same is carried = subst (λ (r : Result Reply Fault). IsCarried d disk s c room d disk new r) (sym is) (subst (λ (n : Session). IsCarried d disk s c room d disk n wanted) (sym same) carried)

    pub turned : (u : Unit {0}) → Restores d s.pool x (beside s.volumes slot) name y (Ok u) → IsCarried d disk s (SnapRestore x.name name) room d disk (carried_session s slot s.pool y room) (Ok Done)
    turned u did = carried_done d d disk disk laws (reads_itself d) s fresh (SnapRestore x.name name) room (carried_session s slot s.pool y room) fresh
        (stepped_stands d s slot x y there slot_is long step ready room stands) (omega (arith, nothing))
        (keeps_with (MayLose (SnapRestore x.name name) s.volumes) s.volumes slot (Some y) inside (λ known stays. absurd (stays (x.name, (refl, ap (λ (o : Option VolumeState). is_named o x.name) there ∙ itself x.name))))) (kept_entries s (carried_session s slot s.pool y room) refl)
        refl (λ none. refl) (λ none. refl)
        (λ last m is. stepped_for d s slot x y there slot_is long step ready room 0 waits pending (inl (refl, nothing)) (held_here (did.held (held last m is))) (turned_clones d d s s.pool slot x y there slot_is fit name did.done) last m (SnapRestore x.name name) is (agreed last m is) (becomes last m is))
        (λ last m is. turned_allows m x.name name (agreed last m is))
        (λ without. record { none = none_with s.volumes slot y inside none without.none; taken = without.taken })
        (λ which. refl) stands
      where
        none : y.files ≡ None
        none = ap (λ (z : VolumeState). z.files) did.done.now

        step : IsStepped x y
        step = restored_step x name y did.done

        waits : map_wait y ≤ map_wait x + 0
        waits = let same : map_wait y ≡ map_wait x = ap (λ (z : VolumeState). map_wait z) did.done.now in omega (arith, same)

        pending : pending_of y.files ≤ pending_of x.files
        pending = let nothing : pending_of y.files ≡ 0 = ap pending_of none in omega (arith, nothing)

        agreed : (last m : Machine) → StandsFor d s last m → refusal m (SnapRestore x.name name) ≡ None
        agreed last m is = for_machine (λ (k : Machine). refusal k (SnapRestore x.name name) ≡ None) last m is ((did.changes (held last m is)).agrees _ (has_within d s.pool s.volumes long last is.held slot x there))

        becomes : (last m : Machine) → StandsFor d s last m → change_of m (SnapRestore x.name name) ≡ Becomes x.name (volume_for d s.pool y)
        becomes last m is = for_machine (λ (k : Machine). change_of k (SnapRestore x.name name) ≡ Becomes x.name (volume_for d s.pool y)) last m is ((did.changes (held last m is)).becomes _ (is_there d s.pool s.volumes long last is.held slot x there))

    -- or no snapshot has the name
    pub unturned : (f : VolumeFault) → Restores d s.pool x (beside s.volumes slot) name y (Err f) → (new : Session) (result : Result Reply Fault) → Replied d (Err f) (left_session s slot s.pool y) new result → IsCarried d disk s (SnapRestore x.name name) room d disk new result
    unturned (volume.Refused r) did new result is =
        carried_here (SnapRestore x.name name) new result (Ok (Refused r)) s (is.1 ∙ as_left s.pool y refl did.failed) is.0
        (carried_refused d d disk disk laws (reads_itself d) s fresh (SnapRestore x.name name) room stands refl refl r
        (λ last m is. for_machine (λ (k : Machine). refusal k (SnapRestore x.name name) ≡ Some r) last m is ((did.changes (held last m is)).agrees _ (has_within d s.pool s.volumes long last is.held slot x there))) nothing)
    unturned volume.DiskFault did new result b = absurd (other did.cause)
      where
        other : volume.DiskFault ≡ volume.Refused NoSnapshot → ⊥
        other e = cc
    unturned (volume.Damaged at want found) did new result b = absurd (other did.cause)
      where
        other : volume.Damaged at want found ≡ volume.Refused NoSnapshot → ⊥
        other e = cc
    unturned volume.Memory did new result b = absurd (other did.cause)
      where
        other : volume.Memory ≡ volume.Refused NoSnapshot → ⊥
        other e = cc

  -- ---- each of them

  -- what is pending then: the room of what was done, too
  abbrev pub pending_after : Result Unit VolumeFault → ℕ
  pending_after (Ok u) = s.pending + room
  pending_after (Err f) = s.pending

  abbrev pub after_call : Pool → VolumeState → Result Unit VolumeFault → Session
  after_call q y r = record s { volumes = with_state s.volumes slot (Some y); pool = q; pending = pending_after r }

  -- what is carried out of a command
  abbrev Carries : Command → Type 0
  Carries c = (q : Pool) (y : VolumeState) (r : Result Unit VolumeFault) → IsReady e q y → (places_files c ≡ false → left ≡ disk) → IfErr r (λ f. (w : Refusal) → f ≡ volume.Refused w → left ≡ disk) → SnapsState d s.pool s.volumes slot x (beside s.volumes slot) c e q y r → room ≡ snap_blocks (Some x) c → (room ≡ 0) ⊎ (s.pending + room ≤ 256) → room ≡ room_by s.volumes c
      → IsAccepted (Some x) s.pool.found.blocks (beside s.volumes slot) c → (new : Session) (result : Result Reply Fault) → Replied e (done_as r) (after_call q y r) new result → IsCarried d disk s c room e left new result

  carries_create : (v name : List ℕ) → Carries (SnapCreate v name)
  carries_create v name q y r ready kept quiet did room_is few exact accepted new result is = subst (λ (n : List ℕ). IsCarried d disk s (SnapCreate n name) room e left new result) (sym did.0) (by r did.1.0 did.1.1 is)
    where
      its_exact : room ≡ room_by s.volumes (SnapCreate x.name name)
      its_exact = subst (λ (n : List ℕ). room ≡ room_by s.volumes (SnapCreate n name)) did.0 exact

      by : (r : Result Unit VolumeFault) → Creates d s.pool x (beside s.volumes slot) name e q y r → TellsCreation s.pool x (beside s.volumes slot) name y r → Replied e (done_as r) (after_call q y r) new result → IsCarried d disk s (SnapCreate x.name name) room e left new result
      by (Ok u) made_so tells is = carried_as (SnapCreate x.name name) new result (Ok Done) (carried_session s slot q y room) is.1 is.0 (made name q y ready room_is few its_exact accepted u made_so tells)
      by (Err f) made_so tells is = unmade name q y ready room_is few its_exact accepted f made_so tells new result is

  carries_delete : (v name : List ℕ) → Carries (SnapDelete v name)
  carries_delete v name q y r ready kept quiet did room_is few exact accepted new result is = subst (λ (n : List ℕ). IsCarried d disk s (SnapDelete n name) room e left new result) (sym did.0) (by r quiet did.1 is)
    where
      by : (r : Result Unit VolumeFault) → IfErr r (λ f. (w : Refusal) → f ≡ volume.Refused w → left ≡ disk) → Deletes d s.pool x (is_used s.volumes slot name) name e q y r → Replied e (done_as r) (after_call q y r) new result → IsCarried d disk s (SnapDelete x.name name) room e left new result
      by (Ok u) still gone is = carried_as (SnapDelete x.name name) new result (Ok Done) (carried_session s slot q y room) is.1 is.0 (removed name q y ready room_is u gone)
      by (Err f) still gone is = unremoved name q y ready room_is f still gone new result is

  carries_restore : (v name : List ℕ) → Carries (SnapRestore v name)
  carries_restore v name q y r ready kept quiet did room_is few exact accepted new result is = subst (λ (n : List ℕ). IsCarried d disk s (SnapRestore n name) room e left new result) (sym did.0)
      (subst (λ (l : D). IsCarried d disk s (SnapRestore x.name name) room (shown l) l new result) (sym here)
      (by r did.1.1 (subst (λ (l : D). Replied (shown l) (done_as r) (after_call s.pool y r) new result) here (subst (λ (p : Pool). Replied e (done_as r) (after_call p y r) new result) did.1.0 is))))
    where
      -- no block was read
      here : left ≡ disk
      here = kept refl

      ready_still : IsReady d s.pool y
      ready_still = subst (λ (l : D). IsReady (shown l) s.pool y) here (subst (λ (p : Pool). IsReady e p y) did.1.0 ready)

      by : (r : Result Unit VolumeFault) → Restores d s.pool x (beside s.volumes slot) name y r → Replied d (done_as r) (after_call s.pool y r) new result → IsCarried d disk s (SnapRestore x.name name) room d disk new result
      by (Ok u) back is = carried_here name y ready_still room_is (SnapRestore x.name name) new result (Ok Done) (carried_session s slot s.pool y room) is.1 is.0 (turned name y ready_still room_is u back)
      by (Err f) back is = unturned name y ready_still room_is f back new result is

  pub carried_by : (c : Command) → snapped_by c ≡ Some x.name → Carries c
  carried_by c of = snap_cases Carries carries_create carries_delete carries_restore x.name c of
