-- `mirror` as `apply` has it: it is refused, or it is admitted, and then made or not.
use Rattle.std.proofs.Common.{◌≡◌, ◌≤◌, ◌<◌, ◌+◌, ⊎_elim, inl, inr, ℕ, Bool, true, false, List, length, Option, Some, None, Result, Ok, Err, true≢false, refl, sym, ap, subst, ◌∙◌, arith}
use Rattle.std.specs.Prelude.{if◌then◌else◌, nat_le, IfErr, IfOk, IfSome, IsNone, OnOk}
use Rattle.std.specs.Option.{option_map_or}
use Rattle.std.proofs.lemmas.Bool.Decides.{nat_tests}
use Rattle.fv_disk.specs.Shown.{IsDisk, Shown}
use Rattle.fv_disk.specs.Sparing.{Spares}
use Rattle.fv_model.specs.declared.answers.Refusal.{Refusal}
use Rattle.fv_model.specs.declared.answers.Reply.{Reply}
use Rattle.fv_model.specs.declared.answers.Reply.TheVariants.{Done, Refused}
use Rattle.fv_model.specs.declared.commands.Command.{Command}
use Rattle.fv_model.specs.declared.commands.Command.TheVariants.{Mirror, VolDestroy, VolList, SnapList, Cp}
use Rattle.fv_model.specs.declared.commands.Kind.{Kind}
use Rattle.fv_model.specs.Numbers.{greatest_span}
use Rattle.fv_model.specs.Refusals.{next}
use Rattle.fv_model.specs.Space.{overhead, span_of}
use Rattle.fv_aggmap.specs.Space.{IsFree}
use Rattle.fv_volume.specs.declared.state.Base.{Base}
use Rattle.fv_volume.specs.declared.state.Snap.{Snap}
use Rattle.fv_volume.specs.declared.state.VolumeState.{VolumeState}
use Rattle.fv_volume.specs.Cloning.{count_in}
use Rattle.fv_volume.specs.Held.{IsReadyIn}
use Rattle.fv_volume.specs.States.{States}
use Rattle.fv_mirror.specs.declared.admitting.Admitted.{Admitted}
use Rattle.fv_mirror.specs.Admitting.{Admits, CanMake, Refuses}
use Rattle.fv_mirror.specs.Making.{CanCopy}
use Rattle.fv_mirror.proofs.Made.{can_make}
use Rattle.fv_aggregate.specs.declared.fault.Fault.{Fault}
use Rattle.fv_aggregate.specs.declared.fault.Fault.TheVariants.{DiskFault, Damaged, Memory, Failed}
use Rattle.fv_aggregate.specs.declared.session.Session.{Session}
use Rattle.fv_aggregate.specs.Applying.{HasApplied}
use Rattle.fv_aggregate.specs.Calls.{Goes, HasDamage, HasFault, HasWritten, IsDone, IsWithinLimit, SameCounts}
use Rattle.fv_aggregate.specs.Commands.{asked_by, Asked, AsksCopies, AsksNothing, copies_at, copies_within, dirty_limit, is_built, machine_after, reads_files, room_by, room_with, span_within, wide_at, wide_among}
use Rattle.fv_image.specs.Views.{slots}
use Rattle.fv_aggregate.specs.Damages.{HasBadCopies}
use Rattle.fv_aggregate.specs.Deciding.{CanMirror}
use Rattle.fv_aggregate.specs.Mirroring.{HasMirrorFault, IsMirrorDone, IsUncopied, MakesMirror, Mirrors, RefusesMirror, TakesMirror, WritesFree, WritesLittle}
use Rattle.fv_aggregate.specs.Reclaiming.{MakesRoom}
use Rattle.fv_aggregate.specs.Standing.{StandsReady}
use Rattle.fv_aggregate.proofs.Added.{done_allowed, not_refused, refused_for}
use Rattle.fv_aggregate.proofs.Applied.{own_room}
use Rattle.fv_aggregate.proofs.Applying.{no_step, not_dead}
use Rattle.fv_aggregate.proofs.Calls.{reads_itself, rests_done}
use Rattle.fv_aggregate.proofs.Damages.{damage_room}
use Rattle.fv_aggregate.proofs.Decided.{done_decided}
use Rattle.fv_aggregate.proofs.Holes.{kept_entries, no_holes}
use Rattle.fv_aggregate.proofs.Keeping.{keeps_but}
use Rattle.fv_aggregate.proofs.LeftByCalls.{left_refused, left_same}
use Rattle.fv_aggregate.proofs.MadeRoom.{refused_roomy}
use Rattle.fv_aggregate.proofs.Mirrored.{mirror_accepted, mirror_done, mirror_refused}
use Rattle.fv_aggregate.proofs.Missing.{refused_allows}
use Rattle.fv_aggregate.proofs.Rooms.{copies_there, slot_there, wide_there}
use Rattle.fv_aggregate.proofs.StillAdmitted.{mirrors_still}

-- ---- the room of a mirror

within_span : (n span : ℕ) → span ≤ greatest_span → span ≡ n → span_within n ≡ span
within_span n span most same = by (nat_le n greatest_span) refl
  where
    by : (b : Bool) → nat_le n greatest_span ≡ b → (if b then n else greatest_span) ≡ span
    by true e = sym same
    by false e = absurd (let large : greatest_span < n = grind (arith, nat_tests, e) in omega (arith, large, most, same))

within_size : (size n count : ℕ) → count ≤ size → count ≡ n → copies_within size n ≡ count
within_size size n count most same = by (nat_le n size) refl
  where
    by : (b : Bool) → nat_le n size ≡ b → (if b then n else size) ≡ count
    by true e = sym same
    by false e = absurd (let large : size < n = grind (arith, nat_tests, e) in omega (arith, large, most, same))

-- that of one that is admitted, by the session's volumes
pub mirror_room_by : (states : States) (blocks : ℕ) (name : List ℕ) (size : ℕ) (kind : Kind) (a : Admitted) → Admits states blocks name size kind a → room_by states (Mirror a.source.name a.source.snapshot name size kind) ≡ overhead a.span + a.count
unfolding room_with
mirror_room_by states blocks name size kind a is =
    let home = is.asked.source.home in
    let wide : wide_among states slots a.source.name size ≡ a.span =
    wide_there states home.slot a.source.name home.has size home.within ∙ ap (λ (o : Option VolumeState). wide_at o size) home.there ∙ within_span (span_of size 0 home.volume.span) a.span is.most is.span_is in
    let copied = copies_there states home.slot a.source.name home.has a.source.snapshot size home.within ∙ ap (λ (o : Option VolumeState). copies_at o a.source.snapshot size) home.there
    ∙ ap (λ (o : Option Snap). option_map_or (λ q. copies_within size (count_in home.volume q.slot)) o 0) is.asked.source.found ∙ within_size size (count_in home.volume is.asked.source.snap.slot) a.count is.fits is.count_is in
    let over : overhead (wide_among states slots a.source.name size) ≡ overhead a.span = ap overhead wide in
    omega (arith, over, copied)

-- it is never nothing
pub mirror_some : (states : States) (source snapshot name : List ℕ) (size : ℕ) (kind : Kind) → 0 < room_by states (Mirror source snapshot name size kind)
unfolding room_with
mirror_some states source snapshot name size kind = let some = own_room (wide_among states slots source size) in omega (arith, some)

-- what it asks for
mirror_asks : (d : Shown) (s : Session) → StandsReady d s → (name : List ℕ) (size : ℕ) (kind : Kind) (a : Admitted) → Admits s.volumes s.pool.found.blocks name size kind a
    → asked_by s.volumes (Mirror a.source.name a.source.snapshot name size kind) ≡ AsksCopies a.source.parent a.source.snapshot name size kind
unfolding asked_by
mirror_asks d s stands name size kind a is =
    let home = is.asked.source.home in
    let ready = subst (λ (o : Option VolumeState). IfSome o (IsReadyIn d s.pool home.slot)) home.there (stands.ready home.slot) in
    ap (λ (k : ℕ). AsksCopies k a.source.snapshot name size kind) (slot_there s.volumes home.slot a.source.name home.has home.within ∙ sym ready.slot ∙ sym (ap (λ (b : Base). b.parent) is.source_is))

none_some : (X : Type 0) (other : List ℕ) → ◌≡◌ {A = Option (List ℕ)} None (Some other) → X
none_some X other e = absurd (wrong e)
  where
    wrong : ◌≡◌ {A = Option (List ℕ)} None (Some other) → ⊥
    wrong e = cc

module _ (source snapshot name : List ℕ) (size : ℕ) (kind : Kind) where
  no_list : (X : Type 0) → Mirror source snapshot name size kind ≡ VolList → X
  no_list X e = absurd (wrong e)
    where
      wrong : Mirror source snapshot name size kind ≡ VolList → ⊥
      wrong e = cc

  no_point : (X : Type 0) → Mirror source snapshot name size kind ≡ Cp → X
  no_point X e = absurd (wrong e)
    where
      wrong : Mirror source snapshot name size kind ≡ Cp → ⊥
      wrong e = cc

  no_names : (X : Type 0) (v : List ℕ) → Mirror source snapshot name size kind ≡ SnapList v → X
  no_names X v e = absurd (wrong e)
    where
      wrong : Mirror source snapshot name size kind ≡ SnapList v → ⊥
      wrong e = cc

  no_removal : (X : Type 0) (v : List ℕ) → Mirror source snapshot name size kind ≡ VolDestroy v → X
  no_removal X v e = absurd (wrong e)
    where
      wrong : Mirror source snapshot name size kind ≡ VolDestroy v → ⊥
      wrong e = cc

  reads_none : reads_files (Mirror source snapshot name size kind) ≡ false
  unfolding reads_files
  reads_none = refl

module _ {D : Type 0} (shown : D → Shown) (laws : (x : D) → IsDisk (shown x)) (before : D) (s : Session) (fresh : IsNone s.failed) (stands : StandsReady (shown before) s) (long : length s.volumes ≡ 64) (name : List ℕ) (size : ℕ) (kind : Kind) (steps : ℕ) where
  -- ---- one that is refused

  module _ (source snapshot : List ℕ) (r : Refusal) (why : Refuses s.volumes s.pool.found.blocks source snapshot name size kind r) where
    refused_applied : HasApplied (Mirror source snapshot name size kind) (shown before) before s steps (shown before) before s steps (Ok (Refused r))
    unfolding is_built machine_after
    refused_applied = record {
      goes = rests_done (Refused r) (room_by s.volumes (Mirror source snapshot name size kind)) (shown before) s fresh stands;
      asks = λ none once. absurd (true≢false once);
      goes_for = λ tells last m is. refused_for (shown before) s last m (Mirror source snapshot name size kind) r (laws before) is (mirror_refused (shown before) s last m long is name size kind source snapshot r why);
      reply = λ tells last m is. refused_allows m (Mirror source snapshot name size kind) r (mirror_refused (shown before) s last m long is name size kind source snapshot r why);
      plain = λ plain. record {
        refused = λ refused. (refl, refl);
        calm = λ other once. absurd (true≢false once);
        idle = λ other once. absurd (true≢false once);
        map = λ other once. absurd (true≢false once);
        wanting = λ other once. absurd (true≢false once);
        damage = λ once. absurd (true≢false once);
        unbuilt = λ fresh none. absurd (true≢false none);
        listed = λ list. no_list source snapshot name size kind _ list;
        untouched = λ list. no_list source snapshot name size kind _ list;
        pointed = λ cp. no_point source snapshot name size kind _ cp;
        unpointed = λ cp. no_point source snapshot name size kind _ cp;
        managed = λ fresh other of stays. none_some _ other of;
        removed = λ fresh other its. no_removal source snapshot name size kind _ other its;
        snapped = λ fresh other of. none_some _ other of;
        snapshots = λ fresh other names. no_names source snapshot name size kind _ other names;
        made = why;
      };
      on_files = λ files. absurd (true≢false (sym files ∙ reads_none source snapshot name size kind));
      point = λ tells last m is cp. no_point source snapshot name size kind _ cp;
      sides = λ tells last m is cp. no_point source snapshot name size kind _ cp;
      roomy = λ once. refused_roomy (room_by s.volumes (Mirror source snapshot name size kind)) (shown before) s (shown before) r;
      calm = λ other once. absurd (true≢false once);
      entries = λ other once few stays. no_holes s s (kept_entries s s refl);
      files = λ tells none once. absurd (true≢false once);
      same = λ tells none once. absurd (true≢false once);
      stepped = λ takes. absurd (true≢false (sym takes));
      left = λ tells last m is bare why. left_same (shown before) s (shown before) s (reads_itself (shown before)) refl bare;
      steps = record { other = λ none. refl; known = λ tells last m is knows. no_step (Ok (Refused r)) steps; path = λ tells last m is other of. none_some _ other of; dead = λ failed. refl };
      numbers = λ alive. keeps_but _ s.volumes s.volumes (λ k known. known);
      dead = λ failed. refl;
    }

  -- ---- one that is admitted

  module _ (after : D) (n : Session) (result : Result Reply Fault) (a : Admitted) (admits : Admits s.volumes s.pool.found.blocks name size kind a)
      (made : MakesMirror shown (overhead a.span + a.count) a (λ m. next m (Mirror a.source.name a.source.snapshot name size kind)) before s after n result) (done : IfOk result (λ reply. reply ≡ Done)) where
    abbrev c : Command
    c = Mirror a.source.name a.source.snapshot name size kind

    abbrev room : ℕ
    room = overhead a.span + a.count

    abbrev asked : Asked
    asked = AsksCopies a.source.parent a.source.snapshot name size kind

    room_is : room_by s.volumes c ≡ room
    room_is = mirror_room_by s.volumes s.pool.found.blocks name size kind a admits

    low : IsWithinLimit s c → s.pending + room ≤ dirty_limit
    low few = ⊎_elim
        (λ (none : room_by s.volumes c ≡ 0). absurd (let some = mirror_some s.volumes a.source.name a.source.snapshot name size kind in omega (arith, some, none)))
        (λ (few : s.pending + room_by s.volumes c ≤ dirty_limit). omega (arith, few, room_is)) few

    done_of : (r : Result Reply Fault) → OnOk r (IsMirrorDone (shown before) s (shown after) n) → OnOk r (IsDone (shown before) s (shown after) n)
    done_of (Ok y) is = record { was = is.was; goes_on = is.goes_on; counts = is.counts; root = is.root }
    done_of (Err f) is = tt

    spared : SameCounts (shown before) (shown after) → WritesFree s.pool.map (shown before) (shown after) → Spares (λ b. IsFree s.pool.map b → ⊥) (shown before) (shown after) (Ok tt)
    spared counts free = record {
      counted = record {
        tells = free.ends.tells;
        given = free.ends.given;
        ends = free.ends.ends;
        cause = record { later = let same = counts.faults in omega (arith, same); calm = counts.faults; rose = tt };
        write_cause = record { later = let same = counts.write_faults in omega (arith, same); calm = counts.write_faults; rose = tt };
      };
      reads = free.reads;
      images = free.images;
      any_moment = free.any_moment;
    }

    wrote : SameCounts (shown before) (shown after) → WritesLittle room (shown before) s (shown after) → HasWritten room asked (shown before) s (shown after)
    wrote counts (inl reads) = inl reads
    wrote counts (inr (inl past)) = inr (inl past)
    wrote counts (inr (inr free)) = inr (inr (tt, spared counts free))

    damaged : (at want found : ℕ) → HasDamage room AsksNothing (shown before) s (shown after) n at want found → HasDamage room asked (shown before) s (shown after) n at want found
    damaged at want found is = damage_room asked room s (shown before) (shown after) n at want found is

    -- the copies can't be made
    bad : (d : Shown) (k : Session) → CanMake k.volumes k.pool.found.blocks name size kind a → (CanCopy d k.volumes k.pool a → ⊥) → HasBadCopies asked s d k
    bad d k still never = record { fresh = fresh; name = name; size = size; kind = kind; admitted = a; asks = refl; admits = admits; still = still; not = never }

    uncopied : (at want found : ℕ) → IsUncopied room (shown before) s a (shown after) n → HasDamage room asked (shown before) s (shown after) n at want found
    uncopied at want found (inl never) = inr (inr (inl (bad (shown before) s (can_make s.volumes s.pool.found.blocks name size kind a admits) never)))
    uncopied at want found (inr is) = inr (inr (inr (
      ((let some = own_room a.span in omega (arith, some)), is.past),
      record {
        left = is.left;
        bad = bad (shown after) n (mirrors_still s n is.left.cores is.left.blocks name size kind a (can_make s.volumes s.pool.found.blocks name size kind a admits)) is.not;
      },
    )))

    fault_of : (r : Result Reply Fault) → IfErr r (HasMirrorFault room a (shown before) s (shown after) n) → IfErr r (HasFault room asked (shown before) s (shown after) n)
    fault_of (Ok y) is = tt
    fault_of (Err DiskFault) row = row
    fault_of (Err (Damaged at want found)) row = record { reason = ⊎_elim (damaged at want found) (uncopied at want found) row.reason; counts = row.counts; session = row.session; disk = wrote row.counts row.disk }
    fault_of (Err Memory) row = record { reason = row.reason; counts = row.counts; session = row.session; disk = wrote row.counts row.disk }
    fault_of (Err (Failed faults)) row = absurd row

    goes_so : Goes room asked (shown before) s (shown after) n result
    goes_so = record { ends = made.ends; stands = made.stands; done = done_of result made.done; fault = fault_of result made.fault; pending = made.pending }

    admitted_applied : HasApplied c (shown before) before s steps (shown after) after n steps result
    unfolding is_built machine_after
    admitted_applied = record {
      goes = subst (λ (k : ℕ). Goes k (asked_by s.volumes c) (shown before) s (shown after) n result) (sym room_is)
          (subst (λ (k : Asked). Goes room k (shown before) s (shown after) n result) (sym (mirror_asks (shown before) s stands name size kind a admits)) goes_so);
      asks = λ none once. absurd (true≢false once);
      goes_for = made.goes_for;
      reply = λ tells last m is. done_allowed m c refl (mirror_done m a.source.name a.source.snapshot name size kind) (mirror_accepted (shown before) s last m long is name size kind a admits) result done;
      plain = λ plain. record {
        refused = not_refused _ result done;
        calm = λ other once. absurd (true≢false once);
        idle = λ other once. absurd (true≢false once);
        map = λ other once. absurd (true≢false once);
        wanting = λ other once. absurd (true≢false once);
        damage = λ once. absurd (true≢false once);
        unbuilt = λ fresh none. absurd (true≢false none);
        listed = λ list. no_list a.source.name a.source.snapshot name size kind _ list;
        untouched = λ list. no_list a.source.name a.source.snapshot name size kind _ list;
        pointed = λ cp. no_point a.source.name a.source.snapshot name size kind _ cp;
        unpointed = λ cp. no_point a.source.name a.source.snapshot name size kind _ cp;
        managed = λ fresh other of stays. none_some _ other of;
        removed = λ fresh other its. no_removal a.source.name a.source.snapshot name size kind _ other its;
        snapped = λ fresh other of. none_some _ other of;
        snapshots = λ fresh other names. no_names a.source.name a.source.snapshot name size kind _ other names;
        made = done_decided (Refuses s.volumes s.pool.found.blocks a.source.name a.source.snapshot name size kind) (CanMirror s.volumes s.pool.found.blocks a.source.name a.source.snapshot name size kind)
            (record { admitted = a; admits = admits; named = record { parent_is = refl; snapshot_is = refl } }) result done;
      };
      on_files = λ files. absurd (true≢false (sym files ∙ reads_none a.source.name a.source.snapshot name size kind));
      point = λ tells last m is cp. no_point a.source.name a.source.snapshot name size kind _ cp;
      sides = λ tells last m is cp. no_point a.source.name a.source.snapshot name size kind _ cp;
      roomy = λ once. subst (λ (k : ℕ). MakesRoom k (shown before) s (shown after) result) (sym room_is) made.roomy;
      calm = λ other once. absurd (true≢false once);
      entries = λ other once few stays. made.entries (low few);
      files = λ tells none once. absurd (true≢false once);
      same = λ tells none once. absurd (true≢false once);
      stepped = λ takes. absurd (true≢false (sym takes));
      left = λ tells last m is bare. left_refused c (shown before) s (shown after) n refl result (not_refused _ result done);
      steps = record { other = λ none. refl; known = λ tells last m is knows. no_step result steps; path = λ tells last m is other of. none_some _ other of; dead = λ failed. refl };
      numbers = λ alive. keeps_but _ s.volumes n.volumes (made.numbers alive);
      dead = λ failed. not_dead _ s fresh failed;
    }

  -- ---- both

  module _ (source snapshot : List ℕ) (after : D) (n : Session) (result : Result Reply Fault) where
    left : RefusesMirror source snapshot name size kind before s after n result → HasApplied (Mirror source snapshot name size kind) (shown before) before s steps (shown after) after n steps result
    left is = subst (HasApplied (Mirror source snapshot name size kind) (shown before) before s steps (shown after) after n steps) (sym is.is)
        (subst (λ (k : Session). HasApplied (Mirror source snapshot name size kind) (shown before) before s steps (shown after) after k steps (Ok (Refused is.refusal))) (sym is.session)
        (subst (λ (x : D). HasApplied (Mirror source snapshot name size kind) (shown before) before s steps (shown x) x s steps (Ok (Refused is.refusal))) (sym is.disk) (refused_applied source snapshot is.refusal is.why)))

    taken : TakesMirror shown source snapshot name size kind before s after n result → HasApplied (Mirror source snapshot name size kind) (shown before) before s steps (shown after) after n steps result
    taken is = subst (λ (v : List ℕ). HasApplied (Mirror v snapshot name size kind) (shown before) before s steps (shown after) after n steps result) is.named.parent_is
        (subst (λ (v : List ℕ). HasApplied (Mirror is.admitted.source.name v name size kind) (shown before) before s steps (shown after) after n steps result) is.named.snapshot_is
        (admitted_applied after n result is.admitted is.admits is.made is.reply))

    pub mirror_applied : Mirrors shown source snapshot name size kind before s after n result → HasApplied (Mirror source snapshot name size kind) (shown before) before s steps (shown after) after n steps result
    mirror_applied does = ⊎_elim left taken does
