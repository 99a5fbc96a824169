-- A command on snapshots with the point that its room asks for: it is judged, room is made, and it is carried out.
use Rattle.std.proofs.Common.{◌≡◌, ◌≢◌, ◌<◌, ◌≤◌, ◌+◌, ◌-◌, ℕ, true, false, List, [], ◌∷◌, length, map, Option, Some, None, Result, Ok, Err, inl, inr, true≢false, refl, sym, ap, subst, ◌∙◌, arith}
use Rattle.std.specs.Prelude.{IfErr, IfOk, IsNone, IsTrue, OnOk}
use Rattle.std.specs.Option.{option_map}
use Rattle.fv_disk.specs.Shown.{Shown}
use Rattle.fv_model.specs.declared.answers.Refusal.{Refusal}
use Rattle.fv_model.specs.declared.answers.Reply.{Reply}
use Rattle.fv_model.specs.declared.commands.Command.{Command}
use Rattle.fv_model.specs.declared.commands.Command.TheVariants.{SnapCreate}
use Rattle.fv_model.specs.Machines.{Machine}
use Rattle.fv_model.specs.Refusals.{next, refusal}
use Rattle.fv_model.specs.Space.{map_blocks}
use Rattle.fv_image.specs.ReachRules.{are_distinct}
use Rattle.fv_volume.specs.declared.state.Snap.{Snap}
use Rattle.fv_volume.specs.declared.state.VolumeState.{VolumeState}
use Rattle.fv_volume.specs.Held.{IsHeldIn}
use Rattle.fv_volume.specs.Calls.{HasBeside}
use Rattle.fv_volume.specs.OneVolume.{blocks_in, table_for, volume_for}
use Rattle.fv_volume.specs.Promising.{CanHave}
use Rattle.fv_volume.specs.Slots.{is_named, HasName}
use Rattle.fv_volume.specs.States.{snaps_in, state_at, States}
use Rattle.fv_cp.specs.Held.{machine_held}
use Rattle.fv_cp.specs.Placing.{core_of, KeepCores}
use Rattle.fv_volume.specs.Asking.{snap_named}
use Rattle.fv_volume.specs.Snapshots.{IsLeastFree}
use Rattle.fv_snapshot.specs.declared.creating.Granted.{Granted}
use Rattle.fv_snapshot.specs.Creating.{content_by, creation_refusal, IsGranted}
use Rattle.fv_aggregate.specs.declared.fault.Fault.{Fault}
use Rattle.fv_aggregate.specs.declared.fault.Fault.TheVariants.{Damaged, Memory}
use Rattle.fv_aggregate.specs.declared.session.Session.{Session}
use Rattle.fv_aggregate.specs.Adding.{IsPointed}
use Rattle.fv_aggregate.specs.Calls.{Goes, GoesFor, HasDamage, IsForWant, IsWithinLimit, KeepsRoot}
use Rattle.fv_aggregate.specs.Commands.{asked_by, AsksNothing, dirty_limit, is_refusal, loses_numbers, places_files, room_by, snapped_by}
use Rattle.fv_aggregate.specs.Known.{KeepsNumbers}
use Rattle.fv_aggregate.specs.Looking.{HasSnapped, IsSnapAimed}
use Rattle.fv_aggregate.specs.Snapping.{nothing, snap_blocks, HasGrant, HasSlot, IsAccepted, JudgesSnap}
use Rattle.fv_aggregate.specs.Standing.{StandsFor}
use Rattle.fv_aggregate.proofs.CallEnds.{fails_early, goes_after, goes_for_after}
use Rattle.fv_aggregate.proofs.Calls.{goes_as}
use Rattle.fv_aggregate.proofs.Changed.{beside, has_within, mine}
use Rattle.fv_aggregate.proofs.Commits.{commits_kept, commits_still}
use Rattle.fv_aggregate.proofs.Damages.{damage_room}
use Rattle.fv_aggregate.proofs.Roots.{found_read, keeps_earlier}
use Rattle.fv_aggregate.proofs.Keeping.{keeps_but}
use Rattle.fv_aggregate.proofs.SnapCommands.{aimed_room, snap_cases}
use Rattle.fv_aggregate.proofs.SnapDone.{IsCarried}

same_names : (a b : List ℕ) → ◌≡◌ {A = Option (List ℕ)} (Some a) (Some b) → a ≡ b
same_names a b e = cc

-- ---- what is judged

-- what was granted to a command that isn't refused
module _ (x : VolumeState) (blocks others : ℕ) (granted : Granted) where
  abbrev HasBeen : Command → Type 0
  HasBeen c = JudgesSnap x blocks others c (Ok granted) → HasGrant (Some x) blocks others c granted

  same_grant : (a b : Granted) → ◌≡◌ {A = Result Granted Refusal} (Ok a) (Ok b) → a ≡ b
  same_grant a b e = cc

  pub grant_given : (v : List ℕ) (c : Command) → snapped_by c ≡ Some v → HasBeen c
  grant_given v c of = snap_cases HasBeen
      (λ w name is. record { room = is.1; accepted = sym is.0.same; slot = record { free = is.0.slot; none = is.0.none; fits = is.0.fits } })
      (λ w name is. record { room = ap (λ (g : Granted). g.room) (same_grant granted nothing is); accepted = tt; slot = tt })
      (λ w name is. record { room = ap (λ (g : Granted). g.room) (same_grant granted nothing is); accepted = tt; slot = tt })
      v c of

-- the names of the snapshots differ in its head, too
named_alike : (snaps : List Snap) → map (λ p. p.name) (snaps_in snaps) ≡ map (λ q. q.name) snaps
named_alike [] = refl
named_alike (q ∷ qs) = ap (λ (ns : List (List ℕ)). q.name ∷ ns) (named_alike qs)

-- one that is refused is refused by the machine
module _ (d : Shown) (s : Session) (long : length s.volumes ≡ 64) (slot : ℕ) (x : VolumeState) (there : state_at s.volumes slot ≡ Some x) (others : ℕ) (others_are : others ≡ beside s.volumes slot) (r : Refusal) where
  abbrev IsRefused : Command → Type 0
  IsRefused c = snapped_by c ≡ Some x.name → JudgesSnap x s.pool.found.blocks others c (Err r) → (last m : Machine) → StandsFor d s last m → refusal m c ≡ Some r

  never : ◌≡◌ {A = Result Granted Refusal} (Err r) (Ok nothing) → ⊥
  never e = cc

  refused_create : (v name : List ℕ) → IsRefused (SnapCreate v name)
  refused_create v name of is last m stands =
      let own : IsHeldIn d s.pool slot x = mine d s.pool s.volumes long last stands.held slot x there in
      let can : CanHave x (content_by (table_for d s.pool x) (blocks_in d s.pool x) x) = record { reserves = own.stands.reserves; ledger = own.stands.ledger } in
      let has = has_within d s.pool s.volumes long last stands.held slot x there in
      let distinct : are_distinct (map (λ p. p.name) (snaps_in x.snapshots)) ≡ true = ap (λ (ns : List (List ℕ)). are_distinct ns) (named_alike x.snapshots) ∙ own.stands.names in
      let judged = is.0.agrees (table_for d s.pool x) (blocks_in d s.pool x) _ can distinct (subst (λ (n : ℕ). HasBeside x.name (volume_for d s.pool x) n s.pool.found.blocks (machine_held d s.pool s.volumes)) (sym others_are) has.beside) in
      ap (λ (n : List ℕ). refusal m (SnapCreate n name)) (same_names v x.name of) ∙ sym (ap (λ (k : Machine). refusal k (SnapCreate x.name name)) stands.machine) ∙ judged

  pub refused_given : (c : Command) → snapped_by c ≡ Some x.name → JudgesSnap x s.pool.found.blocks others c (Err r) → (last m : Machine) → StandsFor d s last m → refusal m c ≡ Some r
  refused_given c of = snap_cases IsRefused refused_create (λ w name of is. absurd (never is)) (λ w name of is. absurd (never is)) x.name c of of

-- ---- after a point

-- what stays of the volume of a slot
module _ (states stay : States) (cores : KeepCores states stay) (slot : ℕ) where
  none_some : (x : VolumeState) → ◌≡◌ {A = Option VolumeState} None (Some x) → ⊥
  none_some x e = cc

  same_some : (a b : VolumeState) → ◌≡◌ {A = Option VolumeState} (Some a) (Some b) → a ≡ b
  same_some a b e = cc

  -- the volume is there still, and its core is the same
  pub still_there : (x : VolumeState) → state_at states slot ≡ Some x → (y : VolumeState) × ((state_at stay slot ≡ Some y) × (core_of y ≡ core_of x))
  still_there x there = by (state_at stay slot) refl (cores slot ∙ ap (option_map core_of) there)
    where
      by : (o : Option VolumeState) → state_at stay slot ≡ o → option_map core_of o ≡ Some (core_of x) → (y : VolumeState) × ((state_at stay slot ≡ Some y) × (core_of y ≡ core_of x))
      by None at is = absurd (none_some (core_of x) is)
      by (Some y) at is = (y, (at, same_some (core_of y) (core_of x) is))

  -- the names are the same
  still_named : (name : List ℕ) (k : ℕ) → is_named (state_at stay k) name ≡ is_named (state_at states k) name
  still_named name k = sym (by (state_at stay k)) ∙ ap (λ (o : Option VolumeState). is_named o name) (cores k) ∙ by (state_at states k)
    where
      by : (o : Option VolumeState) → is_named (option_map core_of o) name ≡ is_named o name
      by None = refl
      by (Some x) = refl

  -- the command is aimed at the volume of the slot still
  pub still_snap_aimed : (c : Command) → IsSnapAimed states slot c → IsSnapAimed stay slot c
  still_snap_aimed c aimed =
      let now = still_there aimed.state aimed.there in
      let name = aimed.state.name in
      let same : name ≡ now.0.name = sym (ap (λ (z : VolumeState). z.name) now.1.1) in
      record {
        within = aimed.within;
        state = now.0;
        there = now.1.0;
        named = subst (HasName stay slot) same (record { named = still_named name slot ∙ aimed.named.named; first = λ k before. still_named name k ∙ aimed.named.first k before });
        snaps = aimed.snaps ∙ ap (λ (n : List ℕ). Some n) same;
      }

  -- the others commit what they committed
  pub still_beside : beside stay slot ≡ beside states slot
  still_beside = λ j. commits_kept states stay cores j - commits_still states stay cores slot j

  -- its room is the same, and what was accepted is so
  pub still_room : (c : Command) → IsSnapAimed states slot c → snap_blocks (state_at stay slot) c ≡ snap_blocks (state_at states slot) c
  still_room c aimed =
      let now = still_there aimed.state aimed.there in
      let same : snap_blocks (Some now.0) c ≡ snap_blocks (Some aimed.state) c = snap_cases (λ (k : Command). snap_blocks (Some now.0) k ≡ snap_blocks (Some aimed.state) k) (λ w name. ap (λ (z : VolumeState). map_blocks z.span) now.1.1) (λ w name. refl) (λ w name. refl) aimed.state.name c aimed.snaps in
      ap (λ (o : Option VolumeState). snap_blocks o c) now.1.0 ∙ same ∙ sym (ap (λ (o : Option VolumeState). snap_blocks o c) aimed.there)

  pub still_room_by : (c : Command) → IsSnapAimed states slot c → room_by stay c ≡ room_by states c
  still_room_by c aimed = sym (aimed_room stay slot c (still_snap_aimed c aimed)) ∙ still_room c aimed ∙ aimed_room states slot c aimed

  pub still_accepted : (blocks left others : ℕ) → left ≡ blocks → (c : Command) → IsSnapAimed states slot c → IsAccepted (state_at states slot) blocks others c → IsAccepted (state_at stay slot) left others c
  still_accepted blocks left others same c aimed is =
      let now = still_there aimed.state aimed.there in
      let first : IsAccepted (Some aimed.state) left others c = subst (λ (n : ℕ). IsAccepted (Some aimed.state) n others c) (sym same) (subst (λ (o : Option VolumeState). IsAccepted o blocks others c) aimed.there is) in
      subst (λ (o : Option VolumeState). IsAccepted o left others c) (sym now.1.0) (snap_cases (λ (k : Command). IsAccepted (Some aimed.state) left others k → IsAccepted (Some now.0) left others k)
      (λ w name is. (λ j. accepted_by left others name (now.1.1 j)) ∙ is) (λ w name is. tt) (λ w name is. tt) aimed.state.name c aimed.snaps first)
    where
      accepted_by : ℕ → ℕ → List ℕ → VolumeState → Option Refusal
      accepted_by left others name z = creation_refusal z.snapshots z.ledger left others name

  -- so what was granted to it stands
  pub still_granted : (blocks left others : ℕ) → left ≡ blocks → (c : Command) → IsSnapAimed states slot c → (granted : Granted) → HasGrant (state_at states slot) blocks others c granted → HasGrant (state_at stay slot) left others c granted
  still_granted blocks left others same c aimed granted is =
      let now = still_there aimed.state aimed.there in
      let first : HasSlot (Some aimed.state) c granted.slot = subst (λ (o : Option VolumeState). HasSlot o c granted.slot) aimed.there is.slot in
      record {
        room = is.room ∙ sym (still_room c aimed);
        accepted = still_accepted blocks left others same c aimed is.accepted;
        slot = subst (λ (o : Option VolumeState). HasSlot o c granted.slot) (sym now.1.0) (snap_cases (λ (k : Command). HasSlot (Some aimed.state) k granted.slot → HasSlot (Some now.0) k granted.slot)
            (λ w name has. core_granted name granted.slot now.0 aimed.state now.1.1 has) (λ w name has. tt) (λ w name has. tt) aimed.state.name c aimed.snaps first);
      }
    where
      -- what is granted rests on the core of a volume
      core_granted : (name : List ℕ) (k : ℕ) (y x : VolumeState) → core_of y ≡ core_of x → IsGranted x name k → IsGranted y name k
      core_granted name k y x same has = record {
        free = subst (λ (z : VolumeState). IsLeastFree z.snapshots k) (sym same) has.free;
        none = subst (λ (z : VolumeState). snap_named z.snapshots name ≡ None) (sym same) has.none;
        fits = subst (λ (z : VolumeState). z.ledger.charge + map_blocks z.span ≤ z.size) (sym same) has.fits;
      }

-- what isn't refused holds nothing of a refusal
never_refused : (X : Type 0) (result : Result Reply Fault) → IfOk result (λ reply. is_refusal reply ≡ false) → IfOk result (λ reply. IsTrue (is_refusal reply) → X)
never_refused X (Ok reply) isnt = λ refused. absurd (true≢false (sym refused ∙ isnt))
never_refused X (Err f) isnt = tt

wants_memory : (d : Shown) (s : Session) (e : Shown) (n : Session) (result : Result Reply Fault) → IfErr result (λ f. f ≡ Memory) → IfErr result (IsForWant d s e n)
wants_memory d s e n (Ok reply) is = tt
wants_memory d s e n (Err f) is = subst (IsForWant d s e n) (sym is) tt

-- where there is room to be made a snapshot is made
pub room_places : (x : VolumeState) (v : List ℕ) (c : Command) → snapped_by c ≡ Some v → snap_blocks (Some x) c ≢ 0 → (places_files c ≡ true) × (loses_numbers c ≡ None)
room_places x v c of = snap_cases (λ (k : Command). snap_blocks (Some x) k ≢ 0 → (places_files k ≡ true) × (loses_numbers k ≡ None)) (λ w name some. (refl, refl)) (λ w name some. absurd (some refl)) (λ w name some. absurd (some refl)) v c of

-- room was made, or not
module _ {D : Type 0} (d : Shown) (disk : D) (s : Session) (c : Command) (room : ℕ) (past : dirty_limit < s.pending + room) (some : room ≢ 0) (exact : room ≡ room_by s.volumes c) (makes : (places_files c ≡ true) × (loses_numbers c ≡ None))
    (e : Shown) (mid : D) (n : Session) where
  never_calm : {X : Type 0} → IsWithinLimit s c → X
  never_calm (inl none) = absurd (some (omega (arith, none, exact)))
  never_calm (inr low) = absurd (omega (arith, low, past, exact))

  places : {X : Type 0} → places_files c ≡ false → X
  places none = absurd (true≢false (sym makes.0 ∙ none))

  pub snap_roomless : (f : Fault) → Goes {T = Unit {0}} room AsksNothing d s e n (Err f) → (IsTrue d.tells → (last m : Machine) → StandsFor d s last m → GoesFor {T = Unit {0}} d last m m e n (Err f)) → IsForWant d s e n f
      → (IsNone n.failed → KeepsNumbers s.volumes n.volumes) → HasSnapped d disk s c e mid n (Err f)
  snap_roomless f goes goes_for wants numbers = record {
    makes = record {
      goes = goes_as room (room_by s.volumes c) AsksNothing (asked_by s.volumes c) (omega (arith, exact)) (λ none. absurd none) d s e n (Err f) (Err f) refl
          (λ at want found is. damage_room (asked_by s.volumes c) (room_by s.volumes c) s d e n at want found (subst (λ (k : ℕ). HasDamage k AsksNothing d s e n at want found) exact is)) goes;
      goes_for = λ tells last m is. fails_early d last m (next m c) e n f (goes_for tells last m is);
      reply = λ tells last m is. tt;
      refused = λ tells last m is. tt;
      still = λ low. tt;
      calm = λ low. absurd (omega (arith, low, past, exact));
      entries = λ low. never_calm low;
    };
    damage = wants;
    refused = tt;
    calm = λ none few. never_calm few;
    only_reads = λ few. never_calm few;
    idle = λ none few. never_calm few;
    map = λ none. places none;
    sure = λ none. places none;
    files = λ tells without. tt;
    same = λ tells which same. tt;
    numbers = λ alive. keeps_but _ s.volumes n.volumes (numbers alive);
  }

  module _ (u : Unit {0}) (still : room_by n.volumes c ≡ room_by s.volumes c) (goes : Goes room AsksNothing d s e n (Ok u)) (less : n.pending ≤ s.pending) (goes_for : IsTrue d.tells → (last m : Machine) → StandsFor d s last m → GoesFor d last m m e n (Ok u)) (pointed : IsPointed d s n)
      (numbers : IsNone n.failed → KeepsNumbers s.volumes n.volumes) (f : Shown) (left : D) (new : Session) (result : Result Reply Fault) (carried : IsCarried e mid n c room f left new result) where
    told : IsTrue d.tells → IsTrue e.tells
    told tells = subst IsTrue (sym goes.ends.tells) tells

    wants_none : (at want found : ℕ) → Damaged at want found ≡ Memory → ⊥
    wants_none at want found is = cc

    nothing_lost : (name : List ℕ) → loses_numbers c ≡ Some name → ⊥
    nothing_lost name is = none name (sym makes.1 ∙ is)
      where
        none : (name : List ℕ) → ◌≡◌ {A = Option (List ℕ)} None (Some name) → ⊥
        none name e = cc

    -- the point was the only one
    root_carried : (r : Result Reply Fault) → Goes (room_by n.volumes c) (asked_by n.volumes c) e n f new r → OnOk r (IsTrue d.tells → KeepsRoot s new)
    root_carried (Ok y) next = λ tells. keeps_earlier s n new (goes.done.root tells) (found_read e f n new carried.only_reads (told tells) (goes.stands goes.done.goes_on) (next.stands next.done.goes_on))
    root_carried (Err x) next = tt

    pub snap_roomy : HasSnapped d disk s c f left new result
    snap_roomy = record {
      makes = record {
        goes = goes_after u room (room_by s.volumes c) d s e n goes less (asked_by n.volumes c) (asked_by s.volumes c) f new result (omega (arith, past, exact)) (λ at want found is damage. absurd (wants_none at want found (subst (λ (r : Result Reply Fault). IfErr r (λ f. f ≡ Memory)) is (carried.placed pointed.none)))) (root_carried result carried.snapped.makes.goes) (subst (λ (k : ℕ). Goes k (asked_by n.volumes c) e n f new result) still carried.snapped.makes.goes);
        goes_for = λ tells last m is.
            let first = goes_for tells last m is in
            goes_for_after u d e f n new last m (next m c) first goes.ends.given result (carried.snapped.makes.goes_for (told tells) first.done.point m first.done.stands);
        reply = λ tells last m is. let first = goes_for tells last m is in carried.snapped.makes.reply (told tells) first.done.point m first.done.stands;
        refused = λ tells last m is. never_refused _ result (carried.accepted some);
        still = λ low. never_calm low;
        calm = λ low. absurd (omega (arith, low, past, exact));
        entries = λ low. never_calm low;
      };
      damage = wants_memory d s f new result (carried.placed pointed.none);
      refused = never_refused _ result (carried.accepted some);
      calm = λ none few. never_calm few;
      only_reads = λ few. never_calm few;
      idle = λ none few. never_calm few;
      map = λ none. places none;
      sure = λ none. places none;
      files = λ tells without. carried.snapped.files (told tells) (pointed.files tells);
      same = λ tells which same. carried.snapped.same (told tells) (inr (pointed.files tells)) (pointed.same tells);
      numbers = λ alive k known stays. carried.snapped.numbers alive k (numbers goes.done.goes_on k known) (λ lost. nothing_lost lost.0 lost.1.0);
    }
