-- What a session on a disk stands for, and that it goes on doing so while the disk rests.
use Rattle.std.proofs.Common.{◌≡◌, ◌⊎◌, ◌<◌, ◌≤◌, inl, inr, ⊎_elim, ℕ, suc, zero, true, false, refl, sym, ap, subst, ◌∙◌, arith}
use Rattle.std.specs.Prelude.{◌++◌, List, length, Some, None, Option, Result, Ok, Err, IsNone, IsOk, IsErr, IsTrue}
use Rattle.fv_disk.specs.Shown.{Image, Shown}
use Rattle.fv_disk.specs.DiskCalls.{Stays}
use Rattle.fv_disk.specs.HostCalls.{Rests}
use Rattle.fv_codec.specs.declared.shape.Shape.{Shape}
use Rattle.fv_codec.specs.declared.superblock.Super.{Super}
use Rattle.fv_codec.specs.declared.root.Root.{Root}
use Rattle.fv_codec.specs.Blocks.{super_at, gate_open}
use Rattle.fv_model.specs.Machines.{Machine}
use Rattle.fv_model.specs.Runs.{Line, whole}
use Rattle.fv_image.specs.Layout.{superblock, gate_place}
use Rattle.fv_image.specs.NewerRoot.{behind, newer, taken_of, root_of}
use Rattle.fv_image.specs.Held.{Layout, layout_at}
use Rattle.fv_image.specs.WholeMachine.{Tells, machine_of}
use Rattle.fv_image.proofs.SoundTests.{machine_told, machine_under}
use Rattle.fv_root.specs.Commits.{IsFoundOn}
use Rattle.fv_run.proofs.Resting.{all_ready_still, held_still, machine_rests}
use Rattle.fv_root.specs.declared.find.Found.{Found}
use Rattle.fv_root.specs.Finding.{IsDamaged, IsFound, IsNoAggregate, root_found}
use Rattle.fv_aggregate.specs.declared.fault.OpenFault.TheVariants.{Damaged}
use Rattle.fv_aggregate.specs.declared.session.Session.{Session}
use Rattle.fv_aggregate.specs.declared.fault.Fault.TheVariants as session_fault
use Rattle.fv_aggregate.specs.Standing.{taken_since, StandsAfter, StandsFor, StandsReady}
use Rattle.fv_aggregate.specs.Asking.{AsksWithin, IsShort}
use Rattle.fv_aggregate.specs.Calls.{LacksBlocks, HasFilesToPlace, HasLostLeaf}
use Rattle.fv_aggregate.specs.Commands.{Asked, AsksPoint}
use Rattle.fv_aggregate.specs.Damages.{HasDamage}
use Rattle.fv_aggregate.specs.Reading.{IsAsRead}
use Rattle.fv_aggregate.specs.Calls as calls
use Rattle.fv_aggregate.specs.Causes.{IsOpenFault, IsUnder}
use Rattle.fv_aggregate.proofs.Clear.{none_taken}
use Rattle.fv_run.specs.Promises.{line_at}
use Rattle.fv_run.specs.Running.{IsHurt, IsHurtBehind, IsHurtIn, IsLeafLost, only_asks, UndergoesLines}
use Rattle.fv_run.specs.Answering.{IsHurtBy, IsHurtLine, LacksSpace, LosesLeaf}
use Rattle.fv_run.proofs.Copies.{bad_copies}

abbrev nothing_behind : Option (Result Root Shape)
nothing_behind = None

-- each image that a crash now may leave stands for the machine of the last consistency point, as what reads give
pub images_stand : (disk : Shown) (session : Session) (last m : Machine) → StandsFor disk session last m → (c : Image) → disk.images c → machine_of c ≡ Some last
images_stand disk session last m stands c now =
    let keeps = stands.held.keeps c now in
    machine_under c (root_found session.pool.found) keeps.root ∙ machine_told (layout_at (root_found session.pool.found) c) last (subst (λ (y : Layout). Tells y last) (sym keeps.layout) stands.held.tells)

pub reads_stand : (disk : Shown) (session : Session) (last m : Machine) → StandsFor disk session last m → machine_of disk.reads ≡ Some last
reads_stand disk session last m stands = machine_under disk.reads (root_found session.pool.found) stands.held.found.reads.root ∙ machine_told (layout_at (root_found session.pool.found) disk.reads) last stands.held.tells

-- where reads give what they gave, the last point is the one that it was
pub point_stays : (old new : Shown) (session next : Session) (last m before now : Machine) → new.reads ≡ old.reads → StandsFor old session last m → (stands : StandsAfter new next last before now) → stands.point ≡ last
point_stays old new session next last m before now same stood stands =
    let is : Some stands.point ≡ Some last = sym (reads_stand new next stands.point now stands.stands) ∙ ap machine_of same ∙ reads_stand old session last m stood in
    inside stands.point last is
  where
    inside : (a b : Machine) → Some a ≡ Some b → a ≡ b
    inside a b e = cc

found_still : (old new : Shown) (found : Found) → Rests old new → IsFoundOn old found → IsFoundOn new found
found_still old new found rests on = record { reads = rw rests.stays.reads on.reads; images = λ c now. on.images c (rests.stays.no_more c now) }

pub rests_standing : (old new : Shown) (session : Session) → Rests old new → StandsReady old session → StandsReady new session
rests_standing old new session rests stands = record {
  stands = record {
    found = λ tells. found_still old new session.pool.found rests (stands.stands.found (rw (← rests.stays.tells) tells));
    map = λ tells. rw rests.stays.reads (stands.stands.map (rw (← rests.stays.tells) tells));
    cache = record { same = λ tells pvbn block has. rw rests.stays.reads (stands.stands.cache.same (rw (← rests.stays.tells) tells) pvbn block has) };
  };
  ready = all_ready_still old new rests.stays session.pool session.volumes stands.ready;
}

pub rests_asking : (old new : Shown) (session : Session) (room : ℕ) → Rests old new → AsksWithin old session room → AsksWithin new session room
rests_asking old new session room rests asks = record { asked = rw rests.stays.reads asks.asked; pending = asks.pending }

pub stays_standing_for : (old new : Shown) (session : Session) (last m : Machine) → Stays old new → StandsFor old session last m → StandsFor new session last m
stays_standing_for old new session last m stays stands = record {
  held = held_still old new stays session.pool session.volumes last stands.held;
  machine = machine_rests old new stays session.pool session.volumes ∙ stands.machine;
  settled = λ c now a. rw stays.reads (stands.settled c (stays.no_more c now) a);
  delays = rw stays.reads stands.delays;
  pending = rw stays.reads stands.pending;
  files = stands.files;
  few = stands.few;
  free = stands.free;
  room = rw stays.reads stands.room;
}

pub rests_standing_for : (old new : Shown) (session : Session) (last m : Machine) → Rests old new → StandsFor old session last m → StandsFor new session last m
rests_standing_for old new session last m rests stands = stays_standing_for old new session last m rests.stays stands

pub never_failed : (failed : Option ℕ) (faults : ℕ) → IsNone failed → failed ≡ Some faults → ⊥
never_failed None faults none some = cc
never_failed (Some x) faults none some = differ none
  where
    differ : true ≡ false → ⊥
    differ e = cc

-- ---- images that are no aggregate

pub no_root : (i : Image) → IsNoAggregate i → root_of i ≡ None
unfolding root_of
no_root i none = ⊎_elim
    (λ bad. no_super (super_at (i superblock)) (newer (behind i 0) (behind i 1)) bad)
    (λ (shut : (gate_open (i (gate_place 0)) ≡ false) × (gate_open (i (gate_place 1)) ≡ false)). rw (shut.0, shut.1) (no_chosen (super_at (i superblock))))
    none
  where
    no_super : (s : Result Super Shape) (chosen : Option (ℕ × Root)) → IsErr s → taken_of s chosen ≡ None
    no_super (Err e) chosen is = refl
    no_super (Ok s) chosen is = absurd (differ is)
      where
        differ : false ≡ true → ⊥
        differ e = cc

    no_chosen : (s : Result Super Shape) → taken_of s None ≡ None
    no_chosen (Err e) = refl
    no_chosen (Ok s) = refl

-- a root that counts is found in an aggregate alone
pub not_found : (i : Image) (found : Found) → IsNoAggregate i → IsFound i found → ⊥
not_found i found none is = differ (sym (no_root i none) ∙ is.root)
  where
    differ : None ≡ Some (root_found found) → ⊥
    differ e = cc

pub not_opened : (disk : Shown) (session : Session) → IsTrue disk.tells → StandsReady disk session → IsNoAggregate disk.reads → ⊥
not_opened disk session tells stands none = not_found disk.reads session.pool.found none (stands.stands.found tells).reads

not_behind : (i : Image) (at want number : ℕ) → IsNoAggregate i → IsDamaged i at want number → ⊥
not_behind i at want number none is = ⊎_elim
    (λ bad. both (super_at (i superblock)) bad is.super)
    (λ (shut : (gate_open (i (gate_place 0)) ≡ false) × (gate_open (i (gate_place 1)) ≡ false)). shut_slot is.slot is.within shut is.fault)
    none
  where
    both : (s : Result Super Shape) → IsErr s → IsOk s → ⊥
    both (Ok s) bad good = differ bad
      where
        differ : false ≡ true → ⊥
        differ e = cc
    both (Err e) bad good = differ good
      where
        differ : false ≡ true → ⊥
        differ e = cc

    shut_slot : (slot : ℕ) → slot < 2 → (gate_open (i (gate_place 0)) ≡ false) × (gate_open (i (gate_place 1)) ≡ false) → behind i slot ≡ Some (Err (record { want = want; found = number })) → ⊥
    shut_slot zero below shut fault = nothing (rw shut.0 at fault)
      where
        nothing : nothing_behind ≡ Some (Err (record { want = want; found = number })) → ⊥
        nothing e = cc
    shut_slot (suc zero) below shut fault = nothing (rw shut.1 at fault)
      where
        nothing : nothing_behind ≡ Some (Err (record { want = want; found = number })) → ⊥
        nothing e = cc
    shut_slot (suc (suc n)) below shut fault = omega arith

pub not_damaged : (i : Image) (at want number : ℕ) → IsNoAggregate i → IsOpenFault i (Damaged at want number) → ⊥
not_damaged i at want number none fault = ⊎_elim
    (λ (is : IsDamaged i at want number). not_behind i at want number none is)
    (λ (is : IsUnder i at want number). not_found i is.root none is.found)
    fault

-- ---- calls that met damage

-- what was damaged, by what the disk shows after it, and where copies are asked for without a point by what it showed before
pub hurt_by : (room : ℕ) (asked : Asked) (old : Shown) (session : Session) (new : Shown) (left : Session) (at want found : ℕ) → new.tells ≡ old.tells → HasDamage room asked old session new left at want found → IsHurt room asked old.reads session new left
hurt_by room asked old session new left at want found same (inl unwritten) = record { at = at; want = want; found = found; damage = inl unwritten.1 }
hurt_by room asked old session new left at want found same (inr (inl behind)) = record { at = at; want = want; found = found; damage = inr (inl behind) }
hurt_by room asked old session new left at want found same (inr (inr (inl bad))) = record { at = at; want = want; found = found; damage = inr (inr (inl (λ told. bad_copies old (subst IsTrue same told) asked session session bad))) }
hurt_by room asked old session new left at want found same (inr (inr (inr behind))) = record { at = at; want = want; found = found; damage = inr (inr (inr behind)) }

-- the call at work for the line behind `count` others
pub hurt_behind : (lines : List Line) (count : ℕ) (line : Line) (i : Image) (first : Session) (over : Image) (session : Session) (end : Shown) → line_at lines count ≡ line
    → (IsTrue end.tells → UndergoesLines lines count i first over session) → (((j : ℕ) → j < count → only_asks (line_at lines j) ≡ true) → IsAsRead first session)
    → IsHurtLine line over session end → IsHurtBehind lines count i first end
hurt_behind lines count line i first over session end same course opened hurt = record {
  session = session;
  over = over;
  course = course;
  opened = opened;
  left = hurt.0;
  stands = hurt.1.0;
  hurt = inl (subst (λ (l : Line). IsHurtIn l over session end hurt.0) (sym same) hurt.1.1);
}

-- the point behind all of them
pub hurt_last : (lines : List Line) (count : ℕ) (i : Image) (first : Session) (over : Image) (session : Session) (end : Shown) → length lines ≤ count
    → (IsTrue end.tells → UndergoesLines lines count i first over session) → (((j : ℕ) → j < count → only_asks (line_at lines j) ≡ true) → IsAsRead first session)
    → IsHurtBy 0 AsksPoint over session end → IsHurtBehind lines count i first end
hurt_last lines count i first over session end all course opened hurt = record {
  session = session;
  over = over;
  course = course;
  opened = opened;
  left = hurt.0;
  stands = hurt.1.0;
  hurt = inr (all, hurt.1.1);
}

-- a session of which nothing was read
pub as_read_itself : (session : Session) → IsAsRead session session
as_read_itself session = record { pool = record { map = refl; containers = refl; kept = refl; found = refl; version = refl }; volumes = λ s. refl; same = refl }

-- ---- points that lack blocks

-- where nothing of files waits, a point that lacks blocks lacks them in the image; or a leaf isn't there
pub lacks : (old new : Shown) (session new_session : Session) (at want found : ℕ) → calls.IsForWant old session new new_session (session_fault.Damaged at want found) → LacksSpace old session new
lacks old new session new_session at want found is tells none room asks = ⊎_elim
    (λ (short : LacksBlocks old session new_session at want found).
    let same : taken_since new_session.pool.map ≡ 0 = (λ j. taken_since ((short.same none.none).0.map j)) ∙ none_taken session.pool.map none.taken in
    inl (at, want, found, subst (λ (i : Image). IsShort i room 0 at want found) (sym is.0.stays.reads) (subst (λ (n : ℕ). IsShort old.reads room n at want found) same (short.image tells room asks))))
    (λ (other : HasFilesToPlace old session at want found ⊎ HasLostLeaf new session new_session at want found). ⊎_elim
    (λ (place : HasFilesToPlace old session at want found). absurd (place.files none.none))
    (λ (lost : HasLostLeaf new session new_session at want found). inr (record {
      still = is.0.stays.reads;
      none = none;
      at = at;
      want = want;
      found = found;
      leaf = lost.leaf (rw is.0.stays.tells tells);
    }))
    other)
    is.1

-- the session at work behind `count` lines that are answered lost a leaf
pub leaf_lost : (lines : List Line) (count : ℕ) (old : Shown) (first : Session) (before : Shown) (session : Session) (end : Shown) (output : List ℕ) → end.given ≡ old.given ++ output → whole output ≡ count
    → UndergoesLines lines count old.reads first before.reads session → LosesLeaf before session end → IsLeafLost lines first old end
leaf_lost lines count old first before session end output given answered course loses = record {
  output = output;
  given = given;
  session = session;
  course = subst (λ (i : Image). UndergoesLines lines (whole output) old.reads first i session) (sym loses.still)
      (subst (λ (n : ℕ). UndergoesLines lines n old.reads first before.reads session) (sym answered) course);
  none = loses.none;
  at = loses.at;
  want = loses.want;
  found = loses.found;
  leaf = loses.leaf;
}
