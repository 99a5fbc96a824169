-- The commands on files as `apply` has them.
use Rattle.std.proofs.Common.{◌≡◌, ◌≤◌, ◌+◌, ◌⊎◌, ℕ, Bool, List, Option, Some, None, Result, Ok, Err, false, true, true≢false, refl, sym, ap, subst, ◌∙◌, inl, inr, arith}
use Rattle.std.specs.Prelude.{IfOk, IfSome, IsNone, IsSome, IsTrue, OnOk}
use Rattle.fv_disk.specs.Shown.{Shown}
use Rattle.fv_disk.specs.DiskCalls.{OnlyReads}
use Rattle.fv_model.specs.declared.answers.Reply.{Reply}
use Rattle.fv_model.specs.declared.commands.Command.{Command}
use Rattle.fv_model.specs.declared.commands.Command.TheVariants.{Get, Len, Ls, Probe, Cp}
use Rattle.fv_bits.specs.Members.{is_member}
use Rattle.fv_model.specs.Machines.{Machine}
use Rattle.fv_aggmap.specs.Space.{Space}
use Rattle.fv_volume.specs.declared.state.VolumeState.{VolumeState}
use Rattle.fv_volume.specs.Changing.{IsChangeOf}
use Rattle.fv_volume.specs.Held.{IsReadyIn}
use Rattle.fv_volume.specs.OneVolume.{IsBooked}
use Rattle.fv_volume.specs.States.{state_at}
use Rattle.fv_aggregate.specs.declared.fault.Fault.{Fault}
use Rattle.fv_aggregate.specs.declared.session.Session.{Session}
use Rattle.fv_aggregate.specs.Adding.{IsPointed}
use Rattle.fv_aggregate.specs.Calls.{Goes, GoesFor, KeepsAsking, KeepsEntries, WasRead}
use Rattle.fv_aggregate.specs.Cleaning.{GoesAs}
use Rattle.fv_aggregate.specs.Commands.{asked_by, Asked, AsksTable, changed_by, changes_volume, dirty_limit, file_room, reads_cell, is_refusal, machine_after, reads_files, room_by, slot_named, snapshot_asked, takes_steps, volume_asked, Replies}
use Rattle.fv_aggregate.specs.Looking.{Looks, Makes}
use Rattle.fv_aggregate.specs.Standing.{HoldsAsCommitted, IsWithoutFiles, StandsFor, StandsReady}
use Rattle.fv_aggregate.proofs.Calls.{reads_itself}
use Rattle.fv_aggregate.proofs.Changing.{change_after, change_asked, change_cases, look_asked, change_of_volume, change_replies, change_room, look_after, look_reads, look_replies, look_room}
use Rattle.fv_aggregate.proofs.Numbered.{no_files_read}

none_some : {A : Type 0} (o : Option A) → IsNone o → IsSome o → ⊥
none_some None none some = cc
none_some (Some n) none some = cc

-- a session that hasn't failed isn't dead
pub not_dead : (X : Type 0) (s : Session) → IsNone s.failed → IsSome s.failed → X
not_dead X s fresh failed = absurd (none_some s.failed fresh failed)

-- the ledger of each volume has its numbers
pub booked_each : (d : Shown) (s : Session) → StandsReady d s → (slot : ℕ) → IfSome (state_at s.volumes slot) IsBooked
booked_each d s stands slot = by (state_at s.volumes slot) (stands.ready slot)
  where
    by : (o : Option VolumeState) → IfSome o (IsReadyIn d s.pool slot) → IfSome o IsBooked
    by None is = tt
    by (Some x) is = is.ready.booked

if_ok : {T : Type 0} {P Q : T → Type 0} → ((x : T) → P x → Q x) → (r : Result T Fault) → IfOk r P → IfOk r Q
if_ok to (Ok x) is = to x is
if_ok to (Err f) is = tt

pub rests_as : {D : Type 0} (shown : D → Shown) (a b : D) → b ≡ a → OnlyReads (shown a) (shown b)
rests_as shown a b disk = subst (λ d. OnlyReads (shown a) (shown d)) (sym disk) (reads_itself (shown a))

-- where the map stays it holds as committed still
pub same_map : (old new : Session) → new.pool.map ≡ old.pool.map → HoldsAsCommitted old → HoldsAsCommitted new
same_map old new map same = ap (λ (m : Space). m.next) map ∙ same ∙ sym (ap (λ (m : Space). m.committed) map)

-- so it does after a point
pub pointed_same : {T : Type 0} (disk : Shown) (old new : Session) (r : Result T Fault) → OnOk r (IsPointed disk old new) → IsTrue disk.tells → OnOk r (HoldsAsCommitted new)
pointed_same disk old new (Ok x) left tells = left.same tells
pointed_same disk old new (Err f) left tells = tt

pub pointed_files : {T : Type 0} (disk : Shown) (old new : Session) (r : Result T Fault) → OnOk r (IsPointed disk old new) → IsTrue disk.tells → OnOk r (IsWithoutFiles new)
pointed_files disk old new (Ok x) left tells = left.files tells
pointed_files disk old new (Err f) left tells = tt

-- no step was made
pub no_step : (r : Result Reply Fault) (steps : ℕ) → OnOk r (steps ≡ steps)
no_step (Ok y) steps = refl
no_step (Err f) steps = tt

some_none : (v : List ℕ) → ◌≡◌ {A = Option (List ℕ)} None (Some v) → ⊥
some_none v e = cc

-- a command that changes a file asks for none
unasked : (c : Command) (name : List ℕ) → changed_by c ≡ Some name → volume_asked c ≡ None
unasked (Get v s f i) name change = absurd (some_none name change)
unasked (Len v s f) name change = absurd (some_none name change)
unasked (Ls v s) name change = absurd (some_none name change)
unasked (Probe v f i) name change = absurd (some_none name change)
unasked c name change = refl

same_volume : (a b : List ℕ) → ◌≡◌ {A = Option (List ℕ)} (Some a) (Some b) → a ≡ b
same_volume a b e = cc

-- a command that reads no file asks none
pub asks_none : (X : Type 0) (c : Command) (name : List ℕ) → reads_files c ≡ false → volume_asked c ≡ Some name → X
asks_none X c name none asks = absurd (true≢false (sym (look_reads c name asks) ∙ none))

-- ---- a command that takes no steps

module _ (c : Command) (at_once : takes_steps c ≡ false) where
  pub goes_at_once : {room : ℕ} {asked : Asked} {d : Shown} {s : Session} {e : Shown} {n : Session} {r : Result Reply Fault}
      → Goes room asked d s e n r → GoesAs (takes_steps c) room asked d s e n r
  goes_at_once {room} {asked} {d} {s} {e} {n} {r} goes = subst (λ (b : Bool). GoesAs b room asked d s e n r) (sym at_once) goes

  pub no_steps : (X : Type 0) → takes_steps c ≡ true → X
  no_steps X takes = absurd (true≢false (sym takes ∙ at_once))

-- ---- a command that asks

module _ (c : Command) (name : List ℕ) (asks : volume_asked c ≡ Some name) (d : Shown) (s : Session) (e : Shown) (n : Session) (r : Result Reply Fault) (looks : Looks (slot_named s.volumes name) d s c e n r) where
  pub look_goes : Goes (room_by s.volumes c) (asked_by s.volumes c) d s e n r
  look_goes = subst (λ (asked : Asked). Goes (room_by s.volumes c) asked d s e n r) (sym (look_asked c name asks s.volumes)) (subst (λ (k : ℕ). Goes k (AsksTable (slot_named s.volumes name) (snapshot_asked c) (reads_cell c)) d s e n r) (sym (look_room c name asks s.volumes)) looks.goes)

  pub look_asks : KeepsAsking (room_by s.volumes c) d s e n
  look_asks = subst (λ (k : ℕ). KeepsAsking k d s e n) (sym (look_room c name asks s.volumes)) looks.asks

  pub look_goes_for : IsTrue d.tells → (last m : Machine) → StandsFor d s last m → GoesFor d last m (machine_after m c) e n r
  look_goes_for tells last m is = subst (λ (k : Machine). GoesFor d last m k e n r) (sym (look_after c name asks m)) (looks.goes_for tells last m is)

  pub look_reply : IsTrue d.tells → (last m : Machine) → StandsFor d s last m → IfOk r (Replies m c)
  look_reply tells last m is = if_ok (λ y allowed. look_replies c name asks m y allowed) r (looks.reply tells last m is)

  pub look_refused : IfOk r (λ reply. IsTrue (is_refusal reply) → WasRead d s e n)
  look_refused = by r looks.read
    where
      by : (r : Result Reply Fault) → OnOk r (WasRead d s e n) → IfOk r (λ reply. IsTrue (is_refusal reply) → WasRead d s e n)
      by (Ok y) read = λ refused. read
      by (Err f) read = tt

  pub look_name : (other : List ℕ) → (changed_by c ≡ Some other) ⊎ (volume_asked c ≡ Some other) → other ≡ name
  look_name other (inl change) = absurd (some_none name (sym (unasked c other change) ∙ asks))
  look_name other (inr also) = same_volume other name (sym also ∙ asks)

  pub look_unchanged : (X : Type 0) (other : List ℕ) → changed_by c ≡ Some other → X
  look_unchanged X other change = absurd (some_none name (sym (unasked c other change) ∙ asks))

  -- no file comes into memory
  pub look_files : IsWithoutFiles s → OnOk r (IsWithoutFiles n)
  look_files without = by r looks.read
    where
      by : (r : Result Reply Fault) → OnOk r (WasRead d s e n) → OnOk r (IsWithoutFiles n)
      by (Ok y) read = record {
        none = no_files_read s.volumes n.volumes read.volumes without.none;
        taken = λ b held. ap (λ (m : Space). is_member m.committed b) read.pool.map ∙ without.taken b (sym (ap (λ (m : Space). is_member m.next b) read.pool.map) ∙ held);
      }
      by (Err f) read = tt

  -- nor is a block taken or given back
  pub look_same : HoldsAsCommitted s → OnOk r (HoldsAsCommitted n)
  look_same same = by r looks.read
    where
      by : (r : Result Reply Fault) → OnOk r (WasRead d s e n) → OnOk r (HoldsAsCommitted n)
      by (Ok y) read = same_map s n read.pool.map same
      by (Err f) read = tt

  pub look_no_point : (X : Type 0) → c ≡ Cp → X
  look_no_point X cp = absurd (nothing (sym (ap volume_asked cp) ∙ asks))
    where
      nothing : ◌≡◌ {A = Option (List ℕ)} None (Some name) → ⊥
      nothing e = cc

-- ---- a command that changes a file

module _ (c : Command) (name : List ℕ) (of : changed_by c ≡ Some name) (d : Shown) (s : Session) (e : Shown) (n : Session) (r : Result Reply Fault) (makes : Makes file_room (AsksTable (slot_named s.volumes name) None false) d s c e n r) where
  change : IsChangeOf name c
  change = change_of_volume name c of

  none : ◌≡◌ {A = Option (List ℕ)} None (Some name) → ⊥
  none e = cc

  pub make_goes : Goes (room_by s.volumes c) (asked_by s.volumes c) d s e n r
  make_goes = subst (λ (asked : Asked). Goes (room_by s.volumes c) asked d s e n r) (sym (change_asked name c of s.volumes)) (subst (λ (k : ℕ). Goes k (AsksTable (slot_named s.volumes name) None false) d s e n r) (sym (change_room name c change s.volumes)) makes.goes)

  pub make_asks : changes_volume c ≡ false → KeepsAsking (room_by s.volumes c) d s e n
  make_asks calm = absurd (true≢false (sym (change_cases (λ (k : Command). changes_volume k ≡ true) (λ v f. refl) (λ v f i block. refl) (λ v f length. refl) (λ v f. refl) name c change) ∙ calm))

  pub make_goes_for : IsTrue d.tells → (last m : Machine) → StandsFor d s last m → GoesFor d last m (machine_after m c) e n r
  make_goes_for tells last m is = subst (λ (k : Machine). GoesFor d last m k e n r) (sym (change_after name c change m)) (makes.goes_for tells last m is)

  pub make_reply : IsTrue d.tells → (last m : Machine) → StandsFor d s last m → IfOk r (Replies m c)
  make_reply tells last m is = if_ok (λ y allowed. change_replies name c change m y allowed) r (makes.reply tells last m is)

  pub make_name : (other : List ℕ) → (changed_by c ≡ Some other) ⊎ (volume_asked c ≡ Some other) → other ≡ name
  make_name other (inl also) = same_volume other name (sym also ∙ of)
  make_name other (inr asked) = absurd (some_none other (sym (unasked c name of) ∙ asked))

  pub make_unasked : (X : Type 0) → IsSome (volume_asked c) → X
  make_unasked X asked = absurd (none_some {A = List ℕ} None refl (subst IsSome (unasked c name of) asked))

  pub make_calm : (room_by s.volumes c ≡ 0) ⊎ (s.pending + room_by s.volumes c ≤ dirty_limit) → OnlyReads d e
  make_calm (inl nothing) = absurd (let some = change_room name c change s.volumes in omega (arith, nothing, some))
  make_calm (inr few) = makes.calm (let some = change_room name c change s.volumes in omega (arith, few, some))

  pub make_entries : (room_by s.volumes c ≡ 0) ⊎ (s.pending + room_by s.volumes c ≤ dirty_limit) → KeepsEntries s n
  make_entries (inl nothing) = absurd (let some = change_room name c change s.volumes in omega (arith, nothing, some))
  make_entries (inr few) = makes.entries (inr (let some = change_room name c change s.volumes in omega (arith, few, some)))

  pub make_still : (room_by s.volumes c ≡ 0) ⊎ (s.pending + room_by s.volumes c ≤ dirty_limit) → IfOk r (λ reply. IsTrue (is_refusal reply) → WasRead d s e n)
  make_still (inl nothing) = absurd (let some = change_room name c change s.volumes in omega (arith, nothing, some))
  make_still (inr few) = makes.still (inr (let some = change_room name c change s.volumes in omega (arith, few, some)))

  pub make_within : (X : Type 0) → (s.pending + file_room ≤ dirty_limit → X) → (room_by s.volumes c ≡ 0) ⊎ (s.pending + room_by s.volumes c ≤ dirty_limit) → X
  make_within X says (inl nothing) = absurd (let some = change_room name c change s.volumes in omega (arith, nothing, some))
  make_within X says (inr few) = says (let some = change_room name c change s.volumes in omega (arith, few, some))

  pub make_unchanged : (X : Type 0) → changed_by c ≡ None → X
  make_unchanged X isnt = absurd (none (sym isnt ∙ of))

  pub make_no_point : (X : Type 0) → c ≡ Cp → X
  make_no_point X cp = absurd (none (sym (ap changed_by cp) ∙ of))
