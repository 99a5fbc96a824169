-- What a session answers to a command that asks for files, by the call of a volume.
use Rattle.std.proofs.Common.{◌≡◌, ◌<◌, ◌≤◌, ℕ, Bool, true, false, List, Option, Some, None, Result, Ok, Err, inl, inr, refl, sym, ap, subst, ◌∙◌, not, length, arith}
use Rattle.std.specs.Prelude.{IfOk, IfSome, IsNone, IsTrue, OnOk}
use Rattle.std.specs.Option.{option_map_or}
use Rattle.std.specs.FinMap as fin
use Rattle.fv_disk.specs.Shown.{Shown, IsDisk, Rose}
use Rattle.fv_disk.specs.declared.fault.BlockFault.TheVariants as block
use Rattle.fv_model.specs.declared.answers.Refusal.{Refusal}
use Rattle.fv_model.specs.declared.answers.Refusal.TheVariants.{NoSnapshot, NoVolume}
use Rattle.fv_model.specs.declared.answers.Reply.{Reply}
use Rattle.fv_model.specs.declared.answers.Reply.TheVariants.{Number, Refused}
use Rattle.fv_model.specs.declared.commands.Command.{Command}
use Rattle.fv_model.specs.declared.commands.Command.TheVariants.{Get, Len, Ls, Probe}
use Rattle.fv_model.specs.Machines.{Machine}
use Rattle.fv_model.specs.Volumes.{Volume}
use Rattle.fv_model.specs.Refusals.{refusal}
use Rattle.fv_model.specs.Replies.{answer, is_open, Allows, AllowsBy, IsAnswer}
use Rattle.fv_pool.specs.declared.fault.VolumeFault.{VolumeFault}
use Rattle.fv_pool.specs.declared.fault.VolumeFault.TheVariants as volume
use Rattle.fv_pool.specs.declared.pool.Pool.{Pool}
use Rattle.fv_volume.specs.declared.state.VolumeState.{VolumeState}
use Rattle.fv_volume.specs.Asking.{standing_read, table_named}
use Rattle.fv_pool.specs.Calls.{CallCause, CallFails, Reads, TableFails}
use Rattle.fv_volume.specs.Calls.{Agrees, Asks, Has}
use Rattle.fv_pool.specs.Lending.{Lent, lent_for}
use Rattle.fv_volume.specs.OneVolume.{home_in, standing_for, trees_for, volume_for, IsStanding}
use Rattle.fv_volume.specs.Placing.{IsStoredWell}
use Rattle.fv_volume.specs.Probing.{IsPath}
use Rattle.fv_volume.specs.Slots.{is_named, NoneHasName}
use Rattle.fv_volume.specs.States.{States, state_at, with_state}
use Rattle.fv_volume.proofs.RightTables.{read_undamaged}
use Rattle.fv_volumes.proofs.KnownSteps.{known_path}
use Rattle.fv_tables.specs.Told.{Standing}
use Rattle.fv_cp.specs.Held.{IsHeldIn}
use Rattle.fv_cp.specs.Lent.{FitTogether}
use Rattle.fv_aggregate.specs.declared.fault.Fault.{Fault}
use Rattle.fv_aggregate.specs.declared.fault.Fault.TheVariants.{DiskFault, Damaged, Memory}
use Rattle.fv_aggregate.specs.declared.session.Session.{Session}
use Rattle.fv_aggregate.specs.Calls.{HasDamage, MakesNoStep, WasRead}
use Rattle.fv_aggregate.specs.Commands.{AsksTable, slot_named, has_range, reads_cell, snapshot_asked, volume_asked}
use Rattle.fv_aggregate.specs.Looking.{AsksState, Faults, IsAsked, Looks, Replied, TellsFor}
use Rattle.fv_aggregate.specs.Probing.{CountsPath, TellsPath}
use Rattle.fv_aggregate.specs.Standing.{StandsFor, StandsReady}
use Rattle.fv_aggregate.proofs.Holes.{kept_entries}
use Rattle.fv_aggregate.proofs.HeldMachine.{is_there, not_there, one}
use Rattle.fv_aggregate.proofs.CallEnds.{goes_broken, goes_damaged, goes_done, goes_for_broken, goes_for_done, goes_for_fault, goes_wanting}
use Rattle.fv_aggregate.proofs.Calls.{reads_itself}
use Rattle.fv_aggregate.proofs.Damages.{bad_read, finds_asked}
use Rattle.fv_aggregate.proofs.Looked.{asks_read, left, reads_alone, stands_for_read, stands_read, was_read}
use Rattle.fv_aggregate.proofs.Missing.{asked_missing, refused_allows}
use Rattle.fv_aggregate.proofs.Numbered.{still_there}
use Rattle.fv_aggregate.proofs.Returned.{as_told, lent_there, long_lent, named_there, put_back, same_there}

-- an answer is the reply that the machine allows
pub answer_allows : (m : Machine) (c : Command) (reply : Reply) → refusal m c ≡ None → is_open m c ≡ false → reply ≡ answer m c → Allows m c reply
answer_allows m c reply none closed is = subst (λ (o : Option Refusal). AllowsBy o m c reply) (sym none) (subst (λ (b : Bool). IsAnswer b (answer m c) reply) (sym closed) is)

-- that to a probe is 0 in a volume of which each place is known, and else the number of unknown pointers
zero_answer : (m : Machine) (v f : List ℕ) (i : ℕ) → answer m (Probe v f i) ≡ Number 0
unfolding answer
zero_answer m v f i = refl

pub probe_allows : (d : Shown) (p : Pool) (x : VolumeState) → IsStanding d p x → IsStoredWell d p x → (m : Machine) → Has x.name (volume_for d p x) m → (f : List ℕ) (i count : ℕ) → refusal m (Probe x.name f i) ≡ None → count ≤ 7
    → IsPath (standing_for d p x) (trees_for d p x) f i count → Allows m (Probe x.name f i) (Number count)
probe_allows d p x is well m has f i count none few path =
    subst (λ (o : Option Refusal). AllowsBy o m (Probe x.name f i) (Number count)) (sym none) (subst (λ (b : Bool). IsAnswer b (answer m (Probe x.name f i)) (Number count)) (sym undecided) (by x.known refl))
  where
    undecided : is_open m (Probe x.name f i) ≡ not x.known
    undecided = ap (λ (o : Option Volume). option_map_or (λ (v : Volume). not v.known) o false) has

    by : (b : Bool) → x.known ≡ b → IsAnswer (not b) (answer m (Probe x.name f i)) (Number count)
    by true all = ap Number (known_path d p x all is well m has f i count none path) ∙ sym (zero_answer m x.name f i)
    by false some = (count, few, refl)

-- ---- one volume, by the call of it

-- a fault is refused alike, whatever would have been answered
agrees_err : (T U : Type 0) (m : Machine) (c : Command) (e : VolumeFault) → Agrees {T = T} m c (Err e) → Agrees {T = U} m c (Err e)
agrees_err T U m c (volume.Refused r) is = is
agrees_err T U m c volume.DiskFault is = is
agrees_err T U m c (volume.Damaged at want found) is = is
agrees_err T U m c volume.Memory is = is

module _ (d e : Shown) (p q : Pool) (x : VolumeState) (reads : Reads d p e q) (c command : Command) (same : c ≡ command) (start steps : ℕ) where
  abbrev has : Machine → Type 0
  has = Has x.name (volume_for d p x)

  abbrev its : Lent
  its = lent_for p x.map d 0 (home_in x) 0

  -- an answer, by what is said of it in each machine that has the volume
  pub state_told : (reply : Reply) → (IsStanding d p x → (m : Machine) → has m → refusal m c ≡ None) → (IsStanding d p x → IsStoredWell d p x → (m : Machine) → has m → Allows m c reply) → (IsStanding d p x → TellsPath d p x reply c)
      → (IsStanding d p x → CountsPath d p x start steps reply c) → e.faults ≡ d.faults → (x.known ≡ true → IsStanding d p x → IsStoredWell d p x → (m : Machine) → has m → refusal m c ≡ None → steps ≡ start) → AsksState d p x command start e q steps (Ok reply)
  state_told reply accepted allows path counts calm known = record {
    reads = reads;
    agrees = λ is. subst (λ (k : Command). (m : Machine) → has m → refusal m k ≡ None) same (accepted is);
    allows = λ is well. subst (λ (k : Command). (m : Machine) → has m → Allows m k reply) same (allows is well);
    path = λ is. subst (TellsPath d p x reply) same (path is);
    counts = λ is. subst (CountsPath d p x start steps reply) same (counts is);
    cause = calm;
    known = λ all is well m there. known all is well m there (accepted is m there);
    unmoved = tt;
  }

  -- the one that each machine has
  pub state_answered : {T : Type 0} (says : T → Reply) (y : T) → ((m : Machine) → is_open m c ≡ false) → TellsPath d p x (says y) c → (IsStanding d p x → Asks has c says (Ok y))
      → (IsStanding d p x → CountsPath d p x start steps (says y) c) → e.faults ≡ d.faults → (x.known ≡ true → IsStanding d p x → IsStoredWell d p x → (m : Machine) → has m → refusal m c ≡ None → steps ≡ start) → AsksState d p x command start e q steps (Ok (says y))
  state_answered says y closed path asks counts calm known = state_told (says y) (λ is m there. (asks is).agrees m there)
      (λ is well m there. let of = asks is in answer_allows m c (says y) (of.agrees m there) (closed m) (of.reply m there)) (λ is. path) counts calm known

  pub state_refused : (T : Type 0) (f : VolumeFault) → (IsStanding d p x → (m : Machine) → has m → Agrees {T = T} m c (Err f)) → CallCause {T = T} (TellsFor d p x c) (standing_read d p x (snapshot_asked c)) its e.faults (Err f)
      → ((r : Refusal) → f ≡ volume.Refused r → steps ≡ start) → AsksState d p x command start e q steps (Err f)
  state_refused T f agrees cause unmoved = record {
    reads = reads;
    agrees = λ is. subst (λ (k : Command). (m : Machine) → has m → Agrees {T = Reply} m k (Err f)) same (λ m there. agrees_err T Reply m c f (agrees is m there));
    allows = λ is well. tt;
    path = λ is. tt;
    counts = λ is. tt;
    cause = subst (λ (k : Command). CallFails (TellsFor d p x k) (standing_read d p x (snapshot_asked k)) its e.faults f) same cause;
    known = λ all is well. tt;
    unmoved = unmoved;
  }

  pub state_failed : (T : Type 0) (says : T → Reply) (f : VolumeFault) → (IsStanding d p x → Asks {T = T} has c says (Err f)) → CallCause {T = T} (TellsFor d p x c) (standing_read d p x (snapshot_asked c)) its e.faults (Err f)
      → ((r : Refusal) → f ≡ volume.Refused r → steps ≡ start) → AsksState d p x command start e q steps (Err f)
  state_failed T says f asks cause unmoved = state_refused T f (λ is. (asks is).agrees) cause unmoved

-- the command by the name of the volume
some_name : (a b : List ℕ) → ◌≡◌ {A = Option (List ℕ)} (Some a) (Some b) → a ≡ b
some_name a b e = cc

pub of_get : (c : Command) (name v : List ℕ) (s : Option (List ℕ)) (f : List ℕ) (i : ℕ) → c ≡ Get v s f i → volume_asked c ≡ Some name → Get name s f i ≡ c
of_get c name v s f i is asks = let of : v ≡ name = some_name v name (sym (ap volume_asked is) ∙ asks) in ap (λ (n : List ℕ). Get n s f i) (sym of) ∙ sym is

pub of_len : (c : Command) (name v : List ℕ) (s : Option (List ℕ)) (f : List ℕ) → c ≡ Len v s f → volume_asked c ≡ Some name → Len name s f ≡ c
of_len c name v s f is asks = let of : v ≡ name = some_name v name (sym (ap volume_asked is) ∙ asks) in ap (λ (n : List ℕ). Len n s f) (sym of) ∙ sym is

pub of_probe : (c : Command) (name v f : List ℕ) (i : ℕ) → c ≡ Probe v f i → volume_asked c ≡ Some name → Probe name f i ≡ c
of_probe c name v f i is asks = let of : v ≡ name = some_name v name (sym (ap volume_asked is) ∙ asks) in ap (λ (n : List ℕ). Probe n f i) (sym of) ∙ sym is

-- a refusal tells no path
pub no_path : (d : Shown) (p : Pool) (o : Option VolumeState) (r : Refusal) (c : Command) → IfSome o (λ x. TellsPath d p x (Refused r) c)
no_path d p None r c = tt
no_path d p (Some x) r c = tt

-- and counts no step
pub no_count : (d : Shown) (p : Pool) (o : Option VolumeState) (start steps : ℕ) (r : Refusal) (c : Command) → IfSome o (λ x. CountsPath d p x start steps (Refused r) c)
no_count d p None start steps r c = tt
no_count d p (Some x) start steps r c = tt

pub of_ls : (c : Command) (name v : List ℕ) (s : Option (List ℕ)) → c ≡ Ls v s → volume_asked c ≡ Some name → Ls name s ≡ c
of_ls c name v s is asks = let of : v ≡ name = some_name v name (sym (ap volume_asked is) ∙ asks) in ap (λ (n : List ℕ). Ls n s) (sym of) ∙ sym is

-- ---- a session, by what it read

module _ (d e : Shown) (laws : IsDisk d) (s : Session) (q : Pool) (reads : Reads d s.pool e q) (fresh : IsNone s.failed) (stands : StandsReady d s) (c : Command) (slot : ℕ) where
  abbrev still : StandsReady e (left d e s q reads)
  still = stands_read d e s q reads stands

  for_left : (last m : Machine) → StandsFor d s last m → StandsFor e (left d e s q reads) last m
  for_left last m is = stands_for_read d e s q reads last m is

  -- an answer that the machine has in each machine that the session may stand for
  pub looks_done : (reply : Reply) → e.faults ≡ d.faults → ((last m : Machine) → StandsFor d s last m → Allows m c reply)
      → ((last m : Machine) → StandsFor d s last m → IfSome (state_at s.volumes slot) (λ x. TellsPath d s.pool x reply c)) → Looks slot d s c e (left d e s q reads) (Ok reply)
  looks_done reply calm allowed path = record {
    goes = goes_done d e laws s (left d e s q reads) 0 reads.only_reads fresh fresh still reply calm (omega arith) (λ tells. reads.leaves.found);
    asks = asks_read d e s q reads;
    goes_for = λ tells last m is. goes_for_done d e laws s (left d e s q reads) 0 reads.only_reads fresh fresh still reply last m m is (for_left last m is);
    reply = λ tells last m is. allowed last m is;
    path = λ tells last m is. path last m is;
    only_reads = reads.only_reads;
    entries = kept_entries s (left d e s q reads) reads.leaves.containers;
    read = was_read d e s q reads;
    unanswered = tt;
  }

  pub looks_broken : (o : Option ℕ) → Rose d.faults e.faults → (Rose e.write_faults e.write_faults → o ≡ Some e.faults) → (¬ Rose e.write_faults e.write_faults → IsNone o) → Looks slot d s c e (record s { pool = q; failed = o }) (Err DiskFault)
  looks_broken o rose written unwritten = record {
    goes = goes_broken d e laws s (left d e s q reads) 0 reads.only_reads fresh fresh still o rose written unwritten (omega arith);
    asks = λ tells kept asks none. let is = asks_read d e s q reads tells kept asks fresh in record { asked = is.asked; pending = is.pending };
    goes_for = λ tells last m is. goes_for_broken d e laws s (left d e s q reads) 0 reads.only_reads fresh fresh still o last m m is (for_left last m is);
    reply = λ tells last m is. tt;
    path = λ tells last m is. tt;
    only_reads = reads.only_reads;
    entries = kept_entries s (record s { pool = q; failed = o }) reads.leaves.containers;
    read = tt;
    unanswered = was_read d e s q reads;
  }

  pub looks_wanting : e.faults ≡ d.faults → Looks slot d s c e (left d e s q reads) (Err Memory)
  looks_wanting calm = record {
    goes = goes_wanting d e laws s (left d e s q reads) 0 reads.only_reads fresh fresh still calm (omega arith);
    asks = asks_read d e s q reads;
    goes_for = λ tells last m is. goes_for_fault d e laws s (left d e s q reads) 0 reads.only_reads fresh fresh still Memory last m m tt is (for_left last m is);
    reply = λ tells last m is. tt;
    path = λ tells last m is. tt;
    only_reads = reads.only_reads;
    entries = kept_entries s (left d e s q reads) reads.leaves.containers;
    read = tt;
    unanswered = was_read d e s q reads;
  }

  pub looks_damaged : (at want found : ℕ) → e.faults ≡ d.faults → HasDamage 0 (AsksTable slot (snapshot_asked c) (reads_cell c)) d s e (left d e s q reads) at want found → (IsTrue d.tells → (last m : Machine) → StandsFor d s last m → ⊥)
      → Looks slot d s c e (left d e s q reads) (Err (Damaged at want found))
  looks_damaged at want found calm damage whole = record {
    goes = goes_damaged d e laws s (left d e s q reads) 0 reads.only_reads fresh fresh still at want found calm damage (omega arith);
    asks = asks_read d e s q reads;
    goes_for = λ tells last m is. absurd (whole tells last m is);
    reply = λ tells last m is. tt;
    path = λ tells last m is. tt;
    only_reads = reads.only_reads;
    entries = kept_entries s (left d e s q reads) reads.leaves.containers;
    read = tt;
    unanswered = was_read d e s q reads;
  }

-- ---- a volume of a slot

module _ (d : Shown) (s : Session) (long : length s.volumes ≡ 64) (slot : ℕ) (x : VolumeState) (there : state_at s.volumes slot ≡ Some x) where
  -- the machine of the session has it
  pub has_volume : (last m : Machine) → StandsFor d s last m → Has x.name (volume_for d s.pool x) m
  has_volume last m is = subst (Has x.name (volume_for d s.pool x)) is.machine (is_there d s.pool s.volumes long last is.held slot x there)

  pub volume_stands : (last m : Machine) → StandsFor d s last m → IsStanding d s.pool x
  volume_stands last m is = (one d s.pool s.volumes long last is.held slot x there).stands

  module _ (c : Command) where
    pub refused_by : (r : Refusal) → (IsStanding d s.pool x → (m : Machine) → Has x.name (volume_for d s.pool x) m → refusal m c ≡ Some r) → (last m : Machine) → StandsFor d s last m → Allows m c (Refused r)
    refused_by r agrees last m is = refused_allows m c r (agrees (volume_stands last m is) m (has_volume last m is))

    pub answered_by : (reply : Reply) → (IsStanding d s.pool x → IsStoredWell d s.pool x → (m : Machine) → Has x.name (volume_for d s.pool x) m → Allows m c reply) → (last m : Machine) → StandsFor d s last m → Allows m c reply
    answered_by reply allows last m is = allows (volume_stands last m is) (one d s.pool s.volumes long last is.held slot x there).well m (has_volume last m is)

    pub path_by : (reply : Reply) → (IsStanding d s.pool x → TellsPath d s.pool x reply c) → (last m : Machine) → StandsFor d s last m → IfSome (state_at s.volumes slot) (λ z. TellsPath d s.pool z reply c)
    path_by reply path last m is = subst (λ (o : Option VolumeState). IfSome o (λ z. TellsPath d s.pool z reply c)) (sym there) (path (volume_stands last m is))

-- ---- by what the volume answered

disk_damage : (at want found : ℕ) → block.DiskFault ≡ block.Damaged at want found → ⊥
disk_damage at want found e = cc

-- what the disk counted in a call that failed
pub rose_by : (told : Type 0) (x : Standing) (old : Lent) (faults : ℕ) → TableFails told x old faults block.DiskFault → Rose old.disk.faults faults
rose_by told x old faults (inl fails) = fails
rose_by told x old faults (inr (inl bad)) = absurd (disk_damage _ _ _ bad.damage.is)
rose_by told x old faults (inr (inr fails)) = fails.fails

pub calm_memory : (told : Type 0) (x : Standing) (old : Lent) (faults : ℕ) → TableFails told x old faults block.Memory → faults ≡ old.disk.faults
calm_memory told x old faults (inl fails) = fails
calm_memory told x old faults (inr (inl bad)) = bad.calm
calm_memory told x old faults (inr (inr fails)) = fails.fails

pub calm_damage : (told : Type 0) (x : Standing) (old : Lent) (faults at want found : ℕ) → TableFails told x old faults (block.Damaged at want found) → faults ≡ old.disk.faults
calm_damage told x old faults at want found (inl fails) = fails.0
calm_damage told x old faults at want found (inr (inl bad)) = bad.calm
calm_damage told x old faults at want found (inr (inr fails)) = fails.fails.0

module _ (d e : Shown) (laws : IsDisk d) (s : Session) (q : Pool) (c : Command) (slot : ℕ) (x : VolumeState) (there : state_at s.volumes slot ≡ Some x) (start steps : ℕ) (fresh : IsNone s.failed) (stands : StandsReady d s)
    (long : length s.volumes ≡ 64) where
  abbrev now : Session
  now = record s { pool = q }

  mine : (last m : Machine) → StandsFor d s last m → IsHeldIn d s.pool slot x
  mine last m is = one d s.pool s.volumes long last is.held slot x there

  -- each place in the volume is known, where the machine says so of the one that is asked
  all_known : (last m : Machine) → StandsFor d s last m → volume_asked c ≡ Some x.name → IfSome (volume_asked c) (λ name. IfSome (fin.get m.volumes name) (λ v. v.known ≡ true)) → x.known ≡ true
  all_known last m is named knows =
      subst (λ (o : Option Volume). IfSome o (λ v. v.known ≡ true)) (has_volume d s long slot x there last m is)
      (subst (λ (o : Option (List ℕ)). IfSome o (λ name. IfSome (fin.get m.volumes name) (λ v. v.known ≡ true))) named knows)

  lost_damage : (at want found : ℕ) → ◌≡◌ {A = Result Reply VolumeFault} (Err (volume.Damaged at want found)) (Err (volume.Refused NoSnapshot)) → ⊥
  lost_damage at want found is = cc

  pub looks_by : (r : Result Reply VolumeFault) → (table_named x (snapshot_asked c) ≡ None → r ≡ Err (volume.Refused NoSnapshot)) → AsksState d s.pool x c start e q steps r → (new : Session) (result : Result Reply Fault) → Replied e r now new result → Looks slot d s c e new result
  looks_by (Ok reply) lost asks new result is = as_told (Looks slot d s c e) new now result (Ok reply) is.1 is.0 (looks_done d e laws s q asks.reads fresh stands c slot reply asks.cause
      (answered_by d s long slot x there c reply asks.allows) (path_by d s long slot x there c reply asks.path))
  looks_by (Err (volume.Refused r)) lost asks new result is = as_told (Looks slot d s c e) new now result (Ok (Refused r)) is.1 is.0 (looks_done d e laws s q asks.reads fresh stands c slot (Refused r) asks.cause
      (refused_by d s long slot x there c r asks.agrees) (λ last m is. no_path d s.pool (state_at s.volumes slot) r c))
  looks_by (Err volume.DiskFault) lost asks new result b = as_told (Looks slot d s c e) new (record now { failed = new.failed }) result (Err DiskFault) b.1.1.1.same (b.1.0 ∙ ap (λ (g : Fault). Err g) b.1.1.0)
      (looks_broken d e laws s q asks.reads fresh stands c slot new.failed (rose_by _ _ _ e.faults asks.cause) b.1.1.1.written b.1.1.1.unwritten)
  looks_by (Err (volume.Damaged at want found)) lost asks new result b = as_told (Looks slot d s c e) new now result (Err (Damaged at want found)) b.1.1.1 (b.1.0 ∙ ap (λ (g : Fault). Err g) b.1.1.0)
      (looks_damaged d e laws s q asks.reads fresh stands c slot at want found (calm_damage _ _ _ e.faults at want found asks.cause) (inl (asks.reads.only_reads, inl (inr (inr (inr (bad_read d e s fresh slot x there q asks.reads (calm_damage _ _ _ e.faults at want found asks.cause) (snapshot_asked c) (reads_cell c) at want found (finds_asked d s.pool x e.faults at want found (calm_damage _ _ _ e.faults at want found asks.cause) (snapshot_asked c) (reads_cell c) (λ none. lost_damage at want found (lost none)) asks.cause)))))))
      (λ tells last m is. read_undamaged d s.pool x (mine last m is).stands (mine last m is).well (reads_cell c) (snapshot_asked c) 0 e.faults at want found asks.cause))
  looks_by (Err volume.Memory) lost asks new result b = as_told (Looks slot d s c e) new now result (Err Memory) b.1.1.1 (b.1.0 ∙ ap (λ (g : Fault). Err g) b.1.1.0)
      (looks_wanting d e laws s q asks.reads fresh stands c slot (calm_memory _ _ _ e.faults asks.cause))

  -- no step was made
  pub known_by : volume_asked c ≡ Some x.name → (r : Result Reply VolumeFault) → AsksState d s.pool x c start e q steps r → (new : Session) (result : Result Reply Fault) → Replied e r now new result
      → (last m : Machine) → StandsFor d s last m → MakesNoStep m c result start steps
  known_by named r asks new result is last m held knows = by r is asks
    where
      fault_in : (g : VolumeFault) → Faults e g now new result → OnOk result (steps ≡ start)
      fault_in g b = subst (λ (z : Result Reply Fault). OnOk z (steps ≡ start)) (sym b.1.0) tt

      in_ok : (y : Reply) → result ≡ Ok y → steps ≡ start → OnOk result (steps ≡ start)
      in_ok y is same = subst (λ (z : Result Reply Fault). OnOk z (steps ≡ start)) (sym is) same

      by : (z : Result Reply VolumeFault) → Replied e z now new result → AsksState d s.pool x c start e q steps z → OnOk result (steps ≡ start)
      by (Ok reply) is asks = in_ok reply is.0 (asks.known (all_known last m held named knows) (mine last m held).stands (mine last m held).well m (has_volume d s long slot x there last m held))
      by (Err (volume.Refused r)) is asks = in_ok (Refused r) is.0 (asks.unmoved r refl)
      by (Err volume.DiskFault) is asks = fault_in volume.DiskFault is
      by (Err (volume.Damaged a w f)) is asks = fault_in (volume.Damaged a w f) is
      by (Err volume.Memory) is asks = fault_in volume.Memory is

  -- the steps are those of the path
  abbrev Said : Result Reply Fault → Type 0
  Said z = IfOk z (λ reply. IfSome (state_at s.volumes slot) (λ w. CountsPath d s.pool w start steps reply c))

  pub counts_by : (r : Result Reply VolumeFault) → AsksState d s.pool x c start e q steps r → (new : Session) (result : Result Reply Fault) → Replied e r now new result → (last m : Machine) → StandsFor d s last m → Said result
  counts_by r asks new result is last m held = by r is asks
    where
      fault_in : (g : VolumeFault) → Faults e g now new result → Said result
      fault_in g b = subst Said (sym b.1.0) tt

      by : (z : Result Reply VolumeFault) → Replied e z now new result → AsksState d s.pool x c start e q steps z → Said result
      by (Ok reply) is asks = subst Said (sym is.0) (subst (λ (o : Option VolumeState). IfSome o (λ z. CountsPath d s.pool z start steps reply c)) (sym there) (asks.counts (mine last m held).stands))
      by (Err (volume.Refused r)) is asks = subst Said (sym is.0) (no_count d s.pool (state_at s.volumes slot) start steps r c)
      by (Err volume.DiskFault) is asks = fault_in volume.DiskFault is
      by (Err (volume.Damaged a w f)) is asks = fault_in (volume.Damaged a w f) is
      by (Err volume.Memory) is asks = fault_in volume.Memory is

-- ---- a volume that was lent to the call

-- it is asked for its files
pub asks_lent : (v s : Session) → v ≡ s → (slot : ℕ) (x : VolumeState) → state_at v.volumes slot ≡ Some x → (c : Command) → IsAsked s.volumes slot c → volume_asked c ≡ Some x.name
asks_lent v s same slot x lent c asked = asked.asks ∙ ap (λ (z : VolumeState). Some z.name) (same_there _ _ _ asked.there (lent_there v s same slot x lent))

module _ (d e : Shown) (laws : IsDisk d) (v s : Session) (same : v ≡ s) (fit : IsNone v.failed → FitTogether v.pool v.volumes) (fresh : IsNone s.failed) (stands : StandsReady d s) (c : Command) (slot : ℕ) (x : VolumeState)
    (lent : state_at v.volumes slot ≡ Some x) (asked : IsAsked s.volumes slot c) (q : Pool) (y : VolumeState) (still : y ≡ x) (start steps : ℕ) (r : Result Reply VolumeFault) (asks : AsksState d v.pool x c start e q steps r)
    (new : Session) (result : Result Reply Fault) (replied : Replied e r (record v { volumes = with_state v.volumes slot (Some y); pool = q }) new result) where
  as_replied : Replied e r (record v { pool = q }) new result
  as_replied = subst (λ (n : Session). Replied e r n new result) (λ j. record v { volumes = put_back v.volumes slot x y lent still j; pool = q }) replied

  unfailed : IsNone v.failed
  unfailed = subst (λ (n : Session). IsNone n.failed) (sym same) fresh

  pub looks_lent : (table_named x (snapshot_asked c) ≡ None → r ≡ Err (volume.Refused NoSnapshot)) → Looks slot d s c e new result
  looks_lent lost = subst (λ (n : Session). Looks slot d n c e new result) same (looks_by d e laws v q c slot x lent start steps unfailed (subst (StandsReady d) (sym same) stands) (long_lent v s same fit fresh) r lost asks new result as_replied)

  pub known_lent : (last m : Machine) → StandsFor d s last m → MakesNoStep m c result start steps
  known_lent = subst (λ (n : Session). (last m : Machine) → StandsFor d n last m → MakesNoStep m c result start steps) same
      (known_by d e laws v q c slot x lent start steps unfailed (subst (StandsReady d) (sym same) stands) (long_lent v s same fit fresh) (asks_lent v s same slot x lent c asked) r asks new result as_replied)

  pub counts_lent : (last m : Machine) → StandsFor d s last m → IfOk result (λ reply. IfSome (state_at s.volumes slot) (λ z. CountsPath d s.pool z start steps reply c))
  counts_lent = subst (λ (n : Session). (last m : Machine) → StandsFor d n last m → IfOk result (λ reply. IfSome (state_at n.volumes slot) (λ z. CountsPath d n.pool z start steps reply c))) same
      (counts_by d e laws v q c slot x lent start steps unfailed (subst (StandsReady d) (sym same) stands) (long_lent v s same fit fresh) r asks new result as_replied)

-- the command asks for files of the volume that its name finds
pub asked_at : (states : States) (slot : ℕ) (name : List ℕ) (c : Command) → slot < 64 → has_range c ≡ true → is_named (state_at states slot) name ≡ true → volume_asked c ≡ Some name → IsAsked states slot c
asked_at states slot name c within near named asks =
    let of = named_there (state_at states slot) name named in
    record { within = within; near = near; state = of.0; there = of.1.0; asks = asks ∙ ap (λ (n : List ℕ). Some n) of.1.1 }

-- a volume that isn't there is refused at once
pub looks_missing : (d : Shown) → IsDisk d → (s : Session) → IsNone s.failed → StandsReady d s → length s.volumes ≡ 64 → (name : List ℕ) (c : Command) → volume_asked c ≡ Some name → has_range c ≡ true → NoneHasName s.volumes name
    → Looks (slot_named s.volumes name) d s c d s (Ok (Refused NoVolume))
looks_missing d laws s fresh stands long name c asks near none = looks_done d d laws s s.pool (reads_alone d d s.pool (reads_itself d) stands.stands.cache) fresh stands c (slot_named s.volumes name) (Refused NoVolume) refl
    (λ last m held. refused_allows m c NoVolume (asked_missing c name asks near m (subst (λ (k : Machine). fin.get k.volumes name ≡ None) held.machine (not_there d s.pool s.volumes long name none))))
    (λ last m held. no_path d s.pool (state_at s.volumes (slot_named s.volumes name)) NoVolume c)

-- a session of which blocks were read is asked as before
pub asked_read : (d : Shown) (s : Session) (e : Shown) (n : Session) (slot : ℕ) (c : Command) → WasRead d s e n → IsAsked s.volumes slot c → IsAsked n.volumes slot c
asked_read d s e n slot c read asked =
    let one = still_there s.volumes n.volumes read.volumes slot asked.state asked.there in
    record { within = asked.within; near = asked.near; state = one.0; there = one.1.0; asks = asked.asks ∙ ap (λ (n : List ℕ). Some n) one.1.1 }
