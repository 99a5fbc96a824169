-- One step of a volume, before which room is made and files are placed: its name stays, and that not all its places are known.
use Rattle.std.proofs.Common.{◌≡◌, ◌<◌, ◌≤◌, ◌+◌, ℕ, Bool, true, false, true≢false, cond, List, length, Option, Some, None, Result, Ok, Err, inl, inr, refl, sym, ap, subst, ◌∙◌, arith, length-set}
use Rattle.std.specs.Prelude.{IfOk, IsNone, IsTrue, OnErr, OnOk}
use Rattle.std.specs.Option.{option_map}
use Rattle.fv_disk.specs.Shown.{Shown}
use Rattle.fv_disk.specs.DiskCalls.{OnlyReads}
use Rattle.fv_disk.proofs.Resting.{reads_then}
use Rattle.fv_model.specs.Machines.{Machine}
use Rattle.fv_model.specs.Spelling.{is_same_name}
use Rattle.fv_pool.specs.declared.pool.Pool.{Pool}
use Rattle.fv_pool.specs.Calls.{Reads}
use Rattle.fv_volume.specs.declared.state.VolumeState.{VolumeState}
use Rattle.fv_volume.specs.Held.{core_of}
use Rattle.fv_volume.specs.Slots.{is_named, HasName}
use Rattle.fv_volume.specs.States.{States, state_at}
use Rattle.fv_cleaner.specs.Cleaning.{Steps, StepsIn}
use Rattle.fv_cleaner.specs.Stepping.{CleansVolume}
use Rattle.fv_cp.specs.Placing.{HaveNoFiles, KeepCores}
use Rattle.fv_aggregate.specs.declared.fault.Fault.{Fault}
use Rattle.fv_aggregate.specs.declared.session.Session.{Session}
use Rattle.fv_aggregate.specs.Cleaning.{CleansOnce}
use Rattle.fv_aggregate.specs.Commands.{dirty_limit}
use Rattle.fv_aggregate.specs.Standing.{StandsAfter, StandsFor}
use Rattle.fv_aggregate.specs.Working.{is_unclean, step_room, todo, todo_at, Backs, FallsAt, PlacesAll, StepsOn, TakesStep}
use Rattle.fv_aggregate.proofs.Replaced.{same_slot}
use Rattle.fv_aggregate.proofs.Worked.{unclean_there, IsThere}
use Rattle.fv_aggregate.proofs.WorkedCalls.{backs_err, backs_then}
use Rattle.fv_aggregate.proofs.WorkedOthers.{left_read}
use Rattle.fv_aggregate.proofs.WorkedSince.{ready_backs, still_reads, MadeRoom}

-- ---- what stays of the volumes

-- a volume's name, and whether it knows all its places
abbrev pub said : VolumeState → List ℕ × Bool
said x = (x.name, x.known)

-- each slot has a volume of that name still, which knows its places or doesn't as it did
abbrev pub SaySame : States → States → Type 0
SaySame old new = (s : ℕ) → option_map said (state_at new s) ≡ option_map said (state_at old s)

abbrev unclean_by : Option (List ℕ × Bool) → Bool
unclean_by None = false
unclean_by (Some e) = cond e.1 false true

abbrev named_by : List ℕ → Option (List ℕ × Bool) → Bool
named_by name None = false
named_by name (Some e) = is_same_name e.0 name

unclean_said : (o : Option VolumeState) → unclean_by (option_map said o) ≡ is_unclean o
unclean_said None = refl
unclean_said (Some x) = refl

named_said : (name : List ℕ) (o : Option VolumeState) → named_by name (option_map said o) ≡ is_named o name
named_said name None = refl
named_said name (Some x) = refl

module _ (old new : States) (same : SaySame old new) where
  pub same_unclean : (s : ℕ) → is_unclean (state_at new s) ≡ is_unclean (state_at old s)
  same_unclean s = sym (unclean_said (state_at new s)) ∙ ap unclean_by (same s) ∙ unclean_said (state_at old s)

  pub same_named : (s : ℕ) (name : List ℕ) → is_named (state_at new s) name ≡ is_named (state_at old s) name
  same_named s name = sym (named_said name (state_at new s)) ∙ ap (named_by name) (same s) ∙ named_said name (state_at old s)

  pub still_named : (slot : ℕ) (name : List ℕ) → HasName old slot name → HasName new slot name
  still_named slot name has = record { named = same_named slot name ∙ has.named; first = λ s low. same_named s name ∙ has.first s low }

pub say_then : (a b c : States) → SaySame a b → SaySame b c → SaySame a c
say_then a b c first second s = second s ∙ first s

pub say_cores : (old new : States) → KeepCores old new → SaySame old new
say_cores old new cores s = sym (whole (state_at new s)) ∙ ap (option_map said) (cores s) ∙ whole (state_at old s)
  where
    whole : (o : Option VolumeState) → option_map said (option_map core_of o) ≡ option_map said o
    whole None = refl
    whole (Some x) = refl

cleaned_said : (disk : Shown) (pool : Pool) (x : VolumeState) (left : Pool) (y : VolumeState) → CleansVolume disk pool x left y true → said y ≡ said x
cleaned_said disk pool x left y (inl block) = ap said block.state
cleaned_said disk pool x left y (inr roots) = ap said roots.roots.state

-- a step leaves it so
pub say_stepped : (slot : ℕ) (d : Shown) (s : Session) (e : Shown) (n : Session) → length s.volumes ≡ 64 → is_unclean (state_at s.volumes slot) ≡ true → (took : Bool) → StepsOn slot d s e n took → SaySame s.volumes n.volumes
say_stepped slot d s e n long unclean false steps k = ap (λ (p : Session). option_map said (state_at p.volumes k)) steps.1
say_stepped slot d s e n long unclean true steps k =
    let there : IsThere (state_at s.volumes slot) = unclean_there (state_at s.volumes slot) unclean in
    let did : Steps d s.pool s.volumes slot there.x n.pool n.volumes true = subst (λ (o : Option VolumeState). StepsIn d s.pool s.volumes slot o n.pool n.volumes true) there.is steps.0 in
    ap (λ (ss : States). option_map said (state_at ss k)) did.others
    ∙ same_slot s.volumes long slot there.x did.volume there.is (λ m o. option_map said o) (ap (λ (e : List ℕ × Bool). Some e) (cleaned_said d s.pool there.x n.pool did.volume did.cleans)) k

long_stepped : (slot : ℕ) (d : Shown) (s : Session) (e : Shown) (n : Session) → length s.volumes ≡ 64 → is_unclean (state_at s.volumes slot) ≡ true → (took : Bool) → StepsOn slot d s e n took → length n.volumes ≡ 64
long_stepped slot d s e n long unclean false steps = ap (λ (p : Session). length p.volumes) steps.1 ∙ long
long_stepped slot d s e n long unclean true steps =
    let there : IsThere (state_at s.volumes slot) = unclean_there (state_at s.volumes slot) unclean in
    let did : Steps d s.pool s.volumes slot there.x n.pool n.volumes true = subst (λ (o : Option VolumeState). StepsIn d s.pool s.volumes slot o n.pool n.volumes true) there.is steps.0 in
    ap length did.others ∙ length-set s.volumes slot (Some did.volume) ∙ long

-- what is left to do in a volume after a read is what was left
still_todo : (d e : Shown) (p q : Pool) → Reads d p e q → (o : Option VolumeState) → todo_at e.reads q o ≡ todo_at d.reads p o
still_todo d e p q reads None = refl
still_todo d e p q reads (Some z) = ap (λ (n : ℕ). cond z.known 0 n) (left_read d e p q z reads.leaves reads.only_reads)

-- ---- one step

module _ {D : Type 0} (shown : D → Shown) (slot : ℕ) (first second third : D) (s n o : Session) (unclean : is_unclean (state_at s.volumes slot) ≡ true)
    (made : MadeRoom shown first s second n) (placed : PlacesAll shown second n third o (Ok tt)) where
  abbrev roomy_backs : Backs {T = Unit {0}} 0 (shown first) s (shown third) o (Ok tt)
  roomy_backs = ready_backs shown first second third s n o made placed

  say_placed : SaySame s.volumes o.volumes
  say_placed = say_then s.volumes n.volumes o.volumes (say_cores s.volumes n.volumes made.cores) (say_cores n.volumes o.volumes placed.cores)

  pub unclean_placed : is_unclean (state_at o.volumes slot) ≡ true
  unclean_placed = same_unclean s.volumes o.volumes say_placed slot ∙ unclean

  pub cleaned_once : (last_disk : D) (p : Session) (r : Result Bool Fault) → TakesStep slot (shown third) o (shown last_disk) p r → CleansOnce slot (shown first) s (shown last_disk) p r
  cleaned_once last_disk p r step = record {
    backs = backs_then tt 0 1 1 (omega arith) (shown first) s (shown third) o roomy_backs (shown last_disk) p r step.backs;
    long = long_still r step.steps;
    none = on r step.none;
    unclean = unclean_still r step.steps;
    named = λ name has. named_still name has r step.steps;
    roots = step.roots unclean_placed;
    least = λ tells last m is. let at = stood tells last m is in least r step.steps (step.falls (tells_then tells) at.point m at.stands);
    falls = λ tells last m is none. let at = stood tells last m is in falls r (same_todo tells last m is none) (step.falls (tells_then tells) at.point m at.stands);
    undone = λ tells last m is none still. undone r (same_todo tells last m is none) step.undone;
    calm = λ within. reads_then (shown first) (shown third) (shown last_disk)
        (reads_then (shown first) (shown second) (shown third) (still_reads shown first second (made.calm within).0) placed.only_reads)
        step.only_reads;
  }
    where
      tells_then : IsTrue (shown first).tells → IsTrue (shown third).tells
      tells_then tells = subst IsTrue (sym roomy_backs.ends.tells) tells

      stood : IsTrue (shown first).tells → (last m : Machine) → StandsFor (shown first) s last m → StandsAfter (shown third) o last m m
      stood tells last m is = (roomy_backs.stays tells last m is).stands roomy_backs.done.0

      same_todo : IsTrue (shown first).tells → (last m : Machine) → StandsFor (shown first) s last m → HaveNoFiles s.volumes → todo (shown third) o ≡ todo (shown first) s
      same_todo tells last m is none =
          let idle = placed.idle (made.files none) in
          (λ j. todo (shown (idle.0 j)) (idle.1 j)) ∙ made.left tells last m is none

      say_all : (took : Bool) → StepsOn slot (shown third) o (shown last_disk) p took → SaySame s.volumes p.volumes
      say_all took steps = say_then s.volumes o.volumes p.volumes say_placed (say_stepped slot (shown third) o (shown last_disk) p placed.long unclean_placed took steps)

      on : (r : Result Bool Fault) → HaveNoFiles p.volumes → OnOk r (HaveNoFiles p.volumes)
      on (Ok b) is = is
      on (Err f) is = tt

      long_still : (r : Result Bool Fault) → IfOk r (StepsOn slot (shown third) o (shown last_disk) p) → OnOk r (length p.volumes ≡ 64)
      long_still (Ok took) steps = long_stepped slot (shown third) o (shown last_disk) p placed.long unclean_placed took steps
      long_still (Err f) steps = tt

      unclean_still : (r : Result Bool Fault) → IfOk r (StepsOn slot (shown third) o (shown last_disk) p) → OnOk r (is_unclean (state_at p.volumes slot) ≡ true)
      unclean_still (Ok took) steps = same_unclean s.volumes p.volumes (say_all took steps) slot ∙ unclean
      unclean_still (Err f) steps = tt

      named_still : (name : List ℕ) → HasName s.volumes slot name → (r : Result Bool Fault) → IfOk r (StepsOn slot (shown third) o (shown last_disk) p) → OnOk r (HasName p.volumes slot name)
      named_still name has (Ok took) steps = still_named s.volumes p.volumes (say_all took steps) slot name has
      named_still name has (Err f) steps = tt

      least : (r : Result Bool Fault) → IfOk r (StepsOn slot (shown third) o (shown last_disk) p) → IfOk r (FallsAt slot (shown third) o (shown last_disk) p)
          → IfOk r (λ took. took ≡ false → todo_at (shown last_disk).reads p.pool (state_at p.volumes slot) ≡ 0)
      least (Ok true) steps is = λ isnt. absurd (true≢false isnt)
      least (Ok false) steps is = λ same.
          ap (λ (ss : States). todo_at (shown last_disk).reads p.pool (state_at ss slot)) (ap (λ (k : Session). k.volumes) steps.1)
          ∙ still_todo (shown third) (shown last_disk) o.pool p.pool steps.0 (state_at o.volumes slot) ∙ is
      least (Err f) steps is = tt

      falls : (r : Result Bool Fault) → todo (shown third) o ≡ todo (shown first) s → IfOk r (FallsAt slot (shown third) o (shown last_disk) p) → IfOk r (λ took. took ≡ true → todo (shown last_disk) p < todo (shown first) s)
      falls (Ok true) same is = λ yes. omega (arith, is, same)
      falls (Ok false) same is = λ isnt. absurd (true≢false (sym isnt))
      falls (Err f) same is = tt

      undone : (r : Result Bool Fault) → todo (shown third) o ≡ todo (shown first) s → OnErr r (todo (shown last_disk) p ≡ todo (shown third) o) → OnErr r (todo (shown last_disk) p ≡ todo (shown first) s)
      undone (Ok took) same is = tt
      undone (Err f) same is = is ∙ same

-- a fault before it
pub uncleaned : (slot : ℕ) (d : Shown) (s : Session) (e : Shown) (n : Session) (f : Fault) → Backs {T = Unit {0}} 0 d s e n (Err f) → (HaveNoFiles s.volumes → IsNone n.failed → todo e n ≡ todo d s)
    → (s.pending + step_room ≤ dirty_limit → OnlyReads d e) → CleansOnce slot d s e n (Err f)
uncleaned slot d s e n f is undone calm = record {
  backs = backs_err 0 1 (omega arith) d s e n f is;
  long = tt;
  none = tt;
  unclean = tt;
  named = λ name has. tt;
  roots = tt;
  least = λ tells last m was. tt;
  falls = λ tells last m was none. tt;
  undone = λ tells last m was none still. undone none still;
  calm = calm;
}

pub unplaced_clean : {D : Type 0} (shown : D → Shown) (slot : ℕ) (first second third : D) (s n o : Session) (f : Fault) → MadeRoom shown first s second n → PlacesAll shown second n third o (Err f)
    → CleansOnce slot (shown first) s (shown third) o (Err f)
unplaced_clean shown slot first second third s n o f made placed = uncleaned slot (shown first) s (shown third) o f
    (backs_then tt 0 0 0 (omega arith) (shown first) s (shown second) n made.backs (shown third) o (Err f) placed.backs)
    (λ none still. absurd (placed.filed (made.files none)))
    (λ within. reads_then (shown first) (shown second) (shown third) (still_reads shown first second (made.calm within).0) placed.only_reads)
