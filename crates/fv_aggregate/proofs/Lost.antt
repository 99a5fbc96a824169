-- A command that asks a snapshot which its volume hasn't is refused for it at once.
use Rattle.std.proofs.Common.{◌≡◌, ◌<◌, ℕ, Bool, true, false, List, Option, Some, None, Result, Ok, Err, true≢false, refl, sym, ap, subst, ◌∙◌, ⊎_elim, arith}
use Rattle.std.specs.Prelude.{IfOk, IfSome}
use Rattle.std.specs.Option.{is_none}
use Rattle.std.proofs.lemmas.Bool.{cases_lt}
use Rattle.fv_disk.specs.Shown.{Shown}
use Rattle.fv_model.specs.declared.answers.Refusal.{Refusal}
use Rattle.fv_model.specs.declared.answers.Refusal.TheVariants.{NoSnapshot, Range}
use Rattle.fv_model.specs.declared.answers.Reply.{Reply}
use Rattle.fv_model.specs.declared.answers.Reply.TheVariants.{Refused}
use Rattle.fv_model.specs.declared.commands.Command.{Command}
use Rattle.fv_pool.specs.declared.fault.VolumeFault.{VolumeFault}
use Rattle.fv_pool.specs.declared.fault.VolumeFault.TheVariants as volume
use Rattle.fv_pool.specs.declared.pool.Pool.{Pool}
use Rattle.fv_volume.specs.declared.state.VolumeState.{VolumeState}
use Rattle.fv_volume.specs.Asking.{table_named, IsRefusedUnread, RefusesLost}
use Rattle.fv_volume.specs.Slots.{HasName, is_named}
use Rattle.fv_volume.specs.States.{States, state_at, with_state}
use Rattle.fv_aggregate.specs.declared.fault.Fault.{Fault}
use Rattle.fv_aggregate.specs.declared.session.Session.{Session}
use Rattle.fv_container.specs.Chains.{slot_count}
use Rattle.fv_aggregate.specs.Calls.{IsUntouched, LacksSnapshot}
use Rattle.fv_aggregate.specs.Commands.{finds_file, is_refusal, snapshot_asked, volume_asked}
use Rattle.fv_aggregate.specs.Looking.{Replied}
use Rattle.fv_aggregate.proofs.Missing.{asked_cases}
use Rattle.fv_aggregate.proofs.Returned.{lent_has, put_back}

-- ---- by what a volume answers

ok_err : (T : Type 0) (y : T) (f : VolumeFault) → ◌≡◌ {A = Result T VolumeFault} (Ok y) (Err f) → ⊥
ok_err T y f is = cc

pub same_err : (T : Type 0) (f h : VolumeFault) → ◌≡◌ {A = Result T VolumeFault} (Err f) (Err h) → f ≡ h
same_err T f h is = cc

module _ (D : Type 0) (x : VolumeState) (old new : D) (p q : Pool) (c : Command) (s : Option (List ℕ)) (is : snapshot_asked c ≡ s) (none : table_named x (snapshot_asked c) ≡ None) (T : Type 0) where
  abbrev gone : table_named x s ≡ None
  gone = subst (λ (o : Option (List ℕ)). table_named x o ≡ None) is none

  -- it answers nothing
  pub none_answered : (X : Type 0) (y : T) → RefusesLost {D = D} {T = T} x s old p new q (Ok y) → X
  none_answered X y refuses = absurd (ok_err T y (volume.Refused NoSnapshot) (refuses.lost gone).answer)

  -- and refuses
  pub refused_lost : (f : VolumeFault) → RefusesLost {D = D} {T = T} x s old p new q (Err f) → IsRefusedUnread {D = D} {T = Reply} NoSnapshot old p new q (Err f)
  refused_lost f refuses =
      let at = refuses.lost gone in
      record { answer = ap (λ (h : VolumeFault). Err h) (same_err T f (volume.Refused NoSnapshot) at.answer); same_disk = at.same_disk; same_pool = at.same_pool }

-- ---- only for it

err_ok : (reply : Reply) (f : Fault) (X : Type 0) → ◌≡◌ {A = Result Reply Fault} (Err f) (Ok reply) → X
err_ok reply f X is = absurd (let no : ⊥ = cc in no)

-- a fault of a session is no refusal
no_answer : (w : Refusal) (X : Type 0) (f : Fault) (result : Result Reply Fault) → result ≡ Err f → result ≡ Ok (Refused w) → X
no_answer w X f result failed answer = err_ok (Refused w) f X (sym failed ∙ answer)

pub no_refusal : (X : Type 0) (f : Fault) (result : Result Reply Fault) → result ≡ Err f → result ≡ Ok (Refused NoSnapshot) → X
no_refusal = no_answer NoSnapshot

range_differs : volume.Refused NoSnapshot ≡ volume.Refused Range → ⊥
range_differs is = cc

module _ (D : Type 0) (x : VolumeState) (old new : D) (p q : Pool) (c : Command) (s : Option (List ℕ)) (is : snapshot_asked c ≡ s) (T : Type 0) (f : VolumeFault)
    (answer : ◌≡◌ {A = Result Reply VolumeFault} (Err f) (Err (volume.Refused NoSnapshot))) where
  refused : f ≡ volume.Refused NoSnapshot
  refused = same_err Reply f (volume.Refused NoSnapshot) answer

  -- the volume lacks the snapshot,
  pub lost_alone : RefusesLost {D = D} {T = T} x s old p new q (Err f) → table_named x (snapshot_asked c) ≡ None
  lost_alone refuses = subst (λ (o : Option (List ℕ)). table_named x o ≡ None) (sym is) (refuses.only (ap (λ (h : VolumeFault). Err h) refused))

  -- and an index that no file can have is refused as that
  pub lost_within : (b : Bool) → (b ≡ false → IsRefusedUnread {D = D} {T = T} Range old p new q (Err f)) → (b ≡ true → RefusesLost {D = D} {T = T} x s old p new q (Err f)) → table_named x (snapshot_asked c) ≡ None
  lost_within true range lost = lost_alone (lost refl)
  lost_within false range lost = absurd (range_differs (sym refused ∙ same_err T f (volume.Refused Range) (range refl).answer))

-- what a session answers for it, and for any refusal
pub replied_as : (w : Refusal) (e : Shown) (r : Result Reply VolumeFault) (old new : Session) (result : Result Reply Fault) → r ≡ Err (volume.Refused w) → Replied e r old new result → (result ≡ Ok (Refused w)) × (new ≡ old)
replied_as w e r old new result is replied = subst (λ (z : Result Reply VolumeFault). Replied e z old new result) is replied

pub replied_lost : (e : Shown) (r : Result Reply VolumeFault) (old new : Session) (result : Result Reply Fault) → r ≡ Err (volume.Refused NoSnapshot) → Replied e r old new result → (result ≡ Ok (Refused NoSnapshot)) × (new ≡ old)
replied_lost = replied_as NoSnapshot

-- a session whose volume was lent to the call is as it was
pub lost_lent : {D : Type 0} (disk left : D) (e : Shown) (v s : Session) → v ≡ s → (slot : ℕ) (x : VolumeState) → state_at v.volumes slot ≡ Some x → (c : Command) (q : Pool) (y : VolumeState) → y ≡ x → (r : Result Reply VolumeFault)
    → (table_named x (snapshot_asked c) ≡ None → IsRefusedUnread NoSnapshot disk v.pool left q r) → (new : Session) (result : Result Reply Fault) → Replied e r (record v { volumes = with_state v.volumes slot (Some y); pool = q }) new result
    → IfSome (state_at s.volumes slot) (λ z. table_named z (snapshot_asked c) ≡ None → (result ≡ Ok (Refused NoSnapshot)) × IsUntouched disk s left new)
lost_lent disk left e v s same slot x lent c q y still r refuses new result replied = lent_has v s same slot x lent (λ z. table_named z (snapshot_asked c) ≡ None → (result ≡ Ok (Refused NoSnapshot)) × IsUntouched disk s left new)
    (λ none.
    let at = refuses none in
    let is = replied_lost e r (record v { volumes = with_state v.volumes slot (Some y); pool = q }) new result at.answer replied in
    (is.0, (at.same_disk, is.1 ∙ (λ j. record v { volumes = put_back v.volumes slot x y lent still j; pool = at.same_pool j }) ∙ same)))

same_refusal : (r w : Refusal) → ◌≡◌ {A = Result Reply Fault} (Ok (Refused r)) (Ok (Refused w)) → r ≡ w
same_refusal r w is = cc

same_reply : (a b : Reply) → ◌≡◌ {A = Result Reply Fault} (Ok a) (Ok b) → a ≡ b
same_reply a b is = cc

-- it answers so only where the volume did
pub replied_only_as : (w : Refusal) (e : Shown) (r : Result Reply VolumeFault) (old new : Session) (result : Result Reply Fault) → IfOk r (λ reply. is_refusal reply ≡ false) → Replied e r old new result → result ≡ Ok (Refused w) → r ≡ Err (volume.Refused w)
replied_only_as w e (Ok reply) old new result told replied is = absurd (true≢false (sym (ap is_refusal (same_reply reply (Refused w) (sym replied.0 ∙ is))) ∙ told))
replied_only_as w e (Err (volume.Refused r)) old new result told replied is = ap (λ (k : Refusal). Err (volume.Refused k)) (same_refusal r w (sym replied.0 ∙ is))
replied_only_as w e (Err volume.DiskFault) old new result told replied is = no_answer w _ replied.0 result replied.1.0 is
replied_only_as w e (Err (volume.Damaged at want found)) old new result told replied is = no_answer w _ replied.0 result replied.1.0 is
replied_only_as w e (Err volume.Memory) old new result told replied is = no_answer w _ replied.0 result replied.1.0 is

pub replied_only : (e : Shown) (r : Result Reply VolumeFault) (old new : Session) (result : Result Reply Fault) → IfOk r (λ reply. is_refusal reply ≡ false) → Replied e r old new result → result ≡ Ok (Refused NoSnapshot) → r ≡ Err (volume.Refused NoSnapshot)
replied_only = replied_only_as NoSnapshot

-- ---- whether a snapshot is asked

no_snapshot : (s : Option (List ℕ)) → is_none s ≡ true → s ≡ None
no_snapshot None is = refl
no_snapshot (Some name) is = absurd cc

-- a command that finds a file by the numbers in memory asks the active table, which is there
pub finds_active : (c : Command) (name : List ℕ) → volume_asked c ≡ Some name → finds_file c ≡ true → snapshot_asked c ≡ None
finds_active c name asks = asked_cases (λ (k : Command). finds_file k ≡ true → snapshot_asked k ≡ None) name (λ s f i is. no_snapshot s is) (λ s f is. no_snapshot s is) (λ s is. absurd cc) (λ f i is. refl) c asks

pub active_there : (X : Type 0) (x : VolumeState) (c : Command) → snapshot_asked c ≡ None → table_named x (snapshot_asked c) ≡ None → X
active_there X x c active none = absurd (let gone : table_named x None ≡ None = subst (λ (o : Option (List ℕ)). table_named x o ≡ None) active none in cc)

pub none_lost : (o : Option VolumeState) (c : Command) → snapshot_asked c ≡ None → (X : Type 0) → IfSome o (λ x. table_named x (snapshot_asked c) ≡ None → X)
none_lost None c active X = tt
none_lost (Some x) c active X = active_there X x c active

-- ---- the volume of a name

-- a name finds one slot
pub same_slot : (states : States) (name : List ℕ) (a b : ℕ) → HasName states a name → HasName states b name → a ≡ b
same_slot states name a b one other = ⊎_elim
    (λ (less : a < b). absurd (true≢false (sym one.named ∙ other.first a less)))
    (λ most. ⊎_elim (λ (less : b < a). absurd (true≢false (sym other.named ∙ one.first b less))) (λ least. omega (arith, most, least)) (cases_lt b a))
    (cases_lt a b)

-- what is said of the volume in the slot that the name finds is so of the one that lacks the snapshot
pub of_lacking : (states : States) (slot : ℕ) (name : List ℕ) (c : Command) → HasName states slot name → LacksSnapshot states name c → (X : Type 0) → IfSome (state_at states slot) (λ x. table_named x (snapshot_asked c) ≡ None → X) → X
of_lacking states slot name c found lacks X says =
    let here : state_at states slot ≡ Some lacks.state = subst (λ (k : ℕ). state_at states k ≡ Some lacks.state) (same_slot states name lacks.slot slot lacks.named found) lacks.there in
    subst (λ (o : Option VolumeState). IfSome o (λ x. table_named x (snapshot_asked c) ≡ None → X)) here says lacks.none

-- a volume that is named and has no such snapshot lacks it
pub lacking : (states : States) (slot : ℕ) (name : List ℕ) (c : Command) → slot < slot_count → HasName states slot name → IfSome (state_at states slot) (λ x. table_named x (snapshot_asked c) ≡ None) → LacksSnapshot states name c
lacking states slot name c within named = so (state_at states slot) refl
  where
    so : (o : Option VolumeState) → state_at states slot ≡ o → IfSome o (λ x. table_named x (snapshot_asked c) ≡ None) → LacksSnapshot states name c
    so None there none = absurd (true≢false (sym named.named ∙ ap (λ (o : Option VolumeState). is_named o name) there))
    so (Some x) there none = record { slot = slot; within = within; named = named; state = x; there = there; none = none }
