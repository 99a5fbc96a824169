-- Which volumes keep the numbers of their files in memory, and which have them after a command.
use Rattle.std.proofs.Common.{◌≡◌, ◌≢◌, ◌<◌, ◌≤◌, ℕ, true, false, List, Option, Some, None, Result, Ok, Err, length, true≢false, refl, sym, ap, subst, ◌∙◌, ⊎_elim, arith, get_or-set_other, get_or-set_same}
use Rattle.std.specs.Prelude.{OnOk}
use Rattle.std.specs.Option.{option_map}
use Rattle.std.proofs.lemmas.Bool.{cases_eq, cases_lt}
use Rattle.fv_disk.specs.Shown.{Shown}
use Rattle.fv_model.specs.declared.answers.Refusal.{Refusal}
use Rattle.fv_model.specs.declared.answers.Reply.{Reply}
use Rattle.fv_model.specs.declared.commands.Command.{Command}
use Rattle.fv_model.specs.declared.commands.Command.TheVariants.{VolDestroy, VolResize, VolGuarantee, New, Put, Cut, Remove}
use Rattle.fv_laws.proofs.Changes.{itself}
use Rattle.fv_model.specs.declared.commands.Kind.{Kind}
use Rattle.fv_model.specs.Spelling.{is_same_name}
use Rattle.fv_pool.specs.declared.pool.Pool.{Pool}
use Rattle.fv_disk.specs.Shown.{Shown}
use Rattle.fv_pool.specs.declared.fault.VolumeFault.{VolumeFault}
use Rattle.fv_volumes.specs.Destroying.{Destroys}
use Rattle.fv_volume.specs.Promising.{promised, PromisesOne}
use Rattle.fv_pool.specs.declared.fault.VolumeFault.{VolumeFault}
use Rattle.fv_pool.specs.declared.fault.VolumeFault.TheVariants as volume
use Rattle.fv_volume.specs.declared.state.VolumeState.{VolumeState}
use Rattle.fv_volume.specs.Changing.{keeps_numbers, IsChangeOf}
use Rattle.fv_volume.specs.Slots.{is_named, HasName}
use Rattle.fv_volume.specs.States.{States, state_at, with_state}
use Rattle.fv_cp.specs.Placing.{core_of, KeepCores}
use Rattle.fv_aggregate.specs.declared.fault.Fault.{Fault}
use Rattle.fv_aggregate.specs.declared.session.Session.{Session}
use Rattle.fv_aggregate.specs.Adding.{IsAdded}
use Rattle.fv_aggregate.specs.Commands.{loses_numbers}
use Rattle.fv_aggregate.specs.Known.{KeepsNumbers, KeepsNumbersBut, KnowsNamed, KnowsNumbers, MayLose}
use Rattle.fv_aggregate.specs.Looking.{Replied}
use Rattle.fv_aggregate.specs.Managing.{Manages}

-- ---- all of them

pub keeps_same : (old new : States) → new ≡ old → KeepsNumbers old new
keeps_same old new same s known = subst (λ (xs : States). KnowsNumbers (state_at xs s)) (sym same) known

pub keeps_core : (old new : States) → KeepCores old new → KeepsNumbers old new
keeps_core old new cores s known = subst (λ (t : Type 0). t) (sym (whole (state_at old s)) ∙ ap KnowsNumbers (sym (cores s)) ∙ whole (state_at new s)) known
  where
    whole : (o : Option VolumeState) → KnowsNumbers (option_map core_of o) ≡ KnowsNumbers o
    whole None = refl
    whole (Some x) = refl

pub keeps_but : (lost : ℕ → Type 0) (old new : States) → KeepsNumbers old new → KeepsNumbersBut lost old new
keeps_but lost old new kept s known stays = kept s known

-- ---- one slot

-- the volume of a slot gets another state with which it has its numbers, or may lose them
pub keeps_with : (lost : ℕ → Type 0) (old : States) (slot : ℕ) (o : Option VolumeState) → slot < length old → (KnowsNumbers (state_at old slot) → (lost slot → ⊥) → KnowsNumbers o) → KeepsNumbersBut lost old (with_state old slot o)
keeps_with lost old slot o inside its s known stays = ⊎_elim
    (λ (at : s ≡ slot). subst (λ (n : ℕ). KnowsNumbers (state_at (with_state old slot o) n)) (sym at)
    (subst KnowsNumbers (sym (get_or-set_same old slot o None inside))
    (its (subst (λ (n : ℕ). KnowsNumbers (state_at old n)) at known) (subst (λ (n : ℕ). lost n → ⊥) at stays))))
    (λ (differ : s ≢ slot). subst KnowsNumbers (sym (get_or-set_other old slot s o None differ)) known)
    (cases_eq s slot)

pub keeps_none : (old new : States) → KeepsNumbersBut (λ s. ⊥) old new → KeepsNumbers old new
keeps_none old new kept s known = kept s known (λ never. never)

-- a volume was added
pub keeps_added : (old : Session) (x : VolumeState) (room : ℕ) (new : Session) → IsAdded old x room new → KeepsNumbers old.volumes new.volumes
keeps_added old x room new added = subst (KeepsNumbers old.volumes) (sym added.put.row)
    (keeps_none old.volumes _ (keeps_with (λ s. ⊥) old.volumes x.slot (Some x) (let low = added.put.within in let long = added.fit.housed.long in omega (arith, low, long))
    (λ known stays. absurd (subst KnowsNumbers added.put.free known))))

-- ---- a command that changes files

-- the volume that a command changes may lose its numbers only where a file is made or removed
pub may_lose : (name : List ℕ) (c : Command) → IsChangeOf name c → keeps_numbers c ≡ false → loses_numbers c ≡ Some name
may_lose name (New v f reserve) is loses = ap (λ (n : List ℕ). Some n) is.0
may_lose name (Remove v f) is loses = ap (λ (n : List ℕ). Some n) is
may_lose name (Put v f i block) is loses = absurd (true≢false loses)
may_lose name (Cut v f n) is loses = absurd (true≢false loses)
may_lose name c is loses = absurd is

-- what a call answered for a volume leaves the volumes
pub replied_volumes : (d : Shown) (r : Result Reply VolumeFault) (old new : Session) (result : Result Reply Fault) → Replied d r old new result → new.volumes ≡ old.volumes
replied_volumes d (Ok y) old new result is = ap (λ (s : Session). s.volumes) is.1
replied_volumes d (Err (volume.Refused r)) old new result is = ap (λ (s : Session). s.volumes) is.1
replied_volumes d (Err volume.DiskFault) old new result is = ap (λ (s : Session). s.volumes) is.1.1.1.same
replied_volumes d (Err (volume.Damaged at want found)) old new result is = ap (λ (s : Session). s.volumes) is.1.1.1
replied_volumes d (Err volume.Memory) old new result is = ap (λ (s : Session). s.volumes) is.1.1.1

-- ---- the volume of a name

pub one_slot : (states : States) (name : List ℕ) (a b : ℕ) → HasName states a name → HasName states b name → a ≡ b
one_slot states name a b first second = ⊎_elim
    (λ (low : a < b). absurd (true≢false (sym first.named ∙ second.first a low)))
    (λ (high : b ≤ a). ⊎_elim
    (λ (low : b < a). absurd (true≢false (sym second.named ∙ first.first b low)))
    (λ (up : a ≤ b). omega (arith, up, high))
    (cases_lt b a))
    (cases_lt a b)

pub knows_named : (old : States) (name : List ℕ) (slot : ℕ) (new : States) → HasName old slot name → KnowsNumbers (state_at new slot) → KnowsNamed old name new
knows_named old name slot new has known other within named = subst (λ (n : ℕ). KnowsNumbers (state_at new n)) (one_slot old name slot other has named) known

-- so it is of the name by which a command has the volume
pub named_as : (old new : States) (r : Result Reply Fault) (other name : List ℕ) → other ≡ name → OnOk r (KnowsNamed old name new) → OnOk r (KnowsNamed old other new)
named_as old new r other name same known = subst (λ (n : List ℕ). OnOk r (KnowsNamed old n new)) (sym same) known

-- ---- a command on a whole volume

-- what a call on the volumes left
promised_keeps : (old : Session) (c : Command) (name : List ℕ) (blocks : ℕ) (size : VolumeState → ℕ) (kind : VolumeState → Kind) (new : States) (r : Result Unit Refusal) → length old.volumes ≡ 64
    → PromisesOne old.volumes blocks c name size kind new r → KeepsNumbers old.volumes new
promised_keeps old c name blocks size kind new (Err r) long is = keeps_same old.volumes new is.stays
promised_keeps old c name blocks size kind new (Ok u) long is = let done = is.done in subst (KeepsNumbers old.volumes) (sym done.row)
    (keeps_none old.volumes _ (keeps_with (λ s. ⊥) old.volumes done.slot (Some (promised done.state (size done.state) (kind done.state))) (let low = done.within in omega (arith, low, long))
    (λ known stays. subst KnowsNumbers done.there known)))

is_own : (a b : List ℕ) → a ≡ b → is_same_name a b ≡ true
is_own a b same = subst (λ (n : List ℕ). is_same_name a n ≡ true) same (itself a)

-- what a removal left
pub gone_keeps : (disk : Shown) (old : Session) (v : List ℕ) (new : States) (left : Pool) (r : Result Unit VolumeFault) → length old.volumes ≡ 64 → Destroys disk old.volumes old.pool v new left r → KeepsNumbersBut (MayLose (VolDestroy v) old.volumes) old.volumes new
gone_keeps disk old v new left (Err r) long is = keeps_but _ old.volumes new (keeps_same old.volumes new is.stays.0)
gone_keeps disk old v new left (Ok u) long is = let done = is.done in subst (KeepsNumbersBut (MayLose (VolDestroy v) old.volumes) old.volumes) (sym done.gone.row)
    (keeps_with (MayLose (VolDestroy v) old.volumes) old.volumes done.slot None (let low = done.within in omega (arith, low, long))
    (λ known stays. stays (v, (refl, ap (λ (o : Option VolumeState). is_named o v) done.there ∙ is_own done.state.name v done.named))))

pub keeps_managed : (old : Session) (c : Command) (new : Session) (reply : Reply) → length old.volumes ≡ 64 → Manages old c new reply → KeepsNumbersBut (MayLose c old.volumes) old.volumes new.volumes
keeps_managed old (VolResize v size) new reply long is = keeps_but _ old.volumes new.volumes (promised_keeps old (VolResize v size) v old.pool.found.blocks _ _ new.volumes is.result long is.answers.1)
keeps_managed old (VolGuarantee v kind) new reply long is = keeps_but _ old.volumes new.volumes (promised_keeps old (VolGuarantee v kind) v old.pool.found.blocks _ _ new.volumes is.result long is.answers.1)
keeps_managed old c new reply long is = keeps_but _ old.volumes new.volumes (keeps_same old.volumes new.volumes (ap (λ (k : Session). k.volumes) is.0))
