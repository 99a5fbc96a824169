-- What a ledger after a change tells, and what the machine says of the space for a command.
use Rattle.std.proofs.Common.{◌≡◌, ℕ, ◌+◌, ◌*◌, ℤ, pos, ◌+ℤ◌, Bool, true, false, cond, nat_lt, List, Option, Some, None, Result, Ok, Err, refl, sym, ap, ap₂, ◌∙◌, arith}
use Rattle.std.specs.Option.{option_map_or}
use Rattle.std.proofs.lemmas.Int.{ints}
use Rattle.fv_model.specs.declared.answers.Refusal.{Refusal}
use Rattle.fv_model.specs.declared.answers.Refusal.TheVariants.{VolumeFull, AggregateFull}
use Rattle.fv_model.specs.declared.commands.Kind.{Kind}
use Rattle.fv_model.specs.declared.commands.Kind.TheVariants.{Volume as Whole, File as ByFile, Thin}
use Rattle.fv_model.specs.declared.commands.Command.{Command}
use Rattle.fv_model.specs.Volumes.{Volume}
use Rattle.fv_model.specs.Machines.{Machine, capacity}
use Rattle.fv_model.specs.Space.{charge, need, use_of, overhead, promised, commit}
use Rattle.fv_model.specs.Effects.{effect}
use Rattle.fv_model.specs.Refusals.{is_volume_full, is_aggregate_full}
use Rattle.fv_charge.specs.declared.ledger.Ledger.{Ledger}
use Rattle.fv_charge.specs.declared.delta.Delta.{Delta}
use Rattle.fv_charge.specs.Ledgers.{IsLedgerOf, promised_to, committed}
use Rattle.fv_charge.specs.Changes.{Moves, IsChanged, IsDeltaOf, admission, IsLeft, answer_of, machine_answer}

-- a change leads to one ledger
same_number : (a b d : ℕ) (by : ℤ) → Moves a by b → Moves a by d → b ≡ d
same_number a b d by first second = let same : pos b ≡ pos d = first ∙ sym second in omega (arith, ints, same)

pub one_ledger : (before : Ledger) (d : Delta) (l k : Ledger) → IsChanged before d l → IsChanged before d k → l ≡ k
one_ledger before d l k first second = λ i. record {
  charge = same_number before.charge l.charge k.charge d.charge first.charge second.charge i;
  need = same_number before.need l.need k.need d.need first.need second.need i;
  size = (first.size ∙ sym second.size) i;
  kind = (first.kind ∙ sym second.kind) i;
  span = (first.span ∙ sym second.span) i;
}

moved_on : (a b c d : ℕ) (by : ℤ) → Moves a by b → c ≡ a → Moves c by d → d ≡ b
moved_on a b c d by first same second = let equal : pos d ≡ pos b = second ∙ ap (λ n. pos n +ℤ by) same ∙ sym first in omega (arith, ints, equal)

-- The ledger of a volume changes into that of the volume after the change.
pub changed_ledger : (x y : Volume) (l k : Ledger) (d : Delta) → IsLedgerOf x l → IsDeltaOf x y d → IsChanged l d k → IsLedgerOf y k
changed_ledger x y l k d is delta changed = record {
  charged = moved_on (charge x) (charge y) l.charge k.charge d.charge delta.charge is.charged changed.charge;
  needed = moved_on (need x) (need y) l.need k.need d.need delta.need is.needed changed.need;
  size = changed.size ∙ delta.size;
  kind = changed.kind ∙ delta.kind;
  span = changed.span ∙ is.span ∙ sym delta.span;
}

-- A ledger of a volume commits what the volume does.
promised_is : (v : Volume) (l : Ledger) → IsLedgerOf v l → (k : Kind) → promised_to l k ≡ promised v k
promised_is v l is Whole = is.size
promised_is v l is ByFile = ap₂ (λ (a b : ℕ). a + b) is.charged is.needed
promised_is v l is Thin = ap₂ (λ (a b : ℕ). a + b) is.charged is.needed

pub commit_is : (v : Volume) (l : Ledger) → IsLedgerOf v l → committed l ≡ commit v
commit_is v l is = (λ i. 2 * overhead (is.span i) + promised_to l (is.kind i)) ∙ ap (λ (n : ℕ). 2 * overhead v.span + n) (promised_is v l is v.kind)

-- A volume's ledger and the others' commits decide as the machine does.
pub machine_admits : (m : Machine) (c : Command) (v : List ℕ) (l : Ledger) (others blocks : ℕ) → IsLeft m c v l others blocks → admission l others blocks ≡ machine_answer m c v
machine_admits m c v l others blocks left =
    (λ i. cond (full i) (Err VolumeFull) (cond (all i) (Err AggregateFull) (Ok tt))) ∙ so (is_volume_full (effect m c) v) (is_aggregate_full (effect m c))
  where
    full : nat_lt l.size (l.charge + l.need) ≡ is_volume_full (effect m c) v
    full = (λ i. nat_lt (left.ledger.size i) (left.ledger.charged i + left.ledger.needed i)) ∙ sym (ap (λ (o : Option Volume). option_map_or (λ (w : Volume). nat_lt w.size (use_of w)) o false) left.there)

    all : nat_lt blocks (others + committed l) ≡ is_aggregate_full (effect m c)
    all = (λ i. nat_lt (left.capacity i) (others + commit_is left.volume l left.ledger i)) ∙ ap (nat_lt (capacity (effect m c).blocks)) (sym left.sum)

    so : (a b : Bool) → ◌≡◌ {A = Result Unit Refusal} (cond a (Err VolumeFull) (cond b (Err AggregateFull) (Ok tt))) (answer_of (cond a (Some VolumeFull) (cond b (Some AggregateFull) None)))
    so true b = refl
    so false true = refl
    so false false = refl
