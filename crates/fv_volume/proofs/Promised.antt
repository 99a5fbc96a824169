-- A volume with another size or another kind of guarantee: what the machine says of it, and that it is one of a session still.
use Rattle.std.proofs.Common.{◌≡◌, ℕ, ◌+◌, ◌<◌, ◌≤◌, ⊎_elim, pos, ◌+ℤ◌, Bool, true, false, cond, not, ◌&&◌, nat_lt, nat_le, List, ◌∷◌, Option, Some, None, true≢false, refl, sym, ap, subst, ◌∙◌, arith}
use Rattle.std.specs.Prelude.{Result, Ok, Err, OnOk, OnErr, min}
use Rattle.std.specs.Option.{is_none, option_map_or}
use Rattle.std.specs.FinMap as fin
use Rattle.std.proofs.lemmas.Int.{ints}
use Rattle.std.proofs.lemmas.Bool.{and_parts, cases_lt}
use Rattle.std.proofs.lemmas.Bool.Decides.{nat_tests}
use Rattle.fv_disk.specs.Shown.{Shown as Disk}
use Rattle.fv_codec.specs.Blocks.{IsLabel}
use Rattle.fv_model.specs.declared.answers.Refusal.{Refusal}
use Rattle.fv_model.specs.declared.answers.Refusal.TheVariants.{NoVolume, VolumeFull, AggregateFull, Range}
use Rattle.fv_model.specs.declared.commands.Command.{Command}
use Rattle.fv_model.specs.declared.commands.Command.TheVariants.{VolGuarantee, VolResize}
use Rattle.fv_model.specs.declared.commands.Kind.{Kind}
use Rattle.fv_model.specs.Numbers.{is_size}
use Rattle.fv_model.specs.Volumes.{Volume}
use Rattle.fv_model.specs.Machines.{Machine, capacity}
use Rattle.fv_model.specs.Space.{charge}
use Rattle.fv_model.specs.Effects.{Becomes, Stays, change_of}
use Rattle.fv_model.specs.Refusals.{conditions, first_of, refusal, space}
use Rattle.fv_laws.proofs.PathCharges.{no_need}
use Rattle.fv_charge.specs.declared.delta.Delta.{Delta}
use Rattle.fv_charge.specs.declared.ledger.Ledger.{Ledger}
use Rattle.fv_charge.specs.Changes.{CanChange, IsChanged, IsLeft, admission, answer_of, machine_answer}
use Rattle.fv_charge.specs.Ledgers.{IsLedgerOf, committed}
use Rattle.fv_pool.specs.declared.pool.Pool.{Pool}
use Rattle.fv_volume.specs.declared.state.VolumeState.{VolumeState}
use Rattle.fv_volume.specs.Calls.{Has, HasBeside}
use Rattle.fv_volume.specs.Files.{IsLabelled}
use Rattle.fv_volume.specs.Held.{IsHeldIn}
use Rattle.fv_volume.specs.Labels.{label_said}
use Rattle.fv_volume.specs.OneVolume.{content_for, greatest_charge, volume_as, Content, IsReady, IsStanding}
use Rattle.fv_volume.specs.Promising.{CanHave, FitsBeside, Promises, promised, promised_ledger, refusal_of}
use Rattle.fv_volume.proofs.Changed.{within_size}
use Rattle.fv_volume.proofs.Charging.{left_by}
use Rattle.fv_volume.proofs.Labels.{kind_least, labelled_as}

-- ---- what a ledger is admitted for

abbrev by_nothing : ℕ → Kind → Delta
by_nothing size kind = record { charge = pos 0; need = pos 0; size = size; kind = kind }

pub can_promise : (l : Ledger) (size : ℕ) (kind : Kind) → l.charge ≤ greatest_charge → l.need ≡ 0 → CanChange l (by_nothing size kind)
can_promise l size kind few none = record {
  charge = record { least = omega (arith, ints); most = omega (arith, ints, few) };
  need = record { least = omega (arith, ints); most = omega (arith, ints, none) };
}

pub promise_moves : (l : Ledger) (size : ℕ) (kind : Kind) → IsChanged l (by_nothing size kind) (promised_ledger l size kind)
promise_moves l size kind = record {
  charge = (let e : pos l.charge ≡ (pos l.charge +ℤ pos 0) = omega (arith, ints) in e);
  need = (let e : pos l.need ≡ (pos l.need +ℤ pos 0) = omega (arith, ints) in e);
  size = refl;
  kind = refl;
  span = refl;
}

within_capacity : (l : Ledger) (others most : ℕ) → Ok tt ≡ admission l others most → others + committed l ≤ most
within_capacity l others most e = ⊎_elim
    (λ (past : most < others + committed l).
    let test : nat_lt most (others + committed l) ≡ true = grind (arith, nat_tests, past) in
    let fits = within_size l others most e in
    let low : nat_lt l.size (l.charge + l.need) ≡ false = grind (arith, nat_tests, fits) in
    absurd (differ (e ∙ (λ j. cond (low j) (Err VolumeFull) (cond (test j) (Err AggregateFull) (Ok tt))))))
    (λ fits. fits)
    (cases_lt most (others + committed l))
  where
    differ : ◌≡◌ {A = Result Unit Refusal} (Ok tt) (Err AggregateFull) → ⊥
    differ e = cc

pub promise_fits : (l : Ledger) (size : ℕ) (kind : Kind) (blocks others : ℕ) (r : Result Unit Refusal)
    → ((k : Ledger) → IsChanged l (by_nothing size kind) k → r ≡ admission k others (capacity blocks)) → OnOk r (FitsBeside blocks others (promised_ledger l size kind))
promise_fits l size kind blocks others (Err e) exact = tt
promise_fits l size kind blocks others (Ok tt) exact =
    let says = exact (promised_ledger l size kind) (promise_moves l size kind) in
    record { size = within_size (promised_ledger l size kind) others (capacity blocks) says; capacity = within_capacity (promised_ledger l size kind) others (capacity blocks) says }

said_of : (o : Option Refusal) (r : Result Unit Refusal) → r ≡ answer_of o → o ≡ refusal_of r
said_of o r e = back o ∙ ap refusal_of (sym e)
  where
    back : (o : Option Refusal) → o ≡ refusal_of (answer_of o)
    back None = refl
    back (Some r) = refl

pub promise_says : (l : Ledger) (size : ℕ) (kind : Kind) (blocks others : ℕ) (r : Result Unit Refusal)
    → ((m : Machine) (c : Command) (v : List ℕ) (k : Ledger) → IsChanged l (by_nothing size kind) k → IsLeft m c v k others (capacity blocks) → r ≡ machine_answer m c v)
    → (m : Machine) (c : Command) (v : List ℕ) → IsLeft m c v (promised_ledger l size kind) others (capacity blocks) → first_of (space m c v) ≡ refusal_of r
promise_says l size kind blocks others r says m c v left = said_of (first_of (space m c v)) r (says m c v (promised_ledger l size kind) (promise_moves l size kind) left)

-- ---- what the machine says

module _ (m : Machine) (v : List ℕ) (x : Volume) (there : fin.get m.volumes v ≡ Some x) where
  pub resize_change : (size : ℕ) → change_of m (VolResize v size) ≡ Becomes v (record x { size = size })
  unfolding change_of
  resize_change size = ap (λ (o : Option Volume). option_map_or (λ (y : Volume). Becomes v (record y { size = size })) o Stays) there

  pub guarantee_change : (kind : Kind) → change_of m (VolGuarantee v kind) ≡ Becomes v (record x { kind = kind })
  unfolding change_of
  guarantee_change kind = ap (λ (o : Option Volume). option_map_or (λ (y : Volume). Becomes v (record y { kind = kind })) o Stays) there

  abbrev resize_chain : Bool → Bool → ℕ → Option Refusal
  resize_chain far past size = cond far (Some Range) (cond past (Some Range) (first_of (space m (VolResize v size) v)))

  resize_by : (size : ℕ) → refusal m (VolResize v size) ≡ resize_chain (not (is_size size)) (nat_lt x.most size) size
  unfolding conditions
  resize_by size = λ j. first_of (
      (Range, not (is_size size))
      ∷ (NoVolume, is_none (there j))
      ∷ (Range, option_map_or (λ (y : Volume). nat_lt y.most size) (there j) false)
      ∷ space m (VolResize v size) v)

  guarantee_by : (kind : Kind) → refusal m (VolGuarantee v kind) ≡ first_of (space m (VolGuarantee v kind) v)
  unfolding conditions
  guarantee_by kind = λ j. first_of ((NoVolume, is_none (there j)) ∷ space m (VolGuarantee v kind) v)

  resize_out : (size : ℕ) → (is_size size && nat_le size x.most) ≡ false → refusal m (VolResize v size) ≡ Some Range
  resize_out size out = resize_by size ∙ by (is_size size) (nat_le size x.most) (nat_lt x.most size) out (other size x.most)
    where
      other : (a b : ℕ) → nat_lt b a ≡ not (nat_le a b)
      other a b = grind (arith, nat_tests)

      by : (a b c : Bool) → (a && b) ≡ false → c ≡ not b → resize_chain (not a) c size ≡ Some Range
      by false b c out e = refl
      by true false c out e = ap (λ (t : Bool). resize_chain false t size) e
      by true true c out e = absurd (true≢false out)

  resize_in : (size : ℕ) → is_size size ≡ true → size ≤ x.most → refusal m (VolResize v size) ≡ first_of (space m (VolResize v size) v)
  resize_in size near low =
      let past : nat_lt x.most size ≡ false = grind (arith, nat_tests, low) in
      resize_by size ∙ (λ j. resize_chain (not (near j)) (past j) size)

-- ---- the volume

-- a size that a volume can get
record IsSizeOf (x : VolumeState) (size : ℕ) : Type 0 where
  least : 1 ≤ size
  greatest : size ≤ 500000
  most : size ≤ x.most

size_of : (x : VolumeState) (size : ℕ) → (is_size size && nat_le size x.most) ≡ true → IsSizeOf x size
size_of x size is =
    let parts = and_parts (is_size size) (nat_le size x.most) is in
    let near = parts.0 in
    let low = parts.1 in
    record { least = grind (arith, nat_tests, near); greatest = grind (arith, nat_tests, near); most = grind (arith, nat_tests, low) }

-- the size that a volume has
its_size : (s : ℕ) (x : VolumeState) → IsLabelled s x → IsSizeOf x x.size
unfolding label_said
its_size s x is =
    let said = is.label 0 1 (omega arith) (omega arith) (omega arith) in
    let least = said.size_least in
    let greatest = said.size_greatest in
    record { least = least; greatest = omega (arith, greatest); most = omega (arith, greatest) }

module _ (x : VolumeState) (size : ℕ) (kind : Kind) where
  abbrev y : VolumeState
  y = promised x size kind

  label_promised : (container height : ℕ) → IsSizeOf x size → IsLabel (label_said x container height) → IsLabel (label_said y container height)
  unfolding label_said
  label_promised container height sized is =
      let kind_few = kind_least kind in
      let least = sized.least in
      let within : size ≤ min 500000 x.most = (let greatest = sized.greatest in let most = sized.most in omega (arith, greatest, most)) in
      search (is, kind_few, least, within)

  -- its label can be written
  promised_labelled : IsSizeOf x size → IsLabelled x.slot x → IsLabelled x.slot y
  unfolding label_said
  promised_labelled sized is = labelled_as x x.now size kind x.active x.map x.files y.ledger x.numbers refl (λ k other. refl) refl is.levels (λ container height label. label_promised container height sized label) is

  same_charge : (v : Volume) → charge (record v { size = size; kind = kind }) ≡ charge v
  unfolding charge
  same_charge v = refl

  -- its ledger is right, since no file has a reserve
  promised_books : (content : Content) → CanHave x content → IsLedgerOf (volume_as y content) y.ledger
  promised_books content is =
      let charged = is.ledger.charged in
      let needed = is.ledger.needed in
      let before = no_need (volume_as x content) is.reserves in
      let after = no_need (volume_as y content) is.reserves in
      record {
        charged = charged ∙ sym (same_charge (volume_as x content));
        needed = omega (arith, needed, before, after);
        size = refl;
        kind = refl;
        span = is.ledger.span;
      }

  -- what the machine says of the space for a command that gives it both
  promised_left : (content : Content) (m : Machine) (blocks others : ℕ) (c : Command) → CanHave x content → HasBeside x.name (volume_as x content) others blocks m
      → change_of m c ≡ Becomes x.name (volume_as y content) → IsLeft m c x.name y.ledger others (capacity blocks)
  promised_left content m blocks others c is has change =
      left_by m c x.name (volume_as x content) (volume_as y content) y.ledger others (capacity blocks) has.there change has.sum (promised_books content is) (ap capacity (sym has.blocks))

  -- ---- in a session

  pub promised_ready : (d : Disk) (p : Pool) → IsLabelled x.slot y → IsReady d p x → IsReady d p y
  promised_ready d p labelled is = record {
    lent = is.lent;
    labelled = labelled;
    booked = record { size = refl; kind = refl; span = is.booked.span; need = is.booked.need; charge = is.booked.charge };
    blocks = is.blocks;
    changed = λ isnt. absurd (true≢false isnt);
    fresh = λ isnt. absurd (true≢false isnt);
  }

  -- a volume that stands can hold what it holds
  pub can_have : (d : Disk) (p : Pool) → IsStanding d p x → CanHave x (content_for d p x)
  can_have d p is = record { reserves = is.reserves; ledger = is.ledger }

  pub promised_stands : (d : Disk) (p : Pool) → IsStanding d p x → IsStanding d p y
  promised_stands d p is = let ledger = promised_books (content_for d p x) (can_have d p is) in search (is, ledger)

  -- It is a volume of a session still.
  pub promised_held : (d : Disk) (p : Pool) (s : ℕ) → IsLabelled x.slot y → x.ledger.charge ≤ size → IsHeldIn d p s x → IsHeldIn d p s y
  promised_held d p s labelled fits is =
      let ready = promised_ready d p labelled is.ready in
      let stands = promised_stands d p is.stands in
      search (is, ready, stands, fits)

-- ---- the calls

module _ (x : VolumeState) (blocks others : ℕ) (was : IsLabelled x.slot x) where
  abbrev Said : ℕ → Kind → Result Unit Refusal → Type 0
  Said size kind r = (m : Machine) (c : Command) (v : List ℕ) → IsLeft m c v (promised_ledger x.ledger size kind) others (capacity blocks) → first_of (space m c v) ≡ refusal_of r

  module _ (size : ℕ) (kind : Kind) (c : Command) (y : VolumeState) (r : Result Unit Refusal) (done : OnOk r (y ≡ promised x size kind)) (stays : OnErr r (y ≡ x)) (fits : OnOk r (FitsBeside blocks others (promised_ledger x.ledger size kind)))
      (sized : IsSizeOf x size) (change : (content : Content) (m : Machine) → Has x.name (volume_as x content) m → change_of m c ≡ Becomes x.name (volume_as (promised x size kind) content))
      (agrees : (content : Content) (m : Machine) → CanHave x content → HasBeside x.name (volume_as x content) others blocks m → refusal m c ≡ refusal_of r) where
    promises : Promises x blocks others c size kind y r
    promises = record {
      agrees = agrees;
      becomes = on_ok r (λ is content m has. subst (λ (z : VolumeState). change_of m c ≡ Becomes x.name (volume_as z content)) (sym is) (change content m has)) done;
      done = done;
      labelled = on_ok r (λ is. subst (IsLabelled x.slot) (sym is) (promised_labelled x size kind sized was)) done;
      fits = fit r done fits;
      stays = stays;
    }
      where
        on_ok : {P Q : Type 0} (r : Result Unit Refusal) → (P → Q) → OnOk r P → OnOk r Q
        on_ok (Ok u) f p = f p
        on_ok (Err e) f p = tt

        fit : (r : Result Unit Refusal) → OnOk r (y ≡ promised x size kind) → OnOk r (FitsBeside blocks others (promised_ledger x.ledger size kind)) → OnOk r (FitsBeside blocks others y.ledger)
        fit (Ok u) is f = subst (λ (z : VolumeState). FitsBeside blocks others z.ledger) (sym is) f
        fit (Err e) is f = tt

  pub resize_refused : (size : ℕ) → (is_size size && nat_le size x.most) ≡ false → Promises x blocks others (VolResize x.name size) size x.kind x (Err Range)
  resize_refused size out = record {
    agrees = λ content m is has. resize_out m x.name (volume_as x content) has.there size out;
    becomes = tt;
    done = tt;
    labelled = tt;
    fits = tt;
    stays = refl;
  }

  pub resize_promises : (size : ℕ) (y : VolumeState) (r : Result Unit Refusal) → (is_size size && nat_le size x.most) ≡ true → OnOk r (y ≡ promised x size x.kind) → OnErr r (y ≡ x)
      → OnOk r (FitsBeside blocks others (promised_ledger x.ledger size x.kind)) → Said size x.kind r → Promises x blocks others (VolResize x.name size) size x.kind y r
  resize_promises size y r near done stays fits said =
      let sized = size_of x size near in
      let parts = and_parts (is_size size) (nat_le size x.most) near in
      promises size x.kind (VolResize x.name size) y r done stays fits sized
      (λ content m has. resize_change m x.name (volume_as x content) has size)
      (λ content m is has. resize_in m x.name (volume_as x content) has.there size parts.0 sized.most
      ∙ said m (VolResize x.name size) x.name (promised_left x size x.kind content m blocks others (VolResize x.name size) is has (resize_change m x.name (volume_as x content) has.there size)))

  pub guarantee_promises : (kind : Kind) (y : VolumeState) (r : Result Unit Refusal) → OnOk r (y ≡ promised x x.size kind) → OnErr r (y ≡ x)
      → OnOk r (FitsBeside blocks others (promised_ledger x.ledger x.size kind)) → Said x.size kind r → Promises x blocks others (VolGuarantee x.name kind) x.size kind y r
  guarantee_promises kind y r done stays fits said =
      promises x.size kind (VolGuarantee x.name kind) y r done stays fits (its_size x.slot x was)
      (λ content m has. guarantee_change m x.name (volume_as x content) has kind)
      (λ content m is has. guarantee_by m x.name (volume_as x content) has.there kind
      ∙ said m (VolGuarantee x.name kind) x.name (promised_left x x.size kind content m blocks others (VolGuarantee x.name kind) is has (guarantee_change m x.name (volume_as x content) has.there kind)))
