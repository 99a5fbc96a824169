-- The volume of a name with another size or another kind of guarantee, among all volumes.
use Rattle.std.proofs.Common.{◌≡◌, ℕ, ◌+◌, ◌-◌, ◌<◌, ◌≤◌, true, false, not, nat_lt, List, ◌∷◌, length, Option, Some, None, true≢false, ⊎_elim, refl, sym, ap, subst, ◌∙◌, arith}
use Rattle.std.specs.Prelude.{Result, Ok, Err, OnOk, OnErr, IfSome}
use Rattle.std.specs.Option.{is_none, option_map_or}
use Rattle.std.specs.FinMap as fin
use Rattle.std.proofs.lemmas.Bool.{cases_lt}
use Rattle.std.proofs.lemmas.List.{get_or_past, set-get_or}
use Rattle.std.proofs.lemmas.List.Sums.{sum_by-set}
use Rattle.fv_model.specs.declared.answers.Refusal.{Refusal}
use Rattle.fv_model.specs.declared.answers.Refusal.TheVariants.{NoVolume, Range}
use Rattle.fv_model.specs.declared.commands.Command.{Command}
use Rattle.fv_model.specs.declared.commands.Command.TheVariants.{VolGuarantee, VolResize}
use Rattle.fv_model.specs.declared.commands.Kind.{Kind}
use Rattle.fv_model.specs.Numbers.{greatest_span, is_size}
use Rattle.fv_model.specs.Volumes.{Volume}
use Rattle.fv_model.specs.Machines.{Machine, capacity}
use Rattle.fv_model.specs.Space.{commit}
use Rattle.fv_model.specs.Effects.{Becomes, change_of}
use Rattle.fv_model.specs.Refusals.{conditions, first_of, refusal, space}
use Rattle.fv_laws.proofs.Changes.{same_name}
use Rattle.fv_charge.specs.Ledgers.{committed}
use Rattle.fv_container.specs.Chains.{slot_count}
use Rattle.fv_volume.specs.declared.state.VolumeState.{VolumeState}
use Rattle.fv_volume.specs.Calls.{Has, HasBeside}
use Rattle.fv_volume.specs.Files.{IsLabelled}
use Rattle.fv_volume.specs.OneVolume.{volume_as, Content}
use Rattle.fv_volume.specs.Promising.{CanHave, CanHaveAll, FitsBeside, HasVolumes, IsPromised, Promises, PromisesAt, PromisesIn, PromisesOne, has_size, promised, refusal_of}
use Rattle.fv_volume.specs.Slots.{committed_by, is_named, sum_of, HasName, NoneHasName}
use Rattle.fv_volume.specs.States.{States, state_at, with_state}
use Rattle.fv_volumes.proofs.Told.{ledger_commit}

-- ---- without the volume

module _ (m : Machine) (v : List ℕ) where
  resize_far : (size : ℕ) → is_size size ≡ false → refusal m (VolResize v size) ≡ Some Range
  unfolding conditions
  resize_far size far = λ j. first_of (
      (Range, not (far j))
      ∷ (NoVolume, is_none (fin.get m.volumes v))
      ∷ (Range, option_map_or (λ (y : Volume). nat_lt y.most size) (fin.get m.volumes v) false)
      ∷ space m (VolResize v size) v)

  module _ (none : fin.get m.volumes v ≡ None) where
    resize_none : (size : ℕ) → is_size size ≡ true → refusal m (VolResize v size) ≡ Some NoVolume
    unfolding conditions
    resize_none size near = λ j. first_of (
        (Range, not (near j))
        ∷ (NoVolume, is_none (none j))
        ∷ (Range, option_map_or (λ (y : Volume). nat_lt y.most size) (none j) false)
        ∷ space m (VolResize v size) v)

    guarantee_none : (kind : Kind) → refusal m (VolGuarantee v kind) ≡ Some NoVolume
    unfolding conditions
    guarantee_none kind = λ j. first_of ((NoVolume, is_none (none j)) ∷ space m (VolGuarantee v kind) v)

module _ (old : States) (blocks : ℕ) (name : List ℕ) (size : VolumeState → ℕ) (kind : VolumeState → Kind) where
  pub far_promises : (n : ℕ) → is_size n ≡ false → PromisesOne old blocks (VolResize name n) name size kind old (Err Range)
  far_promises n far = record {
    agrees = λ contents m can has. resize_far m name n far;
    far = λ out. refl;
    missing = λ near none. absurd (true≢false (sym near ∙ far));
    done = tt;
    stays = refl;
  }

  -- a command on a volume that isn't there
  refused_missing : (c : Command) → has_size c ≡ true → ((m : Machine) → fin.get m.volumes name ≡ None → refusal m c ≡ Some NoVolume) → NoneHasName old name → PromisesOne old blocks c name size kind old (Err NoVolume)
  refused_missing c near by none = record {
    agrees = λ contents m can has. by m (has.none name none);
    far = λ out. absurd (true≢false (sym near ∙ out));
    missing = λ within nowhere. refl;
    done = tt;
    stays = refl;
  }

  pub resize_missing : (n : ℕ) → is_size n ≡ true → NoneHasName old name → PromisesOne old blocks (VolResize name n) name size kind old (Err NoVolume)
  resize_missing n near = refused_missing (VolResize name n) near (λ m none. resize_none m name none n near)

  pub guarantee_missing : (k : Kind) → NoneHasName old name → PromisesOne old blocks (VolGuarantee name k) name size kind old (Err NoVolume)
  guarantee_missing k = refused_missing (VolGuarantee name k) refl (λ m none. guarantee_none m name none k)

-- ---- with it

-- whatever was answered, the span stays
span_promised : (x : VolumeState) (blocks others : ℕ) (c : Command) (size : ℕ) (kind : Kind) (y : VolumeState) (r : Result Unit Refusal) → Promises x blocks others c size kind y r → y.ledger.span ≡ x.ledger.span
span_promised x blocks others c size kind y (Ok u) is = ap (λ (z : VolumeState). z.ledger.span) is.done
span_promised x blocks others c size kind y (Err e) is = ap (λ (z : VolumeState). z.ledger.span) is.stays

-- and it is one that a volume can have
pub span_within : (old : States) (slot : ℕ) (x : VolumeState) → state_at old slot ≡ Some x → IfSome (state_at old slot) (IsLabelled slot) → (blocks others : ℕ) (c : Command) (size : ℕ) (kind : Kind) (y : VolumeState) (r : Result Unit Refusal)
    → Promises x blocks others c size kind y r → y.ledger.span ≤ greatest_span
span_within old slot x there labelled blocks others c size kind y r is =
    let its : IsLabelled slot x = subst (λ (o : Option VolumeState). IfSome o (IsLabelled slot)) there labelled in
    let same = span_promised x blocks others c size kind y r is in
    let counts = its.counts in let low = its.span in
    omega (arith, same, counts, low)

-- a part of a sum is at most the sum
pub part_of_sum : (states : States) (slot : ℕ) → slot < length states → committed_by (state_at states slot) ≤ sum_of states
part_of_sum states slot inside = let sum = sum_by-set committed_by states slot None None inside in omega (arith, sum)

-- the slot of a volume is one of the row
pub inside_row : (states : States) (slot : ℕ) (x : VolumeState) → state_at states slot ≡ Some x → slot < length states
inside_row states slot x there = ⊎_elim
    (λ (low : slot < length states). low)
    (λ (past : length states ≤ slot). absurd (nothing (sym (get_or_past states slot None past) ∙ there)))
    (cases_lt slot (length states))
  where
    nothing : ◌≡◌ {A = Option VolumeState} None (Some x) → ⊥
    nothing e = cc

module _ (old : States) (blocks : ℕ) (c : List ℕ → Command) (size : VolumeState → ℕ) (kind : VolumeState → Kind) (slot : ℕ) (small : slot < slot_count) where
  -- the volume of the slot has the name
  module _ (x : VolumeState) (there : state_at old slot ≡ Some x) (at : x.slot ≡ slot) (name : List ℕ) (named : x.name ≡ name) (new : States) (r : Result Unit Refusal) (near : has_size (c name) ≡ true) (has : is_named (state_at old slot) name ≡ true)
      (is : PromisesIn old blocks slot x (c x.name) (size x) (kind x) new r) where
    abbrev others : ℕ
    others = sum_of old - committed x.ledger

    inside : slot < length old
    inside = inside_row old slot x there

    own_part : others + committed x.ledger ≡ sum_of old
    own_part =
        let part = part_of_sum old slot inside in
        let same : committed_by (state_at old slot) ≡ committed x.ledger = ap committed_by there in
        omega (arith, part, same)

    beside : (contents : ℕ → Content) (m : Machine) → CanHaveAll old contents → HasVolumes old contents blocks m → CanHave x (contents slot) × HasBeside x.name (volume_as x (contents slot)) others blocks m
    beside contents m can has =
        let its : CanHave x (contents slot) = subst (λ (o : Option VolumeState). IfSome o (λ x. CanHave x (contents slot))) there (can slot) in
        let sum = has.sum in
        let own = own_part in
        let commits_so : commit (volume_as x (contents slot)) ≡ committed x.ledger = sym (ledger_commit (volume_as x (contents slot)) x.ledger its.ledger) in (
          its,
          record {
            there = subst (λ (o : Option VolumeState). IfSome o (λ x. Has x.name (volume_as x (contents slot)) m)) there (has.there slot);
            sum = omega (arith, sum, own, commits_so);
            blocks = has.size;
          },
        )

    answered : (contents : ℕ → Content) (m : Machine) → CanHaveAll old contents → HasVolumes old contents blocks m → refusal m (c name) ≡ refusal_of r
    answered contents m can has =
        let b = beside contents m can has in
        subst (λ (n : List ℕ). refusal m (c n) ≡ refusal_of r) named (is.promises.agrees (contents slot) m b.0 b.1)

    -- what is so once it was done
    module _ (y : VolumeState) (row : new ≡ with_state old slot (Some y)) (done : y ≡ promised x (size x) (kind x)) (labelled : IsLabelled x.slot y) (fits : FitsBeside blocks others y.ledger)
        (becomes : (content : Content) (m : Machine) → Has x.name (volume_as x content) m → change_of m (c x.name) ≡ Becomes x.name (volume_as y content)) where
      its_sum : sum_of new ≤ capacity blocks
      its_sum =
          let sum : sum_of (with_state old slot (Some y)) + committed_by (state_at old slot) ≡ sum_of old + committed y.ledger = sum_by-set committed_by old slot (Some y) None inside in
          let was : committed_by (state_at old slot) ≡ committed x.ledger = ap committed_by there in
          let now : sum_of new ≡ sum_of (with_state old slot (Some y)) = ap (λ (s : States). sum_of s) row in
          let own = own_part in
          let fit = fits.capacity in
          omega (arith, sum, was, now, own, fit)

      is_promised : IsPromised old blocks (c name) name size kind new
      is_promised =
          let row_is : new ≡ with_state old slot (Some (promised x (size x) (kind x))) = row ∙ ap (λ (z : VolumeState). with_state old slot (Some z)) done in
          let labelled_is : IsLabelled slot (promised x (size x) (kind x)) = subst (λ (n : ℕ). IsLabelled n (promised x (size x) (kind x))) at (subst (IsLabelled x.slot) done labelled) in
          let fits_is = subst (λ (z : VolumeState). FitsBeside blocks others z.ledger) done fits in
          record { slot = slot; within = small; state = x; there = there; named = named; row = row_is; labelled = labelled_is; uses = fits_is.size; sum = its_sum; becomes = becomes_is }
        where
          becomes_is : (content : Content) (m : Machine) → Has name (volume_as x content) m → change_of m (c name) ≡ Becomes name (volume_as (promised x (size x) (kind x)) content)
          becomes_is content m has = subst (λ (n : List ℕ). change_of m (c n) ≡ Becomes n (volume_as (promised x (size x) (kind x)) content)) named
              (subst (λ (z : VolumeState). change_of m (c x.name) ≡ Becomes x.name (volume_as z content)) done (becomes content m (subst (λ (n : List ℕ). Has n (volume_as x content) m) (sym named) has)))

    found : PromisesOne old blocks (c name) name size kind new r
    found = record {
      agrees = answered;
      far = λ out. absurd (true≢false (sym near ∙ out));
      missing = λ within none. absurd (true≢false (sym has ∙ none.none slot small));
      done = made r is.promises;
      stays = left r is.promises;
    }
      where
        made : (r : Result Unit Refusal) → Promises x blocks others (c x.name) (size x) (kind x) is.now r → OnOk r (IsPromised old blocks (c name) name size kind new)
        made (Ok u) p = is_promised is.now is.row p.done p.labelled p.fits p.becomes
        made (Err e) p = tt

        left : (r : Result Unit Refusal) → Promises x blocks others (c x.name) (size x) (kind x) is.now r → OnErr r (new ≡ old)
        left (Ok u) p = tt
        left (Err e) p = is.row ∙ ap (λ (o : Option VolumeState). with_state old slot o) (ap Some p.stays ∙ sym there) ∙ set-get_or old slot None

  -- The call on the volume of the slot answers the command.
  pub found_promises : (name : List ℕ) (new : States) (r : Result Unit Refusal) → has_size (c name) ≡ true → ((s : ℕ) → IfSome (state_at old s) (IsLabelled s)) → HasName old slot name
      → PromisesAt old blocks slot (state_at old slot) (λ x. c x.name) size kind new r → PromisesOne old blocks (c name) name size kind new r
  found_promises name new r near each has is = by (state_at old slot) refl (each slot) has.named is
    where
      by : (o : Option VolumeState) → state_at old slot ≡ o → IfSome o (IsLabelled slot) → is_named o name ≡ true → PromisesAt old blocks slot o (λ x. c x.name) size kind new r → PromisesOne old blocks (c name) name size kind new r
      by None there labelled named is = absurd (true≢false (sym named))
      by (Some x) there labelled named is = found x there labelled.slot_is name (same_name x.name name named) new r near has.named is
