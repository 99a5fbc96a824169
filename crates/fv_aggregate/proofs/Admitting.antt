-- Whether the machine that volumes between points stand for accepts a new volume.
use Rattle.std.proofs.Common.{◌≡◌, ◌<◌, ◌≤◌, ◌+◌, ◌*◌, ℕ, Bool, true, false, cond, not, List, length, Option, Some, None, refl, sym, ap, ◌∙◌, arith}
use Rattle.std.specs.Option.{is_some}
use Rattle.std.specs.FinMap as fin
use Rattle.std.proofs.lemmas.Bool.Decides.{nat_tests}
use Rattle.fv_disk.specs.Shown.{Shown}
use Rattle.fv_model.specs.declared.answers.Refusal.{Refusal}
use Rattle.fv_model.specs.declared.answers.Refusal.TheVariants.{VolumeExists, AggregateFull, Range, TooMany}
use Rattle.fv_model.specs.declared.commands.Command.TheVariants.{VolCreate}
use Rattle.fv_model.specs.declared.commands.Kind.{Kind}
use Rattle.fv_model.specs.Numbers.{is_size}
use Rattle.fv_model.specs.Volumes.{Volume}
use Rattle.fv_model.specs.Machines.{Machine, capacity}
use Rattle.fv_model.specs.Space.{commits, overhead, span_of}
use Rattle.fv_model.specs.Effects.{change_of, effect, empty_volume}
use Rattle.fv_model.specs.Refusals.{conditions, has_all_volumes, is_aggregate_full, is_taken, refusal}
use Rattle.fv_laws.proofs.Commits.{commits_new}
use Rattle.fv_pool.specs.declared.pool.Pool.{Pool}
use Rattle.fv_volume.specs.declared.state.VolumeState.{VolumeState}
use Rattle.fv_volumes.specs.Creating.{Admits, Refuses, new_ledger_of}
use Rattle.fv_volume.specs.OneVolume.{volume_for}
use Rattle.fv_volume.specs.Slots.{HasName, IsFirstFree, IsFull, NoneHasName, sum_of}
use Rattle.fv_volume.specs.States.{States, ledger_of_empty}
use Rattle.fv_volumes.proofs.Made.{ledger_new}
use Rattle.fv_volumes.proofs.Told.{all_named, counted, fewer_named, ledger_commit, named_from, some_named}
use Rattle.fv_cp.specs.Held.{machine_held, IsHeld}
use Rattle.fv_aggregate.proofs.HeldMachine.{at_name, blocks_are, commits_are, distinct, not_there, volumes_by_name}

module _ (disk : Shown) (pool : Pool) (states : States) (long : length states ≡ 64) (before : Machine) (held : IsHeld disk pool states before) where
  abbrev m : Machine
  m = machine_held disk pool states

  abbrev meant : ℕ → VolumeState → Volume
  meant s x = volume_for disk pool x

  how_many : fin.len m.volumes ≡ length (named_from meant 0 states)
  how_many = ap fin.len (volumes_by_name disk pool states long) ∙ counted (named_from meant 0 states) (distinct disk pool states long before held)

  no_more : IsFull states → has_all_volumes m ≡ true
  no_more full =
      let all : length (named_from meant 0 states) ≡ length states = all_named meant states 0 (λ s lt. full.full s (omega (arith, lt, long))) in
      grind (arith, nat_tests, how_many, all, long)

  some_more : (slot : ℕ) → IsFirstFree states slot → has_all_volumes m ≡ false
  some_more slot free =
      let few : length (named_from meant 0 states) < length states = fewer_named meant states 0 slot (omega (arith, free.within, long)) free.free in
      grind (arith, nat_tests, how_many, few, long)

  taken : (name : List ℕ) (slot : ℕ) → HasName states slot name → is_taken m name ≡ true
  taken name slot has = ap is_some (at_name disk pool states long name) ∙ some_named meant states 0 slot name has.named

  is_free : (name : List ℕ) → NoneHasName states name → is_taken m name ≡ false
  is_free name no_name = ap is_some (not_there disk pool states long name no_name)

  after : (name : List ℕ) (size : ℕ) (kind : Kind) → NoneHasName states name → commits (effect m (VolCreate name size kind)) ≡ sum_of states + new_ledger_of size kind
  unfolding change_of
  after name size kind no_name =
      commits_new m name (empty_volume size kind) (not_there disk pool states long name no_name)
      ∙ (λ j. commits_are disk pool states long before held j + sym (ledger_commit (empty_volume size kind) (ledger_of_empty size kind (span_of size 0 0)) (ledger_new size kind)) j)

  size_after : (name : List ℕ) (size : ℕ) (kind : Kind) → (effect m (VolCreate name size kind)).blocks ≡ pool.found.blocks
  unfolding change_of
  size_after name size kind = blocks_are disk pool states long

  -- the conditions in their order
  chain : Bool → Bool → Bool → Bool → Option Refusal
  chain a b c d = cond a (Some Range) (cond b (Some VolumeExists) (cond c (Some TooMany) (cond d (Some AggregateFull) None)))

  tried : (name : List ℕ) (size : ℕ) (kind : Kind) → refusal m (VolCreate name size kind) ≡ chain (not (is_size size)) (is_taken m name) (has_all_volumes m) (is_aggregate_full (effect m (VolCreate name size kind)))
  unfolding conditions chain
  tried name size kind = refl

  pub refused_held : (name : List ℕ) (size : ℕ) (kind : Kind) (r : Refusal) → Refuses states pool.found.blocks name size kind r → refusal m (VolCreate name size kind) ≡ Some r
  unfolding chain
  refused_held name size kind Range is = tried name size kind ∙ (λ j. chain (not (is j)) (is_taken m name) (has_all_volumes m) (is_aggregate_full (effect m (VolCreate name size kind))))
  refused_held name size kind VolumeExists is = tried name size kind ∙ (λ j. chain (not (is.0 j)) (taken name is.1.0 is.1.1 j) (has_all_volumes m) (is_aggregate_full (effect m (VolCreate name size kind))))
  refused_held name size kind TooMany is = tried name size kind ∙ (λ j. chain (not (is.0 j)) (is_free name is.1.0 j) (no_more is.1.1 j) (is_aggregate_full (effect m (VolCreate name size kind))))
  refused_held name size kind AggregateFull is =
      let full : is_aggregate_full (effect m (VolCreate name size kind)) ≡ true = grind (arith, nat_tests, after name size kind is.1.0, size_after name size kind, is.1.1.1.1) in
      tried name size kind ∙ (λ j. chain (not (is.0 j)) (is_free name is.1.0 j) (some_more is.1.1.0 is.1.1.1.0 j) (full j))
  refused_held name size kind r is = absurd is.1.1

  pub accepted_held : (name : List ℕ) (size : ℕ) (kind : Kind) (slot span : ℕ) → Admits states pool.found.blocks name size kind slot span → refusal m (VolCreate name size kind) ≡ None
  unfolding chain
  accepted_held name size kind slot span is =
      let room : is_aggregate_full (effect m (VolCreate name size kind)) ≡ false = grind (arith, nat_tests, after name size kind is.name_is, size_after name size kind, is.room) in
      tried name size kind ∙ (λ j. chain (not (is.size_is j)) (is_free name is.name_is j) (some_more slot is.free j) (room j))

  -- what all volumes commit leaves the capacity room for the new one's overhead twice
  pub room_held : (name : List ℕ) (size : ℕ) (kind : Kind) (slot span : ℕ) → Admits states pool.found.blocks name size kind slot span → commits m + 2 * overhead span ≤ capacity m.blocks
  room_held name size kind slot span is =
      let same : overhead span ≡ overhead (span_of size 0 0) = ap overhead is.span_is in
      let sum = commits_are disk pool states long before held in
      omega (arith, sum, is.room, same, ap capacity (blocks_are disk pool states long))
