-- The machine that a session's volumes stand for has them with what they hold, and no others.
use Rattle.std.proofs.Common.{◌≡◌, ℕ, length, Option, Some, None, sym, ap, subst, ◌∙◌, refl}
use Rattle.std.specs.Prelude.{IfSome}
use Rattle.std.specs.Option.{option_map_or}
use Rattle.std.specs.FinMap as fin
use Rattle.fv_disk.specs.Shown.{Shown}
use Rattle.fv_model.specs.Machines.{Machine}
use Rattle.fv_model.specs.Tables.{empty_table}
use Rattle.fv_laws.specs.Positions.{HasNoReserve}
use Rattle.fv_charge.specs.Ledgers.{IsLedgerOf}
use Rattle.fv_pool.specs.declared.pool.Pool.{Pool}
use Rattle.fv_volume.specs.declared.state.VolumeState.{VolumeState}
use Rattle.fv_volume.specs.Calls.{Has}
use Rattle.fv_volume.specs.OneVolume.{content_for, volume_as, Content}
use Rattle.fv_volume.specs.Promising.{CanHave, CanHaveAll, HasVolumes}
use Rattle.fv_volume.specs.States.{States, state_at}
use Rattle.fv_cp.specs.Held.{machine_held, IsHeld, IsHeldIn}
use Rattle.fv_aggregate.proofs.HeldMachine.{blocks_are, commits_are, is_there, not_there, one}

module _ (disk : Shown) (pool : Pool) (states : States) (long : length states ≡ 64) (last : Machine) (held : IsHeld disk pool states last) where
  -- a slot without a volume holds nothing
  abbrev no_content : Content
  no_content = record { active = empty_table; snapshots = fin.empty; base = empty_table }

  -- what the volume of each slot holds
  abbrev pub contents : ℕ → Content
  contents s = option_map_or (λ (x : VolumeState). content_for disk pool x) (state_at states s) no_content

  pub its_content : (s : ℕ) (x : VolumeState) → state_at states s ≡ Some x → content_for disk pool x ≡ contents s
  its_content s x there = sym (ap (λ (o : Option VolumeState). option_map_or (λ (y : VolumeState). content_for disk pool y) o no_content) there)

  pub has_volumes : HasVolumes states contents pool.found.blocks (machine_held disk pool states)
  has_volumes = record {
    there = λ s. by s (state_at states s) refl;
    none = not_there disk pool states long;
    sum = commits_are disk pool states long last held;
    size = blocks_are disk pool states long;
  }
    where
      by : (s : ℕ) (o : Option VolumeState) → state_at states s ≡ o → IfSome o (λ x. Has x.name (volume_as x (contents s)) (machine_held disk pool states))
      by s None there = tt
      by s (Some x) there = is_there disk pool states long last held s x there ∙ ap (λ (t : Content). Some (volume_as x t)) (its_content s x there)

  -- each can hold what it holds
  pub can_have_all : CanHaveAll states contents
  can_have_all s = by (state_at states s) refl
    where
      by : (o : Option VolumeState) → state_at states s ≡ o → IfSome o (λ x. CanHave x (contents s))
      by None there = tt
      by (Some x) there =
          let is : IsHeldIn disk pool s x = one disk pool states long last held s x there in
          record {
            reserves = subst (λ (t : Content). HasNoReserve t.active) (its_content s x there) is.stands.reserves;
            ledger = subst (λ (t : Content). IsLedgerOf (volume_as x t) x.ledger) (its_content s x there) is.stands.ledger;
          }
