-- A volume without a base stands on no other: each of its VVBNs is found at its own entry.
use Rattle.std.proofs.Common.{◌≡◌, ◌≢◌, ℕ, Bool, true, false, ◌&&◌, cond, Option, Some, None, refl, sym, ap, ◌∙◌}
use Rattle.std.specs.Prelude.{nat_le}
use Rattle.std.specs.Option.{ForSome, option_map}
use Rattle.fv_container.specs.declared.entry.Entry.{Entry}
use Rattle.fv_container.specs.Chains.{Slots, along, chain_entry, container_at, or_else, own_entry, parent_at}
use Rattle.fv_volmap.specs.Slots.{Volume as Maps, taken_in}
use Rattle.fv_pool.specs.declared.pool.Pool.{Pool}
use Rattle.fv_pool.specs.BlocksOver.{AreApart, IsKeptBack, OtherPlace, held_entry}
use Rattle.fv_volume.specs.declared.state.Base.{Base}
use Rattle.fv_volume.specs.declared.state.VolumeState.{VolumeState}
use Rattle.fv_volume.specs.States.{States, parent_in, state_at}
use Rattle.fv_volumes.specs.Housed.{AreHoused}

-- the first entry along its chain is its own
chain_own : (slots : Slots) (slot v : ℕ) → parent_at slots slot ≡ None → chain_entry slots slot v ≡ own_entry (container_at slots slot) v
unfolding along
chain_own slots slot v alone = ap (λ (p : Option ℕ). or_else (own_entry (container_at slots slot) v) (along slots 63 p v)) alone ∙ last (own_entry (container_at slots slot) v)
  where
    last : (o : Option Entry) → or_else o None ≡ o
    last None = refl
    last (Some e) = refl

module _ (map : Maps) (slots : Slots) (slot : ℕ) (alone : parent_at slots slot ≡ None) where
  -- a VVBN that is held has the volume's own entry
  pub held_own : (v : ℕ) (e : Entry) → held_entry map slots slot v ≡ Some e → own_entry (container_at slots slot) v ≡ Some e
  unfolding held_entry
  held_own v e is = sym (chain_own slots slot v alone) ∙ by (nat_le v 1048575 && taken_in map.slots v) is
    where
      by : (b : Bool) → cond b (chain_entry slots slot v) None ≡ Some e → chain_entry slots slot v ≡ Some e
      by true is = is
      by false is = absurd cc

-- Where the next root holds the block of each entry, and no two lead to one, the entries of such a volume lie apart.
pub apart_alone : (pool : Pool) (map : Maps) (slot : ℕ) → parent_at pool.containers slot ≡ None → ((v : ℕ) → ForSome (own_entry (container_at pool.containers slot) v) (IsKeptBack pool.map))
    → ((v w : ℕ) → w ≢ v → ForSome (own_entry (container_at pool.containers slot) v) (λ e. ForSome (own_entry (container_at pool.containers slot) w) (OtherPlace e))) → AreApart pool map slot
apart_alone pool map slot alone kept apart = record {
  own = kept;
  held = λ v e is. kept v e (held_own map pool.containers slot alone v e is);
  own_apart = apart;
  held_apart = λ v w other e is f held. apart v w other e is f (held_own map pool.containers slot alone w f held);
}

-- so does one of those that are in order, where it has no base
pub housed_alone : (containers : Slots) (states : States) → AreHoused containers states → (s : ℕ) (x : VolumeState) → state_at states s ≡ Some x → x.base ≡ None → parent_at containers s ≡ None
housed_alone containers states housed s x there bare = housed.parents s ∙ ap parent_in there ∙ ap (option_map (λ (b : Base). b.parent)) bare
