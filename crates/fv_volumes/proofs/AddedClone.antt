-- A session with a clone more: all clones stand on what they stood on, and so does the new one.
use Rattle.std.proofs.Common.{◌≡◌, ◌≢◌, ◌<◌, ℕ, zero, suc, Bool, true, Option, Some, None, is_some, refl, sym, ap, subst, ◌∙◌, ⊎_elim, arith}
use Rattle.std.specs.Prelude.{IfSome}
use Rattle.std.specs.Option.{option_and_then, option_map, option_map_or}
use Rattle.std.proofs.lemmas.Bool.{cases_eq, false≢true}
use Rattle.std.proofs.lemmas.Option.{none-some}
use Rattle.fv_image.specs.Views.{Footing}
use Rattle.fv_container.specs.Chains.{Slots, slot_count}
use Rattle.fv_volume.specs.declared.state.Base.{Base}
use Rattle.fv_volume.specs.declared.state.VolumeState.{VolumeState}
use Rattle.fv_volumes.specs.Footing.{ends_in, footing_at, AreFooted, IsFooted, IsOnBase}
use Rattle.fv_volume.specs.States.{States, footing_in, state_at}
use Rattle.fv_volumes.proofs.Footed.{footed_beside}
use Rattle.fv_volumes.proofs.EndsIn.{ends_sooner, LeadToUsed}

module _ (states new : States) (slot : ℕ) (low : slot < slot_count) (free : state_at states slot ≡ None) (x : VolumeState) (there : state_at new slot ≡ Some x) (others : (s : ℕ) → s ≢ slot → state_at new s ≡ state_at states s) where
  elsewhere : (s : ℕ) (c : VolumeState) → state_at states s ≡ Some c → s ≢ slot
  elsewhere s c at same = none-some c (sym free ∙ ap (state_at states) (sym same) ∙ at)

  -- what a volume stands on is there still
  footed_still : (c : VolumeState) (b : Base) → IsFooted states c b → IsFooted new c b
  footed_still c b is = footed_beside states new c c b refl (λ v. refl) (others b.parent (elsewhere b.parent is.parent is.there)) is

  module _ (slots : Slots) (are : AreFooted states slots) where
    abbrev used : ℕ → Bool
    used s = is_some (state_at states s)

    clone_of_slot : (s : ℕ) (f : Footing) → footing_at states s ≡ Some f → (c : VolumeState) × ((b : Base) × ((footing_in b ≡ f) × IsFooted states c b))
    clone_of_slot s f at = by (state_at states s) refl at (are.each s)
      where
        by : (o : Option VolumeState) → state_at states s ≡ o → option_and_then (λ (c : VolumeState). option_map footing_in c.base) o ≡ Some f → IfSome o (λ c. IfSome c.base (λ b. IsFooted states c b × IsOnBase slots c))
            → (c : VolumeState) × ((b : Base) × ((footing_in b ≡ f) × IsFooted states c b))
        by None e at is = absurd cc
        by (Some c) e at is = based c.base at is
          where
            based : (o : Option Base) → option_map footing_in o ≡ Some f → IfSome o (λ b. IsFooted states c b × IsOnBase slots c) → (c : VolumeState) × ((b : Base) × ((footing_in b ≡ f) × IsFooted states c b))
            based None at is = absurd cc
            based (Some b) at is = let same : footing_in b ≡ f = cc in (c, (b, (same, is.0)))

    lead : LeadToUsed (footing_at states) used
    lead = record {
      low = λ k f at. let c = clone_of_slot k f at in let inside = c.1.1.1.inside in let same : c.1.0.parent ≡ f.parent = ap (λ (f : Footing). f.parent) c.1.1.0 in omega (arith, inside, same);
      there = λ k f at. let c = clone_of_slot k f at in ap is_some (ap (state_at states) (sym (ap (λ (f : Footing). f.parent) c.1.1.0)) ∙ c.1.1.1.there);
    }

    -- a chain from a slot in use doesn't meet the new one
    chain_still : (n s : ℕ) → used s ≡ true → ends_in (footing_at new) n s ≡ ends_in (footing_at states) n s
    unfolding ends_in
    chain_still zero s here = refl
    chain_still (suc n) s here =
        ap (λ (o : Option Footing). option_map_or (λ (f : Footing). ends_in (footing_at new) n f.parent) o true) (ap (option_and_then (λ (c : VolumeState). option_map footing_in c.base)) (others s (not_slot here)))
        ∙ so (λ t u. chain_still n t u) (footing_at states s) refl
      where
        not_slot : used s ≡ true → s ≢ slot
        not_slot some same = false≢true (sym (ap is_some (ap (state_at states) same ∙ free)) ∙ some)

        so : ((t : ℕ) → used t ≡ true → ends_in (footing_at new) n t ≡ ends_in (footing_at states) n t) → (o : Option Footing) → footing_at states s ≡ o
            → option_map_or (λ (f : Footing). ends_in (footing_at new) n f.parent) o true ≡ option_map_or (λ (f : Footing). ends_in (footing_at states) n f.parent) o true
        so next None e = refl
        so next (Some f) e = next f.parent (lead.there s f e)

    -- So it is with a new volume that stands on one of them, or on none.
    pub footed_added : (after : Slots) → ((s : ℕ) (c : VolumeState) → s ≢ slot → state_at states s ≡ Some c → IsOnBase slots c → IsOnBase after c) → IfSome x.base (λ b. IsFooted states x b × IsOnBase after x) → AreFooted new after
    unfolding ends_in
    footed_added after rest its = record { each = λ s. ⊎_elim (at_slot s) (each_other s) (cases_eq s slot); ends = λ s inside. ⊎_elim (λ same. ends_new s same) (λ other. ends_other s inside other (state_at states s) refl) (cases_eq s slot) }
      where
        Stands : States → Slots → Option VolumeState → Type 0
        Stands t sl o = IfSome o (λ c. IfSome c.base (λ b. IsFooted t c b × IsOnBase sl c))

        each_other : (s : ℕ) → s ≢ slot → Stands new after (state_at new s)
        each_other s other = subst (Stands new after) (sym (others s other)) (by (state_at states s) refl (are.each s))
          where
            by : (o : Option VolumeState) → state_at states s ≡ o → Stands states slots o → Stands new after o
            by None e is = tt
            by (Some c) e is = based c.base is
              where
                based : (o : Option Base) → IfSome o (λ b. IsFooted states c b × IsOnBase slots c) → IfSome o (λ b. IsFooted new c b × IsOnBase after c)
                based None is = tt
                based (Some b) is = (footed_still c b is.0, rest s c other e is.1)

        at_slot : (s : ℕ) → s ≡ slot → Stands new after (state_at new s)
        at_slot s same = subst (Stands new after) (sym (ap (state_at new) same ∙ there)) (based x.base its)
          where
            based : (o : Option Base) → IfSome o (λ b. IsFooted states x b × IsOnBase after x) → IfSome o (λ b. IsFooted new x b × IsOnBase after x)
            based None is = tt
            based (Some b) is = (footed_still x b is.0, is.1)

        ends_other : (s : ℕ) → s < slot_count → s ≢ slot → (o : Option VolumeState) → state_at states s ≡ o → ends_in (footing_at new) slot_count s ≡ true
        ends_other s inside other None e = ap (λ (o : Option Footing). option_map_or (λ (f : Footing). ends_in (footing_at new) 63 f.parent) o true) (ap (option_and_then (λ (c : VolumeState). option_map footing_in c.base)) (others s other ∙ e))
        ends_other s inside other (Some c) e = chain_still slot_count s (ap is_some e) ∙ are.ends s inside

        ends_new : (s : ℕ) → s ≡ slot → ends_in (footing_at new) slot_count s ≡ true
        ends_new s same = ap (λ (o : Option Footing). option_map_or (λ (f : Footing). ends_in (footing_at new) 63 f.parent) o true) (ap (option_and_then (λ (c : VolumeState). option_map footing_in c.base)) (ap (state_at new) same ∙ there)) ∙ by x.base its
          where
            by : (o : Option Base) → IfSome o (λ b. IsFooted states x b × IsOnBase after x) → option_map_or (λ (f : Footing). ends_in (footing_at new) 63 f.parent) (option_map footing_in o) true ≡ true
            by None is = refl
            by (Some b) is =
                let parent_used : used b.parent ≡ true = ap is_some is.0.there in
                chain_still 63 b.parent parent_used ∙ ends_sooner (footing_at states) used lead slot b.parent low (ap is_some free) is.0.inside parent_used (are.ends b.parent is.0.inside)
