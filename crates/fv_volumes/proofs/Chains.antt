-- Chains of containers in memory, and what the view of a session finds along them: one law for volumes with and without a base.
use Rattle.std.proofs.Common.{◌≡◌, ℕ, zero, suc, ◌<◌, Bool, true, Option, Some, None, refl, sym, ap, ◌∙◌, arith}
use Rattle.std.specs.Prelude.{nat_lt, if◌then◌else◌}
use Rattle.std.specs.Option.{option_map, option_map_or, option_and_then, option_or}
use Rattle.std.proofs.lemmas.Bool.Decides.{nat_tests}
use Rattle.fv_disk.specs.Shown.{Image}
use Rattle.fv_image.specs.Chains as view
use Rattle.fv_image.specs.Views.{Footing, Head, View}
use Rattle.fv_container.specs.declared.entry.Entry.{Entry}
use Rattle.fv_container.specs.Chains.{along, chain_entry, container_at, or_else, own_entry, parent_at}
use Rattle.fv_pool.specs.declared.pool.Pool.{Pool}
use Rattle.fv_volume.specs.declared.state.Base.{Base}
use Rattle.fv_volume.specs.declared.state.VolumeState.{VolumeState}
use Rattle.fv_volume.specs.States.{States, footing_in, head_in, parent_in, placed_in, state_at, view_over}

-- The containers have in their chain the parents that the volumes stand on.
module _ (pool : Pool) (states : States) (i : Image) (parents : (s : ℕ) → parent_at pool.containers s ≡ parent_in (state_at states s)) where
  abbrev w : View
  w = view_over pool states i

  parent_is : (s : ℕ) → view.parent_in (w.head s) ≡ parent_at pool.containers s
  unfolding view_over
  parent_is s = so (state_at states s) ∙ sym (parents s)
    where
      of_base : (b : Option Base) → option_map (λ (f : Footing). f.parent) (option_map footing_in b) ≡ option_map (λ (b : Base). b.parent) b
      of_base None = refl
      of_base (Some b) = refl

      so : (o : Option VolumeState) → view.parent_in (option_map head_in o) ≡ parent_in o
      so None = refl
      so (Some x) = of_base x.base

  -- What the view finds along a chain of bases is what the containers have along their chain.
  pub along_view : (n s v : ℕ) → view.along w n s v ≡ placed_in pool.kept i (along pool.containers n (Some s) v)
  unfolding view.along along view_over
  along_view zero s v = refl
  along_view (suc n) s v =
      ap (λ (o : Option ℕ). option_or (placed_in pool.kept i (own_entry (container_at pool.containers s) v)) (option_and_then (λ p. view.along w n p v) o)) (parent_is s)
      ∙ so (λ p. along_view n p v) (parent_at pool.containers s) (own_entry (container_at pool.containers s) v)
    where
      nothing : (m : ℕ) → None ≡ placed_in pool.kept i (along pool.containers m None v)
      nothing zero = refl
      nothing (suc m) = refl

      so : ((p : ℕ) → view.along w n p v ≡ placed_in pool.kept i (along pool.containers n (Some p) v)) → (o : Option ℕ) (e : Option Entry)
          → option_or (placed_in pool.kept i e) (option_and_then (λ p. view.along w n p v) o) ≡ placed_in pool.kept i (or_else e (along pool.containers n o v))
      so next o (Some e) = refl
      so next None None = nothing n
      so next (Some p) None = next p

  -- So each VVBN below the span of a volume is found where the chain of containers has it.
  pub place_view : (s : ℕ) (x : VolumeState) → state_at states s ≡ Some x → (v : ℕ) → v < x.span → view.place w s v ≡ placed_in pool.kept i (chain_entry pool.containers s v)
  unfolding view.place view_over
  place_view s x there v low =
      let test : nat_lt v x.span ≡ true = grind (arith, nat_tests, low) in
      ap (λ (o : Option VolumeState). if nat_lt v (option_map_or (λ (h : Head). h.span) (option_map head_in o) 0) then view.along w 64 s v else w.entry s v) there
      ∙ ap (λ (b : Bool). if b then view.along w 64 s v else w.entry s v) test
      ∙ along_view 64 s v
