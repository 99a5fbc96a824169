-- No two volumes have one name, in heads as in memory.
use Rattle.std.proofs.Common.{◌≡◌, ℕ, ◌<◌, Bool, true, false, not, refl, ap, subst, ◌∙◌, arith}
use Rattle.std.specs.Prelude.{Option, Some, None, IfSome}
use Rattle.std.specs.Option.{option_map}
use Rattle.std.specs.List.{list_all, range_with_len}
use Rattle.fv_model.specs.Spelling.{name_cmp}
use Rattle.fv_laws.proofs.Orders.{name_ties}
use Rattle.fv_tables.proofs.Lists.{tied}
use Rattle.fv_image.specs.Views.{Head, View, slots}
use Rattle.fv_image.specs.Held.{Layout}
use Rattle.fv_image.specs.VolumeRules.{has_distinct_names, share_name}
use Rattle.fv_image.proofs.WholeSlots.{all_between}
use Rattle.fv_volume.specs.declared.state.VolumeState.{VolumeState}
use Rattle.fv_volume.specs.Files.{AreNamed}
use Rattle.fv_volume.specs.States.{States, head_in, state_at}

-- two heads with one name
names_same : (g h : Head) → share_name (Some g) (Some h) ≡ true → g.name ≡ h.name
names_same g h e = tied name_cmp name_ties g.name h.name e

-- names are distinct in a layout with the heads of such volumes
pub same_names : (w : View) (y : Layout) → ((s : ℕ) → y.view.head s ≡ w.head s) → (states : States) → ((s : ℕ) → w.head s ≡ option_map head_in (state_at states s)) → AreNamed states → has_distinct_names y ≡ true
unfolding has_distinct_names slots
same_names w y heads states are named = all_between (λ s. list_all (λ e. not (share_name (y.view.head e) (y.view.head s))) (range_with_len 0 s)) 0 64 (λ s low high.
    all_between (λ e. not (share_name (y.view.head e) (y.view.head s))) 0 s (λ e first last. by e s (omega (arith, last)) (state_at states e) (state_at states s) refl refl))
  where
    by : (e s : ℕ) → e < s → (o p : Option VolumeState) → state_at states e ≡ o → state_at states s ≡ p → not (share_name (y.view.head e) (y.view.head s)) ≡ true
    by e s lt o p first second = (λ k. not (share_name ((heads e ∙ are e ∙ ap (option_map head_in) first) k) ((heads s ∙ are s ∙ ap (option_map head_in) second) k))) ∙ apart o p first second
      where
        apart : (o p : Option VolumeState) → state_at states e ≡ o → state_at states s ≡ p → not (share_name (option_map head_in o) (option_map head_in p)) ≡ true
        apart None p first second = refl
        apart (Some x) None first second = refl
        apart (Some x) (Some z) first second = so (share_name (Some (head_in x)) (Some (head_in z))) refl
          where
            differ : x.name ≡ z.name → e ≡ s
            differ = subst (λ (q : Option VolumeState). IfSome q (λ z. x.name ≡ z.name → e ≡ s)) second (subst (λ (q : Option VolumeState). IfSome q (λ x. IfSome (state_at states s) (λ z. x.name ≡ z.name → e ≡ s))) first (named e s))

            so : (t : Bool) → share_name (Some (head_in x)) (Some (head_in z)) ≡ t → not t ≡ true
            so true same = absurd (let equal = differ (names_same (head_in x) (head_in z) same) in omega (arith, equal, lt))
            so false same = refl
