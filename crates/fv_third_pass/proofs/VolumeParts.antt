-- A volume that is walked, as its parts are noted.
use Rattle.std.proofs.Common.{◌≡◌, ◌≢◌, ℕ, ◌-◌, ◌<◌, ◌≤◌, Bool, true, false, List, [], length, get_or, refl, sym, ap, subst, ◌∙◌, arith, Ok}
use Rattle.std.specs.Prelude.{Option, Some, None, Vec, map, ◌==◌, if◌then◌else◌}
use Rattle.std.specs.declared.alloc.Global.{Global}
use Rattle.std.specs.Option.{option_map, option_map_or, option_and_then}
use Rattle.std.specs.FinSet as set
use Rattle.std.proofs.lemmas.Bool.Decides.{nat_tests}
use Rattle.fv_disk.specs.Shown.{Image}
use Rattle.fv_codec.specs.declared.label.Label.{Label}
use Rattle.fv_laws.proofs.Lists.{In, in_map}
use Rattle.fv_model.specs.Places.{id_cmp, ids_of}
use Rattle.fv_model.specs.Space.{base_ids}
use Rattle.fv_image.specs.NewerRoot.{Taken}
use Rattle.fv_image.specs.Views.{Footing, Head, Rooted, Snap, head_of}
use Rattle.fv_image.specs.Held.{Layout, layout_at}
use Rattle.fv_image.specs.Seen.{base_root, roots_of}
use Rattle.fv_image.specs.Volumes.{base_from, base_on, snap_at, table_at, volume_told, volume_with}
use Rattle.fv_faults.specs.Met.{IsClean}
use Rattle.fv_faults.specs.SecondPass.{ground}
use Rattle.fv_faults.specs.ThirdPass.{base_steps, place_or, steps_on}
use Rattle.fv_faults.specs.Walks.{Ground, steps}
use Rattle.fv_first_pass.specs.declared.first.Known.{Known}
use Rattle.fv_first_pass.specs.Passed.{spelled, word_in}
use Rattle.fv_second_pass.specs.declared.reached.Reached as sets
use Rattle.fv_second_pass.specs.Reaching.{HasReach, IsReach, maps_of}
use Rattle.fv_second_pass.proofs.BaseReach.{base_in, base_reached}
use Rattle.fv_second_pass.proofs.Volumes.{head_there, label_there, lying}
use Rattle.fv_third_pass.specs.declared.roots.MapRoot.{MapRoot}
use Rattle.fv_third_pass.specs.Counted.{words_of}
use Rattle.fv_third_pass.specs.Maps.{HasWords}
use Rattle.fv_third_pass.specs.Volumes.{AreClean, AreReachIn, IsWalked, base_set, counted, reach_at, root_of}
use Rattle.fv_third_pass.proofs.BaseIds.{ids_counted}
use Rattle.fv_third_pass.proofs.WalkedFacts as facts

module _ (t : Taken) (i : Image) (long : (b : ℕ) → length (i b) ≡ 4096) (size : 1 ≤ t.blocks) (known : Known) (reached : sets.Reached) (walked : IsWalked t i known reached)
    (s : ℕ) (low : s < 64) (l : Label) (label : get_or known.labels.items s None ≡ Some (Ok l)) where
  abbrev y : Layout
  y = layout_at t i

  abbrev h : Head
  h = head_of l

  abbrev at : ℕ
  at = get_or t.root.labels s 0

  -- the words of its entries
  pub has_words : HasWords i y.view s (words_of (get_or known.rows.items s None))
  has_words = record { entries = λ v. (walked.passed.spells.entries s low).entries v ∙ so v (get_or known.rows.items s None) }
    where
      so : (v : ℕ) (o : Option (Vec ℕ Global)) → ◌≡◌ (spelled i (word_in o v)) (spelled i (get_or (words_of o) v 0))
      so v None = refl
      so v (Some row) = refl

  -- its own tables
  pub are_clean : (roots : List MapRoot) → map root_of roots ≡ roots_of h → AreClean (ground y.view s h) at roots
  are_clean roots are r there = facts.own_clean t i long size known reached walked s low l label (root_of r) (subst (In (root_of r)) are (in_map root_of r roots there))

  pub reach_in : AreReachIn l.span (λ r. steps (ground y.view s h) at r.1) (reach_at reached s) (roots_of h)
  reach_in = facts.reach_in t i long size known reached walked s low l label

  -- ---- its base

  abbrev p : ℕ
  p = l.parent - 1

  module _ (some : l.parent ≢ 0) where
    abbrev is : facts.IsBased t i long size known reached walked s low l label
    is = facts.based t i long size known reached walked s low l label some

    abbrev foot : Footing
    foot = record { parent = p; slot = l.base_slot; splitting = l.splitting == 1 }

    abbrev pub parent : Label
    parent = is.parent

    abbrev pub table : Rooted
    table = is.snap.table

    pub parent_read : get_or known.labels.items p None ≡ Some (Ok parent)
    parent_read = is.read

    pub parent_low : p < 64
    parent_low = is.inside

    pub narrow : (head_of parent).span ≤ h.span
    narrow = is.narrow

    pub table_found : option_map (λ (q : Snap). q.table) (snap_at (head_of parent) l.base_slot) ≡ Some table
    table_found = ap (option_map (λ (q : Snap). q.table)) is.found

    parent_head : y.view.head p ≡ Some (head_of parent)
    parent_head = head_there t i known walked.passed p is.inside parent is.read

    pub root_is : base_root y.view foot ≡ Some table
    root_is = ap (option_and_then (λ (g : Head). option_map (λ (q : Snap). q.table) (snap_at g l.base_slot))) parent_head ∙ table_found

    abbrev k : Ground
    k = ground y.view p (head_of parent)

    abbrev base_at : ℕ
    base_at = get_or t.root.labels p 0

    pub parent_lies : place_or (y.label p) ≡ base_at
    parent_lies = ap place_or (label_there t i known walked.passed p is.inside parent is.read)

    pub root_there : In (l.base_slot, table) (roots_of (head_of parent))
    root_there = base_in y foot (head_of parent) table parent_head root_is

    pub base_clean : IsClean (steps k base_at table)
    base_clean = facts.own_clean t i long size known reached walked p is.inside parent is.read (l.base_slot, table) root_there

    pub base_few : table.levels ≤ 2
    base_few = facts.few t i long size known reached walked p is.inside parent is.read (l.base_slot, table) root_there

    pub base_are : base_steps y h.base ≡ steps k base_at table
    unfolding base_steps
    base_are =
        ap (λ (o : Option Footing). option_map_or (λ b. option_map_or (λ g. option_map_or (steps_on y b g) (base_root y.view b) []) (y.view.head b.parent) []) o []) (facts.base_some t i long size known reached walked s low l label some)
        ∙ ap (λ (o : Option Head). option_map_or (λ g. option_map_or (steps_on y foot g) (base_root y.view foot) []) o []) parent_head
        ∙ ap (λ (o : Option Rooted). option_map_or (steps_on y foot (head_of parent)) o []) root_is
        ∙ ap (λ n. steps k n table) parent_lies

    ids_some : set.len (base_ids (base_from y.view (Some foot))) ≡ counted (get_or (maps_of (get_or reached.volumes.items p None)) l.base_slot None)
    unfolding snap_at
    ids_some =
        ap (λ (o : Option Head). set.len (base_ids (option_and_then (λ g. option_map (base_on y.view foot g) (snap_at g l.base_slot)) o))) parent_head
        ∙ ap (λ (o : Option Snap). set.len (base_ids (option_map (base_on y.view foot (head_of parent)) o))) is.found
        ∙ so (get_or (maps_of (get_or reached.volumes.items p None)) l.base_slot None)
        (base_reached y foot (head_of parent) table parent_head root_is reached.volumes.items walked.reach (lying t i known walked.passed p is.inside parent is.read) is.inside (label_there t i known walked.passed p is.inside parent is.read))
      where
        so : (o : Option (List Bool)) → HasReach k (steps_on y foot (head_of parent) table) o → set.len (ids_of (table_at y.view p table)) ≡ counted o
        so None has = absurd has
        so (Some reach) has = ids_counted k base_at table base_few base_clean reach (subst (λ n. IsReach k (steps k n table) reach) parent_lies has)
            (λ e one. facts.own_below t i long size known reached walked p is.inside parent is.read (l.base_slot, table) root_there e one)

  pub ids_are : set.len (base_ids (volume_told y.view s h).base) ≡ counted (base_set reached.volumes.items l)
  unfolding volume_with
  ids_are = so (l.parent == 0) refl
    where
      so : (b : Bool) → (l.parent == 0) ≡ b → set.len (base_ids (base_from y.view h.base)) ≡ counted (base_set reached.volumes.items l)
      so true e =
          let none : l.parent ≡ 0 = grind (arith, nat_tests, e) in
          ap (λ (o : Option Footing). set.len (base_ids (base_from y.view o))) (facts.base_none t i long size known reached walked s low l label none)
          ∙ set.len-empty id_cmp
          ∙ sym (ap (λ (b : Bool). counted (if b then None else get_or (maps_of (get_or reached.volumes.items p None)) l.base_slot None)) e)
      so false e =
          let some : l.parent ≢ 0 = grind (arith, nat_tests, e) in
          ap (λ (o : Option Footing). set.len (base_ids (base_from y.view o))) (facts.base_some t i long size known reached walked s low l label some)
          ∙ ids_some some
          ∙ sym (ap (λ (b : Bool). counted (if b then None else get_or (maps_of (get_or reached.volumes.items p None)) l.base_slot None)) e)

  pub base_nothing : l.parent ≡ 0 → base_steps y h.base ≡ []
  unfolding base_steps
  base_nothing none = ap (λ (o : Option Footing). option_map_or (λ b. option_map_or (λ g. option_map_or (steps_on y b g) (base_root y.view b) []) (y.view.head b.parent) []) o []) (facts.base_none t i long size known reached walked s low l label none)
