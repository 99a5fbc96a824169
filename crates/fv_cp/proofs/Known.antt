-- What is known of delayed entries: along images that show the same, of the volumes that are counted, and behind a point.
use Rattle.std.proofs.Common.{◌≡◌, ℕ, ◌<◌, Bool, true, false, not, ◌&&◌, List, [], get_or, refl, sym, ap, subst, ◌∙◌, arith}
use Rattle.std.specs.Prelude.{Option, Some, None, IfSome}
use Rattle.std.proofs.lemmas.Bool.{true≢false}
use Rattle.std.proofs.lemmas.Option.{none-some, same_Some}
use Rattle.fv_disk.specs.Shown.{Image, Shown}
use Rattle.fv_model.specs.Machines.{Machine}
use Rattle.fv_image.specs.Views.{Head, View, entry_count}
use Rattle.fv_image.specs.Views as views
use Rattle.fv_image.specs.Held.{view_at}
use Rattle.fv_image.proofs.Heads.{head_told}
use Rattle.fv_container.specs.Chains.{map_in, paged_at}
use Rattle.fv_container.specs.Paged.{Paged}
use Rattle.fv_root.specs.declared.find.Found.{Found}
use Rattle.fv_root.specs.Finding.{root_found}
use Rattle.fv_delay.specs.Delay.{is_delayed, region_of}
use Rattle.fv_delay.specs.Holding.{AreHoldingsOf, AreLeft, Holding, IsHoldingOf, counts_in, held_by}
use Rattle.fv_pool.specs.declared.pool.Pool.{Pool}
use Rattle.fv_volume.specs.declared.state.VolumeState.{VolumeState}
use Rattle.fv_volume.specs.Files.{IsLabelled}
use Rattle.fv_volumes.specs.Housed.{AreHoused}
use Rattle.fv_volume.specs.Loading.{IsLoaded}
use Rattle.fv_volume.specs.States.{States, head_in, state_at}
use Rattle.fv_volumes.specs.UnderRoot.{IsLentAt}
use Rattle.fv_cp.specs.Choosing.{counts_at, holding_with}
use Rattle.fv_cp.specs.Known.{AreKnown}
use Rattle.fv_cp.specs.Lent.{IsLent}
use Rattle.fv_cp.specs.Planning.{AreCounted}
use Rattle.fv_cp.proofs.Counting.{none_counted_in}
use Rattle.fv_cp.proofs.LeftDelayed.{holding_shown}

-- ---- along images

-- What is known of one image is known of another that shows the same.
pub known_same : (i j : Image) (found left : Found) (delays : List Bool) → view_at (root_found left) j ≡ view_at (root_found found) i → AreKnown i found delays → AreKnown j left delays
known_same i j found left delays same known =
    subst (λ (w : View). (s : ℕ) (h : Head) → s < 64 → get_or delays s true ≡ false → w.head s ≡ Some h → (v : ℕ) → v < entry_count h.span → views.is_delayed w s h v ≡ false) (sym same) known

-- Of any image nothing is known where each slot is marked.
pub known_none : (i : Image) (found : Found) (delays : List Bool) → ((s : ℕ) → s < 64 → get_or delays s true ≡ true) → AreKnown i found delays
known_none i found delays all s h inside off = absurd (true≢false (sym (all s inside) ∙ off))

-- ---- a volume and its image

-- a volume that an image shows has the delayed entries that the image has
delayed_shown : (w : View) (s : ℕ) (h : Head) (x : Holding) → IsHoldingOf w s h x → (v : ℕ) → v < entry_count h.span → is_delayed x.map x.container v ≡ views.is_delayed w s h v
delayed_shown w s h x is v within = λ i. is.entries v i && not (is.held v within i)

-- ---- what is counted

module _ (disk : Shown) (pool : Pool) (states : States) (before : Machine) (lent : IsLent disk pool states before) (housed : AreHoused pool.containers states) (delays : List Bool) (known : AreKnown disk.reads pool.found delays) where
  abbrev w : View
  w = view_at (root_found pool.found) disk.reads

  head_shown : (s : ℕ) (x : VolumeState) (map : Paged) → IsLoaded disk.reads pool.found s (Some x) (Some map) → w.head s ≡ Some (head_in x)
  head_shown s x map is = head_told (root_found pool.found) disk.reads s ∙ sym is.head

  -- of a volume that hasn't changed and isn't marked
  none_here : (s : ℕ) → s < 64 → get_or delays s true ≡ false → (x : VolumeState) (paged : Paged) → IsLabelled s x → IsLoaded disk.reads pool.found s (Some x) (Some paged) → counts_in s (held_by x.map paged.map) ≡ []
  none_here s inside off x paged labelled loaded =
      let map = paged.map in
      let head = head_shown s x paged loaded in
      let shown = holding_shown pool.found disk.reads s (head_in x) head (Some x) (Some paged) loaded (labelled.slots, labelled.snapshots.slots) labelled.map in
      let same : held_by x.map map ≡ shown.0 = same_Some (held_by x.map map) shown.0 shown.1.0 in
      let of : IsHoldingOf w s (head_in x) (held_by x.map map) = subst (IsHoldingOf w s (head_in x)) (sym same) shown.1.1 in
      none_counted_in (held_by x.map map) s (λ v within.
      let low : v < entry_count (head_in x).span = (let long = of.long in omega (arith, long, within)) in
      delayed_shown w s (head_in x) (held_by x.map map) of v low ∙ known s (head_in x) inside off head v low)

  -- The volumes that aren't counted have no delayed entries.
  pub are_counted : AreCounted pool.containers states delays
  are_counted s inside off unchanged = by (state_at states s) (paged_at pool.containers s) (housed.volumes s) (lent.slots s inside) unchanged
    where
      by : (o : Option VolumeState) (c : Option Paged) → IfSome o (IsLabelled s) → IsLentAt disk.reads pool.found s o c → IfSome o (λ x. x.changed ≡ false) → counts_at s (holding_with o (map_in c)) ≡ []
      by None c labelled slot same = refl
      by (Some x) None labelled slot same = refl
      by (Some x) (Some map) labelled slot same = none_here s inside off x map labelled (slot.unchanged same)

-- ---- behind a point

-- Behind a reclaim of some regions it is known of the slots that aren't marked, where each delayed entry of their volumes lay in one of
-- these.
pub known_left : (i : Image) (found : Found) (regions : ℕ → ℕ → Bool) (old new : ℕ → Option Holding) (delays : List Bool) → AreLeft regions old new → AreHoldingsOf (view_at (root_found found) i) new
    → ((s : ℕ) (x : Holding) → s < 64 → get_or delays s true ≡ false → old s ≡ Some x → (v : ℕ) → is_delayed x.map x.container v ≡ true → regions s (region_of v) ≡ true) → AreKnown i found delays
known_left i found regions old new delays left shown clear s h inside off is v within = by (old s) refl
  where
    here : (y : Holding) × ((new s ≡ Some y) × IsHoldingOf (view_at (root_found found) i) s h y)
    here = shown.each s h inside is

    spared : (x : Holding) → old s ≡ Some x → (t : Bool) → is_delayed x.map x.container v ≡ t → (t && not (regions s (region_of v))) ≡ false
    spared x there false e = refl
    spared x there true e = ap not (clear s x inside off there v e)

    by : (o : Option Holding) → old s ≡ o → views.is_delayed (view_at (root_found found) i) s h v ≡ false
    by None none = absurd (none-some here.0 (sym (left.free s inside none) ∙ here.1.0))
    by (Some x) there =
        let is_left = left.each s x inside there in
        let same : is_left.0 ≡ here.0 = same_Some is_left.0 here.0 (sym is_left.1.0 ∙ here.1.0) in
        let now : is_delayed here.0.map here.0.container v ≡ (is_delayed x.map x.container v && not (regions s (region_of v))) = ap (λ (y : Holding). is_delayed y.map y.container v) (sym same) ∙ is_left.1.1.delayed v in
        sym (delayed_shown (view_at (root_found found) i) s h here.0 here.1.1 v within) ∙ now ∙ spared x there (is_delayed x.map x.container v) refl
