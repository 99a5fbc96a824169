-- The volumes by slot where one was removed, whatever a disk tells: what is so of each other one stays so, and all together need no more.
use Rattle.std.proofs.Common.{◌≡◌, ◌≢◌, ⊎_elim, ℕ, ◌<◌, ◌≤◌, Bool, true, false, not, List, length, Option, Some, None, refl, sym, ap, subst, ◌∙◌, arith, length-set}
use Rattle.std.specs.Prelude.{IfSome, cond, sum_by}
use Rattle.std.proofs.lemmas.Bool.{and_parts, cases_eq, cases_lt}
use Rattle.std.proofs.lemmas.List.{get_or_past, get_or-set_same, get_or-set_other}
use Rattle.std.proofs.lemmas.List.Sums.{sum_by-set}
use Rattle.fv_disk.specs.Shown.{Image, Shown}
use Rattle.fv_bits.specs.Members.{is_member}
use Rattle.fv_root.specs.declared.find.Found.{Found}
use Rattle.fv_root.specs.Formatted.{IsSize}
use Rattle.fv_store.specs.Held.{StandsOn}
use Rattle.fv_container.specs.Chains.{AreCleanOn, Slots, container_at, map_in, paged_at, parent_at, slot_count}
use Rattle.fv_container.specs.Clean.{IsCleanOn}
use Rattle.fv_container.specs.Mapped.{Mapped}
use Rattle.fv_container.specs.Paged.{Paged}
use Rattle.fv_aggmap.specs.Space.{Space}
use Rattle.fv_pool.specs.declared.pool.Pool.{Pool}
use Rattle.fv_volume.specs.declared.state.VolumeState.{VolumeState}
use Rattle.fv_pool.specs.BlocksOver.{entries_in}
use Rattle.fv_volumes.specs.Destroying.{HasForgotten, IsDestroyed}
use Rattle.fv_volume.specs.Files.{AreNamed, IsLabelled}
use Rattle.fv_volume.specs.Held.{IsReadyIn}
use Rattle.fv_volumes.specs.Housed.{AreHoused}
use Rattle.fv_pool.specs.Keeping.{Blocks, IsUnkept}
use Rattle.fv_volume.specs.Loading.{Houses}
use Rattle.fv_volume.specs.OneVolume.{IsReady}
use Rattle.fv_volume.specs.Slots.{committed_by, sum_of}
use Rattle.fv_volume.specs.States.{States, parent_in, state_at, with_state}
use Rattle.fv_volumes.specs.UnderRoot.{IsLentAt}
use Rattle.fv_volume.specs.Writing.{HasGiven}
use Rattle.fv_volumes.proofs.Made.{from_pairs, to_pair}
use Rattle.fv_volumes.proofs.Told.{is_inside}

-- ---- blocks

-- where the next root was to hold only what the root on the disk does, it is so once blocks were given back
pub given_within : (old new : Space) (gone : ℕ → Bool) → HasGiven old gone new → ((b : ℕ) → is_member old.next b ≡ true → is_member old.committed b ≡ true) → (b : ℕ) → is_member new.next b ≡ true → is_member new.committed b ≡ true
given_within old new gone gave within b next =
    ap (λ (c : List Bool). is_member c b) gave.committed ∙ within b (and_parts (is_member old.next b) (not (gone b)) (sym (gave.held b) ∙ next)).0

-- a block that didn't wait to be written doesn't wait
pub unkept_left : (old new : Blocks) (gone : ℕ → Bool) → HasForgotten old gone new → (b : ℕ) → IsUnkept old b → IsUnkept new b
unkept_left old new gone forgot b unkept = forgot b ∙ ap (λ (o : Option (List ℕ)). cond (gone b) None o) unkept ∙ same (gone b)
  where
    same : (t : Bool) → ◌≡◌ {A = Option (List ℕ)} (cond t None None) None
    same true = refl
    same false = refl

-- ---- the slots

module _ {told : Type 0} (pool : Pool) (states : States) (housed : AreHoused pool.containers states) (slot : ℕ) (x : VolumeState) (map : Mapped) (there : state_at states slot ≡ Some x) (new : States) (left : Pool) (gone : IsDestroyed told states pool slot x map new left) where
  pub inside : slot < 64
  inside = is_inside states slot x housed.long there

  in_row : slot < length states
  in_row = let long = housed.long in let low = inside in omega (arith, long, low)

  -- it has no volume and no container
  pub empty_state : state_at new slot ≡ None
  empty_state = ap (λ (s : States). state_at s slot) gone.row ∙ get_or-set_same states slot None None in_row

  pub other_state : (k : ℕ) → k ≢ slot → state_at new k ≡ state_at states k
  other_state k differ = ap (λ (s : States). state_at s k) gone.row ∙ get_or-set_other states slot k None None differ

  pub other_paged : (k : ℕ) → k ≢ slot → paged_at left.containers k ≡ paged_at pool.containers k
  other_paged k differ = ap (λ (c : Slots). paged_at c k) gone.containers ∙ get_or-set_other pool.containers.containers slot k None None differ

  pub other_container : (k : ℕ) → k ≢ slot → container_at left.containers k ≡ container_at pool.containers k
  other_container k differ = ap map_in (other_paged k differ)

  pub other_parent : (k : ℕ) → k ≢ slot → parent_at left.containers k ≡ parent_at pool.containers k
  other_parent k differ = ap (λ (c : Slots). parent_at c k) gone.containers ∙ get_or-set_other pool.containers.parents slot k None None differ

  pub empty_container : paged_at left.containers slot ≡ None
  empty_container = ap (λ (c : Slots). paged_at c slot) gone.containers ∙ ⊎_elim
      (λ (low : slot < length pool.containers.containers). get_or-set_same pool.containers.containers slot None None low)
      (λ (past : length pool.containers.containers ≤ slot). get_or_past _ slot None (let same = length-set pool.containers.containers slot None in omega (arith, past, same)))
      (cases_lt slot (length pool.containers.containers))

  pub empty_parent : parent_at left.containers slot ≡ None
  empty_parent = ap (λ (c : Slots). parent_at c slot) gone.containers ∙ ⊎_elim
      (λ (low : slot < length pool.containers.parents). get_or-set_same pool.containers.parents slot None None low)
      (λ (past : length pool.containers.parents ≤ slot). get_or_past _ slot None (let same = length-set pool.containers.parents slot None in omega (arith, past, same)))
      (cases_lt slot (length pool.containers.parents))

  -- what is so of each other volume is so of each
  pub each_left : (P Q : ℕ → VolumeState → Type 0) → ((s : ℕ) (y : VolumeState) → s ≢ slot → state_at states s ≡ Some y → P s y → Q s y) → ((s : ℕ) → IfSome (state_at states s) (P s)) → (s : ℕ) → IfSome (state_at new s) (Q s)
  each_left P Q stays was s = ⊎_elim
      (λ (here : s ≡ slot). subst (λ (o : Option VolumeState). IfSome o (Q s)) (sym (ap (state_at new) here ∙ empty_state)) tt)
      (λ (differ : s ≢ slot). subst (λ (o : Option VolumeState). IfSome o (Q s)) (sym (other_state s differ)) (by differ (state_at states s) refl (was s)))
      (cases_eq s slot)
    where
      by : s ≢ slot → (o : Option VolumeState) → state_at states s ≡ o → IfSome o (P s) → IfSome o (Q s)
      by differ None at none = tt
      by differ (Some y) at one = stays s y differ at one

  -- calls can be made on each
  pub beside_ready : (disk after : Shown) → StandsOn after left.store.pairs → (y : VolumeState) → y.slot ≢ slot → IsReady disk pool y → IsReady after left y
  beside_ready disk after stands y differ is = record {
    lent = record {
      within = is.lent.within;
      stands = stands;
      few = is.lent.few;
      entries = subst (λ (c : Option Mapped). y.map.span ≤ length (entries_in c)) (sym (other_container y.slot differ)) is.lent.entries;
    };
    labelled = is.labelled;
    booked = is.booked;
    blocks = subst (λ (f : Found). IsSize f.blocks) (sym gone.found) is.blocks;
    changed = is.changed;
    fresh = is.fresh;
  }

  pub ready_left : (disk after : Shown) → StandsOn after left.store.pairs → ((s : ℕ) → IfSome (state_at states s) (IsReadyIn disk pool s)) → (s : ℕ) → IfSome (state_at new s) (IsReadyIn after left s)
  ready_left disk after stands = each_left (IsReadyIn disk pool) (IsReadyIn after left) (λ s y differ at one. record { slot = one.slot; ready = beside_ready disk after stands y (λ e. differ (sym one.slot ∙ e)) one.ready })

  -- each slot can be lent still
  pub lent_left : (i : Image) → ((s : ℕ) → s < slot_count → IsLentAt i pool.found s (state_at states s) (paged_at pool.containers s)) → (s : ℕ) → s < slot_count → IsLentAt i left.found s (state_at new s) (paged_at left.containers s)
  lent_left i slots s low = subst (λ (f : Found). IsLentAt i f s (state_at new s) (paged_at left.containers s)) (sym gone.found) (⊎_elim
      (λ (here : s ≡ slot). subst (λ (o : Option VolumeState). IsLentAt i pool.found s o (paged_at left.containers s)) (sym (ap (state_at new) here ∙ empty_state))
      (subst (λ (c : Option Paged). IsLentAt i pool.found s None c) (sym (ap (paged_at left.containers) here ∙ empty_container)) tt))
      (λ (differ : s ≢ slot). subst (λ (o : Option VolumeState). IsLentAt i pool.found s o (paged_at left.containers s)) (sym (other_state s differ))
      (subst (λ (c : Option Paged). IsLentAt i pool.found s (state_at states s) c) (sym (other_paged s differ)) (slots s low)))
      (cases_eq s slot))

  -- what was clean is clean
  pub clean_left : (i : Image) → AreCleanOn i pool.containers → AreCleanOn i left.containers
  clean_left i clean s = ⊎_elim
      (λ (here : s ≡ slot). subst (λ (c : Option Paged). IfSome c (IsCleanOn i)) (sym (ap (paged_at left.containers) here ∙ empty_container)) tt)
      (λ (differ : s ≢ slot). subst (λ (c : Option Paged). IfSome c (IsCleanOn i)) (sym (other_paged s differ)) (clean s))
      (cases_eq s slot)

  -- they are in order
  pub housed_left : AreHoused left.containers new
  housed_left = record {
    long = ap (λ (s : States). length s) gone.row ∙ length-set states slot None ∙ housed.long;
    volumes = each_left IsLabelled IsLabelled (λ s y differ at one. one) housed.volumes;
    each = λ s. ⊎_elim
        (λ (here : s ≡ slot). subst (λ (o : Option VolumeState). Houses o (container_at left.containers s)) (sym (ap (state_at new) here ∙ empty_state)) tt)
        (λ (differ : s ≢ slot). subst (λ (o : Option VolumeState). Houses o (container_at left.containers s)) (sym (other_state s differ)) (subst (Houses (state_at states s)) (sym (other_container s differ)) (housed.each s)))
        (cases_eq s slot);
    parents = λ s. ⊎_elim
        (λ (here : s ≡ slot). ap (parent_at left.containers) here ∙ empty_parent ∙ sym (ap parent_in (ap (state_at new) here ∙ empty_state)))
        (λ (differ : s ≢ slot). other_parent s differ ∙ housed.parents s ∙ sym (ap parent_in (other_state s differ)))
        (cases_eq s slot);
  }

  -- what stands at a slot now stood there before
  was_there : (s : ℕ) (y : VolumeState) → state_at new s ≡ Some y → state_at states s ≡ Some y
  was_there s y at = ⊎_elim
      (λ (here : s ≡ slot). absurd (nothing (sym (ap (state_at new) here ∙ empty_state) ∙ at)))
      (λ (differ : s ≢ slot). sym (other_state s differ) ∙ at)
      (cases_eq s slot)
    where
      nothing : ◌≡◌ {A = Option VolumeState} None (Some y) → ⊥
      nothing e = cc

  pub names_left : AreNamed states → AreNamed new
  names_left named = from_pairs new (λ s k a b here also same. to_pair states named s k a b (was_there s a here) (was_there k b also) same)

  -- what each needs, if it is there, all together need at most as before
  pub sum_less : (f : Option VolumeState → ℕ) → f None ≡ 0 → sum_by f new ≤ sum_by f states
  sum_less f nothing =
      let sum = sum_by-set f states slot None None in_row in
      let row : sum_by f new ≡ sum_by f (with_state states slot None) = ap (λ (s : States). sum_by f s) gone.row in
      omega (arith, sum, row, nothing)

  -- so they commit no more
  pub sum_left : sum_of new ≤ sum_of states
  sum_left = sum_less committed_by refl
