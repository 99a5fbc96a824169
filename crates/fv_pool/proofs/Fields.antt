-- What is known of the containers and of the damages that were answered, wherever blocks of a volume are lent: so it is after each call.
use Rattle.std.proofs.Common.{◌≡◌, ◌≢◌, ◌≤◌, ◌+◌, ◌⊎◌, ◌==◌, ◌||◌, ℕ, true, false, List, length, Option, Some, None, sym, ap, subst, inl, inr, ⊎_elim, arith}
use Rattle.std.specs.Prelude.{IfSome, IsTrue, is_some}
use Rattle.std.proofs.Math.Logic.{∥∥₁_elim, ∥∥₁_map}
use Rattle.std.proofs.lemmas.Bool.{cases_eq}
use Rattle.std.proofs.lemmas.Bool.Decides.{nat_tests}
use denote.Struct.Props.{props}
use Rattle.fv_disk.specs.Shown.{Image, Shown as Disk}
use Rattle.fv_disk.specs.DiskCalls.{OnlyReads}
use Rattle.fv_disk.specs.declared.fault.BlockFault.{BlockFault}
use Rattle.fv_codec.specs.Blocks.{last_place}
use Rattle.fv_image.specs.Layout.{root_place}
use Rattle.fv_aggmap.specs.Space.{free_blocks}
use Rattle.fv_root.specs.declared.find.Found.{Found}
use Rattle.fv_container.specs.declared.entry.Entry.{Entry}
use Rattle.fv_container.specs.Chains.{AreCleanOn, Slots, container_at}
use Rattle.fv_container.specs.Mapped.{Mapped}
use Rattle.fv_container.proofs.Damage.{HasTree, KeepTrees, damage_stays}
use Rattle.fv_tree.specs.declared.blocks.Placed.{Placed}
use Rattle.fv_volmap.specs.Slots.{Volume}
use Rattle.fv_pool.specs.declared.blocks.Home.{Home}
use Rattle.fv_pool.specs.declared.noted.Noted.{Noted}
use Rattle.fv_pool.specs.declared.pool.Pool.{Pool}
use Rattle.fv_pool.specs.BlocksOver.{AreApart, HasShapeOf, HoldsMore, IsLooseFault, LacksPlace, LeavesPool, LoadsPool, PlacesBlock, entries_in, tree_in}
use Rattle.fv_pool.specs.Lending.{Notes, WasDamage, WasHole, WasLack, no_damage}
use Rattle.fv_pool.specs.LendingLaws.{apart_by, leaf_before}
use Rattle.fv_pool.proofs.Going.{apart_still, load_notes, place_notes}

-- ---- the trees of containers stay

shape_same : (was now : Option Mapped) → now ≡ was → HasShapeOf was now
shape_same was now same = record { there = ap is_some same; count = ap (λ (m : Option Mapped). length (entries_in m)) same; tree = ap tree_in same }

tree_kept : (was now : Option Mapped) → HasShapeOf was now → IfSome was (λ map. HasTree map now)
tree_kept None now shape = tt
tree_kept (Some map) None shape = let wrong : false ≡ true = shape.there in cc
tree_kept (Some map) (Some now) shape = (shape.tree, shape.count)

-- a damage that was answered is one still
module _ (disk later : Disk) (pool new : Pool) (reads : OnlyReads disk later) where
  damage_now : (home : Home) (noted : Noted) → ((s : ℕ) → HasShapeOf (container_at pool.containers s) (container_at new.containers s)) → new.found ≡ pool.found → WasDamage disk pool home noted → WasDamage later new home noted
  damage_now home noted shapes found (inl lack) = inl (subst (λ (f : Found). WasLack home.label (root_place f.slot) noted) (sym found) lack)
  damage_now home noted shapes found (inr leaf) = inr (λ told.
      let keep : KeepTrees pool.containers new.containers = λ s. tree_kept (container_at pool.containers s) (container_at new.containers s) (shapes s) in
      damage_stays later.reads pool.containers new.containers noted.at noted.want noted.found keep
      (leaf_before later disk pool.containers noted.at noted.want noted.found (sym reads.stays.tells) (sym reads.stays.reads) leaf told))

  still_damage : (home : Home) (noted : Noted) → ((s : ℕ) → HasShapeOf (container_at pool.containers s) (container_at new.containers s)) → new.found ≡ pool.found
      → ∥ WasDamage disk pool home noted ∥₁ → ∥ WasDamage later new home noted ∥₁
  still_damage home noted shapes found damage = ∥∥₁_map damage (damage_now home noted shapes found)

hole_lacks : (label root : ℕ) (noted : Noted) → WasHole label noted → WasLack label root noted
hole_lacks label root noted hole =
    let same : (noted.at == label) ≡ true = grind (arith, nat_tests, hole.at_is) in
    record { want_is = hole.want_is; found_is = hole.found_is; at_is = ap (λ t. t || (noted.at == root)) same }

-- what was noted isn't more than what was noted before, or it is damage
noted_damage : (old now : Noted) (P : Noted → Type 0) → (old.count ≢ 0 → ∥ P old ∥₁) → (now ≡ old) ⊎ ∥ P now ∥₁ → now.count ≢ 0 → ∥ P now ∥₁
noted_damage old now P was (inl same) some = subst (λ (n : Noted). ∥ P n ∥₁) (sym same) (was (subst (λ (n : Noted). n.count ≢ 0) same some))
noted_damage old now P was (inr is) some = is

-- ---- nothing changed but the cache

module _ {pool new : Pool} (leaves : LeavesPool pool new) where
  leaves_shapes : (s : ℕ) → HasShapeOf (container_at pool.containers s) (container_at new.containers s)
  leaves_shapes s = shape_same (container_at pool.containers s) (container_at new.containers s) (ap (λ (slots : Slots). container_at slots s) leaves.containers)

  pub leaves_apart : (map : Volume) (slot : ℕ) → AreApart pool map slot → AreApart new map slot
  leaves_apart map slot apart = apart_by pool new map slot leaves.map leaves.containers apart

  module _ {disk later : Disk} (reads : OnlyReads disk later) where
    pub leaves_clean : ∥ AreCleanOn disk.reads pool.containers ∥₁ → ∥ AreCleanOn later.reads new.containers ∥₁
    leaves_clean clean = ∥∥₁_map clean (λ was. subst (λ (i : Image). AreCleanOn i new.containers) (sym reads.stays.reads) (subst (AreCleanOn disk.reads) (sym leaves.containers) was))

    pub leaves_damage : (home : Home) (noted : Noted) → ∥ WasDamage disk pool home noted ∥₁ → ∥ WasDamage later new home noted ∥₁
    leaves_damage home noted damage = still_damage disk later pool new reads home noted leaves_shapes leaves.found damage

    -- a block wasn't read
    pub loose_damage : (home : Home) (old now : Noted) (entry : Option Entry) (fault : BlockFault) → (old.count ≢ 0 → ∥ WasDamage disk pool home old ∥₁) → IsLooseFault disk pool.containers entry home.label fault → Notes old fault now
        → now.count ≢ 0 → ∥ WasDamage later new home now ∥₁
    loose_damage home old now entry fault damage loose notes =
        noted_damage old now (WasDamage later new home) (λ some. leaves_damage home old (damage some)) (⊎_elim (λ same. inl same) (λ why. inr (⊎_elim
        (λ hole. ∣ inl (hole_lacks home.label (root_place new.found.slot) now hole) ∣₁)
        (λ leaf. still_damage disk later pool new reads home now leaves_shapes leaves.found ∣ inr leaf ∣₁)
        why)) (load_notes disk pool.containers entry home.label fault old now loose notes))

-- ---- leaves came into memory

module _ {disk : Disk} {pool new : Pool} (loads : LoadsPool disk pool new) where
  loads_shapes : (s : ℕ) → HasShapeOf (container_at pool.containers s) (container_at new.containers s)
  loads_shapes s = shape_same (container_at pool.containers s) (container_at new.containers s) (loads.containers.maps s)

  pub loads_entries : {map after : Volume} (slot : ℕ) → after ≡ map → map.span ≤ length (entries_in (container_at pool.containers slot)) → after.span ≤ length (entries_in (container_at new.containers slot))
  loads_entries {map = map} {after = after} slot same fits =
      let span : after.span ≡ map.span = ap (λ (m : Volume). m.span) same in
      let count : length (entries_in (container_at new.containers slot)) ≡ length (entries_in (container_at pool.containers slot)) = ap (λ m. length (entries_in m)) (loads.containers.maps slot) in
      omega (arith, span, count, fits)

  pub loads_blocks : (room : ℕ) → room ≤ free_blocks pool.map → room ≤ free_blocks new.map
  loads_blocks room fits = let free : free_blocks new.map ≡ free_blocks pool.map = ap free_blocks loads.map in omega (arith, free, fits)

  module _ {later : Disk} (reads : OnlyReads disk later) where
    pub loads_clean : IsTrue disk.tells → ∥ AreCleanOn disk.reads pool.containers ∥₁ → ∥ AreCleanOn later.reads new.containers ∥₁
    loads_clean tells clean = ∥∥₁_map clean (λ was. subst (λ (i : Image). AreCleanOn i new.containers) (sym reads.stays.reads) (loads.containers.clean (tells, was)))

    pub loads_apart : {map after : Volume} (home : Home) → after ≡ map → AreApart pool map home.slot → AreApart new after home.slot
    loads_apart {map = map} home same apart = subst (λ (m : Volume). AreApart new m home.slot) (sym same) (apart_still pool new map disk later 0 home 0 0 no_damage no_damage loads reads apart)

    -- no block was placed
    pub unplaced_damage : (map : Volume) (home : Home) (old now : Noted) (fault : BlockFault) → (old.count ≢ 0 → ∥ WasDamage disk pool home old ∥₁)
        → LacksPlace disk pool.containers pool.map map (root_place pool.found.slot) home.label fault → Notes old fault now → now.count ≢ 0 → ∥ WasDamage later new home now ∥₁
    unplaced_damage map home old now fault damage lacks notes =
        noted_damage old now (WasDamage later new home) (λ some. still_damage disk later pool new reads home old loads_shapes loads.found (damage some)) (⊎_elim (λ same. inl same)
        (λ why. inr (still_damage disk later pool new reads home now loads_shapes loads.found (⊎_elim (λ lack. ∣ inl lack.0 ∣₁) (λ leaf. ∣ inr leaf ∣₁) why)))
        (place_notes disk pool.containers pool.map map (root_place pool.found.slot) home.label fault old now lacks notes))

-- ---- a block was placed

apart_prop : (pool : Pool) (map : Volume) (slot : ℕ) → IsProp (AreApart pool map slot)
apart_prop pool map slot = hlevel props

module _ {disk : Disk} {pool new : Pool} {map after : Volume} {slot kind : ℕ} {block : List ℕ} {placed : Placed} where
  pub placed_apart : HoldsMore disk pool map slot kind block new after placed → IsTrue disk.tells → ∥ AreCleanOn disk.reads pool.containers ∥₁ → AreApart pool map slot → AreApart new after slot
  placed_apart holds tells clean apart = ∥∥₁_elim clean (apart_prop new after slot) (λ was. holds.apart (tells, was) apart)

  module _ (places : PlacesBlock disk pool map slot kind block new after placed) where
    placed_shapes : (s : ℕ) → HasShapeOf (container_at pool.containers s) (container_at new.containers s)
    placed_shapes s = ⊎_elim
        (λ (e : s ≡ slot). subst (λ (k : ℕ). HasShapeOf (container_at pool.containers k) (container_at new.containers k)) (sym e) places.entry.shape)
        (λ (ne : s ≢ slot). shape_same (container_at pool.containers s) (container_at new.containers s) (places.entry.others s ne))
        (cases_eq s slot)

    placed_span : after.span ≡ map.span
    placed_span = ap (λ (m : Volume). m.span) places.takes.number.volume

    pub placed_few : map.span ≤ last_place + 1 → after.span ≤ last_place + 1
    placed_few few = omega (arith, placed_span, few)

    pub placed_entries : map.span ≤ length (entries_in (container_at pool.containers slot)) → after.span ≤ length (entries_in (container_at new.containers slot))
    placed_entries fits = let count = places.entry.shape.count in omega (arith, placed_span, count, fits)

    module _ {later : Disk} (reads : OnlyReads disk later) where
      pub placed_clean : IsTrue disk.tells → ∥ AreCleanOn disk.reads pool.containers ∥₁ → ∥ AreCleanOn later.reads new.containers ∥₁
      placed_clean tells clean = ∥∥₁_map clean (λ was. subst (λ (i : Image). AreCleanOn i new.containers) (sym reads.stays.reads) (places.entry.clean (tells, was)))

      pub placed_damage : (home : Home) (noted : Noted) → ∥ WasDamage disk pool home noted ∥₁ → ∥ WasDamage later new home noted ∥₁
      placed_damage home noted damage = still_damage disk later pool new reads home noted placed_shapes places.found damage

-- ---- as lent

-- what holds of the containers and the disk that a call had is said of the caller's
pub of_clean : {S D : Type 0} (says : S → D → Type 0) {s t : S} {d e : D} → s ≡ t → d ≡ e → says s d → says t e
of_clean says {s = s} {t = t} {d = d} {e = e} slots disk is = subst (λ x. says t x) disk (subst (λ x. says x d) slots is)
