-- What is left of the other volumes of a session where one was removed: each stands for what it stood for, and all are spaced still.
use Rattle.std.proofs.Common.{◌≡◌, ◌≢◌, ⊎_elim, ℕ, zero, suc, ◌<◌, ◌≤◌, ◌+◌, Bool, true, false, not, ◌&&◌, ◌||◌, Option, Some, None, is_some, true≢false, refl, sym, ap, subst, ◌∙◌, arith}
use Rattle.std.specs.Prelude.{IfSome, cond, ◌==◌}
use Rattle.std.specs.Option.{option_and_then, option_map, option_map_or}
use Rattle.std.specs.FinMap as fin
use Rattle.std.specs.FinSet as set
use Rattle.std.proofs.lemmas.Bool.{and_parts, cases_eq}
use Rattle.std.proofs.lemmas.Bool.Decides.{nat_tests}
use Rattle.std.proofs.lemmas.Option.{none-some, same_Some}
use Rattle.fv_model.specs.Space.{base_ids}
use Rattle.fv_model.specs.Volumes.{Volume as Model}
use Rattle.fv_disk.specs.DiskCalls.{OnlyReads}
use Rattle.fv_disk.specs.Shown.{Image, Shown}
use Rattle.fv_bits.specs.Members.{is_member}
use Rattle.fv_image.specs.Views.{entry_count, Footing}
use Rattle.fv_volmap.specs.Slots.{has}
use Rattle.fv_container.specs.declared.entry.Entry.{Entry}
use Rattle.fv_container.specs.Chains.{AreCleanOn, Slots, TellsEntries, container_at, own_entry, paged_at, slot_count}
use Rattle.fv_container.specs.Mapped.{Mapped}
use Rattle.fv_container.specs.Spelled.{is_at, names}
use Rattle.fv_pool.specs.declared.pool.Pool.{Pool}
use Rattle.fv_store.specs.Held.{StandsOn}
use Rattle.fv_volume.specs.declared.state.Base.{Base}
use Rattle.fv_volume.specs.declared.state.VolumeState.{VolumeState}
use Rattle.fv_volumes.specs.Destroying.{IsDestroyed}
use Rattle.fv_volumes.specs.Footing.{ends_in, footing_at, is_stood_on, stands_by, AreFooted, IsFooted, IsOnBase}
use Rattle.fv_volume.specs.Held.{IsHeldIn}
use Rattle.fv_volumes.specs.Housed.{AreHoused}
use Rattle.fv_volume.specs.OneVolume.{volume_for}
use Rattle.fv_volume.specs.Placing.{StaysBeside}
use Rattle.fv_volume.specs.Files.{IsLabelled}
use Rattle.fv_volume.specs.States.{States, footing_in, parent_in, state_at}
use Rattle.fv_volume.specs.Stored.{AreSpacedIn, has_block, is_of, leads}
use Rattle.fv_volumes.specs.UnderRoot.{IsLentAt}
use Rattle.fv_volumes.proofs.Drawing.{not_so, or_neither}
use Rattle.fv_volumes.proofs.Beside.{StandOff, beside_off}
use Rattle.fv_volumes.proofs.Alone.{housed_alone}
use Rattle.fv_volumes.proofs.Footed.{footed_beside, on_base_over}
use Rattle.fv_volumes.proofs.PlacedIn.{own_has}
use Rattle.fv_volumes.proofs.Removed as removed
use Rattle.fv_volumes.proofs.StoodOn.{stands_not}
use Rattle.fv_volumes.proofs.Told.{is_inside}

-- A volume on which no clone stands is on no chain of another.
pub stands_off : (states : States) (slots : Slots) → AreHoused slots states → AreFooted states slots → (slot : ℕ) → is_stood_on states slot ≡ false → StandOff slots slot states
stands_off states slots housed footed slot unused s t x other there up = by x.base refl (subst (λ (o : Option VolumeState). IfSome o (λ x. IfSome x.base (λ b. IsFooted states x b × IsOnBase slots x))) there (footed.each s))
  where
    by : (o : Option Base) → x.base ≡ o → IfSome o (λ b. IsFooted states x b × IsOnBase slots x) → (t ≢ slot) × (is_some (state_at states t) ≡ true)
    by None bare is = absurd (none-some t (sym (housed_alone slots states housed s x there bare) ∙ up))
    by (Some b) based is =
        let at : b.parent ≡ t = same_Some b.parent t (sym (housed.parents s ∙ ap parent_in there ∙ ap (option_map (λ (b : Base). b.parent)) based) ∙ up) in
        let not : stands_by (λ b. b.parent == slot) (state_at states s) ≡ false = stands_not states (λ b. b.parent == slot) unused s (is_inside states s x housed.long there) in
        let isnt : (b.parent == slot) ≡ false = sym (ap (stands_by (λ b. b.parent == slot)) there ∙ ap (λ (o : Option Base). option_map_or (λ (b : Base). b.parent == slot) o false) based) ∙ not in
        ((λ same. let test : (b.parent == slot) ≡ true = (let e : b.parent ≡ slot = at ∙ same in grind (arith, nat_tests, e)) in true≢false (sym test ∙ isnt)), ap is_some (ap (state_at states) (sym at) ∙ is.0.there))

module _ (disk : Shown) (pool : Pool) (states : States) (housed : AreHoused pool.containers states) (slots : (s : ℕ) → s < slot_count → IsLentAt disk.reads pool.found s (state_at states s) (paged_at pool.containers s))
    (spaced : AreSpacedIn pool.found.blocks pool.map.next (state_at states) (container_at pool.containers))
    (slot : ℕ) (x : VolumeState) (map : Mapped) (there : state_at states slot ≡ Some x) (lies : container_at pool.containers slot ≡ Some map) (new : States) (left : Pool) (gone : IsDestroyed (TellsEntries disk pool.containers) states pool slot x map new left)
    (after : Shown) (reads : OnlyReads disk after) (stands : StandsOn after left.store.pairs) where
  -- ---- the slots

  inside : slot < 64
  inside = removed.inside pool states housed slot x map there new left gone

  empty_state : state_at new slot ≡ None
  empty_state = removed.empty_state pool states housed slot x map there new left gone

  other_state : (k : ℕ) → k ≢ slot → state_at new k ≡ state_at states k
  other_state = removed.other_state pool states housed slot x map there new left gone

  other_container : (k : ℕ) → k ≢ slot → container_at left.containers k ≡ container_at pool.containers k
  other_container = removed.other_container pool states housed slot x map there new left gone

  -- ---- its blocks

  -- no other volume has one of them
  not_its : (k b : ℕ) → k < 64 → k ≢ slot → has_block (state_at states k) (container_at pool.containers k) b ≡ true → is_of x x.label map b ≡ false
  not_its k b low differ has = not_so (is_of x x.label map b) (λ its. spaced.apart k slot b low inside differ has ((λ j. has_block (there j) (lies j) b) ∙ its))

  still_next : TellsEntries disk pool.containers → (k b : ℕ) → k < 64 → k ≢ slot → has_block (state_at states k) (container_at pool.containers k) b ≡ true → is_member left.map.next b ≡ true
  still_next told k b low differ has = (gone.given told).held b ∙ (λ j. (spaced.held k b low has).0 j && not (not_its k b low differ has j))

  still_kept : TellsEntries disk pool.containers → (k b : ℕ) → k < 64 → k ≢ slot → has_block (state_at states k) (container_at pool.containers k) b ≡ true → fin.get left.kept b ≡ fin.get pool.kept b
  still_kept told k b low differ has =
      let isnt = or_neither (is_at b x.label) (names map.tree b || leads map (entry_count x.span) b) (not_its k b low differ has) in
      let led = or_neither (names map.tree b) (leads map (entry_count x.span) b) isnt.1 in
      gone.kept told b ∙ ap (λ (t : Bool). cond t None (fin.get pool.kept b)) led.1

  -- the block of an entry of a volume is one of its blocks
  its : (k v : ℕ) (z : VolumeState) (e : Entry) → state_at states k ≡ Some z → own_entry (container_at pool.containers k) v ≡ Some e → has_block (state_at states k) (container_at pool.containers k) e.pvbn ≡ true
  its k v z e here own = own_has disk pool states housed slots k z here e.pvbn (record { vvbn = v; entry = e; stands = own; leads = refl })

  -- ---- another volume

  module _ (footed : AreFooted states pool.containers) (unused : is_stood_on states slot ≡ false) (y : VolumeState) (at : state_at states y.slot ≡ Some y) (differ : y.slot ≢ slot) (one : IsHeldIn disk pool y.slot y) where
    -- no volume stands on it
    off : StandOff pool.containers slot states
    off = stands_off states pool.containers housed footed slot unused

    told : TellsEntries disk pool.containers
    told = (one.stands.told.0, one.stands.told.2)

    clean : AreCleanOn after.reads left.containers
    clean = subst (λ (i : Image). AreCleanOn i left.containers) (sym reads.stays.reads) (removed.clean_left pool states housed slot x map there new left gone disk.reads told.1)

    -- it stands for what it stood for
    stays : StaysBeside disk pool after left y
    stays = beside_off disk after pool left states slot off other_container (removed.other_parent pool states housed slot x map there new left gone) reads.stays.tells reads.stays.reads y at differ
        (λ k v z e other here own. still_kept told k e.pvbn (is_inside states k z housed.long here) other (its k v z e here own))
        (λ k v z e other here own. still_next told k e.pvbn (is_inside states k z housed.long here) other (its k v z e here own))
        clean one.stands

    pub beside_volume : volume_for after left y ≡ volume_for disk pool y
    beside_volume = stays.volume

    -- and is one of the session still
    pub beside_held : IsHeldIn after left y.slot y
    beside_held = record {
      slot = refl;
      ready = removed.beside_ready pool states housed slot x map there new left gone disk after stands y differ one.ready;
      stands = stays.standing;
      led = stays.led one.led;
      well = stays.well one.well;
      wide = subst (λ (v : Model). v.most + (set.len (base_ids v.base) + 256) ≤ v.span) (sym stays.volume) one.wide;
      within = one.within;
    }

  -- so is the volume of each slot
  pub held_left : AreFooted states pool.containers → is_stood_on states slot ≡ false → ((s : ℕ) → IfSome (state_at states s) (IsHeldIn disk pool s)) → (s : ℕ) → IfSome (state_at new s) (IsHeldIn after left s)
  held_left footed unused each = removed.each_left pool states housed slot x map there new left gone (IsHeldIn disk pool) (IsHeldIn after left) (λ s y differ at is.
      let same = is.slot in
      subst (λ (n : ℕ). IsHeldIn after left n y) same (beside_held footed unused y (ap (state_at states) same ∙ at) (λ e. differ (sym same ∙ e)) (subst (λ (n : ℕ). IsHeldIn disk pool n y) (sym same) is))) each

  -- Each clone stands on what it stood on.
  pub footed_left : AreFooted states pool.containers → is_stood_on states slot ≡ false → AreFooted new left.containers
  unfolding ends_in
  footed_left footed unused = record { each = each; ends = λ s low. ends_still slot_count s (footed.ends s low) }
    where
      Stands : States → Slots → Option VolumeState → Type 0
      Stands t slots o = IfSome o (λ c. IfSome c.base (λ b. IsFooted t c b × IsOnBase slots c))

      -- the volume of another slot stands on one of another slot
      off_slot : (s : ℕ) (c : VolumeState) (b : Base) → s ≢ slot → state_at states s ≡ Some c → c.base ≡ Some b → b.parent ≢ slot
      off_slot s c b differ at based = (stands_off states pool.containers housed footed slot unused s b.parent c differ at (housed.parents s ∙ ap parent_in at ∙ ap (option_map (λ (b : Base). b.parent)) based)).0

      on_base : (s : ℕ) (c : VolumeState) → s ≢ slot → state_at states s ≡ Some c → IsOnBase pool.containers c → IsOnBase left.containers c
      on_base s c differ at is =
          let its : c.slot ≡ s = (subst (λ (o : Option VolumeState). IfSome o (IsLabelled s)) at (housed.volumes s)).slot_is in
          on_base_over pool.containers left.containers c (λ v. ap (λ (m : Option Mapped). own_entry m v) (other_container c.slot (λ e. differ (sym its ∙ e)))) is

      footed_now : (c : VolumeState) (b : Base) → b.parent ≢ slot → IsFooted states c b → IsFooted new c b
      footed_now c b differ = footed_beside states new c c b refl (λ v. refl) (other_state b.parent differ)

      each : (s : ℕ) → Stands new left.containers (state_at new s)
      each s = ⊎_elim
          (λ (here : s ≡ slot). subst (Stands new left.containers) (sym (ap (state_at new) here ∙ empty_state)) tt)
          (λ (differ : s ≢ slot). subst (Stands new left.containers) (sym (other_state s differ)) (by s differ (state_at states s) refl (footed.each s)))
          (cases_eq s slot)
        where
          by : (s : ℕ) → s ≢ slot → (o : Option VolumeState) → state_at states s ≡ o → Stands states pool.containers o → Stands new left.containers o
          by s differ None at is = tt
          by s differ (Some c) at is = based c.base refl is
            where
              based : (o : Option Base) → c.base ≡ o → IfSome o (λ b. IsFooted states c b × IsOnBase pool.containers c) → IfSome o (λ b. IsFooted new c b × IsOnBase left.containers c)
              based None e is = tt
              based (Some b) e is = (footed_now c b (off_slot s c b differ at e) is.0, on_base s c differ at is.1)

      ends_still : (n s : ℕ) → ends_in (footing_at states) n s ≡ true → ends_in (footing_at new) n s ≡ true
      ends_still zero s ends = ends
      ends_still (suc n) s ends = ⊎_elim
          (λ (here : s ≡ slot). ap (λ (o : Option Footing). option_map_or (λ (f : Footing). ends_in (footing_at new) n f.parent) o true) (ap (option_and_then (λ (c : VolumeState). option_map footing_in c.base)) (ap (state_at new) here ∙ empty_state)))
          (λ (differ : s ≢ slot).
          ap (λ (o : Option Footing). option_map_or (λ (f : Footing). ends_in (footing_at new) n f.parent) o true) (ap (option_and_then (λ (c : VolumeState). option_map footing_in c.base)) (other_state s differ))
          ∙ so (ends_still n) (footing_at states s) ends)
          (cases_eq s slot)
        where
          so : ((t : ℕ) → ends_in (footing_at states) n t ≡ true → ends_in (footing_at new) n t ≡ true) → (o : Option Footing) → option_map_or (λ (f : Footing). ends_in (footing_at states) n f.parent) o true ≡ true
              → option_map_or (λ (f : Footing). ends_in (footing_at new) n f.parent) o true ≡ true
          so next None e = refl
          so next (Some f) e = next f.parent e

  -- ---- all volumes

  has_now : (k b : ℕ) → has_block (state_at new k) (container_at left.containers k) b ≡ true → (k ≢ slot) × (has_block (state_at states k) (container_at pool.containers k) b ≡ true)
  has_now k b has = ⊎_elim
      (λ (here : k ≡ slot). absurd (true≢false (sym has ∙ ap (λ (o : Option VolumeState). has_block o (container_at left.containers k) b) (ap (state_at new) here ∙ empty_state))))
      (λ (differ : k ≢ slot). (differ, sym (λ j. has_block (other_state k differ j) (other_container k differ j) b) ∙ has))
      (cases_eq k slot)

  -- They are spaced: the next root will hold their blocks and no others.
  pub spaced_left : TellsEntries disk pool.containers → AreSpacedIn pool.found.blocks left.map.next (state_at new) (container_at left.containers)
  spaced_left told = record {
    apart = λ s k b first second differ one other. spaced.apart s k b first second differ (has_now s b one).1 (has_now k b other).1;
    held = λ s b small has. (still_next told s b small (has_now s b has).0 (has_now s b has).1, (spaced.held s b small (has_now s b has).1).1);
    set = λ b is.
        let parts = and_parts (is_member pool.map.next b) (not (is_of x x.label map b)) (sym ((gone.given told).held b) ∙ is) in
        let found = spaced.set b parts.0 in
        by b found.0 found.1 found.2 parts.1;
  }
    where
      off : (t : Bool) → not t ≡ true → t ≡ false
      off true e = absurd (true≢false (sym e))
      off false e = refl

      by : (b s : ℕ) → s < 64 → has_block (state_at states s) (container_at pool.containers s) b ≡ true → not (is_of x x.label map b) ≡ true → (s : ℕ) × (s < 64) × (has_block (state_at new s) (container_at left.containers s) b ≡ true)
      by b s small has isnt = ⊎_elim
          (λ (here : s ≡ slot). absurd (true≢false (sym has ∙ ap (λ (k : ℕ). has_block (state_at states k) (container_at pool.containers k) b) here ∙ (λ j. has_block (there j) (lies j) b) ∙ off (is_of x x.label map b) isnt)))
          (λ (differ : s ≢ slot). (s, small, (λ j. has_block (other_state s differ j) (other_container s differ j) b) ∙ has))
          (cases_eq s slot)
