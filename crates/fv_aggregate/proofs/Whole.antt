-- An image that stands for a machine is damaged nowhere.
use Rattle.std.proofs.Common.{◌≡◌, ◌≢◌, ◌<◌, ◌≤◌, ◌-◌, ◌*◌, ◌/◌, ◌%◌, ℕ, zero, suc, Bool, true, false, length, Option, Some, None, Result, Ok, Err, true≢false, refl, sym, ap, subst, ◌∙◌, ⊎_elim, inl, inr, arith}
use Rattle.std.specs.Prelude.{◌⊎◌, ◌&&◌, ◌==◌, IfErr, IsErr, nat_lt, not, if◌then◌else◌}
use Rattle.std.specs.List.{list_any}
use Rattle.std.specs.Option.{option_map}
use Rattle.std.proofs.lemmas.Bool.{and_parts}
use Rattle.std.proofs.lemmas.Bool.Decides.{nat_tests}
use Rattle.fv_disk.specs.Shown.{Image}
use Rattle.fv_bits.specs.Bits.{bit_of_area, bit_of_bytes}
use Rattle.fv_codec.specs.declared.shape.Shape.{Shape}
use Rattle.fv_codec.specs.declared.superblock.Super.{Super}
use Rattle.fv_codec.specs.declared.root.Root.{Root}
use Rattle.fv_codec.specs.declared.label.Label.{Label}
use Rattle.fv_codec.specs.Blocks.{IsLabel, gate_open, label_at, root_at, super_at}
use Rattle.fv_codec.specs.Fields.{Verdict, up_to}
use Rattle.fv_codec.proofs.Decoded.{label_in_range}
use Rattle.fv_model.specs.Machines.{Machine}
use Rattle.fv_model.specs.Space.{map_blocks}
use Rattle.fv_image.specs.Layout.{block_bits, gate_place, root_place, superblock}
use Rattle.fv_image.specs.NewerRoot.{Taken, behind, newer, root_of, taken_of}
use Rattle.fv_image.specs.Maps.{area_bits, map_bit}
use Rattle.fv_image.specs.Containers.{node_of, node_shape, shaped}
use Rattle.fv_image.specs.HintRules.{is_splitting}
use Rattle.fv_image.specs.Views.{View, block_in, head_of, map_vvbn, used_slots, volume_bit}
use Rattle.fv_image.specs.Held.{is_held, label_in, label_place, layout_at, lying_at, node_from, view_at}
use Rattle.fv_image.specs.SoundSlots.{IsSoundSlot, IsSoundVolume}
use Rattle.fv_image.specs.Soundness.{IsSound}
use Rattle.fv_image.specs.WholeMachine.{Tells, has_form, machine_of}
use Rattle.fv_image.proofs.Heads.{head_told}
use Rattle.fv_image.proofs.Counted.{image_has_heads}
use Rattle.fv_image.proofs.HeldPlaces.{label_some, node_lies}
use Rattle.fv_image.proofs.LoneTables.{built_forms}
use Rattle.fv_image.proofs.Named.{label_inside}
use Rattle.fv_image.proofs.RootTables.{led_below, root_led}
use Rattle.fv_image.proofs.Room.{bit_is_held}
use Rattle.fv_image.proofs.SameLayout.{slot_inside}
use Rattle.fv_image.proofs.SoundFacts.{lying_label}
use Rattle.fv_image.proofs.SoundSlots.{held_lies, slot_from_blocks}
use Rattle.fv_image.proofs.NodesOnce.{has_shape}
use Rattle.fv_image.proofs.WellLabels.{numbers_at}
use Rattle.fv_image.proofs.SoundTests.{stands_for}
use Rattle.fv_root.specs.declared.find.Found.{Found}
use Rattle.fv_root.specs.Finding.{IsDamaged, IsNoAggregate, root_found}
use Rattle.fv_aggmap.specs.Loading.{IsPastMap}
use Rattle.fv_volume.specs.Loading.{IsLabelFault, IsMapFault, IsTreeFault, entry_block, form_in, label_of}
use Rattle.fv_volume.proofs.KeptSlots.{root_few, root_used}
use Rattle.fv_volumes.proofs.Mapping.{block_there}
use Rattle.fv_aggregate.specs.declared.fault.OpenFault.{OpenFault}
use Rattle.fv_aggregate.specs.declared.fault.OpenFault.TheVariants.{DiskFault, NotAggregate, Damaged, Memory}
use Rattle.fv_aggregate.specs.declared.session.Session.{Session}
use Rattle.fv_aggregate.specs.Causes.{IsOpenFault, OpenFails}
use Rattle.fv_aggregate.proofs.Opened.{found_tells}

-- ---- the root

none_some : {X : Type 0} (x : X) → None ≡ Some x → ⊥
none_some x e = cc

taken_super : (i : Image) (t : Taken) → root_of i ≡ Some t → IsErr (super_at (i superblock)) → ⊥
unfolding root_of
taken_super i t is err = so (super_at (i superblock)) err is
  where
    so : (super : Result Super Shape) → IsErr super → taken_of super (newer (behind i 0) (behind i 1)) ≡ Some t → ⊥
    so (Ok super) err is = true≢false (sym err)
    so (Err fault) err is = none_some t is

taken_chosen : (i : Image) (t : Taken) → root_of i ≡ Some t → newer (behind i 0) (behind i 1) ≡ None → ⊥
unfolding root_of
taken_chosen i t is none = so (super_at (i superblock)) (sym (ap (taken_of (super_at (i superblock))) none) ∙ is)
  where
    so : (super : Result Super Shape) → taken_of super None ≡ Some t → ⊥
    so (Ok super) e = none_some t e
    so (Err fault) e = none_some t e

behind_closed : (i : Image) (slot : ℕ) → gate_open (i (gate_place slot)) ≡ false → behind i slot ≡ None
behind_closed i slot closed = ap (λ (gate : Bool). if gate then Some (root_at (i (root_place slot))) else None) closed

pub no_aggregate : (i : Image) (t : Taken) → root_of i ≡ Some t → IsNoAggregate i → ⊥
no_aggregate i t is (inl err) = taken_super i t is err
no_aggregate i t is (inr closed) = taken_chosen i t is ((λ j. newer (behind_closed i 0 closed.0 j) (behind_closed i 1 closed.1 j)))

first_fault : (fault : Shape) (other : Option (Result Root Shape)) → newer (Some (Err fault)) other ≡ None
first_fault fault None = refl
first_fault fault (Some (Ok root)) = refl
first_fault fault (Some (Err shape)) = refl

second_fault : (fault : Shape) (first : Option (Result Root Shape)) → newer first (Some (Err fault)) ≡ None
second_fault fault None = refl
second_fault fault (Some (Ok root)) = refl
second_fault fault (Some (Err shape)) = refl

pub no_root_damaged : (i : Image) (t : Taken) (at want number : ℕ) → root_of i ≡ Some t → IsDamaged i at want number → ⊥
no_root_damaged i t at want number is damaged = so damaged.slot damaged.within damaged.fault
  where
    fault : Shape
    fault = record { want = want; found = number }

    so : (slot : ℕ) → slot < 2 → behind i slot ≡ Some (Err fault) → ⊥
    so zero small e = taken_chosen i t is (ap (λ (b : Option (Result Root Shape)). newer b (behind i 1)) e ∙ first_fault fault (behind i 1))
    so (suc zero) small e = taken_chosen i t is (ap (λ (b : Option (Result Root Shape)). newer (behind i 0) b) e ∙ second_fault fault (behind i 0))
    so (suc (suc slot)) small e = absurd (omega (arith, small))

-- ---- under the root

-- what lies at a place that is one
lies_at : (i : Image) (p : ℕ) → p ≢ 0 → lying_at i p ≡ Some (record { place = p; block = i p })
lies_at i zero some = absurd (some refl)
lies_at i (suc p) some = refl

module _ (i : Image) (found : Found) (m : Machine) (tells : Tells (layout_at (root_found found) i) m) where
  sound : IsSound (layout_at (root_found found) i)
  sound = tells.sound

  slot : (s : ℕ) → s < 64 → IsSoundSlot (layout_at (root_found found) i) s
  slot s inside = slot_from_blocks (layout_at (root_found found) i) sound.blocks sound.maps.kinds (image_has_heads (root_found found) i) s inside

  -- a slot in use has its label
  label_there : (s : ℕ) → label_place (root_found found) s ≢ 0 → (l : Label) × (label_of found i s ≡ Some l)
  unfolding layout_at
  label_there s some =
      let v = (slot s (label_inside (root_found found) s some)).volume (record { place = label_place (root_found found) s; block = i (label_place (root_found found) s) }) (lies_at i (label_place (root_found found) s) some) in
      (v.0, lying_label i (label_place (root_found found) s) some ∙ ap shaped v.1)

  -- which names a sound volume
  volume_there : (s : ℕ) (l : Label) → label_of found i s ≡ Some l → IsSoundVolume (layout_at (root_found found) i) s l
  unfolding layout_at
  volume_there s l there =
      let some = label_some (root_found found) i s l there in
      let v = (slot s (slot_inside (root_found found) i s l there)).volume (record { place = label_place (root_found found) s; block = i (label_place (root_found found) s) }) (lies_at i (label_place (root_found found) s) some) in
      subst (IsSoundVolume (layout_at (root_found found) i) s) (one v.0 l (sym (lying_label i (label_place (root_found found) s) some ∙ ap shaped v.1) ∙ there)) v.2
    where
      one : (a b : Label) → ◌≡◌ {A = Option Label} (Some a) (Some b) → a ≡ b
      one a b e = cc

  -- a bit of the aggregate map is a held block, so it isn't past the last one
  pub no_map_fault : (at want number : ℕ) → IsPastMap i found at want number → ⊥
  unfolding layout_at view_at map_bit
  no_map_fault at want number past =
      let y = layout_at (root_found found) i in
      let inside : nat_lt number (area_bits found.blocks) ≡ true = (and_parts (nat_lt number (area_bits found.blocks)) _ past.bit).0 in
      let held : is_held y number ≡ true = sym (bit_is_held y number sound.blocks.map (fits number (area_bits found.blocks) inside)) ∙ past.bit in
      omega (arith, (held_lies y number sound.blocks held).1, past.past)
    where
      fits : (a b : ℕ) → nat_lt a b ≡ true → a < b
      fits a b e = grind (arith, nat_tests)

  -- ---- labels

  -- the label of a slot has a form that there is
  built_label : (s : ℕ) (l : Label) → label_of found i s ≡ Some l → has_form (head_of l) ≡ true
  unfolding layout_at view_at
  built_label s l there = built_forms (view_at (root_found found) i) tells.built s (head_of l) (slot_inside (root_found found) i s l there) (head_told (root_found found) i s ∙ ap (option_map head_of) there)

  no_form : (l : Label) → IsLabel l → has_form (head_of l) ≡ true → form_in l ≡ None
  unfolding form_in head_of
  no_form l range form = ap (λ (b : Bool). if not b then Some (0, l.splitting) else None) (by (l.parent == 0) refl form)
    where
      so : (t : Bool) → not t ≡ true → t ≡ false
      so true e = absurd cc
      so false e = refl

      by : (b : Bool) → (l.parent == 0) ≡ b → not (is_splitting (if b then None else Some (record { parent = l.parent - 1; slot = l.base_slot; splitting = l.splitting == 1 }))) ≡ true → (l.splitting == 0) ≡ true
      by true none e = (let most : l.splitting ≤ 0 = subst (λ (t : Bool). l.splitting ≤ up_to (not t) 1) none range.splitting in grind (arith, nat_tests, most))
      by false some e =
          (let most : l.splitting ≤ 1 = subst (λ (t : Bool). l.splitting ≤ up_to (not t) 1) some range.splitting in
          let one : (l.splitting == 1) ≡ false = so (l.splitting == 1) e in
          grind (arith, nat_tests, most, one))

  pub no_label_fault : ((b : ℕ) → length (i b) ≡ 4096) → (at want number : ℕ) → IsLabelFault i found at want number → ⊥
  no_label_fault whole at want number bad =
      let s = bad.slot in
      let place : at ≡ label_place (root_found found) s = bad.place in
      let there : (l : Label) × (label_of found i s ≡ Some l) = label_there s (λ e. bad.some (place ∙ e)) in
      let spelled : shaped (label_at (i at)) ≡ Some there.0 = sym (lying_label i at bad.some) ∙ ap (λ (p : ℕ). label_in (lying_at i p)) place ∙ there.1 in
      ⊎_elim
      (λ (fault : label_at (i at) ≡ Err (record { want = want; found = number })). none_some there.0 (sym (ap shaped fault) ∙ spelled))
      (λ form.
      let same : form.0 ≡ there.0 = one form.0 there.0 (sym (ap shaped form.1.0) ∙ spelled) in
      none_some (want, number) (sym (no_form form.0 (label_in_range (i at) (Ok form.0) (whole at) (sym form.1.0)) (subst (λ (l : Label). has_form (head_of l) ≡ true) (sym same) (built_label s there.0 there.1))) ∙ form.1.1))
      bad.fault.1
    where
      one : (a b : Label) → ◌≡◌ {A = Option Label} (Some a) (Some b) → a ≡ b
      one a b e = cc

  -- ---- containers

  pub no_tree_fault : (at want number : ℕ) → IsTreeFault i found at want number → ⊥
  unfolding layout_at
  no_tree_fault at want number bad =
      let l = bad.label in
      let node = bad.fault.node in
      let some : node_of i l.container l.height node.level node.number ≢ 0 = λ e. node.some (node.place ∙ e) in
      let p = node_of i l.container l.height node.level node.number in
      let lies : node_from (label_of found i bad.slot) i node.level node.number ≡ Some (record { place = p; block = i p }) =
      ap (λ (o : Option Label). node_from o i node.level node.number) bad.lies ∙ node_lies i l node.level node.number node.below node.within ∙ lies_at i p some in
      let verdict = (volume_there bad.slot l bad.lies).nodes node.level node.number (record { place = p; block = i p }) node.below node.within lies in
      let fine : node_shape node.level (i at) ≡ Ok tt = ap (λ (b : ℕ). node_shape node.level (i b)) node.place ∙ has_shape node.level node.number (i p) verdict in
      apart (node_shape node.level (i at)) fine bad.fault.fault
    where
      apart : (v : Verdict) → v ≡ Ok tt → v ≡ Err (record { want = want; found = number }) → ⊥
      apart v a b = cc

  -- ---- the maps of volumes

  below : (number k blocks : ℕ) → number / 32768 ≡ k → k < blocks → number < 32768 * blocks
  below number k blocks place within = omega (arith, place, within)

  -- a number whose bit is set in the map of a root is one of the span
  bit_below : (whole : (b : ℕ) → length (i b) ≡ 4096) (s : ℕ) (l : Label) → label_of found i s ≡ Some l → (k : ℕ) → list_any (λ j. j == k) (used_slots (head_of l)) ≡ true → (v : ℕ) → volume_bit (view_at (root_found found) i) s l.span k v ≡ true → v < l.span
  unfolding layout_at view_at head_of
  bit_below whole s l lies k used v set =
      let w : View = view_at (root_found found) i in
      let h = head_of l in
      let inside = slot_inside (root_found found) i s l lies in
      let there : w.head s ≡ Some h = head_told (root_found found) i s ∙ ap (option_map head_of) lies in
      let numbers = numbers_at (root_found found) i whole s h there in
      let root = root_used h k used in
      let led = root_led w s h inside there sound.tables k root.0 root.1 (root_few h numbers k root.0 root.1) sound.maps v set in
      let low = led_below w s h inside there sound.tables k root.0 root.1 led.owner led.level led.index led.some in
      let at = led.vvbn in
      omega (arith, low, at)

  pub no_slot_fault : (whole : (b : ℕ) → length (i b) ≡ 4096) (at want number : ℕ) → IsMapFault i found at want number → ⊥
  unfolding volume_bit bit_of_area view_at
  no_slot_fault whole at want number bad =
      let t = root_found found in
      let s = bad.slot in
      let l = bad.label in
      let fault = bad.fault in
      let k = fault.index in
      let j = bad.map_slot in
      let block : block_in ((view_at t i).entry s (map_vvbn l.span j k)) ≡ i fault.entry.pvbn =
      sym (block_there found i s l bad.map bad.lies bad.opened bad.long bad.valid (map_vvbn l.span j k)) ∙ ap (entry_block i) fault.there in
      let inside : number < block_bits * map_blocks l.span = below number k (map_blocks l.span) fault.past.place fault.within in
      let test : nat_lt number (block_bits * map_blocks l.span) ≡ true = passes number (block_bits * map_blocks l.span) inside in
      let here : block_in ((view_at t i).entry s (map_vvbn l.span j (number / block_bits))) ≡ i fault.entry.pvbn = ap (λ (n : ℕ). block_in ((view_at t i).entry s (map_vvbn l.span j n))) fault.past.place ∙ block in
      let set : volume_bit (view_at t i) s l.span j number ≡ true = (λ m. test m && bit_of_bytes (here m) (number % block_bits)) ∙ fault.past.bit in
      omega (arith, bit_below whole s l bad.lies j bad.used number set, fault.past.past)
    where
      passes : (a b : ℕ) → a < b → nat_lt a b ≡ true
      passes a b low = grind (arith, nat_tests)

-- ---- opening

-- an image that stands for a machine is opened, unless the disk fails or memory runs out
pub whole : (i : Image) (m : Machine) → ((b : ℕ) → length (i b) ≡ 4096) → machine_of i ≡ Some m → (e : OpenFault) → IsOpenFault i e → (e ≡ DiskFault) ⊎ (e ≡ Memory)
whole i m long is DiskFault fault = inl refl
whole i m long is Memory fault = inr refl
whole i m long is NotAggregate fault = let stands = stands_for i m is in absurd (no_aggregate i stands.0 stands.1.0 fault)
whole i m long is (Damaged at want number) (inl damaged) = let stands = stands_for i m is in absurd (no_root_damaged i stands.0 at want number stands.1.0 damaged)
whole i m long is (Damaged at want number) (inr under) =
    let tells = found_tells i under.root m under.found is in
    absurd (⊎_elim
    (λ past. no_map_fault i under.root m tells at want number past)
    (λ load. ⊎_elim
    (λ label. no_label_fault i under.root m tells long at want number label)
    (λ rest. ⊎_elim
    (λ tree. no_tree_fault i under.root m tells at want number tree)
    (λ map. no_slot_fault i under.root m tells long at want number map)
    rest)
    load)
    under.fault)

pub whole_result : (i : Image) (m : Machine) (result : Result Session OpenFault) → ((b : ℕ) → length (i b) ≡ 4096) → machine_of i ≡ Some m → IfErr result (IsOpenFault i) → IfErr result (λ fault. (fault ≡ DiskFault) ⊎ (fault ≡ Memory))
whole_result i m (Ok session) long is fault = tt
whole_result i m (Err e) long is fault = whole i m long is e fault

pub fails_result : (i : Image) (result : Result Session OpenFault) → IfErr result (IsOpenFault i) → ((m : Machine) → machine_of i ≡ Some m → IfErr result (λ fault. (fault ≡ DiskFault) ⊎ (fault ≡ Memory))) → IfErr result (OpenFails i)
fails_result i (Ok session) reason whole = tt
fails_result i (Err e) reason whole = record { reason = reason; whole = whole }
