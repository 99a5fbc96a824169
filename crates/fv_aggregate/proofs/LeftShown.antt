-- A session of which nothing waits has as much left to do as its image shows.
use Rattle.std.proofs.Common.{◌≡◌, ◌<◌, ◌≤◌, ◌+◌, ℕ, zero, suc, Bool, true, false, cond, List, [], ◌∷◌, ◌++◌, map, take, Option, Some, None, Result, Ok, Err, inl, inr, refl, sym, ap, ap₂, subst, ◌∙◌, ⊎_elim, arith}
use Rattle.std.specs.Prelude.{IfOk, IfSome, is_some, ◌||◌, ◌&&◌, get_or, nat_le, nat_lt, sum_by, if◌then◌else◌}
use Rattle.std.specs.List.{list_any, range_with_len}
use Rattle.std.specs.Option.{option_and_then, option_map, option_map_or, option_or}
use Rattle.std.specs.FinMap as fin
use Rattle.std.specs.Ordering.{nat_cmp}
use Rattle.std.proofs.lemmas.Bool.{both_ways}
use Rattle.std.proofs.lemmas.Bool.Decides.{nat_tests}
use Rattle.std.proofs.lemmas.List.Sums.{sum_by-cons}
use Rattle.std.proofs.lemmas.Option.{same_Some}
use Rattle.fv_disk.specs.Shown.{Image, Shown}
use Rattle.fv_disk.specs.DiskCalls.{OnlyReads}
use Rattle.fv_codec.specs.declared.pointer.Pointer.{Pointer}
use Rattle.fv_laws.proofs.Lists.{In, in_range}
use Rattle.fv_laws.proofs.Tests.{to_any}
use Rattle.fv_model.specs.Machines.{Machine}
use Rattle.fv_image.specs.Chains as view
use Rattle.fv_image.specs.HintRules.{is_unknown}
use Rattle.fv_image.specs.Held.{label_place, view_at}
use Rattle.fv_image.specs.Views.{Footing, Head, Placed, Rooted, Snap as HeadSnap, View, is_held_in, slots}
use Rattle.fv_image.proofs.Heads.{head_told}
use Rattle.fv_root.specs.Finding.{root_found}
use Rattle.fv_container.specs.declared.entry.Entry.{Entry}
use Rattle.fv_container.specs.Chains.{along, chain_entry, container_at, or_else, own_entry, paged_at, parent_at, slot_count}
use Rattle.fv_volmap.specs.Slots.{Slot, has, slot_at, slot_of_base, stored_count, taken_in}
use Rattle.fv_delay.specs.Holding.{AreMapsOf}
use Rattle.fv_delay.proofs.Held.{held_below, held_seen}
use Rattle.fv_pool.specs.declared.pool.Pool.{Pool}
use Rattle.fv_pool.specs.BlocksOver.{held_entry}
use Rattle.fv_pool.specs.Keeping.{Blocks}
use Rattle.fv_volume.specs.declared.state.Base.{Base}
use Rattle.fv_volume.specs.declared.state.Snap.{Snap}
use Rattle.fv_volume.specs.declared.state.VolumeState.{VolumeState}
use Rattle.fv_volume.specs.Files.{IsLabelled}
use Rattle.fv_volume.specs.Held.{IsHeldIn}
use Rattle.fv_volume.specs.Loading.{HaveBits, IsLoaded, label_of}
use Rattle.fv_volume.specs.OneVolume.{base_table, blocks_in, uses_in}
use Rattle.fv_volume.specs.States.{States, footing_in, head_in, parent_in, placed_in, snaps_in, state_at, view_over}
use Rattle.fv_volume.proofs.AllRoots.{roots}
use Rattle.fv_volume.proofs.CountedMaps.{any_taken}
use Rattle.fv_volume.proofs.KeptSlots.{maps_of}
use Rattle.fv_volume.proofs.SettledTables.{has_used, taken_some}
use Rattle.fv_volumes.specs.Footing.{IsFooted, IsOnBase}
use Rattle.fv_volumes.specs.Housed.{AreHoused}
use Rattle.fv_volumes.proofs.LentSlots.{loaded_from_lent}
use Rattle.fv_volumes.proofs.OnChains.{some_slot}
use Rattle.fv_volumes.proofs.Viewed.{entry_of}
use Rattle.fv_cleaner.specs.Left.{left_in, unknown_among, unknown_inside, unknown_under}
use Rattle.fv_cleaner.specs.Searching.{Lies, holds_unknown, lies_in, placed_by, pointers_of}
use Rattle.fv_cleaner.specs.Stepping.{root_of_snap, roots_of}
use Rattle.fv_cleaner.proofs.Known.{IsKnownRoot}
use Rattle.fv_cleaner.proofs.Lowers.{none_counted}
use Rattle.fv_cleaner.proofs.NoneLeft.{base_known, not_had}
use Rattle.fv_cleaner.proofs.SlotTables.{block_under, lying_taken, root_stands, use_under}
use Rattle.fv_cp.specs.Held.{IsHeld}
use Rattle.fv_cp.specs.Lent.{FitTogether}
use Rattle.fv_cp.specs.Placing.{HasNoFiles, HaveNoFiles}
use Rattle.fv_cp.proofs.Sums.{over_slots}
use Rattle.fv_aggregate.specs.declared.fault.OpenFault.{OpenFault}
use Rattle.fv_aggregate.specs.declared.session.Session.{Session}
use Rattle.fv_aggregate.specs.LeftOver.{left_shown, lies_shown, roots_shown, todo_shown, todo_under}
use Rattle.fv_aggregate.specs.Opening.{AreOpened, IsOpened}
use Rattle.fv_aggregate.specs.Standing.{StandsFor}
use Rattle.fv_aggregate.specs.Working.{todo, todo_at, todo_in}

-- ---- lists

-- what is the same for each of some numbers has the same sum
same_sums : (f g : ℕ → ℕ) (from count : ℕ) → ((k : ℕ) → from ≤ k → k < from + count → f k ≡ g k) → sum_by f (range_with_len from count) ≡ sum_by g (range_with_len from count)
same_sums f g from zero each = refl
same_sums f g from (suc count) each =
    let rest = range_with_len (from + 1) count in
    let first : f from ≡ g from = each from (omega arith) (omega arith) in
    let later = same_sums f g (from + 1) count (λ k low high. each k (omega (arith, low)) (omega (arith, high))) in
    omega (arith, sum_by-cons f from rest, sum_by-cons g from rest, first, later)

-- the label has the roots of the volume
snap_roots : (ps : List Snap) → map (λ (r : ℕ × Rooted). r.1.root) (map (λ (p : HeadSnap). (p.slot, p.table)) (snaps_in ps)) ≡ map root_of_snap ps
snap_roots [] = refl
snap_roots (p ∷ ps) = ap (λ (rest : List Pointer). p.table.root ∷ rest) (snap_roots ps)

-- what some of the first slots has is taken
taken_more : (n : ℕ) (slots : List Slot) (v : ℕ) → taken_in (take n slots) v ≡ true → taken_in slots v ≡ true
taken_more zero slots v is = absurd cc
taken_more (suc n) [] v is = absurd cc
taken_more (suc n) (s ∷ ss) v is = by (has v s) (taken_more n ss v) is
  where
    by : (b : Bool) → (taken_in (take n ss) v ≡ true → taken_in ss v ≡ true) → (b || taken_in (take n ss) v) ≡ true → (b || taken_in ss v) ≡ true
    by true next e = refl
    by false next e = next e

placed_same : (kept : Blocks) (i : Image) (o : Option Entry) → placed_by kept i o ≡ placed_in kept i o
placed_same kept i None = refl
placed_same kept i (Some e) = refl

-- ---- volumes over a view that has their heads, their entries and the bits of their maps

module _ (disk : Shown) (pool : Pool) (states : States) (last : Machine) (held : IsHeld disk pool states last) (housed : AreHoused pool.containers states) (none : HaveNoFiles states) (w : View)
    (heads : (s : ℕ) → s < slot_count → w.head s ≡ option_map head_in (state_at states s)) (entries : (s v : ℕ) → s < slot_count → w.entry s v ≡ placed_in pool.kept disk.reads (own_entry (container_at pool.containers s) v))
    (bits : (s : ℕ) → s < slot_count → IfSome (state_at states s) (λ x. HaveBits w s x.span x.map)) where
  -- ---- chains

  parent_is : (s : ℕ) → s < slot_count → view.parent_in (w.head s) ≡ parent_at pool.containers s
  parent_is s inside = ap view.parent_in (heads s inside) ∙ so (state_at states s) ∙ sym (housed.parents s)
    where
      of_base : (b : Option Base) → option_map (λ (f : Footing). f.parent) (option_map footing_in b) ≡ option_map (λ (b : Base). b.parent) b
      of_base None = refl
      of_base (Some b) = refl

      so : (o : Option VolumeState) → view.parent_in (option_map head_in o) ≡ parent_in o
      so None = refl
      so (Some x) = of_base x.base

  -- what a volume stands on has a slot, too
  parent_inside : (s p : ℕ) → parent_at pool.containers s ≡ Some p → p < slot_count
  parent_inside s p is = by (state_at states s) (held.footed.each s) (sym (housed.parents s) ∙ is)
    where
      of_base : (x : VolumeState) (o : Option Base) → IfSome o (λ b. IsFooted states x b × IsOnBase pool.containers x) → option_map (λ (b : Base). b.parent) o ≡ Some p → p < slot_count
      of_base x None footed e = absurd cc
      of_base x (Some b) footed e =
          let same : b.parent ≡ p = same_Some b.parent p e in
          let inside = footed.0.inside in
          omega (arith, inside, same)

      by : (o : Option VolumeState) → IfSome o (λ x. IfSome x.base (λ b. IsFooted states x b × IsOnBase pool.containers x)) → parent_in o ≡ Some p → p < slot_count
      by None footed e = absurd cc
      by (Some x) footed e = of_base x x.base footed e

  along_is : (n s v : ℕ) → s < slot_count → view.along w n s v ≡ placed_in pool.kept disk.reads (along pool.containers n (Some s) v)
  unfolding view.along along
  along_is zero s v inside = refl
  along_is (suc n) s v inside =
      (λ j. option_or (entries s v inside j) (option_and_then (λ p. view.along w n p v) (parent_is s inside j)))
      ∙ so (parent_at pool.containers s) (λ p there. along_is n p v (parent_inside s p there)) (own_entry (container_at pool.containers s) v)
    where
      nothing : (m : ℕ) → None ≡ placed_in pool.kept disk.reads (along pool.containers m None v)
      nothing zero = refl
      nothing (suc m) = refl

      so : (o : Option ℕ) → ((p : ℕ) → o ≡ Some p → view.along w n p v ≡ placed_in pool.kept disk.reads (along pool.containers n (Some p) v)) → (e : Option Entry)
          → option_or (placed_in pool.kept disk.reads e) (option_and_then (λ p. view.along w n p v) o) ≡ placed_in pool.kept disk.reads (or_else e (along pool.containers n o v))
      so o next (Some e) = refl
      so None next None = nothing n
      so (Some p) next None = next p refl

  place_is : (s : ℕ) (x : VolumeState) → s < slot_count → state_at states s ≡ Some x → (v : ℕ) → v < x.span → view.place w s v ≡ placed_in pool.kept disk.reads (chain_entry pool.containers s v)
  unfolding view.place
  place_is s x inside there v low =
      let test : nat_lt v x.span ≡ true = grind (arith, nat_tests, low) in
      ap (λ (o : Option Head). if nat_lt v (option_map_or (λ (h : Head). h.span) o 0) then view.along w 64 s v else w.entry s v) (heads s inside ∙ ap (option_map head_in) there)
      ∙ ap (λ (b : Bool). if b then view.along w 64 s v else w.entry s v) test
      ∙ along_is 64 s v inside

  -- ---- one volume

  module _ (s : ℕ) (inside : s < slot_count) (x : VolumeState) (there : state_at states s ≡ Some x) where
    abbrev at : Lies
    at = lies_in x.map pool x.slot disk.reads

    one : IsHeldIn disk pool s x
    one = subst (λ (o : Option VolumeState). IfSome o (IsHeldIn disk pool s)) there (held.each s)

    labelled : IsLabelled s x
    labelled = subst (λ (o : Option VolumeState). IfSome o (IsLabelled s)) there (housed.volumes s)

    files : x.files ≡ None
    files = subst HasNoFiles there (none s)

    -- what a map of the volume holds is what the view says that it holds
    held_is : (v : ℕ) → v < x.span → is_held_in w s (head_in x) v ≡ taken_in (take stored_count x.map.slots) v
    held_is v low =
        let here : HaveBits w s x.span x.map = subst (λ (o : Option VolumeState). IfSome o (λ y. HaveBits w s y.span y.map)) there (bits s inside) in
        let maps : AreMapsOf w s (head_in x) x.map = maps_of w s (head_in x) x.map labelled.slots labelled.snapshots.slots here labelled.map in
        let below : v < x.map.span = (let same = labelled.map in omega (arith, low, same)) in
        sym (held_seen w s (head_in x) x.map maps v) ∙ held_below x.map v below

    -- What only the snapshot holds on which the volume stands holds no unknown pointer: all places of its volume are known.
    base_clear : (v : ℕ) (z : Placed) → at v ≡ Some z → taken_in (take stored_count x.map.slots) v ≡ false → holds_unknown z ≡ false
    base_clear v z lie out = by (holds_unknown z) refl
      where
        stored : (k : ℕ) → has v (slot_at x.map k) ≡ true → k < stored_count → ⊥
        stored k member low =
            let there : list_any (λ k. has v (get_or x.map.slots k None)) (range_with_len 0 stored_count) ≡ true =
            to_any (λ k. has v (get_or x.map.slots k None)) k (range_with_len 0 stored_count)
            (in_range 0 stored_count k (omega arith) (omega (arith, low))) member in
            both_ways (taken_in (take stored_count x.map.slots) v) out (any_taken (has v) None refl x.map.slots stored_count ∙ there)

        based : has v (slot_at x.map slot_of_base) ≡ true → holds_unknown z ≡ true → (o : Option Base) → x.base ≡ o → ⊥
        based member unknown None e =
            both_ways (is_some (slot_at x.map slot_of_base)) (labelled.slots.base ∙ ap (λ (o : Option Base). is_some (option_map footing_in o)) e)
            (has_used (slot_at x.map slot_of_base) v member)
        based member unknown (Some b) e =
            let q : Snap = record { slot = slot_of_base; name = b.snapshot; table = b.table } in
            let among : In q (roots x) = inr (subst (λ (o : Option Base). In q (base_table o ++ x.snapshots)) (sym e) (inl refl)) in
            let known : IsKnownRoot b.table.root =
            subst (λ (o : Option Base). IfSome o (λ b. IsKnownRoot b.table.root)) e (base_known disk pool states s x there held.each held.footed) in
            both_ways (has v (slot_at x.map slot_of_base))
            (not_had x.known (blocks_in disk pool x slot_of_base) (uses_in pool x slot_of_base) (slot_at x.map slot_of_base) x.now b.table
            (root_stands disk pool s x one files q among) known v z (block_under disk pool x slot_of_base v z member lie) (use_under disk pool x slot_of_base v z member lie) unknown) member

        by : (b : Bool) → holds_unknown z ≡ b → holds_unknown z ≡ false
        by false e = e
        by true e =
            let k = taken_some x.map.slots v (lying_taken x.map pool x.slot disk.reads v z lie) in
            let of_base : k.0 ≡ slot_of_base → ⊥ = λ is. based (ap (λ (n : ℕ). has v (slot_at x.map n)) (sym is) ∙ k.1) e x.base refl in
            absurd (⊎_elim (stored k.0 k.1) of_base (some_slot s x labelled k.0 v k.1))

    -- the block of a VVBN that a map holds
    lies_held : (v : ℕ) → v < x.span → taken_in (take stored_count x.map.slots) v ≡ true → at v ≡ view.place w s v
    unfolding held_entry
    lies_held v low held =
        let few = labelled.span in
        let small : nat_le v 1048575 ≡ true = (let le : v ≤ 1048575 = omega (arith, low, few) in grind (arith, nat_tests, le)) in
        let taken : taken_in x.map.slots v ≡ true = taken_more stored_count x.map.slots v held in
        (λ j. placed_by pool.kept disk.reads (cond (small j && taken j) (chain_entry pool.containers (labelled.slot_is j) v) None))
        ∙ placed_same pool.kept disk.reads (chain_entry pool.containers s v)
        ∙ sym (place_is s x inside there v low)

    -- as many are unknown under each VVBN
    inside_is : (v : ℕ) → v < x.span → unknown_inside (at v) ≡ unknown_inside (lies_shown w s (head_in x) v)
    inside_is v low = by (taken_in (take stored_count x.map.slots) v) refl ∙ ap (λ (b : Bool). unknown_inside (cond b (view.place w s v) None)) (sym (held_is v low))
      where
        of_block : (o : Option Placed) → at v ≡ o → taken_in (take stored_count x.map.slots) v ≡ false → unknown_inside o ≡ 0
        of_block None lie out = refl
        of_block (Some z) lie out = none_counted is_unknown (pointers_of z) (base_clear v z lie out)

        by : (b : Bool) → taken_in (take stored_count x.map.slots) v ≡ b → unknown_inside (at v) ≡ unknown_inside (cond (taken_in (take stored_count x.map.slots) v) (view.place w s v) None)
        by true e = ap unknown_inside (lies_held v low e) ∙ ap (λ (b : Bool). unknown_inside (cond b (view.place w s v) None)) (sym e)
        by false e = of_block (at v) refl e ∙ ap (λ (b : Bool). unknown_inside (cond b (view.place w s v) None)) (sym e)

    -- So as much is left to do in the volume.
    left_is : todo_at disk.reads pool (Some x) ≡ left_shown w s (head_in x)
    unfolding left_in left_shown
    left_is =
        let tops : unknown_among (roots_of x) ≡ unknown_among (roots_shown (head_in x)) = ap (λ (ps : List Pointer). unknown_among (x.active.root ∷ ps)) (sym (snap_roots x.snapshots)) in
        let blocks : unknown_under at x.map.span ≡ unknown_under (lies_shown w s (head_in x)) x.span = ap (unknown_under at) labelled.map
        ∙ same_sums (λ v. unknown_inside (at v)) (λ v. unknown_inside (lies_shown w s (head_in x) v)) 0 x.span (λ v low high. inside_is v (omega (arith, high))) in
        ap (cond x.known 0) (ap₂ (λ (m n : ℕ). m + n) tops blocks)

  -- ---- all of them

  slot_is : (s : ℕ) → s < slot_count → todo_at disk.reads pool (state_at states s) ≡ option_map_or (left_shown w s) (w.head s) 0
  slot_is s inside = by (state_at states s) refl ∙ ap (λ (o : Option Head). option_map_or (left_shown w s) o 0) (sym (heads s inside))
    where
      by : (o : Option VolumeState) → state_at states s ≡ o → todo_at disk.reads pool (state_at states s) ≡ option_map_or (left_shown w s) (option_map head_in (state_at states s)) 0
      by None e = ap (todo_at disk.reads pool) e ∙ ap (λ (o : Option VolumeState). option_map_or (left_shown w s) (option_map head_in o) 0) (sym e)
      by (Some x) e = ap (todo_at disk.reads pool) e ∙ left_is s inside x e ∙ ap (λ (o : Option VolumeState). option_map_or (left_shown w s) (option_map head_in o) 0) (sym e)

  pub todo_seen : todo_in disk.reads pool states ≡ todo_shown w
  unfolding todo_shown slots
  todo_seen = over_slots (todo_at disk.reads pool) states housed.long
      ∙ same_sums (λ s. todo_at disk.reads pool (state_at states s)) (λ s. option_map_or (left_shown w s) (w.head s) 0) 0 64 (λ s low high. slot_is s (omega (arith, high)))

-- ---- a session of which nothing waits

-- Where each volume is as the root on the disk has it, no block waits and no file is in memory, as much is left to do as the image shows.
-- That the root names no label for a slot without a volume has to be said beside: a volume that was removed since the last point isn't in
-- memory, and what is left of it in the image stays until the next point.
pub todo_at_rest : (disk : Shown) (session : Session) (last m : Machine) → StandsFor disk session last m → FitTogether session.pool session.volumes → ((s : ℕ) → IfSome (state_at session.volumes s) (λ x. x.changed ≡ false))
    → ((s : ℕ) → s < slot_count → state_at session.volumes s ≡ None → label_place (root_found session.pool.found) s ≡ 0) → session.pool.kept ≡ fin.empty → HaveNoFiles session.volumes → todo disk session ≡ todo_under session.pool.found disk.reads
unfolding view_at
todo_at_rest disk session last m stands fit unchanged free unkept none =
    let pool = session.pool in
    let found = pool.found in
    let states = session.volumes in
    let loaded : (s : ℕ) → s < slot_count → IsLoaded disk.reads found s (state_at states s) (paged_at pool.containers s) = λ s inside.
    loaded_from_lent disk.reads found s (state_at states s) (paged_at pool.containers s) (stands.held.slots s inside) (unchanged s)
    (free s inside) in
    let empty : (b : ℕ) → fin.get pool.kept b ≡ None = λ b. ap (λ (k : Blocks). fin.get k b) unkept ∙ fin.get-empty nat_cmp b in
    todo_seen disk pool states last stands.held fit.housed none (view_at (root_found found) disk.reads)
    (λ s inside. head_told (root_found found) disk.reads s ∙ sym (loaded s inside).head)
    (λ s v inside.
    sym (entry_of pool.kept disk.reads empty (label_of found disk.reads s) (container_at pool.containers s) v (loaded s inside).tree))
    (λ s inside. (loaded s inside).bits)

-- So it is of a session that was opened by a call that only read.
pub left_result : (mid new : Shown) (m : Machine) (result : Result Session OpenFault) → OnlyReads mid new → IfOk result (IsOpened mid.reads) → IfOk result (AreOpened new mid.reads) → IfOk result (λ session. StandsFor new session m m)
    → IfOk result (λ session. todo new session ≡ todo_under session.pool.found mid.reads)
unfolding view_over
left_result mid new m (Ok session) reads opened each stands =
    let pool = session.pool in
    let same : new.reads ≡ mid.reads = reads.stays.reads in
    let now : IsOpened new.reads session = subst (λ (i : Image). IsOpened i session) (sym same) opened in
    let alike : view_at (root_found pool.found) new.reads ≡ view_over pool session.volumes new.reads = sym now.view in
    todo_seen new pool session.volumes m stands.held each.fit.housed each.none (view_at (root_found pool.found) new.reads) (λ s inside. ap (λ (w : View). w.head s) alike) (λ s v inside. ap (λ (w : View). w.entry s v) alike)
    (λ s inside. (now.slots.each s inside).bits) ∙ ap (todo_under pool.found) same
left_result mid new m (Err fault) reads opened each stands = tt
