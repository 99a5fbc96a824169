-- An entry that is set in the container of a slot.
use Rattle.std.proofs.Common.{◌≡◌, ◌<◌, ◌*◌, ◌/◌, ℕ, Result, Ok, Err, get_or, true, List, length, length-set, Option, Some, None, sym, ap, subst, ◌∙◌, get_or-set_same, get_or-set_other, refl, arith}
use Rattle.std.specs.Prelude.{IfErr, IfSome, IsTrue, OnErr, OnOk, is_some, slice_index_or}
use Rattle.fv_disk.specs.Shown.{Shown as Disk}
use Rattle.fv_disk.specs.declared.fault.BlockFault.{BlockFault}
use Rattle.fv_disk.specs.declared.fault.BlockFault.TheVariants.{DiskFault, Damaged, Memory}
use Rattle.fv_container.specs.declared.entry.Entry.{Entry}
use Rattle.fv_container.specs.Chains.{AreCleanOn, IsLeafFault, Slots, container_at, map_in, own_entry, paged_at, with_container}
use Rattle.fv_container.specs.Clean.{IsCleanOn}
use Rattle.fv_container.specs.Loading.{HasLoaded, HasPut, IsReadFault}
use Rattle.fv_container.specs.Mapped.{Mapped, entry_under}
use Rattle.fv_container.specs.Paged.{Paged, is_here, is_sure}
use Rattle.fv_container.specs.Reading.{IsBadNode}
use Rattle.fv_container.proofs.Changing.{clean_now, maps_kept, paged_beside, paged_now}
use Rattle.fv_container.proofs.Clean.{clean_put}
use Rattle.fv_container.proofs.Damage.{chain_damage, leaf_damage}
use Rattle.fv_pool.specs.BlocksOver.{IsEntryFault, IsHoldFault, KeepsMaps, PutsEntry, PutsIn, SetsEntry, TellsEntries, entries_in, tree_in}

-- what holds anyway holds at a fault
pub on_err : {A E P : Type 0} (r : Result A E) → P → OnErr r P
on_err (Ok x) is = tt
on_err (Err e) is = is

-- an entry that is put into a container is put into that of its slot
pub puts_entry : (old : Slots) (slot v : ℕ) (entry : Entry) (was now : Paged) → paged_at old slot ≡ Some was → HasPut v (Some entry) was now → PutsEntry old slot v entry (with_container old slot (Some now))
puts_entry old slot v entry was now there puts =
    subst (λ (held : Option Paged). IfSome held (λ paged. PutsIn old slot v entry paged (with_container old slot (Some now)))) (sym there) (record { now = now; puts = puts; set = refl })

-- why an entry along a chain wasn't read
pub chain_fault : (disk : Disk) (slots : Slots) (v : ℕ) (fault : BlockFault) → (IsTrue disk.tells → IsLeafFault disk.reads slots v fault) → IsReadFault fault → IsEntryFault disk slots fault
chain_fault disk slots v DiskFault bad kind = tt
chain_fault disk slots v (Damaged at want found) bad kind = λ tells. chain_damage disk.reads slots v at want found (bad tells)
chain_fault disk slots v Memory bad kind = absurd kind

-- so it is with what is answered
pub entry_fault : {A : Type 0} (disk : Disk) (slots : Slots) (v : ℕ) (r : Result A BlockFault) → (IsTrue disk.tells → IfErr r (IsLeafFault disk.reads slots v)) → IfErr r IsReadFault → IfErr r (IsEntryFault disk slots)
entry_fault disk slots v (Ok x) bad kind = tt
entry_fault disk slots v (Err e) bad kind = chain_fault disk slots v e bad kind

module _ (disk : Disk) (old mid new : Slots) (slot v : ℕ) (entry : Entry) (kept : KeepsMaps disk old mid) where
  module _ (was : Paged) (there : paged_at mid slot ≡ Some was) (loaded : is_here was (v / 256) ≡ true) (within : v < length was.map.entries) (put : PutsIn mid slot v entry was new) where
    map_before : container_at old slot ≡ Some was.map
    map_before = sym (kept.maps slot) ∙ ap map_in there

    map_after : container_at new slot ≡ Some put.now.map
    map_after = ap (λ (s : Slots). container_at s slot) put.set ∙ ap map_in (paged_now mid slot was put.now there)

    own_at : (w : ℕ) → own_entry (container_at new slot) w ≡ slice_index_or put.now.map.entries w None
    own_at w = ap (λ (m : Option Mapped). own_entry m w) map_after

    sets_there : SetsEntry disk old slot v entry new
    sets_there = record {
      here = own_at v ∙ ap (λ (es : List (Option Entry)). slice_index_or es v None) put.puts.entries ∙ get_or-set_same was.map.entries v (Some entry) None within;
      rest = λ w other. own_at w ∙ ap (λ (es : List (Option Entry)). slice_index_or es w None) put.puts.entries ∙ get_or-set_other was.map.entries v w (Some entry) None other
          ∙ sym (ap (λ (m : Option Mapped). own_entry m w) map_before);
      others = λ s other. ap (λ (slots : Slots). container_at slots s) put.set ∙ ap map_in (paged_beside mid slot was put.now there s other) ∙ kept.maps s;
      parents = ap (λ (slots : Slots). slots.parents) put.set ∙ kept.parents;
      shape = record {
        there = ap is_some map_after ∙ sym (ap is_some map_before);
        count = ap (λ m. length (entries_in m)) map_after ∙ ap (λ (es : List (Option Entry)). length es) put.puts.entries ∙ length-set was.map.entries v (Some entry) ∙ sym (ap (λ m. length (entries_in m)) map_before);
        tree = ap tree_in map_after ∙ put.puts.tree ∙ sym (ap tree_in map_before);
      };
      clean = λ tells. subst (AreCleanOn disk.reads) (sym put.set)
          (clean_now mid slot was put.now there disk.reads (clean_put was put.now v (Some entry) loaded put.puts disk.reads) (kept.clean tells));
    }

    -- what stood there is told where entries are
    told_there : (before : Option Entry) → (is_sure was (v / 256) ≡ true → before ≡ entry_under was.map v) → TellsEntries disk old → before ≡ own_entry (container_at old slot) v
    told_there before is tells =
        let clean = subst (λ (held : Option Paged). IfSome held (IsCleanOn disk.reads)) there (kept.clean tells slot) in
        is (clean.here (v / 256) loaded) ∙ sym (ap (λ (m : Option Mapped). own_entry m v) map_before)

  sets_in : (held : Option Paged) → paged_at mid slot ≡ held → v < length (entries_in (map_in held)) → IfSome held (λ paged. is_here paged (v / 256) ≡ true) → IfSome held (λ was. PutsIn mid slot v entry was new) → SetsEntry disk old slot v entry new
  sets_in None there within loaded put = absurd (omega (arith, within))
  sets_in (Some was) there within loaded put = sets_there was there loaded within put

  pub sets_entry : v < length (entries_in (container_at mid slot)) → IfSome (paged_at mid slot) (λ paged. is_here paged (v / 256) ≡ true) → PutsEntry mid slot v entry new → SetsEntry disk old slot v entry new
  sets_entry within loaded put = sets_in (paged_at mid slot) refl within loaded put

  tells_in : (held : Option Paged) → paged_at mid slot ≡ held → v < length (entries_in (map_in held)) → IfSome held (λ paged. is_here paged (v / 256) ≡ true) → IfSome held (λ was. PutsIn mid slot v entry was new)
      → (before : Option Entry) → IfSome held (λ paged. is_sure paged (v / 256) ≡ true → before ≡ entry_under paged.map v) → TellsEntries disk old → before ≡ own_entry (container_at old slot) v
  tells_in None there within loaded put before is tells = absurd (omega (arith, within))
  tells_in (Some was) there within loaded put before is tells = told_there was there loaded within put before is tells

  pub tells_before : v < length (entries_in (container_at mid slot)) → IfSome (paged_at mid slot) (λ paged. is_here paged (v / 256) ≡ true) → PutsEntry mid slot v entry new
      → (before : Option Entry) → IfSome (paged_at mid slot) (λ paged. is_sure paged (v / 256) ≡ true → before ≡ entry_under paged.map v) → TellsEntries disk old → before ≡ own_entry (container_at old slot) v
  tells_before within loaded put before is tells = tells_in (paged_at mid slot) refl within loaded put before is tells

-- ---- a leaf that is held in memory

module _ (disk : Disk) (slots : Slots) (slot region : ℕ) (was : Paged) where
  -- the containers keep their maps, also where it isn't
  pub leaf_kept : (now : Paged) → paged_at slots slot ≡ Some was → (r : Result Unit BlockFault) → OnOk r (HasLoaded disk region was now) → OnErr r (now ≡ was) → KeepsMaps disk slots (with_container slots slot (Some now))
  leaf_kept now there (Ok done) loaded failed = maps_kept slots slot was now there disk loaded.map loaded.clean
  leaf_kept now there (Err e) loaded failed = subst (λ (p : Paged). KeepsMaps disk slots (with_container slots slot (Some p))) (sym failed) (maps_kept slots slot was was there disk refl (λ tells clean. clean))

  pub leaf_here : (now : Paged) → paged_at slots slot ≡ Some was → (r : Result Unit BlockFault) → OnOk r (HasLoaded disk region was now) → OnOk r (IfSome (paged_at (with_container slots slot (Some now)) slot) (λ paged. is_here paged region ≡ true))
  leaf_here now there (Ok done) loaded = subst (λ (held : Option Paged). IfSome held (λ paged. is_here paged region ≡ true)) (sym (paged_now slots slot was now there)) loaded.here
  leaf_here now there (Err e) loaded = tt

  -- why it isn't
  pub leaf_hold_fault : paged_at slots slot ≡ Some was → 256 * region < length was.map.entries → (r : Result Unit BlockFault) → (IsTrue disk.tells → IfErr r (IsBadNode disk.reads (get_or was.map.tree region 0) 0)) → IfErr r (IsHoldFault disk slots)
  leaf_hold_fault there inside (Ok done) bad = tt
  leaf_hold_fault there inside (Err DiskFault) bad = tt
  leaf_hold_fault there inside (Err (Damaged at want found)) bad = λ tells. leaf_damage disk.reads slots slot was region at want found there inside (bad tells)
  leaf_hold_fault there inside (Err Memory) bad = tt
