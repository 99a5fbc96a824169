-- A walk over the snapshots of a volume, while blocks are read.
use Rattle.std.proofs.Common.{◌≡◌, ℕ, ◌+◌, ◌<◌, true, false, List, length, map, get_or, drop, Option, refl, sym, ap, subst, ◌∙◌}
use Rattle.std.specs.Prelude.{All, is_some}
use Rattle.fv_disk.specs.Shown.{Shown as Disk}
use Rattle.fv_disk.specs.DiskCalls.{OnlyReads}
use Rattle.fv_container.specs.Chains.{TellsEntries}
use Rattle.fv_image.specs.HintRules.{is_unknown}
use Rattle.fv_pool.specs.declared.pool.Pool.{Pool}
use Rattle.fv_pool.specs.BlocksOver.{LeavesPool}
use Rattle.fv_volume.specs.declared.state.Snap.{Snap}
use Rattle.fv_volume.specs.declared.state.VolumeState.{VolumeState}
use Rattle.fv_cleaner.specs.declared.searching.Found.{Found}
use Rattle.fv_cleaner.specs.Searching.{LeadBelow, LeadsBelow, Lies, lies_in}
use Rattle.fv_cleaner.specs.Stepping.{IsPlaceOf, IsRootClear, SearchesRoot, root_of_snap, roots_of}
use Rattle.fv_cleaner.proofs.Lying.{same_lies, tells_on}
use Rattle.fv_cleaner.proofs.Rooted.{clear_more, place_from, saw_root, snap_leads}
use Rattle.fv_cleaner.proofs.Undamaged.{leads_as}

-- a snapshot of the volume, where nothing changed so far but the cache
module _ (x : VolumeState) (disk now : Disk) (pool mid : Pool) (slot : ℕ) (leaves : LeavesPool pool mid) (reads : OnlyReads disk now) (index : ℕ) (item : Snap)
    (is : item ≡ get_or x.snapshots index item) (within : index < length x.snapshots) where
  abbrev at : Lies
  at = lies_in x.map pool slot disk.reads

  abbrev after : Lies
  after = lies_in x.map mid slot now.reads

  -- its root leads where all do
  pub item_leads : LeadBelow at 8 (roots_of x) → is_unknown item.table.root ≡ true → LeadsBelow after 8 item.table.root.vvbn
  item_leads lead unknown = leads_as at after 8 8 item.table.root.vvbn refl (same_lies x.map pool mid disk now slot leaves reads)
      (subst (λ (q : Snap). LeadsBelow at 8 q.table.root.vvbn) (sym is) (snap_leads at x lead index item within (ap (λ (q : Snap). is_unknown q.table.root) (sym is) ∙ unknown)))

  -- nothing is to be cleaned under it, nor under those behind it
  pub item_clear : (b : List ℕ) (next : Option Found) → is_some next ≡ false → (TellsEntries now mid.containers → SearchesRoot after item.table.root b next) → TellsEntries disk pool.containers
      → All (IsRootClear at) (map root_of_snap (drop (index + 1) x.snapshots)) → All (IsRootClear at) (map root_of_snap (drop index x.snapshots))
  item_clear b next none searches tells rest =
      let saw = saw_root after item.table.root b next none (searches (tells_on x.map pool mid disk now slot leaves reads tells)) in
      let clear = subst (λ (a : Lies). IsRootClear a item.table.root) (same_lies x.map pool mid disk now slot leaves reads) saw in
      clear_more at x.snapshots index item within (subst (λ (q : Snap). IsRootClear at (root_of_snap q)) is clear) rest

  -- its place was found over what lay there at first
  pub item_place : (place : ℕ) → IsPlaceOf (TellsEntries now mid.containers) after item.table.root place → IsPlaceOf (TellsEntries disk pool.containers) at item.table.root place
  item_place place here = place_from (TellsEntries disk pool.containers) (TellsEntries now mid.containers) at after item.table.root place
      (tells_on x.map pool mid disk now slot leaves reads) (same_lies x.map pool mid disk now slot leaves reads) here
