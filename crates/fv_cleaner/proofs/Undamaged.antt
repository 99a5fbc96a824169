-- Why no damage comes where the unknown pointers of a volume can be followed.
use Rattle.std.proofs.Common.{◌≡◌, ◌≢◌, ℕ, ◌<◌, List, Option, Some, None, Ok, Err, sym, ap, subst, ◌∙◌, inl, inr, arith}
use Rattle.fv_disk.specs.Shown.{Image, Shown as Disk}
use Rattle.fv_disk.specs.declared.fault.BlockFault.{BlockFault}
use Rattle.fv_disk.specs.declared.fault.BlockFault.TheVariants.{DiskFault, Damaged, Memory}
use Rattle.fv_codec.specs.declared.shape.Shape.{Shape}
use Rattle.fv_codec.specs.declared.pointer.Pointer.{Pointer}
use Rattle.fv_codec.specs.Fields.{Verdict}
use Rattle.fv_container.specs.declared.entry.Entry.{Entry}
use Rattle.fv_container.specs.Chains.{TellsEntries}
use Rattle.fv_container.proofs.Damage.{none_damaged}
use Rattle.fv_image.specs.Views.{Placed}
use Rattle.fv_image.specs.HintRules.{is_unknown}
use Rattle.fv_places.specs.Firsts.{IsFirstAt}
use Rattle.fv_volmap.specs.Slots.{Volume as Maps}
use Rattle.fv_pool.specs.declared.pool.Pool.{Pool}
use Rattle.fv_pool.specs.Keeping.{Blocks, seen}
use Rattle.fv_pool.specs.BlocksOver.{held_entry}
use Rattle.fv_pool.specs.Moving.{LacksHeld, place_or_none}
use Rattle.fv_cleaner.specs.Searching.{IsUndamaged, LeadBelow, LeadsBelow, Lies, lies_in, placed_by}

-- a shape that a block has isn't lacking
pub no_bad_shape : (v : Verdict) (shape : Shape) → v ≡ Ok tt → Err shape ≡ v → ⊥
no_bad_shape v shape fine bad = let wrong : ◌≡◌ {A = Verdict} (Err shape) (Ok tt) = bad ∙ fine in cc

-- what lies under a VVBN is told by its entry
pub lies_by : (map : Maps) (pool : Pool) (slot : ℕ) (i : Image) (v : ℕ) (e : Entry) (x : Placed) → held_entry map pool.containers slot v ≡ Some e → lies_in map pool slot i v ≡ Some x
    → record { pvbn = e.pvbn; kind = e.kind; block = seen pool.kept i e.pvbn } ≡ x
lies_by map pool slot i v e x there lies =
    let is : ◌≡◌ {A = Option Placed} (Some (record { pvbn = e.pvbn; kind = e.kind; block = seen pool.kept i e.pvbn })) (Some x) = sym (ap (placed_by pool.kept i) there) ∙ lies in
    cc

-- so a VVBN that leads below a kind has an entry of such a kind
pub kind_below : (map : Maps) (pool : Pool) (slot : ℕ) (i : Image) (v kind : ℕ) (e : Entry) → held_entry map pool.containers slot v ≡ Some e → LeadsBelow (lies_in map pool slot i) kind v → e.kind < kind
kind_below map pool slot i v kind e there leads =
    let is : e.kind ≡ leads.block.kind = ap (λ (x : Placed). x.kind) (lies_by map pool slot i v e leads.block there leads.there) in
    omega (arith, is, leads.lower)

some_place : (kept : Blocks) (i : Image) (x : Placed) (o : Option Entry) → placed_by kept i o ≡ Some x → x.pvbn ≢ 0 → place_or_none o ≡ 0 → ⊥
some_place kept i x None there some none = absurd cc
some_place kept i x (Some e) there some none =
    let is : record { pvbn = e.pvbn; kind = e.kind; block = seen kept i e.pvbn } ≡ x = cc in
    some (sym (ap (λ (y : Placed). y.pvbn) is) ∙ none)

-- and is found
pub finds_undamaged : (disk : Disk) (map : Maps) (pool : Pool) (slot label v kind : ℕ) (fault : BlockFault) → TellsEntries disk pool.containers → LeadsBelow (lies_in map pool slot disk.reads) kind v
    → LacksHeld disk pool.containers (held_entry map pool.containers slot v) label fault → IsUndamaged fault
finds_undamaged disk map pool slot label v kind DiskFault told leads lacks = tt
finds_undamaged disk map pool slot label v kind Memory told leads lacks = tt
finds_undamaged disk map pool slot label v kind (Damaged at want found) told leads (inl nowhere) =
    some_place pool.kept disk.reads leads.block (held_entry map pool.containers slot v) leads.there leads.some (nowhere.none told)
finds_undamaged disk map pool slot label v kind (Damaged at want found) told leads (inr leaf) = none_damaged disk.reads pool.containers at want found told.1 (leaf told.0)

-- the first unknown pointer of a list leads where all do
pub first_leads : (at : Lies) (kind from : ℕ) (ps : List Pointer) (first : ℕ × Pointer) → IsFirstAt ps from first → LeadBelow at kind ps → LeadsBelow at kind first.1.vvbn
first_leads at kind from ps first is lead =
    subst (λ (p : Pointer). LeadsBelow at kind p.vvbn) is.stands (lead first.0 is.within (ap is_unknown is.stands ∙ is.unknown))

-- what leads somewhere leads there while blocks are read
pub leads_as : (at after : Lies) (kind n v : ℕ) → n ≡ kind → after ≡ at → LeadsBelow at kind v → LeadsBelow after n v
leads_as at after kind n v is same leads = record {
  block = leads.block;
  there = ap (λ (a : Lies). a v) same ∙ leads.there;
  some = leads.some;
  lower = omega (arith, is, leads.lower);
}
