-- Why the flush of a volume's table fails, over what a session lends to calls that load no block of it.
use Rattle.std.proofs.Common.{◌≡◌, ◌⊎◌, ℕ, inl, inr, refl, ap, ⊎_elim}
use Rattle.std.specs.Prelude.{Result, Ok, Err, IfErr}
use Rattle.fv_disk.specs.Shown.{Rose}
use Rattle.fv_disk.specs.declared.fault.BlockFault.{BlockFault}
use Rattle.fv_disk.specs.declared.fault.BlockFault.TheVariants as block
use Rattle.fv_disk.specs.declared.fault.BlockFault.TheVariants.{Damaged}
use Rattle.fv_image.specs.Layout.{root_place}
use Rattle.fv_tree.specs.Sources.{Counts, HasCause, IsDamaged, Shown}
use Rattle.fv_files.specs.declared.files.Files.{Files}
use Rattle.fv_files.specs.Failing.{FilesFail}
use Rattle.fv_files.specs.Flushing.{FlushFails, holding}
use Rattle.fv_files.specs.Tables.{table_in}
use Rattle.fv_pool.specs.declared.noted.Noted.{Noted}
use Rattle.fv_pool.specs.BlocksOver.{LacksLeaf}
use Rattle.fv_pool.specs.Causes.{IsNoDamage, of_block}
use Rattle.fv_pool.specs.Lending.{LacksOne, Lent, shown_over}
use Rattle.fv_pool.specs.Placing.{PlaceCause, PlaceFails}
use Rattle.fv_pool.specs.Placing as placing
use Rattle.fv_pool.specs.Putting.{PutsOver, trusting}
use Rattle.fv_pool.proofs.Failing.{lacks_is, leaf_is, still_none}

module _ (told : Type 0) (old new : Lent) (f : Files) (puts : PutsOver old new) (none : old.noted.count ≡ 0) where
  abbrev before : Shown
  before = trusting (shown_over old)

  abbrev after : Shown
  after = trusting (shown_over new)

  -- damage that was answered is for want of a number or a block, or that of a leaf
  lacks : (at want found : ℕ) → HasCause before after (Damaged at want found) → ((new.room ≡ 0) × LacksOne old.home.label (root_place old.pool.found.slot) at want found) ⊎ LacksLeaf old.disk old.pool.containers at want found
  lacks at want found (calm, was) = ⊎_elim
      (λ same. absurd (still_none old.noted.count new.noted.count none (ap (λ (n : Noted). n.count) same) was.0))
      (λ why. ⊎_elim
      (λ out. inl (out.none, lacks_is old.home.label (root_place old.pool.found.slot) new.noted at want found was.1 out.lacks))
      (λ leaf. inr (leaf_is old.disk old.pool.containers new.noted at want found was.1 leaf))
      why)
      puts.noted

  -- the disk's count of faults by the fault
  abbrev Counted : BlockFault → Type 0
  Counted block.DiskFault = Rose old.disk.faults new.disk.faults
  Counted (Damaged at want found) = new.disk.faults ≡ old.disk.faults
  Counted block.Memory = new.disk.faults ≡ old.disk.faults

  laid_counted : (held : Shown) (x : Files) (e : BlockFault) → held.faults ≡ before.faults → FilesFail told (table_in held x) held after e → Counted e
  laid_counted held x block.DiskFault same (inl (inl fails)) = rw (← same) fails.0
  laid_counted held x block.DiskFault same (inl (inr (calm, cell))) = let wrong : block.DiskFault ≡ Damaged cell.at cell.shape.want cell.shape.found = cell.is in absurd cc
  laid_counted held x block.DiskFault same (inr fails) = rw (← same) fails.fails.0
  laid_counted held x (Damaged at want found) same (inl (inl fails)) = rw (← same) fails.0
  laid_counted held x (Damaged at want found) same (inl (inr (calm, cell))) = rw (← same) calm.faults
  laid_counted held x (Damaged at want found) same (inr fails) = rw (← same) fails.fails.0
  laid_counted held x block.Memory same (inl (inl fails)) = rw (← same) fails.faults
  laid_counted held x block.Memory same (inl (inr (calm, cell))) = rw (← same) calm.faults
  laid_counted held x block.Memory same (inr fails) = rw (← same) fails.fails.faults

  counted : (e : BlockFault) → FlushFails told before after f e → Counted e
  counted block.DiskFault (inl cause) = cause.0
  counted (Damaged at want found) (inl cause) = cause.0
  counted block.Memory (inl cause) = cause.faults
  counted e (inr lays) = laid_counted (holding before lays.held) lays.table e refl lays.fails

  -- why the flush of a table fails
  fails_for : (e : BlockFault) → Counted e → (told → HasCause before after e) → PlaceFails told old new.disk.faults new.room e
  fails_for block.DiskFault rose source = rose
  fails_for (Damaged at want found) calm source = (calm, λ is. lacks at want found (source is))
  fails_for block.Memory calm source = calm

  pub flush_cause : {T : Type 0} (r : Result T BlockFault) → Counts before after r → IfErr r (FlushFails told before after f) → (told → IfErr r (HasCause before after)) → PlaceCause told old new.disk.faults new.room r
  flush_cause (Ok done) counts fails source = counts.calm.faults
  flush_cause (Err e) counts fails source = fails_for e (counted e fails) source

-- as causes of calls on volumes
pub fault_cause : (told : Type 0) (old : Lent) (faults room : ℕ) (e : BlockFault) → PlaceFails told old faults room e → placing.FlushFails told old faults room (of_block e)
fault_cause told old faults room block.DiskFault fails = fails
fault_cause told old faults room (Damaged at want found) fails = fails
fault_cause told old faults room block.Memory fails = fails

-- a fault that is no damage of a block is none of a volume
pub no_damage_in : (e : BlockFault) → (IsDamaged e → ⊥) → IsNoDamage (of_block e)
no_damage_in block.DiskFault undamaged = tt
no_damage_in (Damaged at want found) undamaged = undamaged tt
no_damage_in block.Memory undamaged = tt

-- under a narrower statement
pub place_narrow : (narrow wide : Type 0) → (narrow → wide) → (old : Lent) (faults room : ℕ) (e : BlockFault) → PlaceFails wide old faults room e → PlaceFails narrow old faults room e
place_narrow narrow wide widens old faults room block.DiskFault fails = fails
place_narrow narrow wide widens old faults room (Damaged at want found) fails = (fails.0, λ is. fails.1 (widens is))
place_narrow narrow wide widens old faults room block.Memory fails = fails
