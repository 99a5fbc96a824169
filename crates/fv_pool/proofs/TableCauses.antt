-- Why a call of a table over what a session lends fails, with a counter of steps that was opened for it.
use Rattle.std.proofs.Common.{◌≡◌, ℕ, refl, subst}
use Rattle.std.specs.Prelude.{Result, IfErr, OnErr}
use Rattle.fv_disk.specs.declared.fault.BlockFault.{BlockFault}
use Rattle.fv_disk.specs.Shown.{Shown as Disk}
use Rattle.fv_tree.specs.Sources.{Counts, IsUntouched}
use Rattle.fv_inode.specs.Failing as inodes
use Rattle.fv_inode.specs.Files.{rooted}
use Rattle.fv_files.specs.declared.files.Files.{Files}
use Rattle.fv_files.specs.Failing.{FilesFail, Looks}
use Rattle.fv_files.specs.Tables.{table_in}
use Rattle.fv_volmap.specs.Slots.{Volume}
use Rattle.fv_pool.specs.declared.blocks.Home.{Home}
use Rattle.fv_pool.specs.declared.noted.Noted.{Noted}
use Rattle.fv_pool.specs.declared.pool.Pool.{Pool}
use Rattle.fv_pool.specs.Calls.{BlockCause}
use Rattle.fv_pool.specs.Dropping.{DropsOver}
use Rattle.fv_pool.specs.Lending.{ReadsOver, lent_by, lent_for, sees, shown_over}
use Rattle.fv_pool.proofs.CallCauses.{change_cause, inode_cause, table_cause}
use Rattle.fv_pool.proofs.DropCauses.{drops_cause}

-- a call that looks at the table
pub lent_table : (T : Type 0) (told : Type 0) (p q : Pool) (m n : Volume) (d e : Disk) (s t : ℕ) (h k : Home) (u b : ℕ) (w : Noted) (f : Files) (r : Result T BlockFault) → s ≡ 0 → ReadsOver (lent_for p m d s h 0) (lent_by q n e t k u b w)
    → Looks told (table_in (sees p m d h) f) (shown_over (lent_for p m d s h 0)) (shown_over (lent_by q n e t k u b w)) r → BlockCause told (table_in (sees p m d h) f) (lent_for p m d 0 h 0) e.faults r
lent_table T told p q m n d e s t h k u b w f r opened reads looks =
    subst (λ (c : ℕ). BlockCause told (table_in (sees p m d h) f) (lent_for p m d c h 0) e.faults r) opened (table_cause told (table_in (sees p m d h) f) (lent_for p m d s h 0) (lent_by q n e t k u b w) reads refl r looks)

-- or at its inode file alone
pub lent_inodes : (T : Type 0) (told : Type 0) (p q : Pool) (m n : Volume) (d e : Disk) (s t : ℕ) (h k : Home) (u b : ℕ) (w : Noted) (f : Files) (r : Result T BlockFault) → s ≡ 0 → ReadsOver (lent_for p m d s h 0) (lent_by q n e t k u b w)
    → inodes.Looks told (rooted (sees p m d h) f.inode) (shown_over (lent_for p m d s h 0)) (shown_over (lent_by q n e t k u b w)) r → BlockCause told (table_in (sees p m d h) f) (lent_for p m d 0 h 0) e.faults r
lent_inodes T told p q m n d e s t h k u b w f r opened reads looks =
    subst (λ (c : ℕ). BlockCause told (table_in (sees p m d h) f) (lent_for p m d c h 0) e.faults r) opened (inode_cause told (table_in (sees p m d h) f) (lent_for p m d s h 0) (lent_by q n e t k u b w) reads refl r looks)

-- or that changes it, and only loads
pub lent_change : (T : Type 0) (told : Type 0) (p q : Pool) (m n : Volume) (d e : Disk) (s t : ℕ) (h k : Home) (u b : ℕ) (w : Noted) (f : Files) (r : Result T BlockFault) → s ≡ 0 → ReadsOver (lent_for p m d s h 0) (lent_by q n e t k u b w)
    → Counts (shown_over (lent_for p m d s h 0)) (shown_over (lent_by q n e t k u b w)) r → IfErr r (FilesFail told (table_in (sees p m d h) f) (shown_over (lent_for p m d s h 0)) (shown_over (lent_by q n e t k u b w)))
    → BlockCause told (table_in (sees p m d h) f) (lent_for p m d 0 h 0) e.faults r
lent_change T told p q m n d e s t h k u b w f r opened reads counts fails =
    subst (λ (c : ℕ). BlockCause told (table_in (sees p m d h) f) (lent_for p m d c h 0) e.faults r) opened (change_cause told (table_in (sees p m d h) f) (lent_for p m d s h 0) (lent_by q n e t k u b w) reads refl r counts fails)

-- or that takes cells away
pub lent_removal : (T : Type 0) (told : Type 0) (p q : Pool) (m n : Volume) (d e : Disk) (s t : ℕ) (h k : Home) (u b : ℕ) (w : Noted) (f : Files) (r : Result T BlockFault) → s ≡ 0 → DropsOver (lent_for p m d s h 0) (lent_by q n e t k u b w)
    → Counts (shown_over (lent_for p m d s h 0)) (shown_over (lent_by q n e t k u b w)) r → OnErr r (IsUntouched (shown_over (lent_for p m d s h 0)) (shown_over (lent_by q n e t k u b w)))
    → IfErr r (FilesFail told (table_in (sees p m d h) f) (shown_over (lent_for p m d s h 0)) (shown_over (lent_by q n e t k u b w))) → BlockCause told (table_in (sees p m d h) f) (lent_for p m d 0 h 0) e.faults r
lent_removal T told p q m n d e s t h k u b w f r opened drops counts untouched fails =
    subst (λ (c : ℕ). BlockCause told (table_in (sees p m d h) f) (lent_for p m d c h 0) e.faults r) opened (drops_cause told (table_in (sees p m d h) f) (lent_for p m d s h 0) (lent_by q n e t k u b w) r drops refl refl counts untouched fails)
