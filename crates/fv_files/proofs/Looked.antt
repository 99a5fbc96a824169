-- Why calls of a table fail, over several calls.
use Rattle.std.proofs.Common.{◌≡◌, ℕ, inl, inr, subst, sym, List, Result, Ok, Err}
use Rattle.std.specs.Prelude.{IfErr, IsErrAnd}
use Rattle.std.specs.Ordering.{nat_cmp}
use Rattle.std.specs.FinMap as fin
use Rattle.std.proofs.lemmas.Result.{IfErr-weaker}
use Rattle.fv_disk.specs.declared.fault.BlockFault.{BlockFault}
use Rattle.fv_disk.specs.declared.fault.BlockFault.TheVariants.{Memory}
use Rattle.fv_tables.specs.Told.{Standing}
use Rattle.fv_tree.specs.Sources.{Shown, Counts, IsCalm, IsUntouched}
use Rattle.fv_tree.specs.Standing.{Fails}
use Rattle.fv_tree.proofs.Causes.{calm_then, counts_then, fails_later, untouched_then}
use Rattle.fv_inode.specs.declared.info.Info.{Info}
use Rattle.fv_inode.specs.Failing as inodes
use Rattle.fv_files.specs.declared.files.Files.{Files}
use Rattle.fv_files.specs.Trees.{standing_in}
use Rattle.fv_files.specs.Tables.{changed, table_in, tree_known, IsInfoOf}
use Rattle.fv_files.specs.Failing.{FilesFail, Looks}
use Rattle.fv_files.proofs.Tables.{file_tree}

abbrev pub Held : Type 0
Held = fin.FinMap nat_cmp (List ℕ)

-- a table over the blocks that are held
abbrev pub over : Held → Files → Standing
over held f = standing_in (λ v. fin.get held v) (changed f)

-- what is said of a table over the blocks of a later source is said of it over those of the earlier one, where they are the same
pub earlier : (P : Standing → Type 0) (f : Files) (old mid : Shown) → mid.held ≡ old.held → P (table_in mid f) → P (table_in old f)
earlier P f old mid held fact = subst (λ (h : Held). P (over h f)) held fact

-- after a call that left both counts and the map
pub fails_after : (told : Type 0) (x : Standing) (old mid new : Shown) (e : BlockFault) → IsCalm old mid → mid.held ≡ old.held → FilesFail told x mid new e → FilesFail told x old new e
fails_after told x old mid new e calm held (inl (inl h)) = inl (inl (fails_later told x.inode old mid new e calm held h))
fails_after told x old mid new e calm held (inl (inr h)) = inl (inr (calm_then old mid new calm h.0, h.1))
fails_after told x old mid new e calm held (inr h) = inr (record { tree = h.tree; of_file = h.of_file; fails = fails_later told h.tree old mid new e calm held h.fails })

-- a call of the inode file
pub looks_inode : {T : Type 0} (told : Type 0) (x : Standing) (old new : Shown) (r : Result T BlockFault) → inodes.Looks told x.inode old new r → Looks told x old new r
looks_inode told x old new r looks = record { untouched = looks.untouched; counts = looks.counts; cause = IfErr-weaker r _ _ (λ e h. inl h) looks.cause }

-- a call of the tree of a file of which this is known
pub looks_tree : {T : Type 0} (told : Type 0) (x : Standing) (info : Info) (old new : Shown) (r : Result T BlockFault) → (told → IsInfoOf x.inode info) → IsUntouched old new → Counts old new r
    → IfErr r (Fails told (tree_known x info) old new) → Looks told x old new r
looks_tree told x info old new r is untouched counts cause = record {
  untouched = untouched;
  counts = counts;
  cause = IfErr-weaker r _ _ (λ e h. inr (record { tree = tree_known x info; of_file = λ tells. file_tree x info (is tells); fails = h })) cause;
}

-- of a call that failed, or was done, the counts under another answer
pub counts_failed : {S T : Type 0} (old new : Shown) (r : Result S BlockFault) (e : BlockFault) → Counts old new r → Counts {T = T} old new (Err e)
counts_failed old new r e is = record { faults = is.faults; damages = is.damages; spent = is.spent; calm = tt }

pub counts_done : {S T : Type 0} (old new : Shown) (x : S) (y : T) → Counts {E = BlockFault} old new (Ok x) → Counts {E = BlockFault} old new (Ok y)
counts_done old new x y is = record { faults = is.faults; damages = is.damages; spent = is.spent; calm = is.calm }

-- and what a failed call leaves, under another answer
pub looks_failed : {S T : Type 0} (told : Type 0) (x : Standing) (old new : Shown) (e : BlockFault) → Looks {T = S} told x old new (Err e) → Looks {T = T} told x old new (Err e)
looks_failed told x old new e is = record { untouched = is.untouched; counts = counts_failed old new (Err e) e is.counts; cause = is.cause }

-- a call that reads, after another that only read
pub looks_then : {S T : Type 0} (told : Type 0) (f : Files) (old mid new : Shown) (x : S) (r : Result T BlockFault) → Looks told (table_in old f) old mid (Ok x) → Looks told (table_in mid f) mid new r → Looks told (table_in old f) old new r
looks_then told f old mid new x r first second = record {
  untouched = untouched_then old mid new first.untouched second.untouched;
  counts = counts_then old mid new r first.counts.calm second.counts;
  cause = IfErr-weaker r _ _ (λ e h. fails_after told (table_in old f) old mid new e first.counts.calm first.untouched.held (earlier (λ y. FilesFail told y mid new e) f old mid first.untouched.held h)) second.cause;
}

-- what holds of a fault holds of the call that hands it on
pub handed_on : {T : Type 0} (C : Result T BlockFault → Type 0) (e : BlockFault) (r : Result T BlockFault) → IsErrAnd r (λ fault. fault ≡ e) → C (Err e) → C r
handed_on C e (Ok x) is holds = absurd is
handed_on C e (Err fault) is holds = subst (λ y. C (Err y)) (sym is) holds

-- the tree of a file was read, and then a call of the table fails
pub looks_past : {S R T : Type 0} (told : Type 0) (f : Files) (info : Info) (old mid new : Shown) (x : S) (e : BlockFault) → (told → IsInfoOf (table_in old f).inode info) → IsUntouched old mid → Counts {E = BlockFault} old mid (Ok x)
    → inodes.Looks {T = R} told (table_in mid f).inode mid new (Err e) → Looks {T = T} told (table_in old f) old new (Err e)
looks_past told f info old mid new x e is untouched counts looks =
    looks_then told f old mid new x (Err e) (looks_tree told (table_in old f) info old mid (Ok x) is untouched counts tt) (looks_failed told (table_in mid f) mid new e (looks_inode told (table_in mid f) mid new (Err e) looks))

-- there is no memory
pub looks_memory : {S T : Type 0} (told : Type 0) (x : Standing) (old new : Shown) (y : S) (e : BlockFault) → IsUntouched old new → Counts {E = BlockFault} old new (Ok y) → e ≡ Memory → Looks {T = T} told x old new (Err e)
looks_memory {S} {T} told x old new y e same counts is = subst (λ e. Looks {T = T} told x old new (Err e)) (sym is) (record {
  untouched = same;
  counts = counts_failed old new (Ok y) Memory counts;
  cause = inl (inl counts.calm);
})

-- a call of the tree of a file fails, and so does the call that hands its fault on
pub looks_handed : {S T : Type 0} (told : Type 0) (x : Standing) (info : Info) (old new : Shown) (e : BlockFault) (r : Result T BlockFault) → IsErrAnd r (λ fault. fault ≡ e) → (told → IsInfoOf x.inode info) → IsUntouched old new → Counts {T = S} old new (Err e)
    → Fails told (tree_known x info) old new e → Looks told x old new r
looks_handed told x info old new e r is there untouched counts cause = handed_on (Looks told x old new) e r is (looks_failed told x old new e (looks_tree told x info old new (Err e) there untouched counts cause))
