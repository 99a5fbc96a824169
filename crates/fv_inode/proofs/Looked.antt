-- Why calls of an inode file fail, over several calls of its source.
use Rattle.std.proofs.Common.{refl, ◌≡◌, ℕ, inl, inr, subst, sym, ap, ◌∙◌, List, Result, Ok, Err, OnOk, OnErr, ⊎_elim, arith}
use Rattle.std.specs.Prelude.{Some, IfErr}
use Rattle.std.specs.Ordering.{nat_cmp}
use Rattle.std.specs.FinMap as fin
use Rattle.std.proofs.lemmas.Result.{IfErr-weaker}
use Rattle.fv_disk.specs.declared.fault.BlockFault.{BlockFault}
use Rattle.fv_disk.specs.declared.fault.BlockFault.TheVariants.{Damaged}
use Rattle.fv_codec.specs.declared.shape.Shape.{Shape}
use Rattle.fv_codec.specs.Blocks.{inodes_at}
use Rattle.fv_tables.specs.Spelled.{Rooted, block_at}
use Rattle.fv_tree.specs.declared.kept.Tree.{Tree}
use Rattle.fv_tree.specs.Sources.{Shown, Counts, IsCalm, IsUntouched}
use Rattle.fv_tree.specs.Standing.{standing, under, Fails}
use Rattle.fv_tree.specs.Reading.{cell_read_at}
use Rattle.fv_tree.specs.Writing.{Remains}
use Rattle.fv_tree.specs.Flushing.{Loaded, IsSound, changed_of, placed_of, loaded, loaded_over, Stands}
use Rattle.fv_tree.specs.Stored.{IsStoredWell, TellsPlaces}
use Rattle.fv_tree.specs.Leading.{LeadsNoMore}
use Rattle.fv_tree.specs.Releasing.{IsDropped, Releases}
use Rattle.fv_tree.specs.Altering.{AltersHeld, Leaves}
use Rattle.fv_tree.proofs.Altered.{leaves_itself}
use Rattle.fv_tree.proofs.Causes.{at_err, calm_itself, calm_then, counts_then, fails_later, untouched_itself, untouched_then}
use Rattle.fv_tree.proofs.Leading.{leads_then}
use Rattle.fv_tree.specs.Calls.{Steady}
use Rattle.fv_inode.specs.Failing.{OnlyLoads, InodeFails, Looks}

abbrev pub Held : Type 0
Held = fin.FinMap nat_cmp (List ℕ)

-- a tree over the blocks that are held
abbrev pub over : Held → Tree → Rooted
over held = standing (λ v. fin.get held v)

-- what is said of a tree over the blocks of a later source is said of it over those of the earlier one, where they are the same
pub earlier : (P : Rooted → Type 0) (t : Tree) (old mid : Shown) → mid.held ≡ old.held → P (standing (under mid) t) → P (standing (under old) t)
earlier P t old mid held fact = subst (λ (h : Held). P (over h t)) held fact

pub stands_on : (t : Tree) (old new : Shown) → new.held ≡ old.held → new.used ≡ old.used → Stands old t → Stands new t
stands_on t old new held used stands =
    subst (λ (h : Held). IsSound new.used (loaded_over (λ v. fin.get h v) t)) (sym held) (subst (λ u. IsSound u (loaded_over (under old) t)) (sym used) stands)

pub inode_fails_later : (told : Type 0) (t : Rooted) (old mid new : Shown) (e : BlockFault) → IsCalm old mid → mid.held ≡ old.held → InodeFails told t mid new e → InodeFails told t old new e
inode_fails_later told t old mid new e calm held (inl h) = inl (fails_later told t old mid new e calm held h)
inode_fails_later told t old mid new e calm held (inr h) = inr (calm_then old mid new calm h.0, h.1)

-- a call that reads, after others that only read
pub looks_then : {S T : Type 0} (told : Type 0) (t : Tree) (old mid new : Shown) (x : S) (r : Result T BlockFault) → Looks told (standing (under old) t) old mid (Ok x)
    → Looks told (standing (under mid) t) mid new r → Looks told (standing (under old) t) old new r
looks_then told t old mid new x r first second = record {
  untouched = untouched_then old mid new first.untouched second.untouched;
  counts = counts_then old mid new r first.counts.calm second.counts;
  cause = IfErr-weaker r _ _ (λ e h. inode_fails_later told (standing (under old) t) old mid new e first.counts.calm first.untouched.held (earlier (λ u. InodeFails told u mid new e) t old mid first.untouched.held h)) second.cause;
}

-- a call of the tree that leaves the map and what is in use
pub looks_at : {T : Type 0} (told : Type 0) (t : Rooted) (old new : Shown) (r : Result T BlockFault) → IsUntouched old new → Counts old new r → IfErr r (Fails told t old new) → Looks told t old new r
looks_at told t old new r untouched counts cause = record { untouched = untouched; counts = counts; cause = IfErr-weaker r _ _ (λ e h. inl h) cause }

-- of a call that failed, or was done, another answer
pub looks_failed : {S T : Type 0} (told : Type 0) (t : Rooted) (old new : Shown) (e : BlockFault) → Looks {T = S} told t old new (Err e) → Looks {T = T} told t old new (Err e)
looks_failed told t old new e looks = record { untouched = looks.untouched; counts = record { faults = looks.counts.faults; damages = looks.counts.damages; spent = looks.counts.spent; calm = tt }; cause = looks.cause }

-- a call that fails, after another that only read
pub looks_failed_then : {S R T : Type 0} (told : Type 0) (t : Tree) (old mid new : Shown) (x : S) (e : BlockFault) → Looks told (standing (under old) t) old mid (Ok x)
    → Looks {T = R} told (standing (under mid) t) mid new (Err e) → Looks {T = T} told (standing (under old) t) old new (Err e)
looks_failed_then told t old mid new x e first second = looks_failed told (standing (under old) t) old new e (looks_then told t old mid new x (Err e) first second)

pub looks_done : {S T : Type 0} (told : Type 0) (t : Rooted) (old new : Shown) (x : S) (y : T) → Looks told t old new (Ok x) → Looks told t old new (Ok y)
looks_done told t old new x y looks = record { untouched = looks.untouched; counts = record { faults = looks.counts.faults; damages = looks.counts.damages; spent = looks.counts.spent; calm = looks.counts.calm }; cause = tt }

-- and the other way round
pub later : (P : Rooted → Type 0) (t : Tree) (old mid : Shown) → mid.held ≡ old.held → P (standing (under old) t) → P (standing (under mid) t)
later P t old mid held fact = subst (λ (h : Held). P (over h t)) (sym held) fact

-- what a change drops, where a call before it only read
pub released_on : (t u : Tree) (old mid new : Shown) → mid.held ≡ old.held → mid.used ≡ old.used → IsCalm old mid → Releases mid new (IsDropped (under mid) t u) → Releases old new (IsDropped (under old) t u)
released_on t u old mid new held used calm releases =
    let was : Releases mid new (IsDropped (under old) t u) = subst (λ (h : Held). Releases mid new (IsDropped (λ v. fin.get h v) t u)) held releases in
    record {
      gone = was.gone;
      used = λ v stays. was.used v stays ∙ ap (λ o. o v) used;
      held = λ v stays. was.held v stays ∙ ap (λ (h : Held). fin.get h v) held;
      unused = λ v none. was.unused v (ap (λ o. o v) used ∙ none);
      may_go = λ v. ⊎_elim (λ same. inl (same ∙ ap (λ (h : Held). fin.get h v) held)) (λ none. inr none) (was.may_go v);
      calm = calm_then old mid new calm was.calm;
    }

-- a call that drops nothing
pub releases_none : (old new : Shown) (dropped : ℕ → Type 0) → ((v : ℕ) → dropped v → ⊥) → IsUntouched old new → IsCalm old new → Releases old new dropped
releases_none old new dropped none same calm = record {
  gone = λ v is. absurd (none v is);
  used = λ v stays. ap (λ o. o v) same.used;
  held = λ v stays. ap (λ (h : Held). fin.get h v) same.held;
  unused = λ v free. ap (λ o. o v) same.used ∙ free;
  may_go = λ v. inl (ap (λ (h : Held). fin.get h v) same.held);
  calm = calm;
}

pub both_ok : {T E P Q R : Type 0} (r : Result T E) → OnOk r P → OnOk r Q → (P → Q → R) → OnOk r R
both_ok (Ok x) p q so = so p q
both_ok (Err e) p q so = tt

-- no call at all
pub looks_self : (told : Type 0) (t : Rooted) (old : Shown) → Looks told t old old (Ok (tt {0}))
looks_self told t old = record { untouched = untouched_itself old; counts = record { faults = omega arith; damages = omega arith; spent = omega arith; calm = calm_itself old }; cause = tt }

on_ok_of : {T P : Type 0} (r : Result T BlockFault) → P → OnOk r P
on_ok_of (Ok x) p = p
on_ok_of (Err e) p = tt

-- a block that was read at a place is judged as an inode block
pub looks_judged : {T : Type 0} (told : Type 0) (t : Rooted) (old new : Shown) (r : Result T BlockFault) (cell at : ℕ) (block : List ℕ) → IsUntouched old new → IsCalm old new
    → (told → block_at t cell ≡ Some block) → (told → at ≡ cell_read_at t new cell)
    → IfErr r (λ e. (shape : Shape) × (inodes_at block ≡ Err shape) × (e ≡ Damaged at shape.want shape.found)) → Looks told t old new r
looks_judged told t old new r cell at block untouched calm lies place damage = record {
  untouched = untouched;
  counts = record { faults = omega (arith, calm.faults); damages = omega (arith, calm.damages); spent = calm.spent; calm = on_ok_of r calm };
  cause = IfErr-weaker r _ _ (λ e h. inr (calm, record { at = at; block = block; shape = h.0; fault = h.1; is = h.2; cell = cell; lies = lies; place = place })) damage;
}

-- ---- changes of a tree that only load

-- a call of the tree
pub loads_at : {T : Type 0} {told reading : Type 0} {t u : Tree} {old new : Shown} {more brought : ℕ} {r : Result T BlockFault} → (told → OnErr r (Remains (standing (under old) t) (standing (under new) u))) → (told → OnErr r (Leaves (loaded old t) (loaded new u)))
    → Steady told reading old new t u more brought r → OnlyLoads told old new t u r
loads_at {told = told} {t = t} {old = old} {new = new} {r = r} failed leaves did =
    record { failed = failed; leaves = leaves; owner = did.owner; stands = did.stands; leads = did.leads; keeps = did.keeps; stored_well = did.stored_well; tells = did.tells; keeps_ready = did.keeps_ready; looks = looks_at told (standing (under old) t) old new r did.untouched did.counts did.cause }

-- a tree that is said of over the blocks of a source, as what it leads to
abbrev pub loaded_as : Tree → Rooted → Loaded
loaded_as t v = record { tree = v; changed = changed_of t; placed = placed_of t }

-- nothing of it changes over the same blocks
pub loads_leaves : (t : Tree) (old new : Shown) → new.held ≡ old.held → Leaves (loaded old t) (loaded new t)
loads_leaves t old new held = later (λ v. Leaves (loaded old t) (loaded_as t v)) t old new held (leaves_itself (loaded old t))

-- a call that only reads
pub loads_none : {T : Type 0} (told : Type 0) (t : Tree) (old new : Shown) (r : Result T BlockFault) → Looks told (standing (under old) t) old new r → OnlyLoads told old new t t r
loads_none told t old new r looks = record {
  failed = λ is. at_err r (later (λ v. Remains (standing (under old) t) v) t old new looks.untouched.held (λ seen contents shows. shows));
  leaves = λ is. at_err r (loads_leaves t old new looks.untouched.held);
  owner = refl;
  stands = λ is. stands_on t old new looks.untouched.held looks.untouched.used;
  leads = λ is. later (λ v. LeadsNoMore (loaded old t) (loaded_as t v)) t old new looks.untouched.held (λ level place v leads. leads);
  keeps = λ is. later (λ v. LeadsNoMore (loaded_as t v) (loaded old t)) t old new looks.untouched.held (λ level place v leads. leads);
  stored_well = λ is. later (λ v. IsStoredWell (loaded old t) → IsStoredWell (loaded_as t v)) t old new looks.untouched.held (λ was. was);
  tells = λ is. later (λ v. TellsPlaces (loaded old t) → TellsPlaces (loaded_as t v)) t old new looks.untouched.held (λ was. was);
  keeps_ready = λ i ready. ready;
  looks = looks;
}

-- a call that reads, and then a change of the tree
pub loads_then : {S T : Type 0} (told : Type 0) (t u : Tree) (old mid new : Shown) (x : S) (r : Result T BlockFault) → Looks told (standing (under old) t) old mid (Ok x) → OnlyLoads told mid new t u r → OnlyLoads told old new t u r
loads_then told t u old mid new x r first second = record {
  failed = λ is. earlier (λ v. OnErr r (Remains v (standing (under new) u))) t old mid first.untouched.held (second.failed is);
  leaves = λ is. earlier (λ v. OnErr r (Leaves (loaded_as t v) (loaded new u))) t old mid first.untouched.held (second.leaves is);
  owner = second.owner;
  stands = λ is sound. second.stands is (stands_on t old mid first.untouched.held first.untouched.used sound);
  leads = λ is. earlier (λ v. LeadsNoMore (loaded_as t v) (loaded new u)) t old mid first.untouched.held (second.leads is);
  keeps = λ is. earlier (λ v. LeadsNoMore (loaded new u) (loaded_as t v)) t old mid first.untouched.held (second.keeps is);
  stored_well = λ is. earlier (λ v. IsStoredWell (loaded_as t v) → IsStoredWell (loaded new u)) t old mid first.untouched.held (second.stored_well is);
  tells = λ is. earlier (λ v. TellsPlaces (loaded_as t v) → TellsPlaces (loaded new u)) t old mid first.untouched.held (second.tells is);
  keeps_ready = second.keeps_ready;
  looks = looks_then told t old mid new x r first second.looks;
}

-- a call that only read failed, and with it the change
pub loads_none_failed : {S T : Type 0} (told : Type 0) (t : Tree) (old new : Shown) (e : BlockFault) → Looks {T = S} told (standing (under old) t) old new (Err e) → OnlyLoads {T = T} told old new t t (Err e)
loads_none_failed told t old new e looks = loads_none told t old new (Err e) (looks_failed told (standing (under old) t) old new e looks)

-- of a change that failed, or was done, another answer
loads_as : {S T : Type 0} {told : Type 0} {t u : Tree} {old new : Shown} {r : Result S BlockFault} {s : Result T BlockFault} → (told → OnErr s (Remains (standing (under old) t) (standing (under new) u))) → (told → OnErr s (Leaves (loaded old t) (loaded new u)))
    → Looks told (standing (under old) t) old new s → OnlyLoads told old new t u r → OnlyLoads told old new t u s
loads_as failed leaves looks did =
    record { failed = failed; leaves = leaves; owner = did.owner; stands = did.stands; leads = did.leads; keeps = did.keeps; stored_well = did.stored_well; tells = did.tells; keeps_ready = did.keeps_ready; looks = looks }

pub loads_failed : {S T : Type 0} (told : Type 0) (t u : Tree) (old new : Shown) (e : BlockFault) → OnlyLoads {T = S} told old new t u (Err e) → OnlyLoads {T = T} told old new t u (Err e)
loads_failed told t u old new e loads = loads_as loads.failed loads.leaves (looks_failed told (standing (under old) t) old new e loads.looks) loads

pub loads_done : {S T : Type 0} (told : Type 0) (t u : Tree) (old new : Shown) (x : S) (y : T) → OnlyLoads told old new t u (Ok x) → OnlyLoads told old new t u (Ok y)
loads_done told t u old new x y loads = loads_as (λ is. tt) (λ is. tt) (looks_done told (standing (under old) t) old new x y loads.looks) loads

-- and then a change in memory
pub loads_more : {S T : Type 0} (told : Type 0) (t u w : Tree) (old new : Shown) (stamp : ℕ) (x : S) (y : T) → OnlyLoads told old new t u (Ok x) → AltersHeld u w stamp → OnlyLoads told old new t w (Ok y)
loads_more told t u w old new stamp x y first second = record {
  failed = λ is. tt;
  leaves = λ is. tt;
  owner = second.owner ∙ first.owner;
  stands = λ is before. second.sound (under new) new.used (first.stands is before);
  leads = λ is. leads_then (loaded old t) (loaded new u) (loaded new w) (first.leads is) (second.leads (under new));
  keeps = λ is. leads_then (loaded new w) (loaded new u) (loaded old t) (second.keeps (under new)) (first.keeps is);
  stored_well = λ is was. second.stored_well (under new) (first.stored_well is was);
  tells = λ is was. second.tells (under new) (first.tells is was);
  keeps_ready = λ i ready. second.keeps_ready i (first.keeps_ready i ready);
  looks = looks_done told (standing (under old) t) old new x y first.looks;
}
