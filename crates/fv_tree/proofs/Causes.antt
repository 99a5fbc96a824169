-- Why calls of a tree fail, over several calls of its source.
use Rattle.std.proofs.Common.{◌≡◌, ◌≢◌, ◌≤◌, ℕ, zero, suc, true, [], inl, inr, ap, subst, sym, ◌∙◌, arith, refl, Option, Some, None, Result, Ok, Err, OnOk, OnErr, is_some}
use Rattle.std.specs.Prelude.{IfErr, IsErrAnd}
use Rattle.std.specs.FinMap as fin
use Rattle.std.proofs.lemmas.Result.{IfErr-weaker}
use Rattle.std.specs.Option.{option_map}
use Rattle.fv_disk.specs.declared.fault.BlockFault.{BlockFault}
use Rattle.fv_disk.specs.declared.fault.BlockFault.TheVariants.{DiskFault, Damaged, Memory}
use Rattle.fv_codec.specs.declared.pointer.Pointer.{Pointer}
use Rattle.fv_tree.specs.declared.kept.Tree.{Tree}
use Rattle.fv_tree.specs.declared.kept.KeptNode.{KeptNode}
use Rattle.fv_tree.specs.Spelled.{Under, Rooted, pointer_at, pointers_in, pointers_of}
use Rattle.fv_tree.specs.Sources.{Shown, Counts, IsCalm, IsDamaged, IsUntouched}
use Rattle.fv_tree.specs.Carried.{kept_at}
use Rattle.fv_tree.specs.Keeping.{IsSame}
use Rattle.fv_tree.specs.Standing.{standing, under, cell_in, IsBlockDamage, IsUnread, LacksBlock, LeadsAway, node_in, PointerFails, LoadFails, Fails}

-- ---- what isn't in memory

none_there : {X : Type 0} (o : Option X) → (is_some o ≡ true → ⊥) → o ≡ None
none_there None never = refl
none_there (Some x) never = absurd (never refl)

node_unread : (t : Rooted) (level place : ℕ) → 1 ≤ level → (is_some (t.nodes level place) ≡ true → ⊥) → IsUnread t level place
node_unread t zero place low never = absurd (omega (arith, low))
node_unread t (suc level) place low never = none_there (t.nodes (suc level) place) never

-- it wasn't there in a tree that is the same, either
same_unread : (t u : Rooted) → IsSame t u → (level place : ℕ) → (pointer_at t level place).stamp ≢ 0 → IsUnread u level place → IsUnread t level place
same_unread t u same zero place some none = ap (λ (cells : Under). cells place) (sym same.cells) ∙ none
same_unread t u same (suc level) place some none = same.nodes (suc level) place some none

-- where a node in memory leaves only want of memory, no damage comes with it
kept_there : (o : Option KeptNode) → is_some (option_map (λ (kept : KeptNode). kept.children) o) ≡ true → is_some o ≡ true
kept_there None is = is
kept_there (Some kept) is = refl

pub kept_damage : (t : Tree) (level place : ℕ) (e : BlockFault) → (is_some (kept_at t level place) ≡ true → e ≡ Memory) → IsDamaged e → is_some (node_in t level place) ≡ true → ⊥
kept_damage t level place e held damaged there = subst IsDamaged (held (kept_there (kept_at t level place) there)) damaged

-- a fault that doesn't come where something is in memory
pub err_unless : {T E : Type 0} (P : Type 0) (C : E → Type 0) (r : Result T E) → (P → OnErr r ⊥) → IfErr r C → IfErr r (λ e. (P → ⊥) × C e)
err_unless P C (Ok x) unless cause = tt
err_unless P C (Err e) unless cause = (unless, cause)

-- ---- one call

lacks_block : (t : Rooted) (level place : ℕ) → level ≤ t.levels → IsUnread t level place → (p : Pointer) → p ≡ pointer_at t level place → (blocks : Under) → t.under ≡ blocks → LeadsAway blocks p → LacksBlock t
lacks_block t level place high unread p is blocks over away =
    record { level = level; place = place; high = high; unread = unread; away = subst (LeadsAway t.under) is (subst (λ b. LeadsAway b p) (sym over) away) }

-- a cell of the tree that wasn't loaded
pub cell_fails : (told : Type 0) (t : Rooted) (old new : Shown) (index : ℕ) (p : Pointer) (e : BlockFault) → t.under ≡ under old → (told → p ≡ pointer_at t 0 index) → (is_some (t.cells index) ≡ true → ⊥) → PointerFails told old new p e → Fails told t old new e
cell_fails told t old new index p DiskFault held is fresh (cause, away) = cause
cell_fails told t old new index p (Damaged at want found) held is fresh ((faults, was), away) =
    (faults, inl (was, λ tells. lacks_block t 0 index (omega arith) (none_there (t.cells index) fresh) p (is tells) (under old) held (away tells tt)))
cell_fails told t old new index p Memory held is fresh (cause, away) = cause

-- a node of the tree that wasn't loaded
pub node_fails : (told : Type 0) (t : Rooted) (old new : Shown) (level place : ℕ) (p : Pointer) (e : BlockFault) → t.under ≡ under old → 1 ≤ level → level ≤ t.levels → (told → pointer_at t level place ≡ p)
    → (IsDamaged e → is_some (t.nodes level place) ≡ true → ⊥) → LoadFails told old new p e → Fails told t old new e
node_fails told t old new level place p DiskFault held low high is fresh h = h
node_fails told t old new level place p (Damaged at want found) held low high is fresh (faults, inl h) =
    (faults, inl (h.0, λ tells. lacks_block t level place high (node_unread t level place low (fresh tt)) p (sym (is tells)) (under old) held (h.1 tells)))
node_fails told t old new level place p (Damaged at want found) held low high is fresh (faults, inr h) = (
  faults,
  inr (
    h.0,
    λ tells. record {
      level = level;
      place = place;
      low = low;
      high = high;
      unread = node_unread t level place low (fresh tt);
      damage = subst (λ q. IsBlockDamage old new q at want found) (sym (is tells)) (h.1 tells);
    },
  ),
)
node_fails told t old new level place p Memory held low high is fresh h = h

-- a node that was asked of its block, whatever is in memory: memory has no node over a block without pointers
pub followed_fails : (told : Type 0) (t : Rooted) (old new : Shown) (level place : ℕ) (p : Pointer) (e : BlockFault) → t.under ≡ under old → 1 ≤ level → level ≤ t.levels → (told → pointer_at t level place ≡ p)
    → (told → p.stamp ≢ 0 → pointers_in (under old p.vvbn) ≡ [] → is_some (t.nodes level place) ≡ true → ⊥) → LoadFails told old new p e → Fails told t old new e
followed_fails told t old new level place p DiskFault held low high is fresh h = h
followed_fails told t old new level place p (Damaged at want found) held low high is fresh (faults, inl h) =
    (faults, inl (h.0, λ tells. let away = h.1 tells in lacks_block t level place high (node_unread t level place low (fresh tells away.0 (ap pointers_in away.1))) p (sym (is tells)) (under old) held away))
followed_fails told t old new level place p (Damaged at want found) held low high is fresh (faults, inr h) = (
  faults,
  inr (
    h.0,
    λ tells. let bad = h.1 tells in record {
      level = level;
      place = place;
      low = low;
      high = high;
      unread = node_unread t level place low (fresh tells bad.some (ap pointers_in bad.lies ∙ ap pointers_of bad.fault));
      damage = subst (λ q. IsBlockDamage old new q at want found) (sym (is tells)) bad;
    },
  ),
)
followed_fails told t old new level place p Memory held low high is fresh h = h

-- so with a cell: memory has none over a VVBN that isn't held
cell_read_fails : (told : Type 0) (t : Rooted) (old new : Shown) (index : ℕ) (p : Pointer) (e : BlockFault) → t.under ≡ under old → (told → p ≡ pointer_at t 0 index) → (told → p.stamp ≢ 0 → under old p.vvbn ≡ None → is_some (t.cells index) ≡ true → ⊥)
    → PointerFails told old new p e → Fails told t old new e
cell_read_fails told t old new index p DiskFault held is fresh (cause, away) = cause
cell_read_fails told t old new index p (Damaged at want found) held is fresh ((faults, was), away) =
    (faults, inl (was, λ tells. let gone = away tells tt in lacks_block t 0 index (omega arith) (none_there (t.cells index) (fresh tells gone.0 gone.1)) p (is tells) (under old) held gone))
cell_read_fails told t old new index p Memory held is fresh (cause, away) = cause

-- ---- over several calls

pub untouched_itself : (source : Shown) → IsUntouched source source
untouched_itself source = record { held = refl; used = refl; strays = refl; room = refl; cost = refl; right = λ v pvbn is. is }

pub untouched_then : (old mid new : Shown) → IsUntouched old mid → IsUntouched mid new → IsUntouched old new
untouched_then old mid new first second = record { held = second.held ∙ first.held; used = second.used ∙ first.used; strays = second.strays ∙ first.strays; room = second.room ∙ first.room; cost = second.cost ∙ first.cost; right = λ v pvbn is. second.right v pvbn (first.right v pvbn is) }

pub calm_itself : (source : Shown) → IsCalm source source
calm_itself source = record { faults = refl; damages = refl; spent = omega arith }

pub calm_then : (old mid new : Shown) → IsCalm old mid → IsCalm mid new → IsCalm old new
calm_then old mid new first second = record { faults = second.faults ∙ first.faults; damages = second.damages ∙ first.damages; spent = omega (arith, first.spent, second.spent) }

pub counts_then : {T E : Type 0} (old mid new : Shown) (result : Result T E) → IsCalm old mid → Counts mid new result → Counts old new result
counts_then old mid new (Ok x) first second = record {
  faults = omega (arith, first.faults, second.faults);
  damages = omega (arith, first.damages, second.damages);
  spent = omega (arith, first.spent, second.spent);
  calm = calm_then old mid new first second.calm;
}
counts_then old mid new (Err e) first second = record {
  faults = omega (arith, first.faults, second.faults);
  damages = omega (arith, first.damages, second.damages);
  spent = omega (arith, first.spent, second.spent);
  calm = tt;
}

-- the block of a pointer was damaged already
damage_later : (old mid new : Shown) (p : Pointer) (at want found : ℕ) → mid.held ≡ old.held → IsBlockDamage mid new p at want found → IsBlockDamage old new p at want found
damage_later old mid new p at want found held is =
    record { some = is.some; block = is.block; lies = subst (λ held. fin.get held p.vvbn ≡ Some is.block) held is.lies; fault = is.fault; read = is.read }

-- a tree over the same blocks fails for the same reason when the calls began earlier
pub fails_later : (told : Type 0) (t : Rooted) (old mid new : Shown) (e : BlockFault) → IsCalm old mid → mid.held ≡ old.held → Fails told t mid new e → Fails told t old new e
fails_later told t old mid new DiskFault calm held h = (rw (← calm.faults) h.0, h.1 ∙ calm.damages)
fails_later told t old mid new (Damaged at want found) calm held (faults, inl h) = (faults ∙ calm.faults, inl ((rw (← calm.damages) h.0.0, h.0.1), h.1))
fails_later told t old mid new (Damaged at want found) calm held (faults, inr (damages, is)) = (
  faults ∙ calm.faults,
  inr (
    damages ∙ calm.damages,
    λ tells. let h = is tells in record { level = h.level; place = h.place; low = h.low; high = h.high; unread = h.unread; damage = damage_later old mid new (pointer_at t h.level h.place) at want found held h.damage },
  ),
)
fails_later told t old mid new Memory calm held h = calm_then old mid new calm h

-- a tree that lies over a source fails after calls that left what is held as it was
pub fails_then : (told : Type 0) (t : Tree) (old mid new : Shown) (e : BlockFault) → IsCalm old mid → IsUntouched old mid → Fails told (standing (under mid) t) mid new e → Fails told (standing (under old) t) old new e
fails_then told t old mid new e calm untouched cause =
    fails_later told (standing (under old) t) old mid new e calm untouched.held (subst (λ held. Fails told (standing (λ v. fin.get held v) t) mid new e) untouched.held cause)

-- and hands that on
pub fails_on : {T : Type 0} (told : Type 0) (t : Tree) (old mid new : Shown) (result : Result T BlockFault) (e : BlockFault) → IsErrAnd result (λ fault. fault ≡ e) → IsCalm old mid → IsUntouched old mid → Fails told (standing (under mid) t) mid new e
    → IfErr result (Fails told (standing (under old) t) old new)
fails_on told t old mid new (Ok x) e is calm untouched cause = tt
fails_on told t old mid new (Err fault) e is calm untouched cause = subst (Fails told (standing (under old) t) old new) (sym is) (fails_then told t old mid new e calm untouched cause)

-- a cell whose pointer was found before wasn't read
pub pointed_fails : {T : Type 0} (told : Type 0) (old mid new : Shown) (t : Tree) (i : ℕ) (p : Pointer) (r : Result T BlockFault) → IsCalm old mid → mid.held ≡ old.held → (told → p ≡ pointer_at (standing (under old) t) 0 i)
    → (is_some (cell_in t i) ≡ true → OnErr r ⊥) → IfErr r (PointerFails told mid new p) → IfErr r (Fails told (standing (under old) t) old new)
pointed_fails told old mid new t i p r calm same pointer held cause =
    let at : under old ≡ under mid = ap (λ h v. fin.get h v) (sym same) in
    IfErr-weaker r (λ e. (is_some (cell_in t i) ≡ true → ⊥) × PointerFails told mid new p e) (Fails told (standing (under old) t) old new)
    (λ e q. fails_later told (standing (under old) t) old mid new e calm same (cell_fails told (standing (under old) t) mid new i p e at pointer q.0 q.1)) (err_unless (is_some (cell_in t i) ≡ true) (PointerFails told mid new p) r held cause)

-- or wasn't loaded, since it didn't change
pub read_fails : {T : Type 0} (told : Type 0) (old mid new : Shown) (t : Tree) (i : ℕ) (p : Pointer) (changed : Type 0) (r : Result T BlockFault) → IsCalm old mid → mid.held ≡ old.held → (told → p ≡ pointer_at (standing (under old) t) 0 i)
    → (told → (changed → ⊥) → p.stamp ≢ 0 → under mid p.vvbn ≡ None → is_some (cell_in t i) ≡ true → ⊥) → (changed → OnErr r ⊥) → IfErr r (PointerFails told mid new p) → IfErr r (Fails told (standing (under old) t) old new)
read_fails told old mid new t i p changed r calm same pointer fresh still cause =
    let at : under old ≡ under mid = ap (λ h v. fin.get h v) (sym same) in
    IfErr-weaker r (λ e. (changed → ⊥) × PointerFails told mid new p e) (Fails told (standing (under old) t) old new)
    (λ e q. fails_later told (standing (under old) t) old mid new e calm same (cell_read_fails told (standing (under old) t) mid new i p e at pointer (λ tells. fresh tells q.0) q.1)) (err_unless changed (PointerFails told mid new p) r still cause)

pub at_ok : {T E P : Type 0} (r : Result T E) → P → OnOk r P
at_ok (Ok x) p = p
at_ok (Err e) p = tt

pub at_err : {T E P : Type 0} (r : Result T E) → P → OnErr r P
at_err (Ok x) p = tt
at_err (Err e) p = p

-- a tree that is the same fails for the same reason
pub fails_same : (told : Type 0) (t u : Rooted) (old new : Shown) (e : BlockFault) → (told → IsSame t u) → Fails told u old new e → Fails told t old new e
fails_same told t u old new DiskFault same h = h
fails_same told t u old new (Damaged at want found) same (faults, inl h) = (
  faults,
  inl (
    h.0,
    λ tells. let was = h.1 tells in let alike = same tells in
        lacks_block t was.level was.place (omega (arith, was.high, alike.levels)) (same_unread t u alike was.level was.place (λ none. was.away.0 (ap (λ (p : Pointer). p.stamp) (alike.pointers was.level was.place) ∙ none)) was.unread)
        (pointer_at u was.level was.place) (alike.pointers was.level was.place) u.under (sym alike.under) was.away,
  ),
)
fails_same told t u old new (Damaged at want found) same (faults, inr (damages, is)) = (
  faults,
  inr (
    damages,
    λ tells. let h = is tells in let alike = same tells in record {
      level = h.level;
      place = h.place;
      low = h.low;
      high = omega (arith, h.high, alike.levels);
      unread = same_unread t u alike h.level h.place (λ none. h.damage.some (ap (λ (p : Pointer). p.stamp) (alike.pointers h.level h.place) ∙ none)) h.unread;
      damage = subst (λ p. IsBlockDamage old new p at want found) (alike.pointers h.level h.place) h.damage;
    },
  ),
)
fails_same told t u old new Memory same h = h
