-- What calls of a tree leave, one after another.
use Rattle.std.proofs.Common.{◌≡◌, ◌≢◌, ◌≤◌, ◌+◌, ℕ, Bool, refl, sym, ap, subst, ◌∙◌, arith, Result, Ok, Err}
use Rattle.std.specs.Ordering.{nat_cmp}
use Rattle.std.specs.Prelude.{IfErr, IsErrAnd}
use Rattle.std.specs.BTreeMap as maps
use Rattle.std.specs.FinMap as fin
use Rattle.std.proofs.lemmas.Result.{IfErr-weaker}
use Rattle.fv_codec.specs.declared.pointer.Pointer.{Pointer}
use Rattle.fv_disk.specs.declared.fault.BlockFault.{BlockFault}
use Rattle.fv_disk.specs.declared.fault.BlockFault.TheVariants.{DiskFault, Damaged, Memory}
use Rattle.fv_tree.specs.declared.kept.Tree.{Tree}
use Rattle.fv_tree.specs.declared.kept.KeptCell.{KeptCell}
use Rattle.fv_tree.specs.Sources.{Shown, Counts, HasCause, IsCalm, IsUntouched, WasFree}
use Rattle.fv_tree.specs.Standing.{standing, under, Fails, IsSameBut, cell_in, IsSameButCells}
use Rattle.fv_tree.specs.Releasing.{KeepsBlocks, Removes}
use Rattle.fv_tree.specs.Spelled.{pointer_at}
use Rattle.fv_tree.specs.Flushing.{loaded, IsPlaced, Stands}
use Rattle.fv_tree.specs.Keeping.{IsSame, Keeps}
use Rattle.fv_tree.specs.Carried.{Brings}
use Rattle.fv_tree.specs.Counting.{positions_of}
use Rattle.fv_tree.specs.Leading.{Carries}
use Rattle.fv_tree.specs.Readying.{KeepsReady}
use Rattle.fv_tree.specs.Costs.{cells_changed, cells_held, changes_in, pending, Rises, IsEnough}
use Rattle.fv_tree.specs.Calls.{PlacesChanged, Loading, LoadsFrom, PlacesOne, Removing, Steady, SteadyHeld}
use Rattle.fv_tree.proofs.Altered.{leaves_brought, leaves_itself, leaves_then}
use Rattle.fv_tree.proofs.Anew.{anew_itself, anew_on, anew_still, left_then}
use Rattle.fv_tree.proofs.Bordered.{brings_marks}
use Rattle.fv_tree.proofs.Brought.{brings_stands}
use Rattle.fv_tree.proofs.Causes.{at_ok, calm_itself, calm_then, counts_then, fails_later, fails_same, fails_then, untouched_itself, untouched_then}
use Rattle.fv_tree.proofs.Differing.{fits_itself, fits_still, fits_then}
use Rattle.fv_tree.proofs.Flushes.{flushes_then}
use Rattle.fv_tree.proofs.Gone.{flushes_still, is_memory}
use Rattle.fv_tree.proofs.Held.{but_then, same_self}
use Rattle.fv_tree.proofs.KeptUnder.{keeps_then as stays_then}
use Rattle.fv_tree.proofs.Leading.{carries_same, carries_then, carries_cells, carries_untouched}
use Rattle.fv_tree.proofs.Released.{keeps_brought, keeps_self, keeps_then}
use Rattle.fv_tree.proofs.StillReady.{ready_then, cells_same}
use Rattle.fv_tree.proofs.Stored.{stored_on, tells_on}
use Rattle.fv_tree.proofs.Ways.{keeps_same, same_then}

-- ---- counts and causes

-- nothing was called
pub counts_itself : {T : Type 0} (a : Shown) (result : Result T BlockFault) → Counts a a result
counts_itself a result = record { faults = omega arith; damages = omega arith; spent = omega arith; calm = at_ok result (calm_itself a) }

pub counts_calm : {T : Type 0} (a b : Shown) (result : Result T BlockFault) → IsCalm a b → Counts a b result
counts_calm a b result calm = record { faults = omega (arith, calm.faults); damages = omega (arith, calm.damages); spent = calm.spent; calm = at_ok result calm }

-- another result of the same sort
pub counts_err : {T U : Type 0} {a b : Shown} {e : BlockFault} → Counts {T = T} {E = BlockFault} a b (Err e) → Counts {T = U} {E = BlockFault} a b (Err e)
counts_err did = record { faults = did.faults; damages = did.damages; spent = did.spent; calm = tt }

-- want of memory comes where no call failed
pub memory_fails : {T : Type 0} (told : Type 0) (t : Tree) (a b : Shown) (result : Result T BlockFault) → IsCalm a b → IfErr result (λ e. e ≡ Memory) → IfErr result (Fails told (standing (under a) t) a b)
memory_fails told t a b result calm memory = IfErr-weaker result (λ e. e ≡ Memory) (Fails told (standing (under a) t) a b) (λ e is. subst (Fails told (standing (under a) t) a b) (sym is) calm) memory

-- a source fails for the same reason when the calls began earlier
later_one : (old mid new : Shown) (e : BlockFault) → IsCalm old mid → HasCause mid new e → HasCause old new e
later_one old mid new DiskFault calm (rose, damages) = (rw (← calm.faults) rose, damages ∙ calm.damages)
later_one old mid new (Damaged at want found) calm (faults, was) = (faults ∙ calm.faults, (rw (← calm.damages) was.0, was.1))
later_one old mid new Memory calm h = calm_then old mid new calm h

pub later_cause : {T : Type 0} (old mid new : Shown) (result : Result T BlockFault) → IsCalm old mid → IfErr result (HasCause mid new) → IfErr result (HasCause old new)
later_cause old mid new result calm cause = IfErr-weaker result (HasCause mid new) (HasCause old new) (λ e. later_one old mid new e calm) cause

-- ---- calls that hold nodes

-- none was brought
pub loading_none : {T : Type 0} (told : Type 0) {reading : Type 0} (a : Shown) (t : Tree) (result : Result T BlockFault) → reading → IfErr result (λ e. e ≡ Memory) → Loading told reading a a t t result
loading_none told a t result reads memory = record {
  fields = record { owner = refl; levels = refl; root = refl; cells = refl };
  same = λ _. same_self (standing (under a) t);
  blocks = λ _. keeps_self (under a) t;
  leaves = λ _. leaves_itself (loaded a t);
  stands = λ _ stands. stands;
  changes = omega arith;
  marks = λ _ level place changed. changed;
  untouched = untouched_itself a;
  reads = reads;
  counts = counts_itself a result;
  cause = memory_fails told t a a result (calm_itself a) memory;
}

-- what a source was left as, for another result
pub loads_ok : {T U : Type 0} {reading : Type 0} {fails : BlockFault → Type 0} {a b : Shown} {x : T} (y : U) → LoadsFrom reading fails a b (Ok x) → LoadsFrom reading (λ _. Unit {0}) a b (Ok y)
loads_ok {a = a} {b = b} y did = record { untouched = did.untouched; reads = did.reads; counts = counts_calm a b (Ok y) did.counts.calm; cause = tt }

pub loads_err : {T U : Type 0} {reading : Type 0} {fails : BlockFault → Type 0} {a b : Shown} {e : BlockFault} → LoadsFrom {T = T} reading fails a b (Err e) → LoadsFrom {T = U} reading (λ _. Unit {0}) a b (Err e)
loads_err did = record { untouched = did.untouched; reads = did.reads; counts = counts_err did.counts; cause = tt }

-- a load failed after others, and its fault was handed on
pub loads_on : {T U : Type 0} {reading : Type 0} (told : Type 0) (t : Tree) (old mid new : Shown) (result : Result T BlockFault) (e : BlockFault) → IsErrAnd result (λ fault. fault ≡ e) → IsUntouched old mid → IsCalm old mid → reading → IsUntouched mid new
    → Counts {T = U} mid new (Err e) → Fails told (standing (under mid) t) mid new e → LoadsFrom reading (Fails told (standing (under old) t) old new) old new result
loads_on told t old mid new (Ok x) e is was calm reads untouched counts cause = absurd is
loads_on {T = T} {reading = reading} told t old mid new (Err fault) e is was calm reads untouched counts cause = subst (λ y. LoadsFrom {T = T} reading (Fails told (standing (under old) t) old new) old new (Err y)) (sym is)
    (record { untouched = untouched_then old mid new was untouched; reads = reads; counts = counts_then old mid new (Err e) calm (counts_err counts); cause = fails_then told t old mid new e calm was cause })

-- the node to which this pointer leads was brought
pub loading_brought : {T : Type 0} (told reading : Type 0) (a b : Shown) (t u : Tree) (level place : ℕ) (p : Pointer) (result : Result T BlockFault) → 1 ≤ level → (told → pointer_at (standing (under a) t) level place ≡ p)
    → (told → Keeps (standing (under a) t) (standing (under b) u) level place p) → (told → Brings (under a) t u level place p) → IsSameBut t u → changes_in u.nodes ≤ changes_in t.nodes
    → LoadsFrom reading (λ _. Unit {0}) a b result → IfErr result (Fails told (standing (under a) t) a b) → Loading told reading a b t u result
loading_brought told reading a b t u level place p result low at keeps brings fields changes loads cause = record {
  fields = fields;
  same = same;
  blocks = λ tells. keeps_brought (under a) (under b) t u level place p held (same tells) (at tells) fields (brings tells);
  leaves = λ tells. leaves_brought (under a) (under b) t u level place p (same tells) (at tells) fields (brings tells);
  stands = λ tells stands.
      brings_stands a b t u level place low loads.untouched.held loads.untouched.used fields (same tells) (subst (Brings (under a) t u level place) (sym (at tells)) (brings tells)) stands;
  marks = λ tells. brings_marks (under a) t u level place p (brings tells);
  changes = changes;
  untouched = loads.untouched;
  reads = loads.reads;
  counts = loads.counts;
  cause = cause;
}
  where
    held : under b ≡ under a
    held = ap (λ h v. fin.get h v) loads.untouched.held

    same : told → IsSame (standing (under a) t) (standing (under b) u)
    same tells = keeps_same (standing (under a) t) (standing (under b) u) level place (subst (Keeps (standing (under a) t) (standing (under b) u) level place) (sym (at tells)) (keeps tells))

-- for another result
loading_as : {T U : Type 0} {told reading : Type 0} {a b : Shown} {t u : Tree} {r : Result T BlockFault} (result : Result U BlockFault) → Loading told reading a b t u r → Counts a b result → IfErr result (Fails told (standing (under a) t) a b) → Loading told reading a b t u result
loading_as result did counts cause = record { fields = did.fields; same = did.same; blocks = did.blocks; leaves = did.leaves; stands = did.stands; changes = did.changes; marks = did.marks; untouched = did.untouched; reads = did.reads; counts = counts; cause = cause }

pub loading_ok : {T U : Type 0} {told reading : Type 0} {a b : Shown} {t u : Tree} {x : T} (y : U) → Loading told reading a b t u (Ok x) → Loading told reading a b t u (Ok y)
loading_ok {a = a} {b = b} y did = loading_as (Ok y) did (counts_calm a b (Ok y) did.counts.calm) tt

pub loading_err : {T U : Type 0} {told reading : Type 0} {a b : Shown} {t u : Tree} {e : BlockFault} → Loading {T = T} told reading a b t u (Err e) → Loading {T = U} told reading a b t u (Err e)
loading_err {e = e} did = loading_as (Err e) did (counts_err did.counts) did.cause

pub loading_then : {T U : Type 0} {told first second both : Type 0} {a b d : Shown} {t v u : Tree} {x : T} {result : Result U BlockFault} → (first → second → both)
    → Loading told first a b t v (Ok x) → Loading told second b d v u result → Loading told both a d t u result
loading_then {told = told} {a = a} {b = b} {d = d} {t = t} {v = v} {u = u} {result = result} on was now = record {
  fields = but_then t v u was.fields now.fields;
  same = λ tells. same_then (standing (under a) t) (standing (under b) v) (standing (under d) u) (was.same tells) (now.same tells);
  blocks = λ tells. keeps_then (under a) t v u (was.blocks tells) (subst (λ n. KeepsBlocks n v u) (ap (λ h w. fin.get h w) was.untouched.held) (now.blocks tells));
  leaves = λ tells. leaves_then (loaded a t) (loaded b v) (loaded d u) (was.leaves tells) (now.leaves tells);
  stands = λ tells stands. now.stands tells (was.stands tells stands);
  changes = omega (arith, was.changes, now.changes);
  marks = λ tells level place changed. was.marks tells level place (now.marks tells level place changed);
  untouched = untouched_then a b d was.untouched now.untouched;
  reads = on was.reads now.reads;
  counts = counts_then a b d result was.counts.calm now.counts;
  cause = IfErr-weaker result (Fails told (standing (under b) v) b d) (Fails told (standing (under a) t) a d)
      (λ e fails. fails_later told (standing (under a) t) a b d e was.counts.calm was.untouched.held (fails_same told (standing (under a) t) (standing (under b) v) b d e was.same fails)) now.cause;
}

-- ---- calls that change what is in memory

pub steady_from : {T : Type 0} (told reading : Type 0) (a b : Shown) (t u : Tree) (more brought : ℕ) (result : Result T BlockFault) → u.owner ≡ t.owner → (told → Carries a b t u) → KeepsReady t u → Rises t u more brought → IsUntouched a b → reading → Counts a b result
    → IfErr result (Fails told (standing (under a) t) a b) → Steady told reading a b t u more brought result
steady_from told reading a b t u more brought result owner carries ready rises untouched reads counts cause = record {
  owner = owner;
  stands = λ tells. (carries tells).stands;
  leads = λ tells. (carries tells).leads;
  keeps = λ tells. (carries tells).keeps;
  hints = λ tells. (carries tells).hints;
  stored_well = λ tells. stored_on (loaded a t) (loaded b u) owner (ap (λ h v. fin.get h v) untouched.held) (carries tells).leads;
  tells = λ tells. tells_on (loaded a t) (loaded b u) (carries tells).leads (carries tells).hints;
  keeps_ready = ready;
  rises = rises;
  untouched = untouched;
  reads = reads;
  counts = counts;
  cause = cause;
}

-- nothing but nodes came into memory, and no more of them differs
pub rises_but : (t u : Tree) (more brought : ℕ) → IsSameBut t u → changes_in u.nodes ≤ changes_in t.nodes → Rises t u more brought
rises_but t u more brought fields changes =
    let cells = ap cells_changed fields.cells in
    let held : cells_held u ≡ cells_held t = ap (λ (m : maps.BTreeMap ℕ KeptCell). maps.btree_map_len m) fields.cells in record {
      pending = omega (arith, cells, changes);
      cells = omega (arith, held);
    }

-- so does a call that holds nodes
pub steady_loaded : {T : Type 0} {told reading : Type 0} {a b : Shown} {t u : Tree} {result : Result T BlockFault} (more brought : ℕ) → Loading told reading a b t u result → KeepsReady t u → Steady told reading a b t u more brought result
steady_loaded {told = told} {reading = reading} {a = a} {b = b} {t = t} {u = u} {result = result} more brought did ready =
    steady_from told reading a b t u more brought result did.fields.owner (λ tells. carries_same a b t u did.untouched (did.same tells) (did.blocks tells) (did.stands tells)) ready (rises_but t u more brought did.fields did.changes) did.untouched did.reads did.counts did.cause

-- and then a call that isn't lent a source, and fails only for want of memory
pub steady_on : {T U : Type 0} {told reading : Type 0} {a b : Shown} {t v : Tree} {x : T} (u : Tree) (more brought : ℕ) (result : Result U BlockFault) → Steady told reading a b t v 0 0 (Ok x) → u.owner ≡ v.owner → (told → Carries b b v u) → KeepsReady v u
    → Rises v u more brought → IfErr result (λ e. e ≡ Memory) → Steady told reading a b t u more brought result
steady_on {told = told} {reading = reading} {a = a} {b = b} {t = t} {v = v} u more brought result did owner carries ready rises memory =
    let first = did.rises in
    steady_from told reading a b t u more brought result (owner ∙ did.owner)
    (λ tells. carries_then a b b t v u (record { stands = did.stands tells; leads = did.leads tells; keeps = did.keeps tells; hints = did.hints tells }) (carries tells)) (ready_then t v u did.keeps_ready ready)
    (record { pending = omega (arith, first.pending, rises.pending); cells = omega (arith, first.cells, rises.cells) }) did.untouched did.reads (counts_calm a b result did.counts.calm) (memory_fails told t a b result did.counts.calm memory)

-- and then a call that left what is held as it was
pub steady_read : {T U : Type 0} {told first : Type 0} {a b : Shown} {t v : Tree} {x : T} (reading : Type 0) (d : Shown) (y : U) → Steady told first a b t v 0 0 (Ok x) → IsUntouched b d → IsCalm b d → reading → Steady told reading a d t v 0 0 (Ok y)
steady_read {told = told} {a = a} {b = b} {t = t} {v = v} reading d y did untouched calm reads =
    steady_from told reading a d t v 0 0 (Ok y) did.owner
    (λ tells. carries_then a b d t v v (record { stands = did.stands tells; leads = did.leads tells; keeps = did.keeps tells; hints = did.hints tells }) (carries_untouched b d v untouched))
    did.keeps_ready did.rises (untouched_then a b d did.untouched untouched) reads (counts_calm a d (Ok y) (calm_then a b d did.counts.calm calm)) tt

-- there was no memory for a cell
pub steady_uncelled : {T U : Type 0} {told reading : Type 0} {a b : Shown} {t v : Tree} {x : T} (u : Tree) (more : ℕ) (result : Result U BlockFault) → Steady told reading a b t v 0 0 (Ok x) → IsSameButCells v u
    → ((i : ℕ) → maps.get nat_cmp u.cells i ≡ maps.get nat_cmp v.cells i) → ((i : ℕ) → cell_in u i ≡ cell_in v i) → cells_changed u.cells ≤ cells_changed v.cells → cells_held u ≤ cells_held v + 1
    → IfErr result (λ e. e ≡ Memory) → Steady told reading a b t u more 1 result
steady_uncelled {b = b} {v = v} u more result did fields same failed still held memory =
    let nodes = ap changes_in fields.nodes in
    steady_on u more 1 result did fields.owner (λ _. carries_cells b v u fields same) (cells_same v u fields failed) (record { pending = omega (arith, nodes, still); cells = held }) memory

pub steady_held : {T : Type 0} (told : Type 0) {reading : Type 0} (a : Shown) {t u : Tree} {more brought : ℕ} (result : Result T BlockFault) → SteadyHeld t u more brought → reading → IfErr result (λ e. e ≡ Memory) → Steady told reading a a t u more brought result
steady_held told {reading = reading} a {t = t} {u = u} {more = more} {brought = brought} result did reads memory =
    steady_from told reading a a t u more brought result did.owner (λ _. record { stands = did.stands (under a) a.used; leads = did.leads (under a); keeps = did.keeps (under a); hints = did.hints (under a) }) did.keeps_ready did.rises
    (untouched_itself a) reads (counts_itself a result) (memory_fails told t a a result (calm_itself a) memory)

-- ---- removals

-- the nodes weren't all held, and no cell went
pub removing_err : {T : Type 0} {told reading going : Type 0} {a b : Shown} {t u : Tree} {e : BlockFault} (gone : ℕ → Bool) (start s : ℕ) → Loading {T = T} told reading a b t u (Err e) → (reading → going) → Removing told going a b t u gone start s (Err e)
removing_err {a = a} {b = b} {t = t} {u = u} gone start s did on = let rises = rises_but t u 0 0 did.fields did.changes in record {
  done = λ _. tt;
  count = λ _. tt;
  failed = did.same;
  owner = did.fields.owner;
  stays = λ tells. carries_same a b t u did.untouched (did.same tells) (did.blocks tells) (did.stands tells);
  leaves = did.leaves;
  untouched = did.untouched;
  room = omega (arith, did.untouched.room);
  still = omega (arith, rises.pending);
  held = omega (arith, rises.cells);
  calls = on did.reads;
  counts = counts_err did.counts;
  cause = did.cause;
}

pub removing_done : {told going : Type 0} {a b : Shown} {t u : Tree} {gone : ℕ → Bool} {start s : ℕ} (count : ℕ) → (told → Removes a b t u gone start s) → (told → positions_of (standing (under a) t) ≡ positions_of (standing (under a) u) + count)
    → u.owner ≡ t.owner → a.room ≤ b.room → cells_held u ≤ cells_held t → going → IsCalm a b → Removing told going a b t u gone start s (Ok count)
removing_done {a = a} {b = b} count done counted owner room held calls calm = record { done = done; count = counted; failed = λ _. tt; owner = owner; stays = λ _. tt; leaves = λ _. tt; untouched = tt; room = room; still = tt; held = held; calls = calls; counts = counts_calm a b (Ok count) calm; cause = tt }

-- ---- flushes

-- no block was placed
pub one_none : {T : Type 0} (told known : Type 0) {going : Type 0} (a : Shown) (x : T) → going → PlacesOne told known going a a (Ok x)
one_none told known a x calls = record { places = λ _ has. has; room = omega arith; enough = λ _ _. tt; spent = refl; untouched = tt; calls = calls; counts = counts_itself a (Ok x); cause = tt }

pub one_ok : {T U : Type 0} {told known going : Type 0} {a b : Shown} {x : T} (y : U) → PlacesOne told known going a b (Ok x) → PlacesOne told known going a b (Ok y)
one_ok {a = a} {b = b} y did =
    record { places = did.places; room = did.room; enough = λ _ _. tt; spent = did.spent; untouched = tt; calls = did.calls; counts = counts_calm a b (Ok y) did.counts.calm; cause = tt }

pub one_err : {T U : Type 0} {told known going : Type 0} {a b : Shown} {e : BlockFault} → PlacesOne {T = T} told known going a b (Err e) → PlacesOne {T = U} told known going a b (Err e)
one_err did =
    record { places = did.places; room = tt; enough = did.enough; spent = did.spent; untouched = did.untouched; calls = did.calls; counts = counts_err did.counts; cause = did.cause }

module _ {B : Type 0} {hides : Bool} {told known : Type 0} {shown : B → Shown} {goes : B → B → Type 0} {stays : ℕ → B → B → Type 0} where
  -- nothing was placed
  pub flushes_none : {T : Type 0} (b : B) (t : Tree) (x : T) → goes b b → ((v : ℕ) → stays v b b) → PlacesChanged hides told known shown goes stays b b t t (Ok x)
  flushes_none b t x calls keeps = record {
    flushes = λ _ stands. flushes_still (shown b) (shown b) t t refl refl refl stands;
    anew = λ _ _. anew_itself (loaded (shown b) t) (WasFree shown goes b b);
    keeps = λ _ _ v _. keeps v;
    strays = λ _ _. refl;
    fits = λ _ _. fits_itself (shown b) t;
    enough = λ _ _ _. tt;
    left = record { owner = refl; levels = refl; root = λ _. refl; cells = omega arith };
    spent = refl;
    places = λ _ has. has;
    calls = calls;
    counts = counts_itself (shown b) (Ok x);
    cause = tt;
  }

  -- a block wasn't placed
  pub flushes_failed : {T : Type 0} {old new : B} {t u : Tree} {e : BlockFault} → PlacesOne {T = T} told known (goes old new) (shown old) (shown new) (Err e) → u ≡ t
      → (told → Stands (shown old) t → (v : ℕ) → (IsPlaced (loaded (shown old) t) (loaded (shown new) u) v → ⊥) → stays v old new) → pending t ≢ 0 → PlacesChanged {T = T} hides told known shown goes stays old new t u (Err e)
  flushes_failed {old = old} {new = new} {t = t} {u = u} did same keeps some = record {
    flushes = λ _ stands. flushes_still (shown old) (shown new) t u did.untouched.held did.untouched.used same stands;
    anew = λ _ _. anew_still (shown old) (shown new) t u (WasFree shown goes old new) did.untouched.held same;
    keeps = keeps;
    strays = λ _ _. did.untouched.strays;
    fits = λ _ _. fits_still (shown old) (shown new) t u same did.untouched.room;
    enough = λ tells _ le. did.enough tells (λ none. some (omega (arith, le, none)));
    left = record { owner = ap (λ (w : Tree). w.owner) same; levels = ap (λ (w : Tree). w.levels) same; root = λ _. ap (λ (w : Tree). w.root) same; cells = (let held : cells_held u ≡ cells_held t = ap cells_held same in omega (arith, held)) };
    spent = did.spent;
    places = did.places;
    calls = did.calls;
    counts = did.counts;
    cause = did.cause;
  }

  -- for another result
  flushes_as : {T U : Type 0} {old new : B} {t u : Tree} {r : Result T BlockFault} (result : Result U BlockFault) → PlacesChanged hides told known shown goes stays old new t u r → (told → Stands (shown old) t → IsEnough (pending t) (shown old).room result)
      → Counts (shown old) (shown new) result → IfErr result (HasCause (shown old) (shown new)) → PlacesChanged hides told known shown goes stays old new t u result
  flushes_as result did enough counts cause = record { flushes = did.flushes; anew = did.anew; keeps = did.keeps; strays = did.strays; fits = did.fits; enough = enough; left = did.left; spent = did.spent; places = did.places; calls = did.calls; counts = counts; cause = cause }

  pub flushes_ok : {T U : Type 0} {old new : B} {t u : Tree} {x : T} (y : U) → PlacesChanged hides told known shown goes stays old new t u (Ok x) → PlacesChanged hides told known shown goes stays old new t u (Ok y)
  flushes_ok {old = old} {new = new} y did = flushes_as (Ok y) did (λ _ _ _. tt) (counts_calm (shown old) (shown new) (Ok y) did.counts.calm) tt

  pub flushes_err : {T U : Type 0} {old new : B} {t u : Tree} {e : BlockFault} → PlacesChanged {T = T} hides told known shown goes stays old new t u (Err e) → PlacesChanged {T = U} hides told known shown goes stays old new t u (Err e)
  flushes_err {e = e} did = flushes_as (Err e) did did.enough (counts_err did.counts) did.cause

  pub flushes_failing : {T U : Type 0} {old new : B} {t u : Tree} {e : BlockFault} (result : Result U BlockFault) → IsErrAnd result (λ fault. fault ≡ e) → PlacesChanged {T = T} hides told known shown goes stays old new t u (Err e) → PlacesChanged hides told known shown goes stays old new t u result
  flushes_failing (Ok y) is did = absurd is
  flushes_failing {U = U} {old = old} {new = new} {t = t} {u = u} (Err fault) is did = subst (λ e. PlacesChanged {T = U} hides told known shown goes stays old new t u (Err e)) (sym is) (flushes_err did)

  pub flushes_on : {T U : Type 0} {old mid new : B} {t v u : Tree} {x : T} {result : Result U BlockFault} → ((old mid new : B) → goes old mid → goes mid new → goes old new) → ((w : ℕ) (old mid new : B) → stays w old mid → stays w mid new → stays w old new)
      → PlacesChanged hides told known shown goes stays old mid t v (Ok x) → PlacesChanged hides told known shown goes stays mid new v u result → PlacesChanged hides told known shown goes stays old new t u result
  flushes_on {old = old} {mid = mid} {new = new} {t = t} {v = v} {u = u} {result = result} goes_on stays_on was now = record {
    flushes = λ tells stands. let first = was.flushes tells stands in
        flushes_then (loaded (shown old) t) (loaded (shown mid) v) (loaded (shown new) u) (shown old).used (shown mid).used (shown new).used (is_memory (shown mid) v) first (now.flushes tells first.sound);
    anew = λ tells stands.
        anew_on shown goes goes_on old mid new (loaded (shown old) t) (loaded (shown mid) v) (loaded (shown new) u) was.calls now.calls (was.anew tells stands) (now.anew tells (was.flushes tells stands).sound);
    keeps = λ tells stands. let first = was.flushes tells stands in
        stays_then (loaded (shown old) t) (loaded (shown mid) v) (loaded (shown new) u) (shown old).used (shown mid).used (shown new).used (is_memory (shown mid) v) first (now.flushes tells first.sound) (λ w. stays w old mid) (λ w. stays w mid new) (λ w. stays w old new)
        (λ w. stays_on w old mid new) (was.keeps tells stands) (now.keeps tells first.sound);
    strays = λ tells stands. now.strays tells (was.flushes tells stands).sound ∙ was.strays tells stands;
    fits = λ tells stands. fits_then (shown old) (shown mid) (shown new) t v u (was.fits tells stands) (now.fits tells (was.flushes tells stands).sound);
    enough = λ tells stands le. let fits = was.fits tells stands in now.enough tells (was.flushes tells stands).sound (omega (arith, le, fits.room));
    left = left_then t v u was.left now.left;
    spent = now.spent ∙ was.spent;
    places = λ known has. now.places known (was.places known has);
    calls = goes_on old mid new was.calls now.calls;
    counts = counts_then (shown old) (shown mid) (shown new) result was.counts.calm now.counts;
    cause = later_cause (shown old) (shown mid) (shown new) result was.counts.calm now.cause;
  }
