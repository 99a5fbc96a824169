-- A volume that is removed: the blocks that it gives back, and what the machine says of it.
use Rattle.std.proofs.Common.{◌≡◌, inl, inr, ⊎_elim, ℕ, ◌+◌, ◌<◌, ◌≤◌, Bool, true, false, not, ◌&&◌, ◌||◌, cond, List, [], ◌∷◌, length, Option, Some, None, true≢false, refl, sym, ap, subst, ◌∙◌, arith}
use Rattle.std.specs.Prelude.{Result, Ok, Err, IfSome, ◌==◌}
use Rattle.std.specs.Option.{is_none}
use Rattle.std.specs.FinMap as fin
use Rattle.std.specs.Ordering.{nat_cmp, eq_by_cmp}
use Rattle.std.specs.Cmp.{nat_cmp_total}
use Rattle.std.proofs.Math.Seq.{take-length}
use Rattle.std.proofs.lemmas.Bool.{cases_lt}
use Rattle.std.proofs.Math.Bool.{or_comm}
use Rattle.std.proofs.lemmas.Bool.Decides.{nat_tests}
use Rattle.fv_bits.specs.Members.{is_member}
use Rattle.fv_model.specs.declared.answers.Refusal.{Refusal}
use Rattle.fv_model.specs.declared.answers.Refusal.TheVariants.{NoVolume, VolumeInUse}
use Rattle.fv_model.specs.declared.commands.Command.TheVariants.{VolDestroy}
use Rattle.fv_model.specs.Machines.{Machine}
use Rattle.fv_model.specs.Refusals.{conditions, first_of, is_parent, refusal}
use Rattle.fv_model.specs.Volumes.{Volume}
use Rattle.fv_laws.proofs.Changes.{same_name}
use Rattle.fv_root.specs.Formatted.{IsSize}
use Rattle.fv_aggmap.specs.Space.{Space, blocks_of}
use Rattle.fv_aggmap.specs.Freeing.{room_of}
use Rattle.fv_aggmap.proofs.FreeRoom.{free_counted}
use Rattle.fv_container.specs.Chains.{Slots, container_at, slot_count, with_container, with_parent}
use Rattle.fv_container.specs.Mapped.{Mapped}
use Rattle.fv_container.specs.Spelled.{is_at, names}
use Rattle.fv_container.specs.Written.{HasReleased}
use Rattle.fv_image.specs.Views.{entry_count}
use Rattle.fv_copies.proofs.Marking.{below_more, marked_below}
use Rattle.fv_pool.specs.declared.pool.Pool.{Pool}
use Rattle.fv_disk.specs.Shown.{Shown as Disk}
use Rattle.fv_disk.specs.declared.fault.BlockFault.{BlockFault}
use Rattle.fv_disk.specs.declared.fault.BlockFault.TheVariants.{DiskFault, Damaged, Memory}
use Rattle.fv_pool.specs.declared.fault.VolumeFault.{VolumeFault}
use Rattle.fv_pool.specs.declared.fault.VolumeFault.TheVariants.{Refused}
use Rattle.fv_pool.specs.BlocksOver.{IsHoldFault, LeavesPool, TellsEntries}
use Rattle.fv_disk.specs.Faults.{HasBlockCause}
use Rattle.fv_pool.specs.Causes.{HasVolumeCause, of_block}
use Rattle.fv_delay.specs.Reclaims.{HasGivenSome}
use Rattle.fv_volume.specs.declared.state.VolumeState.{VolumeState}
use Rattle.fv_volume.specs.Calls.{Has}
use Rattle.fv_volumes.specs.Destroying.{Destroys, EmptiesAt, GivesBackAt, HasForgotten, HasForgottenSome, IsDestroyFault, IsSaid, MarksAt}
use Rattle.fv_volumes.specs.Housed.{AreHoused}
use Rattle.fv_pool.specs.Keeping.{Blocks}
use Rattle.fv_volume.specs.Loading.{Houses}
use Rattle.fv_volume.specs.OneVolume.{volume_as, Content}
use Rattle.fv_volume.specs.Files.{AreNamed}
use Rattle.fv_volume.specs.Promising.{HasVolumes}
use Rattle.fv_volume.specs.Slots.{is_named, HasName, NoneHasName}
use Rattle.fv_volume.specs.States.{States, state_at, with_state}
use Rattle.fv_volume.specs.Stored.{is_of, leads}
use Rattle.fv_volume.specs.Writing.{HasGiven}
use Rattle.fv_volumes.specs.Footing.{is_stood_on, AreFooted}
use Rattle.fv_volumes.proofs.Drawing.{given_then, leads_where, not_so}
use Rattle.fv_volumes.proofs.StoodOn.{parent_by}

-- ---- kept blocks

pub forgotten_one : (old new : Blocks) (place : ℕ) → new ≡ fin.remove old place → HasForgotten old (λ b. b == place) new
forgotten_one old new place is b =
    ap (λ (m : Blocks). fin.get m b) is ∙ fin.get-remove nat_cmp_total old place b ∙ ap (λ (t : Bool). cond t None (fin.get old b)) (same b place)
  where
    same : (b place : ℕ) → eq_by_cmp nat_cmp b place ≡ (b == place)
    same b place = grind (arith, nat_tests)

pub forgotten_then : (old mid new : Blocks) (f g both : ℕ → Bool) → ((b : ℕ) → both b ≡ (f b || g b)) → HasForgotten old f mid → HasForgotten mid g new → HasForgotten old both new
forgotten_then old mid new f g both same first second b = second b ∙ ap (λ (o : Option (List ℕ)). cond (g b) None o) (first b) ∙ joined (f b) (g b) (fin.get old b) ∙ ap (λ (t : Bool). cond t None (fin.get old b)) (sym (same b))
  where
    joined : (s t : Bool) (o : Option (List ℕ)) → cond t None (cond s None o) ≡ cond (s || t) None o
    joined true true o = refl
    joined true false o = refl
    joined false t o = refl

pub forgotten_start : (kept : Blocks) (gone : ℕ → Bool) → ((b : ℕ) → gone b ≡ false) → HasForgotten kept gone kept
forgotten_start kept gone none b = ap (λ (t : Bool). cond t None (fin.get kept b)) (sym (none b))

pub volume_forgotten : (x : VolumeState) (map : Mapped) (count : ℕ) (old new : Blocks) → count ≡ entry_count x.span → HasForgotten old (leads map count) new → HasForgotten old (leads map (entry_count x.span)) new
volume_forgotten x map count old new same = subst (λ (n : ℕ). HasForgotten old (leads map n) new) same

-- ---- marks

-- it is forgotten, as the first places that are marked were
pub marked_forgotten : (marks : List Bool) (n : ℕ) (old mid new : Blocks) → is_member marks n ≡ true → HasForgotten old (marked_below marks n) mid → new ≡ fin.remove mid n → HasForgotten old (marked_below marks (n + 1)) new
marked_forgotten marks n old mid new on before gone =
    forgotten_then old mid new (marked_below marks n) (λ b. b == n) (marked_below marks (n + 1)) (λ b. below_more marks n b on) before (forgotten_one mid new n gone)

-- by another test
pub forgotten_same : (old new : Blocks) (f g : ℕ → Bool) → ((b : ℕ) → g b ≡ f b) → HasForgotten old f new → HasForgotten old g new
forgotten_same old new f g same is b = is b ∙ ap (λ (t : Bool). cond t None (fin.get old b)) (sym (same b))

-- no entry leads to 0
pub leads_nowhere : (map : Mapped) (n : ℕ) → leads map n 0 ≡ false
leads_nowhere map n = not_so (leads map n 0) (λ is. (leads_where map n 0 is).some refl)

-- ---- blocks

-- the nodes of a tree that was released are given back
pub nodes_given : (old new : Space) (tree : List ℕ) → IsSize (blocks_of old) → HasReleased (room_of old) tree (length tree) (room_of new) → HasGiven old (names tree) new
nodes_given old new tree size is =
    let before = free_counted old size in
    let after = free_counted new (subst IsSize (sym (ap (λ (c : List Bool). length c) is.committed)) size) in
    let more = is.grows in
    record {
      committed = is.committed;
      held = λ b. is.held b ∙ ap (λ (t : List ℕ). not (names t b) && is_member old.next b) (take-length tree) ∙ turned (names tree b) (is_member old.next b);
      count = omega (arith, before, after, more);
    }
  where
    turned : (s t : Bool) → (not s && t) ≡ (t && not s)
    turned true true = refl
    turned true false = refl
    turned false true = refl
    turned false false = refl

-- entries, nodes and label are all that a volume has
pub volume_given : (x : VolumeState) (map : Mapped) (count : ℕ) (old mid later new : Space) → count ≡ entry_count x.span → HasGiven old (leads map count) mid → HasGiven mid (names map.tree) later → HasGiven later (λ b. is_at b x.label) new
    → HasGiven old (is_of x x.label map) new
volume_given x map count old mid later new same entries nodes label =
    given_then old later new (λ b. leads map count b || names map.tree b) (λ b. is_at b x.label) (is_of x x.label map)
    (λ b. ap (λ (n : ℕ). is_at b x.label || (names map.tree b || leads map n b)) (sym same) ∙ turned (is_at b x.label) (names map.tree b) (leads map count b))
    (given_then old mid later (leads map count) (names map.tree) (λ b. leads map count b || names map.tree b) (λ b. refl) entries nodes) label
  where
    turned : (s t u : Bool) → (s || (t || u)) ≡ ((u || t) || s)
    turned s t u = or_comm s (t || u) ∙ ap (λ b. b || s) (or_comm t u)

-- ---- the slot

pub emptied : (marks : List Bool) (old : States) (pool : Pool) (slot : ℕ) (o : Option VolumeState) (c : Option Mapped) (mid : Pool) (new : States) (containers : Slots) → GivesBackAt marks pool o c mid → new ≡ with_state old slot None
    → containers ≡ with_parent (with_container mid.containers slot None) slot None → EmptiesAt marks old pool slot o c new (record mid { containers = containers })
emptied marks old pool slot None c mid new containers gives row removed = tt
emptied marks old pool slot (Some x) None mid new containers gives row removed = tt
emptied marks old pool slot (Some x) (Some map) mid new containers gives row removed = record {
  row = row;
  containers = removed ∙ ap (λ (p : Pool). with_parent (with_container p.containers slot None) slot None) gives.same;
  some = gives.some;
  given = gives.given;
  kept = gives.kept;
  fewer = gives.fewer;
  found = ap (λ (p : Pool). p.found) gives.same;
  version = ap (λ (p : Pool). p.version) gives.same;
}

-- ---- what the machine says

-- what a machine that has these volumes asks of `vol destroy`
destroy_by : (m : Machine) (name : List ℕ) (o : Option Volume) → fin.get m.volumes name ≡ o → refusal m (VolDestroy name) ≡ cond (is_none o) (Some NoVolume) (cond (is_parent m name) (Some VolumeInUse) None)
unfolding conditions
destroy_by m name o is = λ j. first_of ((NoVolume, is_none (is j)) ∷ (VolumeInUse, is_parent m name) ∷ [])

-- one that has the volume of a slot says whether a clone stands on it
said_used : (old : States) (slots : Slots) → AreFooted old slots → AreNamed old → length old ≡ 64 → (contents : ℕ → Content) (blocks : ℕ) (m : Machine) → HasVolumes old contents blocks m → (name : List ℕ) (slot : ℕ) → HasName old slot name
    → refusal m (VolDestroy name) ≡ cond (is_stood_on old slot) (Some VolumeInUse) None
said_used old slots footed names long contents blocks m its name slot has = by (state_at old slot) refl has.named (its.there slot)
  where
    by : (o : Option VolumeState) → state_at old slot ≡ o → is_named o name ≡ true → IfSome o (λ x. Has x.name (volume_as x (contents slot)) m) → refusal m (VolDestroy name) ≡ cond (is_stood_on old slot) (Some VolumeInUse) None
    by None there named its_own = absurd (true≢false (sym named))
    by (Some x) there named its_own =
        let same : x.name ≡ name = same_name x.name name named in
        destroy_by m name (Some (volume_as x (contents slot))) (ap (fin.get m.volumes) (sym same) ∙ its_own)
        ∙ ap (λ (t : Bool). cond t (Some VolumeInUse) None) (ap (is_parent m) (sym same) ∙ parent_by old slots footed names long contents blocks m its slot x there)

-- a fault of a block is the volume's, and has its reason
pub cause_of : (T : Type 0) (before now : ℕ) (e : BlockFault) (r : Result Unit VolumeFault) → r ≡ Err (of_block e) → HasBlockCause {T = T} before now (Err e) → HasVolumeCause before now r
cause_of T before now e r is cause = subst (HasVolumeCause before now) (sym is) (by e cause)
  where
    by : (e : BlockFault) → HasBlockCause {T = T} before now (Err e) → HasVolumeCause {T = Unit {0}} before now (Err (of_block e))
    by DiskFault cause = cause
    by (Damaged at want found) cause = cause
    by Memory cause = cause

-- two slots that have a name are one: it is the first one's
same_slot : (old : States) (name : List ℕ) (s k : ℕ) → HasName old s name → HasName old k name → s ≡ k
same_slot old name s k one other = ⊎_elim
    (λ (low : s < k). absurd (true≢false (sym one.named ∙ other.first s low)))
    (λ (high : k ≤ s). ⊎_elim (λ (low : k < s). absurd (true≢false (sym other.named ∙ one.first k low))) (λ (least : s ≤ k). omega (arith, high, least)) (cases_lt k s))
    (cases_lt s k)

module _ (disk : Disk) (old : States) (pool : Pool) (name : List ℕ) where
  -- no volume has the name,
  pub destroy_missing : NoneHasName old name → Destroys disk old pool name old pool (Err (Refused NoVolume))
  destroy_missing none = record {
    agrees = λ footed named contents blocks m has. destroy_by m name None (has.none name none);
    missing = λ nowhere. refl;
    in_use = λ slot small has used. absurd (true≢false (sym has.named ∙ none.none slot small));
    there = λ slot small has unused r is. absurd (true≢false (sym has.named ∙ none.none slot small));
    done = tt;
    unused = tt;
    stays = (refl, record { map = refl; containers = refl; kept = refl; found = refl; version = refl });
    fails = inl refl;
  }

  module _ (long : length old ≡ slot_count) (slot : ℕ) (small : slot < slot_count) (has : HasName old slot name) where
    nobody : NoneHasName old name → ⊥
    nobody none = true≢false (sym has.named ∙ none.none slot small)

    -- what holds of its slot holds of each that has the name
    of_each : (b : Bool) → is_stood_on old slot ≡ b → (s : ℕ) → HasName old s name → is_stood_on old s ≡ b
    of_each b is s its = ap (is_stood_on old) (same_slot old name s slot its has) ∙ is

    -- or a clone stands on the volume,
    pub destroy_used : is_stood_on old slot ≡ true → Destroys disk old pool name old pool (Err (Refused VolumeInUse))
    destroy_used used = record {
      agrees = λ footed named contents blocks m its. said_used old pool.containers footed named long contents blocks m its name slot has ∙ ap (λ (t : Bool). cond t (Some VolumeInUse) None) used;
      missing = λ none. absurd (nobody none);
      in_use = λ s low its is. refl;
      there = λ s low its isnt r is. absurd (true≢false (sym (of_each true used s its) ∙ isnt));
      done = tt;
      unused = tt;
      stays = (refl, record { map = refl; containers = refl; kept = refl; found = refl; version = refl });
      fails = inr refl;
    }

    module _ (free : is_stood_on old slot ≡ false) where
      -- each machine removes it
      said_none : AreFooted old pool.containers → AreNamed old → (contents : ℕ → Content) (blocks : ℕ) (m : Machine) → HasVolumes old contents blocks m → refusal m (VolDestroy name) ≡ None
      said_none footed named contents blocks m its = said_used old pool.containers footed named long contents blocks m its name slot has ∙ ap (λ (t : Bool). cond t (Some VolumeInUse) None) free

      never_used : (s : ℕ) → HasName old s name → is_stood_on old s ≡ true → ⊥
      never_used s its used = true≢false (sym used ∙ of_each false free s its)

      -- or a leaf wasn't read, or memory ran out,
      pub destroy_failed : (left : Pool) → LeavesPool pool left → (e : BlockFault) → IsHoldFault disk pool.containers e → (r : Result Unit VolumeFault) → r ≡ Err (of_block e) → Destroys disk old pool name old left r
      destroy_failed left leaves e fault r is = subst (Destroys disk old pool name old left) (sym is) (by e fault)
        where
          failed : (f : VolumeFault) → ((said : Option Refusal) → said ≡ None → IsSaid said (Err f))
              → ((r : Refusal) → ◌≡◌ {A = Result Unit VolumeFault} (Err f) (Err (Refused r)) → ⊥) → IsDestroyFault disk pool.containers f → Destroys disk old pool name old left (Err f)
          failed f says isnt why = record {
            agrees = λ footed named contents blocks m its. says _ (said_none footed named contents blocks m its);
            missing = λ none. absurd (nobody none);
            in_use = λ s low its used. absurd (never_used s its used);
            there = λ s low its unused r is. isnt r is;
            done = tt;
            unused = tt;
            stays = (refl, leaves);
            fails = why;
          }

          by : (e : BlockFault) → IsHoldFault disk pool.containers e → Destroys disk old pool name old left (Err (of_block e))
          by DiskFault fault = failed (of_block DiskFault) (λ said none. none) (λ r is. cc) fault
          by (Damaged at want found) fault = failed (of_block (Damaged at want found)) (λ said none. none) (λ r is. cc) fault
          by Memory fault = failed (of_block Memory) (λ said none. none) (λ r is. cc) fault

      -- or it is removed.
      pub destroys : (marks : List Bool) (mid : Pool) (new : States) (left : Pool) → AreHoused pool.containers old → LeavesPool pool mid
          → (TellsEntries disk pool.containers → MarksAt marks (container_at pool.containers slot)) → EmptiesAt marks old mid slot (state_at old slot) (container_at mid.containers slot) new left → Destroys disk old pool name new left (Ok tt)
      destroys marks mid new left housed leaves marked empties =
          by (state_at old slot) (container_at pool.containers slot) refl refl has.named (housed.each slot) marked
          (subst (λ (s : Slots). EmptiesAt marks old mid slot (state_at old slot) (container_at s slot) new left) leaves.containers empties)
        where
          by : (o : Option VolumeState) (c : Option Mapped) → state_at old slot ≡ o → container_at pool.containers slot ≡ c → is_named o name ≡ true → Houses o c → (TellsEntries disk pool.containers → MarksAt marks c) → EmptiesAt marks old mid slot o c new left
              → Destroys disk old pool name new left (Ok tt)
          by None c there lies named houses marked empties = absurd (true≢false (sym named))
          by (Some x) None there lies named houses marked empties = absurd houses
          by (Some x) (Some map) there lies named houses marked empties = record {
            agrees = said_none;
            missing = λ none. absurd (nobody none);
            in_use = λ s low its used. absurd (never_used s its used);
            there = λ s low its isnt r is. cc;
            unused = of_each false free;
            done = record {
              slot = slot;
              within = small;
              state = x;
              there = there;
              named = same_name x.name name named;
              map = map;
              lies = lies;
              gone = record {
                row = empties.row;
                containers = empties.containers ∙ ap (λ (s : Slots). with_parent (with_container s slot None) slot None) leaves.containers;
                some = subst (λ (m : Space). HasGivenSome m left.map) leaves.map empties.some;
                given = λ told. subst (λ (m : Space). HasGiven m (is_of x x.label map) left.map) leaves.map (empties.given (marked told));
                kept = λ told. subst (λ (k : Blocks). HasForgotten k (leads map (entry_count x.span)) left.kept) leaves.kept (empties.kept (marked told));
                fewer = subst (λ (k : Blocks). HasForgottenSome k left.kept) leaves.kept empties.fewer;
                found = empties.found ∙ leaves.found;
                version = empties.version ∙ leaves.version;
              };
            };
            stays = tt;
            fails = tt;
          }
