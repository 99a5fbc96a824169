-- Every command leaves a well-formed machine.
use Rattle.std.proofs.Common.{◌≡◌, ◌≢◌, ℕ, ◌+◌, ◌<◌, ◌≤◌, Bool, true, false, cond, not, ◌&&◌, ◌||◌, nat_lt, nat_le, List, Option, Some, None, is_some, refl, sym, ap, subst, ◌∙◌, arith}
use Rattle.std.specs.Option.{option_map, option_map_or}
use Rattle.std.specs.FinMap as fin
use Rattle.std.specs.FinSet as set
use Rattle.std.proofs.lemmas.Bool.Decides.{nat_tests}
use Rattle.fv_model.specs.declared.commands.Kind.{Kind}
use Rattle.fv_model.specs.declared.commands.Command.{Command}
use Rattle.fv_model.specs.declared.commands.Command.TheVariants.{VolCreate, VolDestroy, VolResize, VolGuarantee, VolList, VolStat, New, Put, Get, Len, Cut, Remove, Ls, SnapCreate, SnapDelete, SnapRestore, SnapList, CloneCreate, SplitStart, SplitFinish, Mirror, Clean, Probe, Work, Cp}
use Rattle.fv_model.specs.Numbers.{is_size, is_reserve, is_index, most_changes, most_files, most_snapshots, most_volumes, greatest_span}
use Rattle.fv_model.specs.Spelling.{name_cmp}
use Rattle.fv_model.specs.Tables.{Table, file_named, new, put, cut, rm}
use Rattle.fv_model.specs.Places.{ids_of}
use Rattle.fv_model.specs.Volumes.{Base, Volume}
use Rattle.fv_model.specs.Machines.{Machine, empty_machine}
use Rattle.fv_model.specs.Space.{span_of}
use Rattle.fv_model.specs.Effects.{Becomes, changed, change_of, effect, at_file, at_snapshot, stamped, empty_volume, clone_of, mirror_of, being_split}
use Rattle.fv_model.specs.Refusals.{of_volume, conditions, next, is_parent, is_base, is_splitting}
use Rattle.fv_laws.specs.WellFormed.{IsParent, IsWellTable, IsWellVolume, IsWell}
use Rattle.fv_laws.proofs.Orders.{name_total}
use Rattle.fv_laws.proofs.Changes.{by_next, volume_of, file_of, snapshot_of, differs}
use Rattle.fv_laws.proofs.Halves.{NoneHolds, none_holds}
use Rattle.fv_laws.proofs.Room.{named_there}
use Rattle.fv_laws.proofs.Tables.{new_well, put_well, cut_well, rm_well}
use Rattle.fv_laws.proofs.Volumes.{empty_is_well, mirror_is_well, clone_is_well, clone_span, recast, resized, changed_table, restored, snapped, snapshot_gone, split_base, split_begun, split_ended}
use Rattle.fv_laws.proofs.Bases.{no_child, no_holder, HasBaseOf, serves, update_well, fresh_well, gone_well}

-- ---- what a condition that doesn't hold says
told : (m : Machine) (v : List ℕ) (x : Volume) (test : Volume → Bool) → fin.get m.volumes v ≡ Some x → of_volume m v test ≡ false → test x ≡ false
told m v x test e h = ap (λ (o : Option Volume). option_map_or test o false) (sym e) ∙ h

below : (a b : ℕ) → nat_le a b ≡ false → b < a
below a b e = grind (arith, nat_tests)

at_most : (a b : ℕ) → nat_lt a b ≡ false → b ≤ a
at_most a b e = grind (arith, nat_tests)

neither : (a b : Bool) → (a || b) ≡ false → (a ≡ false) × (b ≡ false)
neither true b e = absurd cc
neither false b e = (refl, e)

nothing : {X : Type 0} (o : Option X) → is_some o ≡ false → o ≡ None
nothing None e = refl
nothing (Some x) e = absurd cc

twice_not : (b : Bool) → not b ≡ false → b ≡ true
twice_not true e = refl
twice_not false e = absurd cc

size_within : (size : ℕ) → not (is_size size) ≡ false → size ≤ 500000
size_within size e = right (nat_le 1 size) (nat_le size 500000) refl (twice_not (is_size size) e)
  where
    right : (a b : Bool) → nat_le size 500000 ≡ b → (a && b) ≡ true → size ≤ 500000
    right true true d e = grind (arith, nat_tests)
    right true false d e = absurd cc
    right false b d e = absurd cc

own_base : (x y : Volume) → y.base ≡ x.base → HasBaseOf x y
own_base x y same = record { base = λ b e. (b, sym same ∙ e, refl, refl, refl) }

-- a volume changes in nothing that its clones want
as_before : (m : Machine) → IsWell m → (v : List ℕ) (x y : Volume) → fin.get m.volumes v ≡ Some x → IsWellVolume y → y.most ≡ x.most → y.span ≡ x.span → y.base ≡ x.base → y.snapshots ≡ x.snapshots → y.known ≡ x.known → IsWell (changed m (Becomes v y))
as_before m is v x y e good most span base snapshots known = update_well m is v x y e good most span (own_base x y base) (λ name z b there has same.
    let service = serves m is v x e name z b there has same in
    record {
      held = ap (λ (s : fin.FinMap name_cmp Table). fin.get s b.snapshot) snapshots ∙ service.held;
      known = known ∙ service.known;
      whole = ap (λ (o : Option Base). option_map_or (λ b. b.splitting) o false) base ∙ service.whole;
    })

-- ---- commands on a volume that is there
module _ (m : Machine) (is : IsWell m) where
  resize : (v : List ℕ) (size : ℕ) → of_volume m v (λ x. nat_lt x.most size) ≡ false → IsWell (effect m (VolResize v size))
  unfolding change_of
  resize v size h = volume_of m v (λ x. Becomes v (record x { size = size })) (λ c. IsWell (changed m c)) is (λ x e.
      as_before m is v x (record x { size = size }) e (resized x (is.volumes v x e) size (at_most x.most size (told m v x (λ x. nat_lt x.most size) e h))) refl refl refl refl refl)

  guarantee : (v : List ℕ) (kind : Kind) → IsWell (effect m (VolGuarantee v kind))
  unfolding change_of
  guarantee v kind = volume_of m v (λ x. Becomes v (record x { kind = kind })) (λ c. IsWell (changed m c)) is (λ x e.
      as_before m is v x (record x { kind = kind }) e (recast x (is.volumes v x e) kind x.known) refl refl refl refl refl)

  few_changes : (v : List ℕ) (x : Volume) → fin.get m.volumes v ≡ Some x → of_volume m v (λ x. nat_le most_changes x.now) ≡ false → x.now < most_changes
  few_changes v x e h = below most_changes x.now (told m v x (λ x. nat_le most_changes x.now) e h)

  change : (v : List ℕ) (x : Volume) (table : ℕ → Table) → fin.get m.volumes v ≡ Some x → of_volume m v (λ x. nat_le most_changes x.now) ≡ false → IsWellTable (x.now + 1) (table (x.now + 1)) → IsWell (changed m (Becomes v (stamped x table)))
  change v x table e few good = as_before m is v x (stamped x table) e (changed_table x (is.volumes v x e) table (few_changes v x e few) good) refl refl refl refl refl

  new_in : (v f : List ℕ) (reserve : ℕ) → not (is_reserve reserve) ≡ false → of_volume m v (λ x. is_some (file_named x.active f)) ≡ false → of_volume m v (λ x. nat_le most_files (fin.len x.active.files)) ≡ false → of_volume m v (λ x. nat_le most_changes x.now) ≡ false → IsWell (effect m (New v f reserve))
  unfolding change_of
  new_in v f reserve small free few changes = volume_of m v (λ x. Becomes v (stamped x (new x.active f reserve))) (λ c. IsWell (changed m c)) is (λ x e.
      change v x (new x.active f reserve) e changes
      (new_well x.now (x.now + 1) x.active f reserve (twice_not (is_reserve reserve) small) (omega arith) (is.volumes v x e).active
      (nothing (file_named x.active f) (told m v x (λ x. is_some (file_named x.active f)) e free))
      (below most_files (fin.len x.active.files) (told m v x (λ x. nat_le most_files (fin.len x.active.files)) e few))))

  put_in : (v f : List ℕ) (i : ℕ) (block : List ℕ) → not (is_index i) ≡ false → of_volume m v (λ x. nat_le most_changes x.now) ≡ false → IsWell (effect m (Put v f i block))
  unfolding change_of
  put_in v f i block within changes = volume_of m v (λ x. at_file x f (λ n file. Becomes v (stamped x (put x.active n file i block)))) (λ c. IsWell (changed m c)) is (λ x e.
      file_of x f (λ n file. Becomes v (stamped x (put x.active n file i block))) (λ c. IsWell (changed m c)) is (λ n file d.
      change v x (put x.active n file i block) e changes (put_well x.now (x.now + 1) x.active n file i block (twice_not (is_index i) within) (omega arith) (is.volumes v x e).active (named_there x.active f n file d))))

  cut_in : (v f : List ℕ) (length : ℕ) → not (is_reserve length) ≡ false → of_volume m v (λ x. nat_le most_changes x.now) ≡ false → IsWell (effect m (Cut v f length))
  unfolding change_of
  cut_in v f length small changes = volume_of m v (λ x. at_file x f (λ n file. Becomes v (stamped x (cut x.active n file length)))) (λ c. IsWell (changed m c)) is (λ x e.
      file_of x f (λ n file. Becomes v (stamped x (cut x.active n file length))) (λ c. IsWell (changed m c)) is (λ n file d.
      change v x (cut x.active n file length) e changes (cut_well x.now (x.now + 1) x.active n file length (twice_not (is_reserve length) small) (omega arith) (is.volumes v x e).active (named_there x.active f n file d))))

  remove_in : (v f : List ℕ) → of_volume m v (λ x. nat_le most_changes x.now) ≡ false → IsWell (effect m (Remove v f))
  unfolding change_of
  remove_in v f changes = volume_of m v (λ x. at_file x f (λ n file. Becomes v (stamped x (rm x.active n)))) (λ c. IsWell (changed m c)) is (λ x e.
      file_of x f (λ n file. Becomes v (stamped x (rm x.active n))) (λ c. IsWell (changed m c)) is (λ n file d.
      change v x (rm x.active n) e changes (rm_well x.now (x.now + 1) x.active n (omega arith) (is.volumes v x e).active)))

  restore : (v s : List ℕ) → IsWell (effect m (SnapRestore v s))
  unfolding change_of
  restore v s = volume_of m v (λ x. at_snapshot x s (λ t. Becomes v (record x { active = t }))) (λ c. IsWell (changed m c)) is (λ x e.
      snapshot_of x s (λ t. Becomes v (record x { active = t })) (λ c. IsWell (changed m c)) is (λ t d.
      as_before m is v x (record x { active = t }) e (restored x (is.volumes v x e) s t d) refl refl refl refl refl))

  clean : (v : List ℕ) → IsWell (effect m (Clean v))
  unfolding change_of
  clean v = volume_of m v (λ x. Becomes v (record x { known = true })) (λ c. IsWell (changed m c)) is (λ x e.
      update_well m is v x (record x { known = true }) e (recast x (is.volumes v x e) x.kind true) refl refl (own_base x (record x { known = true }) refl) (λ name z b there has same.
      let service = serves m is v x e name z b there has same in record { held = service.held; known = refl; whole = service.whole }))

  -- a snapshot that is kept, and one that goes: those that clones stand on stay
  keep : (v s : List ℕ) → of_volume m v (λ x. is_some (fin.get x.snapshots s)) ≡ false → of_volume m v (λ x. nat_le most_snapshots (fin.len x.snapshots)) ≡ false → IsWell (effect m (SnapCreate v s))
  unfolding change_of
  keep v s free few = volume_of m v (λ x. Becomes v (record x { snapshots = fin.insert x.snapshots s x.active })) (λ c. IsWell (changed m c)) is (λ x e.
      update_well m is v x (record x { snapshots = fin.insert x.snapshots s x.active }) e
      (snapped x (is.volumes v x e) s (below most_snapshots (fin.len x.snapshots) (told m v x (λ x. nat_le most_snapshots (fin.len x.snapshots)) e few))) refl refl
      (own_base x (record x { snapshots = fin.insert x.snapshots s x.active }) refl)
      (λ name z b there has same.
      let service = serves m is v x e name z b there has same in
      let none = nothing (fin.get x.snapshots s) (told m v x (λ x. is_some (fin.get x.snapshots s)) e free) in
      let other : b.snapshot ≢ s = λ equal. (let wrong : None ≡ Some b.table = sym none ∙ ap (fin.get x.snapshots) (sym equal) ∙ service.held in absurd cc) in
      record {
        held = fin.get-insert name_total x.snapshots s x.active b.snapshot ∙ ap (λ t. cond t (Some x.active) (fin.get x.snapshots b.snapshot)) (differs b.snapshot s other) ∙ service.held;
        known = service.known;
        whole = service.whole;
      }))

  forget : (v s : List ℕ) → is_base m v s ≡ false → IsWell (effect m (SnapDelete v s))
  unfolding change_of
  forget v s free = volume_of m v (λ x. Becomes v (record x { snapshots = fin.remove x.snapshots s })) (λ c. IsWell (changed m c)) is (λ x e.
      update_well m is v x (record x { snapshots = fin.remove x.snapshots s }) e (snapshot_gone x (is.volumes v x e) s) refl refl
      (own_base x (record x { snapshots = fin.remove x.snapshots s }) refl)
      (λ name z b there has same.
      let service = serves m is v x e name z b there has same in
      record {
        held = fin.get-remove name_total x.snapshots s b.snapshot ∙ ap (λ t. cond t None (fin.get x.snapshots b.snapshot)) (differs b.snapshot s (no_holder m v s free name z b there has same)) ∙ service.held;
        known = service.known;
        whole = service.whole;
      }))

  -- the split of a clone that no clone stands on
  begin_split : (v : List ℕ) → is_parent m v ≡ false → IsWell (effect m (SplitStart v))
  unfolding change_of
  begin_split v free = volume_of m v (λ x. Becomes v (record x { base = option_map being_split x.base; known = false })) (λ c. IsWell (changed m c)) is (λ x e.
      update_well m is v x (record x { base = option_map being_split x.base; known = false }) e (recast (record x { base = option_map being_split x.base; known = false }) (split_begun x (is.volumes v x e)) x.kind false) refl refl
      (record { base = λ b d. split_base x.base b d })
      (λ name z b there has same. absurd (no_child m v free name z b there has same)))

  end_split : (v : List ℕ) → of_volume m v (λ x. not (is_splitting x)) ≡ false → IsWell (effect m (SplitFinish v))
  unfolding change_of
  end_split v h = volume_of m v (λ x. Becomes v (record x { base = None })) (λ c. IsWell (changed m c)) is (λ x e.
      update_well m is v x (record x { base = None }) e (split_ended x (is.volumes v x e)) refl refl
      (record { base = λ b d. absurd cc })
      (λ name z b there has same.
      let service = serves m is v x e name z b there has same in
      let splits = twice_not (is_splitting x) (told m v x (λ x. not (is_splitting x)) e h) in
      let wrong : false ≡ true = sym service.whole ∙ splits in absurd cc))

  -- ---- commands that make a volume
  create : (v : List ℕ) (size : ℕ) (kind : Kind) → not (is_size size) ≡ false → is_some (fin.get m.volumes v) ≡ false → nat_le most_volumes (fin.len m.volumes) ≡ false → IsWell (effect m (VolCreate v size kind))
  unfolding change_of
  create v size kind small free few =
      fresh_well m is v (empty_volume size kind) (nothing (fin.get m.volumes v) free) (empty_is_well size kind (size_within size small)) (below most_volumes (fin.len m.volumes) few) (λ b e. absurd cc)

  mirror : (v s w : List ℕ) (size : ℕ) (kind : Kind) → is_some (fin.get m.volumes w) ≡ false → of_volume m v (λ x. nat_lt greatest_span (span_of size 0 x.span)) ≡ false → nat_le most_volumes (fin.len m.volumes) ≡ false → IsWell (effect m (Mirror v s w size kind))
  unfolding change_of
  mirror v s w size kind free narrow few = volume_of m v (λ x. at_snapshot x s (λ t. Becomes w (mirror_of x t size kind))) (λ c. IsWell (changed m c)) is (λ x e.
      snapshot_of x s (λ t. Becomes w (mirror_of x t size kind)) (λ c. IsWell (changed m c)) is (λ t d.
      fresh_well m is w (mirror_of x t size kind) (nothing (fin.get m.volumes w) free)
      (mirror_is_well x s t size kind (is.volumes v x e) d (at_most greatest_span (span_of size 0 x.span) (told m v x (λ x. nat_lt greatest_span (span_of size 0 x.span)) e narrow)))
      (below most_volumes (fin.len m.volumes) few) (λ b e. absurd cc)))

  clone : (c v s : List ℕ) (size : ℕ) (kind : Kind) → is_some (fin.get m.volumes c) ≡ false → of_volume m v is_splitting ≡ false → of_volume m v (λ x. not x.known) ≡ false → of_volume m v (λ x. option_map_or (λ t. nat_lt greatest_span (span_of size (set.len (ids_of t)) x.span)) (fin.get x.snapshots s) false) ≡ false → nat_le most_volumes (fin.len m.volumes) ≡ false → IsWell (effect m (CloneCreate c v s size kind))
  unfolding change_of
  clone c v s size kind free whole known narrow few = volume_of m v (λ x. at_snapshot x s (λ t. Becomes c (clone_of v x s t size kind))) (λ y. IsWell (changed m y)) is (λ x e.
      snapshot_of x s (λ t. Becomes c (clone_of v x s t size kind)) (λ y. IsWell (changed m y)) is (λ t d.
      fresh_well m is c (clone_of v x s t size kind) (nothing (fin.get m.volumes c) free)
      (clone_is_well v x s t size kind (is.volumes v x e) d (at_most greatest_span (span_of size (set.len (ids_of t)) x.span)
      (ap (λ (o : Option Table). option_map_or (λ t. nat_lt greatest_span (span_of size (set.len (ids_of t)) x.span)) o false) (sym d) ∙ told m v x (λ x. option_map_or (λ t. nat_lt greatest_span (span_of size (set.len (ids_of t)) x.span)) (fin.get x.snapshots s) false) e narrow)))
      (below most_volumes (fin.len m.volumes) few)
      (λ b f. let own : Base = record { parent = v; snapshot = s; table = t; splitting = false } in
      let same : own ≡ b = cc in
      subst (λ (a : Base). IsParent m (clone_of v x s t size kind) a) same
      (record { parent = x; there = e; held = d; known = twice_not x.known (told m v x (λ x. not x.known) e known); whole = told m v x is_splitting e whole; span = clone_span v x s t size kind }))))

well_effect : (m : Machine) → IsWell m → (c : Command) → NoneHolds (conditions m c) → IsWell (effect m c)
unfolding conditions change_of
well_effect m is (VolCreate v size kind) h = create m is v size kind h.0 h.1.0 h.1.1.0
well_effect m is (VolDestroy v) h = gone_well m is v h.1.0
well_effect m is (VolResize v size) h = resize m is v size h.1.1.0
well_effect m is (VolGuarantee v kind) h = guarantee m is v kind
well_effect m is (New v f reserve) h = new_in m is v f reserve h.0 h.1.1.0 (neither _ _ h.1.1.1.1.0).0 (neither _ _ h.1.1.1.1.0).1
well_effect m is (Put v f i block) h = put_in m is v f i block h.0 h.1.1.1.0
well_effect m is (Cut v f length) h = cut_in m is v f length h.0 h.1.1.1.1.0
well_effect m is (Remove v f) h = remove_in m is v f h.1.1.0
well_effect m is (SnapCreate v s) h = keep m is v s h.1.0 h.1.1.0
well_effect m is (SnapDelete v s) h = forget m is v s h.1.1.0
well_effect m is (SnapRestore v s) h = restore m is v s
well_effect m is (CloneCreate c v s size kind) h = clone m is c v s size kind h.1.1.1.0 h.1.1.1.1.0 h.1.1.1.1.1.0 h.1.1.1.1.1.1.0 h.1.1.1.1.1.1.1.0
well_effect m is (SplitStart v) h = begin_split m is v h.1.1.0
well_effect m is (SplitFinish v) h = end_split m is v h.1.0
well_effect m is (Mirror v s w size kind) h = mirror m is v s w size kind h.1.1.1.0 h.1.1.1.1.0 h.1.1.1.1.1.0
well_effect m is (Clean v) h = clean m is v
well_effect m is VolList h = is
well_effect m is (VolStat v) h = is
well_effect m is (Get v s f i) h = is
well_effect m is (Len v s f) h = is
well_effect m is (Ls v s) h = is
well_effect m is (SnapList v) h = is
well_effect m is (Probe v f i) h = is
well_effect m is (Work n) h = is
well_effect m is Cp h = is

pub well_next : (m : Machine) (c : Command) → IsWell m → IsWell (next m c)
well_next m c is = by_next m c IsWell is (λ e. well_effect m is c (none_holds (conditions m c) e))

none_there : (name : List ℕ) (x : Volume) → fin.get (fin.empty {K = List ℕ} {X = Volume} {R = name_cmp}) name ≡ Some x → ⊥
none_there name x e = let wrong : None ≡ Some x = sym (fin.get-empty name_cmp name) ∙ e in cc

pub well_empty : (blocks : ℕ) → IsWell (empty_machine blocks)
well_empty blocks = record {
  volumes = λ name x e. absurd (none_there name x e);
  count = let none : fin.len (fin.empty {K = List ℕ} {X = Volume} {R = name_cmp}) ≡ 0 = fin.len-empty name_cmp Volume in subst (λ c. c ≤ most_volumes) (sym none) (omega arith);
  bases = λ name x b e has. absurd (none_there name x e);
  rooted = record { rank = λ name. 0; falls = λ name x b e has. absurd (none_there name x e) };
}
