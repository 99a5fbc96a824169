-- What a machine that volumes stand for says of a clone: it refuses one as it's refused by the volumes, and accepts one that is admitted.
use Rattle.std.proofs.Common.{◌≡◌, ◌<◌, ◌≤◌, ◌+◌, ◌*◌, ℕ, suc, Bool, true, false, cond, not, List, [], ◌∷◌, length, Option, Some, None, inl, inr, refl, sym, ap, subst, ◌∙◌, arith}
use Rattle.std.specs.Prelude.{IfSome, nat_lt}
use Rattle.std.specs.Option.{is_none, is_some, option_map, option_map_or}
use Rattle.std.specs.Ordering.{is_eq}
use Rattle.std.specs.FinMap as fin
use Rattle.std.specs.FinMap.{find}
use Rattle.std.specs.FinSet as set
use Rattle.std.proofs.lemmas.Bool.{false≢true}
use Rattle.std.proofs.lemmas.Bool.Decides.{nat_tests}
use Rattle.std.proofs.lemmas.Option.{same_Some}
use Rattle.fv_disk.specs.Shown.{Shown as Disk}
use Rattle.fv_charge.specs.Ledgers.{committed}
use Rattle.fv_model.specs.declared.answers.Refusal.{Refusal}
use Rattle.fv_model.specs.declared.answers.Refusal.TheVariants.{NoVolume, VolumeExists, NoSnapshot, VolumeFull, AggregateFull, Range, TooMany, VolumeInUse, ParentNotClean}
use Rattle.fv_model.specs.declared.commands.Command.{Command}
use Rattle.fv_model.specs.declared.commands.Command.TheVariants.{CloneCreate}
use Rattle.fv_model.specs.declared.commands.Kind.{Kind}
use Rattle.fv_model.specs.Effects.{Becomes, Stays, at_snapshot, change_of, changed, clone_of, effect}
use Rattle.fv_model.specs.Machines.{Machine, capacity}
use Rattle.fv_model.specs.Numbers.{greatest_span, is_size}
use Rattle.fv_model.specs.Places.{ids_of}
use Rattle.fv_model.specs.Refusals.{conditions, has_all_volumes, is_aggregate_full, is_clone_too_wide, is_missing, is_splitting, is_taken, is_volume_full, lacks_snapshot, of_volume, refusal}
use Rattle.fv_model.specs.Space.{charge, commit, commits, need, overhead, span_of, use_of}
use Rattle.fv_model.specs.Spelling.{is_same_name, name_cmp}
use Rattle.fv_model.specs.Tables.{Table}
use Rattle.fv_model.specs.Volumes.{Base as ModelBase, Volume}
use Rattle.fv_laws.proofs.Changes.{itself, same_name}
use Rattle.fv_laws.proofs.Commits.{commits_new}
use Rattle.fv_laws.proofs.Lists.{In, in_right}
use Rattle.fv_laws.proofs.Orders.{name_total, name_ties}
use Rattle.fv_laws.proofs.PathCharges.{no_need}
use Rattle.fv_tables.specs.Told.{table_told}
use Rattle.fv_pool.specs.declared.pool.Pool.{Pool}
use Rattle.fv_volmap.specs.Slots.{IsVolume}
use Rattle.fv_volume.specs.declared.state.Base.{Base}
use Rattle.fv_volume.specs.declared.state.Snap.{Snap}
use Rattle.fv_volume.specs.declared.state.VolumeState.{VolumeState}
use Rattle.fv_volume.specs.Asking.{snap_named}
use Rattle.fv_volume.specs.Cloning.{count_in}
use Rattle.fv_volume.specs.Files.{AreNamed}
use Rattle.fv_volume.specs.Held.{IsHeldIn}
use Rattle.fv_volume.specs.OneVolume.{base_as, base_table, blocks_in, content_for, standing_kept, tables_of, volume_as, volume_for, Content, IsKeptTable}
use Rattle.fv_volume.specs.Promising.{HasVolumes}
use Rattle.fv_volume.specs.Slots.{is_named, sum_of, HasName, IsFirstFree, IsFull, NoneHasName}
use Rattle.fv_volume.specs.States.{States, ledger_of_empty, state_at}
use Rattle.fv_volume.proofs.EachRoot.{all_in}
use Rattle.fv_volume.proofs.IdsCounted.{slot_ids}
use Rattle.fv_volume.proofs.NewClone.{charges_nothing}
use Rattle.fv_volume.proofs.SnapFinds.{named_there, told_named}
use Rattle.fv_volumes.proofs.Made.{to_pair}
use Rattle.fv_volumes.proofs.Told.{all_named, counted, distinct_from, fewer_named, ledger_commit, named_from, some_named, AreDistinct, Named}
use Rattle.fv_clone.specs.declared.admitting.Admitted.{Admitted}
use Rattle.fv_clone.specs.Admitting.{is_split, span_for, Admits, CanStand, HasParent, HasSource, IsAsked, Refuses}

-- ---- the volumes by name

-- What is found under a name is the volume of a slot that has it.
pub found_back : (meant : ℕ → VolumeState → Volume) (states : States) (from : ℕ) (name : List ℕ) (v : Volume) → find name_cmp name (named_from meant from states) ≡ Some v
    → (s : ℕ) × ((x : VolumeState) × ((state_at states s ≡ Some x) × ((name ≡ x.name) × (meant (from + s) x ≡ v))))
unfolding named_from
found_back meant [] from name v e = absurd cc
found_back meant (None ∷ xs) from name v e =
    let r = found_back meant xs (from + 1) name v e in
    (suc r.0, (r.1.0, (r.1.1.0, (r.1.1.1.0, ap (λ (n : ℕ). meant n r.1.0) (let n : from + suc r.0 ≡ from + 1 + r.0 = omega arith in n) ∙ r.1.1.1.1))))
found_back meant (Some y ∷ xs) from name v e = by (is_eq (name_cmp name y.name)) refl e (λ f. found_back meant xs (from + 1) name v f)
  where
    by : (t : Bool) → is_eq (name_cmp name y.name) ≡ t → cond t (Some (meant from y)) (find name_cmp name (named_from meant (from + 1) xs)) ≡ Some v
        → (find name_cmp name (named_from meant (from + 1) xs) ≡ Some v → (s : ℕ) × ((x : VolumeState) × ((state_at xs s ≡ Some x) × ((name ≡ x.name) × (meant (from + 1 + s) x ≡ v)))))
        → (s : ℕ) × ((x : VolumeState) × ((state_at (Some y ∷ xs) s ≡ Some x) × ((name ≡ x.name) × (meant (from + s) x ≡ v))))
    by true is e rest = (0, (y, (refl, (same_name name y.name is, ap (λ (n : ℕ). meant n y) (let n : from + 0 ≡ from = omega arith in n) ∙ same_Some (meant from y) v e))))
    by false is e rest =
        let r = rest e in
        (suc r.0, (r.1.0, (r.1.1.0, (r.1.1.1.0, ap (λ (n : ℕ). meant n r.1.0) (let n : from + suc r.0 ≡ from + 1 + r.0 = omega arith in n) ∙ r.1.1.1.1))))

module _ (disk : Disk) (pool : Pool) (states : States) (long : length states ≡ 64) (named : AreNamed states) (each : (s : ℕ) → IfSome (state_at states s) (IsHeldIn disk pool s))
    (contents : ℕ → Content) (tells : (s : ℕ) (z : VolumeState) → state_at states s ≡ Some z → contents s ≡ content_for disk pool z) (m : Machine) (has : HasVolumes states contents pool.found.blocks m) where
  abbrev meant : ℕ → VolumeState → Volume
  meant s x = volume_as x (contents s)

  abbrev all : Named
  all = named_from meant 0 states

  one : (s : ℕ) (z : VolumeState) → state_at states s ≡ Some z → IsHeldIn disk pool s z
  one s z there = subst (λ (o : Option VolumeState). IfSome o (IsHeldIn disk pool s)) there (each s)

  -- the volume of a slot is the machine's with its name
  is_there : (s : ℕ) (z : VolumeState) → state_at states s ≡ Some z → fin.get m.volumes z.name ≡ Some (volume_as z (contents s))
  is_there s z there = subst (λ (o : Option VolumeState). IfSome o (λ x. fin.get m.volumes x.name ≡ Some (volume_as x (contents s)))) there (has.there s)

  distinct : AreDistinct all
  distinct = distinct_from meant states 0 (λ e s x y lt here there. unless (is_same_name y.name x.name)
      (λ is. let same : e ≡ s = to_pair states named e s x y here there (sym (same_name y.name x.name is)) in omega (arith, lt, same)))
    where
      unless : (b : Bool) → (b ≡ true → ⊥) → b ≡ false
      unless true never = absurd (never refl)
      unless false never = refl

  pub by_name : (name : List ℕ) → fin.get m.volumes name ≡ find name_cmp name all
  by_name name = by (find name_cmp name all) refl
    where
      by : (o : Option Volume) → find name_cmp name all ≡ o → fin.get m.volumes name ≡ o
      by None e = has.none name (record { none = λ s low. unless (is_named (state_at states s) name) (λ is. false≢true (sym (ap is_some e) ∙ some_named meant states 0 s name is)) })
        where
          unless : (b : Bool) → (b ≡ true → ⊥) → b ≡ false
          unless true never = absurd (never refl)
          unless false never = refl
      by (Some v) e =
          let r = found_back meant states 0 name v e in
          let at : 0 + r.0 ≡ r.0 = omega arith in
          ap (fin.get m.volumes) r.1.1.1.0 ∙ is_there r.0 r.1.0 r.1.1.0 ∙ ap (λ (w : Volume). Some w) (ap (λ (n : ℕ). meant n r.1.0) (sym at) ∙ r.1.1.1.1)

  how_many : fin.len m.volumes ≡ length all
  how_many = ap fin.len (fin.same_map name_total name_ties m.volumes (fin.from_entries {R = name_cmp} all) (λ q. by_name q ∙ sym (fin.get-from_entries name_total all q))) ∙ counted all distinct

  pub no_more : IsFull states → has_all_volumes m ≡ true
  no_more full =
      let every : length all ≡ length states = all_named meant states 0 (λ s lt. full.full s (omega (arith, lt, long))) in
      grind (arith, nat_tests, how_many, every, long)

  pub some_more : (slot : ℕ) → IsFirstFree states slot → has_all_volumes m ≡ false
  some_more slot free =
      let few : length all < length states = fewer_named meant states 0 slot (omega (arith, free.within, long)) free.free in
      grind (arith, nat_tests, how_many, few, long)

  pub taken : (name : List ℕ) (slot : ℕ) → HasName states slot name → is_taken m name ≡ true
  taken name slot its = ap is_some (by_name name) ∙ some_named meant states 0 slot name its.named

  pub is_free : (name : List ℕ) → NoneHasName states name → is_taken m name ≡ false
  is_free name none = ap is_some (has.none name none)

  -- ---- the parent

  module _ (parent : List ℕ) (home : HasParent states parent) where
    abbrev its : Volume
    its = volume_for disk pool home.volume

    home_held : IsHeldIn disk pool home.slot home.volume
    home_held = one home.slot home.volume home.there

    pub parent_is : fin.get m.volumes parent ≡ Some its
    parent_is = ap (fin.get m.volumes) (sym (same_name home.volume.name parent (ap (λ (o : Option VolumeState). is_named o parent) (sym home.there) ∙ home.has.named)))
        ∙ is_there home.slot home.volume home.there ∙ ap (λ (c : Content). Some (volume_as home.volume c)) (tells home.slot home.volume home.there)

    -- a test of it
    pub of_home : (test : Volume → Bool) → of_volume m parent test ≡ test its
    of_home test = ap (λ (o : Option Volume). option_map_or test o false) parent_is

    split_is : of_volume m parent is_splitting ≡ is_split home.volume.base
    split_is = of_home is_splitting ∙ by home.volume.base
      where
        by : (o : Option Base) → option_map_or (λ (b : ModelBase). b.splitting) (base_as o (content_for disk pool home.volume).base) false ≡ is_split o
        by None = refl
        by (Some b) = refl

    snap_is : (snapshot : List ℕ) → fin.get its.snapshots snapshot ≡ option_map (λ (q : Snap). table_told (standing_kept (blocks_in disk pool home.volume) q)) (snap_named home.volume.snapshots snapshot)
    snap_is snapshot = told_named (blocks_in disk pool home.volume) snapshot home.volume.snapshots

    pub lacks_is : (snapshot : List ℕ) → snap_named home.volume.snapshots snapshot ≡ None → lacks_snapshot m parent (Some snapshot) ≡ true
    lacks_is snapshot none = of_home (λ x. is_none (fin.get x.snapshots snapshot))
        ∙ ap is_none (snap_is snapshot ∙ ap (option_map (λ (q : Snap). table_told (standing_kept (blocks_in disk pool home.volume) q))) none)

  -- ---- the snapshot

  module _ (parent snapshot name : List ℕ) (size : ℕ) (kind : Kind) where
    abbrev command : Command
    command = CloneCreate name parent snapshot size kind

    module _ (source : HasSource states parent snapshot) where
      abbrev origin : VolumeState
      origin = source.home.volume

      abbrev old : Volume
      old = volume_for disk pool origin

      abbrev table : Table
      table = table_told (standing_kept (blocks_in disk pool origin) source.snap)

      pub table_is : fin.get old.snapshots snapshot ≡ Some table
      table_is = snap_is parent source.home snapshot ∙ ap (option_map (λ (q : Snap). table_told (standing_kept (blocks_in disk pool origin) q))) source.found

      pub there : In source.snap (tables_of origin)
      there = in_right source.snap (base_table origin.base) origin.snapshots (named_there snapshot origin.snapshots source.snap source.found).0

      pub lies : IsKeptTable disk pool origin source.snap
      lies = all_in (IsKeptTable disk pool origin) (tables_of origin) (home_held parent source.home).stands.kept source.snap there

      pub has_snap : lacks_snapshot m parent (Some snapshot) ≡ false
      has_snap = of_home parent source.home (λ x. is_none (fin.get x.snapshots snapshot)) ∙ ap is_none table_is

      -- its map slot has as many numbers as its table has ids
      pub ids_are : IsVolume origin.map → set.len (ids_of table) ≡ count_in origin source.snap.slot
      ids_are whole = sym (slot_ids disk pool origin whole (home_held parent source.home).stands.shared source.snap there lies.1)

      wide_is : IsVolume origin.map → is_clone_too_wide m parent snapshot size ≡ nat_lt greatest_span (span_for origin source.snap.slot size)
      wide_is whole =
          of_home parent source.home (λ x. option_map_or (λ t. nat_lt greatest_span (span_of size (set.len (ids_of t)) x.span)) (fin.get x.snapshots snapshot) false)
          ∙ ap (λ (o : Option Table). option_map_or (λ t. nat_lt greatest_span (span_of size (set.len (ids_of t)) origin.span)) o false) table_is
          ∙ ap (λ (n : ℕ). nat_lt greatest_span (span_of size n origin.span)) (ids_are whole)

      -- ---- the clone

      abbrev new : Volume
      new = clone_of parent old snapshot table size kind

      pub becomes : change_of m command ≡ Becomes name new
      unfolding change_of
      becomes =
          ap (λ (o : Option Volume). option_map_or (λ x. at_snapshot x snapshot (λ t. Becomes name (clone_of parent x snapshot t size kind))) o Stays) (parent_is parent source.home)
          ∙ ap (λ (o : Option Table). option_map_or (λ t. Becomes name (clone_of parent old snapshot t size kind)) o Stays) table_is

      uses_nothing : (charge new ≡ 0) × (need new ≡ 0)
      uses_nothing = (charges_nothing new (record { parent = parent; snapshot = snapshot; table = table; splitting = false }) refl refl refl refl, no_need new lies.1.reserves)

      commits_are : IsVolume origin.map → commit new ≡ committed (ledger_of_empty size kind (span_for origin source.snap.slot size))
      commits_are whole = sym (ledger_commit new (ledger_of_empty size kind (span_for origin source.snap.slot size)) (record {
        charged = sym uses_nothing.0;
        needed = sym uses_nothing.1;
        size = refl;
        kind = refl;
        span = ap (λ (n : ℕ). span_of size n origin.span) (sym (ids_are whole));
      }))

      after_is : effect m command ≡ changed m (Becomes name new)
      after_is = ap (changed m) becomes

      not_full : is_size size ≡ true → is_volume_full (effect m command) name ≡ false
      not_full sized =
          ap (λ (w : Machine). is_volume_full w name) after_is
          ∙ ap (λ (o : Option Volume). option_map_or (λ x. nat_lt x.size (use_of x)) o false) (fin.get-insert name_total m.volumes name new name ∙ ap (λ (t : Bool). cond t (Some new) (fin.get m.volumes name)) (itself name))
          ∙ (let nothing = uses_nothing in let a = nothing.0 in let b = nothing.1 in let sum : use_of new ≡ 0 = omega (arith, a, b) in ap (nat_lt size) sum ∙ low size)
        where
          low : (n : ℕ) → nat_lt n 0 ≡ false
          low n = grind (arith, nat_tests)

      commits_after : IsVolume origin.map → NoneHasName states name → commits (effect m command) ≡ sum_of states + committed (ledger_of_empty size kind (span_for origin source.snap.slot size))
      commits_after whole none =
          ap commits after_is ∙ commits_new m name new (has.none name none)
          ∙ (λ j. has.sum j + commits_are whole j)

      blocks_after : (effect m command).blocks ≡ pool.found.blocks
      blocks_after = ap (λ (w : Machine). w.blocks) after_is ∙ has.size

    -- ---- the conditions in their order

    chain : Bool → Bool → Bool → Bool → Bool → Bool → Bool → Bool → Bool → Bool → Option Refusal
    chain a b c d e f g h i j = cond a (Some Range) (cond b (Some NoVolume) (cond c (Some NoSnapshot) (cond d (Some VolumeExists) (cond e (Some VolumeInUse)
        (cond f (Some ParentNotClean) (cond g (Some Range) (cond h (Some TooMany) (cond i (Some VolumeFull) (cond j (Some AggregateFull) None)))))))))

    abbrev split : Bool
    split = of_volume m parent is_splitting

    abbrev unclean : Bool
    unclean = of_volume m parent (λ x. not x.known)

    abbrev wide : Bool
    wide = is_clone_too_wide m parent snapshot size

    abbrev full : Bool
    full = is_volume_full (effect m command) name

    abbrev over : Bool
    over = is_aggregate_full (effect m command)

    tried : refusal m command ≡ chain (not (is_size size)) (is_missing m parent) (lacks_snapshot m parent (Some snapshot)) (is_taken m name) split unclean wide (has_all_volumes m) full over
    unfolding conditions chain
    tried = refl

    missing_no : HasParent states parent → is_missing m parent ≡ false
    missing_no home = ap is_none (parent_is parent home)

    -- what is asked is there
    asked_so : IsAsked states parent snapshot name size → refusal m command ≡ chain false false false false split unclean wide (has_all_volumes m) full over
    asked_so asked = tried ∙ (λ k. chain (not (asked.size_is k)) (missing_no asked.source.home k) (has_snap asked.source k) (is_free name asked.name_is k) split unclean wide (has_all_volumes m) full over)

    -- and the parent can be stood on
    can_so : (asked : IsAsked states parent snapshot name size) (span : ℕ) → CanStand asked.source.home.volume asked.source.snap.slot size span → refusal m command ≡ chain false false false false false false false (has_all_volumes m) full over
    can_so asked span can =
        let whole_is : split ≡ false = split_is parent asked.source.home ∙ can.whole in
        let known_is : unclean ≡ false = of_home parent asked.source.home (λ x. not x.known) ∙ ap not can.known in
        let most : nat_lt greatest_span (span_for asked.source.home.volume asked.source.snap.slot size) ≡ false = (let is = can.span_is in let le = can.most in let fits : span_for asked.source.home.volume asked.source.snap.slot size ≤ greatest_span = omega (arith, is, le) in grind (arith, nat_tests, fits)) in
        let narrow : wide ≡ false = wide_is asked.source can.maps ∙ most in
        asked_so asked ∙ (λ k. chain false false false false (whole_is k) (known_is k) (narrow k) (has_all_volumes m) full over)

    -- So a clone is refused by the machine as it's refused by the volumes,
    pub refused_as : (r : Refusal) → Refuses states pool.found.blocks parent snapshot name size kind r → refusal m command ≡ Some r
    unfolding chain
    refused_as Range (inl is) = tried ∙ (λ k. chain (not (is k)) (is_missing m parent) (lacks_snapshot m parent (Some snapshot)) (is_taken m name) split unclean wide (has_all_volumes m) full over)
    refused_as Range (inr is) =
        let whole_is : split ≡ false = split_is parent is.asked.source.home ∙ is.refuses.whole in
        let known_is : unclean ≡ false = of_home parent is.asked.source.home (λ x. not x.known) ∙ ap not is.refuses.known in
        let far : nat_lt greatest_span (span_for is.asked.source.home.volume is.asked.source.snap.slot size) ≡ true = (let lt = is.refuses.wide in grind (arith, nat_tests, lt)) in
        let broad : wide ≡ true = wide_is is.asked.source is.refuses.maps ∙ far in
        asked_so is.asked ∙ (λ k. chain false false false false (whole_is k) (known_is k) (broad k) (has_all_volumes m) full over)
    refused_as NoVolume is = tried ∙ (λ k. chain (not (is.0 k)) (is_none (has.none parent is.1 k)) (lacks_snapshot m parent (Some snapshot)) (is_taken m name) split unclean wide (has_all_volumes m) full over)
    refused_as NoSnapshot is = tried ∙ (λ k. chain (not (is.0 k)) (missing_no is.1.0 k) (lacks_is parent is.1.0 snapshot is.1.1 k) (is_taken m name) split unclean wide (has_all_volumes m) full over)
    refused_as VolumeExists is = tried ∙ (λ k. chain (not (is.0 k)) (missing_no is.1.0.home k) (has_snap is.1.0 k) (taken name is.1.1.0 is.1.1.1 k) split unclean wide (has_all_volumes m) full over)
    refused_as VolumeInUse is =
        let split_yes : split ≡ true = split_is parent is.asked.source.home ∙ is.refuses in
        asked_so is.asked ∙ (λ k. chain false false false false (split_yes k) unclean wide (has_all_volumes m) full over)
    refused_as ParentNotClean is =
        let whole_is : split ≡ false = split_is parent is.asked.source.home ∙ is.refuses.0 in
        let unknown : unclean ≡ true = of_home parent is.asked.source.home (λ x. not x.known) ∙ ap not is.refuses.1 in
        asked_so is.asked ∙ (λ k. chain false false false false (whole_is k) (unknown k) wide (has_all_volumes m) full over)
    refused_as TooMany is = can_so is.asked is.span is.can ∙ (λ k. chain false false false false false false false (no_more is.lacks k) full over)
    refused_as AggregateFull is =
        let committed_is : committed (ledger_of_empty size kind is.span) ≡ committed (ledger_of_empty size kind (span_for is.asked.source.home.volume is.asked.source.snap.slot size)) = ap (λ (n : ℕ). committed (ledger_of_empty size kind n)) is.can.span_is in
        let over_is : over ≡ true = grind (arith, nat_tests, commits_after is.asked.source is.can.maps is.asked.name_is, blocks_after is.asked.source, committed_is, is.lacks.1.1) in
        can_so is.asked is.span is.can ∙ (λ k. chain false false false false false false false (some_more is.lacks.0 is.lacks.1.0 k) (not_full is.asked.source is.asked.size_is k) (over_is k))
    refused_as r is = absurd is

  -- and one that is admitted is accepted.
  pub accepted : (name : List ℕ) (size : ℕ) (kind : Kind) (a : Admitted) → Admits states pool.found.blocks name size kind a → refusal m (CloneCreate name a.base.name a.base.snapshot size kind) ≡ None
  unfolding chain
  accepted name size kind a is =
      let committed_is : committed (ledger_of_empty size kind a.span) ≡ committed (ledger_of_empty size kind (span_for is.asked.source.home.volume is.asked.source.snap.slot size)) = ap (λ (n : ℕ). committed (ledger_of_empty size kind n)) is.can.span_is in
      let fits : is_aggregate_full (effect m (CloneCreate name a.base.name a.base.snapshot size kind)) ≡ false =
      grind (arith, nat_tests, commits_after a.base.name a.base.snapshot name size kind is.asked.source is.can.maps is.asked.name_is, blocks_after a.base.name a.base.snapshot name size kind is.asked.source, committed_is, is.room) in
      can_so a.base.name a.base.snapshot name size kind is.asked a.span is.can
      ∙ (λ k. chain a.base.name a.base.snapshot name size kind false false false false false false false (some_more a.slot is.free k) (not_full a.base.name a.base.snapshot name size kind is.asked.source is.asked.size_is k) (fits k))

  -- and its span is that of the machine
  pub span_in : (name : List ℕ) (size : ℕ) (kind : Kind) (a : Admitted) → Admits states pool.found.blocks name size kind a → (v : Volume) (t : Table) → fin.get m.volumes a.base.name ≡ Some v → fin.get v.snapshots a.base.snapshot ≡ Some t
      → a.span ≡ span_of size (set.len (ids_of t)) v.span
  span_in name size kind a is v t at kept =
      let source = is.asked.source in
      let its : volume_for disk pool source.home.volume ≡ v = same_Some _ v (sym (parent_is a.base.name source.home) ∙ at) in
      let same : table_told (standing_kept (blocks_in disk pool source.home.volume) source.snap) ≡ t =
      same_Some _ t (sym (table_is a.base.name a.base.snapshot name size kind source) ∙ ap (λ (w : Volume). fin.get w.snapshots a.base.snapshot) its ∙ kept) in
      is.can.span_is ∙ ap (λ (n : ℕ). span_of size n source.home.volume.span) (sym (ids_are a.base.name a.base.snapshot name size kind source is.can.maps))
      ∙ (λ i. span_of size (set.len (ids_of (same i))) ((its i).span))

-- What all volumes commit leaves the capacity room for the overhead of one that is admitted, twice.
pub room_beside : (states : States) (blocks : ℕ) (name : List ℕ) (size : ℕ) (kind : Kind) (a : Admitted) → Admits states blocks name size kind a → sum_of states + 2 * overhead a.span ≤ capacity blocks
room_beside states blocks name size kind a is = let room = is.room in omega (arith, room)
