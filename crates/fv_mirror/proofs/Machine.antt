-- What a machine that volumes stand for says of a mirror: it refuses one as it's refused by the volumes, and accepts one that is admitted.
use Rattle.std.proofs.Common.{◌≡◌, ◌≤◌, ◌+◌, ◌*◌, ℕ, Bool, true, false, cond, not, ◌&&◌, ◌||◌, List, [], ◌∷◌, length, map, Option, Some, None, inl, inr, refl, sym, ap, ◌∙◌, arith}
use Rattle.std.specs.Prelude.{IfSome, nat_lt}
use Rattle.std.specs.Option.{is_none, option_map_or}
use Rattle.std.specs.FinMap as fin
use Rattle.std.specs.FinSet as set
use Rattle.std.proofs.lemmas.Bool.Decides.{nat_tests}
use Rattle.std.proofs.lemmas.Option.{same_Some}
use Rattle.fv_disk.specs.Shown.{Shown as Disk}
use Rattle.fv_charge.specs.Ledgers.{committed}
use Rattle.fv_model.specs.declared.answers.Refusal.{Refusal}
use Rattle.fv_model.specs.declared.answers.Refusal.TheVariants.{NoVolume, VolumeExists, NoSnapshot, VolumeFull, AggregateFull, Range, TooMany}
use Rattle.fv_model.specs.declared.commands.Command.{Command}
use Rattle.fv_model.specs.declared.commands.Command.TheVariants.{Mirror}
use Rattle.fv_model.specs.declared.commands.Kind.{Kind}
use Rattle.fv_model.specs.declared.commands.Kind.TheVariants.{Volume as Whole, File as ByFile, Thin}
use Rattle.fv_model.specs.Effects.{Becomes, Stays, at_snapshot, change_of, changed, effect, mirror_of}
use Rattle.fv_model.specs.Machines.{Machine, capacity}
use Rattle.fv_model.specs.Numbers.{greatest_span, is_size}
use Rattle.fv_model.specs.Places.{Id, id_cmp, ids_of}
use Rattle.fv_model.specs.Refusals.{conditions, has_all_volumes, is_aggregate_full, is_mirror_too_wide, is_missing, is_taken, is_volume_full, lacks_snapshot, of_volume, refusal}
use Rattle.fv_model.specs.Space.{charge, commit, commits, ids_in_any, ids_left_out, kept_ids, map_blocks, need, overhead, span_of, use_of}
use Rattle.fv_model.specs.Spelling.{name_cmp}
use Rattle.fv_model.specs.Tables.{Table}
use Rattle.fv_model.specs.Volumes.{Base as ModelBase, Volume}
use Rattle.fv_laws.proofs.Changes.{itself}
use Rattle.fv_laws.proofs.Commits.{commits_new}
use Rattle.fv_laws.proofs.Orders.{id_total, id_ties, name_total}
use Rattle.fv_laws.proofs.PathCharges.{no_need}
use Rattle.fv_tables.specs.Told.{table_told}
use Rattle.fv_pool.specs.declared.pool.Pool.{Pool}
use Rattle.fv_volmap.specs.Slots.{IsVolume}
use Rattle.fv_volume.specs.declared.state.VolumeState.{VolumeState}
use Rattle.fv_volume.specs.Cloning.{count_in}
use Rattle.fv_volume.specs.Files.{AreNamed}
use Rattle.fv_volume.specs.Held.{IsHeldIn}
use Rattle.fv_volume.specs.Mirroring.{ledger_of_mirror}
use Rattle.fv_volume.specs.OneVolume.{blocks_in, content_for, standing_kept, volume_for, Content}
use Rattle.fv_volume.specs.Promising.{HasVolumes}
use Rattle.fv_volume.specs.Slots.{sum_of, NoneHasName}
use Rattle.fv_volume.specs.States.{States, state_at}
use Rattle.fv_volumes.proofs.Told.{ledger_commit}
use Rattle.fv_clone.specs.Admitting.{HasParent, HasSource, IsAsked}
use Rattle.fv_clone.proofs.Machine as clone
use Rattle.fv_mirror.specs.declared.admitting.Admitted.{Admitted}
use Rattle.fv_mirror.specs.Admitting.{Admits, Refuses}

-- A volume without base and snapshots is charged for the ids of its table.
pub charges_table : (v : Volume) → v.base ≡ None → v.snapshots ≡ fin.empty → charge v ≡ set.len (ids_of v.active)
unfolding charge
charges_table v alone none =
    let no_maps : fin.len v.snapshots ≡ 0 = ap fin.len none ∙ fin.len-empty name_cmp Table in
    let maps : map_blocks v.span * fin.len v.snapshots ≡ 0 = ap (λ n. map_blocks v.span * n) no_maps ∙ nothing (map_blocks v.span) in
    let ids : set.len (set.difference (set.union (ids_of v.active) (kept_ids v)) (ids_left_out v.base)) ≡ set.len (ids_of v.active) =
    ap set.len (set.same_set id_total id_ties _ (ids_of v.active) (λ i.
    set.contains-difference id_total (set.union (ids_of v.active) (kept_ids v)) (ids_left_out v.base) i
    ∙ (λ j. (set.contains-union id_total (ids_of v.active) (kept_ids v) i ∙ ap (λ t. set.contains (ids_of v.active) i || t) (kept_none i)) j && not (left i j))
    ∙ last (set.contains (ids_of v.active) i))) in
    omega (arith, ids, maps)
  where
    nothing : (n : ℕ) → n * 0 ≡ 0
    nothing n = grind (arith)

    nil : {X : Type 0} (es : List X) → length es ≡ 0 → es ≡ []
    nil [] e = refl
    nil (x ∷ es) e = absurd (omega arith)

    no_table : fin.values (fin.empty {K = List ℕ} {X = Table} {R = name_cmp}) ≡ []
    no_table = ap (map (λ (e : List ℕ × Table). e.1)) (nil _ (sym (fin.len-entries (fin.empty {K = List ℕ} {X = Table} {R = name_cmp})) ∙ fin.len-empty name_cmp Table))

    no_values : (m : fin.FinMap name_cmp Table) → fin.len m ≡ 0 → fin.values m ≡ []
    no_values m e = ap (λ (z : fin.FinMap name_cmp Table). fin.values z) (fin.empty_of_len m e) ∙ no_table

    kept_none : (i : Id) → set.contains (kept_ids v) i ≡ false
    kept_none i = ap (λ (ts : List Table). set.contains (ids_in_any ts) i) (no_values v.snapshots (ap fin.len none ∙ fin.len-empty name_cmp Table)) ∙ set.contains-empty id_cmp i

    left : (i : Id) → set.contains (ids_left_out v.base) i ≡ false
    left i = ap (λ (o : Option ModelBase). set.contains (ids_left_out o) i) alone ∙ set.contains-empty id_cmp i

    last : (t : Bool) → ((t || false) && not false) ≡ t
    last true = refl
    last false = refl

module _ (disk : Disk) (pool : Pool) (states : States) (long : length states ≡ 64) (named : AreNamed states) (each : (s : ℕ) → IfSome (state_at states s) (IsHeldIn disk pool s))
    (contents : ℕ → Content) (tells : (s : ℕ) (z : VolumeState) → state_at states s ≡ Some z → contents s ≡ content_for disk pool z) (m : Machine) (has : HasVolumes states contents pool.found.blocks m) where
  module _ (source snapshot name : List ℕ) (size : ℕ) (kind : Kind) where
    abbrev command : Command
    command = Mirror source snapshot name size kind

    -- ---- what it's of

    source_is : (home : HasParent states source) → fin.get m.volumes source ≡ Some (volume_for disk pool home.volume)
    source_is home = clone.parent_is disk pool states long named each contents tells m has source home

    missing_no : HasParent states source → is_missing m source ≡ false
    missing_no home = ap is_none (source_is home)

    of_source : (home : HasParent states source) (test : Volume → Bool) → of_volume m source test ≡ test (volume_for disk pool home.volume)
    of_source home test = clone.of_home disk pool states long named each contents tells m has source home test

    free_is : NoneHasName states name → is_taken m name ≡ false
    free_is none = clone.is_free disk pool states long named each contents tells m has name none

    module _ (at : HasSource states source snapshot) where
      abbrev origin : VolumeState
      origin = at.home.volume

      abbrev old : Volume
      old = volume_for disk pool origin

      abbrev table : Table
      table = table_told (standing_kept (blocks_in disk pool origin) at.snap)

      table_is : fin.get old.snapshots snapshot ≡ Some table
      table_is = clone.table_is disk pool states long named each contents tells m has source snapshot name size kind at

      has_snap : lacks_snapshot m source (Some snapshot) ≡ false
      has_snap = clone.has_snap disk pool states long named each contents tells m has source snapshot name size kind at

      -- its map slot has as many numbers as its table has ids
      ids_are : IsVolume origin.map → set.len (ids_of table) ≡ count_in origin at.snap.slot
      ids_are whole = clone.ids_are disk pool states long named each contents tells m has source snapshot name size kind at whole

      wide_is : is_mirror_too_wide m source size ≡ nat_lt greatest_span (span_of size 0 origin.span)
      wide_is = of_source at.home (λ x. nat_lt greatest_span (span_of size 0 x.span))

      -- ---- the mirror

      abbrev new : Volume
      new = mirror_of old table size kind

      pub becomes : change_of m command ≡ Becomes name new
      unfolding change_of
      becomes =
          ap (λ (o : Option Volume). option_map_or (λ x. at_snapshot x snapshot (λ t. Becomes name (mirror_of x t size kind))) o Stays) (source_is at.home)
          ∙ ap (λ (o : Option Table). option_map_or (λ t. Becomes name (mirror_of old t size kind)) o Stays) table_is

      after_is : effect m command ≡ changed m (Becomes name new)
      after_is = ap (changed m) becomes

      charge_is : IsVolume origin.map → charge new ≡ count_in origin at.snap.slot
      charge_is whole = charges_table new refl refl ∙ ids_are whole

      needs_nothing : need new ≡ 0
      needs_nothing = no_need new (clone.lies disk pool states long named each contents tells m has source snapshot name size kind at).1.reserves

      uses : IsVolume origin.map → use_of new ≡ count_in origin at.snap.slot
      uses whole = let a = charge_is whole in let b = needs_nothing in omega (arith, a, b)

      commits_are : IsVolume origin.map → commit new ≡ committed (ledger_of_mirror (count_in origin at.snap.slot) size kind (span_of size 0 origin.span))
      commits_are whole = sym (ledger_commit new (ledger_of_mirror (count_in origin at.snap.slot) size kind (span_of size 0 origin.span)) (record {
        charged = sym (charge_is whole);
        needed = sym needs_nothing;
        size = refl;
        kind = refl;
        span = refl;
      }))

      -- whether it uses more than its size
      full_is : IsVolume origin.map → is_volume_full (effect m command) name ≡ nat_lt size (count_in origin at.snap.slot)
      full_is whole =
          ap (λ (w : Machine). is_volume_full w name) after_is
          ∙ ap (λ (o : Option Volume). option_map_or (λ x. nat_lt x.size (use_of x)) o false) (fin.get-insert name_total m.volumes name new name ∙ ap (λ (t : Bool). cond t (Some new) (fin.get m.volumes name)) (itself name))
          ∙ ap (nat_lt size) (uses whole)

      commits_after : IsVolume origin.map → NoneHasName states name → commits (effect m command) ≡ sum_of states + committed (ledger_of_mirror (count_in origin at.snap.slot) size kind (span_of size 0 origin.span))
      commits_after whole none =
          ap commits after_is ∙ commits_new m name new (has.none name none)
          ∙ (λ j. has.sum j + commits_are whole j)

      blocks_after : (effect m command).blocks ≡ pool.found.blocks
      blocks_after = ap (λ (w : Machine). w.blocks) after_is ∙ has.size

    -- ---- the conditions in their order

    chain : Bool → Bool → Bool → Bool → Bool → Bool → Bool → Bool → Option Refusal
    chain a b c d e f g h = cond a (Some Range) (cond b (Some NoVolume) (cond c (Some NoSnapshot) (cond d (Some VolumeExists) (cond e (Some Range)
        (cond f (Some TooMany) (cond g (Some VolumeFull) (cond h (Some AggregateFull) None)))))))

    abbrev wide : Bool
    wide = is_mirror_too_wide m source size

    abbrev full : Bool
    full = is_volume_full (effect m command) name

    abbrev over : Bool
    over = is_aggregate_full (effect m command)

    tried : refusal m command ≡ chain (not (is_size size)) (is_missing m source) (lacks_snapshot m source (Some snapshot)) (is_taken m name) wide (has_all_volumes m) full over
    unfolding conditions chain
    tried = refl

    -- what is asked is there
    asked_so : IsAsked states source snapshot name size → refusal m command ≡ chain false false false false wide (has_all_volumes m) full over
    asked_so asked = tried ∙ (λ k. chain (not (asked.size_is k)) (missing_no asked.source.home k) (has_snap asked.source k) (free_is asked.name_is k) wide (has_all_volumes m) full over)

    -- and its span is one that a volume can have
    narrow_so : (asked : IsAsked states source snapshot name size) → span_of size 0 asked.source.home.volume.span ≤ greatest_span → refusal m command ≡ chain false false false false false (has_all_volumes m) full over
    narrow_so asked most =
        let fits : nat_lt greatest_span (span_of size 0 asked.source.home.volume.span) ≡ false = grind (arith, nat_tests, most) in
        asked_so asked ∙ (λ k. chain false false false false ((wide_is asked.source ∙ fits) k) (has_all_volumes m) full over)

    -- So a mirror is refused by the machine as it's refused by the volumes,
    pub refused_as : (r : Refusal) → Refuses states pool.found.blocks source snapshot name size kind r → refusal m command ≡ Some r
    unfolding chain
    refused_as Range (inl is) = tried ∙ (λ k. chain (not (is k)) (is_missing m source) (lacks_snapshot m source (Some snapshot)) (is_taken m name) wide (has_all_volumes m) full over)
    refused_as Range (inr is) =
        let far : nat_lt greatest_span (span_of size 0 is.asked.source.home.volume.span) ≡ true = (let lt = is.lacks in grind (arith, nat_tests, lt)) in
        asked_so is.asked ∙ (λ k. chain false false false false ((wide_is is.asked.source ∙ far) k) (has_all_volumes m) full over)
    refused_as NoVolume is = tried
        ∙ (λ k. chain (not (is.0 k)) (is_none (has.none source is.1 k)) (lacks_snapshot m source (Some snapshot)) (is_taken m name) wide (has_all_volumes m) full over)
    refused_as NoSnapshot is = tried
        ∙ (λ k. chain (not (is.0 k)) (missing_no is.1.0 k) (clone.lacks_is disk pool states long named each contents tells m has source is.1.0 snapshot is.1.1 k) (is_taken m name) wide (has_all_volumes m) full over)
    refused_as VolumeExists is = tried
        ∙ (λ k. chain (not (is.0 k)) (missing_no is.1.0.home k) (has_snap is.1.0 k) (clone.taken disk pool states long named each contents tells m has name is.1.1.0 is.1.1.1 k) wide (has_all_volumes m) full over)
    refused_as TooMany is = narrow_so is.asked is.lacks.0 ∙ (λ k. chain false false false false false (clone.no_more disk pool states long named each contents tells m has is.lacks.1 k) full over)
    refused_as VolumeFull is =
        let above : nat_lt size (count_in is.asked.source.home.volume is.asked.source.snap.slot) ≡ true = (let lt = is.lacks.1.1.1 in grind (arith, nat_tests, lt)) in
        narrow_so is.asked is.lacks.0
        ∙ (λ k. chain false false false false false (clone.some_more disk pool states long named each contents tells m has is.lacks.1.0 is.lacks.1.1.0 k) ((full_is is.asked.source is.maps ∙ above) k) over)
    refused_as AggregateFull is =
        let fits : nat_lt size (count_in is.asked.source.home.volume is.asked.source.snap.slot) ≡ false = (let le = is.lacks.1.0 in grind (arith, nat_tests, le)) in
        let over_is : over ≡ true = grind (arith, nat_tests, commits_after is.asked.source is.maps is.asked.name_is, blocks_after is.asked.source, is.lacks.1.1.1.1) in
        narrow_so is.asked is.lacks.0
        ∙ (λ k. chain false false false false false (clone.some_more disk pool states long named each contents tells m has is.lacks.1.1.0 is.lacks.1.1.1.0 k) ((full_is is.asked.source is.maps ∙ fits) k) (over_is k))
    refused_as r is = absurd is

  module _ (name : List ℕ) (size : ℕ) (kind : Kind) (a : Admitted) (is : Admits states pool.found.blocks name size kind a) where
    abbrev v : VolumeState
    v = is.asked.source.home.volume

    abbrev s : List ℕ
    s = a.source.name

    abbrev t : List ℕ
    t = a.source.snapshot

    -- and one that is admitted is accepted.
    pub accepted : refusal m (Mirror s t name size kind) ≡ None
    unfolding chain
    accepted =
        let committed_is : committed (ledger_of_mirror a.count size kind a.span) ≡ committed (ledger_of_mirror (count_in v is.asked.source.snap.slot) size kind (span_of size 0 v.span)) = (λ i. committed (ledger_of_mirror (is.count_is i) size kind (is.span_is i))) in
        let over_is : is_aggregate_full (effect m (Mirror s t name size kind)) ≡ false =
        grind (arith, nat_tests, commits_after s t name size kind is.asked.source is.maps is.asked.name_is, blocks_after s t name size kind is.asked.source, committed_is, is.room) in
        let fits : nat_lt size (count_in v is.asked.source.snap.slot) ≡ false = (let le = is.fits in let counted = is.count_is in grind (arith, nat_tests, le, counted)) in
        narrow_so s t name size kind is.asked (let most = is.most in let wide = is.span_is in omega (arith, most, wide))
        ∙ (λ k. chain s t name size kind false false false false false (clone.some_more disk pool states long named each contents tells m has a.slot is.free k) ((full_is s t name size kind is.asked.source is.maps ∙ fits) k) (over_is k))

    -- Its span and its charge are those of the machine's mirror, which has the table of the machine's snapshot.
    module _ (x : Volume) (ids : Table) (at : fin.get m.volumes s ≡ Some x) (kept : fin.get x.snapshots t ≡ Some ids) where
      its : volume_for disk pool v ≡ x
      its = same_Some _ x (sym (source_is s t name size kind is.asked.source.home) ∙ at)

      same : table_told (standing_kept (blocks_in disk pool v) is.asked.source.snap) ≡ ids
      same = same_Some _ ids (sym (table_is s t name size kind is.asked.source) ∙ ap (λ (w : Volume). fin.get w.snapshots t) its ∙ kept)

      pub span_in : a.span ≡ span_of size 0 x.span
      span_in = is.span_is ∙ ap (λ (w : Volume). span_of size 0 w.span) its

      pub count_now : a.count ≡ set.len (ids_of ids)
      count_now = is.count_is ∙ sym (ids_are s t name size kind is.asked.source is.maps) ∙ ap (λ (u : Table). set.len (ids_of u)) same

-- What all volumes commit leaves the capacity room for the overhead of one that is admitted, twice, and for its copies.
pub room_beside : (states : States) (blocks : ℕ) (name : List ℕ) (size : ℕ) (kind : Kind) (a : Admitted) → Admits states blocks name size kind a → sum_of states + 2 * overhead a.span + a.count ≤ capacity blocks
room_beside states blocks name size kind a is = let room = is.room in let fits = is.fits in let least = promises kind in omega (arith, room, fits, least)
  where
    promises : (k : Kind) → 2 * overhead a.span + a.count ≤ committed (ledger_of_mirror a.count size k a.span)
    promises Whole = let fits = is.fits in omega (arith, fits)
    promises ByFile = omega arith
    promises Thin = omega arith
