-- A volume of a session between points has 256 free numbers at least: a place of the active table or of a snapshot's leads to each number that is
-- taken, and the volume is charged for the id at that place.
--
-- An example: a snapshot has a block of a file under VVBN 9, and the active table has the same block under the same id, and a new one under VVBN 12.
-- So two numbers are taken, and two ids are charged: the shared one leads to 9 in both tables, and the new one to 12.
use Rattle.std.proofs.Common.{◌≡◌, ◌≢◌, ℕ, ◌+◌, ◌*◌, ◌<◌, ◌≤◌, Bool, true, false, cond, List, [], ◌∷◌, length, map, inl, inr, refl, sym, ap, subst, ◌∙◌, arith, ⊎_elim}
use Rattle.std.specs.Prelude.{All, Option, Some, None, ◌==◌, min, IfSome}
use Rattle.std.specs.List.{list_any}
use Rattle.std.specs.FinMap as fin
use Rattle.std.specs.FinSet as set
use Rattle.std.proofs.lemmas.Bool.{both_ways, cases_Bool, cases_eq, or_left, or_right}
use Rattle.std.proofs.lemmas.Bool.Decides.{nat_tests}
use Rattle.std.proofs.lemmas.List.{length-map}
use Rattle.fv_disk.specs.Shown.{Shown as Disk}
use Rattle.fv_bits.specs.Members.{is_member}
use Rattle.fv_bits.proofs.Counts.{passing}
use Rattle.fv_codec.specs.declared.pointer.Pointer.{Pointer}
use Rattle.fv_model.specs.Places.{Id, Ids, id_cmp, ids_of, placed}
use Rattle.fv_model.specs.Space.{base_ids, charge, ids_left_out, kept_ids, map_blocks}
use Rattle.fv_laws.proofs.Counts.{len_union}
use Rattle.fv_model.specs.Volumes.{Volume}
use Rattle.fv_laws.proofs.Lists.{In, any_in, from_map, in_either, in_map}
use Rattle.fv_laws.proofs.Orders.{id_ties, id_total}
use Rattle.fv_laws.proofs.Tests.{to_any}
use Rattle.fv_tables.specs.Reached.{is_listed, items}
use Rattle.fv_tables.specs.Spelled.{Under}
use Rattle.fv_tables.specs.Told.{standing_at, table_told}
use Rattle.fv_tree.specs.Flushing.{Loaded}
use Rattle.fv_tree.specs.Sources.{Use}
use Rattle.fv_tree.specs.Standing.{under}
use Rattle.fv_files.specs.declared.files.Files.{Files}
use Rattle.fv_files.specs.Apart.{Trees, LeadsFrom, LeadsIn, AreLed}
use Rattle.fv_files.specs.Sharing.{owner_in}
use Rattle.fv_image.proofs.Counts.{listed_within, none_between, others, within_two}
use Rattle.fv_volmap.specs.Slots.{active_of, has, slot_at, slot_of_base, taken_in}
use Rattle.fv_pool.specs.declared.pool.Pool.{Pool}
use Rattle.fv_pool.specs.declared.rooted.Rooted.{Rooted}
use Rattle.fv_volume.specs.declared.state.Base.{Base as StateBase}
use Rattle.fv_volume.specs.declared.state.Snap.{Snap}
use Rattle.fv_volume.specs.declared.state.VolumeState.{VolumeState}
use Rattle.fv_pool.specs.BlocksOver.{free_numbers}
use Rattle.fv_volume.specs.Files.{IsLabelled}
use Rattle.fv_volume.specs.Held.{pending_by, HasNumbers, IsHeldIn}
use Rattle.fv_volume.specs.Labels.{label_said}
use Rattle.fv_pool.specs.Tables.{standing_by, AreLedBy, trees_by}
use Rattle.fv_volume.specs.OneVolume.{blocks_in, shows, standing_kept, trees_for, volume_for, IsKeptTable, IsStanding, base_by, base_table, tables_of}
use Rattle.fv_volume.specs.Placing.{IsLedTo}
use Rattle.fv_volume.specs.Sharing.{pointer_in, trees_kept, SharesWith}
use Rattle.fv_volume.proofs.EachRoot.{all_in}
use Rattle.fv_volume.proofs.KeptStamps.{stamp_some}
use Rattle.fv_volume.proofs.ActiveSlot.{active_has}
use Rattle.fv_volume.proofs.SettledTables.{LeadsHere, few_levels, has_used, listed_at, number_of, taken_some, kept_found}
use Rattle.fv_pool.proofs.Shows.{unused_member}
use Rattle.fv_volume.proofs.TablesOf.{is_whole}
use Rattle.fv_volume.proofs.SnapIds.{by_stamp, has_id, in_kept}

-- ---- sets of ids as lists

-- the ids of a list, each once
abbrev once : List Id → List Id
once [] = []
once (i ∷ is) = cond (set.contains (set.from_list {R = id_cmp} is) i) (once is) (i ∷ once is)

-- they are as many as the set has
count_once : (is : List Id) → length (once is) ≡ set.len (set.from_list {R = id_cmp} is)
count_once [] = sym (set.len-empty id_cmp)
count_once (i ∷ is) = so (count_once is) (set.contains (set.from_list {R = id_cmp} is) i) ∙ sym (set.len-insert id_total (set.from_list {R = id_cmp} is) i)
  where
    so : length (once is) ≡ set.len (set.from_list {R = id_cmp} is) → (b : Bool) → length (cond b (once is) (i ∷ once is)) ≡ cond b (set.len (set.from_list {R = id_cmp} is)) (set.len (set.from_list {R = id_cmp} is) + 1)
    so rest true = rest
    so rest false = omega (arith, rest)

-- and none is lost
in_once : (q : Id) (is : List Id) → In q is → In q (once is)
in_once q [] there = absurd there
in_once q (i ∷ is) there = so (λ later. in_once q is later) (set.contains (set.from_list {R = id_cmp} is) i) refl
  where
    so : (In q is → In q (once is)) → (b : Bool) → set.contains (set.from_list {R = id_cmp} is) i ≡ b → In q (cond b (once is) (i ∷ once is))
    so rest true twice = rest (⊎_elim (λ (same : i ≡ q). subst (λ (j : Id). In j is) same (any_in id_ties i is (sym (set.contains-from_list id_total is i) ∙ twice))) (λ later. later) there)
    so rest false new = ⊎_elim (λ (same : i ≡ q). inl same) (λ later. inr (rest later)) there

module _ (s : Ids) (f : Id → ℕ) where
  -- where the ids of a set lead
  abbrev all_led : List ℕ
  all_led = map f (once (set.items s))

  -- as many numbers as ids
  count_led : length all_led ≡ set.len s
  count_led =
      let same : set.from_list {R = id_cmp} (set.items s) ≡ s = set.same_set id_total id_ties _ s (λ q. set.contains-from_list id_total (set.items s) q ∙ sym (set.contains-items s q)) in
      length-map (once (set.items s)) f ∙ count_once (set.items s) ∙ ap (λ (t : Ids). set.len t) same

  -- and each id's is one of them
  led_there : (i : Id) → set.contains s i ≡ true → list_any (λ k. k == f i) all_led ≡ true
  led_there i has = to_any (λ k. k == f i) (f i) all_led (in_map f i (once (set.items s)) (in_once i (set.items s) (any_in id_ties i (set.items s) (sym (set.contains-items s i) ∙ has)))) (itself (f i))
    where
      itself : (n : ℕ) → (n == n) ≡ true
      itself n = grind (arith, nat_tests)

-- Of a range at most as many pass as a list has, where each is in it.
all_within : (p : ℕ → Bool) (ks : List ℕ) → ((v : ℕ) → p v ≡ true → list_any (λ k. k == v) ks ≡ true) → (n : ℕ) → passing p 0 n ≤ length ks
all_within p ks each n =
    let two = within_two p (λ v. list_any (λ k. k == v) ks) (λ v. false) 0 n (λ v. weaker (p v) (list_any (λ k. k == v) ks) (each v)) in
    let none = none_between (λ v. false) 0 n (λ v low high. refl) in
    omega (arith, two, none, listed_within ks 0 n)
  where
    weaker : (a b : Bool) → (a ≡ true → b ≡ true) → cond {A = ℕ} a 1 0 ≤ cond b 1 0 + cond false 1 0
    weaker false b is = omega arith
    weaker true b is = subst (λ (t : Bool). 1 ≤ cond t 1 0 + cond {A = ℕ} false 1 0) (sym (is refl)) (omega arith)

-- ---- where ids lead

-- the pointer of a table at the place of an id
abbrev at_id : Trees → Id → Pointer
at_id t i = pointer_in (t (number_of i.0.owner)) i.0.level i.0.index

-- where the first of some tables leads that has an id
abbrev led_by : List Trees → Id → ℕ
led_by [] i = 0
led_by (t ∷ ts) i = cond ((at_id t i).stamp == i.1) (at_id t i).vvbn (led_by ts i)

-- It's where each does that has it, if they agree.
led_as : (ts : List Trees) (i : Id) (v : ℕ) (t : Trees) → In t ts → (at_id t i).stamp ≡ i.1 → ((u : Trees) → In u ts → (at_id u i).stamp ≡ i.1 → (at_id u i).vvbn ≡ v) → led_by ts i ≡ v
led_as [] i v t there stamp each = absurd there
led_as (u ∷ us) i v t there stamp each = so ((at_id u i).stamp == i.1) refl (λ later. led_as us i v t later stamp (λ w one. each w (inr one)))
  where
    so : (b : Bool) → ((at_id u i).stamp == i.1) ≡ b → (In t us → led_by us i ≡ v) → cond b (at_id u i).vvbn (led_by us i) ≡ v
    so true same rest = each u (inl refl) (grind (arith, nat_tests, same))
    so false other rest = ⊎_elim
        (λ (first : u ≡ t). absurd (both_ways ((at_id t i).stamp == i.1) (ap (λ (w : Trees). (at_id w i).stamp == i.1) (sym first) ∙ other) (let test : ((at_id t i).stamp == i.1) ≡ true = grind (arith, nat_tests, stamp) in test)))
        (λ later. rest later)
        there

-- Two tables agree if both lead to one VVBN at each place where they have one id.
abbrev Agree : Trees → Trees → Type 0
Agree t u = (o : Option ℕ) (level index : ℕ) → (pointer_in (t o) level index).stamp ≢ 0 → (pointer_in (u o) level index).stamp ≡ (pointer_in (t o) level index).stamp → (pointer_in (u o) level index).vvbn ≡ (pointer_in (t o) level index).vvbn

-- so do two that share their blocks, either way
agree : (t u : Trees) → SharesWith t u → Agree t u
agree t u shares o level index some stamp = let one = shares.same o level index some stamp in one.second.vvbn ∙ sym one.first.vvbn

agree_back : (t u : Trees) → SharesWith t u → Agree u t
agree_back t u shares o level index some stamp = let one = shares.same o level index (λ none. some (sym stamp ∙ none)) (sym stamp) in one.first.vvbn ∙ sym one.second.vvbn

-- a tree, where there is one, leads to a VVBN at a place
in_tree : (t : Trees) (a : Option ℕ) (v : ℕ) → LeadsFrom t a v → LeadsHere t v
in_tree t a v leads =
    let at = so (t a) leads in
    record { owner = a; level = at.0; index = at.1.0; some = at.1.1.0; vvbn = at.1.1.1 }
  where
    so : (o : Option Loaded) → LeadsIn o v → (level : ℕ) × ((index : ℕ) × (((pointer_in o level index).stamp ≢ 0) × ((pointer_in o level index).vvbn ≡ v)))
    so None here = absurd here
    so (Some s) here = (here.level, (here.place, (here.leads.some, here.leads.vvbn)))

-- what is in use is led to by the trees of a table, wherever they are
led_by_trees : (blocks : Under) (root : Rooted) (files : Option Files) (used : ℕ → Option Use) → AreLedBy blocks used root files → AreLed used (trees_by blocks root files)
led_by_trees blocks root None used led = led
led_by_trees blocks root (Some f) used led = led

-- an id of a table is at each place that leads somewhere
place_id : (blocks : Under) (root : Rooted) (files : Option Files) (o : Option ℕ) (level index : ℕ) → (pointer_in (trees_by blocks root files o) level index).stamp ≢ 0
    → set.contains (ids_of (table_told (standing_by blocks root files))) (placed (owner_in o) (level, index), (pointer_in (trees_by blocks root files o) level index).stamp) ≡ true
place_id blocks root files o level index some =
    let q : Pointer = pointer_in (trees_by blocks root files o) level index in
    has_id (table_told (standing_by blocks root files)) (owner_in o) level index q.stamp (by_stamp blocks root files o level index ∙ stamp_some q some)

-- a tree's owner has the tree's number
own_number : (o : Option ℕ) → number_of (owner_in o) ≡ o
own_number None = refl
own_number (Some n) = refl

-- ---- a volume

module _ (d : Disk) (p : Pool) (x : VolumeState) (is : IsStanding d p x) (labelled : IsLabelled x.slot x) (led : IsLedTo d p x) where
  abbrev blocks : ℕ → Under
  blocks = blocks_in d p x

  abbrev told : Volume
  told = volume_for d p x

  -- the trees of the active table, and those of each table that is kept
  abbrev tables : List Trees
  tables = trees_for d p x ∷ map (trees_kept blocks) (tables_of x)

  -- the ids of all of them: those that the volume is charged for, and those of its base
  abbrev charged : Ids
  charged = set.union (base_ids told.base) (set.union (ids_of told.active) (kept_ids told))

  own_in : (i : Id) → set.contains (set.union (ids_of told.active) (kept_ids told)) i ≡ true → set.contains charged i ≡ true
  own_in i one = set.contains-union id_total (base_ids told.base) (set.union (ids_of told.active) (kept_ids told)) i ∙ or_right (set.contains (base_ids told.base) i) _ one

  in_active : (i : Id) → set.contains (ids_of told.active) i ≡ true → set.contains charged i ≡ true
  in_active i one = own_in i (set.contains-union id_total (ids_of told.active) (kept_ids told) i ∙ or_left (set.contains (ids_of told.active) i) _ one)

  of_kept : (q : Snap) → In q (tables_of x) → (i : Id) → set.contains (ids_of (table_told (standing_kept blocks q))) i ≡ true → set.contains charged i ≡ true
  of_kept q there i one = ⊎_elim
      (λ based. set.contains-union id_total (base_ids told.base) (set.union (ids_of told.active) (kept_ids told)) i ∙ or_left (set.contains (base_ids told.base) i) _ (of_base x.base based))
      (λ kept. own_in i (set.contains-union id_total (ids_of told.active) (kept_ids told) i ∙ or_right (set.contains (ids_of told.active) i) _ (in_kept blocks x.snapshots is.names q kept i one)))
      (in_either q (base_table x.base) x.snapshots there)
    where
      of_base : (o : Option StateBase) → In q (base_table o) → set.contains (base_ids (base_by blocks o)) i ≡ true
      of_base None none = absurd none
      of_base (Some b) (inr none) = absurd none
      of_base (Some b) (inl same) = ap (λ (r : Snap). set.contains (ids_of (table_told (standing_kept blocks r))) i) same ∙ one

  -- whether one of them leads to a number
  abbrev is_led : ℕ → Bool
  is_led v = list_any (λ k. k == v) (all_led charged (led_by tables))

  -- To what a table leads an id leads that is charged, if all of the table's are and it agrees with each table.
  hit : (t : Trees) → In t tables → ((u : Trees) → In u tables → Agree t u)
      → ((o : Option ℕ) (level index : ℕ) → (pointer_in (t o) level index).stamp ≢ 0 → set.contains charged (placed (owner_in o) (level, index), (pointer_in (t o) level index).stamp) ≡ true) → (v : ℕ) → LeadsHere t v → is_led v ≡ true
  hit t there agrees ids v leads =
      let i : Id = (placed (owner_in leads.owner) (leads.level, leads.index), (pointer_in (t leads.owner) leads.level leads.index).stamp) in
      let at : (u : Trees) → at_id u i ≡ pointer_in (u leads.owner) leads.level leads.index = λ u. ap (λ (o : Option ℕ). pointer_in (u o) leads.level leads.index) (own_number leads.owner) in
      let goes : led_by tables i ≡ v = led_as tables i v t there (ap (λ (q : Pointer). q.stamp) (at t))
      (λ u one stamp. ap (λ (q : Pointer). q.vvbn) (at u) ∙ agrees u one leads.owner leads.level leads.index leads.some (ap (λ (q : Pointer). q.stamp) (sym (at u)) ∙ stamp) ∙ leads.vvbn) in
      subst (λ (k : ℕ). is_led k ≡ true) goes (led_there charged (led_by tables) i (ids leads.owner leads.level leads.index leads.some))

  -- so it is with the active table,
  active_led : (v : ℕ) → LeadsHere (trees_for d p x) v → is_led v ≡ true
  active_led = hit (trees_for d p x) (inl refl)
      (λ u there. ⊎_elim
      (λ (same : trees_for d p x ≡ u). subst (Agree (trees_for d p x)) same (λ o level index some stamp. refl))
      (λ later. let q = from_map (trees_kept blocks) u (tables_of x) later in
      subst (Agree (trees_for d p x)) q.2 (agree (trees_for d p x) (trees_kept blocks q.0) (all_in (λ (q : Snap). SharesWith (trees_for d p x) (trees_kept blocks q)) (tables_of x) is.shared.active q.0 q.1)))
      there)
      (λ o level index some.
      let i : Id = (placed (owner_in o) (level, index), (pointer_in (trees_for d p x o) level index).stamp) in
      in_active i (place_id (under (shows d p x)) x.active x.files o level index some))

  -- and with that of each snapshot
  kept_led : (q : Snap) → In q (tables_of x) → (v : ℕ) → LeadsHere (trees_kept blocks q) v → is_led v ≡ true
  kept_led q one = hit (trees_kept blocks q) (inr (in_map (trees_kept blocks) q (tables_of x) one))
      (λ u there. ⊎_elim
      (λ (same : trees_for d p x ≡ u). subst (Agree (trees_kept blocks q)) same (agree_back (trees_for d p x) (trees_kept blocks q) (all_in (λ (q : Snap). SharesWith (trees_for d p x) (trees_kept blocks q)) (tables_of x) is.shared.active q one)))
      (λ later. let r = from_map (trees_kept blocks) u (tables_of x) later in
      subst (Agree (trees_kept blocks q)) r.2 (agree (trees_kept blocks q) (trees_kept blocks r.0) (all_in (λ (r : Snap). SharesWith (trees_kept blocks q) (trees_kept blocks r)) (tables_of x) (among q one) r.0 r.1)))
      there)
      (λ o level index some.
      let i : Id = (placed (owner_in o) (level, index), (pointer_in (trees_kept blocks q o) level index).stamp) in
      of_kept q one i (place_id (blocks q.slot) q.table None o level index some))
    where
      among : (q : Snap) → In q (tables_of x) → All (λ (r : Snap). SharesWith (trees_kept blocks q) (trees_kept blocks r)) (tables_of x)
      among q one = all_in (λ (q : Snap). All (λ (r : Snap). SharesWith (trees_kept blocks q) (trees_kept blocks r)) (tables_of x)) (tables_of x) is.shared.kept q one

  -- What the active map has the active table leads to.
  active_taken : (v : ℕ) → is_member (active_of x.map) v ≡ true → is_led v ≡ true
  active_taken v member = ⊎_elim
      (λ yes. yes)
      (λ (isnt : is_led v ≡ false).
      let unused : (shows d p x).used v ≡ None = led_by_trees (under (shows d p x)) x.active x.files (shows d p x).used led v (λ a here. both_ways (is_led v) isnt (active_led v (in_tree (trees_for d p x) a v here))) in
      absurd (both_ways (is_member (active_of x.map) v) (unused_member x.map p.containers x.slot v unused) member))
      (cases_Bool (is_led v))

  -- What any slot has its table leads to.
  slot_taken : (k v : ℕ) → has v (slot_at x.map k) ≡ true → is_led v ≡ true
  slot_taken k v here = ⊎_elim
      (λ (first : k ≡ 0). active_taken v (sym (active_has x.map v) ∙ ap (λ (n : ℕ). has v (slot_at x.map n)) (sym first) ∙ here))
      (λ (other : k ≢ 0).
      let q = kept_found d p x is labelled k other (has_used (slot_at x.map k) v here) in
      let kept = all_in (IsKeptTable d p x) (tables_of x) is.kept q.0 q.1.0 in
      let listed : is_listed (items (standing_kept blocks q.0)) v ≡ true = sym (kept.1.reach v) ∙ ap (λ (n : ℕ). has v (slot_at x.map n)) q.1.1 ∙ here in
      kept_led q.0 q.1.0 v (listed_at (blocks q.0.slot) q.0.table.levels q.0.table.root (few_levels x.now (blocks q.0.slot) q.0.table.levels q.0.table.root kept.1.table) v listed))
      (cases_eq k 0)

  -- the ids of all tables are those that it is charged for and those of its base
  all_ids : set.len charged ≡ set.len (base_ids told.base) + set.len (set.difference (set.union (ids_of told.active) (kept_ids told)) (ids_left_out told.base))
  all_ids = len_union id_total id_ties (base_ids told.base) (set.union (ids_of told.active) (kept_ids told))
      ∙ ap (λ (s : Ids). set.len (base_ids told.base) + set.len (set.difference (set.union (ids_of told.active) (kept_ids told)) s)) (sym (left x.base (is_whole x.slot x labelled)))
    where
      left : (o : Option StateBase) → IfSome o (λ b. b.splitting ≡ false) → ids_left_out (base_by blocks o) ≡ base_ids (base_by blocks o)
      left None w = refl
      left (Some b) w = ap (λ (t : Bool). cond t set.empty (ids_of (table_told (standing_at (blocks slot_of_base) b.table.levels b.table.root)))) w

  -- So at most as many are taken as the volume is charged for and its base has.
  taken_within : passing (taken_in x.map.slots) 0 x.map.span ≤ x.ledger.charge + set.len (base_ids told.base)
  unfolding charge
  taken_within =
      let taken = all_within (taken_in x.map.slots) (all_led charged (led_by tables)) (λ v one. let at = taken_some x.map.slots v one in slot_taken at.0 v at.1) x.map.span in
      less (passing (taken_in x.map.slots) 0 x.map.span) (length (all_led charged (led_by tables))) (set.len charged) _ (map_blocks told.span * fin.len told.snapshots) x.ledger.charge (set.len (base_ids told.base)) taken (count_led charged (led_by tables)) all_ids is.ledger.charged
    where
      less : (a b c own maps all base : ℕ) → a ≤ b → b ≡ c → c ≡ base + own → all ≡ own + maps → a ≤ all + base
      less a b c own maps all base within same parts sum = omega (arith, within, same, parts, sum)

-- A volume of a session between points has 256 free numbers at least.
pub free_enough : (disk : Disk) (pool : Pool) (s : ℕ) (x : VolumeState) → IsHeldIn disk pool s x → 256 ≤ free_numbers x.map
unfolding free_numbers label_said
free_enough disk pool s x held =
    let labelled = held.ready.labelled in
    let size : x.size ≤ min 500000 x.most = (labelled.label 0 1 (omega arith) (omega arith) (omega arith)).size_greatest in
    omega (arith, size, others (taken_in x.map.slots) 0 x.map.span, taken_within disk pool x held.stands labelled held.led, labelled.map, held.wide, held.within)

-- So it has more than are pending, where fewer than 256 are.
pub has_numbers : (disk : Disk) (pool : Pool) (s : ℕ) (o : Option VolumeState) → IfSome o (IsHeldIn disk pool s) → pending_by o < 256 → HasNumbers o
has_numbers disk pool s None held few = tt
has_numbers disk pool s (Some x) held few = λ files. let enough = free_enough disk pool s x held in omega (arith, few, enough)
