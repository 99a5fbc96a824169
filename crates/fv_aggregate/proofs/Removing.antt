-- A session from which a volume was removed: where it stands, and for which machine.
use Rattle.std.proofs.Common.{◌≡◌, ◌≢◌, ◌+◌, ◌≤◌, ⊎_elim, ℕ, zero, suc, Bool, true, false, cond, List, [], ◌∷◌, length, Option, Some, None, Result, Ok, Err, refl, sym, ap, subst, ◌∙◌, arith}
use Rattle.std.specs.Prelude.{IsTrue, sum_by}
use Rattle.std.specs.Ordering.{eq_by_cmp, is_eq}
use Rattle.std.specs.FinMap as fin
use Rattle.std.specs.FinMap.{find}
use Rattle.std.proofs.lemmas.Bool.{cases_eq}
use Rattle.fv_disk.specs.Shown.{Image, Shown, IsSettled}
use Rattle.fv_disk.specs.DiskCalls.{OnlyReads}
use Rattle.fv_bits.specs.Members.{is_member}
use Rattle.fv_model.specs.Machines.{Machine, capacity}
use Rattle.fv_model.specs.Spelling.{name_cmp}
use Rattle.fv_model.specs.Volumes.{Volume}
use Rattle.fv_model.specs.Effects.{changed, Goes}
use Rattle.fv_laws.proofs.Changes.{same_name}
use Rattle.fv_laws.proofs.Orders.{name_total, name_ties}
use Rattle.fv_image.specs.Held.{layout_at, view_at, AllKeep}
use Rattle.fv_image.specs.Maps.{map_bit}
use Rattle.fv_image.specs.Views.{overheads}
use Rattle.fv_image.specs.WholeMachine.{Tells}
use Rattle.fv_root.specs.declared.find.Found.{Found}
use Rattle.fv_root.specs.Commits.{IsFoundOn}
use Rattle.fv_root.specs.Finding.{root_found, IsInRange}
use Rattle.fv_store.specs.Held.{StandsOn}
use Rattle.fv_container.specs.Chains.{TellsEntries, container_at, paged_at}
use Rattle.fv_pool.specs.declared.fault.VolumeFault.{VolumeFault}
use Rattle.fv_pool.specs.declared.pool.Pool.{Pool}
use Rattle.fv_volume.specs.declared.state.VolumeState.{VolumeState}
use Rattle.fv_volumes.specs.Destroying.{Destroys, IsDestroyed, IsGone}
use Rattle.fv_volumes.specs.Footing.{is_stood_on}
use Rattle.fv_volume.specs.OneVolume.{volume_for}
use Rattle.fv_volume.specs.Slots.{is_named, NoneHasName}
use Rattle.fv_volume.specs.States.{States, state_at, with_state}
use Rattle.fv_volume.specs.Stored.{AreSpacedIn}
use Rattle.fv_volumes.specs.UnderRoot.{IsLentAt, IsMapOf}
use Rattle.fv_volume.specs.Writing.{IsTaken}
use Rattle.fv_volumes.proofs.DestroyedOthers.{beside_volume, footed_left, held_left, spaced_left}
use Rattle.fv_volumes.proofs.Made.{to_pair}
use Rattle.fv_volumes.proofs.PlacedIn.{found_read, keeps_read}
use Rattle.fv_volumes.proofs.Removed.{each_left, empty_state, given_within, housed_left, lent_left, names_left, other_state, ready_left, sum_left, sum_less, unkept_left}
use Rattle.fv_volumes.proofs.Told.{named_from, same_named}
use Rattle.fv_cp.specs.Held.{machine_held, IsHeld, IsHeldIn}
use Rattle.fv_cp.specs.Lent.{FitTogether, asked_by, blocks_asked, waiting_by}
use Rattle.fv_cp.specs.Placing.{pending_by}
use Rattle.fv_aggregate.specs.declared.session.Session.{Session}
use Rattle.fv_aggregate.specs.Standing.{overhead_by, taken_since, IsWithoutFiles, StandsFor, StandsReady}
use Rattle.fv_aggregate.proofs.Clear.{clear_stays}
use Rattle.fv_aggregate.specs.Parts.{silent, AreSet}
use Rattle.fv_aggregate.proofs.Calls.{reads_itself}
use Rattle.fv_aggregate.proofs.HeldMachine.{at_name, not_there, one}
use Rattle.fv_aggregate.proofs.Looked.{fit_read, ready_read}
use Rattle.fv_aggregate.proofs.Ready.{stands_silent}
use Rattle.fv_aggregate.proofs.Standing.{known_still}

-- ---- names

same_volume : (a b : VolumeState) → ◌≡◌ {A = Option VolumeState} (Some a) (Some b) → a ≡ b
same_volume a b e = cc

-- by another name the same volume is found without it
find_without : (meant : ℕ → VolumeState → Volume) (states : States) (from s : ℕ) (x : VolumeState) (q : List ℕ) → state_at states s ≡ Some x → is_eq (name_cmp q x.name) ≡ false
    → find name_cmp q (named_from meant from (with_state states s None)) ≡ find name_cmp q (named_from meant from states)
unfolding named_from
find_without meant [] from s x q there other = cc
find_without meant (None ∷ xs) from zero x q there other = cc
find_without meant (None ∷ xs) from (suc s) x q there other = find_without meant xs (from + 1) s x q there other
find_without meant (Some z ∷ xs) from zero x q there other =
    sym (ap (λ (t : Bool). cond t (Some (meant from z)) (find name_cmp q (named_from meant (from + 1) xs))) (ap (λ (v : VolumeState). is_eq (name_cmp q v.name)) (same_volume z x there) ∙ other))
find_without meant (Some z ∷ xs) from (suc s) x q there other =
    ap (λ (o : Option Volume). cond (is_eq (name_cmp q z.name)) (Some (meant from z)) o) (find_without meant xs (from + 1) s x q there other)

-- ---- whatever the disk tells

module _ {told : Type 0} (pool : Pool) (states : States) (fit : FitTogether pool states) (name : List ℕ) (new : States) (left : Pool) (is : IsGone told states pool name new left) where
  abbrev gone : IsDestroyed told states pool is.slot is.state is.map new left
  gone = is.gone

  -- what is left fits together
  pub fit_left : FitTogether left new
  fit_left = record {
    range = subst IsInRange (sym gone.found) fit.range;
    size = ap (λ (c : List Bool). length c) gone.some.given.committed ∙ fit.size ∙ sym (ap (λ (f : Found). f.blocks) gone.found);
    version = gone.version ∙ fit.version ∙ sym (ap (λ (f : Found). f.root.version) gone.found);
    housed = housed_left pool states fit.housed is.slot is.state is.map is.there new left gone;
    kept = λ b taken. unkept_left pool.kept left.kept gone.fewer.gone gone.fewer.forgotten b
        (fit.kept b (subst (λ (c : List Bool). IsTaken (record { committed = c; next = c }) b) gone.some.given.committed taken));
  }

  map_left : (i : Image) → IsMapOf i pool.found pool.map → IsMapOf i left.found left.map
  map_left i was = record {
    len = ap (λ (c : List Bool). length c) gone.some.given.committed ∙ was.len ∙ sym (ap (λ (f : Found). f.blocks) gone.found);
    bits = λ b. ap (λ (c : List Bool). is_member c b) gone.some.given.committed ∙ was.bits b ∙ ap (λ (f : Found). map_bit (root_found f) i b) (sym gone.found);
  }

-- ---- over a machine, once leaves were read

module _ (disk : Shown) (pool : Pool) (states : States) (fit : FitTogether pool states) (name : List ℕ) (new : States) (left : Pool) (is : IsGone (TellsEntries disk pool.containers) states pool name new left)
    (unused : is_stood_on states is.slot ≡ false) (after : Shown) (reads : OnlyReads disk after) (stands : StandsOn after left.store.pairs) (last : Machine) (held : IsHeld disk pool states last) where
  abbrev was : Machine
  was = machine_held disk pool states

  abbrev now : Machine
  now = machine_held after left new

  abbrev its_gone : IsDestroyed (TellsEntries disk pool.containers) states pool is.slot is.state is.map new left
  its_gone = is.gone

  long : length states ≡ 64
  long = fit.housed.long

  long_now : length new ≡ 64
  long_now = (fit_left pool states fit name new left is).housed.long

  mine : (s : ℕ) (y : VolumeState) → state_at states s ≡ Some y → IsHeldIn disk pool s y
  mine = one disk pool states long last held

  -- the volume's own entries are told
  told_here : TellsEntries disk pool.containers
  told_here = let its = mine is.slot is.state is.there in (its.stands.told.0, its.stands.told.2)

  pub held_without : IsHeld after left new last
  held_without = record {
    found = subst (IsFoundOn after) (sym its_gone.found) (found_read disk after pool.found reads held.found);
    tells = subst (λ (f : Found). Tells (layout_at (root_found f) after.reads) last) (sym its_gone.found) (subst (λ (i : Image). Tells (layout_at (root_found pool.found) i) last) (sym reads.stays.reads) held.tells);
    keeps = subst (λ (f : Found). AllKeep (root_found f) after.reads after) (sym its_gone.found) (keeps_read disk after (root_found pool.found) reads held.keeps);
    map = map_left pool states fit name new left is after.reads (subst (λ (i : Image). IsMapOf i pool.found pool.map) (sym reads.stays.reads) held.map);
    slots = λ s inside. subst (λ (i : Image). IsLentAt i left.found s (state_at new s) (paged_at left.containers s)) (sym reads.stays.reads) (lent_left pool states fit.housed is.slot is.state is.map is.there new left its_gone disk.reads held.slots s inside);
    spaced = subst (λ (f : Found). AreSpacedIn f.blocks left.map.next (state_at new) (container_at left.containers)) (sym its_gone.found)
        (spaced_left disk pool states fit.housed held.slots held.spaced is.slot is.state is.map is.there is.lies new left its_gone after reads stands told_here);
    names = names_left pool states fit.housed is.slot is.state is.map is.there new left its_gone held.names;
    each = held_left disk pool states fit.housed held.slots held.spaced is.slot is.state is.map is.there is.lies new left its_gone after reads stands held.footed unused held.each;
    commits = (let fewer = sum_left pool states fit.housed is.slot is.state is.map is.there new left its_gone in
        let size : capacity left.found.blocks ≡ capacity pool.found.blocks = ap (λ (f : Found). capacity f.blocks) its_gone.found in
        let fits = held.commits in
        omega (arith, fewer, size, fits));
    footed = footed_left disk pool states fit.housed held.slots held.spaced is.slot is.state is.map is.there is.lies new left its_gone after reads stands held.footed unused;
  }

  -- the others stand for what they stood for
  same_meant : named_from (λ k v. volume_for after left v) 0 new ≡ named_from (λ k v. volume_for disk pool v) 0 new
  same_meant = same_named (λ k v. volume_for disk pool v) (λ k v. volume_for after left v) new 0 (λ k y at. ⊎_elim
      (λ (here : k ≡ is.slot). absurd (nothing y (sym (ap (state_at new) here ∙ empty_state pool states fit.housed is.slot is.state is.map is.there new left its_gone) ∙ at)))
      (λ (differ : k ≢ is.slot). beside k y differ (sym (other_state pool states fit.housed is.slot is.state is.map is.there new left its_gone k differ) ∙ at))
      (cases_eq k is.slot))
    where
      nothing : (y : VolumeState) → ◌≡◌ {A = Option VolumeState} None (Some y) → ⊥
      nothing y e = cc

      beside : (k : ℕ) (y : VolumeState) → k ≢ is.slot → state_at states k ≡ Some y → volume_for after left y ≡ volume_for disk pool y
      beside k y differ at =
          let its = mine k y at in
          beside_volume disk pool states fit.housed held.slots held.spaced is.slot is.state is.map is.there is.lies new left its_gone after reads stands held.footed unused y
          (ap (state_at states) its.slot ∙ at) (λ same. differ (sym its.slot ∙ same)) (subst (λ (s : ℕ). IsHeldIn disk pool s y) (sym its.slot) its)

  -- none of them has its name
  none_named : (n : List ℕ) → n ≡ is.state.name → NoneHasName new n
  none_named n called = record {
    none = λ s low. ⊎_elim
        (λ (here : s ≡ is.slot). ap (λ (o : Option VolumeState). is_named o n) (ap (state_at new) here ∙ empty_state pool states fit.housed is.slot is.state is.map is.there new left its_gone))
        (λ (differ : s ≢ is.slot). ap (λ (o : Option VolumeState). is_named o n) (other_state pool states fit.housed is.slot is.state is.map is.there new left its_gone s differ) ∙ other s differ (state_at states s) refl (is_named (state_at states s) n) refl)
        (cases_eq s is.slot);
  }
    where
      other : (s : ℕ) → s ≢ is.slot → (o : Option VolumeState) → state_at states s ≡ o → (b : Bool) → is_named o n ≡ b → is_named o n ≡ false
      other s differ None at b named = refl
      other s differ (Some y) at false named = named
      other s differ (Some y) at true named = absurd (differ (to_pair states held.names s is.slot y is.state at is.there (same_name y.name n named ∙ called)))

  by_name : (n : List ℕ) → fin.get now.volumes n ≡ cond (eq_by_cmp name_cmp n is.state.name) None (fin.get was.volumes n)
  by_name n = by (eq_by_cmp name_cmp n is.state.name) refl
    where
      by : (b : Bool) → eq_by_cmp name_cmp n is.state.name ≡ b → fin.get now.volumes n ≡ cond b None (fin.get was.volumes n)
      by true its = not_there after left new long_now n (none_named n (same_name n is.state.name its))
      by false isnt = at_name after left new long_now n ∙ ap (find name_cmp n) same_meant ∙ ap (λ (s : States). find name_cmp n (named_from (λ k v. volume_for disk pool v) 0 s)) its_gone.row
          ∙ find_without (λ k v. volume_for disk pool v) states 0 is.slot is.state n is.there isnt ∙ sym (at_name disk pool states long n)

  -- the machine hasn't the volume, and has the others as they were
  pub machine_without : now ≡ changed was (Goes name)
  unfolding machine_held
  machine_without =
      let map : now.volumes ≡ fin.remove was.volumes is.state.name = fin.same_map name_total name_ties _ _ (λ n. by_name n ∙ sym (fin.get-remove name_total was.volumes is.state.name n)) in
      λ j. record { blocks = (its_gone.found j).blocks; version = its_gone.version j; volumes = (map ∙ ap (fin.remove was.volumes) is.named) j }

-- ---- whatever was answered

-- what is left fits together
pub fit_destroyed : (disk : Shown) (pool : Pool) (states : States) → FitTogether pool states → (name : List ℕ) (new : States) (left : Pool) (r : Result Unit VolumeFault) → Destroys disk states pool name new left r → (after : Shown) → OnlyReads disk after → StandsOn after left.store.pairs → FitTogether left new
fit_destroyed disk pool states fit name new left (Ok u) did after reads cache = fit_left pool states fit name new left did.done
fit_destroyed disk pool states fit name new left (Err r) did after reads cache = subst (FitTogether left) (sym did.stays.0) (fit_read disk after pool left (record { leaves = did.stays.1; only_reads = reads; stands = cache }) states fit)

-- calls can be made on each volume that is left
pub set_destroyed : (disk : Shown) (pool : Pool) (states : States) → FitTogether pool states → (name : List ℕ) (new : States) (left : Pool) (r : Result Unit VolumeFault) → Destroys disk states pool name new left r → AreSet pool states → AreSet left new
set_destroyed disk pool states fit name new left (Ok u) did set =
    let is = did.done in
    ready_left pool states fit.housed is.slot is.state is.map is.there new left is.gone silent silent (stands_silent left.store.pairs) set
set_destroyed disk pool states fit name new left (Err r) did set = subst (AreSet left) (sym did.stays.0)
    (ready_read silent silent pool left (record { leaves = did.stays.1; only_reads = reads_itself silent; stands = stands_silent left.store.pairs }) states set)

-- ---- a session

-- what was settled is so behind reads
settled_over : (disk over : Shown) → OnlyReads disk over → IsSettled disk → IsSettled over
settled_over disk over reads settled = λ c now a. settled c (reads.stays.no_more c now) a ∙ ap (λ (i : Image). i a) (sym reads.stays.reads)

module _ (disk : Shown) (session : Session) (fit : FitTogether session.pool session.volumes) (name : List ℕ) (new : States) (left : Pool) (is : IsGone (TellsEntries disk session.pool.containers) session.volumes session.pool name new left)
    (over : Shown) (reads : OnlyReads disk over) (cache : StandsOn over left.store.pairs) where
  abbrev after : Session
  after = record session { volumes = new; pool = left }

  less : (f : Option VolumeState → ℕ) → f None ≡ 0 → sum_by f new ≤ sum_by f session.volumes
  less = sum_less session.pool session.volumes fit.housed is.slot is.state is.map is.there new left is.gone

  -- it stands where it stood
  pub stands_without : StandsReady disk session → StandsReady over after
  stands_without stands = record {
    stands = record {
      found = λ tells. subst (IsFoundOn over) (sym is.gone.found) (found_read disk over session.pool.found reads (stands.stands.found (subst IsTrue reads.stays.tells tells)));
      map = λ tells. map_left session.pool session.volumes fit name new left is over.reads (subst (λ (i : Image). IsMapOf i session.pool.found session.pool.map) (sym reads.stays.reads) (stands.stands.map (subst IsTrue reads.stays.tells tells)));
      cache = cache;
    };
    ready = ready_left session.pool session.volumes fit.housed is.slot is.state is.map is.there new left is.gone disk over cache stands.ready;
  }

  -- no file came into memory, and no block is held that wasn't
  pub files_without : IsWithoutFiles session → IsWithoutFiles after
  files_without without = record {
    none = each_left session.pool session.volumes fit.housed is.slot is.state is.map is.there new left is.gone (λ s y. y.files ≡ None) (λ s y. y.files ≡ None) (λ s y differ at none. none) without.none;
    taken = given_within session.pool.map left.map _ is.gone.some.given without.taken;
  }

  -- a point asks for no more
  pub asked_without : blocks_asked new ≤ blocks_asked session.volumes
  asked_without = less asked_by refl

  -- it stands for the machine without the volume
  pub stands_for_without : is_stood_on session.volumes is.slot ≡ false → (last m : Machine) → StandsFor disk session last m → StandsFor over after last (changed m (Goes name))
  stands_for_without unused last m stands =
      let files = less pending_by refl in
      let wide = less overhead_by refl in
      let maps = less waiting_by refl in
      let clear = clear_stays session.pool.map left.map is.gone.some.given.committed in
      let free = is.gone.some.given.count in
      let held : overheads (view_at (root_found left.found) over.reads) ≡ overheads (view_at (root_found session.pool.found) disk.reads) =
      ap (λ (f : Found). overheads (view_at (root_found f) over.reads)) is.gone.found ∙ ap (λ (i : Image). overheads (view_at (root_found session.pool.found) i)) reads.stays.reads in
      let taken : taken_since left.map ≤ taken_since session.pool.map = omega (arith, clear, free) in
      record {
        held = held_without disk session.pool session.volumes fit name new left is unused over reads cache last stands.held;
        machine = machine_without disk session.pool session.volumes fit name new left is unused over reads cache last stands.held ∙ ap (λ (k : Machine). changed k (Goes name)) stands.machine;
        settled = settled_over disk over reads stands.settled;
        delays = known_still disk.reads over.reads session.pool.found left.found session.delays session.delays reads.stays.reads is.gone.found refl stands.delays;
        pending = omega (arith, files, maps, wide, held, taken, stands.pending);
        files = omega (arith, files, maps, taken, stands.files);
        few = omega (arith, files, stands.few);
        free = omega (arith, files, free, stands.free);
        room = omega (arith, held, clear, stands.room);
      }
