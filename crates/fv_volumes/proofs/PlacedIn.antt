-- The files of one volume of a session are placed: what it leaves of that volume, of the others beside it, and of what they share.
use Rattle.std.proofs.Common.{◌≡◌, ◌≢◌, ℕ, ◌<◌, ◌≤◌, ◌+◌, Bool, true, false, not, ◌&&◌, ◌||◌, ◌∷◌, [], List, length, length-set, Option, Some, None, is_some, inl, inr, ⊎_elim, refl, sym, ap, subst, ◌∙◌, arith, get_or-set_same, get_or-set_other}
use Rattle.std.specs.Prelude.{IfSome, slice_index_or}
use Rattle.std.specs.Option.{option_map}
use Rattle.std.proofs.lemmas.Bool.{both_ways, cases_Bool, cases_eq, or_from, or_right}
use Rattle.std.proofs.lemmas.List.{set-get_or}
use Rattle.std.proofs.lemmas.List.Sums.{sum_by-set}
use Rattle.std.specs.FinSet as set
use Rattle.fv_model.specs.Space.{base_ids}
use Rattle.fv_model.specs.Volumes.{Volume as Model}
use Rattle.fv_disk.specs.Shown.{Image, Shown}
use Rattle.fv_disk.specs.DiskCalls.{OnlyReads}
use Rattle.fv_model.specs.Volumes.{Volume}
use Rattle.fv_files.specs.declared.files.Files.{Files}
use Rattle.fv_image.specs.Held.{AllKeep, Keeps}
use Rattle.fv_image.specs.NewerRoot.{Taken}
use Rattle.fv_image.specs.Reclaimed.{IsAllocatable}
use Rattle.fv_image.specs.Views.{entry_count}
use Rattle.fv_root.specs.declared.find.Found.{Found}
use Rattle.fv_root.specs.Commits.{IsFoundOn}
use Rattle.fv_root.specs.Finding.{IsFound}
use Rattle.fv_aggmap.specs.Space.{blocks_of}
use Rattle.fv_container.specs.Chains.{slot_count}
use Rattle.fv_root.specs.Formatted.{IsSize}
use Rattle.fv_bits.specs.Members.{is_member}
use Rattle.fv_container.specs.Chains.{AreCleanOn, TellsEntries, container_at, map_in, own_entry, paged_at, parent_at}
use Rattle.fv_container.specs.Clean.{IsCleanOn}
use Rattle.fv_container.specs.Mapped.{Mapped, entry_under}
use Rattle.fv_container.specs.Paged.{Paged}
use Rattle.fv_container.specs.Spelled.{is_at, names}
use Rattle.fv_pool.specs.declared.pool.Pool.{Pool}
use Rattle.fv_volume.specs.declared.state.VolumeState.{VolumeState}
use Rattle.fv_pool.specs.BlocksOver.{AreApart, entries_in}
use Rattle.fv_pool.specs.Keeping.{IsUnkept}
use Rattle.fv_volume.specs.Files.{AreNamed, IsLabelled}
use Rattle.fv_pool.specs.Lending.{GoesOver, IsOwn, MayTake, lent_by, lent_for}
use Rattle.fv_volume.specs.Loading.{Houses, IsLoaded}
use Rattle.fv_volume.specs.OneVolume.{home_in, IsReady, IsStanding}
use Rattle.fv_volume.specs.Placing.{LiesApart, StandTogether, StaysBeside}
use Rattle.fv_volume.specs.Slots.{committed_by, sum_of}
use Rattle.fv_volume.specs.States.{States, parent_in, state_at, with_state}
use Rattle.fv_volume.specs.Stored.{AreApartIn, AreSpacedIn, has_block, is_of}
use Rattle.fv_volumes.specs.UnderRoot.{IsLentAt, IsLentSlot, IsMapOf}
use Rattle.fv_volume.specs.Writing.{IsTaken, on_disk}
use Rattle.fv_volumes.proofs.LentSlots.{lent_again, lent_slot}
use Rattle.fv_volumes.proofs.StandingMaps.{maps_still}
use Rattle.fv_volumes.proofs.Made.{from_pairs, to_pair}
use Rattle.fv_volumes.proofs.Spacing.{spaced_next}
use Rattle.fv_volumes.proofs.Told.{is_inside, none_some}
use Rattle.fv_volume.specs.Held.{core_of, named_held, IsHeldIn, IsPlacedAs, IsReadyIn}
use Rattle.fv_volumes.specs.Footing.{AreFooted}
use Rattle.fv_volumes.specs.Housed.{AreHoused}
use Rattle.fv_volumes.proofs.Beside.{beside_flush, footed_together}
use Rattle.fv_volumes.proofs.Owned.{apart_now, bits, from_free, leads_own, lies_well, tree_same}

-- a container that is there
record Lies (c : Option Paged) : Type 0 where
  paged : Paged
  is : c ≡ Some paged

lies_some : (c : Option Paged) → is_some (map_in c) ≡ true → Lies c
lies_some None isnt = absurd cc
lies_some (Some paged) there = record { paged = paged; is = refl }

housed_some : (o : Option VolumeState) (c : Option Mapped) (x : VolumeState) → o ≡ Some x → Houses o c → is_some c ≡ true
housed_some None c x e h = absurd (none_some x (sym e))
housed_some (Some y) None x e h = absurd h
housed_some (Some y) (Some m) x e h = refl

pub housed_count : (o : Option VolumeState) (c : Option Mapped) (x : VolumeState) → o ≡ Some x → Houses o c → length (entries_in c) ≡ entry_count x.span
housed_count None c x e h = absurd (none_some x (sym e))
housed_count (Some y) None x e h = absurd h
housed_count (Some y) (Some m) x e h = h ∙ ap (λ (z : VolumeState). entry_count z.span) (same y x e)
  where
    same : (a b : VolumeState) → Some a ≡ Some b → a ≡ b
    same a b e = cc

houses : (x : VolumeState) (c : Option Mapped) → is_some c ≡ true → length (entries_in c) ≡ entry_count x.span → Houses (Some x) c
houses x None isnt count = absurd cc
houses x (Some m) there count = count

module _ (disk : Shown) (pool : Pool) (states : States) (housed : AreHoused pool.containers states) (slots : (s : ℕ) → s < slot_count → IsLentAt disk.reads pool.found s (state_at states s) (paged_at pool.containers s)) where
  -- a volume has the blocks of its own entries
  pub own_has : (k : ℕ) (w : VolumeState) → state_at states k ≡ Some w → (b : ℕ) → IsOwn pool.containers k b → has_block (state_at states k) (container_at pool.containers k) b ≡ true
  own_has k w at b own =
      let c = lies_some (paged_at pool.containers k) (housed_some (state_at states k) (container_at pool.containers k) w at (housed.each k)) in
      let slot = lent_slot disk.reads pool.found k (state_at states k) (paged_at pool.containers k) w c.paged at c.is (slots k (is_inside states k w housed.long at)) in
      let lies : container_at pool.containers k ≡ Some c.paged.map = ap map_in c.is in
      let led = leads_own pool.containers k c.paged.map lies (entry_count w.span) (ap (λ (c : Option Mapped). length (entries_in c)) (sym lies) ∙ housed_count (state_at states k) (container_at pool.containers k) w at (housed.each k)) (λ v. slot.apart.some v) b own in
      (λ j. has_block (at j) (lies j) b) ∙ or_right (is_at b w.label) _ (or_right (names c.paged.map.tree b) _ led)

module _ (disk after : Shown) (pool left : Pool) (states stay : States) (x y : VolumeState) (there : state_at states x.slot ≡ Some x) (now : stay ≡ with_state states x.slot (Some y)) (housed : AreHoused pool.containers states) (placed : IsPlacedAs disk pool x after left y) where
  abbrev s : ℕ
  s = x.slot

  abbrev room : ℕ
  room = placed.room

  abbrev less : ℕ
  less = placed.rest

  over : GoesOver (lent_for pool x.map disk 0 (home_in x) room) (lent_by left y.map after placed.goes.steps (home_in x) less placed.goes.goes.strays placed.goes.goes.noted)
  over = placed.goes.goes.goes

  pub only_read : OnlyReads disk after
  only_read = over.only_reads

  inside : s < 64
  inside = is_inside states s x housed.long there

  pub here : state_at stay s ≡ Some y
  here = ap (λ (ss : States). state_at ss s) now ∙ get_or-set_same states s (Some y) None (let long = housed.long in let low = inside in omega (arith, long, low))

  pub other : (k : ℕ) → k ≢ s → state_at stay k ≡ state_at states k
  other k differ = ap (λ (ss : States). state_at ss k) now ∙ get_or-set_other states s k (Some y) None differ

  parents : (k : ℕ) → parent_at left.containers k ≡ parent_at pool.containers k
  parents k = ap (λ (ps : List (Option ℕ)). slice_index_or ps k None) over.parents

  there_some : is_some (container_at pool.containers s) ≡ true
  there_some = housed_some (state_at states s) (container_at pool.containers s) x there (housed.each s)

  was : Lies (paged_at pool.containers s)
  was = lies_some (paged_at pool.containers s) there_some

  is : Lies (paged_at left.containers s)
  is = lies_some (paged_at left.containers s) (over.shape.there ∙ there_some)

  abbrev was_map : Mapped
  was_map = was.paged.map

  abbrev is_map : Mapped
  is_map = is.paged.map

  was_lies : container_at pool.containers s ≡ Some was_map
  was_lies = ap map_in was.is

  is_lies : container_at left.containers s ≡ Some is_map
  is_lies = ap map_in is.is

  long : length was_map.entries ≡ entry_count x.span
  long = ap (λ (c : Option Mapped). length (entries_in c)) (sym was_lies) ∙ housed_count (state_at states s) (container_at pool.containers s) x there (housed.each s)

  -- ---- whatever the disk tells

  pub kept_still : ((b : ℕ) → IsTaken (on_disk pool.map) b → IsUnkept pool.kept b) → (b : ℕ) → IsTaken (on_disk left.map) b → IsUnkept left.kept b
  kept_still kept b taken = ⊎_elim
      (λ same. same ∙ kept b on)
      (λ (may : MayTake (TellsEntries disk pool.containers) pool.map pool.containers s b). absurd (on (record { after = may.lies.0; within = may.lies.1; free = or_from (is_member pool.map.committed b) (is_member pool.map.committed b) may.spare may.spare })))
      (over.kept b)
    where
      on : IsTaken (on_disk pool.map) b
      on = subst (λ (c : List Bool). IsTaken (record { committed = c; next = c }) b) over.committed taken

  pub housed_still : AreHoused left.containers stay
  housed_still = record {
    long = ap (λ (ss : States). length ss) now ∙ length-set states s (Some y) ∙ housed.long;
    volumes = λ k. ⊎_elim
        (λ (e : k ≡ s). subst (λ (n : ℕ). IfSome (state_at stay n) (IsLabelled n)) (sym e) (subst (λ (o : Option VolumeState). IfSome o (IsLabelled s)) (sym here) (subst (λ (n : ℕ). IsLabelled n y) (ap (λ (z : VolumeState). z.slot) placed.keeps) placed.ready.labelled)))
        (λ (differ : k ≢ s). subst (λ (o : Option VolumeState). IfSome o (IsLabelled k)) (sym (other k differ)) (housed.volumes k))
        (cases_eq k s);
    each = λ k. ⊎_elim
        (λ (e : k ≡ s). subst (λ (n : ℕ). Houses (state_at stay n) (container_at left.containers n)) (sym e) (subst (λ (o : Option VolumeState). Houses o (container_at left.containers s)) (sym here)
        (houses y (container_at left.containers s) (over.shape.there ∙ there_some)
        (over.shape.count ∙ housed_count (state_at states s) (container_at pool.containers s) x there (housed.each s) ∙ ap (λ (z : VolumeState). entry_count z.span) (sym placed.keeps)))))
        (λ (differ : k ≢ s). subst (λ (o : Option VolumeState). Houses o (container_at left.containers k)) (sym (other k differ)) (subst (λ (c : Option Mapped). Houses (state_at states k) c) (sym (over.others k differ)) (housed.each k)))
        (cases_eq k s);
    parents = λ k. parents k ∙ ⊎_elim
        (λ (e : k ≡ s). housed.parents k ∙ ap (λ (n : ℕ). parent_in (state_at states n)) e ∙ ap parent_in there ∙ ap (λ (z : VolumeState). parent_in (Some z)) (sym placed.keeps) ∙ sym (ap parent_in here) ∙ sym (ap (λ (n : ℕ). parent_in (state_at stay n)) e))
        (λ (differ : k ≢ s). housed.parents k ∙ ap parent_in (sym (other k differ)))
        (cases_eq k s);
  }

  -- calls can be made on a volume beside it
  ready_beside : (k : ℕ) (w : VolumeState) → k ≢ s → w.slot ≡ k → IsReady disk pool w → IsReady after left w
  ready_beside k w differ at ready = record {
    lent = record {
      within = ready.lent.within;
      stands = placed.ready.lent.stands;
      few = ready.lent.few;
      entries = subst (λ (c : Option Mapped). w.map.span ≤ length (entries_in c)) (sym (over.others w.slot (λ same. differ (sym at ∙ same)))) ready.lent.entries;
    };
    labelled = ready.labelled;
    booked = ready.booked;
    blocks = subst (λ (f : Found). IsSize f.blocks) (sym over.found) ready.blocks;
    changed = ready.changed;
    fresh = ready.fresh;
  }

  pub ready_still : ((k : ℕ) → IfSome (state_at states k) (IsReadyIn disk pool k)) → (k : ℕ) → IfSome (state_at stay k) (IsReadyIn after left k)
  ready_still ready k = ⊎_elim
      (λ (e : k ≡ s). subst (λ (n : ℕ). IfSome (state_at stay n) (IsReadyIn after left n)) (sym e) (subst (λ (o : Option VolumeState). IfSome o (IsReadyIn after left s)) (sym here)
      (record { slot = ap (λ (z : VolumeState). z.slot) placed.keeps; ready = placed.ready })))
      (λ (differ : k ≢ s). subst (λ (o : Option VolumeState). IfSome o (IsReadyIn after left k)) (sym (other k differ)) (beside differ (state_at states k) (ready k)))
      (cases_eq k s)
    where
      beside : k ≢ s → (o : Option VolumeState) → IfSome o (IsReadyIn disk pool k) → IfSome o (IsReadyIn after left k)
      beside differ None none = tt
      beside differ (Some w) was = record { slot = was.slot; ready = ready_beside k w differ was.slot was.ready }

  -- what a call leaves of one volume, it leaves of all where it is the same of that one
  pub all_stay : {T : Type 0} (f : Option VolumeState → T) → f (Some y) ≡ f (Some x) → (k : ℕ) → f (state_at stay k) ≡ f (state_at states k)
  all_stay f same k = ⊎_elim
      (λ (e : k ≡ s). ap (λ (n : ℕ). f (state_at stay n)) e ∙ ap f here ∙ same ∙ sym (ap f there) ∙ sym (ap (λ (n : ℕ). f (state_at states n)) e))
      (λ (differ : k ≢ s). ap f (other k differ))
      (cases_eq k s)

  pub cores_still : (k : ℕ) → option_map core_of (state_at stay k) ≡ option_map core_of (state_at states k)
  cores_still = all_stay (option_map core_of) (ap (λ (z : VolumeState). Some (core_of z)) placed.keeps)

  -- it is as changed as it was
  pub changed_still : IsReady disk pool x → y.changed ≡ x.changed
  changed_still ready = by x.files refl
    where
      by : (o : Option Files) → x.files ≡ o → y.changed ≡ x.changed
      by None e = ap (λ (z : VolumeState). z.changed) (placed.idle e).1
      by (Some f) e = placed.changed (ap is_some e) ∙ sym (⊎_elim (λ (is : x.changed ≡ true). is) (λ (isnt : x.changed ≡ false). absurd (none_some f (sym e ∙ ready.changed isnt))) (cases_Bool x.changed))

  pub idle_still : x.files ≡ None → (left ≡ pool) × (stay ≡ states)
  idle_still none =
      let same = placed.idle none in
      (same.0, now ∙ ap (λ (z : VolumeState). with_state states s (Some z)) same.1 ∙ ap (λ (o : Option VolumeState). with_state states s o) (sym there) ∙ set-get_or states s None)

  -- a volume that had its name
  record WasNamed (k : ℕ) (v : VolumeState) : Type 0 where
    volume : VolumeState
    at : state_at states k ≡ Some volume
    named : volume.name ≡ v.name

  was_named : (k : ℕ) (v : VolumeState) → state_at stay k ≡ Some v → WasNamed k v
  was_named k v at = ⊎_elim
      (λ (e : k ≡ s). record { volume = x; at = ap (state_at states) e ∙ there; named = sym (ap (λ (v : VolumeState). v.name) placed.keeps) ∙ same y v (sym here ∙ ap (state_at stay) (sym e) ∙ at) })
      (λ (differ : k ≢ s). record { volume = v; at = sym (other k differ) ∙ at; named = refl })
      (cases_eq k s)
    where
      same : (a b : VolumeState) → ◌≡◌ {A = Option VolumeState} (Some a) (Some b) → a.name ≡ b.name
      same a b e = cc

  pub names_still : AreNamed states → AreNamed stay
  names_still names = from_pairs stay (λ a k v w at too same.
      let one = was_named a v at in
      let two = was_named k w too in
      to_pair states names a k one.volume two.volume one.at two.at (one.named ∙ same ∙ sym two.named))

  -- all commit what they committed
  pub commits_still : sum_of stay ≡ sum_of states
  commits_still =
      let low = inside in
      let many = housed.long in
      let sum = sum_by-set committed_by states s (Some y) None (omega (arith, low, many)) in
      let same : committed_by (state_at states s) ≡ committed_by (Some y) = ap committed_by there ∙ sym (ap (λ (v : VolumeState). committed_by (Some v)) placed.keeps) in
      let all : sum_of stay ≡ sum_of (with_state states s (Some y)) = ap sum_of now in
      omega (arith, sum, same, all)

  -- the map of the root stays
  pub map_still : IsMapOf disk.reads pool.found pool.map → IsMapOf after.reads left.found left.map
  map_still was =
      let m : IsMapOf after.reads left.found pool.map = subst (λ (i : Image). IsMapOf i left.found pool.map) (sym over.only_reads.stays.reads) (subst (λ (f : Found). IsMapOf disk.reads f pool.map) (sym over.found) was) in
      record { len = ap (λ (c : List Bool). length c) over.committed ∙ m.len; bits = λ b. ap (λ (c : List Bool). is_member c b) over.committed ∙ m.bits b }

  -- ---- where volumes are what they are between points

  module _ (size : blocks_of pool.map ≡ pool.found.blocks) (slots : (s : ℕ) → s < slot_count → IsLentAt disk.reads pool.found s (state_at states s) (paged_at pool.containers s)) (spaced : AreSpacedIn pool.found.blocks pool.map.next (state_at states) (container_at pool.containers))
      (each : (s : ℕ) → IfSome (state_at states s) (IsHeldIn disk pool s)) (footed : AreFooted states pool.containers) where
    pub mine : IsHeldIn disk pool s x
    mine = subst (λ (o : Option VolumeState). IfSome o (IsHeldIn disk pool s)) there (each s)

    standing : IsStanding after left y
    standing = placed.standing mine.stands

    told : AreApart left y.map s
    told = subst (λ (n : ℕ). AreApart left y.map n) (ap (λ (z : VolumeState). z.slot) placed.keeps) standing.told.1

    tells : TellsEntries disk pool.containers
    tells = (mine.stands.told.0, mine.stands.told.2)

    lent : IsLentSlot disk.reads pool.found s x was.paged
    lent = lent_slot disk.reads pool.found s (state_at states s) (paged_at pool.containers s) x was.paged there was.is (slots s inside)

    has_was : (b : ℕ) → has_block (state_at states s) (container_at pool.containers s) b ≡ is_of x x.label was_map b
    has_was b = (λ k. has_block (there k) (was_lies k) b)

    -- the volume as it is left
    abbrev z : VolumeState
    z = record x { active = y.active; map = y.map; files = y.files; changed = y.changed }

    has_now : (b : ℕ) → has_block (state_at stay s) (container_at left.containers s) b ≡ is_of z z.label is_map b
    has_now b = (λ k. has_block (here k) (is_lies k) b) ∙ ap (λ (v : VolumeState). is_of v v.label is_map b) placed.keeps

    of_held : (b : ℕ) → is_of x x.label was_map b ≡ true → (is_member pool.map.next b ≡ true) × IsAllocatable pool.found.blocks b
    of_held b of = spaced.held s b inside (has_was b ∙ of)

    reads : after.reads ≡ disk.reads
    reads = over.only_reads.stays.reads

    bits_now : (b : ℕ) → is_member left.map.next b ≡ (is_of z z.label is_map b || (is_member pool.map.next b && not (is_of x x.label was_map b)))
    bits_now = bits disk after pool left x y.active y.map y.files y.changed room less placed.goes.steps placed.goes.goes.strays placed.goes.goes.noted over was_map is_map was_lies is_lies long lent.apart pool.found.blocks size of_held told tells

    pub spaced_still : AreSpacedIn pool.found.blocks left.map.next (state_at stay) (container_at left.containers)
    spaced_still = spaced_next pool.found.blocks pool.map.next left.map.next (state_at states) (state_at stay) (container_at pool.containers) (container_at left.containers) s inside spaced
        (λ k b differ. (λ j. has_block (other k differ j) (over.others k differ j) b))
        (λ b. bits_now b ∙ (λ j. sym (has_now b) j || (is_member pool.map.next b && not (sym (has_was b) j))))
        (λ b of. ⊎_elim (λ own. inl (has_was b ∙ own)) (λ clear. inr clear)
        (from_free disk after pool left x y.active y.map y.files y.changed room less placed.goes.steps placed.goes.goes.strays placed.goes.goes.noted over was_map is_map was_lies is_lies long lent.apart pool.found.blocks size of_held told tells b (sym (has_now b) ∙ of)))
        (λ b of. lies_well disk after pool left x y.active y.map y.files y.changed room less placed.goes.steps placed.goes.goes.strays placed.goes.goes.noted over was_map is_map was_lies is_lies long lent.apart pool.found.blocks size of_held told tells b (sym (has_now b) ∙ of))

    -- the entries behind the span stay
    behind : (v : ℕ) → x.span ≤ v → entry_under is_map v ≡ entry_under was_map v
    behind v past =
        let span = mine.ready.labelled.map in
        sym (ap (λ (c : Option Mapped). own_entry c v) is_lies) ∙ over.beyond v (omega (arith, span, past)) ∙ ap (λ (c : Option Mapped). own_entry c v) was_lies

    -- without a change it is as the root on the disk has it
    unchanged : (o : Option Files) → x.files ≡ o → y.changed ≡ false → IsLoaded disk.reads pool.found s (Some y) (Some is.paged)
    unchanged (Some f) e un = absurd (both_ways _ un (placed.changed (ap is_some e)))
    unchanged None e un =
        let idle = placed.idle e in
        let same : Some was.paged ≡ Some is.paged = sym was.is ∙ ap (λ (p : Pool). paged_at p.containers s) (sym idle.0) ∙ is.is in
        subst (λ (c : Option Paged). IsLoaded disk.reads pool.found s (Some y) c) same (subst (λ (v : VolumeState). IsLoaded disk.reads pool.found s (Some v) (Some was.paged)) (sym idle.1)
        (lent.unchanged (sym (ap (λ (v : VolumeState). v.changed) idle.1) ∙ un)))

    clean_now : AreCleanOn disk.reads left.containers
    clean_now = subst (λ (i : Image). AreCleanOn i left.containers) reads (over.clean tells)

    slot_here : IsLentAt disk.reads pool.found s (state_at stay s) (paged_at left.containers s)
    slot_here = subst (λ (o : Option VolumeState). IsLentAt disk.reads pool.found s o (paged_at left.containers s)) (sym here) (subst (λ (c : Option Paged). IsLentAt disk.reads pool.found s (Some y) c) (sym is.is) (record {
      label = λ some. let same = ap (λ (v : VolumeState). v.label) placed.keeps in same ∙ lent.label (λ none. some (same ∙ none));
      nodes = λ b node. lent.nodes b (subst (λ (t : List ℕ). names t b ≡ true)
          (tree_same disk after pool left x y.active y.map y.files y.changed room less placed.goes.steps placed.goes.goes.strays placed.goes.goes.noted over was_map is_map was_lies is_lies long lent.apart pool.found.blocks size of_held told tells) node);
      clean = subst (λ (c : Option Paged). IfSome c (IsCleanOn disk.reads)) is.is (clean_now s);
      apart = subst (λ (v : VolumeState). AreApartIn v is_map) (sym placed.keeps)
          (apart_now disk after pool left x y.active y.map y.files y.changed room less placed.goes.steps placed.goes.goes.strays placed.goes.goes.noted over was_map is_map was_lies is_lies long lent.apart pool.found.blocks size of_held told tells);
      maps = maps_still disk.reads pool.found x y was_map is_map (ap (λ (v : VolumeState). v.span) placed.keeps) over.span over.snapshots (ap (λ (v : VolumeState). v.fresh) placed.keeps) behind lent.maps;
      unchanged = unchanged x.files refl;
    }))

    pub slots_still : (k : ℕ) → k < 64 → IsLentAt after.reads left.found k (state_at stay k) (paged_at left.containers k)
    slots_still k low = subst (λ (i : Image). IsLentAt i left.found k (state_at stay k) (paged_at left.containers k)) (sym reads) (subst (λ (f : Found). IsLentAt disk.reads f k (state_at stay k) (paged_at left.containers k)) (sym over.found)
        (⊎_elim
        (λ (e : k ≡ s). subst (λ (n : ℕ). IsLentAt disk.reads pool.found n (state_at stay n) (paged_at left.containers n)) (sym e) slot_here)
        (λ (differ : k ≢ s). subst (λ (o : Option VolumeState). IsLentAt disk.reads pool.found k o (paged_at left.containers k)) (sym (other k differ))
        (lent_again disk.reads pool.found k (state_at states k) (paged_at pool.containers k) (paged_at left.containers k) (over.others k differ) (clean_now k) (slots k low)))
        (cases_eq k s)))

    -- the volumes stand together
    together : StandTogether pool x.map s states
    together = footed_together disk pool states x.map s housed footed each (subst (λ (o : Option VolumeState). IfSome o (λ z. z.map ≡ x.map)) (sym there) refl) lies
      where
        lies : (k : ℕ) (w : VolumeState) → k ≢ s → state_at states k ≡ Some w → LiesApart pool.containers k s
        lies k w differ at v e own owned = spaced.apart k s e.pvbn (is_inside states k w housed.long at) inside differ
            (own_has disk pool states housed slots k w at e.pvbn (record { vvbn = v; entry = e; stands = own; leads = refl }))
            (own_has disk pool states housed slots s x there e.pvbn owned)

    -- another volume stays
    beside : (k : ℕ) (w : VolumeState) → k ≢ s → state_at states k ≡ Some w → IsHeldIn disk pool k w → StaysBeside disk pool after left w
    beside k w differ at one = beside_flush disk after pool left x y.map placed.room placed.rest placed.goes states together w (ap (state_at states) one.slot ∙ at) (λ same. differ (sym one.slot ∙ same)) one.stands

    each_beside : (k : ℕ) → k ≢ s → (o : Option VolumeState) → state_at states k ≡ o → IfSome o (IsHeldIn disk pool k) → IfSome o (IsHeldIn after left k)
    each_beside k differ None at none = tt
    each_beside k differ (Some w) at one =
        let b = beside k w differ at one in
        record {
          slot = one.slot;
          ready = ready_beside k w differ one.slot one.ready;
          stands = b.standing;
          led = b.led one.led;
          well = b.well one.well;
          wide = subst (λ (v : Model). v.most + (set.len (base_ids v.base) + 256) ≤ v.span) (sym b.volume) one.wide;
          within = one.within;
        }

    each_here : IsHeldIn after left s y
    each_here = record {
      slot = ap (λ (v : VolumeState). v.slot) placed.keeps;
      ready = placed.ready;
      stands = standing;
      led = placed.led mine.stands mine.led;
      well = placed.well mine.stands mine.led mine.well;
      wide = subst (λ (v : Model). v.most + (set.len (base_ids v.base) + 256) ≤ v.span) (sym (placed.volume mine.stands)) mine.wide;
      within = subst (λ (v : VolumeState). v.ledger.charge ≤ v.size) (sym placed.keeps) mine.within;
    }

    pub each_still : (k : ℕ) → IfSome (state_at stay k) (IsHeldIn after left k)
    each_still k = ⊎_elim
        (λ (e : k ≡ s). subst (λ (n : ℕ). IfSome (state_at stay n) (IsHeldIn after left n)) (sym e) (subst (λ (o : Option VolumeState). IfSome o (IsHeldIn after left s)) (sym here) each_here))
        (λ (differ : k ≢ s). subst (λ (o : Option VolumeState). IfSome o (IsHeldIn after left k)) (sym (other k differ)) (each_beside k differ (state_at states k) refl (each k)))
        (cases_eq k s)

    -- each stands for the volume that it stood for
    pub named_still : (k : ℕ) → named_held after left (state_at stay k) ≡ named_held disk pool (state_at states k)
    named_still k = ⊎_elim
        (λ (e : k ≡ s).
        let name : y.name ≡ x.name = ap (λ (v : VolumeState). v.name) placed.keeps in
        let volume = placed.volume mine.stands in
        ap (λ (n : ℕ). named_held after left (state_at stay n)) e ∙ ap (named_held after left) here ∙ (λ j. (name j, volume j) ∷ []) ∙ sym (ap (named_held disk pool) there) ∙ sym (ap (λ (n : ℕ). named_held disk pool (state_at states n)) e))
        (λ (differ : k ≢ s). ap (named_held after left) (other k differ) ∙ by differ (state_at states k) refl (each k))
        (cases_eq k s)
      where
        by : k ≢ s → (o : Option VolumeState) → state_at states k ≡ o → IfSome o (IsHeldIn disk pool k) → named_held after left o ≡ named_held disk pool o
        by differ None at none = refl
        by differ (Some w) at one = ap (λ (v : Volume). (w.name, v) ∷ []) (beside k w differ at one).volume

-- A disk that was only read has the root that was found.
pub found_read : (old new : Shown) (f : Found) → OnlyReads old new → IsFoundOn old f → IsFoundOn new f
found_read old new f reads on = record {
  reads = subst (λ (i : Image). IsFound i f) (sym reads.stays.reads) on.reads;
  images = λ c now. on.images c (reads.stays.no_more c now);
}

-- and each image that a crash may leave keeps the layout that it kept
pub keeps_read : (old new : Shown) (u : Taken) → OnlyReads old new → AllKeep u old.reads old → AllKeep u new.reads new
keeps_read old new u reads keeps = λ c now. subst (λ (i : Image). Keeps u i c) (sym reads.stays.reads) (keeps c (reads.stays.no_more c now))
