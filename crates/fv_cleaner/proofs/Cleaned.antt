-- A session after a block of one of its volumes was cleaned: all its volumes are held, and stand for what they stood for.
use Rattle.std.proofs.Common.{◌≡◌, ◌≢◌, ◌<◌, ℕ, Bool, true, false, cond, List, [], length, Option, Some, None, inl, inr, refl, sym, ap, subst, ◌∙◌, ⊎_elim, arith, get_or-set_same, get_or-set_other, length-set}
use Rattle.std.specs.Prelude.{All, IfSome, is_some, slice_index_or}
use Rattle.std.specs.Option.{option_map}
use Rattle.std.proofs.lemmas.Bool.{both_ways, cases_eq}
use Rattle.std.proofs.lemmas.List.Elements.{All-head}
use Rattle.std.proofs.lemmas.List.Sums.{sum_by-set}
use Rattle.std.proofs.lemmas.Option.{same_Some}
use Rattle.fv_disk.specs.Shown.{Shown as Disk}
use Rattle.fv_disk.specs.DiskCalls.{OnlyReads}
use Rattle.fv_bits.specs.Members.{is_member}
use Rattle.fv_container.specs.declared.entry.Entry.{Entry}
use Rattle.fv_container.specs.Mapped.{Mapped}
use Rattle.fv_container.specs.Chains.{TellsEntries, container_at, own_entry}
use Rattle.fv_image.specs.Views.{Placed}
use Rattle.fv_store.specs.Held.{StandsOn}
use Rattle.fv_tree.specs.Sources.{Use}
use Rattle.fv_volmap.specs.Slots.{has, slot_at, slot_of_base}
use Rattle.fv_pool.specs.declared.pool.Pool.{Pool}
use Rattle.fv_pool.specs.BlocksOver.{HasShapeOf, held_block, held_entry}
use Rattle.fv_pool.specs.Lending.{use_of}
use Rattle.fv_pool.specs.Moving.{MovesBlock}
use Rattle.fv_volume.specs.declared.state.Base.{Base}
use Rattle.fv_volume.specs.declared.state.VolumeState.{VolumeState}
use Rattle.fv_volume.specs.Files.{AreNamed, IsLabelled}
use Rattle.fv_volume.specs.Held.{IsHeldIn}
use Rattle.fv_volume.specs.Loading.{Houses}
use Rattle.fv_volume.specs.OneVolume.{base_table, blocks_in, uses_in, IsKeptTable}
use Rattle.fv_volume.specs.Slots.{committed_by, sum_of}
use Rattle.fv_volume.specs.States.{States, footing_in, parent_in, state_at, with_state}
use Rattle.fv_volume.proofs.SettledTables.{has_used}
use Rattle.fv_volume.proofs.TablesOf.{base_all}
use Rattle.fv_volumes.specs.Footing.{AreFooted, IsOnBase}
use Rattle.fv_volumes.specs.Housed.{AreHoused}
use Rattle.fv_volumes.proofs.CalledFooted.{keeps_footing}
use Rattle.fv_volumes.proofs.Footed.{each_stands, footed_stay, on_base_over, KeepsFooting}
use Rattle.fv_volumes.proofs.Made.{from_pairs, to_pair}
use Rattle.fv_cleaner.specs.Staying.{HoldsAfter, MayBeCleaned, StandsCleaned}
use Rattle.fv_cleaner.specs.Stepping.{CleansBlock}
use Rattle.fv_cleaner.proofs.Beside.{cleared, committed_same, moved_beside, next_new, next_other, was_free}
use Rattle.fv_cleaner.proofs.Held.{block_held, block_volume, lying_block, lying_use}
use Rattle.fv_cleaner.proofs.Known.{IsKnownRoot}
use Rattle.fv_cleaner.proofs.Lowers.{there}
use Rattle.fv_cleaner.proofs.NoneLeft.{base_known, not_had}

-- a container with as many entries houses the volume
houses_moved : (x : VolumeState) (a b : Option Mapped) → HasShapeOf a b → Houses (Some x) a → Houses (Some x) b
houses_moved x None b shape was = absurd was
houses_moved x (Some m) None shape was = absurd (wrong shape.there)
  where
    wrong : false ≡ true → ⊥
    wrong e = cc
houses_moved x (Some m) (Some n) shape was = shape.count ∙ was

module _ (disk after : Disk) (pool left : Pool) (states : States) (slot : ℕ) (x y : VolumeState) (may : MayBeCleaned disk pool states slot x) (cleans : CleansBlock disk pool x left y) (reads : OnlyReads disk after) (store : StandsOn after left.store.pairs) where
  held : IsHeldIn disk pool slot x
  held = subst (λ (o : Option VolumeState). IfSome o (IsHeldIn disk pool slot)) may.there (may.each slot)

  told : TellsEntries disk pool.containers
  told = (held.stands.told.0, held.stands.told.2)

  abbrev v : ℕ
  v = cleans.vvbn

  moves : MovesBlock disk pool slot v cleans.kind cleans.block left
  moves = subst (λ (n : ℕ). MovesBlock disk pool n v cleans.kind cleans.block left) held.slot cleans.moves

  held_y : IsHeldIn after left slot y
  held_y = block_held disk after pool left states slot x y may cleans reads store

  abbrev stay : States
  stay = with_state states slot (Some y)

  inside : slot < length states
  inside = let low = held.ready.lent.within in let at = held.slot in let long = may.housed.long in omega (arith, low, at, long)

  here : state_at stay slot ≡ Some y
  here = get_or-set_same states slot (Some y) None inside

  others : (k : ℕ) → k ≢ slot → state_at stay k ≡ state_at states k
  others k differ = get_or-set_other states slot k (Some y) None differ

  -- ---- in order

  pub housed_now : AreHoused left.containers stay
  housed_now = record {
    long = length-set states slot (Some y) ∙ may.housed.long;
    volumes = λ s. ⊎_elim
        (λ (e : s ≡ slot). subst (λ (n : ℕ). IfSome (state_at stay n) (IsLabelled n)) (sym e) (subst (λ (o : Option VolumeState). IfSome o (IsLabelled slot)) (sym here) (subst (λ (n : ℕ). IsLabelled n y) held_y.slot held_y.ready.labelled)))
        (λ (other : s ≢ slot). subst (λ (o : Option VolumeState). IfSome o (IsLabelled s)) (sym (others s other)) (may.housed.volumes s))
        (cases_eq s slot);
    each = λ s. ⊎_elim
        (λ (e : s ≡ slot). subst (λ (n : ℕ). Houses (state_at stay n) (container_at left.containers n)) (sym e) (subst (λ (o : Option VolumeState). Houses o (container_at left.containers slot)) (sym here) houses))
        (λ (other : s ≢ slot). subst (λ (o : Option VolumeState). Houses o (container_at left.containers s)) (sym (others s other)) (subst (λ (c : Option Mapped). Houses (state_at states s) c) (sym (moves.entry.others s other)) (may.housed.each s)))
        (cases_eq s slot);
    parents = λ s. ap (λ (ps : List (Option ℕ)). slice_index_or ps s None) moves.entry.parents ∙ may.housed.parents s ∙ ⊎_elim
        (λ (e : s ≡ slot). ap (λ (n : ℕ). parent_in (state_at states n)) e ∙ ap parent_in may.there ∙ sym (ap (λ (z : VolumeState). parent_in (Some z)) cleans.state) ∙ sym (ap parent_in here) ∙ sym (ap (λ (n : ℕ). parent_in (state_at stay n)) e))
        (λ (other : s ≢ slot). ap parent_in (sym (others s other)))
        (cases_eq s slot);
  }
    where
      houses : Houses (Some y) (container_at left.containers slot)
      houses = subst (λ (z : VolumeState). Houses (Some z) (container_at left.containers slot)) (sym cleans.state)
          (houses_moved x (container_at pool.containers slot) (container_at left.containers slot) moves.entry.shape (subst (λ (o : Option VolumeState). Houses o (container_at pool.containers slot)) may.there (may.housed.each slot)))

  -- ---- bases

  abbrev was : Placed
  was = record { pvbn = (cleans.next told).0; kind = cleans.kind; block = cleans.was }

  -- the slot of the base hasn't the VVBN: what it has holds no unknown pointer
  pub base_lacks : has v (slot_at x.map slot_of_base) ≡ false
  base_lacks = by (has v (slot_at x.map slot_of_base)) refl
    where
      none : (o : Option Base) → x.base ≡ o → is_some o ≡ false → has v (slot_at x.map slot_of_base) ≡ true → ⊥
      none o e lack had = both_ways (is_some (slot_at x.map slot_of_base)) (held.ready.labelled.slots.base ∙ ap (λ (o : Option Base). is_some (option_map footing_in o)) e ∙ lacks o lack) (has_used (slot_at x.map slot_of_base) v had)
        where
          lacks : (o : Option Base) → is_some o ≡ false → is_some (option_map footing_in o) ≡ false
          lacks None lack = refl
          lacks (Some b) lack = lack

      of_base : (o : Option Base) → x.base ≡ o → has v (slot_at x.map slot_of_base) ≡ true → has v (slot_at x.map slot_of_base) ≡ false
      of_base None e had = absurd (none None e refl had)
      of_base (Some b) e had =
          let kept = subst (λ (o : Option Base). All (IsKeptTable disk pool x) (base_table o)) e (base_all (IsKeptTable disk pool x) x held.stands.kept) in
          let its = All-head (IsKeptTable disk pool x) (record { slot = slot_of_base; name = b.snapshot; table = b.table }) [] kept in
          let known = subst (λ (o : Option Base). IfSome o (λ b. IsKnownRoot b.table.root)) e (base_known disk pool states slot x may.there may.each may.footed) in
          not_had x.known (blocks_in disk pool x slot_of_base) (uses_in pool x slot_of_base) (slot_at x.map slot_of_base) x.now b.table its.1 known v was
          (ap (λ (b : Bool). cond b (held_block x.map pool x.slot disk.reads v) None) had ∙ lying_block pool.kept disk.reads (held_entry x.map pool.containers x.slot v) was (there disk pool x left y cleans told held.stands.told.1))
          (ap (λ (b : Bool). cond b (Some (use_of (held_entry x.map pool.containers x.slot v))) None) had ∙ ap (λ (u : Use). Some u) (lying_use pool.kept disk.reads (held_entry x.map pool.containers x.slot v) was (there disk pool x left y cleans told held.stands.told.1)))
          (cleans.next told).1.unclear.unknown

      by : (b : Bool) → has v (slot_at x.map slot_of_base) ≡ b → has v (slot_at x.map slot_of_base) ≡ false
      by false e = e
      by true e = of_base x.base refl e

  keeps : KeepsFooting (λ k. k ≢ 0) x y
  keeps = keeps_footing (λ k. k ≢ 0) x y (ap (λ (z : VolumeState). z.slot) cleans.state) (ap (λ (z : VolumeState). z.name) cleans.state) (ap (λ (z : VolumeState). z.span) cleans.state) (ap (λ (z : VolumeState). z.known) cleans.state)
      (ap (λ (z : VolumeState). z.base) cleans.state) (ap (λ (z : VolumeState). z.snapshots) cleans.state) (λ k above. ap (λ (z : VolumeState). slot_at z.map k) cleans.state) (ap (λ (z : VolumeState). slot_at z.map slot_of_base) cleans.state)

  on_base : IsOnBase pool.containers x → IsOnBase left.containers y
  on_base is = subst (IsOnBase left.containers) (sym cleans.state) (record {
    leaves = λ w had. cleans.moves.entry.rest w (λ same. both_ways (has v (slot_at x.map slot_of_base)) base_lacks (ap (λ (n : ℕ). has n (slot_at x.map slot_of_base)) (sym same) ∙ had)) ∙ is.leaves w had;
    rests = λ k w low had. ⊎_elim
        (λ (same : w ≡ v). inl (ap is_some (ap (own_entry (container_at left.containers x.slot)) same ∙ cleans.moves.entry.here)))
        (λ (other : w ≢ v). ⊎_elim (λ own. inl (ap is_some (cleans.moves.entry.rest w other) ∙ own)) (λ based. inr based) (is.rests k w low had))
        (cases_eq w v);
  })

  pub footed_now : AreFooted stay left.containers
  footed_now = footed_stay states stay slot x y may.there here others (λ k. k ≢ 0) keeps pool.containers left.containers
      (λ s c b at based up. (each_stands states pool.containers may.footed s c b at based).0.above) on_base
      (λ s c differ at is. on_base_over pool.containers left.containers c (λ w. ap (λ (m : Option Mapped). own_entry m w) (moves.entry.others c.slot (λ e. differ (sym (slot_is s c at) ∙ e)))) is) may.footed
    where
      slot_is : (s : ℕ) (c : VolumeState) → state_at states s ≡ Some c → c.slot ≡ s
      slot_is s c at = (subst (λ (o : Option VolumeState). IfSome o (IsHeldIn disk pool s)) at (may.each s)).slot

  -- ---- names, and what all commit

  record Named (s : ℕ) (c : VolumeState) : Type 0 where
    volume : VolumeState
    there_is : state_at states s ≡ Some volume
    same : c.name ≡ volume.name

  was_named : (s : ℕ) (c : VolumeState) → state_at stay s ≡ Some c → Named s c
  was_named s c at = ⊎_elim
      (λ (e : s ≡ slot). record { volume = x; there_is = ap (state_at states) e ∙ may.there; same = ap (λ (z : VolumeState). z.name) (same_Some c y (sym at ∙ ap (state_at stay) e ∙ here) ∙ cleans.state) })
      (λ (other : s ≢ slot). record { volume = c; there_is = sym (others s other) ∙ at; same = refl })
      (cases_eq s slot)

  pub named_now : AreNamed states → AreNamed stay
  named_now named = from_pairs stay (λ s k c d first second same.
      let a = was_named s c first in
      let b = was_named k d second in
      to_pair states named s k a.volume b.volume a.there_is b.there_is (sym a.same ∙ same ∙ b.same))

  pub commits_now : sum_of stay ≡ sum_of states
  commits_now =
      let sum = sum_by-set committed_by states slot (Some y) None inside in
      let was : committed_by (state_at states slot) ≡ committed_by (Some x) = ap committed_by may.there in
      let now : committed_by (Some y) ≡ committed_by (Some x) = ap (λ (z : VolumeState). committed_by (Some z)) cleans.state in
      omega (arith, sum, was, now)

  -- So a step that cleans a block leaves the session standing,
  pub block_stands : StandsCleaned disk pool states slot x after left y
  block_stands = record {
    held = held_y;
    name = ap (λ (z : VolumeState). z.name) cleans.state;
    found = cleans.moves.found;
    version = cleans.moves.version;
    volume = block_volume disk after pool left states slot x y may cleans reads store;
    others = moved_beside disk after pool left states slot x may reads store v cleans.kind cleans.block moves;
    housed = housed_now;
    footed = footed_now;
    named = named_now;
    commits = commits_now;
  }

  -- and the next root holds the block where it lies now.
  pub holds_after : HoldsAfter pool left slot v cleans.moves.place
  unfolding moves
  holds_after = record {
    taken = next_new disk pool left slot v cleans.kind cleans.block moves told back;
    was_free = was_free disk pool left slot v cleans.kind cleans.block moves told;
    gone = cleared disk pool left slot v cleans.kind cleans.block moves told;
    others = next_other disk pool left slot v cleans.kind cleans.block moves told;
    committed = committed_same disk pool left slot v cleans.kind cleans.block moves told;
  }
    where
      back : (e : Entry) → own_entry (container_at pool.containers slot) v ≡ Some e → is_member pool.map.next e.pvbn ≡ true
      back e own = held.stands.told.1.own v e (ap (λ (n : ℕ). own_entry (container_at pool.containers n) v) held.slot ∙ own)
