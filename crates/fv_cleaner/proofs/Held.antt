-- A volume of which a block was cleaned is held, and stands for the volume that it stood for.
use Rattle.std.proofs.Common.{◌≡◌, ◌≢◌, ◌≤◌, ◌+◌, ℕ, Bool, true, false, true≢false, cond, List, [], ◌∷◌, map, Option, Some, None, inl, inr, refl, sym, ap, ap₂, subst, ◌∙◌, ⊎_elim, arith}
use Rattle.std.specs.Prelude.{All, is_some, IfSome}
use Rattle.std.specs.Option.{option_map}
use Rattle.std.specs.FinMap as fin
use Rattle.std.specs.FinSet as set
use Rattle.std.proofs.lemmas.Bool.{cases_eq}
use Rattle.std.proofs.lemmas.List.Elements.{All-head, All-tail}
use Rattle.fv_disk.specs.Shown.{Image, Shown as Disk}
use Rattle.fv_disk.specs.DiskCalls.{OnlyReads}
use Rattle.fv_container.specs.declared.entry.Entry.{Entry}
use Rattle.fv_container.specs.Chains.{TellsEntries}
use Rattle.fv_charge.specs.Ledgers.{IsLedgerOf}
use Rattle.fv_model.specs.Space.{base_ids}
use Rattle.fv_model.specs.Spelling.{name_cmp}
use Rattle.fv_model.specs.Tables.{Table}
use Rattle.fv_model.specs.Volumes.{Volume}
use Rattle.fv_image.specs.Views.{Placed}
use Rattle.fv_root.specs.declared.find.Found.{Found}
use Rattle.fv_root.specs.Formatted.{IsSize}
use Rattle.fv_store.specs.Held.{StandsOn}
use Rattle.fv_tables.specs.Alike.{hintless}
use Rattle.fv_tables.specs.Spelled.{Under}
use Rattle.fv_tables.specs.Told.{standing_at, table_told}
use Rattle.fv_tree.specs.Sources.{Use}
use Rattle.fv_files.specs.Apart.{Trees, stored_trees}
use Rattle.fv_files.specs.Numbering.{AreNumbersIf}
use Rattle.fv_volmap.specs.Slots.{has, slot_at, slot_of_base}
use Rattle.fv_pool.specs.declared.pool.Pool.{Pool}
use Rattle.fv_pool.specs.declared.rooted.Rooted.{Rooted}
use Rattle.fv_pool.specs.BlocksOver.{block_of, held_block, held_entry}
use Rattle.fv_pool.specs.Keeping.{Blocks}
use Rattle.fv_pool.specs.Lending.{IsTold, use_of}
use Rattle.fv_volume.specs.declared.state.Base.{Base}
use Rattle.fv_volume.specs.declared.state.Snap.{Snap}
use Rattle.fv_volume.specs.declared.state.VolumeState.{VolumeState}
use Rattle.fv_volume.specs.Files.{IsLabelled}
use Rattle.fv_volume.specs.Held.{IsHeldIn}
use Rattle.fv_volume.specs.Labels.{label_said}
use Rattle.fv_volume.specs.OneVolume.{base_table, base_told_by, blocks_in, snap_by, tables_of, table_for, uses_in, volume_as, volume_for, IsKeptTable, IsReady, IsStanding, IsTableIn, RootStands}
use Rattle.fv_volume.specs.Placing.{StaysBeside}
use Rattle.fv_volume.specs.Sharing.{differs_in, pointer_in, SharesWith}
use Rattle.fv_volume.specs.States.{States}
use Rattle.fv_volume.proofs.ActiveRoot.{root_leads, root_standing, root_table, root_well}
use Rattle.fv_volume.proofs.ActiveStands.{active_stands}
use Rattle.fv_volume.proofs.AllRoots.{are_shared, each_shares, roots, EachShares}
use Rattle.fv_volume.proofs.EachRoot.{all_among, all_in}
use Rattle.fv_volume.proofs.SharedRoots.{stored_same}
use Rattle.fv_volume.proofs.TablesOf.{base_all, snaps_all}
use Rattle.fv_volumes.proofs.Others.{beside_loads}
use Rattle.fv_laws.proofs.Lists.{In}
use Rattle.fv_cleaner.specs.Searching.{Lies, lies_in, placed_by}
use Rattle.fv_cleaner.specs.Staying.{CleansUnder, MayBeCleaned, TableStays}
use Rattle.fv_cleaner.specs.Stepping.{CleansBlock}
use Rattle.fv_cleaner.proofs.Lowers.{moved, there}
use Rattle.fv_cleaner.proofs.Stays.{stays_in_slot}

-- ---- a block that lies under a VVBN

pub lying_block : (kept : Blocks) (i : Image) (o : Option Entry) (z : Placed) → placed_by kept i o ≡ Some z → block_of kept i o ≡ Some z.block
lying_block kept i None z is = absurd cc
lying_block kept i (Some e) z is = ap (option_map (λ (p : Placed). p.block)) is

pub lying_use : (kept : Blocks) (i : Image) (o : Option Entry) (z : Placed) → placed_by kept i o ≡ Some z → use_of o ≡ record { pvbn = z.pvbn; kind = z.kind }
lying_use kept i None z is = absurd cc
lying_use kept i (Some e) z is = same (record { pvbn = e.pvbn; kind = e.kind }) (record { pvbn = z.pvbn; kind = z.kind }) (ap (option_map (λ (p : Placed). record { pvbn = p.pvbn; kind = p.kind })) is)
  where
    same : (a b : Use) → Some a ≡ Some b → a ≡ b
    same a b e = cc

-- ---- tables that are the same but for hints share alike

pub shares_hintless : (a b c d : Trees) → ((o : Option ℕ) (level place : ℕ) → hintless (pointer_in (c o) level place) ≡ hintless (pointer_in (a o) level place))
    → ((o : Option ℕ) (level place : ℕ) → hintless (pointer_in (d o) level place) ≡ hintless (pointer_in (b o) level place))
    → ((o : Option ℕ) (level place : ℕ) → differs_in (a o) level place ≡ false) → ((o : Option ℕ) (level place : ℕ) → differs_in (b o) level place ≡ false)
    → ((o : Option ℕ) (level place : ℕ) → differs_in (c o) level place ≡ false) → ((o : Option ℕ) (level place : ℕ) → differs_in (d o) level place ≡ false)
    → SharesWith a b → SharesWith c d
shares_hintless a b c d first second still_a still_b still_c still_d is = record {
  same = λ o level place some stamp.
      let p = first o level place in
      let q = second o level place in
      let at = is.same o level place (λ none. some (ap (λ x. x.stamp) p ∙ none)) (sym (ap (λ x. x.stamp) q) ∙ stamp ∙ ap (λ x. x.stamp) p) in
      record {
        vvbn = at.vvbn;
        first = record { some = some; same = still_c o level place; vvbn = ap (λ x. x.vvbn) p ∙ at.first.vvbn };
        second = record { some = λ none. some (sym stamp ∙ none); same = still_d o level place; vvbn = ap (λ x. x.vvbn) q ∙ at.second.vvbn };
      };
  back = λ o u level place k q v one two.
      let p = first o level place in
      let r = second u k q in
      let at = is.back o u level place k q v
      (record { some = λ none. one.some (ap (λ x. x.stamp) p ∙ none); same = still_a o level place; vvbn = sym (ap (λ x. x.vvbn) p) ∙ one.vvbn })
      (record { some = λ none. two.some (ap (λ x. x.stamp) r ∙ none); same = still_b u k q; vvbn = sym (ap (λ x. x.vvbn) r) ∙ two.vvbn }) in
      record {
        tree = at.tree;
        level_is = at.level_is;
        place_is = at.place_is;
        stamp = ap (λ x. x.stamp) p ∙ at.stamp ∙ sym (ap (λ x. x.stamp) r);
      };
}

-- ---- the label

-- that a volume changed changes nothing of its label
labelled_changed : (s : ℕ) (x : VolumeState) → IsLabelled s x → IsLabelled s (record x { changed = true })
unfolding label_said
labelled_changed s x is = record {
  slot_is = is.slot_is;
  form = is.form;
  span = is.span;
  map = is.map;
  snapshots = is.snapshots;
  slots = is.slots;
  waits = is.waits;
  counts = is.counts;
  levels = is.levels;
  named = is.named;
  label = is.label;
}

module _ (disk after : Disk) (pool left : Pool) (states : States) (slot : ℕ) (x y : VolumeState) (may : MayBeCleaned disk pool states slot x) (cleans : CleansBlock disk pool x left y) (reads : OnlyReads disk after) (store : StandsOn after left.store.pairs) where
  held : IsHeldIn disk pool slot x
  held = subst (λ (o : Option VolumeState). IfSome o (IsHeldIn disk pool slot)) may.there (may.each slot)

  stands : IsStanding disk pool x
  stands = held.stands

  told : TellsEntries disk pool.containers
  told = (stands.told.0, stands.told.2)

  abbrev z : VolumeState
  z = record x { changed = true }

  abbrev v : ℕ
  v = cleans.vvbn

  abbrev at : Lies
  at = lies_in x.map pool x.slot disk.reads

  abbrev was : Placed
  was = record { pvbn = (cleans.next told).0; kind = cleans.kind; block = cleans.was }

  it_was : at v ≡ Some was
  it_was = there disk pool x left y cleans told stands.told.1

  -- ---- one slot

  others_blocks : (k w : ℕ) → w ≢ v → blocks_in disk left z k w ≡ blocks_in disk pool x k w
  others_blocks k w other = ap (λ (o : Option (List ℕ)). cond (has w (slot_at x.map k)) o None) ((moved disk pool x left y cleans told stands.told.1).contents stands.told.1 disk.reads w other)

  others_uses : (k w : ℕ) → w ≢ v → uses_in left z k w ≡ uses_in pool x k w
  others_uses k w other = ap (λ (o : Option Entry). cond (has w (slot_at x.map k)) (Some (use_of o)) None) ((moved disk pool x left y cleans told stands.told.1).others w other)

  cleans_slot : (k : ℕ) → has v (slot_at x.map k) ≡ true → CleansUnder at (blocks_in disk pool x k) (uses_in pool x k) v was (blocks_in disk left z k) (uses_in left z k) cleans.moves.place cleans.block
  cleans_slot k has_it = record {
    next = (cleans.next told).1;
    there = ap (λ (b : Bool). cond b (held_block x.map pool x.slot disk.reads v) None) has_it ∙ lying_block pool.kept disk.reads (held_entry x.map pool.containers x.slot v) was it_was;
    used = ap (λ (b : Bool). cond b (Some (use_of (held_entry x.map pool.containers x.slot v))) None) has_it ∙ ap (λ (u : Use). Some u) (lying_use pool.kept disk.reads (held_entry x.map pool.containers x.slot v) was it_was);
    here = ap (λ (b : Bool). cond b (held_block x.map left x.slot disk.reads v) None) has_it ∙ (moved disk pool x left y cleans told stands.told.1).content disk.reads;
    use_now = ap (λ (b : Bool). cond b (Some (use_of (held_entry x.map left.containers x.slot v))) None) has_it ∙ ap (λ (o : Option Entry). Some (use_of o)) (moved disk pool x left y cleans told stands.told.1).entry;
    others = others_blocks k;
    uses_same = others_uses k;
    lies = lies;
    fills = cleans.fills;
    places = cleans.places told;
  }
    where
      lies : (w : ℕ) (q : Placed) → at w ≡ Some q → is_some (blocks_in disk pool x k w) ≡ true → (blocks_in disk pool x k w ≡ Some q.block) × (uses_in pool x k w ≡ Some (record { pvbn = q.pvbn; kind = q.kind }))
      lies w q lie some = by (has w (slot_at x.map k)) refl some
        where
          by : (b : Bool) → has w (slot_at x.map k) ≡ b → is_some (cond b (held_block x.map pool x.slot disk.reads w) None) ≡ true → (blocks_in disk pool x k w ≡ Some q.block) × (uses_in pool x k w ≡ Some (record { pvbn = q.pvbn; kind = q.kind }))
          by true e some = (
            ap (λ (b : Bool). cond b (held_block x.map pool x.slot disk.reads w) None) e ∙ lying_block pool.kept disk.reads (held_entry x.map pool.containers x.slot w) q lie,
            ap (λ (b : Bool). cond b (Some (use_of (held_entry x.map pool.containers x.slot w))) None) e ∙ ap (λ (u : Use). Some u) (lying_use pool.kept disk.reads (held_entry x.map pool.containers x.slot w) q lie),
          )
          by false e some = absurd cc

  -- a slot without the VVBN has what it had
  same_blocks : (k : ℕ) → has v (slot_at x.map k) ≡ false → (w : ℕ) → blocks_in disk left z k w ≡ blocks_in disk pool x k w
  same_blocks k none w = ⊎_elim
      (λ (same : w ≡ v). let no : has w (slot_at x.map k) ≡ false = ap (λ (n : ℕ). has n (slot_at x.map k)) same ∙ none in
      ap (λ (b : Bool). cond b (held_block x.map left x.slot disk.reads w) None) no ∙ sym (ap (λ (b : Bool). cond b (held_block x.map pool x.slot disk.reads w) None) no))
      (λ (other : w ≢ v). others_blocks k w other)
      (cases_eq w v)

  same_uses : (k : ℕ) → has v (slot_at x.map k) ≡ false → (w : ℕ) → uses_in left z k w ≡ uses_in pool x k w
  same_uses k none w = ⊎_elim
      (λ (same : w ≡ v). let no : has w (slot_at x.map k) ≡ false = ap (λ (n : ℕ). has n (slot_at x.map k)) same ∙ none in
      ap (λ (b : Bool). cond b (Some (use_of (held_entry x.map left.containers x.slot w))) None) no ∙ sym (ap (λ (b : Bool). cond b (Some (use_of (held_entry x.map pool.containers x.slot w))) None) no))
      (λ (other : w ≢ v). others_uses k w other)
      (cases_eq w v)

  -- The table of each root stays in its slot.
  stays : (k : ℕ) (root : Rooted) → RootStands disk pool x k root → TableStays (blocks_in disk pool x k) (blocks_in disk left z k) (uses_in left z k) (slot_at x.map k) x.now root
  stays k root is = by (has v (slot_at x.map k)) refl
    where
      unclean : IsTableIn false (blocks_in disk pool x k) (uses_in pool x k) (slot_at x.map k) x.now root
      unclean = subst (λ (b : Bool). IsTableIn b (blocks_in disk pool x k) (uses_in pool x k) (slot_at x.map k) x.now root) may.unclean is

      by : (b : Bool) → has v (slot_at x.map k) ≡ b → TableStays (blocks_in disk pool x k) (blocks_in disk left z k) (uses_in left z k) (slot_at x.map k) x.now root
      by true has_it = stays_in_slot at (blocks_in disk pool x k) (blocks_in disk left z k) (uses_in pool x k) (uses_in left z k) v cleans.moves.place was cleans.block (cleans_slot k has_it) (slot_at x.map k) x.now root unclean
      by false none =
          let blocks : blocks_in disk left z k ≡ blocks_in disk pool x k = λ i w. same_blocks k none w i in
          let uses : uses_in left z k ≡ uses_in pool x k = λ i w. same_uses k none w i in
          record {
            lies = subst (λ (u : Under). IsTableIn false u (uses_in left z k) (slot_at x.map k) x.now root) (sym blocks) (subst (λ (u : ℕ → Option Use). IsTableIn false (blocks_in disk pool x k) u (slot_at x.map k) x.now root) (sym uses) unclean);
            told = ap (λ (u : Under). table_told (standing_at u root.levels root.root)) blocks;
            pointers = λ o level place. ap (λ (u : Under). hintless (pointer_in (stored_trees u root.levels root.root o) level place)) blocks;
          }

  root_stays : (k : ℕ) (root : Rooted) → RootStands disk pool x k root → RootStands disk left z k root
  root_stays k root is = subst (λ (b : Bool). IsTableIn b (blocks_in disk left z k) (uses_in left z k) (slot_at x.map k) x.now root) (sym may.unclean) (stays k root is).lies

  -- ---- the volume

  active : RootStands disk pool x 0 x.active
  active = active_stands disk pool x stands may.files held.led held.well

  active_now : RootStands disk left z 0 z.active
  active_now = root_stays 0 x.active active

  kept_now : All (IsKeptTable disk left z) (tables_of z)
  kept_now = all_among (IsKeptTable disk left z) (tables_of x) (λ q one. let is = all_in (IsKeptTable disk pool x) (tables_of x) stands.kept q one in (is.0, root_stays q.slot q.table is.1))

  -- each root has its table
  root_there : (q : Snap) → In q (roots x) → RootStands disk pool x q.slot q.table
  root_there q (inl e) = subst (λ (s : Snap). RootStands disk pool x s.slot s.table) e active
  root_there q (inr one) = (all_in (IsKeptTable disk pool x) (tables_of x) stands.kept q one).1

  each_now : EachShares disk left z (roots z)
  each_now q r one two = shares_hintless
      (stored_trees (blocks_in disk pool x q.slot) q.table.levels q.table.root) (stored_trees (blocks_in disk pool x r.slot) r.table.levels r.table.root)
      (stored_trees (blocks_in disk left z q.slot) q.table.levels q.table.root) (stored_trees (blocks_in disk left z r.slot) r.table.levels r.table.root)
      (stays q.slot q.table (root_there q one)).pointers (stays r.slot r.table (root_there r two)).pointers
      (stored_same (blocks_in disk pool x q.slot) q.table.levels q.table.root) (stored_same (blocks_in disk pool x r.slot) r.table.levels r.table.root)
      (stored_same (blocks_in disk left z q.slot) q.table.levels q.table.root) (stored_same (blocks_in disk left z r.slot) r.table.levels r.table.root)
      (each_shares disk pool x may.files active stands.shared q r one two)

  table_same : table_for disk left z ≡ table_for disk pool x
  table_same = root_table disk left z active_now may.files ∙ (stays 0 x.active active).told ∙ sym (root_table disk pool x active may.files)

  snaps_same : (snaps : List Snap) → All (IsKeptTable disk pool x) snaps → map (snap_by (blocks_in disk left z)) snaps ≡ map (snap_by (blocks_in disk pool x)) snaps
  snaps_same [] all = refl
  snaps_same (q ∷ qs) all =
      let first = (stays q.slot q.table (All-head (IsKeptTable disk pool x) q qs all).1).told in
      ap₂ (λ (t : Table) (rest : List (List ℕ × Table)). (q.name, t) ∷ rest) first (snaps_same qs (All-tail (IsKeptTable disk pool x) q qs all))

  base_same : (o : Option Base) → All (IsKeptTable disk pool x) (base_table o) → base_told_by (blocks_in disk left z) o ≡ base_told_by (blocks_in disk pool x) o
  base_same None all = refl
  base_same (Some b) all = (stays slot_of_base b.table (All-head (IsKeptTable disk pool x) (record { slot = slot_of_base; name = b.snapshot; table = b.table }) [] all).1).told

  -- It stands for what it stood for,
  volume_same : volume_for disk left z ≡ volume_for disk pool x
  volume_same = λ i. volume_as x (record {
    active = table_same i;
    snapshots = fin.from_entries {R = name_cmp} (snaps_same x.snapshots (snaps_all (IsKeptTable disk pool x) x stands.kept) i);
    base = base_same x.base (base_all (IsKeptTable disk pool x) x stands.kept) i;
  })

  told_now : IsTold disk left z.map z.slot
  told_now = (stands.told.0, (moved disk pool x left y cleans told stands.told.1).apart told stands.told.1, cleans.moves.entry.clean told)

  stands_now : IsStanding disk left z
  stands_now = root_standing disk left z active_now may.files told_now kept_now stands.names
      (are_shared disk left z may.files active_now each_now)
      (subst (λ (w : Volume). IsLedgerOf w x.ledger) (sym volume_same) stands.ledger)
      (subst (λ (t : Table). AreNumbersIf x.numbers t) (sym table_same) stands.numbers)

  -- also over what the disk is after the step,
  later : StaysBeside disk left after left z
  later = beside_loads disk after left left (record { map = refl; kept = refl; found = refl; version = refl; containers = record { maps = λ s. refl; parents = refl; clean = λ tells. tells.1 } }) reads z stands_now

  ready_now : IsReady after left z
  ready_now = record {
    lent = record {
      within = held.ready.lent.within;
      stands = store;
      few = held.ready.lent.few;
      entries = (let few = held.ready.lent.entries in let count = cleans.moves.entry.shape.count in omega (arith, few, count));
    };
    labelled = labelled_changed x.slot x held.ready.labelled;
    booked = record { size = held.ready.booked.size; kind = held.ready.booked.kind; span = held.ready.booked.span; need = held.ready.booked.need; charge = held.ready.booked.charge };
    blocks = subst (λ (f : Found). IsSize f.blocks) (sym cleans.moves.found) held.ready.blocks;
    changed = λ e. absurd (true≢false e);
    fresh = λ e. absurd (true≢false e);
  }

  volume_later : volume_for after left z ≡ volume_for disk pool x
  volume_later = later.volume ∙ volume_same

  held_now : IsHeldIn after left slot z
  held_now = record {
    slot = held.slot;
    ready = ready_now;
    stands = later.standing;
    led = later.led (root_leads disk left z active_now may.files);
    well = later.well (root_well disk left z active_now may.files);
    wide = subst (λ (w : Volume). w.most + (set.len (base_ids w.base) + 256) ≤ w.span) (sym volume_later) held.wide;
    within = held.within;
  }

  -- and is held.
  pub block_held : IsHeldIn after left slot y
  block_held = subst (IsHeldIn after left slot) (sym cleans.state) held_now

  pub block_volume : volume_for after left y ≡ volume_for disk pool x
  block_volume = ap (volume_for after left) cleans.state ∙ volume_later
