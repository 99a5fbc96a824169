-- A mirror as it is made, over the copies in its container: it stands for a volume of the machine.
use Rattle.std.proofs.Common.{◌≡◌, ℕ, ◌*◌, Bool, true, false, cond, List, [], ◌++◌, map, Option, Some, None, refl, sym, ap, ap₂, subst, ◌∙◌}
use Rattle.std.specs.Prelude.{All, IsTrue}
use Rattle.std.specs.FinMap as fin
use Rattle.std.specs.FinSet as set
use Rattle.std.proofs.lemmas.List.Elements.{All-nil}
use Rattle.std.proofs.lemmas.Option.{none-some, same_Some}
use Rattle.fv_disk.specs.Shown.{Shown as Disk}
use Rattle.fv_bits.specs.Members.{is_member}
use Rattle.fv_charge.specs.Ledgers.{IsLedgerOf}
use Rattle.fv_container.specs.declared.entry.Entry.{Entry}
use Rattle.fv_container.specs.Chains.{AreCleanOn, along, chain_entry, container_at, map_in, or_else, own_entry, paged_at, parent_at}
use Rattle.fv_container.specs.Mapped.{entry_under}
use Rattle.fv_container.specs.Paged.{Paged}
use Rattle.fv_files.specs.Numbering.{AreNumbersIf}
use Rattle.fv_image.specs.ReachRules.{are_distinct}
use Rattle.fv_laws.proofs.Lists.{In}
use Rattle.fv_laws.proofs.PathCharges.{no_need}
use Rattle.fv_laws.specs.Positions.{HasNoReserve}
use Rattle.fv_model.specs.declared.commands.Kind.{Kind}
use Rattle.fv_model.specs.Effects.{mirror_of}
use Rattle.fv_model.specs.Places.{ids_of}
use Rattle.fv_model.specs.Space.{span_of}
use Rattle.fv_model.specs.Tables.{Table}
use Rattle.fv_tables.specs.Told.{table_told}
use Rattle.fv_tree.specs.Flushing.{HasKind}
use Rattle.fv_volmap.specs.Slots.{has, slot_at, taken_in}
use Rattle.fv_pool.specs.declared.pool.Pool.{Pool}
use Rattle.fv_pool.specs.declared.rooted.Rooted.{Rooted}
use Rattle.fv_pool.specs.BlocksOver.{block_of, held_block, held_entry, AreApart}
use Rattle.fv_pool.specs.Keeping.{kept_or}
use Rattle.fv_pool.specs.Lending.{use_of, IsTold}
use Rattle.fv_pool.proofs.Holding.{has_taken, held_some}
use Rattle.fv_volume.specs.declared.state.Base.{Base}
use Rattle.fv_volume.specs.declared.state.Snap.{Snap}
use Rattle.fv_volume.specs.declared.state.VolumeState.{VolumeState}
use Rattle.fv_volume.specs.Mirroring.{ledger_of_mirror, mirror_table}
use Rattle.fv_volume.specs.OneVolume.{base_by, base_table, blocks_in, snaps_by, standing_kept, table_for, tables_of, trees_for, uses_in, volume_for, IsKeptTable, IsStanding, IsTableIn, RootStands}
use Rattle.fv_volume.specs.Placing.{IsLedTo, IsStoredWell}
use Rattle.fv_volume.specs.Sharing.{AreShared, SharesWith, trees_kept}
use Rattle.fv_volume.proofs.ActiveRoot.{root_leads, root_standing, root_table, root_well}
use Rattle.fv_mirror.specs.Making.{source_bits, HasCopies}
use Rattle.fv_mirror.proofs.CopiedTables.{copied_table, table_same}
use Rattle.fv_mirror.proofs.CopiedTrees.{IsCopied}
use Rattle.fv_mirror.proofs.Machine.{charges_table}
use Rattle.fv_mirror.proofs.Source.{bits_has, entry_there, held_parts, kept_there}

-- A mirror of a volume's snapshot as it is made: a container of copies and no parent, the snapshot's numbers in its active slot and no others, and the
-- snapshot's root without its place.
pub record IsNewMirror (disk : Disk) (pool : Pool) (y : VolumeState) (q : Snap) (after : Disk) (left : Pool) (x : VolumeState) (container : Paged) : Type 0 where
  pub there : paged_at left.containers x.slot ≡ Some container
  pub alone : parent_at left.containers x.slot ≡ None
  pub same : (v : ℕ) → has v (slot_at x.map 0) ≡ has v (slot_at y.map q.slot)
  pub only : (v : ℕ) → taken_in x.map.slots v ≡ true → has v (slot_at y.map q.slot) ≡ true
  pub active : x.active ≡ mirror_table q.table
  pub based : x.base ≡ None
  pub snapshots : x.snapshots ≡ []
  pub now : x.now ≡ y.now
  pub known : x.known ≡ false
  pub files : x.files ≡ None
  pub numbers : x.numbers ≡ None
  pub copies : HasCopies disk pool y.slot (source_bits y q.slot) container after left

module _ (disk : Disk) (pool : Pool) (y : VolumeState) (q : Snap) (after : Disk) (left : Pool) (x : VolumeState) (container : Paged) (is : IsNewMirror disk pool y q after left x container)
    (stands : IsStanding disk pool y) (there : In q (tables_of y)) where
  abbrev pub table : Table
  table = table_told (standing_kept (blocks_in disk pool y) q)

  its : IsKeptTable disk pool y q
  its = kept_there disk pool y stands q there

  -- ---- its entries

  own_is : (v : ℕ) → own_entry (container_at left.containers x.slot) v ≡ entry_under container.map v
  own_is v = ap (λ (c : Option Paged). own_entry (map_in c) v) is.there

  chain_is : (v : ℕ) → chain_entry left.containers x.slot v ≡ entry_under container.map v
  unfolding along
  chain_is v =
      ap (λ (o : Option Entry). or_else o (along left.containers 63 (parent_at left.containers x.slot) v)) (own_is v)
      ∙ ap (λ (o : Option ℕ). or_else (entry_under container.map v) (along left.containers 63 o v)) is.alone ∙ last (entry_under container.map v)
    where
      last : (o : Option Entry) → or_else o None ≡ o
      last None = refl
      last (Some e) = refl

  held_is : (v : ℕ) → has v (slot_at y.map q.slot) ≡ true → held_entry x.map left.containers x.slot v ≡ entry_under container.map v
  held_is v member =
      let e = entry_there disk pool y stands q there v member in
      held_some x.map left.containers x.slot v (held_parts y.map pool.containers y.slot v e.0 e.1).0 (has_taken x.map.slots 0 v (is.same v ∙ member)) ∙ chain_is v

  -- a block of the source and its copy
  pub copied : (v : ℕ) → has v (slot_at y.map q.slot) ≡ true → IsCopied (blocks_in disk pool y q.slot) (blocks_in after left x 0) (uses_in pool y q.slot) (uses_in left x 0) v
  copied v member =
      let c = is.copies.copies v (bits_has y.map.span (slot_at y.map q.slot) v ∙ member) in
      let e = entry_there disk pool y stands q there v member in
      let same : e.0 ≡ c.from = same_Some e.0 c.from (sym (held_parts y.map pool.containers y.slot v e.0 e.1).1 ∙ c.there) in
      let from : held_entry y.map pool.containers y.slot v ≡ Some c.from = e.1 ∙ ap (λ (z : Entry). Some z) same in
      let copy : held_entry x.map left.containers x.slot v ≡ Some c.entry = held_is v member ∙ c.here in
      let mine : has v (slot_at x.map 0) ≡ true = is.same v ∙ member in
      record {
        kind = c.from.kind;
        from = kept_or (fin.get pool.kept c.from.pvbn) (disk.reads c.from.pvbn);
        copy = after.reads c.entry.pvbn;
        there = ap (λ (t : Bool). cond t (held_block y.map pool y.slot disk.reads v) None) member ∙ ap (block_of pool.kept disk.reads) from;
        here =
            ap (λ (t : Bool). cond t (held_block x.map left x.slot after.reads v) None) mine ∙ ap (block_of left.kept after.reads) copy
            ∙ ap (λ (k : Option (List ℕ)). Some (kept_or k (after.reads c.entry.pvbn))) c.unkept;
        was = subst (HasKind c.from.kind) (sym (ap (λ (t : Bool). cond t (Some (use_of (held_entry y.map pool.containers y.slot v))) None) member ∙ ap (λ (o : Option Entry). Some (use_of o)) from)) refl;
        now = subst (HasKind c.from.kind) (sym (ap (λ (t : Bool). cond t (Some (use_of (held_entry x.map left.containers x.slot v))) None) mine ∙ ap (λ (o : Option Entry). Some (use_of o)) copy)) c.kind;
        shaped = c.shaped;
        blank = c.blank;
      }

  -- So its table lies whole in its active slot, with each place unknown.
  pub root_now : RootStands after left x 0 x.active
  root_now =
      subst (λ (k : Bool). IsTableIn k (blocks_in after left x 0) (uses_in left x 0) (slot_at x.map 0) x.now x.active) (sym is.known)
      (subst (λ (n : ℕ). IsTableIn false (blocks_in after left x 0) (uses_in left x 0) (slot_at x.map 0) n x.active) (sym is.now)
      (subst (λ (r : Rooted). IsTableIn false (blocks_in after left x 0) (uses_in left x 0) (slot_at x.map 0) y.now r) (sym is.active)
      (copied_table y.known (blocks_in disk pool y q.slot) (blocks_in after left x 0) (uses_in pool y q.slot) (uses_in left x 0) (slot_at y.map q.slot) (slot_at x.map 0) y.now q.table its.1 is.same copied)))

  -- Its table is the snapshot's,
  pub table_is : table_for after left x ≡ table
  table_is =
      root_table after left x root_now is.files ∙ (λ i. table_told (standing_kept (λ k. blocks_in after left x 0) (record { slot = 0; name = []; table = is.active i })))
      ∙ table_same y.known (blocks_in disk pool y q.slot) (blocks_in after left x 0) (uses_in pool y q.slot) (uses_in left x 0) (slot_at y.map q.slot) (slot_at x.map 0) y.now q.table its.1 is.same copied

  tables_are : tables_of x ≡ []
  tables_are = ap₂ (λ (o : Option Base) (ps : List Snap). base_table o ++ ps) is.based is.snapshots

  -- it has no base,
  pub none_based : (volume_for after left x).base ≡ None
  none_based = ap (base_by (blocks_in after left x)) is.based

  -- and no snapshot.
  pub none_kept : (volume_for after left x).snapshots ≡ fin.empty
  none_kept = ap (snaps_by (blocks_in after left x)) is.snapshots

  -- ---- its entries lie apart

  -- each entry of it is a copy's
  led_next : (v : ℕ) (e : Entry) → entry_under container.map v ≡ Some e → is_member left.map.next e.pvbn ≡ true
  led_next v e at = by (is_member (source_bits y q.slot) v) refl
    where
      by : (b : Bool) → is_member (source_bits y q.slot) v ≡ b → is_member left.map.next e.pvbn ≡ true
      by true member =
          let c = is.copies.copies v member in
          ap (λ (z : Entry). is_member left.map.next z.pvbn) (same_Some e c.entry (sym at ∙ c.here)) ∙ c.taken
      by false member = absurd (none-some e (sym (is.copies.holes v member) ∙ at))

  held_own : (v : ℕ) (e : Entry) → held_entry x.map left.containers x.slot v ≡ Some e → entry_under container.map v ≡ Some e
  held_own v e held = sym (chain_is v) ∙ (held_parts x.map left.containers x.slot v e held).1

  pub apart_now : AreApart left x.map x.slot
  apart_now = record {
    own = λ v e own. led_next v e (sym (own_is v) ∙ own);
    held = λ v e held. led_next v e (held_own v e held);
    own_apart = λ v w other e here f there. is.copies.apart v w other e f (sym (own_is v) ∙ here) (sym (own_is w) ∙ there);
    held_apart = λ v w other e here f there. is.copies.apart v w other e f (sym (own_is v) ∙ here) (held_own w f there);
  }

  module _ (tells : IsTrue after.tells) (clean : AreCleanOn after.reads left.containers) (ledger : x.ledger ≡ ledger_of_mirror (set.len (ids_of table)) x.size x.kind x.span) where
    told_now : IsTold after left x.map x.slot
    told_now = (tells, apart_now, clean)

    kept_now : All (IsKeptTable after left x) (tables_of x)
    kept_now = subst (λ (ps : List Snap). All (IsKeptTable after left x) ps) (sym tables_are) (All-nil (IsKeptTable after left x))

    shared_now : AreShared (trees_for after left x) (blocks_in after left x) (tables_of x)
    shared_now = subst (λ (ps : List Snap). AreShared (trees_for after left x) (blocks_in after left x) ps) (sym tables_are) (record {
      active = All-nil (λ (q : Snap). SharesWith (trees_for after left x) (trees_kept (blocks_in after left x) q));
      kept = All-nil (λ (q : Snap). All (λ (r : Snap). SharesWith (trees_kept (blocks_in after left x) q) (trees_kept (blocks_in after left x) r)) []);
    })

    ledger_now : IsLedgerOf (volume_for after left x) x.ledger
    ledger_now = subst (IsLedgerOf (volume_for after left x)) (sym ledger) (record {
      charged = ap (λ (t : Table). set.len (ids_of t)) (sym table_is) ∙ sym (charges_table (volume_for after left x) none_based none_kept);
      needed = sym (no_need (volume_for after left x) (subst HasNoReserve (sym table_is) its.1.reserves));
      size = refl;
      kind = refl;
      span = refl;
    })

    -- So it stands for a volume of the machine,
    pub new_standing : IsStanding after left x
    new_standing = root_standing after left x root_now is.files told_now kept_now (ap (λ (ps : List Snap). are_distinct (map (λ (q : Snap). q.name) ps)) is.snapshots) shared_now ledger_now
        (subst (λ o. AreNumbersIf o (table_for after left x)) (sym is.numbers) tt)

  -- what is in use of it is led to, and stored well.
  pub new_led : IsLedTo after left x
  new_led = root_leads after left x root_now is.files

  pub new_well : IsStoredWell after left x
  new_well = root_well after left x root_now is.files

  -- So it is told as the machine's mirror, where its numbers are those.
  pub new_told : (size : ℕ) (kind : Kind) → x.kind ≡ kind → x.size ≡ size → x.most ≡ 2 * size → x.span ≡ span_of size 0 y.span → volume_for after left x ≡ mirror_of (volume_for disk pool y) table size kind
  new_told size kind kind_is size_is most span = λ i. record {
    kind = kind_is i;
    size = size_is i;
    most = most i;
    span = span i;
    now = is.now i;
    active = table_is i;
    snapshots = none_kept i;
    base = none_based i;
    known = is.known i;
  }
