use Rattle.std.proofs.Common.{◌≡◌, ℕ, None, Some, ap, ◌∙◌, get_or, refl, sym, subst}
use Rattle.std.proofs.lemmas.List.{get_or-set_other, length-set}
use Rattle.std.specs.Prelude.{IsTrue}
use Rattle.fv_disk.specs.Shown.{Image}
use Rattle.fv_image.specs.Views.{entry_count, footing_of}
use Rattle.fv_image.specs.Held.{view_at}
use Rattle.fv_root.specs.Finding.{root_found}
use Rattle.fv_disk.proofs.Resting.{reads_then}
use Rattle.fv_volmap.specs.Slots.{Volume, stored_count}
use Rattle.fv_container.specs.Clean.{IsCleanOn, IsCleanTree}
use Rattle.fv_container.specs.Spelled.{IsFault, IsOpened}
use Rattle.fv_volume.specs.Loading.{HaveBits, IsBadMap, IsLoadFault, KeepsOthers}
use Rattle.fv_volume.specs.SlotReads.{HaveRead, IsOpenedOn}
use Rattle.fv_volumes.proofs.Labelled.{bad_label, bad_map, bad_tree, handed, is_label, lacks_memory, loaded_none, loaded_some}
use Rattle.fv_volume.proofs.Loaded.{few_snaps, labelled_from, slots_loaded}
use Rattle.fv_volumes.proofs.SlotReads.{bits_beside, bits_read, used_beside}
use Rattle.fv_volumes.proofs.Stepping.{has_container}
use Rattle.fv_volumes.proofs.load.load_volume.Goals as goal

pub returns-then-place-eq0-clause-loaded : goal.returns-then-place-eq0-clause-loaded
returns-then-place-eq0-clause-loaded g c = λ tells empty.
    loaded_none c.args.found.now (g.D.Disk.shown c.args.disk.now).reads c.args.slot c.requires.slot _ c.if-place-eq0.true empty

pub returns-in_err-label-clause-fault : goal.returns-in_err-label-clause-fault
returns-in_err-label-clause-fault g c = λ tells.
    let found = c.args.found.now in
    let i = (g.D.Disk.shown c.args.disk.now).reads in
    let e = c.in_err-label.field-0.0 in
    handed (IsLoadFault i found) e c.from_residual.result c.from_residual.ensures.1
    (bad_label found i c.args.slot c.requires.slot (get_or found.root.labels c.args.slot 0) e refl c.if-place-eq0.false (c.in_err-label.ensures.fault tells))

pub returns-in_err-container-clause-fault : goal.returns-in_err-container-clause-fault
returns-in_err-container-clause-fault g c = λ tells.
    let i = (g.D.Disk.shown c.args.disk.now).reads in
    let l = c.in_ok-label.label in
    let told = subst IsTrue (sym c.read_label.ensures.only_reads.stays.tells) tells in
    let lies = is_label c.args.found.now i c.args.slot c.requires.slot (get_or c.args.found.now.root.labels c.args.slot 0) l refl c.if-place-eq0.false (c.in_ok-label.ensures.label tells) in
    handed (IsLoadFault i c.args.found.now) c.in_err-container.field-0.0 c.from_residual-in_err-container.result c.from_residual-in_err-container.ensures.1
    (bad_tree c.args.found.now i c.args.slot c.requires.slot l c.in_err-container.field-0.0 lies
    (subst (λ (j : Image). IsFault j l.container l.height (entry_count l.span) c.in_err-container.field-0.0) c.read_label.ensures.only_reads.stays.reads (c.in_err-container.ensures.fault told)))

pub returns-in_err-map-clause-fault : goal.returns-in_err-map-clause-fault
returns-in_err-map-clause-fault g c = λ tells.
    let found = c.args.found.now in
    let i = (g.D.Disk.shown c.args.disk.now).reads in
    let l = c.in_ok-label.label in
    let e = c.in_err-map.field-0.0 in
    let map = c.in_ok-container.container in
    let first = c.read_label.ensures.only_reads.stays in
    let second = c.read_container.ensures.only_reads.stays in
    let told = subst IsTrue (sym first.tells) tells in
    let lies = is_label found i c.args.slot c.requires.slot (get_or found.root.labels c.args.slot 0) l refl c.if-place-eq0.false (c.in_ok-label.ensures.label tells) in
    let opened = subst (λ (j : Image). IsOpened j l.container l.height map.map) first.reads (c.in_ok-container.ensures.opened told) in
    let there : IsOpenedOn (g.D.Disk.shown c.read_container.new.disk).reads map.map = record { root = l.container; height = l.height; opened = subst (λ (j : Image). IsOpened j l.container l.height map.map) (sym second.reads) (c.in_ok-container.ensures.opened told) } in
    handed (IsLoadFault i found) e c.from_residual-in_err-map.result c.from_residual-in_err-map.ensures.1
    (bad_map found i c.args.slot c.requires.slot l map.map c.in_ok-snapshots.snapshots e lies opened c.in_ok-container.ensures.size c.in_ok-container.ensures.valid c.in_ok-snapshots.ensures.said
    (subst (λ (j : Image). IsBadMap j map.map l.span c.in_ok-snapshots.snapshots e) (second.reads ∙ first.reads) (c.in_err-map.ensures.fault (subst IsTrue (sym second.tells) told) there)))

pub returns-clause-loaded : goal.returns-clause-loaded
returns-clause-loaded g c = λ tells empty.
    let found = c.args.found.now in
    let i = (g.D.Disk.shown c.args.disk.now).reads in
    let l = c.in_ok-label.label in
    let map = c.in_ok-container.container in
    let first = c.read_label.ensures.only_reads.stays in
    let told = subst IsTrue (sym first.tells) tells in
    let lies = is_label found i c.args.slot c.requires.slot (get_or found.root.labels c.args.slot 0) l refl c.if-place-eq0.false (c.in_ok-label.ensures.label tells) in
    let opened = subst (λ (j : Image). IsOpened j l.container l.height map.map) first.reads (c.in_ok-container.ensures.opened told) in
    let clean = subst (λ (j : Image). IsCleanTree j l.container l.height (entry_count l.span) → IsCleanOn j map) first.reads (c.in_ok-container.ensures.clean told) in
    let y = c.of_label-state.result in
    let second = c.read_container.ensures.only_reads.stays in
    let span : y.span ≡ l.span = c.of_label-state.ensures.span in
    let m = c.in_ok-map.map in
    let there : IsOpenedOn (g.D.Disk.shown c.read_container.new.disk).reads map.map = record { root = l.container; height = l.height; opened = subst (λ (j : Image). IsOpened j l.container l.height map.map) (sym second.reads) (c.in_ok-container.ensures.opened told) } in
    let read = subst (λ (j : Image). HaveRead j map.map l.span stored_count m) (second.reads ∙ first.reads) (c.in_ok-map.ensures.read (subst IsTrue (sym second.tells) told) there) in
    let m2 = c.hold_base.new.map in
    let bits = bits_beside (footing_of l) m m2 c.in_ok-hold_base.ensures (view_at (root_found found) i) c.args.slot l.span (bits_read found i c.args.slot l map.map lies opened c.in_ok-container.ensures.size c.in_ok-container.ensures.valid m l.span c.in_ok-snapshots.snapshots c.in_ok-map.ensures.used read) in
    let same : y.map ≡ m2 = c.of_label-state.ensures.laid.map in
    loaded_some found i c.args.slot c.requires.slot l y map _ lies c.of_label-state.ensures.head c.of_label-state.ensures.laid.label c.put.ensures.there opened clean c.in_ok-container.ensures.size c.in_ok-container.ensures.valid
    (subst (λ (n : ℕ). HaveBits (view_at (root_found found) i) c.args.slot n y.map) (sym span) (subst (HaveBits (view_at (root_found found) i) c.args.slot l.span) (sym same) bits))
    c.of_label-state.ensures.laid.changed

pub of_label-state-requires-clause-few : goal.of_label-state-requires-clause-few
of_label-state-requires-clause-few g c = few_snaps c.in_ok-label.label c.in_ok-snapshots.snapshots c.of_records.ensures.long c.in_ok-snapshots.ensures.said

pub returns-clause-filled : goal.returns-clause-filled
returns-clause-filled g c =
    let l = c.in_ok-label.label in
    let y = c.of_label-state.result in
    let m = c.in_ok-map.map in
    let m2 = c.hold_base.new.map in
    let same : y.map ≡ m2 = c.of_label-state.ensures.laid.map in
    let long = c.of_records.ensures.long in
    let slots = slots_loaded l y c.in_ok-snapshots.snapshots m2 long c.in_ok-snapshots.ensures.said c.of_label-state.ensures.head same (used_beside (footing_of l) m m2 c.in_ok-hold_base.ensures c.in_ok-snapshots.snapshots c.in_ok-map.ensures.used) in
    record {
      state = labelled_from l c.in_ok-label.ensures.range long c.in_ok-label.ensures.form y c.args.slot c.of_label-state.ensures.laid.slot c.of_label-state.ensures.head c.of_label-state.ensures.ledger c.of_label-state.ensures.named (ap (λ (x : Volume). x.span) same ∙ c.in_ok-hold_base.ensures.span ∙ c.in_ok-map.ensures.map ∙ sym c.of_label-state.ensures.span) slots c.of_label-state.ensures.rests.fresh;
      read = c.of_label-state.ensures.read;
      housed = has_container l y c.in_ok-container.container _ c.of_label-state.ensures.head c.in_ok-container.ensures.size c.put.ensures.there;
      parent = c.put.ensures.parent ∙ c.parent_of.ensures.value;
    }

pub returns-clause-only_reads : goal.returns-clause-only_reads
returns-clause-only_reads g c =
    let old = g.D.Disk.shown c.args.disk.now in
    let one = g.D.Disk.shown c.read_label.new.disk in
    let two = g.D.Disk.shown c.read_container.new.disk in
    reads_then old two (g.D.Disk.shown c.read_map.new.disk) (reads_then old one two c.read_label.ensures.only_reads c.read_container.ensures.only_reads) c.read_map.ensures.only_reads

pub returns-in_err-map-clause-only_reads : goal.returns-in_err-map-clause-only_reads
returns-in_err-map-clause-only_reads g c =
    let old = g.D.Disk.shown c.args.disk.now in
    let one = g.D.Disk.shown c.read_label.new.disk in
    let two = g.D.Disk.shown c.read_container.new.disk in
    reads_then old two (g.D.Disk.shown c.read_map.new.disk) (reads_then old one two c.read_label.ensures.only_reads c.read_container.ensures.only_reads) c.read_map.ensures.only_reads

pub returns-clause-leaves : goal.returns-clause-leaves
returns-clause-leaves g c = subst (KeepsOthers c.args.slot c.args.containers.now) (sym c.put.ensures.put) (record {
  few = length-set c.args.containers.now.containers c.args.slot (Some c.in_ok-container.container) ∙ c.requires.few;
  others = λ s other. get_or-set_other c.args.containers.now.containers c.args.slot s (Some c.in_ok-container.container) None other;
  parents = λ s other. get_or-set_other c.args.containers.now.parents c.args.slot s c.parent_of.result None other;
})

pub returns-in_err-hold_base-clause-only_reads : goal.returns-in_err-hold_base-clause-only_reads
returns-in_err-hold_base-clause-only_reads g c =
    let old = g.D.Disk.shown c.args.disk.now in
    let one = g.D.Disk.shown c.read_label.new.disk in
    let two = g.D.Disk.shown c.read_container.new.disk in
    reads_then old two (g.D.Disk.shown c.read_map.new.disk) (reads_then old one two c.read_label.ensures.only_reads c.read_container.ensures.only_reads) c.read_map.ensures.only_reads

pub returns-in_err-hold_base-clause-cause : goal.returns-in_err-hold_base-clause-cause
returns-in_err-hold_base-clause-cause g c =
    lacks_memory (g.D.Disk.shown c.args.disk.now).faults (g.D.Disk.shown c.read_map.new.disk).faults c.from_residual-in_err-hold_base.result c.from_residual-in_err-hold_base.ensures.1
    (c.in_ok-map.ensures.cause ∙ c.in_ok-container.ensures.cause ∙ c.in_ok-label.ensures.cause)
