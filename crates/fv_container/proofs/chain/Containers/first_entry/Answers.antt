use Rattle.std.proofs.Common.{rules, ◌≡◌, ◌∙◌, List, Option, None, Some, sym, ap, subst}
use Rattle.std.specs.Prelude.{IfSome, IsTrue, slice_index_or}
use Rattle.std.proofs.lemmas.List.{places}
use Rattle.fv_disk.proofs.Resting.{reads_then}
use Rattle.fv_container.specs.Paged.{Paged}
use Rattle.fv_container.specs.Clean.{IsCleanOn}
use Rattle.fv_container.specs.Chains.{Slots, chain_entry, map_in, own_entry, parent_at}
use Rattle.fv_container.proofs.Chains.{clean_at, goes_up, parent_within}
use Rattle.fv_container.proofs.chain.Containers.first_entry.Goals as goal

pub loop-preserved : goal.loop-preserved
loop-preserved g c =
    let shown = g.D.Disk.shown in
    let i = c.loop.invariant in
    let slots = c.args.self.now in
    let rows : c.deref.result.now ≡ slots.containers = c.deref.ensures.value ∙ ap (λ (s : Slots). s.containers) c.self.view_is in
    let up : parent_at slots c.loop.at ≡ Some c.in-Some-parent_of.parent = search (rules, places) in
    let none : c.in_ok-entry.field-0 ≡ None = search (rules, places) in
    record {
      within = parent_within slots c.loop.at c.in-Some-parent_of.parent (search rules) i.within up;
      stands = search rules;
      only_reads = reads_then (shown c.args.disk.now) (shown c.loop.disk) (shown c.own_entry.new.disk) i.only_reads c.own_entry.ensures.read.only_reads;
      faults = search rules;
      rest = λ tells clean.
          let told : IsTrue (shown c.loop.disk).tells = subst IsTrue (sym i.only_reads.stays.tells) tells in
          let own = c.in_ok-entry.ensures.entry told (subst (λ (l : List (Option Paged)). IfSome (slice_index_or l c.loop.at None) (IsCleanOn (shown c.loop.disk).reads)) (sym rows) (clean_at (shown c.args.disk.now).reads (shown c.loop.disk).reads slots c.loop.at i.only_reads.stays.reads clean)) in
          goes_up slots c.loop.counter c.loop.at c.args.vvbn None (chain_entry slots c.args.slot c.args.vvbn) (Some c.in-Some-parent_of.parent) (search rules) (i.rest tells clean)
          (ap (λ (l : List (Option Paged)). own_entry (map_in (slice_index_or l c.loop.at None)) c.args.vvbn) (sym rows) ∙ sym own ∙ none) up;
    }
