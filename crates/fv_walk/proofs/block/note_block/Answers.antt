use Rattle.std.proofs.Common.{◌≡◌, ◌++◌, ℕ, true, List, sym, ap, subst, ◌∙◌}
use Rattle.std.specs.Prelude.{◌&&◌, flat_map}
use Rattle.fv_codec.specs.declared.inode.InodeRecord.{InodeRecord}
use Rattle.fv_tables.specs.Reached.{Item}
use Rattle.fv_faults.specs.Walks.{pointer_lines}
use Rattle.fv_walk.specs.declared.visit.Visit.{Visit}
use Rattle.fv_walk.specs.Visits.{item_of}
use Rattle.fv_walk.specs.Naming.{IsNames}
use Rattle.fv_walk.specs.Noting.{AddsAll}
use Rattle.fv_walk.specs.Blocks.{at_place, files_at}
use Rattle.fv_walk.proofs.Noting.{none_is, all_in_range, middle_holds}
use Rattle.fv_walk.proofs.Blocks.{spelled_files, noted, goes_on, ends}
use Rattle.fv_walk.proofs.block.note_block.Goals as goal

pub returns-then-clean-clause-lines : goal.returns-then-clean-clause-lines
returns-then-clean-clause-lines c = λ met is.
    (noted c.args.limits.now met (item_of c.args.visit.now) c.args.block c.args.looked.now.body c.args.looked.now.judged c.spell-below.result c.in_ok-all.all.items
    c.args.lines.now c.note_shape.new.lines c.keep_pointers.new.lines c.note_names.new.lines c.in_ok-shape.shape c.in_ok-range.range c.in_ok-fresh.fresh
    c.requires.judged c.spell-below.ensures.below c.in_ok-all.ensures.are c.in_ok-shape.ensures (subst (λ (vs : List Visit). AddsAll (flat_map (λ (v : Visit). pointer_lines c.args.limits.now.blocks c.args.limits.now.span c.args.block v.pointer) vs) c.note_shape.new.lines c.keep_pointers.new.lines c.in_ok-range.range) c.deref.ensures.value c.in_ok-range.ensures) (c.in_ok-fresh.ensures.lines met is)).adds

pub returns-else-clean-clause-lines : goal.returns-else-clean-clause-lines
returns-else-clean-clause-lines c = λ met is.
    (noted c.args.limits.now met (item_of c.args.visit.now) c.args.block c.args.looked.now.body c.args.looked.now.judged c.spell-below.result c.in_ok-all.all.items
    c.args.lines.now c.note_shape.new.lines c.keep_pointers.new.lines c.note_names.new.lines c.in_ok-shape.shape c.in_ok-range.range c.in_ok-fresh.fresh
    c.requires.judged c.spell-below.ensures.below c.in_ok-all.ensures.are c.in_ok-shape.ensures (subst (λ (vs : List Visit). AddsAll (flat_map (λ (v : Visit). pointer_lines c.args.limits.now.blocks c.args.limits.now.span c.args.block v.pointer) vs) c.note_shape.new.lines c.keep_pointers.new.lines c.in_ok-range.range) c.deref.ensures.value c.in_ok-range.ensures) (c.in_ok-fresh.ensures.lines met is)).adds

pub returns-then-clean-clause-names : goal.returns-then-clean-clause-names
returns-then-clean-clause-names c = λ met is.
    let e : Item = item_of c.args.visit.now in
    subst (λ (fs : List (ℕ × InodeRecord)). IsNames (met ++ fs) c.note_names.new.names)
    (ap (files_at e) c.spell-below.ensures.below ∙ spelled_files e (at_place 0 c.args.looked.now.body)) (c.in_ok-fresh.ensures.names met is)

pub returns-else-clean-clause-names : goal.returns-else-clean-clause-names
returns-else-clean-clause-names c = λ met is.
    let e : Item = item_of c.args.visit.now in
    subst (λ (fs : List (ℕ × InodeRecord)). IsNames (met ++ fs) c.note_names.new.names)
    (ap (files_at e) c.spell-below.ensures.below ∙ spelled_files e (at_place 0 c.args.looked.now.body)) (c.in_ok-fresh.ensures.names met is)

pub returns-then-clean-clause-outcome : goal.returns-then-clean-clause-outcome
returns-then-clean-clause-outcome c = λ met is.
    let all = noted c.args.limits.now met (item_of c.args.visit.now) c.args.block c.args.looked.now.body c.args.looked.now.judged c.spell-below.result c.in_ok-all.all.items
    c.args.lines.now c.note_shape.new.lines c.keep_pointers.new.lines c.note_names.new.lines c.in_ok-shape.shape c.in_ok-range.range c.in_ok-fresh.fresh
    c.requires.judged c.spell-below.ensures.below c.in_ok-all.ensures.are c.in_ok-shape.ensures (subst (λ (vs : List Visit). AddsAll (flat_map (λ (v : Visit). pointer_lines c.args.limits.now.blocks c.args.limits.now.span c.args.block v.pointer) vs) c.note_shape.new.lines c.keep_pointers.new.lines c.in_ok-range.range) c.deref.ensures.value c.in_ok-range.ensures) (c.in_ok-fresh.ensures.lines met is) in
    goes_on c.args.limits.now met (item_of c.args.visit.now) c.args.block c.args.looked.now.body c.spell-below.result c.in_ok-all.all.items c.args.lines.now c.note_names.new.lines
    (c.in_ok-shape.shape && (c.in_ok-range.range && c.in_ok-fresh.fresh)) c.spell-below.ensures.below c.in_ok-all.ensures.are all
    (sym (c.both-clean.ensures ∙ ap (λ b. c.in_ok-shape.shape && b) c.both-rest.ensures) ∙ c.if-clean.true)

pub returns-else-clean-clause-outcome : goal.returns-else-clean-clause-outcome
returns-else-clean-clause-outcome c = λ met is.
    let all = noted c.args.limits.now met (item_of c.args.visit.now) c.args.block c.args.looked.now.body c.args.looked.now.judged c.spell-below.result c.in_ok-all.all.items
    c.args.lines.now c.note_shape.new.lines c.keep_pointers.new.lines c.note_names.new.lines c.in_ok-shape.shape c.in_ok-range.range c.in_ok-fresh.fresh
    c.requires.judged c.spell-below.ensures.below c.in_ok-all.ensures.are c.in_ok-shape.ensures (subst (λ (vs : List Visit). AddsAll (flat_map (λ (v : Visit). pointer_lines c.args.limits.now.blocks c.args.limits.now.span c.args.block v.pointer) vs) c.note_shape.new.lines c.keep_pointers.new.lines c.in_ok-range.range) c.deref.ensures.value c.in_ok-range.ensures) (c.in_ok-fresh.ensures.lines met is) in
    ends c.args.limits.now met (item_of c.args.visit.now) c.args.block c.args.looked.now.body c.args.lines.now c.note_names.new.lines
    (c.in_ok-shape.shape && (c.in_ok-range.range && c.in_ok-fresh.fresh)) all
    (sym (c.both-clean.ensures ∙ ap (λ b. c.in_ok-shape.shape && b) c.both-rest.ensures) ∙ c.if-clean.false)

pub returns-then-clean-clause-range : goal.returns-then-clean-clause-range
returns-then-clean-clause-range c =
    let ranged : AddsAll (flat_map (λ (v : Visit). pointer_lines c.args.limits.now.blocks c.args.limits.now.span c.args.block v.pointer) c.in_ok-all.all.items) c.note_shape.new.lines c.keep_pointers.new.lines c.in_ok-range.range =
    subst (λ (vs : List Visit). AddsAll (flat_map (λ (v : Visit). pointer_lines c.args.limits.now.blocks c.args.limits.now.span c.args.block v.pointer) vs) c.note_shape.new.lines c.keep_pointers.new.lines c.in_ok-range.range) c.deref.ensures.value c.in_ok-range.ensures in
    let test : c.in_ok-range.range ≡ true = middle_holds c.in_ok-shape.shape c.in_ok-range.range c.in_ok-fresh.fresh
    (sym (c.both-clean.ensures ∙ ap (λ b. c.in_ok-shape.shape && b) c.both-rest.ensures) ∙ c.if-clean.true) in
    all_in_range c.args.limits.now c.args.block c.in_ok-all.all.items c.requires.limits.span (none_is (flat_map (λ (v : Visit). pointer_lines c.args.limits.now.blocks c.args.limits.now.span c.args.block v.pointer) c.in_ok-all.all.items) (sym ranged.clean ∙ test))
