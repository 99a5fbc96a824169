use Rattle.std.proofs.Common.{ℕ, ◌/◌, Some, sym, ap, subst, ◌∙◌, arith}
use Rattle.std.specs.Option.{option_map}
use Rattle.std.proofs.lemmas.Result.{IfOk-weaker}
use Rattle.fv_codec.specs.Blocks.{IsInodeRecord}
use Rattle.fv_tree.specs.Standing.{standing, under}
use Rattle.fv_tree.specs.Flushing.{loaded}
use Rattle.fv_inode.proofs.Looked.{looks_self, looks_done, looks_judged}
use Rattle.fv_inode.proofs.Slots.{no_cell, no_way, own_used, own_none, blank_fits}
use Rattle.fv_inode.proofs.records.read_file.Goals as goal

pub returns-then-cell-cells-clause-file : goal.returns-then-cell-cells-clause-file
returns-then-cell-cells-clause-file g c = λ told.
    let t = standing (under (g.B.Blocks.shown c.args.blocks.now)) c.args.tree.now in
    own_none t c.args.number c.free_record.result (no_cell t (c.args.number / 16) (omega (arith, c.if-cell-cells.true, c.cells.ensures.is))) c.free_record.ensures

pub returns-then-cell-cells-clause-range : goal.returns-then-cell-cells-clause-range
returns-then-cell-cells-clause-range g c = subst IsInodeRecord (sym c.free_record.ensures) blank_fits

pub returns-then-cell-cells-clause-looks : goal.returns-then-cell-cells-clause-looks
returns-then-cell-cells-clause-looks g c =
    let old = g.B.Blocks.shown c.args.blocks.now in
    let t = standing (under old) c.args.tree.now in
    looks_done g.B.Blocks.told t old old (tt {0}) c.free_record.result (looks_self g.B.Blocks.told t old)

pub returns-then-cell-cells-clause-spent : goal.returns-then-cell-cells-clause-spent
returns-then-cell-cells-clause-spent g c = λ told.
    let old = g.B.Blocks.shown c.args.blocks.now in
    let none = no_way old.cost (loaded old c.args.tree.now) (c.args.number / 16) (omega (arith, c.if-cell-cells.true, c.cells.ensures.is)) in
    omega (arith, none)

pub returns-in-None-clause-file : goal.returns-in-None-clause-file
returns-in-None-clause-file g c = λ told.
    own_none (standing (under (g.B.Blocks.shown c.args.blocks.now)) c.args.tree.now) c.args.number c.free_record-in-None.result (c.in_ok-read_as.ensures.cell told ∙ ap (option_map (λ (place : ℕ). c.read_as.new.into)) c.in-None.is) c.free_record-in-None.ensures

pub returns-in-None-clause-range : goal.returns-in-None-clause-range
returns-in-None-clause-range g c = subst IsInodeRecord (sym c.free_record-in-None.ensures) blank_fits

pub returns-in-Some-clause-file : goal.returns-in-Some-clause-file
returns-in-Some-clause-file g c = λ told.
    IfOk-weaker c.file_of.result _ _
    (λ file h. own_used (standing (under (g.B.Blocks.shown c.args.blocks.now)) c.args.tree.now) c.args.number (Some c.read_as.new.into) file
    (c.in_ok-read_as.ensures.cell told ∙ ap (option_map (λ (place : ℕ). c.read_as.new.into)) c.in-Some.is) h) c.file_of.ensures.file

pub returns-in-Some-clause-looks : goal.returns-in-Some-clause-looks
returns-in-Some-clause-looks g c =
    let old = g.B.Blocks.shown c.args.blocks.now in
    let read = c.in_ok-read_as.ensures in
    looks_judged g.B.Blocks.told (standing (under old) c.args.tree.now) old (g.B.Blocks.shown c.read_as.new.blocks) c.file_of.result (c.args.number / 16) c.in-Some.at c.read_as.new.into read.untouched read.counts.calm
    (λ told. read.cell told ∙ ap (option_map (λ (place : ℕ). c.read_as.new.into)) c.in-Some.is) (λ told. read.place told c.in-Some.at c.in-Some.is) c.file_of.ensures.damage
