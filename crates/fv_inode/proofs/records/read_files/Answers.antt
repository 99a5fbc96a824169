use Rattle.std.proofs.Common.{ℕ, Some, sym, ap, subst, ◌∙◌, arith}
use Rattle.std.specs.Option.{option_map}
use Rattle.std.specs.List.{All}
use Rattle.std.proofs.lemmas.Result.{IfOk-weaker}
use Rattle.std.proofs.lemmas.List.Elements.{All-replicate}
use Rattle.fv_codec.specs.Blocks.{IsInodeRecord}
use Rattle.fv_tree.specs.Standing.{standing, under}
use Rattle.fv_inode.specs.Files.{blank_record}
use Rattle.fv_inode.proofs.Looked.{looks_self, looks_done, looks_judged}
use Rattle.fv_inode.proofs.Slots.{no_cell, none_are, none_used, records_are, blank_fits}
use Rattle.fv_tree.specs.Readying.{IsReady}
use Rattle.fv_inode.proofs.Readied.{has_shape, is_refuted}
use Rattle.fv_inode.proofs.records.read_files.Goals as goal

pub returns-then-cell-cells-clause-files : goal.returns-then-cell-cells-clause-files
returns-then-cell-cells-clause-files g c = λ told.
    let t = standing (under (g.B.Blocks.shown c.args.blocks.now)) c.args.tree.now in
    none_are t c.args.cell c.free_files.result (no_cell t c.args.cell (omega (arith, c.if-cell-cells.true, c.cells.ensures.is))) c.free_files.ensures

pub returns-then-cell-cells-clause-range : goal.returns-then-cell-cells-clause-range
returns-then-cell-cells-clause-range g c = subst (All IsInodeRecord) (sym c.free_files.ensures) (All-replicate IsInodeRecord 16 blank_record blank_fits)

pub returns-then-cell-cells-clause-within : goal.returns-then-cell-cells-clause-within
returns-then-cell-cells-clause-within g c = λ some. none_used c.free_files.result c.free_files.ensures some

pub returns-then-cell-cells-clause-looks : goal.returns-then-cell-cells-clause-looks
returns-then-cell-cells-clause-looks g c =
    let old = g.B.Blocks.shown c.args.blocks.now in
    let t = standing (under old) c.args.tree.now in
    looks_done g.B.Blocks.told t old old (tt {0}) c.free_files.result (looks_self g.B.Blocks.told t old)

pub returns-in-None-clause-files : goal.returns-in-None-clause-files
returns-in-None-clause-files g c = λ told.
    none_are (standing (under (g.B.Blocks.shown c.args.blocks.now)) c.args.tree.now) c.args.cell c.free_files-in-None.result (c.in_ok-read_held.ensures.cell told ∙ ap (option_map (λ (place : ℕ). c.read_held.new.into)) c.in-None.is) c.free_files-in-None.ensures

pub returns-in-None-clause-range : goal.returns-in-None-clause-range
returns-in-None-clause-range g c = subst (All IsInodeRecord) (sym c.free_files-in-None.ensures) (All-replicate IsInodeRecord 16 blank_record blank_fits)

pub returns-in-Some-clause-files : goal.returns-in-Some-clause-files
returns-in-Some-clause-files g c = λ told.
    IfOk-weaker c.files_of.result _ _
    (λ files h. records_are (standing (under (g.B.Blocks.shown c.args.blocks.now)) c.args.tree.now) c.args.cell (Some c.read_held.new.into) files
    (c.in_ok-read_held.ensures.cell told ∙ ap (option_map (λ (place : ℕ). c.read_held.new.into)) c.in-Some.is) h) c.files_of.ensures.files

pub returns-in-Some-clause-looks : goal.returns-in-Some-clause-looks
returns-in-Some-clause-looks g c =
    let old = g.B.Blocks.shown c.args.blocks.now in
    let read = c.in_ok-read_held.ensures in
    looks_judged g.B.Blocks.told (standing (under old) c.args.tree.now) old (g.B.Blocks.shown c.read_held.new.blocks) c.files_of.result c.args.cell c.in-Some.at c.read_held.new.into read.untouched read.counts.calm
    (λ told. read.cell told ∙ ap (option_map (λ (place : ℕ). c.read_held.new.into)) c.in-Some.is) (λ told. read.place told c.in-Some.at c.in-Some.is) c.files_of.ensures.damage

pub returns-in_err-read_held-clause-held : goal.returns-in_err-read_held-clause-held
returns-in_err-read_held-clause-held g c = λ told n at holds. absurd (c.in_err-read_held.ensures.held (subst (IsReady c.args.tree.now) at holds.way))

pub returns-in-Some-clause-held : goal.returns-in-Some-clause-held
returns-in-Some-clause-held g c = λ told n at holds.
    is_refuted c.files_of.result _ c.files_of.ensures.damage
    (λ e bad. has_shape (under (g.B.Blocks.shown c.args.blocks.now)) c.args.tree.now n c.args.cell c.read_held.new.into bad.0 at holds (c.in_ok-read_held.ensures.cell told ∙ ap (option_map (λ (place : ℕ). c.read_held.new.into)) c.in-Some.is) bad.1)
