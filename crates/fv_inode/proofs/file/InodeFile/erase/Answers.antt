use Rattle.std.proofs.Common.{◌%◌, ◌/◌, sym, subst, ◌∙◌}
use Rattle.std.proofs.lemmas.List.Elements.{All-set}
use Rattle.fv_codec.specs.Blocks.{IsInodeRecord}
use Rattle.fv_tree.specs.Standing.{standing, under}
use Rattle.fv_inode.proofs.Slots.{blank_fits}
use Rattle.fv_inode.proofs.Taken.{takes_last, takes_with}
use Rattle.fv_inode.proofs.Readied.{not_beside, nothing_held}
use Rattle.fv_inode.proofs.Taken.{none_beside}
use Rattle.fv_inode.proofs.file.InodeFile.erase.Goals as goal

pub rewrite_files-requires-clause-range : goal.rewrite_files-requires-clause-range
rewrite_files-requires-clause-range g c =
    All-set IsInodeRecord c.held_files-files.result (c.args.number % 16) c.free_record.result (subst IsInodeRecord (sym c.free_record.ensures) blank_fits) c.held_files-files.ensures.range

pub returns-then-all_free-clause-takes : goal.returns-then-all_free-clause-takes
returns-then-all_free-clause-takes g c =
    let held = c.held_files-files.ensures in
    let old = g.B.Blocks.shown c.args.blocks.now in
    takes_last g.B.Blocks.told (g.B.Blocks.goes c.args.blocks.now c.erase.new.blocks) old (g.B.Blocks.shown c.erase.new.blocks) c.args.self.now.tree c.erase.new.self c.args.number c.args.stamp c.erase.result c.held_files-files.result c.free_record.result held.long
    (held.files (under old)) c.free_record.ensures (sym c.all_free.ensures ∙ c.if-all_free.true) c.erase.ensures.removal

pub returns-else-all_free-clause-takes : goal.returns-else-all_free-clause-takes
returns-else-all_free-clause-takes g c =
    let held = c.held_files-files.ensures in
    let did = c.rewrite_files.ensures in
    let old = g.B.Blocks.shown c.args.blocks.now in
    takes_with g.B.Blocks.told (g.B.Blocks.goes c.args.blocks.now c.args.blocks.now) old c.args.self.now.tree c.rewrite_files.new.tree c.args.number c.args.stamp c.held_files-files.result c.free_record.result held.long
    (held.files (under old)) c.free_record.ensures (sym c.all_free.ensures ∙ c.if-all_free.false) (did.written (under old)) c.requires.ready.way did.alters (g.met.B.Blocks.goes_nothing c.args.blocks.now)

pub returns-then-all_free-clause-others_ready : goal.returns-then-all_free-clause-others_ready
returns-then-all_free-clause-others_ready g c = λ m differs holds.
    let held = c.held_files-files.ensures in
    let t = c.args.self.now.tree in
    let n = c.args.number in
    c.erase.ensures.others_ready (m / 16)
    (not_beside t m n holds (none_beside (standing nothing_held t) n c.held_files-files.result c.free_record.result held.long (held.files nothing_held) c.free_record.ensures (sym c.all_free.ensures ∙ c.if-all_free.true) m differs))
    holds.way

pub returns-else-all_free-clause-others_ready : goal.returns-else-all_free-clause-others_ready
returns-else-all_free-clause-others_ready g c = λ m differs holds. c.rewrite_files.ensures.alters.keeps_ready (m / 16) holds.way
