use Rattle.std.proofs.Common.{◌≡◌, ◌/◌, nat_eq, sym, ◌∙◌}
use Rattle.std.proofs.lemmas.Result.{IfOk-weaker}
use Rattle.fv_tree.specs.Erasing.{HoldsCells}
use Rattle.fv_tree.specs.Standing.{standing, under}
use Rattle.fv_tree.specs.Taking.{gone_with}
use Rattle.fv_inode.proofs.Looked.{earlier, later, looks_at, looks_then}
use Rattle.fv_inode.proofs.Lost.{lost_alone, lost_beside}
use Rattle.fv_tree.proofs.Right.{right_on}
use Rattle.fv_inode.proofs.losing.lost.Goals as goal

pub returns-then-not-is_last-clause-lost : goal.returns-then-not-is_last-clause-lost
returns-then-not-is_last-clause-lost g c = λ told holds.
    lost_beside (standing (under (g.B.Blocks.shown c.args.blocks.now)) c.args.file.now.tree) c.args.number c.in_ok-files.files c.in_ok-files.ensures.long (c.in_ok-files.ensures.files told) (sym c.is_last.ensures ∙ c.if-not-is_last.true)

pub returns-clause-lost : goal.returns-clause-lost
returns-clause-lost g c = λ told holds.
    let old = g.B.Blocks.shown c.args.blocks.now in
    let mid = g.B.Blocks.shown c.read_files.new.blocks in
    let t = c.args.file.now.tree in
    let n = c.args.number in
    let held = c.in_ok-files.ensures.looks.untouched.held in
    IfOk-weaker c.lost.result _ _
    (λ count is. lost_alone (standing (under old) t) n c.in_ok-files.files c.in_ok-files.ensures.long (c.in_ok-files.ensures.files told) (sym c.is_last.ensures ∙ c.if-not-is_last.false) count (earlier (λ u. count ≡ gone_with u (nat_eq (n / 16))) t old mid held is))
    (c.lost.ensures.lost told (later HoldsCells t old mid held holds))

pub returns-clause-looks : goal.returns-clause-looks
returns-clause-looks g c =
    let old = g.B.Blocks.shown c.args.blocks.now in
    let mid = g.B.Blocks.shown c.read_files.new.blocks in
    let new = g.B.Blocks.shown c.lost.new.blocks in
    let did = c.lost.ensures in
    looks_then g.B.Blocks.told c.args.file.now.tree old mid new c.in_ok-files.files c.lost.result c.in_ok-files.ensures.looks
    (looks_at g.B.Blocks.told (standing (under mid) c.args.file.now.tree) mid new c.lost.result did.untouched did.counts did.cause)

pub lost-requires : goal.lost-requires
lost-requires g c = record { right = λ told. right_on (g.B.Blocks.shown c.args.blocks.now) (g.B.Blocks.shown c.read_files.new.blocks) c.args.file.now.tree c.in_ok-files.ensures.looks.untouched (c.requires.right told) }
