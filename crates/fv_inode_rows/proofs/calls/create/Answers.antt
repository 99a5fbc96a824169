use Rattle.std.proofs.Common.{Option, ℕ, sym, subst}
use Rattle.fv_inode.specs.Files.{rooted, IsFreeNumber, IsLeastFree}
use Rattle.fv_inode.proofs.Looked.{earlier}
use Rattle.fv_inode_rows.proofs.calls.create.Goals as goal

pub create-requires-clause-free : goal.create-requires-clause-free
create-requires-clause-free g c = λ told.
    let old = g.B.Blocks.shown c.args.blocks.now in
    earlier (λ t. IsLeastFree t c.in-Some.number) c.args.file.now.tree (g.B.Blocks.shown c.free_number.new.blocks) old (sym c.free_number.ensures.looks.untouched.held)
    (subst (λ (o : Option ℕ). IsFreeNumber (rooted old c.args.file.now) o) c.in-Some.is (c.in_ok-free_number.ensures.number told))
