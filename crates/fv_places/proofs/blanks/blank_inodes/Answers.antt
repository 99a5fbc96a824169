use Rattle.std.proofs.Common.{◌≡◌, List, true, false, rules, subst, sym, ap, ◌∙◌}
use Rattle.fv_codec.specs.declared.inode.InodeRecord.{InodeRecord}
use Rattle.fv_codec.specs.Blocks.{IsInodeBlock}
use Rattle.fv_places.specs.Changed.{with_files, are_blank}
use Rattle.fv_places.proofs.InRange.{inodes_blank}
use Rattle.fv_places.proofs.Stays.{inodes_stay, roots_blank}
use Rattle.fv_places.proofs.blanks.blank_inodes.Goals as goal

pub encode-requires : goal.encode-requires
encode-requires c =
    subst (λ (rs : List InodeRecord). IsInodeBlock (with_files c.in_ok-inodes.inodes rs)) (sym c.hide_roots.ensures)
    (inodes_blank c.in_ok-inodes.inodes c.in_ok-inodes.ensures.in_range)

pub returns-else-not-are_blank-clause-blanks : goal.returns-else-not-are_blank-clause-blanks
returns-else-not-are_blank-clause-blanks c =
    let blank : c.are_blank.result ≡ true = search rules in
    inodes_stay c.args.block.now c.in_ok-inodes.inodes (sym c.in_ok-inodes.ensures.exact)
    (ap are_blank (sym c.roots_of.ensures) ∙ sym c.are_blank.ensures ∙ blank)

pub returns-then-not-are_blank-clause-stays : goal.returns-then-not-are_blank-clause-stays
returns-then-not-are_blank-clause-stays c = λ blank.
    let was : c.are_blank.result ≡ true =
    c.are_blank.ensures ∙ ap are_blank c.roots_of.ensures
    ∙ roots_blank c.args.block.now c.in_ok-inodes.inodes (sym c.in_ok-inodes.ensures.exact) blank in
    let no : c.are_blank.result ≡ false = search rules in
    absurd cc
