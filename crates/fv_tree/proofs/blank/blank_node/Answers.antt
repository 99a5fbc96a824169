use Rattle.std.proofs.Common.{◌∙◌, sym, ap, subst, length}
use Rattle.std.specs.List.{All}
use Rattle.std.proofs.lemmas.List.{length-map}
use Rattle.fv_codec.specs.Blocks.{IsPointer, all_holes}
use Rattle.fv_tables.specs.Alike.{hintless}
use Rattle.fv_tree.proofs.Blanked.{all_fit, same_holes}
use Rattle.fv_tree.proofs.blank.blank_node.Goals as goal

pub invariant_of-node : goal.invariant_of-node
invariant_of-node c =
    let node = c.args.node.now in record {
      long = ap length c.blank_all.ensures ∙ length-map node.children hintless ∙ node.long;
      pointers = subst (All IsPointer) (sym c.blank_all.ensures) (all_fit node.children node.pointers);
      some = λ changed. ap all_holes c.blank_all.ensures ∙ same_holes node.children ∙ node.some changed;
    }
