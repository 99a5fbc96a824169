-- To the machine, a change of an inode file is a write of its inode cell.
use Rattle.std.proofs.Common.{◌≡◌, ℕ, List, refl, sym, ◌∙◌}
use Rattle.std.specs.Prelude.{Option}
use Rattle.std.specs.Ordering.{nat_cmp}
use Rattle.std.specs.FinMap as fin
use Rattle.fv_codec.specs.declared.inode.InodeRecord.{InodeRecord}
use Rattle.fv_model.specs.Trees as trees
use Rattle.fv_model.specs.Trees.{Spot, written}
use Rattle.fv_model.specs.Tables.{inode_cell}
use Rattle.fv_laws.proofs.Orders.{spot_total, spot_ties}
use Rattle.fv_tables.specs.Spelled.{Rooted}
use Rattle.fv_tables.specs.Told.{tree_told, cells_told}
use Rattle.fv_tables.proofs.Tables.{stamps_told, blocks_told}
use Rattle.fv_tree.specs.Standing.{Shows}
use Rattle.fv_inode.specs.Changing.{Rewrites}

-- a tree shows what it is told as, and nothing else
pub shown : (t : Rooted) → Shows t (tree_told t) (cells_told t)
unfolding tree_told
shown t = record { levels = refl; stamps = stamps_told t; blocks = blocks_told t }

pub shown_tree : (t : Rooted) (seen : trees.Tree) (contents : fin.FinMap nat_cmp (List ℕ)) → Shows t seen contents → seen ≡ tree_told t
unfolding tree_told
shown_tree t seen contents shows = λ i. record {
  levels = shows.levels i;
  stamps = fin.same_map spot_total spot_ties seen.stamps (tree_told t).stamps (λ (spot : Spot). shows.stamps spot.0 spot.1 ∙ sym (stamps_told t spot.0 spot.1)) i;
}

-- the machine's inode file after a file was made or changed, or taken away beside another
pub rewritten : (t u : Rooted) (n s : ℕ) (now : Option InodeRecord) → Rewrites t u n s now → tree_told u ≡ written s (inode_cell n) (tree_told t)
rewritten t u n s now is = sym (shown_tree u (written s (inode_cell n) (tree_told t)) _ (is.written (tree_told t) (cells_told t) (shown t)))
