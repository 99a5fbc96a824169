use Rattle.std.proofs.Common.{ap, ◌∙◌, nat_lt}
use Rattle.fv_model.specs.Trees.{Tree, written, spot_cmp}
use Rattle.std.specs.FinMap as fin
use Rattle.fv_reference.specs.Maps.{map_of}
use Rattle.fv_reference.proofs.Levels.{written_is}
use Rattle.fv_reference.proofs.trees.Tree.written.Goals as goal

pub returns : goal.returns
returns c =
    let t : Tree = record { levels = c.self.inside.levels; stamps = map_of spot_cmp c.self.inside.stamps } in
    written_is t c.args.stamp c.args.index _ _ _ _ (map_of spot_cmp c.in_ok-stamps.stamps) (map_of spot_cmp c.stamp_spots.new.stamps) _ c.levels_with-levels.ensures.grown (ap (nat_lt 0) c.len.ensures) (c.deref.ensures.value ∙ c.in_ok-over.ensures) (c.deref-2.ensures.value ∙ c.in_ok-grown.ensures) (ap (fin.from_entries) c.in_ok-stamps.ensures) c.in_ok-stamp_spots.ensures c.in_ok-stamp_spots-2.ensures ∙ ap (written c.args.stamp c.args.index) c.self.view_is
