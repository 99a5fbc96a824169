use Rattle.std.proofs.Common.{◌≡◌, ℕ, List, sum_by, count_by, sym, ap, ◌∙◌}
use Rattle.std.specs.Cmp.{nat_cmp_total}
use Rattle.std.specs.FinMap as fin
use Rattle.std.proofs.lemmas.Result.{IfOk-weaker}
use Rattle.fv_model.specs.Trees.{Tree}
use Rattle.fv_model.specs.Tables.{File}
use Rattle.fv_model.specs.Places.{id_cmp, place_cmp}
use Rattle.fv_model.specs.Space.{needs_block, reserved_places}
use Rattle.fv_reference.specs.Maps.{map_of, set_of}
use Rattle.fv_reference.proofs.Views.{entries_of}
use Rattle.fv_reference.proofs.Counting.{needed_same}
use Rattle.fv_reference.proofs.space.needed_of.Goals as goal

pub returns-clause-is : goal.returns-clause-is
returns-clause-is c =
    let all : ◌≡◌ {A = List (ℕ × File)} c.files-files.result.now.entries (fin.entries c.args.active.now.files) = sym (entries_of nat_cmp_total c.files-files.result.now.entries c.len-count.ensures.ordered) ∙ ap fin.entries c.files-files.ensures in
    IfOk-weaker c.needed.result (λ n. n ≡ sum_by (λ (e : ℕ × File). count_by (needs_block (set_of id_cmp c.in_ok-shared.shared) (map_of place_cmp c.in_ok-stamps.stamps)) (reserved_places c.levels.result e.0 e.1)) c.files-files.result.now.entries) _ (λ n h. h ∙ needed_same c.in_ok-shared.ensures c.in_ok-stamps.ensures (c.levels.ensures.is ∙ ap (λ (t : Tree). t.levels) c.inode.ensures) all) c.needed.ensures.is
