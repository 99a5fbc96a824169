use Rattle.std.proofs.Common.{true, ◌≡◌, ◌≢◌, ◌<◌, ◌^◌, ℕ, List, Option, Some, None, cond, is_some, refl, sym, ap, subst, ◌∙◌, arith}
use Rattle.std.proofs.lemmas.Result.{err_from_is_err_and}
use Rattle.std.specs.Ordering.{nat_cmp}
use Rattle.std.specs.FinMap as fin
use Rattle.std.specs.BTreeMap as tree
use Rattle.std.specs.Option.{option_map}
use Rattle.fv_model.specs.Trees.{fan, Spot}
use Rattle.fv_tree.specs.declared.kept.KeptNode.{KeptNode}
use Rattle.fv_tree.specs.declared.kept.KeptCell.{KeptCell}
use Rattle.fv_codec.specs.declared.pointer.Pointer.{Pointer}
use Rattle.fv_tree.specs.Spelled.{pointer_at, block_at}
use Rattle.fv_tree.specs.Standing.{standing, under, children_in}
use Rattle.fv_tree.specs.Writing.{IsAlike}
use Rattle.fv_tree.specs.Flushing.{loaded}
use Rattle.fv_tree.proofs.Altered.{leaves_cells, leaves_held, leaves_itself, leaves_then, leaves_untouched}
use Rattle.fv_tree.proofs.Causes.{cell_fails, counts_then, fails_later, fails_same, untouched_then}
use Rattle.fv_tree.proofs.Flushes.{alike_then}
use Rattle.fv_tree.proofs.Held.{same_self}
use Rattle.fv_tree.proofs.HeldCells.{carries_held, filled_cell, held_alike, held_ready, held_there}
use Rattle.fv_tree.proofs.Leading.{carries_cells, carries_then, carries_untouched}
use Rattle.fv_tree.proofs.Readied.{way_as}
use Rattle.fv_tree.proofs.StillReady.{cells_same}
use Rattle.fv_tree.proofs.Erased.{stamp_there}
use Rattle.fv_tree.proofs.Ready.{as_there, is_stamped}
use Rattle.fv_tree.proofs.Removing.{none_past}
use Rattle.fv_tree.proofs.Writes.{no_stamp, same_alike, same_standing}
use Rattle.fv_tree.proofs.Calls.{counts_err, loading_err, loading_none, loading_ok, rises_but, steady_from, steady_loaded, steady_on, steady_read}
use Rattle.fv_tree.specs.Costs.{changes_in}
use Rattle.fv_tree.proofs.Right.{cell_loads, right_loaded}
use Rattle.fv_tree.proofs.rewrite.ready_cell.Given as given
use Rattle.fv_tree.proofs.rewrite.ready_cell.Goals as goal

pub returns-then-index-width-clause-there : goal.returns-then-index-width-clause-there
returns-then-index-width-clause-there g c = λ told.
    let t = standing (under (g.B.Blocks.shown c.args.blocks.now)) c.args.tree.now in
    ap is_some (no_stamp (pointer_at t 0 c.args.index) (none_past t c.args.index (omega (arith, c.if-index-width.true, c.width.ensures.is))))

pub returns-then-index-width-clause-alike : goal.returns-then-index-width-clause-alike
returns-then-index-width-clause-alike g c = λ _. let t = standing (under (g.B.Blocks.shown c.args.blocks.now)) c.args.tree.now in same_alike t t (same_self t)

pub returns-in_err-pointer-clause-alike : goal.returns-in_err-pointer-clause-alike
returns-in_err-pointer-clause-alike g c = λ told.
    same_alike (standing (under (g.B.Blocks.shown c.args.blocks.now)) c.args.tree.now) (standing (under (g.B.Blocks.shown c.keep_path.new.blocks)) c.keep_path.new.tree) (c.keep_path.ensures.loading.same told)

pub returns-then-pointer-eq0-clause-there : goal.returns-then-pointer-eq0-clause-there
returns-then-pointer-eq0-clause-there g c = λ told.
    let t = standing (under (g.B.Blocks.shown c.args.blocks.now)) c.args.tree.now in
    ap is_some (no_stamp (pointer_at t 0 c.args.index) (ap (λ (p : Pointer). p.stamp) (sym (c.in_ok-pointer.ensures.pointer told)) ∙ c.if-pointer-eq0.true))

pub returns-then-pointer-eq0-clause-alike : goal.returns-then-pointer-eq0-clause-alike
returns-then-pointer-eq0-clause-alike g c = λ told.
    same_alike (standing (under (g.B.Blocks.shown c.args.blocks.now)) c.args.tree.now) (standing (under (g.B.Blocks.shown c.keep_path.new.blocks)) c.keep_path.new.tree) (c.keep_path.ensures.loading.same told)

-- the cell is in memory
pub returns-then-contains_key-clause-there : goal.returns-then-contains_key-clause-there
returns-then-contains_key-clause-there g c = λ told.
    let t = standing (under (g.B.Blocks.shown c.args.blocks.now)) c.args.tree.now in
    ap is_some (stamp_there (pointer_at t 0 c.args.index) (λ none. c.if-pointer-eq0.false (ap (λ (p : Pointer). p.stamp) (c.in_ok-pointer.ensures.pointer told) ∙ none)))

pub returns-then-contains_key-clause-alike : goal.returns-then-contains_key-clause-alike
returns-then-contains_key-clause-alike g c = λ told.
    same_alike (standing (under (g.B.Blocks.shown c.args.blocks.now)) c.args.tree.now) (standing (under (g.B.Blocks.shown c.keep_path.new.blocks)) c.keep_path.new.tree) (c.keep_path.ensures.loading.same told)

pub returns-then-contains_key-clause-ready : goal.returns-then-contains_key-clause-ready
returns-then-contains_key-clause-ready g c = λ _.
    let v = c.keep_path.new.tree in
    let i = c.args.index in
    let path = c.in_ok-pointer.ensures in
    let within : i < fan ^ c.args.tree.now.levels = omega (arith, c.if-index-width.false, c.width.ensures.is) in record {
      covers = subst (λ n. i < fan ^ n) (sym path.loading.fields.levels) within;
      cell = filled_cell (tree.get nat_cmp v.cells i) (sym c.contains_key.ensures ∙ c.if-contains_key.true);
      way = path.way c.if-pointer-eq0.false;
    }

pub returns-then-contains_key-clause-steady : goal.returns-then-contains_key-clause-steady
returns-then-contains_key-clause-steady g c = steady_loaded 0 1 (loading_ok _ c.in_ok-pointer.ensures.loading) c.keep_path.ensures.keeps_ready

pub returns-in_err-read_pointed-clause-alike : goal.returns-in_err-read_pointed-clause-alike
returns-in_err-read_pointed-clause-alike g c = λ told.
    let t = standing (under (g.B.Blocks.shown c.args.blocks.now)) c.args.tree.now in
    let v = c.keep_path.new.tree in
    subst (λ (h : fin.FinMap nat_cmp (List ℕ)). IsAlike t (standing (λ w. fin.get h w) v)) (sym c.read_pointed.ensures.untouched.held) (same_alike t (standing (under (g.B.Blocks.shown c.keep_path.new.blocks)) v) (c.keep_path.ensures.loading.same told))

pub returns-in_err-hold_cell-clause-alike : goal.returns-in_err-hold_cell-clause-alike
returns-in_err-hold_cell-clause-alike g c = λ told.
    let t = standing (under (g.B.Blocks.shown c.args.blocks.now)) c.args.tree.now in
    let v = c.keep_path.new.tree in
    let d = under (g.B.Blocks.shown c.read_pointed.new.blocks) in
    let same = same_standing d v c.hold_cell.new.tree c.hold_cell.ensures.fields (λ i. ap (option_map (λ (kept : KeptCell). kept.block.value)) (c.in_err-hold_cell.ensures.same i)) in
    subst (IsAlike t) (sym same) (subst (λ (h : fin.FinMap nat_cmp (List ℕ)). IsAlike t (standing (λ w. fin.get h w) v)) (sym c.read_pointed.ensures.untouched.held)
    (same_alike t (standing (under (g.B.Blocks.shown c.keep_path.new.blocks)) v) (c.keep_path.ensures.loading.same told)))

pub returns-clause-there : goal.returns-clause-there
returns-clause-there g c = λ told.
    let t = standing (under (g.B.Blocks.shown c.args.blocks.now)) c.args.tree.now in
    ap is_some (stamp_there (pointer_at t 0 c.args.index) (λ none. c.if-pointer-eq0.false (ap (λ (p : Pointer). p.stamp) (c.in_ok-pointer.ensures.pointer told) ∙ none)))

pub returns-clause-ready : goal.returns-clause-ready
returns-clause-ready g c = λ _.
    let v = c.keep_path.new.tree in
    let u = c.hold_cell.new.tree in
    let i = c.args.index in
    let path = c.in_ok-pointer.ensures in
    let holds = c.in_ok-hold_cell.ensures.holds in
    let levels : u.levels ≡ c.args.tree.now.levels = holds.fields.levels ∙ path.loading.fields.levels in
    let within : i < fan ^ c.args.tree.now.levels = omega (arith, c.if-index-width.false, c.width.ensures.is) in record {
      covers = subst (λ n. i < fan ^ n) (sym levels) within;
      cell = held_there v u i c.read_pointed.new.into holds;
      way = way_as v u i holds.fields.levels holds.fields.root (λ level place. ap (λ (nodes : tree.BTreeMap Spot KeptNode). children_in nodes level place) holds.fields.nodes) (path.way c.if-pointer-eq0.false);
    }

-- the place of the cell leads to a block, the one that was read
reached : (g : given.Over) (c : goal.In_ok-hold_cell g) → g.B.Blocks.told → (pointer_at (standing (under (g.B.Blocks.shown c.read_pointed.new.blocks)) c.keep_path.new.tree) 0 c.args.index).stamp ≢ 0
reached g c told none =
    let v = c.keep_path.new.tree in
    let i = c.args.index in
    let held = c.read_pointed.ensures.untouched.held in
    let path = c.in_ok-pointer.ensures in
    c.if-pointer-eq0.false
    (ap (λ (p : Pointer). p.stamp) (path.pointer told ∙ sym (ap (λ (h : fin.FinMap nat_cmp (List ℕ)). pointer_at (standing (λ w. fin.get h w) v) 0 i) held ∙ (path.loading.same told).pointers 0 i)) ∙ none)

block_now : (g : given.Over) (c : goal.In_ok-hold_cell g) → g.B.Blocks.told → block_at (standing (under (g.B.Blocks.shown c.read_pointed.new.blocks)) c.keep_path.new.tree) c.args.index ≡ Some c.read_pointed.new.into
block_now g c told =
    let v = c.keep_path.new.tree in
    let i = c.args.index in
    let held = c.read_pointed.ensures.untouched.held in
    let read = c.in_ok-read_pointed.ensures in
    let content = c.read_pointed.new.into in
    ap (λ (h : fin.FinMap nat_cmp (List ℕ)). block_at (standing (λ w. fin.get h w) v) i) held ∙ read.cell told ∙ as_there content c.in_ok-read_pointed.field-0
    ∙ ap (λ there. cond {A = Option (List ℕ)} there (Some content) None) (read.there ∙ is_stamped c.in_ok-pointer.pointer c.if-pointer-eq0.false)

pub returns-clause-alike : goal.returns-clause-alike
returns-clause-alike g c = λ told.
    let a = g.B.Blocks.shown c.args.blocks.now in
    let b = g.B.Blocks.shown c.keep_path.new.blocks in
    let d = g.B.Blocks.shown c.read_pointed.new.blocks in
    let t = standing (under a) c.args.tree.now in
    let v = c.keep_path.new.tree in
    let u = c.hold_cell.new.tree in
    let i = c.args.index in
    let path = c.in_ok-pointer.ensures in
    let held = c.read_pointed.ensures.untouched.held in
    let content = c.read_pointed.new.into in
    let first : IsAlike t (standing (under d) v) = subst (λ (h : fin.FinMap nat_cmp (List ℕ)). IsAlike t (standing (λ w. fin.get h w) v)) (sym held) (same_alike t (standing (under b) v) (path.loading.same told)) in
    alike_then t (standing (under d) v) (standing (under d) u) first (held_alike v u i content c.in_ok-hold_cell.ensures.holds (under d) (reached g c told) (block_now g c told))

pub returns-then-index-width-clause-leaves : goal.returns-then-index-width-clause-leaves
returns-then-index-width-clause-leaves g c = λ _. leaves_itself (loaded (g.B.Blocks.shown c.args.blocks.now) c.args.tree.now)

pub returns-in_err-read_pointed-clause-leaves : goal.returns-in_err-read_pointed-clause-leaves
returns-in_err-read_pointed-clause-leaves g c = λ told.
    let b = g.B.Blocks.shown c.keep_path.new.blocks in
    let d = g.B.Blocks.shown c.read_pointed.new.blocks in
    let v = c.keep_path.new.tree in
    leaves_then (loaded (g.B.Blocks.shown c.args.blocks.now) c.args.tree.now) (loaded b v) (loaded d v) (c.keep_path.ensures.loading.leaves told) (leaves_untouched b d v c.read_pointed.ensures.untouched)

pub returns-in_err-hold_cell-clause-leaves : goal.returns-in_err-hold_cell-clause-leaves
returns-in_err-hold_cell-clause-leaves g c = λ told.
    let b = g.B.Blocks.shown c.keep_path.new.blocks in
    let d = g.B.Blocks.shown c.read_pointed.new.blocks in
    let v = c.keep_path.new.tree in
    let u = c.hold_cell.new.tree in
    leaves_then (loaded (g.B.Blocks.shown c.args.blocks.now) c.args.tree.now) (loaded b v) (loaded d u) (c.keep_path.ensures.loading.leaves told)
    (leaves_then (loaded b v) (loaded d v) (loaded d u) (leaves_untouched b d v c.read_pointed.ensures.untouched) (leaves_cells (under d) v u c.hold_cell.ensures.fields c.in_err-hold_cell.ensures.same))

pub returns-clause-leaves : goal.returns-clause-leaves
returns-clause-leaves g c = λ told.
    let b = g.B.Blocks.shown c.keep_path.new.blocks in
    let d = g.B.Blocks.shown c.read_pointed.new.blocks in
    let v = c.keep_path.new.tree in
    let u = c.hold_cell.new.tree in
    leaves_then (loaded (g.B.Blocks.shown c.args.blocks.now) c.args.tree.now) (loaded b v) (loaded d u) (c.in_ok-pointer.ensures.loading.leaves told)
    (leaves_then (loaded b v) (loaded d v) (loaded d u) (leaves_untouched b d v c.read_pointed.ensures.untouched) (leaves_held (under d) v u c.args.index c.read_pointed.new.into c.in_ok-hold_cell.ensures.holds))

pub returns-then-index-width-clause-steady : goal.returns-then-index-width-clause-steady
returns-then-index-width-clause-steady g c = steady_loaded 0 1 (loading_none g.B.Blocks.told (g.B.Blocks.shown c.args.blocks.now) c.args.tree.now _ (g.met.B.Blocks.reads_nothing c.args.blocks.now) tt) (λ _ ready. ready)

pub returns-in_err-pointer-clause-steady : goal.returns-in_err-pointer-clause-steady
returns-in_err-pointer-clause-steady g c = let p = err_from_is_err_and c.from_residual.result c.from_residual.ensures.1 in
    rw (p.1, p.2) (steady_loaded 0 1 (loading_err c.in_err-pointer.ensures.loading) c.keep_path.ensures.keeps_ready)

pub returns-then-pointer-eq0-clause-steady : goal.returns-then-pointer-eq0-clause-steady
returns-then-pointer-eq0-clause-steady g c = steady_loaded 0 1 (loading_ok _ c.in_ok-pointer.ensures.loading) c.keep_path.ensures.keeps_ready

pub returns-in_err-read_pointed-clause-steady : goal.returns-in_err-read_pointed-clause-steady
returns-in_err-read_pointed-clause-steady g c = let a = g.B.Blocks.shown c.args.blocks.now in
    let b = g.B.Blocks.shown c.keep_path.new.blocks in
    let d = g.B.Blocks.shown c.read_pointed.new.blocks in
    let t = c.args.tree.now in
    let v = c.keep_path.new.tree in
    let path = c.in_ok-pointer.ensures in
    let e = c.in_err-read_pointed.field-0.0 in
    let p = err_from_is_err_and c.from_residual-in_err-read_pointed.result c.from_residual-in_err-read_pointed.ensures.1 in
    rw (p.1, p.2) (steady_from g.B.Blocks.told _ a d t v 0 1 _ path.loading.fields.owner (λ told. carries_then a b d t v v (path.carries told) (carries_untouched b d v c.read_pointed.ensures.untouched)) path.keeps_ready (rises_but t v 0 1 path.loading.fields path.loading.changes)
    (untouched_then a b d path.loading.untouched c.read_pointed.ensures.untouched) (g.met.B.Blocks.reads_on c.args.blocks.now c.keep_path.new.blocks c.read_pointed.new.blocks path.loading.reads c.read_pointed.ensures.reads) (counts_then a b d _ path.loading.counts.calm (counts_err c.in_err-read_pointed.ensures.counts))
    (fails_later g.B.Blocks.told (standing (under a) t) a b d e path.loading.counts.calm path.loading.untouched.held
    (fails_same g.B.Blocks.told (standing (under a) t) (standing (under b) v) b d e path.loading.same
    (cell_fails g.B.Blocks.told (standing (under b) v) b d c.args.index c.in_ok-pointer.pointer e refl (λ told. path.pointer told ∙ sym ((path.loading.same told).pointers 0 c.args.index)) c.in_err-read_pointed.ensures.held c.in_err-read_pointed.ensures.cause))))

pub returns-in_err-hold_cell-clause-steady : goal.returns-in_err-hold_cell-clause-steady
returns-in_err-hold_cell-clause-steady g c =
    let path = c.in_ok-pointer.ensures in
    let first = steady_read (g.B.Blocks.reads c.args.blocks.now c.read_pointed.new.blocks) (g.B.Blocks.shown c.read_pointed.new.blocks) true (steady_loaded 0 0 path.loading path.keeps_ready) c.read_pointed.ensures.untouched c.in_ok-read_pointed.ensures.counts.calm
    (g.met.B.Blocks.reads_on c.args.blocks.now c.keep_path.new.blocks c.read_pointed.new.blocks path.loading.reads c.read_pointed.ensures.reads) in
    let u = c.hold_cell.new.tree in
    let hold = c.in_err-hold_cell.ensures in
    let nodes = ap changes_in hold.fields.nodes in
    let p = err_from_is_err_and c.from_residual-in_err-hold_cell.result c.from_residual-in_err-hold_cell.ensures.1 in
    rw (p.1, p.2) (steady_on u 0 1 _ first hold.fields.owner (λ _. carries_cells (g.B.Blocks.shown c.read_pointed.new.blocks) c.keep_path.new.tree u hold.fields hold.same)
    (cells_same c.keep_path.new.tree u hold.fields (λ i. ap (option_map (λ (kept : KeptCell). kept.block.value)) (hold.same i)))
    (record { pending = omega (arith, nodes, hold.changes); cells = hold.held }) hold.memory)

pub returns-clause-steady : goal.returns-clause-steady
returns-clause-steady g c =
    let path = c.in_ok-pointer.ensures in
    let first = steady_read (g.B.Blocks.reads c.args.blocks.now c.read_pointed.new.blocks) (g.B.Blocks.shown c.read_pointed.new.blocks) true (steady_loaded 0 0 path.loading path.keeps_ready) c.read_pointed.ensures.untouched c.in_ok-read_pointed.ensures.counts.calm
    (g.met.B.Blocks.reads_on c.args.blocks.now c.keep_path.new.blocks c.read_pointed.new.blocks path.loading.reads c.read_pointed.ensures.reads) in
    let u = c.hold_cell.new.tree in
    let v = c.keep_path.new.tree in
    let hold = c.in_ok-hold_cell.ensures in
    let nodes = ap changes_in hold.fields.nodes in
    steady_on u 0 1 _ first hold.fields.owner (λ told. carries_held (g.B.Blocks.shown c.read_pointed.new.blocks) v u c.args.index c.read_pointed.new.into hold.holds (reached g c told) (block_now g c told))
    (held_ready v u c.args.index c.read_pointed.new.into hold.holds) (record { pending = omega (arith, nodes, hold.changes); cells = hold.held }) tt

pub read_pointed-requires-clause-right : goal.read_pointed-requires-clause-right
read_pointed-requires-clause-right g c = λ told.
    let mid = g.B.Blocks.shown c.keep_path.new.blocks in
    let v = c.keep_path.new.tree in
    let path = c.in_ok-pointer.ensures in
    cell_loads mid v c.args.index c.in_ok-pointer.pointer (path.pointer told ∙ sym ((path.loading.same told).pointers 0 c.args.index))
    (right_loaded path.loading told (c.requires.right told))
