use Rattle.std.proofs.Common.{◌≡◌, ◌≢◌, ℕ, ◌+◌, ◌-◌, ◌<◌, ◌≤◌, get_or, ◌∙◌, arith}
use Rattle.std.specs.Prelude.{IsTrue}
use Rattle.std.proofs.lemmas.Result.{err_from_is_err_and}
use Rattle.fv_image.specs.Containers.{level_width, node_below}
use Rattle.fv_container.specs.Reading.{AreShaped, IsLevelFault, StandInner, StandsInner, TreeAt}
use Rattle.fv_container.proofs.Trees.{shaped_above}
use Rattle.fv_container.proofs.Walks.{fault_root, fault_level, tree_read, shaped_at}
use Rattle.fv_container.proofs.Whole.{all_both, stand_back, whole_inner, whole_top}
use Rattle.fv_container.proofs.load.read_tree.Given as given
use Rattle.fv_container.proofs.load.read_tree.Goals as goal

pub returns-in_err-top-clause-fault : goal.returns-in_err-top-clause-fault
returns-in_err-top-clause-fault g c = λ tells.
    let bad = c.in_err-top.ensures.fault tells in
    let good = fault_root (g.D.Disk.shown c.args.disk.now).reads c.args.root c.args.height c.args.count c.in_err-top.field-0.0 bad.0 bad.1 in
    let p = err_from_is_err_and c.from_residual.result c.from_residual.ensures.1 in rw (p.1, p.2) good

pub returns-in_err-level-clause-fault : goal.returns-in_err-level-clause-fault
returns-in_err-level-clause-fault g c = λ tells.
    let i = (g.D.Disk.shown c.args.disk.now).reads in
    let n = c.args.count in
    let root = c.in_ok-top.ensures in
    let told : IsTrue (g.D.Disk.shown c.read_root.new.disk).tells = rw root.read.only_reads.stays.tells tells in
    let inner : (q : ℕ) → q < level_width n 1 → get_or c.read_root.new.places (c.leaf_count-leaves.result + q) 0 ≡ node_below i c.args.root (c.args.height - 1) q = rw (← c.inner_count-inner.ensures) (root.inner tells) in
    let bad : IsLevelFault (g.D.Disk.shown c.read_root.new.disk).reads 1 c.read_root.new.places c.leaf_count-leaves.result (level_width n 1) c.in_err-level.field-0.0 = rw (← c.inner_count-inner.ensures) (c.in_err-level.ensures.fault told) in
    let good = fault_level i (g.D.Disk.shown c.read_root.new.disk).reads c.args.root c.args.height n 1 c.leaf_count-leaves.result c.read_root.new.places c.in_err-level.field-0.0 root.read.only_reads.stays.reads c.requires.least inner bad in
    let p = err_from_is_err_and c.from_residual-in_err-level.result c.from_residual-in_err-level.ensures.1 in
    rw (p.1, p.2) good

-- what was told before is told of the blocks below the root, which are as they were
told_up : (g : given.Over) (c : goal.After-both g) → IsTrue (g.D.Disk.shown c.args.disk.now).tells → IsTrue (g.D.Disk.shown c.read_root.new.disk).tells
told_up g c tells = rw c.in_ok-top.ensures.read.only_reads.stays.tells tells

same_up : (g : given.Over) (c : goal.After-both g) → (g.D.Disk.shown c.read_root.new.disk).reads ≡ (g.D.Disk.shown c.args.disk.now).reads
same_up g c = c.in_ok-top.ensures.read.only_reads.stays.reads

-- the places above the leaves are those that the root was read into
past : (g : given.Over) (c : goal.After-both g) (m : ℕ) → level_width c.args.count 0 ≤ m → get_or c.read_level.new.places m 0 ≡ get_or c.read_root.new.places m 0
past g c = rw (← c.leaf_count-leaves.ensures) c.in_ok-level.ensures.past

-- the tree's places
places_at : (g : given.Over) (c : goal.After-both g) → IsTrue (g.D.Disk.shown c.args.disk.now).tells → TreeAt (g.D.Disk.shown c.args.disk.now).reads c.args.root c.args.height c.args.count c.read_level.new.places
places_at g c tells =
    tree_read (g.D.Disk.shown c.args.disk.now).reads (g.D.Disk.shown c.read_root.new.disk).reads c.args.root c.args.height c.args.count c.read_root.new.places c.read_level.new.places c.requires.blank.few c.requires.least c.requires.greatest
    (c.in_ok-level.ensures.len ∙ c.in_ok-top.ensures.len ∙ c.requires.blank.nodes) (same_up g c)
    (rw (← c.inner_count-inner.ensures, ← c.leaf_count-leaves.ensures) (c.in_ok-top.ensures.inner tells))
    (rw (← c.inner_count-inner.ensures, ← c.leaf_count-leaves.ensures) c.in_ok-top.ensures.top)
    (rw (← c.leaf_count-leaves.ensures) (c.in_ok-level.ensures.leaves (told_up g c tells)))
    (past g c)

pub returns-clause-tree : goal.returns-clause-tree
returns-clause-tree g c = λ tells. places_at g c tells

pub returns-clause-bounded : goal.returns-clause-bounded
returns-clause-bounded g c = λ m lt.
    c.in_ok-level.ensures.bounded (λ k low. let zero = c.in_ok-top.ensures.low k low in omega (arith, zero)) m (rw (c.leaf_count-leaves.ensures) lt)

pub returns-clause-above : goal.returns-clause-above
returns-clause-above g c = λ tells.
    let i = (g.D.Disk.shown c.args.disk.now).reads in
    let above = (g.D.Disk.shown c.read_root.new.disk).reads in
    let n = c.args.count in
    let inner_above : AreShaped above 1 c.read_root.new.places (level_width n 0) (level_width n 1) = rw (← c.inner_count-inner.ensures, ← c.leaf_count-leaves.ensures) (c.in_ok-level.ensures.shaped (told_up g c tells)) in
    let inner : AreShaped i 1 c.read_level.new.places (level_width n 0) (level_width n 1) = shaped_at i above 1 (level_width n 0) (level_width n 1) c.read_root.new.places c.read_level.new.places (same_up g c) (past g c) inner_above in
    shaped_above i c.args.root c.args.height n c.read_level.new.places (places_at g c tells) inner (c.in_ok-top.ensures.shaped tells)

pub returns-clause-kept : goal.returns-clause-kept
returns-clause-kept g c = λ tells clean.
    let i = (g.D.Disk.shown c.args.disk.now).reads in
    let n = c.args.count in
    let places = c.read_level.new.places in
    let at : TreeAt i c.args.root c.args.height n places = places_at g c tells in
    let above : StandInner (g.D.Disk.shown c.read_root.new.disk).reads c.read_root.new.places (level_width n 0) (level_width n 1) =
    stand_back i (g.D.Disk.shown c.read_root.new.disk).reads (level_width n 0) (level_width n 1) c.read_root.new.places places (same_up g c) (past g c) (whole_inner i c.args.root c.args.height n places at clean) in
    let top : c.args.height ≡ 2 → c.args.root ≢ 0 → StandsInner i c.args.root 2 0 c.inner_count-inner.result = rw c.inner_count-inner.ensures (whole_top i c.args.root c.args.height n clean) in
    all_both c.in_ok-top.top c.in_ok-level.level c.both.result c.both.ensures
    (c.in_ok-top.ensures.kept tells top)
    (c.in_ok-level.ensures.kept (told_up g c tells) (rw (c.inner_count-inner.ensures, c.leaf_count-leaves.ensures) above))
