use Rattle.std.proofs.Common.{◌≡◌, ℕ, Err, sym, ap, ◌∙◌, Some}
use Rattle.fv_files.specs.Flushing.{HasRoot}
use Rattle.fv_codec.specs.declared.inode.InodeRecord.{InodeRecord}
use Rattle.fv_tree.specs.Sources.{WasFree}
use Rattle.fv_tree.proofs.Anew.{free_sooner}
use Rattle.std.proofs.lemmas.Result.{err_from_is_err_and}
use Rattle.fv_tables.specs.Told.{file_at}
use Rattle.fv_inode.specs.Files.{rooted}
use Rattle.fv_tree.proofs.Brought.{some_same}
use Rattle.fv_files.proofs.Changed.{with_trees}
use Rattle.fv_files.proofs.Flushed.{kept_keeps, kept_lays, kept_places, kept_stores, lay_done, lay_keeps, lay_places, lay_stores, lays_failed}
use Rattle.fv_files.proofs.Passed.{pass_done, pass_keeps, pass_places, pass_stores, same_root, unset_lays, unset_stores, unset_places, unset_keeps}
use Rattle.fv_files.proofs.flush.lay_file.Given as given
use Rattle.fv_files.proofs.flush.lay_file.Goals as goal

-- the table has the root that the tree has, or another
told_root : (g : given.Over) (c : goal.After-forget g) → g.B.Blocks.told → HasRoot (file_at (rooted (g.B.Blocks.shown c.args.blocks.now) c.args.files.now.inode) c.args.number) c.kept_levels-levels.result c.in_ok-root.root
told_root g c told =
    let same = c.has_root.ensures.same c.if-has_root.true in
    same_root (file_at (rooted (g.B.Blocks.shown c.args.blocks.now) c.args.files.now.inode) c.args.number) c.args.info.now c.kept_levels-levels.result c.in_ok-root.root same.0 same.1 (c.requires.there told)

other_root : (g : given.Over) (c : goal.After-forget-2 g) (r : InodeRecord) → file_at (rooted (g.B.Blocks.shown c.args.blocks.now) c.args.files.now.inode) c.args.number ≡ Some r → r.levels ≡ c.kept_levels-levels.result → r.root ≡ c.in_ok-root.root → g.B.Blocks.told → ⊥
other_root g c r at levels root told =
    let has = c.requires.there told in
    let it : r ≡ has.file = some_same r has.file (sym at ∙ has.is) in
    c.has_root.ensures.other c.if-has_root.false (sym has.levels_is ∙ ap (λ (q : InodeRecord). q.levels) (sym it) ∙ levels) (sym has.root_is ∙ ap (λ (q : InodeRecord). q.root) (sym it) ∙ root)

-- what was free while the tree was placed was free
sooner : (g : given.Over) (c : goal.After-forget-2 g) (v : ℕ) → WasFree g.B.Blocks.shown g.B.Blocks.goes c.args.blocks.now c.flush_kept.new.blocks v → WasFree g.B.Blocks.shown g.B.Blocks.goes c.args.blocks.now c.set_root.new.blocks v
sooner g c = free_sooner g.B.Blocks.shown g.B.Blocks.goes g.met.B.Blocks.goes_on c.args.blocks.now c.flush_kept.new.blocks c.set_root.new.blocks (g.met.B.Blocks.reads_go c.flush_kept.new.blocks c.set_root.new.blocks c.in_ok-set_root.ensures.reads)

pub returns-in_err-root-clause-lays : goal.returns-in_err-root-clause-lays
returns-in_err-root-clause-lays g c =
    let f = c.args.files.now in
    let p = err_from_is_err_and c.from_residual.result c.from_residual.ensures.1 in
    rw (p.1, p.2) (lays_failed g.B.Blocks.told _ _ f (with_trees f c.flush_kept.new.trees) _ (kept_lays g.B.Blocks.told _ _ f c.flush_kept.new.trees c.args.number (Err c.in_err-root.field-0.0) c.in_err-root.ensures.flushes))

pub returns-in_err-set_root-clause-lays : goal.returns-in_err-set_root-clause-lays
returns-in_err-set_root-clause-lays g c =
    let p = err_from_is_err_and c.from_residual-in_err-set_root.result c.from_residual-in_err-set_root.ensures.1 in
    rw (p.1, p.2) (unset_lays g.B.Blocks.told (g.B.Blocks.shown c.args.blocks.now) (g.B.Blocks.shown c.flush_kept.new.blocks) (g.B.Blocks.shown c.set_root.new.blocks) c.args.files.now c.flush_kept.new.trees c.set_root.new.self c.args.number c.in_ok-root.root c.in_err-set_root.field-0.0
    c.in_ok-root.ensures.flushes c.in_err-set_root.ensures.loads c.in_err-set_root.ensures.still c.in_err-set_root.ensures.held)

pub returns-clause-lays : goal.returns-clause-lays
returns-clause-lays g c =
    lay_done g.B.Blocks.told (g.B.Blocks.shown c.args.blocks.now) (g.B.Blocks.shown c.flush_kept.new.blocks) (g.B.Blocks.shown c.set_root.new.blocks) c.args.files.now c.flush_kept.new.trees c.forget-2.new.trees c.set_root.new.self c.args.number c.kept_levels-levels.result c.in_ok-root.root
    c.in_ok-root.ensures.flushes c.kept_levels-levels.ensures.levels c.in_ok-set_root.ensures.loads c.in_ok-set_root.ensures.set c.in_ok-set_root.ensures.rises.pending c.forget-2.ensures.gone c.forget-2.ensures.cost

pub returns-in_err-root-clause-stored_well : goal.returns-in_err-root-clause-stored_well
returns-in_err-root-clause-stored_well g c = λ told known all.
    kept_stores g.B.Blocks.told (g.B.Blocks.shown c.args.blocks.now) (g.B.Blocks.shown c.flush_kept.new.blocks) c.args.files.now c.flush_kept.new.trees c.args.number (Err c.in_err-root.field-0.0) c.in_err-root.ensures.flushes known told
    (λ is. c.in_err-root.ensures.places (all is))

pub returns-in_err-set_root-clause-stored_well : goal.returns-in_err-set_root-clause-stored_well
returns-in_err-set_root-clause-stored_well g c = λ told known all.
    unset_stores g.B.Blocks.told (g.B.Blocks.shown c.args.blocks.now) (g.B.Blocks.shown c.flush_kept.new.blocks) (g.B.Blocks.shown c.set_root.new.blocks) c.args.files.now c.flush_kept.new.trees c.set_root.new.self c.args.number c.in_ok-root.root c.in_err-set_root.field-0.0
    c.in_ok-root.ensures.flushes c.in_err-set_root.ensures.loads c.in_err-set_root.ensures.still c.in_err-set_root.ensures.held
    (WasFree g.B.Blocks.shown g.B.Blocks.goes c.args.blocks.now c.flush_kept.new.blocks) c.in_ok-root.ensures.anew known told (λ is. c.in_ok-root.ensures.places (all is))

pub returns-clause-stored_well : goal.returns-clause-stored_well
returns-clause-stored_well g c = λ told known all. let did = c.in_ok-set_root.ensures in
    lay_stores g.B.Blocks.told (g.B.Blocks.shown c.args.blocks.now) (g.B.Blocks.shown c.flush_kept.new.blocks) (g.B.Blocks.shown c.set_root.new.blocks) c.args.files.now c.flush_kept.new.trees c.forget-2.new.trees c.set_root.new.self c.args.number c.kept_levels-levels.result c.in_ok-root.root
    c.in_ok-root.ensures.flushes c.kept_levels-levels.ensures.levels did.loads did.set did.rises.pending c.forget-2.ensures.gone c.forget-2.ensures.cost
    (WasFree g.B.Blocks.shown g.B.Blocks.goes c.args.blocks.now c.flush_kept.new.blocks) (WasFree g.B.Blocks.shown g.B.Blocks.goes c.args.blocks.now c.set_root.new.blocks) c.in_ok-root.ensures.anew (sooner g c) (other_root g c) did.leaves
    known told (λ is. c.in_ok-root.ensures.places (all is))

pub returns-then-has_root-clause-lays : goal.returns-then-has_root-clause-lays
returns-then-has_root-clause-lays g c =
    pass_done g.B.Blocks.told (g.B.Blocks.shown c.args.blocks.now) (g.B.Blocks.shown c.flush_kept.new.blocks) c.args.files.now c.flush_kept.new.trees c.forget.new.trees c.args.number c.kept_levels-levels.result c.in_ok-root.root
    c.in_ok-root.ensures.flushes c.kept_levels-levels.ensures.levels
    (told_root g c) c.forget.ensures.gone c.forget.ensures.cost

pub returns-then-has_root-clause-stored_well : goal.returns-then-has_root-clause-stored_well
returns-then-has_root-clause-stored_well g c = λ told known all.
    pass_stores g.B.Blocks.told (g.B.Blocks.shown c.args.blocks.now) (g.B.Blocks.shown c.flush_kept.new.blocks) c.args.files.now c.flush_kept.new.trees c.forget.new.trees c.args.number c.kept_levels-levels.result c.in_ok-root.root
    c.in_ok-root.ensures.flushes c.kept_levels-levels.ensures.levels
    (told_root g c) c.forget.ensures.gone c.forget.ensures.cost known told (λ is. c.in_ok-root.ensures.places (all is))

pub returns-in_err-root-clause-places : goal.returns-in_err-root-clause-places
returns-in_err-root-clause-places g c =
    kept_places g.B.Blocks.told (g.B.Blocks.shown c.args.blocks.now) (g.B.Blocks.shown c.flush_kept.new.blocks) c.args.files.now c.flush_kept.new.trees c.args.number (Err c.in_err-root.field-0.0) c.in_err-root.ensures.flushes
    (WasFree g.B.Blocks.shown g.B.Blocks.goes c.args.blocks.now c.flush_kept.new.blocks) c.in_err-root.ensures.anew

pub returns-in_err-set_root-clause-places : goal.returns-in_err-set_root-clause-places
returns-in_err-set_root-clause-places g c =
    unset_places g.B.Blocks.told (g.B.Blocks.shown c.args.blocks.now) (g.B.Blocks.shown c.flush_kept.new.blocks) (g.B.Blocks.shown c.set_root.new.blocks) c.args.files.now c.flush_kept.new.trees c.set_root.new.self c.args.number c.in_ok-root.root c.in_err-set_root.field-0.0
    c.in_ok-root.ensures.flushes c.in_err-set_root.ensures.loads c.in_err-set_root.ensures.still c.in_err-set_root.ensures.held (WasFree g.B.Blocks.shown g.B.Blocks.goes c.args.blocks.now c.flush_kept.new.blocks) (WasFree g.B.Blocks.shown g.B.Blocks.goes c.args.blocks.now c.set_root.new.blocks)
    (free_sooner g.B.Blocks.shown g.B.Blocks.goes g.met.B.Blocks.goes_on c.args.blocks.now c.flush_kept.new.blocks c.set_root.new.blocks (g.met.B.Blocks.reads_go c.flush_kept.new.blocks c.set_root.new.blocks c.in_err-set_root.ensures.reads)) c.in_ok-root.ensures.anew

pub returns-clause-places : goal.returns-clause-places
returns-clause-places g c = let did = c.in_ok-set_root.ensures in
    lay_places g.B.Blocks.told _ _ _ c.args.files.now c.flush_kept.new.trees c.forget-2.new.trees c.set_root.new.self c.args.number c.kept_levels-levels.result c.in_ok-root.root
    c.in_ok-root.ensures.flushes c.kept_levels-levels.ensures.levels did.loads did.set did.rises.pending c.forget-2.ensures.gone c.forget-2.ensures.cost
    (WasFree g.B.Blocks.shown g.B.Blocks.goes c.args.blocks.now c.flush_kept.new.blocks) (WasFree g.B.Blocks.shown g.B.Blocks.goes c.args.blocks.now c.set_root.new.blocks) c.in_ok-root.ensures.anew (sooner g c) (other_root g c) did.leaves

pub returns-then-has_root-clause-places : goal.returns-then-has_root-clause-places
returns-then-has_root-clause-places g c =
    pass_places g.B.Blocks.told (g.B.Blocks.shown c.args.blocks.now) (g.B.Blocks.shown c.flush_kept.new.blocks) c.args.files.now c.flush_kept.new.trees c.forget.new.trees c.args.number c.kept_levels-levels.result c.in_ok-root.root
    c.in_ok-root.ensures.flushes c.kept_levels-levels.ensures.levels
    (told_root g c) c.forget.ensures.gone c.forget.ensures.cost
    (WasFree g.B.Blocks.shown g.B.Blocks.goes c.args.blocks.now c.flush_kept.new.blocks) c.in_ok-root.ensures.anew

pub returns-in_err-root-clause-keeps : goal.returns-in_err-root-clause-keeps
returns-in_err-root-clause-keeps g c =
    kept_keeps g.B.Blocks.told (g.B.Blocks.shown c.args.blocks.now) (g.B.Blocks.shown c.flush_kept.new.blocks) c.args.files.now c.flush_kept.new.trees c.args.number (Err c.in_err-root.field-0.0) c.in_err-root.ensures.flushes
    (λ v. g.B.Blocks.keeps v c.args.blocks.now c.flush_kept.new.blocks) c.in_err-root.ensures.keeps

pub returns-in_err-set_root-clause-keeps : goal.returns-in_err-set_root-clause-keeps
returns-in_err-set_root-clause-keeps g c =
    unset_keeps g.B.Blocks.told (g.B.Blocks.shown c.args.blocks.now) (g.B.Blocks.shown c.flush_kept.new.blocks) (g.B.Blocks.shown c.set_root.new.blocks) c.args.files.now c.flush_kept.new.trees c.set_root.new.self c.args.number c.in_ok-root.root c.in_err-set_root.field-0.0
    c.in_ok-root.ensures.flushes c.in_err-set_root.ensures.loads c.in_err-set_root.ensures.still c.in_err-set_root.ensures.held (WasFree g.B.Blocks.shown g.B.Blocks.goes c.args.blocks.now c.flush_kept.new.blocks)
    (λ v. g.B.Blocks.keeps v c.args.blocks.now c.flush_kept.new.blocks) (λ v. g.B.Blocks.keeps v c.flush_kept.new.blocks c.set_root.new.blocks) (λ v. g.B.Blocks.keeps v c.args.blocks.now c.set_root.new.blocks)
    (λ v. g.met.B.Blocks.keeps_on v c.args.blocks.now c.flush_kept.new.blocks c.set_root.new.blocks) c.in_ok-root.ensures.anew c.in_ok-root.ensures.keeps (λ v. g.met.B.Blocks.reads_keep v c.flush_kept.new.blocks c.set_root.new.blocks c.in_err-set_root.ensures.reads)

pub returns-clause-keeps : goal.returns-clause-keeps
returns-clause-keeps g c = let did = c.in_ok-set_root.ensures in
    lay_keeps g.B.Blocks.told _ _ _ c.args.files.now c.flush_kept.new.trees c.forget-2.new.trees c.set_root.new.self c.args.number c.kept_levels-levels.result c.in_ok-root.root
    c.in_ok-root.ensures.flushes c.kept_levels-levels.ensures.levels did.loads did.set did.rises.pending c.forget-2.ensures.gone c.forget-2.ensures.cost
    (WasFree g.B.Blocks.shown g.B.Blocks.goes c.args.blocks.now c.flush_kept.new.blocks) (WasFree g.B.Blocks.shown g.B.Blocks.goes c.args.blocks.now c.set_root.new.blocks) c.in_ok-root.ensures.anew (sooner g c) (other_root g c) did.leaves
    (λ v. g.B.Blocks.keeps v c.args.blocks.now c.flush_kept.new.blocks) (λ v. g.B.Blocks.keeps v c.flush_kept.new.blocks c.set_root.new.blocks) (λ v. g.B.Blocks.keeps v c.args.blocks.now c.set_root.new.blocks)
    (λ v. g.met.B.Blocks.keeps_on v c.args.blocks.now c.flush_kept.new.blocks c.set_root.new.blocks) c.in_ok-root.ensures.keeps (λ v. g.met.B.Blocks.reads_keep v c.flush_kept.new.blocks c.set_root.new.blocks did.reads)

pub returns-then-has_root-clause-keeps : goal.returns-then-has_root-clause-keeps
returns-then-has_root-clause-keeps g c =
    pass_keeps g.B.Blocks.told (g.B.Blocks.shown c.args.blocks.now) (g.B.Blocks.shown c.flush_kept.new.blocks) c.args.files.now c.flush_kept.new.trees c.forget.new.trees c.args.number c.kept_levels-levels.result c.in_ok-root.root
    c.in_ok-root.ensures.flushes c.kept_levels-levels.ensures.levels
    (told_root g c) c.forget.ensures.gone c.forget.ensures.cost
    (WasFree g.B.Blocks.shown g.B.Blocks.goes c.args.blocks.now c.flush_kept.new.blocks) c.in_ok-root.ensures.anew (λ v. g.B.Blocks.keeps v c.args.blocks.now c.flush_kept.new.blocks) c.in_ok-root.ensures.keeps

pub set_root-requires-clause-right : goal.set_root-requires-clause-right
set_root-requires-clause-right g c = λ told level place v led. c.requires.right told c.flush_kept.new.blocks v _
