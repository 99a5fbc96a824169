use Rattle.std.proofs.Common.{◌≡◌, true, Err, ap, sym, subst, ◌∙◌}
use Rattle.std.specs.Prelude.{is_some}
use Rattle.std.specs.FinMap as fin
use Rattle.std.proofs.lemmas.Result.{err_from_is_err_and}
use Rattle.fv_tables.specs.Told.{file_at}
use Rattle.fv_tree.specs.Sources.{WasFree}
use Rattle.fv_tree.specs.Standing.{standing}
use Rattle.fv_tree.proofs.Anew.{free_later}
use Rattle.fv_inode.specs.Files.{rooted}
use Rattle.fv_files.specs.Tables.{tree_in}
use Rattle.fv_files.specs.Flushing.{HasRoot}
use Rattle.fv_files.proofs.Looked.{Held}
use Rattle.fv_files.proofs.Changed.{own_ready, with_trees}
use Rattle.fv_files.proofs.Kept.{stored_on_blocks}
use Rattle.fv_files.proofs.Flushed.{lays_failed, lays_astray, look_lays, look_none, look_places, places_astray, strayed}
use Rattle.fv_files.proofs.Passed.{root_told, found_lays, found_stores, found_places, found_keeps}
use Rattle.fv_files.proofs.flush.flush_file.Goals as goal

pub returns-in_err-look_held-clause-lays : goal.returns-in_err-look_held-clause-lays
returns-in_err-look_held-clause-lays g c =
    let old = g.B.Blocks.shown c.args.blocks.now in
    let new = g.B.Blocks.shown c.look_held.new.blocks in
    let f = c.args.files.now in
    let e = c.in_err-look_held.field-0.0 in
    let p = err_from_is_err_and c.from_residual.result c.from_residual.ensures.1 in
    rw (p.1, p.2) (lays_failed g.B.Blocks.told old new f f e (look_lays g.B.Blocks.told old new f (Err e) c.in_err-look_held.ensures.looks
    (λ told sound. absurd (c.in_err-look_held.ensures.held told (own_ready old f c.args.number c.requires.kept sound)))))

pub returns-in-None-clause-lays : goal.returns-in-None-clause-lays
returns-in-None-clause-lays g c =
    let old = g.B.Blocks.shown c.args.blocks.now in
    let new = g.B.Blocks.shown c.look_held.new.blocks in
    let f = c.args.files.now in
    let there : is_some (tree_in f c.args.number) ≡ true = c.requires.kept in
    lays_astray g.B.Blocks.told old new f (with_trees f c.forget.new.trees) c.in_ok-look_held.field-0 c.in_ok-look_held.ensures.looks.counts
    (λ told sound. look_none old f c.args.number c.in_ok-look_held.field-0 (ap is_some c.in-None.is) (c.in_ok-look_held.ensures.found told) (strayed old f c.args.number there sound))

pub lay_file-requires-clause-there : goal.lay_file-requires-clause-there
lay_file-requires-clause-there g c = λ told.
    let old = g.B.Blocks.shown c.args.blocks.now in
    let new = g.B.Blocks.shown c.look_held.new.blocks in
    let n = c.args.number in
    let info = c.in-Some.info in
    let f = c.args.files.now in
    subst (λ (h : Held). HasRoot (file_at (standing (λ v. fin.get h v) f.inode.tree) n) info.levels info.root) (sym c.in_ok-look_held.ensures.looks.untouched.held)
    (root_told n info (file_at (rooted old f.inode) n) (sym c.in-Some.is ∙ c.in_ok-look_held.ensures.found told))

pub returns-in-Some-clause-lays : goal.returns-in-Some-clause-lays
returns-in-Some-clause-lays g c =
    found_lays g.B.Blocks.told (g.B.Blocks.shown c.args.blocks.now) (g.B.Blocks.shown c.look_held.new.blocks) (g.B.Blocks.shown c.lay_file.new.blocks) c.args.files.now c.lay_file.new.files c.in_ok-look_held.field-0 c.lay_file.result c.in_ok-look_held.ensures.looks c.lay_file.ensures.lays

pub returns-in_err-look_held-clause-stored_well : goal.returns-in_err-look_held-clause-stored_well
returns-in_err-look_held-clause-stored_well g c = λ told known all sound led laid.
    stored_on_blocks known c.args.files.now (g.B.Blocks.shown c.args.blocks.now) (g.B.Blocks.shown c.look_held.new.blocks) c.in_err-look_held.ensures.looks.untouched.held

pub returns-in-None-clause-stored_well : goal.returns-in-None-clause-stored_well
returns-in-None-clause-stored_well g c = λ told known all sound.
    let f = c.args.files.now in
    let there : is_some (tree_in f c.args.number) ≡ true = c.requires.kept in
    absurd (look_none (g.B.Blocks.shown c.args.blocks.now) f c.args.number c.in_ok-look_held.field-0 (ap is_some c.in-None.is) (c.in_ok-look_held.ensures.found told) (strayed (g.B.Blocks.shown c.args.blocks.now) f c.args.number there sound))

pub returns-in-Some-clause-stored_well : goal.returns-in-Some-clause-stored_well
returns-in-Some-clause-stored_well g c = λ told known all.
    found_stores g.B.Blocks.told (g.B.Blocks.shown c.args.blocks.now) (g.B.Blocks.shown c.look_held.new.blocks) (g.B.Blocks.shown c.lay_file.new.blocks) c.args.files.now c.lay_file.new.files c.in_ok-look_held.field-0 c.lay_file.result c.in_ok-look_held.ensures.looks c.lay_file.ensures.lays known told (c.lay_file.ensures.stored_well told known all)

pub returns-in_err-look_held-clause-places : goal.returns-in_err-look_held-clause-places
returns-in_err-look_held-clause-places g c =
    look_places g.B.Blocks.told (WasFree g.B.Blocks.shown g.B.Blocks.goes c.args.blocks.now c.look_held.new.blocks) (g.B.Blocks.shown c.args.blocks.now) (g.B.Blocks.shown c.look_held.new.blocks) c.args.files.now (Err c.in_err-look_held.field-0.0) c.in_err-look_held.ensures.looks

pub returns-in-None-clause-places : goal.returns-in-None-clause-places
returns-in-None-clause-places g c =
    let old = g.B.Blocks.shown c.args.blocks.now in
    let f = c.args.files.now in
    let there : is_some (tree_in f c.args.number) ≡ true = c.requires.kept in
    places_astray g.B.Blocks.told (WasFree g.B.Blocks.shown g.B.Blocks.goes c.args.blocks.now c.look_held.new.blocks) old (g.B.Blocks.shown c.look_held.new.blocks) f (with_trees f c.forget.new.trees)
    (λ told sound. look_none old f c.args.number c.in_ok-look_held.field-0 (ap is_some c.in-None.is) (c.in_ok-look_held.ensures.found told) (strayed old f c.args.number there sound))

pub returns-in-Some-clause-places : goal.returns-in-Some-clause-places
returns-in-Some-clause-places g c =
    found_places g.B.Blocks.told (g.B.Blocks.shown c.args.blocks.now) (g.B.Blocks.shown c.look_held.new.blocks) (g.B.Blocks.shown c.lay_file.new.blocks) c.args.files.now c.lay_file.new.files c.in_ok-look_held.field-0 c.lay_file.result c.in_ok-look_held.ensures.looks c.lay_file.ensures.lays
    (WasFree g.B.Blocks.shown g.B.Blocks.goes c.look_held.new.blocks c.lay_file.new.blocks) (WasFree g.B.Blocks.shown g.B.Blocks.goes c.args.blocks.now c.lay_file.new.blocks)
    (free_later g.B.Blocks.shown g.B.Blocks.goes g.met.B.Blocks.goes_on c.args.blocks.now c.look_held.new.blocks c.lay_file.new.blocks (g.met.B.Blocks.reads_go c.args.blocks.now c.look_held.new.blocks c.in_ok-look_held.ensures.reads)) c.lay_file.ensures.places

pub returns-in_err-look_held-clause-keeps : goal.returns-in_err-look_held-clause-keeps
returns-in_err-look_held-clause-keeps g c = λ told sound laid v none. g.met.B.Blocks.reads_keep v c.args.blocks.now c.look_held.new.blocks c.in_err-look_held.ensures.reads

pub returns-in-None-clause-keeps : goal.returns-in-None-clause-keeps
returns-in-None-clause-keeps g c = λ told sound laid v none. g.met.B.Blocks.reads_keep v c.args.blocks.now c.look_held.new.blocks c.in_ok-look_held.ensures.reads

pub returns-in-Some-clause-keeps : goal.returns-in-Some-clause-keeps
returns-in-Some-clause-keeps g c =
    let keeps = g.B.Blocks.keeps in
    found_keeps g.B.Blocks.told (g.B.Blocks.shown c.args.blocks.now) (g.B.Blocks.shown c.look_held.new.blocks) (g.B.Blocks.shown c.lay_file.new.blocks) c.args.files.now c.lay_file.new.files c.in_ok-look_held.field-0 c.lay_file.result c.in_ok-look_held.ensures.looks c.lay_file.ensures.lays
    (WasFree g.B.Blocks.shown g.B.Blocks.goes c.look_held.new.blocks c.lay_file.new.blocks) (λ v. keeps v c.args.blocks.now c.look_held.new.blocks) (λ v. keeps v c.look_held.new.blocks c.lay_file.new.blocks) (λ v. keeps v c.args.blocks.now c.lay_file.new.blocks)
    (λ v. g.met.B.Blocks.keeps_on v c.args.blocks.now c.look_held.new.blocks c.lay_file.new.blocks) c.lay_file.ensures.places (λ v. g.met.B.Blocks.reads_keep v c.args.blocks.now c.look_held.new.blocks c.in_ok-look_held.ensures.reads) c.lay_file.ensures.keeps

pub look_held-requires : goal.look_held-requires
look_held-requires g c = record { right = λ told level place v led. c.requires.right told c.args.blocks.now v _ }
