use Rattle.std.proofs.Common.{Bool, List, sym, subst}
use Rattle.std.specs.Prelude.{Option}
use Rattle.fv_image.specs.Views.{head_of}
use Rattle.fv_faults.specs.Walks.{Ground}
use Rattle.fv_fourth_pass.specs.Based.{IsOver}
use Rattle.fv_fourth_pass.specs.Noted.{hinted_roots}
use Rattle.fv_fourth_pass.specs.Placed.{IsBased}
use Rattle.fv_fourth_pass.proofs.WalkedRoots.{places_walked}
use Rattle.fv_fourth_pass.proofs.volume.note_pointers.Goals as goal

pub returns-clause-adds : goal.returns-clause-adds
returns-clause-adds g c = λ fits are clean based over.
    let volume : Ground = g.S.Source.volume c.args.source.now in
    let h = head_of c.args.label.now in
    let row = c.args.row.now in
    let sets = c.args.sets.now in
    places_walked volume.view volume.slot c.args.place h (hinted_roots volume c.args.place c.args.roots.now) c.args.lines c.in_ok-walked.walked.lines c.note_base.new.lines
    (c.in_ok-walked.ensures.adds fits clean are (subst (λ (o : Option (List Bool)). IsBased volume.view volume.slot h o row) (sym c.base-base.ensures) based))
    (c.in_ok-note_base.ensures volume.view volume.slot (subst (λ (o : Option (List Bool)). IsOver volume.view volume.slot h sets.held o row) (sym c.base-base.ensures) over))
