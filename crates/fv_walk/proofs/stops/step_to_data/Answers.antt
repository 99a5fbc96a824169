use Rattle.std.proofs.Common.{◌≡◌, ◌<◌, ◌++◌, ◌∷◌, [], ℕ, Bool, true, false, List, length, refl, sym, ap, subst, ◌∙◌, arith}
use Rattle.std.specs.Prelude.{None, not, flat_map}
use Rattle.fv_bits.specs.Members.{is_member}
use Rattle.fv_codec.specs.declared.inode.InodeRecord.{InodeRecord}
use Rattle.fv_faults.specs.declared.fault.Fault.{Fault}
use Rattle.fv_faults.specs.Lines.{line}
use Rattle.fv_faults.specs.Adding.{Adds}
use Rattle.fv_faults.specs.Met.{place_at}
use Rattle.fv_faults.specs.Walks.{Ground, Step, has_reached, met_in}
use Rattle.fv_faults.proofs.Adding.{adds_none}
use Rattle.fv_walk.specs.declared.state.State.{State}
use Rattle.fv_walk.specs.declared.visit.Visit.{Visit}
use Rattle.fv_walk.specs.Goings.{Tracks}
use Rattle.fv_walk.specs.Naming.{IsNames}
use Rattle.fv_walk.specs.Visits.{item_of}
use Rattle.fv_walk.proofs.Along.{going_data, going_ends, going_hole}
use Rattle.fv_walk.proofs.Blocks.{no_files, no_lines}
use Rattle.fv_walk.proofs.Naming.{nothing_names}
use Rattle.fv_walk.proofs.Seeing.{has_place, lacks_place}
use Rattle.fv_walk.proofs.Stepping.{data_steps}
use Rattle.fv_walk.proofs.Steps.{again_lines, ends_with, hole_lines, same_grows, set_grows, tracks_again, tracks_block, tracks_hole}
use Rattle.fv_walk.proofs.stops.step_to_data.Goals as goal

pub overflow_cast-vvbn : goal.overflow_cast-vvbn
overflow_cast-vvbn g c = let less = c.requires.range c.if-visit-eq0.false in let small = c.requires.ready.small in omega (arith, less, small)

pub get-requires : goal.get-requires
get-requires g c = let less = c.requires.range c.if-visit-eq0.false in let bits = c.requires.ready.bits in omega (arith, less, bits)

pub set-requires : goal.set-requires
set-requires g c = let less = c.requires.range c.if-visit-eq0.false in let bits = c.requires.ready.bits in omega (arith, less, bits)

pub returns-then-visit-eq0-clause-tracks : goal.returns-then-visit-eq0-clause-tracks
returns-then-visit-eq0-clause-tracks g c = λ fits of of_inodes before done tracks.
    let volume : Ground = g.S.Source.volume c.args.source.now in
    subst (λ (d : List Step). Tracks volume before d c.args.state.now c.args.lines.now) (going_hole volume of_inodes c.args.visit.now done c.if-visit-eq0.true) tracks

pub returns-then-get-clause-tracks : goal.returns-then-get-clause-tracks
returns-then-get-clause-tracks g c = λ fits of of_inodes before done tracks.
    let volume : Ground = g.S.Source.volume c.args.source.now in
    let v : Visit = c.args.visit.now in
    let s : State = c.args.state.now in
    let less = c.requires.range c.if-visit-eq0.false in
    let low : v.pointer.vvbn < volume.span = let same = of.span in omega (arith, same, less) in
    let has : is_member s.reach v.pointer.vvbn ≡ true = sym c.get.ensures ∙ c.if-get.true in
    let before_it : has_reached done v.pointer.vvbn ≡ true = sym (tracks.reach v.pointer.vvbn low) ∙ has in
    subst (λ (d : List Step). Tracks volume before d s c.note_reach.new.lines)
    (going_ends volume of_inodes v done c.if-visit-eq0.false
    (ends_with volume (item_of v) v.block done (line 5 v.block 1 2 ∷ []) (again_lines volume (item_of v) v.block done before_it) (λ same. cc)))
    (tracks_again volume (item_of v) v.block done before s s c.args.lines.now c.note_reach.new.lines tracks before_it (λ w _. same_grows s.reach v.pointer.vvbn w has) c.in_ok-note_reach.ensures refl)

pub returns-then-is_none-clause-tracks : goal.returns-then-is_none-clause-tracks
returns-then-is_none-clause-tracks g c = λ fits of of_inodes before done tracks.
    let volume : Ground = g.S.Source.volume c.args.source.now in
    let v : Visit = c.args.visit.now in
    let s : State = c.args.state.now in
    let less = c.requires.range c.if-visit-eq0.false in
    let low : v.pointer.vvbn < volume.span = let same = of.span in omega (arith, same, less) in
    let inside : v.pointer.vvbn < length s.reach = let bits = c.requires.ready.bits in omega (arith, bits, less) in
    let hasnt : has_reached done v.pointer.vvbn ≡ false = sym (tracks.reach v.pointer.vvbn low) ∙ sym c.get.ensures ∙ c.if-get.false in
    let nowhere : place_at volume (item_of v) ≡ None = lacks_place volume (item_of v) c.find-at.result (c.find-at.ensures fits) (c.is_none.ensures ∙ ap not c.if-is_none.true) in
    let new : State = record { alloc = s.alloc; limits = s.limits; reach = c.set.new.self; names = s.names } in
    subst (λ (d : List Step). Tracks volume before d new c.note_reach-then-is_none.new.lines)
    (going_ends volume of_inodes v done c.if-visit-eq0.false
    (ends_with volume (item_of v) v.block done (line 5 v.block 1 0 ∷ []) (hole_lines volume (item_of v) v.block done hasnt nowhere) (λ same. cc)))
    (tracks_hole volume (item_of v) v.block done before s new c.args.lines.now c.note_reach-then-is_none.new.lines tracks hasnt nowhere
    (λ w _. ap (λ (r : List Bool). is_member r w) c.set.ensures ∙ set_grows s.reach v.pointer.vvbn w inside) c.in_ok-note_reach-2.ensures refl)

pub returns-clause-tracks : goal.returns-clause-tracks
returns-clause-tracks g c = λ fits of of_inodes before done tracks.
    let volume : Ground = g.S.Source.volume c.args.source.now in
    let v : Visit = c.args.visit.now in
    let s : State = c.args.state.now in
    let less = c.requires.range c.if-visit-eq0.false in
    let low : v.pointer.vvbn < volume.span = let same = of.span in omega (arith, same, less) in
    let inside : v.pointer.vvbn < length s.reach = let bits = c.requires.ready.bits in omega (arith, bits, less) in
    let hasnt : has_reached done v.pointer.vvbn ≡ false = sym (tracks.reach v.pointer.vvbn low) ∙ sym c.get.ensures ∙ c.if-get.false in
    let there = has_place volume (item_of v) c.find-at.result (c.find-at.ensures fits) (c.is_none.ensures ∙ ap not c.if-is_none.false) in
    let new : State = record { alloc = s.alloc; limits = s.limits; reach = c.set.new.self; names = s.names } in
    let met : List (ℕ × InodeRecord) = flat_map met_in done in
    let quiet = c.requires.data in
    subst (λ (d : List Step). Tracks volume before d new c.args.lines.now)
    (going_data volume of_inodes v done c.if-visit-eq0.false (data_steps volume v done there.0 quiet hasnt there.1))
    (tracks_block volume (item_of v) v.block done before s new c.args.lines.now c.args.lines.now tracks there.0 hasnt there.1
    (λ w _. ap (λ (r : List Bool). is_member r w) c.set.ensures ∙ set_grows s.reach v.pointer.vvbn w inside)
    (subst (λ (ls : List Fault). Adds ls c.args.lines.now c.args.lines.now) (sym (no_lines v there.0 quiet volume.view.blocks volume.span met)) (adds_none c.args.lines.now c.args.lines.now refl))
    (subst (λ (fs : List (ℕ × InodeRecord)). IsNames (met ++ fs) s.names) (sym (no_files v there.0 quiet)) (nothing_names met s.names tracks.names)))
