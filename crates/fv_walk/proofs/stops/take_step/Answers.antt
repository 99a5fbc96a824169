use Rattle.std.proofs.Common.{◌≡◌, ◌<◌, ◌++◌, ◌∷◌, [], ℕ, Bool, true, false, List, length, refl, sym, ap, subst, ◌∙◌, arith}
use Rattle.std.specs.Prelude.{Vec, flat_map}
use Rattle.std.specs.Option.{option_map}
use Rattle.std.specs.declared.alloc.Global.{Global}
use Rattle.fv_bits.specs.Members.{is_member}
use Rattle.fv_faults.specs.declared.fault.Fault.{Fault}
use Rattle.fv_faults.specs.Lines.{line}
use Rattle.fv_faults.specs.Adding.{Adds}
use Rattle.fv_codec.specs.declared.inode.InodeRecord.{InodeRecord}
use Rattle.fv_faults.specs.Walks.{Ground, met_in}
use Rattle.fv_walk.specs.declared.state.State.{State}
use Rattle.fv_walk.specs.declared.visit.Visit.{Visit}
use Rattle.fv_walk.specs.Visits.{item_of}
use Rattle.fv_walk.specs.Blocks.{files_in}
use Rattle.fv_walk.specs.Naming.{IsNames}
use Rattle.fv_walk.proofs.Seeing.{found_there, found_nowhere}
use Rattle.fv_walk.proofs.Blocks.{block_of, same_files}
use Rattle.fv_walk.proofs.Stepping.{steps_of}
use Rattle.fv_walk.proofs.Steps.{again_lines, hole_lines, ends_with, tracks_again, tracks_hole, tracks_block, same_grows, set_grows}
use Rattle.fv_walk.proofs.stops.take_step.Goals as goal

pub overflow_cast-vvbn : goal.overflow_cast-vvbn
overflow_cast-vvbn g c = let less = c.requires.range in let small = c.requires.ready.small in omega (arith, less, small)

pub returns-then-get-clause-tracks : goal.returns-then-get-clause-tracks
returns-then-get-clause-tracks g c = λ fits of ahead before done t.
    let volume : Ground = g.S.Source.volume c.args.source.now in
    let v : Visit = c.args.visit.now in
    let s : State = c.args.state.now in
    let low : v.pointer.vvbn < volume.span = let same = of.span in let less = c.requires.range in omega (arith, same, less) in
    let has : is_member s.reach v.pointer.vvbn ≡ true = sym c.get.ensures ∙ c.if-get.true in
    tracks_again volume (item_of v) v.block done before s s c.args.lines.now c.note_reach.new.lines t (sym (t.reach v.pointer.vvbn low) ∙ has) (λ w _. same_grows s.reach v.pointer.vvbn w has) c.in_ok-note_reach.ensures refl

pub returns-then-get-clause-steps_to : goal.returns-then-get-clause-steps_to
returns-then-get-clause-steps_to g c = λ fits of ahead before done t.
    let volume : Ground = g.S.Source.volume c.args.source.now in
    let v : Visit = c.args.visit.now in
    let low : v.pointer.vvbn < volume.span = let same = of.span in let less = c.requires.range in omega (arith, same, less) in
    let has : is_member c.args.state.now.reach v.pointer.vvbn ≡ true = sym c.get.ensures ∙ c.if-get.true in
    ends_with volume (item_of v) v.block done (line 5 v.block 1 2 ∷ []) (again_lines volume (item_of v) v.block done (sym (t.reach v.pointer.vvbn low) ∙ has)) (λ same. cc)

pub returns-in_default-clause-tracks : goal.returns-in_default-clause-tracks
returns-in_default-clause-tracks g c = λ fits of ahead before done t.
    let volume : Ground = g.S.Source.volume c.args.source.now in
    let v : Visit = c.args.visit.now in
    let s : State = c.args.state.now in
    let low : v.pointer.vvbn < volume.span = let same = of.span in let less = c.requires.range in omega (arith, same, less) in
    let inside : v.pointer.vvbn < length s.reach = let bits = c.requires.ready.bits in let less = c.requires.range in omega (arith, bits, less) in
    let hasnt : is_member s.reach v.pointer.vvbn ≡ false = sym c.get.ensures ∙ c.if-get.false in
    let new : State = record { alloc = s.alloc; limits = s.limits; reach = c.set.new.self; names = s.names } in
    tracks_hole volume (item_of v) v.block done before s new c.args.lines.now c.note_reach-in_default.new.lines t (sym (t.reach v.pointer.vvbn low) ∙ hasnt)
    (found_nowhere volume (item_of v) (sym c.in_default.is ∙ c.find.ensures fits))
    (λ w _. ap (λ (r : List Bool). is_member r w) c.set.ensures ∙ set_grows s.reach v.pointer.vvbn w inside) c.in_ok-note_reach-2.ensures refl

pub returns-in_default-clause-steps_to : goal.returns-in_default-clause-steps_to
returns-in_default-clause-steps_to g c = λ fits of ahead before done t.
    let volume : Ground = g.S.Source.volume c.args.source.now in
    let v : Visit = c.args.visit.now in
    let low : v.pointer.vvbn < volume.span = let same = of.span in let less = c.requires.range in omega (arith, same, less) in
    let hasnt : is_member c.args.state.now.reach v.pointer.vvbn ≡ false = sym c.get.ensures ∙ c.if-get.false in
    ends_with volume (item_of v) v.block done (line 5 v.block 1 0 ∷ [])
    (hole_lines volume (item_of v) v.block done (sym (t.reach v.pointer.vvbn low) ∙ hasnt) (found_nowhere volume (item_of v) (sym c.in_default.is ∙ c.find.ensures fits))) (λ same. cc)

pub returns-clause-tracks : goal.returns-clause-tracks
returns-clause-tracks g c = λ fits of ahead before done t.
    let volume : Ground = g.S.Source.volume c.args.source.now in
    let v : Visit = c.args.visit.now in
    let s : State = c.args.state.now in
    let low : v.pointer.vvbn < volume.span = let same = of.span in let less = c.requires.range in omega (arith, same, less) in
    let inside : v.pointer.vvbn < length s.reach = let bits = c.requires.ready.bits in let less = c.requires.range in omega (arith, bits, less) in
    let hasnt : is_member s.reach v.pointer.vvbn ≡ false = sym c.get.ensures ∙ c.if-get.false in
    let new : State = record { alloc = s.alloc; limits = s.limits; reach = c.set.new.self; names = c.note_block.new.names } in
    let there = found_there volume (item_of v) c.in-Some.found (sym c.in-Some.is ∙ c.find.ensures fits) in
    let met : List (ℕ × InodeRecord) = flat_map met_in done in
    let body : c.in_ok-looked.looked.body ≡ there.x.block = c.in_ok-looked.ensures.looked fits there.x there.is there.found (ahead there.x there.is) in
    tracks_block volume (item_of v) v.block done before s new c.args.lines.now c.note_block.new.lines t there.x (sym (t.reach v.pointer.vvbn low) ∙ hasnt) there.is
    (λ w _. ap (λ (r : List Bool). is_member r w) c.set.ensures ∙ set_grows s.reach v.pointer.vvbn w inside)
    (subst (λ (ls : List Fault). Adds ls c.args.lines.now c.note_block.new.lines)
    (block_of s.limits volume met (item_of v) c.in-Some.found there.x c.in_ok-looked.looked.body of there.found body) (c.in_ok-children.ensures.lines met t.names))
    (subst (λ (fs : List (ℕ × InodeRecord)). IsNames (met ++ fs) c.note_block.new.names) (ap (files_in (item_of v)) body ∙ same_files (item_of v) there.x) (c.in_ok-children.ensures.names met t.names))

pub returns-clause-steps_to : goal.returns-clause-steps_to
returns-clause-steps_to g c = λ fits of ahead before done t.
    let volume : Ground = g.S.Source.volume c.args.source.now in
    let v : Visit = c.args.visit.now in
    let s : State = c.args.state.now in
    let low : v.pointer.vvbn < volume.span = let same = of.span in let less = c.requires.range in omega (arith, same, less) in
    let hasnt : is_member s.reach v.pointer.vvbn ≡ false = sym c.get.ensures ∙ c.if-get.false in
    let there = found_there volume (item_of v) c.in-Some.found (sym c.in-Some.is ∙ c.find.ensures fits) in
    let body : c.in_ok-looked.looked.body ≡ there.x.block = c.in_ok-looked.ensures.looked fits there.x there.is there.found (ahead there.x there.is) in
    steps_of s.limits volume (item_of v) v.block done c.in-Some.found there.x c.in_ok-looked.looked.body of there.found body (sym (t.reach v.pointer.vvbn low) ∙ hasnt) there.is
    (option_map (λ (all : Vec Visit Global). all.items) c.in_ok-children.children) (c.in_ok-children.ensures.outcome (flat_map met_in done) t.names)
