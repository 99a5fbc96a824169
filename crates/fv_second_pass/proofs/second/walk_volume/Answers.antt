use Rattle.std.proofs.Common.{rules, ◌≡◌, get_or, subst}
use Rattle.std.specs.Prelude.{IfOk, OnOk}
use Rattle.fv_image.specs.Views.{head_of}
use Rattle.fv_image.specs.Seen.{roots_of}
use Rattle.fv_root.specs.Finding.{root_found}
use Rattle.fv_faults.specs.Adding.{Adds}
use Rattle.fv_second_pass.specs.Told.{ground_at}
use Rattle.fv_second_pass.specs.Reaching.{AreReached, root_lines}
use Rattle.fv_second_pass.proofs.Volumes.{label_within, limits_are, volume_is}
use Rattle.fv_second_pass.proofs.second.walk_volume.Goals as goal

pub returns-clause-adds : goal.returns-clause-adds
returns-clause-adds g c = λ tells is.
    let t = root_found c.args.root.now in
    let disk = g.D.Disk.shown c.args.disk.now in
    let place : c.from-at.result ≡ get_or c.args.root.now.root.labels c.args.slot 0 = search rules in
    subst (λ at. OnOk c.note_roots.result (Adds (root_lines (ground_at t disk.reads c.args.slot c.args.label.now.span) at (roots_of (head_of c.args.label.now))) c.args.lines.now c.note_roots.new.lines)) place
    (c.note_roots.ensures.lines
    (volume_is t disk c.args.known.now c.args.slot c.args.label.now c.requires.slot tells c.requires.known is)
    (limits_are t disk.reads c.args.slot c.args.label.now.span c.limits_of-limits.result c.limits_of-limits.ensures.blocks c.limits_of-limits.ensures.span)
    (label_within t disk c.args.known.now c.args.slot c.args.label.now c.requires.slot (g.met.D.Disk.laws c.args.disk.now) c.requires.root.size tells is c.limits_of-limits.result.span c.limits_of-limits.ensures.span))

pub returns-clause-reach : goal.returns-clause-reach
returns-clause-reach g c = λ tells is.
    let t = root_found c.args.root.now in
    let disk = g.D.Disk.shown c.args.disk.now in
    let place : c.from-at.result ≡ get_or c.args.root.now.root.labels c.args.slot 0 = search rules in
    subst (λ at. IfOk c.note_roots.result (λ maps. AreReached (ground_at t disk.reads c.args.slot c.args.label.now.span) at (roots_of (head_of c.args.label.now)) maps.items)) place
    (c.note_roots.ensures.reach
    (volume_is t disk c.args.known.now c.args.slot c.args.label.now c.requires.slot tells c.requires.known is)
    (limits_are t disk.reads c.args.slot c.args.label.now.span c.limits_of-limits.result c.limits_of-limits.ensures.blocks c.limits_of-limits.ensures.span)
    (label_within t disk c.args.known.now c.args.slot c.args.label.now c.requires.slot (g.met.D.Disk.laws c.args.disk.now) c.requires.root.size tells is c.limits_of-limits.result.span c.limits_of-limits.ensures.span))
