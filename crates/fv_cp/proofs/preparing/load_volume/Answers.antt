use Rattle.std.proofs.Common.{◌≡◌, ◌∙◌, ◌≤◌, ◌<◌, ◌*◌, ◌/◌, ℕ, Bool, false, length, sym, subst, arith}
use Rattle.std.specs.Prelude.{replicate}
use Rattle.std.proofs.lemmas.List.{length-replicate}
use Rattle.fv_image.specs.Containers.{level_width}
use Rattle.fv_container.specs.Mapped.{Mapped}
use Rattle.fv_volumes.proofs.Staying.{only_itself}
use Rattle.fv_disk.proofs.Resting.{reads_then}
use Rattle.fv_cp.proofs.Prepared.{always, bad_before, cause_then, keeps_itself, keeps_then, mark_within, none_set, on_ok, taken_here}
use Rattle.fv_cp.proofs.preparing.load_volume.Goals as goal

pub returns-then-not-is_changed-clause-kept : goal.returns-then-not-is_changed-clause-kept
returns-then-not-is_changed-clause-kept g c = keeps_itself (g.D.Disk.shown c.args.disk.now) c.args.container.now

pub returns-then-not-is_changed-clause-only_reads : goal.returns-then-not-is_changed-clause-only_reads
returns-then-not-is_changed-clause-only_reads g c = only_itself (g.D.Disk.shown c.args.disk.now)

pub mark_due-requires-clause-long : goal.mark_due-requires-clause-long
mark_due-requires-clause-long g c =
    let long : length (replicate 4100 false) ≡ 4100 = length-replicate {A = Bool} 4100 false in
    omega (arith, long, c.requires.entries, c.requires.state.span)

pub mark_maps-requires-clause-long : goal.mark_maps-requires-clause-long
mark_maps-requires-clause-long g c =
    let long : length (replicate 4100 false) ≡ 4100 = length-replicate {A = Bool} 4100 false in
    let same : length c.mark_due.new.regions ≡ length (replicate 4100 false) = c.in_ok-mark_due.ensures.long in
    omega (arith, long, same, c.requires.state.span)

-- no mark is set behind the regions of the container
pub load_all-requires-clause-within : goal.load_all-requires-clause-within
load_all-requires-clause-within g c = λ k on. subst (λ (m : Mapped). 256 * k < length m.entries) (sym c.in_ok-mark_due.ensures.kept.map) (mark_within (length c.args.container.now.map.entries) c.mark_maps.new.plan (λ j past.
    c.mark_maps.ensures.others j (subst (λ (n : ℕ). level_width n 0 ≤ j) c.requires.entries past) ∙ (c.in_ok-mark_due.ensures.others j past ∙ none_set 4100 j)) k on)

pub load_all-requires-clause-few : goal.load_all-requires-clause-few
load_all-requires-clause-few g c =
    let long : length (replicate 4100 false) ≡ 4100 = length-replicate {A = Bool} 4100 false in
    let same : length c.mark_due.new.regions ≡ length (replicate 4100 false) = c.in_ok-mark_due.ensures.long in
    omega (arith, long, same, c.mark_maps.ensures.long)

pub returns-clause-kept : goal.returns-clause-kept
returns-clause-kept g c = keeps_then (g.D.Disk.shown c.args.disk.now) (g.D.Disk.shown c.mark_due.new.disk) c.args.container.now c.mark_due.new.container c.load_all.new.self c.in_ok-mark_due.ensures.only_reads c.in_ok-mark_due.ensures.kept c.load_all.ensures.kept

pub returns-clause-known : goal.returns-clause-known
returns-clause-known g c = always c.load_all.result (λ due k inside. c.load_all.ensures.kept.known k (c.in_ok-mark_due.ensures.known due k (subst (λ (m : Mapped). 256 * k < length m.entries) c.load_all.ensures.kept.map inside)))

pub returns-clause-taken : goal.returns-clause-taken
returns-clause-taken g c = λ tells clean.
    let did = c.in_ok-mark_due.ensures in
    on_ok c.load_all.result (λ loaded due. taken_here c.args.start c.args.state.now.map c.mark_due.new.container c.load_all.new.self c.mark_due.new.regions c.mark_maps.new.plan c.load_all.ensures.kept.map
    (did.marked due (λ k inside. (did.kept.clean tells clean).known k (did.known due k inside))) c.mark_maps.ensures.kept loaded) c.load_all.ensures.loaded

pub returns-clause-maps : goal.returns-clause-maps
returns-clause-maps g c = on_ok c.load_all.result (λ loaded so v written. loaded (v / 256) (c.mark_maps.ensures.marked v written)) c.load_all.ensures.loaded

pub returns-clause-fault : goal.returns-clause-fault
returns-clause-fault g c = bad_before (g.D.Disk.shown c.args.disk.now) (g.D.Disk.shown c.mark_due.new.disk) c.args.container.now c.mark_due.new.container c.in_ok-mark_due.ensures.only_reads c.in_ok-mark_due.ensures.kept.map c.load_all.result c.load_all.ensures.fault

pub returns-clause-only_reads : goal.returns-clause-only_reads
returns-clause-only_reads g c = reads_then (g.D.Disk.shown c.args.disk.now) (g.D.Disk.shown c.mark_due.new.disk) (g.D.Disk.shown c.load_all.new.disk) c.in_ok-mark_due.ensures.only_reads c.load_all.ensures.only_reads

pub returns-clause-cause : goal.returns-clause-cause
returns-clause-cause g c = cause_then _ _ _ c.load_all.result c.in_ok-mark_due.ensures.cause c.load_all.ensures.cause
