use native.Mathlib.Omega.{arith}
use Rattle.std.proofs.Common.{rules, ◌≡◌, ◌∙◌, Option, Some, None, Ok, true, refl, sym, subst}
use Rattle.fv_files.specs.declared.files.Files.{Files}
use Rattle.fv_volume.specs.declared.state.VolumeState.{VolumeState}
use Rattle.fv_pool.specs.Causes.{IsNoDamage}
use Rattle.fv_pool.specs.Lending.{lent_for, no_damage, sees}
use Rattle.fv_pool.specs.LendingLaws.{goes_itself}
use Rattle.fv_volume.specs.OneVolume.{home_in, IsStanding}
use Rattle.fv_pool.specs.Placing.{FlushFails}
use Rattle.fv_volume.specs.Placing.{PlacesVolume, TellsSound}
use Rattle.fv_volume.proofs.OneVolumes.{root_fits}
use Rattle.fv_pool.proofs.PlaceCauses.{fault_cause, no_damage_in, place_narrow}
use Rattle.fv_volume.proofs.Placed.{done_led, done_standing, done_volume, done_well, failed_led, failed_standing, failed_volume, failed_well, few_rooted, fits_done, fits_failed, fits_rooted, pending_held, ready_placed, sound_told, was_told}
use Rattle.fv_volume.proofs.PlacedShared.{was_laid}
use Rattle.fv_volume.proofs.state.VolumeState.flush.Goals as goal

pub returns-in_default-clause-goes : goal.returns-in_default-clause-goes
returns-in_default-clause-goes g c =
    record { steps = 0; goes = record { strays = 0; noted = no_damage; goes = goes_itself (lent_for c.args.pool.now c.args.self.now.map (g.D.Disk.shown c.args.disk.now) 0 (home_in c.args.self.now) c.args.room.now) } }

pub returns-in-Ok-clause-ready : goal.returns-in-Ok-clause-ready
returns-in-Ok-clause-ready g c =
    let d = g.D.Disk.shown c.args.disk.now in
    let now = c.place_table.new in
    let e = g.D.Disk.shown now.disk in
    let after = sees now.pool now.map e (home_in c.args.self.now) in
    ready_placed d e c.args.pool.now now.pool c.args.self.now c.rooted-self.result now.map c.take.new.self c.args.room.now now.room c.requires.ready
    (few_rooted after now.files c.in-Ok.root c.rooted-self.result c.take.new.self c.rooted-self.ensures c.take.ensures.after)
    (fits_rooted after now.files c.in-Ok.root c.rooted-self.result c.take.new.self c.rooted-self.ensures c.take.ensures.after c.in-Ok.ensures.table.pointer)
    c.place_table.ensures.goes c.place_table.ensures.stands

pub returns-in-Err-clause-ready : goal.returns-in-Err-clause-ready
returns-in-Err-clause-ready g c =
    let d = g.D.Disk.shown c.args.disk.now in
    let x = c.args.self.now in
    let now = c.place_table.new in
    ready_placed d (g.D.Disk.shown now.disk) c.args.pool.now now.pool x x.active now.map (Some now.files) c.args.room.now now.room c.requires.ready
    c.requires.ready.labelled.levels (root_fits d c.args.pool.now x c.requires.ready) c.place_table.ensures.goes c.place_table.ensures.stands

pub returns-in_default-clause-places : goal.returns-in_default-clause-places
returns-in_default-clause-places g c = λ is.
    let d = g.D.Disk.shown c.args.disk.now in let p = c.args.pool.now in let x = c.args.self.now in
    let room = c.args.room.now in
    let none : x.files ≡ None = search rules in
    subst (λ (o : Option Files). PlacesVolume d p x room d p (record x { files = o }) room (Ok tt)) (none ∙ sym c.take.ensures.after) (record {
      standing = is;
      volume = refl;
      led = λ led. led;
      well = λ led well. well;
      fits = (omega arith, omega arith);
      enough = λ enough. tt;
    })

pub returns-in-Ok-clause-places : goal.returns-in-Ok-clause-places
returns-in-Ok-clause-places g c = λ is.
    let d = g.D.Disk.shown c.args.disk.now in let p = c.args.pool.now in let x = c.args.self.now in
    let files = c.in-Some.files in let held : x.files ≡ Some files = search rules in
    let goes = c.place_table.ensures.goes in let now = c.place_table.new in let e = g.D.Disk.shown now.disk in let after = c.take.ensures.after in
    let table = c.in-Ok.ensures.table in
    let rooted = c.rooted-self.ensures in
    let y : VolumeState = record x { active = c.rooted-self.result; map = now.map; files = c.take.new.self; changed = true } in
    let stands : IsStanding e now.pool y =
    done_standing d e p now.pool x files held now.map c.args.room.now now.room goes now.files c.in-Ok.root c.rooted-self.result c.take.new.self rooted after table is c.place_table.ensures.told in
    record {
      standing = stands;
      volume = done_volume d e p now.pool x files held now.map c.args.room.now now.room goes now.files c.in-Ok.root c.rooted-self.result c.take.new.self rooted after table is;
      led = done_led d e p now.pool x files held now.map c.args.room.now now.room goes now.files c.in-Ok.root c.rooted-self.result c.take.new.self rooted after table is;
      well = done_well d e p now.pool x files held now.map c.args.room.now now.room goes now.files c.in-Ok.root c.rooted-self.result c.take.new.self rooted after table is;
      fits = fits_done x.files c.take.new.self files now.files held after c.args.room.now now.room (c.in-Ok.ensures.room.fits (was_told d p x files held is)) c.in-Ok.ensures.room.nothing;
      enough = λ enough. tt;
    }

pub returns-in-Err-clause-places : goal.returns-in-Err-clause-places
returns-in-Err-clause-places g c = λ is.
    let d = g.D.Disk.shown c.args.disk.now in let p = c.args.pool.now in let x = c.args.self.now in
    let files = c.in-Some.files in let held : x.files ≡ Some files = search rules in
    let goes = c.place_table.ensures.goes in let now = c.place_table.new in let e = g.D.Disk.shown now.disk in let fault = c.in-Err.fault in
    let table = c.in-Err.ensures.table in
    let told = was_told d p x files held in
    record {
      standing = failed_standing d e p now.pool x files held now.map c.args.room.now now.room goes now.files fault table is c.place_table.ensures.told;
      volume = failed_volume d e p now.pool x files held now.map c.args.room.now now.room goes now.files fault table is;
      led = failed_led d e p now.pool x files held now.map c.args.room.now now.room goes now.files fault table is;
      well = failed_well d e p now.pool x files held now.map c.args.room.now now.room goes now.files fault table is;
      fits = fits_failed x.files files now.files held c.args.room.now now.room (c.in-Err.ensures.room.fits (told is));
      enough = λ enough. subst IsNoDamage (sym c.into.ensures) (no_damage_in fault (c.in-Err.ensures.room.enough (told is) (pending_held x.files files held c.args.room.now enough)));
    }

pub returns-in-Err-clause-cause : goal.returns-in-Err-clause-cause
returns-in-Err-clause-cause g c =
    let d = g.D.Disk.shown c.args.disk.now in let p = c.args.pool.now in let x = c.args.self.now in
    let files = c.in-Some.files in let held : x.files ≡ Some files = search rules in
    let room = c.place_table.new.room in
    let faults = (g.D.Disk.shown c.place_table.new.disk).faults in
    let old = lent_for p x.map d 0 (home_in x) c.args.room.now in
    subst (FlushFails (TellsSound d p x) old faults room) (sym c.into.ensures)
    (fault_cause (TellsSound d p x) old faults room c.in-Err.fault (place_narrow (TellsSound d p x) _ (sound_told d p x files held) old faults room c.in-Err.fault c.in-Err.ensures.cause))

pub returns-in-Err-clause-enough : goal.returns-in-Err-clause-enough
returns-in-Err-clause-enough g c = λ told enough.
    let d = g.D.Disk.shown c.args.disk.now in let p = c.args.pool.now in let x = c.args.self.now in
    let files = c.in-Some.files in let held : x.files ≡ Some files = search rules in
    subst IsNoDamage (sym c.into.ensures) (no_damage_in c.in-Err.fault (c.in-Err.ensures.room.enough (sound_told d p x files held told) (pending_held x.files files held c.args.room.now enough)))

pub returns-in_default-clause-unused : goal.returns-in_default-clause-unused
returns-in_default-clause-unused g c = λ is v none. refl

pub returns-in-Ok-clause-unused : goal.returns-in-Ok-clause-unused
returns-in-Ok-clause-unused g c = λ is.
    let d = g.D.Disk.shown c.args.disk.now in let p = c.args.pool.now in let x = c.args.self.now in
    let files = c.in-Some.files in let held : x.files ≡ Some files = search rules in
    c.place_table.ensures.unused (was_told d p x files held is) (was_laid d p x files held is)

pub returns-in-Err-clause-unused : goal.returns-in-Err-clause-unused
returns-in-Err-clause-unused g c = λ is.
    let d = g.D.Disk.shown c.args.disk.now in let p = c.args.pool.now in let x = c.args.self.now in
    let files = c.in-Some.files in let held : x.files ≡ Some files = search rules in
    c.place_table.ensures.unused (was_told d p x files held is) (was_laid d p x files held is)
