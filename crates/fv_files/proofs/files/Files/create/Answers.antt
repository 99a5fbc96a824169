use Rattle.std.proofs.Common.{refl, inl, arith}
use Rattle.fv_files.proofs.Tables.{alike}
use Rattle.fv_inode.specs.Files.{rooted}
use Rattle.std.specs.Prelude.{None}
use Rattle.fv_files.proofs.Stored.{loaded_said, stamped_said}
use Rattle.fv_files.proofs.Altered.{only_leaves_trees}
use Rattle.fv_files.proofs.Changed.{with_inode}
use Rattle.fv_files.proofs.Looked.{counts_done, counts_failed}
use Rattle.fv_files.proofs.Made.{made_alters, made_laid, made_led, made_table, made_sound, made_stored}
use Rattle.fv_files.proofs.Prepared.{readied_laid, readied_leave, readied_led, readied_stored, readied_told, readied_stands}
use Rattle.fv_files.proofs.Steps.{same_room}
use Rattle.fv_files.proofs.files.Files.create.Goals as goal

pub returns-in-Ok-clause-made : goal.returns-in-Ok-clause-made
returns-in-Ok-clause-made g c = λ told sound.
    let made = c.in-Ok.ensures in
    made_table (g.B.Blocks.shown c.args.blocks.now) (g.B.Blocks.shown c.create.new.blocks) c.args.self.now c.create.new.self c.args.name.now c.args.reserve c.args.stamp c.in-Ok.field-0
    made.loads.looks.untouched.held (made.made told) sound

pub returns-in-Ok-clause-changes : goal.returns-in-Ok-clause-changes
returns-in-Ok-clause-changes g c =
    let loads = c.in-Ok.ensures.loads in
    let looks = loads.looks in
    record {
      failed = λ told. tt;
      untouched = tt;
      stands = λ told asked sound. made_sound (g.B.Blocks.shown c.args.blocks.now) (g.B.Blocks.shown c.create.new.blocks) c.args.self.now c.create.new.self c.args.name.now c.args.reserve c.args.stamp c.in-Ok.field-0
          looks.untouched.held (c.in-Ok.ensures.made told) sound looks.untouched.used loads.owner (loads.stands told (sound.trees None)) (loads.leads told) loads.keeps_ready;
      stored = λ told asked sound known was. made_stored (g.B.Blocks.shown c.args.blocks.now) (g.B.Blocks.shown c.create.new.blocks) c.args.self.now c.create.new.self c.args.name.now c.args.reserve c.args.stamp c.in-Ok.field-0
          looks.untouched.held (c.in-Ok.ensures.made told) sound looks.untouched.used known
          (stamped_said known (g.B.Blocks.shown c.args.blocks.now) (g.B.Blocks.shown c.create.new.blocks) c.args.self.now.inode.tree c.create.new.self.tree loads.owner (sound.trees None) (loads.stands told (sound.trees None)) looks.untouched.held (loads.stored_well told) (loads.tells told)
          c.args.stamp (c.in-Ok.ensures.alters told) (was.trees None)) (loads.leads told) was;
      strays = λ told sound. looks.untouched.strays;
      room = same_room (g.B.Blocks.shown c.args.blocks.now) (g.B.Blocks.shown c.create.new.blocks) looks.untouched;
      counts = counts_done (g.B.Blocks.shown c.args.blocks.now) (g.B.Blocks.shown c.create.new.blocks) c.in-Ok.field-0 tt looks.counts;
      cause = tt;
    }

pub returns-in-Err-clause-changes : goal.returns-in-Err-clause-changes
returns-in-Err-clause-changes g c =
    let f = c.args.self.now in
    let old = g.B.Blocks.shown c.args.blocks.now in
    let new = g.B.Blocks.shown c.create.new.blocks in
    let h = with_inode f c.create.new.self in
    let loads = c.in-Err.ensures.loads in
    let looks = loads.looks in
    record {
      failed = λ told. readied_told old new f h looks.untouched (alike (rooted old f.inode) (rooted new h.inode) (loads.failed told)) (λ k. refl);
      untouched = looks.untouched;
      stands = λ told asked sound. readied_stands old new f h looks.untouched (alike (rooted old f.inode) (rooted new h.inode) (loads.failed told)) (λ k. refl) loads.owner (loads.stands told) (loads.leads told) loads.keeps_ready sound;
      stored = λ told asked sound known was. readied_stored old new f h looks.untouched (alike (rooted old f.inode) (rooted new h.inode) (loads.failed told)) (λ k. refl) known
          (loaded_said known old new f.inode.tree h.inode.tree loads.owner (sound.trees None) (loads.stands told (sound.trees None)) looks.untouched.held (loads.stored_well told) (loads.tells told) (loads.leaves told)) (loads.leads told) sound was;
      strays = λ told sound. looks.untouched.strays;
      room = same_room old new looks.untouched;
      counts = counts_failed old new _ _ looks.counts;
      cause = inl looks.cause;
    }

pub returns-in-Ok-clause-led : goal.returns-in-Ok-clause-led
returns-in-Ok-clause-led g c = λ told sound led.
    let made = c.in-Ok.ensures in
    let looks = made.loads.looks in
    made_led (g.B.Blocks.shown c.args.blocks.now) (g.B.Blocks.shown c.create.new.blocks) c.args.self.now c.create.new.self c.args.name.now c.args.reserve c.args.stamp c.in-Ok.field-0
    looks.untouched.held (made.made told) sound looks.untouched.used (made.loads.leads told) (made.loads.keeps told) led

pub returns-in-Err-clause-led : goal.returns-in-Err-clause-led
returns-in-Err-clause-led g c = λ told sound led.
    let f = c.args.self.now in
    let old = g.B.Blocks.shown c.args.blocks.now in
    let new = g.B.Blocks.shown c.create.new.blocks in
    let h = with_inode f c.create.new.self in
    let loads = c.in-Err.ensures.loads in
    readied_led old new f h loads.looks.untouched (alike (rooted old f.inode) (rooted new h.inode) (loads.failed told)) (λ k. refl) (loads.leads told) (loads.keeps told) sound led

pub returns-in-Ok-clause-pending : goal.returns-in-Ok-clause-pending
returns-in-Ok-clause-pending g c = omega (arith, c.in-Ok.ensures.rises.pending)

pub returns-in-Err-clause-pending : goal.returns-in-Err-clause-pending
returns-in-Err-clause-pending g c = omega (arith, c.in-Err.ensures.rises.pending)

pub returns-in-Ok-clause-alters : goal.returns-in-Ok-clause-alters
returns-in-Ok-clause-alters g c =
    let old = g.B.Blocks.shown c.args.blocks.now in
    let new = g.B.Blocks.shown c.create.new.blocks in
    let is = c.in-Ok.ensures in
    let looks = is.loads.looks in
    record {
      alters = λ told asked sound. made_alters old new c.args.self.now c.create.new.self c.args.name.now c.args.reserve c.args.stamp c.in-Ok.field-0 looks.untouched.held (is.made told) sound looks.untouched.used (is.loads.leads told) (is.alters told);
      leaves = λ told. tt;
      laid = λ told asked sound. made_laid old new c.args.self.now c.create.new.self c.args.name.now c.args.reserve c.args.stamp c.in-Ok.field-0 looks.untouched.held (is.made told) sound looks.untouched.used (is.loads.leads told) (is.alters told);
    }

pub returns-in-Err-clause-alters : goal.returns-in-Err-clause-alters
returns-in-Err-clause-alters g c =
    let f = c.args.self.now in
    let h = with_inode f c.create.new.self in
    let loads = c.in-Err.ensures.loads in
    record {
      alters = λ told asked sound. only_leaves_trees c.args.stamp _ _ (readied_leave _ _ f h loads.looks.untouched (alike _ _ (loads.failed told)) (λ k. refl) (loads.leaves told) (loads.leads told) sound);
      leaves = λ told sound. readied_leave _ _ f h loads.looks.untouched (alike _ _ (loads.failed told)) (λ k. refl) (loads.leaves told) (loads.leads told) sound;
      laid = λ told asked sound. readied_laid _ _ f h loads.looks.untouched (alike _ _ (loads.failed told)) (λ k. refl) (loads.leaves told) (loads.leads told) sound;
    }
