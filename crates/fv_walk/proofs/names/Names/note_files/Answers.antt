use Rattle.std.proofs.Common.{◌++◌, ◌+◌, true, List, sym, subst, take, arith}
use Rattle.std.proofs.lemmas.List.{take_all}
use Rattle.fv_codec.specs.declared.inode.InodeRecord.{InodeRecord}
use Rattle.fv_faults.specs.Walks.{name_lines, used_from}
use Rattle.fv_walk.specs.Naming.{IsNames}
use Rattle.fv_walk.specs.Noting.{AddsAll}
use Rattle.fv_walk.proofs.Naming.{nothing_says, nothing_names, none_used, more_says, more_names}
use Rattle.fv_walk.proofs.names.Names.note_files.Goals as goal

pub loop-slot-init : goal.loop-slot-init
loop-slot-init c = record {
  long = c.told-files;
  lines = λ met is. subst (λ fs. AddsAll (name_lines c.args.block met fs) c.args.lines.now c.args.lines.now true) (sym (none_used c.args.first)) (nothing_says c.args.block met c.args.lines.now);
  names = λ met is. subst (λ fs. IsNames (met ++ fs) c.args.self.now) (sym (none_used c.args.first)) (nothing_names met c.args.self.now is);
}

pub loop-slot-preserved : goal.loop-slot-preserved
loop-slot-preserved c =
    let slot = c.loop-slot.slot in
    let files = c.args.files.now in
    record {
      long = c.loop-slot.invariant.long;
      lines = λ met is.
          subst (AddsAll (name_lines c.args.block met (used_from c.args.first (take (slot + 1) files))) c.args.lines.now c.note_record.new.lines) (sym c.both-clean.ensures)
          (more_says c.args.block met c.args.first slot _ files (let long = c.loop-slot.invariant.long in omega (arith, long, c.loop-slot-test.true)) c.args.lines.now c.loop-slot.lines c.note_record.new.lines
          c.loop-slot.clean c.in_ok-noted.noted (c.loop-slot.invariant.lines met is)
          (c.in_ok-noted.ensures.lines (met ++ used_from c.args.first (take slot files)) (c.loop-slot.invariant.names met is)));
      names = λ met is.
          more_names c.args.block met c.args.first slot _ files (let long = c.loop-slot.invariant.long in omega (arith, long, c.loop-slot-test.true)) c.note_record.new.self
          (c.in_ok-noted.ensures.names (met ++ used_from c.args.first (take slot files)) (c.loop-slot.invariant.names met is));
    }

pub returns-clause-lines : goal.returns-clause-lines
returns-clause-lines c = λ met is.
    subst (λ (rs : List InodeRecord). AddsAll (name_lines c.args.block met (used_from c.args.first rs)) c.args.lines.now c.loop-slot.lines c.loop-slot.clean)
    (take_all c.loop-slot.slot c.args.files.now (let long = c.loop-slot.invariant.long in omega (arith, long, c.loop-slot-test.false))) (c.loop-slot.invariant.lines met is)
