use Rattle.std.proofs.Common.{rules, ◌≡◌, ◌<◌, ◌≤◌, ◌++◌, Err, length, refl, sym, subst, ◌∙◌, arith}
use Rattle.std.specs.Prelude.{IfErr, Result}
use Rattle.fv_disk.specs.declared.fault.BlockFault.{BlockFault}
use Rattle.fv_copies.specs.Copying.{IsUndamaged}
use Rattle.fv_copies.proofs.Leaving.{leaves_none, leaves_then, still_tells, whole_still}
use Rattle.fv_copies.proofs.Numbers.{copied_as, copied_none, copied_more, copies_room, copies_past, length_more}
use Rattle.fv_copies.proofs.copying.copy_blocks.Goals as goal

pub loop-vvbn-init : goal.loop-vvbn-init
loop-vvbn-init g c = record {
  stands = c.requires.stands;
  lacks = λ v low is. c.requires.lacks v is;
  copied = λ source ts got. copied_none (g.D.Disk.shown c.args.disk.now) c.args.pool.now c.args.source.now.slot c.args.map.now _ ts got;
  room = omega arith;
  leaves = leaves_none g.S.Sink.quiet (g.D.Disk.shown c.args.disk.now) c.args.pool.now (g.met.D.Disk.laws c.args.disk.now);
  goes = g.met.S.Sink.goes_reads c.args.sink.now c.args.pool.now c.args.pool.now (record { map = refl; containers = refl; kept = refl; found = refl; version = refl });
  faults = refl;
  write_faults = refl;
}

pub loop-vvbn-preserved : goal.loop-vvbn-preserved
loop-vvbn-preserved g c =
    let leaves = c.loop-vvbn.invariant.leaves in
    record {
      stands = c.copy_member.ensures.stands;
      lacks = λ v low is. c.copy_member.ensures.lacks v (λ same. omega (arith, low, same)) (c.loop-vvbn.invariant.lacks v (omega (arith, low)) is);
      copied = λ source ts got. copied_more g.S.Sink.quiet (g.D.Disk.shown c.args.disk.now) c.args.pool.now c.args.source.now.slot c.args.map.now source
          (g.D.Disk.shown c.loop-vvbn.disk) c.loop-vvbn.pool leaves c.loop-vvbn.vvbn _ _ ts (c.loop-vvbn.invariant.copied source ts got)
          (λ us had. c.in_ok-copy_member.ensures.copied (still_tells g.S.Sink.quiet (g.D.Disk.shown c.args.disk.now) c.args.pool.now c.args.source.now.slot c.args.map.now source (g.D.Disk.shown c.loop-vvbn.disk) c.loop-vvbn.pool leaves) us had);
      room = let more = length_more c.args.map.now c.loop-vvbn.vvbn in omega (arith, more, c.loop-vvbn.invariant.room, c.in_ok-copy_member.ensures.room);
      leaves = leaves_then g.S.Sink.quiet _ _ _ _ _ _ leaves c.copy_member.ensures.leaves;
      goes = g.met.S.Sink.goes_on _ _ _ _ _ _ c.loop-vvbn.invariant.goes c.copy_member.ensures.goes;
      faults = c.in_ok-copy_member.ensures.cause ∙ c.loop-vvbn.invariant.faults;
      write_faults = c.in_ok-copy_member.ensures.write_cause ∙ c.loop-vvbn.invariant.write_faults;
    }

pub copy_member-requires-clause-lacks : goal.copy_member-requires-clause-lacks
copy_member-requires-clause-lacks g c = λ is. c.loop-vvbn.invariant.lacks c.loop-vvbn.vvbn (omega arith) is

pub returns-in_err-copy_member-clause-enough : goal.returns-in_err-copy_member-clause-enough
returns-in_err-copy_member-clause-enough g c = λ source whole ts got room.
    let leaves = c.loop-vvbn.invariant.leaves in
    let tells = still_tells g.S.Sink.quiet (g.D.Disk.shown c.args.disk.now) c.args.pool.now c.args.source.now.slot c.args.map.now source (g.D.Disk.shown c.loop-vvbn.disk) c.loop-vvbn.pool leaves in
    let still = whole_still g.S.Sink.quiet (g.D.Disk.shown c.args.disk.now) c.args.pool.now c.args.source.now.slot c.args.map.now source (g.D.Disk.shown c.loop-vvbn.disk) c.loop-vvbn.pool leaves whole in
    let low : c.loop-vvbn.vvbn < length c.args.map.now = omega (arith, c.loop-vvbn-test.true, c.len-vvbn-end.ensures) in
    let fits = copies_room c.args.map.now c.loop-vvbn.vvbn low in
    let was = c.loop-vvbn.invariant.copied source ts got in
    let failed : c.from_residual.result ≡ Err c.in_err-copy_member.field-0.0 = search rules in
    subst (λ (r : Result Unit BlockFault). IfErr r IsUndamaged) (sym failed)
    (c.in_err-copy_member.ensures.enough tells still (ts ++ was.copies) was.taken (omega (arith, fits, room, c.loop-vvbn.invariant.room)))

pub returns-in_err-copy_member-clause-leaves : goal.returns-in_err-copy_member-clause-leaves
returns-in_err-copy_member-clause-leaves g c = leaves_then g.S.Sink.quiet _ _ _ _ _ _ c.loop-vvbn.invariant.leaves c.copy_member.ensures.leaves

pub returns-in_err-copy_member-clause-goes : goal.returns-in_err-copy_member-clause-goes
returns-in_err-copy_member-clause-goes g c = g.met.S.Sink.goes_on _ _ _ _ _ _ c.loop-vvbn.invariant.goes c.copy_member.ensures.goes

pub returns-clause-copied : goal.returns-clause-copied
returns-clause-copied g c = λ source ts got.
    let past : length c.args.map.now ≤ c.loop-vvbn.vvbn = omega (arith, c.loop-vvbn-test.false, c.len-vvbn-end.ensures) in
    copied_as (g.D.Disk.shown c.args.disk.now) c.args.pool.now c.args.source.now.slot _ _ _ ts (copies_past c.args.map.now c.loop-vvbn.vvbn past) (c.loop-vvbn.invariant.copied source ts got)
