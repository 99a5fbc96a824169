use Rattle.std.proofs.Common.{rules, ◌≡◌, ◌≤◌, ℕ, true, length, sym, subst}
use Rattle.fv_bits.specs.Members.{is_member}
use Rattle.fv_copies.specs.Copying.{Content, content_of, copies_at}
use Rattle.fv_copies.proofs.Leaving.{content_same}
use Rattle.fv_copies.proofs.Numbers.{copied_here, room_here}
use Rattle.fv_copies.proofs.copying.copy_member.Goals as goal

pub returns-clause-copied : goal.returns-clause-copied
returns-clause-copied g c = λ tells ts got.
    let member : is_member c.args.map.now c.args.vvbn ≡ true = search rules in
    let before : g.S.Sink.got c.args.sink.now c.read_blank.new.pool (content_of (g.D.Disk.shown c.read_blank.new.disk)) ts =
    subst (λ (content : Content). g.S.Sink.got c.args.sink.now c.read_blank.new.pool content ts) (sym (content_same (g.D.Disk.shown c.args.disk.now) (g.D.Disk.shown c.read_blank.new.disk) c.read_blank.ensures.only_reads))
    (g.met.S.Sink.got_reads c.args.sink.now c.args.pool.now c.read_blank.new.pool (content_of (g.D.Disk.shown c.args.disk.now)) ts c.read_blank.ensures.leaves got) in
    copied_here (g.D.Disk.shown c.args.disk.now) c.args.pool.now c.args.source.now.slot c.args.map.now (g.S.Sink.got c.take.new.self c.take.new.pool (content_of (g.D.Disk.shown c.take.new.disk))) ts
    (record { vvbn = c.args.vvbn; kind = c.in_ok-kind.kind; block = c.read_blank.new.block }) member (c.in_ok-kind.ensures.copy tells) c.take.result (c.take.ensures.got ts before)

pub returns-clause-enough : goal.returns-clause-enough
returns-clause-enough g c = λ tells whole ts got fits.
    let member : is_member c.args.map.now c.args.vvbn ≡ true = search rules in
    let before : g.S.Sink.got c.args.sink.now c.read_blank.new.pool (content_of (g.D.Disk.shown c.read_blank.new.disk)) ts =
    subst (λ (content : Content). g.S.Sink.got c.args.sink.now c.read_blank.new.pool content ts) (sym (content_same (g.D.Disk.shown c.args.disk.now) (g.D.Disk.shown c.read_blank.new.disk) c.read_blank.ensures.only_reads))
    (g.met.S.Sink.got_reads c.args.sink.now c.args.pool.now c.read_blank.new.pool (content_of (g.D.Disk.shown c.args.disk.now)) ts c.read_blank.ensures.leaves got) in
    let room = g.met.S.Sink.room_reads c.args.sink.now c.args.pool.now c.read_blank.new.pool c.read_blank.ensures.leaves in
    c.take.ensures.enough ts before (room_here c.args.map.now c.args.vvbn _ member (subst (λ (n : ℕ). length (copies_at c.args.map.now c.args.vvbn) ≤ n) (sym room) fits))

pub returns-clause-goes : goal.returns-clause-goes
returns-clause-goes g c = g.met.S.Sink.goes_on _ _ _ _ _ _ (g.met.S.Sink.goes_reads c.args.sink.now c.args.pool.now c.read_blank.new.pool c.read_blank.ensures.leaves) c.take.ensures.goes
