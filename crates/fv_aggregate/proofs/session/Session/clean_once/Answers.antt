use Rattle.std.proofs.Common.{◌≡◌, Err, rules, sym, subst, arith}
use Rattle.fv_aggregate.proofs.CleanedOnce.{cleaned_once, unclean_placed, uncleaned, unplaced_clean}
use Rattle.fv_aggregate.proofs.WorkedCalls.{backs_unroomed}
use Rattle.fv_aggregate.proofs.WorkedSince.{left_unpointed, room_made, still_reads}
use Rattle.fv_aggregate.specs.Cleaning.{CleansOnce}
use Rattle.fv_aggregate.proofs.session.Session.clean_once.Goals as goal

pub returns-in_err-make_room : goal.returns-in_err-make_room
returns-in_err-make_room g c =
    let d = g.D.Disk.shown c.args.disk.now in let e = g.D.Disk.shown c.make_room.new.disk in let s = c.args.self.now in let n = c.make_room.new.self in
    let f = c.in_err-make_room.field-0.0 in
    let failed : c.from_residual.result ≡ Err f = search rules in
    let made = c.in_err-make_room.ensures in
    subst (CleansOnce c.args.slot d s e n) (sym failed) (uncleaned c.args.slot d s e n f (backs_unroomed d s c.requires.fresh e n f made.pending made.runs)
    (λ none still. left_unpointed d s e n (made.undone still) none)
    (λ within. still_reads g.D.Disk.shown c.args.disk.now c.make_room.new.disk (made.calm within).0))

pub returns-in_err-place_all : goal.returns-in_err-place_all
returns-in_err-place_all g c =
    let s = c.args.self.now in let n = c.make_room.new.self in let o = c.place_all.new.self in
    let did = c.in_ok-make_room.ensures in
    let f = c.in_err-place_all.field-0.0 in
    let failed : c.from_residual-in_err-place_all.result ≡ Err f = search rules in
    let made = room_made g.D.Disk.shown c.args.disk.now s c.make_room.new.disk n c.in_ok-make_room.field-0 c.requires.fresh did.pending did.runs did.left did.files did.cores did.calm did.pointed did.reclaimed did.shown in
    subst (CleansOnce c.args.slot (g.D.Disk.shown c.args.disk.now) s (g.D.Disk.shown c.place_all.new.disk) o) (sym failed)
    (unplaced_clean g.D.Disk.shown c.args.slot c.args.disk.now c.make_room.new.disk c.place_all.new.disk s n o f made c.in_err-place_all.ensures)

pub clean_at-requires : goal.clean_at-requires
clean_at-requires g c =
    let s = c.args.self.now in let n = c.make_room.new.self in let o = c.place_all.new.self in
    let did = c.in_ok-make_room.ensures in
    let placed = c.in_ok-place_all.ensures in
    let made = room_made g.D.Disk.shown c.args.disk.now s c.make_room.new.disk n c.in_ok-make_room.field-0 c.requires.fresh did.pending did.runs did.left did.files did.cores did.calm did.pointed did.reclaimed did.shown in
    let few = did.few in
    let more = placed.backs.pending in
    record {
      fresh = placed.backs.done.0;
      stands = placed.backs.stands placed.backs.done.0;
      slot = c.requires.slot;
      unclean = unclean_placed g.D.Disk.shown c.args.slot c.args.disk.now c.make_room.new.disk c.place_all.new.disk s n o c.requires.unclean made placed;
      none = placed.none;
      few = omega (arith, few, more);
    }

pub returns : goal.returns
returns g c =
    let s = c.args.self.now in let n = c.make_room.new.self in let o = c.place_all.new.self in
    let did = c.in_ok-make_room.ensures in
    let made = room_made g.D.Disk.shown c.args.disk.now s c.make_room.new.disk n c.in_ok-make_room.field-0 c.requires.fresh did.pending did.runs did.left did.files did.cores did.calm did.pointed did.reclaimed did.shown in
    cleaned_once g.D.Disk.shown c.args.slot c.args.disk.now c.make_room.new.disk c.place_all.new.disk s n o c.requires.unclean made c.in_ok-place_all.ensures
    c.clean_at.new.disk c.clean_at.new.self c.clean_at.result c.clean_at.ensures
