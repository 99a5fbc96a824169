use Rattle.std.proofs.Common.{length, ap}
use Rattle.fv_codec.proofs.Pages.{room, zero_behind}
use Rattle.fv_codec.proofs.page.Page.put.Goals as goal

pub invariant_of-self : goal.invariant_of-self
invariant_of-self c =
    let p = c.self.inside in
    let count = length c.args.run.now in
    let fits = room p.bytes c.args.self.now p.at count c.self.told c.self.invariant.0 c.self.view_is c.requires in
    (fits, zero_behind p.bytes c.copy_from_slice.new.self p.at count fits c.self.told (ap length c.copy_from_slice.ensures.after) c.self.invariant.1)
