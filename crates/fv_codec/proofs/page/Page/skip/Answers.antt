use Rattle.fv_codec.proofs.Pages.{room, skipped, still_zero}
use Rattle.fv_codec.proofs.page.Page.skip.Goals as goal

pub invariant_of-self : goal.invariant_of-self
invariant_of-self c =
    let p = c.self.inside in
    let fits = room p.bytes c.args.self.now p.at c.args.count c.self.told c.self.invariant.0 c.self.view_is c.requires in
    (fits, still_zero p.bytes p.at c.args.count fits c.self.invariant.1)

pub returns-clause-written : goal.returns-clause-written
returns-clause-written c =
    let p = c.self.inside in
    let fits = room p.bytes c.args.self.now p.at c.args.count c.self.told c.self.invariant.0 c.self.view_is c.requires in
    skipped p.bytes c.args.self.now p.at c.args.count fits c.self.view_is c.self.invariant.1
