use Rattle.std.proofs.Common.{◌+◌, rules}
use Rattle.fv_memdisk.specs.Lived.{story_of}
use Rattle.fv_memdisk.specs.Story.{state_of}
use Rattle.fv_memdisk.proofs.Images.{whole_is}
use Rattle.fv_memdisk.proofs.history.History.torn.Goals as goal

pub returns-clause-whole : goal.returns-clause-whole
returns-clause-whole c =
    let h = c.args.self.now in
    whole_is c.torn.result c.args.tear (state_of (story_of h) c.args.moment) c.torn.ensures.byte (search rules) (h.sound.whole (h.run + c.args.moment)) (h.sound.whole_settled (h.run + c.args.moment))
