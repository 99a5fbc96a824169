use Rattle.std.proofs.Common.{◌∙◌, sym, subst}
use Rattle.fv_disk.specs.Shown.{IsBlock}
use Rattle.fv_memdisk.specs.Host.{story, shown_of}
use Rattle.fv_memdisk.proofs.Images.{image_allowed}
use Rattle.fv_memdisk.proofs.host.MemHost.image.Goals as goal

pub returns-clause-allowed : goal.returns-clause-allowed
returns-clause-allowed c =
    let h = c.args.self.now in
    image_allowed (story h) h.history.sound c.args.tear c.args.moment c.requires (shown_of c.over.result).reads
    (λ a. subst IsBlock (sym (c.over.ensures.content a)) (c.in_ok-blocks.ensures.whole a))
    (λ a. c.over.ensures.content a ∙ c.in_ok-blocks.ensures.content a)
