use Rattle.std.proofs.Common.{ap, ◌∙◌}
use Rattle.std.specs.Prelude.{unwrap_or}
use Rattle.fv_memdisk.specs.Past.{blank}
use Rattle.fv_memdisk.specs.Blocks.{zeros, disk_of}
use Rattle.fv_memdisk.proofs.Images.{start_within, torn_is}
use Rattle.fv_memdisk.proofs.torn.torn.Goals as goal

pub split_at-requires : goal.split_at-requires
split_at-requires c = start_within (disk_of c.args.base.now) c.args.past.now c.in_ok-found.found.start c.in_ok-found.found.written.items (c.in_ok-found.ensures (disk_of c.args.base.now))

pub returns-clause-content : goal.returns-clause-content
returns-clause-content c =
    let found = c.in_ok-found.found in
    torn_is (disk_of c.args.base.now) c.args.past.now _ _ found.start found.written.items c.args.tear c.put_all.new.blocks c.tear_off.new.blocks c.split_at.ensures.front c.split_at.ensures.back (c.in_ok-found.ensures (disk_of c.args.base.now)) (c.in_ok-put_all.ensures (blank (disk_of c.args.base.now)) (λ a. ap (λ o. unwrap_or o zeros) (c.in_ok-blocks.ensures a)))
    (λ s stands tail. c.in_ok-tear_off.ensures.content s stands (record { written_is = c.deref.ensures.value ∙ tail.written_is; settled_is = tail.settled_is }))
