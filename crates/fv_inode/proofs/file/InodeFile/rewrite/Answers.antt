use Rattle.std.proofs.Common.{◌≡◌, ℕ, ◌/◌, ◌%◌, Ok, Some, refl, sym, ap, subst, ◌∙◌}
use Rattle.std.specs.Prelude.{IfOk, slice_set}
use Rattle.fv_codec.specs.Blocks.{inodes_at, IsInodeRecord}
use Rattle.fv_tables.specs.Told.{free_record}
use Rattle.fv_tree.specs.Standing.{standing}
use Rattle.fv_inode.specs.Files.{with_info}
use Rattle.fv_inode.specs.Changing.{Rewrites, WritesFiles}
use Rattle.fv_inode.proofs.Slots.{changed_is, inodes_of, records_are}
use Rattle.fv_inode.proofs.Rewritten.{rewrites}
use Rattle.fv_inode.proofs.Readied.{nothing_held, info_fits, still_holds}
use Rattle.fv_inode.proofs.Single.{IsSingle, single, holds_formed, holds_used, named}
use Rattle.fv_inode.proofs.file.InodeFile.rewrite.Goals as goal

pub record-requires-clause-shaped : goal.record-requires-clause-shaped
record-requires-clause-shaped c = holds_formed c.args.self.now.tree c.args.info.now.number c.content.new.into c.requires.ready c.content.ensures.memory

pub renew-requires-clause-shaped : goal.renew-requires-clause-shaped
renew-requires-clause-shaped c = holds_formed c.args.self.now.tree c.args.info.now.number c.content.new.into c.requires.ready c.content.ensures.memory

pub renew-requires-clause-range : goal.renew-requires-clause-range
renew-requires-clause-range c =
    let t = c.args.self.now.tree in
    let n = c.args.info.now.number in
    let block = c.content.new.into in
    let file = c.record.result in
    let one : IsSingle block (n % 16) file = single block (n % 16) file (holds_formed t n block c.requires.ready c.content.ensures.memory) (c.record.ensures.file free_record) in
    subst IsInodeRecord (sym c.with_info-file.ensures) (info_fits c.args.info.now file c.requires.info c.record.ensures.range (holds_used t n block c.requires.ready c.content.ensures.memory file one))

pub renew-requires-clause-used : goal.renew-requires-clause-used
renew-requires-clause-used c =
    let t = c.args.self.now.tree in
    let n = c.args.info.now.number in
    let block = c.content.new.into in
    let file = c.record.result in
    let one : IsSingle block (n % 16) file = single block (n % 16) file (holds_formed t n block c.requires.ready c.content.ensures.memory) (c.record.ensures.file free_record) in
    named file c.args.info.now c.with_info-file.result c.with_info-file.ensures (holds_used t n block c.requires.ready c.content.ensures.memory file one)

pub returns-clause-rewrites : goal.returns-clause-rewrites
returns-clause-rewrites c = λ blocks.
    let t = c.args.self.now.tree in
    let u = c.rewrite.new.self in
    let info = c.args.info.now in
    let n = info.number in
    let block = c.content.new.into in
    let file = c.record.result in
    let one : IsSingle block (n % 16) file = single block (n % 16) file (holds_formed t n block c.requires.ready c.content.ensures.memory) (c.record.ensures.file free_record) in
    let fs = one.inodes.files in
    let are = records_are (standing blocks t) (n / 16) (Some block) fs (c.content.ensures.cell blocks) (inodes_of block one.inodes one.spelled) in
    let wrote : WritesFiles (standing blocks t) (standing blocks u) (n / 16) c.args.stamp (slice_set fs (n % 16) c.with_info-file.result) = record {
      block = c.renew.new.block;
      spelled = subst (λ (k : ℕ). inodes_at c.renew.new.block ≡ Ok (record { index = k; files = slice_set fs (n % 16) c.with_info-file.result })) c.from.ensures
          (subst (λ o. IfOk o (λ b. inodes_at c.renew.new.block ≡ Ok (record { index = c.from.result; files = slice_set b.files (n % 16) c.with_info-file.result }))) one.spelled c.renew.ensures);
      written = c.rewrite.ensures.written blocks;
      place_by_place = c.rewrite.ensures.place_by_place blocks;
    } in
    subst (Rewrites (standing blocks t) (standing blocks u) n c.args.stamp)
    (changed_is (standing blocks t) n fs (with_info info) (λ f. refl) c.with_info-file.result free_record one.long are (c.with_info-file.ensures ∙ ap (with_info info) (sym one.is)))
    (rewrites (standing blocks t) (standing blocks u) n c.args.stamp fs c.with_info-file.result one.long are wrote)

pub returns-clause-ready : goal.returns-clause-ready
returns-clause-ready c =
    let t = c.args.self.now.tree in
    let n = c.args.info.now.number in
    still_holds t c.rewrite.new.self n c.args.stamp (with_info c.args.info.now) c.requires.ready (c.rewrite.ensures.alters.keeps_ready (n / 16) c.requires.ready.way) (returns-clause-rewrites c nothing_held)
