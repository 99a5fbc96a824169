use Rattle.std.proofs.Common.{inl, inr}
use Rattle.fv_memdisk.proofs.Tearing.{unsettled_ok, unsettled_barrier, unsettled_give}
use Rattle.fv_memdisk.proofs.unsettled.Unsettled.add.Goals as goal

pub returns-in-Write : goal.returns-in-Write
returns-in-Write c = unsettled_ok c.note.result c.args.event.now c.in-Write.at (inr (c.in-Write.field-1, c.in-Write.is)) c.args.self.now.start c.note.new.self.start c.args.count c.args.self.now.written.items c.note.new.self.written.items c.note.ensures.start c.note.ensures.written

pub returns-in-Torn : goal.returns-in-Torn
returns-in-Torn c = unsettled_ok c.note-in-Torn.result c.args.event.now c.in-Torn.at (inl c.in-Torn.is) c.args.self.now.start c.note-in-Torn.new.self.start c.args.count c.args.self.now.written.items c.note-in-Torn.new.self.written.items c.note-in-Torn.ensures.start c.note-in-Torn.ensures.written

pub returns-in-Barrier : goal.returns-in-Barrier
returns-in-Barrier c = λ s counted found. unsettled_barrier c.args.event.now c.in-Barrier.is c.settle.new.self.start c.args.count c.settle.new.self.written.items c.settle.ensures.start c.settle.ensures.written s counted

pub returns-in-Give : goal.returns-in-Give
returns-in-Give c = λ s counted found. unsettled_give c.args.event.now c.in-Give.is c.args.self.now.start c.args.self.now.written.items s found
