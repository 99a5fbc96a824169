use Rattle.fv_volumes.proofs.Learned.{counted_bases, learned_bases, learned_loaded, learned_read}
use Rattle.fv_volumes.proofs.Ledgers.{countable, counted_kept, counted_loaded}
use Rattle.fv_volumes.proofs.Stepping.{read_none}
use Rattle.fv_volumes.proofs.load.load_states.Goals as goal

pub load_volumes-requires-clause-read : goal.load_volumes-requires-clause-read
load_volumes-requires-clause-read g c = read_none c.new-states.result.items c.args.containers.now c.new-states.ensures.items c.requires.none

pub learn_bases-requires-clause-long : goal.learn_bases-requires-clause-long
learn_bases-requires-clause-long g c = c.in_ok-load_volumes.ensures.read.long

pub learn_bases-requires-clause-labelled : goal.learn_bases-requires-clause-labelled
learn_bases-requires-clause-labelled g c = c.in_ok-load_volumes.ensures.read.each

pub count_volumes-requires-clause-long : goal.count_volumes-requires-clause-long
count_volumes-requires-clause-long g c = (learned_read c.load_volumes.new.states.items c.learn_bases.new.states.items c.load_volumes.new.containers c.in_ok-load_volumes.ensures.read c.in_ok-learn_bases.ensures).long

pub count_volumes-requires-clause-each : goal.count_volumes-requires-clause-each
count_volumes-requires-clause-each g c =
    let read = learned_read c.load_volumes.new.states.items c.learn_bases.new.states.items c.load_volumes.new.containers c.in_ok-load_volumes.ensures.read c.in_ok-learn_bases.ensures in
    countable c.learn_bases.new.states.items read.each read.read

pub returns-clause-kept : goal.returns-clause-kept
returns-clause-kept g c =
    let read = learned_read c.load_volumes.new.states.items c.learn_bases.new.states.items c.load_volumes.new.containers c.in_ok-load_volumes.ensures.read c.in_ok-learn_bases.ensures in
    counted_kept c.learn_bases.new.states.items c.count_volumes.new.states.items c.load_volumes.new.containers read c.count_volumes.ensures

pub returns-clause-bases : goal.returns-clause-bases
returns-clause-bases g c =
    let states = c.learn_bases.new.states.items in
    let read = learned_read c.load_volumes.new.states.items states c.load_volumes.new.containers c.in_ok-load_volumes.ensures.read c.in_ok-learn_bases.ensures in
    let bases = learned_bases c.load_volumes.new.states.items states c.load_volumes.new.containers c.in_ok-load_volumes.ensures.read c.in_ok-learn_bases.ensures in
    counted_bases states c.count_volumes.new.states.items read.long c.count_volumes.ensures bases

pub returns-clause-loaded : goal.returns-clause-loaded
returns-clause-loaded g c = λ tells.
    let states = c.learn_bases.new.states.items in
    let read = learned_read c.load_volumes.new.states.items states c.load_volumes.new.containers c.in_ok-load_volumes.ensures.read c.in_ok-learn_bases.ensures in
    let loaded = learned_loaded c.load_volumes.new.states.items states c.load_volumes.new.containers c.in_ok-load_volumes.ensures.read c.in_ok-learn_bases.ensures (g.D.Disk.shown c.args.disk.now).reads c.args.found.now
    (c.in_ok-load_volumes.ensures.loaded tells) in
    counted_loaded states c.count_volumes.new.states.items c.load_volumes.new.containers read c.count_volumes.ensures (g.D.Disk.shown c.args.disk.now).reads c.args.found.now loaded
