use Rattle.fv_tree.specs.Sources.{WasFree}
use Rattle.fv_files.proofs.Flushed.{lays_self, places_self}
use Rattle.fv_files.proofs.flush.flush_first.Goals as goal

pub returns-in-None-clause-lays : goal.returns-in-None-clause-lays
returns-in-None-clause-lays g c = lays_self g.B.Blocks.told (g.B.Blocks.shown c.args.blocks.now) c.args.files.now

pub returns-in-None-clause-places : goal.returns-in-None-clause-places
returns-in-None-clause-places g c = places_self g.B.Blocks.told (WasFree g.B.Blocks.shown g.B.Blocks.goes c.args.blocks.now c.args.blocks.now) (g.B.Blocks.shown c.args.blocks.now) c.args.files.now

pub returns-in-None-clause-keeps : goal.returns-in-None-clause-keeps
returns-in-None-clause-keeps g c = λ told sound laid v none. g.met.B.Blocks.reads_keep v c.args.blocks.now c.args.blocks.now (g.met.B.Blocks.reads_nothing c.args.blocks.now)
