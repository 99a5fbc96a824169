use Rattle.fv_root.specs.Finding.{root_found}
use Rattle.fv_second_pass.proofs.Blocks.{gives_block}
use Rattle.fv_second_pass.proofs.volume_source.VolumeSourceSource.read.Goals as goal

pub returns-clause-gives : goal.returns-clause-gives
returns-clause-gives g c = λ fits.
    gives_block (root_found c.args.self.now.root.now) (g.D.Disk.shown c.args.self.now.disk.now).reads c.args.self.now.slot c.args.self.now.span c.args.at c.read.new.into c.read.result
    (c.read.ensures.gives fits.tells)
