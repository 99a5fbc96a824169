use Rattle.fv_container.proofs.container.Container.set.Goals as goal

pub returns-clause-set : goal.returns-clause-set
returns-clause-set g c = record { loaded = c.load.new.self; loads = c.in_ok-load.ensures.loaded; puts = c.put.ensures }
