use Rattle.fv_inode.proofs.Looked.{both_ok, loads_at}
use Rattle.fv_inode.proofs.records.write_files.Goals as goal

pub returns-clause-loads : goal.returns-clause-loads
returns-clause-loads g c =
    let did = c.put.ensures in
    loads_at did.failed did.leaves did.steady

pub returns-clause-written : goal.returns-clause-written
returns-clause-written g c = λ told.
    both_ok c.put.result (c.put.ensures.written told) (c.put.ensures.place_by_place told) (λ written place_by_place. record { block = c.spell.new.into; spelled = c.spell.ensures; written = written; place_by_place = place_by_place })
