use Rattle.fv_inode.proofs.records.rewrite_files.Goals as goal

pub returns-clause-written : goal.returns-clause-written
returns-clause-written c = λ blocks.
    let did = c.rewrite.ensures in
    record { block = c.spell.new.into; spelled = c.spell.ensures; written = did.written blocks; place_by_place = did.place_by_place blocks }
