use Rattle.std.proofs.Common.{◌++◌, ◌-◌, ℕ, List, length, replicate, sym, ap, subst, ◌∙◌, arith}
use Rattle.fv_codec.specs.Blocks.{IsInodeRecord}
use Rattle.fv_tables.specs.Spelled.{hole}
use Rattle.fv_inode.proofs.Numbered.{new_fits}
use Rattle.fv_inode.proofs.create.new_record.Goals as goal

pub returns-clause-range : goal.returns-clause-range
returns-clause-range c =
    let bytes = c.as_bytes-bytes.ensures.bytes in
    let padded = c.padded.ensures ∙ ap (λ (b : List ℕ). b ++ replicate (64 - length b) 0) bytes in
    subst IsInodeRecord
    (λ i. record { name_length = length (sym bytes i); name = sym padded i; length = 0; reserve = c.args.reserve; levels = sym c.least_levels.ensures.least i; root = hole })
    (new_fits c.args.name.now c.args.reserve c.as_bytes-bytes.ensures.form c.requires.reserve (omega (arith, c.least_levels.ensures.few, c.least_levels.ensures.least)))
