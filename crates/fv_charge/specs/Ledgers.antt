-- What a ledger tells of a volume of the machine.
use Rattle.std.specs.Prelude.{◌≡◌, ◌+◌, ◌*◌, ℕ}
use Rattle.fv_model.specs.declared.commands.Kind.{Kind}
use Rattle.fv_model.specs.declared.commands.Kind.TheVariants.{Volume as Whole, File as ByFile, Thin}
use Rattle.fv_model.specs.Volumes.{Volume}
use Rattle.fv_model.specs.Space.{charge, need, overhead}
use Rattle.fv_charge.specs.declared.ledger.Ledger.{Ledger}

-- its numbers are the volume's
pub record IsLedgerOf (v : Volume) (l : Ledger) : Type 0 where
  pub charged : l.charge ≡ charge v
  pub needed : l.need ≡ need v
  pub size : l.size ≡ v.size
  pub kind : l.kind ≡ v.kind
  pub span : l.span ≡ v.span

-- what is promised to a volume beside its overhead: its size by kind `volume`, else what it uses
abbrev pub promised_to : Ledger → Kind → ℕ
promised_to l Whole = l.size
promised_to l ByFile = l.charge + l.need
promised_to l Thin = l.charge + l.need

-- what is committed to a volume
abbrev pub committed : Ledger → ℕ
committed l = 2 * overhead l.span + promised_to l l.kind
