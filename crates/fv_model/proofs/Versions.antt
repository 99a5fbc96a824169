-- The numbers of space by version of the format: those of version 1 are the ones that have no version in their name.
use Rattle.std.specs.Prelude.{◌≡◌, ℕ, ◌+◌, ◌*◌}
use Rattle.std.proofs.Common.{refl}
use Rattle.fv_model.specs.declared.commands.Kind.TheVariants.{Volume as Whole, File as ByFile, Thin}
use Rattle.fv_model.specs.declared.commands.Kind.{Kind}
use Rattle.fv_model.specs.Volumes.{Volume}
use Rattle.fv_model.specs.Space.{charge, charge_by, use_of, use_by, overhead, overhead_by, promised, promised_by, commit, commit_by}

pub charge_first : (v : Volume) → charge_by 1 v ≡ charge v
unfolding charge
charge_first v = refl

pub use_first : (v : Volume) → use_by 1 v ≡ use_of v
unfolding charge
use_first v = refl

pub overhead_first : (span : ℕ) → overhead_by 1 span ≡ overhead span
unfolding overhead
overhead_first span = refl

pub promised_first : (v : Volume) (k : Kind) → promised_by 1 v k ≡ promised v k
unfolding charge
promised_first v Whole = refl
promised_first v ByFile = refl
promised_first v Thin = refl

pub commit_first : (v : Volume) → commit_by 1 v ≡ commit v
unfolding charge overhead
commit_first v = promised_case v v.kind
  where
    promised_case : (v : Volume) (k : Kind) → 2 * overhead_by 1 v.span + promised_by 1 v k ≡ 2 * overhead v.span + promised v k
    promised_case v Whole = refl
    promised_case v ByFile = refl
    promised_case v Thin = refl
