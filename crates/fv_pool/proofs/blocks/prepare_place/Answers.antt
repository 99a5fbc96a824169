use Rattle.std.proofs.Common.{refl, ap, arith}
use Rattle.fv_pool.specs.declared.pool.Pool.{Pool}
use Rattle.fv_pool.proofs.Setting.{on_err}
use Rattle.fv_pool.proofs.blocks.prepare_place.Goals as goal

pub load_leaf-requires-clause-within : goal.load_leaf-requires-clause-within
load_leaf-requires-clause-within g c = omega (arith, c.requires.within)

pub returns-in_err-load_leaf-clause-failed : goal.returns-in_err-load_leaf-clause-failed
returns-in_err-load_leaf-clause-failed g c = on_err c.from_residual.result (record { map = refl; kept = refl; found = refl; version = refl; containers = c.load_leaf.ensures.maps })

pub returns-in_err-keep-clause-failed : goal.returns-in_err-keep-clause-failed
returns-in_err-keep-clause-failed g c =
    let same = c.in_err-keep.ensures.failed in
    on_err c.from_residual-in_err-keep.result (record {
      map = ap (λ (p : Pool). p.map) same;
      kept = ap (λ (p : Pool). p.kept) same;
      found = ap (λ (p : Pool). p.found) same;
      version = ap (λ (p : Pool). p.version) same;
      containers = rw (ap (λ (p : Pool). p.containers) same) c.load_leaf.ensures.maps;
    })

pub returns-clause-ready : goal.returns-clause-ready
returns-clause-ready g c =
    let same = c.in_ok-keep.ensures.kept in
    record {
      map = ap (λ (p : Pool). p.map) same;
      found = ap (λ (p : Pool). p.found) same;
      version = ap (λ (p : Pool). p.version) same;
      kept = ap (λ (p : Pool). p.kept) same;
      containers = rw (ap (λ (p : Pool). p.containers) same) c.load_leaf.ensures.maps;
      here = rw (ap (λ (p : Pool). p.containers) same) c.in_ok-load_leaf.ensures.here;
    }
