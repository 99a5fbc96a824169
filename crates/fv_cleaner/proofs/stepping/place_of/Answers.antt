use Rattle.std.proofs.Common.{◌≡◌, true, false, refl, sym, ap, ◌∙◌, rules, arith}
use Rattle.fv_image.specs.HintRules.{is_unknown}
use Rattle.fv_pool.specs.Keeping.{seen}
use Rattle.fv_cleaner.specs.Searching.{placed_by}
use Rattle.fv_cleaner.proofs.stepping.place_of.Goals as goal

pub returns-clause-place : goal.returns-clause-place
returns-clause-place g c =
    let reads = (g.D.Disk.shown c.args.disk.now).reads in
    let e = c.in_ok-entry.entry in
    let range = c.in_ok-entry.ensures.range in
    let unknown : is_unknown c.args.root.now ≡ true = search rules in
    record {
      known = λ no. (let wrong : true ≡ false = sym unknown ∙ no in absurd cc);
      some = λ yes none. absurd (omega (arith, none, range.place_least));
      range = range.place_greatest;
      lies = λ tells yes. (record { pvbn = e.pvbn; kind = e.kind; block = seen c.args.pool.now.kept reads e.pvbn }, (ap (placed_by c.args.pool.now.kept reads) (c.in_ok-entry.ensures.entry tells), refl));
    }
