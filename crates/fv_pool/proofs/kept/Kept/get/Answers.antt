use Rattle.std.proofs.Common.{◌∙◌, sym, ap, Some}
use Rattle.std.specs.FinMap as fin
use Rattle.std.specs.Option.{option_map}
use Rattle.fv_pool.proofs.Writing.{view_get}
use Rattle.fv_pool.proofs.kept.Kept.get.Goals as goal

pub returns-in-Some : goal.returns-in-Some
returns-in-Some c =
    ap (λ x. Some x) c.deref.ensures ∙ ap (option_map (λ box. box.value)) c.in-Some.ensures.value ∙ sym (view_get c.self.inside.blocks c.args.pvbn) ∙ ap (λ m. fin.get m c.args.pvbn) c.self.view_is

pub returns-in-None : goal.returns-in-None
returns-in-None c = ap (option_map (λ box. box.value)) c.in-None.ensures.value ∙ sym (view_get c.self.inside.blocks c.args.pvbn) ∙ ap (λ m. fin.get m c.args.pvbn) c.self.view_is
