use Rattle.std.proofs.Common.{◌≡◌, Option, Some, None, is_some, refl, sym, ap, ◌∙◌, nat_eq}
use Rattle.std.specs.Prelude.{List, ℕ, option_map}
use Rattle.std.specs.Global.{Box}
use Rattle.std.specs.Map.{lookup}
use Rattle.fv_store.proofs.Boxes.{found_in}
use Rattle.fv_store.proofs.store.is_held.Goals as goal

there : (o : Option (Box (List ℕ))) → is_some (option_map (λ box. box.value) o) ≡ is_some o
there None = refl
there (Some box) = refl

pub returns : goal.returns
returns c = c.contains.ensures ∙ sym (ap is_some (found_in c.args.cache.now.entries c.args.pvbn) ∙ there (lookup (nat_eq c.args.pvbn) c.args.cache.now.entries))
