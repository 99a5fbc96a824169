use Rattle.std.proofs.Common.{◌≡◌, ◌∙◌, sym, ap, None, nat_eq}
use Rattle.std.specs.Prelude.{option_map}
use Rattle.std.specs.Box.{with_value}
use Rattle.std.specs.Map.{lookup, set_value}
use Rattle.fv_store.specs.Held.{block_at}
use Rattle.fv_store.specs.Boxed.{unboxed}
use Rattle.fv_store.proofs.Boxes.{found_in, overwritten_in}
use Rattle.fv_store.proofs.Lists.{overwritten_absent}
use Rattle.fv_store.proofs.store.overwrite.Goals as goal

pub returns-in-Some-clause-list : goal.returns-in-Some-clause-list
returns-in-Some-clause-list c = overwritten_in c.args.cache.now.entries c.args.pvbn (with_value c.in-Some.held.now c.renew.new.self) ∙ ap (set_value (nat_eq c.args.pvbn) (unboxed c.args.cache.now.entries)) c.renew.ensures

pub returns-in_default-clause-list : goal.returns-in_default-clause-list
returns-in_default-clause-list c =
    let none : lookup (nat_eq c.args.pvbn) c.args.cache.now.entries ≡ None = sym (rw c.in_default.is at c.peek_mut.ensures.value) in
    let absent : block_at (unboxed c.args.cache.now.entries) c.args.pvbn ≡ None = found_in c.args.cache.now.entries c.args.pvbn ∙ ap (option_map (λ box. box.value)) none in
    sym (overwritten_absent (unboxed c.args.cache.now.entries) c.args.pvbn c.args.block.now absent)
