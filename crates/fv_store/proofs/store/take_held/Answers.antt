use Rattle.std.proofs.Common.{◌≡◌, ◌∙◌, sym, ap, Some, None, cond}
use Rattle.std.specs.Prelude.{option_map}
use Rattle.fv_store.specs.Held.{block_at}
use Rattle.fv_store.specs.Boxed.{unboxed}
use Rattle.fv_store.proofs.Boxes.{found_in}
use Rattle.fv_store.proofs.Calls.{to_front_or_not, to_front_store}
use Rattle.fv_store.proofs.store.take_held.Goals as goal

found : (c : goal.After-promote) → block_at (unboxed c.args.cache.now.entries) c.args.pvbn ≡ cond c.copy_block-found.result (Some c.copy_block-found.new.into) None
found c = found_in c.args.cache.now.entries c.args.pvbn ∙ ap (option_map (λ box. box.value)) (sym c.peek.ensures) ∙ c.copy_block-found.ensures

pub returns-clause-found : goal.returns-clause-found
returns-clause-found c = found c

pub returns-clause-front : goal.returns-clause-front
returns-clause-front c =
    to_front_or_not c.args.cache.now c.promote.new.self c.args.pvbn c.copy_block-found.new.into c.copy_block-found.result c.promote.ensures.entries (found c) c.requires

pub returns-clause-valid : goal.returns-clause-valid
returns-clause-valid c =
    to_front_store c.args.cache.now c.promote.new.self c.args.pvbn c.copy_block-found.new.into c.copy_block-found.result c.promote.ensures.entries (found c) c.requires
