use Rattle.std.proofs.Common.{◌≡◌, Some, ap, sym, ◌∙◌, nat_eq}
use Rattle.std.specs.Prelude.{option_map}
use Rattle.std.specs.Box.{with_value}
use Rattle.std.specs.Map.{set_value}
use Rattle.fv_codec.specs.Forms.{has_form}
use Rattle.fv_store.specs.Held.{block_at}
use Rattle.fv_store.specs.Boxed.{unboxed}
use Rattle.fv_store.proofs.Boxes.{found_in, overwritten_in}
use Rattle.fv_store.proofs.Judging.{same_over}
use Rattle.fv_store.proofs.store.judge.Goals as goal

pub returns-in-Some-clause-told : goal.returns-in-Some-clause-told
returns-in-Some-clause-told c =
    let found : block_at (unboxed c.args.cache.now.entries) c.args.pvbn ≡ Some c.in-Some.held.now.value = found_in c.args.cache.now.entries c.args.pvbn ∙ ap (option_map (λ box. box.value)) (sym c.in-Some.ensures.value) in
    let same : c.in-Some.held.now.value ≡ c.args.block.now = rw found at c.requires.held in
    c.judge.ensures.told ∙ ap (has_form c.args.form) (c.deref_mut.ensures.value ∙ same)

pub returns-in-Some-clause-list : goal.returns-in-Some-clause-list
returns-in-Some-clause-list c =
    let es = c.args.cache.now.entries in
    let found : block_at (unboxed es) c.args.pvbn ≡ Some c.in-Some.held.now.value = found_in es c.args.pvbn ∙ ap (option_map (λ box. box.value)) (sym c.in-Some.ensures.value) in
    overwritten_in es c.args.pvbn (with_value c.in-Some.held.now c.judge.new.self) ∙ ap (set_value (nat_eq c.args.pvbn) (unboxed es)) (c.judge.ensures.same ∙ c.deref_mut.ensures.value) ∙ same_over (unboxed es) c.args.pvbn c.in-Some.held.now.value found
