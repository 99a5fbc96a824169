use Rattle.std.proofs.Common.{◌≡◌, ◌<◌, ◌/◌, true, Option, sym, subst}
use Rattle.std.specs.Prelude.{IfSome, length}
use Rattle.fv_container.specs.Chains.{map_in}
use Rattle.fv_container.specs.Mapped.{entry_under}
use Rattle.fv_container.specs.Paged.{Paged, is_here, is_sure}
use Rattle.fv_pool.specs.BlocksOver.{entries_in}
use Rattle.fv_pool.proofs.Setting.{puts_entry}
use Rattle.fv_pool.proofs.blocks.set_entry.Goals as goal

pub entry_at-before-requires-clause-within : goal.entry_at-before-requires-clause-within
entry_at-before-requires-clause-within c = subst (λ (held : Option Paged). c.args.vvbn < length (entries_in (map_in held))) (sym c.in-Some.ensures.container) c.requires.within

pub entry_at-before-requires-clause-loaded : goal.entry_at-before-requires-clause-loaded
entry_at-before-requires-clause-loaded c = subst (λ (held : Option Paged). IfSome held (λ paged. is_here paged (c.args.vvbn / 256) ≡ true)) (sym c.in-Some.ensures.container) c.requires.here

pub place-requires-clause-within : goal.place-requires-clause-within
place-requires-clause-within c = subst (λ (held : Option Paged). c.args.vvbn < length (entries_in (map_in held))) (sym c.in-Some.ensures.container) c.requires.within

pub place-requires-clause-loaded : goal.place-requires-clause-loaded
place-requires-clause-loaded c = subst (λ (held : Option Paged). IfSome held (λ paged. is_here paged (c.args.vvbn / 256) ≡ true)) (sym c.in-Some.ensures.container) c.requires.here

pub returns-clause-before : goal.returns-clause-before
returns-clause-before c = subst (λ (held : Option Paged). IfSome held (λ paged. is_sure paged (c.args.vvbn / 256) ≡ true → c.entry_at-before.result ≡ entry_under paged.map c.args.vvbn)) c.in-Some.ensures.container c.entry_at-before.ensures.entry

pub returns-clause-set : goal.returns-clause-set
returns-clause-set c = puts_entry c.args.containers.now c.args.slot c.args.vvbn c.args.entry c.in-Some.container.now c.place.new.self (sym c.in-Some.ensures.container) c.place.ensures
