use Rattle.std.proofs.Common.{◌≡◌, ℕ, sym, ap, subst, ◌∙◌}
use Rattle.fv_container.specs.Spelled.{is_at}
use Rattle.fv_delay.proofs.Reclaimed.{some_none}
use Rattle.fv_volume.specs.Stored.{place_at, place_in}
use Rattle.fv_volume.specs.Writing.{HasGiven}
use Rattle.fv_volumes.proofs.giving.give_back_map.Goals as goal

pub entry_at-requires-clause-loaded : goal.entry_at-requires-clause-loaded
entry_at-requires-clause-loaded c = c.requires.loaded c.args.vvbn (sym c.is_map_written.ensures ∙ c.if-is_map_written.true)

pub returns-then-is_map_written-clause-given : goal.returns-then-is_map_written-clause-given
returns-then-is_map_written-clause-given c = λ sure written.
    let at : c.place_in.result ≡ place_at c.args.container.now.map c.args.vvbn = c.place_in.ensures ∙ ap place_in (c.entry_at.ensures.entry sure) in
    subst (λ (p : ℕ). HasGiven c.args.map.now (λ b. is_at b p) c.give_back.new.self) at c.give_back.ensures

pub returns-then-is_map_written-clause-some : goal.returns-then-is_map_written-clause-some
returns-then-is_map_written-clause-some c = record { blocks = _; given = c.give_back.ensures }

pub returns-else-is_map_written-clause-some : goal.returns-else-is_map_written-clause-some
returns-else-is_map_written-clause-some c = some_none c.args.map.now
