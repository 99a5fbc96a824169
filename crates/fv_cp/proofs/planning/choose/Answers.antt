use Rattle.std.proofs.Common.{◌≡◌, ◌<◌, ◌≤◌, ◌∙◌, ℕ, false, arith}
use Rattle.std.specs.Prelude.{replicate}
use Rattle.std.proofs.lemmas.List.{get_or-replicate}
use Rattle.fv_cp.specs.Choosing.{has_slot, regions_chosen}
use Rattle.fv_cp.specs.Planning.{is_set}
use Rattle.fv_cp.proofs.Marking.{asked_alike, asked_unmarked}
use Rattle.fv_cp.proofs.Pointing.{due_alike}
use Rattle.fv_cp.proofs.planning.choose.Goals as goal

-- fewer blocks aren't free than are asked for where there is room
contrary : {asked with chosen free count : ℕ} → free < asked → asked ≡ with → with ≡ chosen → chosen ≤ count → free ≡ count → ⊥
contrary lt first second le last = omega (arith, lt, first, second, le, last)

-- nor are fewer free than the chosen regions ask for where there is room
never_few : {asked with chosen free count : ℕ} → count < chosen → asked ≡ with → with ≡ chosen → asked ≤ free → free ≡ count → ⊥
never_few few first second le last = omega (arith, few, first, second, le, last)

pub returns-then-from-blocks_asked-clause-planned : goal.returns-then-from-blocks_asked-clause-planned
returns-then-from-blocks_asked-clause-planned c sure counted room =
    let states = c.args.volumes.now in
    let plan = c.plan_for.new.plan in
    let same = asked_alike (is_set plan.due) (has_slot (regions_chosen c.args.pool.now states c.args.want)) states (due_alike c.args.pool.now states c.requires.housed c.args.want plan (c.plan_for.ensures sure counted)) in
    absurd (contrary c.if-from-blocks_asked.true c.blocks_asked.ensures same room (c.from.ensures ∙ c.free_count.ensures.value))

pub returns-then-from-blocks_asked-clause-fits : goal.returns-then-from-blocks_asked-clause-fits
returns-then-from-blocks_asked-clause-fits c lt = asked_unmarked (is_set (replicate 64 false)) c.args.volumes.now c.requires.housed.long (λ s inside. get_or-replicate 64 s false false inside)

pub returns-else-from-blocks_asked-clause-planned : goal.returns-else-from-blocks_asked-clause-planned
returns-else-from-blocks_asked-clause-planned c sure counted room = c.plan_for.ensures sure counted

pub returns-else-from-blocks_asked-clause-fits : goal.returns-else-from-blocks_asked-clause-fits
returns-else-from-blocks_asked-clause-fits c lt = absurd (omega (arith, lt, c.if-from-blocks_asked.false, c.blocks_asked.ensures, c.from.ensures, c.free_count.ensures.value))

pub returns-then-from-blocks_asked-clause-flags : goal.returns-then-from-blocks_asked-clause-flags
returns-then-from-blocks_asked-clause-flags c sure counted = (c.plan_for.ensures sure counted).delays

pub returns-then-from-blocks_asked-clause-none : goal.returns-then-from-blocks_asked-clause-none
returns-then-from-blocks_asked-clause-none c sure counted few = λ s inside. get_or-replicate 64 s false false inside

pub returns-else-from-blocks_asked-clause-flags : goal.returns-else-from-blocks_asked-clause-flags
returns-else-from-blocks_asked-clause-flags c sure counted = (c.plan_for.ensures sure counted).delays

pub returns-else-from-blocks_asked-clause-none : goal.returns-else-from-blocks_asked-clause-none
returns-else-from-blocks_asked-clause-none c sure counted few =
    let states = c.args.volumes.now in
    let plan = c.plan_for.new.plan in
    let same = asked_alike (is_set plan.due) (has_slot (regions_chosen c.args.pool.now states c.args.want)) states (due_alike c.args.pool.now states c.requires.housed c.args.want plan (c.plan_for.ensures sure counted)) in
    absurd (never_few few c.blocks_asked.ensures same c.if-from-blocks_asked.false (c.from.ensures ∙ c.free_count.ensures.value))
