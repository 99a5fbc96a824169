use Rattle.std.proofs.Common.{◌≡◌, ◌∙◌, ◌||◌, Bool, rules, sym, ap, subst, true, false}
use Rattle.std.specs.Prelude.{Option, Some, None, IfSome}
use Rattle.fv_container.specs.Chains.{container_at, map_in}
use Rattle.fv_container.specs.Paged.{Paged}
use Rattle.fv_delay.specs.Delay.{AreKnown, AreSure}
use Rattle.fv_delay.specs.ByThreshold.{IsTable}
use Rattle.fv_delay.specs.Holding.{Holding, held_by}
use Rattle.fv_volume.specs.declared.state.VolumeState.{VolumeState}
use Rattle.fv_volume.specs.States.{state_at}
use Rattle.fv_cp.specs.Choosing.{counts_at, holding_with, holdings}
use Rattle.fv_cp.specs.Planning.{is_counted}
use Rattle.fv_cp.proofs.Planned.{added_none}
use Rattle.fv_cp.proofs.planning.count_slot.Goals as goal

pub returns-in_default : goal.returns-in_default
returns-in_default c = λ sure counted empty.
    let none : state_at c.args.volumes.now c.args.slot ≡ None = sym (rw c.in_default.is at c.get.ensures) in
    added_none _ _ _ (ap (λ (x : Option VolumeState). counts_at c.args.slot (holding_with x (container_at c.args.containers.now c.args.slot))) none) empty

pub returns-then-not-is_changed : goal.returns-then-not-is_changed
returns-then-not-is_changed c = λ sure counted empty.
    let unchanged = subst (λ (x : Option VolumeState). IfSome x (λ y. y.changed ≡ false)) c.in-Some.ensures (sym c.if-not-is_changed.ensures) in
    added_none _ _ _ (counted (search rules) unchanged) empty

-- it is counted where it may have delayed entries, or changed
asked_so : (may : Bool) (x : VolumeState) (o : Option VolumeState) → Some x ≡ o → (may || x.changed) ≡ true → is_counted may o ≡ true
asked_so may x o is so = subst (λ (p : Option VolumeState). is_counted may p ≡ true) is so

pub table_of-requires-clause-known : goal.table_of-requires-clause-known
table_of-requires-clause-known c = subst (λ (held : Option Paged). IfSome held AreKnown) (sym c.in-Some-get.ensures) (c.requires.known (asked_so c.args.may_delay c.in-Some.state.now (state_at c.args.volumes.now c.args.slot) c.in-Some.ensures (search rules)))

pub returns : goal.returns
returns c = λ sure counted empty.
    let state = c.in-Some.state.now in
    let container = c.in-Some-get.container.now in
    let asked : is_counted c.args.may_delay (state_at c.args.volumes.now c.args.slot) ≡ true = asked_so c.args.may_delay state (state_at c.args.volumes.now c.args.slot) c.in-Some.ensures (search rules) in
    let all : AreSure container = subst (λ (held : Option Paged). IfSome held AreSure) (sym c.in-Some-get.ensures) (sure asked) in
    let volume : Option Holding = holdings c.args.containers.now c.args.volumes.now c.args.slot in
    let is : ◌≡◌ {A = Option Holding} (Some (held_by state.map container.map)) volume =
    ap (λ (x : Option VolumeState). holding_with x (Some container.map)) c.in-Some.ensures ∙ ap (λ (y : Option Paged). holding_with (state_at c.args.volumes.now c.args.slot) (map_in y)) c.in-Some-get.ensures in
    let own : IsTable c.table_of.result (counts_at c.args.slot volume) = subst (λ (x : Option Holding). IsTable c.table_of.result (counts_at c.args.slot x)) is (c.table_of.ensures all c.args.slot) in record {
      own = own;
      all = λ others was. c.join.ensures others (counts_at c.args.slot volume) was own;
    }
