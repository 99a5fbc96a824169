-- What a session tells of its volumes, slot by slot.
use Rattle.std.specs.Prelude.{ℕ, zero, suc, ◌+◌, List, [], Option, Some, None}
use Rattle.std.specs.BTreeSet.{insert_key}
use Rattle.fv_model.specs.Spelling.{name_cmp}
use Rattle.fv_volume.specs.declared.state.VolumeState.{VolumeState}
use Rattle.fv_volume.specs.States.{States, state_at}

-- what a slot's volume is charged for by its ledger
abbrev pub charged_by : Option VolumeState → ℕ
charged_by None = 0
charged_by (Some x) = x.ledger.charge

-- what the volumes of so many slots from one on are charged for
unfoldable pub charged_from : States → ℕ → ℕ → ℕ
charged_from states from zero = 0
charged_from states from (suc count) = charged_by (state_at states from) + charged_from states (from + 1) count

-- names in byte order with a volume's one more
abbrev pub with_name : Option VolumeState → List (List ℕ) → List (List ℕ)
with_name None names = names
with_name (Some x) names = insert_key name_cmp names x.name

-- the names of the volumes of so many slots from one on, in byte order
unfoldable pub names_from : States → ℕ → ℕ → List (List ℕ)
names_from states from zero = []
names_from states from (suc count) = with_name (state_at states from) (names_from states (from + 1) count)
