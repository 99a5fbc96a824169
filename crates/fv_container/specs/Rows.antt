-- The type of containers, as clauses on borrows name it.
use denote.RattleType.{RattleType}
use Rattle.fv_container.specs.contracts.container.Container.{the_row}

abbrev pub container_row : RattleType
container_row = the_row
