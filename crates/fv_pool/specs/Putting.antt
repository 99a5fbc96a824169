-- What calls leave of all that was lent for one volume, where they place and give up, and load no block of it.
use Rattle.std.specs.Prelude.{◌≡◌, ◌⊎◌}
use Rattle.fv_tree.specs.Sources.{Shown}
use Rattle.fv_pool.specs.Lending.{Lent, GoesOver, IsOutOfRoom, WasLeaf}

-- A source of which no block is asked: no pointer to one can be wrong.
abbrev pub trusting : Shown → Shown
trusting source = record source { right = λ v pvbn. Unit {0} }

-- Blocks were placed and given up. A damage that came is for want of a number or a block, with the room used up that was made, or that of a
-- leaf of a container.
pub record PutsOver (old new : Lent) : Type 0 where
  pub goes : GoesOver old new
  pub noted : (new.noted ≡ old.noted) ⊎ (IsOutOfRoom old new ⊎ WasLeaf old.disk old.pool.containers new.noted)
