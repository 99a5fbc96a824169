-- What calls leave of all that was lent for one volume, where they load and give up, and place nothing.
use Rattle.std.specs.Prelude.{◌≡◌, ◌≢◌, ◌≤◌, ◌⊎◌, ℕ, true}
use Rattle.fv_disk.specs.DiskCalls.{OnlyReads}
use Rattle.fv_volmap.specs.Slots.{has, slot_at}
use Rattle.fv_pool.specs.BlocksOver.{free_numbers}
use Rattle.fv_pool.specs.Lending.{Lent, WasHole, WasLeaf}

-- Blocks were read and numbers given up. Of the pool nothing changed but the cache, and of the volume's maps only the active one, which has
-- as many free numbers at least and no number that it hadn't.
pub record DropsOver (old new : Lent) : Type 0 where
  pub home : new.home ≡ old.home
  pub space : new.pool.map ≡ old.pool.map
  pub containers : new.pool.containers ≡ old.pool.containers
  pub kept : new.pool.kept ≡ old.pool.kept
  pub found : new.pool.found ≡ old.pool.found
  pub version : new.pool.version ≡ old.pool.version
  pub room : new.room ≡ old.room
  pub steps : old.steps ≤ new.steps
  pub only_reads : OnlyReads old.disk new.disk
  pub noted : (new.noted ≡ old.noted) ⊎ (WasHole old.home.label new.noted ⊎ WasLeaf old.disk old.pool.containers new.noted)
  pub span : new.map.span ≡ old.map.span
  pub snapshots : (s : ℕ) → s ≢ 0 → slot_at new.map s ≡ slot_at old.map s
  pub numbers : free_numbers old.map ≤ free_numbers new.map
  pub active : (v : ℕ) → has v (slot_at new.map 0) ≡ true → has v (slot_at old.map 0) ≡ true
