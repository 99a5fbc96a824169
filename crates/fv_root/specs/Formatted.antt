-- What a fresh aggregate's fixed blocks hold, and which blocks making one touches.
use Rattle.std.specs.Prelude.{◌≡◌, ◌≢◌, ◌<◌, ◌≤◌, ◌⊎◌, ℕ, true, false, List, replicate, Result, Some, Ok}
use Rattle.fv_disk.specs.declared.Failed.{Failed}
use Rattle.fv_disk.specs.Shown.{Image, Shown}
use Rattle.fv_codec.specs.declared.root.Root.{Root}
use Rattle.fv_codec.specs.Blocks.{super_at, gate_open, root_at}
use Rattle.fv_image.specs.Layout.{superblock, gate_place, root_place, area_blocks, area_place}
use Rattle.fv_image.specs.WholeMachine.{machine_of}
use Rattle.fv_model.specs.Machines.{empty_machine, first_block}
use Rattle.fv_disk.specs.Sparing.{AgreeOn, LeftBefore, Spares}

-- the numbers of blocks that an aggregate can have
pub record IsSize (blocks : ℕ) : Type 0 where
  pub least : 512 ≤ blocks
  pub greatest : blocks ≤ 1048576

-- the root of an aggregate that is made anew
abbrev pub first_root : Root
first_root = record { generation = 1; version = 1; labels = replicate 64 0 }

-- a superblock with this size, the first root behind the one gate that is open, and a clear map
pub record IsFormatted (blocks : ℕ) (i : Image) : Type 0 where
  pub super : super_at (i superblock) ≡ Ok (record { blocks = blocks })
  pub first_gate : gate_open (i (gate_place 0)) ≡ true
  pub second_gate : gate_open (i (gate_place 1)) ≡ false
  pub root : root_at (i (root_place 0)) ≡ Ok first_root
  pub area : (k : ℕ) → k < area_blocks blocks → i (area_place blocks 0 k) ≡ replicate 4096 0

-- the images agree from the first allocatable block on
abbrev pub SameVolumes : ℕ → Image → Image → Type 0
SameVolumes blocks = AgreeOn (λ b. first_block blocks ≤ b)

-- an image that a crash before might have left, but for the fixed blocks
abbrev pub KeepsVolumes : ℕ → Shown → Image → Type 0
KeepsVolumes blocks = LeftBefore (λ b. first_block blocks ≤ b)

-- only fixed blocks are written, whatever the outcome
abbrev pub WritesFixed : ℕ → Shown → Shown → Result Unit Failed → Type 0
WritesFixed blocks = Spares (λ b. first_block blocks ≤ b)

-- ---- while an aggregate is made

-- neither gate is open, so that nothing behind them counts
pub record AreClosed (c : Image) : Type 0 where
  pub first : gate_open (c (gate_place 0)) ≡ false
  pub second : gate_open (c (gate_place 1)) ≡ false

-- a block that is none of the two gates
pub record IsNoGate (b : ℕ) : Type 0 where
  pub first : b ≢ gate_place 0
  pub second : b ≢ gate_place 1

-- What a crash at any moment of making an aggregate leaves. Each block but the two gates is as in an image that a crash before might
-- have left, so that an open gate leads to what it led to then, or to what a closed one hid; or both gates are closed; or it is the whole
-- new aggregate, with its root and its clear map. A gate that is being written may hold any bytes.
abbrev pub OldClosedOrNew : ℕ → Shown → Image → List ℕ → Type 0
OldClosedOrNew blocks old c g = (LeftBefore IsNoGate old c ⊎ AreClosed c ⊎ (machine_of c ≡ Some (empty_machine blocks))) × (g ≡ old.given)
