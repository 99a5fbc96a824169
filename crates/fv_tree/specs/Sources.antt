-- What a source of blocks shows, and what its calls do.
use Rattle.std.specs.Prelude.{◌≡◌, ◌≢◌, ◌≤◌, ◌⊎◌, ◌+◌, ℕ, true, cond, nat_eq, is_some, List, Option, Some, None, Result, IfOk, IfErr, OnOk, OnErr}
use Rattle.std.specs.Ordering.{nat_cmp}
use Rattle.std.specs.FinMap as fin
use Rattle.fv_disk.specs.Shown.{Rose}
use Rattle.fv_disk.specs.declared.fault.BlockFault.{BlockFault}
use Rattle.fv_disk.specs.declared.fault.BlockFault.TheVariants.{DiskFault, Damaged, Memory}
use Rattle.fv_codec.specs.declared.pointer.Pointer.{Pointer}
use Rattle.fv_codec.specs.Blocks.{last_place}
use Rattle.fv_tree.specs.declared.blocks.Placed.{Placed}

-- a block that isn't as said: its place, the wanted and the found number
pub record Damage : Type 0 where
  pub at : ℕ
  pub want : ℕ
  pub found : ℕ

-- how a VVBN is in use: the PVBN that a pointer to it may tell, 0 where that has to be unknown, and the kind of its block
pub record Use : Type 0 where
  pub pvbn : ℕ
  pub kind : ℕ

pub record Shown : Type 1 where
  -- the blocks that are held, by VVBN
  pub held : fin.FinMap nat_cmp (List ℕ)
  -- the VVBNs that the active tree has in use; a snapshot may hold others
  pub used : ℕ → Option Use
  -- how often a VVBN was named as gone that wasn't in use; the count stays at 2^64 - 1
  pub strays : ℕ
  -- the PVBN that a load answers: where the block was read, or 0 for one that isn't placed yet
  pub read_at : Pointer → ℕ
  -- a pointer to a VVBN that tells a PVBN, or 0, tells no wrong place of its block
  pub right : ℕ → ℕ → Type 0
  -- so many blocks can be placed for sure, as far as memory goes
  pub room : ℕ
  -- how many look-ups a load of a pointer makes
  pub cost : Pointer → ℕ
  -- how many look-ups loads have made
  pub spent : ℕ
  -- failed calls of the disk; the count stays at 2^64 - 1
  pub faults : ℕ
  -- how often damage was answered; the count stays at 2^64 - 1
  pub damages : ℕ
  pub last : Damage
  -- what may be answered as damage
  pub is_damage : Damage → Type 0

-- what holds of every source
pub record IsSource (source : Shown) : Type 0 where
  pub damage : source.damages ≢ 0 → source.is_damage source.last

-- the counts of faults and damages are as before, and that of look-ups didn't fall
pub record IsCalm (old new : Shown) : Type 0 where
  pub faults : new.faults ≡ old.faults
  pub damages : new.damages ≡ old.damages
  pub spent : old.spent ≤ new.spent

-- damage was answered, and this one last
abbrev pub WasDamaged : Shown → Shown → ℕ → ℕ → ℕ → Type 0
WasDamaged old new at want found = Rose old.damages new.damages × (new.last ≡ record { at = at; want = want; found = found })

-- Why a call of the source failed. One count rose, and the other stays; for want of memory both stay, so that it is never told in
-- place of a fault of the disk or of damage.
abbrev pub HasCause : Shown → Shown → BlockFault → Type 0
HasCause old new DiskFault = Rose old.faults new.faults × (new.damages ≡ old.damages)
HasCause old new (Damaged at want found) = (new.faults ≡ old.faults) × WasDamaged old new at want found
HasCause old new Memory = IsCalm old new

-- The counts never fall, and what was done leaves them.
pub record Counts {T E : Type 0} (old new : Shown) (result : Result T E) : Type 0 where
  pub faults : old.faults ≤ new.faults
  pub damages : old.damages ≤ new.damages
  pub spent : old.spent ≤ new.spent
  pub calm : OnOk result (IsCalm old new)

-- The blocks that are held, what is in use, the count of strays, the room, and what loads cost are as before. What a pointer told
-- rightly it tells rightly.
pub record IsUntouched (old new : Shown) : Type 0 where
  pub held : new.held ≡ old.held
  pub used : new.used ≡ old.used
  pub strays : new.strays ≡ old.strays
  pub room : new.room ≡ old.room
  pub cost : new.cost ≡ old.cost
  pub right : (v pvbn : ℕ) → old.right v pvbn → new.right v pvbn

abbrev pub IsDamaged : BlockFault → Type 0
IsDamaged DiskFault = ⊥
IsDamaged (Damaged at want found) = Unit {0}
IsDamaged Memory = ⊥

-- damage is answered only for a pointer whose VVBN isn't held
abbrev pub IsLoose : Shown → Pointer → BlockFault → Type 0
IsLoose source p e = IsDamaged e → fin.get source.held p.vvbn ≡ None

-- A load changes nothing but the count of look-ups, which rises by what it costs. From a source whose content is told it gives the block
-- under the VVBN of a pointer that is right: one that tells another place than its block's may give whatever lies there. Such a source says
-- where it read, and answers damage only for a VVBN that isn't held.
pub record Loads (told : Type 0) (old : Shown) (pointer : Pointer) (new : Shown) (block : List ℕ) (result : Result ℕ BlockFault) : Type 0 where
  pub untouched : IsUntouched old new
  pub gives : told → old.right pointer.vvbn pointer.pvbn → OnOk result (fin.get old.held pointer.vvbn ≡ Some block)
  pub answers : told → IfOk result (λ pvbn. pvbn ≡ new.read_at pointer)
  pub range : IfOk result (λ pvbn. pvbn ≤ last_place)
  pub spent : OnOk result (new.spent ≡ old.spent + old.cost pointer)
  pub counts : Counts old new result
  pub cause : IfErr result (HasCause old new)
  pub loose : told → IfErr result (IsLoose old pointer)

-- A block of a kind is placed under a VVBN that was neither held nor in use, and comes into use with that kind and the PVBN that is
-- answered. A PVBN of 0 asks for an unknown pointer. Where a source's content is told, that block alone is new in the map, and while there
-- is room no damage is answered. One fewer can be placed afterwards at most. It makes no look-up.
pub record Places (told : Type 0) (old : Shown) (kind : ℕ) (block : List ℕ) (new : Shown) (result : Result Placed BlockFault) : Type 0 where
  pub fresh : IfOk result (λ placed. fin.get old.held placed.vvbn ≡ None)
  pub unused : IfOk result (λ placed. old.used placed.vvbn ≡ None)
  pub held : told → IfOk result (λ placed. new.held ≡ fin.insert old.held placed.vvbn block)
  pub used : IfOk result (λ placed. (v : ℕ) → new.used v ≡ cond (nat_eq v placed.vvbn) (Some (record { pvbn = placed.pvbn; kind = kind })) (old.used v))
  pub vvbn : IfOk result (λ placed. placed.vvbn ≤ last_place)
  pub pvbn : IfOk result (λ placed. placed.pvbn ≤ last_place)
  pub strays : new.strays ≡ old.strays
  pub room : OnOk result (old.room ≤ new.room + 1)
  pub enough : told → old.room ≢ 0 → IfErr result (λ e. IsDamaged e → ⊥)
  pub spent : new.spent ≡ old.spent
  pub failed : OnErr result (IsUntouched old new)
  pub counts : Counts old new result
  pub cause : IfErr result (HasCause old new)

-- A block that is named as gone is no longer in use. It may stay, as a snapshot may still hold it. All others stay, in the map and
-- in use. Naming one that isn't in use changes nothing of that, and is counted. The room doesn't fall, and no look-up is made.
pub record Drops (old : Shown) (vvbn : ℕ) (new : Shown) : Type 0 where
  pub held : (new.held ≡ fin.remove old.held vvbn) ⊎ (new.held ≡ old.held)
  pub used : (v : ℕ) → new.used v ≡ cond (nat_eq v vvbn) None (old.used v)
  pub named : is_some (old.used vvbn) ≡ true → new.strays ≡ old.strays
  pub stray : old.used vvbn ≡ None → Rose old.strays new.strays
  pub room : old.room ≤ new.room
  pub spent : new.spent ≡ old.spent
  pub calm : IsCalm old new

-- the kinds of blocks that a tree has: data, nodes of the levels 1 to 3, inode blocks, and nodes of the inode file of the
-- levels 1 and 2
pub record IsKind (kind : ℕ) : Type 0 where
  pub least : 1 ≤ kind
  pub greatest : kind ≤ 7

-- A VVBN was free at some moment between two states of a source: no block was held under it then, and it wasn't in use. So it is none that
-- another table has all the while. `goes` says what calls leave of the source.
pub record WasFree {B : Type 0} (shown : B → Shown) (goes : B → B → Type 0) (old new : B) (v : ℕ) : Type 0 where
  pub moment : B
  pub before : goes old moment
  pub after : goes moment new
  pub held : fin.get (shown moment).held v ≡ None
  pub used : (shown moment).used v ≡ None
