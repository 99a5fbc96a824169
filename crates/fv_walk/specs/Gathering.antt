-- Blocks that are read and judged together, before it is known which of them a walk comes to.
use Rattle.std.specs.Prelude.{◌≡◌, ◌<◌, ⊤, ℕ, List, [], ◌∷◌, ◌++◌, Option, Some, None, length, map, slice_index_or, ◌==◌}
use Rattle.fv_image.specs.Views.{Placed}
use Rattle.fv_faults.specs.Walks.{Ground}
use Rattle.fv_faults.specs.Met.{place_at}
use Rattle.fv_scan.specs.declared.item.Item.{Item}
use Rattle.fv_scan.specs.Judging.{judgement}
use Rattle.fv_walk.specs.declared.visit.Visit.{Visit}
use Rattle.fv_walk.specs.declared.gather.Gathered.{Gathered}
use Rattle.fv_walk.specs.Visits.{item_of}

-- what is read for a pointer is judged as what the pointer leads to, and is the block there
abbrev pub IsKindOf : Visit → Item → Type 0
IsKindOf v item = (item.kind == 5) ≡ (v.level == 0)

abbrev pub IsBlockOf : Ground → Visit → Item → Type 0
IsBlockOf g v item = (x : Placed) → place_at g (item_of v) ≡ Some x → item.body ≡ x.block

-- it holds of what was read for a pointer, if anything was
abbrev pub OfRead : (Visit → Item → Type 0) → Visit → Option Item → Type 0
OfRead P v None = ⊤
OfRead P v (Some item) = P v item

-- it holds of the one among some blocks that was read for a pointer, if one was
abbrev pub AtSlot : (Visit → Item → Type 0) → List Item → Visit → Option ℕ → Type 0
AtSlot P items v None = ⊤
AtSlot P items v (Some k) = (k < length items) × ((d : Item) → P v (slice_index_or items k d))

-- it holds of those of the first n pointers
pub record Each (P : Visit → Item → Type 0) (n : ℕ) (visits : List Visit) (slots : List (Option ℕ)) (items : List Item) : Type 0 where
  pub long : length slots ≡ n
  pub each : (i : ℕ) → i < n → (v : Visit) (o : Option ℕ) → AtSlot P items (slice_index_or visits i v) (slice_index_or slots i o)

-- what was read for one pointer more is put behind what was read before
abbrev pub Kept : Option Item → List (Option ℕ) → List Item → List (Option ℕ) → List Item → Type 0
Kept None ss is ts js = (ts ≡ ss ++ (None ∷ [])) × (js ≡ is)
Kept (Some item) ss is ts js = (ts ≡ ss ++ (Some (length is) ∷ [])) × (js ≡ is ++ (item ∷ []))

pub record IsGathered (visits : List Visit) (all : Gathered) : Type 0 where
  pub kinds : Each IsKindOf (length visits) visits all.slots.items all.items.items
  pub judged : all.judged.items ≡ map judgement all.items.items

abbrev pub AreBlocks : Ground → List Visit → Gathered → Type 0
AreBlocks g visits all = Each (IsBlockOf g) (length visits) visits all.slots.items all.items.items

-- a number of one among n
abbrev pub IsWithin : ℕ → Option ℕ → Type 0
IsWithin n None = ⊤
IsWithin n (Some k) = k < n
