-- What was found, and what the store holds, while free blocks are written and once another root counts.
use Rattle.std.proofs.Common.{◌≡◌, ℕ, ◌<◌, ◌≤◌, Bool, List, sym, ap, subst, ◌∙◌, arith}
use Rattle.std.specs.Prelude.{IsTrue, Result}
use Rattle.fv_disk.specs.declared.Failed.{Failed}
use Rattle.fv_disk.specs.Shown.{Image, Shown}
use Rattle.fv_disk.specs.Sparing.{Spares}
use Rattle.fv_bits.specs.Members.{is_member}
use Rattle.fv_codec.specs.declared.root.Root.{Root}
use Rattle.fv_codec.specs.Blocks.{IsRoot, gate_open}
use Rattle.fv_model.specs.Machines.{first_block}
use Rattle.fv_image.specs.Layout.{gate_place}
use Rattle.fv_image.specs.Maps.{map_bit}
use Rattle.fv_image.proofs.SameLayout.{same_root}
use Rattle.fv_root.specs.declared.find.Found.{Found}
use Rattle.fv_root.specs.Finding.{IsFound, IsInRange, other_slot, root_found}
use Rattle.fv_root.specs.Formatted.{SameVolumes}
use Rattle.fv_root.specs.Commits.{IsCommitted, IsFoundOn, next_found}
use Rattle.fv_store.specs.Held.{KeepsFrom, Pairs, StandsOn}
use Rattle.fv_aggmap.specs.Space.{Space, blocks_of}
use Rattle.fv_aggmap.specs.Loading.{IsLoaded as IsMapLoaded}
use Rattle.fv_volume.specs.Writing.{IsTaken}

-- the fixed blocks aren't free, either
pub fixed_taken : (space : Space) (b : ℕ) → b < 5 → IsTaken space b
fixed_taken space b low free = omega (arith, low, free.after)

-- ---- what is found

found_in : (f : Found) (i j : Image) → ((b : ℕ) → b < 5 → j b ≡ i b) → IsFound i f → IsFound j f
found_in f i j same is = record {
  root = same_root i j same ∙ is.root;
  older = ap gate_open (same (gate_place (other_slot f.slot)) (omega arith)) ∙ is.older;
}

-- what is found stays while blocks are written that were free
pub found_still : (f : Found) (space : Space) (old new : Shown) (result : Result Unit Failed) → Spares (IsTaken space) old new result → IsTrue old.tells → IsFoundOn old f → IsFoundOn new f
found_still f space old new result spares tells is = record {
  reads = found_in f old.reads new.reads (λ b low. spares.reads tells b (fixed_taken space b low)) is.reads;
  images = λ c now.
      let before = spares.images c now in
      found_in f before.0 c (λ b low. before.2 b (fixed_taken space b low)) (is.images before.0 before.1);
}

-- once another root counts, what is found is in range
pub next_in_range : (found : Found) (root : Root) → IsInRange found → IsRoot root → IsInRange (next_found found root)
next_in_range found root range is = record { size = range.size; slot = omega arith; root = record { least = is.least; greatest = is.greatest; labels = is.labels } }

-- and the map in memory is the one that the map area of that root spells
pub map_now : (mid : Shown) (found : Found) (root : Root) (next : List Bool) (new : Shown) → IsCommitted mid found root next new → (now : Found) (map : Space) → now ≡ next_found found root → map ≡ record { committed = next; next = next } → blocks_of map ≡ found.blocks → IsMapLoaded new.reads now map
map_now mid found root next new done now map is map_is size = record {
  len = size ∙ ap (λ (x : Found). x.blocks) (sym is);
  bits = λ b. ap (λ (x : Space). is_member x.committed b) map_is ∙ sym (subst (λ (x : Found). map_bit (root_found x) new.reads b ≡ is_member next b) (sym is) (done.side.bits b));
  same = ap (λ (x : Space). x.next) map_is ∙ sym (ap (λ (x : Space). x.committed) map_is);
}

-- the blocks that a store still holds stand where no volume's block was written
pub stands_behind : (old new : Shown) (blocks first : ℕ) (pairs left : Pairs) → StandsOn old pairs → KeepsFrom first pairs left → first ≡ first_block blocks → new.tells ≡ old.tells → (IsTrue old.tells → SameVolumes blocks old.reads new.reads) → StandsOn new left
stands_behind old new blocks first pairs left stands keeps is tells same = record {
  same = λ told b block there.
      let was = keeps.kept b block there in
      let before : IsTrue old.tells = subst IsTrue tells told in
      stands.same before b block was.1 ∙ sym (same before b (subst (λ (n : ℕ). n ≤ b) is was.0));
}
