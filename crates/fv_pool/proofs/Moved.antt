-- What VVBNs lead to after a block moved.
use Rattle.std.proofs.Common.{◌≡◌, ◌≢◌, ◌≤◌, ℕ, true, List, Option, Some, refl, ap, ap₂, ◌∙◌}
use Rattle.std.specs.Prelude.{IfSome, slice_set}
use Rattle.fv_disk.specs.Shown.{Image, Shown as Disk}
use Rattle.fv_codec.specs.Blocks.{last_place}
use Rattle.fv_container.specs.declared.entry.Entry.{Entry}
use Rattle.fv_container.specs.Chains.{TellsEntries, container_at, own_entry}
use Rattle.fv_volmap.specs.Slots.{Volume, taken_in}
use Rattle.fv_pool.specs.declared.pool.Pool.{Pool}
use Rattle.fv_pool.specs.Keeping.{seen}
use Rattle.fv_pool.specs.BlocksOver.{AreApart, IsKeptBack, OtherPlace, block_of, given_back, held_entry}
use Rattle.fv_pool.specs.Moving.{HoldsMoved, MovesBlock}
use Rattle.fv_pool.proofs.Holding.{IsFamily, along_other, as_for, as_fors, as_if, as_ifs, block_other, chain_new, held_same, held_some, kept_back, seen_new, still_apart}

module _ (disk : Disk) (old : Pool) (map : Volume) (slot vvbn kind : ℕ) (block : List ℕ) (new : Pool) (moves : MovesBlock disk old slot vvbn kind block new) where
  abbrev entry_of : Entry
  entry_of = record { pvbn = moves.place; kind = kind }

  entry_other : (w : ℕ) → w ≢ vvbn → held_entry map new.containers slot w ≡ held_entry map old.containers slot w
  entry_other w other = held_same map map old.containers new.containers slot w refl (along_other disk old.containers new.containers slot vvbn entry_of moves.entry 64 (Some slot) w other)

  space_is : TellsEntries disk old.containers → new.map ≡ given_back (record old.map { next = slice_set old.map.next moves.place true }) (own_entry (container_at old.containers slot) vvbn)
  space_is tells = moves.space ∙ ap₂ given_back moves.takes.taken (moves.told tells)

  abbrev owned : ℕ → Option Entry
  owned = own_entry (container_at old.containers slot)

  abbrev owned_after : ℕ → Option Entry
  owned_after = own_entry (container_at new.containers slot)

  abbrev held : ℕ → Option Entry
  held = held_entry map old.containers slot

  abbrev held_after : ℕ → Option Entry
  held_after = held_entry map new.containers slot

  owns : AreApart old map slot → IsFamily old.map owned owned
  owns apart = record { back = λ v. as_if (owned v) (apart.own v); apart = λ v w other. as_ifs (owned v) (owned w) (apart.own_apart v w other) }

  holds : AreApart old map slot → IsFamily old.map owned held
  holds apart = record { back = λ v. as_if (held v) (apart.held v); apart = λ v w other. as_ifs (owned v) (held w) (apart.held_apart v w other) }

  module _ (few : vvbn ≤ last_place) (taken : taken_in map.slots vvbn ≡ true) where
    entry_new : held_after vvbn ≡ Some entry_of
    entry_new = held_some map new.containers slot vvbn few taken ∙ chain_new disk old.containers new.containers slot vvbn entry_of moves.entry

    stays_apart : TellsEntries disk old.containers → AreApart old map slot → AreApart new map slot
    stays_apart tells apart =
        let own_back : (v : ℕ) → IfSome (owned v) (IsKeptBack old.map) = λ v. as_if (owned v) (apart.own v) in
        record {
          own = λ v. as_for (IsKeptBack new.map) (owned_after v) (kept_back old.map new.map moves.place vvbn kind owned owned_after owned owned_after moves.takes.free.free moves.takes.within (space_is tells) own_back moves.entry.here moves.entry.rest moves.entry.here moves.entry.rest (owns apart) v);
          held = λ v. as_for (IsKeptBack new.map) (held_after v) (kept_back old.map new.map moves.place vvbn kind owned owned_after held held_after moves.takes.free.free moves.takes.within (space_is tells) own_back moves.entry.here moves.entry.rest entry_new entry_other (holds apart) v);
          own_apart = λ v w other. as_fors OtherPlace (owned_after v) (owned_after w) (still_apart old.map new.map moves.place vvbn kind owned owned_after owned owned_after moves.takes.free.free moves.takes.within (space_is tells) own_back moves.entry.here moves.entry.rest moves.entry.here moves.entry.rest (owns apart) v w other);
          held_apart = λ v w other. as_fors OtherPlace (owned_after v) (held_after w) (still_apart old.map new.map moves.place vvbn kind owned owned_after held held_after moves.takes.free.free moves.takes.within (space_is tells) own_back moves.entry.here moves.entry.rest entry_new entry_other (holds apart) v w other);
        }

    -- A number that a slot of the maps has leads to the block, and each other one to what it led to.
    pub holds_moved : HoldsMoved disk old map slot vvbn kind block new moves.place
    holds_moved = record {
      entry = entry_new;
      others = entry_other;
      content = λ i. ap (block_of new.kept i) entry_new ∙ ap Some (ap (λ k. seen k i moves.place) moves.kept ∙ seen_new old.kept moves.place block i);
      contents = λ apart i w other. ap (block_of new.kept i) (entry_other w other) ∙ (ap (λ k. block_of k i (held w)) moves.kept
          ∙ block_other old.kept moves.place block i old.map (held w) moves.takes.free.free (as_if (held w) (apart.held w)));
      apart = stays_apart;
    }
