-- What the tables of a volume share stays so where the active one changes or is placed, and over other blocks that agree.
use Rattle.std.proofs.Common.{◌≡◌, ◌≢◌, ◌<◌, ◌⊎◌, ℕ, true, false, inl, inr, List, [], Option, sym, ap, subst, ◌∙◌, arith}
use Rattle.std.specs.Prelude.{map, All}
use Rattle.std.proofs.lemmas.List.Elements.{All-nil}
use Rattle.fv_codec.specs.declared.pointer.Pointer.{Pointer}
use Rattle.fv_image.specs.ReachRules.{are_distinct}
use Rattle.fv_tables.specs.Spelled.{Under}
use Rattle.fv_tree.specs.Flushing.{Loaded}
use Rattle.fv_files.specs.Apart.{Trees}
use Rattle.fv_volume.specs.declared.state.Snap.{Snap}
use Rattle.fv_volume.specs.Sharing.{differs_in, pointer_in, trees_kept, AreShared, IsOneBlock, IsOnePlace, SharesWith, StandsInBlock}

-- ---- one place of a table

-- a place has the pointer that it had, and differs from its block only if it did
pub record IsAlike (old new : Option Loaded) (level place : ℕ) : Type 0 where
  pub pointer : pointer_in new level place ≡ pointer_in old level place
  pub differs : differs_in new level place ≡ differs_in old level place

-- A place shares nothing with a table: this has another stamp there, or none, and stands in no block with it.
pub record IsUnshared (a b : Trees) (o : Option ℕ) (level place : ℕ) : Type 0 where
  pub stamp : (pointer_in (b o) level place).stamp ≢ (pointer_in (a o) level place).stamp
  pub block : (u : Option ℕ) (k q v : ℕ) → StandsInBlock (a o) level place v → StandsInBlock (b u) k q v → ⊥

-- What a table shares with another stays so where each place of it that leads somewhere is as it was, or shares nothing.
module _ (a b c : Trees) (is : SharesWith a b) (places : (o : Option ℕ) (level place : ℕ) → ((pointer_in (c o) level place).stamp ≡ 0) ⊎ (IsUnshared c b o level place ⊎ IsAlike (a o) (c o) level place)) where
  stood_alike : (s t : Option Loaded) (level place v : ℕ) → IsAlike s t level place → StandsInBlock s level place v → StandsInBlock t level place v
  stood_alike s t level place v alike stands = record {
    some = λ none. stands.some (ap (λ (p : Pointer). p.stamp) (sym alike.pointer) ∙ none);
    same = alike.differs ∙ stands.same;
    vvbn = ap (λ (p : Pointer). p.vvbn) alike.pointer ∙ stands.vvbn;
  }

  back_alike : (s t : Option Loaded) (level place v : ℕ) → IsAlike s t level place → StandsInBlock t level place v → StandsInBlock s level place v
  back_alike s t level place v alike stands = record {
    some = λ none. stands.some (ap (λ (p : Pointer). p.stamp) alike.pointer ∙ none);
    same = sym alike.differs ∙ stands.same;
    vvbn = ap (λ (p : Pointer). p.vvbn) (sym alike.pointer) ∙ stands.vvbn;
  }

  pub shares_by : SharesWith c b
  shares_by = record { same = same_by; back = back_by }
    where
      same_by : (o : Option ℕ) (level place : ℕ) → (pointer_in (c o) level place).stamp ≢ 0 → (pointer_in (b o) level place).stamp ≡ (pointer_in (c o) level place).stamp → IsOneBlock (c o) (b o) level place
      same_by o level place some stamp = elim (places o level place) [
        | inl none ↦ absurd (some none)
        | inr (inl unshared) ↦ absurd (unshared.stamp stamp)
        | inr (inr alike) ↦ (
            let at = ap (λ (p : Pointer). p.stamp) alike.pointer in
            let one = is.same o level place (λ none. some (at ∙ none)) (stamp ∙ at) in
            record { vvbn = one.vvbn; first = stood_alike (a o) (c o) level place one.vvbn alike one.first; second = one.second })
      ]

      back_by : (o u : Option ℕ) (level place k q v : ℕ) → StandsInBlock (c o) level place v → StandsInBlock (b u) k q v → IsOnePlace c b o level place u k q
      back_by o u level place k q v first second = elim (places o level place) [
        | inl none ↦ absurd (first.some none)
        | inr (inl unshared) ↦ absurd (unshared.block u k q v first second)
        | inr (inr alike) ↦ (
            let one = is.back o u level place k q v (back_alike (a o) (c o) level place v alike first) second in
            record { tree = one.tree; level_is = one.level_is; place_is = one.place_is; stamp = ap (λ (p : Pointer). p.stamp) alike.pointer ∙ one.stamp })
      ]

-- ---- a change, and a flush

-- a place that differs from its block stands in none
stands_in_none : (s : Option Loaded) (level place v : ℕ) → differs_in s level place ≡ true → StandsInBlock s level place v → ⊥
stands_in_none s level place v differs stands = let wrong : true ≡ false = sym differs ∙ stands.same in cc

-- A place that a change stamped with a later stamp than the other table has shares nothing with it.
pub changed_unshared : (a b : Trees) (o : Option ℕ) (level place stamp : ℕ) → (pointer_in (a o) level place).stamp ≡ stamp → differs_in (a o) level place ≡ true → (pointer_in (b o) level place).stamp < stamp → IsUnshared a b o level place
changed_unshared a b o level place stamp stamped differs less = record {
  stamp = λ same. let at : (pointer_in (b o) level place).stamp ≡ stamp = same ∙ stamped in omega (arith, at, less);
  block = λ u k q v first second. stands_in_none (a o) level place v differs first;
}

-- So does one that differed from its block and was placed, under the stamp that it had, where the other table stands in no block.
pub placed_unshared : (a b c : Trees) → SharesWith a b → (o : Option ℕ) (level place : ℕ) → (pointer_in (c o) level place).stamp ≢ 0 → (pointer_in (c o) level place).stamp ≡ (pointer_in (a o) level place).stamp → differs_in (a o) level place ≡ true
    → ((u : Option ℕ) (k q : ℕ) → StandsInBlock (b u) k q (pointer_in (c o) level place).vvbn → ⊥) → IsUnshared c b o level place
placed_unshared a b c is o level place some stamp differed free = record {
  stamp = λ same.
      let one = is.same o level place (λ none. some (stamp ∙ none)) (same ∙ stamp) in
      stands_in_none (a o) level place one.vvbn differed one.first;
  block = λ u k q v first second. free u k q (subst (λ (w : ℕ). StandsInBlock (b u) k q w) (sym first.vvbn) second);
}

-- ---- the other way round

-- what the second table shares with the first
pub shares_back : (a b : Trees) → SharesWith a b → SharesWith b a
shares_back a b is = record {
  same = λ o level place some stamp.
      let one = is.same o level place (λ none. some (sym stamp ∙ none)) (sym stamp) in
      record { vvbn = one.vvbn; first = one.second; second = one.first };
  back = λ o u level place k q v first second.
      let one = is.back u o k q level place v second first in
      record { tree = sym one.tree; level_is = sym one.level_is; place_is = sym one.place_is; stamp = sym one.stamp };
}

-- ---- all tables of a volume

-- Where the active table is another, and the snapshots' stay.
pub shared_by : (a c : Trees) (blocks : ℕ → Under) (snaps : List Snap) → AreShared a blocks snaps → All (λ (q : Snap). SharesWith a (trees_kept blocks q) → SharesWith c (trees_kept blocks q)) snaps → AreShared c blocks snaps
shared_by a c blocks snaps is each = record { active = λ n q lt. each n q lt (is.active n q lt); kept = is.kept }

-- A volume without snapshots shares nothing, and has no names that could be the same.
pub none_shared : (a : Trees) (blocks : ℕ → Under) (snaps : List Snap) → snaps ≡ [] → AreShared a blocks snaps
none_shared a blocks snaps none = subst (AreShared a blocks) (sym none) (record { active = All-nil (λ (q : Snap). SharesWith a (trees_kept blocks q)); kept = All-nil (λ (q : Snap). All (λ (r : Snap). SharesWith (trees_kept blocks q) (trees_kept blocks r)) []) })

pub none_named : (snaps : List Snap) → snaps ≡ [] → are_distinct (map (λ (q : Snap). q.name) snaps) ≡ true
none_named snaps none = ap (λ (qs : List Snap). are_distinct (map (λ (q : Snap). q.name) qs)) none
