-- A volume comes into a slot that was free: all others are seen as before.
use Rattle.std.proofs.Common.{◌≡◌, ◌≢◌, ℕ, zero, suc, ◌<◌, Bool, true, false, not, [], map, refl, sym, ap, ap₂, ◌∙◌, arith}
use Rattle.std.specs.Prelude.{Option, Some, None, ◌&&◌, nat_lt, if◌then◌else◌}
use Rattle.std.specs.Option.{is_some, option_map, option_map_or, option_and_then, option_or}
use Rattle.std.proofs.lemmas.Bool.Decides.{nat_tests}
use Rattle.fv_tables.specs.Spelled.{Under}
use Rattle.fv_tables.specs.Told.{standing_at, records}
use Rattle.fv_tables.specs.Reached.{Item, items}
use Rattle.fv_image.specs.Views.{Placed, Rooted, Snap, Footing, Head, View}
use Rattle.fv_image.specs.Chains.{along, parent_in, place, under}
use Rattle.fv_image.specs.Volumes.{standing_of, snap_at, base_told, base_from, volume_with}
use Rattle.fv_image.specs.Seen.{VolumeSeen, root_seen, roots_of, base_root, based_on, base_seen, volume_seen, seen}
use Rattle.fv_image.specs.Soundness.{AreTables}
use Rattle.fv_image.proofs.SameSeen.{stands as stands_on}
use Rattle.fv_places.proofs.Alike.{base_alike, volume_alike}

module _ (w u : View) (t : ℕ) (is : AreTables (seen w)) (free : w.head t ≡ None) (others : (k : ℕ) → k ≢ t → u.head k ≡ w.head k)
    (entries : (k v : ℕ) → k ≢ t → u.entry k v ≡ w.entry k v) where
  -- a parent is a volume that was there
  pub parent_other : (k : ℕ) (f : Head) (b : Footing) → k < 64 → w.head k ≡ Some f → f.base ≡ Some b → (b.parent ≢ t) × (b.parent < 64)
  parent_other k f b inside there based = let footing = stands_on w is.bases is.rests k f b inside there based in
      (λ at. none_some footing.parent (sym free ∙ ap w.head (sym at) ∙ footing.there), footing.inside)
    where
      none_some : (f : Head) → ◌≡◌ {A = Option Head} None (Some f) → ⊥
      none_some f e = cc

  -- another volume finds its blocks where they were
  along_other : (n k q : ℕ) → k < 64 → k ≢ t → along u n k q ≡ along w n k q
  unfolding along
  along_other zero k q inside other = refl
  along_other (suc n) k q inside other =
      ap₂ (λ (o : Option Placed) (h : Option Head). option_or o (option_and_then (λ p. along u n p q) (parent_in h))) (entries k q other)
      (others k other)
      ∙ ap (option_or (w.entry k q)) (so (λ p low ne. along_other n p q low ne) (w.head k) refl)
    where
      by_base : ((p : ℕ) → p < 64 → p ≢ t → along u n p q ≡ along w n p q) → (f : Head) → w.head k ≡ Some f → (o : Option Footing)
          → f.base ≡ o → option_and_then (λ p. along u n p q) (option_map (λ (b : Footing). b.parent) o)
          ≡ option_and_then (λ p. along w n p q) (option_map (λ (b : Footing). b.parent) o)
      by_base rest f there None based = refl
      by_base rest f there (Some b) based = let parent = parent_other k f b inside there based in rest b.parent parent.1 parent.0

      so : ((p : ℕ) → p < 64 → p ≢ t → along u n p q ≡ along w n p q) → (o : Option Head) → w.head k ≡ o
          → option_and_then (λ p. along u n p q) (parent_in o) ≡ option_and_then (λ p. along w n p q) (parent_in o)
      so rest None there = refl
      so rest (Some f) there = by_base rest f there f.base refl

  place_other : (k q : ℕ) → k < 64 → k ≢ t → place u k q ≡ place w k q
  unfolding place
  place_other k q inside other =
      λ i. if nat_lt q (option_map_or (λ (h : Head). h.span) (others k other i) 0) then along_other 64 k q inside other i
      else entries k q other i

  -- so it stands as it stood
  standing_other : (k : ℕ) (r : Rooted) → k < 64 → k ≢ t → standing_of u k r ≡ standing_of w k r
  unfolding under
  standing_other k r inside other =
      ap (λ (n : Under). standing_at n r.levels r.root) (λ i q. option_map (λ (x : Placed). x.block) (place_other k q inside other i))

  -- its base is told as before
  base_told_other : (b : Footing) → b.parent < 64 → b.parent ≢ t → base_told u b (u.head b.parent) ≡ base_told w b (w.head b.parent)
  base_told_other b inside other =
      ap (base_told u b) (others b.parent other) ∙ base_alike w u b (λ r. standing_other b.parent r inside other) (w.head b.parent)

  -- and it is seen as before
  seen_other : (k : ℕ) (f : Head) → k < 64 → w.head k ≡ Some f → k ≢ t → volume_seen u k f ≡ volume_seen w k f
  unfolding volume_seen root_seen volume_with base_seen
  seen_other k f inside there other = λ i. record {
    head = f;
    volume = volume_alike w u k f (λ r. standing_other k r inside other) (base_from_same f.base refl) i;
    roots = map (λ (q : ℕ × Rooted). record {
      map = q.0;
      rooted = q.1;
      files = records (standing_other k q.1 inside other i);
      reached =
          map (λ (e : Item). record {
            item = e;
            at = place_other k e.pointer.vvbn inside other i;
            own = is_some
                (entries k e.pointer.vvbn other i);
          }) (items (standing_other k q.1 inside other i));
    }) (roots_of f);
    base = base_same f.base refl i;
  }
    where
      base_from_same : (o : Option Footing) → f.base ≡ o → base_from u o ≡ base_from w o
      base_from_same None based = refl
      base_from_same (Some b) based = let p = parent_other k f b inside there based in base_told_other b p.1 p.0

      on : (b : Footing) → b.parent < 64 → b.parent ≢ t → (o : Option Rooted)
          → option_map_or (based_on u k b) o [] ≡ option_map_or (based_on w k b) o []
      on b low ne None = refl
      on b low ne (Some q) =
          λ i. map (λ (e : Item). record { item = e; own = not b.splitting && is_some (entries k e.pointer.vvbn other i) })
          (items (standing_other b.parent q low ne i))

      base_same : (o : Option Footing) → f.base ≡ o
          → option_map_or (λ b. option_map_or (based_on u k b) (base_root u b) []) o []
          ≡ option_map_or (λ b. option_map_or (based_on w k b) (base_root w b) []) o []
      base_same None based = refl
      base_same (Some b) based = let p = parent_other k f b inside there based in
          ap (λ (o : Option Head). option_map_or (based_on u k b)
          (option_and_then (λ g. option_map (λ (p : Snap). p.table) (snap_at g b.slot)) o) []) (others b.parent p.0)
          ∙ on b p.1 p.0 (base_root w b)

  -- all slots but that one are
  pub others_seen : (k : ℕ) → k ≢ t → (seen u).volume k ≡ (seen w).volume k
  unfolding seen
  others_seen k other = ap (λ (o : Option Head). option_map (volume_seen u k) (if nat_lt k 64 then o else None)) (others k other)
      ∙ so (nat_lt k 64) refl (w.head k) refl
    where
      so : (b : Bool) → nat_lt k 64 ≡ b → (o : Option Head) → w.head k ≡ o
          → option_map (volume_seen u k) (if b then o else None) ≡ option_map (volume_seen w k) (if b then o else None)
      so false e o there = refl
      so true e None there = refl
      so true e (Some f) there = ap (λ (v : VolumeSeen). Some v) (seen_other k f (grind (arith, nat_tests, e)) there other)
