-- Root pointers of a volume's label: what a search from them says, and their places.
use Rattle.std.proofs.Common.{◌≡◌, ℕ, zero, suc, ◌+◌, ◌<◌, ◌≤◌, Bool, true, false, List, [], ◌∷◌, map, length, get_or, take, drop, Option, Some, None, refl, sym, ap, subst, ◌∙◌, arith}
use Rattle.std.specs.Prelude.{All, is_some, ◌&&◌, nat_le, nat_lt, slice_set}
use Rattle.std.specs.List.{list_all}
use Rattle.std.proofs.lemmas.Bool.Decides.{nat_tests}
use Rattle.std.proofs.lemmas.List.{length-map, drop_all, drop_more, get_or-set_same, get_or-set_other, take_all}
use Rattle.fv_codec.specs.declared.pointer.Pointer.{Pointer}
use Rattle.fv_tables.specs.Spelled.{hole}
use Rattle.fv_image.specs.Views.{Placed, Snap as HeadSnap}
use Rattle.fv_image.specs.HintRules.{is_unknown}
use Rattle.fv_image.specs.Mapped.{AreInSlots, is_rising, stored_slots}
use Rattle.fv_volume.specs.declared.state.Snap.{Snap}
use Rattle.fv_volume.specs.declared.state.VolumeState.{VolumeState}
use Rattle.fv_volume.specs.States.{head_in, snap_in}
use Rattle.fv_cleaner.specs.declared.searching.Found.{Found}
use Rattle.fv_cleaner.specs.Searching.{LeadBelow, LeadsBelow, Lies, Searches}
use Rattle.fv_cleaner.specs.Stepping.{ArePlacesOf, IsPlaceOf, IsRootClear, SearchesRoot, SearchesRoots, root_of_snap, roots_of}

-- ---- all of a list

pub all_to : {A : Type 0} (P Q : A → Type 0) → ((x : A) → P x → Q x) → (xs : List A) → All P xs → All Q xs
all_to P Q more xs all k d low = more (get_or xs k d) (all k d low)

both : {A : Type 0} (P Q R : A → Type 0) → ((x : A) → P x → Q x → R x) → (xs : List A) → All P xs → All Q xs → All R xs
both P Q R more xs all two k d low = more (get_or xs k d) (all k d low) (two k d low)

none_of : {A : Type 0} (P : A → Type 0) (k : ℕ) (d : A) → k < 0 → P (get_or [] k d)
none_of P k d low = absurd (omega (arith, low))

all_cons : {A : Type 0} (P : A → Type 0) (x : A) (xs : List A) → P x → All P xs → (k : ℕ) (d : A) → k < suc (length xs) → P (get_or (x ∷ xs) k d)
all_cons P x xs one rest zero d low = one
all_cons P x xs one rest (suc k) d low = rest k d (omega (arith, low))

-- ---- the search from the roots

module _ (at : Lies) where
  pub root_searched : (p : Pointer) (b : List ℕ) (o : Option Found) → Searches at p.vvbn b o → SearchesRoot at p b o
  root_searched p b None searches = λ unknown. searches
  root_searched p b (Some f) searches = searches

  pub known_clear : (p : Pointer) → is_unknown p ≡ false → IsRootClear at p
  known_clear p known = λ unknown. let wrong : true ≡ false = sym unknown ∙ known in absurd cc

  -- one root was found to lead to a block to clean, or to none
  pub found_roots : (p : Pointer) (ps : List Pointer) (b : List ℕ) (o : Option Found) → is_some o ≡ true → SearchesRoot at p b o → SearchesRoots at ps b o
  found_roots p ps b None some searches = absurd cc
  found_roots p ps b (Some f) some searches = searches

  pub saw_root : (p : Pointer) (b : List ℕ) (o : Option Found) → is_some o ≡ false → SearchesRoot at p b o → IsRootClear at p
  saw_root p b None none searches = searches
  saw_root p b (Some f) none searches = absurd cc

  -- so it goes on, from one snapshot to the next
  abbrev AllClear : List Snap → Type 0
  AllClear xs = All (IsRootClear at) (map root_of_snap xs)

  pub clear_more : (xs : List Snap) (i : ℕ) (d : Snap) → i < length xs → IsRootClear at (root_of_snap (get_or xs i d)) → AllClear (drop (i + 1) xs) → AllClear (drop i xs)
  clear_more xs i d within clear rest = subst AllClear (sym (drop_more xs i d within)) (all_cons (IsRootClear at) (root_of_snap (get_or xs i d)) (map root_of_snap (drop (i + 1) xs)) clear rest)

  pub clear_end : (xs : List Snap) (i : ℕ) → length xs ≤ i → AllClear (drop i xs)
  clear_end xs i past = subst AllClear (sym (drop_all i xs past)) (none_of (IsRootClear at))

-- ---- where the roots lead

root_at : (xs : List Snap) (i : ℕ) (d : Snap) → i < length xs → get_or (map root_of_snap xs) i hole ≡ root_of_snap (get_or xs i d)
root_at [] i d within = absurd (omega (arith, within))
root_at (x ∷ xs) zero d within = refl
root_at (x ∷ xs) (suc i) d within = root_at xs i d (omega (arith, within))

module _ (at : Lies) (x : VolumeState) (lead : LeadBelow at 8 (roots_of x)) where
  pub active_leads : is_unknown x.active.root ≡ true → LeadsBelow at 8 x.active.root.vvbn
  active_leads unknown = lead 0 (omega arith) unknown

  pub snap_leads : (i : ℕ) (d : Snap) → i < length x.snapshots → is_unknown (root_of_snap (get_or x.snapshots i d)) ≡ true → LeadsBelow at 8 (root_of_snap (get_or x.snapshots i d)).vvbn
  snap_leads i d within unknown =
      let same = root_at x.snapshots i d within in
      let all = length-map x.snapshots root_of_snap in
      subst (λ (p : Pointer). LeadsBelow at 8 p.vvbn) same (lead (suc i) (omega (arith, within, all)) (ap is_unknown same ∙ unknown))

-- ---- the places of the roots

-- what was found over what lies there now was found over what lay there at first
pub place_from : (told now : Type 0) (at after : Lies) (p : Pointer) (place : ℕ) → (told → now) → after ≡ at → IsPlaceOf now after p place → IsPlaceOf told at p place
place_from told now at after p place carry same is = record {
  known = is.known;
  some = is.some;
  range = is.range;
  lies = λ tells unknown. subst (λ (a : Lies). (x : Placed) × ((a p.vvbn ≡ Some x) × (place ≡ x.pvbn))) same (is.lies (carry tells) unknown);
}

first : (a b : Bool) → (a && b) ≡ true → (a ≡ true) × (b ≡ true)
first true b e = (refl, e)
first false b e = absurd cc

-- each snapshot has a slot of its own, from 1 to 24
pub slot_within : (x : VolumeState) → AreInSlots (head_in x) → (i : ℕ) (d : Snap) → i < length x.snapshots → (1 ≤ (get_or x.snapshots i d).slot) × ((get_or x.snapshots i d).slot < 25)
slot_within x order = by x.snapshots order.within
  where
    tests : (s : ℕ) → (nat_le 1 s && nat_lt s stored_slots) ≡ true → (1 ≤ s) × (s < 25)
    tests s test = (grind (arith, nat_tests, test), grind (arith, nat_tests, test))

    by : (xs : List Snap) → list_all (λ (p : HeadSnap). nat_le 1 p.slot && nat_lt p.slot stored_slots) (map snap_in xs) ≡ true
        → (i : ℕ) (d : Snap) → i < length xs → (1 ≤ (get_or xs i d).slot) × ((get_or xs i d).slot < 25)
    by [] all i d inside = absurd (omega (arith, inside))
    by (y ∷ ys) all zero d inside = tests y.slot (first _ _ all).0
    by (y ∷ ys) all (suc i) d inside = by ys (first _ _ all).1 i d (omega (arith, inside))

abbrev slots_of_snaps : List Snap → List ℕ
slots_of_snaps xs = map (λ (p : HeadSnap). p.slot) (map snap_in xs)

later_at : (n : ℕ) (xs : List Snap) → list_all (nat_lt n) (slots_of_snaps xs) ≡ true → (i : ℕ) (d : Snap) → i < length xs → n < (get_or xs i d).slot
later_at n [] all i d inside = absurd (omega (arith, inside))
later_at n (y ∷ ys) all zero d inside = let less = (first (nat_lt n y.slot) _ all).0 in grind (arith, nat_tests, less)
later_at n (y ∷ ys) all (suc i) d inside = later_at n ys (first (nat_lt n y.slot) _ all).1 i d (omega (arith, inside))

-- those before a snapshot have lower slots
rising_before : (xs : List Snap) → is_rising (slots_of_snaps xs) ≡ true → (i : ℕ) (d : Snap) → i < length xs → All (λ (q : Snap). q.slot < (get_or xs i d).slot) (take i xs)
rising_before [] rising i d inside = absurd (omega (arith, inside))
rising_before (y ∷ ys) rising zero d inside = none_of (λ (q : Snap). q.slot < y.slot)
rising_before (y ∷ ys) rising (suc i) d inside =
    let parts = first (list_all (nat_lt y.slot) (slots_of_snaps ys)) (is_rising (slots_of_snaps ys)) rising in
    all_cons (λ (q : Snap). q.slot < (get_or ys i d).slot) y (take i ys) (later_at y.slot ys parts.0 i d (omega (arith, inside))) (rising_before ys parts.1 i d (omega (arith, inside)))

all_suc : (P : Snap → Type 0) (xs : List Snap) (i : ℕ) (d : Snap) → i < length xs → All P (take i xs) → P (get_or xs i d) → All P (take (suc i) xs)
all_suc P [] i d inside all here = absurd (omega (arith, inside))
all_suc P (y ∷ ys) zero d inside all here = all_cons P y [] here (none_of P)
all_suc P (y ∷ ys) (suc i) d inside all here =
    all_cons P y (take (suc i) ys) (all 0 y (omega arith)) (all_suc P ys i d (omega (arith, inside)) (λ k e low. all (suc k) e (omega (arith, low))) here)

module _ (told : Type 0) (at : Lies) where
  abbrev HasPlace : List ℕ → Snap → Type 0
  HasPlace places q = IsPlaceOf told at q.table.root (get_or places q.slot 0)

  -- one place more
  module _ (x : VolumeState) (order : AreInSlots (head_in x)) (i : ℕ) (d : Snap) (within : i < length x.snapshots) (places : List ℕ) (place : ℕ) (long : length places ≡ 25) where
    abbrev slot : ℕ
    slot = (get_or x.snapshots i d).slot

    pub places_active : IsPlaceOf told at x.active.root (get_or places 0 0) → IsPlaceOf told at x.active.root (get_or (slice_set places slot place) 0 0)
    places_active is = subst (IsPlaceOf told at x.active.root) (sym (get_or-set_other places slot 0 place 0 (λ same. absurd (omega (arith, same, (slot_within x order i d within).0))))) is

    pub places_more : All (HasPlace places) (take i x.snapshots) → IsPlaceOf told at (get_or x.snapshots i d).table.root place → All (HasPlace (slice_set places slot place)) (take (i + 1) x.snapshots)
    places_more before here =
        let up : suc i ≡ i + 1 = omega arith in
        let inside : slot < length places = omega (arith, long, (slot_within x order i d within).1) in
        let stay = both (HasPlace places) (λ (q : Snap). q.slot < slot) (HasPlace (slice_set places slot place))
        (λ q has less. subst (IsPlaceOf told at q.table.root) (sym (get_or-set_other places slot q.slot place 0 (λ same. absurd (omega (arith, same, less))))) has)
        (take i x.snapshots) before (rising_before x.snapshots order.rising i d within) in
        let set = subst (IsPlaceOf told at (get_or x.snapshots i d).table.root) (sym (get_or-set_same places slot place 0 inside)) here in
        subst (λ (n : ℕ). All (HasPlace (slice_set places slot place)) (take n x.snapshots)) up (all_suc (HasPlace (slice_set places slot place)) x.snapshots i d within stay set)

  pub places_end : (x : VolumeState) (i : ℕ) (places : List ℕ) → length x.snapshots ≤ i → IsPlaceOf told at x.active.root (get_or places 0 0) → All (HasPlace places) (take i x.snapshots) → ArePlacesOf told at x places
  places_end x i places past active all = record {
    active = active;
    snapshots = subst (All (HasPlace places)) (take_all i x.snapshots past) all;
  }
