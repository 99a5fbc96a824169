-- What VVBNs lead to after a block is placed.
use Rattle.std.proofs.Common.{◌≡◌, ◌≢◌, ◌<◌, ◌≤◌, ◌-◌, ℕ, zero, suc, Bool, true, false, ◌||◌, ◌&&◌, cond, List, [], ◌∷◌, length, Option, Some, None, refl, sym, ap, ap₂, subst, ◌∙◌, inl, inr, arith, get_or-set_same, get_or-set_other}
use Rattle.std.specs.Prelude.{IfSome, nat_le, slice_index_or, slice_set}
use Rattle.std.specs.Option.{ForSome}
use Rattle.std.specs.Ordering.{nat_cmp, eq_by_cmp}
use Rattle.std.specs.Cmp.{nat_cmp_total}
use Rattle.std.specs.FinMap as fin
use Rattle.std.proofs.lemmas.Bool.{cases_eq}
use Rattle.std.proofs.lemmas.Bool.Decides.{nat_tests}
use Rattle.std.proofs.lemmas.List.Elements.{All-get_or}
use Rattle.fv_disk.specs.Shown.{Image, Shown as Disk}
use Rattle.fv_aggmap.specs.Space.{Space, is_held}
use Rattle.fv_bits.specs.Members.{is_member}
use Rattle.fv_container.specs.declared.entry.Entry.{Entry}
use Rattle.fv_container.specs.Chains.{Slots, along, chain_entry, container_at, or_else, own_entry, parent_at}
use Rattle.fv_container.specs.Mapped.{Mapped}
use Rattle.fv_volmap.specs.Slots.{Allocates, IsVolume, Slot, Volume, active_of, has, map_or_empty, slot_at, taken_in}
use Rattle.fv_tree.specs.declared.blocks.Placed.{Placed}
use Rattle.fv_pool.specs.declared.pool.Pool.{Pool}
use Rattle.fv_pool.specs.Keeping.{Blocks, kept_or, seen}
use Rattle.fv_pool.specs.BlocksOver.{AreApart, HoldsMore, IsKeptBack, KeepsMaps, OtherPlace, PlacesBlock, SetsEntry, TellsEntries, given_back, block_of, held_entry}

-- ---- the container

along_step : (slots : Slots) (n slot v : ℕ) → 0 < n → along slots n (Some slot) v ≡ or_else (own_entry (container_at slots slot) v) (along slots (n - 1) (parent_at slots slot) v)
unfolding along
along_step slots zero slot v some = absurd (omega (arith, some))
along_step slots (suc n) slot v some = let e : suc n - 1 ≡ n = omega arith in rw e refl

module _ (disk : Disk) (slots new : Slots) (slot v : ℕ) (e : Entry) (sets : SetsEntry disk slots slot v e new) where
  own_other : (at w : ℕ) → w ≢ v → own_entry (container_at new at) w ≡ own_entry (container_at slots at) w
  own_other at w other = elim (cases_eq at slot) [
    | inl same ↦ subst (λ (n : ℕ). own_entry (container_at new n) w ≡ own_entry (container_at slots n) w) (sym same) (sets.rest w other)
    | inr differs ↦ ap (λ (m : Option Mapped). own_entry m w) (sets.others at differs)
  ]

  pub along_other : (n : ℕ) (at : Option ℕ) (w : ℕ) → w ≢ v → along new n at w ≡ along slots n at w
  unfolding along
  along_other zero at w other = refl
  along_other (suc n) None w other = refl
  along_other (suc n) (Some at) w other =
      ap₂ or_else (own_other at w other) (ap (λ (parents : List (Option ℕ)). along new n (slice_index_or parents at None) w) sets.parents ∙ along_other n (parent_at slots at) w other)

  pub chain_new : chain_entry new slot v ≡ Some e
  chain_new = along_step new 64 slot v (omega arith) ∙ ap (λ o. or_else o (along new (64 - 1) (parent_at new slot) v)) sets.here

-- leaves that came into memory change no entry
along_kept : (disk : Disk) (slots new : Slots) → KeepsMaps disk slots new → (n : ℕ) (at : Option ℕ) (w : ℕ) → along new n at w ≡ along slots n at w
unfolding along
along_kept disk slots new kept zero at w = refl
along_kept disk slots new kept (suc n) None w = refl
along_kept disk slots new kept (suc n) (Some at) w =
    ap₂ or_else (ap (λ (m : Option Mapped). own_entry m w) (kept.maps at)) (ap (λ (parents : List (Option ℕ)). along new n (slice_index_or parents at None) w) kept.parents ∙ along_kept disk slots new kept n (parent_at slots at) w)

pub held_kept : (disk : Disk) (map : Volume) (slots new : Slots) (slot w : ℕ) → KeepsMaps disk slots new → held_entry map new slot w ≡ held_entry map slots slot w
unfolding held_entry
held_kept disk map slots new slot w kept = ap (λ o. cond (nat_le w 1048575 && taken_in map.slots w) o None) (along_kept disk slots new kept 64 (Some slot) w)

-- ---- the maps

taken_more : (span : ℕ) (slots : List Slot) (v w : ℕ) → slice_index_or slots 0 None ≡ Some (map_or_empty span (slice_index_or slots 0 None)) → w ≢ v
    → taken_in (slice_set slots 0 (Some (slice_set (map_or_empty span (slice_index_or slots 0 None)) v true))) w ≡ taken_in slots w
unfolding is_member
taken_more span [] v w is other = cc
taken_more span (None ∷ ss) v w is other = cc
taken_more span (Some a ∷ ss) v w is other = ap (λ (t : Bool). t || taken_in ss w) (get_or-set_other a v w true false other)

taken_first : (span : ℕ) (slots : List Slot) (v : ℕ) → slice_index_or slots 0 None ≡ Some (map_or_empty span (slice_index_or slots 0 None)) → v < length (map_or_empty span (slice_index_or slots 0 None))
    → taken_in (slice_set slots 0 (Some (slice_set (map_or_empty span (slice_index_or slots 0 None)) v true))) v ≡ true
unfolding is_member
taken_first span [] v is within = cc
taken_first span (None ∷ ss) v is within = cc
taken_first span (Some a ∷ ss) v is within = ap (λ (t : Bool). t || taken_in ss v) (get_or-set_same a v true false within)

module _ (map after : Volume) (v : ℕ) (is : IsVolume map) (number : Allocates map v after) where
  pub others_taken : (w : ℕ) → w ≢ v → taken_in after.slots w ≡ taken_in map.slots w
  others_taken w other = ap (λ (m : Volume). taken_in m.slots w) number.volume ∙ taken_more map.span map.slots v w is.active other

  active_long : v < length (active_of map)
  active_long =
      let all = All-get_or (λ (slot : Slot). IfSome slot (λ m. length m ≡ map.span)) map.slots 0 None (omega (arith, is.count)) is.long in
      let long : length (active_of map) ≡ map.span = subst (λ (s : Slot). IfSome s (λ m. length m ≡ map.span)) is.active all in
      omega (arith, long, number.within)

  own_taken : taken_in after.slots v ≡ true
  own_taken = ap (λ (m : Volume). taken_in m.slots v) number.volume ∙ taken_first map.span map.slots v is.active active_long

-- ---- what VVBNs lead to

-- a number that a slot has is taken
pub has_taken : (slots : List Slot) (k v : ℕ) → has v (slice_index_or slots k None) ≡ true → taken_in slots v ≡ true
has_taken [] k v is = absurd cc
has_taken (s ∷ ss) zero v is = ap (λ (b : Bool). b || taken_in ss v) is
has_taken (s ∷ ss) (suc k) v is = later (has v s) (taken_in ss v) (has_taken ss k v is)
  where
    later : (a b : Bool) → b ≡ true → (a || b) ≡ true
    later true b is = refl
    later false b is = is

-- Where a slot stays, each number of it leads to the same entry, whatever the others have.
pub same_entry : (old new : Volume) (slots : Slots) (at k v : ℕ) → slot_at new k ≡ slot_at old k → has v (slot_at old k) ≡ true → held_entry new slots at v ≡ held_entry old slots at v
unfolding held_entry
same_entry old new slots at k v same is =
    let before : taken_in old.slots v ≡ true = has_taken old.slots k v is in
    let after : taken_in new.slots v ≡ true = has_taken new.slots k v (ap (has v) same ∙ is) in
    ap (λ (b : Bool). cond (nat_le v 1048575 && b) (chain_entry slots at v) None) (after ∙ sym before)

pub held_none : (map : Volume) (slots : Slots) (slot v : ℕ) → taken_in map.slots v ≡ false → held_entry map slots slot v ≡ None
unfolding held_entry
held_none map slots slot v free =
    let no : (nat_le v 1048575 && taken_in map.slots v) ≡ false = grind (arith, nat_tests, free) in
    ap (λ t. cond t (chain_entry slots slot v) None) no

pub held_some : (map : Volume) (slots : Slots) (slot v : ℕ) → v ≤ 1048575 → taken_in map.slots v ≡ true → held_entry map slots slot v ≡ chain_entry slots slot v
unfolding held_entry
held_some map slots slot v few taken =
    let both : (nat_le v 1048575 && taken_in map.slots v) ≡ true = grind (arith, nat_tests, few, taken) in
    ap (λ t. cond t (chain_entry slots slot v) None) both

pub held_same : (map after : Volume) (slots new : Slots) (slot w : ℕ) → taken_in after.slots w ≡ taken_in map.slots w → chain_entry new slot w ≡ chain_entry slots slot w → held_entry after new slot w ≡ held_entry map slots slot w
unfolding held_entry
held_same map after slots new slot w taken chain = ap₂ (λ t o. cond (nat_le w 1048575 && t) o None) taken chain

-- ---- kept blocks

pub seen_new : (kept : Blocks) (b : ℕ) (block : List ℕ) (i : Image) → seen (fin.insert kept b block) i b ≡ block
seen_new kept b block i =
    let same : eq_by_cmp nat_cmp b b ≡ true = grind (arith, nat_tests) in
    ap (λ o. kept_or o (i b)) (fin.get-insert nat_cmp_total kept b block b ∙ ap (λ t. cond t (Some block) (fin.get kept b)) same)

seen_other : (kept : Blocks) (b p : ℕ) (block : List ℕ) (i : Image) → p ≢ b → seen (fin.insert kept b block) i p ≡ seen kept i p
seen_other kept b p block i other =
    let no : eq_by_cmp nat_cmp p b ≡ false = grind (arith, nat_tests, other) in
    ap (λ o. kept_or o (i p)) (fin.get-insert nat_cmp_total kept b block p ∙ ap (λ t. cond t (Some block) (fin.get kept p)) no)

-- a block that neither root holds, the next one doesn't hold
pub not_next : (committed next : List Bool) (b : ℕ) → is_held committed next b ≡ false → is_member next b ≡ false
not_next committed next b free = right (is_member committed b) (is_member next b) free
  where
    right : (s t : Bool) → (s || t) ≡ false → t ≡ false
    right true t isnt = let wrong : true ≡ false = isnt in cc
    right false t isnt = isnt

pub block_other : (kept : Blocks) (b : ℕ) (block : List ℕ) (i : Image) (space : Space) (entry : Option Entry) → is_held space.committed space.next b ≡ false → IfSome entry (IsKeptBack space)
    → block_of (fin.insert kept b block) i entry ≡ block_of kept i entry
block_other kept b block i space None free held = refl
block_other kept b block i space (Some e) free held = ap Some (seen_other kept b e.pvbn block i (λ same. let no : true ≡ false = sym held ∙ (ap (is_member space.next) same ∙ not_next space.committed space.next b free) in cc))

-- ---- entries that lie apart

map_some : {A : Type 0} {P Q : A → Type 0} (o : Option A) → ((a : A) → P a → Q a) → IfSome o P → IfSome o Q
map_some None f p = tt
map_some (Some a) f p = f a p

-- two ways to say of an option what holds of its value
pub as_if : {A : Type 0} {P : A → Type 0} (o : Option A) → ForSome o P → IfSome o P
as_if None all = tt
as_if (Some a) all = all a refl

pub as_for : {A : Type 0} (P : A → Type 0) (o : Option A) → IfSome o P → ForSome o P
as_for {A = A} P o p a is = subst (λ (x : Option A). IfSome x P) is p

pub as_ifs : {A : Type 0} {P : A → A → Type 0} (o q : Option A) → ForSome o (λ a. ForSome q (P a)) → IfSome o (λ a. IfSome q (P a))
as_ifs o q all = map_some o (λ a inner. as_if q inner) (as_if o all)

pub as_fors : {A : Type 0} (P : A → A → Type 0) (o q : Option A) → IfSome o (λ a. IfSome q (P a)) → ForSome o (λ a. ForSome q (P a))
as_fors P o q both a is b there = as_for (P a) q (as_for (λ x. IfSome q (P x)) o both a is) b there

module _ (old : Space) (b : ℕ) (free : is_held old.committed old.next b ≡ false) (within : b < length old.next) where
  not_free : (p : ℕ) → is_member old.next p ≡ true → p ≢ b
  not_free p held same = let no : true ≡ false = sym held ∙ (ap (is_member old.next) same ∙ not_next old.committed old.next b free) in cc

  abbrev taken_of : Space
  taken_of = record old { next = slice_set old.next b true }

  taken_other : (p : ℕ) → p ≢ b → is_member taken_of.next p ≡ is_member old.next p
  unfolding is_member
  taken_other p other = get_or-set_other old.next b p true false other

  taken_own : is_member taken_of.next b ≡ true
  unfolding is_member
  taken_own = get_or-set_same old.next b true false within

  cleared_other : (xs : List Bool) (d p : ℕ) → p ≢ d → is_member (slice_set xs d false) p ≡ is_member xs p
  unfolding is_member
  cleared_other xs d p other = get_or-set_other xs d p false false other

  back_other : (before : Option Entry) (p : ℕ) → p ≢ b → IfSome before (λ d. p ≢ d.pvbn) → is_member (given_back taken_of before).next p ≡ is_member old.next p
  back_other None p other apart = taken_other p other
  back_other (Some d) p other apart = cleared_other taken_of.next d.pvbn p apart ∙ taken_other p other

  back_own : (before : Option Entry) → IfSome before (λ d. b ≢ d.pvbn) → is_member (given_back taken_of before).next b ≡ true
  back_own None apart = taken_own
  back_own (Some d) apart = cleared_other taken_of.next d.pvbn b apart ∙ taken_own

-- what two families of entries have to do with a volume's own
pub record IsFamily (space : Space) (own family : ℕ → Option Entry) : Type 0 where
  pub back : (w : ℕ) → IfSome (family w) (IsKeptBack space)
  pub apart : (v w : ℕ) → w ≢ v → IfSome (own v) (λ e. IfSome (family w) (OtherPlace e))

module _ (old new : Space) (b v kind : ℕ) (own own_after family after : ℕ → Option Entry) (free : is_held old.committed old.next b ≡ false) (within : b < length old.next)
    (space : new ≡ given_back (record old { next = slice_set old.next b true }) (own v))
    (own_back : (w : ℕ) → IfSome (own w) (IsKeptBack old))
    (own_is : own_after v ≡ Some (record { pvbn = b; kind = kind })) (own_others : (w : ℕ) → w ≢ v → own_after w ≡ own w)
    (is : after v ≡ Some (record { pvbn = b; kind = kind })) (others : (w : ℕ) → w ≢ v → after w ≡ family w)
    (family_is : IsFamily old own family) where
  before_apart : IfSome (own v) (λ d. b ≢ d.pvbn)
  before_apart = map_some (own v) (λ d back same. not_free old b free within d.pvbn back (sym same)) (own_back v)

  back_new : is_member new.next b ≡ true
  back_new = ap (λ (s : Space). is_member s.next b) space ∙ back_own old b free within (own v) before_apart

  turn : (o : Option Entry) (e : Entry) → IfSome o (λ d. OtherPlace d e) → IfSome o (λ d. e.pvbn ≢ d.pvbn)
  turn o e apart = map_some o (λ d other. other) apart

  swap : (o p : Option Entry) → IfSome o (λ d. IfSome p (OtherPlace d)) → IfSome p (λ e. IfSome o (λ d. e.pvbn ≢ d.pvbn))
  swap None None all = tt
  swap None (Some e) all = tt
  swap (Some d) None all = tt
  swap (Some d) (Some e) all = all

  both : (o : Option Entry) (P Q : Entry → Type 0) → IfSome o P → IfSome o Q → IfSome o (λ e. P e × Q e)
  both None P Q p q = tt
  both (Some e) P Q p q = (p, q)

  pub kept_back : (w : ℕ) → IfSome (after w) (IsKeptBack new)
  kept_back w = elim (cases_eq w v) [
    | inl same ↦ subst (λ (n : ℕ). IfSome (after n) (IsKeptBack new)) (sym same) (subst (λ (o : Option Entry). IfSome o (IsKeptBack new)) (sym is) back_new)
    | inr other ↦ subst (λ (o : Option Entry). IfSome o (IsKeptBack new)) (sym (others w other))
        (map_some (family w) (λ e held. ap (λ (s : Space). is_member s.next e.pvbn) space ∙ (back_other old b free within (own v) e.pvbn (not_free old b free within e.pvbn held.0) held.1 ∙ held.0))
        (both (family w) (IsKeptBack old) (λ e. IfSome (own v) (λ d. e.pvbn ≢ d.pvbn)) (family_is.back w) (swap (own v) (family w) (family_is.apart v w other))))
  ]

  pub still_apart : (x w : ℕ) → w ≢ x → IfSome (own_after x) (λ e. IfSome (after w) (OtherPlace e))
  still_apart x w differs = elim (cases_eq x v) [
    | inl same ↦ subst (λ (n : ℕ). IfSome (own_after n) (λ e. IfSome (after w) (OtherPlace e))) (sym same)
        (subst (λ (o : Option Entry). IfSome o (λ e. IfSome (after w) (OtherPlace e))) (sym own_is)
        (let other : w ≢ v = λ eq. differs (eq ∙ sym same) in
        subst (λ (o : Option Entry). IfSome o (λ f. f.pvbn ≢ b)) (sym (others w other)) (map_some (family w) (λ f held. not_free old b free within f.pvbn held) (family_is.back w))))
    | inr other ↦ subst (λ (o : Option Entry). IfSome o (λ e. IfSome (after w) (OtherPlace e))) (sym (own_others x other)) (beside x w differs other)
  ]
    where
      beside : (x w : ℕ) → w ≢ x → x ≢ v → IfSome (own x) (λ e. IfSome (after w) (OtherPlace e))
      beside x w differs other = elim (cases_eq w v) [
        | inl same ↦ map_some (own x) (λ e held. subst (λ (n : ℕ). IfSome (after n) (OtherPlace e)) (sym same)
            (subst (λ (o : Option Entry). IfSome o (OtherPlace e)) (sym is) (λ eq. not_free old b free within e.pvbn held (sym eq)))) (own_back x)
        | inr another ↦ subst (λ (o : Option Entry). IfSome (own x) (λ e. IfSome o (OtherPlace e))) (sym (others w another)) (family_is.apart x w differs)
      ]

-- ---- together

module _ (disk : Disk) (old : Pool) (map : Volume) (slot kind : ℕ) (block : List ℕ) (new : Pool) (after : Volume) (placed : Placed) (places : PlacesBlock disk old map slot kind block new after placed)
    (is : IsVolume map) (few : map.span ≤ 1048576) where
  abbrev entry_of : Entry
  entry_of = record { pvbn = placed.pvbn; kind = kind }

  entry_new : held_entry after new.containers slot placed.vvbn ≡ Some entry_of
  entry_new = held_some after new.containers slot placed.vvbn (omega (arith, few, places.takes.number.within)) (own_taken map after placed.vvbn is places.takes.number)
      ∙ chain_new disk old.containers new.containers slot placed.vvbn entry_of places.entry

  entry_other : (w : ℕ) → w ≢ placed.vvbn → held_entry after new.containers slot w ≡ held_entry map old.containers slot w
  entry_other w other = held_same map after old.containers new.containers slot w (others_taken map after placed.vvbn is places.takes.number w other)
      (along_other disk old.containers new.containers slot placed.vvbn entry_of places.entry 64 (Some slot) w other)

  space_is : TellsEntries disk old.containers → new.map ≡ given_back (record old.map { next = slice_set old.map.next placed.pvbn true }) (own_entry (container_at old.containers slot) placed.vvbn)
  space_is tells = places.space ∙ ap₂ given_back places.takes.taken (places.told tells)

  own_is : own_entry (container_at new.containers slot) placed.vvbn ≡ Some entry_of
  own_is = places.entry.here

  own_others : (w : ℕ) → w ≢ placed.vvbn → own_entry (container_at new.containers slot) w ≡ own_entry (container_at old.containers slot) w
  own_others = places.entry.rest

  abbrev owned : ℕ → Option Entry
  owned = own_entry (container_at old.containers slot)

  abbrev owned_after : ℕ → Option Entry
  owned_after = own_entry (container_at new.containers slot)

  abbrev held : ℕ → Option Entry
  held = held_entry map old.containers slot

  abbrev held_after : ℕ → Option Entry
  held_after = held_entry after new.containers slot

  owns : AreApart old map slot → IsFamily old.map owned owned
  owns apart = record { back = λ v. as_if (owned v) (apart.own v); apart = λ v w other. as_ifs (owned v) (owned w) (apart.own_apart v w other) }

  holds : AreApart old map slot → IsFamily old.map owned held
  holds apart = record { back = λ v. as_if (held v) (apart.held v); apart = λ v w other. as_ifs (owned v) (held w) (apart.held_apart v w other) }

  stays_apart : TellsEntries disk old.containers → AreApart old map slot → AreApart new after slot
  stays_apart tells apart =
      let own_back : (v : ℕ) → IfSome (owned v) (IsKeptBack old.map) = λ v. as_if (owned v) (apart.own v) in
      record {
        own = λ v. as_for (IsKeptBack new.map) (owned_after v) (kept_back old.map new.map placed.pvbn placed.vvbn kind owned owned_after owned owned_after places.takes.free.free places.takes.within (space_is tells) own_back own_is own_others own_is own_others (owns apart) v);
        held = λ v. as_for (IsKeptBack new.map) (held_after v) (kept_back old.map new.map placed.pvbn placed.vvbn kind owned owned_after held held_after places.takes.free.free places.takes.within (space_is tells) own_back own_is own_others entry_new entry_other (holds apart) v);
        own_apart = λ v w other. as_fors OtherPlace (owned_after v) (owned_after w) (still_apart old.map new.map placed.pvbn placed.vvbn kind owned owned_after owned owned_after places.takes.free.free places.takes.within (space_is tells) own_back own_is own_others own_is own_others (owns apart) v w other);
        held_apart = λ v w other. as_fors OtherPlace (owned_after v) (held_after w) (still_apart old.map new.map placed.pvbn placed.vvbn kind owned owned_after held held_after places.takes.free.free places.takes.within (space_is tells) own_back own_is own_others entry_new entry_other (holds apart) v w other);
      }

  pub holds_placed : HoldsMore disk old map slot kind block new after placed
  holds_placed = record {
    fresh = held_none map old.containers slot placed.vvbn places.takes.number.free;
    entry = entry_new;
    others = entry_other;
    content = λ i. ap (block_of new.kept i) entry_new ∙ ap Some (ap (λ k. seen k i placed.pvbn) places.kept ∙ seen_new old.kept placed.pvbn block i);
    contents = λ apart i w other. ap (block_of new.kept i) (entry_other w other) ∙ (ap (λ k. block_of k i (held_entry map old.containers slot w)) places.kept
        ∙ block_other old.kept placed.pvbn block i old.map (held_entry map old.containers slot w) places.takes.free.free (as_if (held w) (apart.held w)));
    apart = stays_apart;
  }
