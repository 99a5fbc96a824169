-- What a volume has once blocks of it were placed and given up: its blocks are apart, and the next root holds them.
use Rattle.std.proofs.Common.{◌≡◌, ◌≢◌, ℕ, ◌<◌, ◌≤◌, Bool, true, false, not, ◌&&◌, ◌||◌, List, length, Option, Some, None, inl, inr, ⊎_elim, refl, sym, ap, subst, ◌∙◌, arith}
use Rattle.std.specs.Prelude.{◌⊎◌, IfSome}
use Rattle.std.proofs.lemmas.Bool.{and_from, and_parts, both_ways, cases_Bool, cases_lt, false_from_ne_true, not_from_false, or_cases, or_left, or_right}
use Rattle.std.proofs.lemmas.List.{get_or_past}
use Rattle.fv_disk.specs.Shown.{Shown}
use Rattle.fv_bits.specs.Members.{is_member}
use Rattle.fv_image.specs.Reclaimed.{IsAllocatable}
use Rattle.fv_image.specs.Views.{entry_count}
use Rattle.fv_aggmap.specs.Space.{blocks_of}
use Rattle.fv_container.specs.declared.entry.Entry.{Entry}
use Rattle.fv_container.specs.Chains.{Slots, TellsEntries, container_at, own_entry}
use Rattle.fv_container.specs.Mapped.{Mapped, entry_under}
use Rattle.fv_container.specs.Spelled.{is_at, names}
use Rattle.fv_files.specs.declared.files.Files.{Files}
use Rattle.fv_volmap.specs.Slots.{Volume as Maps}
use Rattle.fv_pool.specs.declared.noted.Noted.{Noted}
use Rattle.fv_pool.specs.declared.pool.Pool.{Pool}
use Rattle.fv_pool.specs.declared.rooted.Rooted.{Rooted}
use Rattle.fv_volume.specs.declared.state.VolumeState.{VolumeState}
use Rattle.fv_pool.specs.BlocksOver.{AreApart, entries_in}
use Rattle.fv_pool.specs.Lending.{GoesOver, IsNewEntry, IsOwn, MayTake, lent_by, lent_for, tree_in}
use Rattle.fv_volume.specs.OneVolume.{home_in}
use Rattle.fv_volume.specs.Stored.{AreApartIn, is_of, leads, place_at, place_in}
use Rattle.fv_volumes.proofs.Drawing.{at_itself, at_means, leads_at, leads_where, or_neither}
use Rattle.fv_volumes.proofs.Told.{none_some}

-- ---- what a slot's own entries lead to

module _ (slots : Slots) (s : ℕ) (map : Mapped) (lies : container_at slots s ≡ Some map) where
  pub own_at : (v : ℕ) → own_entry (container_at slots s) v ≡ entry_under map v
  own_at v = ap (λ (c : Option Mapped). own_entry c v) lies

  -- an entry lies below the number of entries
  entry_low : (v : ℕ) (e : Entry) → entry_under map v ≡ Some e → v < length map.entries
  entry_low v e at = ⊎_elim
      (λ (low : v < length map.entries). low)
      (λ (past : length map.entries ≤ v). absurd (none_some e (sym at ∙ get_or_past map.entries v None past)))
      (cases_lt v (length map.entries))

  pub own_leads : (count b : ℕ) → leads map count b ≡ true → IsOwn slots s b
  own_leads count b is = let at = leads_where map count b is in by at.vvbn (entry_under map at.vvbn) refl at.place at.some
    where
      by : (v : ℕ) (o : Option Entry) → entry_under map v ≡ o → place_in o ≡ b → b ≢ 0 → IsOwn slots s b
      by v None at place some = absurd (some (sym place))
      by v (Some e) at place some = record { vvbn = v; entry = e; stands = own_at v ∙ at; leads = place }

  pub leads_own : (count : ℕ) → length map.entries ≡ count → ((v : ℕ) → IfSome (entry_under map v) (λ e. 1 ≤ e.pvbn)) → (b : ℕ) → IsOwn slots s b → leads map count b ≡ true
  leads_own count long some b own =
      let at : entry_under map own.vvbn ≡ Some own.entry = sym (own_at own.vvbn) ∙ own.stands in
      let low = entry_low own.vvbn own.entry at in
      let least : 1 ≤ own.entry.pvbn = subst (λ (o : Option Entry). IfSome o (λ e. 1 ≤ e.pvbn)) at (some own.vvbn) in
      let to = own.leads in
      leads_at map count own.vvbn b (omega (arith, low, long)) (ap place_in at ∙ own.leads) (λ none. omega (arith, least, to, none))

same_truth : (a b : Bool) → (a ≡ true → b ≡ true) → (b ≡ true → a ≡ true) → a ≡ b
same_truth true b f g = sym (f refl)
same_truth false true f g = g refl
same_truth false false f g = refl

-- ---- what calls leave of it

module _ (d e : Shown) (p q : Pool) (x : VolumeState) (active : Rooted) (maps : Maps) (files : Option Files) (changed : Bool) (room left steps strays : ℕ) (noted : Noted)
    (over : GoesOver (lent_for p x.map d 0 (home_in x) room) (lent_by q maps e steps (home_in x) left strays noted))
    (map now : Mapped) (lies : container_at p.containers x.slot ≡ Some map) (lies_now : container_at q.containers x.slot ≡ Some now) (long : length map.entries ≡ entry_count x.span) (was : AreApartIn x map)
    (blocks : ℕ) (size : blocks_of p.map ≡ blocks) (held : (b : ℕ) → is_of x x.label map b ≡ true → (is_member p.map.next b ≡ true) × IsAllocatable blocks b) (told : AreApart q maps x.slot) (tells : TellsEntries d p.containers) where
  abbrev n : ℕ
  n = entry_count x.span

  -- the volume as it is left
  abbrev pub after : VolumeState
  after = record x { active = active; map = maps; files = files; changed = changed }

  pub tree_same : now.tree ≡ map.tree
  tree_same = ap tree_in (sym lies_now) ∙ over.shape.tree ∙ ap tree_in lies

  pub long_now : length now.entries ≡ n
  long_now = ap (λ (c : Option Mapped). length (entries_in c)) (sym lies_now) ∙ over.shape.count ∙ ap (λ (c : Option Mapped). length (entries_in c)) lies ∙ long

  same_entry : (v : ℕ) → own_entry (container_at q.containers x.slot) v ≡ own_entry (container_at p.containers x.slot) v → entry_under now v ≡ entry_under map v
  same_entry v same = sym (own_at q.containers x.slot now lies_now v) ∙ same ∙ own_at p.containers x.slot map lies v

  some_now : (v : ℕ) → IfSome (entry_under now v) (λ e. 1 ≤ e.pvbn)
  some_now v = ⊎_elim
      (λ same. subst (λ (o : Option Entry). IfSome o (λ e. 1 ≤ e.pvbn)) (sym (same_entry v same)) (was.some v))
      (λ (fresh : IsNewEntry (TellsEntries d p.containers) p.map p.containers q.containers x.slot v).
      let low = fresh.takes.lies.0 in
      let least : 1 ≤ fresh.entry.pvbn = omega (arith, low) in
      subst (λ (o : Option Entry). IfSome o (λ e. 1 ≤ e.pvbn)) (sym fresh.stands ∙ own_at q.containers x.slot now lies_now v) least)
      (over.entries v)

  led_was : (b : ℕ) → IsOwn p.containers x.slot b → leads map n b ≡ true
  led_was = leads_own p.containers x.slot map lies n long (λ v. was.some v)

  led_now : (b : ℕ) → IsOwn q.containers x.slot b → leads now n b ≡ true
  led_now = leads_own q.containers x.slot now lies_now n long_now some_now

  own_now : (b : ℕ) → leads now n b ≡ true → IsOwn q.containers x.slot b
  own_now = own_leads q.containers x.slot now lies_now n

  -- an entry that leads to a block now did so before, or the block could be taken
  owned : (b : ℕ) → IsOwn q.containers x.slot b → IsOwn p.containers x.slot b ⊎ MayTake (TellsEntries d p.containers) p.map p.containers x.slot b
  owned b own = ⊎_elim
      (λ same. inl (record { vvbn = own.vvbn; entry = own.entry; stands = sym same ∙ own.stands; leads = own.leads }))
      (λ (fresh : IsNewEntry (TellsEntries d p.containers) p.map p.containers q.containers x.slot own.vvbn).
      let same : fresh.entry ≡ own.entry = some_same fresh.entry own.entry (sym fresh.stands ∙ own.stands) in
      inr (subst (λ (k : ℕ). MayTake (TellsEntries d p.containers) p.map p.containers x.slot k) (ap (λ (e : Entry). e.pvbn) same ∙ own.leads) fresh.takes))
      (over.entries own.vvbn)
    where
      some_same : (a b : Entry) → Some a ≡ Some b → a ≡ b
      some_same a b same = cc

  -- ---- the label and the nodes

  -- whether a block is the label or a node
  abbrev fixed : ℕ → Bool
  fixed b = is_at b x.label || names map.tree b

  unled : (b : ℕ) → fixed b ≡ true → leads map n b ≡ false
  unled b is = ⊎_elim
      (λ (label : is_at b x.label ≡ true). subst (λ (k : ℕ). leads map n k ≡ false) (at_means b x.label label).0 was.label)
      (λ (node : names map.tree b ≡ true). was.nodes b node)
      (or_cases (is_at b x.label) (names map.tree b) is)

  has_fixed : (b : ℕ) → fixed b ≡ true → is_of x x.label map b ≡ true
  has_fixed b is = ⊎_elim
      (λ (label : is_at b x.label ≡ true). or_left (is_at b x.label) _ label)
      (λ (node : names map.tree b ≡ true). or_right (is_at b x.label) _ (or_left (names map.tree b) _ node))
      (or_cases (is_at b x.label) (names map.tree b) is)

  unowned : (b : ℕ) → fixed b ≡ true → IsOwn p.containers x.slot b → ⊥
  unowned b is own = both_ways _ (unled b is) (led_was b own)

  free_not : (b : ℕ) → is_of x x.label map b ≡ true → (is_member p.map.committed b || is_member p.map.next b) ≡ false → ⊥
  free_not b is free = both_ways _ (or_neither (is_member p.map.committed b) (is_member p.map.next b) free).1 (held b is).0

  pub unled_now : (b : ℕ) → fixed b ≡ true → leads now n b ≡ false
  unled_now b is = false_from_ne_true (leads now n b) (λ led. ⊎_elim
      (λ own. unowned b is own)
      (λ (may : MayTake (TellsEntries d p.containers) p.map p.containers x.slot b). ⊎_elim (λ free. free_not b (has_fixed b is) free) (λ own. unowned b is own) (may.free tells))
      (owned b (own_now b led)))

  -- a block that it has now is the label or a node, or an entry leads to it
  has_parts : (b : ℕ) → is_of after after.label now b ≡ true → (fixed b ≡ true) ⊎ (leads now n b ≡ true)
  has_parts b is = ⊎_elim
      (λ (label : is_at b x.label ≡ true). inl (or_left (is_at b x.label) _ label))
      (λ (rest : (names now.tree b || leads now n b) ≡ true). ⊎_elim
      (λ (node : names now.tree b ≡ true). inl (or_right (is_at b x.label) _ (subst (λ (t : List ℕ). names t b ≡ true) tree_same node)))
      (λ (led : leads now n b ≡ true). inr led)
      (or_cases (names now.tree b) (leads now n b) rest))
      (or_cases (is_at b x.label) (names now.tree b || leads now n b) is)

  still_fixed : (b : ℕ) → fixed b ≡ true → is_of after after.label now b ≡ true
  still_fixed b is = ⊎_elim
      (λ (label : is_at b x.label ≡ true). or_left (is_at b x.label) _ label)
      (λ (node : names map.tree b ≡ true). or_right (is_at b x.label) _ (or_left (names now.tree b) _ (subst (λ (t : List ℕ). names t b ≡ true) (sym tree_same) node)))
      (or_cases (is_at b x.label) (names map.tree b) is)

  has_led : (b : ℕ) → leads map n b ≡ true → is_of x x.label map b ≡ true
  has_led b led = or_right (is_at b x.label) _ (or_right (names map.tree b) _ led)

  has_led_now : (b : ℕ) → leads now n b ≡ true → is_of after after.label now b ≡ true
  has_led_now b led = or_right (is_at b x.label) _ (or_right (names now.tree b) _ led)

  was_parts : (b : ℕ) → is_of x x.label map b ≡ true → (fixed b ≡ true) ⊎ (leads map n b ≡ true)
  was_parts b is = ⊎_elim
      (λ (label : is_at b x.label ≡ true). inl (or_left (is_at b x.label) _ label))
      (λ (rest : (names map.tree b || leads map n b) ≡ true). ⊎_elim
      (λ (node : names map.tree b ≡ true). inl (or_right (is_at b x.label) _ node))
      (λ (led : leads map n b ≡ true). inr led)
      (or_cases (names map.tree b) (leads map n b) rest))
      (or_cases (is_at b x.label) (names map.tree b || leads map n b) is)

  -- ---- the next root

  next_has : (b : ℕ) → is_of after after.label now b ≡ true → is_member q.map.next b ≡ true
  next_has b is = ⊎_elim
      (λ (at : fixed b ≡ true). ⊎_elim
      (λ there. there)
      (λ gone. absurd (unowned b at (over.loses tells b (held b (has_fixed b at)).0 gone)))
      (cases_Bool (is_member q.map.next b)))
      (λ (led : leads now n b ≡ true). let own = own_now b led in subst (λ (k : ℕ). is_member q.map.next k ≡ true) own.leads (told.own own.vvbn own.entry own.stands))
      (has_parts b is)

  pub bits : (b : ℕ) → is_member q.map.next b ≡ (is_of after after.label now b || (is_member p.map.next b && not (is_of x x.label map b)))
  bits b = same_truth (is_member q.map.next b) _ from to
    where
      from : is_member q.map.next b ≡ true → (is_of after after.label now b || (is_member p.map.next b && not (is_of x x.label map b))) ≡ true
      from is = ⊎_elim
          (λ own. or_left (is_of after after.label now b) _ (has_led_now b (led_now b own)))
          (λ (still : (is_member p.map.next b ≡ true) × (IsOwn p.containers x.slot b → IsOwn q.containers x.slot b)). ⊎_elim
          (λ (had : is_of x x.label map b ≡ true). or_left (is_of after after.label now b) _ (⊎_elim
          (λ (at : fixed b ≡ true). still_fixed b at)
          (λ (led : leads map n b ≡ true). has_led_now b (led_now b (still.1 (own_leads p.containers x.slot map lies n b led))))
          (was_parts b had)))
          (λ (hadnt : is_of x x.label map b ≡ false). or_right (is_of after after.label now b) _ (and_from (is_member p.map.next b) _ still.0 (not_from_false (is_of x x.label map b) hadnt)))
          (cases_Bool (is_of x x.label map b)))
          (over.gains tells b is)

      to : (is_of after after.label now b || (is_member p.map.next b && not (is_of x x.label map b))) ≡ true → is_member q.map.next b ≡ true
      to is = ⊎_elim
          (λ (has : is_of after after.label now b ≡ true). next_has b has)
          (λ (rest : (is_member p.map.next b && not (is_of x x.label map b)) ≡ true). ⊎_elim
          (λ there. there)
          (λ gone.
          let parts = and_parts (is_member p.map.next b) (not (is_of x x.label map b)) rest in
          absurd (differs (is_of x x.label map b) parts.1 (has_led b (led_was b (over.loses tells b parts.0 gone)))))
          (cases_Bool (is_member q.map.next b)))
          (or_cases (is_of after after.label now b) (is_member p.map.next b && not (is_of x x.label map b)) is)
        where
          differs : (h : Bool) → not h ≡ true → h ≡ true → ⊥
          differs true isnt is = both_ways _ refl isnt
          differs false isnt is = both_ways _ refl is

  -- what it has now it had, or the next root didn't hold it
  pub from_free : (b : ℕ) → is_of after after.label now b ≡ true → (is_of x x.label map b ≡ true) ⊎ (is_member p.map.next b ≡ false)
  from_free b is = ⊎_elim
      (λ (at : fixed b ≡ true). inl (has_fixed b at))
      (λ (led : leads now n b ≡ true). ⊎_elim
      (λ own. inl (has_led b (led_was b own)))
      (λ (may : MayTake (TellsEntries d p.containers) p.map p.containers x.slot b). ⊎_elim
      (λ free. inr (or_neither (is_member p.map.committed b) (is_member p.map.next b) free).1)
      (λ own. inl (has_led b (led_was b own)))
      (may.free tells))
      (owned b (own_now b led)))
      (has_parts b is)

  -- and it lies where a volume's blocks can
  pub lies_well : (b : ℕ) → is_of after after.label now b ≡ true → IsAllocatable blocks b
  lies_well b is = ⊎_elim
      (λ (at : fixed b ≡ true). (held b (has_fixed b at)).1)
      (λ (led : leads now n b ≡ true). ⊎_elim
      (λ own. (held b (has_led b (led_was b own))).1)
      (λ (may : MayTake (TellsEntries d p.containers) p.map p.containers x.slot b). subst (λ (k : ℕ). IsAllocatable k b) size may.lies)
      (owned b (own_now b led)))
      (has_parts b is)

  -- ---- its blocks are apart

  entries_now : (v w : ℕ) → v < w → w < n → place_at now v ≢ 0 → place_at now v ≢ place_at now w
  entries_now v w low within some same = by (entry_under now v) refl (entry_under now w) refl
    where
      by : (a : Option Entry) → entry_under now v ≡ a → (b : Option Entry) → entry_under now w ≡ b → ⊥
      by None here b there = some (ap place_in here)
      by (Some e) here None there = some (same ∙ ap place_in there)
      by (Some e) here (Some f) there =
          told.own_apart v w (λ k. omega (arith, low, k)) e (own_at q.containers x.slot now lies_now v ∙ here) f (own_at q.containers x.slot now lies_now w ∙ there)
          (sym (ap place_in there) ∙ sym same ∙ ap place_in here)

  pub apart_now : AreApartIn after now
  apart_now = record {
    some = some_now;
    entries = entries_now;
    nodes = λ b node. unled_now b (or_right (is_at b x.label) _ (subst (λ (t : List ℕ). names t b ≡ true) tree_same node));
    label = label_unled x.label refl;
  }
    where
      label_unled : (b : ℕ) → x.label ≡ b → leads now n b ≡ false
      label_unled b same = ⊎_elim
          (λ (led : leads now n b ≡ true).
          let at = leads_where now n b led in
          unled_now b (or_left (is_at b x.label) _ (subst (λ (k : ℕ). is_at b k ≡ true) (sym same) (at_itself b at.some))))
          (λ unled. unled)
          (cases_Bool (leads now n b))
