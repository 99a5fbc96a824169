-- Volumes of which some entries became holes, whose blocks were given back.
use Rattle.std.proofs.Common.{◌≡◌, ◌≢◌, ℕ, ◌<◌, ◌≤◌, Bool, true, false, List, length, Some, None, not, ◌&&◌, ◌||◌, refl, sym, ap, subst, ◌∙◌, ⊎_elim, inl, inr, ◌⊎◌, arith}
use Rattle.std.specs.Prelude.{Option, IfSome, if◌then◌else◌}
use Rattle.std.proofs.lemmas.Bool.{both_ways, cases_eq, cases_lt, or_cases, or_left, or_right}
use Rattle.fv_disk.specs.Shown.{Image}
use Rattle.fv_bits.specs.Members.{is_member}
use Rattle.fv_image.specs.Views.{entry_count, map_vvbn}
use Rattle.fv_root.specs.declared.find.Found.{Found}
use Rattle.fv_container.specs.declared.entry.Entry.{Entry}
use Rattle.fv_container.specs.Leading.{HasEmptied, lead_to, place_at, place_in}
use Rattle.fv_container.specs.Mapped.{Mapped, entry_under}
use Rattle.fv_container.specs.Paged.{Paged}
use Rattle.fv_container.specs.Spelled.{is_at, names}
use Rattle.fv_container.proofs.Leading.{lead_at, lead_where}
use Rattle.fv_aggmap.specs.Giving.{HasGiven}
use Rattle.fv_aggmap.specs.Space.{Space}
use Rattle.fv_delay.specs.Reclaims.{goes_with}
use Rattle.fv_delay.proofs.Reclaimed.{held_stays}
use Rattle.fv_volume.specs.declared.state.VolumeState.{VolumeState}
use Rattle.fv_volume.specs.Files.{IsLabelled}
use Rattle.fv_volume.specs.Stored.{AreApartIn, AreSpacedIn, has_block, is_of, leads, stays}
use Rattle.fv_volumes.specs.UnderRoot.{StandMaps}
use Rattle.fv_volume.specs.Writing.{HasOwnBlocks}
use Rattle.fv_volumes.proofs.Drawing.{LeadsAt, at_means, leads_at, leads_where, not_so}
use Rattle.fv_volumes.proofs.Spacing.{spaced_next}
use Rattle.fv_volume.proofs.StayingMaps.{stays_held, stored_stays}

-- ---- the blocks of one

module _ (x : VolumeState) (paged : Paged) (goes : ℕ → Bool) (emptied : Paged) (is : HasEmptied paged goes emptied) where
  abbrev old : Mapped
  old = paged.map

  abbrev mid : Mapped
  mid = emptied.map

  place_left : (v : ℕ) → place_at mid v ≢ 0 → (goes v ≡ false) × (place_at mid v ≡ place_at old v)
  place_left v some = so (goes v) (ap place_in (is.entries v))
    where
      so : (t : Bool) → place_at mid v ≡ place_in (if t then None else entry_under old v) → (t ≡ false) × (place_at mid v ≡ place_at old v)
      so true e = absurd (some e)
      so false e = (refl, e)

  place_stays : (v : ℕ) → goes v ≡ false → place_at mid v ≡ place_at old v
  place_stays v stays = ap place_in (is.entries v) ∙ ap (λ (t : Bool). place_in (if t then None else entry_under old v)) stays

  -- a block to which an entry leads now it led to before
  leads_left : (n b : ℕ) → leads mid n b ≡ true → leads old n b ≡ true
  leads_left n b led =
      let at = leads_where mid n b led in
      leads_at old n at.vvbn b at.within (sym (place_left at.vvbn (λ none. at.some (sym at.place ∙ none))).1 ∙ at.place) at.some

  -- Its blocks are apart still.
  pub emptied_apart : AreApartIn x old → AreApartIn x mid
  emptied_apart apart = record {
    some = λ v. left v (goes v) (is.entries v);
    entries = λ v w lt within some same.
        let first = (place_left v some).1 in
        let second = (place_left w (λ none. some (same ∙ none))).1 in
        apart.entries v w lt within (λ none. some (first ∙ none)) (sym first ∙ same ∙ second);
    nodes = λ b named. fewer (entry_count x.span) b (apart.nodes b (ap (λ (t : List ℕ). names t b) (sym is.tree) ∙ named));
    label = fewer (entry_count x.span) x.label apart.label;
  }
    where
      left : (v : ℕ) (t : Bool) → entry_under mid v ≡ (if t then None else entry_under old v) → IfSome (entry_under mid v) (λ e. 1 ≤ e.pvbn)
      left v true e = subst (λ (o : Option Entry). IfSome o (λ e. 1 ≤ e.pvbn)) (sym e) tt
      left v false e = subst (λ (o : Option Entry). IfSome o (λ e. 1 ≤ e.pvbn)) (sym e) (apart.some v)

      fewer : (n b : ℕ) → leads old n b ≡ false → leads mid n b ≡ false
      fewer n b none = not_so (leads mid n b) (λ led. both_ways _ none (leads_left n b led))

  module _ (apart : AreApartIn x old) (long : length old.entries ≡ entry_count x.span) where
    abbrev gone : ℕ → Bool
    gone b = lead_to old goes 0 (length old.entries) b

    -- a block of an entry that went is none of its others
    gone_then : (b : ℕ) → gone b ≡ true → is_of x x.label mid b ≡ false
    gone_then b went =
        let at = lead_where old goes 0 (length old.entries) b went in
        let low : at.vvbn < entry_count x.span = omega (arith, at.within, long) in
        let led : leads old (entry_count x.span) b ≡ true = leads_at old (entry_count x.span) at.vvbn b low at.place at.some in
        not_so (is_of x x.label mid b) (λ of. ⊎_elim
        (λ (here : is_at b x.label ≡ true). both_ways _ (ap (leads old (entry_count x.span)) (sym (at_means b x.label here).0) ∙ apart.label) led)
        (λ rest. ⊎_elim
        (λ (named : names mid.tree b ≡ true). both_ways _ (apart.nodes b (ap (λ (t : List ℕ). names t b) (sym is.tree) ∙ named)) led)
        (λ (still : leads mid (entry_count x.span) b ≡ true).
        let to = leads_where mid (entry_count x.span) b still in
        let was = place_left to.vvbn (λ none. to.some (sym to.place ∙ none)) in
        let place : place_at old to.vvbn ≡ b = sym was.1 ∙ to.place in
        two at.vvbn to.vvbn low to.within at.place place at.some at.on was.0)
        (or_cases (names mid.tree b) (leads mid (entry_count x.span) b) rest))
        (or_cases (is_at b x.label) (names mid.tree b || leads mid (entry_count x.span) b) of))
      where
        two : (v w : ℕ) → v < entry_count x.span → w < entry_count x.span → place_at old v ≡ b → place_at old w ≡ b → b ≢ 0 → goes v ≡ true → goes w ≡ false → ⊥
        two v w low high first second some on off = ⊎_elim
            (λ (same : v ≡ w). both_ways _ off (sym (ap goes same) ∙ on))
            (λ (other : v ≢ w). ⊎_elim
            (λ (less : v < w). apart.entries v w less high (λ none. some (sym first ∙ none)) (first ∙ sym second))
            (λ (more : w ≤ v). apart.entries w v (omega (arith, more, other)) low (λ none. some (sym second ∙ none)) (second ∙ sym first))
            (cases_lt v w))
            (cases_eq v w)

    -- a block that it had is one that it has still, or one of an entry that went
    left_or_gone : (b : ℕ) → is_of x x.label old b ≡ true → (is_of x x.label mid b ≡ true) ⊎ (gone b ≡ true)
    left_or_gone b of = ⊎_elim
        (λ (here : is_at b x.label ≡ true). inl (or_left _ _ here))
        (λ rest. ⊎_elim
        (λ (named : names old.tree b ≡ true). inl (or_right (is_at b x.label) _ (or_left _ _ (ap (λ (t : List ℕ). names t b) is.tree ∙ named))))
        (λ (led : leads old (entry_count x.span) b ≡ true).
        let at = leads_where old (entry_count x.span) b led in
        so at (goes at.vvbn) refl)
        (or_cases (names old.tree b) (leads old (entry_count x.span) b) rest))
        (or_cases (is_at b x.label) (names old.tree b || leads old (entry_count x.span) b) of)
      where
        so : (at : LeadsAt old (entry_count x.span) b) (t : Bool) → goes at.vvbn ≡ t → (is_of x x.label mid b ≡ true) ⊎ (gone b ≡ true)
        so at true on = inr (lead_at old goes 0 (length old.entries) at.vvbn b (omega arith) (omega (arith, at.within, long)) on at.place at.some)
        so at false off = inl (or_right (is_at b x.label) _ (or_right (names mid.tree b) _ (leads_at mid (entry_count x.span) at.vvbn b at.within (place_stays at.vvbn off ∙ at.place) at.some)))

    -- and one that it has it had before
    of_left : (b : ℕ) → is_of x x.label mid b ≡ true → is_of x x.label old b ≡ true
    of_left b of = ⊎_elim
        (λ (here : is_at b x.label ≡ true). or_left _ _ here)
        (λ rest. or_right (is_at b x.label) _ (⊎_elim
        (λ (named : names mid.tree b ≡ true). or_left _ _ (ap (λ (t : List ℕ). names t b) (sym is.tree) ∙ named))
        (λ (led : leads mid (entry_count x.span) b ≡ true). or_right (names old.tree b) _ (leads_left (entry_count x.span) b led))
        (or_cases (names mid.tree b) (leads mid (entry_count x.span) b) rest)))
        (or_cases (is_at b x.label) (names mid.tree b || leads mid (entry_count x.span) b) of)

    -- and so it had a block of an entry that went
    gone_had : (b : ℕ) → gone b ≡ true → is_of x x.label old b ≡ true
    gone_had b went =
        let at = lead_where old goes 0 (length old.entries) b went in
        or_right (is_at b x.label) _ (or_right (names old.tree b) _ (leads_at old (entry_count x.span) at.vvbn b (omega (arith, at.within, long)) at.place at.some))

    -- Of a volume whose blocks the next root was to hold it holds those that are left, once the others were given back.
    emptied_held : (space left : Space) → HasGiven space gone left → ((b : ℕ) → is_of x x.label old b ≡ true → is_member space.next b ≡ true)
        → (b : ℕ) → is_member left.next b ≡ (is_of x x.label mid b || (is_member space.next b && not (is_of x x.label old b)))
    emptied_held space left gave held b = gave.held b ∙ so (is_of x x.label mid b) (is_of x x.label old b) (gone b) (is_member space.next b) (of_left b) (left_or_gone b) (gone_then b) (gone_had b) (held b)
      where
        so : (m o g h : Bool) → (m ≡ true → o ≡ true) → (o ≡ true → (m ≡ true) ⊎ (g ≡ true)) → (g ≡ true → m ≡ false) → (g ≡ true → o ≡ true) → (o ≡ true → h ≡ true) → (h && not g) ≡ (m || (h && not o))
        so true o true h was parts none had has = absurd (both_ways _ (none refl) refl)
        so true o false h was parts none had has = ap (λ (t : Bool). t && true) (has (was refl))
        so false true true h was parts none had has = refl
        so false true false h was parts none had has = absurd (⊎_elim (λ (e : false ≡ true). both_ways _ refl e) (λ (e : false ≡ true). both_ways _ refl e) (parts refl))
        so false false true h was parts none had has = absurd (both_ways _ refl (had refl))
        so false false false h was parts none had has = refl

    -- So they are its own, where they were.
    pub emptied_own : (space left : Space) → HasGiven space gone left → HasOwnBlocks x old space → HasOwnBlocks x mid left
    emptied_own space left gave own =
        let still = emptied_apart apart in record {
          entries = still.entries;
          nodes = still.nodes;
          label = still.label;
          alone = ap (λ (t : List ℕ). names t x.label) is.tree ∙ own.alone;
          old_nodes = λ b named. ap (λ (c : List Bool). is_member c b) gave.committed ∙ own.old_nodes b (ap (λ (t : List ℕ). names t b) (sym is.tree) ∙ named);
          old_label = λ some. ap (λ (c : List Bool). is_member c x.label) gave.committed ∙ own.old_label some;
          held = λ b of. emptied_held space left gave own.held b ∙ or_left _ _ of;
        }

-- ---- the blocks of all

-- Volumes stay spaced where some entries of one become holes and their blocks are given back.
pub emptied_leaves : (blocks : ℕ) (space after : Space) (state : ℕ → Option VolumeState) (container left : ℕ → Option Mapped) (s : ℕ) → s < 64 → AreSpacedIn blocks space.next state container → (x : VolumeState) (old mid : Paged) → state s ≡ Some x → container s ≡ Some old.map
    → left s ≡ Some mid.map → ((k : ℕ) → k ≢ s → left k ≡ container k) → AreApartIn x old.map → length old.map.entries ≡ entry_count x.span → (goes : ℕ → Bool) → HasEmptied old goes mid → HasGiven space (lead_to old.map goes 0 (length old.map.entries)) after
    → AreSpacedIn blocks after.next state left
emptied_leaves blocks space after state container left s inside is x old mid there lies lies_now others apart long goes emptied gave =
    spaced_next blocks space.next after.next state state container left s inside is (λ k b other l. has_block (state k) (others k other l) b)
    (λ b. emptied_held x old goes mid emptied apart long space after gave (λ c of. (is.held s c inside (has_old c ∙ of)).0) b ∙ (λ k. sym (has_new b) k || (is_member space.next b && not (sym (has_old b) k))))
    (λ b here. inl (has_old b ∙ of_left x old goes mid emptied apart long b (sym (has_new b) ∙ here)))
    (λ b here. (is.held s b inside (has_old b ∙ of_left x old goes mid emptied apart long b (sym (has_new b) ∙ here))).1)
  where
    has_old : (b : ℕ) → has_block (state s) (container s) b ≡ is_of x x.label old.map b
    has_old b = (λ k. has_block (there k) (lies k) b)

    has_new : (b : ℕ) → has_block (state s) (left s) b ≡ is_of x x.label mid.map b
    has_new b = (λ k. has_block (there k) (lies_now k) b)

-- ---- a volume of which delayed entries became holes

module _ (s : ℕ) (x : VolumeState) (state : IsLabelled s x) (regions : ℕ → Bool) (old mid : Paged) (is : HasEmptied old (goes_with x.map old.map regions) mid) where
  -- an entry that stays where the volume is written stayed
  pub stays_left : (v : ℕ) → stays x v ≡ true → entry_under mid.map v ≡ entry_under old.map v
  stays_left v on = held_stays x.map regions old mid is v (stays_held x state.map v on)

  -- so the maps that a point leaves stand still
  pub maps_left : (i : Image) (found : Found) → StandMaps i found x old.map → StandMaps i found x mid.map
  maps_left i found stand k j on within =
      let one = stand k j on within in
      record {
        place = one.place;
        some = one.some;
        there = stays_left (map_vvbn x.span k j) (stored_stays x k j on within) ∙ one.there;
        held = one.held;
        bits = one.bits;
      }
