-- A volume once it was written: what it has now, that it stands in the image, and that it stays there.
use Rattle.std.proofs.Common.{◌≡◌, ◌≢◌, ℕ, ◌<◌, ◌≤◌, length, Bool, true, false, not, ◌&&◌, ◌||◌, List, refl, sym, ap, subst, ◌∙◌, arith, ⊎_elim, inl, inr, ◌⊎◌}
use Rattle.std.specs.Prelude.{Option, None, IfSome}
use Rattle.std.proofs.lemmas.List.{get_or_past}
use Rattle.std.proofs.lemmas.Bool.{cases_eq, cases_lt, or_cases, or_left, or_right, true≢false}
use Rattle.fv_disk.specs.Shown.{Image}
use Rattle.fv_bits.specs.Members.{is_member}
use Rattle.fv_codec.specs.Blocks.{label_at}
use Rattle.fv_model.specs.Machines.{first_block}
use Rattle.fv_image.specs.Containers.{height_of}
use Rattle.fv_image.specs.Views.{entry_count}
use Rattle.fv_image.specs.Reclaimed.{IsAllocatable}
use Rattle.fv_container.specs.declared.entry.Entry.{Entry}
use Rattle.fv_container.specs.Leading.{place_at, place_in}
use Rattle.fv_container.proofs.Clean.{over_still}
use Rattle.fv_container.specs.Mapped.{Mapped, entry_under}
use Rattle.fv_container.specs.Spelled.{is_at, names}
use Rattle.fv_aggmap.specs.Space.{Space, IsFree, blocks_of}
use Rattle.fv_volume.specs.declared.state.VolumeState.{VolumeState}
use Rattle.fv_volume.specs.Writing.{HasOwnBlocks, IsTaken, IsWritten, has_maps_at}
use Rattle.fv_volume.specs.Stored.{AreApartIn, IsStored, is_map_written, is_of, leads}
use Rattle.fv_volumes.proofs.Drawing.{LeadsAt, StandsAt, at_itself, at_means, leads_at, leads_where, maps_where, not_so, or_neither}
use Rattle.fv_volumes.proofs.Spelling.{flushed_still}
use Rattle.fv_volumes.specs.Housed.{as_written}
use Rattle.fv_volume.proofs.StayingMaps.{written_within}

-- an entry of a written volume: one that isn't written, as it was, or one of a map that is written
data Led (x : VolumeState) (old new : Mapped) (v : ℕ) : Type 0 where
  stayed : is_map_written x v ≡ false → place_at new v ≡ place_at old v → Led x old new v
  mapped : is_map_written x v ≡ true → Led x old new v

module _ (x : VolumeState) (old : Mapped) (before : Image) (space : Space) (label : ℕ) (new : Mapped) (after : Image) (left : Space) (is : IsWritten x old before space label new after left) (own : HasOwnBlocks x old space) (some_old : (v : ℕ) → IfSome (entry_under old v) (λ e. 1 ≤ e.pvbn)) where
  led : (v : ℕ) → Led x old new v
  led v = so (is_map_written x v) refl
    where
      so : (t : Bool) → is_map_written x v ≡ t → Led x old new v
      so true e = mapped e
      so false e = stayed e (ap place_in (is.kept v e))

  -- an entry that isn't written and leads to a block is one of the container
  within_old : (v : ℕ) → is_map_written x v ≡ false → place_at old v ≢ 0 → v < entry_count x.span
  within_old v on some = ⊎_elim
      (λ (low : v < entry_count x.span). low)
      (λ (past : entry_count x.span ≤ v). absurd (some (ap place_in (sym (is.kept v on) ∙ get_or_past new.entries v None (omega (arith, past, is.long))))))
      (cases_lt v (entry_count x.span))

  -- the block of one that isn't written isn't free once the old blocks of maps were given back
  pub stay_taken : (v : ℕ) → is_map_written x v ≡ false → place_at old v ≢ 0 → IsTaken is.given (place_at old v)
  stay_taken v on some free =
      let low = within_old v on some in
      let led : leads old (entry_count x.span) (place_at old v) ≡ true = leads_at old (entry_count x.span) v (place_at old v) low refl some in
      let held : is_member space.next (place_at old v) ≡ true = own.held (place_at old v) (or_right (is_at (place_at old v) x.label) _ (or_right (names old.tree (place_at old v)) _ led)) in
      let none = or_neither (is_member is.given.committed (place_at old v)) (is_member is.given.next (place_at old v)) free.free in
      let gone : has_maps_at x old (entry_count x.span) (place_at old v) ≡ true = by (is_member space.next (place_at old v)) (has_maps_at x old (entry_count x.span) (place_at old v)) held (sym (is.gave.held (place_at old v)) ∙ none.1) in
      two (maps_where x old (entry_count x.span) (place_at old v) gone) low
    where
      by : (m a : Bool) → m ≡ true → (m && not a) ≡ false → a ≡ true
      by true true e f = refl
      by true false e f = sym f
      by false a e f = absurd (true≢false (sym e))

      two : StandsAt x old (entry_count x.span) (place_at old v) → v < entry_count x.span → ⊥
      two w low = ⊎_elim
          (λ (same : v ≡ w.vvbn). true≢false (sym w.on ∙ ap (is_map_written x) (sym same) ∙ on))
          (λ (other : v ≢ w.vvbn). ⊎_elim
          (λ (less : v < w.vvbn). own.entries v w.vvbn less w.within some (sym w.place))
          (λ (more : w.vvbn ≤ v). own.entries w.vvbn v (omega (arith, more, other)) low (λ none. some (sym w.place ∙ none)) w.place)
          (cases_lt v w.vvbn))
          (cases_eq v w.vvbn)

  -- no two lead to one
  differ : (v w : ℕ) → v < w → w < entry_count x.span → place_at new v ≢ 0 → place_at new v ≢ place_at new w
  differ v w lt within some same = elim (led v) [
    | stayed on at ↦ elim (led w) [
      | stayed too here ↦ own.entries v w lt within (λ none. some (at ∙ none)) (sym at ∙ same ∙ here)
      | mapped here ↦ stay_taken v on (λ none. some (at ∙ none)) (subst (λ (b : ℕ). IsFree is.given b) (sym same ∙ at) (is.fresh_maps w here))
    ]
    | mapped at ↦ elim (led w) [
      | stayed too here ↦ stay_taken w too (λ none. some (same ∙ here ∙ none)) (subst (λ (b : ℕ). IsFree is.given b) (same ∙ here) (is.fresh_maps v at))
      | mapped here ↦ is.once v w lt at here same
    ]
  ]

  -- a block that was free isn't led to, unless it is one of a map that was written
  not_led : (b : ℕ) → IsFree is.given b → ((v : ℕ) → is_map_written x v ≡ true → place_at new v ≢ b) → leads new (entry_count x.span) b ≡ false
  not_led b free other = not_so (leads new (entry_count x.span) b) (λ is_led.
      let at = leads_where new (entry_count x.span) b is_led in
      let some : place_at new at.vvbn ≢ 0 = λ none. at.some (sym at.place ∙ none) in elim (led at.vvbn) [
        | stayed on same ↦ stay_taken at.vvbn on (λ none. some (same ∙ none)) (subst (λ (c : ℕ). IsFree is.given c) (sym at.place ∙ same) free)
        | mapped here ↦ other at.vvbn here at.place
      ])

  -- and neither is an old node
  node_not_led : (b : ℕ) → names old.tree b ≡ true → leads new (entry_count x.span) b ≡ false
  node_not_led b node = not_so (leads new (entry_count x.span) b) (λ is_led.
      let at = leads_where new (entry_count x.span) b is_led in elim (led at.vvbn) [
        | stayed on same ↦ true≢false (sym (leads_at old (entry_count x.span) at.vvbn b at.within (sym same ∙ at.place) at.some) ∙ own.nodes b node)
        | mapped here ↦ old_taken (subst (λ (c : ℕ). IsFree is.given c) at.place (is.fresh_maps at.vvbn here))
      ])
    where
      old_taken : IsFree is.given b → ⊥
      old_taken free = true≢false (sym (ap (λ (c : List Bool). is_member c b) is.gave.committed ∙ own.old_nodes b node) ∙ (or_neither (is_member is.given.committed b) (is_member is.given.next b) free.free).0)

  -- each entry leads to a block
  kept_some : (v : ℕ) → IfSome (entry_under new v) (λ e. 1 ≤ e.pvbn)
  kept_some v = so (is_map_written x v) refl
    where
      so : (t : Bool) → is_map_written x v ≡ t → IfSome (entry_under new v) (λ e. 1 ≤ e.pvbn)
      so false e = subst (λ (o : Option Entry). IfSome o (λ e. 1 ≤ e.pvbn)) (sym (is.kept v e)) (some_old v)
      so true e = subst (λ (o : Option Entry). IfSome o (λ e. 1 ≤ e.pvbn)) (sym (is.maps v e)) (is.placed v e)

  -- a node of the new tree is one of the old, or was free
  node_cases : (b : ℕ) → names new.tree b ≡ true → (names old.tree b ≡ true) ⊎ (IsFree is.given b)
  node_cases b named = so (names old.tree b) refl
    where
      so : (t : Bool) → names old.tree b ≡ t → (names old.tree b ≡ true) ⊎ (IsFree is.given b)
      so true e = inl e
      so false e = inr (is.fresh_nodes b named e)

  lies_apart : AreApartIn (as_written x label) new
  lies_apart = record {
    some = λ v. kept_some v;
    entries = differ;
    nodes = λ b named. ⊎_elim (λ (was : names old.tree b ≡ true). node_not_led b was)
        (λ (free : IsFree is.given b). not_led b free (λ v at same. true≢false (sym named ∙ sym (ap (names new.tree) same) ∙ (is.apart v at).1)))
        (node_cases b named);
    label = not_led label is.fresh_label (λ v at same. (is.apart v at).0 same);
  }

  -- The volume stands in the image.
  pub stored : IsStored x old label new after
  stored = record { root = is.root; root_least = is.root_least; root_greatest = is.root_greatest; some = is.some; said = is.said; tree = is.tree; over = is.over; long = is.long; kept = is.kept; maps = is.maps; placed = is.placed; bits = is.bits; alone = is.alone; apart = lies_apart }

  -- a block that it has now it had before, or it was free
  pub from_before : (b : ℕ) → is_of x label new b ≡ true → (is_of x x.label old b ≡ true) ⊎ (IsFree is.given b)
  from_before b of = ⊎_elim
      (λ (at : is_at b label ≡ true). inr (subst (λ (c : ℕ). IsFree is.given c) (at_means b label at).0 is.fresh_label))
      (λ rest. ⊎_elim
      (λ (named : names new.tree b ≡ true). ⊎_elim (λ (was : names old.tree b ≡ true). inl (or_right (is_at b x.label) _ (or_left (names old.tree b) _ was))) (λ (free : IsFree is.given b). inr free) (node_cases b named))
      (λ (led_to : leads new (entry_count x.span) b ≡ true). by (leads_where new (entry_count x.span) b led_to))
      (or_cases (names new.tree b) (leads new (entry_count x.span) b) rest))
      (or_cases (is_at b label) (names new.tree b || leads new (entry_count x.span) b) of)
    where
      by : LeadsAt new (entry_count x.span) b → (is_of x x.label old b ≡ true) ⊎ (IsFree is.given b)
      by at = elim (led at.vvbn) [
        | stayed on same ↦ inl (or_right (is_at b x.label) _ (or_right (names old.tree b) _ (leads_at old (entry_count x.span) at.vvbn b at.within (sym same ∙ at.place) at.some)))
        | mapped here ↦ inr (subst (λ (c : ℕ). IsFree is.given c) at.place (is.fresh_maps at.vvbn here))
      ]

  -- so it was the slot's, or the next root held it not
  pub from_old : (b : ℕ) → is_of x label new b ≡ true → (is_of x x.label old b ≡ true) ⊎ (is_member space.next b ≡ false)
  from_old b of = ⊎_elim
      (λ (was : is_of x x.label old b ≡ true). inl was)
      (λ (free : IsFree is.given b).
      let none = (or_neither (is_member is.given.committed b) (is_member is.given.next b) free.free).1 in
      by (is_member space.next b) (has_maps_at x old (entry_count x.span) b) refl refl (sym (is.gave.held b) ∙ none))
      (from_before b of)
    where
      by : (m a : Bool) → is_member space.next b ≡ m → has_maps_at x old (entry_count x.span) b ≡ a → (m && not a) ≡ false → (is_of x x.label old b ≡ true) ⊎ (is_member space.next b ≡ false)
      by true true e f g =
          let w = maps_where x old (entry_count x.span) b f in
          inl (or_right (is_at b x.label) _ (or_right (names old.tree b) _ (leads_at old (entry_count x.span) w.vvbn b w.within w.place w.some)))
      by true false e f g = absurd (true≢false g)
      by false a e f g = inr e

  -- each lies where a block of a volume can
  pub new_lies : ((b : ℕ) → is_of x x.label old b ≡ true → IsAllocatable (blocks_of space) b) → (b : ℕ) → is_of x label new b ≡ true → IsAllocatable (blocks_of space) b
  new_lies lies b of = ⊎_elim
      (λ (was : is_of x x.label old b ≡ true). lies b was)
      (λ (free : IsFree is.given b).
      let size : blocks_of is.given ≡ blocks_of space = ap length is.gave.committed in
      (subst (λ (m : ℕ). first_block m ≤ b) size free.after, subst (λ (m : ℕ). b < m) size free.within))
      (from_before b of)

-- what stands stays where its blocks stay
pub stored_still : (x : VolumeState) (old : Mapped) (label : ℕ) (new : Mapped) (i j : Image) → IsStored x old label new i → ((b : ℕ) → is_of x label new b ≡ true → j b ≡ i b) → IsStored x old label new j
stored_still x old label new i j is same = record {
  root = is.root;
  root_least = is.root_least;
  root_greatest = is.root_greatest;
  some = is.some;
  said = ap label_at (same label (or_left (is_at label label) _ (at_itself label (λ none. omega (arith, is.some, none))))) ∙ is.said;
  tree = flushed_still i j is.root (height_of (entry_count x.span)) new is.tree (λ b named. same b (or_right (is_at b label) _ (or_left (names new.tree b) _ named)));
  over = over_still i j new (λ b named. same b (or_right (is_at b label) _ (or_left (names new.tree b) _ named))) is.over;
  long = is.long;
  kept = is.kept;
  maps = is.maps;
  placed = is.placed;
  bits = λ v written.
      let place = is.placed v written in
      let led : leads new (entry_count x.span) (place_at new v) ≡ true = leads_at new (entry_count x.span) v (place_at new v) (written_within x v written) refl (λ none. omega (arith, place, none)) in
      rw (same (place_at new v) (or_right (is_at (place_at new v) label) _ (or_right (names new.tree (place_at new v)) _ led))) (is.bits v written);
  alone = is.alone;
  apart = is.apart;
}
