-- A volume that was written: the old blocks of its maps are given back, and what is new was free.
use Rattle.std.proofs.Common.{◌≡◌, ◌≢◌, ℕ, ◌<◌, ◌≤◌, List, length, Bool, true, false, not, ◌&&◌, ◌||◌, refl, sym, ap, ap₂, subst, ◌∙◌, arith, ⊎_elim, inl, inr, ◌⊎◌}
use Rattle.std.proofs.lemmas.Bool.{cases_eq, cases_lt, not-true, or_cases, or_left, or_right, true≢false}
use Rattle.fv_bits.specs.Members.{is_member}
use Rattle.fv_disk.specs.Shown.{Image}
use Rattle.fv_model.specs.Machines.{first_block}
use Rattle.fv_image.specs.Views.{entry_count}
use Rattle.fv_image.proofs.HeldPlaces.{same_truth}
use Rattle.fv_container.specs.Mapped.{Mapped, entry_under}
use Rattle.fv_container.specs.Spelled.{is_at, names}
use Rattle.fv_aggmap.specs.Space.{Space, IsFree, blocks_of}
use Rattle.fv_volume.specs.declared.state.VolumeState.{VolumeState}
use Rattle.fv_volume.specs.Writing.{AreNext, HasDrawn, HasGiven, HasLabel, HasOwnBlocks, IsTaken, IsTakenOther, IsWritten, has_maps_at, on_disk}
use Rattle.fv_volume.specs.Stored.{is_map_written, leads}
use Rattle.fv_container.specs.Leading.{lead_to, place_at, place_in}
use Rattle.fv_container.proofs.Leading.{any_either, lead_at, lead_where}
use Rattle.fv_volume.proofs.StayingMaps.{written_within}
use Rattle.fv_volumes.proofs.Drawing.{LeadsAt, StandsAt, at_itself, at_means, free_before, leads_at, leads_where, maps_at, maps_where, not_so, or_neither}

-- a block that is free in a space is free where the next root holds no other than the one on the disk
free_moved : (old new : Space) (b : ℕ) → new.committed ≡ old.committed → IsFree old b → is_member new.next b ≡ false → IsFree new b
free_moved old new b same free next =
    let len : blocks_of new ≡ blocks_of old = ap length same in
    let none = or_neither (is_member old.committed b) (is_member old.next b) free.free in
    record {
      after = lower (sym len) free.after;
      within = omega (arith, len, free.within);
      free = both (is_member new.committed b) (is_member new.next b) (ap (λ (c : List Bool). is_member c b) same ∙ none.0) next;
    }
  where
    lower : {m n : ℕ} → m ≡ n → first_block m ≤ b → first_block n ≤ b
    lower e le = rw (← e) le

    both : (c n : Bool) → c ≡ false → n ≡ false → (c || n) ≡ false
    both c n one two = rw (one, two) refl

uncommitted : (space : Space) (b : ℕ) → IsFree space b → is_member space.committed b ≡ false
uncommitted space b free = (or_neither (is_member space.committed b) (is_member space.next b) free.free).0

pub free_on_disk : (space : Space) (old : Space) (b : ℕ) → space.committed ≡ old.committed → IsFree space b → IsFree (on_disk old) b
free_on_disk space old b same free = free_moved space (on_disk old) b (sym same) free (ap (λ (c : List Bool). is_member c b) (sym same) ∙ uncommitted space b free)

module _ (old given_back drawn : Space) (entries : ℕ → Bool) (label : ℕ) (gave : HasGiven old entries given_back) (took : HasDrawn given_back (λ b. is_at b label) 1 drawn) (some : 1 ≤ label) where
  pub label_free : IsFree given_back label
  label_free = took.free label (at_itself label (λ none. omega (arith, some, none)))

  -- the label's place is taken
  pub label_taken : IsTaken drawn label
  label_taken free = true≢false (sym (at_itself label (λ none. omega (arith, some, none))) ∙ (free_before given_back drawn (λ b. is_at b label) 1 label took free).1)

  pub drawn_committed : drawn.committed ≡ old.committed
  drawn_committed = took.committed ∙ gave.committed

  pub spared : (b : ℕ) → IsTaken (on_disk old) b → IsTakenOther drawn label b
  spared b is = (λ free. is (free_on_disk drawn old b drawn_committed free), λ same. is (subst (λ (k : ℕ). IsFree (on_disk old) k) (sym same) (free_on_disk given_back old label gave.committed label_free)))

  -- what couldn't be written once the old blocks were given back can't be now
  pub given_spared : (b : ℕ) → IsTaken given_back b → IsTakenOther drawn label b
  given_spared b is = (λ free. is (free_before given_back drawn (λ b. is_at b label) 1 b took free).0, λ same. is (subst (λ (k : ℕ). IsFree given_back k) (sym same) label_free))

  pub free_then : (b : ℕ) → IsFree drawn b → IsFree given_back b
  free_then b free = (free_before given_back drawn (λ b. is_at b label) 1 b took free).0

-- ---- which blocks the next root holds

-- By these tests: the new label, the new nodes, the new blocks of the maps that are written, the blocks of other entries; the old blocks of those
-- maps, the old label, the old nodes; and what the next root held. What is new is none of the old; what stays is no other of the old, and was held.
renewed : (l n m s a o t k : Bool) → (l ≡ true → (o ≡ false) × (t ≡ false)) → (n ≡ true → o ≡ false) → (m ≡ true → o ≡ false)
    → (s ≡ true → (k ≡ true) × ((a ≡ false) × ((t ≡ false) × (o ≡ false))))
    → (((n || m) || ((l || (k && not a)) && not t)) && not o) ≡ ((l || (n || (s || m))) || (k && not (o || (t || (s || a)))))
renewed l true m s a o t k fl fn fm fs = rw (fn refl, any_true l (s || m)) refl
  where
    any_true : (l r : Bool) → (l || (true || r)) ≡ true
    any_true true r = refl
    any_true false r = refl
renewed l false true s a o t k fl fn fm fs = rw (fm refl, any_true l s) refl
  where
    any_true : (l s : Bool) → (l || (false || (s || true))) ≡ true
    any_true true s = refl
    any_true false true = refl
    any_true false false = refl
renewed true false false s a o t k fl fn fm fs = let f = fl refl in rw (f.0, f.1) refl
renewed false false false true a o t k fl fn fm fs = let f = fs refl in rw (f.0, f.1.0, f.1.1.0, f.1.1.1) refl
renewed false false false false a o t false fl fn fm fs = refl
renewed false false false false true true true true fl fn fm fs = refl
renewed false false false false true true false true fl fn fm fs = refl
renewed false false false false true false true true fl fn fm fs = refl
renewed false false false false true false false true fl fn fm fs = refl
renewed false false false false false true true true fl fn fm fs = refl
renewed false false false false false true false true fl fn fm fs = refl
renewed false false false false false false true true fl fn fm fs = refl
renewed false false false false false false false true fl fn fm fs = refl

-- ---- what the entries of a volume lead to, once its map blocks have new places

-- whether an entry that isn't of a map that is written leads to a block
unfoldable pub leads_on : VolumeState → Mapped → ℕ → ℕ → Bool
leads_on x map entries b = lead_to map (λ v. not (is_map_written x v)) 0 entries b

leads_parts : (x : VolumeState) (map : Mapped) (n b : ℕ) → leads map n b ≡ (leads_on x map n b || has_maps_at x map n b)
unfolding leads leads_on has_maps_at
leads_parts x map n b = any_either (λ v. not (is_map_written x v) && is_at b (place_at map v)) (λ v. is_map_written x v && is_at b (place_at map v)) (λ v. is_at b (place_at map v)) 0 n (λ v. parted (is_map_written x v) (is_at b (place_at map v)))
  where
    parted : (o t : Bool) → t ≡ ((not o && t) || (o && t))
    parted true t = refl
    parted false true = refl
    parted false false = refl

-- an entry that isn't written leads to the block
record StaysAt (x : VolumeState) (map : Mapped) (n b : ℕ) : Type 0 where
  vvbn : ℕ
  within : vvbn < n
  on : is_map_written x vvbn ≡ false
  place : place_at map vvbn ≡ b
  some : b ≢ 0

on_where : (x : VolumeState) (map : Mapped) (n b : ℕ) → leads_on x map n b ≡ true → StaysAt x map n b
unfolding leads_on
on_where x map n b is =
    let at = lead_where map (λ v. not (is_map_written x v)) 0 n b is in
    record { vvbn = at.vvbn; within = omega (arith, at.within); on = not-true _ at.on; place = at.place; some = at.some }

on_at : (x : VolumeState) (map : Mapped) (n v b : ℕ) → v < n → is_map_written x v ≡ false → place_at map v ≡ b → b ≢ 0 → leads_on x map n b ≡ true
unfolding leads_on
on_at x map n v b within on place some = lead_at map (λ k. not (is_map_written x k)) 0 n v b (omega arith) (omega (arith, within)) (ap not on) place some

module _ (x : VolumeState) (old new : Mapped) (kept : (v : ℕ) → is_map_written x v ≡ false → entry_under new v ≡ entry_under old v) where
  abbrev all : ℕ
  all = entry_count x.span

  -- The new entries are those that aren't written and those of the blocks of maps that are.
  pub leads_new : (b : ℕ) → leads new all b ≡ (leads_on x old all b || has_maps_at x new all b)
  leads_new b = same_truth (leads new all b) (leads_on x old all b || has_maps_at x new all b) (λ is. to (leads_where new all b is)) (λ is. ⊎_elim
      (λ (on : leads_on x old all b ≡ true).
      let at = on_where x old all b on in leads_at new all at.vvbn b at.within (ap place_in (kept at.vvbn at.on) ∙ at.place) at.some)
      (λ (map : has_maps_at x new all b ≡ true).
      let at = maps_where x new all b map in leads_at new all at.vvbn b at.within at.place at.some)
      (or_cases (leads_on x old all b) (has_maps_at x new all b) is))
    where
      to : LeadsAt new all b → (leads_on x old all b || has_maps_at x new all b) ≡ true
      to at = so (is_map_written x at.vvbn) refl
        where
          so : (t : Bool) → is_map_written x at.vvbn ≡ t → (leads_on x old all b || has_maps_at x new all b) ≡ true
          so true written = or_right (leads_on x old all b) _ (maps_at x new all at.vvbn b at.within written at.place at.some)
          so false on = or_left _ _ (on_at x old all at.vvbn b at.within on (ap place_in (sym (kept at.vvbn on)) ∙ at.place) at.some)

-- ---- the volume

module _ (x : VolumeState) (before after : Image) (space given_back drawn stored left : Space) (label : ℕ) (old new : Mapped) (own : HasOwnBlocks x old space)
    (gave : HasGiven space (has_maps_at x old (entry_count x.span)) given_back) (took : HasDrawn given_back (λ b. is_at b label) 1 drawn) (some : 1 ≤ label)
    (has : HasLabel x old drawn label new after stored) (released : HasGiven stored (λ b. is_at b x.label) left) (same : stored.committed ≡ drawn.committed)
    (long : length new.entries ≡ entry_count x.span) (others : (b : ℕ) → IsTakenOther drawn label b → after b ≡ before b)
  where
    kept_now : (v : ℕ) → is_map_written x v ≡ false → entry_under new v ≡ entry_under old v
    kept_now v on = has.blocks.map.others v (inr on)

    given_free : (b : ℕ) → IsFree drawn b → IsFree given_back b
    given_free b free = free_then space given_back drawn (has_maps_at x old (entry_count x.span)) label gave took some b free

    label_is_free : IsFree given_back label
    label_is_free = label_free space given_back drawn (has_maps_at x old (entry_count x.span)) label gave took some

    -- what is free isn't the root's on the disk
    not_old : (b : ℕ) → IsFree given_back b → (is_at b x.label ≡ false) × (names old.tree b ≡ false)
    not_old b free =
        let off = uncommitted given_back b free in (
          not_so (is_at b x.label) (λ at. let means = at_means b x.label at in true≢false (sym (ap (λ (c : List Bool). is_member c b) gave.committed ∙ subst (λ (k : ℕ). is_member space.committed k ≡ true) means.0 (own.old_label (λ none. means.1 (sym means.0 ∙ none)))) ∙ off)),
          not_so (names old.tree b) (λ named. true≢false (sym (ap (λ (c : List Bool). is_member c b) gave.committed ∙ own.old_nodes b named) ∙ off)),
        )

    -- a node of the new tree is one of the old, or was free
    node_cases : (b : ℕ) → names new.tree b ≡ true → (names old.tree b ≡ true) ⊎ (IsFree given_back b)
    node_cases b named = so (names old.tree b) refl
      where
        so : (t : Bool) → names old.tree b ≡ t → (names old.tree b ≡ true) ⊎ (IsFree given_back b)
        so true e = inl e
        so false e = inr (given_free b (has.blocks.fresh_nodes b named e))

    not_label : (b : ℕ) → names new.tree b ≡ true → is_at b x.label ≡ false
    not_label b named = ⊎_elim
        (λ (was : names old.tree b ≡ true). not_so (is_at b x.label) (λ at. true≢false (sym was ∙ ap (names old.tree) (sym (at_means b x.label at).0) ∙ own.alone)))
        (λ (free : IsFree given_back b). (not_old b free).0)
        (node_cases b named)

    map_led : (v : ℕ) → is_map_written x v ≡ true → has_maps_at x new (entry_count x.span) (place_at new v) ≡ true
    map_led v is =
        let inside = written_within x v is in
        let least = has.blocks.map.some v inside is in
        maps_at x new (entry_count x.span) v (place_at new v) inside is refl (λ none. omega (arith, least, none))

    -- a block that stays is none of the others
    stays_apart : (b : ℕ) → leads_on x old (entry_count x.span) b ≡ true
        → (is_member space.next b ≡ true) × ((has_maps_at x old (entry_count x.span) b ≡ false) × ((names old.tree b ≡ false) × (is_at b x.label ≡ false)))
    stays_apart b on =
        let at = on_where x old (entry_count x.span) b on in
        let led : leads old (entry_count x.span) b ≡ true = leads_at old (entry_count x.span) at.vvbn b at.within at.place at.some in (
          own.held b (or_right (is_at b x.label) _ (or_right (names old.tree b) _ led)),
          (
            not_so (has_maps_at x old (entry_count x.span) b) (λ map.
                let w = maps_where x old (entry_count x.span) b map in
                two at w),
            (
              not_so (names old.tree b) (λ named. true≢false (sym led ∙ own.nodes b named)),
              not_so (is_at b x.label) (λ here. let means = at_means b x.label here in true≢false (sym led ∙ ap (leads old (entry_count x.span)) (sym means.0) ∙ own.label)),
            ),
          ),
        )
      where
        two : StaysAt x old (entry_count x.span) b → StandsAt x old (entry_count x.span) b → ⊥
        two at w = ⊎_elim
            (λ (same : at.vvbn ≡ w.vvbn). true≢false (sym w.on ∙ ap (is_map_written x) (sym same) ∙ at.on))
            (λ (other : at.vvbn ≢ w.vvbn). ⊎_elim
            (λ (less : at.vvbn < w.vvbn). own.entries at.vvbn w.vvbn less w.within (λ none. at.some (sym at.place ∙ none)) (at.place ∙ sym w.place))
            (λ (more : w.vvbn ≤ at.vvbn). own.entries w.vvbn at.vvbn (omega (arith, more, other)) at.within (λ none. at.some (sym w.place ∙ none)) (w.place ∙ sym at.place))
            (cases_lt at.vvbn w.vvbn))
            (cases_eq at.vvbn w.vvbn)

    pub renewed_volume : IsWritten x old before space label new after left
    renewed_volume = record {
      root = has.root;
      root_least = has.root_least;
      root_greatest = has.root_greatest;
      said = has.said;
      tree = has.blocks.tree;
      over = has.blocks.over;
      long = long;
      kept = kept_now;
      maps = λ v is. has.blocks.map.maps v (written_within x v is) is;
      placed = λ v is. has.blocks.map.some v (written_within x v is) is;
      bits = λ v is. has.blocks.bits v (written_within x v is) is;
      given = given_back;
      gave = gave;
      some = some;
      fresh_label = label_is_free;
      fresh_nodes = λ b named lacks. given_free b (has.blocks.fresh_nodes b named lacks);
      fresh_maps = λ v is. given_free (place_at new v) (has.blocks.fresh_maps (place_at new v) (map_led v is));
      alone = not_so (names new.tree label) (λ named. label_taken space given_back drawn (has_maps_at x old (entry_count x.span)) label gave took some
          (has.blocks.fresh_nodes label named (not_old label label_is_free).1));
      apart = λ v is.
          let free = has.blocks.fresh_maps (place_at new v) (map_led v is) in
          (λ same. label_taken space given_back drawn (has_maps_at x old (entry_count x.span)) label gave took some (subst (λ (b : ℕ). IsFree drawn b) same free), has.blocks.apart (place_at new v) (map_led v is));
      once = λ v w lt is too. has.blocks.map.once v w lt (written_within x w too) is too;
      held = λ b.
          released.held b ∙ ap (λ t. t && not (is_at b x.label)) (has.blocks.held b)
          ∙ ap (λ t. ((names new.tree b || has_maps_at x new (entry_count x.span) b) || (t && not (names old.tree b))) && not (is_at b x.label)) (took.held b ∙ ap (λ t. is_at b label || t) (gave.held b))
          ∙ renewed (is_at b label) (names new.tree b) (has_maps_at x new (entry_count x.span) b) (leads_on x old (entry_count x.span) b) (has_maps_at x old (entry_count x.span) b) (is_at b x.label) (names old.tree b) (is_member space.next b)
          (λ at. not_old b (took.free b at))
          (not_label b)
          (λ map. (not_old b (given_free b (has.blocks.fresh_maps b map))).0)
          (stays_apart b)
          ∙ ap₂ (λ (p q : Bool). (is_at b label || (names new.tree b || p)) || (is_member space.next b && not (is_at b x.label || (names old.tree b || q))))
          (sym (leads_new x old new kept_now b)) (sym (leads_parts x old (entry_count x.span) b));
      committed = released.committed ∙ same ∙ took.committed ∙ gave.committed;
      others = λ b is. others b (given_spared space given_back drawn (has_maps_at x old (entry_count x.span)) label gave took some b is);
    }

-- a block that is free once the old blocks of maps were given back is no old node
pub no_old_node : (x : VolumeState) (space given_back : Space) (old : Mapped) (b : ℕ) → given_back.committed ≡ space.committed → HasOwnBlocks x old space → IsFree given_back b → names old.tree b ≡ false
no_old_node x space given_back old b same own free = not_so (names old.tree b) (λ named. true≢false (sym (ap (λ (c : List Bool). is_member c b) same ∙ own.old_nodes b named) ∙ uncommitted given_back b free))

-- the old nodes are no blocks of maps, so the next root is to hold them still
pub nodes_next : (x : VolumeState) (space given_back drawn : Space) (old : Mapped) (label : ℕ) → HasOwnBlocks x old space → HasGiven space (has_maps_at x old (entry_count x.span)) given_back → HasDrawn given_back (λ b. is_at b label) 1 drawn → AreNext drawn old.tree
nodes_next x space given_back drawn old label own gave took b named =
    took.held b ∙ or_right (is_at b label) (is_member given_back.next b) (
    gave.held b ∙ ap₂ (λ (m a : Bool). m && not a) (own.held b (or_right (is_at b x.label) _ (or_left (names old.tree b) _ named)))
    (not_so (has_maps_at x old (entry_count x.span) b) (λ map. let w = maps_where x old (entry_count x.span) b map in true≢false (sym (leads_at old (entry_count x.span) w.vvbn b w.within w.place w.some) ∙ own.nodes b named))))
