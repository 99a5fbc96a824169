-- Several steps of a flush.
use Rattle.std.proofs.Common.{List, Option, Some, None, ◌≡◌, ◌≢◌, ◌≤◌, ℕ, ◌+◌, ◌/◌, ◌⊎◌, inl, inr, Bool, true, false, refl, sym, ap, subst, ◌∙◌, arith}
use Rattle.fv_codec.specs.declared.pointer.Pointer.{Pointer}
use Rattle.fv_model.specs.Trees.{fan}
use Rattle.fv_tree.specs.Sources.{Use}
use Rattle.fv_tree.specs.Spelled.{Rooted, block_at, pointer_at}
use Rattle.fv_tree.specs.Writing.{IsAlike}
use Rattle.fv_tree.specs.Flushing.{Loaded, Leads, IsSound, IsFlushed, IsReplaced, IsPlaced, HoldsUnknown, HoldsUnknownRoot, has_unknown_root, IsNodeOf, NamesPosition, Flushes, kind_for, use_told, HasKind}
use Rattle.fv_tree.proofs.Cases.{bit, there, some_none, false_is_true}
use Rattle.fv_tree.proofs.Ways.{reached_within}
use Rattle.fv_tree.proofs.Unchanged.{IsMemory, unchanged_placed}

pub alike_then : (t u v : Rooted) → IsAlike t u → IsAlike u v → IsAlike t v
alike_then t u v first second = record {
  levels = second.levels ∙ first.levels;
  stamps = λ j c. second.stamps j c ∙ first.stamps j c;
  blocks = λ i. second.blocks i ∙ first.blocks i;
}

-- nothing was placed
none_flushed : {P : Type 0} (s : Loaded) (j c : ℕ) → IsFlushed s s j c → P
none_flushed s j c flushed = false_is_true (s.changed j c) flushed.done flushed.was

pub flushes_nothing : {hides : Bool} (s : Loaded) (used : ℕ → Option Use) → IsSound used s → Flushes hides s used s used
flushes_nothing s used sound = record {
  owner = refl;
  sound = sound;
  alike = record { levels = refl; stamps = λ j c. refl; blocks = λ i. refl };
  stamps = λ j c. refl;
  fewer = λ j c changed. (changed, refl);
  stays = λ j c _. refl;
  blocks = λ v block _ held. held;
  others = λ v _ _. (refl, refl);
  fresh = λ v placed _. none_flushed s placed.level placed.place placed.flushed;
  gone = λ v replaced _. none_flushed s replaced.level replaced.place replaced.flushed;
  unknown = λ j c flushed _ _. none_flushed s (j + 1) (c / fan) flushed;
  unknown_roots = λ c block flushed _ _. none_flushed s 0 c flushed;
  hidden = λ _ j c flushed. none_flushed s j c flushed;
  told = λ _ j c flushed. none_flushed s j c flushed;
  kinds = λ j c flushed. none_flushed s j c flushed;
  positions = λ j c low flushed. none_flushed s j c flushed;
}

module _ {hides : Bool} (s t u : Loaded) (before between after : ℕ → Option Use) (memory : IsMemory t) (first : Flushes hides s before t between) (second : Flushes hides t between u after) where
  -- what was placed stays so
  still : (j c : ℕ) → t.changed j c ≡ false → u.changed j c ≡ false
  still j c done = elim (bit (u.changed j c)) [
    | inl e ↦ e
    | inr e ↦ false_is_true (t.changed j c) done (second.fewer j c e).0
  ]

  flushed_first : (j c : ℕ) → IsFlushed s t j c → IsFlushed s u j c
  flushed_first j c flushed = record { was = flushed.was; done = still j c flushed.done; some = flushed.some }

  flushed_second : (j c : ℕ) → IsFlushed t u j c → IsFlushed s u j c
  flushed_second j c flushed = record { was = (first.fewer j c flushed.was).0; done = flushed.done; some = λ e. flushed.some (first.stamps j c ∙ e) }

  leads_second : (j c v : ℕ) → t.changed j c ≡ true → Leads t j c v → Leads s j c v
  leads_second j c v changed leads = record {
    some = λ e. leads.some (first.stamps j c ∙ e);
    placed = sym (first.fewer j c changed).1 ∙ leads.placed;
    vvbn = sym (ap (λ (p : Pointer). p.vvbn) (first.stays j c (inl changed))) ∙ leads.vvbn;
  }

  leads_first : (j c v : ℕ) → t.changed j c ≡ true → Leads s j c v → Leads t j c v
  leads_first j c v changed leads = record {
    some = λ e. leads.some (sym (first.stamps j c) ∙ e);
    placed = (first.fewer j c changed).1 ∙ leads.placed;
    vvbn = ap (λ (p : Pointer). p.vvbn) (first.stays j c (inl changed)) ∙ leads.vvbn;
  }

  replaced_first : (v : ℕ) → IsReplaced s t v → IsReplaced s u v
  replaced_first v r = record { level = r.level; place = r.place; flushed = flushed_first r.level r.place r.flushed; leads = r.leads }

  replaced_second : (v : ℕ) → IsReplaced t u v → IsReplaced s u v
  replaced_second v r = record { level = r.level; place = r.place; flushed = flushed_second r.level r.place r.flushed; leads = leads_second r.level r.place v r.flushed.was r.leads }

  pub placed_first : (v : ℕ) → IsPlaced s t v → IsPlaced s u v
  placed_first v r = record { level = r.level; place = r.place; flushed = flushed_first r.level r.place r.flushed; vvbn = ap (λ (p : Pointer). p.vvbn) (second.stays r.level r.place (inr r.flushed.done)) ∙ r.vvbn }

  pub placed_second : (v : ℕ) → IsPlaced t u v → IsPlaced s u v
  placed_second v r = record { level = r.level; place = r.place; flushed = flushed_second r.level r.place r.flushed; vvbn = r.vvbn }

  unchanged_first : (j c : ℕ) → s.changed j c ≡ false → t.changed j c ≡ false
  unchanged_first j c before = elim (bit (t.changed j c)) [
    | inl e ↦ e
    | inr e ↦ false_is_true (s.changed j c) before (first.fewer j c e).0
  ]

  stays : (j c : ℕ) → (u.changed j c ≡ true) ⊎ (s.changed j c ≡ false) → pointer_at u.tree j c ≡ pointer_at s.tree j c
  stays j c (inl changed) = second.stays j c (inl changed) ∙ first.stays j c (inl (second.fewer j c changed).0)
  stays j c (inr same) = second.stays j c (inr (unchanged_first j c same)) ∙ first.stays j c (inr same)

  -- a VVBN at which nothing was then, and that wasn't replaced before, had nothing before
  none_before : (v : ℕ) → (IsReplaced s t v → ⊥) → t.tree.under v ≡ None → s.tree.under v ≡ None
  none_before v not_replaced none = elim (there (s.tree.under v)) [
    | inl e ↦ e
    | inr held ↦ some_none (t.tree.under v) held.0 none (first.blocks v held.0 not_replaced held.1)
  ]

  unused_before : (v : ℕ) → (IsReplaced s t v → ⊥) → between v ≡ None → before v ≡ None
  unused_before v not_replaced unused = elim (there (before v)) [
    | inl e ↦ e
    | inr e ↦ some_none (between v) e.0 unused ((first.others v not_replaced (λ p. some_none (before v) e.0 (first.fresh v p not_replaced).1 e.1)).1 ∙ e.1)
  ]

  fresh : (v : ℕ) → IsPlaced s u v → (IsReplaced s u v → ⊥) → (s.tree.under v ≡ None) × (before v ≡ None)
  fresh v p not_replaced = elim (bit (t.changed p.level p.place)) [
    | inl done ↦ first.fresh v (record {
      level = p.level;
      place = p.place;
      flushed = record { was = p.flushed.was; done = done; some = p.flushed.some };
      vvbn = sym (ap (λ (p : Pointer). p.vvbn) (second.stays p.level p.place (inr done))) ∙ p.vvbn;
    }) (λ r. not_replaced (replaced_first v r))
    | inr changed ↦
        let new = second.fresh v (record {
          level = p.level;
          place = p.place;
          flushed = record { was = changed; done = p.flushed.done; some = λ e. p.flushed.some (sym (first.stamps p.level p.place) ∙ e) };
          vvbn = p.vvbn;
        }) (λ r. not_replaced (replaced_second v r)) in
        (none_before v (λ r. not_replaced (replaced_first v r)) new.0, unused_before v (λ r. not_replaced (replaced_first v r)) new.1)
  ]

  -- a VVBN that went in the first steps and didn't come back
  gone_first : (v : ℕ) → IsReplaced s t v → (IsPlaced s u v → ⊥) → after v ≡ None
  gone_first v replaced not_placed = elim (there (after v)) [
    | inl e ↦ e
    | inr e ↦
        let same = second.others v (λ r. some_none (after v) e.0 (second.gone v r (λ p. not_placed (placed_second v p))) e.1) (λ p. not_placed (placed_second v p)) in
        some_none (after v) e.0 (same.1 ∙ first.gone v replaced (λ p. not_placed (placed_first v p))) e.1
  ]

  gone : (v : ℕ) → IsReplaced s u v → (IsPlaced s u v → ⊥) → after v ≡ None
  gone v r not_placed = elim (bit (t.changed r.level r.place)) [
    | inl done ↦ gone_first v (record { level = r.level; place = r.place; flushed = record { was = r.flushed.was; done = done; some = r.flushed.some }; leads = r.leads }) not_placed
    | inr changed ↦
        let leads = leads_first r.level r.place v changed r.leads in
        second.gone v (record { level = r.level; place = r.place; flushed = record { was = changed; done = r.flushed.done; some = leads.some }; leads = leads }) (λ p. not_placed (placed_second v p))
  ]

  -- the children of a node that was placed in the first steps stay as they were
  same_child : (j c : ℕ) → IsFlushed s t (j + 1) (c / fan) → (pointer_at t.tree j c).stamp ≢ 0 → pointer_at u.tree j c ≡ pointer_at t.tree j c
  same_child j c flushed reached =
      let within : j + 1 ≤ t.tree.levels = reached_within t.tree (j + 1) (c / fan) (λ e. flushed.some (sym (first.stamps (j + 1) (c / fan)) ∙ e)) in
      elim (bit (t.changed j c)) [
        | inl same ↦ second.stays j c (inr same)
        | inr changed ↦ false_is_true (t.changed (j + 1) (c / fan)) flushed.done (first.sound.over j c changed reached (omega (arith, within)))
      ]

  unknown_first : (j c : ℕ) → IsFlushed s t (j + 1) (c / fan) → (pointer_at u.tree j c).stamp ≢ 0 → (pointer_at u.tree j c).pvbn ≡ 0 → (pointer_at u.tree (j + 1) (c / fan)).pvbn ≡ 0
  unknown_first j c flushed some none =
      let reached : (pointer_at t.tree j c).stamp ≢ 0 = λ e. some (second.stamps j c ∙ e) in
      let child : pointer_at u.tree j c ≡ pointer_at t.tree j c = same_child j c flushed reached in
      ap (λ (p : Pointer). p.pvbn) (second.stays (j + 1) (c / fan) (inr flushed.done)) ∙ first.unknown j c flushed reached (sym (ap (λ (p : Pointer). p.pvbn) child) ∙ none)

  unknown : (j c : ℕ) → IsFlushed s u (j + 1) (c / fan) → (pointer_at u.tree j c).stamp ≢ 0 → (pointer_at u.tree j c).pvbn ≡ 0 → (pointer_at u.tree (j + 1) (c / fan)).pvbn ≡ 0
  unknown j c flushed some none = elim (bit (t.changed (j + 1) (c / fan))) [
    | inl done ↦ unknown_first j c (record { was = flushed.was; done = done; some = flushed.some }) some none
    | inr changed ↦ second.unknown j c (record { was = changed; done = flushed.done; some = λ e. flushed.some (sym (first.stamps (j + 1) (c / fan)) ∙ e) }) some none
  ]

  -- the block of what was placed in the first steps isn't replaced in the others
  not_again : (j c : ℕ) → IsFlushed s t j c → IsReplaced t u (pointer_at t.tree j c).vvbn → ⊥
  not_again j c flushed r =
      let v = (pointer_at t.tree j c).vvbn in
      let reached : (pointer_at t.tree j c).stamp ≢ 0 = λ e. flushed.some (sym (first.stamps j c) ∙ e) in
      let leads : Leads t j c v = record { some = reached; placed = unchanged_placed t between first.sound memory j c flushed.done reached; vvbn = refl } in
      let same = first.sound.once j c r.level r.place v leads r.leads in
      false_is_true (t.changed j c) flushed.done ((λ i. t.changed (same.0 i) (same.1 i)) ∙ r.flushed.was)

  -- its VVBN stays in use as it was
  same_use : (j c : ℕ) (x : Use) → IsFlushed s t j c → between (pointer_at t.tree j c).vvbn ≡ Some x → after (pointer_at t.tree j c).vvbn ≡ between (pointer_at t.tree j c).vvbn
  same_use j c x flushed use_ =
      let v = (pointer_at t.tree j c).vvbn in
      (second.others v (not_again j c flushed) (λ p. some_none (between v) x (second.fresh v p (not_again j c flushed)).1 use_)).1

  -- the blocks of cells stay
  root_before : (c : ℕ) (block : List ℕ) → block_at u.tree c ≡ Some block → has_unknown_root u.tree.owner block ≡ true → (block_at t.tree c ≡ Some block) × (has_unknown_root t.tree.owner block ≡ true)
  root_before c block holds is = (sym (second.alike.blocks c) ∙ holds, ap (λ (o : ℕ). has_unknown_root o block) (sym second.owner) ∙ is)

  unknown_roots : (c : ℕ) (block : List ℕ) → IsFlushed s u 0 c → block_at u.tree c ≡ Some block → has_unknown_root u.tree.owner block ≡ true → (pointer_at u.tree 0 c).pvbn ≡ 0
  unknown_roots c block flushed holds is = elim (bit (t.changed 0 c)) [
    | inl done ↦
        let was = root_before c block holds is in
        ap (λ (p : Pointer). p.pvbn) (second.stays 0 c (inr done)) ∙ first.unknown_roots c block (record { was = flushed.was; done = done; some = flushed.some }) was.0 was.1
    | inr changed ↦ second.unknown_roots c block (record { was = changed; done = flushed.done; some = λ e. flushed.some (sym (first.stamps 0 c) ∙ e) }) holds is
  ]

  hidden : hides ≡ true → (j c : ℕ) → IsFlushed s u j c → (pointer_at u.tree j c).pvbn ≡ 0
  hidden hide j c flushed = elim (bit (t.changed j c)) [
    | inl done ↦ ap (λ (p : Pointer). p.pvbn) (second.stays j c (inr done)) ∙ first.hidden hide j c (record { was = flushed.was; done = done; some = flushed.some })
    | inr changed ↦ second.hidden hide j c (record { was = changed; done = flushed.done; some = λ e. flushed.some (sym (first.stamps j c) ∙ e) })
  ]

  told_first : hides ≡ false → (j c : ℕ) → IsFlushed s t j c → (after (pointer_at u.tree j c).vvbn ≡ Some (use_told (pointer_at u.tree j c) (kind_for u.tree.owner j))) ⊎ (HoldsUnknown u.tree j c ⊎ HoldsUnknownRoot u.tree j c)
  told_first tells j c flushed =
      let same : pointer_at u.tree j c ≡ pointer_at t.tree j c = second.stays j c (inr flushed.done) in
      elim (first.told tells j c flushed) [
        | inl use_ ↦ inl (ap (λ (p : Pointer). after p.vvbn) same ∙ same_use j c (use_told (pointer_at t.tree j c) (kind_for t.tree.owner j)) flushed use_ ∙ use_ ∙ sym (λ i. Some (use_told (same i) (kind_for (second.owner i) j))))
        | inr (inr root) ↦ inr (inr (record {
          cell = root.cell;
          block = root.block;
          holds = second.alike.blocks c ∙ root.holds;
          unknown = ap (λ (o : ℕ). has_unknown_root o root.block) second.owner ∙ root.unknown;
        }))
        | inr (inl holds) ↦
            let above : IsFlushed s t (holds.below + 1) (holds.child / fan) = subst (λ k. IsFlushed s t k (holds.child / fan)) (sym holds.up) (subst (IsFlushed s t j) (sym holds.over) flushed) in
            let child : pointer_at u.tree holds.below holds.child ≡ pointer_at t.tree holds.below holds.child = same_child holds.below holds.child above holds.some in
            inr (inl (record {
              below = holds.below;
              child = holds.child;
              up = holds.up;
              over = holds.over;
              some = λ e. holds.some (sym (ap (λ (p : Pointer). p.stamp) child) ∙ e);
              unknown = ap (λ (p : Pointer). p.pvbn) child ∙ holds.unknown;
            }))
      ]

  told : hides ≡ false → (j c : ℕ) → IsFlushed s u j c → (after (pointer_at u.tree j c).vvbn ≡ Some (use_told (pointer_at u.tree j c) (kind_for u.tree.owner j))) ⊎ (HoldsUnknown u.tree j c ⊎ HoldsUnknownRoot u.tree j c)
  told tells j c flushed = elim (bit (t.changed j c)) [
    | inl done ↦ told_first tells j c (record { was = flushed.was; done = done; some = flushed.some })
    | inr changed ↦ second.told tells j c (record { was = changed; done = flushed.done; some = λ e. flushed.some (sym (first.stamps j c) ∙ e) })
  ]

  kinds_first : (j c : ℕ) → IsFlushed s t j c → HasKind (kind_for u.tree.owner j) (after (pointer_at u.tree j c).vvbn)
  kinds_first j c flushed =
      let same : pointer_at u.tree j c ≡ pointer_at t.tree j c = second.stays j c (inr flushed.done) in
      let was = first.kinds j c flushed in
      elim (there (between (pointer_at t.tree j c).vvbn)) [
        | inl none ↦ absurd (subst (HasKind (kind_for t.tree.owner j)) none was)
        | inr use_ ↦
            subst (λ (r : Pointer). HasKind (kind_for u.tree.owner j) (after r.vvbn)) (sym same)
            (subst (HasKind (kind_for u.tree.owner j)) (sym (same_use j c use_.0 flushed use_.1))
            (subst (λ (o : ℕ). HasKind (kind_for o j) (between (pointer_at t.tree j c).vvbn)) (sym second.owner) was))
      ]

  kinds : (j c : ℕ) → IsFlushed s u j c → HasKind (kind_for u.tree.owner j) (after (pointer_at u.tree j c).vvbn)
  kinds j c flushed = elim (bit (t.changed j c)) [
    | inl done ↦ kinds_first j c (record { was = flushed.was; done = done; some = flushed.some })
    | inr changed ↦ second.kinds j c (record { was = changed; done = flushed.done; some = λ e. flushed.some (sym (first.stamps j c) ∙ e) })
  ]

  -- and its block stays
  positions_first : (j c : ℕ) → 1 ≤ j → IsFlushed s t j c → NamesPosition u.tree j c
  positions_first j c low flushed =
      let v = (pointer_at t.tree j c).vvbn in
      let same : pointer_at u.tree j c ≡ pointer_at t.tree j c = second.stays j c (inr flushed.done) in
      let was = first.positions j c low flushed in
      let still_there : u.tree.under v ≡ Some was.block = second.blocks v was.block (not_again j c flushed) was.lies in
      subst (λ (r : Pointer). IsNodeOf u.tree.owner j c (u.tree.under r.vvbn)) (sym same)
      (subst (λ (o : ℕ). IsNodeOf o j c (u.tree.under v)) (sym second.owner)
      (record { block = was.block; lies = still_there; children = was.children; spells = was.spells }))

  positions : (j c : ℕ) → 1 ≤ j → IsFlushed s u j c → NamesPosition u.tree j c
  positions j c low flushed = elim (bit (t.changed j c)) [
    | inl done ↦ positions_first j c low (record { was = flushed.was; done = done; some = flushed.some })
    | inr changed ↦ second.positions j c low (record { was = changed; done = flushed.done; some = λ e. flushed.some (sym (first.stamps j c) ∙ e) })
  ]

  pub flushes_then : Flushes hides s before u after
  flushes_then = record {
    owner = second.owner ∙ first.owner;
    sound = second.sound;
    alike = alike_then s.tree t.tree u.tree first.alike second.alike;
    stamps = λ j c. second.stamps j c ∙ first.stamps j c;
    fewer = λ j c changed. let mid = second.fewer j c changed in let was = first.fewer j c mid.0 in (was.0, mid.1 ∙ was.1);
    stays = stays;
    blocks = λ v block not_replaced held. second.blocks v block (λ r. not_replaced (replaced_second v r)) (first.blocks v block (λ r. not_replaced (replaced_first v r)) held);
    others = λ v not_replaced not_placed.
        let one = first.others v (λ r. not_replaced (replaced_first v r)) (λ p. not_placed (placed_first v p)) in
        let two = second.others v (λ r. not_replaced (replaced_second v r)) (λ p. not_placed (placed_second v p)) in
        (two.0 ∙ one.0, two.1 ∙ one.1);
    fresh = fresh;
    gone = gone;
    unknown = unknown;
    unknown_roots = unknown_roots;
    hidden = hidden;
    told = told;
    kinds = kinds;
    positions = positions;
  }
