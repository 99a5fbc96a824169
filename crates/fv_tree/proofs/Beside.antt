-- A change of one tree beside another: the other stands on its blocks as before, and leads to none of the first one's.
--
-- An example: a file's tree is cut, and VVBN 7 goes out of use. The tree of another file of the table never leads to 7, so it has all its
-- blocks, and each is in use as it was.
use Rattle.std.proofs.Common.{◌≡◌, ◌≢◌, ◌≤◌, ℕ, ◌+◌, ◌/◌, ◌%◌, ◌⊎◌, inl, inr, Bool, true, false, List, Option, Some, None, get_or, is_some, refl, sym, ap, subst, ◌∙◌, arith}
use Rattle.std.specs.BTreeMap as tree
use Rattle.std.specs.FinMap as fin
use Rattle.std.specs.Ordering.{nat_cmp}
use Rattle.std.specs.Option.{option_map}
use Rattle.std.proofs.lemmas.Bool.{cases_eq}
use Rattle.fv_codec.specs.declared.pointer.Pointer.{Pointer}
use Rattle.fv_model.specs.Trees.{fan, spot_cmp}
use Rattle.fv_tables.specs.Kept.{over}
use Rattle.fv_tree.specs.declared.kept.Tree.{Tree}
use Rattle.fv_tree.specs.declared.kept.KeptNode.{KeptNode}
use Rattle.fv_tree.specs.declared.kept.KeptCell.{KeptCell}
use Rattle.fv_tree.specs.Spelled.{Under, Rooted, hole, pointers_at, pointers_in, pointer_at, stamp_in, block_at}
use Rattle.fv_tree.specs.Sources.{Shown, Use}
use Rattle.fv_tree.specs.Standing.{under}
use Rattle.fv_tree.specs.Erasing.{StandsAt}
use Rattle.fv_tree.specs.Writing.{IsAlike}
use Rattle.fv_tree.specs.Releasing.{IsDropped, Releases}
use Rattle.fv_tree.specs.Altering.{Leaves}
use Rattle.fv_tree.specs.Beside.{IsLaid, loaded_on, unread, LeadsTo, Spares, LieApart}
use Rattle.fv_tree.specs.Flushing.{Loaded, Leads, IsSound, ReachesOnce, IsRight, Flushes, IsPlaced, IsReplaced, loaded, loaded_over, node_placed, cell_placed, kind_for}
use Rattle.fv_tree.specs.Unknown.{LeadsUnknown}
use Rattle.fv_tree.proofs.Below.{no_pointers, kept_pointers, read_pointers}
use Rattle.fv_tree.proofs.Cases.{false_is_true, some_none, none_some}
use Rattle.fv_tree.proofs.Gone.{cell_led, spot_led}
use Rattle.fv_tree.proofs.Hints.{right_as}
use Rattle.fv_tree.proofs.Released.{block_read}
use Rattle.fv_tree.proofs.Unknown.{alike_contents, leaves_unknown}
use Rattle.fv_tree.proofs.Ways.{IsWay, own_way, way_pointers}
use Rattle.fv_tree.proofs.Writes.{block_none, block_here}

-- ---- trees that stand in their blocks but for what is in memory

unkept_node : (o : Option KeptNode) → option_map (λ (kept : KeptNode). kept.children) o ≡ None → node_placed o ≡ true
unkept_node None e = refl
unkept_node (Some kept) e = absurd cc

unkept_cell : (o : Option KeptCell) → option_map (λ (kept : KeptCell). kept.block.value) o ≡ None → cell_placed o ≡ true
unkept_cell None e = refl
unkept_cell (Some kept) e = absurd cc

pub tree_laid : (blocks : Under) (t : Tree) → IsLaid (loaded_over blocks t)
tree_laid blocks t = record {
  nodes = λ level place low none. spot_led t level place low ∙ unkept_node (tree.get spot_cmp t.nodes (level, place)) none;
  cells = λ index none. cell_led t 0 index refl ∙ unkept_cell (tree.get nat_cmp t.cells index) none;
}

pub unread_laid : (t : Rooted) → IsLaid (unread t)
unread_laid t = record { nodes = λ level place low none. refl; cells = λ index none. refl }

-- ---- over blocks of which those that the tree leads to stay

module _ (s : Loaded) (n : Under) (laid : IsLaid s) (stay : (level place v : ℕ) → Leads s level place v → n v ≡ s.tree.under v) where
  abbrev t : Rooted
  t = s.tree

  abbrev w : Rooted
  w = over n s.tree

  led : (level place : ℕ) → StandsAt t level place → s.placed level place ≡ true → n (pointer_at t level place).vvbn ≡ t.under (pointer_at t level place).vvbn
  led level place some placed = stay level place (pointer_at t level place).vvbn (record { some = some; placed = placed; vvbn = refl })

  same_children : (level place : ℕ) → 1 ≤ level → (o : Option (List Pointer)) → t.nodes level place ≡ o → pointers_at w level place (pointer_at t level place) ≡ pointers_at t level place (pointer_at t level place)
  same_children level place low o is = elim (cases_eq (pointer_at t level place).stamp 0) [
    | inl none ↦ no_pointers w level place (pointer_at t level place) none ∙ sym (no_pointers t level place (pointer_at t level place) none)
    | inr some ↦ at o is some
  ]
    where
      at : (o : Option (List Pointer)) → t.nodes level place ≡ o → StandsAt t level place → pointers_at w level place (pointer_at t level place) ≡ pointers_at t level place (pointer_at t level place)
      at (Some xs) is some = kept_pointers w level place (pointer_at t level place) xs some is ∙ sym (kept_pointers t level place (pointer_at t level place) xs some is)
      at None is some =
          read_pointers w level place (pointer_at t level place) some is
          ∙ ap pointers_in (led level place some (laid.nodes level place low is))
          ∙ sym (read_pointers t level place (pointer_at t level place) some is)

  way : IsWay w (pointer_at t)
  way = record {
    top = (own_way t).top;
    down = λ level place lt. (own_way t).down level place lt ∙ sym (ap (λ (xs : List Pointer). get_or xs (place % fan) hole) (same_children (level + 1) (place / fan) (omega arith) (t.nodes (level + 1) (place / fan)) refl));
  }

  pub beside_pointers : (level place : ℕ) → pointer_at w level place ≡ pointer_at t level place
  beside_pointers = way_pointers w t refl way

  pub beside_blocks : (i : ℕ) → block_at w i ≡ block_at t i
  beside_blocks i = elim (cases_eq (pointer_at t 0 i).stamp 0) [
    | inl none ↦ block_none w i (ap (λ (p : Pointer). p.stamp) (beside_pointers 0 i) ∙ none) ∙ sym (block_none t i none)
    | inr some ↦ at (t.cells i) refl some
  ]
    where
      still : StandsAt t 0 i → StandsAt w 0 i
      still some none = some (ap (λ (p : Pointer). p.stamp) (sym (beside_pointers 0 i)) ∙ none)

      at : (o : Option (List ℕ)) → t.cells i ≡ o → StandsAt t 0 i → block_at w i ≡ block_at t i
      at (Some block) is some = block_here w i block (still some) is ∙ sym (block_here t i block some is)
      at None is some =
          block_read w i (still some) is
          ∙ ap (λ (p : Pointer). n p.vvbn) (beside_pointers 0 i)
          ∙ led 0 i some (laid.cells i is)
          ∙ sym (block_read t i some is)

  -- It is seen as before,
  pub beside_alike : IsAlike t w
  beside_alike = record {
    levels = refl;
    stamps = λ level place. ap stamp_in (beside_pointers level place);
    blocks = beside_blocks;
  }

  -- leads to the same blocks,
  pub beside_leads : (level place v : ℕ) → Leads (loaded_on n s) level place v → Leads s level place v
  beside_leads level place v leads = record {
    some = λ none. leads.some (ap (λ (p : Pointer). p.stamp) (beside_pointers level place) ∙ none);
    placed = leads.placed;
    vvbn = ap (λ (p : Pointer). p.vvbn) (sym (beside_pointers level place)) ∙ leads.vvbn;
  }

  pub beside_keeps : (level place v : ℕ) → Leads s level place v → Leads (loaded_on n s) level place v
  beside_keeps level place v leads = record {
    some = λ none. leads.some (ap (λ (p : Pointer). p.stamp) (sym (beside_pointers level place)) ∙ none);
    placed = leads.placed;
    vvbn = ap (λ (p : Pointer). p.vvbn) (beside_pointers level place) ∙ leads.vvbn;
  }

  -- and stands on them, where they are in use as before.
  module _ (used uses : ℕ → Option Use) (same : (level place v : ℕ) → Leads s level place v → uses v ≡ used v) (sound : IsSound used s) where
    stood : (level place : ℕ) → StandsAt w level place → StandsAt t level place
    stood level place some none = some (ap (λ (p : Pointer). p.stamp) (beside_pointers level place) ∙ none)

    in_place : (level place : ℕ) (xs : List Pointer) → 1 ≤ level → t.nodes level place ≡ Some xs → s.changed level place ≡ false → StandsAt w level place
        → (pointers_in (n (pointer_at w level place).vvbn) ≡ xs) × (s.placed level place ≡ true)
    in_place level place xs low node unchanged some =
        let was = sound.same level place xs low node unchanged (stood level place some) in
        (ap (λ (p : Pointer). pointers_in (n p.vvbn)) (beside_pointers level place) ∙ ap pointers_in (led level place (stood level place some) was.1) ∙ was.0, was.1)

    in_cells : (index : ℕ) (block : List ℕ) → t.cells index ≡ Some block → s.changed 0 index ≡ false → StandsAt w 0 index → (n (pointer_at w 0 index).vvbn ≡ Some block) × (s.placed 0 index ≡ true)
    in_cells index block cell unchanged some =
        let was = sound.cells index block cell unchanged (stood 0 index some) in
        (ap (λ (p : Pointer). n p.vvbn) (beside_pointers 0 index) ∙ led 0 index (stood 0 index some) was.1 ∙ was.0, was.1)

    pub beside_sound : IsSound uses (loaded_on n s)
    beside_sound = record {
      once = λ level place k q v one other. sound.once level place k q v (beside_leads level place v one) (beside_leads k q v other);
      held = λ level place v leads. ap is_some (stay level place v (beside_leads level place v leads)) ∙ sound.held level place v (beside_leads level place v leads);
      used = λ level place v leads.
          let was = beside_leads level place v leads in
          right_as (kind_for t.owner level) (kind_for t.owner level) refl (pointer_at t level place) (pointer_at w level place) (used v) (uses v) (ap (λ (p : Pointer). p.pvbn) (beside_pointers level place)) (same level place v was) (sound.used level place v was);
      over = λ level place changed some lt. sound.over level place changed (stood level place some) lt;
      same = in_place;
      cells = in_cells;
      empty = λ level place low none where_. sound.empty level place low (ap (λ (p : Pointer). p.stamp) (sym (beside_pointers level place)) ∙ none) where_;
    }

-- ---- a tree of which nothing is in memory

pub unread_sound : (used : ℕ → Option Use) (t : Rooted) → ((level place : ℕ) → t.nodes level place ≡ None) → ((index : ℕ) → t.cells index ≡ None) → ReachesOnce used t → IsSound used (unread t)
unread_sound used t none no_cell is = record {
  once = λ level place k q v one two. is.once level place k q one.some two.some (one.vvbn ∙ sym two.vvbn);
  held = λ level place v leads. ap (λ v. is_some (t.under v)) (sym leads.vvbn) ∙ is.held level place leads.some;
  used = λ level place v leads. subst (λ v. IsRight (kind_for t.owner level) (pointer_at t level place) (used v)) leads.vvbn (is.used level place leads.some);
  over = λ level place changed. false_is_true false refl changed;
  same = λ level place xs _ node. some_none (t.nodes level place) xs (none level place) node;
  cells = λ index block cell. some_none (t.cells index) block (no_cell index) cell;
  empty = λ level place _ _ _ xs node. some_none (t.nodes level place) xs (none level place) node;
}

pub unread_reaches : (used : ℕ → Option Use) (t : Rooted) → IsSound used (unread t) → ReachesOnce used t
unread_reaches used t sound = record {
  once = λ level place k q one two same. sound.once level place k q (pointer_at t level place).vvbn (led level place one) (subst (Leads (unread t) k q) (sym same) (led k q two));
  held = λ level place some. sound.held level place (pointer_at t level place).vvbn (led level place some);
  used = λ level place some. sound.used level place (pointer_at t level place).vvbn (led level place some);
}
  where
    led : (level place : ℕ) → (pointer_at t level place).stamp ≢ 0 → Leads (unread t) level place (pointer_at t level place).vvbn
    led level place some = record { some = some; placed = refl; vvbn = refl }

-- ---- what a change of one tree leaves of all other blocks

-- a change that only loads
pub loading_spares : (old new : Shown) (before after : ℕ → Type 0) → new.held ≡ old.held → new.used ≡ old.used → ((v : ℕ) → after v → before v) → Spares old new before after
loading_spares old new before after held used no_more = record {
  stays = λ v there not_. (ap (λ m. fin.get m v) held, ap (λ f. f v) used);
  leads = λ v led not_. absurd (not_ (no_more v led));
}

-- a removal of cells
pub removal_spares : (old new : Shown) (t u : Tree) → Releases old new (IsDropped (under old) t u) → ((level place v : ℕ) → Leads (loaded new u) level place v → Leads (loaded old t) level place v)
    → Spares old new (LeadsTo (loaded old t)) (LeadsTo (loaded new u))
removal_spares old new t u released no_more = record {
  stays = λ v there not_. let kept = λ (d : IsDropped (under old) t u v). not_ (record { level = d.level; place = d.place; leads = d.led }) in (released.held v kept, released.used v kept);
  leads = λ v led not_. absurd (not_ (record { level = led.level; place = led.place; leads = no_more led.level led.place v led.leads }));
}

-- a flush; where the tree leads afterwards a block was placed, or the tree led there
module _ {hides : Bool} (old new : Shown) (s t : Loaded) (before : s.tree.under ≡ under old) (after : t.tree.under ≡ under new) (flushes : Flushes hides s old.used t new.used) (from : (level place v : ℕ) → Leads t level place v → IsPlaced s t v ⊎ Leads s level place v) where
  abbrev Not : ℕ → Type 0
  Not v = LeadsTo s v → ⊥

  unreplaced : (v : ℕ) → Not v → IsReplaced s t v → ⊥
  unreplaced v not_ is = not_ (record { level = is.level; place = is.place; leads = is.leads })

  free : (v : ℕ) → Not v → IsPlaced s t v → fin.get old.held v ≡ None
  free v not_ placed = ap (λ (u : Under). u v) (sym before) ∙ (flushes.fresh v placed (unreplaced v not_)).0

  pub flush_spares : Spares old new (LeadsTo s) (LeadsTo t)
  flush_spares = record {
    stays = λ v there not_.
        let same = flushes.others v (unreplaced v not_) (λ placed. none_some (fin.get old.held v) (free v not_ placed) there) in
        (ap (λ (u : Under). u v) (sym after) ∙ same.0 ∙ ap (λ (u : Under). u v) before, same.1);
    leads = λ v led not_. elim (from led.level led.place v led.leads) [
      | inl placed ↦ free v not_ placed
      | inr was ↦ absurd (not_ (record { level = led.level; place = led.place; leads = was }))
    ];
  }

-- ---- another tree beside that change

module _ (old new : Shown) (before after : ℕ → Type 0) (r : Loaded) (spares : Spares old new before after) (on : r.tree.under ≡ under old) (laid : IsLaid r) (sound : IsSound old.used r) (apart : LieApart before (LeadsTo r)) where
  held : (level place v : ℕ) → Leads r level place v → is_some (fin.get old.held v) ≡ true
  held level place v led = ap (λ (u : Under). is_some (u v)) (sym on) ∙ sound.held level place v led

  kept : (level place v : ℕ) → Leads r level place v → (fin.get new.held v ≡ fin.get old.held v) × (new.used v ≡ old.used v)
  kept level place v led = spares.stays v (held level place v led) (λ was. apart v was (record { level = level; place = place; leads = led }))

  stay : (level place v : ℕ) → Leads r level place v → under new v ≡ r.tree.under v
  stay level place v led = (kept level place v led).0 ∙ ap (λ (u : Under). u v) (sym on)

  -- It is seen as before,
  pub other_alike : IsAlike r.tree (over (under new) r.tree)
  other_alike = beside_alike r (under new) laid stay

  -- by the same pointers,
  pub other_leaves : Leaves r (loaded_on (under new) r)
  other_leaves = record { levels = refl; root = refl; places = λ level place. inr (record { pointer = beside_pointers r (under new) laid stay level place; changed = refl }) }

  -- with the unknown ones where they may stand,
  pub other_unknown : LeadsUnknown r → LeadsUnknown (loaded_on (under new) r)
  other_unknown = leaves_unknown r (loaded_on (under new) r) refl (alike_contents r (loaded_on (under new) r) other_alike) other_leaves

  -- leads to the same blocks,
  pub other_leads : (v : ℕ) → LeadsTo (loaded_on (under new) r) v → LeadsTo r v
  other_leads v led = record { level = led.level; place = led.place; leads = beside_leads r (under new) laid stay led.level led.place v led.leads }

  pub other_keeps : (v : ℕ) → LeadsTo r v → LeadsTo (loaded_on (under new) r) v
  other_keeps v led = record { level = led.level; place = led.place; leads = beside_keeps r (under new) laid stay led.level led.place v led.leads }

  -- stands on them,
  pub other_sound : IsSound new.used (loaded_on (under new) r)
  other_sound = beside_sound r (under new) laid stay old.used new.used (λ level place v led. (kept level place v led).1) sound

  -- and the one that changed leads to none of them.
  pub still_apart : LieApart after (LeadsTo (loaded_on (under new) r))
  still_apart v led other =
      let was = other_leads v other in
      none_some (fin.get old.held v) (spares.leads v led (λ one. apart v one was)) (held was.level was.place v was.leads)
