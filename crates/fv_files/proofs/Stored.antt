-- What the trees of a table lead to stays as their pointers say, where one of them changed.
use Rattle.std.proofs.Common.{◌≡◌, ◌≢◌, ℕ, ◌≤◌, Bool, true, false, refl, sym, ap, subst, ◌∙◌, ⊎_elim, arith, ◌==◌, if◌then◌else◌}
use Rattle.std.specs.Prelude.{List, Option, Some, None, is_some}
use Rattle.std.specs.Ordering.{nat_cmp}
use Rattle.std.specs.BTreeMap as tree
use Rattle.std.specs.FinMap as fin
use Rattle.std.specs.Option.{option_map}
use Rattle.std.proofs.lemmas.Bool.{cases_eq}
use Rattle.std.proofs.lemmas.Bool.Decides.{nat_tests}
use Rattle.fv_codec.specs.declared.pointer.Pointer.{Pointer}
use Rattle.fv_codec.specs.declared.inode.InodeRecord.{InodeRecord}
use Rattle.fv_codec.specs.Blocks.{greatest_word}
use Rattle.fv_model.specs.Trees.{spot_cmp}
use Rattle.fv_tables.specs.Spelled.{Under, Rooted, pointer_at, stored}
use Rattle.fv_tables.proofs.Bare.{bare_file}
use Rattle.fv_tree.specs.declared.kept.KeptCell.{KeptCell}
use Rattle.fv_tree.specs.declared.kept.KeptNode.{KeptNode}
use Rattle.fv_tree.specs.declared.kept.Tree.{Tree}
use Rattle.fv_tree.specs.Altering.{Alters, AltersHeld, Leaves}
use Rattle.fv_tree.specs.Sources.{Shown, Use}
use Rattle.fv_tree.specs.Standing.{standing, under}
use Rattle.fv_tree.specs.Flushing.{Loaded, Leads, IsRight, IsSound, IsNodeOf, NamesPosition, Stands, cell_changed, changed_in, changed_of, kind_for, loaded, loaded_over, node_changed}
use Rattle.fv_tree.specs.Beside.{IsLaid, LieApart, loaded_on, unread, LeadsTo, Spares}
use Rattle.fv_tree.specs.Releasing.{Releases}
use Rattle.fv_tree.specs.Stored.{HasPlaces, IsStoredWell, TellsPlaces}
use Rattle.fv_tree.specs.Unknown.{LeadsUnknown}
use Rattle.fv_tree.proofs.Beside.{beside_leads, beside_pointers, other_unknown}
use Rattle.fv_tree.proofs.Cases.{some_none}
use Rattle.fv_tree.proofs.Released.{block_read}
use Rattle.fv_tree.proofs.Unknown.{alters_contents, alters_unknown, leaves_contents, leaves_unknown, none_unknown, reread_unknown, unread_unknown}
use Rattle.fv_inode.specs.Files.{IsInodesOf}
use Rattle.fv_inode.proofs.Indexed.{bare_indexes}
use Rattle.fv_files.specs.declared.files.Files.{Files}
use Rattle.fv_files.specs.Apart.{Trees, LeadsIn, LeadsFrom, StandsIn, AreApart, IsAsSaid, StoredIn, AreStoredWell, stored_trees}
use Rattle.fv_files.specs.Tables.{loaded_trees, AreStanding, IsLed, IsStored, IsStoredUnder}
use Rattle.fv_files.proofs.Beside.{IsBare, IsLaidIn, IsOther, bare_leads, reread_led, same_or}

-- a change that keeps each part of it
pub all_kept : (known : Bool) (s r : Loaded) → (IsStoredWell s → IsStoredWell r) → (LeadsUnknown s → LeadsUnknown r) → (TellsPlaces s → TellsPlaces r) → IsAsSaid known s → IsAsSaid known r
all_kept known s r well leads places is = record { positions = well is.positions; leads = leads is.leads; places = λ all. places (is.places all) }

-- no block came under a VVBN, or changed there
abbrev pub LosesAtMost : Under → Under → Type 0
LosesAtMost old new = (v : ℕ) (block : List ℕ) → new v ≡ Some block → old v ≡ Some block

-- A tree that stands on its blocks before and afterwards, where no block came
module _ (known : Bool) (s r : Loaded) (used uses : ℕ → Option Use) (owner : r.tree.owner ≡ s.tree.owner) (was : IsSound used s) (now : IsSound uses r) (blocks : LosesAtMost s.tree.under r.tree.under)
    (well : IsStoredWell s → IsStoredWell r) (tells : TellsPlaces s → TellsPlaces r) where
  -- by a change with some stamp,
  pub altered_said : (stamp : ℕ) → Alters stamp s r → IsAsSaid known s → IsAsSaid known r
  altered_said stamp alters = all_kept known s r well (alters_unknown s r owner (alters_contents s r used uses was now blocks stamp alters) uses stamp now alters) tells

  -- and where nothing changed.
  pub left_said : Leaves s r → IsAsSaid known s → IsAsSaid known r
  left_said leaves = all_kept known s r well (leaves_unknown s r owner (leaves_contents s r used uses was now blocks leaves) leaves) tells

-- a tree over what is shown before and afterwards, where the map stays
module _ (known : Bool) (old new : Shown) (t u : Tree) (owner : u.owner ≡ t.owner) (was : Stands old t) (now : Stands new u) (held : new.held ≡ old.held)
    (well : IsStoredWell (loaded old t) → IsStoredWell (loaded new u)) (tells : TellsPlaces (loaded old t) → TellsPlaces (loaded new u)) where
  same_blocks : LosesAtMost (under old) (under new)
  same_blocks v block is = ap (λ (h : fin.FinMap nat_cmp (List ℕ)). fin.get h v) (sym held) ∙ is

  pub stamped_said : (stamp : ℕ) → Alters stamp (loaded old t) (loaded new u) → IsAsSaid known (loaded old t) → IsAsSaid known (loaded new u)
  stamped_said = altered_said known (loaded old t) (loaded new u) old.used new.used owner was now same_blocks well tells

  pub loaded_said : Leaves (loaded old t) (loaded new u) → IsAsSaid known (loaded old t) → IsAsSaid known (loaded new u)
  loaded_said = left_said known (loaded old t) (loaded new u) old.used new.used owner was now same_blocks well tells

-- where blocks go out of use
pub released_said : (known : Bool) (old new : Shown) (t u : Tree) (P : ℕ → Type 0) → u.owner ≡ t.owner → Stands old t → Stands new u → Releases old new P → (IsStoredWell (loaded old t) → IsStoredWell (loaded new u))
    → (TellsPlaces (loaded old t) → TellsPlaces (loaded new u)) → (stamp : ℕ) → Alters stamp (loaded old t) (loaded new u) → IsAsSaid known (loaded old t) → IsAsSaid known (loaded new u)
released_said known old new t u P owner was now released well tells = altered_said known (loaded old t) (loaded new u) old.used new.used owner was now (λ v block is. ⊎_elim
    (λ same. sym same ∙ is)
    (λ gone. some_none (fin.get new.held v) block gone is)
    (released.may_go v)) well tells

-- and where the change is in memory alone
pub held_said : (known : Bool) (t u : Tree) (stamp : ℕ) → AltersHeld t u stamp → (blocks : Under) (used : ℕ → Option Use) → IsSound used (loaded_over blocks t) → IsAsSaid known (loaded_over blocks t) → IsAsSaid known (loaded_over blocks u)
held_said known t u stamp is blocks used sound = altered_said known (loaded_over blocks t) (loaded_over blocks u) used used is.owner sound (is.sound blocks used sound) (λ v block lies. lies) (is.stored_well blocks) (is.tells blocks) stamp (is.alters blocks)

-- another tree beside the one that changed
other_stored : (known : Bool) (old new : Shown) (before after : ℕ → Type 0) (r : Loaded) → Spares old new before after → r.tree.under ≡ under old → IsLaid r → IsSound old.used r → LieApart before (LeadsTo r)
    → IsAsSaid known r → IsAsSaid known (loaded_on (under new) r)
other_stored known old new before after r spares on laid sound apart is = record {
  positions = λ level place v low led. let was = beside_leads r (under new) laid stay level place v led in subst (IsNodeOf r.tree.owner level place) (sym (stay level place v was)) (is.positions level place v low was);
  leads = other_unknown old new before after r spares on laid sound apart is.leads;
  places = λ all level place v led none. is.places all level place v (beside_leads r (under new) laid stay level place v led) (ap (λ (p : Pointer). p.pvbn) (sym (beside_pointers r (under new) laid stay level place)) ∙ none);
}
  where
    stay : (level place v : ℕ) → Leads r level place v → under new v ≡ r.tree.under v
    stay level place v led =
        (spares.stays v (ap (λ (u : Under). is_some (u v)) (sym on) ∙ sound.held level place v led) (λ was. apart v was (record { level = level; place = place; leads = led }))).0
        ∙ ap (λ (u : Under). u v) (sym on)

bare_stored : (known : Bool) (o : Option Loaded) → IsBare o → StoredIn known o
bare_stored known None bare = tt
bare_stored known (Some s) bare = record {
  positions = λ level place v low led. absurd (bare_leads (Some s) bare v (record { level = level; place = place; leads = led }));
  leads = subst LeadsUnknown (sym bare.1) (none_unknown (unread bare.0) bare.2);
  places = λ all level place v led none. bare_leads (Some s) bare v (record { level = level; place = place; leads = led });
}

module _ (known : Bool) (old new : Shown) (x y : Trees) (a : Option ℕ) (laid : (b : Option ℕ) → IsLaidIn (under old) (x b)) (stands : (b : Option ℕ) → StandsIn old.used (x b)) (apart : AreApart x)
    (spares : Spares old new (LeadsFrom x a) (LeadsFrom y a)) (others : (b : Option ℕ) → b ≢ a → IsOther (under new) (x b) (y b)) where
  moved_stored : (b : Option ℕ) → b ≢ a → (o : Option Loaded) → x b ≡ o → StoredIn known o → StoredIn known (option_map (loaded_on (under new)) o)
  moved_stored b differs None at is = tt
  moved_stored b differs (Some r) at is =
      let lies = subst (IsLaidIn (under old)) at (laid b) in
      other_stored known old new (LeadsFrom x a) (LeadsFrom y a) r spares lies.0 lies.1 (subst (StandsIn old.used) at (stands b))
      (λ v one other. apart a b v (λ e. differs (sym e)) one (subst (λ o. LeadsIn o v) (sym at) other)) is

  pub stored_still : StoredIn known (y a) → AreStoredWell known x → AreStoredWell known y
  stored_still own is b = ⊎_elim
      (λ (same : b ≡ a). subst (λ c. StoredIn known (y c)) (sym same) own)
      (λ (differs : b ≢ a). ⊎_elim
      (λ at. subst (StoredIn known) (sym at) (moved_stored b differs (x b) refl (is b)))
      (λ bare. bare_stored known (y b) bare)
      (others b differs))
      (same_or b a)

-- ---- a tree that comes into memory

pub unread_stored : (known : Bool) (blocks : Under) (t : Tree) (s : Rooted) → standing blocks t ≡ s → IsAsSaid known (unread s) → IsAsSaid known (loaded_over blocks t)
unread_stored known blocks t s same well = let is = subst (λ (q : Rooted). IsAsSaid known (unread q)) (sym same) well in record {
  positions = λ level place v low led. is.positions level place v low (record { some = led.some; placed = refl; vvbn = led.vvbn });
  leads = unread_unknown blocks t s same well.leads;
  places = λ all level place v led. is.places all level place v (record { some = led.some; placed = refl; vvbn = led.vvbn });
}

-- and goes from it, where its blocks spell it
still_node : (o : Option KeptNode) → option_map (λ (kept : KeptNode). kept.children) o ≡ None → node_changed o ≡ false
still_node None e = refl
still_node (Some kept) e = absurd cc

still_cell : (o : Option KeptCell) → option_map (λ (kept : KeptCell). kept.block.value) o ≡ None → cell_changed o ≡ false
still_cell None e = refl
still_cell (Some kept) e = absurd cc

reread_still : (blocks : Under) (t : Tree) (owner levels : ℕ) (root : Pointer) → standing blocks t ≡ stored blocks owner levels root → (level place : ℕ) → changed_of t level place ≡ false
reread_still blocks t owner levels root is level place = ⊎_elim
    (λ (low : level ≡ 0). let test : (level == 0) ≡ true = grind (arith, nat_tests) in
    ap (λ b. if b then cell_changed (tree.get nat_cmp t.cells place) else changed_in t.nodes level place) test ∙ still_cell (tree.get nat_cmp t.cells place) (ap (λ (s : Rooted). s.cells place) is))
    (λ (high : level ≢ 0). let test : (level == 0) ≡ false = grind (arith, nat_tests) in
    ap (λ b. if b then cell_changed (tree.get nat_cmp t.cells place) else changed_in t.nodes level place) test ∙ still_node (tree.get spot_cmp t.nodes (level, place)) (ap (λ (s : Rooted). s.nodes level place) is))
    (cases_eq level 0)

pub reread_stored : (known : Bool) (blocks : Under) (t : Tree) (owner levels : ℕ) (root : Pointer) → standing blocks t ≡ stored blocks owner levels root → IsAsSaid known (loaded_over blocks t)
    → IsAsSaid known (unread (stored blocks owner levels root))
reread_stored known blocks t owner levels root is well = record {
  positions = λ level place v low led. subst (λ (s : Rooted). IsNodeOf s.owner level place (s.under v)) is (well.positions level place v low (reread_led blocks t owner levels root is level place v led));
  leads = reread_unknown blocks t owner levels root is (reread_still blocks t owner levels root is) well.leads;
  places = λ all level place v led none. well.places all level place v (reread_led blocks t owner levels root is level place v led) (ap (λ (s : Rooted). (pointer_at s level place).pvbn) is ∙ none);
}

-- ---- a table without a file

pub hole_stored : (known : Bool) (blocks : Under) (levels : ℕ) (root : Pointer) → root.stamp ≡ 0 → IsStoredUnder known blocks levels root
hole_stored known blocks levels root none = record { trees = each; inodes = bare_indexes (stored blocks greatest_word levels root) none }
  where
    each : (a : Option ℕ) → StoredIn known (stored_trees blocks levels root a)
    each None = bare_stored known (Some (unread (stored blocks greatest_word levels root))) (stored blocks greatest_word levels root, refl, none, λ level place. refl, λ index. refl)
    each (Some n) = subst (λ o. StoredIn known (option_map (λ (r : InodeRecord). unread (stored blocks n r.levels r.root)) o)) (sym (bare_file (stored blocks greatest_word levels root) none n)) tt

-- ---- a table under a root

module _ (known : Bool) (blocks : Under) (levels : ℕ) (root : Pointer) (well : IsStoredUnder known blocks levels root) where
  -- The block of each node of a tree names its position. Where every place is known, each pointer that leads to a block tells its place.
  module _ (a : Option ℕ) (t : Rooted) (is : stored_trees blocks levels root a ≡ Some (unread t)) where
    tree_well : IsAsSaid known (unread t)
    tree_well = subst (StoredIn known) is (well.trees a)

    pub node_under : (level place : ℕ) → 1 ≤ level → (pointer_at t level place).stamp ≢ 0 → NamesPosition t level place
    node_under level place low some = tree_well.positions level place (pointer_at t level place).vvbn low (record { some = some; placed = refl; vvbn = refl })

    pub leads_under : LeadsUnknown (unread t)
    leads_under = tree_well.leads

    pub known_under : known ≡ true → (level place : ℕ) → (pointer_at t level place).stamp ≢ 0 → (pointer_at t level place).pvbn ≢ 0
    known_under all level place some = tree_well.places all level place (pointer_at t level place).vvbn (record { some = some; placed = refl; vvbn = refl })

  -- The block of each cell of the inode file names its index.
  abbrev inodes : Rooted
  inodes = stored blocks greatest_word levels root

  pub inodes_under : (index : ℕ) (block : List ℕ) → (pointer_at inodes 0 index).stamp ≢ 0 → blocks (pointer_at inodes 0 index).vvbn ≡ Some block → IsInodesOf index block
  inodes_under index block some lies = well.inodes index block (block_read inodes index some refl ∙ lies)

-- ---- places

-- what is in use has its place, where it is led to and stored well, and every place is known
pub places_of : (source : Shown) (f : Files) → AreStanding source f → IsLed source f → IsStored true source f → HasPlaces source.used
places_of source f sound led well v x at none =
    some_none (source.used v) x (led v (λ a leads. astray (loaded_trees (under source) f a) (sound.trees a) (well.trees a) leads)) at
  where
    astray : (o : Option Loaded) → StandsIn source.used o → StoredIn true o → LeadsIn o v → ⊥
    astray None stands is leads = leads
    astray (Some s) stands is leads =
        let p = pointer_at s.tree leads.level leads.place in
        let tells = is.places refl leads.level leads.place v leads.leads in
        let right : IsRight (kind_for s.tree.owner leads.level) p (Some x) = subst (IsRight (kind_for s.tree.owner leads.level) p) at (stands.used leads.level leads.place v leads.leads) in
        ⊎_elim tells (λ same. tells (same ∙ none)) right.0
