-- Tables that stand on their blocks, where one tree changed: each other tree stands as before, and all lie apart.
use Rattle.std.proofs.Common.{◌≡◌, ◌≢◌, ◌⊎◌, inl, inr, ℕ, true, arith, refl, sym, ap, subst, ◌∙◌, ⊎_elim}
use Rattle.std.specs.Prelude.{List, Option, Some, None, is_some}
use Rattle.std.specs.Ordering.{nat_cmp}
use Rattle.std.specs.FinMap as fin
use Rattle.std.specs.Option.{option_map}
use Rattle.std.proofs.lemmas.Bool.{cases_eq}
use Rattle.fv_codec.specs.declared.inode.InodeRecord.{InodeRecord}
use Rattle.fv_codec.specs.declared.pointer.Pointer.{Pointer}
use Rattle.fv_tables.specs.Spelled.{Under, Rooted, stored, pointer_at}
use Rattle.fv_tables.specs.Told.{file_at}
use Rattle.fv_tables.specs.Kept.{over}
use Rattle.fv_tree.specs.declared.kept.Tree.{Tree}
use Rattle.fv_tree.specs.Sources.{Shown, Use}
use Rattle.fv_tree.specs.Standing.{standing, under}
use Rattle.fv_tree.specs.Writing.{IsAlike}
use Rattle.fv_tree.specs.Flushing.{Loaded, Leads, IsSound, loaded_over}
use Rattle.fv_tree.specs.Beside.{IsLaid, loaded_on, unread, LeadsTo, Spares}
use Rattle.fv_tree.proofs.Beside.{tree_laid, unread_laid, unread_sound, other_alike, other_keeps, other_leads, other_leaves, other_sound, still_apart}
use Rattle.fv_tree.proofs.Cases.{none_some, some_none}
use Rattle.fv_tree.proofs.Whole.{hole_reaches}
use Rattle.fv_tree.proofs.Writes.{none_at}
use Rattle.fv_files.specs.declared.files.Files.{Files}
use Rattle.fv_files.specs.Apart.{Trees, LeadsAny, LeadsIn, LeadsFrom, StandsIn, AreApart, AreLed}
use Rattle.fv_files.specs.Altering.{LeavesIn}
use Rattle.fv_files.specs.Tables.{tree_in, file_loaded, loaded_trees}

-- ---- numbers of trees

some_or : ℕ → Option ℕ → ℕ
some_or d None = d
some_or d (Some n) = n

pub some_differ : (n k : ℕ) → n ≢ k → Some n ≢ Some k
unfolding some_or
some_differ n k differs e = differs (ap (some_or 0) e)

pub same_or : (a b : Option ℕ) → (a ≡ b) ⊎ (a ≢ b)
unfolding some_or
same_or None None = inl refl
same_or None (Some n) = inr (λ e. cc)
same_or (Some n) None = inr (λ e. cc)
same_or (Some n) (Some k) = ⊎_elim (λ (same : n ≡ k). inl (ap (λ m. Some m) same)) (λ (differs : n ≢ k). inr (some_differ n k differs)) (cases_eq n k)

-- ---- trees over blocks

-- what isn't in memory of a tree stands in its blocks
abbrev pub IsLaidIn : Under → Option Loaded → Type 0
IsLaidIn blocks None = Unit {0}
IsLaidIn blocks (Some s) = (s.tree.under ≡ blocks) × IsLaid s

-- a tree without a cell, of which nothing is in memory
abbrev pub IsBare : Option Loaded → Type 0
IsBare None = Unit {0}
IsBare (Some s) = (t : Rooted) × (s ≡ unread t) × (t.root.stamp ≡ 0) × ((level place : ℕ) → t.nodes level place ≡ None) × ((index : ℕ) → t.cells index ≡ None)

pub bare_leads : (o : Option Loaded) → IsBare o → (v : ℕ) → LeadsIn o v → ⊥
bare_leads None bare v led = led
bare_leads (Some s) bare v led = none (subst (λ (q : Loaded). LeadsTo q v) bare.1 led)
  where
    none : LeadsTo (unread bare.0) v → ⊥
    none led = led.leads.some (none_at bare.0 bare.2 led.level led.place)

bare_stands : (used : ℕ → Option Use) (o : Option Loaded) → IsBare o → StandsIn used o
bare_stands used None bare = tt
bare_stands used (Some s) bare = subst (λ (q : Loaded). IsSound used q) (sym bare.1) (unread_sound used bare.0 bare.3 bare.4 (hole_reaches used bare.0 bare.2))

-- the same tree over other blocks, or a bare one
abbrev pub IsOther : Under → Option Loaded → Option Loaded → Type 0
IsOther blocks o p = (p ≡ option_map (loaded_on blocks) o) ⊎ IsBare p

-- a tree of which nothing is in memory leads where its blocks do
pub unread_leads : (blocks : Under) (t : Tree) (s : Rooted) → standing blocks t ≡ s → (v : ℕ) → LeadsTo (loaded_over blocks t) v → LeadsTo (unread s) v
unread_leads blocks t s is v led = record {
  level = led.level;
  place = led.place;
  leads = record {
    some = subst (λ (s : Rooted). (pointer_at s led.level led.place).stamp ≢ 0) is led.leads.some;
    placed = refl;
    vvbn = subst (λ (s : Rooted). (pointer_at s led.level led.place).vvbn ≡ v) is led.leads.vvbn;
  };
}

-- and from its blocks where it led
module _ (blocks : Under) (t : Tree) (owner levels : ℕ) (root : Pointer) (is : standing blocks t ≡ stored blocks owner levels root) where
  pub reread_led : (level place v : ℕ) → Leads (unread (stored blocks owner levels root)) level place v → Leads (loaded_over blocks t) level place v
  reread_led level place v led = record {
    some = subst (λ (s : Rooted). (pointer_at s level place).stamp ≢ 0) (sym is) led.some;
    placed = ⊎_elim
        (λ (low : level ≡ 0). ap (λ k. (loaded_over blocks t).placed k place) low ∙ (tree_laid blocks t).cells place (ap (λ (s : Rooted). s.cells place) is))
        (λ (high : level ≢ 0). (tree_laid blocks t).nodes level place (omega (arith, high)) (ap (λ (s : Rooted). s.nodes level place) is))
        (cases_eq level 0);
    vvbn = subst (λ (s : Rooted). (pointer_at s level place).vvbn ≡ v) (sym is) led.vvbn;
  }

  pub reread_leads : (v : ℕ) → LeadsTo (unread (stored blocks owner levels root)) v → LeadsTo (loaded_over blocks t) v
  reread_leads v led = record { level = led.level; place = led.place; leads = reread_led led.level led.place v led.leads }

pub trees_laid : (blocks : Under) (f : Files) (a : Option ℕ) → IsLaidIn blocks (loaded_trees blocks f a)
trees_laid blocks f None = (refl, tree_laid blocks f.inode.tree)
trees_laid blocks f (Some n) = at (file_at (standing blocks f.inode.tree) n) (tree_in f n)
  where
    at : (r : Option InodeRecord) (o : Option Tree) → IsLaidIn blocks (option_map (λ r. file_loaded blocks n r o) r)
    at None o = tt
    at (Some r) None = (refl, unread_laid _)
    at (Some r) (Some t) = (refl, tree_laid blocks t)

-- a tree leads where it led, over other blocks, or it led nowhere
abbrev pub KeepsIn : Under → Option Loaded → Option Loaded → Type 0
KeepsIn blocks o p = (p ≡ option_map (loaded_on blocks) o) ⊎ ((v : ℕ) → LeadsIn o v → ⊥)

-- what a tree led to and doesn't lead to any more is out of use
abbrev pub LetsGo : Shown → (ℕ → Type 0) → (ℕ → Type 0) → Type 0
LetsGo new before after = (v : ℕ) → (after v → ⊥) → is_some (new.used v) ≡ true → before v → ⊥

-- what it leads to neither before nor afterwards doesn't come into use
abbrev pub UsesNoMore : Shown → Shown → (ℕ → Type 0) → (ℕ → Type 0) → Type 0
UsesNoMore old new before after = (v : ℕ) → (before v → ⊥) → (after v → ⊥) → old.used v ≡ None → new.used v ≡ None

-- a call that only loads
pub loading_lets_go : (new : Shown) (before after : ℕ → Type 0) → ((v : ℕ) → before v → after v) → LetsGo new before after
loading_lets_go new before after keeps v none some led = none (keeps v led)

pub loading_uses : (old new : Shown) (before after : ℕ → Type 0) → new.used ≡ old.used → UsesNoMore old new before after
loading_uses old new before after used v was now none = ap (λ f. f v) used ∙ none

-- ---- one tree changed

-- of more VVBNs before, and of fewer afterwards
pub spares_as : (old new : Shown) (before after more fewer : ℕ → Type 0) → Spares old new before after → ((v : ℕ) → before v → more v) → ((v : ℕ) → fewer v → after v) → Spares old new more fewer
spares_as old new before after more fewer spares wider narrower = record {
  stays = λ v there not_. spares.stays v there (λ was. not_ (wider v was));
  leads = λ v led not_. spares.leads v (narrower v led) (λ was. not_ (wider v was));
}

-- one change after another
pub spares_then : (old mid new : Shown) (before between after : ℕ → Type 0) → Spares old mid before between → Spares mid new between after → Spares old new before after
spares_then old mid new before between after one two = record {
  stays = λ v there not_.
      let first = one.stays v there not_ in
      let second = two.stays v (ap is_some first.0 ∙ there) (λ led. none_some (fin.get old.held v) (one.leads v led not_) there) in
      (second.0 ∙ first.0, second.1 ∙ first.1);
  leads = λ v led not_. at v led not_ (fin.get old.held v) refl;
}
  where
    at : (v : ℕ) → after v → (before v → ⊥) → (o : Option (List ℕ)) → fin.get old.held v ≡ o → fin.get old.held v ≡ None
    at v led not_ None is = is
    at v led not_ (Some block) is =
        let there : is_some (fin.get old.held v) ≡ true = ap is_some is in
        let gone = two.leads v led (λ was. none_some (fin.get old.held v) (one.leads v was not_) there) in
        some_none (fin.get old.held v) block (sym (one.stays v there not_).0 ∙ gone) is

-- a call of another table that left the map
pub spares_on : (old new : Shown) (f : Files) (after : ℕ → Type 0) → new.held ≡ old.held → new.used ≡ old.used → Spares new new (LeadsAny (loaded_trees (under new) f)) after → Spares old new (LeadsAny (loaded_trees (under old) f)) after
spares_on old new f after held used spares = record {
  stays = λ v there not_. (ap (λ m. fin.get m v) held, ap (λ u. u v) used);
  leads = λ v led not_. ap (λ m. fin.get m v) (sym held) ∙ spares.leads v led (λ was. not_ (subst (λ (h : fin.FinMap nat_cmp (List ℕ)). LeadsAny (loaded_trees (λ w. fin.get h w) f) v) held was));
}

module _ (old new : Shown) (x y : Trees) (a : Option ℕ) (laid : (b : Option ℕ) → IsLaidIn (under old) (x b)) (stands : (b : Option ℕ) → StandsIn old.used (x b)) (apart : AreApart x)
    (spares : Spares old new (LeadsFrom x a) (LeadsFrom y a)) where
  -- what is said of another tree over the blocks of before, where there is one
  other_in : (b : Option ℕ) → b ≢ a → (o : Option Loaded) → x b ≡ o → IsLaidIn (under old) o × StandsIn old.used o × ((v : ℕ) → LeadsFrom x a v → LeadsIn o v → ⊥)
  other_in b differs o is = (
    subst (IsLaidIn (under old)) is (laid b),
    subst (StandsIn old.used) is (stands b),
    (λ v one other. apart a b v (λ e. differs (sym e)) one (subst (λ o. LeadsIn o v) (sym is) other)),
  )

  moved_stands : (b : Option ℕ) → b ≢ a → (o : Option Loaded) → x b ≡ o → StandsIn new.used (option_map (loaded_on (under new)) o)
  moved_stands b differs None is = tt
  moved_stands b differs (Some r) is = let h = other_in b differs (Some r) is in other_sound old new (LeadsFrom x a) (LeadsFrom y a) r spares h.0.0 h.0.1 h.1 h.2

  moved_leads : (b : Option ℕ) → b ≢ a → (o : Option Loaded) → x b ≡ o → (v : ℕ) → LeadsIn (option_map (loaded_on (under new)) o) v → LeadsIn o v
  moved_leads b differs None is v led = led
  moved_leads b differs (Some r) is v led = let h = other_in b differs (Some r) is in other_leads old new (LeadsFrom x a) (LeadsFrom y a) r spares h.0.0 h.0.1 h.1 h.2 v led

  moved_keeps : (b : Option ℕ) → b ≢ a → (o : Option Loaded) → x b ≡ o → (v : ℕ) → LeadsIn o v → LeadsIn (option_map (loaded_on (under new)) o) v
  moved_keeps b differs None is v led = led
  moved_keeps b differs (Some r) is v led = let h = other_in b differs (Some r) is in other_keeps old new (LeadsFrom x a) (LeadsFrom y a) r spares h.0.0 h.0.1 h.1 h.2 v led

  -- What no tree leads to is out of use where the one that changed lets go of what it led to, and nothing else comes into use.
  module _ (keeps : (b : Option ℕ) → b ≢ a → KeepsIn (under new) (x b) (y b)) where
    led_still : (b : Option ℕ) → b ≢ a → (v : ℕ) → LeadsFrom x b v → LeadsFrom y b v
    led_still b differs v led = ⊎_elim
        (λ is. subst (λ o. LeadsIn o v) (sym is) (moved_keeps b differs (x b) refl v led))
        (λ none. absurd (none v led))
        (keeps b differs)

    pub led_on : LetsGo new (LeadsFrom x a) (LeadsFrom y a) → UsesNoMore old new (LeadsFrom x a) (LeadsFrom y a) → AreLed old.used x → AreLed new.used y
    led_on lets_go no_more led v none = at (new.used v) refl
      where
        none_before : is_some (new.used v) ≡ true → (b : Option ℕ) → LeadsFrom x b v → ⊥
        none_before some b leads = ⊎_elim
            (λ (same : b ≡ a). lets_go v (none a) some (subst (λ c. LeadsFrom x c v) same leads))
            (λ (differs : b ≢ a). none b (led_still b differs v leads))
            (same_or b a)

        at : (o : Option Use) → new.used v ≡ o → new.used v ≡ None
        at None is = is
        at (Some u) is = let before = none_before (ap is_some is) in no_more v (before a) (none a) (led v before)

  moved_apart : (b : Option ℕ) → b ≢ a → (o : Option Loaded) → x b ≡ o → (v : ℕ) → LeadsFrom y a v → LeadsIn (option_map (loaded_on (under new)) o) v → ⊥
  moved_apart b differs None is v one led = led
  moved_apart b differs (Some r) is v one led = let h = other_in b differs (Some r) is in still_apart old new (LeadsFrom x a) (LeadsFrom y a) r spares h.0.0 h.0.1 h.1 h.2 v one led

  -- Nothing of another tree changed,
  pub moved_leaves : (b : Option ℕ) → b ≢ a → (o : Option Loaded) → x b ≡ o → LeavesIn o (option_map (loaded_on (under new)) o)
  moved_leaves b differs None is = tt
  moved_leaves b differs (Some r) is = let h = other_in b differs (Some r) is in other_leaves old new (LeadsFrom x a) (LeadsFrom y a) r spares h.0.0 h.0.1 h.1 h.2

  pub other_in_leaves : (b : Option ℕ) → b ≢ a → y b ≡ option_map (loaded_on (under new)) (x b) → LeavesIn (x b) (y b)
  other_in_leaves b differs is = subst (LeavesIn (x b)) (sym is) (moved_leaves b differs (x b) refl)

  -- and it is seen as before.
  pub other_tree : (b : Option ℕ) → b ≢ a → (r : Loaded) → x b ≡ Some r → IsAlike r.tree (over (under new) r.tree)
  other_tree b differs r is = let h = other_in b differs (Some r) is in other_alike old new (LeadsFrom x a) (LeadsFrom y a) r spares h.0.0 h.0.1 h.1 h.2

  module _ (others : (b : Option ℕ) → b ≢ a → IsOther (under new) (x b) (y b)) where
    pub stand_still : StandsIn new.used (y a) → (b : Option ℕ) → StandsIn new.used (y b)
    stand_still own b = ⊎_elim
        (λ (same : b ≡ a). subst (λ c. StandsIn new.used (y c)) (sym same) own)
        (λ (differs : b ≢ a). ⊎_elim
        (λ is. subst (StandsIn new.used) (sym is) (moved_stands b differs (x b) refl))
        (λ bare. bare_stands new.used (y b) bare)
        (others b differs))
        (same_or b a)

    -- another tree led there before
    led_before : (b : Option ℕ) → b ≢ a → (v : ℕ) → LeadsFrom y b v → LeadsFrom x b v
    led_before b differs v led = ⊎_elim
        (λ is. moved_leads b differs (x b) refl v (subst (λ o. LeadsIn o v) is led))
        (λ bare. absurd (bare_leads (y b) bare v led))
        (others b differs)

    not_both : (b : Option ℕ) → b ≢ a → (v : ℕ) → LeadsFrom y a v → LeadsFrom y b v → ⊥
    not_both b differs v one led = ⊎_elim
        (λ is. moved_apart b differs (x b) refl v one (subst (λ o. LeadsIn o v) is led))
        (λ bare. bare_leads (y b) bare v led)
        (others b differs)

    -- all else stays
    pub spares_all : Spares old new (LeadsAny x) (LeadsAny y)
    spares_all = record {
      stays = λ v there none. spares.stays v there (λ was. none (record { tree = a; leads = was }));
      leads = λ v led none. ⊎_elim
          (λ (same : led.tree ≡ a). spares.leads v (subst (λ b. LeadsFrom y b v) same led.leads) (λ was. none (record { tree = a; leads = was })))
          (λ (differs : led.tree ≢ a). absurd (none (record { tree = led.tree; leads = led_before led.tree differs v led.leads })))
          (same_or led.tree a);
    }

    pub lie_apart : AreApart y
    lie_apart b c v differs one other = ⊎_elim
        (λ (same : b ≡ a). not_both c (λ e. differs (same ∙ sym e)) v (subst (λ d. LeadsFrom y d v) same one) other)
        (λ (unlike : b ≢ a). ⊎_elim
        (λ (same : c ≡ a). not_both b unlike v (subst (λ d. LeadsFrom y d v) same other) one)
        (λ (too : c ≢ a). apart b c v differs (led_before b unlike v one) (led_before c too v other))
        (same_or c a))
        (same_or b a)
