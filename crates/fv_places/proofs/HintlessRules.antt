-- Eight rules on tables look at roots and at no hint: each says the same of a volume as of that volume without hints. (Five more look at
-- no root at all: spans, names of snapshots, bases, use and commits.)
use Rattle.std.proofs.Common.{◌≡◌, ℕ, Bool, List, [], ◌∷◌, ◌++◌, map, flat_map, refl, sym, ap, ap₂, ◌∙◌}
use Rattle.std.specs.Prelude.{Option, Some, None, take, ◌&&◌, ◌||◌, not, ◌==◌, nat_lt, nat_le}
use Rattle.std.specs.List.{list_all}
use Rattle.std.specs.Option.{is_some, option_map}
use Rattle.std.proofs.lemmas.List.Folds.{list_all-map}
use Rattle.fv_codec.specs.declared.inode.InodeRecord.{InodeRecord}
use Rattle.fv_tables.specs.Reached.{Item}
use Rattle.fv_tables.specs.Alike.{hintless_item}
use Rattle.fv_image.specs.Views.{Placed, kind_at}
use Rattle.fv_image.specs.Seen.{Reached, Root, Based, VolumeSeen}
use Rattle.fv_image.specs.ReachRules.{kind_of, is_same_position, are_distinct}
use Rattle.fv_image.specs.TableRules.{all_items, is_cell_of, are_levels}
use Rattle.fv_places.specs.OneVolume.{files_rule, once_rule, kinds_rule, marks_rule, cells_rule, levels_rule, ids_rule, stamps_rule, agree_in_id}
use Rattle.fv_places.specs.HintlessSeen.{hintless_placed, hintless_reached, hintless_named, hintless_root, hintless_volume}

-- ---- tests of roots and of pointers

-- equal tests are of all alike
same_all : {X : Type 0} (p q : X → Bool) (xs : List X) → ((x : X) → p x ≡ q x) → list_all p xs ≡ list_all q xs
same_all p q xs same = λ i. list_all (λ x. same x i) xs

-- a test of each root without hints is one of each root
of_roots : (p q : Root → Bool) (rs : List Root) → ((r : Root) → p (hintless_root r) ≡ q r)
    → list_all p (map hintless_root rs) ≡ list_all q rs
of_roots p q rs same = list_all-map p hintless_root rs ∙ same_all (λ r. p (hintless_root r)) q rs same

-- and one of each pointer without hints one of each pointer
of_pointers : (p q : Reached → Bool) (es : List Reached) → ((e : Reached) → p (hintless_reached e) ≡ q e)
    → list_all p (map hintless_reached es) ≡ list_all q es
of_pointers p q es same = list_all-map p hintless_reached es ∙ same_all (λ e. p (hintless_reached e)) q es same

-- a place has its kind still
kind_hintless : (o : Option Placed) → kind_at (option_map hintless_placed o) ≡ kind_at o
kind_hintless None = refl
kind_hintless (Some p) = refl

-- and is there still
some_hintless : (o : Option Placed) → is_some (option_map hintless_placed o) ≡ is_some o
some_hintless None = refl
some_hintless (Some p) = refl

-- ---- rules over roots

-- names of files stand in no hint
pub files_hintless : (x : VolumeSeen) → files_rule (hintless_volume x) ≡ files_rule x
files_hintless x = of_roots _ _ x.roots (λ r. ap are_distinct (names r.files))
  where
    name : ℕ × InodeRecord → List ℕ
    name f = take f.1.name_length f.1.name

    names : (fs : List (ℕ × InodeRecord)) → map name (map hintless_named fs) ≡ map name fs
    names [] = refl
    names (f ∷ fs) = ap (λ (ns : List (List ℕ)). name f ∷ ns) (names fs)

-- a VVBN that is reached once is
pub once_hintless : (x : VolumeSeen) → once_rule (hintless_volume x) ≡ once_rule x
once_hintless x = of_roots _ _ x.roots
    (λ r. of_pointers _ _ r.reached (λ a. λ i. some_hintless a.at i && of_pointers (other a) (other a) r.reached (λ b. refl) i))
  where
    other : Reached → Reached → Bool
    other a b = not (a.item.pointer.vvbn == b.item.pointer.vvbn) || is_same_position a.item b.item

-- kinds of places stay
pub kinds_hintless : (x : VolumeSeen) → kinds_rule (hintless_volume x) ≡ kinds_rule x
kinds_hintless x = of_roots _ _ x.roots (λ r. of_pointers _ _ r.reached (λ e. ap (λ (n : ℕ). n == kind_of e.item) (kind_hintless e.at)))

-- stamps of marks stay
pub marks_hintless : (x : VolumeSeen) → marks_rule (hintless_volume x) ≡ marks_rule x
marks_hintless x = of_roots _ _ x.roots (λ r. of_pointers _ _ r.reached (λ e. refl))

-- so do lengths and cells
pub cells_hintless : (x : VolumeSeen) → cells_rule (hintless_volume x) ≡ cells_rule x
cells_hintless x = of_roots _ _ x.roots
    (λ r. list_all-map _ hintless_named r.files ∙ same_all _ _ r.files (λ f. of_pointers (within f) (within f) r.reached (λ e. refl)))
  where
    within : ℕ × InodeRecord → Reached → Bool
    within f e = not (is_cell_of f.0 e.item) || nat_lt e.item.place f.1.length

-- and levels
pub levels_hintless : (x : VolumeSeen) → levels_rule (hintless_volume x) ≡ levels_rule x
levels_hintless x = of_roots _ _ x.roots (λ r. λ i. are_levels 0 r.rooted.levels r.rooted.root.stamp
    && list_all-map (λ (f : ℕ × InodeRecord). are_levels f.1.reserve f.1.levels f.1.root.stamp) hintless_named r.files i)

-- ---- rules over all items

-- without hints the items of a volume are the same
items_hintless : (x : VolumeSeen) → map hintless_item (all_items (hintless_volume x)) ≡ map hintless_item (all_items x)
items_hintless x =
    spread (flat_map of_root (map hintless_root x.roots)) _
    ∙ ap (λ (es : List Item). es ++ map hintless_item (map (λ (b : Based). b.item) x.base)) (so x.roots)
    ∙ sym (spread (flat_map of_root x.roots) _)
  where
    of_root : Root → List Item
    of_root r = map (λ (e : Reached). e.item) r.reached

    spread : (a b : List Item) → map hintless_item (a ++ b) ≡ map hintless_item a ++ map hintless_item b
    spread [] b = refl
    spread (e ∷ a) b = ap (λ (es : List Item). hintless_item e ∷ es) (spread a b)

    one : (es : List Reached)
        → map hintless_item (map (λ (e : Reached). e.item) (map hintless_reached es))
        ≡ map hintless_item (map (λ (e : Reached). e.item) es)
    one [] = refl
    one (e ∷ es) = ap (λ (xs : List Item). hintless_item e.item ∷ xs) (one es)

    so : (rs : List Root) → map hintless_item (flat_map of_root (map hintless_root rs)) ≡ map hintless_item (flat_map of_root rs)
    so [] = refl
    so (r ∷ rs) =
        spread (map (λ (e : Reached). e.item) (map hintless_reached r.reached)) _
        ∙ ap₂ (λ (a b : List Item). a ++ b) (one r.reached) (so rs)
        ∙ sym (spread (map (λ (e : Reached). e.item) r.reached) _)

-- a test of items that looks at no hint
of_items : (test : Item → Bool) → ((e : Item) → test (hintless_item e) ≡ test e) → (x : VolumeSeen)
    → list_all test (all_items (hintless_volume x)) ≡ list_all test (all_items x)
of_items test free x = sym (once (all_items (hintless_volume x))) ∙ ap (list_all test) (items_hintless x) ∙ once (all_items x)
  where
    once : (es : List Item) → list_all test (map hintless_item es) ≡ list_all test es
    once es = list_all-map test hintless_item es ∙ same_all (λ e. test (hintless_item e)) test es free

-- ids are positions and stamps
pub ids_hintless : (x : VolumeSeen) → ids_rule (hintless_volume x) ≡ ids_rule x
ids_hintless x = of_items (λ a. list_all (agree_in_id a) (all_items (hintless_volume x))) (λ a. refl) x
    ∙ same_all _ _ (all_items x) (λ a. of_items (agree_in_id a) (λ b. refl) x)

-- and stamps
pub stamps_hintless : (x : VolumeSeen) → stamps_rule (hintless_volume x) ≡ stamps_rule x
stamps_hintless x = of_items (λ e. nat_le e.pointer.stamp x.head.now) (λ e. refl) x

-- So volumes that are the same but for hints meet such a rule alike.
pub by_hintless : (rule : VolumeSeen → Bool) → ((x : VolumeSeen) → rule (hintless_volume x) ≡ rule x) → (x y : VolumeSeen)
    → hintless_volume y ≡ hintless_volume x → rule y ≡ rule x
by_hintless rule free x y same = sym (free y) ∙ ap rule same ∙ free x
