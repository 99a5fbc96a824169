-- Where the pointer to the root of a table is known, each place of the table is: an unknown pointer stands only where the one that leads to it is
-- unknown, too.
use Rattle.std.proofs.Common.{◌≡◌, ◌≢◌, ℕ, zero, suc, ◌+◌, ◌-◌, ◌/◌, ◌%◌, ◌<◌, Bool, true, false, not, ◌&&◌, List, [], ◌∷◌, Option, Some, None, refl, sym, ap, subst, ◌∙◌, arith, get_or}
use Rattle.std.specs.Prelude.{◌||◌, ◌==◌}
use Rattle.std.specs.List.{list_any}
use Rattle.std.specs.Option.{option_map}
use Rattle.std.proofs.lemmas.Bool.Decides.{nat_tests}
use Rattle.fv_codec.specs.declared.pointer.Pointer.{Pointer}
use Rattle.fv_codec.specs.declared.inode.InodeRecord.{InodeRecord}
use Rattle.fv_codec.specs.Blocks.{greatest_word}
use Rattle.fv_model.specs.Trees.{fan}
use Rattle.fv_tables.specs.Spelled.{Under, Rooted, pointer_at, stored, block_at}
use Rattle.fv_tables.specs.Told.{records_each, records_in, free_record, file_at}
use Rattle.fv_tables.proofs.AlikeTables.{stands}
use Rattle.fv_tree.specs.Beside.{unread}
use Rattle.fv_tree.specs.Flushing.{is_unknown}
use Rattle.fv_tree.specs.Unknown.{LeadsUnknown}
use Rattle.fv_files.specs.Apart.{StoredIn, stored_trees}
use Rattle.fv_files.specs.Tables.{IsStoredUnder}
use Rattle.fv_places.proofs.Descents.{over_stands, within, root_at, only_root, record_at}

-- a pointer that leads somewhere tells its place
abbrev pub IsKnownRoot : Pointer → Type 0
IsKnownRoot p = p.stamp ≢ 0 → p.pvbn ≢ 0

-- ---- a tree

module _ (blocks : Under) (owner lv : ℕ) (root : Pointer) (leads : LeadsUnknown (unread (stored blocks owner lv root))) (known : IsKnownRoot root) where
  abbrev t : Rooted
  t = stored blocks owner lv root

  -- up from a pointer without a place
  no_place : (d level place : ℕ) → level + d ≡ lv → (pointer_at t level place).stamp ≢ 0 → (pointer_at t level place).pvbn ≡ 0 → ⊥
  no_place zero level place at some none =
      let top : level ≡ lv = omega (arith, at) in
      let stands : (pointer_at t lv place).stamp ≢ 0 = subst (λ (n : ℕ). (pointer_at t n place).stamp ≢ 0) top some in
      let first : place ≡ 0 = only_root t place stands in
      let is : pointer_at t level place ≡ root = (λ i. pointer_at t (top i) (first i)) ∙ root_at t in
      known (λ e. some (ap (λ (p : Pointer). p.stamp) is ∙ e)) (ap (λ (p : Pointer). p.pvbn) (sym is) ∙ none)
  no_place (suc d) level place at some none =
      let low : level < lv = omega (arith, at) in
      no_place d (level + 1) (place / fan) (omega (arith, at)) (over_stands t level place low some) (leads.nodes level place some none low refl)

  -- So each pointer that stands tells its place.
  pub tells : (level place : ℕ) → (pointer_at t level place).stamp ≢ 0 → (pointer_at t level place).pvbn ≢ 0
  tells level place some none = let low = within t level place some in no_place (lv - level) level place (omega (arith, low)) some none

-- ---- a table

-- an unknown root among records
any_root : (rs : List InodeRecord) (i : ℕ) → is_unknown (get_or rs i free_record).root ≡ true → list_any (λ (r : InodeRecord). is_unknown r.root) rs ≡ true
any_root [] zero unknown = absurd cc
any_root [] (suc i) unknown = absurd cc
any_root (r ∷ rs) zero unknown = λ j. unknown j || list_any (λ (r : InodeRecord). is_unknown r.root) rs
any_root (r ∷ rs) (suc i) unknown = last (is_unknown r.root) (list_any (λ (r : InodeRecord). is_unknown r.root) rs) (any_root rs i unknown)
  where
    last : (a b : Bool) → b ≡ true → (a || b) ≡ true
    last true b e = refl
    last false b e = e

module _ (blocks : Under) (levels : ℕ) (root : Pointer) (known : IsKnownRoot root) (was : IsStoredUnder false blocks levels root) where
  abbrev inode : Rooted
  inode = stored blocks greatest_word levels root

  inode_leads : LeadsUnknown (unread inode)
  inode_leads = (was.trees None).leads

  inode_tells : (level place : ℕ) → (pointer_at inode level place).stamp ≢ 0 → (pointer_at inode level place).pvbn ≢ 0
  inode_tells = tells blocks greatest_word levels root inode_leads known

  -- the root of a file is known
  file_known : (k : ℕ) (f : InodeRecord) → file_at inode k ≡ Some f → IsKnownRoot f.root
  unfolding records_in
  file_known k f is some none = inode_tells 0 (k / records_each) over.0 (by (blocks over_at.vvbn) refl)
    where
      over_at : Pointer
      over_at = pointer_at inode 0 (k / records_each)

      over : (over_at.stamp ≢ 0) × (f ≡ get_or (records_in (blocks over_at.vvbn)) (k % records_each) free_record)
      over = record_at blocks levels root k f is

      unknown : is_unknown f.root ≡ true
      unknown =
          let a : (f.root.stamp == 0) ≡ false = grind (arith, nat_tests, some) in
          let b : (f.root.pvbn == 0) ≡ true = grind (arith, nat_tests, none) in
          λ i. not (a i) && b i

      by : (o : Option (List ℕ)) → blocks over_at.vvbn ≡ o → over_at.pvbn ≡ 0
      by None at = absurd (some (ap (λ (g : InodeRecord). g.root.stamp) (over.1 ∙ ap (λ (o : Option (List ℕ)). get_or (records_in o) (k % records_each) free_record) at ∙ none_at (k % records_each))))
        where
          none_at : (i : ℕ) → get_or (records_in None) i free_record ≡ free_record
          none_at zero = refl
          none_at (suc i) = refl
      by (Some block) at =
          let held : block_at inode (k / records_each) ≡ Some block = stands inode (k / records_each) over.0 refl ∙ at in
          let one : is_unknown (get_or (records_in (Some block)) (k % records_each) free_record).root ≡ true =
          ap (λ (o : Option (List ℕ)). is_unknown (get_or (records_in o) (k % records_each) free_record).root) (sym at) ∙ ap (λ (g : InodeRecord). is_unknown g.root) (sym over.1) ∙ unknown in
          let any = any_root (records_in (Some block)) (k % records_each) one in
          let same : (greatest_word == greatest_word) ≡ true = grind (arith, nat_tests) in
          inode_leads.roots (k / records_each) block over.0 refl held (λ i. same i && any i)

  -- So all places of the table are known.
  pub all_known : IsStoredUnder true blocks levels root
  all_known = record { trees = each; inodes = was.inodes }
    where
      each : (a : Option ℕ) → StoredIn true (stored_trees blocks levels root a)
      each None = record { positions = (was.trees None).positions; leads = inode_leads; places = λ all level place v led. inode_tells level place led.some }
      each (Some n) = by (file_at inode n) refl (was.trees (Some n))
        where
          by : (o : Option InodeRecord) → file_at inode n ≡ o → StoredIn false (option_map (λ r. unread (stored blocks n r.levels r.root)) o) → StoredIn true (option_map (λ r. unread (stored blocks n r.levels r.root)) o)
          by None e is = tt
          by (Some f) e is = record { positions = is.positions; leads = is.leads; places = λ all level place v led. tells blocks n f.levels f.root is.leads (file_known n f e) level place led.some }

-- and of a table of which all places are known the root is.
pub root_known : (blocks : Under) (levels : ℕ) (root : Pointer) → IsStoredUnder true blocks levels root → IsKnownRoot root
root_known blocks levels root is some none =
    let top : pointer_at (stored blocks greatest_word levels root) levels 0 ≡ root = root_at (stored blocks greatest_word levels root) in
    (is.trees None).places refl levels 0 root.vvbn (record { some = λ e. some (ap (λ (p : Pointer). p.stamp) (sym top) ∙ e); placed = refl; vvbn = ap (λ (p : Pointer). p.vvbn) top }) (ap (λ (p : Pointer). p.pvbn) top ∙ none)
