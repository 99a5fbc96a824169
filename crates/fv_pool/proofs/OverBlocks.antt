-- A table of which nothing is in memory, over other blocks that agree wherever it leads: it stands on them, and is stored well in them, as in
-- its own.
use Rattle.std.proofs.Common.{◌≡◌, ℕ, inr, Bool, true, Option, Some, None, refl, sym, ap, subst, ◌∙◌}
use Rattle.std.specs.Option.{option_map, option_map_or}
use Rattle.fv_codec.specs.declared.inode.InodeRecord.{InodeRecord}
use Rattle.fv_codec.specs.declared.pointer.Pointer.{Pointer}
use Rattle.fv_codec.specs.Blocks.{greatest_word}
use Rattle.fv_model.specs.Places.{Owner, InodeFile, OfFile}
use Rattle.fv_tables.specs.Kept.{AgreeOnTable, AgreeOnTree}
use Rattle.fv_tables.specs.Spelled.{Rooted as Tree, Under, hole, pointer_at, stored}
use Rattle.fv_tables.specs.Told.{file_at}
use Rattle.fv_tables.proofs.Pointers.{same_pointer}
use Rattle.fv_tables.proofs.TablePlaces.{pointer_in}
use Rattle.fv_tables.proofs.Tables.{same_record}
use Rattle.fv_tree.specs.Altering.{Leaves}
use Rattle.fv_tree.specs.Beside.{unread}
use Rattle.fv_tree.specs.Flushing.{Leads, Loaded, IsNodeOf, ReachesOnce}
use Rattle.fv_tree.specs.Sources.{Use}
use Rattle.fv_tree.proofs.Beside.{beside_alike, beside_keeps, beside_leads, beside_pointers, beside_sound, unread_laid, unread_reaches, unread_sound}
use Rattle.fv_tree.proofs.Unknown.{alike_contents, leaves_unknown}
use Rattle.fv_inode.proofs.Indexed.{alike_indexes}
use Rattle.fv_files.specs.Apart.{LeadsFrom, LeadsIn, IsAsSaid, StoredIn, stored_trees}
use Rattle.fv_files.specs.Tables.{AreReached, IsStoredUnder}

-- ---- a tree

module _ (m n : Under) (owner levels : ℕ) (root : Pointer) (agree : AgreeOnTree (stored m owner levels root) n) where
  abbrev own : Tree
  own = stored m owner levels root

  stay : (level place v : ℕ) → Leads (unread own) level place v → n v ≡ m v
  stay level place v leads = subst (λ (k : ℕ). n k ≡ m k) leads.vvbn (agree level place leads.some)

  tree_leads : (level place v : ℕ) → Leads (unread (stored n owner levels root)) level place v → Leads (unread own) level place v
  tree_leads = beside_leads (unread own) n (unread_laid own) stay

  tree_keeps : (level place v : ℕ) → Leads (unread own) level place v → Leads (unread (stored n owner levels root)) level place v
  tree_keeps = beside_keeps (unread own) n (unread_laid own) stay

  tree_reached : (uses : ℕ → Option Use) → ReachesOnce uses own → ReachesOnce uses (stored n owner levels root)
  tree_reached uses is = unread_reaches uses (stored n owner levels root)
      (beside_sound (unread own) n (unread_laid own) stay uses uses (λ level place v leads. refl) (unread_sound uses own (λ level place. refl) (λ index. refl) is))

  tree_leaves : Leaves (unread own) (unread (stored n owner levels root))
  tree_leaves = record { levels = refl; root = refl; places = λ level place. inr (record { pointer = beside_pointers (unread own) n (unread_laid own) stay level place; changed = refl }) }

  -- What it leads to is as its pointers say in them, too.
  pub tree_stored : (known : Bool) → IsAsSaid known (unread own) → IsAsSaid known (unread (stored n owner levels root))
  tree_stored known is = record {
    positions = λ level place v low led. let was = tree_leads level place v led in subst (IsNodeOf owner level place) (sym (stay level place v was)) (is.positions level place v low was);
    leads = leaves_unknown (unread own) (unread (stored n owner levels root)) refl (alike_contents (unread own) (unread (stored n owner levels root)) (beside_alike (unread own) n (unread_laid own) stay)) tree_leaves is.leads;
    places = λ all level place v led none. is.places all level place v (tree_leads level place v led) (ap (λ (p : Pointer). p.pvbn) (sym (beside_pointers (unread own) n (unread_laid own) stay level place)) ∙ none);
  }

-- ---- a table

module _ (m n : Under) (levels : ℕ) (root : Pointer) (agree : AgreeOnTable m n levels root) where
  abbrev inode : Tree
  inode = stored m greatest_word levels root

  same_file : (k : ℕ) → file_at (stored n greatest_word levels root) k ≡ file_at inode k
  same_file = same_record inode n agree.inode

  over_leads : (a : Option ℕ) (v : ℕ) → LeadsFrom (stored_trees n levels root) a v → LeadsFrom (stored_trees m levels root) a v
  over_leads None v leads = record { level = leads.level; place = leads.place; leads = tree_leads m n greatest_word levels root agree.inode leads.level leads.place v leads.leads }
  over_leads (Some k) v leads = by (file_at inode k) refl (subst (λ (o : Option InodeRecord). LeadsIn (option_map (λ r. unread (stored n k r.levels r.root)) o) v) (same_file k) leads)
    where
      by : (o : Option InodeRecord) → file_at inode k ≡ o → LeadsIn (option_map (λ r. unread (stored n k r.levels r.root)) o) v → LeadsIn (option_map (λ r. unread (stored m k r.levels r.root)) o) v
      by None e leads = leads
      by (Some r) e leads = record { level = leads.level; place = leads.place; leads = tree_leads m n k r.levels r.root (agree.files k r e) leads.level leads.place v leads.leads }

  -- What it leads to, it leads to in them,
  pub over_keeps : (a : Option ℕ) (v : ℕ) → LeadsFrom (stored_trees m levels root) a v → LeadsFrom (stored_trees n levels root) a v
  over_keeps None v leads = record { level = leads.level; place = leads.place; leads = tree_keeps m n greatest_word levels root agree.inode leads.level leads.place v leads.leads }
  over_keeps (Some k) v leads = subst (λ (o : Option InodeRecord). LeadsIn (option_map (λ r. unread (stored n k r.levels r.root)) o) v) (sym (same_file k)) (by (file_at inode k) refl leads)
    where
      by : (o : Option InodeRecord) → file_at inode k ≡ o → LeadsIn (option_map (λ r. unread (stored m k r.levels r.root)) o) v → LeadsIn (option_map (λ r. unread (stored n k r.levels r.root)) o) v
      by None e leads = leads
      by (Some r) e leads = record { level = leads.level; place = leads.place; leads = tree_keeps m n k r.levels r.root (agree.files k r e) leads.level leads.place v leads.leads }

  -- each of its trees stands on them,
  pub over_reached : (uses : ℕ → Option Use) → AreReached m uses levels root → AreReached n uses levels root
  over_reached uses is = record {
    inode = tree_reached m n greatest_word levels root agree.inode uses is.inode;
    files = λ k r there.
        let was : file_at inode k ≡ Some r = sym (same_file k) ∙ there in
        tree_reached m n k r.levels r.root (agree.files k r was) uses (is.files k r was);
    apart = λ a b v other one two. is.apart a b v other (over_leads a v one) (over_leads b v two);
  }

  -- and is stored well in them.
  pub over_stored : (known : Bool) → IsStoredUnder known m levels root → IsStoredUnder known n levels root
  over_stored known is = record {
    trees = each;
    inodes = alike_indexes inode (stored n greatest_word levels root) (beside_alike (unread inode) n (unread_laid inode) (stay m n greatest_word levels root agree.inode)) is.inodes;
  }
    where
      each : (a : Option ℕ) → StoredIn known (stored_trees n levels root a)
      each None = tree_stored m n greatest_word levels root agree.inode known (is.trees None)
      each (Some k) = subst (λ (o : Option InodeRecord). StoredIn known (option_map (λ r. unread (stored n k r.levels r.root)) o)) (sym (same_file k)) (by (file_at inode k) refl (is.trees (Some k)))
        where
          by : (o : Option InodeRecord) → file_at inode k ≡ o → StoredIn known (option_map (λ r. unread (stored m k r.levels r.root)) o) → StoredIn known (option_map (λ r. unread (stored n k r.levels r.root)) o)
          by None e well = tt
          by (Some r) e well = tree_stored m n k r.levels r.root (agree.files k r e) known well

-- ---- where fewer places have to be known

-- What a table leads to is as its pointers say where every place is known only if it was before.
pub less_known : (m : Under) (levels : ℕ) (root : Pointer) (known other : Bool) → (other ≡ true → known ≡ true) → IsStoredUnder known m levels root → IsStoredUnder other m levels root
less_known m levels root known other less is = record { trees = λ a. by (stored_trees m levels root a) (is.trees a); inodes = is.inodes }
  where
    by : (o : Option Loaded) → StoredIn known o → StoredIn other o
    by None well = tt
    by (Some s) well = record { positions = well.positions; leads = well.leads; places = λ all. well.places (less all) }

-- ---- the same places over other blocks

module _ (m n : Under) (levels : ℕ) (root : Pointer) (agree : AgreeOnTable m n levels root) where
  pub same_place : (o : Owner) (level index : ℕ) → pointer_in n levels root o level index ≡ pointer_in m levels root o level index
  same_place InodeFile level index = same_pointer (stored m greatest_word levels root) n agree.inode level index
  same_place (OfFile k) level index =
      ap (λ (o : Option InodeRecord). option_map_or (λ r. pointer_at (stored n k r.levels r.root) level index) o hole) (same_record (stored m greatest_word levels root) n agree.inode k)
      ∙ so (file_at (stored m greatest_word levels root) k) refl
    where
      so : (o : Option InodeRecord) → file_at (stored m greatest_word levels root) k ≡ o
          → option_map_or (λ r. pointer_at (stored n k r.levels r.root) level index) o hole ≡ option_map_or (λ r. pointer_at (stored m k r.levels r.root) level index) o hole
      so None e = refl
      so (Some r) e = same_pointer (stored m k r.levels r.root) n (agree.files k r e) level index
