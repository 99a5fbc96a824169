-- A table of which nothing is in memory.
use Rattle.std.proofs.Common.{◌≡◌, ℕ, Bool, true, false, refl, arith, sym, ap, subst, ◌∙◌}
use Rattle.std.specs.Prelude.{List, [], ◌∷◌, length, Option, Some, None, is_some}
use Rattle.std.specs.Option.{option_map}
use Rattle.std.specs.Ordering.{nat_cmp}
use Rattle.std.specs.BTreeMap as maps
use Rattle.std.specs.Map.{lookup}
use Rattle.fv_codec.specs.declared.pointer.Pointer.{Pointer}
use Rattle.fv_codec.specs.declared.inode.InodeRecord.{InodeRecord}
use Rattle.fv_codec.specs.Blocks.{greatest_word}
use Rattle.fv_tables.specs.Spelled.{Under, Rooted, stored}
use Rattle.fv_tables.specs.Told.{file_at, standing_at}
use Rattle.fv_tree.specs.Sources.{Use}
use Rattle.fv_tree.specs.Standing.{standing}
use Rattle.fv_tree.specs.Flushing.{loaded_over, IsSound, ReachesOnce}
use Rattle.fv_tree.specs.Beside.{unread}
use Rattle.fv_tree.specs.Costs.{pending}
use Rattle.fv_tree.proofs.Beside.{unread_sound}
use Rattle.fv_tree.proofs.Stays.{unchanged}
use Rattle.fv_files.specs.declared.files.Files.{Files}
use Rattle.fv_files.specs.Trees.{standing_in}
use Rattle.fv_inode.specs.Files.{NamesIndexes}
use Rattle.fv_files.specs.Apart.{LeadsIn, LeadsFrom, StandsIn, StoredIn, AlikeIn, AreAlike, AreLed, stored_trees}
use Rattle.fv_files.specs.Tables.{changed, tree_in, file_loaded, loaded_trees, AreSound, AreReached, IsStoredOn, IsStoredUnder}
use Rattle.fv_files.proofs.Stored.{unread_stored}
use Rattle.fv_files.proofs.Alike.{alike_itself}
use Rattle.fv_files.proofs.Beside.{reread_leads, unread_leads}

none_in : {K X : Type 0} (test : K → Bool) (es : List (K × X)) → length es ≡ 0 → lookup test es ≡ None
none_in test [] e = refl
none_in test (x ∷ xs) e = absurd (omega (arith, e))

pub not_some : {X : Type 0} (o : Option X) (x : X) → o ≡ None → o ≡ Some x → ⊥
not_some o x none some = let wrong : false ≡ true = sym (ap is_some none) ∙ ap is_some some in cc

pub none_there : {X P : Type 0} (o : Option X) → o ≡ None → is_some o ≡ true → P
none_there o none there = let wrong : false ≡ true = sym (ap is_some none) ∙ there in absurd (grind (arith, wrong))

-- no tree is in memory
pub no_trees : (f : Files) → maps.btree_map_len f.trees ≡ 0 → (n : ℕ) → tree_in f n ≡ None
no_trees f none n = none_in (maps.is_at (nat_cmp n)) f.trees.entries none

module _ (f : Files) (levels : ℕ) (root : Pointer) (is : (blocks : Under) → standing blocks f.inode.tree ≡ stored blocks greatest_word levels root) where
  pub stored_in : maps.btree_map_len f.trees ≡ 0 → (blocks : Under) → standing_in blocks (changed f) ≡ standing_at blocks levels root
  stored_in none blocks = λ i. record { inode = is blocks i; trees = λ n. option_map (standing blocks) (no_trees f none n i) }

  -- a file's tree is the stored one
  file_is : maps.btree_map_len f.trees ≡ 0 → (blocks : Under) (n : ℕ) → loaded_trees blocks f (Some n) ≡ stored_trees blocks levels root (Some n)
  file_is none blocks n = λ i. option_map (λ r. file_loaded blocks n r (no_trees f none n i)) (file_at (is blocks i) n)

  -- each tree is as the stored one
  pub stored_alike : maps.btree_map_len f.trees ≡ 0 → pending f.inode.tree ≡ 0 → (blocks : Under) → AreAlike (loaded_trees blocks f) (stored_trees blocks levels root)
  stored_alike none still blocks None = record { tree = is blocks; changed = unchanged f.inode.tree still }
  stored_alike none still blocks (Some n) = subst (λ o. AlikeIn o (stored_trees blocks levels root (Some n))) (sym (file_is none blocks n)) (alike_itself (stored_trees blocks levels root (Some n)))

  led_there : maps.btree_map_len f.trees ≡ 0 → (blocks : Under) (a : Option ℕ) (v : ℕ) → LeadsFrom (loaded_trees blocks f) a v → LeadsFrom (stored_trees blocks levels root) a v
  led_there none blocks None v led = unread_leads blocks f.inode.tree (stored blocks greatest_word levels root) (is blocks) v led
  led_there none blocks (Some n) v led = subst (λ o. LeadsIn o v) (file_is none blocks n) led

  module _ (stands : (blocks : Under) (used : ℕ → Option Use) → ReachesOnce used (stored blocks greatest_word levels root) → IsSound used (loaded_over blocks f.inode.tree)) where
    all_stand : maps.btree_map_len f.trees ≡ 0 → (blocks : Under) (used : ℕ → Option Use) → AreReached blocks used levels root → (a : Option ℕ) → StandsIn used (loaded_trees blocks f a)
    all_stand none blocks used reached None = stands blocks used reached.inode
    all_stand none blocks used reached (Some n) = subst (StandsIn used) (sym (file_is none blocks n)) (at (file_at (stored blocks greatest_word levels root) n) refl)
      where
        at : (o : Option InodeRecord) → file_at (stored blocks greatest_word levels root) n ≡ o → StandsIn used (option_map (λ r. unread (stored blocks n r.levels r.root)) o)
        at None e = tt
        at (Some r) e = unread_sound used (stored blocks n r.levels r.root) (λ level place. refl) (λ index. refl) (reached.files n r e)

    pub stored_sound : maps.btree_map_len f.trees ≡ 0 → (blocks : Under) (used : ℕ → Option Use) → AreReached blocks used levels root → AreSound blocks used f
    stored_sound none blocks used reached = record {
      owner = ap (λ (t : Rooted). t.owner) (is blocks);
      owners = λ n t at. absurd (not_some (tree_in f n) t (no_trees f none n) at);
      trees = all_stand none blocks used reached;
      apart = λ a b v differs one other. reached.apart a b v differs (led_there none blocks a v one) (led_there none blocks b v other);
      ready = λ n there. none_there (tree_in f n) (no_trees f none n) there;
    }

  -- what it leads to is as its pointers say
  pub stored_wells : maps.btree_map_len f.trees ≡ 0 → (known : Bool) (blocks : Under) → IsStoredUnder known blocks levels root → IsStoredOn known blocks f
  stored_wells none known blocks well = record { trees = each; inodes = subst NamesIndexes (sym (is blocks)) well.inodes }
    where
      each : (a : Option ℕ) → StoredIn known (loaded_trees blocks f a)
      each None = unread_stored known blocks f.inode.tree (stored blocks greatest_word levels root) (is blocks) (well.trees None)
      each (Some n) = subst (StoredIn known) (sym (file_is none blocks n)) (well.trees (Some n))

  stored_there : maps.btree_map_len f.trees ≡ 0 → (blocks : Under) (a : Option ℕ) (v : ℕ) → LeadsFrom (stored_trees blocks levels root) a v → LeadsFrom (loaded_trees blocks f) a v
  stored_there none blocks None v led = reread_leads blocks f.inode.tree greatest_word levels root (is blocks) v led
  stored_there none blocks (Some n) v led = subst (λ o. LeadsIn o v) (sym (file_is none blocks n)) led

  pub stored_led : maps.btree_map_len f.trees ≡ 0 → (blocks : Under) (used : ℕ → Option Use) → AreLed used (stored_trees blocks levels root) → AreLed used (loaded_trees blocks f)
  stored_led none blocks used led v nowhere = led v (λ a leads. nowhere a (stored_there none blocks a v leads))
