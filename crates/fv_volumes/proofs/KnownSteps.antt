-- A read of a volume that stands, whose blocks are as its pointers say and of which each place is known, makes no step.
use Rattle.std.proofs.Common.{◌≡◌, ◌≢◌, ◌≤◌, ℕ, zero, suc, ◌+◌, ◌/◌, ◌^◌, ◌<◌, Bool, true, false, cond, ◌||◌, ◌==◌, List, Option, Some, None, refl, sym, ap, ap₂, subst, ◌∙◌, arith}
use Rattle.std.specs.Prelude.{unwrap_or}
use Rattle.std.specs.Option.{option_map}
use Rattle.std.specs.FinMap as fin
use Rattle.std.specs.Cmp.{nat_cmp_total}
use Rattle.std.proofs.lemmas.Bool.Decides.{nat_tests}
use Rattle.fv_disk.specs.Shown.{Shown as Disk}
use Rattle.fv_codec.specs.declared.inode.InodeRecord.{InodeRecord}
use Rattle.fv_codec.specs.declared.pointer.Pointer.{Pointer}
use Rattle.fv_laws.specs.WellFormed.{IsWellTable}
use Rattle.fv_laws.proofs.Changes.{same_name}
use Rattle.fv_laws.proofs.Room.{entry_there, found_among}
use Rattle.fv_model.specs.declared.answers.Refusal.{Refusal}
use Rattle.fv_model.specs.declared.answers.Refusal.TheVariants.{NoFile, NoSnapshot, Range}
use Rattle.fv_model.specs.declared.commands.Command.TheVariants.{Get, Probe}
use Rattle.fv_model.specs.Machines.{Machine}
use Rattle.fv_model.specs.Numbers.{is_index}
use Rattle.fv_model.specs.Refusals.{refusal, table_asked}
use Rattle.fv_model.specs.Spelling.{is_same_name}
use Rattle.fv_model.specs.Tables.{File, file_named}
use Rattle.fv_model.specs.Trees.{fan}
use Rattle.fv_codec.specs.Blocks.{greatest_word}
use Rattle.fv_tables.specs.Spelled.{Rooted, Under, pointer_at, stored}
use Rattle.fv_tables.specs.Told.{Standing, file_at, file_told, records_each, standing_at, table_told, tree_of}
use Rattle.fv_tables.proofs.Tables.{files_told}
use Rattle.fv_tree.specs.declared.kept.Tree.{Tree}
use Rattle.fv_tree.specs.Beside.{unread, IsLaid}
use Rattle.fv_tree.specs.Flushing.{loaded_over, Leads, Loaded, IsSound}
use Rattle.fv_tree.specs.Lookups.{cost_below, way_cost}
use Rattle.fv_tree.specs.Sources.{Use}
use Rattle.fv_tree.specs.Standing.{standing, under, IsUnread}
use Rattle.fv_tree.specs.Stored.{TellsPlaces}
use Rattle.fv_tree.proofs.Beside.{tree_laid, unread_laid}
use Rattle.fv_inode.specs.declared.info.Info.{Info}
use Rattle.fv_inode.specs.Files.{has_name, info_of, name_of, IsFirst}
use Rattle.fv_files.specs.declared.files.Files.{Files}
use Rattle.fv_files.specs.Apart.{stored_trees, StandsIn, StoredIn, Trees}
use Rattle.fv_files.specs.Calls.{way_in}
use Rattle.fv_files.specs.Tables.{file_loaded, loaded_trees, tree_in, AreSound, IsStoredOn}
use Rattle.fv_pool.specs.declared.pool.Pool.{Pool}
use Rattle.fv_pool.specs.Tables.{standing_by, trees_by, AreSoundBy, AreStoredBy}
use Rattle.fv_volume.specs.declared.state.VolumeState.{VolumeState}
use Rattle.fv_volume.specs.declared.tables.TableAsked.{TableAsked}
use Rattle.fv_volume.specs.declared.tables.TableAsked.TheVariants.{Active, Kept}
use Rattle.fv_volume.specs.Calls.{Has}
use Rattle.fv_volume.specs.Asking.{standing_asked, standing_read, table_named, trees_of, trees_read}
use Rattle.fv_volume.specs.OneVolume.{shows, standing_for, trees_for, uses_in, volume_for, IsStanding}
use Rattle.fv_volume.specs.Paths.{if_unknown, unknown_over, StepsTo}
use Rattle.fv_volume.specs.Placing.{IsStoredWell}
use Rattle.fv_volume.specs.Probing.{IsPath}
use Rattle.fv_volume.proofs.Answered.{get_far, get_lost, get_none}
use Rattle.fv_volume.proofs.Asked.{lost}
use Rattle.fv_volume.proofs.Followed.{same_way}
use Rattle.fv_volume.proofs.Lookups.{found_passes, name_told, record_of, told_by}
use Rattle.fv_volume.proofs.KeptReads.{kept, root_holds}
use Rattle.fv_volume.proofs.Probed.{refused_alike}
use Rattle.fv_volume.proofs.SnapReads.{asked_table, asked_well}
use Rattle.fv_volume.proofs.Undamaged.{active_holds, led_by, HoldsWell, TableHolds}

-- ---- one tree

either_none : (b : Bool) → ◌≡◌ {A = ℕ} (cond b 0 0) 0
either_none true = refl
either_none false = refl

free_below : (s : Loaded) (i levels : ℕ) → cost_below (λ (p : Pointer). 0) s i levels ≡ 0
unfolding cost_below
free_below s i zero = refl
free_below s i (suc level) = ap₂ ◌+◌ (either_none (s.changed level (i / fan ^ level) || (pointer_at s.tree level (i / fan ^ level)).stamp == 0)) (free_below s i level)

-- where each pointer that is followed tells its place, none is unknown
all_known : (s : Loaded) → ((level place : ℕ) → s.changed level place ≡ false → (pointer_at s.tree level place).stamp ≢ 0 → (pointer_at s.tree level place).pvbn ≢ 0) → (i : ℕ) → way_cost if_unknown s i ≡ 0
all_known s tells i = same_way if_unknown (λ (p : Pointer). 0) s known i ∙ free_below s i (suc s.tree.levels)
  where
    known : (level place : ℕ) → s.changed level place ≡ false → (pointer_at s.tree level place).stamp ≢ 0 → if_unknown (pointer_at s.tree level place) ≡ 0
    known level place same some =
        let is = tells level place same some in
        let test : ((pointer_at s.tree level place).pvbn == 0) ≡ false = grind (arith, nat_tests, is) in
        ap {B = ℕ} (λ (b : Bool). cond b 1 0) test

-- what didn't change of a tree that stands on its blocks is led to, whether it is in memory or not
module _ (taken : ℕ → Option Use) (s : Loaded) (sound : IsSound taken s) (laid : IsLaid s) where
  cell_placed : (place : ℕ) (o : Option (List ℕ)) → s.tree.cells place ≡ o → s.changed 0 place ≡ false → (pointer_at s.tree 0 place).stamp ≢ 0 → s.placed 0 place ≡ true
  cell_placed place None at same some = laid.cells place at
  cell_placed place (Some block) at same some = (sound.cells place block at same some).1

  node_placed : (level place : ℕ) → 1 ≤ level → (o : Option (List Pointer)) → s.tree.nodes level place ≡ o → s.changed level place ≡ false → (pointer_at s.tree level place).stamp ≢ 0 → s.placed level place ≡ true
  node_placed level place low None at same some = laid.nodes level place low at
  node_placed level place low (Some xs) at same some = (sound.same level place xs low at same some).1

  unchanged_leads : (level place : ℕ) → s.changed level place ≡ false → (pointer_at s.tree level place).stamp ≢ 0 → Leads s level place (pointer_at s.tree level place).vvbn
  unchanged_leads zero place same some = record { some = some; placed = cell_placed place (s.tree.cells place) refl same some; vvbn = refl }
  unchanged_leads (suc level) place same some = record { some = some; placed = node_placed (suc level) place (omega arith) (s.tree.nodes (suc level) place) refl same some; vvbn = refl }

  -- so no pointer that is followed is unknown, where each that leads to a block tells its place
  pub no_unknown : TellsPlaces s → (i : ℕ) → way_cost if_unknown s i ≡ 0
  no_unknown tells = all_known s (λ level place same some. tells level place (pointer_at s.tree level place).vvbn (unchanged_leads level place same some))

-- nor is one of a tree of which nothing is in memory
pub none_unread : (known : Bool) → known ≡ true → (blocks : Under) (taken : ℕ → Option Use) (t : Rooted) → HoldsWell known blocks taken t → ((level place : ℕ) → IsUnread t level place) → (i : ℕ) → way_cost if_unknown (unread t) i ≡ 0
none_unread known all blocks taken t good bare = all_known (unread t) tells
  where
    tells : (level place : ℕ) → false ≡ false → (pointer_at t level place).stamp ≢ 0 → (pointer_at t level place).pvbn ≢ 0
    tells level place same some =
        let s = good.loaded in
        let there : (pointer_at s.tree level place).stamp ≢ 0 = subst (λ (u : Rooted). (pointer_at u level place).stamp ≢ 0) (sym good.tree) some in
        let leads = led_by s good.laid level place there (subst (λ (u : Rooted). IsUnread u level place) (sym good.tree) (bare level place)) in
        subst (λ (u : Rooted). (pointer_at u level place).pvbn ≢ 0) good.tree (good.well.places all level place (pointer_at s.tree level place).vvbn leads)

-- nothing is in memory of one that is stored
bare : (blocks : Under) (owner levels : ℕ) (root : Pointer) (level place : ℕ) → IsUnread (stored blocks owner levels root) level place
bare blocks owner levels root zero place = refl
bare blocks owner levels root (suc level) place = refl

-- ---- the file of a name

-- the file that the machine finds has the first record of its name
module _ (x : Standing) (name : List ℕ) (now : ℕ) (well : IsWellTable now (table_told x)) (e : ℕ × File) (found : file_named (table_told x) name ≡ Some e) where
  abbrev named : ℕ × File → Bool
  named f = is_same_name f.1.name name

  pub there : fin.get (table_told x).files e.0 ≡ Some e.1
  there = entry_there nat_cmp_total (table_told x).files e (found_among named e (fin.entries (table_told x).files) found)

  abbrev pub its : (r : InodeRecord) × (file_at x.inode e.0 ≡ Some r) × (e.1 ≡ file_told (tree_of x e.0 r) r)
  its = record_of x name e.0 e.1 (sym (files_told x e.0) ∙ there)

  same : is_same_name (name_of its.0) name ≡ true
  same = ap (λ n. is_same_name n name) (sym (name_told x name e.0 its.0)) ∙ ap (λ (f : File). is_same_name f.name name) (sym its.2) ∙ found_passes named e (fin.entries (table_told x).files) found

  one : (k : ℕ) → k < e.0 → (o : Option InodeRecord) → file_at x.inode k ≡ o → (b : Bool) → has_name o name ≡ b → b ≡ false
  one k less o at false is = refl
  one k less None at true is = sym is
  one k less (Some r) at true is =
      let f = file_told (tree_of x k r) r in
      let here : fin.get (table_told x).files k ≡ Some f = files_told x k ∙ told_by x name k r at in
      let mine : f.name ≡ name = name_told x name k r ∙ same_name (name_of r) name is in
      let other : e.1.name ≡ name = same_name e.1.name name (found_passes named e (fin.entries (table_told x).files) found) in
      let twice : k ≡ e.0 = well.names k e.0 f e.1 here there (mine ∙ sym other) in
      absurd (omega (arith, less, twice))

  pub first_there : IsFirst x.inode name (info_of e.0 its.0)
  first_there = record {
    file = its.0;
    there = its.1;
    named = same;
    told = refl;
    first = λ k less. one k less (file_at x.inode k) refl (has_name (file_at x.inode k) name) refl;
  }

-- ---- a table

-- no pointer on the way to a cell of a tree, where there is one, is unknown
abbrev pub NoneUnknown : Option Loaded → Type 0
NoneUnknown o = (i : ℕ) → way_in if_unknown o i ≡ 0

-- a table of which nothing is in memory
module _ (known : Bool) (all : known ≡ true) (blocks : Under) (uses : ℕ → Option Use) (levels : ℕ) (root : Pointer) (holds : TableHolds known blocks uses (standing_at blocks levels root)) where
  abbrev inode : Rooted
  inode = stored blocks greatest_word levels root

  stored_file : (n : ℕ) (q : Option InodeRecord) → file_at inode n ≡ q → NoneUnknown (option_map (λ r. unread (stored blocks n r.levels r.root)) q)
  stored_file n None at = λ i. refl
  stored_file n (Some r) at = none_unread known all blocks uses (stored blocks n r.levels r.root) (holds.files n r at) (bare blocks n r.levels r.root)

  pub stored_none : (a : Option ℕ) → NoneUnknown (stored_trees blocks levels root a)
  stored_none None = none_unread known all blocks uses inode holds.inode (bare blocks greatest_word levels root)
  stored_none (Some n) = stored_file n (file_at inode n) refl

-- a table in memory
module _ (known : Bool) (all : known ≡ true) (blocks : Under) (uses : ℕ → Option Use) (f : Files) (sound : AreSound blocks uses f) (well : IsStoredOn known blocks f) where
  loaded_file : (n : ℕ) (q : Option InodeRecord) (o : Option Tree) → StandsIn uses (option_map (λ r. file_loaded blocks n r o) q) → StoredIn known (option_map (λ r. file_loaded blocks n r o) q) → NoneUnknown (option_map (λ r. file_loaded blocks n r o) q)
  loaded_file n None o stands said = λ i. refl
  loaded_file n (Some r) None stands said = no_unknown uses (unread (stored blocks n r.levels r.root)) stands (unread_laid (stored blocks n r.levels r.root)) (said.places all)
  loaded_file n (Some r) (Some t) stands said = no_unknown uses (loaded_over blocks t) stands (tree_laid blocks t) (said.places all)

  pub loaded_none : (a : Option ℕ) → NoneUnknown (loaded_trees blocks f a)
  loaded_none None = no_unknown uses (loaded_over blocks f.inode.tree) (sound.trees None) (tree_laid blocks f.inode.tree) ((well.trees None).places all)
  loaded_none (Some n) = loaded_file n (file_at (standing blocks f.inode.tree) n) (tree_in f n) (sound.trees (Some n)) (well.trees (Some n))

-- no pointer on the path to a file's cell is unknown
pub known_steps : (t : Standing) (trees : Trees) → ((a : Option ℕ) → NoneUnknown (trees a)) → (name : List ℕ) (info : Info) → IsFirst t.inode name info → (i before now : ℕ) → StepsTo t trees name i before now → now ≡ before
known_steps t trees none name info first i before now steps =
    let over : unknown_over trees info.number i ≡ 0 = ap₂ ◌+◌ (none None (info.number / records_each)) (none (Some info.number) i) in
    let rose = steps info first in
    omega (arith, over, rose)

-- ---- a volume

module _ (d : Disk) (p : Pool) (x : VolumeState) (all : x.known ≡ true) (is : IsStanding d p x) (well : IsStoredWell d p x) where
  abbrev whole : Under
  whole = under (shows d p x)

  active_none : (a : Option ℕ) → NoneUnknown (trees_by whole x.active x.files a)
  active_none = by x.files is.trees well (active_holds d p x is well)
    where
      by : (o : Option Files) → AreSoundBy whole (shows d p x).used x.active o → AreStoredBy x.known whole x.active o → TableHolds x.known whole (shows d p x).used (standing_by whole x.active o) → (a : Option ℕ) → NoneUnknown (trees_by whole x.active o a)
      by None sound stored holds = stored_none x.known all whole (shows d p x).used x.active.levels x.active.root holds
      by (Some f) sound stored holds = loaded_none x.known all whole (shows d p x).used f sound stored

  -- nor one on that to a cell of the table that a command reads
  read_none : (s : Option (List ℕ)) (a : Option ℕ) → NoneUnknown (trees_read d p x s a)
  read_none s = by (table_named x s) refl
    where
      by : (o : Option TableAsked) → table_named x s ≡ o → (a : Option ℕ) → NoneUnknown (trees_of d p x (unwrap_or o Active) a)
      by None named = active_none
      by (Some Active) named = active_none
      by (Some (Kept root)) named = stored_none x.known all whole (uses_in p x (kept d p x is root (s, named)).snap.slot) root.levels root.root (root_holds d p x is root (s, named))

  -- a block that was given was given without a step
  pub known_get : (m : Machine) → Has x.name (volume_for d p x) m → (s : Option (List ℕ)) (f : List ℕ) (i before now : ℕ) → refusal m (Get x.name s f i) ≡ None → StepsTo (standing_read d p x s) (trees_read d p x s) f i before now → now ≡ before
  known_get m has s f i before now accepted steps = by (is_index i) refl (standing_asked d p x s) refl
    where
      not_some : (r : Refusal) (o : Option Refusal) → o ≡ Some r → o ≡ None → ⊥
      not_some r o one none = let both : Some r ≡ None = sym one ∙ none in cc

      at : (t : Standing) → standing_asked d p x s ≡ Some t → is_index i ≡ true → (o : Option (ℕ × File)) → file_named (table_told t) f ≡ o → now ≡ before
      at t asked near None found =
          let told : table_asked (volume_for d p x) s ≡ Some (table_told t) = asked_table d p x is s ∙ ap (option_map table_told) asked in
          absurd (not_some NoFile _ (get_none m x.name (volume_for d p x) has s (table_told t) told f i near found) accepted)
      at t asked near (Some e) found =
          let read : standing_read d p x s ≡ t = ap (λ (o : Option Standing). unwrap_or o (standing_for d p x)) asked in
          known_steps t (trees_read d p x s) (read_none s) f _ (first_there t f x.now (asked_well d p x is s t asked) e found) i before now
          (subst (λ (u : Standing). StepsTo u (trees_read d p x s) f i before now) read steps)

      by : (b : Bool) → is_index i ≡ b → (o : Option Standing) → standing_asked d p x s ≡ o → now ≡ before
      by false far o asked = absurd (not_some Range _ (get_far m x.name (volume_for d p x) has s f i far) accepted)
      by true near None asked = absurd (not_some NoSnapshot _ (get_lost m x.name (volume_for d p x) has s (lost d p x s is asked) f i near) accepted)
      by true near (Some t) asked = at t asked near (file_named (table_told t) f) refl

  -- and a probe answers 0
  pub known_path : (m : Machine) → Has x.name (volume_for d p x) m → (f : List ℕ) (i count : ℕ) → refusal m (Probe x.name f i) ≡ None → IsPath (standing_for d p x) (trees_for d p x) f i count → count ≡ 0
  known_path m has f i count accepted path = known_get m has None f i 0 count (refused_alike m x.name f i ∙ accepted) (λ info first. let is : count ≡ unknown_over (trees_read d p x None) info.number i = path info first in omega (arith, is))
