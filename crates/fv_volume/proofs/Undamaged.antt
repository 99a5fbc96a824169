-- A read of a volume that stands, and whose blocks are as its pointers say, finds no damage.
use Rattle.std.proofs.Common.{◌≡◌, ◌≢◌, ℕ, zero, suc, Bool, Option, Some, None, Result, Ok, Err, is_some, true≢false, inl, inr, refl, sym, ap, subst, ◌∙◌, arith}
use Rattle.std.specs.Option.{option_map}
use Rattle.fv_disk.specs.Shown.{Shown as Disk}
use Rattle.fv_disk.specs.declared.fault.BlockFault.{BlockFault}
use Rattle.fv_disk.specs.declared.fault.BlockFault.TheVariants as block
use Rattle.fv_codec.specs.declared.inode.InodeRecord.{InodeRecord}
use Rattle.fv_codec.specs.Blocks.{greatest_word, inodes_at, node_at}
use Rattle.fv_tables.specs.Spelled.{Rooted, Under, pointer_at, stored}
use Rattle.fv_tables.specs.Told.{Standing, file_at, tree_of, tree_or}
use Rattle.fv_tree.specs.declared.kept.Tree.{Tree}
use Rattle.fv_tree.specs.Sources.{Shown, Use}
use Rattle.fv_tree.specs.Standing.{standing, under, IsNodeDamage, IsUnread, LacksBlock}
use Rattle.fv_tree.specs.Flushing.{Leads, Loaded, loaded_over, IsSound}
use Rattle.fv_tree.specs.Beside.{unread, IsLaid}
use Rattle.fv_tree.proofs.Beside.{tree_laid, unread_laid, unread_sound}
use Rattle.fv_inode.specs.Files.{NamesIndexes}
use Rattle.fv_files.specs.declared.files.Files.{Files}
use Rattle.fv_files.specs.Apart.{IsAsSaid, StandsIn, StoredIn}
use Rattle.fv_files.specs.Tables.{file_loaded, tree_in}
use Rattle.fv_pool.specs.declared.pool.Pool.{Pool}
use Rattle.fv_volume.specs.declared.state.VolumeState.{VolumeState}
use Rattle.fv_pool.specs.Calls.{FileFails, IsBadInodes, TableFails}
use Rattle.fv_container.proofs.Damage.{none_damaged as no_leaf_damaged}
use Rattle.fv_pool.specs.Lending.{Lent, ReadFails, TellsEntries, lent_for, shown_over}
use Rattle.fv_pool.specs.Tables.{standing_by, AreSoundBy, AreStoredBy}
use Rattle.fv_volume.specs.OneVolume.{home_in, shows, standing_for, IsStanding}
use Rattle.fv_volume.specs.Placing.{IsStoredWell}

-- ---- one tree

-- what is in a block, and what isn't, can't be both
not_two : {X : Type 0} (o : Option X) (x y : X) → o ≡ Some x → o ≡ Some y → x ≡ y
not_two o x y one other = let both : Some x ≡ Some y = sym one ∙ other in cc

not_err : {X E : Type 0} (r : Result X E) (x : X) (e : E) → r ≡ Ok x → r ≡ Err e → ⊥
not_err r x e good bad = let both : Ok x ≡ Err e = sym good ∙ bad in cc

-- A tree that stands on blocks, with what isn't in memory in the block to which its pointer leads, as the pointer says. `known` says whether every
-- place is known.
pub record HoldsWell (known : Bool) (blocks : Under) (taken : ℕ → Option Use) (t : Rooted) : Type 0 where
  pub loaded : Loaded
  pub tree : loaded.tree ≡ t
  pub on : loaded.tree.under ≡ blocks
  pub sound : IsSound taken loaded
  pub laid : IsLaid loaded
  pub well : IsAsSaid known loaded

-- So each tree of a table does, and each inode block names its index.
pub record TableHolds (known : Bool) (blocks : Under) (taken : ℕ → Option Use) (t : Standing) : Type 0 where
  pub inode : HoldsWell known blocks taken t.inode
  pub files : (n : ℕ) (r : InodeRecord) → file_at t.inode n ≡ Some r → HoldsWell known blocks taken (tree_of t n r)
  pub names : NamesIndexes t.inode

-- so its pointer leads to it
pub led_by : (s : Loaded) → IsLaid s → (level place : ℕ) → (pointer_at s.tree level place).stamp ≢ 0 → IsUnread s.tree level place → Leads s level place (pointer_at s.tree level place).vvbn
led_by s laid zero place some none = record { some = some; placed = laid.cells place none; vvbn = refl }
led_by s laid (suc level) place some none = record { some = some; placed = laid.nodes (suc level) place (omega arith) none; vvbn = refl }

module _ (known : Bool) (blocks : Under) (taken : ℕ → Option Use) (t : Rooted) (good : HoldsWell known blocks taken t) where
  abbrev s : Loaded
  s = good.loaded

  -- each block that is loaded is held
  lacks_none : LacksBlock s.tree → ⊥
  lacks_none lacks =
      let held = good.sound.held lacks.level lacks.place (pointer_at s.tree lacks.level lacks.place).vvbn (led_by s good.laid lacks.level lacks.place lacks.away.0 lacks.unread) in
      true≢false (sym held ∙ ap is_some lacks.away.1)

  -- and that of a node has its shape
  has_shape : (old new : Shown) (at want found : ℕ) → under old ≡ blocks → IsNodeDamage s.tree old new at want found → ⊥
  has_shape old new at want found same n =
      let v = (pointer_at s.tree n.level n.place).vvbn in
      let node = good.well.positions n.level n.place v n.low (led_by s good.laid n.level n.place n.damage.some n.unread) in
      let its = not_two (blocks v) node.block n.damage.block (ap (λ (u : Under). u v) (sym good.on) ∙ node.lies) (ap (λ (u : Under). u v) (sym same) ∙ n.damage.lies) in
      not_err (node_at node.block) _ _ node.spells (ap node_at its ∙ n.damage.fault)

  pub no_read_damage : (told : Type 0) (old : Lent) (faults at want found : ℕ) → told → TellsEntries old.disk old.pool.containers → under (shown_over old) ≡ blocks → ReadFails told t old faults (block.Damaged at want found) → ⊥
  no_read_damage told old faults at want found tells entries same (calm, inl hole) = lacks_none (subst LacksBlock (sym good.tree) (hole.1 tells))
  no_read_damage told old faults at want found tells entries same (calm, inr (inr leaf)) = no_leaf_damaged old.disk.reads old.pool.containers at want found entries.1 (leaf entries.0)
  no_read_damage told old faults at want found tells entries same (calm, inr (inl node)) =
      has_shape (shown_over old) (shown_over old) at want found same (subst (λ (u : Rooted). IsNodeDamage u (shown_over old) (shown_over old) at want found) (sym good.tree) (node tells))

-- ---- the trees of a volume

module _ (d : Disk) (p : Pool) (x : VolumeState) where
  abbrev blocks : Under
  blocks = under (shows d p x)

  abbrev taken : ℕ → Option Use
  taken = (shows d p x).used

  holds_unread : (t : Rooted) → ((level place : ℕ) → t.nodes level place ≡ None) → t.under ≡ blocks → IsSound taken (unread t) → IsAsSaid x.known (unread t) → HoldsWell x.known blocks taken t
  holds_unread t none on sound well = record { loaded = unread t; tree = refl; on = on; sound = sound; laid = unread_laid t; well = well }

  holds_kept : (t : Tree) → IsSound taken (loaded_over blocks t) → IsAsSaid x.known (loaded_over blocks t) → HoldsWell x.known blocks taken (standing blocks t)
  holds_kept t sound well = record { loaded = loaded_over blocks t; tree = refl; on = refl; sound = sound; laid = tree_laid blocks t; well = well }

  inode_by : (o : Option Files) → AreSoundBy blocks taken x.active o → AreStoredBy x.known blocks x.active o → HoldsWell x.known blocks taken (standing_by blocks x.active o).inode
  inode_by None sound well = let t = stored blocks greatest_word x.active.levels x.active.root in holds_unread t (λ level place. refl) refl (unread_sound taken t (λ level place. refl) (λ index. refl) sound.inode) (well.trees None)
  inode_by (Some f) sound well = holds_kept f.inode.tree (sound.trees None) (well.trees None)

  file_tree : (n : ℕ) (r : InodeRecord) (o : Option Tree) → IsSound taken (file_loaded blocks n r o) → IsAsSaid x.known (file_loaded blocks n r o)
      → HoldsWell x.known blocks taken (tree_or (option_map (standing blocks) o) (stored blocks n r.levels r.root))
  file_tree n r None sound well = holds_unread (stored blocks n r.levels r.root) (λ level place. refl) refl sound well
  file_tree n r (Some t) sound well = holds_kept t sound well

  file_by : (o : Option Files) → AreSoundBy blocks taken x.active o → AreStoredBy x.known blocks x.active o → (n : ℕ) (r : InodeRecord) → file_at (standing_by blocks x.active o).inode n ≡ Some r
      → HoldsWell x.known blocks taken (tree_of (standing_by blocks x.active o) n r)
  file_by None sound well n r there =
      let t = stored blocks n r.levels r.root in
      file_tree n r None (unread_sound taken t (λ level place. refl) (λ index. refl) (sound.files n r there))
      (subst (λ (o : Option InodeRecord). StoredIn x.known (option_map (λ r. unread (stored blocks n r.levels r.root)) o)) there (well.trees (Some n)))
  file_by (Some f) sound well n r there =
      file_tree n r (tree_in f n)
      (subst (λ (o : Option InodeRecord). StandsIn taken (option_map (λ r. file_loaded blocks n r (tree_in f n)) o)) there (sound.trees (Some n)))
      (subst (λ (o : Option InodeRecord). StoredIn x.known (option_map (λ r. file_loaded blocks n r (tree_in f n)) o)) there (well.trees (Some n)))

  names_by : (o : Option Files) → AreStoredBy x.known blocks x.active o → NamesIndexes (standing_by blocks x.active o).inode
  names_by None well = well.inodes
  names_by (Some f) well = well.inodes

  -- the active table
  pub active_holds : IsStanding d p x → IsStoredWell d p x → TableHolds x.known blocks taken (standing_for d p x)
  active_holds is well = record { inode = inode_by x.files is.trees well; files = file_by x.files is.trees well; names = names_by x.files well }

  -- where something is told that holds
  module _ (told : Type 0) (tells : told) (entries : TellsEntries d p.containers) (uses : ℕ → Option Use) (t : Standing) (known : Bool) (holds : TableHolds known blocks uses t) where
    abbrev its : ℕ → Lent
    its steps = lent_for p x.map d steps (home_in x) 0

    inodes_shaped : (steps faults : ℕ) (e : BlockFault) → IsBadInodes told t.inode (its steps) faults e → ⊥
    inodes_shaped steps faults e bad =
        let spelled = holds.names bad.damage.cell bad.damage.block (bad.damage.lies tells) in
        not_err (inodes_at bad.damage.block) _ _ spelled.spells bad.damage.fault

    file_whole : (steps faults at want found : ℕ) → FileFails told t (its steps) faults (block.Damaged at want found) → ⊥
    file_whole steps faults at want found fails =
        let of = fails.of_file tells in
        no_read_damage known blocks uses fails.tree (subst (HoldsWell known blocks uses) (sym of.tree) (holds.files of.number of.file of.there)) told (its steps) faults at want found tells entries refl fails.fails

    -- no load for a table answers damage
    pub none_damaged : (steps faults at want found : ℕ) → TableFails told t (its steps) faults (block.Damaged at want found) → ⊥
    none_damaged steps faults at want found (inl fails) = no_read_damage known blocks uses t.inode holds.inode told (its steps) faults at want found tells entries refl fails
    none_damaged steps faults at want found (inr (inl bad)) = inodes_shaped steps faults (block.Damaged at want found) bad
    none_damaged steps faults at want found (inr (inr fails)) = file_whole steps faults at want found fails
