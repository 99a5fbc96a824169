-- What a mirror is made of is whole where its source stands: no leaf is damaged, and the block under each number has the shape of its kind.
use Rattle.std.proofs.Common.{◌≡◌, ◌≢◌, ℕ, zero, suc, ◌+◌, ◌≤◌, Bool, true, cond, List, Option, Some, None, Ok, refl, sym, ap, subst, ◌∙◌, arith}
use Rattle.std.specs.Option.{option_map}
use Rattle.std.proofs.lemmas.Option.{same_Some}
use Rattle.fv_disk.specs.Shown.{Shown as Disk}
use Rattle.fv_codec.specs.declared.form.Form.{Form}
use Rattle.fv_codec.specs.declared.form.Form.TheVariants.{Node as OfNode}
use Rattle.fv_codec.specs.declared.inode.InodeRecord.{InodeRecord}
use Rattle.fv_codec.specs.declared.pointer.Pointer.{Pointer}
use Rattle.fv_codec.specs.Blocks.{greatest_word, node_at}
use Rattle.fv_codec.specs.Fields.{verdict_of}
use Rattle.fv_container.specs.declared.entry.Entry.{Entry}
use Rattle.fv_container.proofs.Damage.{none_damaged}
use Rattle.fv_copies.specs.Copying.{IsWhole}
use Rattle.fv_laws.proofs.Lists.{In}
use Rattle.fv_tables.specs.Spelled.{Under, pointer_at, stored}
use Rattle.fv_tables.specs.Told.{Standing, file_at, standing_at}
use Rattle.fv_tables.proofs.AlikeTables.{stands as cell_stands}
use Rattle.fv_tree.specs.Beside.{unread}
use Rattle.fv_tree.specs.Flushing.{kind_for, HasKind, IsNodeOf, IsRight}
use Rattle.fv_tree.specs.Sources.{Use}
use Rattle.fv_inode.specs.Files.{IsInodesOf}
use Rattle.fv_files.specs.Apart.{StoredIn, stored_trees}
use Rattle.fv_places.specs.ByKind.{form_of, shape_in}
use Rattle.fv_places.proofs.Descents.{within}
use Rattle.fv_pool.specs.declared.pool.Pool.{Pool}
use Rattle.fv_pool.specs.BlocksOver.{block_of, held_block, held_entry}
use Rattle.fv_pool.specs.Keeping.{seen}
use Rattle.fv_pool.specs.Lending.{use_of}
use Rattle.fv_volmap.specs.Slots.{has, slot_at}
use Rattle.fv_volume.specs.declared.state.Snap.{Snap}
use Rattle.fv_volume.specs.declared.state.VolumeState.{VolumeState}
use Rattle.fv_volume.specs.OneVolume.{blocks_in, tables_of, uses_in, IsStanding, RootStands}
use Rattle.fv_volume.specs.Sharing.{pointer_in}
use Rattle.fv_volume.proofs.SettledTables.{LeadsHere}
use Rattle.fv_mirror.specs.Making.{source_bits}
use Rattle.fv_mirror.proofs.CopiedTables.{file_few, file_form, file_kind, inode_form, root_few}
use Rattle.fv_mirror.proofs.CopiedTrees.{right_kind}
use Rattle.fv_mirror.proofs.Source.{bits_has, chain_there, entry_there, kept_there, leads_there}

-- a node and an inode block have their shapes
node_shaped : (kind owner level place : ℕ) (o : Option (List ℕ)) (block : List ℕ) → o ≡ Some block → form_of kind ≡ Some OfNode → IsNodeOf owner level place o → shape_in (form_of kind) block ≡ Ok tt
node_shaped kind owner level place o block at form is =
    let same : is.block ≡ block = same_Some is.block block (sym is.lies ∙ at) in
    ap (λ (f : Option Form). shape_in f block) form ∙ ap (λ (b : List ℕ). verdict_of (node_at b)) (sym same) ∙ ap verdict_of is.spells

inodes_shaped : (kind index : ℕ) (block : List ℕ) → kind ≡ 5 → IsInodesOf index block → shape_in (form_of kind) block ≡ Ok tt
inodes_shaped kind index block five is = ap (λ (k : ℕ). shape_in (form_of k) block) five ∙ ap verdict_of is.spells

module _ (disk : Disk) (pool : Pool) (y : VolumeState) (stands : IsStanding disk pool y) (q : Snap) (there : In q (tables_of y)) where
  abbrev blocks : Under
  blocks = blocks_in disk pool y q.slot

  abbrev uses : ℕ → Option Use
  uses = uses_in pool y q.slot

  its : RootStands disk pool y q.slot q.table
  its = (kept_there disk pool y stands q there).1

  abbrev x : Standing
  x = standing_at blocks q.table.levels q.table.root

  module _ (v : ℕ) (member : has v (slot_at y.map q.slot) ≡ true) (e : Entry) (held : held_entry y.map pool.containers y.slot v ≡ Some e) where
    abbrev block : List ℕ
    block = seen pool.kept disk.reads e.pvbn

    block_is : blocks v ≡ Some block
    block_is = ap (λ (t : Bool). cond t (held_block y.map pool y.slot disk.reads v) None) member ∙ ap (block_of pool.kept disk.reads) held

    use_is : uses v ≡ Some (use_of (Some e))
    use_is = ap (λ (t : Bool). cond t (Some (use_of (held_entry y.map pool.containers y.slot v))) None) member ∙ ap (λ (o : Option Entry). Some (use_of o)) held

    kind_by : (kind : ℕ) (p : Pointer) → p.vvbn ≡ v → IsRight kind p (uses p.vvbn) → e.kind ≡ kind
    kind_by kind p vvbn right = subst (HasKind kind) use_is (right_kind kind p (uses v) (subst (λ (w : ℕ). IsRight kind p (uses w)) vvbn right))

    -- a block of the inode file
    inode_shape : (level index : ℕ) → (pointer_at x.inode level index).stamp ≢ 0 → (pointer_at x.inode level index).vvbn ≡ v → shape_in (form_of e.kind) block ≡ Ok tt
    inode_shape zero index some vvbn =
        inodes_shaped e.kind index block (kind_by (kind_for greatest_word 0) (pointer_at x.inode 0 index) vvbn (its.trees.inode.used 0 index some))
        (its.well.inodes index block (cell_stands x.inode index some refl ∙ ap blocks vvbn ∙ block_is))
    inode_shape (suc level) index some vvbn =
        let low : 1 ≤ suc level = omega arith in
        let high = within x.inode (suc level) index some in
        let few = root_few y.known blocks uses (slot_at y.map q.slot) y.now q.table its in
        let kind = kind_by (kind_for greatest_word (suc level)) (pointer_at x.inode (suc level) index) vvbn (its.trees.inode.used (suc level) index some) in
        node_shaped e.kind greatest_word (suc level) index (blocks v) block block_is (ap form_of kind ∙ inode_form (suc level) low (omega (arith, high, few)))
        ((its.well.trees None).positions (suc level) index v low (record { some = some; placed = refl; vvbn = vvbn }))

    -- a block of a file
    module _ (k : ℕ) (r : InodeRecord) (file : file_at x.inode k ≡ Some r) where
      file_shape : (level index : ℕ) → (pointer_at (stored blocks k r.levels r.root) level index).stamp ≢ 0 → (pointer_at (stored blocks k r.levels r.root) level index).vvbn ≡ v → shape_in (form_of e.kind) block ≡ Ok tt
      file_shape level index some vvbn = by level some vvbn (kind_by (kind_for k level) (pointer_at (stored blocks k r.levels r.root) level index) vvbn ((its.trees.files k r file).used level index some)
          ∙ file_kind y.known blocks uses (slot_at y.map q.slot) y.now q.table its k r file level)
        where
          by : (level : ℕ) → (pointer_at (stored blocks k r.levels r.root) level index).stamp ≢ 0 → (pointer_at (stored blocks k r.levels r.root) level index).vvbn ≡ v → e.kind ≡ 1 + level → shape_in (form_of e.kind) block ≡ Ok tt
          by zero some vvbn kind = ap (λ (n : ℕ). shape_in (form_of n) block) kind
          by (suc l) some vvbn kind =
              let low : 1 ≤ suc l = omega arith in
              let high = within (stored blocks k r.levels r.root) (suc l) index some in
              let few = file_few y.known blocks uses (slot_at y.map q.slot) y.now q.table its k r file in
              let said = subst (λ (o : Option InodeRecord). StoredIn y.known (option_map (λ r. unread (stored blocks k r.levels r.root)) o)) file (its.well.trees (Some k)) in
              node_shaped e.kind k (suc l) index (blocks v) block block_is (ap form_of kind ∙ file_form (suc l) low (omega (arith, high, few)))
              (said.positions (suc l) index v low (record { some = some; placed = refl; vvbn = vvbn }))

    shape_at : LeadsHere (stored_trees blocks q.table.levels q.table.root) v → shape_in (form_of e.kind) block ≡ Ok tt
    shape_at l = by l.owner l.some l.vvbn
      where
        by : (o : Option ℕ) → (pointer_in (stored_trees blocks q.table.levels q.table.root o) l.level l.index).stamp ≢ 0 → (pointer_in (stored_trees blocks q.table.levels q.table.root o) l.level l.index).vvbn ≡ v → shape_in (form_of e.kind) block ≡ Ok tt
        by None some vvbn = inode_shape l.level l.index some vvbn
        by (Some k) some vvbn = of_file (file_at x.inode k) refl some vvbn
          where
            of_file : (o : Option InodeRecord) → file_at x.inode k ≡ o → (pointer_in (option_map (λ r. unread (stored blocks k r.levels r.root)) o) l.level l.index).stamp ≢ 0
                → (pointer_in (option_map (λ r. unread (stored blocks k r.levels r.root)) o) l.level l.index).vvbn ≡ v → shape_in (form_of e.kind) block ≡ Ok tt
            of_file None at some vvbn = absurd (some refl)
            of_file (Some r) at some vvbn = file_shape k r at l.level l.index some vvbn

  -- So what is copied is whole.
  pub source_whole : IsWhole disk pool y.slot (source_bits y q.slot)
  source_whole = record {
    leaves = λ at want found bad. none_damaged disk.reads pool.containers at want found stands.told.2 bad;
    each = λ v is.
        let member : has v (slot_at y.map q.slot) ≡ true = sym (bits_has y.map.span (slot_at y.map q.slot) v) ∙ is in
        let e = entry_there disk pool y stands q there v member in
        record {
          entry = e.0;
          there = chain_there disk pool y stands q there v member;
          shape = shape_at v member e.0 e.1 (leads_there disk pool y stands q there v member);
        };
  }
