-- The active table of a volume that stands with nothing of it in memory: it lies whole in slot 0 of its maps.
use Rattle.std.proofs.Common.{◌≡◌, ℕ, Bool, true, false, cond, Option, Some, None, is_some, refl, sym, ap, subst, ◌∙◌, ⊎_elim}
use Rattle.std.specs.Cmp.{both_ways}
use Rattle.std.specs.List.{list_all}
use Rattle.std.specs.Option.{option_map}
use Rattle.std.proofs.lemmas.Bool.{cases_Bool}
use Rattle.fv_disk.specs.Shown.{Shown as Disk}
use Rattle.fv_bits.specs.Members.{is_member}
use Rattle.fv_codec.specs.declared.inode.InodeRecord.{InodeRecord}
use Rattle.fv_codec.specs.declared.pointer.Pointer.{Pointer}
use Rattle.fv_codec.specs.Blocks.{greatest_word}
use Rattle.fv_laws.specs.Positions.{HasNoReserve}
use Rattle.fv_laws.specs.WellFormed.{IsWellTable}
use Rattle.fv_laws.proofs.Lists.{In}
use Rattle.fv_tables.specs.Kept.{AgreeOnTable}
use Rattle.fv_tables.specs.Reached.{Item, items, is_listed}
use Rattle.fv_tables.specs.Spelled.{Rooted as Tree, Under, pointer_at, stored}
use Rattle.fv_tables.specs.Told.{Standing, file_at, standing_at, table_told}
use Rattle.fv_tables.proofs.Items.{from_trees, kept_items, listed_file, listed_inode}
use Rattle.fv_tables.proofs.Listed.{picked_all, picked_is}
use Rattle.fv_tables.proofs.Tables.{kept_table}
use Rattle.fv_tree.specs.Beside.{unread}
use Rattle.fv_tree.specs.Flushing.{IsRight}
use Rattle.fv_tree.specs.Sources.{Shown, Use}
use Rattle.fv_tree.specs.Standing.{under as blocks_of}
use Rattle.fv_files.specs.declared.files.Files.{Files}
use Rattle.fv_files.specs.Apart.{LeadsFrom, LeadsIn, stored_trees}
use Rattle.fv_files.specs.Tables.{AreReached}
use Rattle.fv_image.specs.Seen.{roots_of}
use Rattle.fv_image.specs.Views.{Rooted as Table}
use Rattle.fv_volmap.specs.Slots.{active_of, has, slot_at}
use Rattle.fv_pool.specs.declared.pool.Pool.{Pool}
use Rattle.fv_volume.specs.declared.state.VolumeState.{VolumeState}
use Rattle.fv_pool.specs.BlocksOver.{held_block}
use Rattle.fv_pool.specs.Tables.{standing_by, AreSoundBy, AreLedBy, AreStoredBy}
use Rattle.fv_volume.specs.OneVolume.{blocks_in, shows, uses_in, IsKeptTable, IsStanding, RootStands}
use Rattle.fv_volume.specs.Placing.{IsLedTo, IsStoredWell}
use Rattle.fv_volume.specs.States.{head_in, rooted_as}
use Rattle.fv_volume.proofs.TablesOf.{snaps_all}
use Rattle.fv_volume.proofs.EachRoot.{each_root}
use Rattle.fv_pool.proofs.OverBlocks.{over_reached, over_stored}
use Rattle.fv_volume.proofs.ActiveSlot.{active_has, active_uses}
use Rattle.fv_pool.proofs.Shows.{get_held, unused_member, used_member}

-- what a pointer leads to is in use
some_right : (kind : ℕ) (p : Pointer) (o : Option Use) → IsRight kind p o → is_some o ≡ true
some_right kind p None right = absurd right
some_right kind p (Some x) right = refl

-- ---- the active root

module _ (disk : Disk) (pool : Pool) (x : VolumeState) (is : IsStanding disk pool x) (none : x.files ≡ None) where
  abbrev shown : Shown
  shown = shows disk pool x

  abbrev blocks : Under
  blocks = blocks_in disk pool x 0

  -- its table over all blocks that the volume holds
  abbrev y : Standing
  y = standing_at (blocks_of shown) x.active.levels x.active.root

  abbrev inodes : Tree
  inodes = stored (blocks_of shown) greatest_word x.active.levels x.active.root

  reached : AreReached (blocks_of shown) shown.used x.active.levels x.active.root
  reached = subst (AreSoundBy (blocks_of shown) shown.used x.active) none is.trees

  member_at : (v kind : ℕ) (p : Pointer) → IsRight kind p (shown.used v) → is_member (active_of x.map) v ≡ true
  member_at v kind p right = used_member x.map pool.containers x.slot v (some_right kind p (shown.used v) right)

  -- what is in use lies in slot 0
  in_slot : (v : ℕ) → is_member (active_of x.map) v ≡ true → blocks v ≡ blocks_of shown v
  in_slot v member = ap (λ (t : Bool). cond t (held_block x.map pool x.slot disk.reads v) None) (active_has x.map v ∙ member) ∙ sym (get_held x.map pool x.slot disk.reads v)

  pub agrees : AgreeOnTable (blocks_of shown) blocks x.active.levels x.active.root
  agrees = record {
    inode = λ level place some. in_slot (pointer_at inodes level place).vvbn (member_at _ _ (pointer_at inodes level place) (reached.inode.used level place some));
    files = λ n r found level place some. in_slot (pointer_at (stored (blocks_of shown) n r.levels r.root) level place).vvbn (member_at _ _ (pointer_at (stored (blocks_of shown) n r.levels r.root) level place) ((reached.files n r found).used level place some));
  }

  -- Its trees stand on the blocks of its slot,
  pub active_reached : AreReached blocks (uses_in pool x 0) x.active.levels x.active.root
  active_reached = subst (λ (uses : ℕ → Option Use). AreReached blocks uses x.active.levels x.active.root) (sym (active_uses disk pool x)) (over_reached (blocks_of shown) blocks x.active.levels x.active.root agrees shown.used reached)

  all_members : list_all (λ (e : Item). is_member (active_of x.map) e.pointer.vvbn) (items y) ≡ true
  all_members = from_trees (λ (e : Item). is_member (active_of x.map) e.pointer.vvbn) y
      (λ level place some. member_at (pointer_at inodes level place).vvbn _ (pointer_at inodes level place) (reached.inode.used level place some))
      (λ n r found level place some. member_at (pointer_at (stored (blocks_of shown) n r.levels r.root) level place).vvbn _ (pointer_at (stored (blocks_of shown) n r.levels r.root) level place)
      ((reached.files n r found).used level place some))

  -- what isn't listed is led to from nowhere
  led_listed : (v : ℕ) (a : Option ℕ) → LeadsFrom (stored_trees (blocks_of shown) x.active.levels x.active.root) a v → is_listed (items y) v ≡ true
  led_listed v None leads = subst (λ n. is_listed (items y) n ≡ true) leads.leads.vvbn (listed_inode y leads.level leads.place leads.leads.some)
  led_listed v (Some n) leads = by (file_at inodes n) refl leads
    where
      by : (o : Option InodeRecord) → file_at inodes n ≡ o → LeadsIn (option_map (λ r. unread (stored (blocks_of shown) n r.levels r.root)) o) v → is_listed (items y) v ≡ true
      by None e leads = absurd leads
      by (Some r) e leads = subst (λ n. is_listed (items y) n ≡ true) leads.leads.vvbn (listed_file y n r e leads.level leads.place leads.leads.some)

  module _ (led : IsLedTo disk pool x) where
    to_listed : (v : ℕ) → is_member (active_of x.map) v ≡ true → is_listed (items y) v ≡ true
    to_listed v member = ⊎_elim
        (λ listed. listed)
        (λ isnt.
        let nobody : (a : Option ℕ) → LeadsFrom (stored_trees (blocks_of shown) x.active.levels x.active.root) a v → ⊥ = λ a leads. apart (is_listed (items y) v) (led_listed v a leads) isnt in
        absurd (apart (is_member (active_of x.map) v) member (unused_member x.map pool.containers x.slot v (subst (AreLedBy (blocks_of shown) shown.used x.active) none led v nobody))))
        (cases_Bool (is_listed (items y) v))
      where
        apart : (b : Bool) → b ≡ true → b ≡ false → ⊥
        apart b does isnt = let wrong : true ≡ false = sym does ∙ isnt in cc

    to_member : (v : ℕ) → is_listed (items y) v ≡ true → is_member (active_of x.map) v ≡ true
    to_member v listed = subst (λ n. is_member (active_of x.map) n ≡ true) (picked_is (items y) v listed) (picked_all (λ (e : Item). is_member (active_of x.map) e.pointer.vvbn) (items y) v listed all_members)

    -- and slot 0 has the numbers that its table reaches.
    pub active_reach : (v : ℕ) → has v (slot_at x.map 0) ≡ is_listed (items (standing_at blocks x.active.levels x.active.root)) v
    active_reach v =
        active_has x.map v
        ∙ both_ways (is_member (active_of x.map) v) (is_listed (items y) v) (to_listed v) (to_member v)
        ∙ sym (ap (λ es. is_listed es v) (kept_items (blocks_of shown) blocks x.active.levels x.active.root agrees))

    module _ (well : IsStoredWell disk pool x) where
      same_told : table_told (standing_at blocks x.active.levels x.active.root) ≡ table_told y
      same_told = kept_table (blocks_of shown) blocks x.active.levels x.active.root agrees

      pub active_stands : RootStands disk pool x 0 x.active
      active_stands = record {
        table = subst (IsWellTable x.now) (sym same_told) (subst (λ (o : Option Files). IsWellTable x.now (table_told (standing_by (blocks_of shown) x.active o))) none is.table);
        reserves = subst HasNoReserve (sym same_told) (subst (λ (o : Option Files). HasNoReserve (table_told (standing_by (blocks_of shown) x.active o))) none is.reserves);
        trees = active_reached;
        well = over_stored (blocks_of shown) blocks x.active.levels x.active.root agrees x.known (subst (AreStoredBy x.known (blocks_of shown) x.active) none well);
        reach = active_reach;
      }

      -- So the table of each root lies whole in its slot.
      pub roots_stand : (k : ℕ) (r : Table) → In {X = ℕ × Table} (k, r) (roots_of (head_in x)) → RootStands disk pool x k (rooted_as r)
      roots_stand = each_root x (RootStands disk pool x) active_stands (λ n q lt. (snaps_all (IsKeptTable disk pool x) x is.kept n q lt).1)
