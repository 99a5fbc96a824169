-- The tables of a volume with nothing of it in memory, each over the blocks of its slot: they stand on them, where the session's view keeps the
-- rules of soundness.
use Rattle.std.proofs.Common.{◌≡◌, ◌≢◌, ℕ, ◌<◌, ◌≤◌, Bool, true, cond, List, Option, Some, None, is_some, inl, inr, refl, sym, ap, subst, ◌∙◌, arith, length}
use Rattle.std.specs.Prelude.{◌⊎◌, ◌==◌, nat_le, IfSome}
use Rattle.std.specs.List.{list_all}
use Rattle.std.specs.Option.{option_map, option_map_or}
use Rattle.std.proofs.lemmas.Bool.Decides.{nat_tests}
use Rattle.fv_disk.specs.Shown.{Shown as Disk}
use Rattle.fv_codec.specs.declared.pointer.Pointer.{Pointer}
use Rattle.fv_codec.specs.declared.inode.InodeRecord.{InodeRecord}
use Rattle.fv_codec.specs.Blocks.{greatest_word}
use Rattle.fv_model.specs.Machines.{Machine}
use Rattle.fv_model.specs.Places.{Owner, InodeFile, OfFile}
use Rattle.fv_model.specs.Tables.{File}
use Rattle.fv_laws.specs.Positions.{HasNoReserve}
use Rattle.fv_laws.specs.WellFormed.{IsWellTable}
use Rattle.fv_laws.proofs.Lists.{In}
use Rattle.fv_tables.specs.Kept.{AgreeOnTable}
use Rattle.fv_tables.specs.Reached.{Item, is_listed, items}
use Rattle.fv_tables.specs.Spelled.{Under, Rooted as Tree, hole, stored, pointer_at}
use Rattle.fv_tables.specs.Told.{standing_at, file_at, file_in, file_told, records, table_told, tree_of}
use Rattle.fv_tables.proofs.Items.{agree_when_listed, kept_items}
use Rattle.fv_tables.proofs.TablePlaces.{pointer_in, number}
use Rattle.fv_tables.proofs.Tables.{files_told, kept_table}
use Rattle.fv_tree.specs.Sources.{Use}
use Rattle.fv_tree.specs.Flushing.{IsRight, ReachesOnce}
use Rattle.fv_image.specs.Chains.{place, under}
use Rattle.fv_image.specs.Held.{layout_at, view_at}
use Rattle.fv_image.specs.Seen.{Root, root_seen, roots_of, seen, volume_seen}
use Rattle.fv_image.specs.Soundness.{AreTables, AreMaps}
use Rattle.fv_image.specs.TableRules.{all_items, has_stamps_past}
use Rattle.fv_image.specs.Views.{Placed, Head, Rooted, View, volume_bit}
use Rattle.fv_image.specs.Volumes.{standing_of, table_at}
use Rattle.fv_image.specs.WholeMachine.{Tells, has_no_reserves}
use Rattle.fv_image.proofs.LoneTables.{built_reserves, kind_led, IsLedEntry}
use Rattle.fv_image.proofs.OwnUses.{HasLabelNumbers}
use Rattle.fv_image.proofs.RootTables.{led_below, led_entry, root_bit, root_led, root_led_once, root_reach}
use Rattle.fv_image.proofs.SameSeen.{of_volume}
use Rattle.fv_image.proofs.WellLabels.{entries_whole, numbers_at}
use Rattle.fv_image.proofs.WellRoots.{HasWholeBlocks, all_one, of_records, well_root}
use Rattle.fv_root.specs.Finding.{root_found}
use Rattle.fv_container.specs.declared.entry.Entry.{Entry}
use Rattle.fv_container.specs.Chains.{chain_entry, parent_at, slot_count}
use Rattle.fv_volmap.specs.Slots.{has, slot_at}
use Rattle.fv_pool.specs.declared.pool.Pool.{Pool}
use Rattle.fv_pool.specs.Opening.{IsAsFound}
use Rattle.fv_volume.specs.declared.state.VolumeState.{VolumeState}
use Rattle.fv_pool.specs.BlocksOver.{block_of, held_block, held_entry}
use Rattle.fv_volume.specs.Files.{HasOwnSlots, IsLabelled}
use Rattle.fv_pool.specs.Lending.{use_of}
use Rattle.fv_volume.specs.Loading.{HaveBits, KeptTo, LoadedTo}
use Rattle.fv_volume.specs.OneVolume.{blocks_in, uses_in}
use Rattle.fv_volume.specs.States.{States, head_in, parent_in, placed_in, state_at, view_over}
use Rattle.fv_pool.proofs.Holding.{has_taken, held_some}
use Rattle.fv_volumes.proofs.Chains.{place_view}
use Rattle.fv_volume.proofs.EachRoot.{root_there}
use Rattle.fv_volume.proofs.KeptSlots.{root_bits, root_few}
use Rattle.fv_volume.proofs.SharedRoots.{roots_among}
use Rattle.fv_volumes.specs.Housed.{ReachesAll}
use Rattle.fv_pool.proofs.OverBlocks.{same_place}
use Rattle.fv_volumes.proofs.Chains.{place_view}
use Rattle.fv_volumes.proofs.Told.{head_there, is_inside}
use Rattle.fv_volumes.proofs.Viewed.{viewed}

-- ---- a volume of a session

-- What is known of a volume in its slot: nothing of it is in memory, the session's view is sound, its maps have the bits of that view, and
-- the containers have in their chain the parents that the volumes stand on.
pub record StandsInView (disk : Disk) (pool : Pool) (states : States) (x : VolumeState) : Type 0 where
  pub small : x.slot < 64
  pub there : state_at states x.slot ≡ Some x
  pub parents : (s : ℕ) → parent_at pool.containers s ≡ parent_in (state_at states s)
  pub span : x.span ≤ 1048576
  pub numbers : HasLabelNumbers (head_in x)
  pub slots : HasOwnSlots x
  pub tables : AreTables (seen (view_over pool states disk.reads))
  pub maps : AreMaps (view_over pool states disk.reads)
  pub reserves : has_no_reserves (seen (view_over pool states disk.reads)) ≡ true
  pub whole : HasWholeBlocks (view_over pool states disk.reads)
  pub bits : HaveBits (view_over pool states disk.reads) x.slot x.span x.map

module _ (disk : Disk) (pool : Pool) (states : States) (x : VolumeState) (is : StandsInView disk pool states x) where
  abbrev w : View
  w = view_over pool states disk.reads

  abbrev s : ℕ
  s = x.slot

  abbrev h : Head
  h = head_in x

  pub here : w.head s ≡ Some h
  here = head_there pool states disk.reads s x is.there

  -- each VVBN of its span is found at the first entry along its chain
  pub place_is : (v : ℕ) → v < x.span → place w s v ≡ placed_in pool.kept disk.reads (chain_entry pool.containers s v)
  place_is v low = place_view pool states disk.reads is.parents s x is.there v low

  -- ---- one of its roots

  module _ (k : ℕ) (r : Rooted) (one : In {X = ℕ × Rooted} (k, r) (roots_of h)) where
    -- the blocks of its slot, and what is in use there
    abbrev pub blocks : Under
    blocks = blocks_in disk pool x k

    abbrev pub uses : ℕ → Option Use
    uses = uses_in pool x k

    -- the pointers of its table in the view
    abbrev pub at : Owner → ℕ → ℕ → Pointer
    at o level index = pointer_in (under w s) r.levels r.root o level index

    pub few : r.levels ≤ 2
    few = root_few h is.numbers k r one

    member_is : (v : ℕ) → has v (slot_at x.map k) ≡ volume_bit w s x.span k v
    member_is = root_bits w s h x.map is.slots.0 is.slots.1 is.bits k r one

    -- a VVBN of its slot, below the span, leads to the first entry along its chain
    module _ (v : ℕ) (low : v < x.span) (member : has v (slot_at x.map k) ≡ true) where
      held_is : held_entry x.map pool.containers s v ≡ chain_entry pool.containers s v
      held_is = held_some x.map pool.containers s v (let most = is.span in omega (arith, low, most)) (has_taken x.map.slots k v member)

      pub same_block : blocks v ≡ under w s v
      unfolding under
      same_block =
          ap (λ (t : Bool). cond t (held_block x.map pool s disk.reads v) None) member
          ∙ ap (block_of pool.kept disk.reads) held_is
          ∙ so (chain_entry pool.containers s v)
          ∙ sym (ap (option_map (λ (p : Placed). p.block)) (place_is v low))
        where
          so : (o : Option Entry) → block_of pool.kept disk.reads o ≡ option_map (λ (p : Placed). p.block) (placed_in pool.kept disk.reads o)
          so None = refl
          so (Some e) = refl

      use_is : uses v ≡ Some (use_of (chain_entry pool.containers s v))
      use_is = (λ j. cond (member j) (Some (use_of (held_is j))) None)

    pub member_at : (o : Owner) (level index : ℕ) → (at o level index).stamp ≢ 0 → has (at o level index).vvbn (slot_at x.map k) ≡ true
    member_at o level index some = member_is (at o level index).vvbn ∙ root_bit w s h is.small here is.tables k r one few is.maps o level index some

    pub low_at : (o : Owner) (level index : ℕ) → (at o level index).stamp ≢ 0 → (at o level index).vvbn < x.span
    low_at = led_below w s h is.small here is.tables k r one

    pub agree : AgreeOnTable (under w s) blocks r.levels r.root
    agree = agree_when_listed (under w s) blocks r.levels r.root (λ v listed. same v (root_reach w s h is.small here is.tables k r one few is.maps v ∙ listed))
      where
        same : (v : ℕ) → volume_bit w s h.span k v ≡ true → blocks v ≡ under w s v
        same v bit =
            let led = root_led w s h is.small here is.tables k r one few is.maps v bit in
            same_block v (subst (λ (n : ℕ). n < x.span) led.vvbn (low_at led.owner led.level led.index led.some)) (member_is v ∙ bit)

    -- Its table is told by the blocks of its slot as by the view,
    pub stands_told : table_told (standing_at blocks r.levels r.root) ≡ table_at w s r
    stands_told = kept_table (under w s) blocks r.levels r.root agree

    stamps : list_all (λ (e : Item). nat_le e.pointer.stamp x.now) (items (standing_of w s r)) ≡ true
    unfolding has_stamps_past volume_seen
    stamps = roots_among w s h k r one (λ (e : Item). nat_le e.pointer.stamp x.now) (of_volume w (λ s y. list_all (λ (e : Item). nat_le e.pointer.stamp y.head.now) (all_items y)) s h is.tables.stamps is.small here)

    -- which is well-formed
    pub stands_well : IsWellTable x.now (table_told (standing_at blocks r.levels r.root))
    stands_well = subst (IsWellTable x.now) (sym stands_told) (well_root w is.tables is.whole s h is.small here (k, r) one x.now stamps few)

    -- and has no reserve.
    no_reserves : list_all (λ (f : ℕ × InodeRecord). f.1.reserve == 0) (records (standing_of w s r)) ≡ true
    unfolding has_no_reserves volume_seen root_seen
    no_reserves = all_one (λ (t : Root). list_all (λ (f : ℕ × InodeRecord). f.1.reserve == 0) t.files) (λ (p : ℕ × Rooted). root_seen w s p.0 p.1) (roots_of h) (k, r)
        (of_volume w (λ s v. list_all (λ r. list_all (λ (f : ℕ × InodeRecord). f.1.reserve == 0) r.files) v.roots) s h is.reserves is.small here) one

    pub stands_reserves : HasNoReserve (table_told (standing_at blocks r.levels r.root))
    unfolding file_in file_told
    stands_reserves = subst HasNoReserve (sym stands_told) (λ n f at_name. so n f (file_at (standing_of w s r).inode n) refl (sym (files_told (standing_of w s r) n) ∙ at_name))
      where
        so : (n : ℕ) (f : File) (o : Option InodeRecord) → file_at (standing_of w s r).inode n ≡ o → option_map (λ q. file_told (tree_of (standing_of w s r) n q) q) o ≡ Some f → f.reserve ≡ 0
        so n f None e told = absurd cc
        so n f (Some q) e told =
            let test : (q.reserve == 0) ≡ true = of_records (standing_of w s r) (λ f. f.1.reserve == 0) no_reserves n q e in
            let none : q.reserve ≡ 0 = grind (arith, nat_tests, test) in
            sym (reserved told) ∙ none
          where
            reserved : Some (file_told (tree_of (standing_of w s r) n q) q) ≡ Some f → q.reserve ≡ f.reserve
            reserved e = let same : file_told (tree_of (standing_of w s r) n q) q ≡ f = cc in ap (λ (f : File). f.reserve) same

    -- Its slot has the numbers that it reaches there.
    pub stands_reach : (v : ℕ) → has v (slot_at x.map k) ≡ is_listed (items (standing_at blocks r.levels r.root)) v
    stands_reach v =
        member_is v ∙ root_reach w s h is.small here is.tables k r one few is.maps v
        ∙ sym (ap (λ (es : List Item). is_listed es v) (kept_items (under w s) blocks r.levels r.root agree))

    -- ---- its places

    abbrev pub led : Owner → ℕ → ℕ → Pointer
    led o level index = pointer_in blocks r.levels r.root o level index

    pub led_is : (o : Owner) (level index : ℕ) → led o level index ≡ at o level index
    led_is o level index = same_place (under w s) blocks r.levels r.root agree o level index

    pub some_at : (o : Owner) (level index : ℕ) → (led o level index).stamp ≢ 0 → (at o level index).stamp ≢ 0
    some_at o level index some = subst (λ (p : Pointer). p.stamp ≢ 0) (led_is o level index) some

    -- One VVBN is led to from one place of one tree.
    pub stands_once : (o q : Owner) (level index l j : ℕ) → (led o level index).stamp ≢ 0 → (led q l j).stamp ≢ 0 → (led q l j).vvbn ≡ (led o level index).vvbn → (q ≡ o) × ((l ≡ level) × (j ≡ index))
    stands_once o q level index l j first second same = root_led_once w s h is.small here is.tables k r one few o q level index l j (some_at o level index first) (some_at q l j second)
        (ap (λ (p : Pointer). p.vvbn) (sym (led_is q l j)) ∙ same ∙ ap (λ (p : Pointer). p.vvbn) (led_is o level index))

    -- a place that leads to a VVBN
    pub record LeadsAt (v : ℕ) : Type 0 where
      pub owner : Owner
      pub level : ℕ
      pub index : ℕ
      pub some : (led owner level index).stamp ≢ 0
      pub vvbn : (led owner level index).vvbn ≡ v

    -- Each VVBN of its slot is led to.
    pub stands_led : (v : ℕ) → has v (slot_at x.map k) ≡ true → LeadsAt v
    stands_led v member =
        let at_place = root_led w s h is.small here is.tables k r one few is.maps v (sym (member_is v) ∙ member) in
        record {
          owner = at_place.owner;
          level = at_place.level;
          index = at_place.index;
          some = subst (λ (p : Pointer). p.stamp ≢ 0) (sym (led_is at_place.owner at_place.level at_place.index)) at_place.some;
          vvbn = ap (λ (p : Pointer). p.vvbn) (led_is at_place.owner at_place.level at_place.index) ∙ at_place.vvbn;
        }

    -- what is held and in use under a place
    record IsUsed (kind : ℕ) (p : Pointer) : Type 0 where
      held : is_some (blocks p.vvbn) ≡ true
      used : IsRight kind p (uses p.vvbn)

    used_at : (o : Owner) (level index : ℕ) → (at o level index).stamp ≢ 0 → IsUsed (kind_led (number (under w s) r.levels r.root o) level) (at o level index)
    used_at o level index some =
        let entry = led_entry w s h is.small here is.tables k r one o level index some in
        let low = low_at o level index some in
        let member = member_at o level index some in
        by (at o level index) entry.0 (chain_entry pool.containers s (at o level index).vvbn)
        (sym (place_is (at o level index).vvbn low) ∙ entry.1.0) entry.1.1
        (ap (λ (t : Bool). cond t (held_block x.map pool s disk.reads (at o level index).vvbn) None) member ∙ ap (block_of pool.kept disk.reads) (held_is (at o level index).vvbn low member))
        (use_is (at o level index).vvbn low member)
      where
        by : {kind : ℕ} (p : Pointer) (e : Placed) (o : Option Entry) → placed_in pool.kept disk.reads o ≡ Some e → IsLedEntry kind p e → blocks p.vvbn ≡ block_of pool.kept disk.reads o → uses p.vvbn ≡ Some (use_of o) → IsUsed kind p
        by p e None is led block usage = absurd cc
        by {kind} p e (Some x) is led block usage =
            let pvbn : e.pvbn ≡ x.pvbn = placed_pvbn x e is in
            let sort : e.kind ≡ x.kind = placed_kind x e is in
            record {
              held = ap is_some block;
              used = subst (IsRight kind p) (sym usage) (hinted led.hint pvbn, sym sort ∙ led.kind_is);
            }
          where
            placed_pvbn : (x : Entry) (e : Placed) → placed_in pool.kept disk.reads (Some x) ≡ Some e → e.pvbn ≡ x.pvbn
            placed_pvbn x e is = cc

            placed_kind : (x : Entry) (e : Placed) → placed_in pool.kept disk.reads (Some x) ≡ Some e → e.kind ≡ x.kind
            placed_kind x e is = cc

            hinted : (p.pvbn ≡ 0) ⊎ (p.pvbn ≡ e.pvbn) → e.pvbn ≡ x.pvbn → (p.pvbn ≡ 0) ⊎ (p.pvbn ≡ x.pvbn)
            hinted (inl none) same = inl none
            hinted (inr told) same = inr (told ∙ same)

    reaches : (o : Owner) (t : Tree) → ((level index : ℕ) → led o level index ≡ pointer_at t level index) → t.under ≡ blocks → number (under w s) r.levels r.root o ≡ t.owner → ReachesOnce uses t
    reaches o t same over owner = record {
      once = λ level index l j first second alike.
          let one = stands_once o o level index l j (some level index first) (some l j second) (ap (λ (p : Pointer). p.vvbn) (same l j) ∙ sym alike ∙ sym (ap (λ (p : Pointer). p.vvbn) (same level index))) in
          (sym one.1.0, sym one.1.1);
      held = λ level index here. ap (λ (u : Under). is_some (u (pointer_at t level index).vvbn)) over ∙ subst (λ (p : Pointer). is_some (blocks p.vvbn) ≡ true) (here_is level index) (used_at o level index (some_at o level index (some level index here))).held;
      used = λ level index here.
          let at_place = (used_at o level index (some_at o level index (some level index here))).used in
          subst (λ (n : ℕ). IsRight (kind_led n level) (pointer_at t level index) (uses (pointer_at t level index).vvbn)) owner
          (subst (λ (p : Pointer). IsRight (kind_led (number (under w s) r.levels r.root o) level) p (uses p.vvbn)) (here_is level index) at_place);
    }
      where
        some : (level index : ℕ) → (pointer_at t level index).stamp ≢ 0 → (led o level index).stamp ≢ 0
        some level index here = subst (λ (p : Pointer). p.stamp ≢ 0) (sym (same level index)) here

        here_is : (level index : ℕ) → at o level index ≡ pointer_at t level index
        here_is level index = sym (led_is o level index) ∙ same level index

    -- The inode file stands on its blocks,
    pub stands_inode : ReachesOnce uses (stored blocks greatest_word r.levels r.root)
    stands_inode = reaches InodeFile (stored blocks greatest_word r.levels r.root) (λ level index. refl) refl refl

    -- and so does each file.
    pub stands_file : (n : ℕ) (f : InodeRecord) → file_at (stored blocks greatest_word r.levels r.root) n ≡ Some f → ReachesOnce uses (stored blocks n f.levels f.root)
    stands_file n f found = reaches (OfFile n) (stored blocks n f.levels f.root)
        (λ level index. ap (λ (o : Option InodeRecord). option_map_or (λ (f : InodeRecord). pointer_at (stored blocks n f.levels f.root) level index) o hole) found) refl refl

  -- So each slot that has a root has what that reaches in the view.
  pub stands_reaches : ReachesAll w s x
  stands_reaches k r at v =
      let one = root_there h k r at in
      member_is k r one v ∙ root_reach w s h is.small here is.tables k r one (few k r one) is.maps v

-- ---- what a sound image tells

-- a volume that stands as its label says, over an image that stands for a machine
pub in_view : (disk : Disk) (pool : Pool) (states : States) → length states ≡ 64 → length pool.containers.containers ≡ 64 → ((s : ℕ) → parent_at pool.containers s ≡ parent_in (state_at states s))
    → LoadedTo disk.reads pool.found slot_count states pool.containers → IsAsFound pool → (m : Machine) → Tells (layout_at (root_found pool.found) disk.reads) m → ((b : ℕ) → length (disk.reads b) ≡ 4096)
    → (x : VolumeState) → state_at states x.slot ≡ Some x → IsLabelled x.slot x → StandsInView disk pool states x
unfolding layout_at
in_view disk pool states long few parents loaded none m is whole x there labelled =
    let small : x.slot < 64 = is_inside states x.slot x long there in
    let alike : view_over pool states disk.reads ≡ view_at (root_found pool.found) disk.reads = viewed pool disk.reads states long few loaded none in
    record {
      small = small;
      there = there;
      parents = parents;
      span = labelled.span;
      numbers = numbers_at (root_found pool.found) disk.reads whole x.slot (head_in x) (ap (λ (v : View). v.head x.slot) (sym alike) ∙ head_there pool states disk.reads x.slot x there);
      slots = (labelled.slots, labelled.snapshots.slots);
      tables = subst (λ (v : View). AreTables (seen v)) (sym alike) is.sound.tables;
      maps = subst AreMaps (sym alike) is.sound.maps;
      reserves = subst (λ (v : View). has_no_reserves (seen v) ≡ true) (sym alike) (built_reserves (view_at (root_found pool.found) disk.reads) is.built);
      whole = subst HasWholeBlocks (sym alike) (entries_whole (root_found pool.found) disk.reads whole);
      bits = subst (λ (v : View). HaveBits v at_slot x.span x.map) (sym alike) (subst (λ (o : Option VolumeState). IfSome o (λ x. HaveBits (view_at (root_found pool.found) disk.reads) at_slot x.span x.map)) there (loaded.each x.slot small).bits);
    }
  where
    at_slot : ℕ
    at_slot = x.slot

-- ---- what was loaded

-- Over an image that stands for a machine, so it is with each volume that was loaded.
pub loaded_stands : (disk : Disk) (pool : Pool) (states : States) → KeptTo slot_count states pool.containers → LoadedTo disk.reads pool.found slot_count states pool.containers → IsAsFound pool → (m : Machine)
    → Tells (layout_at (root_found pool.found) disk.reads) m → ((b : ℕ) → length (disk.reads b) ≡ 4096) → (x : VolumeState) → state_at states x.slot ≡ Some x → StandsInView disk pool states x
loaded_stands disk pool states kept loaded none m is whole x there = in_view disk pool states kept.long kept.few kept.parents loaded none m is whole x there (subst (λ (o : Option VolumeState). IfSome o (IsLabelled x.slot)) there (kept.each x.slot))
