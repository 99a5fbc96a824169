-- What is told of a volume's tables: the pointers of the one that is asked, the active one or that of a snapshot, tell no wrong places, and its
-- trees may be read by them alone. So where the volume stands no load for it answers damage.
use Rattle.std.proofs.Common.{◌≡◌, ℕ, zero, suc, Bool, true, false, cond, List, Option, Some, None, refl, sym, ap, subst, ◌∙◌, inl, inr, arith}
use Rattle.std.specs.Prelude.{unwrap_or, IfSome}
use Rattle.std.specs.Option.{option_map}
use Rattle.fv_disk.specs.Shown.{Shown as Disk}
use Rattle.fv_disk.specs.declared.fault.BlockFault.TheVariants as block
use Rattle.fv_bits.specs.Members.{is_member}
use Rattle.fv_codec.specs.declared.inode.InodeRecord.{InodeRecord}
use Rattle.fv_codec.specs.declared.pointer.Pointer.{Pointer}
use Rattle.fv_codec.specs.Blocks.{greatest_word}
use Rattle.fv_container.specs.Chains.{Slots}
use Rattle.fv_container.specs.declared.entry.Entry.{Entry}
use Rattle.fv_tables.specs.Spelled.{Rooted as Spelled, Under, pointer_at, stored}
use Rattle.fv_tables.specs.Told.{Standing, file_at, table_told}
use Rattle.fv_tree.specs.Beside.{unread}
use Rattle.fv_tree.specs.Flushing.{Loaded, loaded_over, ReachesOnce}
use Rattle.fv_tree.specs.Places.{AreRight, MayRead}
use Rattle.fv_tree.specs.Sources.{Use}
use Rattle.fv_tree.specs.Standing.{under}
use Rattle.fv_tree.proofs.Beside.{unread_sound}
use Rattle.fv_tree.proofs.Right.{bare_may_read, sound_may_read, sound_right}
use Rattle.fv_files.specs.declared.files.Files.{Files}
use Rattle.fv_files.specs.Apart.{stored_trees, AlikeIn, AreAlike}
use Rattle.fv_files.specs.Right.{ReadableIn, RightIn}
use Rattle.fv_files.specs.Numbering.{AreNumbersIf}
use Rattle.fv_files.specs.Tables.{loaded_trees}
use Rattle.fv_files.proofs.Right.{right_in, stands_readable}
use Rattle.fv_volmap.specs.Slots.{active_of, has, slot_at}
use Rattle.fv_pool.specs.declared.pool.Pool.{Pool}
use Rattle.fv_pool.specs.declared.rooted.Rooted.{Rooted}
use Rattle.fv_pool.specs.BlocksOver.{held_entry, IsRightPlace}
use Rattle.fv_pool.specs.Calls.{Reads, TableFails, TellsReadable, TellsTable}
use Rattle.fv_pool.specs.Lending.{lent_for, use_of}
use Rattle.fv_pool.specs.Tables.{trees_by, AreSoundBy}
use Rattle.fv_volume.specs.declared.state.VolumeState.{VolumeState}
use Rattle.fv_volume.specs.declared.tables.TableAsked.{TableAsked}
use Rattle.fv_volume.specs.declared.tables.TableAsked.TheVariants.{Active, Kept}
use Rattle.fv_volume.specs.Asking.{numbers_asked, standing_of, standing_read, table_named, trees_of, trees_opened, IsTableOf, OpensAs, ReadsAsked, TellsActive, TellsAsked, TellsBy}
use Rattle.fv_volume.specs.OneVolume.{home_in, shows, standing_for, IsStanding}
use Rattle.fv_volume.specs.Placing.{IsStoredWell}
use Rattle.fv_volume.proofs.KeptReads.{kept, read_holds, root_holds, still_of}
use Rattle.fv_volume.proofs.OneVolumes.{still_told, still_under, told_there}
use Rattle.fv_volume.proofs.Undamaged.{active_holds, none_damaged, HoldsWell}

-- ---- one VVBN

entry_right : (e : Option Entry) → IsRightPlace e (use_of e).pvbn
entry_right None = inl refl
entry_right (Some e) = inr refl

same_use : (u x : Use) → Some u ≡ Some x → u ≡ x
same_use u x same = cc

-- a VVBN in use has the place of its entry
taken_right : (b : Bool) (e : Option Entry) (x : Use) → cond b (Some (use_of e)) None ≡ Some x → IsRightPlace e x.pvbn
taken_right true e x is = subst (λ (u : Use). IsRightPlace e u.pvbn) (same_use (use_of e) x is) (entry_right e)
taken_right false e x is = absurd cc

module _ (d : Disk) (p : Pool) (x : VolumeState) where
  abbrev right : ℕ → ℕ → Type 0
  right v pvbn = IsRightPlace (held_entry x.map p.containers x.slot v) pvbn

  abbrev whole : Under
  whole = under (shows d p x)

  unknown : (v : ℕ) → right v 0
  unknown v = inl refl

  -- some VVBNs are in use, each as its entry says
  used : (in_use : ℕ → Bool) (v : ℕ) (u : Use) → cond (in_use v) (Some (use_of (held_entry x.map p.containers x.slot v))) None ≡ Some u → right v u.pvbn
  used in_use v u is = taken_right (in_use v) (held_entry x.map p.containers x.slot v) u is

  -- ---- the active table

  unread_readable : (t : Spelled) → ((level place : ℕ) → t.nodes level place ≡ None) → ((index : ℕ) → t.cells index ≡ None) → ReachesOnce (shows d p x).used t → MayRead right (unread t)
  unread_readable t nodes cells reached = sound_may_read right (shows d p x).used (unread t) unknown (used (λ v. is_member (active_of x.map) v)) (unread_sound (shows d p x).used t nodes cells reached)

  -- the tree of a file of which nothing is in memory
  file_readable : (n : ℕ) (q : Option InodeRecord) → ((r : InodeRecord) → q ≡ Some r → MayRead right (unread (stored whole n r.levels r.root))) → ReadableIn right (option_map (λ r. unread (stored whole n r.levels r.root)) q)
  file_readable n None are = tt
  file_readable n (Some r) are = are r refl

  active_readable : (o : Option Files) → AreSoundBy whole (shows d p x).used x.active o → (a : Option ℕ) → ReadableIn right (trees_by whole x.active o a)
  active_readable None sound None = unread_readable (stored whole greatest_word x.active.levels x.active.root) (λ level place. refl) (λ index. refl) sound.inode
  active_readable None sound (Some n) =
      file_readable n (file_at (stored whole greatest_word x.active.levels x.active.root) n)
      (λ r there. unread_readable (stored whole n r.levels r.root) (λ level place. refl) (λ index. refl) (sound.files n r there))
  active_readable (Some f) sound a = stands_readable right (shows d p x).used unknown (used (λ v. is_member (active_of x.map) v)) (loaded_trees whole f a) (sound.trees a)

  -- ---- the table of a snapshot

  -- a tree of which nothing is in memory
  module _ (in_use : ℕ → Bool) (t : Spelled) (holds : HoldsWell x.known whole (λ v. cond (in_use v) (Some (use_of (held_entry x.map p.containers x.slot v))) None) t)
      (nodes : (level place : ℕ) → t.nodes level place ≡ None) (cells : (index : ℕ) → t.cells index ≡ None) where
    placed : (level place : ℕ) → holds.loaded.placed level place ≡ true
    placed zero place = holds.laid.cells place (ap (λ (s : Spelled). s.cells place) holds.tree ∙ cells place)
    placed (suc level) place = holds.laid.nodes (suc level) place (omega arith) (ap (λ (s : Spelled). s.nodes (suc level) place) holds.tree ∙ nodes (suc level) place)

    holds_readable : MayRead right (unread t)
    holds_readable = bare_may_read right (unread t) nodes cells
        (λ level place v led. subst (λ (s : Spelled). right v (pointer_at s level place).pvbn) holds.tree
        (sound_right right (λ w. cond (in_use w) (Some (use_of (held_entry x.map p.containers x.slot w))) None) holds.loaded unknown (used in_use) holds.sound level place v (record {
          some = λ none. led.some (ap (λ (s : Spelled). (pointer_at s level place).stamp) (sym holds.tree) ∙ none);
          placed = placed level place;
          vvbn = ap (λ (s : Spelled). (pointer_at s level place).vvbn) holds.tree ∙ led.vvbn;
        })))

  module _ (is : IsStanding d p x) where
    kept_readable : (root : Rooted) (of : IsTableOf x (Kept root)) (a : Option ℕ) → ReadableIn right (stored_trees whole root.levels root.root a)
    kept_readable root of None =
        holds_readable (λ v. has v (slot_at x.map (kept d p x is root of).snap.slot)) (stored whole greatest_word root.levels root.root) (root_holds d p x is root of).inode (λ level place. refl) (λ index. refl)
    kept_readable root of (Some n) =
        file_readable n (file_at (stored whole greatest_word root.levels root.root) n)
        (λ r there. holds_readable (λ v. has v (slot_at x.map (kept d p x is root of).snap.slot)) (stored whole n r.levels r.root) ((root_holds d p x is root of).files n r there) (λ level place. refl) (λ index. refl))

    -- ---- the table that is asked

    asked_readable : (t : TableAsked) → IsTableOf x t → (a : Option ℕ) → ReadableIn right (trees_of d p x t a)
    asked_readable Active of = active_readable x.files is.trees
    asked_readable (Kept root) of = kept_readable root of

    -- what is told of it
    pub asked_tells : (t : TableAsked) → IsTableOf x t → TellsAsked d p x t
    asked_tells Active of = record { told = is.told; right = λ a. right_in right (trees_of d p x Active a) (asked_readable Active of a); numbers = is.numbers }
    asked_tells (Kept root) of = record { told = is.told; right = λ a. right_in right (trees_of d p x (Kept root) a) (asked_readable (Kept root) of a); numbers = tt }

    -- and where a block of a file is read in it
    pub asked_reads : (t : TableAsked) → IsTableOf x t → ReadsAsked d p x t
    asked_reads t of = record { tells = asked_tells t of; readable = asked_readable t of }

    -- what is told of it, for each command
    asked_by : (reads : Bool) (t : TableAsked) → IsTableOf x t → TellsBy reads d p x t
    asked_by true t of = asked_reads t of
    asked_by false t of = asked_tells t of

    pub active_tells : TellsActive d p x
    active_tells = asked_tells Active (None, refl)

    pub read_tells : (reads : Bool) (s : Option (List ℕ)) → TellsBy reads d p x (unwrap_or (table_named x s) Active)
    read_tells reads s = by (table_named x s) refl
      where
        by : (o : Option TableAsked) → table_named x s ≡ o → TellsBy reads d p x (unwrap_or o Active)
        by None named = asked_by reads Active (None, refl)
        by (Some t) named = asked_by reads t (s, named)

  -- ---- once it is taken out

  -- a tree of which nothing is in memory has the pointers of another
  like_right : (s : Loaded) (t : Spelled) → s.tree ≡ t → ((level place : ℕ) → t.nodes level place ≡ None) → ((index : ℕ) → t.cells index ≡ None) → AreRight right (unread t) → AreRight right s
  like_right s t is nodes cells are level place v led =
      subst (λ (u : Spelled). right v (pointer_at u level place).pvbn) (sym is) (are level place v (record {
        some = λ none. led.some (ap (λ (u : Spelled). (pointer_at u level place).stamp) is ∙ none);
        placed = refl;
        vvbn = ap (λ (u : Spelled). (pointer_at u level place).vvbn) (sym is) ∙ led.vvbn;
      }))

  like_readable : (s : Loaded) (t : Spelled) → s.tree ≡ t → ((level place : ℕ) → t.nodes level place ≡ None) → ((index : ℕ) → t.cells index ≡ None) → MayRead right (unread t) → MayRead right s
  like_readable s t is nodes cells may = bare_may_read right s (λ level place. ap (λ (u : Spelled). u.nodes level place) is ∙ nodes level place) (λ index. ap (λ (u : Spelled). u.cells index) is ∙ cells index)
      (like_right s t is nodes cells may.pointers)

  -- What is so of each tree of the table that is asked is so of each tree of the one that was taken out.
  module _ (In : Option Loaded → Type 0) (none : In None)
      (like_unread : (s : Loaded) (t : Spelled) → s.tree ≡ t → ((level place : ℕ) → t.nodes level place ≡ None) → ((index : ℕ) → t.cells index ≡ None) → In (Some (unread t)) → In (Some s)) where
    like_file : (n : ℕ) (q : Option InodeRecord) (o : Option Loaded) → In (option_map (λ r. unread (stored whole n r.levels r.root)) q) → AlikeIn o (option_map (λ r. unread (stored whole n r.levels r.root)) q) → In o
    like_file n q None are like = none
    like_file n None (Some s) are like = absurd like
    like_file n (Some r) (Some s) are like = like_unread s (stored whole n r.levels r.root) like.tree (λ level place. refl) (λ index. refl) are

    -- a table of which nothing is in memory
    opened_unread : (levels : ℕ) (root : Pointer) (f : Files) → ((blocks : Under) → AreAlike (loaded_trees blocks f) (stored_trees blocks levels root)) → ((a : Option ℕ) → In (stored_trees whole levels root a))
        → (a : Option ℕ) → In (loaded_trees whole f a)
    opened_unread levels root f alike are None = like_unread (loaded_over whole f.inode.tree) (stored whole greatest_word levels root) (alike whole None).tree (λ level place. refl) (λ index. refl) (are None)
    opened_unread levels root f alike are (Some n) = like_file n (file_at (stored whole greatest_word levels root) n) (loaded_trees whole f (Some n)) (are (Some n)) (alike whole (Some n))

    opened_active : (o : Option Files) (f : Files) → IfSome o (λ g. f ≡ g) → ((blocks : Under) → AreAlike (loaded_trees blocks f) (trees_by blocks x.active o)) → ((a : Option ℕ) → In (trees_by whole x.active o a))
        → (a : Option ℕ) → In (loaded_trees whole f a)
    opened_active None f held alike are = opened_unread x.active.levels x.active.root f alike are
    opened_active (Some g) f held alike are = λ a. subst (λ (h : Files). In (loaded_trees whole h a)) (sym held) (are a)

    opened_in : (t : TableAsked) (f : Files) → OpensAs x.active x.files f t → ((a : Option ℕ) → In (trees_of d p x t a)) → (a : Option ℕ) → In (loaded_trees whole f a)
    opened_in Active f opens are = opened_active x.files f opens.0 opens.1 are
    opened_in (Kept root) f opens are = opened_unread root.levels root.root f opens are

  -- so it is told as a table whose blocks are lent
  pub opened_tells : (t : TableAsked) (f : Files) → OpensAs x.active x.files f t → TellsAsked d p x t → TellsTable d p x.map (home_in x) f
  opened_tells t f opens tells = (tells.told, opened_in (RightIn right) tt like_right t f opens tells.right)

  -- and that may be read
  pub opened_reads : (t : TableAsked) (f : Files) → OpensAs x.active x.files f t → ReadsAsked d p x t → TellsReadable d p x.map (home_in x) f
  opened_reads t f opens reads = (reads.tells.told, opened_in (ReadableIn right) tt like_readable t f opens reads.readable)

-- ---- damage

module _ (d : Disk) (p : Pool) (x : VolumeState) (is : IsStanding d p x) (well : IsStoredWell d p x) where
  -- no load for the active table answers damage
  pub no_damage : (steps faults at want found : ℕ) → TableFails (TellsActive d p x) (standing_for d p x) (lent_for p x.map d steps (home_in x) 0) faults (block.Damaged at want found) → ⊥
  no_damage = none_damaged d p x (TellsActive d p x) (active_tells d p x is) (is.told.0, is.told.2) (shows d p x).used (standing_for d p x) x.known (active_holds d p x is well)

  -- nor one for the table that a command reads
  pub read_undamaged : (reads : Bool) (s : Option (List ℕ)) (steps faults at want found : ℕ)
      → TableFails (TellsBy reads d p x (unwrap_or (table_named x s) Active)) (standing_read d p x s) (lent_for p x.map d steps (home_in x) 0) faults (block.Damaged at want found) → ⊥
  read_undamaged reads s =
      let mine = read_holds d p x is well s in
      none_damaged d p x (TellsBy reads d p x (unwrap_or (table_named x s) Active)) (read_tells d p x is reads s) (is.told.0, is.told.2) mine.uses (standing_read d p x s) x.known mine.holds

-- ---- after reads

module _ (d e : Disk) (p q : Pool) (reads : Reads d p e q) (x : VolumeState) (t : TableAsked) where
  -- the same is told
  pub still_tells : TellsAsked d p x t → TellsAsked e q x t
  still_tells is = record {
    told = still_told d e p q reads x is.told;
    right = λ a. subst (λ (c : Slots). RightIn (λ v pvbn. IsRightPlace (held_entry x.map c x.slot v) pvbn) (trees_opened (under (shows e q x)) x.active x.files t a)) (sym reads.leaves.containers)
        (subst (λ (u : Under). RightIn (shows d p x).right (trees_opened u x.active x.files t a)) (sym (still_under d e p q reads x)) (is.right a));
    numbers = subst (λ (s : Standing). AreNumbersIf (numbers_asked t x.numbers) (table_told s)) (sym (still_of d e p q reads x t)) is.numbers;
  }

  pub tells_before : TellsAsked e q x t → TellsAsked d p x t
  tells_before is = record {
    told = told_there d e p q reads x is.told;
    right = λ a. subst (λ (c : Slots). RightIn (λ v pvbn. IsRightPlace (held_entry x.map c x.slot v) pvbn) (trees_opened (under (shows d p x)) x.active x.files t a)) reads.leaves.containers
        (subst (λ (u : Under). RightIn (shows e q x).right (trees_opened u x.active x.files t a)) (still_under d e p q reads x) (is.right a));
    numbers = subst (λ (s : Standing). AreNumbersIf (numbers_asked t x.numbers) (table_told s)) (still_of d e p q reads x t) is.numbers;
  }

  -- and where a block of a file is read
  pub still_reads : ReadsAsked d p x t → ReadsAsked e q x t
  still_reads is = record {
    tells = still_tells is.tells;
    readable = λ a. subst (λ (c : Slots). ReadableIn (λ v pvbn. IsRightPlace (held_entry x.map c x.slot v) pvbn) (trees_opened (under (shows e q x)) x.active x.files t a)) (sym reads.leaves.containers)
        (subst (λ (u : Under). ReadableIn (shows d p x).right (trees_opened u x.active x.files t a)) (sym (still_under d e p q reads x)) (is.readable a));
  }

  -- what is known of the table before is known after
  pub known_after : (y : VolumeState) → y ≡ x → (says : Standing → Type 0) → (TellsAsked d p x t → says (standing_of d p x t)) → TellsAsked e q y t → says (standing_of e q y t)
  known_after y same says known is = subst (λ (z : VolumeState). says (standing_of e q z t)) (sym same) (subst says (sym (still_of d e p q reads x t)) (known (tells_before (subst (λ (z : VolumeState). TellsAsked e q z t) same is))))

  -- and what was said after is so before
  pub known_before : (y : VolumeState) → y ≡ x → (says : Standing → Type 0) → (TellsAsked e q y t → says (standing_of e q y t)) → TellsAsked d p x t → says (standing_of d p x t)
  known_before y same says made is = subst says (still_of d e p q reads x t) (subst (λ (z : VolumeState). TellsAsked e q z t → says (standing_of e q z t)) same made (still_tells is))
