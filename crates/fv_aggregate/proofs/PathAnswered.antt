-- A probe that is accepted answers the unknown pointers on the path to its cell, where no file is in memory.
use Rattle.std.proofs.Common.{◌≡◌, ◌<◌, ◌++◌, ℕ, Bool, true, false, cond, List, [], ◌∷◌, Option, Some, None, Ok, refl, sym, ap, subst, ◌∙◌, arith}
use Rattle.std.specs.Prelude.{flat_map, IfSome, IsTrue}
use Rattle.std.specs.FinMap as fin
use Rattle.std.specs.FinMap.{find}
use Rattle.std.specs.Ordering.{is_eq}
use Rattle.std.specs.Option.{option_map}
use Rattle.std.proofs.lemmas.Option.{same_Some}
use Rattle.fv_disk.specs.Shown.{Shown}
use Rattle.fv_model.specs.declared.answers.Refusal.{Refusal}
use Rattle.fv_model.specs.declared.answers.Refusal.TheVariants.{NoFile, NoVolume, Range}
use Rattle.fv_model.specs.declared.answers.Reply.{Reply}
use Rattle.fv_model.specs.declared.answers.Reply.TheVariants.{Number}
use Rattle.fv_model.specs.declared.commands.Command.TheVariants.{Get, Probe}
use Rattle.fv_model.specs.Machines.{Machine}
use Rattle.fv_model.specs.Numbers.{is_index}
use Rattle.fv_model.specs.Refusals.{refusal}
use Rattle.fv_model.specs.Replies.{answer, is_open, Allows, AllowsBy, IsAnswer}
use Rattle.fv_model.specs.Spelling.{is_same_name, name_cmp}
use Rattle.fv_model.specs.Tables.{file_named, File}
use Rattle.fv_model.specs.Volumes.{Volume}
use Rattle.fv_laws.proofs.Changes.{itself, same_name}
use Rattle.fv_laws.proofs.Orders.{name_total}
use Rattle.fv_codec.specs.Blocks.{greatest_word}
use Rattle.fv_tables.specs.Spelled.{stored, Under}
use Rattle.fv_tree.specs.Standing.{under as blocks_of}
use Rattle.fv_image.specs.Views.{slots}
use Rattle.fv_inode.specs.declared.info.Info.{Info}
use Rattle.fv_inode.specs.Files.{info_of, IsFirst}
use Rattle.fv_files.specs.declared.files.Files.{Files}
use Rattle.fv_files.specs.Apart.{stored_trees}
use Rattle.fv_container.specs.Chains.{slot_count}
use Rattle.fv_pool.specs.declared.pool.Pool.{Pool}
use Rattle.fv_pool.specs.BlocksOver.{held_block}
use Rattle.fv_pool.specs.Tables.{standing_by, trees_by}
use Rattle.fv_pool.proofs.Shows.{get_held}
use Rattle.fv_volume.specs.declared.state.VolumeState.{VolumeState}
use Rattle.fv_volume.specs.Calls.{Has}
use Rattle.fv_volume.specs.Held.{named_held, IsHeldIn}
use Rattle.fv_volume.specs.OneVolume.{shows, standing_for, table_for, trees_for, volume_for, IsStanding}
use Rattle.fv_volume.specs.Paths.{unknown_over}
use Rattle.fv_volume.specs.Probing.{IsPath}
use Rattle.fv_volume.specs.Slots.{is_named, HasName}
use Rattle.fv_volume.specs.States.{States, state_at}
use Rattle.fv_volume.proofs.Answered.{get_far, get_none}
use Rattle.fv_volume.proofs.Probed.{refused_alike}
use Rattle.fv_volumes.proofs.KnownSteps.{first_there, its}
use Rattle.fv_cp.specs.Held.{machine_held}
use Rattle.fv_cp.specs.Placing.{HasNoFiles, HaveNoFiles}
use Rattle.fv_aggregate.specs.declared.session.Session.{Session}
use Rattle.fv_aggregate.specs.Applying.{HasApplied}
use Rattle.fv_aggregate.specs.Commands.{is_built, reads_files, slot_named}
use Rattle.fv_aggregate.specs.PathShown.{active_table, HasPath}
use Rattle.fv_aggregate.specs.Probing.{TellsPath}
use Rattle.fv_aggregate.specs.Standing.{StandsFor}
use Rattle.fv_aggregate.proofs.Missing.{far_probe, no_probe}
use Rattle.fv_aggregate.proofs.Rooms.{slot_there}

-- ---- the volume that a machine has

-- a volume of the machine is that of a slot
record IsOfSlot (disk : Shown) (pool : Pool) (states : States) (name : List ℕ) (volume : Volume) : Type 0 where
  slot : ℕ
  state : VolumeState
  there : state_at states slot ≡ Some state
  named : state.name ≡ name
  meant : volume_for disk pool state ≡ volume

module _ (disk : Shown) (pool : Pool) (states : States) (name : List ℕ) (volume : Volume) where
  of_slots : (some : List ℕ) → find name_cmp name (flat_map (λ s. named_held disk pool (state_at states s)) some) ≡ Some volume
      → IsOfSlot disk pool states name volume
  of_slots [] found = absurd cc
  of_slots (s ∷ rest) found = by (state_at states s) refl (of_slots rest) found
    where
      by : (o : Option VolumeState) → state_at states s ≡ o → (find name_cmp name (flat_map (λ s. named_held disk pool (state_at states s)) rest) ≡ Some volume → IsOfSlot disk pool states name volume)
          → find name_cmp name (named_held disk pool o ++ flat_map (λ s. named_held disk pool (state_at states s)) rest) ≡ Some volume
          → IsOfSlot disk pool states name volume
      by None there next found = next found
      by (Some x) there next found = at (is_eq (name_cmp name x.name)) refl found
        where
          at : (b : Bool) → is_eq (name_cmp name x.name) ≡ b
              → cond b (Some (volume_for disk pool x)) (find name_cmp name (flat_map (λ s. named_held disk pool (state_at states s)) rest)) ≡ Some volume
              → IsOfSlot disk pool states name volume
          at true same found = record { slot = s; state = x; there = there; named = sym (same_name name x.name same); meant = same_Some (volume_for disk pool x) volume found }
          at false differs found = next found

  of_machine : fin.get (machine_held disk pool states).volumes name ≡ Some volume → IsOfSlot disk pool states name volume
  unfolding machine_held
  of_machine found = of_slots slots
      (sym (fin.get-from_entries name_total (flat_map (λ s. named_held disk pool (state_at states s)) slots) name) ∙ found)

-- ---- what is accepted is there

no_refusal : (r : Refusal) (o : Option Refusal) → o ≡ Some r → o ≡ None → ⊥
no_refusal r o is none = let both : Some r ≡ None = sym is ∙ none in cc

some_volume : (m : Machine) (v f : List ℕ) (i : ℕ) → refusal m (Probe v f i) ≡ None → (o : Option Volume) → fin.get m.volumes v ≡ o
    → (b : Bool) → is_index i ≡ b → (x : Volume) × (fin.get m.volumes v ≡ Some x)
some_volume m v f i accepted (Some x) there near in_range = (x, there)
some_volume m v f i accepted None there true near = absurd (no_refusal NoVolume _ (no_probe m v there f i near) accepted)
some_volume m v f i accepted None there false far = absurd (no_refusal Range _ (far_probe m v f i far) accepted)

-- the file of a name in a table
module _ (d : Shown) (p : Pool) (x : VolumeState) (is : IsStanding d p x) (m : Machine) (has : Has x.name (volume_for d p x) m) (f : List ℕ) (i : ℕ)
    (accepted : refusal m (Probe x.name f i) ≡ None) where
  asked : refusal m (Get x.name None f i) ≡ None
  asked = refused_alike m x.name f i ∙ accepted

  first_file : (info : Info) × IsFirst (standing_for d p x).inode f info
  first_file = by (is_index i) refl (file_named (table_for d p x) f) refl
    where
      by : (b : Bool) → is_index i ≡ b → (o : Option (ℕ × File)) → file_named (table_for d p x) f ≡ o → (info : Info) × IsFirst (standing_for d p x).inode f info
      by false far o found = absurd (no_refusal Range _ (get_far m x.name (volume_for d p x) has None f i far) asked)
      by true near None found = absurd (no_refusal NoFile _ (get_none m x.name (volume_for d p x) has None (table_for d p x) refl f i near found) asked)
      by true near (Some e) found =
          (info_of e.0 (its (standing_for d p x) f x.now is.table e found).0, first_there (standing_for d p x) f x.now is.table e found)

-- an accepted probe is answered with a number
is_number : (m : Machine) (v f : List ℕ) (i : ℕ) (reply : Reply) → refusal m (Probe v f i) ≡ None → Allows m (Probe v f i) reply → (n : ℕ) × (reply ≡ Number n)
unfolding answer
is_number m v f i reply accepted allows =
    by (is_open m (Probe v f i)) (subst (λ (o : Option Refusal). AllowsBy o m (Probe v f i) reply) accepted allows)
  where
    by : (b : Bool) → IsAnswer b (Number 0) reply → (n : ℕ) × (reply ≡ Number n)
    by true is = (is.0, is.2)
    by false is = (0, is)

-- ---- its path

module _ (d : Shown) (s : Session) (last m : Machine) (stands : StandsFor d s last m) (none : HaveNoFiles s.volumes) (v f : List ℕ) (i : ℕ)
    (accepted : refusal m (Probe v f i) ≡ None) where
  volume_there : (x : Volume) × (fin.get m.volumes v ≡ Some x)
  volume_there = some_volume m v f i accepted (fin.get m.volumes v) refl (is_index i) refl

  abbrev its_volume : Volume
  its_volume = volume_there.0

  its_slot : IsOfSlot d s.pool s.volumes v its_volume
  its_slot = of_machine d s.pool s.volumes v its_volume (ap (λ (k : Machine). fin.get k.volumes v) stands.machine ∙ volume_there.1)

  abbrev slot : ℕ
  slot = its_slot.slot

  abbrev x : VolumeState
  x = its_slot.state

  one : IsHeldIn d s.pool slot x
  one = subst (λ (o : Option VolumeState). IfSome o (IsHeldIn d s.pool slot)) its_slot.there (stands.held.each slot)

  has : Has x.name (volume_for d s.pool x) m
  has = ap (fin.get m.volumes) its_slot.named ∙ volume_there.1 ∙ ap (λ (y : Volume). Some y) (sym its_slot.meant)

  low : slot < slot_count
  low = let same = one.slot in let within = one.ready.lent.within in omega (arith, same, within)

  -- no other slot has its name
  unnamed : (k : ℕ) → k < slot → is_named (state_at s.volumes k) v ≡ false
  unnamed k less = by (state_at s.volumes k) refl
    where
      same_slot : (y : VolumeState) → state_at s.volumes k ≡ Some y → y.name ≡ x.name → k ≡ slot
      same_slot y there = subst (λ (o : Option VolumeState). IfSome o (λ z. y.name ≡ z.name → k ≡ slot)) its_slot.there
          (subst (λ (o : Option VolumeState). IfSome o (λ y. IfSome (state_at s.volumes slot) (λ z. y.name ≡ z.name → k ≡ slot))) there (stands.held.names k slot))

      at : (y : VolumeState) → state_at s.volumes k ≡ Some y → (b : Bool) → is_same_name y.name v ≡ b → b ≡ false
      at y there false differs = refl
      at y there true same =
          let twice : k ≡ slot = same_slot y there (same_name y.name v same ∙ sym its_slot.named) in
          absurd (omega (arith, less, twice))

      by : (o : Option VolumeState) → state_at s.volumes k ≡ o → is_named o v ≡ false
      by None there = refl
      by (Some y) there = at y there (is_same_name y.name v) refl

  named : HasName s.volumes slot v
  named = record {
    named = ap (λ (o : Option VolumeState). is_named o v) its_slot.there ∙ ap (λ (n : List ℕ). is_same_name n v) its_slot.named ∙ itself v;
    first = unnamed;
  }

  here : state_at s.volumes (slot_named s.volumes v) ≡ Some x
  here = ap (state_at s.volumes) (slot_there s.volumes slot v named low) ∙ its_slot.there

  accepted_here : refusal m (Probe x.name f i) ≡ None
  accepted_here = ap (λ (n : List ℕ). refusal m (Probe n f i)) its_slot.named ∙ accepted

  file_there : (info : Info) × IsFirst (standing_for d s.pool x).inode f info
  file_there = first_file d s.pool x one.stands m has f i accepted_here

  files : x.files ≡ None
  files = subst HasNoFiles its_slot.there (none slot)

  abbrev own : Under
  own = blocks_of (shows d s.pool x)

  as_held : own ≡ held_block x.map s.pool x.slot d.reads
  as_held = λ j w. get_held x.map s.pool x.slot d.reads w j

  has_path : (count : ℕ) → IsPath (standing_for d s.pool x) (trees_for d s.pool x) f i count → HasPath d.reads s v f i count
  has_path count is =
      let info : Info = file_there.0 in
      let first : IsFirst (stored own greatest_word x.active.levels x.active.root) f info =
      subst (λ (o : Option Files). IsFirst (standing_by own x.active o).inode f info) files file_there.1 in
      let path : count ≡ unknown_over (stored_trees own x.active.levels x.active.root) info.number i =
      subst (λ (o : Option Files). count ≡ unknown_over (trees_by own x.active o) info.number i) files (is info file_there.1) in
      record {
        slot = slot;
        table = active_table d.reads s.pool x;
        there = ap (option_map (active_table d.reads s.pool)) its_slot.there;
        named = its_slot.named;
        info = info;
        first = subst (λ (u : Under). IsFirst (stored u greatest_word x.active.levels x.active.root) f info) as_held first;
        path = subst (λ (u : Under). count ≡ unknown_over (stored_trees u x.active.levels x.active.root) info.number i) as_held path;
      }

  -- A reply that tells the path is a number, and so many unknown pointers lie on it.
  pub path_told : (reply : Reply) → Allows m (Probe v f i) reply
      → IfSome (state_at s.volumes (slot_named s.volumes v)) (λ y. TellsPath d s.pool y reply (Probe v f i))
      → (count : ℕ) × (reply ≡ Number count) × HasPath d.reads s v f i count
  path_told reply allows tells =
      let number = is_number m v f i reply accepted allows in
      let told : TellsPath d s.pool x reply (Probe v f i) =
      subst (λ (o : Option VolumeState). IfSome o (λ y. TellsPath d s.pool y reply (Probe v f i))) here tells in
      let path : TellsPath d s.pool x (Number number.0) (Probe v f i) = subst (λ (r : Reply). TellsPath d s.pool x r (Probe v f i)) number.1 told in
      (number.0, number.1, has_path number.0 path)

-- So it is of a probe that was applied.
pub path_applied : {D : Type 0} (v f : List ℕ) (i : ℕ) (d : Shown) (at : D) (s : Session) (start : ℕ) (e : Shown) (left : D) (n : Session) (stop : ℕ) (reply : Reply)
    → HasApplied (Probe v f i) d at s start e left n stop (Ok reply) → IsTrue d.tells → (last m : Machine) → StandsFor d s last m → HaveNoFiles s.volumes
    → refusal m (Probe v f i) ≡ None → (count : ℕ) × (reply ≡ Number count) × HasPath d.reads s v f i count
unfolding is_built reads_files
path_applied v f i d at s start e left n stop reply did tells last m stands none accepted =
    path_told d s last m stands none v f i accepted reply (did.reply tells last m stands) ((did.on_files refl).path tells last m stands v refl)
