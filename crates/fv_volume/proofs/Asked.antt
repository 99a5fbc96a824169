-- What is asked of a volume is answered as the machine answers it.
use Rattle.std.proofs.Common.{◌≡◌, ℕ, ◌<◌, ◌≤◌, true, false, List, Option, Some, None, replicate, refl, sym, ap, ◌∙◌, arith}
use Rattle.std.specs.Prelude.{Ok, Err, unwrap_or}
use Rattle.std.specs.Option.{option_map}
use Rattle.std.specs.FinMap as fin
use Rattle.fv_disk.specs.Shown.{Shown as Disk}
use Rattle.fv_codec.specs.declared.inode.InodeRecord.{InodeRecord}
use Rattle.fv_model.specs.declared.answers.Refusal.TheVariants.{NoFile, NoSnapshot, Range}
use Rattle.fv_model.specs.declared.answers.Reply.{Reply}
use Rattle.fv_model.specs.declared.answers.Reply.TheVariants.{Content, Number, Names}
use Rattle.fv_model.specs.declared.commands.Command.{Command}
use Rattle.fv_model.specs.declared.commands.Command.TheVariants.{Get, Len, Ls}
use Rattle.fv_model.specs.Machines.{Machine}
use Rattle.fv_model.specs.Numbers.{is_index}
use Rattle.fv_model.specs.Tables.{File, file_named}
use Rattle.fv_model.specs.Refusals.{table_asked}
use Rattle.fv_model.specs.Replies.{answer, stat_of}
use Rattle.fv_laws.specs.WellFormed.{IsWellTable}
use Rattle.fv_tables.specs.Told.{Standing, file_in, file_told, tree_of, table_told}
use Rattle.fv_tables.proofs.Tables.{files_told}
use Rattle.fv_inode.specs.declared.info.Info.{Info}
use Rattle.fv_inode.specs.Files.{HasNone, IsFirst}
use Rattle.fv_inode.specs.Listing.{names_told}
use Rattle.fv_files.specs.Calls.{GivesCell, or_zeros}
use Rattle.fv_files.specs.Tables.{IsInfoOf}
use Rattle.fv_tables.specs.Spelled.{Rooted}
use Rattle.fv_charge.specs.Ledgers.{IsLedgerOf}
use Rattle.fv_charge.proofs.Admissions.{commit_is}
use Rattle.fv_pool.specs.declared.fault.VolumeFault.{VolumeFault}
use Rattle.fv_pool.specs.declared.fault.VolumeFault.TheVariants.{Refused}
use Rattle.fv_pool.specs.declared.pool.Pool.{Pool}
use Rattle.fv_volume.specs.declared.state.VolumeState.{VolumeState}
use Rattle.fv_volume.specs.Asking.{standing_asked}
use Rattle.fv_volume.specs.Calls.{Agrees, Asks, Has}
use Rattle.fv_volume.specs.Promising.{told_by}
use Rattle.fv_volume.specs.OneVolume.{standing_for, volume_as, volume_for, Content as Holding, IsStanding}
use Rattle.fv_volume.proofs.Answered.{get_accepted, get_answer, get_far, get_lost, get_none, get_past, len_accepted, len_answer, len_lost, len_none, ls_accepted, ls_answer, ls_lost}
use Rattle.fv_volume.proofs.Lookups.{named_first, named_none, names_are}
use Rattle.fv_volume.proofs.SnapReads.{asked_table, asked_well}

-- a block, or zeros where there is none
same_block : (o : Option (List ℕ)) → or_zeros o ≡ unwrap_or o (replicate 4096 0)
same_block None = refl
same_block (Some block) = refl

-- an accepted command, with its reply
accepts : {T : Type 0} (has : Machine → Type 0) (c : Command) (reply : T → Reply) (y : T) (expected : Reply) → ((m : Machine) → has m → Agrees {T = T} m c (Ok y)) → ((m : Machine) → has m → answer m c ≡ expected) → reply y ≡ expected
    → Asks has c reply (Ok y)
accepts has c reply y expected agrees answers is = record { agrees = agrees; reply = λ m there. is ∙ sym (answers m there) }

-- a refused one
refuses : {T : Type 0} (has : Machine → Type 0) (c : Command) (reply : T → Reply) (e : VolumeFault) → ((m : Machine) → has m → Agrees {T = T} m c (Err e)) → Asks has c reply (Err e)
refuses has c reply e agrees = record { agrees = agrees; reply = tt }

-- ---- the file of a name in a table

module _ (t : Standing) (now : ℕ) (well : IsWellTable now (table_told t)) (f : List ℕ) (info : Info) (first : IsFirst t.inode f info) where
  abbrev pub file_of : File
  file_of = file_told (tree_of t info.number first.file) first.file

  pub found_of : file_named (table_told t) f ≡ Some (info.number, file_of)
  found_of = named_first t f now info first well

  pub there_of : file_in t info.number ≡ Some file_of
  unfolding file_in
  there_of = ap (λ (o : Option InodeRecord). option_map (λ r. file_told (tree_of t info.number r) r) o) first.there

  pub long_of : info.length ≡ file_of.length
  unfolding file_told
  long_of = ap (λ (i : Info). i.length) first.told

-- in the active table
module _ (d : Disk) (p : Pool) (x : VolumeState) (is : IsStanding d p x) (f : List ℕ) (info : Info) (first : IsFirst (standing_for d p x).inode f info) where
  abbrev pub file : File
  file = file_of (standing_for d p x) x.now is.table f info first

  pub found : file_named (table_told (standing_for d p x)) f ≡ Some (info.number, file)
  found = found_of (standing_for d p x) x.now is.table f info first

  pub file_there : file_in (standing_for d p x) info.number ≡ Some file
  file_there = there_of (standing_for d p x) x.now is.table f info first

  pub in_table : fin.get (table_told (standing_for d p x)).files info.number ≡ Some file
  in_table = files_told (standing_for d p x) info.number ∙ file_there

  pub long : info.length ≡ file.length
  long = long_of (standing_for d p x) x.now is.table f info first

-- ---- the table that is asked

module _ (d : Disk) (p : Pool) (x : VolumeState) (s : Option (List ℕ)) where
  abbrev here : Machine → Type 0
  here = Has x.name (volume_for d p x)

  pub get_too_far : (f : List ℕ) (i : ℕ) (into : List ℕ) → is_index i ≡ false → Asks here (Get x.name s f i) (λ (u : Unit {0}). Content into) (Err (Refused Range))
  get_too_far f i into far = refuses here _ _ _ (λ m there. get_far m x.name (volume_for d p x) there s f i far)

  module _ (is : IsStanding d p x) where
    -- it isn't there
    module _ (none : standing_asked d p x s ≡ None) where
      pub lost : table_asked (volume_for d p x) s ≡ None
      lost = asked_table d p x is s ∙ ap (option_map table_told) none

      pub len_asked_lost : (f : List ℕ) → Asks here (Len x.name s f) (λ n. Number n) (Err (Refused NoSnapshot))
      len_asked_lost f = refuses here _ _ _ (λ m there. len_lost m x.name (volume_for d p x) there s lost f)

      pub ls_asked_lost : Asks here (Ls x.name s) (λ names. Names names) (Err (Refused NoSnapshot))
      ls_asked_lost = refuses here _ _ _ (λ m there. ls_lost m x.name (volume_for d p x) there s lost)

      pub get_asked_lost : (f : List ℕ) (i : ℕ) (into : List ℕ) → is_index i ≡ true → Asks here (Get x.name s f i) (λ (u : Unit {0}). Content into) (Err (Refused NoSnapshot))
      get_asked_lost f i into near = refuses here _ _ _ (λ m there. get_lost m x.name (volume_for d p x) there s lost f i near)

    module _ (t : Standing) (asked : standing_asked d p x s ≡ Some t) where
      at_hand : table_asked (volume_for d p x) s ≡ Some (table_told t)
      at_hand = asked_table d p x is s ∙ ap (option_map table_told) asked

      well : IsWellTable x.now (table_told t)
      well = asked_well d p x is s t asked

      pub ls_asked_found : (names : List (List ℕ)) → names ≡ fin.keys (names_told t.inode) → Asks here (Ls x.name s) (λ names. Names names) (Ok names)
      ls_asked_found names same = accepts here _ _ names _ (λ m there. ls_accepted m x.name (volume_for d p x) there s (table_told t) at_hand)
          (λ m there. ls_answer m x.name (volume_for d p x) there s (table_told t) at_hand) (ap (λ n. Names n) (same ∙ names_are t))

      module _ (f : List ℕ) where
        pub len_asked_missing : HasNone t.inode f → Asks here (Len x.name s f) (λ n. Number n) (Err (Refused NoFile))
        len_asked_missing none = refuses here _ _ _ (λ m there. len_none m x.name (volume_for d p x) there s (table_told t) at_hand f (named_none t f none))

        pub get_asked_missing : (i : ℕ) (into : List ℕ) → is_index i ≡ true → HasNone t.inode f → Asks here (Get x.name s f i) (λ (u : Unit {0}). Content into) (Err (Refused NoFile))
        get_asked_missing i into near none = refuses here _ _ _ (λ m there. get_none m x.name (volume_for d p x) there s (table_told t) at_hand f i near (named_none t f none))

        module _ (info : Info) (first : IsFirst t.inode f info) where
          abbrev its : File
          its = file_of t x.now well f info first

          its_name : file_named (table_told t) f ≡ Some (info.number, its)
          its_name = found_of t x.now well f info first

          its_length : info.length ≡ its.length
          its_length = long_of t x.now well f info first

          pub len_asked_found : Asks here (Len x.name s f) (λ n. Number n) (Ok info.length)
          len_asked_found = accepts here _ _ info.length _ (λ m there. len_accepted m x.name (volume_for d p x) there s (table_told t) at_hand f info.number its its_name)
              (λ m there. len_answer m x.name (volume_for d p x) there s (table_told t) at_hand f info.number its its_name) (ap (λ n. Number n) its_length)

          pub get_asked_past : (i : ℕ) (into : List ℕ) → is_index i ≡ true → info.length ≤ i → Asks here (Get x.name s f i) (λ (u : Unit {0}). Content into) (Err (Refused Range))
          get_asked_past i into near past = refuses here _ _ _ (λ m there. get_past m x.name (volume_for d p x) there s (table_told t) at_hand f info.number its its_name i near (omega (arith, its_length, past)))

          pub get_asked_found : (i : ℕ) (into : List ℕ) → is_index i ≡ true → i < info.length → GivesCell t info.number i into → Asks here (Get x.name s f i) (λ (u : Unit {0}). Content into) (Ok tt)
          get_asked_found i into near within gives = accepts here _ _ tt _
              (λ m there. get_accepted m x.name (volume_for d p x) there s (table_told t) at_hand f info.number its its_name i near (omega (arith, its_length, within)))
              (λ m there. get_answer m x.name (volume_for d p x) there s (table_told t) at_hand f info.number its its_name i)
              (ap (λ b. Content b) (gives its (there_of t x.now well f info first) ∙ same_block (fin.get its.blocks i)))

-- ---- its numbers

pub stat_is : (x : VolumeState) (content : Holding) → IsLedgerOf (volume_as x content) x.ledger
    → told_by x ≡ stat_of (volume_as x content)
stat_is x content is = λ i. record { size = x.size; used = is.charged i; need = is.needed i; commit = commit_is (volume_as x content) x.ledger is i; kind = x.kind; clean = x.known }

-- ---- after a look-up

-- what is known of a file by its name is what its record says
pub first_info : (t : Rooted) (name : List ℕ) (info : Info) → IsFirst t name info → IsInfoOf t info
first_info t name info first = record { file = first.file; there = first.there; told = first.told }
