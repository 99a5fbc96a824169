-- The numbers of a volume's files in memory once its table has changed.
use Rattle.std.proofs.Common.{◌≡◌, ℕ, List, Option, Some, None, refl, ap, subst, ◌∙◌}
use Rattle.std.specs.FinMap as fin
use Rattle.fv_disk.specs.Shown.{Shown as Disk}
use Rattle.fv_model.specs.Spelling.{is_same_name}
use Rattle.fv_model.specs.Trees.{least_levels}
use Rattle.fv_model.specs.Tables.{File, Table, cut, file_cut, file_named, file_put, free_number, new, put, rm}
use Rattle.fv_laws.proofs.Changes.{itself, same_name}
use Rattle.fv_laws.proofs.Reserve.{among}
use Rattle.fv_tables.specs.Told.{Standing, file_told, table_told, tree_of}
use Rattle.fv_inode.specs.declared.info.Info.{Info}
use Rattle.fv_inode.specs.Files.{name_of, IsFirst, IsLeastFree}
use Rattle.fv_files.specs.declared.numbers.FileNumbers.{FileNumbers}
use Rattle.fv_files.specs.Numbering.{number_of, AreNumbersIf, AreNumbersOf}
use Rattle.fv_files.proofs.Numbering.{numbers_kept, numbers_named, numbers_unnamed}
use Rattle.fv_pool.specs.declared.pool.Pool.{Pool}
use Rattle.fv_volume.specs.declared.state.VolumeState.{VolumeState}
use Rattle.fv_volume.specs.Files.{IsLabelled}
use Rattle.fv_volume.specs.Labels.{label_said}
use Rattle.fv_volume.specs.Numbering.{LacksFile, TellsFile}
use Rattle.fv_volume.specs.OneVolume.{table_for, IsReady, IsStanding}
use Rattle.fv_volume.proofs.FileCounts.{least_is, none_told}
use Rattle.fv_volume.proofs.Lookups.{name_told, none_passes, not_both}

-- ---- the same volume with other numbers

module _ (d : Disk) (p : Pool) (x : VolumeState) (n : Option FileNumbers) where
  pub standing_with : IsStanding d p x → AreNumbersIf n (table_for d p x) → IsStanding d p (record x { numbers = n })
  standing_with is numbered = record { told = is.told; table = is.table; reserves = is.reserves; kept = is.kept; names = is.names; shared = is.shared; ledger = is.ledger; trees = is.trees; laid = is.laid; numbers = numbered }

  labelled_with : IsLabelled x.slot x → IsLabelled x.slot (record x { numbers = n })
  unfolding label_said
  labelled_with is = record { slot_is = is.slot_is; form = is.form; span = is.span; map = is.map; counts = is.counts; levels = is.levels; named = is.named; snapshots = is.snapshots; slots = is.slots; waits = is.waits; label = is.label }

  pub ready_with : IsReady d p x → IsReady d p (record x { numbers = n })
  ready_with is =
      let b = is.booked in
      record { lent = is.lent; labelled = labelled_with is.labelled; booked = record { size = b.size; kind = b.kind; span = b.span; need = b.need; charge = b.charge }; blocks = is.blocks; changed = is.changed; fresh = is.fresh }

-- ---- what the changes do to the files

pub put_files : (t : Table) (n : ℕ) (f : File) (i : ℕ) (block : List ℕ) (s : ℕ) → (put t n f i block s).files ≡ fin.insert t.files n (file_put f i block s)
unfolding put
put_files t n f i block s = refl

pub cut_files : (t : Table) (n : ℕ) (f : File) (most s : ℕ) → (cut t n f most s).files ≡ fin.insert t.files n (file_cut f most s)
unfolding cut
cut_files t n f most s = refl

pub rm_files : (t : Table) (n s : ℕ) → (rm t n s).files ≡ fin.remove t.files n
unfolding rm
rm_files t n s = refl

-- the file that a change makes
abbrev made_file : List ℕ → ℕ → File
made_file name reserve = record {
  name = name;
  length = 0;
  reserve = reserve;
  blocks = fin.empty;
  tree = record { levels = least_levels reserve; stamps = fin.empty };
}

new_files : (t : Table) (name : List ℕ) (reserve s : ℕ) → (new t name reserve s).files ≡ fin.insert t.files (free_number t) (made_file name reserve)
unfolding new
new_files t name reserve s = refl

-- ---- and to their numbers

pub still_numbered : (t u : Table) (n : ℕ) (f g : File) → fin.get t.files n ≡ Some f → g.name ≡ f.name → u.files ≡ fin.insert t.files n g → (o : Option FileNumbers) → AreNumbersIf o t → AreNumbersIf o u
still_numbered t u n f g there named is None are = tt
still_numbered t u n f g there named is (Some m) are = numbers_kept m t u n f g are there named is

pub removed_numbered : (t u : Table) (n : ℕ) (f : File) → fin.get t.files n ≡ Some f → u.files ≡ fin.remove t.files n → (o p : Option FileNumbers) → AreNumbersIf o t → LacksFile o p f.name n → AreNumbersIf p u
removed_numbered t u n f there is o None are lacks = tt
removed_numbered t u n f there is o (Some w) are lacks = numbers_unnamed lacks.0 w t u n f (subst (λ (o : Option FileNumbers). AreNumbersIf o t) lacks.1.0 are) there is lacks.1.1

-- a name that no file has has no number
no_number : (m : FileNumbers) (t : Table) (name : List ℕ) → AreNumbersOf m t → file_named t name ≡ None → number_of m name ≡ None
no_number m t name are none = by (number_of m name) refl
  where
    by : (o : Option ℕ) → number_of m name ≡ o → o ≡ None
    by None is = refl
    by (Some n) is =
        let has = are.found name n is in
        let isnt = none_passes (λ (e : ℕ × File). is_same_name e.1.name name) (n, has.file) (fin.entries t.files) none (among t.files n has.file has.there) in
        absurd (not_both (ap (λ k. is_same_name k name) has.named ∙ itself name) isnt)

pub made_numbered : (x : Standing) (name : List ℕ) (reserve s number : ℕ) → IsLeastFree x.inode number → file_named (table_told x) name ≡ None → (o p : Option FileNumbers) → AreNumbersIf o (table_told x) → TellsFile o p name number
    → AreNumbersIf p (new (table_told x) name reserve s)
made_numbered x name reserve s number free none o None are tells = tt
made_numbered x name reserve s number free none o (Some w) are tells =
    let t = table_told x in
    let was : AreNumbersOf tells.0 t = subst (λ (o : Option FileNumbers). AreNumbersIf o t) tells.1.0 are in
    numbers_named tells.0 w t (new t name reserve s) number (made_file name reserve) was (none_told x number free.free) (no_number tells.0 t name was none)
    (new_files t name reserve s ∙ ap (λ n. fin.insert t.files n (made_file name reserve)) (least_is x number free.free free.least)) tells.1.1

-- the name of the file that a look-up found
pub first_named : (x : Standing) (name : List ℕ) (info : Info) (first : IsFirst x.inode name info) → (file_told (tree_of x info.number first.file) first.file).name ≡ name
first_named x name info first = name_told x name info.number first.file ∙ same_name (name_of first.file) name first.named
