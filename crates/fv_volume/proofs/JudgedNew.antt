-- Whether a new file is accepted, as the machine judges it.
use Rattle.std.proofs.Common.{◌≡◌, ℕ, ◌+◌, ◌<◌, ◌≤◌, true, false, cond, not, List, Option, Some, None, is_some, refl, sym, ap, subst, ◌∙◌, pos}
use Rattle.std.specs.Prelude.{Result, Ok, Err, nat_lt}
use Rattle.std.specs.FinMap as fin
use Rattle.fv_disk.specs.Shown.{Shown as Disk}
use Rattle.fv_model.specs.declared.answers.Refusal.TheVariants.{FileExists, Range, TooMany, WrongKind}
use Rattle.fv_model.specs.declared.commands.Command.{Command}
use Rattle.fv_model.specs.declared.commands.Command.TheVariants.{New}
use Rattle.fv_model.specs.declared.commands.Kind.{Kind}
use Rattle.fv_model.specs.declared.commands.Kind.TheVariants as kinds
use Rattle.fv_model.specs.Numbers.{is_reserve, most_changes, most_files}
use Rattle.fv_model.specs.Tables.{File, file_named, free_number, inode_cell, new}
use Rattle.fv_model.specs.Machines.{Machine, capacity}
use Rattle.fv_model.specs.Space.{is_file_kind}
use Rattle.fv_model.specs.Effects.{stamped}
use Rattle.fv_laws.specs.Paths.{new_path}
use Rattle.fv_laws.specs.Positions.{added_by, staying}
use Rattle.fv_tables.specs.Told.{Standing, table_told}
use Rattle.fv_inode.specs.declared.info.Info.{Info}
use Rattle.fv_inode.specs.Files.{HasNone, IsFirst}
use Rattle.fv_inode.specs.Files.{IsFreeNumber}
use Rattle.fv_charge.specs.declared.delta.Delta.{Delta}
use Rattle.fv_charge.specs.declared.ledger.Ledger.{Ledger}
use Rattle.fv_charge.specs.Changes.{IsChanged, IsDeltaOf, IsLeft}
use Rattle.fv_pool.specs.declared.fault.VolumeFault.{VolumeFault}
use Rattle.fv_pool.specs.declared.fault.VolumeFault.TheVariants.{Refused, DiskFault, Damaged, Memory}
use Rattle.fv_pool.specs.declared.pool.Pool.{Pool}
use Rattle.fv_volume.specs.declared.state.VolumeState.{VolumeState}
use Rattle.fv_volume.specs.Calls.{HasBeside}
use Rattle.fv_volume.specs.Changing.{AcceptsNew, RefusedIn, SpaceSays}
use Rattle.fv_volume.specs.Charging.{CostsNew, MovesBlocks}
use Rattle.fv_volume.specs.OneVolume.{standing_for, volume_for, IsReady, IsStanding}
use Rattle.fv_volume.proofs.Answered.{new_changes, new_far, new_files, new_kind, new_space, new_taken}
use Rattle.fv_volume.proofs.Asked.{file, found}
use Rattle.fv_volume.proofs.Changed.{leaves_ledger}
use Rattle.fv_volume.proofs.Charging.{new_change, new_delta}
use Rattle.fv_volume.proofs.FileCounts.{least_is, none_free, none_told, some_free, some_told}
use Rattle.fv_volume.proofs.Judged.{more_ledger, moved}
use Rattle.fv_volume.proofs.Lookups.{named_none}
use Rattle.fv_volume.proofs.SettledTables.{next_is_new}

pub some_is : {T : Type 0} (o : Option T) → is_some o ≡ true → (x : T) × (o ≡ Some x)
some_is None is = absurd cc
some_is (Some x) is = (x, refl)

-- a reserve of 0 fits any kind, and any reserve fits the kind `file`
fits_none : (reserve : ℕ) (kind : Kind) → reserve ≡ 0 → cond (nat_lt 0 reserve) (not (is_file_kind kind)) false ≡ false
fits_none reserve kind none = ap (λ n. cond (nat_lt 0 n) (not (is_file_kind kind)) false) none

other_kind : (kind : Kind) → (kind ≡ kinds.File → ⊥) → is_file_kind kind ≡ false
other_kind kinds.Volume other = refl
other_kind kinds.File other = absurd (other refl)
other_kind kinds.Thin other = refl

module _ (d : Disk) (p : Pool) (x : VolumeState) (others : ℕ) where
  abbrev beside : Machine → Type 0
  beside = HasBeside x.name (volume_for d p x) others p.found.blocks

  abbrev table : Standing
  table = standing_for d p x

  pub new_too_far : (f : List ℕ) (reserve : ℕ) → is_reserve reserve ≡ false → RefusedIn beside (New x.name f reserve) (Refused Range)
  new_too_far f reserve far m has = new_far m x.name (volume_for d p x) has.there f reserve far

  module _ (f : List ℕ) (reserve : ℕ) (near : is_reserve reserve ≡ true) where
    pub new_exists : IsStanding d p x → (info : Info) → IsFirst table.inode f info → RefusedIn beside (New x.name f reserve) (Refused FileExists)
    new_exists is info first m has = new_taken m x.name (volume_for d p x) has.there f reserve near (info.number, file d p x is f info first) (found d p x is f info first)

    module _ (none : HasNone table.inode f) where
      missing : file_named (table_told table) f ≡ None
      missing = named_none table f none

      pub new_other_kind : 0 < reserve → (x.kind ≡ kinds.File → ⊥) → RefusedIn beside (New x.name f reserve) (Refused WrongKind)
      new_other_kind some other m has = new_kind m x.name (volume_for d p x) has.there f reserve near missing some (other_kind x.kind other)

      module _ (is : IsStanding d p x) (zero_is : reserve ≡ 0) where
        fits : cond (nat_lt 0 reserve) (not (is_file_kind x.kind)) false ≡ false
        fits = fits_none reserve x.kind zero_is

        pub new_all_files : IsFreeNumber table.inode None → RefusedIn beside (New x.name f reserve) (Refused TooMany)
        new_all_files all m has = new_files m x.name (volume_for d p x) has.there f reserve near missing fits (none_free (table_told table) (λ n lt. some_told table n (all n lt)))

        module _ (n : ℕ) (low : n < 262144) (free : IsFreeNumber table.inode (Some n)) where
          few : fin.len (table_told table).files < most_files
          few = some_free (table_told table) x.now is.table n blank low (none_told table n free.free)
            where
              blank : File
              blank = record { name = f; length = 0; reserve = 0; blocks = fin.empty; tree = record { levels = 0; stamps = fin.empty } }

          number_is : free_number (table_told table) ≡ n
          number_is = least_is table n free.free free.least

          pub new_counted : most_changes ≤ x.now → RefusedIn beside (New x.name f reserve) (Refused TooMany)
          new_counted all m has = new_changes m x.name (volume_for d p x) has.there f reserve near missing fits few all

          module _ (more : x.now < most_changes) (by : Delta) (count : ℕ) (ready : IsReady d p x) (costs : CostsNew d p x n count) (charge : by.charge ≡ pos count) (need : by.need ≡ pos 0) (size : by.size ≡ x.ledger.size) (kind : by.kind ≡ x.ledger.kind) where
            count_is : MovesBlocks (volume_for d p x) (added_by (table_told table).inode (inode_cell (free_number (table_told table)))) (staying (volume_for d p x) (new_path (table_told table))) 0 by
            count_is = record {
              charge = moved (added_by (table_told table).inode (inode_cell (free_number (table_told table)))) (staying (volume_for d p x) (new_path (table_told table))) count by.charge
                  (costs free ∙ ap (λ k. added_by (table_told table).inode (inode_cell k) + staying (volume_for d p x) (new_path (table_told table))) (sym number_is)) charge;
              need = need;
              size = size ∙ ready.booked.size;
              kind = kind ∙ ready.booked.kind;
            }

            its_delta : IsDeltaOf (volume_for d p x) (stamped (volume_for d p x) (new (table_told table) f reserve)) by
            its_delta = subst (λ k. IsDeltaOf (volume_for d p x) (stamped (volume_for d p x) (new (table_told table) f k)) by) (sym zero_is)
                (new_delta (volume_for d p x) is.table (next_is_new d p x is ready.labelled) is.reserves by f count_is)

            its_left : (m : Machine) → beside m → IsLeft m (New x.name f reserve) x.name (record x.ledger { charge = x.ledger.charge + count }) others (capacity p.found.blocks)
            its_left m has = leaves_ledger d p x is others m has (New x.name f reserve) (stamped (volume_for d p x) (new (table_told table) f reserve)) by (record x.ledger { charge = x.ledger.charge + count })
                (new_change m x.name f (volume_for d p x) has.there reserve) its_delta (more_ledger x.ledger by count charge need size kind)

            abbrev Says : Result Unit VolumeFault → Type 0
            Says r = (m : Machine) (c : Command) (v : List ℕ) (l : Ledger) → IsChanged x.ledger by l → IsLeft m c v l others (capacity p.found.blocks) → SpaceSays m c v r

            said : (r : Result Unit VolumeFault) → Says r → (m : Machine) → beside m → SpaceSays m (New x.name f reserve) x.name r
            said r says m has = says m (New x.name f reserve) x.name (record x.ledger { charge = x.ledger.charge + count }) (more_ledger x.ledger by count charge need size kind) (its_left m has)

            pub new_full : (e : VolumeFault) → Says (Err e) → RefusedIn beside (New x.name f reserve) e
            new_full (Refused r) says m has = new_space m x.name (volume_for d p x) has.there f reserve near missing fits few more ∙ said (Err (Refused r)) says m has
            new_full DiskFault says m has = tt
            new_full (Damaged at want got) says m has = tt
            new_full Memory says m has = tt

            pub new_accepted : Says (Ok tt) → AcceptsNew d p x others f reserve n by
            new_accepted says = record { near = near; none = missing; few = few; free = free; moves = count_is; accepted = λ m has. new_space m x.name (volume_for d p x) has.there f reserve near missing fits few more ∙ said (Ok tt) says m has }
