-- Whether a cut or a removal is accepted, as the machine judges it: in a volume without snapshots never refused for space where no volume is past its size,
-- and in one with snapshots where there is no room for what stays charged.
use Rattle.std.proofs.Common.{◌≡◌, ℕ, ◌+◌, ◌<◌, ◌≤◌, true, false, List, [], ◌∷◌, Some, None, refl, sym, ap, subst, ◌∙◌, arith, ℤ, pos, ◌+ℤ◌, ◌≤ℤ◌}
use Rattle.std.specs.Prelude.{Option, Result, Ok, Err, IfSome}
use Rattle.std.proofs.lemmas.Int.{ints}
use Rattle.fv_disk.specs.Shown.{Shown as Disk}
use Rattle.fv_model.specs.declared.answers.Refusal.TheVariants.{AggregateFull, NoFile, Range, TooMany, VolumeFull}
use Rattle.fv_model.specs.declared.commands.Command.{Command}
use Rattle.fv_model.specs.declared.commands.Command.TheVariants.{Cut, Remove}
use Rattle.fv_model.specs.Numbers.{is_reserve, most_changes}
use Rattle.fv_model.specs.Tables.{File, cut, file_named, rm}
use Rattle.fv_model.specs.Volumes.{Volume}
use Rattle.fv_model.specs.Machines.{Machine}
use Rattle.fv_model.specs.Space as Space
use Rattle.fv_model.specs.Space.{charge, use_of}
use Rattle.fv_model.specs.Effects.{Becomes, Change, change_of, changed, stamped}
use Rattle.fv_model.specs.Refusals.{first_of, is_aggregate_full, is_volume_full, refusal, space}
use Rattle.fv_laws.specs.Paths.{cut_path}
use Rattle.fv_laws.specs.Positions.{rm_places, staying, taken_by_cut, taken_by_rm}
use Rattle.fv_laws.proofs.Commits.{HasBudgetOf}
use Rattle.fv_laws.proofs.PathCharges.{cut_uses_less, never_full, rm_uses_less}
use Rattle.fv_tables.specs.Told.{Standing, file_in, table_told}
use Rattle.fv_tables.proofs.Tables.{files_told}
use Rattle.fv_inode.specs.declared.info.Info.{Info}
use Rattle.fv_inode.specs.Files.{HasNone, IsFirst}
use Rattle.fv_charge.specs.declared.delta.Delta.{Delta}
use Rattle.fv_charge.specs.declared.ledger.Ledger.{Ledger}
use Rattle.fv_charge.specs.Changes.{CanChange, IsChanged, IsDeltaOf}
use Rattle.fv_tree.specs.declared.taken.Taken.{Taken}
use Rattle.fv_pool.specs.declared.fault.VolumeFault.{VolumeFault}
use Rattle.fv_pool.specs.declared.fault.VolumeFault.TheVariants.{Refused, DiskFault, Damaged, Memory}
use Rattle.fv_pool.specs.declared.pool.Pool.{Pool}
use Rattle.fv_volume.specs.declared.state.VolumeState.{VolumeState}
use Rattle.fv_volume.specs.Calls.{Has, HasBeside, HasWithin}
use Rattle.fv_volume.specs.Changing.{AcceptsCut, AcceptsRemoval, FitsLedger, IsDeltaBy, RefusedIn, SpaceSays}
use Rattle.fv_volume.specs.Charging.{CutMoves, MovesBlocks, RemovalMoves}
use Rattle.fv_volume.specs.OneVolume.{tables_of, greatest_charge, standing_for, volume_for, IsReady, IsStanding}
use Rattle.fv_volume.proofs.Answered.{cut_changes, cut_far, cut_none, cut_past, cut_space, rm_changes, rm_none, rm_space}
use Rattle.fv_volume.proofs.Asked.{file, file_there, found, long, in_table}
use Rattle.fv_volume.proofs.Changed.{leaves_ledger}
use Rattle.fv_volume.proofs.SettledTables.{next_is_new}
use Rattle.fv_volume.proofs.Charging.{cut_change, cut_charges, cut_delta, rm_change, rm_charges, rm_delta}
use Rattle.fv_volume.proofs.Judged.{charge_fits, IsSaid}
use Rattle.fv_volume.proofs.Lookups.{named_none}
use Rattle.fv_volume.proofs.KeptTables.{is_alone}

-- A command by which a volume uses no more finds room where there was room before.
module _ (m : Machine) (c : Command) (v : List ℕ) (x y : Volume) (others blocks : ℕ) (has : HasWithin v x others blocks m) (change : change_of m c ≡ Becomes v y) (budget : HasBudgetOf x y) (less : use_of y ≤ use_of x) where
  pub has_room : first_of (space m c v) ≡ None
  has_room =
      let full = never_full m v x y has.admitted has.beside.there budget less in
      ap (λ (z : Change). first_of ((VolumeFull, is_volume_full (changed m z) v) ∷ (AggregateFull, is_aggregate_full (changed m z)) ∷ [])) change
      ∙ (λ j. first_of ((VolumeFull, full.0 j) ∷ (AggregateFull, full.1 j) ∷ []))

moved_by : (a b s t : ℕ) (z : ℤ) → a ≡ b → s ≡ t → (z +ℤ pos a) ≡ pos (0 + s) → (z +ℤ pos b) ≡ pos (0 + t)
moved_by a b s t z first second is = omega (arith, ints, first, second, is)

-- What is said of the space for any command that changes a ledger so is said of one by which the volume becomes another.
space_said : (d : Disk) (p : Pool) (x : VolumeState) → IsStanding d p x → (others : ℕ) (c : Command) (y : Volume) (by : Delta) → ((m : Machine) → Has x.name (volume_for d p x) m → change_of m c ≡ Becomes x.name y) → IsDeltaOf (volume_for d p x) y by
    → (r : Result Unit VolumeFault) → IsSaid x.ledger others p.found.blocks by r → (m : Machine) → HasBeside x.name (volume_for d p x) others p.found.blocks m → SpaceSays m c x.name r
space_said d p x is others c y by change delta r says m has = says m c x.name after moved (leaves_ledger d p x is others m has c y by after (change m has.there) delta moved)
  where
    after : Ledger
    after = record { charge = charge y; need = Space.need y; size = by.size; kind = by.kind; span = x.ledger.span }

    moved : IsChanged x.ledger by after
    moved = record {
      charge = (let was = is.ledger.charged in let by_delta = delta.charge in let e : pos (charge y) ≡ (pos x.ledger.charge +ℤ by.charge) = omega (arith, ints, was, by_delta) in e);
      need = (let was = is.ledger.needed in let by_delta = delta.need in let e : pos (Space.need y) ≡ (pos x.ledger.need +ℤ by.need) = omega (arith, ints, was, by_delta) in e);
      size = refl;
      kind = refl;
      span = refl;
    }

module _ (d : Disk) (p : Pool) (x : VolumeState) where
  abbrev within : ℕ → Machine → Type 0
  within others = HasWithin x.name (volume_for d p x) others p.found.blocks

  abbrev table : Standing
  table = standing_for d p x

  pub cut_too_far : (f : List ℕ) (most : ℕ) → is_reserve most ≡ false → RefusedIn (Has x.name (volume_for d p x)) (Cut x.name f most) (Refused Range)
  cut_too_far f most far m has = cut_far m x.name (volume_for d p x) has f most far

  pub cut_missing : (f : List ℕ) (most : ℕ) → is_reserve most ≡ true → HasNone table.inode f → RefusedIn (Has x.name (volume_for d p x)) (Cut x.name f most) (Refused NoFile)
  cut_missing f most near none m has = cut_none m x.name (volume_for d p x) has f most near (named_none table f none)

  pub rm_missing : (f : List ℕ) → HasNone table.inode f → RefusedIn (Has x.name (volume_for d p x)) (Remove x.name f) (Refused NoFile)
  rm_missing f none m has = rm_none m x.name (volume_for d p x) has f (named_none table f none)

  module _ (is : IsStanding d p x) (f : List ℕ) (info : Info) (first : IsFirst table.inode f info) where
    abbrev its : File
    its = file d p x is f info first

    its_name : file_named (table_told table) f ≡ Some (info.number, its)
    its_name = found d p x is f info first

    pub cut_past_end : (most : ℕ) → is_reserve most ≡ true → info.length < most → RefusedIn (Has x.name (volume_for d p x)) (Cut x.name f most) (Refused Range)
    cut_past_end most near past m has = cut_past m x.name (volume_for d p x) has f info.number its its_name most near (let same = long d p x is f info first in omega (arith, same, past))

    pub cut_counted : (most : ℕ) → is_reserve most ≡ true → most ≤ info.length → most_changes ≤ x.now → RefusedIn (Has x.name (volume_for d p x)) (Cut x.name f most) (Refused TooMany)
    cut_counted most near low all m has = cut_changes m x.name (volume_for d p x) has f info.number its its_name most near (let same = long d p x is f info first in omega (arith, same, low)) all

    pub rm_counted : most_changes ≤ x.now → RefusedIn (Has x.name (volume_for d p x)) (Remove x.name f) (Refused TooMany)
    rm_counted all m has = rm_changes m x.name (volume_for d p x) has f info.number its its_name all

    -- In a volume with neither snapshots nor a base a removal is never refused for space.
    pub cut_alone : tables_of x ≡ [] → (most : ℕ) → is_reserve most ≡ true → most ≤ info.length → x.now < most_changes → (others : ℕ) → AcceptsCut d p x others f most info None
    cut_alone none most near low more others = record {
      near = near;
      first = first;
      moves = λ g there. none;
      accepted = λ m has.
          cut_space m x.name (volume_for d p x) has.beside.there f info.number its its_name most near (let same = long d p x is f info first in omega (arith, same, low)) more
          ∙ has_room m (Cut x.name f most) x.name (volume_for d p x) (stamped (volume_for d p x) (cut (table_told table) info.number its most)) others p.found.blocks has
          (cut_change m x.name f (volume_for d p x) has.beside.there info.number its its_name most) (record { kind = refl; size = refl; span = refl })
          (cut_uses_less (volume_for d p x) (is_alone d p x none) is.table is.reserves info.number its most (in_table d p x is f info first));
    }

    pub rm_alone : tables_of x ≡ [] → x.now < most_changes → (others : ℕ) → AcceptsRemoval d p x others f info None
    rm_alone none more others = record {
      first = first;
      moves = λ g there. none;
      accepted = λ m has.
          rm_space m x.name (volume_for d p x) has.beside.there f info.number its its_name more
          ∙ has_room m (Remove x.name f) x.name (volume_for d p x) (stamped (volume_for d p x) (rm (table_told table) info.number)) others p.found.blocks has
          (rm_change m x.name f (volume_for d p x) has.beside.there info.number its its_name) (record { kind = refl; size = refl; span = refl })
          (rm_uses_less (volume_for d p x) (is_alone d p x none) is.table is.reserves info.number its (in_table d p x is f info first));
    }

    -- In one with either it is where the ledger has no room.
    module _ (others : ℕ) (ready : IsReady d p x) (by : Delta) (taken : Taken) (charge_is : taken.gone ≤ x.ledger.charge + taken.staying → (by.charge +ℤ pos taken.gone) ≡ pos (0 + taken.staying))
        (need : by.need ≡ pos 0) (size : by.size ≡ x.ledger.size) (kind : by.kind ≡ x.ledger.kind) where
      abbrev beside : Machine → Type 0
      beside = HasBeside x.name (volume_for d p x) others p.found.blocks

      moves_by : (stays gone : ℕ) → taken.gone ≡ gone → taken.staying ≡ stays → gone ≤ charge (volume_for d p x) + stays → MovesBlocks (volume_for d p x) 0 stays gone by
      moves_by stays gone goes stay low = record {
        charge = (let is_charge = is.ledger.charged in let few : taken.gone ≤ x.ledger.charge + taken.staying = omega (arith, goes, stay, low, is_charge) in let moved = charge_is few in moved_by taken.gone gone taken.staying stays by.charge goes stay moved);
        need = need;
        size = size ∙ ready.booked.size;
        kind = kind ∙ ready.booked.kind;
      }

      module _ (most : ℕ) (near : is_reserve most ≡ true) (low : most ≤ info.length) (more : x.now < most_changes) (takes : CutMoves d p x info.number most taken) where
        abbrev cut_volume : Volume
        cut_volume = stamped (volume_for d p x) (cut (table_told table) info.number its most)

        cut_moves : (g : File) → file_in table info.number ≡ Some g → MovesBlocks (volume_for d p x) 0 (staying (volume_for d p x) (cut_path (table_told table) info.number g most)) (taken_by_cut g most) by
        cut_moves g there =
            let law = cut_charges (volume_for d p x) is.table (next_is_new d p x is ready.labelled) info.number g most (files_told table info.number ∙ there) in
            moves_by (staying (volume_for d p x) (cut_path (table_told table) info.number g most)) (taken_by_cut g most) (takes.gone g there) (takes.stays g there) (omega (arith, law))

        cut_its_delta : IsDeltaOf (volume_for d p x) cut_volume by
        cut_its_delta = cut_delta (volume_for d p x) is.table (next_is_new d p x is ready.labelled) is.reserves by info.number its most (in_table d p x is f info first) (cut_moves its (file_there d p x is f info first))

        cut_said : (r : Result Unit VolumeFault) → IsSaid x.ledger others p.found.blocks by r → (m : Machine) → beside m → SpaceSays m (Cut x.name f most) x.name r
        cut_said r says m has = space_said d p x is others (Cut x.name f most) cut_volume by (λ n there. cut_change n x.name f (volume_for d p x) there info.number its its_name most) cut_its_delta r says m has

        cut_told : (m : Machine) → beside m → refusal m (Cut x.name f most) ≡ first_of (space m (Cut x.name f most) x.name)
        cut_told m has = cut_space m x.name (volume_for d p x) has.there f info.number its its_name most near (let same = long d p x is f info first in omega (arith, same, low)) more

        pub cut_full : (e : VolumeFault) → IsSaid x.ledger others p.found.blocks by (Err e) → RefusedIn beside (Cut x.name f most) e
        cut_full (Refused r) says m has = cut_told m has ∙ cut_said (Err (Refused r)) says m has
        cut_full DiskFault says m has = tt
        cut_full (Damaged at want got) says m has = tt
        cut_full Memory says m has = tt

        pub cut_accepted : IsSaid x.ledger others p.found.blocks by (Ok tt) → AcceptsCut d p x others f most info (Some by)
        cut_accepted says = record { near = near; first = first; moves = cut_moves; accepted = λ m has. cut_told m has.beside ∙ cut_said (Ok tt) says m has.beside }

      module _ (more : x.now < most_changes) (takes : RemovalMoves d p x info.number taken) where
        abbrev rm_volume : Volume
        rm_volume = stamped (volume_for d p x) (rm (table_told table) info.number)

        rm_moves : (g : File) → file_in table info.number ≡ Some g → MovesBlocks (volume_for d p x) 0 (staying (volume_for d p x) (rm_places (table_told table) info.number g)) (taken_by_rm (table_told table) info.number g) by
        rm_moves g there =
            let law = rm_charges (volume_for d p x) is.table (next_is_new d p x is ready.labelled) info.number g (files_told table info.number ∙ there) in
            moves_by (staying (volume_for d p x) (rm_places (table_told table) info.number g)) (taken_by_rm (table_told table) info.number g) (takes.gone g there) (takes.stays g there) (omega (arith, law))

        rm_its_delta : IsDeltaOf (volume_for d p x) rm_volume by
        rm_its_delta = rm_delta (volume_for d p x) is.table (next_is_new d p x is ready.labelled) is.reserves by info.number its (in_table d p x is f info first) (rm_moves its (file_there d p x is f info first))

        rm_said : (r : Result Unit VolumeFault) → IsSaid x.ledger others p.found.blocks by r → (m : Machine) → beside m → SpaceSays m (Remove x.name f) x.name r
        rm_said r says m has = space_said d p x is others (Remove x.name f) rm_volume by (λ n there. rm_change n x.name f (volume_for d p x) there info.number its its_name) rm_its_delta r says m has

        rm_told : (m : Machine) → beside m → refusal m (Remove x.name f) ≡ first_of (space m (Remove x.name f) x.name)
        rm_told m has = rm_space m x.name (volume_for d p x) has.there f info.number its its_name more

        pub rm_full : (e : VolumeFault) → IsSaid x.ledger others p.found.blocks by (Err e) → RefusedIn beside (Remove x.name f) e
        rm_full (Refused r) says m has = rm_told m has ∙ rm_said (Err (Refused r)) says m has
        rm_full DiskFault says m has = tt
        rm_full (Damaged at want got) says m has = tt
        rm_full Memory says m has = tt

        pub rm_accepted : IsSaid x.ledger others p.found.blocks by (Ok tt) → AcceptsRemoval d p x others f info (Some by)
        rm_accepted says = record { first = first; moves = rm_moves; accepted = λ m has. rm_told m has.beside ∙ rm_said (Ok tt) says m has.beside }

-- A ledger with fewer blocks fits the volume.
pub fewer_fits : (d : Disk) (p : Pool) (x : VolumeState) (by : Delta) → IsReady d p x → x.now < most_changes → CanChange x.ledger by → by.charge ≤ℤ pos 0 → by.need ≡ pos 0 → by.size ≡ x.ledger.size → by.kind ≡ x.ledger.kind → FitsLedger x by
fewer_fits d p x by ready more can less need size kind = charge_fits d p x by ready more can need size kind (λ l moved.
    let was = ready.booked.charge in
    let now = moved.charge in
    let e : l.charge ≤ greatest_charge = omega (arith, ints, was, now, less) in
    e)

-- A ledger that changed by a removal fits the volume.
pub removal_fits : (d : Disk) (p : Pool) (x : VolumeState) → IsReady d p x → x.now < most_changes → (known : Option Delta) (count : ℕ) (by : Delta) → IsDeltaBy x.ledger known count by → IfSome known (FitsLedger x) → FitsLedger x by
removal_fits d p x ready more None count by is fits = fewer_fits d p x by ready more is.can is.less is.need is.size is.kind
removal_fits d p x ready more (Some delta) count by is fits = subst (FitsLedger x) (sym is) fits

pub each_fits : (known : Option Delta) (x w : VolumeState) → ((by : Delta) → FitsLedger x by → FitsLedger w by) → IfSome known (FitsLedger x) → IfSome known (FitsLedger w)
each_fits None x w later fits = fits
each_fits (Some by) x w later fits = later by fits
