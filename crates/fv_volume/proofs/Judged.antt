-- Whether a change of a volume's files is accepted, as the machine judges it.
use Rattle.std.proofs.Common.{◌≡◌, ℕ, ◌+◌, ◌<◌, ◌≤◌, true, false, List, Some, refl, sym, subst, ◌∙◌, arith, ℤ, pos, ◌+ℤ◌, ◌≤ℤ◌}
use Rattle.std.specs.Prelude.{Result, Ok, Err}
use Rattle.std.proofs.lemmas.Int.{ints}
use Rattle.fv_disk.specs.Shown.{Shown as Disk}
use Rattle.fv_model.specs.declared.answers.Refusal.TheVariants.{NoFile, Range, TooMany}
use Rattle.fv_model.specs.declared.commands.Command.{Command}
use Rattle.fv_model.specs.declared.commands.Command.TheVariants.{Put}
use Rattle.fv_model.specs.Numbers.{is_index, most_changes}
use Rattle.fv_model.specs.Tables.{File, file_named, put}
use Rattle.fv_model.specs.Machines.{Machine, capacity}
use Rattle.fv_model.specs.Effects.{stamped}
use Rattle.fv_laws.specs.Paths.{put_path}
use Rattle.fv_laws.specs.Positions.{added_by, staying}
use Rattle.fv_tables.specs.Told.{Standing, file_in, table_told}
use Rattle.fv_inode.specs.declared.info.Info.{Info}
use Rattle.fv_inode.specs.Files.{HasNone, IsFirst}
use Rattle.fv_charge.specs.declared.delta.Delta.{Delta}
use Rattle.fv_charge.specs.declared.ledger.Ledger.{Ledger}
use Rattle.fv_charge.specs.Changes.{CanChange, IsChanged, IsDeltaOf, IsLeft}
use Rattle.fv_pool.specs.declared.fault.VolumeFault.{VolumeFault}
use Rattle.fv_pool.specs.declared.fault.VolumeFault.TheVariants.{Refused, DiskFault, Damaged, Memory}
use Rattle.fv_pool.specs.declared.pool.Pool.{Pool}
use Rattle.fv_volume.specs.declared.state.VolumeState.{VolumeState}
use Rattle.fv_root.specs.declared.find.Found.{Found}
use Rattle.fv_pool.specs.Calls.{Reads}
use Rattle.fv_volume.specs.Calls.{HasBeside}
use Rattle.fv_volume.specs.Changing.{AcceptsPut, FitsLedger, RefusedIn, SpaceSays}
use Rattle.fv_volume.specs.Charging.{CostsPut, MovesBlocks}
use Rattle.fv_volume.specs.Labels.{label_said}
use Rattle.fv_volume.specs.OneVolume.{greatest_charge, standing_for, volume_for, IsReady, IsStanding}
use Rattle.fv_volume.proofs.Answered.{put_changes, put_far, put_none, put_space}
use Rattle.fv_volume.proofs.Asked.{file, file_there, found, in_table}
use Rattle.fv_volume.proofs.Changed.{leaves_ledger}
use Rattle.fv_volume.proofs.Charging.{put_change, put_delta}
use Rattle.fv_volume.proofs.Lookups.{named_none}
use Rattle.fv_volume.proofs.SettledTables.{next_is_new}

-- ---- ledgers

-- a ledger with so many blocks more
pub more_ledger : (l : Ledger) (d : Delta) (count : ℕ) → d.charge ≡ pos count → d.need ≡ pos 0 → d.size ≡ l.size → d.kind ≡ l.kind → IsChanged l d (record l { charge = l.charge + count })
more_ledger l d count charge need size kind = record {
  charge = (let e : pos (l.charge + count) ≡ (pos l.charge +ℤ d.charge) = omega (arith, ints, charge) in e);
  need = (let e : pos l.need ≡ (pos l.need +ℤ d.need) = omega (arith, ints, need) in e);
  size = sym size;
  kind = sym kind;
  span = refl;
}

-- a change of a ledger by so many blocks more
pub record IsMore (l : Ledger) (count : ℕ) (by : Delta) : Type 0 where
  pub charge : by.charge ≡ pos count
  pub need : by.need ≡ pos 0
  pub size : by.size ≡ l.size
  pub kind : by.kind ≡ l.kind
  pub can : CanChange l by

-- so it is of the volume of before, where what was asked meanwhile left that
pub more_is : (x y : VolumeState) → y ≡ x → (count : ℕ) (by : Delta) → by.charge ≡ pos count → by.need ≡ pos 0 → by.size ≡ y.ledger.size → by.kind ≡ y.ledger.kind → CanChange y.ledger by → IsMore x.ledger count by
more_is x y same count by charge need size kind can = subst (λ (z : VolumeState). IsMore z.ledger count by) same (record { charge = charge; need = need; size = size; kind = kind; can = can })

-- a ledger without a need can be changed by few blocks more, or by some fewer
pub can_more : (l : Ledger) (d : Delta) (r : ℤ) → d.charge ≡ r → (count : ℕ) → l.charge ≤ greatest_charge → l.need ≡ 0 → count ≤ 14 → r ≡ pos count → d.need ≡ pos 0 → CanChange l d
can_more l d r same count low none few charge need = record {
  charge = record { least = omega (arith, ints, same, charge); most = omega (arith, ints, same, low, few, charge) };
  need = record { least = omega (arith, ints, need); most = omega (arith, ints, none, need) };
}

pub can_fewer : (l : Ledger) (d : Delta) (r : ℤ) → d.charge ≡ r → (count : ℕ) → l.charge ≤ greatest_charge → l.need ≡ 0 → count ≤ l.charge → (r +ℤ pos count) ≡ pos 0 → d.need ≡ pos 0 → CanChange l d
can_fewer l d r same count low none within falls need = record {
  charge = record { least = omega (arith, ints, same, within, falls); most = omega (arith, ints, same, low, falls) };
  need = record { least = omega (arith, ints, need); most = omega (arith, ints, none, need) };
}

pub can_move : (l : Ledger) (d : Delta) (r : ℤ) → d.charge ≡ r → (more fewer : ℕ) → l.charge ≤ greatest_charge → l.need ≡ 0 → more < 8388608 → fewer ≤ l.charge + more → (r +ℤ pos fewer) ≡ pos more → d.need ≡ pos 0 → CanChange l d
can_move l d r same more fewer low none few within moves need = record {
  charge = record { least = omega (arith, ints, same, within, moves); most = omega (arith, ints, same, low, few, moves) };
  need = record { least = omega (arith, ints, need); most = omega (arith, ints, none, need) };
}

pub moves_by : (z r : ℤ) → z ≡ r → (m n more : ℕ) → m ≡ n → (r +ℤ pos m) ≡ pos more → (z +ℤ pos n) ≡ pos (0 + more)
moves_by z r same m n more equal moves = omega (arith, ints, same, equal, moves)

pub falls_by : (z r : ℤ) → z ≡ r → (m n : ℕ) → m ≡ n → (r +ℤ pos m) ≡ pos 0 → (z +ℤ pos n) ≡ pos 0
falls_by z r same m n equal falls = omega (arith, ints, same, equal, falls)

pub is_fall : (z r : ℤ) → z ≡ r → (n : ℕ) → (r +ℤ pos n) ≡ pos 0 → z ≤ℤ pos 0
is_fall z r same n falls = omega (arith, ints, same, falls)

-- what is said of the space for any command that changes a ledger so
abbrev pub IsSaid : Ledger → ℕ → ℕ → Delta → Result Unit VolumeFault → Type 0
IsSaid l others blocks by r = (m : Machine) (c : Command) (v : List ℕ) (k : Ledger) → IsChanged l by k → IsLeft m c v k others (capacity blocks) → SpaceSays m c v r

-- it is said of the volume before the reads that it was judged by
pub said_of : (d e : Disk) (p q : Pool) → Reads d p e q → (x y : VolumeState) → y ≡ x → (others : ℕ) (by : Delta) (r : Result Unit VolumeFault) → IsSaid y.ledger others q.found.blocks by r → IsSaid x.ledger others p.found.blocks by r
said_of d e p q reads x y same others by r said = subst (λ (f : Found). IsSaid x.ledger others f.blocks by r) reads.leaves.found (subst (λ (z : VolumeState). IsSaid z.ledger others q.found.blocks by r) same said)

-- a volume's label says a size of at most 500,000
pub size_fits : (d : Disk) (p : Pool) (x : VolumeState) → IsReady d p x → x.size ≤ 500000
unfolding label_said
size_fits d p x ready = let most = (ready.labelled.label 0 1 (omega arith) (omega arith) (omega arith)).size_greatest in omega (arith, most)

-- A ledger with no need that changes to a charge which can be counted fits the volume.
pub charge_fits : (d : Disk) (p : Pool) (x : VolumeState) (by : Delta) → IsReady d p x → x.now < most_changes → CanChange x.ledger by → by.need ≡ pos 0 → by.size ≡ x.ledger.size → by.kind ≡ x.ledger.kind
    → ((l : Ledger) → IsChanged x.ledger by l → l.charge ≤ greatest_charge) → FitsLedger x by
charge_fits d p x by ready more can need size kind few = record {
  more = more;
  can = can;
  booked = λ l moved. record {
    size = moved.size ∙ size ∙ ready.booked.size;
    kind = moved.kind ∙ kind ∙ ready.booked.kind;
    span = moved.span ∙ ready.booked.span;
    need = (let was = ready.booked.need in let now = moved.need in let e : l.need ≡ 0 = omega (arith, ints, was, now, need) in e);
    charge = few l moved;
  };
}

-- A ledger within the size fits the volume.
pub more_fits : (d : Disk) (p : Pool) (x : VolumeState) (by : Delta) (count : ℕ) → IsReady d p x → x.now < most_changes → CanChange x.ledger by → by.need ≡ pos 0 → by.size ≡ x.ledger.size → by.kind ≡ x.ledger.kind
    → ((l : Ledger) → IsChanged x.ledger by l → l.charge + l.need ≤ l.size) → FitsLedger x by
more_fits d p x by count ready more can need size kind within = charge_fits d p x by ready more can need size kind (λ l moved.
    let fits = within l moved in
    let same : l.size ≡ x.size = moved.size ∙ size ∙ ready.booked.size in
    let few = size_fits d p x ready in
    omega (arith, fits, same, few))

-- so many blocks come, and so many stay
pub moved : (a b count : ℕ) (z : ℤ) → count ≡ a + b → z ≡ pos count → (z +ℤ pos 0) ≡ pos (a + b)
moved a b count z sum is = omega (arith, ints, sum, is)

-- ---- a write

module _ (d : Disk) (p : Pool) (x : VolumeState) (others : ℕ) where
  abbrev beside : Machine → Type 0
  beside = HasBeside x.name (volume_for d p x) others p.found.blocks

  abbrev table : Standing
  table = standing_for d p x

  pub put_too_far : (f : List ℕ) (i : ℕ) (block : List ℕ) → is_index i ≡ false → RefusedIn beside (Put x.name f i block) (Refused Range)
  put_too_far f i block far m has = put_far m x.name (volume_for d p x) has.there f i block far

  pub put_missing : (f : List ℕ) (i : ℕ) (block : List ℕ) → is_index i ≡ true → HasNone table.inode f → RefusedIn beside (Put x.name f i block) (Refused NoFile)
  put_missing f i block near none m has = put_none m x.name (volume_for d p x) has.there f i block near (named_none table f none)

  module _ (is : IsStanding d p x) (f : List ℕ) (i : ℕ) (near : is_index i ≡ true) (info : Info) (first : IsFirst table.inode f info) where
    abbrev its : File
    its = file d p x is f info first

    its_name : file_named (table_told table) f ≡ Some (info.number, its)
    its_name = found d p x is f info first

    pub put_counted : (block : List ℕ) → most_changes ≤ x.now → RefusedIn beside (Put x.name f i block) (Refused TooMany)
    put_counted block all m has = put_changes m x.name (volume_for d p x) has.there f info.number its its_name i block near all

    module _ (more : x.now < most_changes) (by : Delta) (count : ℕ) (ready : IsReady d p x) (costs : CostsPut d p x info.number i count) (charge : by.charge ≡ pos count) (need : by.need ≡ pos 0) (size : by.size ≡ x.ledger.size) (kind : by.kind ≡ x.ledger.kind) where
      count_is : (g : File) → file_in table info.number ≡ Some g → MovesBlocks (volume_for d p x) (added_by g.tree i) (staying (volume_for d p x) (put_path (table_told table) info.number g i)) 0 by
      count_is g there = record {
        charge = moved (added_by g.tree i) (staying (volume_for d p x) (put_path (table_told table) info.number g i)) count by.charge (costs g there) charge;
        need = need;
        size = size ∙ ready.booked.size;
        kind = kind ∙ ready.booked.kind;
      }

      its_delta : (block : List ℕ) → IsDeltaOf (volume_for d p x) (stamped (volume_for d p x) (put (table_told table) info.number its i block)) by
      its_delta block = put_delta (volume_for d p x) is.table (next_is_new d p x is ready.labelled) is.reserves by info.number its i block (in_table d p x is f info first) (count_is its (file_there d p x is f info first))

      abbrev its_ledger : Ledger
      its_ledger = record x.ledger { charge = x.ledger.charge + count }

      its_left : (block : List ℕ) (m : Machine) → beside m → IsLeft m (Put x.name f i block) x.name its_ledger others (capacity p.found.blocks)
      its_left block m has = leaves_ledger d p x is others m has (Put x.name f i block) (stamped (volume_for d p x) (put (table_told table) info.number its i block)) by its_ledger
          (put_change m x.name f (volume_for d p x) has.there info.number its its_name i block) (its_delta block) (more_ledger x.ledger by count charge need size kind)

      abbrev Says : Result Unit VolumeFault → Type 0
      Says r = (m : Machine) (c : Command) (v : List ℕ) (l : Ledger) → IsChanged x.ledger by l → IsLeft m c v l others (capacity p.found.blocks) → SpaceSays m c v r

      said : (r : Result Unit VolumeFault) → Says r → (block : List ℕ) (m : Machine) → beside m → SpaceSays m (Put x.name f i block) x.name r
      said r says block m has = says m (Put x.name f i block) x.name its_ledger (more_ledger x.ledger by count charge need size kind) (its_left block m has)

      pub put_full : (e : VolumeFault) → Says (Err e) → (block : List ℕ) → RefusedIn beside (Put x.name f i block) e
      put_full (Refused r) says block m has = put_space m x.name (volume_for d p x) has.there f info.number its its_name i block near more ∙ said (Err (Refused r)) says block m has
      put_full DiskFault says block m has = tt
      put_full (Damaged at want got) says block m has = tt
      put_full Memory says block m has = tt

      pub put_accepted : Says (Ok tt) → AcceptsPut d p x others f i info by
      put_accepted says = record {
        near = near;
        first = first;
        moves = count_is;
        accepted = λ block m has. put_space m x.name (volume_for d p x) has.there f info.number its its_name i block near more ∙ said (Ok tt) says block m has;
      }
