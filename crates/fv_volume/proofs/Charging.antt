-- How the ledger of a volume alone changes by each command, what the machine says of the space for it, and how the members of a map are counted.
use Rattle.std.proofs.Common.{◌≡◌, ℕ, ◌+◌, pos, ◌+ℤ◌, List, Option, Some, refl, sym, ap, ◌∙◌, arith}
use Rattle.std.specs.Option.{option_map_or}
use Rattle.std.specs.FinMap as fin
use Rattle.std.proofs.lemmas.Int.{ints}
use Rattle.fv_model.specs.declared.commands.Command.{Command}
use Rattle.fv_model.specs.declared.commands.Command.TheVariants.{New, Put, Cut, Remove}
use Rattle.fv_model.specs.Tables.{File, Table, inode_cell, free_number, file_named, new, put, cut, rm}
use Rattle.fv_model.specs.Volumes.{Volume}
use Rattle.fv_model.specs.Machines.{Machine, capacity}
use Rattle.fv_model.specs.Space.{charge, need, commit, commits}
use Rattle.fv_model.specs.Effects.{Change, Stays, Becomes, changed, change_of, at_file, stamped}
use Rattle.fv_laws.specs.WellFormed.{IsWellTable}
use Rattle.fv_laws.specs.Paths.{cut_path, new_path, put_path}
use Rattle.fv_laws.specs.Positions.{positions, added_by, rm_places, staying, taken_by_cut, taken_by_rm, IsNextNew, HasNoReserve}
use Rattle.fv_laws.proofs.Along.{cut_along, new_along, put_along, rm_along}
use Rattle.fv_laws.proofs.Charges.{charge_after}
use Rattle.fv_laws.proofs.Commits.{now_there, commits_put}
use Rattle.fv_laws.proofs.Moves.{new_positions, put_positions, cut_positions, rm_positions}
use Rattle.fv_laws.proofs.PathCharges.{no_need, new_unreserved, put_unreserved, cut_unreserved, rm_unreserved}
use Rattle.fv_charge.specs.declared.ledger.Ledger.{Ledger}
use Rattle.fv_charge.specs.declared.delta.Delta.{Delta}
use Rattle.fv_charge.specs.Ledgers.{IsLedgerOf}
use Rattle.fv_charge.specs.Changes.{IsDeltaOf, IsLeft}
use Rattle.fv_volume.specs.Charging.{MovesBlocks}

-- ---- what a change charges

-- by its active table alone, where no settled id has the stamp of the next change
module _ (x : Volume) (is : IsWellTable x.now x.active) (fresh : IsNextNew x) where
  abbrev t : Table
  t = x.active

  more : (c p d q a st : ℕ) → d + p ≡ c + q + st → q ≡ p + a → d + 0 ≡ c + a + st
  more c p d q a st e f = omega (arith, e, f)

  less : (c p d q a st : ℕ) → d + p ≡ c + q + st → q + a ≡ p → d + a ≡ c + 0 + st
  less c p d q a st e f = omega (arith, e, f)

  new_charges : (name : List ℕ) (reserve : ℕ) → charge (stamped x (new t name reserve)) + 0 ≡ charge x + added_by t.inode (inode_cell (free_number t)) + staying x (new_path t)
  new_charges name reserve = more (charge x) (positions t) (charge (stamped x (new t name reserve))) (positions (new t name reserve (x.now + 1))) (added_by t.inode (inode_cell (free_number t))) (staying x (new_path t))
      (charge_after x (new t name reserve) (new_path t) (new_along t name reserve (x.now + 1)) fresh) (new_positions x.now (x.now + 1) t is name reserve)

  put_charges : (n : ℕ) (f : File) (i : ℕ) (block : List ℕ) → fin.get t.files n ≡ Some f → charge (stamped x (put t n f i block)) + 0 ≡ charge x + added_by f.tree i + staying x (put_path t n f i)
  put_charges n f i block there = more (charge x) (positions t) (charge (stamped x (put t n f i block))) (positions (put t n f i block (x.now + 1))) (added_by f.tree i) (staying x (put_path t n f i))
      (charge_after x (put t n f i block) (put_path t n f i) (put_along t n f i block (x.now + 1) there) fresh) (put_positions x.now (x.now + 1) t is n f i block there)

  pub cut_charges : (n : ℕ) (f : File) (most : ℕ) → fin.get t.files n ≡ Some f → charge (stamped x (cut t n f most)) + taken_by_cut f most ≡ charge x + 0 + staying x (cut_path t n f most)
  cut_charges n f most there = less (charge x) (positions t) (charge (stamped x (cut t n f most))) (positions (cut t n f most (x.now + 1))) (taken_by_cut f most) (staying x (cut_path t n f most))
      (charge_after x (cut t n f most) (cut_path t n f most) (cut_along x.now (x.now + 1) t is n f there most) fresh) (cut_positions x.now (x.now + 1) t is (omega arith) n f most there)

  pub rm_charges : (n : ℕ) (f : File) → fin.get t.files n ≡ Some f → charge (stamped x (rm t n)) + taken_by_rm t n f ≡ charge x + 0 + staying x (rm_places t n f)
  rm_charges n f there = less (charge x) (positions t) (charge (stamped x (rm t n))) (positions (rm t n (x.now + 1))) (taken_by_rm t n f) (staying x (rm_places t n f))
      (charge_after x (rm t n) (rm_places t n f) (rm_along x.now (x.now + 1) t is n f there) fresh) (rm_positions x.now (x.now + 1) t is (omega arith) n f there)

-- ---- as changes of a ledger

module _ (x : Volume) (is : IsWellTable x.now x.active) (fresh : IsNextNew x) (none : HasNoReserve x.active) (d : Delta) where
  -- a change of the active table, of which the volume's charge is known, needs nothing where no file has a reserve
  moves : (table : ℕ → Table) (added staying taken : ℕ) → MovesBlocks x added staying taken d → charge (stamped x table) + taken ≡ charge x + added + staying → HasNoReserve (table (x.now + 1)) → IsDeltaOf x (stamped x table) d
  moves table added staying taken by charge_is still = record {
    charge = (let moved = by.charge in let e : pos (charge (stamped x table)) ≡ (pos (charge x) +ℤ d.charge) = omega (arith, ints, charge_is, moved) in e);
    need = (let before = no_need x none in let after = no_need (stamped x table) still in let e : pos (need (stamped x table)) ≡ (pos (need x) +ℤ pos 0) = omega (arith, ints, before, after) in e) ∙ ap (λ z. pos (need x) +ℤ z) (sym by.need);
    size = by.size;
    kind = by.kind;
    span = refl;
  }

  pub new_delta : (name : List ℕ) → MovesBlocks x (added_by x.active.inode (inode_cell (free_number x.active))) (staying x (new_path x.active)) 0 d → IsDeltaOf x (stamped x (new x.active name 0)) d
  new_delta name by = moves (new x.active name 0) (added_by x.active.inode (inode_cell (free_number x.active))) (staying x (new_path x.active)) 0 by (new_charges x is fresh name 0) (new_unreserved x.active none name (x.now + 1))

  pub put_delta : (n : ℕ) (f : File) (i : ℕ) (block : List ℕ) → fin.get x.active.files n ≡ Some f → MovesBlocks x (added_by f.tree i) (staying x (put_path x.active n f i)) 0 d → IsDeltaOf x (stamped x (put x.active n f i block)) d
  put_delta n f i block there by = moves (put x.active n f i block) (added_by f.tree i) (staying x (put_path x.active n f i)) 0 by (put_charges x is fresh n f i block there) (put_unreserved x.active none n f i block (x.now + 1) there)

  pub cut_delta : (n : ℕ) (f : File) (most : ℕ) → fin.get x.active.files n ≡ Some f → MovesBlocks x 0 (staying x (cut_path x.active n f most)) (taken_by_cut f most) d → IsDeltaOf x (stamped x (cut x.active n f most)) d
  cut_delta n f most there by = moves (cut x.active n f most) 0 (staying x (cut_path x.active n f most)) (taken_by_cut f most) by (cut_charges x is fresh n f most there) (cut_unreserved x.active none n f most (x.now + 1) there)

  pub rm_delta : (n : ℕ) (f : File) → fin.get x.active.files n ≡ Some f → MovesBlocks x 0 (staying x (rm_places x.active n f)) (taken_by_rm x.active n f) d → IsDeltaOf x (stamped x (rm x.active n)) d
  rm_delta n f there by = moves (rm x.active n) 0 (staying x (rm_places x.active n f)) (taken_by_rm x.active n f) by (rm_charges x is fresh n f there) (rm_unreserved x.active none n (x.now + 1))

-- ---- what the machine says

-- A command that makes one volume another leaves the machine with its ledger, beside what the others commit.
pub left_by : (m : Machine) (c : Command) (v : List ℕ) (x y : Volume) (l : Ledger) (others blocks : ℕ) → fin.get m.volumes v ≡ Some x → change_of m c ≡ Becomes v y
    → commits m ≡ others + commit x → IsLedgerOf y l → blocks ≡ capacity m.blocks → IsLeft m c v l others blocks
left_by m c v x y l others blocks there change sum ledger capacity_is = record {
  volume = y;
  there = ap (λ (z : Change). fin.get (changed m z).volumes v) change ∙ now_there m v y;
  ledger = ledger;
  sum = ap (λ (z : Change). commits (changed m z)) change ∙ total (commits (changed m (Becomes v y))) (commit x) (commits m) (commit y) others (commits_put m v x y there) sum;
  capacity = capacity_is ∙ ap (λ (z : Change). capacity (changed m z).blocks) (sym change);
}
  where
    total : (a b c d o : ℕ) → a + b ≡ c + d → c ≡ o + b → a ≡ o + d
    total a b c d o e f = omega (arith, e, f)

module _ (m : Machine) (v f : List ℕ) (x : Volume) (there : fin.get m.volumes v ≡ Some x) where
  pub new_change : (reserve : ℕ) → change_of m (New v f reserve) ≡ Becomes v (stamped x (new x.active f reserve))
  unfolding change_of
  new_change reserve = ap (λ (o : Option Volume). option_map_or (λ (y : Volume). Becomes v (stamped y (new y.active f reserve))) o Stays) there

  module _ (n : ℕ) (file : File) (named : file_named x.active f ≡ Some (n, file)) where
    pub put_change : (i : ℕ) (block : List ℕ) → change_of m (Put v f i block) ≡ Becomes v (stamped x (put x.active n file i block))
    unfolding change_of
    put_change i block =
        ap (λ (o : Option Volume). option_map_or (λ (y : Volume). at_file y f (λ n file. Becomes v (stamped y (put y.active n file i block)))) o Stays) there
        ∙ ap (λ (o : Option (ℕ × File)). option_map_or (λ (e : ℕ × File). Becomes v (stamped x (put x.active e.0 e.1 i block))) o Stays) named

    pub cut_change : (most : ℕ) → change_of m (Cut v f most) ≡ Becomes v (stamped x (cut x.active n file most))
    unfolding change_of
    cut_change most =
        ap (λ (o : Option Volume). option_map_or (λ (y : Volume). at_file y f (λ n file. Becomes v (stamped y (cut y.active n file most)))) o Stays) there
        ∙ ap (λ (o : Option (ℕ × File)). option_map_or (λ (e : ℕ × File). Becomes v (stamped x (cut x.active e.0 e.1 most))) o Stays) named

    pub rm_change : change_of m (Remove v f) ≡ Becomes v (stamped x (rm x.active n))
    unfolding change_of
    rm_change =
        ap (λ (o : Option Volume). option_map_or (λ (y : Volume). at_file y f (λ n file. Becomes v (stamped y (rm y.active n)))) o Stays) there
        ∙ ap (λ (o : Option (ℕ × File)). option_map_or (λ (e : ℕ × File). Becomes v (stamped x (rm x.active e.0))) o Stays) named

-- ---- counted by a map
