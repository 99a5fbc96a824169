-- What a change of a volume's files leaves that was refused, or failed while it was made.
use Rattle.std.proofs.Common.{Option, ◌≡◌, ◌≢◌, ℕ, ◌+◌, ◌<◌, ◌≤◌, true, refl, sym, ap, subst, ◌∙◌, arith}
use Rattle.std.specs.Prelude.{Result, Ok, Err, OnErr, OnOk, IfOk, IfErr}
use Rattle.std.proofs.lemmas.Bool.{both_ways}
use Rattle.fv_disk.specs.Shown.{Shown as Disk}
use Rattle.fv_disk.specs.declared.fault.BlockFault.{BlockFault}
use Rattle.fv_disk.specs.declared.fault.BlockFault.TheVariants as block
use Rattle.fv_model.specs.declared.commands.Command.{Command}
use Rattle.fv_model.specs.Machines.{Machine}
use Rattle.fv_model.specs.Numbers.{most_changes}
use Rattle.fv_tree.specs.Standing.{under}
use Rattle.fv_files.specs.declared.files.Files.{Files}
use Rattle.fv_files.specs.declared.numbers.FileNumbers.{FileNumbers}
use Rattle.fv_charge.specs.declared.delta.Delta.{Delta}
use Rattle.fv_charge.specs.Changes.{IsChanged, IsDeltaOf}
use Rattle.fv_charge.specs.Ledgers.{IsLedgerOf}
use Rattle.fv_model.specs.Volumes.{Volume}
use Rattle.fv_volmap.specs.Slots.{Volume as Maps, slot_at}
use Rattle.fv_tables.specs.Told.{table_told, Standing}
use Rattle.fv_pool.specs.Lending.{IsTold}
use Rattle.fv_pool.specs.declared.fault.VolumeFault.{VolumeFault}
use Rattle.fv_pool.specs.declared.pool.Pool.{Pool}
use Rattle.fv_volume.specs.declared.state.VolumeState.{VolumeState}
use Rattle.fv_pool.specs.Calls.{GivesUp, Reads}
use Rattle.fv_volume.specs.declared.tables.TableAsked.TheVariants.{Active}
use Rattle.fv_volume.specs.Asking.{TellsActive}
use Rattle.fv_volume.specs.Calls.{Agrees, Changes, KeepsHead}
use Rattle.fv_pool.specs.Causes.{of_block}
use Rattle.fv_volume.specs.Changing.{AltersTable, FitsLedger, KeepsButTable, KeepsTable, RefusedIn}
use Rattle.fv_pool.specs.Tables.{pending_of, AreLaidBy, AreSoundBy}
use Rattle.fv_volume.specs.Placing.{IsLedTo, IsStoredWell}
use Rattle.fv_volume.specs.Labels.{label_said}
use Rattle.fv_volume.specs.OneVolume.{shows, standing_for, table_for, trees_for, volume_for, IsReady, IsStanding}
use Rattle.fv_files.specs.Altering.{AltersTrees}
use Rattle.fv_pool.proofs.CallCauses.{not_refused}
use Rattle.fv_volume.proofs.Changed.{failed_standing, failed_volume}
use Rattle.fv_volume.proofs.OneVolumes.{still_led, still_ready, still_standing, still_table, still_volume, still_well}
use Rattle.fv_volume.proofs.ReadyAgain.{ready_again}
use Rattle.fv_volume.proofs.RightTables.{active_tells, still_tells}
use Rattle.fv_volume.proofs.SharedChanges.{PlacesAltered}

-- a fault of blocks is no refusal
pub no_refusal : (T : Type 0) (m : Machine) (c : Command) (b : BlockFault) → Agrees {T = T} m c (Err (of_block b))
no_refusal T m c block.DiskFault = tt
no_refusal T m c (block.Damaged at want found) = tt
no_refusal T m c block.Memory = tt

-- what is said of an answer's fault, by the answer
pub if_err_is : {T : Type 0} (P : VolumeFault → Type 0) (e : VolumeFault) (r : Result T VolumeFault) → r ≡ Err e → P e → IfErr r P
if_err_is P e r is says = subst (λ s. IfErr s P) (sym is) says

-- what is said of an answer where something holds
pub onok_with : {T E A : Type 0} (P : Type 0) (r : Result T E) → A → OnOk r (A → P) → OnOk r P
onok_with P (Ok x) a says = says a
onok_with P (Err e) a says = tt

pub ifok_with : {T E A : Type 0} (P : T → Type 0) (r : Result T E) → A → IfOk r (λ x. A → P x) → IfOk r P
ifok_with P (Ok x) a says = says a
ifok_with P (Err e) a says = tt

-- what holds, whatever was answered
pub onerr_so : {T E : Type 0} (P : Type 0) (r : Result T E) → P → OnErr r P
onerr_so P (Ok x) is = tt
onerr_so P (Err e) is = is

-- a map that stays
pub same_maps : (m n : Maps) → n ≡ m → GivesUp m n
same_maps m n same = subst (GivesUp m) (sym same) (record { span = refl; snapshots = λ s other. refl; numbers = omega arith; active = λ v does. does })

-- ---- where nothing was changed

module _ (d e : Disk) (p q : Pool) (reads : Reads d p e q) (x y : VolumeState) (same : y ≡ x) where
  pub refused_changes : (has : Machine → Type 0) (c : Command) (r : Result Unit VolumeFault) (fault : VolumeFault) → r ≡ Err fault → RefusedIn has c fault → Changes has c x.name (volume_for d p x) (volume_for e q y) r
  refused_changes has c r fault is refused = subst (λ (z : VolumeState). Changes has c x.name (volume_for d p x) (volume_for e q z) r) (sym same)
      (subst (Changes has c x.name (volume_for d p x) (volume_for e q x)) (sym is) (record { agrees = refused; becomes = tt; stays = still_volume d e p q reads x }))

  pub refused_standing : IsStanding d p x → IsStanding e q y
  refused_standing is = subst (λ (z : VolumeState). IsStanding e q z) (sym same) (still_standing d e p q reads x is)

  pub refused_ready : IsReady d p x → IsReady e q y
  refused_ready is = subst (λ (z : VolumeState). IsReady e q z) (sym same) (still_ready d e p q reads x is)

  -- so its table is kept
  pub refused_table : KeepsTable d p x e q y
  refused_table = record {
    led = λ is. subst (λ (z : VolumeState). IsLedTo e q z) (sym same) (still_led d e p q reads x is);
    well = λ is. subst (λ (z : VolumeState). IsStoredWell e q z) (sym same) (still_well d e p q reads x is);
    room = subst (λ (z : VolumeState). pending_of z.files ≤ pending_of x.files + 14) (sym same) (omega arith);
  }

  -- and told as before
  pub refused_told : table_for e q y ≡ table_for d p x
  refused_told = ap (λ (z : VolumeState). table_for e q z) same ∙ ap (λ (t : Standing). table_told t) (still_table d e p q reads x)

  pub refused_head : (r : Result Unit VolumeFault) (fault : VolumeFault) → r ≡ Err fault → KeepsHead x y r
  refused_head r fault is = subst (λ (z : VolumeState). KeepsHead x z r) (sym same) (subst (KeepsHead x x) (sym is) (record {
    same = refl;
    maps = same_maps x.map x.map refl;
    later = omega arith;
    counted = tt;
    marked = tt;
    unwritten = λ was. was;
    idle = λ unchanged. refl;
    failed = refl;
    refused = λ why none. refl;
  }))

-- ---- where the change failed

-- its label says no more changes than there can be
pub few_changes : (d : Disk) (p : Pool) (x : VolumeState) → IsReady d p x → x.now ≤ most_changes
unfolding label_said
few_changes d p x ready = (ready.labelled.label 0 1 (omega arith) (omega arith) (omega arith)).now

-- nothing is counted before a change was made
pub left_ledger : (x v w : VolumeState) → v ≡ x → KeepsButTable v w → w.ledger ≡ x.ledger
left_ledger x v w same kept = ap (λ (z : VolumeState). z.ledger) (kept ∙ ap (λ (z : VolumeState). record z { map = w.map; files = w.files; changed = true }) same)

-- nor are the numbers of its files touched
pub kept_numbers : (x v w : VolumeState) → v ≡ x → KeepsButTable v w → w.numbers ≡ x.numbers
kept_numbers x v w same kept = ap (λ (z : VolumeState). z.numbers) (kept ∙ ap (λ (z : VolumeState). record z { map = w.map; files = w.files; changed = true }) same)

pub left_more : (x v w : VolumeState) → v ≡ x → KeepsButTable v w → x.now < most_changes → w.now < most_changes
left_more x v w same kept more =
    let now : w.now ≡ x.now = ap (λ (z : VolumeState). z.now) (kept ∙ ap (λ (z : VolumeState). record z { map = w.map; files = w.files; changed = true }) same) in
    omega (arith, now, more)

-- The second part of a change was made or failed; its first part left the volume as it was.
module _ (d e f : Disk) (p q r : Pool) (first : Reads d p e q) (x v w : VolumeState) (same : v ≡ x) {T : Type 0} (result : Result T BlockFault) (alters_it : AltersTable e q f r v w result) where
  abbrev left : VolumeState
  left = record x { map = w.map; files = w.files; changed = true }

  alters : AltersTable e q f r x w result
  alters = subst (λ (z : VolumeState). AltersTable e q f r z w result) same alters_it

  pub left_ready : IsReady d p x → IsReady f r w
  left_ready ready = subst (λ (z : VolumeState). IsReady f r z) (sym alters.same)
      (still_ready e f q r alters.reads left
      (ready_again e q x x.now w.map w.files x.ledger x.numbers (still_ready d e p q first x ready) (few_changes d p x ready) alters.maps.span alters.maps.snapshots
      (let booked = ready.booked in record { size = booked.size; kind = booked.kind; span = booked.span; need = booked.need; charge = booked.charge })))

  pub left_table : IsStanding d p x → KeepsTable d p x f r w
  left_table is =
      let stood = still_standing d e p q first x is in
      record {
        led = λ led. still_led e f q r alters.reads w (alters.led stood (still_led d e p q first x led));
        well = λ well. still_well e f q r alters.reads w (alters.well stood (still_well d e p q first x well));
        room = alters.room stood;
      }

  pub left_fits : (by : Delta) → FitsLedger x by → FitsLedger w by
  left_fits by fits = subst (λ (z : VolumeState). FitsLedger z by) (sym alters.same) (record {
    more = fits.more;
    can = fits.can;
    booked = λ l moved. let b = fits.booked l moved in record { size = b.size; kind = b.kind; span = b.span; need = b.need; charge = b.charge };
  })

-- The second part of a change failed; its first part left the volume as it was.
module _ (d e f : Disk) (p q r : Pool) (first : Reads d p e q) (x v y : VolumeState) (same : v ≡ x) {T : Type 0} (b : BlockFault) (alters_it : AltersTable {T = T} e q f r v y (Err b)) where
  its_alters : AltersTable {T = T} e q f r x y (Err b)
  its_alters = subst (λ (z : VolumeState). AltersTable {T = T} e q f r z y (Err b)) same alters_it

  abbrev its_left : VolumeState
  its_left = record x { map = y.map; files = y.files; changed = true }

  pub failed_head : (res : Result Unit VolumeFault) → res ≡ Err (of_block b) → KeepsHead x y res
  failed_head res is = subst (λ (z : VolumeState). KeepsHead x z res) (sym its_alters.same) (subst (KeepsHead x its_left) (sym is) (record {
    same = refl;
    maps = its_alters.maps;
    later = omega arith;
    counted = tt;
    marked = tt;
    unwritten = λ was. refl;
    idle = λ unchanged. absurd (both_ways true unchanged refl);
    failed = refl;
    refused = λ why none. absurd (not_refused b why none);
  }))

  -- where the disk tells its table it tells the same one
  pub failed_told : TellsActive d p x → table_for f r y ≡ table_for d p x
  failed_told tells = ap (λ (t : Standing). table_told t) (still_table e f q r its_alters.reads y) ∙ its_alters.failed (still_tells d e p q first x Active tells) ∙ ap (λ (t : Standing). table_told t) (still_table d e p q first x)

  module _ (is : IsStanding d p x) where
    now_standing : IsStanding e q x
    now_standing = still_standing d e p q first x is

    its_trees : AreSoundBy (under (shows e q its_left)) (shows e q its_left).used x.active y.files
    its_trees = subst (λ (z : VolumeState). AreSoundBy (under (shows e q z)) (shows e q z).used z.active z.files) its_alters.same (its_alters.trees now_standing)

    its_told : IsTold f r y.map x.slot
    its_told = subst (λ (z : VolumeState). IsTold f r y.map z.slot) its_alters.same (its_alters.told now_standing)

    its_table : table_for e q its_left ≡ table_for e q x
    its_table = subst (λ (z : VolumeState). table_for e q z ≡ table_for e q x) its_alters.same (its_alters.failed (active_tells e q x now_standing))

    its_places : PlacesAltered e q x y.map y.files
    its_places = record {
      alters = subst (λ (z : VolumeState). AltersTrees (x.now + 1) (trees_for e q x) (trees_for e q z)) its_alters.same (its_alters.alters now_standing);
      laid = subst (λ (z : VolumeState). AreLaidBy (under (shows e q z)) z.files) its_alters.same (its_alters.laid now_standing);
    }

    pub failed_stands : IsStanding f r y
    failed_stands = subst (λ (z : VolumeState). IsStanding f r z) (sym its_alters.same) (failed_standing d e f p q r first its_alters.reads x is y.map its_alters.maps.snapshots y.files its_told its_trees its_table its_places)

    pub failed_changes : (has : Machine → Type 0) (c : Command) (res : Result Unit VolumeFault) → res ≡ Err (of_block b) → Changes has c x.name (volume_for d p x) (volume_for f r y) res
    failed_changes has c res failed = subst (λ (z : VolumeState). Changes has c x.name (volume_for d p x) (volume_for f r z) res) (sym its_alters.same)
        (subst (Changes has c x.name (volume_for d p x) (volume_for f r its_left)) (sym failed) (record {
          agrees = λ m there. no_refusal Unit m c b;
          becomes = tt;
          stays = failed_volume d e f p q r first its_alters.reads x is y.map its_alters.maps.snapshots y.files its_told its_trees its_table;
        }))

-- ---- where it was made, and counted

-- its numbers stay, or become others
pub counted_all : (w y : VolumeState) → y ≡ record w { now = y.now; ledger = y.ledger; changed = true } → y ≡ record w { now = y.now; ledger = y.ledger; numbers = y.numbers; changed = true }
counted_all w y is = is ∙ sym (ap (λ (n : Option FileNumbers). record w { now = y.now; ledger = y.ledger; numbers = n; changed = true }) (ap (λ (z : VolumeState). z.numbers) is))

pub counted_table : (d : Disk) (p : Pool) (x : VolumeState) (f : Disk) (r : Pool) (w y : VolumeState) → y ≡ record w { now = y.now; ledger = y.ledger; numbers = y.numbers; changed = true } → KeepsTable d p x f r w → KeepsTable d p x f r y
counted_table d p x f r w y counted kept = subst (λ (z : VolumeState). KeepsTable d p x f r z) (sym counted) (record { led = kept.led; well = kept.well; room = kept.room })

-- The parts of a change, one after another: it was judged, the table was changed, and it was counted.
pub record Parts {T : Type 0} (d e f : Disk) (p q r : Pool) (x v w y : VolumeState) (result : Result T BlockFault) (by : Delta) : Type 0 where
  pub first : Reads d p e q
  pub same : v ≡ x
  pub alters : AltersTable e q f r v w result
  pub counted : y ≡ record w { now = y.now; ledger = y.ledger; numbers = y.numbers; changed = true }
  pub next : y.now ≡ w.now + 1
  pub moved : IsChanged w.ledger by y.ledger
  pub moves : (a b : Volume) → IsLedgerOf a w.ledger → IsDeltaOf a b by → IsLedgerOf b y.ledger

pub parts_of : {T : Type 0} {d e f : Disk} {p q r : Pool} {x v w y : VolumeState} {result : Result T BlockFault} {by : Delta} → Reads d p e q → v ≡ x → AltersTable e q f r v w result
    → y ≡ record w { now = y.now; ledger = y.ledger; numbers = y.numbers; changed = true } → y.now ≡ w.now + 1 → IsChanged w.ledger by y.ledger
    → ((a b : Volume) → IsLedgerOf a w.ledger → IsDeltaOf a b by → IsLedgerOf b y.ledger) → Parts d e f p q r x v w y result by
parts_of first same alters counted next moved moves = record { first = first; same = same; alters = alters; counted = counted; next = next; moved = moved; moves = moves }

-- What a change leaves of a volume's maps and trees: the slots of its snapshots, and blocks and trees that stand.
pub record LeavesTrees (e f : Disk) (q r : Pool) (x : VolumeState) (map : Maps) (files : Option Files) : Type 0 where
  pub slots : (k : ℕ) → k ≢ 0 → slot_at map k ≡ slot_at x.map k
  pub told : IsTold f r map x.slot
  pub trees : AreSoundBy (under (shows e q (record x { map = map }))) (shows e q (record x { map = map })).used x.active files

module _ {T : Type 0} (d e f : Disk) (p q r : Pool) (x v w y : VolumeState) (result : Result T BlockFault) (by : Delta) (parts : Parts d e f p q r x v w y result by) where
  -- the volume once its table was changed, and once that was counted
  abbrev pub left_so : VolumeState
  left_so = record x { map = w.map; files = w.files; changed = true }

  abbrev pub done_so : VolumeState
  done_so = record x { map = w.map; files = w.files; now = y.now; ledger = y.ledger; numbers = y.numbers; changed = true }

  pub is_left : w ≡ left_so
  is_left = parts.alters.same ∙ ap (λ (z : VolumeState). record z { map = w.map; files = w.files; changed = true }) parts.same

  pub is_done : y ≡ done_so
  is_done = parts.counted ∙ ap (λ (z : VolumeState). record z { now = y.now; ledger = y.ledger; numbers = y.numbers; changed = true }) is_left

  -- its numbers were left
  pub left_numbers : w.numbers ≡ x.numbers
  left_numbers = kept_numbers x v w parts.same parts.alters.same

  pub done_next : y.now ≡ x.now + 1
  done_next = parts.next ∙ ap (λ (z : VolumeState). z.now + 1) is_left

  done_moved : IsChanged x.ledger by y.ledger
  done_moved = subst (λ (z : VolumeState). IsChanged z.ledger by y.ledger) is_left parts.moved

  pub done_moves : (a b : Volume) → IsLedgerOf a x.ledger → IsDeltaOf a b by → IsLedgerOf b y.ledger
  done_moves = subst (λ (z : VolumeState). (a b : Volume) → IsLedgerOf a z.ledger → IsDeltaOf a b by → IsLedgerOf b y.ledger) is_left parts.moves

  left_span : w.map.span ≡ x.map.span
  left_span = parts.alters.maps.span ∙ ap (λ (z : VolumeState). z.map.span) parts.same

  left_slots : (k : ℕ) → k ≢ 0 → slot_at w.map k ≡ slot_at x.map k
  left_slots k other = parts.alters.maps.snapshots k other ∙ ap (λ (z : VolumeState). slot_at z.map k) parts.same

  pub done_ready : IsReady d p x → FitsLedger w by → IsReady f r y
  done_ready ready fits_it =
      let fits = subst (λ (z : VolumeState). FitsLedger z by) is_left fits_it in
      let booked = fits.booked y.ledger done_moved in
      let more = fits.more in
      let n = done_next in
      subst (λ (z : VolumeState). IsReady f r z) (sym is_done)
      (still_ready e f q r parts.alters.reads done_so
      (ready_again e q x y.now w.map w.files y.ledger y.numbers (still_ready d e p q parts.first x ready) (omega (arith, more, n)) left_span left_slots
      (record { size = booked.size; kind = booked.kind; span = booked.span; need = booked.need; charge = booked.charge })))

  pub done_head : KeepsHead {T = Unit {0}} x y (Ok tt)
  done_head = record {
    same = is_done ∙ sym (ap (λ (z : VolumeState). record x { now = z.now; map = z.map; files = z.files; numbers = z.numbers; ledger = z.ledger; changed = z.changed }) is_done);
    maps = subst (λ (z : VolumeState). GivesUp x.map z.map) (sym is_done) (subst (λ (z : VolumeState). GivesUp z.map w.map) parts.same parts.alters.maps);
    later = (let n = done_next in omega (arith, n));
    counted = done_next;
    marked = ap (λ (z : VolumeState). z.changed) is_done;
    unwritten = λ was. ap (λ (z : VolumeState). z.changed) is_done;
    idle = λ unchanged. absurd (both_ways y.changed unchanged (ap (λ (z : VolumeState). z.changed) is_done));
    failed = tt;
    refused = tt;
  }

  -- before it was judged the volume stood
  module _ (is : IsStanding d p x) where
    stood : IsStanding e q v
    stood = subst (λ (z : VolumeState). IsStanding e q z) (sym parts.same) (still_standing d e p q parts.first x is)

    done_told : IsTold f r w.map x.slot
    done_told = subst (λ (z : VolumeState). IsTold f r w.map z.slot) is_left (parts.alters.told stood)

    done_trees : AreSoundBy (under (shows e q left_so)) (shows e q left_so).used x.active w.files
    done_trees = subst (λ (z : VolumeState). AreSoundBy (under (shows e q z)) (shows e q z).used z.active z.files) is_left (parts.alters.trees stood)

    pub done_leaves : LeavesTrees e f q r x w.map w.files
    done_leaves = record { slots = left_slots; told = done_told; trees = done_trees }

    pub done_places : PlacesAltered e q x w.map w.files
    done_places = record {
      alters = subst (λ (z : VolumeState). AltersTrees (x.now + 1) (trees_for e q x) (trees_for e q z)) is_left
          (subst (λ (z : VolumeState). AltersTrees (z.now + 1) (trees_for e q z) (trees_for e q w)) parts.same (parts.alters.alters stood));
      laid = subst (λ (z : VolumeState). AreLaidBy (under (shows e q z)) z.files) is_left (parts.alters.laid stood);
    }

    -- what is said of the table before and after its change
    pub done_says : (says : Standing → Standing → ℕ → Type 0) → (IsStanding e q v → says (standing_for e q v) (standing_for e q w) (v.now + 1)) → says (standing_for e q x) (standing_for e q left_so) (x.now + 1)
    done_says says made = subst (λ (z : VolumeState). says (standing_for e q x) (standing_for e q z) (x.now + 1)) is_left
        (subst (λ (z : VolumeState). says (standing_for e q z) (standing_for e q w) (z.now + 1)) parts.same (made stood))
