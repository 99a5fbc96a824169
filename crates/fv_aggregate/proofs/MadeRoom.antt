-- The point that made room for a command, as the command leaves it.
use Rattle.std.proofs.Common.{◌≡◌, ◌<◌, ◌+◌, ◌⊎◌, ⊎_elim, ℕ, Bool, true, false, List, Result, Ok, Err, true≢false, refl, sym, ap, subst, ◌∙◌, arith, Option, Some, None}
use Rattle.std.specs.Prelude.{IfOk, IsTrue, if◌then◌else◌, ◌==◌}
use Rattle.std.specs.Option.{is_some}
use Rattle.std.specs.FinMap as fin
use Rattle.std.specs.Ordering.{nat_cmp}
use Rattle.fv_disk.specs.Shown.{Image, Shown}
use Rattle.fv_disk.specs.DiskCalls.{OnlyReads}
use Rattle.fv_codec.specs.declared.label.Label.{Label}
use Rattle.fv_store.specs.declared.store.Store.{Store}
use Rattle.fv_container.specs.declared.entry.Entry.{Entry}
use Rattle.fv_container.specs.Mapped.{entry_under}
use Rattle.fv_delay.specs.Holding.{has_region}
use Rattle.fv_delay.specs.Reclaims.{goes_with}
use Rattle.fv_image.specs.Held.{view_at, entry_from, label_in, label_lying}
use Rattle.fv_image.specs.Containers.{container_entry}
use Rattle.fv_image.specs.NewerRoot.{Taken}
use Rattle.fv_image.specs.Views.{entry_count, Placed, View}
use Rattle.fv_root.specs.Finding.{root_found}
use Rattle.fv_model.specs.declared.answers.Refusal.{Refusal}
use Rattle.fv_model.specs.declared.answers.Reply.{Reply}
use Rattle.fv_model.specs.declared.answers.Reply.TheVariants.{Refused}
use Rattle.fv_model.specs.declared.commands.Command.{Command}
use Rattle.fv_model.specs.declared.commands.Command.TheVariants.{Cp, VolCreate, VolList, New, Put, Cut, Remove, SnapCreate, SnapList, CloneCreate, Mirror}
use Rattle.fv_model.specs.Machines.{Machine}
use Rattle.fv_pool.specs.Calls.{Reads}
use Rattle.fv_pool.specs.Keeping.{kept_or, seen}
use Rattle.fv_volume.specs.States.{States, placed_in}
use Rattle.fv_volume.specs.Stored.{map_entry}
use Rattle.fv_cp.specs.Choosing.{LeavesRoom, regions_chosen, CountsMissing}
use Rattle.fv_aggregate.specs.declared.fault.Fault.{Fault}
use Rattle.fv_aggregate.specs.declared.session.Session.{Session}
use Rattle.fv_aggregate.specs.Calls.{WasRead}
use Rattle.fv_aggregate.specs.Commands.{dirty_limit, file_room, is_built, is_refusal, managed_by, room_by, room_with}
use Rattle.fv_aggregate.specs.Looking.{HasJudged}
use Rattle.fv_aggregate.specs.Numbering.{HasNumbered}
use Rattle.fv_aggregate.specs.Reclaiming.{HasMadeRoom, HasPointed, MakesRoom, ReclaimsEntries}
use Rattle.fv_aggregate.specs.Standing.{StandsFor, StandsReady}
use Rattle.fv_aggregate.proofs.Looked.{stands_for_read}

-- ---- nothing is claimed

-- a refused command made no room
pub refused_roomy : (room : ℕ) (d : Shown) (s : Session) (e : Shown) (r : Refusal) → MakesRoom room d s e (Ok (Refused r))
refused_roomy room d s e r tells last m is some past accepted = absurd (true≢false accepted)

-- with a room within the dirty limit no room has to be made
pub calm_roomy : (room : ℕ) (d : Shown) (s : Session) (e : Shown) (r : Result Reply Fault) → (dirty_limit < s.pending + room → ⊥) → MakesRoom room d s e r
calm_roomy room d s e (Ok y) calm = λ tells last m is some past accepted. absurd (calm past)
calm_roomy room d s e (Err f) calm = λ tells last m is some past. tt

-- nor for a command without room
pub none_roomy : (room : ℕ) (d : Shown) (s : Session) (e : Shown) (r : Result Reply Fault) → room ≡ 0 → MakesRoom room d s e r
none_roomy room d s e (Ok y) none = λ tells last m is some past accepted. absurd (some none)
none_roomy room d s e (Err f) none = λ tells last m is some past. tt

-- one that failed says nothing of it
pub failed_roomy : (room : ℕ) (d : Shown) (s : Session) (e : Shown) (f : Fault) (r : Result Reply Fault) → r ≡ Err f → MakesRoom room d s e r
failed_roomy room d s e f r is = subst (MakesRoom room d s e) (sym is) (λ tells last m stands some past. tt)

pub list_room : (states : States) (c : Command) → c ≡ VolList → room_by states c ≡ 0
unfolding room_with
list_room states c is = ap (λ (k : Command). room_by states k) is

pub snaps_room : (states : States) (c : Command) (name : List ℕ) → c ≡ SnapList name → room_by states c ≡ 0
unfolding room_with
snaps_room states c name is = ap (λ (k : Command). room_by states k) is

pub cp_room : (states : States) (c : Command) → c ≡ Cp → room_by states c ≡ 0
unfolding room_with
cp_room states c is = ap (λ (k : Command). room_by states k) is

-- a command on a whole volume, and one that isn't built, has none
pub managed_room : (maps : List ℕ → ℕ) (spans : List ℕ → List ℕ → ℕ → ℕ) (wides : List ℕ → ℕ → ℕ) (copies : List ℕ → List ℕ → ℕ → ℕ) (c : Command) → (is_some (managed_by c) ≡ true) ⊎ (is_built c ≡ false) → room_with maps spans wides copies c ≡ 0
unfolding room_with is_built
managed_room maps spans wides copies (VolCreate v size kind) either = ⊎_elim (λ some. absurd (true≢false (sym some))) (λ none. absurd (true≢false none)) either
managed_room maps spans wides copies (New v f reserve) either = ⊎_elim (λ some. absurd (true≢false (sym some))) (λ none. ap (λ (b : Bool). if b then file_room else 0) none) either
managed_room maps spans wides copies (Put v f index block) either = ⊎_elim (λ some. absurd (true≢false (sym some))) (λ none. absurd (true≢false none)) either
managed_room maps spans wides copies (Cut v f long) either = ⊎_elim (λ some. absurd (true≢false (sym some))) (λ none. absurd (true≢false none)) either
managed_room maps spans wides copies (Remove v f) either = ⊎_elim (λ some. absurd (true≢false (sym some))) (λ none. absurd (true≢false none)) either
managed_room maps spans wides copies (SnapCreate v snapshot) either = ⊎_elim (λ some. absurd (true≢false (sym some))) (λ none. absurd (true≢false none)) either
managed_room maps spans wides copies (CloneCreate clone parent snapshot size kind) either = ⊎_elim (λ some. absurd (true≢false (sym some))) (λ none. absurd (true≢false none)) either
managed_room maps spans wides copies (Mirror source snapshot mirror size kind) either = ⊎_elim (λ some. absurd (true≢false (sym some))) (λ none. absurd (true≢false none)) either
managed_room maps spans wides copies c either = refl

-- ---- entries that are shown

none_some : (p : Placed) → ◌≡◌ {A = Option Placed} None (Some p) → ⊥
none_some p e = cc

some_same : (q p : Placed) → ◌≡◌ {A = Option Placed} (Some q) (Some p) → q ≡ p
some_same q p e = cc

-- an entry under a root has the block that stands at its place
module _ (j : Image) (p : Placed) where
  of_pair : (place kind : ℕ) (none : Bool) → (if none then None else Some (record { pvbn = place; kind = kind; block = j place })) ≡ Some p → p.block ≡ j p.pvbn
  of_pair place kind true is = absurd (none_some p is)
  of_pair place kind false is =
      let same = some_same (record { pvbn = place; kind = kind; block = j place }) p is in
      ap (λ (q : Placed). q.block) (sym same) ∙ ap (λ (q : Placed). j q.pvbn) same

  of_label : (o : Option Label) (v : ℕ) → entry_from o j v ≡ Some p → p.block ≡ j p.pvbn
  unfolding entry_from
  of_label None v is = absurd (none_some p is)
  of_label (Some l) v is =
      let pair = container_entry j l.container l.height (entry_count l.span) v in
      of_pair pair.0 pair.1 (pair.1 == 0) is

  block_there : (t : Taken) (s v : ℕ) → (view_at t j).entry s v ≡ Some p → p.block ≡ j p.pvbn
  unfolding view_at
  block_there t s v is = of_label (label_in (label_lying t j s)) v is

-- so where two images have the same view, an entry that is shown by the one is shown by the other
module _ (t : Taken) (i j : Image) (same : view_at t j ≡ view_at t i) (s v : ℕ) where
  seen_there : (b : ℕ) → seen fin.empty j b ≡ j b
  seen_there b = ap (λ (o : Option (List ℕ)). kept_or o (j b)) (fin.get-empty nat_cmp b)

  shown_then : (o : Option Entry) → (view_at t i).entry s v ≡ placed_in fin.empty i o → (view_at t j).entry s v ≡ placed_in fin.empty j o
  shown_then o is = by o (ap (λ (w : View). w.entry s v) same ∙ is)
    where
      by : (o : Option Entry) → (view_at t j).entry s v ≡ placed_in fin.empty i o → (view_at t j).entry s v ≡ placed_in fin.empty j o
      by None is = is
      by (Some e) is =
          let there = block_there j (record { pvbn = e.pvbn; kind = e.kind; block = seen fin.empty i e.pvbn }) t s v is in
          is ∙ ap (λ (b : List ℕ). Some (record { pvbn = e.pvbn; kind = e.kind; block = b })) (there ∙ sym (seen_there e.pvbn))

-- ---- what a point left is there still while the disk is only read

-- What it made of the entries is there still where the root shows the same, whatever the cache holds.
pub entries_over : (want : ℕ) (first mid : Session) (store : Store) (e k : Shown) → view_at (root_found mid.pool.found) k.reads ≡ view_at (root_found mid.pool.found) e.reads
    → ReclaimsEntries want first e mid → ReclaimsEntries want first k (record mid { pool = record mid.pool { store = store } })
entries_over want first mid store e k view is = record {
  mid = is.mid;
  between = is.between;
  found = is.found;
  version = is.version;
  same = is.same;
  maps = is.maps;
  placed = is.placed;
  unused = is.unused;
  rest = is.rest;
  chosen = is.chosen;
  missing = subst (λ (w : View). CountsMissing is.mid is.between w want) (sym view) is.missing;
  there = is.there;
  written = λ s v x map inside here its writes. let one = is.written s v x map inside here its writes in
      (one.0, (one.1.0, shown_then (root_found mid.pool.found) e.reads k.reads view s v (Some (map_entry one.0)) one.1.1));
  others = λ s v x map inside here its stays. shown_then (root_found mid.pool.found) e.reads k.reads view s v
      (if goes_with x.map map (has_region (regions_chosen is.mid is.between want) s) v then None else entry_under map v) (is.others s v x map inside here its stays);
}

pub entries_still : (want : ℕ) (first mid : Session) (e k : Shown) → k.reads ≡ e.reads → ReclaimsEntries want first e mid → ReclaimsEntries want first k mid
entries_still want first mid e k same = entries_over want first mid mid.pool.store e k (ap (λ (i : Image). view_at (root_found mid.pool.found) i) same)

pointed_read : (want : ℕ) (first mid : Session) (e k : Shown) (m : Machine) → OnlyReads e k → StandsReady e mid → HasPointed want first e mid m → HasPointed want first k mid m
pointed_read want first mid e k m reads stands is = record {
  next = is.next;
  stands = stands_for_read e k mid mid.pool all_read m m is.stands;
  room = subst (λ (i : Image). LeavesRoom (view_at (root_found mid.pool.found) i) want) (sym reads.stays.reads) is.room;
  entries = entries_still want first mid e k reads.stays.reads is.entries;
}
  where
    all_read : Reads e mid.pool k mid.pool
    all_read = record {
      only_reads = reads;
      leaves = record { map = refl; containers = refl; kept = refl; found = refl; version = refl };
      stands = record { same = λ tells pvbn block has. subst (λ (i : Image). block ≡ i pvbn) (sym reads.stays.reads) (stands.stands.cache.same (subst IsTrue reads.stays.tells tells) pvbn block has) };
    }

-- ---- room was made

-- for a command that reaches the disk no more
pub made_room : (room : ℕ) (s : Session) (e : Shown) (mid : Session) (m : Machine) → HasPointed room s e mid m → HasMadeRoom room s e m
made_room room s e mid m pointed = record {
  first = s;
  read = record { map = refl; containers = refl; kept = refl; found = refl; version = refl };
  same = λ k. refl;
  mid = mid;
  pointed = pointed;
}

-- behind a read
pub read_room : (room : ℕ) (d : Shown) (s : Session) (e : Shown) (n : Session) → WasRead d s e n → (g : Shown) (m : Machine) → HasMadeRoom room n g m → HasMadeRoom room s g m
read_room room d s e n read g m made = record {
  first = made.first;
  read = record {
    map = made.read.map ∙ read.pool.map;
    containers = made.read.containers ∙ read.pool.containers;
    kept = made.read.kept ∙ read.pool.kept;
    found = made.read.found ∙ read.pool.found;
    version = made.read.version ∙ read.pool.version;
  };
  same = λ k. made.same k ∙ read.volumes k;
  mid = made.mid;
  pointed = made.pointed;
}

-- and in front of one
pub room_read : (room : ℕ) (s : Session) (e k : Shown) (mid : Session) (m : Machine) → OnlyReads e k → StandsReady e mid → HasPointed room s e mid m → HasMadeRoom room s k m
room_read room s e k mid m reads stands pointed = made_room room s k mid m (pointed_read room s mid e k m reads stands pointed)

-- what is said of an accepted reply
accepts : (X Y : Type 0) → (X → Y) → (r : Result Reply Fault) → IfOk r (λ reply. is_refusal reply ≡ false → X) → IfOk r (λ reply. is_refusal reply ≡ false → Y)
accepts X Y to (Ok y) is = λ accepted. to (is accepted)
accepts X Y to (Err f) is = tt

pub always : (X : Type 0) → X → (r : Result Reply Fault) → IfOk r (λ reply. is_refusal reply ≡ false → X)
always X x (Ok y) = λ accepted. x
always X x (Err f) = tt

module _ (slot : ℕ) (d : Shown) (s : Session) (c : Command) (e : Shown) (n : Session) where
  -- the numbers of files were read first
  pub roomy_numbered : HasNumbered slot d s e n (Ok tt) → (room : ℕ) (g : Shown) (r : Result Reply Fault) → MakesRoom room e n g r → MakesRoom room d s g r
  roomy_numbered read room g r roomy tells last m is some past =
      let first = read.goes_for tells last m is in
      let same : n.pending ≡ s.pending = ap (λ (k : Session). k.pending) read.read.same in
      accepts _ _ (read_room room d s e n read.read g m) r
      (roomy (subst IsTrue (sym read.goes.ends.tells) tells) first.done.point m first.done.stands some (omega (arith, past, same)))

  -- the command was judged, room was made, and then it was carried out
  pub roomy_judged : (y : Reply) → HasJudged slot d s c e n (Ok y) → (room : ℕ) (h : Shown) (mid : Session) → StandsReady h mid
      → (IsTrue e.tells → (last m : Machine) → StandsFor e n last m → dirty_limit < n.pending + room → HasPointed room n h mid m)
      → (k : Shown) → OnlyReads h k → (r : Result Reply Fault) → MakesRoom room d s k r
  roomy_judged y judged room h mid stands made k reads r tells last m is some past =
      let first = judged.goes_for tells last m is in
      let same : n.pending ≡ s.pending = ap (λ (k : Session). k.pending) judged.read.same in
      always _ (read_room room d s e n judged.read k m (room_read room n h k mid m reads stands
      (made (subst IsTrue (sym judged.goes.ends.tells) tells) first.done.point m first.done.stands (omega (arith, past, same))))) r
