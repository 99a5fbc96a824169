-- A mirror that was admitted is made of its source.
use Rattle.std.proofs.Common.{◌≡◌, ◌<◌, ◌≤◌, ◌+◌, ℕ, Bool, true, false, ◌||◌, List, [], length, Option, Some, None, Result, Ok, Err, refl, sym, ap, subst, ◌∙◌, arith, inl, inr, ⊎_elim}
use Rattle.std.specs.Prelude.{IfErr, IfSome, IsErrAnd, IsSome}
use Rattle.std.specs.Option.{is_some}
use Rattle.std.proofs.lemmas.Bool.{cases_Bool}
use Rattle.fv_disk.specs.Shown.{Shown as Disk}
use Rattle.fv_bits.specs.Members.{is_member}
use Rattle.fv_aggmap.specs.Space.{Space, free_blocks}
use Rattle.std.proofs.lemmas.List.{length-replicate}
use Rattle.fv_container.specs.declared.entry.Entry.{Entry}
use Rattle.fv_container.specs.Chains.{chain_entry, paged_at, slot_count, with_container, with_parent}
use Rattle.fv_container.specs.Mapped.{entry_under, node_count}
use Rattle.fv_container.specs.Paged.{Paged, empty_paged}
use Rattle.fv_container.specs.Spelled.{names}
use Rattle.fv_image.specs.Views.{Head, entry_count}
use Rattle.fv_model.specs.declared.commands.Kind.{Kind}
use Rattle.fv_model.specs.Machines.{capacity}
use Rattle.fv_charge.specs.declared.ledger.Ledger.{Ledger}
use Rattle.fv_charge.specs.Ledgers.{committed}
use Rattle.fv_root.specs.declared.find.Found.{Found}
use Rattle.fv_places.specs.ByKind.{form_of}
use Rattle.fv_places.specs.Changed.{Blanks}
use Rattle.fv_pool.specs.declared.pool.Pool.{Pool}
use Rattle.fv_pool.specs.Keeping.{Blocks, seen}
use Rattle.std.specs.FinMap as fin
use Rattle.fv_volmap.specs.Slots.{IsVolume, Slot, map_or_empty, slot_at, slot_count as map_slot_count}
use Rattle.fv_volume.specs.declared.state.Snap.{Snap}
use Rattle.fv_volume.specs.declared.state.VolumeState.{VolumeState}
use Rattle.fv_volume.specs.Files.{IsLabelled}
use Rattle.fv_volume.specs.Mirroring.{IsMirrorOf}
use Rattle.fv_volume.specs.Slots.{sum_of}
use Rattle.fv_volume.specs.States.{States, state_at, with_state}
use Rattle.fv_clone.proofs.Source.{home_inside, home_labelled, home_there, same_home, snap_inside, snap_used, IsOfAsked}
use Rattle.fv_copies.specs.declared.landing.Landing.{Landing}
use Rattle.fv_copies.specs.Copying.{Copy, HasCopied, IsSource, IsWhole, LeavesTaken, content_of, copies_below}
use Rattle.fv_copies.specs.Landings.{AreMarked, HasLanded, AreUnmarked, Lands}
use Rattle.fv_copies.proofs.Landed.{none_named}
use Rattle.fv_copies.proofs.Marking.{marked_none}
use Rattle.fv_copies.proofs.Numbers.{copied_is, copy_at}
use Rattle.fv_volumes.specs.Creating.{CanPut, with_container_on}
use Rattle.fv_mirror.specs.declared.admitting.Admitted.{Admitted}
use Rattle.fv_mirror.specs.Admitting.{Admits, CanMake}
use Rattle.fv_mirror.specs.Making.{CanCopy, HasCopies, HasCopy, IsMirrored, LeavesOthers, source_bits}
use Rattle.fv_mirror.proofs.Counted.{bits_long}

-- A fault is passed on as it is.
pub passed_up : {T E : Type 0} (r : Result T E) (e : E) (P : E → Type 0) → IsErrAnd r (λ f. f ≡ e) → P e → IfErr r P
passed_up (Ok x) e P is p = tt
passed_up (Err f) e P is p = subst P (sym is) p

-- One that is admitted can be made.
pub can_make : (states : States) (blocks : ℕ) (name : List ℕ) (size : ℕ) (kind : Kind) (a : Admitted) → Admits states blocks name size kind a → CanMake states blocks name size kind a
can_make states blocks name size kind a is = record {
  asked = is.asked;
  source_is = is.source_is;
  span_is = is.span_is;
  most = is.most;
  free = is.free;
  fits = is.fits;
  room = is.room;
}

module _ (disk : Disk) (pool : Pool) (source : ℕ) (bits : List Bool) (container : Paged) (marks : List Bool) (after : Disk) (mid left : Pool) (next : left.map ≡ mid.map) (kept : left.kept ≡ mid.kept)
    (marked : AreMarked pool.map marks mid.map) (was : HasCopied disk pool source (copies_below bits (length bits)) (HasLanded container marks mid (content_of after)) []) where
  abbrev landed : HasLanded container marks mid (content_of after) was.copies
  landed = was.taken

  has_copy : (v : ℕ) → is_member bits v ≡ true → HasCopy disk pool source container.map after left v
  has_copy v is =
      let at = copy_at was.copies v (copied_is bits was.copies was.numbers_are v ∙ is) in
      let none : Copy = record { vvbn = 0; kind = 0; block = [] } in
      let copy = was.each at.at none at.low in
      let land = landed.each at.at none at.low in
      record {
        from = copy.entry;
        entry = land.entry;
        there = ap (chain_entry pool.containers source) (sym (at.number none)) ∙ copy.there;
        here = ap (entry_under container.map) (sym (at.number none)) ∙ land.there;
        kind = land.kind ∙ copy.kind;
        free = marked.free land.entry.pvbn land.marked;
        taken = ap (λ (s : Space). is_member s.next land.entry.pvbn) next ∙ landed.held land.entry.pvbn land.marked;
        unkept = ap (λ (k : Blocks). fin.get k land.entry.pvbn) kept ∙ land.unkept;
        shaped = copy.shaped;
        blank = subst (Blanks (form_of copy.entry.kind) (seen pool.kept disk.reads copy.entry.pvbn)) (sym land.block) copy.blank;
      }

  pub has_copies : HasCopies disk pool source bits container after left
  has_copies = record {
    copies = has_copy;
    holes = λ v is. landed.holes v (copied_is bits was.copies was.numbers_are v ∙ is);
    apart = landed.apart;
    clean = landed.clean;
    stay = λ b is. ap (λ (s : Space). is_member s.next b) next ∙ marked.next b ∙ ap (λ (t : Bool). t || is_member marks b) is;
    come = λ b is. ⊎_elim
        (λ (was_held : is_member pool.map.next b ≡ true). inl was_held)
        (λ (off : is_member pool.map.next b ≡ false).
        inr (landed.back b (sym (ap (λ (t : Bool). t || is_member marks b) off) ∙ sym (marked.next b) ∙ ap (λ (s : Space). is_member s.next b) (sym next) ∙ is)))
        (cases_Bool (is_member pool.map.next b));
  }

module _ (states : States) (pool : Pool) (name : List ℕ) (size : ℕ) (kind : Kind) (a : Admitted) (admits : CanMake states pool.found.blocks name size kind a) (each : (s : ℕ) → IfSome (state_at states s) (IsLabelled s)) where
  abbrev pub source : VolumeState
  source = admits.asked.source.home.volume

  abbrev pub snap : Snap
  snap = admits.asked.source.snap

  -- what it's of is the snapshot that is asked
  abbrev pub of_asked : IsOfAsked states a.source name size
  of_asked = record { asked = admits.asked; is = admits.source_is; labelled = each }

  pub source_labelled : IsLabelled admits.asked.source.home.slot source
  source_labelled = home_labelled of_asked

  pub source_there : state_at states a.source.parent ≡ Some source
  source_there = home_there of_asked

  pub is_there : is_some (state_at states a.source.parent) ≡ true
  is_there = ap is_some source_there

  pub inside_slots : a.source.parent < slot_count
  inside_slots = home_inside of_asked

  pub inside_of : a.source.slot < map_slot_count
  inside_of = snap_inside of_asked

  module _ (y : VolumeState) (there : state_at states a.source.parent ≡ Some y) where
    pub same : source ≡ y
    same = same_home of_asked y there

    pub used_of : IsSome (slot_at y.map a.source.slot)
    used_of = snap_used of_asked y there

    pub is_used : is_some (slot_at y.map a.source.slot) ≡ true
    is_used = used_of

    pub wide_of : y.map.span ≤ a.span
    wide_of = subst (λ (z : VolumeState). z.map.span ≤ a.span) same (let is = admits.span_is in let spans = source_labelled.map in omega (arith, is, spans))

    -- each number of the snapshot has an entry in the new container
    pub fits_of : (bits : List Bool) → slot_at y.map a.source.slot ≡ Some bits → IsVolume y.map → length bits ≤ entry_count a.span
    fits_of bits is whole =
        let long : length bits ≡ y.map.span = sym (ap (λ (s : Slot). length (map_or_empty y.map.span s)) is) ∙ bits_long y a.source.slot whole in
        let wide = wide_of in
        omega (arith, long, wide)

    -- it can be put among the volumes
    pub can_put : (x : VolumeState) → IsMirrorOf y a.source a.count a.slot name size kind a.span x → CanPut states pool.found.blocks x None
    can_put x is =
        let span : x.span ≡ a.span = ap (λ (h : Head). h.span) is.head in
        record {
          within = let at = is.slot_is in let low = admits.free.within in omega (arith, at, low);
          free = ap (state_at states) is.slot_is ∙ admits.free.free;
          span = let most = admits.most in omega (arith, span, most);
          counts = ap (λ (l : Ledger). l.span) is.ledger ∙ sym span;
          parent_is = tt;
          room = subst (λ (l : Ledger). sum_of states + committed l ≤ capacity pool.found.blocks) (sym is.ledger) admits.room;
        }

    pub can_put_over : (mid : Pool) → mid.found ≡ pool.found → (x : VolumeState) → IsMirrorOf y a.source a.count a.slot name size kind a.span x → CanPut states mid.found.blocks x None
    can_put_over mid same_found x is = subst (λ (f : Found). CanPut states f.blocks x None) (sym same_found) (can_put x is)

-- ---- what is left

-- Where the containers are as before, nothing else than what copying leaves is left,
pub leaves_still : (disk : Disk) (pool : Pool) (after : Disk) (left : Pool) → LeavesTaken (Unit {0}) disk pool after left → LeavesOthers disk pool after left
leaves_still disk pool after left taken = subst (λ (p : Pool). LeavesTaken (Unit {0}) disk pool after p) (λ i. record left { containers = taken.containers i }) taken

-- nor where a container was put.
pub leaves_put : (disk : Disk) (pool : Pool) (after : Disk) (mid left : Pool) (slot : ℕ) (container : Paged) (parent : Option ℕ) → LeavesTaken (Unit {0}) disk pool after mid → left ≡ with_container_on mid slot container parent
    → LeavesOthers disk pool after left
leaves_put disk pool after mid left slot container parent taken holds = subst (λ (p : Pool). LeavesTaken (Unit {0}) disk pool after p)
    ((λ i. record mid { containers = taken.containers i }) ∙ sym (ap (λ (p : Pool). record p { containers = pool.containers }) holds)) taken

-- Once it is put in its slot it is mirrored.
module _ (states : States) (pool : Pool) (name : List ℕ) (size : ℕ) (kind : Kind) (a : Admitted) (admits : CanMake states pool.found.blocks name size kind a) (each : (s : ℕ) → IfSome (state_at states s) (IsLabelled s))
    (y : VolumeState) (there : state_at states a.source.parent ≡ Some y) (state : VolumeState) (is : IsMirrorOf y a.source a.count a.slot name size kind a.span state)
    (disk after : Disk) (mid : Pool) (container : Paged) (marks : List Bool) (first : List Bool) (none : AreUnmarked first) (lands : Lands (empty_paged (entry_count a.span)) first pool.map container marks mid.map) (containers : mid.containers ≡ pool.containers)
    (copied : (bits : List Bool) → bits ≡ source_bits y a.source.slot → IsSource disk pool a.source.parent bits → HasCopied disk pool a.source.parent (copies_below bits (length bits)) (HasLanded container marks mid (content_of after)) [])
    (new : States) (row : new ≡ with_state states state.slot (Some state)) (left : Pool) (holds : left ≡ with_container_on mid state.slot container None) (lies : paged_at left.containers state.slot ≡ Some container) where
  same_source : source states pool name size kind a admits each ≡ y
  same_source = same states pool name size kind a admits each y there

  pub mirrored_by : IsMirrored disk states pool name size kind a after new left
  mirrored_by = record {
    admits = admits;
    state = state;
    is = subst (λ (z : VolumeState). IsMirrorOf z a.source a.count a.slot name size kind a.span state) (sym same_source) is;
    row = row ∙ ap (λ (n : ℕ). with_state states n (Some state)) is.slot_is;
    container = container;
    there = ap (paged_at left.containers) (sym is.slot_is) ∙ lies;
    containers = ap (λ (p : Pool). p.containers) holds ∙ (λ i. with_parent (with_container (containers i) (is.slot_is i) (Some container)) (is.slot_is i) None);
    long = lands.long ∙ length-replicate {A = Option Entry} (entry_count a.span) None;
    nowhere = λ b. ap (λ (t : List ℕ). names t b) lands.tree ∙ none_named (node_count (entry_count a.span)) b;
    copied = λ tells.
        let bits = source_bits y a.source.slot in
        let same_bits : source_bits (source states pool name size kind a admits each) a.source.slot ≡ bits = ap (λ (z : VolumeState). source_bits z a.source.slot) same_source in
        subst (λ (bs : List Bool). HasCopies disk pool a.source.parent bs container after left) (sym same_bits)
        (has_copies disk pool a.source.parent bits container marks after mid left (ap (λ (p : Pool). p.map) holds) (ap (λ (p : Pool). p.kept) holds) (lands.marked pool.map (marked_none pool.map first none))
        (copied bits refl (subst (λ (bs : List Bool). IsSource disk pool a.source.parent bs) same_bits tells)));
  }

-- ---- by what the calls told

-- a new container has a hole for each of its numbers
pub new_long : (container : Paged) (entries : ℕ) → container ≡ empty_paged entries → length container.map.entries ≡ entries
new_long container entries is = ap (λ (c : Paged). length c.map.entries) is ∙ length-replicate {A = Option Entry} entries None

pub new_empty : (container : Paged) (entries : ℕ) → container ≡ empty_paged entries → container ≡ empty_paged (length container.map.entries)
new_empty container entries is = is ∙ ap empty_paged (sym (new_long container entries is))

module _ (states : States) (pool : Pool) (name : List ℕ) (size : ℕ) (kind : Kind) (a : Admitted) (admits : CanMake states pool.found.blocks name size kind a) (each : (s : ℕ) → IfSome (state_at states s) (IsLabelled s))
    (y : VolumeState) (there : state_at states a.source.parent ≡ Some y) (bits : List Bool) (bits_are : slot_at y.map a.source.slot ≡ Some bits) (disk : Disk) where
  bits_of : source_bits y a.source.slot ≡ bits
  bits_of = ap (map_or_empty y.map.span) bits_are

  -- each of them has an entry in the new container
  pub fits_new : IsVolume y.map → (container : Paged) (entries : ℕ) → entries ≡ entry_count a.span → container ≡ empty_paged entries → length bits ≤ length container.map.entries
  fits_new whole container entries counted is =
      let fits = fits_of states pool name size kind a admits each y there bits bits_are whole in
      let long = new_long container entries is in
      omega (arith, fits, long, counted)

  -- what can be copied as it should is whole, and as many blocks are free
  pub enough_by : CanCopy disk states pool a → (X : Type 0) → (IsSource disk pool a.source.parent bits → IsWhole disk pool a.source.parent bits → length (copies_below bits (length bits)) ≤ free_blocks pool.map → X) → X
  enough_by can X then = then
      (subst (λ (bs : List Bool). IsSource disk pool a.source.parent bs) bits_of
      (subst (λ (o : Option VolumeState). IfSome o (λ y. IsSource disk pool a.source.parent (source_bits y a.source.slot))) there can.tells))
      (subst (λ (bs : List Bool). IsWhole disk pool a.source.parent bs) bits_of
      (subst (λ (o : Option VolumeState). IfSome o (λ y. IsWhole disk pool a.source.parent (source_bits y a.source.slot))) there can.whole))
      (subst (λ (bs : List Bool). length (copies_below bs (length bs)) ≤ free_blocks pool.map) bits_of
      (subst (λ (o : Option VolumeState). IfSome o (λ y. length (copies_below (source_bits y a.source.slot) (length (source_bits y a.source.slot))) ≤ free_blocks pool.map)) there can.room))

  module _ (state : VolumeState) (is : IsMirrorOf y a.source a.count a.slot name size kind a.span state) (after : Disk) (mid : Pool) (landing landed : Landing) (entries : ℕ) (counted : entries ≡ entry_count a.span)
      (new_is : landing.container ≡ empty_paged entries) (none : AreUnmarked landing.marks) (lands : Lands landing.container landing.marks pool.map landed.container landed.marks mid.map) (taken : LeavesTaken (Unit {0}) disk pool after mid)
      (copied : IsSource disk pool a.source.parent bits → HasCopied disk pool a.source.parent (copies_below bits (length bits)) (HasLanded landed.container landed.marks mid (content_of after)) [])
      (container : Paged) (out : container ≡ landed.container) (new : States) (row : new ≡ with_state states state.slot (Some state)) (left : Pool) (holds : left ≡ with_container_on mid state.slot container None)
      (lies : paged_at left.containers state.slot ≡ Some container) where
    pub made_by : IsMirrored disk states pool name size kind a after new left
    made_by = mirrored_by states pool name size kind a admits each y there state is disk after mid landed.container landed.marks landing.marks none
        (subst (λ (c : Paged). Lands c landing.marks pool.map landed.container landed.marks mid.map) (new_is ∙ ap empty_paged counted) lands)
        taken.containers
        (λ bs e told.
        let same_bits : bits ≡ bs = sym (e ∙ bits_of) in
        subst (λ (bs : List Bool). HasCopied disk pool a.source.parent (copies_below bs (length bs)) (HasLanded landed.container landed.marks mid (content_of after)) []) same_bits
        (copied (subst (λ (bs : List Bool). IsSource disk pool a.source.parent bs) (sym same_bits) told)))
        new row left (holds ∙ ap (λ (c : Paged). with_container_on mid state.slot c None) out) (lies ∙ ap (λ (c : Paged). Some c) out)
