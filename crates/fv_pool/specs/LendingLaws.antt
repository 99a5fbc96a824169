-- What calls leave of all that was lent, one after another.
use Rattle.std.proofs.Common.{◌≡◌, ◌≢◌, ◌≤◌, ◌⊎◌, ◌||◌, ℕ, Bool, true, false, List, length, Option, Some, None, refl, sym, ap, ap₂, subst, ◌∙◌, inl, inr, ⊎_elim, arith}
use Rattle.std.specs.Prelude.{IfSome, is_some, IsTrue}
use Rattle.std.specs.Option.{ForSome}
use Rattle.std.specs.FinMap as fin
use Rattle.std.proofs.lemmas.Bool.{cases_Bool, cases_eq}
use Rattle.fv_disk.specs.Shown.{Elapses, Image, Shown as Disk}
use Rattle.fv_disk.specs.DiskCalls.{OnlyReads}
use Rattle.fv_disk.proofs.Resting.{reads_then as disk_then, stays_itself}
use Rattle.fv_bits.specs.Members.{is_member}
use Rattle.fv_image.specs.Layout.{root_place}
use Rattle.fv_image.specs.Reclaimed.{IsAllocatable}
use Rattle.fv_aggmap.specs.Space.{Space, free_blocks, is_held}
use Rattle.fv_container.specs.declared.entry.Entry.{Entry}
use Rattle.fv_container.specs.Chains.{AreCleanOn, IsLeafDamage, Slots, container_at, own_entry}
use Rattle.fv_container.specs.Mapped.{Mapped}
use Rattle.fv_container.proofs.Damage.{HasTree, KeepTrees, damage_stays}
use Rattle.fv_volmap.specs.Slots.{Volume as Maps, has, slot_at}
use Rattle.fv_pool.specs.declared.blocks.Home.{Home}
use Rattle.fv_pool.specs.declared.noted.Noted.{Noted}
use Rattle.fv_pool.specs.declared.pool.Pool.{Pool}
use Rattle.fv_pool.specs.BlocksOver.{AreApart, HasShapeOf, IsKeptBack, LacksLeaf, OtherPlace, TellsEntries, block_of, entries_in, free_numbers, held_entry, tree_in}
use Rattle.fv_pool.specs.Lending.{Lent, WasLack, WasLeaf, ReadsOver, GoesOver, WasHole, IsNewEntry, IsOutOfRoom, IsOwn, KeepsSlots, MayTake}

disk_itself : (disk : Disk) → OnlyReads disk disk
disk_itself disk =
    let stays = stays_itself disk in
    let time : Elapses disk disk = record { later = omega arith; nothing_else = λ t c g le left. inl left; keeps = λ t c g le left. left } in
    let faults : disk.faults ≤ disk.faults = omega arith in
    let write_faults : disk.write_faults ≤ disk.write_faults = omega arith in
    search (stays, time, faults, write_faults)

-- ---- reads

pub reads_itself : (l : Lent) → ReadsOver l l
reads_itself l = record { home = refl; map = refl; space = refl; containers = refl; kept = refl; found = refl; version = refl; room = refl; strays = refl; steps = omega arith; only_reads = disk_itself l.disk; noted = inl refl }

-- the last damage after two calls
noted_then : (old mid new : Noted) (P : Noted → Type 0) → (mid ≡ old) ⊎ P mid → (new ≡ mid) ⊎ P new → (new ≡ old) ⊎ P new
noted_then old mid new P first (inr p) = inr p
noted_then old mid new P (inl same) (inl again) = inl (again ∙ same)
noted_then old mid new P (inr p) (inl again) = inr (subst P (sym again) p)

-- that of a leaf that isn't there
pub leaf_before : (d e : Disk) (slots : Slots) (at want found : ℕ) → e.tells ≡ d.tells → e.reads ≡ d.reads → LacksLeaf e slots at want found → LacksLeaf d slots at want found
leaf_before d e slots at want found tells reads lacks told = subst (λ (i : Image). IsLeafDamage i slots at want found) reads (lacks (subst IsTrue (sym tells) told))

-- of calls that left the containers, that of a VVBN that isn't held, or of a leaf
pub hole_then : (old mid new : Lent) → mid.home ≡ old.home → mid.pool.containers ≡ old.pool.containers → OnlyReads old.disk mid.disk → (mid.noted ≡ old.noted) ⊎ (WasHole old.home.label mid.noted ⊎ WasLeaf old.disk old.pool.containers mid.noted)
    → (new.noted ≡ mid.noted) ⊎ (WasHole mid.home.label new.noted ⊎ WasLeaf mid.disk mid.pool.containers new.noted) → (new.noted ≡ old.noted) ⊎ (WasHole old.home.label new.noted ⊎ WasLeaf old.disk old.pool.containers new.noted)
hole_then old mid new home slots reads first second = noted_then old.noted mid.noted new.noted (λ n. WasHole old.home.label n ⊎ WasLeaf old.disk old.pool.containers n) first
    (⊎_elim (λ same. inl same) (λ cause. inr (⊎_elim
    (λ hole. inl (subst (λ (h : Home). WasHole h.label new.noted) home hole))
    (λ leaf. inr (leaf_before old.disk mid.disk old.pool.containers new.noted.at new.noted.want new.noted.found reads.stays.tells reads.stays.reads (subst (λ (s : Slots). WasLeaf mid.disk s new.noted) slots leaf)))
    cause)) second)

-- what is as it was is so after two calls
pub joined : {A : Type 0} {x y z : A} → z ≡ y → y ≡ x → z ≡ x
joined second first = second ∙ first

pub reads_then : (old mid new : Lent) → ReadsOver old mid → ReadsOver mid new → ReadsOver old new
reads_then old mid new first second =
    let steps : old.steps ≤ new.steps = omega (arith, first.steps, second.steps) in
    let only_reads = disk_then old.disk mid.disk new.disk first.only_reads second.only_reads in
    let noted = hole_then old mid new first.home first.containers first.only_reads first.noted second.noted in
    search (first, second, joined, steps, only_reads, noted)

-- the entries of a volume lie apart by the aggregate map and the containers alone
pub apart_by : (p q : Pool) (map : Maps) (slot : ℕ) → q.map ≡ p.map → q.containers ≡ p.containers → AreApart p map slot → AreApart q map slot
apart_by p q map slot spaces slots apart = record {
  own = λ v. subst (λ (s : Space). ForSome (own_entry (container_at q.containers slot) v) (IsKeptBack s)) (sym spaces)
      (subst (λ (c : Slots). ForSome (own_entry (container_at c slot) v) (IsKeptBack p.map)) (sym slots) (apart.own v));
  held = λ v. subst (λ (s : Space). ForSome (held_entry map q.containers slot v) (IsKeptBack s)) (sym spaces)
      (subst (λ (c : Slots). ForSome (held_entry map c slot v) (IsKeptBack p.map)) (sym slots) (apart.held v));
  own_apart = λ v w other. subst (λ (c : Slots). ForSome (own_entry (container_at c slot) v) (λ e. ForSome (own_entry (container_at c slot) w) (OtherPlace e))) (sym slots) (apart.own_apart v w other);
  held_apart = λ v w other. subst (λ (c : Slots). ForSome (own_entry (container_at c slot) v) (λ e. ForSome (held_entry map c slot w) (OtherPlace e))) (sym slots) (apart.held_apart v w other);
}

pub reads_goes : (old new : Lent) → ReadsOver old new → GoesOver old new
reads_goes old new reads =
    let next : (b : ℕ) → is_member new.pool.map.next b ≡ is_member old.pool.map.next b = λ b. ap (λ (s : Space). is_member s.next b) reads.space in
    record {
      home = reads.home;
      found = reads.found;
      version = reads.version;
      room = omega (arith, reads.room);
      spends = λ some.
          let numbers : free_numbers new.map ≡ free_numbers old.map = ap free_numbers reads.map in
          let blocks : free_blocks new.pool.map ≡ free_blocks old.pool.map = ap free_blocks reads.space in
          record { numbers = omega (arith, numbers, reads.room); blocks = omega (arith, blocks, reads.room) };
      steps = reads.steps;
      only_reads = reads.only_reads;
      noted = ⊎_elim (λ same. inl same) (λ cause. inr (⊎_elim (λ hole. inl hole) (λ leaf. inr (inr leaf)) cause)) reads.noted;
      committed = ap (λ (s : Space). s.committed) reads.space;
      loses = λ tells b was is. let isnt : true ≡ false = sym was ∙ sym (next b) ∙ is in cc;
      gains = λ tells b is. inr (sym (next b) ∙ is, λ own. subst (λ s. IsOwn s old.home.slot b) (sym reads.containers) own);
      entries = λ v. inl (ap (λ (s : Slots). own_entry (container_at s old.home.slot) v) reads.containers);
      beyond = λ v past. ap (λ (s : Slots). own_entry (container_at s old.home.slot) v) reads.containers;
      kept = λ b. inl (ap (λ kept. fin.get kept b) reads.kept);
      shape = record {
        there = ap (λ (s : Slots). is_some (container_at s old.home.slot)) reads.containers;
        count = ap (λ (s : Slots). length (entries_in (container_at s old.home.slot))) reads.containers;
        tree = ap (λ (s : Slots). tree_in (container_at s old.home.slot)) reads.containers;
      };
      others = λ s other. ap (λ (slots : Slots). container_at slots s) reads.containers;
      parents = ap (λ (slots : Slots). slots.parents) reads.containers;
      span = ap (λ m. m.span) reads.map;
      snapshots = λ s other. ap (λ m. slot_at m s) reads.map;
      clean = λ tells. subst (λ (i : Image). AreCleanOn i new.pool.containers) (sym reads.only_reads.stays.reads) (subst (AreCleanOn old.disk.reads) (sym reads.containers) tells.1);
      keeps = λ tells apart. record {
        apart = subst (λ (m : Maps). AreApart new.pool m old.home.slot) (sym reads.map) (apart_by old.pool new.pool old.map old.home.slot reads.space reads.containers apart);
        entries = λ k v other here. λ j. held_entry (reads.map j) (reads.containers j) old.home.slot v;
        blocks = λ k v other here i. λ j. block_of (reads.kept j) i (held_entry (reads.map j) (reads.containers j) old.home.slot v);
      };
      own_kept = λ k v other here. ap (λ (s : Slots). own_entry (container_at s old.home.slot) v) reads.containers;
      own_new = λ v is. inl (ap (λ m. has v (slot_at m 0)) (sym reads.map) ∙ is);
    }

pub goes_itself : (l : Lent) → GoesOver l l
goes_itself l = reads_goes l l (reads_itself l)

-- ---- leaves that have to stand somewhere

shape_tree : (was now : Option Mapped) → HasShapeOf was now → IfSome now (λ map. HasTree map was)
shape_tree was None shape = tt
shape_tree None (Some map) shape = let wrong : true ≡ false = shape.there in cc
shape_tree (Some old) (Some map) shape = (sym shape.tree, sym shape.count)

same_tree : (was now : Option Mapped) → now ≡ was → IfSome now (λ map. HasTree map was)
same_tree was now same = by was now same
  where
    by : (o n : Option Mapped) → n ≡ o → IfSome n (λ map. HasTree map o)
    by o None e = tt
    by None (Some map) e = absurd cc
    by (Some m) (Some map) e = let is : map ≡ m = cc in (ap (λ (x : Mapped). x.tree) (sym is), ap (λ (x : Mapped). length x.entries) (sym is))

-- no tree moves
pub trees_before : (old new : Lent) → GoesOver old new → KeepTrees new.pool.containers old.pool.containers
trees_before old new goes s = ⊎_elim
    (λ (e : s ≡ old.home.slot). subst (λ (k : ℕ). IfSome (container_at new.pool.containers k) (λ map. HasTree map (container_at old.pool.containers k))) (sym e)
    (shape_tree (container_at old.pool.containers old.home.slot) (container_at new.pool.containers old.home.slot) goes.shape))
    (λ (ne : s ≢ old.home.slot). same_tree (container_at old.pool.containers s) (container_at new.pool.containers s) (goes.others s ne))
    (cases_eq s old.home.slot)

-- ---- any calls

module _ (old mid new : Lent) (first : GoesOver old mid) (second : GoesOver mid new) where
  abbrev slot : ℕ
  slot = old.home.slot

  abbrev before : Slots
  before = old.pool.containers

  abbrev between : Slots
  between = mid.pool.containers

  abbrev after : Slots
  after = new.pool.containers

  same_slot : mid.home.slot ≡ slot
  same_slot = ap (λ (h : Home). h.slot) first.home

  -- what entries tell they tell after the first call
  still_tells : TellsEntries old.disk before → TellsEntries mid.disk between
  still_tells tells = (subst IsTrue (sym first.only_reads.stays.tells) tells.0, first.clean tells)

  abbrev Told : Type 0
  Told = TellsEntries old.disk before

  -- an entry that leads to a block after the first call did so before, or it is a new one
  owned_before : (b : ℕ) → IsOwn between slot b → IsOwn before slot b ⊎ MayTake Told old.pool.map before slot b
  owned_before b own = ⊎_elim
      (λ same. inl (record { vvbn = own.vvbn; entry = own.entry; stands = sym same ∙ own.stands; leads = own.leads }))
      (λ (fresh : IsNewEntry Told old.pool.map before between slot own.vvbn).
      let e : fresh.entry ≡ own.entry = some_same fresh.entry own.entry (sym fresh.stands ∙ own.stands) in
      inr (subst (λ n. MayTake Told old.pool.map before slot n) (ap (λ (x : Entry). x.pvbn) e ∙ own.leads) fresh.takes))
      (first.entries own.vvbn)
    where
      some_same : (x y : Entry) → Some x ≡ Some y → x ≡ y
      some_same x y same = ap (λ (o : Option Entry). entry_or o) same
        where
          entry_or : Option Entry → Entry
          entry_or None = x
          entry_or (Some e) = e

  -- a block that isn't free before wasn't free, or an entry led to it
  free_before : Told → (b : ℕ) → is_held mid.pool.map.committed mid.pool.map.next b ≡ false → (is_held old.pool.map.committed old.pool.map.next b ≡ false) ⊎ IsOwn before slot b
  free_before tells b free = ⊎_elim
      (λ was. inr (first.loses tells b was (or_right (is_member mid.pool.map.committed b) (is_member mid.pool.map.next b) free)))
      (λ wasnt. inl (ap₂ ◌||◌ (sym (ap (λ set. is_member set b) first.committed) ∙ or_left (is_member mid.pool.map.committed b) (is_member mid.pool.map.next b) free) wasnt))
      (cases_Bool (is_member old.pool.map.next b))
    where
      or_left : (s t : Bool) → (s || t) ≡ false → s ≡ false
      or_left true t isnt = isnt
      or_left false t isnt = refl

      or_right : (s t : Bool) → (s || t) ≡ false → t ≡ false
      or_right true t isnt = absurd (false_true isnt)
        where
          false_true : true ≡ false → ⊥
          false_true same = cc
      or_right false t isnt = isnt

  take_before : (b : ℕ) → MayTake (TellsEntries mid.disk between) mid.pool.map between slot b → MayTake Told old.pool.map before slot b
  take_before b may = record {
    lies = subst (λ (set : List Bool). IsAllocatable (length set) b) first.committed may.lies;
    spare = sym (ap (λ set. is_member set b) first.committed) ∙ may.spare;
    free = λ tells. ⊎_elim
        (λ free. free_before tells b free)
        (λ own. ⊎_elim (λ owned. inr owned) (λ (takes : MayTake Told old.pool.map before slot b). takes.free tells) (owned_before b own))
        (may.free (still_tells tells));
  }

  at_slot : (P : ℕ → Type 0) → P mid.home.slot → P slot
  at_slot P p = subst P same_slot p

  entries_then : (v : ℕ) → (own_entry (container_at after slot) v ≡ own_entry (container_at before slot) v) ⊎ IsNewEntry Told old.pool.map before after slot v
  entries_then v = ⊎_elim
      (λ again. ⊎_elim
      (λ same. inl (again ∙ same))
      (λ (fresh : IsNewEntry Told old.pool.map before between slot v). inr (record { entry = fresh.entry; stands = again ∙ fresh.stands; takes = fresh.takes }))
      (first.entries v))
      (λ (fresh : IsNewEntry (TellsEntries mid.disk between) mid.pool.map between after slot v). inr (record { entry = fresh.entry; stands = fresh.stands; takes = take_before fresh.entry.pvbn fresh.takes }))
      (at_slot (λ s. (own_entry (container_at after s) v ≡ own_entry (container_at between s) v) ⊎ IsNewEntry (TellsEntries mid.disk between) mid.pool.map between after s v) (second.entries v))

  loses_then : Told → (b : ℕ) → is_member old.pool.map.next b ≡ true → is_member new.pool.map.next b ≡ false → IsOwn before slot b
  loses_then tells b was is = ⊎_elim
      (λ still. ⊎_elim
      (λ own. own)
      (λ (takes : MayTake Told old.pool.map before slot b). ⊎_elim (λ free. absurd (taken (is_member old.pool.map.committed b) (is_member old.pool.map.next b) was free)) (λ own. own) (takes.free tells))
      (owned_before b (at_slot (λ s. IsOwn between s b) (second.loses (still_tells tells) b still is))))
      (λ gone. first.loses tells b was gone)
      (cases_Bool (is_member mid.pool.map.next b))
    where
      taken : (s t : Bool) → t ≡ true → (s || t) ≡ false → ⊥
      taken true t does isnt = cc
      taken false t does isnt = let wrong : true ≡ false = sym does ∙ isnt in cc

  gains_then : Told → (b : ℕ) → is_member new.pool.map.next b ≡ true → IsOwn after slot b ⊎ ((is_member old.pool.map.next b ≡ true) × (IsOwn before slot b → IsOwn after slot b))
  gains_then tells b is = ⊎_elim
      (λ own. inl own)
      (λ still. ⊎_elim
      (λ own. inl (still.1 own))
      (λ was. inr (was.0, λ own. still.1 (was.1 own)))
      (first.gains tells b still.0))
      (at_slot (λ s. IsOwn after s b ⊎ ((is_member mid.pool.map.next b ≡ true) × (IsOwn between s b → IsOwn after s b))) (second.gains (still_tells tells) b is))

  kept_then : (b : ℕ) → (fin.get new.pool.kept b ≡ fin.get old.pool.kept b) ⊎ MayTake Told old.pool.map before slot b
  kept_then b = ⊎_elim
      (λ again. ⊎_elim (λ same. inl (again ∙ same)) (λ takes. inr takes) (first.kept b))
      (λ takes. inr (take_before b (at_slot (λ s. MayTake (TellsEntries mid.disk between) mid.pool.map between s b) takes)))
      (second.kept b)

  -- a room that was used up stays so
  pub out_still : new.noted ≡ mid.noted → IsOutOfRoom old mid → IsOutOfRoom old new
  out_still again out = record {
    none = omega (arith, out.none, second.room);
    lacks = subst (λ n. WasLack old.home.label (root_place old.pool.found.slot) n) (sym again) out.lacks;
  }

  -- and the places of the label and the root are those of before
  pub out_before : IsOutOfRoom mid new → IsOutOfRoom old new
  out_before out = record {
    none = out.none;
    lacks = subst (λ (h : Home). WasLack h.label (root_place old.pool.found.slot) new.noted) first.home
        (subst (λ f. WasLack mid.home.label (root_place f.slot) new.noted) first.found out.lacks);
  }

  -- and so are those of the leaves of containers
  pub leaf_first : WasLeaf mid.disk between new.noted → WasLeaf old.disk before new.noted
  leaf_first lacks told = damage_stays old.disk.reads between before new.noted.at new.noted.want new.noted.found (trees_before old mid first)
      (leaf_before old.disk mid.disk between new.noted.at new.noted.want new.noted.found first.only_reads.stays.tells first.only_reads.stays.reads lacks told)

  damage_then : (new.noted ≡ old.noted) ⊎ (WasHole old.home.label new.noted ⊎ (IsOutOfRoom old new ⊎ WasLeaf old.disk before new.noted))
  damage_then = ⊎_elim
      (λ again. ⊎_elim
      (λ same. inl (again ∙ same))
      (λ cause. inr (⊎_elim
      (λ hole. inl (subst (λ n. WasHole old.home.label n) (sym again) hole))
      (λ rest. inr (⊎_elim (λ out. inl (out_still again out)) (λ leaf. inr (subst (λ n. WasLeaf old.disk before n) (sym again) leaf)) rest))
      cause))
      first.noted)
      (λ cause. inr (⊎_elim
      (λ hole. inl (subst (λ (h : Home). WasHole h.label new.noted) first.home hole))
      (λ rest. inr (⊎_elim (λ out. inl (out_before out)) (λ leaf. inr (leaf_first leaf)) rest))
      cause))
      second.noted

  shape_then : HasShapeOf (container_at between slot) (container_at after slot) → HasShapeOf (container_at before slot) (container_at after slot)
  shape_then shape = record {
    there = shape.there ∙ first.shape.there;
    count = shape.count ∙ first.shape.count;
    tree = shape.tree ∙ first.shape.tree;
  }

  keeps_then : Told → AreApart old.pool old.map slot → KeepsSlots slot old new
  keeps_then tells apart =
      let one : KeepsSlots slot old mid = first.keeps tells apart in
      let two : KeepsSlots slot mid new = at_slot (λ s. AreApart mid.pool mid.map s → KeepsSlots s mid new) (second.keeps (still_tells tells)) one.apart in
      record {
        apart = two.apart;
        entries = λ k v other here. two.entries k v other (ap (has v) (first.snapshots k other) ∙ here) ∙ one.entries k v other here;
        blocks = λ k v other here i. two.blocks k v other (ap (has v) (first.snapshots k other) ∙ here) i ∙ one.blocks k v other here i;
      }

  own_kept_then : (k v : ℕ) → k ≢ 0 → has v (slot_at old.map k) ≡ true → own_entry (container_at after slot) v ≡ own_entry (container_at before slot) v
  own_kept_then k v other here =
      at_slot (λ s. own_entry (container_at after s) v ≡ own_entry (container_at between s) v) (second.own_kept k v other (ap (has v) (first.snapshots k other) ∙ here))
      ∙ first.own_kept k v other here

  -- an entry that stands after the first call stands after the second
  own_new_then : (v : ℕ) → has v (slot_at new.map 0) ≡ true → (has v (slot_at old.map 0) ≡ true) ⊎ (is_some (own_entry (container_at after slot) v) ≡ true)
  own_new_then v is = ⊎_elim
      (λ was. ⊎_elim
      (λ old. inl old)
      (λ some. inr (⊎_elim
      (λ again. ap is_some again ∙ some)
      (λ (fresh : IsNewEntry (TellsEntries mid.disk between) mid.pool.map between after slot v). ap is_some fresh.stands)
      (at_slot (λ s. (own_entry (container_at after s) v ≡ own_entry (container_at between s) v) ⊎ IsNewEntry (TellsEntries mid.disk between) mid.pool.map between after s v) (second.entries v))))
      (first.own_new v was))
      (λ some. inr (at_slot (λ s. is_some (own_entry (container_at after s) v) ≡ true) some))
      (second.own_new v is)

  pub goes_then : GoesOver old new
  goes_then = record {
    home = second.home ∙ first.home;
    found = second.found ∙ first.found;
    version = second.version ∙ first.version;
    room = omega (arith, first.room, second.room);
    spends = λ some.
        let one = first.spends (omega (arith, some, second.room)) in
        let two = second.spends some in
        record { numbers = omega (arith, one.numbers, two.numbers); blocks = omega (arith, one.blocks, two.blocks) };
    steps = omega (arith, first.steps, second.steps);
    only_reads = disk_then old.disk mid.disk new.disk first.only_reads second.only_reads;
    noted = damage_then;
    committed = second.committed ∙ first.committed;
    loses = loses_then;
    gains = gains_then;
    entries = entries_then;
    beyond = λ v past. at_slot (λ s. own_entry (container_at after s) v ≡ own_entry (container_at between s) v) (second.beyond v (omega (arith, first.span, past))) ∙ first.beyond v past;
    kept = kept_then;
    shape = shape_then (at_slot (λ s. HasShapeOf (container_at between s) (container_at after s)) second.shape);
    others = λ s other. second.others s (λ same. other (same ∙ same_slot)) ∙ first.others s other;
    parents = second.parents ∙ first.parents;
    span = second.span ∙ first.span;
    snapshots = λ s other. second.snapshots s other ∙ first.snapshots s other;
    clean = λ tells. second.clean (still_tells tells);
    keeps = keeps_then;
    own_kept = own_kept_then;
    own_new = own_new_then;
  }
