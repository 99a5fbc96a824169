-- What calls over the blocks of one volume leave of each other one, which may stand on it, or on one that does.
use Rattle.std.proofs.Common.{◌≡◌, ◌≢◌, ◌≤◌, ℕ, Bool, true, false, true≢false, ◌||◌, List, Option, Some, None, is_some, ⊎_elim, refl, sym, ap, subst, ◌∙◌}
use Rattle.std.specs.Prelude.{IfSome, slice_index_or}
use Rattle.std.specs.Option.{option_map}
use Rattle.std.specs.FinMap as fin
use Rattle.std.proofs.lemmas.Bool.{cases_Bool, cases_eq}
use Rattle.std.proofs.lemmas.Option.{none-some, same_Some}
use Rattle.fv_disk.specs.Shown.{Image, Shown as Disk}
use Rattle.fv_bits.specs.Members.{is_member}
use Rattle.fv_container.specs.declared.entry.Entry.{Entry}
use Rattle.fv_container.specs.Mapped.{Mapped}
use Rattle.fv_container.specs.Chains.{AreCleanOn, Slots, TellsEntries, along, container_at, or_else, own_entry, parent_at}
use Rattle.fv_volmap.specs.Slots.{Volume as Maps, has, slot_at, taken_in}
use Rattle.fv_pool.specs.declared.pool.Pool.{Pool}
use Rattle.fv_pool.specs.BlocksOver.{AreApart, block_of, held_block, held_entry}
use Rattle.fv_pool.specs.Keeping.{kept_or, seen}
use Rattle.fv_pool.specs.Lending.{GoesOver, Lent, MayTake, lent_by, lent_for}
use Rattle.fv_pool.specs.Placing.{Goes}
use Rattle.fv_pool.proofs.AlongChains.{FoundAt, held_found, held_stays}
use Rattle.fv_pool.proofs.Holding.{has_taken, held_some}
use Rattle.fv_volume.specs.declared.state.Base.{Base}
use Rattle.fv_volume.specs.declared.state.VolumeState.{VolumeState}
use Rattle.fv_volume.specs.Held.{IsHeldIn}
use Rattle.fv_volume.specs.OneVolume.{home_in, IsStanding}
use Rattle.fv_volume.specs.Placing.{LeavesOthers, LiesApart, StandTogether, StaysBeside}
use Rattle.fv_volume.specs.States.{States, parent_in, state_at}
use Rattle.fv_volume.proofs.SettledTables.{taken_some}
use Rattle.fv_volume.specs.Files.{IsLabelled}
use Rattle.fv_volumes.specs.Footing.{AreFooted}
use Rattle.fv_volumes.specs.Housed.{AreHoused}
use Rattle.fv_volumes.proofs.Footed.{each_stands}
use Rattle.fv_volumes.proofs.OnChains.{rests_above, some_slot}
use Rattle.fv_volumes.proofs.Others.{stays_beside}

-- The volume of a slot of a session has a number in some slot of its maps; the one of `home` has it in one that isn't the active one.
pub record Rests (states : States) (home s v : ℕ) : Type 0 where
  pub volume : VolumeState
  pub there : state_at states s ≡ Some volume
  pub slot : ℕ
  pub has_it : has v (slot_at volume.map slot) ≡ true
  pub kept : s ≡ home → slot ≢ 0

module _ (old new : Lent) (goes : GoesOver old new) (states : States) (stand : StandTogether old.pool old.map old.home.slot states) where
  abbrev home : ℕ
  home = old.home.slot

  abbrev before : Slots
  before = old.pool.containers

  abbrev after : Slots
  after = new.pool.containers

  abbrev On : ℕ → ℕ → Type 0
  On = Rests states home

  parents_same : (s v : ℕ) → On s v → parent_at after s ≡ parent_at before s
  parents_same s v r = ap (λ (ps : List (Option ℕ)). slice_index_or ps s None) goes.parents

  -- the volume of that slot has the maps that were lent, and its entries lie apart
  home_is : (s : ℕ) (x : VolumeState) → state_at states s ≡ Some x → s ≡ home → (x.map ≡ old.map) × AreApart old.pool old.map home
  home_is s x there at = subst (λ (o : Option VolumeState). IfSome o (λ y. (y.map ≡ old.map) × AreApart old.pool old.map home)) (sym (ap (state_at states) at) ∙ there) stand.here

  -- these have the number in a slot that isn't the active one
  home_has : (s v : ℕ) (r : On s v) → s ≡ home → has v (slot_at old.map r.slot) ≡ true
  home_has s v r at = subst (λ (m : Maps). has v (slot_at m r.slot) ≡ true) (home_is s r.volume r.there at).0 r.has_it

  own_same : (s v : ℕ) → On s v → own_entry (container_at after s) v ≡ own_entry (container_at before s) v
  own_same s v r = ⊎_elim
      (λ (at : s ≡ home). ap (λ (n : ℕ). own_entry (container_at after n) v) at ∙ goes.own_kept r.slot v (r.kept at) (home_has s v r at) ∙ ap (λ (n : ℕ). own_entry (container_at before n) v) (sym at))
      (λ other. ap (λ (c : Option Mapped). own_entry c v) (goes.others s other))
      (cases_eq s home)

  goes_up : (s v t : ℕ) → On s v → own_entry (container_at before s) v ≡ None → parent_at before s ≡ Some t → On t v
  goes_up s v t r none up =
      let y = stand.rests s v t r.volume r.slot r.there r.has_it none up in
      record { volume = y.volume; there = y.there; slot = y.slot; has_it = y.has_it; kept = λ at. y.above }

  abbrev Found : ℕ → Entry → Type 0
  Found = FoundAt before after On parents_same own_same goes_up

  -- an entry of that volume's own is the one that its number leads to
  home_entry : (s v : ℕ) (r : On s v) → s ≡ home → v ≤ 1048575 → (x : Entry) → own_entry (container_at before s) v ≡ Some x → held_entry old.map before home v ≡ Some x
  unfolding along
  home_entry s v r at few x own =
      held_some old.map before home v few (has_taken old.map.slots r.slot v (home_has s v r at))
      ∙ ap (λ (o : Option Entry). or_else o (along before 63 (parent_at before home) v)) (ap (λ (n : ℕ). own_entry (container_at before n) v) (sym at) ∙ own)

  module _ (told : TellsEntries old.disk before) where
    -- an entry that a chain finds leads to the block that it led to
    seen_same : (s v : ℕ) → On s v → v ≤ 1048575 → (x : Entry) → own_entry (container_at before s) v ≡ Some x → seen new.pool.kept new.disk.reads x.pvbn ≡ seen old.pool.kept old.disk.reads x.pvbn
    seen_same s v r few x own = ⊎_elim
        (λ (at : s ≡ home).
        let keeps = goes.keeps told (home_is s r.volume r.there at).1 in
        let was = home_entry s v r at few x own in
        let now : held_entry new.map after home v ≡ Some x = keeps.entries r.slot v (r.kept at) (home_has s v r at) ∙ was in
        let block : held_block new.map new.pool home new.disk.reads v ≡ held_block old.map old.pool home new.disk.reads v = keeps.blocks r.slot v (r.kept at) (home_has s v r at) new.disk.reads in
        same_Some (seen new.pool.kept new.disk.reads x.pvbn) (seen old.pool.kept new.disk.reads x.pvbn) (sym (ap (block_of new.pool.kept new.disk.reads) now) ∙ block ∙ ap (block_of old.pool.kept new.disk.reads) was)
        ∙ ap (λ (i : Image). seen old.pool.kept i x.pvbn) goes.only_reads.stays.reads)
        (λ other. ⊎_elim
        (λ same. (λ i. kept_or (same i) (goes.only_reads.stays.reads i x.pvbn)))
        (λ (may : MayTake (TellsEntries old.disk before) old.pool.map before home x.pvbn). absurd (⊎_elim
        (λ free. taken (is_member old.pool.map.committed x.pvbn) (is_member old.pool.map.next x.pvbn) (stand.next s r.volume r.there v x own) free)
        (λ mine. stand.apart s r.volume other r.there v x own mine)
        (may.free told)))
        (goes.kept x.pvbn))
        (cases_eq s home)
      where
        taken : (s t : Bool) → t ≡ true → (s || t) ≡ false → ⊥
        taken true t does isnt = true≢false isnt
        taken false t does isnt = true≢false (sym does ∙ isnt)

    -- and the next root will hold that
    next_other : (s : ℕ) → s ≢ home → (y : VolumeState) → state_at states s ≡ Some y → (v : ℕ) (x : Entry) → own_entry (container_at before s) v ≡ Some x → is_member new.pool.map.next x.pvbn ≡ true
    next_other s other y there v x own = ⊎_elim
        (λ stays. stays)
        (λ gone. absurd (stand.apart s y other there v x own (goes.loses told x.pvbn (stand.next s y there v x own) gone)))
        (cases_Bool (is_member new.pool.map.next x.pvbn))

    next_same : (s v : ℕ) → On s v → (x : Entry) → own_entry (container_at before s) v ≡ Some x → is_member new.pool.map.next x.pvbn ≡ true
    next_same s v r x own = ⊎_elim
        (λ (at : s ≡ home). (goes.keeps told (home_is s r.volume r.there at).1).apart.own v x (ap (λ (n : ℕ). own_entry (container_at after n) v) (sym at) ∙ own_same s v r ∙ own))
        (λ other. next_other s other r.volume r.there v x own)
        (cases_eq s home)

  -- ---- another volume

  module _ (y : VolumeState) (there : state_at states y.slot ≡ Some y) (other : y.slot ≢ home) where
    on : (v : ℕ) → taken_in y.map.slots v ≡ true → On y.slot v
    on v taken = let at = taken_some y.map.slots v taken in record { volume = y; there = there; slot = at.0; has_it = at.1; kept = λ same. absurd (other same) }

    own_y : (v : ℕ) → own_entry (container_at after y.slot) v ≡ own_entry (container_at before y.slot) v
    own_y v = ap (λ (c : Option Mapped). own_entry c v) (goes.others y.slot other)

    held_y : (v : ℕ) → held_entry y.map after y.slot v ≡ held_entry y.map before y.slot v
    held_y = held_stays before after On parents_same own_same goes_up y.map y.slot on

    found : (v : ℕ) (x : Entry) → held_entry y.map before y.slot v ≡ Some x → (v ≤ 1048575) × Found v x
    found = held_found before after On parents_same own_same goes_up y.map y.slot on

    block_y : TellsEntries old.disk before → (v : ℕ) → held_block y.map new.pool y.slot new.disk.reads v ≡ held_block y.map old.pool y.slot old.disk.reads v
    block_y told v = ap (block_of new.pool.kept new.disk.reads) (held_y v) ∙ so (held_entry y.map before y.slot v) refl
      where
        so : (o : Option Entry) → held_entry y.map before y.slot v ≡ o → block_of new.pool.kept new.disk.reads o ≡ block_of old.pool.kept old.disk.reads o
        so None is = refl
        so (Some x) is = let at = found v x is in ap (λ (b : List ℕ). Some b) (seen_same told at.1.slot v at.1.rests at.0 x at.1.own)

    -- The other volume stands for what it stood for, whatever it stands on, and whether the first one stands below it or not.
    pub beside_any : IsStanding old.disk old.pool y → StaysBeside old.disk old.pool new.disk new.pool y
    beside_any is =
        let told : TellsEntries old.disk before = (is.told.0, is.told.2) in
        stays_beside old.disk new.disk old.pool new.pool y held_y (block_y told) own_y goes.only_reads.stays.tells
        (λ v x own. next_other told y.slot other y there v x own)
        (λ v x held. let at = found v x held in next_same told at.1.slot v at.1.rests x at.1.own)
        (goes.clean told) is

-- So the flush of a volume leaves the others.
pub beside_flush : (d e : Disk) (p q : Pool) (x : VolumeState) (map : Maps) (room left : ℕ) → Goes (lent_for p x.map d 0 (home_in x) room) q map e left → LeavesOthers d p x.map x.slot e q
beside_flush d e p q x map room left goes states stand y there other is =
    beside_any (lent_for p x.map d 0 (home_in x) room) (lent_by q map e goes.steps (home_in x) left goes.goes.strays goes.goes.noted) goes.goes.goes states stand y there other is

-- ---- a slot changes that no other volume stands on

-- The volumes of a session but that of a slot stand on volumes of it, and not on that one.
abbrev pub StandOff : Slots → ℕ → States → Type 0
StandOff slots slot states = (s t : ℕ) (x : VolumeState) → s ≢ slot → state_at states s ≡ Some x → parent_at slots s ≡ Some t → (t ≢ slot) × (is_some (state_at states t) ≡ true)

-- a volume of a session in another slot
record IsOff (states : States) (slot s : ℕ) : Type 0 where
  volume : VolumeState
  there : state_at states s ≡ Some volume
  other : s ≢ slot

is_off : (states : States) (slot s : ℕ) → s ≢ slot → (o : Option VolumeState) → state_at states s ≡ o → is_some o ≡ true → IsOff states slot s
is_off states slot s other None there some = absurd (true≢false (sym some))
is_off states slot s other (Some x) there some = record { volume = x; there = there; other = other }

-- On the disk only blocks change that no entry of another volume names.
module _ (d e : Disk) (p q : Pool) (states : States) (slot : ℕ) (off : StandOff p.containers slot states)
    (others : (s : ℕ) → s ≢ slot → container_at q.containers s ≡ container_at p.containers s) (parents : (s : ℕ) → s ≢ slot → parent_at q.containers s ≡ parent_at p.containers s)
    (tells : e.tells ≡ d.tells) (y : VolumeState) (there : state_at states y.slot ≡ Some y) (other : y.slot ≢ slot)
    (same : (s v : ℕ) (x : VolumeState) (z : Entry) → s ≢ slot → state_at states s ≡ Some x → own_entry (container_at p.containers s) v ≡ Some z → seen q.kept e.reads z.pvbn ≡ seen p.kept d.reads z.pvbn)
    (next : (s v : ℕ) (x : VolumeState) (z : Entry) → s ≢ slot → state_at states s ≡ Some x → own_entry (container_at p.containers s) v ≡ Some z → is_member q.map.next z.pvbn ≡ true) where
  abbrev Off : ℕ → ℕ → Type 0
  Off s v = IsOff states slot s

  parents_off : (s v : ℕ) → Off s v → parent_at q.containers s ≡ parent_at p.containers s
  parents_off s v r = parents s r.other

  own_off : (s v : ℕ) → Off s v → own_entry (container_at q.containers s) v ≡ own_entry (container_at p.containers s) v
  own_off s v r = ap (λ (c : Option Mapped). own_entry c v) (others s r.other)

  up_off : (s v t : ℕ) → Off s v → own_entry (container_at p.containers s) v ≡ None → parent_at p.containers s ≡ Some t → Off t v
  up_off s v t r none up = let above = off s t r.volume r.other r.there up in is_off states slot t above.0 (state_at states t) refl above.1

  -- each number of another volume's leads to what it led to
  held_off : (v : ℕ) → held_entry y.map q.containers y.slot v ≡ held_entry y.map p.containers y.slot v
  held_off = held_stays p.containers q.containers Off parents_off own_off up_off y.map y.slot (λ v taken. record { volume = y; there = there; other = other })

  found_off : (v : ℕ) (z : Entry) → held_entry y.map p.containers y.slot v ≡ Some z → (v ≤ 1048575) × FoundAt p.containers q.containers Off parents_off own_off up_off v z
  found_off = held_found p.containers q.containers Off parents_off own_off up_off y.map y.slot (λ v taken. record { volume = y; there = there; other = other })

  block_off : (v : ℕ) → held_block y.map q y.slot e.reads v ≡ held_block y.map p y.slot d.reads v
  block_off v = ap (block_of q.kept e.reads) (held_off v) ∙ so (held_entry y.map p.containers y.slot v) refl
    where
      so : (o : Option Entry) → held_entry y.map p.containers y.slot v ≡ o → block_of q.kept e.reads o ≡ block_of p.kept d.reads o
      so None is = refl
      so (Some z) is = let at = found_off v z is in ap (λ (b : List ℕ). Some b) (same at.1.slot v at.1.rests.volume z at.1.rests.other at.1.rests.there at.1.own)

  -- That other volume stands for what it stood for, whatever it stands on.
  pub beside_taken : AreCleanOn e.reads q.containers → IsStanding d p y → StaysBeside d p e q y
  beside_taken clean is = stays_beside d e p q y held_off block_off (λ v. own_off y.slot v (record { volume = y; there = there; other = other })) tells
      (λ v z own. next y.slot v y z other there own)
      (λ v z held. let at = found_off v z held in next at.1.slot v at.1.rests.volume z at.1.rests.other at.1.rests.there at.1.own)
      clean is

-- So it does where all is read as before, and the blocks that wait for it wait still.
module _ (d e : Disk) (p q : Pool) (states : States) (slot : ℕ) (off : StandOff p.containers slot states)
    (others : (s : ℕ) → s ≢ slot → container_at q.containers s ≡ container_at p.containers s) (parents : (s : ℕ) → s ≢ slot → parent_at q.containers s ≡ parent_at p.containers s)
    (tells : e.tells ≡ d.tells) (reads : e.reads ≡ d.reads) (y : VolumeState) (there : state_at states y.slot ≡ Some y) (other : y.slot ≢ slot)
    (kept : (s v : ℕ) (x : VolumeState) (z : Entry) → s ≢ slot → state_at states s ≡ Some x → own_entry (container_at p.containers s) v ≡ Some z → fin.get q.kept z.pvbn ≡ fin.get p.kept z.pvbn)
    (next : (s v : ℕ) (x : VolumeState) (z : Entry) → s ≢ slot → state_at states s ≡ Some x → own_entry (container_at p.containers s) v ≡ Some z → is_member q.map.next z.pvbn ≡ true) where
  pub beside_off : AreCleanOn e.reads q.containers → IsStanding d p y → StaysBeside d p e q y
  beside_off = beside_taken d e p q states slot off others parents tells y there other
      (λ s v x z apart here own. let waits = kept s v x z apart here own in λ i. kept_or (waits i) (reads i z.pvbn)) next

-- ---- volumes of which each clone stands on a snapshot of another

-- None stands on one of a free slot.
pub free_off : (states : States) (slots : Slots) → AreHoused slots states → AreFooted states slots → (slot : ℕ) → state_at states slot ≡ None → StandOff slots slot states
free_off states slots housed footed slot free s t x other there up = by x.base refl
  where
    parent_is : parent_in (Some x) ≡ Some t
    parent_is = sym (housed.parents s ∙ ap parent_in there) ∙ up

    by : (o : Option Base) → x.base ≡ o → (t ≢ slot) × (is_some (state_at states t) ≡ true)
    by None based = absurd (none-some t (sym (ap (option_map (λ (b : Base). b.parent)) based) ∙ parent_is))
    by (Some b) based =
        let is = (each_stands states slots footed s x b there based).0 in
        let at : b.parent ≡ t = same_Some b.parent t (sym (ap (option_map (λ (b : Base). b.parent)) based) ∙ parent_is) in
        let here : state_at states t ≡ Some is.parent = ap (state_at states) (sym at) ∙ is.there in
        ((λ same. none-some is.parent (sym free ∙ ap (state_at states) (sym same) ∙ here)), ap is_some here)

-- They stand together where each stands and lies apart from the one of a slot.
pub footed_together : (disk : Disk) (pool : Pool) (states : States) (map : Maps) (home : ℕ) → AreHoused pool.containers states → AreFooted states pool.containers → ((s : ℕ) → IfSome (state_at states s) (IsHeldIn disk pool s))
    → IfSome (state_at states home) (λ x. x.map ≡ map) → ((s : ℕ) (x : VolumeState) → s ≢ home → state_at states s ≡ Some x → LiesApart pool.containers s home) → StandTogether pool map home states
footed_together disk pool states map home housed footed each same apart = record {
  here = at_home (state_at states home) (each home) same;
  next = λ s x there v e own. next s x (subst (λ (o : Option VolumeState). IfSome o (IsHeldIn disk pool s)) there (each s)) v e own;
  apart = apart;
  rests = rests_above states pool.containers housed.parents footed (λ s x there. let is = subst (λ (o : Option VolumeState). IfSome o (IsLabelled s)) there (housed.volumes s) in (is.slot_is, some_slot s x is));
}
  where
    at_home : (o : Option VolumeState) → IfSome o (IsHeldIn disk pool home) → IfSome o (λ x. x.map ≡ map) → IfSome o (λ x. (x.map ≡ map) × AreApart pool map home)
    at_home None is same = tt
    at_home (Some x) is same =
        (same, subst (λ (m : Maps). AreApart pool m home) same (subst (λ (s : ℕ). AreApart pool x.map s) is.slot is.stands.told.1))

    next : (s : ℕ) (x : VolumeState) → IsHeldIn disk pool s x → (v : ℕ) (e : Entry) → own_entry (container_at pool.containers s) v ≡ Some e → is_member pool.map.next e.pvbn ≡ true
    next s x is v e own = is.stands.told.1.own v e (ap (λ (n : ℕ). own_entry (container_at pool.containers n) v) is.slot ∙ own)
