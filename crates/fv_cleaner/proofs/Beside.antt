-- A clean step leaves the other volumes of a session: each is held as it was, and stands for what it stood for.
use Rattle.std.proofs.Common.{◌≡◌, ◌≢◌, ◌≤◌, ◌+◌, ℕ, zero, suc, Bool, true, false, cond, List, [], ◌∷◌, length, Option, Some, None, true≢false, refl, sym, ap, subst, ◌∙◌, arith, get_or-set_same, get_or-set_other}
use Rattle.std.specs.Prelude.{IfSome, is_some, slice_index_or, slice_set}
use Rattle.std.specs.Option.{option_map}
use Rattle.std.specs.Ordering.{nat_cmp, eq_by_cmp}
use Rattle.std.specs.Cmp.{nat_cmp_total}
use Rattle.std.specs.FinMap as fin
use Rattle.std.specs.FinSet as set
use Rattle.std.proofs.lemmas.Bool.Decides.{nat_tests}
use Rattle.std.proofs.lemmas.Option.{none-some, same_Some}
use Rattle.fv_disk.specs.Shown.{Image, Shown as Disk}
use Rattle.fv_disk.specs.DiskCalls.{OnlyReads}
use Rattle.fv_bits.specs.Members.{is_member}
use Rattle.fv_aggmap.specs.Space.{Space}
use Rattle.fv_container.specs.declared.entry.Entry.{Entry}
use Rattle.fv_container.specs.Mapped.{Mapped}
use Rattle.fv_container.specs.Chains.{AreCleanOn, TellsEntries, container_at, own_entry}
use Rattle.fv_model.specs.Space.{base_ids}
use Rattle.fv_model.specs.Volumes.{Volume}
use Rattle.fv_root.specs.declared.find.Found.{Found}
use Rattle.fv_root.specs.Formatted.{IsSize}
use Rattle.fv_store.specs.Held.{StandsOn}
use Rattle.fv_pool.specs.declared.pool.Pool.{Pool}
use Rattle.fv_pool.specs.BlocksOver.{entries_in, given_back}
use Rattle.fv_pool.specs.Moving.{MovesBlock}
use Rattle.fv_pool.proofs.Holding.{not_next}
use Rattle.fv_volume.specs.declared.state.Base.{Base}
use Rattle.fv_volume.specs.declared.state.VolumeState.{VolumeState}
use Rattle.fv_volume.specs.Held.{IsHeldIn}
use Rattle.fv_volume.specs.Placing.{StaysBeside}
use Rattle.fv_volume.specs.States.{States, parent_in, state_at}
use Rattle.fv_volumes.specs.Footing.{IsFooted, IsOnBase}
use Rattle.fv_volumes.proofs.Beside.{beside_off, StandOff}
use Rattle.fv_cleaner.specs.Staying.{LeavesBeside, MayBeCleaned}

-- ---- what the next root holds

-- a number that was taken out isn't in the set
cleared_here : (xs : List Bool) (d : ℕ) → is_member (slice_set xs d false) d ≡ false
unfolding is_member
cleared_here [] zero = refl
cleared_here [] (suc d) = refl
cleared_here (b ∷ bs) zero = refl
cleared_here (b ∷ bs) (suc d) = cleared_here bs d

module _ (disk : Disk) (pool left : Pool) (slot v kind : ℕ) (block : List ℕ) (moves : MovesBlock disk pool slot v kind block left) (told : TellsEntries disk pool.containers) where
  abbrev place : ℕ
  place = moves.place

  abbrev taken_of : Space
  taken_of = record pool.map { next = slice_set pool.map.next place true }

  -- the block was free
  pub was_free : is_member pool.map.next place ≡ false
  was_free = not_next pool.map.committed pool.map.next place moves.takes.free.free

  space_is : left.map ≡ given_back taken_of (own_entry (container_at pool.containers slot) v)
  space_is = moves.space ∙ (λ i. given_back (moves.takes.taken i) (moves.told told i))

  taken_other : (p : ℕ) → p ≢ place → is_member taken_of.next p ≡ is_member pool.map.next p
  unfolding is_member
  taken_other p other = get_or-set_other pool.map.next place p true false other

  taken_own : is_member taken_of.next place ≡ true
  unfolding is_member
  taken_own = get_or-set_same pool.map.next place true false moves.takes.within

  cleared_other : (xs : List Bool) (d p : ℕ) → p ≢ d → is_member (slice_set xs d false) p ≡ is_member xs p
  unfolding is_member
  cleared_other xs d p other = get_or-set_other xs d p false false other

  back_other : (before : Option Entry) (p : ℕ) → ((e : Entry) → before ≡ Some e → p ≢ e.pvbn) → is_member (given_back taken_of before).next p ≡ is_member taken_of.next p
  back_other None p apart = refl
  back_other (Some d) p apart = cleared_other taken_of.next d.pvbn p (apart d refl)

  -- A block that no entry of the volume's own led to is held as it was,
  pub next_other : (p : ℕ) → p ≢ place → ((e : Entry) → own_entry (container_at pool.containers slot) v ≡ Some e → p ≢ e.pvbn) → is_member left.map.next p ≡ is_member pool.map.next p
  next_other p other apart = ap (λ (s : Space). is_member s.next p) space_is ∙ back_other (own_entry (container_at pool.containers slot) v) p apart ∙ taken_other p other

  -- the new place is held, where the next root held the old one,
  pub next_new : ((e : Entry) → own_entry (container_at pool.containers slot) v ≡ Some e → is_member pool.map.next e.pvbn ≡ true) → is_member left.map.next place ≡ true
  next_new back = ap (λ (s : Space). is_member s.next place) space_is
      ∙ back_other (own_entry (container_at pool.containers slot) v) place (λ e own same. true≢false (sym (back e own) ∙ ap (is_member pool.map.next) (sym same) ∙ was_free)) ∙ taken_own

  -- that of the entry that the volume's own container had isn't,
  pub cleared : (e : Entry) → own_entry (container_at pool.containers slot) v ≡ Some e → is_member left.map.next e.pvbn ≡ false
  cleared e own = ap (λ (s : Space). is_member s.next e.pvbn) (space_is ∙ ap (given_back taken_of) own) ∙ cleared_here taken_of.next e.pvbn

  -- the root on the disk holds what it held,
  pub committed_same : left.map.committed ≡ pool.map.committed
  committed_same = ap (λ (s : Space). s.committed) space_is ∙ back_same (own_entry (container_at pool.containers slot) v)
    where
      back_same : (o : Option Entry) → (given_back taken_of o).committed ≡ pool.map.committed
      back_same None = refl
      back_same (Some e) = refl

  -- and the content of a kept block stays under each other place.
  pub kept_other : (p : ℕ) → p ≢ place → fin.get left.kept p ≡ fin.get pool.kept p
  kept_other p other =
      let no : eq_by_cmp nat_cmp p place ≡ false = grind (arith, nat_tests, other) in
      ap (λ k. fin.get k p) moves.kept ∙ fin.get-insert nat_cmp_total pool.kept place block p ∙ ap (λ t. cond t (Some block) (fin.get pool.kept p)) no

-- ---- the other volumes

module _ (disk after : Disk) (pool left : Pool) (states : States) (slot : ℕ) (x : VolumeState) (may : MayBeCleaned disk pool states slot x) (reads : OnlyReads disk after) (store : StandsOn after left.store.pairs) where
  one : (s : ℕ) (z : VolumeState) → state_at states s ≡ Some z → IsHeldIn disk pool s z
  one s z there = subst (λ (o : Option VolumeState). IfSome o (IsHeldIn disk pool s)) there (may.each s)

  x_held : IsHeldIn disk pool slot x
  x_held = one slot x may.there

  told : TellsEntries disk pool.containers
  told = (x_held.stands.told.0, x_held.stands.told.2)

  -- none stands on a snapshot of a volume that isn't known
  off : StandOff pool.containers slot states
  off s t z other there up = by z.base refl (subst (λ (o : Option VolumeState). IfSome o (λ z. IfSome z.base (λ b. IsFooted states z b × IsOnBase pool.containers z))) there (may.footed.each s))
    where
      above : (o : Option Base) → z.base ≡ o → option_map (λ (b : Base). b.parent) o ≡ Some t
      above o e = ap (option_map (λ (b : Base). b.parent)) (sym e) ∙ sym (ap parent_in there) ∙ sym (may.housed.parents s) ∙ up

      by : (o : Option Base) → z.base ≡ o → IfSome o (λ b. IsFooted states z b × IsOnBase pool.containers z) → (t ≢ slot) × (is_some (state_at states t) ≡ true)
      by None e is = absurd (none-some t (above None e))
      by (Some b) e is =
          let at : b.parent ≡ t = same_Some b.parent t (above (Some b) e) in
          let here : state_at states t ≡ Some is.0.parent = ap (state_at states) (sym at) ∙ is.0.there in (
            (λ same.
                let this : is.0.parent ≡ x = same_Some is.0.parent x (sym here ∙ ap (state_at states) same ∙ may.there) in
                true≢false (sym is.0.known ∙ ap (λ (y : VolumeState). y.known) this ∙ may.unclean)),
            ap is_some here,
          )

  module _ (others : (s : ℕ) → s ≢ slot → container_at left.containers s ≡ container_at pool.containers s) (parents : left.containers.parents ≡ pool.containers.parents)
      (kept : (s v : ℕ) (z : VolumeState) (e : Entry) → s ≢ slot → state_at states s ≡ Some z → own_entry (container_at pool.containers s) v ≡ Some e → fin.get left.kept e.pvbn ≡ fin.get pool.kept e.pvbn)
      (next : (s v : ℕ) (z : VolumeState) (e : Entry) → s ≢ slot → state_at states s ≡ Some z → own_entry (container_at pool.containers s) v ≡ Some e → is_member left.map.next e.pvbn ≡ true)
      (clean : AreCleanOn after.reads left.containers) (found : left.found ≡ pool.found) where
    stays : (s : ℕ) (z : VolumeState) → s ≢ slot → state_at states s ≡ Some z → StaysBeside disk pool after left z
    stays s z other there = beside_off disk after pool left states slot off others (λ s differs. ap (λ (ps : List (Option ℕ)). slice_index_or ps s None) parents) reads.stays.tells reads.stays.reads
        z (ap (state_at states) (one s z there).slot ∙ there) (λ e. other (sym (one s z there).slot ∙ e)) kept next clean (one s z there).stands

    -- Each of them is held as it was,
    pub stays_held : (s : ℕ) (z : VolumeState) → s ≢ slot → state_at states s ≡ Some z → IsHeldIn after left s z
    stays_held s z other there =
        let was = one s z there in
        let same : container_at left.containers z.slot ≡ container_at pool.containers z.slot = others z.slot (λ e. other (sym was.slot ∙ e)) in
        record {
          slot = was.slot;
          ready = record {
            lent = record {
              within = was.ready.lent.within;
              stands = store;
              few = was.ready.lent.few;
              entries = subst (λ (c : Option Mapped). z.map.span ≤ length (entries_in c)) (sym same) was.ready.lent.entries;
            };
            labelled = was.ready.labelled;
            booked = was.ready.booked;
            blocks = subst (λ (f : Found). IsSize f.blocks) (sym found) was.ready.blocks;
            changed = was.ready.changed;
            fresh = was.ready.fresh;
          };
          stands = (stays s z other there).standing;
          led = (stays s z other there).led was.led;
          well = (stays s z other there).well was.well;
          wide = subst (λ (v : Volume). v.most + (set.len (base_ids v.base) + 256) ≤ v.span) (sym (stays s z other there).volume) was.wide;
          within = was.within;
        }

    -- and stands for what it stood for.
    pub leaves_beside : LeavesBeside disk pool states slot after left
    leaves_beside = record { held = stays_held; volume = λ s z other there. (stays s z other there).volume }

  -- So it is where a block moved.
  pub moved_beside : (v kind : ℕ) (block : List ℕ) → MovesBlock disk pool slot v kind block left → LeavesBeside disk pool states slot after left
  moved_beside v kind block moves = leaves_beside moves.entry.others moves.entry.parents
      (λ s w z e other there own. kept_other disk pool left slot v kind block moves told e.pvbn (apart s w z e other there own))
      (λ s w z e other there own. next_other disk pool left slot v kind block moves told e.pvbn (apart s w z e other there own)
      (λ d mine same. may.apart s z other there w e own (record { vvbn = v; entry = d; stands = mine; leads = sym same })) ∙ next s w z e there own)
      (subst (λ (i : Image). AreCleanOn i left.containers) (sym reads.stays.reads) (moves.entry.clean told)) moves.found
    where
      next : (s w : ℕ) (z : VolumeState) (e : Entry) → state_at states s ≡ Some z → own_entry (container_at pool.containers s) w ≡ Some e → is_member pool.map.next e.pvbn ≡ true
      next s w z e there own = let held = one s z there in held.stands.told.1.own w e (ap (λ (n : ℕ). own_entry (container_at pool.containers n) w) held.slot ∙ own)

      apart : (s w : ℕ) (z : VolumeState) (e : Entry) → s ≢ slot → state_at states s ≡ Some z → own_entry (container_at pool.containers s) w ≡ Some e → e.pvbn ≢ moves.place
      apart s w z e other there own same = true≢false (sym (next s w z e there own) ∙ ap (is_member pool.map.next) same ∙ was_free disk pool left slot v kind block moves told)
