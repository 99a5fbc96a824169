-- What is left to do after a step of one volume: in the others what there was, and in all together less.
use Rattle.std.proofs.Common.{◌≡◌, ◌≢◌, ◌≤◌, ◌<◌, ◌+◌, ℕ, zero, suc, true, cond, true≢false, List, [], ◌∷◌, length, Option, Some, None, is_some, inl, inr, refl, sym, ap, subst, ◌∙◌, arith}
use Rattle.std.specs.Prelude.{IfSome, slice_index_or, sum_by}
use Rattle.std.specs.Option.{option_map}
use Rattle.std.proofs.lemmas.List.Sums.{sum_by-cons}
use Rattle.std.proofs.lemmas.Option.{none-some, same_Some}
use Rattle.fv_disk.specs.Shown.{Shown}
use Rattle.fv_disk.specs.DiskCalls.{OnlyReads}
use Rattle.fv_bits.specs.Members.{is_member}
use Rattle.fv_container.specs.declared.entry.Entry.{Entry}
use Rattle.fv_container.specs.Mapped.{Mapped}
use Rattle.fv_container.specs.Chains.{TellsEntries, container_at, own_entry, parent_at}
use Rattle.fv_volmap.specs.Slots.{taken_in}
use Rattle.fv_pool.specs.declared.pool.Pool.{Pool}
use Rattle.fv_pool.specs.BlocksOver.{LeavesPool, LoadsPool, held_entry}
use Rattle.fv_pool.specs.Keeping.{kept_or, seen}
use Rattle.fv_pool.specs.Moving.{MovesBlock}
use Rattle.fv_pool.proofs.AlongChains.{FoundAt, held_found, held_stays}
use Rattle.fv_volume.specs.declared.state.Base.{Base}
use Rattle.fv_volume.specs.declared.state.VolumeState.{VolumeState}
use Rattle.fv_volume.specs.Held.{IsHeldIn}
use Rattle.fv_volume.specs.States.{States, parent_in, state_at}
use Rattle.fv_volumes.specs.Footing.{IsFooted, IsOnBase}
use Rattle.fv_cleaner.specs.Left.{left_in, unknown_among, unknown_under}
use Rattle.fv_cleaner.specs.Searching.{lies_in, placed_by}
use Rattle.fv_cleaner.specs.Staying.{MayBeCleaned}
use Rattle.fv_cleaner.specs.Stepping.{CleansVolume, roots_of}
use Rattle.fv_cleaner.proofs.Beside.{kept_other, was_free}
use Rattle.fv_aggregate.specs.declared.session.Session.{Session}
use Rattle.fv_aggregate.specs.Working.{todo, todo_at}

-- ---- sums over slots

-- what is the same slot by slot has the same sum
pub same_slots : (f g : Option VolumeState → ℕ) (xs ys : States) → length ys ≡ length xs → ((k : ℕ) → f (state_at ys k) ≡ g (state_at xs k))
    → sum_by f ys ≡ sum_by g xs
same_slots f g [] [] long same = refl
same_slots f g [] (y ∷ ys) long same = absurd cc
same_slots f g (x ∷ xs) [] long same = absurd cc
same_slots f g (x ∷ xs) (y ∷ ys) long same =
    let first : f y ≡ g x = same 0 in
    let rest = same_slots f g xs ys (let n : length ys ≡ length xs = omega (arith, long) in n) (λ k. same (suc k)) in
    omega (arith, first, rest, sum_by-cons f y ys, sum_by-cons g x xs)

-- and what is less in one slot has a smaller one
pub less_slots : (f g : Option VolumeState → ℕ) (xs ys : States) (s : ℕ) → length ys ≡ length xs → s < length xs
    → ((k : ℕ) → k ≢ s → f (state_at ys k) ≡ g (state_at xs k)) → f (state_at ys s) < g (state_at xs s)
    → sum_by f ys < sum_by g xs
less_slots f g [] ys s long within same less = absurd (omega (arith, within))
less_slots f g (x ∷ xs) [] s long within same less = absurd cc
less_slots f g (x ∷ xs) (y ∷ ys) zero long within same less =
    let first : f y < g x = less in
    let rest = same_slots f g xs ys (let n : length ys ≡ length xs = omega (arith, long) in n) (λ k. same (suc k) (λ e. absurd cc)) in
    omega (arith, first, rest, sum_by-cons f y ys, sum_by-cons g x xs)
less_slots f g (x ∷ xs) (y ∷ ys) (suc s) long within same less =
    let first : f y ≡ g x = same 0 (λ e. absurd cc) in
    let rest = less_slots f g xs ys s (let n : length ys ≡ length xs = omega (arith, long) in n)
    (let lt : s < length xs = omega (arith, within) in lt)
    (λ k differ. same (suc k) (λ e. differ (let n : k ≡ s = omega (arith, e) in n))) less in
    omega (arith, first, rest, sum_by-cons f y ys, sum_by-cons g x xs)

-- nothing is left anywhere where none is in each slot
pub none_slots : (f : Option VolumeState → ℕ) (xs : States) → ((k : ℕ) → k < length xs → f (state_at xs k) ≡ 0) → sum_by f xs ≡ 0
none_slots f [] none = refl
none_slots f (x ∷ xs) none =
    let first : f x ≡ 0 = none 0 (let lt : 0 < length (x ∷ xs) = omega arith in lt) in
    let rest = none_slots f xs (λ k lt. none (suc k) (let n : suc k < length (x ∷ xs) = omega (arith, lt) in n)) in
    omega (arith, first, rest, sum_by-cons f x xs)

-- ---- the other volumes

-- where only the cache changed
pub left_read : (disk after : Shown) (pool q : Pool) (z : VolumeState) → LeavesPool pool q → OnlyReads disk after
    → left_in after.reads q z ≡ left_in disk.reads pool z
unfolding left_in
left_read disk after pool q z leaves reads = λ j.
    unknown_among (roots_of z) + unknown_under
    (λ v. placed_by (leaves.kept j) (reads.stays.reads j) (held_entry z.map (leaves.containers j) z.slot v)) z.map.span

-- where leaves of containers came into memory
left_loaded : (disk after : Shown) (pool q : Pool) (z : VolumeState) → LoadsPool disk pool q → OnlyReads disk after
    → left_in after.reads q z ≡ left_in disk.reads pool z
unfolding left_in
left_loaded disk after pool q z loads reads = λ j.
    unknown_among (roots_of z) + unknown_under (λ v. placed_by (loads.kept j) (reads.stays.reads j) (held v j)) z.map.span
  where
    held : (v : ℕ) → held_entry z.map q.containers z.slot v ≡ held_entry z.map pool.containers z.slot v
    held = held_stays pool.containers q.containers (λ s v. Unit {0})
        (λ s v r. ap (λ (ps : List (Option ℕ)). slice_index_or ps s None) loads.containers.parents)
        (λ s v r. ap (λ (c : Option Mapped). own_entry c v) (loads.containers.maps s)) (λ s v t r none up. tt) z.map z.slot (λ v taken. tt)

pub todo_loaded : (disk after : Shown) (old new : Session) → LoadsPool disk old.pool new.pool → OnlyReads disk after
    → new.volumes ≡ old.volumes → todo after new ≡ todo disk old
todo_loaded disk after old new loads reads same =
    same_slots (todo_at after.reads new.pool) (todo_at disk.reads old.pool) old.volumes new.volumes (ap length same)
    (λ k. ap (λ (ss : List (Option VolumeState)). todo_at after.reads new.pool (state_at ss k)) same ∙ one (state_at old.volumes k))
  where
    one : (o : Option VolumeState) → todo_at after.reads new.pool o ≡ todo_at disk.reads old.pool o
    one None = refl
    one (Some z) = ap (λ (n : ℕ). cond z.known 0 n) (left_loaded disk after old.pool new.pool z loads reads)

-- a volume of a session in another slot
record IsOff (states : States) (slot s : ℕ) : Type 0 where
  volume : VolumeState
  there : state_at states s ≡ Some volume
  other : s ≢ slot

is_off : (states : States) (slot s : ℕ) → s ≢ slot → (o : Option VolumeState) → state_at states s ≡ o → is_some o ≡ true
    → IsOff states slot s
is_off states slot s other None there some = absurd (true≢false (sym some))
is_off states slot s other (Some x) there some = record { volume = x; there = there; other = other }

module _ (disk after : Shown) (pool left : Pool) (states : States) (slot : ℕ) (x : VolumeState)
    (may : MayBeCleaned disk pool states slot x) (reads : OnlyReads disk after) (v kind : ℕ)
    (block : List ℕ) (moves : MovesBlock disk pool slot v kind block left) where
  one : (s : ℕ) (z : VolumeState) → state_at states s ≡ Some z → IsHeldIn disk pool s z
  one s z there = subst (λ (o : Option VolumeState). IfSome o (IsHeldIn disk pool s)) there (may.each s)

  told : TellsEntries disk pool.containers
  told = let is = (one slot x may.there).stands.told in (is.0, is.2)

  abbrev Off : ℕ → ℕ → Type 0
  Off s w = IsOff states slot s

  parents_off : (s w : ℕ) → Off s w → parent_at left.containers s ≡ parent_at pool.containers s
  parents_off s w r = ap (λ (ps : List (Option ℕ)). slice_index_or ps s None) moves.entry.parents

  own_off : (s w : ℕ) → Off s w → own_entry (container_at left.containers s) w ≡ own_entry (container_at pool.containers s) w
  own_off s w r = ap (λ (c : Option Mapped). own_entry c w) (moves.entry.others s r.other)

  -- none stands on a snapshot of a volume that isn't known
  up_off : (s w t : ℕ) → Off s w → own_entry (container_at pool.containers s) w ≡ None → parent_at pool.containers s ≡ Some t → Off t w
  up_off s w t r none up = by r.volume.base refl
      (subst (λ (o : Option VolumeState). IfSome o (λ z. IfSome z.base (λ b. IsFooted states z b × IsOnBase pool.containers z))) r.there
      (may.footed.each s))
    where
      above : (o : Option Base) → r.volume.base ≡ o → option_map (λ (b : Base). b.parent) o ≡ Some t
      above o e = ap (option_map (λ (b : Base). b.parent)) (sym e) ∙ sym (ap parent_in r.there) ∙ sym (may.housed.parents s) ∙ up

      by : (o : Option Base) → r.volume.base ≡ o → IfSome o (λ b. IsFooted states r.volume b × IsOnBase pool.containers r.volume) → Off t w
      by None e is = absurd (none-some t (above None e))
      by (Some b) e is =
          let at : b.parent ≡ t = same_Some b.parent t (above (Some b) e) in
          let here : state_at states t ≡ Some is.0.parent = ap (state_at states) (sym at) ∙ is.0.there in
          is_off states slot t
          (λ same.
          let this : is.0.parent ≡ x = same_Some is.0.parent x (sym here ∙ ap (state_at states) same ∙ may.there) in
          true≢false (sym is.0.known ∙ ap (λ (y : VolumeState). y.known) this ∙ may.unclean))
          (state_at states t) refl (ap is_some here)

  module _ (z : VolumeState) (there : state_at states z.slot ≡ Some z) (other : z.slot ≢ slot) where
    on : (w : ℕ) → taken_in z.map.slots w ≡ true → Off z.slot w
    on w taken = record { volume = z; there = there; other = other }

    held_off : (w : ℕ) → held_entry z.map left.containers z.slot w ≡ held_entry z.map pool.containers z.slot w
    held_off = held_stays pool.containers left.containers Off parents_off own_off up_off z.map z.slot on

    found_off : (w : ℕ) (e : Entry) → held_entry z.map pool.containers z.slot w ≡ Some e
        → (w ≤ 1048575) × FoundAt pool.containers left.containers Off parents_off own_off up_off w e
    found_off = held_found pool.containers left.containers Off parents_off own_off up_off z.map z.slot on

    -- a block that another volume's entry leads to isn't the one that was taken
    apart : (s w : ℕ) → Off s w → (e : Entry) → own_entry (container_at pool.containers s) w ≡ Some e → e.pvbn ≢ moves.place
    apart s w r e own same =
        let held = one s r.volume r.there in
        let next : is_member pool.map.next e.pvbn ≡ true =
        held.stands.told.1.own w e (ap (λ (n : ℕ). own_entry (container_at pool.containers n) w) held.slot ∙ own) in
        true≢false (sym next ∙ ap (is_member pool.map.next) same ∙ was_free disk pool left slot v kind block moves told)

    lies_off : (w : ℕ) → lies_in z.map left z.slot after.reads w ≡ lies_in z.map pool z.slot disk.reads w
    lies_off w = ap (placed_by left.kept after.reads) (held_off w) ∙ so (held_entry z.map pool.containers z.slot w) refl
      where
        so : (o : Option Entry) → held_entry z.map pool.containers z.slot w ≡ o
            → placed_by left.kept after.reads o ≡ placed_by pool.kept disk.reads o
        so None is = refl
        so (Some e) is =
            let at = found_off w e is in
            let waits = kept_other disk pool left slot v kind block moves told e.pvbn (apart at.1.slot w at.1.rests e at.1.own) in
            let same : seen left.kept after.reads e.pvbn ≡ seen pool.kept disk.reads e.pvbn =
            λ i. kept_or (waits i) (reads.stays.reads i e.pvbn) in
            λ i. Some (record { pvbn = e.pvbn; kind = e.kind; block = same i })

    pub left_off : left_in after.reads left z ≡ left_in disk.reads pool z
    unfolding left_in
    left_off = λ i. unknown_among (roots_of z) + unknown_under (λ w. lies_off w i) z.map.span

-- So in each other slot as much is left as before.
pub todo_off : (disk after : Shown) (pool left : Pool) (states : States) (slot : ℕ) (x y : VolumeState)
    (may : MayBeCleaned disk pool states slot x) → OnlyReads disk after → CleansVolume disk pool x left y true → x.slot ≡ slot
    → (k : ℕ) → k ≢ slot → (o : Option VolumeState) → state_at states k ≡ o
    → todo_at after.reads left o ≡ todo_at disk.reads pool o
todo_off disk after pool left states slot x y may reads cleans at k differ None there = refl
todo_off disk after pool left states slot x y may reads cleans at k differ (Some z) there = ap (λ (n : ℕ). cond z.known 0 n) (by cleans)
  where
    its : z.slot ≡ k
    its = (subst (λ (o : Option VolumeState). IfSome o (IsHeldIn disk pool k)) there (may.each k)).slot

    by : CleansVolume disk pool x left y true → left_in after.reads left z ≡ left_in disk.reads pool z
    by (inl is) = left_off disk after pool left states slot x may reads is.vvbn is.kind is.block
        (subst (λ (n : ℕ). MovesBlock disk pool n is.vvbn is.kind is.block left) at is.moves)
        z (ap (state_at states) its ∙ there) (λ e. differ (sym its ∙ e))
    by (inr is) = left_read disk after pool left z is.leaves reads
