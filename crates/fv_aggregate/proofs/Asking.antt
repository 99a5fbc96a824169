-- What a consistency point asks for, and the image that lacks it.
use Rattle.std.proofs.Common.{◌≡◌, ◌<◌, ◌≤◌, ◌+◌, ℕ, Bool, true, false, cond, length, Option, Some, None, refl, sym, ap, subst, ◌∙◌, arith}
use Rattle.std.specs.Prelude.{IfSome, IsTrue, max}
use Rattle.std.proofs.lemmas.List.Sums.{sum_by-set}
use Rattle.fv_disk.specs.Shown.{Image, Shown}
use Rattle.fv_disk.specs.DiskCalls.{OnlyReads}
use Rattle.fv_model.specs.Space.{overhead}
use Rattle.fv_image.specs.Layout.{root_place}
use Rattle.fv_image.specs.Held.{view_at}
use Rattle.fv_image.specs.Views.{overheads}
use Rattle.fv_image.proofs.Counts.{none_sum}
use Rattle.fv_root.specs.declared.find.Found.{Found}
use Rattle.fv_root.specs.Finding.{root_found}
use Rattle.fv_aggmap.specs.Space.{free_blocks}
use Rattle.fv_pool.specs.declared.pool.Pool.{Pool}
use Rattle.fv_volume.specs.declared.state.VolumeState.{VolumeState}
use Rattle.fv_volume.specs.States.{States, state_at, view_over, with_state}
use Rattle.fv_volume.specs.Writing.{asked, map_wait}
use Rattle.fv_cp.specs.Lent.{asked_by, blocks_asked, maps_waiting, waiting_by, HaveNoneWaiting}
use Rattle.fv_cp.specs.Placing.{pending_by, pending_files}
use Rattle.fv_aggregate.specs.declared.session.Session.{Session}
use Rattle.fv_aggregate.specs.Adding.{IsYetToWrite}
use Rattle.fv_aggregate.specs.Asking.{AsksWithin, IsShort}
use Rattle.fv_aggregate.specs.Standing.{overhead_by, overheads_in, taken_since, StandsReady}
use Rattle.fv_aggregate.proofs.Clear.{clear_is, clear_stays, free_and_placed}
use Rattle.fv_aggregate.proofs.YetToWrite.{none_waits}
use Rattle.fv_aggregate.proofs.Sums.{asked_within, none_waiting, over_slots, overheads_are, overheads_in_with, pending_with, waiting_with}

-- ---- an image that lacks blocks

-- where a point lacks blocks in the session's map, the image lacks them
pub short_is : (disk : Shown) (session : Session) (left : Pool) (room at want found : ℕ) → IsTrue disk.tells → StandsReady disk session → AsksWithin disk session room → left.map.committed ≡ session.pool.map.committed
    → at ≡ root_place session.pool.found.slot → want ≡ blocks_asked session.volumes → found ≡ free_blocks left.map → found < want → IsShort disk.reads room (taken_since left.map) at want found
short_is disk session left room at want found tells stands asks same place asked free short = record {
  root = root_found session.pool.found;
  counts = (stands.stands.found tells).reads.root;
  place = place;
  free = (let all = free_and_placed left.map in let stays = clear_stays session.pool.map left.map same in let image = clear_is disk.reads session.pool.found session.pool.map (stands.stands.map tells) in omega (arith, free, all, stays, image));
  within = omega (arith, asked, asks.asked, asks.pending);
  short = short;
}

-- ---- what is asked for

pub asks_more : (disk : Shown) (session : Session) (kept room : ℕ) → AsksWithin disk session kept → AsksWithin disk session (max kept room)
asks_more disk session kept room asks = record { asked = asks.asked; pending = omega (arith, asks.pending) }

-- over a disk that reads as before
pub asks_after_reads : (old new : Shown) (session : Session) (room : ℕ) → OnlyReads old new → AsksWithin old session room → AsksWithin new session room
asks_after_reads old new session room reads asks = record {
  asked = subst (λ (i : Image). blocks_asked session.volumes ≤ overheads (view_at (root_found session.pool.found) i) + session.pending) (sym reads.stays.reads) asks.asked;
  pending = asks.pending;
}

-- where a point came to no end, which asked for as much
pub asks_still : (old new : Shown) (session after : Session) (room : ℕ) → OnlyReads old new → after.pool.found ≡ session.pool.found → blocks_asked after.volumes ≡ blocks_asked session.volumes → after.pending ≡ session.pending
    → AsksWithin old session room → AsksWithin new after room
asks_still old new session after room reads found asked pending asks =
    let was = asks_after_reads old new session room reads asks in
    record {
      asked = subst (λ (f : Found). blocks_asked after.volumes ≤ overheads (view_at (root_found f) new.reads) + after.pending) (sym found) (omega (arith, asked, pending, was.asked));
      pending = omega (arith, pending, was.pending);
    }

-- volumes that were just read
pub asked_opened : (pool : Pool) (states : States) (i : Image) → length states ≡ 64 → HaveNoneWaiting states → view_over pool states i ≡ view_at (root_found pool.found) i → blocks_asked states ≤ overheads (view_at (root_found pool.found) i)
asked_opened pool states i long none seen = omega (arith, asked_within states, none_waiting states long none, overheads_are pool states i long, ap overheads seen)

-- volumes without changes ask for nothing, as after a point
pub asked_unchanged : (states : States) → length states ≡ 64 → ((s : ℕ) → IfSome (state_at states s) (λ x. x.changed ≡ false)) → blocks_asked states ≡ 0
asked_unchanged states long unchanged = over_slots asked_by states long ∙ none_sum (λ s. asked_by (state_at states s)) 0 64 (λ k low high. by (state_at states k) (unchanged k))
  where
    by : (o : Option VolumeState) → IfSome o (λ x. x.changed ≡ false) → asked_by o ≡ 0
    by None is = refl
    by (Some x) is = ap {B = ℕ} (λ (b : Bool). cond b (asked x) 0) is

-- ---- a volume more

module _ (states : States) (x : VolumeState) (long : length states ≡ 64) (within : x.slot < 64) (free : state_at states x.slot ≡ None) (is : IsYetToWrite x) where
  abbrev now : States
  now = with_state states x.slot (Some x)

  inside : x.slot < length states
  inside = omega (arith, long, within)

  -- no map of a new volume waits, so as many do as before
  pub waiting_added : maps_waiting now ≡ maps_waiting states
  waiting_added =
      let sum : maps_waiting now + waiting_by (state_at states x.slot) ≡ maps_waiting states + waiting_by (Some x) = waiting_with states x.slot (Some x) inside in
      let nothing : waiting_by (state_at states x.slot) ≡ 0 = ap waiting_by free in
      let none : waiting_by (Some x) ≡ 0 = none_waits x is in
      omega (arith, sum, nothing, none)

  -- a new volume asks for its overhead
  pub asked_added : blocks_asked now ≤ blocks_asked states + overhead x.span
  asked_added =
      let alone : asked x ≡ overhead x.span = only_overhead (overhead x.span) (map_wait x) (none_waits x is) in
      let sum : blocks_asked now + asked_by (state_at states x.slot) ≡ blocks_asked states + asked_by (Some x) = sum_by-set asked_by states x.slot (Some x) None inside in
      let nothing : asked_by (state_at states x.slot) ≡ 0 = ap asked_by free in
      omega (arith, sum, nothing, alone, chosen x.changed (asked x))
    where
      chosen : (b : Bool) (n : ℕ) → cond b n 0 ≤ n
      chosen true n = omega arith
      chosen false n = omega arith

      only_overhead : (a b : ℕ) → b ≡ 0 → a + b ≡ a
      only_overhead a b none = omega (arith, none)

  -- and it is one more to keep room for
  pub overheads_added : overheads_in now ≡ overheads_in states + overhead x.span
  overheads_added =
      let sum : overheads_in now + overhead_by (state_at states x.slot) ≡ overheads_in states + overhead_by (Some x) = overheads_in_with states x.slot (Some x) inside in
      let nothing : overhead_by (state_at states x.slot) ≡ 0 = ap overhead_by free in
      omega (arith, sum, nothing)

  -- without a file in memory
  pub pending_added : pending_files now ≡ pending_files states
  pending_added =
      let sum : pending_files now + pending_by (state_at states x.slot) ≡ pending_files states + pending_by (Some x) = pending_with states x.slot (Some x) inside in
      let nothing : pending_by (state_at states x.slot) ≡ 0 = ap pending_by free in
      let bare : pending_by (Some x) ≡ 0 = ap (λ f. pending_by (Some (record x { files = f }))) is.files in
      omega (arith, sum, nothing, bare)
