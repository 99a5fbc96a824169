-- A session with a new volume, whatever command made it.
use Rattle.std.proofs.Common.{◌≡◌, ◌≤◌, ◌<◌, ◌+◌, inl, inr, ⊎_elim, ℕ, Bool, false, Option, Some, None, refl, sym, ap, subst, ◌∙◌, true≢false, arith, Result, Ok, Err}
use Rattle.std.specs.Prelude.{IfOk, IsNone, IsTrue, max}
use Rattle.std.specs.FinMap as fin
use Rattle.fv_disk.specs.Shown.{IsDisk, Shown}
use Rattle.fv_disk.specs.DiskCalls.{OnlyReads}
use Rattle.std.proofs.lemmas.Bool.{cases_lt}
use Rattle.fv_model.specs.declared.answers.Refusal.{Refusal}
use Rattle.fv_model.specs.declared.answers.Reply.{Reply}
use Rattle.fv_model.specs.declared.answers.Reply.TheVariants.{Done, Refused}
use Rattle.fv_model.specs.declared.commands.Command.{Command}
use Rattle.fv_model.specs.Machines.{Machine}
use Rattle.fv_model.specs.Refusals.{next, refusal}
use Rattle.fv_model.specs.Replies.{Allows, AllowsBy, IsAnswer, answer, is_open}
use Rattle.fv_image.specs.Held.{view_at}
use Rattle.fv_image.specs.Views.{overheads}
use Rattle.fv_root.specs.Finding.{root_found}
use Rattle.fv_pool.specs.declared.pool.Pool.{Pool}
use Rattle.fv_volume.specs.declared.state.VolumeState.{VolumeState}
use Rattle.fv_volume.specs.OneVolume.{volume_for}
use Rattle.fv_volume.specs.States.{States, parent_in, with_state}
use Rattle.fv_volumes.specs.Creating.{with_holes_on}
use Rattle.fv_volumes.specs.Footing.{AreFooted}
use Rattle.fv_cp.specs.Held.{IsHeldIn}
use Rattle.fv_aggregate.specs.declared.fault.Fault.{Fault}
use Rattle.fv_aggregate.specs.declared.session.Session.{Session}
use Rattle.fv_aggregate.specs.Adding.{HasRoom, IsAdded}
use Rattle.fv_aggregate.specs.declared.fault.Fault.TheVariants.{Memory}
use Rattle.fv_aggregate.specs.Asking.{AsksWithin}
use Rattle.fv_aggregate.specs.Calls.{Goes, GoesFor, KeepsAsking}
use Rattle.fv_aggregate.specs.Commands.{AsksNothing, is_refusal}
use Rattle.fv_aggregate.specs.Standing.{clear_blocks, unwritten, IsWithoutFiles, StandsFor, StandsReady}
use Rattle.fv_aggregate.proofs.Roots.{keeps_earlier}
use Rattle.fv_aggregate.proofs.Applied.{rests_for}
use Rattle.fv_aggregate.proofs.Asking.{asked_added, overheads_added, pending_added, waiting_added}
use Rattle.fv_aggregate.proofs.Missing.{refused_next}
use Rattle.fv_aggregate.proofs.Standing.{earlier_moments, known_still}
use Rattle.fv_aggregate.proofs.Beside.{held_beside, machine_beside, none_beside, ready_beside}

-- A volume that was put among others is one of the machine that comes of it, beside those that were.
pub record Becomes (disk : Shown) (pool : Pool) (states : States) (x : VolumeState) (m after : Machine) : Type 0 where
  pub held : IsHeldIn disk (with_holes_on pool x.slot x.span (parent_in (Some x))) x.slot x
  pub footed : AreFooted (with_state states x.slot (Some x)) (with_holes_on pool x.slot x.span (parent_in (Some x))).containers
  pub machine : after ≡ record m { volumes = fin.insert m.volumes x.name (volume_for disk (with_holes_on pool x.slot x.span (parent_in (Some x))) x) }

-- ---- the slots

module _ (session : Session) (x : VolumeState) (room : ℕ) (new : Session) (added : IsAdded session x room new) where
  abbrev left : Pool
  left = with_holes_on session.pool x.slot x.span (parent_in (Some x))

  abbrev row : States
  row = with_state session.volumes x.slot (Some x)

  abbrev as_put : Session
  as_put = record new { pool = left; volumes = row }

  -- the session is that one with the new volume
  put_is : as_put ≡ new
  put_is = λ i. record new { pool = (sym added.put.holes) i; volumes = (sym added.put.row) i }

  pub stands_added : (disk : Shown) → StandsReady disk session → StandsReady disk new
  stands_added disk stands = subst (StandsReady disk) put_is (record {
    stands = record { found = stands.stands.found; map = stands.stands.map; cache = stands.stands.cache };
    ready = ready_beside disk session.pool session.volumes x added.fit added.few added.put.within added.put.free added.is stands.stands.cache stands.ready;
  })

  pub asks_added : (disk : Shown) (kept : ℕ) → new.pending ≡ session.pending + room → session.pending + room ≤ max 256 room → AsksWithin disk session (max kept room) → AsksWithin disk new (max kept room)
  asks_added disk kept pending few asks = subst (λ (s : Session). AsksWithin disk s (max kept room)) put_is (record {
    asked = (let most = asked_added session.volumes x added.fit.housed.long added.put.within added.put.free added.is in let own = added.room_is in omega (arith, asks.asked, most, own, pending));
    pending = omega (arith, few, pending);
  })

  pub made_files : (disk : Shown) → IsWithoutFiles session → IsWithoutFiles new
  made_files disk none = subst IsWithoutFiles put_is (record {
    none = none_beside disk session.pool session.volumes x added.fit added.few added.put.within added.put.free added.is none.none;
    taken = none.taken;
  })

  -- no block is taken for it in memory
  pub made_map : new.pool.map ≡ session.pool.map
  made_map = ap (λ (p : Pool). p.map) added.put.holes

  module _ (disk : Shown) (last m after : Machine) (stands : StandsFor disk session last m) (becomes : Becomes disk session.pool session.volumes x m after) where
    pub made_stands : new.pending ≡ session.pending + room → HasRoom disk session room → StandsFor disk new last after
    made_stands pending enough =
        let long = added.fit.housed.long in
        let files = pending_added session.volumes x long added.put.within added.put.free added.is in
        let maps = waiting_added session.volumes x long added.put.within added.put.free added.is in
        let none : unwritten as_put ≡ unwritten session = omega (arith, files, maps) in
        let over = overheads_added session.volumes x long added.put.within added.put.free added.is in
        let own = added.room_is in
        subst (λ (s : Session). StandsFor disk s last after) put_is (record {
          held = held_beside disk session.pool session.volumes x added.fit added.few added.put.within added.put.free added.is last stands.held added.name_is added.commits becomes.held becomes.footed;
          machine = machine_beside disk session.pool session.volumes x added.fit added.few added.put.within added.put.free added.is last stands.held added.name_is added.commits
              ∙ ap (λ (k : Machine). record k { volumes = fin.insert k.volumes x.name (volume_for disk left x) }) stands.machine ∙ sym becomes.machine;
          settled = stands.settled;
          delays = known_still disk.reads disk.reads session.pool.found session.pool.found session.delays new.delays refl refl added.delays stands.delays;
          pending = omega (arith, none, over, own, pending, stands.pending);
          files = omega (arith, none, pending, stands.files);
          few = omega (arith, files, stands.few);
          free = omega (arith, files, stands.free);
          room = subst (λ (n : ℕ). overheads (view_at (root_found session.pool.found) disk.reads) + max 256 n ≤ clear_blocks session.pool.map) (sym pending) enough;
        })

-- ---- the reply

-- a volume that is admitted is made, and nothing else is answered
pub done_allowed : (m : Machine) (c : Command) → is_open m c ≡ false → answer m c ≡ Done → refusal m c ≡ None → (result : Result Reply Fault) → IfOk result (λ reply. reply ≡ Done) → IfOk result (Allows m c)
done_allowed m c closed same none (Ok reply) done =
    subst (λ (r : Option Refusal). AllowsBy r m c reply) (sym none) (subst (λ (b : Bool). IsAnswer b (answer m c) reply) (sym closed) (done ∙ sym same))
done_allowed m c closed same none (Err fault) done = tt

pub not_refused : (X : Type 0) (result : Result Reply Fault) → IfOk result (λ reply. reply ≡ Done) → IfOk result (λ reply. IsTrue (is_refusal reply) → X)
not_refused X (Ok reply) done = λ refused. absurd (true≢false (sym refused ∙ ap is_refusal done))
not_refused X (Err fault) done = tt

-- a refusal leaves the session, which stands for the machine's next one
pub refused_for : (disk : Shown) (session : Session) (last m : Machine) (c : Command) (r : Refusal) → IsDisk disk → StandsFor disk session last m → refusal m c ≡ Some r → GoesFor disk last m (next m c) disk session (Ok (Refused r))
refused_for disk session last m c r laws stands is = rests_for (Refused r) disk session last m (next m c) laws (refused_next m c r is) stands

-- ---- a volume that was admitted, after room was made for it

module _ (before : Shown) (old : Session) (mid : Shown) (session : Session) (room : ℕ) where
  -- it was added
  pub added_goes : Goes {T = Unit {0}} room AsksNothing before old mid session (Ok tt) → session.pending ≤ old.pending → (x : VolumeState) (new : Session) → IsAdded session x room new → new.pending ≡ session.pending + room → Goes room AsksNothing before old mid new (Ok Done)
  added_goes goes less x new added pending = record {
    ends = goes.ends;
    stands = λ fresh. stands_added session x room new added mid (goes.stands goes.done.goes_on);
    done = record {
      was = goes.done.was;
      goes_on = subst IsNone (sym added.failed) goes.done.goes_on;
      counts = goes.done.counts;
      root = λ tells. keeps_earlier old session new (goes.done.root tells) (ap (λ (p : Pool). p.found) added.put.holes);
    };
    fault = tt;
    pending = omega (arith, pending, less);
  }

  pub added_asks : Goes {T = Unit {0}} room AsksNothing before old mid session (Ok tt) → KeepsAsking room before old mid session → session.pending + room ≤ max 256 room → (x : VolumeState) (new : Session) → IsAdded session x room new → new.pending ≡ session.pending + room → KeepsAsking room before old mid new
  added_asks goes keeps few x new added pending = λ tells kept asks fresh. asks_added session x room new added mid kept pending few (keeps tells kept asks goes.done.goes_on)

  pub added_for : (last m after : Machine) → GoesFor {T = Unit {0}} before last m m mid session (Ok tt) → HasRoom mid session room → (x : VolumeState) (new : Session) → IsAdded session x room new → new.pending ≡ session.pending + room
      → ((point : Machine) → StandsFor mid session point m → Becomes mid session.pool session.volumes x m after) → GoesFor before last m after mid new (Ok Done)
  added_for last m after goes enough x new added pending becomes =
      let stands = goes.done in
      record {
        any_moment = earlier_moments before mid last m after before.given goes.any_moment;
        done = record { point = stands.point; one = stands.one; stands = made_stands session x room new added mid stands.point m after stands.stands (becomes stands.point stands.stands) pending enough };
        still = λ fresh. tt;
        whole = tt;
      }

  -- room was made, and then memory lacked for the volume
  pub wanting_goes : Goes {T = Unit {0}} room AsksNothing before old mid session (Ok tt) → (old.pending + room ≤ 256 → OnlyReads before mid) → Goes {T = Reply} room AsksNothing before old mid session (Err Memory)
  wanting_goes goes calm = record {
    ends = goes.ends;
    stands = goes.stands;
    done = tt;
    fault = record {
      reason = goes.done.was;
      counts = goes.done.counts;
      session = goes.done.goes_on;
      disk = ⊎_elim (λ (past : 256 < old.pending + room). inr (inl past)) (λ (low : old.pending + room ≤ 256). inl (calm low)) (cases_lt 256 (old.pending + room));
    };
    pending = goes.pending;
  }

  -- memory ran out
  pub wanting_for : (last m after : Machine) → GoesFor {T = Unit {0}} before last m m mid session (Ok tt) → GoesFor {T = Reply} before last m after mid session (Err Memory)
  wanting_for last m after goes = record {
    any_moment = earlier_moments before mid last m after before.given goes.any_moment;
    done = tt;
    still = λ fresh. goes.done;
    whole = tt;
  }

  -- room couldn't be made
  pub unmade_for : (last m after : Machine) (e : Fault) → GoesFor {T = Unit {0}} before last m m mid session (Err e) → GoesFor {T = Reply} before last m after mid session (Err e)
  unmade_for last m after e goes = record {
    any_moment = earlier_moments before mid last m after before.given goes.any_moment;
    done = tt;
    still = goes.still;
    whole = goes.whole;
  }
