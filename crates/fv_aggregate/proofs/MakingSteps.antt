-- The steps of a call that makes a volume, whichever volume it is: it makes room, and then adds the volume in memory. At the end of each step it does
-- what a maker may do.
use Rattle.std.proofs.Common.{◌≡◌, ◌≤◌, ◌<◌, ◌+◌, ℕ, Result, Ok, Err, refl, sym, ap, subst, ◌∙◌}
use Rattle.std.specs.Prelude.{IsNone, IsTrue, max}
use Rattle.fv_disk.specs.Shown.{Shown}
use Rattle.fv_model.specs.declared.answers.Reply.{Reply}
use Rattle.fv_model.specs.declared.answers.Reply.TheVariants.{Done}
use Rattle.fv_model.specs.Machines.{Machine}
use Rattle.fv_volume.specs.declared.state.VolumeState.{VolumeState}
use Rattle.fv_aggregate.specs.declared.fault.Fault.{Fault}
use Rattle.fv_aggregate.specs.declared.fault.Fault.TheVariants.{Memory}
use Rattle.fv_aggregate.specs.declared.session.Session.{Session}
use Rattle.fv_aggregate.specs.Adding.{HasRoom, IsAdded}
use Rattle.fv_aggregate.specs.Calls.{KeepsHolding, MakesNoHoles, Runs}
use Rattle.fv_aggregate.specs.Commands.{AsksNothing}
use Rattle.fv_aggregate.specs.Making.{MakesVolume}
use Rattle.fv_aggregate.specs.Reclaiming.{HasPointed}
use Rattle.fv_aggregate.specs.Standing.{StandsFor}
use Rattle.fv_aggregate.proofs.Added.{Becomes, added_asks, added_for, added_goes, made_files, made_map, unmade_for, wanting_for, wanting_goes}
use Rattle.fv_aggregate.proofs.Applying.{rests_as, same_map}
use Rattle.fv_aggregate.proofs.Calls.{fails_alike}
use Rattle.fv_aggregate.proofs.Holes.{added_entries, kept_entries, no_holes}
use Rattle.fv_aggregate.proofs.Keeping.{keeps_added}
use Rattle.fv_aggregate.proofs.MadeRoom.{failed_roomy, made_room}

-- Room for `room` blocks is made from `before` and the session `old` to `mid` and `session`, or isn't; within the dirty limit nothing happens.
module _ {D : Type 0} (shown : D → Shown) (before : D) (old : Session) (mid : D) (session : Session) (room : ℕ) (next : Machine → Machine)
    (calm : old.pending + room ≤ 256 → (mid ≡ before) × (session ≡ old)) where
  -- the answer, and the room, as a call says them
  said : (new : Session) (want : ℕ) (result r : Result Reply Fault) → room ≡ want → result ≡ r → MakesVolume shown room next before old mid new r → MakesVolume shown want next before old mid new result
  said new want result r same answers makes =
      subst (λ (k : ℕ). MakesVolume shown k next before old mid new result) same (subst (λ (a : Result Reply Fault). MakesVolume shown room next before old mid new a) (sym answers) makes)

  calm_map : old.pending + room ≤ 256 → session.pool.map ≡ old.pool.map
  calm_map few = ap (λ (s : Session). s.pool.map) (calm few).1

  -- no room could be made
  unroomed : (f : Fault) → Runs {T = Unit {0}} room AsksNothing (λ m. m) (shown before) old (shown mid) session (Err f) → MakesVolume shown room next before old mid session (Err f)
  unroomed f made = record {
    runs = record {
      goes = fails_alike f room AsksNothing (shown before) old (shown mid) session made.goes;
      asks = made.asks;
      damage = made.damage;
      goes_for = λ tells last m stands. unmade_for (shown before) old (shown mid) session room last m (next m) f (made.goes_for tells last m stands);
      numbers = made.numbers;
    };
    calm = λ few. (calm few).0;
    map = calm_map;
    entries = λ few. subst (λ (s : Session). MakesNoHoles old s) (sym (calm few).1) (no_holes old old (kept_entries old old refl));
    holding = record { files = λ tells none. tt; same = λ tells same. tt };
    wanting = λ few same. (calm few).1;
    roomy = failed_roomy room (shown before) old (shown mid) f (Err f) refl;
  }

  pub without_room : (want : ℕ) (result : Result Reply Fault) (f : Fault) → room ≡ want → result ≡ Err f → Runs {T = Unit {0}} room AsksNothing (λ m. m) (shown before) old (shown mid) session (Err f)
      → MakesVolume shown want next before old mid session result
  without_room want result f same failed made = said session want result (Err f) same failed (unroomed f made)

  module _ (made : Runs {T = Unit {0}} room AsksNothing (λ m. m) (shown before) old (shown mid) session (Ok tt)) where
    -- room was made, and memory ran out
    unadded : MakesVolume shown room next before old mid session (Err Memory)
    unadded = record {
      runs = record {
        goes = wanting_goes (shown before) old (shown mid) session room made.goes (λ few. rests_as shown before mid (calm few).0);
        asks = made.asks;
        damage = tt;
        goes_for = λ tells last m stands. wanting_for (shown before) old (shown mid) session room last m (next m) (made.goes_for tells last m stands);
        numbers = made.numbers;
      };
      calm = λ few. (calm few).0;
      map = calm_map;
      entries = λ few. subst (λ (s : Session). MakesNoHoles old s) (sym (calm few).1) (no_holes old old (kept_entries old old refl));
      holding = record { files = λ tells none. tt; same = λ tells same. tt };
      wanting = λ few same. (calm few).1;
      roomy = failed_roomy room (shown before) old (shown mid) Memory (Err Memory) refl;
    }

    pub without_memory : (new : Session) (want : ℕ) (result : Result Reply Fault) → room ≡ want → result ≡ Err Memory → new ≡ session → MakesVolume shown want next before old mid new result
    without_memory new want result same failed left =
        said new want result (Err Memory) same failed (subst (λ (s : Session). MakesVolume shown room next before old mid s (Err Memory)) (sym left) unadded)

    -- room was made, and the volume added
    module _ (less : session.pending ≤ old.pending) (few : session.pending + room ≤ max 256 room) (holding : KeepsHolding {T = Unit {0}} (shown before) old session (Ok tt))
        (pointed : IsTrue (shown before).tells → (last m : Machine) → StandsFor (shown before) old last m → 256 < old.pending + room → HasPointed room old (shown mid) session m)
        (x : VolumeState) (new : Session) (added : IsAdded session x room new) (pending : new.pending ≡ session.pending + room)
        (becomes : IsTrue (shown before).tells → (last m : Machine) → StandsFor (shown before) old last m
        → HasRoom (shown mid) session room × ((point : Machine) → StandsFor (shown mid) session point m → Becomes (shown mid) session.pool session.volumes x m (next m))) where
      map_added : new.pool.map ≡ session.pool.map
      map_added = made_map session x room new added

      with_volume : MakesVolume shown room next before old mid new (Ok Done)
      with_volume = record {
        runs = record {
          goes = added_goes (shown before) old (shown mid) session room made.goes less x new added pending;
          asks = added_asks (shown before) old (shown mid) session room made.goes made.asks few x new added pending;
          damage = tt;
          goes_for = λ tells last m stands. let is = becomes tells last m stands in
              added_for (shown before) old (shown mid) session room last m (next m) (made.goes_for tells last m stands) is.0 x new added pending is.1;
          numbers = λ alive k known. keeps_added session x room new added k (made.numbers (subst IsNone added.failed alive) k known);
        };
        calm = λ few. (calm few).0;
        map = λ few. map_added ∙ calm_map few;
        entries = λ few. subst (λ (s : Session). MakesNoHoles s new) (calm few).1 (added_entries session x room new added);
        holding = record {
          files = λ tells none. made_files session x room new added (shown mid) (holding.files tells none);
          same = λ tells same. same_map session new map_added (holding.same tells same);
        };
        wanting = λ few. tt;
        roomy = λ tells last m stands some past accepted. made_room room old (shown mid) session m (pointed tells last m stands past);
      }

      pub with_room : (want : ℕ) (reply : Reply) → room ≡ want → reply ≡ Done → MakesVolume shown want next before old mid new (Ok reply)
      with_room want reply same done = said new want (Ok reply) (Ok Done) same (ap (λ (r : Reply). Ok r) done) with_volume
