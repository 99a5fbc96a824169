-- A mirror that was added, or not, behind the barrier that makes the disk settled again.
use Rattle.std.proofs.Common.{◌≡◌, ◌<◌, ◌≤◌, ◌+◌, ◌-◌, ◌^◌, ◌⊎◌, inl, inr, ⊎_elim, ℕ, List, Option, Some, None, Result, Ok, Err, refl, sym, ap, subst, ◌∙◌, arith}
use Rattle.std.specs.Prelude.{IfSome, IsNone, IsSome, IsTrue}
use Rattle.fv_disk.specs.Shown.{Image, IsSettled, Rose, Shown}
use Rattle.fv_disk.specs.DiskCalls.{Settles}
use Rattle.fv_disk.specs.declared.Failed.{Failed as DiskFailed}
use Rattle.fv_model.specs.declared.commands.Kind.{Kind}
use Rattle.fv_container.specs.Chains.{IsSlots}
use Rattle.fv_volmap.specs.Slots.{IsVolume}
use Rattle.fv_volume.specs.States.{state_at}
use Rattle.fv_cp.specs.Lent.{FitTogether}
use Rattle.fv_mirror.specs.declared.admitting.Admitted.{Admitted}
use Rattle.fv_aggregate.specs.declared.fault.Fault.{Fault}
use Rattle.fv_aggregate.specs.declared.fault.Fault.TheVariants.{DiskFault, Damaged, Memory, Failed}
use Rattle.fv_aggregate.specs.declared.session.Session.{Session}
use Rattle.fv_aggregate.specs.Calls.{MakesNoHoles}
use Rattle.fv_aggregate.specs.Mirroring.{AddsMirror, HasNoMirrorCause, IsNoneAdded, IsSettledBy, LeavesCopies, SettlesSession}
use Rattle.fv_aggregate.proofs.MirroredDisk.{mirrored_settled, others_settled}
use Rattle.fv_aggregate.proofs.MirroredSteps.{mirror_entries}

-- a count that rose, and rose again
rose_again : (top a b c : ℕ) → (a < b) ⊎ (b ≡ top) → (b < c) ⊎ (c ≡ top) → c ≤ top → (a < c) ⊎ (c ≡ top)
rose_again top a b c (inl first) (inl second) most = inl (omega (arith, first, second))
rose_again top a b c (inr full) (inl second) most = absurd (omega (arith, full, second, most))
rose_again top a b c first (inr full) most = inr full

not_none : (o : Option ℕ) (n : ℕ) → IsNone o → o ≡ Some n → ⊥
not_none o n none some = cc

module _ {D : Type 0} (shown : D → Shown) (first : Shown) (old : Session) (name : List ℕ) (size : ℕ) (kind : Kind) (a : Admitted) (room : ℕ) (mid : D) (s : Session) where
  -- what is known of it before the barrier
  counts_from : (r : Result Unit Fault) → AddsMirror first old name size kind a room (shown mid) s r → ((shown mid).faults ≡ first.faults) ⊎ Rose first.faults (shown mid).faults
  counts_from (Ok x) is = inl is.counts.faults
  counts_from (Err DiskFault) is = inr is.cause.0.faults
  counts_from (Err (Damaged at want found)) is = inl is.cause.1.0.faults
  counts_from (Err Memory) is = inl is.cause.0.faults
  counts_from (Err (Failed faults)) is = absurd is.cause

  writes_from : (r : Result Unit Fault) → AddsMirror first old name size kind a room (shown mid) s r → IsNone s.failed → (shown mid).write_faults ≡ first.write_faults
  writes_from (Ok x) is alive = is.counts.write_faults
  writes_from (Err DiskFault) is alive = is.cause.0.write_faults (λ rose. not_none s.failed (shown mid).faults alive (is.cause.1.by_write rose))
  writes_from (Err (Damaged at want found)) is alive = is.cause.1.0.write_faults
  writes_from (Err Memory) is alive = is.cause.0.write_faults
  writes_from (Err (Failed faults)) is alive = absurd is.cause

  kept_from : (r : Result Unit Fault) → AddsMirror first old name size kind a room (shown mid) s r
      → FitTogether old.pool old.volumes × (IsSlots old.pool.containers × IfSome (state_at old.volumes a.source.parent) (λ y. IsVolume y.map))
  kept_from (Ok x) is = (is.fit, (is.few, is.maps))
  kept_from (Err f) is = (is.fit, (is.few, is.maps))

  entries_from : (r : Result Unit Fault) → AddsMirror first old name size kind a room (shown mid) s r → MakesNoHoles old s
  entries_from (Ok x) is = mirror_entries first old name size kind a room (shown mid) s is
  entries_from (Err f) is = is.entries

  most_from : (r : Result Unit Fault) → AddsMirror first old name size kind a room (shown mid) s r → s.pending ≤ old.pending + room
  most_from (Ok x) is = omega (arith, is.pending)
  most_from (Err f) is = is.most

  module _ (after : D) where
    -- the barrier, done or not, leaves what the copying left
    leaves_settled : (r : Result Unit DiskFailed) → Settles (shown mid) (shown after) r → LeavesCopies first old (shown mid) s → LeavesCopies first old (shown after) s
    leaves_settled r settles leaves = record {
      others = others_settled first (shown mid) (shown after) r settles old.pool s.pool leaves.others;
      cache = record { same = λ tells pvbn block has. leaves.cache.same (subst IsTrue settles.tells tells) pvbn block has ∙ sym (ap (λ (i : Image). i pvbn) settles.reads) };
      delays = leaves.delays;
    }

    -- it was done
    module _ (settles : Settles (shown mid) (shown after) (Ok tt)) where
      cause_settled : (f : Fault) → HasNoMirrorCause first old a (shown mid) s f → HasNoMirrorCause first old a (shown after) s f
      cause_settled DiskFault cause =
          let reads = settles.cause.calm in let writes = settles.write_cause.calm in (
            record {
              faults = subst (λ (n : ℕ). Rose first.faults n) (sym reads) cause.0.faults;
              write_faults = λ few. writes ∙ cause.0.write_faults (λ rose. few (subst (λ (n : ℕ). Rose first.write_faults n) (sym writes) rose));
            },
            record {
              by_write = λ rose. cause.1.by_write (subst (λ (n : ℕ). Rose first.write_faults n) writes rose) ∙ ap (λ (n : ℕ). Some n) (sym reads);
              by_read = λ few. cause.1.by_read (λ rose. few (subst (λ (n : ℕ). Rose first.write_faults n) (sym writes) rose));
            },
          )
      cause_settled (Damaged at want found) cause = (cause.0, (record { faults = settles.cause.calm ∙ cause.1.0.faults; write_faults = settles.write_cause.calm ∙ cause.1.0.write_faults }, cause.1.1))
      cause_settled Memory cause = (record { faults = settles.cause.calm ∙ cause.0.faults; write_faults = settles.write_cause.calm ∙ cause.0.write_faults }, cause.1)
      cause_settled (Failed faults) cause = absurd cause

      added_settled : (r : Result Unit Fault) → AddsMirror first old name size kind a room (shown mid) s r → AddsMirror first old name size kind a room (shown after) s r
      added_settled (Ok x) is = record {
        mirrored = mirrored_settled first (shown mid) (shown after) (Ok tt) settles old.volumes old.pool name size kind a s.volumes s.pool is.mirrored;
        room_is = is.room_is;
        fit = is.fit;
        few = is.few;
        maps = is.maps;
        fit_now = is.fit_now;
        set_now = is.set_now;
        counts = record { faults = settles.cause.calm ∙ is.counts.faults; write_faults = settles.write_cause.calm ∙ is.counts.write_faults };
        goes_on = is.goes_on;
        pending = is.pending;
      }
      added_settled (Err f) is = record {
        cause = cause_settled f is.cause;
        fit = is.fit;
        few = is.few;
        maps = is.maps;
        same = is.same;
        set_now = is.set_now;
        pending = is.pending;
        entries = is.entries;
        most = is.most;
      }

    -- it failed, and so did the session
    unsettled : (failed : DiskFailed) → Settles (shown mid) (shown after) (Err failed) → (made : Result Unit Fault) → AddsMirror first old name size kind a room (shown mid) s made → IsNone s.failed → (shown after).faults ≤ 2 ^ 64 - 1
        → IsNoneAdded first old a room (shown after) (record s { failed = Some (shown after).faults }) DiskFault
    unsettled failed settles made is alive most =
        let wrote : Rose first.write_faults (shown after).write_faults = subst (λ (n : ℕ). Rose n (shown after).write_faults) (writes_from made is alive) settles.write_cause.rose in
        let read : Rose first.faults (shown after).faults = ⊎_elim
        (λ (same : (shown mid).faults ≡ first.faults). subst (λ (n : ℕ). Rose n (shown after).faults) same settles.cause.rose)
        (λ (rose : Rose first.faults (shown mid).faults). rose_again (2 ^ 64 - 1) first.faults (shown mid).faults (shown after).faults rose settles.cause.rose most)
        (counts_from made is) in
        record {
          cause = (
            record { faults = read; write_faults = λ few. absurd (few wrote) },
            record { by_write = λ rose. refl; by_read = λ few. absurd (few wrote) },
          );
          fit = (kept_from made is).0;
          few = (kept_from made is).1.0;
          maps = (kept_from made is).1.1;
          same = λ none. absurd (not_none (Some (shown after).faults) (shown after).faults none refl);
          set_now = λ none. absurd (not_none (Some (shown after).faults) (shown after).faults none refl);
          pending = λ none. absurd (not_none (Some (shown after).faults) (shown after).faults none refl);
          entries = entries_from made is;
          most = most_from made is;
        }

    -- ---- both

    abbrev Behind : D → Session → Result Unit Fault → Type 0
    Behind d n result = AddsMirror first old name size kind a room (shown d) n result × (LeavesCopies first old (shown d) n × (IsTrue first.tells → IsNone n.failed → IsSettled (shown d)))

    behind_barrier : (made result : Result Unit Fault) (n : Session) → AddsMirror first old name size kind a room (shown mid) s made → LeavesCopies first old (shown mid) s → IsNone s.failed
        → (r : Result Unit DiskFailed) → Settles (shown mid) (shown after) r → IsSettledBy (shown mid) s made (shown after) n result r → Behind after n result
    behind_barrier made result n is leaves alive (Ok x) settles by =
        subst (λ (k : Session). Behind after k result) (sym by.0) (subst (λ (r : Result Unit Fault). Behind after s r) (sym by.1)
        (added_settled settles made is, (leaves_settled (Ok tt) settles leaves, λ tells none. settles.durable (subst IsTrue (sym leaves.others.tells) tells))))
    behind_barrier made result n is leaves alive (Err failed) settles by =
        subst (λ (k : Session). Behind after k result) (sym by.0) (subst (λ (r : Result Unit Fault). Behind after (record s { failed = Some (shown after).faults }) r) (sym by.1.0) (
          unsettled failed settles made is alive by.1.1,
          (
            let left = leaves_settled (Err failed) settles leaves in record { others = left.others; cache = left.cache; delays = left.delays },
            λ tells none. absurd (not_none (Some (shown after).faults) (shown after).faults none refl),
          ),
        ))

    pub settled_mirror : (made result : Result Unit Fault) (n : Session) → AddsMirror first old name size kind a room (shown mid) s made → LeavesCopies first old (shown mid) s → SettlesSession shown mid s made after n result → Behind after n result
    settled_mirror made result n is leaves settles = by s.failed refl
      where
        by : (o : Option ℕ) → s.failed ≡ o → Behind after n result
        by (Some faults) e =
            let dead = settles.dead (subst IsSome (sym e) refl) in
            subst (λ (d : D). Behind d n result) (sym dead.0) (subst (λ (k : Session). Behind mid k result) (sym dead.1.0) (subst (λ (r : Result Unit Fault). Behind mid s r) (sym dead.1.1)
            (is, (leaves, λ tells none. absurd (not_none s.failed faults none e)))))
        by None e =
            let alive : IsNone s.failed = subst IsNone (sym e) refl in
            let live = settles.live alive in
            behind_barrier made result n is leaves alive live.0 live.1.0 live.1.1
