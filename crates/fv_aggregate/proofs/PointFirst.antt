-- A command that changes a file, with the point that its room asks for: it is judged, room is made, and it is carried out.
use Rattle.std.proofs.Common.{◌≡◌, ◌<◌, ◌≤◌, ◌+◌, ℕ, List, [], Option, Some, None, Result, Ok, Err, true≢false, refl, sym, ap, subst, ◌∙◌, arith, false}
use Rattle.std.specs.Prelude.{IfErr, IfOk, IsNone, IsSome, IsTrue, OnOk}
use Rattle.std.specs.Option.{option_map}
use Rattle.fv_disk.specs.Shown.{Shown}
use Rattle.fv_model.specs.declared.answers.Refusal.{Refusal}
use Rattle.fv_model.specs.declared.answers.Reply.{Reply}
use Rattle.fv_model.specs.declared.answers.Reply.TheVariants.{Refused}
use Rattle.fv_model.specs.declared.commands.Command.{Command}
use Rattle.fv_model.specs.Machines.{Machine}
use Rattle.fv_model.specs.Refusals.{next, refusal}
use Rattle.fv_model.specs.Replies.{Allows}
use Rattle.fv_volume.specs.declared.state.VolumeState.{VolumeState}
use Rattle.fv_volume.specs.States.{States, state_at}
use Rattle.fv_cp.specs.Placing.{core_of, KeepCores}
use Rattle.fv_volume.specs.Changing.{IsChangeOf}
use Rattle.fv_aggregate.specs.declared.fault.Fault.{Fault}
use Rattle.fv_aggregate.specs.declared.fault.Fault.TheVariants.{Damaged}
use Rattle.fv_aggregate.specs.declared.session.Session.{Session}
use Rattle.fv_aggregate.specs.Adding.{IsPointed}
use Rattle.fv_aggregate.specs.Calls.{Goes, GoesFor, KeepsRoot, WasRead}
use Rattle.fv_aggregate.specs.Commands.{AsksNothing, AsksTable, dirty_limit, file_room, is_refusal}
use Rattle.fv_aggregate.specs.Looking.{refusal_in, HasJudged, IsChangeAt, IsTableFault, Makes}
use Rattle.fv_aggregate.specs.Standing.{StandsFor}
use Rattle.fv_aggregate.proofs.Holes.{never_within}
use Rattle.fv_aggregate.proofs.Damages.{damage_behind, damage_read, damage_room}
use Rattle.fv_aggregate.proofs.Roots.{found_read, keeps_earlier, keeps_later}
use Rattle.fv_aggregate.proofs.CallEnds.{fails_early, goes_after, goes_for_after, replies_wider}
use Rattle.fv_aggregate.proofs.Changing.{change_done, judged_accepted}
use Rattle.fv_aggregate.proofs.Missing.{refused_allows, refused_next}
use Rattle.fv_aggregate.proofs.Numbered.{makes_early, still_there}

-- ---- it ends where it was judged

module _ (slot : ℕ) (d : Shown) (s : Session) (c : Command) (e : Shown) (n : Session) where
  pub judging_failed : (f : Fault) → HasJudged slot d s c e n (Err f) → (r : Result Reply Fault) → r ≡ Err f → Makes file_room (AsksTable slot None false) d s c e n r
  judging_failed f judged r is = subst (Makes file_room (AsksTable slot None false) d s c e n) (sym is) (makes_early (AsksTable slot None false) d s c e n f judged.goes judged.goes_for judged.only_reads judged.entries)

  pub judged_refused : (r : Refusal) → HasJudged slot d s c e n (Ok (Refused r)) → Makes file_room (AsksTable slot None false) d s c e n (Ok (Refused r))
  judged_refused r judged = record {
    goes = replies_wider (Refused r) (Refused r) 16 d s e n judged.goes;
    goes_for = λ tells last m is. subst (λ (k : Machine). GoesFor d last m k e n (Ok (Refused r))) (sym (refused_next m c r (judged.judges tells last m is))) (judged.goes_for tells last m is);
    reply = λ tells last m is. refused_allows m c r (judged.judges tells last m is);
    refused = λ tells last m is refused. judged.read;
    still = λ low refused. judged.read;
    calm = λ low. judged.only_reads;
    entries = λ low. judged.entries;
  }

-- what was judged leaves as much pending
pub judged_pending : (slot : ℕ) (d : Shown) (s : Session) (c : Command) (e : Shown) (n : Session) (reply : Reply) → HasJudged slot d s c e n (Ok reply) → n.pending ≡ s.pending
judged_pending slot d s c e n reply judged = ap (λ (k : Session). k.pending) judged.read.same

-- ---- room is made for what was accepted

module _ (d : Shown) (s : Session) (c : Command) (past : dirty_limit < s.pending + 16) (fresh : IsNone s.failed) (slot : ℕ) (there : IsSome (state_at s.volumes slot))
    (e : Shown) (n : Session) (reply : Reply) (judged : HasJudged slot d s c e n (Ok reply)) (g : Shown) (p : Session) where
  none_added : n.pending ≤ s.pending
  none_added = omega (arith, judged.goes.pending)

  told : IsTrue d.tells → IsTrue e.tells
  told tells = subst IsTrue (sym judged.goes.ends.tells) tells

  pub room_failed : (f : Fault) → Goes {T = Unit {0}} 16 AsksNothing e n g p (Err f) → (IsTrue e.tells → (last m : Machine) → StandsFor e n last m → GoesFor {T = Unit {0}} e last m m g p (Err f)) → Makes file_room (AsksTable slot None false) d s c g p (Err f)
  room_failed f goes goes_for = record {
    goes = goes_after reply 16 16 d s e n (replies_wider reply reply 16 d s e n judged.goes) none_added AsksNothing (AsksTable slot None false) g p (Err f) past
        (λ at want found is damage. damage_read d s fresh slot None false there e n judged.read 16 g p at want found (damage_room (AsksTable slot None false) 16 n e g p at want found damage)) tt (fails_as goes);
    goes_for = λ tells last m is.
        let first = judged.goes_for tells last m is in
        fails_early d last m (next m c) g p f (goes_for_after reply d e g n p last m m first judged.goes.ends.given (Err f) (goes_for (told tells) first.done.point m first.done.stands));
    reply = λ tells last m is. tt;
    refused = λ tells last m is. tt;
    still = λ low. tt;
    calm = λ low. absurd (omega (arith, low, past));
    entries = λ low. never_within 16 s.pending (λ e. absurd (omega (arith, e))) past low;
  }
    where
      fails_as : Goes {T = Unit {0}} 16 AsksNothing e n g p (Err f) → Goes {T = Reply} 16 AsksNothing e n g p (Err f)
      fails_as goes = record { ends = goes.ends; stands = goes.stands; done = tt; fault = goes.fault; pending = goes.pending }

  module _ (name : List ℕ) (change : IsChangeOf name c) (other : refusal_in reply ≡ None) (u : Unit {0}) (goes : Goes 16 AsksNothing e n g p (Ok u)) (less : p.pending ≤ n.pending)
      (goes_for : IsTrue e.tells → (last m : Machine) → StandsFor e n last m → GoesFor e last m m g p (Ok u)) (h : Shown) (new : Session) where
    both : Goes 16 AsksNothing d s g p (Ok u)
    both = goes_after reply 16 16 d s e n (replies_wider reply reply 16 d s e n judged.goes) none_added AsksNothing AsksNothing g p (Ok u) past (λ at want found is. absurd (done_fails at want found is)) (λ tells. keeps_later s n p judged.read.pool.found (goes.done.root (told tells))) goes
      where
        done_fails : (at want found : ℕ) → ◌≡◌ {A = Result (Unit {0}) Fault} (Ok u) (Err (Damaged at want found)) → ⊥
        done_fails at want found is = cc

    both_for : IsTrue d.tells → (last m : Machine) → StandsFor d s last m → GoesFor d last m m g p (Ok u)
    both_for tells last m is =
        let first = judged.goes_for tells last m is in
        goes_for_after reply d e g n p last m m first judged.goes.ends.given (Ok u) (goes_for (told tells) first.done.point m first.done.stands)

    told_then : IsTrue d.tells → IsTrue g.tells
    told_then tells = subst IsTrue (sym both.ends.tells) tells

    -- what was accepted isn't refused after the point
    not_refused : (m : Machine) → refusal m c ≡ None → (result : Result Reply Fault) → IfOk result (Allows m c) → IfOk result (λ reply. IsTrue (is_refusal reply) → WasRead d s h new)
    not_refused m accepted (Err f) allowed = tt
    not_refused m accepted (Ok y) allowed = λ refused. absurd (true≢false (sym refused ∙ ap is_refusal (change_done name c change m y accepted allowed)))

    -- the point was the only one
    root_made : IsPointed e n p → (result : Result Reply Fault) → Makes file_room (AsksTable slot None false) g p c h new result → OnOk result (IsTrue d.tells → KeepsRoot s new)
    root_made left (Err f) makes = tt
    root_made left (Ok y) makes = λ tells.
        keeps_earlier s p new (both.done.root tells) (found_read g h p new (makes.calm (let none = left.pending in omega (arith, none))) (told_then tells) (both.stands both.done.goes_on) (makes.goes.stands makes.goes.done.goes_on))

    pub made_after : IsPointed e n p → (result : Result Reply Fault) → IfErr result (IsTableFault (AsksTable slot None false) h p new) → Makes file_room (AsksTable slot None false) g p c h new result → Makes file_room (AsksTable slot None false) d s c h new result
    made_after left result bad makes = record {
      goes = goes_after u 16 16 d s g p both (omega (arith, less, none_added)) (AsksTable slot None false) (AsksTable slot None false) h new result past
          (λ at want found is damage. damage_behind d s fresh slot None false there e n judged.read 16 h new at want found (omega arith, past) (makes.goes.ends.tells ∙ goes.ends.tells) p left (subst (λ (r : Result Reply Fault). IfErr r (IsTableFault (AsksTable slot None false) h p new)) is bad)) (root_made left result makes) makes.goes;
      goes_for = λ tells last m is.
          let first = both_for tells last m is in
          goes_for_after u d g h p new last m (next m c) first both.ends.given result (makes.goes_for (told_then tells) first.done.point m first.done.stands);
      reply = λ tells last m is. let first = both_for tells last m is in makes.reply (told_then tells) first.done.point m first.done.stands;
      refused = λ tells last m is.
          let first = both_for tells last m is in
          not_refused m (judged_accepted m c reply other (judged.judges tells last m is)) result (makes.reply (told_then tells) first.done.point m first.done.stands);
      still = λ low. never_within 16 s.pending (λ e. absurd (omega (arith, e))) past low;
      calm = λ low. absurd (omega (arith, low, past));
      entries = λ low. never_within 16 s.pending (λ e. absurd (omega (arith, e))) past low;
    }

-- ---- the volume of the slot

-- over a session that kept its volumes' names the command changes a file of the same slot's volume
pub still_aimed : (states stay : States) (slot : ℕ) (c : Command) → KeepCores states stay → IsChangeAt states slot c → IsChangeAt stay slot c
still_aimed states stay slot c cores aimed = by (state_at stay slot) refl (cores slot ∙ ap (option_map core_of) aimed.there)
  where
    name_in : Option VolumeState → List ℕ
    name_in None = []
    name_in (Some v) = v.name

    same : (a b : VolumeState) → ◌≡◌ {A = Option VolumeState} (Some (core_of a)) (Some (core_of b)) → a.name ≡ b.name
    same a b e = ap name_in e

    nothing : (b : VolumeState) → ◌≡◌ {A = Option VolumeState} None (Some b) → ⊥
    nothing b e = cc

    by : (o : Option VolumeState) → state_at stay slot ≡ o → option_map core_of o ≡ Some (core_of aimed.state) → IsChangeAt stay slot c
    by None at is = absurd (nothing (core_of aimed.state) is)
    by (Some y) at is = record { within = aimed.within; state = y; there = at; change = subst (λ (n : List ℕ). IsChangeOf n c) (sym (same y aimed.state is)) aimed.change }

-- a session of which blocks were read is aimed at as before
pub aimed_read : (d : Shown) (s : Session) (e : Shown) (n : Session) (slot : ℕ) (c : Command) → WasRead d s e n → IsChangeAt s.volumes slot c → IsChangeAt n.volumes slot c
aimed_read d s e n slot c read aimed =
    let one = still_there s.volumes n.volumes read.volumes slot aimed.state aimed.there in
    record { within = aimed.within; state = one.0; there = one.1.0; change = subst (λ (v : List ℕ). IsChangeOf v c) one.1.1 aimed.change }
