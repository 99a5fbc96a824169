-- Commands on a whole volume: what is answered, and where the session stands after them.
use Rattle.std.proofs.Common.{◌≡◌, ◌≤◌, ◌⊎◌, inl, inr, ⊎_elim, ℕ, Bool, true, false, cond, List, [], ◌∷◌, Option, Some, None, Result, Ok, Err, true≢false, refl, sym, ap, subst, ◌∙◌, arith}
use Rattle.std.specs.Prelude.{if◌then◌else◌, IsTrue}
use Rattle.std.specs.Option.{is_none, is_some, option_map_or}
use Rattle.std.specs.FinMap as fin
use Rattle.fv_disk.specs.Shown.{Shown}
use Rattle.fv_model.specs.declared.answers.Refusal.{Refusal}
use Rattle.fv_model.specs.declared.answers.Refusal.TheVariants.{NoVolume, Syntax}
use Rattle.fv_model.specs.declared.answers.Reply.{Reply}
use Rattle.fv_model.specs.declared.answers.Reply.TheVariants.{Done, Refused, Stat as Numbers}
use Rattle.fv_model.specs.declared.commands.Command.{Command}
use Rattle.fv_model.specs.declared.commands.Command.TheVariants.{VolDestroy, VolResize, VolGuarantee, VolStat}
use Rattle.fv_model.specs.declared.commands.Kind.{Kind}
use Rattle.fv_model.specs.Machines.{Machine}
use Rattle.fv_model.specs.Effects.{change_of}
use Rattle.fv_model.specs.Refusals.{conditions, first_of, next, refusal}
use Rattle.fv_model.specs.Replies.{answer, is_open, stat_of, Allows}
use Rattle.fv_model.specs.Volumes.{Volume}
use Rattle.fv_container.specs.Chains.{TellsEntries}
use Rattle.fv_pool.specs.declared.pool.Pool.{Pool}
use Rattle.fv_volume.specs.declared.state.VolumeState.{VolumeState}
use Rattle.fv_volume.specs.OneVolume.{content_for, volume_for}
use Rattle.fv_volume.specs.Promising.{has_size, refusal_of, told_by, IsPromised, PromisesOne}
use Rattle.fv_volume.specs.Slots.{is_named, NoneHasName}
use Rattle.fv_volume.specs.States.{States}
use Rattle.fv_volume.proofs.Asked.{stat_is}
use Rattle.fv_laws.proofs.Changes.{same_name}
use Rattle.fv_cp.specs.Held.{machine_held}
use Rattle.fv_cp.specs.Lent.{blocks_asked, FitTogether}
use Rattle.fv_aggregate.specs.declared.session.Session.{Session}
use Rattle.fv_aggregate.specs.Commands.{changes_volume, has_range, is_built, is_refusal, machine_after, managed_by, removes_volume, Replies, RepliesBy}
use Rattle.fv_aggregate.specs.Managing.{told_as, IsCarriedOut, IsManaged, IsTold, Manages}
use Rattle.fv_aggregate.specs.Standing.{IsWithoutFiles, StandsFor, StandsReady}
use Rattle.fv_aggregate.proofs.Applied.{unbuilt_after, unbuilt_replies}
use Rattle.fv_aggregate.proofs.Asked.{answer_allows}
use Rattle.fv_aggregate.proofs.Having.{can_have_all, contents, has_volumes}
use Rattle.fv_aggregate.proofs.HeldMachine.{is_there, not_there, one}
use Rattle.fv_aggregate.proofs.Missing.{refused_allows, refused_next}
use Rattle.fv_aggregate.proofs.Resized.{files_promised, stands_for_promised, stands_promised}

-- What is so of a session after a command that reaches no disk, over a disk.
pub record IsManagedOver (disk : Shown) (old : Session) (c : Command) (new : Session) (reply : Reply) : Type 0 where
  pub managed : (name : List ℕ) → managed_by c ≡ Some name → IsManaged (TellsEntries disk old.pool.containers) old c name new reply
  pub unbuilt : is_built c ≡ false → reply ≡ Refused Syntax
  pub refused : IsTrue (is_refusal reply) → new ≡ old
  pub stands : StandsReady disk old → StandsReady disk new
  pub stands_for : StandsReady disk old → (last m : Machine) → StandsFor disk old last m → StandsFor disk new last (machine_after m c)
  pub replies : (last m : Machine) → StandsFor disk old last m → Replies m c reply
  -- unless a volume that stays changes, the next point asks for no more than before
  pub asked : changes_volume c ≡ false → blocks_asked new.volumes ≤ blocks_asked old.volumes
  pub files : IsWithoutFiles old → IsWithoutFiles new
  pub map : removes_volume c ≡ false → new.pool.map ≡ old.pool.map
  pub containers : removes_volume c ≡ false → new.pool.containers ≡ old.pool.containers
  pub found : new.pool.found ≡ old.pool.found
  pub pending : new.pending ≡ old.pending
  pub failed : new.failed ≡ old.failed

-- ---- replies

pub after_built : (m : Machine) (c : Command) → is_built c ≡ true → machine_after m c ≡ next m c
unfolding machine_after
after_built m c built = ap (λ (b : Bool). if b then next m c else m) built

pub replies_built : (m : Machine) (c : Command) (reply : Reply) → is_built c ≡ true → Allows m c reply → Replies m c reply
replies_built m c reply built allowed = subst (λ (b : Bool). RepliesBy b m c reply) (sym built) allowed

refused_done : (r : Refusal) → Refused r ≡ Done → ⊥
refused_done r e = cc

ok_err : (u : Unit {0}) (r : Refusal) → ◌≡◌ {A = Result Unit Refusal} (Ok u) (Err r) → ⊥
ok_err u r e = cc

same_refusal : (r q : Refusal) → ◌≡◌ {A = Result Unit Refusal} (Err r) (Err q) → Refused r ≡ Refused q
same_refusal r q e = ap told_as e

some_same : (a b : List ℕ) → ◌≡◌ {A = Option (List ℕ)} (Some a) (Some b) → a ≡ b
some_same a b e = cc

module _ (disk : Shown) (session : Session) where
  abbrev sure : Type 0
  sure = TellsEntries disk session.pool.containers

  -- ---- a session that stays

  -- what is said of its reply is enough
  stays_over : (c : Command) (reply : Reply) → ((name : List ℕ) → managed_by c ≡ Some name → IsManaged sure session c name session reply) → (is_built c ≡ false → reply ≡ Refused Syntax)
      → (StandsReady disk session → (last m : Machine) → StandsFor disk session last m → StandsFor disk session last (machine_after m c)) → ((last m : Machine) → StandsFor disk session last m → Replies m c reply) → IsManagedOver disk session c session reply
  stays_over c reply managed unbuilt stands_for replies = record {
    managed = managed;
    unbuilt = unbuilt;
    refused = λ refused. refl;
    stands = λ stands. stands;
    stands_for = stands_for;
    replies = replies;
    asked = λ calm. omega arith;
    files = λ without. without;
    map = λ stays. refl;
    containers = λ stays. refl;
    found = refl;
    pending = refl;
    failed = refl;
  }

  -- a command that isn't built
  unbuilt_over : (c : Command) → is_built c ≡ false → managed_by c ≡ None → IsManagedOver disk session c session (Refused Syntax)
  unbuilt_over c none nothing = stays_over c (Refused Syntax) (λ name is. absurd (apart name (sym nothing ∙ is))) (λ isnt. refl)
      (λ there last m stands. subst (λ (k : Machine). StandsFor disk session last k) (sym (unbuilt_after m c none)) stands) (λ last m stands. unbuilt_replies m c none)
    where
      apart : (v : List ℕ) → ◌≡◌ {A = Option (List ℕ)} None (Some v) → ⊥
      apart v e = cc

  -- a command that is refused, as by the machine
  refused_over : (c : Command) (r : Refusal) → is_built c ≡ true → ((name : List ℕ) → managed_by c ≡ Some name → IsManaged sure session c name session (Refused r))
      → ((last m : Machine) → StandsFor disk session last m → refusal m c ≡ Some r) → IsManagedOver disk session c session (Refused r)
  refused_over c r built managed refused = stays_over c (Refused r) managed (λ isnt. absurd (true≢false (sym built ∙ isnt)))
      (λ there last m stands. subst (λ (k : Machine). StandsFor disk session last k) (sym (after_built m c built ∙ refused_next m c r (refused last m stands))) stands)
      (λ last m stands. replies_built m c (Refused r) built (refused_allows m c r (refused last m stands)))

  module _ (fit : FitTogether session.pool session.volumes) where
    -- ---- another size or kind

    module _ (c : Command) (name : List ℕ) (size : VolumeState → ℕ) (kind : VolumeState → Kind) (new : States) (built : is_built c ≡ true) (of : managed_by c ≡ Some name) (changes : changes_volume c ≡ true)
        (range : has_range c ≡ has_size c) (no_stat : c ≡ VolStat name → ⊥) (no_removal : c ≡ VolDestroy name → ⊥) (done : (m : Machine) → refusal m c ≡ None → Allows m c Done)
        (carried : IsPromised session.volumes session.pool.found.blocks c name size kind new → IsCarriedOut sure session c (record session { volumes = new })) where
      abbrev now : Session
      now = record session { volumes = new }

      -- what it is refused for is what the machine refuses it for
      refused_as : (r : Result Unit Refusal) → PromisesOne session.volumes session.pool.found.blocks c name size kind new r → (last m : Machine) → StandsFor disk session last m → refusal m c ≡ refusal_of r
      refused_as r did last m stands =
          ap (λ (k : Machine). refusal k c) (sym stands.machine)
          ∙ did.agrees (contents disk session.pool session.volumes fit.housed.long last stands.held) (machine_held disk session.pool session.volumes)
          (can_have_all disk session.pool session.volumes fit.housed.long last stands.held) (has_volumes disk session.pool session.volumes fit.housed.long last stands.held)

      by_name : (after : Session) (reply : Reply) → IsManaged sure session c name after reply → (n : List ℕ) → managed_by c ≡ Some n → IsManaged sure session c n after reply
      by_name after reply managed n is = subst (λ (k : List ℕ). IsManaged sure session c k after reply) (some_same name n (sym of ∙ is)) managed

      promise_over : (r : Result Unit Refusal) → PromisesOne session.volumes session.pool.found.blocks c name size kind new r → IsManagedOver disk session c now (told_as r)
      promise_over (Ok u) did = record {
        managed = by_name now Done (record {
          far = λ out. absurd (ok_err u _ (did.far (sym range ∙ out)));
          missing = λ near none. absurd (ok_err u _ (did.missing (sym range ∙ near) none));
          told = λ is. absurd (no_stat is);
          removed = λ is. absurd (no_removal is);
          in_use = λ is. absurd (no_removal is);
          answered = λ other. inl refl;
          done = λ is. carried did.done;
          stays = λ is. absurd (no_stat is);
          rest = refl;
        });
        unbuilt = λ isnt. absurd (true≢false (sym built ∙ isnt));
        refused = λ is. absurd (true≢false (sym is));
        stands = stands_promised session c name size kind new did.done disk;
        stands_for = λ there last m stands. subst (λ (k : Machine). StandsFor disk now last k) (sym (after_built m c built))
            (stands_for_promised session c name size kind new did.done disk fit there last m stands (refused_as (Ok u) did last m stands));
        replies = λ last m stands. replies_built m c Done built (done m (refused_as (Ok u) did last m stands));
        asked = λ calm. absurd (true≢false (sym changes ∙ calm));
        files = files_promised session c name size kind new did.done;
        map = λ stays. refl;
        containers = λ stays. refl;
        found = refl;
        pending = refl;
        failed = refl;
      }
      promise_over (Err r) did = subst (λ (s : States). IsManagedOver disk session c (record session { volumes = s }) (Refused r)) (sym did.stays)
          (refused_over c r built (by_name session (Refused r) (record {
            far = λ out. same_refusal r _ (did.far (sym range ∙ out));
            missing = λ near none. same_refusal r _ (did.missing (sym range ∙ near) none);
            told = λ is. absurd (no_stat is);
            removed = λ is. absurd (no_removal is);
            in_use = λ is. absurd (no_removal is);
            answered = λ other. inr refl;
            done = λ is. absurd (refused_done r is);
            stays = λ is. absurd (no_stat is);
            rest = refl;
          })) (refused_as (Err r) did))

    done_allowed : (m : Machine) (c : Command) → is_open m c ≡ false → answer m c ≡ Done → refusal m c ≡ None → Allows m c Done
    done_allowed m c closed same accepted = answer_allows m c Done accepted closed (sym same)

    resize_over : (name : List ℕ) (size : ℕ) (new : States) (r : Result Unit Refusal) → PromisesOne session.volumes session.pool.found.blocks (VolResize name size) name (λ x. size) (λ x. x.kind) new r
        → IsManagedOver disk session (VolResize name size) (record session { volumes = new }) (told_as r)
    unfolding is_built answer
    resize_over name size new r = promise_over (VolResize name size) name (λ x. size) (λ x. x.kind) new refl refl refl refl (λ e. cc) (λ e. cc)
        (λ m. done_allowed m (VolResize name size) refl refl) (λ done. (refl, done)) r

    guarantee_over : (name : List ℕ) (kind : Kind) (new : States) (r : Result Unit Refusal) → PromisesOne session.volumes session.pool.found.blocks (VolGuarantee name kind) name (λ x. x.size) (λ x. kind) new r
        → IsManagedOver disk session (VolGuarantee name kind) (record session { volumes = new }) (told_as r)
    unfolding is_built answer
    guarantee_over name kind new r = promise_over (VolGuarantee name kind) name (λ x. x.size) (λ x. kind) new refl refl refl refl (λ e. cc) (λ e. cc)
        (λ m. done_allowed m (VolGuarantee name kind) refl refl) (λ done. (refl, done)) r

    -- ---- what is told

    module _ (name : List ℕ) where
      abbrev asks : Command
      asks = VolStat name

      by_the_name : (reply : Reply) → IsManaged sure session asks name session reply → (n : List ℕ) → managed_by asks ≡ Some n → IsManaged sure session asks n session reply
      by_the_name reply managed n is = subst (λ (k : List ℕ). IsManaged sure session asks k session reply) (some_same name n is) managed

      no_removal : asks ≡ VolDestroy name → ⊥
      no_removal e = cc

      stat_by : (m : Machine) (o : Option Volume) → fin.get m.volumes name ≡ o → refusal m asks ≡ cond (is_none o) (Some NoVolume) None
      unfolding conditions
      stat_by m o is = ap (λ (v : Option Volume). first_of ((NoVolume, is_none v) ∷ [])) is

      stat_after : (m : Machine) → machine_after m asks ≡ m
      unfolding is_built machine_after change_of
      stat_after m = by (is_some (refusal m asks))
        where
          by : (b : Bool) → cond b m m ≡ m
          by true = refl
          by false = refl

      stat_missing : NoneHasName session.volumes name → IsManagedOver disk session asks session (Refused NoVolume)
      unfolding is_built
      stat_missing none = refused_over asks NoVolume refl (by_the_name (Refused NoVolume) (record {
        far = λ out. absurd (true≢false out);
        missing = λ near nowhere. refl;
        told = λ is slot small has. absurd (true≢false (sym has.named ∙ none.none slot small));
        removed = λ is. absurd (no_removal is);
        in_use = λ is. absurd (no_removal is);
        answered = λ other. absurd (other refl);
        done = λ is. absurd (refused_done NoVolume is);
        stays = λ is. refl;
        rest = refl;
      })) (λ last m stands. ap (λ (k : Machine). refusal k asks) (sym stands.machine)
          ∙ stat_by (machine_held disk session.pool session.volumes) None (not_there disk session.pool session.volumes fit.housed.long name none))

      module _ (reply : Reply) (is : IsTold session name reply) where
        abbrev x : VolumeState
        x = is.state

        named : x.name ≡ name
        named = same_name x.name name (sym (ap (λ (o : Option VolumeState). is_named o name) is.there) ∙ is.named.named)

        abbrev about : Option Volume → Reply
        about o = option_map_or (λ (w : Volume). Numbers (stat_of w)) o Done

        answered : (last m : Machine) → StandsFor disk session last m → Allows m asks reply
        unfolding answer
        answered last m stands = subst (λ (k : Machine). Allows k asks reply) stands.machine
            (answer_allows k asks reply (stat_by k (Some v) its) refl
            (is.told ∙ ap Numbers (stat_is x (content_for disk session.pool x) (one disk session.pool session.volumes fit.housed.long last stands.held is.slot x is.there).stands.ledger) ∙ sym (ap about its)))
          where
            k : Machine
            k = machine_held disk session.pool session.volumes

            v : Volume
            v = volume_for disk session.pool x

            its : fin.get k.volumes name ≡ Some v
            its = subst (λ (n : List ℕ). fin.get k.volumes n ≡ Some v) named (is_there disk session.pool session.volumes fit.housed.long last stands.held is.slot x is.there)

        stat_told : IsManagedOver disk session asks session reply
        unfolding is_built
        stat_told = stays_over asks reply
            (by_the_name reply (record {
              far = λ out. absurd (true≢false out);
              missing = λ near none. absurd (true≢false (sym is.named.named ∙ none.none is.slot is.within));
              told = λ asked slot small has. is;
              removed = λ other. absurd (no_removal other);
              in_use = λ other. absurd (no_removal other);
              answered = λ other. absurd (other refl);
              done = λ done. absurd (not_done (sym is.told ∙ done));
              stays = λ is. refl;
              rest = refl;
            }))
            (λ isnt. absurd (true≢false isnt)) (λ here last m stands. subst (λ (k : Machine). StandsFor disk session last k) (sym (stat_after m)) stands)
            (λ last m stands. replies_built m asks reply refl (answered last m stands))
          where
            not_done : Numbers (told_by x) ≡ Done → ⊥
            not_done e = cc

    -- ---- each of them

    left_as : (c : Command) (new : Session) (reply reply_now : Reply) → new ≡ session → reply ≡ reply_now → IsManagedOver disk session c session reply_now → IsManagedOver disk session c new reply
    left_as c new reply reply_now same told over = subst (λ (n : Session). IsManagedOver disk session c n reply) (sym same) (subst (λ (y : Reply). IsManagedOver disk session c session y) (sym told) over)

    others : (c : Command) → managed_by c ≡ None → (is_some (managed_by c) ≡ true) ⊎ (is_built c ≡ false) → (new : Session) (reply : Reply) → (new ≡ session) × (reply ≡ Refused Syntax) → IsManagedOver disk session c new reply
    others c none either new reply is = left_as c new reply (Refused Syntax) is.0 is.1 (unbuilt_over c (⊎_elim
        (λ (some : is_some (managed_by c) ≡ true). absurd (true≢false (sym some ∙ ap is_some none)))
        (λ (isnt : is_built c ≡ false). isnt)
        either) none)

    by_volumes : (c : Command) (new : Session) (reply : Reply) (r : Result Unit Refusal) → reply ≡ told_as r → new ≡ record session { volumes = new.volumes; pool = new.pool }
        → IsManagedOver disk session c (record session { volumes = new.volumes; pool = new.pool }) (told_as r) → IsManagedOver disk session c new reply
    by_volumes c new reply r told rest over = subst (λ (n : Session). IsManagedOver disk session c n reply) (sym rest) (subst (λ (y : Reply). IsManagedOver disk session c (record session { volumes = new.volumes; pool = new.pool }) y) (sym told) over)

    pub manages_over : (c : Command) → removes_volume c ≡ false → (is_some (managed_by c) ≡ true) ⊎ (is_built c ≡ false) → (new : Session) (reply : Reply) → Manages session c new reply → IsManagedOver disk session c new reply
    manages_over (VolDestroy v) stays either new reply is = absurd (true≢false stays)
    manages_over (VolResize v size) stays either new reply is = by_volumes (VolResize v size) new reply is.result is.reply_is is.rest
        (subst (λ (p : Pool). IsManagedOver disk session (VolResize v size) (record session { volumes = new.volumes; pool = p }) (told_as is.result)) (sym is.answers.0) (resize_over v size new.volumes is.result is.answers.1))
    manages_over (VolGuarantee v kind) stays either new reply is = by_volumes (VolGuarantee v kind) new reply is.result is.reply_is is.rest
        (subst (λ (p : Pool). IsManagedOver disk session (VolGuarantee v kind) (record session { volumes = new.volumes; pool = p }) (told_as is.result)) (sym is.answers.0) (guarantee_over v kind new.volumes is.result is.answers.1))
    manages_over (VolStat v) stays either new reply is = ⊎_elim
        (λ (none : NoneHasName session.volumes v × (reply ≡ Refused NoVolume)). left_as (VolStat v) new reply (Refused NoVolume) is.0 none.1 (stat_missing v none.0))
        (λ (told : IsTold session v reply). left_as (VolStat v) new reply reply is.0 refl (stat_told v reply told))
        is.1
    manages_over c stays either new reply is = others _ refl either new reply is
