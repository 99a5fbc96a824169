-- A session in which a volume got another size or another kind of guarantee: where it stands, and for which machine.
use Rattle.std.proofs.Common.{◌≡◌, ℕ, cond, List, Option, None, Result, Ok, Err, refl, sym, ap, subst, ◌∙◌, arith}
use Rattle.std.specs.Option.{is_some}
use Rattle.fv_disk.specs.Shown.{Shown}
use Rattle.fv_model.specs.declared.answers.Refusal.{Refusal}
use Rattle.fv_model.specs.declared.answers.Reply.{Reply}
use Rattle.fv_model.specs.declared.commands.Command.{Command}
use Rattle.fv_model.specs.declared.commands.Kind.{Kind}
use Rattle.fv_model.specs.Machines.{Machine}
use Rattle.fv_model.specs.Effects.{Becomes, changed, effect}
use Rattle.fv_model.specs.Refusals.{next, refusal}
use Rattle.fv_store.specs.Held.{StandsOn}
use Rattle.fv_container.specs.Chains.{container_at}
use Rattle.fv_pool.specs.declared.pool.Pool.{Pool}
use Rattle.fv_volume.specs.declared.state.VolumeState.{VolumeState}
use Rattle.fv_volume.specs.Calls.{Has}
use Rattle.fv_volume.specs.OneVolume.{content_for, volume_for}
use Rattle.fv_volume.specs.Promising.{promised, IsPromised, PromisesOne}
use Rattle.fv_volume.specs.States.{States}
use Rattle.fv_volumes.proofs.CalledFooted.{promised_footed}
use Rattle.fv_volumes.proofs.PromisedAll.{each_promised, held_promised, housed_promised, lent_promised, names_promised, ready_promised, spaced_promised, sum_promised}
use Rattle.fv_cp.specs.Held.{machine_held, IsHeld}
use Rattle.fv_cp.specs.Lent.{FitTogether, waiting_by}
use Rattle.fv_cp.specs.Placing.{pending_by, AreReady}
use Rattle.fv_aggregate.specs.declared.session.Session.{Session}
use Rattle.fv_aggregate.specs.Managing.{told_as, IsBy}
use Rattle.fv_aggregate.specs.Standing.{overhead_by, IsWithoutFiles, StandsFor, StandsReady}
use Rattle.fv_aggregate.proofs.Becoming.{machine_becomes}
use Rattle.fv_aggregate.proofs.Calls.{reads_itself}
use Rattle.fv_aggregate.proofs.HeldMachine.{is_there}
use Rattle.fv_aggregate.proofs.Looked.{reads_alone}

module _ (session : Session) (c : Command) (name : List ℕ) (size : VolumeState → ℕ) (kind : VolumeState → Kind) (new : States) (is : IsPromised session.volumes session.pool.found.blocks c name size kind new) where
  abbrev pool : Pool
  pool = session.pool

  abbrev x : VolumeState
  x = is.state

  abbrev y : VolumeState
  y = promised x (size x) (kind x)

  abbrev now : Session
  now = record session { volumes = new }

  -- its parts fit together
  pub fit_promised : FitTogether pool session.volumes → FitTogether pool new
  fit_promised fit = record {
    range = fit.range;
    size = fit.size;
    version = fit.version;
    housed = housed_promised session.volumes pool.found.blocks c name size kind new is pool.containers fit.housed;
    kept = fit.kept;
  }

  -- it stands where it stood
  pub stands_promised : (disk : Shown) → StandsReady disk session → StandsReady disk now
  stands_promised disk stands = record {
    stands = record { found = stands.stands.found; map = stands.stands.map; cache = stands.stands.cache };
    ready = ready_promised session.volumes pool.found.blocks c name size kind new is disk pool stands.ready;
  }

  -- no file came into memory
  pub files_promised : IsWithoutFiles session → IsWithoutFiles now
  files_promised without = record {
    none = each_promised session.volumes pool.found.blocks c name size kind new is (λ s z. z.files ≡ None) (λ none. none) without.none;
    taken = without.taken;
  }

  -- ---- where it stood for a machine

  module _ (disk : Shown) (fit : FitTogether pool session.volumes) (cache : StandsOn disk pool.store.pairs) (last : Machine) (held : IsHeld disk pool session.volumes last) where
    abbrev m : Machine
    m = machine_held disk pool session.volumes

    held_now : IsHeld disk pool new last
    held_now = record {
      found = held.found;
      tells = held.tells;
      keeps = held.keeps;
      map = held.map;
      slots = lent_promised session.volumes pool.found.blocks c name size kind new is disk.reads pool.found pool.containers held.slots;
      spaced = spaced_promised session.volumes pool.found.blocks c name size kind new is pool.found.blocks pool.map.next (container_at pool.containers) held.spaced;
      names = names_promised session.volumes pool.found.blocks c name size kind new is held.names;
      each = held_promised session.volumes pool.found.blocks c name size kind new is disk pool held.each;
      commits = is.sum;
      footed = promised_footed session.volumes pool.found.blocks c name size kind new is pool.containers held.footed;
    }

    has : Has name (volume_for disk pool x) m
    has = subst (λ (n : List ℕ). Has n (volume_for disk pool x) m) is.named (is_there disk pool session.volumes fit.housed.long last held is.slot x is.there)

    -- the machine's volume becomes that one
    becomes : machine_held disk pool new ≡ changed m (Becomes name (volume_for disk pool y))
    becomes = ap (λ (s : States). machine_held disk pool s) is.row
        ∙ machine_becomes disk disk pool pool (reads_alone disk disk pool (reads_itself disk) cache) session.volumes fit.housed.long last held is.slot x y is.there refl (subst (λ (s : States). IsHeld disk pool s last) is.row held_now)
        ∙ ap (λ (n : List ℕ). changed m (Becomes n (volume_for disk pool y))) is.named

    -- so it is the machine after the command, where that is accepted
    machine_promised : refusal m c ≡ None → machine_held disk pool new ≡ next m c
    machine_promised accepted = becomes ∙ sym (ap (λ (o : Option Refusal). cond (is_some o) m (effect m c)) accepted ∙ ap (changed m) (is.becomes (content_for disk pool x) m has))

  pub stands_for_promised : (disk : Shown) → FitTogether pool session.volumes → StandsReady disk session → (last m : Machine) → StandsFor disk session last m → refusal m c ≡ None → StandsFor disk now last (next m c)
  stands_for_promised disk fit there last m stands accepted =
      let files = sum_promised session.volumes pool.found.blocks c name size kind new is pending_by refl in
      let over = sum_promised session.volumes pool.found.blocks c name size kind new is overhead_by refl in
      let maps = sum_promised session.volumes pool.found.blocks c name size kind new is waiting_by refl in
      record {
        held = held_now disk fit there.stands.cache last stands.held;
        machine = machine_promised disk fit there.stands.cache last stands.held (subst (λ (k : Machine). refusal k c ≡ None) (sym stands.machine) accepted) ∙ ap (λ (k : Machine). next k c) stands.machine;
        settled = stands.settled;
        delays = stands.delays;
        pending = omega (arith, files, maps, over, stands.pending);
        files = omega (arith, files, maps, stands.files);
        few = omega (arith, files, stands.few);
        free = omega (arith, files, stands.free);
        room = stands.room;
      }

-- its parts fit together whatever was answered
pub fit_resized : (session : Session) (c : Command) (name : List ℕ) (size : VolumeState → ℕ) (kind : VolumeState → Kind) (new : States) → FitTogether session.pool session.volumes
    → (r : Result Unit Refusal) → PromisesOne session.volumes session.pool.found.blocks c name size kind new r → FitTogether session.pool new
fit_resized session c name size kind new fit (Ok u) did = fit_promised session c name size kind new did.done fit
fit_resized session c name size kind new fit (Err r) did = subst (FitTogether session.pool) (sym did.stays) fit

-- and calls can be made on each volume
pub ready_resized : (session : Session) (c : Command) (name : List ℕ) (size : VolumeState → ℕ) (kind : VolumeState → Kind) (new : States) (r : Result Unit Refusal) → PromisesOne session.volumes session.pool.found.blocks c name size kind new r
    → (disk : Shown) → AreReady disk session.pool session.volumes → AreReady disk session.pool new
ready_resized session c name size kind new (Ok u) did disk ready = ready_promised session.volumes session.pool.found.blocks c name size kind new did.done disk session.pool ready
ready_resized session c name size kind new (Err r) did disk ready = subst (AreReady disk session.pool) (sym did.stays) ready

-- what is answered is by the call on the volumes
pub promised_by : (v s : Session) → v ≡ s → (c : Command) (name : List ℕ) (size : VolumeState → ℕ) (kind : VolumeState → Kind) (new : States) (r : Result Unit Refusal) → PromisesOne v.volumes v.pool.found.blocks c name size kind new r
    → (reply : Reply) → reply ≡ told_as r → IsBy (λ q. (v.pool ≡ s.pool) × PromisesOne s.volumes s.pool.found.blocks c name size kind new q) s (record v { volumes = new }) reply
promised_by v s same c name size kind new r did reply told = record {
  result = r;
  reply_is = told;
  answers = (ap (λ (n : Session). n.pool) same, subst (λ (n : Session). PromisesOne n.volumes n.pool.found.blocks c name size kind new r) same did);
  rest = λ j. record (same j) { volumes = new; pool = v.pool };
}
