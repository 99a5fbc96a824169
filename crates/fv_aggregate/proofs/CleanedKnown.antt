-- A session of which one volume is called known, once no root of it is unknown: its parts fit together still, and it stands for the machine in which the
-- volume is known.
use Rattle.std.proofs.Common.{◌≡◌, ◌≢◌, ℕ, Bool, true, false, cond, true≢false, List, [], ◌∷◌, length, Option, Some, None, refl, sym, ap, subst, ◌∙◌, arith}
use Rattle.std.specs.Prelude.{IfSome}
use Rattle.std.specs.List.{list_any}
use Rattle.std.specs.Option.{is_none, is_some, option_and_then, option_map, option_map_or}
use Rattle.std.specs.Ordering.{eq_by_cmp}
use Rattle.std.specs.FinMap as fin
use Rattle.std.proofs.lemmas.Option.{same_Some}
use Rattle.fv_disk.specs.Shown.{Shown}
use Rattle.fv_model.specs.declared.answers.Refusal.{Refusal}
use Rattle.fv_model.specs.declared.answers.Refusal.TheVariants.{NoVolume, VolumeInUse}
use Rattle.fv_model.specs.declared.commands.Command.TheVariants.{Clean}
use Rattle.fv_model.specs.Effects.{Becomes, Stays, change_of, changed, effect}
use Rattle.fv_model.specs.Machines.{Machine}
use Rattle.fv_model.specs.Refusals.{conditions, first_of, is_splitting, next, refusal}
use Rattle.fv_model.specs.Spelling.{name_cmp}
use Rattle.fv_model.specs.Volumes.{Volume, Base as ModelBase}
use Rattle.fv_laws.proofs.Changes.{same_name}
use Rattle.fv_laws.proofs.Orders.{name_total, name_ties}
use Rattle.fv_image.specs.HintRules.{is_unknown}
use Rattle.fv_container.specs.Chains.{Slots}
use Rattle.fv_pool.specs.declared.pool.Pool.{Pool}
use Rattle.fv_volume.specs.declared.state.Base.{Base}
use Rattle.fv_volume.specs.declared.state.VolumeState.{VolumeState}
use Rattle.fv_volume.specs.Files.{IsLabelled}
use Rattle.fv_volume.specs.Held.{IsHeldIn}
use Rattle.fv_volume.specs.OneVolume.{base_as, content_for, volume_for, IsReady}
use Rattle.fv_volume.specs.Slots.{sum_of}
use Rattle.fv_volume.specs.States.{States, footing_in, state_at, with_state}
use Rattle.fv_volume.proofs.TablesOf.{is_whole}
use Rattle.fv_volumes.specs.Footing.{ends_in, AreFooted, IsFooted, IsOnBase}
use Rattle.fv_volumes.proofs.StandingMaps.{maps_still}
use Rattle.fv_cleaner.specs.Cleaning.{known_now}
use Rattle.fv_cleaner.specs.Stepping.{roots_of}
use Rattle.fv_cleaner.proofs.Finished.{finished_held, labelled_known}
use Rattle.fv_cleaner.proofs.NoneLeft.{base_known}
use Rattle.fv_cp.specs.Held.{machine_held, IsHeld}
use Rattle.fv_cp.specs.Lent.{waiting_by, FitTogether}
use Rattle.fv_cp.specs.Placing.{pending_by, AreReady, HaveNoFiles, IsReadyIn}
use Rattle.fv_aggregate.specs.declared.session.Session.{Session}
use Rattle.fv_aggregate.specs.Known.{KeepsNumbers, KnowsNumbers}
use Rattle.fv_aggregate.specs.Standing.{overhead_by, StandsFor, StandsReady}
use Rattle.fv_aggregate.proofs.Becoming.{machine_becomes}
use Rattle.fv_aggregate.proofs.Calls.{reads_itself}
use Rattle.fv_aggregate.proofs.Commits.{commits_same}
use Rattle.fv_aggregate.proofs.HeldMachine.{is_there}
use Rattle.fv_aggregate.proofs.Looked.{reads_alone}
use Rattle.fv_aggregate.proofs.Replaced.{other as elsewhere, each_slot, housed_as, lent_as, named_as, same_slot, same_sum, spaced_as}

-- ---- whatever the disk tells

module _ (pool : Pool) (states : States) (slot : ℕ) (x : VolumeState) (there : state_at states slot ≡ Some x) (fit : FitTogether pool states) where
  long : length states ≡ 64
  long = fit.housed.long

  abbrev k : VolumeState
  k = known_now x

  abbrev pub stay : States
  stay = with_state states slot (Some k)

  labelled : IsLabelled slot x
  labelled = subst (λ (o : Option VolumeState). IfSome o (IsLabelled slot)) there (fit.housed.volumes slot)

  -- its parts fit together
  pub fit_known : FitTogether pool stay
  fit_known = record {
    range = fit.range;
    size = fit.size;
    version = fit.version;
    housed = housed_as states long slot x k there pool.containers (subst (λ (n : ℕ). IsLabelled n k) (sym labelled.slot_is) (labelled_known slot x labelled)) refl refl refl fit.housed;
    kept = fit.kept;
  }

  pub commits_known : sum_of stay ≡ sum_of states
  commits_known = commits_same states long slot x k there refl

  pub numbers_known : KeepsNumbers states stay
  numbers_known = each_slot states long slot x k there (λ n o. KnowsNumbers (state_at states n) → KnowsNumbers o) (λ known. subst KnowsNumbers there known) (λ n differ known. known)

  -- and calls can be made on each volume
  pub ready_known : (disk : Shown) → AreReady disk pool states → AreReady disk pool stay
  ready_known disk ready = each_slot states long slot x k there (λ n o. IfSome o (IsReadyIn disk pool n)) (record { slot = was.slot; ready = now was.ready }) (λ n differ. ready n)
    where
      was : IsReadyIn disk pool slot x
      was = subst (λ (o : Option VolumeState). IfSome o (IsReadyIn disk pool slot)) there (ready slot)

      now : IsReady disk pool x → IsReady disk pool k
      now is = record {
        lent = is.lent;
        labelled = labelled_known x.slot x is.labelled;
        booked = record { size = is.booked.size; kind = is.booked.kind; span = is.booked.span; need = is.booked.need; charge = is.booked.charge };
        blocks = is.blocks;
        changed = λ e. absurd (true≢false e);
        fresh = λ e. absurd (true≢false e);
      }

  -- no clone stands on a volume that isn't known
  module _ (unclean : x.known ≡ false) where
    pub footed_known : (c : Slots) → AreFooted states c → AreFooted stay c
    unfolding ends_in
    footed_known c footed = record {
      each = each_slot states long slot x k there (λ n o. IfSome o (λ z. IfSome z.base (λ b. IsFooted stay z b × IsOnBase c z)))
          (own x.base (subst (λ (o : Option VolumeState). IfSome o (λ z. IfSome z.base (λ b. IsFooted states z b × IsOnBase c z))) there (footed.each slot)))
          (λ n differ. other (state_at states n) (footed.each n));
      ends = λ n low. (λ j. ends_in (λ s. same_slot states long slot x k there (λ q o. option_and_then (λ z. option_map footing_in z.base) o) refl s j) 64 n) ∙ footed.ends n low;
    }
      where
        still : (z : VolumeState) (b : Base) → IsFooted states z b → IsFooted stay z b
        still z b is = record {
          parent = is.parent;
          inside = is.inside;
          there = elsewhere states long slot x k there b.parent apart ∙ is.there;
          snap = is.snap;
          found = is.found;
          above = is.above;
          named = is.named;
          called = is.called;
          table = is.table;
          span = is.span;
          known = is.known;
          whole = is.whole;
          same = is.same;
        }
          where
            apart : b.parent ≢ slot
            apart e = true≢false (sym is.known ∙ ap (λ (y : VolumeState). y.known) (same_Some is.parent x (sym is.there ∙ ap (state_at states) e ∙ there)) ∙ unclean)

        own : (o : Option Base) → IfSome o (λ b. IsFooted states x b × IsOnBase c x) → IfSome o (λ b. IsFooted stay k b × IsOnBase c k)
        own None is = tt
        own (Some b) is =
            let f = still x b is.0 in (
              record {
                parent = f.parent;
                inside = f.inside;
                there = f.there;
                snap = f.snap;
                found = f.found;
                above = f.above;
                named = f.named;
                called = f.called;
                table = f.table;
                span = f.span;
                known = f.known;
                whole = f.whole;
                same = f.same;
              },
              record { leaves = is.1.leaves; rests = is.1.rests },
            )

        other : (o : Option VolumeState) → IfSome o (λ z. IfSome z.base (λ b. IsFooted states z b × IsOnBase c z)) → IfSome o (λ z. IfSome z.base (λ b. IsFooted stay z b × IsOnBase c z))
        other None is = tt
        other (Some z) is = by z.base is
          where
            by : (o : Option Base) → IfSome o (λ b. IsFooted states z b × IsOnBase c z) → IfSome o (λ b. IsFooted stay z b × IsOnBase c z)
            by None is = tt
            by (Some b) is = (still z b is.0, is.1)

    -- ---- where they are held

    module _ (disk : Shown) (last : Machine) (held : IsHeld disk pool states last) (none : HaveNoFiles states) (roots : list_any is_unknown (roots_of x) ≡ false) where
      its : IsHeldIn disk pool slot x
      its = subst (λ (o : Option VolumeState). IfSome o (IsHeldIn disk pool slot)) there (held.each slot)

      files : x.files ≡ None
      files = subst (λ (o : Option VolumeState). IfSome o (λ z. z.files ≡ None)) there (none slot)

      pub held_known : IsHeld disk pool stay last
      held_known = record {
        found = held.found;
        tells = held.tells;
        keeps = held.keeps;
        map = held.map;
        slots = lent_as states long slot x k there disk.reads pool.found refl refl (λ map was. maps_still disk.reads pool.found x k map map refl refl (λ n other. refl) refl (λ v past. refl) was)
            (λ map was isnt. absurd (true≢false isnt)) pool.containers held.slots;
        spaced = spaced_as states long slot x k there pool.containers (λ map b. refl) pool.found.blocks pool.map.next held.spaced;
        names = named_as states long slot x k there refl held.names;
        each = each_slot states long slot x k there (λ n o. IfSome o (IsHeldIn disk pool n)) (finished_held disk pool slot x its files roots (base_known disk pool states slot x there held.each held.footed)) (λ n differ. held.each n);
        commits = (let same = commits_known in let fits = held.commits in omega (arith, same, fits));
        footed = footed_known pool.containers held.footed;
      }

-- ---- the machine

clean_accepted : (m : Machine) (v : List ℕ) (w : Volume) → fin.get m.volumes v ≡ Some w → is_splitting w ≡ false → refusal m (Clean v) ≡ None
unfolding conditions
clean_accepted m v w there whole = ap (λ (o : Option Volume). first_of ((NoVolume, is_none o) ∷ (VolumeInUse, option_map_or is_splitting o false) ∷ [])) there ∙ ap (λ (b : Bool). cond b (Some VolumeInUse) None) whole

cleaned_effect : (m : Machine) (v : List ℕ) (w : Volume) → fin.get m.volumes v ≡ Some w → effect m (Clean v) ≡ changed m (Becomes v (record w { known = true }))
unfolding change_of
cleaned_effect m v w there = ap (λ (o : Option Volume). changed m (option_map_or (λ (x : Volume). Becomes v (record x { known = true })) o Stays)) there

-- the machine after `clean` of a volume that is there, and isn't being split
next_clean : (m : Machine) (v : List ℕ) (w : Volume) → fin.get m.volumes v ≡ Some w → is_splitting w ≡ false → next m (Clean v) ≡ changed m (Becomes v (record w { known = true }))
next_clean m v w there whole = ap (λ (o : Option Refusal). cond (is_some o) m (effect m (Clean v))) (clean_accepted m v w there whole) ∙ cleaned_effect m v w there

module _ (disk : Shown) (pool : Pool) (states : States) (long : length states ≡ 64) (last : Machine) (held : IsHeld disk pool states last) (slot : ℕ) (x : VolumeState) (there : state_at states slot ≡ Some x) where
  abbrev w : Volume
  w = volume_for disk pool x

  abbrev m : Machine
  m = machine_held disk pool states

  is_its : fin.get m.volumes x.name ≡ Some w
  is_its = is_there disk pool states long last held slot x there

  whole : is_splitting w ≡ false
  whole = by x.base (is_whole slot x (subst (λ (n : ℕ). IsLabelled n x) its.slot its.ready.labelled))
    where
      its : IsHeldIn disk pool slot x
      its = subst (λ (o : Option VolumeState). IfSome o (IsHeldIn disk pool slot)) there (held.each slot)

      by : (o : Option Base) → IfSome o (λ b. b.splitting ≡ false) → option_map_or (λ (b : ModelBase). b.splitting) (base_as o (content_for disk pool x).base) false ≡ false
      by None is = refl
      by (Some b) is = is

  -- the command isn't refused
  pub held_accepted : refusal m (Clean x.name) ≡ None
  held_accepted = clean_accepted m x.name w is_its whole

  pub held_next : next m (Clean x.name) ≡ changed m (Becomes x.name (record w { known = true }))
  held_next = next_clean m x.name w is_its whole

  -- and changes nothing where the volume is known
  pub next_known : x.known ≡ true → next m (Clean x.name) ≡ m
  next_known known = held_next ∙ (λ j. changed m (Becomes x.name (record w { known = sym known j }))) ∙ (λ j. record m { volumes = same j })
    where
      kept : (n : List ℕ) (b : Bool) → eq_by_cmp name_cmp n x.name ≡ b → cond b (Some w) (fin.get m.volumes n) ≡ fin.get m.volumes n
      kept n true is = sym is_its ∙ ap (fin.get m.volumes) (sym (same_name n x.name is))
      kept n false isnt = refl

      same : fin.insert m.volumes x.name w ≡ m.volumes
      same = fin.same_map name_total name_ties _ _ (λ n. fin.get-insert name_total m.volumes x.name w n ∙ kept n (eq_by_cmp name_cmp n x.name) refl)

-- ---- the session

module _ (d : Shown) (s : Session) (fit : FitTogether s.pool s.volumes) (ready : StandsReady d s) (slot : ℕ) (x : VolumeState) (there : state_at s.volumes slot ≡ Some x) where
  abbrev pub known : Session
  known = record s { volumes = with_state s.volumes slot (Some (known_now x)) }

  pub stands_known : StandsReady d known
  stands_known = record {
    stands = record { found = ready.stands.found; map = ready.stands.map; cache = ready.stands.cache };
    ready = ready_known s.pool s.volumes slot x there fit d ready.ready;
  }

  module _ (unclean : x.known ≡ false) (none : HaveNoFiles s.volumes) (roots : list_any is_unknown (roots_of x) ≡ false) (last n : Machine) (stands : StandsFor d s last n) where
    held_now : IsHeld d s.pool known.volumes last
    held_now = held_known s.pool s.volumes slot x there fit unclean d last stands.held none roots

    becomes : machine_held d s.pool known.volumes ≡ changed (machine_held d s.pool s.volumes) (Becomes x.name (volume_for d s.pool (known_now x)))
    becomes = machine_becomes d d s.pool s.pool (reads_alone d d s.pool (reads_itself d) ready.stands.cache) s.volumes fit.housed.long last stands.held slot x (known_now x) there refl held_now

    pub stands_for_known : StandsFor d known last (next n (Clean x.name))
    stands_for_known =
        let files = same_sum s.volumes fit.housed.long slot x (known_now x) there pending_by refl in
        let over = same_sum s.volumes fit.housed.long slot x (known_now x) there overhead_by refl in
        let maps = same_sum s.volumes fit.housed.long slot x (known_now x) there waiting_by refl in
        record {
          held = held_now;
          machine = becomes ∙ sym (held_next d s.pool s.volumes fit.housed.long last stands.held slot x there) ∙ ap (λ (k : Machine). next k (Clean x.name)) stands.machine;
          settled = stands.settled;
          delays = stands.delays;
          pending = omega (arith, files, maps, over, stands.pending);
          files = omega (arith, files, maps, stands.files);
          few = omega (arith, files, stands.few);
          free = omega (arith, files, stands.free);
          room = stands.room;
        }
