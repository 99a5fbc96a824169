-- A session with a new empty volume: the machine has it by `vol create`.
use Rattle.std.proofs.Common.{◌≡◌, ◌≤◌, ◌+◌, ◌*◌, ℕ, Bool, true, false, cond, List, length, Option, Some, None, true≢false, refl, sym, ap, subst, ◌∙◌, arith}
use Rattle.std.specs.Prelude.{IfSome, IsTrue}
use Rattle.std.specs.Option.{is_some}
use Rattle.std.specs.FinMap as fin
use Rattle.std.specs.FinSet as set
use Rattle.fv_disk.specs.Shown.{Shown}
use Rattle.fv_bits.specs.Members.{is_member}
use Rattle.fv_bits.proofs.Laws.{is_member-replicate}
use Rattle.fv_charge.specs.declared.ledger.Ledger.{Ledger}
use Rattle.fv_model.specs.declared.answers.Refusal.{Refusal}
use Rattle.fv_model.specs.declared.answers.Reply.TheVariants.{Done}
use Rattle.fv_model.specs.declared.commands.Kind.{Kind}
use Rattle.fv_model.specs.declared.commands.Command.TheVariants.{VolCreate}
use Rattle.fv_model.specs.Effects.{change_of, effect, empty_volume}
use Rattle.fv_model.specs.Machines.{Machine, capacity}
use Rattle.fv_model.specs.Places.{Id, id_cmp}
use Rattle.fv_model.specs.Refusals.{next, refusal}
use Rattle.fv_model.specs.Replies.{answer}
use Rattle.fv_model.specs.Space.{base_ids, commits, overhead, span_of}
use Rattle.fv_model.specs.Volumes.{Volume}
use Rattle.fv_tree.specs.Sources.{Use}
use Rattle.fv_tree.specs.Standing.{under}
use Rattle.fv_image.specs.Views.{Head, entry_count}
use Rattle.fv_container.specs.Chains.{parent_at}
use Rattle.fv_store.specs.Held.{StandsOn}
use Rattle.fv_volmap.specs.Slots.{Volume as MapSlots, active_of}
use Rattle.fv_pool.specs.declared.pool.Pool.{Pool}
use Rattle.fv_pool.specs.Tables.{AreLedBy}
use Rattle.fv_volume.specs.declared.state.Base.{Base}
use Rattle.fv_volume.specs.declared.state.VolumeState.{VolumeState}
use Rattle.fv_volume.specs.OneVolume.{shows, volume_for}
use Rattle.fv_volume.specs.Placing.{IsLedTo}
use Rattle.fv_volume.specs.States.{States, empty_head, head_in, parent_in, with_state}
use Rattle.fv_volume.proofs.TablesOf.{no_footing}
use Rattle.fv_volumes.specs.Creating.{Admits, Refuses, with_holes_on}
use Rattle.fv_volumes.specs.Footing.{AreFooted, IsFooted, IsOnBase}
use Rattle.fv_volumes.proofs.Alone.{housed_alone}
use Rattle.fv_volumes.proofs.NewStanding.{made_standing, made_volume, made_well}
use Rattle.fv_cp.specs.Held.{IsHeldIn}
use Rattle.fv_aggregate.specs.declared.session.Session.{Session}
use Rattle.fv_aggregate.specs.Adding.{IsAdded, IsCreated}
use Rattle.fv_aggregate.specs.Standing.{StandsFor}
use Rattle.fv_aggregate.proofs.Added.{Becomes}
use Rattle.fv_aggregate.proofs.Admitting.{accepted_held, refused_held, room_held}
use Rattle.fv_aggregate.proofs.Beside.{clean_now, footed_beside, holes, housed_beside, ready_new, there_now}

-- what it answers
pub create_done : (m : Machine) (name : List ℕ) (size : ℕ) (kind : Kind) → answer m (VolCreate name size kind) ≡ Done
unfolding answer
create_done m name size kind = refl

-- what is known of a session's volumes, said of the machine that it stands for
module _ (disk : Shown) (session : Session) (last m : Machine) (long : length session.volumes ≡ 64) (stands : StandsFor disk session last m) (name : List ℕ) (size : ℕ) (kind : Kind) where
  pub room_for : (slot span : ℕ) → Admits session.volumes session.pool.found.blocks name size kind slot span → commits m + 2 * overhead span ≤ capacity m.blocks
  room_for slot span is = subst (λ (x : Machine). commits x + 2 * overhead span ≤ capacity x.blocks) stands.machine (room_held disk session.pool session.volumes long last stands.held name size kind slot span is)

  pub accepted_for : (slot span : ℕ) → Admits session.volumes session.pool.found.blocks name size kind slot span → refusal m (VolCreate name size kind) ≡ None
  accepted_for slot span is = ap (λ (x : Machine). refusal x (VolCreate name size kind)) (sym stands.machine) ∙ accepted_held disk session.pool session.volumes long last stands.held name size kind slot span is

  pub refused_as : (r : Refusal) → Refuses session.volumes session.pool.found.blocks name size kind r → refusal m (VolCreate name size kind) ≡ Some r
  refused_as r is = ap (λ (x : Machine). refusal x (VolCreate name size kind)) (sym stands.machine) ∙ refused_held disk session.pool session.volumes long last stands.held name size kind r is

module _ (session : Session) (name : List ℕ) (size : ℕ) (kind : Kind) (room : ℕ) (new : Session) (made : IsCreated session name size kind room new) where
  abbrev x : VolumeState
  x = made.volume

  abbrev added : IsAdded session x room new
  added = made.added

  abbrev left : Pool
  left = with_holes_on session.pool x.slot x.span (parent_in (Some x))

  abbrev row : States
  row = with_state session.volumes x.slot (Some x)

  bare_new : x.base ≡ None
  bare_new = no_footing x.base (ap (λ (h : Head). h.base) made.head)

  module _ (disk : Shown) (last m : Machine) (stands : StandsFor disk session last m) (tells : IsTrue disk.tells) (cache : StandsOn disk session.pool.store.pairs) where
    head_own : head_in x ≡ empty_head x.name size kind (span_of size 0 0)
    head_own = made.head ∙ ap (λ (n : List ℕ). empty_head n size kind (span_of size 0 0)) (sym (ap (λ (h : Head). h.name) made.head))

    volume_new : volume_for disk left x ≡ empty_volume size kind
    volume_new = made_volume disk left x size kind head_own made.ledger added.is.files

    no_number : (v : ℕ) → is_member (active_of x.map) v ≡ false
    no_number v = ap (λ (m : MapSlots). is_member (active_of m) v) made.map ∙ is_member-replicate x.span v

    led_new : IsLedTo disk left x
    led_new = subst (AreLedBy (under (shows disk left x)) (shows disk left x).used x.active) (sym added.is.files) (λ v nowhere. unused _ (is_member (active_of x.map) v) (no_number v))
      where
        unused : (u : Use) (b : Bool) → b ≡ false → cond b (Some u) None ≡ None
        unused u true e = absurd (true≢false e)
        unused u false e = refl

    alone : parent_at left.containers x.slot ≡ None
    alone = housed_alone left.containers row (housed_beside disk session.pool session.volumes x added.fit added.few added.put.within added.put.free added.is) x.slot x
        (there_now disk session.pool session.volumes x added.fit added.few added.put.within added.put.free added.is) bare_new

    held_new : IsHeldIn disk left x.slot x
    held_new = record {
      slot = refl;
      ready = ready_new disk session.pool session.volumes x added.fit added.few added.put.within added.put.free added.is cache;
      stands = made_standing disk left x size kind head_own made.ledger added.is.files made.numbers (entry_count x.span) tells
          (clean_now disk session.pool session.volumes x added.fit added.few added.put.within added.put.free added.is last stands.held)
          (holes disk session.pool session.volumes x added.fit added.few added.put.within added.put.free added.is) alone;
      led = led_new;
      well = made_well disk left x size kind head_own made.ledger added.is.files;
      wide = subst (λ (v : Volume). v.most + (set.len (base_ids v.base) + 256) ≤ v.span) (sym volume_new) (let none : set.len (set.empty {K = Id} {R = id_cmp}) ≡ 0 = set.len-empty id_cmp in omega (arith, none));
      within = (let none : x.ledger.charge ≡ 0 = ap (λ (l : Ledger). l.charge) made.ledger in omega (arith, none));
    }

    footed_new : AreFooted row left.containers
    footed_new = footed_beside disk session.pool session.volumes x added.fit added.few added.put.within added.put.free added.is last stands.held
        (subst (λ (o : Option Base). IfSome o (λ b. IsFooted session.volumes x b × IsOnBase left.containers x)) (sym bare_new) tt)

    machine_new : next m (VolCreate name size kind) ≡ record m { volumes = fin.insert m.volumes x.name (volume_for disk left x) }
    unfolding change_of
    machine_new =
        ap (λ (r : Option Refusal). cond (is_some r) m (effect m (VolCreate name size kind))) (accepted_for disk session last m added.fit.housed.long stands name size kind made.slot made.span made.admits)
        ∙ (λ i. record m { volumes = fin.insert m.volumes (ap (λ (h : Head). h.name) (sym made.head) i) (sym volume_new i) })

    -- So the machine has it by that command.
    pub created_becomes : Becomes disk session.pool session.volumes x m (next m (VolCreate name size kind))
    created_becomes = record { held = held_new; footed = footed_new; machine = machine_new }
