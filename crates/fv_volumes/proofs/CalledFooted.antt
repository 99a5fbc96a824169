-- What each clone of a session stands on stays where one of its volumes changes in memory: the entries of all are as they were.
use Rattle.std.proofs.Common.{◌≡◌, ◌≢◌, ◌<◌, ℕ, true, List, Some, None, inl, inr, is_some, refl, sym, ap, subst, ◌∙◌, ⊎_elim, arith, get_or-set_same, get_or-set_other}
use Rattle.std.specs.Prelude.{find, map, ◌==◌}
use Rattle.std.proofs.lemmas.Bool.{cases_eq}
use Rattle.fv_model.specs.declared.commands.Command.{Command}
use Rattle.fv_model.specs.declared.commands.Kind.{Kind}
use Rattle.fv_image.specs.Views.{Snap as HeadSnap}
use Rattle.fv_image.specs.Volumes.{snap_at}
use Rattle.fv_container.specs.Chains.{Slots, container_at, own_entry}
use Rattle.fv_volmap.specs.Slots.{has, slot_at, slot_of_base, stored_count}
use Rattle.fv_pool.specs.Calls.{GivesUp}
use Rattle.fv_volume.specs.declared.state.Base.{Base}
use Rattle.fv_volume.specs.declared.state.Snap.{Snap}
use Rattle.fv_volume.specs.declared.state.VolumeState.{VolumeState}
use Rattle.fv_volume.specs.Promising.{IsPromised, promised}
use Rattle.fv_volume.specs.States.{States, snap_in, state_at, with_state}
use Rattle.fv_volumes.specs.Footing.{AreFooted, IsOnBase}
use Rattle.fv_volumes.proofs.Footed.{each_stands, footed_stay, KeepsFooting}
use Rattle.fv_volumes.proofs.PromisedOne.{inside_row}

-- one of the stored slots of a volume's maps has a number
abbrev pub IsStored : VolumeState → ℕ → Type 0
IsStored x v = (k : ℕ) × (k < stored_count) × (has v (slot_at x.map k) ≡ true)

-- The stored slots of a volume's maps have no number that those of another hadn't.
abbrev pub HoldsNoMore : VolumeState → VolumeState → Type 0
HoldsNoMore x y = (k v : ℕ) → k < stored_count → has v (slot_at y.map k) ≡ true → IsStored x v

-- A volume keeps what clones stand on where its name, its span, its base and the list of its snapshots stay, and the maps of those.
pub keeps_footing : (P : ℕ → Type 0) (x y : VolumeState) → y.slot ≡ x.slot → y.name ≡ x.name → y.span ≡ x.span → y.known ≡ x.known → y.base ≡ x.base → y.snapshots ≡ x.snapshots
    → ((k : ℕ) → P k → slot_at y.map k ≡ slot_at x.map k) → slot_at y.map slot_of_base ≡ slot_at x.map slot_of_base → KeepsFooting P x y
unfolding snap_at
keeps_footing P x y slot name span known base snapshots maps based = record {
  slot = slot;
  name = name;
  span = span;
  known = known;
  base = base;
  found = λ k p q at. ap (λ (qs : List Snap). find (λ (p : HeadSnap). p.slot == k) (map snap_in qs)) snapshots ∙ at;
  maps = λ k p v. ap (has v) (maps k p);
  based = λ v. ap (has v) based;
}

module _ (states : States) (s : ℕ) (x y : VolumeState) (there : state_at states s ≡ Some x) (slots : Slots) where
  abbrev stay : States
  stay = with_state states s (Some y)

  here : state_at stay s ≡ Some y
  here = get_or-set_same states s (Some y) None (inside_row states s x there)

  others : (k : ℕ) → k ≢ s → state_at stay k ≡ state_at states k
  others k differ = get_or-set_other states s k (Some y) None differ

  -- over the entries that it had it stands on its base still, where its maps hold no more
  on_base_still : y.slot ≡ x.slot → ((v : ℕ) → has v (slot_at y.map slot_of_base) ≡ has v (slot_at x.map slot_of_base)) → HoldsNoMore x y → IsOnBase slots x → IsOnBase slots y
  on_base_still slot based fewer is = record {
    leaves = λ v here. own v ∙ is.leaves v (sym (based v) ∙ here);
    rests = λ k v low here.
        let was = fewer k v low here in
        ⊎_elim (λ some. inl (ap is_some (own v) ∙ some)) (λ base. inr (based v ∙ base)) (is.rests was.0 v was.1 was.2);
  }
    where
      own : (v : ℕ) → own_entry (container_at slots y.slot) v ≡ own_entry (container_at slots x.slot) v
      own v = ap (λ (n : ℕ). own_entry (container_at slots n) v) slot

  -- So all stand where it keeps the snapshots on which clones stand, with their maps, and holds no more.
  pub footed_changed : (P : ℕ → Type 0) → KeepsFooting P x y → ((k : ℕ) (c : VolumeState) (b : Base) → state_at states k ≡ Some c → c.base ≡ Some b → b.parent ≡ s → P b.slot)
      → HoldsNoMore x y → AreFooted states slots → AreFooted stay slots
  footed_changed P keeps stood fewer footed = footed_stay states stay s x y there here others P keeps slots slots stood (on_base_still keeps.slot keeps.based fewer) (λ k c differ at is. is) footed

  -- So it is where only the map slot of its active table may have others, and has no more of them.
  pub footed_active : KeepsFooting (λ k. k ≢ 0) x y → ((v : ℕ) → has v (slot_at y.map 0) ≡ true → IsStored x v) → AreFooted states slots → AreFooted stay slots
  footed_active keeps active footed = footed_changed (λ k. k ≢ 0) keeps (λ k c b at based up. (each_stands states slots footed k c b at based).0.above) fewer footed
    where
      fewer : HoldsNoMore x y
      fewer k v low has_it = ⊎_elim
          (λ (zero : k ≡ 0). active v (ap (λ (n : ℕ). has v (slot_at y.map n)) (sym zero) ∙ has_it))
          (λ (other : k ≢ 0). (k, low, sym (keeps.maps k other v) ∙ has_it))
          (cases_eq k 0)

  -- A call on its files changes nothing of that,
  pub called_footed : y ≡ record x { now = y.now; map = y.map; files = y.files; numbers = y.numbers; ledger = y.ledger; changed = y.changed } → GivesUp x.map y.map → AreFooted states slots → AreFooted stay slots
  called_footed same maps = footed_active
      (keeps_footing (λ k. k ≢ 0) x y (ap (λ (z : VolumeState). z.slot) same) (ap (λ (z : VolumeState). z.name) same) (ap (λ (z : VolumeState). z.span) same) (ap (λ (z : VolumeState). z.known) same)
      (ap (λ (z : VolumeState). z.base) same) (ap (λ (z : VolumeState). z.snapshots) same) maps.snapshots (maps.snapshots slot_of_base (λ e. absurd (omega (arith, e)))))
      (λ v has_it. (0, omega arith, maps.active v has_it))

-- nor does another size or another kind of guarantee.
pub promised_footed : (old : States) (blocks : ℕ) (c : Command) (name : List ℕ) (size : VolumeState → ℕ) (kind : VolumeState → Kind) (new : States) → IsPromised old blocks c name size kind new → (slots : Slots)
    → AreFooted old slots → AreFooted new slots
promised_footed old blocks c name size kind new is slots footed = subst (λ (ss : States). AreFooted ss slots) (sym is.row)
    (footed_active old is.slot is.state (promised is.state (size is.state) (kind is.state)) is.there slots (keeps_footing (λ k. k ≢ 0) is.state (promised is.state (size is.state) (kind is.state)) refl refl refl refl refl refl (λ k other. refl) refl) (λ v has_it. (0, omega arith, has_it)) footed)
