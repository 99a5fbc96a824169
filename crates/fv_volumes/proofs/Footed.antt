-- What each clone of a session stands on stays, where one volume changes and keeps what others stand on.
use Rattle.std.proofs.Common.{◌≡◌, ◌≢◌, ◌⊎◌, ◌<◌, ℕ, true, false, Option, Some, None, inl, inr, is_some, refl, sym, ap, subst, ◌∙◌, ⊎_elim, arith}
use Rattle.std.specs.Prelude.{IfSome}
use Rattle.std.specs.Option.{option_and_then, option_map, option_map_or}
use Rattle.std.proofs.lemmas.Bool.{cases_eq}
use Rattle.std.proofs.lemmas.Option.{same_Some}
use Rattle.fv_image.specs.Views.{Footing}
use Rattle.fv_image.specs.Volumes.{snap_at}
use Rattle.fv_container.specs.declared.entry.Entry.{Entry}
use Rattle.fv_container.specs.Mapped.{Mapped}
use Rattle.fv_container.specs.Chains.{Slots, container_at, own_entry, slot_count, TellsEntries}
use Rattle.fv_volmap.specs.Slots.{has, slot_at, slot_of_base, stored_count}
use Rattle.fv_volume.specs.declared.state.Base.{Base}
use Rattle.fv_volume.specs.declared.state.Snap.{Snap}
use Rattle.fv_volume.specs.declared.state.VolumeState.{VolumeState}
use Rattle.fv_volumes.specs.Footing.{ends_in, footing_at, AreFooted, IsFooted, IsOnBase}
use Rattle.fv_pool.specs.Lending.{GoesOver, IsNewEntry, Lent}
use Rattle.fv_volume.specs.States.{States, footing_in, head_in, snap_in, state_at}

-- The clone of a slot stands on a volume of the session, and on its base.
pub each_stands : (states : States) (slots : Slots) → AreFooted states slots → (s : ℕ) (c : VolumeState) (b : Base) → state_at states s ≡ Some c → c.base ≡ Some b → IsFooted states c b × IsOnBase slots c
each_stands states slots are s c b there based = subst (λ (o : Option Base). IfSome o (λ b. IsFooted states c b × IsOnBase slots c)) based
    (subst (λ (o : Option VolumeState). IfSome o (λ c. IfSome c.base (λ b. IsFooted states c b × IsOnBase slots c))) there (are.each s))

-- Where its container has the entries that it had, it stands on its base as it did.
pub on_base_over : (slots after : Slots) (c : VolumeState) → ((v : ℕ) → own_entry (container_at after c.slot) v ≡ own_entry (container_at slots c.slot) v) → IsOnBase slots c → IsOnBase after c
on_base_over slots after c same is = record {
  leaves = λ v here. same v ∙ is.leaves v here;
  rests = λ k v low here. ⊎_elim (λ own. inl (ap is_some (same v) ∙ own)) (λ based. inr based) (is.rests k v low here);
}

-- So do all of a session.
pub footed_over : (states : States) (slots after : Slots) → ((s v : ℕ) → own_entry (container_at after s) v ≡ own_entry (container_at slots s) v) → AreFooted states slots → AreFooted states after
footed_over states slots after same are = record { each = λ s. by (state_at states s) (are.each s); ends = are.ends }
  where
    of_base : (c : VolumeState) (o : Option Base) → IfSome o (λ b. IsFooted states c b × IsOnBase slots c) → IfSome o (λ b. IsFooted states c b × IsOnBase after c)
    of_base c None is = tt
    of_base c (Some b) is = (is.0, on_base_over slots after c (same c.slot) is.1)

    by : (o : Option VolumeState) → IfSome o (λ c. IfSome c.base (λ b. IsFooted states c b × IsOnBase slots c)) → IfSome o (λ c. IfSome c.base (λ b. IsFooted states c b × IsOnBase after c))
    by None is = tt
    by (Some c) is = of_base c c.base is

-- Where the volume that a clone stands on is there as it was, the clone stands on it still, as long as it has the span and the slot of its base.
pub footed_beside : (states new : States) (c d : VolumeState) (b : Base) → d.span ≡ c.span → ((v : ℕ) → has v (slot_at d.map slot_of_base) ≡ has v (slot_at c.map slot_of_base))
    → state_at new b.parent ≡ state_at states b.parent → IsFooted states c b → IsFooted new d b
footed_beside states new c d b span same there is = record {
  parent = is.parent;
  inside = is.inside;
  there = there ∙ is.there;
  snap = is.snap;
  found = is.found;
  above = is.above;
  named = is.named;
  called = is.called;
  table = is.table;
  span = (let was = is.span in omega (arith, was, span));
  known = is.known;
  whole = is.whole;
  same = λ v. same v ∙ is.same v;
}

-- Of a volume that changes stay its name and span, that it is known, its base, and the snapshots that count, with their maps.
pub record KeepsFooting (P : ℕ → Type 0) (x y : VolumeState) : Type 0 where
  pub slot : y.slot ≡ x.slot
  pub name : y.name ≡ x.name
  pub span : y.span ≡ x.span
  pub known : y.known ≡ x.known
  pub base : y.base ≡ x.base
  pub found : (k : ℕ) → P k → (q : Snap) → snap_at (head_in x) k ≡ Some (snap_in q) → snap_at (head_in y) k ≡ Some (snap_in q)
  pub maps : (k : ℕ) → P k → (v : ℕ) → has v (slot_at y.map k) ≡ has v (slot_at x.map k)
  pub based : (v : ℕ) → has v (slot_at y.map slot_of_base) ≡ has v (slot_at x.map slot_of_base)

module _ (states new : States) (home : ℕ) (x y : VolumeState) (x_there : state_at states home ≡ Some x) (y_there : state_at new home ≡ Some y) (others : (s : ℕ) → s ≢ home → state_at new s ≡ state_at states s)
    (P : ℕ → Type 0) (keeps : KeepsFooting P x y) where
  -- the one that a clone stands on is there
  footed : (c d : VolumeState) (b : Base) → d.span ≡ c.span → ((v : ℕ) → has v (slot_at d.map slot_of_base) ≡ has v (slot_at c.map slot_of_base)) → (b.parent ≡ home → P b.slot) → IsFooted states c b → IsFooted new d b
  footed c d b span same stood is = ⊎_elim at_home elsewhere (cases_eq b.parent home)
    where
      elsewhere : b.parent ≢ home → IsFooted new d b
      elsewhere other = footed_beside states new c d b span same (others b.parent other) is

      at_home : b.parent ≡ home → IsFooted new d b
      at_home e =
          let one : is.parent ≡ x = same_Some is.parent x (sym is.there ∙ ap (state_at states) e ∙ x_there) in
          record {
            parent = y;
            inside = is.inside;
            there = ap (state_at new) e ∙ y_there;
            snap = is.snap;
            found = keeps.found b.slot (stood e) is.snap (subst (λ (z : VolumeState). snap_at (head_in z) b.slot ≡ Some (snap_in is.snap)) one is.found);
            above = is.above;
            named = is.named ∙ ap (λ (z : VolumeState). z.name) one ∙ sym keeps.name;
            called = is.called;
            table = is.table;
            span = (let was = is.span in let its : is.parent.span ≡ x.span = ap (λ (z : VolumeState). z.span) one in let now = keeps.span in omega (arith, was, its, now, span));
            known = keeps.known ∙ sym (ap (λ (z : VolumeState). z.known) one) ∙ is.known;
            whole = ap (λ (o : Option Base). option_map_or (λ (c : Base). c.splitting) o false) (keeps.base ∙ sym (ap (λ (z : VolumeState). z.base) one)) ∙ is.whole;
            same = λ v. same v ∙ is.same v ∙ ap (λ (z : VolumeState). has v (slot_at z.map b.slot)) one ∙ sym (keeps.maps b.slot (stood e) v);
          }

  footing_same : footing_at new ≡ footing_at states
  footing_same = λ i s. one s i
    where
      one : (s : ℕ) → footing_at new s ≡ footing_at states s
      one s = ⊎_elim
          (λ (e : s ≡ home). ap (footing_at new) e ∙ ap (option_and_then (λ (z : VolumeState). option_map footing_in z.base)) y_there ∙ ap (option_map footing_in) keeps.base
          ∙ sym (ap (footing_at states) e ∙ ap (option_and_then (λ (z : VolumeState). option_map footing_in z.base)) x_there))
          (λ other. ap (option_and_then (λ (z : VolumeState). option_map footing_in z.base)) (others s other))
          (cases_eq s home)

  -- So all clones stand on what they stood on, by the entries that they have.
  pub footed_stay : (old after : Slots) → (stood : (s : ℕ) (c : VolumeState) (b : Base) → state_at states s ≡ Some c → c.base ≡ Some b → b.parent ≡ home → P b.slot)
      → (IsOnBase old x → IsOnBase after y) → ((s : ℕ) (c : VolumeState) → s ≢ home → state_at states s ≡ Some c → IsOnBase old c → IsOnBase after c) → AreFooted states old → AreFooted new after
  footed_stay old after stood own rest are = record {
    each = λ s. ⊎_elim (at_home s) (elsewhere s) (cases_eq s home);
    ends = λ s low. ap (λ (f : ℕ → Option Footing). ends_in f slot_count s) footing_same ∙ are.ends s low;
  }
    where
      Stands : (t : States) (slots : Slots) → Option VolumeState → Type 0
      Stands t slots o = IfSome o (λ c. IfSome c.base (λ b. IsFooted t c b × IsOnBase slots c))

      elsewhere : (s : ℕ) → s ≢ home → IfSome (state_at new s) (λ c. IfSome c.base (λ b. IsFooted new c b × IsOnBase after c))
      elsewhere s other = subst (Stands new after) (sym (others s other)) (by (state_at states s) refl (are.each s))
        where
          by : (o : Option VolumeState) → state_at states s ≡ o → Stands states old o → Stands new after o
          by None e is = tt
          by (Some c) e is = based c.base refl is
            where
              based : (o : Option Base) → c.base ≡ o → IfSome o (λ b. IsFooted states c b × IsOnBase old c) → IfSome o (λ b. IsFooted new c b × IsOnBase after c)
              based None at is = tt
              based (Some b) at is = (footed c c b refl (λ v. refl) (λ e2. stood s c b e at e2) is.0, rest s c other e is.1)

      at_home : (s : ℕ) → s ≡ home → IfSome (state_at new s) (λ c. IfSome c.base (λ b. IsFooted new c b × IsOnBase after c))
      at_home s e = subst (Stands new after) (sym (ap (state_at new) e ∙ y_there)) (subst (λ (o : Option Base). IfSome o (λ b. IsFooted new y b × IsOnBase after y)) (sym keeps.base)
          (based x.base refl (subst (Stands states old) (ap (state_at states) e ∙ x_there) (are.each s))))
        where
          based : (o : Option Base) → x.base ≡ o → IfSome o (λ b. IsFooted states x b × IsOnBase old x) → IfSome o (λ b. IsFooted new y b × IsOnBase after y)
          based None at is = tt
          based (Some b) at is = (footed x y b keeps.span keeps.based (λ e2. stood home x b x_there at e2) is.0, own is.1)

-- ---- calls over lent blocks

module _ (old new : Lent) (goes : GoesOver old new) (x y : VolumeState) (x_slot : x.slot ≡ old.home.slot) (y_slot : y.slot ≡ x.slot) (x_map : x.map ≡ old.map) (y_map : y.map ≡ new.map) where
  -- The volume itself leaves its base's numbers without entries of its own, and has one under each other.
  pub own_goes : IsOnBase old.pool.containers x → IsOnBase new.pool.containers y
  own_goes is = record { leaves = leaves; rests = rests }
    where
      at : ℕ → Option Entry
      at v = own_entry (container_at new.pool.containers old.home.slot) v

      was : ℕ → Option Entry
      was v = own_entry (container_at old.pool.containers old.home.slot) v

      at_y : (v : ℕ) → own_entry (container_at new.pool.containers y.slot) v ≡ at v
      at_y v = ap (λ (s : ℕ). own_entry (container_at new.pool.containers s) v) (y_slot ∙ x_slot)

      at_x : (v : ℕ) → own_entry (container_at old.pool.containers x.slot) v ≡ was v
      at_x v = ap (λ (s : ℕ). own_entry (container_at old.pool.containers s) v) x_slot

      kept_slot : (k v : ℕ) → k ≢ 0 → has v (slot_at y.map k) ≡ has v (slot_at old.map k)
      kept_slot k v other = ap (λ m. has v (slot_at m k)) y_map ∙ ap (has v) (goes.snapshots k other)

      above : slot_of_base ≢ 0
      above e = omega (arith, e)

      still : (v : ℕ) → is_some (was v) ≡ true → is_some (at v) ≡ true
      still v some = ⊎_elim (λ same. ap is_some same ∙ some)
          (λ (fresh : IsNewEntry (TellsEntries old.disk old.pool.containers) old.pool.map old.pool.containers new.pool.containers old.home.slot v). ap is_some fresh.stands)
          (goes.entries v)

      leaves : (v : ℕ) → has v (slot_at y.map slot_of_base) ≡ true → own_entry (container_at new.pool.containers y.slot) v ≡ None
      leaves v here =
          let before : has v (slot_at old.map slot_of_base) ≡ true = sym (kept_slot slot_of_base v above) ∙ here in
          at_y v ∙ goes.own_kept slot_of_base v above before ∙ sym (at_x v) ∙ is.leaves v (ap (λ m. has v (slot_at m slot_of_base)) x_map ∙ before)

      from_old : (k v : ℕ) → k < stored_count → has v (slot_at old.map k) ≡ true → (is_some (own_entry (container_at new.pool.containers y.slot) v) ≡ true) ⊎ (has v (slot_at y.map slot_of_base) ≡ true)
      from_old k v low here = ⊎_elim
          (λ own. inl (ap is_some (at_y v) ∙ still v (ap is_some (sym (at_x v)) ∙ own)))
          (λ based. inr (kept_slot slot_of_base v above ∙ ap (λ m. has v (slot_at m slot_of_base)) (sym x_map) ∙ based))
          (is.rests k v low (ap (λ m. has v (slot_at m k)) x_map ∙ here))

      rests : (k v : ℕ) → k < stored_count → has v (slot_at y.map k) ≡ true → (is_some (own_entry (container_at new.pool.containers y.slot) v) ≡ true) ⊎ (has v (slot_at y.map slot_of_base) ≡ true)
      rests k v low here = ⊎_elim
          (λ (zero_is : k ≡ 0). ⊎_elim
          (λ before. from_old 0 v (omega arith) before)
          (λ some. inl (ap is_some (at_y v) ∙ some))
          (goes.own_new v (ap (λ m. has v (slot_at m 0)) (sym y_map) ∙ ap (λ (n : ℕ). has v (slot_at y.map n)) (sym zero_is) ∙ here)))
          (λ other. from_old k v low (sym (kept_slot k v other) ∙ here))
          (cases_eq k 0)

  -- and each other volume has the entries that it had.
  pub other_goes : (c : VolumeState) → c.slot ≢ old.home.slot → IsOnBase old.pool.containers c → IsOnBase new.pool.containers c
  other_goes c other = on_base_over old.pool.containers new.pool.containers c (λ v. ap (λ (m : Option Mapped). own_entry m v) (goes.others c.slot other))
