-- A mirror whose copies weren't made, by what is left of session and disk: what can be copied of that could be copied before, and a point
-- that made room for them is told of the session that is left, too.
use Rattle.std.proofs.Common.{◌≡◌, ◌≢◌, ◌<◌, ◌≤◌, ℕ, Bool, true, List, length, get_or, Option, Some, None, refl, sym, ap, subst, ◌∙◌, ⊎_elim}
use Rattle.std.proofs.lemmas.Bool.{cases_lt}
use Rattle.std.proofs.lemmas.List.{get_or_past}
use Rattle.std.specs.Prelude.{IfSome, IsTrue}
use Rattle.std.specs.FinMap as fin
use Rattle.fv_disk.specs.Shown.{Image, Shown}
use Rattle.fv_bits.specs.Members.{is_member}
use Rattle.fv_aggmap.specs.Space.{Space}
use Rattle.fv_container.specs.declared.entry.Entry.{Entry}
use Rattle.fv_container.specs.Chains.{IsLeafDamage, chain_entry, container_at, map_in, paged_at}
use Rattle.fv_container.specs.Clean.{IsCleanOn}
use Rattle.fv_container.specs.Mapped.{Mapped}
use Rattle.fv_container.specs.Paged.{Paged}
use Rattle.fv_container.specs.Spelled.{names}
use Rattle.fv_container.proofs.Clean.{clean_still}
use Rattle.fv_container.proofs.Named.{named_at}
use Rattle.fv_image.specs.Containers.{node_shape}
use Rattle.fv_root.specs.declared.find.Found.{Found}
use Rattle.fv_places.specs.ByKind.{form_of, shape_in}
use Rattle.fv_pool.specs.declared.pool.Pool.{Pool}
use Rattle.fv_pool.specs.BlocksOver.{tree_in}
use Rattle.fv_pool.specs.Keeping.{kept_or, seen}
use Rattle.fv_copies.specs.Copying.{IsSource, IsTaken, IsWhole}
use Rattle.fv_volume.specs.declared.state.VolumeState.{VolumeState}
use Rattle.fv_volume.specs.States.{States, state_at}
use Rattle.fv_volumes.specs.Creating.{Admits}
use Rattle.fv_mirror.specs.declared.admitting.Admitted.{Admitted}
use Rattle.fv_mirror.specs.Making.{CanCopy, IsUnmade, LeavesOthers, source_bits}
use Rattle.fv_cp.specs.Placing.{HaveNoFiles, KeepCores}
use Rattle.fv_cp.specs.Points.{IsNextRoot}
use Rattle.fv_aggregate.specs.declared.session.Session.{Session}
use Rattle.fv_aggregate.specs.Adding.{IsPointed}
use Rattle.fv_aggregate.specs.Mirroring.{LeavesCopies}

-- ---- what is copied

clean_there : (i j : Image) (held : Option Paged) → ((b : ℕ) → names (tree_in (map_in held)) b ≡ true → j b ≡ i b) → IfSome held (IsCleanOn i) → IfSome held (IsCleanOn j)
clean_there i j None same clean = tt
clean_there i j (Some paged) same clean = clean_still i j paged same clean

inside : (map : Mapped) (k at : ℕ) → at ≡ get_or map.tree k 0 → at ≢ 0 → k < length map.tree
inside map k at is some = ⊎_elim (λ (lt : k < length map.tree). lt) (λ (past : length map.tree ≤ k). absurd (some (is ∙ get_or_past map.tree k 0 past))) (cases_lt k (length map.tree))

module _ (disk : Shown) (pool : Pool) (after : Shown) (left : Pool) (leaves : LeavesOthers disk pool after left) where
  -- with the map and the containers of before
  abbrev as_before : Pool
  as_before = record left { map = pool.map; containers = pool.containers }

  module _ (slot : ℕ) (bits : List Bool) (source : IsSource after as_before slot bits) where
    tells : IsTrue disk.tells
    tells = subst IsTrue leaves.tells source.tells.0

    node_same : (s b : ℕ) → names (tree_in (container_at pool.containers s)) b ≡ true → disk.reads b ≡ after.reads b
    node_same s b named = sym (leaves.reads tells b (source.nodes s b named))

    source_was : IsSource disk pool slot bits
    source_was = record {
      tells = (tells, λ s. clean_there after.reads disk.reads (paged_at pool.containers s) (node_same s) (source.tells.1 s));
      nodes = source.nodes;
      blocks = source.blocks;
    }

    seen_was : (v : ℕ) → is_member bits v ≡ true → (e : Entry) → chain_entry pool.containers slot v ≡ Some e → seen pool.kept disk.reads e.pvbn ≡ seen left.kept after.reads e.pvbn
    seen_was v is e there =
        let taken : IsTaken pool.map e.pvbn = subst (λ (o : Option Entry). IfSome o (λ e. IsTaken pool.map e.pvbn)) there (source.blocks v is) in
        ap (λ (o : Option (List ℕ)). kept_or o (disk.reads e.pvbn)) (sym (leaves.kept e.pvbn taken))
        ∙ ap (λ (b : List ℕ). kept_or (fin.get left.kept e.pvbn) b) (sym (leaves.reads tells e.pvbn taken))

    whole_was : IsWhole after as_before slot bits → IsWhole disk pool slot bits
    whole_was whole = record {
      leaves = λ at want found bad. whole.leaves at want found (damage_still at want found bad);
      each = λ v is.
          let has = whole.each v is in
          record { entry = has.entry; there = has.there; shape = ap (λ (b : List ℕ). shape_in (form_of has.entry.kind) b) (seen_was v is has.entry has.there) ∙ has.shape };
    }
      where
        damage_still : (at want found : ℕ) → IsLeafDamage disk.reads pool.containers at want found → IsLeafDamage after.reads pool.containers at want found
        damage_still at want found bad =
            let named : names (tree_in (container_at pool.containers bad.slot)) at ≡ true = ap (λ (o : Option Mapped). names (tree_in o) at) bad.there
            ∙ named_at bad.map.tree bad.leaf.region at (inside bad.map bad.leaf.region at bad.leaf.place bad.leaf.some) (sym bad.leaf.place) bad.leaf.some in
            record {
              slot = bad.slot;
              map = bad.map;
              there = bad.there;
              leaf = record {
                region = bad.leaf.region;
                within = bad.leaf.within;
                place = bad.leaf.place;
                some = bad.leaf.some;
                fault = ap (λ (b : List ℕ). node_shape 0 b) (sym (node_same bad.slot at named)) ∙ bad.leaf.fault;
              };
            }

  module _ (states new : States) (unmade : IsUnmade states pool new left) (a : Admitted) where
    pool_is : left ≡ as_before
    pool_is = λ j. record left { map = unmade.map j; containers = unmade.containers j }

    can_was : CanCopy after states as_before a → CanCopy disk states pool a
    can_was can = by (state_at states a.source.parent) can.tells can.whole refl
      where
        by : (o : Option VolumeState) → IfSome o (λ y. IsSource after as_before a.source.parent (source_bits y a.source.slot)) → IfSome o (λ y. IsWhole after as_before a.source.parent (source_bits y a.source.slot))
            → state_at states a.source.parent ≡ o → CanCopy disk states pool a
        by None source whole there = record {
          tells = subst (λ (o : Option VolumeState). IfSome o (λ y. IsSource disk pool a.source.parent (source_bits y a.source.slot))) (sym there) tt;
          whole = subst (λ (o : Option VolumeState). IfSome o (λ y. IsWhole disk pool a.source.parent (source_bits y a.source.slot))) (sym there) tt;
          room = can.room;
        }
        by (Some y) source whole there = record {
          tells = subst (λ (o : Option VolumeState). IfSome o (λ y. IsSource disk pool a.source.parent (source_bits y a.source.slot))) (sym there) (source_was a.source.parent (source_bits y a.source.slot) source);
          whole = subst (λ (o : Option VolumeState). IfSome o (λ y. IsWhole disk pool a.source.parent (source_bits y a.source.slot))) (sym there) (whole_was a.source.parent (source_bits y a.source.slot) source whole);
          room = can.room;
        }

    -- What can be copied of what is left could be copied before.
    pub could_copy : CanCopy after new left a → CanCopy disk states pool a
    could_copy can = can_was (subst (λ (p : Pool). CanCopy after states p a) pool_is (subst (λ (xs : States). CanCopy after xs left a) unmade.states can))

-- ---- the point that made room

-- The session that is left is told of as the one that the point left.
pub pointed_behind : (before : Shown) (old : Session) (disk : Shown) (mid : Session) (after : Shown) (new : Session) → after.tells ≡ before.tells → LeavesCopies disk mid after new → IsUnmade mid.volumes mid.pool new.volumes new.pool → new.pending ≡ mid.pending
    → IsPointed before old mid → IsPointed after old new
pointed_behind before old disk mid after new tells leaves unmade pending is = record {
  next = subst (IsNextRoot old.pool.found) (sym leaves.others.found) is.next;
  pending = pending ∙ is.pending;
  files = λ told. let none = is.files (subst IsTrue tells told) in record {
    none = subst HaveNoFiles (sym unmade.states) none.none;
    taken = subst (λ (m : Space). (b : ℕ) → is_member m.next b ≡ true → is_member m.committed b ≡ true) (sym unmade.map) none.taken;
  };
  same = λ told. subst (λ (m : Space). m.next ≡ m.committed) (sym unmade.map) (is.same (subst IsTrue tells told));
  cores = subst (KeepCores old.volumes) (sym unmade.states) is.cores;
  admits = λ name size kind slot span was. subst (λ (xs : States). Admits xs new.pool.found.blocks name size kind slot span) (sym unmade.states)
      (subst (λ (f : Found). Admits mid.volumes f.blocks name size kind slot span) (sym leaves.others.found) (is.admits name size kind slot span was));
  none = subst HaveNoFiles (sym unmade.states) is.none;
  blocks = ap (λ (f : Found). f.blocks) leaves.others.found ∙ is.blocks;
}
