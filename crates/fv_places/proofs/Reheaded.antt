-- A volume whose roots are the same but for hints, and which finds each block that they reach where it was, has the same tables.
use Rattle.std.proofs.Common.{◌≡◌, ℕ, true, List, [], ◌∷◌, map, refl, sym, ap, subst, ◌∙◌}
use Rattle.std.specs.Prelude.{Option, Some}
use Rattle.std.specs.Option.{option_map}
use Rattle.fv_tables.specs.Spelled.{pointer_at, stored}
use Rattle.fv_tables.specs.Reached.{items, is_listed}
use Rattle.fv_tables.proofs.Items.{listed_inode, listed_file}
use Rattle.fv_tables.specs.Alike.{SpellAlike, RecordAlike, AreAlike}
use Rattle.fv_tables.proofs.AlikeTables.{alike_table}
use Rattle.fv_image.specs.Views.{Placed, Rooted, Snap, Head, View}
use Rattle.fv_image.specs.Chains.{along, span_at, place, under}
use Rattle.fv_image.specs.Volumes.{standing_of, table_at, snap_told}
use Rattle.fv_image.specs.Staying.{own_items, items_of}
use Rattle.fv_image.proofs.SameSeen.{left_listed, right_listed}
use Rattle.fv_places.specs.Reheads.{IsSameRoot, AreSameSnaps}

module _ (w u : View) (s : ℕ) (h g : Head) (finds : (v : ℕ) → is_listed (own_items w s h) v ≡ true → place u s v ≡ place w s v) where
  -- a root over blocks that are found where they were
  agree : (r : Rooted) → ((v : ℕ) → is_listed (items (standing_of w s r)) v ≡ true → is_listed (own_items w s h) v ≡ true)
      → AreAlike (under w s) (under u s) r.levels r.root
  unfolding under
  agree r own = record {
    nodes =
        λ level p low some. subst (λ (o : Option (List ℕ)). SpellAlike (under w s (pointer_at (standing_of w s r).inode level p).vvbn) o)
        (sym (same _ (own _ (listed_inode (standing_of w s r) level p some)))) refl;
    inodes =
        λ p some. subst (λ (o : Option (List ℕ)). RecordAlike (under w s (pointer_at (standing_of w s r).inode 0 p).vvbn) o)
        (sym (same _ (own _ (listed_inode (standing_of w s r) 0 p some)))) refl;
    file_nodes =
        λ k f is level p low some. subst
        (λ (o : Option (List ℕ)). SpellAlike (under w s (pointer_at (stored (under w s) k f.levels f.root) level p).vvbn) o)
        (sym (same _ (own _ (listed_file (standing_of w s r) k f is level p some)))) refl;
    cells = λ k f is p some. same _ (own _ (listed_file (standing_of w s r) k f is 0 p some));
  }
    where
      same : (v : ℕ) → is_listed (own_items w s h) v ≡ true → under u s v ≡ under w s v
      same v there = ap (option_map (λ (x : Placed). x.block)) (finds v there)

  -- and one that is the same but for its hint
  root_table : (r q : Rooted) → IsSameRoot r q
      → ((v : ℕ) → is_listed (items (standing_of w s r)) v ≡ true → is_listed (own_items w s h) v ≡ true) → table_at u s q ≡ table_at w s r
  root_table r q is own =
      ap (λ (l : ℕ). table_at u s (record { levels = l; root = q.root })) is.levels
      ∙ alike_table (under w s) (under u s) r.levels r.root q.root is.root (agree r own)

  -- so the active table stays
  pub active_same : IsSameRoot h.active g.active → table_at u s g.active ≡ table_at w s h.active
  active_same is =
      root_table h.active g.active is
      (λ v there. left_listed (items (standing_of w s h.active)) (items_of w s (map (λ p. (p.slot, p.table)) h.snapshots)) v there)

  -- and so do the tables of snapshots
  pub snaps_same : AreSameSnaps h.snapshots g.snapshots → map (snap_told u s) g.snapshots ≡ map (snap_told w s) h.snapshots
  snaps_same are = so h.snapshots g.snapshots
      (λ v there. right_listed (items (standing_of w s h.active)) (items_of w s (map (λ p. (p.slot, p.table)) h.snapshots)) v there) are
    where
      so : (ps qs : List Snap)
          → ((v : ℕ) → is_listed (items_of w s (map (λ p. (p.slot, p.table)) ps)) v ≡ true → is_listed (own_items w s h) v ≡ true)
          → AreSameSnaps ps qs → map (snap_told u s) qs ≡ map (snap_told w s) ps
      so [] [] own is = refl
      so [] (q ∷ qs) own is = absurd is
      so (p ∷ ps) [] own is = absurd is
      so (p ∷ ps) (q ∷ qs) own is =
          let rest = items_of w s (map (λ p. (p.slot, p.table)) ps) in
          let table = root_table p.table q.table is.1.1.0
          (λ v there. own v (left_listed (items (standing_of w s p.table)) rest v there)) in
          let more = so ps qs (λ v there. own v (right_listed (items (standing_of w s p.table)) rest v there)) is.1.1.1 in
          λ i. (is.1.0 i, table i) ∷ more i

-- Where a VVBN has an entry of the volume's own, its place needs no base: so the volume finds it, whatever base its head has.
pub own_place : (w u : View) (s v : ℕ) → (x : Placed) → w.entry s v ≡ Some x → u.entry s v ≡ Some x → span_at u s ≡ span_at w s
    → place u s v ≡ place w s v
unfolding place along
own_place w u s v x was now span = rw (was, now, span) refl
