-- A view in which one volume was turned to another table or to other snapshots: what stands in blocks stands there still, and the machine has
-- the volume that the new head tells.
use Rattle.std.proofs.Common.{◌≡◌, ◌≢◌, ℕ, zero, suc, ◌+◌, ◌<◌, ◌≤◌, Bool, true, false, cond, List, [], ◌∷◌, ◌++◌, map, flat_map, refl, sym, ap, ◌∙◌, arith, ⊎_elim}
use Rattle.std.specs.Prelude.{Option, Some, None, find, nat_lt, ◌==◌, if◌then◌else◌}
use Rattle.std.specs.List.{range_with_len}
use Rattle.std.specs.Option.{option_map, option_map_or, option_and_then, option_or}
use Rattle.std.specs.Ordering.{eq_by_cmp}
use Rattle.std.specs.FinMap as fin
use Rattle.std.proofs.lemmas.Bool.{cases_eq, both_ways}
use Rattle.fv_model.specs.Spelling.{name_cmp}
use Rattle.fv_model.specs.Tables.{Table}
use Rattle.fv_model.specs.Volumes.{Volume}
use Rattle.fv_laws.proofs.Changes.{same_name, itself}
use Rattle.fv_laws.proofs.Orders.{name_total, name_ties}
use Rattle.fv_tables.specs.Spelled.{Under}
use Rattle.fv_tables.specs.Told.{standing_at, table_told}
use Rattle.fv_image.specs.Views.{Placed, Rooted, Snap, Footing, Head, View, slots}
use Rattle.fv_image.specs.Chains.{parent_in, along, place, under}
use Rattle.fv_image.specs.Volumes.{standing_of, table_at, snap_at, base_on, base_told, base_from, volume_with, named_with, volumes_with, told_with}
use Rattle.fv_image.specs.Turned.{turned, Turns, KeepsBases}
use Rattle.fv_image.proofs.SnapTables.{either}

module _ (w u : View) (s : ℕ) (h : Head) (a : Rooted) (ps : List Snap) (turns : Turns w u s h a ps) where
  -- what is asked of a head is the same where it asks neither for its table nor for its snapshots
  heads : {X : Type 0} (ask : Option Head → X) → ask (Some (turned h a ps)) ≡ ask (Some h) → (k : ℕ) → ask (u.head k) ≡ ask (w.head k)
  heads ask same k = ⊎_elim
      (λ (here : k ≡ s). ap (λ (n : ℕ). ask (u.head n)) here ∙ ap ask turns.now ∙ same ∙ sym (ap (λ (n : ℕ). ask (w.head n)) here ∙ ap ask turns.was))
      (λ other. ap ask (turns.others k other))
      (cases_eq k s)

  -- ---- blocks

  alongs : (n k v : ℕ) → along u n k v ≡ along w n k v
  unfolding along
  alongs zero k v = refl
  alongs (suc n) k v = λ i. option_or (turns.entries k v i) (option_and_then (λ p. alongs n p v i) (heads parent_in refl k i))

  pub turned_place : (k v : ℕ) → place u k v ≡ place w k v
  unfolding place
  turned_place k v = λ i. if nat_lt v (heads (λ o. option_map_or (λ h. h.span) o 0) refl k i) then alongs 64 k v i else turns.entries k v i

  pub turned_under : (k : ℕ) → under u k ≡ under w k
  unfolding under
  turned_under k = λ i v. option_map (λ (x : Placed). x.block) (turned_place k v i)

  pub turned_standing : (k : ℕ) (r : Rooted) → standing_of u k r ≡ standing_of w k r
  turned_standing k r = ap (λ (n : Under). standing_at n r.levels r.root) (turned_under k)

  pub turned_table : (k : ℕ) (r : Rooted) → table_at u k r ≡ table_at w k r
  turned_table k r = ap table_told (turned_standing k r)

  -- ---- volumes

  module _ (keeps : KeepsBases w s h ps) where
    base_same : (k : ℕ) (g : Head) → w.head k ≡ Some g → base_from u g.base ≡ base_from w g.base
    unfolding snap_at
    base_same k g there = so g.base refl
      where
        on_same : (b : Footing) (f e : Head) → f.name ≡ e.name → (o : Option Snap) → option_map (base_on u b f) o ≡ option_map (base_on w b e) o
        on_same b f e name None = refl
        on_same b f e name (Some p) = λ i. Some (record { parent = name i; snapshot = p.name; table = turned_table b.parent p.table i; splitting = b.splitting })

        of_parent : (b : Footing) (o : Option Head) → base_told u b o ≡ base_told w b o
        of_parent b None = refl
        of_parent b (Some f) = on_same b f f refl (find (λ p. p.slot == b.slot) f.snapshots)

        here : (b : Footing) → g.base ≡ Some b → b.parent ≡ s → base_told u b (u.head b.parent) ≡ base_told w b (w.head b.parent)
        here b based at =
            ap (λ (n : ℕ). base_told u b (u.head n)) at ∙ ap (base_told u b) turns.now
            ∙ ap (λ (o : Option Snap). option_map (base_on u b (turned h a ps)) o) (keeps.each k g b there based at)
            ∙ on_same b (turned h a ps) h refl (find (λ p. p.slot == b.slot) h.snapshots)
            ∙ sym (ap (λ (n : ℕ). base_told w b (w.head n)) at ∙ ap (base_told w b) turns.was)

        so : (o : Option Footing) → g.base ≡ o → base_from u o ≡ base_from w o
        so None based = refl
        so (Some b) based = ⊎_elim
            (here b based)
            (λ other. ap (base_told u b) (turns.others b.parent other) ∙ of_parent b (w.head b.parent))
            (cases_eq b.parent s)

    -- a volume with this head and this base is told as before
    pub volume_same : (k : ℕ) (g f : Head) → w.head k ≡ Some f → f.base ≡ g.base → (x : Table) → volume_with u k g x ≡ volume_with w k g x
    unfolding volume_with
    volume_same k g f there base x = λ i. record { kind = g.kind; size = g.size; most = g.most; span = g.span; now = g.now; active = x; snapshots = fin.from_entries {R = name_cmp} (map (λ (p : Snap). (p.name, turned_table k p.table i)) g.snapshots); base = (ap (base_from u) (sym base) ∙ base_same k f there ∙ ap (base_from w) base) i; known = g.known }

    -- ---- the machine

    module _ (x y : ℕ → Table) (others : (k : ℕ) → k ≢ s → y k ≡ x k) (names : (r : ℕ) (g : Head) → r < s → w.head r ≡ Some g → eq_by_cmp name_cmp h.name g.name ≡ false) where
      abbrev volume : Volume
      volume = volume_with w s (turned h a ps) (y s)

      abbrev listed : (v : View) (t : ℕ → Table) → ℕ → ℕ → List (List ℕ × Volume)
      listed v t from count = flat_map (λ k. named_with v t k (v.head k)) (range_with_len from count)

      one_same : (k : ℕ) → k ≢ s → named_with u y k (u.head k) ≡ named_with w x k (w.head k)
      one_same k other = ap (named_with u y k) (turns.others k other) ∙ so (w.head k) refl
        where
          so : (o : Option Head) → w.head k ≡ o → named_with u y k o ≡ named_with w x k o
          so None there = refl
          so (Some g) there = λ i. (g.name, (volume_same k g g there refl (y k) ∙ ap (volume_with w k g) (others k other)) i) ∷ []

      past : (from count : ℕ) → s < from → listed u y from count ≡ listed w x from count
      past from zero low = refl
      past from (suc count) low = λ i. one_same from (λ e. absurd (omega (arith, e, low))) i ++ past (from + 1) count (omega (arith, low)) i

      twice : (p : Bool) (b c d : Option Volume) → cond p b d ≡ cond p b (cond p c d)
      twice true b c d = refl
      twice false b c d = refl

      found : (n : List ℕ) (from count : ℕ) → from ≤ s → s < from + count → fin.find name_cmp n (listed u y from count) ≡ cond (eq_by_cmp name_cmp n h.name) (Some volume) (fin.find name_cmp n (listed w x from count))
      found n from zero low high = absurd (omega (arith, low, high))
      found n from (suc count) low high = ⊎_elim
          (λ (here : from ≡ s).
          let new : named_with u y from (u.head from) ≡ (h.name, volume) ∷ [] = ap (λ (k : ℕ). named_with u y k (u.head k)) here ∙ ap (named_with u y s) turns.now ∙ (λ i. (h.name, volume_same s (turned h a ps) h turns.was refl (y s) i) ∷ []) in
          let old : named_with w x from (w.head from) ≡ (h.name, volume_with w s h (x s)) ∷ [] = ap (λ (k : ℕ). named_with w x k (w.head k)) here ∙ ap (named_with w x s) turns.was in
          let rest = past (from + 1) count (omega (arith, here)) in
          ap (λ (es : List (List ℕ × Volume)). fin.find name_cmp n (es ++ listed u y (from + 1) count)) new
          ∙ ap (λ (es : List (List ℕ × Volume)). cond (eq_by_cmp name_cmp n h.name) (Some volume) (fin.find name_cmp n es)) rest
          ∙ twice (eq_by_cmp name_cmp n h.name) (Some volume) (Some (volume_with w s h (x s))) (fin.find name_cmp n (listed w x (from + 1) count))
          ∙ ap (λ (es : List (List ℕ × Volume)). cond (eq_by_cmp name_cmp n h.name) (Some volume) (fin.find name_cmp n (es ++ listed w x (from + 1) count))) (sym old))
          (λ before.
          let rest = found n (from + 1) count (omega (arith, before, low)) (omega (arith, high)) in
          ap (λ (es : List (List ℕ × Volume)). fin.find name_cmp n (es ++ listed u y (from + 1) count)) (one_same from before) ∙ so (w.head from) refl (omega (arith, before, low)) rest)
          (cases_eq from s)
        where
          so : (o : Option Head) → w.head from ≡ o → from < s → fin.find name_cmp n (listed u y (from + 1) count) ≡ cond (eq_by_cmp name_cmp n h.name) (Some volume) (fin.find name_cmp n (listed w x (from + 1) count))
              → fin.find name_cmp n (named_with w x from o ++ listed u y (from + 1) count) ≡ cond (eq_by_cmp name_cmp n h.name) (Some volume) (fin.find name_cmp n (named_with w x from o ++ listed w x (from + 1) count))
          so None there lt rest = rest
          so (Some g) there lt rest =
              ap (λ (o : Option Volume). cond (eq_by_cmp name_cmp n g.name) (Some (volume_with w from g (x from))) o) rest
              ∙ either (eq_by_cmp name_cmp n g.name) (eq_by_cmp name_cmp n h.name) (Some (volume_with w from g (x from))) (Some volume) (fin.find name_cmp n (listed w x (from + 1) count))
              (λ first second. both_ways (eq_by_cmp name_cmp h.name g.name) (names from g lt there) (ap (λ (m : List ℕ). eq_by_cmp name_cmp m g.name) (sym (same_name n h.name second)) ∙ first))

      -- The machine has the volume of the new head, and the others as they were.
      pub turned_with : s < 64 → told_with u y ≡ record (told_with w x) { volumes = fin.insert (told_with w x).volumes h.name volume }
      unfolding told_with volumes_with slots
      turned_with small = λ i. record { blocks = turns.blocks i; version = turns.version i; volumes = same i }
        where
          same : fin.from_entries {R = name_cmp} (listed u y 0 64) ≡ fin.insert (fin.from_entries {R = name_cmp} (listed w x 0 64)) h.name volume
          same = fin.same_map name_total name_ties _ _ (λ n.
              fin.get-from_entries name_total (listed u y 0 64) n ∙ found n 0 64 (omega arith) (omega (arith, small))
              ∙ sym (fin.get-insert name_total (fin.from_entries {R = name_cmp} (listed w x 0 64)) h.name volume n
              ∙ ap (λ (o : Option Volume). cond (eq_by_cmp name_cmp n h.name) (Some volume) o) (fin.get-from_entries name_total (listed w x 0 64) n)))

-- ---- the volume of a slot in the machine

-- a volume whose name no earlier one has is found under it
pub volume_there : (w : View) (x : ℕ → Table) (s : ℕ) (h : Head) → w.head s ≡ Some h → s < 64 → ((r : ℕ) (g : Head) → r < s → w.head r ≡ Some g → eq_by_cmp name_cmp h.name g.name ≡ false)
    → fin.get (told_with w x).volumes h.name ≡ Some (volume_with w s h (x s))
unfolding told_with volumes_with volume_with slots
volume_there w x s h there small names = fin.get-from_entries name_total (listed 0 64) h.name ∙ found 0 64 (omega arith) (omega (arith, small))
  where
    listed : ℕ → ℕ → List (List ℕ × Volume)
    listed from count = flat_map (λ k. named_with w x k (w.head k)) (range_with_len from count)

    found : (from count : ℕ) → from ≤ s → s < from + count → fin.find name_cmp h.name (flat_map (λ k. named_with w x k (w.head k)) (range_with_len from count)) ≡ Some (volume_with w s h (x s))
    found from zero low high = absurd (omega (arith, low, high))
    found from (suc count) low high = ⊎_elim
        (λ (here : from ≡ s).
        let one : named_with w x from (w.head from) ≡ (h.name, volume_with w s h (x s)) ∷ [] = ap (λ (k : ℕ). named_with w x k (w.head k)) here ∙ ap (named_with w x s) there in
        ap (λ (es : List (List ℕ × Volume)). fin.find name_cmp h.name (es ++ flat_map (λ k. named_with w x k (w.head k)) (range_with_len (from + 1) count))) one
        ∙ ap (λ (b : Bool). cond b (Some (volume_with w s h (x s))) (fin.find name_cmp h.name (flat_map (λ k. named_with w x k (w.head k)) (range_with_len (from + 1) count)))) (itself h.name))
        (λ before. so (w.head from) refl (omega (arith, before, low)) (found (from + 1) count (omega (arith, before, low)) (omega (arith, high))))
        (cases_eq from s)
      where
        so : (o : Option Head) → w.head from ≡ o → from < s → fin.find name_cmp h.name (flat_map (λ k. named_with w x k (w.head k)) (range_with_len (from + 1) count)) ≡ Some (volume_with w s h (x s))
            → fin.find name_cmp h.name (named_with w x from o ++ flat_map (λ k. named_with w x k (w.head k)) (range_with_len (from + 1) count)) ≡ Some (volume_with w s h (x s))
        so None is lt rest = rest
        so (Some g) is lt rest = ap (λ (b : Bool). cond b (Some (volume_with w from g (x from))) (fin.find name_cmp h.name (flat_map (λ k. named_with w x k (w.head k)) (range_with_len (from + 1) count)))) (names from g lt is) ∙ rest
