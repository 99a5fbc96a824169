-- Split start, split finish and clean are changes of a head: the machine told is the command's effect.
use Rattle.std.proofs.Common.{◌≡◌, ◌≢◌, ℕ, zero, suc, ◌+◌, ◌<◌, ◌≤◌, Bool, true, false, cond, List, [], ◌∷◌, ◌++◌, flat_map, refl, sym, ap, ap₂, ◌∙◌, arith, ⊎_elim}
use Rattle.std.specs.Prelude.{Option, Some, None, nat_lt, if◌then◌else◌}
use Rattle.std.specs.List.{range_with_len}
use Rattle.std.specs.Option.{option_map, option_map_or, option_and_then, option_or}
use Rattle.std.specs.Ordering.{eq_by_cmp}
use Rattle.std.specs.FinMap as fin
use Rattle.std.proofs.lemmas.Bool.{cases_eq, both_ways}
use Rattle.fv_model.specs.declared.commands.Command.TheVariants.{SplitStart, SplitFinish, Clean}
use Rattle.fv_model.specs.Spelling.{name_cmp}
use Rattle.fv_model.specs.Tables.{empty_table}
use Rattle.fv_model.specs.Volumes.{Volume}
use Rattle.fv_model.specs.Effects.{Change, Stays, Becomes, changed, being_split, change_of, effect}
use Rattle.fv_laws.proofs.Changes.{same_name}
use Rattle.fv_laws.proofs.Orders.{name_total, name_ties}
use Rattle.fv_tables.specs.Told.{standing_at}
use Rattle.fv_tables.specs.Spelled.{Under}
use Rattle.fv_image.specs.Views.{Placed, Rooted, Snap, Footing, Head, View, slots}
use Rattle.fv_image.specs.Chains.{along, parent_in, place, under}
use Rattle.fv_image.specs.Volumes.{standing_of, table_at, active_at, snap_at, base_on, base_told, base_from, volume_with, volume_told, named_with, volumes_with, told_with, told}
use Rattle.fv_image.proofs.Moved.{parent_elsewhere}
use Rattle.fv_image.proofs.TurnedViews.{volume_there}
use Rattle.fv_places.specs.Reheads.{headed, Reheads}
use Rattle.fv_places.proofs.Alike.{base_alike, volume_alike}
use Rattle.fv_places.proofs.Reheaded.{active_same, snaps_same}

module _ (w u : View) (s : ℕ) (h : Head) (a : Rooted) (ps : List Snap) (b : Option Footing) (c : Bool)
    (re : Reheads w u s h a ps b c) where
  abbrev g : Head
  g = headed h a ps b c

  -- ---- other volumes

  -- a parent is another volume
  other_parent : (k p : ℕ) → parent_in (w.head k) ≡ Some p → p ≢ s
  other_parent = parent_elsewhere w s re.alone

  -- another volume finds its blocks where they were
  along_other : (n k q : ℕ) → k ≢ s → along u n k q ≡ along w n k q
  unfolding along
  along_other zero k q other = refl
  along_other (suc n) k q other =
      ap₂ (λ (o : Option Placed) (h : Option Head). option_or o (option_and_then (λ p. along u n p q) (parent_in h))) (re.entries k q)
      (re.others k other)
      ∙ ap (option_or (w.entry k q)) (so (λ p ne. along_other n p q ne) (parent_in (w.head k)) (λ p e. other_parent k p e))
    where
      so : ((p : ℕ) → p ≢ s → along u n p q ≡ along w n p q) → (o : Option ℕ) → ((p : ℕ) → o ≡ Some p → p ≢ s)
          → option_and_then (λ p. along u n p q) o ≡ option_and_then (λ p. along w n p q) o
      so rest None each = refl
      so rest (Some p) each = rest p (each p refl)

  place_other : (k q : ℕ) → k ≢ s → place u k q ≡ place w k q
  unfolding place
  place_other k q other =
      λ i. if nat_lt q (option_map_or (λ (h : Head). h.span) (re.others k other i) 0) then along_other 64 k q other i else re.entries k q i

  -- so it stands as it stood
  standing_other : (k : ℕ) (r : Rooted) → k ≢ s → standing_of u k r ≡ standing_of w k r
  unfolding under
  standing_other k r other =
      ap (λ (m : Under). standing_at m r.levels r.root) (λ i q. option_map (λ (x : Placed). x.block) (place_other k q other i))

  -- a base that is another volume's is told as before
  base_other : (o : Option Footing) → ((b : Footing) → o ≡ Some b → b.parent ≢ s) → base_from u o ≡ base_from w o
  base_other None each = refl
  base_other (Some b) each = ap (base_told u b) (re.others b.parent (each b refl))
      ∙ base_alike w u b (λ r. standing_other b.parent r (each b refl)) (w.head b.parent)

  -- and is told as before
  volume_other : (k : ℕ) (f : Head) → w.head k ≡ Some f → k ≢ s → volume_told u k f ≡ volume_told w k f
  volume_other k f there other =
      volume_alike w u k f (λ r. standing_other k r other) (base_other f.base (λ b based. re.alone k f b there based))

  -- ---- this one: its tables stay

  -- The volume has the tables that it had.
  volume_here : volume_told u s g ≡ record (volume_told w s h) { base = base_from u b; known = c }
  unfolding volume_with
  volume_here = λ i. record {
    kind = h.kind;
    size = h.size;
    most = h.most;
    span = h.span;
    now = h.now;
    active = active_same w u s h g re.finds re.same_active i;
    snapshots = fin.from_entries {R = name_cmp} (snaps_same w u s h g re.finds re.same_snapshots i);
    base = base_from u b;
    known = c;
  }

  -- ---- the machine

  -- the active table of a slot in use
  active_in : (z : View) (k : ℕ) (f : Head) → z.head k ≡ Some f → active_at z k ≡ table_at z k f.active
  active_in z k f e = ap (λ (o : Option Head). option_map_or (λ g. table_at z k g.active) o empty_table) e

  -- another slot tells what it told
  one_other : (k : ℕ) → k ≢ s → named_with u (active_at u) k (u.head k) ≡ named_with w (active_at w) k (w.head k)
  one_other k other = ap (named_with u (active_at u) k) (re.others k other) ∙ so (w.head k) refl
    where
      so : (o : Option Head) → w.head k ≡ o → named_with u (active_at u) k o ≡ named_with w (active_at w) k o
      so None e = refl
      so (Some f) e = ap (λ (z : Volume). (f.name, z) ∷ [])
          (ap (volume_with u k f) (active_in u k f (re.others k other ∙ e)) ∙ volume_other k f e other
          ∙ sym (ap (volume_with w k f) (active_in w k f e)))

  abbrev listed : View → ℕ → ℕ → List (List ℕ × Volume)
  listed z from count = flat_map (λ k. named_with z (active_at z) k (z.head k)) (range_with_len from count)

  -- and so do all slots past this one
  past : (from count : ℕ) → s < from → listed u from count ≡ listed w from count
  past from zero low = refl
  past from (suc count) low = λ i. one_other from (λ e. absurd (omega (arith, e, low))) i ++ past (from + 1) count (omega (arith, low)) i

  -- two names that differ may be asked for in either order
  either : (p q : Bool) (b c d : Option Volume) → (p ≡ true → q ≡ true → ⊥) → cond p b (cond q c d) ≡ cond q c (cond p b d)
  either true true b c d apart = absurd (apart refl refl)
  either true false b c d apart = refl
  either false true b c d apart = refl
  either false false b c d apart = refl

  -- what stands before another of its name hides it
  twice : (p : Bool) (b c d : Option Volume) → cond p b d ≡ cond p b (cond p c d)
  twice true b c d = refl
  twice false b c d = refl

  module _ (small : s < 64) (names : (r : ℕ) (f : Head) → r < s → w.head r ≡ Some f → eq_by_cmp name_cmp h.name f.name ≡ false) where
    abbrev volume : Volume
    volume = volume_told u s g

    -- under each name stands what stood there, but for this volume
    found : (n : List ℕ) (from count : ℕ) → from ≤ s → s < from + count
        → fin.find name_cmp n (listed u from count)
        ≡ cond (eq_by_cmp name_cmp n h.name) (Some volume) (fin.find name_cmp n (listed w from count))
    found n from zero low high = absurd (omega (arith, low, high))
    found n from (suc count) low high = ⊎_elim
        (λ (here : from ≡ s).
        let new : named_with u (active_at u) from (u.head from) ≡ (h.name, volume) ∷ [] =
        ap (λ (k : ℕ). named_with u (active_at u) k (u.head k)) here ∙ ap (named_with u (active_at u) s) re.now
        ∙ (λ i. (h.name, volume_with u s g (active_in u s g re.now i)) ∷ []) in
        let old : named_with w (active_at w) from (w.head from) ≡ (h.name, volume_told w s h) ∷ [] =
        ap (λ (k : ℕ). named_with w (active_at w) k (w.head k)) here ∙ ap (named_with w (active_at w) s) re.was
        ∙ (λ i. (h.name, volume_with w s h (active_in w s h re.was i)) ∷ []) in
        let rest = past (from + 1) count (omega (arith, here)) in
        ap (λ (es : List (List ℕ × Volume)). fin.find name_cmp n (es ++ listed u (from + 1) count)) new
        ∙ ap (λ (es : List (List ℕ × Volume)). cond (eq_by_cmp name_cmp n h.name) (Some volume) (fin.find name_cmp n es)) rest
        ∙ twice (eq_by_cmp name_cmp n h.name) (Some volume) (Some (volume_told w s h)) (fin.find name_cmp n (listed w (from + 1) count))
        ∙ ap (λ (es : List (List ℕ × Volume)). cond (eq_by_cmp name_cmp n h.name) (Some volume)
        (fin.find name_cmp n (es ++ listed w (from + 1) count))) (sym old))
        (λ before.
        let rest = found n (from + 1) count (omega (arith, before, low)) (omega (arith, high)) in
        ap (λ (es : List (List ℕ × Volume)). fin.find name_cmp n (es ++ listed u (from + 1) count)) (one_other from before)
        ∙ so (w.head from) refl (omega (arith, before, low)) rest)
        (cases_eq from s)
      where
        so : (o : Option Head) → w.head from ≡ o → from < s
            → fin.find name_cmp n (listed u (from + 1) count)
            ≡ cond (eq_by_cmp name_cmp n h.name) (Some volume) (fin.find name_cmp n (listed w (from + 1) count))
            → fin.find name_cmp n (named_with w (active_at w) from o ++ listed u (from + 1) count)
            ≡ cond (eq_by_cmp name_cmp n h.name) (Some volume)
            (fin.find name_cmp n (named_with w (active_at w) from o ++ listed w (from + 1) count))
        so None there lt rest = rest
        so (Some f) there lt rest =
            ap (λ (o : Option Volume). cond (eq_by_cmp name_cmp n f.name) (Some (volume_with w from f (active_at w from))) o) rest
            ∙ either (eq_by_cmp name_cmp n f.name) (eq_by_cmp name_cmp n h.name) (Some (volume_with w from f (active_at w from)))
            (Some volume) (fin.find name_cmp n (listed w (from + 1) count))
            (λ first second. both_ways (eq_by_cmp name_cmp h.name f.name) (names from f lt there)
            (ap (λ (m : List ℕ). eq_by_cmp name_cmp m f.name) (sym (same_name n h.name second)) ∙ first))

    -- the machine has the volume of the new head, and the others as they were
    headed_told : told u ≡ record (told w) { volumes = fin.insert (told w).volumes h.name volume }
    unfolding told_with volumes_with slots
    headed_told = λ i. record { blocks = re.blocks i; version = re.version i; volumes = same i }
      where
        same : fin.from_entries {R = name_cmp} (listed u 0 64) ≡ fin.insert (fin.from_entries {R = name_cmp} (listed w 0 64)) h.name volume
        same = fin.same_map name_total name_ties _ _ (λ n.
            fin.get-from_entries name_total (listed u 0 64) n ∙ found n 0 64 (omega arith) (omega (arith, small))
            ∙ sym (fin.get-insert name_total (fin.from_entries {R = name_cmp} (listed w 0 64)) h.name volume n
            ∙ ap (λ (o : Option Volume). cond (eq_by_cmp name_cmp n h.name) (Some volume) o)
            (fin.get-from_entries name_total (listed w 0 64) n)))

    -- the volume that the command is given to
    there : fin.get (told w).volumes h.name ≡ Some (volume_with w s h (active_at w s))
    there = volume_there w (active_at w) s h re.was small names

    -- a command that changes the volume does so
    happens : (change : Volume → Change)
        → changed (told w) (option_map_or change (fin.get (told w).volumes h.name) Stays) ≡ changed (told w) (change (volume_told w s h))
    happens change =
        ap (λ (o : Option Volume). changed (told w) (option_map_or change o Stays))
        (there ∙ (λ i. Some (volume_with w s h (active_in w s h re.was i))))

    -- ---- the three commands

    -- a head without base
    pub finished : b ≡ None → c ≡ h.known → told u ≡ effect (told w) (SplitFinish h.name)
    unfolding change_of volume_with
    finished none known =
        headed_told ∙ ap (λ (z : Volume). record (told w) { volumes = fin.insert (told w).volumes h.name z })
        (volume_here ∙ (λ i. record (volume_told w s h) { base = base_from u (none i); known = known i }))
        ∙ sym (happens (λ x. Becomes h.name (record x { base = None })))

    -- a head that says that all places are known
    pub cleaned : b ≡ h.base → c ≡ true → told u ≡ effect (told w) (Clean h.name)
    unfolding change_of volume_with
    cleaned same known = headed_told ∙ ap (λ (z : Volume). record (told w) { volumes = fin.insert (told w).volumes h.name z })
        (volume_here ∙ (λ i. record
        (volume_told w s h) {
          base =
              (ap (base_from u) same ∙ base_other h.base (λ f based. re.alone s h f re.was based)) i;
          known = known i;
        }))
        ∙ sym (happens (λ x. Becomes h.name (record x { known = true })))

    -- a head whose base is left block by block
    pub started : (f : Footing) → h.base ≡ Some f → b ≡ Some (record f { splitting = true }) → c ≡ false
        → told u ≡ effect (told w) (SplitStart h.name)
    unfolding change_of volume_with
    started f was now known = headed_told ∙ ap (λ (z : Volume). record (told w) { volumes = fin.insert (told w).volumes h.name z })
        (volume_here ∙ (λ i. record (volume_told w s h) { base = base i; known = known i }))
        ∙ sym (happens (λ x. Becomes h.name (record x { base = option_map being_split x.base; known = false })))
      where
        split_on : (o : Option Head) → base_told w (record f { splitting = true }) o ≡ option_map being_split (base_told w f o)
        split_on None = refl
        split_on (Some e) = by (snap_at e f.slot)
          where
            by : (o : Option Snap)
                → option_map (base_on w (record f { splitting = true }) e) o ≡ option_map being_split (option_map (base_on w f e) o)
            by None = refl
            by (Some p) = refl

        base : base_from u b ≡ option_map being_split (base_from w h.base)
        base = ap (base_from u) now
            ∙ base_other (Some (record f { splitting = true }))
            (λ d e. let same : d.parent ≡ f.parent = parents d e in λ at. re.alone s h f re.was was (sym same ∙ at))
            ∙ split_on (w.head f.parent) ∙ ap (λ (o : Option Footing). option_map being_split (base_from w o)) (sym was)
          where
            parents : (d : Footing) → Some (record f { splitting = true }) ≡ Some d → d.parent ≡ f.parent
            parents d e = cc
