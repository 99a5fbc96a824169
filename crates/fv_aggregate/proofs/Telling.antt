-- What a session tells of its volumes is what its machine does.
use Rattle.std.proofs.Common.{◌≡◌, ◌<◌, ◌+◌, ◌-◌, ℕ, zero, suc, List, [], ◌∷◌, ◌++◌, map, Option, Some, None, flat_map, refl, sym, ap, ◌∙◌, arith, Less, Equal, Greater}
use Rattle.std.specs.Ordering.{match_ordering}
use Rattle.std.specs.List.{range_with_len}
use Rattle.std.specs.declared.cmp.Ordering.{Ordering}
use Rattle.std.specs.BTreeSet.{insert_key}
use Rattle.std.specs.FinMap as fin
use Rattle.std.specs.FinMap.{put}
use Rattle.std.specs.FinMap.Entries.{by_order}
use Rattle.fv_disk.specs.Shown.{Shown}
use Rattle.fv_model.specs.Spelling.{name_cmp}
use Rattle.fv_model.specs.Volumes.{Volume}
use Rattle.fv_laws.proofs.Orders.{name_total}
use Rattle.fv_image.specs.Views.{slots}
use Rattle.fv_image.proofs.Uses.{no_entries}
use Rattle.fv_pool.specs.declared.pool.Pool.{Pool}
use Rattle.fv_volume.specs.declared.state.VolumeState.{VolumeState}
use Rattle.fv_volume.specs.OneVolume.{volume_for}
use Rattle.fv_volume.specs.States.{States, state_at}
use Rattle.fv_cp.specs.Held.{machine_held, named_held}
use Rattle.fv_aggregate.specs.Telling.{names_from, with_name}

abbrev pub Named : Type 0
Named = List (List ℕ × Volume)

-- the volumes of so many slots from one on with their names, by a naming of one slot
abbrev pub listed : (ℕ → Option VolumeState → Named) → States → ℕ → ℕ → Named
listed name states from count = flat_map (λ s. name s (state_at states s)) (range_with_len from count)

-- A slot's volume is listed under its name, and nothing where there is none.
pub record IsNaming (name : ℕ → Option VolumeState → Named) (meant : ℕ → VolumeState → Volume) : Type 0 where
  pub none : (s : ℕ) → name s None ≡ []
  pub some : (s : ℕ) (x : VolumeState) → name s (Some x) ≡ (x.name, meant s x) ∷ []

-- ---- names

keys_chosen : (r : Ordering) (a b c : Named) → map (λ e. e.0) (by_order r a b c) ≡ match_ordering r (map (λ e. e.0) a) (map (λ e. e.0) b) (map (λ e. e.0) c)
keys_chosen Less a b c = refl
keys_chosen Equal a b c = refl
keys_chosen Greater a b c = refl

keys_put : (es : Named) (k : List ℕ) (v : Volume) → map (λ e. e.0) (put name_cmp k v es) ≡ insert_key name_cmp (map (λ e. e.0) es) k
keys_put [] k v = refl
keys_put (e ∷ es) k v = keys_chosen (name_cmp k e.0) _ _ _
    ∙ ap (λ (rest : List (List ℕ)). match_ordering (name_cmp k e.0) (k ∷ e.0 ∷ map (λ e. e.0) es) (e.0 ∷ map (λ e. e.0) es) (e.0 ∷ rest)) (keys_put es k v)

keys_from : (name : ℕ → Option VolumeState → Named) (meant : ℕ → VolumeState → Volume) → IsNaming name meant → (states : States) (from count : ℕ) → fin.keys (fin.from_entries {R = name_cmp} (listed name states from count)) ≡ names_from states from count
unfolding names_from
keys_from name meant is states from zero = ap (λ (es : Named). map (λ e. e.0) es) (no_entries name_cmp)
keys_from name meant is states from (suc count) = so (state_at states from) (keys_from name meant is states (from + 1) count)
  where
    so : (x : Option VolumeState) → fin.keys (fin.from_entries {R = name_cmp} (listed name states (from + 1) count)) ≡ names_from states (from + 1) count
        → fin.keys (fin.from_entries {R = name_cmp} (name from x ++ listed name states (from + 1) count)) ≡ with_name x (names_from states (from + 1) count)
    so None rest = ap (λ (es : Named). fin.keys (fin.from_entries {R = name_cmp} (es ++ listed name states (from + 1) count))) (is.none from) ∙ rest
    so (Some x) rest =
        let m : fin.FinMap name_cmp Volume = fin.from_entries (listed name states (from + 1) count) in
        ap (λ (es : Named). fin.keys (fin.from_entries {R = name_cmp} (es ++ listed name states (from + 1) count))) (is.some from x)
        ∙ ap (λ (es : Named). map (λ e. e.0) es) (fin.entries-insert name_total m x.name (meant from x))
        ∙ keys_put (fin.entries m) x.name (meant from x) ∙ ap (λ (names : List (List ℕ)). insert_key name_cmp names x.name) rest

pub names_none : (states : States) (from : ℕ) → names_from states from 0 ≡ []
unfolding names_from
names_none states from = refl

pub names_more : (states : States) (k : ℕ) → k < 64 → names_from states (64 - (k + 1)) (k + 1) ≡ with_name (state_at states (63 - k)) (names_from states (64 - k) k)
unfolding names_from
names_more states k inside =
    let more : k + 1 ≡ suc k = omega arith in
    let here : 64 - (k + 1) ≡ 63 - k = omega arith in
    let next : 63 - k + 1 ≡ 64 - k = omega (arith, inside) in
    (λ j. names_from states (here j) (more j)) ∙ ap (λ (from : ℕ). with_name (state_at states (63 - k)) (names_from states from k)) next

-- The names are those of the volumes of the machine that the session stands for.
pub names_are : (disk : Shown) (pool : Pool) (states : States) → names_from states 0 64 ≡ fin.keys (machine_held disk pool states).volumes
unfolding machine_held slots
names_are disk pool states = sym (keys_from (λ s o. named_held disk pool o) (λ s x. volume_for disk pool x) (record { none = λ s. refl; some = λ s x. refl }) states 0 64)
