-- Nodes that were read.
use Rattle.std.proofs.Common.{◌≡◌, ◌≢◌, ℕ, zero, suc, ◌+◌, ◌-◌, ◌<◌, ◌≤◌, List, length, get_or, replicate, refl, sym, ap, subst, ◌∙◌, arith, inl, inr, ⊎_elim, Result, Ok, Err, Some}
use Rattle.std.specs.List.{zip}
use Rattle.std.proofs.lemmas.Bool.{cases_lt}
use Rattle.std.proofs.lemmas.List.{get_or-replicate, get_or_past, length-replicate}
use Rattle.std.proofs.lemmas.List.Elements.{All-get_or}
use Rattle.std.proofs.lemmas.Slice.Zip.{length-zip, get_or-zip}
use Rattle.fv_disk.specs.Shown.{Image}
use Rattle.fv_codec.specs.declared.shape.Shape.{Shape}
use Rattle.fv_codec.specs.declared.container.ContainerLeaf.{ContainerLeaf}
use Rattle.fv_codec.specs.declared.container.ContainerInner.{ContainerInner}
use Rattle.fv_codec.specs.Blocks.{IsContainerInner, IsContainerLeaf, IsEntry, inner_at, last_place, leaf_at}
use Rattle.fv_image.specs.Containers.{child_in, entry_in, lying}
use Rattle.fv_container.specs.Reading.{FillsFrom, ReadsAs, StaysOutside}

said_ok : {X : Type 0} (at : ℕ) (r : Result X Shape) (x : X) → ReadsAs at (λ n. n) r (Ok x) → r ≡ Ok x
said_ok at (Ok y) x is = cc
said_ok at (Err s) x is = cc

pub shaped_inner : (i : Image) (at : ℕ) (block : List ℕ) (node : ContainerInner) → block ≡ i at → ReadsAs at (λ n. n) (inner_at block) (Ok node) → inner_at (i at) ≡ Ok node
shaped_inner i at block node is said = ap inner_at (sym is) ∙ said_ok at (inner_at block) node said

pub shaped_leaf : (i : Image) (at : ℕ) (block : List ℕ) (leaf : ContainerLeaf) → block ≡ i at → ReadsAs at (λ n. n) (leaf_at block) (Ok leaf) → leaf_at (i at) ≡ Ok leaf
shaped_leaf i at block leaf is said = ap leaf_at (sym is) ∙ said_ok at (leaf_at block) leaf said

pub zeros_at : (n c : ℕ) → ◌≡◌ {A = ℕ} (get_or (replicate n 0) c 0) 0
zeros_at n c = ⊎_elim (λ (lt : c < n). get_or-replicate n c 0 0 lt) (λ (le : n ≤ c). get_or_past (replicate n 0) c 0 (omega (arith, le, length-replicate {A = ℕ} n 0))) (cases_lt c n)

pub lying_read : {X : Type 0} (read : List ℕ → Result X Shape) (i : Image) (at : ℕ) (x : X) → at ≢ 0 → read (i at) ≡ Ok x → lying read i at ≡ Some x
lying_read read i zero x some is = absurd (some refl)
lying_read read i (suc p) x some is = rw is refl

pub inner_children : (i : Image) (at : ℕ) (block : List ℕ) (node : ContainerInner) → at ≢ 0 → block ≡ i at → ReadsAs at (λ n. n) (inner_at block) (Ok node) → (c : ℕ) → get_or node.children c 0 ≡ child_in (lying inner_at i at) c
inner_children i at block node some is said c = sym (ap (λ n. child_in n c) (lying_read inner_at i at node some (shaped_inner i at block node is said)))

pub no_children : (i : Image) (at c : ℕ) → at ≡ 0 → get_or (replicate 256 0) c 0 ≡ child_in (lying inner_at i at) c
no_children i at c none = zeros_at 256 c ∙ sym (ap (λ p. child_in (lying inner_at i p) c) none)

pub leaf_entries : (i : Image) (at : ℕ) (block : List ℕ) (leaf : ContainerLeaf) → at ≢ 0 → block ≡ i at → ReadsAs at (λ n. n) (leaf_at block) (Ok leaf) → (c : ℕ) → (get_or leaf.pvbns c 0, get_or leaf.kinds c 0) ≡ entry_in (lying leaf_at i at) c
leaf_entries i at block leaf some is said c = sym (ap (λ l. entry_in l c) (lying_read leaf_at i at leaf some (shaped_leaf i at block leaf is said)))

pub no_entries : (i : Image) (at c : ℕ) → at ≡ 0 → (get_or (replicate 256 0) c 0, get_or (replicate 256 0) c 0) ≡ entry_in (lying leaf_at i at) c
no_entries i at c none = ap (λ (z : ℕ). (z, z)) (zeros_at 256 c) ∙ sym (ap (λ p. entry_in (lying leaf_at i p) c) none)

pub no_range : (c : ℕ) → IsEntry (get_or (replicate 256 0) c 0, get_or (replicate 256 0) c 0)
no_range c = rw (zeros_at 256 c) (omega arith, omega arith)

pub leaf_range : (leaf : ContainerLeaf) → IsContainerLeaf leaf → length leaf.pvbns ≡ 256 → length leaf.kinds ≡ 256 → (c : ℕ) → c < 256 → IsEntry (get_or leaf.pvbns c 0, get_or leaf.kinds c 0)
leaf_range leaf is pvbns kinds c inside =
    let all = All-get_or IsEntry (zip leaf.pvbns leaf.kinds) c (0, 0) (omega (arith, length-zip leaf.pvbns leaf.kinds, pvbns, kinds, inside)) is.entries in
    subst IsEntry (get_or-zip leaf.pvbns leaf.kinds c (0, 0) (omega (arith, pvbns, inside)) (omega (arith, kinds, inside))) all

pub inner_bounded : (node : ContainerInner) → IsContainerInner node → (c : ℕ) → get_or node.children c 0 ≤ last_place
inner_bounded node is c = ⊎_elim
    (λ (lt : c < length node.children). All-get_or (λ place. place ≤ last_place) node.children c 0 lt is.children)
    (λ (past : length node.children ≤ c). let none = get_or_past node.children c 0 past in omega (arith, none))
    (cases_lt c (length node.children))

-- the children of a node are put into a row, whose places stay within
pub fill_bounded : (old new children : List ℕ) (from end : ℕ) → FillsFrom children new from end → StaysOutside 0 old new from → ((c : ℕ) → get_or children c 0 ≤ last_place)
    → ((m : ℕ) → m < end → get_or old m 0 ≤ last_place) → (m : ℕ) → m < end → get_or new m 0 ≤ last_place
fill_bounded old new children from end fills outside bounded was m lt = ⊎_elim
    (λ (before : m < from). rw (outside m (inl before)) (was m lt))
    (λ (after : from ≤ m). ⊎_elim
    (λ (here : m < from + 256).
    let at : from + (m - from) ≡ m = omega (arith, after) in
    let is : get_or new m 0 ≡ get_or children (m - from) 0 = ap (λ (k : ℕ). get_or new k 0) (sym at) ∙ fills (m - from) (omega (arith, after, here)) (omega (arith, at, lt)) in
    rw is (bounded (m - from)))
    (λ (behind : from + 256 ≤ m). rw (outside m (inr behind)) (was m lt))
    (cases_lt m (from + 256)))
    (cases_lt m from)
