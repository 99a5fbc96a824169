-- Each node of a whole tree has its shape. Distinct positions have distinct blocks, since a node says its level and number.
use Rattle.std.proofs.Common.{◌≡◌, ◌≢◌, ℕ, zero, suc, ◌<◌, ◌≤◌, Bool, true, false, List, refl, sym, ap, subst, ◌∙◌, Result, Ok, Err, arith}
use Rattle.std.specs.Prelude.{nat_lt, if◌then◌else◌}
use Rattle.std.proofs.lemmas.Bool.Decides.{nat_tests}
use Rattle.fv_disk.specs.Shown.{Image}
use Rattle.fv_codec.specs.declared.shape.Shape.{Shape}
use Rattle.fv_codec.specs.declared.container.ContainerLeaf.{ContainerLeaf}
use Rattle.fv_codec.specs.declared.container.ContainerInner.{ContainerInner}
use Rattle.fv_codec.specs.Bytes.{word_at}
use Rattle.fv_codec.specs.Fields.{Verdict, verdict_of, verdicts, reading, in_range, ◌then◌}
use Rattle.fv_codec.specs.Blocks.{leaf_at, leaf_in, inner_at, greatest_kind, leaf_fields, inner_fields}
use Rattle.fv_image.specs.Containers.{level_width, node_of, node_shape, judged, leaf_for, inner_for, node_verdict, IsShapedTree, IsWholeTree}

-- ---- verdicts

abbrev ranged : Bool → Bool → ℕ → ℕ → Verdict
ranged low high m x = if low then Err (record { want = m; found = x }) else if high then Err (record { want = m; found = x }) else Ok tt

-- a number that has one allowed value
in_one : (m x : ℕ) → in_range m m x ≡ Ok tt → x ≡ m
in_one m x e = so (nat_lt x m) (nat_lt m x) refl refl e
  where
    so : (low high : Bool) → nat_lt x m ≡ low → nat_lt m x ≡ high → ranged low high m x ≡ Ok tt → x ≡ m
    so true high a b e = absurd cc
    so false true a b e = absurd cc
    so false false a b e = grind (arith, nat_tests, a, b)

both_fine : (a b : Verdict) → (a then b) ≡ Ok tt → (a ≡ Ok tt) × (b ≡ Ok tt)
both_fine (Ok fine) b e = (refl, e)
both_fine (Err fault) b e = absurd cc

-- a reading was made where its verdict has nothing to say
was_fine : {X : Type 0} (v : Verdict) (x y : X) → reading v x ≡ Ok y → v ≡ Ok tt
was_fine (Ok fine) x y e = refl
was_fine (Err fault) x y e = absurd cc

well_judged : {X : Type 0} (r : Result X Shape) (asks : X → Verdict) → verdict_of (judged r asks) ≡ Ok tt → (x : X) × (r ≡ Ok x) × (asks x ≡ Ok tt)
well_judged (Err fault) asks e = absurd cc
well_judged {X} (Ok x) asks e = so (asks x) refl e
  where
    so : (v : Verdict) → asks x ≡ v → verdict_of (reading v x) ≡ Ok tt → (y : X) × (◌≡◌ {A = Result X Shape} (Ok x) (Ok y)) × (asks y ≡ Ok tt)
    so (Ok fine) is e = (x, refl, is)
    so (Err fault) is e = absurd cc

-- ---- marks

leaf_mark : (block : List ℕ) (l : ContainerLeaf) → leaf_at block ≡ Ok l → word_at 0 block ≡ 0x4656434c45414630
unfolding leaf_in
leaf_mark block l e = in_one 0x4656434c45414630 (word_at 0 block) (both_fine _ _ (was_fine (verdicts (leaf_fields greatest_kind) block) _ l e)).0

inner_mark : (block : List ℕ) (n : ContainerInner) → inner_at block ≡ Ok n → word_at 0 block ≡ 0x465643494e4e4552
unfolding inner_at
inner_mark block n e = in_one 0x465643494e4e4552 (word_at 0 block) (both_fine _ _ (was_fine (verdicts inner_fields block) _ n e)).0

-- ---- positions

-- What the verdict of a position says of the block there.
pub leaf_says : (number : ℕ) (block : List ℕ) → node_verdict 0 number block ≡ Ok tt → (l : ContainerLeaf) × (leaf_at block ≡ Ok l) × (l.index ≡ number)
unfolding leaf_for
leaf_says number block e = let w = well_judged (leaf_at block) (λ l. in_range number number l.index) e in (w.0, w.1, in_one number w.0.index w.2)

pub inner_says : (level number : ℕ) (block : List ℕ) → node_verdict (suc level) number block ≡ Ok tt → (n : ContainerInner) × (inner_at block ≡ Ok n) × (n.level ≡ suc level) × (n.place ≡ number)
unfolding inner_for
inner_says level number block e =
    let w = well_judged (inner_at block) (λ n. in_range (suc level) (suc level) n.level then in_range number number n.place) e in
    let both = both_fine _ _ w.2 in
    (w.0, w.1, in_one (suc level) w.0.level both.0, in_one number w.0.place both.1)

-- The node of a position has its shape,
pub has_shape : (level number : ℕ) (block : List ℕ) → node_verdict level number block ≡ Ok tt → node_shape level block ≡ Ok tt
has_shape zero number block e = ap verdict_of (leaf_says number block e).1
has_shape (suc level) number block e = ap verdict_of (inner_says level number block e).1

-- and so have all nodes of a whole tree.
pub shaped_when_whole : (i : Image) (root height entries : ℕ) → IsWholeTree i root height entries → IsShapedTree i root height entries
shaped_when_whole i root height entries whole = record {
  nodes = λ level number low within some. has_shape level number (i (node_of i root height level number)) (whole.nodes level number low within some);
}

not_both : (block : List ℕ) (level number other : ℕ) → node_verdict 0 number block ≡ Ok tt → node_verdict (suc level) other block ≡ Ok tt → ⊥
not_both block level number other leaf inner =
    let a = leaf_says number block leaf in
    let b = inner_says level other block inner in
    omega (arith, leaf_mark block a.0 a.1, inner_mark block b.0 b.1)

-- A block is the node of one position at most.
pub one_position : (block : List ℕ) (level number high other : ℕ) → node_verdict level number block ≡ Ok tt → node_verdict high other block ≡ Ok tt → (level ≡ high) × (number ≡ other)
one_position block zero number zero other first second =
    let a = leaf_says number block first in
    let b = leaf_says other block second in
    (refl, sym a.2 ∙ ap (λ (l : ContainerLeaf). l.index) (same_value (sym a.1 ∙ b.1)) ∙ b.2)
  where
    same_value : {x y : ContainerLeaf} → ◌≡◌ {A = Result ContainerLeaf Shape} (Ok x) (Ok y) → x ≡ y
    same_value e = cc
one_position block zero number (suc high) other first second = absurd (not_both block high number other first second)
one_position block (suc level) number zero other first second = absurd (not_both block level other number second first)
one_position block (suc level) number (suc high) other first second =
    let a = inner_says level number block first in
    let b = inner_says high other block second in
    let same : a.0 ≡ b.0 = same_value (sym a.1 ∙ b.1) in
    (sym a.2 ∙ ap (λ (n : ContainerInner). n.level) same ∙ b.2, sym a.3 ∙ ap (λ (n : ContainerInner). n.place) same ∙ b.3)
  where
    same_value : {x y : ContainerInner} → ◌≡◌ {A = Result ContainerInner Shape} (Ok x) (Ok y) → x ≡ y
    same_value e = cc

-- Distinct positions of a whole tree have distinct blocks.
pub nodes_once : (i : Image) (root height entries : ℕ) → IsWholeTree i root height entries → (level number high other : ℕ) → level ≤ height → number < level_width entries level → high ≤ height → other < level_width entries high
    → node_of i root height level number ≢ 0 → node_of i root height level number ≡ node_of i root height high other → (level ≡ high) × (number ≡ other)
nodes_once i root height entries whole level number high other low within low' within' some same =
    one_position (i (node_of i root height level number)) level number high other (whole.nodes level number low within some)
    (subst (λ (p : ℕ). node_verdict high other (i p) ≡ Ok tt) (sym same) (whole.nodes high other low' within' (λ none. some (same ∙ none))))
