-- What is found in an image is determined by it.
use Rattle.std.proofs.Common.{◌≡◌, ℕ, ◌<◌, ◌⊎◌, Bool, refl, sym, ap, ap₂, ◌∙◌, inl, inr, ⊎_elim, arith, Ok, Err, Result}
use Rattle.std.specs.Prelude.{Option, Some, None, IsErr, IsOk}
use Rattle.std.proofs.lemmas.Bool.{cases_lt}
use Rattle.fv_disk.specs.Shown.{Image}
use Rattle.fv_codec.specs.declared.shape.Shape.{Shape}
use Rattle.fv_codec.specs.declared.superblock.Super.{Super}
use Rattle.fv_codec.specs.declared.root.Root.{Root}
use Rattle.fv_codec.specs.Blocks.{super_at, gate_open}
use Rattle.fv_image.specs.Layout.{superblock, gate_place, root_place}
use Rattle.fv_image.specs.NewerRoot.{Taken, behind, newer, taken_of, root_of}
use Rattle.fv_root.specs.declared.find.Found.{Found}
use Rattle.fv_root.specs.declared.find.RootFault.{RootFault}
use Rattle.fv_root.specs.declared.find.RootFault.TheVariants.{DiskFault, NotAggregate, Damaged}
use Rattle.fv_root.specs.Finding.{Finds, IsDamaged, IsFound, IsNoAggregate, other_slot, root_found}
use Rattle.fv_root.proofs.Rooted.{closed}

-- no root counts where none can be read, or where one behind an open gate has no shape

pub none_counts : (i : Image) → IsNoAggregate i → root_of i ≡ None
unfolding root_of
none_counts i is = ⊎_elim (λ e. no_super (super_at (i superblock)) e) (λ shut. rw (closed i 0 shut.0, closed i 1 shut.1) (no_root (super_at (i superblock)))) is
  where
    no_super : (super : Result Super Shape) → IsErr super → taken_of super (newer (behind i 0) (behind i 1)) ≡ None
    no_super (Ok super) e = absurd cc
    no_super (Err fault) e = refl

    no_root : (super : Result Super Shape) → taken_of super None ≡ None
    no_root (Ok super) = refl
    no_root (Err fault) = refl

fault_first : (second : Option (Result Root Shape)) (fault : Shape) → newer (Some (Err fault)) second ≡ None
fault_first None fault = refl
fault_first (Some second) fault = refl

fault_second : (first : Option (Result Root Shape)) (fault : Shape) → newer first (Some (Err fault)) ≡ None
fault_second None fault = refl
fault_second (Some (Ok root)) fault = refl
fault_second (Some (Err other)) fault = refl

pub damaged_counts : (i : Image) (at want found : ℕ) → IsDamaged i at want found → root_of i ≡ None
unfolding root_of
damaged_counts i at want found is = ⊎_elim
    (λ (low : is.slot < 1).
    let e : is.slot ≡ 0 = omega arith in
    let one : behind i 0 ≡ Some (Err shape) = ap (behind i) (sym e) ∙ is.fault in
    rw (one, fault_first (behind i 1) shape) (no_root (super_at (i superblock))))
    (λ high.
    let e : is.slot ≡ 1 = omega (arith, high, is.within) in
    let two : behind i 1 ≡ Some (Err shape) = ap (behind i) (sym e) ∙ is.fault in
    rw (two, fault_second (behind i 0) shape) (no_root (super_at (i superblock))))
    (cases_lt is.slot 1)
  where
    shape : Shape
    shape = record { want = want; found = found }

    no_root : (super : Result Super Shape) → taken_of super None ≡ None
    no_root (Ok super) = refl
    no_root (Err fault) = refl

not_both : (i : Image) (at want found : ℕ) → IsNoAggregate i → IsDamaged i at want found → ⊥
not_both i at want found none is = ⊎_elim
    (λ e. super_both (super_at (i superblock)) e is.super)
    (λ shut. ⊎_elim
    (λ (low : is.slot < 1). let e : is.slot ≡ 0 = omega arith in open_both (behind i 0) (closed i 0 shut.0) (ap (behind i) (sym e) ∙ is.fault))
    (λ high. let e : is.slot ≡ 1 = omega (arith, high, is.within) in open_both (behind i 1) (closed i 1 shut.1) (ap (behind i) (sym e) ∙ is.fault))
    (cases_lt is.slot 1))
    none
  where
    super_both : (super : Result Super Shape) → IsErr super → IsOk super → ⊥
    super_both (Ok super) e o = absurd cc
    super_both (Err fault) e o = absurd cc

    open_both : (there : Option (Result Root Shape)) → there ≡ None → there ≡ Some (Err (record { want = want; found = found })) → ⊥
    open_both None e o = absurd cc
    open_both (Some root) e o = absurd cc

none_is_some : (i : Image) (t : Taken) → root_of i ≡ None → root_of i ≡ Some t → ⊥
none_is_some i t none some = so (root_of i) none some
  where
    so : (there : Option Taken) → there ≡ None → there ≡ Some t → ⊥
    so None e o = absurd cc
    so (Some u) e o = absurd cc

-- ---- of two answers that don't tell of a failed read both are the same

same_taken : (t u : Taken) → ◌≡◌ {A = Option Taken} (Some t) (Some u) → t ≡ u
same_taken t u e = cc

same_found : (i : Image) (f g : Found) → IsFound i f → IsFound i g → f ≡ g
same_found i f g one two =
    let same : root_found f ≡ root_found g = same_taken (root_found f) (root_found g) (sym one.root ∙ two.root) in
    let slot : f.slot ≡ g.slot = ap (λ (t : Taken). t.slot) same in
    let older : f.older_open ≡ g.older_open = sym one.older ∙ ap (λ (n : ℕ). gate_open (i (gate_place (other_slot n)))) slot ∙ two.older in
    ap₂ (λ (t : Taken) (o : Bool). let w : Found = record { blocks = t.blocks; slot = t.slot; root = t.root; older_open = o } in w) same older

same_shape : (a b c d : ℕ) → ◌≡◌ {A = Option (Result Root Shape)} (Some (Err (record { want = a; found = b }))) (Some (Err (record { want = c; found = d }))) → (a ≡ c) × (b ≡ d)
same_shape a b c d e =
    let x : Shape = record { want = a; found = b } in
    let y : Shape = record { want = c; found = d } in
    let same : x ≡ y = cc in
    (ap (λ (s : Shape). s.want) same, ap (λ (s : Shape). s.found) same)

same_damage : (i : Image) (at want found at2 want2 found2 : ℕ) → IsDamaged i at want found → IsDamaged i at2 want2 found2 → Damaged at want found ≡ Damaged at2 want2 found2
same_damage i at want found at2 want2 found2 one two =
    let not_less : one.slot < two.slot → ⊥ = λ less. two.first one.slot _ less one.fault in
    let not_more : two.slot < one.slot → ⊥ = λ more. one.first two.slot _ more two.fault in
    let slot : one.slot ≡ two.slot = order one.slot two.slot not_less not_more in
    let shape = same_shape want found want2 found2 (sym one.fault ∙ ap (behind i) slot ∙ two.fault) in
    let place : at ≡ at2 = one.place ∙ ap root_place slot ∙ sym two.place in
    rw (place, shape.0, shape.1) refl
  where
    order : (m n : ℕ) → (m < n → ⊥) → (n < m → ⊥) → m ≡ n
    order m n less more = ⊎_elim (λ l. absurd (less l)) (λ ge. ⊎_elim (λ g. absurd (more g)) (λ le. omega (arith, ge, le)) (cases_lt n m)) (cases_lt m n)

abbrev IsDiskFault : Result Found RootFault → Type 0
IsDiskFault r = r ≡ Err DiskFault

-- an image has one answer, but for a failed read
pub one_answer : (i : Image) (r s : Result Found RootFault) → Finds i r → Finds i s → IsDiskFault r ⊎ (IsDiskFault s ⊎ (r ≡ s))
one_answer i (Err DiskFault) s one two = inl refl
one_answer i (Ok f) (Err DiskFault) one two = inr (inl refl)
one_answer i (Ok f) (Ok g) one two = inr (inr (ap (λ (x : Found). let w : Result Found RootFault = Ok x in w) (same_found i f g one two)))
one_answer i (Ok f) (Err NotAggregate) one two = absurd (none_is_some i (root_found f) (none_counts i two) one.root)
one_answer i (Ok f) (Err (Damaged at want found)) one two = absurd (none_is_some i (root_found f) (damaged_counts i at want found two) one.root)
one_answer i (Err NotAggregate) (Err DiskFault) one two = inr (inl refl)
one_answer i (Err NotAggregate) (Ok g) one two = absurd (none_is_some i (root_found g) (none_counts i one) two.root)
one_answer i (Err NotAggregate) (Err NotAggregate) one two = inr (inr refl)
one_answer i (Err NotAggregate) (Err (Damaged at want found)) one two = absurd (not_both i at want found one two)
one_answer i (Err (Damaged at want found)) (Err DiskFault) one two = inr (inl refl)
one_answer i (Err (Damaged at want found)) (Ok g) one two = absurd (none_is_some i (root_found g) (damaged_counts i at want found one) two.root)
one_answer i (Err (Damaged at want found)) (Err NotAggregate) one two = absurd (not_both i at want found two one)
one_answer i (Err (Damaged at want found)) (Err (Damaged at2 want2 found2)) one two = inr (inr (ap (λ (x : RootFault). let w : Result Found RootFault = Err x in w) (same_damage i at want found at2 want2 found2 one two)))
