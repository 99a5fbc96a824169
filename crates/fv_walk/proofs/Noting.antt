-- What calls that note lines say together.
use Rattle.std.proofs.Common.{◌≡◌, ◌≢◌, ℕ, zero, suc, ◌+◌, ◌-◌, ◌<◌, ◌≤◌, Bool, true, false, List, [], ◌∷◌, ◌++◌, length, get_or, take, refl, sym, ap, subst, ◌∙◌, arith}
use Rattle.std.specs.Prelude.{Ok, Err, nat_lt, flat_map, ◌&&◌, ◌==◌, if◌then◌else◌}
use Rattle.std.specs.List.{All}
use Rattle.std.proofs.lemmas.List.{append-nil, take_more}
use Rattle.std.proofs.lemmas.List.Concat.{flat_map-append}
use Rattle.std.proofs.lemmas.Bool.Decides.{nat_tests}
use Rattle.fv_codec.specs.declared.pointer.Pointer.{Pointer}
use Rattle.fv_model.specs.Machines.{first_block}
use Rattle.fv_faults.specs.declared.fault.Fault.{Fault}
use Rattle.fv_faults.specs.declared.lines.Lines.{Lines}
use Rattle.fv_faults.specs.Lines.{line, says, unless, within, leads}
use Rattle.fv_faults.specs.Adding.{Adds}
use Rattle.fv_faults.specs.Walks.{pointer_lines}
use Rattle.fv_faults.proofs.Adding.{adds_none, adds_then}
use Rattle.fv_faults.proofs.Clean.{parts_nil}
use Rattle.fv_walk.specs.declared.limits.Limits.{Limits}
use Rattle.fv_walk.specs.declared.visit.Visit.{Visit}
use Rattle.fv_walk.specs.Noting.{is_none, AddsAll}
use Rattle.fv_walk.specs.Blocks.{IsInRange}

pub none_of_both : (first second : List Fault) → is_none (first ++ second) ≡ (is_none first && is_none second)
none_of_both [] second = refl
none_of_both (f ∷ fs) second = refl

pub none : (lines : Lines) → AddsAll [] lines lines true
none lines = record { adds = adds_none lines lines refl; clean = refl }

-- lines that are noted, and then others
pub both : (first second : List Fault) (old mid new : Lines) (one two : Bool) → AddsAll first old mid one → AddsAll second mid new two → AddsAll (first ++ second) old new (one && two)
both first second old mid new one two before after = record {
  adds = adds_then first second old mid new before.adds after.adds;
  clean = ap (λ b. b && two) before.clean ∙ ap (λ b. is_none first && b) after.clean ∙ sym (none_of_both first second);
}

pub none_is : (ls : List Fault) → is_none ls ≡ true → ls ≡ []
none_is [] e = refl
none_is (f ∷ fs) e = absurd cc

pub some_is : (ls : List Fault) → is_none ls ≡ false → ls ≢ []
some_is [] e = absurd cc
some_is (f ∷ fs) e = λ same. cc

-- ---- what one number says

one : (line : Fault) (old new : Lines) → Adds (line ∷ []) old new → AddsAll (line ∷ []) old new false
one line old new adds = record { adds = adds; clean = refl }

pub unless_good : (good : Bool) (fault : Fault) (lines : Lines) → good ≡ true → AddsAll (unless good fault) lines lines true
unless_good good fault lines test = subst (λ b. AddsAll (unless b fault) lines lines true) (sym test) (none lines)

pub unless_bad : (good : Bool) (fault : Fault) (old new : Lines) → good ≡ false → Adds (fault ∷ []) old new → AddsAll (unless good fault) old new false
unless_bad good fault old new test adds = subst (λ b. AddsAll (unless b fault) old new false) (sym test) (one fault old new adds)

module _ (block least greatest found : ℕ) where
  abbrev by : Bool → Bool → List Fault
  by low high = says 2 block (if low then Err (record { want = least; found = found }) else if high then Err (record { want = greatest; found = found }) else Ok tt)

  within_is : (low high : Bool) → nat_lt found least ≡ low → nat_lt greatest found ≡ high → within block least greatest found ≡ by low high
  within_is low high a b = ap (λ l. by l (nat_lt greatest found)) a ∙ ap (by low) b

  pub within_low : (old new : Lines) → found < least → Adds (line 2 block least found ∷ []) old new → AddsAll (within block least greatest found) old new false
  within_low old new low adds =
      let test : nat_lt found least ≡ true = grind (arith, nat_tests, low) in
      subst (λ ls. AddsAll ls old new false) (sym (within_is true (nat_lt greatest found) test refl)) (one (line 2 block least found) old new adds)

  pub within_high : (old new : Lines) → least ≤ found → greatest < found → Adds (line 2 block greatest found ∷ []) old new → AddsAll (within block least greatest found) old new false
  within_high old new low high adds =
      let a : nat_lt found least ≡ false = grind (arith, nat_tests, low) in
      let b : nat_lt greatest found ≡ true = grind (arith, nat_tests, high) in
      subst (λ ls. AddsAll ls old new false) (sym (within_is false true a b)) (one (line 2 block greatest found) old new adds)

  pub within_fine : (lines : Lines) → least ≤ found → found ≤ greatest → AddsAll (within block least greatest found) lines lines true
  within_fine lines low high =
      let a : nat_lt found least ≡ false = grind (arith, nat_tests, low) in
      let b : nat_lt greatest found ≡ false = grind (arith, nat_tests, high) in
      subst (λ ls. AddsAll ls lines lines true) (sym (within_is false false a b)) (none lines)

-- ---- what a pointer says

module _ (blocks span block : ℕ) (p : Pointer) where
  abbrev pub known_lines : List Fault
  known_lines = if p.pvbn == 0 then [] else leads blocks block p.pvbn

  pub known_none : (lines : Lines) → p.pvbn ≡ 0 → AddsAll known_lines lines lines true
  known_none lines unknown =
      let test : (p.pvbn == 0) ≡ true = grind (arith, nat_tests, unknown) in
      subst (λ (b : Bool). AddsAll (if b then [] else leads blocks block p.pvbn) lines lines true) (sym test) (none lines)

  pub known_some : (first : ℕ) (old new : Lines) (clean : Bool) → p.pvbn ≢ 0 → first ≡ first_block blocks → AddsAll (within block first (blocks - 1) p.pvbn) old new clean
      → AddsAll known_lines old new clean
  known_some first old new clean known same adds =
      let test : (p.pvbn == 0) ≡ false = grind (arith, nat_tests, known) in
      subst (λ (b : Bool). AddsAll (if b then [] else leads blocks block p.pvbn) old new clean) (sym test)
      (subst (λ f. AddsAll (within block f (blocks - 1) p.pvbn) old new clean) same adds)

  pub hole_says : (lines : Lines) → p.stamp ≡ 0 → AddsAll (pointer_lines blocks span block p) lines lines true
  hole_says lines free =
      let test : (p.stamp == 0) ≡ true = grind (arith, nat_tests, free) in
      subst (λ (b : Bool). AddsAll (if b then [] else within block 0 (span - 1) p.vvbn ++ known_lines) lines lines true) (sym test) (none lines)

  pub pointer_says : (old mid new : Lines) (below known : Bool) → p.stamp ≢ 0 → AddsAll (within block 0 (span - 1) p.vvbn) old mid below → AddsAll known_lines mid new known
      → AddsAll (pointer_lines blocks span block p) old new (below && known)
  pointer_says old mid new below known used a b =
      let test : (p.stamp == 0) ≡ false = grind (arith, nat_tests, used) in
      subst (λ (t : Bool). AddsAll (if t then [] else within block 0 (span - 1) p.vvbn ++ known_lines) old new (below && known)) (sym test)
      (both (within block 0 (span - 1) p.vvbn) known_lines old mid new below known a b)

-- one element more
pub each_more : {X : Type 0} (f : X → List Fault) (i : ℕ) (d : X) (xs : List X) (old mid new : Lines) (clean kept : Bool) → i < length xs
    → AddsAll (flat_map f (take i xs)) old mid clean → AddsAll (f (get_or xs i d)) mid new kept → AddsAll (flat_map f (take (i + 1) xs)) old new (clean && kept)
each_more f i d xs old mid new clean kept low before here =
    let more : flat_map f (take (i + 1) xs) ≡ flat_map f (take i xs) ++ f (get_or xs i d) =
    ap (flat_map f) (take_more xs i d low) ∙ flat_map-append f (take i xs) (get_or xs i d ∷ []) ∙ ap (λ ls. flat_map f (take i xs) ++ ls) (append-nil (f (get_or xs i d))) in
    subst (λ ls. AddsAll ls old new (clean && kept)) (sym more) (both (flat_map f (take i xs)) (f (get_or xs i d)) old mid new clean kept before here)

-- ---- what no line says of a pointer

-- where the pointers of a block have none, their VVBNs are below the span
pub in_range : (blocks span block : ℕ) (p : Pointer) → 1 ≤ span → pointer_lines blocks span block p ≡ [] → p.stamp ≢ 0 → p.vvbn < span
in_range blocks span block p some none used =
    let test : (p.stamp == 0) ≡ false = grind (arith, nat_tests, used) in
    let silent : within block 0 (span - 1) p.vvbn ++ known_lines blocks span block p ≡ [] =
    sym (ap (λ (t : Bool). if t then [] else within block 0 (span - 1) p.vvbn ++ known_lines blocks span block p) test) ∙ none in
    so (nat_lt (span - 1) p.vvbn) refl (parts_nil (within block 0 (span - 1) p.vvbn) (known_lines blocks span block p) silent).0
  where
    so : (high : Bool) → nat_lt (span - 1) p.vvbn ≡ high → within block 0 (span - 1) p.vvbn ≡ [] → p.vvbn < span
    so false test fine = grind (arith, nat_tests, some, test)
    so true test fine =
        let low : nat_lt p.vvbn 0 ≡ false = grind (arith, nat_tests) in
        absurd (some_is (line 2 block (span - 1) p.vvbn ∷ []) refl (sym (within_is block 0 (span - 1) p.vvbn false true low test) ∙ fine))

-- and so in each place
pub all_in_range : (l : Limits) (block : ℕ) (vs : List Visit) → 1 ≤ l.span → flat_map (λ (v : Visit). pointer_lines l.blocks l.span block v.pointer) vs ≡ [] → All (IsInRange l) vs
all_in_range l block vs some none = each vs none
  where
    says : Visit → List Fault
    says v = pointer_lines l.blocks l.span block v.pointer

    each : (ws : List Visit) → flat_map (λ (v : Visit). pointer_lines l.blocks l.span block v.pointer) ws ≡ [] → (k : ℕ) (d : Visit) → k < length ws → IsInRange l (get_or ws k d)
    each [] silent k d low = absurd (omega (arith, low))
    each (w ∷ ws) silent zero d low = λ used. in_range l.blocks l.span block w.pointer some (parts_nil (says w) (flat_map (λ (v : Visit). pointer_lines l.blocks l.span block v.pointer) ws) silent).0 used
    each (w ∷ ws) silent (suc k) d low = each ws (parts_nil (says w) (flat_map (λ (v : Visit). pointer_lines l.blocks l.span block v.pointer) ws) silent).1 k d (omega (arith, low))

pub middle_holds : (a b c : Bool) → (a && (b && c)) ≡ true → b ≡ true
middle_holds true true c all = refl
middle_holds true false c all = absurd cc
middle_holds false b c all = absurd cc
