-- Pointers and records of which no place is known stay as they are where places are taken out.
use Rattle.std.proofs.Common.{◌≡◌, ℕ, ◌+◌, ◌<◌, true, false, Bool, ◌&&◌, List, [], ◌∷◌, ◌++◌, map, length, set, take, drop, get_or, Result, Ok, refl, sym, ap, subst, ◌∙◌, arith}
use Rattle.std.specs.Prelude.{◌==◌, Some, IfOk}
use Rattle.std.proofs.lemmas.Bool.Decides.{nat_tests}
use Rattle.std.proofs.lemmas.List.{get_or_default}
use Rattle.std.proofs.lemmas.List.Edits.{map_over_more}
use Rattle.fv_codec.specs.declared.shape.Shape.{Shape}
use Rattle.fv_codec.specs.declared.form.Form.TheVariants.{Inodes as OfInodes}
use Rattle.fv_codec.specs.declared.pointer.Pointer.{Pointer}
use Rattle.fv_codec.specs.declared.node.Node.{Node}
use Rattle.fv_codec.specs.declared.inode.InodeRecord.{InodeRecord}
use Rattle.fv_codec.specs.declared.inode.InodeBlock.{InodeBlock}
use Rattle.fv_codec.specs.Blocks.{node_at, inodes_at}
use Rattle.fv_tables.specs.Told.{records_of, records_in}
use Rattle.fv_tables.specs.Alike.{hintless, hintless_record}
use Rattle.fv_places.specs.Changed.{with_children, with_files, hintless_node, hintless_inodes, are_blank, is_blank}

-- one more step of a loop that changes each element
pub map_next : {X : Type 0} (f : X → X) (xs ys : List X) (i : ℕ) (d : X) → i < length xs → i < length ys
    → ys ≡ map f (take i xs) ++ drop i xs → set ys i (f (get_or ys i d)) ≡ map f (take (i + 1) xs) ++ drop (i + 1) xs
map_next f xs ys i d lt low so = map_over_more f xs ys i (get_or ys i d) lt so (get_or_default ys i d (get_or ys i d) low)

same_pointer : (p : Pointer) → p.pvbn ≡ 0 → hintless p ≡ p
same_pointer p zero = λ i. record { vvbn = p.vvbn; pvbn = sym zero i; stamp = p.stamp }

same_record : (r : InodeRecord) → r.root.pvbn ≡ 0 → hintless_record r ≡ r
same_record r zero = λ i. record {
  name_length = r.name_length;
  name = r.name;
  length = r.length;
  reserve = r.reserve;
  levels = r.levels;
  root = same_pointer r.root zero i;
}

-- both parts of a test
both : (a b : Bool) → (a && b) ≡ true → (a ≡ true) × (b ≡ true)
both true b is = (refl, is)
both false b is = absurd cc

zero_is : (n : ℕ) → (n == 0) ≡ true → n ≡ 0
zero_is n test = grind (arith, nat_tests)

pub blank_pointers : (ps : List Pointer) → are_blank ps ≡ true → map hintless ps ≡ ps
blank_pointers [] blank = refl
blank_pointers (p ∷ ps) blank =
    let s = both (p.pvbn == 0) (are_blank ps) blank in
    let first = same_pointer p (zero_is p.pvbn s.0) in
    let rest = blank_pointers ps s.1 in
    λ i. first i ∷ rest i

pub blank_records : (rs : List InodeRecord) → are_blank (map (λ (r : InodeRecord). r.root) rs) ≡ true → map hintless_record rs ≡ rs
blank_records [] blank = refl
blank_records (r ∷ rs) blank =
    let s = both (r.root.pvbn == 0) (are_blank (map (λ (x : InodeRecord). x.root) rs)) blank in
    let first = same_record r (zero_is r.root.pvbn s.0) in
    let rest = blank_records rs s.1 in
    λ i. first i ∷ rest i

-- so such a node, and such an inode block, is what it is without places
pub node_stays : (b : List ℕ) (n : Node) → node_at b ≡ Ok n → are_blank n.children ≡ true
    → IfOk (node_at b) (λ m. node_at b ≡ Ok (hintless_node m))
node_stays b n at blank = subst (λ (r : Result Node Shape). IfOk r (λ m. node_at b ≡ Ok (hintless_node m))) (sym at)
    (at ∙ ap (λ (ps : List Pointer). Ok (with_children n ps)) (sym (blank_pointers n.children blank)))

pub inodes_stay : (b : List ℕ) (n : InodeBlock) → inodes_at b ≡ Ok n → are_blank (map (λ (r : InodeRecord). r.root) n.files) ≡ true
    → IfOk (inodes_at b) (λ m. inodes_at b ≡ Ok (hintless_inodes m))
inodes_stay b n at blank = subst (λ (r : Result InodeBlock Shape). IfOk r (λ m. inodes_at b ≡ Ok (hintless_inodes m))) (sym at)
    (at ∙ ap (λ (rs : List InodeRecord). Ok (with_files n rs)) (sym (blank_records n.files blank)))

-- what a blank inode block says of its roots
pub roots_blank : (b : List ℕ) (n : InodeBlock) → inodes_at b ≡ Ok n → is_blank (Some OfInodes) b ≡ true
    → are_blank (map (λ (r : InodeRecord). r.root) n.files) ≡ true
unfolding records_in
roots_blank b n at blank =
    sym (ap (λ (r : Result InodeBlock Shape). are_blank (map (λ (f : InodeRecord). f.root) (records_of r))) at) ∙ blank
