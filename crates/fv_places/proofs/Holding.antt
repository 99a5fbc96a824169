-- What stands in a block that was made blank, or that was searched, in the words of the laws of places.
use Rattle.std.proofs.Common.{◌≡◌, ◌≢◌, ℕ, zero, suc, ◌<◌, ◌≤◌, Bool, true, false, not, ◌&&◌, List, [], ◌∷◌, map, length, get_or, Result, Ok, refl, sym, ap, subst, ◌∙◌, arith}
use Rattle.std.specs.Prelude.{Option, Some, None, ◌==◌}
use Rattle.std.specs.List.{list_any}
use Rattle.std.proofs.lemmas.Bool.Decides.{nat_tests}
use Rattle.std.proofs.lemmas.List.{length-map}
use Rattle.fv_codec.specs.declared.shape.Shape.{Shape}
use Rattle.fv_codec.specs.declared.form.Form.{Form}
use Rattle.fv_codec.specs.declared.form.Form.TheVariants.{Node as OfNode, Inodes as OfInodes}
use Rattle.fv_codec.specs.declared.pointer.Pointer.{Pointer}
use Rattle.fv_codec.specs.declared.node.Node.{Node}
use Rattle.fv_codec.specs.declared.inode.InodeRecord.{InodeRecord}
use Rattle.fv_codec.specs.declared.inode.InodeBlock.{InodeBlock}
use Rattle.fv_codec.specs.Fields.{verdicts, up_to}
use Rattle.fv_codec.specs.Blocks.{greatest_word, pointer_of, node_fields, node_at, IsInodeRecord}
use Rattle.fv_codec.proofs.Ranges.{reading_ok}
use Rattle.fv_codec.proofs.Decoded.{inodes_in_range}
use Rattle.fv_codec.proofs.Renewed.{sixteen_of}
use Rattle.fv_tables.specs.Spelled.{hole, pointers_of, pointers_in}
use Rattle.fv_tables.specs.Told.{records_of, records_in, free_record}
use Rattle.fv_tables.specs.Alike.{hintless, hintless_record}
use Rattle.fv_image.specs.Views.{Placed}
use Rattle.fv_image.specs.HintRules.{is_unknown}
use Rattle.fv_image.proofs.WellNodes.{length_items}
use Rattle.fv_places.specs.Inside.{StandsIn, IsBlank, HoldsUnknown}
use Rattle.fv_places.specs.ByKind.{form_of, shape_in, pointers_by}
use Rattle.fv_places.specs.Changed.{Blanks, are_blank, is_blank}
use Rattle.fv_places.specs.Firsts.{IsFirstAt}
use Rattle.fv_places.proofs.Fitting.{root_got}
use Rattle.fv_places.proofs.Leaf.{unknown_got}
use Rattle.fv_places.proofs.Forms.{node_kind, inode_kind, inside_by, node_read, inodes_read}
use Rattle.fv_places.proofs.Positions.{read_node, read_inodes}

-- ---- the pointers of a changed block

abbrev roots : List InodeRecord → List Pointer
roots rs = map (λ (r : InodeRecord). r.root) rs

roots_blank : (rs : List InodeRecord) → roots (map hintless_record rs) ≡ map hintless (roots rs)
roots_blank [] = refl
roots_blank (r ∷ rs) = ap (λ (ps : List Pointer). hintless r.root ∷ ps) (roots_blank rs)

-- A blank block has the pointers of the block, each without its place.
pub blank_inside : (f : Option Form) (b c : List ℕ) → shape_in f b ≡ Ok tt → Blanks f b c → pointers_by f c ≡ map hintless (pointers_by f b)
unfolding records_in
blank_inside None b c shaped blanks = refl
blank_inside (Some OfNode) b c shaped blanks = let r = node_read b shaped in
    ap pointers_of (read_node b _ r.0 blanks r.1) ∙ sym (ap (λ (x : Result Node Shape). map hintless (pointers_of x)) r.1)
blank_inside (Some OfInodes) b c shaped blanks = let r = inodes_read b shaped in
    ap (λ (x : Result InodeBlock Shape). roots (records_of x)) (read_inodes b _ r.0 blanks r.1) ∙ roots_blank r.0.files
    ∙ sym (ap (λ (x : Result InodeBlock Shape). map hintless (roots (records_of x))) r.1)

-- ---- blank

hintless_blank : (ps : List Pointer) → are_blank (map hintless ps) ≡ true
hintless_blank [] = refl
hintless_blank (p ∷ ps) = hintless_blank ps

pub blanks_blank : (f : Option Form) (b c : List ℕ) → shape_in f b ≡ Ok tt → Blanks f b c → is_blank f c ≡ true
blanks_blank f b c shaped blanks = ap are_blank (blank_inside f b c shaped blanks) ∙ hintless_blank (pointers_by f b)

blank_got : (ps : List Pointer) (i : ℕ) → are_blank ps ≡ true → (get_or ps i hole).pvbn ≡ 0
blank_got [] zero blank = refl
blank_got [] (suc i) blank = refl
blank_got (p ∷ ps) zero blank = so (p.pvbn == 0) refl blank
  where
    so : (z : Bool) → (p.pvbn == 0) ≡ z → (z && are_blank ps) ≡ true → p.pvbn ≡ 0
    so true is both = grind (arith, nat_tests)
    so false is both = absurd cc
blank_got (p ∷ ps) (suc i) blank = blank_got ps i (so (p.pvbn == 0) blank)
  where
    so : (z : Bool) → (z && are_blank ps) ≡ true → are_blank ps ≡ true
    so true both = both
    so false both = absurd cc

-- A block of a table in which no place is known is blank.
pub blank_placed : (x : Placed) → 1 ≤ x.kind → x.kind ≤ 7 → is_blank (form_of x.kind) x.block ≡ true → IsBlank x
blank_placed x low high blank q stands =
    ap (λ (p : Pointer). p.pvbn) stands.1 ∙ ap (λ (ps : List Pointer). (get_or ps stands.0 hole).pvbn) (inside_by x low high)
    ∙ blank_got (pointers_by (form_of x.kind) x.block) stands.0 blank

-- ---- searched

-- Where no pointer of a block of a table is unknown, each that isn't a hole tells a place.
pub all_known : (x : Placed) → 1 ≤ x.kind → x.kind ≤ 7 → list_any is_unknown (pointers_by (form_of x.kind) x.block) ≡ false
    → (q : Pointer) → StandsIn x q → q.stamp ≢ 0 → q.pvbn ≢ 0
all_known x low high none q stands some nil =
    known q.stamp q.pvbn (ap is_unknown (stands.1 ∙ ap (λ (ps : List Pointer). get_or ps stands.0 hole) (inside_by x low high))
    ∙ unknown_got (pointers_by (form_of x.kind) x.block) stands.0 none) some nil
  where
    known : (stamp pvbn : ℕ) → (not (stamp == 0) && (pvbn == 0)) ≡ false → stamp ≢ 0 → pvbn ≢ 0
    known stamp pvbn test some nil =
        let a : (stamp == 0) ≡ false = grind (arith, nat_tests) in
        let b : (pvbn == 0) ≡ true = grind (arith, nat_tests) in
        let t : (not (stamp == 0) && (pvbn == 0)) ≡ true = rw (a, b) refl in absurd cc

-- a node has 128 pointers
children_of : (b : List ℕ) (n : Node) → node_at b ≡ Ok n → length n.children ≡ 128
unfolding node_at
children_of b n at = ap (λ (x : Node). length x.children) (sym (reading_ok (verdicts node_fields b) _ n at).1) ∙ length_items 128 24 pointer_of _

-- a free record has no root
used_root : (r : InodeRecord) → IsInodeRecord r → is_unknown r.root ≡ true → (r.name_length == 0) ≡ false
used_root r is unknown = so (r.name_length == 0) refl
  where
    stamp : (z : Bool) → (r.name_length == 0) ≡ z → r.root.stamp ≤ up_to (not z) greatest_word
    stamp z e = subst (λ (y : Bool). r.root.stamp ≤ up_to (not y) greatest_word) e is.root.stamp

    so : (z : Bool) → (r.name_length == 0) ≡ z → z ≡ false
    so false e = refl
    so true e =
        let none : (r.root.stamp == 0) ≡ true = let le = stamp true e in grind (arith, nat_tests) in
        let no : is_unknown r.root ≡ false = rw none refl in
        absurd cc

-- A block of a table with an unknown pointer at an index holds one, as the moving rule asks.
pub holds_unknown : (x : Placed) (i : ℕ) → length x.block ≡ 4096 → shape_in (form_of x.kind) x.block ≡ Ok tt
    → i < length (pointers_by (form_of x.kind) x.block) → is_unknown (get_or (pointers_by (form_of x.kind) x.block) i hole) ≡ true
    → HoldsUnknown x
unfolding records_in
holds_unknown x i long shaped within unknown = by (form_of x.kind) refl shaped within unknown
  where
    by : (f : Option Form) → form_of x.kind ≡ f → shape_in f x.block ≡ Ok tt → i < length (pointers_by f x.block)
        → is_unknown (get_or (pointers_by f x.block) i hole) ≡ true → HoldsUnknown x
    by None is shaped within unknown = absurd (omega (arith, within))
    by (Some OfNode) is shaped within unknown =
        let k = node_kind x.kind is in
        let r = node_read x.block shaped in
        let all : length (pointers_in (Some x.block)) ≡ 128 = ap (λ (y : Result Node Shape). length (pointers_of y)) r.1 ∙ children_of x.block r.0 r.1 in
        record {
          not_data = k.0;
          node = λ five. (i, (omega (arith, within, all), unknown));
          inode = λ five. absurd (k.1 five);
        }
    by (Some OfInodes) is shaped within unknown =
        let k = inode_kind x.kind is in
        let r = inodes_read x.block shaped in
        let range = inodes_in_range x.block (Ok r.0) long (sym r.1) in
        let all : length (records_in (Some x.block)) ≡ 16 =
        ap (λ (y : Result InodeBlock Shape). length (records_of y)) r.1 ∙ sixteen_of x.block r.0 r.1 in
        let low : i < length (records_in (Some x.block)) = omega (arith, within, length-map (records_in (Some x.block)) (λ (z : InodeRecord). z.root)) in
        let there : is_unknown (get_or (records_in (Some x.block)) i free_record).root ≡ true =
        ap is_unknown (root_got (records_in (Some x.block)) i) ∙ unknown in
        let fine : IsInodeRecord (get_or (records_in (Some x.block)) i free_record) =
        subst (λ (y : Result InodeBlock Shape). IsInodeRecord (get_or (records_of y) i free_record)) (sym r.1)
        (range.files i free_record (omega (arith, low, all, sixteen_of x.block r.0 r.1))) in
        record {
          not_data = λ one. absurd (omega (arith, one, k));
          node = λ five. absurd (five k);
          inode = λ five. (i, (omega (arith, low, all), (there, used_root _ fine there)));
        }

-- the first unknown pointer is such a one
pub first_holds : (x : Placed) (from : ℕ) (f : ℕ × Pointer) → length x.block ≡ 4096 → shape_in (form_of x.kind) x.block ≡ Ok tt
    → IsFirstAt (pointers_by (form_of x.kind) x.block) from f → HoldsUnknown x
first_holds x from f long shaped first =
    holds_unknown x f.0 long shaped first.within (ap is_unknown first.stands ∙ first.unknown)
