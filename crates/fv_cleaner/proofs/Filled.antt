-- Pointers that get their places, and the block that has them.
use Rattle.std.proofs.Common.{◌≡◌, ℕ, ◌<◌, ◌≤◌, Bool, true, false, not, ◌&&◌, List, [], ◌∷◌, length, map, get_or, Result, Ok, refl, sym, ap, subst, ◌∙◌, inl, inr, arith}
use Rattle.std.specs.Prelude.{Option, Some, ◌==◌, IfOk}
use Rattle.std.specs.List.{list_any}
use Rattle.std.proofs.lemmas.Bool.Decides.{nat_tests}
use Rattle.std.proofs.lemmas.List.{ext_get_or, get_or-map, get_or_default, length-map}
use Rattle.fv_codec.specs.declared.shape.Shape.{Shape}
use Rattle.fv_codec.specs.declared.form.Form.{Form}
use Rattle.fv_codec.specs.declared.form.Form.TheVariants.{Node as OfNode, Inodes as OfInodes}
use Rattle.fv_codec.specs.declared.pointer.Pointer.{Pointer}
use Rattle.fv_codec.specs.declared.node.Node.{Node}
use Rattle.fv_codec.specs.declared.inode.InodeRecord.{InodeRecord}
use Rattle.fv_codec.specs.declared.inode.InodeBlock.{InodeBlock}
use Rattle.fv_codec.specs.Fields.{up_to}
use Rattle.fv_codec.specs.Blocks.{greatest_word, pointed, is_used, all_holes, all_free, node_at, inodes_at, IsPointerIf, IsPointer, IsNode, IsInodeRecord, IsInodeBlock}
use Rattle.fv_tables.specs.Spelled.{hole, pointers_of}
use Rattle.fv_tables.specs.Told.{free_record, records_of, records_in}
use Rattle.fv_tables.specs.Alike.{hintless, hintless_record}
use Rattle.fv_image.specs.HintRules.{is_unknown}
use Rattle.fv_places.specs.ByKind.{form_of, shape_in, pointers_by}
use Rattle.fv_places.specs.Changed.{KeepsPosition, with_children, with_files, with_root}
use Rattle.fv_places.proofs.Firsts.{none_any}
use Rattle.fv_places.proofs.Forms.{AlikeAs, says_by}
use Rattle.fv_places.proofs.Positions.{keeps_fine}
use Rattle.fv_cleaner.specs.Filling.{ArePlaced, AreRooted, FillsBlock, FillsUpTo, IsFilledAs}
use Rattle.fv_cleaner.specs.Searching.{Lies}

-- ---- a pointer that got a place

stamp_some : (p : Pointer) → is_unknown p ≡ true → (p.stamp == 0) ≡ false
stamp_some p unknown = by (p.stamp == 0) unknown
  where
    by : (z : Bool) → (not z && (p.pvbn == 0)) ≡ true → z ≡ false
    by true wrong = absurd cc
    by false is = refl

filled_known : (p q : Pointer) → IsFilledAs p q → is_unknown q ≡ false
filled_known p q (inl same) = ap is_unknown same.1 ∙ same.0
filled_known p q (inr gets) =
    let some = gets.some in
    let test : (gets.place == 0) ≡ false = grind (arith, nat_tests) in
    ap is_unknown gets.is ∙ (λ i. not (stamp_some p gets.unknown i) && test i)

filled_alike : (p q : Pointer) → IsFilledAs p q → hintless q ≡ hintless p
filled_alike p q (inl same) = ap hintless same.1
filled_alike p q (inr gets) = ap hintless gets.is

filled_range : (used : Bool) (p q : Pointer) → IsFilledAs p q → IsPointerIf used p → IsPointerIf used q
filled_range used p q (inl same) is = subst (IsPointerIf used) (sym same.1) is
filled_range used p q (inr gets) is =
    subst (IsPointerIf used) (sym gets.is) (record { vvbn = is.vvbn; pvbn = room used is.stamp; stamp = is.stamp })
  where
    some : (p.stamp == 0) ≡ false
    some = stamp_some p gets.unknown

    room : (u : Bool) → p.stamp ≤ up_to u greatest_word → gets.place ≤ pointed u p.stamp
    room true le = rw some gets.fits
    room false le = absurd (let e : (p.stamp == 0) ≡ true = grind (arith, nat_tests) in cc)

-- ---- a list of pointers that got places

module _ (ps qs : List Pointer) (fills : FillsUpTo ps (length ps) qs) where
  all_known : list_any is_unknown qs ≡ false
  all_known = none_any qs (λ i lt. filled_known (get_or ps i hole) (get_or qs i hole) (fills.filled i (omega (arith, lt, fills.count))))

  all_alike : map hintless qs ≡ map hintless ps
  all_alike = ext_get_or hole (map hintless qs) (map hintless ps)
      (length-map qs hintless ∙ fills.count ∙ sym (length-map ps hintless)) (λ i lt.
      let low : i < length qs = omega (arith, lt, length-map qs hintless) in
      let less : i < length ps = omega (arith, low, fills.count) in
      get_or-map hintless qs i hole hole low ∙ filled_alike (get_or ps i hole) (get_or qs i hole) (fills.filled i less)
      ∙ sym (get_or-map hintless ps i hole hole less))

-- what doesn't depend on places
holes_alike : (ps : List Pointer) → all_holes (map hintless ps) ≡ all_holes ps
holes_alike [] = refl
holes_alike (p ∷ ps) = ap (λ (b : Bool). (p.stamp == 0) && b) (holes_alike ps)

free_alike : (rs : List InodeRecord) → all_free (map hintless_record rs) ≡ all_free rs
free_alike [] = refl
free_alike (r ∷ rs) = ap (λ (b : Bool). (r.name_length == 0) && b) (free_alike rs)

-- ---- a block with such pointers, by its form

record FillsAs (f : Option Form) (b c : List ℕ) : Type 0 where
  position : KeepsPosition f b c
  alike : AlikeAs f b c
  count : length (pointers_by f c) ≡ length (pointers_by f b)
  known : list_any is_unknown (pointers_by f c) ≡ false

fills_by : (kind : ℕ) (f : Option Form) (b c : List ℕ) → form_of kind ≡ f → shape_in (form_of kind) b ≡ Ok tt → FillsAs f b c → FillsBlock kind b c
fills_by kind f b c form shaped fills =
    let is = subst (λ (o : Option Form). FillsAs o b c) (sym form) fills in record {
      shaped = keeps_fine (form_of kind) b c shaped is.position;
      position = is.position;
      says = says_by kind b c is.alike;
      count = is.count;
      known = is.known;
    }

-- ---- a node

pub node_range : (n : Node) (qs : List Pointer) → FillsUpTo n.children (length n.children) qs → IsNode n → IsNode (with_children n qs)
node_range n qs fills is = record {
  least = is.least;
  greatest = is.greatest;
  children = λ i d lt. let less : i < length n.children = omega (arith, lt, fills.count) in
      subst IsPointer (get_or_default qs i hole d lt)
      (filled_range true (get_or n.children i hole) (get_or qs i hole) (fills.filled i less) (is.children i hole less));
  some = sym (holes_alike qs) ∙ ap all_holes (all_alike n.children qs fills) ∙ holes_alike n.children ∙ is.some;
}

pub node_fills : (kind : ℕ) (b c : List ℕ) (n : Node) (qs : List Pointer) → form_of kind ≡ Some OfNode → shape_in (form_of kind) b ≡ Ok tt
    → node_at b ≡ Ok n → node_at c ≡ Ok (with_children n qs) → FillsUpTo n.children (length n.children) qs → FillsBlock kind b c
node_fills kind b c n qs form shaped was now fills = fills_by kind (Some OfNode) b c form shaped (record {
  position = subst (λ (r : Result Node Shape). IfOk r (λ m. (ps : List Pointer) × (node_at c ≡ Ok (with_children m ps))))
      (sym was) (qs, now);
  alike = ap (λ (r : Result Node Shape). map hintless (pointers_of r)) now ∙ all_alike n.children qs fills
      ∙ sym (ap (λ (r : Result Node Shape). map hintless (pointers_of r)) was);
  count = ap (λ (r : Result Node Shape). length (pointers_of r)) now ∙ fills.count
      ∙ sym (ap (λ (r : Result Node Shape). length (pointers_of r)) was);
  known = ap (λ (r : Result Node Shape). list_any is_unknown (pointers_of r)) now ∙ all_known n.children qs fills;
})

-- ---- an inode block

abbrev pub roots : List InodeRecord → List Pointer
roots rs = map (λ (r : InodeRecord). r.root) rs

-- the pointers of one that was read
pub roots_by : (kind : ℕ) (b : List ℕ) (n : InodeBlock) → form_of kind ≡ Some OfInodes → inodes_at b ≡ Ok n → pointers_by (form_of kind) b ≡ roots n.files
unfolding records_in
roots_by kind b n form at =
    ap (λ (f : Option Form). pointers_by f b) form ∙ ap (λ (r : Result InodeBlock Shape). roots (records_of r)) at

module _ (rs ss : List InodeRecord) (qs : List Pointer) (fills : FillsUpTo (roots rs) (length (roots rs)) qs) (are : AreRooted rs (length rs) qs ss) where
  as_many : length qs ≡ length rs
  as_many = fills.count ∙ length-map rs (λ (r : InodeRecord). r.root)

  filled_root : (i : ℕ) → i < length rs → IsFilledAs (get_or rs i free_record).root (get_or qs i hole)
  filled_root i lt = subst (λ (p : Pointer). IsFilledAs p (get_or qs i hole))
      (get_or-map (λ (r : InodeRecord). r.root) rs i free_record hole lt)
      (fills.filled i (omega (arith, lt, length-map rs (λ (r : InodeRecord). r.root))))

  pub roots_are : roots ss ≡ qs
  roots_are = ext_get_or hole (roots ss) qs (length-map ss (λ (r : InodeRecord). r.root) ∙ are.count ∙ sym as_many) (λ i lt.
      let low : i < length ss = omega (arith, lt, length-map ss (λ (r : InodeRecord). r.root)) in
      get_or-map (λ (r : InodeRecord). r.root) ss i free_record hole low
      ∙ ap (λ (r : InodeRecord). r.root) (are.rooted i (omega (arith, low, are.count))))

  records_alike : map hintless_record ss ≡ map hintless_record rs
  records_alike = ext_get_or free_record (map hintless_record ss) (map hintless_record rs)
      (length-map ss hintless_record ∙ are.count ∙ sym (length-map rs hintless_record)) (λ i lt.
      let low : i < length ss = omega (arith, lt, length-map ss hintless_record) in
      let less : i < length rs = omega (arith, low, are.count) in
      get_or-map hintless_record ss i free_record free_record low ∙ ap hintless_record (are.rooted i less)
      ∙ ap (with_root (get_or rs i free_record)) (filled_alike (get_or rs i free_record).root (get_or qs i hole) (filled_root i less))
      ∙ sym (get_or-map hintless_record rs i free_record free_record less))

  record_range : (i : ℕ) → i < length rs → IsInodeRecord (get_or rs i free_record) → IsInodeRecord (get_or ss i free_record)
  record_range i lt is = let r = get_or rs i free_record in subst IsInodeRecord (sym (are.rooted i lt)) (record {
    name_length = is.name_length;
    name_long = is.name_long;
    name = is.name;
    length = is.length;
    reserve = is.reserve;
    levels = is.levels;
    root = filled_range (is_used r.name_length) r.root (get_or qs i hole) (filled_root i lt) is.root;
  })

pub inodes_range : (n : InodeBlock) (ss : List InodeRecord) (qs : List Pointer) → FillsUpTo (roots n.files) (length (roots n.files)) qs
    → AreRooted n.files (length n.files) qs ss → IsInodeBlock n → IsInodeBlock (with_files n ss)
inodes_range n ss qs fills are is = record {
  files = λ i d lt. let less : i < length n.files = omega (arith, lt, are.count) in
      subst IsInodeRecord (get_or_default ss i free_record d lt)
      (record_range n.files ss qs fills are i less (is.files i free_record less));
  some = sym (free_alike ss) ∙ ap all_free (records_alike n.files ss qs fills are) ∙ free_alike n.files ∙ is.some;
}

pub inodes_fill : (kind : ℕ) (b c : List ℕ) (n : InodeBlock) (ss : List InodeRecord) (qs : List Pointer) → form_of kind ≡ Some OfInodes
    → shape_in (form_of kind) b ≡ Ok tt → inodes_at b ≡ Ok n → inodes_at c ≡ Ok (with_files n ss)
    → FillsUpTo (roots n.files) (length (roots n.files)) qs → AreRooted n.files (length n.files) qs ss → FillsBlock kind b c
unfolding records_in
inodes_fill kind b c n ss qs form shaped was now fills are = fills_by kind (Some OfInodes) b c form shaped (record {
  position = subst (λ (r : Result InodeBlock Shape). IfOk r (λ m. (rs : List InodeRecord) × (inodes_at c ≡ Ok (with_files m rs))))
      (sym was) (ss, now);
  alike = ap (λ (r : Result InodeBlock Shape). map hintless_record (records_of r)) now ∙ records_alike n.files ss qs fills are
      ∙ sym (ap (λ (r : Result InodeBlock Shape). map hintless_record (records_of r)) was);
  count = ap (λ (r : Result InodeBlock Shape). length (roots (records_of r))) now ∙ ap length (roots_are n.files ss qs fills are)
      ∙ fills.count ∙ sym (ap (λ (r : Result InodeBlock Shape). length (roots (records_of r))) was);
  known = ap (λ (r : Result InodeBlock Shape). list_any is_unknown (roots (records_of r))) now
      ∙ ap (list_any is_unknown) (roots_are n.files ss qs fills are) ∙ all_known (roots n.files) qs fills;
})

-- ---- places of lists that are equal

pub places_as : (at : Lies) (kind : ℕ) (ps qs xs ys : List Pointer) → xs ≡ ps → ys ≡ qs → ArePlaced at kind ps (length ps) qs → ArePlaced at kind xs (length xs) ys
places_as at kind ps qs xs ys same new placed =
    subst (λ (zs : List Pointer). ArePlaced at kind zs (length zs) ys) (sym same)
    (subst (λ (zs : List Pointer). ArePlaced at kind ps (length ps) zs) (sym new) placed)
