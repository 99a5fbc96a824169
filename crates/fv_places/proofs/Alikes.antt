-- What says the same but for hints is what is equal once the places are out, at one position.
use Rattle.std.proofs.Common.{◌≡◌, ℕ, List, [], ◌∷◌, map, Result, Ok, refl, sym, ap, ◌∙◌}
use Rattle.std.specs.Prelude.{Option, Some, None}
use Rattle.fv_codec.specs.declared.shape.Shape.{Shape}
use Rattle.fv_codec.specs.declared.form.Form.{Form}
use Rattle.fv_codec.specs.declared.form.Form.TheVariants.{Node as OfNode, Inodes as OfInodes}
use Rattle.fv_codec.specs.declared.pointer.Pointer.{Pointer}
use Rattle.fv_codec.specs.declared.node.Node.{Node}
use Rattle.fv_codec.specs.declared.inode.InodeRecord.{InodeRecord}
use Rattle.fv_codec.specs.declared.inode.InodeBlock.{InodeBlock}
use Rattle.fv_codec.specs.Blocks.{node_at, inodes_at}
use Rattle.fv_codec.proofs.Laws.{IsBlock, node_only, inodes_only}
use Rattle.fv_tables.specs.Spelled.{pointers_of}
use Rattle.fv_tables.specs.Told.{records_of, records_in}
use Rattle.fv_tables.specs.Alike.{hintless, hintless_record, SpellAlike, RecordAlike, SaysAlike}
use Rattle.fv_places.specs.ByKind.{form_of, shape_in}
use Rattle.fv_places.specs.Changed.{Blanks, KeepsPosition, with_children, with_files, hintless_node, hintless_inodes}
use Rattle.fv_places.proofs.Forms.{AlikeAs, says_by, node_kind, inode_kind, node_read, inodes_read}
use Rattle.fv_places.proofs.Positions.{read_node, read_inodes, said_node, said_inodes}

-- ---- lists without hints

hintless_twice : (ps : List Pointer) → map hintless (map hintless ps) ≡ map hintless ps
hintless_twice [] = refl
hintless_twice (p ∷ ps) = ap (λ (qs : List Pointer). hintless p ∷ qs) (hintless_twice ps)

records_twice : (rs : List InodeRecord) → map hintless_record (map hintless_record rs) ≡ map hintless_record rs
records_twice [] = refl
records_twice (r ∷ rs) = ap (λ (qs : List InodeRecord). hintless_record r ∷ qs) (records_twice rs)

-- ---- nodes and inode blocks that are alike, by what is read

nodes_alike : (b c : List ℕ) (n m : Node) → node_at b ≡ Ok n → node_at c ≡ Ok m → map hintless m.children ≡ map hintless n.children
    → SpellAlike (Some b) (Some c)
nodes_alike b c n m was now same =
    ap (λ (r : Result Node Shape). map hintless (pointers_of r)) now ∙ same ∙ sym (ap (λ (r : Result Node Shape). map hintless (pointers_of r)) was)

inodes_alike : (b c : List ℕ) (n m : InodeBlock) → inodes_at b ≡ Ok n → inodes_at c ≡ Ok m → map hintless_record m.files ≡ map hintless_record n.files
    → RecordAlike (Some b) (Some c)
unfolding records_in
inodes_alike b c n m was now same =
    ap (λ (r : Result InodeBlock Shape). map hintless_record (records_of r)) now ∙ same
    ∙ sym (ap (λ (r : Result InodeBlock Shape). map hintless_record (records_of r)) was)

-- and back
alike_nodes : (b c : List ℕ) (n m : Node) → node_at b ≡ Ok n → node_at c ≡ Ok m → SpellAlike (Some b) (Some c)
    → map hintless m.children ≡ map hintless n.children
alike_nodes b c n m was now alike =
    sym (ap (λ (r : Result Node Shape). map hintless (pointers_of r)) now) ∙ alike ∙ ap (λ (r : Result Node Shape). map hintless (pointers_of r)) was

alike_inodes : (b c : List ℕ) (n m : InodeBlock) → inodes_at b ≡ Ok n → inodes_at c ≡ Ok m → RecordAlike (Some b) (Some c)
    → map hintless_record m.files ≡ map hintless_record n.files
unfolding records_in
alike_inodes b c n m was now alike =
    sym (ap (λ (r : Result InodeBlock Shape). map hintless_record (records_of r)) now) ∙ alike
    ∙ ap (λ (r : Result InodeBlock Shape). map hintless_record (records_of r)) was

-- ---- blank blocks say the same

blank_alike : (f : Option Form) (b c : List ℕ) → shape_in f b ≡ Ok tt → Blanks f b c → AlikeAs f b c
blank_alike None b c shaped blanks = blanks
blank_alike (Some OfNode) b c shaped blanks = let r = node_read b shaped in
    nodes_alike b c r.0 (hintless_node r.0) r.1 (read_node b _ r.0 blanks r.1) (hintless_twice r.0.children)
blank_alike (Some OfInodes) b c shaped blanks = let r = inodes_read b shaped in
    inodes_alike b c r.0 (hintless_inodes r.0) r.1 (read_inodes b _ r.0 blanks r.1) (records_twice r.0.files)

-- A blank block says what the block said, but for hints.
pub blank_says : (kind : ℕ) (b c : List ℕ) → shape_in (form_of kind) b ≡ Ok tt → Blanks (form_of kind) b c → SaysAlike kind b c
blank_says kind b c shaped blanks = says_by kind b c (blank_alike (form_of kind) b c shaped blanks)

-- what says the same as what says the same
pub says_then : (kind : ℕ) (b c d : List ℕ) → SaysAlike kind b c → SaysAlike kind c d → SaysAlike kind b d
says_then kind b c d one next = record {
  cells = λ e. next.cells e ∙ one.cells e;
  inodes = λ e. next.inodes e ∙ one.inodes e;
  nodes = λ cell inode. next.nodes cell inode ∙ one.nodes cell inode;
}

-- ---- one definition

-- Blocks that are equal once blank say the same but for hints, at one position.
same_blank : (f : Option Form) (b c x : List ℕ) → shape_in f b ≡ Ok tt → shape_in f c ≡ Ok tt → Blanks f b x → Blanks f c x
    → AlikeAs f b c × KeepsPosition f b c
same_blank None b c x fine-b fine-c of-b of-c = (sym of-c ∙ of-b, sym of-c ∙ of-b)
same_blank (Some OfNode) b c x fine-b fine-c of-b of-c =
    let r = node_read b fine-b in
    let s = node_read c fine-c in
    let same : hintless_node s.0 ≡ hintless_node r.0 = got (sym (read_node c _ s.0 of-c s.1) ∙ read_node b _ r.0 of-b r.1) in (
      nodes_alike b c r.0 s.0 r.1 s.1 (ap (λ (n : Node). n.children) same),
      said_node b _ (λ n at. let t : r.0 ≡ n = got (sym r.1 ∙ at) in (
        s.0.children,
        s.1 ∙ (λ i. Ok (record { level = (same i).level; owner = (same i).owner; place = (same i).place; children = s.0.children }))
            ∙ ap (λ (m : Node). Ok (with_children m s.0.children)) t,
      )),
    )
  where
    got : {m n : Node} → ◌≡◌ {A = Result Node Shape} (Ok m) (Ok n) → m ≡ n
    got e = cc
same_blank (Some OfInodes) b c x fine-b fine-c of-b of-c =
    let r = inodes_read b fine-b in
    let s = inodes_read c fine-c in
    let same : hintless_inodes s.0 ≡ hintless_inodes r.0 = got (sym (read_inodes c _ s.0 of-c s.1) ∙ read_inodes b _ r.0 of-b r.1) in (
      inodes_alike b c r.0 s.0 r.1 s.1 (ap (λ (n : InodeBlock). n.files) same),
      said_inodes b _ (λ n at. let t : r.0 ≡ n = got (sym r.1 ∙ at) in (
        s.0.files,
        s.1 ∙ (λ i. Ok (record { index = (same i).index; files = s.0.files }))
            ∙ ap (λ (m : InodeBlock). Ok (with_files m s.0.files)) t,
      )),
    )
  where
    got : {m n : InodeBlock} → ◌≡◌ {A = Result InodeBlock Shape} (Ok m) (Ok n) → m ≡ n
    got e = cc

pub alike_by_blanks : (kind : ℕ) (b c x : List ℕ) → shape_in (form_of kind) b ≡ Ok tt → shape_in (form_of kind) c ≡ Ok tt
    → Blanks (form_of kind) b x → Blanks (form_of kind) c x → SaysAlike kind b c × KeepsPosition (form_of kind) b c
alike_by_blanks kind b c x fine-b fine-c of-b of-c = let s = same_blank (form_of kind) b c x fine-b fine-c of-b of-c in (says_by kind b c s.0, s.1)

-- And blocks that say the same, at one position, are equal once blank.
pub blanks_by_alike : (kind : ℕ) (b c x y : List ℕ) → IsBlock x → IsBlock y → shape_in (form_of kind) b ≡ Ok tt → SaysAlike kind b c
    → KeepsPosition (form_of kind) b c → Blanks (form_of kind) b x → Blanks (form_of kind) c y → y ≡ x
blanks_by_alike kind b c x y is-x is-y fine says keeps of-b of-c = by (form_of kind) refl fine keeps of-b of-c
  where
    by : (f : Option Form) → form_of kind ≡ f → shape_in f b ≡ Ok tt → KeepsPosition f b c → Blanks f b x → Blanks f c y → y ≡ x
    by None is fine keeps of-b of-c = of-c ∙ keeps ∙ sym of-b
    by (Some OfNode) is fine keeps of-b of-c =
        let k = node_kind kind is in
        let r = node_read b fine in
        let p = read_node b _ r.0 keeps r.1 in
        let same = alike_nodes b c r.0 (with_children r.0 p.0) r.1 p.1 (says.nodes k.0 k.1) in
        node_only y x (hintless_node r.0) is-y is-x
        (read_node c _ (with_children r.0 p.0) of-c p.1 ∙ ap (λ (ps : List Pointer). Ok (with_children r.0 ps)) same)
        (read_node b _ r.0 of-b r.1)
    by (Some OfInodes) is fine keeps of-b of-c =
        let r = inodes_read b fine in
        let p = read_inodes b _ r.0 keeps r.1 in
        let same = alike_inodes b c r.0 (with_files r.0 p.0) r.1 p.1 (says.inodes (inode_kind kind is)) in
        inodes_only y x (hintless_inodes r.0) is-y is-x
        (read_inodes c _ (with_files r.0 p.0) of-c p.1 ∙ ap (λ (rs : List InodeRecord). Ok (with_files r.0 rs)) same)
        (read_inodes b _ r.0 of-b r.1)

-- So a block has one blank block, and a blank block is its own.
pub blanks_once : (kind : ℕ) (b x y : List ℕ) → IsBlock x → IsBlock y → shape_in (form_of kind) b ≡ Ok tt → Blanks (form_of kind) b x
    → Blanks (form_of kind) b y → y ≡ x
blanks_once kind b x y is-x is-y fine one other = by (form_of kind) fine one other
  where
    by : (f : Option Form) → shape_in f b ≡ Ok tt → Blanks f b x → Blanks f b y → y ≡ x
    by None fine one other = other ∙ sym one
    by (Some OfNode) fine one other = let r = node_read b fine in
        node_only y x (hintless_node r.0) is-y is-x (read_node b _ r.0 other r.1) (read_node b _ r.0 one r.1)
    by (Some OfInodes) fine one other = let r = inodes_read b fine in
        inodes_only y x (hintless_inodes r.0) is-y is-x (read_inodes b _ r.0 other r.1) (read_inodes b _ r.0 one r.1)

pub blank_again : (kind : ℕ) (b c d : List ℕ) → IsBlock c → IsBlock d → shape_in (form_of kind) b ≡ Ok tt → Blanks (form_of kind) b c
    → Blanks (form_of kind) c d → d ≡ c
blank_again kind b c d is-c is-d fine one other = by (form_of kind) fine one other
  where
    by : (f : Option Form) → shape_in f b ≡ Ok tt → Blanks f b c → Blanks f c d → d ≡ c
    by None fine one other = other
    by (Some OfNode) fine one other = let r = node_read b fine in let now = read_node b _ r.0 one r.1 in
        node_only d c (hintless_node r.0) is-d is-c
        (read_node c _ (hintless_node r.0) other now ∙ ap (λ (ps : List Pointer). Ok (with_children r.0 ps)) (hintless_twice r.0.children)) now
    by (Some OfInodes) fine one other = let r = inodes_read b fine in let now = read_inodes b _ r.0 one r.1 in
        inodes_only d c (hintless_inodes r.0) is-d is-c
        (read_inodes c _ (hintless_inodes r.0) other now ∙ ap (λ (rs : List InodeRecord). Ok (with_files r.0 rs)) (records_twice r.0.files)) now
