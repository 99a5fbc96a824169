-- A block in which hints alone changed has the shapes and positions that it had, whatever pointer leads to it: a node is never an inode
-- block, since their marks differ.
use Rattle.std.proofs.Common.{◌≡◌, ℕ, Bool, true, false, not, ◌||◌, List, map, Result, Ok, Err, refl, sym, ap, subst, ◌∙◌, arith}
use Rattle.std.specs.Prelude.{Option, Some, None, ◌==◌, IfOk, if◌then◌else◌}
use Rattle.fv_codec.specs.declared.shape.Shape.{Shape}
use Rattle.fv_codec.specs.declared.form.Form.{Form}
use Rattle.fv_codec.specs.declared.form.Form.TheVariants.{Node as OfNode, Inodes as OfInodes}
use Rattle.fv_codec.specs.declared.pointer.Pointer.{Pointer}
use Rattle.fv_codec.specs.declared.node.Node.{Node}
use Rattle.fv_codec.specs.declared.inode.InodeRecord.{InodeRecord}
use Rattle.fv_codec.specs.declared.inode.InodeBlock.{InodeBlock}
use Rattle.fv_codec.specs.Bytes.{word_at}
use Rattle.fv_codec.specs.Fields.{verdict_of, verdicts}
use Rattle.fv_codec.specs.Blocks.{greatest_word, node_fields, node_at, inodes_fields, inodes_at}
use Rattle.fv_codec.proofs.Ranges.{as_said, within, reading_ok}
use Rattle.fv_tables.specs.Reached.{Item}
use Rattle.fv_tables.specs.Alike.{hintless, hintless_record}
use Rattle.fv_image.specs.Views.{View}
use Rattle.fv_image.specs.BlockRules.{is_fine}
use Rattle.fv_image.specs.ReachRules.{shape_for, is_of_position, node_is, inodes_are}
use Rattle.fv_places.specs.Mirrors.{Copies, KeepsForms}
use Rattle.fv_places.specs.ByKind.{form_of, shape_in}
use Rattle.fv_places.specs.Changed.{Blanks, KeepsPosition, with_children, with_files}
use Rattle.fv_places.proofs.Forms.{node_read, inodes_read}

-- the marks
node_mark : (b : List ℕ) (n : Node) → node_at b ≡ Ok n → word_at 0 b ≡ 0x46564e4f44453030
unfolding node_at
node_mark b n at =
    let range = within 0x46564e4f44453030 0x46564e4f44453030 (word_at 0 b) (as_said node_fields b (reading_ok (verdicts node_fields b) _ n at).0).0 in
    omega (arith, range.0, range.1)

inodes_mark : (b : List ℕ) (n : InodeBlock) → inodes_at b ≡ Ok n → word_at 0 b ≡ 0x4656494e4f444553
unfolding inodes_at
inodes_mark b n at =
    let range = within 0x4656494e4f444553 0x4656494e4f444553 (word_at 0 b) (as_said inodes_fields b (reading_ok (verdicts inodes_fields b) _ n at).0).0 in
    omega (arith, range.0, range.1)

not_both : (b : List ℕ) (n : Node) (m : InodeBlock) → node_at b ≡ Ok n → inodes_at b ≡ Ok m → ⊥
not_both b n m node inodes = let one = node_mark b n node in let other = inodes_mark b m inodes in absurd (omega (arith, one, other))

-- what is read
pub read_node : (b : List ℕ) (P : Node → Type 0) (n : Node) → IfOk (node_at b) P → node_at b ≡ Ok n → P n
read_node b P n holds at = subst (λ (r : Result Node Shape). IfOk r P) at holds

pub read_inodes : (b : List ℕ) (P : InodeBlock → Type 0) (n : InodeBlock) → IfOk (inodes_at b) P → inodes_at b ≡ Ok n → P n
read_inodes b P n holds at = subst (λ (r : Result InodeBlock Shape). IfOk r P) at holds

pub said_node : (b : List ℕ) (P : Node → Type 0) → ((n : Node) → node_at b ≡ Ok n → P n) → IfOk (node_at b) P
said_node b P holds = by (node_at b) refl
  where
    by : (r : Result Node Shape) → node_at b ≡ r → IfOk r P
    by (Ok n) at = holds n at
    by (Err fault) at = tt

pub said_inodes : (b : List ℕ) (P : InodeBlock → Type 0) → ((n : InodeBlock) → inodes_at b ≡ Ok n → P n) → IfOk (inodes_at b) P
said_inodes b P holds = by (inodes_at b) refl
  where
    by : (r : Result InodeBlock Shape) → inodes_at b ≡ r → IfOk r P
    by (Ok n) at = holds n at
    by (Err fault) at = tt

-- ---- blank blocks keep their position

pub blanks_keep : (f : Option Form) (b c : List ℕ) → Blanks f b c → KeepsPosition f b c
blanks_keep None b c blanks = blanks
blanks_keep (Some OfNode) b c blanks = said_node b _ (λ n at. (map hintless n.children, read_node b _ n blanks at))
blanks_keep (Some OfInodes) b c blanks = said_inodes b _ (λ n at. (map hintless_record n.files, read_inodes b _ n blanks at))

-- so a block that was changed has its shape, and one change after another is one
pub keeps_fine : (f : Option Form) (b c : List ℕ) → shape_in f b ≡ Ok tt → KeepsPosition f b c → shape_in f c ≡ Ok tt
keeps_fine None b c fine keeps = refl
keeps_fine (Some OfNode) b c fine keeps =
    let r = node_read b fine in ap (λ (x : Result Node Shape). verdict_of x) (read_node b _ r.0 keeps r.1).1
keeps_fine (Some OfInodes) b c fine keeps =
    let r = inodes_read b fine in ap (λ (x : Result InodeBlock Shape). verdict_of x) (read_inodes b _ r.0 keeps r.1).1

pub keeps_then : (f : Option Form) (b c d : List ℕ) → KeepsPosition f b c → KeepsPosition f c d → KeepsPosition f b d
keeps_then None b c d one next = next ∙ one
keeps_then (Some OfNode) b c d one next = said_node b _ (λ n at. let k = read_node b _ n one at in read_node c _ (with_children n k.0) next k.1)
keeps_then (Some OfInodes) b c d one next = said_inodes b _ (λ n at. let k = read_inodes b _ n one at in read_inodes c _ (with_files n k.0) next k.1)

-- ---- shapes and positions

module _ (b c : List ℕ) (e : Item) where
  -- a node
  module _ (n : Node) (ps : List Pointer) (was : node_at b ≡ Ok n) (now : node_at c ≡ Ok (with_children n ps)) where
    node_shape : (low inode : Bool) → is_fine (if low then (if inode then verdict_of (inodes_at b) else Ok tt) else verdict_of (node_at b)) ≡ true
        → is_fine (if low then (if inode then verdict_of (inodes_at c) else Ok tt) else verdict_of (node_at c)) ≡ true
    node_shape true true fine = by (inodes_at b) refl fine
      where
        by : (r : Result InodeBlock Shape) → inodes_at b ≡ r → is_fine (verdict_of r) ≡ true → is_fine (verdict_of (inodes_at c)) ≡ true
        by (Ok m) at fine = absurd (not_both b n m was at)
        by (Err fault) at fine = absurd cc
    node_shape true false fine = refl
    node_shape false inode fine = ap (λ (r : Result Node Shape). is_fine (verdict_of r)) now

    node_position : (low inode : Bool) → (if low then (not inode || inodes_are e (inodes_at b)) else node_is e (node_at b)) ≡ true
        → (if low then (not inode || inodes_are e (inodes_at c)) else node_is e (node_at c)) ≡ true
    node_position true true is = by (inodes_at c) refl
      where
        by : (r : Result InodeBlock Shape) → inodes_at c ≡ r → inodes_are e r ≡ true
        by (Ok m) at = absurd (not_both c (with_children n ps) m now at)
        by (Err fault) at = refl
    node_position true false is = refl
    node_position false inode is = ap (node_is e) now ∙ sym (ap (node_is e) was) ∙ is

  -- an inode block
  module _ (n : InodeBlock) (rs : List InodeRecord) (was : inodes_at b ≡ Ok n) (now : inodes_at c ≡ Ok (with_files n rs)) where
    inodes_shape : (low inode : Bool) → is_fine (if low then (if inode then verdict_of (inodes_at b) else Ok tt) else verdict_of (node_at b)) ≡ true
        → is_fine (if low then (if inode then verdict_of (inodes_at c) else Ok tt) else verdict_of (node_at c)) ≡ true
    inodes_shape true true fine = ap (λ (r : Result InodeBlock Shape). is_fine (verdict_of r)) now
    inodes_shape true false fine = refl
    inodes_shape false inode fine = by (node_at b) refl fine
      where
        by : (r : Result Node Shape) → node_at b ≡ r → is_fine (verdict_of r) ≡ true → is_fine (verdict_of (node_at c)) ≡ true
        by (Ok m) at fine = absurd (not_both b m n at was)
        by (Err fault) at fine = absurd cc

    inodes_position : (low inode : Bool) → (if low then (not inode || inodes_are e (inodes_at b)) else node_is e (node_at b)) ≡ true
        → (if low then (not inode || inodes_are e (inodes_at c)) else node_is e (node_at c)) ≡ true
    inodes_position true true is = ap (inodes_are e) now ∙ sym (ap (inodes_are e) was) ∙ is
    inodes_position true false is = refl
    inodes_position false inode is = by (node_at c) refl
      where
        by : (r : Result Node Shape) → node_at c ≡ r → node_is e r ≡ true
        by (Ok m) at = absurd (not_both c m (with_files n rs) at now)
        by (Err fault) at = refl

  pub keeps_shape : (f : Option Form) → shape_in f b ≡ Ok tt → KeepsPosition f b c → is_fine (shape_for e b) ≡ true → is_fine (shape_for e c) ≡ true
  keeps_shape None shaped keeps fine = ap (λ (x : List ℕ). is_fine (shape_for e x)) keeps ∙ fine
  keeps_shape (Some OfNode) shaped keeps fine =
      let r = node_read b shaped in let k = read_node b _ r.0 keeps r.1 in
      node_shape r.0 k.0 r.1 k.1 (e.level == 0) (e.owner == greatest_word) fine
  keeps_shape (Some OfInodes) shaped keeps fine =
      let r = inodes_read b shaped in let k = read_inodes b _ r.0 keeps r.1 in
      inodes_shape r.0 k.0 r.1 k.1 (e.level == 0) (e.owner == greatest_word) fine

  pub keeps_position : (f : Option Form) → shape_in f b ≡ Ok tt → KeepsPosition f b c → is_of_position e b ≡ true → is_of_position e c ≡ true
  keeps_position None shaped keeps is = ap (is_of_position e) keeps ∙ is
  keeps_position (Some OfNode) shaped keeps is =
      let r = node_read b shaped in let k = read_node b _ r.0 keeps r.1 in
      node_position r.0 k.0 r.1 k.1 (e.level == 0) (e.owner == greatest_word) is
  keeps_position (Some OfInodes) shaped keeps is =
      let r = inodes_read b shaped in let k = read_inodes b _ r.0 keeps r.1 in
      inodes_position r.0 k.0 r.1 k.1 (e.level == 0) (e.owner == greatest_word) is

-- So a mirror whose copies are blank blocks keeps the forms.
pub blank_copies : (w : View) (s : ℕ) (u : View) (t : ℕ)
    → ((v : ℕ) (c : Copies w s u t v) → (shape_in (form_of c.from.kind) c.from.block ≡ Ok tt) × Blanks (form_of c.from.kind) c.from.block c.copy.block)
    → KeepsForms w s u t
blank_copies w s u t made = record {
  shapes = λ e v c. let m = made v c in
      keeps_shape c.from.block c.copy.block e (form_of c.from.kind) m.0 (blanks_keep (form_of c.from.kind) c.from.block c.copy.block m.1);
  positions = λ e v c. let m = made v c in
      keeps_position c.from.block c.copy.block e (form_of c.from.kind) m.0 (blanks_keep (form_of c.from.kind) c.from.block c.copy.block m.1);
}
