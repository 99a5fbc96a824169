-- Blocks by their form: what the shape says, which pointers are inside, and what says the same but for hints.
use Rattle.std.proofs.Common.{◌≡◌, ◌≢◌, ℕ, zero, suc, ◌≤◌, Bool, true, false, List, Result, Ok, Err, refl, sym, ap, subst, ◌∙◌, arith}
use Rattle.std.specs.Prelude.{Option, Some, None, ◌==◌, if◌then◌else◌}
use Rattle.std.proofs.lemmas.Bool.Decides.{nat_tests}
use Rattle.fv_codec.specs.declared.shape.Shape.{Shape}
use Rattle.fv_codec.specs.declared.form.Form.{Form}
use Rattle.fv_codec.specs.declared.form.Form.TheVariants.{Node as OfNode, Inodes as OfInodes}
use Rattle.fv_codec.specs.declared.node.Node.{Node}
use Rattle.fv_codec.specs.declared.inode.InodeBlock.{InodeBlock}
use Rattle.fv_codec.specs.Fields.{verdict_of}
use Rattle.fv_codec.specs.Blocks.{node_at, inodes_at}
use Rattle.fv_tables.specs.Alike.{SpellAlike, RecordAlike, SaysAlike}
use Rattle.fv_image.specs.Views.{Placed}
use Rattle.fv_places.specs.Inside.{pointers_inside}
use Rattle.fv_places.specs.ByKind.{is_node, form_of, shape_in, pointers_by}

-- ---- kinds and forms

pub node_kind : (kind : ℕ) → form_of kind ≡ Some OfNode → (kind ≢ 1) × (kind ≢ 5)
node_kind kind is = (λ e. one (ap form_of (sym e) ∙ is), λ e. five (ap form_of (sym e) ∙ is))
  where
    one : ◌≡◌ {A = Option Form} None (Some OfNode) → ⊥
    one e = cc

    five : ◌≡◌ {A = Option Form} (Some OfInodes) (Some OfNode) → ⊥
    five e = cc

pub inode_kind : (kind : ℕ) → form_of kind ≡ Some OfInodes → kind ≡ 5
inode_kind kind is = by (is_node kind) (kind == 5) refl is
  where
    by : (node five : Bool) → (kind == 5) ≡ five
        → ◌≡◌ {A = Option Form} (if node then Some OfNode else if five then Some OfInodes else None) (Some OfInodes) → kind ≡ 5
    by true five test is = absurd cc
    by false true test is = grind (arith, nat_tests)
    by false false test is = absurd cc

-- The pointers inside a block of a table are those by its form.
pub inside_by : (x : Placed) → 1 ≤ x.kind → x.kind ≤ 7 → pointers_inside x ≡ pointers_by (form_of x.kind) x.block
inside_by x low high = by x.kind low high
  where
    by : (k : ℕ) → 1 ≤ k → k ≤ 7 → pointers_inside (record { pvbn = x.pvbn; kind = k; block = x.block }) ≡ pointers_by (form_of k) x.block
    by zero low high = absurd (omega (arith, low))
    by (suc zero) low high = refl
    by (suc (suc zero)) low high = refl
    by (suc (suc (suc zero))) low high = refl
    by (suc (suc (suc (suc zero)))) low high = refl
    by (suc (suc (suc (suc (suc zero))))) low high = refl
    by (suc (suc (suc (suc (suc (suc zero)))))) low high = refl
    by (suc (suc (suc (suc (suc (suc (suc zero))))))) low high = refl
    by (suc (suc (suc (suc (suc (suc (suc (suc k)))))))) low high = absurd (omega (arith, high))

-- ---- shapes

-- a block that has its shape is read
pub node_read : (b : List ℕ) → shape_in (Some OfNode) b ≡ Ok tt → (n : Node) × (node_at b ≡ Ok n)
node_read b shaped = by (node_at b) refl shaped
  where
    by : (r : Result Node Shape) → node_at b ≡ r → verdict_of r ≡ Ok tt → (n : Node) × (node_at b ≡ Ok n)
    by (Ok n) at fine = (n, at)
    by (Err fault) at fine = absurd cc

pub inodes_read : (b : List ℕ) → shape_in (Some OfInodes) b ≡ Ok tt → (n : InodeBlock) × (inodes_at b ≡ Ok n)
inodes_read b shaped = by (inodes_at b) refl shaped
  where
    by : (r : Result InodeBlock Shape) → inodes_at b ≡ r → verdict_of r ≡ Ok tt → (n : InodeBlock) × (inodes_at b ≡ Ok n)
    by (Ok n) at fine = (n, at)
    by (Err fault) at fine = absurd cc

-- ---- what says the same but for hints

-- by the form
abbrev pub AlikeAs : Option Form → List ℕ → List ℕ → Type 0
AlikeAs None b c = c ≡ b
AlikeAs (Some OfNode) b c = SpellAlike (Some b) (Some c)
AlikeAs (Some OfInodes) b c = RecordAlike (Some b) (Some c)

pub says_by : (kind : ℕ) (b c : List ℕ) → AlikeAs (form_of kind) b c → SaysAlike kind b c
says_by kind b c alike = by (form_of kind) refl alike
  where
    by : (f : Option Form) → form_of kind ≡ f → AlikeAs f b c → SaysAlike kind b c
    by None is same = subst (λ (x : List ℕ). SaysAlike kind b x) (sym same) (record {
      cells = λ e. refl;
      inodes = λ e. refl;
      nodes = λ one five. refl;
    })
    by (Some OfNode) is same = let k = node_kind kind is in record {
      cells = λ e. absurd (k.0 e);
      inodes = λ e. absurd (k.1 e);
      nodes = λ one five. same;
    }
    by (Some OfInodes) is same = let k = inode_kind kind is in record {
      cells = λ e. absurd (omega (arith, k, e));
      inodes = λ e. same;
      nodes = λ one five. absurd (five k);
    }
