-- What a search saw, and goes on with.
use Rattle.std.proofs.Common.{◌≡◌, ℕ, ◌+◌, ◌<◌, ◌≤◌, true, false, List, length, get_or, Option, Some, None, Result, Ok, Err, refl, sym, ap, subst, ◌∙◌, arith, ⊎_elim}
use Rattle.std.specs.Prelude.{is_some}
use Rattle.std.proofs.lemmas.Bool.{cases_lt, cases_eq}
use Rattle.std.proofs.lemmas.List.{length-map}
use Rattle.fv_codec.specs.declared.shape.Shape.{Shape}
use Rattle.fv_codec.specs.declared.form.Form.{Form}
use Rattle.fv_codec.specs.declared.form.Form.TheVariants.{Node as OfNode, Inodes as OfInodes}
use Rattle.fv_codec.specs.declared.pointer.Pointer.{Pointer}
use Rattle.fv_codec.specs.declared.node.Node.{Node}
use Rattle.fv_codec.specs.declared.inode.InodeRecord.{InodeRecord}
use Rattle.fv_codec.specs.declared.inode.InodeBlock.{InodeBlock}
use Rattle.fv_codec.specs.Fields.{verdicts}
use Rattle.fv_codec.specs.Blocks.{node_at, node_fields, pointer_of, inodes_at}
use Rattle.fv_codec.proofs.Ranges.{reading_ok}
use Rattle.fv_codec.proofs.Renewed.{sixteen_of}
use Rattle.fv_tables.specs.Spelled.{hole, pointers_of as pointers_of_node}
use Rattle.fv_tables.specs.Told.{records_in, records_of}
use Rattle.fv_image.proofs.WellNodes.{length_items}
use Rattle.fv_places.specs.ByKind.{pointers_by}
use Rattle.fv_places.specs.Firsts.{NoneUnknown, IsFirstAt, IsFirst}
use Rattle.fv_cleaner.specs.declared.searching.Found.{Found}
use Rattle.fv_cleaner.specs.Searching.{AreClearFrom, IsClear, Lies, Looks, LooksBelow, LooksFrom}

-- ---- a block has at most 128 pointers

few_in_node : (b : List ℕ) (r : Result Node Shape) → node_at b ≡ r → length (pointers_of_node r) ≤ 128
unfolding node_at
few_in_node b (Ok n) at =
    let all : length n.children ≡ 128 = ap (λ (x : Node). length x.children) (sym (reading_ok (verdicts node_fields b) _ n at).1) ∙ length_items 128 24 pointer_of _ in
    omega (arith, all)
few_in_node b (Err fault) at = omega arith

few_in_inodes : (b : List ℕ) (r : Result InodeBlock Shape) → inodes_at b ≡ r → length (records_of r) ≤ 16
few_in_inodes b (Ok n) at = omega (arith, sixteen_of b n at)
few_in_inodes b (Err fault) at = omega arith

pub few_pointers : (f : Option Form) (b : List ℕ) → length (pointers_by f b) ≤ 128
unfolding records_in
few_pointers None b = omega arith
few_pointers (Some OfNode) b = few_in_node b (node_at b) refl
few_pointers (Some OfInodes) b = omega (arith, few_in_inodes b (inodes_at b) refl, length-map (records_in (Some b)) (λ (r : InodeRecord). r.root))

-- ---- what unknown pointers lead to

module _ (at : Lies) (ps : List Pointer) (start : ℕ) where
  -- behind the first unknown pointer from an index on, where what it leads to is clear
  pub clear_next : (from : ℕ) (f : ℕ × Pointer) → AreClearFrom at ps start from → IsFirstAt ps from f → IsClear at f.1.vvbn → AreClearFrom at ps start (f.0 + 1)
  clear_next from f before first clear i late low unknown = ⊎_elim
      (λ (early : i < from). before i late early unknown)
      (λ (behind : from ≤ i). ⊎_elim
      (λ (same : i ≡ f.0). subst (λ (p : Pointer). IsClear at p.vvbn) (sym (ap (λ (k : ℕ). get_or ps k hole) same ∙ first.stands)) clear)
      (λ other. let less : i < f.0 = omega (arith, low, other) in
      let no : true ≡ false = sym unknown ∙ first.first i behind less in absurd cc)
      (cases_eq i f.0))
      (cases_lt i from)

  -- with none from an index on
  pub clear_all : (from : ℕ) → AreClearFrom at ps start from → NoneUnknown ps from (length ps) → AreClearFrom at ps start (length ps)
  clear_all from before none i late low unknown = ⊎_elim
      (λ (early : i < from). before i late early unknown)
      (λ (behind : from ≤ i). let no : true ≡ false = sym unknown ∙ none i behind low in absurd cc)
      (cases_lt i from)

  -- past the last
  pub clear_past : (from : ℕ) → AreClearFrom at ps start from → length ps ≤ from → AreClearFrom at ps start (length ps)
  clear_past from before past i late low unknown = before i late (omega (arith, low, past)) unknown

  -- before the first look
  pub clear_none : AreClearFrom at ps start start
  clear_none i late low unknown = absurd (omega (arith, late, low))

-- what one look from the first pointer on says is said of all
pub looks_all : (at : Lies) (kind : ℕ) (ps : List Pointer) (block : List ℕ) (next : Option Found) → LooksFrom at ps 0 block next → LooksBelow at kind ps block next
looks_all at kind ps block None looks = λ over i low unknown. looks i (omega arith) low unknown
looks_all at kind ps block (Some f) looks = looks

-- one that found a block from elsewhere on found one below
pub looks_some : (at : Lies) (kind from : ℕ) (ps : List Pointer) (block : List ℕ) (next : Option Found) → is_some next ≡ true → LooksFrom at ps from block next → LooksBelow at kind ps block next
looks_some at kind from ps block None some looks = absurd cc
looks_some at kind from ps block (Some f) some looks = looks

-- what one look found is found from an index on, and one that found nothing saw a clear block
pub found_from : (at : Lies) (v from : ℕ) (ps : List Pointer) (block : List ℕ) (next : Option Found) → is_some next ≡ true → Looks at v block next → LooksFrom at ps from block next
found_from at v from ps block None some looks = absurd cc
found_from at v from ps block (Some f) some looks = looks

pub saw_clear : (at : Lies) (v : ℕ) (block : List ℕ) (next : Option Found) → is_some next ≡ false → Looks at v block next → IsClear at v
saw_clear at v block None none looks = looks
saw_clear at v block (Some f) none looks = absurd cc

-- the index of the first unknown pointer is below 128
pub fits_behind : (ps : List Pointer) (from : ℕ) (o : Option (ℕ × Pointer)) (first : ℕ × Pointer) → o ≡ Some first → IsFirst ps from o → length ps ≤ 128 → first.0 < 128
fits_behind ps from o first is found few =
    let at : IsFirstAt ps from first = subst (IsFirst ps from) is found in omega (arith, at.within, few)
