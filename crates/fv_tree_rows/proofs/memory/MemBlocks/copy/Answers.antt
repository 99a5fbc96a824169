use Rattle.std.proofs.Common.{◌≡◌, ℕ, List}
use Rattle.std.specs.Array.{AllZipBelow}
use Rattle.std.specs.List.{each_same}
use Rattle.std.proofs.lemmas.Map.Entries.{entries_from_clone}
use Rattle.fv_tree_rows.proofs.memory.MemBlocks.copy.Goals as goal

-- a block, its PVBN and its kind are those of which they are clones
same_kept : (x y : List ℕ × ℕ × ℕ) → AllZipBelow (λ (a b : ℕ). b ≡ a) x.0 y.0 4096 × (y.1 ≡ x.1) × (y.2 ≡ x.2) → y ≡ x
same_kept x y (cloned, pvbn, kind) = λ i. (each_same x.0 y.0 cloned.whole i, pvbn i, kind i)

pub returns-clause-blocks : goal.returns-clause-blocks
returns-clause-blocks c =
    entries_from_clone (λ (x y : ℕ). y ≡ x) (λ x y. AllZipBelow (λ (a b : ℕ). b ≡ a) x.0 y.0 4096 × (y.1 ≡ x.1) × (y.2 ≡ x.2)) (λ x y is. is) same_kept
    c.args.self.now.blocks.entries c.in_ok-clone.field-0.entries c.in_ok-clone.ensures.cases
