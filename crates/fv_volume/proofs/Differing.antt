-- What damage tells: where content is told, the wanted and the found number differ.
use Rattle.std.proofs.Common.{◌≡◌, ◌≢◌, ℕ, Ok, Err, inl, inr, refl, ◌∙◌, ap, sym, subst, arith}
use Rattle.std.specs.Prelude.{Result, IfErr, IsTrue}
use Rattle.fv_disk.specs.declared.fault.BlockFault.TheVariants as block
use Rattle.fv_codec.specs.declared.shape.Shape.{Shape}
use Rattle.fv_codec.specs.Blocks.{greatest_kind, inodes_at, leaf_at, node_at}
use Rattle.fv_codec.specs.Fields.{verdict_of}
use Rattle.fv_codec.proofs.Decoded.{inodes_differs, leaf_differs, node_differs}
use Rattle.fv_tables.specs.Spelled.{Rooted}
use Rattle.fv_tables.specs.Told.{Standing}
use Rattle.fv_pool.specs.Calls.{TableFails}
use Rattle.fv_pool.specs.Lending.{Lent, IsHole, ReadFails}

hole_differs : (label at want found : ℕ) → IsHole label at want found → want ≢ found
hole_differs label at want found hole = λ same. let one = hole.want_is in let none = hole.found_is in omega (arith, one, none, same)

-- what a block without its shape tells differs
shape_differs : {X : Type 0} (s : Shape) (r : Result X Shape) → r ≡ Err s → IfErr r (λ t. t.want ≢ t.found) → s.want ≢ s.found
shape_differs {X} s r is all = subst (λ (z : Result X Shape). IfErr z (λ t. t.want ≢ t.found)) is all

verdict_is : {X : Type 0} (s : Shape) (r : Result X Shape) → verdict_of r ≡ Err s → r ≡ Err s
verdict_is s (Ok x) is = absurd cc
verdict_is s (Err t) is = let same : t ≡ s = cc in ap (λ (e : Shape). Err e) same

same_numbers : (at want found a w f : ℕ) → block.Damaged at want found ≡ block.Damaged a w f → w ≢ f → want ≢ found
same_numbers at want found a w f is differ = λ same. differ (let at_want : want ≡ w = cc in let at_found : found ≡ f = cc in sym at_want ∙ same ∙ at_found)

module _ (told : Type 0) (tells : told) (old : Lent) (entries : IsTrue old.disk.tells) (faults at want found : ℕ) where
  read_differs : (t : Rooted) → ReadFails told t old faults (block.Damaged at want found) → want ≢ found
  read_differs t (calm, inl hole) = hole_differs old.home.label at want found hole.0
  read_differs t (calm, inr (inr leaf)) =
      let shape : Shape = record { want = want; found = found } in
      shape_differs shape (leaf_at (old.disk.reads at)) (verdict_is shape (leaf_at (old.disk.reads at)) (leaf entries).leaf.fault) (leaf_differs greatest_kind (old.disk.reads at) _ refl)
  read_differs t (calm, inr (inl node)) = let damage = (node tells).damage in shape_differs (record { want = want; found = found }) (node_at damage.block) damage.fault (node_differs damage.block _ refl)

  pub damage_differs : (x : Standing) → TableFails told x old faults (block.Damaged at want found) → want ≢ found
  damage_differs x (inl fails) = read_differs x.inode fails
  damage_differs x (inr (inl bad)) =
      same_numbers at want found bad.damage.at bad.damage.shape.want bad.damage.shape.found bad.damage.is
      (shape_differs bad.damage.shape (inodes_at bad.damage.block) bad.damage.fault (inodes_differs bad.damage.block _ refl))
  damage_differs x (inr (inr fails)) = read_differs fails.tree fails.fails
