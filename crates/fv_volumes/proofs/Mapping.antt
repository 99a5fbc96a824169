-- The blocks that the entries of a loaded container lead to are those that the image's view tells.
use Rattle.std.proofs.Common.{◌≡◌, ℕ, List, length, Option, Some, None, refl, sym, ap, ◌∙◌}
use Rattle.std.specs.FinMap as fin
use Rattle.std.specs.Ordering.{nat_cmp}
use Rattle.fv_disk.specs.Shown.{Image}
use Rattle.fv_codec.specs.declared.label.Label.{Label}
use Rattle.fv_image.specs.Views.{block_in, entry_count}
use Rattle.fv_image.specs.Held.{entry_from}
use Rattle.fv_container.specs.declared.entry.Entry.{Entry}
use Rattle.fv_container.specs.Mapped.{IsMapped, Mapped, entry_under}
use Rattle.fv_container.specs.Spelled.{IsOpened}
use Rattle.fv_root.specs.declared.find.Found.{Found}
use Rattle.fv_pool.specs.Keeping.{Blocks, kept_or}
use Rattle.fv_volume.specs.Loading.{entry_block, label_of}
use Rattle.fv_volume.specs.States.{placed_in}
use Rattle.fv_volumes.proofs.Viewed.{entry_of}

nothing : Blocks
nothing = fin.empty

nothing_kept : (b : ℕ) → fin.get nothing b ≡ None
unfolding nothing
nothing_kept b = fin.get-empty nat_cmp b

same_block : (i : Image) (e : Option Entry) → block_in (placed_in nothing i e) ≡ entry_block i e
same_block i None = refl
same_block i (Some e) = ap (λ (o : Option (List ℕ)). kept_or o (i e.pvbn)) (nothing_kept e.pvbn)

module _ (found : Found) (i : Image) (s : ℕ) (l : Label) (map : Mapped) (lies : label_of found i s ≡ Some l) (opened : IsOpened i l.container l.height map) (size : length map.entries ≡ entry_count l.span) (valid : IsMapped map) where
  pub block_there : (v : ℕ) → entry_block i (entry_under map v) ≡ block_in (entry_from (label_of found i s) i v)
  block_there v =
      sym (same_block i (entry_under map v))
      ∙ ap block_in (entry_of nothing i nothing_kept (Some l) (Some map) v (opened, (size, valid)) ∙ ap (λ (o : Option Label). entry_from o i v) (sym lies))
