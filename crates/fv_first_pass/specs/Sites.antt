-- A volume whose blocks are judged.
use Rattle.std.specs.Prelude.{◌≡◌, ℕ, ◌<◌, ◌≤◌, length, get_or, None}
use Rattle.fv_image.specs.Views.{View}
use Rattle.fv_root.specs.Formatted.{IsSize}
use Rattle.fv_first_pass.specs.Records.{free}
use Rattle.fv_first_pass.specs.declared.site.Site.{Site}

-- the numbers are in range
pub record IsSite (site : Site) : Type 0 where
  pub size : IsSize site.blocks
  pub slot : site.slot < 64
  pub span_least : 4096 ≤ site.label.span
  pub span_greatest : site.label.span ≤ 1048576
  pub snapshots : length site.label.snapshots ≡ 24
  pub names : (j : ℕ) → j < 24 → (get_or site.label.snapshots j free).name_length ≤ 64

-- An aggregate of so many blocks in which nothing lies: of what an aggregate has, the lines of one block look at that number alone.
abbrev pub bare : ℕ → View
bare blocks = record { blocks = blocks; version = 1; head = λ s. None; entry = λ s v. None }
