-- What is known of delayed entries in the image under a root.
use Rattle.std.specs.Prelude.{◌≡◌, ◌<◌, ℕ, Bool, true, false, List, Some, get_or}
use Rattle.fv_disk.specs.Shown.{Image}
use Rattle.fv_image.specs.Views.{Head, entry_count, is_delayed}
use Rattle.fv_image.specs.Held.{view_at}
use Rattle.fv_root.specs.declared.find.Found.{Found}
use Rattle.fv_root.specs.Finding.{root_found}

-- Of a slot that isn't marked no entry is delayed in the image under the root. Of a marked one nothing is said.
abbrev pub AreKnown : Image → Found → List Bool → Type 0
AreKnown i found delays = (s : ℕ) (h : Head) → s < 64 → get_or delays s true ≡ false → (view_at (root_found found) i).head s ≡ Some h → (v : ℕ) → v < entry_count h.span → is_delayed (view_at (root_found found) i) s h v ≡ false
