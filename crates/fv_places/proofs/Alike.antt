-- Volumes that two views tell alike: those of which all tables stand as they stood.
use Rattle.std.proofs.Common.{◌≡◌, ℕ, map, refl}
use Rattle.std.specs.Prelude.{Option, Some, None}
use Rattle.std.specs.Option.{option_map}
use Rattle.std.specs.FinMap as fin
use Rattle.fv_model.specs.Spelling.{name_cmp}
use Rattle.fv_tables.specs.Told.{table_told}
use Rattle.fv_image.specs.Views.{Rooted, Snap, Footing, Head, View}
use Rattle.fv_image.specs.Volumes.{standing_of, snap_at, base_on, base_told, base_from, volume_with, volume_told}

-- what stands on a head is told alike where the tables of its volume stand alike
pub base_alike : (w u : View) (b : Footing) → ((r : Rooted) → standing_of u b.parent r ≡ standing_of w b.parent r) → (o : Option Head)
    → base_told u b o ≡ base_told w b o
base_alike w u b same None = refl
base_alike w u b same (Some f) = on (snap_at f b.slot)
  where
    on : (o : Option Snap) → option_map (base_on u b f) o ≡ option_map (base_on w b f) o
    on None = refl
    on (Some p) = λ i. Some (record { parent = f.name; snapshot = p.name; table = table_told (same p.table i); splitting = b.splitting })

-- a volume is told alike where its tables stand alike, and its base is told so
pub volume_alike : (w u : View) (k : ℕ) (f : Head) → ((r : Rooted) → standing_of u k r ≡ standing_of w k r) → base_from u f.base ≡ base_from w f.base
    → volume_told u k f ≡ volume_told w k f
unfolding volume_with
volume_alike w u k f same base = λ i. record {
  kind = f.kind;
  size = f.size;
  most = f.most;
  span = f.span;
  now = f.now;
  active = table_told (same f.active i);
  snapshots = fin.from_entries {R = name_cmp} (map (λ (p : Snap). (p.name, table_told (same p.table i))) f.snapshots);
  base = base i;
  known = f.known;
}
