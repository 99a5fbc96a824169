-- Where the first three passes found nothing, what the walk along the tables of a volume asks of it.
use Rattle.std.proofs.Common.{◌≡◌, ℕ, ◌<◌, ◌≤◌, Bool, List, drop, map, length, get_or}
use Rattle.std.specs.Prelude.{None, ◌||◌}
use Rattle.fv_disk.specs.Shown.{Image}
use Rattle.fv_bits.specs.Members.{is_member}
use Rattle.fv_codec.specs.declared.label.Label.{Label}
use Rattle.fv_image.specs.NewerRoot.{Taken}
use Rattle.fv_image.specs.Views.{head_of}
use Rattle.fv_first_pass.specs.declared.first.Known.{Known}
use Rattle.fv_second_pass.specs.declared.reached.Reached.{Reached}
use Rattle.fv_second_pass.specs.Told.{IsLabelled, ground_at}
use Rattle.fv_third_pass.specs.Counted.{words_of}
use Rattle.fv_third_pass.specs.declared.roots.MapRoot.{MapRoot}
use Rattle.fv_third_pass.specs.Volumes.{AreClean, root_of}
use Rattle.fv_third_pass.proofs.VolumeParts.{are_clean}
use Rattle.fv_fourth_pass.specs.declared.reach_sets.Sets.{Sets}
use Rattle.fv_fourth_pass.specs.Based.{IsOver}
use Rattle.fv_fourth_pass.specs.Needed.{HasShared}
use Rattle.fv_fourth_pass.specs.Placed.{IsBased}
use Rattle.fv_fourth_pass.specs.Silent.{IsSilentVolume, any_of, left_of}
use Rattle.fv_fourth_pass.specs.Used.{is_out}
use Rattle.fv_fourth_pass.proofs.Sets.{has_shared, is_based, over}

-- a volume with its label, the roots that the label names, and its sets
pub record IsAsked (t : Taken) (i : Image) (known : Known) (reached : Reached) (s : ℕ) (l : Label) (roots : List MapRoot) (x : Sets) : Type 0 where
  pub labelled : IsLabelled t i known s l
  pub clean : AreClean (ground_at t i s l.span) (get_or t.root.labels s 0) roots
  pub based : IsBased (ground_at t i s l.span).view s (head_of l) x.base (words_of (get_or known.rows.items s None))
  pub over : IsOver (ground_at t i s l.span).view s (head_of l) x.held x.base (words_of (get_or known.rows.items s None))
  pub shared : (set : List Bool) → ((v : ℕ) → is_member set v ≡ (any_of reached s (map root_of (drop 1 roots)) v || is_out x.base v))
      → HasShared (ground_at t i s l.span).view s (head_of l) set

pub silent_asked : (t : Taken) (i : Image) → ((b : ℕ) → length (i b) ≡ 4096) → 1 ≤ t.blocks → (known : Known) (reached : Reached) (s : ℕ) → s < 64
    → (l : Label) (roots : List MapRoot) (x : Sets) → IsSilentVolume t i known reached s l roots x → IsAsked t i known reached s l roots x
unfolding head_of
silent_asked t i long size known reached s low l roots x is =
    let walked = is.silent.walked in
    let out = left_of l x.base in
    record {
      labelled = record { passed = walked.passed; label = is.label };
      clean = are_clean t i long size known reached walked s low l is.label roots is.roots;
      based = is_based t i long size known reached walked s low l is.label x.held x.base out is.sets;
      over = over t i long size known reached walked s low l is.label x.held x.base out is.sets;
      shared = has_shared t i long size known reached walked s low l is.label x.held x.base out is.sets is.silent.third roots is.roots;
    }
