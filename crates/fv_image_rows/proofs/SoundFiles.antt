-- Images with files, snapshots, clones and delayed entries that are sound in each rule: most by computation, those on bits, numbers of ids
-- and commits by the laws of `SmallImages`.
use Rattle.std.proofs.Common.{◌≡◌, ◌≤◌, true, false, [], ◌∷◌, refl, ap, arith}
use Rattle.std.specs.Prelude.{Some}
use Rattle.std.proofs.lemmas.Bool.{and_from}
use Rattle.fv_disk.specs.Shown.{Image}
use Rattle.fv_model.specs.Machines.{Machine}
use Rattle.fv_model.specs.Space.{overhead, nodes_above, use_of, commit}
use Rattle.fv_image.specs.NewerRoot.{Taken, root_of}
use Rattle.fv_image.specs.Held.{layout_at, view_at}
use Rattle.fv_image.specs.Volumes.{volumes_with, told_with, volume_told, told}
use Rattle.fv_image.specs.Seen.{seen}
use Rattle.fv_image.specs.BlockRules.{has_true_map}
use Rattle.fv_image.specs.ReachRules.{is_reach, has_maps_of_reach}
use Rattle.fv_image.specs.VolumeRules.{has_wide_spans, has_use_in_size, has_commits_in_capacity}
use Rattle.fv_image.specs.Soundness.{IsSound, are_tables}
use Rattle.fv_image_rows.proofs.Computing.{bytes_compute, roots_compute, heads_compute, volumes_compute, views_compute, tables_compute, layouts_compute, rules_compute, soundness_computes}
use Rattle.fv_image_rows.proofs.SmallImages.{map_is_true, map_is_reach, few_ids, no_base, small_base, span_is_wide, use_alone, use_of_two, use_fits, commit_fits, commits_fit, tables_with, sound_with}
use Rattle.fv_image_rows.proofs.FileVectors.{hi, z, mark, base_of, rooted, machine_with, one_file, one_file_root, one_file_view, one_file_head, one_file_machine, one_volume, snapshot, snapshot_root, snapshot_view, snapshot_machine, parent_head, parent_volume, clone, clone_root, clone_view, clone_head, clone_machine, clone_volume, splitting, splitting_root, splitting_view, splitting_head, splitting_machine, splitting_volume, mirror, mirror_root, mirror_view, mirror_head, mirror_machine, mirror_volume, source_head, source_volume, delayed_file, delayed_file_root, delayed_file_view, delayed_file_machine}

-- ---- aggregate maps: the bits are those of labels, nodes and entries

one_file_map : has_true_map (layout_at one_file_root one_file) ≡ true
unfolding layouts_compute bytes_compute
one_file_map = map_is_true one_file_root one_file 128 63 0 (13 ∷ 10 ∷ 11 ∷ 12 ∷ 7 ∷ 8 ∷ 9 ∷ []) refl refl refl refl

snapshot_map : has_true_map (layout_at snapshot_root snapshot) ≡ true
unfolding layouts_compute bytes_compute
snapshot_map = map_is_true snapshot_root snapshot 128 255 1 (16 ∷ 13 ∷ 14 ∷ 15 ∷ 7 ∷ 8 ∷ 9 ∷ 10 ∷ 11 ∷ 12 ∷ []) refl refl refl refl

clone_map : has_true_map (layout_at clone_root clone) ≡ true
unfolding layouts_compute bytes_compute
clone_map = map_is_true clone_root clone 128 255 255 (18 ∷ 15 ∷ 16 ∷ 17 ∷ 7 ∷ 8 ∷ 9 ∷ 10 ∷ 13 ∷ 14 ∷ 23 ∷ 20 ∷ 21 ∷ 22 ∷ 11 ∷ 12 ∷ 19 ∷ []) refl refl refl refl

splitting_map : has_true_map (layout_at splitting_root splitting) ≡ true
unfolding layouts_compute bytes_compute
splitting_map = map_is_true splitting_root splitting 128 255 31 (16 ∷ 13 ∷ 14 ∷ 15 ∷ 7 ∷ 8 ∷ 9 ∷ 10 ∷ 11 ∷ 12 ∷ 20 ∷ 18 ∷ 19 ∷ 17 ∷ []) refl refl refl refl

mirror_map : has_true_map (layout_at mirror_root mirror) ≡ true
unfolding layouts_compute bytes_compute
mirror_map = map_is_true mirror_root mirror 128 255 63 (16 ∷ 13 ∷ 14 ∷ 15 ∷ 7 ∷ 8 ∷ 11 ∷ 12 ∷ 21 ∷ 18 ∷ 19 ∷ 20 ∷ 9 ∷ 10 ∷ 17 ∷ []) refl refl refl refl

delayed_file_map : has_true_map (layout_at delayed_file_root delayed_file) ≡ true
unfolding layouts_compute bytes_compute
delayed_file_map = map_is_true delayed_file_root delayed_file 128 255 1 (16 ∷ 13 ∷ 14 ∷ 15 ∷ 7 ∷ 8 ∷ 9 ∷ 10 ∷ 11 ∷ 12 ∷ []) refl refl refl refl

-- ---- volume maps: the bits are those of what each root reaches

one_file_active : is_reach one_file_view 0 one_file_head (0, one_file_head.active) ≡ true
unfolding views_compute bytes_compute
one_file_active = map_is_reach one_file_view 0 one_file_head 0 one_file_head.active 3 0 0 (0 ∷ 1 ∷ []) refl refl refl (λ v. refl)

one_file_reach : has_maps_of_reach one_file_view ≡ true
unfolding heads_compute has_maps_of_reach
one_file_reach = and_from _ true (and_from _ true one_file_active refl) refl

clone_parent : is_reach clone_view 0 parent_head (0, parent_head.active) ≡ true
unfolding views_compute bytes_compute
clone_parent = map_is_reach clone_view 0 parent_head 0 parent_head.active 10 0 0 (1 ∷ 3 ∷ []) refl refl refl (λ v. refl)

clone_kept : is_reach clone_view 0 parent_head (1, rooted 0 7 2) ≡ true
unfolding views_compute bytes_compute
clone_kept = map_is_reach clone_view 0 parent_head 1 (rooted 0 7 2) 5 0 0 (0 ∷ 2 ∷ []) refl refl refl (λ v. refl)

clone_own : is_reach clone_view 1 clone_head (0, clone_head.active) ≡ true
unfolding views_compute bytes_compute
clone_own = map_is_reach clone_view 1 clone_head 0 clone_head.active 10 0 0 (1 ∷ 3 ∷ []) refl refl refl (λ v. refl)

clone_reach : has_maps_of_reach clone_view ≡ true
unfolding heads_compute has_maps_of_reach
clone_reach = and_from _ _ (and_from _ _ clone_parent (and_from _ true clone_kept refl)) (and_from _ true (and_from _ true clone_own refl) refl)

delayed_file_active : is_reach delayed_file_view 0 one_file_head (0, one_file_head.active) ≡ true
unfolding views_compute bytes_compute
delayed_file_active = map_is_reach delayed_file_view 0 one_file_head 0 one_file_head.active 3 0 0 (0 ∷ 1 ∷ []) refl refl refl (λ v. refl)

delayed_file_reach : has_maps_of_reach delayed_file_view ≡ true
unfolding heads_compute has_maps_of_reach
delayed_file_reach = and_from _ true (and_from _ true delayed_file_active refl) refl

splitting_parent : is_reach splitting_view 0 parent_head (0, parent_head.active) ≡ true
unfolding views_compute bytes_compute
splitting_parent = map_is_reach splitting_view 0 parent_head 0 parent_head.active 10 0 0 (1 ∷ 3 ∷ []) refl refl refl (λ v. refl)

splitting_kept : is_reach splitting_view 0 parent_head (1, rooted 0 7 2) ≡ true
unfolding views_compute bytes_compute
splitting_kept = map_is_reach splitting_view 0 parent_head 1 (rooted 0 7 2) 5 0 0 (0 ∷ 2 ∷ []) refl refl refl (λ v. refl)

splitting_own : is_reach splitting_view 1 splitting_head (0, splitting_head.active) ≡ true
unfolding views_compute bytes_compute
splitting_own = map_is_reach splitting_view 1 splitting_head 0 splitting_head.active 5 0 0 (0 ∷ 2 ∷ []) refl refl refl (λ v. refl)

splitting_reach : has_maps_of_reach splitting_view ≡ true
unfolding heads_compute has_maps_of_reach
splitting_reach = and_from _ _ (and_from _ _ splitting_parent (and_from _ true splitting_kept refl)) (and_from _ true (and_from _ true splitting_own refl) refl)

snapshot_active : is_reach snapshot_view 0 parent_head (0, parent_head.active) ≡ true
unfolding views_compute bytes_compute
snapshot_active = map_is_reach snapshot_view 0 parent_head 0 parent_head.active 10 0 0 (1 ∷ 3 ∷ []) refl refl refl (λ v. refl)

snapshot_kept : is_reach snapshot_view 0 parent_head (1, rooted 0 7 2) ≡ true
unfolding views_compute bytes_compute
snapshot_kept = map_is_reach snapshot_view 0 parent_head 1 (rooted 0 7 2) 5 0 0 (0 ∷ 2 ∷ []) refl refl refl (λ v. refl)

snapshot_reach : has_maps_of_reach snapshot_view ≡ true
unfolding heads_compute has_maps_of_reach
snapshot_reach = and_from _ true (and_from _ _ snapshot_active (and_from _ true snapshot_kept refl)) refl

mirror_parent : is_reach mirror_view 0 source_head (0, source_head.active) ≡ true
unfolding views_compute bytes_compute
mirror_parent = map_is_reach mirror_view 0 source_head 0 source_head.active 3 0 0 (0 ∷ 1 ∷ []) refl refl refl (λ v. refl)

mirror_kept : is_reach mirror_view 0 source_head (1, rooted 0 7 2) ≡ true
unfolding views_compute bytes_compute
mirror_kept = map_is_reach mirror_view 0 source_head 1 (rooted 0 7 2) 3 0 0 (0 ∷ 1 ∷ []) refl refl refl (λ v. refl)

mirror_own : is_reach mirror_view 1 mirror_head (0, mirror_head.active) ≡ true
unfolding views_compute bytes_compute
mirror_own = map_is_reach mirror_view 1 mirror_head 0 mirror_head.active 3 0 0 (0 ∷ 1 ∷ []) refl refl refl (λ v. refl)

mirror_reach : has_maps_of_reach mirror_view ≡ true
unfolding heads_compute has_maps_of_reach
mirror_reach = and_from _ _ (and_from _ _ mirror_parent (and_from _ true mirror_kept refl)) (and_from _ true (and_from _ true mirror_own refl) refl)

-- ---- the volumes that are told

one_file_first : volume_told one_file_view 0 one_file_head ≡ one_volume
unfolding tables_compute
one_file_first = refl

snapshot_first : volume_told snapshot_view 0 parent_head ≡ parent_volume
unfolding tables_compute
snapshot_first = refl

clone_first : volume_told clone_view 0 parent_head ≡ parent_volume
unfolding tables_compute
clone_first = refl

clone_second : volume_told clone_view 1 clone_head ≡ clone_volume
unfolding tables_compute
clone_second = refl

splitting_first : volume_told splitting_view 0 parent_head ≡ parent_volume
unfolding tables_compute
splitting_first = refl

splitting_second : volume_told splitting_view 1 splitting_head ≡ splitting_volume
unfolding tables_compute
splitting_second = refl

mirror_first : volume_told mirror_view 0 source_head ≡ source_volume
unfolding tables_compute
mirror_first = refl

mirror_second : volume_told mirror_view 1 mirror_head ≡ mirror_volume
unfolding tables_compute
mirror_second = refl

delayed_file_first : volume_told delayed_file_view 0 one_file_head ≡ one_volume
unfolding tables_compute
delayed_file_first = refl

-- ---- spans

one_file_spans : has_wide_spans (seen one_file_view) ≡ true
unfolding volumes_compute has_wide_spans
one_file_spans = and_from _ true (span_is_wide 200 4096 0 (volume_told one_file_view 0 one_file_head) one_volume one_file_first no_base (omega arith)) refl

clone_spans : has_wide_spans (seen clone_view) ≡ true
unfolding volumes_compute has_wide_spans
clone_spans = and_from _ _ (span_is_wide 200 4096 0 (volume_told clone_view 0 parent_head) parent_volume clone_first no_base (omega arith))
    (and_from _ true (span_is_wide 200 4096 2 (volume_told clone_view 1 clone_head) clone_volume clone_second (small_base (base_of false) 2 hi refl) (omega arith)) refl)

snapshot_spans : has_wide_spans (seen snapshot_view) ≡ true
unfolding volumes_compute has_wide_spans
snapshot_spans = and_from _ true (span_is_wide 200 4096 0 (volume_told snapshot_view 0 parent_head) parent_volume snapshot_first no_base (omega arith)) refl

splitting_spans : has_wide_spans (seen splitting_view) ≡ true
unfolding volumes_compute has_wide_spans
splitting_spans = and_from _ _ (span_is_wide 200 4096 0 (volume_told splitting_view 0 parent_head) parent_volume splitting_first no_base (omega arith))
    (and_from _ true (span_is_wide 200 4096 2 (volume_told splitting_view 1 splitting_head) splitting_volume splitting_second (small_base (base_of true) 2 hi refl) (omega arith)) refl)

delayed_file_spans : has_wide_spans (seen delayed_file_view) ≡ true
unfolding volumes_compute has_wide_spans
delayed_file_spans = and_from _ true (span_is_wide 200 4096 0 (volume_told delayed_file_view 0 one_file_head) one_volume delayed_file_first no_base (omega arith)) refl

mirror_spans : has_wide_spans (seen mirror_view) ≡ true
unfolding volumes_compute has_wide_spans
mirror_spans = and_from _ _ (span_is_wide 200 4096 0 (volume_told mirror_view 0 source_head) source_volume mirror_first no_base (omega arith))
    (and_from _ true (span_is_wide 200 4096 0 (volume_told mirror_view 1 mirror_head) mirror_volume mirror_second no_base (omega arith)) refl)

-- ---- use

one_uses : use_of one_volume ≤ 2
one_uses = use_alone one_volume 2 refl (few_ids 2 hi) refl

pub parent_uses : use_of parent_volume ≤ 5
parent_uses = use_of_two parent_volume 3 z (115 ∷ []) 2 hi refl refl refl refl refl

source_uses : use_of source_volume ≤ 5
source_uses = use_of_two source_volume 2 hi (115 ∷ []) 2 hi refl refl refl refl refl

clone_uses : use_of clone_volume ≤ 2
clone_uses = use_alone clone_volume 2 refl (few_ids 4 mark) refl

splitting_uses : use_of splitting_volume ≤ 2
splitting_uses = use_alone splitting_volume 2 refl (few_ids 2 hi) refl

mirror_uses : use_of mirror_volume ≤ 2
mirror_uses = use_alone mirror_volume 2 refl (few_ids 2 hi) refl

mirror_sizes : has_use_in_size (seen mirror_view) ≡ true
unfolding volumes_compute has_use_in_size
mirror_sizes = and_from _ _ (use_fits (volume_told mirror_view 0 source_head) source_volume 5 100 mirror_first source_uses (omega arith))
    (and_from _ true (use_fits (volume_told mirror_view 1 mirror_head) mirror_volume 2 100 mirror_second mirror_uses (omega arith)) refl)

one_file_sizes : has_use_in_size (seen one_file_view) ≡ true
unfolding volumes_compute has_use_in_size
one_file_sizes = and_from _ true (use_fits (volume_told one_file_view 0 one_file_head) one_volume 2 100 one_file_first one_uses (omega arith)) refl

clone_sizes : has_use_in_size (seen clone_view) ≡ true
unfolding volumes_compute has_use_in_size
clone_sizes = and_from _ _ (use_fits (volume_told clone_view 0 parent_head) parent_volume 5 100 clone_first parent_uses (omega arith))
    (and_from _ true (use_fits (volume_told clone_view 1 clone_head) clone_volume 2 100 clone_second clone_uses (omega arith)) refl)

snapshot_sizes : has_use_in_size (seen snapshot_view) ≡ true
unfolding volumes_compute has_use_in_size
snapshot_sizes = and_from _ true (use_fits (volume_told snapshot_view 0 parent_head) parent_volume 5 100 snapshot_first parent_uses (omega arith)) refl

splitting_sizes : has_use_in_size (seen splitting_view) ≡ true
unfolding volumes_compute has_use_in_size
splitting_sizes = and_from _ _ (use_fits (volume_told splitting_view 0 parent_head) parent_volume 5 100 splitting_first parent_uses (omega arith))
    (and_from _ true (use_fits (volume_told splitting_view 1 splitting_head) splitting_volume 2 100 splitting_second splitting_uses (omega arith)) refl)

delayed_file_sizes : has_use_in_size (seen delayed_file_view) ≡ true
unfolding volumes_compute has_use_in_size
delayed_file_sizes = and_from _ true (use_fits (volume_told delayed_file_view 0 one_file_head) one_volume 2 100 delayed_file_first one_uses (omega arith)) refl

-- ---- commits

one_file_commits : has_commits_in_capacity (seen one_file_view) ≡ true
unfolding volumes_compute overhead nodes_above
one_file_commits = commit_fits (seen one_file_view) 140 (ap commit one_file_first) refl (omega arith)

clone_commits : has_commits_in_capacity (seen clone_view) ≡ true
unfolding volumes_compute overhead nodes_above
clone_commits = commits_fit (seen clone_view) 140 40 2 clone_volume (ap commit clone_first) (ap commit clone_second) refl clone_uses (omega arith)

snapshot_commits : has_commits_in_capacity (seen snapshot_view) ≡ true
unfolding volumes_compute overhead nodes_above
snapshot_commits = commit_fits (seen snapshot_view) 140 (ap commit snapshot_first) refl (omega arith)

splitting_commits : has_commits_in_capacity (seen splitting_view) ≡ true
unfolding volumes_compute overhead nodes_above
splitting_commits = commits_fit (seen splitting_view) 140 40 2 splitting_volume (ap commit splitting_first) (ap commit splitting_second) refl splitting_uses (omega arith)

delayed_file_commits : has_commits_in_capacity (seen delayed_file_view) ≡ true
unfolding volumes_compute overhead nodes_above
delayed_file_commits = commit_fits (seen delayed_file_view) 140 (ap commit delayed_file_first) refl (omega arith)

mirror_commits : has_commits_in_capacity (seen mirror_view) ≡ true
unfolding volumes_compute overhead nodes_above
mirror_commits = commits_fit (seen mirror_view) 140 40 2 mirror_volume (ap commit mirror_first) (ap commit mirror_second) refl mirror_uses (omega arith)

-- ---- the rules on tables

one_file_tables : are_tables (seen one_file_view) ≡ true
unfolding rules_compute are_tables
one_file_tables = tables_with (seen one_file_view) refl one_file_spans one_file_sizes one_file_commits

snapshot_tables : are_tables (seen snapshot_view) ≡ true
unfolding rules_compute are_tables
snapshot_tables = tables_with (seen snapshot_view) refl snapshot_spans snapshot_sizes snapshot_commits

clone_tables : are_tables (seen clone_view) ≡ true
unfolding rules_compute are_tables
clone_tables = tables_with (seen clone_view) refl clone_spans clone_sizes clone_commits

splitting_tables : are_tables (seen splitting_view) ≡ true
unfolding rules_compute are_tables
splitting_tables = tables_with (seen splitting_view) refl splitting_spans splitting_sizes splitting_commits

mirror_tables : are_tables (seen mirror_view) ≡ true
unfolding rules_compute are_tables
mirror_tables = tables_with (seen mirror_view) refl mirror_spans mirror_sizes mirror_commits

delayed_file_tables : are_tables (seen delayed_file_view) ≡ true
unfolding rules_compute are_tables
delayed_file_tables = tables_with (seen delayed_file_view) refl delayed_file_spans delayed_file_sizes delayed_file_commits

-- ---- each is sound

pub one_file_sound : IsSound (layout_at one_file_root one_file)
unfolding soundness_computes
one_file_sound = sound_with (layout_at one_file_root one_file) refl one_file_map one_file_tables one_file_reach

pub snapshot_sound : IsSound (layout_at snapshot_root snapshot)
unfolding soundness_computes
snapshot_sound = sound_with (layout_at snapshot_root snapshot) refl snapshot_map snapshot_tables snapshot_reach

pub clone_sound : IsSound (layout_at clone_root clone)
unfolding soundness_computes
clone_sound = sound_with (layout_at clone_root clone) refl clone_map clone_tables clone_reach

pub splitting_sound : IsSound (layout_at splitting_root splitting)
unfolding soundness_computes
splitting_sound = sound_with (layout_at splitting_root splitting) refl splitting_map splitting_tables splitting_reach

pub mirror_sound : IsSound (layout_at mirror_root mirror)
unfolding soundness_computes
mirror_sound = sound_with (layout_at mirror_root mirror) refl mirror_map mirror_tables mirror_reach

pub delayed_file_sound : IsSound (layout_at delayed_file_root delayed_file)
unfolding soundness_computes
delayed_file_sound = sound_with (layout_at delayed_file_root delayed_file) refl delayed_file_map delayed_file_tables delayed_file_reach

-- ---- and stands for the machine of its script, as far as forms are built

-- under its root an image is sound and tells a machine
pub record Means (i : Image) (t : Taken) (m : Machine) : Type 0 where
  pub counts : root_of i ≡ Some t
  pub sound : IsSound (layout_at t i)
  pub machine : told (view_at t i) ≡ m

one_file_means : Means one_file one_file_root one_file_machine
unfolding roots_compute heads_compute volumes_with told_with
one_file_means = record { counts = refl; sound = one_file_sound; machine = λ i. machine_with ((97 ∷ [], one_file_first i) ∷ []) }

snapshot_means : Means snapshot snapshot_root snapshot_machine
unfolding roots_compute heads_compute volumes_with told_with
snapshot_means = record { counts = refl; sound = snapshot_sound; machine = λ i. machine_with ((97 ∷ [], snapshot_first i) ∷ []) }

clone_means : Means clone clone_root clone_machine
unfolding roots_compute heads_compute volumes_with told_with
clone_means = record { counts = refl; sound = clone_sound; machine = λ i. machine_with ((97 ∷ [], clone_first i) ∷ (99 ∷ [], clone_second i) ∷ []) }

splitting_means : Means splitting splitting_root splitting_machine
unfolding roots_compute heads_compute volumes_with told_with
splitting_means = record { counts = refl; sound = splitting_sound; machine = λ i. machine_with ((97 ∷ [], splitting_first i) ∷ (99 ∷ [], splitting_second i) ∷ []) }

mirror_means : Means mirror mirror_root mirror_machine
unfolding roots_compute heads_compute volumes_with told_with
mirror_means = record { counts = refl; sound = mirror_sound; machine = λ i. machine_with ((97 ∷ [], mirror_first i) ∷ (119 ∷ [], mirror_second i) ∷ []) }

delayed_file_means : Means delayed_file delayed_file_root delayed_file_machine
unfolding roots_compute heads_compute volumes_with told_with
delayed_file_means = record { counts = refl; sound = delayed_file_sound; machine = λ i. machine_with ((97 ∷ [], delayed_file_first i) ∷ []) }
