-- What is said of the maps of roots, one after another.
use Rattle.std.proofs.Common.{ℕ, ◌+◌, ◌<◌, ◌≤◌, List, length, get_or, take, sym, subst}
use Rattle.std.specs.Prelude.{flat_map, map}
use Rattle.std.proofs.lemmas.List.Folds.{flat_map-map}
use Rattle.fv_image.specs.Views.{Head, Rooted, View}
use Rattle.fv_faults.specs.declared.fault.Fault.{Fault}
use Rattle.fv_faults.specs.declared.lines.Lines.{Lines}
use Rattle.fv_faults.specs.Adding.{Adds}
use Rattle.fv_faults.specs.ThirdPass.{reach_lines}
use Rattle.fv_faults.specs.Walks.{Step}
use Rattle.fv_third_pass.specs.declared.roots.MapRoot.{MapRoot}
use Rattle.fv_third_pass.specs.Volumes.{map_lines, root_of}
use Rattle.fv_third_pass.proofs.Noting.{each_all, each_first, each_next}

module _ (w : View) (s : ℕ) (h : Head) (of : ℕ × Rooted → List Step) (rs : List MapRoot) where
  abbrev said : ℕ × Rooted → List Fault
  said r = reach_lines w s h r.0 (of r)

  abbrev flat_mapped : List MapRoot → List Fault
  flat_mapped xs = flat_map (λ (r : MapRoot). said (root_of r)) xs

  turned : (xs : List MapRoot) (old new : Lines) → Adds (map_lines w s h of (map root_of xs)) old new → Adds (flat_mapped xs) old new
  turned xs old new adds = subst (λ ls. Adds ls old new) (flat_map-map said root_of xs) adds

  back : (xs : List MapRoot) (old new : Lines) → Adds (flat_mapped xs) old new → Adds (map_lines w s h of (map root_of xs)) old new
  back xs old new adds = subst (λ ls. Adds ls old new) (sym (flat_map-map said root_of xs)) adds

  pub maps_first : (x : Lines) → Adds (map_lines w s h of (map root_of (take 0 rs))) x x
  maps_first x = back (take 0 rs) x x (each_first (λ r. said (root_of r)) rs x)

  pub maps_next : (k : ℕ) (d : MapRoot) (old mid new : Lines) → k < length rs → Adds (map_lines w s h of (map root_of (take k rs))) old mid
      → Adds (reach_lines w s h (get_or rs k d).slot (of (root_of (get_or rs k d)))) mid new → Adds (map_lines w s h of (map root_of (take (k + 1) rs))) old new
  maps_next k d old mid new low first one = back (take (k + 1) rs) old new (each_next (λ r. said (root_of r)) rs k d old mid new low (turned (take k rs) old mid first) one)

  pub maps_all : (k : ℕ) (old new : Lines) → length rs ≤ k → Adds (map_lines w s h of (map root_of (take k rs))) old new → Adds (map_lines w s h of (map root_of rs)) old new
  maps_all k old new long adds = back rs old new (each_all (λ r. said (root_of r)) rs k old new long (turned (take k rs) old new adds))
