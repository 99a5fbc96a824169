-- Over a disk that reads as before volumes are what they were between points.
use Rattle.std.proofs.Common.{◌≡◌, flat_map, sym, subst}
use Rattle.std.specs.FinMap as fin
use Rattle.fv_disk.specs.Shown.{Image, Shown}
use Rattle.fv_disk.specs.DiskCalls.{Stays}
use Rattle.fv_model.specs.Machines.{Machine}
use Rattle.fv_model.specs.Spelling.{name_cmp}
use Rattle.fv_image.specs.Held.{Keeps, layout_at}
use Rattle.fv_image.specs.Views.{slots}
use Rattle.fv_image.specs.WholeMachine.{Tells}
use Rattle.fv_root.specs.Finding.{IsFound, root_found}
use Rattle.fv_container.specs.Chains.{paged_at}
use Rattle.fv_pool.specs.declared.pool.Pool.{Pool}
use Rattle.fv_volume.specs.States.{States, state_at}
use Rattle.fv_volumes.specs.UnderRoot.{IsLentAt, IsMapOf}
use Rattle.fv_volumes.proofs.Resting.{held_rests, named_rests, ready_rests}
use Rattle.fv_cp.specs.Held.{machine_held, IsHeld}
use Rattle.fv_cp.specs.Placing.{AreReady}

module _ (d e : Shown) (stays : Stays d e) (pool : Pool) (states : States) where
  pub all_ready_still : AreReady d pool states → AreReady e pool states
  all_ready_still ready s = ready_rests d e stays pool s (state_at states s) (ready s)

  pub held_still : (before : Machine) → IsHeld d pool states before → IsHeld e pool states before
  held_still before held = record {
    found = record { reads = subst (λ (i : Image). IsFound i pool.found) (sym stays.reads) held.found.reads; images = λ c now. held.found.images c (stays.no_more c now) };
    tells = subst (λ (i : Image). Tells (layout_at (root_found pool.found) i) before) (sym stays.reads) held.tells;
    keeps = λ c now. subst (λ (i : Image). Keeps (root_found pool.found) i c) (sym stays.reads) (held.keeps c (stays.no_more c now));
    map = subst (λ (i : Image). IsMapOf i pool.found pool.map) (sym stays.reads) held.map;
    slots = λ s below. subst (λ (i : Image). IsLentAt i pool.found s (state_at states s) (paged_at pool.containers s)) (sym stays.reads) (held.slots s below);
    spaced = held.spaced;
    names = held.names;
    each = λ s. held_rests d e stays pool s (state_at states s) (held.each s);
    commits = held.commits;
    footed = held.footed;
  }

  pub machine_rests : machine_held e pool states ≡ machine_held d pool states
  unfolding machine_held
  machine_rests = λ j. record {
    blocks = pool.found.blocks;
    version = pool.version;
    volumes = fin.from_entries {R = name_cmp} (flat_map (λ s. named_rests d e stays pool (state_at states s) j) slots);
  }
