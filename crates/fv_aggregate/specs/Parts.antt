-- What a session is for those who call it.
use Rattle.std.specs.Prelude.{ℕ, Bool, [], false, List, Option, refl}
use Rattle.std.specs.Coded.{Coded, code_by, coded×, coded_ℕ, coded_bool, coded_list, coded_option}
use Rattle.fv_disk.specs.Shown.{Shown}
use Rattle.fv_pool.specs.declared.pool.Pool.{Pool}
use Rattle.fv_pool.specs.contracts.pool.Pool as pool
use Rattle.fv_volume.specs.contracts.state.VolumeState as state
use Rattle.fv_volume.specs.States.{States}
use Rattle.fv_cp.specs.Placing.{AreReady}

pub record Parts : Type 0 where
  -- the volumes by slot
  pub volumes : States
  -- what they share: cache, aggregate map, containers, and the root of the last consistency point
  pub pool : Pool
  -- by slot, whether entries of its volume may be delayed though it hasn't changed
  pub delays : List Bool
  -- how many blocks were added since the last consistency point, at most: overheads of new volumes, and blocks of files
  pub pending : ℕ
  -- the disk's count of faults after the call in which a write or a barrier failed, if one did
  pub failed : Option ℕ

-- the parts as a tuple, by which a proof tells sessions apart
abbrev pub parts_code : Coded Parts
parts_code =
    code_by (States × (Pool × (List Bool × (ℕ × Option ℕ))))
    (coded× (coded_list (coded_option state.the_row.coded)) (coded× pool.the_row.coded (coded× (coded_list coded_bool) (coded× coded_ℕ (coded_option coded_ℕ)))))
    (λ s. (s.volumes, (s.pool, (s.delays, (s.pending, s.failed))))) (λ t. record { volumes = t.0; pool = t.1.0; delays = t.1.1.0; pending = t.1.1.1.0; failed = t.1.1.1.1 }) (λ _. refl)

-- a disk that tells nothing
abbrev pub silent : Shown
silent = record {
  tells = false;
  reads = λ a. [];
  images = λ c. Unit {0};
  moment = 0;
  since = λ t c g. Unit {0};
  given = [];
  faults = 0;
  write_faults = 0;
  ends = record { left = []; source_faults = 0; sink_faults = 0 };
}

-- The volumes and what they share have what a call on a volume needs, but for the cache: what that holds is right over a disk that tells nothing.
abbrev pub AreSet : Pool → States → Type 0
AreSet pool states = AreReady silent pool states
