-- A write to a disk that tells nothing.
use Rattle.std.proofs.Common.{ℕ, List, refl, subst, sym, inl, ⊎_elim, arith}
use Rattle.std.proofs.lemmas.Bool.{cases_eq, false≢true}
use Rattle.std.specs.Prelude.{Result, IsTrue, false}
use Rattle.fv_disk.specs.declared.Failed.{Failed}
use Rattle.fv_disk.specs.Shown.{Image, IsBlock, SameBut, Elapses, HasCause}
use Rattle.fv_disk.specs.DiskCalls.{Writes}
use Rattle.fv_filehost.specs.Unknown.{AreBlocks, unknown}

still_blocks : (at : ℕ) (before c : Image) → AreBlocks before → SameBut at before c → IsBlock (c at) → AreBlocks c
still_blocks at before c blocks same block a = ⊎_elim
    (λ here. subst (λ (x : ℕ). IsBlock (c x)) (sym here) block)
    (λ elsewhere. subst IsBlock (sym (same a elsewhere)) (blocks a))
    (cases_eq a at)

nothing_told : {A : Type 0} → IsTrue false → A
nothing_told tells = absurd (false≢true tells)

-- the counts of disk faults before and after, and those of the source and the sink, which stay
module _ (faults write_faults faults_after write_faults_after source_faults sink_faults : ℕ) where
  elapses : Elapses (unknown faults write_faults source_faults sink_faults) (unknown faults_after write_faults_after source_faults sink_faults)
  elapses = record {
    later = omega arith;
    nothing_else = λ t c g le left. inl left;
    keeps = λ t c g le left. left;
  }

  pub written : (at : ℕ) (block : List ℕ) (result : Result Unit Failed)
      → HasCause faults faults_after result → HasCause write_faults write_faults_after result
      → Writes (unknown faults write_faults source_faults sink_faults) at block (unknown faults_after write_faults_after source_faults sink_faults) result
  written at block result cause write_cause = record {
    tells = refl;
    written = λ tells. nothing_told tells;
    others = λ tells. nothing_told tells;
    no_more = λ c now. (c, now, λ a ne. refl);
    no_fewer = still_blocks at;
    time = elapses;
    given = refl;
    ends = refl;
    cause = cause;
    write_cause = write_cause;
  }
