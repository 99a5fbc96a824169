-- The calls of a disk that is lent to a cache, and what a caller of the cache learns of it.
use Rattle.std.proofs.Common.{◌≡◌, ℕ, List, ◌∷◌, Result, ap}
use Rattle.std.specs.Prelude.{drop, get_or}
use Rattle.fv_disk.specs.declared.Failed.{Failed}
use Rattle.fv_disk.specs.Shown.{Ends, Shown, Elapses}
use Rattle.fv_disk.specs.DiskCalls.{Stays, Reads, Writes, Settles, OnlyReads}
use Rattle.fv_first_pass.specs.declared.fault.CheckFault.{CheckFault}
use Rattle.fv_first_pass.specs.Causes.{HasRead}
use Rattle.fv_check.specs.Lending.{lent_shown}

stays_lent : (n m : ℕ) (old new : Shown) → Stays old new → Stays (lent_shown n old) (lent_shown m new)
stays_lent n m old new stays = record { tells = stays.tells; reads = stays.reads; no_more = stays.no_more; no_fewer = stays.no_fewer }

elapses_lent : (n m : ℕ) (old new : Shown) → Elapses old new → Elapses (lent_shown n old) (lent_shown m new)
elapses_lent n m old new time = record { later = time.later; nothing_else = time.nothing_else; keeps = time.keeps }

ends_lent : (n : ℕ) (old new : Shown) → new.ends ≡ old.ends → (lent_shown n new).ends ≡ (lent_shown n old).ends
ends_lent n old new same = ap (λ (e : Ends). record e { left = n ∷ e.left }) same

pub reads_lent : (n : ℕ) (old new : Shown) (at : ℕ) (block : List ℕ) (result : Result Unit Failed) → Reads old at new block result
    → Reads (lent_shown n old) at (lent_shown n new) block result
reads_lent n old new at block result reads = record {
  gives = reads.gives;
  stays = stays_lent n n old new reads.stays;
  time = elapses_lent n n old new reads.time;
  given = reads.given;
  ends = ends_lent n old new reads.ends;
  cause = reads.cause;
  write_faults = reads.write_faults;
}

pub writes_lent : (n : ℕ) (old new : Shown) (at : ℕ) (block : List ℕ) (result : Result Unit Failed) → Writes old at block new result
    → Writes (lent_shown n old) at block (lent_shown n new) result
writes_lent n old new at block result writes = record {
  tells = writes.tells;
  written = writes.written;
  others = writes.others;
  no_more = writes.no_more;
  no_fewer = writes.no_fewer;
  time = elapses_lent n n old new writes.time;
  given = writes.given;
  ends = ends_lent n old new writes.ends;
  cause = writes.cause;
  write_cause = writes.write_cause;
}

pub settles_lent : (n : ℕ) (old new : Shown) (result : Result Unit Failed) → Settles old new result → Settles (lent_shown n old) (lent_shown n new) result
settles_lent n old new result settles = record {
  tells = settles.tells;
  reads = settles.reads;
  durable = settles.durable;
  no_more = settles.no_more;
  no_fewer = settles.no_fewer;
  time = elapses_lent n n old new settles.time;
  given = settles.given;
  ends = ends_lent n old new settles.ends;
  cause = settles.cause;
  write_cause = settles.write_cause;
}

only_reads_back : (n m : ℕ) (old new : Shown) → OnlyReads (lent_shown n old) (lent_shown m new) → OnlyReads old new
only_reads_back n m old new only = record {
  stays = record { tells = only.stays.tells; reads = only.stays.reads; no_more = only.stays.no_more; no_fewer = only.stays.no_fewer };
  time = record { later = only.time.later; nothing_else = only.time.nothing_else; keeps = only.time.keeps };
  given = only.given;
  ends = ap (λ (e : Ends). record e { left = drop 1 e.left }) only.ends;
  faults = only.faults;
  write_faults = only.write_faults;
}

-- behind calls that only read, the loan has its name still
pub same_loan : {T : Type 0} → (n m : ℕ) (old new : Shown) (result : Result T CheckFault) → HasRead (lent_shown n old) (lent_shown m new) result → m ≡ n
same_loan n m old new result read = ap (λ (e : Ends). get_or e.left 0 0) read.only_reads.ends

-- and what is said of the cache holds of the disk
pub read_back : {T : Type 0} → (n m : ℕ) (old new : Shown) (result : Result T CheckFault) → HasRead (lent_shown n old) (lent_shown m new) result → HasRead old new result
read_back n m old new result read = record { only_reads = only_reads_back n m old new read.only_reads; cause = read.cause }
