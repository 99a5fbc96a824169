-- Disks whose content stays over several calls.
use Rattle.std.proofs.Common.{◌≡◌, refl, sym, ◌∙◌, inl, inr, ⊎_elim, arith}
use Rattle.fv_disk.specs.Shown.{Image, Shown, IsSettled}
use Rattle.fv_disk.specs.DiskCalls.{OnlyReads, Stays}
use Rattle.fv_disk.specs.HostCalls.{Rests}

pub stays_itself : (disk : Shown) → Stays disk disk
stays_itself disk = record { tells = refl; reads = refl; no_more = λ c now. now; no_fewer = λ c now. now }

pub stays_on : (old mid new : Shown) → Stays old mid → Stays mid new → Stays old new
stays_on old mid new first second = record {
  tells = second.tells ∙ first.tells;
  reads = second.reads ∙ first.reads;
  no_more = λ c now. first.no_more c (second.no_more c now);
  no_fewer = λ c now. second.no_fewer c (first.no_fewer c now);
}

pub rests_itself : (disk : Shown) → Rests disk disk
rests_itself disk = record { stays = stays_itself disk; faults = refl; write_faults = refl }

pub rests_on : (old mid new : Shown) → Rests old mid → Rests mid new → Rests old new
rests_on old mid new first second = record {
  stays = stays_on old mid new first.stays second.stays;
  faults = second.faults ∙ first.faults;
  write_faults = second.write_faults ∙ first.write_faults;
}

-- reads, and then more of them
pub reads_then : (old mid new : Shown) → OnlyReads old mid → OnlyReads mid new → OnlyReads old new
reads_then old mid new first second = record {
  stays = stays_on old mid new first.stays second.stays;
  time = record {
    later = omega (arith, first.time.later, second.time.later);
    nothing_else = λ t c g le left. ⊎_elim
        (λ (earlier : mid.since t c g). ⊎_elim
        (λ (o : old.since t c g). inl o)
        (λ now. inr (second.stays.no_fewer c now.0, now.1 ∙ sym second.given))
        (first.time.nothing_else t c g le earlier))
        (λ now. inr now)
        (second.time.nothing_else t c g (omega (arith, le, first.time.later)) left);
    keeps = λ t c g le left. second.time.keeps t c g (omega (arith, le, first.time.later)) (first.time.keeps t c g le left);
  };
  given = second.given ∙ first.given;
  ends = second.ends ∙ first.ends;
  faults = omega (arith, first.faults, second.faults);
  write_faults = second.write_faults ∙ first.write_faults;
}

-- each image of a settled disk is what it reads
pub settled_image : (disk : Shown) (c : Image) → IsSettled disk → disk.images c → c ≡ disk.reads
settled_image disk c settled now = λ i. λ a. settled c now a i
