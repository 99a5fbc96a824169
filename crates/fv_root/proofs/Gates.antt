-- Gates that are written, and what holds at `Ok`.
use Rattle.std.proofs.Common.{◌≡◌, true, false, replicate, refl}
use Rattle.std.specs.Prelude.{Result, Ok, Err, OnOk}
use Rattle.fv_codec.specs.Bytes.{word_at, word, zeros}
use Rattle.fv_codec.specs.Blocks.{gate_open, open_gate}

pub zero_gate : gate_open (replicate 4096 0) ≡ false
unfolding gate_open word_at
zero_gate = refl

pub written_gate : gate_open open_gate ≡ true
unfolding gate_open open_gate word_at word zeros
written_gate = refl

-- what holds, holds at `Ok`
pub at_ok : {T E P : Type 0} (r : Result T E) → P → OnOk r P
at_ok (Ok x) p = p
at_ok (Err e) p = tt
