-- The name in a record of an inode block is one.
use Rattle.std.proofs.Common.{◌≡◌, ◌≢◌, ℕ, Bool, true, false, List, [], ◌∷◌, length, take, drop, refl, ap, arith}
use Rattle.std.specs.Prelude.{Ok, Err, is_ok, nat_le, ◌&&◌, if◌then◌else◌}
use Rattle.std.specs.List.{list_all}
use Rattle.std.proofs.lemmas.List.{length-take-le}
use Rattle.std.proofs.lemmas.Bool.Decides.{nat_tests}
use Rattle.fv_codec.specs.declared.inode.InodeRecord.{InodeRecord}
use Rattle.fv_codec.specs.Fields.{Verdict, is_name_byte, ◌then◌, all_name, all_zero, name_filled}
use Rattle.fv_codec.specs.Blocks.{IsInodeRecord}
use Rattle.fv_model.specs.Spelling.{is_name}
use Rattle.fv_tables.proofs.Lists.{both}
use Rattle.fv_walk.specs.Naming.{name_of}

first_ok : (v w : Verdict) → (v then w) ≡ Ok tt → v ≡ Ok tt
first_ok (Ok u) w e = refl
first_ok (Err fault) w e = absurd (grind (arith, ap is_ok e))

spelled : (xs : List ℕ) → all_name xs ≡ Ok tt → list_all is_name_byte xs ≡ true
unfolding all_name
spelled [] e = refl
spelled (x ∷ xs) e = so (λ rest. spelled xs rest) (is_name_byte x) e
  where
    so : (all_name xs ≡ Ok tt → list_all is_name_byte xs ≡ true) → (b : Bool) → (if b then all_name xs else Err (record { want = 97; found = x })) ≡ Ok tt → (b && list_all is_name_byte xs) ≡ true
    so rest true e = rest e
    so rest false e = absurd (grind (arith, ap is_ok e))

pub is_named : (r : InodeRecord) → IsInodeRecord r → r.name_length ≢ 0 → is_name (name_of r) ≡ true
unfolding name_filled
is_named r fits some =
    let long : length (take r.name_length r.name) ≡ r.name_length = length-take-le r.name_length r.name (omega (arith, fits.name_length, fits.name_long)) in
    let low : nat_le 1 (length (take r.name_length r.name)) ≡ true = grind (arith, nat_tests, long, some) in
    let high : nat_le (length (take r.name_length r.name)) 64 ≡ true = let le = fits.name_length in grind (arith, nat_tests, long, le) in
    both (nat_le 1 (length (take r.name_length r.name)) && nat_le (length (take r.name_length r.name)) 64) (list_all is_name_byte (take r.name_length r.name))
    (both (nat_le 1 (length (take r.name_length r.name))) (nat_le (length (take r.name_length r.name)) 64) low high)
    (spelled (take r.name_length r.name) (first_ok (all_name (take r.name_length r.name)) (all_zero (drop r.name_length r.name)) fits.name))
