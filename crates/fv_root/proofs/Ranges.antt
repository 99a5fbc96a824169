-- What was read has its numbers in range.
use Rattle.std.proofs.Common.{◌≡◌, ◌≤◌, ◌<◌, ◌^◌, ℕ, zero, suc, List, drop, refl, subst, arith, Ok, Err}
use Rattle.std.specs.Prelude.{if◌then◌else◌}
use Rattle.std.specs.List.{AllByRecursion}
use Rattle.std.proofs.lemmas.List.Elements.{All-from_recursion}
use Rattle.std.proofs.lemmas.Bool.Decides.{nat_tests}
use Rattle.fv_codec.specs.declared.superblock.Super.{Super}
use Rattle.fv_codec.specs.declared.root.Root.{Root}
use Rattle.fv_codec.specs.Bytes.{word_at}
use Rattle.fv_codec.specs.Fields.{Verdict, ◌then◌, in_range, each, items, reading, verdicts}
use Rattle.fv_codec.specs.Blocks.{super_at, super_fields, root_at, root_fields, IsRoot, last_place, greatest_word, asks_place, place_of}
use Rattle.fv_root.specs.Formatted.{IsSize}

reading_ok : {X : Type 0} (said : Verdict) (x y : X) → reading said x ≡ Ok y → (said ≡ Ok tt) × (x ≡ y)
reading_ok (Ok fine) x y e = (refl, cc)
reading_ok (Err fault) x y e = absurd cc

then_ok : (first next : Verdict) → (first then next) ≡ Ok tt → (first ≡ Ok tt) × (next ≡ Ok tt)
then_ok (Ok fine) next e = (refl, e)
then_ok (Err fault) next e = absurd cc

in_range_ok : (least greatest x : ℕ) → in_range least greatest x ≡ Ok tt → (least ≤ x) × (x ≤ greatest)
in_range_ok least greatest x e = (grind (arith, nat_tests), grind (arith, nat_tests))

pub super_in_range : (block : List ℕ) (s : Super) → super_at block ≡ Ok s → IsSize s.blocks
unfolding super_at
super_in_range block s e =
    let is = reading_ok (verdicts super_fields block) _ s e in
    let mark = then_ok _ _ is.0 in
    let size = then_ok _ _ mark.1 in
    let bounds = in_range_ok 512 1048576 (word_at 8 block) size.0 in
    subst (λ (x : Super). IsSize x.blocks) is.1 (record { least = bounds.0; greatest = bounds.1 })

each_in_range : (count : ℕ) (bytes : List ℕ) → each count 8 asks_place bytes ≡ Ok tt → AllByRecursion (λ place. place ≤ last_place) (items count 8 place_of bytes)
unfolding each items
each_in_range zero bytes e = tt
each_in_range (suc count) bytes e =
    let said = then_ok _ _ e in
    ((in_range_ok 0 last_place (word_at 0 bytes) said.0).1, each_in_range count (drop 8 bytes) said.1)

pub root_in_range : (block : List ℕ) (r : Root) → root_at block ≡ Ok r → IsRoot r
unfolding root_at
root_in_range block r e =
    let is = reading_ok (verdicts root_fields block) _ r e in
    let mark = then_ok _ _ is.0 in
    let generation = then_ok _ _ mark.1 in
    let version = then_ok _ _ generation.1 in
    let gap = then_ok _ _ version.1 in
    let labels = then_ok _ _ gap.1 in
    let bounds = in_range_ok 1 1 (word_at 16 block) version.0 in
    subst IsRoot is.1 (record { least = bounds.0; greatest = bounds.1; labels = All-from_recursion _ _ (each_in_range 64 (drop 64 block) labels.0) })

fits : (x : ℕ) → x ≤ greatest_word → x < 2 ^ 64
fits x le = omega arith

pub generation_in_range : (block : List ℕ) (r : Root) → root_at block ≡ Ok r → r.generation < 2 ^ 64
unfolding root_at
generation_in_range block r e =
    let is = reading_ok (verdicts root_fields block) _ r e in
    let mark = then_ok _ _ is.0 in
    let generation = then_ok _ _ mark.1 in
    let bounds = in_range_ok 0 greatest_word (word_at 8 block) generation.0 in
    subst (λ (x : Root). x.generation < 2 ^ 64) is.1 (fits (word_at 8 block) bounds.1)
