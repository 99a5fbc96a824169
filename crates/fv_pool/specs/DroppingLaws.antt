-- What calls that place nothing leave of all that was lent, one after another.
use Rattle.std.proofs.Common.{◌≡◌, ◌≢◌, ◌≤◌, ℕ, true, ap, sym, ◌∙◌, arith}
use Rattle.fv_disk.proofs.Resting.{reads_then as disk_then}
use Rattle.fv_volmap.specs.Slots.{Volume, has, slot_at}
use Rattle.fv_pool.specs.BlocksOver.{free_numbers}
use Rattle.fv_pool.specs.Dropping.{DropsOver}
use Rattle.fv_pool.specs.Lending.{Lent, ReadsOver}
use Rattle.fv_pool.specs.LendingLaws.{hole_then, joined, reads_itself}

pub reads_drops : (old new : Lent) → ReadsOver old new → DropsOver old new
reads_drops old new reads =
    let span : new.map.span ≡ old.map.span = ap (λ (m : Volume). m.span) reads.map in
    let snapshots : (s : ℕ) → s ≢ 0 → slot_at new.map s ≡ slot_at old.map s = (λ s other. ap (λ (m : Volume). slot_at m s) reads.map) in
    let same : free_numbers new.map ≡ free_numbers old.map = ap free_numbers reads.map in
    let numbers : free_numbers old.map ≤ free_numbers new.map = omega (arith, same) in
    let active : (v : ℕ) → has v (slot_at new.map 0) ≡ true → has v (slot_at old.map 0) ≡ true = (λ v does. sym (ap (λ (m : Volume). has v (slot_at m 0)) reads.map) ∙ does) in
    search (reads, span, snapshots, numbers, active)

pub drops_itself : (l : Lent) → DropsOver l l
drops_itself l = reads_drops l l (reads_itself l)

pub drops_then : (old mid new : Lent) → DropsOver old mid → DropsOver mid new → DropsOver old new
drops_then old mid new first second =
    let steps : old.steps ≤ new.steps = omega (arith, first.steps, second.steps) in
    let only_reads = disk_then old.disk mid.disk new.disk first.only_reads second.only_reads in
    let noted = hole_then old mid new first.home first.containers first.only_reads first.noted second.noted in
    let snapshots : (s : ℕ) → s ≢ 0 → slot_at new.map s ≡ slot_at old.map s = (λ s other. second.snapshots s other ∙ first.snapshots s other) in
    let numbers : free_numbers old.map ≤ free_numbers new.map = omega (arith, first.numbers, second.numbers) in
    let active : (v : ℕ) → has v (slot_at new.map 0) ≡ true → has v (slot_at old.map 0) ≡ true = (λ v does. first.active v (second.active v does)) in
    search (first, second, joined, steps, only_reads, noted, snapshots, numbers, active)
