-- The blocks of a container are marked, or a leaf of it isn't there.
use Rattle.std.proofs.Common.{◌≡◌, ◌≢◌, ℕ, ◌+◌, ◌<◌, ◌≤◌, Bool, false, ◌||◌, List, length, replicate, get_or, Option, Some, None, sym, ap, ◌∙◌, ⊎_elim, arith}
use Rattle.std.specs.Prelude.{IfSome, IsTrue}
use Rattle.std.proofs.lemmas.Bool.{cases_lt}
use Rattle.std.proofs.lemmas.List.{get_or-replicate, length-replicate}
use Rattle.std.proofs.lemmas.List.Elements.{All-get_or}
use Rattle.fv_disk.specs.Shown.{Shown as Disk}
use Rattle.fv_disk.specs.declared.fault.BlockFault.{BlockFault}
use Rattle.fv_disk.specs.declared.fault.BlockFault.TheVariants.{DiskFault, Damaged, Memory}
use Rattle.fv_bits.specs.Members.{is_member}
use Rattle.fv_bits.proofs.Laws.{is_member_past}
use Rattle.fv_image.specs.Containers.{level_width}
use Rattle.fv_container.specs.declared.entry.Entry.{Entry}
use Rattle.fv_container.specs.Chains.{Slots, paged_at, map_in}
use Rattle.fv_container.specs.Leading.{place_in}
use Rattle.fv_container.specs.Loading.{Marks, leads_somewhere}
use Rattle.fv_container.specs.Mapped.{IsHeld, IsMapped, Mapped, entry_under}
use Rattle.fv_container.specs.Paged.{Paged}
use Rattle.fv_container.specs.Seeing.{IsSomeFault}
use Rattle.fv_pool.specs.BlocksOver.{IsHoldFault}
use Rattle.fv_volume.specs.Stored.{leads}
use Rattle.fv_volumes.specs.Destroying.{MarksAt}
use Rattle.fv_volumes.proofs.Drawing.{leads_where, not_so}

-- an entry leads to no block past the places
leads_low : (map : Mapped) (b : ℕ) → IsMapped map → 1048576 ≤ b → leads map (length map.entries) b ≡ false
leads_low map b is past = not_so (leads map (length map.entries) b) (λ led.
    let at = leads_where map (length map.entries) b led in
    by (entry_under map at.vvbn) (All-get_or (λ (e : Option Entry). IfSome e IsHeld) map.entries at.vvbn None at.within is.entries) at.place at.some)
  where
    by : (o : Option Entry) → IfSome o IsHeld → place_in o ≡ b → b ≢ 0 → ⊥
    by None held place some = some (sym place)
    by (Some e) held place some = let low = held.place in absurd (omega (arith, low, place, past))

-- so the marks are those of the blocks to which entries lead
pub marks_right : (places : ℕ) → places ≡ 1048576 → (map : Mapped) (old marks : List Bool) → old ≡ replicate places false → IsMapped map → Marks old (leads_somewhere map) marks → MarksAt marks (Some map)
unfolding is_member leads
marks_right places all map old marks empty is marked b = ⊎_elim
    (λ (low : b < places).
    let inside : b < length old = omega (arith, low, ap (λ (bits : List Bool). length bits) empty, length-replicate {A = Bool} places false) in
    marked.bits b inside ∙ ap (λ (t : Bool). t || leads_somewhere map b) (ap (λ (bits : List Bool). get_or bits b false) empty ∙ get_or-replicate places b false false low))
    (λ (high : places ≤ b).
    let past : length marks ≤ b = omega (arith, high, marked.long, ap (λ (bits : List Bool). length bits) empty, length-replicate {A = Bool} places false) in
    is_member_past marks b past ∙ sym (leads_low map b is (omega (arith, all, high))))
    (cases_lt b places)

-- a fault of one of its leaves
pub hold_fault : (disk : Disk) (slots : Slots) (slot : ℕ) (paged : Paged) → paged_at slots slot ≡ Some paged → (e : BlockFault) → (IsTrue disk.tells → IsSomeFault disk.reads paged.map.tree (level_width (length paged.map.entries) 0) e) → IsHoldFault disk slots e
hold_fault disk slots slot paged there (Damaged at want found) bad = λ tells.
    let one = bad tells in
    let first : 0 + one.number ≡ one.number = omega arith in
    record {
      slot = slot;
      map = paged.map;
      there = ap map_in there;
      leaf = record { region = one.number; within = one.within; place = one.place ∙ ap (λ (n : ℕ). get_or paged.map.tree n 0) first; some = one.some; fault = one.fault };
    }
hold_fault disk slots slot paged there DiskFault bad = tt
hold_fault disk slots slot paged there Memory bad = tt
