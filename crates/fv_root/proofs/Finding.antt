-- Reading the fixed blocks, call by call.
use Rattle.std.proofs.Common.{◌≡◌, ℕ, List, refl, sym, ap, ◌∙◌, arith, inl, inr, ◌⊎◌}
use Rattle.std.specs.Prelude.{◌≢◌, Bool, true, false, Option, Some, None, Result, Ok, Err, IfSome, ◌==◌, if◌then◌else◌}
use Rattle.std.specs.Option.{option_map, is_some, ok_or}
use Rattle.std.proofs.lemmas.Bool.{cases_eq}
use Rattle.std.proofs.lemmas.Bool.Decides.{nat_tests}
use Rattle.fv_disk.specs.Shown.{Image}
use Rattle.fv_codec.specs.declared.shape.Shape.{Shape}
use Rattle.fv_codec.specs.declared.root.Root.{Root}
use Rattle.fv_codec.specs.Blocks.{super_at, gate_open, root_at, IsRoot}
use Rattle.fv_image.specs.Layout.{superblock, gate_place, root_place}
use Rattle.fv_image.specs.NewerRoot.{behind, follows, newer, taken_of, root_of}
use Rattle.fv_root.specs.declared.find.Found.{Found}
use Rattle.fv_root.specs.declared.find.RootFault.{RootFault}
use Rattle.fv_root.specs.declared.find.RootFault.TheVariants.{DiskFault, NotAggregate, Damaged}
use Rattle.fv_root.proofs.Ranges.{root_in_range}
use Rattle.fv_root.specs.Finding.{Finds, ReadsBehind, ReadsRoot, is_older_open, other_slot, root_found}

pub said_in_range : (at : ℕ) (block : List ℕ) (root : Root) → ReadsRoot at (root_at block) (Ok root) → IsRoot root
said_in_range at block root said = so (root_at block) refl said
  where
    so : (there : Result Root Shape) → root_at block ≡ there → ReadsRoot at there (Ok root) → IsRoot root
    so (Ok r) e said = let same : r ≡ root = cc in root_in_range block root (rw (← same) e)
    so (Err shape) e said = absurd cc

-- ---- the answer

gate_is : (i : Image) (slot : ℕ) (root : Option Root) → behind i slot ≡ option_map Ok root → gate_open (i (gate_place slot)) ≡ is_some root
gate_is i slot root e = gate_of (gate_open (i (gate_place slot))) (root_at (i (root_place slot))) root e
  where
    gate_of : (gate : Bool) (there : Result Root Shape) (root : Option Root) → (if gate then Some there else None) ≡ option_map Ok root → gate ≡ is_some root
    gate_of true there (Some root) e = refl
    gate_of true there None e = absurd cc
    gate_of false there (Some root) e = absurd cc
    gate_of false there None e = refl

no_fault : (root : Option Root) (shape : Shape) → option_map Ok root ≡ Some (Err shape) → ⊥
no_fault None shape e = absurd cc
no_fault (Some root) shape e = absurd cc

-- the second slot's read ends in a fault
pub second_fault : (i : Image) (blocks : ℕ) (first : Option Root) (fault : RootFault) → super_at (i superblock) ≡ Ok (record { blocks = blocks }) → behind i 0 ≡ option_map Ok first → ReadsBehind i 1 (Err fault) → Finds i (Err fault)
second_fault i blocks first NotAggregate super whole reads = absurd reads
second_fault i blocks first DiskFault super whole reads = tt
second_fault i blocks first (Damaged at want found) super whole reads = record {
  super = rw super refl;
  slot = 1;
  within = omega arith;
  place = reads.0;
  fault = reads.1;
  first = λ s shape below fault.
      let e : s ≡ 0 = omega arith in
      no_fault first shape (sym whole ∙ ap (behind i) (sym e) ∙ fault);
}

-- none counts only where no gate is open
none_open : (first second : Option Root) → newer (option_map Ok first) (option_map Ok second) ≡ None → (is_some first ≡ false) × (is_some second ≡ false)
none_open None None e = (refl, refl)
none_open (Some first) None e = absurd cc
none_open None (Some second) e = absurd cc
none_open (Some first) (Some second) e = absurd (chosen (follows second.generation first.generation) e)
  where
    chosen : (later : Bool) → if◌then◌else◌ {A = Option (ℕ × Root)} later (Some (1, second)) (Some (0, first)) ≡ None → ⊥
    chosen true e = absurd cc
    chosen false e = absurd cc

taken_none : (blocks : ℕ) (chosen : Option (ℕ × Root)) → taken_of (Ok (record { blocks = blocks })) chosen ≡ None → chosen ≡ None
taken_none blocks None e = refl
taken_none blocks (Some chosen) e = absurd cc

pub found_so : (i : Image) (blocks : ℕ) (first second : Option Root) (chosen : Option Found)
    → super_at (i superblock) ≡ Ok (record { blocks = blocks }) → behind i 0 ≡ option_map Ok first → behind i 1 ≡ option_map Ok second
    → option_map root_found chosen ≡ taken_of (Ok (record { blocks = blocks })) (newer (option_map Ok first) (option_map Ok second))
    → IfSome chosen (λ found. found.older_open ≡ is_older_open found.slot first second)
    → Finds i (ok_or chosen NotAggregate)
unfolding root_of
found_so i blocks first second None super one two taken older =
    let none = none_open first second (taken_none blocks _ (sym taken)) in
    inr (gate_is i 0 first one ∙ none.0, gate_is i 1 second two ∙ none.1)
found_so i blocks first second (Some found) super one two taken older = record {
  root = rw (super, one, two) (sym taken);
  older = sym (older ∙ open_of found.slot (cases_eq found.slot 0));
}
  where
    open_of : (slot : ℕ) → (slot ≡ 0) ⊎ (slot ≢ 0) → is_older_open slot first second ≡ gate_open (i (gate_place (other_slot slot)))
    open_of slot (inl e) = rw e (sym (gate_is i 1 second two))
    open_of slot (inr ne) =
        let e : other_slot slot ≡ 0 = omega arith in
        let test : (slot == 0) ≡ false = grind (arith, nat_tests) in
        rw (e, test) (sym (gate_is i 0 first one))
