-- The tables that a volume keeps, that of its base and those of its snapshots.
use Rattle.std.proofs.Common.{◌≡◌, ℕ, Bool, true, false, not, List, [], ◌∷◌, ◌++◌, length, Option, Some, None, refl, ◌∙◌, arith}
use Rattle.std.specs.Prelude.{All, IfSome, ◌==◌}
use Rattle.std.specs.Option.{option_map}
use Rattle.std.proofs.lemmas.Bool.{and_parts}
use Rattle.std.proofs.lemmas.Bool.Decides.{nat_tests}
use Rattle.std.proofs.lemmas.List.Elements.{All-cons, All-head, All-nil, All-tail}
use Rattle.fv_image.specs.HintRules.{is_splitting}
use Rattle.fv_image.specs.Views.{Footing}
use Rattle.fv_volmap.specs.Slots.{slot_of_base}
use Rattle.fv_volume.specs.declared.state.Base.{Base}
use Rattle.fv_volume.specs.declared.state.Snap.{Snap}
use Rattle.fv_volume.specs.declared.state.VolumeState.{VolumeState}
use Rattle.fv_volume.specs.Files.{IsLabelled}
use Rattle.fv_volume.specs.OneVolume.{base_table, tables_of}
use Rattle.fv_volume.specs.States.{footing_in, head_in}

-- what holds of all of them holds of those of its snapshots
pub snaps_all : (P : Snap → Type 0) (x : VolumeState) → All P (tables_of x) → All P x.snapshots
snaps_all P x = by x.base
  where
    by : (o : Option Base) → All P (base_table o ++ x.snapshots) → All P x.snapshots
    by None all = all
    by (Some b) all = All-tail P (record { slot = slot_of_base; name = b.snapshot; table = b.table }) x.snapshots all

-- and of that of its base,
pub base_all : (P : Snap → Type 0) (x : VolumeState) → All P (tables_of x) → All P (base_table x.base)
base_all P x = by x.base
  where
    by : (o : Option Base) → All P (base_table o ++ x.snapshots) → All P (base_table o)
    by None all = All-nil P
    by (Some b) all = All-cons P (record { slot = slot_of_base; name = b.snapshot; table = b.table }) [] (All-head P (record { slot = slot_of_base; name = b.snapshot; table = b.table }) x.snapshots all) (All-nil P)

-- which has a slot of its own
pub base_slot : (P Q : Snap → Type 0) → ((q : Snap) → q.slot ≡ slot_of_base → P q → Q q) → (o : Option Base) → All P (base_table o) → All Q (base_table o)
base_slot P Q each None all = All-nil Q
base_slot P Q each (Some b) all =
    let q : Snap = record { slot = slot_of_base; name = b.snapshot; table = b.table } in
    All-cons Q q [] (each q refl (All-head P q [] all)) (All-nil Q)

-- where none is counted, none is kept
pub none_counted : (x : VolumeState) → true ≡ (length (tables_of x) == 0) → tables_of x ≡ []
none_counted x is = no_length (tables_of x) (grind (arith, nat_tests, is))
  where
    no_length : (kept : List Snap) → length kept ≡ 0 → kept ≡ []
    no_length [] few = refl
    no_length (q ∷ qs) few = absurd cc

-- a volume whose label can be written isn't being split
pub head_whole : (slot : ℕ) (x : VolumeState) → IsLabelled slot x → is_splitting (head_in x).base ≡ false
head_whole slot x labelled = opposite (is_splitting (head_in x).base) labelled.form
  where
    opposite : (t : Bool) → not t ≡ true → t ≡ false
    opposite true e = absurd cc
    opposite false e = refl

pub is_whole : (slot : ℕ) (x : VolumeState) → IsLabelled slot x → IfSome x.base (λ b. b.splitting ≡ false)
is_whole slot x labelled = by x.base (head_whole slot x labelled)
  where
    by : (o : Option Base) → is_splitting (option_map footing_in o) ≡ false → IfSome o (λ b. b.splitting ≡ false)
    by None e = tt
    by (Some b) e = e

-- no base is seen only of a volume without one
pub no_footing : (o : Option Base) → option_map footing_in o ≡ None → o ≡ None
no_footing None e = refl
no_footing (Some b) e = absurd (wrong e)
  where
    wrong : ◌≡◌ {A = Option Footing} (Some (footing_in b)) None → ⊥
    wrong f = cc
