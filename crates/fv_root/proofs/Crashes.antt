-- What a crash during a commit stands for: the machine of before, or the one of what was written.
use Rattle.std.proofs.Common.{◌≡◌, ℕ, List, Bool, sym, ap, ◌∙◌, inl, inr, ⊎_elim, ◌⊎◌}
use Rattle.std.specs.Prelude.{Some}
use Rattle.fv_disk.specs.Shown.{Image, Shown}
use Rattle.fv_codec.specs.declared.root.Root.{Root}
use Rattle.fv_bits.specs.Members.{is_member}
use Rattle.fv_model.specs.Machines.{Machine}
use Rattle.fv_image.specs.NewerRoot.{Taken}
use Rattle.fv_image.specs.Held.{Layout, layout_at, view_at, with_bits}
use Rattle.fv_image.specs.WholeMachine.{machine_from, machine_of, Tells, AllStandFor}
use Rattle.fv_image.proofs.SoundTests.{tells_from, machine_under}
use Rattle.fv_image.proofs.SoundSlots.{held_lies}
use Rattle.fv_image.proofs.SameLayout.{same_layout, same_but_bits, held_with_bits}
use Rattle.fv_root.specs.declared.find.Found.{Found}
use Rattle.fv_root.specs.Finding.{root_found}
use Rattle.fv_root.specs.Commits.{IsFoundOn, OldSide, NewSide, OldOrNew, next_found}

-- what lies on the disk, with the new root and its map, stands for this machine
abbrev pub IsReadyFor : Shown → Found → Root → List Bool → Machine → Type 0
IsReadyFor disk found root map m = machine_from (with_bits (is_member map) (layout_at (root_found (next_found found root)) disk.reads)) ≡ Some m

-- the old side stands for the machine of before
pub old_machine : (old : Shown) (found : Found) (m : Machine) (c : Image) → IsFoundOn old found → AllStandFor old m → OldSide old found c → machine_of c ≡ Some m
unfolding layout_at view_at
old_machine old found m c stands all side =
    let t : Taken = root_found found in
    let d : Image = side.from in
    let told : machine_from (layout_at t d) ≡ Some m = sym (machine_under d t (stands.images d side.left).root) ∙ all d side.left in
    let tells : Tells (layout_at t d) m = tells_from (layout_at t d) m told in
    let same : layout_at t c ≡ layout_at t d = same_layout t d c (record {
      area = side.area;
      held = λ b held. side.volumes b (held_lies (layout_at t d) b tells.sound.blocks held).0;
    }) in
    machine_under c t side.counts ∙ ap machine_from same ∙ told

-- the new side stands for the machine of what lay on the disk when the commit began, with the new root and its map
pub new_machine : (old : Shown) (found : Found) (root : Root) (map : List Bool) (m : Machine) (c : Image) → IsReadyFor old found root map m → NewSide old found root map c → machine_of c ≡ Some m
unfolding layout_at view_at
new_machine old found root map m c ready side =
    let t : Taken = root_found (next_found found root) in
    let y : Layout = with_bits (is_member map) (layout_at t old.reads) in
    let tells : Tells y m = tells_from y m ready in
    let same : layout_at t c ≡ y = same_but_bits t old.reads c
    (λ b held. side.volumes b (held_lies y b tells.sound.blocks (held_with_bits (is_member map) (layout_at t old.reads) b ∙ held)).0)
    (is_member map) side.bits in
    machine_under c t side.counts ∙ ap machine_from same ∙ ready

-- so does what a crash leaves at any moment of a commit
pub old_or_new_machine : (old : Shown) (found : Found) (root : Root) (map : List Bool) (before after : Machine) (c : Image) (g : List ℕ)
    → IsFoundOn old found → AllStandFor old before → IsReadyFor old found root map after
    → OldOrNew old found root map c g → (machine_of c ≡ Some before) ⊎ (machine_of c ≡ Some after)
old_or_new_machine old found root map before after c g stands all ready left = ⊎_elim
    (λ side. inl (old_machine old found before c stands all side))
    (λ side. inr (new_machine old found root map after c ready side))
    left.0
