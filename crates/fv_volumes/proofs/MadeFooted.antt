-- A new volume, which stands on no other: each clone of the session stands on what it stood on.
use Rattle.std.proofs.Common.{ℕ, List, Option, Some, None, sym, ap, subst, ◌∙◌, arith}
use Rattle.std.specs.Prelude.{IfSome}
use Rattle.std.proofs.lemmas.List.{get_or-set_same, get_or-set_other}
use Rattle.fv_model.specs.declared.commands.Kind.{Kind}
use Rattle.fv_container.specs.Chains.{own_entry}
use Rattle.fv_container.specs.Mapped.{Mapped}
use Rattle.fv_image.specs.Views.{Head}
use Rattle.fv_pool.specs.declared.pool.Pool.{Pool}
use Rattle.fv_volume.specs.declared.state.Base.{Base}
use Rattle.fv_volume.specs.declared.state.VolumeState.{VolumeState}
use Rattle.fv_volume.specs.Files.{IsLabelled}
use Rattle.fv_volume.specs.States.{States, state_at, with_state}
use Rattle.fv_volume.proofs.TablesOf.{no_footing}
use Rattle.fv_volumes.specs.Footing.{AreFooted, IsFooted, IsOnBase}
use Rattle.fv_volumes.proofs.AddedClone.{footed_added}
use Rattle.fv_volumes.proofs.Footed.{on_base_over}
use Rattle.fv_volumes.proofs.Made.{IsAdded}

pub added_footed : (pool : Pool) (states : States) (slot : ℕ) (name : List ℕ) (size : ℕ) (kind : Kind) (y : VolumeState) (new_pool : Pool) → IsAdded pool states slot name size kind y new_pool → ((s : ℕ) → IfSome (state_at states s) (IsLabelled s))
    → AreFooted states pool.containers → AreFooted (with_state states slot (Some y)) new_pool.containers
added_footed pool states slot name size kind y new_pool is labelled footed = footed_added states (with_state states slot (Some y)) slot is.admits.1.free.within is.admits.1.free.free y
    (get_or-set_same states slot (Some y) None (let within = is.admits.1.free.within in let all = is.long in omega (arith, within, all)))
    (λ s other. get_or-set_other states slot s (Some y) None other) pool.containers footed new_pool.containers
    (λ s c other at. on_base_over pool.containers new_pool.containers c
    (λ v. ap (λ (m : Option Mapped). own_entry m v) (is.others c.slot (λ same. other (sym (subst (λ (o : Option VolumeState). IfSome o (IsLabelled s)) at (labelled s)).slot_is ∙ same)))))
    (subst (λ (o : Option Base). IfSome o (λ b. IsFooted states y b × IsOnBase new_pool.containers y)) (sym (no_footing y.base (ap (λ (h : Head). h.base) is.head))) tt)
