-- How many positions an inode file has, where a cell that is in memory is written.
use Rattle.std.proofs.Common.{◌≡◌, ℕ, ◌/◌, ◌^◌, ◌<◌, ◌≤◌, inl, ⊎_elim, List, refl, sym, ap, ◌∙◌, arith}
use Rattle.std.specs.Prelude.{is_some}
use Rattle.std.specs.FinMap as fin
use Rattle.std.proofs.lemmas.Bool.{cases_eq, cases_lt}
use Rattle.fv_codec.specs.declared.pointer.Pointer.{Pointer}
use Rattle.fv_model.specs.Trees.{fan}
use Rattle.fv_tables.specs.Spelled.{Rooted, pointer_at, stamp_in}
use Rattle.fv_tables.specs.Told.{tree_told}
use Rattle.fv_tables.proofs.Pointers.{above}
use Rattle.fv_tree.specs.Counting.{positions_of}
use Rattle.fv_tree.specs.Writing.{IsWritten}
use Rattle.fv_tree.specs.Erasing.{StandsAt}
use Rattle.fv_tree.proofs.Counts.{same_len, stands_told}
use Rattle.fv_tree.proofs.Erased.{stamp_there}

-- a write within the levels of a cell that stands with its marks adds none
pub written_count : (t u : Rooted) (i s : ℕ) (block : List ℕ) → IsWritten t u i s block → u.levels ≡ t.levels → ((level : ℕ) → level ≤ t.levels → StandsAt t level (i / fan ^ level)) → positions_of t ≡ positions_of u
written_count t u i s block is levels stood =
    same_len (fin.len (tree_told t).stamps) (tree_told t).stamps (tree_told u).stamps refl
    (λ level place. stands_told u level place ∙ same level place ∙ sym (stands_told t level place))
  where
    same : (level place : ℕ) → is_some (stamp_in (pointer_at u level place)) ≡ is_some (stamp_in (pointer_at t level place))
    same level place = ⊎_elim
        (λ (up : t.levels < level). ap (λ (p : Pointer). is_some (stamp_in p)) (above u level place (omega (arith, up, levels)) ∙ sym (above t level place up)))
        (λ low. ⊎_elim
        (λ (at : place ≡ i / fan ^ level).
        ap is_some (ap (λ q. stamp_in (pointer_at u level q)) at ∙ is.way level (omega (arith, low, levels)))
        ∙ sym (ap is_some (ap (λ q. stamp_in (pointer_at t level q)) at ∙ stamp_there (pointer_at t level (i / fan ^ level)) (stood level low))))
        (λ off. ap is_some (is.others level place off (inl low)))
        (cases_eq place (i / fan ^ level)))
        (cases_lt t.levels level)
