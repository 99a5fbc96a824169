-- Volumes of the forms that there are. A volume without a base finds each VVBN at its own entry, and no file has a reserve.
use Rattle.std.proofs.Common.{◌≡◌, ℕ, suc, ◌<◌, Bool, true, false, refl, sym, ap, subst, ◌∙◌, arith}
use Rattle.std.specs.Prelude.{◌⊎◌, ◌+◌, min, not, Option, Some, None, ◌==◌, nat_lt, if◌then◌else◌}
use Rattle.std.specs.List.{list_all}
use Rattle.std.specs.Option.{option_map, option_map_or, option_and_then, option_or}
use Rattle.std.proofs.lemmas.Bool.{and_parts}
use Rattle.std.proofs.lemmas.Bool.Decides.{nat_tests}
use Rattle.fv_codec.specs.declared.pointer.Pointer.{Pointer}
use Rattle.fv_codec.specs.Blocks.{greatest_word}
use Rattle.fv_codec.specs.declared.inode.InodeRecord.{InodeRecord}
use Rattle.fv_model.specs.Tables.{File}
use Rattle.fv_laws.specs.Positions.{HasNoReserve}
use Rattle.fv_tables.specs.Told.{Standing, file_at, tree_of, file_told, file_in, records}
use Rattle.fv_tables.proofs.Tables.{files_told}
use Rattle.fv_image.specs.Chains.{along, parent_in, span_at, place}
use Rattle.fv_image.specs.HintRules.{is_splitting}
use Rattle.fv_image.specs.Views.{Placed, Footing, Head, View, slots}
use Rattle.fv_image.specs.Volumes.{standing_of, table_at}
use Rattle.fv_image.specs.Seen.{root_seen, volume_seen, seen}
use Rattle.fv_image.specs.WholeMachine.{has_form, has_no_reserves, is_built}
use Rattle.fv_image.proofs.SoundFacts.{of_slot}
use Rattle.fv_image.proofs.WellRoots.{of_records}
use Rattle.fv_image.proofs.SameSeen.{of_volume}

-- ---- where a volume stands on no other

none_along : (w : View) (s v : ℕ) (n : ℕ) → parent_in (w.head s) ≡ None → along w (suc n) s v ≡ w.entry s v
unfolding along
none_along w s v n none = ap (λ (p : Option ℕ). option_or (w.entry s v) (option_and_then (λ p. along w n p v) p)) none ∙ alone (w.entry s v)
  where
    alone : (o : Option Placed) → option_or o None ≡ o
    alone None = refl
    alone (Some p) = refl

-- each VVBN is found at the volume's own entry
pub place_own : (w : View) (s v : ℕ) → parent_in (w.head s) ≡ None → place w s v ≡ w.entry s v
unfolding place
place_own w s v none = so (nat_lt v (span_at w s))
  where
    so : (b : Bool) → (if b then along w 64 s v else w.entry s v) ≡ w.entry s v
    so true = none_along w s v 63 none
    so false = refl

pub no_parent : (w : View) (s : ℕ) (h : Head) → w.head s ≡ Some h → h.base ≡ None → parent_in (w.head s) ≡ None
no_parent w s h there base = ap parent_in there ∙ ap (option_map (λ (b : Footing). b.parent)) base

-- ---- forms

not_split : (b : Bool) → not b ≡ true → b ≡ false
not_split true e = absurd cc
not_split false e = refl

-- a head of a form that there is isn't being split
pub form_whole : (h : Head) → has_form h ≡ true → is_splitting h.base ≡ false
form_whole h form = not_split (is_splitting h.base) form

-- ---- the entries that a table leads to

-- the kind of the block to which a pointer of a level leads, in the tree of an owner
abbrev pub kind_led : ℕ → ℕ → ℕ
kind_led owner level = if owner == greatest_word then 5 + min level 2 else 1 + level

-- the entry under a pointer: it has the kind of the block, and the pointer tells its place or none
pub record IsLedEntry (kind : ℕ) (p : Pointer) (e : Placed) : Type 0 where
  pub hint : (p.pvbn ≡ 0) ⊎ (p.pvbn ≡ e.pvbn)
  pub kind_is : e.kind ≡ kind

module _ (w : View) (built : is_built w ≡ true) where
  parts : (list_all (λ s. option_map_or has_form (w.head s) true) slots ≡ true) × (has_no_reserves (seen w) ≡ true)
  unfolding is_built
  parts = and_parts (list_all (λ s. option_map_or has_form (w.head s) true) slots) (has_no_reserves (seen w)) built

  -- Of a view of built forms, each volume has one,
  pub built_forms : (s : ℕ) (h : Head) → s < 64 → w.head s ≡ Some h → has_form h ≡ true
  built_forms s h small there = subst (λ (o : Option Head). option_map_or has_form o true ≡ true) there (of_slot (λ s. option_map_or has_form (w.head s) true) s parts.0 small)

  -- and no file has a reserve.
  pub built_reserves : has_no_reserves (seen w) ≡ true
  built_reserves = parts.1

module _ (w : View) (s : ℕ) (h : Head) (small : s < 64) (there : w.head s ≡ Some h) where
  abbrev y : Standing
  y = standing_of w s h.active

  -- Where no file of any volume has a reserve, none of its active table has.
  pub lone_reserves : has_no_reserves (seen w) ≡ true → HasNoReserve (table_at w s h.active)
  unfolding has_no_reserves volume_seen root_seen file_in file_told
  lone_reserves none n f is = so (file_at y.inode n) refl (sym (files_told y n) ∙ is)
    where
      all : list_all (λ (f : ℕ × InodeRecord). f.1.reserve == 0) (records y) ≡ true
      all = (and_parts (list_all (λ (f : ℕ × InodeRecord). f.1.reserve == 0) (records y)) _ (of_volume w (λ s v. list_all (λ r. list_all (λ (f : ℕ × InodeRecord). f.1.reserve == 0) r.files) v.roots) s h none small there)).0

      so : (o : Option InodeRecord) → file_at y.inode n ≡ o → option_map (λ r. file_told (tree_of y n r) r) o ≡ Some f → f.reserve ≡ 0
      so None e is = absurd cc
      so (Some r) e is =
          let test : (r.reserve == 0) ≡ true = of_records y (λ f. f.1.reserve == 0) all n r e in
          let none : r.reserve ≡ 0 = grind (arith, nat_tests, test) in
          sym (reserved is) ∙ none
        where
          reserved : Some (file_told (tree_of y n r) r) ≡ Some f → r.reserve ≡ f.reserve
          reserved e = let same : file_told (tree_of y n r) r ≡ f = cc in ap (λ (f : File). f.reserve) same
