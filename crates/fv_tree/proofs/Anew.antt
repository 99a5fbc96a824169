-- What a flush does to the places of a tree, step by step.
use Rattle.std.proofs.Common.{◌≡◌, ℕ, Bool, inl, inr, Option, refl, sym, ap, subst, ◌∙◌, arith, None}
use Rattle.std.specs.FinMap as fin
use Rattle.std.proofs.lemmas.Bool.{cases_eq}
use Rattle.fv_codec.specs.declared.pointer.Pointer.{Pointer}
use Rattle.fv_tree.specs.declared.kept.Tree.{Tree}
use Rattle.fv_tree.specs.Spelled.{pointer_at}
use Rattle.fv_tree.specs.Sources.{Shown, Use, WasFree}
use Rattle.fv_tree.specs.Standing.{standing}
use Rattle.fv_tree.specs.Flushing.{Loaded, Flushes, IsLeft, IsPlaced, changed_of, loaded}
use Rattle.fv_tree.specs.Altering.{PlacesAnew}
use Rattle.fv_tree.proofs.Altered.{before_then}
use Rattle.fv_tree.proofs.Cases.{bit, false_is_true}

-- ---- one after another

pub anew_itself : (s : Loaded) (free : ℕ → Type 0) → PlacesAnew s free s
anew_itself s free level place = inr (inr (record { pointer = refl; changed = refl }))

-- nothing was done
pub anew_still : (old new : Shown) (t u : Tree) (free : ℕ → Type 0) → new.held ≡ old.held → u ≡ t → PlacesAnew (loaded old t) free (loaded new u)
anew_still old new t u free held same level place = inr (inr (record { pointer = λ i. pointer_at (standing (λ w. fin.get (held i) w) (same i)) level place; changed = λ i. changed_of (same i) level place }))

pub anew_then : (a b c : Loaded) (first_free next_free free : ℕ → Type 0) → ((v : ℕ) → first_free v → free v) → ((v : ℕ) → next_free v → free v) → PlacesAnew a first_free b → PlacesAnew b next_free c → PlacesAnew a free c
anew_then a b c first_free next_free free sooner later first second level place = elim (second level place) [
  | inl hole ↦ inl hole
  | inr (inl now) ↦ elim (first level place) [
    | inl none ↦ inl (now.stamp ∙ none)
    | inr (inl was) ↦ false_is_true (b.changed level place) was.done now.was
    | inr (inr was) ↦ inr (inl (record { stamp = now.stamp ∙ ap (λ (p : Pointer). p.stamp) was.pointer; was = sym was.changed ∙ now.was; done = now.done; fresh = later _ now.fresh }))
  ]
  | inr (inr now) ↦ elim (first level place) [
    | inl none ↦ inl (ap (λ (p : Pointer). p.stamp) now.pointer ∙ none)
    | inr (inl was) ↦ inr (inl (record { stamp = ap (λ (p : Pointer). p.stamp) now.pointer ∙ was.stamp; was = was.was; done = now.changed ∙ was.done; fresh = subst free (sym (ap (λ (p : Pointer). p.vvbn) now.pointer)) (sooner _ was.fresh) }))
    | inr (inr was) ↦ inr (inr (before_then a b c level place was now))
  ]
]

pub left_then : (t u w : Tree) → IsLeft t u → IsLeft u w → IsLeft t w
left_then t u w first second = record {
  owner = second.owner ∙ first.owner;
  levels = second.levels ∙ first.levels;
  root = λ none. second.root (ap (λ (p : Pointer). p.stamp) (first.root none) ∙ none) ∙ first.root none;
  cells = (let one = first.cells in let two = second.cells in omega (arith, one, two));
}

-- ---- the moments at which a VVBN was free

pub free_now : {B : Type 0} (shown : B → Shown) (goes : B → B → Type 0) (old new : B) → goes old old → goes old new → (v : ℕ) → (fin.get (shown old).held v ≡ None) × ((shown old).used v ≡ None) → WasFree shown goes old new v
free_now shown goes old new before after v at = record { moment = old; before = before; after = after; held = at.0; used = at.1 }

module _ {B : Type 0} (shown : B → Shown) (goes : B → B → Type 0) (goes_on : (old mid new : B) → goes old mid → goes mid new → goes old new) (old mid new : B) where
  pub free_sooner : goes mid new → (v : ℕ) → WasFree shown goes old mid v → WasFree shown goes old new v
  free_sooner on v free = record { moment = free.moment; before = free.before; after = goes_on free.moment mid new free.after on; held = free.held; used = free.used }

  pub free_later : goes old mid → (v : ℕ) → WasFree shown goes mid new v → WasFree shown goes old new v
  free_later on v free = record { moment = free.moment; before = goes_on old mid free.moment on free.before; after = free.after; held = free.held; used = free.used }

  pub anew_on : (a b c : Loaded) → goes old mid → goes mid new → PlacesAnew a (WasFree shown goes old mid) b → PlacesAnew b (WasFree shown goes mid new) c → PlacesAnew a (WasFree shown goes old new) c
  anew_on a b c first second = anew_then a b c (WasFree shown goes old mid) (WasFree shown goes mid new) (WasFree shown goes old new) (free_sooner second) (free_later first)

-- ---- a flush

pub flush_anew : {hides : Bool} (old : Loaded) (used : ℕ → Option Use) (new : Loaded) (uses : ℕ → Option Use) (free : ℕ → Type 0) → Flushes hides old used new uses → ((v : ℕ) → IsPlaced old new v → free v) → PlacesAnew old free new
flush_anew old used new uses free is fresh level place = elim (cases_eq (pointer_at new.tree level place).stamp 0) [
  | inl none ↦ inl none
  | inr some ↦ inr (elim (bit (new.changed level place)) [
    | inr now ↦ inr (record { pointer = is.stays level place (inl now); changed = now ∙ sym (is.fewer level place now).0 })
    | inl done ↦ elim (bit (old.changed level place)) [
      | inl same ↦ inr (record { pointer = is.stays level place (inr same); changed = done ∙ sym same })
      | inr was ↦ inl (record {
        stamp = is.stamps level place;
        was = was;
        done = done;
        fresh = fresh (pointer_at new.tree level place).vvbn (record {
          level = level;
          place = place;
          flushed = record { was = was; done = done; some = λ none. some (is.stamps level place ∙ none) };
          vvbn = refl;
        });
      })
    ]
  ])
]
