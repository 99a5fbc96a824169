-- What a map of boxes holds.
use Rattle.std.proofs.Common.{◌≡◌, ◌==◌, cond, true, false, ℕ, List, Option, Some, None, refl, ap, ◌∙◌, Result, Ok, Err}
use Rattle.std.specs.Prelude.{MatchOption, IsSomeAnd, OnErr}
use Rattle.std.specs.Option.{option_map}
use Rattle.std.specs.Ordering.{nat_cmp}
use Rattle.std.specs.BTreeMap as tree
use Rattle.std.specs.Map.{lookup}
use Rattle.std.proofs.lemmas.Map.Entries.{lookup_clone}
use Rattle.fv_memdisk.proofs.Sound.{turned}

module _ {V : Type 0} (val : V → List ℕ) where
  pub none_found : (m : tree.BTreeMap ℕ V) → tree.IsEmpty m → (a : ℕ) → option_map val (tree.get nat_cmp m a) ≡ None
  none_found m empty a = ap (λ es. option_map val (lookup (tree.is_at (nat_cmp a)) es)) empty

  pub same_found : (m n : tree.BTreeMap ℕ V) → tree.IsUnchanged m n → (a : ℕ) → option_map val (tree.get nat_cmp n a) ≡ option_map val (tree.get nat_cmp m a)
  same_found m n same a = ap (λ es. option_map val (lookup (tree.is_at (nat_cmp a)) es)) same

  pub put_found : (m n : tree.BTreeMap ℕ V) (at : ℕ) (boxed : V) (block : List ℕ) → tree.Updates nat_cmp m n at (Some boxed) → val boxed ≡ block
      → (a : ℕ) → option_map val (tree.get nat_cmp n a) ≡ cond (a == at) (Some block) (option_map val (tree.get nat_cmp m a))
  put_found m n at boxed block updates is a =
      ap (λ o. option_map val o) (updates.0 a ∙ ap (λ b. cond b (Some boxed) (tree.get nat_cmp m a)) (turned at a))
      ∙ elim (a == at) as (λ b. option_map val (cond b (Some boxed) (tree.get nat_cmp m a)) ≡ cond b (Some (val boxed)) (option_map val (tree.get nat_cmp m a))) [ true ↦ refl | false ↦ refl ]
      ∙ ap (λ x. cond (a == at) (Some x) (option_map val (tree.get nat_cmp m a))) is

  pub get_found : (o : Option V) (boxed : V) (block : List ℕ) → Some boxed ≡ o → block ≡ val boxed → Some block ≡ option_map val o
  get_found o boxed block is same = ap (λ x. Some x) same ∙ ap (λ p. option_map val p) is

  pub missing_found : (o : Option V) → None ≡ o → None ≡ option_map val o
  missing_found o is = ap (λ p. option_map val p) is

  cloned_one : (D : V → V → Type 0) → ((v w : V) → D v w → val w ≡ val v) → (o p : Option V) → MatchOption o (p ≡ None) (λ v. IsSomeAnd p (D v)) → option_map val p ≡ option_map val o
  cloned_one D same None p is = ap (λ q. option_map val q) is
  cloned_one D same (Some v) None is = absurd is
  cloned_one D same (Some v) (Some w) is = ap (λ x. Some x) (same v w is)

  pub cloned_found : (C : ℕ → ℕ → Type 0) (D : V → V → Type 0) → ((x y : ℕ) → C x y → y ≡ x) → ((v w : V) → D v w → val w ≡ val v) → (m n : tree.BTreeMap ℕ V) → tree.IsClone C D m n
      → (a : ℕ) → option_map val (tree.get nat_cmp n a) ≡ option_map val (tree.get nat_cmp m a)
  cloned_found C D keys values m n cloned a =
      cloned_one D values (lookup (tree.is_at (nat_cmp a)) m.entries) (lookup (tree.is_at (nat_cmp a)) n.entries)
      (lookup_clone C D (tree.is_at (nat_cmp a)) (λ x y c. ap (λ k. tree.is_at (nat_cmp a) k) (keys x y c)) m.entries n.entries cloned)

pub on_err : {T E P : Type 0} (r : Result T E) → P → OnErr r P
on_err (Ok x) p = tt
on_err (Err e) p = p
