-- When commands on files are refused before a volume is asked, and what a reply of a volume says of the machine.
use Rattle.std.proofs.Common.{◌≡◌, ℕ, arith, Bool, true, false, not, ◌||◌, cond, List, [], ◌∷◌, Option, Some, None, true≢false, refl, sym, ap, subst, ◌∙◌}
use Rattle.std.specs.Prelude.{◌==◌, nat_le, nat_lt, if◌then◌else◌}
use Rattle.std.specs.Option.{is_none, is_some}
use Rattle.std.specs.FinMap as fin
use Rattle.std.proofs.lemmas.Bool.Decides.{nat_tests}
use Rattle.fv_model.specs.declared.answers.Refusal.{Refusal}
use Rattle.fv_model.specs.declared.answers.Refusal.TheVariants.{NoVolume, NoFile, FileExists, NoSnapshot, Range, TooMany, WrongKind}
use Rattle.fv_model.specs.declared.answers.Reply.TheVariants.{Refused}
use Rattle.fv_model.specs.declared.commands.Command.{Command}
use Rattle.fv_model.specs.declared.commands.Command.TheVariants.{New, Put, Get, Len, Cut, Remove, Ls, Probe}
use Rattle.fv_model.specs.Machines.{Machine}
use Rattle.fv_model.specs.Numbers.{is_index, is_reserve}
use Rattle.fv_model.specs.Refusals.{conditions, first_of, has_all_changes, has_all_files, has_file, is_missing, lacks_file, lacks_snapshot, next, of_file, of_volume, refusal, space}
use Rattle.fv_model.specs.Effects.{effect}
use Rattle.fv_model.specs.Replies.{Allows, AllowsBy}
use Rattle.fv_model.specs.Space.{is_file_kind}
use Rattle.fv_model.specs.Volumes.{Volume}
use Rattle.fv_aggregate.specs.Commands.{volume_asked, changed_by, has_range, is_get}

-- a refusal is the reply that the machine allows, and leaves it
pub refused_allows : (m : Machine) (c : Command) (r : Refusal) → refusal m c ≡ Some r → Allows m c (Refused r)
refused_allows m c r is = subst (λ (o : Option Refusal). AllowsBy o m c (Refused r)) (sym is) refl

pub refused_next : (m : Machine) (c : Command) (r : Refusal) → refusal m c ≡ Some r → next m c ≡ m
refused_next m c r is = ap (λ (o : Option Refusal). cond (is_some o) m (effect m c)) is

-- ---- a volume that isn't there

module _ (m : Machine) (v : List ℕ) (none : fin.get m.volumes v ≡ None) where
  pub no_len : (s : Option (List ℕ)) (f : List ℕ) → refusal m (Len v s f) ≡ Some NoVolume
  unfolding conditions
  no_len s f = ap (λ (o : Option Volume). first_of ((NoVolume, is_none o) ∷ (NoSnapshot, lacks_snapshot m v s) ∷ (NoFile, lacks_file m v s f) ∷ [])) none

  pub no_ls : (s : Option (List ℕ)) → refusal m (Ls v s) ≡ Some NoVolume
  unfolding conditions
  no_ls s = ap (λ (o : Option Volume). first_of ((NoVolume, is_none o) ∷ (NoSnapshot, lacks_snapshot m v s) ∷ [])) none

  pub no_get : (s : Option (List ℕ)) (f : List ℕ) (i : ℕ) → is_index i ≡ true → refusal m (Get v s f i) ≡ Some NoVolume
  unfolding conditions
  no_get s f i near = λ j. first_of ((Range, not (near j)) ∷ (NoVolume, is_none (none j)) ∷ (NoSnapshot, lacks_snapshot m v s) ∷ (NoFile, lacks_file m v s f) ∷ (Range, of_file m v s f (λ file. nat_le file.length i)) ∷ [])

  pub no_probe : (f : List ℕ) (i : ℕ) → is_index i ≡ true → refusal m (Probe v f i) ≡ Some NoVolume
  unfolding conditions
  no_probe f i near = λ j. first_of ((Range, not (near j)) ∷ (NoVolume, is_none (none j)) ∷ (NoFile, lacks_file m v None f) ∷ (Range, of_file m v None f (λ file. nat_le file.length i)) ∷ [])

pub far_get : (m : Machine) (v : List ℕ) (s : Option (List ℕ)) (f : List ℕ) (i : ℕ) → is_index i ≡ false → refusal m (Get v s f i) ≡ Some Range
unfolding conditions
far_get m v s f i far = ap (λ (b : Bool). first_of ((Range, not b) ∷ (NoVolume, is_missing m v) ∷ (NoSnapshot, lacks_snapshot m v s) ∷ (NoFile, lacks_file m v s f) ∷ (Range, of_file m v s f (λ file. nat_le file.length i)) ∷ [])) far

pub far_probe : (m : Machine) (v f : List ℕ) (i : ℕ) → is_index i ≡ false → refusal m (Probe v f i) ≡ Some Range
unfolding conditions
far_probe m v f i far = ap (λ (b : Bool). first_of ((Range, not b) ∷ (NoVolume, is_missing m v) ∷ (NoFile, lacks_file m v None f) ∷ (Range, of_file m v None f (λ file. nat_le file.length i)) ∷ [])) far

-- ---- commands that change

same_some : (a b : List ℕ) → ◌≡◌ {A = Option (List ℕ)} (Some a) (Some b) → a ≡ b
same_some a b e = cc

nothing : {v : List ℕ} → ◌≡◌ {A = Option (List ℕ)} None (Some v) → ⊥
nothing e = cc

module _ (m : Machine) (home : List ℕ) (none : fin.get m.volumes home ≡ None) where
  no_new : (v f : List ℕ) (reserve : ℕ) → v ≡ home → is_reserve reserve ≡ true → refusal m (New v f reserve) ≡ Some NoVolume
  unfolding conditions
  no_new v f reserve at near = λ j. first_of ((Range, not (near j)) ∷ (NoVolume, is_none ((ap (fin.get m.volumes) at ∙ none) j)) ∷ (FileExists, has_file m v f)
      ∷ (WrongKind, of_volume m v (λ x. cond (nat_lt 0 reserve) (not (is_file_kind x.kind)) false)) ∷ (TooMany, has_all_files m v || has_all_changes m v) ∷ space m (New v f reserve) v)

  no_put : (v f : List ℕ) (i : ℕ) (block : List ℕ) → v ≡ home → is_index i ≡ true → refusal m (Put v f i block) ≡ Some NoVolume
  unfolding conditions
  no_put v f i block at near = λ j. first_of ((Range, not (near j)) ∷ (NoVolume, is_none ((ap (fin.get m.volumes) at ∙ none) j)) ∷ (NoFile, lacks_file m v None f)
      ∷ (TooMany, has_all_changes m v) ∷ space m (Put v f i block) v)

  no_cut : (v f : List ℕ) (length : ℕ) → v ≡ home → is_reserve length ≡ true → refusal m (Cut v f length) ≡ Some NoVolume
  unfolding conditions
  no_cut v f length at near = λ j. first_of ((Range, not (near j)) ∷ (NoVolume, is_none ((ap (fin.get m.volumes) at ∙ none) j)) ∷ (NoFile, lacks_file m v None f)
      ∷ (Range, of_file m v None f (λ file. nat_lt file.length length)) ∷ (TooMany, has_all_changes m v) ∷ space m (Cut v f length) v)

  no_removal : (v f : List ℕ) → v ≡ home → refusal m (Remove v f) ≡ Some NoVolume
  unfolding conditions
  no_removal v f at = λ j. first_of ((NoVolume, is_none ((ap (fin.get m.volumes) at ∙ none) j)) ∷ (NoFile, lacks_file m v None f) ∷ (TooMany, has_all_changes m v) ∷ space m (Remove v f) v)

  pub no_change : (c : Command) → changed_by c ≡ Some home → has_range c ≡ true → refusal m c ≡ Some NoVolume
  no_change (New v f reserve) change near = by (reserve == 0) refl change
    where
      by : (t : Bool) → (reserve == 0) ≡ t → ◌≡◌ {A = Option (List ℕ)} (if t then Some v else None) (Some home) → refusal m (New v f reserve) ≡ Some NoVolume
      by true is change = no_new v f reserve (same_some v home change) (let none : reserve ≡ 0 = grind (arith, nat_tests, is) in ap is_reserve none)
      by false is change = absurd (nothing change)
  no_change (Put v f i block) change near = no_put v f i block (same_some v home change) near
  no_change (Cut v f length) change near = no_cut v f length (same_some v home change) near
  no_change (Remove v f) change near = no_removal v f (same_some v home change)
  no_change c change near = absurd (nothing change)

module _ (m : Machine) (home : List ℕ) where
  far_put : (v f : List ℕ) (i : ℕ) (block : List ℕ) → is_index i ≡ false → refusal m (Put v f i block) ≡ Some Range
  unfolding conditions
  far_put v f i block far = ap (λ (b : Bool). first_of ((Range, not b) ∷ (NoVolume, is_missing m v) ∷ (NoFile, lacks_file m v None f) ∷ (TooMany, has_all_changes m v) ∷ space m (Put v f i block) v)) far

  far_cut : (v f : List ℕ) (length : ℕ) → is_reserve length ≡ false → refusal m (Cut v f length) ≡ Some Range
  unfolding conditions
  far_cut v f length far = ap (λ (b : Bool). first_of ((Range, not b) ∷ (NoVolume, is_missing m v) ∷ (NoFile, lacks_file m v None f) ∷ (Range, of_file m v None f (λ file. nat_lt file.length length)) ∷ (TooMany, has_all_changes m v) ∷ space m (Cut v f length) v)) far

  -- a number out of its range is refused first
  pub far_change : (c : Command) → changed_by c ≡ Some home → has_range c ≡ false → refusal m c ≡ Some Range
  far_change (New v f reserve) change far = cc
  far_change (Put v f i block) change far = far_put v f i block far
  far_change (Cut v f length) change far = far_cut v f length far
  far_change (Remove v f) change far = cc
  far_change c change far = absurd (nothing change)

-- ---- commands that ask

-- what holds of `get`, `len`, `ls` and `probe` of a volume holds of each command that asks for its files
pub asked_cases : (P : Command → Type 0) (name : List ℕ) → ((s : Option (List ℕ)) (f : List ℕ) (i : ℕ) → P (Get name s f i)) → ((s : Option (List ℕ)) (f : List ℕ) → P (Len name s f)) → ((s : Option (List ℕ)) → P (Ls name s))
    → ((f : List ℕ) (i : ℕ) → P (Probe name f i)) → (c : Command) → volume_asked c ≡ Some name → P c
asked_cases P name get len ls probe (Get v s f i) is = subst (λ (n : List ℕ). P (Get n s f i)) (sym (same_some v name is)) (get s f i)
asked_cases P name get len ls probe (Len v s f) is = subst (λ (n : List ℕ). P (Len n s f)) (sym (same_some v name is)) (len s f)
asked_cases P name get len ls probe (Ls v s) is = subst (λ (n : List ℕ). P (Ls n s)) (sym (same_some v name is)) (ls s)
asked_cases P name get len ls probe (Probe v f i) is = subst (λ (n : List ℕ). P (Probe n f i)) (sym (same_some v name is)) (probe f i)
asked_cases P name get len ls probe c is = absurd (nothing is)

module _ (c : Command) (name : List ℕ) (asks : volume_asked c ≡ Some name) where
  -- a volume that isn't there is refused, once a number is in its range
  pub asked_missing : has_range c ≡ true → (m : Machine) → fin.get m.volumes name ≡ None → refusal m c ≡ Some NoVolume
  asked_missing = asked_cases (λ (k : Command). has_range k ≡ true → (m : Machine) → fin.get m.volumes name ≡ None → refusal m k ≡ Some NoVolume) name
      (λ s f i near m none. no_get m name none s f i near)
      (λ s f near m none. no_len m name none s f)
      (λ s near m none. no_ls m name none s)
      (λ f i near m none. no_probe m name none f i near)
      c asks

  -- and one out of its range is refused first
  pub asked_far : has_range c ≡ false → (m : Machine) → refusal m c ≡ Some Range
  asked_far = asked_cases (λ (k : Command). has_range k ≡ false → (m : Machine) → refusal m k ≡ Some Range) name
      (λ s f i far m. far_get m name s f i far)
      (λ s f far m. cc)
      (λ s far m. cc)
      (λ f i far m. far_probe m name f i far)
      c asks

-- a command that reads a cell is one
pub not_get : (c : Command) (v : List ℕ) (s : Option (List ℕ)) (f : List ℕ) (i : ℕ) → c ≡ Get v s f i → is_get c ≡ false → ⊥
unfolding is_get
not_get c v s f i is none = true≢false (sym (ap is_get is) ∙ none)
