-- The first files of names, as files are met.
use Rattle.std.proofs.Common.{◌≡◌, ◌≢◌, ℕ, ◌+◌, ◌<◌, Bool, true, false, List, [], ◌∷◌, ◌++◌, length, get_or, take, refl, sym, ap, subst, ◌∙◌, Less, Equal, Greater}
use Rattle.std.specs.Prelude.{Option, Some, None, cond, find, ◌&&◌}
use Rattle.std.specs.declared.cmp.Ordering.{Ordering}
use Rattle.std.specs.Ordering.{is_eq}
use Rattle.std.specs.Option.{option_map, option_or}
use Rattle.std.specs.BTreeMap as maps
use Rattle.std.proofs.lemmas.List.{append_assoc, append-nil}
use Rattle.std.proofs.lemmas.List.Folds.{find-append}
use Rattle.fv_codec.specs.declared.inode.InodeRecord.{InodeRecord}
use Rattle.fv_model.specs.Spelling.{name_cmp, is_same_name}
use Rattle.fv_laws.proofs.Orders.{name_ties}
use Rattle.fv_faults.specs.declared.fault.Fault.{Fault}
use Rattle.fv_faults.specs.Lines.{line}
use Rattle.fv_faults.specs.Walks.{name_lines, same_file, twin_line, used_from}
use Rattle.fv_walk.specs.declared.names.Names.{Names}
use Rattle.fv_faults.specs.declared.lines.Lines.{Lines}
use Rattle.fv_walk.specs.Noting.{AddsAll}
use Rattle.fv_walk.proofs.Noting.{none, both}
use Rattle.fv_walk.proofs.Lists.{used_more, used_none, used_one}
use Rattle.fv_walk.specs.Naming.{name_of, first_named, twins, IsNames, IsNamed}

abbrev File : Type 0
File = ℕ × InodeRecord

-- ---- the map

same_name : (a b : List ℕ) → is_same_name a b ≡ true → a ≡ b
same_name a b test = name_ties a b (equal (name_cmp a b) test)
  where
    equal : (r : Ordering) → is_eq r ≡ true → r ≡ Equal
    equal Less e = absurd cc
    equal Equal e = refl
    equal Greater e = absurd cc

or_none : (o : Option ℕ) → o ≡ option_or o None
or_none None = refl
or_none (Some x) = refl

-- a name that a file has already keeps its first file
pub named_before : (names : Names) (name : List ℕ) (first number : ℕ) → maps.get name_cmp names.firsts name ≡ Some first → IsNamed names name number names
named_before names name first number is n = so (is_same_name name n) refl
  where
    so : (b : Bool) → is_same_name name n ≡ b → maps.get name_cmp names.firsts n ≡ option_or (maps.get name_cmp names.firsts n) (cond b (Some number) None)
    so false test = or_none (maps.get name_cmp names.firsts n)
    so true test =
        let has : maps.get name_cmp names.firsts n ≡ Some first = ap (maps.get name_cmp names.firsts) (sym (same_name name n test)) ∙ is in
        has ∙ sym (ap (λ o. option_or o (Some number)) has)

-- another one has this file as its first
pub named_first : (old new : Names) (name : List ℕ) (number : ℕ) → maps.get name_cmp old.firsts name ≡ None
    → ((n : List ℕ) → maps.get name_cmp new.firsts n ≡ cond (is_same_name name n) (Some number) (maps.get name_cmp old.firsts n)) → IsNamed old name number new
named_first old new name number free set n = set n ∙ so (is_same_name name n) refl
  where
    so : (b : Bool) → is_same_name name n ≡ b → cond b (Some number) (maps.get name_cmp old.firsts n) ≡ option_or (maps.get name_cmp old.firsts n) (cond b (Some number) None)
    so false test = or_none (maps.get name_cmp old.firsts n)
    so true test =
        let none : maps.get name_cmp old.firsts n ≡ None = ap (maps.get name_cmp old.firsts) (sym (same_name name n test)) ∙ free in
        sym (ap (λ o. option_or o (Some number)) none)

-- ---- the files

map_or : (f : File) (o : Option File) (b : Bool) → option_map (λ (x : File). x.0) (option_or o (cond b (Some f) None)) ≡ option_or (option_map (λ (x : File). x.0) o) (cond b (Some f.0) None)
map_or f None true = refl
map_or f None false = refl
map_or f (Some x) true = refl
map_or f (Some x) false = refl

first_more : (met : List File) (f : File) (n : List ℕ) → first_named (met ++ (f ∷ [])) n ≡ option_or (first_named met n) (cond (is_same_name (name_of f.1) n) (Some f.0) None)
first_more met f n =
    ap (option_map (λ (x : File). x.0)) (find-append (λ (x : File). is_same_name (name_of x.1) n) met (f ∷ []))
    ∙ map_or f (find (λ (x : File). is_same_name (name_of x.1) n) met) (is_same_name (name_of f.1) n)

-- one file more
pub names_more : (met : List File) (f : File) (old new : Names) → IsNames met old → IsNamed old (name_of f.1) f.0 new → IsNames (met ++ (f ∷ [])) new
names_more met f old new is named n =
    named n
    ∙ ap (λ o. option_or o (cond (is_same_name (name_of f.1) n) (Some f.0) None)) (is n)
    ∙ sym (first_more met f n)

-- and its line
pub twin_is : (at : ℕ) (met : List File) (f : File) (names : Names) → IsNames met names → twins at f.0 (maps.get name_cmp names.firsts (name_of f.1)) ≡ name_lines at met (f ∷ [])
unfolding name_lines
twin_is at met f names is = ap (twins at f.0) (is (name_of f.1)) ∙ so (find (λ (x : File). same_file x f) met)
  where
    so : (o : Option File) → twins at f.0 (option_map (λ (x : File). x.0) o) ≡ twin_line (λ g f. line 4 at g.0 f.0) o f ++ []
    so None = refl
    so (Some g) = refl

-- ---- the records of a block, one after another

pub lines_append : (at : ℕ) (met fs gs : List File) → name_lines at met (fs ++ gs) ≡ name_lines at met fs ++ name_lines at (met ++ fs) gs
unfolding name_lines
lines_append at met [] gs = ap (λ ms. name_lines at ms gs) (sym (append-nil met))
lines_append at met (f ∷ fs) gs =
    let first : List Fault = twin_line (λ g f. line 4 at g.0 f.0) (find (λ g. same_file g f) met) f in
    ap (λ ls. first ++ ls) (lines_append at (met ++ (f ∷ [])) fs gs ∙ ap (λ ms. name_lines at (met ++ (f ∷ [])) fs ++ name_lines at ms gs) (append_assoc met (f ∷ []) fs))
    ∙ sym (append_assoc first (name_lines at (met ++ (f ∷ [])) fs) (name_lines at (met ++ (f ∷ fs)) gs))

-- ---- one record more

module _ (at : ℕ) (met : List File) (n : ℕ) (r : InodeRecord) where
  pub free_says : (lines : Lines) → r.name_length ≡ 0 → AddsAll (name_lines at met (used_from n (r ∷ []))) lines lines true
  unfolding name_lines
  free_says lines free = subst (λ fs. AddsAll (name_lines at met fs) lines lines true) (sym (used_none n r free)) (none lines)

  pub free_names : (names : Names) → r.name_length ≡ 0 → IsNames met names → IsNames (met ++ used_from n (r ∷ [])) names
  free_names names free is = subst (λ fs. IsNames (met ++ fs) names) (sym (used_none n r free)) (subst (λ ms. IsNames ms names) (sym (append-nil met)) is)

  pub used_says : (names : Names) (old new : Lines) (clean : Bool) → r.name_length ≢ 0 → IsNames met names → AddsAll (twins at n (maps.get name_cmp names.firsts (name_of r))) old new clean
      → AddsAll (name_lines at met (used_from n (r ∷ []))) old new clean
  used_says names old new clean used is adds =
      subst (λ fs. AddsAll (name_lines at met fs) old new clean) (sym (used_one n r used)) (subst (λ ls. AddsAll ls old new clean) (twin_is at met (n, r) names is) adds)

  pub used_names : (old new : Names) → r.name_length ≢ 0 → IsNames met old → IsNamed old (name_of r) n new → IsNames (met ++ used_from n (r ∷ [])) new
  used_names old new used is named = subst (λ fs. IsNames (met ++ fs) new) (sym (used_one n r used)) (names_more met (n, r) old new is named)

module _ (at : ℕ) (met : List File) (n i : ℕ) (d : InodeRecord) (rs : List InodeRecord) (low : i < length rs) where
  pub more_says : (old mid new : Lines) (clean noted : Bool) → AddsAll (name_lines at met (used_from n (take i rs))) old mid clean
      → AddsAll (name_lines at (met ++ used_from n (take i rs)) (used_from (n + i) (get_or rs i d ∷ []))) mid new noted
      → AddsAll (name_lines at met (used_from n (take (i + 1) rs))) old new (clean && noted)
  more_says old mid new clean noted before here =
      subst (λ ls. AddsAll ls old new (clean && noted))
      (sym (ap (name_lines at met) (used_more n i d rs low) ∙ lines_append at met (used_from n (take i rs)) (used_from (n + i) (get_or rs i d ∷ []))))
      (both (name_lines at met (used_from n (take i rs))) (name_lines at (met ++ used_from n (take i rs)) (used_from (n + i) (get_or rs i d ∷ []))) old mid new clean noted before here)

  pub more_names : (names : Names) → IsNames ((met ++ used_from n (take i rs)) ++ used_from (n + i) (get_or rs i d ∷ [])) names → IsNames (met ++ used_from n (take (i + 1) rs)) names
  more_names names is =
      subst (λ ms. IsNames ms names)
      (append_assoc met (used_from n (take i rs)) (used_from (n + i) (get_or rs i d ∷ [])) ∙ ap (λ fs. met ++ fs) (sym (used_more n i d rs low))) is

-- ---- no record

pub nothing_says : (at : ℕ) (met : List File) (lines : Lines) → AddsAll (name_lines at met []) lines lines true
unfolding name_lines
nothing_says at met lines = none lines

pub nothing_names : (met : List File) (names : Names) → IsNames met names → IsNames (met ++ []) names
nothing_names met names is = subst (λ ms. IsNames ms names) (sym (append-nil met)) is

pub none_used : (n : ℕ) → used_from n [] ≡ []
unfolding used_from
none_used n = refl
