-- Rule 4, names of files: where the steps of a root say nothing, no two records of its table have one name.
use Rattle.std.proofs.Common.{◌≡◌, ℕ, zero, suc, ◌+◌, ◌≤◌, Bool, true, false, not, List, [], ◌∷◌, ◌++◌, map, take, inl, inr, refl, sym, ap, subst, ◌∙◌, arith}
use Rattle.std.specs.Prelude.{Option, Some, None, find, flat_map, ◌||◌, ◌==◌, if◌then◌else◌}
use Rattle.std.specs.List.{list_all, list_any, range_with_len}
use Rattle.std.specs.Option.{option_map_or}
use Rattle.std.proofs.lemmas.Bool.{and_from}
use Rattle.std.proofs.lemmas.Bool.Decides.{nat_tests}
use Rattle.std.proofs.lemmas.List.{append-nil}
use Rattle.std.proofs.lemmas.List.Concat.{flat_map-append}
use Rattle.fv_codec.specs.declared.inode.InodeRecord.{InodeRecord}
use Rattle.fv_laws.proofs.Lists.{In, from_range, from_flat_map}
use Rattle.fv_laws.proofs.Tests.{from_all, to_all}
use Rattle.fv_tables.specs.Told.{listed, entry_or, records, file_at}
use Rattle.fv_image.specs.Views.{Placed, Rooted}
use Rattle.fv_image.specs.Volumes.{standing_of}
use Rattle.fv_image.specs.ReachRules.{are_distinct}
use Rattle.fv_model.specs.Spelling.{is_same_name}
use Rattle.std.proofs.lemmas.Cmp.{eq_by_cmp_equiv}
use Rattle.fv_laws.proofs.Orders.{name_total}
use Rattle.fv_faults.specs.declared.fault.Fault.{Fault}
use Rattle.fv_faults.specs.Walks.{Step, Ground, step, steps, shape_lines, pointer_lines, pointers_under, files_under, met_in, block_lines, name_lines, twin_line, same_file}
use Rattle.fv_faults.proofs.Clean.{parts_nil, nil_parts, holds_from, none_from}
use Rattle.fv_faults.proofs.Plain.{Spot, place_at, met, run, IsClean, steps_are}
use Rattle.fv_faults.proofs.Reached.{AreFresh, all_fresh}
use Rattle.fv_faults.proofs.Twins.{IsSame, agree_from}
use Rattle.fv_faults.specs.ThirdPass.{twins}
use Rattle.fv_faults.specs.Lines.{line, unless}
use Rattle.fv_faults.proofs.Files.{files_from}

abbrev File : Type 0
File = ℕ × InodeRecord

abbrev pub name_of : File → List ℕ
name_of f = take f.1.name_length f.1.name

abbrev pub same_number : File → File → Bool
same_number f g = f.0 == g.0

pub files_same : IsSame same_file
files_same = record {
  itself = λ a. (eq_by_cmp_equiv name_total).refl (name_of a);
  turned = λ a b e. (eq_by_cmp_equiv name_total).symm (name_of b) (name_of a) ∙ e;
  over = λ a b c d e. (eq_by_cmp_equiv name_total).congr (name_of a) (name_of b) (name_of c) d ∙ e;
}

same_is : (a b : ℕ) → (a == b) ≡ true → a ≡ b
same_is a b e = grind (arith, nat_tests, e)

is_same : (a b : ℕ) → a ≡ b → (a == b) ≡ true
is_same a b e = grind (arith, nat_tests, e)

numbers_same : IsSame same_number
numbers_same = record {
  itself = λ a. is_same a.0 a.0 refl;
  turned = λ a b e. is_same b.0 a.0 (sym (same_is a.0 b.0 e));
  over = λ a b c d e. is_same a.0 c.0 (same_is a.0 b.0 d ∙ same_is b.0 c.0 e);
}

-- ---- each name against the first that is the same

abbrev twin_lines : File × File → List Fault
twin_lines p = unless (same_number p.0 p.1) (line 4 0 0 0)

twins_none : (at : ℕ) (before fs : List File) → name_lines at before fs ≡ [] → flat_map twin_lines (twins same_file before fs) ≡ []
unfolding name_lines twins
twins_none at before [] none = refl
twins_none at before (f ∷ fs) none =
    let parts = parts_nil (twin_line (λ g f. line 4 at g.0 f.0) (find (λ g. same_file g f) before) f) (name_lines at (before ++ (f ∷ [])) fs) none in
    flat_map-append twin_lines (option_map_or (λ first. (first, f) ∷ []) (find (λ g. same_file g f) before) []) (twins same_file (before ++ (f ∷ [])) fs)
    ∙ nil_parts (flat_map twin_lines (option_map_or (λ first. (first, f) ∷ []) (find (λ g. same_file g f) before) [])) _ (so (find (λ g. same_file g f) before) parts.0) (twins_none at (before ++ (f ∷ [])) fs parts.1)
  where
    so : (o : Option File) → twin_line (λ g f. line 4 at g.0 f.0) o f ≡ [] → flat_map twin_lines (option_map_or (λ first. (first, f) ∷ []) o []) ≡ []
    so None none = refl
    so (Some g) none = absurd cc

abbrev AreAgreed : List File → Type 0
AreAgreed fs = (a b : File) → In a fs → In b fs → same_file a b ≡ true → same_number a b ≡ true

-- ---- over all steps

module _ (g : Ground) where
  pub agreed : (done : List Step) (ps : List Spot) → AreFresh g done ps → AreAgreed (flat_map met_in done) → AreAgreed (flat_map met_in (run g done ps))
  unfolding run step block_lines
  agreed done [] fresh alike = alike
  agreed done (p ∷ ps) fresh alike =
      agreed (done ++ (step g done p.0 p.1 ∷ [])) ps fresh.1
      (subst AreAgreed (sym same)
      (agree_from same_file same_number files_same numbers_same twin_lines (λ q. holds_from (same_number q.0 q.1) (line 4 0 0 0)) (λ q. none_from (same_number q.0 q.1) (line 4 0 0 0)) (flat_map met_in done) (files_under p.0 fresh.0.at) alike
      (twins_none fresh.0.at.pvbn (flat_map met_in done) (files_under p.0 fresh.0.at) quiet)))
    where
      quiet : name_lines fresh.0.at.pvbn (flat_map met_in done) (files_under p.0 fresh.0.at) ≡ []
      quiet = (parts_nil (flat_map (λ c. pointer_lines g.view.blocks g.span fresh.0.at.pvbn c.pointer) (pointers_under p.0 fresh.0.at)) (name_lines fresh.0.at.pvbn (flat_map met_in done) (files_under p.0 fresh.0.at))
          (parts_nil (shape_lines p.0 fresh.0.at) _ fresh.0.block).1).1

      same : flat_map met_in (done ++ (step g done p.0 p.1 ∷ [])) ≡ flat_map met_in done ++ files_under p.0 fresh.0.at
      same = flat_map-append met_in done (step g done p.0 p.1 ∷ [])
          ∙ ap (λ (b : Bool). flat_map met_in done ++ ((if not b then option_map_or (files_under p.0) (place_at g p.0) [] else []) ++ [])) fresh.0.new
          ∙ ap (λ (o : Option Placed). flat_map met_in done ++ (option_map_or (files_under p.0) o [] ++ [])) fresh.0.found
          ∙ ap (λ fs. flat_map met_in done ++ fs) (append-nil (files_under p.0 fresh.0.at))

  -- ---- and of a table's records

  abbrev apart : File → File → Bool
  apart a b = not (same_file a b) || same_number a b

  from_apart : (a b : File) → apart a b ≡ true → same_file a b ≡ true → same_number a b ≡ true
  from_apart a b is same = sym (ap (λ t. not t || same_number a b) same) ∙ is

  to_apart : (a b : File) → (same_file a b ≡ true → same_number a b ≡ true) → apart a b ≡ true
  to_apart a b each = so (same_file a b) (same_number a b) each
    where
      so : (t u : Bool) → (t ≡ true → u ≡ true) → (not t || u) ≡ true
      so true u each = each refl
      so false u each = refl

  records_agreed : (r : Rooted) (label : ℕ) → IsClean (steps g label r) → AreAgreed (records (standing_of g.view g.slot r))
  unfolding run
  records_agreed r label clean a b first second same = from_apart a b (from_all (apart a) rs (from_all (λ a. list_all (apart a) rs) rs crossed a first) b second) same
    where
      rs : List File
      rs = records (standing_of g.view g.slot r)

      fs : List File
      fs = flat_map met_in (steps g label r)

      alike : AreAgreed fs
      alike = subst (λ ss. AreAgreed (flat_map met_in ss)) (sym (steps_are g label r clean))
          (agreed [] (met g label r) (all_fresh g [] (met g label r) (subst IsClean (steps_are g label r clean) clean)) (λ a b first second same. absurd first))

      crossed : list_all (λ a. list_all (apart a) rs) rs ≡ true
      crossed = files_from g (λ a. list_all (apart a) rs) r label clean (to_all (λ a. list_all (apart a) rs) fs (λ a first.
          files_from g (apart a) r label clean (to_all (apart a) fs (λ b second. to_apart a b (alike a b first second)))))

  -- ---- numbers of records rise

  at_least : (f : ℕ → Option InodeRecord) (from count : ℕ) (e : File) → In e (listed f (range_with_len from count)) → from ≤ e.0
  unfolding listed
  at_least f from count e there =
      let one = from_flat_map (λ k. entry_or k (f k)) e (range_with_len from count) there in
      let low = (from_range from count one.0 one.1).0 in
      so (f one.0) one.0 low one.2
    where
      so : (o : Option InodeRecord) (k : ℕ) → from ≤ k → In e (entry_or k o) → from ≤ e.0
      so None k low there = absurd there
      so (Some x) k low (inl is) = subst (λ (d : File). from ≤ d.0) is low
      so (Some x) k low (inr there) = absurd there

  distinct_from : (f : ℕ → Option InodeRecord) (from count : ℕ) → AreAgreed (listed f (range_with_len from count)) → are_distinct (map name_of (listed f (range_with_len from count))) ≡ true
  unfolding listed
  distinct_from f from zero alike = refl
  distinct_from f from (suc n) alike = so (f from) refl alike (distinct_from f (from + 1) n)
    where
      rest : List File
      rest = listed f (range_with_len (from + 1) n)

      none_same : (x : InodeRecord) (es : List File) → ((e : File) → In e es → same_file (from, x) e ≡ false) → list_any (is_same_name (name_of (from, x))) (map name_of es) ≡ false
      none_same x [] each = refl
      none_same x (e ∷ es) each = ap (λ b. b || list_any (is_same_name (name_of (from, x))) (map name_of es)) (each e (inl refl)) ∙ none_same x es (λ d there. each d (inr there))

      differs : (x : InodeRecord) → AreAgreed ((from, x) ∷ rest) → (e : File) → In e rest → same_file (from, x) e ≡ false
      differs x alike e there = not_true (same_file (from, x) e) (λ same.
          let number : from ≡ e.0 = same_is from e.0 (alike (from, x) e (inl refl) (inr there) same) in
          let low = at_least f (from + 1) n e there in
          absurd (omega (arith, number, low)))
        where
          not_true : (b : Bool) → (b ≡ true → ⊥) → b ≡ false
          not_true true wrong = absurd (wrong refl)
          not_true false wrong = refl

      so : (o : Option InodeRecord) → f from ≡ o → AreAgreed (entry_or from o ++ rest) → (AreAgreed rest → are_distinct (map name_of rest) ≡ true) → are_distinct (map name_of (entry_or from o ++ rest)) ≡ true
      so None is alike more = more alike
      so (Some x) is alike more =
          and_from (not (list_any (is_same_name (name_of (from, x))) (map name_of rest))) _ (ap not (none_same x rest (differs x alike))) (more (λ a b first second. alike a b (inr first) (inr second)))

  -- Where the steps of a root say nothing, no two files of its table have one name.
  pub files_distinct : (r : Rooted) (label : ℕ) → IsClean (steps g label r) → are_distinct (map name_of (records (standing_of g.view g.slot r))) ≡ true
  unfolding records
  files_distinct r label clean = distinct_from (file_at (standing_of g.view g.slot r).inode) 0 _ (records_agreed r label clean)
