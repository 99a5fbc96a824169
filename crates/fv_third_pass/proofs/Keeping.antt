-- The lengths of the files whose records a clean walk sees: each number has one, and none is the inode file's.
use Rattle.std.proofs.Common.{◌≡◌, ◌≢◌, ℕ, zero, suc, ◌^◌, ◌≤◌, Bool, true, false, not, List, [], ◌∷◌, ◌++◌, map, cond, inl, inr, refl, sym, ap, subst, ◌∙◌, arith}
use Rattle.std.specs.Prelude.{flat_map, Option, Some, None, ◌||◌, ◌==◌, if◌then◌else◌}
use Rattle.std.specs.List.{list_all}
use Rattle.std.specs.Option.{option_map_or, option_or}
use Rattle.std.proofs.lemmas.Bool.Decides.{nat_tests}
use Rattle.std.proofs.lemmas.List.{append_assoc, append-nil}
use Rattle.std.proofs.lemmas.List.Concat.{flat_map-append}
use Rattle.std.proofs.lemmas.List.Folds.{flat_map-map}
use Rattle.fv_codec.specs.declared.inode.InodeRecord.{InodeRecord}
use Rattle.fv_codec.specs.Blocks.{greatest_word}
use Rattle.fv_laws.proofs.Lists.{In, from_flat_map, in_flat_map}
use Rattle.fv_laws.proofs.Tests.{from_all, to_all}
use Rattle.fv_model.specs.Trees.{fan}
use Rattle.fv_tables.specs.Told.{entry_or, file_at, listed, records}
use Rattle.fv_tables.proofs.Items.{number_within}
use Rattle.fv_image.specs.Views.{Placed, Rooted}
use Rattle.fv_image.specs.Volumes.{standing_of}
use Rattle.fv_faults.specs.Walks.{Ground, Step, files_under, met_in, step, steps}
use Rattle.fv_faults.specs.Met.{IsClean, Spot, met, place_at, run}
use Rattle.fv_faults.proofs.Plain.{steps_are}
use Rattle.fv_faults.proofs.Reached.{AreNew, all_fresh, fresh_new}
use Rattle.fv_faults.proofs.Files.{files_to}
use Rattle.fv_walk.specs.Sights.{below_of, sight_of}
use Rattle.fv_walk.specs.Blocks.{files_at}
use Rattle.fv_walk.proofs.Blocks.{spelled_files}
use Rattle.fv_third_pass.proofs.Behind.{AreKnown, File, files_seen}

-- the length of the last of some files that has a number
abbrev pub last_length : List File → ℕ → Option ℕ
last_length [] k = None
last_length (f ∷ fs) k = option_or (last_length fs k) (cond (f.0 == k) (Some f.1.length) None)

-- a file of this number and length is one of them
pub record IsOneOf (files : List File) (k n : ℕ) : Type 0 where
  pub file : File
  pub there : In file files
  pub number : file.0 ≡ k
  pub long : file.1.length ≡ n

-- These lengths are those of the files, and none has the inode file's number.
pub record HasLengths (long : ℕ → Option ℕ) (files : List File) : Type 0 where
  pub held : (f : File) → In f files → long f.0 ≡ Some f.1.length
  pub only : (k n : ℕ) → long k ≡ Some n → IsOneOf files k n
  pub far : (f : File) → In f files → f.0 ≢ greatest_word

-- ---- files of which no two have one number and different lengths

abbrev AreOne : List File → Type 0
AreOne fs = (a b : File) → In a fs → In b fs → a.0 ≡ b.0 → a.1.length ≡ b.1.length

last_is : (fs : List File) (k n : ℕ) → last_length fs k ≡ Some n → IsOneOf fs k n
last_is [] k n is = absurd cc
last_is (f ∷ fs) k n is = so (λ e. last_is fs k n e) (last_length fs k) refl is
  where
    here : (b : Bool) → (f.0 == k) ≡ b → cond b (Some f.1.length) None ≡ Some n → IsOneOf (f ∷ fs) k n
    here true test is = record { file = f; there = inl refl; number = grind (arith, nat_tests, test); long = cc }
    here false test is = absurd cc

    so : (last_length fs k ≡ Some n → IsOneOf fs k n) → (o : Option ℕ) → last_length fs k ≡ o → option_or o (cond (f.0 == k) (Some f.1.length) None) ≡ Some n → IsOneOf (f ∷ fs) k n
    so rest None later is = here (f.0 == k) refl is
    so rest (Some m) later is =
        let one = rest (later ∙ is) in
        record { file = one.file; there = inr one.there; number = one.number; long = one.long }

last_there : (fs : List File) (f : File) → In f fs → last_length fs f.0 ≡ None → ⊥
last_there [] f there none = there
last_there (g ∷ gs) f (inl same) none = so (last_length gs f.0) (g.0 == f.0) (let is : g.0 ≡ f.0 = ap (λ (h : File). h.0) same in grind (arith, nat_tests, is)) none
  where
    so : (o : Option ℕ) (b : Bool) → b ≡ true → option_or o (cond b (Some g.1.length) None) ≡ None → ⊥
    so (Some m) b test none = cc
    so None true test none = cc
    so None false test none = cc
last_there (g ∷ gs) f (inr there) none = so (λ e. last_there gs f there e) (last_length gs f.0) refl none
  where
    so : (last_length gs f.0 ≡ None → ⊥) → (o : Option ℕ) → last_length gs f.0 ≡ o → option_or o (cond (g.0 == f.0) (Some g.1.length) None) ≡ None → ⊥
    so rest None later none = rest later
    so rest (Some m) later none = cc

last_held : (fs : List File) → AreOne fs → (f : File) → In f fs → last_length fs f.0 ≡ Some f.1.length
last_held fs one f there = so (last_length fs f.0) refl
  where
    so : (o : Option ℕ) → last_length fs f.0 ≡ o → last_length fs f.0 ≡ Some f.1.length
    so None is = absurd (last_there fs f there is)
    so (Some n) is =
        let last = last_is fs f.0 n is in
        is ∙ ap (λ (n : ℕ). Some n) (sym last.long ∙ one last.file f last.there there last.number)

-- ---- those that a walk meets

module _ (g : Ground) where
  seen_is : (p : Spot) → files_seen (sight_of g p) ≡ option_map_or (files_under p.0) (place_at g p.0) []
  unfolding below_of
  seen_is p = so (place_at g p.0)
    where
      so : (o : Option Placed) → files_at p.0 (below_of p.0 o) ≡ option_map_or (files_under p.0) o []
      so None = refl
      so (Some x) = spelled_files p.0 x

  run_files : (done : List Step) (ps : List Spot) → AreNew g done ps → flat_map met_in (run g done ps) ≡ flat_map met_in done ++ flat_map (λ p. files_seen (sight_of g p)) ps
  unfolding run step
  run_files done [] are = sym (append-nil (flat_map met_in done))
  run_files done (p ∷ ps) are =
      run_files (done ++ (step g done p.0 p.1 ∷ [])) ps are.1.1
      ∙ ap (λ fs. fs ++ flat_map (λ p. files_seen (sight_of g p)) ps)
      (flat_map-append met_in done (step g done p.0 p.1 ∷ [])
      ∙ ap (λ fs. flat_map met_in done ++ fs) (append-nil (met_in (step g done p.0 p.1)) ∙ ap (λ (b : Bool). if not b then option_map_or (files_under p.0) (place_at g p.0) [] else []) are.0 ∙ sym (seen_is p)))
      ∙ append_assoc (flat_map met_in done) (files_seen (sight_of g p)) (flat_map (λ p. files_seen (sight_of g p)) ps)

  module _ (label : ℕ) (r : Rooted) (clean : IsClean (steps g label r)) where
    abbrev fs : List File
    fs = flat_map met_in (steps g label r)

    pub files_along : flat_map files_seen (map (sight_of g) (met g label r)) ≡ fs
    unfolding run
    files_along =
        flat_map-map files_seen (sight_of g) (met g label r)
        ∙ sym (run_files [] (met g label r) (fresh_new g [] (met g label r) (all_fresh g [] (met g label r) (subst IsClean (steps_are g label r clean) clean))))
        ∙ ap (flat_map met_in) (sym (steps_are g label r clean))

    -- a number has one record in a table
    abbrev agree : File → File → Bool
    agree a b = not (a.0 == b.0) || (a.1.length == b.1.length)

    abbrev rs : List File
    rs = records (standing_of g.view g.slot r)

    record_of : (f : ℕ → Option InodeRecord) (keys : List ℕ) (e : File) → In e (listed f keys) → f e.0 ≡ Some e.1
    unfolding listed
    record_of f keys e there =
        let at = from_flat_map (λ k. entry_or k (f k)) e keys there in
        so at.0 (f at.0) refl at.2
      where
        so : (k : ℕ) (o : Option InodeRecord) → f k ≡ o → In e (entry_or k o) → f e.0 ≡ Some e.1
        so k None is never = absurd never
        so k (Some x) is (inl same) = subst (λ (d : File). f d.0 ≡ Some d.1) same is
        so k (Some x) is (inr never) = absurd never

    one_record : (a b : File) → In a rs → In b rs → agree a b ≡ true
    unfolding records
    one_record a b first second = so (a.0 == b.0) refl
      where
        file : ℕ → Option InodeRecord
        file = file_at (standing_of g.view g.slot r).inode

        so : (t : Bool) → (a.0 == b.0) ≡ t → (not t || (a.1.length == b.1.length)) ≡ true
        so false test = refl
        so true test =
            let number : a.0 ≡ b.0 = grind (arith, nat_tests, test) in
            let same : Some a.1 ≡ Some b.1 = sym (record_of file _ a first) ∙ ap file number ∙ record_of file _ b second in
            let long : a.1.length ≡ b.1.length = ap (λ (o : Option InodeRecord). option_map_or (λ (x : InodeRecord). x.length) o 0) same in
            grind (arith, nat_tests, long)

    are_one : r.levels ≤ 2 → AreOne fs
    are_one fits a b first second number =
        let across : list_all (λ a. list_all (agree a) rs) fs ≡ true = files_to g (λ a. list_all (agree a) rs) r label fits clean (to_all (λ a. list_all (agree a) rs) rs (λ a there. to_all (agree a) rs (λ b here. one_record a b there here))) in
        let along : list_all (agree a) fs ≡ true = files_to g (agree a) r label fits clean (from_all (λ a. list_all (agree a) rs) fs across a first) in
        so (a.0 == b.0) (let test : (a.0 == b.0) ≡ true = grind (arith, nat_tests, number) in test) (from_all (agree a) fs along b second)
      where
        so : (t : Bool) → t ≡ true → (not t || (a.1.length == b.1.length)) ≡ true → a.1.length ≡ b.1.length
        so true test is = grind (arith, nat_tests, is)
        so false test is = absurd cc

    -- a number is below that of the inode file
    abbrev apart : File → Bool
    apart f = not (f.0 == greatest_word)

    low_number : r.levels ≤ 2 → (f : File) → In f rs → apart f ≡ true
    unfolding records
    low_number fits f there =
        let low = number_within (λ e. true) (standing_of g.view g.slot r) f.0 f.1 (record_of (file_at (standing_of g.view g.slot r).inode) _ f there) in
        let few : fan ^ r.levels ≤ 16384 = three r.levels fits in
        let far : f.0 ≢ greatest_word = omega (arith, low, few) in
        grind (arith, nat_tests, far)
      where
        three : (k : ℕ) → k ≤ 2 → fan ^ k ≤ 16384
        three zero low = omega arith
        three (suc zero) low = omega arith
        three (suc (suc zero)) low = omega arith
        three (suc (suc (suc k))) low = absurd (omega (arith, low))

    pub lengths_are : r.levels ≤ 2 → HasLengths (last_length fs) fs
    lengths_are fits = record {
      held = last_held fs (are_one fits);
      only = last_is fs;
      far = λ f there.
          let all : list_all apart fs ≡ true = files_to g apart r label fits clean (to_all apart rs (low_number fits)) in
          let test = from_all apart fs all f there in
          grind (arith, nat_tests, test);
    }

    pub are_known : (long : ℕ → Option ℕ) → HasLengths long fs → AreKnown g long (met g label r)
    are_known long has p inside f seen =
        let there : In f fs = subst (In f) files_along (subst (In f) (sym (flat_map-map files_seen (sight_of g) (met g label r))) (in_flat_map (λ (p : Spot). files_seen (sight_of g p)) p f (met g label r) inside seen)) in
        (has.far f there, has.held f there)
