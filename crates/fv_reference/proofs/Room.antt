-- What a command that nothing refuses before space leaves room for: one more change, one more file, a span that isn't too great.
use Rattle.std.proofs.Common.{◌≡◌, ◌≤◌, ◌<◌, ℕ, Bool, true, false, not, nat_lt, nat_le, ◌||◌, List, refl, ap, ◌∙◌, arith, Option, Some, None}
use Rattle.std.specs.Option.{option_map_or}
use Rattle.std.specs.FinMap as fin
use Rattle.std.specs.FinSet as set
use Rattle.std.proofs.lemmas.Bool.Decides.{nat_tests}
use Rattle.fv_model.specs.declared.commands.Kind.{Kind}
use Rattle.fv_model.specs.declared.commands.Command.TheVariants.{VolCreate, New, Put, Cut, Remove, CloneCreate, Mirror}
use Rattle.fv_model.specs.Numbers.{is_size, most_changes, most_files, greatest_span}
use Rattle.fv_model.specs.Tables.{Table}
use Rattle.fv_model.specs.Places.{ids_of}
use Rattle.fv_model.specs.Volumes.{Volume}
use Rattle.fv_model.specs.Machines.{Machine}
use Rattle.fv_model.specs.Space.{span_of}
use Rattle.fv_model.specs.Refusals.{of_volume, has_all_changes, has_all_files, is_clone_too_wide, conditions, first_of}
use Rattle.fv_laws.specs.Halves.{before_space}
use Rattle.fv_laws.proofs.Halves.{NoneHolds, none_holds}

is_true : (b : Bool) → not b ≡ false → b ≡ true
is_true true e = refl
is_true false e = cc

neither : (a b : Bool) → (a || b) ≡ false → (a ≡ false) × (b ≡ false)
neither true b e = cc
neither false b e = (refl, e)

below : (most n : ℕ) → nat_le most n ≡ false → n < most
below most n e = grind (arith, nat_tests)

at_most : (most n : ℕ) → nat_lt most n ≡ false → n ≤ most
at_most most n e = grind (arith, nat_tests)

tested : (m : Machine) (v : List ℕ) (test : Volume → Bool) → of_volume m v test ≡ false → (x : Volume) → Some x ≡ fin.get m.volumes v → test x ≡ false
tested m v test e x there = ap (λ (o : Option Volume). option_map_or test o false) there ∙ e

changes_left : (m : Machine) (v : List ℕ) → has_all_changes m v ≡ false → (x : Volume) → Some x ≡ fin.get m.volumes v → x.now < most_changes
changes_left m v e x there = below most_changes x.now (tested m v (λ y. nat_le most_changes y.now) e x there)

pub size_of_new : (m : Machine) (v : List ℕ) (size : ℕ) (kind : Kind) → first_of (before_space m (VolCreate v size kind)) ≡ None → is_size size ≡ true
unfolding conditions
size_of_new m v size kind none =
    let all : NoneHolds (before_space m (VolCreate v size kind)) = none_holds (before_space m (VolCreate v size kind)) none in
    is_true (is_size size) all.0

pub changes_left_by_new : (m : Machine) (v f : List ℕ) (reserve : ℕ) → first_of (before_space m (New v f reserve)) ≡ None → (x : Volume) → Some x ≡ fin.get m.volumes v → x.now < most_changes
unfolding conditions
changes_left_by_new m v f reserve none =
    let all : NoneHolds (before_space m (New v f reserve)) = none_holds (before_space m (New v f reserve)) none in
    changes_left m v (neither (has_all_files m v) (has_all_changes m v) all.1.1.1.1.0).1

pub files_left : (m : Machine) (v f : List ℕ) (reserve : ℕ) → first_of (before_space m (New v f reserve)) ≡ None → (x : Volume) → Some x ≡ fin.get m.volumes v → fin.len x.active.files < most_files
unfolding conditions
files_left m v f reserve none x there =
    let all : NoneHolds (before_space m (New v f reserve)) = none_holds (before_space m (New v f reserve)) none in
    below most_files (fin.len x.active.files) (tested m v (λ y. nat_le most_files (fin.len y.active.files)) (neither (has_all_files m v) (has_all_changes m v) all.1.1.1.1.0).0 x there)

pub changes_left_by_put : (m : Machine) (v f : List ℕ) (i : ℕ) (block : List ℕ) → first_of (before_space m (Put v f i block)) ≡ None → (x : Volume) → Some x ≡ fin.get m.volumes v → x.now < most_changes
unfolding conditions
changes_left_by_put m v f i block none =
    let all : NoneHolds (before_space m (Put v f i block)) = none_holds (before_space m (Put v f i block)) none in
    changes_left m v all.1.1.1.0

pub changes_left_by_cut : (m : Machine) (v f : List ℕ) (length : ℕ) → first_of (before_space m (Cut v f length)) ≡ None → (x : Volume) → Some x ≡ fin.get m.volumes v → x.now < most_changes
unfolding conditions
changes_left_by_cut m v f length none =
    let all : NoneHolds (before_space m (Cut v f length)) = none_holds (before_space m (Cut v f length)) none in
    changes_left m v all.1.1.1.1.0

pub changes_left_by_removal : (m : Machine) (v f : List ℕ) → first_of (before_space m (Remove v f)) ≡ None → (x : Volume) → Some x ≡ fin.get m.volumes v → x.now < most_changes
unfolding conditions
changes_left_by_removal m v f none =
    let all : NoneHolds (before_space m (Remove v f)) = none_holds (before_space m (Remove v f)) none in
    changes_left m v all.1.1.0

pub span_of_clone : (m : Machine) (c v s : List ℕ) (size : ℕ) (kind : Kind) → first_of (before_space m (CloneCreate c v s size kind)) ≡ None → (x : Volume) → Some x ≡ fin.get m.volumes v → (t : Table) → Some t ≡ fin.get x.snapshots s → span_of size (set.len (ids_of t)) x.span ≤ greatest_span
unfolding conditions
span_of_clone m c v s size kind none x there t kept =
    let all : NoneHolds (before_space m (CloneCreate c v s size kind)) = none_holds (before_space m (CloneCreate c v s size kind)) none in
    let fits : is_clone_too_wide m v s size ≡ false = all.1.1.1.1.1.1.0 in
    at_most greatest_span (span_of size (set.len (ids_of t)) x.span) (ap (λ (o : Option Table). option_map_or (λ t. nat_lt greatest_span (span_of size (set.len (ids_of t)) x.span)) o false) kept ∙ tested m v (λ y. option_map_or (λ t. nat_lt greatest_span (span_of size (set.len (ids_of t)) y.span)) (fin.get y.snapshots s) false) fits x there)

pub span_of_mirror : (m : Machine) (v s w : List ℕ) (size : ℕ) (kind : Kind) → first_of (before_space m (Mirror v s w size kind)) ≡ None → (x : Volume) → Some x ≡ fin.get m.volumes v → span_of size 0 x.span ≤ greatest_span
unfolding conditions
span_of_mirror m v s w size kind none x there =
    let all : NoneHolds (before_space m (Mirror v s w size kind)) = none_holds (before_space m (Mirror v s w size kind)) none in
    at_most greatest_span (span_of size 0 x.span) (tested m v (λ y. nat_lt greatest_span (span_of size 0 y.span)) all.1.1.1.1.0 x there)
