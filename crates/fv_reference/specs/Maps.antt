-- A `BTreeMap` as a finite map.
use Rattle.std.specs.declared.cmp.Ordering.{Ordering}
use Rattle.std.specs.BTreeMap.{BTreeMap}
use Rattle.std.specs.BTreeSet.{BTreeSet}
use Rattle.std.specs.FinMap as fin
use Rattle.std.specs.FinSet as set

abbrev pub map_of : {K X : Type 0} (R : K → K → Ordering) → BTreeMap K X → fin.FinMap R X
map_of R m = fin.from_entries m.entries

-- a `BTreeSet` as a finite set
abbrev pub set_of : {K : Type 0} (R : K → K → Ordering) → BTreeSet K → set.FinSet R
set_of R s = set.from_list s.keys
