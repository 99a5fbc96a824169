-- Looking for a name among records.
use Rattle.std.proofs.Common.{◌≡◌, ℕ, ◌+◌, ◌*◌, ◌^◌, ◌<◌, Bool, true, false, List, refl, sym, ap, ◌∙◌, arith, subst, ⊎_elim}
use Rattle.std.specs.Prelude.{Option, Some, None, is_some, ◌==◌}
use Rattle.std.proofs.lemmas.Bool.{cases_eq, cases_lt, both_ways}
use Rattle.fv_codec.specs.declared.inode.InodeRecord.{InodeRecord}
use Rattle.fv_model.specs.Trees.{fan}
use Rattle.fv_tables.specs.Spelled.{Rooted}
use Rattle.fv_tables.specs.Told.{records_each, used_record, file_at}
use Rattle.fv_tables.proofs.Tables.{no_file}
use Rattle.fv_inode.specs.Files.{has_name, info_of, HasNone, HasNoneBelow, IsFirst, Finds, FindsBelow}
use Rattle.fv_inode.specs.declared.info.Info.{Info}

-- no file below the next number has the name
pub one_more : (t : Rooted) (name : List ℕ) (bound : ℕ) → HasNoneBelow t name bound → has_name (file_at t bound) name ≡ false → HasNoneBelow t name (bound + 1)
one_more t name bound none here n lt = ⊎_elim
    (λ (e : n ≡ bound). ap (λ m. has_name (file_at t m) name) e ∙ here)
    (λ ne. none n (omega arith))
    (cases_eq n bound)

-- no file of all has the name
pub none_at_all : (t : Rooted) (name : List ℕ) → HasNoneBelow t name (records_each * fan ^ t.levels) → HasNone t name
none_at_all t name none n = ⊎_elim
    (λ (lt : n < records_each * fan ^ t.levels). none n lt)
    (λ far. ap (λ o. has_name o name) (no_file t n far))
    (cases_lt n (records_each * fan ^ t.levels))

pub found_some : (t : Rooted) (name : List ℕ) (bound : ℕ) (found : Option Info) → is_some found ≡ true → FindsBelow t name bound found → Finds t name found
found_some t name bound None some finds = absurd (grind (arith, some))
found_some t name bound (Some info) some finds = finds

pub found_none : (t : Rooted) (name : List ℕ) (bound : ℕ) (found : Option Info) → is_some found ≡ false → FindsBelow t name bound found → HasNoneBelow t name bound
found_none t name bound None some finds = finds
found_none t name bound (Some info) some finds = absurd (grind (arith, some))
