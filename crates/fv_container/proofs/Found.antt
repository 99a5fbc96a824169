-- A row of entries that is found at once.
use Rattle.std.proofs.Common.{◌≡◌, ◌≤◌, ◌+◌, ◌/◌, ℕ, Bool, List, length, get_or, Option, None, Ok, ap, arith}
use Rattle.std.specs.Prelude.{IsTrue}
use Rattle.fv_disk.specs.Shown.{Shown}
use Rattle.fv_container.specs.declared.entry.Entry.{Entry}
use Rattle.fv_container.specs.Clean.{IsCleanOn}
use Rattle.fv_container.specs.Finding.{AreAway, AreEntries, AreHeld, LooksUpRow, Row}
use Rattle.fv_container.specs.Kept.{IsKept, paged_of}
use Rattle.fv_container.specs.Paged.{Leaves, Paged}
use Rattle.fv_container.specs.Spelled.{IsOpened}
use Rattle.fv_container.proofs.Puts.{found_opened, looked_out}

module _ (disk : Shown) (now : Paged) (es : List (Option Entry)) (tree lent_tree : List ℕ) (dirty : List Bool) (leaves lent : Leaves) (known sure used : List Bool) (next fresh : List ℕ) (count first : ℕ) (row : Row)
    (view : paged_of es tree dirty leaves known sure ≡ now) (is : IsKept (paged_of es tree dirty leaves known sure) count leaves used next fresh) (within : first + length row ≤ length now.map.entries) (tells : IsTrue disk.tells)
    (same : lent ≡ leaves) (placed : lent_tree ≡ tree) (looked : LooksUpRow disk lent lent_tree first (length row) row) (held : AreHeld 0 (length row) row)
  where
    pub row_out : IsCleanOn disk.reads now → AreEntries now.map first row
    row_out clean k lt = looked_out disk now es tree dirty leaves lent known sure used next fresh count (first + k) (get_or lent_tree ((first + k) / 256) 0) (Ok (get_or row k None))
        view is (omega (arith, within, lt)) tells clean same (ap (λ (t : List ℕ). get_or t ((first + k) / 256) 0) placed) (looked k lt) (held k (omega arith) lt)

    pub row_opened : (root height : ℕ) → IsOpened disk.reads root height now.map → AreAway now first (length row) → AreEntries now.map first row
    row_opened root height opened away k lt = found_opened disk now es tree dirty leaves lent known sure used next fresh count (first + k) (get_or lent_tree ((first + k) / 256) 0) (Ok (get_or row k None))
        view is (omega (arith, within, lt)) tells root height opened (away k lt) same (ap (λ (t : List ℕ). get_or t ((first + k) / 256) 0) placed) (looked k lt) (held k (omega arith) lt)
