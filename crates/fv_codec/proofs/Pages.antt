-- A block whose front is written and whose rest is zero.
use Rattle.std.proofs.Common.{◌≡◌, ℕ, ◌+◌, ◌-◌, ◌≤◌, List, ◌++◌, length, take, drop, ap, sym, ◌∙◌, arith, take-add, drop-drop, length-take}
use Rattle.std.proofs.lemmas.List.{take-replicate, drop-replicate}
use Rattle.std.proofs.lemmas.Slice.{take-put_mid, drop-put_mid}
use borrow.Rule.Slice.PartMut.{put_mid}
use Rattle.fv_codec.specs.Bytes.{zeros}

-- the place behind the front is the front's length
pub room : (bytes front : List ℕ) (at count : ℕ) → length bytes ≡ 4096 → at ≤ 4096 → take at bytes ≡ front → length front + count ≤ 4096 → at + count ≤ 4096
room bytes front at count long fits view free = omega (arith, ap length view, length-take at bytes)

-- so many more zero bytes belong to the front
pub skipped : (bytes front : List ℕ) (at count : ℕ) → at + count ≤ 4096 → take at bytes ≡ front → drop at bytes ≡ zeros (4096 - at) → take (at + count) bytes ≡ front ++ zeros count
unfolding zeros
skipped bytes front at count fits view rest = take-add at count bytes ∙ ap (λ (xs : List ℕ). take at bytes ++ take count xs) rest ∙ ap (λ (xs : List ℕ). take at bytes ++ xs) (take-replicate count (4096 - at) 0 (omega arith)) ∙ ap (λ (xs : List ℕ). xs ++ zeros count) view

pub still_zero : (bytes : List ℕ) (at count : ℕ) → at + count ≤ 4096 → drop at bytes ≡ zeros (4096 - at) → drop (at + count) bytes ≡ zeros (4096 - (at + count))
unfolding zeros
still_zero bytes at count fits rest =
    let less : 4096 - at - count ≡ 4096 - (at + count) = omega arith in
    let twice : drop (at + count) bytes ≡ drop count (drop at bytes) = sym (drop-drop count at bytes) in
    let same : drop count (drop at bytes) ≡ drop count (zeros (4096 - at)) = ap (drop count) rest in
    let fewer : drop count (zeros (4096 - at)) ≡ zeros (4096 - at - count) = drop-replicate count (4096 - at) 0 in
    twice ∙ (same ∙ (fewer ∙ ap zeros less))

-- a run of bytes was put behind the front
pub put : (bytes run front : List ℕ) (at count : ℕ) → at + count ≤ 4096 → length bytes ≡ 4096 → length run ≡ count → take at bytes ≡ front → take (at + count) (put_mid at (at + count - at) bytes run) ≡ front ++ run
put bytes run front at count fits long short view = take-put_mid at (at + count - at) bytes run (at + count) (omega arith) (omega arith) ∙ ap (λ (xs : List ℕ). xs ++ run) view

pub zero_behind : (bytes run : List ℕ) (at count : ℕ) → at + count ≤ 4096 → length bytes ≡ 4096 → length run ≡ count → drop at bytes ≡ zeros (4096 - at) → drop (at + count) (put_mid at (at + count - at) bytes run) ≡ zeros (4096 - (at + count))
zero_behind bytes run at count fits long short rest = drop-put_mid at (at + count - at) bytes run (at + count) (omega arith) (omega arith) (omega arith) ∙ still_zero bytes at count fits rest
