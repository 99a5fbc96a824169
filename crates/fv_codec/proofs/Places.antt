-- Places that were written are read again.
use Rattle.std.proofs.Common.{◌≡◌, ℕ, ◌+◌, ◌*◌, ◌<◌, ◌≤◌, ◌^◌, List, [], ◌∷◌, ◌++◌, length, drop, Ok, refl, arith}
use Rattle.std.specs.List.{flat_map, All, AllByRecursion}
use Rattle.std.proofs.lemmas.List.Elements.{All-head, All-tail}
use Rattle.fv_codec.specs.Bytes.{word_at, word, zeros}
use Rattle.fv_codec.specs.Fields.{Field, word_in, zeros_in, items_in, verdicts, reading, items}
use Rattle.fv_codec.specs.Blocks.{last_place, asks_place, place_of}
use Rattle.fv_codec.proofs.Numbers.{word_said, word_there, zeros_said, zeros_last, past_word, past_zeros, all_said, length-word}
use Rattle.fv_codec.proofs.Items.{ReadsBack, items_said, items_there, past_items}

place_again : (x : ℕ) → x ≤ last_place → ReadsBack 8 word asks_place place_of x
place_again x ok = record {
  long = length-word x;
  fine = λ rest. word_said 0 0 last_place x (word x ++ rest) rest refl (omega arith) (omega arith) ok;
  same = λ rest. word_there 0 x (word x ++ rest) rest refl (omega arith);
}

pub places_again : (xs : List ℕ) → All (λ place. place ≤ last_place) xs → AllByRecursion (ReadsBack 8 word asks_place place_of) xs
places_again [] are = tt
places_again (x ∷ xs) are = (place_again x (All-head (λ place. place ≤ last_place) x xs are), places_again xs (All-tail (λ place. place ≤ last_place) x xs are))

-- a word that is written, and that may be from the least to the greatest
pub record Allowed (least greatest x : ℕ) : Type 0 where
  pub small : x < 2 ^ 64
  pub low : least ≤ x
  pub high : x ≤ greatest

-- a mark, two words, and places behind a gap, as a root and an inner node have them
abbrev placed_bytes : ℕ → ℕ → ℕ → ℕ → ℕ → List ℕ → List ℕ
placed_bytes mark first second gap fill places = word mark ++ (word first ++ (word second ++ (zeros gap ++ (flat_map word places ++ zeros fill))))

abbrev placed_fields : ℕ → ℕ → ℕ → ℕ → ℕ → ℕ → ℕ → ℕ → List Field
placed_fields mark least greatest least' greatest' gap n fill = word_in 0 mark mark ∷ word_in 8 least greatest ∷ word_in 16 least' greatest' ∷ zeros_in 24 gap ∷ items_in (24 + gap) n 8 asks_place ∷ zeros_in (24 + gap + n * 8) fill ∷ []

abbrev placed_value : {X : Type 0} → (ℕ → ℕ → List ℕ → X) → ℕ → ℕ → List ℕ → X
placed_value make gap n b = make (word_at 8 b) (word_at 16 b) (items n 8 place_of (drop (24 + gap) b))

-- such a block that is written is read as the value that is made of its words and places
pub placed_again : {X : Type 0} (make : ℕ → ℕ → List ℕ → X) (mark least greatest first least' greatest' second gap n fill : ℕ) (places : List ℕ)
    → mark < 2 ^ 64 → Allowed least greatest first → Allowed least' greatest' second → All (λ place. place ≤ last_place) places → length places ≡ n
    → reading (verdicts (placed_fields mark least greatest least' greatest' gap n fill) (placed_bytes mark first second gap fill places)) (placed_value make gap n (placed_bytes mark first second gap fill places)) ≡ Ok (make first second places)
placed_again make mark least greatest first least' greatest' second gap n fill places small one two are long =
    let b = placed_bytes mark first second gap fill places in
    let fields = placed_fields mark least greatest least' greatest' gap n fill in
    let d8 = past_word 0 mark b _ refl in
    let d16 = past_word 8 first b _ d8 in
    let d24 = past_word 16 second b _ d16 in
    let dp = past_zeros 24 gap b _ d24 in
    let back = places_again places are in
    let dz = past_items (24 + gap) n 8 word asks_place place_of places b (zeros fill) long back dp in
    let all = all_said fields b (
      word_said 0 mark mark mark b _ refl small (omega arith) (omega arith),
      (
        word_said 8 least greatest first b _ d8 one.small one.low one.high,
        (
          word_said 16 least' greatest' second b _ d16 two.small two.low two.high,
          (
            zeros_said 24 gap b _ d24,
            (
              items_said (24 + gap) n 8 word asks_place place_of places b (zeros fill) long back dp,
              (zeros_last (24 + gap + n * 8) fill b dz, tt),
            ),
          ),
        ),
      ),
    ) in
    rw (all, word_there 8 first b _ d8 one.small, word_there 16 second b _ d16 two.small, items_there (24 + gap) n 8 word asks_place place_of places b (zeros fill) long back dp) refl
