-- A word that is padded with zeros is stored.
use Rattle.std.proofs.Common.{◌≡◌, ℕ, ◌-◌, List, ◌++◌, length, take, replicate, drop, true, sym, ap, ◌∙◌}
use Rattle.std.proofs.Math.Seq.{take-append_seam}
use Rattle.std.proofs.lemmas.List.{drop-replicate}
use Rattle.fv_model.specs.Spelling.{is_name, IsStored}

front : (word rest : List ℕ) → take (length word) (word ++ rest) ≡ word
front word rest = take-append_seam word rest

pub zeros_left : (n : ℕ) → drop {A = ℕ} n (replicate 64 0) ≡ replicate (64 - n) 0
zeros_left n = drop-replicate n 64 0

pub padded_is_stored : (bytes word : List ℕ) → is_name word ≡ true → bytes ≡ word ++ replicate (64 - length word) 0 → IsStored bytes (length word)
padded_is_stored bytes word spelled padded =
    let word_is : take (length word) bytes ≡ word = ap (take (length word)) padded ∙ front word _ in record {
      spelled = ap is_name word_is ∙ spelled;
      within = ap length word_is;
      filled = padded ∙ ap (λ (w : List ℕ). w ++ replicate (64 - length w) 0) (sym word_is);
    }
