-- What the first word says, from the word itself.
use Rattle.std.proofs.Common.{◌≡◌, ℕ, List, [], ◌∷◌, refl, ap, sym}
use Rattle.std.specs.Prelude.{Option, Some}
use Rattle.std.specs.Option.{option_and_then}
use Rattle.fv_model.specs.declared.commands.Command.{Command}
use Rattle.fv_model.specs.declared.commands.Command.TheVariants.{Put}
use Rattle.fv_model.specs.Words.{Words, text_of}
use Rattle.fv_model.specs.Grammar.{first}

pub said : {A : Type 0} (says : List ℕ → Option A) (words : Words) → first says words ≡ option_and_then (λ p. option_and_then (λ x. Some (x, p.1)) (says p.0)) (first text_of words)
unfolding first text_of
said says [] = refl
said says (word ∷ words) = refl

-- equal writes have equal blocks
abbrev block_in : Command → List ℕ
block_in (Put volume file index block) = block
block_in command = []

pub same_block : (v w f g : List ℕ) (i j : ℕ) (b c : List ℕ) → Put v f i b ≡ Put w g j c → c ≡ b
same_block v w f g i j b c is = sym (ap block_in is)
