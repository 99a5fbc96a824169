-- What is written reads back.
use Rattle.std.specs.Prelude.{◌≡◌, ◌<◌, ◌^◌, ℕ, true, List, ◌∷◌, decimal, Option, Some}
use Rattle.std.specs.List.{list_all}
use Rattle.fv_disk.specs.Shown.{IsBlock}
use Rattle.fv_model.specs.declared.commands.Kind.{Kind}
use Rattle.fv_model.specs.declared.answers.Reply.TheVariants.{Content, Number, Names}
use Rattle.fv_model.specs.Spelling.{is_name}
use Rattle.fv_model.specs.Texts.{kind_text, words}
use Rattle.fv_model.specs.Words.{line_words, name_of, count_of, kind_of, table_of, block_of}
use Rattle.fv_script_laws.specs.Show.{Named, NamedOrNone, table_word, block_word}

-- A word that is written of something says that.
pub record ReadsBack : Type 0 where
  pub names : (v : List ℕ) → Named v → name_of v ≡ Some v
  pub kinds : (k : Kind) → kind_of (kind_text k) ≡ Some k
  pub numbers : (n : ℕ) → n < 2 ^ 64 → count_of (decimal n) ≡ Some n
  pub tables : (v : List ℕ) (s : Option (List ℕ)) → Named v → NamedOrNone s → table_of (table_word v s) ≡ Some (v, s)
  pub blocks : (block : List ℕ) → IsBlock block → block_of (block_word block) ≡ Some block

-- What a reply tells of a number, a block and some names reads as them.
pub record RepliesReadBack : Type 0 where
  pub numbers : (n : ℕ) → n < 2 ^ 64 → count_of (words (Number n)) ≡ Some n
  pub blocks : (block : List ℕ) → IsBlock block → block_of (words (Content block)) ≡ Some block
  pub names : (name : List ℕ) (names : List (List ℕ)) → list_all is_name (name ∷ names) ≡ true → line_words (words (Names (name ∷ names))) ≡ name ∷ names
