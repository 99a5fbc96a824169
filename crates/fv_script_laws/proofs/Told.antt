-- What replies tell.
use Rattle.std.proofs.Common.{◌≡◌, ℕ, ◌<◌, ◌^◌, List}
use Rattle.std.specs.Prelude.{Some}
use Rattle.fv_disk.specs.Shown.{IsBlock}
use Rattle.fv_model.specs.declared.answers.Reply.TheVariants.{Content, Number}
use Rattle.fv_model.specs.Texts.{words}
use Rattle.fv_model.specs.Words.{count_of, block_of}
use Rattle.fv_script_laws.specs.Laws.{RepliesReadBack}
use Rattle.fv_script_laws.proofs.Hexes.{block_reads}
use Rattle.fv_script_laws.proofs.Written.{number_reads}
use Rattle.fv_script_laws.proofs.Spaced.{names_read}

number_told : (n : ℕ) → n < 2 ^ 64 → count_of (words (Number n)) ≡ Some n
unfolding words
number_told n small = number_reads n small

block_told : (block : List ℕ) → IsBlock block → block_of (words (Content block)) ≡ Some block
unfolding words
block_told block is = block_reads block is

pub replies_read : RepliesReadBack
replies_read = record { numbers = number_told; blocks = block_told; names = names_read }
