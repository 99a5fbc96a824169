-- The lines of commands as text.
use Rattle.std.specs.Prelude.{ℕ, List, [], ◌∷◌, ◌++◌, flat_map}
use Rattle.fv_disk.specs.Shown.{IsBlock}
use Rattle.fv_model.specs.declared.answers.Reply.TheVariants.{Content}
use Rattle.fv_model.specs.declared.commands.Command.{Command}
use Rattle.fv_model.specs.declared.commands.Command.TheVariants.{Put}
use Rattle.fv_model.specs.Texts.{text, line_end}
use Rattle.fv_script_laws.specs.Show.{show}

-- what ends the line of a command that says a block: the block as the reply to `get` tells it
abbrev pub block_line : Command → List ℕ
block_line (Put volume file index block) = text (Content block)
block_line command = []

-- the block that a command says has its bytes
abbrev pub HasBlock : Command → Type 0
HasBlock (Put volume file index block) = IsBlock block
HasBlock command = Unit {0}

-- the line of a command with its end
abbrev pub said : Command → List ℕ
said command = show command ++ line_end ∷ []

-- the lines of commands, one after another
abbrev pub script_text : List Command → List ℕ
script_text commands = flat_map said commands
