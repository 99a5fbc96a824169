-- The text of a reply: one line with its end.
use Rattle.std.specs.Prelude.{ℕ, ◌+◌, ◌-◌, ◌/◌, ◌%◌, Bool, true, false, cond, nat_lt, nat_eq, List, [], ◌∷◌, ◌++◌, length, take, flat_map, codes, decimal}
use Rattle.std.specs.List.{suffix_len, join_with_byte}
use Rattle.fv_model.specs.declared.answers.Refusal.{Refusal}
use Rattle.fv_model.specs.declared.answers.Refusal.TheVariants.{Syntax, NoVolume, VolumeExists, NoFile, FileExists, NoSnapshot, SnapshotExists, VolumeFull, AggregateFull, Range, TooMany, SnapshotInUse, VolumeInUse, NotClone, ParentNotClean, WrongKind}
use Rattle.fv_model.specs.declared.answers.Stat.{Stat}
use Rattle.fv_model.specs.declared.answers.Reply.{Reply}
use Rattle.fv_model.specs.declared.answers.Reply.TheVariants.{Done, Content, Number, Names, Stat as Numbers, Refused}
use Rattle.fv_model.specs.declared.commands.Kind.{Kind}
use Rattle.fv_model.specs.declared.commands.Kind.TheVariants.{Volume as Whole, File as ByFile, Thin}
use Rattle.fv_model.specs.Numbers.{number_of}

-- the byte that ends a line
abbrev pub line_end : ℕ
line_end = 10

-- a dash stands for nothing
abbrev pub or_dash : List ℕ → List ℕ
or_dash [] = codes "-"
or_dash (b ∷ bs) = b ∷ bs

abbrev pub hex_digit : ℕ → ℕ
hex_digit d = cond (nat_lt d 10) (48 + d) (87 + d)

abbrev pub hex : ℕ → List ℕ
hex byte = hex_digit (byte / 16) ∷ hex_digit (byte % 16) ∷ []

-- a block without the zero bytes at its end
abbrev pub trimmed : List ℕ → List ℕ
trimmed block = take (length block - suffix_len (λ b. nat_eq b 0) block) block

abbrev pub kind_text : Kind → List ℕ
kind_text Whole = codes "volume"
kind_text ByFile = codes "file"
kind_text Thin = codes "none"

abbrev pub yes_or_no : Bool → List ℕ
yes_or_no true = codes "yes"
yes_or_no false = codes "no"

abbrev pub stat_text : Stat → List ℕ
stat_text s =
    codes "size " ++ (decimal s.size ++ (codes " used " ++ (decimal s.used ++ (codes " need " ++ (decimal s.need
    ++ (codes " commit " ++ (decimal s.commit ++ (codes " kind " ++ (kind_text s.kind ++ (codes " clean " ++ yes_or_no s.clean))))))))))

abbrev pub reason : Refusal → List ℕ
reason Syntax = codes "syntax"
reason NoVolume = codes "no such volume"
reason VolumeExists = codes "volume exists"
reason NoFile = codes "no such file"
reason FileExists = codes "file exists"
reason NoSnapshot = codes "no such snapshot"
reason SnapshotExists = codes "snapshot exists"
reason VolumeFull = codes "volume full"
reason AggregateFull = codes "aggregate full"
reason Range = codes "number out of range"
reason TooMany = codes "too many"
reason SnapshotInUse = codes "snapshot in use"
reason VolumeInUse = codes "volume in use"
reason NotClone = codes "not a clone or not splitting"
reason ParentNotClean = codes "parent not clean"
reason WrongKind = codes "kind doesn't fit"

unfoldable pub words : Reply → List ℕ
words Done = codes "ok"
words (Content block) = or_dash (flat_map hex (trimmed block))
words (Number n) = decimal n
words (Names names) = or_dash (join_with_byte 32 names)
words (Numbers stat) = stat_text stat
words (Refused r) = codes "err " ++ (decimal (number_of r) ++ (codes " " ++ reason r))

-- the reply's line with its end
abbrev pub text : Reply → List ℕ
text reply = words reply ++ line_end ∷ []

-- the last line of a run that answered so many lines
abbrev pub done_text : ℕ → List ℕ
done_text count = codes "done " ++ (decimal count ++ line_end ∷ [])
