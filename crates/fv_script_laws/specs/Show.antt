-- How commands are written: for each a line of its words, with a space between.
use Rattle.std.specs.Prelude.{◌≡◌, ℕ, true, List, [], ◌∷◌, ◌++◌, flat_map, codes, decimal, Option, Some, None}
use Rattle.std.specs.List.{join_with_byte}
use Rattle.fv_disk.specs.Shown.{IsBlock}
use Rattle.fv_model.specs.declared.commands.Command.{Command}
use Rattle.fv_model.specs.declared.commands.Command.TheVariants.{VolCreate, VolDestroy, VolResize, VolGuarantee, VolList, VolStat, New, Put, Get, Len, Cut, Remove, Ls, SnapCreate, SnapDelete, SnapRestore, SnapList, CloneCreate, SplitStart, SplitFinish, Mirror, Clean, Probe, Work, Cp}
use Rattle.fv_model.specs.Spelling.{is_name}
use Rattle.fv_model.specs.Texts.{or_dash, hex, trimmed, kind_text}
use Rattle.fv_model.specs.Words.{Words}

-- a volume, or a snapshot of it
abbrev pub table_word : List ℕ → Option (List ℕ) → List ℕ
table_word v None = v
table_word v (Some s) = v ++ 64 ∷ s

-- a block, as the reply to `get` tells it
abbrev pub block_word : List ℕ → List ℕ
block_word block = or_dash (flat_map hex (trimmed block))

abbrev pub show_words : Command → Words
show_words (VolCreate v size k) = codes "vol" ∷ codes "create" ∷ v ∷ decimal size ∷ kind_text k ∷ []
show_words (VolDestroy v) = codes "vol" ∷ codes "destroy" ∷ v ∷ []
show_words (VolResize v size) = codes "vol" ∷ codes "resize" ∷ v ∷ decimal size ∷ []
show_words (VolGuarantee v k) = codes "vol" ∷ codes "guarantee" ∷ v ∷ kind_text k ∷ []
show_words VolList = codes "vol" ∷ codes "list" ∷ []
show_words (VolStat v) = codes "vol" ∷ codes "stat" ∷ v ∷ []
show_words (New v f reserve) = codes "new" ∷ v ∷ f ∷ decimal reserve ∷ []
show_words (Put v f i block) = codes "put" ∷ v ∷ f ∷ decimal i ∷ block_word block ∷ []
show_words (Get v s f i) = codes "get" ∷ table_word v s ∷ f ∷ decimal i ∷ []
show_words (Len v s f) = codes "len" ∷ table_word v s ∷ f ∷ []
show_words (Cut v f n) = codes "cut" ∷ v ∷ f ∷ decimal n ∷ []
show_words (Remove v f) = codes "rm" ∷ v ∷ f ∷ []
show_words (Ls v s) = codes "ls" ∷ table_word v s ∷ []
show_words (SnapCreate v s) = codes "snap" ∷ codes "create" ∷ v ∷ s ∷ []
show_words (SnapDelete v s) = codes "snap" ∷ codes "delete" ∷ v ∷ s ∷ []
show_words (SnapRestore v s) = codes "snap" ∷ codes "restore" ∷ v ∷ s ∷ []
show_words (SnapList v) = codes "snap" ∷ codes "list" ∷ v ∷ []
show_words (CloneCreate c v s size k) = codes "clone" ∷ codes "create" ∷ c ∷ v ∷ s ∷ decimal size ∷ kind_text k ∷ []
show_words (SplitStart c) = codes "split" ∷ codes "start" ∷ c ∷ []
show_words (SplitFinish c) = codes "split" ∷ codes "finish" ∷ c ∷ []
show_words (Mirror v s w size k) = codes "mirror" ∷ v ∷ s ∷ w ∷ decimal size ∷ kind_text k ∷ []
show_words (Clean v) = codes "clean" ∷ v ∷ []
show_words (Probe v f i) = codes "probe" ∷ v ∷ f ∷ decimal i ∷ []
show_words (Work n) = codes "work" ∷ decimal n ∷ []
show_words Cp = codes "cp" ∷ []

-- the line of a command
abbrev pub show : Command → List ℕ
show c = join_with_byte 32 (show_words c)

abbrev pub Named : List ℕ → Type 0
Named v = is_name v ≡ true

abbrev pub NamedOrNone : Option (List ℕ) → Type 0
NamedOrNone None = Unit {0}
NamedOrNone (Some s) = Named s

-- a command can be shown where its names are names and its block is one
abbrev pub CanShow : Command → Type 0
CanShow (VolCreate v size k) = Named v
CanShow (VolDestroy v) = Named v
CanShow (VolResize v size) = Named v
CanShow (VolGuarantee v k) = Named v
CanShow VolList = Unit {0}
CanShow (VolStat v) = Named v
CanShow (New v f reserve) = Named v × Named f
CanShow (Put v f i block) = Named v × Named f × IsBlock block
CanShow (Get v s f i) = Named v × NamedOrNone s × Named f
CanShow (Len v s f) = Named v × NamedOrNone s × Named f
CanShow (Cut v f n) = Named v × Named f
CanShow (Remove v f) = Named v × Named f
CanShow (Ls v s) = Named v × NamedOrNone s
CanShow (SnapCreate v s) = Named v × Named s
CanShow (SnapDelete v s) = Named v × Named s
CanShow (SnapRestore v s) = Named v × Named s
CanShow (SnapList v) = Named v
CanShow (CloneCreate c v s size k) = Named c × Named v × Named s
CanShow (SplitStart c) = Named c
CanShow (SplitFinish c) = Named c
CanShow (Mirror v s w size k) = Named v × Named s × Named w
CanShow (Clean v) = Named v
CanShow (Probe v f i) = Named v × Named f
CanShow (Work n) = Unit {0}
CanShow Cp = Unit {0}
