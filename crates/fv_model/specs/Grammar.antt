-- The script language: which words say which command.
use Rattle.std.specs.Prelude.{ℕ, Bool, true, false, List, [], ◌∷◌, codes, bytes_eq, Option, Some, None, if◌then◌else◌}
use Rattle.std.specs.Option.{option_and_then}
use Rattle.fv_model.specs.declared.commands.Kind.{Kind}
use Rattle.fv_model.specs.declared.commands.Command.{Command}
use Rattle.fv_model.specs.declared.commands.Command.TheVariants.{VolCreate, VolDestroy, VolResize, VolGuarantee, VolList, VolStat, New, Put, Get, Len, Cut, Remove, Ls, SnapCreate, SnapDelete, SnapRestore, SnapList, CloneCreate, SplitStart, SplitFinish, Mirror, Clean, Probe, Work, Cp}
use Rattle.fv_model.specs.Words.{Words, text_of, name_of, count_of, kind_of, table_of, block_of}

-- a form gives the command that words say, where they are all as it wants them
abbrev pub Form : Type 0
Form = Words → Option Command

-- what the first word says, and the words behind it
unfoldable pub first : {A : Type 0} → (List ℕ → Option A) → Words → Option (A × Words)
first says [] = None
first says (word ∷ words) = option_and_then (λ x. Some (x, words)) (says word)

unfoldable pub is_end : Words → Bool
is_end [] = true
is_end (word ∷ words) = false

-- the first word says something, and the words behind it are as the form wants them
abbrev pub next_word : {A : Type 0} → (List ℕ → Option A) → (A → Form) → Form
next_word says form words = option_and_then (λ p. form p.0 p.1) (first says words)

abbrev pub name : (List ℕ → Form) → Form
name = next_word name_of

abbrev pub number : (ℕ → Form) → Form
number = next_word count_of

abbrev pub kind : (Kind → Form) → Form
kind = next_word kind_of

abbrev pub table : (List ℕ → Option (List ℕ) → Form) → Form
table form = next_word table_of (λ t. form t.0 t.1)

abbrev pub block : (List ℕ → Form) → Form
block = next_word block_of

-- no word is left
abbrev pub end : Command → Form
end command words = if is_end words then Some command else None

-- no word is left, or the words left are as the form wants them
abbrev pub end_or : Command → Form → Form
end_or command form words = if is_end words then Some command else form words

-- the first word is the keyword of a row, and the words behind it are as the row's form wants them
abbrev pub row : List (List ℕ × Form) → List ℕ → Form
row [] word words = None
row (first_row ∷ rows) word words = if bytes_eq word first_row.0 then first_row.1 words else row rows word words

abbrev pub keyword : List (List ℕ × Form) → Form
keyword rows = next_word text_of (row rows)

unfoldable pub vol_create : Form
vol_create = name (λ v. number (λ size. kind (λ k. end (VolCreate v size k))))

unfoldable pub vol_destroy : Form
vol_destroy = name (λ v. end (VolDestroy v))

unfoldable pub vol_resize : Form
vol_resize = name (λ v. number (λ size. end (VolResize v size)))

unfoldable pub vol_guarantee : Form
vol_guarantee = name (λ v. kind (λ k. end (VolGuarantee v k)))

unfoldable pub vol_list : Form
vol_list = end VolList

unfoldable pub vol_stat : Form
vol_stat = name (λ v. end (VolStat v))

unfoldable pub vol : Form
vol = keyword
    ((codes "create", vol_create) ∷ (codes "destroy", vol_destroy) ∷ (codes "resize", vol_resize)
    ∷ (codes "guarantee", vol_guarantee) ∷ (codes "list", vol_list) ∷ (codes "stat", vol_stat) ∷ [])

unfoldable pub snap_create : Form
snap_create = name (λ v. name (λ s. end (SnapCreate v s)))

unfoldable pub snap_delete : Form
snap_delete = name (λ v. name (λ s. end (SnapDelete v s)))

unfoldable pub snap_restore : Form
snap_restore = name (λ v. name (λ s. end (SnapRestore v s)))

unfoldable pub snap_list : Form
snap_list = name (λ v. end (SnapList v))

unfoldable pub snap : Form
snap = keyword
    ((codes "create", snap_create) ∷ (codes "delete", snap_delete) ∷ (codes "restore", snap_restore)
    ∷ (codes "list", snap_list) ∷ [])

unfoldable pub clone_create : Form
clone_create = name (λ c. name (λ v. name (λ s. number (λ size. kind (λ k. end (CloneCreate c v s size k))))))

unfoldable pub clone : Form
clone = keyword ((codes "create", clone_create) ∷ [])

unfoldable pub split_start : Form
split_start = name (λ c. end (SplitStart c))

unfoldable pub split_finish : Form
split_finish = name (λ c. end (SplitFinish c))

unfoldable pub split : Form
split = keyword ((codes "start", split_start) ∷ (codes "finish", split_finish) ∷ [])

unfoldable pub new_form : Form
new_form = name (λ v. name (λ f. end_or (New v f 0) (number (λ reserve. end (New v f reserve)))))

unfoldable pub put_form : Form
put_form = name (λ v. name (λ f. number (λ i. block (λ b. end (Put v f i b)))))

unfoldable pub get : Form
get = table (λ v s. name (λ f. number (λ i. end (Get v s f i))))

unfoldable pub len : Form
len = table (λ v s. name (λ f. end (Len v s f)))

unfoldable pub cut_form : Form
cut_form = name (λ v. name (λ f. number (λ n. end (Cut v f n))))

unfoldable pub rm_form : Form
rm_form = name (λ v. name (λ f. end (Remove v f)))

unfoldable pub ls : Form
ls = table (λ v s. end (Ls v s))

unfoldable pub mirror : Form
mirror = name (λ v. name (λ s. name (λ w. number (λ size. kind (λ k. end (Mirror v s w size k))))))

unfoldable pub clean : Form
clean = name (λ v. end (Clean v))

unfoldable pub probe : Form
probe = name (λ v. name (λ f. number (λ i. end (Probe v f i))))

unfoldable pub work : Form
work = number (λ n. end (Work n))

unfoldable pub cp : Form
cp = end Cp

-- the forms of the language by their first words
unfoldable pub command : Form
command = keyword
    ((codes "vol", vol) ∷ (codes "snap", snap) ∷ (codes "clone", clone) ∷ (codes "split", split)
    ∷ (codes "new", new_form) ∷ (codes "put", put_form) ∷ (codes "get", get) ∷ (codes "len", len)
    ∷ (codes "cut", cut_form) ∷ (codes "rm", rm_form) ∷ (codes "ls", ls) ∷ (codes "mirror", mirror)
    ∷ (codes "clean", clean) ∷ (codes "probe", probe) ∷ (codes "work", work) ∷ (codes "cp", cp) ∷ [])
