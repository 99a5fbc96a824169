-- The line that shows a command says it.
use Rattle.std.proofs.Common.{◌≡◌, ℕ, ◌<◌, ◌≤◌, ◌^◌, true, List, length, refl, ap, ◌∙◌, arith}
use Rattle.std.specs.Prelude.{nat_le, Option, Some, Result, Ok}
use Rattle.std.proofs.lemmas.Bool.{and_parts}
use Rattle.std.proofs.lemmas.Bool.Decides.{nat_tests}
use Rattle.fv_disk.specs.Shown.{IsBlock}
use Rattle.fv_model.specs.declared.commands.Kind.{Kind}
use Rattle.fv_model.specs.declared.commands.Command.{Command}
use Rattle.fv_model.specs.declared.commands.Command.TheVariants.{VolCreate, VolDestroy, VolResize, VolGuarantee, VolList, VolStat, New, Put, Get, Len, Cut, Remove, Ls, SnapCreate, SnapDelete, SnapRestore, SnapList, CloneCreate, SplitStart, SplitFinish, Mirror, Clean, Probe, Work, Cp}
use Rattle.fv_model.specs.Numbers.{is_size, is_reserve, is_index, is_step_count}
use Rattle.fv_model.specs.Words.{text_of}
use Rattle.fv_model.specs.Grammar.{first, is_end, command, vol, vol_create, vol_destroy, vol_resize, vol_guarantee, vol_list, vol_stat, snap, snap_create, snap_delete, snap_restore, snap_list, clone, clone_create, split, split_start, split_finish, new_form, put_form, get, len, cut_form, rm_form, ls, mirror, clean, probe, work, cp}
use Rattle.fv_model.specs.Runs.{Says}
use Rattle.fv_model.specs.Lines.{is_in_range, line_of}
use Rattle.fv_script.specs.declared.fault.LineFault.{LineFault}
use Rattle.fv_script.specs.Reading.{reading}
use Rattle.fv_script_laws.specs.Show.{Named, NamedOrNone, show_words, show, CanShow}
use Rattle.fv_script_laws.proofs.Hexes.{block_reads}
use Rattle.fv_script_laws.proofs.Written.{name_reads, kind_reads, number_reads, table_reads}
use Rattle.fv_script_laws.proofs.Spaced.{are_words, words_of, room, within, name_word, name_short, kind_word, kind_short, number_word, number_short, table_is_word, table_short, block_is_word, block_word_short}

-- what is asked of a command's words
record Reads (c : Command) : Type 0 where
  words : are_words (show_words c) ≡ true
  short : room (show_words c) ≤ 9000
  says : command (show_words c) ≡ Some c

fits : (n m : ℕ) → n ≤ m → nat_le n m ≡ true
fits n m within = grind (arith, nat_tests)

-- a line of such words says the command
says_it : (c : Command) → Reads c → is_in_range c ≡ true → line_of (show c) ≡ Says c
unfolding line_of
says_it c reads range =
    let long : nat_le (length (show c)) 9000 ≡ true = fits (length (show c)) 9000 (omega (arith, within (show_words c), reads.short)) in
    rw (long, words_of (show_words c) reads.words, reads.says, range) refl

size_small : (n : ℕ) → is_size n ≡ true → n ≤ 2097152
size_small n is = let most = (and_parts (nat_le 1 n) (nat_le n 500000) is).1 in grind (arith, nat_tests)

reserve_small : (n : ℕ) → is_reserve n ≡ true → n ≤ 2097152
reserve_small n is = grind (arith, nat_tests)

index_small : (n : ℕ) → is_index n ≡ true → n ≤ 2097152
index_small n is = grind (arith, nat_tests)

step_small : (n : ℕ) → is_step_count n ≡ true → n ≤ 2097152
step_small n is = grind (arith, nat_tests)

shows_vol_create : (v : List ℕ) (size : ℕ) (k : Kind) → Named v → is_size size ≡ true → Reads (VolCreate v size k)
unfolding first is_end text_of command vol vol_create
shows_vol_create v size k v_is range =
    let small : size ≤ 2097152 = size_small size range in let wide : size < 2 ^ 64 = omega (arith, small) in
    record { words = rw (name_word v v_is, number_word size wide, kind_word k) refl; short = omega (arith, name_short v v_is, number_short size small, kind_short k); says = rw (name_reads v v_is, number_reads size wide, kind_reads k) refl }

shows_vol_destroy : (v : List ℕ) → Named v → Reads (VolDestroy v)
unfolding first is_end text_of command vol vol_destroy
shows_vol_destroy v v_is = record { words = rw (name_word v v_is) refl; short = omega (arith, name_short v v_is); says = rw (name_reads v v_is) refl }

shows_vol_resize : (v : List ℕ) (size : ℕ) → Named v → is_size size ≡ true → Reads (VolResize v size)
unfolding first is_end text_of command vol vol_resize
shows_vol_resize v size v_is range =
    let small : size ≤ 2097152 = size_small size range in let wide : size < 2 ^ 64 = omega (arith, small) in
    record { words = rw (name_word v v_is, number_word size wide) refl; short = omega (arith, name_short v v_is, number_short size small); says = rw (name_reads v v_is, number_reads size wide) refl }

shows_vol_guarantee : (v : List ℕ) (k : Kind) → Named v → Reads (VolGuarantee v k)
unfolding first is_end text_of command vol vol_guarantee
shows_vol_guarantee v k v_is = record { words = rw (name_word v v_is, kind_word k) refl; short = omega (arith, name_short v v_is, kind_short k); says = rw (name_reads v v_is, kind_reads k) refl }

shows_vol_list : Reads VolList
unfolding first is_end text_of command vol vol_list
shows_vol_list = record { words = refl; short = omega arith; says = refl }

shows_vol_stat : (v : List ℕ) → Named v → Reads (VolStat v)
unfolding first is_end text_of command vol vol_stat
shows_vol_stat v v_is = record { words = rw (name_word v v_is) refl; short = omega (arith, name_short v v_is); says = rw (name_reads v v_is) refl }

shows_new : (v : List ℕ) (f : List ℕ) (reserve : ℕ) → Named v → Named f → is_reserve reserve ≡ true → Reads (New v f reserve)
unfolding first is_end text_of command new_form
shows_new v f reserve v_is f_is range =
    let small : reserve ≤ 2097152 = reserve_small reserve range in let wide : reserve < 2 ^ 64 = omega (arith, small) in
    record { words = rw (name_word v v_is, name_word f f_is, number_word reserve wide) refl; short = omega (arith, name_short v v_is, name_short f f_is, number_short reserve small); says = rw (name_reads v v_is, name_reads f f_is, number_reads reserve wide) refl }

shows_put : (v : List ℕ) (f : List ℕ) (i : ℕ) (block : List ℕ) → Named v → Named f → IsBlock block → is_index i ≡ true → Reads (Put v f i block)
unfolding first is_end text_of command put_form
shows_put v f i block v_is f_is block_is range =
    let small : i ≤ 2097152 = index_small i range in let wide : i < 2 ^ 64 = omega (arith, small) in
    record { words = rw (name_word v v_is, name_word f f_is, number_word i wide, block_is_word block block_is) refl; short = omega (arith, name_short v v_is, name_short f f_is, number_short i small, block_word_short block block_is); says = rw (name_reads v v_is, name_reads f f_is, number_reads i wide, block_reads block block_is) refl }

shows_get : (v : List ℕ) (s : Option (List ℕ)) (f : List ℕ) (i : ℕ) → Named v → NamedOrNone s → Named f → is_index i ≡ true → Reads (Get v s f i)
unfolding first is_end text_of command get
shows_get v s f i v_is s_is f_is range =
    let small : i ≤ 2097152 = index_small i range in let wide : i < 2 ^ 64 = omega (arith, small) in
    record { words = rw (table_is_word v s v_is s_is, name_word f f_is, number_word i wide) refl; short = omega (arith, table_short v s v_is s_is, name_short f f_is, number_short i small); says = rw (table_reads v s v_is s_is, name_reads f f_is, number_reads i wide) refl }

shows_len : (v : List ℕ) (s : Option (List ℕ)) (f : List ℕ) → Named v → NamedOrNone s → Named f → Reads (Len v s f)
unfolding first is_end text_of command len
shows_len v s f v_is s_is f_is = record { words = rw (table_is_word v s v_is s_is, name_word f f_is) refl; short = omega (arith, table_short v s v_is s_is, name_short f f_is); says = rw (table_reads v s v_is s_is, name_reads f f_is) refl }

shows_cut : (v : List ℕ) (f : List ℕ) (n : ℕ) → Named v → Named f → is_reserve n ≡ true → Reads (Cut v f n)
unfolding first is_end text_of command cut_form
shows_cut v f n v_is f_is range =
    let small : n ≤ 2097152 = reserve_small n range in let wide : n < 2 ^ 64 = omega (arith, small) in
    record { words = rw (name_word v v_is, name_word f f_is, number_word n wide) refl; short = omega (arith, name_short v v_is, name_short f f_is, number_short n small); says = rw (name_reads v v_is, name_reads f f_is, number_reads n wide) refl }

shows_remove : (v : List ℕ) (f : List ℕ) → Named v → Named f → Reads (Remove v f)
unfolding first is_end text_of command rm_form
shows_remove v f v_is f_is = record { words = rw (name_word v v_is, name_word f f_is) refl; short = omega (arith, name_short v v_is, name_short f f_is); says = rw (name_reads v v_is, name_reads f f_is) refl }

shows_ls : (v : List ℕ) (s : Option (List ℕ)) → Named v → NamedOrNone s → Reads (Ls v s)
unfolding first is_end text_of command ls
shows_ls v s v_is s_is = record { words = rw (table_is_word v s v_is s_is) refl; short = omega (arith, table_short v s v_is s_is); says = rw (table_reads v s v_is s_is) refl }

shows_snap_create : (v : List ℕ) (s : List ℕ) → Named v → Named s → Reads (SnapCreate v s)
unfolding first is_end text_of command snap snap_create
shows_snap_create v s v_is s_is = record { words = rw (name_word v v_is, name_word s s_is) refl; short = omega (arith, name_short v v_is, name_short s s_is); says = rw (name_reads v v_is, name_reads s s_is) refl }

shows_snap_delete : (v : List ℕ) (s : List ℕ) → Named v → Named s → Reads (SnapDelete v s)
unfolding first is_end text_of command snap snap_delete
shows_snap_delete v s v_is s_is = record { words = rw (name_word v v_is, name_word s s_is) refl; short = omega (arith, name_short v v_is, name_short s s_is); says = rw (name_reads v v_is, name_reads s s_is) refl }

shows_snap_restore : (v : List ℕ) (s : List ℕ) → Named v → Named s → Reads (SnapRestore v s)
unfolding first is_end text_of command snap snap_restore
shows_snap_restore v s v_is s_is = record { words = rw (name_word v v_is, name_word s s_is) refl; short = omega (arith, name_short v v_is, name_short s s_is); says = rw (name_reads v v_is, name_reads s s_is) refl }

shows_snap_list : (v : List ℕ) → Named v → Reads (SnapList v)
unfolding first is_end text_of command snap snap_list
shows_snap_list v v_is = record { words = rw (name_word v v_is) refl; short = omega (arith, name_short v v_is); says = rw (name_reads v v_is) refl }

shows_clone_create : (c : List ℕ) (v : List ℕ) (s : List ℕ) (size : ℕ) (k : Kind) → Named c → Named v → Named s → is_size size ≡ true → Reads (CloneCreate c v s size k)
unfolding first is_end text_of command clone clone_create
shows_clone_create c v s size k c_is v_is s_is range =
    let small : size ≤ 2097152 = size_small size range in let wide : size < 2 ^ 64 = omega (arith, small) in
    record { words = rw (name_word c c_is, name_word v v_is, name_word s s_is, number_word size wide, kind_word k) refl; short = omega (arith, name_short c c_is, name_short v v_is, name_short s s_is, number_short size small, kind_short k); says = rw (name_reads c c_is, name_reads v v_is, name_reads s s_is, number_reads size wide, kind_reads k) refl }

shows_split_start : (c : List ℕ) → Named c → Reads (SplitStart c)
unfolding first is_end text_of command split split_start
shows_split_start c c_is = record { words = rw (name_word c c_is) refl; short = omega (arith, name_short c c_is); says = rw (name_reads c c_is) refl }

shows_split_finish : (c : List ℕ) → Named c → Reads (SplitFinish c)
unfolding first is_end text_of command split split_finish
shows_split_finish c c_is = record { words = rw (name_word c c_is) refl; short = omega (arith, name_short c c_is); says = rw (name_reads c c_is) refl }

shows_mirror : (v : List ℕ) (s : List ℕ) (w : List ℕ) (size : ℕ) (k : Kind) → Named v → Named s → Named w → is_size size ≡ true → Reads (Mirror v s w size k)
unfolding first is_end text_of command mirror
shows_mirror v s w size k v_is s_is w_is range =
    let small : size ≤ 2097152 = size_small size range in let wide : size < 2 ^ 64 = omega (arith, small) in
    record { words = rw (name_word v v_is, name_word s s_is, name_word w w_is, number_word size wide, kind_word k) refl; short = omega (arith, name_short v v_is, name_short s s_is, name_short w w_is, number_short size small, kind_short k); says = rw (name_reads v v_is, name_reads s s_is, name_reads w w_is, number_reads size wide, kind_reads k) refl }

shows_clean : (v : List ℕ) → Named v → Reads (Clean v)
unfolding first is_end text_of command clean
shows_clean v v_is = record { words = rw (name_word v v_is) refl; short = omega (arith, name_short v v_is); says = rw (name_reads v v_is) refl }

shows_work : (n : ℕ) → is_step_count n ≡ true → Reads (Work n)
unfolding first is_end text_of command work
shows_work n range =
    let small : n ≤ 2097152 = step_small n range in let wide : n < 2 ^ 64 = omega (arith, small) in
    record { words = rw (number_word n wide) refl; short = omega (arith, number_short n small); says = rw (number_reads n wide) refl }

shows_probe : (v : List ℕ) (f : List ℕ) (i : ℕ) → Named v → Named f → is_index i ≡ true → Reads (Probe v f i)
unfolding first is_end text_of command probe
shows_probe v f i v_is f_is range =
    let small : i ≤ 2097152 = index_small i range in let wide : i < 2 ^ 64 = omega (arith, small) in
    record { words = rw (name_word v v_is, name_word f f_is, number_word i wide) refl; short = omega (arith, name_short v v_is, name_short f f_is, number_short i small); says = rw (name_reads v v_is, name_reads f f_is, number_reads i wide) refl }

shows_cp : Reads Cp
unfolding first is_end text_of command cp
shows_cp = record { words = refl; short = omega arith; says = refl }

reads_of : (c : Command) → CanShow c → is_in_range c ≡ true → Reads c
reads_of (VolCreate v size k) can range = shows_vol_create v size k can range
reads_of (VolDestroy v) can range = shows_vol_destroy v can
reads_of (VolResize v size) can range = shows_vol_resize v size can range
reads_of (VolGuarantee v k) can range = shows_vol_guarantee v k can
reads_of VolList can range = shows_vol_list
reads_of (VolStat v) can range = shows_vol_stat v can
reads_of (New v f reserve) can range = shows_new v f reserve can.0 can.1 range
reads_of (Put v f i block) can range = shows_put v f i block can.0 can.1 can.2 range
reads_of (Get v s f i) can range = shows_get v s f i can.0 can.1 can.2 range
reads_of (Len v s f) can range = shows_len v s f can.0 can.1 can.2
reads_of (Cut v f n) can range = shows_cut v f n can.0 can.1 range
reads_of (Remove v f) can range = shows_remove v f can.0 can.1
reads_of (Ls v s) can range = shows_ls v s can.0 can.1
reads_of (SnapCreate v s) can range = shows_snap_create v s can.0 can.1
reads_of (SnapDelete v s) can range = shows_snap_delete v s can.0 can.1
reads_of (SnapRestore v s) can range = shows_snap_restore v s can.0 can.1
reads_of (SnapList v) can range = shows_snap_list v can
reads_of (CloneCreate c v s size k) can range = shows_clone_create c v s size k can.0 can.1 can.2 range
reads_of (SplitStart c) can range = shows_split_start c can
reads_of (SplitFinish c) can range = shows_split_finish c can
reads_of (Mirror v s w size k) can range = shows_mirror v s w size k can.0 can.1 can.2 range
reads_of (Clean v) can range = shows_clean v can
reads_of (Probe v f i) can range = shows_probe v f i can.0 can.1 range
reads_of (Work n) can range = shows_work n range
reads_of Cp can range = shows_cp

pub shows : (c : Command) → CanShow c → is_in_range c ≡ true → line_of (show c) ≡ Says c
shows c can range = says_it c (reads_of c can range) range

pub read_as : (line : List ℕ) (c : Command) (result : Result Command LineFault) → result ≡ reading (line_of line) → CanShow c → is_in_range c ≡ true → line ≡ show c → result ≡ Ok c
read_as line c result read can range is = read ∙ ap (λ (l : List ℕ). reading (line_of l)) is ∙ ap reading (shows c can range)
