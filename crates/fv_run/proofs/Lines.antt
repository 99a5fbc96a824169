-- The line of a reply ends once, with its last byte, and it is given out.
use Rattle.std.proofs.Common.{◌≡◌, ℕ, ◌+◌, ◌<◌, ◌≤◌, ◌/◌, ◌%◌, ◌++◌, Bool, true, false, cond, List, [], ◌∷◌, length, take, drop, suc, zero, refl, sym, ap, ◌∙◌, arith, append_assoc}
use Rattle.std.specs.Prelude.{codes, decimal, flat_map, nat_eq, nat_lt, nat_le, ◌&&◌, Ok, Err}
use Rattle.std.specs.List.{list_all, join_with_byte, All, AllByRecursion}
use Rattle.std.specs.Fmt.{digits, digits_onto, digit_glyph}
use Rattle.std.proofs.lemmas.Bool.{and_parts}
use Rattle.std.proofs.lemmas.Bool.Decides.{nat_tests}
use Rattle.std.proofs.lemmas.List.{length-append, take-append-drop, take-append-le}
use Rattle.std.proofs.lemmas.List.Elements.{recursion_from_All}
use Rattle.fv_disk.specs.declared.Failed.{Failed}
use Rattle.fv_disk.specs.Shown.{Shown}
use Rattle.fv_model.specs.declared.answers.Refusal.{Refusal}
use Rattle.fv_model.specs.declared.answers.Refusal.TheVariants.{Syntax, NoVolume, VolumeExists, NoFile, FileExists, NoSnapshot, SnapshotExists, VolumeFull, AggregateFull, Range, TooMany, SnapshotInUse, VolumeInUse, NotClone, ParentNotClean, WrongKind}
use Rattle.fv_model.specs.declared.answers.Stat.{Stat}
use Rattle.fv_model.specs.declared.answers.Reply.TheVariants.{Done, Content, Number, Names, Stat as Numbers, Refused}
use Rattle.fv_model.specs.declared.commands.Kind.{Kind}
use Rattle.fv_model.specs.declared.commands.Kind.TheVariants.{Volume as Whole, File as ByFile, Thin}
use Rattle.fv_model.specs.Numbers.{number_of}
use Rattle.fv_model.specs.Spelling.{is_name, is_name_byte}
use Rattle.fv_model.specs.Runs.{whole}
use Rattle.fv_model.specs.Texts.{words, text, done_text, or_dash, hex, hex_digit, trimmed, kind_text, yes_or_no, stat_text, reason}
use Rattle.fv_script.specs.Telling.{Tells}
use Rattle.fv_lines.proofs.Ends.{whole_cons, whole_append}
use Rattle.fv_run.specs.declared.ending.Fault.TheVariants.{Sink}
use Rattle.fv_run.specs.Answering.{IsLine, TellsLine}

-- no byte of it ends a line
record NoEnd (bytes : List ℕ) : Type 0 where
  is : whole bytes ≡ 0

none_in : NoEnd []
none_in = record { is = refl }

more : (b : ℕ) (bytes : List ℕ) → nat_eq b 10 ≡ false → NoEnd bytes → NoEnd (b ∷ bytes)
more b bytes other none = record { is = whole_cons b bytes ∙ rw (other, none.is) refl }

join : (first second : List ℕ) → NoEnd first → NoEnd second → NoEnd (first ++ second)
join first second one two = record { is = whole_append first second ∙ rw (one.is, two.is) refl }

ended : (bytes : List ℕ) → NoEnd bytes → IsLine (bytes ++ 10 ∷ [])
ended bytes none = record { front = bytes; is = refl; none = none.is }

-- ---- numbers

glyph_by : (low : Bool) (d : ℕ) → nat_eq (cond low (48 + d) (87 + d)) 10 ≡ false
glyph_by true d = grind (arith, nat_tests)
glyph_by false d = grind (arith, nat_tests)

glyph : (d : ℕ) → nat_eq (hex_digit d) 10 ≡ false
glyph d = glyph_by (nat_lt d 10) d

digits_by : (last : Bool) (one rest : List ℕ) → NoEnd one → NoEnd rest → NoEnd (cond last one rest)
digits_by true one rest none others = none
digits_by false one rest none others = others

no_digits : (k n : ℕ) (acc : List ℕ) → NoEnd acc → NoEnd (digits_onto k 10 false n acc)
no_digits zero n acc none = none
no_digits (suc k) n acc none =
    let first : NoEnd (digit_glyph false (n % 10) ∷ acc) = more (digit_glyph false (n % 10)) acc (glyph (n % 10)) none in
    digits_by (nat_eq (n / 10) 0) (digit_glyph false (n % 10) ∷ acc) (digits_onto k 10 false (n / 10) (digit_glyph false (n % 10) ∷ acc)) first (no_digits k (n / 10) (digit_glyph false (n % 10) ∷ acc) first)

no_decimal : (n : ℕ) → NoEnd (decimal n)
unfolding digits
no_decimal n = no_digits 64 n [] none_in

-- ---- blocks

no_hex : (bytes : List ℕ) → NoEnd (flat_map hex bytes)
no_hex [] = none_in
no_hex (b ∷ bytes) = more (hex_digit (b / 16)) (hex_digit (b % 16) ∷ flat_map hex bytes) (glyph (b / 16)) (more (hex_digit (b % 16)) (flat_map hex bytes) (glyph (b % 16)) (no_hex bytes))

no_dash : (bytes : List ℕ) → NoEnd bytes → NoEnd (or_dash bytes)
no_dash [] none = record { is = refl }
no_dash (b ∷ bytes) none = none

-- ---- names

name_byte : (b : ℕ) (t : Bool) → nat_eq b 10 ≡ t → is_name_byte b ≡ true → nat_eq b 10 ≡ false
name_byte b false other is = other
name_byte b true same is = absurd (never b (grind (arith, nat_tests)) is)
  where
    never : (b : ℕ) → b ≡ 10 → is_name_byte b ≡ true → ⊥
    never b ten is = no (rw ten at is)
      where
        no : false ≡ true → ⊥
        no e = cc

letters : (name : List ℕ) → list_all is_name_byte name ≡ true → NoEnd name
letters [] all = none_in
letters (b ∷ name) all =
    let parts = and_parts (is_name_byte b) (list_all is_name_byte name) all in
    more b name (name_byte b (nat_eq b 10) refl parts.0) (letters name parts.1)

no_name : (name : List ℕ) → is_name name ≡ true → NoEnd name
no_name name is = letters name (and_parts (nat_le 1 (length name) && nat_le (length name) 64) (list_all is_name_byte name) is).1

no_names : (names : List (List ℕ)) → AllByRecursion (λ name. is_name name ≡ true) names → NoEnd (join_with_byte 32 names)
no_names [] all = none_in
no_names (name ∷ []) all = no_name name all.0
no_names (name ∷ other ∷ names) all = join name (32 ∷ join_with_byte 32 (other ∷ names)) (no_name name all.0) (more 32 (join_with_byte 32 (other ∷ names)) refl (no_names (other ∷ names) all.1))

-- ---- the others

no_kind : (kind : Kind) → NoEnd (kind_text kind)
no_kind Whole = record { is = refl }
no_kind ByFile = record { is = refl }
no_kind Thin = record { is = refl }

no_yes : (yes : Bool) → NoEnd (yes_or_no yes)
no_yes true = record { is = refl }
no_yes false = record { is = refl }

no_stat : (s : Stat) → NoEnd (stat_text s)
no_stat s =
    join (codes "size ") _ (record { is = refl }) (join (decimal s.size) _ (no_decimal s.size) (join (codes " used ") _ (record { is = refl }) (join (decimal s.used) _ (no_decimal s.used) (join (codes " need ") _ (record { is = refl }) (join (decimal s.need) _ (no_decimal s.need)
    (join (codes " commit ") _ (record { is = refl }) (join (decimal s.commit) _ (no_decimal s.commit) (join (codes " kind ") _ (record { is = refl }) (join (kind_text s.kind) _ (no_kind s.kind) (join (codes " clean ") _ (record { is = refl }) (no_yes s.clean)))))))))))

no_reason : (r : Refusal) → NoEnd (reason r)
no_reason Syntax = record { is = refl }
no_reason NoVolume = record { is = refl }
no_reason VolumeExists = record { is = refl }
no_reason NoFile = record { is = refl }
no_reason FileExists = record { is = refl }
no_reason NoSnapshot = record { is = refl }
no_reason SnapshotExists = record { is = refl }
no_reason VolumeFull = record { is = refl }
no_reason AggregateFull = record { is = refl }
no_reason Range = record { is = refl }
no_reason TooMany = record { is = refl }
no_reason SnapshotInUse = record { is = refl }
no_reason VolumeInUse = record { is = refl }
no_reason NotClone = record { is = refl }
no_reason ParentNotClean = record { is = refl }
no_reason WrongKind = record { is = refl }

-- ---- replies

pub done_line : IsLine (text Done)
unfolding words
done_line = ended (codes "ok") (record { is = refl })

pub content_line : (block : List ℕ) → IsLine (text (Content block))
unfolding words
content_line block = ended (or_dash (flat_map hex (trimmed block))) (no_dash (flat_map hex (trimmed block)) (no_hex (trimmed block)))

pub number_line : (n : ℕ) → IsLine (text (Number n))
unfolding words
number_line n = ended (decimal n) (no_decimal n)

pub names_line : (names : List (List ℕ)) → All (λ name. is_name name ≡ true) names → IsLine (text (Names names))
unfolding words
names_line names all = ended (or_dash (join_with_byte 32 names)) (no_dash (join_with_byte 32 names) (no_names names (recursion_from_All (λ name. is_name name ≡ true) names all)))

pub stat_line : (s : Stat) → IsLine (text (Numbers s))
unfolding words
stat_line s = ended (stat_text s) (no_stat s)

pub refused_line : (r : Refusal) → IsLine (text (Refused r))
unfolding words
refused_line r = ended (codes "err " ++ (decimal (number_of r) ++ (codes " " ++ reason r))) (join (codes "err ") _ (record { is = refl }) (join (decimal (number_of r)) _ (no_decimal (number_of r)) (join (codes " ") _ (record { is = refl }) (no_reason r))))

-- every reply
pub ruleset reply_lines = (done_line, content_line, number_line, names_line, stat_line, refused_line)

pub count_line : (count : ℕ) → IsLine (done_text count)
count_line count = record {
  front = codes "done " ++ decimal count;
  is = sym (append_assoc (codes "done ") (decimal count) (10 ∷ []));
  none = (join (codes "done ") (decimal count) (record { is = refl }) (no_decimal count)).is;
}

-- ---- lines

pub one_end : (bytes : List ℕ) → IsLine bytes → whole bytes ≡ 1
one_end bytes line = ap whole line.is ∙ whole_append line.front (10 ∷ []) ∙ rw line.none refl

pub part_whole : (bytes : List ℕ) (k : ℕ) → whole (take k bytes) ≤ whole bytes
part_whole bytes k =
    let both : whole bytes ≡ whole (take k bytes) + whole (drop k bytes) = ap whole (sym (take-append-drop k bytes)) ∙ whole_append (take k bytes) (drop k bytes) in
    omega (arith, both)

-- a part of a line has no end
pub no_end : (bytes : List ℕ) (k : ℕ) → IsLine bytes → k < length bytes → whole (take k bytes) ≡ 0
no_end bytes k line below =
    let long : length bytes ≡ length line.front + 1 = ap (λ (l : List ℕ). length l) line.is ∙ length-append line.front (10 ∷ []) in
    let part : take k bytes ≡ take k line.front = ap (λ (l : List ℕ). take k l) line.is ∙ take-append-le k line.front (10 ∷ []) (omega (arith, below, long)) in
    omega (arith, ap whole part, part_whole line.front k, line.none)

-- ---- lines that are given out

pub told : (old new : Shown) (bytes : List ℕ) → Tells old bytes new (Ok tt) → IsLine bytes → TellsLine old bytes new (Ok tt)
told old new bytes tells line = record { tells = tells; sink = tt; line = line }

pub untold : (old new : Shown) (bytes : List ℕ) (e : Failed) → Tells old bytes new (Err e) → IsLine bytes → TellsLine old bytes new (Err Sink)
untold old new bytes e tells line = record { tells = tells; sink = refl; line = line }
