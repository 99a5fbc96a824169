use Rattle.std.proofs.Common.{◌≡◌, ◌∙◌, true, false, string_bytes, List, ℕ, refl, sym, ap, ap₂}
use Rattle.std.specs.Prelude.{codes, bytes_eq}
use Rattle.std.specs.Option.{option_map}
use Rattle.fv_script.specs.CommandLine.{blocks_of, draws_of, seed_of}
use Rattle.fv_run.specs.Meaning.{create, generation}
use Rattle.fv_run.proofs.Phrases.{none, one, many, same_first, three, two, means_or_usage}
use Rattle.fv_run.proofs.words.read_words.Goals as goal

pub returns-in-len1 : goal.returns-in-len1
returns-in-len1 c =
    let is_run : bytes_eq (string_bytes c.command-item.result) (codes "run") ≡ true = rw (← c.as_str.ensures.value) (sym c.if-eq.ensures) in
    one string_bytes c.args.words.now c.command-item.result c.in-len1.len_at_least c.in-len1.len_below c.command-item.is ∙ rw is_run refl

pub returns-in-len1-2 : goal.returns-in-len1-2
returns-in-len1-2 c =
    let other : bytes_eq (string_bytes c.command-item.result) (codes "run") ≡ false = rw (← c.as_str.ensures.value) (sym c.if-eq.ensures) in
    let again : bytes_eq (string_bytes c.command-item-then-words-lt2.result) (codes "check") ≡ true = rw (← c.as_str-then-words-lt2.ensures.value) (sym c.if-eq-2.ensures) in
    let same = same_first string_bytes c.args.words.now c.command-item.result c.command-item-then-words-lt2.result c.in-len1.len_at_least c.command-item.is c.command-item-then-words-lt2.is in
    let is_check : bytes_eq (string_bytes c.command-item.result) (codes "check") ≡ true = rw same again in
    one string_bytes c.args.words.now c.command-item.result c.in-len1.len_at_least c.in-len1.len_below c.command-item.is ∙ rw (other, is_check) refl

pub returns-in-len2 : goal.returns-in-len2
returns-in-len2 c =
    let is_create : bytes_eq (string_bytes c.command-item-then-words-lt3.result) (codes "create") ≡ true = rw (← c.as_str-then-words-lt3.ensures.value) (sym c.if-eq-3.ensures) in
    let size_is = ap (λ size. option_map create (blocks_of size)) (sym c.as_bytes.ensures.value) in
    rw c.ok_or.ensures.value (means_or_usage _ _
    (two string_bytes c.args.words.now c.command-item-then-words-lt3.result c.size-item.result c.in-len2.len_at_least c.in-len2.len_below c.command-item-then-words-lt3.is c.size-item.is
    ∙ rw is_create size_is ∙ sym c.create.ensures))

pub returns-in_default : goal.returns-in_default
returns-in_default c = none string_bytes c.args.words.now c.in_default.len_below

pub returns-in_default-2 : goal.returns-in_default-2
returns-in_default-2 c =
    let other : bytes_eq (string_bytes c.command-item.result) (codes "run") ≡ false = rw (← c.as_str.ensures.value) (sym c.if-eq.ensures) in
    let again : bytes_eq (string_bytes c.command-item-then-words-lt2.result) (codes "check") ≡ false = rw (← c.as_str-then-words-lt2.ensures.value) (sym c.if-eq-2.ensures) in
    let same = same_first string_bytes c.args.words.now c.command-item.result c.command-item-then-words-lt2.result c.in-len1.len_at_least c.command-item.is c.command-item-then-words-lt2.is in
    let no_check : bytes_eq (string_bytes c.command-item.result) (codes "check") ≡ false = rw same again in
    one string_bytes c.args.words.now c.command-item.result c.in-len1.len_at_least c.in-len1.len_below c.command-item.is ∙ rw (other, no_check) refl

pub returns-in_default-3 : goal.returns-in_default-3
returns-in_default-3 c =
    let other : bytes_eq (string_bytes c.command-item-then-words-lt3.result) (codes "create") ≡ false = rw (← c.as_str-then-words-lt3.ensures.value) (sym c.if-eq-3.ensures) in
    two string_bytes c.args.words.now c.command-item-then-words-lt3.result c.size-item.result c.in-len2.len_at_least c.in-len2.len_below c.command-item-then-words-lt3.is c.size-item.is ∙ rw other refl

pub returns-in-len3 : goal.returns-in-len3
returns-in-len3 c =
    let is_gen : bytes_eq (string_bytes c.command-item-then-words-lt4.result) (codes "gen") ≡ true = rw (← c.as_str-then-words-lt4.ensures.value) (sym c.if-eq-4.ensures) in
    let numbers = ap₂ (λ (seed count : List ℕ). generation (seed_of seed) (draws_of count)) (sym c.as_bytes-in-len3.ensures.value) (sym c.as_bytes-in-len3-2.ensures.value) in
    rw c.ok_or-in-len3.ensures.value (means_or_usage _ _
    (three string_bytes c.args.words.now c.command-item-then-words-lt4.result c.seed-item.result c.count-item.result c.in-len3.len_at_least c.in-len3.len_below c.command-item-then-words-lt4.is c.seed-item.is c.count-item.is
    ∙ rw is_gen numbers ∙ sym c.generation.ensures))

pub returns-in_default-4 : goal.returns-in_default-4
returns-in_default-4 c =
    let other : bytes_eq (string_bytes c.command-item-then-words-lt4.result) (codes "gen") ≡ false = rw (← c.as_str-then-words-lt4.ensures.value) (sym c.if-eq-4.ensures) in
    three string_bytes c.args.words.now c.command-item-then-words-lt4.result c.seed-item.result c.count-item.result c.in-len3.len_at_least c.in-len3.len_below c.command-item-then-words-lt4.is c.seed-item.is c.count-item.is ∙ rw other refl

pub returns-in_default-5 : goal.returns-in_default-5
returns-in_default-5 c = many string_bytes c.args.words.now c.in_default.len_at_least
