use Rattle.std.proofs.Common.{◌≡◌, ◌∙◌, true, false, string_bytes, List, ℕ, refl, sym, ap, ap₂}
use Rattle.std.specs.Prelude.{codes, bytes_eq}
use Rattle.std.specs.Option.{option_map}
use Rattle.fv_script.specs.CommandLine.{blocks_of, draws_of, seed_of}
use Rattle.fv_reference_run.specs.Meaning.{answer, printed}
use Rattle.fv_reference_run.proofs.Phrases.{few, many, one, two, three, means_or_usage}
use Rattle.fv_reference_run.proofs.words.read_words.Goals as goal

pub returns-in-len1 : goal.returns-in-len1
returns-in-len1 c =
    let size_is = ap (λ (size : List ℕ). option_map answer (blocks_of size)) (sym c.as_bytes.ensures.value) in
    rw c.ok_or.ensures.value (means_or_usage _ _
    (one string_bytes c.args.words.now c.size-item.result c.in-len1.len_at_least c.in-len1.len_below c.size-item.is ∙ size_is ∙ sym c.answer.ensures))

pub returns-in-len3 : goal.returns-in-len3
returns-in-len3 c =
    let is_gen : bytes_eq (string_bytes c.command-item.result) (codes "gen") ≡ true = rw (← c.as_str.ensures.value) (sym c.if-eq.ensures) in
    let numbers = ap₂ (λ (seed count : List ℕ). printed (seed_of seed) (draws_of count)) (sym c.as_bytes-in-len3.ensures.value) (sym c.as_bytes-in-len3-2.ensures.value) in
    rw c.ok_or-in-len3.ensures.value (means_or_usage _ _
    (three string_bytes c.args.words.now c.command-item.result c.seed-item.result c.count-item.result c.in-len3.len_at_least c.in-len3.len_below c.command-item.is c.seed-item.is c.count-item.is
    ∙ rw is_gen numbers ∙ sym c.printed.ensures))

pub returns-in_default : goal.returns-in_default
returns-in_default c = few string_bytes c.args.words.now c.in_default.len_below

pub returns-in_default-2 : goal.returns-in_default-2
returns-in_default-2 c = two string_bytes c.args.words.now c.in_default.len_at_least c.in_default.len_below

pub returns-in_default-3 : goal.returns-in_default-3
returns-in_default-3 c =
    let other : bytes_eq (string_bytes c.command-item.result) (codes "gen") ≡ false = rw (← c.as_str.ensures.value) (sym c.if-eq.ensures) in
    three string_bytes c.args.words.now c.command-item.result c.seed-item.result c.count-item.result c.in-len3.len_at_least c.in-len3.len_below c.command-item.is c.seed-item.is c.count-item.is ∙ rw other refl

pub returns-in_default-4 : goal.returns-in_default-4
returns-in_default-4 c = many string_bytes c.args.words.now c.in_default.len_at_least
