-- Lines of commands that are given out, one after another.
use Rattle.std.proofs.Common.{◌≡◌, ◌++◌, ℕ, List, [], ◌∷◌, refl, sym, ap, ◌∙◌, append_assoc, append-nil}
use Rattle.std.specs.Prelude.{Result, Ok, Err}
use Rattle.std.proofs.lemmas.Grind.{flat_map-append}
use Rattle.fv_disk.specs.declared.Failed.{Failed}
use Rattle.fv_disk.specs.Shown.{IsBlock, Shown, IsDisk}
use Rattle.fv_model.specs.declared.answers.Reply.TheVariants.{Content}
use Rattle.fv_model.specs.declared.commands.Command.{Command}
use Rattle.fv_model.specs.declared.commands.Command.TheVariants.{Put}
use Rattle.fv_model.specs.Texts.{text}
use Rattle.fv_script.specs.Telling.{Tells}
use Rattle.fv_script.proofs.Told.{told, both, stopped, nothing}
use Rattle.fv_saying.specs.Saying.{block_line, HasBlock, said, script_text}

-- ---- one line

pub has_block : (c : Command) (v f : List ℕ) (i : ℕ) (block : List ℕ) → c ≡ Put v f i block → IsBlock block → HasBlock c
has_block c v f i block is has = rw is has

pub tells_block : (old new : Shown) (words : List ℕ) (c : Command) (v f : List ℕ) (i : ℕ) (block : List ℕ) (result : Result Unit Failed) → c ≡ Put v f i block → words ++ block_line c ≡ said c
    → Tells old (words ++ text (Content block)) new result → Tells old (said c) new result
tells_block old new words c v f i block result is line given =
    let same : block_line c ≡ text (Content block) = rw is refl in
    told old new (words ++ text (Content block)) (said c) result given (ap (λ (l : List ℕ). words ++ l) (sym same) ∙ line)

pub tells : (old new : Shown) (words : List ℕ) (c : Command) (result : Result Unit Failed) → words ++ block_line c ≡ said c → block_line c ≡ [] → Tells old words new result → Tells old (said c) new result
tells old new words c result is none given = told old new words (said c) result given (sym (append-nil words) ∙ ap (λ (l : List ℕ). words ++ l) (sym none) ∙ is)

-- ---- many lines

-- the lines of the first commands are given, and the rest are to come
pub record HasSaid (old : Shown) (all : List Command) (now : Shown) (rest : List Command) : Type 0 where
  pub front : List Command
  pub whole : all ≡ front ++ rest
  pub tells : Tells old (script_text front) now (Ok tt)

pub begins : (host : Shown) (all rest : List Command) → IsDisk host → rest ≡ all → HasSaid host all host rest
begins host all rest laws is = record { front = []; whole = sym is; tells = nothing host laws }

one_more : (front : List Command) (c : Command) → script_text front ++ said c ≡ script_text (front ++ c ∷ [])
one_more front c = ap (λ (l : List ℕ). script_text front ++ l) (sym (append-nil (said c))) ∙ sym (flat_map-append said front (c ∷ []))

all_of : (front rest : List Command) → script_text front ++ script_text rest ≡ script_text (front ++ rest)
all_of front rest = sym (flat_map-append said front rest)

pub goes_on : (old mid new : Shown) (all rest left : List Command) (c : Command) → HasSaid old all mid rest → rest ≡ c ∷ left → Tells mid (said c) new (Ok tt) → HasSaid old all new left
goes_on old mid new all rest left c so_far is one = record {
  front = so_far.front ++ c ∷ [];
  whole = so_far.whole ∙ ap (λ (l : List Command). so_far.front ++ l) is ∙ sym (append_assoc so_far.front (c ∷ []) left);
  tells = told old new (script_text so_far.front ++ said c) (script_text (so_far.front ++ c ∷ [])) (Ok tt) (both old mid new (script_text so_far.front) (said c) (Ok tt) so_far.tells one) (one_more so_far.front c);
}

pub ends : (old now : Shown) (all rest : List Command) → HasSaid old all now rest → rest ≡ [] → Tells old (script_text all) now (Ok tt)
ends old now all rest so_far none =
    told old now (script_text so_far.front) (script_text all) (Ok tt) so_far.tells
    (ap script_text (sym (so_far.whole ∙ ap (λ (l : List Command). so_far.front ++ l) none ∙ append-nil so_far.front)))

-- a line failed
pub fails : (old mid new : Shown) (all rest left : List Command) (c : Command) (e : Failed) → HasSaid old all mid rest → rest ≡ c ∷ left → Tells mid (said c) new (Err e) → Tells old (script_text all) new (Err e)
fails old mid new all rest left c e so_far is one =
    told old new (script_text so_far.front ++ (said c ++ script_text left)) (script_text all) (Err e)
    (both old mid new (script_text so_far.front) (said c ++ script_text left) (Err e) so_far.tells (stopped mid new (said c) (script_text left) e one))
    (all_of so_far.front (c ∷ left) ∙ ap script_text (sym (so_far.whole ∙ ap (λ (l : List Command). so_far.front ++ l) is)))
