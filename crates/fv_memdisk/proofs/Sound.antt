-- That a history stays sound by a call that is kept, or leaves it as it was.
use Rattle.std.proofs.Common.{◌≡◌, ◌==◌, cond, true, false, ℕ, List, [], ◌∷◌, ◌++◌, length, refl, sym, ap, ◌∙◌, subst, arith, Result, Ok, Err, Some}
use Rattle.std.specs.Prelude.{OnOk, OnErr, unwrap_or}
use Rattle.std.specs.Ordering.{nat_cmp}
use Rattle.std.specs.BTreeMap as tree
use Rattle.std.proofs.lemmas.List.{append-nil}
use Rattle.std.proofs.lemmas.Bool.Decides.{nat_tests}
use Rattle.fv_disk.specs.Shown.{Image, IsBlock}
use Rattle.fv_memdisk.specs.declared.blocks.Blocks.{Blocks}
use Rattle.fv_memdisk.specs.declared.kept.Event.{Event}
use Rattle.fv_memdisk.specs.declared.kept.Event.TheVariants.{Write, Give}
use Rattle.fv_memdisk.specs.declared.kept.Kept.{Kept}
use Rattle.fv_memdisk.specs.Past.{put}
use Rattle.fv_memdisk.specs.Story.{IsSound, read_after}
use Rattle.fv_memdisk.specs.Blocks.{found, Puts, over, disk_of, told}
use Rattle.fv_memdisk.proofs.Changes.{IsWhole, sound_adds}

pub turned : (at a : ℕ) → tree.is_at (nat_cmp at) a ≡ (a == at)
turned at a = grind (arith, nat_tests)

-- the blocks with one more, as an image
pub over_put : (m n : Blocks) (below : Image) (at : ℕ) (block : List ℕ) → Puts m n at block → (a : ℕ) → over n below a ≡ put (over m below) at block a
over_put m n below at block puts a =
    ap (λ o. unwrap_or o (below a)) (puts a)
    ∙ elim (a == at) as (λ b. unwrap_or (cond b (Some block) (found m a)) (below a) ≡ cond b block (over m below a)) [ true ↦ refl | false ↦ refl ]

pub over_same : (m n : Blocks) (below : Image) → ((a : ℕ) → found n a ≡ found m a) → over n below ≡ over m below
over_same m n below same = λ i a. unwrap_or (same a i) (below a)

-- one call more
sound_more : (base current next : Blocks) (past later : List Kept) (run : ℕ) (given more : List ℕ) (places : List (ℕ × ℕ)) (e : Event) (bytes : List ℕ) (output : ℕ) → IsSound (told base current past run given places) → IsWhole e
    → ((a : ℕ) → over next (disk_of base) a ≡ read_after e (over current (disk_of base)) a) → later ≡ past ++ record { event = e; output = output } ∷ [] → more ≡ given ++ bytes → output ≡ length (given ++ bytes)
    → IsSound (told base next later run more places)
sound_more base current next past later run given more places e bytes output sound whole reads is is_more long =
    sound_adds (told base current past run given places) (told base next later run more places) e bytes sound whole (record {
      base = refl;
      reads = reads;
      past = is ∙ ap (λ n. past ++ record { event = e; output = n } ∷ []) long;
      run = refl;
      given = is_more;
      places = refl;
    })

-- a write is kept, or nothing changed
pub sound_write : {E : Type 0} (r : Result (Unit {0}) E) (base current next : Blocks) (past later : List Kept) (run : ℕ) (given : List ℕ) (places : List (ℕ × ℕ)) (at output : ℕ) (block : List ℕ) → output ≡ length given
    → IsSound (told base current past run given places) → IsBlock block
    → OnOk r (later ≡ past ++ record { event = Write at block; output = output } ∷ []) → OnOk r (Puts current next at block) → OnErr r (later ≡ past) → OnErr r ((a : ℕ) → found next a ≡ found current a)
    → IsSound (told base next later run given places)
sound_write (Ok u) base current next past later run given places at output block long sound whole kept put stays same =
    sound_more base current next past later run given given places (Write at block) [] output sound whole (over_put current next (disk_of base) at block put) kept (sym (append-nil given)) (long ∙ ap length (sym (append-nil given)))
sound_write (Err e) base current next past later run given places at output block long sound whole kept put stays same =
    subst (λ (ks : List Kept). IsSound (told base next ks run given places)) (sym stays)
    (subst (λ (reads : Image). IsSound (record { base = disk_of base; reads = reads; past = past; run = run; given = given; places = places })) (sym (over_same current next (disk_of base) same)) sound)

-- another call is kept, or nothing changed
pub sound_kept : {E : Type 0} (r : Result (Unit {0}) E) (base current : Blocks) (past later : List Kept) (run : ℕ) (given : List ℕ) (places : List (ℕ × ℕ)) (e : Event) (output : ℕ) → output ≡ length given
    → IsSound (told base current past run given places) → IsWhole e → ((image : Image) (a : ℕ) → read_after e image a ≡ image a)
    → OnOk r (later ≡ past ++ record { event = e; output = output } ∷ []) → OnErr r (later ≡ past)
    → IsSound (told base current later run given places)
sound_kept (Ok u) base current past later run given places e output long sound whole reads kept stays =
    sound_more base current current past later run given given places e [] output sound whole (λ a. sym (reads (over current (disk_of base)) a)) kept (sym (append-nil given)) (long ∙ ap length (sym (append-nil given)))
sound_kept (Err e') base current past later run given places e output long sound whole reads kept stays =
    subst (λ (ks : List Kept). IsSound (told base current ks run given places)) (sym stays) sound

-- bytes are given out, or nothing changed
pub sound_given : {E : Type 0} (r : Result (Unit {0}) E) (base current : Blocks) (past later : List Kept) (run : ℕ) (given more : List ℕ) (places : List (ℕ × ℕ)) (bytes : List ℕ)
    → IsSound (told base current past run given places)
    → OnOk r (more ≡ given ++ bytes) → OnOk r (later ≡ past ++ record { event = Give; output = length (given ++ bytes) } ∷ []) → OnErr r (more ≡ given) → OnErr r (later ≡ past)
    → IsSound (told base current later run more places)
sound_given (Ok u) base current past later run given more places bytes sound is_more kept same stays =
    sound_more base current current past later run given more places Give bytes (length (given ++ bytes)) sound tt (λ a. refl) kept is_more refl
sound_given (Err e) base current past later run given more places bytes sound is_more kept same stays =
    subst (λ (ks : List Kept). IsSound (told base current ks run more places)) (sym stays) (subst (λ (g : List ℕ). IsSound (told base current past run g places)) (sym same) sound)
