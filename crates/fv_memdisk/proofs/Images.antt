-- That the images that the tears make are those of a crash.
use Rattle.std.proofs.Common.{◌≡◌, ◌==◌, ◌≤◌, ◌<◌, ◌+◌, ◌-◌, cond, ⊎_elim, ℕ, zero, suc, true, false, List, [], ◌∷◌, ◌++◌, length, take, drop, get_or, replicate, refl, sym, ap, ◌∙◌, subst, arith, Result, Ok, Err, None}
use Rattle.std.specs.Prelude.{slice_index, OnOk, IfOk, unwrap_or}
use Rattle.std.proofs.lemmas.List.{take-append-drop, take_all, get_or-replicate, get_or_past, length-replicate, get_or-drop, get_or-map, length-drop}
use Rattle.std.proofs.lemmas.Bool.{cases_lt}
use Rattle.fv_disk.specs.Shown.{Ends, Image, IsBlock, IsSettled}
use Rattle.fv_memdisk.specs.declared.blocks.Blocks.{Blocks}
use Rattle.fv_memdisk.specs.declared.kept.Event.{Event}
use Rattle.fv_memdisk.specs.declared.kept.Event.TheVariants.{Write, Torn, Barrier, Give}
use Rattle.fv_memdisk.specs.declared.kept.Kept.{Kept}
use Rattle.fv_memdisk.specs.declared.call.Tear.{Tear}
use Rattle.fv_memdisk.specs.declared.call.Tear.TheVariants.{Old, New, Fill, First}
use Rattle.fv_memdisk.specs.Past.{is_among, was_forgotten, State, blank, step, replay, is_open, IsLeft}
use Rattle.fv_memdisk.specs.Story.{Story, state_at, outputs, are_known, IsLeftSince, shown_at, IsSound, IsNew, moment_of, output_at, state_of}
use Rattle.fv_memdisk.specs.Blocks.{found, zeros, disk_of, told}
use Rattle.fv_memdisk.specs.Tears.{image_of, Stands, IsTail, IsUnsettled, IsByteOf}
use Rattle.fv_memdisk.specs.Laws.{or_false, Agrees, agrees, not_written}
use Rattle.fv_memdisk.proofs.Steps.{count_at, start_at}
use Rattle.fv_memdisk.proofs.Tearing.{replay_more, replay_none}

-- what was there at the last barrier is what reads gave there
settled_step : (base : Image) (past : List Kept) (i : ℕ) (st : State) (e : Event) → st.count ≡ i → state_at base past (i + 1) ≡ step st e → ((a : ℕ) → (state_at base past st.start).reads a ≡ st.settled a)
    → (a : ℕ) → (state_at base past (step st e).start).reads a ≡ (step st e).settled a
unfolding step
settled_step base past i st (Write at block) counted next before a = before a
settled_step base past i st (Torn at) counted next before a = before a
settled_step base past i st Barrier counted next before a = ap (λ n. (state_at base past (n + 1)).reads a) counted ∙ ap (λ (s : State). s.reads a) next
settled_step base past i st Give counted next before a = before a

pub settled_at : (base : Image) (past : List Kept) (d : Kept) (i : ℕ) → i ≤ length past → (a : ℕ) → (state_at base past (state_at base past i).start).reads a ≡ (state_at base past i).settled a
unfolding replay
settled_at base past d zero le a = refl
settled_at base past d (suc i) le a =
    let next : state_at base past (i + 1) ≡ step (state_at base past i) (get_or past i d).event = replay_more (blank base) past i d (omega arith) in
    let one : i + 1 ≡ suc i = omega arith in
    let is = settled_step base past i (state_at base past i) (get_or past i d).event (count_at base past i (omega arith)) next (settled_at base past d i (omega arith)) a in
    subst (λ (n : ℕ). (state_at base past (state_at base past n).start).reads a ≡ (state_at base past n).settled a) one
    (subst (λ (s : State). (state_at base past s.start).reads a ≡ s.settled a) (sym next) is)

replay_append : (s : State) (xs ys : List Kept) → replay s (xs ++ ys) ≡ replay (replay s xs) ys
unfolding replay
replay_append s [] ys = refl
replay_append s (x ∷ xs) ys = replay_append (step s x.event) xs ys

whole : (base : Image) (past : List Kept) (start : ℕ) → replay (replay (blank base) (take start past)) (drop start past) ≡ replay (blank base) past
whole base past start = sym (replay_append (blank base) (take start past) (drop start past)) ∙ ap (λ ks. replay (blank base) ks) (take-append-drop start past)

at_end : (base : Image) (past : List Kept) → state_at base past (length past) ≡ replay (blank base) past
at_end base past = ap (λ ks. replay (blank base) ks) (take_all (length past) past (omega arith))

-- the calls after the last barrier are the tail
pub is_tail : (base : Image) (past : List Kept) (start : ℕ) (written : List ℕ) → IsUnsettled start written (replay (blank base) past) → IsTail (replay (blank base) (take start past)) (drop start past) written
is_tail base past start written found = record {
  written_is = found.written_is ∙ ap (λ (s : State). s.written) (sym (whole base past start));
  settled_is = λ a. ap (λ n. (state_at base past n).reads a) (found.start_is ∙ ap (λ (s : State). s.start) (sym (at_end base past)))
      ∙ settled_at base past (record { event = Give; output = 0 }) (length past) (omega arith) a
      ∙ ap (λ (s : State). s.settled a) (at_end base past ∙ sym (whole base past start));
}

pub start_within : (base : Image) (past : List Kept) (start : ℕ) (written : List ℕ) → IsUnsettled start written (replay (blank base) past) → start ≤ length past
start_within base past start written found =
    let s = at_end base past in
    let le = start_at base past (length past) in
    let counted = count_at base past (length past) (omega arith) in
    let low : (replay (blank base) past).start ≤ length past = subst (λ (st : State). st.start ≤ length past) s (omega (arith, le, counted)) in
    omega (arith, low, found.start_is)

pub torn_is : (base : Image) (past before since : List Kept) (start : ℕ) (written : List ℕ) (tear : Tear) (mid blocks : Blocks) → before ≡ take start past → since ≡ drop start past → IsUnsettled start written (replay (blank base) past)
    → Stands mid (replay (blank base) before) → ((s : State) → Stands mid s → IsTail s since written → (a : ℕ) → disk_of blocks a ≡ image_of tear (replay s since) a)
    → (a : ℕ) → disk_of blocks a ≡ image_of tear (replay (blank base) past) a
torn_is base past before since start written tear mid blocks front back found put off a =
    off (replay (blank base) before) put (tail_of front back) a
    ∙ ap (λ (s : State). image_of tear s a) (ap (λ ks. replay (replay (blank base) ks) since) front ∙ ap (λ ks. replay (replay (blank base) (take start past)) ks) back ∙ whole base past start)
  where
    tail_of : before ≡ take start past → since ≡ drop start past → IsTail (replay (blank base) before) since written
    tail_of front back =
        subst (λ (ks : List Kept). IsTail (replay (blank base) ks) since written) (sym front)
        (subst (λ (ks : List Kept). IsTail (replay (blank base) (take start past)) ks written) (sym back) (is_tail base past start written found))

pub filled_is : {E : Type 0} (r : Result (Unit {0}) E) (old new : Blocks) (since : List Kept) (written : List ℕ) (tear : Tear) (byte : ℕ) → tear ≡ Fill byte → OnOk r ((a : ℕ) → disk_of new a ≡ cond (is_among written a) (replicate 4096 byte) (disk_of old a))
    → OnOk r ((s : State) → Stands old s → IsTail s since written → (a : ℕ) → disk_of new a ≡ image_of tear (replay s since) a)
filled_is (Err e) old new since written tear byte is filled = tt
filled_is (Ok u) old new since written tear byte is filled = λ s stands tail a. rw is (
    filled a ∙ ap (λ xs. cond (is_among xs a) (replicate 4096 byte) (disk_of old a)) tail.written_is ∙ ap (λ b. cond (is_among (replay s since).written a) (replicate 4096 byte) b) (stands a ∙ tail.settled_is a))

-- each of them is an image of the crash
block_of : (byte : ℕ) → byte < 256 → IsBlock (replicate 4096 byte)
block_of byte lt = record {
  long = length-replicate 4096 byte;
  bytes = λ k. ⊎_elim (λ in_it. omega (arith, get_or-replicate 4096 k byte 0 in_it)) (λ out. omega (arith, get_or_past (replicate 4096 byte) k 0 (omega (arith, length-replicate 4096 byte)))) (cases_lt k 4096);
}

take_apart : (n : ℕ) (xs : List ℕ) (a : ℕ) → is_among xs a ≡ false → is_among (take n xs) a ≡ false
take_apart zero xs a apart = refl
take_apart (suc n) [] a apart = refl
take_apart (suc n) (x ∷ xs) a apart = let p = or_false (x == a) (is_among xs a) apart in rw (p.0) (take_apart n xs a p.1)

pub whole_image : (tear : Tear) (s : State) → IsByteOf tear → ((a : ℕ) → IsBlock (s.reads a)) → ((a : ℕ) → IsBlock (s.settled a)) → (a : ℕ) → IsBlock (image_of tear s a)
whole_image Old s byte reads settled a = settled a
whole_image New s byte reads settled a = reads a
whole_image (Fill b) s byte reads settled a = elim (is_among s.written a) as (λ c. IsBlock (cond c (replicate 4096 b) (s.settled a))) [ true ↦ block_of b byte | false ↦ settled a ]
whole_image (First n) s byte reads settled a = elim (is_among (take n s.written) a) as (λ c. IsBlock (cond c (s.reads a) (s.settled a))) [ true ↦ reads a | false ↦ settled a ]

shut_image : (tear : Tear) (s : State) → Agrees s → (a : ℕ) → is_among s.written a ≡ false → image_of tear s a ≡ s.settled a
shut_image Old s agrees a apart = refl
shut_image New s agrees a apart = agrees a apart
shut_image (Fill b) s agrees a apart = rw apart refl
shut_image (First n) s agrees a apart = rw (take_apart n s.written a apart) refl

none_open : (base : Image) (a : ℕ) → is_open (blank base) [] a ≡ false
unfolding is_open was_forgotten
none_open base a = refl

pub image_is_left : (tear : Tear) (s : State) (places : List (ℕ × ℕ)) → Agrees s → (c : Image) → ((a : ℕ) → IsBlock (c a)) → ((a : ℕ) → c a ≡ image_of tear s a) → IsLeft s places c
image_is_left tear s places agrees c blocks is = record { blocks = blocks; others = λ a shut. is a ∙ shut_image tear s agrees a (not_written s places a shut) }

-- an image that a tear makes at a moment is one that a crash since then leaves
pub image_allowed : (s : Story) → IsSound s → (tear : Tear) (moment : ℕ) → moment ≤ moment_of s → (c : Image) → ((a : ℕ) → IsBlock (c a)) → ((a : ℕ) → c a ≡ image_of tear (state_of s moment) a)
    → IsLeftSince s moment c (take (output_at s moment) s.given)
image_allowed s sound tear moment le c blocks is = record {
  moment = moment;
  later = omega arith;
  reached = omega (arith, sound.run, le);
  image = image_is_left tear (state_of s moment) s.places (agrees s.base s.past (s.run + moment)) c blocks is;
  output = refl;
}

-- a host that has just begun is settled
pub settled_new : (base : Image) (s : Story) (f w : ℕ) (ends : Ends) → IsNew base s → IsSettled (shown_at s f w ends)
settled_new base s f w ends new c left a =
    subst (λ (st : State). c a ≡ st.settled a) (now base s new) (left.others a (subst (λ (st : State). is_open st s.places a ≡ false) (sym (now base s new)) (shut base s new a)))
    ∙ ap (λ (b : Image). b a) new.base_is ∙ sym (new.reads a)
  where
    now : (base : Image) (s : Story) → IsNew base s → state_at s.base s.past (length s.past) ≡ blank s.base
    now base s new = ap (λ ks. state_at s.base ks (length ks)) new.past ∙ replay_none (blank s.base)

    shut : (base : Image) (s : Story) → IsNew base s → (a : ℕ) → is_open (blank s.base) s.places a ≡ false
    shut base s new a = subst (λ (ps : List (ℕ × ℕ)). is_open (blank s.base) ps a ≡ false) (sym new.places) (none_open s.base a)

pub moment_new : (base : Image) (s : Story) → IsNew base s → moment_of s ≡ 0
moment_new base s new = omega (arith, ap length new.past)

pub zeros_whole : (m : Blocks) → ((a : ℕ) → found m a ≡ None) → (a : ℕ) → IsBlock (disk_of m a)
zeros_whole m empty a = subst IsBlock (sym (ap (λ o. unwrap_or o zeros) (empty a))) (block_of 0 (omega arith))

pub output_is : (past : List Kept) (run moment : ℕ) (k : Kept) → k ≡ get_or past (run + moment - 1) k → (moment ≡ 0 → ⊥) → run + moment ≤ length past → k.output ≡ slice_index (outputs past run) moment
output_is past run moment k is later reached =
    let one : moment ≡ suc (moment - 1) = omega (arith, apart) in
    ap (λ (l : Kept). l.output) is
    ∙ ap (λ n. (get_or past n k).output) (omega (arith, apart))
    ∙ ap (λ (l : Kept). l.output) (sym (get_or-drop run past (moment - 1) k))
    ∙ sym (get_or-map (λ (l : Kept). l.output) (drop run past) (moment - 1) k 0 (omega (arith, apart, length-drop run past)))
    ∙ ap (λ n. slice_index (outputs past run) n) (sym one)
  where
    apart : 0 < moment
    apart = ⊎_elim (λ lt. lt) (λ le. absurd (later (omega arith))) (cases_lt 0 moment)

take_none : (i : ℕ) → take {A = Kept} i [] ≡ []
take_none zero = refl
take_none (suc i) = refl

pub whole_is : {E : Type 0} (r : Result Blocks E) (tear : Tear) (s : State) → IfOk r (λ _. IsByteOf tear) → IfOk r (λ blocks. (a : ℕ) → disk_of blocks a ≡ image_of tear s a) → ((a : ℕ) → IsBlock (s.reads a)) → ((a : ℕ) → IsBlock (s.settled a))
    → IfOk r (λ blocks. (a : ℕ) → IsBlock (disk_of blocks a))
whole_is (Ok blocks) tear s byte content reads settled = λ a. subst IsBlock (sym (content a)) (whole_image tear s byte reads settled a)
whole_is (Err e) tear s byte content reads settled = tt

pub sound_new : (base current : Blocks) (past : List Kept) (given : List ℕ) (places : List (ℕ × ℕ)) → ((a : ℕ) → found current a ≡ None) → past ≡ [] → given ≡ [] → places ≡ [] → ((a : ℕ) → IsBlock (disk_of base a)) → IsSound (told base current past 0 given places)
sound_new base current past given places empty none nothing nowhere blocks = record {
  run = omega arith;
  reads = λ a. ap (λ ks. (state_at (disk_of base) ks (length ks)).reads a) none ∙ ap (λ (s : State). s.reads a) (replay_none (blank (disk_of base))) ∙ sym (ap (λ o. unwrap_or o (disk_of base a)) (empty a));
  whole = λ i a. subst (λ (s : State). IsBlock (s.reads a)) (sym (at_none i)) (blocks a);
  whole_settled = λ i a. subst (λ (s : State). IsBlock (s.settled a)) (sym (at_none i)) (blocks a);
  within = λ m. subst (λ (ks : List Kept). slice_index (outputs ks 0) m ≤ length given) (sym none) (low m);
  full = subst (λ (ks : List Kept). slice_index (outputs ks 0) (length ks - 0) ≡ length given) (sym none) (sym (ap length nothing));
  known = subst (λ (ps : List (ℕ × ℕ)). are_known (length past) ps ≡ true) (sym nowhere) refl;
}
  where
    at_none : (i : ℕ) → state_at (disk_of base) past i ≡ blank (disk_of base)
    at_none i = ap (λ ks. state_at (disk_of base) ks i) none ∙ ap (λ ks. replay (blank (disk_of base)) ks) (take_none i) ∙ replay_none (blank (disk_of base))

    low : (m : ℕ) → slice_index (0 ∷ []) m ≤ length given
    low zero = omega arith
    low (suc m) = omega arith
