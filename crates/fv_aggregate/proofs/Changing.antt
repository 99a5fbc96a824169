-- The commands that change a file: which they are, and what the machine answers to them.
use Rattle.std.proofs.Common.{◌≡◌, ℕ, arith, Bool, true, false, cond, List, Option, Some, None, refl, sym, ap, subst, ◌∙◌}
use Rattle.std.specs.Prelude.{◌==◌, if◌then◌else◌}
use Rattle.std.specs.Option.{is_some}
use Rattle.std.proofs.lemmas.Bool.Decides.{nat_tests}
use Rattle.fv_model.specs.declared.answers.Refusal.{Refusal}
use Rattle.fv_model.specs.declared.answers.Reply.{Reply}
use Rattle.fv_model.specs.declared.answers.Reply.TheVariants.{Done, Refused}
use Rattle.fv_model.specs.declared.commands.Command.{Command}
use Rattle.fv_model.specs.declared.commands.Command.TheVariants.{New, Put, Get, Len, Cut, Remove, Ls, Probe}
use Rattle.fv_model.specs.Machines.{Machine}
use Rattle.fv_model.specs.Effects.{change_of}
use Rattle.fv_model.specs.Refusals.{next, refusal}
use Rattle.fv_model.specs.Replies.{answer, is_open, Allows, AllowsBy, IsAnswer}
use Rattle.fv_volume.specs.Changing.{IsChangeOf}
use Rattle.fv_volume.specs.States.{States}
use Rattle.fv_aggregate.specs.Commands.{asked_by, AsksTable, slot_named, snapshot_asked, volume_asked, changed_by, is_built, reads_cell, machine_after, reads_files, room_by, room_with, takes_steps, Replies, RepliesBy}
use Rattle.fv_aggregate.specs.Looking.{refusal_in, Judges}
use Rattle.fv_aggregate.proofs.Asked.{answer_allows}
use Rattle.fv_aggregate.proofs.Missing.{asked_cases}

-- what holds of `new`, `put`, `cut` and `rm` holds of each command that changes a file
pub change_cases : (P : Command → Type 0) → ((v f : List ℕ) → P (New v f 0)) → ((v f : List ℕ) (i : ℕ) (block : List ℕ) → P (Put v f i block)) → ((v f : List ℕ) (length : ℕ) → P (Cut v f length)) → ((v f : List ℕ) → P (Remove v f))
    → (name : List ℕ) (c : Command) → IsChangeOf name c → P c
change_cases P new put cut rm name (New v f reserve) is = subst (λ (n : ℕ). P (New v f n)) (sym is.1) (new v f)
change_cases P new put cut rm name (Put v f i block) is = put v f i block
change_cases P new put cut rm name (Cut v f length) is = cut v f length
change_cases P new put cut rm name (Remove v f) is = rm v f
change_cases P new put cut rm name c is = absurd is

module _ (name : List ℕ) (c : Command) (change : IsChangeOf name c) where
  change_closed : (m : Machine) → is_open m c ≡ false
  change_closed = change_cases (λ (k : Command). (m : Machine) → is_open m k ≡ false) (λ v f m. refl) (λ v f i block m. refl) (λ v f length m. refl) (λ v f m. refl) name c change

  change_answer : (m : Machine) → answer m c ≡ Done
  unfolding answer
  change_answer = change_cases (λ (k : Command). (m : Machine) → answer m k ≡ Done) (λ v f m. refl) (λ v f i block m. refl) (λ v f length m. refl) (λ v f m. refl) name c change

  -- an accepted change is answered `ok`
  pub change_allows : (m : Machine) → refusal m c ≡ None → Allows m c Done
  change_allows m accepted = answer_allows m c Done accepted (change_closed m) (sym (change_answer m))

  -- and nothing else
  pub change_done : (m : Machine) (reply : Reply) → refusal m c ≡ None → Allows m c reply → reply ≡ Done
  change_done m reply accepted allowed =
      let is : AllowsBy None m c reply = subst (λ (o : Option Refusal). AllowsBy o m c reply) accepted allowed in
      let answered : IsAnswer false (answer m c) reply = subst (λ (b : Bool). IsAnswer b (answer m c) reply) (change_closed m) is in
      answered ∙ change_answer m

  -- each is built, and has the room of a command on files
  pub change_room : (states : States) → room_by states c ≡ 16
  unfolding room_with
  change_room states = change_cases (λ (k : Command). room_by states k ≡ 16) (λ v f. refl) (λ v f i block. refl) (λ v f length. refl) (λ v f. refl) name c change

  change_built : is_built c ≡ true
  unfolding is_built
  change_built = change_cases (λ (k : Command). is_built k ≡ true) (λ v f. refl) (λ v f i block. refl) (λ v f length. refl) (λ v f. refl) name c change

  pub change_at_once : takes_steps c ≡ false
  change_at_once = change_cases (λ (k : Command). takes_steps k ≡ false) (λ v f. refl) (λ v f i block. refl) (λ v f length. refl) (λ v f. refl) name c change

  pub change_reads : reads_files c ≡ true
  unfolding reads_files
  change_reads = change_cases (λ (k : Command). reads_files k ≡ true) (λ v f. refl) (λ v f i block. refl) (λ v f length. refl) (λ v f. refl) name c change

  pub change_after : (m : Machine) → machine_after m c ≡ next m c
  unfolding machine_after
  change_after m = ap (λ (b : Bool). if b then next m c else m) change_built

  pub change_replies : (m : Machine) (reply : Reply) → Allows m c reply → Replies m c reply
  change_replies m reply allowed = subst (λ (b : Bool). RepliesBy b m c reply) (sym change_built) allowed

-- ---- the commands that ask

either : (m : Machine) (b : Bool) → cond b m m ≡ m
either m true = refl
either m false = refl

module _ (c : Command) (name : List ℕ) (asks : volume_asked c ≡ Some name) where
  pub look_room : (states : States) → room_by states c ≡ 0
  unfolding room_with
  look_room states = asked_cases (λ (k : Command). room_by states k ≡ 0) name (λ s f i. refl) (λ s f. refl) (λ s. refl) (λ f i. refl) c asks

  look_built : is_built c ≡ true
  unfolding is_built
  look_built = asked_cases (λ (k : Command). is_built k ≡ true) name (λ s f i. refl) (λ s f. refl) (λ s. refl) (λ f i. refl) c asks

  -- each asks for the table that it names
  pub look_asked : (states : States) → asked_by states c ≡ AsksTable (slot_named states name) (snapshot_asked c) (reads_cell c)
  unfolding asked_by
  look_asked states = asked_cases (λ (k : Command). asked_by states k ≡ AsksTable (slot_named states name) (snapshot_asked k) (reads_cell k)) name (λ s f i. refl) (λ s f. refl) (λ s. refl) (λ f i. refl) c asks

  pub look_at_once : takes_steps c ≡ false
  look_at_once = asked_cases (λ (k : Command). takes_steps k ≡ false) name (λ s f i. refl) (λ s f. refl) (λ s. refl) (λ f i. refl) c asks

  pub look_reads : reads_files c ≡ true
  unfolding reads_files
  look_reads = asked_cases (λ (k : Command). reads_files k ≡ true) name (λ s f i. refl) (λ s f. refl) (λ s. refl) (λ f i. refl) c asks

  look_next : (m : Machine) → next m c ≡ m
  unfolding change_of
  look_next = asked_cases (λ (k : Command). (m : Machine) → next m k ≡ m) name
      (λ s f i m. either m (is_some (refusal m (Get name s f i))))
      (λ s f m. either m (is_some (refusal m (Len name s f))))
      (λ s m. either m (is_some (refusal m (Ls name s))))
      (λ f i m. either m (is_some (refusal m (Probe name f i))))
      c asks

  pub look_after : (m : Machine) → machine_after m c ≡ m
  unfolding machine_after
  look_after m = ap (λ (b : Bool). if b then next m c else m) look_built ∙ look_next m

  pub look_replies : (m : Machine) (reply : Reply) → Allows m c reply → Replies m c reply
  look_replies m reply allowed = subst (λ (b : Bool). RepliesBy b m c reply) (sym look_built) allowed

same_some : (a b : List ℕ) → ◌≡◌ {A = Option (List ℕ)} (Some a) (Some b) → a ≡ b
same_some a b e = cc

nothing : {v : List ℕ} → ◌≡◌ {A = Option (List ℕ)} None (Some v) → ⊥
nothing e = cc

-- a command that changes a file of a volume is one of it
pub change_of_volume : (name : List ℕ) (c : Command) → changed_by c ≡ Some name → IsChangeOf name c
change_of_volume name (New v f reserve) is = by (reserve == 0) refl is
  where
    by : (t : Bool) → (reserve == 0) ≡ t → ◌≡◌ {A = Option (List ℕ)} (if t then Some v else None) (Some name) → (v ≡ name) × (reserve ≡ 0)
    by true none is = (same_some v name is, grind (arith, nat_tests, none))
    by false some is = absurd (nothing is)
change_of_volume name (Put v f i block) is = same_some v name is
change_of_volume name (Cut v f length) is = same_some v name is
change_of_volume name (Remove v f) is = same_some v name is
change_of_volume name c is = absurd (nothing is)

-- it asks for the active table of its volume
pub change_asked : (name : List ℕ) (c : Command) → changed_by c ≡ Some name → (states : States) → asked_by states c ≡ AsksTable (slot_named states name) None false
unfolding asked_by
change_asked name c of states = change_cases (λ (k : Command). changed_by k ≡ Some name → asked_by states k ≡ AsksTable (slot_named states name) None false)
    (λ v f is. at v is) (λ v f i block is. at v is) (λ v f length is. at v is) (λ v f is. at v is) name c (change_of_volume name c of) of
  where
    at : (v : List ℕ) → ◌≡◌ {A = Option (List ℕ)} (Some v) (Some name) → AsksTable (slot_named states v) None false ≡ AsksTable (slot_named states name) None false
    at v is = ap (λ (n : List ℕ). AsksTable (slot_named states n) None false) (same_some v name is)

-- what is judged is refused with the refusal that the reply is
pub judged_refusal : (reply : Reply) (r : Refusal) → refusal_in reply ≡ Some r → reply ≡ Refused r
judged_refusal (Refused r) q is = ap (λ (k : Refusal). Refused k) (same r q is)
  where
    same : (a b : Refusal) → ◌≡◌ {A = Option Refusal} (Some a) (Some b) → a ≡ b
    same a b e = cc
judged_refusal reply q is = cc

-- and accepted where it is none
pub judged_accepted : (m : Machine) (c : Command) (reply : Reply) → refusal_in reply ≡ None → Judges m c reply → refusal m c ≡ None
judged_accepted m c (Refused r) other is = cc
judged_accepted m c reply other is = is
