-- A session that read the numbers of a volume's files into memory, and a command on its files that comes then.
use Rattle.std.proofs.Common.{◌≡◌, ◌≤◌, ℕ, List, Option, Some, None, Result, Ok, Err, refl, sym, ap, subst, ◌∙◌, arith, ◌⊎◌, ◌+◌, false}
use Rattle.std.specs.Prelude.{IfOk, IfSome, IsNone, IsSome, IsTrue, OnErr, OnOk}
use Rattle.std.specs.Option.{option_map}
use Rattle.fv_disk.specs.DiskCalls.{OnlyReads}
use Rattle.fv_disk.specs.Shown.{Shown}
use Rattle.fv_disk.proofs.Resting.{reads_then}
use Rattle.fv_model.specs.declared.answers.Reply.{Reply}
use Rattle.fv_model.specs.declared.answers.Reply.TheVariants.{Content, Number}
use Rattle.fv_model.specs.declared.commands.Command.{Command}
use Rattle.fv_model.specs.declared.commands.Command.TheVariants.{Get, Probe}
use Rattle.fv_model.specs.Machines.{Machine}
use Rattle.fv_model.specs.Refusals.{next}
use Rattle.fv_model.specs.Replies.{Allows}
use Rattle.fv_tables.specs.Spelled.{Under}
use Rattle.fv_tables.specs.Told.{Standing}
use Rattle.fv_files.specs.Apart.{Trees}
use Rattle.fv_pool.specs.declared.pool.Pool.{Pool}
use Rattle.fv_pool.specs.Calls.{Reads}
use Rattle.fv_pool.specs.Tables.{standing_by, trees_by}
use Rattle.fv_volume.specs.declared.state.VolumeState.{VolumeState}
use Rattle.fv_volume.specs.OneVolume.{standing_for, trees_for}
use Rattle.fv_volume.specs.Paths.{StepsTo}
use Rattle.fv_volume.specs.Probing.{IsPath}
use Rattle.fv_volume.proofs.OneVolumes.{still_under}
use Rattle.fv_volume.specs.States.{States, state_at}
use Rattle.fv_cp.specs.Placing.{HasNoFiles, HaveNoFiles}
use Rattle.fv_aggregate.specs.declared.fault.Fault.{Fault}
use Rattle.fv_aggregate.specs.declared.session.Session.{Session}
use Rattle.fv_aggregate.specs.Calls.{but_numbers, Goes, GoesFor, KeepsAsking, KeepsEntries, MakesNoStep, SameButNumbers, WasRead}
use Rattle.fv_aggregate.specs.Commands.{Asked, AsksTable, reads_cell, snapshot_asked, file_room, is_refusal}
use Rattle.fv_aggregate.specs.Looking.{Looks, Makes}
use Rattle.fv_aggregate.specs.Numbering.{HasNumbered}
use Rattle.fv_aggregate.specs.Probing.{CountsPath, TellsPath}
use Rattle.fv_aggregate.specs.Standing.{StandsFor}
use Rattle.fv_aggregate.proofs.Holes.{read_entries}
use Rattle.fv_aggregate.proofs.Damages.{damage_read, read_then}
use Rattle.fv_aggregate.proofs.CallEnds.{fails_early, goes_for_after, goes_cell, goes_on_read, goes_wider}

-- ---- volumes that are the same but for those numbers

none_some : (x : VolumeState) → ◌≡◌ {A = Option VolumeState} None (Some x) → ⊥
none_some x e = cc

same_some : (x y : VolumeState) → ◌≡◌ {A = Option VolumeState} (Some x) (Some y) → x ≡ y
same_some x y e = cc

no_files_in : (o p : Option VolumeState) → option_map but_numbers p ≡ option_map but_numbers o → HasNoFiles o → HasNoFiles p
no_files_in o None same none = tt
no_files_in None (Some y) same none = absurd (none_some (but_numbers y) (sym same))
no_files_in (Some x) (Some y) same none = ap (λ (z : VolumeState). z.files) (same_some (but_numbers y) (but_numbers x) same) ∙ none

pub no_files_read : (old new : States) → SameButNumbers old new → HaveNoFiles old → HaveNoFiles new
no_files_read old new same none s = no_files_in (state_at old s) (state_at new s) (same s) (none s)

-- a volume is there as before, by the same name
pub still_there : (old new : States) → SameButNumbers old new → (slot : ℕ) (x : VolumeState) → state_at old slot ≡ Some x → (y : VolumeState) × ((state_at new slot ≡ Some y) × (x.name ≡ y.name))
still_there old new same slot x there = by (state_at new slot) refl (same slot ∙ ap (option_map but_numbers) there)
  where
    by : (o : Option VolumeState) → state_at new slot ≡ o → option_map but_numbers o ≡ Some (but_numbers x) → (y : VolumeState) × ((state_at new slot ≡ Some y) × (x.name ≡ y.name))
    by None at is = absurd (none_some (but_numbers x) is)
    by (Some y) at is = (y, (at, sym (ap (λ (z : VolumeState). z.name) (same_some (but_numbers y) (but_numbers x) is))))

-- what is told of a path is told of a table with the same trees
path_like : (e : Shown) (q : Pool) (y : VolumeState) (d : Shown) (p : Pool) (x : VolumeState) → standing_for e q y ≡ standing_for d p x → trees_for e q y ≡ trees_for d p x → (reply : Reply) (c : Command) → TellsPath e q y reply c → TellsPath d p x reply c
path_like e q y d p x table trees (Number count) (Probe v f i) path =
    subst (λ (t : Trees). IsPath (standing_for d p x) t f i count) trees (subst (λ (u : Standing). IsPath u (trees_for e q y) f i count) table path)
path_like e q y d p x table trees reply c path = tt

no_name : (n : List ℕ) → ◌≡◌ {A = Option (List ℕ)} (Some n) None → ⊥
no_name n e = cc

-- so are the steps of a path in the active table
steps_like : (e : Shown) (q : Pool) (y : VolumeState) (d : Shown) (p : Pool) (x : VolumeState) → standing_for e q y ≡ standing_for d p x → trees_for e q y ≡ trees_for d p x → (start steps : ℕ) (reply : Reply) (c : Command) → snapshot_asked c ≡ None
    → CountsPath e q y start steps reply c → CountsPath d p x start steps reply c
steps_like e q y d p x table trees start steps (Content block) (Get v None f i) active path =
    subst (λ (t : Trees). StepsTo (standing_for d p x) t f i start steps) trees (subst (λ (u : Standing). StepsTo u (trees_for e q y) f i start steps) table path)
steps_like e q y d p x table trees start steps (Content block) (Get v (Some n) f i) active path = absurd (no_name n active)
steps_like e q y d p x table trees start steps reply c active path = tt

-- ---- by a fault

-- a command that changes a file ends with a fault before its volume is called
pub makes_early : {T : Type 0} (asked : Asked) (d : Shown) (s : Session) (c : Command) (e : Shown) (n : Session) (f : Fault) → Goes {T = T} 0 asked d s e n (Err f) → (IsTrue d.tells → (last m : Machine) → StandsFor d s last m → GoesFor {T = T} d last m m e n (Err f))
    → OnlyReads d e → KeepsEntries s n → Makes file_room asked d s c e n (Err f)
makes_early asked d s c e n f goes goes_for reads entries = record {
  goes = goes_wider asked 16 d s e n f goes;
  goes_for = λ tells last m is. fails_early d last m (next m c) e n f (goes_for tells last m is);
  reply = λ tells last m is. tt;
  refused = λ tells last m is. tt;
  still = λ low. tt;
  calm = λ low. reads;
  entries = λ low. entries;
}

-- ---- the numbers couldn't be read

module _ (slot : ℕ) (d : Shown) (s : Session) (c : Command) (e : Shown) (n : Session) (f : Fault) (failed : HasNumbered slot d s e n (Err f)) where
  pub look_unnumbered : snapshot_asked c ≡ None → (r : Result Reply Fault) → r ≡ Err f → Looks slot d s c e n r
  look_unnumbered active r is = subst (Looks slot d s c e n) (sym is) (record {
    goes = subst (λ (o : Option (List ℕ)). Goes {T = Reply} 0 (AsksTable slot o (reads_cell c)) d s e n (Err f)) (sym active) (goes_cell slot None 0 (reads_cell c) d s e n f failed.goes);
    asks = failed.asks;
    goes_for = λ tells last m is. fails_early d last m m e n f (failed.goes_for tells last m is);
    reply = λ tells last m is. tt;
    path = λ tells last m is. tt;
    only_reads = failed.only_reads;
    entries = failed.entries;
    read = tt;
    unanswered = failed.unread;
  })

  pub make_unnumbered : (r : Result Reply Fault) → r ≡ Err f → Makes file_room (AsksTable slot None false) d s c e n r
  make_unnumbered r is = subst (Makes file_room (AsksTable slot None false) d s c e n) (sym is) (makes_early (AsksTable slot None false) d s c e n f failed.goes failed.goes_for failed.only_reads failed.entries)

-- ---- they were read, and then a command was carried out

module _ (d : Shown) (s : Session) (c : Command) (fresh : IsNone s.failed) (slot : ℕ) (there : IsSome (state_at s.volumes slot)) (e : Shown) (n : Session) (u : Unit {0}) (read : HasNumbered slot d s e n (Ok u))
    (g : Shown) (new : Session) (r : Result Reply Fault) where
  told : IsTrue d.tells → IsTrue e.tells
  told tells = subst IsTrue (sym read.goes.ends.tells) tells

  for_then : (after : Machine → Machine) → (IsTrue e.tells → (last m : Machine) → StandsFor e n last m → GoesFor e last m (after m) g new r) → IsTrue d.tells → (last m : Machine) → StandsFor d s last m → GoesFor d last m (after m) g new r
  for_then after goes_for tells last m is =
      let first = read.goes_for tells last m is in
      goes_for_after u d e g n new last m (after m) first read.goes.ends.given r (goes_for (told tells) first.done.point m first.done.stands)

  holds_then : (P : Machine → Type 0) → (IsTrue e.tells → (last m : Machine) → StandsFor e n last m → P m) → IsTrue d.tells → (last m : Machine) → StandsFor d s last m → P m
  holds_then P holds tells last m is = let first = read.goes_for tells last m is in holds (told tells) first.done.point m first.done.stands

  asks_then : KeepsAsking 0 e n g new → KeepsAsking 0 d s g new
  asks_then keeps tells kept asks none =
      let is = keeps (told tells) kept (let first = read.asks tells kept asks read.goes.done.goes_on in record { asked = first.asked; pending = omega (arith, first.pending) }) none in
      record { asked = is.asked; pending = is.pending }

  same_pending : n.pending ≡ s.pending
  same_pending = ap (λ (k : Session). k.pending) read.read.same

  none_added : n.pending ≤ s.pending
  none_added = let same = same_pending in omega (arith, same)

  read_both : (r : Result Reply Fault) → OnOk r (WasRead e n g new) → OnOk r (WasRead d s g new)
  read_both (Ok y) second = read_then d s e n g new read.read second
  read_both (Err f) second = tt

  unread_both : (r : Result Reply Fault) → OnErr r (WasRead e n g (record new { failed = n.failed })) → OnErr r (WasRead d s g (record new { failed = s.failed }))
  unread_both (Ok y) second = tt
  unread_both (Err f) second = read_then d s e n g (record new { failed = s.failed }) read.read (subst (λ (o : Option ℕ). WasRead e n g (record new { failed = o })) (ap (λ (k : Session). k.failed) read.read.same) second)

  refused_both : (r : Result Reply Fault) → IfOk r (λ reply. IsTrue (is_refusal reply) → WasRead e n g new) → IfOk r (λ reply. IsTrue (is_refusal reply) → WasRead d s g new)
  refused_both (Ok y) second = λ refused. read_then d s e n g new read.read (second refused)
  refused_both (Err f) second = tt

  -- the path to a cell is what it was
  only : Reads d s.pool e n.pool
  only = record { leaves = read.read.pool; only_reads = read.only_reads; stands = (read.goes.stands read.goes.done.goes_on).stands.cache }

  told_path : (o p : Option VolumeState) → option_map but_numbers p ≡ option_map but_numbers o → (reply : Reply) → IfSome p (λ y. TellsPath e n.pool y reply c) → IfSome o (λ x. TellsPath d s.pool x reply c)
  told_path None p same reply path = tt
  told_path (Some x) None same reply path = absurd (none_some (but_numbers x) same)
  told_path (Some x) (Some y) same reply path =
      let alike : but_numbers y ≡ but_numbers x = same_some (but_numbers y) (but_numbers x) same in
      let still = still_under d e s.pool n.pool only x in
      path_like e n.pool y d s.pool x (ap (standing_for e n.pool) alike ∙ ap (λ (u : Under). standing_by u x.active x.files) still) (ap (trees_for e n.pool) alike ∙ ap (λ (u : Under). trees_by u x.active x.files) still) reply c path

  path_both : (r : Result Reply Fault) → IfOk r (λ reply. IfSome (state_at n.volumes slot) (λ y. TellsPath e n.pool y reply c)) → IfOk r (λ reply. IfSome (state_at s.volumes slot) (λ x. TellsPath d s.pool x reply c))
  path_both (Ok reply) path = told_path (state_at s.volumes slot) (state_at n.volumes slot) (read.read.volumes slot) reply path
  path_both (Err f) path = tt

  pub look_numbered : Looks slot e n c g new r → Looks slot d s c g new r
  look_numbered looks = record {
    goes = goes_on_read u 0 0 d s e n read.goes none_added (AsksTable slot (snapshot_asked c) (reads_cell c)) (AsksTable slot (snapshot_asked c) (reads_cell c)) g new r (λ none. none) read.only_reads same_pending read.read.pool.found (λ at want found is. damage_read d s fresh slot (snapshot_asked c) (reads_cell c) there e n read.read 0 g new at want found) looks.goes;
    asks = asks_then looks.asks;
    goes_for = for_then (λ m. m) looks.goes_for;
    reply = holds_then (λ m. IfOk r (Allows m c)) looks.reply;
    path = λ tells last m is. let first = read.goes_for tells last m is in path_both r (looks.path (told tells) first.done.point m first.done.stands);
    only_reads = reads_then d e g read.only_reads looks.only_reads;
    entries = read_entries s n new read.read.pool looks.entries;
    read = read_both r looks.read;
    unanswered = unread_both r looks.unanswered;
  }

  pub make_numbered : Makes file_room (AsksTable slot None false) e n c g new r → Makes file_room (AsksTable slot None false) d s c g new r
  make_numbered makes = record {
    goes = goes_on_read u 0 16 d s e n read.goes none_added (AsksTable slot None false) (AsksTable slot None false) g new r (λ none. none) read.only_reads same_pending read.read.pool.found (λ at want found is. damage_read d s fresh slot None false there e n read.read 16 g new at want found) makes.goes;
    goes_for = for_then (λ m. next m c) makes.goes_for;
    reply = holds_then (λ m. IfOk r (Allows m c)) makes.reply;
    refused = λ tells last m is. let first = read.goes_for tells last m is in refused_both r (makes.refused (told tells) first.done.point m first.done.stands);
    still = λ low. refused_both r (makes.still (low_then low));
    calm = λ low. reads_then d e g read.only_reads (makes.calm (let same = same_pending in omega (arith, low, same)));
    entries = λ low. read_entries s n new read.read.pool (makes.entries (low_then low));
  }
    where
      low_then : (◌≡◌ {A = ℕ} 16 0) ⊎ (s.pending + 16 ≤ 256) → (◌≡◌ {A = ℕ} 16 0) ⊎ (n.pending + 16 ≤ 256)
      low_then low = subst (λ (k : ℕ). (◌≡◌ {A = ℕ} 16 0) ⊎ (k + 16 ≤ 256)) (sym same_pending) low

  -- what the steps are after it
  steps_after : snapshot_asked c ≡ None → (start steps : ℕ) (o p : Option VolumeState) → option_map but_numbers p ≡ option_map but_numbers o → (reply : Reply) → IfSome p (λ y. CountsPath e n.pool y start steps reply c) → IfSome o (λ x. CountsPath d s.pool x start steps reply c)
  steps_after active start steps None p same reply path = tt
  steps_after active start steps (Some x) None same reply path = absurd (none_some (but_numbers x) same)
  steps_after active start steps (Some x) (Some y) same reply path =
      let alike : but_numbers y ≡ but_numbers x = same_some (but_numbers y) (but_numbers x) same in
      let still = still_under d e s.pool n.pool only x in
      steps_like e n.pool y d s.pool x (ap (standing_for e n.pool) alike ∙ ap (λ (u : Under). standing_by u x.active x.files) still) (ap (trees_for e n.pool) alike ∙ ap (λ (u : Under). trees_by u x.active x.files) still) start steps reply c active path

  steps_both : snapshot_asked c ≡ None → (start steps : ℕ) (r : Result Reply Fault) → IfOk r (λ reply. IfSome (state_at n.volumes slot) (λ y. CountsPath e n.pool y start steps reply c)) → IfOk r (λ reply. IfSome (state_at s.volumes slot) (λ x. CountsPath d s.pool x start steps reply c))
  steps_both active start steps (Ok reply) path = steps_after active start steps (state_at s.volumes slot) (state_at n.volumes slot) (read.read.volumes slot) reply path
  steps_both active start steps (Err f) path = tt

  pub counts_numbered : snapshot_asked c ≡ None → (start steps : ℕ) → (IsTrue e.tells → (last m : Machine) → StandsFor e n last m → IfOk r (λ reply. IfSome (state_at n.volumes slot) (λ y. CountsPath e n.pool y start steps reply c)))
      → IsTrue d.tells → (last m : Machine) → StandsFor d s last m → IfOk r (λ reply. IfSome (state_at s.volumes slot) (λ x. CountsPath d s.pool x start steps reply c))
  counts_numbered active start steps counts tells last m is = let first = read.goes_for tells last m is in steps_both active start steps r (counts (told tells) first.done.point m first.done.stands)

  pub known_numbered : (start steps : ℕ) → (IsTrue e.tells → (last m : Machine) → StandsFor e n last m → MakesNoStep m c r start steps) → IsTrue d.tells → (last m : Machine) → StandsFor d s last m → MakesNoStep m c r start steps
  known_numbered start steps known = holds_then (λ m. MakesNoStep m c r start steps) known
