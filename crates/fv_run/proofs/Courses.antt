-- The sessions of a run, one behind each line, and the images over which they stand.
use Rattle.std.proofs.Common.{◌≡◌, ◌<◌, ◌+◌, inl, ℕ, suc, zero, true, List, refl, sym, subst, ap, arith}
use Rattle.std.specs.Prelude.{Ok, IsTrue}
use Rattle.fv_disk.specs.Shown.{Image, Shown}
use Rattle.fv_disk.specs.DiskCalls.{OnlyReads}
use Rattle.fv_disk.proofs.Resting.{stays_itself}
use Rattle.fv_model.specs.declared.answers.Reply.{Reply}
use Rattle.fv_model.specs.declared.commands.Command.{Command}
use Rattle.fv_model.specs.declared.commands.Command.TheVariants.{VolDestroy}
use Rattle.fv_model.specs.Runs.{Line}
use Rattle.fv_container.specs.Chains.{Slots, TellsEntries}
use Rattle.fv_aggregate.specs.declared.session.Session.{Session}
use Rattle.fv_aggregate.specs.Adding.{IsPointed}
use Rattle.fv_aggregate.specs.Applying.{HasApplied}
use Rattle.fv_aggregate.specs.Calls.{IsPlain, IsUntouched}
use Rattle.fv_aggregate.specs.Managing.{IsCarriedOut, IsManaged}
use Rattle.fv_aggregate.specs.Reading.{IsAsRead}
use Rattle.fv_aggregate.specs.Standing.{StandsReady}
use Rattle.fv_aggregate.proofs.Damages.{as_read, as_read_then}
use Rattle.fv_run.specs.Promises.{line_at}
use Rattle.fv_run.specs.Running.{only_asks, still_disk, StandsOnImage, UndergoesCommand, UndergoesLine, UndergoesLines}
use Rattle.fv_run.proofs.Sessions.{as_read_itself}

-- ---- what a call of a session says, over what the disk reads

-- a session on a disk stands on what that reads
pub stands_on : (disk : Shown) (session : Session) → IsTrue disk.tells → StandsReady disk session → StandsOnImage disk.reads session
stands_on disk session tells stands = record { found = (stands.stands.found tells).reads; map = stands.stands.map tells }

-- what a point leaves of a session is told of any disk
pub pointed_on : (disk other : Shown) (session next : Session) → IsTrue disk.tells → IsPointed disk session next → IsPointed other session next
pointed_on disk other session next tells is = record {
  next = is.next;
  pending = is.pending;
  files = λ told. is.files tells;
  same = λ told. is.same tells;
  cores = is.cores;
  admits = is.admits;
  none = is.none;
  blocks = is.blocks;
}

abbrev read_of : {D : Type 0} → (D → Shown) → D → Image
read_of show d = (show d).reads

untouched_over : {D : Type 0} (show : D → Shown) (before : D) (session : Session) (after : D) (next : Session) → IsUntouched before session after next → IsUntouched (show before).reads session (show after).reads next
untouched_over show before session after next is = (ap (read_of show) is.0, is.1)

-- what is told of a removal under one premise is told under another that gives it
carried_over : (sure told : Type 0) (session : Session) (command : Command) (next : Session) → (told → sure) → IsCarriedOut sure session command next → IsCarriedOut told session command next
carried_over sure told session (VolDestroy name) next gives is = record {
  slot = is.slot;
  within = is.within;
  state = is.state;
  there = is.there;
  named = is.named;
  map = is.map;
  lies = is.lies;
  gone = record {
    row = is.gone.row;
    containers = is.gone.containers;
    some = is.gone.some;
    given = λ so. is.gone.given (gives so);
    kept = λ so. is.gone.kept (gives so);
    fewer = is.gone.fewer;
    found = is.gone.found;
    version = is.gone.version;
  };
}
carried_over sure told session command next gives is = is

managed_over : (sure told : Type 0) (session : Session) (command : Command) (name : List ℕ) (next : Session) (reply : Reply) → (told → sure)
    → IsManaged sure session command name next reply → IsManaged told session command name next reply
managed_over sure told session command name next reply gives is = record {
  far = is.far;
  missing = is.missing;
  told = is.told;
  removed = is.removed;
  in_use = is.in_use;
  answered = is.answered;
  done = λ done. carried_over sure told session command next gives (is.done done);
  stays = is.stays;
  rest = is.rest;
}

-- a disk that shows an image and nothing else tells it
tells_of : (disk : Shown) (slots : Slots) → IsTrue disk.tells → TellsEntries (still_disk disk.reads) slots → TellsEntries disk slots
tells_of disk slots tells is = (tells, is.1)

still_reads : (i j : Image) → j ≡ i → OnlyReads (still_disk i) (still_disk j)
still_reads i j same = subst (λ (x : Image). OnlyReads (still_disk i) (still_disk x)) (sym same) (record {
  stays = stays_itself (still_disk i);
  time = record { later = omega arith; nothing_else = λ t c g le left. inl left; keeps = λ t c g le left. left };
  given = refl;
  ends = refl;
  faults = omega arith;
  write_faults = refl;
})

plain_over : {D : Type 0} (show : D → Shown) (command : Command) (before : D) (session : Session) (after : D) (next : Session) (reply : Reply) → IsTrue (show before).tells
    → IsPlain command (show before) before session (show after) after next (Ok reply)
    → IsPlain command (still_disk (show before).reads) (show before).reads session (still_disk (show after).reads) (show after).reads next (Ok reply)
plain_over show command before session after next reply tells is = record {
  refused = λ refusal. untouched_over show before session after next (is.refused refusal);
  calm = λ other once leaves within. ap (read_of show) (is.calm other once leaves within);
  idle = λ other once stays none within. ap (read_of show) (is.idle other once stays none within);
  map = is.map;
  wanting = λ other once leaves within. tt;
  damage = λ once. tt;
  unbuilt = is.unbuilt;
  listed = is.listed;
  untouched = λ list. untouched_over show before session after next (is.untouched list);
  pointed = λ cp. pointed_on (show before) (still_disk (show before).reads) session next tells (is.pointed cp);
  unpointed = λ cp lives. tt;
  managed = λ fresh name managed stays. let told = is.managed fresh name managed stays in record {
    reply = told.reply;
    is = told.is;
    managed = managed_over (TellsEntries (show before) slots) (TellsEntries (still_disk (show before).reads) slots) session command name next told.reply (tells_of (show before) slots tells) told.managed;
  };
  removed = λ fresh name destroys. let gone = is.removed fresh name destroys in record {
    managed = managed_over (TellsEntries (show before) slots) (TellsEntries (still_disk (show before).reads) slots) session (VolDestroy name) name next reply (tells_of (show before) slots tells) gone.managed;
    undone = tt;
    only_reads = still_reads (show before).reads (show after).reads gone.only_reads.stays.reads;
  };
  snapped = is.snapped;
  snapshots = λ fresh name list. let told = is.snapshots fresh name list in (untouched_over show before session after next told.0, told.1);
  made = is.made;
}
  where
    slots : Slots
    slots = session.pool.containers

pub command_over : {D : Type 0} (show : D → Shown) (command : Command) (before : D) (session : Session) (start : ℕ) (after : D) (next : Session) (stop : ℕ) (reply : Reply)
    → HasApplied command (show before) before session start (show after) after next stop (Ok reply) → IsTrue (show before).tells → UndergoesCommand command (show before).reads session (show after).reads next reply
command_over show command before session start after next stop reply done tells = record {
  plain = λ none. plain_over show command before session after next reply tells (done.plain none);
  refused = λ files within refusal. as_read (show before) session (show after) next ((done.on_files files).still within refusal);
  entries = done.entries;
}

-- ---- line by line

pub undergoes_none : (lines : List Line) (i : Image) (first : Session) → UndergoesLines lines 0 i first i first
undergoes_none lines i first = (refl, refl)

-- the disk reads what it read
pub undergoes_still : (lines : List Line) (count : ℕ) (i : Image) (first : Session) (j k : Image) (session : Session) → k ≡ j → UndergoesLines lines count i first j session → UndergoesLines lines count i first k session
undergoes_still lines count i first j k session same so_far = subst (λ (x : Image). UndergoesLines lines count i first x session) (sym same) so_far

pub undergoes_next : (lines : List Line) (count : ℕ) (line : Line) → line_at lines count ≡ line → (i : Image) (first : Session) (j : Image) (session : Session) (k : Image) (next : Session)
    → UndergoesLines lines count i first j session → UndergoesLine line j session k next → UndergoesLines lines (count + 1) i first k next
undergoes_next lines count line is i first j session k next so_far led =
    let more : suc count ≡ count + 1 = omega arith in
    let both : UndergoesLines lines (suc count) i first k next = (session, j, so_far, subst (λ (l : Line). UndergoesLine l j session k next) (sym is) led) in
    subst (λ (n : ℕ). UndergoesLines lines n i first k next) more both

-- lines that only ask for files leave all but the cache and the numbers of files in memory
pub undergoes_read : (lines : List Line) (count : ℕ) (i : Image) (first : Session) (j : Image) (session : Session) → UndergoesLines lines count i first j session
    → ((k : ℕ) → k < count → only_asks (line_at lines k) ≡ true) → IsAsRead first session
undergoes_read lines zero i first j session so_far only = subst (λ (s : Session). IsAsRead first s) (sym so_far.0) (as_read_itself first)
undergoes_read lines (suc count) i first j session so_far only =
    as_read_then first so_far.0 session (undergoes_read lines count i first so_far.1 so_far.0 so_far.2 (λ k low. only k (omega (arith, low)))) (so_far.3.read (only count (omega arith)))
