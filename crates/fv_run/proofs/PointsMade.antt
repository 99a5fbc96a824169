-- How many consistency points were made behind some lines, by the generation of the root that counts.
use Rattle.std.proofs.Common.{◌≡◌, ◌⊎◌, ◌<◌, ◌≤◌, ◌+◌, ◌%◌, ◌^◌, inl, inr, ⊎_elim, ℕ, suc, zero, Bool, true, false, List, length, refl, sym, ap, subst, arith}
use Rattle.std.specs.Prelude.{if◌then◌else◌}
use Rattle.std.proofs.lemmas.Bool.{cases_lt}
use Rattle.std.proofs.lemmas.List.{get_or_past}
use Rattle.fv_disk.specs.Shown.{Image}
use Rattle.fv_model.specs.declared.answers.Reply.{Reply}
use Rattle.fv_model.specs.declared.commands.Command.TheVariants.{Cp}
use Rattle.fv_model.specs.Runs.{Line, Says, NoCommand, OutOfRange, is_cp}
use Rattle.fv_root.specs.declared.find.Found.{Found}
use Rattle.fv_cp.specs.Points.{IsNextRoot}
use Rattle.fv_aggregate.specs.declared.session.Session.{Session}
use Rattle.fv_aggregate.specs.Calls.{IsUntouched}
use Rattle.fv_aggregate.specs.Commands.{reads_files}
use Rattle.fv_run.specs.Promises.{line_at}
use Rattle.fv_run.specs.Running.{cps_behind, takes, UndergoesCommand, UndergoesLine, UndergoesLines, UndergoesSaid}
use Rattle.fv_run.proofs.Built.{cp_alone}

-- ---- generations

-- a root is the one that so many points made of another
abbrev pub HasGone : ℕ → Found → Found → Type 0
HasGone points first now = ((points ≡ 0) × (now ≡ first)) ⊎ (now.root.generation ≡ (first.root.generation + points) % 2 ^ 64)

pub gone_next : (points : ℕ) (first now next : Found) → HasGone points first now → IsNextRoot now next → next.root.generation ≡ (first.root.generation + (points + 1)) % 2 ^ 64
gone_next points first now next (inl none) is =
    let same : now.root.generation ≡ first.root.generation = ap (λ (f : Found). f.root.generation) none.1 in
    let on = is.generation in
    omega (arith, none.0, same, on)
gone_next points first now next (inr gone) is = let on = is.generation in omega (arith, gone, on)

-- ---- how many lines are a `cp`

cps_none : (lines : List Line) → cps_behind lines 0 ≡ 0
unfolding cps_behind
cps_none lines = refl

cps_next : (lines : List Line) (count : ℕ) (cp : Bool) → is_cp (line_at lines count) ≡ cp → cps_behind lines (suc count) ≡ cps_behind lines count + (if cp then 1 else 0)
unfolding cps_behind
cps_next lines count cp is = ap (λ (b : Bool). cps_behind lines count + (if b then 1 else 0)) is

cps_step : (lines : List Line) (count : ℕ) → (cps_behind lines count ≤ cps_behind lines (suc count)) × (cps_behind lines (suc count) ≤ cps_behind lines count + 1)
cps_step lines count = by (is_cp (line_at lines count)) refl
  where
    by : (cp : Bool) → is_cp (line_at lines count) ≡ cp → (cps_behind lines count ≤ cps_behind lines (suc count)) × (cps_behind lines (suc count) ≤ cps_behind lines count + 1)
    by true is = let step : cps_behind lines (suc count) ≡ cps_behind lines count + 1 = cps_next lines count true is in (omega (arith, step), omega (arith, step))
    by false is = let step : cps_behind lines (suc count) ≡ cps_behind lines count + 0 = cps_next lines count false is in (omega (arith, step), omega (arith, step))

pub cps_more : (lines : List Line) (low high : ℕ) → low ≤ high → cps_behind lines low ≤ cps_behind lines high
cps_more lines low zero le =
    let none : low ≡ 0 = omega (arith, le) in
    let same : cps_behind lines low ≡ cps_behind lines 0 = ap (cps_behind lines) none in
    omega (arith, same)
cps_more lines low (suc high) le = ⊎_elim
    (λ (past : high < low).
    let here : low ≡ suc high = omega (arith, past, le) in
    let same : cps_behind lines low ≡ cps_behind lines (suc high) = ap (cps_behind lines) here in
    omega (arith, same))
    (λ (below : low ≤ high). let before = cps_more lines low high below in let step = (cps_step lines high).0 in omega (arith, before, step))
    (cases_lt high low)

-- ---- line by line

-- So many points were made in the first lines: each `cp` is one, and no line makes two, but for those that take background steps.
pub record HasMade (lines : List Line) (count : ℕ) (first now : Found) : Type 0 where
  pub points : ℕ
  pub least : cps_behind lines count ≤ points
  pub most : points ≤ length lines
  pub few : points ≤ count
  pub gone : HasGone points first now

module _ (lines : List Line) (count : ℕ) (first now next : Found) (made : HasMade lines count first now) where
  one_more : count < length lines → IsNextRoot now next → HasMade lines (suc count) first next
  one_more low is = record {
    points = made.points + 1;
    least = (let step = (cps_step lines count).1 in let least = made.least in omega (arith, step, least));
    most = (let few = made.few in omega (arith, few, low));
    few = (let few = made.few in omega (arith, few));
    gone = inr (gone_next made.points first now next made.gone is);
  }

  none_more : is_cp (line_at lines count) ≡ false → next ≡ now → HasMade lines (suc count) first next
  none_more other same = record {
    points = made.points;
    least = (let step : cps_behind lines (suc count) ≡ cps_behind lines count + 0 = cps_next lines count false other in let least = made.least in omega (arith, step, least));
    most = made.most;
    few = (let few = made.few in omega (arith, few));
    gone = subst (λ (f : Found). HasGone made.points first f) (sym same) made.gone;
  }

cp_line : (line : Line) → is_cp line ≡ true → line ≡ Says Cp
cp_line (Says c) e = ap Says (cp_alone c e)
cp_line NoCommand e = absurd cc
cp_line OutOfRange e = absurd cc

cp_reads : reads_files Cp ≡ false
unfolding reads_files
cp_reads = refl

-- a `cp` is a point
cp_made : (line : Line) → is_cp line ≡ true → (i : Image) (session : Session) (j : Image) (next : Session) (reply : Reply) → UndergoesSaid line i session j next reply → IsNextRoot session.pool.found next.pool.found
cp_made line is i session j next reply said =
    let did : UndergoesCommand Cp i session j next reply = subst (λ (l : Line). UndergoesSaid l i session j next reply) (cp_line line is) said in
    ((did.plain cp_reads).pointed refl).next

line_made : (lines : List Line) (count : ℕ) (first : Found) (i : Image) (session : Session) (j : Image) (next : Session) → takes (line_at lines count) ≡ false → HasMade lines count first session.pool.found → UndergoesLine (line_at lines count) i session j next
    → HasMade lines (suc count) first next.pool.found
line_made lines count first i session j next once made led = ⊎_elim
    (λ (low : count < length lines). within low (is_cp (line_at lines count)) refl)
    (λ (past : length lines ≤ count).
    let none : line_at lines count ≡ NoCommand = get_or_past lines count NoCommand past in
    let still : IsUntouched i session j next = subst (λ (l : Line). UndergoesSaid l i session j next led.reply) none led.said in
    none_more lines count first session.pool.found next.pool.found made (ap is_cp none) (ap (λ (s : Session). s.pool.found) still.1))
    (cases_lt count (length lines))
  where
    within : count < length lines → (cp : Bool) → is_cp (line_at lines count) ≡ cp → HasMade lines (suc count) first next.pool.found
    within low true is = one_more lines count first session.pool.found next.pool.found made low (cp_made (line_at lines count) is i session j next led.reply led.said)
    within low false is = ⊎_elim
        (λ (same : next.pool.found ≡ session.pool.found). none_more lines count first session.pool.found next.pool.found made is same)
        (λ (on : IsNextRoot session.pool.found next.pool.found). one_more lines count first session.pool.found next.pool.found made low on)
        (led.root once)

pub points_made : (lines : List Line) → ((line : ℕ) → takes (line_at lines line) ≡ false) → (count : ℕ) (i : Image) (first : Session) (j : Image) (session : Session) → UndergoesLines lines count i first j session → HasMade lines count first.pool.found session.pool.found
points_made lines once zero i first j session course = record {
  points = 0;
  least = (let none = cps_none lines in omega (arith, none));
  most = omega arith;
  few = omega arith;
  gone = inl (refl, ap (λ (s : Session). s.pool.found) course.0);
}
points_made lines once (suc count) i first j session course =
    line_made lines count first.pool.found course.1 course.0 j session (once count) (points_made lines once count i first course.1 course.0 course.2) course.3
