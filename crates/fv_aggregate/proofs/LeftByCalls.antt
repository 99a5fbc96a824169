-- What is left to do stays, where no file is in memory, by a command that only asks, by a `cp`, and by one that is refused.
use Rattle.std.proofs.Common.{◌≡◌, ◌⊎◌, ⊎_elim, ℕ, suc, true, false, cond, List, [], ◌∷◌, Option, Some, None, Result, Ok, Err, true≢false, refl, sym, ap, subst, ◌∙◌, arith}
use Rattle.std.specs.Prelude.{IfOk, IsTrue, OnOk, sum_by}
use Rattle.std.specs.Option.{option_map}
use Rattle.std.proofs.lemmas.List.Sums.{sum_by-cons}
use Rattle.fv_disk.specs.Shown.{Image, Shown}
use Rattle.fv_disk.specs.DiskCalls.{OnlyReads}
use Rattle.fv_model.specs.declared.answers.Reply.{Reply}
use Rattle.fv_model.specs.declared.commands.Command.{Command}
use Rattle.fv_model.specs.declared.commands.Command.TheVariants.{VolGuarantee, VolResize, VolStat}
use Rattle.fv_pool.specs.declared.pool.Pool.{Pool}
use Rattle.fv_pool.specs.BlocksOver.{LeavesPool}
use Rattle.fv_volume.specs.declared.state.VolumeState.{VolumeState}
use Rattle.fv_volume.specs.Changing.{IsChangeOf}
use Rattle.fv_volume.specs.States.{States, state_at}
use Rattle.fv_cleaner.specs.Left.{left_in}
use Rattle.fv_cp.specs.Placing.{HaveNoFiles}
use Rattle.fv_aggregate.specs.declared.fault.Fault.{Fault}
use Rattle.fv_aggregate.specs.declared.session.Session.{Session}
use Rattle.fv_aggregate.specs.Adding.{IsPointed}
use Rattle.fv_aggregate.specs.Calls.{IsUntouched}
use Rattle.fv_aggregate.specs.Commands.{is_refusal, keeps_todo, snapped_by}
use Rattle.fv_aggregate.specs.Managing.{Manages}
use Rattle.fv_aggregate.specs.PathShown.{KeepsTables}
use Rattle.fv_aggregate.specs.Reading.{but_numbers, WasRead}
use Rattle.fv_aggregate.specs.Working.{todo, todo_at, LeavesTodo}
use Rattle.fv_aggregate.proofs.Changing.{change_cases}
use Rattle.fv_aggregate.proofs.Numbered.{no_files_read}
use Rattle.fv_aggregate.proofs.PathShown.{tables_read}
use Rattle.fv_aggregate.proofs.SnapCommands.{snap_cases}
use Rattle.fv_aggregate.proofs.WorkedOthers.{left_read}

-- ---- sums over slots

-- what is the same slot by slot has the same sum, also where the one has more free slots behind
pub same_sums : (f g : Option VolumeState → ℕ) → f None ≡ 0 → g None ≡ 0 → (xs ys : States) → ((k : ℕ) → f (state_at ys k) ≡ g (state_at xs k))
    → sum_by f ys ≡ sum_by g xs
same_sums f g free_f free_g [] [] same = refl
same_sums f g free_f free_g [] (y ∷ ys) same =
    let first : f y ≡ g None = same 0 in
    let rest : sum_by f ys ≡ 0 = same_sums f g free_f free_g [] ys (λ k. same (suc k)) in
    let all : sum_by f (y ∷ ys) ≡ 0 = omega (arith, first, rest, free_g, sum_by-cons f y ys) in
    all
same_sums f g free_f free_g (x ∷ xs) [] same =
    let first : f None ≡ g x = same 0 in
    let rest : 0 ≡ sum_by g xs = same_sums f g free_f free_g xs [] (λ k. same (suc k)) in
    let all : 0 ≡ sum_by g (x ∷ xs) = omega (arith, first, rest, free_f, sum_by-cons g x xs) in
    all
same_sums f g free_f free_g (x ∷ xs) (y ∷ ys) same =
    let first : f y ≡ g x = same 0 in
    let rest = same_sums f g free_f free_g xs ys (λ k. same (suc k)) in
    omega (arith, first, rest, sum_by-cons f y ys, sum_by-cons g x xs)

-- ---- a session that was read

-- what is left in a volume doesn't come of the numbers of its files
numberless : (i : Image) (pool : Pool) (o : Option VolumeState) → todo_at i pool (option_map but_numbers o) ≡ todo_at i pool o
unfolding left_in
numberless i pool None = refl
numberless i pool (Some x) = refl

-- nor of the cache
uncached : (d e : Shown) (p q : Pool) → LeavesPool p q → OnlyReads d e → (o : Option VolumeState) → todo_at e.reads q o ≡ todo_at d.reads p o
uncached d e p q leaves reads None = refl
uncached d e p q leaves reads (Some z) = ap (λ (n : ℕ). cond z.known 0 n) (left_read d e p q z leaves reads)

pub todo_was_read : (d : Shown) (s : Session) (e : Shown) (n : Session) → WasRead d s e n → todo e n ≡ todo d s
todo_was_read d s e n was = same_sums (todo_at e.reads n.pool) (todo_at d.reads s.pool) refl refl s.volumes n.volumes (λ k.
    sym (numberless e.reads n.pool (state_at n.volumes k))
    ∙ ap (todo_at e.reads n.pool) (was.volumes k)
    ∙ numberless e.reads n.pool (state_at s.volumes k)
    ∙ uncached d e s.pool n.pool was.pool was.only_reads (state_at s.volumes k))

pub left_was_read : (d : Shown) (s : Session) (e : Shown) (n : Session) → WasRead d s e n → HaveNoFiles s.volumes → LeavesTodo d s e n
left_was_read d s e n was none = record {
  same = todo_was_read d s e n was;
  tables = tables_read d s e n was;
  none = no_files_read s.volumes n.volumes was.volumes none;
}

-- the session stays, over a disk that was only read
pub left_same : (d : Shown) (s : Session) (e : Shown) (n : Session) → OnlyReads d e → n ≡ s → HaveNoFiles s.volumes → LeavesTodo d s e n
left_same d s e n reads same none = subst (LeavesTodo d s e) (sym same) (left_was_read d s e s (record {
  only_reads = reads;
  pool = record { map = refl; containers = refl; kept = refl; found = refl; version = refl };
  volumes = λ k. refl;
  same = refl;
}) none)

-- ---- what a command leaves to be done

-- as it is said of a command that was applied
abbrev pub LeftBy : Command → Shown → Session → Shown → Session → Result Reply Fault → Type 0
LeftBy c d s e n r = IfOk r (λ reply. (keeps_todo c ≡ true) ⊎ IsTrue (is_refusal reply) → LeavesTodo d s e n)

module _ (c : Command) (d : Shown) (s : Session) (e : Shown) (n : Session) where
  -- one that leaves it, whatever it is
  pub left_any : LeavesTodo d s e n → (r : Result Reply Fault) → LeftBy c d s e n r
  left_any is (Ok y) = λ why. is
  left_any is (Err f) = tt

  -- one that asks
  pub left_asked : (r : Result Reply Fault) → OnOk r (WasRead d s e n) → HaveNoFiles s.volumes → LeftBy c d s e n r
  left_asked (Ok y) was none = λ why. left_was_read d s e n was none
  left_asked (Err f) was none = tt

  -- one that changes something, where it is refused
  pub left_refused : keeps_todo c ≡ false → (r : Result Reply Fault) → IfOk r (λ reply. IsTrue (is_refusal reply) → LeavesTodo d s e n)
      → LeftBy c d s e n r
  left_refused acts (Ok y) is = ⊎_elim (λ keeps. absurd (true≢false (sym keeps ∙ acts))) is
  left_refused acts (Err f) is = tt

  pub left_read_refused : keeps_todo c ≡ false → (r : Result Reply Fault) → IfOk r (λ reply. IsTrue (is_refusal reply) → WasRead d s e n)
      → HaveNoFiles s.volumes → LeftBy c d s e n r
  left_read_refused acts (Ok y) was none = left_refused acts (Ok y) (λ refused. left_was_read d s e n (was refused) none)
  left_read_refused acts (Err f) was none = tt

  pub left_untouched : {D : Type 0} (before after : D) → (after ≡ before → OnlyReads d e) → keeps_todo c ≡ false → (r : Result Reply Fault)
      → IfOk r (λ reply. IsTrue (is_refusal reply) → IsUntouched before s after n) → HaveNoFiles s.volumes → LeftBy c d s e n r
  left_untouched before after reads acts (Ok y) was none =
      left_refused acts (Ok y) (λ refused. left_same d s e n (reads (was refused).0) (was refused).1 none)
  left_untouched before after reads acts (Err f) was none = tt

  -- a point
  pub left_by_point : (r : Result Reply Fault) → OnOk r (todo e n ≡ todo d s) → OnOk r (KeepsTables d.reads s e.reads n) → OnOk r (IsPointed d s n)
      → LeftBy c d s e n r
  left_by_point (Ok y) same tables pointed = λ why. record { same = same; tables = tables; none = pointed.none }
  left_by_point (Err f) same tables pointed = tt

-- ---- which commands only ask

pub change_todo : (name : List ℕ) (c : Command) → IsChangeOf name c → keeps_todo c ≡ false
change_todo name c change = change_cases (λ (k : Command). keeps_todo k ≡ false) (λ v f. refl) (λ v f i block. refl) (λ v f length. refl) (λ v f. refl) name c change

pub snap_todo : (name : List ℕ) (c : Command) → snapped_by c ≡ Some name → keeps_todo c ≡ false
snap_todo name c of = snap_cases (λ (k : Command). keeps_todo k ≡ false) (λ w v. refl) (λ w v. refl) (λ w v. refl) name c of

-- one that is carried out by a call on the volumes leaves the session where it only asks
pub managed_kept : (old : Session) (c : Command) (new : Session) (reply : Reply) → Manages old c new reply → keeps_todo c ≡ true → new ≡ old
managed_kept old (VolResize v size) new reply is keeps = absurd (true≢false (sym keeps))
managed_kept old (VolGuarantee v kind) new reply is keeps = absurd (true≢false (sym keeps))
managed_kept old (VolStat v) new reply is keeps = is.0
managed_kept old c new reply is keeps = is.0
