-- What a crash leaves at each moment of a consistency point: the old side, with what the root on the disk holds as it was, or the new one.
use Rattle.std.proofs.Common.{◌≡◌, ℕ, ◌≤◌, false, List, refl, sym, ap, subst, ◌∙◌, Bool, true, ◌||◌, ⊎_elim, inl, inr}
use Rattle.std.proofs.lemmas.Bool.{both_ways}
use Rattle.std.specs.Prelude.{IsTrue, Result, Some}
use Rattle.fv_disk.specs.Shown.{Image, Shown, IsDisk}
use Rattle.fv_disk.specs.Crash.{Leaves}
use Rattle.fv_bits.specs.Members.{is_member}
use Rattle.fv_codec.specs.declared.root.Root.{Root}
use Rattle.fv_model.specs.Machines.{Machine, first_block}
use Rattle.fv_image.specs.NewerRoot.{Taken, root_of}
use Rattle.fv_image.specs.Held.{AgreeOnHeld, Keeps, Layout, is_held}
use Rattle.fv_image.proofs.SameLayout.{kept}
use Rattle.fv_root.specs.declared.find.Found.{Found}
use Rattle.fv_root.specs.Finding.{root_found}
use Rattle.fv_root.specs.Commits.{IsFoundOn, NewSide, OldOrNew, OldSide, next_found}
use Rattle.fv_root.proofs.Crashes.{IsReadyFor, new_machine, old_machine}
use Rattle.fv_pool.specs.declared.pool.Pool.{Pool}
use Rattle.fv_volume.specs.States.{States}
use Rattle.fv_volume.specs.Writing.{on_disk, IsTaken}
use Rattle.fv_volumes.proofs.LentSlots.{area_taken, held_taken}
use Rattle.fv_cp.specs.Lent.{IsLent}
use Rattle.fv_cp.specs.Points.{IsNew, IsOld, IsOnDisk, OldOrLent, machine_lent}
use Rattle.fv_volumes.proofs.RootFound.{fixed_taken}
use Rattle.fv_volumes.proofs.Staying.{kept_stands}
use Rattle.fv_disk.specs.declared.Failed.{Failed}
use Rattle.fv_disk.specs.Sparing.{LeftBefore, Spares}
use Rattle.fv_disk.proofs.Moments.{started, then, weaken}
use Rattle.fv_image.specs.Layout.{area_place}
use Rattle.fv_image.specs.WholeMachine.{AllStandFor}
use Rattle.fv_image.proofs.Kept.{slot_is_small}

module _ (disk : Shown) (pool : Pool) (states : States) (before : Machine) (lent : IsLent disk pool states before) where
  abbrev t : Taken
  t = root_found pool.found

  pub left_keeps : (c : Image) → LeftBefore (IsTaken (on_disk pool.map)) disk c → Keeps t disk.reads c
  left_keeps c left =
      let d : Image = left.0 in
      let was : Keeps t disk.reads d = lent.keeps d left.1 in
      let still : Keeps t d c = kept t d c was.root (λ b low. left.2 b (fixed_taken (on_disk pool.map) b low)) (record {
        area = λ k within. left.2 (area_place t.blocks t.slot k) (area_taken disk.reads pool.found pool.map lent.tells.sound lent.map k (slot_is_small d t was.root) within);
        held = λ b held. left.2 b (held_taken disk.reads pool.found pool.map lent.tells.sound lent.map b (ap (λ (y : Layout). is_held y b) (sym was.layout) ∙ held));
      }) in
      record { root = still.root; layout = still.layout ∙ was.layout }

  -- Nothing was written.
  pub rests : IsDisk disk → Leaves disk disk (OldOrLent disk pool states before)
  rests laws = started disk (OldOrLent disk pool states before) laws (λ c now. (inl (record { stands = kept_stands t disk.reads c before lent.tells (lent.keeps c now); left = (c, now, λ b held. refl) }), refl))

  -- what the root on the disk holds isn't free under it
  held_is_taken : (b : ℕ) → IsOnDisk pool b → IsTaken (on_disk pool.map) b
  held_is_taken b held free = so (is_member pool.map.committed b) held.1 free.free
    where
      so : (m : Bool) → m ≡ true → (m || m) ≡ false → ⊥
      so true e none = both_ways _ none refl
      so false e none = both_ways _ refl e

  module _ (mid : Shown) (result : Result Unit Failed) (spares : Spares (IsTaken (on_disk pool.map)) disk mid result) where
    -- Volumes were written.
    pub writing : Leaves disk mid (OldOrLent disk pool states before)
    writing = weaken disk mid (λ c g. LeftBefore (IsTaken (on_disk pool.map)) disk c × (g ≡ disk.given)) (OldOrLent disk pool states before)
        (λ c g left. (inl (record { stands = kept_stands t disk.reads c before lent.tells (left_keeps c left.0); left = (left.0.0, left.0.1, λ b held. left.0.2 b (held_is_taken b held)) }), left.1)) spares.any_moment

    -- what the root on the disk holds stays
    pub old_stays : IsTrue disk.tells → AgreeOnHeld t disk.reads mid.reads
    old_stays tells b held = spares.reads tells b (held_taken disk.reads pool.found pool.map lent.tells.sound lent.map b held)

    pub images_stand : AllStandFor mid before
    images_stand c now = kept_stands t disk.reads c before lent.tells (left_keeps c (spares.images c now))

    -- the old side of a commit is that of the point
    old_side : (found : Found) (c : Image) → found ≡ pool.found → IsFoundOn mid found → OldSide mid found c → IsOld disk pool before c
    old_side found c same stands side =
        let from = spares.images side.from side.left in record {
          stands = old_machine mid found before c stands images_stand side;
          left = (from.0, from.1, λ b held. side.volumes b (subst (λ (f : Found). first_block f.blocks ≤ b) (sym same) held.0) ∙ from.2 b (held_is_taken b held));
        }

    -- and so is its new side
    new_side : (found : Found) (root : Root) (map : List Bool) (c : Image) → found ≡ pool.found → IsReadyFor mid found root map (machine_lent disk pool states) → NewSide mid found root map c → IsNew pool (machine_lent disk pool states) c
    new_side found root map c same ready side = record {
      stands = new_machine mid found root map (machine_lent disk pool states) c ready side;
      root = root;
      counts = subst (λ (f : Found). root_of c ≡ Some (root_found (next_found f root))) same side.counts;
    }

    -- The new root was written, too.
    pub switching : (found : Found) (root : Root) (map : List Bool) (new : Shown) → found ≡ pool.found → IsFoundOn mid found → IsReadyFor mid found root map (machine_lent disk pool states) → Leaves mid new (OldOrNew mid found root map) → Leaves disk new (OldOrLent disk pool states before)
    switching found root map new same stands ready left = (then) disk mid new (OldOrLent disk pool states before) writing
        (weaken mid new (OldOrNew mid found root map) (OldOrLent disk pool states before)
        (λ c g side. (⊎_elim (λ old. inl (old_side found c same stands old)) (λ now. inr (new_side found root map c same ready now)) side.0, side.1 ∙ spares.counted.given)) left)
