-- Which blocks are spared, over one call and over several.
use Rattle.std.proofs.Common.{◌≡◌, ℕ, List, refl, ◌∙◌}
use Rattle.std.specs.Prelude.{Result, Ok, ◌≢◌}
use Rattle.fv_disk.specs.declared.Failed.{Failed}
use Rattle.fv_disk.specs.Shown.{Image, Shown, IsDisk}
use Rattle.fv_disk.specs.DiskCalls.{Writes, Settles}
use Rattle.fv_disk.specs.Crash.{Leaves}
use Rattle.fv_disk.proofs.Counting.{counted_none, counted_write, counted_barrier, counted_then}
use Rattle.fv_disk.proofs.Moments.{started, goes_on, then, weaken}
use Rattle.fv_disk.specs.Sparing.{LeftBefore, Spares}

module _ (spared : ℕ → Type 0) where
  abbrev Left : Shown → Image → List ℕ → Type 0
  Left old c g = LeftBefore spared old c × (g ≡ old.given)

  as_before : (disk : Shown) (c : Image) → disk.images c → LeftBefore spared disk c
  as_before disk c now = (c, now, λ b is. refl)

  begun : (disk : Shown) → IsDisk disk → Leaves disk disk (Left disk)
  begun disk laws = started disk (Left disk) laws (λ c now. (as_before disk c now, refl))

  pub spares_none : (disk : Shown) → IsDisk disk → Spares spared disk disk (Ok tt)
  spares_none disk laws = record {
    counted = counted_none disk;
    reads = λ tells b is. refl;
    images = as_before disk;
    any_moment = begun disk laws;
  }

  pub spares_write : (old : Shown) (at : ℕ) (block : List ℕ) (new : Shown) (result : Result Unit Failed) → IsDisk old → ((b : ℕ) → spared b → b ≢ at) → Writes old at block new result → Spares spared old new result
  spares_write old at block new result laws elsewhere w =
      let images : (c : Image) → new.images c → LeftBefore spared old c = λ c now. let before = w.no_more c now in (before.0, before.1, λ b is. before.2 b (elsewhere b is)) in
      record {
        counted = counted_write old at block new result w;
        reads = λ tells b is. w.others tells b (elsewhere b is);
        images = images;
        any_moment = goes_on old old new (Left old) (begun old laws) w.time (λ c now. (images c now, w.given));
      }

  pub spares_barrier : (old new : Shown) (result : Result Unit Failed) → IsDisk old → Settles old new result → Spares spared old new result
  spares_barrier old new result laws s =
      let images : (c : Image) → new.images c → LeftBefore spared old c = λ c now. as_before old c (s.no_more c now) in
      record {
        counted = counted_barrier old new result s;
        reads = λ tells b is. at_once s.reads b;
        images = images;
        any_moment = goes_on old old new (Left old) (begun old laws) s.time (λ c now. (images c now, s.given));
      }
    where
      at_once : {f g : Image} → f ≡ g → (b : ℕ) → f b ≡ g b
      at_once {f} {g} e b = rw e refl

  pub spares_then : (old mid new : Shown) (result : Result Unit Failed) → Spares spared old mid (Ok tt) → Spares spared mid new result → Spares spared old new result
  spares_then old mid new result first second =
      let images : (c : Image) → LeftBefore spared mid c → LeftBefore spared old c = λ c kept.
      let before = first.images kept.0 kept.1 in (before.0, before.1, λ b is. kept.2 b is ∙ before.2 b is) in
      record {
        counted = counted_then old mid new result first.counted second.counted;
        reads = λ tells b is. second.reads (rw first.counted.tells tells) b is ∙ first.reads tells b is;
        images = λ c now. images c (second.images c now);
        any_moment = then old mid new (Left old) first.any_moment
            (weaken mid new (Left mid) (Left old) (λ c g kept. (images c kept.0, kept.1 ∙ first.counted.given)) second.any_moment);
      }
