-- What was free while the blocks of a table were placed.
use Rattle.std.proofs.Common.{◌≡◌, ℕ, Option, Some, None, inl, inr, sym, ◌∙◌}
use Rattle.std.specs.FinMap as fin
use Rattle.fv_tables.specs.Spelled.{pointer_at}
use Rattle.fv_tree.specs.Flushing.{Loaded}
use Rattle.fv_files.specs.Apart.{Trees}
use Rattle.fv_files.specs.Altering.{PlacesIn, PlacesTrees}
use Rattle.fv_pool.specs.BlocksOver.{held_block, AreApart, TellsEntries}
use Rattle.fv_pool.specs.Lending.{blocks_held, GoesOver, Lent}
use Rattle.fv_pool.specs.Placing.{IsInNoSnap}
use Rattle.fv_pool.proofs.Shows.{get_held}

-- Where at some moment no block was held under a VVBN, no other slot had one under it.
pub was_unkept : (old moment : Lent) → GoesOver old moment → TellsEntries old.disk old.pool.containers → AreApart old.pool old.map old.home.slot → (v : ℕ) → fin.get (blocks_held moment.map moment.pool moment.home.slot moment.disk.reads) v ≡ None → IsInNoSnap old.disk old.pool old.map old.home.slot v
was_unkept old moment goes tells apart v free k other here =
    sym ((goes.keeps tells apart).blocks k v other here old.disk.reads)
    ∙ (λ i. held_block moment.map moment.pool (sym goes.home i).slot (sym goes.only_reads.stays.reads i) v)
    ∙ sym (get_held moment.map moment.pool moment.home.slot moment.disk.reads v) ∙ free

-- what new blocks got is so, as well
pub placed_free : (free other : ℕ → Type 0) (x y : Trees) → ((v : ℕ) → free v → other v) → PlacesTrees free x y → PlacesTrees other x y
placed_free free other x y so places a = by (x a) (y a) (places a)
  where
    by : (s t : Option Loaded) → PlacesIn free s t → PlacesIn other s t
    by None None is = is
    by None (Some t) is = is
    by (Some s) None is = is
    by (Some s) (Some t) is = λ level place. elim (is level place) [
      | inl none ↦ inl none
      | inr (inl now) ↦ inr (inl (record { stamp = now.stamp; was = now.was; done = now.done; fresh = so (pointer_at t.tree level place).vvbn now.fresh }))
      | inr (inr was) ↦ inr (inr was)
    ]
