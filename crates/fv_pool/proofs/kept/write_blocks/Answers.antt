use Rattle.std.proofs.Common.{◌≡◌, ◌∙◌, [], ◌∷◌, ℕ, List, ap, sym, subst}
use Rattle.std.specs.Map.Iter.{deref_pair}
use Rattle.std.proofs.lemmas.Map.Iter.{rest_more, rest_all}
use Rattle.std.specs.Global.{Box}
use Rattle.fv_store.specs.Boxed.{unboxed}
use Rattle.fv_disk.proofs.Sparing.{spares_none, spares_then, spares_write}
use Rattle.fv_pool.specs.Keeping.{IsUnkept, kept_in}
use Rattle.fv_pool.proofs.Writing.{AreIn, all_in, failed_then, unboxed_ordered, unkept_elsewhere, wrote, written, written_none, written_seen}
use Rattle.fv_pool.proofs.kept.write_blocks.Goals as goal

pub loop-pvbn-init : goal.loop-pvbn-init
loop-pvbn-init g c =
    let whole = unboxed c.args.blocks.now.entries in
    let all : ◌≡◌ {A = List (ℕ × Box (List ℕ))} c.into_iter-pvbn-iterator.result c.args.blocks.now.entries = c.into_iter-pvbn-iterator.ensures.into_iter_gives ∙ c.iter-pvbn-items.ensures.rest in
    record {
      stands = c.requires.stands;
      inside = subst (λ es. AreIn whole (unboxed es)) (sym all) (all_in whole);
      so_far = λ tells b. ap (λ es. written (unboxed es) (g.D.Disk.shown c.args.disk.now).reads b) all;
      spares = spares_none (IsUnkept (kept_in c.args.blocks.now)) _ (g.met.D.Disk.laws c.args.disk.now);
    }

pub loop-pvbn-preserved : goal.loop-pvbn-preserved
loop-pvbn-preserved g c =
    let whole = unboxed c.args.blocks.now.entries in
    let rest = c.next.new.self in
    let at = c.in-Some.pvbn.now in
    let box = c.in-Some.block.now in
    let block = c.deref.result.now in
    let all : ◌≡◌ {A = List (ℕ × Box (List ℕ))} c.loop-pvbn.pvbn-iterator ((at, box) ∷ rest) = rest_more deref_pair c.loop-pvbn.pvbn-iterator rest c.next.result (c.in-Some.pvbn, c.in-Some.block) c.in-Some.is c.next.ensures.steps in
    let inside = subst (λ es. AreIn whole (unboxed es)) all c.loop-pvbn.invariant.inside in
    let w = c.in_ok-put.ensures.writes in
    record {
      stands = c.put.ensures.stands;
      inside = inside.1;
      so_far = λ tells b.
          let was : written ((at, block) ∷ unboxed rest) (g.D.Disk.shown c.loop-pvbn.disk).reads b ≡ written whole (g.D.Disk.shown c.args.disk.now).reads b = ap (λ held. written ((at, held) ∷ unboxed rest) (g.D.Disk.shown c.loop-pvbn.disk).reads b) c.deref.ensures ∙ ap (λ es. written (unboxed es) (g.D.Disk.shown c.loop-pvbn.disk).reads b) (sym all) ∙ c.loop-pvbn.invariant.so_far tells b in
          wrote (unboxed rest) (g.D.Disk.shown c.loop-pvbn.disk) at block (g.D.Disk.shown c.put.new.disk) b (rw c.loop-pvbn.invariant.spares.counted.tells tells) w ∙ was;
      spares = spares_then (IsUnkept (kept_in c.args.blocks.now)) _ _ _ _ c.loop-pvbn.invariant.spares (spares_write (IsUnkept (kept_in c.args.blocks.now)) _ at block _ _ (g.met.D.Disk.laws c.loop-pvbn.disk) (λ b unkept. unkept_elsewhere whole b at inside.0 unkept) w);
    }

pub returns-in_err-put-clause-spares : goal.returns-in_err-put-clause-spares
returns-in_err-put-clause-spares g c =
    let whole = unboxed c.args.blocks.now.entries in
    let all = rest_more deref_pair c.loop-pvbn.pvbn-iterator c.next.new.self c.next.result (c.in-Some.pvbn, c.in-Some.block) c.in-Some.is c.next.ensures.steps in
    let inside = subst (λ es. AreIn whole (unboxed es)) all c.loop-pvbn.invariant.inside in
    failed_then (IsUnkept (kept_in c.args.blocks.now)) _ _ _ c.in_err-put.field-0.0 c.from_residual.result c.loop-pvbn.invariant.spares
    (spares_write (IsUnkept (kept_in c.args.blocks.now)) _ c.in-Some.pvbn.now c.deref.result.now _ _ (g.met.D.Disk.laws c.loop-pvbn.disk) (λ b unkept. unkept_elsewhere whole b c.in-Some.pvbn.now inside.0 unkept) c.in_err-put.ensures.writes) c.from_residual.ensures.0

pub returns-clause-written : goal.returns-clause-written
returns-clause-written g c = λ tells b.
    let whole = unboxed c.args.blocks.now.entries in
    let none : ◌≡◌ {A = List (ℕ × Box (List ℕ))} c.loop-pvbn.pvbn-iterator [] = rest_all deref_pair c.loop-pvbn.pvbn-iterator c.next.new.self c.next.result c.in-None.is c.next.ensures.steps in
    let all : written [] (g.D.Disk.shown c.loop-pvbn.disk).reads b ≡ written whole (g.D.Disk.shown c.args.disk.now).reads b = ap (λ es. written (unboxed es) (g.D.Disk.shown c.loop-pvbn.disk).reads b) (sym none) ∙ c.loop-pvbn.invariant.so_far tells b in
    written_none (g.D.Disk.shown c.loop-pvbn.disk).reads b ∙ all ∙ written_seen whole (g.D.Disk.shown c.args.disk.now).reads b (unboxed_ordered c.args.blocks.now c.iter-pvbn-items.ensures.ordered)
