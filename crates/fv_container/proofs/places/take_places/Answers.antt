use Rattle.std.proofs.Common.{◌≡◌, ◌<◌, ◌≤◌, ◌+◌, ℕ, sym, ap, subst, ◌∙◌, List, length, get_or, arith, length-set}
use Rattle.std.specs.Prelude.{slice_set}
use Rattle.std.proofs.lemmas.List.{get_or-set_other}
use Rattle.fv_container.specs.Mapped.{node_count}
use Rattle.fv_container.specs.Written.{ArePlaced, HasTaken, is_there, may_move}
use Rattle.fv_container.proofs.Taking.{some_left, taken_more, taken_none, taken_up}
use Rattle.fv_container.proofs.Placing.{is_wanted, not_wanted, placed_anew, placed_more, placed_still, placed_up, wants_move}
use Rattle.fv_container.proofs.places.take_places.Goals as goal
use Rattle.fv_container.proofs.places.take_places.Goals.{then-stays, else-stays}

pub loop-n-init : goal.loop-n-init
loop-n-init g c =
    let held = c.args.leaves.now in
    let count = c.args.count in
    let tree = c.args.tree.now in
    let dirty = c.args.dirty.now in
    let fresh = c.clear.new.row in
    let places = c.copy_from_slice.new.self in
    let n = c.next_moving-n.result in
    let old = g.F.Free.room c.args.map.now in
    let inside : n ≤ length fresh = omega (arith, c.next_moving-n.ensures.most, c.clear.ensures.len, c.requires.fresh) in
    let same : (m : ℕ) → get_or places m 0 ≡ get_or tree m 0 = λ m. ap (λ (l : List ℕ). get_or l m 0) c.copy_from_slice.ensures.after in
    let none : (m : ℕ) → 0 ≤ m → m < n → get_or fresh m 0 ≡ 0 = λ m least lt. c.clear.ensures.all m (omega (arith, lt, inside)) in
    record {
      within = c.next_moving-n.ensures.most;
      len = c.copy_from_slice.ensures.len;
      anew = c.clear.ensures.len;
      taken = taken_up old old (may_move held dirty count) fresh 0 n (g.met.F.Free.laws c.args.map.now) c.next_moving-n.ensures.least inside none (taken_none old (may_move held dirty count) fresh);
      placed = placed_up held tree dirty count fresh places 0 n (λ m lt. absurd (omega (arith, lt))) c.next_moving-n.ensures.low c.next_moving-n.ensures.clean (λ m least. same m) none;
      kept = λ m past. same m;
      none = λ m past lt. c.clear.ensures.all m lt;
    }

pub take_place-place-requires : goal.take_place-place-requires
take_place-place-requires g c = λ is.
    some_left (g.F.Free.room c.args.map.now) (g.F.Free.room c.loop-n.map) (may_move c.args.leaves.now c.args.dirty.now c.args.count) c.loop-n.fresh c.loop-n.n (node_count c.args.count) c.loop-n.invariant.taken c.requires.room
    (omega (arith, c.loop-n-test.true, c.loop-n.invariant.len, c.requires.places))
    (wants_move c.args.leaves.now c.args.tree.now c.args.dirty.now c.args.count c.loop-n.places c.loop-n.n c.is_there-there.result c.may_stay-stays.result c.is_wanted.result c.is_there-there.ensures c.is_wanted.ensures c.may_stay-stays.ensures.stays is)

pub loop-n-preserved : goal.loop-n-preserved
loop-n-preserved g c =
    let held = c.args.leaves.now in
    let count = c.args.count in
    let tree = c.args.tree.now in
    let dirty = c.args.dirty.now in
    let fresh = c.loop-n.fresh in
    let places = c.loop-n.places in
    let n = c.loop-n.n in
    let there = c.is_there-there.result in
    let stays = c.may_stay-stays.result in
    let wanted = c.is_wanted.result in
    let place = c.take_place-place.result in
    let moving = c.next_moving-n-in-loop-n in
    let anew = slice_set fresh n place in
    let after = slice_set places n c.if-stays.places in
    let is : there ≡ is_there held tree dirty count n = c.is_there-there.ensures in
    let old = g.F.Free.room c.args.map.now in
    let mid = g.F.Free.room c.loop-n.map in
    let new = g.F.Free.room c.take_place-place.new.map in
    let inside : n < length places = omega (arith, c.loop-n-test.true, c.loop-n.invariant.len) in
    let in_fresh : n < length fresh = omega (arith, inside, c.loop-n.invariant.len, c.loop-n.invariant.anew, c.requires.places, c.requires.fresh) in
    let long : length anew ≡ length fresh = length-set fresh n place in
    let same : (m : ℕ) → n + 1 ≤ m → get_or after m 0 ≡ get_or tree m 0 = λ m past. get_or-set_other places n m c.if-stays.places 0 (omega (arith, past)) ∙ c.loop-n.invariant.kept m (omega (arith, past)) in
    let none : (m : ℕ) → n + 1 ≤ m → m < length fresh → get_or anew m 0 ≡ 0 = λ m past lt. get_or-set_other fresh n m place 0 (omega (arith, past)) ∙ c.loop-n.invariant.none m (omega (arith, past)) lt in
    let far : moving.result ≤ length fresh = omega (arith, moving.ensures.most, c.loop-n.invariant.anew, c.requires.fresh) in
    let bare : (m : ℕ) → n + 1 ≤ m → m < moving.result → get_or anew m 0 ≡ 0 = λ m past lt. none m past (omega (arith, lt, far)) in
    let taken : HasTaken old (may_move held dirty count) anew (n + 1) new =
    taken_more old mid new (may_move held dirty count) fresh n place (g.met.F.Free.laws c.args.map.now) in_fresh c.loop-n.invariant.taken wanted
    (wants_move held tree dirty count places n there stays wanted is c.is_wanted.ensures c.may_stay-stays.ensures.stays) c.take_place-place.ensures in
    let placed : ArePlaced (is_there held tree dirty count) count tree dirty anew after (n + 1) =
    elim c.if-stays.branch [
      | then-stays w ↦
          let none : place ≡ 0 = c.take_place-place.ensures.none (not_wanted stays there wanted c.is_wanted.ensures w.if-stays.true) in
          subst (λ (b : ℕ). ArePlaced (is_there held tree dirty count) count tree dirty (slice_set fresh n place) (slice_set places n b) (n + 1)) (sym w.places-is)
          (placed_more (is_there held tree dirty count) count tree dirty fresh places n place (get_or tree n 0) inside c.loop-n.invariant.placed
          (placed_still (is_there held tree dirty count) count tree dirty fresh places n place in_fresh inside (sym is ∙ c.may_stay-stays.ensures.there w.if-stays.true) (c.may_stay-stays.ensures.some w.if-stays.true) (c.may_stay-stays.ensures.clean w.if-stays.true) (c.may_stay-stays.ensures.below w.if-stays.true) none))
      | else-stays w ↦
          let same : wanted ≡ there = is_wanted stays there wanted c.is_wanted.ensures w.if-stays.false in
          subst (λ (b : ℕ). ArePlaced (is_there held tree dirty count) count tree dirty (slice_set fresh n place) (slice_set places n b) (n + 1)) (sym w.places-is)
          (placed_more (is_there held tree dirty count) count tree dirty fresh places n place place inside c.loop-n.invariant.placed
          (placed_anew (is_there held tree dirty count) count tree dirty fresh places n place in_fresh inside
          (λ so none. let least = ((g.met.F.Free.laws c.loop-n.map).places place (c.take_place-place.ensures.some (same ∙ (is ∙ so)))).0 in omega (arith, least, none))
          (λ out. c.take_place-place.ensures.none (same ∙ (is ∙ out)))
          (λ so. c.may_stay-stays.ensures.stays w.if-stays.false (is ∙ so))))
    ] in
    record {
      within = moving.ensures.most;
      len = length-set places n c.if-stays.places ∙ c.loop-n.invariant.len;
      anew = long ∙ c.loop-n.invariant.anew;
      taken = taken_up old new (may_move held dirty count) anew (n + 1) moving.result (g.met.F.Free.laws c.args.map.now) moving.ensures.least (omega (arith, far, long)) bare taken;
      placed = placed_up held tree dirty count anew after (n + 1) moving.result placed moving.ensures.low moving.ensures.clean same bare;
      kept = λ m past. same m (omega (arith, past, moving.ensures.least));
      none = λ m past lt. none m (omega (arith, past, moving.ensures.least)) (omega (arith, lt, long));
    }
