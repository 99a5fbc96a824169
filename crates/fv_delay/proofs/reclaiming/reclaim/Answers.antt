use Rattle.std.proofs.Common.{◌≡◌, ◌+◌, ◌-◌, ◌*◌, ◌/◌, ◌<◌, ◌≤◌, ℕ, Bool, true, false, not, ◌&&◌, List, length, get_or, min, sym, ap, ap₂, subst, ◌∙◌, arith}
use Rattle.std.specs.Int.{from_bool}
use Rattle.std.specs.Option.{is_some}
use Rattle.fv_bits.proofs.Counts.{passing}
use Rattle.fv_image.specs.Containers.{fan}
use Rattle.fv_aggmap.specs.Space.{Space}
use Rattle.fv_container.specs.Mapped.{entry_under}
use Rattle.fv_container.specs.Paged.{Paged, is_here, is_sure}
use Rattle.fv_volmap.specs.Slots.{Volume}
use Rattle.fv_delay.specs.Delay.{delayed_in, is_delayed, is_held}
use Rattle.fv_delay.specs.Reclaims.{HasEmptied, HasGiven, lead_to}
use Rattle.fv_delay.proofs.Parts.{byte_is, byte_most, count_more, end_within, inside_region, none_past, region_walked, the_end}
use Rattle.fv_delay.proofs.Reclaimed.{between, region_reclaimed, some_none, some_one, some_then, stayed_one, stayed_same, stayed_then, still_there, walked_more, walked_none}
use Rattle.fv_delay.proofs.reclaiming.reclaim.Goals as goal

pub loop-vvbn-init : goal.loop-vvbn-init
loop-vvbn-init c = record {
  count = λ sure. sym (ap (passing (is_delayed c.args.map.now c.args.container.now.map) c.first_of-first.result) (let none : c.first_of-first.result - c.first_of-first.result ≡ 0 = omega arith in none));
  most = omega arith;
  walked = λ sure. walked_none (is_delayed c.args.map.now c.args.container.now.map) c.args.container.now c.first_of-first.result c.args.pool_map.now;
  stayed = stayed_same c.args.container.now;
  given = some_none c.args.pool_map.now;
}

pub loop-vvbn-preserved : goal.loop-vvbn-preserved
loop-vvbn-preserved c =
    let map : Volume = c.args.map.now in
    let old : Paged = c.args.container.now in
    let mid : Paged = c.loop-vvbn.container in
    let new : Paged = c.reclaim_entry.new.container in
    let p : ℕ → Bool = is_delayed map old.map in
    let first : ℕ = c.first_of-first.result in
    let v : ℕ = c.loop-vvbn.vvbn in
    let from : first ≤ v = c.loop-vvbn.auto.vvbn in
    let was = c.loop-vvbn.invariant in
    let went = c.reclaim_entry.ensures in
    let long : c.entry_count-entries.result ≡ length old.map.entries = c.entry_count-entries.ensures.value ∙ sym c.requires.entries in
    let at = inside_region c.entry_count-entries.result c.args.region first c.end_of-end.result v c.first_of-first.ensures c.end_of-end.ensures from c.loop-vvbn-test.true in
    let some : fan * c.args.region < length old.map.entries = omega (arith, at.1, long) in
    let start = c.first_of-first.ensures ∙ ap (λ (n : ℕ). min (fan * c.args.region) n) long in
    let stop = c.end_of-end.ensures ∙ ap (λ (n : ℕ). first + min (n - first) fan) long in
    let inside : v < length old.map.entries = end_within (length old.map.entries) (fan * c.args.region) first c.end_of-end.result v start stop c.loop-vvbn-test.true in
    let within : v < length mid.map.entries = subst (λ (n : ℕ). v < n) (sym was.stayed.long) inside in
    let loaded : is_here mid (v / 256) ≡ true = ap (λ (l : List Bool). get_or l (v / 256) false) was.stayed.here ∙ subst (λ (k : ℕ). is_here old k ≡ true) (sym at.0) (c.requires.loaded some) in
    record {
      count = λ sure.
          let here : is_sure mid (v / 256) ≡ true = ap (λ (l : List Bool). get_or l (v / 256) false) was.stayed.sure ∙ subst (λ (k : ℕ). is_sure old k ≡ true) (sym at.0) (sure some) in
          let there : entry_under mid.map v ≡ entry_under old.map v = still_there p old mid first v (was.walked sure).entries in
          let on : c.reclaim_entry.result ≡ p v = went.delayed here ∙ ap (λ entry. is_some entry && not (is_held map v)) there in
          ap₂ ◌+◌ (was.count sure) (c.from-count.ensures ∙ ap from_bool on ∙ byte_is (p v)) ∙ sym (count_more p first v from);
      most = omega (arith, c.from-count.ensures, byte_most c.reclaim_entry.result, was.most, from);
      walked = λ sure.
          let here : is_sure mid (v / 256) ≡ true = ap (λ (l : List Bool). get_or l (v / 256) false) was.stayed.sure ∙ subst (λ (k : ℕ). is_sure old k ≡ true) (sym at.0) (sure some) in
          let there : entry_under mid.map v ≡ entry_under old.map v = still_there p old mid first v (was.walked sure).entries in
          let on : c.reclaim_entry.result ≡ p v = went.delayed here ∙ ap (λ entry. is_some entry && not (is_held map v)) there in
          walked_more p old mid new first v c.args.pool_map.now c.loop-vvbn.pool_map c.reclaim_entry.new.pool_map from within loaded (was.walked sure)
          (λ off. went.same (on ∙ off)) (λ is. went.hole (on ∙ is)) (λ is. went.given here (on ∙ is));
      stayed = stayed_then old mid new was.stayed (stayed_one mid new c.loop-vvbn.pool_map c.reclaim_entry.new.pool_map v c.reclaim_entry.result loaded went.same went.hole);
      given = some_then c.args.pool_map.now c.loop-vvbn.pool_map c.reclaim_entry.new.pool_map was.given (some_one mid new c.loop-vvbn.pool_map c.reclaim_entry.new.pool_map c.reclaim_entry.result went.same went.some);
    }

pub reclaim_entry-requires-clause-loaded : goal.reclaim_entry-requires-clause-loaded
reclaim_entry-requires-clause-loaded c =
    let at = inside_region c.entry_count-entries.result c.args.region c.first_of-first.result c.end_of-end.result c.loop-vvbn.vvbn c.first_of-first.ensures c.end_of-end.ensures c.loop-vvbn.auto.vvbn c.loop-vvbn-test.true in
    ap (λ (l : List Bool). get_or l (c.loop-vvbn.vvbn / 256) false) c.loop-vvbn.invariant.stayed.here
    ∙ subst (λ (k : ℕ). is_here c.args.container.now k ≡ true) (sym at.0) (c.requires.loaded (omega (arith, at.1, c.entry_count-entries.ensures.value, c.requires.entries)))

pub returns-clause-count : goal.returns-clause-count
unfolding delayed_in
returns-clause-count c = λ sure.
    region_walked (is_delayed c.args.map.now c.args.container.now.map) c.args.region c.entry_count-entries.result (length c.args.container.now.map.entries) c.first_of-first.result c.end_of-end.result c.loop-vvbn.vvbn c.loop-vvbn.count
    (c.entry_count-entries.ensures.value ∙ sym c.requires.entries) (none_past c.args.map.now c.args.container.now.map) c.first_of-first.ensures c.end_of-end.ensures c.loop-vvbn.auto.vvbn-end c.loop-vvbn-test.false (c.loop-vvbn.invariant.count sure)

pub returns-clause-reclaimed : goal.returns-clause-reclaimed
returns-clause-reclaimed c = λ sure.
    let map : Volume = c.args.map.now in
    let old : Paged = c.args.container.now in
    let new : Paged = c.loop-vvbn.container in
    let space : Space = c.args.pool_map.now in
    let left : Space = c.loop-vvbn.pool_map in
    let p : ℕ → Bool = is_delayed map old.map in
    let first : ℕ = c.first_of-first.result in
    let end : ℕ = c.end_of-end.result in
    let was = c.loop-vvbn.invariant.walked sure in
    let long : c.entry_count-entries.result ≡ length old.map.entries = c.entry_count-entries.ensures.value ∙ sym c.requires.entries in
    let start = c.first_of-first.ensures ∙ ap (λ (n : ℕ). min (fan * c.args.region) n) long in
    let stop = c.end_of-end.ensures ∙ ap (λ (n : ℕ). first + min (n - first) fan) long in
    let at_end : c.loop-vvbn.vvbn ≡ end = the_end (length old.map.entries) first end c.loop-vvbn.vvbn stop c.loop-vvbn.auto.vvbn-end c.loop-vvbn-test.false in
    region_reclaimed map old c.args.region first end start stop new space left
    (subst (λ (n : ℕ). HasEmptied old (between p first n) new) at_end was.entries)
    (subst (λ (n : ℕ). HasGiven space (lead_to old.map p first (n - first)) left) at_end was.blocks)
