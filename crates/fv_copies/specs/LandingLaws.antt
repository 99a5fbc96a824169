-- Laws of what landed: reads leave it, and what two calls leave is what one may.
use Rattle.std.proofs.Common.{◌≡◌, Bool, List, refl, sym, ap, subst, ◌∙◌}
use Rattle.std.specs.FinMap as fin
use Rattle.fv_aggmap.specs.Space.{Space, free_blocks}
use Rattle.fv_bits.specs.Members.{is_member}
use Rattle.fv_container.specs.Paged.{Paged}
use Rattle.fv_pool.specs.declared.pool.Pool.{Pool}
use Rattle.fv_pool.specs.BlocksOver.{LeavesPool}
use Rattle.fv_pool.specs.Keeping.{Blocks}
use Rattle.fv_copies.specs.Copying.{Content, Copy}
use Rattle.fv_copies.specs.Landings.{HasLanded, Lands}

pub landed_reads : (container : Paged) (marks : List Bool) (pool left : Pool) (content : Content) (copies : List Copy) → LeavesPool pool left → HasLanded container marks pool content copies → HasLanded container marks left content copies
landed_reads container marks pool left content copies same landed = record {
  tells = landed.tells;
  clean = landed.clean;
  nowhere = landed.nowhere;
  held = λ b is. ap (λ (s : Space). is_member s.next b) same.map ∙ landed.held b is;
  each = λ i d low. let is = landed.each i d low in record {
    entry = is.entry;
    there = is.there;
    kind = is.kind;
    marked = is.marked;
    unkept = ap (λ (k : Blocks). fin.get k is.entry.pvbn) same.kept ∙ is.unkept;
    block = is.block;
  };
  holes = landed.holes;
  led = landed.led;
  back = landed.back;
  apart = landed.apart;
}

pub room_same : (pool left : Pool) → LeavesPool pool left → free_blocks left.map ≡ free_blocks pool.map
room_same pool left same = ap free_blocks same.map

pub lands_itself : (container : Paged) (marks : List Bool) (pool left : Pool) → LeavesPool pool left → Lands container marks pool.map container marks left.map
lands_itself container marks pool left same = subst (λ (s : Space). Lands container marks pool.map container marks s) (sym same.map) (record { long = refl; tree = refl; marked = λ start is. is })

pub lands_then : (old : Paged) (marks : List Bool) (mid : Paged) (marks_mid : List Bool) (new : Paged) (marks_new : List Bool) (map map_mid map_new : Space)
    → Lands old marks map mid marks_mid map_mid → Lands mid marks_mid map_mid new marks_new map_new → Lands old marks map new marks_new map_new
lands_then old marks mid marks_mid new marks_new map map_mid map_new first second = record {
  long = second.long ∙ first.long;
  tree = second.tree ∙ first.tree;
  marked = λ start is. second.marked start (first.marked start is);
}
