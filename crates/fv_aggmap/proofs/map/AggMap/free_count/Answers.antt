use Rattle.std.proofs.Common.{◌∙◌, sym, ap}
use Rattle.std.specs.FinSet as set
use Rattle.fv_aggmap.specs.Space.{Space, free_from}
use Rattle.fv_aggmap.specs.Freeing.{room_of}
use Rattle.fv_aggmap.proofs.FreeRoom.{free_counted}
use Rattle.fv_aggmap.proofs.map.AggMap.free_count.Goals as goal

pub returns-clause-room : goal.returns-clause-room
returns-clause-room c =
    let map = c.self.inside in
    let space : Space = record { committed = map.committed; next = map.next } in
    c.self.invariant.count ∙ ap (free_from map.committed map.next) c.self.invariant.start
    ∙ sym (free_counted space c.self.invariant.size) ∙ ap (λ (s : Space). set.len (room_of s).free) c.self.view_is
