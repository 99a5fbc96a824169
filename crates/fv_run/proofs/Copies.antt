-- What can be copied of a session's volumes, over what the disk reads.
use Rattle.std.specs.Prelude.{IfSome, IsTrue, None, Option, Some}
use Rattle.fv_disk.specs.Shown.{Shown}
use Rattle.fv_pool.specs.declared.pool.Pool.{Pool}
use Rattle.fv_volume.specs.declared.state.VolumeState.{VolumeState}
use Rattle.fv_volume.specs.States.{States, state_at}
use Rattle.fv_copies.specs.Copying.{IsSource, IsWhole}
use Rattle.fv_mirror.specs.declared.admitting.Admitted.{Admitted}
use Rattle.fv_mirror.specs.Making.{CanCopy, source_bits}
use Rattle.fv_aggregate.specs.declared.session.Session.{Session}
use Rattle.fv_aggregate.specs.Commands.{Asked}
use Rattle.fv_aggregate.specs.Damages.{HasBadCopies}
use Rattle.fv_run.specs.Running.{still_disk}

module _ (disk : Shown) (tells : IsTrue disk.tells) where
  -- what can be copied from a disk that shows an image and nothing else can be copied from one that reads it
  can_copy : (states : States) (pool : Pool) (a : Admitted) → CanCopy (still_disk disk.reads) states pool a → CanCopy disk states pool a
  can_copy states pool a can = record {
    tells = source (state_at states a.source.parent) can.tells;
    whole = whole (state_at states a.source.parent) can.whole;
    room = can.room;
  }
    where
      source : (o : Option VolumeState) → IfSome o (λ y. IsSource (still_disk disk.reads) pool a.source.parent (source_bits y a.source.slot)) → IfSome o (λ y. IsSource disk pool a.source.parent (source_bits y a.source.slot))
      source None is = tt
      source (Some y) is = record { tells = (tells, is.tells.1); nodes = is.nodes; blocks = is.blocks }

      whole : (o : Option VolumeState) → IfSome o (λ y. IsWhole (still_disk disk.reads) pool a.source.parent (source_bits y a.source.slot)) → IfSome o (λ y. IsWhole disk pool a.source.parent (source_bits y a.source.slot))
      whole None is = tt
      whole (Some y) is = record {
        leaves = is.leaves;
        each = λ v member. let has = is.each v member in record { entry = has.entry; there = has.there; shape = has.shape };
      }

  -- so what can't be copied from it can't be copied from that image
  pub bad_copies : (asked : Asked) (old session : Session) → HasBadCopies asked old disk session → HasBadCopies asked old (still_disk disk.reads) session
  bad_copies asked old session bad = record {
    fresh = bad.fresh;
    name = bad.name;
    size = bad.size;
    kind = bad.kind;
    admitted = bad.admitted;
    asks = bad.asks;
    admits = bad.admits;
    still = bad.still;
    not = λ can. bad.not (can_copy session.volumes session.pool bad.admitted can);
  }
