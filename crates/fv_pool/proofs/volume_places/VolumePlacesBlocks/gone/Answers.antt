use Rattle.std.proofs.Common.{◌≡◌, inl, refl, ap, arith}
use Rattle.fv_volmap.specs.Slots.{Volume}
use Rattle.fv_pool.proofs.Going.{goes_dropped}
use Rattle.fv_pool.proofs.PlaceShown.{gone_shown, trusting_drops}
use Rattle.fv_pool.proofs.volume_places.VolumePlacesBlocks.gone.Goals as goal

pub invariant_of-self-clause-few : goal.invariant_of-self-clause-few
invariant_of-self-clause-few g c = let span : c.drop_number.new.map.span ≡ c.args.self.now.map.now.span = ap (λ (m : Volume). m.span) c.drop_number.ensures.released in omega (arith, span, c.args.self.now.few)

pub invariant_of-self-clause-entries : goal.invariant_of-self-clause-entries
invariant_of-self-clause-entries g c = let span : c.drop_number.new.map.span ≡ c.args.self.now.map.now.span = ap (λ (m : Volume). m.span) c.drop_number.ensures.released in omega (arith, span, c.args.self.now.entries)

pub returns-clause-drops : goal.returns-clause-drops
returns-clause-drops g c = let self = c.args.self.now in trusting_drops _ _ c.args.vvbn (gone_shown self.pool.now self.map.now c.drop_number.new.map (g.D.Disk.shown self.disk.now) 0 self.home self.room self.strays c.drop_number.new.strays self.noted c.args.vvbn c.drop_number.ensures.valid c.drop_number.ensures.released c.drop_number.ensures.named c.drop_number.ensures.stray)

pub returns-clause-calls : goal.returns-clause-calls
returns-clause-calls g c =
    let self = c.args.self.now in (
      refl,
      refl,
      refl,
      record {
        goes = goes_dropped self.pool.now self.map.now c.drop_number.new.map (g.D.Disk.shown self.disk.now) 0 self.home self.room self.strays c.drop_number.new.strays self.noted c.args.vvbn c.drop_number.ensures.valid c.drop_number.ensures.released;
        noted = inl refl;
      },
    )
