use Rattle.std.proofs.Common.{◌≡◌, false, Some, None, slice_set, get_or-set_other, refl, ap, ◌∙◌, inl, arith}
use Rattle.fv_volmap.specs.Slots.{Volume, active_of, slot_at}
use Rattle.fv_pool.specs.DroppingLaws.{drops_itself}
use Rattle.fv_pool.specs.Lending.{lent_by}
use Rattle.fv_pool.proofs.PlaceShown.{gone_shown}
use Rattle.fv_pool.proofs.Shows.{had_gone, numbers_gone}
use Rattle.fv_pool.proofs.volume_drops.VolumeDropsBlocks.gone.Goals as goal

pub invariant_of-self-clause-few : goal.invariant_of-self-clause-few
invariant_of-self-clause-few g c = let span : c.drop_number.new.map.span ≡ c.args.self.now.map.now.span = ap (λ (m : Volume). m.span) c.drop_number.ensures.released in omega (arith, span, c.args.self.now.few)

pub invariant_of-self-clause-entries : goal.invariant_of-self-clause-entries
invariant_of-self-clause-entries g c = let span : c.drop_number.new.map.span ≡ c.args.self.now.map.now.span = ap (λ (m : Volume). m.span) c.drop_number.ensures.released in omega (arith, span, c.args.self.now.entries)

pub returns-clause-drops : goal.returns-clause-drops
returns-clause-drops g c = let self = c.args.self.now in gone_shown self.pool.now self.map.now c.drop_number.new.map (g.D.Disk.shown self.disk.now) self.steps.now self.home 0 self.strays c.drop_number.new.strays self.noted c.args.vvbn c.drop_number.ensures.valid c.drop_number.ensures.released c.drop_number.ensures.named c.drop_number.ensures.stray

pub returns-clause-calls : goal.returns-clause-calls
returns-clause-calls g c =
    let self = c.args.self.now in
    let map = self.map.now in
    let old = lent_by self.pool.now map (g.D.Disk.shown self.disk.now) self.steps.now self.home 0 self.strays self.noted in (
      refl,
      refl,
      refl,
      refl,
      record {
        home = refl;
        space = refl;
        containers = refl;
        kept = refl;
        found = refl;
        version = refl;
        room = refl;
        steps = omega arith;
        only_reads = (drops_itself old).only_reads;
        noted = inl refl;
        span = ap (λ (m : Volume). m.span) c.drop_number.ensures.released;
        snapshots = λ s other. ap (λ (m : Volume). slot_at m s) c.drop_number.ensures.released ∙ get_or-set_other map.slots 0 s (Some (slice_set (active_of map) c.args.vvbn false)) None other;
        numbers = numbers_gone map c.drop_number.new.map c.args.vvbn c.drop_number.ensures.valid c.drop_number.ensures.released;
        active = had_gone map c.drop_number.new.map c.args.vvbn c.drop_number.ensures.valid c.drop_number.ensures.released;
      },
    )
