use Rattle.std.proofs.Common.{refl, sym, subst}
use Rattle.sync_world.specs.declared.live.Live.{Live}
use Rattle.sync_world.proofs.BeginLemmas.{is_at_version, begins}
use Rattle.sync_world.proofs.world.World.over.Goals as goal

pub returns-clause-stands : goal.returns-clause-stands
returns-clause-stands c version state known at stands beginning =
    let live : Live = record { room = c.args.room; queues = c.new.result; clients = c.new-2.result } in (
      is_at_version version known live at,
      record {
        going = refl;
        keeps = begins version known live at state beginning stands c.new-2.ensures.items c.new.ensures.sent c.new.ensures.given;
        sound = λ number client there. absurd (cc);
      },
    )
