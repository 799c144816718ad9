use Rattle.std.proofs.Common.{refl, arith}
use Rattle.make_job.proofs.MadeLemmas.{none_large}
use Rattle.make_job.proofs.making.Making.new.Goals as goal

pub returns-clause-stands : goal.returns-clause-stands
returns-clause-stands c =
    let made = c.in_ok-world.ensures.stands in
    (made.0, made.1, λ print old new added. record { world = made.2; sessions = refl; last = refl; taken = refl; refused = refl; written = added })

pub returns-clause-place : goal.returns-clause-place
returns-clause-place c = record { taken = omega arith; refused = omega arith; sessions = omega arith; last = none_large }
