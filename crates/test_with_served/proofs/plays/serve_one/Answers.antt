use Rattle.std.proofs.lemmas.Option.{IfSome_then}
use Rattle.test_with_served.proofs.ServingLemmas.{was_in_one}
use Rattle.test_with_served.proofs.plays.serve_one.Goals as goal

pub returns : goal.returns
returns g c =
    record {
      own = IfSome_then c.serve_link.result.gone c.serve_link.ensures.report.own (λ gone was. was_in_one _ c.args.room.now _ gone c.from_ref.ensures.value was);
    }
