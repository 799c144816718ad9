use Rattle.socket_link.proofs.ShakenLemmas.{limited_shaken}
use Rattle.socket_link.proofs.side.with_limits.Goals as goal

pub returns : goal.returns
returns g c role greeted =
    limited_shaken role c.args.socket c.set_config.new.self c.limits.result greeted c.set_config.ensures.same
    c.set_config.ensures.limits c.limits.ensures
