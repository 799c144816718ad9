use Rattle.websocket.specs.declared.protocol.config.Role.TheVariants.{Client}
use Rattle.socket_link.proofs.side.ClientSideSide.shake_hands.Goals as goal

pub returns-in-Ok-start : goal.returns-in-Ok-start
returns-in-Ok-start g c =
    let made = c.in_ok-socket-in-Ok-start.ensures
    in c.with_limits.ensures Client (made.0.0, made.1.0)
