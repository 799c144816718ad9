use Rattle.websocket.specs.declared.protocol.config.Role.TheVariants.{Server}
use Rattle.socket_link.proofs.side.NoMaskSide.shake_hands.Goals as goal

pub returns : goal.returns
returns g c = c.with_limits.ensures Server c.in_ok-socket.ensures.1.0
