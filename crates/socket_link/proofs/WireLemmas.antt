-- What an opened wire's socket does, the wire does.
use Rattle.std.proofs.Common.{ℕ, List, Option, Result, Ok, Err, Some, subst}
use Rattle.sync_msgs.specs.declared.end_reason.EndReason.{EndReason}
use Rattle.tungstenite.specs.Socket.{Socket, Writes}
use Rattle.websocket.specs.Connection.{write_step, close_step}
use Rattle.websocket.specs.Content.{text}
use Rattle.websocket.specs.declared.protocol.config.Role.{Role}
use Rattle.websocket.specs.declared.protocol.frame.coding.CloseCode.TheVariants.{Library}
use Rattle.socket_link.specs.Reasons.{reason_text}
use Rattle.socket_link.specs.Sockets.{IfText, ReadsText}
use Rattle.socket_link.specs.Wires.{Opened, Does, WireReads, WireSends, WireCloses}
use Rattle.socket_link.specs.declared.bounds.TheConstants.{CLOSE_CODE}
use Rattle.socket_link.specs.declared.exchange.Broken.{Broken}
use Rattle.socket_link.specs.declared.exchange.Came.{Came}
use Rattle.socket_link.specs.declared.exchange.Came.TheVariants as came
use Rattle.socket_link.specs.declared.heard.Heard.{Heard}
use Rattle.socket_link.specs.declared.wire.Wire.{Wire}
use Rattle.socket_link.specs.declared.wire.Wire.TheVariants.{Fresh, Open, Over}

module _ {S K : Type 0} where
  pub opened_does : (role : Role) (did : Socket (Heard S) → Socket (Heard S) → Type 0) (old : Wire S K) (mid new : Socket (Heard S))
      → Opened role old (Open mid) → did mid new → Does role did old (Open new)
  opened_does role did (Open socket) mid new opened done = subst (λ s. did s new) opened done
  opened_does role did (Fresh stream side) mid new opened done = (mid, opened, done)
  opened_does role did Over mid new opened done = absurd opened

  pub opened_reads : (role : Role) (remaining : Heard S → Option (List ℕ)) (old : Wire S K) (mid new : Socket (Heard S)) (result : Result Came Broken)
      → Opened role old (Open mid) → IfText result (ReadsText remaining mid new) → IfText result (WireReads role remaining old (Open new))
  opened_reads role remaining old mid new (Ok (came.Text bytes)) opened reads =
      opened_does role (λ before after. ReadsText remaining before after bytes.items) old mid new opened reads
  opened_reads role remaining old mid new (Ok came.Sign) opened reads = tt
  opened_reads role remaining old mid new (Ok came.Wait) opened reads = tt
  opened_reads role remaining old mid new (Ok came.End) opened reads = tt
  opened_reads role remaining old mid new (Err broken) opened reads = tt

  pub opened_sends : (role : Role) (contents : Heard S → Option (List ℕ)) (old : Wire S K) (mid new : Socket (Heard S)) (words : List ℕ)
      → Opened role old (Open mid) → Writes contents mid new (write_step mid.conn (text words)) → WireSends role contents old (Open new) words
  opened_sends role contents old mid new words opened done =
      opened_does role (λ before after. Writes contents before after (write_step before.conn (text words))) old mid new opened done

  pub opened_closes : (role : Role) (contents : Heard S → Option (List ℕ)) (old : Wire S K) (mid new : Socket (Heard S)) (reason : EndReason)
      → Opened role old (Open mid)
      → Writes contents mid new (close_step mid.conn (Some (Library CLOSE_CODE, reason_text reason)))
      → WireCloses role contents old (Open new) reason
  opened_closes role contents old mid new reason opened done =
      opened_does role (λ before after. Writes contents before after (close_step before.conn (Some (Library CLOSE_CODE, reason_text reason)))) old mid new opened done
