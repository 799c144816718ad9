-- A socket whose limits are stated again.
use Rattle.std.proofs.Common.{◌≡◌, [], ap, ◌∙◌}
use Rattle.tungstenite.specs.Config.{HasLimits}
use Rattle.tungstenite.specs.Socket.{Socket, IsFresh}
use Rattle.tungstenite.specs.declared.protocol.WebSocketConfig.{WebSocketConfig}
use Rattle.websocket.specs.declared.protocol.config.Role.{Role}
use Rattle.websocket.specs.declared.protocol.config.Role.TheVariants.{Client, Server}
use Rattle.socket_link.specs.Wires.{AreLimits, Greeted, Shaken}

module _ {S : Type 0} where
  -- a socket of which only the limits changed still has done nothing
  pub still_fresh : (old new : Socket S) (stream : S) (role : Role) → IsFresh old stream role
      → new ≡ record old { conn = record old.conn { config = new.conn.config } } → IsFresh new stream role
  still_fresh old new stream role fresh same = record {
    on_stream = ap (λ s. s.stream) same ∙ fresh.on_stream;
    nothing_read = ap (λ s. s.input) same ∙ fresh.nothing_read;
    nothing_waits = ap (λ s. s.output) same ∙ fresh.nothing_waits;
    has_role = ap (λ s. s.conn.role) same ∙ fresh.has_role;
    is_active = ap (λ s. s.conn.state) same ∙ fresh.is_active;
    no_fragments = ap (λ s. s.conn.fragments) same ∙ fresh.no_fragments;
  }

  -- and still is one that a handshake of its side gave
  pub still_greeted : (role : Role) (old new : Socket S) → Greeted role old
      → new ≡ record old { conn = record old.conn { config = new.conn.config } } → Greeted role new
  still_greeted Server old new (heard, (stream, fresh)) same =
      (heard, (stream, still_fresh old new stream Server fresh same))
  still_greeted Client old new (key, (heard, (stream, fresh))) same =
      let cleared : record new { input = [] } ≡ record old { input = []; conn = record old.conn { config = new.conn.config } } =
      ap {A = Socket S} (λ s. record s { input = [] }) same
      in (key, (heard, (stream, still_fresh (record old { input = [] }) (record new { input = [] }) stream Client fresh cleared)))

  -- with these limits it is one with the limits of a link
  pub limited_shaken : (role : Role) (old new : Socket S) (config : WebSocketConfig) → Greeted role old
      → new ≡ record old { conn = record old.conn { config = new.conn.config } }
      → HasLimits new.conn.config config → AreLimits config → Shaken role new
  limited_shaken role old new config greeted same (message, frame, unmasked) (message_limit, frame_limit) =
      (still_greeted role old new greeted same, message ∙ message_limit, frame ∙ frame_limit)
