use Rattle.std.proofs.Common.{◌≡◌, false, cond, Some, None, refl, sym, ap, ◌∙◌}
use Rattle.room_model.specs.Rooms.{is_full, after_enter}
use Rattle.sync_room.specs.Standing.{tree_of}
use Rattle.sync_room.proofs.RoomLemmas.{entered_near, entered_owned}
use Rattle.sync_room.proofs.room.Room.enter.Goals as goal

pub returns-clause-entered : goal.returns-clause-entered
returns-clause-entered c = λ state h.
    let full : is_full state ≡ false = sym (c.is_full.ensures.full state h.agrees.sessions) ∙ c.if-is_full.false in (
      ap (λ b. cond b None (Some (after_enter c.args.readonly state))) full,
      record {
        agrees = record {
          last = h.agrees.last;
          history = h.agrees.history;
          sessions = c.in_ok-id.ensures.ok state h.agrees.sessions c.in_ok-removal.ensures;
          says = h.agrees.says;
        };
        near = entered_near (tree_of c.args.self.now) state c.args.readonly h.near;
        presences = entered_owned (tree_of c.args.self.now) state c.args.readonly h.presences;
      },
    )
