use Rattle.std.proofs.Common.{◌<◌, ◌++◌, ◌∷◌, [], take, length, sym, ap, ◌∙◌, rules, append_assoc, append-nil}
use Rattle.std.proofs.lemmas.List.Concat.{flat_map-append}
use Rattle.room_server.specs.Lines.{numbered, room_line}
use Rattle.room_server.proofs.WritingLemmas.{numbered_next, texts}
use Rattle.room_server.proofs.lines.add_rooms.Goals as goal

pub rooms-preserved : goal.rooms-preserved
rooms-preserved c =
    let i = c.rooms.room in
    let xs = c.args.closed.now in
    let x = c.index-closed-room.result in
    let line = c.in_ok-room_line.field-0 in
    let before = texts c.args.lines.now.items in
    let within : i < length xs = search rules in
    ap texts c.in_ok-push.ensures.items ∙ flat_map-append (λ l. l.items) c.rooms.lines.items (line ∷ []) ∙ ap (λ t. texts c.rooms.lines.items ++ t) (append-nil line.items ∙ c.in_ok-room_line.ensures)
    ∙ ap (λ t. t ++ room_line i x) c.rooms.invariant ∙ append_assoc before (numbered room_line 0 (take i xs)) (room_line i x)
    ∙ ap (λ t. before ++ t) (sym (numbered_next room_line xs i x within c.index-closed-room.is))
