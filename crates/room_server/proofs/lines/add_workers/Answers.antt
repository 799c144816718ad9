use Rattle.std.proofs.Common.{◌<◌, ◌++◌, ◌∷◌, [], take, length, sym, ap, ◌∙◌, rules, append_assoc, append-nil}
use Rattle.std.proofs.lemmas.List.Concat.{flat_map-append}
use Rattle.room_server.specs.Lines.{numbered, worker_line}
use Rattle.room_server.proofs.WritingLemmas.{numbered_next, texts}
use Rattle.room_server.proofs.lines.add_workers.Goals as goal

pub tallies-preserved : goal.tallies-preserved
tallies-preserved c =
    let i = c.tallies.worker in
    let xs = c.args.tallies.now in
    let x = c.index-tallies-worker.result in
    let line = c.in_ok-worker_line.field-0 in
    let before = texts c.args.lines.now.items in
    let within : i < length xs = search rules in
    ap texts c.in_ok-push.ensures.items ∙ flat_map-append (λ l. l.items) c.tallies.lines.items (line ∷ []) ∙ ap (λ t. texts c.tallies.lines.items ++ t) (append-nil line.items ∙ c.in_ok-worker_line.ensures)
    ∙ ap (λ t. t ++ worker_line i x) c.tallies.invariant ∙ append_assoc before (numbered worker_line 0 (take i xs)) (worker_line i x)
    ∙ ap (λ t. before ++ t) (sym (numbered_next worker_line xs i x within c.index-tallies-worker.is))
