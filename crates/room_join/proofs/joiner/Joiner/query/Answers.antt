use Rattle.room_join.specs.declared.join_line.JoinLine.{JoinLine}
use Rattle.std.proofs.Common.{List, ℕ, [], ◌∷◌, refl, ap, ◌∙◌}
use Rattle.rec_format.specs.declared.printed.PrintedLine.TheVariants as printed
use Rattle.shape_tree.specs.Queries.{ids_meeting}
use Rattle.sync_peer.specs.Calls.{shown}
use Rattle.room_join.specs.declared.join_line.JoinLine.TheVariants as line
use Rattle.room_join.proofs.joiner.Joiner.query.Goals as goal

pub returns : goal.returns
returns c = λ schemas joiner stands.
    let found = c.in_ok-query.ensures schemas joiner.state stands.peer in
    let one : List (List ℕ) → JoinLine = λ ids. line.Printed (printed.Ids 0 ids) in
    let there = ap (λ (type : List ℕ). ids_meeting (shown schemas joiner.state) type c.args.query.now) c.as_str.ensures.bytes in (
      record { joiner = joiner; lines = one (ids_meeting (shown schemas joiner.state) c.args.type_name.now c.args.query.now) ∷ [] },
      refl,
      c.in_ok-one_line.ensures ∙ ap (λ ids. one ids ∷ []) (c.of-ids.ensures ∙ found ∙ there),
      stands,
    )
