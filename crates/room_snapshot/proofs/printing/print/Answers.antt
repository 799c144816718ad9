use Rattle.std.proofs.Common.{◌≡◌, ◌≤◌, Ok, IsTrue, refl, ap, subst}
use Rattle.rooms_val.specs.Data.{depth, map, members_of}
use Rattle.rooms_val.specs.Json.{json_of, is_within, deepest, value_of}
use Rattle.room_snapshot.specs.Lines.{line_val}
use Rattle.room_snapshot.specs.Saved.{saved_tree}
use Rattle.room_snapshot.proofs.LineLemmas.{is_line}
use Rattle.room_snapshot.proofs.printing.print.Goals as goal

pub returns-clause-reads_back : goal.returns-clause-reads_back
returns-clause-reads_back c = λ rising readable short.
    let saved = saved_tree c.args.saved.now in
    let held = c.args.schema.now in
    let text = c.in_ok-text.text.items in
    let is = ap (λ fs. map (members_of fs)) c.in_ok-fields.ensures in
    is_line text (line_val saved held) saved held short
    (subst (λ d. IsTrue (is_within (json_of d)) → depth d ≤ deepest → value_of text ≡ Ok d) is c.in_ok-text.ensures.reads_back readable.0 readable.1) refl rising
