use Rattle.std.proofs.Common.{◌≡◌, ◌∷◌, [], IfOk, ap, subst, ◌∙◌}
use Rattle.std.specs.Global.{Vec}
use Rattle.room_model.specs.Worlds.{out_line}
use Rattle.room_model.specs.declared.line.OutLine.{OutLine}
use Rattle.sync_world.proofs.sessions.sent_line.Goals as goal

pub returns : goal.returns
returns c =
    let line = c.out_line-line.ensures ∙ ap (out_line c.args.session) c.in_ok-copy.ensures in
    subst (λ (l : OutLine). IfOk c.one_line.result (λ (lines : Vec OutLine). lines.items ≡ l ∷ [])) line c.one_line.ensures
