use Rattle.std.proofs.Common.{◌≡◌, Some, map, subst, ap, ◌∙◌, [], arith, rules}
use Rattle.room_link.specs.MemoryLink.{arrival_of, exchange_of}
use Rattle.join_job.specs.Endings.{ended_by}
use Rattle.join_job.specs.Playing.{PlaysIn}
use Rattle.join_job.specs.Working.{ended_link}
use Rattle.join_job.proofs.worker.join_ended.Goals as goal

pub returns-clause-played : goal.returns-clause-played
returns-clause-played g c = λ schemas tables.
    let held = g.W.Sink.held in
    let none : c.new.result.items ≡ [] = search rules in
    let first : exchange_of c.new-link.result ≡ ended_link = c.new-link.ensures ∙ ap (λ items. record { left = map arrival_of items; sent = [] }) none in (
      exchange_of c.join_link.new.link,
      subst (λ x. PlaysIn schemas c.args.room (g.S.Source.left c.args.source.now) (ended_by c.join_link.result) (held c.args.sink.now) (held c.join_link.new.sink) (Some x) (Some (exchange_of c.join_link.new.link))) first (c.join_link.ensures.played schemas tables),
      λ is. absurd (omega (arith, c.join_link.ensures.link_failed is)),
    )
