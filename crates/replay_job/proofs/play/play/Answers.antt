use Rattle.std.proofs.Common.{◌≡◌, None, sym, subst, ◌∙◌, arith}
use Rattle.std.proofs.lemmas.Result.{err_from_is_err_and}
use Rattle.recording_lines.specs.Lines.{longest_line, most_bytes}
use Rattle.recording_lines.specs.Reading.{budget, to_come, TakesUnread}
use Rattle.recording_lines.proofs.ReadingLemmas.{to_come-empty, budget-empty, TakesUnread-nil}
use Rattle.replay_job.specs.Endings.{rest_of, Leaves, WritesRestFront}
use Rattle.replay_job.specs.Replies.{Reads}
use Rattle.replay_job.proofs.GoingLemmas.{all_left, going_nowhere, stops_here, front_taken}
use Rattle.replay_job.proofs.play.play.Goals as goal

pub returns-in_err-reader-clause-leaves : goal.returns-in_err-reader-clause-leaves
returns-in_err-reader-clause-leaves g c =
    let p = err_from_is_err_and c.from_residual.result c.from_residual.ensures.1 in
    let left = g.S.Source.left c.args.source.now in
    let held = g.K.Sink.held c.args.sink.now in
    let trace = c.args.replay.now.trace in
    rw p.1 (subst (λ r. WritesRestFront trace r held held) (all_left left) (stops_here trace (rest_of None 1 longest_line most_bytes left) None longest_line 1 most_bytes left held held
    (going_nowhere trace None longest_line 1 most_bytes left None held tt)))

pub returns-in_err-reader-clause-reads : goal.returns-in_err-reader-clause-reads
returns-in_err-reader-clause-reads g c =
    let left = g.S.Source.left c.args.source.now in
    front_taken most_bytes most_bytes left left (TakesUnread-nil most_bytes left)

pub go_on-requires-clause-wide : goal.go_on-requires-clause-wide
go_on-requires-clause-wide g c = omega (arith, c.in_ok-reader.ensures.longest)

pub go_on-requires-clause-number : goal.go_on-requires-clause-number
go_on-requires-clause-number g c =
    let reader = c.in_ok-reader.reader in
    let whole : budget reader ≡ most_bytes = budget-empty reader c.in_ok-reader.ensures.empty ∙ c.in_ok-reader.ensures.unread in
    omega (arith, whole)

pub returns-clause-leaves : goal.returns-clause-leaves
returns-clause-leaves g c =
    let trace = c.args.replay.now.trace in
    let left = g.S.Source.left c.args.source.now in
    let old = g.K.Sink.held c.args.sink.now in
    let new = g.K.Sink.held c.go_on.new.sink in
    let world = c.go_on.new.replay.world in
    let reader = c.in_ok-reader.reader in
    let whole : budget reader ≡ most_bytes = budget-empty reader c.in_ok-reader.ensures.empty ∙ c.in_ok-reader.ensures.unread in
    let all : to_come reader left ≡ left = to_come-empty reader left c.in_ok-reader.ensures.empty in
    let leaves = c.go_on.ensures.leaves None (subst (Reads None) (sym c.requires) tt) in
    subst (λ r. Leaves trace r c.go_on.result world old new) (all_left left)
    (subst (λ come. Leaves trace (rest_of None 1 longest_line most_bytes come) c.go_on.result world old new) all
    (subst (λ most. Leaves trace (rest_of None 1 longest_line most (to_come reader left)) c.go_on.result world old new) whole
    (subst (λ l. Leaves trace (rest_of None 1 l (budget reader) (to_come reader left)) c.go_on.result world old new) c.in_ok-reader.ensures.longest leaves)))

pub returns-clause-reads : goal.returns-clause-reads
returns-clause-reads g c =
    let left = g.S.Source.left in
    front_taken most_bytes c.go_on.new.reader.unread (left c.args.source.now) (left c.go_on.new.source)
    (subst (λ n. TakesUnread n c.go_on.new.reader.unread (left c.args.source.now) (left c.go_on.new.source)) c.in_ok-reader.ensures.unread c.go_on.ensures.taken)
