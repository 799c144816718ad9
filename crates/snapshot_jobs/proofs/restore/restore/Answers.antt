use Rattle.std.proofs.Common.{◌≡◌, ◌+◌, ◌≤◌, ◌^◌, Some, false, sym, ap, subst, ◌∙◌, arith, take}
use Rattle.std.proofs.lemmas.Result.{err_from_is_err_and}
use Rattle.recording_lines.specs.Lines.{most_bytes}
use Rattle.recording_lines.specs.Reading.{budget, to_come, TakesUnread}
use Rattle.recording_lines.proofs.ReadingLemmas.{to_come-empty, budget-empty, TakesUnread-nil, TakesUnread-trans}
use Rattle.room_link.specs.Held.{Extends}
use Rattle.replay_job.specs.Endings.{rest_of, Leaves}
use Rattle.replay_job.specs.Replies.{Reads}
use Rattle.replay_job.specs.Taking.{Progress}
use Rattle.replay_job.specs.Texts.{fault_line}
use Rattle.replay_job.proofs.GoingLemmas.{front_taken}
use Rattle.room_snapshot.specs.declared.snapshot.TheConstants as snapshot
use Rattle.snapshot_jobs.specs.Beginning.{BeginsSaved, IfGoing}
use Rattle.snapshot_jobs.specs.declared.restore.Begun.TheVariants.{Refused, Going}
use Rattle.snapshot_jobs.proofs.RestoreLemmas.{restores_nothing, restores_refused, restores_refused_front, restores_on}
use Rattle.snapshot_jobs.proofs.restore.restore.Goals as goal

pub returns-in_err-reader-clause-leaves : goal.returns-in_err-reader-clause-leaves
returns-in_err-reader-clause-leaves g c =
    let p = err_from_is_err_and c.from_residual.result c.from_residual.ensures.1 in
    rw p.1 (restores_nothing (g.S.Source.left c.args.source.now) (g.K.Sink.held c.args.sink.now))

pub returns-in_err-reader-clause-reads : goal.returns-in_err-reader-clause-reads
returns-in_err-reader-clause-reads g c =
    let left = g.S.Source.left c.args.source.now in
    front_taken most_bytes most_bytes left left (TakesUnread-nil most_bytes left)

pub begin-requires-clause-number : goal.begin-requires-clause-number
begin-requires-clause-number g c =
    let reader = c.in_ok-reader.reader in
    let whole : budget reader ≡ most_bytes = budget-empty reader c.in_ok-reader.ensures.empty ∙ c.in_ok-reader.ensures.unread in
    omega (arith, whole)

pub returns-in_err-begun-clause-leaves : goal.returns-in_err-begun-clause-leaves
returns-in_err-begun-clause-leaves g c =
    let p = err_from_is_err_and c.from_residual-in_err-begun.result c.from_residual-in_err-begun.ensures.1 in
    rw p.1 (restores_nothing (g.S.Source.left c.args.source.now) (g.K.Sink.held c.args.sink.now))

pub returns-in_err-begun-clause-reads : goal.returns-in_err-begun-clause-reads
returns-in_err-begun-clause-reads g c =
    let left = g.S.Source.left in
    let unread = c.begin.new.reader.unread in
    front_taken most_bytes unread (left c.args.source.now) (left c.begin.new.source)
    (subst (λ n. TakesUnread n unread (left c.args.source.now) (left c.begin.new.source)) c.in_ok-reader.ensures.unread c.in_err-begun.ensures.taken)

pub returns-in_err-text-in-Refused-clause-leaves : goal.returns-in_err-text-in-Refused-clause-leaves
returns-in_err-text-in-Refused-clause-leaves g c =
    let p = err_from_is_err_and c.from_residual-in_err-text-in-Refused.result c.from_residual-in_err-text-in-Refused.ensures.1 in
    rw p.1 (restores_nothing (g.S.Source.left c.args.source.now) (g.K.Sink.held c.args.sink.now))

pub returns-in_err-text-in-Refused-clause-reads : goal.returns-in_err-text-in-Refused-clause-reads
returns-in_err-text-in-Refused-clause-reads g c =
    let left = g.S.Source.left in
    let unread = c.begin.new.reader.unread in
    front_taken most_bytes unread (left c.args.source.now) (left c.begin.new.source)
    (subst (λ n. TakesUnread n unread (left c.args.source.now) (left c.begin.new.source)) c.in_ok-reader.ensures.unread c.in_ok-begun.ensures.taken)

pub returns-in_err-write_all-in-Refused-clause-leaves : goal.returns-in_err-write_all-in-Refused-clause-leaves
returns-in_err-write_all-in-Refused-clause-leaves g c =
    let p = err_from_is_err_and c.from_residual-in_err-write_all-in-Refused.result c.from_residual-in_err-write_all-in-Refused.ensures.1 in
    let left = g.S.Source.left c.args.source.now in
    let old = g.K.Sink.held c.args.sink.now in
    let new = g.K.Sink.held c.write_all.new.sink in
    let reader = c.in_ok-reader.reader in
    let after = budget c.begin.new.reader in
    let come = to_come c.begin.new.reader (g.S.Source.left c.begin.new.source) in
    let at = c.in-Refused.at in
    let fault = c.in-Refused.fault in
    let whole : budget reader ≡ most_bytes = budget-empty reader c.in_ok-reader.ensures.empty ∙ c.in_ok-reader.ensures.unread in
    let all : to_come reader left ≡ left = to_come-empty reader left c.in_ok-reader.ensures.empty in
    let begun : BeginsSaved snapshot.LONGEST_LINE most_bytes left after come (Refused at fault) =
    subst (λ b. BeginsSaved snapshot.LONGEST_LINE most_bytes left after come b) c.in-Refused.is
    (subst (λ old. BeginsSaved snapshot.LONGEST_LINE most_bytes old after come c.in_ok-begun.begun) all
    (subst (λ most. BeginsSaved snapshot.LONGEST_LINE most (to_come reader left) after come c.in_ok-begun.begun) whole
    (subst (λ l. BeginsSaved l (budget reader) (to_come reader left) after come c.in_ok-begun.begun) c.in_ok-reader.ensures.longest c.in_ok-begun.ensures.begins))) in
    let took = c.in_err-write_all-in-Refused.ensures.front in
    let some : Extends old new (take took.0 (fault_line at fault)) = subst (λ t. Extends old new (take took.0 t)) (c.deref.ensures.value ∙ c.in_ok-text-in-Refused.ensures) took.1 in
    rw p.1 (restores_refused_front after come left took.0 at fault old new begun some)

pub returns-in_err-write_all-in-Refused-clause-reads : goal.returns-in_err-write_all-in-Refused-clause-reads
returns-in_err-write_all-in-Refused-clause-reads g c =
    let left = g.S.Source.left in
    let unread = c.begin.new.reader.unread in
    front_taken most_bytes unread (left c.args.source.now) (left c.begin.new.source)
    (subst (λ n. TakesUnread n unread (left c.args.source.now) (left c.begin.new.source)) c.in_ok-reader.ensures.unread c.in_ok-begun.ensures.taken)

pub returns-in-Refused-clause-leaves : goal.returns-in-Refused-clause-leaves
returns-in-Refused-clause-leaves g c =
    let left = g.S.Source.left c.args.source.now in
    let old = g.K.Sink.held c.args.sink.now in
    let new = g.K.Sink.held c.write_all.new.sink in
    let reader = c.in_ok-reader.reader in
    let after = budget c.begin.new.reader in
    let come = to_come c.begin.new.reader (g.S.Source.left c.begin.new.source) in
    let at = c.in-Refused.at in
    let fault = c.in-Refused.fault in
    let whole : budget reader ≡ most_bytes = budget-empty reader c.in_ok-reader.ensures.empty ∙ c.in_ok-reader.ensures.unread in
    let all : to_come reader left ≡ left = to_come-empty reader left c.in_ok-reader.ensures.empty in
    let begun : BeginsSaved snapshot.LONGEST_LINE most_bytes left after come (Refused at fault) =
    subst (λ b. BeginsSaved snapshot.LONGEST_LINE most_bytes left after come b) c.in-Refused.is
    (subst (λ old. BeginsSaved snapshot.LONGEST_LINE most_bytes old after come c.in_ok-begun.begun) all
    (subst (λ most. BeginsSaved snapshot.LONGEST_LINE most (to_come reader left) after come c.in_ok-begun.begun) whole
    (subst (λ l. BeginsSaved l (budget reader) (to_come reader left) after come c.in_ok-begun.begun) c.in_ok-reader.ensures.longest c.in_ok-begun.ensures.begins))) in
    let written : Extends old new (fault_line at fault) = subst (Extends old new) (c.deref.ensures.value ∙ c.in_ok-text-in-Refused.ensures) c.in_ok-write_all-in-Refused.ensures.held in
    restores_refused after come left at fault old new begun written

pub returns-in-Refused-clause-reads : goal.returns-in-Refused-clause-reads
returns-in-Refused-clause-reads g c =
    let left = g.S.Source.left in
    let unread = c.begin.new.reader.unread in
    front_taken most_bytes unread (left c.args.source.now) (left c.begin.new.source)
    (subst (λ n. TakesUnread n unread (left c.args.source.now) (left c.begin.new.source)) c.in_ok-reader.ensures.unread c.in_ok-begun.ensures.taken)

pub go_on-requires-clause-wide : goal.go_on-requires-clause-wide
go_on-requires-clause-wide g c = omega (arith, c.in_ok-reader.ensures.longest, c.in_ok-begun.ensures.longest)

pub go_on-requires-clause-number : goal.go_on-requires-clause-number
go_on-requires-clause-number g c = subst (λ b. IfGoing b (λ n. n + budget c.begin.new.reader ≤ 2 ^ 40)) c.in-Going.is c.in_ok-begun.ensures.number

pub returns-clause-leaves : goal.returns-clause-leaves
returns-clause-leaves g c =
    let left = g.S.Source.left c.args.source.now in
    let old = g.K.Sink.held c.args.sink.now in
    let new = g.K.Sink.held c.go_on.new.sink in
    let reader = c.in_ok-reader.reader in
    let after = budget c.begin.new.reader in
    let come = to_come c.begin.new.reader (g.S.Source.left c.begin.new.source) in
    let at = c.in-Going.at in
    let world = c.in-Going.world in
    let next = c.go_on.new.replay.world in
    let whole : budget reader ≡ most_bytes = budget-empty reader c.in_ok-reader.ensures.empty ∙ c.in_ok-reader.ensures.unread in
    let all : to_come reader left ≡ left = to_come-empty reader left c.in_ok-reader.ensures.empty in
    let begun : BeginsSaved snapshot.LONGEST_LINE most_bytes left after come (Going at world) =
    subst (λ b. BeginsSaved snapshot.LONGEST_LINE most_bytes left after come b) c.in-Going.is
    (subst (λ old. BeginsSaved snapshot.LONGEST_LINE most_bytes old after come c.in_ok-begun.begun) all
    (subst (λ most. BeginsSaved snapshot.LONGEST_LINE most (to_come reader left) after come c.in_ok-begun.begun) whole
    (subst (λ l. BeginsSaved l (budget reader) (to_come reader left) after come c.in_ok-begun.begun) c.in_ok-reader.ensures.longest c.in_ok-begun.ensures.begins))) in
    let long : c.begin.new.reader.longest ≡ snapshot.LONGEST_LINE = c.in_ok-begun.ensures.longest ∙ c.in_ok-reader.ensures.longest in
    let leaves : (progress : Progress) → Reads progress (Some world) → Leaves false (rest_of progress at snapshot.LONGEST_LINE after come) c.go_on.result next old new =
    λ progress reads. subst (λ l. Leaves false (rest_of progress at l after come) c.go_on.result next old new) long
    (subst (λ t. Leaves t (rest_of progress at c.begin.new.reader.longest after come) c.go_on.result next old new) (ap (λ r. r.trace) c.over-replay.ensures)
    (c.go_on.ensures.leaves progress (subst (Reads progress) (sym (ap (λ r. r.world) c.over-replay.ensures)) reads))) in
    restores_on after come left at world next c.go_on.result old new begun leaves

pub returns-clause-reads : goal.returns-clause-reads
returns-clause-reads g c =
    let left = g.S.Source.left in
    let middle = c.begin.new.reader.unread in
    let unread = c.go_on.new.reader.unread in
    let first = subst (λ n. TakesUnread n middle (left c.args.source.now) (left c.begin.new.source)) c.in_ok-reader.ensures.unread c.in_ok-begun.ensures.taken in
    front_taken most_bytes unread (left c.args.source.now) (left c.go_on.new.source)
    (TakesUnread-trans most_bytes middle unread (left c.args.source.now) (left c.begin.new.source) (left c.go_on.new.source) first c.go_on.ensures.taken)
