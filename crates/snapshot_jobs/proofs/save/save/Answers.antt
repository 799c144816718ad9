use Rattle.std.proofs.Common.{◌≡◌, None, Ok, option_map, sym, ap, subst, ◌∙◌, arith, take}
use Rattle.std.proofs.lemmas.Result.{err_from_is_err_and}
use Rattle.recording_lines.specs.Lines.{longest_line, most_bytes}
use Rattle.recording_lines.specs.Reading.{budget, to_come, TakesUnread}
use Rattle.recording_lines.proofs.ReadingLemmas.{to_come-empty, budget-empty, TakesUnread-nil}
use Rattle.room_link.specs.Held.{Extends}
use Rattle.replay_job.specs.Endings.{rest_of, status_code}
use Rattle.replay_job.specs.Replay.{all_of}
use Rattle.replay_job.specs.Replies.{Reads}
use Rattle.replay_job.proofs.GoingLemmas.{all_left, front_taken}
use Rattle.snapshot_jobs.specs.Ending.{Ends, WritesLast}
use Rattle.snapshot_jobs.specs.Endings.{SavesAll}
use Rattle.snapshot_jobs.specs.declared.save.Last.{Last}
use Rattle.snapshot_jobs.proofs.SaveLemmas.{saves_all, saves_front, saves_nothing}
use Rattle.snapshot_jobs.proofs.save.save.Goals as goal

pub returns-in_err-reader-clause-leaves : goal.returns-in_err-reader-clause-leaves
returns-in_err-reader-clause-leaves g c =
    let p = err_from_is_err_and c.from_residual.result c.from_residual.ensures.1 in
    rw p.1 (saves_nothing (g.S.Source.left c.args.source.now) (g.K.Sink.held c.args.sink.now))

pub returns-in_err-reader-clause-reads : goal.returns-in_err-reader-clause-reads
returns-in_err-reader-clause-reads g c =
    let left = g.S.Source.left c.args.source.now in
    front_taken most_bytes most_bytes left left (TakesUnread-nil most_bytes left)

pub read_to_end-requires-clause-wide : goal.read_to_end-requires-clause-wide
read_to_end-requires-clause-wide g c = omega (arith, c.in_ok-reader.ensures.longest)

pub read_to_end-requires-clause-number : goal.read_to_end-requires-clause-number
read_to_end-requires-clause-number g c =
    let reader = c.in_ok-reader.reader in
    let whole : budget reader ≡ most_bytes = budget-empty reader c.in_ok-reader.ensures.empty ∙ c.in_ok-reader.ensures.unread in
    omega (arith, whole)

pub read_to_end-requires-clause-silent : goal.read_to_end-requires-clause-silent
read_to_end-requires-clause-silent g c = ap (λ r. r.trace) c.new-replay.ensures

pub returns-in_err-last-clause-leaves : goal.returns-in_err-last-clause-leaves
returns-in_err-last-clause-leaves g c =
    let p = err_from_is_err_and c.from_residual-in_err-last.result c.from_residual-in_err-last.ensures.1 in
    rw p.1 (saves_nothing (g.S.Source.left c.args.source.now) (g.K.Sink.held c.args.sink.now))

pub returns-in_err-last-clause-reads : goal.returns-in_err-last-clause-reads
returns-in_err-last-clause-reads g c =
    let left = g.S.Source.left in
    let unread = c.read_to_end.new.reader.unread in
    front_taken most_bytes unread (left c.args.source.now) (left c.read_to_end.new.source)
    (subst (λ n. TakesUnread n unread (left c.args.source.now) (left c.read_to_end.new.source)) c.in_ok-reader.ensures.unread c.in_err-last.ensures.taken)

pub returns-in_err-text-clause-leaves : goal.returns-in_err-text-clause-leaves
returns-in_err-text-clause-leaves g c =
    let p = err_from_is_err_and c.from_residual-in_err-text.result c.from_residual-in_err-text.ensures.1 in
    rw p.1 (saves_nothing (g.S.Source.left c.args.source.now) (g.K.Sink.held c.args.sink.now))

pub returns-in_err-text-clause-reads : goal.returns-in_err-text-clause-reads
returns-in_err-text-clause-reads g c =
    let left = g.S.Source.left in
    let unread = c.read_to_end.new.reader.unread in
    front_taken most_bytes unread (left c.args.source.now) (left c.read_to_end.new.source)
    (subst (λ n. TakesUnread n unread (left c.args.source.now) (left c.read_to_end.new.source)) c.in_ok-reader.ensures.unread c.in_ok-last.ensures.taken)

pub returns-in_err-write_all-clause-leaves : goal.returns-in_err-write_all-clause-leaves
returns-in_err-write_all-clause-leaves g c =
    let p = err_from_is_err_and c.from_residual-in_err-write_all.result c.from_residual-in_err-write_all.ensures.1 in
    let left = g.S.Source.left c.args.source.now in
    let old = g.K.Sink.held c.args.sink.now in
    let new = g.K.Sink.held c.write_all.new.sink in
    let last = c.in_ok-last.last in
    let world = c.read_to_end.new.replay.world in
    let reader = c.in_ok-reader.reader in
    let whole : budget reader ≡ most_bytes = budget-empty reader c.in_ok-reader.ensures.empty ∙ c.in_ok-reader.ensures.unread in
    let all : to_come reader left ≡ left = to_come-empty reader left c.in_ok-reader.ensures.empty in
    let first = c.in_ok-last.ensures.ends None (subst (Reads None) (sym (ap (λ r. r.world) c.new-replay.ensures)) tt) in
    let ends : Ends (option_map all_of left) last world =
    subst (λ r. Ends r last world) (all_left left)
    (subst (λ come. Ends (rest_of None 1 longest_line most_bytes come) last world) all
    (subst (λ most. Ends (rest_of None 1 longest_line most (to_come reader left)) last world) whole
    (subst (λ l. Ends (rest_of None 1 l (budget reader) (to_come reader left)) last world) c.in_ok-reader.ensures.longest first))) in
    let writes : WritesLast last world c.in_ok-text.text.items = subst (λ w. WritesLast last w c.in_ok-text.text.items) c.world.ensures c.in_ok-text.ensures in
    let took = c.in_err-write_all.ensures.front in
    let some : Extends old new (take took.0 c.in_ok-text.text.items) = subst (λ t. Extends old new (take took.0 t)) c.deref.ensures.value took.1 in
    rw p.1 (saves_front last world c.in_ok-text.text.items left took.0 old new ends writes some)

pub returns-in_err-write_all-clause-reads : goal.returns-in_err-write_all-clause-reads
returns-in_err-write_all-clause-reads g c =
    let left = g.S.Source.left in
    let unread = c.read_to_end.new.reader.unread in
    front_taken most_bytes unread (left c.args.source.now) (left c.read_to_end.new.source)
    (subst (λ n. TakesUnread n unread (left c.args.source.now) (left c.read_to_end.new.source)) c.in_ok-reader.ensures.unread c.in_ok-last.ensures.taken)

pub returns-clause-leaves : goal.returns-clause-leaves
returns-clause-leaves g c =
    let left = g.S.Source.left c.args.source.now in
    let old = g.K.Sink.held c.args.sink.now in
    let new = g.K.Sink.held c.write_all.new.sink in
    let last = c.in_ok-last.last in
    let world = c.read_to_end.new.replay.world in
    let reader = c.in_ok-reader.reader in
    let whole : budget reader ≡ most_bytes = budget-empty reader c.in_ok-reader.ensures.empty ∙ c.in_ok-reader.ensures.unread in
    let all : to_come reader left ≡ left = to_come-empty reader left c.in_ok-reader.ensures.empty in
    let first = c.in_ok-last.ensures.ends None (subst (Reads None) (sym (ap (λ r. r.world) c.new-replay.ensures)) tt) in
    let ends : Ends (option_map all_of left) last world =
    subst (λ r. Ends r last world) (all_left left)
    (subst (λ come. Ends (rest_of None 1 longest_line most_bytes come) last world) all
    (subst (λ most. Ends (rest_of None 1 longest_line most (to_come reader left)) last world) whole
    (subst (λ l. Ends (rest_of None 1 l (budget reader) (to_come reader left)) last world) c.in_ok-reader.ensures.longest first))) in
    let writes : WritesLast last world c.in_ok-text.text.items = subst (λ w. WritesLast last w c.in_ok-text.text.items) c.world.ensures c.in_ok-text.ensures in
    let whole_text : Extends old new c.in_ok-text.text.items = subst (Extends old new) c.deref.ensures.value c.in_ok-write_all.ensures.held in
    subst (λ e. SavesAll left (status_code (Ok e)) old new) (sym c.end_of-end.ensures) (saves_all last world c.in_ok-text.text.items left old new ends writes whole_text)

pub returns-clause-reads : goal.returns-clause-reads
returns-clause-reads g c =
    let left = g.S.Source.left in
    let unread = c.read_to_end.new.reader.unread in
    front_taken most_bytes unread (left c.args.source.now) (left c.read_to_end.new.source)
    (subst (λ n. TakesUnread n unread (left c.args.source.now) (left c.read_to_end.new.source)) c.in_ok-reader.ensures.unread c.in_ok-last.ensures.taken)
