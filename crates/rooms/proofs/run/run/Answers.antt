use Rattle.std.proofs.Common.{◌≡◌, ℕ, Some, map, refl, sym, subst, ◌∙◌}
use Rattle.std.specs.Prelude.{string_bytes}
use Rattle.recording_lines.specs.Lines.{most_bytes}
use Rattle.recording_lines.proofs.ReadingLemmas.{TakesUnread-nil}
use Rattle.join_job.specs.Working.{PlaysOverWorkers}
use Rattle.replay_job.specs.Endings.{Prints, PrintsFront}
use Rattle.replay_job.proofs.EndingLemmas.{prints}
use Rattle.replay_job.proofs.GoingLemmas.{front_taken}
use Rattle.replay_job.proofs.CaughtUpLemmas.{told_print}
use Rattle.room_server.specs.Outcomes.{IsOutcome}
use Rattle.rooms.specs.Jobs.{job_named}
use Rattle.rooms.specs.Runs.{IsStatusOf}
use Rattle.rooms.specs.declared.job.Job.{Job}
use Rattle.rooms.specs.declared.job.Job.TheVariants.{Replay, Save, Restore, Make, Serve, Join}
use Rattle.rooms.proofs.EndingLemmas.{replay_status, replay_is_asked, make_status, make_is_asked, make_reads_nothing, join_status, join_is_asked, same_trace, made_as, unmade_as, same_rooms, same_room, asks, asks_other}
use Rattle.rooms.proofs.run.run.Goals as goal

pub returns-in-Replay-clause-known : goal.returns-in-Replay-clause-known
returns-in-Replay-clause-known g c = replay_status c.replay_job.result.status c.replay_job.ensures.known

pub returns-in-Replay-clause-statuses : goal.returns-in-Replay-clause-statuses
returns-in-Replay-clause-statuses g c =
    let asked : job_named (map string_bytes c.args.words.now) ≡ Some (Replay c.in-Replay.trace) = asks c.job_of.ensures.job c.in-Some.is c.in-Replay.is in
    subst (λ j. IsStatusOf j c.replay_job.result.status) (sym asked) c.replay_job.ensures.known

pub returns-in-Replay-clause-usage : goal.returns-in-Replay-clause-usage
returns-in-Replay-clause-usage g c =
    let asked : job_named (map string_bytes c.args.words.now) ≡ Some (Replay c.in-Replay.trace) = asks c.job_of.ensures.job c.in-Some.is c.in-Replay.is in
    (λ two. absurd (replay_is_asked c.replay_job.result.status c.replay_job.ensures.known two), λ none. absurd (cc))

pub returns-in-Replay-clause-untouched : goal.returns-in-Replay-clause-untouched
returns-in-Replay-clause-untouched g c = λ two. absurd (replay_is_asked c.replay_job.result.status c.replay_job.ensures.known two)

pub returns-in-Replay-clause-done : goal.returns-in-Replay-clause-done
returns-in-Replay-clause-done g c = λ trace is read.
    let held = g.K.Sink.held in
    let left = g.S.Source.left c.args.source.now in
    let old = held c.args.sink.now in
    let new = held c.replay_job.new.sink in
    let replayed = c.replay_job.result in
    let asked : job_named (map string_bytes c.args.words.now) ≡ Some (Replay c.in-Replay.trace) = asks c.job_of.ensures.job c.in-Some.is c.in-Replay.is in
    let same = same_trace c.in-Replay.trace trace (sym asked ∙ is) in
    subst (λ t. Prints t left replayed.status old new) same (prints c.in-Replay.trace left replayed.status replayed.world old new (c.replay_job.ensures.done read))

pub returns-in-Replay-clause-stopped : goal.returns-in-Replay-clause-stopped
returns-in-Replay-clause-stopped g c = λ trace is stopped.
    let held = g.K.Sink.held in
    let asked : job_named (map string_bytes c.args.words.now) ≡ Some (Replay c.in-Replay.trace) = asks c.job_of.ensures.job c.in-Some.is c.in-Replay.is in
    let same = same_trace c.in-Replay.trace trace (sym asked ∙ is) in
    subst (λ t. PrintsFront t (g.S.Source.left c.args.source.now) (held c.args.sink.now) (held c.replay_job.new.sink)) same (c.replay_job.ensures.stopped stopped)

pub returns-in-Replay-clause-shown : goal.returns-in-Replay-clause-shown
returns-in-Replay-clause-shown g c = λ trace is. told_print trace (g.S.Source.left c.args.source.now)

pub returns-in-Make-clause-known : goal.returns-in-Make-clause-known
returns-in-Make-clause-known g c = make_status c.make_job.result c.make_job.ensures.known

pub returns-in-Make-clause-statuses : goal.returns-in-Make-clause-statuses
returns-in-Make-clause-statuses g c =
    let asked : job_named (map string_bytes c.args.words.now) ≡ Some (Make c.in-Make.seed c.in-Make.size c.in-Make.print) = asks c.job_of.ensures.job c.in-Some.is c.in-Make.is in
    subst (λ j. IsStatusOf j c.make_job.result) (sym asked) c.make_job.ensures.known

pub returns-in-Make-clause-usage : goal.returns-in-Make-clause-usage
returns-in-Make-clause-usage g c =
    let asked : job_named (map string_bytes c.args.words.now) ≡ Some (Make c.in-Make.seed c.in-Make.size c.in-Make.print) = asks c.job_of.ensures.job c.in-Some.is c.in-Make.is in
    (λ two. absurd (make_is_asked c.make_job.result c.make_job.ensures.known two), λ none. absurd (cc))

pub returns-in-Make-clause-untouched : goal.returns-in-Make-clause-untouched
returns-in-Make-clause-untouched g c = λ two. absurd (make_is_asked c.make_job.result c.make_job.ensures.known two)

pub returns-in-Make-clause-shown : goal.returns-in-Make-clause-shown
returns-in-Make-clause-shown g c = λ trace is. told_print trace (g.S.Source.left c.args.source.now)

pub returns-in-Make-clause-made : goal.returns-in-Make-clause-made
returns-in-Make-clause-made g c = λ seed size print is zero.
    let held = g.K.Sink.held in
    let asked : job_named (map string_bytes c.args.words.now) ≡ Some (Make c.in-Make.seed c.in-Make.size c.in-Make.print) = asks c.job_of.ensures.job c.in-Some.is c.in-Make.is in
    let same = sym asked ∙ is in
    made_as c.in-Make.seed seed c.in-Make.size size c.in-Make.print print (held c.args.sink.now) (held c.make_job.new.sink) same (c.make_job.ensures.done zero)

pub returns-in-Make-clause-unmade : goal.returns-in-Make-clause-unmade
returns-in-Make-clause-unmade g c = λ seed size print is stopped.
    let held = g.K.Sink.held in
    let asked : job_named (map string_bytes c.args.words.now) ≡ Some (Make c.in-Make.seed c.in-Make.size c.in-Make.print) = asks c.job_of.ensures.job c.in-Some.is c.in-Make.is in
    let same = sym asked ∙ is in
    unmade_as c.in-Make.seed seed c.in-Make.size size c.in-Make.print print (held c.args.sink.now) (held c.make_job.new.sink) same (c.make_job.ensures.stopped stopped)

pub returns-in-Make-clause-source_failed : goal.returns-in-Make-clause-source_failed
returns-in-Make-clause-source_failed g c = λ four. absurd (make_reads_nothing c.make_job.result c.make_job.ensures.known four)

pub returns-in-Make-clause-reads : goal.returns-in-Make-clause-reads
returns-in-Make-clause-reads g c = let left = g.S.Source.left c.args.source.now in front_taken most_bytes most_bytes left left (TakesUnread-nil most_bytes left)

pub returns-in-Serve-clause-served : goal.returns-in-Serve-clause-served
returns-in-Serve-clause-served g c = λ port count rooms links is.
    let j = c.in-Serve in
    let asked : job_named (map string_bytes c.args.words.now) ≡ Some (Serve j.port j.workers j.rooms j.links) = asks c.job_of.ensures.job c.in-Some.is j.is in
    let same = same_rooms j.port j.workers j.rooms j.links port count rooms links (sym asked ∙ is) in
    record {
      served = c.serve_job.result;
      is = refl;
      outcome = subst (λ n. IsOutcome g.A.Link.Link.faults g.A.Link.Link.told g.A.Accept.faults g.A.Accept.told n c.args.workers.now.items c.serve_job.new.workers.items
          (g.K.Sink.held c.args.sink.now) (g.K.Sink.held c.serve_job.new.sink) (g.K.Sink.faults c.args.sink.now) (g.K.Sink.faults c.serve_job.new.sink) c.serve_job.result)
          same c.serve_job.ensures.outcome;
    }

pub returns-in-Save-clause-known : goal.returns-in-Save-clause-known
returns-in-Save-clause-known g c = replay_status c.save_job.result c.save_job.ensures.known

pub returns-in-Save-clause-statuses : goal.returns-in-Save-clause-statuses
returns-in-Save-clause-statuses g c =
    let asked : job_named (map string_bytes c.args.words.now) ≡ Some (Save) = asks c.job_of.ensures.job c.in-Some.is c.in-Save.is in
    subst (λ j. IsStatusOf j c.save_job.result) (sym asked) c.save_job.ensures.known

pub returns-in-Save-clause-usage : goal.returns-in-Save-clause-usage
returns-in-Save-clause-usage g c =
    let asked : job_named (map string_bytes c.args.words.now) ≡ Some (Save) = asks c.job_of.ensures.job c.in-Some.is c.in-Save.is in
    (λ two. absurd (replay_is_asked c.save_job.result c.save_job.ensures.known two), λ none. absurd (cc))

pub returns-in-Save-clause-untouched : goal.returns-in-Save-clause-untouched
returns-in-Save-clause-untouched g c = λ two. absurd (replay_is_asked c.save_job.result c.save_job.ensures.known two)

pub returns-in-Save-clause-shown : goal.returns-in-Save-clause-shown
returns-in-Save-clause-shown g c = λ trace is. told_print trace (g.S.Source.left c.args.source.now)

pub returns-in-Save-clause-saved : goal.returns-in-Save-clause-saved
returns-in-Save-clause-saved g c = λ is read. c.save_job.ensures.done read

pub returns-in-Save-clause-unsaved : goal.returns-in-Save-clause-unsaved
returns-in-Save-clause-unsaved g c = λ is stopped. c.save_job.ensures.stopped stopped

pub returns-in-Restore-clause-known : goal.returns-in-Restore-clause-known
returns-in-Restore-clause-known g c = replay_status c.restore_job.result c.restore_job.ensures.known

pub returns-in-Restore-clause-statuses : goal.returns-in-Restore-clause-statuses
returns-in-Restore-clause-statuses g c =
    let asked : job_named (map string_bytes c.args.words.now) ≡ Some (Restore) = asks c.job_of.ensures.job c.in-Some.is c.in-Restore.is in
    subst (λ j. IsStatusOf j c.restore_job.result) (sym asked) c.restore_job.ensures.known

pub returns-in-Restore-clause-usage : goal.returns-in-Restore-clause-usage
returns-in-Restore-clause-usage g c =
    let asked : job_named (map string_bytes c.args.words.now) ≡ Some (Restore) = asks c.job_of.ensures.job c.in-Some.is c.in-Restore.is in
    (λ two. absurd (replay_is_asked c.restore_job.result c.restore_job.ensures.known two), λ none. absurd (cc))

pub returns-in-Restore-clause-untouched : goal.returns-in-Restore-clause-untouched
returns-in-Restore-clause-untouched g c = λ two. absurd (replay_is_asked c.restore_job.result c.restore_job.ensures.known two)

pub returns-in-Restore-clause-shown : goal.returns-in-Restore-clause-shown
returns-in-Restore-clause-shown g c = λ trace is. told_print trace (g.S.Source.left c.args.source.now)

pub returns-in-Restore-clause-restored : goal.returns-in-Restore-clause-restored
returns-in-Restore-clause-restored g c = λ is read. c.restore_job.ensures.done read

pub returns-in-Restore-clause-unrestored : goal.returns-in-Restore-clause-unrestored
returns-in-Restore-clause-unrestored g c = λ is stopped. c.restore_job.ensures.stopped stopped

pub returns-in-Join-clause-known : goal.returns-in-Join-clause-known
returns-in-Join-clause-known g c = join_status c.join_job.result c.join_job.ensures.known

pub returns-in-Join-clause-statuses : goal.returns-in-Join-clause-statuses
returns-in-Join-clause-statuses g c =
    let asked : job_named (map string_bytes c.args.words.now) ≡ Some (Join c.in-Join.port c.in-Join.room) = asks c.job_of.ensures.job c.in-Some.is c.in-Join.is in
    subst (λ j. IsStatusOf j c.join_job.result) (sym asked) c.join_job.ensures.known

pub returns-in-Join-clause-usage : goal.returns-in-Join-clause-usage
returns-in-Join-clause-usage g c =
    let asked : job_named (map string_bytes c.args.words.now) ≡ Some (Join c.in-Join.port c.in-Join.room) = asks c.job_of.ensures.job c.in-Some.is c.in-Join.is in
    (λ two. absurd (join_is_asked c.join_job.result c.join_job.ensures.known two), λ none. absurd (cc))

pub returns-in-Join-clause-untouched : goal.returns-in-Join-clause-untouched
returns-in-Join-clause-untouched g c = λ two. absurd (join_is_asked c.join_job.result c.join_job.ensures.known two)

pub returns-in-Join-clause-shown : goal.returns-in-Join-clause-shown
returns-in-Join-clause-shown g c = λ trace is. told_print trace (g.S.Source.left c.args.source.now)

pub returns-in-Join-clause-joined : goal.returns-in-Join-clause-joined
returns-in-Join-clause-joined g c = λ port room is other.
    let j = c.in-Join in
    let same = same_room j.port j.room port room (sym (asks c.job_of.ensures.job c.in-Some.is j.is) ∙ is) in
    subst (λ r. PlaysOverWorkers g.A.Link.Link.faults g.A.Link.Link.told g.A.Accept.told r (g.S.Source.left c.args.source.now) (g.K.Sink.held c.args.sink.now) (g.K.Sink.held c.join_job.new.sink)
    c.join_job.result c.args.workers.now.items c.join_job.new.workers.items) same (c.join_job.ensures.played other)

pub returns-in-Join-clause-unjoined : goal.returns-in-Join-clause-unjoined
returns-in-Join-clause-unjoined g c = λ port room is seven. c.join_job.ensures.failed seven

-- words ask for no other job
pub returns-in-Replay-clause-saved : goal.returns-in-Replay-clause-saved
returns-in-Replay-clause-saved g c = λ is read. absurd (asks_other c.job_of.ensures.job c.in-Some.is c.in-Replay.is is refl)

pub returns-in-Replay-clause-unsaved : goal.returns-in-Replay-clause-unsaved
returns-in-Replay-clause-unsaved g c = λ is stopped. absurd (asks_other c.job_of.ensures.job c.in-Some.is c.in-Replay.is is refl)

pub returns-in-Replay-clause-restored : goal.returns-in-Replay-clause-restored
returns-in-Replay-clause-restored g c = λ is read. absurd (asks_other c.job_of.ensures.job c.in-Some.is c.in-Replay.is is refl)

pub returns-in-Replay-clause-unrestored : goal.returns-in-Replay-clause-unrestored
returns-in-Replay-clause-unrestored g c = λ is stopped. absurd (asks_other c.job_of.ensures.job c.in-Some.is c.in-Replay.is is refl)

pub returns-in-Replay-clause-made : goal.returns-in-Replay-clause-made
returns-in-Replay-clause-made g c = λ seed size print is zero. absurd (asks_other c.job_of.ensures.job c.in-Some.is c.in-Replay.is is refl)

pub returns-in-Replay-clause-unmade : goal.returns-in-Replay-clause-unmade
returns-in-Replay-clause-unmade g c = λ seed size print is stopped. absurd (asks_other c.job_of.ensures.job c.in-Some.is c.in-Replay.is is refl)

pub returns-in-Replay-clause-unread : goal.returns-in-Replay-clause-unread
returns-in-Replay-clause-unread g c = λ seed size print is. absurd (asks_other c.job_of.ensures.job c.in-Some.is c.in-Replay.is is refl)

pub returns-in-Replay-clause-served : goal.returns-in-Replay-clause-served
returns-in-Replay-clause-served g c = λ port count rooms links is. absurd (asks_other c.job_of.ensures.job c.in-Some.is c.in-Replay.is is refl)

pub returns-in-Replay-clause-joined : goal.returns-in-Replay-clause-joined
returns-in-Replay-clause-joined g c = λ port room is other. absurd (asks_other c.job_of.ensures.job c.in-Some.is c.in-Replay.is is refl)

pub returns-in-Replay-clause-unjoined : goal.returns-in-Replay-clause-unjoined
returns-in-Replay-clause-unjoined g c = λ port room is seven. absurd (asks_other c.job_of.ensures.job c.in-Some.is c.in-Replay.is is refl)

pub returns-in-Save-clause-done : goal.returns-in-Save-clause-done
returns-in-Save-clause-done g c = λ trace is read. absurd (asks_other c.job_of.ensures.job c.in-Some.is c.in-Save.is is refl)

pub returns-in-Save-clause-stopped : goal.returns-in-Save-clause-stopped
returns-in-Save-clause-stopped g c = λ trace is stopped. absurd (asks_other c.job_of.ensures.job c.in-Some.is c.in-Save.is is refl)

pub returns-in-Save-clause-restored : goal.returns-in-Save-clause-restored
returns-in-Save-clause-restored g c = λ is read. absurd (asks_other c.job_of.ensures.job c.in-Some.is c.in-Save.is is refl)

pub returns-in-Save-clause-unrestored : goal.returns-in-Save-clause-unrestored
returns-in-Save-clause-unrestored g c = λ is stopped. absurd (asks_other c.job_of.ensures.job c.in-Some.is c.in-Save.is is refl)

pub returns-in-Save-clause-made : goal.returns-in-Save-clause-made
returns-in-Save-clause-made g c = λ seed size print is zero. absurd (asks_other c.job_of.ensures.job c.in-Some.is c.in-Save.is is refl)

pub returns-in-Save-clause-unmade : goal.returns-in-Save-clause-unmade
returns-in-Save-clause-unmade g c = λ seed size print is stopped. absurd (asks_other c.job_of.ensures.job c.in-Some.is c.in-Save.is is refl)

pub returns-in-Save-clause-unread : goal.returns-in-Save-clause-unread
returns-in-Save-clause-unread g c = λ seed size print is. absurd (asks_other c.job_of.ensures.job c.in-Some.is c.in-Save.is is refl)

pub returns-in-Save-clause-served : goal.returns-in-Save-clause-served
returns-in-Save-clause-served g c = λ port count rooms links is. absurd (asks_other c.job_of.ensures.job c.in-Some.is c.in-Save.is is refl)

pub returns-in-Save-clause-joined : goal.returns-in-Save-clause-joined
returns-in-Save-clause-joined g c = λ port room is other. absurd (asks_other c.job_of.ensures.job c.in-Some.is c.in-Save.is is refl)

pub returns-in-Save-clause-unjoined : goal.returns-in-Save-clause-unjoined
returns-in-Save-clause-unjoined g c = λ port room is seven. absurd (asks_other c.job_of.ensures.job c.in-Some.is c.in-Save.is is refl)

pub returns-in-Restore-clause-done : goal.returns-in-Restore-clause-done
returns-in-Restore-clause-done g c = λ trace is read. absurd (asks_other c.job_of.ensures.job c.in-Some.is c.in-Restore.is is refl)

pub returns-in-Restore-clause-stopped : goal.returns-in-Restore-clause-stopped
returns-in-Restore-clause-stopped g c = λ trace is stopped. absurd (asks_other c.job_of.ensures.job c.in-Some.is c.in-Restore.is is refl)

pub returns-in-Restore-clause-saved : goal.returns-in-Restore-clause-saved
returns-in-Restore-clause-saved g c = λ is read. absurd (asks_other c.job_of.ensures.job c.in-Some.is c.in-Restore.is is refl)

pub returns-in-Restore-clause-unsaved : goal.returns-in-Restore-clause-unsaved
returns-in-Restore-clause-unsaved g c = λ is stopped. absurd (asks_other c.job_of.ensures.job c.in-Some.is c.in-Restore.is is refl)

pub returns-in-Restore-clause-made : goal.returns-in-Restore-clause-made
returns-in-Restore-clause-made g c = λ seed size print is zero. absurd (asks_other c.job_of.ensures.job c.in-Some.is c.in-Restore.is is refl)

pub returns-in-Restore-clause-unmade : goal.returns-in-Restore-clause-unmade
returns-in-Restore-clause-unmade g c = λ seed size print is stopped. absurd (asks_other c.job_of.ensures.job c.in-Some.is c.in-Restore.is is refl)

pub returns-in-Restore-clause-unread : goal.returns-in-Restore-clause-unread
returns-in-Restore-clause-unread g c = λ seed size print is. absurd (asks_other c.job_of.ensures.job c.in-Some.is c.in-Restore.is is refl)

pub returns-in-Restore-clause-served : goal.returns-in-Restore-clause-served
returns-in-Restore-clause-served g c = λ port count rooms links is. absurd (asks_other c.job_of.ensures.job c.in-Some.is c.in-Restore.is is refl)

pub returns-in-Restore-clause-joined : goal.returns-in-Restore-clause-joined
returns-in-Restore-clause-joined g c = λ port room is other. absurd (asks_other c.job_of.ensures.job c.in-Some.is c.in-Restore.is is refl)

pub returns-in-Restore-clause-unjoined : goal.returns-in-Restore-clause-unjoined
returns-in-Restore-clause-unjoined g c = λ port room is seven. absurd (asks_other c.job_of.ensures.job c.in-Some.is c.in-Restore.is is refl)

pub returns-in-Make-clause-done : goal.returns-in-Make-clause-done
returns-in-Make-clause-done g c = λ trace is read. absurd (asks_other c.job_of.ensures.job c.in-Some.is c.in-Make.is is refl)

pub returns-in-Make-clause-stopped : goal.returns-in-Make-clause-stopped
returns-in-Make-clause-stopped g c = λ trace is stopped. absurd (asks_other c.job_of.ensures.job c.in-Some.is c.in-Make.is is refl)

pub returns-in-Make-clause-saved : goal.returns-in-Make-clause-saved
returns-in-Make-clause-saved g c = λ is read. absurd (asks_other c.job_of.ensures.job c.in-Some.is c.in-Make.is is refl)

pub returns-in-Make-clause-unsaved : goal.returns-in-Make-clause-unsaved
returns-in-Make-clause-unsaved g c = λ is stopped. absurd (asks_other c.job_of.ensures.job c.in-Some.is c.in-Make.is is refl)

pub returns-in-Make-clause-restored : goal.returns-in-Make-clause-restored
returns-in-Make-clause-restored g c = λ is read. absurd (asks_other c.job_of.ensures.job c.in-Some.is c.in-Make.is is refl)

pub returns-in-Make-clause-unrestored : goal.returns-in-Make-clause-unrestored
returns-in-Make-clause-unrestored g c = λ is stopped. absurd (asks_other c.job_of.ensures.job c.in-Some.is c.in-Make.is is refl)

pub returns-in-Make-clause-served : goal.returns-in-Make-clause-served
returns-in-Make-clause-served g c = λ port count rooms links is. absurd (asks_other c.job_of.ensures.job c.in-Some.is c.in-Make.is is refl)

pub returns-in-Make-clause-joined : goal.returns-in-Make-clause-joined
returns-in-Make-clause-joined g c = λ port room is other. absurd (asks_other c.job_of.ensures.job c.in-Some.is c.in-Make.is is refl)

pub returns-in-Make-clause-unjoined : goal.returns-in-Make-clause-unjoined
returns-in-Make-clause-unjoined g c = λ port room is seven. absurd (asks_other c.job_of.ensures.job c.in-Some.is c.in-Make.is is refl)

pub returns-in-Serve-clause-done : goal.returns-in-Serve-clause-done
returns-in-Serve-clause-done g c = λ trace is read. absurd (asks_other c.job_of.ensures.job c.in-Some.is c.in-Serve.is is refl)

pub returns-in-Serve-clause-stopped : goal.returns-in-Serve-clause-stopped
returns-in-Serve-clause-stopped g c = λ trace is stopped. absurd (asks_other c.job_of.ensures.job c.in-Some.is c.in-Serve.is is refl)

pub returns-in-Serve-clause-saved : goal.returns-in-Serve-clause-saved
returns-in-Serve-clause-saved g c = λ is read. absurd (asks_other c.job_of.ensures.job c.in-Some.is c.in-Serve.is is refl)

pub returns-in-Serve-clause-unsaved : goal.returns-in-Serve-clause-unsaved
returns-in-Serve-clause-unsaved g c = λ is stopped. absurd (asks_other c.job_of.ensures.job c.in-Some.is c.in-Serve.is is refl)

pub returns-in-Serve-clause-restored : goal.returns-in-Serve-clause-restored
returns-in-Serve-clause-restored g c = λ is read. absurd (asks_other c.job_of.ensures.job c.in-Some.is c.in-Serve.is is refl)

pub returns-in-Serve-clause-unrestored : goal.returns-in-Serve-clause-unrestored
returns-in-Serve-clause-unrestored g c = λ is stopped. absurd (asks_other c.job_of.ensures.job c.in-Some.is c.in-Serve.is is refl)

pub returns-in-Serve-clause-made : goal.returns-in-Serve-clause-made
returns-in-Serve-clause-made g c = λ seed size print is zero. absurd (asks_other c.job_of.ensures.job c.in-Some.is c.in-Serve.is is refl)

pub returns-in-Serve-clause-unmade : goal.returns-in-Serve-clause-unmade
returns-in-Serve-clause-unmade g c = λ seed size print is stopped. absurd (asks_other c.job_of.ensures.job c.in-Some.is c.in-Serve.is is refl)

pub returns-in-Serve-clause-unread : goal.returns-in-Serve-clause-unread
returns-in-Serve-clause-unread g c = λ seed size print is. absurd (asks_other c.job_of.ensures.job c.in-Some.is c.in-Serve.is is refl)

pub returns-in-Serve-clause-joined : goal.returns-in-Serve-clause-joined
returns-in-Serve-clause-joined g c = λ port room is other. absurd (asks_other c.job_of.ensures.job c.in-Some.is c.in-Serve.is is refl)

pub returns-in-Serve-clause-unjoined : goal.returns-in-Serve-clause-unjoined
returns-in-Serve-clause-unjoined g c = λ port room is seven. absurd (asks_other c.job_of.ensures.job c.in-Some.is c.in-Serve.is is refl)

pub returns-in-Join-clause-done : goal.returns-in-Join-clause-done
returns-in-Join-clause-done g c = λ trace is read. absurd (asks_other c.job_of.ensures.job c.in-Some.is c.in-Join.is is refl)

pub returns-in-Join-clause-stopped : goal.returns-in-Join-clause-stopped
returns-in-Join-clause-stopped g c = λ trace is stopped. absurd (asks_other c.job_of.ensures.job c.in-Some.is c.in-Join.is is refl)

pub returns-in-Join-clause-saved : goal.returns-in-Join-clause-saved
returns-in-Join-clause-saved g c = λ is read. absurd (asks_other c.job_of.ensures.job c.in-Some.is c.in-Join.is is refl)

pub returns-in-Join-clause-unsaved : goal.returns-in-Join-clause-unsaved
returns-in-Join-clause-unsaved g c = λ is stopped. absurd (asks_other c.job_of.ensures.job c.in-Some.is c.in-Join.is is refl)

pub returns-in-Join-clause-restored : goal.returns-in-Join-clause-restored
returns-in-Join-clause-restored g c = λ is read. absurd (asks_other c.job_of.ensures.job c.in-Some.is c.in-Join.is is refl)

pub returns-in-Join-clause-unrestored : goal.returns-in-Join-clause-unrestored
returns-in-Join-clause-unrestored g c = λ is stopped. absurd (asks_other c.job_of.ensures.job c.in-Some.is c.in-Join.is is refl)

pub returns-in-Join-clause-made : goal.returns-in-Join-clause-made
returns-in-Join-clause-made g c = λ seed size print is zero. absurd (asks_other c.job_of.ensures.job c.in-Some.is c.in-Join.is is refl)

pub returns-in-Join-clause-unmade : goal.returns-in-Join-clause-unmade
returns-in-Join-clause-unmade g c = λ seed size print is stopped. absurd (asks_other c.job_of.ensures.job c.in-Some.is c.in-Join.is is refl)

pub returns-in-Join-clause-unread : goal.returns-in-Join-clause-unread
returns-in-Join-clause-unread g c = λ seed size print is. absurd (asks_other c.job_of.ensures.job c.in-Some.is c.in-Join.is is refl)

pub returns-in-Join-clause-served : goal.returns-in-Join-clause-served
returns-in-Join-clause-served g c = λ port count rooms links is. absurd (asks_other c.job_of.ensures.job c.in-Some.is c.in-Join.is is refl)
