use Rattle.std.proofs.Common.{◌≡◌, ◌<◌, None, Some, refl, sym, subst, ◌∙◌, arith}
use Rattle.std.proofs.lemmas.Result.{err_from_is_err_and}
use Rattle.recording_lines.specs.Reading.{budget, to_come}
use Rattle.recording_lines.proofs.ReadingLemmas.{TakesUnread-nil, TakesUnread-trans}
use Rattle.replay_job.specs.Endings.{rest_of}
use Rattle.replay_job.specs.Proceeding.{Proceeds}
use Rattle.replay_job.specs.Replies.{Reads, reply_end}
use Rattle.replay_job.specs.Taking.{Progress}
use Rattle.replay_job.proofs.GoingLemmas.{going_nowhere, going_on, going_to_end, stops_here, stops_in, goes_on_if}
use Rattle.replay_job.proofs.play.go_on.Goals as goal

pub lines-init : goal.lines-init
lines-init g c =
    let reader = c.args.reader.now in
    let left = g.S.Source.left c.args.source.now in
    let held = g.K.Sink.held c.args.sink.now in
    record {
      going = λ progress reads. going_nowhere c.args.replay.now.trace progress reader.longest c.args.at (budget reader) (to_come reader left) c.args.replay.now.world held reads;
      trace = refl;
      longest = refl;
      number = omega arith;
      taken = TakesUnread-nil reader.unread left;
      source_faults = omega arith;
      sink_faults = omega arith;
    }

pub next_reply-requires : goal.next_reply-requires
next_reply-requires g c = omega (arith, c.requires.wide, c.lines.invariant.longest)

pub returns-in_err-reply-clause-leaves : goal.returns-in_err-reply-clause-leaves
returns-in_err-reply-clause-leaves g c = λ progress reads.
    let p = err_from_is_err_and c.from_residual.result c.from_residual.ensures.1 in
    let left = g.S.Source.left in
    let held = g.K.Sink.held in
    let first = c.args.reader.now in
    let reader = c.lines.reader in
    let rest = rest_of progress c.args.at first.longest (budget first) (to_come first (left c.args.source.now)) in
    rw p.1 (stops_here c.args.replay.now.trace rest c.lines.replay.world first.longest c.lines.at (budget reader) (to_come reader (left c.lines.source))
    (held c.args.sink.now) (held c.lines.sink) (c.lines.invariant.going progress reads))

pub returns-in_err-reply-clause-taken : goal.returns-in_err-reply-clause-taken
returns-in_err-reply-clause-taken g c =
    let left = g.S.Source.left in
    TakesUnread-trans c.args.reader.now.unread c.lines.reader.unread c.next_reply.new.reader.unread (left c.args.source.now) (left c.lines.source) (left c.next_reply.new.source)
    c.lines.invariant.taken c.in_err-reply.ensures.taken

pub returns-in_err-write_reply-clause-leaves : goal.returns-in_err-write_reply-clause-leaves
returns-in_err-write_reply-clause-leaves g c = λ start reads.
    let p = err_from_is_err_and c.from_residual-in_err-write_reply.result c.from_residual-in_err-write_reply.ensures.1 in
    let left = g.S.Source.left in
    let held = g.K.Sink.held in
    let trace = c.args.replay.now.trace in
    let first = c.args.reader.now in
    let longest = first.longest in
    let old = c.lines.reader in
    let new = c.next_reply.new.reader in
    let come = to_come old (left c.lines.source) in
    let further = to_come new (left c.next_reply.new.source) in
    let reply = c.in_ok-reply.reply in
    let world = c.lines.replay.world in
    let next = c.next_reply.new.replay.world in
    let rest = rest_of start c.args.at longest (budget first) (to_come first (left c.args.source.now)) in
    let proceeds : (progress : Progress) → Reads progress world → Proceeds trace progress longest (budget old) come (budget new) further reply next =
    λ progress is. subst (λ t. Proceeds t progress longest (budget old) come (budget new) further reply next) c.lines.invariant.trace
    (subst (λ l. Proceeds c.lines.replay.trace progress l (budget old) come (budget new) further reply next) c.lines.invariant.longest (c.in_ok-reply.ensures.next progress is)) in
    let wrote = c.in_err-write_reply.ensures.err in
    rw p.1 (stops_in trace rest world next longest c.lines.at (budget old) (budget new) come further (held c.args.sink.now) (held c.lines.sink) (held c.write_reply.new.sink) reply wrote.0
    (c.lines.invariant.going start reads) proceeds wrote.1 wrote.2)

pub returns-in_err-write_reply-clause-taken : goal.returns-in_err-write_reply-clause-taken
returns-in_err-write_reply-clause-taken g c =
    let left = g.S.Source.left in
    TakesUnread-trans c.args.reader.now.unread c.lines.reader.unread c.next_reply.new.reader.unread (left c.args.source.now) (left c.lines.source) (left c.next_reply.new.source)
    c.lines.invariant.taken c.in_ok-reply.ensures.taken

pub returns-in-Some-clause-leaves : goal.returns-in-Some-clause-leaves
returns-in-Some-clause-leaves g c = λ start reads.
    let left = g.S.Source.left in
    let held = g.K.Sink.held in
    let trace = c.args.replay.now.trace in
    let first = c.args.reader.now in
    let longest = first.longest in
    let old = c.lines.reader in
    let new = c.next_reply.new.reader in
    let come = to_come old (left c.lines.source) in
    let further = to_come new (left c.next_reply.new.source) in
    let reply = c.in_ok-reply.reply in
    let world = c.lines.replay.world in
    let next = c.next_reply.new.replay.world in
    let rest = rest_of start c.args.at longest (budget first) (to_come first (left c.args.source.now)) in
    let proceeds : (progress : Progress) → Reads progress world → Proceeds trace progress longest (budget old) come (budget new) further reply next =
    λ progress is. subst (λ t. Proceeds t progress longest (budget old) come (budget new) further reply next) c.lines.invariant.trace
    (subst (λ l. Proceeds c.lines.replay.trace progress l (budget old) come (budget new) further reply next) c.lines.invariant.longest (c.in_ok-reply.ensures.next progress is)) in
    let is : reply_end reply ≡ Some c.in-Some.end = sym c.end_of-end.ensures ∙ c.in-Some.is in
    going_to_end trace rest world next longest c.lines.at (budget old) (budget new) come further (held c.args.sink.now) (held c.lines.sink) (held c.write_reply.new.sink) reply c.in-Some.end
    (c.lines.invariant.going start reads) proceeds is c.in_ok-write_reply.ensures.ok

pub returns-in-Some-clause-taken : goal.returns-in-Some-clause-taken
returns-in-Some-clause-taken g c =
    let left = g.S.Source.left in
    TakesUnread-trans c.args.reader.now.unread c.lines.reader.unread c.next_reply.new.reader.unread (left c.args.source.now) (left c.lines.source) (left c.next_reply.new.source)
    c.lines.invariant.taken c.in_ok-reply.ensures.taken

pub overflow_add-at : goal.overflow_add-at
overflow_add-at g c = omega (arith, c.requires.number, c.lines.invariant.number)

pub lines-smaller : goal.lines-smaller
lines-smaller g c =
    let reply = c.in_ok-reply.reply in
    let is : reply_end reply ≡ None = sym c.end_of-end.ensures ∙ c.in_default.is in
    goes_on_if reply (budget c.next_reply.new.reader < budget c.lines.reader) is c.in_ok-reply.ensures.shorter

pub lines-preserved : goal.lines-preserved
lines-preserved g c =
    let left = g.S.Source.left in
    let held = g.K.Sink.held in
    let trace = c.args.replay.now.trace in
    let first = c.args.reader.now in
    let longest = first.longest in
    let old = c.lines.reader in
    let new = c.next_reply.new.reader in
    let come = to_come old (left c.lines.source) in
    let further = to_come new (left c.next_reply.new.source) in
    let reply = c.in_ok-reply.reply in
    let world = c.lines.replay.world in
    let next = c.next_reply.new.replay.world in
    let proceeds : (progress : Progress) → Reads progress world → Proceeds trace progress longest (budget old) come (budget new) further reply next =
    λ progress is. subst (λ t. Proceeds t progress longest (budget old) come (budget new) further reply next) c.lines.invariant.trace
    (subst (λ l. Proceeds c.lines.replay.trace progress l (budget old) come (budget new) further reply next) c.lines.invariant.longest (c.in_ok-reply.ensures.next progress is)) in
    let is : reply_end reply ≡ None = sym c.end_of-end.ensures ∙ c.in_default.is in
    let smaller = goes_on_if reply (budget new < budget old) is c.in_ok-reply.ensures.shorter in
    record {
      going = λ start reads. going_on trace (rest_of start c.args.at longest (budget first) (to_come first (left c.args.source.now))) world next longest c.lines.at (budget old) (budget new) come further
          (held c.args.sink.now) (held c.lines.sink) (held c.write_reply.new.sink) reply (c.lines.invariant.going start reads) proceeds is c.in_ok-write_reply.ensures.ok;
      trace = c.in_ok-reply.ensures.trace ∙ c.lines.invariant.trace;
      longest = c.in_ok-reply.ensures.longest ∙ c.lines.invariant.longest;
      number = omega (arith, c.lines.invariant.number, smaller);
      taken = TakesUnread-trans first.unread old.unread new.unread (left c.args.source.now) (left c.lines.source) (left c.next_reply.new.source) c.lines.invariant.taken c.in_ok-reply.ensures.taken;
      source_faults = omega (arith, c.lines.invariant.source_faults, c.in_ok-reply.ensures.faults_stay);
      sink_faults = omega (arith, c.lines.invariant.sink_faults, c.in_ok-write_reply.ensures.faults_stay);
    }
