use Rattle.std.proofs.Common.{◌≡◌, refl, sym, subst, ◌∙◌, arith, take}
use Rattle.room_link.specs.Held.{Extends}
use Rattle.std.proofs.lemmas.Result.{err_from_is_err_and}
use Rattle.recording_lines.specs.Lines.{most_bytes}
use Rattle.recording_lines.specs.Reading.{budget, to_come, TakesUnread}
use Rattle.recording_lines.proofs.ReadingLemmas.{to_come-empty, budget-empty, TakesUnread-nil, TakesUnread-trans}
use Rattle.join_job.proofs.GoingLemmas.{goings_first, played_to_here, played_in_part, played_whole, goings_on, front_read, first_bytes}
use Rattle.join_job.proofs.play.take_lines.Goals as goal

pub lines-init : goal.lines-init
lines-init g c =
    let reader = c.args.reader.now in
    let script = c.args.script.now in
    let left = g.S.Source.left c.args.source.now in
    let kept = g.W.Sink.held c.args.sink.now in
    let whole : budget reader ≡ most_bytes = budget-empty reader c.requires.empty ∙ c.requires.unread in
    let all : to_come reader left ≡ left = to_come-empty reader left c.requires.empty in
    record {
      going = goings_first script.room left kept kept script.joiner (budget reader) (to_come reader left) (g.K.Link.told c.args.link.now) c.requires.new whole all;
      room = refl;
      longest = c.requires.longest;
      number = omega (arith, whole);
      taken = subst (λ n. TakesUnread most_bytes n left left) (sym c.requires.unread) (TakesUnread-nil most_bytes left);
      source_faults = omega arith;
      sink_faults = omega arith;
      link_faults = omega arith;
    }

pub next_reply-requires : goal.next_reply-requires
next_reply-requires g c = omega (arith, c.lines.invariant.longest)

pub returns-in_err-reply-clause-played : goal.returns-in_err-reply-clause-played
returns-in_err-reply-clause-played g c =
    let p = err_from_is_err_and c.from_residual.result c.from_residual.ensures.1 in
    let left = g.S.Source.left in
    let held = g.W.Sink.held in
    let told = g.K.Link.told in
    let reader = c.lines.reader in
    rw p.1 (played_to_here c.args.script.now.room (left c.args.source.now) (held c.args.sink.now) (held c.lines.sink) c.lines.script.joiner c.next_reply.new.script.joiner c.lines.script.room reader.longest c.lines.at (budget reader)
    (to_come reader (left c.lines.source)) (told c.args.link.now) (told c.lines.link) (told c.next_reply.new.link) c.lines.invariant.room c.lines.invariant.longest c.lines.invariant.going c.in_err-reply.field-0.0 c.in_err-reply.ensures.comes)

pub returns-in_err-reply-clause-reads : goal.returns-in_err-reply-clause-reads
returns-in_err-reply-clause-reads g c =
    let left = g.S.Source.left in
    front_read most_bytes c.next_reply.new.reader.unread (left c.args.source.now) (left c.next_reply.new.source)
    (TakesUnread-trans most_bytes c.lines.reader.unread c.next_reply.new.reader.unread (left c.args.source.now) (left c.lines.source) (left c.next_reply.new.source) c.lines.invariant.taken c.in_err-reply.ensures.taken)

pub returns-in_err-write_all-clause-played : goal.returns-in_err-write_all-clause-played
returns-in_err-write_all-clause-played g c =
    let p = err_from_is_err_and c.from_residual-in_err-write_all.result c.from_residual-in_err-write_all.ensures.1 in
    let left = g.S.Source.left in
    let held = g.W.Sink.held in
    let told = g.K.Link.told in
    let reader = c.lines.reader in
    let reply = c.in_ok-reply.reply in
    let front = c.in_err-write_all.ensures.front in
    rw p.1 (played_in_part c.args.script.now.room (left c.args.source.now) (held c.args.sink.now) (held c.lines.sink) c.lines.script.joiner c.next_reply.new.script.joiner c.lines.script.room reader.longest c.lines.at (budget reader)
    (to_come reader (left c.lines.source)) (told c.args.link.now) (told c.lines.link) (told c.next_reply.new.link) c.lines.invariant.room c.lines.invariant.longest c.lines.invariant.going
    reply (held c.write_all.new.sink) c.in_ok-reply.ensures.comes (take front.0 reply.text.items) (first_bytes front.0 reply.text.items) (subst (λ t. Extends (held c.lines.sink) (held c.write_all.new.sink) (take front.0 t)) c.deref.ensures.value front.1))

pub returns-in_err-write_all-clause-reads : goal.returns-in_err-write_all-clause-reads
returns-in_err-write_all-clause-reads g c =
    let left = g.S.Source.left in
    front_read most_bytes c.next_reply.new.reader.unread (left c.args.source.now) (left c.next_reply.new.source)
    (TakesUnread-trans most_bytes c.lines.reader.unread c.next_reply.new.reader.unread (left c.args.source.now) (left c.lines.source) (left c.next_reply.new.source) c.lines.invariant.taken c.in_ok-reply.ensures.taken)

pub returns-in-Some-clause-played : goal.returns-in-Some-clause-played
returns-in-Some-clause-played g c =
    let left = g.S.Source.left in
    let held = g.W.Sink.held in
    let told = g.K.Link.told in
    let reader = c.lines.reader in
    let reply = c.in_ok-reply.reply in
    played_whole c.args.script.now.room (left c.args.source.now) (held c.args.sink.now) (held c.lines.sink) c.lines.script.joiner c.next_reply.new.script.joiner c.lines.script.room reader.longest c.lines.at (budget reader)
    (to_come reader (left c.lines.source)) (told c.args.link.now) (told c.lines.link) (told c.next_reply.new.link) c.lines.invariant.room c.lines.invariant.longest c.lines.invariant.going
    reply (held c.write_all.new.sink) c.in_ok-reply.ensures.comes c.in-Some.end c.in-Some.is (subst (Extends (held c.lines.sink) (held c.write_all.new.sink)) c.deref.ensures.value c.in_ok-write_all.ensures.held)

pub returns-in-Some-clause-reads : goal.returns-in-Some-clause-reads
returns-in-Some-clause-reads g c =
    let left = g.S.Source.left in
    front_read most_bytes c.next_reply.new.reader.unread (left c.args.source.now) (left c.next_reply.new.source)
    (TakesUnread-trans most_bytes c.lines.reader.unread c.next_reply.new.reader.unread (left c.args.source.now) (left c.lines.source) (left c.next_reply.new.source) c.lines.invariant.taken c.in_ok-reply.ensures.taken)

pub overflow_add-at : goal.overflow_add-at
overflow_add-at g c = omega (arith, c.lines.invariant.number)

pub lines-smaller : goal.lines-smaller
lines-smaller g c = c.in_ok-reply.ensures.shorter c.in_default.is

pub lines-preserved : goal.lines-preserved
lines-preserved g c =
    let left = g.S.Source.left in
    let held = g.W.Sink.held in
    let told = g.K.Link.told in
    let reader = c.lines.reader in
    let next = c.next_reply.new.reader in
    let reply = c.in_ok-reply.reply in
    let smaller = c.in_ok-reply.ensures.shorter c.in_default.is in
    record {
      going = goings_on c.args.script.now.room (left c.args.source.now) (held c.args.sink.now) (held c.lines.sink) c.lines.script.joiner c.next_reply.new.script.joiner c.lines.script.room reader.longest c.lines.at (budget reader)
          (to_come reader (left c.lines.source)) (told c.args.link.now) (told c.lines.link) (told c.next_reply.new.link) c.lines.invariant.room c.lines.invariant.longest c.lines.invariant.going
          reply (held c.write_all.new.sink) c.in_ok-reply.ensures.comes (to_come next (left c.next_reply.new.source)) (budget next) c.in_default.is (c.in_ok-reply.ensures.left c.in_default.is)
          (subst (Extends (held c.lines.sink) (held c.write_all.new.sink)) c.deref.ensures.value c.in_ok-write_all.ensures.held);
      room = c.in_ok-reply.ensures.room ∙ c.lines.invariant.room;
      longest = c.in_ok-reply.ensures.longest ∙ c.lines.invariant.longest;
      number = omega (arith, c.lines.invariant.number, smaller);
      taken = TakesUnread-trans most_bytes reader.unread next.unread (left c.args.source.now) (left c.lines.source) (left c.next_reply.new.source) c.lines.invariant.taken c.in_ok-reply.ensures.taken;
      source_faults = omega (arith, c.lines.invariant.source_faults, c.in_ok-reply.ensures.source_stays);
      sink_faults = omega (arith, c.lines.invariant.sink_faults, c.write_all.ensures.faults_stay);
      link_faults = omega (arith, c.lines.invariant.link_faults, c.in_ok-reply.ensures.link_stays);
    }
