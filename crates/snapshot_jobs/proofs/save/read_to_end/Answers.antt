use Rattle.std.proofs.Common.{◌≡◌, ◌<◌, false, refl, sym, subst, ◌∙◌, arith}
use Rattle.recording_lines.specs.Reading.{budget, to_come}
use Rattle.recording_lines.proofs.ReadingLemmas.{TakesUnread-nil, TakesUnread-trans}
use Rattle.replay_job.specs.Endings.{rest_of}
use Rattle.replay_job.specs.Proceeding.{Proceeds, IfGoesOn}
use Rattle.replay_job.specs.Replies.{Reads}
use Rattle.replay_job.specs.Taking.{Progress}
use Rattle.replay_job.specs.declared.replay.Reply.TheVariants.{Refused, Wrote, Ended}
use Rattle.snapshot_jobs.proofs.ComingLemmas.{comes_first, comes_on, comes_refused, comes_to_end}
use Rattle.snapshot_jobs.proofs.save.read_to_end.Goals as goal

pub lines-init : goal.lines-init
lines-init g c =
    let reader = c.args.reader.now in
    let left = g.S.Source.left c.args.source.now in
    record {
      coming = λ progress reads. comes_first progress c.args.replay.now.world reader.longest 1 (budget reader) (to_come reader left) reads;
      silent = c.requires.silent;
      longest = refl;
      number = omega arith;
      taken = TakesUnread-nil reader.unread left;
      faults = omega arith;
    }

pub next_reply-requires : goal.next_reply-requires
next_reply-requires g c = omega (arith, c.requires.wide, c.lines.invariant.longest)

pub returns-in_err-reply-clause-taken : goal.returns-in_err-reply-clause-taken
returns-in_err-reply-clause-taken g c =
    let left = g.S.Source.left in
    TakesUnread-trans c.args.reader.now.unread c.lines.reader.unread c.next_reply.new.reader.unread (left c.args.source.now) (left c.lines.source) (left c.next_reply.new.source)
    c.lines.invariant.taken c.in_err-reply.ensures.taken

pub returns-in-Refused-clause-ends : goal.returns-in-Refused-clause-ends
returns-in-Refused-clause-ends g c = λ start reads.
    let left = g.S.Source.left in
    let first = c.args.reader.now in
    let old = c.lines.reader in
    let new = c.next_reply.new.reader in
    let come = to_come old (left c.lines.source) in
    let further = to_come new (left c.next_reply.new.source) in
    let world = c.lines.replay.world in
    let next = c.next_reply.new.replay.world in
    let proceeds : (progress : Progress) → Reads progress world → Proceeds false progress first.longest (budget old) come (budget new) further (Refused c.in-Refused.fault) next =
    λ progress is. subst (λ r. Proceeds false progress first.longest (budget old) come (budget new) further r next) c.in-Refused.is
    (subst (λ t. Proceeds t progress first.longest (budget old) come (budget new) further c.in_ok-reply.reply next) c.lines.invariant.silent
    (subst (λ l. Proceeds c.lines.replay.trace progress l (budget old) come (budget new) further c.in_ok-reply.reply next) c.lines.invariant.longest (c.in_ok-reply.ensures.next progress is))) in
    comes_refused first.longest c.lines.at (budget old) (budget new) (rest_of start 1 first.longest (budget first) (to_come first (left c.args.source.now))) world next come further c.in-Refused.fault
    (c.lines.invariant.coming start reads) proceeds

pub returns-in-Refused-clause-taken : goal.returns-in-Refused-clause-taken
returns-in-Refused-clause-taken g c =
    let left = g.S.Source.left in
    TakesUnread-trans c.args.reader.now.unread c.lines.reader.unread c.next_reply.new.reader.unread (left c.args.source.now) (left c.lines.source) (left c.next_reply.new.source)
    c.lines.invariant.taken c.in_ok-reply.ensures.taken

pub returns-in-Ended-clause-ends : goal.returns-in-Ended-clause-ends
returns-in-Ended-clause-ends g c = λ start reads.
    let left = g.S.Source.left in
    let first = c.args.reader.now in
    let old = c.lines.reader in
    let new = c.next_reply.new.reader in
    let come = to_come old (left c.lines.source) in
    let further = to_come new (left c.next_reply.new.source) in
    let world = c.lines.replay.world in
    let next = c.next_reply.new.replay.world in
    let told = c.in-Ended.field-0 in
    let proceeds : (progress : Progress) → Reads progress world → Proceeds false progress first.longest (budget old) come (budget new) further (Ended told) next =
    λ progress is. subst (λ r. Proceeds false progress first.longest (budget old) come (budget new) further r next) c.in-Ended.is
    (subst (λ t. Proceeds t progress first.longest (budget old) come (budget new) further c.in_ok-reply.reply next) c.lines.invariant.silent
    (subst (λ l. Proceeds c.lines.replay.trace progress l (budget old) come (budget new) further c.in_ok-reply.reply next) c.lines.invariant.longest (c.in_ok-reply.ensures.next progress is))) in
    comes_to_end first.longest c.lines.at (budget old) (budget new) (rest_of start 1 first.longest (budget first) (to_come first (left c.args.source.now))) world next come further told
    (c.lines.invariant.coming start reads) proceeds

pub returns-in-Ended-clause-taken : goal.returns-in-Ended-clause-taken
returns-in-Ended-clause-taken g c =
    let left = g.S.Source.left in
    TakesUnread-trans c.args.reader.now.unread c.lines.reader.unread c.next_reply.new.reader.unread (left c.args.source.now) (left c.lines.source) (left c.next_reply.new.source)
    c.lines.invariant.taken c.in_ok-reply.ensures.taken

pub overflow_add-at : goal.overflow_add-at
overflow_add-at g c = omega (arith, c.requires.number, c.lines.invariant.number)

pub lines-smaller : goal.lines-smaller
lines-smaller g c = subst (λ r. IfGoesOn r (budget c.next_reply.new.reader < budget c.lines.reader)) c.in-Wrote.is c.in_ok-reply.ensures.shorter

pub lines-preserved-in-Wrote : goal.lines-preserved-in-Wrote
lines-preserved-in-Wrote g c =
    let left = g.S.Source.left in
    let first = c.args.reader.now in
    let old = c.lines.reader in
    let new = c.next_reply.new.reader in
    let come = to_come old (left c.lines.source) in
    let further = to_come new (left c.next_reply.new.source) in
    let world = c.lines.replay.world in
    let next = c.next_reply.new.replay.world in
    let told = c.in-Wrote.field-0 in
    let proceeds : (progress : Progress) → Reads progress world → Proceeds false progress first.longest (budget old) come (budget new) further (Wrote told) next =
    λ progress is. subst (λ r. Proceeds false progress first.longest (budget old) come (budget new) further r next) c.in-Wrote.is
    (subst (λ t. Proceeds t progress first.longest (budget old) come (budget new) further c.in_ok-reply.reply next) c.lines.invariant.silent
    (subst (λ l. Proceeds c.lines.replay.trace progress l (budget old) come (budget new) further c.in_ok-reply.reply next) c.lines.invariant.longest (c.in_ok-reply.ensures.next progress is))) in
    let smaller = subst (λ r. IfGoesOn r (budget new < budget old)) c.in-Wrote.is c.in_ok-reply.ensures.shorter in
    record {
      coming = λ start reads. comes_on first.longest c.lines.at (budget old) (budget new) (rest_of start 1 first.longest (budget first) (to_come first (left c.args.source.now))) world next come further told
          (c.lines.invariant.coming start reads) proceeds;
      silent = c.in_ok-reply.ensures.trace ∙ c.lines.invariant.silent;
      longest = c.in_ok-reply.ensures.longest ∙ c.lines.invariant.longest;
      number = omega (arith, c.lines.invariant.number, smaller);
      taken = TakesUnread-trans first.unread old.unread new.unread (left c.args.source.now) (left c.lines.source) (left c.next_reply.new.source) c.lines.invariant.taken c.in_ok-reply.ensures.taken;
      faults = omega (arith, c.lines.invariant.faults, c.in_ok-reply.ensures.faults_stay);
    }
