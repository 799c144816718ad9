use Rattle.std.proofs.Common.{◌≡◌, Ok, Err, Some, None, subst, refl, rules}
use Rattle.room_link.specs.Exchange.{Tells}
use Rattle.room_link.specs.Worker.{Accepts}
use Rattle.room_link.specs.declared.passing.Stop.TheVariants as stop
use Rattle.room_link.proofs.HeldLemmas.{Extends-nil}
use Rattle.join_job.specs.declared.ending.JoinEnd.TheVariants as join
use Rattle.join_job.proofs.WorkingLemmas.{played_over_link, played_over_none, nothing_played_over}
use Rattle.join_job.proofs.worker.join_next.Goals as goal

pub returns-in-Ok-Some-clause-played : goal.returns-in-Ok-Some-clause-played
returns-in-Ok-Some-clause-played g c = λ schemas tables.
    let told = g.A.Accept.told in
    let link = c.in-Ok-Some.link in
    let is : c.next.result ≡ Ok (Some link) = search rules in
    let taken : Tells (Accepts (Ok (Some link))) (told c.args.worker.now) (told c.next.new.self) = subst (λ r. Tells (Accepts r) (told c.args.worker.now) (told c.next.new.self)) is c.next.ensures.taken in
    played_over_link g.A.Link.Link.faults g.A.Link.Link.told schemas c.args.room (g.S.Source.left c.args.source.now) (g.W.Sink.held c.args.sink.now) (g.W.Sink.held c.join_link-end.new.sink) c.join_link-end.result
    link c.join_link-end.new.link (told c.args.worker.now) (told c.next.new.self) (told c.back.new.self) taken c.back.ensures.kept (c.join_link-end.ensures.played schemas tables, c.join_link-end.ensures.link_failed)

pub returns-in-Ok-None-clause-played : goal.returns-in-Ok-None-clause-played
returns-in-Ok-None-clause-played g c = λ schemas tables.
    let told = g.A.Accept.told in
    let is : c.next.result ≡ Ok None = search rules in
    let taken : Tells (Accepts (Ok None)) (told c.args.worker.now) (told c.next.new.self) = subst (λ r. Tells (Accepts r) (told c.args.worker.now) (told c.next.new.self)) is c.next.ensures.taken in
    played_over_none g.A.Link.Link.faults g.A.Link.Link.told schemas c.args.room (g.S.Source.left c.args.source.now) (g.W.Sink.held c.args.sink.now) (g.W.Sink.held c.join_ended.new.sink) c.join_ended.result
    (told c.args.worker.now) (told c.next.new.self) taken (c.join_ended.ensures.played schemas tables)

pub returns-in-Err-OutOfMemory-clause-played : goal.returns-in-Err-OutOfMemory-clause-played
returns-in-Err-OutOfMemory-clause-played g c = λ schemas tables.
    let told = g.A.Accept.told in
    let held = g.W.Sink.held c.args.sink.now in
    let is : c.next.result ≡ Err stop.OutOfMemory = search rules in
    let taken : Tells (Accepts (Err stop.OutOfMemory)) (told c.args.worker.now) (told c.next.new.self) = subst (λ r. Tells (Accepts r) (told c.args.worker.now) (told c.next.new.self)) is c.next.ensures.taken in
    nothing_played_over g.A.Link.Link.faults g.A.Link.Link.told schemas c.args.room (g.S.Source.left c.args.source.now) held held join.Memory
    (told c.args.worker.now) (told c.next.new.self) taken refl (Extends-nil held)
