use Rattle.link_texts.proofs.SendingLemmas.{tells_more}
use Rattle.room_join.proofs.HearingLemmas.{waited_for, says_nothing, stopped_waiting, still_waits}
use Rattle.room_join.proofs.joiner.Joiner.deliver.Goals as goal

pub returns-clause-unsaid : goal.returns-clause-unsaid
returns-clause-unsaid g c =
    let told = g.K.Link.told in
    tells_more (told c.args.link.now) (told c.wait_for_message.new.link) c.wait_for_message.ensures.ends
    (λ x y. says_nothing c.args.self.now.assembler c.wait_for_message.new.assembler c.wait_for_message.result x y)

pub returns-in_err-heard-clause-unsaid : goal.returns-in_err-heard-clause-unsaid
returns-in_err-heard-clause-unsaid g c =
    let told = g.K.Link.told in
    tells_more (told c.args.link.now) (told c.wait_for_message.new.link) c.wait_for_message.ensures.ends
    (λ x y. says_nothing c.args.self.now.assembler c.wait_for_message.new.assembler c.wait_for_message.result x y)

pub returns-in_err-heed-clause-unsaid : goal.returns-in_err-heed-clause-unsaid
returns-in_err-heed-clause-unsaid g c =
    let told = g.K.Link.told in
    tells_more (told c.args.link.now) (told c.wait_for_message.new.link) c.wait_for_message.ensures.ends
    (λ x y. says_nothing c.args.self.now.assembler c.wait_for_message.new.assembler c.wait_for_message.result x y)

pub returns-clause-waited : goal.returns-clause-waited
returns-clause-waited g c = λ schemas joiner stands.
    let told = g.K.Link.told in
    let now = c.wait_for_message.new.assembler in
    let heeds = c.in_ok-heed.ensures schemas (record joiner { waiting = now }) (still_waits schemas joiner c.args.self.now stands now) in
    tells_more (told c.args.link.now) (told c.wait_for_message.new.link) c.in_ok-heard.ensures.ends
    (λ x y. waited_for schemas joiner c.args.self.now.assembler now c.in_ok-heard.heard c.in_ok-heed.field-0 c.heed.new.self x y stands.waiting heeds)

pub returns-in_err-heard-clause-waited : goal.returns-in_err-heard-clause-waited
returns-in_err-heard-clause-waited g c = λ schemas joiner stands.
    let told = g.K.Link.told in
    tells_more (told c.args.link.now) (told c.wait_for_message.new.link) c.wait_for_message.ensures.ends
    (λ x y. stopped_waiting schemas joiner c.args.self.now.assembler c.wait_for_message.new.assembler c.wait_for_message.result c.from_residual.result (record c.args.self.now { assembler = c.wait_for_message.new.assembler }) x y c.from_residual.ensures.0)

pub returns-in_err-heed-clause-waited : goal.returns-in_err-heed-clause-waited
returns-in_err-heed-clause-waited g c = λ schemas joiner stands.
    let told = g.K.Link.told in
    tells_more (told c.args.link.now) (told c.wait_for_message.new.link) c.wait_for_message.ensures.ends
    (λ x y. stopped_waiting schemas joiner c.args.self.now.assembler c.wait_for_message.new.assembler c.wait_for_message.result c.from_residual-in_err-heed.result c.heed.new.self x y c.from_residual-in_err-heed.ensures.0)
