use Rattle.link_texts.specs.Hearing.{RefusesText}
use Rattle.link_texts.proofs.HearingLemmas.{same_fault, takes, refuses_piece}
use Rattle.rooms_val.proofs.Truths.{err_as}
use Rattle.link_texts.proofs.hearing.take_piece.Goals as goal

pub returns-in_err-feed-clause-refused : goal.returns-in_err-feed-clause-refused
returns-in_err-feed-clause-refused c =
    let fed = c.in_err-feed.ensures in
    err_as (RefusesText c.args.assembler.now c.args.bytes.now) c.from_residual.result c.in_err-feed.field-0.0 c.from_residual.ensures.1
    (refuses_piece c.args.assembler.now c.in-Ok.piece.now c.args.bytes.now c.in_err-feed.field-0.0 c.in-Ok.ensures.cases fed.gives (λ none. same_fault _ _ (fed.bad none)))

pub returns-clause-taken : goal.returns-clause-taken
returns-clause-taken c =
    let fed = c.in_ok-feed.ensures in
    takes c.args.assembler.now c.feed.new.self c.in-Ok.piece.now c.args.bytes.now c.in_ok-feed.field-0 c.in-Ok.ensures.cases fed.gives fed.leaves fed.bad
