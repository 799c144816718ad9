use Rattle.std.proofs.Common.{◌≡◌, ◌↔◌, string_bytes, map, None, subst}
use Rattle.std.specs.Prelude.{MatchOption}
use Rattle.rooms.specs.Jobs.{job_named}
use Rattle.rooms.proofs.answer_words.Goals as goal

pub returns-clause-usage : goal.returns-clause-usage
returns-clause-usage g c =
    subst (λ o. MatchOption o ((c.start_run.result ≡ 2) ↔ (job_named (map string_bytes c.args.words.now) ≡ None)) (λ x. c.start_run.result ≡ 0)) c.in_default.ensures c.start_run.ensures.usage
