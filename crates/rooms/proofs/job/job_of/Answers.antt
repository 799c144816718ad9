use Rattle.std.proofs.Common.{◌≡◌, string_bytes, arith, sym}
use Rattle.rooms.proofs.EndingLemmas.{too_many}
use Rattle.rooms.proofs.job.job_of.Goals as goal

pub returns-in_default-2-clause-job : goal.returns-in_default-2-clause-job
returns-in_default-2-clause-job c = sym (too_many string_bytes c.args.words.now (omega (arith, c.in_default.len_at_least)))
