use Rattle.std.proofs.Common.{◌∙◌, sym, arith}
use Rattle.migrate_seq.proofs.BuildLemmas.{out_of_bytes}
use Rattle.migrate_seq.proofs.build.after_slash.Goals as goal

pub returns-then-place-id : goal.returns-then-place-id
returns-then-place-id c = sym (c.loop-place.invariant.1 ∙ out_of_bytes c.args.sequence.now c.args.id.now c.loop-place.place (omega arith) (omega arith))
