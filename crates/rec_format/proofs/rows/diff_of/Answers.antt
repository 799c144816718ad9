use Rattle.std.proofs.Common.{◌≡◌, sym, ◌∙◌}
use Rattle.rooms_val.specs.View.{data_of}
use Rattle.wire_msgs.proofs.PartLemmas.{diff_is}
use Rattle.rec_format.proofs.DiffLemmas.{diff_isnt}
use Rattle.rec_format.proofs.rows.diff_of.Goals as goal

pub returns-in-Ok-clause-found : goal.returns-in-Ok-clause-found
returns-in-Ok-clause-found c = diff_is (data_of c.args.val.now) c.in-Ok.diff c.kind.ensures.sound c.in-Ok.ensures

pub returns-in-Err-WrongKind-clause-refused : goal.returns-in-Err-WrongKind-clause-refused
returns-in-Err-WrongKind-clause-refused c = λ diff sound same. diff_isnt (data_of c.args.val.now) c.in-Err-WrongKind.field-0 c.in-Err-WrongKind.field-0-is c.in-Err-WrongKind.ensures diff sound same
