use Rattle.std.proofs.Common.{sym, ap}
use Rattle.rooms_val.specs.View.{data_of}
use Rattle.clip_content.proofs.FieldLemmas.{field_in}
use Rattle.clip_content.proofs.records.with_field.Goals as goal

pub returns-in_ok-put-in-Map : goal.returns-in_ok-put-in-Map
returns-in_ok-put-in-Map c =
    field_in c.in-Map.fields c.put.new.self (data_of c.args.val) (data_of c.args.new) c.args.key.now _ (sym (ap data_of c.in-Map.is)) c.in_ok-of-in-Map.ensures c.in_ok-put-in-Map.ensures.ok
