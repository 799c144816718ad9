use Rattle.std.proofs.Common.{Ok, Err, sym, ap, ◌∙◌}
use Rattle.std.specs.Option.{option_map_or}
use Rattle.schema_core.specs.SchemaOf.{schema_tree}
use Rattle.migrate_seq.specs.Plans.{newest_versions}
use Rattle.sync_client.specs.Calls.{asks}
use Rattle.sync_client.proofs.ClientLemmas.{after_ask, answer_is}
use Rattle.sync_client.proofs.client.SyncClient.connect.Goals as goal

pub returns-in-Some-clause-answer : goal.returns-in-Some-clause-answer
returns-in-Some-clause-answer g c = λ state stands known.
    let old = c.args.self.now in
    let records = g.D.DocStore.records in
    let versions = newest_versions (schema_tree old.replica.schema).sequences in
    ap (λ o. option_map_or (λ fault. Err fault) o (Ok (asks versions c.args.request state.client))) (sym (c.in-Some.ensures state stands))

pub returns-in-Ok-clause-answer : goal.returns-in-Ok-clause-answer
returns-in-Ok-clause-answer g c = λ state stands.
    let old = c.args.self.now in
    let records = g.D.DocStore.records in
    let versions = newest_versions (schema_tree old.replica.schema).sequences in
    ap (λ o. option_map_or (λ fault. Err fault) o (Ok (asks versions c.args.request state.client))) (sym (c.in_default.ensures state stands))
    ∙ ap Ok (answer_is state.client old.reached c.args.request versions (sym stands.reached) ∙ sym c.in-Ok.ensures)

pub returns-in-Ok-clause-ok : goal.returns-in-Ok-clause-ok
returns-in-Ok-clause-ok g c = λ state stands.
    let records = g.D.DocStore.records in
    after_ask records state c.args.self.now c.args.request stands (sym (c.in_default.ensures state stands))
