use Rattle.std.proofs.Common.{sym, ap, ◌∙◌}
use Rattle.migrate_seq.specs.Versions.{numbers_of, schema_with}
use Rattle.migrate_seq.proofs.SerializedLemmas.{schema_made, numbers_of-versions_in}
use Rattle.migrate_seq.proofs.serialized.Serialized.val.Goals as goal

pub returns : goal.returns
returns c =
    schema_made _ _ _ _ _ _ _ c.in_ok-key.ensures c.in_ok-name.ensures c.new-fields.ensures c.in_ok-put.ensures.ok c.in_ok-versions.ensures c.in_ok-put-2.ensures.ok
    ∙ ap schema_with (sym (numbers_of-versions_in c.self.inside.versions c.self.invariant) ∙ ap numbers_of c.self.view_is)
