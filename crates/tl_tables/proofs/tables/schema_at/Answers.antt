use Rattle.std.proofs.Common.{sym, ◌∙◌}
use Rattle.migrate_seq.specs.SequencesOf.{sequences_of}
use Rattle.tl_tables.proofs.Names.{built_is}
use Rattle.tl_tables.proofs.tables.schema_at.Goals as goal

pub unreachable-requires : goal.unreachable-requires
unreachable-requires c =
    let made = built_is c.args.version _ (sequences_of c.in_ok-sequences.sequences) c.in_ok-types.ensures in
    let refused = c.in-Err-DoubledType.ensures (λ is. let other = sym c.in-Err-DoubledType.field-0-is ∙ is in (cc)) in
    (cc (made, refused))
