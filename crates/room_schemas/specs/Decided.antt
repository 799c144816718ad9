-- What a schema decides for a room.
use Rattle.std.specs.Prelude.{ℕ, List, Bool, true, false, if◌then◌else◌, Option, Some, None, Result, Ok, Err}
use Rattle.rooms_val.specs.Data.{Data}
use Rattle.migrate_seq.specs.Versions.{Versions}
use Rattle.migrate_seq.specs.Plans.{migrations_at, plan_answer, newest_versions, are_both_ways}
use Rattle.migrate_steps.specs.Records.{raised_along, lowered_along}
use Rattle.migrate_seq.specs.declared.fault.PlanFault.{PlanFault}
use Rattle.schema_core.specs.Admits.{is_admitted, is_document, scope_of}
use Rattle.schema_core.specs.Tree.{SchemaTree}
use Rattle.schema_core.specs.declared.row.Scope.{Scope}
use Rattle.schema_core.specs.declared.row.Scope.TheVariants.{Document, Session, Presence}
use Rattle.room_model.specs.Schemas.{Schemas, Plan}
use Rattle.sync_msgs.specs.declared.end_reason.EndReason.{EndReason}
use Rattle.sync_msgs.specs.declared.end_reason.EndReason.TheVariants.{ClientTooOld, ServerTooOld}

-- records of this scope are the presence of sessions
abbrev pub is_of_presence : Option Scope → Bool
is_of_presence None = false
is_of_presence (Some Document) = false
is_of_presence (Some Session) = false
is_of_presence (Some Presence) = true

-- an id is that of a session's presence
abbrev pub is_presence : SchemaTree → List ℕ → Bool
is_presence s id = is_of_presence (scope_of s id)

-- a record taken up along a plan, and down
abbrev pub raise : SchemaTree → Plan → Data → Data
raise s plan d = raised_along (migrations_at s.sequences plan) d

abbrev pub lower : SchemaTree → Plan → Data → Data
lower s plan d = lowered_along (migrations_at s.sequences plan) d

-- a plan by which a client can connect: each migration works on one record at a time and goes both ways
abbrev pub both_ways_only : SchemaTree → Result Plan PlanFault → Result Plan EndReason
both_ways_only s (Ok plan) = if are_both_ways (migrations_at s.sequences plan) then Ok plan else Err ClientTooOld
both_ways_only s (Err fault) = Err ServerTooOld

-- the plan from a schema that a client tells, or why it can't connect
abbrev pub plan_for : SchemaTree → Versions → Result Plan EndReason
plan_for s held = both_ways_only s (plan_answer s.sequences held)

-- all that a room's schema decides
abbrev pub decided : SchemaTree → Schemas
decided s = record {
  is_document = is_document s;
  is_presence = is_presence s;
  admits = is_admitted s;
  versions = newest_versions s.sequences;
  plan_for = plan_for s;
  raise = raise s;
  lower = lower s;
}
