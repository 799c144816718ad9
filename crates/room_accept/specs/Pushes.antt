-- The sessions and pushes that the code's values stand for.
use Rattle.field_ops.specs.ViewRecordOps.{maybe_change}
use Rattle.room_model.specs.Accepting as model
use Rattle.room_model.specs.Schemas as schemas
use Rattle.room_accept.specs.Plans.{plan_of}
use Rattle.room_accept.specs.declared.push.Member.{Member}
use Rattle.room_accept.specs.declared.push.Push.{Push}

abbrev pub member_of : Member → schemas.Member
member_of m = record { session = m.session; readonly = m.readonly; plan = plan_of m.plan.now }

abbrev pub push_of : Push → model.Push
push_of p = record { client_clock = p.client_clock; diff = model.pushed_diff p.diff.now; presence = maybe_change p.presence.now }
