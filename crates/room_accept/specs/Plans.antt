-- What the plan of a session shows.
use Rattle.migrate_seq.specs.Shown.{places_in}
use Rattle.room_model.specs.Schemas.{Plan}
use Rattle.room_accept.specs.declared.plan.SessionPlan.{SessionPlan}

-- the migrations, in their order
abbrev pub plan_of : SessionPlan → Plan
plan_of p = places_in p.plan
