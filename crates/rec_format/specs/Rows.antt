-- Which fields are those of no event of a verb.
use Rattle.std.specs.Prelude.{◌≡◌, ℕ, ℤ, List, Bool}
use Rattle.rooms_val.specs.Data.{Pairs}
use Rattle.rooms_val.specs.declared.val.Val.{Val}
use Rattle.field_ops.specs.RecordOps.{RecordOps, IsSoundDiff}
use Rattle.shape_tree.specs.declared.query.Query.{Query}
use Rattle.shape_tree.specs.declared.view.View.{View}
use Rattle.room_model.specs.declared.event.Event.TheVariants as event
use Rattle.rec_format.specs.Events.{event_fields, IsProper}
use Rattle.tl_tables.specs.Tables.{IsVersion}
use Rattle.rec_format.specs.Recorded.{watch_fields, query_fields}
use Rattle.rec_format.specs.declared.fault.LineFault.{LineFault}
use Rattle.rec_format.specs.declared.fault.LineFault.TheVariants as line_fault
use Rattle.rec_format.specs.declared.verb.Verb.{Verb}
use Rattle.rec_format.specs.declared.verb.Verb.TheVariants as verb

-- the fields are those of no event of the verb
abbrev pub IsOfNoEvent : Verb → Pairs → Type 0
IsOfNoEvent verb.Client ps = (v : ℕ) → IsVersion v → ¬ (ps ≡ event_fields (event.Client v))
IsOfNoEvent verb.Connect ps = (c : ℕ) (readonly : Bool) → ¬ (ps ≡ event_fields (event.Connect c readonly))
IsOfNoEvent verb.Edit ps = (c : ℕ) (diff : RecordOps) → IsSoundDiff diff → ¬ (ps ≡ event_fields (event.Edit c diff))
IsOfNoEvent verb.Presence ps = (c : ℕ) (r : Val) → ¬ (ps ≡ event_fields (event.Presence c r))
IsOfNoEvent verb.Mark ps = (c : ℕ) (name : List ℕ) → ¬ (ps ≡ event_fields (event.Mark c name))
IsOfNoEvent verb.Undo ps = (c : ℕ) → ¬ (ps ≡ event_fields (event.Undo c))
IsOfNoEvent verb.Redo ps = (c : ℕ) → ¬ (ps ≡ event_fields (event.Redo c))
IsOfNoEvent verb.Bail ps = (c : ℕ) (name : List ℕ) → ¬ (ps ≡ event_fields (event.Bail c name))
IsOfNoEvent verb.Copy ps = (c : ℕ) (ids : List (List ℕ)) → ¬ (ps ≡ event_fields (event.Copy c ids))
IsOfNoEvent verb.Paste ps = (c : ℕ) (dx dy : ℤ) (parent prefix : List ℕ) → IsProper (event.Paste c dx dy parent prefix)
    → ¬ (ps ≡ event_fields (event.Paste c dx dy parent prefix))
IsOfNoEvent verb.Handle ps = (s : ℕ) → ¬ (ps ≡ event_fields (event.Handle s))
IsOfNoEvent verb.Send ps = (s : ℕ) → ¬ (ps ≡ event_fields (event.Send s))
IsOfNoEvent verb.Deliver ps = (c : ℕ) → ¬ (ps ≡ event_fields (event.Deliver c))
IsOfNoEvent verb.Cut ps = (c : ℕ) → ¬ (ps ≡ event_fields (event.Cut c))
IsOfNoEvent verb.Lose ps = (s : ℕ) → ¬ (ps ≡ event_fields (event.Lose s))
IsOfNoEvent verb.Watch ps = (c : ℕ) (view : View) → ¬ (ps ≡ watch_fields c view)
IsOfNoEvent verb.Query ps = (c : ℕ) (type : List ℕ) (query : Query) → ¬ (ps ≡ query_fields c type query)
IsOfNoEvent verb.Show ps = (c : ℕ) → ¬ (ps ≡ event_fields (event.Show c))
IsOfNoEvent verb.End ps = ¬ (ps ≡ event_fields event.End)

-- a row is refused by this fault, for a cause that holds: its fields are none of it, or memory was refused
abbrev pub RefusesRow : Type 0 → LineFault → Type 0
RefusesRow none line_fault.Field = none
RefusesRow none line_fault.OutOfMemory = Unit {0}
RefusesRow none _ = ⊥
