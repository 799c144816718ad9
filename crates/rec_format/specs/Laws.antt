-- The laws of lines, each the contract of a function of `laws.rt`.
use Rattle.std.specs.Prelude.{◌≡◌, ℕ, List, Result, IfOk, IfErr, MatchResult}
use Rattle.view_vals.specs.Laws.{AskTheSame}
use Rattle.room_model.specs.declared.event.Header.{Header}
use Rattle.rec_format.specs.Events.{header_val}
use Rattle.rec_format.specs.Lines.{IsEvent, IsHeader, RefusesLine, RefusesHeader}
use Rattle.rec_format.specs.Recorded.{recorded_val}
use Rattle.rec_format.specs.declared.fault.LineFault.{LineFault}
use Rattle.rec_format.specs.declared.fault.LineFault.TheVariants as line_fault
use Rattle.rec_format.specs.declared.recorded.RecordedEvent.{RecordedEvent}
use Rattle.rec_format.specs.declared.recorded.RecordedEvent.TheVariants as recorded

-- two events are the same, but for where in memory the parts of a query stand: both ask the same then
abbrev pub IsSame : RecordedEvent → RecordedEvent → Type 0
IsSame (recorded.World a) (recorded.World b) = a ≡ b
IsSame (recorded.Watch c view) (recorded.Watch c' view') = (c ≡ c') × (view ≡ view')
IsSame (recorded.Query c type query) (recorded.Query c' type' query') = (c ≡ c') × (type ≡ type') × AskTheSame query query'
IsSame _ _ = ⊥

-- each value is that of one event at most
abbrev pub OneEventEach : Type 0
OneEventEach = (a b : RecordedEvent) → recorded_val a ≡ recorded_val b → IsSame a b

-- each value is that of one header at most
abbrev pub OneHeaderEach : Type 0
OneHeaderEach = (a b : Header) → header_val a ≡ header_val b → a ≡ b

-- for a line that stands for an event, a result that keeps the contract of `read_line` is the same event, or `OutOfMemory`
abbrev pub ReadsTheEvent : Type 0
ReadsTheEvent = (line : List ℕ) (r : Result RecordedEvent LineFault) → IfOk r (IsEvent line) → IfErr r (RefusesLine line)
    → (e : RecordedEvent) → IsEvent line e → MatchResult r (λ x. IsSame x e) (λ f. f ≡ line_fault.OutOfMemory)

-- the same of `read_header`
abbrev pub ReadsTheHeader : Type 0
ReadsTheHeader = (line : List ℕ) (r : Result Header LineFault) → IfOk r (IsHeader line) → IfErr r (RefusesHeader line)
    → (h : Header) → IsHeader line h → MatchResult r (λ x. x ≡ h) (λ f. f ≡ line_fault.OutOfMemory)
