-- The text of each fault. `OutOfMemory` alone has none.
use Rattle.std.specs.Prelude.{ℕ, List, [], ◌∷◌, ◌++◌, codes, Option, Some, None, option_map}
use Rattle.rooms_val.specs.declared.fault.ValFault.{ValFault}
use Rattle.rooms_val.specs.declared.fault.ValFault.TheVariants as val
use Rattle.index_keys.specs.declared.fault.BetweenFault.{BetweenFault}
use Rattle.index_keys.specs.declared.fault.BetweenFault.TheVariants as between
use Rattle.record_valid.specs.declared.reject.RejectKind.{RejectKind}
use Rattle.record_valid.specs.declared.reject.RejectKind.TheVariants as reject
use Rattle.schema_core.specs.declared.fault.RecordFault.{RecordFault}
use Rattle.schema_core.specs.declared.fault.RecordFault.TheVariants as of_record
use Rattle.side_effects.specs.declared.fault.EditFault.{EditFault}
use Rattle.side_effects.specs.declared.fault.EditFault.TheVariants as edit
use Rattle.room_model.specs.declared.clip_fault.ClipFault.{ClipFault}
use Rattle.room_model.specs.declared.clip_fault.ClipFault.TheVariants as clip
use Rattle.room_model.specs.declared.clip_fault.PasteFault.{PasteFault}
use Rattle.room_model.specs.declared.clip_fault.PasteFault.TheVariants as paste
use Rattle.room_model.specs.declared.fault.ConnectFault.{ConnectFault}
use Rattle.room_model.specs.declared.fault.ConnectFault.TheVariants as connect
use Rattle.room_model.specs.declared.fault.StepFault.{StepFault}
use Rattle.room_model.specs.declared.fault.StepFault.TheVariants as step
use Rattle.room_model.specs.declared.load_fault.LoadFault.{LoadFault}
use Rattle.room_model.specs.declared.load_fault.LoadFault.TheVariants as load
use Rattle.migrate_seq.specs.declared.fault.PlanFault.{PlanFault}
use Rattle.migrate_seq.specs.declared.fault.PlanFault.TheVariants as plan
use Rattle.room_snapshot.specs.declared.fault.SnapFault.{SnapFault}
use Rattle.room_snapshot.specs.declared.fault.SnapFault.TheVariants as snap
use Rattle.rec_format.specs.Outs.{reason_text}
use Rattle.rec_format.specs.declared.fault.LineFault.{LineFault}
use Rattle.rec_format.specs.declared.fault.LineFault.TheVariants as of_line

-- two texts with a space between them
abbrev pub with_word : List ℕ → List ℕ → List ℕ
with_word first second = first ++ 32 ∷ second

-- the name of the fault of a value
abbrev pub val_fault_text : ValFault → Option (List ℕ)
val_fault_text val.BadJson = Some (codes "BadJson")
val_fault_text val.NotWhole = Some (codes "NotWhole")
val_fault_text val.OutOfRange = Some (codes "OutOfRange")
val_fault_text val.TooDeep = Some (codes "TooDeep")
val_fault_text val.OutOfMemory = None

-- the text of a line's fault; that of its value has the value's
abbrev pub line_fault_text : LineFault → Option (List ℕ)
line_fault_text of_line.LineTooLong = Some (codes "LineTooLong")
line_fault_text (of_line.Val fault) = val_fault_text fault
line_fault_text of_line.NoHeader = Some (codes "NoHeader")
line_fault_text of_line.UnknownEvent = Some (codes "UnknownEvent")
line_fault_text of_line.Field = Some (codes "Field")
line_fault_text of_line.OutOfMemory = None

-- the name of a kind of rejection
abbrev pub reject_text : RejectKind → List ℕ
reject_text reject.Missing = codes "Missing"
reject_text reject.Extra = codes "Extra"
reject_text reject.WrongKind = codes "WrongKind"
reject_text reject.OutOfBounds = codes "OutOfBounds"
reject_text reject.NotListed = codes "NotListed"
reject_text reject.BadKey = codes "BadKey"
reject_text reject.BadId = codes "BadId"

-- why a record isn't admitted
abbrev pub record_fault_text : RecordFault → List ℕ
record_fault_text of_record.BadId = codes "BadId"
record_fault_text of_record.UnknownType = codes "UnknownType"
record_fault_text (of_record.Rejected r) = reject_text r.kind
record_fault_text of_record.TooHeavy = codes "TooHeavy"

-- a record that isn't admitted under its id
abbrev pub invalid_text : List ℕ → RecordFault → List ℕ
invalid_text id fault = with_word (with_word (codes "Invalid") id) (record_fault_text fault)

-- why there is no key between two
abbrev pub between_fault_text : BetweenFault → Option (List ℕ)
between_fault_text between.NotKey = Some (codes "NotKey")
between_fault_text between.NotLess = Some (codes "NotLess")
between_fault_text between.NoRoom = Some (codes "NoRoom")
between_fault_text between.KeyTooLong = Some (codes "KeyTooLong")
between_fault_text between.OutOfMemory = None

-- why a shape that is added gets no key
abbrev pub no_key_text : BetweenFault → Option (List ℕ)
no_key_text fault = option_map (with_word (codes "NoKey")) (between_fault_text fault)

-- the text of an edit's fault, with the id that it carries
abbrev pub edit_fault_text : EditFault → Option (List ℕ)
edit_fault_text edit.TooMany = Some (codes "TooMany")
edit_fault_text (edit.WrongScope id) = Some (with_word (codes "WrongScope") id)
edit_fault_text (edit.NoRecord id) = Some (with_word (codes "NoRecord") id)
edit_fault_text (edit.Invalid id fault) = Some (invalid_text id fault)
edit_fault_text (edit.NoKey fault) = no_key_text fault
edit_fault_text edit.LastPage = Some (codes "LastPage")
edit_fault_text (edit.NoParent id) = Some (with_word (codes "NoParent") id)
edit_fault_text (edit.UnderItself id) = Some (with_word (codes "UnderItself") id)
edit_fault_text (edit.NoEnd id) = Some (with_word (codes "NoEnd") id)
edit_fault_text edit.OutOfMemory = None

-- why a client can't connect
abbrev pub connect_fault_text : ConnectFault → Option (List ℕ)
connect_fault_text connect.AlreadyOpen = Some (codes "AlreadyOpen")
connect_fault_text (connect.Refused reason) = Some (with_word (codes "Refused") (reason_text reason))
connect_fault_text connect.OutOfMemory = None

-- why there is nothing to copy
abbrev pub clip_fault_text : ClipFault → Option (List ℕ)
clip_fault_text (clip.NoShape id) = Some (with_word (codes "NoShape") id)
clip_fault_text (clip.Doubled id) = Some (with_word (codes "Doubled") id)
clip_fault_text clip.TooMany = Some (codes "TooMany")
clip_fault_text clip.OutOfMemory = None

-- why a clip isn't pasted
abbrev pub paste_fault_text : PasteFault → Option (List ℕ)
paste_fault_text (paste.Taken id) = Some (with_word (codes "Taken") id)
paste_fault_text (paste.NoKey fault) = no_key_text fault
paste_fault_text paste.OutOfMemory = None

-- why an event can't happen
abbrev pub step_fault_text : StepFault EditFault → Option (List ℕ)
step_fault_text step.NoSuchClient = Some (codes "NoSuchClient")
step_fault_text step.NoSuchSession = Some (codes "NoSuchSession")
step_fault_text step.NothingThere = Some (codes "NothingThere")
step_fault_text (step.Edit fault) = edit_fault_text fault
step_fault_text (step.Connect fault) = connect_fault_text fault
step_fault_text step.NoMark = Some (codes "NoMark")
step_fault_text step.Limit = Some (codes "Limit")
step_fault_text (step.Clip fault) = clip_fault_text fault
step_fault_text step.NoClip = Some (codes "NoClip")
step_fault_text (step.Paste fault) = paste_fault_text fault
step_fault_text step.OutOfMemory = None

-- the text of the fault of a line that is no saved room's; that of its value has the value's
abbrev pub snap_fault_text : SnapFault → Option (List ℕ)
snap_fault_text snap.LineTooLong = Some (codes "LineTooLong")
snap_fault_text (snap.Val fault) = val_fault_text fault
snap_fault_text snap.Shape = Some (codes "Shape")
snap_fault_text snap.OutOfMemory = None

-- why there is no plan: with the sequence at fault
abbrev pub plan_fault_text : PlanFault → Option (List ℕ)
plan_fault_text (plan.TooNew name) = Some (with_word (codes "TooNew") name)
plan_fault_text (plan.UnknownSequence name) = Some (with_word (codes "UnknownSequence") name)
plan_fault_text plan.OutOfMemory = None

-- the text of a record or a removed id that is refused
abbrev pub bad_record_text : List ℕ → List ℕ
bad_record_text id = with_word (codes "BadRecord") id

-- why no room begins from a saved one
abbrev pub load_fault_text : LoadFault → Option (List ℕ)
load_fault_text load.Clocks = Some (codes "Clocks")
load_fault_text (load.BadRecord id) = Some (bad_record_text id)
load_fault_text load.TooLarge = Some (codes "TooLarge")
load_fault_text load.OutOfMemory = None
