-- What an edit is completed to, or the first rule that refuses it.
use Rattle.std.specs.Prelude.{ℕ, nat_lt, length, List, [], ◌∷◌, if◌then◌else◌, is_some, Option, Some, None, option_map, option_and_then, Result, Ok, Err}
use Rattle.std.specs.Option.{option_map_or}
use Rattle.rooms_val.specs.Data.{Pairs}
use Rattle.rooms_val.specs.Maps.{value_at}
use Rattle.field_ops.specs.RecordOps.{RecordOpTree, put, patch, remove, RecordOps}
use Rattle.field_ops.specs.Patched.{raw}
use Rattle.schema_core.specs.Tree.{SchemaTree}
use Rattle.schema_core.specs.Admits.{is_document, first_fault}
use Rattle.doc_model.specs.Documents.{fold_raw}
use Rattle.side_effects.specs.Placed.{placed, unplaced, all_placed, and_then}
use Rattle.side_effects.specs.Removed.{with_removes}
use Rattle.side_effects.specs.Whole.{last_page, no_parent, under_itself, no_end}
use Rattle.side_effects.specs.declared.completion.TheConstants.{MOST_OPERATIONS}
use Rattle.side_effects.specs.declared.fault.EditFault.{EditFault}
use Rattle.side_effects.specs.declared.fault.EditFault.TheVariants.{TooMany, WrongScope, NoRecord, Invalid}
use Rattle.side_effects.specs.declared.rules.Rule.{Rule}
use Rattle.side_effects.specs.declared.rules.Rule.TheVariants as rule

-- the operation names an id that isn't of document scope
abbrev pub wrong_scope : SchemaTree → List ℕ → RecordOpTree → Option EditFault
wrong_scope s id c = if is_document s id then None else Some (WrongScope id)

-- the operation patches or removes a record that isn't there
abbrev pub no_record : Pairs → List ℕ → RecordOpTree → Option EditFault
no_record m id (put d) = None
no_record m id (patch p) = if is_some (value_at m id) then None else Some (NoRecord id)
no_record m id remove = if is_some (value_at m id) then None else Some (NoRecord id)

-- the operation leaves a record that isn't admitted, if nothing is passed over
abbrev pub invalid : SchemaTree → Pairs → List ℕ → RecordOpTree → Option EditFault
invalid s m id c = option_and_then (λ d. option_map (λ fault. Invalid id fault) (first_fault s id d)) (raw c (value_at m id))

-- what a rule says of the first operation that it refuses, which is the one of the least id
abbrev pub first_refusal : (List ℕ → RecordOpTree → Option EditFault) → RecordOps → Option EditFault
first_refusal rule [] = None
first_refusal rule (c ∷ diff) = option_map_or (λ fault. Some fault) (rule c.0 c.1) (first_refusal rule diff)

-- a refusal, or what comes after
abbrev pub unless : {A : Type 0} → Option EditFault → Result A EditFault → Result A EditFault
unless None next = next
unless (Some fault) next = Err fault

-- a refusal, or the next one
abbrev pub or_else : Option EditFault → Option EditFault → Option EditFault
or_else None next = next
or_else (Some fault) next = Some fault

-- what a rule says of an operation, of a document and of what a diff leaves of it
abbrev pub refuses : Rule → SchemaTree → Pairs → RecordOps → List ℕ → RecordOpTree → Option EditFault
refuses rule.Scope s m diff = wrong_scope s
refuses rule.There s m diff = no_record m
refuses rule.Admitted s m diff = invalid s m
refuses rule.Parent s m diff = no_parent (fold_raw m diff)
refuses rule.Chain s m diff = under_itself (fold_raw m diff)
refuses rule.Ends s m diff = no_end (fold_raw m diff)

-- why shapes don't stand where they may: one has no parent, or else one stands under itself
abbrev pub misplaced : Pairs → RecordOps → Option EditFault
misplaced after wanted = or_else (first_refusal (no_parent after) wanted) (first_refusal (under_itself after) wanted)

-- why shapes and bindings don't hang on what is there: shapes first, then bindings
abbrev pub unhung : Pairs → RecordOps → Option EditFault
unhung after wanted = or_else (misplaced after wanted) (first_refusal (no_end after) wanted)

-- why a document isn't whole after a diff in what the wanted one names: it lost its last page, or something isn't hung
abbrev pub not_whole : Pairs → RecordOps → RecordOps → Option EditFault
not_whole m wanted diff = or_else (last_page m (fold_raw m diff)) (unhung (fold_raw m diff) wanted)

-- the diff, or that it has too many operations
abbrev pub if_few : RecordOps → Result RecordOps EditFault
if_few diff = if nat_lt MOST_OPERATIONS (length diff) then Err TooMany else Ok diff

-- why an id is named wrongly: it isn't of document scope, or else there is no record to patch or remove
abbrev pub misnamed : SchemaTree → Pairs → RecordOps → Option EditFault
misnamed s m wanted = or_else (first_refusal (wrong_scope s) wanted) (first_refusal (no_record m) wanted)

-- what refuses an edit before its new shapes get indices: one of these, or else a record that isn't admitted
abbrev pub unfit : SchemaTree → Pairs → RecordOps → Option EditFault
unfit s m wanted = or_else (misnamed s m wanted) (first_refusal (invalid s m) (placed m wanted))

-- the wanted diff with the indices that new shapes get, or what refuses it or one of these
abbrev pub indexed : SchemaTree → Pairs → RecordOps → Result RecordOps EditFault
indexed s m wanted = unless (unfit s m wanted) (all_placed s m (placed m wanted) (unplaced m wanted))

-- the wanted diff with indices, and with removes of what goes, or the first rule that refuses it
abbrev pub completed : SchemaTree → Pairs → RecordOps → Result RecordOps EditFault
completed s m wanted =
    if nat_lt MOST_OPERATIONS (length wanted) then Err TooMany
    else and_then (indexed s m wanted) (λ diff. let all = with_removes m diff in unless (not_whole m wanted all) (if_few all))

-- nothing, or what is refused
abbrev pub refusal : Option EditFault → Result (Unit {0}) EditFault
refusal None = Ok tt
refusal (Some fault) = Err fault
