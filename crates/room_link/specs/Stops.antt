-- Why a call on a link, or on what accepts links, returned no value.
use Rattle.std.specs.Prelude.{◌≡◌, ⊤, Result, Ok, Err}
use Rattle.room_link.specs.declared.passing.Stop.{Stop}
use Rattle.room_link.specs.declared.passing.Stop.TheVariants.{Failed, OutOfMemory}

-- the call returned that there was a fault
abbrev pub IsFailed : {A : Type 0} → Result A Stop → Type 0
IsFailed result = result ≡ Err Failed

-- where the call returned that there was a fault, this holds
abbrev pub OnFailed : {A : Type 0} → Result A Stop → Type 0 → Type 0
OnFailed (Ok value) fact = ⊤
OnFailed (Err Failed) fact = fact
OnFailed (Err OutOfMemory) fact = ⊤
