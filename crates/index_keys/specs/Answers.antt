-- What a call's answer has to do with the defined one.
use Rattle.std.specs.Prelude.{◌≡◌, ◌≢◌, List, ℕ, Result, Ok, Err, map, string_bytes}
use Rattle.std.specs.declared.string.String.{String}
use Rattle.std.specs.declared.alloc.Global.{Global}
use Rattle.index_keys.specs.declared.fault.BetweenFault.{BetweenFault}
use Rattle.index_keys.specs.declared.fault.BetweenFault.TheVariants.{OutOfMemory}

-- the answer is the defined one, seen by view, unless memory ran out
abbrev pub Gives : {T D : Type 0} → (T → D)
    → Result T BetweenFault → Result D BetweenFault → Type 0
Gives view (Ok x) defined = defined ≡ Ok (view x)
Gives view (Err fault) defined = fault ≢ OutOfMemory → defined ≡ Err fault

-- the bytes of each text
abbrev pub texts : List (String Global) → List (List ℕ)
texts keys = map (λ key. string_bytes key) keys
