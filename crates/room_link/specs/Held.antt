-- What a write does to the bytes that a sink holds, where it tells them.
use Rattle.std.specs.Prelude.{◌≡◌, ℕ, List, [], ◌++◌, take, ⊤, Option, None, Some, Result, Ok, Err}

-- where the new content is told, the old one was told too, and the new is the old followed by the added bytes
abbrev pub Extends : Option (List ℕ) → Option (List ℕ) → List ℕ → Type 0
Extends old None added = ⊤
Extends None (Some new) added = ⊥
Extends (Some old) (Some new) added = new ≡ old ++ added

-- the bytes that a write took: a front of what it was given, and none where it failed
abbrev pub taken_of : {E : Type 0} → Result ℕ E → List ℕ → List ℕ
taken_of (Ok n) bytes = take n bytes
taken_of (Err e) bytes = []
