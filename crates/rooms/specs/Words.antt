-- What words of the command line ask of the program itself.
use Rattle.std.specs.Prelude.{ℕ, List, [], ◌∷◌, codes, if◌then◌else◌, Option, Some, None}
use Rattle.std.specs.Str.{bytes_eq}

-- the help or the version, where the word asks for it
abbrev pub text_of : List ℕ → List ℕ → List ℕ → Option (List ℕ)
text_of help version word = if bytes_eq word (codes "--help") then Some help else (if bytes_eq word (codes "--version") then Some version else None)

-- the same of the one word that there is
abbrev pub text_asked : List ℕ → List ℕ → List (List ℕ) → Option (List ℕ)
text_asked help version [] = None
text_asked help version (word ∷ []) = text_of help version word
text_asked help version (word ∷ next ∷ words) = None
