-- What a tree of keys stands for.
use Rattle.std.specs.Prelude.{List, string_bytes, map}
use Rattle.std.specs.declared.string.String.{String}
use Rattle.tl_rules.specs.declared.key.TlKey.{TlKey}
use Rattle.record_store.specs.Seen.{Keys}

-- keys under texts
abbrev pub keys_view : {Y : Type 0} → List (String Y × TlKey) → Keys
keys_view entries = map (λ e. (string_bytes e.0, e.1)) entries
