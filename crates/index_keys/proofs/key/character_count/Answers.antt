-- What `chars` yields is what the text's bytes spell.
use Rattle.std.proofs.Common.{rules}
use Rattle.std.proofs.lemmas.Str.{chars_from_encodes}
use Rattle.index_keys.proofs.key.character_count.Goals as goal

pub returns-clause-characters : goal.returns-clause-characters
returns-clause-characters c = search (rules, chars_from_encodes)
