-- How large a document is.
use Rattle.std.specs.Prelude.{ℕ, ◌+◌, ◌-◌, nat_le, List, Bool, ◌&&◌, Option, length, map, sum}
use Rattle.rooms_val.specs.Data.{Data, Pairs}
use Rattle.rooms_val.specs.Weight.{weight}
use Rattle.room_model.specs.Schemas.{records_with}
use Rattle.room_model.specs.declared.limits.TheConstants.{MOST_RECORDS, MOST_WEIGHT}
use Rattle.room_accept.specs.Measures.{count_of, weight_of}
use Rattle.room_accept.specs.declared.size.DocumentSize.{DocumentSize}

-- how many of the records are the document's, by a test on ids, and what those weigh together
abbrev pub size_of : (List ℕ → Bool) → Pairs → DocumentSize
size_of is_document m = let document = records_with is_document m in record { count = length document; weight = sum (map (λ p. weight p.1) document) }

-- the size after one of the records, or the lack of one, becomes another
abbrev pub size_after : DocumentSize → Option Data → Option Data → DocumentSize
size_after size before after = record { count = (size.count - count_of before) + count_of after; weight = (size.weight - weight_of before) + weight_of after }

-- a document of this size is within the limits
abbrev pub is_within : DocumentSize → Bool
is_within size = nat_le size.count MOST_RECORDS && nat_le size.weight MOST_WEIGHT
