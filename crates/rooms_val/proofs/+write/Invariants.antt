use Rattle.std.proofs.Common.{◌≡◌, ◌++◌, drop}
use Rattle.rooms_val.specs.Data.{items_of, members_of}
use Rattle.rooms_val.specs.Json.{items_tokens, members_tokens}
use Rattle.rooms_val.specs.View.{items_view, pairs_view}
use Rattle.rooms_val.proofs.+write.Given as goal

-- what was written so far, with the tokens of what is left, is all that is to be written
abbrev pub invariant-vals::Vals::write_to-loop-item : goal.invariant-vals::Vals::write_to-loop-item
invariant-vals::Vals::write_to-loop-item l = (l.out.before ≡ l.initial.out.before) ×
    (l.out.tokens ++ items_tokens (items_of (items_view (drop l.item-index l.item-items))) ≡ l.initial.out.tokens ++ items_tokens (items_of (items_view l.item-items)))

abbrev pub invariant-fields::Fields::write_to-loop-key : goal.invariant-fields::Fields::write_to-loop-key
invariant-fields::Fields::write_to-loop-key l = (l.out.before ≡ l.initial.out.before) ×
    (l.out.tokens ++ members_tokens (members_of (pairs_view (drop l.key-index l.key-items))) ≡ l.initial.out.tokens ++ members_tokens (members_of (pairs_view l.key-items)))
