use Rattle.std.proofs.Common.{◌≡◌, ℕ, List, length, Some, None, sym, ap, ◌∙◌, eq-eqb}
use Rattle.std.proofs.lemmas.Bool.{ne_eqb}
use Rattle.rooms_val.specs.Data.{Data, list, items_of}
use Rattle.field_ops.specs.ValueOps.{put}
use Rattle.field_ops.specs.Inverses.{of_list}
use Rattle.rooms_val.proofs.DataLemmas.{list_of-items_of}
use Rattle.field_ops.proofs.inverses.undo_longer.Goals as goal

acts : (vs : List Data) (n : ℕ) → length vs ≡ n → Some (put (list (items_of vs))) ≡ of_list n (list (items_of vs))
acts vs n is = rw (list_of-items_of vs, eq-eqb (length vs) n is)

passes : (vs : List Data) (n : ℕ) → (length vs ≡ n → ⊥) → None ≡ of_list n (list (items_of vs))
passes vs n other = rw (list_of-items_of vs, ne_eqb (length vs) n other)

pub returns-in_ok-copy : goal.returns-in_ok-copy
returns-in_ok-copy c = ap (λ vs. Some (put (list (items_of vs)))) c.in_ok-copy.ensures ∙ acts c.args.items.now c.args.offset (sym c.len.ensures.count ∙ c.if-len-offset.true)

pub returns-else-len-offset : goal.returns-else-len-offset
returns-else-len-offset c = passes c.args.items.now c.args.offset (λ same. c.if-len-offset.false (c.len.ensures.count ∙ same))
