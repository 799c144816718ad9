use Rattle.std.proofs.Common.{◌≡◌, ℕ, List, ◌++◌, length, sym, ap, ◌∙◌, eq-eqb}
use Rattle.std.proofs.lemmas.Bool.{ne_eqb}
use Rattle.rooms_val.specs.Data.{Data, list, items_of}
use Rattle.field_ops.specs.Patched.{appended}
use Rattle.rooms_val.proofs.DataLemmas.{list_of-items_of}
use Rattle.field_ops.proofs.apply.appended_val.Goals as goal

acts : (ds es : List Data) (n : ℕ) → length es ≡ n → list (items_of (es ++ ds)) ≡ appended ds n (list (items_of es))
acts ds es n is = rw (list_of-items_of es, eq-eqb (length es) n is)

passes : (ds es : List Data) (n : ℕ) → (length es ≡ n → ⊥) → list (items_of es) ≡ appended ds n (list (items_of es))
passes ds es n other = rw (list_of-items_of es, ne_eqb (length es) n other)

pub returns-in_ok-join_lists-in-List : goal.returns-in_ok-join_lists-in-List
returns-in_ok-join_lists-in-List c =
    rw c.in-List.is (ap (λ ds. list (items_of ds)) c.in_ok-join_lists-in-List.ensures ∙ acts c.args.vals.now c.in-List.items c.args.offset (sym c.len.ensures.count ∙ c.if-len-offset.true))

pub returns-in_ok-copy-in-List : goal.returns-in_ok-copy-in-List
returns-in_ok-copy-in-List c =
    rw c.in-List.is (ap (λ ds. list (items_of ds)) c.in_ok-copy-in-List.ensures ∙ passes c.args.vals.now c.in-List.items c.args.offset (λ same. c.if-len-offset.false (c.len.ensures.count ∙ same)))
