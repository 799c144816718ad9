use Rattle.std.proofs.Common.{◌≡◌, ℕ, List, Bool, true, false, nat_eq, cond, Some, get_or, length, drop, sym, ap, ◌+◌, ◌<◌, ◌∙◌}
use Rattle.std.specs.Cmp.Lexicographic.{pointwise}
use Rattle.rooms_val.specs.Maps.{value_at}
use Rattle.rooms_val.proofs.MapsLemmas.{at_one}
use Rattle.rooms_val.proofs.entries.first_at.Goals as goal

-- what is left of the pairs, once a text was compared with the key
left : {V : Type 0} (es : List (List ℕ × V)) (key : List ℕ) (i : ℕ) (e : List ℕ × V) → i < length es → e ≡ get_or es i e → (t : List ℕ) → t ≡ e.0 → (b : Bool) → b ≡ pointwise nat_eq t key
    → value_at (drop i es) key ≡ cond b (Some e.1) (value_at (drop (i + 1) es) key)
left es key i e within here t same b is =
    at_one es key i e within here ∙ ap (λ x. cond x (Some e.1) (value_at (drop (i + 1) es) key)) (ap (λ s. pointwise nat_eq s key) (sym same) ∙ sym is)

pub returns-then-eq : goal.returns-then-eq
returns-then-eq g c =
    sym (left c.args.entries.now c.args.key.now c.entries.text-index c.entries-item.result c.entries-test.true c.entries-item.is _ c.as_str.ensures.bytes true (sym c.if-eq.true ∙ c.eq.ensures)) ∙ c.entries.invariant

pub entries-preserved : goal.entries-preserved
entries-preserved g c =
    sym (left c.args.entries.now c.args.key.now c.entries.text-index c.entries-item.result c.entries-test.true c.entries-item.is _ c.as_str.ensures.bytes false (sym c.if-eq.false ∙ c.eq.ensures)) ∙ c.entries.invariant
