use Rattle.std.proofs.Common.{◌≡◌, ◌+◌, ◌≤◌, ◌++◌, [], ◌∷◌, true, false, ℕ, List, cond, length, inl, inr, sym, ap, subst, ◌∙◌, append_assoc, arith}
use Rattle.std.specs.Vec.Iter.{into_iter_items}
use Rattle.side_effects.specs.ReachingLaws.{IsIn}
use Rattle.side_effects.specs.Removed.{removes}
use Rattle.side_effects.specs.Links.{Links, Sweeps}
use Rattle.side_effects.proofs.SweepLemmas.{sweeps_hit, length_more, in_pushed}
use Rattle.side_effects.proofs.removing.sweep.Goals as goal

pub links-preserved-then-removes : goal.links-preserved-then-removes
links-preserved-then-removes c =
    let left : Links = c.links.left.items in
    let rest : Links = into_iter_items c.next.new.self in
    let x : List ℕ × List ℕ = (c.in-Some.id, c.in-Some.holder) in
    let is : into_iter_items c.links.id-iterator ≡ x ∷ rest = c.in-Some.ensures.steps.0 in
    let hit : removes c.links.all x.1 ≡ true = ap (removes c.links.all) (sym c.as_str.ensures.bytes) ∙ sym c.removes.ensures ∙ c.if-removes.true in
    record {
      swept = λ links_of old before.
          subst (λ d. Sweeps links_of old (left ++ rest) d) (sym c.in_ok-put_removal.ensures)
          (sweeps_hit links_of old c.links.all left x rest (subst (λ r. Sweeps links_of old (left ++ r) c.links.all) is (c.links.invariant.swept links_of old before)) hit);
      free = λ never. absurd (let no : true ≡ false = never in (cc));
      fewer = let more = length_more left x rest in let whole = ap (λ r. length (left ++ r)) is in let known = c.links.invariant.fewer in omega arith;
    }

pub links-preserved : goal.links-preserved
links-preserved c =
    let left : Links = c.links.left.items in
    let rest : Links = into_iter_items c.next.new.self in
    let x : List ℕ × List ℕ = (c.in-Some.id, c.in-Some.holder) in
    let is : into_iter_items c.links.id-iterator ≡ x ∷ rest = c.in-Some.ensures.steps.0 in
    let miss : removes c.links.all x.1 ≡ false = ap (removes c.links.all) (sym c.as_str.ensures.bytes) ∙ sym c.removes.ensures ∙ c.if-removes.false in
    let pushed : c.push.new.self.items ≡ left ++ x ∷ [] = c.in_ok-push.ensures.items in
    let same : left ++ into_iter_items c.links.id-iterator ≡ c.push.new.self.items ++ rest =
    ap (λ r. left ++ r) is ∙ sym (append_assoc left (x ∷ []) rest) ∙ ap (λ r. r ++ rest) (sym pushed) in
    record {
      swept = λ links_of old before. subst (λ now. Sweeps links_of old now c.links.all) same (c.links.invariant.swept links_of old before);
      free = λ none l held holds. elim (in_pushed left x l (subst (λ xs. IsIn l xs) pushed held)) [
        | inl there ↦ c.links.invariant.free none l there holds
        | inr here ↦ absurd (let no : true ≡ false = sym holds ∙ ap (λ e. removes c.links.all e.1) here ∙ miss in (cc))
      ];
      fewer = subst (λ now. length now + cond c.links.found 1 0 ≤ length c.args.links.now.items) same c.links.invariant.fewer;
    }
