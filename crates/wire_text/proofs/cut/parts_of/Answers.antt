use Rattle.std.proofs.Common.{◌≡◌, ◌++◌, ◌∷◌, [], List, ℕ, length, map, subst, sym, Bor, arith}
use Rattle.std.specs.Str.{IsUtf8}
use Rattle.std.proofs.lemmas.Str.{IsUtf8-drop}
use Rattle.std.proofs.lemmas.List.{map-append, append_assoc, append-nil, nil_from_length, take-append-drop}
use Rattle.std.proofs.lemmas.Bool.Decides.{nat_tests}
use Rattle.wire_text.specs.Cutting.{IsLongest, AreParts}
use Rattle.wire_text.proofs.cut.parts_of.Goals as goal

pub parts-preserved : goal.parts-preserved
parts-preserved c =
    let rest = c.parts.rest.now in
    let front = c.split_at.result.0 in
    let back = c.split_at.result.1.now in
    let longest : IsLongest rest (length front.now) = subst (IsLongest rest) (sym c.split_at.ensures.front_len) c.part_length.ensures in
    let joins : rest ≡ front.now ++ back = rw (c.split_at.ensures.front, c.split_at.ensures.back) (sym (take-append-drop c.part_length.result rest)) in
    let pushed : (more : List (List ℕ)) → map (λ part. part.now) c.parts.parts.items ++ (front.now ∷ more) ≡ map (λ part. part.now) c.push.new.self.items ++ more = λ more.
    rw (c.in_ok-push.ensures.items, map-append (λ (part : Bor (List ℕ)). part.now) c.parts.parts.items (front ∷ [])) (sym (append_assoc (map (λ part. part.now) c.parts.parts.items) (front.now ∷ []) more)) in (
      subst IsUtf8 (sym c.split_at.ensures.back) (IsUtf8-drop rest c.part_length.result c.parts.invariant.0 c.part_length.ensures.whole),
      λ more are. subst (AreParts c.args.text.now) (pushed more) (c.parts.invariant.1 (front.now ∷ more) (back, joins, longest, are)),
    )

pub returns : goal.returns
returns c =
    let ends : c.parts.rest.now ≡ [] = nil_from_length _ (grind (arith, nat_tests, c.is_empty.ensures, c.parts-test.false)) in
    subst (AreParts c.args.text.now) (append-nil _) (c.parts.invariant.1 [] ends)
