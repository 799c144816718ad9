-- The JSON of a value, part by part.
use Rattle.std.proofs.Common.{◌≡◌, ℕ, suc, ◌≤◌, T, false, List, [], ◌∷◌, max, Option, Some, option_map, option_and_then, Less, Greater, refl, sym, ap, ◌∙◌, arith, append-nil}
use Rattle.std.specs.Prelude.{pos, negsuc, ℤ}
use Rattle.std.specs.FinMap.Entries.{below_all}
use Rattle.std.proofs.lemmas.Bool.Decides.{nat_tests}
use Rattle.json.specs.Json as grammar
use Rattle.json.specs.Lex.{tokens}
use Rattle.json.specs.Token.{Token}
use Rattle.json.specs.Tree as tree
use Rattle.json.proofs.Printed.Trees.{value-json_tokens}
use Rattle.serde_json.specs.Data as json
use Rattle.serde_json.specs.Find.{of_integer}
use Rattle.serde_json.specs.Read.{read, number_of, of_json, of_items, of_members, max_depth}
use Rattle.serde_json.specs.Written.{has_float, items_have_float, members_have_float, number_text, outline, items_outline, members_outline}
use Rattle.serde_json.proofs.Numbers.{number_of-decimal, number_of-negative}
use Rattle.rooms_val.specs.Data.{Data, null, boolean, whole, text, list, map as map', Items, no_items, item, Members, no_members, member, pairs_of, depth, items_depth, members_depth, IsSound, AreSoundItems, AreSoundMembers}
use Rattle.rooms_val.specs.Json.{json_of, json_items, json_members, is_within, items_are_within, members_are_within, is_in_range, value_in, items_in, members_in, whole_of, tokens_of}
use Rattle.rooms_val.specs.Maps.{order, AreRising}
use Rattle.rooms_val.proofs.MapsLemmas.{first, second, less, flipped}

no_float : (z : ℤ) → has_float (json.number (of_integer z)) ≡ false
no_float (pos n) = refl
no_float (negsuc n) = refl

mutual
  pub has_float-json_of : (d : Data) → has_float (json_of d) ≡ false
  has_float-json_of null = refl
  has_float-json_of (boolean b) = refl
  has_float-json_of (whole z) = no_float z
  has_float-json_of (text s) = refl
  has_float-json_of (list ds) = items_have_float-json ds
  has_float-json_of (map' ms) = members_have_float-json ms

  items_have_float-json : (ds : Items) → items_have_float (json_items ds) ≡ false
  items_have_float-json no_items = refl
  items_have_float-json (item d ds) = rw (has_float-json_of d) (items_have_float-json ds)

  members_have_float-json : (ms : Members) → members_have_float (json_members ms) ≡ false
  members_have_float-json no_members = refl
  members_have_float-json (member k d ms) = rw (has_float-json_of d) (members_have_float-json ms)

mutual
  pub depth-json_of : (d : Data) → json.depth (json_of d) ≡ depth d
  depth-json_of null = refl
  depth-json_of (boolean b) = refl
  depth-json_of (whole z) = refl
  depth-json_of (text s) = refl
  depth-json_of (list ds) = ap suc (items_depth-json ds)
  depth-json_of (map' ms) = ap suc (members_depth-json ms)

  items_depth-json : (ds : Items) → json.items_depth (json_items ds) ≡ items_depth ds
  items_depth-json no_items = refl
  items_depth-json (item d ds) = λ i. max (depth-json_of d i) (items_depth-json ds i)

  members_depth-json : (ms : Members) → json.members_depth (json_members ms) ≡ members_depth ms
  members_depth-json no_members = refl
  members_depth-json (member k d ms) = λ i. max (depth-json_of d i) (members_depth-json ms i)

whole_again : (z : ℤ) → T (is_in_range (of_integer z)) → whole_of (of_integer z) ≡ z
whole_again (pos n) within = grind (arith, nat_tests)
whole_again (negsuc n) within = refl

mutual
  pub value_in-json_of : (d : Data) → T (is_within (json_of d)) → value_in (json_of d) ≡ d
  value_in-json_of null within = refl
  value_in-json_of (boolean b) within = refl
  value_in-json_of (whole z) within = ap whole (whole_again z within)
  value_in-json_of (text s) within = refl
  value_in-json_of (list ds) within = ap list (items_in-json ds within)
  value_in-json_of (map' ms) within = ap map' (members_in-json ms within)

  items_in-json : (ds : Items) → T (items_are_within (json_items ds)) → items_in (json_items ds) ≡ ds
  items_in-json no_items within = refl
  items_in-json (item d ds) within = λ i. item (value_in-json_of d (first _ _ within) i) (items_in-json ds (second _ _ within) i)

  members_in-json : (ms : Members) → T (members_are_within (json_members ms)) → members_in (json_members ms) ≡ ms
  members_in-json no_members within = refl
  members_in-json (member k d ms) within = λ i. member k (value_in-json_of d (first _ _ within) i) (members_in-json ms (second _ _ within) i)

-- ---- what the tokens of a value are read as

number_again : (z : ℤ) → T (is_in_range (of_integer z)) → number_of (number_text (of_integer z)) ≡ Some (of_integer z)
number_again (pos n) within = number_of-decimal n (grind (arith, nat_tests))
number_again (negsuc n) within = number_of-negative n (grind (arith, nat_tests))

-- the key is above those of the members
abbrev IsAbove : List ℕ → json.Members → Type 0
IsAbove k json.no_members = Unit {0}
IsAbove k (json.member l j ms) = (order k l ≡ Greater) × IsAbove k ms

-- the first members with the others after them
abbrev followed : json.Members → json.Members → json.Members
followed json.no_members more = more
followed (json.member k j ms) more = json.member k j (followed ms more)

followed_next : (done : json.Members) (k : List ℕ) (j : json.Data) (more : json.Members) → followed (followed done (json.member k j json.no_members)) more ≡ followed done (json.member k j more)
followed_next json.no_members k j more = refl
followed_next (json.member l i ms) k j more = ap (json.member l i) (followed_next ms k j more)

followed_none : (done : json.Members) → followed done json.no_members ≡ done
followed_none json.no_members = refl
followed_none (json.member l i ms) = ap (json.member l i) (followed_none ms)

-- a key that is above those before it goes last
put_above : (k : List ℕ) (j : json.Data) (done : json.Members) → IsAbove k done → json.put k j done ≡ followed done (json.member k j json.no_members)
put_above k j json.no_members above = refl
put_above k j (json.member l i ms) above = rw above.0 (ap (json.member l i) (put_above k j ms above.1))

-- each key of the pairs is above those of the members
abbrev AreAbove : List (List ℕ × Data) → json.Members → Type 0
AreAbove [] done = Unit {0}
AreAbove (p ∷ ps) done = IsAbove p.0 done × AreAbove ps done

above_next : (k l : List ℕ) (j : json.Data) (done : json.Members) → IsAbove k done → order k l ≡ Greater → IsAbove k (followed done (json.member l j json.no_members))
above_next k l j json.no_members above one = (one, tt)
above_next k l j (json.member m i ms) above one = (above.0, above_next k l j ms above.1 one)

all_above_next : (l : List ℕ) (j : json.Data) (ps : List (List ℕ × Data)) (done : json.Members) → T (below_all order l ps) → AreAbove ps done → AreAbove ps (followed done (json.member l j json.no_members))
all_above_next l j [] done below above = tt
all_above_next l j (p ∷ ps) done below above =
    let one = flipped l p.0 Less (less (order l p.0) (first _ _ below)) in
    (above_next p.0 l j done above.0 one, all_above_next l j ps done (second _ _ below) above.1)

all_above_none : (ps : List (List ℕ × Data)) → AreAbove ps json.no_members
all_above_none [] = tt
all_above_none (p ∷ ps) = (tt, all_above_none ps)

mutual
  -- the outline of a sound value in range is read as its JSON
  pub of_json-outline : (d : Data) → IsSound d → T (is_within (json_of d)) → of_json (outline (json_of d)) ≡ Some (json_of d)
  of_json-outline null sound within = refl
  of_json-outline (boolean b) sound within = refl
  of_json-outline (whole z) sound within = ap (option_map json.number) (number_again z within)
  of_json-outline (text s) sound within = refl
  of_json-outline (list ds) sound within = ap (option_map json.array) (of_items-outline ds sound within)
  of_json-outline (map' ms) sound within = ap (option_map json.object) (of_members-outline ms json.no_members sound.0 (all_above_none (pairs_of ms)) sound.1 within)

  of_items-outline : (ds : Items) → AreSoundItems ds → T (items_are_within (json_items ds)) → of_items (items_outline (json_items ds)) ≡ Some (json_items ds)
  of_items-outline no_items sound within = refl
  of_items-outline (item d ds) sound within =
      ap (option_and_then (λ j. option_map (json.item j) (of_items (items_outline (json_items ds))))) (of_json-outline d sound.0 (first _ _ within))
      ∙ ap (option_map (json.item (json_of d))) (of_items-outline ds sound.1 (second _ _ within))

  of_members-outline : (ms : Members) (done : json.Members) → AreRising (pairs_of ms) → AreAbove (pairs_of ms) done → AreSoundMembers ms → T (members_are_within (json_members ms))
      → of_members (members_outline (json_members ms)) done ≡ Some (followed done (json_members ms))
  of_members-outline no_members done rising above sound within = ap Some (sym (followed_none done))
  of_members-outline (member k d ms) done rising above sound within =
      let last = put_above k (json_of d) done above.0 in
      let left = all_above_next k (json_of d) (pairs_of ms) done (first _ _ rising) above.1 in
      ap (option_and_then (λ j. of_members (members_outline (json_members ms)) (json.put k j done))) (of_json-outline d sound.0 (first _ _ within))
      ∙ ap (of_members (members_outline (json_members ms))) last
      ∙ of_members-outline ms (followed done (json.member k (json_of d) json.no_members)) (second _ _ rising) left sound.1 (second _ _ within)
      ∙ ap Some (followed_next done k (json_of d) (json_members ms))

-- JSON without its floats' texts is as deep as with them
mutual
  depth-outline : (j : json.Data) → tree.depth (outline j) ≡ json.depth j
  depth-outline json.null = refl
  depth-outline (json.boolean b) = refl
  depth-outline (json.number n) = refl
  depth-outline (json.string s) = refl
  depth-outline (json.array js) = ap suc (items_depth-outline js)
  depth-outline (json.object ms) = ap suc (members_depth-outline ms)

  items_depth-outline : (js : json.Items) → tree.items_depth (items_outline js) ≡ json.items_depth js
  items_depth-outline json.no_items = refl
  items_depth-outline (json.item j js) = λ i. max (depth-outline j i) (items_depth-outline js i)

  members_depth-outline : (ms : json.Members) → tree.members_depth (members_outline ms) ≡ json.members_depth ms
  members_depth-outline json.no_members = refl
  members_depth-outline (json.member k j ms) = λ i. max (depth-outline j i) (members_depth-outline ms i)

-- the data of some JSON after which no token stands
abbrev data_alone : Option (grammar.Json × List Token) → Option json.Data
data_alone parsed = option_and_then of_json (option_and_then (λ p. grammar.if_last p.0 p.1) parsed)

-- text with the tokens of a sound value in range is read as its JSON
pub read-tokens_of : (d : Data) (bytes : List ℕ) → tokens bytes ≡ tokens_of d → IsSound d → T (is_within (json_of d)) → json.depth (json_of d) ≤ max_depth → read bytes ≡ Some (json_of d)
read-tokens_of d bytes same sound within shallow =
    let flat : tree.depth (outline (json_of d)) ≤ max_depth = rw (depth-outline (json_of d)) shallow in
    ap data_alone (ap (grammar.value max_depth) (same ∙ sym (append-nil _)) ∙ value-json_tokens (outline (json_of d)) max_depth [] flat) ∙ of_json-outline d sound within
