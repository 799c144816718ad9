-- A value that is read has no more parts than its text has bytes.
use Rattle.std.proofs.Common.{◌≡◌, ℕ, zero, suc, ◌+◌, ◌≤◌, Bool, true, false, not, nat_lt, if◌then◌else◌, List, [], ◌∷◌, length, Option, Some, None, option_map, option_and_then, Result, Ok, Err, Ordering, Less, Equal, Greater, refl, ap, arith}
use Rattle.std.specs.Prelude.{⊤}
use Rattle.std.specs.Option.{ok_or}
use Rattle.std.specs.Ordering.{match_ordering}
use Rattle.std.specs.Str.{is_utf8}
use Rattle.json.specs.Token.{Token}
use Rattle.json.specs.Lex.{Lexeme, token, comma, colon, Class, quote, backslash, operator, space, other, class, Mode, between, in_word, in_string, in_escape, lex_byte, lex, Place, fresh, after_value, after_comma, after_key, begins_colon, may_begin, may_close, if_allowed, place_token, punctuate, tokens}
use Rattle.json.specs.Json as text
use Rattle.json.specs.Json.{Parse, parse_map, after_end_array, read_key, items_step, members_step, items, members, value_with, value}
use Rattle.json.proofs.Grammar.{after_end_array-shorter, read_key-shorter}
use Rattle.serde_json.specs.Data as json
use Rattle.serde_json.specs.Read.{number_of, of_json, of_items, of_members, max_depth, read}
use Rattle.serde_json.specs.Written.{has_float}
use Rattle.rooms_val.specs.Data as data'
use Rattle.rooms_val.specs.Data.{Data}
use Rattle.rooms_val.specs.Json.{value_of, value_in, items_in, members_in, checked_if_read, is_within, deepest}
use Rattle.rooms_val.specs.declared.fault.ValFault.{ValFault}
use Rattle.rooms_val.specs.declared.fault.ValFault.TheVariants as fault

-- ---- a text has at most one token for each byte, and one more

byte_adds : (m : Mode) (c : Class) (x : ℕ) (xs : List ℕ) (k : Mode → List Lexeme) (n : ℕ) → ((next : Mode) → length (k next) ≤ n) → length (lex_byte m c x xs k) ≤ suc n
byte_adds between quote x xs k n h = let a = h in_string in omega arith
byte_adds between backslash x xs k n h = let a = h in_word in omega arith
byte_adds between operator x xs k n h = let a = h between in omega arith
byte_adds between space x xs k n h = let a = h between in omega arith
byte_adds between other x xs k n h = let a = h in_word in omega arith
byte_adds in_word quote x xs k n h = let a = h in_word in omega arith
byte_adds in_word backslash x xs k n h = let a = h in_word in omega arith
byte_adds in_word operator x xs k n h = let a = h between in omega arith
byte_adds in_word space x xs k n h = let a = h between in omega arith
byte_adds in_word other x xs k n h = let a = h in_word in omega arith
byte_adds in_string quote x xs k n h = let a = h between in omega arith
byte_adds in_string backslash x xs k n h = let a = h in_escape in omega arith
byte_adds in_string operator x xs k n h = let a = h in_string in omega arith
byte_adds in_string space x xs k n h = let a = h in_string in omega arith
byte_adds in_string other x xs k n h = let a = h in_string in omega arith
byte_adds in_escape c x xs k n h = let a = h in_string in omega arith

few_lexemes : (m : Mode) (xs : List ℕ) → length (lex m xs) ≤ length xs
unfolding lex
few_lexemes m [] = omega arith
few_lexemes m (x ∷ xs) = byte_adds m (class x) x xs (λ next. lex next xs) (length xs) (λ next. few_lexemes next xs)

allowed_adds : (b : Bool) (t : Token) (k : Place → List Token) (next : Place) (n : ℕ) → ((next : Place) → length (k next) ≤ suc n) → length (if_allowed b t k next) ≤ suc (suc n)
allowed_adds true t k next n h = let a = h next in omega arith
allowed_adds false t k next n h = omega arith

token_adds : (p : Place) (t : Token) (before : Bool) (k : Place → List Token) (n : ℕ) → ((next : Place) → length (k next) ≤ suc n) → length (place_token p t before k) ≤ suc (suc n)
token_adds p Token.begin_object before k n h = allowed_adds (may_begin p) Token.begin_object k fresh n h
token_adds p Token.end_object before k n h = allowed_adds (may_close p) Token.end_object k after_value n h
token_adds p Token.begin_array before k n h = allowed_adds (may_begin p) Token.begin_array k fresh n h
token_adds p Token.end_array before k n h = allowed_adds (may_close p) Token.end_array k after_value n h
token_adds p (Token.key s) before k n h = omega arith
token_adds p (Token.string s) true k n h = allowed_adds (may_begin p) (Token.key s) k after_key n h
token_adds p (Token.string s) false k n h = allowed_adds (may_begin p) (Token.string s) k after_value n h
token_adds p (Token.number s) before k n h = allowed_adds (may_begin p) (Token.number s) k after_value n h
token_adds p (Token.boolean b) before k n h = allowed_adds (may_begin p) (Token.boolean b) k after_value n h
token_adds p Token.null before k n h = allowed_adds (may_begin p) Token.null k after_value n h
token_adds p Token.bad before k n h = omega arith

few_tokens : (p : Place) (ls : List Lexeme) → length (punctuate p ls) ≤ suc (length ls)
unfolding punctuate
few_tokens fresh [] = omega arith
few_tokens after_value [] = omega arith
few_tokens after_comma [] = omega arith
few_tokens after_key [] = omega arith
few_tokens fresh (token t ∷ ls) = token_adds fresh t (begins_colon ls) (λ next. punctuate next ls) (length ls) (λ next. few_tokens next ls)
few_tokens after_value (token t ∷ ls) = token_adds after_value t (begins_colon ls) (λ next. punctuate next ls) (length ls) (λ next. few_tokens next ls)
few_tokens after_comma (token t ∷ ls) = token_adds after_comma t (begins_colon ls) (λ next. punctuate next ls) (length ls) (λ next. few_tokens next ls)
few_tokens after_key (token t ∷ ls) = token_adds after_key t (begins_colon ls) (λ next. punctuate next ls) (length ls) (λ next. few_tokens next ls)
few_tokens fresh (comma ∷ ls) = omega arith
few_tokens after_value (comma ∷ ls) = let a = few_tokens after_comma ls in omega arith
few_tokens after_comma (comma ∷ ls) = omega arith
few_tokens after_key (comma ∷ ls) = omega arith
few_tokens fresh (colon ∷ ls) = omega arith
few_tokens after_value (colon ∷ ls) = omega arith
few_tokens after_comma (colon ∷ ls) = omega arith
few_tokens after_key (colon ∷ ls) = let a = few_tokens fresh ls in omega arith

-- ---- a value has at most one part for each token

abbrev mutual
  parts : text.Json → ℕ
  parts text.null = 1
  parts (text.boolean b) = 1
  parts (text.number s) = 1
  parts (text.string s) = 1
  parts (text.array js) = suc (items_parts js)
  parts (text.object ms) = suc (members_parts ms)

  items_parts : text.Items → ℕ
  items_parts text.no_items = 0
  items_parts (text.item j js) = parts j + items_parts js

  members_parts : text.Members → ℕ
  members_parts text.no_members = 0
  members_parts (text.member k j ms) = parts j + members_parts ms

-- what was parsed and what is left are together at most so many
abbrev Within : {A : Type 0} → (A → ℕ) → ℕ → Option (A × List Token) → Type 0
Within size n None = ⊤
Within size n (Some p) = size p.0 + length p.1 ≤ n

within-map : {A B : Type 0} (size : A → ℕ) (sizes : B → ℕ) (m n : ℕ) (f : A → B) → ((a : A) (left : ℕ) → size a + left ≤ m → sizes (f a) + left ≤ n) → (o : Option (A × List Token)) → Within size m o → Within sizes n (parse_map f o)
within-map size sizes m n f h None w = tt
within-map size sizes m n f h (Some p) w = h p.0 (length p.1) w

within-then : {A B : Type 0} (size : A → ℕ) (sizes : B → ℕ) (m n : ℕ) (g : A × List Token → Option (B × List Token)) → ((p : A × List Token) → size p.0 + length p.1 ≤ m → Within sizes n (g p)) → (o : Option (A × List Token)) → Within size m o → Within sizes n (option_and_then g o)
within-then size sizes m n g h None w = tt
within-then size sizes m n g h (Some p) w = h p w

abbrev Counts : {A : Type 0} → (A → ℕ) → Parse A → Type 0
Counts size p = (ts : List Token) → Within size (length ts) (p ts)

module _ (p : Parse text.Json) (counts : Counts parts p) where
  item_turn : (more : Parse text.Items) (ts : List Token) (o : Option (List Token)) → Counts items_parts more → after_end_array ts ≡ o → Within items_parts (length ts) (items_step p more ts o)
  item_turn more ts (Some rest) again e = let a = after_end_array-shorter ts rest e in omega arith
  item_turn more ts None again e =
      within-then parts items_parts (length ts) (length ts) (λ q. parse_map (text.item q.0) (more q.1))
      (λ q w. within-map items_parts items_parts (length q.1) (length ts) (text.item q.0) (λ js left h. omega (arith, h, w)) (more q.1) (again q.1)) (p ts) (counts ts)

  items_count : (n : ℕ) → Counts items_parts (items p n)
  unfolding items
  items_count zero ts = tt
  items_count (suc n) ts = item_turn (items p n) ts (after_end_array ts) (items_count n) refl

  member_turn : (more : Parse text.Members) (ts : List Token) (o : Option (Option (List ℕ) × List Token)) → Counts members_parts more → read_key ts ≡ o
      → Within members_parts (length ts) (option_and_then (λ q. members_step p more q.0 q.1) o)
  member_turn more ts None again e = tt
  member_turn more ts (Some (None, s)) again e = let a = read_key-shorter ts None s e in omega arith
  member_turn more ts (Some (Some k, s)) again e =
      let a = read_key-shorter ts (Some k) s e in
      within-then parts members_parts (length s) (length ts) (λ q. parse_map (text.member k q.0) (more q.1))
      (λ q w. within-map members_parts members_parts (length q.1) (length ts) (text.member k q.0) (λ ms left h. omega (arith, h, w, a)) (more q.1) (again q.1)) (p s) (counts s)

  members_count : (n : ℕ) → Counts members_parts (members p n)
  unfolding members
  members_count zero ts = tt
  members_count (suc n) ts = member_turn (members p n) ts (read_key ts) (members_count n) refl

value_counts : (a : Parse text.Items) (o : Parse text.Members) → Counts items_parts a → Counts members_parts o → Counts parts (value_with a o)
value_counts a o p q [] = tt
value_counts a o p q (Token.begin_object ∷ ts) = within-map members_parts parts (length ts) (suc (length ts)) text.object (λ ms left h. omega (arith, h)) (o ts) (q ts)
value_counts a o p q (Token.end_object ∷ ts) = tt
value_counts a o p q (Token.begin_array ∷ ts) = within-map items_parts parts (length ts) (suc (length ts)) text.array (λ js left h. omega (arith, h)) (a ts) (p ts)
value_counts a o p q (Token.end_array ∷ ts) = tt
value_counts a o p q (Token.key s ∷ ts) = tt
value_counts a o p q (Token.string s ∷ ts) = omega arith
value_counts a o p q (Token.number s ∷ ts) = omega arith
value_counts a o p q (Token.boolean b ∷ ts) = omega arith
value_counts a o p q (Token.null ∷ ts) = omega arith
value_counts a o p q (Token.bad ∷ ts) = tt

counted : (depth : ℕ) → Counts parts (value depth)
unfolding value
counted zero = value_counts (λ ts. None) (λ ts. None) (λ ts. tt) (λ ts. tt)
counted (suc d) = value_counts (λ ts. items (value d) (length ts) ts) (λ ts. members (value d) (length ts) ts) (λ ts. items_count (value d) (counted d) (length ts) ts) (λ ts. members_count (value d) (counted d) (length ts) ts)

-- ---- with each key of an object once, it has no more

abbrev mutual
  data_parts : json.Data → ℕ
  data_parts json.null = 1
  data_parts (json.boolean b) = 1
  data_parts (json.number n) = 1
  data_parts (json.string s) = 1
  data_parts (json.array ds) = suc (data_items ds)
  data_parts (json.object ms) = suc (data_members ms)

  data_items : json.Items → ℕ
  data_items json.no_items = 0
  data_items (json.item d ds) = data_parts d + data_items ds

  data_members : json.Members → ℕ
  data_members json.no_members = 0
  data_members (json.member k d ms) = data_parts d + data_members ms

abbrev AtMost : {A : Type 0} → (A → ℕ) → ℕ → Option A → Type 0
AtMost f n None = ⊤
AtMost f n (Some a) = f a ≤ n

at_most-map : {A B : Type 0} (f : A → ℕ) (g : B → ℕ) (m n : ℕ) (h : A → B) → ((a : A) → f a ≤ m → g (h a) ≤ n) → (o : Option A) → AtMost f m o → AtMost g n (option_map h o)
at_most-map f g m n h k None x = tt
at_most-map f g m n h k (Some a) x = k a x

at_most-then : {A B : Type 0} (f : A → ℕ) (g : B → ℕ) (m n : ℕ) (h : A → Option B) → ((a : A) → f a ≤ m → AtMost g n (h a)) → (o : Option A) → AtMost f m o → AtMost g n (option_and_then h o)
at_most-then f g m n h k None x = tt
at_most-then f g m n h k (Some a) x = k a x

flat : {A : Type 0} (o : Option A) → AtMost (λ _. 0) 0 o
flat None = tt
flat (Some a) = omega arith

by_ordering : (o : Ordering) (a b c : json.Members) (n : ℕ) → data_members a ≤ n → data_members b ≤ n → data_members c ≤ n → data_members (match_ordering o a b c) ≤ n
by_ordering Less a b c n p q r = p
by_ordering Equal a b c n p q r = q
by_ordering Greater a b c n p q r = r

put_adds : (k : List ℕ) (d : json.Data) (ms : json.Members) → data_members (json.put k d ms) ≤ data_parts d + data_members ms
put_adds k d json.no_members = omega arith
put_adds k d (json.member l e ms) =
    let ih = put_adds k d ms in
    by_ordering _ (json.member k d (json.member l e ms)) (json.member l d ms) (json.member l e (json.put k d ms)) (data_parts d + (data_parts e + data_members ms)) (omega arith) (omega arith) (omega arith)

at_most-more : (o : Option json.Members) (m n : ℕ) → m ≤ n → AtMost data_members m o → AtMost data_members n o
at_most-more None m n less h = tt
at_most-more (Some a) m n less h = omega (arith, less, h)

mutual
  of_json-parts : (j : text.Json) → AtMost data_parts (parts j) (of_json j)
  of_json-parts text.null = omega arith
  of_json-parts (text.boolean b) = omega arith
  of_json-parts (text.number s) = at_most-map (λ _. 0) data_parts 0 1 json.number (λ a x. omega arith) (number_of s) (flat _)
  of_json-parts (text.string s) = omega arith
  of_json-parts (text.array js) = at_most-map data_items data_parts (items_parts js) (suc (items_parts js)) json.array (λ a x. omega (arith, x)) _ (of_items-parts js)
  of_json-parts (text.object ms) = at_most-map data_members data_parts (members_parts ms + 0) (suc (members_parts ms)) json.object (λ a x. omega (arith, x)) _ (of_members-parts ms json.no_members)

  of_items-parts : (js : text.Items) → AtMost data_items (items_parts js) (of_items js)
  of_items-parts text.no_items = omega arith
  of_items-parts (text.item j js) =
      at_most-then data_parts data_items (parts j) (parts j + items_parts js) _
      (λ d x. at_most-map data_items data_items (items_parts js) (parts j + items_parts js) (json.item d) (λ ds y. omega (arith, x, y)) _ (of_items-parts js)) _ (of_json-parts j)

  of_members-parts : (ms : text.Members) (found : json.Members) → AtMost data_members (members_parts ms + data_members found) (of_members ms found)
  of_members-parts text.no_members found = omega arith
  of_members-parts (text.member name j ms) found =
      at_most-then data_parts data_members (parts j) ((parts j + members_parts ms) + data_members found) _
      (λ d x. at_most-more (of_members ms (json.put name d found)) (members_parts ms + data_members (json.put name d found)) ((parts j + members_parts ms) + data_members found) (let put = put_adds name d found in omega (arith, x, put)) (of_members-parts ms (json.put name d found))) _ (of_json-parts j)

last_within : (o : Option (text.Json × List Token)) (n : ℕ) → Within parts n o → AtMost parts n (option_and_then (λ p. text.if_last p.0 p.1) o)
last_within None n h = tt
last_within (Some (j, [])) n h = omega (arith, h)
last_within (Some (j, t ∷ r)) n h = tt

-- what is read of a text
read_parts : (bytes : List ℕ) → AtMost data_parts (suc (length bytes)) (read bytes)
read_parts bytes =
    let lexed = few_lexemes between bytes in
    let placed = few_tokens fresh (lex between bytes) in
    at_most-then parts data_parts (length (tokens bytes)) (suc (length bytes)) of_json
    (λ j x. raise (of_json j) (parts j) (suc (length bytes)) (omega (arith, x, lexed, placed)) (of_json-parts j)) _
    (last_within _ (length (tokens bytes)) (counted max_depth (tokens bytes)))
  where
    raise : (o : Option json.Data) (m n : ℕ) → m ≤ n → AtMost data_parts m o → AtMost data_parts n o
    raise None m n less h = tt
    raise (Some a) m n less h = omega (arith, less, h)

-- ---- the same of values

abbrev mutual
  pub val_parts : Data → ℕ
  val_parts data'.null = 1
  val_parts (data'.boolean b) = 1
  val_parts (data'.whole z) = 1
  val_parts (data'.text s) = 1
  val_parts (data'.list ds) = suc (val_items ds)
  val_parts (data'.map ms) = suc (val_members ms)

  pub val_items : data'.Items → ℕ
  val_items data'.no_items = 0
  val_items (data'.item d ds) = val_parts d + val_items ds

  pub val_members : data'.Members → ℕ
  val_members data'.no_members = 0
  val_members (data'.member k d ms) = val_parts d + val_members ms

mutual
  same_parts : (j : json.Data) → val_parts (value_in j) ≡ data_parts j
  same_parts json.null = refl
  same_parts (json.boolean b) = refl
  same_parts (json.number n) = refl
  same_parts (json.string s) = refl
  same_parts (json.array js) = ap suc (same_items js)
  same_parts (json.object ms) = ap suc (same_members ms)

  same_items : (js : json.Items) → val_items (items_in js) ≡ data_items js
  same_items json.no_items = refl
  same_items (json.item j js) = λ i. same_parts j i + same_items js i

  same_members : (ms : json.Members) → val_members (members_in ms) ≡ data_members ms
  same_members json.no_members = refl
  same_members (json.member k j ms) = λ i. same_parts j i + same_members ms i

err_ok : {A : Type 0} (f : ValFault) (d : Data) → ◌≡◌ {A = Result Data ValFault} (Err f) (Ok d) → A
err_ok f d is = absurd (cc)

-- what bytes are read as has no more parts than they are, and one
pub read_few : (bytes : List ℕ) (d : Data) → value_of bytes ≡ Ok d → val_parts d ≤ suc (length bytes)
read_few bytes d is = by (is_utf8 bytes) (read bytes) (read_parts bytes) is
  where
    checked : (j : json.Data) → data_parts j ≤ suc (length bytes) → (float within deep : Bool)
        → (if float then Err fault.NotWhole else if not within then Err fault.OutOfRange else if deep then Err fault.TooDeep else Ok (value_in j)) ≡ Ok d → val_parts d ≤ suc (length bytes)
    checked j few true within deep same = err_ok fault.NotWhole d same
    checked j few false false deep same = err_ok fault.OutOfRange d same
    checked j few false true true same = err_ok fault.TooDeep d same
    checked j few false true false same =
        let it : value_in j ≡ d = cc in
        let whole = same_parts j in
        let moved = ap val_parts it in
        omega arith

    by : (b : Bool) (o : Option json.Data) → AtMost data_parts (suc (length bytes)) o → checked_if_read (if b then ok_or o fault.BadJson else Err fault.BadJson) ≡ Ok d → val_parts d ≤ suc (length bytes)
    by true (Some j) few same = checked j few (has_float j) (is_within j) (nat_lt deepest (json.depth j)) same
    by true None few same = err_ok fault.BadJson d same
    by false o few same = err_ok fault.BadJson d same
