-- The text of lines that are written one after the other, and of numbered lines.
use Rattle.std.proofs.Common.{◌≡◌, ℕ, suc, ◌<◌, ◌+◌, List, [], ◌∷◌, ◌++◌, flat_map, length, get_or, take, drop, sym, ap, ◌∙◌, append_assoc, append-nil, take-append-drop, arith, length-take}
use Rattle.std.proofs.lemmas.List.{take_more}
use Rattle.std.proofs.lemmas.List.Concat.{flat_map-append}
use Rattle.std.specs.Global.{Vec}
use Rattle.room_server.specs.Lines.{numbered}

-- the text of lines
abbrev pub texts : List (Vec ℕ) → List ℕ
texts lines = flat_map (λ line. line.items) lines

-- one line more
pub text_more : (lines : List (Vec ℕ)) (i : ℕ) (x : Vec ℕ) → i < length lines → x ≡ get_or lines i x → texts (take (i + 1) lines) ≡ texts (take i lines) ++ x.items
text_more lines i x within is =
    let here : Vec ℕ = get_or lines i x in
    ap texts (take_more lines i x within) ∙ flat_map-append (λ line. line.items) (take i lines) (here ∷ [])
    ∙ ap (λ t. texts (take i lines) ++ t) (append-nil here.items ∙ ap (λ y. y.items) (sym is))

-- the first bytes of the next line's text behind the text of those before it are a front
pub front_more : (lines : List (Vec ℕ)) (i n : ℕ) (x : Vec ℕ) → i < length lines → x ≡ get_or lines i x
    → (rest : List ℕ) × (texts lines ≡ (texts (take i lines) ++ take n x.items) ++ rest)
front_more lines i n x within is =
    let so_far = texts (take i lines) in
    let others = texts (drop (i + 1) lines) in
    let whole : texts lines ≡ texts (take (i + 1) lines) ++ others =
    ap texts (sym (take-append-drop (i + 1) lines)) ∙ flat_map-append (λ line. line.items) (take (i + 1) lines) (drop (i + 1) lines) in
    let next : texts (take (i + 1) lines) ≡ (so_far ++ take n x.items) ++ drop n x.items =
    text_more lines i x within is ∙ ap (λ t. so_far ++ t) (sym (take-append-drop n x.items)) ∙ sym (append_assoc so_far (take n x.items) (drop n x.items)) in
    (drop n x.items ++ others, whole ∙ ap (λ t. t ++ others) next ∙ append_assoc (so_far ++ take n x.items) (drop n x.items) others)

-- numbered lines, and one more
pub numbered_more : {A : Type 0} (line : ℕ → A → List ℕ) (from : ℕ) (xs : List A) (x : A) → numbered line from (xs ++ x ∷ []) ≡ numbered line from xs ++ line (from + length xs) x
numbered_more line from [] x = let same : from ≡ from + 0 = omega arith in append-nil (line from x) ∙ ap (λ n. line n x) same
numbered_more line from (y ∷ ys) x =
    let same : from + 1 + length ys ≡ from + suc (length ys) = omega arith in
    ap (λ t. line from y ++ t) (numbered_more line (from + 1) ys x ∙ ap (λ n. numbered line (from + 1) ys ++ line n x) same)
    ∙ sym (append_assoc (line from y) (numbered line (from + 1) ys) (line (from + suc (length ys)) x))

pub numbered_next : {A : Type 0} (line : ℕ → A → List ℕ) (xs : List A) (i : ℕ) (x : A) → i < length xs → x ≡ get_or xs i x
    → numbered line 0 (take (i + 1) xs) ≡ numbered line 0 (take i xs) ++ line i x
numbered_next line xs i x within is =
    let long : 0 + length (take i xs) ≡ i = omega (arith, length-take i xs) in
    ap (numbered line 0) (take_more xs i x within) ∙ numbered_more line 0 (take i xs) (get_or xs i x)
    ∙ ap (λ t. numbered line 0 (take i xs) ++ t) (ap (λ n. line n (get_or xs i x)) long ∙ ap (line i) (sym is))
