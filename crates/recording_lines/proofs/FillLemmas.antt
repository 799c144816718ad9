-- What a read leaves in the buffer.
use Rattle.std.proofs.Common.{◌≡◌, ℕ, ◌≤◌, List, [], ◌++◌, take, drop, length, ap, ◌∙◌, length-drop, arith}
use Rattle.std.proofs.lemmas.List.{length-take, length-take-le, drop_all}
use Rattle.std.proofs.Math.Seq.{take-append_seam}

-- where nothing was buffered nothing is, whatever stands in the buffer
pub buffered-nil : (items new : List ℕ) (start end : ℕ) → end ≤ length items → drop start (take end items) ≡ [] → drop start (take end new) ≡ []
buffered-nil items new start end within empty =
    let size : length (take end items) ≡ end = length-take-le end items within in
    let past : end ≤ start = omega (arith, ap length empty, length-drop start (take end items), size) in
    let short : length (take end new) ≤ start = omega (arith, length-take end new, past) in
    drop_all start (take end new) short

-- the buffer as a whole was written
pub written-whole : (new rest : List ℕ) (len : ℕ) → len ≡ length new → take len (new ++ rest) ≡ new
written-whole new rest len is = ap (λ n. take n (new ++ rest)) is ∙ take-append_seam new rest
