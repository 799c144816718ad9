-- The fields of a push, of which two may be absent.
use Rattle.std.proofs.Common.{◌≡◌, ℕ, true, false, if◌then◌else◌, List, [], ◌∷◌, ◌++◌, codes, Option, Some, None, refl, ap, ◌∙◌}
use Rattle.std.specs.Str.{bytes_eq}
use Rattle.std.proofs.lemmas.Slice.Eq.{bytes_eq-Decides}
use Rattle.rooms_val.specs.Data.{Data, Pairs}
use Rattle.wire_msgs.specs.Events.{typed}
use Rattle.wire_msgs.specs.Messages.{maybe}
use Rattle.wire_msgs.specs.Rows.{first_at, past}

-- the fields of a push past its clock
abbrev pub later : Option Data → Option Data → Pairs
later d p = maybe (codes "diff") d ++ (maybe (codes "presence") p ++ typed (codes "push") ∷ [])

pub diff_first : (d p : Option Data) → first_at (codes "diff") (later d p) ≡ d
diff_first None None = refl
diff_first None (Some y) = refl
diff_first (Some x) p = refl

pub presence_next : (d p : Option Data) → first_at (codes "presence") (past (codes "diff") (later d p)) ≡ p
presence_next None None = refl
presence_next None (Some y) = refl
presence_next (Some x) None = refl
presence_next (Some x) (Some y) = refl

-- what stands at a key, and what stands past it, make up the fields
rebuilt : (key : List ℕ) (ps : Pairs) → ps ≡ maybe key (first_at key ps) ++ past key ps
rebuilt key [] = refl
rebuilt key (p ∷ ps) = elim (bytes_eq p.0 key) as (λ b. bytes_eq p.0 key ≡ b → p ∷ ps ≡ maybe key (if b then Some p.1 else None) ++ (if b then ps else p ∷ ps)) [
  | true ↦ λ e. ap (λ k. (k, p.1) ∷ ps) ((bytes_eq-Decides p.0 key).0 e)
  | false ↦ λ e. refl
] refl

pub made_up : (ps : Pairs) (d p : Option Data) → first_at (codes "diff") ps ≡ d → first_at (codes "presence") (past (codes "diff") ps) ≡ p
    → past (codes "presence") (past (codes "diff") ps) ≡ typed (codes "push") ∷ [] → ps ≡ later d p
made_up ps d p d_is p_is last =
    rebuilt (codes "diff") ps
    ∙ ap (λ qs. maybe (codes "diff") (first_at (codes "diff") ps) ++ qs) (rebuilt (codes "presence") (past (codes "diff") ps))
    ∙ (λ i. maybe (codes "diff") (d_is i) ++ (maybe (codes "presence") (p_is i) ++ last i))
