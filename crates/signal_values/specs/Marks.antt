-- What becomes stale where a row changes.
use Rattle.std.specs.Prelude.{◌≡◌, ℕ, Bool, List, [], length}
use Rattle.links_core.specs.Lists.{list_at}
use Rattle.signal_values.specs.Edges.{Feeds}
use Rattle.signal_values.specs.Cells.{IsFresh}

-- edges lead to fresh rows
abbrev pub AreAlive : List (List ℕ) → List Bool → Type 0
AreAlive children fresh = (parent child : ℕ) → Feeds children parent child → IsFresh fresh child

-- a row hangs on another: it is its child, or hangs on a child of it
pub data Hangs (children : List (List ℕ)) : ℕ → ℕ → Type 0 where
  child : (on row : ℕ) → Feeds children on row → Hangs children on row
  deeper : (on middle row : ℕ) → Feeds children on middle → Hangs children middle row → Hangs children on row

-- some rows that hang on one became stale, and their edges are gone; a row that stays fresh keeps its edges and its fresh
-- parents
pub record IsMarking (on : ℕ) (children : List (List ℕ)) (fresh : List Bool) (after : List (List ℕ)) (now : List Bool) : Type 0 where
  pub rows : length after ≡ length children
  pub flags : length now ≡ length fresh
  pub fewer : (i : ℕ) → IsFresh now i → IsFresh fresh i
  pub alive : AreAlive after now
  pub edges : (p c : ℕ) → Feeds after p c → Feeds children p c
  pub closed : (p c : ℕ) → IsFresh now c → Feeds children p c → Feeds after p c
  pub parents : (p c : ℕ) → Feeds after p c → IsFresh fresh p → IsFresh now p
  pub hang : (i : ℕ) → IsFresh fresh i → (IsFresh now i → ⊥) → Hangs children on i

-- all that hang on a row became stale, and it has no edges
pub record IsMarked (on : ℕ) (children : List (List ℕ)) (fresh : List Bool) (after : List (List ℕ)) (now : List Bool) : Type 0 where
  pub marking : IsMarking on children fresh after now
  pub none : list_at after on ≡ []
