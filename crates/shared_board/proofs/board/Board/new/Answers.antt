use Rattle.std.proofs.Common.{refl}
use Rattle.shared_board.proofs.board.Board.new.Goals as goal

pub new-requires : goal.new-requires
new-requires c = c.is_version.ensures.0 c.if-not-is_version.false

pub returns-in-Ok-clause-stands : goal.returns-in-Ok-clause-stands
returns-in-Ok-clause-stands c = let stands = c.in-Ok.ensures.stands in (stands.0, stands.1, record { world = stands.2; entered = refl })

pub returns-in-Ok-clause-unknown : goal.returns-in-Ok-clause-unknown
returns-in-Ok-clause-unknown c = (λ is. absurd (cc), λ no. absurd (no (c.is_version.ensures.0 c.if-not-is_version.false)))

pub returns-in-Err-clause-unknown : goal.returns-in-Err-clause-unknown
returns-in-Err-clause-unknown c = (λ is. absurd (cc), λ no. absurd (no (c.is_version.ensures.0 c.if-not-is_version.false)))

pub returns-then-not-is_version-clause-unknown : goal.returns-then-not-is_version-clause-unknown
returns-then-not-is_version-clause-unknown c = (λ is known. (let yes = c.is_version.ensures.1 known in let not = c.if-not-is_version.true in cc), λ no. refl)
