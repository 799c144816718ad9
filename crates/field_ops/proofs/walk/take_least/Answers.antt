use Rattle.std.proofs.Common.{◌≡◌, Less, Equal, Greater, refl}
use Rattle.rooms_val.specs.Maps.{order}
use Rattle.rooms_val.proofs.MapsLemmas.{same_key, flipped, taken_first_at, taken_lower_at}
use Rattle.field_ops.proofs.walk.take_least.Goals as goal

pub returns-in_default-clause-right : goal.returns-in_default-clause-right
returns-in_default-clause-right g c = taken_first_at _ c.in-Some-split_first.right.now _ _ c.in-Some-split_first.ensures.cases.0 c.requires.rights_rise refl

pub returns-in_default-split_first-2-clause-left : goal.returns-in_default-split_first-2-clause-left
returns-in_default-split_first-2-clause-left g c = taken_first_at _ c.in-Some.left.now _ _ c.in-Some.ensures.cases.0 c.requires.lefts_rise refl

pub returns-in-Less-clause-left : goal.returns-in-Less-clause-left
returns-in-Less-clause-left g c = taken_first_at _ c.in-Some.left.now _ _ c.in-Some.ensures.cases.0 c.requires.lefts_rise refl

pub returns-in-Less-clause-right : goal.returns-in-Less-clause-right
returns-in-Less-clause-right g c =
    let lower : order c.in-Some.left.now.0 c.in-Some-split_first-2.right.now.0 ≡ Less = cc in
    taken_lower_at _ c.in-Some-split_first-2.right.now _ _ c.in-Some-split_first-2.ensures.cases.0 c.requires.rights_rise lower

pub returns-in-Equal-clause-left : goal.returns-in-Equal-clause-left
returns-in-Equal-clause-left g c = taken_first_at _ c.in-Some.left.now _ _ c.in-Some.ensures.cases.0 c.requires.lefts_rise refl

pub returns-in-Equal-clause-right : goal.returns-in-Equal-clause-right
returns-in-Equal-clause-right g c =
    let tie : order c.in-Some.left.now.0 c.in-Some-split_first-2.right.now.0 ≡ Equal = cc in
    taken_first_at _ c.in-Some-split_first-2.right.now _ _ c.in-Some-split_first-2.ensures.cases.0 c.requires.rights_rise (same_key c.in-Some.left.now.0 c.in-Some-split_first-2.right.now.0 tie)

pub returns-in-Greater-clause-left : goal.returns-in-Greater-clause-left
returns-in-Greater-clause-left g c =
    let higher : order c.in-Some.left.now.0 c.in-Some-split_first-2.right.now.0 ≡ Greater = cc in
    taken_lower_at _ c.in-Some.left.now _ _ c.in-Some.ensures.cases.0 c.requires.lefts_rise (flipped c.in-Some.left.now.0 c.in-Some-split_first-2.right.now.0 Greater higher)

pub returns-in-Greater-clause-right : goal.returns-in-Greater-clause-right
returns-in-Greater-clause-right g c = taken_first_at _ c.in-Some-split_first-2.right.now _ _ c.in-Some-split_first-2.ensures.cases.0 c.requires.rights_rise refl
