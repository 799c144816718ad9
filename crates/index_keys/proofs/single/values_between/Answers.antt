use Rattle.index_keys.proofs.KeyLemmas.{whole-given}
use Rattle.index_keys.proofs.single.values_between.Goals as goal

pub before-requires : goal.before-requires
before-requires c = whole-given c.args.above c.in-None-Some.above c.deref.result.now (cc) c.requires.upper (cc (c.in_ok-values_of-in-None-Some.ensures))

pub after-requires : goal.after-requires
after-requires c =
    whole-given c.args.below c.in-Some-None.below c.deref-in-Some-None.result.now (cc) c.requires.lower (cc (c.in_ok-values_of-in-Some-None.ensures))

pub inside-requires-clause-lower : goal.inside-requires-clause-lower
inside-requires-clause-lower c =
    whole-given c.args.below c.in-Some-Some.below c.deref-in-Some-Some.result.now (cc) c.requires.lower (cc (c.in_ok-below-in-Some-Some.ensures))

pub inside-requires-clause-upper : goal.inside-requires-clause-upper
inside-requires-clause-upper c =
    whole-given c.args.above c.in-Some-Some.above c.deref-in-Some-Some-2.result.now (cc) c.requires.upper (cc (c.in_ok-above-in-Some-Some.ensures))
