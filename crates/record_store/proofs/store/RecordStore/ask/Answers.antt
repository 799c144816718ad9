use Rattle.std.proofs.Common.{◌≡◌, refl, sym, subst}
use Rattle.std.specs.Prelude.{IfOk}
use Rattle.signal_values.specs.Seen.{IsFreshIn}
use Rattle.record_store.specs.Calls.{IsAsked}
use Rattle.record_store.specs.Plain.{plain}
use Rattle.record_store.specs.Seen.{Seen, records}
use Rattle.record_store.proofs.CallLemmas.{is_asked, asked_ok}
use Rattle.record_store.proofs.store.RecordStore.ask.Goals as goal

pub returns : goal.returns
returns g c =
    let old : Seen = record { keys = c.self.inside.keys; txn = c.self.inside.graph } in
    let new : Seen = record { keys = c.self.inside.keys; txn = c.get.follows.lender-at-none } in (
      (
        refl,
        (λ s. tt),
        (subst (λ (s : Seen). IsAsked s new) c.self.view_is (is_asked old new refl c.get.follows.holds-at-none.0), c.get.follows.holds-at-none.1),
      ),
      record {
        left = tt;
        value = subst (λ (s : Seen). IfOk c.get.result (λ v. v.now ≡ plain (records s) c.args.key.now)) c.self.view_is
            (asked_ok old c.self.invariant c.args.key.now c.get.result c.tell_level.ensures c.get.ensures.value);
        free = λ h. c.get.ensures.free (subst (λ (s : Seen). IsFreshIn s.txn.graph.values c.args.key.now) (sym c.self.view_is) h);
      },
    )
