use Rattle.std.proofs.Common.{◌≡◌, refl, sym, ◌∙◌, subst}
use Rattle.signal_values.specs.Seen.{IsPutBack}
use Rattle.signal_values.proofs.AtomLemmas.{exact}
use Rattle.signal_txn.proofs.PutBackLemmas.{putting_start, putting_more, putting_epoch, putting_end, putting_first, nothing_left, false_true}
use Rattle.signal_txn.proofs.noting.put_back_all.Goals as goal

pub entries-init : goal.entries-init
entries-init g c = record {
  putting = putting_start (g.R.Rules.meaning c.args.graph.now.values.rules) g.R.Key.Ord.cmp c.args.graph.now.values c.args.before.entries;
  watches = refl;
}

pub entries-preserved : goal.entries-preserved
entries-preserved g c =
    let cmp = g.R.Key.Ord.cmp in
    let x = exact cmp g.met.R.Key.Ord.total g.met.R.Rules.same_keys in
    let p = c.entries.invariant.putting in
    record {
      putting = putting_more (g.R.Rules.meaning c.args.graph.now.values.rules) cmp x c.args.graph.now.values c.entries.graph.values c.put_back.new.self.values c.args.before.entries c.entries.rest.entries c.pop_first.new.self.entries c.in-Some.key c.in-Some.value c.next_epoch-epoch.result c.next_epoch-epoch.ensures
          c.in-Some.ensures.removal c.in-Some.ensures.updates.1
          (subst (λ (r : g.row.R.Denot). IsPutBack (g.R.Rules.meaning r) cmp c.entries.graph.values c.put_back.new.self.values c.in-Some.key c.in-Some.value c.next_epoch-epoch.result) p.rules c.put_back.ensures.set) p;
      watches = c.put_back.ensures.watches ∙ c.entries.invariant.watches;
    }

pub put_back-requires : goal.put_back-requires
put_back-requires g c =
    let cmp = g.R.Key.Ord.cmp in
    let x = exact cmp g.met.R.Key.Ord.total g.met.R.Rules.same_keys in
    let m = g.R.Rules.meaning c.args.graph.now.values.rules in
    let p = c.entries.invariant.putting in
    let has = putting_first m cmp x c.args.graph.now.values c.entries.graph.values c.args.before.entries c.entries.rest.entries c.pop_first.new.self.entries c.in-Some.key c.in-Some.value c.in-Some.ensures.removal p in
    record {
      rank = subst (λ (r : g.row.R.Denot). (g.R.Rules.meaning r).rank c.in-Some.key ≡ 0) (sym p.rules) (c.requires.atoms c.in-Some.key has);
      listed = p.listed c.in-Some.key (c.requires.listed c.in-Some.key has);
      epoch = putting_epoch m cmp c.args.graph.now.values c.entries.graph.values c.args.before.entries c.entries.rest.entries c.next_epoch-epoch.result c.next_epoch-epoch.ensures p;
    }

pub returns : goal.returns
returns g c = record {
  back = putting_end (g.R.Rules.meaning c.args.graph.now.values.rules) g.R.Key.Ord.cmp c.args.graph.now.values c.entries.graph.values c.args.before.entries c.entries.rest.entries (nothing_left c.entries.rest.entries (λ h. false_true (c.in_default.ensures.variant.1 h))) c.entries.invariant.putting;
  watches = c.entries.invariant.watches;
}
