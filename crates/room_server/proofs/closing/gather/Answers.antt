use Rattle.std.proofs.Common.{◌≡◌, ℕ, ◌++◌, ◌∷◌, [], All, length, sym, ap, ◌∙◌, rules, subst, arith, vec_len, append_assoc, append-nil, length-append}
use Rattle.std.specs.List.{AllZip}
use Rattle.std.proofs.lemmas.List.Elements.{AllZip-push}
use Rattle.room_server.proofs.GatherLemmas.{adds_tally, gathered_of, part_of}
use Rattle.rooms_val.proofs.Truths.{no_items}
use Rattle.room_server.specs.Closing.{AreGathered, IsBelow, IsEmptied, reports_of}
use Rattle.room_server.proofs.closing.gather.Goals as goal

pub gather_tally-requires : goal.gather_tally-requires
gather_tally-requires c =
    let tally = c.in-Some.tally in
    let rest = c.next.new.self.rest.items in
    let next : c.tallies.tally-iterator.rest.items ≡ tally ∷ rest = search rules in
    let all : c.args.tallies.items ≡ c.tallies.yielded ++ tally ∷ rest = sym c.tallies.invariant.all ∙ ap (λ l. c.tallies.yielded ++ l) next in
    let many : c.args.rooms ≡ vec_len c.tallies.gones = sym (c.tallies.invariant.count ∙ c.in_ok-gones.ensures.count) in
    record {
      below = subst (λ n. All (IsBelow n) tally.reports.items) many
          (part_of (IsBelow c.args.rooms) c.tallies.yielded rest tally (subst (λ l. All (IsBelow c.args.rooms) (reports_of l)) all c.requires.below));
    }

pub tallies-preserved : goal.tallies-preserved
tallies-preserved c =
    let tally = c.in-Some.tally in
    let rest = c.next.new.self.rest.items in
    let next : c.tallies.tally-iterator.rest.items ≡ tally ∷ rest = search rules in
    record {
      all = append_assoc c.tallies.yielded (tally ∷ []) rest ∙ ap (λ l. c.tallies.yielded ++ l) (sym next) ∙ c.tallies.invariant.all;
      emptied = subst (AllZip IsEmptied (c.tallies.yielded ++ tally ∷ [])) (sym c.push_reserved.ensures.items)
          (AllZip-push IsEmptied c.tallies.yielded c.tallies.emptied.items tally c.in_ok-gather_tally.field-0 c.tallies.invariant.emptied c.in_ok-gather_tally.ensures.emptied);
      adds = adds_tally c.tallies.yielded tally c.in_ok-gones.gones.items c.tallies.gones.items c.gather_tally.new.gones.items c.tallies.invariant.adds
          c.in_ok-gather_tally.ensures.added;
      count = c.gather_tally.ensures.count ∙ c.tallies.invariant.count;
      number = omega (arith, c.push_reserved.ensures.len, c.tallies.invariant.number, length-append c.tallies.yielded (tally ∷ []));
      place = search rules;
    }

pub returns-clause-gones : goal.returns-clause-gones
returns-clause-gones c =
    let none : ◌≡◌ {A = ℕ} (length c.tallies.tally-iterator.rest.items) 0 = search rules in
    let done : c.tallies.tally-iterator.rest.items ≡ [] = no_items c.tallies.tally-iterator.rest.items none in
    let all : c.tallies.yielded ≡ c.args.tallies.items = sym (append-nil c.tallies.yielded) ∙ ap (λ l. c.tallies.yielded ++ l) (sym done) ∙ c.tallies.invariant.all in
    subst (λ l. AreGathered (reports_of l) c.tallies.gones.items) all
    (gathered_of (reports_of c.tallies.yielded) c.in_ok-gones.gones.items c.tallies.gones.items c.in_ok-gones.ensures.none c.tallies.invariant.adds)
