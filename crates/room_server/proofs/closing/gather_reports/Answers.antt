use Rattle.std.proofs.Common.{◌≤◌, ◌<◌, ◌∷◌, [], length, get_or, set, take, sym, ap, ◌∙◌, rules, subst, vec_len}
use Rattle.std.proofs.lemmas.List.{take_more}
use Rattle.std.proofs.lemmas.List.Elements.{All-get_or}
use Rattle.room_serve.specs.declared.report.Report.{Report}
use Rattle.room_server.proofs.GatherLemmas.{adds_more, changed_all, changed_at, changed_next}
use Rattle.room_server.specs.Closing.{AddsGone, IsBelow, without_gone}
use Rattle.room_server.proofs.closing.gather_reports.Goals as goal

pub gather_one-requires : goal.gather_one-requires
gather_one-requires c =
    let i = c.reports.report-index in
    let xs = c.args.reports.now in
    let x = c.report-item.result in
    let within : i < length xs = search rules in
    let same = ap (λ l. get_or l i x) c.reports.invariant.reports ∙ changed_at without_gone i xs x within in
    record {
      below = subst (IsBelow (vec_len c.reports.gones)) (sym same)
          (subst (λ n. IsBelow n (get_or xs i x)) (sym c.reports.invariant.count) (All-get_or (IsBelow (vec_len c.args.gones.now)) xs i x within c.requires.below));
    }

pub reports-preserved : goal.reports-preserved
reports-preserved c =
    let i = c.reports.report-index in
    let xs = c.args.reports.now in
    let x = c.report-item.result in
    let now : Report = get_or xs i x in
    let within : i < length xs = search rules in
    let old = c.args.gones.now.items in
    let new = c.gather_one.new.gones.items in
    let same = ap (λ l. get_or l i x) c.reports.invariant.reports ∙ changed_at without_gone i xs x within in
    let added : AddsGone (now ∷ []) c.reports.gones.items new = subst (λ r. AddsGone (r ∷ []) c.reports.gones.items new) same c.in_ok-gather_one.ensures.added in
    record {
      count = c.gather_one.ensures.count ∙ c.reports.invariant.count;
      adds = subst (λ l. AddsGone l old new) (sym (take_more xs i x within))
          (adds_more (take i xs) (now ∷ []) old c.reports.gones.items new c.reports.invariant.adds added);
      reports = ap (λ r. set c.reports.reports i r) (c.in_ok-gather_one.ensures.report ∙ ap without_gone same)
          ∙ ap (λ l. set l i (without_gone now)) c.reports.invariant.reports ∙ changed_next without_gone i xs x within;
    }

pub returns-clause-reports : goal.returns-clause-reports
returns-clause-reports c =
    let past : length c.args.reports.now ≤ c.reports.report-index = search rules in
    c.reports.invariant.reports ∙ changed_all without_gone c.reports.report-index c.args.reports.now past
