use Rattle.std.proofs.Common.{◌≡◌, Ok, Some, subst, sym, ap, ◌∙◌, arith, rules, ◌++◌, ◌∷◌, []}
use Rattle.room_link.specs.Exchange.{Tells}
use Rattle.room_link.specs.Worker.{Accepts}
use Rattle.room_serve.specs.Reports.{ServesIn, IsReport}
use Rattle.room_serve.specs.Tallies.{IsServing}
use Rattle.room_serve.proofs.TallyLemmas.{serving_not, serving_more}
use Rattle.room_serve.proofs.workers.serve_worker.Goals as goal

pub links-init : goal.links-init
links-init g c = (
  search rules,
  subst (IsServing g.A.Link.Link.faults g.A.Link.Link.told (ServesIn c.args.rooms.now) (IsReport c.args.rooms.now) g.A.Accept.faults g.A.Accept.told c.args.worker.now c.args.worker.now)
      (sym c.new-reports.ensures.items)
      (serving_not g.A.Link.Link.faults g.A.Link.Link.told (ServesIn c.args.rooms.now) (IsReport c.args.rooms.now) g.A.Accept.faults g.A.Accept.told c.args.worker.now),
)

pub links-preserved : goal.links-preserved
links-preserved g c =
    let link_faults = g.A.Link.Link.faults in
    let link_told = g.A.Link.Link.told in
    let faults = g.A.Accept.faults in
    let told = g.A.Accept.told in
    let rooms = c.args.rooms.now in
    let first = c.args.worker.now in
    let taken = c.next-in-links.new.self in
    let back = c.serve_and_return-report.new.worker in
    let link = c.in-Ok-Some.link in
    let report = c.serve_and_return-report.result in
    let is : c.next-in-links.result ≡ Ok (Some link) = search rules in
    let took : Tells (Accepts (Ok (Some link))) (told c.links.worker) (told taken) =
    subst (λ r. Tells (Accepts r) (told c.links.worker) (told taken)) is c.next-in-links.ensures.taken in
    let more = serving_more link_faults link_told (ServesIn rooms) (IsReport rooms) faults told first c.links.worker taken back c.links.reports.items link
    c.serve_and_return-report.ensures.back.0 report c.links.invariant.1 took c.serve_and_return-report.ensures.back.1 c.serve_and_return-report.ensures.back.2 in (
      omega (arith, c.links.invariant.0, c.next-in-links.ensures.faults_stay, c.serve_and_return-report.ensures.faults),
      subst (IsServing link_faults link_told (ServesIn rooms) (IsReport rooms) faults told first back)
          (sym (c.push_reserved.ensures.items ∙ ap (λ l. l ++ report ∷ []) c.reserve.ensures.items)) more,
    )
