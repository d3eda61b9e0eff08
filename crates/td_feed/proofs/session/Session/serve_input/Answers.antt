use Rattle.std.proofs.Common.{◌≡◌, ℕ, List, [], true, refl, sym, ap, ◌∙◌, subst, Ok}
use Rattle.std.specs.Prelude.{Result, All}
use Rattle.std.proofs.lemmas.Option.{IfSome_then}
use Rattle.td_plan.specs.Lines.{Line}
use Rattle.td_journal.specs.declared.payload.Submitted.{Submitted}
use Rattle.td_store.specs.declared.standing.error.KeeperError.TheVariants.{Device}
use Rattle.td_console.specs.declared.faults.Fault.{Fault}
use Rattle.td_console.specs.declared.faults.Fault.TheVariants.{Keeper}
use Rattle.td_orders.specs.declared.order.Order.{Order}
use Rattle.td_orders.specs.Noted.{Aside}
use Rattle.td_orders.specs.Orders.{orders_of, submissions, submitted_by, IsAccepted}
use Rattle.td_orders.specs.Scripts.{is_of_lines}
use Rattle.td_feed.specs.Carried.{new_to}
use Rattle.td_feed.specs.Session.{FeedsNoting}
use Rattle.td_feed.proofs.Carrying.{in_some}
use Rattle.td_feed.proofs.Counting.{fault_of}
use Rattle.td_feed.proofs.Plain.{none_done, for_orders, for_lines}
use Rattle.td_feed.proofs.Replies.{of_lines_error}
use Rattle.td_feed.proofs.Sessions.{disk_same, unfed}
use Rattle.td_feed.proofs.session.Session.serve_input.Goals as goal

abbrev as_read : List Order → Result (List Order) Fault
as_read orders = Ok orders

-- an input without a fault has no notes
plainly : (F : List Submitted → List Aside → Type 0) (plan : List Line) (input : List ℕ) (orders : List Order) (done : List Aside) → orders_of plan input ≡ Ok orders → done ≡ []
    → F (submissions orders) done → F (submitted_by (orders_of plan input)) []
plainly F plan input orders done is none fed =
    subst (λ (r : Result (List Order) Fault). F (submitted_by r) []) (sym is)
    (subst (λ (ns : List Aside). F (submissions orders) ns) none fed)

pub returns-in-Err-clause-disk : goal.returns-in-Err-clause-disk
returns-in-Err-clause-disk g c =
    disk_same _ refl (λ is. absurd (let no : is_of_lines (Keeper Device) ≡ true = ap is_of_lines (sym (fault_of c.in-Err.fault (Keeper Device) is)) ∙ c.in-Err.ensures.of_lines in cc))

pub returns-in-Err-clause-fault : goal.returns-in-Err-clause-fault
returns-in-Err-clause-fault g c =
    IfSome_then (g.I.Source.remaining c.args.reader.now) c.in-Err.ensures.fault (λ input why. for_lines g.W.Sink.HasRoom c.args.self.now.plan.now input c.in-Err.fault c.args.writer c.in-Err.ensures.of_lines why)

pub returns-in-Err-clause-fed : goal.returns-in-Err-clause-fed
returns-in-Err-clause-fed g c = in_some (g.I.Source.remaining c.args.reader.now) (λ input. unfed c.in-Err.fault (of_lines_error c.in-Err.fault c.in-Err.ensures.of_lines []) c.requires.whole)

pub returns-in-Ok-clause-fault : goal.returns-in-Ok-clause-fault
returns-in-Ok-clause-fault g c =
    let served = c.serve_by_workers.result in
    let orders = c.from.result.items in
    IfSome_then (g.I.Source.remaining c.args.reader.now) c.in-Ok.ensures.orders
    (λ input is.
    for_orders g.W.Sink.HasRoom c.args.self.now.plan.now input orders served.ended c.args.writer served.writer (is ∙ ap as_read (sym c.from.ensures.0))
    (subst (All (IsAccepted c.args.self.now.plan.now)) (sym c.from.ensures.0) c.in-Ok.ensures.plain) c.serve_by_workers.ensures.fault)

pub returns-in-Ok-clause-fed : goal.returns-in-Ok-clause-fed
returns-in-Ok-clause-fed g c =
    let served = c.serve_by_workers.result in
    let orders = c.from.result.items in
    let fed = c.serve_by_workers.ensures.fed in
    IfSome_then (g.I.Source.remaining c.args.reader.now) c.in-Ok.ensures.orders
    (λ input is.
    plainly (λ (x : List Submitted) (ns : List Aside). FeedsNoting g.D.Disk.view g.L.Law.answers g.W.Voice.marks served.ended (g.W.Sink.contents c.args.writer) (g.W.Sink.contents served.writer) c.args.keeper served.keeper (new_to c.args.keeper x) ns)
    c.args.self.now.plan.now input orders fed.fed.done (is ∙ ap as_read (sym c.from.ensures.0))
    (none_done c.args.self.now.plan.now orders fed.fed.done (subst (All (IsAccepted c.args.self.now.plan.now)) (sym c.from.ensures.0) c.in-Ok.ensures.plain) fed.fed.came) fed.fed.fed)
