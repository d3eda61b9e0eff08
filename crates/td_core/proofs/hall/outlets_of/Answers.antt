use Rattle.std.proofs.Common.{◌≡◌, ◌+◌, ◌++◌, [], ◌∷◌, Some, length, get_or, take, sym, ap, ◌∙◌, subst, arith}
use Rattle.std.specs.List.{slice_get}
use Rattle.std.proofs.lemmas.Option.{slice_get-get_or}
use Rattle.td_core.proofs.RouteLists.{few_numbers, outlets_among, next_out, next_other}
use Rattle.td_core.proofs.hall.outlets_of.Goals.{then-edge-vertex+in_ok-push, else-edge-vertex}
use Rattle.td_core.proofs.hall.outlets_of.Goals as goal

pub overflow_cast-number : goal.overflow_cast-number
overflow_cast-number c =
    let few = few_numbers c.args.plan.now c.vertices.ensures.lawful in
    let many = ap (λ l. length l) c.edges-edges.ensures in
    omega (arith, few, many, c.loop-number-test.true)

pub loop-number-preserved : goal.loop-number-preserved
loop-number-preserved c =
    let n = c.loop-number.number in
    let plan = c.args.plan.now in
    let v = c.args.vertex in
    let es = c.edges-edges.result.now in
    let e = get_or es n (record { source = 0; reader = 0; port = 0 }) in
    let there = slice_get-get_or es n (record { source = 0; reader = 0; port = 0 }) c.loop-number-test.true in
    let so_far = c.loop-number.invariant ∙ ap (λ l. outlets_among plan v (take n l)) (sym c.edges-edges.ensures) in
    let then = ap (λ l. outlets_among plan v (take (n + 1) l)) c.edges-edges.ensures in
    elim c.if-edge-vertex.branch [
      | then-edge-vertex+in_ok-push w ↦
          ap (λ o. o.items) w.outlets-is ∙ (w.in_ok-push.ensures.items ∙ (ap (λ l. l ++ record { number = n; reader = e.reader; port = e.port } ∷ []) so_far
          ∙ (next_out plan v n es e there w.if-edge-vertex.true
          (c.edges_by_number.ensures.number plan c.vertices.ensures.lawful n e (subst (λ l. slice_get l n ≡ Some e) c.edges-edges.ensures there)) ∙ then)))
      | else-edge-vertex w ↦ ap (λ o. o.items) w.outlets-is ∙ (so_far ∙ (next_other plan v n es e there w.if-edge-vertex.false ∙ then))
    ]
