use Rattle.std.proofs.Common.{◌≡◌, ℕ, ◌==◌, ◌++◌, ◌∷◌, [], List, true, map, ap, sym, ◌∙◌, subst, append-nil}
use Rattle.std.specs.Prelude.{None, is_none}
use Rattle.std.specs.List.{list_any}
use Rattle.td_stamp.specs.declared.values.Output.{Output as AnyOutput}
use Rattle.td_plan.specs.Faults.{is_output}
use Rattle.td_batch.specs.Meaning.{Bags, EpochInput, emission}
use Rattle.td_batch.specs.Steps.Emitted.{input_of}
use Rattle.td_batch.specs.Steps.Tree.{nodes_of, reads, AreAlike}
use Rattle.td_batch.proofs.Alike.{alike_then, last_if_read}
use Rattle.td_batch.proofs.Epochs.{no_outputs, all_outputs}
use Rattle.td_batch.proofs.epoch.step.Goals as goal
use Rattle.td_batch.proofs.epoch.step.Goals.{then-is_output+in_ok-put_out, else-is_output}

pub returns-clause-alike : goal.returns-clause-alike
returns-clause-alike g c =
    let epoch : EpochInput = input_of g.L.Law.answers (g.S.KeptStates.states c.args.given.now.states.now) c.args.given.now.batch.now in
    let bags : Bags = c.args.bags.now.items in
    let v = c.args.vertex.now.vertex in
    let want : List ℕ = reads true (nodes_of c.args.rest.now) in
    let sent = emission epoch None bags v in
    let read : list_any (λ s. s == v.number) (reads (is_none c.args.before.now) (nodes_of c.args.rest.now) ++ []) ≡ list_any (λ s. s == v.number) want =
    ap (λ first. list_any (λ s. s == v.number) (reads first (nodes_of c.args.rest.now) ++ [])) (ap is_none c.requires.first) ∙ ap (list_any (λ s. s == v.number)) (append-nil want) in
    let kept : AreAlike want c.keep.new.bags.items (bags ++ c.in_ok-bag.bag ∷ []) =
    subst (λ xs. AreAlike xs c.keep.new.bags.items (bags ++ c.in_ok-bag.bag ∷ [])) (append-nil want) c.in_ok-keep.ensures.alike in
    alike_then want c.keep.new.bags.items (bags ++ c.in_ok-bag.bag ∷ []) (bags ++ sent ∷ []) kept
    (last_if_read want bags c.in_ok-bag.bag sent
    (λ asked. c.in_ok-bag.ensures.read (read ∙ ap (λ n. list_any (λ s. s == n) want) c.requires.here.0 ∙ asked)
    ∙ ap (λ before. emission epoch before c.as_slice.result.now v) c.requires.first ∙ ap (λ (bs : Bags). emission epoch None bs v) c.as_slice.ensures.value))

pub returns-clause-outs : goal.returns-clause-outs
returns-clause-outs g c =
    let epoch : EpochInput = input_of g.L.Law.answers (g.S.KeptStates.states c.args.given.now.states.now) c.args.given.now.batch.now in
    let bags : Bags = c.args.bags.now.items in
    let v = c.args.vertex.now.vertex in
    let outputs : List AnyOutput = c.args.brought.now.outputs.items in
    let sent : is_output v.kind ≡ true → c.in_ok-bag.bag ≡ emission epoch None bags v =
    λ put. c.in_ok-bag.ensures.put_out put ∙ ap (λ before. emission epoch before c.as_slice.result.now v) c.requires.first ∙ ap (λ (bs : Bags). emission epoch None bs v) c.as_slice.ensures.value in
    elim c.if-is_output.branch [
      | then-is_output+in_ok-put_out w ↦
          ap (λ b. b.outputs.items) w.brought-is ∙ w.in_ok-put_out.ensures
          ∙ ap (λ n. outputs ++ map (λ r. record { vertex = n; rec = r }) c.in_ok-bag.bag) w.number.ensures
          ∙ ap (λ b. outputs ++ map (λ r. record { vertex = v.number; rec = r }) b) (sent (sym c.is_output.ensures ∙ w.if-is_output.true))
          ∙ sym (ap (λ os. outputs ++ os) (all_outputs (λ _. emission epoch None bags v) v v.kind (sym c.is_output.ensures ∙ w.if-is_output.true)))
      | else-is_output w ↦
          ap (λ b. b.outputs.items) w.brought-is ∙ sym (append-nil outputs)
          ∙ sym (ap (λ os. outputs ++ os) (no_outputs (λ _. emission epoch None bags v) v v.kind (sym c.is_output.ensures ∙ w.if-is_output.false)))
    ]
