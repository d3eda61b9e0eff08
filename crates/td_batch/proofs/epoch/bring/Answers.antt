use Rattle.std.proofs.Common.{◌≡◌, ◌++◌, ◌∷◌, [], List, true, ap, subst, sym, ◌∙◌, append-nil, ◌+◌, length}
use Rattle.std.specs.Prelude.{None}
use Rattle.td_stamp.specs.declared.values.Output.{Output as AnyOutput}
use Rattle.td_plan.specs.Tree.{Nodes, size}
use Rattle.td_plan.specs.Tree.Nodes.{node, block}
use Rattle.td_batch.specs.declared.changes.Change.{Change}
use Rattle.td_batch.specs.Meaning.{Bags, EpochInput, emission, turn, turns, over_turns}
use Rattle.td_batch.specs.Steps.Emitted.{input_of}
use Rattle.td_batch.specs.Steps.Tree.{nodes_of, reads, AreAlike}
use Rattle.td_batch.proofs.Epochs.{Going, past, past_loop}
use Rattle.td_batch.proofs.epoch.bring.Goals as goal

pub loop-left-preserved-in-Then : goal.loop-left-preserved-in-Then
loop-left-preserved-in-Then g c =
    let epoch : EpochInput = input_of g.L.Law.answers (g.S.KeptStates.states c.args.given.now.states.now) c.args.given.now.batch.now in
    let stored = g.C.Closures.stored c.args.given.now.calls.now in
    let all : Nodes = nodes_of c.args.tree.now in
    let v = c.in-Then.vertex.vertex in
    let rest : Nodes = nodes_of c.in-Then.rest.value in
    let bags : Bags = c.loop-left.bags.items in
    let more : Bags = c.step.new.bags.items in
    let outputs : List AnyOutput = c.loop-left.brought.outputs.items in
    let changes : List Change = c.loop-left.brought.changes.items in
    let here : Going epoch stored all (node v rest) bags outputs changes =
    subst (λ t. Going epoch stored all (nodes_of t) bags outputs changes) c.in-Then.is c.loop-left.invariant.1 in
    let kept : AreAlike (reads true rest) more (bags ++ emission epoch None bags v ∷ []) =
    subst (λ t. AreAlike (reads true (nodes_of t)) more (bags ++ emission epoch None bags v ∷ [])) c.deref.ensures c.in_ok-step-in-Then.ensures.alike in
    let made = c.in_ok-step-in-Then.ensures in (
      c.loop-left.invariant.0,
      subst (λ t. Going epoch stored all (nodes_of t) more c.step.new.brought.outputs.items c.step.new.brought.changes.items) (sym c.deref-left.ensures)
          (past epoch stored all rest v bags more outputs c.step.new.brought.outputs.items changes c.step.new.brought.changes.items here made.length kept made.outs made.changes),
    )

pub loop-left-preserved : goal.loop-left-preserved
loop-left-preserved g c =
    let epoch : EpochInput = input_of g.L.Law.answers (g.S.KeptStates.states c.args.given.now.states.now) c.args.given.now.batch.now in
    let stored = g.C.Closures.stored c.args.given.now.calls.now in
    let all : Nodes = nodes_of c.args.tree.now in
    let bound = c.in-Loop.bound in
    let body : Nodes = nodes_of c.in-Loop.body.value in
    let rest : Nodes = nodes_of c.in-Loop.rest.value in
    let bags : Bags = c.loop-left.bags.items in
    let more : Bags = c.go_round.new.bags.items in
    let outputs : List AnyOutput = c.loop-left.brought.outputs.items in
    let changes : List Change = c.loop-left.brought.changes.items in
    let over : Nodes → Bags = λ b. over_turns (turns (λ earlier. turn epoch b earlier bags) bound None) (length bags) (size b) in
    let here : Going epoch stored all (block bound body rest) bags outputs changes =
    subst (λ t. Going epoch stored all (nodes_of t) bags outputs changes) c.in-Loop.is c.loop-left.invariant.1 in
    let made = c.in_ok-go_round-in-Loop.ensures in
    let is : nodes_of c.deref-in-Loop.result.now ≡ body = ap nodes_of c.deref-in-Loop.ensures in
    let kept : AreAlike (reads true rest) more (bags ++ over body) =
    subst (λ xs. AreAlike xs more (bags ++ over body)) (append-nil (reads true rest))
    (subst (λ b. AreAlike (reads true rest ++ []) more (bags ++ over b)) is
    (subst (λ r. AreAlike (reads true (nodes_of r) ++ []) more (bags ++ over (nodes_of c.deref-in-Loop.result.now))) c.deref-in-Loop-2.ensures made.alike)) in (
      c.loop-left.invariant.0,
      subst (λ t. Going epoch stored all (nodes_of t) more outputs changes) (sym c.deref-left-in-Loop.ensures)
          (past_loop epoch stored all body rest bound bags more outputs changes here (made.length ∙ ap (λ b. length bags + size b) is) kept),
    )
