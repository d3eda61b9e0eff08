use Rattle.std.proofs.Common.{◌≡◌, ℕ, ◌+◌, ◌-◌, ◌<◌, ◌*◌, ◌++◌, ◌∷◌, [], suc, List, ap, sym, ◌∙◌, subst, arith, rules, length, length-append, inl, inr}
use Rattle.std.specs.Prelude.{None, is_none}
use Rattle.std.proofs.lemmas.List.{length_push}
use Rattle.td_stamp.specs.declared.values.Rec.{Rec}
use Rattle.td_plan.specs.Tree.{Nodes, size}
use Rattle.td_plan.specs.Tree.Nodes.{block}
use Rattle.td_batch.specs.Meaning.{Bags, EpochInput, emission, turn, turns, over_turns}
use Rattle.td_batch.specs.Quiet.{IsLoopBody}
use Rattle.td_batch.specs.Steps.Emitted.{input_of}
use Rattle.td_batch.specs.Steps.Epoch.{IsInner, weight}
use Rattle.td_batch.specs.Steps.Tree.{nodes_of, reads, AreAlike}
use Rattle.td_batch.proofs.Alike.{alike_same}
use Rattle.td_batch.proofs.Turns.{length-over_turns}
use Rattle.td_batch.proofs.Loops.{Rounding, inside, turn_past, rounding_ends, walk_on}
use Rattle.td_batch.proofs.rounds.+turns.Goals as goal
use Rattle.td_batch.proofs.rounds.+turns.Goals.{go_round-then-is_quiet, go_round-else-is_quiet}

pub go_round-loop-left-preserved : goal.go_round-loop-left-preserved
go_round-loop-left-preserved g t c =
    let epoch : EpochInput = input_of g.L.Law.answers (g.S.KeptStates.states c.args.given.now.states.now) c.args.given.now.batch.now in
    let body : Nodes = nodes_of c.args.body.now in
    let want : List ℕ = reads c.args.is_first (nodes_of c.args.rest.now) ++ c.args.need.now in
    let start : Bags = c.args.bags.now.items in
    let bags : Bags = c.loop-left.bags.items in
    let walked : Bags = c.walk.new.bags.items in
    let collected : Bags = c.loop-left.collected.items in
    let now : Bags = c.collect.new.collected.items in
    let made : Bags = c.in_ok-made.made.items in
    let left : ℕ = c.loop-left.left - 1 in
    let more : c.loop-left.left ≡ suc left = let positive = c.loop-left-test.true in omega (arith, positive) in
    let round : Rounding epoch body want start c.args.bound bags c.loop-left.before collected (suc left) =
    subst (λ m. Rounding epoch body want start c.args.bound bags c.loop-left.before collected m) more c.loop-left.invariant.2 in
    let alike : AreAlike (inside epoch body want start) walked (turn epoch body c.loop-left.before bags) =
    subst (λ xs. AreAlike xs walked (turn epoch body c.loop-left.before bags)) (c.as_slice.ensures.value ∙ c.loop-left.invariant.1) c.in_ok-walk.ensures.alike in
    let slice : c.as_slice-in-loop-left.result.now ≡ made = c.as_slice-in-loop-left.ensures.value in (
      c.loop-left.invariant.0,
      c.loop-left.invariant.1,
      turn_past epoch body want start c.args.bound left c.if-is_quiet.left bags walked c.loop-left.before collected now c.requires.body.0 c.requires.body.1 c.len-first.result c.split_off.new.self.items made c.of-before.result
          c.loop-left.invariant.0 c.in_ok-made.ensures.items c.in_ok-made.ensures.tail c.of-before.ensures round c.in_ok-walk.ensures.length alike
          (c.in_ok-collect.ensures.length ∙ ap (λ (bs : Bags). length bs) slice) (λ i e. c.in_ok-collect.ensures.each i e ∙ ap (λ (bs : Bags). Rattle.td_batch.specs.Meaning.emitted collected i ++ Rattle.td_batch.specs.Meaning.emitted bs i) slice)
          (elim c.if-is_quiet.branch [ go_round-then-is_quiet w ↦ inr (w.left-is, c.is_quiet.ensures w.if-is_quiet.true) | go_round-else-is_quiet w ↦ inl w.left-is ]),
    )

pub go_round-returns-clause-alike : goal.go_round-returns-clause-alike
go_round-returns-clause-alike g t c =
    let epoch : EpochInput = input_of g.L.Law.answers (g.S.KeptStates.states c.args.given.now.states.now) c.args.given.now.batch.now in
    let body : Nodes = nodes_of c.args.body.now in
    let want : List ℕ = reads c.args.is_first (nodes_of c.args.rest.now) ++ c.args.need.now in
    let start : Bags = c.args.bags.now.items in
    let bags : Bags = c.loop-left.bags.items in
    let collected : Bags = c.loop-left.collected.items in
    let none : c.loop-left.left ≡ 0 = let stopped = c.loop-left-test.false in omega (arith, stopped) in
    let round : Rounding epoch body want start c.args.bound bags c.loop-left.before collected 0 =
    subst (λ m. Rounding epoch body want start c.args.bound bags c.loop-left.before collected m) none c.loop-left.invariant.2 in
    let all : Bags = start ++ over_turns (turns (λ earlier. turn epoch body earlier start) c.args.bound None) (length start) (size body) in
    subst (λ (bs : Bags). AreAlike want bs all) (sym c.in_ok-push_collected.ensures) (rounding_ends epoch body want start c.args.bound bags c.loop-left.before collected round).1

pub go_round-returns-clause-length : goal.go_round-returns-clause-length
go_round-returns-clause-length g t c =
    let epoch : EpochInput = input_of g.L.Law.answers (g.S.KeptStates.states c.args.given.now.states.now) c.args.given.now.batch.now in
    let body : Nodes = nodes_of c.args.body.now in
    let want : List ℕ = reads c.args.is_first (nodes_of c.args.rest.now) ++ c.args.need.now in
    let start : Bags = c.args.bags.now.items in
    let bags : Bags = c.loop-left.bags.items in
    let collected : Bags = c.loop-left.collected.items in
    let none : c.loop-left.left ≡ 0 = let stopped = c.loop-left-test.false in omega (arith, stopped) in
    let round : Rounding epoch body want start c.args.bound bags c.loop-left.before collected 0 =
    subst (λ m. Rounding epoch body want start c.args.bound bags c.loop-left.before collected m) none c.loop-left.invariant.2 in
    ap (λ (bs : Bags). length bs) c.in_ok-push_collected.ensures ∙ (rounding_ends epoch body want start c.args.bound bags c.loop-left.before collected round).0

pub walk-go_round-requires : goal.walk-go_round-requires
walk-go_round-requires g t c κs within =
    let stored = g.C.Closures.stored c.args.given.now.calls.now in
    let n = length c.args.bags.now.items in
    let body : Nodes = nodes_of c.in-Loop.body.value in
    let rest : Nodes = nodes_of c.in-Loop.rest.value in
    let here : IsInner stored n (block c.in-Loop.bound body rest) = subst (λ x. IsInner stored n (nodes_of x)) c.in-Loop.is c.requires in
    let is : nodes_of c.deref-in-Loop.result.now ≡ body = ap nodes_of c.deref-in-Loop.ensures in (
      (let d : 2 * weight (nodes_of c.args.nodes.now) ≡ t = c.decreases in let e : weight (nodes_of c.args.nodes.now) ≡ 1 + weight body + weight rest = ap (λ x. weight (nodes_of x)) c.in-Loop.is in
          let b : weight (nodes_of c.deref-in-Loop.result.now) ≡ weight body = ap weight is in
          let f : 2 * weight (nodes_of c.deref-in-Loop.result.now) + 1 < t = omega (arith, d, e, b) in f),
      (search rules, (search rules, (search rules, ((here.1.0, subst (IsLoopBody here.1.0 n) (sym is) here.1.1), (subst (IsInner stored n) (sym is) here.2, here.0))))),
    )

pub walk-returns-in-Done-clause-alike : goal.walk-returns-in-Done-clause-alike
walk-returns-in-Done-clause-alike g t c =
    let epoch : EpochInput = input_of g.L.Law.answers (g.S.KeptStates.states c.args.given.now.states.now) c.args.given.now.batch.now in
    let bags : Bags = c.args.bags.now.items in
    alike_same c.args.need.now bags (turn epoch (nodes_of c.args.nodes.now) c.args.before.now bags) (sym (ap (λ n. turn epoch (nodes_of n) c.args.before.now bags) c.in-Done.is))

pub walk-returns-in_ok-walk-in-Then-clause-alike : goal.walk-returns-in_ok-walk-in-Then-clause-alike
walk-returns-in_ok-walk-in-Then-clause-alike g t c =
    let epoch : EpochInput = input_of g.L.Law.answers (g.S.KeptStates.states c.args.given.now.states.now) c.args.given.now.batch.now in
    let bags : Bags = c.args.bags.now.items in
    let need = c.args.need.now in
    let before = c.args.before.now in
    let v = c.in-Then.vertex.vertex in
    let rest : Nodes = nodes_of c.in-Then.rest.value in
    let kept : Bags = c.emit.new.bags.items in
    let last : Bags = c.walk.new.bags.items in
    let sent : List Rec = emission epoch before bags v in
    let alike : AreAlike (reads (is_none before) rest ++ need) kept (bags ++ sent ∷ []) =
    subst (λ n. AreAlike (reads (is_none before) (nodes_of n) ++ need) kept (bags ++ sent ∷ [])) c.deref.ensures c.in_ok-emit-in-Then.ensures.alike in
    let on : AreAlike need last (turn epoch rest before kept) = subst (λ n. AreAlike need last (turn epoch (nodes_of n) before kept)) c.deref-in-Then.ensures c.in_ok-walk-in-Then.ensures.alike in
    subst (λ n. AreAlike need last (turn epoch (nodes_of n) before bags)) (sym c.in-Then.is)
    (walk_on epoch rest need before kept (bags ++ sent ∷ []) last (c.in_ok-emit-in-Then.ensures.length ∙ sym (length_push bags sent)) alike on)

pub walk-returns-in_ok-walk-in-Loop-clause-alike : goal.walk-returns-in_ok-walk-in-Loop-clause-alike
walk-returns-in_ok-walk-in-Loop-clause-alike g t c =
    let epoch : EpochInput = input_of g.L.Law.answers (g.S.KeptStates.states c.args.given.now.states.now) c.args.given.now.batch.now in
    let bags : Bags = c.args.bags.now.items in
    let need = c.args.need.now in
    let before = c.args.before.now in
    let bound = c.in-Loop.bound in
    let body : Nodes = nodes_of c.in-Loop.body.value in
    let rest : Nodes = nodes_of c.in-Loop.rest.value in
    let kept : Bags = c.go_round.new.bags.items in
    let last : Bags = c.walk-in-Loop.new.bags.items in
    let over : Nodes → Bags = λ b. over_turns (turns (λ earlier. turn epoch b earlier bags) bound None) (length bags) (size b) in
    let is : nodes_of c.deref-in-Loop.result.now ≡ body = ap nodes_of c.deref-in-Loop.ensures in
    let long : length kept ≡ length (bags ++ over body) =
    c.in_ok-go_round-in-Loop.ensures.length ∙ ap (λ b. length bags + size b) is ∙ sym (length-append bags (over body) ∙ ap (λ m. length bags + m) (length-over_turns (turns (λ earlier. turn epoch body earlier bags) bound None) (length bags) (size body))) in
    let alike : AreAlike (reads (is_none before) rest ++ need) kept (bags ++ over body) =
    subst (λ b. AreAlike (reads (is_none before) rest ++ need) kept (bags ++ over b)) is
    (subst (λ r. AreAlike (reads (is_none before) (nodes_of r) ++ need) kept (bags ++ over (nodes_of c.deref-in-Loop.result.now))) c.deref-in-Loop-2.ensures
    (subst (λ f. AreAlike (reads f (nodes_of c.deref-in-Loop-2.result.now) ++ need) kept (bags ++ over (nodes_of c.deref-in-Loop.result.now))) c.is_first.ensures c.in_ok-go_round-in-Loop.ensures.alike)) in
    let on : AreAlike need last (turn epoch rest before kept) = subst (λ r. AreAlike need last (turn epoch (nodes_of r) before kept)) c.deref-in-Loop-3.ensures c.in_ok-walk-in-Loop.ensures.alike in
    subst (λ x. AreAlike need last (turn epoch (nodes_of x) before bags)) (sym c.in-Loop.is) (walk_on epoch rest need before kept (bags ++ over body) last long alike on)
