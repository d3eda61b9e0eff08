use Rattle.std.proofs.Common.{ℕ, ◌==◌, ◌++◌, ◌∷◌, [], List, ap, ◌∙◌, subst}
use Rattle.std.specs.Prelude.{is_none}
use Rattle.std.specs.List.{list_any}
use Rattle.td_batch.specs.Meaning.{Bags, EpochInput, emission}
use Rattle.td_batch.specs.Steps.Emitted.{input_of}
use Rattle.td_batch.specs.Steps.Tree.{nodes_of, reads, AreAlike}
use Rattle.td_batch.proofs.Alike.{alike_then, last_if_read}
use Rattle.td_batch.proofs.rounds.emit.Goals as goal

pub returns-clause-alike : goal.returns-clause-alike
returns-clause-alike g c =
    let epoch : EpochInput = input_of g.L.Law.answers (g.S.KeptStates.states c.args.given.now.states.now) c.args.given.now.batch.now in
    let bags : Bags = c.args.bags.now.items in
    let v = c.args.vertex.now.vertex in
    let want : List ℕ = reads (is_none c.args.before.now) (nodes_of c.args.rest.now) ++ c.args.need.now in
    let sent = emission epoch c.args.before.now bags v in
    let kept : AreAlike want c.keep.new.bags.items (bags ++ c.in_ok-bag.bag ∷ []) =
    subst (λ is_first. AreAlike (reads is_first (nodes_of c.args.rest.now) ++ c.args.need.now) c.keep.new.bags.items (bags ++ c.in_ok-bag.bag ∷ [])) c.is_first.ensures c.in_ok-keep.ensures.alike in
    alike_then want c.keep.new.bags.items (bags ++ c.in_ok-bag.bag ∷ []) (bags ++ sent ∷ []) kept
    (last_if_read want bags c.in_ok-bag.bag sent
    (λ asked. c.in_ok-bag.ensures.read (ap (λ n. list_any (λ s. s == n) want) c.requires.0 ∙ asked) ∙ ap (λ (bs : Bags). emission epoch c.args.before.now bs v) c.as_slice.ensures.value))
