use Rattle.std.proofs.Common.{◌≡◌, ℕ, ◌+◌, ◌-◌, ◌≤◌, [], map, length, get_or, refl, sym, ◌∙◌, arith}
use Rattle.td_stamp.specs.declared.epoch_out.EpochOut.{EpochOut}
use Rattle.td_plan.specs.Tree.{tree_of}
use Rattle.td_batch.specs.Meaning.{run}
use Rattle.td_batch.specs.Flow.{numbers_from}
use Rattle.td_machine.proofs.History.{no_history}
use Rattle.td_machine.specs.Steps.{opened}
use Rattle.td_machine.specs.Sound.{batches_of}
use Rattle.td_machine.proofs.Played.{play_has, opened_holds}
use Rattle.td_machine.proofs.Confluent.{play_says, numbered_by_epoch, length_outs}
use Rattle.td_machine.proofs.Lawful.{plan_facts, plan_laid}
use Rattle.td_machine.proofs.laws.confluence.Goals as goal

pub returns : goal.returns
returns g c plan states first workers events replies S lawful ordered l m p =
    let below = c.laws_below.ensures in
    let facts = plan_facts below plan lawful in
    let laid = plan_laid below plan lawful in
    let answers = g.L.Law.answers in
    let holds = opened_holds below answers plan states first workers lawful facts ordered l m in
    let r = play_has below answers plan states first workers events replies S lawful facts ordered l m p in
    let says = play_says below answers plan states first events replies [] (opened plan states first workers) no_history S refl facts (below.numbered plan lawful) laid (below.placed plan lawful) holds p in
    let outs = (run answers (tree_of plan) states (batches_of events replies)).outs in
    let n : ℕ = S.collected + 1 - first in
    let start : first - 1 + 1 ≡ first = omega (arith, l) in
    let many : S.collected - (first - 1) ≡ n = omega (arith, l, says.0) in
    let few : n ≤ length outs = let q = length_outs below answers (tree_of plan) (batches_of events replies) states in omega (arith, q, r.1.stands.next, r.1.stands.collected.1) in
    (says.1 ∙ (λ i. map (λ e. let o : EpochOut = record { epoch = e; recs = get_or outs (e - first) [] } in o) (numbers_from (start i) (many i))) ∙ sym (numbered_by_epoch below outs first n few), says.2)
