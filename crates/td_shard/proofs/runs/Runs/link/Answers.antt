use Rattle.std.proofs.Common.{arith, ◌+◌, length, refl}
use Rattle.td_shard.specs.Runs.{part, changed_at, linked_to}
use Rattle.td_shard.proofs.Ordered.{order-set, changed}
use Rattle.td_shard.proofs.Trimmed.{begins-set}
use Rattle.td_shard.proofs.Placed.{placed, viewed, as_changed}
use Rattle.td_shard.proofs.runs.Runs.link.Goals as goal

pub invariant_of-self : goal.invariant_of-self
invariant_of-self c =
    let at = placed c.self.inside c.args.self.now c.args.place c.index_mut-run.result.now c.self.invariant c.self.view_is c.requires c.index_mut-run.ensures.value in
    let was = c.self.invariant in
    let m = c.self.inside in
    let r = c.index_mut-run.result.now in
    record {
      ordered = order-set m.start (m.start + length m.recs.items) m.runs.items c.args.place r (record r { ahead = c.args.ahead }) r at.within c.index_mut-run.ensures.value (omega arith) at.where_it.some refl was.ordered;
      begins = begins-set m.start (length m.recs.items) (length m.recs.items) m.runs.items c.args.place r (record r { ahead = c.args.ahead }) r at.within c.index_mut-run.ensures.value refl was.begins;
      runs_kept = was.runs_kept;
      recs_kept = was.recs_kept;
      numbers = was.numbers;
      rec_numbers = was.rec_numbers;
    }

pub returns : goal.returns
returns c =
    let at = placed c.self.inside c.args.self.now c.args.place c.index_mut-run.result.now c.self.invariant c.self.view_is c.requires c.index_mut-run.ensures.value in
    let m = c.self.inside in
    let r = c.index_mut-run.result.now in
    as_changed (viewed m) c.args.self.now (changed_at (linked_to c.args.ahead) c.args.place) _ c.self.view_is
    (changed (part m.start m.recs.items) (linked_to c.args.ahead) m.runs.items c.args.place r (record r { ahead = c.args.ahead }) r at.within c.index_mut-run.ensures.value refl)
