use Rattle.std.proofs.Common.{◌≡◌, ◌<◌, length, set, rules, ap, ◌∙◌, to_z, of_z, to_z-of_z}
use Rattle.std.specs.Int.{w128}
use Rattle.td_formula.specs.Environments.{named}
use Rattle.td_formula.specs.Names.{with_name}
use Rattle.td_formula.proofs.Names.{all_set}
use Rattle.td_formula.proofs.environment.Environment.set.Goals as goal

pub returns : goal.returns
unfolding named with_name
returns c =
    let within : c.place.result < length c.self.inside.numbers = search rules in
    let one : named (set c.self.inside.numbers c.place.result (to_z w128 (of_z w128 c.args.number))) ≡ with_name (named c.self.inside.numbers) c.args.name c.args.number =
    λ k x. all_set c.self.inside.numbers c.place.result c.args.name x c.args.number _ c.place.ensures.place (to_z-of_z c.ranges.number) within k in
    one ∙ ap (λ numbers. with_name (named numbers) c.args.name c.args.number) c.self.view_is
