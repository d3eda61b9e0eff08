use Rattle.std.proofs.Common.{rules, ap, sym, ◌∙◌, nat_lt}
use Rattle.std.proofs.lemmas.Map.Made.{filter_same_pairs}
use Rattle.td_core.specs.Came.{came, later_than}
use Rattle.td_core.proofs.CameLists.{those}
use Rattle.td_core.proofs.collect.Outputs.let_go.Goals as goal

pub returns : goal.returns
returns c =
    ap (came (λ v. v.items)) (filter_same_pairs _ (λ e. nat_lt c.args.epoch e.0) _ (λ k v b w f' t. search rules) c.self.inside.epochs.entries _ c.retain.ensures.filtered)
    ∙ (sym (those c.bags_of_states.ensures.outputs (λ v. v.items) (nat_lt c.args.epoch) c.self.inside.epochs.entries) ∙ ap (later_than c.args.epoch) c.self.view_is)
