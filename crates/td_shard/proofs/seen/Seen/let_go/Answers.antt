use Rattle.std.proofs.Common.{rules, ap, ◌∙◌, nat_lt, filter}
use Rattle.std.proofs.lemmas.Map.Made.{filter_same_pairs}
use Rattle.td_shard.specs.Seen.{seen_of}
use Rattle.td_shard.proofs.Cut.{filter_seen}
use Rattle.td_shard.proofs.seen.Seen.let_go.Goals as goal

pub returns : goal.returns
returns c =
    ap seen_of (filter_same_pairs _ (λ e. nat_lt c.args.epoch e.0.time.epoch) _ (λ k v b w f' t. search rules) c.self.inside.sets.entries _ c.retain.ensures.filtered)
    ∙ (filter_seen c.args.epoch c.self.inside.sets.entries ∙ ap (filter (λ x. nat_lt c.args.epoch x.time.epoch)) c.self.view_is)
