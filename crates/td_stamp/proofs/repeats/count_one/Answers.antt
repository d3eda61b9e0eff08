use Rattle.std.proofs.Common.{◌≡◌, ap, ◌∙◌, arith}
use Rattle.std.specs.Prelude.{unwrap_or}
use Rattle.std.specs.Map.{lookup}
use Rattle.std.specs.BTreeMap.{is_at}
use Rattle.td_stamp.proofs.Counts.{lookup-members, more_counted}
use Rattle.td_stamp.proofs.repeats.count_one.Goals as goal

pub overflow_add-count : goal.overflow_add-count
overflow_add-count g c =
    let told : c.unwrap_or-count.result ≡ unwrap_or (lookup (is_at (g.T.Ord.cmp c.args.member)) c.args.counts.now.entries) 0 = c.unwrap_or-count.ensures ∙ ap (λ o. unwrap_or o 0) (c.copied.ensures ∙ c.get.ensures.value) in
    omega (arith, told, lookup-members (is_at (g.T.Ord.cmp c.args.member)) c.args.counts.now.entries, c.requires)

pub returns-clause-ok : goal.returns-clause-ok
returns-clause-ok g c =
    more_counted g.T.Ord.cmp g.met.T.Ord.total g.met.T.Member.told_apart 1 c.unwrap_or-count.result c.args.member c.args.counts.now.entries c.insert.new.self.entries c.in_ok-insert.ensures.was_ordered
    (c.unwrap_or-count.ensures ∙ ap (λ o. unwrap_or o 0) (c.copied.ensures ∙ c.get.ensures.value)) c.in_ok-insert.ensures.entries
