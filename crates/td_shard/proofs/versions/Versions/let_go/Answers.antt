use Rattle.std.proofs.Common.{◌∙◌, ap, filter, nat_lt, rules, subst, sym}
use Rattle.td_stamp.specs.Rises.{Rises}
use Rattle.td_shard.specs.Versions.{version_cmp}
use Rattle.td_shard.proofs.KeptVersions.{let_go-left}
use Rattle.td_shard.proofs.EachKept.{kept-among, kept-let_go}
use Rattle.td_shard.proofs.versions.Versions.let_go.Goals as goal

pub retain-requires : goal.retain-requires
retain-requires c = record {
  at = λ before after f k v is runs key value key-is value-is.
      let rises : Rises version_cmp value.now.items =
      subst (λ l. Rises version_cmp l.items) (sym value-is) (kept-among (λ w. w.items) c.self.inside.versions.entries before after k v c.self.invariant.1 is).1 in
      search rules;
}

pub returns : goal.returns
returns c =
    let_go-left (λ v. v.items) c.version_laws.ensures c.args.epoch _ _ (λ k v b w after t. search rules) c.self.inside.versions.entries c.retain.new.self.entries c.retain.ensures.filtered
    ∙ ap (filter (λ x. nat_lt c.args.epoch x.epoch)) c.self.view_is

pub invariant_of-self : goal.invariant_of-self
invariant_of-self c = (
  search rules,
  kept-let_go (λ v. v.items) _ _ (λ x. nat_lt c.args.epoch x.epoch) (λ k v b w after t. search rules) c.self.inside.versions.entries c.retain.new.self.entries c.self.invariant.1 c.retain.ensures.filtered,
)
