use Rattle.std.proofs.Common.{◌≡◌, ◌+◌, get_or, map, ap, sym, ◌∙◌, subst, rules}
use Rattle.td_core.specs.declared.hall.Parts.{Parts}
use Rattle.td_core.specs.Posted.{mails, waits}
use Rattle.td_core.specs.Taking.{IsChosen, IsThere, mails_without, room_of}
use Rattle.td_core.proofs.Picking.{is_there}
use Rattle.td_core.proofs.take.take_there.Goals as goal

pub remove-requires-clause-there : goal.remove-requires-clause-there
remove-requires-clause-there c d =
    subst (λ ss. IsThere (get_or ss c.args.shard d) c.in-Some.candidate) (sym c.in_ok-candidate.ensures.same.shards)
    (is_there c.args.parts.now.table (get_or c.args.parts.now.shards.items c.args.shard d) c.args.pick c.in-Some.candidate
    ((subst (IsChosen c.args.shard c.args.pick c.args.parts.now) c.in-Some.is c.in_ok-candidate.ensures.chosen).0 d).0)

pub returns-clause-taken : goal.returns-clause-taken
returns-clause-taken c =
    let found = subst (IsChosen c.args.shard c.args.pick c.args.parts.now) c.in-Some.is c.in_ok-candidate.ensures.chosen in
    let same = c.in_ok-candidate.ensures.same in
    let out : c.chosen.new.parts.out.items ≡ c.args.parts.now.out.items = ap (λ (p : Parts). p.out.items) same.fields in (
      c.in-Some.candidate,
      found.0,
      record {
        fields = ap (λ (p : Parts). let q : Parts = record p { shards = c.remove.new.shards; out = c.push_reserved.new.self; taken = p.taken + 1 } in q) same.fields;
        out = search rules;
        mails = c.remove.ensures.mails ∙ ap (λ ss. mails_without c.in-Some.candidate c.args.shard (mails ss)) same.shards;
        waiting = c.remove.ensures.waiting ∙ ap waits same.shards;
        room = c.remove.ensures.room ∙ ap (map room_of) same.shards;
      },
      found.1,
    )
