use Rattle.std.proofs.Common.{[], ◌∷◌, refl, ap, subst, sym}
use Rattle.std.specs.Prelude.{Option, List, Some, None}
use Rattle.td_store.specs.standing.Tells.{first_head}
use Rattle.td_orders.specs.Noted.Aside.{to_copy}
use Rattle.td_feed.specs.Said.{copied_line, not_copied_line}
use Rattle.td_feed.specs.Copied.{Copied, why_text}
use Rattle.td_feed.specs.Session.{FeedsCopying}
use Rattle.td_feed.proofs.Lines.{says_copied, says_not_copied}
use Rattle.td_feed.proofs.Sessions.{fed_line, fed_uncopied}
use Rattle.td_feed.proofs.Copies.{one_made}
use Rattle.td_feed.proofs.copy.copy_aloud.Goals as goal

pub returns-in-Ok-clause-fed : goal.returns-in-Ok-clause-fed
returns-in-Ok-clause-fed g c marks =
    let view = g.D.Disk.view in
    let answers = g.L.Law.answers in
    let k = c.args.keeper.now in
    let name = c.args.copy.now.name in
    let shape = c.args.copy.now.shape in
    let epoch = c.in-Ok.epoch in
    let made = c.in-Ok.ensures.copied in
    record {
      done = to_copy name shape (Some epoch) ∷ [];
      came = refl;
      fed = fed_line c.say_copied.result (copied_line name epoch) (to_copy name shape (Some epoch) ∷ []) c.requires.whole
          (says_copied view answers marks (g.W.Sink.contents c.args.writer.now) (g.W.Sink.contents c.say_copied.new.writer) name shape epoch k)
          c.say_copied.ensures.said c.say_copied.ensures.unsaid (λ same. ap g.W.Sink.contents same);
      copied = one_made view g.H.New.Disk.view answers name epoch made.1.0 (g.H.Host.copies c.args.host.now) (g.H.Host.copies c.copied.new.host) k (first_head shape) 0
          (λ image tells. c.told_in_parts.ensures.together k.plan (first_head shape) 0 k.standing image tells) made.1.1 made.0 made.1.2;
    }

pub returns-in-Err-clause-fed : goal.returns-in-Err-clause-fed
returns-in-Err-clause-fed g c marks =
    let k = c.args.keeper.now in
    let name = c.args.copy.now.name in
    let shape = c.args.copy.now.shape in
    let why = why_text c.in-Err.why in
    let u = g.W.Sink.contents c.args.writer.now in
    let v = g.W.Sink.contents c.say_not_copied.new.writer in
    let had = g.H.Host.copies c.args.host.now in
    subst (λ (has : Option (List (Copied g.row.H-New.Denot))). FeedsCopying g.D.Disk.view g.L.Law.answers marks g.H.New.Disk.view c.say_not_copied.result u v had has k k [] (to_copy name shape None ∷ [])) (sym c.in-Err.ensures.none)
    (fed_uncopied (to_copy name shape None ∷ []) refl refl
    (fed_line c.say_not_copied.result (not_copied_line name why) (to_copy name shape None ∷ []) c.requires.whole
    (says_not_copied g.D.Disk.view g.L.Law.answers marks u v name shape why k)
    c.say_not_copied.ensures.said c.say_not_copied.ensures.unsaid (λ same. ap g.W.Sink.contents same)))
