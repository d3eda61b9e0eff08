use Rattle.std.proofs.Common.{◌≡◌, ◌==◌, eqb-true, ℕ, Bool, true, false, List, refl, sym, ap, ◌∙◌, subst}
use Rattle.std.specs.Prelude.{Option, option_map}
use Rattle.td_plan.specs.Lines.{Line}
use Rattle.td_store.specs.standing.Standing.{last_epoch, last_request}
use Rattle.td_orders.specs.Scripts.{Script, is_given, script_of}
use Rattle.td_orders.specs.Lines.{has_overlong}
use Rattle.td_orders.specs.Placed.{placed}
use Rattle.td_feed.specs.Served.{Serves}
use Rattle.td_feed.specs.Session.{limit_of, pace_of, asked_at}
use Rattle.td_feed.proofs.Placed.{made_twice}
use Rattle.td_feed.proofs.session.Session.serve_lines.Goals as goal

-- epochs are refused where there is a limit
given_where : (refuse : Bool) (records : ℕ) → is_given (limit_of refuse records) ≡ refuse
given_where true records = refl
given_where false records = refl

-- more than one worker
not_one : (n : ℕ) → (n ≡ 1 → ⊥) → (n == 1) ≡ false
not_one n several = by (n == 1) refl
  where
    by : (b : Bool) → (n == 1) ≡ b → b ≡ false
    by true is = absurd (several (eqb-true n 1 is))
    by false is = refl

-- the script at the keeper's disk
module _ (placing hold questions copies refuse : Bool) (records told last : ℕ) (plan : List Line) (input : Option (List ℕ)) where
  abbrev script_at_disk : List ℕ → Script
  script_at_disk text = placed refuse told last (script_of placing hold questions copies (limit_of refuse records) plan text)

  made_at_disk : (limit : Option ℕ) (refuses : Bool) (made : Option Script) → limit ≡ limit_of refuse records → refuses ≡ is_given limit
      → made ≡ option_map (script_of placing hold questions copies limit plan) input → option_map (placed refuses told last) made ≡ option_map script_at_disk input
  made_at_disk limit refuses made is given from =
      let read : Option ℕ → List ℕ → Script = λ l. script_of placing hold questions copies l plan in
      (λ i. option_map (placed ((given ∙ ap is_given is ∙ given_where refuse records) i) told last) ((from ∙ ap (λ (l : Option ℕ). option_map (read l) input) is) i))
      ∙ made_twice (read (limit_of refuse records)) (placed refuse told last) input (option_map (read (limit_of refuse records)) input) refl

pub returns-then-self-eq1 : goal.returns-then-self-eq1
returns-then-self-eq1 g c =
    let k = c.args.keeper in
    let o = c.args.options in
    let input = g.I.Source.remaining c.args.reader in
    let served = c.serve_alone.result in
    let made = made_at_disk o.placing o.hold o.questions o.copies o.refuse k.head.shape.m (last_epoch k.standing) (last_request k.standing) c.args.self.now.plan.now input c.limit_of-limit.result _ _ c.limit_of-limit.ensures c.new-orders.ensures.refuses c.new-orders.ensures.script in
    let serves : Bool → Bool → Option Script → Type 0 = λ alone overlong script. Serves g.D.Disk.view g.L.Law.answers g.W.Voice.marks g.W.Sink.contents g.W.Sink.HasRoom g.H.New.Disk.view g.H.Host.copies g.H.Host.seen
    alone (pace_of o) overlong script served.ended k served.keeper c.args.writer served.writer c.args.host served.host in
    subst (λ (alone : Bool). serves alone (has_overlong input) (option_map (asked_at o c.args.self.now.plan.now k) input)) (sym (ap (λ (n : ℕ). n == 1) c.if-self-eq1.true))
    (subst (λ (rest : Option (List ℕ)). serves true (has_overlong rest) (option_map (asked_at o c.args.self.now.plan.now k) input)) c.new-orders.ensures.rest
    (subst (serves true (has_overlong c.new-orders.result.rest)) made c.serve_alone.ensures))

pub returns-else-self-eq1 : goal.returns-else-self-eq1
returns-else-self-eq1 g c =
    let k = c.args.keeper in
    let o = c.args.options in
    let input = g.I.Source.remaining c.args.reader in
    let served = c.serve_by_workers.result in
    let made = made_at_disk o.placing o.hold o.questions o.copies o.refuse k.head.shape.m (last_epoch k.standing) (last_request k.standing) c.args.self.now.plan.now input c.limit_of-limit.result _ _ c.limit_of-limit.ensures c.new-orders.ensures.refuses c.new-orders.ensures.script in
    let serves : Bool → Bool → Option Script → Type 0 = λ alone overlong script. Serves g.D.Disk.view g.L.Law.answers g.W.Voice.marks g.W.Sink.contents g.W.Sink.HasRoom g.H.New.Disk.view g.H.Host.copies g.H.Host.seen
    alone (pace_of o) overlong script served.ended k served.keeper c.args.writer served.writer c.args.host served.host in
    subst (λ (alone : Bool). serves alone (has_overlong input) (option_map (asked_at o c.args.self.now.plan.now k) input)) (sym (not_one c.args.self.now.workers c.if-self-eq1.false))
    (subst (λ (rest : Option (List ℕ)). serves false (has_overlong rest) (option_map (asked_at o c.args.self.now.plan.now k) input)) c.new-orders.ensures.rest
    (subst (serves false (has_overlong c.new-orders.result.rest)) made c.serve_by_workers.ensures))
