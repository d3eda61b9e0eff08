use Rattle.std.specs.Prelude.{◌≡◌, ◌-◌, length, Ok}
use Rattle.std.proofs.Common.{sym, ◌∙◌}
use Rattle.td_closures.specs.Kept.{draft_by}
use Rattle.td_closures.proofs.Blank.{blank_text}
use Rattle.td_closures.proofs.draft.Draft.pass_over.Goals as goal

pub returns-clause-ok : goal.returns-clause-ok
returns-clause-ok c =
    let bytes : c.args.self.now.bytes - length c.args.line.now - 1 ≡ c.saturating_sub-self.result = sym c.saturating_sub-self.ensures in
    blank_text (draft_by c.args.self.now) c.args.line.now c.requires (sym c.is_long.ensures ∙ c.if-is_long.false)
    ∙ (λ i. Ok (record (draft_by c.args.self.now) { bytes = bytes i }))
