use Rattle.std.proofs.Common.{ap, sym, ◌∙◌, is_some}
use Rattle.td_console.proofs.Wide.{read_ascii}
use Rattle.td_console.proofs.parts.ascii_text.Goals as goal

pub returns-then-is_ascii-clause-ascii : goal.returns-then-is_ascii-clause-ascii
returns-then-is_ascii-clause-ascii c = ap is_some c.ok.ensures.value ∙ read_ascii c.args.bytes.now _ _ c.from_utf8.result (sym c.is_ascii.ensures ∙ c.if-is_ascii.true) c.from_utf8.ensures.cases
