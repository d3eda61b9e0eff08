use Rattle.std.proofs.Common.{◌∙◌, None, sym, lit<}
use Rattle.std.proofs.lemmas.Str.Pattern.{strip_prefix_char}
use Rattle.td_orders.proofs.Excerpts.{without_minus}
use Rattle.td_orders.proofs.excerpt.is_too_large_value.Goals as goal

pub returns-in-None : goal.returns-in-None
returns-in-None c = c.is_too_large-in-None.ensures ∙ sym (without_minus c.args.word.now (strip_prefix_char 45 c.args.word.now None c.in-None.ensures.cases (lit< tt)))
