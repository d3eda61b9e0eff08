-- What the reader's closures, lines and drafts stand for.
use Rattle.std.specs.Prelude.{◌≡◌, ◌⊎◌, List, map, Option, option_map, Result, Ok, Err}
use Rattle.std.specs.Borrow.{Bor}
use Rattle.td_formula.specs.declared.expression.Expression.{Expression}
use Rattle.td_formula.specs.declared.expression.Name.{Name}
use Rattle.td_formula.specs.declared.closure.Assignment.{Assignment}
use Rattle.td_formula.specs.declared.closure.Pair.{Pair}
use Rattle.td_formula.specs.declared.closure.Closure.{Closure}
use Rattle.td_closures.specs.declared.token.Token.{Token}
use Rattle.td_closures.specs.declared.fault.Wrong.{Wrong}
use Rattle.td_closures.specs.declared.fault.Wrong.TheVariants.{Memory}
use Rattle.td_closures.specs.declared.fault.Fault.{Fault}
use Rattle.td_closures.specs.declared.line.WrittenLine.{WrittenLine}
use Rattle.td_closures.specs.declared.line.WrittenLine.TheVariants as written
use Rattle.td_closures.specs.declared.draft.Draft.{Draft as KeptDraft}
use Rattle.td_closures.specs.Phrase.{Phrase, tree_of}
use Rattle.td_closures.specs.Lines.{Assigned, Paired, Line}
use Rattle.td_closures.specs.Lines.Line.{head, lets, item, each, send, keep}
use Rattle.td_closures.specs.Drafts.{Said, Draft}

abbrev pub assigned_by : Assignment → Assigned
assigned_by a = record { name = a.name; value = tree_of a.value; when = tree_of a.when }

abbrev pub paired_by : Pair → Paired
paired_by p = record { first = tree_of p.first; second = tree_of p.second; when = tree_of p.when }

abbrev pub said_by : Closure → Said
said_by c = record {
  kind = c.kind;
  code = c.code;
  lets = map assigned_by c.lets.items;
  changes = map assigned_by c.changes.items;
  each = map paired_by c.each.items;
  sends = map paired_by c.sends.items;
  keep = paired_by c.keep;
}

abbrev pub line_by : WrittenLine → Line
line_by (written.Head kind code) = head kind code
line_by (written.Let cs) = lets (map assigned_by cs.items)
line_by (written.Item cs) = item (map assigned_by cs.items)
line_by (written.Each p) = each (paired_by p)
line_by (written.Send p) = send (paired_by p)
line_by (written.Keep p) = keep (paired_by p)

abbrev pub draft_by : KeptDraft → Draft
draft_by d = record {
  done = map said_by d.done.items;
  last = option_map said_by d.last;
  kept = d.kept;
  registers = d.registers;
  bytes = d.bytes;
  nodes = d.nodes;
}

-- with the tokens that follow
abbrev pub expression_by : (Expression × Bor (List Token)) → (Phrase × List Token)
expression_by r = (tree_of r.0, r.1.now)

abbrev pub name_by : (Name × Bor (List Token)) → (Name × List Token)
name_by r = (r.0, r.1.now)

abbrev pub next_by : Option (Bor (List Token)) → Option (List Token)
next_by o = option_map (λ r. r.now) o

abbrev pub change_by : (Assignment × Bor (List Token)) → (Assigned × List Token)
change_by r = (assigned_by r.0, r.1.now)

-- a call answered this, or was refused a growth
abbrev pub Answers : {A B : Type 0} → (A → B) → Result A Wrong → Result B Wrong → Type 0
Answers by (Ok x) wanted = wanted ≡ Ok (by x)
Answers by (Err w) wanted = (w ≡ Memory) ⊎ (wanted ≡ Err w)

-- a call left this where something was, or was refused a growth
abbrev pub Leaves : {A B : Type 0} → B → Result A Wrong → Result B Wrong → Type 0
Leaves left (Ok x) wanted = wanted ≡ Ok left
Leaves left (Err w) wanted = (w ≡ Memory) ⊎ (wanted ≡ Err w)

abbrev pub LeavesText : {A B : Type 0} → B → Result A Fault → Result B Fault → Type 0
LeavesText left (Ok x) wanted = wanted ≡ Ok left
LeavesText left (Err e) wanted = (e.wrong ≡ Memory) ⊎ (wanted ≡ Err e)

abbrev pub AnswersText : {A B : Type 0} → (A → B) → Result A Fault → Result B Fault → Type 0
AnswersText by (Ok x) wanted = wanted ≡ Ok (by x)
AnswersText by (Err e) wanted = (e.wrong ≡ Memory) ⊎ (wanted ≡ Err e)
