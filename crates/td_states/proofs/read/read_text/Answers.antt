use Rattle.std.proofs.Common.{◌≡◌, ◌⊎◌, inl, inr, ◌+◌, refl, sym, ◌∙◌, subst, arith, List, ℕ, Err}
use Rattle.td_plan.specs.Text.{text_lines}
use Rattle.td_states.specs.declared.error.StatesError.{StatesError}
use Rattle.td_states.specs.declared.error.StatesError.TheVariants.{Memory}
use Rattle.td_states.specs.Lines.{line_of}
use Rattle.td_states.specs.Spelled.{StatesTextFault}
use Rattle.td_states.specs.Steps.{with_line, IsReadUpTo}
use Rattle.td_states.proofs.ReadOn.{line_more, told_fault}
use Rattle.td_states.proofs.Refused.{if_err}
use Rattle.td_states.proofs.read.read_text.Goals as goal

pub returns-in_err-read-clause-fault : goal.returns-in_err-read-clause-fault
returns-in_err-read-clause-fault c =
    let plan = c.args.plan.now in
    let renames = c.args.renames.now in
    let text = c.args.text.now in
    let folds = c.in_ok-folds.folds.items in
    let line = c.in-Some.line.now in
    let rest = text_lines c.in-Some.others.now in
    let n = c.loop-line.number in
    let read = c.loop-line.read in
    let e = c.in_err-read.field-0.0 in
    let so_far = subst (λ (lines : List (List ℕ)). IsReadUpTo folds renames (text_lines text) lines n read) c.in-Some.ensures.lines c.loop-line.invariant.so_far in
    let same : with_line folds renames (n + 1) read (line_of line) ≡ with_line c.deref.result.now renames (n + 1) read c.read_line.result =
    λ i. with_line (sym c.deref.ensures.value i) renames (n + 1) read (sym c.read_line.ensures i) in
    let by : (e ≡ Memory) ⊎ (with_line c.deref.result.now renames (n + 1) read c.read_line.result ≡ Err e) → (e ≡ Memory) ⊎ StatesTextFault plan renames text e =
    λ why. elim why [ inl memory ↦ inl memory | inr w ↦ inr (told_fault plan renames text folds c.in_ok-folds.ensures line rest n read so_far e (same ∙ w)) ] in
    if_err c.from_residual-in_err-read.result (λ (f : StatesError). f ≡ e) (λ (f : StatesError). (f ≡ Memory) ⊎ StatesTextFault plan renames text f) c.from_residual-in_err-read.ensures.1
    (λ f is. subst (λ (g : StatesError). (g ≡ Memory) ⊎ StatesTextFault plan renames text g) (sym is) (by c.in_err-read.ensures))

pub loop-line-preserved : goal.loop-line-preserved
loop-line-preserved c =
    let renames = c.args.renames.now in
    let text = c.args.text.now in
    let folds = c.in_ok-folds.folds.items in
    let line = c.in-Some.line.now in
    let rest = text_lines c.in-Some.others.now in
    let n = c.loop-line.number in
    let read = c.loop-line.read in
    let so_far = subst (λ (lines : List (List ℕ)). IsReadUpTo folds renames (text_lines text) lines n read) c.in-Some.ensures.lines c.loop-line.invariant.so_far in
    let same : with_line folds renames (n + 1) read (line_of line) ≡ with_line c.deref.result.now renames (n + 1) read c.read_line.result =
    λ i. with_line (sym c.deref.ensures.value i) renames (n + 1) read (sym c.read_line.ensures i) in
    let shorter = c.in-Some.ensures.shorter in
    let bytes = c.loop-line.invariant.bytes in
    record {
      so_far = line_more folds renames (text_lines text) line rest n read so_far (line_of line) refl c.in_ok-read.read (same ∙ c.in_ok-read.ensures);
      bytes = omega (arith, shorter, bytes);
    }
