use Rattle.std.proofs.Common.{◌≡◌, ◌<◌, refl, ℕ, ◌==◌, false, All, List, length, sym, ap, subst, ◌∙◌}
use Rattle.td_orders.specs.Lines.{unread}
use Rattle.td_orders.proofs.Lines.{found, found_last, overlong_of, whole_overlong, begun_overlong}
use Rattle.td_orders.proofs.line_reader.Lines.next_line.Goals as goal

pub returns-then-end-clause-line : goal.returns-then-end-clause-line
returns-then-end-clause-line g c = found (g.I.Source.remaining c.loop-read.self.reader) c.loop-read.self.unread c.in-Some.end c.in-Some.ensures.some

pub returns-else-begun-eq0-clause-line : goal.returns-else-begun-eq0-clause-line
returns-else-begun-eq0-clause-line g c =
    let bytes = c.is_at_end.new.self.unread in
    let end = c.in_ok-is_at_end.ensures.ended c.if-branch.true in
    let size : length c.as_slice-begun.result.now ≡ length bytes = ap length (c.as_slice-begun.ensures ∙ sym end.1) in
    found_last (g.I.Source.remaining c.is_at_end.new.self.reader) bytes (length c.as_slice-begun.result.now) end.0 (subst (λ (l : List ℕ). All (λ b. (b == 10) ≡ false) l) (sym end.1) c.in_default.ensures.none) size (λ none. c.if-begun-eq0.false (size ∙ ap length none))

pub returns-else-end-clause-overlong : goal.returns-else-end-clause-overlong
returns-else-end-clause-overlong g c =
    let remaining = g.I.Source.remaining in
    let now = c.loop-read.self in (
      refl,
      overlong_of (unread (remaining c.args.self.now.reader) c.args.self.now.unread) (unread (remaining now.reader) now.unread) c.loop-read.invariant
          (whole_overlong (remaining now.reader) now.unread c.in-Some.end c.in-Some.ensures.some c.if-end.false),
    )

pub returns-then-begun-gt-LINE-clause-overlong : goal.returns-then-begun-gt-LINE-clause-overlong
returns-then-begun-gt-LINE-clause-overlong g c =
    let remaining = g.I.Source.remaining in
    let now = c.loop-read.self in
    let long = subst (λ (l : List ℕ). 4096 < length l) c.as_slice-begun.ensures c.if-begun-gt-LINE.true in (
      refl,
      overlong_of (unread (remaining c.args.self.now.reader) c.args.self.now.unread) (unread (remaining now.reader) now.unread) c.loop-read.invariant
          (begun_overlong (remaining now.reader) now.unread c.in_default.ensures.none long),
    )
