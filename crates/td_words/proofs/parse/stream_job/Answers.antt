use Rattle.std.proofs.Common.{◌≡◌, ◌∙◌, Bool, true, false, refl, sym, ap₂, codes}
use Rattle.clap.specs.Words.{found_of, rows_of, one_of}
use Rattle.td_words.specs.Command.{flag_text, may_hold}
use Rattle.td_words.proofs.Asked.{when_none, some_is}
use Rattle.td_words.proofs.StreamAsked.{only_stream, same_flag}
use Rattle.td_words.proofs.parse.stream_job.Goals as goal

pub returns-in_err-disk-clause-none : goal.returns-in_err-disk-clause-none
returns-in_err-disk-clause-none c = when_none _ c.from_residual.ensures (λ job h. only_stream (rows_of (found_of c.args.matches.now)) (λ _. ⊥) (λ f has. c.in_err-disk.ensures.none f.0 f.1 has.0) job h)

pub returns-in_err-workers-clause-none : goal.returns-in_err-workers-clause-none
returns-in_err-workers-clause-none c = when_none _ c.from_residual-in_err-workers.ensures (λ job h. only_stream (rows_of (found_of c.args.matches.now)) (λ _. ⊥) (λ f has. c.in_err-workers.ensures.none f.2 has.1) job h)

pub returns-in_err-cut_every-clause-none : goal.returns-in_err-cut_every-clause-none
returns-in_err-cut_every-clause-none c = when_none _ c.from_residual-in_err-cut_every.ensures (λ job h. only_stream (rows_of (found_of c.args.matches.now)) (λ _. ⊥) (λ f has. c.in_err-cut_every.ensures.none f.3 has.2) job h)

pub returns-in_err-most-clause-none : goal.returns-in_err-most-clause-none
returns-in_err-most-clause-none c = when_none _ c.from_residual-in_err-most.ensures (λ job h. only_stream (rows_of (found_of c.args.matches.now)) (λ _. ⊥) (λ f has. c.in_err-most.ensures.none f.4 has.3) job h)

pub returns-in_err-progress-clause-none : goal.returns-in_err-progress-clause-none
returns-in_err-progress-clause-none c = when_none _ c.from_residual-in_err-progress.ensures (λ job h. only_stream (rows_of (found_of c.args.matches.now)) (λ _. ⊥) (λ f has. c.in_err-progress.ensures.none f.5 has.4) job h)

pub returns-in_err-marks-clause-none : goal.returns-in_err-marks-clause-none
returns-in_err-marks-clause-none c = when_none _ c.from_residual-in_err-marks.ensures (λ job h. only_stream (rows_of (found_of c.args.matches.now)) (λ _. ⊥) (λ f has. c.in_err-marks.ensures.none f.6 has.5) job h)

pub returns-in_err-refuse-clause-none : goal.returns-in_err-refuse-clause-none
returns-in_err-refuse-clause-none c = when_none _ c.from_residual-in_err-refuse.ensures (λ job h. only_stream (rows_of (found_of c.args.matches.now)) (λ _. ⊥) (λ f has. c.in_err-refuse.ensures.none f.7 has.6) job h)

pub returns-in_err-at-clause-none : goal.returns-in_err-at-clause-none
returns-in_err-at-clause-none c = when_none _ c.from_residual-in_err-at.ensures (λ job h. only_stream (rows_of (found_of c.args.matches.now)) (λ _. ⊥) (λ f has. c.in_err-at.ensures.none f.8 has.7) job h)

pub returns-in_err-hold-clause-none : goal.returns-in_err-hold-clause-none
returns-in_err-hold-clause-none c = when_none _ c.from_residual-in_err-hold.ensures (λ job h. only_stream (rows_of (found_of c.args.matches.now)) (λ _. ⊥) (λ f has. c.in_err-hold.ensures.none f.9 has.8) job h)

pub returns-in_err-room-clause-none : goal.returns-in_err-room-clause-none
returns-in_err-room-clause-none c = when_none _ c.from_residual-in_err-room.ensures (λ job h. only_stream (rows_of (found_of c.args.matches.now)) (λ _. ⊥) (λ f has. c.in_err-room.ensures.none f.10 has.9) job h)

pub returns-in_err-ask-clause-none : goal.returns-in_err-ask-clause-none
returns-in_err-ask-clause-none c = when_none _ c.from_residual-in_err-ask.ensures (λ job h. only_stream (rows_of (found_of c.args.matches.now)) (λ _. ⊥) (λ f has. c.in_err-ask.ensures.none f.11 has.10) job h)

not_both : (b : Bool) → b ≡ false → b ≡ true → ⊥
not_both true is other = absurd (let no = is in cc)
not_both false is other = absurd (let no = other in cc)

-- outputs cannot be held without marks
pub returns-then-not-may_hold-clause-none : goal.returns-then-not-may_hold-clause-none
returns-then-not-may_hold-clause-none c job h =
    let rows = rows_of (found_of c.args.matches.now) in
    only_stream rows (λ _. ⊥)
    (λ f has.
    let marks : f.6 ≡ c.in_ok-marks.marks = same_flag f.6 c.in_ok-marks.marks (some_is (flag_text f.6) (flag_text c.in_ok-marks.marks) (one_of (codes "marks") rows) has.5 c.in_ok-marks.ensures.some) in
    let hold : f.9 ≡ c.in_ok-hold.hold = same_flag f.9 c.in_ok-hold.hold (some_is (flag_text f.9) (flag_text c.in_ok-hold.hold) (one_of (codes "hold") rows) has.8 c.in_ok-hold.ensures.some) in
    not_both c.may_hold.result c.if-not-may_hold.true (c.may_hold.ensures ∙ sym (ap₂ may_hold marks hold) ∙ has.13)) job h

pub returns-clause-some : goal.returns-clause-some
returns-clause-some c = (refl, (c.in_ok-disk.ensures.some, c.in_ok-workers.ensures.some, c.in_ok-cut_every.ensures.some, c.in_ok-most.ensures.some, c.in_ok-progress.ensures.some, c.in_ok-marks.ensures.some, c.in_ok-refuse.ensures.some, c.in_ok-at.ensures.some, c.in_ok-hold.ensures.some, c.in_ok-room.ensures.some, c.in_ok-ask.ensures.some, c.file_of-status.ensures, c.file_of-copies.ensures, sym c.may_hold.ensures ∙ c.if-not-may_hold.false))
