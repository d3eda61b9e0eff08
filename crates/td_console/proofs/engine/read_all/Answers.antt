use Rattle.std.proofs.Common.{◌≡◌, ◌+◌, ◌-◌, ◌^◌, ◌++◌, subst, arith, take, length, length-append, ap, sym, ◌∙◌}
use Rattle.std.specs.Result.{is_ok}
use Rattle.std.specs.Io.KnownBytes.{Consumes}
use Rattle.td_console.proofs.ReadOn.{consumed_on, consumed_still, left_suc, goes_on, appended}
use Rattle.td_console.proofs.engine.read_all.Goals.{in-Ok+else-is_err, in-Err+else-ne}
use Rattle.td_console.proofs.engine.read_all.Goals as goal

pub returns-then-ne-clause-steady : goal.returns-then-ne-clause-steady
returns-then-ne-clause-steady g c =
    λ e. let room = c.loop-read.invariant.room in
    let interrupted = (c.in-Err.ensures.steady (2 ^ 32 - (c.loop-read.read + 1)) (subst (g.R.Source.EndsWithin c.loop-read.reader) (left_suc c.loop-read.read c.loop-read-test.true) (c.loop-read.invariant.steady e)) (omega arith)).0 in
    let is = c.kind.ensures ∙ interrupted in
    let no = sym c.if-ne.true ∙ (rw is at c.ne.ensures) in
    cc

pub loop-read-preserved : goal.loop-read-preserved
loop-read-preserved g c =
    let room = c.loop-read.invariant.room in
    let few = c.loop-read.invariant.few in
    let buf = c.read_piece.auto.buf in
    elim c.match-read_piece.branch [
      | in-Ok+else-is_err w ↦
          let got = take w.in-Ok.n c.read_piece.new.buf in
          let items : c.match-read_piece.bytes.items ≡ c.loop-read.bytes.items ++ got =
          (λ i. (w.bytes-is i).items) ∙ appended (is_ok w.extend_from_slice.result) w.extend_from_slice.new.self.items c.loop-read.bytes.items got w.extend_from_slice.ensures.items w.if-is_err.ensures.negation in
          let size : length c.match-read_piece.bytes.items ≡ length c.loop-read.bytes.items + length got = ap length items ∙ length-append c.loop-read.bytes.items got in
          let bound = w.in-Ok.ensures.bound.0 in
          let bound_is = w.in-Ok.ensures.bound.1 in
          record {
            so_far =
                subst (Consumes (g.R.Source.remaining c.args.reader.now) (g.R.Source.remaining c.read_piece.new.self)) (sym items)
                (consumed_on (g.R.Source.remaining c.args.reader.now) (g.R.Source.remaining c.loop-read.reader) (g.R.Source.remaining c.read_piece.new.self) c.loop-read.bytes.items got c.loop-read.invariant.so_far w.in-Ok.ensures.bytes.0);
            steady = λ e. goes_on w.in-Ok.n w.in-Ok.n-test.1 (w.in-Ok.ensures.steady (2 ^ 32 - (c.loop-read.read + 1)) (subst (g.R.Source.EndsWithin c.loop-read.reader) (left_suc c.loop-read.read c.loop-read-test.true) (c.loop-read.invariant.steady e)) (omega arith));
            room = buf ∙ room;
            few = omega arith;
          }
      | in-Err+else-ne w ↦
          let same : c.match-read_piece.bytes.items ≡ c.loop-read.bytes.items = λ i. (w.bytes-is i).items in
          let size : length c.match-read_piece.bytes.items ≡ length c.loop-read.bytes.items = ap length same in
          record {
            so_far =
                subst (Consumes (g.R.Source.remaining c.args.reader.now) (g.R.Source.remaining c.read_piece.new.self)) (sym same)
                (consumed_still (g.R.Source.remaining c.args.reader.now) (g.R.Source.remaining c.loop-read.reader) (g.R.Source.remaining c.read_piece.new.self) c.loop-read.bytes.items c.loop-read.invariant.so_far w.in-Err.ensures.bytes);
            steady = λ e. (w.in-Err.ensures.steady (2 ^ 32 - (c.loop-read.read + 1)) (subst (g.R.Source.EndsWithin c.loop-read.reader) (left_suc c.loop-read.read c.loop-read-test.true) (c.loop-read.invariant.steady e)) (omega arith)).1;
            room = buf ∙ room;
            few = omega arith;
          }
    ]
